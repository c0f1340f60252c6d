use Rattle.std.proofs.Common.{◌≡◌, ℕ, ◌+◌, ◌≤◌, true, false, List, [], ◌++◌, length, take, drop, Option, Some, Ok, Err, ap, sym, ◌∙◌}
use Rattle.std.proofs.Common.{refl, append-nil, take-append-drop, take-add, arith, ◌-◌, length-drop}
use Rattle.std.proofs.lemmas.List.{take_all}
use Rattle.desk_io.specs.declared.sink.WriteFault.{WriteFault}
use Rattle.desk_io.specs.SinkLaws.{puts_on, puts_as}
use Rattle.desk_io.specs.Sinks.{Appends, Puts}

-- a write that took the first bytes of a piece wrote these
pub appended : (piece : List ℕ) (old new : Option (List ℕ)) (x y n : ℕ) → Appends piece old new x y (Ok n) → Puts (take n piece) old new x y false
appended piece old new x y n a = record { text = a.bytes; count = a.count; later = a.later }

-- a write that failed wrote none
pub faulted : (piece : List ℕ) (old new : Option (List ℕ)) (x y : ℕ) (e : WriteFault) → Appends piece old new x y (Err e) → Puts piece old new x y true
faulted piece old new x y e a = record { text = λ b is. ([], piece, refl, a.bytes b is ∙ ap Some (sym (append-nil b))); count = a.count; later = a.later }

-- what is left of the bytes, as a slice of them
pub rest_of : (bytes : List ℕ) (done : ℕ) → take (length bytes - done) (drop done bytes) ≡ drop done bytes
rest_of bytes done = take_all _ (drop done bytes) (let l = length-drop done bytes in omega arith)

-- so many bytes are written, and no write failed
pub record PutTo (bytes : List ℕ) (old new : Option (List ℕ)) (before after done : ℕ) : Type 0 where
  pub within : done ≤ length bytes
  pub puts : Puts (take done bytes) old new before after false

pub put_more : (bytes : List ℕ) (a b c : Option (List ℕ)) (x y z done n : ℕ) → PutTo bytes a b x y done → done + n ≤ length bytes →
    Appends (take (length bytes - done) (drop done bytes)) b c y z (Ok n) → PutTo bytes a c x z (done + n)
put_more bytes a b c x y z done n so le one =
    record {
      within = le;
      puts = puts_as (take done bytes ++ take n (drop done bytes)) (take (done + n) bytes) a c x z false
          (puts_on _ _ a b c x y z false so.puts (appended _ b c y z n (rw (rest_of bytes done) at one))) (sym (take-add done n bytes));
    }

pub put_stop : (bytes : List ℕ) (a b c : Option (List ℕ)) (x y z done : ℕ) (e : WriteFault) → PutTo bytes a b x y done →
    Appends (take (length bytes - done) (drop done bytes)) b c y z (Err e) → Puts bytes a c x z true
put_stop bytes a b c x y z done e so one =
    puts_as (take done bytes ++ drop done bytes) bytes a c x z true
    (puts_on _ _ a b c x y z true so.puts (faulted _ b c y z e (rw (rest_of bytes done) at one))) (take-append-drop done bytes)
