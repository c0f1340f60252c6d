-- Reading by pieces.
use Rattle.std.proofs.Common.{◌≡◌, ℕ, ◌+◌, ◌≤◌, ◌<◌, List, [], ◌++◌, length, take, drop, Option, Some, Ok, Err, Vec, ap, sym, ◌∙◌}
use Rattle.std.proofs.Common.{refl, append_assoc, append-nil, take-append-drop, length-append, le_refl, arith}
use Rattle.std.proofs.lemmas.List.{length-take-le}
use Rattle.std.proofs.Math.Seq.{drop-append_seam, drop-append-add, drop-nil}
use Rattle.std.specs.declared.alloc.Global.{Global}
use Rattle.desk_io.specs.declared.source.ReadFault.{ReadFault}
use Rattle.desk_io.specs.declared.reading.ReadRefusal.TheVariants.{Fault, Size, NoMemory}
use Rattle.desk_io.specs.Sources.{GivesBytes, Takes, ReadsAll, BrokeOff, most_bytes}

-- these bytes came from a source, and the rest are left
abbrev pub CameFrom : List ℕ → List ℕ → Option (List ℕ) → Type 0
CameFrom bytes came left = (rest : List ℕ) × (bytes ≡ came ++ rest) × (left ≡ Some rest)

-- these bytes came so far, and no read failed
pub record Came (old new : Option (List ℕ)) (before after : ℕ) (came : List ℕ) : Type 0 where
  pub from : (b : List ℕ) → old ≡ Some b → CameFrom b came new
  pub within : length came ≤ most_bytes
  pub count : after ≡ before

pub came_none : (a : Option (List ℕ)) (x : ℕ) → Came a a x x []
came_none a x = record { from = λ b e. (b, refl, e); within = omega arith; count = refl }

-- what is left after so many bytes more
pub came_on : (b came rest buf : List ℕ) (left : Option (List ℕ)) (n : ℕ) → b ≡ came ++ rest → GivesBytes rest left buf n → CameFrom b (came ++ take n buf) left
came_on b came rest buf left n e g = (
  drop n rest,
  e ∙ ap (λ (r : List ℕ). came ++ r) (sym (take-append-drop n rest)) ∙ sym (append_assoc came (take n rest) (drop n rest))
      ∙ ap (λ (t : List ℕ). (came ++ t) ++ drop n rest) (sym g.given),
  g.after,
)

pub came_more : (a b c : Option (List ℕ)) (x y z n : ℕ) (came buf : List ℕ) → Came a b x y came → length came + n ≤ most_bytes → Takes b c y z buf (Ok n) →
    Came a c x z (came ++ take n buf)
came_more a b c x y z n came buf so le one =
    record {
      from = λ s e. let (rest, is, l) = so.from s e in came_on s came rest buf c n is (one.bytes rest l);
      within = let t = length-take-le n buf one.fits in omega (arith, length-append came (take n buf));
      count = one.count ∙ so.count;
    }

-- the reading broke off after these bytes
pub broken : (b came : List ℕ) (left : Option (List ℕ)) → CameFrom b came left → length came ≤ most_bytes → BrokeOff b left
broken b came left (rest, is, l) le = (
  length came,
  le,
  (let e = ap length is ∙ length-append came rest in omega arith),
  l ∙ ap Some (sym (ap (drop (length came)) is ∙ drop-append_seam came rest)),
)

pub came_none_broken : (a : Option (List ℕ)) (x : ℕ) → ReadsAll a a x x (Err NoMemory)
came_none_broken a x = record { bytes = λ b e. broken b [] a (b, refl, e) (omega arith); within = tt; count = refl; later = le_refl _ }

pub came_fault : (a b c : Option (List ℕ)) (x y z : ℕ) (came buf : List ℕ) (f : ReadFault) → Came a b x y came → Takes b c y z buf (Err f) →
    ReadsAll a c x z (Err Fault)
came_fault a b c x y z came buf f so one =
    record {
      bytes = λ s e. let (rest, is, l) = so.from s e in broken s came c (rest, is, one.bytes rest l) so.within;
      within = tt;
      count = omega (arith, so.count, one.count);
      later = omega (arith, so.count, one.later);
    }

pub came_all : (a b c : Option (List ℕ)) (x y z n : ℕ) (came buf : List ℕ) (v : Vec ℕ Global) → Came a b x y came → Takes b c y z buf (Ok n) → n ≡ 0 →
    v.items ≡ came → ReadsAll a c x z (Ok v)
came_all a b c x y z n came buf v so one none items =
    record {
      bytes = λ s e. let (rest, is, l) = so.from s e in whole s rest is (one.bytes rest l);
      within = let p = so.within in let q = ap length items in omega arith;
      count = one.count ∙ so.count;
      later = omega (arith, so.count, one.later);
    } where
      whole : (s rest : List ℕ) → s ≡ came ++ rest → GivesBytes rest c buf n → (v.items ≡ s) × (length s ≤ most_bytes) × (c ≡ Some [])
      whole s rest is g =
          let ended = g.ended none in
          let same = is ∙ ap (λ (r : List ℕ). came ++ r) ended ∙ append-nil came in (
            items ∙ sym same,
            (let p = so.within in let q = ap length same in omega arith),
            g.after ∙ ap (λ (r : List ℕ). Some (drop n r)) ended ∙ ap Some (drop-nil n),
          )

pub came_past : (a b c : Option (List ℕ)) (x y z n : ℕ) (came buf : List ℕ) → Came a b x y came → Takes b c y z buf (Ok n) → length came + n ≡ most_bytes + 1 →
    ReadsAll a c x z (Err Size)
came_past a b c x y z n came buf so one past =
    record {
      bytes = λ s e. let (rest, is, l) = so.from s e in over s rest is (one.bytes rest l);
      within = tt;
      count = one.count ∙ so.count;
      later = omega (arith, so.count, one.later);
    } where
      over : (s rest : List ℕ) → s ≡ came ++ rest → GivesBytes rest c buf n → (most_bytes < length s) × (c ≡ Some (drop (most_bytes + 1) s))
      over s rest is g =
          let parts = ap length is ∙ length-append came rest in
          let there = g.there in
          (omega arith, g.after ∙ ap Some (sym (ap (λ (k : ℕ). drop k s) (sym past) ∙ ap (drop (length came + n)) is ∙ drop-append-add came rest n)))

pub came_unkept : (a b c : Option (List ℕ)) (x y z n : ℕ) (came buf : List ℕ) → Came a b x y came → Takes b c y z buf (Ok n) → length came + n ≤ most_bytes →
    ReadsAll a c x z (Err NoMemory)
came_unkept a b c x y z n came buf so one le =
    let more = came_more a b c x y z n came buf so le one in
    record {
      bytes = λ s e. broken s (came ++ take n buf) c (more.from s e) more.within;
      within = tt;
      count = more.count;
      later = omega (arith, more.count);
    }
