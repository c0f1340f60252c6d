-- Laws of pieces that were written one after another.
use Rattle.std.proofs.Common.{◌≡◌, ℕ, Bool, true, false, List, [], ◌++◌, Option, Some, ap, sym, ◌∙◌, arith, append_assoc, append-nil, le_refl, refl, ◌≤◌}
use Rattle.desk_io.specs.Counts.{Counted}
use Rattle.desk_io.specs.Sinks.{Puts, Wrote}

-- nothing is written whole
pub puts_nothing : (a : Option (List ℕ)) (n : ℕ) → Puts [] a a n n false
puts_nothing a n = record { text = λ b e. e ∙ ap Some (sym (append-nil b)); count = refl; later = le_refl _ }

-- one piece after another
pub puts_on : (p q : List ℕ) (a b c : Option (List ℕ)) (x y z : ℕ) (f : Bool) → Puts p a b x y false → Puts q b c y z f → Puts (p ++ q) a c x z f
puts_on p q a b c x y z f g h =
    record {
      text = λ s e. wrote_on f s (h.text (s ++ p) (g.text s e));
      count = counted_on f g.count h.count g.later;
      later = let k = g.later in let l = h.later in omega arith;
    } where
      counted_on : (f : Bool) → y ≡ x → Counted f y z → x ≤ y → Counted f x z
      counted_on false same c l = c ∙ same
      counted_on true same c l = omega (arith, same, c, l)

      wrote_on : (f : Bool) (s : List ℕ) → Wrote f q (s ++ p) c → Wrote f (p ++ q) s c
      wrote_on false s w = w ∙ ap Some (append_assoc s p q)
      wrote_on true s (t, rest, parts, w) = (p ++ t, rest, ap (λ (r : List ℕ). p ++ r) parts ∙ sym (append_assoc p t rest), w ∙ ap Some (append_assoc s p t))

-- what comes after a piece that failed is not written
pub puts_stopped : (p q : List ℕ) (a b : Option (List ℕ)) (x y : ℕ) → Puts p a b x y true → Puts (p ++ q) a b x y true
puts_stopped p q a b x y g = record { text = λ s e. more s (g.text s e); count = g.count; later = g.later } where
  more : (s : List ℕ) → Wrote true p s b → Wrote true (p ++ q) s b
  more s (t, rest, parts, w) = (t, rest ++ q, ap (λ (r : List ℕ). r ++ q) parts ∙ append_assoc t rest q, w)

-- the same by other words
pub puts_as : (p q : List ℕ) (a b : Option (List ℕ)) (x y : ℕ) (f : Bool) → Puts p a b x y f → p ≡ q → Puts q a b x y f
puts_as p q a b x y f h e = rw (sym e) h
