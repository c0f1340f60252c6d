-- Lines of a list's items that are written one after the other.
use Rattle.std.proofs.Common.{◌≡◌, ℕ, ◌+◌, ◌<◌, Bool, true, false, List, [], ◌∷◌, ◌++◌, length, take, drop, get_or, Option, ap, sym, ◌∙◌}
use Rattle.std.proofs.Common.{append_assoc, append-nil, take-append-drop}
use Rattle.std.specs.List.{flat_map}
use Rattle.std.proofs.lemmas.List.{take_more}
use Rattle.std.proofs.lemmas.List.Concat.{flat_map-append}
use Rattle.desk_io.specs.SinkLaws.{puts_as, puts_on, puts_stopped}
use Rattle.desk_io.specs.Sinks.{Puts}

module _ {X : Type 0} (f : X → List ℕ) (head : List ℕ) (xs : List X) (k : ℕ) (d : X) {a b c : Option (List ℕ)} {x y z : ℕ} (lt : k < length xs)
    (so : Puts (head ++ flat_map f (take k xs)) a b x y false) {line : List ℕ} (is : line ≡ f (get_or xs k d)) where
  more : {failed : Bool} → Puts line b c y z failed → Puts (head ++ flat_map f (take (k + 1) xs)) a c x z failed
  more {failed} one =
      puts_as _ _ a c x z failed (puts_on _ _ a b c x y z failed so (puts_as line _ b c y z failed one is))
      (append_assoc head (flat_map f (take k xs)) (f (get_or xs k d))
      ∙ ap (λ (ys : List ℕ). head ++ ys) (sym (ap (flat_map f) (take_more xs k d lt) ∙ flat_map-append f (take k xs) (get_or xs k d ∷ [])
      ∙ ap (λ (ys : List ℕ). flat_map f (take k xs) ++ ys) (append-nil (f (get_or xs k d))))))

  -- one line more
  pub line_more : Puts line b c y z false → Puts (head ++ flat_map f (take (k + 1) xs)) a c x z false
  line_more one = more one

  -- no line after one that failed
  pub line_failed : Puts line b c y z true → Puts (head ++ flat_map f xs) a c x z true
  line_failed one =
      puts_as _ _ a c x z true (puts_stopped _ (flat_map f (drop (k + 1) xs)) a c x z (more one))
      (append_assoc head (flat_map f (take (k + 1) xs)) (flat_map f (drop (k + 1) xs))
      ∙ ap (λ (ys : List ℕ). head ++ ys) (sym (flat_map-append f (take (k + 1) xs) (drop (k + 1) xs)) ∙ ap (flat_map f) (take-append-drop (k + 1) xs)))
