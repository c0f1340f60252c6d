use Rattle.std.proofs.Common.{◌≡◌, ℕ, List, Bool, true, false, cond, Option, refl, ◌∙◌, ap, Bor}
use Rattle.std.specs.Option.{option_map}
use Rattle.std.specs.Prelude.{if◌then◌else◌}
use Rattle.std.specs.Ordering.{nat_cmp}
use Rattle.std.specs.Cmp.Lexicographic.{slice_cmp}
use Rattle.std.specs.BTreeMap.{BTreeMap, UpdatesBy, get_by}
use Rattle.std.specs.Str.{bytes_eq}
use Rattle.std.proofs.lemmas.Map.Text.{btree_map_updates_str}
use Rattle.script_names.specs.Names.{name_of_entry, names_of}
use Rattle.script_names.specs.declared.entry.Entry.{Entry}

-- a choice, seen through a function
map_cond : {A B : Type 0} (f : A → B) (b : Bool) (x y : Option A) → option_map f (cond b x y) ≡ cond b (option_map f x) (option_map f y)
map_cond f true x y = refl
map_cond f false x y = refl

-- after a change at one word
pub names_after : (word : List ℕ) (m n : BTreeMap (Bor (List ℕ)) Entry) (what : Option Entry) →
    UpdatesBy (λ x y. slice_cmp nat_cmp x.now y.now) (λ k. slice_cmp nat_cmp word k.now) m n what →
    names_of record { map = n } ≡ (λ w. if bytes_eq word w then option_map name_of_entry what else names_of record { map = m } w)
names_after word m n what updates = λ i w.
    (ap (option_map name_of_entry) (btree_map_updates_str word m n what updates w)
    ∙ map_cond name_of_entry (bytes_eq word w) what (get_by (λ k. slice_cmp nat_cmp w k.now) m)) i
