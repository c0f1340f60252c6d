-- What is found and counted among the drivers of a shelf, one after the other.
use Rattle.std.proofs.Common.{◌≡◌, ◌∙◌, ◌+◌, ◌<◌, ◌≤◌, ℕ, Bool, true, false, List, [], ◌∷◌, length, map, take, get_or, refl, ap, sym, arith}
use Rattle.std.specs.Prelude.{Some, None, cond, nat_lt}
use Rattle.std.specs.List.{count_by, position_or_len}
use Rattle.std.proofs.lemmas.Grind.{common_steps}
use Rattle.std.proofs.lemmas.List.{take_all}
use Rattle.std.proofs.lemmas.List.Sums.{count_by_more_no, count_by_more_yes, position_or_len_is, sum_by-cons}
use Rattle.copy_port.specs.State.{PortState}
use Rattle.copy_port.specs.declared.words.Kind.{Kind}
use Rattle.desk_shelf.specs.Free.{first_free, held_of, is_free}
use Rattle.desk_shelf.specs.Shelf.{no_driver, state_at}

-- counting among states is counting among what has them
count_map : {A B : Type 0} (p : B → Bool) (f : A → B) (xs : List A) → count_by p (map f xs) ≡ count_by (λ x. p (f x)) xs
count_map p f [] = refl
count_map p f (x ∷ xs) =
    sum_by-cons (λ y. cond (p y) 1 0) (f x) (map f xs) ∙ ap (λ n. cond (p (f x)) 1 0 + n) (count_map p f xs)
    ∙ sym (sum_by-cons (λ y. cond (p (f y)) 1 0) x xs)

-- one more driver, which is free or isn't
pub one_more : {D : Type 0} (st : D → PortState) (kind : Kind) (items : List D) (i : ℕ) (d : D) → i < length items → d ≡ get_or items i d →
    is_free kind (st d) ≡ true → held_of kind (map st (take (i + 1) items)) ≡ held_of kind (map st (take i items)) + 1
one_more st kind items i d lt is free =
    count_map (is_free kind) st (take (i + 1) items)
    ∙ count_by_more_yes (λ x. is_free kind (st x)) items i d lt (ap (λ x. is_free kind (st x)) (sym is) ∙ free)
    ∙ ap (λ n. n + 1) (sym (count_map (is_free kind) st (take i items)))

pub no_more : {D : Type 0} (st : D → PortState) (kind : Kind) (items : List D) (i : ℕ) (d : D) → i < length items → d ≡ get_or items i d →
    is_free kind (st d) ≡ false → held_of kind (map st (take (i + 1) items)) ≡ held_of kind (map st (take i items))
no_more st kind items i d lt is busy =
    count_map (is_free kind) st (take (i + 1) items)
    ∙ count_by_more_no (λ x. is_free kind (st x)) items i d lt (ap (λ x. is_free kind (st x)) (sym is) ∙ busy)
    ∙ sym (count_map (is_free kind) st (take i items))

-- all of them
pub all_counted : {D : Type 0} (st : D → PortState) (kind : Kind) (items : List D) (i n : ℕ) → length items ≤ i →
    n ≡ held_of kind (map st (take i items)) → n ≡ held_of kind (map st items)
all_counted st kind items i n le e = e ∙ ap (λ all. held_of kind (map st all)) (take_all i items le)

within : (m n count : ℕ) → m ≡ n → n < count → Some n ≡ cond (nat_lt m count) (Some m) None
within m n count e lt = grind (arith, common_steps)

at_end : (m count : ℕ) → m ≡ count → None ≡ cond (nat_lt m count) (Some m) None
at_end m count e = grind (arith, common_steps)

-- the first that is free, and none
pub found_first : (kind : Kind) (states : List PortState) (n : ℕ) → n < length states → ((k : ℕ) → k < n → is_free kind (state_at states k) ≡ false) →
    is_free kind (state_at states n) ≡ true → Some n ≡ first_free kind states
found_first kind states n lt busy free =
    within (position_or_len (is_free kind) states) n (length states)
    (position_or_len_is (is_free kind) states n no_driver (omega arith) busy (λ _. free)) lt

pub found_none : (kind : Kind) (states : List PortState) (n : ℕ) → length states ≤ n → ((k : ℕ) → k < n → is_free kind (state_at states k) ≡ false) →
    None ≡ first_free kind states
found_none kind states n le busy =
    at_end (position_or_len (is_free kind) states) (length states)
    (position_or_len_is (is_free kind) states (length states) no_driver (omega arith) (λ k lt. busy k (omega arith)) (λ lt. absurd (omega arith)))
