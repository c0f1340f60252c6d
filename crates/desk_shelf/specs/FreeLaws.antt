-- Laws of the free drivers of a shelf.
use Rattle.std.proofs.Common.{◌≡◌, ◌∙◌, ◌+◌, ◌<◌, ◌≤◌, ℕ, suc, Bool, true, false, not, List, [], ◌∷◌, length, refl, ap, sym, arith}
use Rattle.std.specs.Prelude.{◌==◌, ◌↔◌, Some, None, cond, if◌then◌else◌, nat_lt}
use Rattle.std.specs.Bool.{Decides}
use Rattle.std.specs.List.{count_by, position_or_len}
use Rattle.std.proofs.lemmas.Bool.Decides.{Decides-and, Decides-eqb, Decides-like}
use Rattle.std.proofs.lemmas.Grind.{common_steps}
use Rattle.std.proofs.lemmas.List.Quantifiers.{position-Some}
use Rattle.std.proofs.lemmas.List.Sums.{sum_by-cons}
use Rattle.copy_port.specs.State.{PortState}
use Rattle.copy_port.specs.declared.words.Kind.{Kind}
use Rattle.copy_port.specs.declared.words.Kind.TheVariants.{Linear, Banked, Accel, Mirror}
use Rattle.desk_shelf.specs.Free.{first_free, held_of, is_free, number_of}
use Rattle.desk_shelf.specs.Shelf.{no_driver, state_at}

-- kinds with one number are the same
kind_at : ℕ → Kind
kind_at n = if n == 0 then Linear else if n == 1 then Banked else if n == 2 then Accel else Mirror

kind_at-number_of : (k : Kind) → kind_at (number_of k) ≡ k
unfolding kind_at
kind_at-number_of Linear = refl
kind_at-number_of Banked = refl
kind_at-number_of Accel = refl
kind_at-number_of Mirror = refl

Decides-same_kind : (a b : Kind) → Decides (number_of a == number_of b) (a ≡ b)
Decides-same_kind a b =
    Decides-like (number_of a == number_of b)
    (λ (e : number_of a ≡ number_of b). sym (kind_at-number_of a) ∙ ap kind_at e ∙ kind_at-number_of b)
    (λ (e : a ≡ b). ap number_of e)
    (Decides-eqb (number_of a) (number_of b))

Decides-not_true : (b : Bool) → Decides (not b) (b ≡ false)
Decides-not_true true = (λ e. sym e, λ e. sym e)
Decides-not_true false = (λ _. refl, λ _. refl)

-- a driver is free for a kind exactly where it is of that kind and disabled
pub Decides-is_free : (kind : Kind) (s : PortState) → Decides (is_free kind s) ((s.rest.kind ≡ kind) × (s.rest.enabled ≡ false))
Decides-is_free kind s =
    Decides-and (number_of s.rest.kind == number_of kind) (not s.rest.enabled) (Decides-same_kind s.rest.kind kind) (Decides-not_true s.rest.enabled)

-- the place of the first free driver
pub record IsFirstFree (wanted : Kind) (states : List PortState) (n : ℕ) : Type 0 where
  pub on_shelf : n < length states
  pub kind : (state_at states n).rest.kind ≡ wanted
  pub disabled : (state_at states n).rest.enabled ≡ false
  pub first : (k : ℕ) → k < n → is_free wanted (state_at states k) ≡ false

pub first_free_is : (kind : Kind) (states : List PortState) (n : ℕ) → first_free kind states ≡ Some n → IsFirstFree kind states n
first_free_is kind states n e =
    let at = position-Some (is_free kind) states n no_driver e in
    let free = (Decides-is_free kind (state_at states n)).0 at.1 in
    record { on_shelf = at.0; kind = free.0; disabled = free.1; first = at.2 }

none_held : {A : Type 0} (p : A → Bool) (xs : List A) → length xs ≤ position_or_len p xs → count_by p xs ≡ 0
none_held p [] past = refl
none_held p (x ∷ xs) past = sum_by-cons (λ y. cond (p y) 1 0) x xs ∙ at (p x) past (none_held p xs)
  where
    at : (b : Bool) → suc (length xs) ≤ cond (not b) (1 + position_or_len p xs) 0 → (length xs ≤ position_or_len p xs → count_by p xs ≡ 0) →
        cond b 1 0 + count_by p xs ≡ 0
    at true past rest = absurd (omega arith)
    at false past rest = let none = rest (omega arith) in omega arith

none_found : {A : Type 0} (p : A → Bool) (xs : List A) → count_by p xs ≡ 0 → length xs ≤ position_or_len p xs
none_found p [] none = omega arith
none_found p (x ∷ xs) none = at (p x) (sym (sum_by-cons (λ y. cond (p y) 1 0) x xs) ∙ none) (none_found p xs)
  where
    at : (b : Bool) → cond b 1 0 + count_by p xs ≡ 0 → (count_by p xs ≡ 0 → length xs ≤ position_or_len p xs) →
        suc (length xs) ≤ cond (not b) (1 + position_or_len p xs) 0
    at true none rest = absurd (omega arith)
    at false none rest = let past = rest (omega arith) in omega arith

past_end : (n count : ℕ) → (cond (nat_lt n count) (Some n) None ≡ None) ↔ (count ≤ n)
past_end n count = (λ e. grind (arith, common_steps), λ le. grind (arith, common_steps))

-- there is none exactly where none is held
pub no_first_free : (kind : Kind) (states : List PortState) → (first_free kind states ≡ None) ↔ (held_of kind states ≡ 0)
no_first_free kind states =
    let free = is_free kind in
    let past = past_end (position_or_len free states) (length states) in
    (λ e. none_held free states (past.0 e), λ none. past.1 (none_found free states none))
