-- Asking one thing after another: a value, or the first refusal.
use Rattle.std.specs.Prelude.{◌≡◌, ℕ, Bool, true, false, List, [], ◌∷◌, Result, Ok, Err}
use Rattle.script_words.specs.declared.refusal.Refusal.{Refusal}
use Rattle.script_words.specs.declared.refusal.ReadError.{ReadError}
use Rattle.script_words.specs.declared.refusal.ReadError.TheVariants as errors

infixl 10 ◌>>=◌
abbrev pub ◌>>=◌ : {A B E : Type 0} → Result A E → (A → Result B E) → Result B E
(Ok x) >>= f = f x
(Err e) >>= f = Err e

-- a test that has to pass
abbrev pub ask : {E : Type 0} → Bool → E → Result (Unit {0}) E
ask true refusal = Ok tt
ask false refusal = Err refusal

-- a value for each word, from left to right
abbrev pub each : {A : Type 0} → (List ℕ → Result A Refusal) → List (List ℕ) → Result (List A) Refusal
each read [] = Ok []
each read (w ∷ words) = do
  x ← read w
  xs ← each read words
  Ok (x ∷ xs)

-- what a function returned, seen by view, is what the definition gives, unless memory ran out
abbrev pub FailsAs : {Y : Type 0} → ReadError → Result Y Refusal → Type 0
FailsAs errors.NoMemory read = Unit {0}
FailsAs (errors.Refused f) read = read ≡ Err f

abbrev pub ReadsAs : {X Y : Type 0} → (X → Y) → Result X ReadError → Result Y Refusal → Type 0
ReadsAs view (Ok x) read = read ≡ Ok (view x)
ReadsAs view (Err e) read = FailsAs e read
