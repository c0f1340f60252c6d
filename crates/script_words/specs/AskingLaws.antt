-- Laws of asking: what holds of an answer; and the words of a line are read one after the other, and what was read stands in front.
use Rattle.std.proofs.Common.{◌≡◌, ℕ, suc, ◌+◌, ◌<◌, ◌≤◌, Bool, true, false, List, [], ◌∷◌, ◌++◌, length, drop, get_or, Result, Ok, Err}
use Rattle.std.proofs.Common.{add-one, drop-cons, append_assoc, append-nil, ◌∙◌, sym, ap, refl}
use Rattle.std.specs.Prelude.{All, IfOk, if◌then◌else◌}
use Rattle.std.proofs.lemmas.List.{drop_all}
use Rattle.std.proofs.lemmas.List.Elements.{All-nil, All-cons}
use Rattle.std.proofs.lemmas.Result.{IfOk-at_ok}
use Rattle.script_words.specs.declared.refusal.Refusal.{Refusal}
use Rattle.script_words.specs.Lines.{word_at}
use Rattle.script_words.specs.Asking.{◌>>=◌, ask, each}

-- a value is read, and then what follows it
pub if_read : {A B E : Type 0} (P : B → Type 0) (first : Result A E) (next : A → Result B E) → ((x : A) → first ≡ Ok x → IfOk (next x) P) →
    IfOk (first >>= next) P
if_read P (Ok x) next h = h x refl
if_read P (Err e) next h = tt

-- a test passes, and then what follows it is read
pub if_asked : {B E : Type 0} (P : B → Type 0) (test : Bool) (refusal : E) (next : Unit {0} → Result B E) → (test ≡ true → IfOk (next tt) P) →
    IfOk (ask test refusal >>= next) P
if_asked P true refusal next h = h refl
if_asked P false refusal next h = tt

-- one of two is read
pub if_either : {A E : Type 0} (P : A → Type 0) (test : Bool) (x y : Result A E) → (test ≡ true → IfOk x P) → (test ≡ false → IfOk y P) →
    IfOk (if test then x else y) P
if_either P true x y h k = h refl
if_either P false x y h k = k refl

-- what holds of the value of each word holds of all of them
pub each_all : {A : Type 0} (P : A → Type 0) (f : List ℕ → Result A Refusal) → ((word : List ℕ) → IfOk (f word) P) → (words : List (List ℕ)) →
    IfOk (each f words) (All P)
each_all P f h [] = All-nil P
each_all P f h (w ∷ words) =
    if_read (All P) (f w) _ (λ x e. if_read (All P) (each f words) _ (λ xs g.
    All-cons P x xs (IfOk-at_ok P e (h w)) (IfOk-at_ok (All P) g (each_all P f h words))))

-- what is read, behind what was read before
abbrev pub with_front : {A : Type 0} → List A → Result (List A) Refusal → Result (List A) Refusal
with_front front read = do
  xs ← read
  Ok (front ++ xs)

-- one more value in front
pub with_front-push : {A : Type 0} (front : List A) (x : A) (read : Result (List A) Refusal) →
    with_front (front ++ (x ∷ [])) read ≡ with_front front (with_front (x ∷ []) read)
with_front-push front x (Ok xs) = ap Ok (append_assoc front (x ∷ []) xs)
with_front-push front x (Err e) = refl

-- one word more is read
pub each_more : {A : Type 0} (f : List ℕ → Result A Refusal) (words : List (List ℕ)) (i : ℕ) (front : List A) (x : A) → i < length words →
    f (get_or words i []) ≡ Ok x → with_front (front ++ (x ∷ [])) (each f (drop (i + 1) words)) ≡ with_front front (each f (drop i words))
each_more f words i front x h e = rw (add-one, drop-cons words i [], e) (with_front-push front x (each f (drop (suc i) words)))

-- a word is refused
pub each_refused : {A : Type 0} (f : List ℕ → Result A Refusal) (words : List (List ℕ)) (i : ℕ) (front : List A) (refusal : Refusal) → i < length words →
    f (get_or words i []) ≡ Err refusal → with_front front (each f (drop i words)) ≡ Err refusal
each_refused f words i front refusal h e = rw (drop-cons words i [], e) refl

-- the words from one to another are read
pub record EachTo {A : Type 0} (f : List ℕ → Result A Refusal) (words : List (List ℕ)) (from i : ℕ) (found : List A) : Type 0 where
  pub rest : with_front found (each f (drop i words)) ≡ each f (drop from words)

pub each_step : {A : Type 0} {f : List ℕ → Result A Refusal} {words : List (List ℕ)} {from i : ℕ} {found : List A} (x : A) → EachTo f words from i found →
    i < length words → f (word_at words i) ≡ Ok x → EachTo f words from (i + 1) (found ++ (x ∷ []))
each_step {f} {words} {from} {i} {found} x so_far h e = record { rest = each_more f words i found x h e ∙ so_far.rest }

pub each_exit : {A : Type 0} {f : List ℕ → Result A Refusal} {words : List (List ℕ)} {from i : ℕ} {found : List A} (refusal : Refusal) →
    EachTo f words from i found → i < length words → f (word_at words i) ≡ Err refusal → each f (drop from words) ≡ Err refusal
each_exit {f} {words} {from} {i} {found} refusal so_far h e = sym so_far.rest ∙ each_refused f words i found refusal h e

pub each_end : {A : Type 0} {f : List ℕ → Result A Refusal} {words : List (List ℕ)} {from i : ℕ} {found : List A} → EachTo f words from i found →
    length words ≤ i → each f (drop from words) ≡ Ok found
each_end {f} {words} {from} {i} {found} so_far h = sym so_far.rest ∙ (rw (drop_all i words h, append-nil) refl)
