-- A shelf of drivers, seen as the list of their states.
use Rattle.std.proofs.Common.{◌≡◌, ◌∙◌, ℕ, ◌<◌, List, [], ◌∷◌, zero, suc, None, false, length, map, set, get_or, slice_index_or, refl, ap, sym, length-set, get_or-set_same, true≢false}
use Rattle.std.specs.Prelude.{option_map, slice_get, unwrap_or}
use Rattle.std.proofs.lemmas.List.{get_or-map}
use Rattle.copy_port.specs.State.{PortState}
use Rattle.copy_port.specs.declared.words.Kind.TheVariants.{Linear}

-- past the end of a shelf
abbrev pub no_driver : PortState
no_driver = record {
  shown = λ _. None;
  faults = 0;
  written = 0;
  rest = record {
    kind = Linear;
    enabled = false;
    hooks = λ _. false;
    declines = λ _. false;
    mode_limit = λ _. None;
    offered = 0;
    offered_bitmaps = 0;
    declined = 0;
    asked = 0;
    made = 0;
    cuts = 0;
    extra = [];
  };
  sound = λ _ live. absurd (true≢false (sym live));
}

-- the state of the driver at a place
abbrev pub state_at : List PortState → ℕ → PortState
state_at states place = slice_index_or states place no_driver

-- drivers stand in their places as before, but for the one at a place
pub record OthersStay {D : Type 0} (place : ℕ) (before after : List D) : Type 0 where
  pub count : length after ≡ length before
  pub others : (k : ℕ) → ¬ (k ≡ place) → slice_get after k ≡ slice_get before k

pub others_same : {D : Type 0} (place : ℕ) (items : List D) → OthersStay place items items
others_same place items = record { count = refl; others = λ _ _. refl }

pub others_then : {D : Type 0} (place : ℕ) (a b c : List D) → OthersStay place a b → OthersStay place b c → OthersStay place a c
others_then place a b c f g = record { count = g.count ∙ f.count; others = λ k ne. g.others k ne ∙ f.others k ne }

-- putting another driver into the place is all that may happen
pub others_set : {D : Type 0} (items : List D) (place : ℕ) (n : D) → OthersStay place items (set items place n)
others_set {D} items place n = record { count = length-set items place n; others = at items place }
  where
    at : (items : List D) (place k : ℕ) → ¬ (k ≡ place) → slice_get (set items place n) k ≡ slice_get items k
    at [] place k ne = refl
    at (d ∷ items) zero zero ne = absurd (ne refl)
    at (d ∷ items) zero (suc k) ne = refl
    at (d ∷ items) (suc place) zero ne = refl
    at (d ∷ items) (suc place) (suc k) ne = at items place k (λ e. ne (ap suc e))

-- so the states of the others are as before
pub others_states : {D : Type 0} (st : D → PortState) (place : ℕ) (before after : List D) → OthersStay place before after → (k : ℕ) → ¬ (k ≡ place) →
    state_at (map st after) k ≡ state_at (map st before) k
others_states {D} st place before after h k ne = read after k ∙ ap (λ o. unwrap_or (option_map st o) no_driver) (h.others k ne) ∙ sym (read before k)
  where
    read : (items : List D) (k : ℕ) → state_at (map st items) k ≡ unwrap_or (option_map st (slice_get items k)) no_driver
    read [] k = refl
    read (d ∷ items) zero = refl
    read (d ∷ items) (suc k) = read items k

pub state_before : {D : Type 0} (st : D → PortState) (items : List D) (place : ℕ) (d : D) → place < length items → d ≡ get_or items place d →
    state_at (map st items) place ≡ st d
state_before st items place d lt is = get_or-map st items place d no_driver lt ∙ ap st (sym is)

pub state_after : {D : Type 0} (st : D → PortState) (items : List D) (place : ℕ) (n : D) → place < length items →
    state_at (map st (set items place n)) place ≡ st n
state_after st items place n lt =
    let long : place < length (set items place n) = rw length-set lt in
    get_or-map st (set items place n) place n no_driver long ∙ ap st (get_or-set_same items place n n lt)

-- what holds of a driver's states before and after a call holds of those at its place
pub at_place : {D : Type 0} (st : D → PortState) (items : List D) (place : ℕ) (d n : D) (P : PortState → PortState → Type 0) → place < length items →
    d ≡ get_or items place d → P (st d) (st n) → P (state_at (map st items) place) (state_at (map st (set items place n)) place)
at_place st items place d n P lt is h = rw (state_before st items place d lt is, state_after st items place n lt) h
