use Rattle.std.proofs.Common.{◌≡◌, ℕ, zero, suc, ◌+◌, ◌-◌, ◌*◌, ◌/◌, ◌%◌, ◌<◌, ◌≤◌, List, [], ◌∷◌, ◌++◌, length, take, drop, set, get_or, arith, refl}
use Rattle.std.proofs.Common.{sym, ap, ◌∙◌, add-one, append_assoc, append-nil, length-append, length-drop, length-take, le_refl}
use Rattle.std.proofs.lemmas.List.{drop-set, take_all, drop_all, take_more, set_split}
use Rattle.std.proofs.Math.Nat.{mul-le-mul_left, mul-suc}
use Rattle.std.proofs.lemmas.List.Concat.{flat_map-append}
use Rattle.std.proofs.lemmas.Slice.{take-put_mid}
use Rattle.std.specs.List.{flat_map}
use borrow.Rule.Slice.PartMut.{put_mid}
use Rattle.std.proofs.lemmas.Bool.Decides.{nat_tests}
use Rattle.desk_run.specs.Texts.{hex_digit, hex_digits, row_text}
use Rattle.desk_run.proofs.NumberLemmas.{IsLine, line_append}

-- the last digit apart
pub hex_digits_more : (n value : ℕ) → hex_digits (n + 1) value ≡ hex_digits n (value / 16) ++ (hex_digit (value % 16) ∷ [])
unfolding hex_digits
hex_digits_more n value = rw add-one refl

pub length-hex_digits : (n value : ℕ) → length (hex_digits n value) ≡ n
unfolding hex_digits
length-hex_digits zero value = refl
length-hex_digits (suc n) value = let l = length-hex_digits n (value / 16) in let m = length-append (hex_digits n (value / 16)) (hex_digit (value % 16) ∷ []) in
    omega arith

pub no_digits : (value : ℕ) → hex_digits 0 value ≡ []
unfolding hex_digits
no_digits value = refl

-- one more digit stands in its place
pub digit_put : (cell all : List ℕ) (k rest : ℕ) → 0 < k → k ≤ length cell → hex_digits k rest ++ drop k cell ≡ all →
    hex_digits (k - 1) (rest / 16) ++ drop (k - 1) (set cell (k - 1) (hex_digit (rest % 16))) ≡ all
digit_put cell all zero rest low high so = absurd (omega arith)
digit_put cell all (suc k) rest low high so =
    let e : suc k - 1 ≡ k = omega arith in
    let s : suc k ≡ k + 1 = omega arith in
    rw (e, drop-set cell k (hex_digit (rest % 16)) (omega arith))
    (sym (append_assoc (hex_digits k (rest / 16)) (hex_digit (rest % 16) ∷ []) (drop (k + 1) cell))
    ∙ ap (λ (t : List ℕ). t ++ drop (k + 1) cell) (sym (hex_digits_more k rest)) ∙ (rw s at so))

-- one more cell of a row
pub cell_put : (line values cell : List ℕ) (digits i k d : ℕ) → i < length values → length line ≡ digits * length values + 1 →
    k ≡ digits * i + digits - digits * i → cell ≡ hex_digits (length (take k (drop (digits * i) line))) (get_or values i d) →
    take (digits * i) line ≡ flat_map (hex_digits digits) (take i values) →
    take (digits * (i + 1)) (put_mid (digits * i) k line cell) ≡ flat_map (hex_digits digits) (take (i + 1) values)
cell_put line values cell digits i k d lt long wide is so =
    let same : k ≡ digits = omega (arith, wide) in
    let more : digits * (i + 1) ≡ digits * i + digits = rw (add-one, mul-suc digits i) refl in
    let room : digits * (i + 1) ≤ digits * length values = mul-le-mul_left digits (let h : i + 1 ≤ length values = omega arith in h) in
    let inside : length (take k (drop (digits * i) line)) ≡ digits = length-take k (drop (digits * i) line)
    ∙ (let m = length-drop (digits * i) line in omega arith) in
    let here : cell ≡ hex_digits digits (get_or values i d) = is ∙ ap (λ n. hex_digits n (get_or values i d)) inside in
    let l : length cell ≡ digits = ap length here ∙ length-hex_digits digits (get_or values i d) in
    take-put_mid (digits * i) k line cell (digits * (i + 1)) (omega arith) (omega arith)
    ∙ rw (so, here) refl
    ∙ sym (ap (flat_map (hex_digits digits)) (take_more values i d lt) ∙ flat_map-append (hex_digits digits) (take i values) (get_or values i d ∷ [])
    ∙ ap (λ (t : List ℕ). flat_map (hex_digits digits) (take i values) ++ t) (append-nil (hex_digits digits (get_or values i d))))

-- the row ends after its last cell
pub row_end : (line values : List ℕ) (digits i : ℕ) → length values ≤ i → i ≤ length values → length line ≡ digits * length values + 1 →
    take (digits * i) line ≡ flat_map (hex_digits digits) (take i values) → set line (digits * length values) 10 ≡ row_text digits values
row_end line values digits i past within long so =
    let e : i ≡ length values = omega arith in
    let all : take (digits * length values) line ≡ flat_map (hex_digits digits) values = rw (e) at so
    ∙ ap (flat_map (hex_digits digits)) (take_all (length values) values (le_refl _)) in
    set_split line (digits * length values) 10 (omega arith) ∙ rw (all, drop_all (suc (digits * length values)) line (omega arith)) refl

-- hexadecimal digits are a line
digit_plain : (n : ℕ) → 10 < hex_digit n
digit_plain n = grind (arith, nat_tests)

pub hex_line : (digits value : ℕ) → IsLine (hex_digits digits value)
unfolding hex_digits
hex_line zero value = tt
hex_line (suc digits) value =
    line_append (hex_digits digits (value / 16)) (hex_digit (value % 16) ∷ []) (hex_line digits (value / 16)) (digit_plain (value % 16), tt)
