-- Rows of values that are written one after the other.
use Rattle.std.proofs.Common.{◌≡◌, ℕ, zero, suc, ◌+◌, ◌-◌, ◌*◌, ◌<◌, ◌≤◌, List, ◌++◌, take, drop, arith, refl, sym, ap, ◌∙◌}
use Rattle.std.proofs.Common.{Option, true, false, append_assoc, append-nil}
use Rattle.std.proofs.lemmas.List.{drop-drop}
use Rattle.std.proofs.Math.Nat.{mul-le-mul_right, mul_comm}
use Rattle.desk_io.specs.SinkLaws.{puts_as, puts_on, puts_stopped}
use Rattle.desk_io.specs.Sinks.{Puts}
use Rattle.desk_run.specs.Texts.{row_text, rows_text}

-- some rows and then more
rows_then : (digits w m n : ℕ) (vs : List ℕ) → rows_text digits w (m + n) vs ≡ rows_text digits w m vs ++ rows_text digits w n (drop (m * w) vs)
rows_then digits w zero n vs = let e : zero * w ≡ 0 = omega arith in let f : zero + n ≡ n = omega arith in rw (e, f) refl
rows_then digits w (suc m) n vs =
    let e : suc m + n ≡ suc (m + n) = omega arith in
    let f : m * w + w ≡ suc m * w = omega arith in
    let g : drop (m * w) (drop w vs) ≡ drop (suc m * w) vs = drop-drop (m * w) w vs ∙ ap (λ k. drop k vs) (let k : w + m * w ≡ suc m * w = omega arith in k) in
    rw (e, rows_then digits w m n (drop w vs), g)
    (sym (append_assoc (row_text digits (take w vs)) (rows_text digits w m (drop w vs)) (rows_text digits w n (drop (suc m * w) vs))))

row_more : (digits w y : ℕ) (vs : List ℕ) → rows_text digits w (y + 1) vs ≡ rows_text digits w y vs ++ row_text digits (take w (drop (y * w) vs))
row_more digits w y vs = rows_then digits w y 1 vs ∙ ap (λ (t : List ℕ). rows_text digits w y vs ++ t) (append-nil (row_text digits (take w (drop (y * w) vs))))

-- one row more was written, or failed
module _ (digits w h y : ℕ) (vs : List ℕ) {line row : List ℕ} {a b c : Option (List ℕ)} {i j k : ℕ} (is : line ≡ row_text digits row)
    (read : row ≡ take w (drop (y * w) vs))
    (so : Puts (rows_text digits w y vs) a b i j false) where
  pub row_written : Puts line b c j k false → Puts (rows_text digits w (y + 1) vs) a c i k false
  row_written one = puts_as _ _ a c i k false (puts_on _ _ a b c i j k false so (puts_as line _ b c j k false one (is ∙ ap (row_text digits) read)))
      (sym (row_more digits w y vs))

  pub row_failed : y < h → Puts line b c j k true → Puts (rows_text digits w h vs) a c i k true
  row_failed lt one =
      let all : y + 1 + (h - (y + 1)) ≡ h = omega arith in
      puts_as _ _ a c i k true
      (puts_stopped _ (rows_text digits w (h - (y + 1)) (drop ((y + 1) * w) vs)) a c i k
      (puts_on _ _ a b c i j k true so (puts_as line _ b c j k true one (is ∙ ap (row_text digits) read))))
      (ap (λ (t : List ℕ). t ++ rows_text digits w (h - (y + 1)) (drop ((y + 1) * w) vs)) (sym (row_more digits w y vs))
      ∙ sym (rows_then digits w (y + 1) (h - (y + 1)) vs) ∙ ap (λ n. rows_text digits w n vs) all)

-- a row of a surface lies within its values
pub row_within : (w h y long : ℕ) → long ≡ w * h → y < h → y * w + w ≤ long
row_within w h y long e hy =
    let m : suc y * w ≤ h * w = mul-le-mul_right w (let k : suc y ≤ h = omega arith in k) in
    let c : w * h ≡ h * w = mul_comm w h in
    omega arith
