-- Laws of surfaces that keep pixels alike.
use Rattle.std.proofs.Common.{◌≡◌, ℕ, List, ◌&&◌, sym, refl, ap, ◌∙◌}
use Rattle.std.specs.Prelude.{◌==◌, if◌then◌else◌}
use Rattle.std.specs.Cmp.Lexicographic.{pointwise, pointwise_decides}
use Rattle.std.specs.Bool.{Decides}
use Rattle.std.proofs.lemmas.Bool.Decides.{Decides-and, Decides-eqb, Decides-like}
use Rattle.pix_format.specs.declared.rgb.Rgb.{Rgb}
use Rattle.pix_format.specs.declared.format.Format.{Format}
use Rattle.pix_format.specs.declared.format.Format.TheVariants.{B1, B4, B8, B555, B565, B24, B32}
use Rattle.pix_format.specs.Translate.{number_of, same_colour, same_kind}
use Rattle.pix_format.specs.Xlate.{Translation, translated}

-- formats with one number are the same
format_at : ℕ → Format
format_at n =
    if n == 0 then B1 else if n == 1 then B4 else if n == 2 then B8 else if n == 3 then B555
    else if n == 4 then B565 else if n == 5 then B24 else B32

format_at-number_of : (f : Format) → format_at (number_of f) ≡ f
unfolding format_at
format_at-number_of B1 = refl
format_at-number_of B4 = refl
format_at-number_of B8 = refl
format_at-number_of B555 = refl
format_at-number_of B565 = refl
format_at-number_of B24 = refl
format_at-number_of B32 = refl

Decides-same_format : (a b : Format) → Decides (number_of a == number_of b) (a ≡ b)
Decides-same_format a b =
    let test = number_of a == number_of b in
    Decides-like test
    (λ (e : number_of a ≡ number_of b). sym (format_at-number_of a) ∙ ap format_at e ∙ format_at-number_of b)
    (λ (e : a ≡ b). ap number_of e)
    (Decides-eqb (number_of a) (number_of b))

Decides-same_colour : (a b : Rgb) → Decides (same_colour a b) (a ≡ b)
Decides-same_colour a b =
    Decides-like (same_colour a b)
    (λ (e : ((a.r ≡ b.r) × (a.g ≡ b.g)) × (a.b ≡ b.b)). λ i. record { r = e.0.0 i; g = e.0.1 i; b = e.1 i })
    (λ (e : a ≡ b). ((ap (λ c. c.r) e, ap (λ c. c.g) e), ap (λ c. c.b) e))
    (Decides-and (a.r == b.r && a.g == b.g) (a.b == b.b) (Decides-and (a.r == b.r) (a.g == b.g) (Decides-eqb a.r b.r) (Decides-eqb a.g b.g))
    (Decides-eqb a.b b.b))

-- the test of two surfaces decides whether format and table are the same
pub Decides-same_kind : (from : Format) (from_table : List Rgb) (to : Format) (to_table : List Rgb) →
    Decides (same_kind from from_table to to_table) ((from ≡ to) × (from_table ≡ to_table))
Decides-same_kind from from_table to to_table =
    Decides-and (number_of from == number_of to) (pointwise same_colour from_table to_table) (Decides-same_format from to)
    (pointwise_decides Decides-same_colour from_table to_table)

-- a translation between surfaces of one format and table changes no value
pub kept_values : (t : Translation) (v : ℕ) → (t.from ≡ t.to) × (t.from_table ≡ t.to_table) → translated t v ≡ v
kept_values t v same = rw ((Decides-same_kind t.from t.from_table t.to t.to_table).1 same) refl
