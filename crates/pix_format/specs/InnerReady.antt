-- Inside the crate: what a translation keeps ready.
use Rattle.std.specs.Prelude.{◌≡◌, ◌<◌, ◌^◌, All, map}
use Rattle.std.specs.List.{range_with_len}
use Rattle.pix_format.specs.declared.ready.Ready.{Ready}
use Rattle.pix_format.specs.declared.ready.Ready.TheVariants.{Same, Background, Values, PerPixel}
use Rattle.pix_format.specs.declared.xlate.XlateKind.TheVariants.{Trivial, ToMono, Table, Computed}
use Rattle.pix_format.specs.Value.{bits_of, value_of}
use Rattle.pix_format.specs.Xlate.{Translation, kind_of, translated}

-- what is kept is of the translation's kind: the background's value, or each value's translation, which fits the target
abbrev pub IsReady : Translation → Ready → Type 0
IsReady t Same = kind_of t ≡ Trivial
IsReady t (Background v) = (kind_of t ≡ ToMono) × (v ≡ value_of t.from t.from_table t.back)
IsReady t (Values vs) = (kind_of t ≡ Table) × (vs.items ≡ map (translated t) (range_with_len 0 (2 ^ bits_of t.from))) × All (λ v. v < 2 ^ bits_of t.to) vs.items
IsReady t PerPixel = kind_of t ≡ Computed
