use Rattle.std.proofs.Common.{◌≡◌, refl, ◌∙◌, ap, length, ◌*◌, subst}
use Rattle.surf_obj.specs.Layout.{SamePadding}
use Rattle.surf_obj.specs.Lent.{layout_of, size_of, format_of, values_of, OnlyPixels}
use Rattle.surf_obj.specs.declared.lent.LentSurf.{LentSurf}
use Rattle.surf_obj.specs.LayoutLaws.{SamePadding-refl, SamePadding-trans, length-values_in}

pub OnlyPixels-refl : (s : LentSurf) → OnlyPixels s s
OnlyPixels-refl s = record { loan = refl; layout = refl; padding = SamePadding-refl (layout_of s) s.bits.now }

pub OnlyPixels-trans : (r s t : LentSurf) → OnlyPixels r s → OnlyPixels s t → OnlyPixels r t
OnlyPixels-trans r s t a b = record {
  loan = b.loan ∙ a.loan;
  layout = b.layout ∙ a.layout;
  padding = SamePadding-trans (layout_of r) r.bits.now s.bits.now t.bits.now a.padding (subst (λ l. SamePadding l s.bits.now t.bits.now) a.layout b.padding);
}

pub OnlyPixels-size : (s t : LentSurf) → OnlyPixels s t → size_of t ≡ size_of s
OnlyPixels-size s t only = ap (λ l. l.size) only.layout

pub OnlyPixels-format : (s t : LentSurf) → OnlyPixels s t → format_of t ≡ format_of s
OnlyPixels-format s t only = ap (λ l. l.format) only.layout

pub length-values_of : (s : LentSurf) → length (values_of s) ≡ (size_of s).w * (size_of s).h
length-values_of s = length-values_in (layout_of s) s.bits.now
