-- Rectangles that lie in rows.
use Rattle.std.proofs.Common.{◌≡◌, ◌∙◌, ℤ, ◌<ℤ◌, ◌≤ℤ◌, List, [], ◌∷◌, ◌++◌, map, ap, sym, subst, arith}
use Rattle.std.proofs.lemmas.Int.{ints}
use Rattle.std.proofs.lemmas.List.{append_assoc, map-append}
use Rattle.std.proofs.lemmas.List.Elements.{All-push}
use Rattle.std.proofs.lemmas.List.Quantifiers.{all_pairs_push}
use Rattle.geom_base.specs.declared.rect.Rect.{Rect}
use Rattle.region.specs.declared.span.Span.{Span}
use Rattle.region.specs.declared.builder.RegionBuilder.{RegionBuilder}
use Rattle.region.specs.Builder.{HasRows}
use Rattle.region.specs.Spans.{rects_of_spans}
use Rattle.region.specs.InnerRectRows.{IsNext, IsRead, ArePushed}

-- the rectangle of a span in the rows of another
abbrev rect_of : Rect → Span → Rect
rect_of row s = record { left = s.left; top = row.top; right = s.right; bottom = row.bottom }

same_rect : (row r : Rect) → r.top ≡ row.top → r.bottom ≡ row.bottom → rect_of row (record { left = r.left; right = r.right }) ≡ r
same_rect row r t b = ap (λ z. record { left = r.left; top = z; right = r.right; bottom = row.bottom }) (sym t)
    ∙ ap (λ z. record { left = r.left; top = r.top; right = r.right; bottom = z }) (sym b)

-- one more rectangle
pub read_more : (row : Rect) (rects rest below : List Rect) (spans : List Span) (end : ℤ) (r : Rect) → IsRead row rects spans end rest → rest ≡ r ∷ below →
    IsNext row end r → IsRead row rects (spans ++ record { left = r.left; right = r.right } ∷ []) r.right below
read_more row rects rest below spans end r h split next =
    let s : Span = record { left = r.left; right = r.right } in record {
      are = record {
        columns = All-push (λ s. s.left <ℤ s.right) spans s h.are.columns next.columns;
        order = all_pairs_push (λ a b. a.right ≤ℤ b.left) spans s h.are.order (λ k d lt. omega (arith, ints, h.before k d lt, next.from));
      };
      before = All-push (λ s. s.right ≤ℤ r.right) spans s (λ k d lt. omega (arith, ints, h.before k d lt, next.from, next.columns)) (omega (arith, ints));
      listed = ap (λ l. l ++ below) (map-append (rect_of row) spans (s ∷ []))
          ∙ append_assoc (map (rect_of row) spans) (rect_of row s ∷ []) below
          ∙ ap (λ q. map (rect_of row) spans ++ q ∷ below) (same_rect row r next.top next.bottom)
          ∙ ap (λ l. map (rect_of row) spans ++ l) (sym split) ∙ h.listed;
    }

-- the same, with the span as the code has it
pub read_pushed : (row : Rect) (rects rest below : List Rect) (spans pushed : List Span) (end left right : ℤ) (r : Rect) → IsRead row rects spans end rest →
    rest ≡ r ∷ below → IsNext row end r → pushed ≡ spans ++ record { left = left; right = right } ∷ [] → left ≡ r.left → right ≡ r.right →
    IsRead row rects pushed right below
read_pushed row rects rest below spans pushed end left right r h split next e left_is right_is =
    subst (λ z. IsRead row rects pushed z below) (sym right_is)
    (subst (λ l. IsRead row rects l r.right below)
    (sym (e ∙ ap (λ z. spans ++ record { left = z; right = right } ∷ []) left_is ∙ ap (λ z. spans ++ record { left = r.left; right = z } ∷ []) right_is))
    (read_more row rects rest below spans end r h split next))

-- a row more
pub pushed_more : (rects rest below : List Rect) (row : Rect) (spans given : List Span) (old new : RegionBuilder) (end top bottom : ℤ)
    (h : ArePushed rects old end rest) → rects_of_spans row.top row.bottom spans ++ below ≡ rest → given ≡ spans → top ≡ row.top → bottom ≡ row.bottom →
    HasRows (h.pushed ++ rects_of_spans top bottom given) bottom new → ArePushed rects new bottom below
pushed_more rects rest below row spans given old new end top bottom h read given_is top_is bottom_is rows = record {
  pushed = h.pushed ++ rects_of_spans top bottom given;
  rows = rows;
  all = append_assoc h.pushed (rects_of_spans top bottom given) below
      ∙ ap (λ l. h.pushed ++ (rects_of_spans top bottom l ++ below)) given_is
      ∙ ap (λ z. h.pushed ++ (rects_of_spans z bottom spans ++ below)) top_is
      ∙ ap (λ z. h.pushed ++ (rects_of_spans row.top z spans ++ below)) bottom_is
      ∙ ap (λ l. h.pushed ++ l) read ∙ h.all;
}
