-- Reports that are read back from what is written.
use Rattle.std.proofs.Common.{◌≡◌, ℕ, zero, suc, ◌+◌, ◌<◌, ◌≤◌, ◌^◌, ℤ, pos, negsuc, List, [], ◌∷◌, ◌++◌, length, decimal, codes, refl, sym, ap, ◌∙◌, subst}
use Rattle.std.proofs.Common.{arith, append_assoc, append-nil, Option, Some, None}
use Rattle.std.proofs.lemmas.Int.{ints}
use Rattle.std.proofs.lemmas.List.{append_cancel_left, length-map}
use Rattle.std.proofs.lemmas.List.Elements.{All-cons, All-head, All-nil, All-tail}
use Rattle.std.proofs.lemmas.Option.{none-some, same_Some, slice_get_within}
use Rattle.std.specs.Prelude.{All, MatchOption, slice_get}
use Rattle.std.specs.Fmt.{signed_decimal}
use Rattle.std.specs.List.{flat_map}
use lib.Signed.{mag}
use Rattle.geom_base.specs.declared.rect.Rect.{Rect}
use Rattle.geom_base.specs.declared.size.Size.{Size as SurfaceSize}
use Rattle.geom_base.specs.Points.{HasSides, LiesIn}
use Rattle.pix_format.specs.Value.{digits_of}
use Rattle.pix_format.specs.declared.format.Format.{Format}
use Rattle.script_orders.specs.declared.desk_command.DeskCommand.{DeskCommand}
use Rattle.script_orders.specs.declared.desk_command.Spot.{Spot}
use Rattle.script_orders.specs.declared.desk_command.Spot.TheVariants as spots
use Rattle.script_orders.specs.declared.named.Named.{Named}
use Rattle.script_orders.specs.declared.named.Named.TheVariants.{Screen, Bitmap}
use Rattle.script_orders.specs.declared.script_command.ScriptCommand.{ScriptCommand}
use Rattle.script_orders.specs.declared.script_command.ScriptCommand.TheVariants.{Create, Delete, Brush, Draw, Dump, Sum, Nothing}
use Rattle.surf_obj.specs.Surface.{Surface}
use Rattle.desk_span.specs.Desk.{State, carried, drawn_on, drawn_screens, surface_at}
use Rattle.hook_route.specs.declared.outcome.Cause.{Cause}
use Rattle.hook_route.specs.declared.outcome.Cause.TheVariants.{Fault, Memory}
use Rattle.desk_span.specs.Meeting.{IsTarget}
use Rattle.desk_span.specs.Telling.{IsPart, IsReport, IsUndrawn, IsUnread, MayTell, ReadTells}
use Rattle.desk_span.specs.Reports.{Told}
use Rattle.desk_run.specs.TextLaws.{HasNumber, IsEdge, HasEdges, IsReportOn}
use Rattle.desk_run.specs.Entries.{Entry, MayTellAll, commands_of}
use Rattle.desk_run.specs.Run.{body, out, read_text, text_of}
use Rattle.desk_run.specs.Texts.{BitmapNames, cause_text, drawn_text, dump_text, end_text, format_text, head_text, hex_digits, name_text, report_text}
use Rattle.desk_run.specs.Texts.{rows_text, sum_line_text, sum_of, sum_text, unread_text}
use Rattle.desk_run.proofs.HexLemmas.{hex_line, length-hex_digits}
use Rattle.desk_run.proofs.NumberLemmas.{IsLine, decimal_back, line_back, no_letter, same_head, same_tail, signed_back}

-- the first of a list, and the others
all_first : {X : Type 0} (P : X → Type 0) (x : X) (xs : List X) → All P (x ∷ xs) → P x
all_first P x xs all = all 0 x (omega arith)

all_rest : {X : Type 0} (P : X → Type 0) (x : X) (xs : List X) → All P (x ∷ xs) → All P xs
all_rest P x xs all = λ k d lt. all (suc k) d (omega (arith, lt))

-- an edge and what stands behind it
edge_size : (z : ℤ) → IsEdge z → mag z < 2 ^ 63
edge_size (pos n) (low, high) = omega (arith, ints, high)
edge_size (negsuc n) (low, high) = omega (arith, ints, low)

edge_back : (w z : ℤ) (x y : List ℕ) → IsEdge w → IsEdge z → signed_decimal w ++ 32 ∷ x ≡ signed_decimal z ++ 32 ∷ y → (w ≡ z) × (x ≡ y)
edge_back w z x y p q e =
    let (same, rest) = signed_back w z 32 32 x y (edge_size w p) (edge_size z q) (omega arith) (omega arith) e in
    (same, same_tail 32 32 x y rest)

-- a cause, and what stands behind it
cause_back : (c d : Cause) (b : ℕ) (x y : List ℕ) → cause_text c ++ b ∷ x ≡ cause_text d ++ b ∷ y → (c ≡ d) × (x ≡ y)
cause_back Fault Fault b x y e = (refl, same_tail b b x y (append_cancel_left (codes "fault") (b ∷ x) (b ∷ y) e))
cause_back Memory Memory b x y e = (refl, same_tail b b x y (append_cancel_left (codes "memory") (b ∷ x) (b ∷ y) e))
cause_back Fault Memory b x y e = absurd (let h = same_head 102 109 _ _ e in omega (arith, h))
cause_back Memory Fault b x y e = absurd (let h = same_head 109 102 _ _ e in omega (arith, h))

-- the target of a report
target_back : (names : BitmapNames) (spot : Spot) (p q : Named) (x y : List ℕ) → IsTarget spot p → IsTarget spot q → HasNumber p → HasNumber q →
    name_text names p ++ 32 ∷ x ≡ name_text names q ++ 32 ∷ y → (p ≡ q) × (x ≡ y)
target_back names spots.Desk (Screen j) (Screen k) x y p r a b e =
    let (same, rest) = decimal_back j k 32 32 x y a b (omega arith) (omega arith) e in
    (ap Screen same, same_tail 32 32 x y rest)
target_back names spots.Desk (Bitmap j) q x y p r a b e = absurd p
target_back names spots.Desk (Screen j) (Bitmap k) x y p r a b e = absurd r
target_back names (spots.Bitmap m) (Screen j) q x y p r a b e = absurd p
target_back names (spots.Bitmap m) (Bitmap j) (Screen k) x y p r a b e = absurd r
target_back names (spots.Bitmap m) (Bitmap j) (Bitmap k) x y p r a b e =
    let same = p ∙ sym r in
    (ap Bitmap same, same_tail 32 32 x y (append_cancel_left (name_text names (Bitmap j)) (32 ∷ x) (32 ∷ y) (rw (sym same) at e)))

-- the line of a rectangle and what stands behind it, piece by piece
drawn_pieces : (names : BitmapNames) (q : Named) (r : Rect) (x : List ℕ) →
    drawn_text names q r ++ x ≡ codes "drawn " ++ (name_text names q ++ 32 ∷ (signed_decimal r.left ++ 32 ∷ (signed_decimal r.top ++ 32 ∷
    (signed_decimal r.right ++ 32 ∷ (signed_decimal r.bottom ++ 10 ∷ x)))))
drawn_pieces names q r x = simp append_assoc refl

-- a report and what stands behind it, piece by piece
report_pieces : (names : BitmapNames) (n : ℕ) (t : Told) (x : List ℕ) →
    report_text names n t ++ x ≡ codes "command " ++ (decimal n ++ 32 ∷ (cause_text t.cause ++ 32 ∷ (name_text names t.target ++ 32 ∷
    (decimal (length t.rects) ++ 10 ∷ (flat_map (drawn_text names t.target) t.rects ++ x)))))
report_pieces names n t x = simp append_assoc refl

-- what is the same in all its parts
abbrev rect_of : ℤ → ℤ → ℤ → ℤ → Rect
rect_of left top right bottom = record { left = left; top = top; right = right; bottom = bottom }

same_rect : (r s : Rect) → r.left ≡ s.left → r.top ≡ s.top → r.right ≡ s.right → r.bottom ≡ s.bottom → r ≡ s
same_rect r s left top right bottom =
    ap (λ z. rect_of z r.top r.right r.bottom) left ∙ ap (λ z. rect_of s.left z r.right r.bottom) top
    ∙ ap (λ z. rect_of s.left s.top z r.bottom) right ∙ ap (λ z. rect_of s.left s.top s.right z) bottom

abbrev told_of : Named → Cause → List Rect → Told
told_of target cause rects = record { target = target; cause = cause; rects = rects }

same_report : (t u : Told) → t.target ≡ u.target → t.cause ≡ u.cause → t.rects ≡ u.rects → t ≡ u
same_report t u target cause rects =
    ap (λ (q : Named). told_of q t.cause t.rects) target ∙ ap (λ (c : Cause). told_of u.target c t.rects) cause
    ∙ ap (λ (rs : List Rect). told_of u.target u.cause rs) rects

-- a rectangle
rect_back : (names : BitmapNames) (q : Named) (r s : Rect) (x y : List ℕ) → HasEdges r → HasEdges s → drawn_text names q r ++ x ≡ drawn_text names q s ++ y →
    (r ≡ s) × (x ≡ y)
rect_back names q r s x y a b e =
    let named = append_cancel_left (codes "drawn ") _ _ (sym (drawn_pieces names q r x) ∙ e ∙ drawn_pieces names q s y) in
    let (left, e1) = edge_back r.left s.left _ _ a.left b.left (same_tail 32 32 _ _ (append_cancel_left (name_text names q) _ _ named)) in
    let (top, e2) = edge_back r.top s.top _ _ a.top b.top e1 in
    let (right, e3) = edge_back r.right s.right _ _ a.right b.right e2 in
    let (bottom, e4) = signed_back r.bottom s.bottom 10 10 x y (edge_size r.bottom a.bottom) (edge_size s.bottom b.bottom) (omega arith) (omega arith) e3 in
    (same_rect r s left top right bottom, same_tail 10 10 x y e4)

-- rectangles, as many on both sides
rects_back : (names : BitmapNames) (q : Named) (rs ss : List Rect) (x y : List ℕ) → All HasEdges rs → All HasEdges ss → length rs ≡ length ss →
    flat_map (drawn_text names q) rs ++ x ≡ flat_map (drawn_text names q) ss ++ y → (rs ≡ ss) × (x ≡ y)
rects_back names q [] [] x y a b long e = (refl, e)
rects_back names q [] (s ∷ ss) x y a b long e = absurd (omega (arith, long))
rects_back names q (r ∷ rs) [] x y a b long e = absurd (omega (arith, long))
rects_back names q (r ∷ rs) (s ∷ ss) x y a b long e =
    let rest = flat_map (drawn_text names q) in
    let (one, e1) = rect_back names q r s (rest rs ++ x) (rest ss ++ y) (all_first HasEdges r rs a) (all_first HasEdges s ss b)
    (sym (append_assoc (drawn_text names q r) (rest rs) x) ∙ e ∙ append_assoc (drawn_text names q s) (rest ss) y) in
    let (others, e2) = rects_back names q rs ss x y (all_rest HasEdges r rs a) (all_rest HasEdges s ss b) (omega (arith, long)) e1 in
    (rw (one, others) refl, e2)

-- a report
pub report_back : (names : BitmapNames) (n : ℕ) (spot : Spot) (t u : Told) (x y : List ℕ) → IsReportOn spot t → IsReportOn spot u →
    report_text names n t ++ x ≡ report_text names n u ++ y → (t ≡ u) × (x ≡ y)
report_back names n spot t u x y a b e =
    let e1 = append_cancel_left (codes "command ") _ _ (sym (report_pieces names n t x) ∙ e ∙ report_pieces names n u y) in
    let (cause, e2) = cause_back t.cause u.cause 32 _ _ (same_tail 32 32 _ _ (append_cancel_left (decimal n) _ _ e1)) in
    let (target, e3) = target_back names spot t.target u.target _ _ a.target b.target a.number b.number e2 in
    let (count, e4) = decimal_back (length t.rects) (length u.rects) 10 10 _ _ a.count b.count (omega arith) (omega arith) e3 in
    let e5 = same_tail 10 10 _ _ e4 in
    let (rects, e6) = rects_back names t.target t.rects u.rects x y a.edges b.edges count
    (subst (λ (q : Named). flat_map (drawn_text names t.target) t.rects ++ x ≡ flat_map (drawn_text names q) u.rects ++ y) (sym target) e5) in
    (same_report t u target cause rects, e6)

-- the reports of one command

-- what is written doesn't begin with a report of a command
abbrev pub Past : ℕ → List ℕ → Type 0
Past n x = (y : List ℕ) → x ≡ codes "command " ++ (decimal n ++ 32 ∷ y) → ⊥

not_past : (names : BitmapNames) (n : ℕ) (t : Told) (x y : List ℕ) → Past n x → x ≡ report_text names n t ++ y → ⊥
not_past names n t x y past e = past _ (e ∙ report_pieces names n t y)

-- a list of reports and what stands behind them
reports_back : (names : BitmapNames) (n : ℕ) (spot : Spot) (told other : List Told) (x y : List ℕ) → All (IsReportOn spot) told → All (IsReportOn spot) other →
    Past n x → Past n y → flat_map (report_text names n) told ++ x ≡ flat_map (report_text names n) other ++ y → (told ≡ other) × (x ≡ y)
reports_back names n spot [] [] x y a b p q e = (refl, e)
reports_back names n spot [] (u ∷ other) x y a b p q e =
    absurd (not_past names n u x _ p (e ∙ append_assoc (report_text names n u) (flat_map (report_text names n) other) y))
reports_back names n spot (t ∷ told) [] x y a b p q e =
    absurd (not_past names n t y _ q (sym e ∙ append_assoc (report_text names n t) (flat_map (report_text names n) told) x))
reports_back names n spot (t ∷ told) (u ∷ other) x y a b p q e =
    let rest = flat_map (report_text names n) in
    let (one, e1) = report_back names n spot t u (rest told ++ x) (rest other ++ y) (all_first (IsReportOn spot) t told a) (all_first (IsReportOn spot) u other b)
    (sym (append_assoc (report_text names n t) (rest told) x) ∙ e ∙ append_assoc (report_text names n u) (rest other) y) in
    let (others, e2) = reports_back names n spot told other x y (all_rest (IsReportOn spot) t told a) (all_rest (IsReportOn spot) u other b) p q e1 in
    (rw (one, others) refl, e2)

pub lists_back : (names : BitmapNames) (n : ℕ) (spot : Spot) (told other : List Told) → All (IsReportOn spot) told → All (IsReportOn spot) other →
    flat_map (report_text names n) told ≡ flat_map (report_text names n) other → told ≡ other
lists_back names n spot told other a b e =
    (reports_back names n spot told other [] [] a b none none (append-nil _ ∙ e ∙ sym (append-nil _))).0 where
      none : Past n []
      none y e = cc

-- the lines of a later command

later_number : (m n : ℕ) (x y : List ℕ) → n < m → m < 2 ^ 64 → codes "command " ++ (decimal m ++ 32 ∷ x) ≡ codes "command " ++ (decimal n ++ 32 ∷ y) → ⊥
later_number m n x y lt small e =
    let (same, rest) = decimal_back m n 32 32 x y small (omega (arith, lt, small)) (omega arith) (omega arith) (append_cancel_left (codes "command ") _ _ e) in
    omega (arith, same, lt)

reports_past : (names : BitmapNames) (m n : ℕ) (told : List Told) (x : List ℕ) → n < m → m < 2 ^ 64 → Past n x →
    Past n (flat_map (report_text names m) told ++ x)
reports_past names m n [] x lt small past = past
reports_past names m n (t ∷ told) x lt small past = λ y e.
    later_number m n _ y lt small
    (sym (report_pieces names m t (flat_map (report_text names m) told ++ x)) ∙ sym (append_assoc (report_text names m t) (flat_map (report_text names m) told) x) ∙ e)

-- the line of a surface that could not be read, and what stands behind it, piece by piece
unread_pieces : (word : List ℕ) (names : BitmapNames) (q : Named) (c : Cause) (x : List ℕ) →
    unread_text word names q c ++ x ≡ word ++ (name_text names q ++ 32 ∷ (cause_text c ++ 10 ∷ x))
unread_pieces word names q c x = simp append_assoc refl

-- the text of a surface that was read is never that of one that was not
abbrev IsNoCause : List ℕ → BitmapNames → Named → (Surface → List ℕ) → Type 0
IsNoCause word names q text = (s : Surface) (c : Cause) (x y : List ℕ) → text s ++ x ≡ unread_text word names q c ++ y → ⊥

-- a dump's head has a digit where the cause's word begins
head_pieces : (names : BitmapNames) (q : Named) (size : SurfaceSize) (format : Format) (x : List ℕ) →
    head_text names q size format ++ x ≡ codes "dump " ++ (name_text names q ++ 32 ∷ (decimal size.w ++ 32 ∷ (decimal size.h ++ 32 ∷ (format_text format ++ 10 ∷ x))))
head_pieces names q size format x = simp append_assoc refl

no_cause : (n : ℕ) (c : Cause) (x y : List ℕ) → decimal n ++ x ≡ cause_text c ++ y → ⊥
no_cause n Fault x y e = no_letter 102 x _ (omega arith) n e
no_cause n Memory x y e = no_letter 109 x _ (omega arith) n e

abbrev dump_of : BitmapNames → Named → Surface → List ℕ
dump_of names q t = dump_text names q t.size t.format t.values

dump_no_cause : (names : BitmapNames) (q : Named) → IsNoCause (codes "dump ") names q (dump_of names q)
dump_no_cause names q s c x y e =
    let rows = rows_text (digits_of s.format) s.size.w s.size.h s.values in
    let head = sym (head_pieces names q s.size s.format (rows ++ x)) ∙ sym (append_assoc (head_text names q s.size s.format) rows x) ∙ e
    ∙ unread_pieces (codes "dump ") names q c y in
    no_cause s.size.w c _ _ (same_tail 32 32 _ _ (append_cancel_left (name_text names q) _ _ (append_cancel_left (codes "dump ") _ _ head)))

-- a sum has more digits than a cause has letters
sum_pieces : (names : BitmapNames) (q : Named) (sum : ℕ) (x : List ℕ) →
    sum_line_text names q sum ++ x ≡ codes "sum " ++ (name_text names q ++ 32 ∷ (hex_digits 16 sum ++ 10 ∷ x))
sum_pieces names q sum x = simp append_assoc refl

cause_line : (c : Cause) → IsLine (cause_text c)
cause_line Fault = (omega arith, (omega arith, (omega arith, (omega arith, (omega arith, tt)))))
cause_line Memory = (omega arith, (omega arith, (omega arith, (omega arith, (omega arith, (omega arith, tt))))))

cause_short : (c : Cause) → length (cause_text c) < 16
cause_short Fault = omega arith
cause_short Memory = omega arith

abbrev sum_of_surface : BitmapNames → Named → Surface → List ℕ
sum_of_surface names q t = sum_text names q t.values

sum_no_cause : (names : BitmapNames) (q : Named) → IsNoCause (codes "sum ") names q (sum_of_surface names q)
sum_no_cause names q s c x y e =
    let sum = sum_of s.values in
    let line = sym (sum_pieces names q sum x) ∙ e ∙ unread_pieces (codes "sum ") names q c y in
    let (same, rest) = line_back (hex_digits 16 sum) (cause_text c) x y (hex_line 16 sum) (cause_line c)
    (same_tail 32 32 _ _ (append_cancel_left (name_text names q) _ _ (append_cancel_left (codes "sum ") _ _ line))) in
    omega (arith, ap length same, length-hex_digits 16 sum, cause_short c)

-- what begins with another letter
read_past : (names : BitmapNames) (n a : ℕ) (word : List ℕ) (q : Named) (told : List Told) (text : Surface → List ℕ) (from : Option Surface) (x : List ℕ) →
    99 < a → ((s : Surface) → (r : List ℕ) × (text s ≡ a ∷ r)) → Past n x → Past n (read_text (a ∷ word) names q told text from ++ x)
read_past names n a word q [] text None x later begins past = past
read_past names n a word q [] text (Some s) x later begins past = λ y e.
    let (r, is) = begins s in
    let h : a ≡ 99 = same_head a 99 (r ++ x) _ (rw is at e) in omega (arith, h, later)
read_past names n a word q (t ∷ told) text from x later begins past = λ y e.
    let h : a ≡ 99 = same_head a 99 _ _ e in omega (arith, h, later)

end_past : (n k : ℕ) → Past n (end_text k)
end_past n k y e = let h : 101 ≡ 99 = same_head 101 99 _ _ e in omega (arith, h)

command_past : (names : BitmapNames) (m n : ℕ) (c : ScriptCommand) (told : List Told) (s : State) (x : List ℕ) → n < m → m < 2 ^ 64 → Past n x →
    Past n (text_of names m c told s ++ x)
command_past names m n (Draw c) told s x lt small past = reports_past names m n told x lt small past
command_past names m n (Dump q) told s x lt small past =
    read_past names n 100 (codes "ump ") q told (dump_of names q) (surface_at s q) x (omega arith) (λ t. (_, refl)) past
command_past names m n (Sum q) told s x lt small past =
    read_past names n 115 (codes "um ") q told (sum_of_surface names q) (surface_at s q) x (omega arith) (λ t. (_, refl)) past
command_past names m n (Create o) told s x lt small past = past
command_past names m n (Delete b) told s x lt small past = past
command_past names m n (Brush o) told s x lt small past = past
command_past names m n Nothing told s x lt small past = past

body_past : (names : BitmapNames) (m n k : ℕ) (h : List Entry) (s : State) → n < m → m + length h ≤ 2 ^ 64 → Past n (body names m h s ++ end_text k)
body_past names m n k [] s lt small = end_past n k
body_past names m n k (e ∷ es) s lt small =
    let t = carried e.command e.told s in
    subst (Past n) (sym (append_assoc (text_of names m e.command e.told s) (body names (m + 1) es t) (end_text k)))
    (command_past names m n e.command e.told s _ lt (omega (arith, small))
    (body_past names (m + 1) n k es t (omega (arith, lt)) (omega (arith, small))))

-- a history

has_number : (s : State) (q : Named) (t : Surface) → length s.screens < 2 ^ 64 → surface_at s q ≡ Some t → HasNumber q
has_number s (Bitmap n) t small there = tt
has_number s (Screen n) t small there = let in_list = slice_get_within s.screens n t there in omega (arith, in_list, small)

-- a rectangle that lies in a surface has edges of 32 bits
rect_edges : (r : Rect) (size : SurfaceSize) → HasSides size → LiesIn r size → HasEdges r
rect_edges r size sides h = record {
  left = (omega (arith, ints, h.left), omega (arith, ints, h.across, h.right, sides.1));
  top = (omega (arith, ints, h.top), omega (arith, ints, h.down, h.bottom, sides.3));
  right = (omega (arith, ints, h.left, h.across), omega (arith, ints, h.right, sides.1));
  bottom = (omega (arith, ints, h.top, h.down), omega (arith, ints, h.bottom, sides.3));
}

screen_sides : (ts : List Surface) (n : ℕ) (t : Surface) → All (λ (u : Surface). HasSides u.size) ts → slice_get ts n ≡ Some t → HasSides t.size
screen_sides [] n t all e = absurd (none-some _ e)
screen_sides (u ∷ ts) zero t all e = subst (λ (v : Surface). HasSides v.size) (same_Some _ _ e) (All-head (λ (v : Surface). HasSides v.size) u ts all)
screen_sides (u ∷ ts) (suc n) t all e = screen_sides ts n t (All-tail (λ (v : Surface). HasSides v.size) u ts all) e

report_edges : (s : State) (c : DeskCommand) (q : Named) (t : Surface) (rects : List Rect) → All (λ (u : Surface). HasSides u.size) s.screens →
    surface_at s q ≡ Some t → All (IsPart s c q t.size) rects → IsUndrawn q rects → All HasEdges rects
report_edges s c (Screen n) t rects sides there parts undrawn =
    λ k d lt. rect_edges _ t.size (screen_sides s.screens n t sides there) (parts k d lt).inside
report_edges s c (Bitmap n) t rects sides there parts undrawn = rw undrawn (All-nil HasEdges)

report_is : (s : State) (c : DeskCommand) (t : Told) → length s.screens < 2 ^ 64 → All (λ (u : Surface). HasSides u.size) s.screens → IsReport s c t →
    IsReportOn c.target t
report_is s c t small sides is = record {
  target = is.meets.target;
  number = has_number s t.target is.meets.surface small is.meets.there;
  count = is.few;
  edges = report_edges s c t.target is.meets.surface t.rects sides is.meets.there is.parts is.undrawn;
}

reports_are : (s : State) (c : DeskCommand) (told : List Told) → length s.screens < 2 ^ 64 → All (λ (u : Surface). HasSides u.size) s.screens →
    All (IsReport s c) told → All (IsReportOn c.target) told
reports_are s c told small sides all = λ k d lt. report_is s c _ small sides (all k d lt)

-- a command leaves the sides of the screens
drawn_sides : (s : State) (c : DeskCommand) (told : List Told) (n : ℕ) (ts : List Surface) → All (λ (u : Surface). HasSides u.size) ts →
    All (λ (u : Surface). HasSides u.size) (drawn_screens s c told n ts)
drawn_sides s c told n [] all = All-nil (λ (u : Surface). HasSides u.size)
drawn_sides s c told n (t ∷ ts) all =
    All-cons (λ (u : Surface). HasSides u.size) _ _ (All-head (λ (u : Surface). HasSides u.size) t ts all)
    (drawn_sides s c told (n + 1) ts (All-tail (λ (u : Surface). HasSides u.size) t ts all))

on_sides : (s : State) (c : DeskCommand) (told : List Told) (spot : Spot) → All (λ (u : Surface). HasSides u.size) s.screens →
    All (λ (u : Surface). HasSides u.size) (drawn_on s c told spot).screens
on_sides s c told spots.Desk all = drawn_sides s c told 0 s.screens all
on_sides s c told (spots.Bitmap n) all = all

carried_sides : (s : State) (c : ScriptCommand) (told : List Told) → All (λ (u : Surface). HasSides u.size) s.screens →
    All (λ (u : Surface). HasSides u.size) (carried c told s).screens
carried_sides s (Draw c) told all = on_sides s c told c.target all
carried_sides s (Dump q) told all = all
carried_sides s (Sum q) told all = all
carried_sides s (Create o) told all = all
carried_sides s (Delete n) told all = all
carried_sides s (Brush o) told all = all
carried_sides s Nothing told all = all

-- a command leaves as many screens as there were
drawn_length : (s : State) (c : DeskCommand) (told : List Told) (n : ℕ) (ts : List Surface) → length (drawn_screens s c told n ts) ≡ length ts
drawn_length s c told n [] = refl
drawn_length s c told n (t ∷ ts) = ap suc (drawn_length s c told (n + 1) ts)

on_length : (s : State) (c : DeskCommand) (told : List Told) (spot : Spot) → length (drawn_on s c told spot).screens ≡ length s.screens
on_length s c told spots.Desk = drawn_length s c told 0 s.screens
on_length s c told (spots.Bitmap n) = refl

carried_length : (s : State) (c : ScriptCommand) (told : List Told) → length (carried c told s).screens ≡ length s.screens
carried_length s (Draw c) told = on_length s c told c.target
carried_length s (Dump q) told = refl
carried_length s (Sum q) told = refl
carried_length s (Create o) told = refl
carried_length s (Delete n) told = refl
carried_length s (Brush o) told = refl
carried_length s Nothing told = refl

-- a read's report and what stands behind its lines
same_unread : (s : State) (q : Named) (t u : Told) → IsUnread s q t → IsUnread s q u → t.cause ≡ u.cause → t ≡ u
same_unread s q t u a b cause = same_report t u (a.target ∙ sym b.target) cause (a.nothing ∙ sym b.nothing)

read_back : (word : List ℕ) (names : BitmapNames) (s : State) (q : Named) (told other : List Told) (text : Surface → List ℕ) (from : Option Surface) (x y : List ℕ) →
    surface_at s q ≡ from → IsNoCause word names q text → ReadTells s q told → ReadTells s q other →
    read_text word names q told text from ++ x ≡ read_text word names q other text from ++ y → (told ≡ other) × (x ≡ y)
read_back word names s q [] [] text from x y is none a b e = (refl, append_cancel_left _ x y e)
read_back word names s q [] (u ∷ other) text None x y is none a b e =
    absurd (subst (λ (o : Option Surface). MatchOption o ⊥ (λ surface. Unit {0})) is b.0.there)
read_back word names s q [] (u ∷ other) text (Some t) x y is none a b e = absurd (none t u.cause x y e)
read_back word names s q (t ∷ told) [] text None x y is none a b e =
    absurd (subst (λ (o : Option Surface). MatchOption o ⊥ (λ surface. Unit {0})) is a.0.there)
read_back word names s q (t ∷ told) [] text (Some u) x y is none a b e = absurd (none u t.cause y x (sym e))
read_back word names s q (t ∷ told) (u ∷ other) text from x y is none a b e =
    let named = append_cancel_left word _ _ (sym (unread_pieces word names q t.cause x) ∙ e ∙ unread_pieces word names q u.cause y) in
    let (cause, rest) = cause_back t.cause u.cause 10 x y (same_tail 32 32 _ _ (append_cancel_left (name_text names q) _ _ named)) in
    (rw (same_unread s q t u a.0 b.0 cause, a.1, b.1) refl, rest)

-- one command's reports and what stands behind its lines
command_back : (names : BitmapNames) (n : ℕ) (c : ScriptCommand) (told other : List Told) (s : State) (x y : List ℕ) → length s.screens < 2 ^ 64 →
    All (λ (u : Surface). HasSides u.size) s.screens → MayTell s c told → MayTell s c other → Past n x → Past n y → text_of names n c told s ++ x ≡ text_of names n c other s ++ y → (told ≡ other) × (x ≡ y)
command_back names n (Draw c) told other s x y small sides a b p q e =
    reports_back names n c.target told other x y (reports_are s c told small sides a.each) (reports_are s c other small sides b.each) p q e
command_back names n (Dump d) told other s x y small sides a b p q e =
    read_back (codes "dump ") names s d told other (dump_of names d) (surface_at s d) x y refl (dump_no_cause names d) a b e
command_back names n (Sum d) told other s x y small sides a b p q e =
    read_back (codes "sum ") names s d told other (sum_of_surface names d) (surface_at s d) x y refl (sum_no_cause names d) a b e
command_back names n (Create o) told other s x y small sides a b p q e = (a ∙ sym b, e)
command_back names n (Delete d) told other s x y small sides a b p q e = (a ∙ sym b, e)
command_back names n (Brush o) told other s x y small sides a b p q e = (a ∙ sym b, e)
command_back names n Nothing told other s x y small sides a b p q e = (a ∙ sym b, e)

-- what is the same in all its parts
same_first : (c d : ScriptCommand) (cs ds : List ScriptCommand) → c ∷ cs ≡ d ∷ ds → c ≡ d
same_first c d cs ds e = cc

same_others : (c d : ScriptCommand) (cs ds : List ScriptCommand) → c ∷ cs ≡ d ∷ ds → cs ≡ ds
same_others c d cs ds e = cc

abbrev entry_of : ScriptCommand → List Told → Entry
entry_of command told = record { command = command; told = told }

same_entry : (e f : Entry) → e.command ≡ f.command → e.told ≡ f.told → e ≡ f
same_entry e f command told = ap (λ (c : ScriptCommand). entry_of c e.told) command ∙ ap (λ (ts : List Told). entry_of f.command ts) told

-- the same commands from one state, with the last line behind them
body_back : (names : BitmapNames) (n j k : ℕ) (h g : List Entry) (s : State) → n + length h ≤ 2 ^ 64 → length s.screens < 2 ^ 64 →
    All (λ (u : Surface). HasSides u.size) s.screens → MayTellAll s h → MayTellAll s g → commands_of h ≡ commands_of g → body names n h s ++ end_text j ≡ body names n g s ++ end_text k → h ≡ g
body_back names n j k [] [] s small few sides a b same e = refl
body_back names n j k [] (f ∷ fs) s small few sides a b same e = absurd (let long = ap length same in omega (arith, long))
body_back names n j k (f ∷ fs) [] s small few sides a b same e = absurd (let long = ap length same in omega (arith, long))
body_back names n j k (f ∷ fs) (g ∷ gs) s small few sides a b same e =
    let command = same_first f.command g.command (commands_of fs) (commands_of gs) same in
    let others = same_others f.command g.command (commands_of fs) (commands_of gs) same in
    let long : length gs ≡ length fs = sym (length-map gs (λ (x : Entry). x.command)) ∙ ap length (sym others) ∙ length-map fs (λ (x : Entry). x.command) in
    let after = λ (x : Entry). carried x.command x.told s in
    let (told, rest) = command_back names n f.command f.told g.told s (body names (n + 1) fs (after f) ++ end_text j) (body names (n + 1) gs (after g) ++ end_text k)
    few sides a.0 (rw (sym command) at b.0)
    (body_past names (n + 1) n j fs (after f) (omega arith) (omega (arith, small)))
    (body_past names (n + 1) n k gs (after g) (omega arith) (omega (arith, small, long)))
    (sym (append_assoc (text_of names n f.command f.told s) (body names (n + 1) fs (after f)) (end_text j)) ∙ e
    ∙ append_assoc (text_of names n g.command g.told s) (body names (n + 1) gs (after g)) (end_text k)
    ∙ ap (λ (c : ScriptCommand). text_of names n c g.told s ++ (body names (n + 1) gs (after g) ++ end_text k)) (sym command)) in
    let entry : f ≡ g = same_entry f g command told in
    let state : after f ≡ after g = ap after entry in
    let rests = body_back names (n + 1) j k fs gs (after f) (omega (arith, small)) (rw (carried_length s f.command f.told) few) (carried_sides s f.command f.told sides) a.1 (rw (sym state) at b.1) others (rest ∙ rw state refl) in
    rw (entry, rests) refl

pub histories_back : (names : BitmapNames) (s : State) (h g : List Entry) → length h < 2 ^ 64 → length s.screens < 2 ^ 64 →
    All (λ (u : Surface). HasSides u.size) s.screens → MayTellAll s h → MayTellAll s g → commands_of h ≡ commands_of g → out names h s ≡ out names g s → h ≡ g
histories_back names s h g small few sides a b same e = body_back names 1 (length h) (length g) h g s (omega (arith, small)) few sides a b same e
