use Rattle.std.proofs.Common.{◌≡◌, ◌∙◌, ℕ, ℤ, ◌+◌, ◌-◌, ◌≤◌, ◌<ℤ◌, ◌≤ℤ◌, pos, negsuc, List, [], ◌∷◌, ◌++◌, false, refl, ap, sym, subst}
use Rattle.std.proofs.Common.{arith, ◌⊎◌, inl, inr, int_lt, append_assoc, length-append}
use Rattle.std.proofs.lemmas.Int.{ints}
use Rattle.region.specs.declared.strip.Strip.{Strip}
use Rattle.region.specs.declared.cover.Cover.{Cover}
use Rattle.region.specs.declared.cover.Cover.TheVariants.{Cell, Pair'}
use Rattle.region.specs.InnerRow.{empty_row}
use Rattle.region.specs.InnerCover.{strip_of, IsShaped, IsRowOf, Splits, SameShape}
use Rattle.region.specs.InnerEdges.{right_edges, IsBuilt}
use Rattle.region.proofs.StepLemmas.{ge_is}
use Rattle.region.proofs.CoverLemmas.{has_width}
use Rattle.region.proofs.CoverTurnLemmas.{told, beside_told}

-- an edge that is not inside the strip splits none of its cells
pub splits_outside : (t : Cover) → IsShaped t → (e : ℤ) → (e ≤ℤ (strip_of t).from) ⊎ ((strip_of t).to ≤ℤ e) → Splits e t
splits_outside (Cell s) h e o = o
splits_outside (Pair' s p l q r) h e (inl o) =
    let a : (strip_of l).from <ℤ (strip_of l).to = has_width l h.4 in
    (splits_outside l h.4 e (inl (omega (arith, ints, o, h.0))), splits_outside r h.5 e (inl (omega (arith, ints, o, h.0, h.1, a))))
splits_outside (Pair' s p l q r) h e (inr o) =
    let b : (strip_of r).from <ℤ (strip_of r).to = has_width r h.5 in
    (splits_outside l h.4 e (inr (omega (arith, ints, o, h.2, h.1, b))), splits_outside r h.5 e (inr (omega (arith, ints, o, h.2))))

-- all edges of a list do
abbrev pub AllEdges : (ℤ → Type 0) → List ℤ → Type 0
AllEdges P [] = Unit {0}
AllEdges P (e ∷ edges) = P e × AllEdges P edges

all_append : (P : ℤ → Type 0) (a b : List ℤ) → AllEdges P a → AllEdges P b → AllEdges P (a ++ b)
all_append P [] b h k = k
all_append P (e ∷ a) b h k = (h.0, all_append P a b h.1 k)

all_weaker : (P Q : ℤ → Type 0) → ((e : ℤ) → P e → Q e) → (a : List ℤ) → AllEdges P a → AllEdges Q a
all_weaker P Q f [] h = tt
all_weaker P Q f (e ∷ a) h = (f e h.0, all_weaker P Q f a h.1)

-- the right edges lie in the strip and split no cell
pub record IsEdgeOf (t : Cover) (e : ℤ) : Type 0 where
  pub splits : Splits e t
  pub from : (strip_of t).from ≤ℤ e
  pub to : e ≤ℤ (strip_of t).to

pub edges_split : (t : Cover) → IsShaped t → AllEdges (IsEdgeOf t) (right_edges t)
edges_split (Cell s) h = (record { splits = inr (omega (arith, ints)); from = omega (arith, ints, h.0); to = omega (arith, ints) }, tt)
edges_split (Pair' s p l q r) h =
    let a : (strip_of l).from <ℤ (strip_of l).to = has_width l h.4 in
    let b : (strip_of r).from <ℤ (strip_of r).to = has_width r h.5 in
    all_append (IsEdgeOf (Pair' s p l q r)) (right_edges l) (right_edges r)
    (all_weaker (IsEdgeOf l) (IsEdgeOf (Pair' s p l q r))
    (λ e k. record {
      splits = (k.splits, splits_outside r h.5 e (inl (omega (arith, ints, k.to, h.1))));
      from = omega (arith, ints, k.from, h.0);
      to = omega (arith, ints, k.to, h.1, h.2, b);
    }) (right_edges l) (edges_split l h.4))
    (all_weaker (IsEdgeOf r) (IsEdgeOf (Pair' s p l q r))
    (λ e k. record {
      splits = (splits_outside l h.4 e (inr (omega (arith, ints, k.from, h.1))), k.splits);
      from = omega (arith, ints, k.from, h.1, h.0, a);
      to = omega (arith, ints, k.to, h.2);
    }) (right_edges r) (edges_split r h.5))

pub first_is_edge : (t : Cover) → IsShaped t → IsEdgeOf t (strip_of t).from
first_is_edge t h = let a : (strip_of t).from <ℤ (strip_of t).to = has_width t h in
    record { splits = splits_outside t h (strip_of t).from (inl (omega (arith, ints))); from = omega (arith, ints); to = omega (arith, ints, a) }

pub splits_same : (a b : Cover) (e : ℤ) → SameShape a b → Splits e a → Splits e b
splits_same (Cell s) (Cell t) e h (inl k) = inl (omega (arith, ints, k, h.0))
splits_same (Cell s) (Cell t) e h (inr k) = inr (omega (arith, ints, k, h.1))
splits_same (Cell s) (Pair' t p l q r) e h k = absurd h
splits_same (Pair' s p l q r) (Cell t) e h k = absurd h
splits_same (Pair' s p l q r) (Pair' t p2 l2 q2 r2) e h k = (splits_same l l2 e h.1 k.0, splits_same r r2 e h.2 k.1)

-- building

abbrev pub new_strip : ℤ → ℤ → ℕ → Strip
new_strip from to size = record { from = from; to = to; size = size; until = negsuc 2147483647; row = empty_row; steady = pos 2147483647 }

not_before : (y : ℤ) → negsuc 2147483647 ≤ℤ y → int_lt y (negsuc 2147483647) ≡ false
not_before y h = ge_is y (negsuc 2147483647) h

pub pair_built : (from : ℤ) (edges : List ℤ) (n m : ℕ) (p : _) (l : Cover) (q : _) (r : Cover) (middle rest : List ℤ) → IsBuilt from edges n l middle →
    IsBuilt (strip_of l).to middle m r rest →
    IsBuilt from edges (n + m) (Pair' (new_strip (strip_of l).from (strip_of r).to ((strip_of l).size + (strip_of r).size)) p l q r) rest
pair_built from edges n m p l q r middle rest a b =
    let s : Strip = new_strip (strip_of l).from (strip_of r).to ((strip_of l).size + (strip_of r).size) in
    let long = length-append (right_edges l) (right_edges r) in
    record {
      edges_are = a.edges_are ∙ ap (λ u. right_edges l ++ u) b.edges_are ∙ sym (append_assoc (right_edges l) (right_edges r) rest);
      count_is = omega (arith, long, a.count_is, b.count_is);
      size = omega (arith, a.size, b.size);
      from_is = a.from_is;
      from_fits = a.from_fits;
      to_fits = b.to_fits;
      rising = b.rising;
      row = refl;
      cover = record {
        shaped = (refl, sym b.from_is, refl, refl, a.cover.shaped, b.cover.shaped);
        seen = (
          (λ y i j.
              let d : int_lt y s.until ≡ false = not_before y i in
              beside_told (Pair' s p l q r) l r y empty_row empty_row
              (subst (IsRowOf l y) a.row (told (negsuc 2147483647) l a.cover.seen y i (omega (arith, ints, j, a.steady))))
              (subst (IsRowOf r y) b.row (told (negsuc 2147483647) r b.cover.seen y i (omega (arith, ints, j, b.steady)))) (rw d refl) (rw d refl) (rw d refl)
              (rw d refl)),
          (λ y i j. inr (omega (arith, ints, j, a.steady), omega (arith, ints, j, b.steady))),
          a.cover.seen,
          b.cover.seen,
        );
      };
      steady = refl;
      bare = λ y x h. rw (not_before y h, a.bare y x h, b.bare y x h) refl;
    }

-- the same with the names that code has
pub pair_is_built : (from : ℤ) (edges : List ℤ) (count half : ℕ) (s : Strip) (p : _) (l m : Cover) (q : _) (r n : Cover) (middle rest : List ℤ) → half ≤ count →
    IsBuilt from edges half l middle → IsBuilt (strip_of l).to middle (count - half) r rest →
    m ≡ l → n ≡ r → s ≡ new_strip (strip_of l).from (strip_of r).to ((strip_of l).size + (strip_of r).size) → IsBuilt from edges count (Pair' s p m q n) rest
pair_is_built from edges count half s p l m q r n middle rest h a b em en es =
    let whole : half + (count - half) ≡ count = omega (arith, h) in
    subst (λ k. IsBuilt from edges k (Pair' s p m q n) rest) whole (subst (λ u. IsBuilt from edges (half + (count - half)) (Pair' u p m q n) rest) (sym es)
    (subst (λ u. IsBuilt from edges (half + (count - half))
    (Pair' (new_strip (strip_of l).from (strip_of r).to ((strip_of l).size + (strip_of r).size)) p u q n) rest) (sym em)
    (subst (λ u. IsBuilt from edges (half + (count - half))
    (Pair' (new_strip (strip_of l).from (strip_of r).to ((strip_of l).size + (strip_of r).size)) p l q u) rest) (sym en)
    (pair_built from edges half (count - half) p l q r middle rest a b))))
