-- A file that is left or met beside another one.
use Rattle.std.proofs.Common.{◌≡◌, ◌⊎◌, ℕ, zero, suc, ◌*◌, Bool, List, [], length, Option, Some, None, refl, ap, sym, subst, ◌∙◌, inl, inr, arith}
use Rattle.std.specs.Option.{IsSome, option_and_then}
use Rattle.nl_types.specs.Blocks.RootChanges.{places}
use Rattle.nl_types.specs.Blocks.Roots.{Chain, Empty, NoBlocks, OfChain, OfTree, Pages, Root, Tree, height_of, kind_of, numbered, place_at}
use Rattle.nl_blocktree.specs.Facts.MetPlaces.{empty-place, no-block, walked-empty}
use Rattle.nl_blocktree.specs.Facts.TreePlaces.{tree-top, under-there, under-top}
use Rattle.nl_blocktree.specs.FileShapes.{HasShape, IsSizeOf}
use Rattle.nl_blocktree.specs.Walked.{IsWalked}
use Rattle.nl_check.specs.Facts.Below.{some-by}
use Rattle.nl_check.specs.Private.SoundInodes.{IsMeasured}
use Rattle.nl_check.specs.Private.BesideTrees.{HasLeft, IsAnew, IsEndOfTree, IsMetAnew, StandAt, StandsAnew}
use Rattle.nl_check.specs.Private.ChangedFiles.{AreMetAnew, IsFileMet, IsKeptIn, IsLostIn, IsNewIn, IsWholeFile, of_height}
use Rattle.nl_check.proofs.AnewPlaces.{anew-nowhere}
use Rattle.nl_check.proofs.BesidePlaces.{kept-above}
use Rattle.nl_check.proofs.HeightsBeside.{beside-case, stands-beside}
use Rattle.nl_check.proofs.KeptPlaces.{kept-back, one-or-not}
use Rattle.nl_check.proofs.LeftPlaces.{left-among, left-nowhere}

-- ---- places of a tree, beside another file

is-of-height : (height : ℕ) (root : Root) → kind_of root ≡ OfTree → height_of root ≡ height
    → (top : ℕ) × (root ≡ Tree height top)
is-of-height height Empty kind high = absurd (let no_kind : NoBlocks ≡ OfTree = kind in cc)
is-of-height height (Chain t) kind high = absurd (let no_kind : OfChain ≡ OfTree = kind in cc)
is-of-height height (Tree g t) kind high = (t, ap (λ (k : ℕ). Tree k t) high)

shape-empty : (pages : Pages) → HasShape pages Empty
shape-empty pages = let w = walked-empty pages [] in w.can.shape

-- what a tree is walked beside has its shape, where the file before has
pub shape-beside-file : (pages : Pages) (height : ℕ) (before : Root) → IsWholeFile pages before
    → HasShape pages (of_height height before)
shape-beside-file pages height before whole = by (beside-case height before)
  where
    by : ((u : ℕ) × (before ≡ Tree height u) × (of_height height before ≡ before))
        ⊎ ((of_height height before ≡ Empty) × ((u : ℕ) → before ≡ Tree height u → ⊥))
        → HasShape pages (of_height height before)
    by (inl (u, is, one)) = subst (HasShape pages) (sym one) whole.shape
    by (inr none) = subst (HasShape pages) (sym none.0) (shape-empty pages)

module _ (pages : Pages) (height top : ℕ) (before : Root) where
  abbrev root : Root
  root = Tree height top

  abbrev other : Root
  other = of_height height before

  -- a number of the tree that isn't kept stands anew, and the other way round
  pub new-anew : (at : ℕ × ℕ) (v : ℕ) → IsNewIn pages before (Tree height top) at v
      → StandsAnew pages (Tree height top) (of_height height before) height 0 1 at v
  new-anew at v s = (
    record { under = under-there pages height top at v s.1; differs = by (beside-case height before) },
    s.1,
  )
    where
      by : ((u : ℕ) × (before ≡ Tree height u) × (of_height height before ≡ before))
          ⊎ ((of_height height before ≡ Empty) × ((u : ℕ) → before ≡ Tree height u → ⊥))
          → places pages (Tree height top) at ≡ places pages (of_height height before) at → ⊥
      by (inl (u, is, one)) e =
          s.0 (record {
            roots = inr (ap kind_of is, refl, ap height_of is);
            same = sym (e ∙ ap (λ (r : Root). places pages r at) one);
          })
      by (inr none) e =
          let stands = s.1 in
          let nothing : places pages (of_height height before) at ≡ None =
          ap (λ (r : Root). places pages r at) none.0 ∙ empty-place pages at.0 at.1 in
          let clash : Some v ≡ None = sym stands ∙ (e ∙ nothing) in cc

  pub anew-new : (at : ℕ × ℕ) (v : ℕ)
      → StandsAnew pages (Tree height top) (of_height height before) height 0 1 at v
      → IsNewIn pages before (Tree height top) at v
  anew-new at v s = (by (beside-case height before), s.1)
    where
      by : ((u : ℕ) × (before ≡ Tree height u) × (of_height height before ≡ before))
          ⊎ ((of_height height before ≡ Empty) × ((u : ℕ) → before ≡ Tree height u → ⊥))
          → IsKeptIn pages before (Tree height top) at → ⊥
      by (inl (u, is, one)) k =
          s.0.differs (sym (ap (λ (r : Root). places pages r at) one ∙ k.same))
      by (inr none) k = elim k.roots [
        | inl e ↦ none.1 top e
        | inr b ↦ (let tree = is-of-height height before b.0 b.2 in none.1 tree.0 tree.1)
      ]

  -- ---- left

  pub left-tree : (old new : List Bool)
      → HasLeft (ℕ × ℕ) (StandsAnew pages (Tree height top) (of_height height before) height 0 1) old new
      → HasLeft (ℕ × ℕ) (IsLostIn pages (Tree height top) before) old new
  left-tree old new m =
      left-among (ℕ × ℕ) (StandsAnew pages (Tree height top) (of_height height before) height 0 1)
      (IsLostIn pages (Tree height top) before)
      (λ at v s.
      let new_there = anew-new at v s in
      ((λ k. new_there.0 (kept-back pages (Tree height top) before at k)), new_there.1))
      (λ at v s. new-anew at v ((λ k. s.0 (kept-back pages before (Tree height top) at k)), s.1)) old new m

  -- ---- met

  module _ (whole : IsWholeFile pages before) (old new : List Bool)
      (m : IsMetAnew pages (Tree height top) (of_height height before) height 0 1 old new) where
    shape-beside : HasShape pages (of_height height before)
    shape-beside = shape-beside-file pages height before whole

    whole-beside : (at : ℕ × ℕ) (v : ℕ) (page : List ℕ) → places pages (of_height height before) at ≡ Some v
        → pages v ≡ Some page → length page ≡ 1024
    whole-beside at v page there is = by (beside-case height before)
      where
        by : ((u : ℕ) × (before ≡ Tree height u) × (of_height height before ≡ before))
            ⊎ ((of_height height before ≡ Empty) × ((u : ℕ) → before ≡ Tree height u → ⊥))
            → length page ≡ 1024
        by (inl (u, e, one)) = whole.whole at v page (sym (ap (λ (r : Root). places pages r at) one) ∙ there)
            is
        by (inr none) =
            absurd (
            let nothing : places pages (of_height height before) at ≡ None =
            ap (λ (r : Root). places pages r at) none.0 ∙ empty-place pages at.0 at.1 in
            let clash : Some v ≡ None = sym there ∙ nothing in cc)

    met-tree : AreMetAnew (ℕ × ℕ) (IsNewIn pages before (Tree height top)) old new
    met-tree = record {
      fresh = λ at v s. let a = new-anew at v s in m.met.fresh at v a.0 a.1;
      once = λ p q v s t.
          let a = new-anew p v s in
          let b = new-anew q v t in
          m.met.once p q v a.0 b.0 a.1 b.1;
      added = λ at v s. let a = new-anew at v s in m.met.added at v a.0 a.1;
      met_stay = m.met.met_stay;
      only = λ v is. elim (m.met.only v is) [
        | inl o ↦ inl o
        | inr w ↦ inr (w.0, anew-new w.0 v (w.1, w.2))
      ];
    }

    -- the place has its number in both, or stands anew
    cases : (at : ℕ × ℕ) (v : ℕ) → places pages (Tree height top) at ≡ Some v
        → (places pages (Tree height top) at ≡ places pages (of_height height before) at)
        ⊎ IsAnew pages (Tree height top) (of_height height before) height 0 1 at
    cases at v is =
        elim (one-or-not (places pages (Tree height top) at) (places pages (of_height height before) at)) [
          | inl e ↦ inl e
          | inr n ↦ inr (record { under = under-there pages height top at v is; differs = n })
        ]

    module _ (count : ℕ) (end : IsEndOfTree pages height top count) where
      shape-met : HasShape pages (Tree height top)
      shape-met = record {
        stored = λ level offset v is. elim (cases (level, offset) v is) [
          | inl e ↦ shape-beside.stored level offset v (sym e ∙ is)
          | inr a ↦ m.met.stored (level, offset) v a is
        ];
        has_top = λ some. subst (λ (o : Option ℕ). IsSome o) (sym end.top_there) refl;
        ends_full = λ chain. absurd (let no_kind : OfTree ≡ OfChain = chain in cc);
        tree_shape = λ tree. record {
          low = end.low;
          above_data = λ level offset v is. elim (cases (suc level, offset) v is) [
            | inl e ↦
                kept-above pages height top (of_height height before) (suc level) offset v
                (stands-beside height before) shape-beside
                (let u = under-there pages height top (suc level, offset) v is in u.low) is e
            | inr a ↦ m.above_data level offset v a is
          ];
          least = (
            end.ends.last,
            end.ends.has_data,
            λ h one near. end.least h one (let is = end.ends.is in omega (arith, is, near)),
          );
        };
      }

      pub tree-met : IsFileMet pages before (Tree height top) old new count
      tree-met = record {
        file = record {
          shape = shape-met;
          whole = λ at v page there is. elim (cases at v there) [
            | inl e ↦ whole-beside at v page (sym e ∙ there) is
            | inr a ↦ m.met.whole at v page a there is
          ];
        };
        met = met-tree;
        sized = record {
          count = count;
          is = refl;
          none_past = λ i high. no-block pages (Tree height top) i (elim (under-top pages height top (0, i)) [
            | inl u ↦ end.ends.none_past i high u
            | inr none ↦ none
          ]);
          last = inr (end.ends.last, (let is = end.ends.is in omega (arith, is)), end.ends.has_data);
        };
      }

numbered-there : (n : ℕ) → IsSome (numbered n) → numbered n ≡ Some n
numbered-there zero some = cc
numbered-there (suc n) some = refl

-- a tree that has its shape has its topmost node
pub top-there : (pages : Pages) (height top : ℕ) → HasShape pages (Tree height top)
    → place_at pages (Tree height top) height 0 ≡ Some top
top-there pages height top shape =
    let there = shape.has_top (λ e. let no_kind : OfTree ≡ NoBlocks = e in cc) in
    tree-top pages height top
    ∙ numbered-there top (subst (λ (o : Option ℕ). IsSome o) (tree-top pages height top) there)

pub stands-top : (pages : Pages) (height top : ℕ) (before : Root) (beside : Option ℕ)
    → place_at pages (Tree height top) height 0 ≡ Some top
    → place_at pages (of_height height before) height 0 ≡ beside
    → StandAt pages height top (of_height height before) height 0 top beside
stands-top pages height top before beside here there = record {
  low = omega arith;
  other_is = stands-beside height before;
  here = here;
  there = there;
}

-- ---- a file without blocks

pub left-empty : (pages : Pages) (now : Root) (met : List Bool)
    → HasLeft (ℕ × ℕ) (IsLostIn pages Empty now) met met
left-empty pages now met =
    left-nowhere (ℕ × ℕ) (IsLostIn pages Empty now) met
    (λ at v s. let none = empty-place pages at.0 at.1 in let is = s.1 in cc)

pub empty-met : (pages : Pages) (before : Root) (met : List Bool) → IsFileMet pages before Empty met met 0
empty-met pages before met = record {
  file = record {
    shape = w.can.shape;
    whole = λ at v page there is. absurd (let none = empty-place pages at.0 at.1 in cc);
  };
  met =
      anew-nowhere (ℕ × ℕ) (IsNewIn pages before Empty) met
      (λ at v s. let none = empty-place pages at.0 at.1 in let is = s.1 in cc);
  sized = w.sized;
}
  where
    w : IsWalked pages Empty met met 0
    w = walked-empty pages met

-- ---- its data

-- a file that is whole, and of which it is known where it ends, is measured
pub file-measured : (pages : Pages) (root : Root) (count : ℕ) → IsWholeFile pages root
    → IsSizeOf pages root (1024 * count) → IsMeasured pages root count
file-measured pages root count w sized = record {
  sized = sized;
  stored = λ i has.
      let v = some-by (place_at pages root 0 i) has in
      let p = some-by (pages v.0) (w.shape.stored 0 i v.0 v.1) in
      (p.0, ap (option_and_then pages) v.1 ∙ p.1);
  whole = λ i page is. by i page (place_at pages root 0 i) refl is;
}
  where
    by : (i : ℕ) (page : List ℕ) (o : Option ℕ) → place_at pages root 0 i ≡ o
        → option_and_then pages o ≡ Some page → length page ≡ 1024
    by i page None at is = cc
    by i page (Some v) at is = w.whole (0, i) v page at is
