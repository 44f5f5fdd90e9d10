-- A tree is left beside another file, one node's slots after another.
use Rattle.std.proofs.Common.{◌≡◌, ℕ, suc, ◌+◌, ◌*◌, ◌<◌, ◌≤◌, Bool, List, Option, Some, None, refl, ap, sym, subst, ◌∙◌, inl, inr, arith}
use Rattle.nl_types.specs.Blocks.RootChanges.{places}
use Rattle.nl_types.specs.Blocks.Roots.{Pages, Root, Tree, child, place_at}
use Rattle.nl_check.specs.Private.BesideTrees.{HasLeft, IsAnew, Leaves, StandAt, StandsAnew}
use Rattle.nl_check.proofs.BesidePlaces.{anew-bottom, anew-here, anew-left, anew-right, anew-slots, anew-step, anew-whole, none-anew, nowhere-anew, number-here, tree-slot}
use Rattle.nl_check.proofs.LeftPlaces.{left-joined, left-nowhere, left-one}
use Rattle.nl_blocktree.specs.Facts.MetRanges.{one-under}

-- what was left of the blocks under places of a level
abbrev pub LeftUnder : Pages → (height top : ℕ) → Root → (level first bound : ℕ) → List Bool → List Bool
    → Type 0
LeftUnder pages height top other level first bound old new =
    HasLeft (ℕ × ℕ) (StandsAnew pages (Tree height top) other level first bound) old new

module _ (pages : Pages) (height top : ℕ) (other : Root) where
  -- what the other file has too is passed over
  pub left-kept : (level offset number : ℕ) (beside : Option ℕ) (now : List Bool) → beside ≡ Some number
      → StandAt pages height top other level offset number beside
      → LeftUnder pages height top other level offset (suc offset) now now
  left-kept level offset number beside now is st =
      left-nowhere (ℕ × ℕ) (StandsAnew pages (Tree height top) other level offset (suc offset)) now
      (λ at v s.
      none-anew pages height top other level offset number
      (subst (StandAt pages height top other level offset number) is st) at s.0)

  pub left-start : (level first : ℕ) (now : List Bool)
      → LeftUnder pages height top other level first first now now
  left-start level first now =
      left-nowhere (ℕ × ℕ) (StandsAnew pages (Tree height top) other level first first) now
      (λ at v s. nowhere-anew pages height top other level first at s.0)

  left-next : (level first last : ℕ) (old now new : List Bool) → first ≤ last
      → LeftUnder pages height top other level first last old now
      → LeftUnder pages height top other level last (suc last) now new
      → LeftUnder pages height top other level first (last + 1) old new
  left-next level first last old now new rises m k =
      left-joined (ℕ × ℕ) (StandsAnew pages (Tree height top) other level first last)
      (StandsAnew pages (Tree height top) other level last (suc last))
      (StandsAnew pages (Tree height top) other level first (last + 1))
      (λ at v s. elim (anew-step pages height top other level first last at s.0) [
        | inl a ↦ inl (a, s.1)
        | inr a ↦ inr (a, s.1)
      ])
      (λ at v s. (anew-left pages height top other level first last at s.0, s.1))
      (λ at v s. (anew-right pages height top other level first last rises at s.0, s.1)) old now new m k

  -- one slot more is looked at
  pub left-slot : (below offset s : ℕ) (old now new : List Bool)
      → LeftUnder pages height top other below (128 * offset) (128 * offset + s) old now
      → LeftUnder pages height top other below (128 * offset + s) (suc (128 * offset + s)) now new
      → LeftUnder pages height top other below (128 * offset) (128 * offset + (s + 1)) old new
  left-slot below offset s old now new m k =
      let next : 128 * offset + s + 1 ≡ 128 * offset + (s + 1) = omega arith in
      subst (λ (bound : ℕ). LeftUnder pages height top other below (128 * offset) bound old new) next
      (left-next below (128 * offset) (128 * offset + s) old now new (omega arith) m k)

  -- it names nothing
  pub left-none : (level below offset number : ℕ) (beside : Option ℕ) (s : ℕ) (now : List Bool)
      → level ≡ suc below → s < 128 → child pages s (Some number) ≡ None
      → StandAt pages height top other level offset number beside
      → LeftUnder pages height top other below (128 * offset + s) (suc (128 * offset + s)) now now
  left-none level below offset number beside s now e within none st =
      let nothing : place_at pages (Tree height top) below (128 * offset + s) ≡ None =
      tree-slot pages height top level below offset s e st.low within ∙ (ap (child pages s) st.here ∙ none) in
      let low = st.low in
      left-nowhere (ℕ × ℕ)
      (StandsAnew pages (Tree height top) other below (128 * offset + s) (suc (128 * offset + s))) now
      (λ at v s2.
      let no =
      one-under pages height top below (128 * offset + s) (omega (arith, low, e)) nothing at s2.0.under in
      let stands = s2.1 in cc)

  -- a block of data is left
  pub left-data : (level offset number : ℕ) (beside : Option ℕ) (old new : List Bool) → level ≡ 0
      → (beside ≡ Some number → ⊥) → Leaves number old new
      → StandAt pages height top other level offset number beside
      → LeftUnder pages height top other level offset (suc offset) old new
  left-data level offset number beside old new zero_is apart l st =
      left-one (ℕ × ℕ) (StandsAnew pages (Tree height top) other level offset (suc offset)) (level, offset)
      number
      old new
      (λ q w s.
      number-here pages height top other level offset number beside st apart q w
      (anew-bottom pages height top other level offset zero_is q s.0) s.1)
      (anew-here pages height top other level offset number beside st apart, st.here) l

  -- a node is left, and then all under it
  pub left-node : (level below offset number : ℕ) (beside : Option ℕ) (old mid new : List Bool)
      → level ≡ suc below → (beside ≡ Some number → ⊥) → Leaves number old mid
      → LeftUnder pages height top other below (128 * offset) (128 * offset + 128) mid new
      → StandAt pages height top other level offset number beside
      → LeftUnder pages height top other level offset (suc offset) old new
  left-node level below offset number beside old mid new e apart l m st =
      left-joined (ℕ × ℕ) Node
      (StandsAnew pages (Tree height top) other below (128 * offset) (128 * offset + 128))
      (StandsAnew pages (Tree height top) other level offset (suc offset))
      (λ at v s. elim (anew-whole pages height top other level below offset e at s.0) [
        | inl here ↦ inl (here, s.1)
        | inr a ↦ inr (a, s.1)
      ])
      (λ at v s. (
        subst (IsAnew pages (Tree height top) other level offset (suc offset)) (sym s.0)
            (anew-here pages height top other level offset number beside st apart),
        s.1,
      ))
      (λ at v s. (anew-slots pages height top other level below offset e at s.0, s.1)) old mid new
      (left-one (ℕ × ℕ) Node (level, offset) number old mid
      (λ q w s. number-here pages height top other level offset number beside st apart q w s.0 s.1)
      (refl, st.here) l) m
    where
      Node : ℕ × ℕ → ℕ → Type 0
      Node b v = (b ≡ (level, offset)) × (places pages (Tree height top) b ≡ Some v)
