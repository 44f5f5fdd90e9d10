-- A tree is met beside another file, one node's slots after another.
use Rattle.std.proofs.Common.{◌≡◌, ℕ, suc, ◌+◌, ◌*◌, ◌-◌, ◌/◌, ◌^◌, ◌<◌, ◌≤◌, Bool, List, Option, Some, None, refl, ap, sym, subst, ◌∙◌, inl, inr, arith}
use Rattle.std.specs.Option.{IsSome}
use Rattle.nl_types.specs.Blocks.RootChanges.{places}
use Rattle.nl_types.specs.Blocks.Roots.{Pages, Root, Tree, child, place_at}
use Rattle.nl_blocktree.specs.Facts.MetRanges.{joined, met-nowhere, met-one, one-under, range-left, range-right, slots-whole}
use Rattle.nl_blocktree.specs.Facts.TreePlaces.{above-next}
use Rattle.nl_blocktree.specs.FileShapes.{HasShape}
use Rattle.nl_blocktree.specs.TreePlaces.{IsUnder}
use Rattle.nl_blocktree.specs.Walked.{Meets}
use Rattle.nl_check.specs.Private.BesideTrees.{HasDataUnder, IsAnew, IsMetAnew, StandAt}
use Rattle.nl_check.proofs.BesidePlaces.{anew-bottom, anew-here, anew-left, anew-right, anew-slots, anew-step, anew-whole, kept-above, none-anew, nowhere-anew, tree-slot}

module _ (pages : Pages) (height top : ℕ) (other : Root) where
  abbrev root : Root
  root = Tree height top

  abbrev Anew : (level first bound : ℕ) → ℕ × ℕ → Type 0
  Anew level first bound = IsAnew pages (Tree height top) other level first bound

  -- ---- data under a range

  pub data-left : (level first last : ℕ) → HasDataUnder pages (Tree height top) level first last
      → HasDataUnder pages (Tree height top) level first (last + 1)
  data-left level first last d = (d.0, range-left level first last (0, d.0) d.1, d.2)

  data-right : (level first last : ℕ) → first ≤ last
      → HasDataUnder pages (Tree height top) level last (suc last)
      → HasDataUnder pages (Tree height top) level first (last + 1)
  data-right level first last rises d = (d.0, range-right level first last rises (0, d.0) d.1, d.2)

  next-is : (below offset s : ℕ) → 128 * offset + s + 1 ≡ 128 * offset + (s + 1)
  next-is below offset s = omega arith

  -- one slot more, which names nothing, or data stands under what it names
  pub data-before : (below offset s : ℕ)
      → HasDataUnder pages (Tree height top) below (128 * offset) (128 * offset + s)
      → HasDataUnder pages (Tree height top) below (128 * offset) (128 * offset + (s + 1))
  data-before below offset s d =
      subst (λ (bound : ℕ). HasDataUnder pages (Tree height top) below (128 * offset) bound)
      (next-is below offset s)
      (data-left below (128 * offset) (128 * offset + s) d)

  pub data-here : (below offset s : ℕ)
      → HasDataUnder pages (Tree height top) below (128 * offset + s) (suc (128 * offset + s))
      → HasDataUnder pages (Tree height top) below (128 * offset) (128 * offset + (s + 1))
  data-here below offset s d =
      subst (λ (bound : ℕ). HasDataUnder pages (Tree height top) below (128 * offset) bound)
      (next-is below offset s)
      (data-right below (128 * offset) (128 * offset + s) (omega arith) d)

  -- ---- ranges

  met-none : (level first bound : ℕ) (now : List Bool)
      → ((b : ℕ × ℕ) → Anew level first bound b → places pages (Tree height top) b ≡ None)
      → IsMetAnew pages (Tree height top) other level first bound now now
  met-none level first bound now none = record {
    met = met-nowhere pages root (Anew level first bound) now none;
    above_data = λ k q v a is. absurd (let no = none (suc k, q) a in cc);
  }

  -- what the other file has too is passed over
  pub met-kept : (level offset number : ℕ) (beside : Option ℕ) (now : List Bool) → beside ≡ Some number
      → StandAt pages height top other level offset number beside → HasShape pages other
      → IsMetAnew pages (Tree height top) other level offset (suc offset) now now
      × HasDataUnder pages (Tree height top) level offset (suc offset)
  met-kept level offset number beside now is st shape = (
    met-none level offset (suc offset) now
        (λ b a.
        absurd
        (none-anew pages height top other level offset number
        (subst (StandAt pages height top other level offset number) is st) b a)),
    (
        let d =
        kept-above pages height top other level offset number st.other_is shape st.low st.here
        (st.here ∙ sym (st.there ∙ is)) in
        let over : d.0 / 128 ^ (level - 0) ≡ offset = ap (λ (x : ℕ). d.0 / 128 ^ x) (omega arith) ∙ d.1 in (
          d.0,
          record { low = omega arith; from = omega (arith, over); below = omega (arith, over) },
          d.2,
        )
        ),
  )

  pub met-start : (level first : ℕ) (now : List Bool)
      → IsMetAnew pages (Tree height top) other level first first now now
  met-start level first now =
      met-none level first first now (λ b a. absurd (nowhere-anew pages height top other level first b a))

  met-next : (level first last : ℕ) (old now new : List Bool) → first ≤ last
      → IsMetAnew pages (Tree height top) other level first last old now
      → IsMetAnew pages (Tree height top) other level last (suc last) now new
      → IsMetAnew pages (Tree height top) other level first (last + 1) old new
  met-next level first last old now new rises m k = record {
    met =
        joined pages root (Anew level first last) (Anew level last (suc last)) (Anew level first (last + 1))
        (anew-step pages height top other level first last)
        (anew-left pages height top other level first last)
        (anew-right pages height top other level first last rises) old now new m.met k.met;
    above_data = λ l q v a is. elim (anew-step pages height top other level first last (suc l, q) a) [
      | inl h ↦ m.above_data l q v h is
      | inr h ↦ k.above_data l q v h is
    ];
  }

  -- one slot more is looked at
  pub met-slot : (below offset s : ℕ) (old now new : List Bool)
      → IsMetAnew pages (Tree height top) other below (128 * offset) (128 * offset + s) old now
      → IsMetAnew pages (Tree height top) other below (128 * offset + s) (suc (128 * offset + s)) now new
      → IsMetAnew pages (Tree height top) other below (128 * offset) (128 * offset + (s + 1)) old new
  met-slot below offset s old now new m k =
      subst (λ (bound : ℕ). IsMetAnew pages (Tree height top) other below (128 * offset) bound old new)
      (next-is below offset s)
      (met-next below (128 * offset) (128 * offset + s) old now new (omega arith) m k)

  -- it names nothing
  pub met-hole : (level below offset number : ℕ) (beside : Option ℕ) (s : ℕ) (now : List Bool)
      → level ≡ suc below → s < 128 → child pages s (Some number) ≡ None
      → StandAt pages height top other level offset number beside
      → IsMetAnew pages (Tree height top) other below (128 * offset + s) (suc (128 * offset + s)) now now
  met-hole level below offset number beside s now e within none st =
      let nothing : place_at pages (Tree height top) below (128 * offset + s) ≡ None =
      tree-slot pages height top level below offset s e st.low within ∙ (ap (child pages s) st.here ∙ none) in
      let low = st.low in
      met-none below (128 * offset + s) (suc (128 * offset + s)) now
      (λ b a. one-under pages height top below (128 * offset + s) (omega (arith, low, e)) nothing b a.under)

  module _ (level offset number : ℕ) (beside : Option ℕ) (apart : beside ≡ Some number → ⊥)
      (st : StandAt pages height top other level offset number beside) where
    here-anew : (b : ℕ × ℕ) → b ≡ (level, offset) → Anew level offset (suc offset) b
    here-anew b is =
        subst (Anew level offset (suc offset)) (sym is)
        (anew-here pages height top other level offset number beside st apart)

    -- a block of data is met
    pub met-block : (old new : List Bool) → level ≡ 0 → Meets pages number old new
        → IsMetAnew pages (Tree height top) other level offset (suc offset) old new
        × HasDataUnder pages (Tree height top) level offset (suc offset)
    met-block old new zero_is meets = (
      record {
        met =
            joined pages root (λ b. b ≡ (level, offset)) (λ b. ⊥) (Anew level offset (suc offset))
            (λ b a. inl (anew-bottom pages height top other level offset zero_is b a)) here-anew
            (λ b none. absurd none) old new new
            (met-one pages root (level, offset) number old new st.here meets)
            (met-nowhere pages root (λ b. ⊥) new (λ b none. absurd none));
        above_data = λ k q v a is. absurd (let low = a.under.low in omega (arith, low, zero_is));
      },
      (
        offset,
        subst (λ (k : ℕ). IsUnder level offset (suc offset) (k, offset)) zero_is
            (here-anew (level, offset) refl).under,
        subst (λ (o : Option ℕ). IsSome o)
            (sym st.here ∙ ap (λ (k : ℕ). place_at pages (Tree height top) k offset) zero_is) refl,
      ),
    )

    -- a node is met, and then all under it
    pub met-node : (below : ℕ) (old mid new : List Bool) → level ≡ suc below → Meets pages number old mid
        → IsMetAnew pages (Tree height top) other below (128 * offset) (128 * offset + 128) mid new
        → HasDataUnder pages (Tree height top) below (128 * offset) (128 * offset + 128)
        → IsMetAnew pages (Tree height top) other level offset (suc offset) old new
        × HasDataUnder pages (Tree height top) level offset (suc offset)
    met-node below old mid new e meets m d = (
      record {
        met =
            joined pages root (λ b. b ≡ (level, offset)) (Anew below (128 * offset) (128 * offset + 128))
            (Anew level offset (suc offset)) (anew-whole pages height top other level below offset e)
            here-anew
            (anew-slots pages height top other level below offset e) old mid new
            (met-one pages root (level, offset) number old mid st.here meets) m.met;
        above_data = λ k q v a is. elim (anew-whole pages height top other level below offset e (suc k, q) a) [
          | inl here ↦ (
            d.0,
            (
                let over = above-next level below 0 d.0 e (omega arith) in
                let from = d.1.from in
                let under = d.1.below in
                let at : suc k ≡ level = ap (λ (x : ℕ × ℕ). x.0) here in
                let place : q ≡ offset = ap (λ (x : ℕ × ℕ). x.1) here in
                let power : d.0 / 128 ^ suc k ≡ d.0 / 128 ^ (level - 0) =
                ap (λ (x : ℕ). d.0 / 128 ^ x) (omega (arith, at)) in
                omega (arith, over, from, under, place, power)
                ),
            d.2,
          )
          | inr h ↦ m.above_data k q v h is
        ];
      },
      (d.0, slots-whole level below offset e (0, d.0) (128 * offset + 128) (omega arith) d.1, d.2),
    )
