-- Counts behind a checkpoint.
use Rattle.std.proofs.Common.{◌≡◌, ℕ, ◌+◌, Bool, true, false, cond, eqb, List, [], ◌∷◌, ◌++◌, map, Option, Some, None, inl, inr, sym, refl, ap, subst, ◌∙◌}
use Rattle.std.specs.Prelude.{◌||◌}
use Rattle.std.proofs.lemmas.Bool.{cases_Bool, or_left}
use Rattle.nl_types.specs.Plain.NumberLists.{NoneTwice, is_one_of}
use Rattle.nl_types.specs.Blocks.PartialMaps.{Partial, put, put_each}
use Rattle.nl_types.specs.Blocks.Entries.{Birth, Entry, GivenOnce, birth_of, born_at, ended_at, is_needed, number_of, written, written_at}
use Rattle.nl_types.specs.Blocks.Lifetimes.{WritesAreByNumber}
use Rattle.nl_types.specs.Blocks.NeedLaws.{CheckpointsKeepNeeds}
use Rattle.nl_vstore.specs.Batches.{Changes}
use Rattle.nl_vstore.specs.Counts.{NeededAreStanding, needed_places}
use Rattle.nl_vstore.specs.Located.{entry_needed}
use Rattle.nl_vstore.specs.Stores.{IsStore, Store, address_in, capacity, content_in}
use Rattle.nl_reclaim.specs.PrivateCounts.Adding.{GetBlocks, mixed}
use Rattle.nl_reclaim.specs.Counted.{Counted, IsCounted}
use Rattle.nl_reclaim.specs.EndLists.{noted_ends}
use Rattle.nl_reclaim.specs.Events.{IsNextWritten}
use Rattle.nl_reclaim.specs.PrivateCounts.Places.{AreCountsIn}
use Rattle.nl_reclaim.proofs.JoinedCounts.{counted-are-needed, has-block, needed-are-counted, same-places}
use Rattle.nl_reclaim.proofs.StoreChanges.{SameSizes, counts-between, ends-between, sizes-with-logs}
use Rattle.nl_reclaim.proofs.WrittenEnds.{CanBeWritten, born-of, ended-entry, fits-can-be-written, kept-entry, live-needed, new-below, new-ends}

-- ---- the numbers of births

abbrev pub numbers_of : List Birth → List ℕ
numbers_of births = map number_of births

among-births : (births : List Birth) (v : ℕ) → is_one_of (numbers_of births) v ≡ true
    → (b : Birth) × (birth_of births v ≡ Some b)
among-births [] v is = cc
among-births (b ∷ births) v is = elim (cases_Bool (eqb v b.number)) [
  | inl here ↦ (b, ap (λ t. cond {A = Option Birth} t (Some b) (birth_of births v)) here)
  | inr other ↦
      let rest = among-births births v (sym (ap (λ t. t || is_one_of (numbers_of births) v) other) ∙ is) in
      (rest.0, ap (λ t. cond {A = Option Birth} t (Some b) (birth_of births v)) other ∙ rest.1)
]

no-birth : (births : List Birth) (v : ℕ) → is_one_of (numbers_of births) v ≡ false → birth_of births v ≡ None
no-birth [] v is = refl
no-birth (b ∷ births) v is = elim (cases_Bool (eqb v b.number)) [
  | inl here ↦
      absurd
      (let wrong : false ≡ true = sym is ∙ or_left (eqb v b.number) (is_one_of (numbers_of births) v) here in
      cc)
  | inr other ↦
      ap (λ t. cond {A = Option Birth} t (Some b) (birth_of births v)) other
      ∙ no-birth births v (sym (ap (λ t. t || is_one_of (numbers_of births) v) other) ∙ is)
]

births-once : (births : List Birth) → GivenOnce births → NoneTwice (numbers_of births)
births-once [] once = tt
births-once (b ∷ births) once = (
  elim (cases_Bool (is_one_of (numbers_of births) b.number)) [
    | inl among ↦
        let (other, is) = among-births births b.number among in
        absurd (let wrong : ◌≡◌ {A = Option Birth} None (Some other) = sym once.0 ∙ is in cc)
    | inr none ↦ none
  ],
  births-once births once.1,
)

-- where none is born all stays
put_each-others : (births : List Birth) (at : List ℕ) (m : Partial ℕ) (v : ℕ)
    → is_one_of (numbers_of births) v ≡ false → put_each number_of (λ b. b) births at m v ≡ m v
put_each-others [] at m v none = refl
put_each-others (b ∷ births) [] m v none = refl
put_each-others (b ∷ births) (a ∷ at) m v none = elim (cases_Bool (eqb v b.number)) [
  | inl here ↦
      absurd (let wrong : false ≡ true = sym none
      ∙ or_left (eqb v b.number) (is_one_of (numbers_of births) v) here in
      cc)
  | inr other ↦
      put_each-others births at (put m b.number a) v
      (sym (ap (λ t. t || is_one_of (numbers_of births) v) other) ∙ none)
      ∙ ap (λ t. cond {A = Option ℕ} t (Some a) (m v)) other
]

-- ---- the counts

module _ (standing : NeededAreStanding) (keep : CheckpointsKeepNeeds) (by_number : WritesAreByNumber)
    (checkpoint : ℕ) (changes : Changes) (kept : List ℕ) (old new : Store)
    (next : IsNextWritten checkpoint changes kept old new) (store : IsStore new) where
  abbrev births : List Birth
  births = changes.births

  abbrev later : ℕ
  later = next.latest + 1

  sizes : SameSizes old.segments new.segments
  sizes =
      sizes-with-logs old.segments new.segments next.written.appended.logs next.stamp
      next.written.appended.segments

  content-now : (v : ℕ) → content_in new v ≡ written births changes.ends later (content_in old) v
  content-now v =
      ap (λ f. f v) next.written.content
      ∙ ap (λ n. written births changes.ends n (content_in old) v) next.next

  can : CanBeWritten births changes.ends (content_in old)
  can = fits-can-be-written (capacity old) (content_in old) changes next.fits

  -- a birth is new
  born-now : (v : ℕ) → is_one_of (numbers_of births) v ≡ true
      → (b : Birth) × (content_in new v ≡ Some (born_at later b))
  born-now v among =
      let (b, is) = among-births births v among in (
        b,
        content-now v ∙ by_number births changes.ends later v (content_in old) next.fits.once
            ∙ ap (λ (o : Option Birth). written_at o (is_one_of changes.ends v) later (content_in old v)) is,
      )

  unused-before : (v : ℕ) → is_one_of (numbers_of births) v ≡ true → content_in old v ≡ None
  unused-before v among =
      let (b, is) = among-births births v among in next.fits.unused v (born-of births v b is)

  -- and all others stay where they are
  stays-there : (v : ℕ) → is_one_of (numbers_of births) v ≡ false → address_in new v ≡ address_in old v
  stays-there v none =
      ap (λ f. f v) next.written.address ∙ put_each-others births next.written.at (address_in old) v none

  abbrev old_places : Partial ℕ
  old_places = needed_places old (is_needed kept)

  abbrev new_places : Partial ℕ
  new_places = needed_places new (is_needed (kept ++ later ∷ []))

  unneeded : (v : ℕ) → content_in old v ≡ None → old_places v ≡ None
  unneeded v none =
      ap (λ (o : Option Entry). cond {A = Option ℕ} (entry_needed (is_needed kept) o) (address_in old v) None)
      none

  pub births-get-blocks : GetBlocks new (numbers_of births) old_places
  births-get-blocks = record {
    have = record {
      once = births-once births next.fits.once;
      now = λ v among. let (b, is) = born-now v among in has-block new v (born_at later b) is;
    };
    before = λ v among. unneeded v (unused-before v among);
  }

  pub counted-before : (c : Counted) → IsCounted old kept c → AreCountsIn new old_places c.counts
  counted-before c counted = counts-between old new sizes old_places c.counts
      (rw counted.counts (needed-are-counted standing old (is_needed kept) next.sound))

  -- what a number is counted for
  abbrev place-of : Bool → Option ℕ → Option ℕ
  place-of t o = cond {A = Option ℕ} t o None

  born-place : (v : ℕ) → is_one_of (numbers_of births) v ≡ true → new_places v ≡ address_in new v
  born-place v among =
      let (b, is) = born-now v among in
      ap (λ (o : Option Entry). place-of (entry_needed (is_needed (kept ++ later ∷ [])) o) (address_in new v))
      is
      ∙ ap (λ t. place-of t (address_in new v)) (live-needed (kept ++ later ∷ []) (born_at later b) refl)

  other-entry : (v : ℕ) (e : Entry) → content_in old v ≡ Some e
      → (f : Entry) × (written births changes.ends later (content_in old) v ≡ Some f)
  other-entry v e at = elim (cases_Bool (is_one_of changes.ends v)) [
    | inl ends ↦ (
      ended_at later e,
      ended-entry keep by_number (capacity old) changes kept next.latest
          (content_in old) next.fits next.is_latest.bounded next.is_latest.there v e at ends,
    )
    | inr lives ↦ (
      e,
      kept-entry keep by_number (capacity old) changes kept next.latest
          (content_in old) next.fits next.is_latest.bounded next.is_latest.there v e at lives,
    )
  ]

  other-place : (v : ℕ) → is_one_of (numbers_of births) v ≡ false → old_places v ≡ new_places v
  other-place v none = by (content_in old v) refl
    where
      unborn : birth_of births v ≡ None
      unborn = no-birth births v none

      nothing : content_in old v ≡ None → content_in new v ≡ None
      nothing at = content-now v ∙ by_number births changes.ends later v (content_in old) next.fits.once
          ∙ ap (λ (o : Option Birth). written_at o (is_one_of changes.ends v) later (content_in old v)) unborn
          ∙ ap (written_at None (is_one_of changes.ends v) later) at ∙ none-stays (is_one_of changes.ends v)
        where
          none-stays : (t : Bool) → written_at None t later None ≡ None
          none-stays true = refl
          none-stays false = refl

      by : (o : Option Entry) → content_in old v ≡ o → old_places v ≡ new_places v
      by None at =
          unneeded v at
          ∙ sym (ap (λ (o : Option Entry).
          place-of (entry_needed (is_needed (kept ++ later ∷ [])) o) (address_in new v))
          (nothing at))
      by (Some e) at =
          let (f, now) = other-entry v e at in
          let same =
          keep births changes.ends kept next.latest v
          (content_in old) e f next.fits.once next.is_latest.bounded next.is_latest.there can.live
          unborn at now in
          ap (λ (o : Option Entry). place-of (entry_needed (is_needed kept) o) (address_in old v)) at
          ∙ ap (λ t. place-of t (address_in old v)) (sym same)
          ∙ ap (place-of (is_needed (kept ++ later ∷ []) f)) (sym (stays-there v none))
          ∙ sym (ap (λ (o : Option Entry).
          place-of (entry_needed (is_needed (kept ++ later ∷ [])) o) (address_in new v))
          (content-now v ∙ now))

  all-places : (v : ℕ) → mixed (numbers_of births) (address_in new) old_places v ≡ new_places v
  all-places v = elim (cases_Bool (is_one_of (numbers_of births) v)) [
    | inl among ↦
        ap (λ t. cond {A = Option ℕ} t (address_in new v) (old_places v)) among ∙ sym (born-place v among)
    | inr none ↦ ap (λ t. cond {A = Option ℕ} t (address_in new v) (old_places v)) none ∙ other-place v none
  ]

  counted-later : (c : Counted) → IsCounted old kept c → (counts : List ℕ) (room : ℕ)
      → AreCountsIn new (mixed (numbers_of births) (address_in new) old_places) counts
      → IsCounted new (kept ++ later ∷ [])
      (record { counts = counts; ends = c.ends ++ noted_ends later changes.ends; room = room })
  counted-later c counted counts room are = record {
    counts = counted-are-needed standing new (is_needed (kept ++ later ∷ [])) store counts
        (same-places new
        (mixed (numbers_of births) (address_in new) old_places) new_places counts all-places are);
    ends =
        ends-between (written births changes.ends later (content_in old)) (content_in new)
        (is_needed (kept ++ later ∷ [])) (c.ends ++ noted_ends later changes.ends) content-now
        (new-ends keep by_number (capacity old) changes kept next.latest
        (content_in old) next.fits next.is_latest.bounded next.is_latest.there c.ends next.is_latest.last
        counted.below next.ends_once counted.ends);
    below =
        new-below keep by_number (capacity old) changes kept next.latest
        (content_in old) next.fits next.is_latest.bounded next.is_latest.there c.ends next.is_latest.last
        counted.below;
  }

  pub written-is-counted : (c : Counted) → IsCounted old kept c → (counts : List ℕ) (room : ℕ)
      → AreCountsIn new (mixed (numbers_of births) (address_in new) old_places) counts
      → IsCounted new (kept ++ checkpoint ∷ [])
      (record { counts = counts; ends = c.ends ++ noted_ends checkpoint changes.ends; room = room })
  written-is-counted c counted counts room are =
      subst (λ (n : ℕ).
      IsCounted new (kept ++ n ∷ [])
      (record { counts = counts; ends = c.ends ++ noted_ends n changes.ends; room = room }))
      (sym next.next) (counted-later c counted counts room are)
