-- What a round leaves in use.
use Rattle.std.proofs.Common.{◌≡◌, ◌⊎◌, ℕ, zero, suc, ◌+◌, ◌*◌, ◌<◌, Bool, true, false, cond, eqb, List, [], ◌∷◌, Option, Some, None, inl, inr, sym, refl, ap, subst, ◌∙◌, take, arith}
use Rattle.std.specs.Prelude.{◌&&◌, ◌||◌, nat_le, nat_lt}
use Rattle.std.specs.Option.{option_map}
use Rattle.std.proofs.lemmas.Bool.{cases_Bool, eqb-true, both_ways}
use Rattle.nl_types.specs.declared.segment.SegmentInfo.{SegmentInfo}
use Rattle.nl_types.specs.declared.segment.SegmentState.{SegmentState}
use Rattle.nl_types.specs.declared.segment.SegmentState.TheVariants.{Clean, Dirty, Active, Error}
use Rattle.nl_types.specs.Blocks.Segments.{Segments, IsUsed, is_clean}
use Rattle.nl_types.specs.Blocks.Entries.{Entry, is_needed}
use Rattle.nl_types.specs.Plain.NumberLists.{is_one_of}
use Rattle.nl_types.specs.Facts.SegmentChanges.{room_of, tidy_at}
use Rattle.nl_vstore.specs.Stores.{Numbered, Store, IsStore, address_in, block_now, content_in, entry_now, is_inside, numbered_in}
use Rattle.nl_vstore.specs.Located.{entry_needed, needs}
use Rattle.nl_vstore.specs.Facts.NumberAt.{inside-of, needed-inside, needed-needs}
use Rattle.nl_vstore.specs.Facts.MovedNumbers.{among-front, blocks-moved, needs-moved, stays}
use Rattle.nl_reclaim.specs.Moves.{KeptStore, HasMovedPages, info_now, needed_now}
use Rattle.nl_reclaim.specs.Rounds.{IsRoundEvent, AreRoundEvents, IsEmptied, IsLeftOut, IsNeeded, RoundsLeaveNothingDead, is_left_out}

-- the block lies in a segment whose turn is to come
pub record IsToCome (start : KeptStore) (left : List ℕ) (b : ℕ) : Type 0 where
  pub segment : ℕ
  pub among : is_one_of left segment ≡ true
  pub inside : is_inside start.store.segments segment (Some b) ≡ true

abbrev Fate : KeptStore → List ℕ → KeptStore → ℕ → ℕ → Type 0
Fate start left s v b = IsNeeded s v ⊎ (IsLeftOut start b ⊎ IsToCome start left b)

pub record Kept (start : KeptStore) (left : List ℕ) (s : KeptStore) : Type 0 where
  pub store : IsStore s.store
  pub blocks : s.store.segments.blocks ≡ start.store.segments.blocks
  pub fate : (v b : ℕ) → address_in s.store v ≡ Some b → Fate start left s v b

inside-blocks : (s t : Segments) (i b : ℕ) → s.blocks ≡ t.blocks
    → is_inside s i (Some b) ≡ is_inside t i (Some b)
inside-blocks s t i b same = ap (λ (n : ℕ). nat_le (i * n) b && nat_lt b (i * n + n)) same

-- ---- at the start

used-fate : (start : KeptStore) (left : List ℕ) (b : ℕ) → IsStore start.store
    → ((i : ℕ) → (info_now start i).state ≡ Dirty → is_one_of left i ≡ true) → IsUsed start.store.segments b
    → IsLeftOut start b ⊎ IsToCome start left b
used-fate start left b store dirty (place, at, low) = by_state (info_now start place.segment).state refl
  where
    room : place.block < start.store.segments.blocks
    room =
        omega (
          arith,
          low,
          room_of start.store.segments.blocks start.store.segments.each store.limits.tidy.each place.segment,
        )

    inside : is_inside start.store.segments place.segment (Some b) ≡ true
    inside = inside-of start.store.segments place.segment b (omega (arith, at)) (omega (arith, at, room))

    by_state : (state : SegmentState) → (info_now start place.segment).state ≡ state
        → IsLeftOut start b ⊎ IsToCome start left b
    by_state Clean is =
        let none : (info_now start place.segment).used ≡ 0 =
        ap (λ (i : SegmentInfo). i.used)
        ((tidy_at start.store.segments.blocks start.store.segments.each store.limits.tidy.each
        place.segment).clean
        (ap is_clean is)) in
        absurd (omega (arith, low, none))
    by_state Dirty is =
        inr (record { segment = place.segment; among = dirty place.segment is; inside = inside })
    by_state Active is =
        inl (record { segment = place.segment; inside = inside; left_out = ap is_left_out is })
    by_state Error is =
        inl (record { segment = place.segment; inside = inside; left_out = ap is_left_out is })

-- ---- one event

moved-fate : (start old new : KeptStore) (segment checkpoint stamp m : ℕ) (rest : List ℕ)
    → Kept start (segment ∷ rest) old → HasMovedPages segment checkpoint stamp m old new
    → Kept start (segment ∷ rest) new
moved-fate start old new segment checkpoint stamp m rest kept has = record {
  store = has.store;
  blocks =
      blocks-moved segment checkpoint stamp
      (take m (needed_now old segment)) old.store new.store kept.store has.store kept.store.limits.tidy
      has.moved inside
      ∙ kept.blocks;
  fate = fate;
}
  where
    inside : (v : ℕ) → is_one_of (take m (needed_now old segment)) v ≡ true
        → is_inside old.store.segments segment (address_in old.store v) ≡ true
    inside v h =
        needed-inside old.store (is_needed old.kept) segment v (among-front m (needed_now old segment) v h)

    same_needs : (v : ℕ)
        → needs (is_needed new.kept) (content_in new.store) v
        ≡ needs (is_needed old.kept) (content_in old.store) v
    same_needs =
        needs-moved segment checkpoint stamp
        (take m (needed_now old segment)) old.store new.store kept.store has.store kept.store.limits.tidy
        has.moved inside
        (is_needed old.kept) (is_needed new.kept) has.needs

    fate : (v b : ℕ) → address_in new.store v ≡ Some b → Fate start (segment ∷ rest) new v b
    fate v b at = elim (cases_Bool (is_one_of (take m (needed_now old segment)) v)) [
      | inl e ↦
          inl (same_needs v
          ∙ needed-needs old.store (is_needed old.kept) segment v
          (among-front m (needed_now old segment) v e))
      | inr e ↦
          elim (kept.fate v b
          (sym (stays segment checkpoint stamp
          (take m (needed_now old segment)) old.store new.store kept.store has.store kept.store.limits.tidy
          has.moved inside v e)
          ∙ at)) [
            | inl needed ↦ inl (same_needs v ∙ needed)
            | inr other ↦ inr other
          ]
    ]

retired-fate : (start old new : KeptStore) (segment count : ℕ) (rest : List ℕ)
    → Kept start (segment ∷ rest) old → IsEmptied segment count old new → Kept start rest new
retired-fate start old new segment count rest kept has = record {
  store = has.store;
  blocks = ap (λ (s : Segments). s.blocks) has.reclaimed.freed.segments ∙ kept.blocks;
  fate = λ v b at. by_test v b at (is_inside old.store.segments segment (address_in old.store v)) refl;
}
  where
    none_some : (b : ℕ) → None ≡ Some b → ⊥
    none_some b e = cc

    needed_still : (v : ℕ) → numbered_in new.store v ≡ numbered_in old.store v → IsNeeded old v
        → IsNeeded new v
    needed_still v same needed =
        ap (λ (o : Option Numbered). entry_needed (is_needed new.kept) (option_map entry_now o)) same
        ∙ by_entry (content_in old.store v) refl needed
      where
        by_entry : (o : Option Entry) → content_in old.store v ≡ o
            → entry_needed (is_needed old.kept) o ≡ true → entry_needed (is_needed new.kept) o ≡ true
        by_entry None is h = h
        by_entry (Some e) is h = has.needs v e is ∙ h

    to_come : (v b : ℕ) → is_inside old.store.segments segment (Some b) ≡ false
        → IsToCome start (segment ∷ rest) b → IsToCome start rest b
    to_come v b outside there = elim (cases_Bool (eqb there.segment segment)) [
      | inl e ↦ absurd (both_ways (is_inside old.store.segments segment (Some b)) outside
          (inside-blocks old.store.segments start.store.segments segment b kept.blocks
          ∙ ap (λ (i : ℕ). is_inside start.store.segments i (Some b))
          (sym (eqb-true there.segment segment e))
          ∙ there.inside))
      | inr e ↦ record {
        segment = there.segment;
        among = sym (ap (λ t. t || is_one_of rest there.segment) e) ∙ there.among;
        inside = there.inside;
      }
    ]

    by_test : (v b : ℕ) → address_in new.store v ≡ Some b → (t : Bool)
        → is_inside old.store.segments segment (address_in old.store v) ≡ t → Fate start rest new v b
    by_test v b at true is =
        let gone : numbered_in new.store v ≡ None =
        has.reclaimed.numbers v ∙ ap (λ t. cond t None (numbered_in old.store v)) is in
        absurd (none_some b (sym (ap (option_map block_now) gone) ∙ at))
    by_test v b at false is =
        let same : numbered_in new.store v ≡ numbered_in old.store v =
        has.reclaimed.numbers v ∙ ap (λ t. cond t None (numbered_in old.store v)) is in
        let was : address_in old.store v ≡ Some b = sym (ap (option_map block_now) same) ∙ at in
        elim (kept.fate v b was) [
          | inl needed ↦ inl (needed_still v same needed)
          | inr other ↦ elim other [
            | inl left_out ↦ inr (inl left_out)
            | inr there ↦
                inr (inr (to_come v b (sym (ap (is_inside old.store.segments segment) was) ∙ is) there))
          ]
        ]

one-event : (start old new : KeptStore) (before left : List ℕ) → Kept start before old
    → IsRoundEvent before old left new → Kept start left new
one-event start old new [] left kept step = absurd step
one-event start old new (segment ∷ rest) left kept (inl (same, checkpoint, stamp, m, has)) =
    subst (λ (l : List ℕ). Kept start l new) (sym same)
    (moved-fate start old new segment checkpoint stamp m rest kept has)
one-event start old new (segment ∷ rest) left kept (inr (same, count, has)) =
    subst (λ (l : List ℕ). Kept start l new) (sym same)
    (retired-fate start old new segment count rest kept has)

all-events : (n : ℕ) (start old new : KeptStore) (before left : List ℕ) → Kept start before old
    → AreRoundEvents n before old left new → Kept start left new
all-events zero start old new before left kept (same, is) =
    subst (λ (l : List ℕ). Kept start l new) (sym same) (subst (Kept start before) (sym is) kept)
all-events (suc n) start old new before left kept (between, mid, step, rest) =
    all-events n start mid new between left (one-event start old mid before between kept step) rest

pub rounds-leave-nothing-dead : RoundsLeaveNothingDead
rounds-leave-nothing-dead n start old new victims store dirty same run v b at = elim (end.fate v b at) [
  | inl needed ↦ inl needed
  | inr other ↦ elim other [
    | inl left_out ↦ inr left_out
    | inr there ↦ absurd (none there.segment there.among)
  ]
]
  where
    none : (i : ℕ) → is_one_of [] i ≡ true → ⊥
    none i h = cc

    first : Kept start victims old
    first = record {
      store = subst IsStore (sym same) store;
      blocks = ap (λ (s : Store). s.segments.blocks) same;
      fate = λ w c there.
          inr (used-fate start victims c store dirty
          (store.used w c (sym (ap (λ (s : Store). address_in s w) same) ∙ there)));
    }

    end : Kept start [] new
    end = all-events n start old new victims [] first run
