-- The list of ends behind a checkpoint.
use Rattle.std.proofs.Common.{◌≡◌, ◌≢◌, ℕ, zero, suc, ◌+◌, ◌-◌, ◌<◌, ◌≤◌, ◌⊎◌, Bool, true, false, cond, eqb, get_or, List, [], ◌∷◌, ◌++◌, length, Option, Some, None, inl, inr, sym, refl, ap, ◌∙◌, arith}
use Rattle.std.specs.Prelude.{◌||◌, is_none}
use Rattle.std.specs.List.{AllPairs, list_any}
use Rattle.std.proofs.lemmas.Bool.{cases_Bool, cases_lt, eqb-true, eq-eqb, or_left, or_right}
use Rattle.std.proofs.lemmas.List.{length-append}
use Rattle.nl_types.specs.Plain.NumberLists.{is_one_of}
use Rattle.nl_types.specs.Blocks.Entries.{Birth, Content, Entry, birth_of, covers, ended_at, is_needed, written, written_at}
use Rattle.nl_types.specs.Blocks.Lifetimes.{IsBounded, WritesAreByNumber}
use Rattle.nl_types.specs.Blocks.NeedLaws.{CheckpointsKeepNeeds}
use Rattle.nl_vstore.specs.Batches.{Changes, CanBeTaken, is_born, is_live}
use Rattle.nl_reclaim.specs.declared.ends.Ended.{Ended}
use Rattle.nl_reclaim.specs.EndLists.{end_at, end_of, no_end, noted_ends}
use Rattle.nl_reclaim.specs.Counted.{AreBelow, AreEnds, HasEndedNeeded}
use Rattle.nl_reclaim.proofs.EndPlaces.{in-front, no-number, past-front, rising-from}

-- ---- ends that are noted

noted-end : (c : ℕ) (gone : List ℕ) (k : ℕ) → k < length (noted_ends c gone)
    → (end_at (noted_ends c gone) k).end ≡ c
noted-end c [] k low = absurd (omega arith)
noted-end c (v ∷ gone) zero low = refl
noted-end c (v ∷ gone) (suc k) low = noted-end c gone k (omega arith)

pub noted-number : (c : ℕ) (gone : List ℕ) (k v : ℕ) → (end_at (noted_ends c gone) k).number ≡ Some v
    → (k < length (noted_ends c gone)) × (is_one_of gone v ≡ true)
noted-number c [] k v is = no-number v is
noted-number c (w ∷ gone) zero v is =
    let same : w ≡ v = cc in (omega arith, or_left (eqb v w) (is_one_of gone v) (eq-eqb v w (sym same)))
noted-number c (w ∷ gone) (suc k) v is =
    let (low, among) = noted-number c gone k v is in
    (omega arith, or_right (eqb v w) (is_one_of gone v) among)

pub is-noted : (c : ℕ) (gone : List ℕ) (v : ℕ) → is_one_of gone v ≡ true
    → (k : ℕ) × (k < length (noted_ends c gone)) × ((end_at (noted_ends c gone) k).number ≡ Some v)
is-noted c [] v among = cc
is-noted c (w ∷ gone) v among = elim (cases_Bool (eqb v w)) [
  | inl here ↦ (0, omega arith, ap Some (sym (eqb-true v w here)))
  | inr other ↦
      let (k, low, number) = is-noted c gone v (sym (ap (λ b. b || is_one_of gone v) other) ∙ among) in
      (suc k, omega arith, number)
]

-- the number that is noted at a place
noted-at : (c : ℕ) (gone : List ℕ) (k v : ℕ) → (end_at (noted_ends c gone) k).number ≡ Some v
    → (k < length gone) × (get_or gone k 0 ≡ v)
noted-at c [] k v is = no-number v is
noted-at c (w ∷ gone) zero v is = (omega arith, cc)
noted-at c (w ∷ gone) (suc k) v is = let (low, at) = noted-at c gone k v is in (omega arith, at)

noted-once : (c : ℕ) (gone : List ℕ) → AllPairs (λ a b. a ≢ b) gone → (k j v : ℕ)
    → (end_at (noted_ends c gone) k).number ≡ Some v → (end_at (noted_ends c gone) j).number ≡ Some v → k ≡ j
noted-once c gone apart k j v one two = by (cases_lt k j) (cases_lt j k)
  where
    first : (k < length gone) × (get_or gone k 0 ≡ v)
    first = noted-at c gone k v one

    second : (j < length gone) × (get_or gone j 0 ≡ v)
    second = noted-at c gone j v two

    by : (k < j) ⊎ (j ≤ k) → (j < k) ⊎ (k ≤ j) → k ≡ j
    by (inl less) more = absurd (apart k j 0 less second.0 (first.1 ∙ sym second.1))
    by (inr past) (inl more) = absurd (apart j k 0 more first.0 (second.1 ∙ sym first.1))
    by (inr past) (inr ahead) = omega arith

pub live-needed : (kept : List ℕ) (e : Entry) → e.end ≡ None → is_needed kept e ≡ true
live-needed kept e is = ap (λ (o : Option ℕ). is_none o || list_any (λ c. covers c e) kept) is

-- ---- what a batch that fits does

-- what it gives to births is not in use, and what it ends is live
pub record CanBeWritten (births : List Birth) (gone : List ℕ) (content : Content) : Type 0 where
  pub unborn : (v : ℕ) (e : Entry) → content v ≡ Some e → birth_of births v ≡ None
  pub stands : (v : ℕ) → is_one_of gone v ≡ true → (e : Entry) × (content v ≡ Some e)
  pub live : (v : ℕ) (e : Entry) → is_one_of gone v ≡ true → content v ≡ Some e → e.end ≡ None

pub born-of : (births : List Birth) (v : ℕ) (b : Birth) → birth_of births v ≡ Some b → is_born births v ≡ true
born-of [] v b is = cc
born-of (p ∷ births) v b is = elim (cases_Bool (eqb v p.number)) [
  | inl here ↦
      or_left (eqb p.number v) (is_born births v) (eq-eqb p.number v (sym (eqb-true v p.number here)))
  | inr other ↦
      or_right (eqb p.number v) (is_born births v)
      (born-of births v b (sym (ap (λ t. cond t (Some p) (birth_of births v)) other) ∙ is))
]

pub fits-can-be-written : (capacity : ℕ) (content : Content) (changes : Changes)
    → CanBeTaken capacity content changes → CanBeWritten changes.births changes.ends content
fits-can-be-written capacity content changes fits = record {
  unborn = λ v e at. unborn v e at (birth_of changes.births v) refl;
  stands = λ v among. found v (content v) refl (fits.live v among);
  live = λ v e among at. no-end e.end (sym (ap is_live at) ∙ fits.live v among);
}
  where
    unborn : (v : ℕ) (e : Entry) → content v ≡ Some e → (o : Option Birth) → birth_of changes.births v ≡ o
        → birth_of changes.births v ≡ None
    unborn v e at None is = is
    unborn v e at (Some b) is =
        let wrong : ◌≡◌ {A = Option Entry} None (Some e) =
        sym (fits.unused v (born-of changes.births v b is)) ∙ at in
        cc

    found : (v : ℕ) (o : Option Entry) → content v ≡ o → is_live o ≡ true → (e : Entry) × (content v ≡ Some e)
    found v None at lives = cc
    found v (Some e) at lives = (e, at)

    no-end : (o : Option ℕ) → is_none o ≡ true → o ≡ None
    no-end None is = refl
    no-end (Some c) is = cc

-- ---- a checkpoint

module _ (keep : CheckpointsKeepNeeds) (by_number : WritesAreByNumber) (capacity : ℕ) (changes : Changes)
    (kept : List ℕ) (latest : ℕ) (content : Content)
    (fits : CanBeTaken capacity content changes) (bounded : IsBounded content latest)
    (there : is_one_of kept latest ≡ true) where
  abbrev births : List Birth
  births = changes.births

  abbrev gone : List ℕ
  gone = changes.ends

  abbrev next : ℕ
  next = latest + 1

  abbrev after : Content
  after = written births gone next content

  can : CanBeWritten births gone content
  can = fits-can-be-written capacity content changes fits

  -- an entry that was in use is kept, or ends
  pub kept-entry : (v : ℕ) (e : Entry) → content v ≡ Some e → is_one_of gone v ≡ false → after v ≡ Some e
  kept-entry v e at out = by_number births gone next v content fits.once
      ∙ ap (λ (o : Option Birth). written_at o (is_one_of gone v) next (content v)) (can.unborn v e at)
      ∙ ap (λ b. written_at None b next (content v)) out ∙ at

  pub ended-entry : (v : ℕ) (e : Entry) → content v ≡ Some e → is_one_of gone v ≡ true
      → after v ≡ Some (ended_at next e)
  ended-entry v e at among = by_number births gone next v content fits.once
      ∙ ap (λ (o : Option Birth). written_at o (is_one_of gone v) next (content v)) (can.unborn v e at)
      ∙ ap (λ b. written_at None b next (content v)) among ∙ ap (written_at None true next) at

  as-before : (v : ℕ) (e f : Entry) → content v ≡ Some e → after v ≡ Some f
      → is_needed (kept ++ next ∷ []) f ≡ is_needed kept e
  as-before v e f at now =
      keep births gone kept latest v content e f fits.once bounded there can.live (can.unborn v e at) at now

  -- what had an end has it still
  still : (v end : ℕ) → HasEndedNeeded content (is_needed kept) v end
      → HasEndedNeeded after (is_needed (kept ++ next ∷ [])) v end
  still v end has =
      let out : is_one_of gone v ≡ false = elim (cases_Bool (is_one_of gone v)) [
        | inl among ↦ no-number end (sym (can.live v has.entry among has.in_use) ∙ has.ended)
        | inr out ↦ out
      ] in
      let now = kept-entry v has.entry has.in_use out in
      record {
        entry = has.entry;
        in_use = now;
        ended = has.ended;
        passes = as-before v has.entry has.entry has.in_use now ∙ has.passes;
      }

  -- what ends now has the new end
  ends-now : (v : ℕ) → is_one_of gone v ≡ true → HasEndedNeeded after (is_needed (kept ++ next ∷ [])) v next
  ends-now v among =
      let (e, at) = can.stands v among in
      let now = ended-entry v e at among in
      record {
        entry = ended_at next e;
        in_use = now;
        ended = refl;
        passes = as-before v e (ended_at next e) at now ∙ live-needed kept e (can.live v e among at);
      }

  module _ (ends : List Ended) where
    abbrev new : List Ended
    new = ends ++ noted_ends next gone

    ending-at : (k : ℕ) → k < length new → (k < length ends) ⊎ (length ends ≤ k)
        → ((k < length ends) × ((end_at new k).end ≡ (end_at ends k).end))
        ⊎ ((length ends ≤ k) × ((end_at new k).end ≡ next))
    ending-at k low (inl less) = inl (less, ap end_of (in-front ends (noted_ends next gone) k less))
    ending-at k low (inr past) =
        let size = length-append ends (noted_ends next gone) in
        inr (
          past,
          ap end_of (past-front ends (noted_ends next gone) k past)
              ∙ noted-end next gone (k - length ends) (omega arith),
        )

    module _ (last : (c : ℕ) → is_one_of kept c ≡ true → c ≤ latest) (below : AreBelow kept ends) where
      low-end : (k : ℕ) → k < length ends → (end_at ends k).end ≤ latest
      low-end k low =
          let (c, among, high) = below k low in let least = last c among in omega (arith, high, least)

      among-new : is_one_of (kept ++ next ∷ []) next ≡ true
      among-new = at-end kept
        where
          at-end : (cs : List ℕ) → is_one_of (cs ++ next ∷ []) next ≡ true
          at-end [] = or_left (eqb next next) false (eq-eqb next next refl)
          at-end (c ∷ cs) = or_right (eqb next c) (is_one_of (cs ++ next ∷ []) next) (at-end cs)

      pub new-below : AreBelow (kept ++ next ∷ []) new
      new-below k low = (
        next,
        among-new,
        elim (ending-at k low (cases_lt k (length ends))) [
          | inl old ↦ let was = low-end k old.0 in omega (arith, old.1, was)
          | inr now ↦ omega (arith, now.1)
        ],
      )

      module _ (ends_once : AllPairs (λ a b. a ≢ b) gone) (are : AreEnds content (is_needed kept) ends) where
        rises : (k j : ℕ) → k ≤ j → j < length new → (end_at new k).end ≤ (end_at new j).end
        rises k j order low =
            by (ending-at k (omega arith) (cases_lt k (length ends)))
            (ending-at j low (cases_lt j (length ends)))
          where
            by : ((k < length ends) × ((end_at new k).end ≡ (end_at ends k).end))
                ⊎ ((length ends ≤ k) × ((end_at new k).end ≡ next))
                → ((j < length ends) × ((end_at new j).end ≡ (end_at ends j).end))
                ⊎ ((length ends ≤ j) × ((end_at new j).end ≡ next))
                → (end_at new k).end ≤ (end_at new j).end
            by (inl one) (inl two) =
                let rise = are.rising k j no_end order two.0 in omega (arith, one.1, two.1, rise)
            by (inl one) (inr two) = let low = low-end k one.0 in omega (arith, one.1, two.1, low)
            by (inr one) (inl two) = absurd (omega (arith, one.0, two.0, order))
            by (inr one) (inr two) = omega (arith, one.1, two.1)

        theirs-of : (k v : ℕ) → (end_at new k).number ≡ Some v → (k < length ends) ⊎ (length ends ≤ k)
            → HasEndedNeeded after (is_needed (kept ++ next ∷ [])) v (end_at new k).end
        theirs-of k v is (inl low) =
            let same = in-front ends (noted_ends next gone) k low in
            rw same
            (still v (end_at ends k).end (are.theirs k v (sym (ap (λ (e : Ended). e.number) same) ∙ is)))
        theirs-of k v is (inr past) =
            let same = past-front ends (noted_ends next gone) k past in
            let (low, among) =
            noted-number next gone (k - length ends) v (sym (ap (λ (e : Ended). e.number) same) ∙ is) in
            let ending : (end_at new k).end ≡ next =
            ap end_of same ∙ noted-end next gone (k - length ends) low in
            rw ending (ends-now v among)

        old-place : (v end : ℕ) → HasEndedNeeded content (is_needed kept) v end
            → (k : ℕ) × (k < length new) × ((end_at new k).number ≡ Some v) × ((end_at new k).end ≡ end)
        old-place v end has =
            let (k, low, number, ending) = are.all v end has in
            let same = in-front ends (noted_ends next gone) k low in
            let size = length-append ends (noted_ends next gone) in
            (k, omega arith, ap (λ (e : Ended). e.number) same ∙ number, ap end_of same ∙ ending)

        new-place : (v : ℕ) → is_one_of gone v ≡ true
            → (k : ℕ) × (k < length new) × ((end_at new k).number ≡ Some v) × ((end_at new k).end ≡ next)
        new-place v among =
            let (k, low, number) = is-noted next gone v among in
            let same = past-front ends (noted_ends next gone) (length ends + k) (omega arith) in
            let back : length ends + k - length ends ≡ k = omega arith in
            let at : end_at new (length ends + k) ≡ end_at (noted_ends next gone) k =
            same ∙ ap (end_at (noted_ends next gone)) back in
            let size = length-append ends (noted_ends next gone) in (
              length ends + k,
              omega arith,
              ap (λ (e : Ended). e.number) at ∙ number,
              ap end_of at ∙ noted-end next gone k low,
            )

        all-of : (v end : ℕ) (f : Entry) → after v ≡ Some f → f.end ≡ Some end
            → is_needed (kept ++ next ∷ []) f ≡ true
            → (o : Option Birth) → birth_of births v ≡ o → (t : Bool) → is_one_of gone v ≡ t
            → (old : Option Entry) → content v ≡ old
            → (k : ℕ) × (k < length new) × ((end_at new k).number ≡ Some v) × ((end_at new k).end ≡ end)
        all-of v end f now ended needs (Some b) born t is old at =
            let stood : written_at (Some b) (is_one_of gone v) next (content v) ≡ Some f =
            ap (λ (o : Option Birth). written_at o (is_one_of gone v) next (content v)) (sym born)
            ∙ sym (by_number births gone next v content fits.once) ∙ now in
            no-number end ((let same : None ≡ f.end = cc in same) ∙ ended)
        all-of v end f now ended needs None born true is old at =
            let (e, in_use) = can.stands v is in
            let same : Some (ended_at next e) ≡ Some f = sym (ended-entry v e in_use is) ∙ now in
            let which : next ≡ end = cc in
            rw (sym which) (new-place v is)
        all-of v end f now ended needs None born false is None at =
            let stood : written_at None false next None ≡ Some f =
            ap (written_at None false next) (sym at) ∙ ap (λ b. written_at None b next (content v)) (sym is)
            ∙ ap (λ (o : Option Birth). written_at o (is_one_of gone v) next (content v)) (sym born)
            ∙ sym (by_number births gone next v content fits.once) ∙ now in
            cc
        all-of v end f now ended needs None born false is (Some e) at =
            let same : Some e ≡ Some f = sym (kept-entry v e at is) ∙ now in
            let was : e.end ≡ Some end = cc in
            old-place v end
            (record { entry = e; in_use = at; ended = was; passes = sym (as-before v e f at now) ∙ needs })

        -- a number that was listed has ended, and what ends now has not
        old-not-now : (k v : ℕ) → (end_at ends k).number ≡ Some v → is_one_of gone v ≡ true → ⊥
        old-not-now k v place among =
            let has = are.theirs k v place in
            no-number (end_at ends k).end (sym (can.live v has.entry among has.in_use) ∙ has.ended)

        once-of : (k j v : ℕ) → (end_at new k).number ≡ Some v → (end_at new j).number ≡ Some v
            → (k < length ends) ⊎ (length ends ≤ k) → (j < length ends) ⊎ (length ends ≤ j) → k ≡ j
        once-of k j v one two (inl low) (inl under) =
            are.once k j v (old-number k v low one) (old-number j v under two)
          where
            old-number : (k v : ℕ) → k < length ends → (end_at new k).number ≡ Some v
                → (end_at ends k).number ≡ Some v
            old-number k v low is =
                sym (ap (λ (e : Ended). e.number) (in-front ends (noted_ends next gone) k low)) ∙ is
        once-of k j v one two (inl low) (inr past) =
            absurd (old-not-now k v
            (sym (ap (λ (e : Ended). e.number) (in-front ends (noted_ends next gone) k low)) ∙ one)
            (noted-number next gone (j - length ends) v
            (sym (ap (λ (e : Ended). e.number) (past-front ends (noted_ends next gone) j past)) ∙ two)).1)
        once-of k j v one two (inr past) (inl low) =
            absurd (old-not-now j v
            (sym (ap (λ (e : Ended). e.number) (in-front ends (noted_ends next gone) j low)) ∙ two)
            (noted-number next gone (k - length ends) v
            (sym (ap (λ (e : Ended). e.number) (past-front ends (noted_ends next gone) k past)) ∙ one)).1)
        once-of k j v one two (inr past) (inr beyond) =
            let same : k - length ends ≡ j - length ends =
            noted-once next gone ends_once (k - length ends) (j - length ends) v
            (sym (ap (λ (e : Ended). e.number) (past-front ends (noted_ends next gone) k past)) ∙ one)
            (sym (ap (λ (e : Ended). e.number) (past-front ends (noted_ends next gone) j beyond)) ∙ two) in
            omega (arith, same, past, beyond)

        pub new-ends : AreEnds after (is_needed (kept ++ next ∷ [])) new
        new-ends = record {
          rising = rising-from new rises;
          theirs = λ k v is. theirs-of k v is (cases_lt k (length ends));
          all = λ v end has.
              all-of v end has.entry has.in_use has.ended has.passes (birth_of births v) refl
              (is_one_of gone v) refl (content v) refl;
          once = λ k j v one two. once-of k j v one two (cases_lt k (length ends)) (cases_lt j (length ends));
        }
