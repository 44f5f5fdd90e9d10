-- A listed number that is let go, and its count.
use Rattle.std.proofs.Common.{◌≡◌, ◌≢◌, ℕ, ◌+◌, ◌<◌, ◌≤◌, ◌⊎◌, Bool, true, false, cond, List, length, get_or, Option, Some, None, inl, inr, sym, refl, ap, ◌∙◌, arith}
use Rattle.std.specs.Prelude.{◌||◌, not}
use Rattle.std.specs.Bool.{OnFalse, OnTrue}
use Rattle.std.proofs.lemmas.Bool.{cases_Bool, cases_eq, not-true, or_right}
use Rattle.std.proofs.lemmas.Grind.{get_or-set_at}
use Rattle.std.proofs.lemmas.List.{get_or-set_other, length-set}
use Rattle.nl_sufile.specs.BySegment.{HasBlock, one_less}
use Rattle.nl_vstore.specs.Batches.{is_live}
use Rattle.nl_vstore.specs.Stores.{IsStore, Store, address_in, content_in, is_inside}
use Rattle.nl_reclaim.specs.declared.ends.Ended.{Ended}
use Rattle.nl_reclaim.specs.EndLists.{blanked, end_at, no_end}
use Rattle.nl_reclaim.specs.PrivateCounts.Listed.{AreListed, HasLetGo, HasLetGoAll, IsTakenOff, ListsAt, counted_places, is_listed}
use Rattle.nl_reclaim.proofs.EndPlaces.{listed-place, place-listed, same_bool, no-number}
use Rattle.nl_reclaim.proofs.SegmentsOf.{Follow, one-taken, some-counted}

-- ---- one number

module _ (follow : Follow) (s : Store) (store : IsStore s) (given : List ℕ) (ends : List Ended)
    (index v segment : ℕ) (low : index < length ends)
    (listed : AreListed s given ends) (at : (end_at ends index).number ≡ Some v)
    (there : segment < length s.segments.each)
    (inside : is_inside s.segments segment (address_in s v) ≡ true) where
  abbrev block : ℕ
  block = (listed.in_use index v at).0

  stands : address_in s v ≡ Some block
  stands = (listed.in_use index v at).1

  here : is_inside s.segments segment (Some block) ≡ true
  here = ap (is_inside s.segments segment) (sym stands) ∙ inside

  counted : counted_places s ends v ≡ Some block
  counted =
      ap (λ b. cond {A = Option ℕ} b (address_in s v) None)
      (or_right (is_live (content_in s v)) (is_listed ends v) (place-listed ends index v at))
      ∙ stands

  -- there is something to take
  pub some-to-take : 0 < get_or given segment 0
  some-to-take =
      some-counted follow s store v block segment (counted_places s ends) given
      (store.numbers v block stands) counted here there listed.counts

  -- at its place stands none then, and all others stay
  abbrev blank : Ended
  blank = record (end_at ends index) { number = None }

  blank-here : end_at (blanked index ends) index ≡ blank
  blank-here = get_or-set_at ends index index blank no_end refl low

  blank-other : (k : ℕ) → k ≢ index → end_at (blanked index ends) k ≡ end_at ends k
  blank-other k other = get_or-set_other ends index k blank no_end other

  -- so a number that is still at a place was there
  still : (k w : ℕ) → (end_at (blanked index ends) k).number ≡ Some w
      → (k ≢ index) × ((end_at ends k).number ≡ Some w)
  still k w is = elim (cases_eq k index) [
    | inl same ↦
        no-number w (sym (ap (λ (e : Ended). e.number) blank-here)
        ∙ ap (λ j. (end_at (blanked index ends) j).number) (sym same) ∙ is)
    | inr other ↦ (other, sym (ap (λ (e : Ended). e.number) (blank-other k other)) ∙ is)
  ]

  not-listed : is_listed (blanked index ends) v ≡ false
  not-listed = elim (cases_Bool (is_listed (blanked index ends) v)) [
    | inl is ↦ absurd (let (k, place) = listed-place (blanked index ends) v is in
        let (other, was) = still k v place in other (listed.once k index v was at))
    | inr is ↦ is
  ]

  others-listed : (w : ℕ) → w ≢ v → is_listed (blanked index ends) w ≡ is_listed ends w
  others-listed w other = same_bool (is_listed (blanked index ends) w) (is_listed ends w)
      (λ is.
      let (k, place) = listed-place (blanked index ends) w is in place-listed ends k w (still k w place).1)
      (λ is. let (k, place) = listed-place ends w is in
      place-listed (blanked index ends) k w
      (ap (λ (e : Ended). e.number) (blank-other k (apart k place)) ∙ place))
    where
      apart : (k : ℕ) → (end_at ends k).number ≡ Some w → k ≢ index
      apart k place same =
          other (let e : ◌≡◌ {A = Option ℕ} (Some w) (Some v) = sym place
          ∙ ap (λ j. (end_at ends j).number) same ∙ at in
          cc)

  loses : HasBlock v block (counted_places s (blanked index ends)) (counted_places s ends)
  loses = record {
    before =
        ap (λ b. cond {A = Option ℕ} (b || is_listed (blanked index ends) v) (address_in s v) None)
        (listed.ended index v at)
        ∙ ap (λ b. cond {A = Option ℕ} b (address_in s v) None) not-listed;
    now = counted;
    others = λ w other.
        ap (λ b. cond {A = Option ℕ} (is_live (content_in s w) || b) (address_in s w) None)
        (sym (others-listed w other));
  }

  pub blanked-listed : AreListed s (one_less segment given) (blanked index ends)
  blanked-listed = record {
    counts =
        one-taken follow s store v block segment (counted_places s ends)
        (counted_places s (blanked index ends)) given
        (store.numbers v block stands) loses here there listed.counts;
    in_use = λ k w is. listed.in_use k w (still k w is).1;
    ended = λ k w is. listed.ended k w (still k w is).1;
    once = λ k j w one two. listed.once k j w (still k w one).1 (still j w two).1;
  }

  pub blanked-let_go : (needed : ℕ → Bool) → needed v ≡ false
      → HasLetGo needed index ends (blanked index ends)
  blanked-let_go needed unneeded = record {
    size = length-set ends index blank;
    others = blank-other;
    end = ap (λ (e : Ended). e.end) blank-here;
    left = λ w is. no-number w (sym (ap (λ (e : Ended). e.number) blank-here) ∙ is);
    needed = λ w is needs.
        let same : ◌≡◌ {A = Option ℕ} (Some v) (Some w) = sym at ∙ is in
        let which : v ≡ w = cc in
        absurd (let wrong : false ≡ true = sym unneeded ∙ ap needed which ∙ needs in cc);
    gone = λ w is. no-number w (sym (ap (λ (e : Ended). e.number) blank-here) ∙ is);
  }

-- what is needed, or was blank, stays
pub none-let_go : (needed : ℕ → Bool) (index : ℕ) (ends : List Ended)
    → ((v : ℕ) → (end_at ends index).number ≡ Some v → needed v ≡ true)
    → HasLetGo needed index ends ends
none-let_go needed index ends is_needed = record {
  size = refl;
  others = λ k out. refl;
  end = refl;
  left = is_needed;
  needed = λ v is needs. is;
  gone = λ v is. is;
}

-- ---- runs

pub none-yet : (needed : ℕ → Bool) (from : ℕ) (ends : List Ended) → HasLetGoAll needed from from ends ends
none-yet needed from ends = record {
  size = refl;
  others = λ k out. refl;
  ends = λ k. refl;
  left = λ k v low high is. absurd (omega (arith, low, high));
  needed = λ k v is needs. is;
  gone = λ k v is. is;
}

pub one-more : (needed : ℕ → Bool) (from index : ℕ) (first old new : List Ended) → from ≤ index
    → HasLetGoAll needed from index first old → HasLetGo needed index old new
    → HasLetGoAll needed from (index + 1) first new
one-more needed from index first old new low all one = record {
  size = one.size ∙ all.size;
  others = λ k out. one.others k (apart k out) ∙ all.others k (before k out);
  ends = λ k. ending k (cases_eq k index);
  left = λ k v from_low high is. is_left k v from_low high is (cases_eq k index);
  needed = λ k v is needs. stays k v (all.needed k v is needs) needs (cases_eq k index);
  gone = λ k v is. all.gone k v (was k v is (cases_eq k index));
}
  where
    apart : (k : ℕ) → (k < from) ⊎ (index + 1 ≤ k) → k ≢ index
    apart k (inl out) same = omega (arith, out, low, same)
    apart k (inr out) same = omega (arith, out, same)

    before : (k : ℕ) → (k < from) ⊎ (index + 1 ≤ k) → (k < from) ⊎ (index ≤ k)
    before k (inl out) = inl out
    before k (inr out) = inr (omega (arith, out))

    ending : (k : ℕ) → (k ≡ index) ⊎ (k ≢ index) → (end_at new k).end ≡ (end_at first k).end
    ending k (inl same) =
        ap (λ j. (end_at new j).end) same ∙ one.end ∙ ap (λ j. (end_at old j).end) (sym same) ∙ all.ends k
    ending k (inr other) = ap (λ (e : Ended). e.end) (one.others k other) ∙ all.ends k

    is_left : (k v : ℕ) → from ≤ k → k < index + 1 → (end_at new k).number ≡ Some v
        → (k ≡ index) ⊎ (k ≢ index) → needed v ≡ true
    is_left k v from_low high is (inl same) = one.left v (ap (λ j. (end_at new j).number) (sym same) ∙ is)
    is_left k v from_low high is (inr other) =
        all.left k v from_low (omega (arith, high, other))
        (sym (ap (λ (e : Ended). e.number) (one.others k other)) ∙ is)

    stays : (k v : ℕ) → (end_at old k).number ≡ Some v → needed v ≡ true → (k ≡ index) ⊎ (k ≢ index)
        → (end_at new k).number ≡ Some v
    stays k v is needs (inl same) =
        ap (λ j. (end_at new j).number) same
        ∙ one.needed v (ap (λ j. (end_at old j).number) (sym same) ∙ is) needs
    stays k v is needs (inr other) = ap (λ (e : Ended). e.number) (one.others k other) ∙ is

    was : (k v : ℕ) → (end_at new k).number ≡ Some v → (k ≡ index) ⊎ (k ≢ index)
        → (end_at old k).number ≡ Some v
    was k v is (inl same) =
        ap (λ j. (end_at old j).number) same ∙ one.gone v (ap (λ j. (end_at new j).number) (sym same) ∙ is)
    was k v is (inr other) = sym (ap (λ (e : Ended). e.number) (one.others k other)) ∙ is

-- ---- the list as it would be left

-- what a place of the list that is left has, before it is gone over
pub still-listed : (needed : ℕ → Bool) (from index : ℕ) (ends left : List Ended) → index < length ends
    → HasLetGoAll needed from index ends left
    → ListsAt left index (end_at ends index).number
still-listed needed from index ends left low all = record {
  within = omega (arith, low, all.size);
  there = ap (λ (e : Ended). e.number) (all.others index (inr (omega arith)));
}

module _ (follow : Follow) (s : Store) (store : IsStore s) (needed : ℕ → Bool) (counts after : List ℕ)
    (left : List Ended) (index v : ℕ)
    (listed : AreListed s counts left) (lists : ListsAt left index (Some v)) where
  -- a number that was taken off
  pub taken-listed : IsTakenOff s v counts after → AreListed s after (blanked index left)
  taken-listed taken =
      rw taken.counts
      (blanked-listed follow s store counts left index v taken.segment lists.within listed lists.there
      taken.there taken.inside)

  pub taken-let_go : IsTakenOff s v counts after → needed v ≡ false
      → HasLetGo needed index left (blanked index left)
  taken-let_go taken unneeded =
      blanked-let_go follow s store counts left index v taken.segment lists.within listed lists.there
      taken.there taken.inside needed unneeded

  -- and one that is needed
  pub needed-let_go : needed v ≡ true → HasLetGo needed index left left
  needed-let_go is_needed = none-let_go needed index left (λ w is.
      let same : ◌≡◌ {A = Option ℕ} (Some v) (Some w) = sym lists.there ∙ is in
      let which : v ≡ w = cc in
      ap needed (sym which) ∙ is_needed)

  -- so whether it was needed or not
  pub one-taken-off : (taken : Bool) → taken ≡ not (needed v) → OnTrue taken (IsTakenOff s v counts after)
      → OnFalse taken (after ≡ counts)
      → (new : List Ended) × AreListed s after new × HasLetGo needed index left new
  one-taken-off true told taken same =
      (blanked index left, taken-listed taken, taken-let_go taken (not-true (needed v) (sym told)))
  one-taken-off false told taken same =
      (left, rw same listed, needed-let_go (not-false (needed v) (sym told)))
    where
      not-false : (b : Bool) → not b ≡ false → b ≡ true
      not-false true is = refl
      not-false false is = sym is
