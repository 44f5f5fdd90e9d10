-- Counts and ends while all numbers are gone over.
use Rattle.std.proofs.Common.{◌≡◌, ◌≢◌, ℕ, zero, suc, ◌+◌, ◌-◌, ◌<◌, ◌≤◌, ◌⊎◌, Bool, true, false, cond, get_or, length, replicate, List, [], ◌∷◌, ◌++◌, Option, Some, None, inl, inr, sym, refl, ap, subst, ◌∙◌, arith}
use Rattle.std.specs.Prelude.{nat_le}
use Rattle.std.specs.List.{swap}
use Rattle.std.specs.List.Sorted.{IsNonDecreasingBy, IsPermutation}
use Rattle.std.proofs.lemmas.Bool.{cases_eq, cases_lt, leb-true, le-leb}
use Rattle.std.proofs.lemmas.List.{get_or-replicate, length-append, length-replicate}
use Rattle.std.proofs.lemmas.List.Edits.{length-swap, swapped_from_swap}
use Rattle.std.proofs.lemmas.List.Sorted.{IsPermutation-keeps}
use Rattle.nl_types.specs.Blocks.PartialMaps.{Partial}
use Rattle.nl_types.specs.Blocks.Entries.{Content, Entry}
use Rattle.nl_sufile.specs.BySegment as by_segment
use Rattle.nl_vstore.specs.Counts.{NeededAreStanding, needed_counts, needed_places}
use Rattle.nl_vstore.specs.Located.{entry_needed, needs}
use Rattle.nl_vstore.specs.Stores.{IsStore, Store, address_in, capacity, content_in}
use Rattle.nl_reclaim.specs.declared.ends.Ended.{Ended}
use Rattle.nl_reclaim.specs.Counted.{AreEnds, HasEndedNeeded}
use Rattle.nl_reclaim.specs.EndLists.{end_at, end_of, no_end, with_end, with_found}
use Rattle.nl_reclaim.specs.PrivateCounts.Places.{AreCountsIn, HasOneMore}
use Rattle.nl_reclaim.specs.PrivateCounts.Walked.{AreFound, HasWalked, ending_of, up_to}
use Rattle.nl_reclaim.proofs.EndPlaces.{in-front, in-list, no-number, past-front, same_bool}
use Rattle.nl_reclaim.proofs.JoinedCounts.{counted-are-needed, has-block, same-places}
use Rattle.nl_reclaim.proofs.MixedPlaces.{added-there}
use Rattle.nl_reclaim.proofs.SegmentsOf.{Follow}

-- ---- the numbers up to one

up-same : (n w : ℕ) (at : Partial ℕ) → w ≢ n + 1 → up_to n at w ≡ up_to (n + 1) at w
up-same n w at other = ap (λ t. cond {A = Option ℕ} t (at w) None)
    (same_bool (nat_le w n) (nat_le w (n + 1))
    (λ is. let low = leb-true w n is in le-leb w (n + 1) (omega (arith, low)))
    (λ is. let low = leb-true w (n + 1) is in le-leb w n (omega (arith, low, other))))

up-now : (n : ℕ) (at : Partial ℕ) → up_to (n + 1) at (n + 1) ≡ at (n + 1)
up-now n at = ap (λ t. cond {A = Option ℕ} t (at (n + 1)) None) (le-leb (n + 1) (n + 1) (omega arith))

up-before : (n : ℕ) (at : Partial ℕ) → up_to n at (n + 1) ≡ None
up-before n at = by (nat_le (n + 1) n) refl
  where
    by : (t : Bool) → nat_le (n + 1) n ≡ t → cond {A = Option ℕ} t (at (n + 1)) None ≡ None
    by true is = let wrong = leb-true (n + 1) n is in absurd (omega (arith, wrong))
    by false is = refl

-- where there is no block behind the next number, nothing changes
up-none : (n : ℕ) (at : Partial ℕ) → at (n + 1) ≡ None → (w : ℕ) → up_to n at w ≡ up_to (n + 1) at w
up-none n at none w = elim (cases_eq w (n + 1)) [
  | inr other ↦ up-same n w at other
  | inl same ↦
      ap (up_to n at) same ∙ up-before n at ∙ sym none ∙ sym (up-now n at) ∙ sym (ap (up_to (n + 1) at) same)
]

-- ---- one number

module _ (content : Content) (needed : Entry → Bool) (n : ℕ) (ended : List Ended)
    (found : AreFound content needed n ended) where
  -- no end is added
  found-none : ((end : ℕ) → HasEndedNeeded content needed (n + 1) end → ⊥)
      → AreFound content needed (n + 1) ended
  found-none none = record {
    full = found.full;
    low = λ k v is. let low = found.low k v is in omega (arith, low);
    theirs = found.theirs;
    all = λ v end low has. elim (cases_eq v (n + 1)) [
      | inr other ↦ found.all v end (omega (arith, low, other)) has
      | inl same ↦ absurd (none end (subst (λ (w : ℕ). HasEndedNeeded content needed w end) same has))
    ];
    once = found.once;
  }

  module _ (end : ℕ) (has : HasEndedNeeded content needed (n + 1) end) where
    abbrev more : List Ended
    more = ended ++ with_end end (n + 1) ∷ []

    size : length more ≡ length ended + 1
    size = length-append ended (with_end end (n + 1) ∷ [])

    at-end : end_at more (length ended) ≡ with_end end (n + 1)
    at-end =
        past-front ended (with_end end (n + 1) ∷ []) (length ended) (omega arith)
        ∙ ap (end_at (with_end end (n + 1) ∷ []))
        (let none : length ended - length ended ≡ 0 = omega arith in none)

    -- each place is an old one, or the last
    placed : (k v : ℕ) → (end_at more k).number ≡ Some v
        → ((k < length ended) × ((end_at ended k).number ≡ Some v)) ⊎ ((k ≡ length ended) × (v ≡ n + 1))
    placed k v is = elim (cases_lt k (length ended)) [
      | inl low ↦
          inl
          (low, sym (ap (λ (e : Ended). e.number) (in-front ended (with_end end (n + 1) ∷ []) k low)) ∙ is)
      | inr past ↦
          let within = in-list more k v is in
          let same : k ≡ length ended = omega (arith, within, size, past) in
          let number : ◌≡◌ {A = Option ℕ} (Some (n + 1)) (Some v) =
          sym (ap (λ (e : Ended). e.number) at-end) ∙ ap (λ j. (end_at more j).number) (sym same) ∙ is in
          inr (same, cc)
    ]

    found-one : AreFound content needed (n + 1) more
    found-one = record {
      full = λ k within. full k within (cases_lt k (length ended));
      low = λ k v is. low k v (placed k v is);
      theirs = λ k v is. theirs k v (placed k v is);
      all = λ v other low is. all v other low is (cases_eq v (n + 1));
      once = λ k j v one two. once k j v (placed k v one) (placed j v two);
    }
      where
        full : (k : ℕ) → k < length more → (k < length ended) ⊎ (length ended ≤ k)
            → (v : ℕ) × ((end_at more k).number ≡ Some v)
        full k within (inl under) =
            let (v, is) = found.full k under in
            (v, ap (λ (e : Ended). e.number) (in-front ended (with_end end (n + 1) ∷ []) k under) ∙ is)
        full k within (inr past) =
            let same : k ≡ length ended = omega (arith, within, size, past) in
            (n + 1, ap (λ j. (end_at more j).number) same ∙ ap (λ (e : Ended). e.number) at-end)

        low : (k v : ℕ)
            → ((k < length ended) × ((end_at ended k).number ≡ Some v)) ⊎ ((k ≡ length ended) × (v ≡ n + 1))
            → v ≤ n + 1
        low k v (inl old) = let least = found.low k v old.1 in omega (arith, least)
        low k v (inr last) = omega (arith, last.1)

        theirs : (k v : ℕ)
            → ((k < length ended) × ((end_at ended k).number ≡ Some v)) ⊎ ((k ≡ length ended) × (v ≡ n + 1))
            → HasEndedNeeded content needed v (end_at more k).end
        theirs k v (inl old) =
            subst (HasEndedNeeded content needed v)
            (sym (ap end_of (in-front ended (with_end end (n + 1) ∷ []) k old.0))) (found.theirs k v old.1)
        theirs k v (inr last) =
            let ending : (end_at more k).end ≡ end =
            ap (λ j. (end_at more j).end) last.0 ∙ ap end_of at-end in
            subst (HasEndedNeeded content needed v) (sym ending)
            (subst (λ (w : ℕ). HasEndedNeeded content needed w end) (sym last.1) has)

        all : (v other : ℕ) → v ≤ n + 1 → HasEndedNeeded content needed v other → (v ≡ n + 1) ⊎ (v ≢ n + 1)
            → (k : ℕ) × (k < length more) × ((end_at more k).number ≡ Some v) × ((end_at more k).end ≡ other)
        all v other least is (inr apart) =
            let (k, held, number, ending) = found.all v other (omega (arith, least, apart)) is in
            let same = in-front ended (with_end end (n + 1) ∷ []) k held in (
              k,
              omega (arith, held, size),
              ap (λ (e : Ended). e.number) same ∙ number,
              ap end_of same ∙ ending,
            )
        all v other least is (inl same) =
            let entry : ◌≡◌ {A = Option Entry} (Some is.entry) (Some has.entry) =
            sym is.in_use ∙ ap content same ∙ has.in_use in
            let which : is.entry ≡ has.entry = cc in
            let ends : ◌≡◌ {A = Option ℕ} (Some end) (Some other) =
            sym has.ended ∙ ap (λ (e : Entry). e.end) (sym which) ∙ is.ended in
            let equal : end ≡ other = cc in (
              length ended,
              omega (arith, size),
              ap (λ (e : Ended). e.number) at-end ∙ ap Some (sym same),
              ap end_of at-end ∙ equal,
            )

        once : (k j v : ℕ)
            → ((k < length ended) × ((end_at ended k).number ≡ Some v)) ⊎ ((k ≡ length ended) × (v ≡ n + 1))
            → ((j < length ended) × ((end_at ended j).number ≡ Some v)) ⊎ ((j ≡ length ended) × (v ≡ n + 1))
            → k ≡ j
        once k j v (inl one) (inl two) = found.once k j v one.1 two.1
        once k j v (inl one) (inr two) =
            let least = found.low k v one.1 in absurd (omega (arith, least, two.1))
        once k j v (inr one) (inl two) =
            let least = found.low j v two.1 in absurd (omega (arith, least, one.1))
        once k j v (inr one) (inr two) = one.0 ∙ sym two.0

module _ (s : Store) (needed : Entry → Bool) (n : ℕ) (counts : List ℕ) (ended : List Ended)
    (walked : HasWalked s needed n counts ended) where
  place : (e : Option Entry) → content_in s (n + 1) ≡ e
      → needed_places s needed (n + 1)
      ≡ cond {A = Option ℕ} (entry_needed needed e) (address_in s (n + 1)) None
  place e at =
      ap (λ (o : Option Entry). cond {A = Option ℕ} (entry_needed needed o) (address_in s (n + 1)) None) at

  -- what isn't in use, or not needed, is not counted
  pub walked-past : needs needed (content_in s) (n + 1) ≡ false → HasWalked s needed (n + 1) counts ended
  walked-past unneeded = record {
    counted = same-places s (up_to n (needed_places s needed)) (up_to (n + 1) (needed_places s needed)) counts
        (up-none n (needed_places s needed)
        (ap (λ t. cond {A = Option ℕ} t (address_in s (n + 1)) None) unneeded))
        walked.counted;
    found = found-none (content_in s) needed n ended walked.found
        (λ end has.
        let wrong : false ≡ true = sym unneeded ∙ ap (entry_needed needed) has.in_use ∙ has.passes in cc);
  }

  module _ (follow : Follow) (store : IsStore s) (e : Entry) (in_use : content_in s (n + 1) ≡ Some e)
      (passes : needed e ≡ true)
      (after : List ℕ) (one : HasOneMore s (n + 1) counts after) where
    counted-now : AreCountsIn s (up_to (n + 1) (needed_places s needed)) after
    counted-now =
        let (b, stands) = has-block s (n + 1) e in_use in
        added-there follow s store (n + 1) b (up_to n (needed_places s needed))
        (up_to (n + 1) (needed_places s needed)) counts after stands (record {
          before = up-before n (needed_places s needed);
          now =
              up-now n (needed_places s needed) ∙ place (Some e) in_use
              ∙ ap (λ t. cond {A = Option ℕ} t (address_in s (n + 1)) None) passes ∙ stands;
          others = λ w other. sym (up-same n w (needed_places s needed) other);
        }) one walked.counted

    walked-live : e.end ≡ None → HasWalked s needed (n + 1) after ended
    walked-live live = record {
      counted = counted-now;
      found = found-none (content_in s) needed n ended walked.found (λ end has.
          let same : ◌≡◌ {A = Option Entry} (Some e) (Some has.entry) = sym in_use ∙ has.in_use in
          let which : e ≡ has.entry = cc in
          no-number end (sym live ∙ ap (λ (f : Entry). f.end) which ∙ has.ended));
    }

    walked-ended : (end : ℕ) → e.end ≡ Some end
        → HasWalked s needed (n + 1) after (ended ++ with_end end (n + 1) ∷ [])
    walked-ended end is = record {
      counted = counted-now;
      found =
          found-one (content_in s) needed n ended walked.found end
          (record { entry = e; in_use = in_use; ended = is; passes = passes });
    }

    pub walked-more : (o : Option ℕ) → e.end ≡ o
        → HasWalked s needed (n + 1) after (with_found ended (n + 1) o)
    walked-more None live = walked-live live
    walked-more (Some end) is = walked-ended end is

-- ---- from the first number to the last

module _ (s : Store) (needed : Entry → Bool) (store : IsStore s) where
  unplaced : (v : ℕ) → (v ≡ 0) ⊎ (capacity s < v) → needed_places s needed v ≡ None
  unplaced v out = by (address_in s v) refl out (needs needed (content_in s) v)
    where
      by : (o : Option ℕ) → address_in s v ≡ o → (v ≡ 0) ⊎ (capacity s < v) → (t : Bool)
          → cond {A = Option ℕ} t (address_in s v) None ≡ None
      by o is out false = refl
      by None is out true = is
      by (Some b) is (inl zeroth) true =
          let range = store.numbers v b is in absurd (omega (arith, range.0, zeroth))
      by (Some b) is (inr above) true =
          let range = store.numbers v b is in absurd (omega (arith, range.1, above))

  pub none-walked : (counts : List ℕ) → counts ≡ replicate (length s.segments.each) 0
      → HasWalked s needed 0 counts []
  none-walked counts zeros = record {
    counted = record {
      size = ap length zeros ∙ length-replicate {A = ℕ} (length s.segments.each) 0;
      are = record {
        each = λ segment low.
            let there : segment < length s.segments.each =
            omega (arith, low, ap length zeros, length-replicate {A = ℕ} (length s.segments.each) 0) in
            ap (λ (cs : List ℕ). get_or cs segment 0) zeros
            ∙ get_or-replicate (length s.segments.each) segment 0 0 there
            ∙ sym (count-none
            (λ v. by_segment.lies_in s.segments.blocks segment (up_to 0 (needed_places s needed) v))
            (capacity s)
            (λ v. ap (by_segment.lies_in s.segments.blocks segment) (nowhere v (cases_eq v 0))));
      };
    };
    found = record {
      full = λ k low. absurd (omega (arith, low));
      low = λ k v is. no-number v is;
      theirs = λ k v is. no-number v is;
      all = λ v end low has.
          let (b, at) = has-block s v has.entry has.in_use in
          let range = store.numbers v b at in
          absurd (omega (arith, range.0, low));
      once = λ k j v one two. no-number v one;
    };
  }
    where
      count-none : (test : ℕ → Bool) (n : ℕ) → ((v : ℕ) → test v ≡ false) → by_segment.count_to test n ≡ 0
      count-none test zero none = refl
      count-none test (suc n) none = omega (arith, count-none test n none, ap by_segment.bit (none (suc n)))

      nowhere : (v : ℕ) → (v ≡ 0) ⊎ (v ≢ 0) → up_to 0 (needed_places s needed) v ≡ None
      nowhere v (inl zeroth) = by (nat_le v 0)
        where
          by : (t : Bool) → cond {A = Option ℕ} t (needed_places s needed v) None ≡ None
          by true = unplaced v (inl zeroth)
          by false = refl
      nowhere v (inr other) = by (nat_le v 0) refl
        where
          by : (t : Bool) → nat_le v 0 ≡ t → cond {A = Option ℕ} t (needed_places s needed v) None ≡ None
          by true is = let low = leb-true v 0 is in absurd (omega (arith, low, other))
          by false is = refl

  pub walked-is-counted : NeededAreStanding → (counts : List ℕ) (ended : List Ended)
      → HasWalked s needed (capacity s) counts ended → counts ≡ needed_counts s needed
  walked-is-counted standing counts ended walked =
      counted-are-needed standing s needed store counts
      (same-places s (up_to (capacity s) (needed_places s needed)) (needed_places s needed) counts
      (λ v. all-up v (cases_lt (capacity s) v)) walked.counted)
    where
      all-up : (v : ℕ) → (capacity s < v) ⊎ (v ≤ capacity s)
          → up_to (capacity s) (needed_places s needed) v ≡ needed_places s needed v
      all-up v (inr low) =
          ap (λ t. cond {A = Option ℕ} t (needed_places s needed v) None) (le-leb v (capacity s) low)
      all-up v (inl above) = by (nat_le v (capacity s)) ∙ sym (unplaced v (inr above))
        where
          by : (t : Bool) → cond {A = Option ℕ} t (needed_places s needed v) None ≡ None
          by true = unplaced v (inr above)
          by false = refl

-- ---- in the order of the ends

module _ (content : Content) (needed : Entry → Bool) (n : ℕ) where
  module _ (ends : List Ended) (i j : ℕ) (i-in : i < length ends) (j-in : j < length ends)
      (found : AreFound content needed n ends) where
    abbrev new : List Ended
    new = swap ends i j

    -- where an end comes from
    from : (k : ℕ)
        → (p : ℕ) × (end_at new k ≡ end_at ends p)
        × (((k ≡ i) × (p ≡ j)) ⊎ (((k ≡ j) × (p ≡ i)) ⊎ ((k ≢ i) × (k ≢ j) × (p ≡ k))))
    from k =
        let (first, second, others) = swapped_from_swap ends new i j no_end i-in j-in refl in
        elim (cases_eq k i) [
          | inl at ↦ (j, ap (end_at new) at ∙ first, inl (at, refl))
          | inr not-i ↦ elim (cases_eq k j) [
            | inl at ↦ (i, ap (end_at new) at ∙ second, inr (inl (at, refl)))
            | inr not-j ↦ (k, others k not-i not-j, inr (inr (not-i, not-j, refl)))
          ]
        ]

    number-from : (k v : ℕ) → (end_at new k).number ≡ Some v → (end_at ends (from k).0).number ≡ Some v
    number-from k v is = sym (ap (λ (e : Ended). e.number) (from k).1) ∙ is

    within : (k p : ℕ) → k < length new
        → ((k ≡ i) × (p ≡ j)) ⊎ (((k ≡ j) × (p ≡ i)) ⊎ ((k ≢ i) × (k ≢ j) × (p ≡ k))) → p < length ends
    within k p low (inl one) = omega (arith, one.1, j-in)
    within k p low (inr (inl one)) = omega (arith, one.1, i-in)
    within k p low (inr (inr one)) = let size = length-swap ends i j in omega (arith, one.2, low, size)

    -- two that come from one place are one
    apart : (k m p q : ℕ) → ((k ≡ i) × (p ≡ j)) ⊎ (((k ≡ j) × (p ≡ i)) ⊎ ((k ≢ i) × (k ≢ j) × (p ≡ k)))
        → ((m ≡ i) × (q ≡ j)) ⊎ (((m ≡ j) × (q ≡ i)) ⊎ ((m ≢ i) × (m ≢ j) × (q ≡ m))) → p ≡ q → k ≡ m
    apart k m p q (inl one) (inl two) same = one.0 ∙ sym two.0
    apart k m p q (inl one) (inr (inl two)) same = omega (arith, one.0, one.1, two.0, two.1, same)
    apart k m p q (inl one) (inr (inr two)) same = absurd (two.1 (omega (arith, one.1, two.2, same)))
    apart k m p q (inr (inl one)) (inl two) same = omega (arith, one.0, one.1, two.0, two.1, same)
    apart k m p q (inr (inl one)) (inr (inl two)) same = one.0 ∙ sym two.0
    apart k m p q (inr (inl one)) (inr (inr two)) same = absurd (two.0 (omega (arith, one.1, two.2, same)))
    apart k m p q (inr (inr one)) (inl two) same = absurd (one.1 (omega (arith, one.2, two.1, same)))
    apart k m p q (inr (inr one)) (inr (inl two)) same = absurd (one.0 (omega (arith, one.2, two.1, same)))
    apart k m p q (inr (inr one)) (inr (inr two)) same = omega (arith, one.2, two.2, same)

    -- and each goes somewhere
    goes : (p : ℕ) → p < length ends → (k : ℕ) × (k < length new) × (end_at new k ≡ end_at ends p)
    goes p low =
        let (first, second, others) = swapped_from_swap ends new i j no_end i-in j-in refl in
        let size = length-swap ends i j in
        elim (cases_eq p i) [
          | inl at ↦ (j, omega (arith, size, j-in), second ∙ ap (end_at ends) (sym at))
          | inr not-i ↦ elim (cases_eq p j) [
            | inl at ↦ (i, omega (arith, size, i-in), first ∙ ap (end_at ends) (sym at))
            | inr not-j ↦ (p, omega (arith, size, low), others p not-i not-j)
          ]
        ]

    found-swapped : AreFound content needed n new
    found-swapped = record {
      full = λ k low.
          let (v, is) = found.full (from k).0 (within k (from k).0 low (from k).2) in
          (v, ap (λ (e : Ended). e.number) (from k).1 ∙ is);
      low = λ k v is. found.low (from k).0 v (number-from k v is);
      theirs = λ k v is.
          subst (HasEndedNeeded content needed v) (sym (ap end_of (from k).1))
          (found.theirs (from k).0 v (number-from k v is));
      all = λ v end low has.
          let (p, held, number, ending) = found.all v end low has in
          let (k, within, same) = goes p held in
          (k, within, ap (λ (e : Ended). e.number) same ∙ number, ap end_of same ∙ ending);
      once = λ k m v one two.
          apart k m (from k).0 (from m).0 (from k).2 (from m).2
          (found.once (from k).0 (from m).0 v (number-from k v one) (number-from m v two));
    }

  pub found-in-order : (ends sorted : List Ended) → IsPermutation ends sorted → AreFound content needed n ends
      → AreFound content needed n sorted
  found-in-order ends sorted same found =
      IsPermutation-keeps ends (AreFound content needed n) found
      (λ xs i j i-in j-in was. found-swapped xs i j i-in j-in was) sorted same

pub found-are-ends : (s : Store) (needed : Entry → Bool) (ends : List Ended) → IsStore s
    → IsNonDecreasingBy end_of ends
    → AreFound (content_in s) needed (capacity s) ends → AreEnds (content_in s) needed ends
found-are-ends s needed ends store rising found = record {
  rising = rising;
  theirs = found.theirs;
  all = λ v end has.
      let (b, at) = has-block s v has.entry has.in_use in
      let range = store.numbers v b at in
      found.all v end range.1 has;
  once = found.once;
}

-- ---- the step of a walk

module _ (follow : Follow) (s : Store) (store : IsStore s) (needed : Entry → Bool) (number : ℕ) where
  -- a number that is needed
  pub walk-counted : needs needed (content_in s) number ≡ true
      → (counts after : List ℕ) (ended more : List Ended) → HasOneMore s number counts after
      → more ≡ with_found ended number (ending_of (content_in s number))
      → (n : ℕ) → number ≡ n + 1 → HasWalked s needed n counts ended → HasWalked s needed number after more
  walk-counted passes counts after ended more one more-is n is walked =
      subst (λ (w : ℕ). HasWalked s needed w after more) (sym is) (by (content_in s (n + 1)) refl)
    where
      passes-next : needs needed (content_in s) (n + 1) ≡ true
      passes-next = ap (needs needed (content_in s)) (sym is) ∙ passes

      by : (o : Option Entry) → content_in s (n + 1) ≡ o → HasWalked s needed (n + 1) after more
      by None none =
          absurd (let wrong : false ≡ true = sym (ap (entry_needed needed) none) ∙ passes-next in cc)
      by (Some e) some =
          let ending : ending_of (content_in s number) ≡ e.end =
          ap (λ (w : ℕ). ending_of (content_in s w)) is ∙ ap ending_of some in
          let next : more ≡ with_found ended (n + 1) e.end =
          more-is ∙ ap (λ (w : ℕ). with_found ended w (ending_of (content_in s number))) is
          ∙ ap (with_found ended (n + 1)) ending in
          subst (λ (xs : List Ended). HasWalked s needed (n + 1) after xs) (sym next) (
          walked-more s needed n counts ended walked follow store e some
          (sym (ap (entry_needed needed) some) ∙ passes-next) after
          (subst (λ (w : ℕ). HasOneMore s w counts after) is one) e.end refl
          )

  -- one that isn't
  pub walk-past : needs needed (content_in s) number ≡ false → (counts : List ℕ) (ended : List Ended)
      → (n : ℕ) → number ≡ n + 1 → HasWalked s needed n counts ended → HasWalked s needed number counts ended
  walk-past spare counts ended n is walked =
      subst (λ (w : ℕ). HasWalked s needed w counts ended) (sym is)
      (walked-past s needed n counts ended walked (ap (needs needed (content_in s)) (sym is) ∙ spare))
