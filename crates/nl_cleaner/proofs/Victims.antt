-- The segments that qualify, and the oldest of them.
use Rattle.std.proofs.Common.{◌≡◌, ◌⊎◌, ℕ, zero, suc, ◌<◌, ◌≤◌, Bool, true, false, cond, ◌&&◌, List, [], ◌∷◌, length, get_or, Option, Some, None, inl, inr, refl, sym, ap, subst, ◌∙◌, arith}
use Rattle.std.specs.Prelude.{map, nat_le}
use Rattle.std.specs.List.{All, AllPairs, Contains}
use Rattle.std.proofs.lemmas.Bool.{cases_lt, cases_eq, le-leb, leb-true}
use Rattle.std.proofs.lemmas.List.{get_or-map, get_or_default, get_or_past, length-map}
use Rattle.std.proofs.lemmas.List.Elements.{Contains-append_cases, Contains-append_left, Contains-append_right}
use Rattle.std.proofs.lemmas.List.Quantifiers.{all_pairs_push}
use Rattle.nl_types.specs.declared.segment.SegmentInfo.{SegmentInfo}
use Rattle.nl_types.specs.declared.segment.SegmentState.{SegmentState}
use Rattle.nl_types.specs.declared.segment.SegmentState.TheVariants.{Active, Clean, Dirty, Error}
use Rattle.nl_types.specs.Blocks.Segments.{clean_info, info_of}
use Rattle.nl_commit.specs.Layout.{Layout}
use Rattle.nl_cleaner.specs.Private.Choice.{AreChosen, AreFirst, Ascend, IsOlderCandidate, with_candidate, candidates_in, segment_of}
use Rattle.nl_cleaner.specs.declared.choice.Candidate.{Candidate}
use Rattle.nl_cleaner.specs.Plan.{AreVictims, IsOlder, Qualifies, candidate_by, candidate_in, is_dirty, reclaimable, stamp_in}

-- ---- what is found, segment by segment

module _ (f : ℕ → Option Candidate) (own : (s : ℕ) (c : Candidate) → f s ≡ Some c → c.segment ≡ s) where
  -- a candidate is what f gives of its segment
  pub record FoundAt (n : ℕ) (c : Candidate) : Type 0 where
    pub low : c.segment < n
    pub given : f c.segment ≡ Some c

  alone : (c d : Candidate) → Contains (d ∷ []) c → d ≡ c
  alone c d (zero, within, is) = is
  alone c d (suc k, within, is) = absurd (omega arith)

  pub found-at : (n : ℕ) (c : Candidate) → Contains (candidates_in f n) c → FoundAt n c
  found-at zero c (k, within, is) = absurd (omega arith)
  found-at (suc n) c has = by_given (f n) refl has (found-at n c)
    where
      here : (d : Candidate) → f n ≡ Some d → d ≡ c → FoundAt (suc n) c
      here d is same =
          let same_segment : c.segment ≡ n = ap (λ (x : Candidate). x.segment) (sym same) ∙ own n d is in
          record {
            low = omega (arith, same_segment);
            given = ap f same_segment ∙ is ∙ ap (λ (x : Candidate). Some x) same;
          }

      before : FoundAt n c → FoundAt (suc n) c
      before e = record { low = omega (arith, e.low); given = e.given }

      by_given : (o : Option Candidate) → f n ≡ o → Contains (with_candidate (candidates_in f n) o) c
          → (Contains (candidates_in f n) c → FoundAt n c) → FoundAt (suc n) c
      by_given None is h earlier = before (earlier h)
      by_given (Some d) is h earlier = elim (Contains-append_cases (candidates_in f n) (d ∷ []) c h) [
        | inl left ↦ before (earlier left)
        | inr right ↦ here d is (alone c d right)
      ]

  pub found-has : (n s : ℕ) (c : Candidate) → s < n → f s ≡ Some c → Contains (candidates_in f n) c
  found-has zero s c low is = absurd (omega arith)
  found-has (suc n) s c low is = elim (cases_eq s n) [
    | inl same ↦
        subst (λ (o : Option Candidate). Contains (with_candidate (candidates_in f n) o) c)
        (sym (ap f (sym same) ∙ is))
        (Contains-append_right (candidates_in f n) (c ∷ []) c (0, omega arith, refl))
    | inr other ↦ later (f n) (found-has n s c (omega arith) is)
  ]
    where
      later : (o : Option Candidate) → Contains (candidates_in f n) c
          → Contains (with_candidate (candidates_in f n) o) c
      later None h = h
      later (Some d) h = Contains-append_left (candidates_in f n) (d ∷ []) c h

  none-ascend : Ascend []
  none-ascend i j d lower within = absurd (omega arith)

  pub found-ascend : (n : ℕ) → Ascend (candidates_in f n)
  found-ascend zero = none-ascend
  found-ascend (suc n) = by_given (f n) refl (found-ascend n)
    where
      lower : (d : Candidate) → f n ≡ Some d → (k : ℕ) (e : Candidate) → k < length (candidates_in f n)
          → (get_or (candidates_in f n) k e).segment < d.segment
      lower d is k e within =
          let c = get_or (candidates_in f n) k e in
          let there : FoundAt n c =
          found-at n c (k, within, get_or_default (candidates_in f n) k c e within) in
          let last : d.segment ≡ n = own n d is in
          omega (arith, there.low)

      by_given : (o : Option Candidate) → f n ≡ o → Ascend (candidates_in f n)
          → Ascend (with_candidate (candidates_in f n) o)
      by_given None is up = up
      by_given (Some d) is up =
          all_pairs_push (λ a b. a.segment < b.segment) (candidates_in f n) d up (lower d is)

-- ---- which segments qualify

and-left : (a b : Bool) → (a && b) ≡ true → a ≡ true
and-left true b h = refl
and-left false b h = h

and-right : (a b : Bool) → (a && b) ≡ true → b ≡ true
and-right true b h = h
and-right false b h = cc

dirty-is : (s : SegmentState) → is_dirty s ≡ true → s ≡ Dirty
dirty-is Clean h = cc
dirty-is Dirty h = refl
dirty-is Active h = cc
dirty-is Error h = cc

module _ (l : Layout) (below least : ℕ) where
  pub record IsCandidate (s : ℕ) (c : Candidate) : Type 0 where
    pub own : c.segment ≡ s
    pub stamp : c.stamp ≡ stamp_in l s
    pub qualifies : Qualifies l below least s

  pub is-candidate : (s : ℕ) (c : Candidate) → candidate_in l below least s ≡ Some c → IsCandidate s c
  is-candidate s c is =
      by_test
      (is_dirty (info_of l.store.segments.each s).state && nat_le least (reclaimable l below s)) refl is
    where
      by_test : (t : Bool)
          → (is_dirty (info_of l.store.segments.each s).state && nat_le least (reclaimable l below s)) ≡ t
          → cond {A = Option Candidate} t (Some (record { stamp = stamp_in l s; segment = s })) None ≡ Some c
          → IsCandidate s c
      by_test false h e = absurd (none-some c e)
        where
          none-some : (x : Candidate) → None ≡ Some x → ⊥
          none-some x q = cc
      by_test true h e =
          let same : record { stamp = stamp_in l s; segment = s } ≡ c = some-is _ c e in
          record {
            own = ap (λ (x : Candidate). x.segment) (sym same);
            stamp = ap (λ (x : Candidate). x.stamp) (sym same);
            qualifies = record {
              dirty =
                  dirty-is (info_of l.store.segments.each s).state
                  (and-left (is_dirty (info_of l.store.segments.each s).state)
                  (nat_le least (reclaimable l below s)) h);
              enough =
                  leb-true least (reclaimable l below s)
                  (and-right (is_dirty (info_of l.store.segments.each s).state)
                  (nat_le least (reclaimable l below s)) h);
            };
          }
        where
          some-is : (x y : Candidate) → Some x ≡ Some y → x ≡ y
          some-is x y q = cc

  pub candidate-of : (s : ℕ) → Qualifies l below least s
      → candidate_in l below least s ≡ Some (record { stamp = stamp_in l s; segment = s })
  candidate-of s q =
      ap (λ (t : Bool).
      cond {A = Option Candidate} t (Some (record { stamp = stamp_in l s; segment = s })) None)
      (ap (λ (t : Bool). t && nat_le least (reclaimable l below s)) (ap is_dirty q.dirty)
      ∙ le-leb least (reclaimable l below s) q.enough)

  -- there is such a segment
  pub is-inside : (s : ℕ) → Qualifies l below least s → s < length l.store.segments.each
  is-inside s q = elim (cases_lt s (length l.store.segments.each)) [
    | inl within ↦ within
    | inr past ↦
        absurd
        (apart (ap (λ (i : SegmentInfo). i.state) (sym (get_or_past l.store.segments.each s clean_info past))
        ∙ q.dirty))
  ]
    where
      apart : Clean ≡ Dirty → ⊥
      apart h = cc

  abbrev pub found : List Candidate
  found = candidates_in (candidate_in l below least) (length l.store.segments.each)

  own-segment : (s : ℕ) (c : Candidate) → candidate_in l below least s ≡ Some c → c.segment ≡ s
  own-segment s c is = (is-candidate s c is).own

  pub ascends : Ascend found
  ascends = found-ascend (candidate_in l below least) own-segment (length l.store.segments.each)

  known : (c : Candidate) → Contains found c → IsCandidate c.segment c
  known c has =
      is-candidate c.segment c
      (found-at (candidate_in l below least) own-segment (length l.store.segments.each) c has).given

  module _ (most : ℕ) (chosen : List Candidate) (first : AreFirst most found chosen) where
    abbrev segments : List ℕ
    segments = map segment_of chosen

    abbrev nth : ℕ → ℕ → Candidate
    nth k d = get_or chosen k (record { stamp = 0; segment = d })

    long : length segments ≡ length chosen
    long = length-map chosen segment_of

    is-at : (k d : ℕ) → k < length chosen → (nth k d).segment ≡ get_or segments k d
    is-at k d within = sym (get_or-map segment_of chosen k (record { stamp = 0; segment = d }) d within)

    known-at : (k d : ℕ) → k < length chosen → IsCandidate (nth k d).segment (nth k d)
    known-at k d within = known (nth k d) (first.among k (record { stamp = 0; segment = d }) within)

    -- the order of candidates is that of their segments
    order : (a b : Candidate) → a.stamp ≡ stamp_in l a.segment → b.stamp ≡ stamp_in l b.segment
        → IsOlderCandidate a b → IsOlder l a.segment b.segment
    order a b of_a of_b (inl older) = inl (omega arith)
    order a b of_a of_b (inr (even, lower)) = inr (sym of_a ∙ even ∙ of_b, lower)

    all-qualify : All (Qualifies l below least) segments
    all-qualify k d within =
        let low : k < length chosen = omega (arith, long) in
        subst (Qualifies l below least) (is-at k d low) (known-at k d low).qualifies

    in-order : AllPairs (IsOlder l) segments
    in-order i j d lower within =
        let last : j < length chosen = omega (arith, long) in
        let low : i < length chosen = omega arith in
        subst (λ (s : ℕ). IsOlder l s (get_or segments j d)) (is-at i d low)
        (subst (IsOlder l (nth i d).segment) (is-at j d last)
        (order (nth i d) (nth j d) (known-at i d low).stamp (known-at j d last).stamp
        (first.in_order i j (record { stamp = 0; segment = d }) lower last)))

    rest : (s : ℕ) → Qualifies l below least s
        → Contains segments s ⊎ ((length segments ≡ most) × All (λ v. IsOlder l v s) segments)
    rest s q =
        let c : Candidate = record { stamp = stamp_in l s; segment = s } in
        elim (first.rest c
        (found-has (candidate_in l below least) own-segment (length l.store.segments.each) s c
        (is-inside s q) (candidate-of s q))) [
          | inl has ↦ inl (has.0, omega (arith, has.1, long), is-in c has)
          | inr (full, before) ↦ inr (
            long ∙ full,
            λ k d within.
                let low : k < length chosen = omega (arith, long) in
                subst (λ (v : ℕ). IsOlder l v s) (is-at k d low)
                (order (nth k d) c (known-at k d low).stamp refl
                (before k (record { stamp = 0; segment = d }) low)),
          )
        ]
      where
        is-in : (c : Candidate) → (has : Contains chosen c) → get_or segments has.0 c.segment ≡ c.segment
        is-in c (k, within, is) =
            get_or-map segment_of chosen k c c.segment within ∙ ap (λ (x : Candidate). x.segment) is

  -- where there is no such segment, none is found
  pub candidate-outside : (s : ℕ) → length l.store.segments.each ≤ s → None ≡ candidate_in l below least s
  candidate-outside s past =
      sym (ap (λ (i : SegmentInfo). candidate_by i least s (reclaimable l below s))
      (get_or_past l.store.segments.each s clean_info past))

  pub are-victims : (most : ℕ) (segments : List ℕ) → AreChosen most found segments
      → AreVictims l below least most segments
  are-victims most segments are = subst (AreVictims l below least most) (sym are.theirs) (record {
    chosen = all-qualify most are.chosen are.first;
    in_order = in-order most are.chosen are.first;
    few = omega (arith, are.first.few, length-map are.chosen segment_of);
    rest = rest most are.chosen are.first;
  })
