-- The clean segments of a table, as one of its segments changes.
use Rattle.std.proofs.Common.{◌≡◌, ◌≢◌, ℕ, zero, suc, ◌+◌, ◌-◌, ◌<◌, ◌≤◌, Bool, true, false, cond, List, [], ◌∷◌, ◌++◌, length, set, take, drop, Option, Some, None, inl, inr, refl, ap, sym, subst, ◌∙◌, arith}
use Rattle.std.specs.Prelude.{MatchOption, replicate, slice_get}
use Rattle.std.proofs.lemmas.Bool.{cases_eq}
use Rattle.std.proofs.lemmas.List.{get_or-set_same, get_or-set_other, length-append, take_all}
use Rattle.std.proofs.lemmas.List.FromFn.{length-range_with_len}
use Rattle.std.specs.List.{range_with_len}
use Rattle.nl_types.specs.declared.segment.SegmentInfo.{SegmentInfo}
use Rattle.nl_types.specs.declared.segment.SegmentState.{SegmentState}
use Rattle.nl_types.specs.declared.segment.SegmentState.TheVariants.{Clean, Dirty, Active, Error}
use Rattle.nl_types.specs.Blocks.GrowingLaws.{CleanGrow, InfosStay}
use Rattle.nl_types.specs.Blocks.Segments.{Segments, at_rest, clean_from, clean_info, info_of, is_clean, none_active}
use Rattle.nl_sufile.specs.declared.clean.CleanSegments.{CleanSegments}
use Rattle.nl_sufile.specs.BySegment.{bit}
use Rattle.nl_sufile.specs.Private.Clean.{TellsClean}

-- ---- which are clean, and how many

clean-at_rest : (info : SegmentInfo) → is_clean (at_rest info).state ≡ is_clean info.state
clean-at_rest info = by_state info.state info.stamp info.used
  where
    by_state : (state : SegmentState) (stamp used : ℕ)
        → is_clean (at_rest (record { state = state; stamp = stamp; used = used })).state ≡ is_clean state
    by_state Clean stamp used = refl
    by_state Dirty stamp used = refl
    by_state Active stamp used = refl
    by_state Error stamp used = refl

abbrev clean_at : List SegmentInfo → ℕ → Bool
clean_at each i = is_clean (info_of each i).state

abbrev count_from : ℕ → List SegmentInfo → ℕ
count_from i each = length (clean_from i each)

clean-none_active : (each : List SegmentInfo) (i : ℕ) → clean_at (none_active each) i ≡ clean_at each i
clean-none_active [] i = refl
clean-none_active (info ∷ each) zero = clean-at_rest info
clean-none_active (info ∷ each) (suc i) = clean-none_active each i

length-none_active : (each : List SegmentInfo) → length (none_active each) ≡ length each
length-none_active [] = refl
length-none_active (info ∷ each) = ap suc (length-none_active each)

-- the first one, and those behind it
count-more : (i : ℕ) (info : SegmentInfo) (each : List SegmentInfo)
    → count_from i (info ∷ each) ≡ bit (is_clean info.state) + count_from (suc i) each
count-more i info each = by (is_clean info.state)
  where
    by : (b : Bool)
        → length (cond b (i ∷ clean_from (suc i) each) (clean_from (suc i) each))
        ≡ bit b + count_from (suc i) each
    by true = omega arith
    by false = omega arith

count-none_active : (i : ℕ) (each : List SegmentInfo) → count_from i (none_active each) ≡ count_from i each
count-none_active i [] = refl
count-none_active i (info ∷ each) =
    let rest = count-none_active (suc i) each in
    omega (
      arith,
      rest,
      count-more i info each,
      count-more i (at_rest info) (none_active each),
      ap bit (clean-at_rest info),
    )

count-set : (i : ℕ) (each : List SegmentInfo) (k : ℕ) (info : SegmentInfo) → k < length each
    → count_from i (set each k info) + bit (clean_at each k) ≡ count_from i each + bit (is_clean info.state)
count-set i [] k info within = absurd (omega (arith, within))
count-set i (x ∷ each) zero info within = omega (arith, count-more i x each, count-more i info each)
count-set i (x ∷ each) (suc k) info within =
    let rest = count-set (suc i) each k info (omega (arith, within)) in
    omega (arith, rest, count-more i x each, count-more i x (set each k info))

pub count-most : (i : ℕ) (each : List SegmentInfo) → count_from i each ≤ length each
count-most i [] = omega arith
count-most i (x ∷ each) =
    let rest = count-most (suc i) each in
    omega (arith, rest, count-more i x each, bit-most (is_clean x.state))
  where
    bit-most : (b : Bool) → bit b ≤ 1
    bit-most true = omega arith
    bit-most false = omega arith

-- where one is clean, some are
pub count-some : (each : List SegmentInfo) (k : ℕ) → k < length each → clean_at each k ≡ true
    → 0 < count_from 0 each
count-some each k within is =
    let less = count-set 0 each k (record { state = Dirty; stamp = 0; used = 0 }) within in
    omega (arith, less, ap bit is)

-- ---- the lowest one

-- where the first so many are not clean, the clean ones lie behind them
pub clean-behind : (n i : ℕ) (each : List SegmentInfo) → ((k : ℕ) → k < n → clean_at each k ≡ false)
    → clean_from i each ≡ clean_from (i + n) (drop n each)
clean-behind zero i each none = let at : i ≡ i + 0 = omega arith in ap (λ (m : ℕ). clean_from m each) at
clean-behind (suc n) i [] none = refl
clean-behind (suc n) i (x ∷ each) none =
    let here : is_clean x.state ≡ false = none 0 (omega arith) in
    let at : suc i + n ≡ i + suc n = omega arith in
    rw here (clean-behind n (suc i) each (λ k low. none (suc k) (omega (arith, low)))
    ∙ ap (λ (m : ℕ). clean_from m (drop n each)) at)

-- those from the mark on are all
pub clean-marked : (each : List SegmentInfo) (c : CleanSegments) → TellsClean each c
    → clean_from 0 each ≡ clean_from c.mark (drop c.mark each)
clean-marked each c tells =
    let at : 0 + c.mark ≡ c.mark = omega arith in
    clean-behind c.mark 0 each tells.none_below ∙ ap (λ (m : ℕ). clean_from m (drop c.mark each)) at

-- the first of them all is the lowest
pub lowest-first : (each : List SegmentInfo) (c : CleanSegments) (r : Option ℕ) (old new : List ℕ)
    → TellsClean each c → old ≡ take c.count (clean_from 0 each)
    → MatchOption r ((old ≡ []) × (new ≡ [])) (λ segment. old ≡ segment ∷ new)
    → r ≡ slice_get (clean_from 0 each) 0
lowest-first each c r old new tells is popped = by r popped
  where
    all : old ≡ clean_from 0 each
    all = is ∙ take_all c.count (clean_from 0 each) (omega (arith, tells.count))

    by : (r : Option ℕ) → MatchOption r ((old ≡ []) × (new ≡ [])) (λ segment. old ≡ segment ∷ new)
        → r ≡ slice_get (clean_from 0 each) 0
    by None none = ap (λ (xs : List ℕ). slice_get xs 0) (sym none.0 ∙ all)
    by (Some segment) some = ap (λ (xs : List ℕ). slice_get xs 0) (sym some ∙ all)

-- the lowest clean one, behind segment i
record IsLowestFrom (i : ℕ) (each : List SegmentInfo) (k : ℕ) : Type 0 where
  behind : ℕ
  at : k ≡ i + behind
  within : behind < length each
  clean : clean_at each behind ≡ true
  none_below : (j : ℕ) → j < behind → clean_at each j ≡ false

lowest-from : (i : ℕ) (each : List SegmentInfo) (k : ℕ) → slice_get (clean_from i each) 0 ≡ Some k
    → IsLowestFrom i each k
lowest-from i [] k e = absurd (cc)
lowest-from i (x ∷ each) k e = by (is_clean x.state) refl e (lowest-from (suc i) each k)
  where
    by : (b : Bool) → is_clean x.state ≡ b
        → slice_get (cond b (i ∷ clean_from (suc i) each) (clean_from (suc i) each)) 0 ≡ Some k
        → (slice_get (clean_from (suc i) each) 0 ≡ Some k → IsLowestFrom (suc i) each k)
        → IsLowestFrom i (x ∷ each) k
    by true is e rest = record {
      behind = 0;
      at = (let same : i ≡ k = cc in omega (arith, same));
      within = omega arith;
      clean = is;
      none_below = λ j low. absurd (omega (arith, low));
    }
    by false is e rest =
        let r = rest e in
        record {
          behind = suc r.behind;
          at = omega (arith, r.at);
          within = omega (arith, r.within);
          clean = r.clean;
          none_below = below r;
        }
      where
        below : (r : IsLowestFrom (suc i) each k) (j : ℕ) → j < suc r.behind → clean_at (x ∷ each) j ≡ false
        below r zero low = is
        below r (suc j) low = r.none_below j (omega (arith, low))

-- ---- what is kept of them

all-clean : (i n : ℕ) → count_from i (replicate n clean_info) ≡ n
all-clean i zero = refl
all-clean i (suc n) = ap suc (all-clean (suc i) n)

-- all are clean
pub tells-new : (n : ℕ) → TellsClean (replicate n clean_info) (record { count = n; mark = 0 })
tells-new n = record { count = sym (all-clean 0 n); none_below = λ i low. absurd (omega (arith, low)) }

-- more clean ones come behind them
pub tells-more : InfosStay → CleanGrow → (each : List SegmentInfo) (c : CleanSegments) (more : ℕ)
    → TellsClean each c
    → TellsClean (each ++ replicate more clean_info) (record { count = c.count + more; mark = c.mark })
tells-more infos clean each c more tells =
    subst
    (λ k. TellsClean (each ++ replicate k clean_info) (record { count = c.count + more; mark = c.mark }))
    same
    (record {
      count =
          omega (
            arith,
            tells.count,
            same,
            ap length (clean n s),
            length-append (clean_from 0 each) (range_with_len (length each) (n - length each)),
            length-range_with_len (length each) (n - length each),
          );
      none_below = λ i low. ap (λ (x : SegmentInfo). is_clean x.state) (infos n i s) ∙ tells.none_below i low;
    })
  where
    s : Segments
    s = record { blocks = 0; each = each }

    n : ℕ
    n = length each + more

    same : n - length each ≡ more
    same = omega arith

-- one is not clean now
module _ (each : List SegmentInfo) (k : ℕ) (info : SegmentInfo) (within : k < length each)
    (other : is_clean info.state ≡ false) where
  inside : k < length (none_active each)
  inside = omega (arith, length-none_active each, within)

  count-without : count_from 0 (set (none_active each) k info) + bit (clean_at each k) ≡ count_from 0 each
  count-without =
      omega (
        arith,
        count-set 0 (none_active each) k info inside,
        count-none_active 0 each,
        ap bit (clean-none_active each k),
        ap bit other,
      )

  here : clean_at (set (none_active each) k info) k ≡ false
  here =
      ap (λ (x : SegmentInfo). is_clean x.state) (get_or-set_same (none_active each) k info clean_info inside)
      ∙ other

  elsewhere : (i : ℕ) → i ≢ k → clean_at (set (none_active each) k info) i ≡ clean_at each i
  elsewhere i apart =
      ap (λ (x : SegmentInfo). is_clean x.state)
      (get_or-set_other (none_active each) k i info clean_info apart)
      ∙ clean-none_active each i

  stays-false : (i : ℕ) → clean_at each i ≡ false → clean_at (set (none_active each) k info) i ≡ false
  stays-false i was = elim (cases_eq i k) [
    | inl same ↦ ap (clean_at (set (none_active each) k info)) same ∙ here
    | inr apart ↦ elsewhere i apart ∙ was
  ]

pub tells-without : (each : List SegmentInfo) (c : CleanSegments) (k count : ℕ) → TellsClean each c
    → k < length each → count + bit (clean_at each k) ≡ c.count
    → (info : SegmentInfo) → is_clean info.state ≡ false
    → TellsClean (set (none_active each) k info) (record { count = count; mark = c.mark })
tells-without each c k count tells within less info other = record {
  count = omega (arith, less, tells.count, count-without each k info within other);
  none_below = λ i low. stays-false each k info within other i (tells.none_below i low);
}

pub tells-without_lowest : (each : List SegmentInfo) (c : CleanSegments) (k count mark : ℕ)
    → TellsClean each c → slice_get (clean_from 0 each) 0 ≡ Some k → count ≡ c.count - 1 → mark ≡ k + 1
    → (info : SegmentInfo) → is_clean info.state ≡ false
    → TellsClean (set (none_active each) k info) (record { count = count; mark = mark })
tells-without_lowest each c k count mark tells lowest less behind info other =
    by (lowest-from 0 each k lowest)
  where
    by : IsLowestFrom 0 each k
        → TellsClean (set (none_active each) k info) (record { count = count; mark = mark })
    by l =
        let same : l.behind ≡ k = omega (arith, l.at) in
        let within : k < length each = omega (arith, same, l.within) in
        let was : bit (clean_at each k) ≡ 1 = ap bit (ap (clean_at each) (sym same) ∙ l.clean) in
        record {
          count = omega (arith, was, less, tells.count, count-without each k info within other);
          none_below = λ i low. elim (cases_eq i k) [
            | inl at ↦ ap (clean_at (set (none_active each) k info)) at ∙ here each k info within other
            | inr apart ↦
                stays-false each k info within other i
                (l.none_below i (omega (arith, low, behind, apart, same)))
          ];
        }

-- one is clean now
pub tells-with : (each : List SegmentInfo) (c : CleanSegments) (k count mark : ℕ) → TellsClean each c
    → k < length each → count + bit (clean_at each k) ≡ c.count + 1 → mark ≤ k → mark ≤ c.mark
    → TellsClean (set each k clean_info) (record { count = count; mark = mark })
tells-with each c k count mark tells within more at below = record {
  count = omega (arith, more, tells.count, count-set 0 each k clean_info within);
  none_below = λ i low.
      let apart : i ≢ k = omega (arith, low, at) in
      ap (λ (x : SegmentInfo). is_clean x.state) (get_or-set_other each k i clean_info clean_info apart)
      ∙ tells.none_below i (omega (arith, low, below));
}
