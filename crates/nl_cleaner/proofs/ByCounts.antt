-- What counts of needed blocks tell of the segments.
use Rattle.std.proofs.Common.{◌≡◌, ℕ, zero, suc, ◌-◌, ◌*◌, ◌<◌, ◌≤◌, Bool, true, false, cond, ◌&&◌, List, [], ◌∷◌, length, Option, Some, None, sym, refl, ap, arith}
use Rattle.std.specs.Prelude.{nat_le, slice_get, slice_index_or}
use Rattle.std.specs.Option.{ok_or}
use Rattle.std.specs.Result.{result_unwrap_or}
use Rattle.std.proofs.lemmas.Bool.{leb-false, lt-leb}
use Rattle.std.proofs.lemmas.List.FromFn.{get_or-map-range_with_len}
use Rattle.nl_types.specs.declared.error.VolError.{VolError}
use Rattle.nl_types.specs.declared.error.VolError.TheVariants.{BadRange}
use Rattle.nl_types.specs.Blocks.Entries.{is_needed}
use Rattle.nl_types.specs.Blocks.Segments.{info_of}
use Rattle.nl_vstore.specs.Located.{needed_count, payload_block, payload_count_in}
use Rattle.nl_commit.specs.CleanerViews.{counts_after, needed_after, staying_in}
use Rattle.nl_commit.specs.Layout.{Layout}
use Rattle.nl_cleaner.specs.declared.choice.Candidate.{Candidate}
use Rattle.nl_cleaner.specs.Plan.{candidate_in, is_dirty, stamp_in}
use Rattle.nl_cleaner.specs.Facts.StepsLeft.{picked-few}

-- the count of a segment, or 0
pub told-count : (counts : List ℕ) (segment : ℕ)
    → result_unwrap_or (ok_or {E = VolError} (slice_get counts segment) BadRange) 0
    ≡ slice_index_or counts segment 0
told-count [] segment = refl
told-count (n ∷ counts) zero = refl
told-count (n ∷ counts) (suc segment) = told-count counts segment

-- the counts have each segment's
pub count-of : (l : Layout) (below segment : ℕ) → segment < length l.store.segments.each
    → slice_index_or (counts_after l below) segment 0 ≡ needed_after l below segment
count-of l below segment there =
    get_or-map-range_with_len (needed_count l.store (is_needed (staying_in l below))) 0
    (length l.store.segments.each) segment segment 0 there (omega arith)

none-by : (c : Candidate) (dirty may does : Bool) → (dirty && may) ≡ false → (may ≡ false → does ≡ false)
    → None ≡ cond {A = Option Candidate} (dirty && does) (Some c) None
none-by c false may does h weaker = refl
none-by c true may does h weaker =
    ap (λ (t : Bool). cond {A = Option Candidate} t (Some c) None) (sym (weaker h))

-- where too few used blocks are left beside the needed ones, the segment doesn't qualify
pub too-few-used : (l : Layout) (below least segment : ℕ)
    → (is_dirty (info_of l.store.segments.each segment).state
    && nat_le least ((info_of l.store.segments.each segment).used - needed_after l below segment))
    ≡ false
    → None ≡ candidate_in l below least segment
too-few-used l below least segment h =
    none-by (record { stamp = stamp_in l segment; segment = segment })
    (is_dirty (info_of l.store.segments.each segment).state) _
    (nat_le least (payload_count_in l.store segment - needed_after l below segment)) h fewer
  where
    payload : payload_count_in l.store segment ≤ (info_of l.store.segments.each segment).used
    payload =
        picked-few (payload_block l.store) (segment * l.store.segments.blocks)
        (info_of l.store.segments.each segment).used

    fewer : nat_le least ((info_of l.store.segments.each segment).used - needed_after l below segment) ≡ false
        → nat_le least (payload_count_in l.store segment - needed_after l below segment) ≡ false
    fewer few = lt-leb least (payload_count_in l.store segment - needed_after l below segment)
        (omega (
          arith,
          payload,
          leb-false least ((info_of l.store.segments.each segment).used - needed_after l below segment) few,
        ))
