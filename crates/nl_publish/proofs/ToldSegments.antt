-- Where there is a segment, both of it are told: what is known of it, and how many needed blocks it has.
use Rattle.std.proofs.Common.{◌≡◌, ◌∙◌, ◌<◌, ℕ, Option, None, Some, Ok, Err, ap, sym, length, arith}
use Rattle.std.proofs.lemmas.List.FromFn.{get_or-map-range_with_len, length-map-range_with_len}
use Rattle.std.proofs.lemmas.Option.{slice_get-get_or, slice_get_within}
use Rattle.std.specs.Option.{ok_or, option_map}
use Rattle.std.specs.Prelude.{slice_get}
use Rattle.nl_types.specs.declared.error.VolError.{VolError}
use Rattle.nl_types.specs.declared.error.VolError.TheVariants.{BadRange}
use Rattle.nl_types.specs.declared.segment.SegmentInfo.{SegmentInfo}
use Rattle.nl_vstore.specs.Counts.{needed_counts}
use Rattle.nl_vstore.specs.Located.{needed_count}
use Rattle.nl_commit.specs.CleanerViews.{needed_told}
use Rattle.nl_commit.specs.CleaningEvents.{needed_by}
use Rattle.nl_commit.specs.Layout.{Layout}
use Rattle.nl_publish.specs.SegmentViews.{segment_told, view_of}
use Rattle.nl_publish.specs.declared.views.SegmentView.{SegmentView}

module _ (l : Layout) (segment : ℕ) where
  -- the count is there where the segment is
  counted : (info : SegmentInfo) → slice_get l.store.segments.each segment ≡ Some info
      → needed_told l segment ≡ Ok (needed_count l.store (needed_by l.lists) segment)
  counted info is =
      let each = l.store.segments.each in
      let count = needed_count l.store (needed_by l.lists) in
      let low : segment < length each = slice_get_within each segment info is in
      let size = length-map-range_with_len count 0 (length each) in
      let at = get_or-map-range_with_len count 0 (length each) segment segment 0 low (omega arith) in
      ap (λ (o : Option ℕ). ok_or o BadRange)
      (slice_get-get_or (needed_counts l.store (needed_by l.lists)) segment 0 (omega (arith, low, size))
      ∙ ap (λ (n : ℕ). Some n) at)

  there : (info : SegmentInfo) (o : Option SegmentInfo) → Ok info ≡ ok_or o BadRange → o ≡ Some info
  there info None is = absurd (cc)
  there info (Some other) is = cc

  -- so the count isn't refused where the segment is told
  pub never-uncounted : (info : SegmentInfo) (error : VolError)
      → Ok info ≡ ok_or (slice_get l.store.segments.each segment) BadRange → Err error ≡ needed_told l segment
      → ⊥
  never-uncounted info error is refused =
      let at = counted info (there info (slice_get l.store.segments.each segment) is) in absurd (cc)

  pub told-there : (info : SegmentInfo) (needed : ℕ)
      → Ok info ≡ ok_or (slice_get l.store.segments.each segment) BadRange → Ok needed ≡ needed_told l segment
      → Ok (record { info = info; needed = needed }) ≡ segment_told l segment
  told-there info needed is told =
      let here = there info (slice_get l.store.segments.each segment) is in
      let same : needed ≡ needed_count l.store (needed_by l.lists) segment =
      let at = counted info here in cc in
      let view : SegmentView = record { info = info; needed = needed } in
      let all : view ≡ view_of l segment info =
      ap (λ (n : ℕ). view_with n) same in
      ap (λ (v : SegmentView). Ok v) all
      ∙ ap (λ (o : Option SegmentInfo). ok_or (option_map (view_of l segment) o) BadRange) (sym here)
    where
      view_with : ℕ → SegmentView
      view_with n = record { info = info; needed = n }
