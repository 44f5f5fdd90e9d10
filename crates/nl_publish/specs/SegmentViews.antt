-- What is told of a segment under the lock.
use Rattle.std.specs.Prelude.{ℕ, Result, slice_get}
use Rattle.std.specs.Option.{ok_or, option_map}
use Rattle.nl_types.specs.declared.error.VolError.{VolError}
use Rattle.nl_types.specs.declared.error.VolError.TheVariants.{BadRange}
use Rattle.nl_types.specs.declared.segment.SegmentInfo.{SegmentInfo}
use Rattle.nl_vstore.specs.Located.{needed_count}
use Rattle.nl_commit.specs.CleaningEvents.{needed_by}
use Rattle.nl_commit.specs.Layout.{Layout}
use Rattle.nl_publish.specs.declared.views.SegmentView.{SegmentView}

-- what is known of it, and how many needed numbers have their pages there
abbrev pub view_of : Layout → (segment : ℕ) → SegmentInfo → SegmentView
view_of l segment info =
    record { info = info; needed = needed_count l.store (needed_by l.lists) segment }

-- so it is told where there is such a segment
abbrev pub segment_told : Layout → (segment : ℕ) → Result SegmentView VolError
segment_told l segment =
    ok_or (option_map (view_of l segment) (slice_get l.store.segments.each segment)) BadRange
