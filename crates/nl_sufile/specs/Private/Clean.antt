-- What a table keeps of its clean segments.
use Rattle.std.specs.Prelude.{◌≡◌, ℕ, ◌+◌, ◌<◌, false, List, ◌∷◌, drop, length}
use Rattle.nl_types.specs.declared.segment.SegmentInfo.{SegmentInfo}
use Rattle.nl_types.specs.Blocks.Segments.{clean_from, info_of, is_clean}
use Rattle.nl_sufile.specs.declared.clean.CleanSegments.{CleanSegments}

-- as many are clean, and none below the mark
pub record TellsClean (each : List SegmentInfo) (clean : CleanSegments) : Type 0 where
  pub count : clean.count ≡ length (clean_from 0 each)
  pub none_below : (i : ℕ) → i < clean.mark → is_clean (info_of each i).state ≡ false

-- the first clean segment from one on, and those behind it
pub record IsNextClean (each : List SegmentInfo) (from number : ℕ) : Type 0 where
  pub within : number < length each
  pub first : clean_from from (drop from each) ≡ number ∷ clean_from (number + 1) (drop (number + 1) each)
