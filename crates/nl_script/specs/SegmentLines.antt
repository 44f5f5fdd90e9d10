-- The lines of segments.
use Rattle.std.specs.Prelude.{ℕ, Bool, true, false, not, ◌||◌, if◌then◌else◌, List, [], ◌∷◌, ◌++◌, codes, Option, None, Some}
use Rattle.std.specs.Fmt.{decimal}
use Rattle.std.specs.List.{flat_map, enumerate_from}
use Rattle.nl_types.specs.Plain.Characters.{blank_space, line_feed}
use Rattle.nl_types.specs.Blocks.Segments.{is_clean}
use Rattle.nl_types.specs.declared.segment.SegmentInfo.{SegmentInfo}
use Rattle.nl_types.specs.declared.segment.SegmentState.{SegmentState}
use Rattle.nl_types.specs.declared.segment.SegmentState.TheVariants.{Clean, Dirty, Active, Error}
use Rattle.nl_script.specs.declared.texts.segments.SegmentRow.{SegmentRow}
use Rattle.nl_script.specs.Texts.{Text, right, left}

-- active, dirty, error
abbrev pub state_letters : SegmentState → Text
state_letters Clean = codes "---"
state_letters Dirty = codes "-d-"
state_letters Active = codes "ad-"
state_letters Error = codes "-de"

abbrev pub seg_header : (long : Bool) → Text
seg_header false = codes "  SEGNUM       MOMENT STAT  NBLOCKS" ++ (line_feed ∷ [])
seg_header true = codes "  SEGNUM       MOMENT STAT  NBLOCKS   NEEDED" ++ (line_feed ∷ [])

-- the blocks needed, where they are counted
abbrev pub needed_column : Option ℕ → Text
needed_column None = []
needed_column (Some count) = blank_space ∷ right 8 (decimal count)

-- number, stamp, letters, blocks used, and blocks needed
abbrev pub seg_text : ℕ → SegmentInfo → Option ℕ → Text
seg_text segment info needed =
    right 8 (decimal segment)
    ++ (blank_space ∷ (right 12 (decimal info.stamp)
    ++ (blank_space ∷ (left 4 (state_letters info.state)
    ++ (blank_space ∷ (right 8 (decimal info.used)
    ++ (needed_column needed
    ++ (line_feed ∷ []))))))))

-- a clean segment is listed among all alone
abbrev pub is_listed : (all : Bool) → SegmentInfo → Bool
is_listed all info = all || not (is_clean info.state)

abbrev pub listed_seg_text : (all : Bool) → ℕ → SegmentRow → Text
listed_seg_text all segment row = if is_listed all row.info then seg_text segment row.info row.needed else []

-- those of a table, from a segment on
abbrev pub seg_texts_from : (all : Bool) → ℕ → List SegmentRow → Text
seg_texts_from all segment rows =
    flat_map (λ entry. listed_seg_text all entry.0 entry.1) (enumerate_from segment rows)

abbrev pub seg_texts : (all : Bool) → List SegmentRow → Text
seg_texts all rows = seg_texts_from all 0 rows
