-- The lines of kept checkpoints.
use Rattle.std.specs.Prelude.{Bool, true, false, List, [], ◌∷◌, ◌++◌, codes}
use Rattle.std.specs.Fmt.{decimal}
use Rattle.std.specs.List.{flat_map}
use Rattle.nl_types.specs.Plain.Characters.{blank_space, line_feed}
use Rattle.nl_types.specs.declared.event.Mode.{Mode}
use Rattle.nl_types.specs.declared.event.Mode.TheVariants.{Plain, Snapshot}
use Rattle.nl_types.specs.declared.row.Row.{Row}
use Rattle.nl_script.specs.Texts.{Text, right, left}

abbrev pub mode_name : Mode → Text
mode_name Plain = codes "cp"
mode_name Snapshot = codes "ss"

-- whether the volume made the checkpoint by itself
abbrev pub minor_flag : Bool → Text
minor_flag true = codes "i"
minor_flag false = codes "-"

abbrev pub cp_header : Text
cp_header = codes "     CNO       MOMENT MODE FLG     ICNT" ++ (line_feed ∷ [])

-- number, stamp, mode, flag, and inodes in use
abbrev pub cp_text : Row → Text
cp_text row =
    right 8 (decimal row.number)
    ++ (blank_space ∷ (right 12 (decimal row.stamp)
    ++ (blank_space ∷ (left 4 (mode_name row.mode)
    ++ (blank_space ∷ (left 3 (minor_flag row.minor)
    ++ (blank_space ∷ (right 8 (decimal row.inodes)
    ++ (line_feed ∷ [])))))))))

abbrev pub cp_texts : List Row → Text
cp_texts rows = flat_map cp_text rows
