-- Commands on checkpoints, and the moment that these are made at: what they may be given, and what they ask
-- for then.
use Rattle.std.specs.Prelude.{Bool, true, false, if◌then◌else◌, List, [], ◌∷◌, codes, Result, Ok, Err}
use Rattle.std.specs.Str.{bytes_eq}
use Rattle.clap.specs.Words.{Row, Rule, Text}
use Rattle.nl_types.specs.Plain.Calls.{and_then}
use Rattle.nl_types.specs.declared.event.Mode.{Mode}
use Rattle.nl_types.specs.declared.event.Mode.TheVariants.{Plain, Snapshot}
use Rattle.nl_types.specs.declared.row.ListOptions.{ListOptions}
use Rattle.nl_commands.specs.declared.command.Command.{Command}
use Rattle.nl_commands.specs.declared.command.Command.TheVariants.{At, Mkcp, Chcp, Lscp, Rmcp}
use Rattle.nl_commands.specs.declared.error.LineError.{LineError}
use Rattle.nl_commands.specs.declared.error.LineError.TheVariants.{Usage}
use Rattle.nl_commands.specs.Grammars.{flag_rule, is_used, letter, operand_rule, operands_rule, option_rule}
use Rattle.nl_commands.specs.GivenOperands.{number_at, numbers_at, optional_number_at, ranges_at, word_at}

-- at MOMENT
abbrev pub at_rules : List Rule
at_rules = operand_rule (codes "moment") ∷ []

abbrev pub at_given : List Row → Result Command LineError
at_given rows = and_then (number_at (codes "moment") rows) (λ moment. Ok (At moment))

-- mkcp [-s]
abbrev pub mkcp_rules : List Rule
mkcp_rules = flag_rule (codes "snapshot") (letter (codes "s")) ∷ []

abbrev pub mode_if : (is_snapshot : Bool) → Mode
mode_if true = Snapshot
mode_if false = Plain

abbrev pub mkcp_given : List Row → Command
mkcp_given rows = Mkcp (mode_if (is_used (codes "snapshot") rows))

-- chcp cp|ss N..
abbrev pub chcp_rules : List Rule
chcp_rules = operand_rule (codes "mode") ∷ operands_rule (codes "numbers") ∷ []

abbrev pub mode_in : Text → Result Mode LineError
mode_in word =
    if bytes_eq word (codes "cp") then Ok Plain
    else (if bytes_eq word (codes "ss") then Ok Snapshot else Err Usage)

abbrev pub mode_at : Text → List Row → Result Mode LineError
mode_at id rows = and_then (word_at id rows) mode_in

abbrev pub chcp_given : List Row → Result Command LineError
chcp_given rows =
    and_then (mode_at (codes "mode") rows) (λ mode.
    and_then (numbers_at (codes "numbers") rows) (λ numbers.
    Ok (Chcp mode numbers)))

-- lscp [-r] [-s] [-a] [-i N] [-n K]
abbrev pub lscp_rules : List Rule
lscp_rules =
    flag_rule (codes "reverse") (letter (codes "r")) ∷ flag_rule (codes "snapshots") (letter (codes "s"))
    ∷ flag_rule (codes "minor") (letter (codes "a"))
    ∷ option_rule (codes "from") (letter (codes "i")) ∷ option_rule (codes "count") (letter (codes "n")) ∷ []

abbrev pub options_given : List Row → Result ListOptions LineError
options_given rows =
    and_then (optional_number_at (codes "from") rows) (λ from.
    and_then (optional_number_at (codes "count") rows) (λ count.
    Ok (record {
      reverse = is_used (codes "reverse") rows;
      snapshots_only = is_used (codes "snapshots") rows;
      with_minor = is_used (codes "minor") rows;
      from = from;
      count = count;
    })))

abbrev pub lscp_given : List Row → Result Command LineError
lscp_given rows = and_then (options_given rows) (λ options. Ok (Lscp options))

-- rmcp [-f] R..
abbrev pub rmcp_rules : List Rule
rmcp_rules = flag_rule (codes "quiet") (letter (codes "f")) ∷ operands_rule (codes "ranges") ∷ []

abbrev pub rmcp_given : List Row → Result Command LineError
rmcp_given rows =
    and_then (ranges_at (codes "ranges") rows) (λ ranges. Ok (Rmcp (is_used (codes "quiet") rows) ranges))
