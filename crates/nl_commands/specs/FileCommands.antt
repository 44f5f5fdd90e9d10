-- Commands that change the tree of files: what they may be given, and what they ask for then.
use Rattle.std.specs.Prelude.{ℕ, ◌+◌, List, [], ◌∷◌, codes, min, Result, Ok, Err}
use Rattle.clap.specs.Words.{Row, Rule, Text}
use Rattle.nl_types.specs.Plain.Calls.{and_then}
use Rattle.nl_types.specs.declared.event.Change.TheVariants.{Create, Mkdir, Write, Truncate, Unlink, Rmdir, Rename}
use Rattle.nl_types.specs.Plain.Limits.{file_limit}
use Rattle.nl_commands.specs.declared.command.Command.{Command}
use Rattle.nl_commands.specs.declared.command.Command.TheVariants.{Change, Fill}
use Rattle.nl_commands.specs.declared.error.LineError.{LineError}
use Rattle.nl_commands.specs.declared.error.LineError.TheVariants.{Usage}
use Rattle.nl_commands.specs.Grammars.{operand_rule, operands_rule}
use Rattle.nl_commands.specs.GivenOperands.{byte_in, word_at, words_at}
use Rattle.nl_commands.specs.NumberWords.{number_in}

-- create P, mkdir P, rm P, rmdir P
abbrev pub path_rules : List Rule
path_rules = operand_rule (codes "path") ∷ []

abbrev pub create_given : List Row → Result Command LineError
create_given rows = and_then (word_at (codes "path") rows) (λ path. Ok (Change (Create path)))

abbrev pub mkdir_given : List Row → Result Command LineError
mkdir_given rows = and_then (word_at (codes "path") rows) (λ path. Ok (Change (Mkdir path)))

abbrev pub rm_given : List Row → Result Command LineError
rm_given rows = and_then (word_at (codes "path") rows) (λ path. Ok (Change (Unlink path)))

abbrev pub rmdir_given : List Row → Result Command LineError
rmdir_given rows = and_then (word_at (codes "path") rows) (λ path. Ok (Change (Rmdir path)))

-- mv A B, write P OFF TEXT, fill P OFF BYTE COUNT, truncate P SIZE
abbrev pub operands_rules : List Rule
operands_rules = operands_rule (codes "operands") ∷ []

abbrev pub mv_of : List Text → Result Command LineError
mv_of (from ∷ to ∷ []) = Ok (Change (Rename from to))
mv_of words = Err Usage

abbrev pub mv_given : List Row → Result Command LineError
mv_given rows = and_then (words_at (codes "operands") rows) mv_of

abbrev pub write_of : List Text → Result Command LineError
write_of (path ∷ offset ∷ text ∷ []) = and_then (number_in offset) (λ n. Ok (Change (Write path n text)))
write_of words = Err Usage

abbrev pub write_given : List Row → Result Command LineError
write_given rows = and_then (words_at (codes "operands") rows) write_of

-- a greater count than this counts as this: one more byte than a file has
abbrev pub most_filled : ℕ
most_filled = file_limit + 1

abbrev pub fill_of : List Text → Result Command LineError
fill_of (path ∷ offset ∷ byte ∷ count ∷ []) =
    and_then (number_in offset) (λ start.
    and_then (byte_in byte) (λ value.
    and_then (number_in count) (λ n.
    Ok (Fill path start value (min n most_filled)))))
fill_of words = Err Usage

abbrev pub fill_given : List Row → Result Command LineError
fill_given rows = and_then (words_at (codes "operands") rows) fill_of

abbrev pub truncate_of : List Text → Result Command LineError
truncate_of (path ∷ size ∷ []) = and_then (number_in size) (λ n. Ok (Change (Truncate path n)))
truncate_of words = Err Usage

abbrev pub truncate_given : List Row → Result Command LineError
truncate_given rows = and_then (words_at (codes "operands") rows) truncate_of
