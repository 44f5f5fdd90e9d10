-- The options of the program, and what their values give.
use Rattle.std.specs.Prelude.{ℕ, true, List, [], codes, Option, None, Some, option_and_then, option_map}
use Rattle.clap.specs.Words.{App, Row, Rule, Text, first_of, new_rule, with_rule}
use Rattle.clap.specs.Simple.{new_shape}
use Rattle.clap.specs.declared.builder.action.ArgAction.TheVariants.{Set}
use Rattle.nl_commands.specs.declared.arguments.Arguments.{Arguments}
use Rattle.nl_commands.specs.SmallNumbers.{number_in}

-- `--NAME VALUE`
abbrev pub value_rule : Text → Rule
value_rule name = record (new_rule name) { long = Some name; action = Some Set; value_names = 1 }

-- The program takes no option yet but those that the library adds: `-h` and `--help`, and, since it
-- has a version, `-V` and `--version`.
abbrev pub bare : App
bare = record {
  top = record (new_shape (codes "nlvol")) { no_binary_name = true; has_version = true };
  subs = [];
}

abbrev pub program : App
program =
    with_rule (with_rule (with_rule (with_rule (with_rule bare
    (value_rule (codes "segments"))) (value_rule (codes "blocks"))) (value_rule (codes "conf")))
    (value_rule (codes "open"))) (value_rule (codes "save"))

-- the number in the word, and 64 without one
abbrev pub number_or_64 : Option Text → Option ℕ
number_or_64 None = Some 64
number_or_64 (Some word) = number_in word

abbrev pub number_given : Text → List Row → Option ℕ
number_given id rows = number_or_64 (first_of id rows)

-- segments, and blocks in each
abbrev pub geometry_given : List Row → Option (ℕ × ℕ)
geometry_given rows =
    option_and_then
    (λ segments. option_map (λ blocks. (segments, blocks)) (number_given (codes "blocks") rows))
    (number_given (codes "segments") rows)

abbrev pub divided : ℕ → ℕ → (configuration opened saved : Option Text) → Arguments
divided segments blocks configuration opened saved = record {
  segments = segments;
  blocks = blocks;
  configuration = configuration;
  «open» = opened;
  save = saved;
}

abbrev pub arguments_given : List Row → Option Arguments
arguments_given rows =
    option_map (λ g. divided g.0 g.1 (first_of (codes "conf") rows) (first_of (codes "open") rows)
    (first_of (codes "save") rows))
    (geometry_given rows)
