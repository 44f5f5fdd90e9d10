-- What words give by a grammar: the matches of the library's own definitions, where these find no fault.
use Rattle.std.specs.Prelude.{◌≡◌, ◌&&◌, ◌||◌, not, cond, ℕ, Bool, true, false, List, [], ◌∷◌, codes, Option, None, Some, Result, Ok, Err, find, option_and_then}
use Rattle.std.specs.Str.{bytes_eq}
use Rattle.clap.specs.Words.{App, Kinds, Row, Rule, Text, fault_of, is_simple_and_free, matches_of, new_rule, with_rule}
use Rattle.clap.specs.Simple.{new_shape}
use Rattle.clap.specs.declared.builder.action.ArgAction.{ArgAction}
use Rattle.clap.specs.declared.builder.action.ArgAction.TheVariants.{Set, Append, SetTrue}
use Rattle.clap.specs.declared.parser.matches.ValueSource.{ValueSource}
use Rattle.clap.specs.declared.parser.matches.ValueSource.TheVariants.{DefaultValue, CommandLine}
use Rattle.nl_types.specs.Plain.Calls.{IsUnless}
use Rattle.nl_commands.specs.declared.error.LineError.{LineError}
use Rattle.nl_commands.specs.declared.error.LineError.TheVariants.{Usage, Memory}
use Rattle.nl_commands.specs.declared.grammar.Argument.{Argument}
use Rattle.nl_commands.specs.declared.grammar.Argument.TheVariants.{Flag, Value, Operand, Operands}

abbrev pub rule : (id : Text) → (short : Option ℕ) → (is_required : Bool) → ArgAction → Rule
rule id short is_required action =
    record (new_rule id) { short = short; required = is_required; action = Some action }

-- the letter that a text begins with
abbrev pub letter : Text → ℕ
letter [] = 0
letter (b ∷ text) = b

-- an option that is there or not
abbrev pub flag_rule : Text → ℕ → Rule
flag_rule id short = rule id (Some short) false SetTrue

-- an option that has a value
abbrev pub option_rule : Text → ℕ → Rule
option_rule id short = rule id (Some short) false Set

-- one word
abbrev pub operand_rule : Text → Rule
operand_rule id = rule id None true Set

-- one word or more
abbrev pub operands_rule : Text → Rule
operands_rule id = rule id None true Append

-- the rule of what code takes for an argument
abbrev pub argument_rule : Argument → Rule
argument_rule (Flag id short) = flag_rule id.now short
argument_rule (Value id short) = option_rule id.now short
argument_rule (Operand id) = operand_rule id.now
argument_rule (Operands id) = operands_rule id.now

-- ---- a command, with its rules one after another

abbrev pub with_rules : App → List Rule → App
with_rules app [] = app
with_rules app (r ∷ rest) = with_rules (with_rule app r) rest

abbrev pub bare_grammar : Text → App
bare_grammar name =
    record { top = record (new_shape name) { no_binary_name = true; disable_help_flag = true }; subs = [] }

abbrev pub grammar : Text → List Rule → App
grammar name rules = with_rules (bare_grammar name) rules

abbrev pub is_readable : App → Bool
is_readable app = is_simple_and_free app

-- a lone hyphen stands before the end of the options
abbrev pub has_hyphen : List Text → Bool
has_hyphen [] = false
has_hyphen (word ∷ words) =
    not (bytes_eq word (codes "--")) && (bytes_eq word (codes "-") || has_hyphen words)

abbrev pub unless_fault : {A : Type 0} → Kinds → Result A LineError → Result A LineError
unless_fault [] r = r
unless_fault (k ∷ kinds) r = Err Usage

abbrev pub parsed : App → List Text → Result (List Row) LineError
parsed app words =
    cond (has_hyphen words) (Err Usage) (unless_fault (fault_of app words) (Ok (matches_of app words)))

-- the result is what the words give by a readable grammar, where memory was not refused
abbrev pub Reads : Text → List Rule → List Text → Result (List Row) LineError → Type 0
Reads name rules words result =
    is_readable (grammar name rules) ≡ true → IsUnless Memory result (parsed (grammar name rules) words)

-- ---- what was given

abbrev pub is_from_words : Option ValueSource → Bool
is_from_words None = false
is_from_words (Some DefaultValue) = false
is_from_words (Some CommandLine) = true

-- an option is among the words
abbrev pub is_used : Text → List Row → Bool
is_used id rows = is_from_words (option_and_then (λ r. r.source) (find (λ r. bytes_eq r.id id) rows))
