-- Lines by computation, as a check of the definitions against answers made by hand.
use Rattle.std.proofs.Common.{◌≡◌, ℕ, Bool, true, false, [], ◌∷◌, refl, Option, None, Some, Result, Ok, Err}
use Rattle.std.specs.Prelude.{codes}
use Rattle.clap.specs.Words.{Text}
use Rattle.clap.proofs.OnLiterals.{clap_on_literals}
use Rattle.nl_types.specs.declared.event.Change.TheVariants.{Create, Write, Truncate, Rename}
use Rattle.nl_types.specs.declared.event.Mode.TheVariants.{Snapshot}
use Rattle.nl_commands.specs.declared.command.CheckpointRange.TheVariants.{One, Between, Since}
use Rattle.nl_commands.specs.declared.command.Command.{Command}
use Rattle.nl_commands.specs.declared.command.Command.TheVariants.{At, Chcp, Lscp, Rmcp, Lssu, Clean, Change, Fill, Show}
use Rattle.nl_commands.specs.declared.command.Shown.TheVariants.{Content}
use Rattle.nl_commands.specs.declared.error.LineError.{LineError}
use Rattle.nl_commands.specs.declared.error.LineError.TheVariants.{Usage}
use Rattle.nl_commands.specs.CommandNames.{command_meant, commands}

abbrev Meant : Type 0
Meant = Result Command LineError

abbrev two : Text → Text → Meant
two a b = command_meant (a ∷ b ∷ [])

abbrev three : Text → Text → Text → Meant
three a b c = command_meant (a ∷ b ∷ c ∷ [])

abbrev four : Text → Text → Text → Text → Meant
four a b c d = command_meant (a ∷ b ∷ c ∷ d ∷ [])

abbrev five : Text → Text → Text → Text → Text → Meant
five a b c d e = command_meant (a ∷ b ∷ c ∷ d ∷ e ∷ [])

abbrev listing : (reversed snapshots : Bool) → Option ℕ → Option ℕ → Meant
listing reversed snapshots from count =
    Ok (Lscp (record {
      reverse = reversed;
      snapshots_only = snapshots;
      with_minor = false;
      from = from;
      count = count;
    }))

-- ---- numbers

leading_zeros : two (codes "at") (codes "007") ≡ Ok (At 7)
unfolding clap_on_literals commands
leading_zeros = refl

greatest_number : two (codes "at") (codes "18446744073709551615") ≡ Ok (At 18446744073709551615)
unfolding clap_on_literals commands
greatest_number = refl

number_too_great : two (codes "at") (codes "18446744073709551616") ≡ Err Usage
unfolding clap_on_literals commands
number_too_great = refl

plus_sign : two (codes "at") (codes "+5") ≡ Err Usage
unfolding clap_on_literals commands
plus_sign = refl

no_digits : two (codes "at") [] ≡ Err Usage
unfolding clap_on_literals commands
no_digits = refl

-- ---- options

options_in_one_word : three (codes "lscp") (codes "-rs") (codes "-n5") ≡ listing true true None (Some 5)
unfolding clap_on_literals commands
options_in_one_word = refl

value_in_the_next_word : four (codes "lscp") (codes "-i") (codes "9") (codes "-r")
    ≡ listing true false (Some 9) None
unfolding clap_on_literals commands
value_in_the_next_word = refl

value_behind_equals : two (codes "lscp") (codes "-n=5") ≡ listing false false None (Some 5)
unfolding clap_on_literals commands
value_behind_equals = refl

option_twice : three (codes "lscp") (codes "-r") (codes "-r") ≡ Err Usage
unfolding clap_on_literals commands
option_twice = refl

value_twice : three (codes "lscp") (codes "-n5") (codes "-n6") ≡ Err Usage
unfolding clap_on_literals commands
value_twice = refl

value_missing : two (codes "lscp") (codes "-n") ≡ Err Usage
unfolding clap_on_literals commands
value_missing = refl

value_with_a_hyphen : three (codes "lscp") (codes "-n") (codes "-5") ≡ Err Usage
unfolding clap_on_literals commands
value_with_a_hyphen = refl

attached_value_with_a_hyphen : two (codes "lscp") (codes "-n-5") ≡ Err Usage
unfolding clap_on_literals commands
attached_value_with_a_hyphen = refl

unknown_option : two (codes "lscp") (codes "-x") ≡ Err Usage
unfolding clap_on_literals commands
unknown_option = refl

short_help : two (codes "mkcp") (codes "-h") ≡ Err Usage
unfolding clap_on_literals commands
short_help = refl

long_help : two (codes "mkcp") (codes "--help") ≡ Err Usage
unfolding clap_on_literals commands
long_help = refl

version : two (codes "mkcp") (codes "--version") ≡ Err Usage
unfolding clap_on_literals commands
version = refl

lone_hyphen : two (codes "create") (codes "-") ≡ Err Usage
unfolding clap_on_literals commands
lone_hyphen = refl

hyphen_behind_the_options : three (codes "create") (codes "--") (codes "-") ≡ Ok (Change (Create (codes "-")))
unfolding clap_on_literals commands
hyphen_behind_the_options = refl

second_end_of_options : three (codes "create") (codes "--") (codes "--") ≡ Ok (Change (Create (codes "--")))
unfolding clap_on_literals commands
second_end_of_options = refl

option_behind_an_operand : four (codes "cat") (codes "/f") (codes "-m") (codes "2")
    ≡ Ok (Show Content (Some 2) (codes "/f"))
unfolding clap_on_literals commands
option_behind_an_operand = refl

plain_listing_of_segments : command_meant (codes "lssu" ∷ []) ≡ Ok (Lssu false false)
unfolding clap_on_literals commands
plain_listing_of_segments = refl

long_listing_of_segments : two (codes "lssu") (codes "-l") ≡ Ok (Lssu false true)
unfolding clap_on_literals commands
long_listing_of_segments = refl

listing_of_all_segments : two (codes "lssu") (codes "-a") ≡ Ok (Lssu true false)
unfolding clap_on_literals commands
listing_of_all_segments = refl

letters_together : two (codes "lssu") (codes "-al") ≡ Ok (Lssu true true)
unfolding clap_on_literals commands
letters_together = refl

letters_in_two_words : three (codes "lssu") (codes "-l") (codes "-a") ≡ Ok (Lssu true true)
unfolding clap_on_literals commands
letters_in_two_words = refl

letter_twice : two (codes "lssu") (codes "-ll") ≡ Err Usage
unfolding clap_on_literals commands
letter_twice = refl

letter_in_two_words : three (codes "lssu") (codes "-l") (codes "-l") ≡ Err Usage
unfolding clap_on_literals commands
letter_in_two_words = refl

no_operand_of_a_listing : three (codes "lssu") (codes "-l") (codes "x") ≡ Err Usage
unfolding clap_on_literals commands
no_operand_of_a_listing = refl

-- ---- operands

empty_path : two (codes "create") [] ≡ Ok (Change (Create []))
unfolding clap_on_literals commands
empty_path = refl

path_missing : command_meant (codes "create" ∷ []) ≡ Err Usage
unfolding clap_on_literals commands
path_missing = refl

word_too_many : three (codes "create") (codes "/f") (codes "/g") ≡ Err Usage
unfolding clap_on_literals commands
word_too_many = refl

text_with_a_hyphen : four (codes "write") (codes "/f") (codes "0") (codes "-x") ≡ Err Usage
unfolding clap_on_literals commands
text_with_a_hyphen = refl

text_behind_the_options : five (codes "write") (codes "--") (codes "/f") (codes "0") (codes "-x")
    ≡ Ok (Change (Write (codes "/f") 0 (codes "-x")))
unfolding clap_on_literals commands
text_behind_the_options = refl

options_ended_amid_operands : five (codes "write") (codes "/f") (codes "--") (codes "0") (codes "-x")
    ≡ Ok (Change (Write (codes "/f") 0 (codes "-x")))
unfolding clap_on_literals commands
options_ended_amid_operands = refl

text_missing : three (codes "write") (codes "/f") (codes "0") ≡ Err Usage
unfolding clap_on_literals commands
text_missing = refl

two_texts : five (codes "write") (codes "/f") (codes "0") (codes "x") (codes "y") ≡ Err Usage
unfolding clap_on_literals commands
two_texts = refl

no_operands : command_meant (codes "write" ∷ []) ≡ Err Usage
unfolding clap_on_literals commands
no_operands = refl

moves_nowhere : two (codes "mv") (codes "/f") ≡ Err Usage
unfolding clap_on_literals commands
moves_nowhere = refl

moves_to_two_places : four (codes "mv") (codes "/f") (codes "/g") (codes "/h") ≡ Err Usage
unfolding clap_on_literals commands
moves_to_two_places = refl

size_missing : two (codes "truncate") (codes "/f") ≡ Err Usage
unfolding clap_on_literals commands
size_missing = refl

cuts : three (codes "truncate") (codes "/f") (codes "5") ≡ Ok (Change (Truncate (codes "/f") 5))
unfolding clap_on_literals commands
cuts = refl

count_missing : four (codes "fill") (codes "/f") (codes "3") (codes "255") ≡ Err Usage
unfolding clap_on_literals commands
count_missing = refl

moves : three (codes "mv") (codes "/f") (codes "/g") ≡ Ok (Change (Rename (codes "/f") (codes "/g")))
unfolding clap_on_literals commands
moves = refl

fills_at_most : five (codes "fill") (codes "/f") (codes "3") (codes "255") (codes "67108866")
    ≡ Ok (Fill (codes "/f") 3 255 67108865)
unfolding clap_on_literals commands
fills_at_most = refl

no_byte : five (codes "fill") (codes "/f") (codes "0") (codes "256") (codes "1") ≡ Err Usage
unfolding clap_on_literals commands
no_byte = refl

modes_of_two : four (codes "chcp") (codes "ss") (codes "3") (codes "2") ≡ Ok (Chcp Snapshot (3 ∷ 2 ∷ []))
unfolding clap_on_literals commands
modes_of_two = refl

mode_of_none : two (codes "chcp") (codes "ss") ≡ Err Usage
unfolding clap_on_literals commands
mode_of_none = refl

no_mode : three (codes "chcp") (codes "sp") (codes "3") ≡ Err Usage
unfolding clap_on_literals commands
no_mode = refl

round_alone : command_meant (codes "clean" ∷ []) ≡ Ok Clean
unfolding clap_on_literals commands
round_alone = refl

round_with_a_word : two (codes "clean") (codes "1") ≡ Err Usage
unfolding clap_on_literals commands
round_with_a_word = refl

round_with_an_option : two (codes "clean") (codes "-a") ≡ Err Usage
unfolding clap_on_literals commands
round_with_an_option = refl

-- ---- ranges

all_ranges : five (codes "rmcp") (codes "4") (codes "1..3") (codes "..2") (codes "5..")
    ≡ Ok (Rmcp false (One 4 ∷ Between 1 3 ∷ Between 1 2 ∷ Since 5 ∷ []))
unfolding clap_on_literals commands
all_ranges = refl

ranges_that_are_judged : four (codes "rmcp") (codes "0..3") (codes "..0") (codes "-f")
    ≡ Ok (Rmcp true (Between 0 3 ∷ Between 1 0 ∷ []))
unfolding clap_on_literals commands
ranges_that_are_judged = refl

dots_alone : two (codes "rmcp") (codes "..") ≡ Err Usage
unfolding clap_on_literals commands
dots_alone = refl

three_dots : two (codes "rmcp") (codes "1...2") ≡ Err Usage
unfolding clap_on_literals commands
three_dots = refl

one_bad_word : three (codes "rmcp") (codes "1") (codes "x") ≡ Err Usage
unfolding clap_on_literals commands
one_bad_word = refl

-- ---- names

case_counts : two (codes "At") (codes "5") ≡ Err Usage
unfolding commands
case_counts = refl

help_is_no_command : command_meant (codes "help" ∷ []) ≡ Err Usage
unfolding commands
help_is_no_command = refl

empty_name : command_meant ([] ∷ []) ≡ Err Usage
unfolding commands
empty_name = refl
