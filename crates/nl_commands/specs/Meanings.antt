-- What the words behind the program's name mean.
use Rattle.std.specs.Prelude.{◌≡◌, ◌≢◌, List, [], ◌∷◌, Option, None, Some, Result, Ok, Err, ⊤}
use Rattle.clap.specs.Words.{Kinds, Row, Text, fault_of, matches_of}
use Rattle.clap.specs.declared.error.kind.ErrorKind.{ErrorKind}
use Rattle.clap.specs.declared.error.kind.ErrorKind.TheVariants.{DisplayHelp, DisplayVersion, OutOfMemory}
use Rattle.nl_commands.specs.declared.arguments.Arguments.{Arguments}
use Rattle.nl_commands.specs.declared.asked.Asked.{Asked}
use Rattle.nl_commands.specs.declared.asked.Asked.TheVariants as asked
use Rattle.nl_commands.specs.declared.asked.ArgumentsFault.{ArgumentsFault}
use Rattle.nl_commands.specs.declared.asked.ArgumentsFault.TheVariants as fault
use Rattle.nl_commands.specs.Options.{arguments_given, program}

pub data Meaning : Type 0 where
  run : Arguments → Meaning
  help : Meaning
  version : Meaning
  misread : Meaning

abbrev pub request_of : Asked → Meaning
request_of (asked.Run arguments) = run arguments
request_of (asked.Help text) = help
request_of (asked.Version text) = version

abbrev pub fault_meaning : ArgumentsFault → Option Meaning
fault_meaning (fault.Misread text) = Some misread
fault_meaning fault.Memory = None

-- what a result says of the words, whatever its text: nothing where memory was refused
abbrev pub meaning_of : Result Asked ArgumentsFault → Option Meaning
meaning_of (Ok a) = Some (request_of a)
meaning_of (Err f) = fault_meaning f

abbrev pub MeansUnlessMemory : Result Asked ArgumentsFault → Option Meaning → Type 0
MeansUnlessMemory result meaning = (meaning_of result ≢ None) → meaning_of result ≡ meaning

-- a part of the arguments is what is given, or that is none and the words are misread; nothing is
-- said where memory was refused
abbrev pub IsRead : {A : Type 0} → Result A ArgumentsFault → Option A → Type 0
IsRead (Ok a) part = part ≡ Some a
IsRead (Err (fault.Misread text)) part = part ≡ None
IsRead (Err fault.Memory) part = ⊤

-- a fault of the words, among which the library counts what asks for a text
abbrev pub kind_meant : ErrorKind → Meaning
kind_meant DisplayHelp = help
kind_meant DisplayVersion = version
kind_meant _ = misread

-- an error of the library
abbrev pub error_meaning : ErrorKind → Option Meaning
error_meaning OutOfMemory = None
error_meaning kind = Some (kind_meant kind)

abbrev pub given_meant : Option Arguments → Meaning
given_meant None = misread
given_meant (Some arguments) = run arguments

abbrev pub given : List Row → Meaning
given rows = given_meant (arguments_given rows)

-- the first word at fault, or the request for a text that stands before it, decides; else what is given
abbrev pub unless_fault : Kinds → Meaning → Meaning
unless_fault [] meaning = meaning
unless_fault (kind ∷ kinds) meaning = kind_meant kind

abbrev pub meant : List Text → Meaning
meant words = unless_fault (fault_of program words) (given (matches_of program words))

abbrev pub Asks : List Text → Result Asked ArgumentsFault → Type 0
Asks words result = MeansUnlessMemory result (Some (meant words))

-- a word that asks for a text, where it comes first: whatever stands behind it
abbrev pub AsksFor : Text → Meaning → Type 0
AsksFor word meaning = (words : List Text) → meant (word ∷ words) ≡ meaning
