-- One line more of a script: it is read, done and counted.
use Rattle.std.specs.Prelude.{◌≡◌, ◌⊎◌, ◌<◌, ◌||◌, if◌then◌else◌, ℕ, Bool, true, false, List, length, ⊤, Option, Some, IfSome}
use Rattle.std.specs.Io.BufRead.{first_piece, DropsThrough}
use Rattle.std.specs.Io.KnownBytes.{Appends, IsAtEnd}
use Rattle.nl_types.specs.Plain.Characters.{line_feed}
use Rattle.nl_script.specs.Texts.{Text}
use Rattle.nl_script.specs.declared.texts.streams.StandardStream.TheVariants as stream
use Rattle.nl_protect.specs.declared.config.Config.{Config}
use Rattle.nl_script.specs.Habits.{Habits}
use Rattle.nl_script.specs.Lines.{IsLineAnswered, LineEnd}
use Rattle.nl_script.specs.Scripts.{ends_misread, ends_refused}
use Rattle.nl_script.specs.declared.reading.Next.{Next}
use Rattle.nl_script.specs.declared.reading.Next.TheVariants.{Line, Unheld, End, Unread}
use Rattle.nl_script.specs.declared.texts.ends.Done.{Done}

-- the input, where it is known, begins with this line, and what is left is what lies behind its line feed
pub record IsNextLine (input left : Option Text) (line : List ℕ) : Type 0 where
  pub is_next : IfSome input (λ bytes. (0 < length bytes) × (line ≡ first_piece line_feed bytes))
  pub behind : DropsThrough input left line_feed

-- what was read of the input
abbrev pub IsNextIn : (input left : Option Text) → Next → Type 0
IsNextIn input left (Line line) = IsNextLine input left line
IsNextIn input left Unheld = (line : List ℕ) × IsNextLine input left line
IsNextIn input left End = IsAtEnd input
IsNextIn input left Unread = ⊤

-- what a line came to is counted; where the script goes on, it is told
pub record IsCounted (end : LineEnd) (before_done after_done : Done) (goes_on : Bool)
    (before after : Option Text) : Type 0 where
  pub moment_is : after_done.moment ≡ end.moment
  pub misread_is : after_done.misread ≡ (before_done.misread || ends_misread end)
  pub refused_is : after_done.refused ≡ (before_done.refused || ends_refused end)
  pub failed_is : after_done.failed ≡ (if goes_on then before_done.failed else Some stream.Output)
  pub written : goes_on ≡ true → Appends before after end.text

-- the next line is done and counted
pub record HasDoneLine {S J : Type 0} (habits : Habits S J) (config : Config) (number : ℕ) (old new : S)
    (before_done after_done : Done) (goes_on : Bool) (input left before after : Option Text) : Type 0 where
  pub line : List ℕ
  pub end : LineEnd
  pub next : IsNextLine input left line
  pub does : IsLineAnswered habits config number before_done.moment line old new end
  pub counted : IsCounted end before_done after_done goes_on before after

-- why there is no next line: the input is at its end, or can't be read
abbrev pub HasNoLine : (before_done after_done : Done) → (input : Option Text) → Type 0
HasNoLine before_done after_done input =
    (IsAtEnd input × (after_done ≡ before_done))
    ⊎ (after_done ≡ record before_done { failed = Some stream.Input })

-- there is no next line, and the script goes no further
pub record HasStopped {S : Type 0} (old new : S) (before_done after_done : Done) (goes_on : Bool)
    (input before after : Option Text) : Type 0 where
  pub why : HasNoLine before_done after_done input
  pub stops : goes_on ≡ false
  pub same : new ≡ old
  pub unwritten : after ≡ before
