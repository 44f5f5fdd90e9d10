-- What a session of the program does.
use Rattle.std.specs.Prelude.{◌≡◌, ◌⊎◌, ◌<◌, ◌≤◌, ◌++◌, Bool, List, [], length, string_bytes, Option, None, Result, Ok, Err}
use Rattle.std.specs.Io.KnownBytes.{Appends}
use Rattle.nl_commands.specs.Meanings.{Asks}
use Rattle.nl_commands.specs.Statuses.{fault_status}
use Rattle.nl_commands.specs.declared.arguments.Arguments.{Arguments}
use Rattle.nl_commands.specs.declared.asked.Asked.{Asked}
use Rattle.nl_commands.specs.declared.asked.Asked.TheVariants.{Run, Help, Version}
use Rattle.nl_commands.specs.declared.asked.ArgumentsFault.{ArgumentsFault}
use Rattle.nl_types.specs.declared.error.VolError.TheVariants.{Memory}
use Rattle.nl_script.specs.RefusalTexts.{start_text}
use Rattle.nl_script.specs.StreamTexts.{stream_text}
use Rattle.nl_script.specs.declared.texts.refusals.StartStep.TheVariants.{Start}
use Rattle.nl_script.specs.Texts.{Text}
use Rattle.nl_script.specs.declared.texts.streams.StandardStream.TheVariants.{Output}
use Rattle.nl_protect.specs.declared.config.Config.{Config}
use Rattle.nl_script.specs.Configurations.{ConfigurationRead, IsConfigured}
use Rattle.nl_script.specs.Scripts.{IsScriptDone}
use Rattle.nl_script.specs.declared.texts.ends.Done.{Done}
use Rattle.nl_commit.specs.Layout.{Layout, layout_of}
use Rattle.nl_commit.specs.Volume.{without_mounts}
use Rattle.nl_cleaner.specs.Rounds.{cleaning_habits}
use Rattle.nlvol.specs.Beginnings.{Beginning, IsBegunBy, IsPenOf, IsStartFault}
use Rattle.nlvol.specs.Endings.{Ends, TellsEnd}
use Rattle.nlvol.specs.SharedVolumes.{Sharing, shared_habits}
use Rattle.nlvol.specs.Telling.{Errors, IsNoticed, Tells, configuration_text, fault_text, notice, words_text}
use Rattle.nlvol.specs.declared.starting.StartFault.{StartFault}
use Rattle.nlvol.specs.declared.telling.SessionEnd.{SessionEnd}

-- all of the volume is published, and nothing was mounted
pub record IsUnused (s : Sharing) : Type 0 where
  pub published : s.held.published ≡ s.held.history
  pub lost : s.held.lost ≡ None
  pub mounts : s.mounts ≡ []

-- a volume as a session begins with it
pub record IsVolumeOf (beginning : Beginning) (s : Sharing) : Type 0 where
  pub pen : IsPenOf beginning s.held.layout
  pub unused : IsUnused s

-- what is read and printed
pub record Printing (O : Type 0) : Type 0 where
  -- the bytes of the input, where they are known
  pub input : Option Text
  -- what an output holds, where it is known
  pub contents : O → Option Text
  -- the output before and behind it
  pub output : O
  pub printed : O

abbrev pub printing_of : {O : Type 0} → Option Text → (O → Option Text) → (output printed : O) → Printing O
printing_of input contents output printed = record {
  input = input;
  contents = contents;
  output = output;
  printed = printed;
}

-- this text is printed, and nothing else
abbrev pub HasPrinted : {O : Type 0} → Text → Printing O → Type 0
HasPrinted text p = Appends (p.contents p.output) (p.contents p.printed) text

-- the streams of a session
pub record Streams (O E : Type 0) : Type 0 where
  -- a person types the input, and reads what is told of errors
  pub typed : Bool
  pub printing : Printing O
  pub errors : Errors E

abbrev pub streams : {O E : Type 0} → (typed : Bool) → Printing O → Errors E → Streams O E
streams typed printing errors = record { typed = typed; printing = printing; errors = errors }

-- a script is done on a volume, from moment 0 on, with rounds by this configuration, and nothing but its
-- texts is printed
abbrev pub IsScriptRun : {O : Type 0} → Config → Printing O → (old new : Sharing) → Done → Type 0
IsScriptRun config p old new done =
    IsScriptDone (shared_habits cleaning_habits) config 0 old new done p.input p.contents p.output p.printed

-- the volume's pen, without mounts
abbrev pub pen_left : Sharing → Layout
pen_left s = layout_of (without_mounts s.held.layout.lists) s.held.layout.store

-- so on a volume of this pen, and this one is left
pub record RunsOn {O : Type 0} (pen left : Layout) (config : Config) (p : Printing O)
    (done : Done) : Type 0 where
  pub old : Sharing
  pub unused : IsUnused old
  pub of_pen : old.held.layout ≡ pen
  pub new : Sharing
  pub runs : IsScriptRun config p old new done
  pub left_is : left ≡ pen_left new

-- The script is done on the volume that was asked for, which is saved in the end where that was asked for.
pub record IsRunOf {O E : Type 0} (arguments : Arguments) (config : Config)
    (s : Streams O E) (end : SessionEnd) : Type 0 where
  pub pen : Layout
  pub begun : IsBegunBy arguments pen
  pub left : Layout
  pub done : Done
  pub runs : RunsOn pen left config s.printing done
  -- the stream of errors before the first line
  pub noticed : E
  pub is_noticed : IsNoticed s.typed arguments.save s.errors.before noticed
  pub text : Text
  pub ends : Ends arguments.save left done text noticed s.errors.after end.status
  pub tells : Tells (notice s.typed arguments.save ++ text) s.errors end.told

-- no line is run: the output is as it was
abbrev pub RunsNoLine : {O E : Type 0} → Streams O E → Type 0
RunsNoLine s = s.printing.printed ≡ s.printing.output

-- and then the session ends so, and this is told
pub record IsRefused {O E : Type 0} (text : Text) (s : Streams O E) (end : SessionEnd) : Type 0 where
  pub no_line : RunsNoLine s
  pub status_is : end.status ≡ 1
  pub tells : Tells text s.errors end.told

-- why it is refused is told, maybe behind the notice when the volume is saved
pub record IsRefusedBefore {O E : Type 0} (arguments : Arguments) (s : Streams O E)
    (end : SessionEnd) : Type 0 where
  pub fault : StartFault
  pub is_fault : IsStartFault arguments fault
  pub earlier : Text
  pub is_earlier : (earlier ≡ []) ⊎ (earlier ≡ notice s.typed arguments.save)
  pub refused : IsRefused (earlier ++ fault_text arguments fault) s end

-- The script is done on this pen, and the session ends; or there is no memory to begin.
pub record IsDoneOn {O E : Type 0} (save : Option Text) (pen : Layout) (config : Config) (p : Printing O)
    (e : Errors E) (end : SessionEnd) : Type 0 where
  pub left : Layout
  pub done : Done
  pub runs : RunsOn pen left config p done
  pub ends : TellsEnd save left done e end

pub record IsNotBegun {O E : Type 0} (p : Printing O) (e : Errors E) (end : SessionEnd) : Type 0 where
  pub no_line : p.printed ≡ p.output
  pub status_is : end.status ≡ 1
  pub tells : Tells (start_text Start Memory) e end.told

abbrev pub RunsBegun : {O E : Type 0} → (save : Option Text) → Layout → Config → Printing O → Errors E
    → SessionEnd → Type 0
RunsBegun save pen config p e end = IsDoneOn save pen config p e end ⊎ IsNotBegun p e end

-- the script is done, or there is a fault before its first line
abbrev pub RunsWith : {O E : Type 0} → Arguments → Config → Streams O E → SessionEnd → Type 0
RunsWith arguments config s end = IsRunOf arguments config s end ⊎ IsRefusedBefore arguments s end

-- the same where there is a configuration
abbrev pub RunsIfRead : {O E : Type 0} → ConfigurationRead → Arguments → Streams O E → SessionEnd → Type 0
RunsIfRead (Ok config) arguments s end = RunsWith arguments config s end
RunsIfRead (Err fault) arguments s end = IsRefused (configuration_text arguments.configuration fault) s end

-- the configuration is read first
pub record RunsOrRefuses {O E : Type 0} (arguments : Arguments) (s : Streams O E)
    (end : SessionEnd) : Type 0 where
  pub read : ConfigurationRead
  pub is_read : IsConfigured arguments.configuration read
  pub runs : RunsIfRead read arguments s end

-- the text is printed, which isn't empty, and no word is said of errors
pub record IsTextPrinted {O E : Type 0} (text : Text) (s : Streams O E) : Type 0 where
  pub something : 0 < length text
  pub written : HasPrinted text s.printing
  pub silent : s.errors.after ≡ s.errors.before

-- a text that was asked for is printed, unless the output fails, which is told
pub record Prints {O E : Type 0} (text : Text) (s : Streams O E) (end : SessionEnd) : Type 0 where
  pub most : end.status ≤ 1
  pub fine : end.status ≡ 0 → IsTextPrinted text s
  pub failed : end.status ≡ 1 → 0 < length text → Tells (stream_text Output) s.errors end.told

-- what the words ask for is done, or their fault is told
abbrev pub Comes : {O E : Type 0} → Result Asked ArgumentsFault → Streams O E → SessionEnd → Type 0
Comes (Ok (Run arguments)) s end = RunsOrRefuses arguments s end
Comes (Ok (Help text)) s end = Prints (string_bytes text) s end
Comes (Ok (Version text)) s end = Prints (string_bytes text) s end
Comes (Err fault) s end =
    RunsNoLine s × (end.status ≡ fault_status fault) × Tells (words_text fault) s.errors end.told

-- the words are judged first
pub record IsSession {O E : Type 0} (words : List Text) (s : Streams O E) (end : SessionEnd) : Type 0 where
  pub asked : Result Asked ArgumentsFault
  pub asks : Asks words asked
  pub comes : Comes asked s end
