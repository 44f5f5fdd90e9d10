-- What the lines of a script do, one after another.
use Rattle.std.specs.Prelude.{◌≡◌, ◌⊎◌, ◌+◌, ℕ, Bool, true, false, List, [], ◌∷◌, ◌++◌, if◌then◌else◌, map, Option, None, Some, is_some, Result, Ok, Err, OnOk}
use Rattle.std.specs.Io.KnownBytes.{Appends}
use Rattle.std.specs.List.{list_all, list_any}
use Rattle.nl_types.specs.Plain.Runs.{Run}
use Rattle.nl_types.specs.Plain.Worlds.{Reply}
use Rattle.nl_types.specs.declared.error.VolError.{VolError}
use Rattle.nl_types.specs.declared.error.VolError.TheVariants as error
use Rattle.nl_types.specs.declared.event.Event.{Event}
use Rattle.nl_types.specs.declared.segment.SegmentInfo.{SegmentInfo}
use Rattle.nl_commands.specs.LineMeanings.{LineRead, MeansLine}
use Rattle.nl_commands.specs.declared.command.CheckpointRange.{CheckpointRange}
use Rattle.nl_commands.specs.declared.command.CheckpointRange.TheVariants.{Since}
use Rattle.nl_commands.specs.declared.command.Command.{Command}
use Rattle.nl_commands.specs.declared.command.Command.TheVariants.{At, Catm, Clean, Lssu, Rmcp}
use Rattle.nl_commands.specs.declared.error.LineError.TheVariants.{Usage, Memory}
use Rattle.nl_cpfile.specs.Tables.{cpstat_of}
use Rattle.nl_vstore.specs.Located.{needed_count}
use Rattle.nl_commit.specs.CleaningEvents.{needed_by}
use Rattle.nl_commit.specs.Layout.{Layout}
use Rattle.nl_script.specs.RefusalTexts.{refusal_text, usage_text}
use Rattle.nl_script.specs.SegmentLines.{seg_header, seg_texts}
use Rattle.nl_script.specs.Texts.{Text}
use Rattle.nl_script.specs.declared.texts.segments.SegmentRow.{SegmentRow}
use Rattle.nl_script.specs.Events.{events_of, reading}
use Rattle.nl_script.specs.FileReads.{is_bad_mount}
use Rattle.nl_protect.specs.declared.config.Config.{Config}
use Rattle.nl_script.specs.Habits.{Habits}
use Rattle.nl_script.specs.ExitStatus.{status_if_refused, status_of}
use Rattle.nl_script.specs.OutcomeTexts.{text_of}
use Rattle.nl_script.specs.Outcomes.{is_quiet}
use Rattle.nl_script.specs.Rounds.{IsRoundOver, round_text}
use Rattle.nl_script.specs.declared.rounds.RoundSum.{RoundSum}
use Rattle.nl_script.specs.declared.status.Status.{Status}
use Rattle.nl_script.specs.declared.status.Status.TheVariants.{Fine, Refused, Misread}

-- what a line comes to, with the moment that stands behind it
pub record LineEnd : Type 0 where
  pub moment : ℕ
  pub status : Status
  pub text : Text

abbrev pub line_end : (moment : ℕ) → Status → Text → LineEnd
line_end moment status text = record { moment = moment; status = status; text = text }

-- the line is refused as a whole
abbrev pub refused : (number moment : ℕ) → VolError → LineEnd
refused number moment error = line_end moment Refused (refusal_text number None error)

-- a range that is open to the right
abbrev pub is_since : CheckpointRange → Bool
is_since (Since first) = true
is_since _ = false

-- the command's events depend on which checkpoint is the latest
abbrev pub is_open : Command → Bool
is_open (Rmcp quiet ranges) = list_any is_since ranges
is_open _ = false

-- the latest checkpoint, where the command's events depend on it
abbrev pub IsLatestFor : Layout → Command → ℕ → Type 0
IsLatestFor l command latest = is_open command ≡ true → latest ≡ (cpstat_of l.lists.table).latest

-- these are the events of a command on a volume that shows this, and they came to these replies
pub record AreEventsDone {S : Type 0} (does : S → Event → Reply → S → Type 0) (shown : Layout)
    (moment : ℕ) (command : Command) (events : List Event) (replies : List Reply) (old new : S) : Type 0 where
  pub latest : ℕ
  pub latest_is : IsLatestFor shown command latest
  pub events_are : events ≡ events_of moment latest command
  pub run : Run does old events replies new

-- the events of a command are done, and all of their outcomes told
pub record AreOutcomesTold {S : Type 0} (does : S → Event → Reply → S → Type 0) (shown : Layout)
    (number moment : ℕ) (command : Command) (old new : S) (end : LineEnd) : Type 0 where
  pub events : List Event
  pub replies : List Reply
  pub done : AreEventsDone does shown moment command events replies old new
  pub end_is : end
      ≡ line_end moment (status_of (is_quiet command) events replies)
      (text_of number (is_quiet command) events replies)

-- ---- segments

-- how many needed blocks a segment has is told where the listing is long
abbrev pub needed_of : (long : Bool) → Layout → (segment : ℕ) → Option ℕ
needed_of true l segment = Some (needed_count l.store (needed_by l.lists) segment)
needed_of false l segment = None

-- what is told of a segment
abbrev pub row_of : (long : Bool) → Layout → (segment : ℕ) → SegmentInfo → SegmentRow
row_of long l segment info = record { info = info; needed = needed_of long l segment }

-- what is told of these segments, which are those from a number on
abbrev pub rows_from : (long : Bool) → Layout → (segment : ℕ) → List SegmentInfo → List SegmentRow
rows_from long l segment [] = []
rows_from long l segment (info ∷ infos) =
    row_of long l segment info ∷ rows_from long l (segment + 1) infos

abbrev pub segment_rows : (long : Bool) → Layout → List SegmentRow
segment_rows long l = rows_from long l 0 l.store.segments.each

-- all segments are listed
abbrev pub listed : (moment : ℕ) → (all long : Bool) → Layout → LineEnd
listed moment all long l = line_end moment Fine (seg_header long ++ seg_texts all (segment_rows long l))

-- a round is planned and done, and all that it came to is told
pub record IsRoundDone {S J : Type 0} (habits : Habits S J) (config : Config) (number moment : ℕ)
    (old new : S)
    (end : LineEnd) : Type 0 where
  pub job : J
  pub planned : habits.rounds.plans (habits.view old) config moment job
  pub sum : RoundSum
  pub over : IsRoundOver habits.steps job old new sum
  pub end_is : end ≡ line_end moment (status_if_refused (is_some sum.refusal)) (round_text number sum)

-- what comes of files that are read: that the mount isn't found is told once, and else each file is told of
-- in its place
abbrev pub files_end : (number moment : ℕ) → List Event → List Reply → LineEnd
files_end number moment events replies =
    if list_all is_bad_mount replies then refused number moment error.BadMount
    else line_end moment (status_of false events replies) (text_of number false events replies)

-- files of a mount are read one after another, and told of
pub record AreFilesTold {S : Type 0} (does : S → Event → Reply → S → Type 0) (number moment mount : ℕ)
    (paths : List (List ℕ)) (old new : S) (end : LineEnd) : Type 0 where
  pub replies : List Reply
  pub run : Run does old (map (reading mount) paths) replies new
  pub end_is : end ≡ files_end number moment (map (reading mount) paths) replies

-- a command is done
abbrev pub IsCommandDone : {S J : Type 0} → Habits S J → Config → (number moment : ℕ) → Command → S → S
    → LineEnd
    → Type 0
IsCommandDone habits config number moment (At later) old new end =
    (new ≡ old) × (end ≡ line_end later Fine [])
IsCommandDone habits config number moment (Lssu all long) old new end =
    (new ≡ old) × (end ≡ listed moment all long (habits.view old))
IsCommandDone habits config number moment (Catm mount paths) old new end =
    AreFilesTold habits.does number moment mount paths old new end
IsCommandDone habits config number moment Clean old new end =
    IsRoundDone habits config number moment old new end
IsCommandDone habits config number moment command old new end =
    AreOutcomesTold habits.does (habits.view old) number moment command old new end

-- memory was refused before anything was asked of the volume
abbrev pub LacksMemory : {S : Type 0} → (number moment : ℕ) → S → S → LineEnd → Type 0
LacksMemory number moment old new end = (new ≡ old) × (end ≡ refused number moment error.Memory)

-- what was read is done
abbrev pub IsReadDone : {S J : Type 0} → Habits S J → Config → (number moment : ℕ) → LineRead → S → S
    → LineEnd
    → Type 0
IsReadDone habits config number moment (Err Usage) old new end =
    (new ≡ old) × (end ≡ line_end moment Misread (usage_text number))
IsReadDone habits config number moment (Err Memory) old new end = LacksMemory number moment old new end
IsReadDone habits config number moment (Ok None) old new end = (new ≡ old) × (end ≡ line_end moment Fine [])
IsReadDone habits config number moment (Ok (Some command)) old new end =
    IsCommandDone habits config number moment command old new end ⊎ LacksMemory number moment old new end

-- a line is done: it is read as what it means, or memory was refused
pub record IsLineDone {S J : Type 0} (habits : Habits S J) (config : Config) (number moment : ℕ)
    (line : List ℕ)
    (old new : S) (end : LineEnd) : Type 0 where
  pub read : LineRead
  pub means : MeansLine line read
  pub does : IsReadDone habits config number moment read old new end

-- a line is done, or there is no memory for it, and its refusal stands in its place
abbrev pub IsLineAnswered : {S J : Type 0} → Habits S J → Config → (number moment : ℕ) → (line : List ℕ) → S
    → S
    → LineEnd → Type 0
IsLineAnswered habits config number moment line old new end =
    IsLineDone habits config number moment line old new end ⊎ LacksMemory number moment old new end

-- It is done so, with this status and the moment that stands behind it. Unless the writer failed, it got the
-- text.
pub record ComesTo {X E : Type 0} (Does : LineEnd → Type 0) (moment : ℕ) (result : Status × Result X E)
    (before after : Option Text) : Type 0 where
  pub text : Text
  pub does : Does (line_end moment result.0 text)
  pub written : OnOk result.1 (Appends before after text)
