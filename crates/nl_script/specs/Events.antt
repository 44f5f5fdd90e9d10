-- What a command asks of a volume, one event after another.
use Rattle.std.specs.Prelude.{ℕ, ◌-◌, ◌^◌, min, List, [], ◌∷◌, map, replicate, Option, None, Some}
use Rattle.nl_types.specs.Plain.Limits.{file_limit}
use Rattle.nl_types.specs.declared.event.Ask.{Ask}
use Rattle.nl_types.specs.declared.event.Ask.TheVariants as ask
use Rattle.nl_types.specs.declared.event.Change.TheVariants.{Write}
use Rattle.nl_types.specs.declared.event.Event.{Event}
use Rattle.nl_types.specs.declared.event.Event.TheVariants as event
use Rattle.nl_types.specs.declared.event.Mode.{Mode}
use Rattle.nl_commands.specs.declared.command.CheckpointRange.{CheckpointRange}
use Rattle.nl_commands.specs.declared.command.CheckpointRange.TheVariants.{One, Between, Since}
use Rattle.nl_commands.specs.declared.command.Command.{Command}
use Rattle.nl_commands.specs.declared.command.Command.TheVariants as command
use Rattle.nl_commands.specs.declared.command.Shown.{Shown}
use Rattle.nl_commands.specs.declared.command.Shown.TheVariants.{Content, Names, Kind}

abbrev pub mode_change : Mode → ℕ → Event
mode_change mode number = event.ChangeMode number mode

-- a range that is open to the right ends at the latest checkpoint
abbrev pub removal_event : (latest : ℕ) → CheckpointRange → Event
removal_event latest (One number) = event.Remove number
removal_event latest (Between first last) = event.RemoveRange first last
removal_event latest (Since first) = event.RemoveRange first latest

-- what is asked of a path: of a file all the bytes that one may have
abbrev pub asked : Shown → List ℕ → Ask
asked Content path = ask.Bytes path 0 file_limit
asked Names path = ask.List path
asked Kind path = ask.Stat path

-- asked of the tree that a mount gives, or of the current one
abbrev pub asking : Option ℕ → Ask → Event
asking None ask = event.Read ask
asking (Some mount) ask = event.MountRead mount ask

-- a whole file of the tree that a mount gives
abbrev pub reading : ℕ → List ℕ → Event
reading mount path = event.MountRead mount (asked Content path)

abbrev pub events_of : (moment latest : ℕ) → Command → List Event
events_of moment latest (command.At later) = []
events_of moment latest (command.Mkcp mode) = event.Checkpoint mode moment ∷ []
events_of moment latest (command.Chcp mode numbers) = map (mode_change mode) numbers
events_of moment latest (command.Lscp options) = event.Listing options ∷ []
events_of moment latest (command.Rmcp quiet ranges) = map (removal_event latest) ranges
events_of moment latest (command.Lssu all long) = []
events_of moment latest command.Clean = []
events_of moment latest (command.Catm mount paths) = map (reading mount) paths
events_of moment latest (command.Mount number) = event.Mount number ∷ []
events_of moment latest (command.Umount mount) = event.Unmount mount ∷ []
events_of moment latest (command.Resize segments) = event.Resize (min segments (2 ^ 32 - 1)) ∷ []
events_of moment latest (command.Change change) = event.Apply change ∷ []
events_of moment latest (command.Fill path offset byte count) =
    event.Apply (Write path offset (replicate count byte)) ∷ []
events_of moment latest (command.Show what mount path) = asking mount (asked what path) ∷ []
