-- Files of the system.
use Rattle.std.specs.Prelude.{◌≡◌, ◌⊎◌}
use Rattle.nl_types.specs.declared.error.VolError.TheVariants.{Memory}
use Rattle.nl_saving.specs.declared.files.FileFault.{FileFault}
use Rattle.nl_saving.specs.declared.files.FileFault.TheVariants.{Unread, Refused}

-- a file isn't read, or there is no memory for what it holds
abbrev pub IsUnread : FileFault → Type 0
IsUnread fault = (fault ≡ Unread) ⊎ (fault ≡ Refused Memory)
