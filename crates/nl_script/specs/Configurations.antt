-- The configuration of a session.
use Rattle.std.specs.Prelude.{◌≡◌, ◌≢◌, ◌⊎◌, List, ℕ, Option, None, Some, Result, Ok, Err, IfSome}
use Rattle.nl_types.specs.declared.error.VolError.{VolError}
use Rattle.nl_types.specs.declared.error.VolError.TheVariants.{Memory}
use Rattle.nl_protect.specs.Configuration.{configuration_in, standard}
use Rattle.nl_protect.specs.declared.config.Config.{Config}
use Rattle.nl_saving.specs.Files.{IsUnread}
use Rattle.nl_saving.specs.declared.files.FileFault.{FileFault}
use Rattle.nl_saving.specs.declared.files.FileFault.TheVariants.{Refused}

abbrev pub ConfigurationRead : Type 0
ConfigurationRead = Result Config FileFault

abbrev pub configured : Result Config VolError → ConfigurationRead
configured (Ok config) = Ok config
configured (Err error) = Err (Refused error)

-- there is a text, which is that of the input where this is known, and it means this, unless memory is
-- refused
abbrev pub IsTextRead : Option (List ℕ) → ConfigurationRead → Type 0
IsTextRead input read =
    (text : List ℕ) × IfSome input (λ bytes. text ≡ bytes)
    × ((read ≢ Err (Refused Memory)) → read ≡ configured (configuration_in text))

-- what an input holds as a configuration, unless it can't be read
abbrev pub IsReadFrom : Option (List ℕ) → ConfigurationRead → Type 0
IsReadFrom input read = IsTextRead input read ⊎ ((fault : FileFault) × IsUnread fault × (read ≡ Err fault))

-- the configuration of a session: of a file, whose bytes are known to no contract, or the standard one
abbrev pub IsConfigured : (path : Option (List ℕ)) → ConfigurationRead → Type 0
IsConfigured None read = read ≡ Ok standard
IsConfigured (Some path) read = IsReadFrom None read
