-- What a volume refuses, and what trees do, passed on.
use Rattle.nl_types.specs.declared.error.VolError.TheVariants.{Memory}
use Rattle.nl_keep.specs.declared.storing.KeepError.{KeepError}
use Rattle.nl_keep.specs.declared.storing.KeepError.TheVariants as keep
use Rattle.nl_shown.specs.declared.reverting.RevertError.{RevertError}
use Rattle.nl_shown.specs.declared.reverting.RevertError.TheVariants as revert
use Rattle.nl_backups.specs.declared.refusals.Refusal.{Refusal}
use Rattle.nl_backups.specs.declared.refusals.Refusal.TheVariants as refusal

abbrev pub passed_on : KeepError → Refusal
passed_on (keep.Refused error) = refusal.Volume error
passed_on keep.Disordered = refusal.Disordered

abbrev pub brought_back : RevertError → Refusal
brought_back revert.Memory = refusal.Volume Memory
brought_back revert.NothingThere = refusal.NothingThere
brought_back revert.NoFolder = refusal.NoFolder
