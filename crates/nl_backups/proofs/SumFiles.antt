-- What an image is beside a file is what it is beside the file's text.
use Rattle.std.proofs.Common.{◌≡◌, List, [], ℕ, Result, Ok, Err, IfOk, subst, sym}
use Rattle.std.specs.Prelude.{◌↔◌}
use Rattle.nl_damage.specs.SumComparing.{NoneDifferFrom}
use Rattle.nl_backups.specs.declared.summed.Beside.{Beside}
use Rattle.nl_backups.specs.declared.summed.SumFile.{SumFile}
use Rattle.nl_backups.specs.declared.summed.SumFile.TheVariants as file
use Rattle.nl_backups.specs.Checking.{NoneDifferFromFile, differing_beside}
use Rattle.nl_backups.specs.Hosts.{Image}

pub exact_file : {E : Type 0} (r : Result Beside E) (image : Image) (it : SumFile) (text read : List ℕ)
    → it ≡ file.Text text → read ≡ text
    → IfOk r (λ told. (differing_beside told ≡ []) ↔ NoneDifferFrom image read)
    → IfOk r (λ told. (differing_beside told ≡ []) ↔ NoneDifferFromFile image it)
exact_file (Ok told) image it text read is same exact =
    subst (λ (f : SumFile). (differing_beside told ≡ []) ↔ NoneDifferFromFile image f) (sym is)
    (subst (λ (t : List ℕ). (differing_beside told ≡ []) ↔ NoneDifferFrom image t) same exact)
exact_file (Err e) image it text read is same exact = tt
