use Rattle.std.proofs.Common.{◌≡◌, ◌∙◌, IfOk, Result, Ok, Err, Option, Some, List, ℕ}
use Rattle.std.specs.Prelude.{IfSome}
use Rattle.nl_manifests.specs.declared.manifest.Manifest.{Manifest}
use Rattle.nl_manifests.specs.Manifests.{IsManifest, printed}
use Rattle.nl_manifests.specs.Readings.{manifest_in}
use Rattle.nl_manifests.proofs.Read.{found_is, printed_read}
use Rattle.nl_manifests.proofs.reading.read_manifest.Goals as goal

found : {E : Type 0} (r : Result (Option Manifest) E) (bytes : List ℕ) → IfOk r (λ read. read ≡
    manifest_in bytes)
    → IfOk r (λ read. IfSome read (λ m. IsManifest m × (printed m ≡ bytes)))
found (Ok read) bytes is = found_is read bytes is
found (Err e) bytes is = tt

only : {E : Type 0} (r : Result (Option Manifest) E) (bytes : List ℕ) → IfOk r (λ read. read ≡ manifest_in
    bytes)
    → IfOk r (λ read. (m : Manifest) → IsManifest m → printed m ≡ bytes → read ≡ Some m)
only (Ok read) bytes is = λ m manifest spelled. is ∙ printed_read bytes m manifest spelled
only (Err e) bytes is = tt

pub returns-clause-found : goal.returns-clause-found
returns-clause-found c = found c.manifest_in.result c.args.bytes.now c.manifest_in.ensures

pub returns-clause-only : goal.returns-clause-only
returns-clause-only c = only c.manifest_in.result c.args.bytes.now c.manifest_in.ensures
