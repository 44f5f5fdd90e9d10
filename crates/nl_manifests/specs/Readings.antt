-- The manifest that stands in a file.
use Rattle.std.specs.Prelude.{◌≡◌, ◌↔◌, ℕ, Bool, ◌&&◌, if◌then◌else◌, List, Option, Some, None}
use Rattle.std.specs.Str.{bytes_eq}
use Rattle.nl_manifests.specs.declared.manifest.Manifest.{Manifest}
use Rattle.nl_manifests.specs.Manifests.{IsManifest, is_manifest, printed}
use Rattle.nl_manifests.specs.Private.Reading.{◌>>=◌, all_at}

-- whether it is a manifest that is printed as these bytes
unfoldable pub is_spelled : Manifest → List ℕ → Bool
is_spelled m bytes = is_manifest m && bytes_eq (printed m) bytes

-- the manifest that is, as the law below says
unfoldable pub manifest_in : List ℕ → Option Manifest
manifest_in bytes = all_at bytes >>= λ m. if is_spelled m bytes then Some m else None

-- a file has a manifest exactly where its bytes are those that this manifest is printed as
abbrev pub ManifestsArePrinted : Type 0
ManifestsArePrinted =
    (bytes : List ℕ) (m : Manifest) → (manifest_in bytes ≡ Some m) ↔ (IsManifest m × (printed m ≡ bytes))
