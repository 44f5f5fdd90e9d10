-- What is read is what was printed, and nothing else is.
use Rattle.std.proofs.Common.{◌≡◌, ℕ, Bool, true, false, ◌&&◌, cond, List, Option, Some, None, refl, sym, ap, ◌∙◌, subst, true≢false}
use Rattle.std.specs.Prelude.{IfSome}
use Rattle.std.specs.Str.{bytes_eq}
use Rattle.std.proofs.lemmas.Bool.{and_parts, and_from}
use Rattle.std.proofs.lemmas.Slice.Eq.{bytes_eq-Decides}
use Rattle.nl_manifests.specs.declared.manifest.Manifest.{Manifest}
use Rattle.nl_manifests.specs.Manifests.{IsManifest, is_manifest, printed}
use Rattle.nl_manifests.specs.Private.Reading.{◌>>=◌, all_at}
use Rattle.nl_manifests.specs.Readings.{ManifestsArePrinted, is_spelled, manifest_in}
use Rattle.nl_manifests.proofs.Again.{all_again}

abbrev Met : Option Manifest → Option Manifest → Type 0
Met a b = a ≡ b

abbrev is_there : Option Manifest → Bool
is_there None = false
is_there (Some m) = true

abbrev or_this : Manifest → Option Manifest → Manifest
or_this m None = m
or_this m (Some k) = k

pub spelled_is : (m : Manifest) (bytes : List ℕ) → is_spelled m bytes ≡ true
    → IsManifest m × (printed m ≡ bytes)
unfolding is_spelled
spelled_is m bytes is =
    let parts = and_parts (is_manifest m) (bytes_eq (printed m) bytes) is in
    (parts.0, (bytes_eq-Decides (printed m) bytes).0 parts.1)

pub read_found : (bytes : List ℕ) (m : Manifest) → Met (manifest_in bytes) (Some m)
    → IsManifest m × (printed m ≡ bytes)
unfolding manifest_in
read_found bytes m = by (all_at bytes)
  where
    chosen : (k : Manifest) (t : Bool) → is_spelled k bytes ≡ t → Met (cond t (Some k) None) (Some m)
        → IsManifest m × (printed m ≡ bytes)
    chosen k true is found =
        subst (λ (x : Manifest). IsManifest x × (printed x ≡ bytes)) (ap (or_this k) found) (spelled_is k
        bytes is)
    chosen k false is found = absurd (true≢false (sym (ap is_there found)))

    by : (o : Option Manifest) → Met (o >>= λ k. cond (is_spelled k bytes) (Some k) None) (Some m)
        → IsManifest m × (printed m ≡ bytes)
    by None found = absurd (true≢false (sym (ap is_there found)))
    by (Some k) found = chosen k (is_spelled k bytes) refl found

pub read_again : (m : Manifest) → is_manifest m ≡ true → manifest_in (printed m) ≡ Some m
unfolding manifest_in is_spelled
read_again m is =
    let same : bytes_eq (printed m) (printed m) ≡ true = (bytes_eq-Decides (printed m) (printed m)).1 refl in
    let both : (is_manifest m && bytes_eq (printed m) (printed m)) ≡ true = and_from _ _ is same in
    rw (all_again m is, both) refl

pub printed_read : (bytes : List ℕ) (m : Manifest) → is_manifest m ≡ true → printed m ≡ bytes
    → manifest_in bytes ≡ Some m
printed_read bytes m is spelled = ap manifest_in (sym spelled) ∙ read_again m is

pub manifests_are_printed : ManifestsArePrinted
manifests_are_printed bytes m = (read_found bytes m, λ is. printed_read bytes m is.0 is.1)

-- ---- what is found is told

pub found_is : (read : Option Manifest) (bytes : List ℕ) → read ≡ manifest_in bytes
    → IfSome read (λ m. IsManifest m × (printed m ≡ bytes))
found_is None bytes is = tt
found_is (Some m) bytes is = read_found bytes m (sym is)
