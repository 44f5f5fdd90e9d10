-- What a sound table says of each number in use.
use Rattle.std.proofs.Common.{◌≡◌, ℕ, Some, None, sym, refl, ap, ◌∙◌, is_some}
use Rattle.std.specs.Option.{option_map, option_and_then}
use Rattle.nl_types.specs.Blocks.PartialMaps.{Partial}
use Rattle.nl_types.specs.Blocks.Entries.{Birth, number_of}
use Rattle.nl_dat.specs.declared.entries.DatEntry.{DatEntry}
use Rattle.nl_dat.specs.Table.{block_of, addresses_of, meaning_of, meaning_at, content_of, HaveOwnPayload}

-- the page of a number in use is stored
pub stored_for : (entries : Partial DatEntry) (stored : Partial Birth) (v : ℕ) (s : DatEntry)
    → HaveOwnPayload (addresses_of entries) stored → entries v ≡ Some s
    → (p : Birth) × (stored s.block ≡ Some p) × (number_of p ≡ v)
stored_for entries stored v s sound is =
    let tagged : option_map number_of (stored s.block) ≡ Some v =
    sound v s.block (ap (option_map block_of) is) in
    elim (stored s.block) as (λ o.
    option_map number_of o ≡ Some v → (p : Birth) × (o ≡ Some p) × (number_of p ≡ v)) [
      | None ↦ λ h. cc
      | Some p ↦ λ h. (p, refl, cc)
    ] tagged

-- a number is in use exactly where it has a block
pub is_some-content_of : (entries : Partial DatEntry) (stored : Partial Birth) (v : ℕ)
    → HaveOwnPayload (addresses_of entries) stored
    → is_some (addresses_of entries v) ≡ is_some (content_of entries stored v)
is_some-content_of entries stored v sound =
    elim (entries v) as (λ o.
    entries v ≡ o → is_some (option_map block_of o) ≡ is_some (option_and_then (meaning_at stored) o)) [
      | None ↦ λ is. refl
      | Some s ↦
          λ is.
          let p = stored_for entries stored v s sound is in
          ap (λ o. is_some (option_map (meaning_of s) o)) (sym p.1)
    ] refl

pub HaveOwnPayload-apart : (addresses : Partial ℕ) (stored : Partial Birth) (v w b : ℕ)
    → HaveOwnPayload addresses stored → addresses v ≡ Some b → addresses w ≡ Some b → v ≡ w
HaveOwnPayload-apart addresses stored v w b sound is_v is_w =
    let same : Some v ≡ Some w = sym (sound v b is_v) ∙ sound w b is_w in cc
