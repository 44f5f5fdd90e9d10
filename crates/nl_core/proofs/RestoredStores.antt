-- The store over a space that has the logs of an image.
use Rattle.std.proofs.Common.{◌≡◌, ◌∙◌, ℕ, List, length, Option, None, Some, ap, sym, refl, subst, arith, inl, inr}
use Rattle.std.specs.Option.{option_map}
use Rattle.std.proofs.lemmas.Bool.{cases_lt}
use Rattle.std.proofs.lemmas.List.{get_or_past}
use Rattle.nl_types.specs.Blocks.Entries.{number_of}
use Rattle.nl_types.specs.Blocks.Segments.{Segments, total_blocks}
use Rattle.nl_device.specs.Failures.{Failures}
use Rattle.nl_vstore.specs.Content.{HeldPayload, Payload, SpaceContent}
use Rattle.nl_vstore.specs.Batches.{birth_of_item, number_of_payload}
use Rattle.nl_vstore.specs.Stores.{Store, device_in, payload_in}
use Rattle.nl_segwriter.specs.declared.images.Restored.{Restored}
use Rattle.nl_segwriter.specs.Images.{IsSpaceOf, page_in}
use Rattle.nl_segwriter.specs.Writing.{held_in}
use Rattle.nl_dat.specs.declared.entries.DatEntry.{DatEntry}
use Rattle.nl_dat.specs.Inside.{births_in, store_of}
use Rattle.nl_dat.specs.Table.{HaveOwnPayload, addresses_of, entries_shown, entry_in}
use Rattle.nl_dat.specs.Facts.ShownSpace.{none-payload, shown}
use Rattle.nl_image.specs.Reading.{HaveOwn}
use Rattle.nl_core.specs.Opened.{IsRestoredStore}

module _ (segments : Segments) (logs : Restored) (numbers : List (Option DatEntry)) (space : SpaceContent)
    (is : IsSpaceOf segments logs space) where
  -- whose the payload at a block is
  owner : (b : ℕ)
      → option_map number_of (births_in space b) ≡ option_map number_of_payload (held_in logs.payload b)
  owner b = by (space.held b) ∙ ap (λ (h : HeldPayload). option_map number_of_payload (h b)) is.held
    where
      by : (o : Option Payload)
          → option_map number_of (option_map birth_of_item o) ≡ option_map number_of_payload o
      by None = refl
      by (Some item) = refl

  pub own-held : HaveOwn numbers logs.payload
      → HaveOwnPayload (addresses_of (entry_in numbers)) (births_in space)
  own-held own v b at = by (entry_in numbers v) refl at
    where
      by : (o : Option DatEntry) → entry_in numbers v ≡ o → option_map (λ (e : DatEntry). e.block) o ≡ Some b
          → option_map number_of (births_in space b) ≡ Some v
      by None there told = cc
      by (Some e) there told =
          owner b
          ∙ subst (λ (c : ℕ). option_map number_of_payload (held_in logs.payload c) ≡ Some v) (inside told)
          (own v e there)
        where
          inside : Some e.block ≡ Some b → e.block ≡ b
          inside same = cc

  module _ (pages : length logs.pages ≡ total_blocks segments)
      (payload : length logs.payload ≡ total_blocks segments)
      (failures : Failures) where
    total : total_blocks space.segments ≡ total_blocks segments
    total = ap total_blocks is.segments

    abbrev made : Store
    made = store_of numbers space failures

    held-made : (b : ℕ) → payload_in made b ≡ held_in logs.payload b
    held-made b = elim (cases_lt b (total_blocks space.segments)) [
      | inl low ↦ (shown numbers space failures b low).0 ∙ ap (λ (h : HeldPayload). h b) is.held
      | inr high ↦ none-payload numbers space failures b high
          ∙ sym (get_or_past logs.payload b None (omega (arith, payload, total, high)))
    ]

    stored-made : (b : ℕ) (page : List ℕ) → page_in logs.pages b ≡ Some page → device_in made b ≡ Some page
    stored-made b page at = elim (cases_lt b (total_blocks space.segments)) [
      | inl low ↦ (shown numbers space failures b low).1 ∙ is.stored b page at
      | inr high ↦ (let none = get_or_past logs.pages b None (omega (arith, pages, total, high)) in
          let lie : None ≡ Some page = sym none ∙ at in cc)
    ]

    restored-made : entries_shown made ≡ numbers → IsRestoredStore segments logs numbers made
    restored-made told =
        record { segments_are = is.segments; shown = told; held = held-made; stored = stored-made }

    pub restored-store : (store : Store) → store ≡ made → entries_shown store ≡ numbers
        → IsRestoredStore segments logs numbers store
    restored-store store same told =
        subst (IsRestoredStore segments logs numbers) (sym same)
        (restored-made (ap entries_shown (sym same) ∙ told))
