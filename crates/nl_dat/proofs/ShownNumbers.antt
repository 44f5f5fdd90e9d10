-- The numbers of a store as entries are those of its table.
use Rattle.std.proofs.Common.{◌≡◌, ℕ, ◌+◌, ◌-◌, List, length, drop, map, Option, None, ap, sym, ◌∙◌, length-drop}
use Rattle.std.specs.Option.{option_map}
use Rattle.std.proofs.Math.ListN.{get_or-map}
use Rattle.std.proofs.lemmas.List.{ext_get_or, get_or-drop, length-map}
use Rattle.nl_device.specs.Failures.{Failures}
use Rattle.nl_vstore.specs.Content.{SpaceContent}
use Rattle.nl_dat.specs.declared.entries.DatEntry.{DatEntry}
use Rattle.nl_vstore.specs.Stores.{Numbered}
use Rattle.nl_dat.specs.Inside.{births_in, numbered_of, store_of}
use Rattle.nl_dat.specs.Table.{HaveOwnPayload, addresses_of, dat_entry_of, entries_shown, entry_in, numbers_shown}
use Rattle.nl_dat.proofs.StoreOf.{entry-store_of}

pub numbers-store_of : (table : List (Option DatEntry)) (space : SpaceContent) (failures : Failures)
    → HaveOwnPayload (addresses_of (entry_in table)) (births_in space)
    → drop 1 table ≡ numbers_shown (store_of table space failures)
numbers-store_of table space failures sound =
    let numbers : List (Option Numbered) = map (numbered_of (births_in space)) table in
    let shown : List (Option DatEntry) = map (option_map dat_entry_of) (drop 1 numbers) in
    let as_long : length (drop 1 table) ≡ length shown =
    length-drop 1 table
    ∙ (ap (λ (n : ℕ). n - 1) (sym (length-map table (numbered_of (births_in space))))
    ∙ (sym (length-drop 1 numbers) ∙ sym (length-map (drop 1 numbers) (option_map dat_entry_of)))) in
    ext_get_or None (drop 1 table) shown as_long (λ i within.
    get_or-drop 1 table i None
    ∙ (entry-store_of table space failures sound (1 + i)
    ∙ (ap (option_map dat_entry_of) (sym (get_or-drop 1 numbers i None))
    ∙ sym (get_or-map (option_map dat_entry_of) (drop 1 numbers) i None))))

-- those of all numbers, 0 too
pub entries-store_of : (table : List (Option DatEntry)) (space : SpaceContent) (failures : Failures)
    → HaveOwnPayload (addresses_of (entry_in table)) (births_in space)
    → entries_shown (store_of table space failures) ≡ table
entries-store_of table space failures sound =
    let numbers : List (Option Numbered) = map (numbered_of (births_in space)) table in
    let shown : List (Option DatEntry) = map (option_map dat_entry_of) numbers in
    let as_long : length table ≡ length shown =
    sym (length-map table (numbered_of (births_in space)))
    ∙ sym (length-map numbers (option_map dat_entry_of)) in
    sym (ext_get_or None table shown as_long
    (λ i within.
    entry-store_of table space failures sound i
    ∙ sym (get_or-map (option_map dat_entry_of) numbers i None)))
