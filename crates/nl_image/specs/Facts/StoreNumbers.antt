-- The numbers of a store, as the table of its image tells them.
use Rattle.std.proofs.Common.{◌≡◌, ◌∙◌, ℕ, zero, suc, ◌+◌, ◌≤◌, length, drop, get_or, Option, None, Some, ap, arith, refl, sym, length-drop}
use Rattle.std.specs.Option.{option_and_then, option_map}
use Rattle.std.proofs.Math.ListN.{get_or-map}
use Rattle.std.proofs.lemmas.Grind.{get_or_after_one}
use Rattle.std.proofs.lemmas.List.{length-map}
use Rattle.nl_types.specs.Blocks.Entries.{Entry, period_of}
use Rattle.nl_types.specs.Blocks.Roots.{pages_of}
use Rattle.nl_types.specs.Blocks.Segments.{IsUsed, total_blocks}
use Rattle.nl_device.specs.Pages.{DevicePages}
use Rattle.nl_vstore.specs.Content.{HeldPayload}
use Rattle.nl_vstore.specs.Batches.{number_of_payload}
use Rattle.nl_vstore.specs.Periods.{periods_of}
use Rattle.nl_vstore.specs.Stores.{IsStore, Numbered, Store, address_in, block_now, content_in, device_in, entry_now, numbered_in, payload_in}
use Rattle.nl_dat.specs.declared.entries.DatEntry.{DatEntry}
use Rattle.nl_dat.specs.Images.{entry_told}
use Rattle.nl_dat.specs.Table.{addresses_of, block_of, dat_entry_of, numbers_shown, period_of_entry}
use Rattle.nl_dat.specs.TakenOut.{HaveOwnBlocks}
use Rattle.nl_image.specs.Conditions.{IsOwn}

-- ---- of one number

-- what an entry is of
told-of : (o : Option Numbered) (e : DatEntry) → option_map dat_entry_of o ≡ Some e
    → (n : Numbered) × (o ≡ Some n) × (e ≡ dat_entry_of n)
told-of None e at = absurd (cc)
told-of (Some n) e at = (n, refl, let same : Some (dat_entry_of n) ≡ Some e = at in cc)

same-block : (o : Option Numbered) → option_map block_of (option_map dat_entry_of o) ≡ option_map block_now o
same-block None = refl
same-block (Some n) = refl

same-period : (o : Option Numbered)
    → option_map period_of_entry (option_map dat_entry_of o) ≡ option_map period_of (option_map entry_now o)
same-period None = refl
same-period (Some n) = refl

same-page : (blocks : DevicePages) (o : Option Numbered)
    → ((n : Numbered) → o ≡ Some n → blocks n.block ≡ Some n.entry.page)
    → option_and_then (λ (e : DatEntry). blocks e.block) (option_map dat_entry_of o)
    ≡ option_map (λ (e : Entry). e.page) (option_map entry_now o)
same-page blocks None there = refl
same-page blocks (Some n) there = there n refl

never-zero : (o : Option Numbered) → ((b : ℕ) → option_map block_now o ≡ Some b → 1 ≤ 0)
    → None ≡ option_map dat_entry_of o
never-zero None low = refl
never-zero (Some n) low = absurd (let never = low n.block refl in omega (arith, never))

-- ---- of all numbers

module _ (s : Store) (is : IsStore s) where
  pub numbers-long : length (numbers_shown s) ≡ total_blocks s.segments
  numbers-long =
      length-map (drop 1 s.numbers) (option_map dat_entry_of) ∙ length-drop 1 s.numbers
      ∙ omega (arith, is.full)

  told-is : (v : ℕ) → entry_told (numbers_shown s) v ≡ option_map dat_entry_of (numbered_in s v)
  told-is zero = never-zero (numbered_in s 0) (λ b at. (is.numbers 0 b at).0)
  told-is (suc k) =
      let next : 1 + k ≡ suc k = omega arith in
      get_or-map (option_map dat_entry_of) (drop 1 s.numbers) k None
      ∙ ap (option_map dat_entry_of)
      (get_or_after_one s.numbers k None ∙ ap (λ (n : ℕ). get_or s.numbers n None) next)

  pub entry-of : (v : ℕ) (e : DatEntry) → entry_told (numbers_shown s) v ≡ Some e
      → (n : Numbered) × (numbered_in s v ≡ Some n) × (e ≡ dat_entry_of n)
  entry-of v e at = told-of (numbered_in s v) e (sym (told-is v) ∙ at)

  addresses-are : (v : ℕ) → addresses_of (entry_told (numbers_shown s)) v ≡ address_in s v
  addresses-are v = ap (option_map block_of) (told-is v) ∙ same-block (numbered_in s v)

  pub are-used : (v : ℕ) (e : DatEntry) → entry_told (numbers_shown s) v ≡ Some e → IsUsed s.segments e.block
  are-used v e at = is.used v e.block (sym (addresses-are v) ∙ ap (option_map block_of) at)

  pub own-blocks : HaveOwnBlocks (addresses_of (entry_told (numbers_shown s)))
  own-blocks v w b one two = is.apart v w b (sym (addresses-are v) ∙ one) (sym (addresses-are w) ∙ two)

  -- the payload of each number's block is its own
  pub are-own : (held : HeldPayload) → ((b : ℕ) → held b ≡ payload_in s b) → (v : ℕ) (e : DatEntry)
      → entry_told (numbers_shown s) v ≡ Some e → IsOwn held v e
  are-own held same v e at =
      let n = entry-of v e at in
      ap (λ (entry : DatEntry). option_map number_of_payload (held entry.block)) n.2
      ∙ ap (option_map number_of_payload) (same n.0.block ∙ is.own_payload v n.0 n.1)

  -- the page under each number, where the used blocks are those of the device
  pub pages-are : (blocks : DevicePages) → ((b : ℕ) → IsUsed s.segments b → blocks b ≡ device_in s b)
      → (λ (v : ℕ). option_and_then (λ (e : DatEntry). blocks e.block) (entry_told (numbers_shown s) v))
      ≡ pages_of (content_in s)
  pages-are blocks same = λ i v. at v i
    where
      there : (v : ℕ) (n : Numbered) → numbered_in s v ≡ Some n → blocks n.block ≡ Some n.entry.page
      there v n here =
          same n.block (is.used v n.block (ap (option_map block_now) here)) ∙ is.on_device v n here

      at : (v : ℕ)
          → option_and_then (λ (e : DatEntry). blocks e.block) (entry_told (numbers_shown s) v)
          ≡ pages_of (content_in s) v
      at v =
          ap (option_and_then (λ (e : DatEntry). blocks e.block)) (told-is v)
          ∙ same-page blocks (numbered_in s v) (there v)

  pub periods-are : (λ (v : ℕ). option_map period_of_entry (entry_told (numbers_shown s) v))
      ≡ periods_of (content_in s)
  periods-are = λ i v. at v i
    where
      at : (v : ℕ) → option_map period_of_entry (entry_told (numbers_shown s) v) ≡ periods_of (content_in s) v
      at v = ap (option_map period_of_entry) (told-is v) ∙ same-period (numbered_in s v)
