-- Whether the payload at the block of each number is its own.
use Rattle.std.proofs.Common.{◌≡◌, ℕ, ◌+◌, ◌-◌, ◌*◌, ◌/◌, ◌%◌, ◌<◌, ◌≤◌, List, [], ◌∷◌, length, map, Option, None, Some, refl, ap, sym, ◌∙◌, subst, arith, inl, inr}
use Rattle.std.specs.Option.{IfSome, option_map}
use Rattle.std.specs.Prelude.{slice_get, slice_index_or}
use Rattle.std.proofs.Math.Logic.{∥∥₁_elim}
use Rattle.std.proofs.Math.Nat.{mod-lt}
use Rattle.std.proofs.Props.{props}
use Rattle.std.proofs.lemmas.Bool.{cases_eq, cases_lt}
use Rattle.std.proofs.lemmas.List.{get_or_past, length-map}
use Rattle.std.proofs.lemmas.Option.{slice_get-map}
use Rattle.nl_types.specs.Blocks.Entries.{number_of}
use Rattle.nl_types.specs.Blocks.PartialMaps.{Partial}
use Rattle.nl_types.specs.Blocks.Segments.{Segments, IsUsed, info_of}
use Rattle.nl_sufile.specs.Table.{IsSegTable}
use Rattle.nl_vstore.specs.Content.{HeldPayload, IsRowOf, Payload, SpaceContent, payload_page}
use Rattle.nl_vstore.specs.Logs.{AreWholeLogs, FillUpTo, WholeLog}
use Rattle.nl_vstore.specs.Batches.{birth_of_item, number_of_payload}
use Rattle.nl_dat.specs.declared.entries.DatEntry.{DatEntry}
use Rattle.nl_dat.specs.Images.{HasOwn, IsTableOver}
use Rattle.nl_dat.specs.Inside.{IsDatTable, births_in}
use Rattle.nl_dat.specs.Table.{HaveOwnPayload, addresses_of, block_of, entry_in}
use Rattle.nl_dat.specs.Facts.Positions.{held-row, position-used}

-- ---- one number

number_told : (o : Option Payload)
    → option_map number_of_payload o ≡ option_map number_of (option_map birth_of_item o)
number_told None = refl
number_told (Some payload) = refl

-- a used block by division
whole : (s : Segments) (b : ℕ) → IsSegTable s → b ≡ b / s.blocks * s.blocks + b % s.blocks
whole s b is = let some = is.geometry.least_blocks in omega (arith, some)

pub used_place : (s : Segments) (b : ℕ) → IsSegTable s → IsUsed s b
    → b % s.blocks < (info_of s.each (b / s.blocks)).used
used_place s b is used =
    let some = is.geometry.least_blocks in
    position-used s (b / s.blocks) (b % s.blocks) b is.tidy used (whole s b is)
    (mod-lt b (omega (arith, some)))

pub used_segment : (s : Segments) (b : ℕ) → IsSegTable s → IsUsed s b → b / s.blocks < length s.each
used_segment s b is used = elim (cases_lt (b / s.blocks) (length s.each)) [
  | inl h ↦ h
  | inr h ↦
      absurd (let low = used_place s b is used in
      let none : (info_of s.each (b / s.blocks)).used ≡ 0 =
      ap (λ i. i.used) (get_or_past s.each (b / s.blocks) _ h) in
      omega (arith, low, none))
]

-- a row tells the number of the payload at a block
pub number_in-row : (space : SpaceContent) (row : List (Option Payload)) (b : ℕ) → IsSegTable space.segments
    → IsUsed space.segments b → length row ≡ (info_of space.segments.each (b / space.segments.blocks)).used
    → IsRowOf space.held (b / space.segments.blocks * space.segments.blocks) row
    → option_map number_of_payload (slice_index_or row (b % space.segments.blocks) None)
    ≡ option_map number_of (births_in space b)
number_in-row space row b is used count each =
    let n = space.segments.blocks in
    let within : b % n < length row = omega (arith, count, used_place space.segments b is used) in
    ap (option_map number_of_payload)
    (held-row row space (b / n) (b % n) each within ∙ ap space.held (sym (whole space.segments b is)))
    ∙ number_told (space.held b)

-- ---- all of them

-- those of the first numbers are
abbrev pub AreOwnBelow : List (Option DatEntry) → SpaceContent → ℕ → Type 0
AreOwnBelow table space n = (v : ℕ) → v < n → HasOwn space v (entry_in table v)

own_of : (space : SpaceContent) (v b : ℕ) (entry : Option DatEntry) → HasOwn space v entry
    → option_map block_of entry ≡ Some b → option_map number_of (births_in space b) ≡ Some v
own_of space v b None own at = cc
own_of space v b (Some e) own at =
    let same : e.block ≡ b = cc in
    subst (λ (k : ℕ). option_map number_of (births_in space k) ≡ Some v) same own

pub all_own : (table : List (Option DatEntry)) (space : SpaceContent) (n : ℕ) → length table ≤ n
    → AreOwnBelow table space n → HaveOwnPayload (addresses_of (entry_in table)) (births_in space)
all_own table space n all own v b at = elim (cases_lt v n) [
  | inl h ↦ own_of space v b (entry_in table v) (own v h) at
  | inr h ↦
      absurd (let none : addresses_of (entry_in table) v
      ≡ None = ap (option_map block_of) (get_or_past table v None (omega (arith, all, h))) in
      cc)
]

pub own_each : (table : List (Option DatEntry)) (space : SpaceContent) (v : ℕ)
    → HaveOwnPayload (addresses_of (entry_in table)) (births_in space) → HasOwn space v (entry_in table v)
own_each table space v own = of_entry (entry_in table v) (λ b at. own v b at)
  where
    of_entry : (entry : Option DatEntry)
        → ((b : ℕ) → option_map block_of entry ≡ Some b → option_map number_of (births_in space b) ≡ Some v)
        → HasOwn space v entry
    of_entry None each = tt
    of_entry (Some e) each = each e.block refl

-- each entry has a used block
pub used_each : (table : List (Option DatEntry)) (space : SpaceContent) (v : ℕ)
    → IsTableOver table space.segments → IfSome (entry_in table v) (λ e. IsUsed space.segments e.block)
used_each table space v is = of_entry (entry_in table v) (λ b at. is.used v b at)
  where
    of_entry : (entry : Option DatEntry)
        → ((b : ℕ) → option_map block_of entry ≡ Some b → IsUsed space.segments b)
        → IfSome entry (λ e. IsUsed space.segments e.block)
    of_entry None each = tt
    of_entry (Some e) each = each e.block refl

-- ---- the pages on the device

-- the page of payload in a log is on the device
fill_stored : (b end c : ℕ) (logs : List WholeLog) (held : HeldPayload) (stored : Partial (List ℕ))
    → FillUpTo b end logs held stored → b ≤ c → c < end → (p : Payload) → held c ≡ Some p
    → stored c ≡ Some (payload_page p)
fill_stored b end c [] held stored fill low high p at = absurd (omega (arith, fill, low, high))
fill_stored b end c (log ∷ logs) held stored fill low high p at =
    elim (cases_eq c b) [
      | inl e ↦ absurd (let none : held c ≡ None = ap held e ∙ fill.0.no_payload in cc)
      | inr apart ↦ elim (cases_lt c (b + 1 + length log.payload)) [
        | inl inside ↦ (let far : b < c = omega arith in
            let j : ℕ = c - (b + 1) in
            let here : b + 1 + j ≡ c = omega (arith, far) in
            let within : j < length log.payload = omega (arith, inside, far) in
            let there : slice_get log.payload j ≡ Some p =
            sym (fill.0.payload j within) ∙ (ap held here ∙ at) in
            let paged : j < length (map payload_page log.payload) =
            omega (arith, within, length-map log.payload payload_page) in
            ap stored (sym here)
            ∙ (fill.0.pages j paged
            ∙ (slice_get-map payload_page log.payload j ∙ ap (option_map payload_page) there)))
        | inr behind ↦ fill_stored (b + 1 + length log.payload) end c logs held stored fill.1 behind high p at
      ]
    ]

stored_used : (c : SpaceContent) (b : ℕ) (p : Payload) → AreWholeLogs c → IsUsed c.segments b
    → c.held b ≡ Some p → c.stored b ≡ Some (payload_page p)
stored_used c b p whole (place, at, used) held =
    ∥∥₁_elim (whole place.segment) (Prim.hlevel props)
    (λ filled.
    fill_stored (place.segment * c.segments.blocks) _ b filled.0 c.held c.stored filled.1
    (omega (arith, at)) (omega (arith, at, used)) p held)

-- the table is sound, where no number is known to be filled
pub restored_table : (table : List (Option DatEntry)) (space : SpaceContent)
    → IsTableOver table space.segments → AreWholeLogs space
    → HaveOwnPayload (addresses_of (entry_in table)) (births_in space) → IsDatTable table 1 space
restored_table table space is whole own = record {
  full = is.full;
  zero_unused = is.zero_unused;
  sound = own;
  used = is.used;
  stored = λ v b at. stored_at v b at (space.held b) refl (own v b at);
  positive = omega arith;
  within = omega (arith, is.full);
  below_lowest = λ v low high. absurd (omega (arith, low, high));
}
  where
    stored_at : (v b : ℕ) → addresses_of (entry_in table) v ≡ Some b → (o : Option Payload) → space.held b ≡ o
        → option_map number_of (option_map birth_of_item o) ≡ Some v
        → space.stored b ≡ option_map payload_page o
    stored_at v b at None held named = cc
    stored_at v b at (Some p) held named = stored_used space b p whole (is.used v b at) held
