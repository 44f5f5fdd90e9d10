-- The pages and periods that the table of an image gives virtual block numbers, sound or not.
use Rattle.std.specs.Prelude.{◌≡◌, ◌⊎◌, ℕ, zero, suc, ◌+◌, ◌*◌, ◌<◌, ◌≤◌, List, drop, length, slice_index_or, Option, None, Some}
use Rattle.std.specs.Option.{option_and_then, option_map}
use Rattle.byteorder.specs.Endian.{little_number}
use Rattle.nl_types.specs.Blocks.Roots.{Pages}
use Rattle.nl_types.specs.declared.error.VolError.{VolError}
use Rattle.nl_types.specs.declared.error.VolError.TheVariants.{Fault, Memory}
use Rattle.nl_types.specs.declared.geometry.Geometry.{Geometry}
use Rattle.nl_types.specs.declared.period.Period.{Period}
use Rattle.nl_vstore.specs.Periods.{Periods}
use Rattle.nl_dat.specs.EntryBytes.{end_at}
use Rattle.nl_damage.specs.declared.pages.ImagePages.{ImagePages}
use Rattle.nl_damage.specs.declared.pages.Numbered.{Numbered}
use Rattle.nl_damage.specs.declared.sections.Sections.{Sections}
use Rattle.nl_damage.specs.Sections.{item_in, total_in}

-- the bytes of the entry of a number: 0 has none
abbrev pub entry_in : Sections → ℕ → Option (List ℕ)
entry_in x zero = None
entry_in x (suc before) = item_in x.numbers.now 24 before

-- the block and the period of an entry that begins at a checkpoint: 0 is none
abbrev pub told_from : (start : ℕ) → List ℕ → Option (ℕ × Period)
told_from zero entry = None
told_from (suc before) entry = Some (
  little_number 8 entry,
  record { start = suc before; end = end_at (little_number 8 (drop 16 entry)) },
)

abbrev pub told_in : List ℕ → Option (ℕ × Period)
told_in entry = told_from (little_number 8 (drop 8 entry)) entry

-- the page of the block, where the image has it
abbrev pub numbered_by : Sections → ℕ × Period → Option Numbered
numbered_by x told =
    option_map (λ (page : List ℕ). record { page = page; period = told.1 }) (item_in x.blocks.now 1024 told.0)

-- what a number stands for
abbrev pub numbered_in : Sections → ℕ → Option Numbered
numbered_in x v = option_and_then (numbered_by x) (option_and_then told_in (entry_in x v))

-- the pages of the numbers from 0 on, as many as there are blocks and one more
pub record ArePagesOf (x : Sections) (p : ImagePages) : Type 0 where
  pub count : length p.table ≡ total_in x + 1
  pub each : (v : ℕ) → v ≤ total_in x → slice_index_or p.table v None ≡ numbered_in x v

-- ---- by number

abbrev pub numbered_at : ImagePages → ℕ → Option Numbered
numbered_at p v = slice_index_or p.table v None

abbrev pub pages_of : ImagePages → Pages
pages_of p v = option_map (λ (n : Numbered). n.page) (numbered_at p v)

abbrev pub periods_of : ImagePages → Periods
periods_of p v = option_map (λ (n : Numbered). n.period) (numbered_at p v)

-- ---- refusals

-- there are more numbers than a volume so divided has blocks
abbrev pub HaveMoreNumbers : ImagePages → Geometry → Type 0
HaveMoreNumbers p g = g.segments * g.blocks + 1 < length p.table

abbrev pub RefusesPages : ImagePages → Geometry → VolError → Type 0
RefusesPages p g e = (e ≡ Memory) ⊎ ((e ≡ Fault) × HaveMoreNumbers p g)
