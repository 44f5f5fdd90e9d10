-- Which copies go where checkpoints are forgotten.
use Rattle.std.specs.Prelude.{◌≡◌, ℕ, if◌then◌else◌, nat_le, nat_lt, List, [], ◌∷◌, None}
use Rattle.std.specs.List.{filter}
use Rattle.nl_types.specs.declared.event.Mode.TheVariants.{Plain}
use Rattle.nl_types.specs.declared.row.Row.{Row}
use Rattle.nl_types.specs.Plain.Rows.{removable, rows_between}
use Rattle.nl_types.specs.Plain.Worlds.{World, copies_with_mode, copy_at, latest, rows, take_out}
use Rattle.nl_keep.specs.Stored.{IsKept}

-- ---- runs

abbrev pub rows_behind : ℕ → List Row → List Row
rows_behind n rows = filter (λ row. nat_lt n row.number) rows

-- the number of the last of the minor rows in front, or the one before them where there are none
abbrev pub last_minor : ℕ → List Row → ℕ
last_minor n [] = n
last_minor n (row ∷ rows) = if row.minor then last_minor row.number rows else n

-- A checkpoint and the minor ones right behind it are a run: the volume made these of its tree. It ends before
-- the next one that isn't minor.
abbrev pub run_end : ℕ → List Row → ℕ
run_end n rows = last_minor n (rows_behind n rows)

-- the plain ones of the run of checkpoint n, but for the latest of all
abbrev pub run_of : ℕ → World → List ℕ
run_of n w = removable (latest w) (rows_between n (run_end n (rows w)) (rows w))

-- ---- its steps

abbrev pub with_plain : ℕ → World → World
with_plain n w = record w { copies = copies_with_mode n Plain w.copies }

-- a kept checkpoint is made plain
abbrev pub MakesPlain : ℕ → World → World → Type 0
MakesPlain n old new = IsKept n old × (new ≡ with_plain n old)

-- checkpoints are, one after another
abbrev pub MakesAllPlain : List ℕ → World → World → Type 0
MakesAllPlain [] old new = new ≡ old
MakesAllPlain (n ∷ numbers) old new = (mid : World) × MakesPlain n old mid × MakesAllPlain numbers mid new

-- these are the rows from number n on, and the world stays
abbrev pub TellsFrom : ℕ → List Row → World → World → Type 0
TellsFrom n told old new = (told ≡ filter (λ row. nat_le n row.number) (rows old)) × (new ≡ old)

-- the plain checkpoints of a range are taken out, but for the latest of all, and the first is among them
abbrev pub TakesRange : (first last : ℕ) → World → World → Type 0
TakesRange first last old new =
    (copy_at new first ≡ None)
    × (new ≡ take_out (removable (latest old) (rows_between first last (rows old))) old)

-- ---- forgetting

-- checkpoint n was kept and is gone: it was made plain, and its run was taken out
pub record ForgetsOne (n : ℕ) (old new : World) : Type 0 where
  pub kept : IsKept n old
  pub gone : copy_at new n ≡ None
  pub world : new ≡ take_out (run_of n (with_plain n old)) (with_plain n old)

-- checkpoints are forgotten one after another
abbrev pub Forgets : List ℕ → World → World → Type 0
Forgets [] old new = new ≡ old
Forgets (n ∷ numbers) old new = (mid : World) × ForgetsOne n old mid × Forgets numbers mid new
