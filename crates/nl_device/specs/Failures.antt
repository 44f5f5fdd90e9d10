-- How often a device has failed.
use Rattle.std.specs.Prelude.{◌≡◌, ℕ, ◌+◌, ◌<◌, ◌≤◌}

-- in gets, and in puts and clears
pub record Failures : Type 0 where
  pub reads : ℕ
  pub writes : ℕ

-- none of either kind
abbrev pub no_failures : Failures
no_failures = record { reads = 0; writes = 0 }

-- in all
abbrev pub failure_count : Failures → ℕ
failure_count failures = failures.reads + failures.writes

-- writes may have failed, and reads have not
abbrev pub CountsWrites : Failures → Failures → Type 0
CountsWrites old new = (new.reads ≡ old.reads) × (old.writes ≤ new.writes)

-- reads may have failed, and writes have not
abbrev pub CountsReads : Failures → Failures → Type 0
CountsReads old new = (old.reads ≤ new.reads) × (new.writes ≡ old.writes)

-- a write failed, and no read did
abbrev pub FailsToWrite : Failures → Failures → Type 0
FailsToWrite old new = (new.reads ≡ old.reads) × (old.writes < new.writes)

-- a read failed, and no write did
abbrev pub FailsToRead : Failures → Failures → Type 0
FailsToRead old new = (old.reads < new.reads) × (new.writes ≡ old.writes)
