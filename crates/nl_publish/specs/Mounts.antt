-- Mounts, as their holders have them.
use Rattle.std.specs.Prelude.{ℕ}
use Rattle.nl_commit.specs.declared.commit.Commit.TheVariants.{Mounted}
use Rattle.nl_publish.specs.Histories.{EndsWith, Known}

-- a mount: its number, its checkpoint, and the history that ends with its own commit
pub record Claim : Type 0 where
  pub number : ℕ
  pub checkpoint : ℕ
  pub told : Known

abbrev pub IsClaim : Claim → Type 0
IsClaim m = EndsWith m.told.commits (Mounted (record { number = m.number; checkpoint = m.checkpoint }))
