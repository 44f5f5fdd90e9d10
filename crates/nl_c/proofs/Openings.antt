-- A volume that is held, or is not for want of memory.
use Rattle.std.proofs.Common.{◌≡◌, ℕ, inl, inr, Option, Some, refl}
use Rattle.std.specs.Prelude.{◌⊎◌}
use Rattle.nl_types.specs.declared.error.VolError.{VolError}
use Rattle.nl_types.specs.declared.error.VolError.TheVariants.{Memory}
use Rattle.nl_commit.specs.Layout.{Layout}
use Rattle.nl_c.specs.Openings.{HoldsPen, LeadsTo, StaysBy}
use Rattle.nl_c.specs.declared.held.Held.{Held}

-- a handle that is to lead to such a volume does so, or stays
pub held_such : (IsSuch : Layout → Type 0) (IsRefusal : VolError → Type 0) (was : Option Held) (l : Layout)
    (status : ℕ) (after : Option Held) → IsSuch l → HoldsPen was l status after
    → LeadsTo IsSuch status after ⊎ StaysBy IsRefusal was status after
held_such IsSuch IsRefusal was l status after such held = elim held [
  | inl led ↦ inl (l, such, led.0, led.1)
  | inr stays ↦ inr (Memory, inr refl, stays.0, stays.1)
]
