-- Volumes that are saved.
use Rattle.std.proofs.Common.{◌≡◌, Bool, true, false, ℕ, [], refl, subst, sym}
use Rattle.nl_commit.specs.Layout.{Layout}
use Rattle.nl_core.specs.PenImages.{CanBeClosed}
use Rattle.nlvol.specs.Endings.{IsSettled}

-- what is settled can be closed, where nothing is mounted
pub can_be_closed : (dirty : Bool) (moment : ℕ) (old new : Layout) → old.lists.dirty ≡ dirty
    → old.lists.mounts ≡ []
    → IsSettled dirty moment old new → CanBeClosed new.lists
can_be_closed false moment old new clean unmounted same =
    subst (λ (l : Layout). CanBeClosed l.lists) (sym same) (record { clean = clean; unmounted = unmounted })
can_be_closed true moment old new dirty unmounted (answer, does) =
    subst CanBeClosed (sym does.becomes.writes.lists) (record { clean = refl; unmounted = unmounted })
