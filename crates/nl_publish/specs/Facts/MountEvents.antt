-- Events that neither mount nor give a mount back.
use Rattle.std.proofs.Common.{◌≡◌, ℕ, refl}
use Rattle.nl_types.specs.declared.event.Event.{Event}
use Rattle.nl_types.specs.declared.event.Event.TheVariants as event
use Rattle.nl_publish.specs.Locks.{IsNoMountEvent}

pub no_mount : (e : Event) → ((n : ℕ) → e ≡ event.Mount n → ⊥) → ((m : ℕ) → e ≡ event.Unmount m → ⊥)
    → IsNoMountEvent e
no_mount (event.Apply change) mounts unmounts = tt
no_mount (event.Read ask) mounts unmounts = tt
no_mount (event.Checkpoint mode moment) mounts unmounts = tt
no_mount (event.ChangeMode n mode) mounts unmounts = tt
no_mount (event.Remove n) mounts unmounts = tt
no_mount (event.RemoveRange first last) mounts unmounts = tt
no_mount (event.Mount n) mounts unmounts = absurd (mounts n refl)
no_mount (event.Unmount m) mounts unmounts = absurd (unmounts m refl)
no_mount (event.MountRead m ask) mounts unmounts = tt
no_mount (event.Expire now period) mounts unmounts = tt
no_mount (event.Move segment limit now) mounts unmounts = tt
no_mount (event.Retire segment) mounts unmounts = tt
no_mount (event.Resize segments) mounts unmounts = tt
no_mount (event.Listing options) mounts unmounts = tt
