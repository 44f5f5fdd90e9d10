-- Events that mount nothing, give nothing back and read no mount.
use Rattle.std.proofs.Common.{◌≡◌, ℕ, refl}
use Rattle.nl_types.specs.declared.event.Ask.{Ask}
use Rattle.nl_types.specs.declared.event.Event.{Event}
use Rattle.nl_types.specs.declared.event.Event.TheVariants as event
use Rattle.nl_types.specs.Plain.Worlds.{Reply}
use Rattle.nl_publish.specs.Locks.{Ran}
use Rattle.nlvol.specs.SharedVolumes.{Sharing, shared_does}

pub others_do : (old new : Sharing) (e : Event) (reply : Reply) → ((n : ℕ) → e ≡ event.Mount n → ⊥)
    → ((m : ℕ) → e ≡ event.Unmount m → ⊥)
    → ((m : ℕ) (ask : Ask) → e ≡ event.MountRead m ask → ⊥) → Ran old.held e reply new.held
    → new.mounts ≡ old.mounts
    → shared_does old e reply new
others_do old new (event.Apply change) reply no_mount no_unmount no_read ran same = (ran, same)
others_do old new (event.Read ask) reply no_mount no_unmount no_read ran same = (ran, same)
others_do old new (event.Checkpoint mode moment) reply no_mount no_unmount no_read ran same = (ran, same)
others_do old new (event.ChangeMode n mode) reply no_mount no_unmount no_read ran same = (ran, same)
others_do old new (event.Remove n) reply no_mount no_unmount no_read ran same = (ran, same)
others_do old new (event.RemoveRange first last) reply no_mount no_unmount no_read ran same = (ran, same)
others_do old new (event.Mount n) reply no_mount no_unmount no_read ran same = absurd (no_mount n refl)
others_do old new (event.Unmount m) reply no_mount no_unmount no_read ran same = absurd (no_unmount m refl)
others_do old new (event.MountRead m ask) reply no_mount no_unmount no_read ran same =
    absurd (no_read m ask refl)
others_do old new (event.Expire now period) reply no_mount no_unmount no_read ran same = (ran, same)
others_do old new (event.Move segment limit now) reply no_mount no_unmount no_read ran same = (ran, same)
others_do old new (event.Retire segment) reply no_mount no_unmount no_read ran same = (ran, same)
others_do old new (event.Resize segments) reply no_mount no_unmount no_read ran same = (ran, same)
others_do old new (event.Listing options) reply no_mount no_unmount no_read ran same = (ran, same)
