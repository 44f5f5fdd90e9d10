-- What sessions know of their volumes.
use Rattle.std.specs.Prelude.{◌≡◌, ℕ, List, if◌then◌else◌}
use Rattle.nl_types.specs.declared.event.Mode.TheVariants.{Plain}
use Rattle.nl_types.specs.Plain.Worlds.{World, checkpoint}
use Rattle.nl_commit.specs.Layout.{Layout, MeansWorld}
use Rattle.nlvol.specs.Beginnings.{IsOpenedPen}
use Rattle.nlvol.specs.Endings.{SavesFrom}

-- A volume that was saved comes back: what is opened of its image means the world that was saved, where no
-- mount number was given yet.
abbrev pub SavedVolumesComeBack : Type 0
SavedVolumesComeBack = (moment : ℕ) (left opened : Layout) (image : List ℕ)
    (saves : SavesFrom moment left image) (w v : World)
    → IsOpenedPen image opened → MeansWorld saves.closed w → MeansWorld opened v → v ≡ record w { given = 0 }

-- the world behind a plain checkpoint at a moment, where something is dirty
abbrev pub settled : (moment : ℕ) → World → World
settled moment w = if w.dirty then (checkpoint w Plain moment).1 else w

-- So does what a run left: what is opened of its image means that world, settled at the run's last moment.
abbrev pub SavedRunsComeBack : Type 0
SavedRunsComeBack = (moment : ℕ) (left opened : Layout) (image : List ℕ) (w v : World)
    → SavesFrom moment left image → IsOpenedPen image opened → MeansWorld left w → MeansWorld opened v
    → v ≡ record (settled moment w) { given = 0 }
