-- What a rename by paths finds before it moves anything.
use Rattle.std.specs.Prelude.{◌≡◌, ◌≢◌, ℕ, ◌&&◌, true, false, List, Option, Some, Ok, Err}
use Rattle.nl_types.specs.declared.error.VolError.{VolError}
use Rattle.nl_types.specs.declared.reply.Answer.TheVariants as answer
use Rattle.nl_types.specs.Plain.Paths.{Name, Path}
use Rattle.nl_types.specs.Plain.Calls.{is_above, rename}
use Rattle.nl_types.specs.Inodes.{Link}
use Rattle.nl_types.specs.Judging.{is_dir_kind, judge_rename}
use Rattle.nl_types.specs.Plain.Trees.{Tree}
use Rattle.nl_dirs.specs.declared.record.Record.{Record}
use Rattle.nl_tree.specs.declared.overlay.Overlay.{Overlay}
use Rattle.nl_tree.specs.declared.renames.PlannedRename.{PlannedRename}
use Rattle.nl_tree.specs.Held.{Holding, inodes_of_holding}
use Rattle.nl_tree.specs.Naming.{IsPlaceOf, listing_of}
use Rattle.nl_tree.specs.Overlays.{HasName, IsDirectoryOf}
use Rattle.nl_tree.specs.Reading.{HoldingMeans}
use Rattle.nl_tree.specs.Steps.{with_link_moved}

-- the rename is refused so, on each tree that the inodes stand for
abbrev pub IsRenameRefused : Holding → Path → Path → VolError → Type 0
IsRenameRefused held from to e = (tree : Tree) → HoldingMeans held tree → rename tree from to ≡ Err e

-- both paths are the same, and the rename keeps each tree that the inodes stand for
pub record MovesNothing (held : Holding) (from to : Path) : Type 0 where
  pub same : from ≡ to
  pub keeps : (tree : Tree) → HoldingMeans held tree → rename tree from to ≡ Ok (answer.Done, tree)

-- the first path has this record, which is no directory's in which the second path lies
pub record IsSource (held : Holding) (from to : Path) (directory : ℕ) (name : Name)
    (link : Link) : Type 0 where
  pub place : IsPlaceOf held from directory name (Some link)
  pub outside : (is_dir_kind link.1 && is_above from to) ≡ false

-- the rename, to another path, moves this record of a directory to a place in another one, or the same, where
-- the target stands
pub record IsMove (held : Holding) (from to : Path) (directory : ℕ) (name : Name) (link : Link)
    (target_directory : ℕ) (target_name : Name) (target : Option Link) : Type 0 where
  pub differ : from ≢ to
  pub place : IsPlaceOf held from directory name (Some link)
  pub target_place : IsPlaceOf held to target_directory target_name target
  pub judged : judge_rename (inodes_of_holding held) (listing_of held) from target_place.dir target_name
      ≡ Ok true

-- the same, of a move as the code has it
abbrev pub FindsMove : Holding → Path → Path → PlannedRename → Type 0
FindsMove held from to m =
    IsMove held from to m.directory m.name.now m.link m.target.directory m.target.name.now m.target.link

-- ---- what a move changes

-- both directories of a move have these records
abbrev pub AreDirectoriesOf : PlannedRename → Holding → List Record → List Record → Type 0
AreDirectoriesOf m held all others =
    IsDirectoryOf held m.directory all × IsDirectoryOf held m.target.directory others

-- with places for the name that is moved, and for the new one
abbrev pub HasNamesOf : PlannedRename → Overlay → List Record → List Record → Type 0
HasNamesOf m o all others =
    HasName o m.directory all m.name.now × HasName o m.target.directory others m.target.name.now

-- what inodes hold once the record is moved
abbrev pub with_moved : PlannedRename → List Record → List Record → Holding → Holding
with_moved m all others held = with_link_moved m.directory all m.name.now m.target.directory others
    (record { name = m.target.name.now; inode = m.link.0; kind = m.link.1 }) held
