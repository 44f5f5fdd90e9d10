-- What room there is for the next checkpoint.
use Rattle.std.specs.Prelude.{◌≡◌, ◌↔◌, ◌<◌, ℕ, true, length}
use Rattle.nl_layout.specs.declared.root.Root.{Root}
use Rattle.nl_sufile.specs.Room.{HasRoomFor}
use Rattle.nl_commit.specs.Layout.{LacksSpaceToSettle, Layout, Settled}
use Rattle.nl_events.specs.declared.room.Room.{Room}

-- the next checkpoint has so many blocks to write
pub record HasToWrite (l : Layout) (blocks : ℕ) : Type 0 where
  pub root : Root
  pub settled : Settled l root
  pub blocks_are : blocks ≡ length settled.changes.births

-- and there is room for so many: where these are fewer, and only there, the checkpoint is refused by the
-- clause that `NoSpace` has
pub record HasRoom (l : Layout) (room : Room) : Type 0 where
  pub writes : HasToWrite l room.blocks
  pub free : HasRoomFor l.store.segments true room.free
  pub lacks : (room.free < room.blocks) ↔ LacksSpaceToSettle l
