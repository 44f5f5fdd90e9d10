-- What is told of the room for the next checkpoint.
use Rattle.std.specs.Prelude.{◌≡◌, ◌⊎◌, ℕ, true, Option, None, Some}
use Rattle.nl_sufile.specs.Room.{HasRoomFor}
use Rattle.nl_tree.specs.Weights.{IsNoLess}
use Rattle.nl_commit.specs.Layout.{Layout}
use Rattle.nl_events.specs.Rooms.{HasRoom, HasToWrite}
use Rattle.nl_events.specs.declared.room.Room.{Room}
use Rattle.nl_c.specs.Statuses.{closed, done, memory}
use Rattle.nl_c.specs.declared.held.Held.{Held}
use Rattle.nl_c.specs.declared.room.RoomTold.{RoomTold}

-- ---- exactly

abbrev pub room_told : Room → RoomTold
room_told room = record { blocks = room.blocks; free = room.free }

-- what the volume has, or there was no memory to find it
abbrev pub IsRoomTold : Option Held → RoomTold → (status : ℕ) → RoomTold → Type 0
IsRoomTold None room status new_room = (status ≡ closed) × (new_room ≡ room)
IsRoomTold (Some h) room status new_room =
    ((status ≡ done) × (found : Room) × HasRoom h.pen found × (new_room ≡ room_told found))
    ⊎ ((status ≡ memory) × (new_room ≡ room))

-- ---- from above

-- no fewer blocks than the next checkpoint has to write, and how many it has room for
pub record IsRoomBound (l : Layout) (room : RoomTold) : Type 0 where
  pub writes : (blocks : ℕ) → HasToWrite l blocks → IsNoLess blocks room.blocks
  pub free : HasRoomFor l.store.segments true room.free

abbrev pub IsBoundTold : Option Held → RoomTold → (status : ℕ) → RoomTold → Type 0
IsBoundTold None room status new_room = (status ≡ closed) × (new_room ≡ room)
IsBoundTold (Some h) room status new_room = (status ≡ done) × IsRoomBound h.pen new_room
