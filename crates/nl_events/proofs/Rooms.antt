-- Whether there is room for the next checkpoint.
use Rattle.std.proofs.Common.{◌≡◌, ◌<◌, ℕ, true, length, arith, inl, inr, subst}
use Rattle.std.proofs.lemmas.Bool.{cases_lt}
use Rattle.nl_layout.specs.Root.{root_of}
use Rattle.nl_layout.specs.declared.root.Root.{Root}
use Rattle.nl_sufile.specs.Room.{HasRoomFor}
use Rattle.nl_vstore.specs.Batches.{Changes}
use Rattle.nl_vstore.specs.Stores.{Store, content_in}
use Rattle.nl_blocktree.specs.Numbering.{CanTake}
use Rattle.nl_tree.specs.Held.{Holding}
use Rattle.nl_tree.specs.Weights.{IsNoLess}
use Rattle.nl_files.specs.Bounds.{SettlingsAreFew, most_births}
use Rattle.nl_files.specs.Settles.{IsCurrent, Settles}
use Rattle.nl_cpfile.specs.declared.checkpoint.Checkpoint.{Checkpoint}
use Rattle.nl_commit.specs.Draft.{CanBeDrafted, HoldsNow, SettlesNow}
use Rattle.nl_commit.specs.Layout.{IsPen, LacksSpaceToSettle, Layout, layout_of}
use Rattle.nl_commit.specs.Volume.{Lists, latest_root}
use Rattle.nl_events.specs.Facts.Ledgers.{can_be-drafted}
use Rattle.nl_events.specs.Facts.Settlings.{settlings_are_alike}
use Rattle.nl_events.specs.Rooms.{HasRoom, HasToWrite}
use Rattle.nl_events.specs.declared.room.Room.{Room}

-- the batch that was settled over the latest checkpoint has the blocks
pub has-to_write : (lists : Lists) (store : Store) (latest : Checkpoint) (root : Root) (batch : Changes)
    (blocks : ℕ)
    → CanBeDrafted (content_in store) lists → latest ≡ lists.table.latest
    → ((base held : Holding) → IsCurrent (content_in store) (root_of latest.root) lists.current.became base held
    → Settles (content_in store) (root_of latest.root) (root_of root) lists.current.became held batch)
    → CanTake store batch → blocks ≡ length batch.births → HasToWrite (layout_of lists store) blocks
has-to_write lists store latest root batch blocks can is settles fits are =
    let over : (base held : Holding) → HoldsNow (content_in store) lists base held
    → SettlesNow (content_in store) lists root held batch
    =
    subst
    (λ (c : Checkpoint).
    (base held : Holding) → IsCurrent (content_in store) (root_of c.root) lists.current.became base held
    → Settles (content_in store) (root_of c.root) (root_of root) lists.current.became held batch)
    is settles in
    record {
      root = root;
      settled = record {
        base = can.1;
        held = can.2;
        current = can.3;
        changes = batch;
        settles = over can.1 can.2 can.3;
        fits = fits;
      };
      blocks_are = are;
    }

module _ (l : Layout) (pen : IsPen l) (room : Room) (writes : HasToWrite l room.blocks)
    (free : HasRoomFor l.store.segments true room.free) where
  lacking : room.free < room.blocks → LacksSpaceToSettle l
  lacking fewer = record {
    root = writes.root;
    settled = writes.settled;
    lacks = free.lacks (length writes.settled.changes.births) (omega (arith, fewer, writes.blocks_are));
  }

  -- whatever else is settled has as many blocks
  fewer : LacksSpaceToSettle l → room.free < room.blocks
  fewer lacks = elim (cases_lt room.free room.blocks) [
    | inl less ↦ less
    | inr enough ↦
        let alike = settlings_are_alike l writes.root lacks.root pen writes.settled lacks.settled in
        let fits =
        free.fits (length lacks.settled.changes.births) (omega (arith, enough, alike.1, writes.blocks_are)) in
        absurd (lacks.lacks fits.0 fits.1)
  ]

  pub has-room : HasRoom l room
  has-room = record { writes = writes; free = free; lacks = (lacking, fewer) }

-- no more is written than what changed weighs
pub bound-holds : SettlingsAreFew → (l : Layout) (bound : ℕ) → IsPen l
    → IsNoLess (most_births l.lists.current.became) bound
    → (blocks : ℕ) → HasToWrite l blocks → IsNoLess blocks bound
bound-holds law l bound pen weighs blocks writes =
    let s = writes.settled in
    let few =
    law (content_in l.store) (root_of (latest_root l.lists)) (root_of writes.root) l.lists.current.became s.base
    s.held s.changes (can_be-drafted l pen).0 s.current s.settles in
    omega (arith, few, weighs, writes.blocks_are)
