use Rattle.nl_commit.specs.Layout.{layout_of}
use Rattle.nl_events.specs.Facts.Ledgers.{can_be-drafted}
use Rattle.nl_events.proofs.parts.Parts.blocks_to_write.Goals as goal

pub blocks_to_write-requires : goal.blocks_to_write-requires
blocks_to_write-requires g c =
    can_be-drafted (layout_of c.self.inside.tables.lists (g.V.Vstore.store c.self.inside.store)) c.self.invariant.pen
