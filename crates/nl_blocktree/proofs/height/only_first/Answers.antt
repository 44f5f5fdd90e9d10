use Rattle.std.specs.Prelude.{option_copied}
use Rattle.nl_blocktree.proofs.TreeHeights.{only_slots, slot_named}
use Rattle.nl_blocktree.proofs.height.only_first.Goals as goal

pub returns-clause-lone : goal.returns-clause-lone
returns-clause-lone c = λ bytes n is r.
    only_slots _ c.slot_of.result bytes n is c.slot_of.ensures
    (c.names_later.ensures.none c.if-names_later.false) r

pub returns-clause-named : goal.returns-clause-named
returns-clause-named c = λ n r.
    slot_named (option_copied c.args.page) c.slot_of.result 0 n c.slot_of.ensures r
