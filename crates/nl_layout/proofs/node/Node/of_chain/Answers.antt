use Rattle.std.proofs.Common.{refl}
use Rattle.nl_layout.proofs.Slots.{chain_slots}
use Rattle.nl_layout.proofs.node.Node.of_chain.Goals as goal

pub returns-clause-data : goal.returns-clause-data
returns-clause-data c = λ s within.
    chain_slots c.args.numbers.now _ _ c.new-slots.result c.args.next s c.copy_from_slice.ensures.after refl
    c.new-slots.ensures c.requires within
