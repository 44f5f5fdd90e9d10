use Rattle.std.proofs.Common.{◌∙◌, sym}
use Rattle.nl_layout.proofs.Slots.{slot-Spells}
use Rattle.nl_layout.proofs.node.Node.slots_in_page.Goals as goal

pub returns-clause-slots : goal.returns-clause-slots
returns-clause-slots c = λ s within.
    sym (slot-Spells c.args.page.now c.slots_in.result s record {
      count = c.slots_in.ensures.count;
      fit = c.slots_in.ensures.fit;
      spelling = sym (c.slots_in.ensures.spelled ∙ c.bytes.ensures);
    } within)
