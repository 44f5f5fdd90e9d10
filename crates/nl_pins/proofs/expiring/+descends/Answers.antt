use Rattle.std.proofs.Common.{arith, rules}
use Rattle.nl_pins.proofs.Order.{descend_first, short_descend}
use Rattle.nl_pins.proofs.expiring.+descends.Goals as goal

pub returns-in_default : goal.returns-in_default
returns-in_default t c = (λ _. short_descend c.args.rows.now c.in_default.len_below, λ _. search rules)

pub returns-then-get : goal.returns-then-get
returns-then-get t c =
    descend_first c.args.rows.now c.newer-item.result c.older-item.result c.descends.result
    c.in-len2-up.len_at_least c.newer-item.is c.older-item.is (grind (arith, c.if-get.true)) c.descends.ensures
