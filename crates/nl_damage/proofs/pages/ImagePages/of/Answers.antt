use Rattle.std.proofs.Common.{arith}
use Rattle.nl_damage.proofs.ReadNumbers.{all-read, more-read, none-read}
use Rattle.nl_damage.proofs.pages.ImagePages.of.Goals as goal

pub loop-number-init : goal.loop-number-init
loop-number-init c = none-read c.args.sections.now c.in_ok-table.table.items c.in_ok-table.ensures.items

pub loop-number-preserved : goal.loop-number-preserved
loop-number-preserved c =
    more-read c.args.sections.now c.loop-number.number c.loop-number.table.items c.push.new.self.items
    c.in_ok-read_numbered.field-0 c.loop-number.invariant c.in_ok-push.ensures.items
    c.in_ok-read_numbered.ensures

pub returns : goal.returns
returns c =
    all-read c.args.sections.now c.loop-number.number c.loop-number.table.items c.from_vec.result
    c.loop-number.invariant c.from_vec.ensures
    (omega (arith, c.loop-number-test.false, c.loop-number.auto.number-end, c.total.ensures))
