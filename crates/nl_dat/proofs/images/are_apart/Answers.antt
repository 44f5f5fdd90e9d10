use Rattle.std.proofs.Common.{◌<◌, Option, refl, subst, sym, arith}
use Rattle.std.specs.Option.{IfSome}
use Rattle.nl_dat.specs.declared.entries.DatEntry.{DatEntry}
use Rattle.nl_dat.proofs.TakenBlocks.{all_apart, more_taken, none_below, not_apart}
use Rattle.nl_dat.proofs.images.are_apart.Goals as goal

pub loop-entry-init : goal.loop-entry-init
loop-entry-init c = rw c.in_ok-taken.ensures (none_below c.args.numbers.now c.args.blocks)

pub returns-then-not-take_block : goal.returns-then-not-take_block
returns-then-not-take_block c =
    let twice =
    not_apart c.args.numbers.now c.args.blocks c.loop-entry.entry-index c.loop-entry.taken
    c.entry-item.result
    (omega arith) c.entry-item.is c.loop-entry.invariant c.if-not-take_block.ensures.twice in
    (λ no. absurd (cc), λ apart. absurd (twice apart))

pub loop-entry-preserved : goal.loop-entry-preserved
loop-entry-preserved c =
    more_taken c.args.numbers.now c.args.blocks c.loop-entry.entry-index c.loop-entry.taken _
    c.entry-item.result
    (omega arith) c.entry-item.is
    (subst (λ (o : Option DatEntry). IfSome o (λ e. e.block < c.args.blocks)) (sym c.entry-item.is)
    (c.requires c.loop-entry.entry-index c.entry-item.result (omega arith)))
    c.loop-entry.invariant c.if-not-take_block.ensures.free

pub returns : goal.returns
returns c = (
  λ _.
      all_apart c.args.numbers.now c.args.blocks c.loop-entry.entry-index c.loop-entry.taken
      (omega arith) c.loop-entry.invariant,
  λ _. refl,
)
