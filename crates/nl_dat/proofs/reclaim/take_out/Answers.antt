use Rattle.std.proofs.Common.{◌+◌, sym, subst, ◌∙◌}
use Rattle.nl_dat.specs.TakenOut.{HasTakenOut}
use Rattle.nl_dat.proofs.TakingOut.{none-more, one-more}
use Rattle.nl_dat.proofs.reclaim.take_out.Goals.{in-Some, in_default}
use Rattle.nl_dat.proofs.reclaim.take_out.Goals as goal

pub loop-position-preserved : goal.loop-position-preserved
loop-position-preserved c =
    let first = c.args.first in
    let i = c.loop-position.position in
    elim c.match-take_out_at.branch [
      | in-Some w ↦
          subst (HasTakenOut first (i + 1) c.args.table.now c.take_out_at.new.table)
          (sym (w.taken-is ∙ w.add-taken.ensures))
          (one-more first i c.args.table.now c.loop-position.table c.take_out_at.new.table
          c.loop-position.taken c.loop-position.invariant w.in-Some.number c.requires.apart
          w.in-Some.ensures)
      | in_default w ↦
          subst (HasTakenOut first (i + 1) c.args.table.now c.take_out_at.new.table) (sym w.taken-is)
          (none-more first i c.args.table.now c.loop-position.table c.take_out_at.new.table
          c.loop-position.taken c.loop-position.invariant w.in_default.ensures)
    ]
