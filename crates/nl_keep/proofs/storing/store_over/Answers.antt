use Rattle.std.proofs.Common.{subst}
use Rattle.nl_types.specs.Plain.Trees.{Tree}
use Rattle.nl_keep.specs.Private.Costs.{IsMade}
use Rattle.nl_keep.proofs.Calls.{are_made_by, stored_over}
use Rattle.nl_keep.proofs.storing.store_over.Goals as goal

pub returns-clause-made : goal.returns-clause-made
returns-clause-made g c =
    let old = g.V.Volume.means c.args.volume in
    let new = g.V.Volume.means c.make.new.volume in
    are_made_by c.args.earlier c.args.wanted.now c.in_ok-cost.cost old new
    (subst (λ (t : Tree). IsMade t c.args.wanted.now c.in_ok-cost.cost old new) c.as_slice-2.ensures
    c.in_ok-cost.ensures.made)

pub returns-clause-stored : goal.returns-clause-stored
returns-clause-stored g c =
    let old = g.V.Volume.means c.args.volume in
    let mid = g.V.Volume.means c.make.new.volume in
    stored_over c.args.moment c.in_ok-number.number c.args.earlier c.args.wanted.now c.in_ok-cost.cost old mid
    (g.V.Volume.means c.snapshot.new.volume)
    (subst (λ (t : Tree). IsMade t c.args.wanted.now c.in_ok-cost.cost old mid) c.as_slice-2.ensures
    c.in_ok-cost.ensures.made)
    c.in_ok-number.ensures.taken
