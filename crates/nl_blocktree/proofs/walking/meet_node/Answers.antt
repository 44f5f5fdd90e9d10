use Rattle.std.proofs.Common.{◌*◌, arith}
use Rattle.std.proofs.lemmas.Result.{err_from_is_err_and}
use Rattle.nl_blocktree.specs.Private.Walks.{IsNode}
use Rattle.nl_blocktree.proofs.MetChains.{meets-fewer, met-node, no-node}
use Rattle.nl_blocktree.proofs.walking.meet_node.Goals as goal

pub returns-in_err-page-clause-refused : goal.returns-in_err-page-clause-refused
returns-in_err-page-clause-refused g c =
    let exits = err_from_is_err_and c.from_residual.result c.from_residual.ensures.1 in
    rw (exits.1, exits.2) (λ root p old kind at m.
    no-node (g.V.VRead.pages c.args.store.now) root old p (127 * p) c.args.number c.args.met.now
    c.in_err-page.field-0.0 at m c.in_err-page.ensures.no)

pub returns-in-Ok-clause-yes : goal.returns-in-Ok-clause-yes
returns-in-Ok-clause-yes g c = λ root p old kind at m.
    let node : IsNode (g.V.VRead.pages c.args.store.now) root p c.in_ok-page.page.now =
    record { number = c.args.number; at = at; stored = c.in_ok-page.ensures.page } in
    c.in-Ok.ensures.yes root p old kind node
    (met-node (g.V.VRead.pages c.args.store.now) root old p
    (127 * p) c.args.number c.args.met.now c.meet.new.met at m c.in_ok-page.ensures.yes)

pub returns-in-Ok-clause-fewer : goal.returns-in-Ok-clause-fewer
returns-in-Ok-clause-fewer g c =
    let less =
    meets-fewer (g.V.VRead.pages c.args.store.now) c.args.number c.args.met.now c.meet.new.met
    c.in_ok-page.ensures.yes in
    let more = c.in-Ok.ensures.fewer in
    omega (arith, less, more)

pub returns-in-Err-clause-refused : goal.returns-in-Err-clause-refused
returns-in-Err-clause-refused g c = λ root p old kind at m.
    let node : IsNode (g.V.VRead.pages c.args.store.now) root p c.in_ok-page.page.now =
    record { number = c.args.number; at = at; stored = c.in_ok-page.ensures.page } in
    c.in-Err.ensures.refused root p old kind node
    (met-node (g.V.VRead.pages c.args.store.now) root old p
    (127 * p) c.args.number c.args.met.now c.meet.new.met at m c.in_ok-page.ensures.yes)
