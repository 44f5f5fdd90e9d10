use Rattle.std.proofs.lemmas.Result.{err_from_is_err_and}
use Rattle.nl_backups.proofs.PassedOn.{look_to_come_back, part_refused}
use Rattle.nl_backups.proofs.reverting.brought_back.Goals as goal

pub returns-in_err-earlier-clause-refused : goal.returns-in_err-earlier-clause-refused
returns-in_err-earlier-clause-refused g c =
    let p = err_from_is_err_and c.from_residual.result c.from_residual.ensures.1 in
    rw (p.1, p.2)
    (λ image of.
    look_to_come_back c.args.path.now image c.in_err-earlier.field-0.0
    (c.in_err-earlier.ensures.refused image of))

pub returns-in_err-later-clause-refused : goal.returns-in_err-later-clause-refused
returns-in_err-later-clause-refused g c =
    let exits = c.from_residual-in_err-later in
    let p = err_from_is_err_and exits.result exits.ensures.1 in
    rw (p.1, p.2)
    (λ image of.
    look_to_come_back c.args.path.now image c.in_err-later.field-0.0 (c.in_err-later.ensures.refused image of))

pub returns-in_err-tree-clause-refused : goal.returns-in_err-tree-clause-refused
returns-in_err-tree-clause-refused g c =
    let exits = c.from_residual-in_err-tree in
    let p = err_from_is_err_and exits.result exits.ensures.1 in
    let earlier = c.in_ok-earlier in
    let later = c.in_ok-later in
    rw (p.1, p.2)
    (λ image of.
    part_refused c.args.path.now image c.in_err-tree.field-0.0 (record {
      n = c.args.number;
      earlier = earlier.earlier.tree;
      later = later.later.tree;
      both = record {
        earlier_shown = earlier.ensures.shows image of;
        later_shown = later.ensures.shows image of;
      };
      refuses =
          c.in_err-tree.ensures.refused (later.ensures.ordered image of) (earlier.ensures.ordered image of);
    }))

pub returns-clause-comes : goal.returns-clause-comes
returns-clause-comes g c image of =
    let earlier = c.in_ok-earlier in
    let later = c.in_ok-later in
    record {
      earlier = earlier.earlier.tree;
      later = later.later.tree;
      both = record {
        earlier_shown = earlier.ensures.shows image of;
        later_shown = later.ensures.shows image of;
      };
      reverted =
          c.in_ok-tree.ensures.reverted (later.ensures.ordered image of) (earlier.ensures.ordered image of);
    }
