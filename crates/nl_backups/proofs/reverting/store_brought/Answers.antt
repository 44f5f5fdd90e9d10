use Rattle.std.proofs.Common.{sym, subst}
use Rattle.std.proofs.lemmas.Result.{err_from_is_err_and}
use Rattle.nl_types.specs.Plain.Trees.{Tree}
use Rattle.nl_shown.specs.Kept.{KeepsFolder}
use Rattle.nl_backups.specs.Storing.{IsStored}
use Rattle.nl_backups.proofs.PassedOn.{keep_refused}
use Rattle.nl_backups.proofs.reverting.store_brought.Goals as goal

pub returns-in_err-done-clause-refused : goal.returns-in_err-done-clause-refused
returns-in_err-done-clause-refused g c =
    let exits = c.from_residual-in_err-done in
    let p = err_from_is_err_and exits.result exits.ensures.1 in
    rw (p.1, p.2)
    (λ opened.
    keep_refused c.args.terms.moment c.args.brought.tree c.args.image.now c.in_err-done.field-0.0 (record {
      pins = c.in_ok-pins.pins;
      has_pins = c.in_ok-pins.ensures.pins c.args.image.now opened;
      tree = c.in_ok-tree.tree;
      keeps = c.in_ok-tree.ensures.keeps;
      refuses = c.in_err-done.ensures.refused opened;
    }))

pub returns-clause-stored : goal.returns-clause-stored
returns-clause-stored g c opened =
    let is = sym c.in_ok-done.ensures.tree in
    record {
      pins = c.in_ok-pins.pins;
      has_pins = c.in_ok-pins.ensures.pins c.args.image.now opened;
      keeps =
          subst (λ (t : Tree). KeepsFolder c.in_ok-pins.pins c.args.brought.tree t) is
          c.in_ok-tree.ensures.keeps;
      stored =
          subst (λ (t : Tree). IsStored c.args.terms.moment t c.in_ok-done.done.0.stored c.args.image.now
          c.in_ok-done.done.1.items) is (c.in_ok-done.ensures.stored opened);
    }
