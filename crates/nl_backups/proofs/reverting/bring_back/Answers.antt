use Rattle.std.proofs.Common.{inl, inr}
use Rattle.std.proofs.lemmas.Result.{err_from_is_err_and}
use Rattle.nl_backups.proofs.reverting.bring_back.Goals as goal

pub returns-in_err-brought-clause-refused : goal.returns-in_err-brought-clause-refused
returns-in_err-brought-clause-refused g c =
    let exits = c.from_residual-in_err-brought in
    let p = err_from_is_err_and exits.result exits.ensures.1 in
    rw (p.1, p.2) (inl (c.in_err-brought.ensures.refused c.args.image.now c.in_ok-volume.ensures.opened))

pub returns-in_err-backed-clause-refused : goal.returns-in_err-backed-clause-refused
returns-in_err-backed-clause-refused g c =
    let exits = c.from_residual-in_err-backed in
    let p = err_from_is_err_and exits.result exits.ensures.1 in
    let opened = c.in_ok-volume.ensures.opened in
    rw (p.1, p.2) (inr (record {
      n = c.in_ok-volume.number;
      wanted = c.in_ok-brought.brought.tree;
      comes = c.in_ok-brought.ensures.comes c.args.image.now opened;
      refuses = c.in_err-backed.ensures.refused opened;
    }))

pub returns-clause-reverts : goal.returns-clause-reverts
returns-clause-reverts g c =
    let opened = c.in_ok-volume.ensures.opened in
    record {
      wanted = c.in_ok-brought.brought.tree;
      comes = c.in_ok-brought.ensures.comes c.args.image.now opened;
      stores = c.in_ok-backed.ensures.stored opened;
    }
