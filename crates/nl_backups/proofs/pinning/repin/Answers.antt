use Rattle.std.proofs.Common.{ℕ, List, Option, Some, refl, sym, subst}
use Rattle.std.proofs.lemmas.Result.{err_from_is_err_and}
use Rattle.nl_types.specs.declared.row.Row.{Row}
use Rattle.nl_types.specs.Plain.Trees.{Tree}
use Rattle.nl_backups.specs.Pinning.{IsWanted}
use Rattle.nl_backups.specs.Readings.{HasRows}
use Rattle.nl_backups.specs.Storing.{IsStored}
use Rattle.nl_backups.proofs.PassedOn.{asked_to_pin, change_to_pin, pin_refused}
use Rattle.nl_backups.proofs.pinning.repin.Goals as goal

pub returns-in_err-wanted-clause-refused : goal.returns-in_err-wanted-clause-refused
returns-in_err-wanted-clause-refused g c =
    let exits = c.from_residual-in_err-wanted in
    let p = err_from_is_err_and exits.result exits.ensures.1 in
    rw (p.1, p.2)
    (change_to_pin c.args.terms.moment c.args.image.now c.in_err-wanted.field-0.0
    (c.in_err-wanted.ensures.refused c.args.image.now c.in_ok-volume.ensures.opened))

pub returns-in_err-volume-clause-refused : goal.returns-in_err-volume-clause-refused
returns-in_err-volume-clause-refused g c =
    let p = err_from_is_err_and c.from_residual.result c.from_residual.ensures.1 in
    rw (p.1, p.2)
    (asked_to_pin c.args.terms.moment c.args.image.now c.in_err-volume.field-0.0 c.in_err-volume.ensures.refused)

pub returns-in_err-backed-in-Some-clause-refused : goal.returns-in_err-backed-in-Some-clause-refused
returns-in_err-backed-in-Some-clause-refused g c =
    let exits = c.from_residual-in_err-backed-in-Some in
    let p = err_from_is_err_and exits.result exits.ensures.1 in
    let image = c.args.image.now in
    let opened = c.in_ok-volume.ensures.opened in
    let has_rows =
    subst (λ (r : List Row). HasRows r image) (sym c.as_slice.ensures) c.in_ok-volume.ensures.rows in
    let wanted = c.in_ok-wanted.ensures.wanted image opened has_rows in
    rw (p.1, p.2)
    (pin_refused c.args.terms.moment image c.in_err-backed-in-Some.field-0.0 (record {
      wish = c.in_ok-volume.wish;
      tree = c.in-Some.tree;
      wanted =
          subst (λ (t : Option Tree). IsWanted c.args.terms.moment c.in_ok-volume.wish t image) c.in-Some.is wanted;
      refuses = c.in_err-backed-in-Some.ensures.refused opened;
    }))

pub returns-in-None-clause-changes : goal.returns-in-None-clause-changes
returns-in-None-clause-changes g c =
    let image = c.args.image.now in
    let has_rows =
    subst (λ (r : List Row). HasRows r image) (sym c.as_slice.ensures) c.in_ok-volume.ensures.rows in
    let wanted = c.in_ok-wanted.ensures.wanted image c.in_ok-volume.ensures.opened has_rows in
    (subst (λ (t : Option Tree). IsWanted c.args.terms.moment c.in_ok-volume.wish t image) c.in-None.is wanted, refl)

pub returns-in_ok-backed-in-Some-clause-changes : goal.returns-in_ok-backed-in-Some-clause-changes
returns-in_ok-backed-in-Some-clause-changes g c =
    let image = c.args.image.now in
    let moment = c.args.terms.moment in
    let wish = c.in_ok-volume.wish in
    let opened = c.in_ok-volume.ensures.opened in
    let has_rows =
    subst (λ (r : List Row). HasRows r image) (sym c.as_slice.ensures) c.in_ok-volume.ensures.rows in
    let wanted = c.in_ok-wanted.ensures.wanted image opened has_rows in
    let told = c.in_ok-backed-in-Some.backed in
    let is = sym c.in_ok-backed-in-Some.ensures.tree in
    let tree_wanted : IsWanted moment wish (Some c.in-Some.tree) image =
    subst (λ (t : Option Tree). IsWanted moment wish t image) c.in-Some.is wanted in (
      subst (λ (t : Tree). IsWanted moment wish (Some t) image) is tree_wanted,
      subst (λ (x : List ℕ). IsStored moment told.tree told.stored image x) (sym c.from_vec.ensures)
          (subst (λ (t : Tree). IsStored moment t told.stored image c.in_ok-backed-in-Some.next.items) is
          (c.in_ok-backed-in-Some.ensures.stored opened)),
    )
