use Rattle.std.proofs.Common.{ℕ, List, refl, sym, subst}
use Rattle.std.specs.Prelude.{unwrap_or}
use Rattle.std.proofs.lemmas.Result.{err_from_is_err_and}
use Rattle.nl_types.specs.declared.row.Row.{Row}
use Rattle.nl_pins.specs.declared.rules.Periods.{Periods}
use Rattle.nl_backups.specs.Effects.{Has}
use Rattle.nl_backups.specs.Pruning.{AreExpired, removal}
use Rattle.nl_backups.specs.Readings.{HasRows}
use Rattle.nl_backups.proofs.PassedOn.{asked_to_prune, pins_to_prune}
use Rattle.nl_backups.proofs.pruning.prune_image.Goals as goal

pub returns-in_err-numbers-clause-refused : goal.returns-in_err-numbers-clause-refused
returns-in_err-numbers-clause-refused g c =
    let exits = c.from_residual-in_err-numbers in
    let p = err_from_is_err_and exits.result exits.ensures.1 in
    rw (p.1, p.2)
    (pins_to_prune c.args.image.now c.in_err-numbers.field-0.0
    (c.in_err-numbers.ensures.refused c.args.image.now c.in_ok-volume.ensures.opened))

pub returns-in_err-volume-clause-refused : goal.returns-in_err-volume-clause-refused
returns-in_err-volume-clause-refused g c =
    let p = err_from_is_err_and c.from_residual.result c.from_residual.ensures.1 in
    rw (p.1, p.2) (asked_to_prune c.args.image.now c.in_err-volume.field-0.0 c.in_err-volume.ensures.refused)

pub returns-clause-prunes : goal.returns-clause-prunes
returns-clause-prunes g c =
    let image = c.args.image.now in
    let opened = c.in_ok-volume.ensures.opened in
    let has_rows =
    subst (λ (r : List Row). HasRows r image) (sym c.as_slice.ensures) c.in_ok-volume.ensures.rows in
    record {
      has_rows = c.in_ok-volume.ensures.rows;
      gone =
          subst (λ (p : List Periods). AreExpired c.args.rules.now p c.in_ok-numbers.numbers image)
          c.as_slice-2.ensures.value (c.in_ok-numbers.ensures.expired image opened has_rows);
      has =
          subst (λ (n : List ℕ). Has (removal c.args.moment n) image (unwrap_or c.in_ok-next.next image))
          c.as_slice-3.ensures (c.in_ok-next.ensures.has image opened);
      next = refl;
    }
