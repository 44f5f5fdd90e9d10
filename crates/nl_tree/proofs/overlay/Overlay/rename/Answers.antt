use Rattle.std.proofs.Common.{◌≡◌, ap, ◌∙◌}
use Rattle.std.specs.Prelude.{is_some}
use Rattle.nl_dirs.specs.declared.record.Record.{Record}
use Rattle.nl_tree.specs.Held.{Holding}
use Rattle.nl_tree.specs.Overlays.{holding_now}
use Rattle.nl_tree.specs.Steps.{with_link_moved}
use Rattle.nl_tree.proofs.Counting.{moved_kept}
use Rattle.nl_tree.proofs.OneHolding.{counts_still}
use Rattle.std.proofs.lemmas.Result.{IfOk-from_err}
use Rattle.nl_types.specs.declared.error.VolError.TheVariants.{Memory}
use Rattle.nl_tree.specs.Facts.Refusals.{holds_on_err, passed_on}
use Rattle.nl_tree.proofs.overlay.Overlay.rename.Goals as goal

pub move_link-requires : goal.move_link-requires
move_link-requires g c =
    let asked = c.requires in
    let names = c.in_ok-reserve_move.ensures.names asked.0 asked.1 asked.2 asked.3 asked.4 in
    (asked.1, asked.2, names)

pub returns-clause-moved : goal.returns-clause-moved
returns-clause-moved g c = λ b all others holds are i.
    let names = c.in_ok-reserve_move.ensures.names b all others holds are in
    let r : Record = record {
      name = c.args.found.now.target.name.now;
      inode = c.args.found.now.link.0;
      kind = c.args.found.now.link.1;
    } in
    let still : holding_now c.reserve_move.new.self b ≡ holding_now c.args.self.now b =
    λ k. λ j. c.in_ok-reserve_move.ensures.still b j k in
    c.move_link.ensures.shown all others names b i
    ∙ ap (λ (held : Holding).
    with_link_moved c.args.found.now.directory all c.args.found.now.name.now
    c.args.found.now.target.directory others r held i)
    still

pub returns-clause-counts : goal.returns-clause-counts
returns-clause-counts g c = λ b all others holds are counts.
    let old = c.args.self.now in
    let new = c.move_link.new.self in
    let r : Record = record {
      name = c.args.found.now.target.name.now;
      inode = c.args.found.now.link.0;
      kind = c.args.found.now.link.1;
    } in
    let done = c.move_link.ensures.rest in
    let begun = c.in_ok-reserve_move.ensures.rest in
    counts_still old new b
    (record {
      freed = done.freed ∙ begun.freed;
      mark = done.mark ∙ begun.mark;
      names = done.names ∙ begun.names;
    })
    (λ m. ap is_some (returns-clause-moved g c b all others holds are m)
    ∙ moved_kept (holding_now old b) c.args.found.now.directory c.args.found.now.target.directory all others
    c.args.found.now.name.now r are.0.0 are.1.0 m)
    counts

pub returns-in_err-reserve_move-clause-orderly : goal.returns-in_err-reserve_move-clause-orderly
returns-in_err-reserve_move-clause-orderly g c = λ is from to.
    c.in_err-reserve_move.ensures.orderly is from to

pub returns-in_err-reserve_move-clause-moved : goal.returns-in_err-reserve_move-clause-moved
returns-in_err-reserve_move-clause-moved g c = λ _ _ _ _ _.
    IfOk-from_err c.from_residual.result _ c.from_residual.ensures.0

pub returns-in_err-reserve_move-clause-counts : goal.returns-in_err-reserve_move-clause-counts
returns-in_err-reserve_move-clause-counts g c = λ _ _ _ _ _ _.
    IfOk-from_err c.from_residual.result _ c.from_residual.ensures.0

pub returns-in_err-reserve_move-clause-rest : goal.returns-in_err-reserve_move-clause-rest
returns-in_err-reserve_move-clause-rest g c = record {
  freed = c.in_err-reserve_move.ensures.rest.freed;
  mark = c.in_err-reserve_move.ensures.rest.mark;
  names = c.in_err-reserve_move.ensures.rest.names;
}

pub returns-in_err-reserve_move-clause-same : goal.returns-in_err-reserve_move-clause-same
returns-in_err-reserve_move-clause-same g c =
    holds_on_err c.from_residual.result _ (c.in_err-reserve_move.ensures.same)

pub returns-in_err-reserve_move-clause-refused : goal.returns-in_err-reserve_move-clause-refused
returns-in_err-reserve_move-clause-refused g c =
    passed_on c.from_residual.result c.in_err-reserve_move.field-0.0 Memory c.from_residual.ensures.1
    c.in_err-reserve_move.ensures.refused

pub reserve_move-requires : goal.reserve_move-requires
reserve_move-requires g c = c.requires

pub returns-clause-orderly : goal.returns-clause-orderly
returns-clause-orderly g c = λ is from to.
    c.move_link.ensures.orderly (c.in_ok-reserve_move.ensures.orderly is from to)

pub returns-clause-rest : goal.returns-clause-rest
returns-clause-rest g c = record {
  freed = c.move_link.ensures.rest.freed ∙ c.in_ok-reserve_move.ensures.rest.freed;
  mark = c.move_link.ensures.rest.mark ∙ c.in_ok-reserve_move.ensures.rest.mark;
  names = c.move_link.ensures.rest.names ∙ c.in_ok-reserve_move.ensures.rest.names;
}

pub returns-clause-same : goal.returns-clause-same
returns-clause-same g c = tt

pub returns-clause-refused : goal.returns-clause-refused
returns-clause-refused g c = tt
