use Rattle.std.proofs.Common.{◌≡◌, Some, ap, ◌∙◌}
use Rattle.nl_tree.specs.Held.{Held, Holding, Stored}
use Rattle.nl_tree.specs.Overlays.{holding_now}
use Rattle.nl_tree.specs.Private.Pages.{blocks_below, blocks_for, put_from}
use Rattle.nl_tree.specs.Steps.{with_held}
use Rattle.nl_tree.proofs.Counting.{held_kept}
use Rattle.nl_tree.proofs.FilePages.{held_twice}
use Rattle.nl_tree.proofs.OneHolding.{counts_still}
use Rattle.std.proofs.lemmas.Result.{IfOk-from_err}
use Rattle.nl_types.specs.declared.error.VolError.TheVariants.{Memory}
use Rattle.nl_tree.specs.Facts.Refusals.{holds_on_err, passed_on}
use Rattle.nl_tree.proofs.overlay.Overlay.truncate_blocks.Goals as goal

pub cut_blocks-requires : goal.cut_blocks-requires
cut_blocks-requires g c =
    let asked = c.requires.file in (
      asked.0,
      c.args.size,
      put_from c.args.first c.args.pages.items asked.2,
      c.in_ok-write_blocks.ensures.open asked.0 asked.1 asked.2 asked.3 asked.4,
    )

pub returns-clause-truncated : goal.returns-clause-truncated
returns-clause-truncated g c = λ b was blocks holds is i.
    let old = holding_now c.args.self.now b in
    let pages = put_from c.args.first c.args.pages.items blocks in
    let held = Some (Stored c.args.size pages) in
    let below = Some (Stored c.args.size (blocks_below (blocks_for c.args.size) pages)) in
    let wrote : holding_now c.write_blocks.new.self b ≡ with_held c.args.inode held old =
    λ k. λ j. c.in_ok-write_blocks.ensures.written b was blocks holds is j k in
    c.cut_blocks.ensures.shown b c.args.size pages (c.in_ok-write_blocks.ensures.open b was blocks holds is) i
    ∙ ap (λ (h : Holding). with_held c.args.inode below h i) wrote
    ∙ held_twice c.args.inode below held old i

pub returns-clause-counts : goal.returns-clause-counts
returns-clause-counts g c = λ b was blocks holds is counts.
    let old = holding_now c.args.self.now b in
    let done = c.cut_blocks.ensures.rest in
    let begun = c.in_ok-write_blocks.ensures.rest in
    let now : Held =
    Stored c.args.size
    (blocks_below (blocks_for c.args.size) (put_from c.args.first c.args.pages.items blocks)) in
    counts_still c.args.self.now c.cut_blocks.new.self b
    (record {
      freed = done.freed ∙ begun.freed;
      mark = done.mark ∙ begun.mark;
      names = done.names ∙ begun.names;
    })
    (held_kept old (holding_now c.cut_blocks.new.self b) c.args.inode (Stored was blocks) now is.0
    (returns-clause-truncated g c b was blocks holds is))
    counts

pub returns-in_err-write_blocks-clause-orderly : goal.returns-in_err-write_blocks-clause-orderly
returns-in_err-write_blocks-clause-orderly g c = λ is inode.
    c.in_err-write_blocks.ensures.orderly is inode

pub returns-in_err-write_blocks-clause-truncated : goal.returns-in_err-write_blocks-clause-truncated
returns-in_err-write_blocks-clause-truncated g c = λ _ _ _ _ _.
    IfOk-from_err c.from_residual.result _ c.from_residual.ensures.0

pub returns-in_err-write_blocks-clause-counts : goal.returns-in_err-write_blocks-clause-counts
returns-in_err-write_blocks-clause-counts g c = λ _ _ _ _ _ _.
    IfOk-from_err c.from_residual.result _ c.from_residual.ensures.0

pub returns-in_err-write_blocks-clause-rest : goal.returns-in_err-write_blocks-clause-rest
returns-in_err-write_blocks-clause-rest g c = record {
  freed = c.in_err-write_blocks.ensures.rest.freed;
  mark = c.in_err-write_blocks.ensures.rest.mark;
  names = c.in_err-write_blocks.ensures.rest.names;
}

pub returns-in_err-write_blocks-clause-same : goal.returns-in_err-write_blocks-clause-same
returns-in_err-write_blocks-clause-same g c =
    holds_on_err c.from_residual.result _ (c.in_err-write_blocks.ensures.same)

pub returns-in_err-write_blocks-clause-refused : goal.returns-in_err-write_blocks-clause-refused
returns-in_err-write_blocks-clause-refused g c =
    passed_on c.from_residual.result c.in_err-write_blocks.field-0.0 Memory c.from_residual.ensures.1
    c.in_err-write_blocks.ensures.refused

pub returns-clause-orderly : goal.returns-clause-orderly
returns-clause-orderly g c = λ is inode.
    c.cut_blocks.ensures.orderly (c.in_ok-write_blocks.ensures.orderly is inode)

pub returns-clause-rest : goal.returns-clause-rest
returns-clause-rest g c = record {
  freed = c.cut_blocks.ensures.rest.freed ∙ c.in_ok-write_blocks.ensures.rest.freed;
  mark = c.cut_blocks.ensures.rest.mark ∙ c.in_ok-write_blocks.ensures.rest.mark;
  names = c.cut_blocks.ensures.rest.names ∙ c.in_ok-write_blocks.ensures.rest.names;
}

pub returns-clause-same : goal.returns-clause-same
returns-clause-same g c = tt

pub returns-clause-refused : goal.returns-clause-refused
returns-clause-refused g c = tt
