use Rattle.std.proofs.Common.{◌≡◌, ◌+◌, ℕ, length, Some, ap, subst, ◌∙◌}
use Rattle.nl_tree.specs.Private.Files.{HasFileWith}
use Rattle.nl_tree.specs.Held.{Holding, Stored}
use Rattle.nl_tree.specs.Overlays.{holding_now}
use Rattle.nl_tree.specs.Private.Pages.{put_from}
use Rattle.nl_tree.specs.Steps.{with_held}
use Rattle.nl_tree.proofs.Counting.{held_kept}
use Rattle.nl_tree.proofs.OneHolding.{counts_still}
use Rattle.std.proofs.lemmas.Result.{IfOk-from_err}
use Rattle.nl_types.specs.declared.error.VolError.TheVariants.{Memory}
use Rattle.nl_tree.specs.Facts.Refusals.{holds_on_err, passed_on}
use Rattle.nl_tree.proofs.overlay.Overlay.write_blocks.Goals as goal

pub put_pages-requires-clause-places : goal.put_pages-requires-clause-places
put_pages-requires-clause-places g c =
    let asked = c.requires.file in
    let opened = c.in_ok-open_file.ensures.open asked.0 asked.1 asked.2 asked.3 asked.4 in (
      asked.0,
      asked.1,
      asked.2,
      subst (λ (end : ℕ).
          HasFileWith c.reserve_pages.new.self asked.0 c.args.inode asked.1 asked.2 c.args.first end)
          (ap (λ (n : ℕ). c.args.first + n) (c.len.ensures ∙ c.args.pages.ok.0))
          (c.in_ok-reserve_pages.ensures.place asked.0 asked.1 asked.2 opened),
    )

pub returns-clause-written : goal.returns-clause-written
returns-clause-written g c = λ b was blocks holds is i.
    let opened = c.in_ok-open_file.ensures.open b was blocks holds is in
    let placed : HasFileWith c.reserve_pages.new.self b c.args.inode was blocks c.args.first
    (c.args.first + length c.args.pages.items) =
    subst (λ (end : ℕ). HasFileWith c.reserve_pages.new.self b c.args.inode was blocks c.args.first end)
    (ap (λ (n : ℕ). c.args.first + n) (c.len.ensures ∙ c.args.pages.ok.0))
    (c.in_ok-reserve_pages.ensures.place b was blocks opened) in
    let still : holding_now c.reserve_pages.new.self b ≡ holding_now c.args.self.now b =
    λ k. λ j. (c.in_ok-reserve_pages.ensures.still b j ∙ c.in_ok-open_file.ensures.still b j) k in
    c.put_pages.ensures.shown b was blocks placed i
    ∙ ap (λ (held : Holding).
    with_held c.args.inode
    (Some (Stored c.args.size (put_from c.args.first c.args.pages.items blocks))) held i)
    still

pub returns-clause-counts : goal.returns-clause-counts
returns-clause-counts g c = λ b was blocks holds is counts.
    let done = c.put_pages.ensures.rest in
    let mid = c.in_ok-reserve_pages.ensures.rest in
    let begun = c.in_ok-open_file.ensures.rest in
    counts_still c.args.self.now c.put_pages.new.self b
    (record {
      freed = done.freed ∙ mid.freed ∙ begun.freed;
      mark = done.mark ∙ mid.mark ∙ begun.mark;
      names = done.names ∙ mid.names ∙ begun.names;
    })
    (held_kept (holding_now c.args.self.now b) (holding_now c.put_pages.new.self b) c.args.inode
    (Stored was blocks)
    (Stored c.args.size (put_from c.args.first c.args.pages.items blocks)) is.0
    (returns-clause-written g c b was blocks holds is))
    counts

pub returns-clause-open : goal.returns-clause-open
returns-clause-open g c = λ b was blocks holds is.
    let opened = c.in_ok-open_file.ensures.open b was blocks holds is in
    let placed : HasFileWith c.reserve_pages.new.self b c.args.inode was blocks c.args.first
    (c.args.first + length c.args.pages.items) =
    subst (λ (end : ℕ). HasFileWith c.reserve_pages.new.self b c.args.inode was blocks c.args.first end)
    (ap (λ (n : ℕ). c.args.first + n) (c.len.ensures ∙ c.args.pages.ok.0))
    (c.in_ok-reserve_pages.ensures.place b was blocks opened) in
    c.put_pages.ensures.file b was blocks placed

pub returns-in_err-open_file-clause-orderly : goal.returns-in_err-open_file-clause-orderly
returns-in_err-open_file-clause-orderly g c = λ is inode.
    c.in_err-open_file.ensures.orderly is inode

pub returns-in_err-open_file-clause-written : goal.returns-in_err-open_file-clause-written
returns-in_err-open_file-clause-written g c = λ _ _ _ _ _.
    IfOk-from_err c.from_residual.result _ c.from_residual.ensures.0

pub returns-in_err-open_file-clause-open : goal.returns-in_err-open_file-clause-open
returns-in_err-open_file-clause-open g c = λ _ _ _ _ _.
    IfOk-from_err c.from_residual.result _ c.from_residual.ensures.0

pub returns-in_err-open_file-clause-counts : goal.returns-in_err-open_file-clause-counts
returns-in_err-open_file-clause-counts g c = λ _ _ _ _ _ _.
    IfOk-from_err c.from_residual.result _ c.from_residual.ensures.0

pub returns-in_err-open_file-clause-rest : goal.returns-in_err-open_file-clause-rest
returns-in_err-open_file-clause-rest g c = record {
  freed = c.in_err-open_file.ensures.rest.freed;
  mark = c.in_err-open_file.ensures.rest.mark;
  names = c.in_err-open_file.ensures.rest.names;
}

pub returns-in_err-open_file-clause-same : goal.returns-in_err-open_file-clause-same
returns-in_err-open_file-clause-same g c =
    holds_on_err c.from_residual.result _ (c.in_err-open_file.ensures.same)

pub returns-in_err-open_file-clause-refused : goal.returns-in_err-open_file-clause-refused
returns-in_err-open_file-clause-refused g c =
    passed_on c.from_residual.result c.in_err-open_file.field-0.0 Memory c.from_residual.ensures.1
    c.in_err-open_file.ensures.refused

pub returns-in_err-reserve_pages-clause-orderly : goal.returns-in_err-reserve_pages-clause-orderly
returns-in_err-reserve_pages-clause-orderly g c = λ is inode.
    c.in_err-reserve_pages.ensures.orderly (c.in_ok-open_file.ensures.orderly is inode)

pub returns-in_err-reserve_pages-clause-written : goal.returns-in_err-reserve_pages-clause-written
returns-in_err-reserve_pages-clause-written g c = λ _ _ _ _ _.
    IfOk-from_err c.from_residual-in_err-reserve_pages.result _ c.from_residual-in_err-reserve_pages.ensures.0

pub returns-in_err-reserve_pages-clause-open : goal.returns-in_err-reserve_pages-clause-open
returns-in_err-reserve_pages-clause-open g c = λ _ _ _ _ _.
    IfOk-from_err c.from_residual-in_err-reserve_pages.result _ c.from_residual-in_err-reserve_pages.ensures.0

pub returns-in_err-reserve_pages-clause-counts : goal.returns-in_err-reserve_pages-clause-counts
returns-in_err-reserve_pages-clause-counts g c = λ _ _ _ _ _ _.
    IfOk-from_err c.from_residual-in_err-reserve_pages.result _ c.from_residual-in_err-reserve_pages.ensures.0

pub returns-in_err-reserve_pages-clause-rest : goal.returns-in_err-reserve_pages-clause-rest
returns-in_err-reserve_pages-clause-rest g c = record {
  freed = c.in_err-reserve_pages.ensures.rest.freed ∙ c.in_ok-open_file.ensures.rest.freed;
  mark = c.in_err-reserve_pages.ensures.rest.mark ∙ c.in_ok-open_file.ensures.rest.mark;
  names = c.in_err-reserve_pages.ensures.rest.names ∙ c.in_ok-open_file.ensures.rest.names;
}

pub returns-in_err-reserve_pages-clause-same : goal.returns-in_err-reserve_pages-clause-same
returns-in_err-reserve_pages-clause-same g c =
    holds_on_err c.from_residual-in_err-reserve_pages.result _
    (c.in_err-reserve_pages.ensures.same ∙ c.in_ok-open_file.ensures.same)

pub returns-in_err-reserve_pages-clause-refused : goal.returns-in_err-reserve_pages-clause-refused
returns-in_err-reserve_pages-clause-refused g c =
    passed_on c.from_residual-in_err-reserve_pages.result c.in_err-reserve_pages.field-0.0 Memory
    c.from_residual-in_err-reserve_pages.ensures.1 c.in_err-reserve_pages.ensures.refused

pub returns-clause-orderly : goal.returns-clause-orderly
returns-clause-orderly g c = λ is inode.
    c.put_pages.ensures.orderly
    (c.in_ok-reserve_pages.ensures.orderly (c.in_ok-open_file.ensures.orderly is inode))

pub returns-clause-rest : goal.returns-clause-rest
returns-clause-rest g c = record {
  freed =
      c.put_pages.ensures.rest.freed ∙ c.in_ok-reserve_pages.ensures.rest.freed
      ∙ c.in_ok-open_file.ensures.rest.freed;
  mark =
      c.put_pages.ensures.rest.mark ∙ c.in_ok-reserve_pages.ensures.rest.mark
      ∙ c.in_ok-open_file.ensures.rest.mark;
  names =
      c.put_pages.ensures.rest.names ∙ c.in_ok-reserve_pages.ensures.rest.names
      ∙ c.in_ok-open_file.ensures.rest.names;
}

pub returns-clause-same : goal.returns-clause-same
returns-clause-same g c = tt

pub returns-clause-refused : goal.returns-clause-refused
returns-clause-refused g c = tt
