use Rattle.std.proofs.Common.{◌+◌, ◌-◌, ◌≤◌, length, ◌∙◌, arith}
use Rattle.std.specs.Prelude.{◌%◌}
use Rattle.nl_tree.specs.Overlays.{new_page_at}
use Rattle.nl_tree.specs.Facts.CopiedBytes.{more_copied_over, put_behind, put_fits}
use Rattle.nl_tree.proofs.copying.copy_new_pages.Goals as goal

pub loop-done-preserved : goal.loop-done-preserved
loop-done-preserved c =
    let into = c.loop-done.into in
    let part = c.copy_page.new.into in
    let done = c.loop-done.done in
    let count = c.min-count.result in
    let room : done + count ≤ length into =
    omega (arith, c.min-count.ensures, c.loop-done.invariant.within) in
    let short : count ≤ 1024 - (c.args.offset + done) % 1024 = omega (arith, c.min-count.ensures) in
    record {
      within = put_fits into part done count room c.copy_page.auto.into;
      copied =
          more_copied_over into part done count room c.copy_page.auto.into
          (new_page_at c.args.file.now) _ c.args.offset short c.new_page-page.ensures
          c.args.into.now c.copy_page.ensures c.loop-done.invariant.copied c.loop-done.invariant.behind;
      behind = λ k high.
          put_behind into part done count room c.copy_page.auto.into k high
          ∙ c.loop-done.invariant.behind k (omega (arith, high));
    }
