use Rattle.std.proofs.Common.{ℕ, ◌+◌, ◌-◌, ◌/◌, ◌≤◌, length, ap, ◌∙◌, arith}
use Rattle.std.specs.Prelude.{◌%◌}
use Rattle.nl_types.specs.Blocks.Roots.{page_at}
use Rattle.nl_layout.specs.Root.{root_of}
use Rattle.nl_tree.specs.Facts.CopiedBytes.{more_copied, put_fits}
use Rattle.nl_files.proofs.copying.copy_bytes.Goals as goal

pub loop-done-preserved : goal.loop-done-preserved
loop-done-preserved g c =
    let into = c.loop-done.into in
    let part = c.copy_block.new.into in
    let done = c.loop-done.done in
    let count = c.min-count.result in
    let was = c.loop-done.invariant in
    let room : done + count ≤ length into = omega (arith, c.min-count.ensures, was.within) in
    let short : count ≤ 1024 - (c.args.offset + done) % 1024 = omega (arith, c.min-count.ensures) in
    let block : ℕ = (c.args.offset + done) / 1024 in
    record {
      store = c.page_at-page.ensures.store ∙ was.store;
      root = c.page_at-page.ensures.root ∙ was.root;
      within = put_fits into part done count room c.copy_block.auto.into;
      copied =
          more_copied into part done count room c.copy_block.auto.into
          (page_at (g.V.VRead.pages c.args.store.now) (root_of c.args.root)) _ c.args.offset short
          (c.page_at-page.ensures.page
          ∙ ap (λ s. page_at (g.V.VRead.pages s) (root_of c.loop-done.cursor.root) block) was.store
          ∙ ap (λ r. page_at (g.V.VRead.pages c.args.store.now) (root_of r) block) was.root)
          c.copy_block.ensures was.copied;
    }
