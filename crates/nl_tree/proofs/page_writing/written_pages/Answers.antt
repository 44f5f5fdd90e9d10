use Rattle.std.proofs.Common.{ℕ, ◌*◌, ◌/◌, List, [], ◌∷◌, ap, arith, length, length-append, subst, sym}
use Rattle.nl_tree.specs.Bytes.{ArePagesWritten, IsPageWritten}
use Rattle.nl_tree.specs.Held.{held_block}
use Rattle.nl_tree.proofs.WrittenBlocks.{pages_written-more}
use Rattle.nl_tree.proofs.page_writing.written_pages.Goals as goal

pub loop-index-preserved : goal.loop-index-preserved
loop-index-preserved g c =
    let made = c.in_ok-page_with.field-0 in
    record {
      count =
          omega (
            arith,
            c.loop-index.invariant.count,
            ap (length {A = List ℕ}) c.in_ok-push.ensures.items,
            length-append c.loop-index.pages.items (made ∷ []),
          );
      pages = λ held h.
          subst (λ (pages : List (List ℕ)).
          ArePagesWritten (held_block (held c.args.file))
          (c.args.offset / 1024) c.args.offset c.args.bytes.now pages)
          (sym c.in_ok-push.ensures.items)
          (pages_written-more (held_block (held c.args.file))
          (c.args.offset / 1024) c.args.offset c.args.bytes.now c.loop-index.pages.items made
          (c.loop-index.invariant.pages held h)
          (subst (λ (n : ℕ).
          IsPageWritten (held_block (held c.args.file) n) (1024 * n) c.args.offset c.args.bytes.now made)
          c.loop-index.invariant.count
          (c.in_ok-page_with.ensures held h)));
    }
