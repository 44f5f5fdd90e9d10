use Rattle.std.proofs.Common.{[], ◌∷◌, Option, List, ℕ, length, ap, arith}
use Rattle.std.proofs.lemmas.List.{length-append}
use Rattle.nl_tree.specs.Held.{held_block}
use Rattle.nl_mounts.proofs.TakenFiles.{one_page_more}
use Rattle.nl_mounts.proofs.taken.share_blocks.Goals as goal

pub loop-index-preserved : goal.loop-index-preserved
loop-index-preserved g c =
    let was = c.loop-index.invariant in let begun = was.begun in let size = was.size in
    let items = c.loop-index.pages.items in let page = c.in_ok-page.page in
    let added = c.push.ensures.items in
    record {
      begun = omega (arith, begun);
      size =
          omega (
            arith,
            begun,
            size,
            ap (λ (l : List (Option (List ℕ))). length l) added,
            length-append items (page ∷ []),
          );
      pages = λ held holds.
          one_page_more (held_block (held c.args.inode)) c.args.first c.loop-index.index items
          c.push.new.self.items page begun added (was.pages held holds) (c.in_ok-page.ensures held holds);
    }
