use Rattle.std.proofs.Common.{◌≡◌, ◌∙◌, Bool, true, false, refl, sym, ap, length}
use Rattle.nl_check.proofs.InodeBlocks.{block-spelled, block-used, block-yes}
use Rattle.nl_check.specs.Facts.Below.{both}
use Rattle.nl_check.proofs.shape.is_inode_block.Goals as goal

pub returns-then-are_entries : goal.returns-then-are_entries
returns-then-are_entries c =
    let len : length c.args.page.now ≡ 1024 = ap length (sym c.bytes-block.ensures) ∙ c.if-prove.false in (
      λ t.
          let some = c.has_inode.ensures.yes t in
          block-yes c.args.page.now len (c.are_entries.ensures.0 c.if-are_entries.true) some.0 some.1 some.2,
      λ is. by c.has_inode.result (λ e. absurd (block-used c.args.page.now is (c.has_inode.ensures.no e))),
    )
  where
    by : (b : Bool) → (b ≡ false → b ≡ true) → b ≡ true
    by true f = refl
    by false f = f refl

pub returns-else-are_entries : goal.returns-else-are_entries
returns-else-are_entries c = (
  λ t. absurd (both c.are_entries.result t c.if-are_entries.false),
  λ is. c.are_entries.ensures.1 (block-spelled c.args.page.now is),
)
