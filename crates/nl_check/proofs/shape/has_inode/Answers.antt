use Rattle.std.proofs.Common.{◌≡◌, ◌∙◌, ℕ, None, sym}
use Rattle.nl_ifile.specs.Inodes.{inode_in}
use Rattle.nl_check.specs.Facts.Below.{below-more, none-by, some-by}
use Rattle.nl_check.proofs.shape.has_inode.Goals as goal

pub returns-then-is_some-clause-yes : goal.returns-then-is_some-clause-yes
returns-then-is_some-clause-yes c = λ t.
    let e = some-by c.inode_at_place.result (sym c.is_some.ensures ∙ c.if-is_some.true) in
    (c.loop-place.place, c.loop-place-test.true, (e.0, sym c.inode_at_place.ensures ∙ e.1))

pub loop-place-preserved : goal.loop-place-preserved
loop-place-preserved c =
    below-more (λ (p : ℕ). inode_in c.args.page.now p ≡ None) c.loop-place.place c.loop-place.invariant
    (sym c.inode_at_place.ensures
    ∙ none-by c.inode_at_place.result (sym c.is_some.ensures ∙ c.if-is_some.false))
