use Rattle.std.proofs.Common.{◌≡◌, ◌+◌, ◌*◌, ℕ, Ok, ap, arith, refl, subst, sym, ◌∙◌}
use Rattle.nl_types.specs.Blocks.Roots.{Pages}
use Rattle.nl_check.specs.Private.Walks.{AreKnown}
use Rattle.nl_check.specs.Facts.Below.{both, found-at, none-from}
use Rattle.nl_check.proofs.KnownInodes.{inode-at-place, page-is-block}
use Rattle.nl_check.proofs.shape.walk_block.Goals as goal

pub returns-then-not-is_inode_block-clause-no : goal.returns-then-not-is_inode_block-clause-no
returns-then-not-is_inode_block-clause-no g c = λ _ root at k s.
    both c.is_inode_block.result
    (c.is_inode_block.ensures.1
    (page-is-block (g.V.VRead.pages c.args.store.now) root c.args.index c.args.page.now at s))
    c.if-not-is_inode_block.true

pub returns-clause-block : goal.returns-clause-block
returns-clause-block g c = c.is_inode_block.ensures.0 c.if-not-is_inode_block.false

pub loop-place-init : goal.loop-place-init
loop-place-init g c = record {
  count = refl;
  within = c.requires.within;
  known = λ root at k.
      let e : 8 * c.args.index ≡ 8 * c.args.index + 0 = omega arith in
      subst (λ (n : ℕ).
      AreKnown (g.V.VRead.pages c.args.store.now) root n c.args.found.now.met c.args.found.now.kinds c.args.sound)
      e k;
}

pub returns-in_default-clause-no : goal.returns-in_default-clause-no
returns-in_default-clause-no g c = λ _ root at k s.
    let pages : Pages = g.V.VRead.pages c.args.store.now in
    c.in_ok-now.ensures.no (ap Ok (none-from c.in_ok-now.field-0 c.in_default.not-Some)) root
    (inode-at-place pages root c.args.index c.loop-place.place
    c.new-number.result c.args.page.now c.inode_at_place-inode.result c.new-number.ensures
    c.loop-place-test.true c.inode_at_place-inode.ensures at)
    (subst (λ (n : ℕ). AreKnown pages root n c.loop-place.found.met c.loop-place.found.kinds c.loop-place.are_sound)
    (sym c.new-number.ensures) (c.loop-place.invariant.known root at k)) s

pub loop-place-preserved : goal.loop-place-preserved
loop-place-preserved g c =
    let pages : Pages = g.V.VRead.pages c.args.store.now in
    let known = found-at _ c.in_ok-now.field-0 c.in-Some.now c.in_ok-now.ensures.yes c.in-Some.is in
    record {
      count = c.walk_inode.ensures.count ∙ c.loop-place.invariant.count;
      within = λ v s.
          let low = c.loop-place.invariant.within v s in
          let same = c.walk_inode.ensures.count in
          omega (arith, low, same);
      known = λ root at k.
          let e : c.new-number.result + 1 ≡ 8 * c.args.index + (c.loop-place.place + 1) =
          omega (arith, c.new-number.ensures) in
          subst (λ (n : ℕ). AreKnown pages root n c.walk_inode.new.found.met c.walk_inode.new.found.kinds c.in-Some.now) e
          (known root
          (inode-at-place pages root c.args.index c.loop-place.place
          c.new-number.result c.args.page.now c.inode_at_place-inode.result c.new-number.ensures
          c.loop-place-test.true c.inode_at_place-inode.ensures at)
          (subst (λ (n : ℕ). AreKnown pages root n c.loop-place.found.met c.loop-place.found.kinds
          c.loop-place.are_sound)
          (sym c.new-number.ensures) (c.loop-place.invariant.known root at k)));
    }

pub returns-clause-yes : goal.returns-clause-yes
returns-clause-yes g c = λ root at k.
    let e : 8 * c.args.index + c.loop-place.place ≡ 8 * (c.args.index + 1) =
    omega (arith, c.loop-place-test.false, c.loop-place.auto.place-end) in
    subst (λ (n : ℕ).
    AreKnown
    (g.V.VRead.pages c.args.store.now) root n c.loop-place.found.met c.loop-place.found.kinds c.loop-place.are_sound)
    e
    (c.loop-place.invariant.known root at k)
