use Rattle.std.proofs.Common.{◌≡◌, ◌∙◌, ◌-◌, ◌*◌, ◌+◌, ◌≤◌, ℕ, suc, Some, ap, arith, sym}
use Rattle.std.specs.Prelude.{option_copied}
use Rattle.nl_types.specs.Blocks.Roots.{Tree, Pages, place_at}
use Rattle.nl_blocktree.specs.Facts.TreePlaces.{low-offset, lower-offset}
use Rattle.nl_blocktree.specs.TreePlaces.{IsEnd, IsUnder}
use Rattle.nl_check.specs.Facts.Below.{some-map}
use Rattle.nl_check.proofs.TreeEnds.{child-there, end-data, end-node}
use Rattle.nl_check.proofs.ends.+end_below.Goals as goal

pub returns-then-level-eq0-clause-end : goal.returns-then-level-eq0-clause-end
returns-then-level-eq0-clause-end g t c = λ height top low stands.
    end-data (g.V.VRead.pages c.args.store.now) height top c.args.level c.args.offset c.args.number
    c.if-level-eq0.true stands

pub overflow_mul-offset : goal.overflow_mul-offset
overflow_mul-offset g t c = omega (arith, low-offset c.args.level c.args.offset c.requires.offset)

pub overflow_add-offset : goal.overflow_add-offset
overflow_add-offset g t c =
    let last = c.in_ok-last.ensures in
    let within = last.low in
    omega (arith, low-offset c.args.level c.args.offset c.requires.offset, within)

pub end_below-requires : goal.end_below-requires
end_below-requires g t c κs within = (
  omega (arith, c.decreases),
  (
    within,
    (
      omega arith,
      lower-offset c.args.level c.args.offset c.in_ok-last.last.slot c.requires.level c.if-level-eq0.false
          c.requires.offset (let last = c.in_ok-last.ensures in last.low),
    ),
  ),
)

pub returns-clause-end : goal.returns-clause-end
returns-clause-end g t c =
    let pages : Pages = g.V.VRead.pages c.args.store.now in
    let e : c.args.level ≡ suc (c.args.level - 1) = omega arith in
    let s = c.in_ok-last.last.slot in
    let stored : pages c.args.number ≡ Some c.in_ok-page.field-0.now =
    sym c.page.ensures ∙ ap option_copied c.in_ok-page.was in
    some-map c.end_below.result
    (λ (count : ℕ). (height top : ℕ) → c.args.level - 1 ≤ height
    → place_at pages (Tree height top) (c.args.level - 1) (128 * c.args.offset + s) ≡ Some
    c.in_ok-last.last.child
    → IsEnd pages (Tree height top)
    (IsUnder (c.args.level - 1) (128 * c.args.offset + s) (suc (128 * c.args.offset + s))) count)
    (λ (count : ℕ). (height top : ℕ) → c.args.level ≤ height
    → place_at pages (Tree height top) c.args.level c.args.offset ≡ Some c.args.number
    → IsEnd pages (Tree height top) (IsUnder c.args.level c.args.offset (suc c.args.offset)) count)
    (λ count end height top low stands.
    end-node pages height top c.args.level (c.args.level - 1) c.args.offset c.args.number s
    c.in_ok-last.last.child
    count c.in_ok-page.field-0.now e low stored (c.in_ok-last.ensures) stands
    (end height top (omega (arith, low))
    (child-there pages height top c.args.level (c.args.level - 1) c.args.offset c.args.number s
    c.in_ok-last.last.child count c.in_ok-page.field-0.now e low stored (c.in_ok-last.ensures) stands)))
    c.end_below.ensures.end
