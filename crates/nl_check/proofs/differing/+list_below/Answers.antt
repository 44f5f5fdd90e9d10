use Rattle.std.proofs.Common.{◌≡◌, ◌∙◌, ◌+◌, ◌-◌, ◌*◌, ◌≤◌, ℕ, suc, List, Bool, Option, ap, arith, subst, sym}
use Rattle.std.specs.Option.{option_and_then}
use Rattle.std.specs.Prelude.{IsTrue, option_copied}
use Rattle.nl_types.specs.Blocks.Roots.{Pages, Root, Tree, page_at, place_at, slot}
use Rattle.nl_check.specs.Private.ChangedFiles.{ListsBlock, ListsUnder}
use Rattle.nl_check.specs.Facts.Below.{ok-map}
use Rattle.nl_check.proofs.BesidePlaces.{tree-slot}
use Rattle.nl_check.proofs.ListedFiles.{under-block, under-next, under-node, under-same, under-start}
use Rattle.nl_blocktree.specs.Facts.TreePlaces.{low-offset, lower-offset}
use Rattle.nl_check.proofs.differing.+list_below.Goals as goal

pub returns-then-are_one-clause-yes : goal.returns-then-are_one-clause-yes
returns-then-are_one-clause-yes g t c = λ _ height top other low was is.
    under-same (g.V.VRead.pages c.args.store.now) height top other c.args.level c.args.offset
    c.args.files.now.items
    low (was ∙ (c.are_one.ensures c.if-are_one.true ∙ sym is))

pub returns-then-level-eq0-clause-yes : goal.returns-then-level-eq0-clause-yes
returns-then-level-eq0-clause-yes g t c =
    let pages : Pages = g.V.VRead.pages c.args.store.now in
    let zero_is = c.if-level-eq0.true in
    let stands = λ (height top : ℕ) (o : Option ℕ)
    (was : place_at pages (Tree height top) c.args.level c.args.offset ≡ o).
    ap (λ (k : ℕ). option_and_then pages (place_at pages (Tree height top) k c.args.offset)) (sym zero_is)
    ∙ ap (option_and_then pages) was in
    ok-map c.list_block.result
    (λ (all : Bool). IsTrue all → (pages : Pages) (old new : Root)
    → page_at pages old c.args.offset ≡ option_copied c.page_under-page.result
    → page_at pages new c.args.offset ≡ option_copied c.page_under-other.result
    → ListsBlock pages old new c.args.offset c.args.files.now.items c.list_block.new.files.items)
    (λ (all : Bool). IsTrue all → (height top other : ℕ) → c.args.level ≤ height
    → place_at pages (Tree height top) c.args.level c.args.offset ≡ c.args.before
    → place_at pages (Tree height other) c.args.level c.args.offset ≡ c.args.now
    → ListsUnder pages (Tree height top) (Tree height other) c.args.level c.args.offset (suc c.args.offset)
    c.args.files.now.items c.list_block.new.files.items)
    (λ all lists t height top other low was is.
    under-block pages (Tree height top) (Tree height other) c.args.level c.args.offset c.args.files.now.items
    c.list_block.new.files.items zero_is
    (lists t pages (Tree height top) (Tree height other)
    (stands height top c.args.before was ∙ sym c.page_under-page.ensures)
    (stands height other c.args.now is ∙ sym c.page_under-other.ensures)))
    c.list_block.ensures.yes

pub overflow_mul-below : goal.overflow_mul-below
overflow_mul-below g t c = omega (arith, low-offset c.args.level c.args.offset c.requires.offset)

pub overflow_add-below : goal.overflow_add-below
overflow_add-below g t c = omega (arith, low-offset c.args.level c.args.offset c.requires.offset)

pub list_below-requires : goal.list_below-requires
list_below-requires g t c κs within = (
  omega (arith, c.decreases),
  (
    within,
    (
      omega arith,
      lower-offset c.args.level c.args.offset c.loop-slot.slot c.requires.level c.if-level-eq0.false
          c.requires.offset c.loop-slot-test.true,
    ),
  ),
)

pub loop-slot-init : goal.loop-slot-init
loop-slot-init g t c = λ height top other low was is.
    let pages : Pages = g.V.VRead.pages c.args.store.now in
    let e : 128 * c.args.offset ≡ 128 * c.args.offset + 0 = omega arith in
    subst (λ (bound : ℕ). ListsUnder pages (Tree height top) (Tree height other) (c.args.level - 1)
    (128 * c.args.offset) bound c.args.files.now.items c.args.files.now.items) e
    (under-start pages (Tree height top) (Tree height other) (c.args.level - 1) (128 * c.args.offset)
    c.args.files.now.items)

pub loop-slot-preserved : goal.loop-slot-preserved
loop-slot-preserved g t c = λ height top other low was is.
    let pages : Pages = g.V.VRead.pages c.args.store.now in
    let e : c.args.level ≡ suc (c.args.level - 1) = omega arith in
    let s : ℕ = c.loop-slot.slot in
    let child_is = λ (root : ℕ) (node : Option ℕ) (stands : place_at pages (Tree height root) c.args.level
    c.args.offset ≡ node).
    tree-slot pages height root c.args.level (c.args.level - 1) c.args.offset s e low c.loop-slot-test.true
    ∙ ap (λ (o : Option ℕ). option_and_then (λ (bytes : List ℕ). slot s bytes) (option_and_then pages o))
    stands in
    under-next pages (Tree height top) (Tree height other) (c.args.level - 1) c.args.offset s
    c.args.files.now.items c.loop-slot.files.items c.list_below.new.files.items
    (c.loop-slot.invariant height top other low was is)
    (c.in_ok-list_below.ensures.yes c.if-not-branch.false height top other (omega (arith, low))
    (child_is top c.args.before was
    ∙ sym (c.slot_of.ensures
    ∙ ap (option_and_then (λ (bytes : List ℕ). slot s bytes)) c.page_under-page.ensures))
    (child_is other c.args.now is
    ∙ sym (c.slot_of-in-loop-slot.ensures
    ∙ ap (option_and_then (λ (bytes : List ℕ). slot s bytes)) c.page_under-other.ensures)))

pub returns-clause-yes : goal.returns-clause-yes
returns-clause-yes g t c = λ _ height top other low was is.
    let pages : Pages = g.V.VRead.pages c.args.store.now in
    let e : c.args.level ≡ suc (c.args.level - 1) = omega arith in
    let all : c.loop-slot.slot ≡ 128 = omega (arith, c.loop-slot-test.false, c.loop-slot.auto.slot-end) in
    under-node pages (Tree height top) (Tree height other) c.args.level (c.args.level - 1) c.args.offset
    c.args.files.now.items c.loop-slot.files.items e
    (subst (λ (s : ℕ). ListsUnder pages (Tree height top) (Tree height other) (c.args.level - 1)
    (128 * c.args.offset) (128 * c.args.offset + s) c.args.files.now.items c.loop-slot.files.items) all
    (c.loop-slot.invariant height top other low was is))
