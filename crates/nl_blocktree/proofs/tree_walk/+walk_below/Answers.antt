use Rattle.std.proofs.Common.{◌≡◌, ◌∙◌, ◌-◌, ◌^◌, ◌<◌, ℕ, suc, Option, None, Some, ap, arith, length, refl, subst, sym}
use Rattle.std.specs.Prelude.{IfSome}
use Rattle.std.proofs.lemmas.Result.{err_from_is_err_and}
use Rattle.nl_types.specs.Blocks.Roots.{Pages}
use Rattle.nl_blocktree.specs.Facts.TreePlaces.{low-offset, lower-offset, slot-child}
use Rattle.nl_blocktree.proofs.MetTrees.{child-refused, met-data, next-none, next-some, no-block-there, node-no, node-yes}
use Rattle.nl_blocktree.proofs.tree_walk.+walk_below.Goals as goal
use Rattle.nl_blocktree.proofs.tree_walk.+walk_below.Goals.{in-Some+in_ok-walk_below, in_default}

none-from : (o : Option ℕ) → ((v : ℕ) → o ≡ Some v → ⊥) → o ≡ None
none-from None h = refl
none-from (Some v) h = absurd (h v refl)

pub returns-in_err-page-clause-refused : goal.returns-in_err-page-clause-refused
returns-in_err-page-clause-refused g t c =
    let exits = err_from_is_err_and c.from_residual.result c.from_residual.ensures.1 in
    rw (exits.1, exits.2) (λ height top low stands.
    no-block-there (g.V.VRead.pages c.args.store.now) height top c.args.level c.args.offset c.args.number
    c.args.met.now c.in_err-page.field-0.0 stands c.in_err-page.ensures.no)

pub returns-then-level-eq0-clause-yes : goal.returns-then-level-eq0-clause-yes
returns-then-level-eq0-clause-yes g t c = λ height top low stands.
    met-data
    (g.V.VRead.pages c.args.store.now) height top c.args.level c.args.offset c.args.number c.args.met.now
    c.meet.new.met c.if-level-eq0.true stands
    c.in_ok-page.ensures.yes

pub overflow_mul-first : goal.overflow_mul-first
overflow_mul-first g t c = omega (arith, low-offset c.args.level c.args.offset c.requires.offset)

pub overflow_add-first : goal.overflow_add-first
overflow_add-first g t c = omega (arith, low-offset c.args.level c.args.offset c.requires.offset)

pub walk_below-requires : goal.walk_below-requires
walk_below-requires g t c κs within = (
  omega (arith, c.decreases),
  (
    within,
    (
      c.loop-slot.invariant.within,
      (
        omega arith,
        lower-offset c.args.level c.args.offset c.loop-slot.slot c.requires.level c.if-level-eq0.false
            c.requires.offset
            c.loop-slot-test.true,
      ),
    ),
  ),
)

pub returns-in_err-walk_below-clause-refused : goal.returns-in_err-walk_below-clause-refused
returns-in_err-walk_below-clause-refused g t c =
    let exits = err_from_is_err_and c.from_residual-in_err-walk_below.result
    c.from_residual-in_err-walk_below.ensures.1 in
    rw (exits.1, exits.2) (λ height top low stands.
    let pages : Pages = g.V.VRead.pages c.args.store.now in
    let e : c.args.level ≡ suc (c.args.level - 1) = omega arith in
    child-refused pages height top c.args.level (c.args.level - 1) c.args.offset c.args.number e stands
    c.args.met.now c.meet.new.met c.loop-slot.met c.loop-slot.slot c.loop-slot.count
    c.in_err-walk_below.field-0.0 c.loop-slot-test.true c.in_ok-page.ensures.yes
    (c.loop-slot.invariant.walked height top low stands)
    (c.in_err-walk_below.ensures.refused height top (omega (arith, low))
    (slot-child pages height top c.args.level (c.args.level - 1) c.args.offset c.args.number c.loop-slot.slot
    c.in_ok-page.page.now e low stands c.in_ok-page.ensures.page c.loop-slot-test.true
    ∙ sym c.in-Some.ensures)))

pub loop-slot-preserved : goal.loop-slot-preserved
loop-slot-preserved g t c =
    let pages : Pages = g.V.VRead.pages c.args.store.now in
    let e : c.args.level ≡ suc (c.args.level - 1) = omega arith in
    let stored = c.in_ok-page.ensures.page in
    elim c.match-slot_in.branch [
      | in-Some+in_ok-walk_below w ↦ record {
        within = λ v s. let low = c.loop-slot.invariant.within v s in let same = ap length w.met-is in
            omega (arith, low, same, w.walk_below.ensures.count);
        same_count = let before = c.loop-slot.invariant.same_count in ap length w.met-is
            ∙ (w.walk_below.ensures.count ∙ before);
        small = subst (λ (count : Option ℕ). IfSome count (λ n. n < 2 ^ 50))
            (sym w.count-is) w.in_ok-walk_below.ensures.small;
        walked = λ height top low stands.
            rw (w.met-is, w.count-is) (next-some pages height top c.args.level
            (c.args.level - 1) c.args.offset c.args.number e stands c.loop-slot.slot
            c.meet.new.met c.loop-slot.met w.walk_below.new.met c.loop-slot.count w.in_ok-walk_below.field-0
            (c.loop-slot.invariant.walked height top low stands)
            (w.in_ok-walk_below.ensures.yes height top (omega (arith, low))
            (slot-child pages height top c.args.level
            (c.args.level - 1) c.args.offset c.args.number c.loop-slot.slot
            c.in_ok-page.page.now e low stands stored
            c.loop-slot-test.true ∙ sym w.in-Some.ensures)));
      }
      | in_default w ↦ record {
        within = λ v s. let low = c.loop-slot.invariant.within v s in let same = ap length w.met-is in
            omega (arith, low, same);
        same_count = let before = c.loop-slot.invariant.same_count in ap length w.met-is ∙ before;
        small =
            subst (λ (count : Option ℕ). IfSome count (λ n. n < 2 ^ 50))
            (sym w.count-is) c.loop-slot.invariant.small;
        walked = λ height top low stands.
            rw (w.met-is, w.count-is) (next-none pages height top c.args.level
            (c.args.level - 1) c.args.offset c.args.number e stands c.loop-slot.slot
            c.in_ok-page.page.now c.meet.new.met c.loop-slot.met c.loop-slot.count low stored
            c.loop-slot-test.true
            (sym c.slot_in.ensures ∙ none-from c.slot_in.result w.in_default.not-Some)
            (c.loop-slot.invariant.walked height top low stands));
      }
    ]

pub returns-in-Some-count-clause-yes : goal.returns-in-Some-count-clause-yes
returns-in-Some-count-clause-yes g t c =
    let all : c.loop-slot.slot ≡ 128 = omega (arith, c.loop-slot-test.false, c.loop-slot.auto.slot-end) in
    node-yes (g.V.VRead.pages c.args.store.now) c.args.level c.args.offset c.args.number c.loop-slot.slot
    c.args.met.now c.meet.new.met c.loop-slot.met c.if-level-eq0.false all c.in_ok-page.ensures.yes
    c.in-Some-count.count (λ height top low stands. rw (sym c.in-Some-count.is)
    (c.loop-slot.invariant.walked height top low stands))

pub returns-in-None-clause-refused : goal.returns-in-None-clause-refused
returns-in-None-clause-refused g t c =
    let all : c.loop-slot.slot ≡ 128 = omega (arith, c.loop-slot-test.false, c.loop-slot.auto.slot-end) in
    node-no (g.V.VRead.pages c.args.store.now) c.args.level c.args.offset c.args.number c.loop-slot.slot
    c.args.met.now c.meet.new.met c.loop-slot.met c.if-level-eq0.false all
    (λ height top low stands. rw (sym c.in-None.is) (c.loop-slot.invariant.walked height top low stands))
