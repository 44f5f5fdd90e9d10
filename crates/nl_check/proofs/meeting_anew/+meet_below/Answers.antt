use Rattle.std.proofs.Common.{◌≡◌, ◌∙◌, ◌+◌, ◌-◌, ◌*◌, ℕ, suc, List, Option, Some, ap, arith, length, subst, sym, refl}
use Rattle.std.specs.Prelude.{option_copied}
use Rattle.std.specs.Option.{option_and_then}
use Rattle.nl_types.specs.Blocks.Roots.{Pages, Root, Tree, child, slot}
use Rattle.nl_check.specs.Private.BesideTrees.{HasDataUnder, IsMetAnew, StandAt}
use Rattle.nl_check.specs.Facts.Below.{both, none-from}
use Rattle.nl_check.proofs.BesidePlaces.{stand-child}
use Rattle.nl_check.proofs.MetBeside.{data-before, data-here, met-block, met-hole, met-kept, met-node, met-slot, met-start}
use Rattle.nl_check.proofs.meeting_anew.+meet_below.Goals as goal
use Rattle.nl_check.proofs.meeting_anew.+meet_below.Goals.{in-Some+in_ok-meet_below+else-not-branch-2, in_default}

pub returns-then-is_named-clause-yes : goal.returns-then-is_named-clause-yes
returns-then-is_named-clause-yes g t c = λ _ height top offset other st shape.
    met-kept (g.V.VRead.pages c.args.store.now) height top other c.args.level offset c.args.number
    c.args.beside
    c.args.met.now (c.is_named.ensures.0 c.if-is_named.true) st shape

pub returns-then-level-eq0-clause-yes : goal.returns-then-level-eq0-clause-yes
returns-then-level-eq0-clause-yes g t c = λ _ height top offset other st shape.
    met-block (g.V.VRead.pages c.args.store.now) height top other c.args.level offset c.args.number
    c.args.beside
    (λ (same : c.args.beside ≡ Some c.args.number).
    both c.is_named.result (c.is_named.ensures.1 same) c.if-is_named.false) st c.args.met.now
    c.meet_anew.new.met c.if-level-eq0.true
    (c.in_ok-meet_anew.ensures.yes c.if-not-branch.false)

pub loop-slot-init : goal.loop-slot-init
loop-slot-init g t c = record {
  within = λ v s.
      let low = c.requires v s in
      let same = c.meet_anew.ensures.count in
      omega (arith, low, same);
  count = refl;
  met = λ height top offset other st shape.
      let e : 128 * offset ≡ 128 * offset + 0 = omega arith in
      subst (λ (bound : ℕ). IsMetAnew (g.V.VRead.pages c.args.store.now) (Tree height top) other
      (c.args.level - 1) (128 * offset) bound c.meet_anew.new.met c.meet_anew.new.met) e
      (met-start (g.V.VRead.pages c.args.store.now) height top other (c.args.level - 1) (128 * offset)
      c.meet_anew.new.met);
  below = λ e. cc;
  told = λ start told. told;
}

pub loop-slot-preserved : goal.loop-slot-preserved
loop-slot-preserved g t c =
    let pages : Pages = g.V.VRead.pages c.args.store.now in
    let e : c.args.level ≡ suc (c.args.level - 1) = omega arith in
    let s : ℕ = c.loop-slot.slot in
    let names : child pages s (Some c.args.number) ≡ c.slot_of.result =
    sym (c.slot_of.ensures ∙ ap (option_and_then (λ (bytes : List ℕ). slot s bytes)) c.page-page.ensures) in
    let other_names = λ (next : Option ℕ)
    (is : next ≡ option_and_then (λ (bytes : List ℕ). slot s bytes)
    (option_copied c.page_under-other.result)).
    sym (is ∙ ap (option_and_then (λ (bytes : List ℕ). slot s bytes)) c.page_under-other.ensures) in
    let before = c.loop-slot.invariant in
    elim c.match-slot_of.branch [
      | in-Some+in_ok-meet_below+else-not-branch-2 w ↦
          let l = w.in_ok-meet_below.ensures in
          let child_at = λ (height top offset : ℕ) (other : Root)
          (st : StandAt pages height top other c.args.level offset c.args.number c.args.beside).
          stand-child pages height top other c.args.level (c.args.level - 1) offset c.args.number
          c.args.beside w.slot_of-in-Some.result s w.in-Some.child e c.loop-slot-test.true
          (names ∙ w.in-Some.is) (other_names w.slot_of-in-Some.result w.slot_of-in-Some.ensures) st in
          record {
            within = λ v u.
                let low = before.within v u in
                let same = ap length w.met-is in
                let count = w.meet_below.ensures.count in
                omega (arith, low, same, count);
            count = ap length w.met-is ∙ (w.meet_below.ensures.count ∙ before.count);
            met = λ height top offset other st shape.
                rw w.met-is
                (met-slot pages height top other (c.args.level - 1) offset s c.meet_anew.new.met
                c.loop-slot.met
                w.meet_below.new.met (before.met height top offset other st shape)
                (l.yes w.if-not-branch-2.false height top (128 * offset + s) other
                (child_at height top offset other st) shape).0);
            below = λ _ height top offset other st shape.
                data-here pages height top other (c.args.level - 1) offset s
                (l.yes w.if-not-branch-2.false height top (128 * offset + s) other
                (child_at height top offset other st) shape).1;
            told = λ start told.
                rw (w.met-is, w.changed-is) (l.told w.if-not-branch-2.false start (before.told start told));
          }
      | in_default w ↦ record {
        within = λ v u.
            let low = before.within v u in
            let same = ap length w.met-is in
            omega (arith, low, same);
        count = ap length w.met-is ∙ before.count;
        met = λ height top offset other st shape.
            rw w.met-is
            (met-slot pages height top other (c.args.level - 1) offset s c.meet_anew.new.met c.loop-slot.met
            c.loop-slot.met (before.met height top offset other st shape)
            (met-hole pages height top other c.args.level (c.args.level - 1) offset c.args.number
            c.args.beside s
            c.loop-slot.met e c.loop-slot-test.true
            (names ∙ none-from c.slot_of.result w.in_default.not-Some) st));
        below = λ some height top offset other st shape.
            data-before pages height top other (c.args.level - 1) offset s
            (before.below (sym w.names-is ∙ some) height top offset other st shape);
        told = λ start told. rw (w.met-is, w.changed-is) (before.told start told);
      }
    ]

pub returns-clause-yes : goal.returns-clause-yes
returns-clause-yes g t c = λ some height top offset other st shape.
    let pages : Pages = g.V.VRead.pages c.args.store.now in
    let e : c.args.level ≡ suc (c.args.level - 1) = omega arith in
    let all : c.loop-slot.slot ≡ 128 = omega (arith, c.loop-slot-test.false, c.loop-slot.auto.slot-end) in
    met-node pages height top other c.args.level offset c.args.number c.args.beside
    (λ (same : c.args.beside ≡ Some c.args.number).
    both c.is_named.result (c.is_named.ensures.1 same) c.if-is_named.false) st (c.args.level - 1)
    c.args.met.now c.meet_anew.new.met c.loop-slot.met e
    (c.in_ok-meet_anew.ensures.yes c.if-not-branch.false)
    (subst (λ (s : ℕ). IsMetAnew pages (Tree height top) other (c.args.level - 1) (128 * offset)
    (128 * offset + s) c.meet_anew.new.met c.loop-slot.met) all
    (c.loop-slot.invariant.met height top offset other st shape))
    (subst (λ (s : ℕ). HasDataUnder pages (Tree height top) (c.args.level - 1) (128 * offset)
    (128 * offset + s)) all
    (c.loop-slot.invariant.below some height top offset other st shape))

pub returns-clause-told : goal.returns-clause-told
returns-clause-told g t c = λ _ start told.
    c.loop-slot.invariant.told start (c.in_ok-meet_anew.ensures.told c.if-not-branch.false start told)
