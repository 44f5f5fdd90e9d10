use Rattle.std.proofs.Common.{◌≡◌, ◌∙◌, ◌+◌, ◌-◌, ◌*◌, ℕ, suc, List, Option, Some, ap, arith, length, subst, sym, refl}
use Rattle.std.specs.Prelude.{option_copied}
use Rattle.std.specs.Option.{option_and_then}
use Rattle.nl_types.specs.Blocks.Roots.{Pages, child, slot}
use Rattle.nl_check.specs.Facts.Below.{both, none-from}
use Rattle.nl_check.proofs.BesidePlaces.{stand-child}
use Rattle.nl_check.proofs.LeftTrees.{LeftUnder, left-data, left-kept, left-node, left-none, left-slot, left-start}
use Rattle.nl_check.proofs.leaving.+leave_below.Goals as goal
use Rattle.nl_check.proofs.leaving.+leave_below.Goals.{in-Some+in_ok-leave_below, in_default}

pub returns-then-is_named-clause-left : goal.returns-then-is_named-clause-left
returns-then-is_named-clause-left g t c = λ height top offset other st.
    left-kept (g.V.VRead.pages c.args.store.now) height top other c.args.level offset c.args.number
    c.args.beside
    c.args.met.now (c.is_named.ensures.0 c.if-is_named.true) st

pub returns-then-level-eq0-clause-left : goal.returns-then-level-eq0-clause-left
returns-then-level-eq0-clause-left g t c = λ height top offset other st.
    let l = c.in_ok-leave.ensures in
    left-data (g.V.VRead.pages c.args.store.now) height top other c.args.level offset c.args.number
    c.args.beside
    c.args.met.now c.leave.new.met c.if-level-eq0.true
    (λ (e : c.args.beside ≡ Some c.args.number). both c.is_named.result (c.is_named.ensures.1 e)
    c.if-is_named.false) l.left st

pub loop-slot-init : goal.loop-slot-init
loop-slot-init g t c = record {
  count = refl;
  left = λ height top offset other st.
      let e : 128 * offset ≡ 128 * offset + 0 = omega arith in
      subst (λ (bound : ℕ). LeftUnder (g.V.VRead.pages c.args.store.now) height top other (c.args.level - 1)
      (128 * offset) bound c.leave.new.met c.leave.new.met) e
      (left-start (g.V.VRead.pages c.args.store.now) height top other (c.args.level - 1) (128 * offset)
      c.leave.new.met);
  told = λ start told. told;
}

pub loop-slot-preserved : goal.loop-slot-preserved
loop-slot-preserved g t c =
    let pages : Pages = g.V.VRead.pages c.args.store.now in
    let e : c.args.level ≡ suc (c.args.level - 1) = omega arith in
    let s : ℕ = c.loop-slot.slot in
    let names : child pages s (Some c.args.number) ≡ c.slot_of.result =
    sym (c.slot_of.ensures ∙ ap (option_and_then (λ (bytes : List ℕ). slot s bytes)) c.page-page.ensures) in
    let other_names = λ (next : Option ℕ)
    (is : next ≡ option_and_then (λ (bytes : List ℕ). slot s bytes)
    (option_copied c.page_under-other.result)).
    sym (is ∙ ap (option_and_then (λ (bytes : List ℕ). slot s bytes)) c.page_under-other.ensures) in
    let before = c.loop-slot.invariant in
    elim c.match-slot_of.branch [
      | in-Some+in_ok-leave_below w ↦
          let l = w.in_ok-leave_below.ensures in
          record {
            count = ap length w.met-is ∙ (w.leave_below.ensures.count ∙ before.count);
            left = λ height top offset other st.
                rw w.met-is
                (left-slot pages height top other (c.args.level - 1) offset s c.leave.new.met c.loop-slot.met
                w.leave_below.new.met (before.left height top offset other st)
                (l.left height top (128 * offset + s) other
                (stand-child pages height top other c.args.level (c.args.level - 1) offset c.args.number
                c.args.beside w.slot_of-in-Some.result s w.in-Some.child e c.loop-slot-test.true
                (names ∙ w.in-Some.is) (other_names w.slot_of-in-Some.result w.slot_of-in-Some.ensures) st)));
            told = λ start told. rw (w.met-is, w.changed-is) (l.told start (before.told start told));
          }
      | in_default w ↦ record {
        count = ap length w.met-is ∙ before.count;
        left = λ height top offset other st.
            rw w.met-is
            (left-slot pages height top other (c.args.level - 1) offset s c.leave.new.met c.loop-slot.met
            c.loop-slot.met (before.left height top offset other st)
            (left-none pages height top other c.args.level (c.args.level - 1) offset c.args.number
            c.args.beside s
            c.loop-slot.met e c.loop-slot-test.true
            (names ∙ none-from c.slot_of.result w.in_default.not-Some) st));
        told = λ start told. rw (w.met-is, w.changed-is) (before.told start told);
      }
    ]

pub returns-clause-left : goal.returns-clause-left
returns-clause-left g t c = λ height top offset other st.
    let pages : Pages = g.V.VRead.pages c.args.store.now in
    let e : c.args.level ≡ suc (c.args.level - 1) = omega arith in
    let all : c.loop-slot.slot ≡ 128 = omega (arith, c.loop-slot-test.false, c.loop-slot.auto.slot-end) in
    let l = c.in_ok-leave.ensures in
    left-node pages height top other c.args.level (c.args.level - 1) offset c.args.number c.args.beside
    c.args.met.now c.leave.new.met c.loop-slot.met e
    (λ (same : c.args.beside ≡ Some c.args.number). both c.is_named.result (c.is_named.ensures.1 same)
    c.if-is_named.false) l.left
    (subst (λ (s : ℕ). LeftUnder pages height top other (c.args.level - 1) (128 * offset) (128 * offset + s)
    c.leave.new.met c.loop-slot.met) all (c.loop-slot.invariant.left height top offset other st)) st

pub returns-clause-told : goal.returns-clause-told
returns-clause-told g t c = λ start told.
    let l = c.in_ok-leave.ensures in
    c.loop-slot.invariant.told start (l.told start told)
