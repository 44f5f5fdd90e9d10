use Rattle.std.proofs.Common.{◌≡◌, ◌∙◌, false, is_some, sym, subst, arith}
use Rattle.nl_sufile.specs.Facts.ImageEntries.{IsActiveBelow, below_all, below_other, below_this, none_below, none_from, two_active}
use Rattle.nl_sufile.proofs.images.active_of.Goals.{then-is_active+else-is_some, else-is_active}
use Rattle.nl_sufile.proofs.images.active_of.Goals as goal

pub loop-number-init : goal.loop-number-init
loop-number-init c = none_below c.args.each.now

pub returns-then-is_some-clause-two : goal.returns-then-is_some-clause-two
returns-then-is_some-clause-two c =
    two_active c.args.each.now c.loop-number.number c.loop-number.active c.loop-number.invariant
    (sym c.is_some.ensures ∙ c.if-is_some.true) (sym c.is_active.ensures ∙ c.if-is_active.true)

pub loop-number-preserved : goal.loop-number-preserved
loop-number-preserved c = elim c.if-is_active.branch [
  | then-is_active+else-is_some w ↦
      let none : is_some c.loop-number.active ≡ false = sym w.is_some.ensures ∙ w.if-is_some.false in
      let this =
      below_this c.args.each.now c.loop-number.number
      (subst (IsActiveBelow c.args.each.now c.loop-number.number)
      (none_from c.loop-number.active none) c.loop-number.invariant)
      (sym c.is_active.ensures ∙ w.if-is_active.true) in
      rw (w.active-is, w.new.ensures) this
  | else-is_active w ↦
      rw w.active-is
      (below_other c.args.each.now c.loop-number.number c.loop-number.active c.loop-number.invariant
      (sym c.is_active.ensures ∙ w.if-is_active.false))
]

pub returns-clause-found : goal.returns-clause-found
returns-clause-found c =
    below_all c.args.each.now c.loop-number.number c.loop-number.active (omega arith) c.loop-number.invariant
