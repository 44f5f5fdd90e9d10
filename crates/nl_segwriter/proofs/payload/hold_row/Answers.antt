use Rattle.std.proofs.Common.{◌≡◌, ◌≢◌, ℕ, suc, ◌+◌, ◌<◌, List, ◌∷◌, length, Option, Some, None, ap, sym, ◌∙◌, arith}
use Rattle.std.proofs.lemmas.List.{length-set, get_or-set_same, get_or-set_other}
use Rattle.std.specs.Prelude.{slice_get}
use Rattle.std.specs.Vec.Iter.{into_iter_items}
use Rattle.nl_vstore.specs.Content.{Payload}
use Rattle.nl_segwriter.specs.Writing.{held_in}
use Rattle.nl_segwriter.proofs.Rows.{stand_one, others_one}
use Rattle.nl_segwriter.proofs.payload.hold_row.Goals as goal

pub overflow_add-number : goal.overflow_add-number
overflow_add-number c =
    let first = ap length c.in-Some.ensures.steps.0 in
    omega
    (arith, c.set.ensures.small, c.loop-item.invariant.size, c.loop-item.invariant.count, c.requires, first)

pub loop-item-preserved : goal.loop-item-preserved
loop-item-preserved c =
    let inv = c.loop-item.invariant in
    let table : List (Option Payload) = c.loop-item.table in
    let number : ℕ = c.loop-item.number in
    let item : Payload = c.in-Some.item in
    let rest : List Payload = into_iter_items c.next.new.self in
    let first : into_iter_items c.loop-item.item-iterator ≡ item ∷ rest = c.in-Some.ensures.steps.0 in
    let long : length (into_iter_items c.loop-item.item-iterator) ≡ suc (length rest) = ap length first in
    let within : number < length table = omega (arith, inv.count, inv.size, c.requires, long) in
    let others : (b : ℕ) → b ≢ number → held_in c.set.new.self b ≡ held_in table b = λ b apart.
    ap (λ (t : List (Option Payload)). held_in t b) c.set.ensures.set
    ∙ get_or-set_other table number b (Some item) None apart in
    let there : held_in c.set.new.self number ≡ Some item =
    ap (λ (t : List (Option Payload)). held_in t number) c.set.ensures.set
    ∙ get_or-set_same table number (Some item) None within in
    let left : (j k : ℕ) → c.args.first + j ≡ number + k
    → slice_get (item ∷ rest) k ≡ slice_get c.args.payload j =
    λ j k e. ap (λ (xs : List Payload). slice_get xs k) (sym first) ∙ inv.rest j k e in
    record {
      long = omega (arith, inv.long, long, c.in-Some.ensures.steps.1);
      count = omega (arith, inv.count, long);
      low = omega (arith, inv.low);
      size = ap length c.set.ensures.set ∙ length-set table number (Some item) ∙ inv.size;
      others =
          others_one c.args.first (length c.args.payload) number _ _ _ inv.low
          (omega (arith, inv.count, long)) others inv.others;
      stand = stand_one c.args.first number _ _ c.args.payload rest item inv.low others there inv.stand left;
      rest = λ j k e. left j (suc k) (omega (arith, e));
    }
