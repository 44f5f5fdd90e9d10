use Rattle.std.proofs.Common.{◌≡◌, ◌∙◌, ◌<◌, ◌+◌, ◌++◌, ◌∷◌, [], ℕ, List, length, take, arith, ap, sym}
use Rattle.std.proofs.lemmas.List.{length-take, take_more, take_all}
use Rattle.nl_blocktree.specs.Private.Edits.{edit_alone, edits_from}
use Rattle.nl_blocktree.specs.declared.tree.Edit.{Edit}
use Rattle.nl_blocktree.proofs.TreeSlots.{edits_from-none, edits_from-push}
use Rattle.std.proofs.lemmas.Result.{IfOk-from_err}
use Rattle.nl_blocktree.proofs.slots.edits_of.Goals as goal

pub loop-offset-init : goal.loop-offset-init
loop-offset-init c = c.new-told.ensures.items ∙ sym edits_from-none

pub loop-offset-preserved : goal.loop-offset-preserved
loop-offset-preserved c =
    let k = c.loop-offset.offset in
    let xs = c.args.slots.now in
    let x = c.index-slots-offset.result in
    let within : k < length xs = c.loop-offset-test.true in
    let more : take (k + 1) xs ≡ take k xs ++ x ∷ [] =
    take_more xs k x within ∙ ap (λ (y : ℕ). take k xs ++ y ∷ []) (sym c.index-slots-offset.is) in
    let count : length (take k xs) ≡ k = (let l = length-take k xs in omega arith) in
    let offset : 0 + length (take k xs) ≡ k = omega (arith, count) in
    c.in_ok-push.ensures.items ∙ ap (λ (e : Edit). c.loop-offset.told.items ++ e ∷ []) c.edit_alone.ensures
    ∙ (ap (λ (es : List Edit). es ++ edit_alone k x ∷ []) c.loop-offset.invariant
    ∙ (ap (λ (o : ℕ). edits_from 0 (take k xs) ++ edit_alone o x ∷ []) (sym offset)
    ∙ (sym (edits_from-push 0 (take k xs) x) ∙ ap (edits_from 0) (sym more))))

pub returns-in_err-push-clause-ok : goal.returns-in_err-push-clause-ok
returns-in_err-push-clause-ok c = IfOk-from_err c.from_residual.result _ c.from_residual.ensures.0

pub returns-clause-ok : goal.returns-clause-ok
returns-clause-ok c =
    c.loop-offset.invariant
    ∙ ap (edits_from 0) (take_all c.loop-offset.offset c.args.slots.now c.loop-offset-test.false)
