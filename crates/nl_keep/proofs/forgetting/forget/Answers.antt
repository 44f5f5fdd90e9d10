use Rattle.std.proofs.Common.{◌≡◌, ℕ, ◌+◌, List, [], ◌∷◌, ◌++◌, ap, sym, ◌∙◌, subst, drop, take}
use Rattle.std.proofs.lemmas.List.{take_more}
use Rattle.std.proofs.lemmas.Result.{err_from_is_err_and}
use Rattle.nl_keep.specs.Forgotten.{Forgets}
use Rattle.nl_keep.specs.Volumes.{LeadsTo}
use Rattle.nl_keep.specs.Refusals.{RefusesToForgetAll}
use Rattle.nl_keep.proofs.ForgetRefusals.{next_refused, split_at}
use Rattle.nl_keep.proofs.Forgets.{forgets_more}
use Rattle.nl_keep.proofs.forgetting.forget.Goals as goal

pub loop-number-preserved : goal.loop-number-preserved
loop-number-preserved g c =
    let i = c.loop-number.number-index in
    let numbers = c.args.numbers.now in
    let n = c.number-item.result in
    let next : take (i + 1) numbers ≡ take i numbers ++ n ∷ [] =
    take_more numbers i n c.loop-number-test.true
    ∙ ap (λ (m : ℕ). take i numbers ++ m ∷ []) (sym c.number-item.is) in
    let old = g.V.Volume.means c.args.volume in
    let new = g.V.Volume.means c.forget_one.new.volume in
    subst (λ (ns : List ℕ). LeadsTo (Forgets ns) old new) (sym next)
    (forgets_more (take i numbers) n old (g.V.Volume.means c.loop-number.volume) new c.loop-number.invariant
    c.in_ok-forget_one.ensures.forgets)

pub returns-in_err-forget_one-clause-refused : goal.returns-in_err-forget_one-clause-refused
returns-in_err-forget_one-clause-refused g c =
    let p = err_from_is_err_and c.from_residual.result c.from_residual.ensures.1 in
    let i = c.loop-number.number-index in
    let numbers = c.args.numbers.now in
    let n = c.number-item.result in
    let e = c.in_err-forget_one.field-0.0 in
    rw (p.1, p.2) (λ w means.
    subst (λ (ns : List ℕ). RefusesToForgetAll ns w e)
    (sym (split_at numbers i n c.loop-number-test.true c.number-item.is))
    (next_refused (take i numbers) n (drop (i + 1) numbers) e (g.V.Volume.means c.args.volume)
    (g.V.Volume.means c.loop-number.volume) c.loop-number.invariant c.in_err-forget_one.ensures.refused w means))
