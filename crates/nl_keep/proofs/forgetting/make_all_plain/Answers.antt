use Rattle.std.proofs.Common.{◌≡◌, ℕ, ◌+◌, List, [], ◌∷◌, ◌++◌, ap, sym, ◌∙◌, subst, drop, take}
use Rattle.std.proofs.lemmas.List.{take_more}
use Rattle.std.proofs.lemmas.Result.{err_from_is_err_and}
use Rattle.nl_keep.specs.Forgotten.{MakesAllPlain}
use Rattle.nl_keep.specs.Volumes.{LeadsTo}
use Rattle.nl_keep.specs.Refusals.{RefusesPlain}
use Rattle.nl_keep.proofs.ForgetRefusals.{next_plain_refused, split_at}
use Rattle.nl_keep.proofs.Forgets.{made_plain_more}
use Rattle.nl_keep.proofs.forgetting.make_all_plain.Goals as goal

pub loop-one-preserved : goal.loop-one-preserved
loop-one-preserved g c =
    let i = c.loop-one.one-index in
    let numbers = c.args.numbers.now in
    let n = c.one-item.result in
    let next : take (i + 1) numbers ≡ take i numbers ++ n ∷ [] =
    take_more numbers i n c.loop-one-test.true
    ∙ ap (λ (m : ℕ). take i numbers ++ m ∷ []) (sym c.one-item.is) in
    let old = g.V.Volume.means c.args.volume.now in
    let new = g.V.Volume.means c.make_plain.new.volume in
    subst (λ (ns : List ℕ). LeadsTo (MakesAllPlain ns) old new) (sym next)
    (made_plain_more (take i numbers) n old (g.V.Volume.means c.loop-one.volume) new c.loop-one.invariant
    c.in_ok-make_plain.ensures.plain)

pub returns-in_err-make_plain-clause-refused : goal.returns-in_err-make_plain-clause-refused
returns-in_err-make_plain-clause-refused g c =
    let p = err_from_is_err_and c.from_residual.result c.from_residual.ensures.1 in
    let i = c.loop-one.one-index in
    let numbers = c.args.numbers.now in
    let n = c.one-item.result in
    let e = c.in_err-make_plain.field-0.0 in
    rw (p.1, p.2) (λ w means.
    subst (λ (ns : List ℕ). RefusesPlain ns w e)
    (sym (split_at numbers i n c.loop-one-test.true c.one-item.is))
    (next_plain_refused (take i numbers) n (drop (i + 1) numbers) e (g.V.Volume.means c.args.volume.now)
    (g.V.Volume.means c.loop-one.volume) c.loop-one.invariant c.in_err-make_plain.ensures.refused w means))
