use Rattle.std.proofs.Common.{◌≡◌, List, [], ◌∷◌, append-nil, drop, length, refl, subst, sym, arith}
use Rattle.std.proofs.lemmas.List.{drop_all}
use Rattle.nl_types.specs.declared.segment.Log.{Log}
use Rattle.nl_types.specs.Blocks.Placing.{payload_count}
use Rattle.nl_vstore.specs.Content.{Payload}
use Rattle.nl_segwriter.specs.declared.staging.Staged.{Staged}
use Rattle.nl_segwriter.specs.Private.Staging.{AreStaged}
use Rattle.nl_segwriter.proofs.staging.stage.Goals as goal

none_left : (payload : List Payload) → 0 ≡ length payload → payload ≡ []
none_left [] e = refl
none_left (p ∷ payload) e = absurd (omega (arith, e))

pub returns : goal.returns
returns c =
    let none : drop c.loop-log.log-index c.args.logs.now ≡ [] =
    drop_all c.loop-log.log-index c.args.logs.now c.loop-log-test.false in
    let rest : c.loop-log.rest.now ≡ [] =
    none_left c.loop-log.rest.now
    (subst (λ (l : List Log). payload_count l ≡ length c.loop-log.rest.now) none
    c.loop-log.invariant.count) in
    let last : AreStaged c.args.stamp c.args.checkpoint
    (drop c.loop-log.log-index c.args.logs.now) c.loop-log.rest.now [] =
    subst (λ (l : List Log). AreStaged c.args.stamp c.args.checkpoint l c.loop-log.rest.now []) (sym none)
    (rest, refl) in
    subst (λ (xs : List Staged). AreStaged c.args.stamp c.args.checkpoint c.args.logs.now c.args.items.now xs)
    (append-nil c.loop-log.all.items) (c.loop-log.invariant.onward [] last)
