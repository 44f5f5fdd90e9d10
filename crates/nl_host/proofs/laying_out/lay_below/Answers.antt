use Rattle.std.proofs.Common.{◌≡◌, ◌∙◌, [], ap, sym, vec_len}
use Rattle.nl_manifests.specs.HostTrees.{HostTree}
use Rattle.nl_host.specs.Puts.{is_walk}
use Rattle.nl_host.proofs.Walks.{all_behind, ok_anyway, only_behind}
use Rattle.nl_host.proofs.laying_out.lay_below.Goals as goal

pub returns-in_err-put-clause-only : goal.returns-in_err-put-clause-only
returns-in_err-put-clause-only g c =
    only_behind _ _ _ _ _ _ c.new-putting.ensures.tree c.lay_all-put.ensures.tree c.lay_all-put.ensures.asked
    c.leave_all-left.ensures.asked

pub returns-clause-only : goal.returns-clause-only
returns-clause-only g c =
    only_behind _ _ _ _ _ _ c.new-putting.ensures.tree c.lay_all-put.ensures.tree c.lay_all-put.ensures.asked
    c.leave_all-left.ensures.asked

pub returns-clause-all : goal.returns-clause-all
returns-clause-all g c =
    let is = c.new-putting.ensures.tree in
    ok_anyway c.leave_all-left.result (λ same walk.
    let few : vec_len c.lay_all-put.new.laid.refused ≡ vec_len c.args.laid.now.refused =
    sym (ap vec_len c.leave_all-left.ensures.refused) ∙ same in
    all_behind _ _ _ _ _ _ is c.lay_all-put.ensures.tree
    (c.in_ok-put.ensures.all few (ap (λ (t : HostTree). is_walk [] t) is ∙ walk)) c.leave_all-left.ensures.asked)
