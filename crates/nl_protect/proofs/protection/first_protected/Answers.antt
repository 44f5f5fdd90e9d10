use Rattle.std.proofs.Common.{◌∙◌, sym, ap, rules}
use Rattle.std.specs.Prelude.{Some}
use Rattle.std.specs.Option.{is_some, option_map}
use Rattle.std.proofs.lemmas.Bool.{ltb-false, ltb-true}
use Rattle.std.proofs.lemmas.List.Sorted.{IsPartitionPoint-from_clause}
use Rattle.nl_cpfile.specs.declared.checkpoint.Checkpoint.{Checkpoint}
use Rattle.nl_protect.proofs.Kept.{is_unprotected, protected-at, protected-none, unprotected-first}
use Rattle.nl_protect.proofs.protection.first_protected.Goals as goal

pub returns : goal.returns
returns c =
    let kept = c.args.kept.now in
    let point =
    IsPartitionPoint-from_clause
    (is_unprotected c.args.now c.args.period) kept c.partition_point-index.result
    c.partition_point-index.ensures.partitioned
    (unprotected-first c.args.now c.args.period kept c.requires) (λ a r q k. search rules) in
    let found = c.in_ok-checkpoint.ensures.lookup in
    sym (ap (option_map (λ (x : Checkpoint). x.number))
    (protected-at c.args.now c.args.period kept c.partition_point-index.result
    c.in_ok-checkpoint.checkpoint.now point
    (ltb-true _ _ (sym found.0))
    ∙ ap Some (sym found.1)))

pub returns-in_err-checkpoint : goal.returns-in_err-checkpoint
returns-in_err-checkpoint c =
    let kept = c.args.kept.now in
    let point =
    IsPartitionPoint-from_clause
    (is_unprotected c.args.now c.args.period) kept c.partition_point-index.result
    c.partition_point-index.ensures.partitioned
    (unprotected-first c.args.now c.args.period kept c.requires) (λ a r q k. search rules) in
    let past = ltb-false _ _ (sym c.get.ensures.lookup.0 ∙ ap is_some c.in_err-checkpoint.was) in
    c.from_residual.ensures
    ∙ sym (ap (option_map (λ (x : Checkpoint). x.number))
    (protected-none c.args.now c.args.period kept c.partition_point-index.result point past))
