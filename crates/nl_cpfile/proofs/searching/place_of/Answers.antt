use Rattle.std.proofs.Common.{false, ◌∙◌, sym, ap, ltb, rules, subst, arith}
use Rattle.std.specs.Option.{is_some}
use Rattle.std.proofs.lemmas.Bool.{ltb-false, eqb-false}
use Rattle.std.proofs.lemmas.List.Sorted.{IsPartitionPoint-from_clause, IsPartitionedBy-ltb}
use Rattle.nl_layout.specs.declared.root.Root.TheVariants.{Empty}
use Rattle.nl_types.specs.declared.event.Mode.TheVariants.{Plain}
use Rattle.nl_cpfile.specs.declared.checkpoint.Checkpoint.{Checkpoint}
use Rattle.nl_cpfile.specs.Searching.{IsPlaceOf}
use Rattle.nl_cpfile.specs.Facts.Found.{IsPlace, found-not_here}
use Rattle.nl_cpfile.specs.Facts.Rising.{IsRising-numbers}
use Rattle.nl_cpfile.proofs.searching.place_of.Goals as goal

pub returns-else-eq : goal.returns-else-eq
returns-else-eq c =
    let kept = c.args.kept.now in
    let place : IsPlace kept c.args.number c.partition_point-index.result =
    IsPartitionPoint-from_clause
    (λ p. ltb p.number c.args.number) kept _ c.partition_point-index.ensures.partitioned
    (IsPartitionedBy-ltb (λ p. p.number) kept c.args.number (IsRising-numbers kept c.requires))
    (λ a r q k. search rules) in
    let found = c.in_ok-checkpoint.ensures.lookup in
    found-not_here kept c.args.number _ c.in_ok-checkpoint.checkpoint.now c.requires place
    (λ lt e. eqb-false _ _ (sym c.if-eq.ensures) (ap (λ (x : Checkpoint). x.number) found.1 ∙ e))

pub returns-in_err-checkpoint : goal.returns-in_err-checkpoint
returns-in_err-checkpoint c =
    let kept = c.args.kept.now in
    let place : IsPlace kept c.args.number c.partition_point-index.result =
    IsPartitionPoint-from_clause
    (λ p. ltb p.number c.args.number) kept _ c.partition_point-index.ensures.partitioned
    (IsPartitionedBy-ltb (λ p. p.number) kept c.args.number (IsRising-numbers kept c.requires))
    (λ a r q k. search rules) in
    subst (IsPlaceOf kept c.args.number) (sym c.from_residual.ensures)
    (found-not_here kept c.args.number _
    (record { number = 0; mode = Plain; minor = false; stamp = 0; root = Empty; inodes = 0 }) c.requires
    place
    (λ lt e.
    let past = ltb-false _ _ (sym c.get.ensures.lookup.0 ∙ ap is_some c.in_err-checkpoint.was) in
    absurd (omega (arith, past, lt))))
