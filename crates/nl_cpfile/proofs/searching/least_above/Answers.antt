use Rattle.std.proofs.Common.{ℕ, false, ◌∙◌, sym, ap, leb, rules, subst}
use Rattle.std.specs.Prelude.{MatchOption, Option}
use Rattle.std.specs.Option.{is_some}
use Rattle.std.proofs.lemmas.Bool.{ltb-false, ltb-true}
use Rattle.std.proofs.lemmas.List.Sorted.{IsPartitionPoint-from_clause, IsPartitionedBy-leb}
use Rattle.nl_layout.specs.declared.root.Root.TheVariants.{Empty}
use Rattle.nl_types.specs.declared.event.Mode.TheVariants.{Plain}
use Rattle.nl_cpfile.specs.declared.checkpoint.Checkpoint.{Checkpoint}
use Rattle.nl_cpfile.specs.Searching.{IsLeastAbove, NoneAbove}
use Rattle.nl_cpfile.specs.Tables.{kept_numbers}
use Rattle.nl_cpfile.proofs.Numbers.{IsPlaceAbove, least_above, none_above}
use Rattle.nl_cpfile.specs.Facts.Rising.{IsRising-numbers}
use Rattle.nl_cpfile.proofs.searching.least_above.Goals as goal

pub returns : goal.returns
returns c =
    let kept = c.args.kept.now in
    let place : IsPlaceAbove kept c.args.number c.partition_point-index.result =
    IsPartitionPoint-from_clause
    (λ p. leb p.number c.args.number) kept _ c.partition_point-index.ensures.partitioned
    (IsPartitionedBy-leb (λ p. p.number) kept c.args.number (IsRising-numbers kept c.requires))
    (λ a r q k. search rules) in
    let found = c.in_ok-checkpoint.ensures.lookup in
    subst (λ (m : ℕ). IsLeastAbove c.args.number (kept_numbers kept) m)
    (ap (λ (x : Checkpoint). x.number) (sym found.1))
    (least_above kept c.args.number _ place c.in_ok-checkpoint.checkpoint.now c.requires
    (ltb-true _ _ (sym found.0)))

pub returns-in_err-checkpoint : goal.returns-in_err-checkpoint
returns-in_err-checkpoint c =
    let kept = c.args.kept.now in
    let place : IsPlaceAbove kept c.args.number c.partition_point-index.result =
    IsPartitionPoint-from_clause
    (λ p. leb p.number c.args.number) kept _ c.partition_point-index.ensures.partitioned
    (IsPartitionedBy-leb (λ p. p.number) kept c.args.number (IsRising-numbers kept c.requires))
    (λ a r q k. search rules) in
    let past = ltb-false _ _ (sym c.get.ensures.lookup.0 ∙ ap is_some c.in_err-checkpoint.was) in
    subst (λ (o : Option ℕ).
    MatchOption o (NoneAbove c.args.number (kept_numbers kept))
    (IsLeastAbove c.args.number (kept_numbers kept)))
    (sym c.from_residual.ensures)
    (none_above kept c.args.number _ place
    (record { number = 0; mode = Plain; minor = false; stamp = 0; root = Empty; inodes = 0 }) past)
