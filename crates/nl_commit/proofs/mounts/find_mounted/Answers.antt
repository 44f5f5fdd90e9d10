use Rattle.std.proofs.Common.{◌∙◌, sym, ap, ltb, rules, Some, arith}
use Rattle.std.proofs.lemmas.Bool.{ltb-true, ltb-false, eqb-true, eqb-false}
use Rattle.std.proofs.lemmas.List.Sorted.{IsPartitionPoint-from_clause, IsPartitionedBy-ltb}
use Rattle.nl_commit.specs.declared.mounts.Mounted.{Mounted}
use Rattle.nl_commit.proofs.MountTables.{IsPlace, rising-numbers, shown-at, shown-not_here}
use Rattle.nl_commit.proofs.mounts.find_mounted.Goals.{in_default-via-in-Some+else-eq, in_default-via-in_default}
use Rattle.nl_commit.proofs.mounts.find_mounted.Goals as goal

pub returns-in-Some : goal.returns-in-Some
returns-in-Some c =
    let mounts = c.args.mounts.now in
    let found = c.in-Some.ensures.lookup in
    let here = c.in-Some.mounted.now in
    ap (λ (m : Mounted). Some m.checkpoint) found.1
    ∙ sym (shown-at c.args.number mounts c.partition_point-index.result here c.requires
    (ltb-true _ _ (sym found.0))
    (sym (ap (λ (m : Mounted). m.number) found.1) ∙ eqb-true _ _ (sym c.if-eq.ensures)))

pub returns-in_default : goal.returns-in_default
returns-in_default c =
    let mounts = c.args.mounts.now in
    let place : IsPlace mounts c.args.number c.partition_point-index.result =
    IsPartitionPoint-from_clause
    (λ p. ltb p.number c.args.number) mounts _ c.partition_point-index.ensures.partitioned
    (IsPartitionedBy-ltb (λ p. p.number) mounts c.args.number (rising-numbers mounts c.requires))
    (λ a r q k. search rules) in
    sym (elim c.in_default.branch [
      | in_default-via-in-Some+else-eq w ↦
          let found = w.in-Some.ensures.lookup in
          shown-not_here mounts c.args.number _ w.in-Some.mounted.now c.requires place
          (λ lt e. eqb-false _ _ (sym w.if-eq.ensures) (ap (λ (x : Mounted). x.number) found.1 ∙ e))
      | in_default-via-in_default w ↦
          shown-not_here mounts c.args.number _ (record { number = 0; checkpoint = 0 }) c.requires place
          (λ lt e.
          let past = ltb-false _ _ (sym w.in_default.ensures.lookup.0) in absurd (omega (arith, past, lt)))
    ])
