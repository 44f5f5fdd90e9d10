use Rattle.std.proofs.Common.{◌∙◌, None, sym, ap, ltb, rules, arith}
use Rattle.std.proofs.lemmas.Bool.{ltb-true, ltb-false, eqb-true, eqb-false}
use Rattle.std.proofs.lemmas.List.Sorted.{IsPartitionPoint-from_clause, IsPartitionedBy-ltb}
use Rattle.nl_ifile.specs.declared.change.InodeChange.{InodeChange}
use Rattle.nl_ifile.proofs.Finding.{IsPlace, ascending-rise, change_at-here, change_at-not_here}
use Rattle.nl_ifile.proofs.free.change_of.Goals.{in_default-via-in-Some+else-eq, in_default-via-in_default}
use Rattle.nl_ifile.proofs.free.change_of.Goals as goal

pub returns-in-Some : goal.returns-in-Some
returns-in-Some c =
    let changes = c.args.changes.now in
    let place : IsPlace changes c.args.number c.partition_point-index.result =
    IsPartitionPoint-from_clause
    (λ p. ltb p.number c.args.number) changes _ c.partition_point-index.ensures.partitioned
    (IsPartitionedBy-ltb (λ p. p.number) changes c.args.number
    (ascending-rise changes c.requires.ascending))
    (λ a r q k. search rules) in
    let found = c.in-Some.ensures.lookup in
    change_at-here changes c.args.number _ c.in-Some.change.now place (ltb-true _ _ (sym found.0)) found.1
    (eqb-true _ _ (sym c.if-eq.ensures))

pub returns-in_default : goal.returns-in_default
returns-in_default c =
    let changes = c.args.changes.now in
    let place : IsPlace changes c.args.number c.partition_point-index.result =
    IsPartitionPoint-from_clause
    (λ p. ltb p.number c.args.number) changes _ c.partition_point-index.ensures.partitioned
    (IsPartitionedBy-ltb (λ p. p.number) changes c.args.number
    (ascending-rise changes c.requires.ascending))
    (λ a r q k. search rules) in
    elim c.in_default.branch [
      | in_default-via-in-Some+else-eq w ↦
          let found = w.in-Some.ensures.lookup in
          let here = w.in-Some.change.now in
          change_at-not_here changes c.args.number _ here c.requires.ascending place
          (λ lt e. eqb-false _ _ (sym w.if-eq.ensures) (ap (λ (x : InodeChange). x.number) found.1 ∙ e))
      | in_default-via-in_default w ↦
          change_at-not_here changes c.args.number _
          (record { number = 0; inode = None }) c.requires.ascending place
          (λ lt e.
          let past = ltb-false _ _ (sym w.in_default.ensures.lookup.0) in absurd (omega (arith, past, lt)))
    ]
