use Rattle.std.proofs.Common.{None, Some, inr, refl}
use Rattle.nl_image.specs.Facts.ReadParts.{fault-refuses, fault-same, have-both-same, no-fault}
use Rattle.nl_image.proofs.reading.check_trees.Goals as goal

pub first_fault-requires-clause-each : goal.first_fault-requires-clause-each
first_fault-requires-clause-each c =
    have-both-same c.args.sections.now c.args.tables.now c.requires.sectioned c.requires.tables
    c.requires.numbered c.args.logs.now c.requires.logs.restored
    c.as_slice.result.now c.as_slice-2.result.now c.as_slice.ensures c.as_slice-2.ensures

pub returns-in-Some-clause-refused : goal.returns-in-Some-clause-refused
returns-in-Some-clause-refused c = inr (
  c.in-Some.condition,
  refl,
  fault-refuses c.args.sections.now c.args.tables.now c.requires.sectioned c.requires.tables
      c.requires.numbered c.args.logs.now c.requires.logs.restored c.requires.meets c.in-Some.condition
      (fault-same c.as_slice.result.now c.args.tables.now.numbers c.as_slice-2.result.now
      c.args.logs.now.pages c.as_slice-3.result.now c.args.tables.now.kept c.in_ok-condition.field-0
      (Some c.in-Some.condition)
      c.as_slice.ensures c.as_slice-2.ensures c.as_slice-3.ensures c.in-Some.is
      c.in_ok-condition.ensures.fault),
)

pub returns-in-None-clause-holds : goal.returns-in-None-clause-holds
returns-in-None-clause-holds c =
    no-fault c.args.sections.now c.args.tables.now c.requires.sectioned c.requires.tables c.requires.numbered
    c.args.logs.now c.requires.logs.restored c.requires.meets
    (fault-same c.as_slice.result.now c.args.tables.now.numbers c.as_slice-2.result.now c.args.logs.now.pages
    c.as_slice-3.result.now c.args.tables.now.kept c.in_ok-condition.field-0 None
    c.as_slice.ensures c.as_slice-2.ensures c.as_slice-3.ensures c.in-None.is c.in_ok-condition.ensures.fault)
