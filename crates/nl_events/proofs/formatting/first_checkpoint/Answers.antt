use Rattle.std.proofs.Common.{[], ◌∷◌, ◌++◌}
use Rattle.std.proofs.lemmas.Result.{err_from_is_err_and}
use Rattle.nl_commit.specs.Layout.{layout_of}
use Rattle.nl_events.proofs.FirstCounts.{blank-counted, blank-gone, first-written}
use Rattle.nl_events.proofs.Formats.{can_be-drafted, has_few-names, new-volume, refused-first}
use Rattle.nl_events.proofs.formatting.first_checkpoint.Goals as goal

pub write_checkpoint-requires-clause-base : goal.write_checkpoint-requires-clause-base
write_checkpoint-requires-clause-base g c =
    let (geometry, device, failures, is) = c.requires.blank in can_be-drafted geometry device failures _ is

pub write_checkpoint-requires-clause-few : goal.write_checkpoint-requires-clause-few
write_checkpoint-requires-clause-few g c =
    let (geometry, device, failures, is) = c.requires.blank in has_few-names geometry device failures _ is

pub returns-in_err-draft-clause-refused : goal.returns-in_err-draft-clause-refused
returns-in_err-draft-clause-refused g c =
    let p = err_from_is_err_and c.from_residual.result c.from_residual.ensures.1 in
    let (geometry, device, failures, is) = c.requires.blank in
    rw (p.1, p.2)
    (refused-first geometry device failures _ is
    (layout_of c.write_checkpoint.new.tables.lists (g.V.Vstore.store c.write_checkpoint.new.store))
    c.args.now
    c.in_err-draft.field-0.0 c.in_err-draft.ensures.refused)

pub written-requires-clause-counted : goal.written-requires-clause-counted
written-requires-clause-counted g c =
    let (geometry, device, failures, is) = c.requires.blank in
    let old = layout_of c.args.tables.now.lists (g.V.Vstore.store c.args.store.now) in
    let new = layout_of c.write_checkpoint.new.tables.lists (g.V.Vstore.store c.write_checkpoint.new.store) in
    let draft = c.in_ok-draft.draft in
    let has = c.in_ok-draft.ensures.written in
    let store = g.met.V.Vstore.is_store c.args.store.now in (
      old.store,
      0 ∷ [],
      blank-counted geometry device failures old new c.args.now draft.batch is has
          c.unused_stores_are_counted.ensures c.args.needed.now c.write_checkpoint.new.needed
          store c.requires.none c.requires.no_ends c.write_checkpoint.ensures.needed,
      first-written geometry device failures old new c.args.now draft.batch is has store
          draft.checkpoint.number c.in_ok-draft.ensures.number,
    )

pub removed-requires-clause-counted : goal.removed-requires-clause-counted
removed-requires-clause-counted g c =
    let (geometry, device, failures, is) = c.requires.blank in
    let old = layout_of c.args.tables.now.lists (g.V.Vstore.store c.args.store.now) in
    let new = layout_of c.write_checkpoint.new.tables.lists (g.V.Vstore.store c.write_checkpoint.new.store) in
    let draft = c.in_ok-draft.draft in
    let has = c.in_ok-draft.ensures.written in
    let store = g.met.V.Vstore.is_store c.args.store.now in (
      (0 ∷ []) ++ draft.checkpoint.number ∷ [],
      c.written.ensures old.store (0 ∷ [])
          (blank-counted geometry device failures old new c.args.now draft.batch is has
          c.unused_stores_are_counted.ensures c.args.needed.now c.write_checkpoint.new.needed
          store c.requires.none c.requires.no_ends c.write_checkpoint.ensures.needed)
          (first-written geometry device failures old new c.args.now draft.batch is has store
          draft.checkpoint.number c.in_ok-draft.ensures.number),
    )

pub returns-clause-formatted : goal.returns-clause-formatted
returns-clause-formatted g c = λ geometry device failures is.
    let old = layout_of c.args.tables.now.lists (g.V.Vstore.store c.args.store.now) in
    let new = layout_of c.write_checkpoint.new.tables.lists (g.V.Vstore.store c.write_checkpoint.new.store) in
    (new-volume geometry device failures old is new c.args.now c.forget_earlier.new.self.lists
    c.in_ok-draft.ensures.written.writes
    (g.met.V.Vstore.is_store c.args.store.now)
    (g.met.V.Vstore.is_store c.write_checkpoint.new.store) c.forget_earlier.ensures).is_formatted

pub returns-clause-means : goal.returns-clause-means
returns-clause-means g c =
    let (geometry, device, failures, is) = c.requires.blank in
    let old = layout_of c.args.tables.now.lists (g.V.Vstore.store c.args.store.now) in
    let new = layout_of c.write_checkpoint.new.tables.lists (g.V.Vstore.store c.write_checkpoint.new.store) in
    (new-volume geometry device failures old is new c.args.now c.forget_earlier.new.self.lists
    c.in_ok-draft.ensures.written.writes
    (g.met.V.Vstore.is_store c.args.store.now)
    (g.met.V.Vstore.is_store c.write_checkpoint.new.store) c.forget_earlier.ensures).means

pub returns-clause-pen : goal.returns-clause-pen
returns-clause-pen g c =
    let (geometry, device, failures, is) = c.requires.blank in
    let old = layout_of c.args.tables.now.lists (g.V.Vstore.store c.args.store.now) in
    let new = layout_of c.write_checkpoint.new.tables.lists (g.V.Vstore.store c.write_checkpoint.new.store) in
    let draft = c.in_ok-draft.draft in
    let has = c.in_ok-draft.ensures.written in
    let store = g.met.V.Vstore.is_store c.args.store.now in
    let left = c.forget_earlier.new.self.lists in
    record {
      pen =
          (new-volume geometry device failures old is new c.args.now left has.writes store
          (g.met.V.Vstore.is_store c.write_checkpoint.new.store)
          c.forget_earlier.ensures).is_pen;
      counts = c.removed.ensures ((0 ∷ []) ++ draft.checkpoint.number ∷ [])
          (c.written.ensures old.store (0 ∷ [])
          (blank-counted geometry device failures old new c.args.now draft.batch is has
          c.unused_stores_are_counted.ensures c.args.needed.now c.write_checkpoint.new.needed
          store c.requires.none c.requires.no_ends c.write_checkpoint.ensures.needed)
          (first-written geometry device failures old new c.args.now draft.batch is has store
          draft.checkpoint.number c.in_ok-draft.ensures.number))
          (blank-gone geometry device failures old new c.args.now draft.batch is has left c.new.result
          c.new-2.result draft.checkpoint.number
          c.forget_earlier.ensures c.new.ensures c.new-2.ensures c.in_ok-draft.ensures.number);
    }
