use Rattle.std.proofs.Common.{ℕ, List, [], ◌∷◌, ◌++◌, sym, subst}
use Rattle.std.specs.Prelude.{Ok}
use Rattle.std.proofs.lemmas.Result.{err_from_is_err_and}
use Rattle.nl_types.specs.declared.event.Event.TheVariants as event
use Rattle.nl_types.specs.declared.reply.Answer.TheVariants as answer
use Rattle.nl_reclaim.specs.Counted.{IsCounted}
use Rattle.nl_reclaim.specs.Events.{IsNextWritten}
use Rattle.nl_commit.specs.CleaningEvents.{kept_numbers}
use Rattle.nl_commit.specs.Layout.{layout_of}
use Rattle.nl_commit.specs.Notes.{DoesTelling}
use Rattle.nl_events.specs.Facts.CountedPens.{next-written, numbers-next, refused-counts}
use Rattle.nl_events.specs.Facts.Ledgers.{can_be-drafted, has_few-names}
use Rattle.nl_events.specs.Facts.Checkpointing.{does-refused, does-written}
use Rattle.nl_events.proofs.NotedEvents.{telling-refused, telling-written}
use Rattle.nl_events.proofs.parts.Parts.checkpoint.Goals as goal

pub write_checkpoint-requires-clause-base : goal.write_checkpoint-requires-clause-base
write_checkpoint-requires-clause-base g c =
    can_be-drafted (layout_of c.self.inside.tables.lists (g.V.Vstore.store c.self.inside.store)) c.self.invariant.pen

pub write_checkpoint-requires-clause-few : goal.write_checkpoint-requires-clause-few
write_checkpoint-requires-clause-few g c =
    has_few-names (layout_of c.self.inside.tables.lists (g.V.Vstore.store c.self.inside.store)) c.self.invariant.pen

pub returns-in_err-draft : goal.returns-in_err-draft
returns-in_err-draft g c =
    let p = err_from_is_err_and c.from_residual.result c.from_residual.ensures.1 in
    let old = layout_of c.self.inside.tables.lists (g.V.Vstore.store c.self.inside.store) in
    let new = layout_of c.write_checkpoint.new.tables.lists (g.V.Vstore.store c.write_checkpoint.new.store) in
    rw (p.1, p.2, ← c.self.view_is)
    (telling-refused g.N.Notes.told old (event.Checkpoint c.args.mode c.args.moment) new
    (g.N.Notes.commits c.args.notes.now)
    (g.N.Notes.commits c.write_checkpoint.new.notes) c.self.invariant.pen
    c.in_err-draft.field-0.0
    (does-refused old new c.args.mode c.args.moment c.in_err-draft.field-0.0 c.self.invariant.pen
    c.in_err-draft.ensures.refused
    (g.met.V.Vstore.is_store c.write_checkpoint.new.store))
    c.in_err-draft.ensures.same)

pub invariant_of-self : goal.invariant_of-self
invariant_of-self g c =
    let old = layout_of c.self.inside.tables.lists (g.V.Vstore.store c.self.inside.store) in
    let new = layout_of c.write_checkpoint.new.tables.lists (g.V.Vstore.store c.write_checkpoint.new.store) in
    let store = g.met.V.Vstore.is_store c.write_checkpoint.new.store in
    let e = c.in_err-draft.field-0.0 in
    let refused = c.in_err-draft.ensures.refused in
    record {
      pen = (does-refused old new c.args.mode c.args.moment e c.self.invariant.pen refused store).pen;
      counts =
          refused-counts c.refusals_keep_counts.ensures.written old new c.args.mode c.args.moment e
          c.write_checkpoint.new.needed c.self.invariant.pen.sound.store store refused
          (c.write_checkpoint.ensures.needed old.store (kept_numbers old.lists) c.self.invariant.counts);
    }

pub written-requires-clause-counted : goal.written-requires-clause-counted
written-requires-clause-counted g c =
    let old = layout_of c.self.inside.tables.lists (g.V.Vstore.store c.self.inside.store) in
    let new = layout_of c.write_checkpoint.new.tables.lists (g.V.Vstore.store c.write_checkpoint.new.store) in
    let draft = c.in_ok-draft.draft in (
      old.store,
      kept_numbers old.lists,
      c.write_checkpoint.ensures.needed old.store (kept_numbers old.lists) c.self.invariant.counts,
      subst (λ (n : ℕ). IsNextWritten n draft.batch (kept_numbers old.lists) old.store new.store)
          (sym c.in_ok-draft.ensures.number)
          (next-written old new c.args.mode c.args.moment draft.batch
          c.in_ok-draft.ensures.written c.self.invariant.pen),
    )

pub returns : goal.returns
returns g c =
    let old = layout_of c.self.inside.tables.lists (g.V.Vstore.store c.self.inside.store) in
    let new = layout_of c.write_checkpoint.new.tables.lists (g.V.Vstore.store c.write_checkpoint.new.store) in
    let before = g.N.Notes.commits c.args.notes.now in
    let after = g.N.Notes.commits c.write_checkpoint.new.notes in
    rw (← c.self.view_is)
    (subst (λ n.
    DoesTelling g.N.Notes.told old (event.Checkpoint c.args.mode c.args.moment) (Ok (answer.Checkpoint n)) new
    before after)
    (sym c.in_ok-draft.ensures.number)
    (telling-written g.N.Notes.told old new c.args.mode c.args.moment c.in_ok-draft.draft.batch before after
    c.self.invariant.pen c.in_ok-draft.ensures.written c.in_ok-draft.ensures.noted
    (g.met.V.Vstore.is_store c.write_checkpoint.new.store) c.write_checkpoint.ensures.counted))

pub invariant_of-self-2 : goal.invariant_of-self-2
invariant_of-self-2 g c =
    let old = layout_of c.self.inside.tables.lists (g.V.Vstore.store c.self.inside.store) in
    let new = layout_of c.write_checkpoint.new.tables.lists (g.V.Vstore.store c.write_checkpoint.new.store) in
    let draft = c.in_ok-draft.draft in
    let number = c.in_ok-draft.ensures.number in
    let has = c.in_ok-draft.ensures.written in
    record {
      pen =
          (does-written old new c.args.mode c.args.moment c.self.invariant.pen has.writes
          (g.met.V.Vstore.is_store c.write_checkpoint.new.store) c.write_checkpoint.ensures.counted).pen;
      counts =
          subst (λ (ns : List ℕ). IsCounted new.store ns c.written.new.self)
          (sym (numbers-next old new c.args.mode c.args.moment draft.batch has))
          (subst (λ (n : ℕ). IsCounted new.store (kept_numbers old.lists ++ n ∷ []) c.written.new.self) number
          (c.written.ensures old.store (kept_numbers old.lists)
          (c.write_checkpoint.ensures.needed old.store (kept_numbers old.lists) c.self.invariant.counts)
          (subst (λ (n : ℕ). IsNextWritten n draft.batch (kept_numbers old.lists) old.store new.store) (sym number)
          (next-written old new c.args.mode c.args.moment draft.batch has c.self.invariant.pen))));
    }
