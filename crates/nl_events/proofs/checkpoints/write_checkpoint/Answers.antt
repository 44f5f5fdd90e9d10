use Rattle.std.proofs.Common.{[], ◌∷◌, ◌++◌, List, ap, sym, ◌∙◌}
use Rattle.std.specs.Prelude.{Option}
use Rattle.std.proofs.lemmas.Result.{err_from_is_err_and}
use Rattle.nl_cpfile.specs.declared.checkpoint.Checkpoint.{Checkpoint}
use Rattle.nl_commit.specs.Notes.{made, new_checkpoint, told_where}
use Rattle.nl_commit.specs.Volume.{Lists, published}
use Rattle.nl_commit.specs.declared.commit.Commit.{Commit}
use Rattle.nl_commit.specs.declared.commit.Commit.TheVariants.{Written}
use Rattle.nl_events.proofs.Drafted.{draft-comes_next, refused-draft, written-draft}
use Rattle.nl_events.proofs.NotedEvents.{told-made}
use Rattle.nl_events.proofs.checkpoints.write_checkpoint.Goals as goal

pub write_draft-requires-clause-next : goal.write_draft-requires-clause-next
write_draft-requires-clause-next g c =
    draft-comes_next c.args.tables.now.lists
    (g.V.Vstore.store c.args.store.now) c.args.mode c.args.moment c.in_ok-draft.draft
    c.requires.base c.in_ok-draft.ensures.drafted c.draft_next.new.tables.lists c.draft_next.ensures.same

pub returns-in_err-write_draft-clause-refused : goal.returns-in_err-write_draft-clause-refused
returns-in_err-write_draft-clause-refused g c =
    let p =
    err_from_is_err_and c.from_residual-in_err-write_draft.result
    c.from_residual-in_err-write_draft.ensures.1 in
    rw (p.1, p.2)
    (refused-draft c.args.tables.now.lists
    (g.V.Vstore.store c.args.store.now) c.args.mode c.args.moment c.in_ok-draft.draft
    c.requires.base c.in_ok-draft.ensures.drafted c.in_err-write_draft.field-0.0
    c.write_draft.new.tables.lists
    (g.V.Vstore.store c.write_draft.new.store)
    (c.in_err-write_draft.ensures.same ∙ c.draft_next.ensures.same) c.in_err-write_draft.ensures.refused)

pub returns-clause-written : goal.returns-clause-written
returns-clause-written g c =
    let draft = c.in_ok-draft.draft in
    written-draft c.args.tables.now.lists (g.V.Vstore.store c.args.store.now) c.args.mode c.args.moment draft
    c.requires.base c.in_ok-draft.ensures.drafted c.settled_numbers_are_lowest.ensures
    c.write_draft.new.tables.lists
    (g.V.Vstore.store c.write_draft.new.store)
    (c.in_ok-write_draft.ensures.kept ∙ ap (published draft.checkpoint) c.draft_next.ensures.same)
    c.in_ok-write_draft.ensures.written

pub returns-clause-noted : goal.returns-clause-noted
returns-clause-noted g c =
    let told = g.N.Notes.told in
    let draft = c.in_ok-draft.draft in
    let commit = Written (new_checkpoint draft.batch draft.checkpoint) in
    let before = g.N.Notes.commits c.args.notes.now in
    told-made told commit before (g.N.Notes.commits c.note.new.self)
    (c.note.ensures
    ∙ ap (λ (ns : List Commit). ns ++ told_where told (made c.in_ok-commit.commit)) c.drafted_commit.ensures.same
    ∙ ap (λ (o : Option Commit). before ++ told_where told (made o)) c.in_ok-commit.ensures.commit)
    ∙ ap (λ (k : Checkpoint). before ++ told_where told (Written (new_checkpoint draft.batch k) ∷ []))
    (sym (ap (λ (l : Lists). l.table.latest) c.in_ok-write_draft.ensures.kept))
