use Rattle.std.proofs.Common.{◌++◌, List, ap, ◌∙◌}
use Rattle.std.specs.Prelude.{Ok, Some}
use Rattle.std.proofs.lemmas.Result.{err_from_is_err_and}
use Rattle.nl_commit.specs.Notes.{made, noted_of, told_where}
use Rattle.nl_commit.specs.declared.commit.Commit.{Commit}
use Rattle.nl_events.proofs.NotedEvents.{left-lists, noted-before, telling, telling-memory, telling-refused}
use Rattle.nl_events.proofs.parts.Parts.change_noting.Goals as goal

pub returns-in_err-reserve : goal.returns-in_err-reserve
returns-in_err-reserve g c =
    let p = err_from_is_err_and c.from_residual.result c.from_residual.ensures.1 in
    let old = c.args.self.now in
    rw (p.1, p.2)
    (telling-memory g.N.Notes.told old c.args.event.now
    (g.N.Notes.commits c.args.notes.now)
    (g.N.Notes.commits c.reserve.new.self) c.in_err-reserve.ensures.refused c.means_a_world.ensures
    (left-lists old c.args.event.now c.requires.leaves) c.reserve.ensures.same)

pub returns-in_err-answer : goal.returns-in_err-answer
returns-in_err-answer g c =
    let p =
    err_from_is_err_and c.from_residual-in_err-answer.result c.from_residual-in_err-answer.ensures.1 in
    rw (p.1, p.2)
    (telling-refused g.N.Notes.told c.args.self.now c.args.event.now c.change_lists.new.self
    (g.N.Notes.commits c.args.notes.now)
    (g.N.Notes.commits c.reserve.new.self) c.means_a_world.ensures c.in_err-answer.field-0.0
    c.in_err-answer.ensures c.reserve.ensures.same)

pub returns : goal.returns
returns g c =
    let told = g.N.Notes.told in
    let old = c.args.self.now in
    let new = c.change_lists.new.self in
    let before = g.N.Notes.commits c.args.notes.now in
    let a = c.in_ok-answer.answer in
    telling told old c.args.event.now new before
    (g.N.Notes.commits c.note.new.self) c.means_a_world.ensures (Ok a)
    (noted_of a c.args.commit) c.in_ok-answer.ensures
    (c.note.ensures ∙ ap (λ (ns : List Commit). ns ++ told_where told (made c.commit_after.result))
    c.reserve.ensures.same
    ∙ ap (λ (more : List Commit). before ++ told_where told more) c.commit_after.ensures)
    (noted-before old new c.args.event.now a (Some c.args.commit) c.requires.leaves c.requires.commit)
