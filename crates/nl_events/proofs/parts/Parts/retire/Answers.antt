use Rattle.std.proofs.Common.{◌≡◌, ◌<◌, ◌++◌, List, length, refl, ap, subst, ◌∙◌}
use Rattle.std.specs.Prelude.{true}
use Rattle.std.proofs.lemmas.Result.{err_from_is_err_and}
use Rattle.nl_types.specs.declared.event.Event.TheVariants.{Retire}
use Rattle.nl_vstore.specs.Located.{numbers_in}
use Rattle.nl_commit.specs.Layout.{IsPen, Layout}
use Rattle.nl_commit.specs.Notes.{made, told_where}
use Rattle.nl_commit.specs.declared.commit.Commit.{Commit}
use Rattle.nl_events.proofs.NotedEvents.{telling-memory, telling-refused, telling-retired}
use Rattle.nl_events.proofs.parts.Parts.retire.Goals as goal

pub returns-in_err-gone : goal.returns-in_err-gone
returns-in_err-gone g c =
    let p = err_from_is_err_and c.from_residual.result c.from_residual.ensures.1 in
    rw (p.1, p.2)
    (telling-memory g.N.Notes.told c.args.self.now (Retire c.args.segment)
    (g.N.Notes.commits c.args.notes.now)
    (g.N.Notes.commits c.gone_from.new.notes) c.in_err-gone.ensures.refused
    (subst IsPen c.self.view_is c.self.invariant.pen) (refl, tt)
    c.gone_from.ensures.same)

pub returns-in_err-answer : goal.returns-in_err-answer
returns-in_err-answer g c =
    let p =
    err_from_is_err_and c.from_residual-in_err-answer.result c.from_residual-in_err-answer.ensures.1 in
    rw (p.1, p.2)
    (telling-refused g.N.Notes.told c.args.self.now (Retire c.args.segment) c.empty.new.self
    (g.N.Notes.commits c.args.notes.now)
    (g.N.Notes.commits c.gone_from.new.notes)
    (subst IsPen c.self.view_is c.self.invariant.pen) c.in_err-answer.field-0.0
    c.in_err-answer.ensures c.gone_from.ensures.same)

pub returns : goal.returns
returns g c =
    let old = c.args.self.now in
    let told = g.N.Notes.told in
    let gone = c.in_ok-gone.gone.items in
    let before = g.N.Notes.commits c.args.notes.now in
    telling-retired told old c.empty.new.self c.args.segment c.in_ok-answer.answer gone before
    (g.N.Notes.commits c.note.new.self)
    (subst IsPen c.self.view_is c.self.invariant.pen) c.in_ok-answer.ensures
    (subst (λ (l : Layout).
    told ≡ true → c.args.segment < length l.store.segments.each → gone ≡ numbers_in l.store c.args.segment)
    c.self.view_is c.in_ok-gone.ensures.numbers)
    (c.note.ensures ∙ ap (λ (ns : List Commit). ns ++ told_where told (made c.freed_commit.result))
    c.gone_from.ensures.same
    ∙ ap (λ (more : List Commit). before ++ told_where told more) c.freed_commit.ensures)
