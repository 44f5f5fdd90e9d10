use Rattle.std.proofs.Common.{ap, sym, ◌∙◌, subst}
use Rattle.nl_commit.specs.Commits.{IsNext, applied}
use Rattle.nl_commit.specs.Shown.{Shown}
use Rattle.nl_commit.specs.declared.commit.Commit.TheVariants.{RangeRemoved}
use Rattle.nl_cpfile.specs.Tables.{Table}
use Rattle.nl_publish.proofs.Following.{written-comes_next}
use Rattle.nl_publish.proofs.tables.ReaderTables.apply.Goals as goal

pub returns-in-RangeRemoved-clause-changed : goal.returns-in-RangeRemoved-clause-changed
returns-in-RangeRemoved-clause-changed c =
    let s = c.self-in-RangeRemoved.inside in
    ap (λ (t : Table).
    (let x : Shown =
    record { numbers = s.numbers.items; table = t; mounts = s.mounts.mounts; given = s.mounts.given } in
    x))
    c.take_out_range.ensures
    ∙ (ap (λ (x : Shown). applied x (RangeRemoved c.in-RangeRemoved.first c.in-RangeRemoved.last))
    c.self-in-RangeRemoved.view_is
    ∙ ap (applied c.args.self.now) (sym c.in-RangeRemoved.is))

pub returns-in-Written-clause-not_next : goal.returns-in-Written-clause-not_next
returns-in-Written-clause-not_next c refused next =
    c.add_checkpoint.ensures.not_next refused
    (written-comes_next c.args.self.now c.in-Written.new
    (subst (IsNext c.args.self.now) c.in-Written.is next))
