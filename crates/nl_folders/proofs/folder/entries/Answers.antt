use Rattle.std.proofs.Common.{◌≡◌, List, [], ◌∷◌, ◌++◌, length, ap, sym, ◌∙◌, subst, arith, length-append}
use Rattle.std.proofs.lemmas.Result.{err_from_is_err_and}
use Rattle.nl_types.specs.declared.kind.Kind.TheVariants.{Directory}
use Rattle.nl_types.specs.declared.reply.Object.{Object}
use Rattle.nl_types.specs.Plain.Paths.{Path}
use Rattle.nl_types.specs.Plain.Trees.{Tree}
use Rattle.nl_folders.specs.declared.folder.Pending.{Pending}
use Rattle.nl_folders.specs.Walks.{IsWalk}
use Rattle.nl_folders.proofs.Walks.{begun, some_left, top_refused, top_stands, visited}
use Rattle.nl_folders.proofs.folder.entries.Goals as goal

pub loop-next-init : goal.loop-next-init
loop-next-init g c =
    let top : Path → List Pending = λ path. record { path = path; kind = Directory } ∷ [] in
    let stack : c.push.new.self.items ≡ top [] =
    c.in_ok-push.ensures.items
    ∙ ap (λ (rest : List Pending). rest ++ top c.new.result) c.new-pending.ensures.items
    ∙ ap top c.new.ensures in
    record {
      few = omega (arith, ap length c.new-tree.ensures);
      keeps = g.met.F.Folder.keeps_itself c.args.folder.now;
      walk = λ tree t shows. (
        shows,
        subst (λ (done : Tree). IsWalk tree done c.push.new.self.items) (sym c.new-tree.ensures)
            (subst (λ (pending : List Pending). IsWalk tree [] pending) (sym stack) (begun tree t)),
      );
    }

pub loop-next-preserved : goal.loop-next-preserved
loop-next-preserved g c = record {
  few =
      omega (
        arith,
        ap length c.in_ok-push-2.ensures.ok,
        length-append {A = Path × Object},
        c.len.ensures,
        c.loop-next.invariant.few,
        c.if-len-eq-MOST_PATHS.false,
      );
  keeps = g.met.F.Folder.keeps_on _ _ _ c.loop-next.invariant.keeps c.in_ok-object.ensures.keeps;
  walk = λ tree t shows.
      let before = c.loop-next.invariant.walk tree t shows in
      let visit = c.in_ok-object.ensures.visit tree before.0 in (
        c.in_ok-object.ensures.stays tree before.0,
        subst (λ (done : Tree). IsWalk tree done c.visit.new.pending.items) (sym c.in_ok-push-2.ensures.ok)
            (visited tree c.loop-next.tree c.loop-next.pending.items c.pop.new.self.items
            c.visit.new.pending.items c.in-Some.next c.in_ok-object.object t before.1 c.in-Some.ensures.items visit),
      );
}

pub returns-then-len-eq-MOST_PATHS-clause-refused : goal.returns-then-len-eq-MOST_PATHS-clause-refused
returns-then-len-eq-MOST_PATHS-clause-refused g c tree t shows =
    let before = c.loop-next.invariant.walk tree t shows in
    let left =
    some_left tree c.loop-next.tree c.pop.new.self.items c.loop-next.pending.items c.in-Some.next t before.1
    c.in-Some.ensures.items in
    absurd (omega (arith, left, c.len.ensures, c.if-len-eq-MOST_PATHS.true))

pub returns-in_err-object-clause-refused : goal.returns-in_err-object-clause-refused
returns-in_err-object-clause-refused g c =
    let exits = c.from_residual-in_err-object in
    let p = err_from_is_err_and exits.result exits.ensures.1 in
    rw (p.1, p.2) (λ tree t shows.
    let before = c.loop-next.invariant.walk tree t shows in
    let next = c.in-Some.next in
    let stands =
    top_stands tree c.loop-next.tree c.pop.new.self.items c.loop-next.pending.items next before.1
    c.in-Some.ensures.items in
    top_refused tree next c.in_err-object.field-0.0 stands (c.in_err-object.ensures.refused tree t before.0 stands))
