use Rattle.std.proofs.Common.{◌≡◌, ◌∙◌, true, Option, sym, subst}
use Rattle.std.specs.Prelude.{IfSome}
use Rattle.nl_layout.specs.Root.{root_of}
use Rattle.nl_check.specs.Conditions.{IsSoundTree}
use Rattle.nl_check.specs.Judging.{told}
use Rattle.nl_check.specs.Private.Walks.{IsWalk}
use Rattle.nl_check.specs.declared.shape.Walk.{Walk}
use Rattle.nl_check.proofs.JudgedCheckpoints.{judged, last-judged, met-whole, sound-at, sound-tree, tree-there}
use Rattle.nl_check.proofs.checks.judge.Goals as goal

pub walk_checkpoint-requires-clause-none_told : goal.walk_checkpoint-requires-clause-none_told
walk_checkpoint-requires-clause-none_told g c =
    c.clear.ensures.none_told (g.V.VRead.pages c.args.image.now.store.now) (root_of c.in-Some.root)

pub returns-clause-yes : goal.returns-clause-yes
returns-clause-yes g c =
    let pages = g.V.VRead.pages c.args.image.now.store.now in
    let periods = g.V.VRead.periods c.args.image.now.store.now in
    let found = c.walk_checkpoint.new.found in
    let root_is = sym c.in-Some.is ∙ c.root.ensures in
    let walked =
    subst (λ (o : Option Walk). IfSome o (IsWalk pages (root_of c.in-Some.root) found.met found.kinds))
    c.in-Some-2.is c.in_ok-walk.ensures.yes in
    let known =
    met-whole pages c.args.entry.now c.in-Some.root root_is found.met found.kinds c.in-Some-2.walk walked in
    let holds : c.in_ok-trees.trees ≡ true
    → (c.args.before.now.trees ≡ true) × IsSoundTree pages (told c.args.entry.now) =
    λ e. let h = c.in_ok-trees.ensures.yes e in
    (h.0, sound-tree pages c.args.entry.now c.in-Some.root root_is h.1) in
    record {
      judged =
          judged pages periods c.args.entry.now found.met c.args.before.now _ known holds
          c.are_still_of_periods-periods.ensures.0
          (λ e was t.
          c.in_ok-trees.ensures.no e was (tree-there pages c.args.entry.now c.in-Some.root root_is t))
          c.are_still_of_periods-periods.ensures.1;
      last =
          last-judged pages periods c.args.entry.now found.met c.args.before.now _ known holds
          c.are_still_of_periods-periods.ensures.0 found.kinds
          (λ e.
          sound-at pages c.args.entry.now c.in-Some.root root_is found.met found.kinds c.in-Some-2.walk walked
          (c.in_ok-trees.ensures.yes e).1);
    }
