use Rattle.std.proofs.Common.{◌∙◌, List, ap, inl, refl, subst, sym}
use Rattle.std.specs.Option.{is_some}
use Rattle.nl_types.specs.Blocks.Roots.{Pages}
use Rattle.nl_layout.specs.Root.{root_of}
use Rattle.nl_check.specs.Private.ChangedFiles.{IsToldStill, IsWalkedBeside}
use Rattle.nl_check.specs.declared.differing.ChangedFile.{ChangedFile}
use Rattle.nl_check.specs.Facts.Below.{both, found-at}
use Rattle.nl_check.proofs.TreesBeside.{good-beside, known-before, tree-still, walk-beside}
use Rattle.nl_check.proofs.beside.judge_beside.Goals as goal

pub walk_beside-requires-clause-known : goal.walk_beside-requires-clause-known
walk_beside-requires-clause-known g c =
    known-before (g.V.VRead.pages c.args.image.now.store.now) c.args.last.now c.args.entry.now c.in-Some-Some.before
    c.in-Some-Some.now (sym c.root.ensures ∙ c.in-Some-Some.is-0) (sym c.root-2.ensures ∙ c.in-Some-Some.is-1)
    c.args.found.now.met c.requires.last.known

pub hold_trees-requires : goal.hold_trees-requires
hold_trees-requires g c =
    let pages : Pages = g.V.VRead.pages c.args.image.now.store.now in (
      c.walk_beside.new.found.met,
      walk-beside pages c.args.last.now c.args.entry.now c.in-Some-Some.before
          c.in-Some-Some.now (sym c.root.ensures ∙ c.in-Some-Some.is-0)
          (sym c.root-2.ensures ∙ c.in-Some-Some.is-1)
          c.walk_beside.new.found.met c.args.found.now.kinds c.walk_beside.new.found.kinds c.walk_beside.new.changes.files.items
          c.in-Some.count c.args.asked c.requires.last.sound
          (found-at (IsWalkedBeside pages (root_of c.in-Some-Some.before) (root_of c.in-Some-Some.now)
          c.walk_beside.new.found.met c.args.found.now.kinds c.walk_beside.new.found.kinds
          c.walk_beside.new.changes.files.items) c.in_ok-count.field-0 c.in-Some.count
          c.in_ok-count.ensures.yes c.in-Some.is) c.if-not-asked.false,
    )

pub returns-then-not-asked-clause-good : goal.returns-then-not-asked-clause-good
returns-then-not-asked-clause-good g c = λ _.
    let pages : Pages = g.V.VRead.pages c.args.image.now.store.now in
    let w =
    found-at (IsWalkedBeside pages (root_of c.in-Some-Some.before) (root_of c.in-Some-Some.now)
    c.walk_beside.new.found.met c.args.found.now.kinds c.walk_beside.new.found.kinds c.walk_beside.new.changes.files.items)
    c.in_ok-count.field-0 c.in-Some.count c.in_ok-count.ensures.yes c.in-Some.is in
    good-beside pages c.args.last.now c.args.entry.now c.in-Some-Some.before c.in-Some-Some.now
    (sym c.root.ensures ∙ c.in-Some-Some.is-0) (sym c.root-2.ensures ∙ c.in-Some-Some.is-1)
    c.walk_beside.new.found.met c.args.found.now.kinds c.walk_beside.new.found.kinds c.walk_beside.new.changes.files.items
    c.in-Some.count c.args.asked c.requires.last.sound w
    (λ held. absurd (both c.args.asked held c.if-not-asked.true))

pub returns-then-not-asked-clause-changed : goal.returns-then-not-asked-clause-changed
returns-then-not-asked-clause-changed g c = λ _.
    c.in_ok-count.ensures.told (ap is_some c.in-Some.is) c.args.found.now.met (λ v. inl refl)

pub returns-then-is_told_still-clause-good : goal.returns-then-is_told_still-clause-good
returns-then-is_told_still-clause-good g c = λ _.
    let pages : Pages = g.V.VRead.pages c.args.image.now.store.now in
    let w =
    found-at (IsWalkedBeside pages (root_of c.in-Some-Some.before) (root_of c.in-Some-Some.now)
    c.walk_beside.new.found.met c.args.found.now.kinds c.walk_beside.new.found.kinds c.walk_beside.new.changes.files.items)
    c.in_ok-count.field-0 c.in-Some.count c.in_ok-count.ensures.yes c.in-Some.is in
    good-beside pages c.args.last.now c.args.entry.now c.in-Some-Some.before c.in-Some-Some.now
    (sym c.root.ensures ∙ c.in-Some-Some.is-0) (sym c.root-2.ensures ∙ c.in-Some-Some.is-1)
    c.walk_beside.new.found.met c.args.found.now.kinds c.walk_beside.new.found.kinds c.walk_beside.new.changes.files.items
    c.in-Some.count c.args.asked c.requires.last.sound w
    (λ held.
    tree-still pages c.args.last.now c.args.entry.now c.in-Some-Some.before c.in-Some-Some.now
    (sym c.root.ensures ∙ c.in-Some-Some.is-0) (sym c.root-2.ensures ∙ c.in-Some-Some.is-1)
    c.walk_beside.new.found.met c.args.found.now.kinds c.walk_beside.new.found.kinds c.walk_beside.new.changes.files.items
    c.in-Some.count c.args.asked c.requires.last.sound w
    (subst (λ (fs : List ChangedFile). IsToldStill fs c.in-Some.count c.args.last.now c.args.entry.now)
    c.as_slice.ensures.value (c.is_told_still.ensures c.if-is_told_still.true)) (c.requires.last.tree held))

pub returns-then-is_told_still-clause-changed : goal.returns-then-is_told_still-clause-changed
returns-then-is_told_still-clause-changed g c = λ _.
    c.in_ok-count.ensures.told (ap is_some c.in-Some.is) c.args.found.now.met (λ v. inl refl)

pub returns-then-branch-clause-good : goal.returns-then-branch-clause-good
returns-then-branch-clause-good g c = λ _.
    let pages : Pages = g.V.VRead.pages c.args.image.now.store.now in
    let w =
    found-at (IsWalkedBeside pages (root_of c.in-Some-Some.before) (root_of c.in-Some-Some.now)
    c.walk_beside.new.found.met c.args.found.now.kinds c.walk_beside.new.found.kinds c.walk_beside.new.changes.files.items)
    c.in_ok-count.field-0 c.in-Some.count c.in_ok-count.ensures.yes c.in-Some.is in
    good-beside pages c.args.last.now c.args.entry.now c.in-Some-Some.before c.in-Some-Some.now
    (sym c.root.ensures ∙ c.in-Some-Some.is-0) (sym c.root-2.ensures ∙ c.in-Some-Some.is-1)
    c.walk_beside.new.found.met c.args.found.now.kinds c.walk_beside.new.found.kinds c.walk_beside.new.changes.files.items
    c.in-Some.count c.args.asked c.requires.last.sound w
    (λ held. (c.in_ok-hold_trees.ensures.yes c.if-branch.true).1)

pub returns-then-branch-clause-changed : goal.returns-then-branch-clause-changed
returns-then-branch-clause-changed g c = λ _.
    c.in_ok-count.ensures.told (ap is_some c.in-Some.is) c.args.found.now.met (λ v. inl refl)
