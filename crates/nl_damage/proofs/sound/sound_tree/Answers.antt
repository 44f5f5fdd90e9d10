use Rattle.std.proofs.Common.{sym, ◌∙◌}
use Rattle.std.proofs.lemmas.Result.{IfOk-weaker}
use Rattle.nl_layout.specs.Root.{root_told}
use Rattle.nl_damage.specs.Pages.{pages_of}
use Rattle.nl_damage.proofs.SoundCheckpoints.{stands_under}
use Rattle.nl_damage.proofs.sound.sound_tree.Goals as goal

pub returns-then-not-branch-clause-tree : goal.returns-then-not-branch-clause-tree
returns-then-not-branch-clause-tree c tree has nameable =
    let sound = c.in_ok-is_sound.ensures.sound tree has in
    let no = c.if-not-branch.true in
    cc

pub returns-in-Some-clause-tree : goal.returns-in-Some-clause-tree
returns-in-Some-clause-tree c =
    IfOk-weaker c.tree_of.result _ _ (λ read is tree has nameable.
    is tree
    (stands_under (pages_of c.args.pages.now) tree (root_told c.args.entry.now.root) c.in-Some.root has.root
    (sym c.root.ensures ∙ c.in-Some.is) has.told has.stands)
    nameable)
    c.tree_of.ensures.tree
