use Rattle.std.proofs.Common.{◌≡◌, ℕ, Some, subst, sym}
use Rattle.nl_types.specs.declared.kind.Kind.TheVariants.{Directory}
use Rattle.nl_check.specs.Private.Naming.{IsTaken}
use Rattle.nl_check.specs.Private.SoundInodes.{kind_in}
use Rattle.nl_check.specs.Facts.Below.{both}
use Rattle.nl_check.proofs.NamesFollowed.{forms, naming-first, none-awaited, root-awaited}
use Rattle.nl_check.proofs.trees.forms_tree.Goals as goal

pub returns-then-not-take_awaited-clause-no : goal.returns-then-not-take_awaited-clause-no
returns-then-not-take_awaited-clause-no g c = λ _ held holds limits told tree.
    c.take_awaited.ensures.no c.if-not-take_awaited.true
    (subst (λ (n : ℕ). kind_in c.args.awaited.now n ≡ Some Directory) (sym c.new.ensures)
    (root-awaited held c.args.awaited.now told tree))

pub returns-then-not-branch-clause-no : goal.returns-then-not-branch-clause-no
returns-then-not-branch-clause-no g c = λ _ held holds limits told tree.
    c.in_ok-follow_names.ensures.no c.if-not-branch.true held holds limits
    (naming-first held limits c.args.awaited.now c.take_awaited.new.awaited told
    (subst (λ (n : ℕ). IsTaken n Directory c.args.awaited.now c.take_awaited.new.awaited) c.new.ensures
    (c.take_awaited.ensures.yes c.if-not-take_awaited.false)))
    tree

pub returns-clause-yes : goal.returns-clause-yes
returns-clause-yes g c = λ t held holds limits told.
    let q = c.in_ok-follow_names.ensures.yes c.if-not-branch.false held holds limits
    (naming-first held limits c.args.awaited.now c.take_awaited.new.awaited told
    (subst (λ (n : ℕ). IsTaken n Directory c.args.awaited.now c.take_awaited.new.awaited) c.new.ensures
    (c.take_awaited.ensures.yes c.if-not-take_awaited.false))) in
    forms held limits q.0 c.follow_names.new.awaited q.1 (c.is_none_awaited.ensures.0 t)

pub returns-clause-no : goal.returns-clause-no
returns-clause-no g c = λ f held holds limits told tree.
    let q = c.in_ok-follow_names.ensures.yes c.if-not-branch.false held holds limits
    (naming-first held limits c.args.awaited.now c.take_awaited.new.awaited told
    (subst (λ (n : ℕ). IsTaken n Directory c.args.awaited.now c.take_awaited.new.awaited) c.new.ensures
    (c.take_awaited.ensures.yes c.if-not-take_awaited.false))) in
    both c.is_none_awaited.result
    (c.is_none_awaited.ensures.1 (none-awaited held limits q.0 c.follow_names.new.awaited q.1 tree)) f
