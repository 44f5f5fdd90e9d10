use Rattle.std.proofs.Common.{◌≡◌, ap, sym, ◌∙◌, true, false}
use Rattle.nl_manifests.specs.Sealed.{is_host_tree, is_within_limits}
use Rattle.nl_manifests.proofs.Depths.{each_ends_by_length}
use Rattle.nl_manifests.proofs.SealedLimits.{is_tree}
use Rattle.nl_manifests.proofs.SealedParts.{sealed_by}
use Rattle.nl_manifests.proofs.SealedTrees.{none_is_refused, shows_it}
use Rattle.nl_manifests.proofs.sealing.seal.Goals as goal

pub put_all-requires : goal.put_all-requires
put_all-requires c =
    each_ends_by_length c.args.host.now (sym c.in_ok-is_shown.ensures ∙ c.if-not-is_shown.false)

pub returns-then-is_within_limits-clause-tree : goal.returns-then-is_within_limits-clause-tree
returns-then-is_within_limits-clause-tree c =
    let whole : is_host_tree c.args.host.now ≡ true = sym c.in_ok-is_shown.ensures ∙ c.if-not-is_shown.false in
    let tree = c.in_ok-tree.tree in
    let within : is_within_limits tree ≡ true =
    ap is_within_limits (sym c.as_slice.ensures) ∙ sym c.is_within_limits.ensures ∙ c.if-is_within_limits.true in
    is_tree c.args.host.now whole tree (sealed_by c.args.host.now whole tree c.in_ok-tree.ensures) within

pub returns-then-is_within_limits-clause-shows : goal.returns-then-is_within_limits-clause-shows
returns-then-is_within_limits-clause-shows c =
    let whole : is_host_tree c.args.host.now ≡ true = sym c.in_ok-is_shown.ensures ∙ c.if-not-is_shown.false in
    let tree = c.in_ok-tree.tree in
    shows_it c.args.host.now whole tree (sealed_by c.args.host.now whole tree c.in_ok-tree.ensures)

pub returns-then-is_within_limits-clause-told : goal.returns-then-is_within_limits-clause-told
returns-then-is_within_limits-clause-told c =
    let whole : is_host_tree c.args.host.now ≡ true = sym c.in_ok-is_shown.ensures ∙ c.if-not-is_shown.false in
    let tree = c.in_ok-tree.tree in
    none_is_refused c.args.host.now whole tree (sealed_by c.args.host.now whole tree c.in_ok-tree.ensures)

pub returns-then-is_within_limits-clause-sealed : goal.returns-then-is_within_limits-clause-sealed
returns-then-is_within_limits-clause-sealed c =
    let whole : is_host_tree c.args.host.now ≡ true = sym c.in_ok-is_shown.ensures ∙ c.if-not-is_shown.false in
    sealed_by c.args.host.now whole c.in_ok-tree.tree c.in_ok-tree.ensures

pub returns-else-is_within_limits-clause-refused : goal.returns-else-is_within_limits-clause-refused
returns-else-is_within_limits-clause-refused c =
    let whole : is_host_tree c.args.host.now ≡ true = sym c.in_ok-is_shown.ensures ∙ c.if-not-is_shown.false in
    let tree = c.in_ok-tree.tree in
    let beyond : is_within_limits tree ≡ false =
    ap is_within_limits (sym c.as_slice.ensures) ∙ sym c.is_within_limits.ensures ∙ c.if-is_within_limits.false in
    (tree, sealed_by c.args.host.now whole tree c.in_ok-tree.ensures, beyond)
