use Rattle.std.proofs.Common.{◌≡◌, sym, subst, length}
use Rattle.std.proofs.lemmas.Result.{IfErr-weaker, IfOk-weaker}
use Rattle.nl_manifests.specs.HostTrees.{HostTree}
use Rattle.nl_shown.specs.Reverted.{IsInOrder}
use Rattle.nl_shown.specs.Private.Inserting.{FoldersAbove, RefusesFolders}
use Rattle.nl_shown.proofs.RevertedTrees.{known, known_is, known_sorted, part_refused, without_part}
use Rattle.nl_shown.proofs.reverting.without_part.Goals as goal
use Rattle.nl_shown.proofs.reverting.without_part.Goals.{After-with_folders}

-- what the folders come to
is_known : (c : After-with_folders) → IsInOrder c.args.earlier.now
    → c.in_ok-rest-2.rest ≡ known c.args.tree c.args.earlier.now c.args.top.now
is_known c other =
    known_is c.args.tree c.args.earlier.now c.args.top.now c.saturating_sub.result c.attributes_at.result
    c.in_ok-rest.rest c.in_ok-rest-2.rest c.saturating_sub.ensures (c.attributes_at.ensures other)
    c.in_ok-rest.ensures c.in_ok-rest-2.ensures

is_sorted : (c : After-with_folders) → IsInOrder c.args.tree → IsInOrder c.args.earlier.now
    → IsInOrder c.in_ok-rest-2.rest
is_sorted c sorted other =
    subst (λ (t : HostTree). IsInOrder t) (sym (is_known c other))
    (known_sorted c.args.tree c.args.earlier.now c.args.top.now sorted)

pub returns-clause-done : goal.returns-clause-done
returns-clause-done c =
    IfOk-weaker c.with_folders.result _ _ (λ new above sorted other.
    without_part c.args.tree c.args.earlier.now c.args.top.now new
    (subst (λ (t : HostTree). FoldersAbove c.args.top.now (length c.args.top.now) c.args.earlier.now t new)
    (is_known c other) (above (is_sorted c sorted other) other)))
    c.with_folders.ensures.done

pub returns-clause-refused : goal.returns-clause-refused
returns-clause-refused c =
    IfErr-weaker c.with_folders.result _ _ (λ e refuses sorted other.
    part_refused c.args.tree c.args.earlier.now c.args.top.now e
    (subst (λ (t : HostTree). RefusesFolders c.args.top.now t e) (is_known c other)
    (refuses (is_sorted c sorted other) other)))
    c.with_folders.ensures.refused
