use Rattle.std.proofs.Common.{◌+◌, ◌-◌, drop, ap, sym, ◌∙◌, arith}
use Rattle.nl_types.specs.Plain.Trees.{lookup}
use Rattle.nl_folders.proofs.SortedTrees.{found_behind, less_is, place_is}
use Rattle.nl_folders.proofs.looking.sunk.Goals as goal

pub returns-then-is_below-clause-passed : goal.returns-then-is_below-clause-passed
returns-then-is_below-clause-passed c sorted =
    let entries = c.args.entries.now in
    let path = c.args.path.now in
    let e = c.index-entries-place.result in
    let k = c.loop-place.place - 1 in
    let place = place_is entries k e (omega (arith, c.loop-place.invariant.0)) c.index-entries-place.is in
    found_behind entries (drop (k + 1) entries) e k path sorted place
    (less_is _ (sym c.is_below.ensures ∙ c.if-is_below.true))
    ∙ ap (λ n. lookup (drop n entries) path) (omega arith)
