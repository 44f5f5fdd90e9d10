use Rattle.std.proofs.Common.{◌≡◌, ◌<◌, ℕ, length, ap, sym, ◌∙◌, arith}
use Rattle.nl_types.specs.Plain.Paths.{Path, is_within}
use Rattle.nl_folders.proofs.EntryParts.{part_ends}
use Rattle.nl_folders.proofs.SortedTrees.{path_read}
use Rattle.nl_folders.proofs.StepsDone.{within_itself}
use Rattle.nl_folders.specs.Private.Sides.{path_at}
use Rattle.nl_folders.proofs.moves.part_end.Goals as goal

pub loop-end-init : goal.loop-end-init
loop-end-init c k from below =
    let entries = c.args.entries.now in
    let top = path_at entries c.args.start in
    let same : c.args.start ≡ k = omega (arith, from, below) in
    ap (λ (n : ℕ). is_within top (path_at entries n)) (sym same) ∙ within_itself top

pub returns-then-not-begins_with-clause-part : goal.returns-then-not-begins_with-clause-part
returns-then-not-begins_with-clause-part c sorted =
    let entries = c.args.entries.now in
    let start = c.args.start in
    let end = c.loop-end.end in
    let within : end < length entries = c.loop-end-test.true in
    let first = path_read entries start c.index-entries-start.result c.requires in
    let last = path_read entries end c.index-entries-end.result within in
    part_ends entries start end sorted (omega (arith, c.loop-end.auto.end)) (omega (arith, within))
    c.loop-end.invariant
    (λ _.
    ap (λ (top : Path). is_within top (path_at entries end)) (first ∙ sym c.as_slice-top.ensures)
    ∙ ap (is_within c.as_slice-top.result.now) (last ∙ sym c.as_slice.ensures)
    ∙ sym c.begins_with.ensures.value
    ∙ c.if-not-begins_with.true)

pub returns-clause-part : goal.returns-clause-part
returns-clause-part c sorted =
    let entries = c.args.entries.now in
    let end = c.loop-end.end in
    part_ends entries c.args.start (length entries) sorted c.requires (omega arith)
    (λ k from below. c.loop-end.invariant k from (omega (arith, below, c.loop-end-test.false)))
    (λ past. absurd (omega (arith, past)))
