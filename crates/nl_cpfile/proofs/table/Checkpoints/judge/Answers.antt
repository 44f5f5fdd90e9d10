use Rattle.std.proofs.Common.{◌∙◌, ◌∷◌, ◌++◌, ◌<◌, [], List, ap, subst, sym}
use Rattle.std.specs.List.{All, AllPairs}
use Rattle.nl_cpfile.specs.declared.checkpoint.Checkpoint.{Checkpoint}
use Rattle.nl_types.specs.declared.row.Range.{Range}
use Rattle.nl_cpfile.specs.Inside.{table_of}
use Rattle.nl_types.specs.Plain.Rows.{rows_between, judged_range, range_removal}
use Rattle.nl_cpfile.specs.Tables.{RoomyTable, rows, rows_of}
use Rattle.nl_cpfile.proofs.Ranges.{range_removal-found, range_removal-none, removable-low, removable-rise}
use Rattle.nl_cpfile.proofs.table.Checkpoints.judge.Goals as goal

pub returns-then-is_empty-clause-judged : goal.returns-then-is_empty-clause-judged
returns-then-is_empty-clause-judged c = λ _.
    let t = table_of c.self.inside in
    let earlier =
    ap (λ (cs : List Checkpoint).
    judged_range t.latest.number
    (rows_between c.args.first c.args.last (rows_of (cs ++ t.latest ∷ []))))
    c.as_slice.ensures.value in
    range_removal-none c.args.first c.args.last t.latest.number (rows t) c.in_ok-range.range
    (sym c.if-is_no_range.ensures)
    (c.in_ok-range.ensures ∙ earlier) (sym c.if-is_empty.ensures)
    ∙ ap (λ (r : RoomyTable). range_removal c.args.first c.args.last r.table.latest.number (rows r.table))
    c.self.view_is

pub returns-clause-judged : goal.returns-clause-judged
returns-clause-judged c = λ _.
    let t = table_of c.self.inside in
    let earlier =
    ap (λ (cs : List Checkpoint).
    judged_range t.latest.number
    (rows_between c.args.first c.args.last (rows_of (cs ++ t.latest ∷ []))))
    c.as_slice.ensures.value in
    range_removal-found c.args.first c.args.last t.latest.number (rows t) c.in_ok-range.range
    (sym c.if-is_no_range.ensures)
    (c.in_ok-range.ensures ∙ earlier) (sym c.if-is_empty.ensures)
    ∙ ap (λ (r : RoomyTable). range_removal c.args.first c.args.last r.table.latest.number (rows r.table))
    c.self.view_is

pub returns-clause-rising : goal.returns-clause-rising
returns-clause-rising c =
    let t = table_of c.self.inside in
    let earlier =
    ap (λ (cs : List Checkpoint).
    judged_range t.latest.number
    (rows_between c.args.first c.args.last (rows_of (cs ++ t.latest ∷ []))))
    c.as_slice.ensures.value in
    subst (λ (range : Range). AllPairs ◌<◌ range.removed) (sym (c.in_ok-range.ensures ∙ earlier))
    (removable-rise c.args.first c.args.last t c.self.invariant)

pub returns-clause-low : goal.returns-clause-low
returns-clause-low c =
    let t = table_of c.self.inside in
    let earlier =
    ap (λ (cs : List Checkpoint).
    judged_range t.latest.number
    (rows_between c.args.first c.args.last (rows_of (cs ++ t.latest ∷ []))))
    c.as_slice.ensures.value in
    subst
    (λ (r : RoomyTable). All (λ n. n < r.table.latest.number) c.in_ok-range.range.removed) c.self.view_is
    (subst (λ (range : Range). All (λ n. n < t.latest.number) range.removed)
    (sym (c.in_ok-range.ensures ∙ earlier)) (removable-low c.args.first c.args.last t c.self.invariant))
