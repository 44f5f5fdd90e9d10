use Rattle.std.proofs.Common.{◌+◌, ◌-◌, ◌/◌, IsTrue, drop, ap, sym, ◌∙◌, arith}
use Rattle.std.specs.FinMap.{is_sorted}
use Rattle.nl_types.specs.Plain.Paths.{Path, path_cmp}
use Rattle.nl_folders.proofs.SortedTrees.{found_behind, less_is, place_is}
use Rattle.nl_folders.proofs.LookSpans.{agree_before, agree_behind, decided, not_below, shared}
use Rattle.nl_folders.proofs.looking.halved.Goals as goal

pub returns-then-is_lt-clause-between : goal.returns-then-is_lt-clause-between
returns-then-is_lt-clause-between g c =
    let entries = c.args.entries.now in
    let path = c.args.path.now in
    let span = c.args.span in
    let b = c.requires.between in
    let e = c.index-entries-middle.result in
    let k = span.low + (span.high - span.low) / 2 in
    let rest = drop (k + 1) entries in
    let found = c.as_slice-found.result.now in
    let count = c.shared_names-shared.result in
    let is = c.as_slice-found.ensures ∙ ap (λ (x : Path × g.row.T.Denot). x.0) (sym c.index-entries-middle.is) in
    let place = place_is entries k e (omega (arith, c.requires.open, b.within)) c.index-entries-middle.is in
    let agree = λ (sorted : IsTrue (is_sorted path_cmp entries)).
    shared entries rest path k e place sorted found span c.min.result count is b
    (omega arith) (omega (arith, c.requires.open)) (omega (arith, c.min.ensures)) (omega (arith, c.min.ensures))
    c.shared_names-shared.ensures.same in
    let less = λ (sorted : IsTrue (is_sorted path_cmp entries)).
    less_is _
    (decided entries rest path k e place sorted count found c.compare.result is (agree sorted)
    c.compare.ensures
    ∙ sym c.is_lt.ensures ∙ c.if-is_lt.true) in
    record {
      ordered = omega (arith, c.requires.open);
      within = b.within;
      passed = λ sorted. found_behind entries rest e k path sorted place (less sorted);
      ended = b.ended;
      below = λ sorted. agree_behind entries rest path k e place sorted count (less sorted) (agree sorted);
      above = b.above;
    }

pub returns-else-is_lt-clause-between : goal.returns-else-is_lt-clause-between
returns-else-is_lt-clause-between g c =
    let entries = c.args.entries.now in
    let path = c.args.path.now in
    let span = c.args.span in
    let b = c.requires.between in
    let e = c.index-entries-middle.result in
    let k = span.low + (span.high - span.low) / 2 in
    let rest = drop (k + 1) entries in
    let found = c.as_slice-found.result.now in
    let count = c.shared_names-shared.result in
    let is = c.as_slice-found.ensures ∙ ap (λ (x : Path × g.row.T.Denot). x.0) (sym c.index-entries-middle.is) in
    let place = place_is entries k e (omega (arith, c.requires.open, b.within)) c.index-entries-middle.is in
    let agree = λ (sorted : IsTrue (is_sorted path_cmp entries)).
    shared entries rest path k e place sorted found span c.min.result count is b
    (omega arith) (omega (arith, c.requires.open)) (omega (arith, c.min.ensures)) (omega (arith, c.min.ensures))
    c.shared_names-shared.ensures.same in
    record {
      ordered = omega (arith, c.requires.open);
      within = omega (arith, c.requires.open, b.within);
      passed = b.passed;
      ended = λ sorted.
          not_below entries rest path k e place sorted
          (decided entries rest path k e place sorted count found c.compare.result is (agree sorted)
          c.compare.ensures
          ∙ sym c.is_lt.ensures ∙ c.if-is_lt.false);
      below = b.below;
      above = λ sorted. agree_before entries rest path k e place sorted count (agree sorted);
    }
