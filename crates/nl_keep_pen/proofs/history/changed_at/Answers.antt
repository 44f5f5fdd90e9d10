use Rattle.std.proofs.Common.{ℕ, ◌≡◌, ◌+◌, true, None, List, [], ◌∷◌, drop, inl, refl, subst, sym}
use Rattle.std.specs.List.{cons_option}
use Rattle.std.proofs.lemmas.List.{append-nil, drop_all}
use Rattle.std.proofs.lemmas.Result.{err_from_is_err_and}
use Rattle.nl_types.specs.Plain.NumberLists.{is_one_of}
use Rattle.nl_keep_pen.specs.History.{AreChanges}
use Rattle.nl_keep_pen.proofs.ChangeLists.{GoesOn, behind_among, few_among, few_kept, first_is, goes_on, refuses_among, refuses_one, rest_is}
use Rattle.nl_keep_pen.proofs.history.changed_at.Goals as goal

pub loop-number-preserved : goal.loop-number-preserved
loop-number-preserved g c =
    let i = c.loop-number.number-index in
    let numbers = c.args.numbers.now in
    let n = c.number-item.result in
    let before = c.loop-number.before in
    let changes = c.loop-number.changes in
    let left = drop (i + 1) numbers in
    let rest = rest_is numbers i n n c.loop-number-test.true c.number-item.is in
    let among = c.loop-number.invariant.among in
    let few = few_among numbers before i n n c.loop-number-test.true c.number-item.is among in
    record {
      among = λ q one.
          among q
          (subst (λ (ns : List ℕ). is_one_of (cons_option before ns) q ≡ true) (sym rest)
          (behind_among before (n ∷ left) q one));
      changes = λ w means kept.
          goes_on w c.args.path.now numbers left changes c.add_if.new.changes before n c.in_ok-is_change.is_change
          (subst (λ (ns : List ℕ). GoesOn w c.args.path.now numbers before ns changes) rest
          (c.loop-number.invariant.changes w means kept))
          (c.in_ok-is_change.ensures.change w means (few_kept w (cons_option before (n ∷ [])) numbers few kept))
          c.in_ok-add_if.ensures;
    }

pub returns-in_err-is_change-clause-refused : goal.returns-in_err-is_change-clause-refused
returns-in_err-is_change-clause-refused g c =
    let exits = c.from_residual-in_err-is_change in
    let p = err_from_is_err_and exits.result exits.ensures.1 in
    let n = c.number-item.result in
    let few = cons_option c.loop-number.before (n ∷ []) in
    let numbers = c.args.numbers.now in
    let among =
    few_among numbers c.loop-number.before c.loop-number.number-index n n c.loop-number-test.true c.number-item.is
    c.loop-number.invariant.among in
    rw (p.1, p.2) (λ w means kept.
    refuses_among w c.in_err-is_change.field-0.0 few numbers among
    (c.in_err-is_change.ensures.refused w means (few_kept w few numbers among kept)))

pub returns-in_err-add_if-clause-refused : goal.returns-in_err-add_if-clause-refused
returns-in_err-add_if-clause-refused g c =
    let exits = c.from_residual-in_err-add_if in
    let p = err_from_is_err_and exits.result exits.ensures.1 in
    let n = c.number-item.result in
    let before = c.loop-number.before in
    let among =
    few_among c.args.numbers.now before c.loop-number.number-index n n c.loop-number-test.true c.number-item.is
    c.loop-number.invariant.among in
    rw (p.1, p.2) (λ w means kept.
    refuses_one w _ c.args.numbers.now n (among n (behind_among before (n ∷ []) n (first_is n []))) kept
    (λ copy is. inl refl))

pub returns-clause-changes : goal.returns-clause-changes
returns-clause-changes g c w means =
    let numbers = c.args.numbers.now in
    let before = c.loop-number.before in
    let none_left = drop_all c.loop-number.number-index numbers c.loop-number-test.false in
    subst (AreChanges w c.args.path.now None numbers) (append-nil c.loop-number.changes)
    (c.loop-number.invariant.changes w means (c.in_ok-judge_all.ensures.kept w means) []
    (subst (λ (ns : List ℕ). AreChanges w c.args.path.now before ns []) (sym none_left) refl))
