-- The exchange that adds an entry keeps the rule.
use Rattle.std.proofs.Common.{◌≡◌, ℕ, ◌+◌, ◌<◌, ◌==◌, Bool, true, false, List, [], ◌∷◌, ◌++◌, length, refl, ap, sym, subst, arith, inl, length-append, None}
use Rattle.std.proofs.lemmas.List.{append-nil}
use Rattle.std.proofs.lemmas.Bool.Decides.{nat_tests}
use mathlib.Core.List.{IsPrefix}
use prog.Atomic.{either}
use Rattle.logbook.specs.Pages.{Cell, cell, keeps, no_nib, step, Moves, Goes}
use Rattle.nl_commit.specs.declared.commit.Commit.{Commit}
use Rattle.nl_publish.specs.Histories.{IsBegun}
use Rattle.nl_publish.specs.Rules.{IsRecorded, Adds}
use Rattle.nl_publish.proofs.Fronts.{prefix_whole}

abbrev pub shown : List Commit → List Commit
shown log = []

abbrev pub moved : List Commit → List Commit → ℕ → Type 0
moved xs ys n = Unit {0}

pub adds_goes : (log v : List Commit) (e : Commit) (old : ℕ) → length v ≡ old → IsBegun (v ++ e ∷ [])
    → IsBegun log → IsPrefix v log
    → (b : Bool) → (length log == old) ≡ b
    → Goes IsRecorded shown moved 0 (v, (no_nib, None)) (λ n. either (n == old) (old + 1) n)
    (Adds (step 0 old (old + 1) e) (v, (no_nib, None))) ((length log, true) ∷ (0, true) ∷ []) log
adds_goes log v e old len may legal pre true is =
    let here : length log ≡ old = grind (arith, nat_tests) in
    let same : v ≡ log = prefix_whole v log pre (omega arith) in
    let legal' : IsBegun (log ++ e ∷ []) = subst (λ l. IsBegun (l ++ e ∷ [])) same may in
    let n : either (length log == old) (old + 1) (length log) ≡ length (log ++ e ∷ []) =
    rw is (omega (arith, length-append log (e ∷ []))) in (
      keeps,
      e ∷ [],
      None,
      tt,
      record { words = ap (λ (k : ℕ). (k, true) ∷ (0, true) ∷ []) n; begun = legal' },
      inl (refl, refl),
      rw is (ap (λ w. w ++ e ∷ []) (sym same), legal'),
    )
adds_goes log v e old len may legal pre false is =
    let all : log ++ [] ≡ log = append-nil log in
    let legal' : IsBegun (log ++ []) = subst IsBegun (sym all) legal in
    let n : either (length log == old) (old + 1) (length log) ≡ length (log ++ []) =
    rw is (ap length (sym all)) in (
      keeps,
      [],
      None,
      tt,
      record { words = ap (λ (k : ℕ). (k, true) ∷ (0, true) ∷ []) n; begun = legal' },
      inl (refl, refl),
      rw is (ap length all, legal'),
    )

-- whatever the book is, the exchange adds the entry to all that was seen, or finds that the history is longer
pub adds_moves : (v : List Commit) (e : Commit) (old : ℕ) → length v ≡ old → IsBegun (v ++ e ∷ [])
    → Moves IsRecorded shown moved 0 (v, (no_nib, None)) (λ n. either (n == old) (old + 1) n)
    (Adds (step 0 old (old + 1) e) (v, (no_nib, None)))
adds_moves v e old len may cs log kept pre away =
    let P : List Cell → Type 0 = λ c.
    (0 < length c) × ((cell c 0).1 ≡ true)
    × Goes IsRecorded shown moved 0 (v, (no_nib, None)) (λ n. either (n == old) (old + 1) n)
    (Adds (step 0 old (old + 1) e) (v, (no_nib, None))) c log in
    subst P (sym kept.words)
    (omega arith, refl, adds_goes log v e old len may kept.begun pre (length log == old) refl)
