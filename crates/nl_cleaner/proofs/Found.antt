-- Steps of a round and of its plan.
use Rattle.std.proofs.Common.{◌≡◌, ℕ, zero, suc, ◌+◌, List, [], ◌∷◌, drop, Option, refl, sym, ap, ◌∙◌, add-one}
use Rattle.nl_cleaner.specs.Private.Choice.{with_candidate, candidates_in}
use Rattle.nl_cleaner.specs.declared.choice.Candidate.{Candidate}
use Rattle.nl_cleaner.specs.declared.job.Stage.{Stage}
use Rattle.nl_cleaner.specs.Job.{JobView, first_done}

drop-next : (n : ℕ) (xs : List ℕ) → drop (suc n) xs ≡ drop 1 (drop n xs)
drop-next zero xs = refl
drop-next (suc n) [] = refl
drop-next (suc n) (x ∷ xs) = drop-next n xs

abbrev round : Stage → (moment period : ℕ) → List ℕ → JobView
round stage moment period left = record { stage = stage; moment = moment; period = period; left = left }

-- one segment more is done
pub advanced : (stage : Stage) (moment period : ℕ) (victims : List ℕ) (done : ℕ)
    → round stage moment period (drop (done + 1) victims)
    ≡ first_done (round stage moment period (drop done victims))
advanced stage moment period victims done =
    ap (λ (n : ℕ). round stage moment period (drop n victims)) (add-one done)
    ∙ ap (round stage moment period) (drop-next done victims)

-- one segment more was looked at
pub found-next : (f : ℕ → Option Candidate) (n : ℕ) (old new : List Candidate) (o : Option Candidate)
    → old ≡ candidates_in f n → o ≡ f n → new ≡ with_candidate old o → new ≡ candidates_in f (n + 1)
found-next f n old new o before given after =
    after ∙ ap (λ (cs : List Candidate). with_candidate cs o) before
    ∙ ap (with_candidate (candidates_in f n)) given
    ∙ sym (ap (candidates_in f) (add-one n))
