-- Which of the segments that may be cleaned are chosen: the oldest.
use Rattle.std.specs.Prelude.{◌≡◌, ◌⊎◌, ◌<◌, ◌≤◌, ℕ, zero, suc, All, AllPairs, Contains, List, [], ◌++◌, ◌∷◌, length, map, Option, None, Some}
use Rattle.nl_cleaner.specs.declared.choice.Candidate.{Candidate}

abbrev pub stamp_of : Candidate → ℕ
stamp_of c = c.stamp

abbrev pub segment_of : Candidate → ℕ
segment_of c = c.segment

abbrev pub with_candidate : List Candidate → Option Candidate → List Candidate
with_candidate cs None = cs
with_candidate cs (Some c) = cs ++ c ∷ []

-- what f gives of the first n segments, in their order
abbrev pub candidates_in : (ℕ → Option Candidate) → ℕ → List Candidate
candidates_in f zero = []
candidates_in f (suc n) = with_candidate (candidates_in f n) (f n)

-- its last log is older, or it is as old and has the lower number
abbrev pub IsOlderCandidate : Candidate → Candidate → Type 0
IsOlderCandidate a b = (a.stamp < b.stamp) ⊎ ((a.stamp ≡ b.stamp) × (a.segment < b.segment))

abbrev pub InOrder : List Candidate → Type 0
InOrder cs = AllPairs IsOlderCandidate cs

abbrev pub Ascend : List Candidate → Type 0
Ascend cs = AllPairs (λ a b. a.segment < b.segment) cs

-- at most so many of them are chosen, in their order, and no other comes before one of these
pub record AreFirst (most : ℕ) (found chosen : List Candidate) : Type 0 where
  pub in_order : InOrder chosen
  pub few : length chosen ≤ most
  pub among : All (Contains found) chosen
  pub rest : (c : Candidate) → Contains found c
      → Contains chosen c ⊎ ((length chosen ≡ most) × All (λ v. IsOlderCandidate v c) chosen)

-- these are the segments of the first of them
pub record AreChosen (most : ℕ) (found : List Candidate) (segments : List ℕ) : Type 0 where
  pub chosen : List Candidate
  pub first : AreFirst most found chosen
  pub theirs : segments ≡ map segment_of chosen
