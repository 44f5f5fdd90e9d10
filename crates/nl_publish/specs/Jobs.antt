-- What many reads answer.
use Rattle.std.specs.Prelude.{ℕ, ◌≡◌, ◌⊎◌, List, [], ◌∷◌, All, slice_get, Some, Result, Err}
use Rattle.std.specs.List.{AllZip}
use Rattle.nl_types.specs.declared.error.VolError.{VolError}
use Rattle.nl_types.specs.declared.error.VolError.TheVariants.{BadMount, Memory}
use Rattle.nl_types.specs.Plain.Trees.{Tree}
use Rattle.nl_commit.specs.Commits.{shown_after}
use Rattle.nl_publish.specs.Histories.{Known}
use Rattle.nl_publish.specs.Mounts.{Claim}
use Rattle.nl_publish.specs.Told.{TreeOn}
use Rattle.nl_publish.specs.declared.many.ReadJob.{ReadJob}
use Rattle.nl_publish.specs.Reading.{HasLearned, IsBytesOf, IsLater}

abbrev pub JobAnswer : Type 0
JobAnswer = Result (List ℕ) VolError

-- the job is refused for its mount; or it gets what the tree says that the mount's checkpoint had when the
-- mount was told, the bytes or a refusal; or it is refused for memory
abbrev pub IsAnswerTo : Claim → ReadJob → JobAnswer → Type 0
IsAnswerTo m job answer = (t : Tree) → TreeOn (shown_after m.told.commits) m.checkpoint t
    → (answer ≡ Err BadMount) ⊎ IsBytesOf t job.path job.offset job.len answer

-- the answer to a job that no answer came to
abbrev pub no_memory : ReadJob → JobAnswer
no_memory job = Err Memory

-- each job has its answer
abbrev pub AreAnswers : Claim → List ReadJob → List JobAnswer → Type 0
AreAnswers m jobs answers = AllZip (IsAnswerTo m) jobs answers

-- a reader is later, and the same but for what it has seen
pub record IsLaterReader {P : Type 0} (known : P → Known) (with_known : P → Known → P) (old new : P)
    : Type 0 where
  pub later : IsLater (known old) (known new)
  pub kept : new ≡ with_known old (known new)

abbrev pub AreLaterReaders : {P : Type 0} → (P → Known) → (P → Known → P) → (old new : List P) → Type 0
AreLaterReaders known with_known old new = AllZip (IsLaterReader known with_known) old new

-- The laws of readers: what each has seen is its own, and one that comes back to its place is the one that was
-- taken there, but for what it has seen.
pub record ReaderLaws {P : Type 0} (known : P → Known) (with_known : P → Known → P) (taken left : P → P)
    (joined : P → P → P) : Type 0 where
  pub known_with : (r : P) (k : Known) → known (with_known r k) ≡ k
  pub known_taken : (r : P) → known (taken r) ≡ known r
  pub known_left : (r : P) → known (left r) ≡ known r
  pub with_more : (r : P) (k l : Known) → with_known (with_known r k) l ≡ with_known r l
  pub same_known : (r : P) → with_known r (known r) ≡ r
  pub joined_again : (r : P) (k : Known) → joined (left r) (taken (with_known (taken r) k)) ≡ with_known r k

-- readers that have learned of a mount
abbrev pub HaveLearned : {P : Type 0} → (P → Known) → Claim → List P → Type 0
HaveLearned known m readers = All (λ reader. HasLearned m (known reader)) readers

-- ---- lanes

-- an answer, with the place of its job
abbrev pub IsPlaced : Claim → List ReadJob → ℕ × JobAnswer → Type 0
IsPlaced m jobs a = (job : ReadJob) → slice_get jobs a.0 ≡ Some job → IsAnswerTo m job a.1

abbrev pub ArePlaced : Claim → List ReadJob → List (ℕ × JobAnswer) → Type 0
ArePlaced m jobs [] = Unit {0}
ArePlaced m jobs (a ∷ answers) = IsPlaced m jobs a × ArePlaced m jobs answers

-- a reader out of its place, and what it has answered
pub record LaneView (P : Type 0) : Type 0 where
  pub reader : P
  pub answers : List (ℕ × JobAnswer)

-- a lane that has not run
abbrev pub idle : {P : Type 0} → (taken : P → P) → P → LaneView P
idle taken reader = record { reader = taken reader; answers = [] }

-- a lane that began with a reader and has run
pub record HasRunFor {P : Type 0} (known : P → Known) (with_known : P → Known → P) (m : Claim)
    (jobs : List ReadJob) (began : P) (lane : LaneView P) : Type 0 where
  pub later : IsLaterReader known with_known began lane.reader
  pub learned : HasLearned m (known lane.reader)
  pub answers : ArePlaced m jobs lane.answers

abbrev pub HasRunBy : {P : Type 0} → (P → Known) → (P → Known → P) → Claim → List ReadJob
    → (old new : LaneView P) → Type 0
HasRunBy known with_known m jobs old new = HasRunFor known with_known m jobs old.reader new

-- ---- readers that come back

-- a place that has its lane's reader back
abbrev pub with_back : {P : Type 0} → (P → P → P) → (taken : P → P) → P → LaneView P → P
with_back joined taken place lane = joined place (taken lane.reader)

-- so have all
abbrev pub all_back : {P : Type 0} → (P → P → P) → (taken : P → P) → List P → List (LaneView P) → List P
all_back joined taken [] lanes = []
all_back joined taken (p ∷ places) [] = p ∷ places
all_back joined taken (p ∷ places) (l ∷ lanes) =
    with_back joined taken p l ∷ all_back joined taken places lanes

-- what lanes have answered has its places, and each reader has seen no less than its place
pub record IsLaneOver {P : Type 0} (known : P → Known) (m : Claim) (jobs : List ReadJob) (place : P)
    (lane : LaneView P) : Type 0 where
  pub later : IsLater (known place) (known lane.reader)
  pub answers : ArePlaced m jobs lane.answers

abbrev pub AreLanesOver : {P : Type 0} → (P → Known) → Claim → List ReadJob → List P → List (LaneView P)
    → Type 0
AreLanesOver known m jobs places lanes = AllZip (IsLaneOver known m jobs) places lanes
