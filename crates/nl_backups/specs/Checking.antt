-- What `check` finds of an image, and which images are sound.
use Rattle.std.specs.Prelude.{◌≡◌, ◌⊎◌, ◌↔◌, ℕ, Bool, true, List, [], Option, None, Some}
use Rattle.nl_types.specs.declared.error.VolError.TheVariants.{Fault, Memory}
use Rattle.nl_image.specs.Conditions.{AreImage, FirstFails}
use Rattle.nl_damage.specs.declared.later.Judged.{Judged}
use Rattle.nl_damage.specs.Judging.{IsJudgedOf}
use Rattle.nl_damage.specs.SumComparing.{IsBesideText, NoneDifferFrom, differing_in}
use Rattle.nl_backups.specs.declared.checking.Checked.{Checked}
use Rattle.nl_backups.specs.declared.checking.Verdict.{Verdict}
use Rattle.nl_backups.specs.declared.refusals.Refusal.{Refusal}
use Rattle.nl_backups.specs.declared.refusals.Refusal.TheVariants as refusal
use Rattle.nl_backups.specs.declared.summed.Beside.{Beside}
use Rattle.nl_backups.specs.declared.summed.Beside.TheVariants as beside
use Rattle.nl_backups.specs.declared.summed.SumFile.{SumFile}
use Rattle.nl_backups.specs.declared.summed.SumFile.TheVariants as file
use Rattle.nl_backups.specs.Hosts.{Holds, Image}

-- ---- conditions

-- the first that fails, and none of an image that meets all
abbrev pub HasFailing : Image → Option ℕ → Type 0
HasFailing image None = AreImage image
HasFailing image (Some n) = FirstFails n image

-- the later ones are judged where one fails and that is asked
abbrev pub JudgesLater : (is_all : Bool) → Image → (failing : Option ℕ) → Option Judged → Type 0
JudgesLater true image (Some n) None = ⊥
JudgesLater true image (Some n) (Some judged) = IsJudgedOf image judged
JudgesLater is_all image failing judged = judged ≡ None

-- ---- the sum

-- beside a text: it is no sum exactly if none is printed so
abbrev pub IsBesideSum : Image → (text : List ℕ) → Beside → Type 0
IsBesideSum image text beside.NoSum = IsBesideText image text None
IsBesideSum image text (beside.Compared comparison) = IsBesideText image text (Some comparison)
IsBesideSum image text told = ⊥

abbrev pub IsBesideFile : Image → SumFile → Beside → Type 0
IsBesideFile image file.Missing told = told ≡ beside.Missing
IsBesideFile image file.Unread told = told ≡ beside.Unread
IsBesideFile image (file.Text text) told = IsBesideSum image text told

-- the segments that differ
abbrev pub differing_beside : Beside → List ℕ
differing_beside (beside.Compared comparison) = differing_in comparison
differing_beside told = []

-- no segment differs from the sum, if there is one
abbrev pub NoneDifferFromFile : Image → SumFile → Type 0
NoneDifferFromFile image (file.Text text) = NoneDifferFrom image text
NoneDifferFromFile image other = Unit {0}

-- ---- soundness

-- All conditions hold, and no segment differs from the sum that stands beside the image. A sum of another save,
-- or none, tells of no segment.
pub record IsSound (image : Image) (file : SumFile) : Type 0 where
  pub is_image : AreImage image
  pub none_differ : NoneDifferFromFile image file

-- the verdict finds no fault
pub record TellsSound (v : Verdict) : Type 0 where
  pub none_fails : v.failing ≡ None
  pub none_differ : differing_beside v.beside ≡ []

-- ---- verdicts

pub record IsVerdict (is_all : Bool) (image : Image) (file : SumFile) (v : Verdict) : Type 0 where
  pub failing : HasFailing image v.failing
  pub is_beside : IsBesideFile image file v.beside
  pub judged : JudgesLater is_all image v.failing v.judged
  pub sound : TellsSound v ↔ IsSound image file

-- it is over an image and what stands where its sum is due
pub record Judges (is_all : Bool) (image : Image) (sum : Option SumFile) (v : Verdict) : Type 0 where
  pub file : SumFile
  pub is_file : Holds sum file
  pub verdict : IsVerdict is_all image file v

-- and the image stands in its place
pub record Checks (is_all : Bool) (place : Option Image) (sum : Option SumFile) (c : Checked) : Type 0 where
  pub is_image : Holds place c.image
  pub judges : Judges is_all c.image sum c.verdict

-- the same of the sum alone
pub record IsCompared (image : Image) (sum : Option SumFile) (told : Beside) : Type 0 where
  pub file : SumFile
  pub is_file : Holds sum file
  pub is_beside : IsBesideFile image file told
  pub exact : (differing_beside told ≡ []) ↔ NoneDifferFromFile image file

-- ---- refusals

-- the host doesn't give the image or what stands beside it, or memory lacks
abbrev pub RefusesChecking : Refusal → Type 0
RefusesChecking refusal.Host = Unit {0}
RefusesChecking (refusal.Volume e) = (e ≡ Fault) ⊎ (e ≡ Memory)
RefusesChecking other = ⊥
