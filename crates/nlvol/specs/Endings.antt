-- How a session ends behind its script: where that is asked for, the volume's image is saved.
use Rattle.std.specs.Prelude.{◌≡◌, ◌≢◌, ◌⊎◌, ◌++◌, ℕ, Bool, true, false, List, Option, None, Some, Ok, Err, string_bytes}
use Rattle.nl_types.specs.declared.error.VolError.{VolError}
use Rattle.nl_types.specs.declared.error.VolError.TheVariants.{Fault, Memory}
use Rattle.nl_types.specs.declared.event.Event.TheVariants.{Checkpoint}
use Rattle.nl_types.specs.declared.event.Mode.TheVariants.{Plain}
use Rattle.nl_types.specs.declared.reply.Answer.{Answer}
use Rattle.nl_commit.specs.Layout.{Does, IsPen, Layout, unshared}
use Rattle.nl_core.specs.PenImages.{CanBeClosed, IsPenImage}
use Rattle.nl_saving.specs.SideNames.{IsSideName}
use Rattle.nl_saving.specs.declared.sides.SideNames.{SideNames}
use Rattle.nl_script.specs.Ends.{exit_status}
use Rattle.nl_script.specs.declared.texts.ends.Done.{Done}
use Rattle.nl_script.specs.RefusalTexts.{changed_text, save_text, taken_text, unwritten_text}
use Rattle.nl_script.specs.Texts.{Text}
use Rattle.nlvol.specs.Telling.{Errors, Tells, failure_text}
use Rattle.nlvol.specs.declared.ending.SaveFault.{SaveFault}
use Rattle.nlvol.specs.declared.ending.SaveFault.TheVariants as fault
use Rattle.nlvol.specs.declared.telling.SessionEnd.{SessionEnd}

-- a plain checkpoint is made where something is dirty
abbrev pub IsSettled : (dirty : Bool) → (moment : ℕ) → Layout → Layout → Type 0
IsSettled false moment old new = new ≡ old
IsSettled true moment old new =
    (answer : Answer) × Does unshared old (Checkpoint Plain moment) (Ok answer) new

-- and then the image is that of the pen, which can be closed
pub record SavesFrom (moment : ℕ) (left : Layout) (image : List ℕ) : Type 0 where
  pub closed : Layout
  pub settled : IsSettled left.lists.dirty moment left closed
  pub pen : IsPen closed
  pub can_be : CanBeClosed closed.lists
  pub image_is : IsPenImage closed image

-- the checkpoint is refused
pub record IsUnsettled (moment : ℕ) (left : Layout) (error : VolError) : Type 0 where
  pub after : Layout
  pub dirty : left.lists.dirty ≡ true
  pub does : Does unshared left (Checkpoint Plain moment) (Err error) after

-- or the image is, for want of memory or a fault of the device
abbrev pub IsSaveRefused : (moment : ℕ) → Layout → VolError → Type 0
IsSaveRefused moment left error = IsUnsettled moment left error ⊎ ((error ≡ Fault) ⊎ (error ≡ Memory))

-- an image that isn't saved counts as a refusal
abbrev pub unsaved : Done → Done
unsaved done = record done { refused = true }

-- ---- why it isn't saved

-- the ends of the names that a new file may have beside one of some name
pub record AreSideNames (names : SideNames) : Type 0 where
  pub name : Text
  pub first_is : IsSideName name 0 (string_bytes names.first)
  pub last_is : IsSideName name 99 (string_bytes names.last)

-- the checkpoint or the image is refused; or its file isn't written, of which no contract speaks but for the
-- names that are told
abbrev pub IsSaveFault : (moment : ℕ) → Layout → SaveFault → Type 0
IsSaveFault moment left (fault.Refused error) = IsSaveRefused moment left error
IsSaveFault moment left (fault.Taken names) = AreSideNames names
IsSaveFault moment left _ = Unit {0}

-- what is told of it, with the path as it was given
abbrev pub IsTextOf : (path : Text) → SaveFault → (text : Text) → Type 0
IsTextOf path fault.Unwritten text = text ≡ unwritten_text path
IsTextOf path (fault.Taken names) text =
    text ≡ taken_text path (string_bytes names.first) (string_bytes names.last)
IsTextOf path (fault.Refused error) text = text ≡ save_text error
IsTextOf path (fault.Changed side) text = (beside : Text) × (text ≡ changed_text path beside)

pub record IsUnsavedText (path : Text) (moment : ℕ) (left : Layout) (text : Text) : Type 0 where
  pub fault : SaveFault
  pub is_fault : IsSaveFault moment left fault
  pub is_text : IsTextOf path fault text

-- ---- the end

-- the status is the script's; what is to be told is which stream failed, and nothing is told if none did
pub record IsQuietEnd {E : Type 0} (done : Done) (text : Text) (errors told : E) (status : ℕ) : Type 0 where
  pub status_is : status ≡ exit_status done
  pub text_is : text ≡ failure_text done.failed
  pub silent : done.failed ≡ None → told ≡ errors

-- Nothing is to be saved; or the image of what the script left is, at its last moment; or that isn't. Then
-- why is to be told too. What is in the file then is known to no contract.
pub data Ends {E : Type 0} (save : Option Text) (left : Layout) (done : Done) (text : Text)
    (errors told : E) (status : ℕ) : Type 0 where
  Plainly : save ≡ None → IsQuietEnd done text errors told status
      → Ends save left done text errors told status
  Saved : (image : List ℕ) → save ≢ None → SavesFrom done.moment left image
      → IsQuietEnd done text errors told status
      → Ends save left done text errors told status
  Unsaved : (path why : Text) → save ≡ Some path → IsUnsavedText path done.moment left why
      → text ≡ failure_text done.failed ++ why
      → status ≡ exit_status (unsaved done)
      → Ends save left done text errors told status

-- and the text is told
pub record TellsEnd {E : Type 0} (save : Option Text) (left : Layout) (done : Done) (errors : Errors E)
    (end : SessionEnd) : Type 0 where
  pub text : Text
  pub ends : Ends save left done text errors.before errors.after end.status
  pub tells : Tells text errors end.told
