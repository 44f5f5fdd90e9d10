-- What a reader answers through a mount.
use Rattle.std.specs.Prelude.{ℕ, ◌≡◌, ◌≢◌, ◌⊎◌, List, Some, None, Result}
use mathlib.Core.List.{IsPrefix}
use Rattle.nl_types.specs.declared.error.VolError.{VolError}
use Rattle.nl_types.specs.declared.reply.Answer.TheVariants.{Bytes}
use Rattle.nl_types.specs.Plain.Calls.{ShowsUnlessMemory, and_then, read}
use Rattle.nl_types.specs.Plain.Paths.{path_of}
use Rattle.nl_types.specs.Plain.Trees.{Tree}
use Rattle.nl_commit.specs.Commits.{IsHistory, shown_after}
use Rattle.nl_commit.specs.Shown.{mounted_on}
use Rattle.nl_publish.specs.Histories.{Known}
use Rattle.nl_publish.specs.Mounts.{Claim}
use Rattle.nl_publish.specs.Told.{TreeOn}

-- the second is known later than the first, of the same volume
pub record IsLater (old new : Known) : Type 0 where
  pub volume : new.volume ≡ old.volume
  pub commits : IsPrefix old.commits new.commits

-- what was seen begins with what the mount was told, where it is of the same volume
abbrev pub HasLearned : Claim → Known → Type 0
HasLearned m k = m.told.volume ≡ k.volume → IsPrefix m.told.commits k.commits

-- the bytes, or a refusal as the tree says, or one for memory
abbrev pub IsBytesOf : Tree → List ℕ → (offset len : ℕ) → Result (List ℕ) VolError → Type 0
IsBytesOf t path offset len result =
    ShowsUnlessMemory Bytes result (and_then (path_of path) (read t offset len))

-- What a call of a reader comes to. It is refused where the mount is another volume's, where it was given no
-- state that is as new as what it has seen, and where the state that it entered lacks the mount. Else the
-- answer is that of the mount's checkpoint in the state of one history, which goes on from what was seen, and
-- is what has been seen then.
pub data Looked (m : Claim) (old new : Known) (Ungiven Refused : Type 0) (Answers : Tree → Type 0) : Type 0 where
  Foreign : m.told.volume ≢ old.volume → new ≡ old → Refused → Looked m old new Ungiven Refused Answers
  NoState : m.told.volume ≡ old.volume → Ungiven → new ≡ old → Refused
      → Looked m old new Ungiven Refused Answers
  NoMount : m.told.volume ≡ old.volume → IsHistory new.commits
      → mounted_on (shown_after new.commits) m.number ≡ None → Refused
      → Looked m old new Ungiven Refused Answers
  Entered : (n : ℕ) → m.told.volume ≡ old.volume → IsHistory new.commits
      → mounted_on (shown_after new.commits) m.number ≡ Some n
      → ((t : Tree) → TreeOn (shown_after new.commits) n t → Answers t)
      → Looked m old new Ungiven Refused Answers

-- what is answered is true of the tree that the mount's checkpoint had when the mount was told
abbrev pub Told : Claim → (Refused : Type 0) → (Answers : Tree → Type 0) → Type 0
Told m Refused Answers = (t : Tree) → TreeOn (shown_after m.told.commits) m.checkpoint t → Refused ⊎ Answers t
