-- What moves out of segments and retirements of segments leave of a pen.
use Rattle.std.specs.Prelude.{◌≡◌, ℕ, List, [], Some, map, false}
use Rattle.nl_types.specs.declared.error.VolError.{VolError}
use Rattle.nl_types.specs.Blocks.Entries.{Place}
use Rattle.nl_types.specs.Blocks.Lifetimes.{Allowed, Numbers, Frees, Makes, ledger_after}
use Rattle.nl_types.specs.Plain.Worlds as worlds
use Rattle.nl_types.specs.Plain.Worlds.{World}
use Rattle.nl_cpfile.specs.declared.checkpoint.Checkpoint.{Checkpoint}
use Rattle.nl_vstore.specs.Stores.{IsMoved, IsMoveRefused, IsReclaimed, IsStore, address_in, is_inside}
use Rattle.nl_reclaim.specs.Moves.{KeptStore, needed_now}
use Rattle.nl_reclaim.specs.Reclaims.{stood_in}
use Rattle.nl_commit.specs.Draft.{HasNextNumber}
use Rattle.nl_commit.specs.Layout.{IsPen, KeepsNumbers, Layout, MeansWorld, layout_of, ledger_of}
use Rattle.nl_commit.specs.Volume.{kept_by, with_minor}

abbrev pub kept_number : Checkpoint → ℕ
kept_number c = c.number

-- a pen as its cleaner sees it: its store, and the numbers of its kept checkpoints
abbrev pub kept_store : Layout → KeptStore
kept_store l = record { kept = map kept_number (kept_by l.lists); store = l.store }

-- ---- moves

-- the same numbers are in use for the same, each kept checkpoint reaches the same ones, and the same worlds
-- are meant
pub record StaysPen (old new : Layout) : Type 0 where
  pub pen : IsPen new
  pub ledger : ledger_of new ≡ ledger_of old
  pub numbers : KeepsNumbers old new
  pub means : (w : World) → MeansWorld old w → MeansWorld new w

-- a move of pages leaves a pen that means the same
abbrev pub MovesKeepPens : Type 0
MovesKeepPens = (segment checkpoint stamp : ℕ) (numbers : List ℕ) (old new : Layout)
    → IsPen old → new.lists ≡ old.lists → IsStore new.store
    → IsMoved segment checkpoint stamp numbers old.store new.store → StaysPen old new

-- and so does one that is refused, be it in the middle of its writes
abbrev pub RefusedMovesKeepPens : Type 0
RefusedMovesKeepPens = (checkpoint stamp : ℕ) (numbers : List ℕ) (e : VolError) (old new : Layout)
    → IsPen old → new.lists ≡ old.lists → IsStore new.store
    → IsMoveRefused checkpoint stamp numbers old.store new.store e → StaysPen old new

-- ---- minor checkpoints

-- No number starts or ends at it: the ledger has one checkpoint more, which reaches what the latest one does,
-- and each world that was meant has one copy more.
pub record AddsMinor (moment : ℕ) (old new : Layout) : Type 0 where
  pub pen : IsPen new
  pub ledger : ledger_of new ≡ ledger_after (Makes [] []) (ledger_of old)
  pub numbers : KeepsNumbers old new
  pub means : (w : World) → MeansWorld old w → MeansWorld new (worlds.with_minor w moment)

-- so a minor checkpoint leaves a pen, where there is a number for it
abbrev pub MinorsKeepPens : Type 0
MinorsKeepPens = (moment : ℕ) (old : Layout) → IsPen old → HasNextNumber old.lists
    → AddsMinor moment old (layout_of (with_minor moment old.lists) old.store)

-- ---- retirements

-- The numbers whose pages stood in the segment are out of use, which is allowed, and the ledger is as it is
-- then. No kept checkpoint reaches one of them, and the same worlds are meant.
pub record LeavesPen (segment : ℕ) (old new : Layout) : Type 0 where
  pub allowed : Allowed (Frees (stood_in old.store segment)) (ledger_of old)
  pub unreached : (c v : ℕ) (q : Place) (numbers : Numbers)
      → (ledger_of old).kept c ≡ Some numbers → numbers q ≡ Some v
      → is_inside old.store.segments segment (address_in old.store v) ≡ false
  pub ledger : ledger_of new ≡ ledger_after (Frees (stood_in old.store segment)) (ledger_of old)
  pub pen : IsPen new
  pub numbers : KeepsNumbers old new
  pub means : (w : World) → MeansWorld old w → MeansWorld new w

-- a retirement of a segment that has no needed number leaves a pen
abbrev pub RetirementsKeepPens : Type 0
RetirementsKeepPens = (segment count : ℕ) (old new : Layout)
    → IsPen old → new.lists ≡ old.lists → IsStore new.store → needed_now (kept_store old) segment ≡ []
    → IsReclaimed segment count old.store new.store → LeavesPen segment old new
