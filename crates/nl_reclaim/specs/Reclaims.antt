-- What a retirement is to the kept checkpoints.
use Rattle.std.specs.Prelude.{◌≡◌, ℕ, if◌then◌else◌, Bool, true, false, [], None, Some}
use Rattle.nl_types.specs.Blocks.Entries.{Place}
use Rattle.nl_types.specs.Blocks.Lifetimes.{Allowed, HasExactLifetimes, Ledger, Numbers, Frees}
use Rattle.nl_types.specs.Plain.NumberLists.{is_one_of}
use Rattle.nl_vstore.specs.Stores.{Store, IsStore, IsReclaimed, address_in, content_in, is_inside}
use Rattle.nl_reclaim.specs.Moves.{KeptStore, needed_now}

-- a ledger over this store, in which no other checkpoints are kept
pub record IsLedgerOf (ledger : Ledger) (s : KeptStore) : Type 0 where
  pub content : ledger.content ≡ content_in s.store
  pub kept : (c : ℕ) (numbers : Numbers) → ledger.kept c ≡ Some numbers → is_one_of s.kept c ≡ true

-- whether the page of a number stands in the segment
abbrev pub stood_in : Store → ℕ → ℕ → Bool
stood_in s segment v = is_inside s.segments segment (address_in s v)

-- Emptying a segment that has no needed number takes out numbers of which no kept checkpoint has one, and no
-- others.
abbrev pub RetiringIsAllowed : Type 0
RetiringIsAllowed =
    (segment count : ℕ) (ledger : Ledger) (old new : KeptStore) → IsStore old.store → IsLedgerOf ledger old
    → needed_now old segment ≡ [] → IsReclaimed segment count old.store new.store
    → Allowed (Frees (stood_in old.store segment)) ledger
    × ((v : ℕ) → content_in new.store v
    ≡ (if stood_in old.store segment v then None else content_in old.store v))

-- No number that a kept checkpoint reaches stands in a segment that has no needed one.
abbrev pub RetiredSegmentsAreUnreached : Type 0
RetiredSegmentsAreUnreached =
    (segment c v : ℕ) (q : Place) (numbers : Numbers) (ledger : Ledger) (s : KeptStore) → IsStore s.store
    → IsLedgerOf ledger s → HasExactLifetimes ledger → needed_now s segment ≡ []
    → ledger.kept c ≡ Some numbers → numbers q ≡ Some v
    → is_inside s.store.segments segment (address_in s.store v) ≡ false
