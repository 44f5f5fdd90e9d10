-- What moves and a retirement make of the needed numbers of each segment.
use Rattle.std.specs.Prelude.{◌≡◌, ◌≢◌, ◌≤◌, ℕ, zero, suc, ◌*◌, Bool, List, length, take, drop, Some, Result, Ok, IfOk}
use Rattle.nl_types.specs.declared.error.VolError.{VolError}
use Rattle.nl_types.specs.declared.segment.SegmentInfo.{SegmentInfo}
use Rattle.nl_types.specs.declared.segment.SegmentState.TheVariants.{Dirty}
use Rattle.nl_types.specs.Blocks.Segments.{IsClosed, clean_info, info_of}
use Rattle.nl_types.specs.Blocks.Entries.{Entry, is_needed}
use Rattle.nl_vstore.specs.Stores.{Store, IsStore, IsMoved, IsMoveRefused, IsReclaimed, content_in}
use Rattle.nl_vstore.specs.Located.{numbers_in, needed_in}
use Rattle.nl_reclaim.specs.Cleaning.{HasListedFirst, HasListedNone, HasMovedFirst, HasMovedNone, retired, split}

-- a store, and the numbers of the kept checkpoints: a volume, as its cleaner sees it
pub record KeptStore : Type 0 where
  pub kept : List ℕ
  pub store : Store

abbrev pub needed_now : KeptStore → ℕ → List ℕ
needed_now s segment = needed_in s.store (is_needed s.kept) segment

abbrev pub info_now : KeptStore → ℕ → SegmentInfo
info_now s segment = info_of s.store.segments.each segment

abbrev pub IsClosedIn : KeptStore → ℕ → Type 0
IsClosedIn s segment = IsClosed s.store.segments segment

-- whether a number is needed has the same answer at every number in use
abbrev pub KeepsNeeds : KeptStore → KeptStore → Type 0
KeepsNeeds old new =
    (v : ℕ) (e : Entry) → content_in old.store v ≡ Some e → is_needed new.kept e ≡ is_needed old.kept e

-- ---- one move

-- the first m needed numbers of a segment were moved
pub record HasMovedPages (segment checkpoint stamp m : ℕ) (old new : KeptStore) : Type 0 where
  pub needs : KeepsNeeds old new
  pub moved : IsMoved segment checkpoint stamp (take m (needed_now old segment)) old.store new.store
  pub store : IsStore new.store

pub record MovesOut (segment m : ℕ) (old new : KeptStore) : Type 0 where
  pub store : IsStore new.store
  -- the first m left the segment, and the rest stays in its order
  pub needed : needed_now new segment ≡ drop m (needed_now old segment)
  -- every other closed segment has the same needed numbers
  pub others : (j : ℕ) → IsClosedIn old j → j ≢ segment → needed_now new j ≡ needed_now old j
  -- and closed segments stay as they are
  pub closed : (j : ℕ) → IsClosedIn old j → info_now new j ≡ info_now old j

abbrev pub MoveTakesFirst : Type 0
MoveTakesFirst =
    (segment checkpoint stamp m : ℕ) (old new : KeptStore) → IsStore old.store → IsClosedIn old segment
    → HasMovedPages segment checkpoint stamp m old new → MovesOut segment m old new

-- ---- a move in two halves: first needed numbers are listed, and then moved

-- moved after they were listed, they are moved as the definition of a move says
abbrev pub ListedMovesAreFirst : Type 0
ListedMovesAreFirst =
    (needed : Entry → Bool) (segment limit checkpoint stamp count : ℕ) (listed : List ℕ) (old new : Store)
    → HasListedFirst needed segment limit old listed count → IsMoved segment checkpoint stamp listed old new
    → HasMovedFirst needed segment limit checkpoint stamp old new (split (length listed) count)

-- where the second half is refused, so is the move
abbrev pub RefusedMovesAreNone : Type 0
RefusedMovesAreNone =
    (needed : Entry → Bool) (segment limit checkpoint stamp count : ℕ) (listed : List ℕ) (old new : Store)
    (e : VolError)
    → HasListedFirst needed segment limit old listed count → IsMoveRefused checkpoint stamp listed old new e
    → HasMovedNone needed segment limit checkpoint stamp old new e

-- and where the first half is
abbrev pub RefusedListsAreNone : Type 0
RefusedListsAreNone =
    (needed : Entry → Bool) (segment limit checkpoint stamp : ℕ) (s : Store) (e : VolError)
    → HasListedNone segment limit s e → HasMovedNone needed segment limit checkpoint stamp s s e

-- ---- a retirement

-- what a retirement answers, and what it does then
pub record Retires (segment : ℕ) (reply : Result ℕ VolError) (old new : KeptStore) : Type 0 where
  pub answers : reply ≡ retired old.store (is_needed old.kept) segment
  pub reclaimed : IfOk reply (λ count. IsReclaimed segment count old.store new.store)

-- ---- closed segments

-- whatever is moved, a closed segment stays as it is
abbrev pub MovesKeepClosed : Type 0
MovesKeepClosed =
    (segment checkpoint stamp j : ℕ) (numbers : List ℕ) (old new : Store) → IsStore old
    → IsMoved segment checkpoint stamp numbers old new → IsClosed old.segments j
    → info_of new.segments.each j ≡ info_of old.segments.each j

-- and where the move is refused, be it in the middle of its writes
abbrev pub RefusedMovesKeepClosed : Type 0
RefusedMovesKeepClosed =
    (checkpoint stamp j : ℕ) (numbers : List ℕ) (old new : Store) (e : VolError) → IsStore old
    → IsMoveRefused checkpoint stamp numbers old new e → IsClosed old.segments j
    → info_of new.segments.each j ≡ info_of old.segments.each j

-- a retirement leaves every other segment as it is
abbrev pub RetirementsKeepOthers : Type 0
RetirementsKeepOthers =
    (segment count j : ℕ) (old new : Store) → IsReclaimed segment count old new → j ≢ segment
    → info_of new.segments.each j ≡ info_of old.segments.each j

-- ---- a run of moves

abbrev pub Moves : ℕ → ℕ → ℕ → KeptStore → KeptStore → Type 0
Moves segment m zero old new = new ≡ old
Moves segment m (suc n) old new = (mid : KeptStore) × MovesOut segment m old mid × Moves segment m n mid new

-- After n moves of up to m numbers each, n times m being no less than the needed ones, a dirty segment can be
-- retired: the answer is how many numbers it still had, none of them needed, and it is clean then.
abbrev pub SegmentsComeClean : Type 0
SegmentsComeClean =
    (segment m n : ℕ) (old mid new : KeptStore) (reply : Result ℕ VolError)
    → (info_now old segment).state ≡ Dirty → length (needed_now old segment) ≤ n * m
    → Moves segment m n old mid → Retires segment reply mid new
    → (reply ≡ Ok (length (numbers_in mid.store segment))) × (info_now new segment ≡ clean_info)

-- with the same run one move at a time, each in full
abbrev pub FullMoves : ℕ → ℕ → ℕ → KeptStore → KeptStore → Type 0
FullMoves segment m zero old new = new ≡ old
FullMoves segment m (suc n) old new =
    (checkpoint : ℕ) × (stamp : ℕ) × (mid : KeptStore) × HasMovedPages segment checkpoint stamp m old mid
    × FullMoves segment m n mid new

abbrev pub FullMovesComeClean : Type 0
FullMovesComeClean =
    (segment m n : ℕ) (old mid new : KeptStore) (reply : Result ℕ VolError) → IsStore old.store
    → (info_now old segment).state ≡ Dirty → length (needed_now old segment) ≤ n * m
    → FullMoves segment m n old mid → Retires segment reply mid new
    → (reply ≡ Ok (length (numbers_in mid.store segment))) × (info_now new segment ≡ clean_info)
