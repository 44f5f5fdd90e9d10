-- Mounts in the order of their numbers: where one stands, and their changes.
use Rattle.std.proofs.Common.{◌≡◌, ◌≢◌, ℕ, zero, suc, ◌<◌, Bool, true, false, ltb, cond, List, [], ◌∷◌, ◌++◌, length, get_or, map, Option, None, Some, refl, sym, ◌∙◌, arith, inl, inr}
use Rattle.std.specs.List.{AllByRecursion, filter}
use Rattle.std.specs.List.Sorted.{IsNonDecreasingBy, IsPartitionPoint}
use Rattle.std.specs.FinMap.{find}
use Rattle.std.specs.Ordering.{nat_cmp}
use Rattle.std.proofs.lemmas.Bool.{cases_lt, ltb-false, ltb-true}
use Rattle.nl_cpfile.specs.Facts.Rising.{All-at, All-filter, All-push, All-weaken}
use Rattle.nl_tree.specs.Facts.Rising.{find-here, find-there}
use Rattle.nl_commit.specs.MountTables.{AreGiven, AreRising, IsGiven, Precedes}
use Rattle.nl_commit.specs.Volume.{is_other_mount, mount_of}
use Rattle.nl_commit.specs.declared.mounts.Mounted.{Mounted}

abbrev pub shown_by : ℕ → List Mounted → Option ℕ
shown_by m mounts = find nat_cmp m (map mount_of mounts)

-- a number that no mount has
pub shown-none : (m : ℕ) (mounts : List Mounted) (d : Mounted)
    → ((i : ℕ) → i < length mounts → (get_or mounts i d).number ≢ m)
    → shown_by m mounts ≡ None
shown-none m [] d each = refl
shown-none m (k ∷ mounts) d each =
    find-there m (mount_of k) (map mount_of mounts) (λ is. each 0 (omega arith) (sym is))
    ∙ shown-none m mounts d (λ i lt. each (suc i) (omega arith))

-- the number of a mount
pub shown-at : (m : ℕ) (mounts : List Mounted) (i : ℕ) (d : Mounted) → AreRising mounts → i < length mounts
    → (get_or mounts i d).number ≡ m
    → shown_by m mounts ≡ Some (get_or mounts i d).checkpoint
shown-at m [] i d rising lt is = absurd (omega arith)
shown-at m (k ∷ mounts) zero d rising lt is = find-here m (mount_of k) (map mount_of mounts) (sym is)
shown-at m (k ∷ mounts) (suc i) d rising lt is =
    let up : k.number < (get_or mounts i d).number = All-at (Precedes k) mounts i d rising.0 (omega arith) in
    find-there m (mount_of k) (map mount_of mounts) (λ same. absurd (omega (arith, up, is, same)))
    ∙ shown-at m mounts i d rising.1 (omega arith) is

-- their numbers never fall
pub rising-numbers : (mounts : List Mounted) → AreRising mounts
    → IsNonDecreasingBy (λ (k : Mounted). k.number) mounts
rising-numbers [] rising i j d le lt = absurd (omega arith)
rising-numbers (k ∷ mounts) rising zero zero d le lt = omega arith
rising-numbers (k ∷ mounts) rising zero (suc j) d le lt =
    let up : k.number < (get_or mounts j d).number = All-at (Precedes k) mounts j d rising.0 (omega arith) in
    omega (arith, up)
rising-numbers (k ∷ mounts) rising (suc i) zero d le lt = absurd (omega arith)
rising-numbers (k ∷ mounts) rising (suc i) (suc j) d le lt =
    rising-numbers mounts rising.1 i j d (omega arith) (omega arith)

-- ---- where a search for a number ends

abbrev pub IsPlace : List Mounted → ℕ → ℕ → Type 0
IsPlace mounts m i =
    IsPartitionPoint (λ (k : Mounted). ltb k.number m ≡ true)
    (λ (k : Mounted). ltb k.number m ≡ false) mounts i

-- another number stands there, or none
pub shown-not_here : (mounts : List Mounted) (m i : ℕ) (d : Mounted) → AreRising mounts → IsPlace mounts m i
    → (i < length mounts → (get_or mounts i d).number ≢ m) → shown_by m mounts ≡ None
shown-not_here mounts m i d rising place other = shown-none m mounts d each
  where
    each : (k : ℕ) → k < length mounts → (get_or mounts k d).number ≢ m
    each k lt e = elim (cases_lt k i) [
      | inl below ↦ let low = ltb-true _ _ (place.0 k d (omega arith) below) in absurd (omega (arith, low, e))
      | inr above ↦
          let high = ltb-false _ _ (place.1 i d (omega arith) (omega arith)) in
          let rises = rising-numbers mounts rising i k d above lt in
          absurd (other (omega arith) (omega (arith, high, rises, e)))
    ]

-- ---- changes

rising-filter : (p : Mounted → Bool) (mounts : List Mounted) → AreRising mounts → AreRising (filter p mounts)
rising-filter p [] rising = tt
rising-filter p (k ∷ mounts) rising =
    elim (p k) as (λ b. AreRising (cond b (k ∷ filter p mounts) (filter p mounts))) [
      | true ↦ (All-filter (Precedes k) p mounts rising.0, rising-filter p mounts rising.1)
      | false ↦ rising-filter p mounts rising.1
    ]

-- a mount goes
pub given-without : (given gone : ℕ) (mounts : List Mounted) → AreGiven given mounts
    → AreGiven given (filter (is_other_mount gone) mounts)
given-without given gone mounts is = record {
  rising = rising-filter (is_other_mount gone) mounts is.rising;
  low = All-filter (IsGiven given) (is_other_mount gone) mounts is.low;
}

rising-push : (mounts : List Mounted) (k : Mounted) → AreRising mounts
    → AllByRecursion (λ (j : Mounted). Precedes j k) mounts
    → AreRising (mounts ++ k ∷ [])
rising-push [] k rising before = (tt, tt)
rising-push (j ∷ mounts) k rising before =
    (All-push (Precedes j) mounts k rising.0 before.0, rising-push mounts k rising.1 before.1)

-- a mount comes
pub given-more : (given : ℕ) (mounts : List Mounted) (k : Mounted) → given < k.number → AreGiven given mounts
    → AreGiven k.number (mounts ++ k ∷ [])
given-more given mounts k over is =
    let before : AllByRecursion (λ (j : Mounted). Precedes j k) mounts =
    All-weaken (IsGiven given) (λ (j : Mounted). Precedes j k) mounts
    (λ j low. omega (arith, low, over)) is.low in
    record {
      rising = rising-push mounts k is.rising before;
      low = All-push (IsGiven k.number) mounts k
          (All-weaken (IsGiven given) (IsGiven k.number) mounts (λ j low. omega (arith, low, over)) is.low)
          (omega arith);
    }
