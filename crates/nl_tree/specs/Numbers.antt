-- Free inode numbers of the current tree.
use Rattle.std.specs.Prelude.{◌≡◌, ◌⊎◌, ℕ, ◌<◌, ◌≤◌, true, cond, nat_lt, is_some, IsSome, Option, Some, None}
use Rattle.std.specs.Ordering.{nat_cmp}
use Rattle.std.specs.BTreeMap as map
use Rattle.nl_types.specs.Plain.Limits.{first_inode, inode_limit, last_inode}
use Rattle.nl_types.specs.Plain.NumberLists.{is_one_of}
use Rattle.nl_tree.specs.declared.overlay.Overlay.{Overlay}
use Rattle.nl_tree.specs.Became.{Current, holding_over}
use Rattle.nl_tree.specs.Held.{Holding}
use Rattle.nl_tree.specs.Overlays.{holding_now}

-- Numbers below the mark are in use, but for those that are to be given first; from the mark on numbers are
-- in use as in the checkpoint, but for those.
pub record CountsNumbers (IsGivenFirst : ℕ → Type 0) (mark : ℕ) (held base : Holding) : Type 0 where
  pub first : first_inode ≤ mark
  pub last : mark ≤ inode_limit
  pub freed : (n : ℕ) → IsGivenFirst n → (first_inode ≤ n) × (n ≤ last_inode) × (held n ≡ None)
  pub filled : (n : ℕ) → first_inode ≤ n → n < mark → IsSome (held n) ⊎ IsGivenFirst n
  pub beyond : (n : ℕ) → mark ≤ n → IsGivenFirst n ⊎ (is_some (held n) ≡ is_some (base n))

-- ---- of the overlay

-- the number is free, and is to be given first
abbrev pub IsNumberFreed : Overlay → ℕ → Type 0
IsNumberFreed o n = map.get nat_cmp o.freed n ≡ Some true

-- the overlay counts free numbers, over what the checkpoint holds
abbrev pub CountsFreeNow : Overlay → Holding → Type 0
CountsFreeNow o base = CountsNumbers (IsNumberFreed o) o.mark (holding_now o base) base

-- ---- of the current tree

-- the number is free, and is to be given first
abbrev pub IsFreedIn : Current → ℕ → Type 0
IsFreedIn now n = is_one_of now.freed n ≡ true

-- the current tree counts free numbers, over what the checkpoint holds
abbrev pub CountsFree : Current → Holding → Type 0
CountsFree now base = CountsNumbers (IsFreedIn now) now.mark (holding_over now.became base) base

-- ----

-- the lesser of the numbers that are there
abbrev pub lesser_option : Option ℕ → Option ℕ → Option ℕ
lesser_option None other = other
lesser_option (Some n) None = Some n
lesser_option (Some n) (Some m) = Some (cond (nat_lt m n) m n)
