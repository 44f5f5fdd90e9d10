-- What virtual block numbers stand for, and the checkpoints that they belong to.
use Rattle.std.specs.Prelude.{◌≡◌, ℕ, Bool, true, false, ◌&&◌, ◌||◌, ◌==◌, if◌then◌else◌, nat_le, nat_lt, List, [], ◌∷◌, is_none, Option, None, Some}
use Rattle.std.specs.List.{list_any}
use Rattle.std.specs.Option.{option_map}
use Rattle.nl_types.specs.declared.period.Period.{Period}
use Rattle.nl_types.specs.Blocks.PartialMaps.{Partial, put_all, adjust_all}

-- where a block belongs: an inode, a level of its tree, 0 being its data, and an index in that level
pub record Place : Type 0 where
  pub inode : ℕ
  pub level : ℕ
  pub offset : ℕ

-- a page under the number that it is given
pub record Birth : Type 0 where
  pub number : ℕ
  pub place : Place
  pub page : List ℕ

-- what a number in use stands for: a page and where it belongs, from checkpoint `start` on, and before
-- checkpoint `end` if that has come
pub record Entry : Type 0 where
  pub place : Place
  pub page : List ℕ
  pub start : ℕ
  pub end : Option ℕ

-- which numbers are in use, and for what
abbrev pub Content : Type 0
Content = Partial Entry

-- ---- periods

-- the period of what a number stands for
abbrev pub period_of : Entry → Period
period_of e = record { start = e.start; end = e.end }

-- the end is past the checkpoint, or has not come
abbrev pub is_before_end : ℕ → Option ℕ → Bool
is_before_end c None = true
is_before_end c (Some end) = nat_lt c end

-- the period has the checkpoint
abbrev pub holds : Period → ℕ → Bool
holds period c = nat_le period.start c && is_before_end c period.end

-- the period has not ended, or has a kept checkpoint
abbrev pub is_period_needed : List ℕ → Period → Bool
is_period_needed kept period = is_none period.end || list_any (holds period) kept

-- the number belongs to the checkpoint
abbrev pub covers : ℕ → Entry → Bool
covers c e = holds (period_of e) c

-- the number has not ended, or belongs to a kept checkpoint
abbrev pub is_needed : List ℕ → Entry → Bool
is_needed kept e = is_period_needed kept (period_of e)

-- ---- what a checkpoint writes

-- what a page stands for from checkpoint c on
abbrev pub born_at : ℕ → Birth → Entry
born_at c b = record { place = b.place; page = b.page; start = c; end = None }

abbrev pub ended_at : ℕ → Entry → Entry
ended_at c e = record e { end = Some c }

abbrev pub number_of : Birth → ℕ
number_of b = b.number

-- the content once the births of checkpoint c are in and the ends are set
abbrev pub written : List Birth → List ℕ → ℕ → Content → Content
written births ends c content = put_all number_of (born_at c) births (adjust_all (ended_at c) ends content)

-- the birth that a number is given to
abbrev pub birth_of : List Birth → ℕ → Option Birth
birth_of [] v = None
birth_of (b ∷ births) v = if v == b.number then Some b else birth_of births v

-- what one number stands for then: a birth is new, an end is set, and all else stays
abbrev pub written_at : Option Birth → Bool → ℕ → Option Entry → Option Entry
written_at (Some b) ends c e = Some (born_at c b)
written_at None true c e = option_map (ended_at c) e
written_at None false c e = e

-- no number is given to two births
abbrev pub GivenOnce : List Birth → Type 0
GivenOnce [] = Unit {0}
GivenOnce (b ∷ births) = (birth_of births b.number ≡ None) × GivenOnce births
