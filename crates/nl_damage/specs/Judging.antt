-- What is told of the conditions of an image behind those of its superblock and its length.
use Rattle.std.specs.Prelude.{◌≡◌, ◌↔◌, ℕ, ◌==◌, if◌then◌else◌, Bool, true, false, IfSome, IsTrue, List, length, map, replicate, Option, None, Some}
use Rattle.std.specs.Option.{option_and_then}
use Rattle.nl_types.specs.Blocks.Segments.{Segments}
use Rattle.nl_layout.specs.declared.checkpoint_entry.CheckpointEntry.{CheckpointEntry}
use Rattle.nl_sufile.specs.Images.{IsSufileOf}
use Rattle.nl_vstore.specs.Content.{Payload}
use Rattle.nl_vstore.specs.Images.{IsRestZero, pages_of_bytes}
use Rattle.nl_segwriter.specs.Images.{HoldLogs}
use Rattle.nl_dat.specs.declared.entries.DatEntry.{DatEntry}
use Rattle.nl_dat.specs.Images.{IsDatOf, IsTableOf, IsTableOver, table_of}
use Rattle.nl_cpfile.specs.Images.{IsCpfileOf}
use Rattle.nl_check.specs.declared.checks.Verdict.{Verdict}
use Rattle.nl_check.specs.Judging.{told}
use Rattle.nl_check.specs.Verdicts.{IsVerdict}
use Rattle.nl_check.specs.ImageConditions.{number_of}
use Rattle.nl_check.specs.declared.conditions.ImageCondition.TheVariants as condition
use Rattle.nl_image.specs.Conditions.{MeetsFirst, number_of_last}
use Rattle.nl_image.specs.Parts.{Parts}
use Rattle.nl_image.specs.Reading.{HaveOwn}
use Rattle.nl_damage.specs.declared.later.Finding.{Finding}
use Rattle.nl_damage.specs.declared.later.Finding.TheVariants.{Fails, Holds, NotJudged}
use Rattle.nl_damage.specs.declared.later.Judged.{Judged}
use Rattle.nl_damage.specs.declared.pages.ImagePages.{ImagePages}
use Rattle.nl_damage.specs.declared.places.Place.{Place}
use Rattle.nl_damage.specs.declared.sections.Sections.{Sections}
use Rattle.nl_damage.specs.declared.tables.Tables.{Tables}
use Rattle.nl_damage.specs.Pages.{ArePagesOf, pages_of, periods_of}
use Rattle.nl_damage.specs.Sections.{AreSections, HasTooMany}

-- ---- what the sections hold, each by the condition that asks for it

abbrev pub AreSegments : Sections → Segments → Type 0
AreSegments x s = IsSufileOf x.geometry x.segments.now s

abbrev pub AreCheckpoints : Sections → List CheckpointEntry → Type 0
AreCheckpoints x kept = IsCpfileOf x.superblock.mark x.checkpoints.now kept

-- under these segments, up to the latest of these checkpoints
abbrev pub AreNumbers : Sections → Segments → List CheckpointEntry → List (Option DatEntry) → Type 0
AreNumbers x s kept numbers = IsDatOf s (number_of_last kept) x.numbers.now numbers

-- the used parts are whole logs, and what the table has for each number is the number's own block of them
pub record HaveLogs (x : Sections) (s : Segments) (table : List (Option DatEntry)) : Type 0 where
  pub payload : List (Option Payload)
  pub whole : HoldLogs s (pages_of_bytes x.blocks.now) payload
  pub own : HaveOwn table payload

-- the shape, the trees and the periods of checkpoints, by the pages of the table
pub record AreJudged (x : Sections) (kept : List CheckpointEntry) (verdict : Option Verdict) : Type 0 where
  pub pages : ImagePages
  pub are : ArePagesOf x pages
  pub told_is : IsVerdict (pages_of pages) (periods_of pages) (map told kept) verdict

-- the padding, and all blocks outside used parts, are zero
pub record AreZero (x : Sections) (s : Segments) : Type 0 where
  pub padding : x.padding.now ≡ replicate (length x.padding.now) 0
  pub blocks : IsRestZero s (pages_of_bytes x.blocks.now)

-- the tables of an image, all of which can be read
pub record AreTables (x : Sections) (s : Segments) (kept : List CheckpointEntry)
    (numbers : List (Option DatEntry)) : Type 0 where
  pub segments : AreSegments x s
  pub checkpoints : AreCheckpoints x kept
  pub numbers_are : AreNumbers x s kept numbers

-- what is read: each table that the sections hold, and no other
pub record AreRead (x : Sections) (t : Tables) : Type 0 where
  pub segments : IfSome t.segments (AreSegments x)
  pub all_segments : (s : Segments) → AreSegments x s → t.segments ≡ Some s
  pub kept : IfSome t.kept (AreCheckpoints x)
  pub all_kept : (kept : List CheckpointEntry) → AreCheckpoints x kept → t.kept ≡ Some kept
  pub numbers : (s : Segments) (kept : List CheckpointEntry) → t.segments ≡ Some s → t.kept ≡ Some kept
      → IfSome t.numbers (IsTableOf s (number_of_last kept) x.numbers.now)
  pub over : (s : Segments) → t.segments ≡ Some s
      → IfSome t.numbers (λ (table : List (Option DatEntry)). IsTableOver table s)
  pub all_numbers : (s : Segments) (kept : List CheckpointEntry) (numbers : List (Option DatEntry))
      → AreTables x s kept numbers → t.numbers ≡ Some (table_of numbers)

-- ---- what is told

-- it is told whether this holds
pub record IsTold (P : Type 0) (said : Option Bool) : Type 0 where
  pub holds : Bool
  pub said_is : said ≡ Some holds
  pub exact : IsTrue holds ↔ P

abbrev pub TellLogs : Sections → Option Bool → Type 0
TellLogs x said = (s : Segments) (kept : List CheckpointEntry) (numbers : List (Option DatEntry))
    → AreTables x s kept numbers → IsTold (HaveLogs x s (table_of numbers)) said

-- what is told of trees is so
abbrev pub TellTrees : Sections → Option (Option Verdict) → Type 0
TellTrees x said = (s : Segments) (kept : List CheckpointEntry) (numbers : List (Option DatEntry))
    → AreTables x s kept numbers → (verdict : Option Verdict) × (said ≡ Some verdict) × AreJudged x kept verdict

abbrev pub TellZeros : Sections → Option Bool → Type 0
TellZeros x said = (s : Segments) → AreSegments x s → IsTold (AreZero x s) said

-- each condition is told that has what it asks for
pub record IsJudged (x : Sections) (j : Judged) : Type 0 where
  pub segments : IsTold ((s : Segments) × AreSegments x s) j.segments
  pub checkpoints : IsTold ((kept : List CheckpointEntry) × AreCheckpoints x kept) j.checkpoints
  pub numbers : (s : Segments) (kept : List CheckpointEntry) → AreSegments x s → AreCheckpoints x kept
      → IsTold ((numbers : List (Option DatEntry)) × AreNumbers x s kept numbers) j.numbers
  pub logs : TellLogs x j.logs
  pub trees : TellTrees x j.trees
  pub zeros : TellZeros x j.zeros

-- ---- what is told of one condition

-- of the conditions 8 to 10, by what is told of all three
abbrev pub shown_by : Option Verdict → (condition : ℕ) → Option Bool
shown_by None n = if n == number_of condition.Shapes then Some false else None
shown_by (Some v) n =
    if n == number_of condition.Shapes then Some true
    else if n == number_of condition.Trees then Some v.trees
    else if n == number_of condition.Periods then Some v.periods
    else None

-- whether it holds, where that is told
abbrev pub held_by : Judged → (condition : ℕ) → Option Bool
held_by j n =
    if n == number_of condition.Segments then j.segments
    else if n == number_of condition.Checkpoints then j.checkpoints
    else if n == number_of condition.Numbers then j.numbers
    else if n == number_of condition.Logs then j.logs
    else if n == number_of condition.Zeros then j.zeros
    else option_and_then (λ (v : Option Verdict). shown_by v n) j.trees

abbrev pub IsFound : Option Bool → Finding → Type 0
IsFound None f = f ≡ NotJudged
IsFound (Some true) f = f ≡ Holds
IsFound (Some false) f = (place : Option Place) × (f ≡ Fails place)

-- Bytes that meet the first three conditions have these sections, of which it is told.
pub record AreJudgedBytes (bytes : List ℕ) (p : Parts) (j : Judged) : Type 0 where
  pub sections : Sections
  pub are : AreSections bytes sections
  pub shape : sections.superblock ≡ p.shape
  pub judged : IsJudged sections j

-- So are bytes judged: of others than these, and of those that tell too many checkpoints, nothing is said.
abbrev pub IsJudgedOf : List ℕ → Judged → Type 0
IsJudgedOf bytes j = (p : Parts) → MeetsFirst 3 bytes p → (HasTooMany p.shape → ⊥) → AreJudgedBytes bytes p j
