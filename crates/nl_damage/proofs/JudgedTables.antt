-- What is told of the conditions of sections, by the tables that were read of them.
use Rattle.std.proofs.Common.{◌≡◌, ◌∙◌, ℕ, ◌*◌, Bool, true, false, List, Option, None, Some, ap, is_some, length, refl, subst, sym}
use Rattle.std.specs.Prelude.{◌↔◌, IfSome}
use Rattle.std.proofs.lemmas.Bool.{false≢true}
use Rattle.std.proofs.lemmas.Option.{same_Some}
use Rattle.nl_types.specs.Blocks.Segments.{Segments, total_blocks}
use Rattle.nl_layout.specs.declared.checkpoint_entry.CheckpointEntry.{CheckpointEntry}
use Rattle.nl_dat.specs.declared.entries.DatEntry.{DatEntry}
use Rattle.nl_dat.specs.Images.{IsTableOf, IsTableOver, table_of}
use Rattle.nl_check.specs.declared.checks.Verdict.{Verdict}
use Rattle.nl_image.specs.Conditions.{number_of_last}
use Rattle.nl_damage.specs.declared.later.Judged.{Judged}
use Rattle.nl_damage.specs.declared.sections.Sections.{Sections}
use Rattle.nl_damage.specs.declared.tables.Tables.{Tables}
use Rattle.nl_damage.specs.Judging.{AreCheckpoints, AreJudged, AreNumbers, AreRead, AreSegments, AreZero, HaveLogs, IsJudged, IsTold, TellLogs, TellTrees, TellZeros}
use Rattle.nl_damage.specs.Sections.{AreWhole, total_in}

-- the segments have all blocks
pub same-blocks : (x : Sections) (s : Segments) → AreSegments x s → total_blocks s ≡ total_in x
same-blocks x s are = rw (are.count, are.blocks) refl

pub numbers-fit : (x : Sections) (s : Segments) → AreWhole x → AreSegments x s
    → length x.numbers.now ≡ 24 * total_blocks s
numbers-fit x s whole are = whole.numbers ∙ ap (λ (n : ℕ). 24 * n) (sym (same-blocks x s are))

pub blocks-fit : (x : Sections) (s : Segments) → AreWhole x → AreSegments x s
    → length x.blocks.now ≡ 1024 * total_blocks s
blocks-fit x s whole are = whole.blocks ∙ ap (λ (n : ℕ). 1024 * n) (sym (same-blocks x s are))

-- ---- what is told

no-none : {A : Type 0} (o : Option A) (a : A) → o ≡ None → o ≡ Some a → ⊥
no-none o a none some = cc

one-of : {A : Type 0} (o : Option A) (a b : A) → o ≡ Some a → o ≡ Some b → a ≡ b
one-of o a b first second = same_Some a b (sym first ∙ second)

-- of what can be read, if it is there, and nothing else is
told-by : (A : Type 0) (Is : A → Type 0) (o : Option A) → IfSome o Is → ((a : A) → Is a → o ≡ Some a)
    → (said : Option Bool) → said ≡ Some (is_some o) → IsTold ((a : A) × Is a) said
told-by A Is None some all said is = record {
  holds = false;
  said_is = is;
  exact = (λ lie. absurd (false≢true lie), λ has. absurd (no-none None has.0 refl (all has.0 has.1)));
}
told-by A Is (Some a) some all said is = record {
  holds = true;
  said_is = is;
  exact = (λ _. (a, some), λ _. refl);
}

module _ (x : Sections) (t : Tables) (read : AreRead x t) where
  -- the tables that were read are all that there are
  is-segments : (r s : Segments) → t.segments ≡ Some r → AreSegments x s → r ≡ s
  is-segments r s at are = one-of t.segments r s at (read.all_segments s are)

  is-kept : (r kept : List CheckpointEntry) → t.kept ≡ Some r → AreCheckpoints x kept → r ≡ kept
  is-kept r kept at are = one-of t.kept r kept at (read.all_kept kept are)

  numbers-told : (s : Segments) (kept : List CheckpointEntry) → AreSegments x s → AreCheckpoints x kept
      → (found : Option (List (Option DatEntry))) → found ≡ t.numbers → (said : Option Bool)
      → said ≡ Some (is_some found)
      → IsTold ((numbers : List (Option DatEntry)) × AreNumbers x s kept numbers) said
  numbers-told s kept segments checkpoints None at said is = record {
    holds = false;
    said_is = is;
    exact = (
      λ lie. absurd (false≢true lie),
      λ has.
          absurd (no-none t.numbers (table_of has.0) (sym at)
          (read.all_numbers s kept has.0
          (record { segments = segments; checkpoints = checkpoints; numbers_are = has.1 }))),
    );
  }
  numbers-told s kept segments checkpoints (Some table) at said is =
      let of : IsTableOf s (number_of_last kept) x.numbers.now table =
      subst (λ (o : Option (List (Option DatEntry))). IfSome o (IsTableOf s (number_of_last kept) x.numbers.now))
      (sym at)
      (read.numbers s kept (read.all_segments s segments) (read.all_kept kept checkpoints)) in
      record { holds = true; said_is = is; exact = (λ _. (of.numbers, of.told), λ _. refl) }

  pub over-of : (s : Segments) (table : List (Option DatEntry)) → t.segments ≡ Some s → t.numbers ≡ Some table
      → IsTableOver table s
  over-of s table at-segments at-numbers =
      subst (λ (o : Option (List (Option DatEntry))).
      IfSome o (λ (numbers : List (Option DatEntry)). IsTableOver numbers s))
      at-numbers (read.over s at-segments)

  pub logs-told : (s : Segments) (table : List (Option DatEntry)) (has : Bool) → t.segments ≡ Some s
      → t.numbers ≡ Some table → (has ≡ true ↔ HaveLogs x s table) → TellLogs x (Some has)
  logs-told s table has at-segments at-numbers exact r kept numbers tables = record {
    holds = has;
    said_is = refl;
    exact = subst (λ (o : Segments). has ≡ true ↔ HaveLogs x o (table_of numbers))
        (is-segments s r at-segments tables.segments)
        (subst (λ (ns : List (Option DatEntry)). has ≡ true ↔ HaveLogs x s ns)
        (one-of t.numbers table (table_of numbers) at-numbers (read.all_numbers r kept numbers tables))
        exact);
  }

  pub no-logs : t.numbers ≡ None → TellLogs x None
  no-logs none s kept numbers tables =
      absurd (no-none t.numbers (table_of numbers) none (read.all_numbers s kept numbers tables))

  pub no-logs-in : t.segments ≡ None → TellLogs x None
  no-logs-in none s kept numbers tables =
      absurd (no-none t.segments s none (read.all_segments s tables.segments))

  pub trees-told : (kept : List CheckpointEntry) (verdict : Option Verdict) → t.kept ≡ Some kept
      → AreJudged x kept verdict → TellTrees x (Some verdict)
  trees-told kept verdict at judged s others numbers tables = (
    verdict,
    refl,
    subst (λ (ks : List CheckpointEntry). AreJudged x ks verdict)
        (is-kept kept others at tables.checkpoints) judged,
  )

  pub no-trees : t.kept ≡ None → TellTrees x None
  no-trees none s kept numbers tables =
      absurd (no-none t.kept kept none (read.all_kept kept tables.checkpoints))

  pub no-numbers : t.numbers ≡ None → TellTrees x None
  no-numbers none s kept numbers tables =
      absurd (no-none t.numbers (table_of numbers) none (read.all_numbers s kept numbers tables))

  pub zeros-told : (s : Segments) (has : Bool) → t.segments ≡ Some s → (has ≡ true ↔ AreZero x s)
      → TellZeros x (Some has)
  zeros-told s has at exact r are = record {
    holds = has;
    said_is = refl;
    exact = subst (λ (o : Segments). has ≡ true ↔ AreZero x o) (is-segments s r at are) exact;
  }

  pub no-zeros : t.segments ≡ None → TellZeros x None
  no-zeros none s are = absurd (no-none t.segments s none (read.all_segments s are))

  pub judged : (j : Judged) → j.segments ≡ Some (is_some t.segments) → j.checkpoints ≡ Some (is_some t.kept)
      → ((s : Segments) (kept : List CheckpointEntry) → t.segments ≡ Some s → t.kept ≡ Some kept
      → j.numbers ≡ Some (is_some t.numbers))
      → TellLogs x j.logs → TellTrees x j.trees → TellZeros x j.zeros → IsJudged x j
  judged j segments checkpoints numbers logs trees zeros = record {
    segments = told-by Segments (AreSegments x) t.segments read.segments read.all_segments j.segments segments;
    checkpoints =
        told-by (List CheckpointEntry) (AreCheckpoints x) t.kept read.kept read.all_kept j.checkpoints
        checkpoints;
    numbers = λ s kept are-segments are-kept.
        numbers-told s kept are-segments are-kept t.numbers refl j.numbers
        (numbers s kept (read.all_segments s are-segments) (read.all_kept kept are-kept));
    logs = logs;
    trees = trees;
    zeros = zeros;
  }
