-- What is told of outcomes, behind what was told before them.
use Rattle.std.specs.Prelude.{◌≡◌, ◌||◌, ℕ, Bool, List, ◌++◌, filter, Option, Result, Ok, Err, OnOk}
use Rattle.std.specs.Io.KnownBytes.{Appends}
use Rattle.nl_script.specs.Texts.{Text}
use Rattle.nl_script.specs.ExitStatus.{has_refusal}
use Rattle.nl_script.specs.Outcomes.{LineOutcome, is_told}
use Rattle.nl_script.specs.OutcomeTexts.{told_text}
use Rattle.nl_script.specs.declared.telling.Told.{Told}

-- the writer got the text, unless it fails; where it failed before it got nothing more
abbrev pub WritesOn : {X E : Type 0} → (old new : Result X E) → (before after : Option Text) → Text → Type 0
WritesOn (Ok x) new before after text = OnOk new (Appends before after text)
WritesOn (Err error) new before after text = (new ≡ Err error) × (after ≡ before)

-- the outcomes are told of, and a refusal among them counts, also where it isn't written
pub record HasTold (line : ℕ) (quiet : Bool) (outcomes : List LineOutcome) (old new : Told)
    (before after : Option Text) : Type 0 where
  pub refused : new.refused ≡ (old.refused || has_refusal (filter (is_told quiet) outcomes))
  pub written : WritesOn old.written new.written before after (told_text line quiet outcomes)

-- the first of all outcomes are told of, and the rest is left
pub record HasToldFirst (line : ℕ) (quiet : Bool) (rest all : List LineOutcome) (old now : Told)
    (before after : Option Text) : Type 0 where
  pub first : List LineOutcome
  pub told : HasTold line quiet first old now before after
  pub joined : first ++ rest ≡ all
