-- What `prune` removes.
use Rattle.std.specs.Prelude.{◌≡◌, ℕ, Bool, true, not, List, [], ◌∷◌, map, reverse, is_some, unwrap_or}
use Rattle.std.specs.List.{filter, zip}
use Rattle.nl_types.specs.declared.row.Row.{Row}
use Rattle.nl_types.specs.Plain.Worlds.{World, rows}
use Rattle.nl_image.specs.Parts.{with_present_mark}
use Rattle.nl_words.specs.Own.{is_plain_minor}
use Rattle.nl_manifests.specs.declared.manifest.Line.{Line}
use Rattle.nl_pins.specs.declared.rules.Dated.{Dated}
use Rattle.nl_pins.specs.declared.rules.Periods.{Periods}
use Rattle.nl_pins.specs.declared.rules.Rules.{Rules}
use Rattle.nl_pins.specs.Pins.{text_in}
use Rattle.nl_pins.specs.Retention.{expired}
use Rattle.nl_keep_pen.specs.Images.{ImageMeans}
use Rattle.nl_backups.specs.declared.pruning.Pruned.{Pruned}
use Rattle.nl_backups.specs.Effects.{Effect, Has, Leaves, Removes, Spares}
use Rattle.nl_backups.specs.Hosts.{Image}
use Rattle.nl_backups.specs.Readings.{HasRows, pinned_in}

-- ---- candidates

-- rules don't count those that the volume made by itself
abbrev pub is_counted : Row × Periods → Bool
is_counted told = not (is_plain_minor told.0)

-- a checkpoint as rules see it: it is pinned where a line is of it
abbrev pub dated : List Line → Row × Periods → Dated
dated lines told = record {
  number = told.0.number;
  is_pinned = is_some (text_in lines told.0.number);
  periods = told.1;
}

abbrev pub counted : List Line → List (Row × Periods) → List Dated
counted lines all = map (dated lines) (filter is_counted all)

-- those that rules count, the newest first. Rows for which there are no periods are none of them, so they stay.
abbrev pub candidates_in : List Line → List Row → List Periods → List Dated
candidates_in lines told periods = reverse (counted lines (zip told periods))

abbrev pub candidates : List Periods → World → List Dated
candidates periods w = candidates_in (pinned_in w) (rows w) periods

-- ---- what goes

-- these are exactly the candidates that no rule keeps
abbrev pub AreExpired : Rules → List Periods → List ℕ → Image → Type 0
AreExpired rules periods numbers image =
    (w : World) → ImageMeans (with_present_mark image) w → numbers ≡ expired rules (candidates periods w)

-- what is done where these go
abbrev pub removal : (moment : ℕ) → List ℕ → Effect
removal moment [] = Leaves
removal moment (n ∷ numbers) = Removes moment (n ∷ numbers)

-- exactly what no rule keeps goes; the new image is handed on, where there is another
pub record Prunes (rules : Rules) (moment : ℕ) (told : Pruned) (old new : Image) : Type 0 where
  pub has_rows : HasRows told.rows old
  pub gone : AreExpired rules told.periods.items told.numbers old
  pub has : Has (removal moment told.numbers) old new
  pub next : new ≡ unwrap_or told.next old

-- ---- laws

-- what is pinned isn't removed
abbrev pub PinnedOnesStay : Type 0
PinnedOnesStay =
    (rules : Rules) (moment n : ℕ) (told : Pruned) (old new : Image) (w : World)
    → ImageMeans (with_present_mark old) w → Prunes rules moment told old new
    → is_some (text_in (pinned_in w) n) ≡ true → Spares n (removal moment told.numbers)
