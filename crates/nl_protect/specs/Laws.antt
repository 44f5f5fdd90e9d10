-- What the language of configurations gives a reader to rely on.
use Rattle.std.specs.Prelude.{◌≡◌, ℕ, ◌+◌, ◌<◌, List, [], ◌∷◌, map, unwrap_or, slice_get, Option, None, Some, Ok, Err}
use Rattle.std.specs.Option.{option_or}
use Rattle.nl_types.specs.declared.error.VolError.{VolError}
use Rattle.nl_types.specs.declared.error.VolError.TheVariants.{BadConfig}
use Rattle.nl_protect.specs.declared.amount.Amount.{Amount}
use Rattle.nl_protect.specs.declared.config.Config.{Config}
use Rattle.nl_protect.specs.declared.setting.Setting.{Setting}
use Rattle.nl_protect.specs.declared.setting.Setting.TheVariants as setting
use Rattle.nl_protect.specs.Configuration.{configuration_in, line_setting, lines_in, standard}

-- ---- lines that can't be read

-- the line at an index can't be read, and each before it can
pub record IsFirstBad (lines : List (List ℕ)) (i : ℕ) : Type 0 where
  pub bad : (line : List ℕ) × (slice_get lines i ≡ Some line) × (line_setting line ≡ None)
  pub before : (k : ℕ) (line : List ℕ) → k < i → slice_get lines k ≡ Some line
      → (s : Setting) × (line_setting line ≡ Some s)

-- the first bad line is told by its number from 1, whatever stands behind it
abbrev pub FirstBadLineIsTold : Type 0
FirstBadLineIsTold =
    (text : List ℕ) (i : ℕ) → IsFirstBad (lines_in text) i
    → configuration_in text ≡ Err (BadConfig (i + 1))

-- nothing else is refused
abbrev pub OnlyBadLinesAreTold : Type 0
OnlyBadLinesAreTold =
    (text : List ℕ) (e : VolError) → configuration_in text ≡ Err e
    → (i : ℕ) × IsFirstBad (lines_in text) i × (e ≡ BadConfig (i + 1))

-- ---- what counts

abbrev pub period_set : Setting → Option ℕ
period_set (setting.ProtectionPeriod n) = Some n
period_set _ = None

abbrev pub min_clean_of : Setting → Option Amount
min_clean_of (setting.MinCleanSegments amount) = Some amount
min_clean_of _ = None

abbrev pub max_clean_of : Setting → Option Amount
max_clean_of (setting.MaxCleanSegments amount) = Some amount
max_clean_of _ = None

abbrev pub most_of : Setting → Option ℕ
most_of (setting.SegmentsPerClean n) = Some n
most_of _ = None

abbrev pub urgent_most_of : Setting → Option ℕ
urgent_most_of (setting.UrgentSegmentsPerClean n) = Some n
urgent_most_of _ = None

abbrev pub least_of : Setting → Option Amount
least_of (setting.MinReclaimableBlocks amount) = Some amount
least_of _ = None

abbrev pub urgent_least_of : Setting → Option Amount
urgent_least_of (setting.UrgentMinReclaimableBlocks amount) = Some amount
urgent_least_of _ = None

-- what the last one gives of those that give it: that of the rest goes before that of the first
abbrev pub last_given : {A : Type 0} → (Setting → Option A) → List Setting → Option A
last_given given [] = None
last_given given (s ∷ settings) = option_or (last_given given settings) (given s)

-- each value is the last that is set, or the standard one where none is
pub record IsSetBy (settings : List Setting) (config : Config) : Type 0 where
  pub period : config.protection_period
      ≡ unwrap_or (last_given period_set settings) standard.protection_period
  pub min_clean : config.min_clean_segments
      ≡ unwrap_or (last_given min_clean_of settings) standard.min_clean_segments
  pub max_clean : config.max_clean_segments
      ≡ unwrap_or (last_given max_clean_of settings) standard.max_clean_segments
  pub most : config.nsegments_per_clean ≡ unwrap_or (last_given most_of settings) standard.nsegments_per_clean
  pub urgent_most :
      config.mc_nsegments_per_clean
      ≡ unwrap_or (last_given urgent_most_of settings) standard.mc_nsegments_per_clean
  pub least : config.min_reclaimable_blocks
      ≡ unwrap_or (last_given least_of settings) standard.min_reclaimable_blocks
  pub urgent_least :
      config.mc_min_reclaimable_blocks
      ≡ unwrap_or (last_given urgent_least_of settings) standard.mc_min_reclaimable_blocks

-- the settings of a text that is read are those of its lines, in their order, and the last of each kind
-- counts
abbrev pub LastSettingCounts : Type 0
LastSettingCounts =
    (text : List ℕ) (config : Config) → configuration_in text ≡ Ok config
    → (settings : List Setting) × (map line_setting (lines_in text) ≡ map Some settings)
    × IsSetBy settings config
