-- What is told of a configuration of cleaning.
use Rattle.std.specs.Prelude.{◌≡◌, ◌⊎◌, ℕ, List, Result, Ok, Err}
use Rattle.nl_types.specs.declared.error.VolError.{VolError}
use Rattle.nl_types.specs.declared.error.VolError.TheVariants.{BadConfig}
use Rattle.nl_protect.specs.Configuration.{configuration_in}
use Rattle.nl_protect.specs.declared.amount.Amount.{Amount}
use Rattle.nl_protect.specs.declared.amount.Amount.TheVariants.{Count, Percent}
use Rattle.nl_protect.specs.declared.config.Config.{Config}
use Rattle.nl_c.specs.Statuses.{done, error_number, memory}
use Rattle.nl_c.specs.declared.configuration.AmountTold.{AmountTold}
use Rattle.nl_c.specs.declared.configuration.ConfigTold.{ConfigTold}

abbrev pub amount_told : Amount → AmountTold
amount_told (Count n) = record { number = n; is_percent = 0 }
amount_told (Percent n) = record { number = n; is_percent = 1 }

abbrev pub config_told : Config → ConfigTold
config_told config =
    record {
      protection_period = config.protection_period;
      min_clean_segments = amount_told config.min_clean_segments;
      max_clean_segments = amount_told config.max_clean_segments;
      nsegments_per_clean = config.nsegments_per_clean;
      mc_nsegments_per_clean = config.mc_nsegments_per_clean;
      min_reclaimable_blocks = amount_told config.min_reclaimable_blocks;
      mc_min_reclaimable_blocks = amount_told config.mc_min_reclaimable_blocks;
    }

-- the number of the line that can't be read
abbrev pub bad_line : VolError → (line : ℕ) → ℕ
bad_line (BadConfig number) line = number
bad_line _ line = line

abbrev pub IsFoundTold : Result Config VolError → ConfigTold → (line : ℕ) → (status : ℕ) → ConfigTold → ℕ
    → Type 0
IsFoundTold (Ok found) config line status new_config new_line =
    (status ≡ done) × (new_config ≡ config_told found) × (new_line ≡ 0)
IsFoundTold (Err e) config line status new_config new_line =
    (status ≡ error_number e) × (new_config ≡ config) × (new_line ≡ bad_line e line)

-- what the text means, or there was no memory to read it
abbrev pub IsConfigTold : (text : List ℕ) → ConfigTold → (line : ℕ) → (status : ℕ) → ConfigTold → ℕ → Type 0
IsConfigTold text config line status new_config new_line =
    IsFoundTold (configuration_in text) config line status new_config new_line
    ⊎ ((status ≡ memory) × (new_config ≡ config) × (new_line ≡ line))
