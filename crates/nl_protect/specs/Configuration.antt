-- The language of the cleaner's configuration, which is that of nilfs_cleanerd.conf(5): what each line sets,
-- and what a text means. Texts are lists of bytes.
use Rattle.std.specs.Prelude.{ℕ, ◌+◌, ◌-◌, ◌*◌, ◌/◌, ◌==◌, Bool, not, if◌then◌else◌, true, false, nat_le, List, [], ◌∷◌, map, codes, length, take, drop, Option, None, Some, Result, Ok}
use Rattle.std.specs.Str.{bytes_eq}
use Rattle.std.specs.List.{slice_split, filter, find, before_first, list_any}
use Rattle.std.specs.Option.{ok_or, option_map, option_and_then}
use denote.Ref.{Bor}
use Rattle.nl_types.specs.Plain.Characters.{hash_mark, is_blank, line_feed}
use Rattle.nl_types.specs.declared.error.VolError.{VolError}
use Rattle.nl_types.specs.declared.error.VolError.TheVariants.{BadConfig}
use Rattle.nl_types.specs.Plain.Calls.{and_then}
use Rattle.nl_types.specs.Plain.Decimals.{decimal_in}
use Rattle.nl_protect.specs.declared.amount.Amount.{Amount}
use Rattle.nl_protect.specs.declared.amount.Amount.TheVariants.{Count, Percent}
use Rattle.nl_protect.specs.declared.config.Config.{Config}
use Rattle.nl_protect.specs.declared.keyword.Keyword.{Keyword}
use Rattle.nl_protect.specs.declared.keyword.Keyword.TheVariants as keyword
use Rattle.nl_protect.specs.declared.setting.Setting.{Setting}
use Rattle.nl_protect.specs.declared.setting.Setting.TheVariants as setting

-- ---- amounts

-- so many, or a share of the whole in hundredths, rounded down
abbrev pub amount_of : Amount → (whole : ℕ) → ℕ
amount_of (Count n) whole = n
amount_of (Percent n) whole = n * whole / 100

-- ---- lines and words

abbrev pub is_line_feed : ℕ → Bool
is_line_feed byte = byte == line_feed

abbrev pub is_comment : ℕ → Bool
is_comment byte = byte == hash_mark

-- the lines of a text: what stands behind the last line feed is one too
abbrev pub lines_in : List ℕ → List (List ℕ)
lines_in text = slice_split is_line_feed text

abbrev pub is_not_empty : List ℕ → Bool
is_not_empty word = not (length word == 0)

-- the words of a line: what stands before a comment, parted by spaces and tabs
abbrev pub words_in : List ℕ → List (List ℕ)
words_in line = filter is_not_empty (slice_split is_blank (before_first is_comment line))

abbrev pub bytes_of : List (Bor (List ℕ)) → List (List ℕ)
bytes_of words = map (λ w. w.now) words

-- ---- keywords

abbrev pub spelling : Keyword → List ℕ
spelling keyword.ProtectionPeriod = codes "protection_period"
spelling keyword.MinCleanSegments = codes "min_clean_segments"
spelling keyword.MaxCleanSegments = codes "max_clean_segments"
spelling keyword.CleanCheckInterval = codes "clean_check_interval"
spelling keyword.SelectionPolicy = codes "selection_policy"
spelling keyword.SegmentsPerClean = codes "nsegments_per_clean"
spelling keyword.UrgentSegmentsPerClean = codes "mc_nsegments_per_clean"
spelling keyword.CleaningInterval = codes "cleaning_interval"
spelling keyword.UrgentCleaningInterval = codes "mc_cleaning_interval"
spelling keyword.RetryInterval = codes "retry_interval"
spelling keyword.MinReclaimableBlocks = codes "min_reclaimable_blocks"
spelling keyword.UrgentMinReclaimableBlocks = codes "mc_min_reclaimable_blocks"
spelling keyword.UseMmap = codes "use_mmap"
spelling keyword.UseSetSuinfo = codes "use_set_suinfo"
spelling keyword.LogPriority = codes "log_priority"

abbrev pub keywords : List Keyword
keywords =
    keyword.ProtectionPeriod ∷ keyword.MinCleanSegments ∷ keyword.MaxCleanSegments
    ∷ keyword.CleanCheckInterval ∷ keyword.SelectionPolicy ∷ keyword.SegmentsPerClean
    ∷ keyword.UrgentSegmentsPerClean ∷ keyword.CleaningInterval ∷ keyword.UrgentCleaningInterval
    ∷ keyword.RetryInterval ∷ keyword.MinReclaimableBlocks ∷ keyword.UrgentMinReclaimableBlocks
    ∷ keyword.UseMmap ∷ keyword.UseSetSuinfo ∷ keyword.LogPriority ∷ []

-- the keyword that a word spells
unfoldable pub keyword_in : List ℕ → Option Keyword
keyword_in word = find (λ k. bytes_eq word (spelling k)) keywords

-- ---- values

abbrev pub percent_in : ℕ → Option ℕ
percent_in n = if nat_le n 100 then Some n else None

-- whether the last byte is `%`
abbrev pub ends_in_percent : List ℕ → Bool
ends_in_percent word = bytes_eq (drop (length word - 1) word) (codes "%")

-- decimal digits, or digits of at most 100 and then `%`
abbrev pub amount_in : List ℕ → Option Amount
amount_in word =
    if ends_in_percent word
    then option_map Percent (option_and_then percent_in (decimal_in (take (length word - 1) word)))
    else option_map Count (decimal_in word)

-- the names by which syslog.conf(5) tells how much is logged
abbrev pub levels : List (List ℕ)
levels =
    codes "emerg" ∷ codes "alert" ∷ codes "crit" ∷ codes "err"
    ∷ codes "warning" ∷ codes "notice" ∷ codes "info" ∷ codes "debug" ∷ []

unfoldable pub is_level : List ℕ → Bool
is_level word = list_any (bytes_eq word) levels

abbrev pub nothing_if : Bool → Option Setting
nothing_if test = if test then Some setting.NoEffect else None

-- what a keyword with one value sets, where it takes that value
unfoldable pub value_setting : Keyword → List ℕ → Option Setting
value_setting keyword.ProtectionPeriod word = option_map setting.ProtectionPeriod (decimal_in word)
value_setting keyword.MinCleanSegments word = option_map setting.MinCleanSegments (amount_in word)
value_setting keyword.MaxCleanSegments word = option_map setting.MaxCleanSegments (amount_in word)
value_setting keyword.CleanCheckInterval word = option_map (λ _. setting.NoEffect) (decimal_in word)
value_setting keyword.SelectionPolicy word = nothing_if (bytes_eq word (codes "timestamp"))
value_setting keyword.SegmentsPerClean word = option_map setting.SegmentsPerClean (decimal_in word)
value_setting keyword.UrgentSegmentsPerClean word =
    option_map setting.UrgentSegmentsPerClean (decimal_in word)
value_setting keyword.CleaningInterval word = option_map (λ _. setting.NoEffect) (decimal_in word)
value_setting keyword.UrgentCleaningInterval word = option_map (λ _. setting.NoEffect) (decimal_in word)
value_setting keyword.RetryInterval word = option_map (λ _. setting.NoEffect) (decimal_in word)
value_setting keyword.MinReclaimableBlocks word = option_map setting.MinReclaimableBlocks (amount_in word)
value_setting keyword.UrgentMinReclaimableBlocks word =
    option_map setting.UrgentMinReclaimableBlocks (amount_in word)
value_setting keyword.UseMmap word = None
value_setting keyword.UseSetSuinfo word = None
value_setting keyword.LogPriority word = nothing_if (is_level word)

-- whether a keyword stands alone
abbrev pub is_alone : Keyword → Bool
is_alone keyword.UseMmap = true
is_alone keyword.UseSetSuinfo = true
is_alone _ = false

-- what the words of a line set, where they are a line of a configuration
abbrev pub setting_in : List (List ℕ) → Option Setting
setting_in [] = Some setting.NoEffect
setting_in (name ∷ []) = option_and_then (λ k. nothing_if (is_alone k)) (keyword_in name)
setting_in (name ∷ value ∷ []) = option_and_then (λ k. value_setting k value) (keyword_in name)
setting_in (name ∷ value ∷ more ∷ rest) = None

-- ---- configurations

abbrev pub standard : Config
standard = record {
  protection_period = 3600;
  min_clean_segments = Percent 10;
  max_clean_segments = Percent 20;
  nsegments_per_clean = 2;
  mc_nsegments_per_clean = 4;
  min_reclaimable_blocks = Percent 10;
  mc_min_reclaimable_blocks = Percent 1;
}

abbrev pub with_setting : Setting → Config → Config
with_setting (setting.ProtectionPeriod n) config = record config { protection_period = n }
with_setting (setting.MinCleanSegments amount) config = record config { min_clean_segments = amount }
with_setting (setting.MaxCleanSegments amount) config = record config { max_clean_segments = amount }
with_setting (setting.SegmentsPerClean n) config = record config { nsegments_per_clean = n }
with_setting (setting.UrgentSegmentsPerClean n) config = record config { mc_nsegments_per_clean = n }
with_setting (setting.MinReclaimableBlocks amount) config = record config { min_reclaimable_blocks = amount }
with_setting (setting.UrgentMinReclaimableBlocks amount) config =
    record config { mc_min_reclaimable_blocks = amount }
with_setting setting.NoEffect config = config

-- what a line sets
abbrev pub line_setting : List ℕ → Option Setting
line_setting line = setting_in (words_in line)

-- a configuration after the lines from number n on
abbrev pub after_lines : List (List ℕ) → ℕ → Config → Result Config VolError
after_lines [] n config = Ok config
after_lines (line ∷ lines) n config =
    and_then (ok_or (line_setting line) (BadConfig n))
    (λ s. after_lines lines (n + 1) (with_setting s config))

-- what a text means
abbrev pub configuration_in : List ℕ → Result Config VolError
configuration_in text = after_lines (lines_in text) 1 standard
