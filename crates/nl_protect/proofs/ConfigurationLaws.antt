-- What the lines of a configuration do, one after another.
use Rattle.std.proofs.Common.{◌≡◌, ℕ, zero, suc, ◌+◌, ◌<◌, List, [], ◌∷◌, map, unwrap_or, Option, None, Some, refl, sym, ap, ◌∙◌, arith}
use Rattle.std.specs.Prelude.{Result, Ok, Err, slice_get}
use Rattle.std.specs.Option.{ok_or, option_or}
use Rattle.nl_types.specs.declared.error.VolError.{VolError}
use Rattle.nl_types.specs.declared.error.VolError.TheVariants.{BadConfig}
use Rattle.nl_types.specs.Plain.Calls.{and_then}
use Rattle.nl_protect.specs.declared.config.Config.{Config}
use Rattle.nl_protect.specs.declared.setting.Setting.{Setting}
use Rattle.nl_protect.specs.declared.setting.Setting.TheVariants as setting
use Rattle.nl_protect.specs.Configuration.{after_lines, line_setting, with_setting, standard}
use Rattle.nl_protect.specs.Laws.{IsFirstBad, IsSetBy, last_given, period_set, min_clean_of, max_clean_of, most_of, urgent_most_of, least_of, urgent_least_of}

-- ---- lines that can't be read

abbrev goes_on : List (List ℕ) → ℕ → Config → Option Setting → Result Config VolError
goes_on lines n config o =
    and_then (ok_or o (BadConfig n)) (λ s. after_lines lines (n + 1) (with_setting s config))

some-none : {A : Type 0} {a : A} → None ≡ Some a → ⊥
some-none e = cc

rest-bad : (line : List ℕ) (lines : List (List ℕ)) (i : ℕ) → IsFirstBad (line ∷ lines) (suc i)
    → IsFirstBad lines i
rest-bad line lines i first = record {
  bad = first.bad;
  before = λ k l below is. first.before (suc k) l (omega arith) is;
}

pub told : (lines : List (List ℕ)) (i n : ℕ) (config : Config) → IsFirstBad lines i
    → after_lines lines n config ≡ Err (BadConfig (n + i))
told [] i n config first = absurd (some-none first.bad.1)
told (line ∷ lines) zero n config first =
    let bad : line_setting line ≡ None =
    ap (λ (o : Option (List ℕ)). line_setting (unwrap_or o [])) first.bad.1 ∙ first.bad.2 in
    ap (goes_on lines n config) bad ∙ ap (λ (m : ℕ). Err (BadConfig m)) (omega arith)
told (line ∷ lines) (suc i) n config first =
    let good = first.before 0 line (omega arith) refl in
    ap (goes_on lines n config) good.1
    ∙ told lines i (n + 1) (with_setting good.0 config) (rest-bad line lines i first)
    ∙ ap (λ (m : ℕ). Err (BadConfig m)) (omega arith)

bad-here : (line : List ℕ) (lines : List (List ℕ)) → line_setting line ≡ None → IsFirstBad (line ∷ lines) 0
bad-here line lines is = record { bad = (line, refl, is); before = λ k l below at. absurd (omega arith) }

bad-later : (line : List ℕ) (lines : List (List ℕ)) (s : Setting) (i : ℕ) → line_setting line ≡ Some s
    → IsFirstBad lines i → IsFirstBad (line ∷ lines) (suc i)
bad-later line lines s i is first = record { bad = first.bad; before = earlier }
  where
    earlier : (k : ℕ) (l : List ℕ) → k < suc i → slice_get (line ∷ lines) k ≡ Some l
        → (t : Setting) × (line_setting l ≡ Some t)
    earlier zero l below at = (s, ap (λ (o : Option (List ℕ)). line_setting (unwrap_or o [])) (sym at) ∙ is)
    earlier (suc k) l below at = first.before k l (omega arith) at

pub alone : (lines : List (List ℕ)) (n : ℕ) (config : Config) (e : VolError)
    → after_lines lines n config ≡ Err e → (i : ℕ) × IsFirstBad lines i × (e ≡ BadConfig (n + i))
alone [] n config e is = absurd (cc)
alone (line ∷ lines) n config e is =
    elim (line_setting line) as (λ o.
    line_setting line ≡ o → goes_on lines n config o ≡ Err e
    → (i : ℕ) × IsFirstBad (line ∷ lines) i × (e ≡ BadConfig (n + i))) [
      | None ↦
          λ bad err.
          let here : e ≡ BadConfig n = cc in (0, bad-here line lines bad, here ∙ ap BadConfig (omega arith))
      | Some s ↦ λ good err.
          let rest = alone lines (n + 1) (with_setting s config) e err in
          (suc rest.0, bad-later line lines s rest.0 good rest.1, rest.2 ∙ ap BadConfig (omega arith))
    ] refl is

-- ---- what counts

abbrev with_settings : List Setting → Config → Config
with_settings [] config = config
with_settings (s ∷ settings) config = with_settings settings (with_setting s config)

abbrev AreSettings : List (List ℕ) → Config → Config → Type 0
AreSettings lines before after =
    (settings : List Setting) × (map line_setting lines ≡ map Some settings)
    × (after ≡ with_settings settings before)

pub set : (lines : List (List ℕ)) (n : ℕ) (before after : Config) → after_lines lines n before ≡ Ok after
    → AreSettings lines before after
set [] n before after is = ([], refl, cc)
set (line ∷ lines) n before after is =
    elim (line_setting line) as (λ o.
    line_setting line ≡ o → goes_on lines n before o ≡ Ok after → AreSettings (line ∷ lines) before after) [
      | None ↦ λ bad err. absurd (cc)
      | Some s ↦ λ good ok.
          let rest = set lines (n + 1) (with_setting s before) after ok in
          (s ∷ rest.0, cons good rest.1, rest.2)
    ] refl is
  where
    cons : {A : Type 0} {a b : A} {xs ys : List A} → a ≡ b → xs ≡ ys → a ∷ xs ≡ b ∷ ys
    cons p q = cc

last-first : {A : Type 0} (last given : Option A) (d : A)
    → unwrap_or last (unwrap_or given d) ≡ unwrap_or (option_or last given) d
last-first None given d = refl
last-first (Some a) given d = refl

-- a field is the last one that is given, where each setting gives it or leaves it
field-last : {A : Type 0} (field : Config → A) (given : Setting → Option A)
    → ((s : Setting) (config : Config) → field (with_setting s config) ≡ unwrap_or (given s) (field config))
    → (settings : List Setting) (config : Config)
    → field (with_settings settings config) ≡ unwrap_or (last_given given settings) (field config)
field-last field given step [] config = refl
field-last field given step (s ∷ settings) config =
    field-last field given step settings (with_setting s config)
    ∙ ap (unwrap_or (last_given given settings)) (step s config)
    ∙ last-first (last_given given settings) (given s) (field config)

period-step : (s : Setting) (config : Config)
    → (with_setting s config).protection_period ≡ unwrap_or (period_set s) config.protection_period
period-step s config =
    elim s as (λ k.
    (with_setting k config).protection_period ≡ unwrap_or (period_set k) config.protection_period) [
      | setting.ProtectionPeriod x ↦ refl
      | setting.MinCleanSegments x ↦ refl
      | setting.MaxCleanSegments x ↦ refl
      | setting.SegmentsPerClean x ↦ refl
      | setting.UrgentSegmentsPerClean x ↦ refl
      | setting.MinReclaimableBlocks x ↦ refl
      | setting.UrgentMinReclaimableBlocks x ↦ refl
      | setting.NoEffect ↦ refl
    ]

min_clean-step : (s : Setting) (config : Config)
    → (with_setting s config).min_clean_segments ≡ unwrap_or (min_clean_of s) config.min_clean_segments
min_clean-step s config =
    elim s as (λ k.
    (with_setting k config).min_clean_segments ≡ unwrap_or (min_clean_of k) config.min_clean_segments) [
      | setting.ProtectionPeriod x ↦ refl
      | setting.MinCleanSegments x ↦ refl
      | setting.MaxCleanSegments x ↦ refl
      | setting.SegmentsPerClean x ↦ refl
      | setting.UrgentSegmentsPerClean x ↦ refl
      | setting.MinReclaimableBlocks x ↦ refl
      | setting.UrgentMinReclaimableBlocks x ↦ refl
      | setting.NoEffect ↦ refl
    ]

max_clean-step : (s : Setting) (config : Config)
    → (with_setting s config).max_clean_segments ≡ unwrap_or (max_clean_of s) config.max_clean_segments
max_clean-step s config =
    elim s as (λ k.
    (with_setting k config).max_clean_segments ≡ unwrap_or (max_clean_of k) config.max_clean_segments) [
      | setting.ProtectionPeriod x ↦ refl
      | setting.MinCleanSegments x ↦ refl
      | setting.MaxCleanSegments x ↦ refl
      | setting.SegmentsPerClean x ↦ refl
      | setting.UrgentSegmentsPerClean x ↦ refl
      | setting.MinReclaimableBlocks x ↦ refl
      | setting.UrgentMinReclaimableBlocks x ↦ refl
      | setting.NoEffect ↦ refl
    ]

most-step : (s : Setting) (config : Config)
    → (with_setting s config).nsegments_per_clean ≡ unwrap_or (most_of s) config.nsegments_per_clean
most-step s config =
    elim s as (λ k.
    (with_setting k config).nsegments_per_clean ≡ unwrap_or (most_of k) config.nsegments_per_clean) [
      | setting.ProtectionPeriod x ↦ refl
      | setting.MinCleanSegments x ↦ refl
      | setting.MaxCleanSegments x ↦ refl
      | setting.SegmentsPerClean x ↦ refl
      | setting.UrgentSegmentsPerClean x ↦ refl
      | setting.MinReclaimableBlocks x ↦ refl
      | setting.UrgentMinReclaimableBlocks x ↦ refl
      | setting.NoEffect ↦ refl
    ]

urgent_most-step : (s : Setting) (config : Config)
    → (with_setting s config).mc_nsegments_per_clean
    ≡ unwrap_or (urgent_most_of s) config.mc_nsegments_per_clean
urgent_most-step s config =
    elim s as (λ k.
    (with_setting k config).mc_nsegments_per_clean
    ≡ unwrap_or (urgent_most_of k) config.mc_nsegments_per_clean) [
      | setting.ProtectionPeriod x ↦ refl
      | setting.MinCleanSegments x ↦ refl
      | setting.MaxCleanSegments x ↦ refl
      | setting.SegmentsPerClean x ↦ refl
      | setting.UrgentSegmentsPerClean x ↦ refl
      | setting.MinReclaimableBlocks x ↦ refl
      | setting.UrgentMinReclaimableBlocks x ↦ refl
      | setting.NoEffect ↦ refl
    ]

least-step : (s : Setting) (config : Config)
    → (with_setting s config).min_reclaimable_blocks ≡ unwrap_or (least_of s) config.min_reclaimable_blocks
least-step s config =
    elim s as (λ k.
    (with_setting k config).min_reclaimable_blocks ≡ unwrap_or (least_of k) config.min_reclaimable_blocks) [
      | setting.ProtectionPeriod x ↦ refl
      | setting.MinCleanSegments x ↦ refl
      | setting.MaxCleanSegments x ↦ refl
      | setting.SegmentsPerClean x ↦ refl
      | setting.UrgentSegmentsPerClean x ↦ refl
      | setting.MinReclaimableBlocks x ↦ refl
      | setting.UrgentMinReclaimableBlocks x ↦ refl
      | setting.NoEffect ↦ refl
    ]

urgent_least-step : (s : Setting) (config : Config)
    → (with_setting s config).mc_min_reclaimable_blocks
    ≡ unwrap_or (urgent_least_of s) config.mc_min_reclaimable_blocks
urgent_least-step s config =
    elim s as (λ k.
    (with_setting k config).mc_min_reclaimable_blocks
    ≡ unwrap_or (urgent_least_of k) config.mc_min_reclaimable_blocks) [
      | setting.ProtectionPeriod x ↦ refl
      | setting.MinCleanSegments x ↦ refl
      | setting.MaxCleanSegments x ↦ refl
      | setting.SegmentsPerClean x ↦ refl
      | setting.UrgentSegmentsPerClean x ↦ refl
      | setting.MinReclaimableBlocks x ↦ refl
      | setting.UrgentMinReclaimableBlocks x ↦ refl
      | setting.NoEffect ↦ refl
    ]

pub is_set : (settings : List Setting) (config : Config) → config ≡ with_settings settings standard
    → IsSetBy settings config
is_set settings config is = record {
  period =
      ap (λ (c : Config). c.protection_period) is
      ∙ field-last (λ (c : Config). c.protection_period) period_set period-step settings standard;
  min_clean =
      ap (λ (c : Config). c.min_clean_segments) is
      ∙ field-last (λ (c : Config). c.min_clean_segments) min_clean_of min_clean-step settings standard;
  max_clean =
      ap (λ (c : Config). c.max_clean_segments) is
      ∙ field-last (λ (c : Config). c.max_clean_segments) max_clean_of max_clean-step settings standard;
  most =
      ap (λ (c : Config). c.nsegments_per_clean) is
      ∙ field-last (λ (c : Config). c.nsegments_per_clean) most_of most-step settings standard;
  urgent_most =
      ap (λ (c : Config). c.mc_nsegments_per_clean) is
      ∙ field-last
      (λ (c : Config). c.mc_nsegments_per_clean) urgent_most_of urgent_most-step settings standard;
  least =
      ap (λ (c : Config). c.min_reclaimable_blocks) is
      ∙ field-last (λ (c : Config). c.min_reclaimable_blocks) least_of least-step settings standard;
  urgent_least =
      ap (λ (c : Config). c.mc_min_reclaimable_blocks) is
      ∙ field-last
      (λ (c : Config). c.mc_min_reclaimable_blocks) urgent_least_of urgent_least-step settings standard;
}
