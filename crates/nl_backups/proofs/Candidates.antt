-- Checkpoints as rules see them: their numbers descend, and no rule lets a pinned one go.
use mathlib.Core.List.{reverse_aux}
use Rattle.std.proofs.Common.{◌≡◌, ◌⊎◌, inl, inr, length, ℕ, ◌<◌, Bool, true, false, cond, not, ◌||◌, List, [], ◌∷◌, ◌++◌, append-nil, map, is_some, refl, sym, ap, ◌∙◌, true≢false, eqb-true}
use Rattle.std.specs.Prelude.{◌==◌}
use Rattle.std.specs.List.{filter, zip}
use Rattle.nl_types.specs.declared.row.Row.{Row}
use Rattle.nl_types.specs.Plain.NumberLists.{is_one_of}
use Rattle.nl_types.specs.Plain.Worlds.{World, rows}
use Rattle.nl_manifests.specs.declared.manifest.Line.{Line}
use Rattle.nl_pins.specs.declared.rules.Dated.{Dated}
use Rattle.nl_pins.specs.declared.rules.Periods.{Periods}
use Rattle.nl_pins.specs.declared.rules.Rules.{Rules}
use Rattle.nl_pins.specs.Pins.{text_in}
use Rattle.nl_pins.specs.Retention.{AreBelow, Descend, expired, stays}
use Rattle.nl_keep_pen.specs.Images.{ForgetsInImage}
use Rattle.nl_backups.specs.Effects.{Has, Spares}
use Rattle.nl_backups.specs.Hosts.{Image}
use Rattle.nl_backups.specs.Pruning.{AreExpired, PinnedOnesStay, candidates, candidates_in, counted, dated, is_counted, removal}
use Rattle.nl_backups.specs.Readings.{AreAbove, Ascend, HasLines, HasRows, pinned_in}
use Rattle.nl_backups.proofs.OneWorld.{lines_are}

-- ---- one after another

pub counted_more : (lines : List Line) (one : Row × Periods) (rest : List (Row × Periods))
    → counted lines (one ∷ []) ++ counted lines rest ≡ counted lines (one ∷ rest)
counted_more lines one rest =
    elim (is_counted one) as (λ b.
    map (dated lines) (cond b (one ∷ []) []) ++ map (dated lines) (filter is_counted rest)
    ≡ map (dated lines) (cond b (one ∷ filter is_counted rest) (filter is_counted rest))) [
      | true ↦ refl
      | false ↦ refl
    ]

pub none_left : (lines : List Line) (done all : List Dated) (told : List Row) (periods : List Periods)
    → (told ≡ []) ⊎ (periods ≡ []) → done ++ counted lines (zip told periods) ≡ all → done ≡ all
none_left lines done all [] periods ended is = sym (append-nil done) ∙ is
none_left lines done all (row ∷ told) [] ended is = sym (append-nil done) ∙ is
none_left lines done all (row ∷ told) (p ∷ periods) (inl none) is =
    let no : ◌≡◌ {A = List Row} (row ∷ told) [] = none in cc
none_left lines done all (row ∷ told) (p ∷ periods) (inr none) is =
    let no : ◌≡◌ {A = List Periods} (p ∷ periods) [] = none in cc

-- ---- numbers descend

abbrev AllAbove : ℕ → List Dated → Type 0
AllAbove n [] = Unit {0}
AllAbove n (d ∷ rest) = (n < d.number) × AllAbove n rest

abbrev Rise : List Dated → Type 0
Rise [] = Unit {0}
Rise (d ∷ rest) = AllAbove d.number rest × Rise rest

above_one : (n : ℕ) (lines : List Line) (one : Row × Periods) (rest : List (Row × Periods)) (b : Bool)
    → n < one.0.number → AllAbove n (map (dated lines) rest)
    → AllAbove n (map (dated lines) (cond b (one ∷ rest) rest))
above_one n lines one rest true low above = (low, above)
above_one n lines one rest false low above = above

above_all : (n : ℕ) (lines : List Line) (told : List Row) (periods : List Periods) → AreAbove n told
    → AllAbove n (counted lines (zip told periods))
above_all n lines [] periods above = tt
above_all n lines (row ∷ told) [] above = tt
above_all n lines (row ∷ told) (p ∷ periods) above =
    above_one n lines (row, p) (filter is_counted (zip told periods)) (is_counted (row, p)) above.0
    (above_all n lines told periods above.1)

rise_one : (lines : List Line) (one : Row × Periods) (rest : List (Row × Periods)) (b : Bool)
    → AllAbove one.0.number (map (dated lines) rest) → Rise (map (dated lines) rest)
    → Rise (map (dated lines) (cond b (one ∷ rest) rest))
rise_one lines one rest true above rise = (above, rise)
rise_one lines one rest false above rise = rise

rise_all : (lines : List Line) (told : List Row) (periods : List Periods) → Ascend told
    → Rise (counted lines (zip told periods))
rise_all lines [] periods ascend = tt
rise_all lines (row ∷ told) [] ascend = tt
rise_all lines (row ∷ told) (p ∷ periods) ascend =
    rise_one lines (row, p) (filter is_counted (zip told periods)) (is_counted (row, p))
    (above_all row.number lines told periods ascend.0) (rise_all lines told periods ascend.1)

-- all of them are above those that stand before them once they are turned round
abbrev AllOver : List Dated → List Dated → Type 0
AllOver before [] = Unit {0}
AllOver before (d ∷ rest) = AreBelow d.number before × AllOver before rest

over_none : (all : List Dated) → AllOver [] all
over_none [] = tt
over_none (d ∷ all) = (tt, over_none all)

over_more : (d : Dated) (before rest : List Dated) → AllAbove d.number rest → AllOver before rest
    → AllOver (d ∷ before) rest
over_more d before [] above over = tt
over_more d before (e ∷ rest) above over = ((above.0, over.0), over_more d before rest above.1 over.1)

turned : (all before : List Dated) → Rise all → Descend before → AllOver before all
    → Descend (reverse_aux all before)
turned [] before rise descend over = descend
turned (d ∷ all) before rise descend over =
    turned all (d ∷ before) rise.1 (over.0, descend) (over_more d before all rise.0 over.1)

pub candidates_descend : (lines : List Line) (told : List Row) (periods : List Periods) → Ascend told
    → Descend (candidates_in lines told periods)
candidates_descend lines told periods ascend =
    turned (counted lines (zip told periods)) [] (rise_all lines told periods ascend) tt
    (over_none (counted lines (zip told periods)))

-- ---- what goes

pub are_expired : (rules : Rules) (periods : List Periods) (lines : List Line) (told : List Row)
    (numbers : List ℕ) (image : Image) → HasLines lines image → HasRows told image
    → numbers ≡ expired rules (candidates_in lines told periods) → AreExpired rules periods numbers image
are_expired rules periods lines told numbers image has_lines has_rows is w from =
    is
    ∙ ap (λ (l : List Line). expired rules (candidates_in l told periods)) (lines_are lines image has_lines w from)
    ∙ ap (λ (r : List Row). expired rules (candidates_in (pinned_in w) r periods)) (has_rows w from)

pub some_go : (moment : ℕ) (numbers : List ℕ) (image next : Image) → (length numbers == 0) ≡ false
    → ForgetsInImage moment numbers image next → Has (removal moment numbers) image next
some_go moment [] image next some forgets = absurd (true≢false some)
some_go moment (n ∷ numbers) image next some forgets = forgets

-- ---- pinned ones stay

module _ (Q : Dated → Type 0) where
  abbrev All : List Dated → Type 0
  All [] = Unit {0}
  All (d ∷ rest) = Q d × All rest

  all_turned : (all before : List Dated) → All all → All before → All (reverse_aux all before)
  all_turned [] before has earlier = earlier
  all_turned (d ∷ all) before has earlier = all_turned all (d ∷ before) has.1 (has.0, earlier)

  -- one of them passes, and has the number
  record Found (P : Dated → Bool) (n : ℕ) : Type 0 where
    one : Dated
    has : Q one
    number : one.number ≡ n
    passes : P one ≡ true

  found_first : (P : Dated → Bool) (d : Dated) (rest : List ℕ) (n : ℕ) → Q d
      → (is_one_of rest n ≡ true → Found P n) → (b : Bool) → P d ≡ b
      → is_one_of (cond b (d.number ∷ rest) rest) n ≡ true → Found P n
  found_first P d rest n q later true is one =
      elim (n == d.number) as (λ t. (n == d.number) ≡ t → (t || is_one_of rest n) ≡ true → Found P n) [
        | true ↦ λ same _. record { one = d; has = q; number = sym (eqb-true n d.number same); passes = is }
        | false ↦ λ _ behind. later behind
      ] refl one
  found_first P d rest n q later false is one = later one

  mapped : (P : Dated → Bool) (d : Dated) (rest : List Dated) (b : Bool)
      → map (λ (e : Dated). e.number) (cond b (d ∷ filter P rest) (filter P rest))
      ≡ cond b (d.number ∷ map (λ (e : Dated). e.number) (filter P rest))
      (map (λ (e : Dated). e.number) (filter P rest))
  mapped P d rest true = refl
  mapped P d rest false = refl

  found : (P : Dated → Bool) (all : List Dated) (n : ℕ) → All all
      → is_one_of (map (λ (d : Dated). d.number) (filter P all)) n ≡ true → Found P n
  found P [] n all one = absurd (true≢false (sym one))
  found P (d ∷ rest) n all one =
      found_first P d (map (λ (e : Dated). e.number) (filter P rest)) n all.0 (found P rest n all.1) (P d) refl
      (ap (λ (l : List ℕ). is_one_of l n) (sym (mapped P d rest (P d))) ∙ one)

not_first : (a b : Bool) → not (a || b) ≡ true → a ≡ false
not_first true b is = absurd (true≢false (sym is))
not_first false b is = refl

-- what the pins say of it
abbrev IsAsPinned : List Line → Dated → Type 0
IsAsPinned lines d = d.is_pinned ≡ is_some (text_in lines d.number)

all_dated : (lines : List Line) (all : List (Row × Periods)) → All (IsAsPinned lines) (map (dated lines) all)
all_dated lines [] = tt
all_dated lines (one ∷ all) = (refl, all_dated lines all)

-- what goes isn't pinned
unpinned : (rules : Rules) (periods : List Periods) (w : World) (n : ℕ)
    → is_one_of (expired rules (candidates periods w)) n ≡ true
    → is_some (text_in (pinned_in w) n) ≡ false
unpinned rules periods w n one =
    let lines = pinned_in w in
    let all = candidates periods w in
    let seen = filter is_counted (zip (rows w) periods) in
    let gone =
    found (IsAsPinned lines) (λ (d : Dated). not (stays rules all d)) all n
    (all_turned (IsAsPinned lines) (map (dated lines) seen) [] (all_dated lines seen) tt) one in
    ap (λ (m : ℕ). is_some (text_in lines m)) (sym gone.number)
    ∙ sym gone.has
    ∙ not_first gone.one.is_pinned _ gone.passes

spared : (moment n : ℕ) (numbers : List ℕ) → is_one_of numbers n ≡ false → Spares n (removal moment numbers)
spared moment n [] none = tt
spared moment n (k ∷ numbers) none = none

not_both : (a b : Bool) → (a ≡ true → b ≡ false) → b ≡ true → a ≡ false
not_both true b either here = absurd (true≢false (sym here ∙ either refl))
not_both false b either here = refl

pub pinned_stay : PinnedOnesStay
pinned_stay rules moment n told old new w from prunes here =
    spared moment n told.numbers
    (ap (λ (l : List ℕ). is_one_of l n) (prunes.gone w from)
    ∙ not_both (is_one_of (expired rules (candidates told.periods.items w)) n)
    (is_some (text_in (pinned_in w) n)) (unpinned rules told.periods.items w n) here)
