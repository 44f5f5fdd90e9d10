-- Which checkpoints stay by rules of retention, and which go.
use Rattle.std.specs.Prelude.{ℕ, ◌<◌, max, Bool, false, cond, not, ◌==◌, ◌||◌, List, [], ◌∷◌, map, take, ⊤, Option, None, Some}
use Rattle.std.specs.List.{filter, list_any}
use Rattle.nl_pins.specs.declared.rules.Dated.{Dated}
use Rattle.nl_pins.specs.declared.rules.Rules.{Rules}

-- a period of each checkpoint
abbrev pub Period : Type 0
Period = Dated → ℕ

abbrev pub is_period : Option ℕ → ℕ → Bool
is_period None p = false
is_period (Some q) p = q == p

-- Checkpoints stand newest first. Of each period the newest, where the one before them is of the last period.
abbrev pub newest_after : Period → Option ℕ → List Dated → List Dated
newest_after period last [] = []
newest_after period last (d ∷ rows) =
    cond (is_period last (period d)) (newest_after period last rows)
    (d ∷ newest_after period (Some (period d)) rows)

-- of each period the newest
abbrev pub newest_of : Period → List Dated → List Dated
newest_of period rows = newest_after period None rows

-- the newest of the last periods that have a checkpoint, as many as there may be
abbrev pub by_rule : ℕ → Period → List Dated → List Dated
by_rule count period rows = take count (newest_of period rows)

abbrev pub is_among : List Dated → Dated → Bool
is_among rows d = list_any (λ (e : Dated). e.number == d.number) rows

-- The latest one stays, each that is pinned, and what some rule keeps.
abbrev pub stays : Rules → List Dated → Dated → Bool
stays rules rows d =
    d.is_pinned || (is_among (take (max 1 rules.last) rows) d
    || (is_among (by_rule rules.hourly (λ e. e.periods.hour) rows) d
    || (is_among (by_rule rules.daily (λ e. e.periods.day) rows) d
    || (is_among (by_rule rules.weekly (λ e. e.periods.week) rows) d
    || (is_among (by_rule rules.monthly (λ e. e.periods.month) rows) d
    || is_among (by_rule rules.yearly (λ e. e.periods.year) rows) d)))))

-- all others go
abbrev pub expired : Rules → List Dated → List ℕ
expired rules rows = map (λ (d : Dated). d.number) (filter (λ d. not (stays rules rows d)) rows)

-- all numbers are below one
abbrev pub AreBelow : ℕ → List Dated → Type 0
AreBelow n [] = ⊤
AreBelow n (d ∷ rows) = (d.number < n) × AreBelow n rows

-- numbers descend, as those of checkpoints do that stand newest first
abbrev pub Descend : List Dated → Type 0
Descend [] = ⊤
Descend (d ∷ rows) = AreBelow d.number rows × Descend rows
