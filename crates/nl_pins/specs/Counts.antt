-- How rules go on from one checkpoint to the next.
use Rattle.std.specs.Prelude.{◌≡◌, ℕ, zero, suc, pred, Bool, true, false, ◌&&◌, ◌||◌, cond, not, None, Some}
use Rattle.nl_pins.specs.declared.counts.Count.{Count}
use Rattle.nl_pins.specs.declared.counts.Counts.{Counts}
use Rattle.nl_pins.specs.declared.rules.Dated.{Dated}
use Rattle.nl_pins.specs.declared.rules.Rules.{Rules}
use Rattle.nl_pins.specs.Retention.{is_period}

abbrev pub has_left : ℕ → Bool
has_left zero = false
has_left (suc n) = true

-- one is kept where the rule has a period left, and it is of another one than the last that was kept
abbrev pub is_kept : Count → ℕ → Bool
is_kept c p = has_left c.left && not (is_period c.last p)

abbrev pub counted : Count → ℕ → Count
counted c p = cond (is_kept c p) (record { left = pred c.left; last = Some p }) c

abbrev pub count_of : ℕ → Count
count_of n = record { left = n; last = None }

abbrev pub counts_of : Rules → Counts
counts_of rules = record {
  hourly = count_of rules.hourly;
  daily = count_of rules.daily;
  weekly = count_of rules.weekly;
  monthly = count_of rules.monthly;
  yearly = count_of rules.yearly;
}

abbrev pub are_counted : Counts → Dated → Counts
are_counted c d = record {
  hourly = counted c.hourly d.periods.hour;
  daily = counted c.daily d.periods.day;
  weekly = counted c.weekly d.periods.week;
  monthly = counted c.monthly d.periods.month;
  yearly = counted c.yearly d.periods.year;
}

-- one of the rules keeps it
abbrev pub is_kept_by_one : Counts → Dated → Bool
is_kept_by_one c d =
    is_kept c.hourly d.periods.hour || (is_kept c.daily d.periods.day || (is_kept c.weekly d.periods.week
    || (is_kept c.monthly d.periods.month || is_kept c.yearly d.periods.year)))

pub record HasCounted (old : Counts) (d : Dated) (result : Bool) (new : Counts) : Type 0 where
  pub kept : result ≡ is_kept_by_one old d
  pub counted : new ≡ are_counted old d
