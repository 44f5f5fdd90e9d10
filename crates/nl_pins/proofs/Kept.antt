-- What rules keep of checkpoints that are looked at one after another.
use Rattle.std.proofs.Common.{◌≡◌, ℕ, zero, suc, ◌<◌, max, Bool, true, false, cond, ◌&&◌, ◌||◌, not, List, [], ◌∷◌, take, Option, Some, refl, ap, ◌∙◌, arith}
use Rattle.std.specs.Prelude.{◌==◌, ⊤}
use Rattle.nl_pins.specs.declared.counts.Count.{Count}
use Rattle.nl_pins.specs.declared.counts.Counts.{Counts}
use Rattle.nl_pins.specs.declared.rules.Dated.{Dated}
use Rattle.nl_pins.specs.declared.rules.Rules.{Rules}
use Rattle.nl_pins.specs.Counts.{are_counted, counted, counts_of, is_kept, is_kept_by_one}
use Rattle.nl_pins.specs.Retention.{AreBelow, Period, by_rule, is_among, is_period, newest_after, stays}

-- ---- what is below isn't among

pub take_below : (n k : ℕ) (rows : List Dated) → AreBelow n rows → AreBelow n (take k rows)
take_below n zero rows below = tt
take_below n (suc k) [] below = tt
take_below n (suc k) (d ∷ rows) below = (below.0, take_below n k rows below.1)

cond_below : (n : ℕ) (b : Bool) (xs ys : List Dated) → AreBelow n xs → AreBelow n ys → AreBelow n (cond b xs ys)
cond_below n true xs ys x y = x
cond_below n false xs ys x y = y

newest_below : (n : ℕ) (period : Period) (last : Option ℕ) (rows : List Dated) → AreBelow n rows
    → AreBelow n (newest_after period last rows)
newest_below n period last [] below = tt
newest_below n period last (d ∷ rows) below =
    cond_below n (is_period last (period d)) (newest_after period last rows)
    (d ∷ newest_after period (Some (period d)) rows) (newest_below n period last rows below.1)
    (below.0, newest_below n period (Some (period d)) rows below.1)

pub different : (m n : ℕ) → n < m → (m == n) ≡ false
different m n low = grind (arith, low)

differ : (m n : ℕ) → m < n → (m == n) ≡ false
differ m n low = grind (arith, low)

pub none_below : (d : Dated) (rows : List Dated) → AreBelow d.number rows → is_among rows d ≡ false
none_below d [] below = refl
none_below d (e ∷ rows) below =
    ap (λ (b : Bool). b || is_among rows d) (differ e.number d.number below.0) ∙ none_below d rows below.1

-- ---- a rule at the next checkpoint

first_by : (b : Bool) (l : ℕ) (d : Dated) (xs ys : List Dated) → AreBelow d.number xs
    → is_among (take (suc l) (cond b xs (d ∷ ys))) d ≡ (true && not b)
first_by true l d xs ys below = none_below d (take (suc l) xs) (take_below d.number (suc l) xs below)
first_by false l d xs ys below = ap (λ (b : Bool). b || is_among (take l ys) d) (same d.number)
  where
    same : (n : ℕ) → (n == n) ≡ true
    same n = grind (arith)

pub kept_first : (period : Period) (left : ℕ) (last : Option ℕ) (d : Dated) (rows : List Dated)
    → AreBelow d.number rows
    → is_among (take left (newest_after period last (d ∷ rows))) d
    ≡ is_kept (record { left = left; last = last }) (period d)
kept_first period zero last d rows below = refl
kept_first period (suc l) last d rows below =
    first_by (is_period last (period d)) l d (newest_after period last rows)
    (newest_after period (Some (period d)) rows) (newest_below d.number period last rows below)

on_by : (b : Bool) (l : ℕ) (period : Period) (last : Option ℕ) (d e : Dated) (rows : List Dated)
    → e.number < d.number
    → is_among (take (suc l) (cond b (newest_after period last rows)
    (d ∷ newest_after period (Some (period d)) rows))) e
    ≡ (let c : Count = cond (true && not b) (record { left = l; last = Some (period d) })
    (record { left = suc l; last = last }) in
    is_among (take c.left (newest_after period c.last rows)) e)
on_by true l period last d e rows low = refl
on_by false l period last d e rows low =
    ap (λ (b : Bool). b || is_among (take l (newest_after period (Some (period d)) rows)) e)
    (different d.number e.number low)

pub kept_on : (period : Period) (left : ℕ) (last : Option ℕ) (d e : Dated) (rows : List Dated)
    → e.number < d.number
    → is_among (take left (newest_after period last (d ∷ rows))) e
    ≡ (let c = counted (record { left = left; last = last }) (period d) in
    is_among (take c.left (newest_after period c.last rows)) e)
kept_on period zero last d e rows low = refl
kept_on period (suc l) last d e rows low = on_by (is_period last (period d)) l period last d e rows low

-- ---- all rules, amid the list

abbrev pub AllOf : (Dated → Type 0) → List Dated → Type 0
AllOf P [] = ⊤
AllOf P (d ∷ rows) = P d × AllOf P rows

-- of those that are left, a rule keeps what it keeps from here on
abbrev pub Follows : ℕ → Period → (rows : List Dated) → Count → (rest : List Dated) → Type 0
Follows limit period rows c rest =
    AllOf (λ e. is_among (by_rule limit period rows) e ≡ is_among (take c.left (newest_after period c.last rest)) e)
    rest

pub record FollowAll (rules : Rules) (rows : List Dated) (c : Counts) (rest : List Dated) : Type 0 where
  pub hourly : Follows rules.hourly (λ e. e.periods.hour) rows c.hourly rest
  pub daily : Follows rules.daily (λ e. e.periods.day) rows c.daily rest
  pub weekly : Follows rules.weekly (λ e. e.periods.week) rows c.weekly rest
  pub monthly : Follows rules.monthly (λ e. e.periods.month) rows c.monthly rest
  pub yearly : Follows rules.yearly (λ e. e.periods.year) rows c.yearly rest

pub all_of : (P : Dated → Type 0) → ((d : Dated) → P d) → (rows : List Dated) → AllOf P rows
all_of P each [] = tt
all_of P each (d ∷ rows) = (each d, all_of P each rows)

pub follow_at_first : (rules : Rules) (rows : List Dated) → FollowAll rules rows (counts_of rules) rows
follow_at_first rules rows = record {
  hourly = all_of _ (λ d. refl) rows;
  daily = all_of _ (λ d. refl) rows;
  weekly = all_of _ (λ d. refl) rows;
  monthly = all_of _ (λ d. refl) rows;
  yearly = all_of _ (λ d. refl) rows;
}

pub all_on : (P Q : Dated → Type 0) (n : ℕ) (rows : List Dated) → AreBelow n rows
    → ((e : Dated) → e.number < n → P e → Q e) → AllOf P rows → AllOf Q rows
all_on P Q n [] below on all = tt
all_on P Q n (e ∷ rows) below on all = (on e below.0 all.0, all_on P Q n rows below.1 on all.1)

follows_on : (limit : ℕ) (period : Period) (rows : List Dated) (c : Count) (d : Dated) (rest : List Dated)
    → AreBelow d.number rest → Follows limit period rows c (d ∷ rest)
    → Follows limit period rows (counted c (period d)) rest
follows_on limit period rows c d rest below were =
    all_on _ _ d.number rest below
    (λ e low was. was ∙ kept_on period c.left c.last d e rest low) were.1

pub follow_on : (rules : Rules) (rows : List Dated) (c : Counts) (d : Dated) (rest : List Dated)
    → AreBelow d.number rest → FollowAll rules rows c (d ∷ rest) → FollowAll rules rows (are_counted c d) rest
follow_on rules rows c d rest below were = record {
  hourly = follows_on rules.hourly (λ e. e.periods.hour) rows c.hourly d rest below were.hourly;
  daily = follows_on rules.daily (λ e. e.periods.day) rows c.daily d rest below were.daily;
  weekly = follows_on rules.weekly (λ e. e.periods.week) rows c.weekly d rest below were.weekly;
  monthly = follows_on rules.monthly (λ e. e.periods.month) rows c.monthly d rest below were.monthly;
  yearly = follows_on rules.yearly (λ e. e.periods.year) rows c.yearly d rest below were.yearly;
}

-- so much of `stays` is that of rules on periods
kept_is : (limit : ℕ) (period : Period) (rows : List Dated) (c : Count) (d : Dated) (rest : List Dated)
    → AreBelow d.number rest → Follows limit period rows c (d ∷ rest)
    → is_among (by_rule limit period rows) d ≡ is_kept c (period d)
kept_is limit period rows c d rest below were = were.0 ∙ kept_first period c.left c.last d rest below

pub stays_is : (rules : Rules) (rows : List Dated) (c : Counts) (d : Dated) (rest : List Dated)
    → AreBelow d.number rest → FollowAll rules rows c (d ∷ rest)
    → stays rules rows d ≡ (d.is_pinned || (is_among (take (max 1 rules.last) rows) d || is_kept_by_one c d))
stays_is rules rows c d rest below were =
    let h = kept_is rules.hourly (λ e. e.periods.hour) rows c.hourly d rest below were.hourly in
    let y = kept_is rules.daily (λ e. e.periods.day) rows c.daily d rest below were.daily in
    let w = kept_is rules.weekly (λ e. e.periods.week) rows c.weekly d rest below were.weekly in
    let m = kept_is rules.monthly (λ e. e.periods.month) rows c.monthly d rest below were.monthly in
    let a = kept_is rules.yearly (λ e. e.periods.year) rows c.yearly d rest below were.yearly in
    cc (h, y, w, m, a)
