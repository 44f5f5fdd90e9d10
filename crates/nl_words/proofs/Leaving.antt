-- What is left where the chosen checkpoints are forgotten one after another.
use Rattle.std.proofs.Common.{◌≡◌, ℕ, ◌<◌, Bool, true, false, cond, ◌&&◌, ◌||◌, not, List, [], ◌∷◌, Option, refl, sym, ap, ◌∙◌, subst, true≢false, arith}
use Rattle.std.specs.Prelude.{◌==◌, ⊤}
use Rattle.nl_types.specs.declared.row.Row.{Row}
use Rattle.nl_types.specs.Plain.Rows.{is_snapshot}
use Rattle.nl_words.specs.declared.forgetting.Stay.{Stay}
use Rattle.nl_words.specs.declared.ranges.Numbers.{Numbers}
use Rattle.nl_words.specs.Forgotten.{AreAbove, AreLeft, Forgets, NamedOnesGo, OwnAreLeft, Rise, behind_run, goes_along, has_number, without_one}
use Rattle.nl_words.specs.Going.{goes, going_from, is_it, stay_of, stays}
use Rattle.nl_words.specs.Own.{is_plain_minor}
use Rattle.nl_words.specs.Ranges.{is_named}

-- ---- tests

same_number : (n : ℕ) → (n == n) ≡ true
same_number n = grind (arith)

other_number : (m n : ℕ) → m < n → (m == n) ≡ false
other_number m n low = grind (arith, low)

or_right : (a b : Bool) → b ≡ true → (a || b) ≡ true
or_right true b is = refl
or_right false b is = is

-- it doesn't go, and goes along with none: so no range names it, or it stays
left_alone : (in_run named stay minor : Bool) → (in_run && minor) ≡ false
    → (named && (not stay && not (in_run && minor))) ≡ false → (not named || stay) ≡ true
left_alone in_run false stay minor alone is = refl
left_alone in_run true true minor alone is = refl
left_alone in_run true false minor alone is = absurd (true≢false (sym (ap not alone) ∙ is))

-- it goes along with one before, and isn't handed over
gone_along : (named stay minor latest : Bool) → (minor && not latest) ≡ true
    → (named && (not stay && not (true && minor))) ≡ false
gone_along named stay false latest is = absurd (true≢false (sym is))
gone_along false stay true latest is = refl
gone_along true true true latest is = refl
gone_along true false true latest is = refl

-- it neither goes nor goes along
left_in_run : (named own latest minor : Bool) → (minor && not latest) ≡ false
    → (named && (not (own || latest) && not (true && minor))) ≡ false → (not named || (own || latest)) ≡ true
left_in_run false own latest minor along is = refl
left_in_run true true latest minor along is = refl
left_in_run true false true minor along is = refl
left_in_run true false false true along is = absurd (true≢false along)
left_in_run true false false false along is = absurd (true≢false is)

not_minor : (snapshot minor : Bool) → minor ≡ false → (not snapshot && minor) ≡ false
not_minor true minor is = refl
not_minor false minor is = is

-- it goes, so a range names it and it doesn't stay
not_left : (named stay along : Bool) → (named && (not stay && not along)) ≡ true → (not named || stay) ≡ true → ⊥
not_left false stay along is left = true≢false (sym is)
not_left true true along is left = true≢false (sym is)
not_left true false along is left = true≢false (sym left)

and_first : (a b : Bool) → (a && b) ≡ true → a ≡ true
and_first true b is = refl
and_first false b is = is

-- ---- rows behind one that goes

not_in_run : (latest : Option ℕ) (row : Row) (rows : List Row) → row.minor ≡ false
    → behind_run latest (row ∷ rows) ≡ row ∷ rows
not_in_run latest row rows is =
    ap (λ m. cond m (cond (goes_along latest row) (behind_run latest rows) (row ∷ behind_run latest rows))
    (row ∷ rows)) is

along_in_run : (latest : Option ℕ) (row : Row) (rows : List Row) → row.minor ≡ true → goes_along latest row ≡ true
    → behind_run latest (row ∷ rows) ≡ behind_run latest rows
along_in_run latest row rows is along =
    ap (λ m. cond m (cond (goes_along latest row) (behind_run latest rows) (row ∷ behind_run latest rows))
    (row ∷ rows)) is
    ∙ ap (λ a. cond a (behind_run latest rows) (row ∷ behind_run latest rows)) along

stays_in_run : (latest : Option ℕ) (row : Row) (rows : List Row) → row.minor ≡ true → goes_along latest row ≡ false
    → behind_run latest (row ∷ rows) ≡ row ∷ behind_run latest rows
stays_in_run latest row rows is along =
    ap (λ m. cond m (cond (goes_along latest row) (behind_run latest rows) (row ∷ behind_run latest rows))
    (row ∷ rows)) is
    ∙ ap (λ a. cond a (behind_run latest rows) (row ∷ behind_run latest rows)) along

run_once : (latest : Option ℕ) (rows : List Row) → behind_run latest (behind_run latest rows) ≡ behind_run latest rows
run_once latest [] = refl
run_once latest (row ∷ rows) = by_minor (run_once latest rows) row.minor (goes_along latest row) refl refl
  where
    by_minor : behind_run latest (behind_run latest rows) ≡ behind_run latest rows → (m a : Bool) → row.minor ≡ m
        → goes_along latest row ≡ a
        → behind_run latest (behind_run latest (row ∷ rows)) ≡ behind_run latest (row ∷ rows)
    by_minor rest false a is along = ap (behind_run latest) (not_in_run latest row rows is)
    by_minor rest true true is along =
        ap (behind_run latest) (along_in_run latest row rows is along)
        ∙ rest ∙ sym (along_in_run latest row rows is along)
    by_minor rest true false is along =
        ap (behind_run latest) (stays_in_run latest row rows is along)
        ∙ stays_in_run latest row (behind_run latest rows) is along
        ∙ ap (λ (l : List Row). row ∷ l) rest
        ∙ sym (stays_in_run latest row rows is along)

-- ---- what is handed over

abbrev AllAbove : ℕ → List ℕ → Type 0
AllAbove n [] = ⊤
AllAbove n (m ∷ numbers) = (n < m) × AllAbove n numbers

going_on : (ranges : List Numbers) (stay : Stay) (in_run : Bool) (row : Row) (rows : List Row)
    → goes ranges stay in_run row ≡ true
    → going_from ranges stay in_run (row ∷ rows) ≡ row.number ∷ going_from ranges stay true rows
going_on ranges stay in_run row rows is =
    ap (λ g. cond g (row.number ∷ going_from ranges stay (g || (in_run && row.minor)) rows)
    (going_from ranges stay (g || (in_run && row.minor)) rows)) is

staying_on : (ranges : List Numbers) (stay : Stay) (in_run : Bool) (row : Row) (rows : List Row)
    → goes ranges stay in_run row ≡ false
    → going_from ranges stay in_run (row ∷ rows) ≡ going_from ranges stay (in_run && row.minor) rows
staying_on ranges stay in_run row rows is =
    ap (λ g. cond g (row.number ∷ going_from ranges stay (g || (in_run && row.minor)) rows)
    (going_from ranges stay (g || (in_run && row.minor)) rows)) is

all_above : (ranges : List Numbers) (stay : Stay) (in_run : Bool) (n : ℕ) (rows : List Row) → AreAbove n rows
    → AllAbove n (going_from ranges stay in_run rows)
all_above ranges stay in_run n [] above = tt
all_above ranges stay in_run n (row ∷ rows) above =
    by_going (all_above ranges stay true n rows above.1)
    (all_above ranges stay (in_run && row.minor) n rows above.1) (goes ranges stay in_run row) refl
  where
    by_going : AllAbove n (going_from ranges stay true rows)
        → AllAbove n (going_from ranges stay (in_run && row.minor) rows)
        → (g : Bool) → goes ranges stay in_run row ≡ g → AllAbove n (going_from ranges stay in_run (row ∷ rows))
    by_going gone left true is =
        subst (AllAbove n) (sym (going_on ranges stay in_run row rows is)) (above.0, gone)
    by_going gone left false is = subst (AllAbove n) (sym (staying_on ranges stay in_run row rows is)) left

-- ---- a row before all that go stays

lifted : (latest : Option ℕ) (row : Row) (numbers : List ℕ) (rows left : List Row) → AllAbove row.number numbers
    → Forgets latest numbers rows left → Forgets latest numbers (row ∷ rows) (row ∷ left)
lifted latest row [] rows left above forgets = ap (λ (l : List Row). row ∷ l) forgets
lifted latest row (n ∷ numbers) rows left above forgets = (
  or_right (row.number == n) (has_number rows n) forgets.0,
  subst (λ (l : List Row). Forgets latest numbers l (row ∷ left))
      (sym (ap (λ t. cond t (behind_run latest rows) (row ∷ without_one latest n rows))
      (other_number row.number n above.0)))
      (lifted latest row numbers (without_one latest n rows) left above.1 forgets.1),
)

-- ---- all rows

own_still : (ranges : List Numbers) (stay : Stay) (row : Row) (rows left : List Row) → OwnAreLeft ranges stay rows left
    → OwnAreLeft ranges stay rows (row ∷ left)
own_still ranges stay row [] left own = tt
own_still ranges stay row (next ∷ rows) left own = (
  λ minor is. or_right (row.number == next.number) (has_number left next.number) (own.0 minor is),
  own_still ranges stay row rows left own.1,
)

-- of these rows, less what went along before, these numbers are forgotten
abbrev Has : List Numbers → Stay → List ℕ → (now rows : List Row) → Type 0
Has ranges stay numbers now rows =
    (left : List Row) × Forgets stay.latest numbers now left × AreLeft ranges stay left
    × OwnAreLeft ranges stay rows left

moved : (ranges : List Numbers) (stay : Stay) (one two : List ℕ) (xs ys rows : List Row) → one ≡ two → xs ≡ ys
    → Has ranges stay two ys rows → Has ranges stay one xs rows
moved ranges stay one two xs ys rows numbers same has =
    subst (λ (l : List ℕ). Has ranges stay l xs rows) (sym numbers)
    (subst (λ (l : List Row). Has ranges stay two l rows) (sym same) has)

-- this row is forgotten, and then those behind it
first_goes : (ranges : List Numbers) (stay : Stay) (in_run : Bool) (row : Row) (now rows : List Row) (numbers : List ℕ)
    → goes ranges stay in_run row ≡ true
    → Has ranges stay numbers (behind_run stay.latest now) rows
    → Has ranges stay (row.number ∷ numbers) (row ∷ now) (row ∷ rows)
first_goes ranges stay in_run row now rows numbers is has = (
  has.0,
  (
    ap (λ t. t || has_number now row.number) (same_number row.number),
    subst (λ (l : List Row). Forgets stay.latest numbers l has.0)
        (sym (ap (λ t. cond t (behind_run stay.latest now) (row ∷ without_one stay.latest row.number now))
        (same_number row.number)))
        has.1,
  ),
  has.2,
  (
    λ minor left. absurd (not_left (is_named ranges row.number) (stays stay row.number)
        (in_run && is_plain_minor row) is left),
    has.3,
  ),
)

first_stays : (ranges : List Numbers) (stay : Stay) (row : Row) (now rows : List Row) (numbers : List ℕ)
    → AllAbove row.number numbers → (not (is_named ranges row.number) || stays stay row.number) ≡ true
    → Has ranges stay numbers now rows → Has ranges stay numbers (row ∷ now) (row ∷ rows)
first_stays ranges stay row now rows numbers above is has = (
  row ∷ has.0,
  lifted stay.latest row numbers now has.0 above has.1,
  (is, has.2),
  (
    λ minor left. ap (λ t. t || has_number has.0 row.number) (same_number row.number),
    own_still ranges stay row rows has.0 has.3,
  ),
)

first_along : (ranges : List Numbers) (stay : Stay) (row : Row) (now rows : List Row) (numbers : List ℕ)
    → goes_along stay.latest row ≡ true
    → Has ranges stay numbers now rows → Has ranges stay numbers now (row ∷ rows)
first_along ranges stay row now rows numbers along has = (
  has.0,
  has.1,
  has.2,
  (
    λ minor left. absurd (true≢false
        (sym (and_first (is_plain_minor row) (not (is_it row.number stay.latest)) along) ∙ minor)),
    has.3,
  ),
)

abbrev from_here : Bool → Option ℕ → List Row → List Row
from_here true latest rows = behind_run latest rows
from_here false latest rows = rows

all_go : (ranges : List Numbers) (stay : Stay) (in_run : Bool) (rows : List Row) → Rise rows
    → Has ranges stay (going_from ranges stay in_run rows) (from_here in_run stay.latest rows) rows
all_go ranges stay true [] rise = ([], refl, tt, tt)
all_go ranges stay false [] rise = ([], refl, tt, tt)
all_go ranges stay false (row ∷ rows) rise =
    by_going (all_go ranges stay true rows rise.1) (all_go ranges stay false rows rise.1) (goes ranges stay false row)
    refl
  where
    by_going : Has ranges stay (going_from ranges stay true rows) (behind_run stay.latest rows) rows
        → Has ranges stay (going_from ranges stay false rows) rows rows
        → (g : Bool) → goes ranges stay false row ≡ g
        → Has ranges stay (going_from ranges stay false (row ∷ rows)) (row ∷ rows) (row ∷ rows)
    by_going gone left true is =
        moved ranges stay _ _ _ _ (row ∷ rows) (going_on ranges stay false row rows is) refl
        (first_goes ranges stay false row rows rows (going_from ranges stay true rows) is gone)
    by_going gone left false is =
        moved ranges stay _ _ _ _ (row ∷ rows) (staying_on ranges stay false row rows is) refl
        (first_stays ranges stay row rows rows (going_from ranges stay false rows)
        (all_above ranges stay false row.number rows rise.0)
        (left_alone false (is_named ranges row.number) (stays stay row.number) (is_plain_minor row) refl is)
        left)
all_go ranges stay true (row ∷ rows) rise =
    by_minor (all_go ranges stay true rows rise.1) (all_go ranges stay false rows rise.1) row.minor
    (goes_along stay.latest row) (goes ranges stay true row) refl refl refl
  where
    on : (m : Bool) → row.minor ≡ m → goes ranges stay true row ≡ false
        → going_from ranges stay true (row ∷ rows) ≡ going_from ranges stay m rows
    on m is stays_on =
        staying_on ranges stay true row rows stays_on ∙ ap (λ (b : Bool). going_from ranges stay b rows) is

    by_minor : Has ranges stay (going_from ranges stay true rows) (behind_run stay.latest rows) rows
        → Has ranges stay (going_from ranges stay false rows) rows rows
        → (m a g : Bool) → row.minor ≡ m → goes_along stay.latest row ≡ a → goes ranges stay true row ≡ g
        → Has ranges stay (going_from ranges stay true (row ∷ rows)) (behind_run stay.latest (row ∷ rows)) (row ∷ rows)
    by_minor gone left false a true minor along is =
        moved ranges stay _ _ _ _ (row ∷ rows) (going_on ranges stay true row rows is) (not_in_run stay.latest row rows minor)
        (first_goes ranges stay true row rows rows (going_from ranges stay true rows) is gone)
    by_minor gone left false a false minor along is =
        moved ranges stay _ _ _ _ (row ∷ rows) (on false minor is) (not_in_run stay.latest row rows minor)
        (first_stays ranges stay row rows rows (going_from ranges stay false rows)
        (all_above ranges stay false row.number rows rise.0)
        (left_alone true (is_named ranges row.number) (stays stay row.number) (is_plain_minor row)
        (not_minor (is_snapshot row.mode) row.minor minor) is)
        left)
    by_minor gone left true true g minor along is =
        moved ranges stay _ _ _ _ (row ∷ rows)
        (on true minor (gone_along (is_named ranges row.number) (stays stay row.number) (is_plain_minor row)
        (is_it row.number stay.latest) along))
        (along_in_run stay.latest row rows minor along)
        (first_along ranges stay row (behind_run stay.latest rows) rows (going_from ranges stay true rows) along gone)
    by_minor gone left true false true minor along is =
        moved ranges stay _ _ _ _ (row ∷ rows) (going_on ranges stay true row rows is)
        (stays_in_run stay.latest row rows minor along)
        (first_goes ranges stay true row (behind_run stay.latest rows) rows (going_from ranges stay true rows) is
        (moved ranges stay _ _ _ _ rows refl (run_once stay.latest rows) gone))
    by_minor gone left true false false minor along is =
        moved ranges stay _ _ _ _ (row ∷ rows) (on true minor is) (stays_in_run stay.latest row rows minor along)
        (first_stays ranges stay row (behind_run stay.latest rows) rows (going_from ranges stay true rows)
        (all_above ranges stay true row.number rows rise.0)
        (left_in_run (is_named ranges row.number) (is_it row.number stay.own) (is_it row.number stay.latest)
        (is_plain_minor row) along is)
        gone)

pub named_ones_go : NamedOnesGo
named_ones_go ranges rows rise = all_go ranges (stay_of rows) false rows rise
