-- What becomes of the checkpoints of a range.
use Rattle.std.proofs.Common.{◌≡◌, ◌≢◌, ℕ, ◌<◌, ◌+◌, true, false, true≢false, Bool, not, ◌&&◌, cond, List, [], ◌∷◌, ◌++◌, length, get_or, map, take, Option, None, Some, refl, sym, ap, subst, ◌∙◌, arith}
use Rattle.std.specs.Prelude.{◌==◌, ◌||◌, Result, Ok, Err}
use Rattle.std.specs.List.{All, AllByRecursion, AllPairs, cons_option, filter, filter_map, list_any}
use Rattle.std.specs.Option.{is_none, option_map}
use Rattle.std.proofs.lemmas.Bool.{and_left, and_right, eq-eqb, ne_eqb}
use Rattle.std.proofs.lemmas.List.{take_more}
use Rattle.std.proofs.lemmas.List.Elements.{All-filter, All-map}
use Rattle.nl_types.specs.Plain.Rows.{is_snapshot}
use Rattle.nl_types.specs.Plain.CheckpointLaws.{removed_by}
use Rattle.nl_types.specs.declared.error.VolError.{VolError}
use Rattle.nl_types.specs.declared.error.VolError.TheVariants as error
use Rattle.nl_cpfile.specs.declared.checkpoint.Checkpoint.{Checkpoint}
use Rattle.nl_types.specs.declared.row.Range.{Range}
use Rattle.nl_types.specs.declared.row.Row.{Row}
use Rattle.nl_types.specs.declared.row.Stays.{Stays}
use Rattle.nl_cpfile.specs.Private.Judging.{joined}
use Rattle.nl_types.specs.Plain.NumberLists.{is_one_of}
use Rattle.nl_types.specs.Plain.Rows.{rows_between, is_between, is_empty_range, is_no_range, judged_range, may_go, number_of, range_removal, reason_to_stay, removable, stay_of, stays_of}
use Rattle.nl_cpfile.specs.Tables.{IsRising, IsTable, Precedes, Table, is_kept_without, kept_numbers, range_in, checkpoint_row, rows, rows_of, without}
use Rattle.nl_cpfile.specs.Facts.Rising.{IsRising-filter, IsRising-front, IsRising-last, earlier-low, map-push}
use Rattle.nl_cpfile.proofs.Numbers.{numbers-rise}

-- ---- of two parts

filter-append : {X : Type 0} (p : X → Bool) (xs ys : List X)
    → filter p (xs ++ ys) ≡ filter p xs ++ filter p ys
filter-append p [] ys = refl
filter-append p (x ∷ xs) ys =
    elim (p x) as (λ b.
    cond b (x ∷ filter p (xs ++ ys)) (filter p (xs ++ ys))
    ≡ cond b (x ∷ filter p xs) (filter p xs) ++ filter p ys) [
      | true ↦ ap (λ zs. x ∷ zs) (filter-append p xs ys)
      | false ↦ filter-append p xs ys
    ]

map-append : {X Y : Type 0} (f : X → Y) (xs ys : List X) → map f (xs ++ ys) ≡ map f xs ++ map f ys
map-append f [] ys = refl
map-append f (x ∷ xs) ys = ap (λ zs. f x ∷ zs) (map-append f xs ys)

filter_map-append : {X Y : Type 0} (h : X → Option Y) (xs ys : List X)
    → filter_map h (xs ++ ys) ≡ filter_map h xs ++ filter_map h ys
filter_map-append h [] ys = refl
filter_map-append h (x ∷ xs) ys =
    elim (h x) as (λ o.
    cons_option o (filter_map h (xs ++ ys)) ≡ cons_option o (filter_map h xs) ++ filter_map h ys) [
      | None ↦ filter_map-append h xs ys
      | Some y ↦ ap (λ zs. y ∷ zs) (filter_map-append h xs ys)
    ]

same_range : {a b : List ℕ} {x y : List Stays} → a ≡ b → x ≡ y
    → (let r : Range = record { removed = a; stayed = x } in r) ≡ record { removed = b; stayed = y }
same_range p q = rw (p, q) refl

removable-append : (latest : ℕ) (xs ys : List Row)
    → removable latest (xs ++ ys) ≡ removable latest xs ++ removable latest ys
removable-append latest xs ys =
    ap (map number_of) (filter-append (may_go latest) xs ys)
    ∙ map-append number_of (filter (may_go latest) xs) (filter (may_go latest) ys)

judged-append : (latest first last : ℕ) (xs ys : List Row)
    → judged_range latest (rows_between first last (xs ++ ys))
    ≡ joined (judged_range latest (rows_between first last xs))
    (judged_range latest (rows_between first last ys))
judged-append latest first last xs ys =
    ap (judged_range latest) (filter-append (is_between first last) xs ys)
    ∙ same_range (removable-append latest (rows_between first last xs) (rows_between first last ys))
    (filter_map-append (stay_of latest) (rows_between first last xs) (rows_between first last ys))

-- one more
pub judged-push : (latest first last : ℕ) (kept : List Checkpoint) (c : Checkpoint) (old new : Range)
    → old ≡ judged_range latest (rows_between first last (rows_of kept))
    → new ≡ joined old (judged_range latest (rows_between first last (checkpoint_row c ∷ [])))
    → new ≡ judged_range latest (rows_between first last (rows_of (kept ++ c ∷ [])))
judged-push latest first last kept c old new before now =
    now
    ∙ ap
    (λ (r : Range). joined r (judged_range latest (rows_between first last (checkpoint_row c ∷ [])))) before
    ∙ sym (judged-append latest first last (rows_of kept) (checkpoint_row c ∷ []))
    ∙ ap (λ (rs : List Row). judged_range latest (rows_between first last rs))
    (sym (map-push checkpoint_row kept c))

pub judged-more : (latest first last : ℕ) (kept : List Checkpoint) (k : ℕ) (c : Checkpoint) (old new : Range)
    → k < length kept → c ≡ get_or kept k c
    → old ≡ judged_range latest (rows_between first last (rows_of (take k kept)))
    → new ≡ joined old (judged_range latest (rows_between first last (checkpoint_row c ∷ [])))
    → new ≡ judged_range latest (rows_between first last (rows_of (take (k + 1) kept)))
judged-more latest first last kept k c old new lt at before now =
    judged-push latest first last (take k kept) c old new before now
    ∙ ap (λ (cs : List Checkpoint). judged_range latest (rows_between first last (rows_of cs)))
    (ap (λ (x : Checkpoint). take k kept ++ x ∷ []) at ∙ sym (take_more kept k c lt))

-- ---- none is in the range

removed-not_empty : (n : ℕ) (ns : List ℕ) (stays : List Stays)
    → is_empty_range (record { removed = n ∷ ns; stayed = stays }) ≡ false
removed-not_empty n ns stays =
    and_left (length (n ∷ ns) == 0) (length stays == 0)
    (ne_eqb (length (n ∷ ns)) 0 (λ e. absurd (omega (arith, e))))

stayed-not_empty : (ns : List ℕ) (s : Stays) (stays : List Stays)
    → is_empty_range (record { removed = ns; stayed = s ∷ stays }) ≡ false
stayed-not_empty ns s stays =
    and_right (length ns == 0) (length (s ∷ stays) == 0)
    (ne_eqb (length (s ∷ stays)) 0 (λ e. absurd (omega (arith, e))))

judged-not_empty : (latest : ℕ) (row : Row) (found : List Row)
    → is_empty_range (judged_range latest (row ∷ found)) ≡ false
judged-not_empty latest row found =
    let stays : VolError → Stays = λ reason. record { number = row.number; reason = reason } in
    elim (reason_to_stay latest row) as (λ o. is_empty_range (record {
      removed =
          map number_of
          (cond (is_none o) (row ∷ filter (may_go latest) found) (filter (may_go latest) found));
      stayed = cons_option (option_map stays o) (stays_of latest found);
    }) ≡ false) [
      | None ↦ removed-not_empty row.number (removable latest found) (stays_of latest found)
      | Some reason ↦ stayed-not_empty (removable latest found) (stays reason) (stays_of latest found)
    ]

pub judged-empty : (latest first last : ℕ) (rs : List Row)
    → is_empty_range (judged_range latest (rows_between first last rs))
    ≡ not (list_any (is_between first last) rs)
judged-empty latest first last [] = refl
judged-empty latest first last (row ∷ rs) =
    elim (is_between first last row) as (λ b.
    is_empty_range
    (judged_range latest (cond b (row ∷ rows_between first last rs) (rows_between first last rs)))
    ≡ not (b || list_any (is_between first last) rs)) [
      | true ↦ judged-not_empty latest row (rows_between first last rs)
      | false ↦ judged-empty latest first last rs
    ]

-- ---- those that leave

among_above : (p : Checkpoint → Bool) (c : Checkpoint) (kept : List Checkpoint)
    → AllByRecursion (Precedes c) kept → is_one_of (kept_numbers (filter p kept)) c.number ≡ false
among_above p c [] each = refl
among_above p c (x ∷ kept) each =
    let up = each.0.number in
    let rest = among_above p c kept each.1 in
    elim (p x) as (λ b.
    is_one_of (kept_numbers (cond b (x ∷ filter p kept) (filter p kept))) c.number ≡ false) [
      | true ↦
          ap (λ b. b || is_one_of (kept_numbers (filter p kept)) c.number)
          (ne_eqb c.number x.number (λ same. absurd (omega (arith, up, same))))
          ∙ rest
      | false ↦ rest
    ]

-- among the numbers of those that pass a test are just these
abbrev IsAmongThem : (Checkpoint → Bool) → List ℕ → Checkpoint → Type 0
IsAmongThem p gone c = is_one_of gone c.number ≡ p c

among-later : (p : Checkpoint → Bool) (c : Checkpoint) (gone : List ℕ) (kept : List Checkpoint)
    → AllByRecursion (Precedes c) kept → AllByRecursion (IsAmongThem p gone) kept
    → AllByRecursion (IsAmongThem p (c.number ∷ gone)) kept
among-later p c gone [] above each = tt
among-later p c gone (x ∷ kept) above each =
    let up = above.0.number in (
      ap (λ b. b || is_one_of gone x.number)
          (ne_eqb x.number c.number (λ same. absurd (omega (arith, up, same))))
          ∙ each.0,
      among-later p c gone kept above.1 each.1,
    )

among-filter : (p : Checkpoint → Bool) (kept : List Checkpoint) → IsRising kept
    → AllByRecursion (IsAmongThem p (kept_numbers (filter p kept))) kept
among-filter p [] rising = tt
among-filter p (c ∷ kept) rising =
    let rest = among-filter p kept rising.1 in
    elim (p c) as (λ b.
    (is_one_of (kept_numbers (cond b (c ∷ filter p kept) (filter p kept))) c.number ≡ b)
    × AllByRecursion (IsAmongThem p (kept_numbers (cond b (c ∷ filter p kept) (filter p kept)))) kept) [
      | true ↦ (
        ap (λ b. b || is_one_of (kept_numbers (filter p kept)) c.number) (eq-eqb c.number c.number refl),
        among-later p c (kept_numbers (filter p kept)) kept rising.0 rest,
      )
      | false ↦ (among_above p c kept rising.0, rest)
    ]

-- whether a checkpoint goes, and whether it stays
abbrev goes : (latest first last : ℕ) → Checkpoint → Bool
goes latest first last c = is_between first last (checkpoint_row c) && may_go latest (checkpoint_row c)

abbrev pub stays_in : (first last : ℕ) → Checkpoint → Bool
stays_in first last c = is_snapshot c.mode || not (is_between first last (checkpoint_row c))

stays-unless_goes : (latest first last : ℕ) (c : Checkpoint) → c.number ≢ latest
    → stays_in first last c ≡ not (goes latest first last c)
stays-unless_goes latest first last c other =
    judge (is_between first last (checkpoint_row c)) (is_snapshot c.mode)
    ∙ sym (ap (λ e.
    not (is_between first last (checkpoint_row c)
    && is_none (cond (is_snapshot c.mode) (Some error.IsSnapshot) (cond e (Some error.Latest) None))))
    (ne_eqb c.number latest other))
  where
    judge : (b s : Bool)
        → (s || not b)
        ≡ not (b && is_none (cond s (Some error.IsSnapshot) (cond false (Some error.Latest) None)))
    judge true true = refl
    judge true false = refl
    judge false true = refl
    judge false false = refl

removable-goes : (latest first last : ℕ) (kept : List Checkpoint)
    → removable latest (rows_between first last (rows_of kept))
    ≡ kept_numbers (filter (goes latest first last) kept)
removable-goes latest first last [] = refl
removable-goes latest first last (c ∷ kept) =
    let rest = removable-goes latest first last kept in
    let more = ap (λ ns. c.number ∷ ns) rest in
    elim (is_between first last (checkpoint_row c)) as (λ b.
    removable latest
    (cond b (checkpoint_row c ∷ rows_between first last (rows_of kept))
    (rows_between first last (rows_of kept)))
    ≡ kept_numbers (cond (b && may_go latest (checkpoint_row c)) (c ∷ filter (goes latest first last) kept)
    (filter (goes latest first last) kept))) [
      | true ↦
          elim (may_go latest (checkpoint_row c)) as (λ b.
          map number_of (cond b
          (checkpoint_row c ∷ filter (may_go latest) (rows_between first last (rows_of kept)))
          (filter (may_go latest) (rows_between first last (rows_of kept))))
          ≡ kept_numbers
          (cond b (c ∷ filter (goes latest first last) kept) (filter (goes latest first last) kept))) [
            | true ↦ more
            | false ↦ rest
          ]
      | false ↦ rest
    ]

-- the latest one doesn't go
latest-may_not_go : (c : Checkpoint) → may_go c.number (checkpoint_row c) ≡ false
latest-may_not_go c =
    elim (is_snapshot c.mode) as (λ s.
    is_none (cond s (Some error.IsSnapshot) (cond (c.number == c.number) (Some error.Latest) None))
    ≡ false) [
      | true ↦ refl
      | false ↦ ap (λ e. is_none (cond e (Some error.Latest) None)) (eq-eqb c.number c.number refl)
    ]

removable-latest : (first last : ℕ) (c : Checkpoint)
    → removable c.number (rows_between first last (checkpoint_row c ∷ [])) ≡ []
removable-latest first last c =
    elim (is_between first last (checkpoint_row c)) as (λ b.
    removable c.number (cond b (checkpoint_row c ∷ []) []) ≡ []) [
      | true ↦ ap (λ b. map number_of (cond b (checkpoint_row c ∷ []) [])) (latest-may_not_go c)
      | false ↦ refl
    ]

append-none : (ns : List ℕ) → ns ++ [] ≡ ns
append-none [] = refl
append-none (n ∷ ns) = ap (λ ms. n ∷ ms) (append-none ns)

removable-earlier : (first last : ℕ) (t : Table)
    → removable t.latest.number (rows_between first last (rows t))
    ≡ kept_numbers (filter (goes t.latest.number first last) t.earlier)
removable-earlier first last t =
    let latest = t.latest.number in
    let parts : rows_between first last (rows t)
    ≡ rows_between first last (rows_of t.earlier) ++ rows_between first last (checkpoint_row t.latest ∷ []) =
    ap (rows_between first last) (map-push checkpoint_row t.earlier t.latest)
    ∙ filter-append (is_between first last) (rows_of t.earlier) (checkpoint_row t.latest ∷ []) in
    ap (removable latest) parts
    ∙ removable-append latest (rows_between first last (rows_of t.earlier))
    (rows_between first last (checkpoint_row t.latest ∷ []))
    ∙ ap (λ ns. removable latest (rows_between first last (rows_of t.earlier)) ++ ns)
    (removable-latest first last t.latest)
    ∙ append-none (removable latest (rows_between first last (rows_of t.earlier)))
    ∙ removable-goes latest first last t.earlier

-- they rise
pub removable-rise : (first last : ℕ) (t : Table) → IsTable t
    → AllPairs ◌<◌ (removable t.latest.number (rows_between first last (rows t)))
removable-rise first last t is =
    let gone : List Checkpoint = filter (goes t.latest.number first last) t.earlier in
    let rising : IsRising gone =
    IsRising-filter (goes t.latest.number first last) t.earlier
    (IsRising-front t.earlier (t.latest ∷ []) is.rising) in
    subst (λ (ns : List ℕ). AllPairs ◌<◌ ns) (sym (removable-earlier first last t)) (numbers-rise gone rising)

-- and lie below the latest one
pub removable-low : (first last : ℕ) (t : Table) → IsTable t
    → All (λ n. n < t.latest.number) (removable t.latest.number (rows_between first last (rows t)))
removable-low first last t is =
    let latest = t.latest.number in
    let test = goes latest first last in
    subst (λ (ns : List ℕ). All (λ n. n < latest) ns) (sym (removable-earlier first last t))
    (All-map (λ n. n < latest) (λ (c : Checkpoint). c.number) (filter test t.earlier)
    (All-filter test (λ (c : Checkpoint). c.number < latest) t.earlier (earlier-low t is)))

filter-agree : (p q : Checkpoint → Bool) (kept : List Checkpoint) → AllByRecursion (λ c. p c ≡ q c) kept
    → filter p kept ≡ filter q kept
filter-agree p q [] each = refl
filter-agree p q (c ∷ kept) each =
    ap (λ b. cond b (c ∷ filter p kept) (filter p kept)) each.0
    ∙ ap (λ (xs : List Checkpoint). cond (q c) (c ∷ xs) xs) (filter-agree p q kept each.1)

stays-without : (latest first last : ℕ) (l : Checkpoint) (gone : List ℕ) (kept : List Checkpoint)
    → l.number ≡ latest → AllByRecursion (λ (c : Checkpoint). Precedes c l) kept
    → AllByRecursion (IsAmongThem (goes latest first last) gone) kept
    → AllByRecursion (λ (c : Checkpoint). stays_in first last c ≡ is_kept_without gone c) kept
stays-without latest first last l gone [] is below each = tt
stays-without latest first last l gone (c ∷ kept) is below each =
    let up = below.0.number in (
      stays-unless_goes latest first last c (λ same. absurd (omega (arith, up, is, same)))
          ∙ ap not (sym each.0),
      stays-without latest first last l gone kept is below.1 each.1,
    )

-- what stays is what is not among the numbers that are answered
pub stays-removed : (first last : ℕ) (t : Table) → IsTable t
    → filter (stays_in first last) t.earlier
    ≡ filter (is_kept_without (removable t.latest.number (rows_between first last (rows t)))) t.earlier
stays-removed first last t is =
    let latest = t.latest.number in
    let rising = IsRising-front t.earlier (t.latest ∷ []) is.rising in
    let gone = kept_numbers (filter (goes latest first last) t.earlier) in
    filter-agree (stays_in first last) (is_kept_without gone) t.earlier
    (stays-without latest first last t.latest gone t.earlier refl (IsRising-last t.earlier t.latest is.rising)
    (among-filter (goes latest first last) t.earlier rising))
    ∙ ap (λ (ns : List ℕ). filter (is_kept_without ns) t.earlier) (sym (removable-earlier first last t))

-- ---- what is answered

pub range_removal-none : (first last latest : ℕ) (rs : List Row) (range : Range)
    → is_no_range first last ≡ false → range ≡ judged_range latest (rows_between first last rs)
    → is_empty_range range ≡ true
    → Err error.NoCheckpoint ≡ range_removal first last latest rs
range_removal-none first last latest rs range bounds is empty =
    let none : not (list_any (is_between first last) rs) ≡ true =
    sym (judged-empty latest first last rs) ∙ ap is_empty_range (sym is) ∙ empty in
    let answer : Result Range VolError = Ok (judged_range latest (rows_between first last rs)) in
    sym (ap (λ b.
    cond b (Err error.BadRange)
    (cond (not (list_any (is_between first last) rs)) (Err error.NoCheckpoint) answer))
    bounds
    ∙ ap (λ b. cond b (Err error.NoCheckpoint) answer) none)

pub range_removal-found : (first last latest : ℕ) (rs : List Row) (range : Range)
    → is_no_range first last ≡ false → range ≡ judged_range latest (rows_between first last rs)
    → is_empty_range range ≡ false
    → Ok range ≡ range_removal first last latest rs
range_removal-found first last latest rs range bounds is empty =
    let some : not (list_any (is_between first last) rs) ≡ false =
    sym (judged-empty latest first last rs) ∙ ap is_empty_range (sym is) ∙ empty in
    let answer : Result Range VolError = Ok (judged_range latest (rows_between first last rs)) in
    ap (λ (r : Range). Ok r) is
    ∙ sym (ap (λ b.
    cond b (Err error.BadRange)
    (cond (not (list_any (is_between first last) rs)) (Err error.NoCheckpoint) answer))
    bounds
    ∙ ap (λ b. cond b (Err error.NoCheckpoint) answer) some)

-- ---- what the removal of a range takes out

between-none : (first last : ℕ) (rs : List Row) → list_any (is_between first last) rs ≡ false
    → rows_between first last rs ≡ []
between-none first last [] none = refl
between-none first last (row ∷ rs) none =
    elim (is_between first last row)
    as (λ b.
    (b || list_any (is_between first last) rs) ≡ false
    → cond b (row ∷ rows_between first last rs) (rows_between first last rs) ≡ []) [
      | true ↦ λ no. absurd (true≢false no)
      | false ↦ λ later. between-none first last rs later
    ] none

-- it takes out none where it is no range
pub no_range-takes_none : (first last : ℕ) (t : Table) → is_no_range first last ≡ true
    → range_in first last t ≡ []
no_range-takes_none first last t bounds =
    ap (λ b. removed_by (cond b (Err error.BadRange)
    (cond (not (list_any (is_between first last) (rows t))) (Err error.NoCheckpoint)
    (Ok (judged_range t.latest.number (rows_between first last (rows t)))))))
    bounds

-- and else those that may go, be there any or not
pub range-takes_removable : (first last : ℕ) (t : Table) → is_no_range first last ≡ false
    → range_in first last t ≡ removable t.latest.number (rows_between first last (rows t))
range-takes_removable first last t bounds =
    ap (λ b. removed_by (cond b (Err error.BadRange)
    (cond (not (list_any (is_between first last) (rows t))) (Err error.NoCheckpoint)
    (Ok (judged_range t.latest.number (rows_between first last (rows t)))))))
    bounds
    ∙ by (list_any (is_between first last) (rows t)) refl
  where
    by : (b : Bool) → list_any (is_between first last) (rows t) ≡ b
        → removed_by (cond (not b) (Err error.NoCheckpoint)
        (Ok (judged_range t.latest.number (rows_between first last (rows t)))))
        ≡ removable t.latest.number (rows_between first last (rows t))
    by true some = refl
    by false none = ap (removable t.latest.number) (sym (between-none first last (rows t) none))

none-gone : (kept : List Checkpoint) → filter (is_kept_without []) kept ≡ kept
none-gone [] = refl
none-gone (c ∷ kept) = ap (λ cs. c ∷ cs) (none-gone kept)

-- without a number, a table stays
pub without-none : (t : Table) → without [] t ≡ t
without-none t = ap (λ (cs : List Checkpoint). record t { earlier = cs }) (none-gone t.earlier)

-- ---- the latest checkpoint stays

among_below : (p : Checkpoint → Bool) (l : Checkpoint) (kept : List Checkpoint)
    → AllByRecursion (λ (c : Checkpoint). Precedes c l) kept
    → is_one_of (kept_numbers (filter p kept)) l.number ≡ false
among_below p l [] each = refl
among_below p l (x ∷ kept) each =
    let up = each.0.number in
    let rest = among_below p l kept each.1 in
    elim (p x) as (λ b.
    is_one_of (kept_numbers (cond b (x ∷ filter p kept) (filter p kept))) l.number ≡ false) [
      | true ↦
          ap (λ b. b || is_one_of (kept_numbers (filter p kept)) l.number)
          (ne_eqb l.number x.number (λ same. absurd (omega (arith, up, same))))
          ∙ rest
      | false ↦ rest
    ]

pub latest-not_removed : (first last : ℕ) (t : Table) → IsTable t
    → is_one_of (removable t.latest.number (rows_between first last (rows t))) t.latest.number ≡ false
latest-not_removed first last t is =
    ap (λ (gone : List ℕ). is_one_of gone t.latest.number) (removable-earlier first last t)
    ∙ among_below (goes t.latest.number first last) t.latest t.earlier
    (IsRising-last t.earlier t.latest is.rising)
