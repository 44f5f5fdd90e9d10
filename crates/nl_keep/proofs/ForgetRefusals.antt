-- When checkpoints aren't forgotten, and that no plain minor one is kept from being removed.
use Rattle.std.proofs.Common.{◌≡◌, ℕ, suc, ◌+◌, ◌-◌, ◌<◌, ◌≤◌, Bool, true, false, cond, not, List, [], ◌∷◌, ◌++◌, drop, get_or, length, map, take, Option, Some, None, Result, Ok, Err, refl, sym, ap, ◌∙◌, subst, inl, inr, is_some, true≢false, arith, eq-eqb, eqb-true, le-leb, ltb-true, ne_eqb}
use Rattle.std.specs.Prelude.{◌==◌, ◌&&◌, ◌||◌, nat_le, nat_lt, IfOk}
use Rattle.std.specs.List.{filter, list_all, list_any}
use Rattle.std.specs.Option.{ok_or, option_map, option_map_or}
use Rattle.std.specs.Ordering.{eq_by_cmp, is_lt, nat_cmp}
use Rattle.std.specs.FinMap.{find, is_sorted}
use Rattle.std.specs.FinMap.Entries.{below_all}
use Rattle.std.proofs.lemmas.Bool.{and_from, and_parts, not-true}
use Rattle.std.proofs.lemmas.List.{drop_more, take-append-drop}
use Rattle.nl_types.specs.declared.error.VolError.{VolError}
use Rattle.nl_types.specs.declared.error.VolError.TheVariants as error
use Rattle.nl_types.specs.declared.event.Event.{Event}
use Rattle.nl_types.specs.declared.event.Event.TheVariants as event
use Rattle.nl_types.specs.declared.event.Mode.TheVariants.{Plain}
use Rattle.nl_types.specs.declared.reply.Answer.{Answer}
use Rattle.nl_types.specs.declared.reply.Answer.TheVariants as answer
use Rattle.nl_types.specs.declared.row.ListOptions.{ListOptions}
use Rattle.nl_types.specs.declared.row.Range.{Range}
use Rattle.nl_types.specs.declared.row.Row.{Row}
use Rattle.nl_types.specs.Plain.CheckpointLaws.{is_removable}
use Rattle.nl_types.specs.Plain.Limits.{checkpoint_number_limit}
use Rattle.nl_types.specs.Plain.NumberLists.{is_one_of}
use Rattle.nl_types.specs.Plain.Rows.{is_between, is_no_range, is_snapshot, listing, number_of, range_removal, removal}
use Rattle.nl_types.specs.Plain.Runs.{TakesMemory, Writes}
use Rattle.nl_types.specs.Plain.Worlds.{World, Copy, IsWorld, Outcome, Reply, copies_with_mode, copy_at, copy_row, either, is_given_up, is_mounted, latest, moded, refused_if, rows, take_out}
use Rattle.nl_types.specs.Facts.Booleans.{or_right}
use Rattle.nl_types.specs.Facts.NumberedLists.{before-lt, tied-false}
use Rattle.nl_types.specs.Facts.NumberedParts.{find-valued, found_le_top, tied-same, tied-true, top-valued}
use Rattle.nl_types.specs.Facts.TakenOut.{among-range, copy_at-take_out}
use Rattle.nl_types.specs.Facts.ToldCopies.{MayGo, find_row-copies, may_go-removal, range_of, range_removal-is}
use Rattle.nl_keep.specs.Forgotten.{Forgets, MakesAllPlain, MakesPlain, TellsFrom, last_minor, rows_behind, run_end}
use Rattle.nl_keep.specs.MinorOnes.{TakesOutAll, earlier_rows, is_plain_minor, minor_ones}
use Rattle.nl_keep.specs.Private.Refused.{RefusesMinor, RefusesMinorOnes, RefusesRange}
use Rattle.nl_keep.specs.Refusals.{RefusesPlain, RefusesToForget, RefusesToForgetAll}
use Rattle.nl_keep.specs.Volumes.{Follows, LeadsTo, Meaning, volume_refusals}
use Rattle.nl_keep.proofs.Forgets.{found_above, run_end-from}
use Rattle.nl_keep.proofs.MinorRemovals.{all_told}
use Rattle.nl_keep.proofs.StoreRefusals.{refused_memory}

-- ---- events

-- an event that neither writes nor takes memory is judged by the world alone
never_refused : (asked : Event) → (Writes asked → ⊥) → (TakesMemory asked → ⊥) → (e : VolError)
    → volume_refusals asked e → ⊥
never_refused asked writes takes error.NoSpace may = writes may.0
never_refused asked writes takes error.Fault may = writes may.0
never_refused asked writes takes error.Memory may = takes may
never_refused asked writes takes _ may = may

pub plain_refused : (n : ℕ) (reply : Reply) (e : VolError) (w : World) (Old New : Meaning)
    → LeadsTo (Follows (event.ChangeMode n Plain) reply) Old New → reply ≡ Err e → Old w
    → RefusesToForget n w e
plain_refused n reply e w Old New does is means =
    let d = does w means in
    elim d.2.1 [
      | inl s ↦
          by (copy_at w n) refl
          (ap (λ (o : Option Row). (either w (ok_or o error.NoCheckpoint) next).0) (sym (find_row-copies w.copies n))
          ∙ ap (λ (o : Outcome). o.0) s ∙ is)
      | inr r ↦ absurd (never_refused (event.ChangeMode n Plain) (λ no. no) (λ no. no) r.error r.may_be)
    ]
  where
    done : Outcome
    done = (Ok answer.Done, record w { copies = copies_with_mode n Plain w.copies })

    next : Row → Outcome
    next row = refused_if (is_given_up row.mode Plain && is_mounted w.mounts n) error.Mounted w done

    by : (o : Option Copy) → copy_at w n ≡ o
        → (either w (ok_or (option_map (λ copy. copy_row (n, copy)) o) error.NoCheckpoint) next).0 ≡ Err e
        → RefusesToForget n w e
    by None none told = let same : error.NoCheckpoint ≡ e = cc in subst (RefusesToForget n w) same none
    by (Some copy) kept told =
        elim (is_given_up copy.mode Plain && is_mounted w.mounts n) as (λ b.
        (is_given_up copy.mode Plain && is_mounted w.mounts n) ≡ b
        → (refused_if b error.Mounted w done).0 ≡ Err e → RefusesToForget n w e) [
          | true ↦ λ both told.
              let same : error.Mounted ≡ e = cc in
              subst (RefusesToForget n w) same
              (and_parts (is_given_up copy.mode Plain) (is_mounted w.mounts n) both).1
          | false ↦ λ _ told. cc
        ] refl told

pub listing_refused : (options : ListOptions) (reply : Reply) (e : VolError) (w : World) (Old New : Meaning)
    → LeadsTo (Follows (event.Listing options) reply) Old New → reply ≡ Err e → Old w → e ≡ error.Memory
listing_refused options reply e w Old New does is means =
    let d = does w means in
    elim d.2.1 [
      | inl s ↦
          let no : Ok (answer.Rows (listing options (rows w))) ≡ Err e = ap (λ (o : Outcome). o.0) s ∙ is in cc
      | inr r ↦ refused_memory (event.Listing options) w d.0 reply e (λ no. no) r is
    ]

pub listing_answers : (options : ListOptions) (reply : Reply) (given : Answer) (w : World) (Old New : Meaning)
    → LeadsTo (Follows (event.Listing options) reply) Old New → reply ≡ Ok given → Old w
    → (told : List Row) × (given ≡ answer.Rows told)
listing_answers options reply given w Old New does is means =
    let d = does w means in
    elim d.2.1 [
      | inl s ↦
          let both : Ok (answer.Rows (listing options (rows w))) ≡ Ok given = ap (λ (o : Outcome). o.0) s ∙ is in
          let same : given ≡ answer.Rows (listing options (rows w)) = cc in
          (listing options (rows w), same)
      | inr r ↦ let no : Ok given ≡ Err r.error = sym is ∙ r.reply_is in cc
    ]

pub range_refused : (first last : ℕ) (reply : Reply) (e : VolError) (w : World) (Old New : Meaning)
    → LeadsTo (Follows (event.RemoveRange first last) reply) Old New → reply ≡ Err e → Old w
    → RefusesRange first last w e
range_refused first last reply e w Old New does is means =
    let d = does w means in
    elim d.2.1 [
      | inl s ↦
          by (is_no_range first last) refl (list_any (is_between first last) (rows w)) refl
          (ap (λ (o : Outcome). o.0) s ∙ is)
      | inr r ↦
          subst (RefusesRange first last w)
          (sym (refused_memory (event.RemoveRange first last) w d.0 reply e (λ no. no) r is)) tt
    ]
  where
    next : Range → Outcome
    next range = (Ok (answer.Removed range), take_out range.removed w)

    by : (a : Bool) → is_no_range first last ≡ a → (b : Bool) → list_any (is_between first last) (rows w) ≡ b
        → (either w (cond {A = Result Range VolError} a (Err error.BadRange)
        (cond (not b) (Err error.NoCheckpoint) (Ok (range_of w first last)))) next).0 ≡ Err e
        → RefusesRange first last w e
    by true none b some told = let same : error.BadRange ≡ e = cc in subst (RefusesRange first last w) same none
    by false none true some told = cc
    by false none false some told =
        let same : error.NoCheckpoint ≡ e = cc in subst (RefusesRange first last w) same some

pub range_answers : (first last : ℕ) (reply : Reply) (given : Answer) (w : World) (Old New : Meaning)
    → LeadsTo (Follows (event.RemoveRange first last) reply) Old New → reply ≡ Ok given → Old w
    → (range : Range) × (given ≡ answer.Removed range) × (range ≡ range_of w first last)
range_answers first last reply given w Old New does is means =
    let d = does w means in
    elim d.2.1 [
      | inl s ↦
          by (range_removal first last (latest w) (rows w)) (range_removal-is w first last)
          (ap (λ (o : Outcome). o.0) s ∙ is)
      | inr r ↦ let no : Ok given ≡ Err r.error = sym is ∙ r.reply_is in cc
    ]
  where
    by : (r : Result Range VolError) → IfOk r (λ range. range ≡ range_of w first last)
        → (either w r (λ range. (Ok (answer.Removed range), take_out range.removed w))).0 ≡ Ok given
        → (range : Range) × (given ≡ answer.Removed range) × (range ≡ range_of w first last)
    by (Ok range) judged told = let same : given ≡ answer.Removed range = cc in (range, same, judged)
    by (Err x) judged told = cc

-- so one that isn't among the removed ones stays in the world
pub range_stays : (first last : ℕ) (range : Range) (reply : Reply) (e : VolError) (w : World) (Old New : Meaning)
    → LeadsTo (Follows (event.RemoveRange first last) reply) Old New → reply ≡ Ok (answer.Removed range)
    → is_one_of range.removed first ≡ false → e ≡ error.Latest → Old w → RefusesRange first last w e
range_stays first last range reply e w Old New does is stays latest_is means =
    let found = range_answers first last reply (answer.Removed range) w Old New does is means in
    let same : range ≡ found.0 = cc in
    subst (RefusesRange first last w) (sym latest_is)
    (ap (λ (g : Range). is_one_of g.removed first) (sym (same ∙ found.2)) ∙ stays)

-- ---- one checkpoint

above_zero : (copies : List (ℕ × Copy)) (n : ℕ)
    → list_all (λ c. nat_lt 0 c.0 && nat_lt c.0 checkpoint_number_limit) copies ≡ true
    → is_some (find nat_cmp n copies) ≡ true → 0 < n
above_zero [] n fit there = absurd (true≢false (sym there))
above_zero (c ∷ copies) n fit there =
    let parts =
    and_parts (nat_lt 0 c.0 && nat_lt c.0 checkpoint_number_limit)
    (list_all (λ d. nat_lt 0 d.0 && nat_lt d.0 checkpoint_number_limit) copies) fit in
    elim (eq_by_cmp nat_cmp n c.0) as (λ b.
    eq_by_cmp nat_cmp n c.0 ≡ b → is_some (cond b (Some c.1) (find nat_cmp n copies)) ≡ true → 0 < n) [
      | true ↦ λ tied _.
          let same : n ≡ c.0 = tied-same n c.0 tied in
          let above : 0 < c.0 = ltb-true 0 c.0 (and_parts (nat_lt 0 c.0) (nat_lt c.0 checkpoint_number_limit) parts.0).0 in
          omega arith
      | false ↦ λ _ later. above_zero copies n parts.1 later
    ] refl there

-- a run doesn't end before its checkpoint
ends_behind : (n last : ℕ) (all : List Row) → n ≤ last → n ≤ last_minor last (rows_behind n all)
ends_behind n last [] low = low
ends_behind n last (row ∷ all) low =
    let behind = rows_behind n all in
    elim (nat_lt n row.number) as (λ b.
    nat_lt n row.number ≡ b → n ≤ last_minor last (cond b (row ∷ behind) behind)) [
      | true ↦ λ above.
          let less = ltb-true n row.number above in
          elim row.minor as (λ m. n ≤ cond m (last_minor row.number behind) last) [
            | true ↦ ends_behind n row.number all (omega arith)
            | false ↦ low
          ]
      | false ↦ λ _. ends_behind n last all low
    ] refl

kept_between : (n last : ℕ) (copies : List (ℕ × Copy)) → n ≤ last → is_some (find nat_cmp n copies) ≡ true
    → list_any (is_between n last) (map copy_row copies) ≡ true
kept_between n last [] low there = absurd (true≢false (sym there))
kept_between n last (c ∷ copies) low there =
    elim (eq_by_cmp nat_cmp n c.0) as (λ b.
    eq_by_cmp nat_cmp n c.0 ≡ b → is_some (cond b (Some c.1) (find nat_cmp n copies)) ≡ true
    → list_any (is_between n last) (map copy_row (c ∷ copies)) ≡ true) [
      | true ↦ λ tied _.
          let same : n ≡ c.0 = tied-same n c.0 tied in
          let here : is_between n last (copy_row c) ≡ true =
          and_from (nat_le n c.0) (nat_le c.0 last) (le-leb n c.0 (omega arith)) (le-leb c.0 last (omega arith)) in
          ap (λ b. b || list_any (is_between n last) (map copy_row copies)) here
      | false ↦ λ _ later. or_right (is_between n last (copy_row c)) (kept_between n last copies low later)
    ] refl there

-- a plain one that stays in a range that begins with it is the latest
stays_latest : (w : World) (n last : ℕ) (copy : Copy) → is_sorted nat_cmp w.copies ≡ true
    → copy_at w n ≡ Some copy → is_snapshot copy.mode ≡ false → n ≤ last
    → is_one_of (range_of w n last).removed n ≡ false → n ≡ latest w
stays_latest w n last copy sorted kept plain low stays =
    let fails : is_removable w n last n copy ≡ false =
    ap (λ (o : Option Copy). option_map_or (is_removable w n last n) o false) (sym kept)
    ∙ sym (among-range w n last n sorted) ∙ stays in
    elim (n == latest w) as (λ b. (n == latest w) ≡ b → n ≡ latest w) [
      | true ↦ λ is. eqb-true n (latest w) is
      | false ↦ λ apart.
          absurd (true≢false
          (sym (and_from (nat_le n n && nat_le n last) (not (is_snapshot copy.mode || n == latest w))
          (and_from (nat_le n n) (nat_le n last) (le-leb n n (omega arith)) (le-leb n last low))
          (ap (λ b. not (b || n == latest w)) plain ∙ ap not apart))
          ∙ fails))
    ] refl

-- what was made plain is kept and plain
record IsMadePlain (n : ℕ) (w : World) : Type 0 where
  copy : Copy
  kept : copy_at w n ≡ Some copy
  plain : is_snapshot copy.mode ≡ false

made_plain : (n : ℕ) (w made : World) → MakesPlain n w made → IsMadePlain n made
made_plain n w made makes = record {
  copy = record makes.0.0 { mode = Plain };
  kept =
      ap (λ (x : World). copy_at x n) makes.1 ∙ find-valued (moded n Plain) w.copies n
      ∙ ap (option_map (moded n Plain n)) makes.0.1
      ∙ ap (λ b. Some (cond b (record makes.0.0 { mode = Plain }) makes.0.0)) (eq-eqb n n refl);
  plain = refl;
}

-- where its run can't be taken out, it is the latest one, or memory lacks
pub run_refused : (n last : ℕ) (e : VolError) (w made : World) → MakesPlain n w made → IsWorld made
    → last ≡ run_end n (rows made) → RefusesRange n last made e → RefusesToForget n w e
run_refused n last error.BadRange w made makes world ends refused =
    let there = made_plain n w made makes in
    let above = above_zero made.copies n world.numbers_fit (ap is_some there.kept) in
    let low : n ≤ last = subst (λ k. n ≤ k) (sym ends) (ends_behind n n (rows made) (omega arith)) in
    elim (n == 0) as (λ b. (n == 0) ≡ b → (b || nat_lt last n) ≡ true → ⊥) [
      | true ↦ λ none _. omega (arith, eqb-true n 0 none, above)
      | false ↦ λ _ less. omega (arith, ltb-true last n less, low)
    ] refl refused
run_refused n last error.NoCheckpoint w made makes world ends refused =
    let there = made_plain n w made makes in
    let low : n ≤ last = subst (λ k. n ≤ k) (sym ends) (ends_behind n n (rows made) (omega arith)) in
    absurd (true≢false (sym (kept_between n last made.copies low (ap is_some there.kept)) ∙ refused))
run_refused n last error.Latest w made makes world ends refused =
    let there = made_plain n w made makes in
    let low : n ≤ last = subst (λ k. n ≤ k) (sym ends) (ends_behind n n (rows made) (omega arith)) in
    stays_latest made n last there.copy world.numbers_rise there.kept there.plain low refused
    ∙ ap latest makes.1 ∙ top-valued (moded n Plain) w.copies
run_refused n last error.Memory w made makes world ends refused = tt
run_refused n last _ w made makes world ends refused = absurd refused

pub one_stays : (n last : ℕ) (told : List Row) (e : VolError) (Old A B : Meaning)
    → ((w : World) → B w → IsWorld w) → LeadsTo (MakesPlain n) Old A → LeadsTo (TellsFrom n told) A B
    → last ≡ run_end n told → ((w : World) → B w → RefusesRange n last w e)
    → (w : World) → Old w → RefusesToForget n w e
one_stays n last told e Old A B sound makes tells ends refused w means =
    let a = makes w means in
    let b = tells a.0 a.1 in
    run_refused n last e w b.0 (a.2.0, b.2.1 ∙ a.2.1) (sound b.0 b.1)
    (ends ∙ ap (run_end n) b.2.0 ∙ run_end-from n (rows a.0)
    ∙ ap (λ (x : World). run_end n (rows x)) (sym b.2.1))
    (refused b.0 b.1)

-- ---- one after another

-- a list, before an element and behind it
pub split_at : {A : Type 0} (xs : List A) (i : ℕ) (x : A) → i < length xs → x ≡ get_or xs i x
    → xs ≡ take i xs ++ x ∷ drop (i + 1) xs
split_at xs i x within is =
    sym (take-append-drop i xs)
    ∙ ap (λ rest. take i xs ++ rest) (drop_more xs i x within ∙ ap (λ y. y ∷ drop (i + 1) xs) (sym is))

next_stays : (before : List ℕ) (n : ℕ) (after : List ℕ) (e : VolError) (w mid : World) → Forgets before w mid
    → RefusesToForget n mid e → RefusesToForgetAll (before ++ n ∷ after) w e
next_stays [] n after e w mid same refused = inl (subst (λ (x : World). RefusesToForget n x e) same refused)
next_stays (m ∷ before) n after e w mid run refused =
    inr (run.0, run.1, next_stays before n after e run.0 mid run.2 refused)

pub next_refused : (before : List ℕ) (n : ℕ) (after : List ℕ) (e : VolError) (Old Mid : Meaning)
    → LeadsTo (Forgets before) Old Mid → ((w : World) → Mid w → RefusesToForget n w e)
    → (w : World) → Old w → RefusesToForgetAll (before ++ n ∷ after) w e
next_refused before n after e Old Mid forgets refused w means =
    let a = forgets w means in
    next_stays before n after e w a.0 a.2 (refused a.0 a.1)

-- ---- plain ones

next_not_plain : (before : List ℕ) (n : ℕ) (after : List ℕ) (e : VolError) (w mid : World)
    → MakesAllPlain before w mid → RefusesToForget n mid e → RefusesPlain (before ++ n ∷ after) w e
next_not_plain [] n after e w mid same refused =
    inl (subst (λ (x : World). RefusesToForget n x e) same refused)
next_not_plain (m ∷ before) n after e w mid run refused =
    inr (run.0, run.1, next_not_plain before n after e run.0 mid run.2 refused)

pub next_plain_refused : (before : List ℕ) (n : ℕ) (after : List ℕ) (e : VolError) (Old Mid : Meaning)
    → LeadsTo (MakesAllPlain before) Old Mid → ((w : World) → Mid w → RefusesToForget n w e)
    → (w : World) → Old w → RefusesPlain (before ++ n ∷ after) w e
next_plain_refused before n after e Old Mid made refused w means =
    let a = made w means in
    next_not_plain before n after e w a.0 a.2 (refused a.0 a.1)

-- ---- minor ones

pub minor_refused : (row : Row) (reply : Reply) (e : VolError) (w : World) (Old New : Meaning)
    → is_plain_minor row ≡ true → LeadsTo (Follows (event.Remove row.number) reply) Old New → reply ≡ Err e
    → Old w → RefusesMinor row w e
minor_refused row reply e w Old New minor does is means =
    let d = does w means in
    elim d.2.1 [
      | inl s ↦ (minor, by (removal row.number (latest w) (rows w)) (ap (λ (o : Outcome). o.0) s ∙ is))
      | inr r ↦ absurd (never_refused (event.Remove row.number) (λ no. no) (λ no. no) r.error r.may_be)
    ]
  where
    by : (r : Result (Unit {0}) VolError)
        → (either w r (λ _. (Ok answer.Done, take_out (row.number ∷ []) w))).0 ≡ Err e → r ≡ Err e
    by (Ok u) told = cc
    by (Err x) told = let same : x ≡ e = cc in ap (λ (y : VolError). Err y) same

pub minor_ones_refused : (told before : List Row) (row : Row) (after : List Row) (e : VolError)
    (Old Mid : Meaning) → told ≡ before ++ row ∷ after → LeadsTo (TakesOutAll (minor_ones before)) Old Mid
    → ((w : World) → Mid w → RefusesMinor row w e) → (w : World) → Old w → RefusesMinorOnes told w e
minor_ones_refused told before row after e Old Mid is takes refused w means =
    let a = takes w means in
    (before, row, after, is, subst (λ (x : World). RefusesMinor row x e) a.2 (refused a.0 a.1))

-- an earlier row is of a copy that has another one behind it
record IsEarlier (copies : List (ℕ × Copy)) (before : List Row) (row : Row) : Type 0 where
  front : List (ℕ × Copy)
  one : ℕ × Copy
  other : ℕ × Copy
  back : List (ℕ × Copy)
  all : copies ≡ front ++ one ∷ other ∷ back
  fronts : map copy_row front ≡ before
  row_is : copy_row one ≡ row

none_is : (before : List Row) (row : Row) (after : List Row) → [] ≡ before ++ row ∷ after → ⊥
none_is [] row after is = cc
none_is (x ∷ before) row after is = cc

earlier_is : (copies : List (ℕ × Copy)) (before : List Row) (row : Row) (after : List Row)
    → earlier_rows (map copy_row copies) ≡ before ++ row ∷ after → IsEarlier copies before row
earlier_is [] before row after is = absurd (none_is before row after is)
earlier_is (c ∷ []) before row after is =
    absurd (none_is before row after (ap (λ k. take k (copy_row c ∷ [])) (count c) ∙ is))
  where
    count : (d : ℕ × Copy) → 0 ≡ length (copy_row d ∷ []) - 1
    count d = omega arith
earlier_is (c ∷ d ∷ copies) before row after is =
    by before (λ left same. earlier_is (d ∷ copies) left row after same)
    (ap (λ k. take k (map copy_row (c ∷ d ∷ copies))) one_more ∙ is)
  where
    more : List Row
    more = map copy_row (d ∷ copies)

    one_more : suc (length more - 1) ≡ length (copy_row c ∷ more) - 1
    one_more = omega arith

    by : (start : List Row)
        → ((left : List Row) → take (length more - 1) more ≡ left ++ row ∷ after
        → IsEarlier (d ∷ copies) left row)
        → copy_row c ∷ take (length more - 1) more ≡ start ++ row ∷ after
        → IsEarlier (c ∷ d ∷ copies) start row
    by [] rest same = record {
      front = [];
      one = c;
      other = d;
      back = copies;
      all = refl;
      fronts = refl;
      row_is = (let head : copy_row c ≡ row = cc in head);
    }
    by (x ∷ left) rest same =
        let head : copy_row c ≡ x = cc in
        let tail : take (length more - 1) more ≡ left ++ row ∷ after = cc in
        let found = rest left tail in
        record {
          front = c ∷ found.front;
          one = found.one;
          other = found.other;
          back = found.back;
          all = ap (λ (cs : List (ℕ × Copy)). c ∷ cs) found.all;
          fronts = (λ i. head i ∷ found.fronts i);
          row_is = found.row_is;
        }

-- what is found behind other copies is found among all, and is none of the minor ones before it
found_behind : (front back : List (ℕ × Copy)) (q : ℕ) (copy : Copy) → is_sorted nat_cmp (front ++ back) ≡ true
    → find nat_cmp q back ≡ Some copy
    → (find nat_cmp q (front ++ back) ≡ Some copy) × (is_one_of (minor_ones (map copy_row front)) q ≡ false)
found_behind [] back q copy sorted is = (is, refl)
found_behind (e ∷ front) back q copy sorted is =
    let parts = and_parts (below_all nat_cmp e.0 (front ++ back)) (is_sorted nat_cmp (front ++ back)) sorted in
    let rest = found_behind front back q copy parts.1 is in
    let above : e.0 < q = found_above e.0 q copy (front ++ back) parts.0 rest.0 in
    let minors : List Row = filter is_plain_minor (map copy_row front) in (
      ap (λ b. cond b (Some e.1) (find nat_cmp q (front ++ back))) (tied-false q e.0 (λ same. omega arith)) ∙ rest.0,
      elim (is_plain_minor (copy_row e)) as (λ b.
          is_one_of (map number_of (cond b (copy_row e ∷ minors) minors)) q ≡ false) [
            | true ↦
                ap (λ b. b || is_one_of (map number_of minors) q) (ne_eqb q e.0 (λ same. omega arith)) ∙ rest.1
            | false ↦ rest.1
          ],
    )

sorted_behind : (front back : List (ℕ × Copy)) → is_sorted nat_cmp (front ++ back) ≡ true
    → is_sorted nat_cmp back ≡ true
sorted_behind [] back sorted = sorted
sorted_behind (e ∷ front) back sorted =
    sorted_behind front back
    (and_parts (below_all nat_cmp e.0 (front ++ back)) (is_sorted nat_cmp (front ++ back)) sorted).1

-- so an earlier plain minor one may go, once those before it are gone
earlier_may_go : (w : World) (before : List Row) (row : Row) → is_sorted nat_cmp w.copies ≡ true
    → IsEarlier w.copies before row → is_plain_minor row ≡ true
    → MayGo (take_out (minor_ones before) w) row.number
earlier_may_go w before row sorted at minor =
    let c = at.one in
    let d = at.other in
    let back : List (ℕ × Copy) = c ∷ d ∷ at.back in
    let all : is_sorted nat_cmp (at.front ++ back) ≡ true = ap (is_sorted nat_cmp) (sym at.all) ∙ sorted in
    let parts =
    and_parts (below_all nat_cmp c.0 (d ∷ at.back)) (is_sorted nat_cmp (d ∷ at.back)) (sorted_behind at.front back all) in
    let less : c.0 < d.0 =
    before-lt c.0 d.0 (and_parts (is_lt (nat_cmp c.0 d.0)) (below_all nat_cmp c.0 at.back) parts.0).0 in
    let one =
    found_behind at.front back c.0 c.1 all
    (ap (λ b. cond b (Some c.1) (find nat_cmp c.0 (d ∷ at.back))) (tied-true c.0 c.0 refl)) in
    let other =
    found_behind at.front back d.0 d.1 all
    (ap (λ b. cond b (Some c.1) (find nat_cmp d.0 (d ∷ at.back))) (tied-false d.0 c.0 (λ same. omega arith))
    ∙ ap (λ b. cond b (Some d.1) (find nat_cmp d.0 at.back)) (tied-true d.0 d.0 refl)) in
    let gone = minor_ones before in
    let left = take_out gone w in
    let here : copy_at left c.0 ≡ Some c.1 = stays c.0 c.1 one in
    let there : copy_at left d.0 ≡ Some d.1 = stays d.0 d.1 other in
    let top : d.0 ≤ latest left = found_le_top left.copies d.0 (ap is_some there) in
    subst (λ (r : Row). MayGo left r.number) at.row_is (record {
      copy = c.1;
      kept = here;
      plain =
          not-true (is_snapshot c.1.mode)
          (and_parts (not (is_snapshot c.1.mode)) c.1.minor (ap is_plain_minor at.row_is ∙ minor)).0;
      earlier = ne_eqb c.0 (latest left) (λ same. omega (arith, less, top, same));
    })
  where
    stays : (q : ℕ) (copy : Copy)
        → (find nat_cmp q (at.front ++ at.one ∷ at.other ∷ at.back) ≡ Some copy)
        × (is_one_of (minor_ones (map copy_row at.front)) q ≡ false)
        → copy_at (take_out (minor_ones before) w) q ≡ Some copy
    stays q copy found =
        copy_at-take_out w (minor_ones before) q
        ∙ ap (λ b. cond b None (copy_at w q))
        (ap (λ (rs : List Row). is_one_of (minor_ones rs) q) (sym at.fronts) ∙ found.1)
        ∙ ap (find nat_cmp q) at.all ∙ found.0

pub minor_ones_go : (w : World) (e : VolError) → IsWorld w → RefusesMinorOnes (earlier_rows (rows w)) w e → ⊥
minor_ones_go w e world refused =
    let before = refused.0 in
    let row = refused.1 in
    let may =
    earlier_may_go w before row world.numbers_rise (earlier_is w.copies before row refused.2 refused.3)
    refused.4.0 in
    let no : Err e ≡ Ok tt =
    sym refused.4.1 ∙ may_go-removal (take_out (minor_ones before) w) row.number may in
    cc

-- so they are removed, unless memory lacks
pub minor_stays : (told : List Row) (e : VolError) (Old Mid : Meaning) → ((w : World) → Old w → IsWorld w)
    → LeadsTo (TellsFrom 1 told) Old Mid → ((w : World) → Mid w → RefusesMinorOnes (earlier_rows told) w e)
    → (w : World) → Old w → e ≡ error.Memory
minor_stays told e Old Mid sound tells refused w means =
    let a = tells w means in
    let world = sound w means in
    let all : told ≡ rows w = a.2.0 ∙ all_told w.copies world.numbers_fit in
    absurd (minor_ones_go w e world
    (subst (λ (rs : List Row). RefusesMinorOnes (earlier_rows rs) w e) all
    (subst (λ (x : World). RefusesMinorOnes (earlier_rows told) x e) a.2.1 (refused a.0 a.1))))
