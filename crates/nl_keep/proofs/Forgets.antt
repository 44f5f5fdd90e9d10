-- What forgetting takes out, and what it keeps.
use Rattle.std.proofs.Common.{◌≡◌, ℕ, ◌<◌, Bool, true, false, cond, not, List, [], ◌∷◌, ◌++◌, map, Option, Some, None, Ok, Err, refl, sym, ap, ◌∙◌, subst, inl, inr, true≢false, arith, ltb-true, lt-ltb, leb-true, leb-false, eqb-true}
use Rattle.std.specs.Prelude.{◌≢◌, ◌==◌, ◌&&◌, ◌||◌, ◌≤◌, nat_le, nat_lt, is_some, IfOk}
use Rattle.std.specs.List.{filter}
use Rattle.std.specs.Option.{option_map, option_map_or}
use Rattle.std.proofs.lemmas.Bool.{and_parts, eqb-false, not-true, or_parts}
use Rattle.std.proofs.lemmas.Option.{same_Some}
use Rattle.std.specs.Ordering.{nat_cmp, eq_by_cmp, is_lt}
use Rattle.std.specs.FinMap.{find, is_sorted}
use Rattle.std.specs.FinMap.Entries.{below_all}
use Rattle.nl_types.specs.declared.error.VolError.TheVariants as error
use Rattle.nl_types.specs.declared.event.Event.TheVariants as event
use Rattle.nl_types.specs.declared.event.Mode.TheVariants.{Plain}
use Rattle.nl_types.specs.declared.reply.Answer.{Answer}
use Rattle.nl_types.specs.declared.reply.Answer.TheVariants as answer
use Rattle.nl_types.specs.declared.row.ListOptions.{ListOptions}
use Rattle.nl_types.specs.declared.row.Range.{Range}
use Rattle.nl_types.specs.declared.row.Row.{Row}
use Rattle.nl_types.specs.Plain.CheckpointLaws.{is_removable}
use Rattle.nl_types.specs.Plain.NumberLists.{is_one_of}
use Rattle.nl_types.specs.Plain.Rows.{is_shown, is_snapshot, kept_row, listing, range_removal, removable, rows_between}
use Rattle.nl_types.specs.Plain.Worlds.{World, Copy, Outcome, Reply, copy_at, copy_row, copies_with_mode, is_given_up, is_mounted, latest, moded, rows, step, take_out}
use Rattle.nl_types.specs.Facts.EventCases.{either_gives, refused_if_gives}
use Rattle.nl_types.specs.Facts.Booleans.{not_true}
use Rattle.nl_types.specs.Facts.NumberedLists.{before-lt}
use Rattle.nl_types.specs.Facts.NumberedParts.{find-valued, found_le_top, is_sorted-kept, is_sorted-valued, tied-same, top-valued}
use Rattle.nl_types.specs.Facts.TakenOut.{among-range, copy_at-take_out, latest-take_out, range_may_go, same_latest}
use Rattle.nl_types.specs.Facts.ToldCopies.{IsTold, kept_row-told, range_of, range_removal-is}
use Rattle.nl_keep.specs.Forgotten.{Forgets, ForgetsOne, MakesAllPlain, MakesPlain, TakesRange, TellsFrom, last_minor, rows_behind, run_end, run_of, with_plain}
use Rattle.nl_keep.specs.Lasting.{ForgetsChangeCopiesAlone, ForgetsKeepOthers, ForgottenAreEarlier, ForgottenAreGone}
use Rattle.nl_keep.specs.MinorOnes.{is_plain_minor_copy}
use Rattle.nl_keep.specs.Volumes.{Follows, LeadsTo, Meaning}

-- ---- a checkpoint is made plain

plain_made : (w : World) (n : ℕ) (cleaned : Reply) (given : Answer) (new : World)
    → step cleaned w (event.ChangeMode n Plain) ≡ (Ok given, new) → MakesPlain n w new
plain_made w n cleaned given new is = subst Made is made
  where
    Made : Outcome → Type 0
    Made o = IfOk o.0 (λ _. MakesPlain n w o.1)

    made : Made (step cleaned w (event.ChangeMode n Plain))
    made = either_gives Made w (kept_row n (rows w)) _ (λ _. tt) (λ row found.
        refused_if_gives Made (is_given_up row.mode Plain && is_mounted w.mounts n) error.Mounted w _
        (λ _. tt) (λ _.
        let told : IsTold w n row = subst (λ r. IfOk r (IsTold w n)) found (kept_row-told w n) in
        ((told.copy, told.kept), refl)))

pub made_plain : (n : ℕ) (reply : Reply) (given : Answer) (Old New : Meaning)
    → LeadsTo (Follows (event.ChangeMode n Plain) reply) Old New → reply ≡ Ok given
    → LeadsTo (MakesPlain n) Old New
made_plain n reply given Old New does is w means =
    let d = does w means in (
      d.0,
      d.1,
      elim d.2.1 [
        | inl s ↦
            plain_made w n d.2.0 given d.0
            (subst (λ (r : Reply). step d.2.0 w (event.ChangeMode n Plain) ≡ (r, d.0)) is s)
        | inr r ↦ let no : Ok given ≡ Err r.error = sym is ∙ r.reply_is in cc
      ],
    )

-- ---- a range is taken out

range_taken : (w : World) (first last : ℕ) (cleaned : Reply) (range : Range) (new : World)
    → step cleaned w (event.RemoveRange first last) ≡ (Ok (answer.Removed range), new)
    → is_one_of range.removed first ≡ true → TakesRange first last w new
range_taken w first last cleaned range new is = subst Taken is done range refl
  where
    Taken : Outcome → Type 0
    Taken o = (g : Range) → o.0 ≡ Ok (answer.Removed g) → is_one_of g.removed first ≡ true
        → TakesRange first last w o.1

    judged : (found g : Range) → range_removal first last (latest w) (rows w) ≡ Ok found
        → ◌≡◌ {A = Reply} (Ok (answer.Removed found)) (Ok (answer.Removed g))
        → is_one_of g.removed first ≡ true → TakesRange first last w (take_out found.removed w)
    judged found g fits same among =
        let first_is : found ≡ range_of w first last =
        subst (λ r. IfOk r (λ h. h ≡ range_of w first last)) fits (range_removal-is w first last) in
        let one : found ≡ g = cc in (
          copy_at-take_out w found.removed first
              ∙ ap (λ b. cond b None (copy_at w first)) (ap (λ (h : Range). is_one_of h.removed first) one ∙ among),
          ap (λ (h : Range). take_out h.removed w) first_is,
        )

    done : Taken (step cleaned w (event.RemoveRange first last))
    done = either_gives Taken w (range_removal first last (latest w) (rows w)) _ (λ e g no. cc)
        (λ found fits g. judged found g fits)

pub takes_range : (first last : ℕ) (range : Range) (reply : Reply) (Old New : Meaning)
    → LeadsTo (Follows (event.RemoveRange first last) reply) Old New → reply ≡ Ok (answer.Removed range)
    → is_one_of range.removed first ≡ true → LeadsTo (TakesRange first last) Old New
takes_range first last range reply Old New does is among w means =
    let d = does w means in (
      d.0,
      d.1,
      elim d.2.1 [
        | inl s ↦
            range_taken w first last d.2.0 range d.0
            (subst (λ (r : Reply). step d.2.0 w (event.RemoveRange first last) ≡ (r, d.0)) is s) among
        | inr r ↦ let no : Ok (answer.Removed range) ≡ Err r.error = sym is ∙ r.reply_is in cc
      ],
    )

-- ---- what is told from a number on

-- what is asked for
abbrev asked_from : ℕ → ListOptions
asked_from n = record {
  reverse = false;
  snapshots_only = false;
  with_minor = true;
  from = Some n;
  count = None;
}

abbrev from_on : ℕ → List Row → List Row
from_on n all = filter (λ row. nat_le n row.number) all

all_shown : (n : ℕ) (all : List Row) → filter (is_shown (asked_from n)) all ≡ from_on n all
all_shown n [] = refl
all_shown n (row ∷ all) =
    let rest = all_shown n all in
    let shown = filter (is_shown (asked_from n)) all in
    elim (nat_le n row.number) as (λ b.
    cond (b && true) (row ∷ shown) shown ≡ cond b (row ∷ from_on n all) (from_on n all)) [
      | true ↦ ap (λ (xs : List Row). row ∷ xs) rest
      | false ↦ rest
    ]

rows_told : (w : World) (n : ℕ) (cleaned : Reply) (told : List Row) (new : World)
    → step cleaned w (event.Listing (asked_from n)) ≡ (Ok (answer.Rows told), new) → TellsFrom n told w new
rows_told w n cleaned told new is =
    let reply : Ok (answer.Rows (listing (asked_from n) (rows w))) ≡ Ok (answer.Rows told) =
    ap (λ (o : Outcome). o.0) is in
    let same : listing (asked_from n) (rows w) ≡ told = cc in
    (sym same ∙ all_shown n (rows w), sym (ap (λ (o : Outcome). o.1) is))

pub tells_from : (n : ℕ) (told : List Row) (reply : Reply) (Old New : Meaning)
    → LeadsTo (Follows (event.Listing (asked_from n)) reply) Old New → reply ≡ Ok (answer.Rows told)
    → LeadsTo (TellsFrom n told) Old New
tells_from n told reply Old New does is w means =
    let d = does w means in (
      d.0,
      d.1,
      elim d.2.1 [
        | inl s ↦
            rows_told w n d.2.0 told d.0
            (subst (λ (r : Reply). step d.2.0 w (event.Listing (asked_from n)) ≡ (r, d.0)) is s)
        | inr r ↦ let no : Ok (answer.Rows told) ≡ Err r.error = sym is ∙ r.reply_is in cc
      ],
    )

-- ---- where a run ends

-- rows before number n tell nothing of its run
behind_from : (n : ℕ) (all : List Row) → rows_behind n (from_on n all) ≡ rows_behind n all
behind_from n [] = refl
behind_from n (row ∷ all) =
    let rest = behind_from n all in
    let kept = from_on n all in
    let behind = rows_behind n all in
    elim (nat_le n row.number) as (λ b.
    nat_le n row.number ≡ b
    → rows_behind n (cond b (row ∷ kept) kept) ≡ cond (nat_lt n row.number) (row ∷ behind) behind) [
      | true ↦ λ _. ap (λ (xs : List Row). cond (nat_lt n row.number) (row ∷ xs) xs) rest
      | false ↦ λ before.
          rest
          ∙ sym (ap (λ b. cond b (row ∷ behind) behind)
          (not_true (nat_lt n row.number)
          (λ later. omega (arith, leb-false n row.number before, ltb-true n row.number later))))
    ] refl

pub run_end-from : (n : ℕ) (all : List Row) → run_end n (from_on n all) ≡ run_end n all
run_end-from n all = ap (last_minor n) (behind_from n all)

-- ---- one checkpoint is forgotten

pub forgets_one : (n last : ℕ) (told : List Row) (Old A B New : Meaning)
    → LeadsTo (MakesPlain n) Old A → LeadsTo (TellsFrom n told) A B → last ≡ run_end n told
    → LeadsTo (TakesRange n last) B New → LeadsTo (ForgetsOne n) Old New
forgets_one n last told Old A B New plain tells ends takes w means =
    let a = plain w means in
    let b = tells a.0 a.1 in
    let c = takes b.0 b.1 in
    let made = with_plain n w in
    let same : b.0 ≡ made = b.2.1 ∙ a.2.1 in
    let last_is : last ≡ run_end n (rows made) =
    ends ∙ ap (run_end n) b.2.0 ∙ run_end-from n (rows a.0) ∙ ap (λ (x : World). run_end n (rows x)) a.2.1 in (
      c.0,
      c.1,
      record {
        kept = a.2.0;
        gone = c.2.0;
        world =
            c.2.1
            ∙ ap (λ (x : World). take_out (removable (latest x) (rows_between n last (rows x))) x) same
            ∙ ap (λ (k : ℕ). take_out (removable (latest made) (rows_between n k (rows made))) made) last_is;
      },
    )

-- ---- one after another

forgets-push : (ns : List ℕ) (n : ℕ) (old mid new : World) → Forgets ns old mid → ForgetsOne n mid new
    → Forgets (ns ++ n ∷ []) old new
forgets-push [] n old mid new same one = (new, subst (λ (x : World). ForgetsOne n x new) same one, refl)
forgets-push (m ∷ ns) n old mid new first one = (first.0, first.1, forgets-push ns n first.0 mid new first.2 one)

pub forgets_more : (ns : List ℕ) (n : ℕ) (Old Mid New : Meaning) → LeadsTo (Forgets ns) Old Mid
    → LeadsTo (ForgetsOne n) Mid New → LeadsTo (Forgets (ns ++ n ∷ [])) Old New
forgets_more ns n Old Mid New first one w means =
    let a = first w means in
    let b = one a.0 a.1 in
    (b.0, b.1, forgets-push ns n w a.0 b.0 a.2 b.2)

made-plain-push : (ns : List ℕ) (n : ℕ) (old mid new : World) → MakesAllPlain ns old mid → MakesPlain n mid new
    → MakesAllPlain (ns ++ n ∷ []) old new
made-plain-push [] n old mid new same one = (new, subst (λ (w : World). MakesPlain n w new) same one, refl)
made-plain-push (m ∷ ns) n old mid new first one =
    (first.0, first.1, made-plain-push ns n first.0 mid new first.2 one)

pub made_plain_more : (ns : List ℕ) (n : ℕ) (Old Mid New : Meaning) → LeadsTo (MakesAllPlain ns) Old Mid
    → LeadsTo (MakesPlain n) Mid New → LeadsTo (MakesAllPlain (ns ++ n ∷ [])) Old New
made_plain_more ns n Old Mid New first one w means =
    let a = first w means in
    let b = one a.0 a.1 in
    (b.0, b.1, made-plain-push ns n w a.0 b.0 a.2 b.2)

pub forgets_alone : ForgetsChangeCopiesAlone
forgets_alone [] old new same = record {
  tree = ap (λ (w : World). w.tree) same;
  dirty = ap (λ (w : World). w.dirty) same;
  mounts = ap (λ (w : World). w.mounts) same;
  given = ap (λ (w : World). w.given) same;
}
forgets_alone (n ∷ numbers) old new run =
    let rest = forgets_alone numbers run.0 new run.2 in
    let one = run.1.world in
    record {
      tree = rest.tree ∙ ap (λ (w : World). w.tree) one;
      dirty = rest.dirty ∙ ap (λ (w : World). w.dirty) one;
      mounts = rest.mounts ∙ ap (λ (w : World). w.mounts) one;
      given = rest.given ∙ ap (λ (w : World). w.given) one;
    }

-- ---- what is gone

none_moded : (n k : ℕ) (copies : List (ℕ × Copy)) → find nat_cmp k copies ≡ None
    → find nat_cmp k (copies_with_mode n Plain copies) ≡ None
none_moded n k copies none = find-valued (moded n Plain) copies k ∙ ap (option_map (moded n Plain k)) none

gone_on : (n k : ℕ) (old new : World) → ForgetsOne n old new → copy_at old k ≡ None → copy_at new k ≡ None
gone_on n k old new one none =
    let made = with_plain n old in
    ap (λ (w : World). copy_at w k) one.world ∙ copy_at-take_out made (run_of n made) k
    ∙ ap (cond (is_one_of (run_of n made) k) None) (none_moded n k old.copies none)
    ∙ elim (is_one_of (run_of n made) k) as (λ b. cond {A = Option Copy} b None None ≡ None)
    [ true ↦ refl | false ↦ refl ]

stays_gone : (numbers : List ℕ) (k : ℕ) (old new : World) → Forgets numbers old new → copy_at old k ≡ None
    → copy_at new k ≡ None
stays_gone [] k old new same none = ap (λ (w : World). copy_at w k) same ∙ none
stays_gone (n ∷ numbers) k old new run none =
    stays_gone numbers k run.0 new run.2 (gone_on n k old run.0 run.1 none)

pub forgotten_are_gone : ForgottenAreGone
forgotten_are_gone [] k old new run among = absurd (true≢false (sym among))
forgotten_are_gone (n ∷ numbers) k old new run among =
    elim (k == n) as (λ b. (k == n) ≡ b → (b || is_one_of numbers k) ≡ true → copy_at new k ≡ None) [
      | true ↦ λ here _.
          stays_gone numbers k run.0 new run.2
          (ap (copy_at run.0) (eqb-true k n here) ∙ run.1.gone)
      | false ↦ λ _ later. forgotten_are_gone numbers k run.0 new run.2 later
    ] refl among

-- ---- what stays

-- a number that is found behind another is above it
pub found_above : (x q : ℕ) (copy : Copy) (es : List (ℕ × Copy)) → below_all nat_cmp x es ≡ true
    → find nat_cmp q es ≡ Some copy → x < q
found_above x q copy [] below is = cc
found_above x q copy (e ∷ es) below is =
    let parts = and_parts (is_lt (nat_cmp x e.0)) (below_all nat_cmp x es) below in
    let lt : x < e.0 = before-lt x e.0 parts.0 in
    elim (eq_by_cmp nat_cmp q e.0) as (λ b.
    eq_by_cmp nat_cmp q e.0 ≡ b → cond b (Some e.1) (find nat_cmp q es) ≡ Some copy → x < q) [
      | true ↦ λ tied _. let same : q ≡ e.0 = tied-same q e.0 tied in omega arith
      | false ↦ λ _ later. found_above x q copy es parts.1 later
    ] refl is

-- a run ends before each later checkpoint that isn't minor
ends_earlier : (n q : ℕ) (copy : Copy) → copy.minor ≡ false → n < q → (es : List (ℕ × Copy)) (last : ℕ)
    → last < q → is_sorted nat_cmp es ≡ true → find nat_cmp q es ≡ Some copy
    → last_minor last (rows_behind n (map copy_row es)) < q
ends_earlier n q copy own above [] last low sorted is = cc
ends_earlier n q copy own above (e ∷ es) last low sorted is =
    let parts = and_parts (below_all nat_cmp e.0 es) (is_sorted nat_cmp es) sorted in
    let behind = rows_behind n (map copy_row es) in
    let later : find nat_cmp q es ≡ Some copy → last_minor last (copy_row e ∷ behind) < q = λ is.
    elim e.1.minor as (λ m. cond m (last_minor e.0 behind) last < q) [
      | true ↦
          ends_earlier n q copy own above es e.0 (found_above e.0 q copy es parts.0 is) parts.1 is
      | false ↦ low
    ] in
    elim (eq_by_cmp nat_cmp q e.0) as (λ t.
    eq_by_cmp nat_cmp q e.0 ≡ t → cond t (Some e.1) (find nat_cmp q es) ≡ Some copy
    → last_minor last (cond (nat_lt n e.0) (copy_row e ∷ behind) behind) < q) [
      | true ↦ λ tied here.
          let same : q ≡ e.0 = tied-same q e.0 tied in
          let not_minor : e.1.minor ≡ false = ap (λ (c : Copy). c.minor) (same_Some e.1 copy here) ∙ own in
          subst (λ b. last_minor last (cond b (copy_row e ∷ behind) behind) < q)
          (sym (lt-ltb n e.0 (omega arith)))
          (subst (λ m. cond m (last_minor e.0 behind) last < q) (sym not_minor) low)
      | false ↦ λ _ is.
          elim (nat_lt n e.0) as (λ b. last_minor last (cond b (copy_row e ∷ behind) behind) < q) [
            | true ↦ later is
            | false ↦ ends_earlier n q copy own above es last low parts.1 is
          ]
    ] refl is

-- so neither it nor a snapshot is of the run
not_of_run : (n q : ℕ) (copy : Copy) (w : World) → is_sorted nat_cmp w.copies ≡ true → (q == n) ≡ false
    → copy_at w q ≡ Some copy → is_plain_minor_copy copy ≡ false → is_one_of (run_of n w) q ≡ false
not_of_run n q copy w sorted apart kept own =
    let last = run_end n (rows w) in
    not_true (is_one_of (run_of n w) q) (λ among.
    let passes : is_removable w n last q copy ≡ true =
    ap (λ (o : Option Copy). option_map_or (is_removable w n last q) o false) (sym kept)
    ∙ sym (among-range w n last q sorted) ∙ among in
    let parts =
    and_parts (nat_le n q && nat_le q last) (not (is_snapshot copy.mode || q == latest w)) passes in
    let ends = and_parts (nat_le n q) (nat_le q last) parts.0 in
    let neither =
    or_parts (is_snapshot copy.mode) (q == latest w) (not-true (is_snapshot copy.mode || q == latest w) parts.1) in
    let major : copy.minor ≡ false = sym (ap (λ b. not b && copy.minor) neither.0) ∙ own in
    let apart : q ≢ n = eqb-false q n apart in
    let above : n < q = omega (arith, leb-true n q ends.0, apart) in
    let low : last < q = ends_earlier n q copy major above w.copies n above sorted kept in
    omega (arith, leb-true q last ends.1))

moded_other : (n q : ℕ) (copy : Copy) → (q == n) ≡ false → moded n Plain q copy ≡ copy
moded_other n q copy apart = ap (λ b. cond b (record copy { mode = Plain }) copy) apart

sorted_on : (n : ℕ) (old new : World) → ForgetsOne n old new → is_sorted nat_cmp old.copies ≡ true
    → is_sorted nat_cmp new.copies ≡ true
sorted_on n old new one sorted =
    let made = with_plain n old in
    ap (λ (w : World). is_sorted nat_cmp w.copies) one.world
    ∙ is_sorted-kept (λ k. not (is_one_of (run_of n made) k)) made.copies
    (is_sorted-valued (moded n Plain) old.copies ∙ sorted)

other_on : (n q : ℕ) (copy : Copy) (old new : World) → ForgetsOne n old new
    → is_sorted nat_cmp old.copies ≡ true → (q == n) ≡ false → copy_at old q ≡ Some copy
    → is_plain_minor_copy copy ≡ false → copy_at new q ≡ Some copy
other_on n q copy old new one sorted apart kept own =
    let made = with_plain n old in
    let here : copy_at made q ≡ Some copy =
    find-valued (moded n Plain) old.copies q ∙ ap (option_map (moded n Plain q)) kept
    ∙ ap Some (moded_other n q copy apart) in
    let stays = not_of_run n q copy made (is_sorted-valued (moded n Plain) old.copies ∙ sorted) apart here own in
    ap (λ (w : World). copy_at w q) one.world ∙ copy_at-take_out made (run_of n made) q
    ∙ ap (λ b. cond b None (copy_at made q)) stays ∙ here

pub forgets_keep_others : ForgetsKeepOthers
forgets_keep_others [] q copy old new sorted same apart kept own = ap (λ (w : World). copy_at w q) same ∙ kept
forgets_keep_others (n ∷ numbers) q copy old new sorted run apart kept own =
    let both = neither (q == n) (is_one_of numbers q) apart in
    forgets_keep_others numbers q copy run.0 new (sorted_on n old run.0 run.1 sorted) run.2 both.1
    (other_on n q copy old run.0 run.1 sorted both.0 kept own) own
  where
    neither : (a b : Bool) → (a || b) ≡ false → (a ≡ false) × (b ≡ false)
    neither true b is = absurd (true≢false is)
    neither false b is = (refl, is)

-- ---- the latest one

-- where a checkpoint is forgotten, the latest one stays, and stays the latest
latest_on : (n : ℕ) (old new : World) → ForgetsOne n old new → is_sorted nat_cmp old.copies ≡ true
    → is_some (copy_at old (latest old)) ≡ true
    → (latest new ≡ latest old) × (is_some (copy_at new (latest new)) ≡ true)
latest_on n old new one sorted kept =
    let made = with_plain n old in
    let gone = run_of n made in
    let last : latest made ≡ latest old = top-valued (moded n Plain) old.copies in
    let there : is_some (copy_at made (latest made)) ≡ true =
    ap (λ k. is_some (copy_at made k)) last ∙ ap is_some (find-valued (moded n Plain) old.copies (latest old))
    ∙ still (copy_at old (latest old)) kept in
    let may =
    range_may_go made n (run_end n (rows made)) (is_sorted-valued (moded n Plain) old.copies ∙ sorted) in (
      ap latest one.world ∙ same_latest made gone there may ∙ last,
      ap (λ (w : World). is_some (copy_at w (latest w))) one.world
          ∙ ap is_some (latest-take_out made gone there may) ∙ there,
    )
  where
    still : (o : Option Copy) → is_some o ≡ true → is_some (option_map (moded n Plain (latest old)) o) ≡ true
    still None none = none
    still (Some copy) is = refl

pub forgotten_are_earlier : ForgottenAreEarlier
forgotten_are_earlier [] k old new sorted kept same =
    (ap latest same, λ none. absurd (true≢false (sym none)))
forgotten_are_earlier (n ∷ numbers) k old new sorted kept run =
    let mid = run.0 in
    let one = latest_on n old mid run.1 sorted kept in
    let rest = forgotten_are_earlier numbers k mid new (sorted_on n old mid run.1 sorted) one.1 run.2 in
    let low : n ≤ latest old = found_le_top old.copies n (ap is_some run.1.kept.1) in (
      rest.0 ∙ one.0,
      λ among.
          elim (k == n) as (λ b. (k == n) ≡ b → (b || is_one_of numbers k) ≡ true → k ≤ latest old) [
            | true ↦ λ here _. let same : k ≡ n = eqb-true k n here in omega (arith, same, low)
            | false ↦ λ _ later. let le = rest.1 later in let same = one.0 in omega (arith, le, same)
          ] refl among,
    )
