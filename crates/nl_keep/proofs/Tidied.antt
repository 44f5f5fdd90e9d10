-- What only tidies: moves, retirements, resizes, expiries that protect all, and removals of minor ones.
use Rattle.std.proofs.Common.{◌≡◌, ◌⊎◌, ℕ, ◌+◌, ◌-◌, ◌<◌, ◌≤◌, max, Bool, true, false, cond, not, List, [], ◌∷◌, ◌++◌, length, map, take, drop, Option, Some, None, refl, sym, ap, ◌∙◌, subst, inl, inr, true≢false, arith, eq-eqb, eqb-true, ne_eqb, is_some, lt-ltb, le-ltb}
use Rattle.std.specs.Prelude.{◌==◌, ◌&&◌, ◌||◌, nat_le, nat_lt, suc}
use Rattle.std.specs.List.{filter}
use Rattle.std.specs.Option.{option_map, option_map_or}
use Rattle.std.proofs.lemmas.Bool.{and_parts, not-true}
use Rattle.std.proofs.lemmas.List.{take-append-drop}
use Rattle.std.proofs.lemmas.Option.{same_Some}
use Rattle.std.specs.Ordering.{nat_cmp, eq_by_cmp, is_lt}
use Rattle.std.specs.FinMap.{find, is_sorted}
use Rattle.std.specs.FinMap.Entries.{below_all}
use Rattle.nl_types.specs.declared.error.VolError.TheVariants as error
use Rattle.nl_types.specs.declared.event.Event.{Event}
use Rattle.nl_types.specs.declared.event.Event.TheVariants as event
use Rattle.nl_types.specs.declared.row.Row.{Row}
use Rattle.nl_types.specs.Plain.CheckpointLaws.{is_expiring, is_protected_at}
use Rattle.nl_types.specs.Plain.Limits.{checkpoint_number_limit}
use Rattle.nl_types.specs.Plain.NumberLists.{is_one_of}
use Rattle.nl_types.specs.Plain.Rows.{is_snapshot, number_of}
use Rattle.nl_types.specs.Plain.Worlds.{World, Copy, IsWorld, Outcome, Reply, boundary_of, copy_at, copy_row, expiry_of, is_moving, latest, latest_stamp, minor_copy, refused_if, rows, step, take_out, with_minor}
use Rattle.nl_types.specs.Facts.Booleans.{not_true}
use Rattle.nl_types.specs.Facts.EventCases.{refused_if_gives}
use Rattle.nl_types.specs.Facts.Expiries.{boundaries_are_least_protected, expiries_answer_expiring}
use Rattle.nl_types.specs.Facts.NumberedLists.{AllBelow-top, before-lt, find-push, find-push_same, find_stays, tied-false, top, top-push}
use Rattle.nl_types.specs.Facts.NumberedParts.{tied-same, tied-true}
use Rattle.nl_types.specs.Facts.TakenOut.{AllMayGo, copy_at-take_out, latest-take_out, same_latest}
use Rattle.nl_keep.specs.Facts.Tidied.{tidies_itself, tidies_on}
use Rattle.nl_keep.specs.Lasting.{IsMadeByItself, IsTidying, MinorRemovalsOnlyTidy, OnlyTidies, TidyingEventsOnlyTidy, TidyingGoesOn}
use Rattle.nl_keep.specs.MinorOnes.{earlier_rows, is_plain_minor, is_plain_minor_copy, minor_ones}
use Rattle.nl_keep.proofs.Forgets.{found_above}
use Rattle.nl_keep.proofs.MinorRemovals.{is_one_of-append, minor_ones-append, takes_none}

pub tidying_goes_on : TidyingGoesOn
tidying_goes_on moment old mid new = (tidies_itself moment old, tidies_on moment old mid new)

-- the stamp of what is found, 0 where nothing is
abbrev stamp_of : Option Copy → ℕ
stamp_of o = option_map_or (λ (c : Copy). c.stamp) o 0

-- ---- the latest copy once more

-- with a plain minor copy behind the others, that has the current tree where nothing is dirty
module _ (w : World) (now : ℕ) (made : Copy) (minor : is_plain_minor_copy made ≡ true)
    (stamped : made.stamp ≡ max now (latest_stamp w)) (same : w.dirty ≡ false → made.tree ≡ w.tree) where
  abbrev next : ℕ
  next = latest w + 1

  abbrev with_made : World
  with_made = record w { copies = w.copies ++ (next, made) ∷ [] }

  made_news : (n : ℕ) (copy : Copy) → copy_at with_made n ≡ Some copy
      → (copy_at w n ≡ Some copy) ⊎ IsMadeByItself w n copy
  made_news n copy at =
      elim (eq_by_cmp nat_cmp n next) as (λ b.
      eq_by_cmp nat_cmp n next ≡ b → cond b (Some made) (copy_at w n) ≡ Some copy
      → (copy_at w n ≡ Some copy) ⊎ IsMadeByItself w n copy) [
        | true ↦ λ tied here.
            let number : n ≡ next = tied-same n next tied in
            let one : made ≡ copy = same_Some made copy here in
            inr (record {
              behind = omega arith;
              minor = ap is_plain_minor_copy (sym one) ∙ minor;
              tree = λ clean. ap (λ (c : Copy). c.tree) (sym one) ∙ same clean;
            })
        | false ↦ λ _ there. inl there
      ] refl (sym (find-push w.copies next made n (AllBelow-top w.copies next (omega arith))) ∙ at)

  made_tidies : (moment : ℕ) → now ≤ moment → OnlyTidies moment w with_made
  made_tidies moment early =
      let below = AllBelow-top w.copies next (omega arith) in
      let last : latest with_made ≡ next = top-push w.copies next made below in
      let stamp : latest_stamp with_made ≡ max now (latest_stamp w) =
      ap (λ k. stamp_of (copy_at with_made k)) last ∙ ap stamp_of (find-push_same w.copies next made below) ∙ stamped in
      record {
        keeps = λ n copy at own. find_stays w.copies ((next, made) ∷ []) n copy at;
        news = made_news;
        numbers = omega arith;
        later = omega arith;
        stamp = omega arith;
        tree = refl;
        dirty = refl;
        mounts = refl;
      }

minored : (w : World) (moment now : ℕ) → IsWorld w → now ≤ moment → OnlyTidies moment w (with_minor w now)
minored w moment now world early = by (copy_at w (latest w)) refl
  where
    from : Option Copy → World
    from o = record w {
      copies = w.copies ++ option_map_or (λ copy. (latest w + 1, minor_copy w now copy) ∷ []) o [];
    }

    by : (o : Option Copy) → copy_at w (latest w) ≡ o → OnlyTidies moment w (from o)
    by None none = absurd (true≢false (sym world.latest_kept ∙ ap is_some none))
    by (Some copy) kept =
        made_tidies w now (minor_copy w now copy) refl refl
        (λ clean.
        same_Some copy.tree w.tree (sym (ap (option_map (λ (c : Copy). c.tree)) kept) ∙ world.clean clean))
        moment early

-- ---- expiries

none_among : (ns : List ℕ) → ((n : ℕ) → is_one_of ns n ≡ false) → ns ≡ []
none_among [] none = refl
none_among (n ∷ ns) none =
    absurd (true≢false (sym (ap (λ b. b || is_one_of ns n) (eq-eqb n n refl)) ∙ none n))

-- a period that is longer than all time protects all copies
boundary_first : (w : World) (now period n : ℕ) (copy : Copy) → IsWorld w → now < period
    → copy_at w n ≡ Some copy → boundary_of w now period ≤ n
boundary_first w now period n copy world less at =
    let protected : is_protected_at w now period n ≡ true =
    ap (λ o. option_map_or (λ (c : Copy). nat_lt now (c.stamp + period)) o false) at
    ∙ lt-ltb now (copy.stamp + period) (omega arith) in
    ((boundaries_are_least_protected w now period world).protects n protected).1

expires_none : (cleaned : Reply) (w : World) (now period : ℕ) → IsWorld w → now < period
    → expiry_of w now period ≡ []
expires_none cleaned w now period world less =
    none_among gone (λ n.
    expiries_answer_expiring cleaned w (take_out gone w) now period gone world refl n ∙ by n (copy_at w n) refl)
  where
    gone : List ℕ
    gone = expiry_of w now period

    by : (n : ℕ) (o : Option Copy) → copy_at w n ≡ o → option_map_or (is_expiring w now period n) o false ≡ false
    by n None at = refl
    by n (Some copy) at =
        ap (λ b. b && not (is_snapshot copy.mode || n == latest w))
        (le-ltb n (boundary_of w now period) (boundary_first w now period n copy world less at))

expiry_stays : (cleaned : Reply) (w : World) (now period : ℕ) → IsWorld w → now < period
    → take_out (expiry_of w now period) w ≡ w
expiry_stays cleaned w now period world less =
    ap (λ (ns : List ℕ). take_out ns w) (expires_none cleaned w now period world less) ∙ sym (takes_none w)

-- ---- events

module _ (moment : ℕ) where
  abbrev Tidies : World → Outcome → Type 0
  Tidies w o = OnlyTidies moment w o.1

  moved : (cleaned : Reply) (w : World) (segment limit now : ℕ) → IsWorld w → now ≤ moment
      → Tidies w (step cleaned w (event.Move segment limit now))
  moved cleaned w segment limit now world early = by (is_moving cleaned)
    where
      by : (b : Bool)
          → Tidies w (cond {A = Outcome} b
          (refused_if (nat_le checkpoint_number_limit (latest w + 1)) error.NumbersSpent w
          (cleaned, with_minor w now))
          (cleaned, w))
      by true =
          refused_if_gives (Tidies w) (nat_le checkpoint_number_limit (latest w + 1)) error.NumbersSpent w
          (cleaned, with_minor w now) (λ e. tidies_itself moment w) (λ _. minored w moment now world early)
      by false = tidies_itself moment w

  event_tidies : (cleaned : Reply) (w : World) (e : Event) → IsWorld w → IsTidying moment e
      → Tidies w (step cleaned w e)
  event_tidies cleaned w (event.Move segment limit now) world early = moved cleaned w segment limit now world early
  event_tidies cleaned w (event.Retire segment) world is = tidies_itself moment w
  event_tidies cleaned w (event.Resize segments) world is = tidies_itself moment w
  event_tidies cleaned w (event.Expire now period) world less =
      subst (OnlyTidies moment w) (sym (expiry_stays cleaned w now period world less)) (tidies_itself moment w)
  event_tidies cleaned w _ world is = absurd is

pub events_only_tidy : TidyingEventsOnlyTidy
events_only_tidy moment e reply old new world is follows = elim follows.1 [
  | inl s ↦ subst (Tidies moment old) s (event_tidies moment follows.0 old e world is)
  | inr r ↦ subst (OnlyTidies moment old) (sym r.unchanged) (tidies_itself moment old)
]

-- ---- removals of minor ones

-- a number of a minor one is found, and its copy is plain and minor
among_minor : (copies : List (ℕ × Copy)) (k : ℕ) → is_sorted nat_cmp copies ≡ true
    → is_one_of (minor_ones (map copy_row copies)) k ≡ true
    → (copy : Copy) × (find nat_cmp k copies ≡ Some copy) × (is_plain_minor_copy copy ≡ true)
among_minor [] k sorted among = absurd (true≢false (sym among))
among_minor (e ∷ es) k sorted among =
    elim (is_plain_minor (copy_row e)) as (λ b.
    is_plain_minor (copy_row e) ≡ b
    → is_one_of (map number_of (cond b (copy_row e ∷ rest) rest)) k ≡ true → Minor (e ∷ es)) [
      | true ↦ λ minor found.
          elim (k == e.0) as (λ t.
          (k == e.0) ≡ t → (t || is_one_of (map number_of rest) k) ≡ true → Minor (e ∷ es)) [
            | true ↦ λ here _. first (eqb-true k e.0 here) minor
            | false ↦ λ _ later. behind (among_minor es k parts.1 later)
          ] refl found
      | false ↦ λ _ later. behind (among_minor es k parts.1 later)
    ] refl among
  where
    Minor : List (ℕ × Copy) → Type 0
    Minor cs = (copy : Copy) × (find nat_cmp k cs ≡ Some copy) × (is_plain_minor_copy copy ≡ true)

    rest : List Row
    rest = filter is_plain_minor (map copy_row es)

    parts : (below_all nat_cmp e.0 es ≡ true) × (is_sorted nat_cmp es ≡ true)
    parts = and_parts (below_all nat_cmp e.0 es) (is_sorted nat_cmp es) sorted

    first : k ≡ e.0 → is_plain_minor (copy_row e) ≡ true → Minor (e ∷ es)
    first same minor = (
      e.1,
      ap (λ b. cond b (Some e.1) (find nat_cmp k es)) (tied-true k e.0 same),
      minor,
    )

    behind : Minor es → Minor (e ∷ es)
    behind found =
        let above = found_above e.0 k found.0 es parts.0 found.1 in (
          found.0,
          ap (λ b. cond b (Some e.1) (find nat_cmp k es)) (tied-false k e.0 (λ same. omega arith)) ∙ found.1,
          found.2,
        )

-- what is among the first ones is among all
among_first : (m k : ℕ) (all : List Row) → is_one_of (minor_ones (take m all)) k ≡ true
    → is_one_of (minor_ones all) k ≡ true
among_first m k all among =
    subst (λ (rs : List Row). is_one_of (minor_ones rs) k ≡ true) (take-append-drop m all)
    (ap (λ (ns : List ℕ). is_one_of ns k) (minor_ones-append (take m all) (drop m all))
    ∙ is_one_of-append (minor_ones (take m all)) (minor_ones (drop m all)) k
    ∙ ap (λ b. b || is_one_of (minor_ones (drop m all)) k) among)

-- the earlier ones are below the greatest number
early_below : (copies : List (ℕ × Copy)) (k : ℕ) → is_sorted nat_cmp copies ≡ true
    → is_one_of (minor_ones (earlier_rows (map copy_row copies))) k ≡ true → k < top copies
early_below [] k sorted among = absurd (true≢false (sym among))
early_below (c ∷ []) k sorted among =
    absurd (true≢false (sym among ∙ ap (λ m. is_one_of (minor_ones (take m (copy_row c ∷ []))) k) (count c)))
  where
    count : (d : ℕ × Copy) → length (copy_row d ∷ []) - 1 ≡ 0
    count d = omega arith
early_below (c ∷ d ∷ copies) k sorted among =
    let parts = and_parts (below_all nat_cmp c.0 (d ∷ copies)) (is_sorted nat_cmp (d ∷ copies)) sorted in
    let less : c.0 < d.0 =
    before-lt c.0 d.0 (and_parts (is_lt (nat_cmp c.0 d.0)) (below_all nat_cmp c.0 copies) parts.0).0 in
    let rest = early_below (d ∷ copies) k parts.1 in
    elim (is_plain_minor (copy_row c)) as (λ b.
    is_one_of (map number_of (cond b (copy_row c ∷ minors) minors)) k ≡ true → k < top (c ∷ d ∷ copies)) [
      | true ↦ λ found.
          elim (k == c.0) as (λ t.
          (k == c.0) ≡ t → (t || is_one_of (map number_of minors) k) ≡ true → k < top (c ∷ d ∷ copies)) [
            | true ↦ λ here _. let same : k ≡ c.0 = eqb-true k c.0 here in omega arith
            | false ↦ λ _ later. let low = rest later in omega arith
          ] refl found
      | false ↦ λ later. let low = rest later in omega arith
    ] (ap (λ m. is_one_of (minor_ones (take m (map copy_row (c ∷ d ∷ copies)))) k) one_more ∙ among)
  where
    more : List Row
    more = map copy_row (d ∷ copies)

    minors : List Row
    minors = filter is_plain_minor (take (length more - 1) more)

    one_more : suc (length more - 1) ≡ length (copy_row c ∷ more) - 1
    one_more = omega arith

minor_may_go : (w : World) → IsWorld w → AllMayGo w (minor_ones (earlier_rows (rows w)))
minor_may_go w world n among =
    let found =
    among_minor w.copies n world.numbers_rise (among_first (length (rows w) - 1) n (rows w) among) in
    let low : n < latest w = early_below w.copies n world.numbers_rise among in
    record {
      copy = found.0;
      kept = found.1;
      plain = not-true (is_snapshot found.0.mode)
          (and_parts (not (is_snapshot found.0.mode)) found.0.minor found.2).0;
      earlier = ne_eqb n (latest w) (λ same. omega arith);
    }

pub minor_removals_only_tidy : MinorRemovalsOnlyTidy
minor_removals_only_tidy moment old new world removes =
    subst (OnlyTidies moment old) (sym removes) (record {
      keeps = λ n copy at own. found n ∙ ap (λ b. cond b None (copy_at old n)) (not_among n copy at own) ∙ at;
      news = λ n copy at. inl (there n copy (is_one_of gone n) (sym (found n) ∙ at));
      numbers = omega (arith, last);
      later = omega (arith, stamp);
      stamp = omega (arith, stamp);
      tree = refl;
      dirty = refl;
      mounts = refl;
    })
  where
    gone : List ℕ
    gone = minor_ones (earlier_rows (rows old))

    found : (n : ℕ) → copy_at (take_out gone old) n ≡ cond (is_one_of gone n) None (copy_at old n)
    found n = copy_at-take_out old gone n

    last : latest (take_out gone old) ≡ latest old
    last = same_latest old gone world.latest_kept (minor_may_go old world)

    stamp : latest_stamp (take_out gone old) ≡ latest_stamp old
    stamp = ap stamp_of (latest-take_out old gone world.latest_kept (minor_may_go old world))

    there : (n : ℕ) (copy : Copy) (b : Bool) → cond b None (copy_at old n) ≡ Some copy → copy_at old n ≡ Some copy
    there n copy true none = absurd (true≢false (sym (ap is_some none)))
    there n copy false at = at

    not_among : (n : ℕ) (copy : Copy) → copy_at old n ≡ Some copy → is_plain_minor_copy copy ≡ false
        → is_one_of gone n ≡ false
    not_among n copy at own =
        not_true (is_one_of gone n) (λ among.
        let minor =
        among_minor old.copies n world.numbers_rise (among_first (length (rows old) - 1) n (rows old) among) in
        let same : copy ≡ minor.0 = same_Some copy minor.0 (sym at ∙ minor.1) in
        true≢false (sym minor.2 ∙ sym (ap is_plain_minor_copy same) ∙ own))
