-- What a change of a mode, a removal and an unmount leave, where they are not refused.
use Rattle.std.proofs.Common.{◌≡◌, ℕ, Bool, true, false, cond, ◌&&◌, ◌||◌, not, List, [], ◌∷◌, map, Option, Some, None, Ok, refl, sym, ap, ◌∙◌, subst, true≢false, is_some, is_ok, eq-eqb}
use Rattle.std.specs.Prelude.{◌==◌, IfOk}
use Rattle.std.specs.List.{filter}
use Rattle.std.specs.Option.{option_map, option_map_or}
use Rattle.std.proofs.lemmas.Bool.{and_parts, or_left}
use Rattle.std.specs.Ordering.{nat_cmp}
use Rattle.std.specs.FinMap.{find, is_sorted}
use Rattle.nl_types.specs.declared.error.VolError.TheVariants as error
use Rattle.nl_types.specs.declared.event.Event.{Event}
use Rattle.nl_types.specs.declared.event.Event.TheVariants as event
use Rattle.nl_types.specs.declared.event.Mode.{Mode}
use Rattle.nl_types.specs.declared.reply.Answer.TheVariants as answer
use Rattle.nl_types.specs.declared.row.Range.{Range}
use Rattle.nl_types.specs.Plain.NumberLists.{is_one_of, NoneTwice}
use Rattle.nl_types.specs.Plain.Rows.{kept_row, removal, range_removal}
use Rattle.nl_types.specs.Plain.Worlds.{World, Copy, Reply, Outcome, copy_at, latest, rows, moded, copies_without, is_given_up, is_mounted, take_out, either, change_mode, remove, remove_range, mounted, unmount, step}
use Rattle.nl_types.specs.Plain.Runs.{Run}
use Rattle.nl_types.specs.Plain.CheckpointLaws.{where_passes, is_removable, ModesAreSet, RemovalsTakeOne, RangesTakeRemovable, RangesAnswerRemovable, RangesAreRemovals, UnmountsTakeOne}
use Rattle.nl_types.specs.Facts.Booleans.{not_true, or_right}
use Rattle.nl_types.specs.Facts.NumberedParts.{find-kept, find-valued, is_one_of-find, find_below, is_sorted-filter}
use Rattle.nl_types.specs.Facts.ToldCopies.{IsTold, kept_row-told, may_go-removal, range_of, range_removal-is}
use Rattle.nl_types.specs.Facts.TakenOut.{AllMayGo, among_one, copy_at-take_out, turned, same_latest, latest-take_out, goes, removable-goes, among-range, range_may_go}
use Rattle.nl_types.specs.Facts.EventCases.{either_gives, refused_if_gives, after_mode}

-- ---- modes

mode-set : (w : World) (n : ℕ) (mode : Mode) (copy : Copy) → copy_at w n ≡ Some copy
    → option_map (λ (c : Copy). c.mode) (copy_at (after_mode w n mode) n) ≡ Some mode
mode-set w n mode copy kept =
    ap (option_map (λ (c : Copy). c.mode))
    (find-valued (moded n mode) w.copies n ∙ ap (option_map (moded n mode n)) kept)
    ∙ ap (λ b. Some (let c : Copy = cond b (record copy { mode = mode }) copy in c.mode)) (eq-eqb n n refl)

pub modes_are_set : ModesAreSet
modes_are_set cleaned old new n mode answer is = subst Set is done
  where
    Set : Outcome → Type 0
    Set outcome = IfOk outcome.0 (λ _. option_map (λ (c : Copy). c.mode) (copy_at outcome.1 n) ≡ Some mode)

    done : Set (change_mode old n mode)
    done = either_gives Set old (kept_row n (rows old)) _ (λ _. tt) (λ row found.
        refused_if_gives Set (is_given_up row.mode mode && is_mounted old.mounts n) error.Mounted old _
        (λ _. tt) (λ _.
        let told : IsTold old n row = subst (λ r. IfOk r (IsTold old n)) found (kept_row-told old n) in
        mode-set old n mode told.copy told.kept))

-- ---- one removal

or_none : (b : Bool) → (b || false) ≡ b
or_none true = refl
or_none false = refl

pub removals_take_one : RemovalsTakeOne
removals_take_one cleaned old new n answer is = subst TakesOne is done
  where
    TakesOne : Outcome → Type 0
    TakesOne outcome =
        IfOk outcome.0 (λ _. (k : ℕ) → copy_at outcome.1 k ≡ cond (k == n) None (copy_at old k))

    done : TakesOne (remove old n)
    done = either_gives TakesOne old (removal n (latest old) (rows old)) _ (λ _. tt) (λ _ _ k.
        copy_at-take_out old (n ∷ []) k ∙ ap (λ b. cond b None (copy_at old k)) (or_none (k == n)))

-- ---- one unmount

pub unmounts_take_one : UnmountsTakeOne
unmounts_take_one cleaned old new m answer is = subst TakesOne is done
  where
    TakesOne : Outcome → Type 0
    TakesOne outcome =
        IfOk outcome.0
        (λ _. (k : ℕ) → find nat_cmp k outcome.1.mounts ≡ cond (k == m) None (find nat_cmp k old.mounts))

    done : TakesOne (unmount old m)
    done = either_gives TakesOne old (mounted old m) _ (λ _. tt) (λ _ _ k.
        find-kept (λ j. not (j == m)) old.mounts k ∙ turned (k == m) (find nat_cmp k old.mounts) None)

-- ---- a range

-- what the removal of a range answers, and the world after it
record IsRangeDone (w : World) (first last : ℕ) (range : Range) (after : World) : Type 0 where
  pub answered : range ≡ range_of w first last
  pub left : after ≡ take_out (range_of w first last).removed w

range_done : (cleaned : Reply) (old new : World) (first last : ℕ) (range : Range)
    → step cleaned old (event.RemoveRange first last) ≡ (Ok (answer.Removed range), new)
    → IsRangeDone old first last range new
range_done cleaned old new first last range is = subst IsDone is done range refl
  where
    IsDone : Outcome → Type 0
    IsDone outcome = (g : Range) → outcome.0 ≡ Ok (answer.Removed g) → IsRangeDone old first last g outcome.1

    judged : (found g : Range) → range_removal first last (latest old) (rows old) ≡ Ok found
        → ◌≡◌ {A = Reply} (Ok (answer.Removed found)) (Ok (answer.Removed g))
        → IsRangeDone old first last g (take_out found.removed old)
    judged found g fits same =
        let first_is : found ≡ range_of old first last =
        subst (λ r. IfOk r (λ h. h ≡ range_of old first last)) fits (range_removal-is old first last) in
        let one : found ≡ g = cc in
        record { answered = sym one ∙ first_is; left = ap (λ (h : Range). take_out h.removed old) first_is }

    done : IsDone (remove_range old first last)
    done = either_gives IsDone old (range_removal first last (latest old) (rows old)) _
        (λ e g no. absurd (true≢false (sym (ap is_ok no)))) (λ found fits g. judged found g fits)

pub ranges_answer_removable : RangesAnswerRemovable
ranges_answer_removable cleaned old new first last range world is n =
    let done = range_done cleaned old new first last range is in
    ap (λ (g : Range). is_one_of g.removed n) done.answered ∙ among-range old first last n world.numbers_rise

pub ranges_take_removable : RangesTakeRemovable
ranges_take_removable cleaned old new first last range world is n =
    let done = range_done cleaned old new first last range is in
    ap (λ (w : World). copy_at w n) done.left ∙ copy_at-take_out old (range_of old first last).removed n
    ∙ ap (λ b. cond b None (copy_at old n)) (among-range old first last n world.numbers_rise)
    ∙ by (copy_at old n)
  where
    by : (o : Option Copy)
        → cond (option_map_or (is_removable old first last n) o false) None o
        ≡ where_passes (λ copy. not (is_removable old first last n copy)) o
    by None = refl
    by (Some copy) =
        elim (is_removable old first last n copy) as (λ b.
        cond b None (Some copy) ≡ cond (not b) (Some copy) None)
        [ true ↦ refl | false ↦ refl ]

-- ---- a range is one removal after another

once-sorted : {X : Type 0} (es : List (ℕ × X)) → is_sorted nat_cmp es ≡ true → NoneTwice (map (λ e. e.0) es)
once-sorted [] sorted = tt
once-sorted (e ∷ es) sorted =
    let parts = and_parts _ (is_sorted nat_cmp es) sorted in
    (is_one_of-find es e.0 ∙ ap is_some (find_below es e.0 parts.0), once-sorted es parts.1)

-- copies are taken out one after another
without-more : (n : ℕ) (ns : List ℕ) (copies : List (ℕ × Copy))
    → copies_without ns (copies_without (n ∷ []) copies) ≡ copies_without (n ∷ ns) copies
without-more n ns [] = refl
without-more n ns (c ∷ copies) =
    let rest = without-more n ns copies in
    elim (c.0 == n) as (λ b.
    copies_without ns
    (cond (not (b || false)) (c ∷ copies_without (n ∷ []) copies) (copies_without (n ∷ []) copies))
    ≡ cond (not (b || is_one_of ns c.0)) (c ∷ copies_without (n ∷ ns) copies)
    (copies_without (n ∷ ns) copies)) [
      | true ↦ rest
      | false ↦ ap (λ (xs : List (ℕ × Copy)). cond (not (is_one_of ns c.0)) (c ∷ xs) xs) rest
    ]

without-none : (copies : List (ℕ × Copy)) → copies_without [] copies ≡ copies
without-none [] = refl
without-none (c ∷ copies) = ap (λ (xs : List (ℕ × Copy)). c ∷ xs) (without-none copies)

abbrev StepsTo : Reply → World → Event → Reply → World → Type 0
StepsTo cleaned before asked reply after = step cleaned before asked ≡ (reply, after)

-- a copy that may go may still go once another one has gone
may_go-later : (w : World) (n : ℕ) (ns : List ℕ) → is_some (copy_at w (latest w)) ≡ true → AllMayGo w (n ∷ ns)
    → is_one_of ns n ≡ false → AllMayGo (take_out (n ∷ []) w) ns
may_go-later w n ns kept may once m among =
    let here = may m (or_right (m == n) among) in
    let one : AllMayGo w (n ∷ []) = λ k is.
    may k (or_left (k == n) (is_one_of ns k) (sym (or_none (k == n)) ∙ is)) in
    record {
      copy = here.copy;
      kept =
          copy_at-take_out w (n ∷ []) m
          ∙ ap (λ b. cond b None (copy_at w m)) (not_true (is_one_of (n ∷ []) m) apart) ∙ here.kept;
      plain = here.plain;
      earlier = ap (λ l. m == l) (same_latest w (n ∷ []) kept one) ∙ here.earlier;
    }
  where
    apart : is_one_of (n ∷ []) m ≡ true → ⊥
    apart is = true≢false (sym among ∙ ap (is_one_of ns) (sym (among_one n m is)) ∙ once)

removals_run : (cleaned : Reply) (gone : List ℕ) (w : World) → is_some (copy_at w (latest w)) ≡ true
    → AllMayGo w gone → NoneTwice gone
    → Run (StepsTo cleaned) w (map event.Remove gone) (map (λ _. Ok answer.Done) gone) (take_out gone w)
removals_run cleaned [] w kept may once =
    ap (λ (copies : List (ℕ × Copy)). (let v : World = record w { copies = copies } in v))
    (without-none w.copies)
removals_run cleaned (n ∷ ns) w kept may once =
    let mid = take_out (n ∷ []) w in
    let one : AllMayGo w (n ∷ []) = λ k is.
    may k (or_left (k == n) (is_one_of ns k) (sym (or_none (k == n)) ∙ is)) in
    let first : StepsTo cleaned w (event.Remove n) (Ok answer.Done) mid =
    ap (λ r. either w r (λ _. (Ok answer.Done, take_out (n ∷ []) w)))
    (may_go-removal w n (may n (or_left (n == n) (is_one_of ns n) (eq-eqb n n refl)))) in
    let later =
    removals_run cleaned ns mid (ap is_some (latest-take_out w (n ∷ []) kept one) ∙ kept)
    (may_go-later w n ns kept may once.0) once.1 in (
      mid,
      first,
      subst (λ (v : World). Run (StepsTo cleaned) mid (map event.Remove ns) (map (λ _. Ok answer.Done) ns) v)
          (ap (λ (copies : List (ℕ × Copy)). (let v : World = record w { copies = copies } in v))
          (without-more n ns w.copies))
          later,
    )

pub ranges_are_removals : RangesAreRemovals
ranges_are_removals cleaned old new first last range world is =
    let done = range_done cleaned old new first last range is in
    let gone = (range_of old first last).removed in
    let run =
    removals_run cleaned gone old world.latest_kept
    (range_may_go old first last world.numbers_rise) answered_once in
    subst (λ (g : Range).
    Run (StepsTo cleaned) old (map event.Remove g.removed) (map (λ _. Ok answer.Done) g.removed) new)
    (sym done.answered)
    (subst
    (λ (v : World). Run (StepsTo cleaned) old (map event.Remove gone) (map (λ _. Ok answer.Done) gone) v)
    (sym done.left) run)
  where
    answered_once : NoneTwice (range_of old first last).removed
    answered_once =
        subst NoneTwice (sym (removable-goes (latest old) first last old.copies))
        (once-sorted (filter (λ (c : ℕ × Copy). goes (latest old) first last c.0 c.1) old.copies)
        (is_sorted-filter (λ c. goes (latest old) first last c.0 c.1) old.copies world.numbers_rise))
