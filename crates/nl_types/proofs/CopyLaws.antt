-- What each event does to copies and to mounts.
use Rattle.std.proofs.Common.{◌≡◌, ◌≢◌, ◌⊎◌, ℕ, ◌+◌, ◌<◌, ◌≤◌, true, false, cond, not, List, [], ◌∷◌, ◌++◌, Some, None, Ok, refl, sym, ap, ◌∙◌, subst, true≢false, arith, is_some, eqb-true, inl, inr}
use Rattle.std.specs.Prelude.{◌==◌, IfOk}
use Rattle.std.specs.Option.{option_map}
use Rattle.std.proofs.lemmas.Option.{same_Some}
use Rattle.std.specs.Ordering.{nat_cmp}
use Rattle.std.specs.FinMap.{find}
use Rattle.nl_types.specs.declared.event.Event.{Event}
use Rattle.nl_types.specs.declared.event.Event.TheVariants as event
use Rattle.nl_types.specs.declared.event.Mode.{Mode}
use Rattle.nl_types.specs.declared.reply.Answer.TheVariants as answer
use Rattle.nl_types.specs.Plain.NumberLists.{is_one_of}
use Rattle.nl_types.specs.Plain.Worlds.{World, Copy, Reply, Outcome, copy_at, expiry_of, latest, minor_copies, moded, take_out}
use Rattle.nl_types.specs.Plain.Laws.{TakesOut, ChangesMode, GivesBack, CopiesStay, ModesStay, CopiesAreKept, MountsStay, MountNumbersAreNew, GivenNeverFalls}
use Rattle.nl_types.specs.Facts.ChangeLaws.{IsNoMount, change_gives_no_mount}
use Rattle.nl_types.specs.Facts.NumberedLists.{find_stays}
use Rattle.nl_types.specs.Facts.NumberedParts.{find-kept, find-valued}
use Rattle.nl_types.specs.Facts.ToldCopies.{range_of}
use Rattle.nl_types.specs.Facts.TakenOut.{among_one, copy_at-take_out}
use Rattle.nl_types.specs.Facts.WorldLaws.{tree-moded, stamp-moded, minor-moded}
use Rattle.nl_types.specs.Facts.EventCases.{EachEvent, step_gives, after_change, new_copy, after_mode, after_unmount}

-- ---- copies

module _ (cleaned : Reply) (w : World) (n : ℕ) (before : Copy) (was : copy_at w n ≡ Some before) where
  -- the copy once another one is given a mode, or it
  found-moded : (k : ℕ) (mode : Mode) → copy_at (after_mode w k mode) n ≡ Some (moded k mode n before)
  found-moded k mode = find-valued (moded k mode) w.copies n ∙ ap (option_map (moded k mode n)) was

  found-copied : (mode : Mode) (now : ℕ)
      → find nat_cmp n (w.copies ++ (latest w + 1, new_copy w mode now) ∷ []) ≡ Some before
  found-copied mode now = find_stays w.copies ((latest w + 1, new_copy w mode now) ∷ []) n before was

  found-minored : (now : ℕ) → find nat_cmp n (w.copies ++ minor_copies w now) ≡ Some before
  found-minored now = find_stays w.copies (minor_copies w now) n before was

  -- what stays once some are taken out
  found-left : (gone : List ℕ) (now : Copy) → copy_at (take_out gone w) n ≡ Some now → now ≡ before
  found-left gone now is =
      elim (is_one_of gone n) as (λ b. cond b None (copy_at w n) ≡ Some now → now ≡ before) [
        | true ↦ λ none. absurd (true≢false (sym (ap is_some none)))
        | false ↦ λ there. same_Some now before (sym there ∙ was)
      ] (sym (copy_at-take_out w gone n) ∙ is)

  -- ---- trees, stamps and flags

  abbrev IsAlike : Event → Outcome → Type 0
  IsAlike asked done =
      (now : Copy) → copy_at done.1 n ≡ Some now
      → (now.tree ≡ before.tree) × (now.stamp ≡ before.stamp) × (now.minor ≡ before.minor)

  alike : (now : Copy) → now ≡ before
      → (now.tree ≡ before.tree) × (now.stamp ≡ before.stamp) × (now.minor ≡ before.minor)
  alike now same =
      (ap (λ (c : Copy). c.tree) same, ap (λ (c : Copy). c.stamp) same, ap (λ (c : Copy). c.minor) same)

  alike-moded : (k : ℕ) (mode : Mode) (now : Copy) → now ≡ moded k mode n before
      → (now.tree ≡ before.tree) × (now.stamp ≡ before.stamp) × (now.minor ≡ before.minor)
  alike-moded k mode now same = (
    ap (λ (c : Copy). c.tree) same ∙ tree-moded k mode n before,
    ap (λ (c : Copy). c.stamp) same ∙ stamp-moded k mode n before,
    ap (λ (c : Copy). c.minor) same ∙ minor-moded k mode n before,
  )

  pub each_is_alike : EachEvent cleaned IsAlike w
  each_is_alike = record {
    stays = λ _ _ _ now is. alike now (same_Some now before (sym is ∙ was));
    cleans = λ _ now is. alike now (same_Some now before (sym is ∙ was));
    changed = λ _ _ _ now is. alike now (same_Some now before (sym is ∙ was));
    copied = λ mode moment _ now is. alike now (same_Some now before (sym is ∙ found-copied mode moment));
    minored = λ _ _ moment _ now is. alike now (same_Some now before (sym is ∙ found-minored moment));
    moded = λ k mode _ now is.
        alike-moded k mode now (same_Some now (moded k mode n before) (sym is ∙ found-moded k mode));
    removed = λ k _ now is. alike now (found-left (k ∷ []) now is);
    ranged = λ first last now is. alike now (found-left (range_of w first last).removed now is);
    expired = λ moment period now is. alike now (found-left (expiry_of w moment period) now is);
    mounted = λ _ _ _ _ _ now is. alike now (same_Some now before (sym is ∙ was));
    unmounted = λ _ now is. alike now (same_Some now before (sym is ∙ was));
  }

  -- ---- modes

  abbrev HasMode : Event → Outcome → Type 0
  HasMode asked done =
      (now : Copy) → copy_at done.1 n ≡ Some now → (now.mode ≡ before.mode) ⊎ ChangesMode asked n now.mode

  same_mode : (asked : Event) (now : Copy) → now ≡ before
      → (now.mode ≡ before.mode) ⊎ ChangesMode asked n now.mode
  same_mode asked now same = inl (ap (λ (c : Copy). c.mode) same)

  mode-moded : (k : ℕ) (mode : Mode) (now : Copy) → copy_at (after_mode w k mode) n ≡ Some now
      → (now.mode ≡ before.mode) ⊎ ChangesMode (event.ChangeMode k mode) n now.mode
  mode-moded k mode now is =
      elim (n == k) as (λ b.
      (n == k) ≡ b → now ≡ cond b (record before { mode = mode }) before
      → (now.mode ≡ before.mode) ⊎ ((k ≡ n) × (now.mode ≡ mode))) [
        | true ↦ λ here same. inr (sym (eqb-true n k here), ap (λ (c : Copy). c.mode) same)
        | false ↦ λ _ same. inl (ap (λ (c : Copy). c.mode) same)
      ] refl (same_Some now (moded k mode n before) (sym is ∙ found-moded k mode))

  pub each_has_mode : EachEvent cleaned HasMode w
  each_has_mode = record {
    stays = λ asked _ _ now is. same_mode asked now (same_Some now before (sym is ∙ was));
    cleans = λ asked now is. same_mode asked now (same_Some now before (sym is ∙ was));
    changed = λ c _ _ now is. same_mode (event.Apply c) now (same_Some now before (sym is ∙ was));
    copied = λ mode moment _ now is.
        same_mode (event.Checkpoint mode moment) now
        (same_Some now before (sym is ∙ found-copied mode moment));
    minored = λ segment limit moment _ now is.
        same_mode (event.Move segment limit moment) now
        (same_Some now before (sym is ∙ found-minored moment));
    moded = λ k mode _ now is. mode-moded k mode now is;
    removed = λ k _ now is. same_mode (event.Remove k) now (found-left (k ∷ []) now is);
    ranged = λ first last now is.
        same_mode (event.RemoveRange first last) now (found-left (range_of w first last).removed now is);
    expired = λ moment period now is.
        same_mode (event.Expire moment period) now (found-left (expiry_of w moment period) now is);
    mounted = λ k _ _ _ _ now is. same_mode (event.Mount k) now (same_Some now before (sym is ∙ was));
    unmounted = λ m now is. same_mode (event.Unmount m) now (same_Some now before (sym is ∙ was));
  }

  -- ---- copies that are kept

  abbrev IsKept : Event → Outcome → Type 0
  IsKept asked done = (is_some (copy_at done.1 n) ≡ true) ⊎ TakesOut asked done.0 n

  -- a copy stays unless it is among those that go
  kept-unless : (gone : List ℕ) → (is_some (copy_at (take_out gone w) n) ≡ true) ⊎ (is_one_of gone n ≡ true)
  kept-unless gone =
      elim (is_one_of gone n) as (λ b.
      is_one_of gone n ≡ b → (is_some (copy_at (take_out gone w) n) ≡ true) ⊎ (is_one_of gone n ≡ true)) [
        | true ↦ λ goes. inr goes
        | false ↦
            λ left.
            inl (ap is_some (copy_at-take_out w gone n ∙ ap (λ b. cond b None (copy_at w n)) left ∙ was))
      ] refl

  removed_or_kept : (k : ℕ) → IsKept (event.Remove k) (Ok answer.Done, take_out (k ∷ []) w)
  removed_or_kept k = elim (kept-unless (k ∷ [])) [
    | inl kept ↦ inl kept
    | inr goes ↦ inr (among_one k n goes)
  ]

  pub each_is_kept : EachEvent cleaned IsKept w
  each_is_kept = record {
    stays = λ _ _ _. inl (ap is_some was);
    cleans = λ _. inl (ap is_some was);
    changed = λ _ _ _. inl (ap is_some was);
    copied = λ mode now _. inl (ap is_some (found-copied mode now));
    minored = λ _ _ now _. inl (ap is_some (found-minored now));
    moded = λ k mode _. inl (ap is_some (found-moded k mode));
    removed = λ k _. removed_or_kept k;
    ranged = λ first last. kept-unless (range_of w first last).removed;
    expired = λ now period. kept-unless (expiry_of w now period);
    mounted = λ _ _ _ _ _. inl (ap is_some was);
    unmounted = λ _. inl (ap is_some was);
  }

-- a copy kept before and after has the same tree and stamp, and is minor if it was
pub copies_stay : CopiesStay
copies_stay cleaned reply old new asked n before now is was kept =
    subst (IsAlike cleaned old n before was asked) is
    (step_gives cleaned (IsAlike cleaned old n before was) old
    (each_is_alike cleaned old n before was) asked)
    now kept

-- and the same mode, unless the event changes that
pub modes_stay : ModesStay
modes_stay cleaned reply old new asked n before now is was kept =
    subst (HasMode cleaned old n before was asked) is
    (step_gives cleaned (HasMode cleaned old n before was) old
    (each_has_mode cleaned old n before was) asked)
    now kept

-- it stays kept, unless the event takes it out
pub copies_are_kept : CopiesAreKept
copies_are_kept cleaned reply old new asked n copy is was =
    subst (IsKept cleaned old n copy was asked) is
    (step_gives cleaned (IsKept cleaned old n copy was) old (each_is_kept cleaned old n copy was) asked)

-- ---- mounts

module _ (cleaned : Reply) (w : World) (m n : ℕ) (was : find nat_cmp m w.mounts ≡ Some n) where
  abbrev IsMounted : Event → Outcome → Type 0
  IsMounted asked done = (find nat_cmp m done.1.mounts ≡ Some n) ⊎ GivesBack asked m

  unmounted_or_kept : (k : ℕ) → (find nat_cmp m (after_unmount w k).mounts ≡ Some n) ⊎ (k ≡ m)
  unmounted_or_kept k =
      let found = find-kept (λ j. not (j == k)) w.mounts m in
      elim (m == k) as (λ b. (m == k) ≡ b → (find nat_cmp m (after_unmount w k).mounts ≡ Some n) ⊎ (k ≡ m)) [
        | true ↦ λ same. inr (sym (eqb-true m k same))
        | false ↦ λ other. inl (found ∙ ap (λ b. cond (not b) (find nat_cmp m w.mounts) None) other ∙ was)
      ] refl

  each_is_mounted : EachEvent cleaned IsMounted w
  each_is_mounted = record {
    stays = λ _ _ _. inl was;
    cleans = λ _. inl was;
    minored = λ _ _ _ _. inl was;
    changed = λ _ _ _. inl was;
    copied = λ _ _ _. inl was;
    moded = λ _ _ _. inl was;
    removed = λ _ _. inl was;
    ranged = λ _ _. inl was;
    expired = λ _ _. inl was;
    mounted = λ k _ _ _ _. inl (find_stays w.mounts ((w.given + 1, k) ∷ []) m n was);
    unmounted = unmounted_or_kept;
  }

-- a mount shows the same checkpoint, until it is given back
pub mounts_stay : MountsStay
mounts_stay cleaned reply old new asked m n is was =
    subst (IsMounted cleaned old m n was asked) is
    (step_gives cleaned (IsMounted cleaned old m n was) old (each_is_mounted cleaned old m n was) asked)

-- where the mount is answered, it has a number above all that were given
abbrev GivesNew : ℕ → World → Event → Outcome → Type 0
GivesNew m w asked done = done.0 ≡ Ok (answer.Mount m) → (w.given < m) × (done.1.given ≡ m)

-- where no mount is answered, there is nothing to show
no_mount_is_new : (m : ℕ) (w : World) (asked : Event) (reply : Reply) (new : World) → IfOk reply IsNoMount
    → GivesNew m w asked (reply, new)
no_mount_is_new m w asked reply new none is = absurd (subst (λ r. IfOk r IsNoMount) is none)

each_is_new : (cleaned : Reply) (m : ℕ) → (cleaned ≢ Ok (answer.Mount m)) → (w : World)
    → EachEvent cleaned (GivesNew m w) w
each_is_new cleaned m other w = record {
  stays = λ asked reply none. no_mount_is_new m w asked reply w none;
  cleans = λ _ is. absurd (other is);
  minored = λ _ _ _ _ is. absurd (other is);
  changed = λ c done is.
      no_mount_is_new m w (event.Apply c) (Ok done.0) (after_change w c done.1)
      (subst (λ r. IfOk r (λ d. IsNoMount d.0)) is (change_gives_no_mount w.tree c));
  copied = λ _ _ _ is. absurd (subst (λ r. IfOk r IsNoMount) is tt);
  moded = λ _ _ _ is. absurd (subst (λ r. IfOk r IsNoMount) is tt);
  removed = λ _ _ is. absurd (subst (λ r. IfOk r IsNoMount) is tt);
  ranged = λ _ _ is. absurd (subst (λ r. IfOk r IsNoMount) is tt);
  expired = λ _ _ is. absurd (subst (λ r. IfOk r IsNoMount) is tt);
  mounted = λ _ _ _ _ _ is. let same : w.given + 1 ≡ m = cc in (omega arith, same);
  unmounted = λ _ is. absurd (subst (λ r. IfOk r IsNoMount) is tt);
}

-- a mount that is made has a number above all that were given
pub mount_numbers_are_new : MountNumbersAreNew
mount_numbers_are_new cleaned old new asked m other is =
    subst (GivesNew m old asked) is
    (step_gives cleaned (GivesNew m old) old (each_is_new cleaned m other old) asked) refl

each_gives_no_less : (cleaned : Reply) (w : World) → EachEvent cleaned (λ _ done. w.given ≤ done.1.given) w
each_gives_no_less cleaned w = record {
  stays = λ _ _ _. omega arith;
  cleans = λ _. omega arith;
  minored = λ _ _ _ _. omega arith;
  changed = λ _ _ _. omega arith;
  copied = λ _ _ _. omega arith;
  moded = λ _ _ _. omega arith;
  removed = λ _ _. omega arith;
  ranged = λ _ _. omega arith;
  expired = λ _ _. omega arith;
  mounted = λ _ _ _ _ _. omega arith;
  unmounted = λ _. omega arith;
}

-- the count of those that were given never falls
pub given_never_falls : GivenNeverFalls
given_never_falls cleaned reply old new asked is =
    subst (λ (done : Outcome). old.given ≤ done.1.given) is
    (step_gives cleaned (λ _ done. old.given ≤ done.1.given) old (each_gives_no_less cleaned old) asked)
