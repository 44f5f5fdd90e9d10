-- What mounts and unmounts answer.
use Rattle.std.proofs.Common.{◌≡◌, ℕ, ◌+◌, Bool, true, false, [], ◌∷◌, ◌++◌, Option, Some, None, refl, ap, sym, ◌∙◌, inl, inr}
use Rattle.std.specs.Prelude.{Ok, Err, Result, map, nat_le, not}
use Rattle.std.specs.Option.{ok_or}
use Rattle.std.specs.Ordering.{nat_cmp}
use Rattle.std.specs.FinMap.{find}
use Rattle.nl_types.specs.declared.error.VolError.{VolError}
use Rattle.nl_types.specs.declared.error.VolError.TheVariants as error
use Rattle.nl_types.specs.declared.event.Event.TheVariants as event
use Rattle.nl_types.specs.declared.reply.Answer.{Answer}
use Rattle.nl_types.specs.declared.reply.Answer.TheVariants as answer
use Rattle.nl_types.specs.Plain.Limits.{mount_number_limit}
use Rattle.nl_types.specs.Plain.Rows.{is_snapshot}
use Rattle.nl_types.specs.Plain.Worlds.{Copy, Outcome, Reply, World, either, kept_copy, mounts_without, refused_if}
use Rattle.nl_commit.specs.Layout.{AllowedBetween, Does, IsPen, Layout, cleaned, layout_pages}
use Rattle.nl_commit.specs.Means.{StepsWorld}
use Rattle.nl_commit.specs.Notes.{shown_of}
use Rattle.nl_commit.specs.Shown.{mounted_on}
use Rattle.nl_commit.specs.Volume.{mount_of}

-- ---- a mount

module _ (allowed : AllowedBetween) (old new : Layout) (n : ℕ) (a : Answer) (pen : IsPen old)
    (does : Does allowed old (event.Mount n) (Ok a) new) where
  abbrev before : World
  before = pen.world.0

  abbrev then : StepsWorld (allowed old new) (cleaned old (event.Mount n)) before (event.Mount n) (Ok a)
      (layout_pages new) new.lists
  then = does.follows before pen.world.1

  passed : (b : Bool) (e : VolError) (o : Outcome) → refused_if b e before o ≡ (Ok a, then.after)
      → o ≡ (Ok a, then.after)
  passed true e o is = let no : ◌≡◌ {A = Reply} (Err e) (Ok a) = ap (λ (o : Outcome). o.0) is in cc
  passed false e o is = is

  -- what a mount comes to, once it is known what is kept
  abbrev mounting : Result Copy VolError → Outcome
  mounting kept_copy = either before kept_copy (λ copy.
      refused_if (not (is_snapshot copy.mode)) error.NotSnapshot before (
      refused_if (nat_le mount_number_limit (before.given + 1)) error.NumbersSpent before ((
        Ok (answer.Mount (before.given + 1)),
        record before {
          mounts = before.mounts ++ (before.given + 1, n) ∷ [];
          given = before.given + 1;
        },
      ))))

  answer-of : (kept_copy : Result Copy VolError) → mounting kept_copy ≡ (Ok a, then.after)
      → a ≡ answer.Mount (before.given + 1)
  answer-of (Err e) is = let no : ◌≡◌ {A = Reply} (Err e) (Ok a) = ap (λ (o : Outcome). o.0) is in cc
  answer-of (Ok copy) is =
      let numbered = passed (not (is_snapshot copy.mode)) error.NotSnapshot _ is in
      let mounted = passed (nat_le mount_number_limit (before.given + 1)) error.NumbersSpent _ numbered in
      let same : ◌≡◌ {A = Reply} (Ok (answer.Mount (before.given + 1))) (Ok a) =
      ap (λ (o : Outcome). o.0) mounted in
      cc

  -- a mount answers the next number
  pub answers-mount : a ≡ answer.Mount (old.lists.given + 1)
  answers-mount = elim then.step [
    | inl is ↦ answer-of (kept_copy before n) is ∙ ap (λ (m : ℕ). answer.Mount (m + 1)) pen.world.1.given
    | inr refused ↦ let no : ◌≡◌ {A = Reply} (Ok a) (Err refused.error) = refused.reply_is in cc
  ]

-- ---- an unmount

module _ (allowed : AllowedBetween) (old new : Layout) (m : ℕ) (a : Answer) (pen : IsPen old)
    (does : Does allowed old (event.Unmount m) (Ok a) new) where
  abbrev w : World
  w = pen.world.0

  abbrev next : StepsWorld (allowed old new) (cleaned old (event.Unmount m)) w (event.Unmount m) (Ok a)
      (layout_pages new) new.lists
  next = does.follows w pen.world.1

  -- what the unmount does, once it is known what is mounted
  abbrev outcome : Option ℕ → Outcome
  outcome o =
      either w (ok_or o error.BadMount)
      (λ _. (Ok answer.Done, record w { mounts = mounts_without m w.mounts }))

  found-there : (o : Option ℕ) → find nat_cmp m (map mount_of old.lists.mounts) ≡ o
      → outcome o ≡ (Ok a, next.after)
      → (n : ℕ) × (find nat_cmp m (map mount_of old.lists.mounts) ≡ Some n)
  found-there (Some n) at is = (n, at)
  found-there None at is =
      let no : ◌≡◌ {A = Reply} (Err error.BadMount) (Ok a) = ap (λ (o : Outcome). o.0) is in cc

  -- a mount that is given back was there
  pub mounted-before : (n : ℕ) × (mounted_on (shown_of old) m ≡ Some n)
  mounted-before = elim next.step [
    | inl is ↦
        found-there (find nat_cmp m (map mount_of old.lists.mounts)) refl
        (ap outcome (ap (find nat_cmp m) (sym pen.world.1.mounts)) ∙ is)
    | inr refused ↦ let no : ◌≡◌ {A = Reply} (Ok a) (Err refused.error) = refused.reply_is in cc
  ]
