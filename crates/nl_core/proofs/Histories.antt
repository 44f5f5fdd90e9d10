-- What a mount shows along a history.
use Rattle.std.proofs.Common.{◌≡◌, ◌≢◌, ℕ, Bool, true, false, cond, eqb, List, [], ◌∷◌, ◌++◌, Option, Some, None, refl, ap, sym, ◌∙◌}
use Rattle.std.specs.Prelude.{fold, map, not}
use Rattle.std.specs.List.{filter}
use Rattle.std.specs.Ordering.{eq_by_cmp, nat_cmp}
use Rattle.std.specs.FinMap.{find}
use Rattle.std.proofs.lemmas.Bool.{eqb-true, ne_eqb}
use Rattle.nl_types.specs.Blocks.Entries.{Place}
use Rattle.nl_types.specs.Blocks.Roots.{Pages}
use Rattle.nl_cpfile.specs.declared.checkpoint.Checkpoint.{Checkpoint}
use Rattle.nl_cpfile.specs.Facts.Found.{eq_by_cmp-nat_cmp}
use Rattle.nl_commit.specs.Commits.{IsNew, KeepsCheckpoint, MountsStillShow, applied}
use Rattle.nl_commit.specs.Shown.{Shown, mounted_on, pages_shown}
use Rattle.nl_commit.specs.Volume.{is_other_mount, mount_of}
use Rattle.nl_commit.specs.declared.commit.Commit.{Commit}
use Rattle.nl_commit.specs.declared.commit.Commit.TheVariants as commit
use Rattle.nl_commit.specs.declared.mounts.Mounted.{Mounted}

-- ---- a checkpoint that is kept on

keeps-same : (pages : Pages) (c : Checkpoint) → KeepsCheckpoint pages pages c c
keeps-same pages c = record { root = refl; places = refl; pages = λ q v at. refl; trees = λ t means. means }

keeps-on : (first next last : Pages) (c d e : Checkpoint) → KeepsCheckpoint first next c d
    → KeepsCheckpoint next last d e
    → KeepsCheckpoint first last c e
keeps-on first next last c d e one two = record {
  root = two.root ∙ one.root;
  places = two.places ∙ one.places;
  pages = λ q v at. two.pages q v (ap (λ (f : Place → Option ℕ). f q) one.places ∙ at) ∙ one.pages q v at;
  trees = λ t means. two.trees t (one.trees t means);
}

-- ---- a mount that isn't given back

abbrev shown_by : ℕ → List Mounted → Option ℕ
shown_by m mounts = find nat_cmp m (map mount_of mounts)

-- another mount comes
shown-more : (m n : ℕ) (mounts : List Mounted) (more : Mounted) → shown_by m mounts ≡ Some n
    → shown_by m (mounts ++ more ∷ []) ≡ Some n
shown-more m n [] more is = let no : ◌≡◌ {A = Option ℕ} None (Some n) = is in cc
shown-more m n (k ∷ mounts) more is =
    elim (eq_by_cmp nat_cmp m k.number)
    as (λ b. cond b (Some k.checkpoint) (shown_by m mounts) ≡ Some n
    → cond b (Some k.checkpoint) (shown_by m (mounts ++ more ∷ [])) ≡ Some n) [
      | true ↦ λ e. e
      | false ↦ λ e. shown-more m n mounts more e
    ] is

-- another one goes
shown-without : (m n other : ℕ) (mounts : List Mounted) → other ≢ m → shown_by m mounts ≡ Some n
    → shown_by m (filter (is_other_mount other) mounts) ≡ Some n
shown-without m n other [] apart is = let no : ◌≡◌ {A = Option ℕ} None (Some n) = is in cc
shown-without m n other (k ∷ mounts) apart is =
    by (eqb k.number other) refl (shown-without m n other mounts apart)
  where
    left : List Mounted
    left = filter (is_other_mount other) mounts

    -- where the one that goes comes first, it isn't the one that is looked for
    passed : k.number ≡ other → shown_by m (k ∷ mounts) ≡ shown_by m mounts
    passed same =
        ap (λ b. cond b (Some k.checkpoint) (shown_by m mounts))
        (eq_by_cmp-nat_cmp m k.number ∙ ne_eqb k.number m (λ here. apart (sym same ∙ here)))

    by : (b : Bool) → eqb k.number other ≡ b → (shown_by m mounts ≡ Some n → shown_by m left ≡ Some n)
        → shown_by m (filter (is_other_mount other) (k ∷ mounts)) ≡ Some n
    by true goes rest =
        ap (λ b. shown_by m (cond (not b) (k ∷ left) left)) goes
        ∙ rest (sym (passed (eqb-true k.number other goes)) ∙ is)
    by false stays rest =
        ap (λ b. shown_by m (cond (not b) (k ∷ left) left)) stays
        ∙ elim (eq_by_cmp nat_cmp m k.number)
        as (λ b.
        cond b (Some k.checkpoint) (shown_by m mounts) ≡ Some n
        → cond b (Some k.checkpoint) (shown_by m left) ≡ Some n) [
          | true ↦ λ e. e
          | false ↦ rest
        ] is

stays-mounted : (x : Shown) (c : Commit) (m n : ℕ) → IsNew x c → c ≢ commit.GivenBack m
    → mounted_on x m ≡ Some n
    → mounted_on (applied x c) m ≡ Some n
stays-mounted x (commit.Whole w) m n new apart is = absurd new
stays-mounted x (commit.Written w) m n new apart is = is
stays-mounted x (commit.ModeSet k mode) m n new apart is = is
stays-mounted x (commit.Removed k) m n new apart is = is
stays-mounted x (commit.RangeRemoved first last) m n new apart is = is
stays-mounted x (commit.Mounted mount) m n new apart is = shown-more m n x.mounts mount is
stays-mounted x (commit.GivenBack k) m n new apart is =
    shown-without m n k x.mounts (λ same. apart (ap (λ j. commit.GivenBack j) same)) is
stays-mounted x (commit.Freed gone) m n new apart is = is
stays-mounted x (commit.Resized segments blocks) m n new apart is = is

-- ---- along a history

pub mounts_still_show : MountsStillShow
mounts_still_show x [] m n c image next is kept apart =
    let snapshot = image.mounted m n is in
    let both : Some snapshot.0 ≡ Some c = sym snapshot.1 ∙ kept in
    let one : snapshot.0 ≡ c = cc in
    record {
      mounted = is;
      now = c;
      kept = kept;
      snapshot = sym (ap (λ (k : Checkpoint). k.mode) one) ∙ snapshot.2;
      keeps = keeps-same (pages_shown x) c;
    }
mounts_still_show x (k ∷ commits) m n c image next is kept apart =
    let y = applied x k in
    let stays = stays-mounted x k m n next.0.new apart.0 is in
    let there = next.0.state.mounted m n stays in
    let later = mounts_still_show y commits m n there.0 next.0.state next.1 stays there.1 apart.1 in
    record {
      mounted = later.mounted;
      now = later.now;
      kept = later.kept;
      snapshot = later.snapshot;
      keeps =
          keeps-on (pages_shown x) (pages_shown y) (pages_shown (fold applied y commits)) c there.0 later.now
          (next.0.keeps n c there.0 kept there.1) later.keeps;
    }
