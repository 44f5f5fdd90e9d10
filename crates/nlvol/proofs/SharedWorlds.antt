-- Mounts that are held, beside the worlds that runs of a shared pen lead to.
use Rattle.std.proofs.Common.{◌≡◌, ℕ, ◌+◌, ◌≤◌, true, not, List, [], ◌∷◌, Option, Some, None, Ok, Err, refl, sym, ap, ◌∙◌, subst, arith, inl, inr, ltb, leb, leb-true, lt-ltb, eqb-true, cond, ◌≢◌, ◌&&◌}
use Rattle.std.proofs.lemmas.Bool.{and_parts, cases_Bool}
use Rattle.std.specs.Cmp.{unsigned_tied}
use Rattle.std.specs.List.{AllByRecursion, list_all}
use Rattle.std.specs.Option.{option_map}
use Rattle.std.specs.Ordering.{eq_by_cmp, nat_cmp}
use Rattle.std.specs.FinMap.{find}
use Rattle.nl_types.specs.declared.error.VolError.{VolError}
use Rattle.nl_types.specs.declared.error.VolError.TheVariants as error
use Rattle.nl_types.specs.declared.event.Event.{Event}
use Rattle.nl_types.specs.declared.event.Event.TheVariants.{Mount, Unmount}
use Rattle.nl_types.specs.declared.event.Mode.{Mode}
use Rattle.nl_types.specs.declared.event.Mode.TheVariants.{Snapshot}
use Rattle.nl_types.specs.declared.reply.Answer.TheVariants as answer
use Rattle.nl_types.specs.Plain.Laws.{CopiesStay, GivesBack, MountNumbersAreNew, MountsStay}
use Rattle.nl_types.specs.Plain.Limits.{mount_number_limit}
use Rattle.nl_types.specs.Plain.Rows.{is_snapshot}
use Rattle.nl_types.specs.Plain.Trees.{Tree}
use Rattle.nl_types.specs.Plain.Worlds.{Copy, IsWorld, Outcome, Reply, World, copy_at, kept_copy, mounted, step}
use Rattle.nl_types.specs.Facts.EventCases.{after_mount, either_gives, refused_if_gives}
use Rattle.nl_types.specs.Facts.NumberedLists.{AllBelow, find-push_same, list_all_weaken}
use Rattle.nl_commit.specs.Commits.{shown_after}
use Rattle.nl_commit.specs.Layout.{DoesIn, Layout, cleaned}
use Rattle.nl_commit.specs.Notes.{shared}
use Rattle.nl_publish.specs.Locks.{mount_reply}
use Rattle.nl_publish.specs.Mounts.{Claim}
use Rattle.nl_publish.specs.Told.{LockedRunsLeadOn, TreeOn}
use Rattle.nlvol.specs.SharedLaws.{IsMountIn}

-- a pen, beside a world that it means
abbrev pub Beside : Type 0
Beside = Layout × World

-- what the crates below know of worlds, and of runs under the lock
pub record Laws : Type 0 where
  pub copies : CopiesStay
  pub mounts : MountsStay
  pub numbers : MountNumbersAreNew
  pub leads : LockedRunsLeadOn

-- ---- mounts that stay

some_copy : (o : Option Copy) (mode : Mode) → option_map (λ (copy : Copy). copy.mode) o ≡ Some mode
    → (copy : Copy) × (o ≡ Some copy)
some_copy None mode is = absurd (cc is)
some_copy (Some copy) mode is = (copy, refl)

-- a mount that is still there has its copy still, with the same tree
still_shown : (laws : Laws) (cleaned reply : Reply) (old new : World) (event : Event) (m : Claim)
    → step cleaned old event ≡ (reply, new)
    → IsWorld new → IsMountIn old m → find nat_cmp m.number new.mounts ≡ Some m.checkpoint → IsMountIn new m
still_shown laws cleaned reply old new event m is world before found =
    let now = some_copy (copy_at new m.checkpoint) Snapshot (world.mounted m.number m.checkpoint found) in
    let same =
    laws.copies cleaned reply old new event m.checkpoint before.told.copy now.0 is before.told.kept
    now.1 in
    record {
      mounted = found;
      told = record {
        copy = now.0;
        kept = now.1;
        shown =
            subst (λ (t : Tree). TreeOn (shown_after m.told.commits) m.checkpoint t)
            (sym same.0) before.told.shown;
      };
    }

module _ (laws : Laws) (a b : Beside) (event : Event) (reply : Reply) (m : Claim)
    (does : DoesIn shared a event reply b) (before : IsMountIn a.1 m) where
  still : b.1 ≡ a.1 → IsMountIn b.1 m
  still same = subst (λ (w : World). IsMountIn w m) (sym same) before

  stepped : step (cleaned a.0 event) a.1 event ≡ (reply, b.1) → (GivesBack event m.number → ⊥)
      → IsMountIn b.1 m
  stepped is other =
      elim (laws.mounts (cleaned a.0 event) reply a.1 b.1 event m.number m.checkpoint is before.mounted) [
        | inl found ↦
            still_shown laws (cleaned a.0 event) reply a.1 b.1 event m is does.means.world before found
        | inr gone ↦ absurd (other gone)
      ]

  -- a mount stays, unless the event gives it back
  pub holds : (GivesBack event m.number → ⊥) → IsMountIn b.1 m
  holds other = elim does.step [
    | inl is ↦ stepped is other
    | inr refused ↦ still refused.unchanged
  ]

-- all of them
pub all_hold : (laws : Laws) (a b : Beside) (event : Event) (reply : Reply) (claims : List Claim)
    → DoesIn shared a event reply b
    → AllByRecursion (λ (m : Claim). GivesBack event m.number → ⊥) claims
    → AllByRecursion (IsMountIn a.1) claims
    → AllByRecursion (IsMountIn b.1) claims
all_hold laws a b event reply [] does others before = tt
all_hold laws a b event reply (m ∷ claims) does others before = (
  holds laws a b event reply m does before.0 others.0,
  all_hold laws a b event reply claims does others.1 before.1,
)

-- ---- give-backs that are refused

abbrev IsKept : World → Outcome → Type 0
IsKept w done = (e : VolError) → done.0 ≡ Err e → done.1 ≡ w

back_keeps : (cleaned : Reply) (w : World) (n : ℕ) → IsKept w (step cleaned w (Unmount n))
back_keeps cleaned w n =
    either_gives (IsKept w) w (mounted w n) _ (λ x e is. refl) (λ k found e is. absurd (cc is))

-- a give-back that is refused keeps the world
pub back_refused : (a b : Beside) (n : ℕ) (e : VolError) → DoesIn shared a (Unmount n) (Err e) b → b.1 ≡ a.1
back_refused a b n e does = elim does.step [
  | inl is ↦ subst (IsKept a.1) is (back_keeps (cleaned a.0 (Unmount n)) a.1 n) e refl
  | inr refused ↦ refused.unchanged
]

-- ---- mounts that are made

-- where a mount is answered, it is found
abbrev IsMade : (checkpoint : ℕ) → Outcome → Type 0
IsMade k done = (n : ℕ) → done.0 ≡ mount_reply n → find nat_cmp n done.1.mounts ≡ Some k

no_mount : (w : World) (k : ℕ) (e : VolError) → IsMade k (Err e, w)
no_mount w k e n is = absurd (cc is)

below_next : (w : World) → IsWorld w → AllBelow (w.given + 1) w.mounts
below_next w world =
    list_all_weaken (λ (e : ℕ × ℕ). ltb 0 e.0 && leb e.0 w.given) (λ (e : ℕ × ℕ). ltb e.0 (w.given + 1))
    (λ e given.
    let low = leb-true e.0 w.given (and_parts (ltb 0 e.0) (leb e.0 w.given) given).1 in
    lt-ltb e.0 (w.given + 1) (omega arith))
    w.mounts world.mounts_given

made : (w : World) (k : ℕ) → IsWorld w → IsMade k (Ok (answer.Mount (w.given + 1)), after_mount w k)
made w k world n is =
    let number : w.given + 1 ≡ n = cc is in
    subst (λ (j : ℕ). find nat_cmp j (after_mount w k).mounts ≡ Some k) number
    (find-push_same w.mounts (w.given + 1) k (below_next w world))

mount_is_made : (cleaned : Reply) (w : World) (k : ℕ) → IsWorld w → IsMade k (step cleaned w (Mount k))
mount_is_made cleaned w k world =
    either_gives (IsMade k) w (kept_copy w k) _ (no_mount w k) (λ copy found.
    refused_if_gives (IsMade k) (not (is_snapshot copy.mode)) error.NotSnapshot w _ (no_mount w k)
    (λ snapshot.
    refused_if_gives (IsMade k) (leb mount_number_limit (w.given + 1)) error.NumbersSpent w _ (no_mount w k)
    (λ fits. made w k world)))

-- what is found under a number was given
found_given : (n k given : ℕ) (mounts : List (ℕ × ℕ)) → find nat_cmp n mounts ≡ Some k
    → list_all (λ (e : ℕ × ℕ). ltb 0 e.0 && leb e.0 given) mounts ≡ true → n ≤ given
found_given n k given [] found all = absurd (cc found)
found_given n k given (e ∷ mounts) found all =
    let parts =
    and_parts (ltb 0 e.0 && leb e.0 given)
    (list_all (λ (d : ℕ × ℕ). ltb 0 d.0 && leb d.0 given) mounts) all in
    elim (cases_Bool (eq_by_cmp nat_cmp n e.0)) [
      | inl here ↦
          let same : n ≡ e.0 = eqb-true n e.0 (sym (unsigned_tied n e.0) ∙ here) in
          let low = leb-true e.0 given (and_parts (ltb 0 e.0) (leb e.0 given) parts.0).1 in
          omega arith
      | inr other ↦
          found_given n k given mounts
          (sym (ap (λ b. cond b (Some e.1) (find nat_cmp n mounts)) other) ∙ found) parts.1
    ]

module _ (laws : Laws) (a b : Beside) (k n : ℕ) (does : DoesIn shared a (Mount k) (mount_reply n) b)
    (world : IsWorld a.1) where
  is_step : step (Err error.Memory) a.1 (Mount k) ≡ (mount_reply n, b.1)
  is_step = elim does.step [
    | inl is ↦ is
    | inr refused ↦ absurd (cc refused.reply_is)
  ]

  -- the mount that is answered is there
  pub mount_found : find nat_cmp n b.1.mounts ≡ Some k
  mount_found = subst (IsMade k) is_step (mount_is_made (Err error.Memory) a.1 k world) n refl

  -- and was none of those before
  pub mount_is_new : (m : Claim) → IsMountIn a.1 m → (m.number ≢ n)
  mount_is_new m before same =
      let new = laws.numbers (Err error.Memory) a.1 b.1 (Mount k) n (λ e. cc e) is_step in
      let low = found_given m.number m.checkpoint a.1.given a.1.mounts before.mounted world.mounts_given in
      omega arith
