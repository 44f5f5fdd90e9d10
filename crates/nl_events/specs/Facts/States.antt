-- What readers see of a pen is a state: each kept checkpoint stands for a tree, and mounts are of kept
-- snapshots.
use Rattle.std.proofs.Common.{◌≡◌, ℕ, ◌≤◌, Bool, cond, List, [], ◌∷◌, Option, Some, None, refl, ap, sym, subst, ◌∙◌, inl, inr, arith}
use Rattle.std.specs.Prelude.{◌&&◌, IsTrue, map, nat_le, nat_lt}
use Rattle.std.specs.List.{AllByRecursion, AllZip, list_all}
use Rattle.std.specs.Option.{option_map}
use Rattle.std.specs.Ordering.{eq_by_cmp, is_lt, nat_cmp}
use Rattle.std.specs.FinMap.{find, is_sorted}
use Rattle.std.specs.FinMap.Entries.{below_all}
use Rattle.std.specs.Cmp.{unsigned_tied}
use Rattle.std.proofs.lemmas.Bool.{and_parts, cases_Bool, eqb-true, leb-true}
use Rattle.nl_types.specs.declared.event.Mode.{Mode}
use Rattle.nl_types.specs.declared.event.Mode.TheVariants.{Snapshot}
use Rattle.nl_types.specs.Blocks.Roots.{Pages}
use Rattle.nl_types.specs.Plain.Worlds.{Copy, World, are_stamps_rising, copy_at}
use Rattle.nl_types.specs.Facts.NumberedLists.{before-lt}
use Rattle.nl_layout.specs.Root.{root_of}
use Rattle.nl_files.specs.CheckpointRoots.{IsTreeSound}
use Rattle.nl_cpfile.specs.Tables.{IsRising, IsTable, Precedes, kept_at, checkpoint_root}
use Rattle.nl_cpfile.specs.declared.checkpoint.Checkpoint.{Checkpoint}
use Rattle.nl_commit.specs.Commits.{HasTree, IsShownState}
use Rattle.nl_commit.specs.Layout.{IsPen, Layout, layout_pages}
use Rattle.nl_commit.specs.Means.{CopyMeans, Means}
use Rattle.nl_commit.specs.Notes.{shown_of}
use Rattle.nl_commit.specs.Volume.{kept_by, mount_of}
use Rattle.nl_commit.specs.Facts.Events.{HasCopy, copy_of}
use Rattle.nl_events.specs.Facts.Ledgers.{found-all}
use Rattle.nl_commit.specs.Facts.ShownNumbers.{pages-shown}

-- ---- the table

module _ (pages : Pages) where
  -- a checkpoint below all copies precedes their checkpoints
  precedes-all : (c : Checkpoint) (n stamp : ℕ) → c.number ≡ n → c.stamp ≡ stamp
      → (kept : List Checkpoint) (copies : List (ℕ × Copy))
      → AllZip (CopyMeans pages) kept copies → IsTrue (below_all nat_cmp n copies)
      → IsTrue (list_all (λ (d : ℕ × Copy). nat_le stamp d.1.stamp) copies) → AllByRecursion (Precedes c) kept
  precedes-all c n stamp number moment [] copies means below stamps = tt
  precedes-all c n stamp number moment (k ∷ kept) [] means below stamps = absurd means
  precedes-all c n stamp number moment (k ∷ kept) (copy ∷ copies) means below stamps =
      let parts = and_parts (is_lt (nat_cmp n copy.0)) (below_all nat_cmp n copies) below in
      let others =
      and_parts (nat_le stamp copy.1.stamp)
      (list_all (λ (d : ℕ × Copy). nat_le stamp d.1.stamp) copies) stamps in (
        record {
          number = omega (arith, number, means.0.number, before-lt n copy.0 parts.0);
          stamp = omega (arith, moment, means.0.stamp, leb-true stamp copy.1.stamp others.0);
        },
        precedes-all c n stamp number moment kept copies means.1 parts.1 others.1,
      )

  -- where copies rise, so do the checkpoints that they stand for
  rising-means : (kept : List Checkpoint) (copies : List (ℕ × Copy)) → AllZip (CopyMeans pages) kept copies
      → IsTrue (is_sorted nat_cmp copies) → IsTrue (are_stamps_rising copies) → IsRising kept
  rising-means [] copies means sorted stamps = tt
  rising-means (c ∷ kept) [] means sorted stamps = absurd means
  rising-means (c ∷ kept) (copy ∷ copies) means sorted stamps =
      let parts = and_parts (below_all nat_cmp copy.0 copies) (is_sorted nat_cmp copies) sorted in
      let others =
      and_parts (list_all (λ (d : ℕ × Copy). nat_le copy.1.stamp d.1.stamp) copies)
      (are_stamps_rising copies) stamps in (
        precedes-all c copy.0 copy.1.stamp (sym means.0.number)
            (sym means.0.stamp) kept copies means.1 parts.0 others.0,
        rising-means kept copies means.1 parts.1 others.1,
      )

pub pen-table : (l : Layout) → IsPen l → IsTable l.lists.table
pen-table l pen = record {
  rising =
      rising-means (layout_pages l)
      (kept_by l.lists) pen.world.0.copies pen.world.1.copies pen.world.1.world.numbers_rise
      pen.world.1.world.stamps_rise;
  limit = pen.sound.last;
}

-- ---- mounts

-- what is found under a number passes what all numbers pass
found-passes : (q : ℕ → Bool) (m n : ℕ) (mounts : List (ℕ × ℕ)) → find nat_cmp m mounts ≡ Some n
    → IsTrue (list_all (λ (e : ℕ × ℕ). q e.0) mounts) → IsTrue (q m)
found-passes q m n [] at all = cc
found-passes q m n (e ∷ mounts) at all =
    let parts = and_parts (q e.0) (list_all (λ (d : ℕ × ℕ). q d.0) mounts) all in
    elim (cases_Bool (eq_by_cmp nat_cmp m e.0)) [
      | inl t ↦ subst (λ k. IsTrue (q k)) (sym (eqb-true m e.0 (sym (unsigned_tied m e.0) ∙ t))) parts.0
      | inr t ↦
          found-passes q m n mounts (sym (ap (λ b. cond b (Some e.1) (find nat_cmp m mounts)) t) ∙ at) parts.1
    ]

module _ (l : Layout) (pen : IsPen l) where
  abbrev w : World
  w = pen.world.0

  abbrev means : Means (layout_pages l) l.lists w
  means = pen.world.1

  in-world : (m n : ℕ) → find nat_cmp m (map mount_of l.lists.mounts) ≡ Some n
      → find nat_cmp m w.mounts ≡ Some n
  in-world m n at = ap (find nat_cmp m) means.mounts ∙ at

  given : (m n : ℕ) → find nat_cmp m (map mount_of l.lists.mounts) ≡ Some n → m ≤ l.lists.given
  given m n at =
      let passes : IsTrue (nat_lt 0 m && nat_le m w.given) =
      found-passes (λ k. nat_lt 0 k && nat_le k w.given) m n w.mounts
      (in-world m n at) means.world.mounts_given in
      let low = leb-true m w.given (and_parts (nat_lt 0 m) (nat_le m w.given) passes).1 in
      omega (arith, low, means.given)

  snapshot : (n : ℕ) (o : Option Checkpoint) → kept_at n l.lists.table ≡ o
      → HasCopy (layout_pages l) o (copy_at w n)
      → option_map (λ (copy : Copy). copy.mode) (copy_at w n) ≡ Some Snapshot
      → (c : Checkpoint) × (kept_at n l.lists.table ≡ Some c) × (c.mode ≡ Snapshot)
  snapshot n None at has is =
      let none : ◌≡◌ {A = Option Mode} None (Some Snapshot) =
      sym (ap (option_map (λ (copy : Copy). copy.mode)) has) ∙ is in cc
  snapshot n (Some c) at has is =
      let some : Some has.0.mode ≡ Some Snapshot =
      sym (ap (option_map (λ (copy : Copy). copy.mode)) has.1) ∙ is in
      let mode : has.0.mode ≡ Snapshot = cc in
      (c, at, sym has.2.mode ∙ mode)

  has-tree : (n : ℕ) (c : Checkpoint) → kept_at n l.lists.table ≡ Some c
      → HasTree (layout_pages l) (checkpoint_root c)
  has-tree n c at =
      let copy = copy_of (layout_pages l) l.lists w n (Some c) means at in
      record {
        sound =
            found-all (λ (k : Checkpoint). IsTreeSound (layout_pages l) (root_of (checkpoint_root k))) n
            (kept_by l.lists) c pen.sound.trees_sound at;
        tree = copy.0.tree;
        means = copy.2.tree;
      }

  -- what readers see of a pen is a state
  pub pen-state : IsShownState (shown_of l)
  pen-state = record {
    table = pen-table l pen;
    trees = λ n c at.
        subst (λ (pages : Pages). HasTree pages (checkpoint_root c)) (sym (pages-shown l)) (has-tree n c at);
    given = given;
    mounted = λ m n at.
        let o = kept_at n l.lists.table in
        snapshot n o refl (copy_of (layout_pages l) l.lists w n o means refl)
        (means.world.mounted m n (in-world m n at));
  }
