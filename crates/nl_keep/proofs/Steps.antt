-- What the events of storing do to worlds.
use Rattle.std.proofs.Common.{◌≡◌, ◌⊎◌, ℕ, ◌+◌, [], ◌∷◌, ◌++◌, Ok, Err, refl, sym, ◌∙◌, subst, inl, inr, max}
use Rattle.std.specs.Prelude.{Some, None, false, nat_le}
use Rattle.nl_types.specs.declared.error.VolError.TheVariants as error
use Rattle.nl_types.specs.declared.event.Event.TheVariants as event
use Rattle.nl_types.specs.declared.event.Mode.TheVariants.{Snapshot}
use Rattle.nl_types.specs.declared.reply.Answer.TheVariants as answer
use Rattle.nl_types.specs.Plain.Limits.{checkpoint_number_limit}
use Rattle.nl_types.specs.Plain.Trees.{Tree, IsTree}
use Rattle.nl_types.specs.Plain.Worlds.{World, Copy, IsWorld, Outcome, copy_at, Reply, greatest, greatest_stamp, latest, numbers, step}
use Rattle.nl_types.specs.Facts.EventCases.{refused_if_gives}
use Rattle.nl_folders.specs.declared.folder.FolderError.{FolderError}
use Rattle.nl_folders.specs.declared.folder.FolderError.TheVariants.{Refused}
use Rattle.nl_folders.specs.Refusals.{RefusesTree}
use Rattle.nl_keep.specs.Shown.{ShowsCurrent, ShowsKept}
use Rattle.nl_keep.specs.Stored.{ChangesTreeAlone, IsKept, KeepsTree, TakesSnapshot, snapshot_of, with_stored}
use Rattle.nl_keep.specs.Volumes.{Follows, LeadsTo, Meaning}

-- ---- whole trees

pub shows_current : (Means : Meaning) (w : World) → Means w → IsTree w.tree → ShowsCurrent Means w.tree
shows_current Means w means is_tree = record { world = w; means = means; has = refl; is_tree = is_tree }

pub shows_kept : (n : ℕ) (Means : Meaning) (w : World) (copy : Copy) → Means w → copy_at w n ≡ Some copy
    → IsTree copy.tree → ShowsKept Means n copy.tree
shows_kept n Means w copy means kept is_tree = record {
  world = w;
  means = means;
  copy = copy;
  kept = kept;
  has = refl;
  is_tree = is_tree;
}

-- a checkpoint that is kept isn't judged not to be
pub kept_refused : (n : ℕ) (e : FolderError) (w : World) (copy : Copy) → copy_at w n ≡ Some copy
    → (e ≡ Refused error.Memory) ⊎ ((e ≡ Refused error.NoCheckpoint) × (copy_at w n ≡ None))
    → RefusesTree copy.tree e
kept_refused n e w copy kept (inl memory) = inl memory
kept_refused n e w copy kept (inr missing) = let no : Some copy ≡ None = sym kept ∙ missing.1 in cc

-- what is read of all of the current tree is that tree
pub current_read : (tree : Tree) (Old : Meaning) → ((w : World) → Old w → IsWorld w)
    → ((t : Tree) → IsTree t → ShowsCurrent Old t → tree ≡ t) → (w : World) → Old w → tree ≡ w.tree
current_read tree Old sound reads w means =
    let is_tree = (sound w means).tree in
    reads w.tree is_tree (shows_current Old w means is_tree)

-- what is read of all of a kept checkpoint is its tree
pub checkpoint_read : (n : ℕ) (tree : Tree) (Means : Meaning) → ((w : World) → Means w → IsWorld w)
    → ((w : World) → Means w → IsKept n w) → ((t : Tree) → IsTree t → ShowsKept Means n t → tree ≡ t)
    → (w : World) → Means w → KeepsTree n tree w
checkpoint_read n tree Means sound judged reads w means =
    let kept = judged w means in
    let is_tree : IsTree kept.0.tree = (sound w means).trees n kept.0 kept.1 in
    record {
      copy = kept.0;
      kept = kept.1;
      has = sym (reads kept.0.tree is_tree (shows_kept n Means w kept.0 means kept.1 is_tree));
    }

-- ---- a tree, stored

-- what is stored depends on the copies and mounts alone
pub same_stored : (moment : ℕ) (tree other : Tree) (w v : World) → tree ≡ other → ChangesTreeAlone w v
    → with_stored moment tree v ≡ with_stored moment other w
same_stored moment tree other w v same alone = λ i. record {
  tree = same i;
  dirty = false;
  copies =
      alone.copies i
      ++ (
        greatest (numbers (alone.copies i)) + 1,
        snapshot_of (same i) (max moment (greatest_stamp (alone.copies i))),
      ) ∷ [];
  mounts = alone.mounts i;
  given = alone.given i;
}

-- ---- a snapshot

snapshot_taken : (w : World) (moment n : ℕ) (cleaned : Reply) (new : World)
    → step cleaned w (event.Checkpoint Snapshot moment) ≡ (Ok (answer.Checkpoint n), new)
    → TakesSnapshot moment n w new
snapshot_taken w moment n cleaned new is = subst Taken is done n refl
  where
    Taken : Outcome → Type 0
    Taken o = (k : ℕ) → o.0 ≡ Ok (answer.Checkpoint k) → TakesSnapshot moment k w o.1

    done : Taken (step cleaned w (event.Checkpoint Snapshot moment))
    done = refused_if_gives Taken (nat_le checkpoint_number_limit (latest w + 1)) error.NumbersSpent w _
        (λ e k no. cc)
        (λ _ k told. let same : latest w + 1 ≡ k = cc in record { number = sym same; world = refl })

pub takes_snapshot : (moment n : ℕ) (reply : Reply) (Old New : Meaning)
    → LeadsTo (Follows (event.Checkpoint Snapshot moment) reply) Old New → reply ≡ Ok (answer.Checkpoint n)
    → LeadsTo (TakesSnapshot moment n) Old New
takes_snapshot moment n reply Old New does is w means =
    let d = does w means in (
      d.0,
      d.1,
      elim d.2.1 [
        | inl s ↦
            snapshot_taken w moment n d.2.0 d.0
            (subst (λ (r : Reply). step d.2.0 w (event.Checkpoint Snapshot moment) ≡ (r, d.0)) is s)
        | inr r ↦ let no : Ok (answer.Checkpoint n) ≡ Err r.error = sym is ∙ r.reply_is in cc
      ],
    )
