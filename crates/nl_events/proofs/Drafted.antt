-- What comes of the draft of a checkpoint.
use Rattle.std.proofs.Common.{◌≡◌, ℕ, ◌+◌, [], ◌∷◌, ◌++◌, refl, ap, sym, subst, ◌∙◌, arith}
use Rattle.std.specs.Prelude.{max}
use Rattle.nl_types.specs.declared.error.VolError.{VolError}
use Rattle.nl_types.specs.declared.error.VolError.TheVariants as error
use Rattle.nl_types.specs.declared.event.Event.TheVariants as event
use Rattle.nl_types.specs.declared.event.Mode.{Mode}
use Rattle.nl_vstore.specs.Stores.{Store, IsWritten, IsWriteRefused, content_in}
use Rattle.nl_files.specs.Laws.{SettledNumbersAreLowest}
use Rattle.nl_commit.specs.Draft.{CanBeDrafted, IsNextDraft}
use Rattle.nl_commit.specs.Layout.{HasRefused, HasWrittenCheckpoint, Settled, layout_of}
use Rattle.nl_layout.specs.Root.{root_of}
use Rattle.nl_events.specs.NeededBlocks.{HasWrittenBatch}
use Rattle.nl_cpfile.specs.Tables.{ComesNext, checkpoint_root}
use Rattle.nl_commit.specs.Volume.{Lists, latest_root, published}
use Rattle.nl_cpfile.specs.declared.checkpoint.Checkpoint.{Checkpoint}
use Rattle.nl_commit.specs.declared.draft.Draft.{Draft}

module _ (lists : Lists) (store : Store) (mode : Mode) (moment : ℕ) (draft : Draft)
    (can : CanBeDrafted (content_in store) lists) (drafted : IsNextDraft store mode moment lists draft) where
  -- the current tree is settled in its batch
  abbrev settled-draft : Settled (layout_of lists store) (checkpoint_root draft.checkpoint)
  settled-draft = record {
    base = can.1;
    held = can.2;
    current = can.3;
    changes = draft.batch;
    settles = drafted.settles can.1 can.2 can.3;
    fits = drafted.fits;
  }

  -- the checkpoint comes behind those that are kept
  pub draft-comes_next : (now : Lists) → now ≡ lists → ComesNext draft.checkpoint now.table
  draft-comes_next now is =
      subst (λ (ls : Lists). ComesNext draft.checkpoint ls.table) (sym is)
      (subst (λ (c : Checkpoint). ComesNext c lists.table) (sym drafted.checkpoint) (record {
        follows = record { number = omega arith; stamp = omega arith };
        limit = drafted.left;
      }))

  module _ (lowest : SettledNumbersAreLowest) (now : Lists) (after : Store)
      (is : now ≡ published draft.checkpoint lists)
      (written : IsWritten draft.checkpoint.number draft.checkpoint.stamp draft.batch store after) where
    -- the batch is written, and the checkpoint is kept
    abbrev writes-draft : HasWrittenCheckpoint mode moment (layout_of lists store)
        (layout_of (published draft.checkpoint lists) after)
    writes-draft = record {
      left = drafted.left;
      settled = settled-draft;
      lowest_free =
          lowest (content_in store) (root_of (latest_root lists)) (root_of (checkpoint_root draft.checkpoint))
          lists.current.became can.2 draft.batch (drafted.settles can.1 can.2 can.3);
      lists = ap (λ (c : Checkpoint). published c lists) drafted.checkpoint;
      written = written;
    }

    pub written-draft : HasWrittenBatch mode moment draft.batch (layout_of lists store) (layout_of now after)
    written-draft =
        subst (λ (ls : Lists).
        HasWrittenBatch mode moment draft.batch (layout_of lists store) (layout_of ls after))
        (sym is)
        (record { writes = writes-draft; batch_is = refl })

  -- the batch is not written
  refused : (e : VolError) (after : Store)
      → IsWriteRefused (lists.table.latest.number + 1)
      (max moment lists.table.latest.stamp) draft.batch store after e
      → HasRefused (event.Checkpoint mode moment) e (layout_of lists store) (layout_of lists after)
  refused error.NoSpace after why = (
    ap (layout_of lists) why.1,
    (
      drafted.left,
      record {
        root = checkpoint_root draft.checkpoint;
        settled = settled-draft;
        lacks = why.0;
      },
    ),
  )
  refused error.Memory after why = (ap (layout_of lists) why, drafted.left)
  refused error.Fault after why = record {
    left = drafted.left;
    lists = refl;
    root = checkpoint_root draft.checkpoint;
    settled = settled-draft;
    store = why;
  }
  refused _ after why = absurd why

  pub refused-draft : (e : VolError) (now : Lists) (after : Store) → now ≡ lists
      → IsWriteRefused draft.checkpoint.number draft.checkpoint.stamp draft.batch store after e
      → HasRefused (event.Checkpoint mode moment) e (layout_of lists store) (layout_of now after)
  refused-draft e now after same why =
      subst (λ (ls : Lists).
      HasRefused (event.Checkpoint mode moment) e (layout_of lists store) (layout_of ls after))
      (sym same)
      (refused e after
      (subst (λ (c : Checkpoint). IsWriteRefused c.number c.stamp draft.batch store after e)
      drafted.checkpoint why))
