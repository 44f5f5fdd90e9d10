-- What a change of a checkpoint's mode leaves of a pen.
use Rattle.std.proofs.Common.{◌≡◌, ℕ, ◌<◌, Option, Some, None, refl, ap, sym, subst, ◌∙◌}
use Rattle.std.specs.Prelude.{All}
use Rattle.std.specs.Option.{option_map}
use Rattle.std.proofs.lemmas.List.Elements.{All-map, All-weaker}
use Rattle.nl_types.specs.declared.event.Mode.{Mode}
use Rattle.nl_types.specs.Blocks.Lifetimes.{IsLedger}
use Rattle.nl_types.specs.Plain.Limits.{checkpoint_number_limit}
use Rattle.nl_layout.specs.Root.{root_of}
use Rattle.nl_layout.specs.declared.root.Root.{Root}
use Rattle.nl_files.specs.CheckpointRoots.{IsTreeSound}
use Rattle.nl_cpfile.specs.declared.checkpoint.Checkpoint.{Checkpoint}
use Rattle.nl_cpfile.specs.Tables.{all, kept_at, moded, checkpoint_root, with_mode}
use Rattle.nl_commit.specs.Layout.{IsSoundPen, KeepsNumbers, Layout, layout_of, ledger_of, layout_pages, reached_by}
use Rattle.nl_commit.specs.Volume.{with_checkpoint_mode}
use Rattle.nl_events.specs.Facts.Ledgers.{same-numbers}
use Rattle.nl_events.specs.Facts.TableChanges.{all-with_mode, kept-with_mode, moded-same}

module _ (l : Layout) (n : ℕ) (mode : Mode) where
  abbrev pub moded_layout : Layout
  moded_layout = layout_of (with_checkpoint_mode n mode l.lists) l.store

  latest-number : (moded n mode l.lists.table.latest).number ≡ l.lists.table.latest.number
  latest-number = moded-same (λ c. c.number) n mode l.lists.table.latest refl

  reached-moded : (o : Option Checkpoint)
      → option_map (reached_by (layout_pages l)) (option_map (moded n mode) o)
      ≡ option_map (reached_by (layout_pages l)) o
  reached-moded None = refl
  reached-moded (Some c) = ap Some (moded-same (reached_by (layout_pages l)) n mode c refl)

  -- modes play no part in what checkpoints reach
  pub ledger-moded : ledger_of moded_layout ≡ ledger_of l
  ledger-moded i = record {
    content = (ledger_of l).content;
    latest = latest-number i;
    kept = λ c. (ap (option_map (reached_by (layout_pages l))) (kept-with_mode n mode l.lists.table c)
        ∙ reached-moded (kept_at c l.lists.table)) i;
  }

  pub numbers-moded : KeepsNumbers l moded_layout
  numbers-moded = same-numbers l moded_layout ledger-moded

  module _ (sound : IsSoundPen l) where
    abbrev IsKeptSound : Checkpoint → Type 0
    IsKeptSound c = IsTreeSound (layout_pages l) (root_of (checkpoint_root c))

    still-sound : (c : Checkpoint) → IsKeptSound c → IsKeptSound (moded n mode c)
    still-sound c is = subst (λ (root : Root). IsTreeSound (layout_pages l) (root_of root))
        (sym (moded-same checkpoint_root n mode c refl)) is

    pub sound-moded : IsSoundPen moded_layout
    sound-moded = record {
      ledger = subst IsLedger (sym ledger-moded) sound.ledger;
      trees_sound = subst (All IsKeptSound) (sym (all-with_mode n mode l.lists.table))
          (All-map IsKeptSound (moded n mode) (all l.lists.table)
          (All-weaker IsKeptSound (λ c. IsKeptSound (moded n mode c)) still-sound
          (all l.lists.table) sound.trees_sound));
      latest = ap (λ k. kept_at k (with_mode n mode l.lists.table)) latest-number
          ∙ (kept-with_mode n mode l.lists.table l.lists.table.latest.number
          ∙ ap (option_map (moded n mode)) sound.latest);
      last = subst (λ k. k < checkpoint_number_limit) (sym latest-number) sound.last;
      store = sound.store;
    }
