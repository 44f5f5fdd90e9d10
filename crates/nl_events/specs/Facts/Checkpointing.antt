-- A checkpoint's ways to end.
use Rattle.std.proofs.Common.{◌≡◌, ℕ, ◌+◌, ◌<◌, ◌≤◌, List, ◌∷◌, ◌++◌, length, refl, sym, ◌∙◌, subst, inl, inr, arith, get_or}
use Rattle.std.specs.Prelude.{All, None, Some, Ok, Err, map, max, nat_le, true}
use Rattle.std.specs.Option.{option_map}
use Rattle.std.specs.Ordering.{nat_cmp}
use Rattle.std.specs.FinMap.{find}
use Rattle.std.proofs.lemmas.Bool.{cond-true, le-leb}
use Rattle.nl_types.specs.declared.error.VolError.{VolError}
use Rattle.nl_types.specs.declared.error.VolError.TheVariants as error
use Rattle.nl_types.specs.declared.event.Event.TheVariants as event
use Rattle.nl_types.specs.declared.event.Mode.{Mode}
use Rattle.nl_types.specs.declared.reply.Answer.TheVariants as answer
use Rattle.nl_types.specs.Blocks.Entries.{Content}
use Rattle.nl_types.specs.Blocks.Lifetimes.{IsLedger}
use Rattle.nl_types.specs.Plain.Limits.{checkpoint_number_limit}
use Rattle.nl_types.specs.Blocks.Roots.{Pages, pages_of}
use Rattle.nl_types.specs.Plain.Worlds.{World, Reply, step, latest}
use Rattle.nl_types.specs.Blocks.Placing as placing
use Rattle.nl_types.specs.Facts.WorldLaws.{steps_keep_worlds}
use Rattle.nl_layout.specs.Root.{root_of}
use Rattle.nl_vstore.specs.Batches.{items_of}
use Rattle.nl_vstore.specs.Stores.{Store, IsStore, content_in, entry_now}
use Rattle.nl_files.specs.CheckpointRoots.{IsTreeSound}
use Rattle.nl_cpfile.specs.declared.checkpoint.Checkpoint.{Checkpoint}
use Rattle.nl_commit.specs.Layout.{Layout, IsPen, IsSoundPen, IsCheckpointRefusal, Does, StepsWorlds, HasFaulted, HasRefused, HasWrittenCheckpoint, LacksSpaceToSettle, MeansWorld, Becomes, cleaned, layout_of, ledger_of, unshared}
use Rattle.nl_commit.specs.Means.{Means}
use Rattle.nl_cpfile.specs.Tables.{by_number, checkpoint_root}
use Rattle.nl_commit.specs.Volume.{Lists, kept_by}
use Rattle.nl_events.specs.Facts.Checkpoints.{differs-behind, numbers-behind, sound-behind}
use Rattle.nl_events.specs.Facts.Ledgers.{same-numbers, stands-latest}
use Rattle.nl_events.specs.Facts.Published.{latest-means, means-published}
use Rattle.nl_events.specs.Facts.Settlings.{births-alike, count-items}

-- ---- one that is done

module _ (old new : Layout) (mode : Mode) (moment : ℕ) (pen : IsPen old)
    (writes : HasWrittenCheckpoint mode moment old new) where
  -- where it leads from a world
  follows-written : StepsWorlds unshared old (event.Checkpoint mode moment)
      (Ok (answer.Checkpoint new.lists.table.latest.number)) new
  follows-written w means =
      let done = event.Checkpoint mode moment in
      let given = cleaned old done in
      let reply : Reply = Ok (answer.Checkpoint new.lists.table.latest.number) in
      let next = means-published old new mode moment pen.sound writes given w means in
      record {
        after = next.0;
        means = next.1 (steps_keep_worlds given reply w next.0 done means.world next.2);
        step = inl next.2;
      }

  -- all that it does
  pub does-written : IsStore new.store → old.store.failures ≤ new.store.failures
      → Does unshared old (event.Checkpoint mode moment)
      (Ok (answer.Checkpoint new.lists.table.latest.number)) new
  does-written is_store counted =
      let w = pen.world.0 in
      let tree = pen.world.1.tree in
      let stands = stands-latest old pen.sound w.tree tree in
      record {
        follows = follows-written;
        becomes = record {
          writes = writes;
          differs = differs-behind old new mode moment pen.sound tree.base w.tree stands writes;
        };
        numbers = numbers-behind old new mode moment pen.sound tree.base w.tree stands writes;
        pen = record {
          world = let next = follows-written w pen.world.1 in (next.after, next.means);
          sound = sound-behind old new mode moment pen.sound tree.base w.tree stands writes is_store;
        };
        failures = counted;
      }

-- ---- one that is refused before anything is written

-- the world has no number left either
spent : (given : Reply) (l : Layout) (w : World) (mode : Mode) (moment : ℕ) → MeansWorld l w
    → checkpoint_number_limit ≤ l.lists.table.latest.number + 1
    → step given w (event.Checkpoint mode moment) ≡ (Err error.NumbersSpent, w)
spent given l w mode moment means over =
    let number : latest w ≡ l.lists.table.latest.number =
    latest-means (pages_of (content_in l.store)) l.lists w means in
    cond-true (nat_le checkpoint_number_limit (latest w + 1)) _ _
    (le-leb checkpoint_number_limit (latest w + 1) (omega (arith, number, over)))

follows-refused : (l : Layout) (mode : Mode) (moment : ℕ) (e : VolError) → IsCheckpointRefusal l e
    → StepsWorlds unshared l (event.Checkpoint mode moment) (Err e) l
follows-refused l mode moment error.NumbersSpent why w means = record {
  after = w;
  means = means;
  step = inl (spent (cleaned l (event.Checkpoint mode moment)) l w mode moment means why);
}
follows-refused l mode moment error.NoSpace why w means = record {
  after = w;
  means = means;
  step = inr (record { error = error.NoSpace; reply_is = refl; may_be = (tt, why.1); unchanged = refl });
}
follows-refused l mode moment error.Memory why w means = record {
  after = w;
  means = means;
  step = inr (record { error = error.Memory; reply_is = refl; may_be = tt; unchanged = refl });
}
follows-refused l mode moment _ why w means = absurd why

becomes-refused : (l : Layout) (mode : Mode) (moment : ℕ) (e : VolError) → IsCheckpointRefusal l e
    → Becomes l (event.Checkpoint mode moment) (Err e) l
becomes-refused l mode moment error.NumbersSpent why = (refl, why)
becomes-refused l mode moment error.NoSpace why = (refl, why)
becomes-refused l mode moment error.Memory why = (refl, why)
becomes-refused l mode moment _ why = absurd why

does-unwritten : (old new : Layout) (mode : Mode) (moment : ℕ) (e : VolError) → IsPen old
    → IsCheckpointRefusal old e → new ≡ old
    → Does unshared old (event.Checkpoint mode moment) (Err e) new
does-unwritten old new mode moment e pen why same =
    subst (Does unshared old (event.Checkpoint mode moment) (Err e)) (sym same) (record {
      follows = follows-refused old mode moment e why;
      becomes = becomes-refused old mode moment e why;
      numbers = same-numbers old old refl;
      pen = pen;
      failures = omega arith;
    })

-- ---- one that is broken off

-- a store with the same numbers has the same content
same-content : (old new : Store) → new.numbers ≡ old.numbers → content_in new ≡ content_in old
same-content old new same i v = option_map entry_now (get_or (same i) v None)

module _ (old new : Layout) (mode : Mode) (moment : ℕ) (pen : IsPen old)
    (fault : HasFaulted (max moment old.lists.table.latest.stamp) old new) where
  content-same : content_in new.store ≡ content_in old.store
  content-same = same-content old.store new.store fault.store.numbers

  -- lists and numbers are the old ones, and so is the ledger
  pub ledger-same : ledger_of new ≡ ledger_of old
  ledger-same i = ledger_of (layout_of (fault.lists i) (record old.store { numbers = fault.store.numbers i }))

  means-same : (w : World) → MeansWorld old w → MeansWorld new w
  means-same w means =
      subst (λ (l : Lists). Means (pages_of (content_in new.store)) l w) (sym fault.lists)
      (subst (λ (c : Content). Means (pages_of c) old.lists w) (sym content-same) means)

  -- a list of logs fits as many blocks as every settling writes
  space-there : LacksSpaceToSettle old → ⊥
  space-there lacks =
      let broken = fault.store.broken_off in
      let logs = broken.written ++ broken.failed ∷ broken.left in
      let count : length (items_of fault.settled.changes.births) ≡ length lacks.settled.changes.births =
      count-items fault.settled.changes
      ∙ births-alike old pen.sound fault.root lacks.root fault.settled lacks.settled in
      lacks.lacks logs (subst (λ (n : ℕ). placing.LogsFit old.store.segments true n logs) count broken.fits)

  abbrev AreSound : Pages → List Checkpoint → Type 0
  AreSound pages kept = All (λ (c : Checkpoint). IsTreeSound pages (root_of (checkpoint_root c))) kept

  sound-same : IsStore new.store → IsSoundPen new
  sound-same is_store = record {
    ledger = subst IsLedger (sym ledger-same) pen.sound.ledger;
    trees_sound =
        subst (λ (l : Lists). AreSound (pages_of (content_in new.store)) (kept_by l)) (sym fault.lists)
        (subst (λ (content : Content). AreSound (pages_of content) (kept_by old.lists))
        (sym content-same) pen.sound.trees_sound);
    latest =
        subst (λ (l : Lists).
        find nat_cmp l.table.latest.number (map by_number (kept_by l)) ≡ Some l.table.latest)
        (sym fault.lists)
        pen.sound.latest;
    last =
        subst (λ (l : Lists). l.table.latest.number < checkpoint_number_limit)
        (sym fault.lists) pen.sound.last;
    store = is_store;
  }

  does-faulted : IsStore new.store → Does unshared old (event.Checkpoint mode moment) (Err error.Fault) new
  does-faulted is_store = record {
    follows = λ w means. record {
      after = w;
      means = means-same w means;
      step =
          inr (record {
            error = error.Fault;
            reply_is = refl;
            may_be = (tt, (space-there, fault.store.failures, fault.store.writes));
            unchanged = refl;
          });
    };
    becomes = fault;
    numbers = same-numbers old new ledger-same;
    pen = record { world = (pen.world.0, means-same pen.world.0 pen.world.1); sound = sound-same is_store };
    failures = let more = fault.store.failures in omega (arith, more);
  }

-- ---- whichever way

pub does-refused : (old new : Layout) (mode : Mode) (moment : ℕ) (e : VolError) → IsPen old
    → HasRefused (event.Checkpoint mode moment) e old new → IsStore new.store
    → Does unshared old (event.Checkpoint mode moment) (Err e) new
does-refused old new mode moment error.Fault pen refused is_store =
    does-faulted old new mode moment pen refused is_store
does-refused old new mode moment e pen refused is_store =
    does-unwritten old new mode moment e pen refused.1 refused.0
