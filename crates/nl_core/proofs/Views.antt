-- What is told of a pen is told of the world that it means.
use Rattle.std.proofs.Common.{◌≡◌, ℕ, suc, true, false, cond, List, [], ◌∷◌, length, refl, sym, ap, ◌∙◌}
use Rattle.std.specs.List.{AllZip, filter}
use Rattle.std.proofs.lemmas.List.{length-map}
use Rattle.nl_types.specs.declared.event.Mode.{Mode}
use Rattle.nl_types.specs.Plain.Protection.{boundary}
use Rattle.nl_types.specs.Blocks.Roots.{Pages}
use Rattle.nl_types.specs.Plain.Rows.{is_snapshot}
use Rattle.nl_types.specs.Plain.Worlds.{Copy, World, boundary_of}
use Rattle.nl_cpfile.specs.Tables.{cpstat_of}
use Rattle.nl_cpfile.specs.declared.checkpoint.Checkpoint.{Checkpoint}
use Rattle.nl_commit.specs.Means.{CopyMeans, Means}
use Rattle.nl_core.specs.Views.{counted}
use Rattle.nl_commit.specs.Volume.{Lists, boundary_in, kept_by, mount_of}
use Rattle.nl_events.specs.Facts.CheckpointEvents.{latest-same, rows-means}

count-told : (pages : Pages) (kept : List Checkpoint) (copies : List (ℕ × Copy))
    → AllZip (CopyMeans pages) kept copies
    → length kept ≡ length copies
count-told pages [] [] means = refl
count-told pages [] (copy ∷ copies) means = absurd means
count-told pages (c ∷ kept) [] means = absurd means
count-told pages (c ∷ kept) (copy ∷ copies) means = ap (λ n. suc n) (count-told pages kept copies means.1)

snapshots-told : (pages : Pages) (kept : List Checkpoint) (copies : List (ℕ × Copy))
    → AllZip (CopyMeans pages) kept copies
    → length (filter (λ (c : Checkpoint). is_snapshot c.mode) kept)
    ≡ length (filter (λ (c : ℕ × Copy). is_snapshot c.1.mode) copies)
snapshots-told pages [] [] means = refl
snapshots-told pages [] (copy ∷ copies) means = absurd means
snapshots-told pages (c ∷ kept) [] means = absurd means
snapshots-told pages (c ∷ kept) (copy ∷ copies) means =
    let those = filter (λ (d : Checkpoint). is_snapshot d.mode) kept in
    let others = filter (λ (d : ℕ × Copy). is_snapshot d.1.mode) copies in
    let rest : length those ≡ length others = snapshots-told pages kept copies means.1 in
    ap (λ (mode : Mode). length (cond (is_snapshot mode) (c ∷ those) those)) (sym means.0.mode)
    ∙ elim (is_snapshot copy.1.mode) as (λ b.
    length (cond b (c ∷ those) those) ≡ length (cond b (copy ∷ others) others)) [
      | true ↦ ap (λ n. suc n) rest
      | false ↦ rest
    ]

module _ (pages : Pages) (l : Lists) (w : World) (m : Means pages l w) where
  -- the counts of the table are the world's
  pub counts-means : cpstat_of l.table ≡ counted w
  counts-means =
      let count = count-told pages (kept_by l) w.copies m.copies in
      let snapshots = snapshots-told pages (kept_by l) w.copies m.copies in
      λ i. record { latest = latest-same pages l w m i; count = count i; snapshots = snapshots i }

  -- and so is the boundary of protection
  pub boundary-means : (now period : ℕ) → boundary_in l.table now period ≡ boundary_of w now period
  boundary-means now period i = boundary now period (latest-same pages l w m i) (rows-means pages l w m i)

  pub mounts-means : length l.mounts ≡ length w.mounts
  mounts-means = sym (ap length m.mounts ∙ length-map l.mounts mount_of)
