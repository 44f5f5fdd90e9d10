-- What events do to the world that a pen means, but for checkpoints.
use Rattle.std.proofs.Common.{◌≡◌, ◌≢◌, ℕ, ◌+◌, ◌<◌, ◌≤◌, ◌⊎◌, Bool, true, false, cond, not, List, [], ◌∷◌, ◌++◌}
use Rattle.std.proofs.Common.{refl, sym, ap, ◌∙◌, subst, inl, inr, arith}
use Rattle.std.specs.Prelude.{map, Option, Some, None, Ok, Err, ◌||◌, nat_le}
use Rattle.std.specs.Option.{ok_or, option_map}
use Rattle.std.specs.List.{AllZip}
use Rattle.std.specs.Ordering.{nat_cmp, eq_by_cmp}
use Rattle.std.specs.FinMap.{find}
use Rattle.std.proofs.lemmas.List.{map_push}
use Rattle.std.proofs.lemmas.Bool.{cond-true, cond-false, le-leb, lt-leb}
use Rattle.nl_types.specs.declared.error.VolError.{VolError}
use Rattle.nl_types.specs.declared.error.VolError.TheVariants as error
use Rattle.nl_types.specs.declared.event.Ask.{Ask}
use Rattle.nl_types.specs.declared.event.Change.{Change}
use Rattle.nl_types.specs.declared.event.Event.{Event}
use Rattle.nl_types.specs.declared.event.Event.TheVariants.{Apply, Read, Mount, MountRead}
use Rattle.nl_types.specs.declared.event.Mode.{Mode}
use Rattle.nl_types.specs.declared.event.Mode.TheVariants.{Plain, Snapshot}
use Rattle.nl_types.specs.declared.reply.Answer.{Answer}
use Rattle.nl_types.specs.declared.reply.Answer.TheVariants as answer
use Rattle.nl_types.specs.Plain.Limits.{mount_number_limit}
use Rattle.nl_types.specs.Plain.Trees.{Tree}
use Rattle.nl_types.specs.Plain.Calls.{IsReadReply, IsUnlessMemory, ReadTakesMemory, and_then, change, reply_to, is_dirtying, Changed}
use Rattle.nl_types.specs.Plain.Worlds.{World, Copy, Reply, Outcome, IsWorld, step, either, refused_if, copy_at, mount_read}
use Rattle.nl_types.specs.Plain.Rows.{is_snapshot}
use Rattle.nl_types.specs.Plain.Runs.{TakesMemory, memory_alone}
use Rattle.nl_types.specs.Blocks.Roots.{Pages}
use Rattle.nl_types.specs.Facts.WorldLaws.{steps_keep_worlds}
use Rattle.nl_layout.specs.Root.{root_of}
use Rattle.nl_tree.specs.Became.{Current}
use Rattle.nl_tree.specs.CurrentTrees.{LeavesTree, StandsOver}
use Rattle.nl_tree.specs.Held.{Holding}
use Rattle.nl_tree.specs.Reading.{HoldingMeans}
use Rattle.nl_files.specs.CheckpointTrees.{HoldsTree}
use Rattle.nl_cpfile.specs.Tables.{by_number, checkpoint_root}
use Rattle.nl_commit.specs.Volume.{Lists, kept_by, latest_root, mount_of, with_change, with_mount}
use Rattle.nl_commit.specs.Means.{CopyMeans, Means, ReadsCopyOver, StepsWorld, StepsWorldsOver, copy_read}
use Rattle.nl_cpfile.specs.declared.checkpoint.Checkpoint.{Checkpoint}

-- ---- checkpoints and mounts by number

-- the world's copy of a kept checkpoint
abbrev pub HasCopy : Pages → Option Checkpoint → Option Copy → Type 0
HasCopy pages None copy = copy ≡ None
HasCopy pages (Some c) copy = (k : Copy) × (copy ≡ Some k) × CopyMeans pages c (c.number, k)

same_number : (pages : Pages) (n : ℕ) (c : Checkpoint) (copy : ℕ × Copy) → CopyMeans pages c copy
    → eq_by_cmp nat_cmp n copy.0 ≡ eq_by_cmp nat_cmp n c.number
same_number pages n c copy m = ap (eq_by_cmp nat_cmp n) m.number

found_by : (pages : Pages) (b : Bool) (c : Checkpoint) (copy : ℕ × Copy) (o : Option Checkpoint)
    (p : Option Copy)
    → CopyMeans pages c copy → HasCopy pages o p → HasCopy pages (cond b (Some c) o) (cond b (Some copy.1) p)
found_by pages true c copy o p m rest = (
  copy.1,
  refl,
  record {
    number = refl;
    mode = m.mode;
    minor = m.minor;
    stamp = m.stamp;
    inodes = m.inodes;
    tree = m.tree;
  },
)
found_by pages false c copy o p m rest = rest

find_copy : (pages : Pages) (kept : List Checkpoint) (copies : List (ℕ × Copy)) (n : ℕ)
    → AllZip (CopyMeans pages) kept copies
    → HasCopy pages (find nat_cmp n (map by_number kept)) (find nat_cmp n copies)
find_copy pages [] [] n m = refl
find_copy pages [] (copy ∷ copies) n m = absurd m
find_copy pages (c ∷ kept) [] n m = absurd m
find_copy pages (c ∷ kept) (copy ∷ copies) n m =
    let found = find nat_cmp n (map by_number kept) in
    let copied = find nat_cmp n copies in
    let here = eq_by_cmp nat_cmp n c.number in
    subst (λ b. HasCopy pages (cond here (Some c) found) (cond b (Some copy.1) copied))
    (sym (same_number pages n c copy m.0))
    (found_by pages here c copy found copied m.0 (find_copy pages kept copies n m.1))

-- the copy at a number, where the kept checkpoint of it is known
pub copy_of : (pages : Pages) (l : Lists) (w : World) (n : ℕ) (o : Option Checkpoint) → Means pages l w
    → find nat_cmp n (map by_number (kept_by l)) ≡ o → HasCopy pages o (copy_at w n)
copy_of pages l w n o m is =
    subst (λ c. HasCopy pages c (copy_at w n)) is (find_copy pages (kept_by l) w.copies n m.copies)

-- ---- refusals and steps

-- an event that writes nothing leads on from a world
abbrev pub LeadsInMemory : Reply → World → Event → Reply → Pages → Lists → Type 0
LeadsInMemory cleaned w event reply pages new = StepsWorld memory_alone cleaned w event reply pages new

is_memory : (e : VolError) → (e ≡ error.Memory) ⊎ (e ≢ error.Memory)
is_memory error.Memory = inl refl
is_memory _ = inr (λ same. cc)

-- where the step leaves a world, it leads on to what stands for that
pub leads : (cleaned : Reply) (w after : World) (event : Event) (reply : Reply) (pages : Pages) (new : Lists)
    → IsWorld w
    → (IsWorld after → Means pages new after) → step cleaned w event ≡ (reply, after)
    → LeadsInMemory cleaned w event reply pages new
leads cleaned w after event reply pages new world means is =
    record {
      after = after;
      means = means (steps_keep_worlds cleaned reply w after event world is);
      step = inl is;
    }

-- an event that keeps the world, as the step does
pub keeps : (cleaned : Reply) (w : World) (event : Event) (reply : Reply) (pages : Pages) (l : Lists)
    → Means pages l w
    → step cleaned w event ≡ (reply, w) → LeadsInMemory cleaned w event reply pages l
keeps cleaned w event reply pages l m is = record { after = w; means = m; step = inl is }

-- memory ran out
lacks_memory : (cleaned : Reply) (w : World) (event : Event) (pages : Pages) (l : Lists) → Means pages l w
    → TakesMemory event → LeadsInMemory cleaned w event (Err error.Memory) pages l
lacks_memory cleaned w event pages l m takes =
    record {
      after = w;
      means = m;
      step = inr (record { error = error.Memory; reply_is = refl; may_be = takes; unchanged = refl });
    }

-- the step's refusal, unless memory ran out
pub refuses_unless_memory : (cleaned : Reply) (w : World) (event : Event) (e : VolError) (pages : Pages)
    (l : Lists)
    → Means pages l w
    → TakesMemory event → ((e ≢ error.Memory) → step cleaned w event ≡ (Err e, w))
    → LeadsInMemory cleaned w event (Err e) pages l
refuses_unless_memory cleaned w event e pages l m takes is =
    elim (is_memory e) [
      | inl same ↦
          subst (λ d. LeadsInMemory cleaned w event (Err d) pages l) (sym same)
          (lacks_memory cleaned w event pages l m takes)
      | inr other ↦ keeps cleaned w event (Err e) pages l m (is other)
    ]

-- ---- a change of the current tree

-- the outcome of a change
abbrev outcome_of : World → Change → Changed → Outcome
outcome_of w c r =
    either w r (λ done. (Ok done.0, record w { tree = done.1; dirty = w.dirty || is_dirtying c }))

-- the current tree then stands for the tree that the change leaves
pub change-follows : (pages : Pages) (l : Lists) (c : Change) (a : Answer) (now : Current)
    → ((base : Holding) (tree : Tree) → HoldsTree pages (root_of (latest_root l)) base
    → StandsOver l.current base tree
    → LeavesTree (change tree c) a now base)
    → StepsWorldsOver pages l (Apply c) (Ok a) (with_change c now l)
change-follows pages l c a now called = λ cleaned w m.
    let made : LeavesTree (change w.tree c) a now m.tree.base =
    called m.tree.base w.tree m.tree.holds m.tree.stands in
    leads cleaned w (record w { tree = made.tree; dirty = w.dirty || is_dirtying c }) (Apply c) (Ok a) pages
    (with_change c now l) m.world
    (λ world. record {
      world = world;
      tree = record { base = m.tree.base; holds = m.tree.holds; stands = made.stands };
      dirty = ap (λ b. b || is_dirtying c) m.dirty;
      copies = m.copies;
      mounts = m.mounts;
      given = m.given;
    })
    (ap (outcome_of w c) made.is)

-- a refused change is refused as the call on the tree is
pub refused_change-follows : (pages : Pages) (l : Lists) (c : Change) (e : VolError)
    → ((base : Holding) (tree : Tree) → HoldsTree pages (root_of (latest_root l)) base
    → StandsOver l.current base tree
    → (e ≢ error.Memory) → change tree c ≡ Err e)
    → StepsWorldsOver pages l (Apply c) (Err e) l
refused_change-follows pages l c e called = λ cleaned w m.
    refuses_unless_memory cleaned w (Apply c) e pages l m tt
    (λ other. ap (outcome_of w c) (called m.tree.base w.tree m.tree.holds m.tree.stands other))

-- ---- reads

-- an answer that is the expected one unless memory ran out
pub answers : (cleaned : Reply) (w : World) (event : Event) (reply expected : Reply) (pages : Pages)
    (l : Lists)
    → Means pages l w
    → TakesMemory event → step cleaned w event ≡ (expected, w) → IsUnlessMemory reply expected
    → LeadsInMemory cleaned w event reply pages l
answers cleaned w event (Ok found) expected pages l m takes steps is =
    keeps cleaned w event (Ok found) pages l m (steps ∙ ap (λ r. (r, w)) (sym (is (λ same. cc))))
answers cleaned w event (Err e) expected pages l m takes steps is =
    refuses_unless_memory cleaned w event e pages l m takes
    (λ other. steps ∙ ap (λ r. (r, w)) (sym (is (λ same. other cc))))

-- a read answers what is expected, or memory lacks where it takes any
read-answers : (cleaned : Reply) (w : World) (event : Event) (a : Ask) (reply expected : Reply)
    (pages : Pages) (l : Lists)
    → Means pages l w
    → (ReadTakesMemory a → TakesMemory event) → step cleaned w event ≡ (expected, w)
    → IsReadReply a reply expected
    → LeadsInMemory cleaned w event reply pages l
read-answers cleaned w event a reply expected pages l m may steps (inl same) =
    keeps cleaned w event reply pages l m (steps ∙ ap (λ r. (r, w)) (sym same))
read-answers cleaned w event a reply expected pages l m may steps (inr none) =
    subst (λ r. LeadsInMemory cleaned w event r pages l) (sym none.1)
    (lacks_memory cleaned w event pages l m (may none.0))

-- what the current tree answers
pub read-follows : (pages : Pages) (l : Lists) (a : Ask) (reply : Reply)
    → ((base : Holding) (tree : Tree) → HoldsTree pages (root_of (latest_root l)) base
    → StandsOver l.current base tree
    → IsReadReply a reply (reply_to tree a))
    → StepsWorldsOver pages l (Read a) reply l
read-follows pages l a reply is = λ cleaned w m.
    read-answers cleaned w (Read a) a reply (reply_to w.tree a) pages l m (λ takes. takes) refl
    (is m.tree.base w.tree m.tree.holds m.tree.stands)

-- ---- mounts

-- what a mount does once the copy is found
abbrev mount_of_copy : World → ℕ → Copy → Outcome
mount_of_copy w n copy =
    refused_if (not (is_snapshot copy.mode)) error.NotSnapshot w (
    refused_if (nat_le mount_number_limit (w.given + 1)) error.NumbersSpent w ((
      Ok (answer.Mount (w.given + 1)),
      record w {
        mounts = w.mounts ++ (w.given + 1, n) ∷ [];
        given = w.given + 1;
      },
    )))

mount-found : (cleaned : Reply) (w : World) (n : ℕ) (o : Option Copy) → copy_at w n ≡ o
    → step cleaned w (Mount n) ≡ either w (ok_or o error.NoCheckpoint) (mount_of_copy w n)
mount-found cleaned w n o is = ap (λ copy. either w (ok_or copy error.NoCheckpoint) (mount_of_copy w n)) is

-- of a copy of this mode
mount-of_mode : (cleaned : Reply) (w : World) (n : ℕ) (copy : Copy) (mode : Mode) → copy_at w n ≡ Some copy
    → copy.mode ≡ mode
    → step cleaned w (Mount n) ≡ mount_of_copy w n (record copy { mode = mode })
mount-of_mode cleaned w n copy mode found is =
    mount-found cleaned w n (Some copy) found ∙ ap (λ x. mount_of_copy w n (record copy { mode = x })) is

-- there is no such checkpoint
pub no_mount-follows : (pages : Pages) (l : Lists) (n : ℕ) → find nat_cmp n (map by_number (kept_by l)) ≡ None
    → StepsWorldsOver pages l (Mount n) (Err error.NoCheckpoint) l
no_mount-follows pages l n none = λ cleaned w m.
    keeps cleaned w (Mount n) (Err error.NoCheckpoint) pages l m
    (mount-found cleaned w n None (copy_of pages l w n None m none))

-- a plain checkpoint is no snapshot
pub plain_mount-follows : (pages : Pages) (l : Lists) (n : ℕ) (c : Checkpoint)
    → find nat_cmp n (map by_number (kept_by l)) ≡ Some c → c.mode ≡ Plain
    → StepsWorldsOver pages l (Mount n) (Err error.NotSnapshot) l
plain_mount-follows pages l n c found plain = λ cleaned w m.
    let copy = copy_of pages l w n (Some c) m found in
    keeps cleaned w (Mount n) (Err error.NotSnapshot) pages l m
    (mount-of_mode cleaned w n copy.0 Plain copy.1 (copy.2.mode ∙ plain))

-- no mount number is left
pub spent_mount-follows : (pages : Pages) (l : Lists) (n : ℕ) (c : Checkpoint)
    → find nat_cmp n (map by_number (kept_by l)) ≡ Some c → c.mode ≡ Snapshot
    → mount_number_limit ≤ l.given + 1
    → StepsWorldsOver pages l (Mount n) (Err error.NumbersSpent) l
spent_mount-follows pages l n c found snapshot spent = λ cleaned w m.
    let copy = copy_of pages l w n (Some c) m found in
    keeps cleaned w (Mount n) (Err error.NumbersSpent) pages l m
    (mount-of_mode cleaned w n copy.0 Snapshot copy.1 (copy.2.mode ∙ snapshot)
    ∙ cond-true _ _ _ (le-leb mount_number_limit (w.given + 1) (omega (arith, m.given, spent))))

-- a snapshot is mounted
pub mount-follows : (pages : Pages) (l : Lists) (n : ℕ) (c : Checkpoint)
    → find nat_cmp n (map by_number (kept_by l)) ≡ Some c → c.mode ≡ Snapshot
    → l.given + 1 < mount_number_limit
    → StepsWorldsOver pages l (Mount n) (Ok (answer.Mount (l.given + 1))) (with_mount n l)
mount-follows pages l n c found snapshot left = λ cleaned w m.
    let copy = copy_of pages l w n (Some c) m found in
    let given : w.given + 1 ≡ l.given + 1 = ap (λ g. g + 1) m.given in
    let next : ℕ → World = λ g. record w { mounts = w.mounts ++ (g, n) ∷ []; given = g } in
    leads cleaned w (next (l.given + 1)) (Mount n) (Ok (answer.Mount (l.given + 1))) pages
    (with_mount n l) m.world
    (λ world. record {
      world = world;
      tree = m.tree;
      dirty = m.dirty;
      copies = m.copies;
      mounts = ap (λ ms. ms ++ (l.given + 1, n) ∷ []) m.mounts
          ∙ sym (map_push mount_of l.mounts (record { number = l.given + 1; checkpoint = n }));
      given = refl;
    })
    (mount-of_mode cleaned w n copy.0 Snapshot copy.1 (copy.2.mode ∙ snapshot)
    ∙ cond-false _ _ _ (lt-leb mount_number_limit (w.given + 1) (omega (arith, given, left)))
    ∙ ap (λ g. let o : Outcome = (Ok (answer.Mount g), next g) in o) given)

-- ---- reads of kept checkpoints

copy_read-found : (w : World) (n : ℕ) (a : Ask) (o : Option Copy) → copy_at w n ≡ o
    → copy_read w n a ≡ and_then (ok_or o error.NoCheckpoint) (λ copy. reply_to copy.tree a)
copy_read-found w n a o is =
    ap (λ x. and_then (ok_or x error.NoCheckpoint) (λ copy. reply_to copy.tree a)) is

-- there is no such checkpoint
pub gone_copy_read-answers : (pages : Pages) (l : Lists) (n : ℕ) (a : Ask)
    → find nat_cmp n (map by_number (kept_by l)) ≡ None
    → ReadsCopyOver pages l n a (Err error.NoCheckpoint)
gone_copy_read-answers pages l n a none = λ w m.
    inl (sym (copy_read-found w n a None (copy_of pages l w n None m none)))

-- what the tree of a kept checkpoint answers
pub copy_read-answers : (pages : Pages) (l : Lists) (n : ℕ) (c : Checkpoint) (a : Ask) (reply : Reply)
    → find nat_cmp n (map by_number (kept_by l)) ≡ Some c
    → ((held : Holding) (tree : Tree) → HoldsTree pages (root_of (checkpoint_root c)) held
    → HoldingMeans held tree
    → IsReadReply a reply (reply_to tree a))
    → ReadsCopyOver pages l n a reply
copy_read-answers pages l n c a reply kept is = λ w m.
    let copy = copy_of pages l w n (Some c) m kept in
    subst (λ (expected : Reply). IsReadReply a reply expected)
    (sym (copy_read-found w n a (Some copy.0) copy.1))
    (is copy.2.tree.held copy.0.tree copy.2.tree.holds copy.2.tree.means)

-- ---- reads of mounts

-- the world's mounts are the pen's
pub mount_at : (pages : Pages) (l : Lists) (w : World) (mount : ℕ) (o : Option ℕ) → Means pages l w
    → find nat_cmp mount (map mount_of l.mounts) ≡ o → find nat_cmp mount w.mounts ≡ o
mount_at pages l w mount o m is = ap (find nat_cmp mount) m.mounts ∙ is

mount_read-found : (w : World) (mount n : ℕ) (a : Ask) (o : Option Copy)
    → find nat_cmp mount w.mounts ≡ Some n → copy_at w n ≡ o
    → mount_read w mount a ≡ and_then (ok_or o error.BadMount) (λ copy. reply_to copy.tree a)
mount_read-found w mount n a o found is =
    ap (λ x.
    and_then (and_then (ok_or x error.BadMount) (λ k. ok_or (copy_at w k) error.BadMount))
    (λ copy. reply_to copy.tree a))
    found
    ∙ ap (λ x. and_then (ok_or x error.BadMount) (λ copy. reply_to copy.tree a)) is

-- a mounted copy is kept, so that a mount answers what its copy does
mount_read-kept : (w : World) (mount n : ℕ) (a : Ask) (o : Option Copy) → IsWorld w
    → find nat_cmp mount w.mounts ≡ Some n → copy_at w n ≡ o
    → mount_read w mount a ≡ copy_read w n a
mount_read-kept w mount n a (Some copy) world found is =
    mount_read-found w mount n a (Some copy) found is ∙ sym (copy_read-found w n a (Some copy) is)
mount_read-kept w mount n a None world found is =
    let no : ◌≡◌ {A = Option Mode} None (Some Snapshot) =
    ap (option_map (λ (copy : Copy). copy.mode)) (sym is) ∙ world.mounted mount n found in
    cc

-- what the tree of a mounted checkpoint answers
pub mount_read-follows : (pages : Pages) (l : Lists) (mount n : ℕ) (a : Ask) (reply : Reply)
    → find nat_cmp mount (map mount_of l.mounts) ≡ Some n
    → ReadsCopyOver pages l n a reply
    → StepsWorldsOver pages l (MountRead mount a) reply l
mount_read-follows pages l mount n a reply mounted is = λ cleaned w m.
    read-answers cleaned w (MountRead mount a) a reply (copy_read w n a) pages l m (λ takes. takes)
    (ap (λ r. (r, w))
    (mount_read-kept w mount n a (copy_at w n) m.world (mount_at pages l w mount (Some n) m mounted) refl))
    (is w m)
