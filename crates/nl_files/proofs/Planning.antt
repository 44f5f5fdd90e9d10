-- The changes of blocks make what an inode became of what the checkpoint has.
use Rattle.std.proofs.Common.{◌≡◌, ℕ, zero, suc, ◌-◌, ◌*◌, ◌≤◌, Bool, true, false, List, [], ◌∷◌, length, Option, Some, None, Result, Ok, Err, refl, ap, sym, subst, ◌∙◌, arith}
use Rattle.std.specs.Prelude.{cond, nat_lt, map, IfOk}
use Rattle.std.specs.List.{slice_get}
use Rattle.std.specs.Option.{option_map, option_or}
use Rattle.std.specs.Ordering.{nat_cmp}
use Rattle.std.specs.FinMap.{find}
use Rattle.std.proofs.lemmas.Bool.{le-ltb}
use Rattle.std.proofs.lemmas.List.{length-map}
use Rattle.nl_types.specs.Blocks.Roots.{Pages}
use Rattle.nl_layout.specs.declared.inode.Inode.{Inode}
use Rattle.nl_layout.specs.declared.inode.InodeKind.{InodeKind}
use Rattle.nl_layout.specs.declared.inode.InodeKind.TheVariants.{File, Directory, InodeFile}
use Rattle.nl_blocktree.specs.declared.change.BlockChange.{BlockChange}
use Rattle.nl_blocktree.specs.Changed.{blocks_with}
use Rattle.nl_dirs.specs.declared.record.Record.{Record}
use Rattle.nl_dirs.specs.Records.{packed_block}
use Rattle.nl_dirs.specs.Packing.{Packs}
use Rattle.nl_dirs.specs.Listings.{HoldsRecords}
use Rattle.nl_tree.specs.Became.{BecameDirectory, BecameFile, MayBecome, Removed, Rises, blocks_over, over_became}
use Rattle.nl_tree.specs.Held.{Held, Listed, Stored, held_block}
use Rattle.nl_tree.specs.Facts.Rising.{rises-higher}
use Rattle.nl_files.specs.CheckpointRoots.{StandsAs}
use Rattle.nl_files.specs.Private.Planned.{IsBase, IsPlanned, StandsShaped, cut_of, file_cut, index_of, inode_block_count, inode_size, merged, packed_over, removals}
use Rattle.nl_files.specs.declared.plan.Shape.{Shape}
use Rattle.nl_files.specs.declared.plan.Plan.{Plan}
use Rattle.nl_files.proofs.Packed.{packed-few}
use Rattle.nl_files.proofs.Merging.{entry, merged-means, merged-rises, packed-means, packed-rises, removals-rise, removed}

-- two clauses on a result give a third
pub ok-both : {A E : Type 0} (r : Result A E) (P Q R : A → Type 0) → ((a : A) → P a → Q a → R a) → IfOk r P
    → IfOk r Q → IfOk r R
ok-both (Ok a) P Q R f p q = f a p q
ok-both (Err e) P Q R f p q = p

both-none : {X : Type 0} (t : Bool) → cond t (let o : Option X = None in o) None ≡ None
both-none true = refl
both-none false = refl

slice_get-map : {X Y : Type 0} (f : X → Y) (xs : List X) (i : ℕ)
    → slice_get (map f xs) i ≡ option_map f (slice_get xs i)
slice_get-map f [] i = refl
slice_get-map f (x ∷ xs) zero = refl
slice_get-map f (x ∷ xs) (suc i) = slice_get-map f xs i

pub few-blocks : (old : Option Inode) → inode_size old ≤ 268435456 → inode_block_count old ≤ 262144
few-blocks old l = omega arith

-- ---- an inode that goes

pub removal-planned : (old : Option Inode) (plan : Plan)
    → plan.changes.items ≡ removals 0 (inode_block_count old) → plan.shape ≡ None → IsPlanned old Removed plan
removal-planned old plan items shape blocks base is =
    subst (λ (s : Option Shape). StandsShaped (blocks_with plan.changes.items blocks) s None) (sym shape) (
      refl,
      λ b.
          ap (λ (cs : List BlockChange). blocks_with cs blocks b)
          (items
          ∙ ap (removals 0) (let e : inode_block_count old ≡ inode_block_count old - 0 = omega arith in e))
          ∙ (removed 0 (inode_block_count old) blocks b (is.ends b)
          ∙ ap (λ t. cond t (blocks b) None) (le-ltb b 0 (omega arith))),
    )

pub removal-rises : (old : Option Inode) (plan : Plan) → inode_size old ≤ 268435456
    → plan.changes.items ≡ removals 0 (inode_block_count old) → Rises index_of 0 262144 plan.changes.items
removal-rises old plan small items =
    subst (λ (cs : List BlockChange). Rises index_of 0 262144 cs)
    (sym (items
    ∙ ap (removals 0) (let e : inode_block_count old ≡ inode_block_count old - 0 = omega arith in e)))
    (removals-rise 0 (inode_block_count old) 0 262144 (λ l. omega arith) (few-blocks old small))

-- ---- a file

-- what shows below the cut is a file's of the checkpoint
cuts : (kind : InodeKind) (blocks : Pages) (size cut b : ℕ) (base : Option Held)
    → StandsAs blocks kind size base →
    cond (nat_lt b (cut_of kind cut)) (blocks b) None ≡ cond (nat_lt b cut) (held_block base b) None
cuts File blocks size cut b base is =
    ap (λ (held : Option Held). cond (nat_lt b cut) (held_block held b) None) (sym is)
cuts Directory blocks size cut b base is =
    ap (λ t. cond t (blocks b) None) (le-ltb b 0 (omega arith))
    ∙ sym (ap (λ (held : Option Held). cond (nat_lt b cut) (held_block held b) None) is.2
    ∙ both-none (nat_lt b cut))
cuts InodeFile blocks size cut b base is = absurd is

below-cut : (old : Option Inode) (blocks : Pages) (cut b : ℕ) (base : Option Held) → IsBase blocks old base →
    cond (nat_lt b (file_cut old cut)) (blocks b) None ≡ cond (nat_lt b cut) (held_block base b) None
below-cut None blocks cut b base is =
    ap (λ t. cond t (blocks b) None) (le-ltb b 0 (omega arith))
    ∙ sym (ap (λ (held : Option Held). cond (nat_lt b cut) (held_block held b) None) (is.none refl)
    ∙ both-none (nat_lt b cut))
below-cut (Some n) blocks cut b base is = cuts n.kind blocks n.size cut b base (is.some n refl)

pub file-planned : (old : Option Inode) (size cut : ℕ) (pages : List (ℕ × List ℕ)) (plan : Plan)
    → Rises entry 0 65536 pages →
    plan.changes.items ≡ merged (file_cut old cut) (inode_block_count old) pages
    → plan.shape ≡ Some (record { kind = File; size = size }) → IsPlanned old (BecameFile size cut pages) plan
file-planned old size cut pages plan rises items shape blocks base is =
    subst (λ (s : Option Shape).
    StandsShaped (blocks_with plan.changes.items blocks) s (over_became (BecameFile size cut pages) base))
    (sym shape)
    (λ i. Some (Stored size (λ b. each b i)))
  where
    each : (b : ℕ) → blocks_over cut pages (held_block base) b ≡ blocks_with plan.changes.items blocks b
    each b = sym (ap (λ (cs : List BlockChange). blocks_with cs blocks b) items
        ∙ (merged-means pages (file_cut old cut) (inode_block_count old) 0 65536 blocks b rises (is.ends b)
        ∙ ap (option_or (find nat_cmp b pages)) (below-cut old blocks cut b base is)))

pub file-rises : (old : Option Inode) (cut : ℕ) (pages : List (ℕ × List ℕ)) (plan : Plan)
    → inode_size old ≤ 268435456 → Rises entry 0 65536 pages →
    plan.changes.items ≡ merged (file_cut old cut) (inode_block_count old) pages
    → Rises index_of 0 262144 plan.changes.items
file-rises old cut pages plan small rises items =
    subst (λ (cs : List BlockChange). Rises index_of 0 262144 cs) (sym items)
    (merged-rises pages (file_cut old cut) (inode_block_count old) 0 262144 (λ l. omega arith)
    (few-blocks old small)
    (rises-higher entry 0 65536 262144 pages (omega arith) rises))

-- ---- a directory

-- three records at least go into a block, but for the last
pub few_pages : (rs : List Record) (pages : List (List ℕ)) → MayBecome (BecameDirectory rs) → Packs rs pages
    → length pages ≤ 262144
few_pages rs pages change p =
    let most = packed-few rs p.packed p.is_packed change.0 in
    let e = length-map p.packed packed_block in
    omega (arith, most, change.2, e, ap length p.pages)

pub directory-planned : (old : Option Inode) (rs : List Record) (plan : Plan) → MayBecome (BecameDirectory rs)
    →
    (pages : List (List ℕ)) × Packs rs pages
    × (plan.changes.items ≡ packed_over (inode_block_count old) pages)
    × (plan.shape ≡ Some (record { kind = Directory; size = 1024 * length pages }))
    → IsPlanned old (BecameDirectory rs) plan
directory-planned old rs plan change (pages, packs, items, shape) blocks base is =
    subst (λ (s : Option Shape). StandsShaped (blocks_with plan.changes.items blocks) s (Some (Listed rs)))
    (sym shape) (rs, holds, refl)
  where
    holds : HoldsRecords (blocks_with plan.changes.items blocks) (1024 * length pages) rs
    holds = record {
      fit = change.0;
      ascending = change.1;
      packed = packs.packed;
      is_packed = packs.is_packed;
      stored = λ i. ap (λ (cs : List BlockChange). blocks_with cs blocks i) items
          ∙ (packed-means pages (inode_block_count old) blocks i (is.ends i)
          ∙ (ap (λ (ps : List (List ℕ)). slice_get ps i) packs.pages
          ∙ slice_get-map packed_block packs.packed i));
      sized =
          ap (λ (ps : List (List ℕ)). 1024 * length ps) packs.pages
          ∙ ap (λ n. 1024 * n) (length-map packs.packed packed_block);
    }

pub directory-rises : (old : Option Inode) (rs : List Record) (plan : Plan) → inode_size old ≤ 268435456
    → MayBecome (BecameDirectory rs) →
    (pages : List (List ℕ)) × Packs rs pages
    × (plan.changes.items ≡ packed_over (inode_block_count old) pages)
    × (plan.shape ≡ Some (record { kind = Directory; size = 1024 * length pages }))
    → Rises index_of 0 262144 plan.changes.items
directory-rises old rs plan small change (pages, packs, items, shape) =
    subst (λ (cs : List BlockChange). Rises index_of 0 262144 cs) (sym items)
    (packed-rises pages (inode_block_count old) 262144 (few_pages rs pages change packs)
    (few-blocks old small))
