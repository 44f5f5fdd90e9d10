-- What a checkpoint's inode holds, as its blocks.
use Rattle.std.proofs.Common.{◌≡◌, ◌⊎◌, ℕ, zero, suc, ◌+◌, ◌/◌, ◌<◌, ◌≤◌, List, [], ◌∷◌, length, Option, Some, None, refl, ap, subst, ◌∙◌, arith, inl, inr}
use Rattle.std.specs.List.{slice_get}
use Rattle.std.specs.Option.{option_map, option_and_then}
use Rattle.std.proofs.lemmas.Bool.{cases_lt}
use Rattle.nl_types.specs.Blocks.Entries.{Content}
use Rattle.nl_types.specs.Blocks.Roots.{Pages, Root, Empty, page_at, pages_of, place_at}
use Rattle.nl_types.specs.Blocks.RootChanges.{IsSound}
use Rattle.nl_layout.specs.Root.{root_of}
use Rattle.nl_layout.specs.declared.inode.Inode.{Inode}
use Rattle.nl_layout.specs.declared.inode.InodeKind.{InodeKind}
use Rattle.nl_layout.specs.declared.inode.InodeKind.TheVariants.{File, Directory, InodeFile}
use Rattle.nl_ifile.specs.Inodes.{inode_at}
use Rattle.nl_dirs.specs.Records.{packed_block}
use Rattle.nl_dirs.specs.Listings.{HoldsRecords}
use Rattle.nl_dirs.specs.declared.record.Record.{Record}
use Rattle.nl_tree.specs.Held.{Holding, IsHolding, Stored}
use Rattle.nl_files.specs.CheckpointRoots.{IsCheckpointRoot, StandsAs, StandsFor, inode_root}
use Rattle.nl_files.specs.Private.Planned.{IsBase, inode_size}

past : {X : Type 0} (xs : List X) (b : ℕ) → length xs ≤ b → slice_get xs b ≡ None
past [] b l = refl
past (x ∷ xs) zero l = absurd (omega arith)
past (x ∷ xs) (suc b) l = past xs b (omega arith)

within : {X : Type 0} (xs : List X) (b : ℕ) → b < length xs → (x : X) × (slice_get xs b ≡ Some x)
within [] b l = absurd (omega arith)
within (x ∷ xs) zero l = (x, refl)
within (x ∷ xs) (suc b) l = within xs b (omega arith)

placed-some : (pages : Pages) (o : Option ℕ) (x : List ℕ) → option_and_then pages o ≡ Some x
    → (v : ℕ) × (o ≡ Some v)
placed-some pages None x e = cc
placed-some pages (Some v) x e = (v, refl)

-- a directory's blocks are no more than a root has
few-packed : (pages : Pages) (root : Root) (size : ℕ) (rs : List Record) → IsSound pages root
    → (h : HoldsRecords (page_at pages root) size rs) → length h.packed ≤ 262144
few-packed pages root size rs sound h = step (cases_lt 262144 (length h.packed))
  where
    step : (262144 < length h.packed) ⊎ (length h.packed ≤ 262144) → length h.packed ≤ 262144
    step (inr l) = l
    step (inl l) =
        let x = within h.packed 262144 l in
        let v =
        placed-some pages (place_at pages root 0 262144) (packed_block x.0)
        (h.stored 262144 ∙ ap (option_map packed_block) x.1) in
        absurd (let no = sound.in_range 0 262144 v.0 v.1 in omega (arith, no))

record Extent (blocks : ℕ → Option (List ℕ)) (size : ℕ) : Type 0 where
  pub ends : (b : ℕ) → (size + 1023) / 1024 ≤ b → blocks b ≡ None
  pub small : size ≤ 268435456

extent : (kind : InodeKind) (pages : Pages) (root : Root) (size : ℕ) (v : Holding) (i : ℕ)
    → StandsAs (page_at pages root) kind size (v i) → IsHolding v → IsSound pages root
    → Extent (page_at pages root) size
extent File pages root size v i is volume sound =
    let file = volume.each i (Stored size (page_at pages root)) is in
    record { ends = λ b l. file.none_past b (omega arith); small = omega (arith, file.small) }
extent Directory pages root size v i is volume sound =
    let h = is.1 in
    let few = few-packed pages root size is.0 sound h in
    record {
      ends = λ b l.
          h.stored b
          ∙ ap (option_map packed_block) (past h.packed b (let e = h.sized in omega (arith, e, l)));
      small = let e = h.sized in omega (arith, e, few);
    }
extent InodeFile pages root size v i is volume sound = absurd is

no_block : (pages : Pages) (b : ℕ) → page_at pages Empty b ≡ None
unfolding place_at
no_block pages b = refl

pub base-at : (pages : Pages) (old : Option Inode) (v : Holding) (i : ℕ) → StandsFor pages old (v i)
    → IsHolding v → IsSound pages (inode_root old) → IsBase (page_at pages (inode_root old)) old (v i)
base-at pages None v i is volume sound = record {
  none = λ e. is;
  some = λ n e. cc;
  ends = λ b l. no_block pages b;
}
base-at pages (Some n) v i is volume sound = record {
  none = λ e. cc;
  some = λ m e.
      let same : n ≡ m = cc in
      subst (λ (x : Inode). StandsAs (page_at pages (root_of n.root)) x.kind x.size (v i)) same is;
  ends = (extent n.kind pages (root_of n.root) n.size v i is volume sound).ends;
}

pub small-at : (pages : Pages) (old : Option Inode) (v : Holding) (i : ℕ) → StandsFor pages old (v i)
    → IsHolding v → IsSound pages (inode_root old) → inode_size old ≤ 268435456
small-at pages None v i is volume sound = omega arith
small-at pages (Some n) v i is volume sound =
    (extent n.kind pages (root_of n.root) n.size v i is volume sound).small

pub small-in : (content : Content) (root : Root) (i : ℕ) → IsCheckpointRoot content root
    → inode_size (inode_at (pages_of content) root i) ≤ 268435456
small-in content root i c =
    small-at (pages_of content) (inode_at (pages_of content) root i) c.holds.0 i (c.holds.1 i) c.holds.2
    (c.each i).sound
