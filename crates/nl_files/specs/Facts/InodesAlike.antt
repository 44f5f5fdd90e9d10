-- Inodes that stand for one thing have the same blocks.
use Rattle.std.proofs.Common.{◌≡◌, ℕ, List, length, Option, Some, None, refl, ap, sym, subst, ◌∙◌}
use Rattle.std.specs.Prelude.{◌*◌, map}
use Rattle.std.specs.List.{slice_get}
use Rattle.std.proofs.lemmas.List.{length-map}
use Rattle.std.proofs.lemmas.Option.{slice_get-map}
use Rattle.nl_types.specs.Blocks.Roots.{Blocks, Empty, Pages, page_at, place_at}
use Rattle.nl_layout.specs.Root.{root_of}
use Rattle.nl_layout.specs.declared.root.Root.{Root as CodeRoot}
use Rattle.nl_layout.specs.declared.root.Root.TheVariants as code_root
use Rattle.nl_layout.specs.declared.inode.Inode.{Inode}
use Rattle.nl_layout.specs.declared.inode.InodeKind.{InodeKind}
use Rattle.nl_layout.specs.declared.inode.InodeKind.TheVariants.{File, Directory, InodeFile}
use Rattle.nl_dirs.specs.declared.record.Record.{Record}
use Rattle.nl_dirs.specs.Records.{packed_block}
use Rattle.nl_dirs.specs.Listings.{HoldsRecords}
use Rattle.nl_dirs.specs.Facts.Blocks.{packings-one}
use Rattle.nl_tree.specs.Held.{Held, Listed, Stored, held_block, held_size}
use Rattle.nl_files.specs.CheckpointRoots.{StandsAs, StandsFor, inode_root}
use Rattle.nl_files.specs.Facts.Following.{some-held}

root_of-one : (a b : CodeRoot) → root_of a ≡ root_of b → a ≡ b
root_of-one code_root.Empty code_root.Empty e = refl
root_of-one code_root.Empty (code_root.Chain t) e = cc
root_of-one code_root.Empty (code_root.Tree h t) e = cc
root_of-one (code_root.Chain t) code_root.Empty e = cc
root_of-one (code_root.Chain t) (code_root.Chain u) e = let top : t ≡ u = cc in ap code_root.Chain top
root_of-one (code_root.Chain t) (code_root.Tree h u) e = cc
root_of-one (code_root.Tree g t) code_root.Empty e = cc
root_of-one (code_root.Tree g t) (code_root.Chain u) e = cc
root_of-one (code_root.Tree g t) (code_root.Tree h u) e =
    let height : g ≡ h = cc in
    let top : t ≡ u = cc in
    ap (λ (k : ℕ). code_root.Tree k t) height ∙ ap (code_root.Tree h) top

inode-one : (n m : Inode) → n.kind ≡ m.kind → n.root ≡ m.root → n.size ≡ m.size → n ≡ m
inode-one n m kind root size = λ i. record { kind = kind i; root = root i; size = size i }

-- two inodes have the same blocks, and are one where they have one root
pub record AreInodesAlike (pages other : Pages) (one alike : Option Inode) : Type 0 where
  pub blocks : (b : ℕ) → page_at pages (inode_root one) b ≡ page_at other (inode_root alike) b
  pub same : inode_root one ≡ inode_root alike → one ≡ alike

inodes-alike : (pages other : Pages) (n m : Inode) → n.kind ≡ m.kind → n.size ≡ m.size →
    ((b : ℕ) → page_at pages (root_of n.root) b ≡ page_at other (root_of m.root) b)
    → AreInodesAlike pages other (Some n) (Some m)
inodes-alike pages other n m kind size blocks = record {
  blocks = blocks;
  same = λ e. ap (λ (x : Inode). Some x) (inode-one n m kind (root_of-one n.root m.root e) size);
}

-- the blocks and the size of a directory with these records
directory-one : (blocks others : Blocks) (size other : ℕ) (records : List Record)
    → HoldsRecords blocks size records → HoldsRecords others other records →
    ((b : ℕ) → blocks b ≡ others b) × (size ≡ other)
directory-one blocks others size other records h k = (
  λ b. h.stored b ∙ (sym (slice_get-map packed_block h.packed b)
      ∙ (ap (λ (bs : List (List ℕ)). slice_get bs b) same
      ∙ (slice_get-map packed_block k.packed b ∙ sym (k.stored b)))),
  h.sized ∙ (ap (λ (n : ℕ). 1024 * n) long ∙ sym k.sized),
)
  where
    same : map packed_block h.packed ≡ map packed_block k.packed
    same =
        packings-one records records (map packed_block h.packed)
        (map packed_block k.packed) h.ascending h.ascending (λ name. refl)
        (record { packed = h.packed; is_packed = h.is_packed; pages = refl })
        (record { packed = k.packed; is_packed = k.is_packed; pages = refl })

    long : length h.packed ≡ length k.packed
    long = sym (length-map h.packed packed_block) ∙ (ap length same ∙ length-map k.packed packed_block)

kinds-alike : (pages other : Pages) (held : Option Held) (n m : Inode) (kind alike : InodeKind)
    → n.kind ≡ kind → m.kind ≡ alike →
    StandsAs (page_at pages (root_of n.root)) kind n.size held
    → StandsAs (page_at other (root_of m.root)) alike m.size held
    → AreInodesAlike pages other (Some n) (Some m)
kinds-alike pages other held n m File File p q s t =
    let e : Some (Stored n.size (page_at pages (root_of n.root)))
    ≡ Some (Stored m.size (page_at other (root_of m.root))) =
    sym s ∙ t in
    inodes-alike pages other n m (p ∙ sym q) (ap held_size e)
    (λ b. ap (λ (o : Option Held). held_block o b) e)
kinds-alike pages other held n m File Directory p q s t =
    let no : Some (Stored n.size (page_at pages (root_of n.root))) ≡ Some (Listed t.0) = sym s ∙ t.2 in cc
kinds-alike pages other held n m Directory File p q s t =
    let no : Some (Listed s.0) ≡ Some (Stored m.size (page_at other (root_of m.root))) = sym s.2 ∙ t in cc
kinds-alike pages other held n m Directory Directory p q s t =
    let e : Some (Listed t.0) ≡ Some (Listed s.0) = sym t.2 ∙ s.2 in
    let records : t.0 ≡ s.0 = cc in
    let one =
    directory-one (page_at pages (root_of n.root)) (page_at other (root_of m.root)) n.size m.size s.0 s.1
    (subst (λ (rs : List Record). HoldsRecords (page_at other (root_of m.root)) m.size rs) records t.1) in
    inodes-alike pages other n m (p ∙ sym q) one.1 one.0
kinds-alike pages other held n m InodeFile k p q s t = absurd s
kinds-alike pages other held n m File InodeFile p q s t = absurd t
kinds-alike pages other held n m Directory InodeFile p q s t = absurd t

none-held : (pages : Pages) (n : Inode) (held : Option Held) → held ≡ None → StandsFor pages (Some n) held → ⊥
none-held pages n held none stands =
    let some = some-held n.kind _ n.size held stands in let no : None ≡ Some some.0 = sym none ∙ some.1 in cc

empty-page : (pages : Pages) (b : ℕ) → page_at pages Empty b ≡ None
unfolding place_at
empty-page pages b = refl

-- inodes that stand for one thing are alike
pub stand-alike : (pages other : Pages) (one alike : Option Inode) (held : Option Held)
    → StandsFor pages one held → StandsFor other alike held → AreInodesAlike pages other one alike
stand-alike pages other None None held s t =
    record { blocks = λ b. empty-page pages b ∙ sym (empty-page other b); same = λ e. refl }
stand-alike pages other None (Some m) held s t = absurd (none-held other m held s t)
stand-alike pages other (Some n) None held s t = absurd (none-held pages n held t s)
stand-alike pages other (Some n) (Some m) held s t =
    kinds-alike pages other held n m n.kind m.kind refl refl s t
