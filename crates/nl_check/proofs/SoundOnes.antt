-- Inodes that are sound, each by itself.
use Rattle.std.proofs.Common.{◌≡◌, ℕ, Bool, true, false, cond, Some, None, refl, ap, sym, subst}
use Rattle.std.specs.Prelude.{◌==◌}
use Rattle.std.proofs.lemmas.Bool.{eqb-true, eq-eqb}
use Rattle.nl_types.specs.Blocks.Roots.{Blocks, Pages, page_at}
use Rattle.nl_layout.specs.Root.{root_of}
use Rattle.nl_layout.specs.declared.inode.Inode.{Inode}
use Rattle.nl_layout.specs.declared.inode.InodeKind.{InodeKind}
use Rattle.nl_layout.specs.declared.inode.InodeKind.TheVariants.{File, Directory, InodeFile}
use Rattle.nl_files.specs.CheckpointRoots.{StandsAs}
use Rattle.nl_tree.specs.Held.{Held, Holding, IsHolding, IsInodeNumber, Listed, MayHold, Stored}
use Rattle.nl_check.specs.Private.SoundFiles.{IsSoundDirectory, IsSoundFile}
use Rattle.nl_check.specs.Private.SoundInodes.{IsMeasured, IsSoundInode}

-- one inode in use, and no other
alone : ℕ → Held → Holding
alone n held i = cond (i == n) (Some held) None

alone-all : (P : ℕ → Held → Type 0) (n : ℕ) (held : Held) → P n held → (i : ℕ) (x : Held)
    → alone n held i ≡ Some x → P i x
unfolding alone
alone-all P n held p i x is = by (i == n) refl is
  where
    by : (b : Bool) → (i == n) ≡ b → cond b (Some held) None ≡ Some x → P i x
    by true e h =
        let number : n ≡ i = sym (eqb-true i n e) in
        let same : held ≡ x = cc in
        subst (P i) same (subst (λ (k : ℕ). P k held) number p)
    by false e h = cc

alone-here : (n : ℕ) (held : Held) → alone n held n ≡ Some held
unfolding alone
alone-here n held = ap (λ (b : Bool). cond b (Some held) None) (eq-eqb n n refl)

alone-holding : (n : ℕ) (held : Held) → IsInodeNumber n → MayHold (Some held) → IsHolding (alone n held)
alone-holding n held number may = record {
  inode_numbers = λ i x is. alone-all (λ (k : ℕ) (y : Held). IsInodeNumber k) n held number i x is;
  each = λ i x is. alone-all (λ (k : ℕ) (y : Held). MayHold (Some y)) n held may i x is;
}

module _ (pages : Pages) (number : ℕ) (inode : Inode) where
  blocks : Blocks
  blocks = page_at pages (root_of inode.root)

  pub file-sound : (count : ℕ) → inode.kind ≡ File → IsInodeNumber number
      → IsMeasured pages (root_of inode.root) count
      → IsSoundFile (page_at pages (root_of inode.root)) inode.size → IsSoundInode pages number (Some inode)
  unfolding blocks
  file-sound count kind n m sound = record {
    holding = alone number (Stored inode.size blocks);
    stands =
        subst
        (λ (k : InodeKind). StandsAs blocks k inode.size (alone number (Stored inode.size blocks) number))
        (sym kind) (alone-here number (Stored inode.size blocks));
    limits =
        alone-holding number (Stored inode.size blocks) n
        (record { small = sound.most; none_past = sound.none_past; zeros = sound.zeros; whole = m.whole });
  }

  pub directory-sound : inode.kind ≡ Directory → IsInodeNumber number
      → IsSoundDirectory (page_at pages (root_of inode.root)) inode.size
      → IsSoundInode pages number (Some inode)
  unfolding blocks
  directory-sound kind n d = record {
    holding = alone number (Listed d.records);
    stands =
        subst (λ (k : InodeKind). StandsAs blocks k inode.size (alone number (Listed d.records) number))
        (sym kind) (d.records, d.holds, alone-here number (Listed d.records));
    limits =
        alone-holding number (Listed d.records) n
        (record { ascending = d.holds.ascending; names = d.sound.each; count = d.sound.few });
  }

  -- ---- the other way round

  module _ (s : IsSoundInode pages number (Some inode)) where
    stands-as : (k : InodeKind) → inode.kind ≡ k
        → StandsAs (page_at pages (root_of inode.root)) k inode.size (s.holding number)
    stands-as k is =
        subst
        (λ (k : InodeKind). StandsAs (page_at pages (root_of inode.root)) k inode.size (s.holding number))
        is s.stands

    pub sound-file-of : inode.kind ≡ File → IsSoundFile (page_at pages (root_of inode.root)) inode.size
    sound-file-of kind =
        let file =
        s.limits.each number (Stored inode.size (page_at pages (root_of inode.root)))
        (stands-as File kind) in
        record { most = file.small; none_past = file.none_past; zeros = file.zeros }

    pub sound-directory-of : inode.kind ≡ Directory
        → IsSoundDirectory (page_at pages (root_of inode.root)) inode.size
    sound-directory-of kind =
        let (records, holds, is) = stands-as Directory kind in
        let may = s.limits.each number (Listed records) is in
        record { records = records; holds = holds; sound = record { each = may.names; few = may.count } }

    pub no-inode-file : inode.kind ≡ InodeFile → ⊥
    no-inode-file kind = stands-as InodeFile kind

    pub number-of : IsInodeNumber number
    number-of = by inode.kind refl
      where
        by : (k : InodeKind) → inode.kind ≡ k → IsInodeNumber number
        by File kind =
            s.limits.inode_numbers number (Stored inode.size (page_at pages (root_of inode.root)))
            (stands-as File kind)
        by Directory kind = let d = stands-as Directory kind in s.limits.inode_numbers number (Listed d.0) d.2
        by InodeFile kind = absurd (no-inode-file kind)

-- a number that isn't in use is sound
pub none-sound : (pages : Pages) (number : ℕ) → IsSoundInode pages number None
none-sound pages number = record {
  holding = λ _. None;
  stands = refl;
  limits = record {
    inode_numbers = λ i held is. cc;
    each = λ i held is. cc;
  };
}
