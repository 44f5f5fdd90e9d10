-- A tree is settled over a checkpoint in one way, but for the bytes of nodes: what its inodes hold tells what
-- is written, and numbers are given in turn.
use Rattle.std.proofs.Common.{◌≡◌, ◌⊎◌, ℕ, true, List, [], ◌∷◌, length, refl, ap, sym, subst, ◌∙◌, arith, inl, inr}
use Rattle.std.specs.Prelude.{◌==◌, if◌then◌else◌}
use Rattle.std.proofs.lemmas.Bool.{cases_eq, eq-eqb, ne_eqb}
use Rattle.std.proofs.lemmas.List.{length-map}
use Rattle.nl_types.specs.Facts.PartialMaps.{same_at_all}
use Rattle.nl_types.specs.Blocks.Entries.{Birth, Content}
use Rattle.nl_types.specs.Plain.NumberLists.{NoneTwice, is_one_of}
use Rattle.nl_types.specs.Blocks.Roots.{Root, page_at, pages_of}
use Rattle.nl_types.specs.Blocks.RootChanges.{IsSound, born, with_births}
use Rattle.nl_vstore.specs.Batches.{Changes}
use Rattle.nl_blocktree.specs.Checkpoints.{ArePut, batch_after, inodes_of, no_changes, roots_after}
use Rattle.nl_blocktree.specs.Putting.{PutsAll, pages_after}
use Rattle.nl_blocktree.specs.Facts.Staying.{unwritten}
use Rattle.nl_ifile.specs.Inodes.{InodeMap, block_for, in_block, inode_at}
use Rattle.nl_tree.specs.Became.{Became}
use Rattle.nl_tree.specs.Held.{Holding, IsHolding}
use Rattle.nl_files.specs.CheckpointRoots.{IsCheckpointRoot, Stores, inode_root, roots_at}
use Rattle.nl_files.specs.OneSettling.{CleanTreesWriteNothing}
use Rattle.nl_files.specs.Settles.{Settles}
use Rattle.nl_files.specs.Facts.PutsAlike.{SameBatchAndRoot, put-alike}
use Rattle.nl_files.specs.Facts.Staying.{no_inode-six, root-at_others, root-sound}
use Rattle.nl_files.specs.Facts.FilesAlike.{AreFilesAlike, apart-last, blocks-alike, files-alike, front-once, last-put, past-last}
use Rattle.nl_files.specs.Facts.InodesAlike.{AreInodesAlike, stand-alike}

-- ---- one settling

module _ (content : Content) (root new : Root) (became : List (ℕ × Became)) (held : Holding) (batch : Changes)
    (s : Settles content root new became held batch) where
  abbrev old : ℕ → Root
  old = roots_at (pages_of content) root

  pub files_put : ArePut content old no_changes s.files
  files_put = (last-put content old no_changes s.files s.inode_file s.put).0

  pub inodes_put : PutsAll content 6 (old 6) new s.inode_file.changes (batch_after s.files no_changes) batch
  inodes_put =
      subst
      (λ (n : ℕ). PutsAll content n (old n) new s.inode_file.changes (batch_after s.files no_changes) batch)
      s.is_inode_file
      (subst (λ (r : Root).
      PutsAll content s.inode_file.inode (old s.inode_file.inode) r s.inode_file.changes
      (batch_after s.files no_changes) batch)
      (sym s.root_is)
      (subst (λ (b : Changes).
      PutsAll content s.inode_file.inode (old s.inode_file.inode) s.inode_file.root s.inode_file.changes
      (batch_after s.files no_changes) b)
      (sym s.batch_is)
      (last-put content old no_changes s.files s.inode_file s.put).1))

  pub files_once : NoneTwice (inodes_of s.files)
  files_once = front-once s.files s.inode_file s.once

  pub not_inodes : (i : ℕ) → is_one_of (inodes_of s.files) i ≡ true → i ≡ 6 → ⊥
  not_inodes i h e = apart-last s.files s.inode_file s.once i h (e ∙ sym s.is_inode_file)

  -- the root that an inode has in the end
  pub root_after : (i : ℕ) → (i ≡ 6 → ⊥)
      → roots_after s.files old i ≡ inode_root (inode_at (pages_after content batch) new i)
  root_after i not =
      sym (past-last s.files s.inode_file old i (λ e. not (e ∙ s.is_inode_file)))
      ∙ (s.roots i ∙ root-at_others (pages_after content batch) new i not)

-- ---- two of them

module _ (content : Content) (root new other : Root) (became : List (ℕ × Became)) (held : Holding)
    (one two : Changes) (checkpoint : IsCheckpointRoot content root)
    (holding : IsHolding held) (s : Settles content root new became held one)
    (t : Settles content root other became held two) where
  old-sound : (i : ℕ) → IsSound (pages_of content) (roots_at (pages_of content) root i)
  old-sound =
      root-sound (pages_of content) root
      (record {
        inode_file = checkpoint.inode_file.sound;
        inodes = checkpoint.inodes;
        each = λ i. (checkpoint.each i).sound;
      })

  at : (i : ℕ)
      → AreInodesAlike (pages_after content one) (pages_after content two)
      (inode_at (pages_after content one) new i) (inode_at (pages_after content two) other i)
  at i =
      stand-alike (pages_after content one) (pages_after content two)
      (inode_at (pages_after content one) new i) (inode_at (pages_after content two) other i) (held i)
      (s.stores i) (t.stores i)

  all_files : AreFilesAlike (pages_after content one) (pages_after content two) s.files t.files
  all_files =
      blocks-alike (pages_after content one) (pages_after content two)
      (roots_at (pages_of content) root) s.files t.files (s.became_are ∙ sym t.became_are)
      (files_once content root new became held one s)
      (λ i h b.
      let not = not_inodes content root new became held one s i h in
      ap (λ (r : Root). page_at (pages_after content one) r b)
      (root_after content root new became held one s i not)
      ∙ ((at i).blocks b
      ∙ sym (ap (λ (r : Root). page_at (pages_after content two) r b)
      (root_after content root other became held two t i not))))

  last : PutsAll content 6 (roots_at (pages_of content) root 6) new s.inode_file.changes
      (batch_after s.files no_changes) one
  last = inodes_put content root new became held one s

  last' : PutsAll content 6 (roots_at (pages_of content) root 6) other t.inode_file.changes
      (batch_after t.files no_changes) two
  last' = inodes_put content root other became held two t

  files : (born (batch_after s.files no_changes).births ≡ born (batch_after t.files no_changes).births)
      × ((i : ℕ)
      → roots_after s.files (roots_at (pages_of content) root) i
      ≡ roots_after t.files (roots_at (pages_of content) root) i)
  files =
      files-alike content
      (roots_at (pages_of content) root) old-sound one two last.unused last'.unused no_changes no_changes
      s.files t.files
      (files_put content root new became held one s)
      (files_put content root other became held two t) all_files
      (last.births, last.births_are) (last'.births, last'.births_are) refl

  inodes : (i : ℕ) → inode_at (pages_after content one) new i ≡ inode_at (pages_after content two) other i
  inodes i = elim (cases_eq i 6) [
    | inl is ↦
        ap (inode_at (pages_after content one) new) is
        ∙ (no_inode-six (pages_after content one) (inode_at (pages_after content one) new 6) held
        (s.stores 6) holding
        ∙ sym (ap (inode_at (pages_after content two) other) is
        ∙ no_inode-six (pages_after content two) (inode_at (pages_after content two) other 6) held
        (t.stores 6) holding))
    | inr not ↦
        (at i).same (sym (root_after content root new became held one s i not)
        ∙ (files.1 i ∙ root_after content root other became held two t i not))
  ]

  blocks : (b : ℕ) → page_at (pages_after content one) new b ≡ page_at (pages_after content two) other b
  blocks b =
      s.sound.inodes b ∙ (ap (λ (all : InodeMap). block_for (in_block all b))
      (same_at_all (inode_at (pages_after content one) new) (inode_at (pages_after content two) other) inodes)
      ∙ sym (t.sound.inodes b))

  both : SameBatchAndRoot one two new other
  both =
      put-alike content 6
      (roots_at (pages_of content) root 6) new other s.inode_file.changes t.inode_file.changes
      (batch_after s.files no_changes) one (batch_after t.files no_changes) two
      last last' (old-sound 6) blocks files.0

  pub settlings-alike : (length one.births ≡ length two.births) × (other ≡ new)
  settlings-alike = (sym (length-map one.births _) ∙ (ap length both.0 ∙ length-map two.births _), sym both.1)

-- ---- nothing differs

nothing-put : (content : Content) (root : Root) → IsSound (pages_of content) root
    → PutsAll content 6 root root [] no_changes no_changes
unfolding with_births
nothing-put content root sound = record {
  births = [];
  ends = [];
  births_are = refl;
  ends_are = refl;
  lowest_free = tt;
  unused = λ v k. absurd (let l = k.1 in omega arith);
  rewrites = record {
    in_order = λ i j d l m. absurd (omega (arith, m));
    of_inode = λ k d l. absurd (omega (arith, l));
    born_placed = λ b k. absurd (let l = k.1 in omega arith);
    born_written = λ b k. absurd (let l = k.1 in omega arith);
    written_born = λ level offset w.
        absurd
        (unwritten (pages_of content) (pages_of content) root (λ x y. refl) (λ i. refl) level offset w);
    born_or_kept = λ level offset v e. inr e;
    ended_or_kept = λ level offset v e. inr ((level, offset), e);
    ended_once = λ i j d l m. absurd (omega (arith, m));
    ended_placed = λ v k. absurd (let l = k.1 in omega arith);
    ended_lost = λ v k r. absurd (let l = k.1 in omega arith);
  };
  blocks = λ i. refl;
  sound = sound;
  same_root = λ same. refl;
  kind = inl refl;
}

-- a tree from which nothing differs can be settled so
clean-settles : (content : Content) (root : Root) (held : Holding) → IsCheckpointRoot content root
    → Stores (pages_of content) root held → Settles content root root [] held no_changes
unfolding with_births
clean-settles content root held checkpoint stores = record {
  files = [];
  inode_file = record { inode = 6; changes = []; root = root; batch = no_changes };
  is_inode_file = refl;
  once = (refl, tt);
  in_order = λ i j d k m. absurd (omega (arith, k, m));
  became_are = refl;
  put = (nothing-put content root checkpoint.inode_file.sound, tt);
  batch_is = refl;
  root_is = refl;
  roots = λ i. each i (cases_eq i 6);
  sound = record {
    inode_file = checkpoint.inode_file.sound;
    inodes = checkpoint.inodes;
    each = λ i. (checkpoint.each i).sound;
  };
  stores = stores;
}
  where
    each : (i : ℕ) → (i ≡ 6) ⊎ (i ≡ 6 → ⊥)
        → (if i == 6 then root else roots_at (pages_of content) root i) ≡ roots_at (pages_of content) root i
    each i (inl is) = rw (eq-eqb i 6 is) refl
    each i (inr not) = rw (ne_eqb i 6 not) refl

pub clean-write_nothing : CleanTreesWriteNothing
clean-write_nothing content root new held batch checkpoint holding stores s =
    let alike =
    settlings-alike content root new root [] held batch no_changes checkpoint holding s
    (clean-settles content root held checkpoint stores) in
    (none batch.births alike.0, sym alike.1)
  where
    none : (births : List Birth) → length births ≡ 0 → births ≡ []
    none [] e = refl
    none (b ∷ births) e = absurd (omega (arith, e))
