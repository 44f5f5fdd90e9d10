-- What a checkpoint holds, by what the one before it does and by the files whose inodes changed.
use Rattle.std.proofs.Common.{◌≡◌, true, ◌⊎◌, ℕ, zero, suc, ◌+◌, ◌*◌, ◌<◌, Bool, cond, List, length, Option, Some, None, refl, ap, sym, subst, ◌∙◌, inl, inr}
use Rattle.std.specs.List.{Contains}
use Rattle.std.specs.Option.{is_some, option_map}
use Rattle.nl_types.specs.declared.kind.Kind.{Kind}
use Rattle.nl_types.specs.Inodes.{InodeContent, Bytes, Records, Inodes}
use Rattle.nl_types.specs.Blocks.Roots.{Pages, Root}
use Rattle.nl_layout.specs.Root.{root_of, root_told}
use Rattle.nl_layout.specs.declared.checkpoint_entry.CheckpointEntry.{CheckpointEntry}
use Rattle.nl_layout.specs.declared.inode.Inode.{Inode}
use Rattle.nl_layout.specs.declared.root.Root.{Root as CodeRoot}
use Rattle.nl_files.specs.CheckpointRoots.{StandsFor, Stores}
use Rattle.nl_ifile.specs.Inodes.{inode_at}
use Rattle.nl_tree.specs.Held.{Held, Holding, IsHolding, IsInodeNumber, MayHold, inodes_of_holding}
use Rattle.nl_check.specs.Conditions.{IsSoundTree}
use Rattle.nl_check.specs.InodeTrees.{used_below}
use Rattle.nl_check.specs.Judging.{told}
use Rattle.nl_check.specs.Shapes.{At}
use Rattle.nl_blocktree.specs.FileShapes.{IsSizeOf}
use Rattle.nl_check.specs.Trees.{IsTreeOf}
use Rattle.nl_check.specs.Private.AlikeNames.{AreAlike, AreFiles, NamesAlike}
use Rattle.nl_check.specs.Private.BesideTrees.{HasLeft}
use Rattle.nl_check.specs.Private.SoundInodes.{IsSoundInode, TellsAll, kind_in, kind_told}
use Rattle.nl_check.specs.Private.ChangedFiles.{AreAllListed, AreAllMet, AreFilesStill, AreNoted, HaveLater, IsLost, IsSameOrListed, IsSoundNow, IsToldStill, IsWalkedBeside}
use Rattle.nl_check.specs.Private.Walks.{AreSoundAt, IsGood, IsMetWhole, IsMetWholeAt, IsWalk}
use Rattle.nl_check.specs.declared.differing.ChangedFile.{ChangedFile}
use Rattle.nl_check.proofs.NamesStay.{forms-stay, names-stay}
use Rattle.nl_check.proofs.StepPlaces.{inode-case, turn-of}
use Rattle.nl_check.proofs.StepsBeside.{known-later}

-- ---- how many are in use

alike-used : (a b : Option InodeContent) → AreAlike a b → is_some a ≡ is_some b
alike-used None b e = sym (ap is_some e)
alike-used (Some (Bytes bytes)) b (other, e) = sym (ap is_some e)
alike-used (Some (Records records)) b e = sym (ap is_some e)

used-alike : (a b : Inodes) → NamesAlike a b → (n : ℕ) → used_below a n ≡ used_below b n
used-alike a b alike zero = refl
used-alike a b alike (suc n) =
    ap (λ (x : Bool). cond x 1 0 + used_below a n) (alike-used (a n) (b n) (alike n))
    ∙ ap (λ (k : ℕ). cond (is_some (b n)) 1 0 + k) (used-alike a b alike n)

module _ (pages : Pages) (old new : Root) (files : List ChangedFile)
    (listed : AreAllListed pages old new files)
    (sound : (f : ChangedFile) → Contains files f → IsSoundNow pages f) where
  -- ---- what inodes hold

  module _ (held : Holding) (stores : Stores pages old held) (limits : IsHolding held) where
    -- what a file that changed holds now, any other inode what it held
    held-by : (i : ℕ) → IsSameOrListed pages old new files i → Option Held
    held-by i (inl one) = held i
    held-by i (inr (f, c, number)) = let s = sound f c in s.sound.holding f.number

    held-now : Holding
    held-now i = held-by i (inode-case pages old new files listed i)

    stands-by : (i : ℕ) (case : IsSameOrListed pages old new files i)
        → StandsFor pages (inode_at pages new i) (held-by i case)
    unfolding held-by
    stands-by i (inl one) = subst (λ (o : Option Inode). StandsFor pages o (held i)) one (stores i)
    stands-by i (inr (f, c, number)) =
        let changed = listed.right f c in
        let s = sound f c in
        subst (λ (o : Option Inode). StandsFor pages o (s.sound.holding f.number))
        (sym changed.is ∙ ap (inode_at pages new) number) s.sound.stands

    stores-now : Stores pages new held-now
    unfolding held-now
    stores-now i = stands-by i (inode-case pages old new files listed i)

    number-by : (i : ℕ) (x : Held) (case : IsSameOrListed pages old new files i)
        → held-by i case ≡ Some x → IsInodeNumber i
    unfolding held-by
    number-by i x (inl one) is = limits.inode_numbers i x is
    number-by i x (inr (f, c, number)) is =
        let s = sound f c in subst IsInodeNumber number (s.sound.limits.inode_numbers f.number x is)

    may-by : (i : ℕ) (x : Held) (case : IsSameOrListed pages old new files i)
        → held-by i case ≡ Some x → MayHold (Some x)
    unfolding held-by
    may-by i x (inl one) is = limits.each i x is
    may-by i x (inr (f, c, number)) is = let s = sound f c in s.sound.limits.each f.number x is

    limits-now : IsHolding held-now
    unfolding held-now
    limits-now = record {
      inode_numbers = λ i x is. number-by i x (inode-case pages old new files listed i) is;
      each = λ i x is. may-by i x (inode-case pages old new files listed i) is;
    }

  -- ---- files alone changed

  module _ (still : AreFilesStill files (length files)) where
    each-case : (i : ℕ) → (inode_at pages old i ≡ inode_at pages new i)
        ⊎ AreFiles (inode_at pages old i) (inode_at pages new i)
    each-case i = by (inode-case pages old new files listed i)
      where
        by : IsSameOrListed pages old new files i → (inode_at pages old i ≡ inode_at pages new i)
            ⊎ AreFiles (inode_at pages old i) (inode_at pages new i)
        by (inl one) = inl one
        by (inr (f, c, number)) =
            let changed = listed.right f c in
            let both = still c.0 f c.1 (turn-of pages old new files listed f c) in
            inr (record {
              one = both.one;
              other = both.other;
              one_is = ap (inode_at pages old) (sym number) ∙ (changed.was ∙ both.one_is);
              other_is = ap (inode_at pages new) (sym number) ∙ (changed.is ∙ both.other_is);
              one_file = both.one_file;
              other_file = both.other_file;
            })

    -- the tree goes over
    pub tree-later : (size inodes count : ℕ) → IsTreeOf pages old size inodes → IsSizeOf pages new (1024 * count)
        → IsTreeOf pages new (1024 * count) inodes
    tree-later size inodes count t sized = record {
      holding = held-now t.holding t.stores t.limits;
      stores = stores-now t.holding t.stores t.limits;
      limits = limits-now t.holding t.stores t.limits;
      forms =
          forms-stay pages old new t.holding (held-now t.holding t.stores t.limits) t.stores
          (stores-now t.holding t.stores t.limits) each-case t.forms;
      counted =
          t.counted
          ∙ used-alike (inodes_of_holding t.holding)
          (inodes_of_holding (held-now t.holding t.stores t.limits))
          (names-stay pages old new t.holding (held-now t.holding t.stores t.limits) t.stores
          (stores-now t.holding t.stores t.limits) each-case) 524288;
      sized = sized;
    }

  -- ---- the kinds of inodes, and whether each is sound

  have-later : HaveLater files (inode_at pages new)
  have-later f c = let changed = listed.right f c in changed.is

  module _ (kinds kinds_new : List (Option Kind)) (t : TellsAll pages old kinds true)
      (noted : AreNoted (inode_at pages new) files (length files) kinds kinds_new) where
    kind-by : (i : ℕ) → i < 524288 → IsSameOrListed pages old new files i
        → kind_in kinds_new i ≡ kind_told (inode_at pages new i)
    kind-by i low (inl one) = elim (noted.others i low) [
      | inl as_before ↦ as_before ∙ (t.told i low ∙ ap kind_told one)
      | inr now ↦ now
    ]
    kind-by i low (inr (f, c, number)) =
        subst (λ (n : ℕ). kind_in kinds_new n ≡ kind_told (inode_at pages new n)) number
        (noted.here c.0 f c.1 (turn-of pages old new files listed f c)
        (subst (λ (n : ℕ). n < 524288) (sym number) low))

    sound-by : (i : ℕ) → IsSameOrListed pages old new files i → IsSoundInode pages i (inode_at pages new i)
    sound-by i (inl one) = subst (IsSoundInode pages i) one (t.all refl i)
    sound-by i (inr (f, c, number)) =
        let changed = listed.right f c in
        let s = sound f c in
        subst (λ (n : ℕ). IsSoundInode pages n (inode_at pages new n)) number
        (subst (IsSoundInode pages f.number) (sym changed.is) s.sound)

    pub told-later : length kinds_new ≡ length kinds → TellsAll pages new kinds_new true
    told-later same = record {
      count = same ∙ t.count;
      told = λ i low. kind-by i low (inode-case pages old new files listed i);
      all = λ _ i. sound-by i (inode-case pages old new files listed i);
      some_not = λ e. cc;
    }

-- ---- a whole step

pub walked-beside : (pages : Pages) (old new : Root) (before now after : List Bool)
    (kinds kinds_new : List (Option Kind)) (files : List ChangedFile) (count : ℕ)
    → IsMetWhole pages old before → AreAllListed pages old new files
    → HasLeft At (IsLost pages old new) before now → AreAllMet pages old new files now after count
    → length kinds_new ≡ length kinds
    → ((now : ℕ → Option Inode) → HaveLater files now → AreNoted now files (length files) kinds kinds_new)
    → IsWalkedBeside pages old new after kinds kinds_new files count
walked-beside pages old new before now after kinds kinds_new files count m listed l all long noted = record {
  known = known-later pages old new before now after m l all.met files listed count all;
  sized = all.sized;
  told = λ t.
      told-later pages old new files listed all.sound kinds kinds_new t
      (noted (inode_at pages new) (have-later pages old new files listed all.sound)) long;
  tree = λ still size inodes t.
      tree-later pages old new files listed all.sound still size inodes count t all.sized;
}

-- of checkpoints as their entries tell of them
module _ (pages : Pages) (last entry : CheckpointEntry) (before now : CodeRoot)
    (before_is : root_told last.root ≡ Some before) (now_is : root_told entry.root ≡ Some now) where
  told-before : (told last).root ≡ Some (root_of before)
  told-before = ap (option_map root_of) before_is

  told-now : (told entry).root ≡ Some (root_of now)
  told-now = ap (option_map root_of) now_is

  own-root : (r : Root) → (told last).root ≡ Some r → r ≡ root_of before
  own-root r is = let one : Some r ≡ Some (root_of before) = sym is ∙ told-before in cc

  pub known-before : (numbers : List Bool) → IsMetWholeAt pages (told last) numbers
      → IsMetWhole pages (root_of before) numbers
  known-before numbers (r, is, m) = subst (λ (x : Root). IsMetWhole pages x numbers) (own-root r is) m

  module _ (after : List Bool) (kinds kinds_new : List (Option Kind)) (files : List ChangedFile) (count : ℕ)
      (asked : Bool) (sound : asked ≡ true → AreSoundAt pages (told last) kinds)
      (w : IsWalkedBeside pages (root_of before) (root_of now) after kinds kinds_new files count) where
    told-sound : asked ≡ true → TellsAll pages (root_of now) kinds_new true
    told-sound is =
        let s = sound is in
        w.told (subst (λ (x : Root). TellsAll pages x kinds true) (own-root s.0 s.1) s.2)

    -- it is walked as if it was judged by itself
    pub walk-beside : asked ≡ true → IsWalk pages (root_of now) after kinds_new (record { count = count; sound = true })
    walk-beside is = record { known = w.known; sized = w.sized; told = told-sound is }

    -- the tree goes over
    pub tree-still : IsToldStill files count last entry → IsSoundTree pages (told last)
        → IsTreeOf pages (root_of now) entry.size entry.inodes
    tree-still still (r, is, t) =
        subst (λ (n : ℕ). IsTreeOf pages (root_of now) n entry.inodes) (sym still.size)
        (subst (IsTreeOf pages (root_of now) (1024 * count)) (sym still.inodes)
        (w.tree still.files_still last.size last.inodes
        (subst (λ (x : Root). IsTreeOf pages x last.size last.inodes) (own-root r is) t)))

    pub good-beside : (asked ≡ true → IsTreeOf pages (root_of now) entry.size entry.inodes)
        → IsGood pages (told entry) after kinds_new asked
    good-beside holds = record {
      known = (root_of now, told-now, w.known);
      sound = λ is. (root_of now, told-now, told-sound is);
      tree = λ is. (root_of now, told-now, holds is);
    }
