-- Two ways to put changes into files, one after another, that lead to the same blocks: they give the same
-- numbers, and one root for each file.
use Rattle.std.proofs.Common.{◌≡◌, ◌⊎◌, ℕ, Bool, true, false, List, [], ◌∷◌, ◌++◌, refl, ap, sym, subst, ◌∙◌, inl, inr, append_assoc}
use Rattle.std.specs.Prelude.{◌||◌, ◌==◌, if◌then◌else◌}
use Rattle.std.specs.List.{Contains}
use Rattle.std.proofs.lemmas.Bool.{cases_eq, eq-eqb, ne_eqb}
use Rattle.std.proofs.lemmas.List.Elements.{Contains-append_right}
use Rattle.nl_types.specs.Facts.PartialMaps.{or_false}
use Rattle.nl_types.specs.Blocks.Entries.{Birth, Content}
use Rattle.nl_types.specs.Plain.NumberLists.{NoneTwice, is_one_of}
use Rattle.nl_types.specs.Blocks.Roots.{Pages, Root, page_at, pages_of}
use Rattle.nl_types.specs.Blocks.RootChanges.{IsSound, KeepsFile, born, with_births}
use Rattle.nl_vstore.specs.Batches.{Changes}
use Rattle.nl_blocktree.specs.Checkpoints.{ArePut, FileChange, batch_after, inodes_of, roots_after}
use Rattle.nl_blocktree.specs.Numbering.{IsUnused}
use Rattle.nl_blocktree.specs.Putting.{PutsAll, pages_after}
use Rattle.nl_blocktree.specs.Facts.Frames.{keeps-file, more-keep}
use Rattle.nl_blocktree.specs.Facts.Numbers.{born-append}
use Rattle.nl_files.specs.Facts.PutsAlike.{SameBatchAndRoot, put-alike}
use Rattle.nl_files.specs.Facts.Steps.{births-added}

-- ---- batches that go on

abbrev pub Begins : List Birth → List Birth → Type 0
Begins before all = (more : List Birth) × (all ≡ before ++ more)

pub begins-through : (a b c : List Birth) → Begins a b → Begins b c → Begins a c
begins-through a b c p q =
    (p.0 ++ q.0, q.1 ∙ (ap (λ (bs : List Birth). bs ++ q.0) p.1 ∙ append_assoc a p.0 q.0))

-- a file that is in a batch stays to its end
pub stays-on : (content : Content) (before all : List Birth) (root : Root) → Begins before all
    → IsUnused content all → IsSound (with_births before (pages_of content)) root →
    KeepsFile (with_births before (pages_of content)) (with_births all (pages_of content)) root
stays-on content before all root begins unused sound =
    subst (λ (bs : List Birth).
    KeepsFile (with_births before (pages_of content)) (with_births bs (pages_of content)) root)
    (sym begins.1)
    (keeps-file (with_births before (pages_of content))
    (with_births (before ++ begins.0) (pages_of content)) root
    (more-keep content before begins.0 later) sound)
  where
    later : IsUnused content begins.0
    later v k = unused v (subst (λ (bs : List Birth). Contains (born bs) v) (sym begins.1)
        (subst (λ (ns : List ℕ). Contains ns v) (sym (born-append before begins.0))
        (Contains-append_right (born before) (born begins.0) v k)))

-- ---- files with the same blocks at the end

-- the same inodes, with roots of the same blocks
abbrev pub AreFilesAlike : Pages → Pages → List FileChange → List FileChange → Type 0
AreFilesAlike pages other [] [] = Unit {0}
AreFilesAlike pages other [] (y ∷ ys) = ⊥
AreFilesAlike pages other (x ∷ xs) [] = ⊥
AreFilesAlike pages other (x ∷ xs) (y ∷ ys) =
    (x.inode ≡ y.inode) × ((b : ℕ) → page_at pages x.root b ≡ page_at other y.root b)
    × AreFilesAlike pages other xs ys

module _ (content : Content) (roots : ℕ → Root) (sound : (i : ℕ) → IsSound (pages_of content) (roots i))
    (one other : Changes)
    (unused : IsUnused content one.births) (unused' : IsUnused content other.births) where
  file-alike : (x y : FileChange) (before before' : Changes)
      → PutsAll content x.inode (roots x.inode) x.root x.changes before x.batch →
      PutsAll content y.inode (roots y.inode) y.root y.changes before' y.batch
      → Begins x.batch.births one.births → Begins y.batch.births other.births →
      x.inode ≡ y.inode
      → ((b : ℕ) → page_at (pages_after content one) x.root b ≡ page_at (pages_after content other) y.root b)
      →
      born before.births ≡ born before'.births → SameBatchAndRoot x.batch y.batch x.root y.root
  file-alike x y before before' p q begins begins' inode target numbers =
      put-alike content x.inode
      (roots x.inode) x.root y.root x.changes y.changes before x.batch before' y.batch p
      (subst (λ (n : ℕ). PutsAll content n (roots n) y.root y.changes before' y.batch) (sym inode) q)
      (sound x.inode)
      (λ b. sym ((stays-on content x.batch.births one.births x.root begins unused p.sound).blocks b)
      ∙ (target b ∙ (stays-on content y.batch.births other.births y.root begins' unused' q.sound).blocks b))
      numbers

  one-more : (x y : FileChange) (xs ys : List FileChange) → x.inode ≡ y.inode → x.root ≡ y.root
      → ((i : ℕ) → roots_after xs roots i ≡ roots_after ys roots i) →
      (i : ℕ) → roots_after (x ∷ xs) roots i ≡ roots_after (y ∷ ys) roots i
  one-more x y xs ys inode root rest i =
      ap (λ (n : ℕ). if i == n then x.root else roots_after xs roots i) inode
      ∙ (ap (λ (r : Root). if i == y.inode then r else roots_after xs roots i) root
      ∙ ap (λ (r : Root). if i == y.inode then y.root else r) (rest i))

  pub files-alike : (before before' : Changes) (xs ys : List FileChange) → ArePut content roots before xs
      → ArePut content roots before' ys →
      AreFilesAlike (pages_after content one) (pages_after content other) xs ys →
      Begins (batch_after xs before).births one.births → Begins (batch_after ys before').births other.births
      → born before.births ≡ born before'.births →
      (born (batch_after xs before).births ≡ born (batch_after ys before').births)
      × ((i : ℕ) → roots_after xs roots i ≡ roots_after ys roots i)
  files-alike before before' [] [] p q alike begins begins' numbers = (numbers, λ i. refl)
  files-alike before before' [] (y ∷ ys) p q alike begins begins' numbers = absurd alike
  files-alike before before' (x ∷ xs) [] p q alike begins begins' numbers = absurd alike
  files-alike before before' (x ∷ xs) (y ∷ ys) p q alike begins begins' numbers =
      let here = file-alike x y before before' p.0 q.0
      (begins-through x.batch.births (batch_after xs x.batch).births one.births
      (births-added content roots x.batch xs p.1) begins)
      (begins-through y.batch.births (batch_after ys y.batch).births other.births
      (births-added content roots y.batch ys q.1) begins')
      alike.0 alike.1 numbers in
      let rest = files-alike x.batch y.batch xs ys p.1 q.1 alike.2 begins begins' here.0 in
      (rest.0, one-more x y xs ys alike.0 here.1 rest.1)

-- ---- the file of inodes behind them

last-in : (files : List FileChange) (last : FileChange)
    → is_one_of (inodes_of (files ++ last ∷ [])) last.inode ≡ true
last-in [] last = ap (λ t. t || false) (eq-eqb last.inode last.inode refl)
last-in (file ∷ files) last = or_right (last.inode == file.inode) (last-in files last)
  where
    or_right : (a : Bool) {b : Bool} → b ≡ true → (a || b) ≡ true
    or_right true h = refl
    or_right false h = h

-- none of the files has the last one's number
pub apart-last : (files : List FileChange) (last : FileChange) → NoneTwice (inodes_of (files ++ last ∷ []))
    → (i : ℕ) → is_one_of (inodes_of files) i ≡ true → i ≡ last.inode → ⊥
apart-last [] last once i h e = cc
apart-last (file ∷ files) last once i h e = by (cases_eq i file.inode) (apart-last files last once.1 i)
  where
    by : (i ≡ file.inode) ⊎ (i ≡ file.inode → ⊥) → (is_one_of (inodes_of files) i ≡ true → i ≡ last.inode → ⊥)
        → ⊥
    by (inl same) go =
        let no : true ≡ false =
        sym (last-in files last)
        ∙ (ap (is_one_of (inodes_of (files ++ last ∷ []))) (sym e ∙ same) ∙ once.0) in
        cc
    by (inr not) go =
        go (subst (λ (t : Bool). (t || is_one_of (inodes_of files) i) ≡ true) (ne_eqb i file.inode not) h) e

pub front-once : (files : List FileChange) (last : FileChange) → NoneTwice (inodes_of (files ++ last ∷ []))
    → NoneTwice (inodes_of files)
front-once [] last once = tt
front-once (file ∷ files) last once = (absent files file.inode once.0, front-once files last once.1)
  where
    absent : (xs : List FileChange) (i : ℕ) → is_one_of (inodes_of (xs ++ last ∷ [])) i ≡ false
        → is_one_of (inodes_of xs) i ≡ false
    absent [] i h = refl
    absent (x ∷ xs) i h =
        let none = or_false (i == x.inode) (is_one_of (inodes_of (xs ++ last ∷ [])) i) h in
        rw none.0 (absent xs i none.1)

pub root-here : (x : FileChange) (xs : List FileChange) (roots : ℕ → Root) (i : ℕ) → i ≡ x.inode
    → roots_after (x ∷ xs) roots i ≡ x.root
root-here x xs roots i is = rw (eq-eqb i x.inode is) refl

pub root-later : (x : FileChange) (xs : List FileChange) (roots : ℕ → Root) (i : ℕ) → (i ≡ x.inode → ⊥)
    → roots_after (x ∷ xs) roots i ≡ roots_after xs roots i
root-later x xs roots i not = rw (ne_eqb i x.inode not) refl

pub past-last : (files : List FileChange) (last : FileChange) (roots : ℕ → Root) (i : ℕ)
    → (i ≡ last.inode → ⊥) → roots_after (files ++ last ∷ []) roots i ≡ roots_after files roots i
past-last [] last roots i not = root-later last [] roots i not
past-last (file ∷ files) last roots i not =
    ap (λ (r : Root). if i == file.inode then file.root else r) (past-last files last roots i not)

-- the last file alone, in the batch of those before it
pub last-put : (content : Content) (roots : ℕ → Root) (before : Changes) (files : List FileChange)
    (last : FileChange)
    → ArePut content roots before (files ++ last ∷ []) →
    ArePut content roots before files
    × PutsAll content last.inode (roots last.inode) last.root last.changes
    (batch_after files before) last.batch
last-put content roots before [] last put = (tt, put.0)
last-put content roots before (file ∷ files) last put =
    let rest = last-put content roots file.batch files last put.1 in ((put.0, rest.0), rest.1)

-- files of the same inodes whose roots have the same blocks
pub blocks-alike : (pages other : Pages) (roots : ℕ → Root) (xs ys : List FileChange)
    → inodes_of xs ≡ inodes_of ys → NoneTwice (inodes_of xs) →
    ((i : ℕ) → is_one_of (inodes_of xs) i ≡ true → (b : ℕ)
    → page_at pages (roots_after xs roots i) b ≡ page_at other (roots_after ys roots i) b)
    → AreFilesAlike pages other xs ys
blocks-alike pages other roots [] [] inodes once target = tt
blocks-alike pages other roots [] (y ∷ ys) inodes once target = cc
blocks-alike pages other roots (x ∷ xs) [] inodes once target = cc
blocks-alike pages other roots (x ∷ xs) (y ∷ ys) inodes once target =
    let first : x.inode ≡ y.inode = cc in
    let rest : inodes_of xs ≡ inodes_of ys = cc in
    (first, λ b. here first b, blocks-alike pages other roots xs ys rest once.1 (later first))
  where
    here : x.inode ≡ y.inode → (b : ℕ) → page_at pages x.root b ≡ page_at other y.root b
    here first b =
        ap (λ (r : Root). page_at pages r b) (sym (root-here x xs roots x.inode refl))
        ∙ (target x.inode (ap (λ t. t || is_one_of (inodes_of xs) x.inode) (eq-eqb x.inode x.inode refl)) b
        ∙ ap (λ (r : Root). page_at other r b) (root-here y ys roots x.inode first))

    later : x.inode ≡ y.inode → (i : ℕ) → is_one_of (inodes_of xs) i ≡ true → (b : ℕ)
        → page_at pages (roots_after xs roots i) b ≡ page_at other (roots_after ys roots i) b
    later first i h b =
        ap (λ (r : Root). page_at pages r b) (sym (root-later x xs roots i not))
        ∙ (target i
        (subst (λ (t : Bool). (t || is_one_of (inodes_of xs) i) ≡ true) (sym (ne_eqb i x.inode not)) h) b
        ∙ ap (λ (r : Root). page_at other r b) (root-later y ys roots i (λ e. not (e ∙ sym first))))
      where
        not : i ≡ x.inode → ⊥
        not e = let no : true ≡ false = sym h ∙ (ap (is_one_of (inodes_of xs)) e ∙ once.0) in cc
