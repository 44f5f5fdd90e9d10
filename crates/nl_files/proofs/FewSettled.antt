-- What a checkpoint writes: of each inode no more than it weighs, and then the file of inodes.
use Rattle.std.proofs.Common.{◌≡◌, ℕ, ◌+◌, ◌*◌, ◌/◌, ◌<◌, ◌≤◌, Bool, true, false, List, [], ◌∷◌, length, length-append, Option, Some, refl, ap, sym, subst, ◌∙◌, arith, inl, inr}
use Rattle.std.specs.Prelude.{◌==◌, map, IsSome}
use Rattle.std.specs.Ordering.{nat_cmp}
use Rattle.std.specs.FinMap.{find}
use Rattle.std.proofs.lemmas.Bool.{cases_eq, eq-eqb}
use Rattle.std.proofs.lemmas.List.{length-map}
use Rattle.nl_types.specs.Plain.NumberLists.{NoneTwice, is_one_of}
use Rattle.nl_types.specs.Blocks.Entries.{Content}
use Rattle.nl_types.specs.Blocks.Roots.{Pages, Root, page_at, pages_of}
use Rattle.nl_types.specs.Blocks.RootChanges.{KeepsFile}
use Rattle.nl_vstore.specs.Batches.{Changes}
use Rattle.nl_blocktree.specs.Checkpoints.{ArePut, FileChange, batch_after, inodes_of, no_changes, roots_after}
use Rattle.nl_blocktree.specs.Putting.{PutsAll, pages_after}
use Rattle.nl_ifile.specs.Inodes.{in_block, inode_at}
use Rattle.nl_layout.specs.declared.inode.Inode.{Inode}
use Rattle.nl_tree.specs.Became.{Became, over_became, over_if_became}
use Rattle.nl_tree.specs.Held.{Held, Holding, IsInodeNumber}
use Rattle.nl_blocktree.specs.Bounds.{IsBelow, IsNewAt, most_nodes}
use Rattle.nl_files.specs.Bounds.{SettlingsAreFew}
use Rattle.nl_files.specs.CheckpointRoots.{IsCheckpointRoot, StandsFor, inode_root, roots_at}
use Rattle.nl_files.specs.Settles.{IsCurrent, Settles}
use Rattle.nl_files.specs.Facts.FilesAlike.{Begins, begins-through, root-here, root-later, stays-on}
use Rattle.nl_files.specs.Facts.Following.{some-held}
use Rattle.nl_files.specs.Facts.InodesAlike.{stand-alike}
use Rattle.nl_files.specs.Facts.OneSettling.{files_once, files_put, inodes_put, not_inodes, root_after}
use Rattle.nl_files.specs.Facts.Staying.{no_inode-six, root-at_others, root-at_six}
use Rattle.nl_files.specs.Facts.Steps.{births-added}
use Rattle.nl_tree.specs.Weights.{total_weight, weight_of}
use Rattle.nl_blocktree.specs.Facts.FewBirths.{births_are_few}
use Rattle.nl_files.proofs.FewWritten.{AllFound, all-found, block-some, block_of, key, key-block, may-hold, one-few, or-left, or-right, roots-untouched, same-block, unfound}

module _ (content : Content) (root new : Root) (became : List (ℕ × Became)) (base held : Holding)
    (batch : Changes) (checkpoint : IsCheckpointRoot content root)
    (current : IsCurrent content root became base held)
    (s : Settles content root new became held batch) where
  abbrev pages : Pages
  pages = pages_of content

  abbrev after : Pages
  after = pages_after content batch

  abbrev old : ℕ → Root
  old = roots_at pages root

  last : PutsAll content 6 (old 6) new s.inode_file.changes (batch_after s.files no_changes) batch
  last = inodes_put content root new became held batch s

  -- what an inode holds
  holds-at : (i : ℕ) → held i ≡ over_if_became (find nat_cmp i became) (base i)
  holds-at i = ap (λ (h : Holding). h i) current.holds

  -- ---- inode by inode

  -- one of the files that are put, with what became of its inode
  file-few : (before : Changes) (x : FileChange) (e : ℕ × Became)
      → PutsAll content x.inode (old x.inode) x.root x.changes before x.batch
      → Begins x.batch.births batch.births → (x.inode ≡ 6 → ⊥) → x.inode ≡ e.0
      → find nat_cmp e.0 became ≡ Some e.1 → x.root ≡ inode_root (inode_at after new x.inode)
      → length x.batch.births + 1 ≤ length before.births + weight_of e.1
  file-few before x e put begins apart same found root_is =
      let keeps : KeepsFile (pages_after content x.batch) after x.root =
      stays-on content x.batch.births batch.births x.root begins last.unused put.sound in
      let holds : held x.inode ≡ over_became e.1 (base x.inode) =
      holds-at x.inode
      ∙ ap (λ (o : Option Became). over_if_became o (base x.inode)) (ap (λ (i : ℕ). find nat_cmp i became) same ∙ found) in
      let few =
      one-few pages (pages_after content x.batch) after x.inode (old x.inode) x.root put.births put.ends
      (inode_at pages root x.inode) (inode_at after new x.inode) (base x.inode) (held x.inode) put.sound put.rewrites
      (λ b. sym (keeps.blocks b) ∙ ap (λ (r : Root). page_at after r b) root_is) root_is
      (root-at_others pages root x.inode apart) (s.stores x.inode) (current.base_is x.inode) e.1 holds
      (may-hold (held x.inode) (current.sound.each x.inode)) in
      let long : length x.batch.births ≡ length before.births + length put.births =
      ap length put.births_are ∙ length-append before.births put.births in
      omega (arith, few, long)

  -- each of these files has its root in the end, and none is the file of inodes
  EndsSo : List FileChange → Type 0
  EndsSo xs = (i : ℕ) → is_one_of (inodes_of xs) i ≡ true
      → (i ≡ 6 → ⊥) × (roots_after xs old i ≡ inode_root (inode_at after new i))

  ends-later : (x : FileChange) (xs : List FileChange) → is_one_of (inodes_of xs) x.inode ≡ false
      → EndsSo (x ∷ xs) → EndsSo xs
  unfolding EndsSo
  ends-later x xs apart ends i is =
      let not : i ≡ x.inode → ⊥ = λ e.
      let no : true ≡ false = sym is ∙ (ap (is_one_of (inodes_of xs)) e ∙ apart) in cc in
      let whole = ends i (or-right (i == x.inode) (is_one_of (inodes_of xs) i) is) in
      (whole.0, sym (root-later x xs old i not) ∙ whole.1)

  files-few : (before : Changes) (xs : List FileChange) (es : List (ℕ × Became))
      → ArePut content old before xs → inodes_of xs ≡ map key es → NoneTwice (inodes_of xs)
      → AllFound became es → EndsSo xs → Begins (batch_after xs before).births batch.births
      → length (batch_after xs before).births + length es ≤ length before.births + total_weight es
  unfolding EndsSo
  files-few before [] [] put same once found ends begins = omega arith
  files-few before [] (e ∷ es) put same once found ends begins = cc
  files-few before (x ∷ xs) [] put same once found ends begins = cc
  files-few before (x ∷ xs) (e ∷ es) put same once found ends begins =
      let first : x.inode ≡ e.0 = cc in
      let rest : inodes_of xs ≡ map key es = cc in
      let here = ends x.inode (or-left (x.inode == x.inode) (is_one_of (inodes_of xs) x.inode)
      (eq-eqb x.inode x.inode refl)) in
      let one =
      file-few before x e put.0
      (begins-through x.batch.births (batch_after xs x.batch).births batch.births
      (births-added content old x.batch xs put.1) begins)
      here.0 first found.0 (sym (root-here x xs old x.inode refl) ∙ here.1) in
      let more =
      files-few x.batch xs es put.1 rest once.1 found.1 (ends-later x xs once.0 ends) begins in
      omega (arith, one, more)

  -- ---- the file of inodes

  keys-are : inodes_of s.files ≡ map key became
  keys-are = s.became_are

  unkept : (n : ℕ) → is_one_of (map key became) n ≡ false → held n ≡ base n
  unkept n none = holds-at n ∙ ap (λ (o : Option Became). over_if_became o (base n)) (unfound became n none)

  -- an inode of which nothing became is as it was
  unchanged : (n : ℕ) → is_one_of (map key became) n ≡ false → inode_at after new n ≡ inode_at pages root n
  unchanged n none = elim (cases_eq n 6) [
    | inl six ↦
        ap (inode_at after new) six
        ∙ (no_inode-six after (inode_at after new 6) held (s.stores 6) current.sound
        ∙ sym (ap (inode_at pages root) six
        ∙ no_inode-six pages (inode_at pages root 6) base (current.base_is 6) current.base_sound))
    | inr not ↦
        let alike =
        stand-alike after pages (inode_at after new n) (inode_at pages root n) (held n) (s.stores n)
        (subst (λ (h : Option Held). StandsFor pages (inode_at pages root n) h) (sym (unkept n none))
        (current.base_is n)) in
        alike.same
        (sym (root_after content root new became held batch s n not)
        ∙ (roots-untouched s.files old n (ap (λ (ns : List ℕ). is_one_of ns n) keys-are ∙ none)
        ∙ root-at_others pages root n not))
  ]

  block-unchanged : (i : ℕ) → is_one_of (map block_of became) i ≡ false
      → page_at pages (old 6) i ≡ page_at after new i
  block-unchanged i none =
      ap (λ (r : Root). page_at pages r i) (root-at_six pages root 6 refl)
      ∙ (checkpoint.inodes i
      ∙ (sym (same-block (in_block (inode_at after new) i) (in_block (inode_at pages root) i)
      (λ p l. unchanged (8 * i + p) (apart (8 * i + p) (omega (arith, l)))))
      ∙ sym (s.sound.inodes i)))
    where
      apart : (n : ℕ) → n / 8 ≡ i → is_one_of (map key became) n ≡ false
      apart n there = by (is_one_of (map key became) n) refl
        where
          by : (b : Bool) → is_one_of (map key became) n ≡ b → is_one_of (map key became) n ≡ false
          by false e = e
          by true e = absurd (let no : true ≡ false = sym (key-block became n i there e) ∙ none in cc)

  inodes-new : IsNewAt pages after (old 6) new (map block_of became)
  inodes-new i is differs = by (is_one_of (map block_of became) i) refl
    where
      by : (b : Bool) → is_one_of (map block_of became) i ≡ b → is_one_of (map block_of became) i ≡ true
      by true e = e
      by false e = absurd (differs (block-unchanged i e))

  low-number : (n : ℕ) → IsInodeNumber n → n < 524288
  low-number n (inl is) = omega (arith, is)
  low-number n (inr is) = omega (arith, is.1)

  inodes-below : IsBelow after new 65536
  inodes-below i is =
      let some = block-some (in_block (inode_at after new) i) (subst IsSome (s.sound.inodes i) is) in
      let n = 8 * i + some.0 in
      let stands =
      subst (λ (o : Option Inode). StandsFor after o (held n)) some.2 (s.stores n) in
      let h = some-held some.1.kind _ some.1.size (held n) stands in
      let low = low-number n (current.sound.inode_numbers n h.0 h.1) in
      omega (arith, low)

  inodes-few : length batch.births
      ≤ length (batch_after s.files no_changes).births + (length became + most_nodes 65536)
  inodes-few =
      let few =
      births_are_few pages after 6 (old 6) new last.births last.ends (map block_of became) 65536 last.sound
      last.rewrites inodes-new inodes-below in
      let long : length batch.births
      ≡ length (batch_after s.files no_changes).births + length last.births
      =
      ap length last.births_are ∙ length-append (batch_after s.files no_changes).births last.births in
      omega (arith, few, long, length-map became block_of)

  -- ---- all

  all-few : length batch.births ≤ total_weight became + most_nodes 65536
  unfolding EndsSo
  all-few =
      let once = files_once content root new became held batch s in
      let files =
      files-few no_changes s.files became (files_put content root new became held batch s) keys-are once
      (all-found became (subst NoneTwice keys-are once))
      (λ i is.
      let not = not_inodes content root new became held batch s i is in
      (not, root_after content root new became held batch s i not))
      (last.births, last.births_are) in
      omega (arith, files, inodes-few)

pub settlings_are_few : SettlingsAreFew
settlings_are_few content root new became base held batch checkpoint current s =
    all-few content root new became base held batch checkpoint current s
