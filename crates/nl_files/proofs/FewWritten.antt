-- What a checkpoint writes of one inode and of all.
use Rattle.std.proofs.Common.{◌≡◌, ◌⊎◌, ℕ, zero, suc, ◌+◌, ◌/◌, ◌<◌, ◌≤◌, Bool, true, false, List, [], ◌∷◌, length, length-append, Option, Some, None, refl, ap, sym, subst, ◌∙◌, arith, inl, inr}
use Rattle.std.specs.Prelude.{◌||◌, ◌==◌, cond, nat_lt, if◌then◌else◌, map, IsSome, is_some}
use Rattle.std.specs.List.{list_any, slice_get}
use Rattle.std.specs.Option.{option_map, option_or}
use Rattle.std.specs.Ordering.{nat_cmp}
use Rattle.std.specs.FinMap.{find}
use Rattle.std.proofs.lemmas.Bool.{cases_eq, cases_lt, eq-eqb, ne_eqb}
use Rattle.std.proofs.lemmas.List.{length-map}
use Rattle.nl_types.specs.Plain.NumberLists.{NoneTwice, is_one_of}
use Rattle.nl_types.specs.Blocks.Entries.{Birth}
use Rattle.nl_types.specs.Blocks.Roots.{Blocks, Empty, Pages, Root, page_at, place_at}
use Rattle.nl_types.specs.Blocks.RootChanges.{IsSound, RewritesFile}
use Rattle.nl_types.specs.Facts.PartialMaps.{or_false}
use Rattle.nl_blocktree.specs.Checkpoints.{FileChange, inodes_of, roots_after}
use Rattle.nl_ifile.specs.Inodes.{block_bytes, block_for, block_places}
use Rattle.nl_layout.specs.Root.{root_of}
use Rattle.nl_layout.specs.declared.inode.Inode.{Inode}
use Rattle.nl_layout.specs.declared.inode.InodeKind.{InodeKind}
use Rattle.nl_layout.specs.declared.inode.InodeKind.TheVariants.{File, Directory, InodeFile}
use Rattle.nl_dirs.specs.declared.record.Record.{Record}
use Rattle.nl_dirs.specs.Records.{packed_block}
use Rattle.nl_dirs.specs.Packing.{IsPacked, full_block, last_block, no_blocks}
use Rattle.nl_tree.specs.Became.{Became, BecameDirectory, BecameFile, Removed, blocks_over, over_became}
use Rattle.nl_tree.specs.Held.{Held, IsFileHeld, Listed, MayHold, Stored, held_block}
use Rattle.nl_tree.specs.Facts.Rising.{find-here, find-there}
use Rattle.nl_blocktree.specs.Bounds.{IsBelow, IsNewAt, most_nodes}
use Rattle.nl_files.specs.CheckpointRoots.{StandsAs, StandsFor, inode_root}
use Rattle.nl_files.specs.Facts.FilesAlike.{root-later}
use Rattle.nl_files.specs.Facts.Following.{some-held}
use Rattle.nl_files.specs.Facts.Ones.{empty-none}
use Rattle.nl_tree.specs.Weights.{weight_of}
use Rattle.nl_blocktree.specs.Facts.FewBirths.{births_are_few}

-- ---- lists of numbers

abbrev pub key : {X : Type 0} → ℕ × X → ℕ
key e = e.0

-- the numbers below one
abbrev pub below : ℕ → List ℕ
below zero = []
below (suc n) = n ∷ below n

pub length-below : (n : ℕ) → length (below n) ≡ n
length-below zero = refl
length-below (suc n) = ap (λ k. suc k) (length-below n)

pub or-left : (a b : Bool) → a ≡ true → (a || b) ≡ true
or-left a b e = ap (λ t. t || b) e

pub or-right : (a b : Bool) → b ≡ true → (a || b) ≡ true
or-right true b e = refl
or-right false b e = e

pub in-below : (n i : ℕ) → i < n → is_one_of (below n) i ≡ true
in-below zero i l = absurd (omega (arith, l))
in-below (suc n) i l = elim (cases_eq i n) [
  | inl e ↦ or-left (i == n) (is_one_of (below n) i) (eq-eqb i n e)
  | inr not ↦ or-right (i == n) (is_one_of (below n) i) (in-below n i (omega (arith, l, not)))
]

-- what is found has its key among the keys
pub found-key : {X : Type 0} (es : List (ℕ × X)) (i : ℕ) (x : X) → find nat_cmp i es ≡ Some x
    → is_one_of (map key es) i ≡ true
found-key [] i x e = absurd (cc)
found-key (e ∷ es) i x found = elim (cases_eq i e.0) [
  | inl same ↦ or-left (i == e.0) (is_one_of (map key es) i) (eq-eqb i e.0 same)
  | inr not ↦
      or-right (i == e.0) (is_one_of (map key es) i)
      (found-key es i x (sym (find-there i e es not) ∙ found))
]

-- ---- directories

-- each block has a record
pub packed-few : (records : List Record) (packed : List (List Record)) → IsPacked records packed
    → length packed ≤ length records
packed-few records packed no_blocks = omega arith
packed-few records packed (last_block r rest fits) = omega arith
packed-few records packed (full_block r front next rest blocks fits full is) =
    omega
    (arith, packed-few (next ∷ rest) blocks is, length-append (r ∷ front) (next ∷ rest))

slice-inside : {X : Type 0} (xs : List X) (i : ℕ) → IsSome (slice_get xs i) → i < length xs
slice-inside [] i is = absurd (cc)
slice-inside (x ∷ xs) zero is = omega arith
slice-inside (x ∷ xs) (suc i) is = omega (arith, slice-inside xs i is)

-- ---- one inode

-- a root without blocks has no births
pub no-births : (pages old_pages : Pages) (inode : ℕ) (old root : Root) (births : List Birth) (ends : List ℕ)
    → root ≡ Empty → RewritesFile old_pages pages inode old root births ends → length births ≡ 0
no-births pages old_pages inode old root [] ends is rewrites = refl
no-births pages old_pages inode old root (b ∷ births) ends is rewrites =
    let at = rewrites.born_placed b (0, omega arith, refl) in
    let none : place_at pages root b.place.level b.place.offset ≡ None =
    ap (λ (r : Root). place_at pages r b.place.level b.place.offset) is
    ∙ empty-none pages b.place.level b.place.offset in
    absurd (let no : None ≡ Some b.number = sym none ∙ at in cc)

-- what is found among new pages, or else shows of the checkpoint
pub new-or-old : (cut : ℕ) (new : List (ℕ × List ℕ)) (blocks : Blocks) (i : ℕ) → IsSome (blocks_over cut new blocks i)
    → (is_one_of (map key new) i ≡ true) ⊎ (blocks_over cut new blocks i ≡ blocks i)
new-or-old cut new blocks i is = found (find nat_cmp i new) refl
  where
    shows : (b : Bool) → nat_lt i cut ≡ b → IsSome (cond b (blocks i) None) → cond b (blocks i) None ≡ blocks i
    shows true e is = refl
    shows false e is = absurd (cc)

    found : (o : Option (List ℕ)) → find nat_cmp i new ≡ o
        → (is_one_of (map key new) i ≡ true) ⊎ (blocks_over cut new blocks i ≡ blocks i)
    found (Some page) e = inl (found-key new i page e)
    found None e =
        let over : blocks_over cut new blocks i ≡ cond (nat_lt i cut) (blocks i) None =
        ap (λ (o : Option (List ℕ)). option_or o (cond (nat_lt i cut) (blocks i) None)) e in
        inr (over ∙ shows (nat_lt i cut) refl (subst IsSome over is))

-- the data of an inode is new at these indices alone, and lies below a limit
pub record IsLimited (old_pages pages : Pages) (old root : Root) (indices : List ℕ) (blocks : ℕ) : Type 0 where
  pub new_at : IsNewAt old_pages pages old root indices
  pub is_below : IsBelow pages root blocks

none-some : {X : Type 0} (o : Option X) (x : X) → o ≡ None → o ≡ Some x → ⊥
none-some o x n s = let no : None ≡ Some x = sym n ∙ s in cc

-- the blocks that a checkpoint's inode holds are its root's, where it holds any
pub base-block : (pages : Pages) (inode : Option Inode) (held : Option Held) (i : ℕ) → StandsFor pages inode held
    → IsSome (held_block held i) → held_block held i ≡ page_at pages (inode_root inode) i
base-block pages None held i stands is =
    absurd (let no : IsSome (held_block None i) = subst (λ (h : Option Held). IsSome (held_block h i)) stands is in cc)
base-block pages (Some n) held i stands is = by n.kind stands
  where
    by : (kind : InodeKind) → StandsAs (page_at pages (root_of n.root)) kind n.size held
        → held_block held i ≡ page_at pages (root_of n.root) i
    by File s = ap (λ (h : Option Held). held_block h i) s
    by Directory s =
        absurd (let no : IsSome (held_block (Some (Listed s.0)) i) =
        subst (λ (h : Option Held). IsSome (held_block h i)) s.2 is in
        cc)
    by InodeFile s = absurd s

pub stored-one : (size other : ℕ) (blocks others : Blocks) → Some (Stored size blocks) ≡ Some (Stored other others)
    → blocks ≡ others
stored-one size other blocks others e = ap (λ (h : Option Held). held_block h) e

pub listed-one : (records others : List Record) → Some (Listed records) ≡ Some (Listed others) → records ≡ others
listed-one records others e = ap go e
  where
    go : Option Held → List Record
    go None = []
    go (Some (Stored size blocks)) = []
    go (Some (Listed rs)) = rs

pub stored-listed : (size : ℕ) (blocks : Blocks) (records : List Record)
    → Some (Stored size blocks) ≡ Some (Listed records) → ⊥
stored-listed size blocks records e = cc

no-some : {X : Type 0} (o : Option X) → IsSome o → o ≡ None → ⊥
no-some None is e = cc
no-some (Some x) is e = cc

some-mapped : {X Y : Type 0} (f : X → Y) (o : Option X) → IsSome (option_map f o) → IsSome o
some-mapped f None is = absurd (cc)
some-mapped f (Some x) is = refl

-- One inode is rewritten: what it was and is stand for what is held, and so does what it became. Its blocks
-- are those that it has in the end.
module _ (old_pages pages after : Pages) (number : ℕ) (old root : Root) (births : List Birth) (ends : List ℕ)
    (before one : Option Inode) (base held : Option Held)
    (sound : IsSound pages root) (rewrites : RewritesFile old_pages pages number old root births ends)
    (blocks_are : (i : ℕ) → page_at pages root i ≡ page_at after (inode_root one) i)
    (root_is : root ≡ inode_root one) (old_is : old ≡ inode_root before)
    (stands : StandsFor after one held) (stood : StandsFor old_pages before base) where
  few : (indices : List ℕ) (blocks : ℕ) → IsNewAt old_pages pages old root indices → IsBelow pages root blocks
      → length births ≤ length indices + most_nodes blocks
  few indices blocks new_at low =
      births_are_few old_pages pages number old root births ends indices blocks sound rewrites new_at low

  -- it is gone
  gone : held ≡ None → length births ≡ 0
  gone none = by one refl
    where
      by : (o : Option Inode) → one ≡ o → length births ≡ 0
      by None is = no-births pages old_pages number old root births ends (root_is ∙ ap inode_root is) rewrites
      by (Some n) is =
          let some =
          some-held n.kind (page_at after (root_of n.root)) n.size held
          (subst (λ (o : Option Inode). StandsFor after o held) is stands) in
          absurd (none-some held some.0 none some.1)

  -- it is a file
  module _ (size cut : ℕ) (new : List (ℕ × List ℕ))
      (is_file : held ≡ Some (Stored size (blocks_over cut new (held_block base)))) (may : MayHold held) where
    abbrev shown : Blocks
    shown = blocks_over cut new (held_block base)

    shows : (i : ℕ) → page_at pages root i ≡ shown i
    shows i = by one refl
      where
        of_kind : (n : Inode) (kind : InodeKind) → StandsAs (page_at after (root_of n.root)) kind n.size held
            → page_at after (root_of n.root) i ≡ shown i
        of_kind n File s =
            ap (λ (blocks : Blocks). blocks i)
            (stored-one n.size size (page_at after (root_of n.root)) shown (sym s ∙ is_file))
        of_kind n Directory s = absurd (stored-listed size shown s.0 (sym is_file ∙ s.2))
        of_kind n InodeFile s = absurd s

        by : (o : Option Inode) → one ≡ o → page_at pages root i ≡ shown i
        by None is =
            absurd (none-some held (Stored size shown)
            (subst (λ (o : Option Inode). StandsFor after o held) is stands) is_file)
        by (Some n) is =
            blocks_are i
            ∙ (ap (λ (o : Option Inode). page_at after (inode_root o) i) is
            ∙ of_kind n n.kind (subst (λ (o : Option Inode). StandsFor after o held) is stands))

    file-new : IsNewAt old_pages pages old root (map key new)
    file-new i is differs = elim (new-or-old cut new (held_block base) i (subst IsSome (shows i) is)) [
      | inl found ↦ found
      | inr same ↦
          let kept = base-block old_pages before base i stood (subst IsSome (shows i ∙ same) is) in
          absurd (differs (ap (λ (r : Root). page_at old_pages r i) old_is
          ∙ (sym kept ∙ (sym same ∙ sym (shows i)))))
    ]

    file-below : IsBelow pages root ((size + 1023) / 1024)
    file-below i is = elim (cases_lt i ((size + 1023) / 1024)) [
      | inl low ↦ low
      | inr high ↦
          let file : IsFileHeld size shown = subst MayHold is_file may in
          absurd (no-some (page_at pages root i) is (shows i ∙ file.none_past i (omega (arith, high))))
    ]

    file-few : length births ≤ length new + most_nodes ((size + 1023) / 1024)
    file-few =
        let all = few (map key new) ((size + 1023) / 1024) file-new file-below in
        omega (arith, all, length-map new key)

  -- it is a directory
  module _ (records : List Record) (is_directory : held ≡ Some (Listed records)) where
    directory-below : IsBelow pages root (length records)
    directory-below i is = by one refl
      where
        of_kind : (n : Inode) (kind : InodeKind) → StandsAs (page_at after (root_of n.root)) kind n.size held
            → IsSome (page_at after (root_of n.root) i) → i < length records
        of_kind n File s there =
            absurd (stored-listed n.size (page_at after (root_of n.root)) records (sym s ∙ is_directory))
        of_kind n Directory s there =
            let same : s.0 ≡ records = listed-one s.0 records (sym s.2 ∙ is_directory) in
            let inside =
            slice-inside s.1.packed i
            (some-mapped packed_block (slice_get s.1.packed i) (subst IsSome (s.1.stored i) there)) in
            let fewer = packed-few s.0 s.1.packed s.1.is_packed in
            let long = ap (λ (rs : List Record). length rs) same in
            omega (arith, inside, fewer, long)
        of_kind n InodeFile s there = absurd s

        by : (o : Option Inode) → one ≡ o → i < length records
        by None none =
            absurd (none-some held (Listed records)
            (subst (λ (o : Option Inode). StandsFor after o held) none stands) is_directory)
        by (Some n) some =
            of_kind n n.kind (subst (λ (o : Option Inode). StandsFor after o held) some stands)
            (subst IsSome (blocks_are i ∙ ap (λ (o : Option Inode). page_at after (inode_root o) i) some) is)

    directory-few : length births ≤ length records + most_nodes (length records)
    directory-few =
        let all =
        few (below (length records)) (length records)
        (λ i is differs. in-below (length records) i (directory-below i is)) directory-below in
        omega (arith, all, length-below (length records))

  -- with the block of its inode it weighs no less
  pub one-few : (became : Became) → held ≡ over_became became base → MayHold held
      → length births + 1 ≤ weight_of became
  one-few Removed is may = omega (arith, gone is)
  one-few (BecameFile size cut new) is may = omega (arith, file-few size cut new is may)
  one-few (BecameDirectory records) is may = omega (arith, directory-few records is)

-- ---- what became of inodes, by number

-- each of these is found among all
abbrev pub AllFound : List (ℕ × Became) → List (ℕ × Became) → Type 0
AllFound all [] = Unit {0}
AllFound all (e ∷ es) = (find nat_cmp e.0 all ≡ Some e.1) × AllFound all es

not-same : (a b : ℕ) → (a == b) ≡ false → b ≡ a → ⊥
not-same a b differ same = let e : (a == b) ≡ true = eq-eqb a b (sym same) in let no : true ≡ false = sym e ∙ differ in cc

found-behind : (first : ℕ × Became) (all es : List (ℕ × Became)) → is_one_of (map key es) first.0 ≡ false
    → AllFound all es → AllFound (first ∷ all) es
found-behind first all [] apart found = tt
found-behind first all (e ∷ es) apart found =
    let none = or_false (first.0 == e.0) (is_one_of (map key es) first.0) apart in (
      find-there e.0 first all (not-same first.0 e.0 none.0) ∙ found.0,
      found-behind first all es none.1 found.1,
    )

pub all-found : (es : List (ℕ × Became)) → NoneTwice (map key es) → AllFound es es
all-found [] once = tt
all-found (e ∷ es) once = (find-here e.0 e es refl, found-behind e es es once.0 (all-found es once.1))

pub unfound : (es : List (ℕ × Became)) (n : ℕ) → is_one_of (map key es) n ≡ false → find nat_cmp n es ≡ None
unfound [] n none = refl
unfound (e ∷ es) n none =
    let apart = or_false (n == e.0) (is_one_of (map key es) n) none in
    find-there n e es (λ same. not-same n e.0 apart.0 (sym same)) ∙ unfound es n apart.1

-- the block of an inode
abbrev pub block_of : ℕ × Became → ℕ
block_of e = e.0 / 8

pub key-block : (es : List (ℕ × Became)) (n i : ℕ) → n / 8 ≡ i → is_one_of (map key es) n ≡ true
    → is_one_of (map block_of es) i ≡ true
key-block [] n i there is = absurd (cc)
key-block (e ∷ es) n i there is = elim (cases_eq n e.0) [
  | inl same ↦
      or-left (i == e.0 / 8) (is_one_of (map block_of es) i)
      (eq-eqb i (e.0 / 8) (sym there ∙ ap (λ (k : ℕ). k / 8) same))
  | inr not ↦
      or-right (i == e.0 / 8) (is_one_of (map block_of es) i)
      (key-block es n i there
      (subst (λ (t : Bool). (t || is_one_of (map key es) n) ≡ true) (ne_eqb n e.0 not) is))
]

pub may-hold : (o : Option Held) → ((h : Held) → o ≡ Some h → MayHold (Some h)) → MayHold o
may-hold None each = tt
may-hold (Some h) each = each h refl

pub roots-untouched : (xs : List FileChange) (roots : ℕ → Root) (n : ℕ) → is_one_of (inodes_of xs) n ≡ false
    → roots_after xs roots n ≡ roots n
roots-untouched [] roots n none = refl
roots-untouched (x ∷ xs) roots n none =
    let apart = or_false (n == x.inode) (is_one_of (inodes_of xs) n) none in
    root-later x xs roots n (λ same. not-same n x.inode apart.0 (sym same)) ∙ roots-untouched xs roots n apart.1

-- ---- the file of inodes

pub same-block : (f g : ℕ → Option Inode) → ((p : ℕ) → p < 8 → f p ≡ g p) → block_for f ≡ block_for g
same-block f g same =
    rw (
      same 0 (omega arith),
      same 1 (omega arith),
      same 2 (omega arith),
      same 3 (omega arith),
      same 4 (omega arith),
      same 5 (omega arith),
      same 6 (omega arith),
      same 7 (omega arith),
    )
    refl

any-some : (f : ℕ → Option Inode) (places : List ℕ) → list_any (λ p. is_some (f p)) places ≡ true
    → (p : ℕ) × (n : Inode) × (f p ≡ Some n)
any-some f [] is = absurd (cc)
any-some f (p ∷ places) is = by (f p) refl (any-some f places)
  where
    by : (o : Option Inode) → f p ≡ o
        → (list_any (λ q. is_some (f q)) places ≡ true → (q : ℕ) × (n : Inode) × (f q ≡ Some n))
        → (q : ℕ) × (n : Inode) × (f q ≡ Some n)
    by (Some n) e more = (p, n, e)
    by None e more =
        more (subst (λ (o : Option Inode). (is_some o || list_any (λ q. is_some (f q)) places) ≡ true) e is)

pub block-some : (f : ℕ → Option Inode) → IsSome (block_for f) → (p : ℕ) × (n : Inode) × (f p ≡ Some n)
block-some f is = by (list_any (λ p. is_some (f p)) block_places) refl
  where
    by : (b : Bool) → list_any (λ p. is_some (f p)) block_places ≡ b → (p : ℕ) × (n : Inode) × (f p ≡ Some n)
    by true e = any-some f block_places e
    by false e =
        absurd (no-some (block_for f) is
        (ap (λ (t : Bool). if t then Some (block_bytes f) else None) e))
