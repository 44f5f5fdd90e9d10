-- The copies that checkpoints with trees stand for, in the order of their numbers.
use Rattle.std.proofs.Common.{◌≡◌, ◌⊎◌, ℕ, ◌<◌, ◌≤◌, Bool, true, false, ◌&&◌, cond, leb, ltb, List, [], ◌∷◌, ◌++◌, length, Option, Some, None, refl, ap, sym, subst, ◌∙◌, arith}
use Rattle.std.specs.Prelude.{IsTrue, All}
use Rattle.std.specs.List.{AllByRecursion, AllZip, list_all}
use Rattle.std.specs.Option.{ForSome, option_and_then, option_map}
use Rattle.std.specs.Cmp.{Equal-is}
use Rattle.std.specs.Ordering.{nat_cmp, eq_by_cmp, is_lt}
use Rattle.std.specs.FinMap.{find, is_sorted, nat_cmp-IsAntisymmetric, slice_cmp-IsAntisymmetric}
use Rattle.std.specs.FinMap.Entries.{below_all}
use Rattle.std.proofs.lemmas.Bool.{and_from, le-leb, lt-ltb}
use Rattle.std.proofs.lemmas.List.Elements.{All-head, All-tail}
use Rattle.std.proofs.lemmas.List.FromFn.{length-map-range_with_len}
use Rattle.nl_types.specs.InodeLaws.{AreWithinLimits, LimitedInodesMeanTrees}
use Rattle.nl_types.specs.Inodes.{Bytes, InodeContent, Link, Records}
use Rattle.nl_types.specs.Plain.Limits.{checkpoint_number_limit, file_limit, first_inode, last_inode, root_inode}
use Rattle.nl_types.specs.Plain.Paths.{Name, is_name, name_cmp, same_name}
use Rattle.nl_types.specs.Blocks.Roots.{Pages}
use Rattle.nl_types.specs.Plain.Trees.{IsTree, Tree}
use Rattle.nl_types.specs.Plain.Worlds.{Copy, are_stamps_rising, greatest, numbers}
use Rattle.nl_types.specs.Facts.NumberedLists.{AllBelow, before-is, find-push_same, top-push}
use Rattle.nl_layout.specs.Root.{root_of}
use Rattle.nl_dirs.specs.Records.{entry_of}
use Rattle.nl_dirs.specs.declared.record.Record.{Record}
use Rattle.nl_tree.specs.Held.{Held, Holding, IsHolding, IsInodeNumber, Listed, Stored, byte_stored, bytes_stored, inode_content, inodes_of_holding}
use Rattle.nl_check.specs.Laws.{StandsForTree}
use Rattle.nl_cpfile.specs.Tables.{IsRising, Precedes, checkpoint_root}
use Rattle.nl_cpfile.specs.declared.checkpoint.Checkpoint.{Checkpoint}
use Rattle.nl_commit.specs.Means.{CopyMeans}

-- ---- limits

-- a record that is found has its name
named-found : (P : Record → Type 0) (records : List Record) (name : Name) (link : Link) → All P records
    → entry_of name records ≡ Some link → (r : Record) × P r × (name ≡ r.name)
named-found P [] name link each h = cc
named-found P (r ∷ records) name link each h =
    by (same_name name r.name) refl h (λ k. named-found P records name link (All-tail P r records each) k)
  where
    by : (b : Bool) → same_name name r.name ≡ b
        → cond b (Some (r.inode, r.kind)) (entry_of name records) ≡ Some link
        → (entry_of name records ≡ Some link → (x : Record) × P x × (name ≡ x.name))
        → (x : Record) × P x × (name ≡ x.name)
    by true same e more =
        let equal = (Equal-is (name_cmp name r.name)).0 same in
        (r, All-head P r records each, slice_cmp-IsAntisymmetric nat_cmp-IsAntisymmetric name r.name equal)
    by false same e more = more e

records_in : InodeContent → Name → Option Link
records_in (Bytes bytes) name = None
records_in (Records records) name = records name

bytes_in : InodeContent → List ℕ
bytes_in (Bytes bytes) = bytes
bytes_in (Records records) = []

within-limits : (holding : Holding) → IsHolding holding → AreWithinLimits (inodes_of_holding holding)
unfolding records_in bytes_in
within-limits holding sound = record {
  inode_numbers = λ i c is. number i (holding i) c refl is;
  names = λ i records n link is at. name i (holding i) records n link refl is at;
  sizes = λ i bytes is. size i (holding i) bytes refl is;
}
  where
    number : (i : ℕ) (o : Option Held) (c : InodeContent) → holding i ≡ o
        → option_map inode_content o ≡ Some c
        → (i ≡ root_inode) ⊎ ((first_inode ≤ i) × (i ≤ last_inode))
    number i None c at is = cc
    number i (Some held) c at is = sound.inode_numbers i held at

    name : (i : ℕ) (o : Option Held) (records : Name → Option Link) (n : Name) (link : Link) → holding i ≡ o
        → option_map inode_content o ≡ Some (Records records) → records n ≡ Some link → IsTrue (is_name n)
    name i None records n link at is l = cc
    name i (Some (Stored size blocks)) records n link at is l = cc
    name i (Some (Listed rs)) records n link at is l =
        let same : entry_of n rs ≡ records n =
        ap (λ (o : Option InodeContent). option_and_then (λ c. records_in c n) o) is in
        let r =
        named-found (λ (x : Record). IsTrue (is_name x.name) × IsInodeNumber x.inode) rs n link
        (sound.each i (Listed rs) at).names
        (same ∙ l) in
        subst (λ (m : Name). IsTrue (is_name m)) (sym r.2) r.1.0

    size : (i : ℕ) (o : Option Held) (bytes : List ℕ) → holding i ≡ o
        → option_map inode_content o ≡ Some (Bytes bytes) → length bytes ≤ file_limit
    size i None bytes at is = cc
    size i (Some (Listed rs)) bytes at is = cc
    size i (Some (Stored n blocks)) bytes at is =
        let same : bytes_stored blocks n ≡ bytes = ap (λ (o : Option InodeContent). unwrap o) is in
        let count = length-map-range_with_len (byte_stored blocks) 0 n in
        let most = (sound.each i (Stored n blocks) at).small in
        omega (arith, most, count, ap length same)
      where
        unwrap : Option InodeContent → List ℕ
        unwrap None = []
        unwrap (Some c) = bytes_in c

-- ---- copies

module _ (pages : Pages) where
  abbrev pub HasTree : Checkpoint → Type 0
  HasTree c = StandsForTree pages (root_of (checkpoint_root c)) c.inodes

  pub copy_of : (c : Checkpoint) → HasTree c → Copy
  copy_of c t = record { tree = t.tree; mode = c.mode; minor = c.minor; stamp = c.stamp }

  pub copy_of-tree : (c : Checkpoint) (t : HasTree c) → (copy_of c t).tree ≡ t.tree
  unfolding copy_of
  copy_of-tree c t = refl

  pub copies_of : (kept : List Checkpoint) → AllByRecursion HasTree kept → List (ℕ × Copy)
  copies_of [] h = []
  copies_of (c ∷ kept) h = (c.number, copy_of c h.0) ∷ copies_of kept h.1

  copy-means : (c : Checkpoint) (t : HasTree c) → CopyMeans pages c (c.number, copy_of c t)
  unfolding copy_of
  copy-means c t = record {
    number = refl;
    mode = refl;
    minor = refl;
    stamp = refl;
    inodes = sym t.means.count;
    tree = record {
      held = t.holding;
      holds = t.holds;
      means = record { sound = t.holds.sound; means = t.means.means };
    };
  }

  pub copies-mean : (kept : List Checkpoint) (h : AllByRecursion HasTree kept)
      → AllZip (CopyMeans pages) kept (copies_of kept h)
  unfolding copies_of
  copies-mean [] h = tt
  copies-mean (c ∷ kept) h = (copy-means c h.0, copies-mean kept h.1)

  -- ---- they rise

  below-copies : (n : ℕ) (kept : List Checkpoint) (h : AllByRecursion HasTree kept)
      → AllByRecursion (λ (c : Checkpoint). n < c.number) kept → below_all nat_cmp n (copies_of kept h) ≡ true
  unfolding copies_of copy_of
  below-copies n [] h low = refl
  below-copies n (c ∷ kept) h low =
      and_from (is_lt (nat_cmp n c.number)) _ (before-is n c.number ∙ lt-ltb n c.number low.0)
      (below-copies n kept h.1 low.1)

  above : (a : Checkpoint) (kept : List Checkpoint) → AllByRecursion (Precedes a) kept
      → AllByRecursion (λ (c : Checkpoint). a.number < c.number) kept
  above a [] p = tt
  above a (c ∷ kept) p = (p.0.number, above a kept p.1)

  pub copies-sorted : (kept : List Checkpoint) (h : AllByRecursion HasTree kept) → IsRising kept
      → is_sorted nat_cmp (copies_of kept h) ≡ true
  unfolding copies_of copy_of
  copies-sorted [] h r = refl
  copies-sorted (c ∷ kept) h r =
      and_from (below_all nat_cmp c.number (copies_of kept h.1)) _
      (below-copies c.number kept h.1 (above c kept r.0))
      (copies-sorted kept h.1 r.1)

  stamps-above : (a : Checkpoint) (kept : List Checkpoint) (h : AllByRecursion HasTree kept)
      → AllByRecursion (Precedes a) kept
      → list_all (λ d. leb a.stamp d.1.stamp) (copies_of kept h) ≡ true
  unfolding copies_of copy_of
  stamps-above a [] h p = refl
  stamps-above a (c ∷ kept) h p =
      and_from (leb a.stamp c.stamp) _ (le-leb a.stamp c.stamp p.0.stamp) (stamps-above a kept h.1 p.1)

  pub copies-stamped : (kept : List Checkpoint) (h : AllByRecursion HasTree kept) → IsRising kept
      → are_stamps_rising (copies_of kept h) ≡ true
  unfolding copies_of copy_of
  copies-stamped [] h r = refl
  copies-stamped (c ∷ kept) h r =
      and_from (list_all (λ d. leb c.stamp d.1.stamp) (copies_of kept h.1)) _ (stamps-above c kept h.1 r.0)
      (copies-stamped kept h.1 r.1)

  -- ---- their numbers

  abbrev pub InLimits : Checkpoint → Type 0
  InLimits c = (0 < c.number) × (c.number < checkpoint_number_limit)

  pub copies-fit : (kept : List Checkpoint) (h : AllByRecursion HasTree kept) → AllByRecursion InLimits kept
      → list_all (λ c. ltb 0 c.0 && ltb c.0 checkpoint_number_limit) (copies_of kept h) ≡ true
  unfolding copies_of copy_of
  copies-fit [] h f = refl
  copies-fit (c ∷ kept) h f =
      and_from (ltb 0 c.number && ltb c.number checkpoint_number_limit) _
      (and_from (ltb 0 c.number) _ (lt-ltb 0 c.number f.0.0) (lt-ltb c.number checkpoint_number_limit f.0.1))
      (copies-fit kept h.1 f.1)

  copies-below : (k : ℕ) (kept : List Checkpoint) (h : AllByRecursion HasTree kept)
      → AllByRecursion (λ (c : Checkpoint). c.number < k) kept → AllBelow k (copies_of kept h)
  unfolding copies_of copy_of
  copies-below k [] h low = refl
  copies-below k (c ∷ kept) h low =
      and_from (ltb c.number k) _ (lt-ltb c.number k low.0) (copies-below k kept h.1 low.1)

  -- ---- the last one

  first_trees : (earlier : List Checkpoint) (c : Checkpoint) → AllByRecursion HasTree (earlier ++ c ∷ [])
      → AllByRecursion HasTree earlier
  first_trees [] c h = tt
  first_trees (x ∷ earlier) c h = (h.0, first_trees earlier c h.1)

  pub last_tree : (earlier : List Checkpoint) (c : Checkpoint) → AllByRecursion HasTree (earlier ++ c ∷ [])
      → HasTree c
  last_tree [] c h = h.0
  last_tree (x ∷ earlier) c h = last_tree earlier c h.1

  copies-push : (earlier : List Checkpoint) (c : Checkpoint) (h : AllByRecursion HasTree (earlier ++ c ∷ []))
      → copies_of (earlier ++ c ∷ []) h
      ≡ copies_of earlier (first_trees earlier c h) ++ (c.number, copy_of c (last_tree earlier c h)) ∷ []
  unfolding copies_of first_trees last_tree
  copies-push [] c h = refl
  copies-push (x ∷ earlier) c h =
      ap (λ (cs : List (ℕ × Copy)). (x.number, copy_of x h.0) ∷ cs) (copies-push earlier c h.1)

  -- the copy of the greatest number is the last one
  pub copies-last : (earlier : List Checkpoint) (c : Checkpoint)
      (h : AllByRecursion HasTree (earlier ++ c ∷ []))
      → AllByRecursion (λ (x : Checkpoint). x.number < c.number) earlier
      → find nat_cmp (greatest (numbers (copies_of (earlier ++ c ∷ []) h))) (copies_of (earlier ++ c ∷ []) h)
      ≡ Some (copy_of c (last_tree earlier c h))
  copies-last earlier c h low =
      subst (λ (cs : List (ℕ × Copy)). find nat_cmp (greatest (numbers cs)) cs ≡ Some copy)
      (sym (copies-push earlier c h))
      (pushed (copies_of earlier (first_trees earlier c h))
      (copies-below c.number earlier (first_trees earlier c h) low))
    where
      copy : Copy
      copy = copy_of c (last_tree earlier c h)

      pushed : (others : List (ℕ × Copy)) → AllBelow c.number others
          → find nat_cmp (greatest (numbers (others ++ (c.number, copy) ∷ [])))
          (others ++ (c.number, copy) ∷ [])
          ≡ Some copy
      pushed others below =
          ap (λ (n : ℕ). find nat_cmp n (others ++ (c.number, copy) ∷ []))
          (top-push others c.number copy below)
          ∙ find-push_same others c.number copy below

  -- ---- their trees

  module _ (limited : LimitedInodesMeanTrees) where
    pub is-tree : (c : Checkpoint) (t : HasTree c) → IsTree t.tree
    is-tree c t =
        limited (inodes_of_holding t.holding) t.tree t.means.means (within-limits t.holding t.holds.sound)

    -- a tree has the root, so there is an inode
    pub some-inode : (c : Checkpoint) → HasTree c → 1 ≤ c.inodes
    some-inode c t = subst (λ (n : ℕ). 1 ≤ n) t.means.count (by t.tree (is-tree c t))
      where
        by : (tree : Tree) → IsTree tree → 1 ≤ length tree
        by [] is = let root = is.root in cc
        by (e ∷ tree) is = omega arith

    -- each copy that is found has a tree
    pub found-tree : (kept : List Checkpoint) (h : AllByRecursion HasTree kept) (n : ℕ)
        → ForSome (find nat_cmp n (copies_of kept h)) (λ copy. IsTree copy.tree)
    unfolding copies_of copy_of
    found-tree [] h n copy is = cc
    found-tree (c ∷ kept) h n copy is =
        by (eq_by_cmp nat_cmp n c.number) is (λ k. found-tree kept h.1 n copy k)
      where
        by : (b : Bool) → cond b (Some (copy_of c h.0)) (find nat_cmp n (copies_of kept h.1)) ≡ Some copy
            → (find nat_cmp n (copies_of kept h.1) ≡ Some copy → IsTree copy.tree) → IsTree copy.tree
        by true e more =
            let same : copy_of c h.0 ≡ copy = cc in subst (λ (x : Copy). IsTree x.tree) same (is-tree c h.0)
        by false e more = more e
