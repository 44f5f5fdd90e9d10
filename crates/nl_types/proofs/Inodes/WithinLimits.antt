-- Inodes within the limits stand for a tree within the limits.
use Rattle.std.proofs.Common.{◌≡◌, ◌⊎◌, ℕ, zero, suc, ◌+◌, ◌<◌, ◌≤◌, Bool, true, false, ◌&&◌, ◌||◌, cond, T, inl, inr, List, [], ◌∷◌, ◌++◌, length, map, Option, Some, None, refl, sym, ap, ◌∙◌, subst, is_some, ⊎_elim, arith}
use Rattle.std.specs.Prelude.{nat_eq, reverse}
use Rattle.std.specs.List.{list_all, IsDistinct, AllByRecursion}
use Rattle.std.specs.Set.{is_member}
use Rattle.std.specs.Option.{option_map, option_zip, unwrap_or}
use Rattle.std.specs.Ordering.{is_lt}
use Rattle.std.specs.Cmp.{nat_eq_equiv, tied_itself}
use Rattle.std.specs.FinMap.{is_sorted}
use Rattle.std.specs.FinMap.Entries.{below_all}
use Rattle.std.proofs.lemmas.Bool.{and_from, eqb-true, eqb-false, eq-eqb, ne_eqb, or_cases}
use Rattle.std.proofs.lemmas.List.{length-map, reverse-append, reverse-reverse}
use Rattle.std.proofs.lemmas.List.Folds.{list_all-append}
use Rattle.std.proofs.lemmas.Map.Made.{length-le_from_is_member}
use Rattle.nl_types.specs.declared.reply.Object.{Object}
use Rattle.nl_types.specs.declared.reply.Object.TheVariants.{Dir, File}
use Rattle.nl_types.specs.Plain.Limits.{file_limit, path_limit}
use Rattle.nl_types.specs.Plain.Paths.{Name, Path, path_cmp, same_path, is_name}
use Rattle.nl_types.specs.Blocks.Placing.{blocks_from}
use Rattle.nl_types.specs.Plain.Trees.{Tree, lookup, object_kind}
use Rattle.nl_types.specs.Inodes.{Link, InodeContent, Bytes, Records, Inodes, MeansTree, upward}
use Rattle.nl_types.specs.InodeLaws.{AreWithinLimits, LimitedInodesMeanTrees}
use Rattle.nl_types.specs.Facts.TreeLaws.{path_total}
use Rattle.nl_types.specs.Facts.Lookups.{same_path-itself}
use Rattle.nl_types.specs.Facts.Booleans.{holds, or_right, first, second}
use Rattle.nl_types.specs.Facts.Inodes.FullVolumes.{row_length}
use Rattle.nl_types.specs.Facts.Inodes.Walks.{present}

-- a record of what is there
zipped_there : (a : Option ℕ) (x : Option Object) → is_some a ≡ is_some x → is_some x ≡ true
    → (link : Link) × (option_zip a (option_map object_kind x) ≡ Some link)
zipped_there a None e there = cc
zipped_there None (Some x) e there = cc
zipped_there (Some i) (Some x) e there = ((i, object_kind x), refl)

module _ (inodes : Inodes) (tree : Tree) (m : MeansTree inodes tree) (w : AreWithinLimits inodes) where
  turned : (path : Path) (name : Name) → reverse (name ∷ reverse path) ≡ path ++ name ∷ []
  turned path name =
      reverse-append (name ∷ []) (reverse path) ∙ ap (λ (q : Path). q ++ name ∷ []) (reverse-reverse path)

  parents : (path : Path) (name : Name) → is_some (lookup tree (path ++ name ∷ [])) ≡ true
      → lookup tree path ≡ Some Dir
  parents path name is =
      let x = present (lookup tree (path ++ name ∷ [])) is in
      sym (ap (lookup tree) (reverse-reverse path))
      ∙ m.rooted.parents name (reverse path) x.0 (ap (lookup tree) (turned path name) ∙ x.1)

  -- the inode of a path that is there
  numbered : (p : Path) → is_some (upward tree p) ≡ true → (i : ℕ) × (m.inode_of p ≡ Some i)
  numbered p there = present (m.inode_of p) (m.pairs.paths p ∙ there)

  -- ---- names

  named : (n : Name) (p : Path) → is_some (upward tree (n ∷ p)) ≡ true → is_name n ≡ true
  named n p there =
      let x = present (upward tree (n ∷ p)) there in
      let dir = m.rooted.parents n p x.0 x.1 in
      let i = numbered p (ap is_some dir) in
      let d = m.pairs.directory p i.0 dir i.1 in
      let link = zipped_there (m.inode_of (n ∷ p)) (upward tree (n ∷ p)) (m.pairs.paths (n ∷ p)) there in
      w.names i.0 d.0 n link.0 d.1 (d.2 n ∙ link.1)

  spelled_upward : (p : Path) → is_some (upward tree p) ≡ true → list_all is_name (reverse p) ≡ true
  spelled_upward [] there = refl
  spelled_upward (n ∷ p) there =
      let x = present (upward tree (n ∷ p)) there in
      let above = spelled_upward p (ap is_some (m.rooted.parents n p x.0 x.1)) in
      ap (list_all is_name) (reverse-append (n ∷ []) p) ∙ list_all-append is_name (reverse p) (n ∷ [])
      ∙ and_from (list_all is_name (reverse p)) (is_name n && true) above
      (and_from (is_name n) true (named n p there) refl)

  spelled : (path : Path) → is_some (lookup tree path) ≡ true → list_all is_name path ≡ true
  spelled path there =
      subst (λ (q : Path). list_all is_name q ≡ true) (reverse-reverse path)
      (spelled_upward (reverse path)
      (ap (λ (q : Path). is_some (lookup tree q)) (reverse-reverse path) ∙ there))

  -- ---- sizes

  sized : (path : Path) (bytes : List ℕ) → lookup tree path ≡ Some (File bytes) → length bytes ≤ file_limit
  sized path bytes file =
      let at : upward tree (reverse path) ≡ Some (File bytes) =
      ap (lookup tree) (reverse-reverse path) ∙ file in
      let i = numbered (reverse path) (ap is_some at) in
      w.sizes i.0 bytes (m.pairs.file (reverse path) i.0 bytes at i.1)

  -- ---- how many paths

  abbrev number_of : Path × Object → ℕ
  number_of e = unwrap_or (m.inode_of (reverse e.0)) 0

  -- each of these paths has an inode
  abbrev AreNumbered : List (Path × Object) → Type 0
  AreNumbered entries =
      AllByRecursion (λ (e : Path × Object). is_some (m.inode_of (reverse e.0)) ≡ true) entries

  number_is : (o : Option ℕ) → is_some o ≡ true → o ≡ Some (unwrap_or o 0)
  number_is None is = cc
  number_is (Some i) is = refl

  -- two paths with one number are one
  one_path : (p q : Path) → is_some (m.inode_of (reverse p)) ≡ true → is_some (m.inode_of (reverse q)) ≡ true
      → unwrap_or (m.inode_of (reverse p)) 0 ≡ unwrap_or (m.inode_of (reverse q)) 0 → p ≡ q
  one_path p q a b same =
      let i = unwrap_or (m.inode_of (reverse p)) 0 in
      let turned_same =
      m.pairs.once (reverse p) (reverse q) i (number_is (m.inode_of (reverse p)) a)
      (number_is (m.inode_of (reverse q)) b ∙ ap (λ (k : ℕ). Some k) (sym same)) in
      sym (reverse-reverse p) ∙ ap (λ (r : Path). reverse r) turned_same ∙ reverse-reverse q

  apart : (e : Path × Object) (entries : List (Path × Object)) → T (below_all path_cmp e.0 entries)
      → is_some (m.inode_of (reverse e.0)) ≡ true → AreNumbered entries
      → AllByRecursion (λ y. nat_eq (number_of e) y ≡ false) (map number_of entries)
  apart e [] below there all = tt
  apart e (x ∷ entries) below there all = (
    ne_eqb (number_of e) (number_of x) (λ same.
        let one : e.0 ≡ x.0 = one_path e.0 x.0 there all.0 same in
        let less : T (is_lt (path_cmp e.0 e.0)) =
        subst (λ (q : Path). T (is_lt (path_cmp e.0 q))) (sym one) (first _ _ below) in
        absurd (subst (λ r. T (is_lt r)) (tied_itself path_total e.0) less)),
    apart e entries (second _ _ below) there all.1,
  )

  distinct : (entries : List (Path × Object)) → T (is_sorted path_cmp entries) → AreNumbered entries
      → IsDistinct nat_eq (map number_of entries)
  unfolding IsDistinct
  distinct [] sorted all = tt
  distinct (e ∷ entries) sorted all =
      (apart e entries (first _ _ sorted) all.0 all.1, distinct entries (second _ _ sorted) all.1)

  -- what is found at each key holds of each entry
  each_found : (P : Path → Type 0) (entries : List (Path × Object))
      → ((q : Path) → is_some (lookup entries q) ≡ true → P q)
      → AllByRecursion (λ (e : Path × Object). P e.0) entries
  each_found P [] found = tt
  each_found P (e ∷ entries) found = (
    found e.0 (ap (λ b. is_some (cond b (Some e.1) (lookup entries e.0))) (same_path-itself e.0)),
    each_found P entries (λ q there. found q (later (same_path q e.0) (lookup entries q) there)),
  )
    where
      later : (b : Bool) (o : Option Object) → is_some o ≡ true → is_some (cond b (Some e.1) o) ≡ true
      later true o there = refl
      later false o there = there

  all_numbered : AreNumbered tree
  all_numbered =
      each_found (λ p. is_some (m.inode_of (reverse p)) ≡ true) tree
      (λ q there.
      m.pairs.paths (reverse q) ∙ ap (λ (r : Path). is_some (lookup tree r)) (reverse-reverse q) ∙ there)

  -- a number that a path has is in use
  in_use : (p : Path) (i : ℕ) → m.inode_of p ≡ Some i → (held : InodeContent) × (inodes i ≡ Some held)
  in_use p i is =
      let x = present (upward tree p) (sym (m.pairs.paths p) ∙ ap is_some is) in
      by x.0 x.1
    where
      by : (x : Object) → upward tree p ≡ Some x → (held : InodeContent) × (inodes i ≡ Some held)
      by Dir at = let d = m.pairs.directory p i at is in (Records d.0, d.1)
      by (File bytes) at = (Bytes bytes, m.pairs.file p i bytes at is)

  -- each number of a path is in use
  used : (entries : List (Path × Object)) → AreNumbered entries → (q : ℕ)
      → is_member nat_eq (map number_of entries) q ≡ true → (held : InodeContent) × (inodes q ≡ Some held)
  used [] all q h = cc
  used (e ∷ entries) all q h = ⊎_elim
      (λ here.
      in_use (reverse e.0) q
      (number_is (m.inode_of (reverse e.0)) all.0
      ∙ ap (λ (k : ℕ). Some k) (sym (eqb-true q (number_of e) here))))
      (λ later. used entries all.1 q later)
      (or_cases (nat_eq q (number_of e)) (is_member nat_eq (map number_of entries) q) h)

  in_row : (b n q : ℕ) → b ≤ q → q < b + n → is_member nat_eq (blocks_from b n) q ≡ true
  in_row b zero q low high = absurd (omega (arith, low, high))
  in_row b (suc n) q low high =
      elim (nat_eq q b) as (λ t. nat_eq q b ≡ t → (t || is_member nat_eq (blocks_from (suc b) n) q) ≡ true) [
        | true ↦ λ _. refl
        | false ↦
            λ is.
            let other = eqb-false q b is in in_row (suc b) n q (above b q low other) (omega (arith, high))
      ] refl
    where
      above : (b q : ℕ) → b ≤ q → (q ≡ b → ⊥) → suc b ≤ q
      above b q low other = omega (arith, low, other)

  paths_at_most : (n : ℕ)
      → ((i : ℕ) (held : InodeContent) → inodes i ≡ Some held → (i ≡ 2) ⊎ ((11 ≤ i) × (i < 11 + n)))
      → length tree ≤ n + 1
  paths_at_most n within =
      let few =
      length-le_from_is_member nat_eq_equiv (map number_of tree) (2 ∷ blocks_from 11 n)
      (distinct tree (holds _ m.ordered) all_numbered) member in
      omega (arith, few, length-map tree number_of, row_length 11 n)
    where
      member : (q : ℕ) → is_member nat_eq (map number_of tree) q ≡ true
          → is_member nat_eq (2 ∷ blocks_from 11 n) q ≡ true
      member q h =
          let held = used tree all_numbered q h in
          ⊎_elim
          (λ root. ap (λ b. b || is_member nat_eq (blocks_from 11 n) q) (eq-eqb q 2 root))
          (λ range. or_right (nat_eq q 2) (in_row 11 n q range.0 range.1))
          (within q held.0 held.1)

  counted : length tree ≤ path_limit + 1
  counted =
      paths_at_most 524277
      (λ i held is.
      ⊎_elim (λ root. inl root) (λ range. inr (range.0, omega (arith, range.1)))
      (w.inode_numbers i held is))

pub limited_inodes_mean_trees : LimitedInodesMeanTrees
limited_inodes_mean_trees inodes tree m w = record {
  ordered = m.ordered;
  root = m.rooted.root;
  parents = parents inodes tree m w;
  names = spelled inodes tree m w;
  sizes = sized inodes tree m w;
  count = counted inodes tree m w;
}
