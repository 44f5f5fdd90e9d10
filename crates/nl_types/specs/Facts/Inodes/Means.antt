-- Changes of inodes are changes of the tree that they stand for.
use Rattle.std.specs.Prelude.{◌≡◌, ℕ, ◌==◌, ◌&&◌, if◌then◌else◌, Bool, true, false, not, cond, List, [], ◌∷◌, ◌++◌, map, length, drop, reverse, Option, Some, None, refl}
use Rattle.std.specs.List.{filter}
use Rattle.std.specs.Option.{option_map}
use Rattle.std.specs.FinMap.{is_sorted}
use Rattle.std.specs.FinMap.Entries.{is_sorted-put, is_sorted-where_key, same_entries}
use Rattle.std.proofs.lemmas.List.{reverse-append, reverse-reverse}
use Rattle.std.proofs.lemmas.Bool.{cases_Bool, eqb-true, eqb-false, eq-eqb, ne_eqb}
use Rattle.std.proofs.Common.{sym, ◌∙◌, ap, subst, inl, inr, true≢false, T, append-nil}
use Rattle.nl_types.specs.declared.reply.Object.{Object}
use Rattle.nl_types.specs.declared.reply.Object.TheVariants.{Dir, File}
use Rattle.nl_types.specs.Plain.Paths.{Name, Path, path_cmp, same_path, same_name, is_within}
use Rattle.nl_types.specs.Plain.Trees.{Tree, lookup, insert, remove, move_subtree, moved_path, in_order}
use Rattle.nl_types.specs.Inodes.{Link, InodeContent, Bytes, Records, Inodes, MeansTree, upward, IsRooted, Pairs, record_of}
use Rattle.nl_types.specs.InodeChanges.{Creates, Rewrites, Removes, Renames, Replaces, HoldsChanged, put_record, move_record}
use Rattle.nl_types.specs.InodeLaws.{WalksFind, InodesMeanOneTree}
use Rattle.nl_types.specs.Facts.TreeLaws.{path_total, paths_equal, same_path-equal, lookup-insert}
use Rattle.nl_types.specs.Facts.Lookups.{lookup-remove, lookup-move_subtree, same_path-itself, is_within-append, within_is}
use Rattle.nl_types.specs.Facts.Inodes.Ways.{path_cases, longer, put_at, put_at-there, put_at-other, below, moved, below-none, moved-to, moved-from, moved-elsewhere}
use Rattle.nl_types.specs.Facts.Inodes.Walks.{found-pairs}
use Rattle.nl_types.specs.Facts.Inodes.Recording.{clash, absent_below, record_cong}
use Rattle.nl_types.specs.Facts.Inodes.Standing.{zipped, inode_there, object_there, dir_there, records_are, child_there, child_absent, nothing_below}
use Rattle.nl_types.specs.Facts.Inodes.Creating.{created_pairs, created_rooted}
use Rattle.nl_types.specs.Facts.Inodes.Rewriting.{rewritten_pairs, rewritten_rooted}
use Rattle.nl_types.specs.Facts.Inodes.Removing.{removed_pairs, removed_rooted}
use Rattle.nl_types.specs.Facts.Inodes.Renaming.{renamed_pairs, renamed_rooted}
use Rattle.nl_types.specs.Facts.Subtrees.{move_subtree-sorted}
use Rattle.nl_types.specs.Facts.Booleans.{is_true, holds, not_true}

same_functions : {A B : Type 0} (f g : A → B) → ((x : A) → f x ≡ g x) → f ≡ g
same_functions f g h = λ i x. h x i

-- a tree that is in order stands for inodes as its function does
pub means_by : (inodes : Inodes) (tree : Tree) (g : Path → Option Object) (f : Path → Option ℕ)
    → T (is_sorted path_cmp tree) → ((p : Path) → g p ≡ upward tree p) → IsRooted g → Pairs inodes g f
    → MeansTree inodes tree
means_by inodes tree g f sorted h t m =
    let same = same_functions g (upward tree) h in
    record {
      inode_of = f;
      ordered = is_true _ sorted;
      rooted = subst IsRooted same t;
      pairs = subst (λ (x : Path → Option Object). Pairs inodes x f) same m;
    }

pub walks_find : WalksFind
walks_find inodes tree m path = found-pairs m.rooted m.pairs path

pub inodes_mean_one_tree : InodesMeanOneTree
inodes_mean_one_tree inodes tree other m n =
    same_entries path_cmp path_total paths_equal tree other (holds _ m.ordered) (holds _ n.ordered)
    (λ path.
    ap (lookup tree) (sym (reverse-reverse path)) ∙ sym (walks_find inodes tree m (reverse path))
    ∙ walks_find inodes other n (reverse path) ∙ ap (lookup other) (reverse-reverse path))

-- ---- one path

-- what is put at a path, by a test for it
put_by : (path p : Path) (x o : Option Object) (b : Bool) → (p ≡ path → b ≡ true) → (b ≡ true → p ≡ path)
    → (tree : Path → Option Object) → o ≡ tree p → put_at path x tree p ≡ cond b x o
unfolding put_at
put_by path p x o b to from tree e = elim (path_cases p path) [
  | inl t ↦ rw (t.0) (rw (to t.1) refl)
  | inr f ↦ rw (f.0) (other b (λ k. f.1 (from k)))
]
  where
    other : (b : Bool) → (b ≡ true → ⊥) → tree p ≡ cond b x o
    other true k = absurd (k refl)
    other false k = sym e

turned_equal : (p q : Path) → reverse p ≡ reverse q → p ≡ q
turned_equal p q e = sym (reverse-reverse p) ∙ ap (λ (r : Path). reverse r) e ∙ reverse-reverse q

inserted : (tree : Tree) (path : Path) (object : Object) (p : Path)
    → put_at path (Some object) (upward tree) p ≡ upward (insert tree (reverse path) object) p
inserted tree path object p =
    put_by path p (Some object) (upward tree p) (same_path (reverse p) (reverse path))
    (λ e. ap (λ (q : Path). same_path (reverse q) (reverse path)) e ∙ same_path-itself (reverse path))
    (λ e. turned_equal p path (same_path-equal (reverse p) (reverse path) e))
    (upward tree) refl
    ∙ sym (lookup-insert tree (reverse path) object (reverse p))

taken_out : (tree : Tree) (path p : Path)
    → put_at path None (upward tree) p ≡ upward (remove tree (reverse path)) p
taken_out tree path p =
    put_by path p None (upward tree p) (same_path (reverse path) (reverse p))
    (λ e. ap (λ (q : Path). same_path (reverse path) (reverse q)) e ∙ same_path-itself (reverse path))
    (λ e. sym (turned_equal path p (same_path-equal (reverse path) (reverse p) e)))
    (upward tree) refl
    ∙ sym (lookup-remove tree (reverse path) (reverse p))

pub created : (old new : Inodes) (tree : Tree) (dir : Path) (name : Name) (object : Object) (inode : ℕ)
    → MeansTree old tree → Creates old new dir name object inode
    → MeansTree new (insert tree (reverse (name ∷ dir)) object)
created old new tree dir name object inode m w =
    let t = m.rooted in
    let parent_is = inode_there t m.pairs dir w.parent.inode w.parent.is_reached in
    let in_dir = dir_there t m.pairs dir w.parent in
    let none = child_absent t m.pairs dir w.parent name w.absent in
    means_by new _ _ _
    (is_sorted-put path_cmp path_total (reverse (name ∷ dir)) object tree (holds _ m.ordered))
    (inserted tree (name ∷ dir) object)
    (created_rooted old new
    (upward tree) m.inode_of name dir object inode t m.pairs w.parent.inode parent_is in_dir none w.adds.free
    w.adds.added w.adds.others)
    (created_pairs old new
    (upward tree) m.inode_of name dir object inode t m.pairs w.parent.inode parent_is in_dir none w.adds.free
    w.adds.added w.adds.others)

pub rewritten : (old new : Inodes) (tree : Tree) (path : Path) (bytes : List ℕ) → MeansTree old tree
    → Rewrites old new path bytes → MeansTree new (insert tree (reverse path) (File bytes))
rewritten old new tree path bytes m w =
    let t = m.rooted in
    let inode_is = inode_there t m.pairs path w.inode w.is_reached in
    let was = object_there t m.pairs path w.inode (Bytes w.held) w.is_reached w.was in
    means_by new _ _ _
    (is_sorted-put path_cmp path_total (reverse path) (File bytes) tree (holds _ m.ordered))
    (inserted tree path (File bytes))
    (rewritten_rooted old new
    (upward tree) m.inode_of path bytes t m.pairs w.inode inode_is w.held was w.refills.now
    w.refills.others)
    (rewritten_pairs old new
    (upward tree) m.inode_of path bytes t m.pairs w.inode inode_is w.held was w.refills.now
    w.refills.others)

pub removed : (old new : Inodes) (tree : Tree) (dir : Path) (name : Name) → MeansTree old tree
    → Removes old new dir name → MeansTree new (remove tree (reverse (name ∷ dir)))
removed old new tree dir name m w =
    let t = m.rooted in
    let parent_is = inode_there t m.pairs dir w.parent.inode w.parent.is_reached in
    let child = child_there t m.pairs dir w.parent name w.link w.is_there in
    let empty = nothing_below t m.pairs (name ∷ dir) w.link.0 w.held child.0 w.was w.bare in
    means_by new _ _ _
    (is_sorted-where_key path_cmp (λ x. not (same_path (reverse (name ∷ dir)) x)) tree (holds _ m.ordered))
    (taken_out tree (name ∷ dir))
    (removed_rooted old new
    (upward tree) m.inode_of t m.pairs name dir w.parent.inode w.link.0 parent_is child.0 empty w.drops.gone
    w.drops.others)
    (removed_pairs old new
    (upward tree) m.inode_of t m.pairs name dir w.parent.inode w.link.0 parent_is child.0 empty w.drops.gone
    w.drops.others)

-- ---- a rename

module _ (top : Path) where
  outside : (p : Path) → is_within top (reverse p) ≡ false → below (reverse top) p ≡ None
  outside p away = below-none (reverse top) p (λ r e.
      let inside : reverse p ≡ top ++ reverse r =
      ap (λ (q : Path). reverse q) e ∙ reverse-append r (reverse top)
      ∙ ap (λ (q : Path). q ++ reverse r) (reverse-reverse top) in
      true≢false (sym (is_within-append top (reverse r)) ∙ ap (is_within top) (sym inside) ∙ away))

  pub upward_within : (p : Path) → is_within top (reverse p) ≡ true
      → p ≡ reverse (drop (length top) (reverse p)) ++ reverse top
  upward_within p inside =
      sym (reverse-reverse p) ∙ ap (λ (q : Path). reverse q) (within_is top (reverse p) inside)
      ∙ reverse-append top (drop (length top) (reverse p))

downward : (from rest : Path) → reverse (reverse rest ++ reverse from) ≡ from ++ rest
downward from rest =
    reverse-append (reverse rest) (reverse from) ∙ (λ i. reverse-reverse from i ++ reverse-reverse rest i)

module _ (tree : Tree) (from to : Path) where
  abbrev Moves : Path → Bool → Bool → Type 0
  Moves p in_to in_from =
      moved (reverse from) (reverse to) (upward tree) p
      ≡ cond in_to (lookup tree (from ++ drop (length to) (reverse p)))
      (cond in_from None (lookup tree (reverse p)))

  moves_under : (p : Path) (b : Bool) → is_within to (reverse p) ≡ true → Moves p true b
  moves_under p b inside =
      let rest = drop (length to) (reverse p) in
      ap (moved (reverse from) (reverse to) (upward tree)) (upward_within to p inside)
      ∙ moved-to (reverse from) (reverse to) (upward tree) (reverse rest)
      ∙ ap (lookup tree) (downward from rest)

  moves_away : (p : Path) → is_within to (reverse p) ≡ false → is_within from (reverse p) ≡ true
      → Moves p false true
  moves_away p out inside =
      let rest = drop (length from) (reverse p) in
      let is = upward_within from p inside in
      ap (moved (reverse from) (reverse to) (upward tree)) is
      ∙ moved-from (reverse from) (reverse to) (upward tree) (reverse rest)
      (ap (below (reverse to)) (sym is) ∙ outside to p out)

  moves : (p : Path) (in_to in_from : Bool) → is_within to (reverse p) ≡ in_to
      → is_within from (reverse p) ≡ in_from → Moves p in_to in_from
  moves p true b e k = moves_under p b e
  moves p false true e k = moves_away p e k
  moves p false false e k =
      moved-elsewhere (reverse from) (reverse to) (upward tree) p (outside to p e) (outside from p k)

  -- a rename of paths is what the law of a moved record says
  moves_paths : is_within from to ≡ false → is_within to from ≡ false → (p : Path)
      → moved (reverse from) (reverse to) (upward tree) p ≡ upward (move_subtree tree from to) p
  moves_paths up down p = moves p _ _ refl refl ∙ sym (lookup-move_subtree from to up down tree (reverse p))

module _ (old new : Inodes) (tree : Tree) (f : Path → Option ℕ) (t : IsRooted (upward tree))
    (m : Pairs old (upward tree) f) (fn : Name) (fp : Path) (tn : Name) (tp : Path)
    (from_inode to_inode : ℕ) (link : Link) (from_is : f fp ≡ Some from_inode) (to_is : f tp ≡ Some to_inode)
    (to_parent : upward tree tp ≡ Some Dir)
    (free : upward tree (tn ∷ tp) ≡ None) (is_there : record_of (upward tree) f (fn ∷ fp) ≡ Some link)
    (up : is_within (reverse (fn ∷ fp)) (reverse (tn ∷ tp)) ≡ false)
    (each : (i : ℕ)
    → HoldsChanged (move_record from_inode fn to_inode tn (Some link) i) (old i) (new i)) where
  not_below : (r : Path) → tp ≡ r ++ (fn ∷ fp) → ⊥
  not_below r e =
      let turned : reverse (tn ∷ tp) ≡ reverse (fn ∷ fp) ++ reverse (tn ∷ r) =
      ap (λ (q : Path). reverse (tn ∷ q)) e ∙ reverse-append (tn ∷ r) (fn ∷ fp) in
      true≢false (sym (is_within-append (reverse (fn ∷ fp)) (reverse (tn ∷ r)))
      ∙ ap (is_within (reverse (fn ∷ fp))) (sym turned) ∙ up)

  pub not_above : is_within (reverse (tn ∷ tp)) (reverse (fn ∷ fp)) ≡ false
  not_above = not_true _ (λ inside.
      let there = zipped (f (fn ∷ fp)) (upward tree (fn ∷ fp)) link is_there in
      let rest = reverse (drop (length (reverse (tn ∷ tp))) (reverse (fn ∷ fp))) in
      let here : fn ∷ fp ≡ rest ++ (tn ∷ tp) =
      upward_within (reverse (tn ∷ tp)) (fn ∷ fp) inside
      ∙ ap (λ (q : Path). rest ++ q) (reverse-reverse (tn ∷ tp)) in
      clash (upward tree (fn ∷ fp)) there.1
      (ap (upward tree) here ∙ absent_below (upward tree) t (tn ∷ tp) rest free) there.2)

  each_moves : (i : ℕ)
      → HoldsChanged (move_record from_inode fn to_inode tn (record_of (upward tree) f (fn ∷ fp)) i) (old i)
      (new i)
  each_moves i =
      subst (λ (e : Option Link). HoldsChanged (move_record from_inode fn to_inode tn e i) (old i) (new i))
      (sym is_there) (each i)

  pub moved_means : MeansTree new (move_subtree tree (reverse (fn ∷ fp)) (reverse (tn ∷ tp)))
  moved_means =
      means_by new _ (moved (fn ∷ fp) (tn ∷ tp) (upward tree)) _
      (move_subtree-sorted tree (reverse (fn ∷ fp)) (reverse (tn ∷ tp)))
      (λ p.
      (λ i. moved (sym (reverse-reverse (fn ∷ fp)) i) (sym (reverse-reverse (tn ∷ tp)) i) (upward tree) p)
      ∙ moves_paths tree (reverse (fn ∷ fp)) (reverse (tn ∷ tp)) up not_above p)
      (renamed_rooted old new
      (upward tree) f fn fp tn tp t m from_inode to_inode from_is to_is to_parent free not_below each_moves)
      (renamed_pairs old new
      (upward tree) f fn fp tn tp t m from_inode to_inode from_is to_is to_parent free not_below each_moves)

pub renamed : (old new : Inodes) (tree : Tree) (fp : Path) (fn : Name) (tp : Path) (tn : Name)
    → MeansTree old tree → Renames old new fp fn tp tn
    → MeansTree new (move_subtree tree (reverse (fn ∷ fp)) (reverse (tn ∷ tp)))
renamed old new tree fp fn tp tn m w =
    let t = m.rooted in
    moved_means old new tree m.inode_of t m.pairs fn fp tn tp w.from.inode w.to.inode w.link
    (inode_there t m.pairs fp w.from.inode w.from.is_reached)
    (inode_there t m.pairs tp w.to.inode w.to.is_reached)
    (dir_there t m.pairs tp w.to)
    (child_absent t m.pairs tp w.to tn w.absent)
    (sym (records_are t m.pairs fp w.from fn) ∙ w.is_there)
    w.outside w.moves

-- ---- a rename onto what is there

-- the rename takes out what is at `to`, and so it may be taken out before
pub rename_past_removal : (tree : Tree) (from to : Path)
    → move_subtree tree from to ≡ move_subtree (remove tree to) from to
rename_past_removal tree from to =
    ap (λ (es : Tree). in_order (map (λ e. (moved_path from to e.0, e.1)) es)) (past tree)
  where
    past : (es : Tree)
        → filter (λ e. not (is_within to e.0)) es
        ≡ filter (λ e. not (is_within to e.0)) (filter (λ e. not (same_path to e.0)) es)
    past [] = refl
    past (e ∷ es) =
        let left = filter (λ x. not (same_path to x.0)) es in
        elim (same_path to e.0) as (λ b. same_path to e.0 ≡ b →
        cond (not (is_within to e.0)) (e ∷ filter (λ x. not (is_within to x.0)) es)
        (filter (λ x. not (is_within to x.0)) es)
        ≡ filter (λ x. not (is_within to x.0)) (cond (not b) (e ∷ left) left)) [
          | true ↦ λ same.
              let inside : is_within to e.0 ≡ true =
              ap (is_within to) (sym (same_path-equal to e.0 same) ∙ sym (append-nil to))
              ∙ is_within-append to [] in
              ap (λ b.
              cond (not b) (e ∷ filter (λ x. not (is_within to x.0)) es)
              (filter (λ x. not (is_within to x.0)) es))
              inside
              ∙ past es
          | false ↦ λ _. ap (λ (xs : Tree). cond (not (is_within to e.0)) (e ∷ xs) xs) (past es)
        ] refl

-- what is left of the records, once one inode and its record are taken out
dropped : ℕ → Name → ℕ → InodeContent → InodeContent
dropped parent name i (Bytes bytes) = Bytes bytes
dropped parent name i (Records records) = Records (λ n. put_record parent name None i n (records n))

without : ℕ → Name → ℕ → Inodes → Inodes
without parent name inode inodes i = cond (i == inode) None (option_map (dropped parent name i) (inodes i))

without-there : (parent : ℕ) (name : Name) (inode : ℕ) (inodes : Inodes)
    → without parent name inode inodes inode ≡ None
unfolding without
without-there parent name inode inodes =
    ap (λ b. cond b None (option_map (dropped parent name inode) (inodes inode))) (eq-eqb inode inode refl)

without-other : (parent : ℕ) (name : Name) (inode : ℕ) (inodes : Inodes) (i : ℕ) → (i ≡ inode → ⊥)
    → without parent name inode inodes i ≡ option_map (dropped parent name i) (inodes i)
unfolding without
without-other parent name inode inodes i ne =
    ap (λ b. cond b None (option_map (dropped parent name i) (inodes i))) (ne_eqb i inode ne)

drops : (parent : ℕ) (name : Name) (i : ℕ) (o : Option InodeContent)
    → HoldsChanged (put_record parent name None i) o (option_map (dropped parent name i) o)
unfolding dropped
drops parent name i None = refl
drops parent name i (Some (Bytes bytes)) = refl
drops parent name i (Some (Records records)) =
    ((λ n. put_record parent name None i n (records n)), refl, λ n. refl)

-- a record that is written over may be taken out before
move_record-over : (from : ℕ) (fn : Name) (to : ℕ) (tn : Name) (link : Option Link) (i : ℕ) (n : Name)
    (old : Option Link)
    →
    move_record from fn to tn link i n (put_record to tn None i n old)
    ≡ move_record from fn to tn link i n old
unfolding put_record
move_record-over from fn to tn link i n old =
    elim ((i == to) && same_name n tn) as (λ b.
    (if b then link else if (i == from) && same_name n fn then None else if b then None else old)
    ≡ (if b then link else if (i == from) && same_name n fn then None else old)) [
      | true ↦ refl
      | false ↦ refl
    ]

moves_dropped : (from : ℕ) (fn : Name) (to : ℕ) (tn : Name) (link : Option Link) (i : ℕ)
    (o new : Option InodeContent)
    →
    HoldsChanged (move_record from fn to tn link i) o new
    → HoldsChanged (move_record from fn to tn link i) (option_map (dropped to tn i) o) new
unfolding dropped
moves_dropped from fn to tn link i None new h = h
moves_dropped from fn to tn link i (Some (Bytes bytes)) new h = h
moves_dropped from fn to tn link i (Some (Records records)) new h =
    (h.0, h.1, λ n. h.2 n ∙ sym (move_record-over from fn to tn link i n (records n)))

module _ (old new : Inodes) (tree : Tree) (fp : Path) (fn : Name) (tp : Path) (tn : Name)
    (m : MeansTree old tree) (w : Replaces old new fp fn tp tn) where
  between : Inodes
  between = without w.to.inode tn w.target.0 old

  abbrev to : Path
  to = reverse (tn ∷ tp)

  t : IsRooted (upward tree)
  t = m.rooted

  target_is : m.inode_of (tn ∷ tp) ≡ Some w.target.0
  target_is = (child_there t m.pairs tp w.to tn w.target w.was_there).0

  empty : (n : Name) → upward tree (n ∷ (tn ∷ tp)) ≡ None
  empty = nothing_below t m.pairs (tn ∷ tp) w.target.0 w.held target_is w.was w.bare

  from_is : m.inode_of fp ≡ Some w.from.inode
  from_is = inode_there t m.pairs fp w.from.inode w.from.is_reached

  to_is : m.inode_of tp ≡ Some w.to.inode
  to_is = inode_there t m.pairs tp w.to.inode w.to.is_reached

  others' : (i : ℕ) → (i ≡ w.target.0 → ⊥)
      → HoldsChanged (put_record w.to.inode tn None i) (old i) (between i)
  unfolding between
  others' i ne =
      subst (λ (o : Option InodeContent). HoldsChanged (put_record w.to.inode tn None i) (old i) o)
      (sym (without-other w.to.inode tn w.target.0 old i ne)) (drops w.to.inode tn i (old i))

  gone' : between w.target.0 ≡ None
  unfolding between
  gone' = without-there w.to.inode tn w.target.0 old

  abbrev f' : Path → Option ℕ
  f' = put_at (tn ∷ tp) None m.inode_of

  same_trees : put_at (tn ∷ tp) None (upward tree) ≡ upward (remove tree to)
  same_trees = same_functions _ _ (taken_out tree (tn ∷ tp))

  t' : IsRooted (upward (remove tree to))
  t' =
      subst IsRooted same_trees
      (removed_rooted old between
      (upward tree) m.inode_of t m.pairs tn tp w.to.inode w.target.0 to_is target_is empty gone' others')

  m' : Pairs between (upward (remove tree to)) f'
  m' =
      subst (λ (x : Path → Option Object). Pairs between x f') same_trees
      (removed_pairs old between
      (upward tree) m.inode_of t m.pairs tn tp w.to.inode w.target.0 to_is target_is empty gone' others')

  from_apart : fn ∷ fp ≡ tn ∷ tp → ⊥
  from_apart e =
      let itself : is_within (reverse (fn ∷ fp)) (reverse (fn ∷ fp)) ≡ true =
      ap (is_within (reverse (fn ∷ fp))) (sym (append-nil (reverse (fn ∷ fp))))
      ∙ is_within-append (reverse (fn ∷ fp)) [] in
      true≢false (sym itself ∙ ap (λ (q : Path). is_within (reverse (fn ∷ fp)) (reverse q)) e ∙ w.outside)

  entry_there : record_of (upward tree) m.inode_of (fn ∷ fp) ≡ Some w.link
  entry_there = sym (records_are t m.pairs fp w.from fn) ∙ w.is_there

  dir_apart : fp ≡ tn ∷ tp → ⊥
  dir_apart e =
      let there = zipped (m.inode_of (fn ∷ fp)) (upward tree (fn ∷ fp)) w.link entry_there in
      clash (upward tree (fn ∷ fp)) there.1 (ap (λ (q : Path). upward tree (fn ∷ q)) e ∙ empty fn) there.2

  to_apart : tp ≡ tn ∷ tp → ⊥
  to_apart e = longer tn [] tp (sym e)

  up_other : (q : Path) → (q ≡ tn ∷ tp → ⊥) → upward (remove tree to) q ≡ upward tree q
  up_other q ne = sym (taken_out tree (tn ∷ tp) q) ∙ put_at-other (tn ∷ tp) None (upward tree) q ne

  each : (i : ℕ)
      → HoldsChanged (move_record w.from.inode fn w.to.inode tn (Some w.link) i) (between i) (new i)
  unfolding between
  each i = elim (cases_Bool (i == w.target.0)) [
    | inl e ↦
        let here : i ≡ w.target.0 = eqb-true i w.target.0 e in
        let none : between i ≡ None = ap between here ∙ gone' in
        subst (λ (o : Option InodeContent).
        HoldsChanged (move_record w.from.inode fn w.to.inode tn (Some w.link) i) o (new i))
        (sym none) (ap new here ∙ w.moves.gone)
    | inr e ↦
        let ne : i ≡ w.target.0 → ⊥ = eqb-false i w.target.0 e in
        subst (λ (o : Option InodeContent).
        HoldsChanged (move_record w.from.inode fn w.to.inode tn (Some w.link) i) o (new i))
        (sym (without-other w.to.inode tn w.target.0 old i ne))
        (moves_dropped w.from.inode fn w.to.inode tn (Some w.link) i (old i) (new i) (w.moves.others i ne))
  ]

  from_is' : f' fp ≡ Some w.from.inode
  from_is' = put_at-other (tn ∷ tp) None m.inode_of fp dir_apart ∙ from_is

  to_is' : f' tp ≡ Some w.to.inode
  to_is' = put_at-other (tn ∷ tp) None m.inode_of tp to_apart ∙ to_is

  to_parent' : upward (remove tree to) tp ≡ Some Dir
  to_parent' = up_other tp to_apart ∙ dir_there t m.pairs tp w.to

  free' : upward (remove tree to) (tn ∷ tp) ≡ None
  free' = sym (taken_out tree (tn ∷ tp) (tn ∷ tp)) ∙ put_at-there (tn ∷ tp) None (upward tree)

  entry_there' : record_of (upward (remove tree to)) f' (fn ∷ fp) ≡ Some w.link
  entry_there' =
      record_cong _ _ _ _ (put_at-other (tn ∷ tp) None m.inode_of (fn ∷ fp) from_apart)
      (up_other (fn ∷ fp) from_apart)
      ∙ entry_there

  moved_on : MeansTree new (move_subtree (remove tree to) (reverse (fn ∷ fp)) to)
  moved_on =
      moved_means between new
      (remove tree to) f' t' m' fn fp tn tp w.from.inode w.to.inode w.link from_is' to_is' to_parent' free'
      entry_there' w.outside each

  -- the target doesn't begin the path that is moved onto it
  pub replaced_not_above : is_within to (reverse (fn ∷ fp)) ≡ false
  replaced_not_above =
      not_above between new
      (remove tree to) f' t' m' fn fp tn tp w.from.inode w.to.inode w.link from_is' to_is' to_parent' free'
      entry_there' w.outside each

  -- and once it is taken out, nothing is at or below it
  pub replaced_free : (r : Path) → upward (remove tree to) (r ++ (tn ∷ tp)) ≡ None
  replaced_free r = absent_below (upward (remove tree to)) t' (tn ∷ tp) r free'

  pub replaced : MeansTree new (move_subtree tree (reverse (fn ∷ fp)) to)
  replaced = subst (MeansTree new) (sym (rename_past_removal tree (reverse (fn ∷ fp)) to)) moved_on
