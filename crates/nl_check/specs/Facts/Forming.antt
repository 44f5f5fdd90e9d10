-- Inodes that are named once each and found from the root stand for a tree, and the other way round.
use Rattle.std.specs.Prelude.{◌≡◌, ℕ, zero, suc, ◌+◌, ◌<◌, Bool, true, false, cond, List, [], ◌∷◌, ◌++◌, length, reverse, Option, Some, None, refl}
use Rattle.std.specs.Option.{is_some, option_map, option_and_then, option_zip}
use Rattle.std.specs.FinMap.{find}
use Rattle.std.proofs.Common.{sym, ◌∙◌, ap, arith}
use Rattle.std.proofs.lemmas.List.{reverse-reverse}
use Rattle.nl_types.specs.declared.reply.Object.{Object}
use Rattle.nl_types.specs.declared.reply.Object.TheVariants.{Dir, File}
use Rattle.nl_types.specs.declared.kind.Kind.{Kind}
use Rattle.nl_types.specs.Plain.Paths.{Name, Path, path_cmp, same_path}
use Rattle.nl_types.specs.Plain.Trees.{Tree, lookup, object_kind, in_order}
use Rattle.nl_types.specs.Inodes.{Link, InodeContent, Bytes, Records, Inodes, MeansTree, upward, IsRooted, Pairs, record_of, reached, object_of, found_object, inode_named}
use Rattle.nl_types.specs.InodeChanges.{HasRecords}
use Rattle.nl_types.specs.InodeLaws.{MeansPaths}
use Rattle.nl_check.specs.InodeTrees.{AreBelow, FormTree, FormedTreesAreMeant, MeantTreesAreFormed, Names, used_below}
use Rattle.nl_types.specs.Facts.Lookups.{lookup-in_order, same_path-itself}
use Rattle.nl_types.specs.Facts.Subtrees.{in_order-sorted}
use Rattle.nl_types.specs.Facts.TreeLaws.{same_path-equal}
use Rattle.nl_types.specs.Facts.Inodes.Means.{means_by}
use Rattle.nl_types.specs.Facts.Inodes.Recording.{clash, same_value}
use Rattle.nl_types.specs.Facts.Inodes.Standing.{dir_there, zipped}
use Rattle.nl_types.specs.Facts.Inodes.TreeCounts.{length-insert_new}
use Rattle.nl_types.specs.Facts.Inodes.Walks.{reached-pairs}

-- ---- what stands for a tree forms one

module _ (inodes : Inodes) (tree : Tree) (m : MeansTree inodes tree) where
  record At (d : ℕ) (name : Name) (link : Link) : Type 0 where
    pub path : Path
    pub of_directory : m.inode_of path ≡ Some d
    pub of_child : m.inode_of (name ∷ path) ≡ Some link.0
    pub object : Object
    pub is : upward tree (name ∷ path) ≡ Some object
    pub kind : object_kind object ≡ link.1

  -- where a record's inode stands
  at : (d : ℕ) (name : Name) (link : Link) → Names inodes d name link → At d name link
  at d name link n =
      let p = m.pairs.all d (Records n.records) n.directory in
      let walk = reached-pairs m.rooted m.pairs p.0 ∙ p.1 in
      let h : HasRecords inodes p.0 =
      record { inode = d; records = n.records; is_reached = walk; holds = n.directory } in
      let dir = dir_there m.rooted m.pairs p.0 h in
      let own = m.pairs.directory p.0 d dir p.1 in
      let same : Some (Records own.0) ≡ Some (Records n.records) = sym own.1 ∙ n.directory in
      let listed : own.0 name ≡ Some link = alike own.0 n.records same name ∙ n.listed in
      let z = zipped (m.inode_of (name ∷ p.0)) (upward tree (name ∷ p.0)) link (sym (own.2 name) ∙ listed) in
      record { path = p.0; of_directory = p.1; of_child = z.0; object = z.1; is = z.2; kind = z.3 }
    where
      records_in : InodeContent → Name → Option Link
      records_in (Bytes bytes) = λ _. None
      records_in (Records records) = records

      alike : (a b : Name → Option Link) → Some (Records a) ≡ Some (Records b) → (n : Name) → a n ≡ b n
      alike a b e n = ap (λ (o : Option InodeContent). option_and_then (λ c. records_in c n) o) e

  -- what an object's inode holds
  held : (p : Path) (i : ℕ) (x : Object) → m.inode_of p ≡ Some i → upward tree p ≡ Some x
      → (c : InodeContent) × (inodes i ≡ Some c) × (object_of c ≡ x)
  held p i Dir of is = let d = m.pairs.directory p i is of in (Records d.0, d.1, refl)
  held p i (File bytes) of is = (Bytes bytes, m.pairs.file p i bytes is of, refl)

  forms : FormTree inodes
  unfolding at held
  forms = record {
    root = let d = m.pairs.directory [] 2 m.rooted.root m.pairs.root in (d.0, d.1);
    used = λ d name link n.
        let a = at d name link n in
        let h = held (name ∷ a.path) link.0 a.object a.of_child a.is in
        record { content = h.0; used = h.1; kind_is = ap object_kind h.2 ∙ a.kind };
    not_root = λ d name link n e.
        let a = at d name link n in
        let same : name ∷ a.path ≡ [] =
        m.pairs.once (name ∷ a.path) [] link.0 a.of_child
        (m.pairs.root ∙ ap (λ (k : ℕ). Some k) (sym e)) in
        cc;
    once = λ d e name other one two n k same.
        let a = at d name one n in
        let b = at e other two k in
        let paths : name ∷ a.path ≡ other ∷ b.path =
        m.pairs.once (name ∷ a.path) (other ∷ b.path) one.0 a.of_child
        (b.of_child ∙ ap (λ (x : ℕ). Some x) (sym same)) in
        let below : a.path ≡ b.path = cc in
        let dirs : Some d ≡ Some e = sym a.of_directory ∙ (ap m.inode_of below ∙ b.of_directory) in
        (cc, cc);
    found = λ i c e. let p = m.pairs.all i c e in (p.0, reached-pairs m.rooted m.pairs p.0 ∙ p.1);
  }

pub meant_trees_are_formed : MeantTreesAreFormed
meant_trees_are_formed = forms

-- ---- inodes that form a tree stand for one

module _ (inodes : Inodes) (f : FormTree inodes) where
  record Step (n : Name) (p : Path) (i : ℕ) : Type 0 where
    pub directory : ℕ
    pub walk : reached inodes p ≡ Some directory
    pub link : Link
    pub names : Names inodes directory n link
    pub is : link.0 ≡ i

  -- the last step of a walk
  step : (n : Name) (p : Path) (i : ℕ) → reached inodes (n ∷ p) ≡ Some i → Step n p i
  unfolding reached
  step n p i e = by_walk (reached inodes p) refl e
    where
      by_records : (d : ℕ) (records : Name → Option Link) (o : Option Link) → reached inodes p ≡ Some d
          → inodes d ≡ Some (Records records) → records n ≡ o
          → option_map (λ (r : Link). r.0) o ≡ Some i → Step n p i
      by_records d records None walk is at h = cc
      by_records d records (Some link) walk is at h = record {
        directory = d;
        walk = walk;
        link = link;
        names = record { records = records; directory = is; listed = at };
        is = cc;
      }

      by_content : (d : ℕ) (o : Option InodeContent) → reached inodes p ≡ Some d → inodes d ≡ o
          → option_and_then (λ c. inode_named n c) o ≡ Some i → Step n p i
      by_content d None walk is h = cc
      by_content d (Some (Bytes bytes)) walk is h = cc
      by_content d (Some (Records records)) walk is h = by_records d records (records n) walk is refl h

      by_walk : (o : Option ℕ) → reached inodes p ≡ o
          → option_and_then (λ c. inode_named n c) (option_and_then inodes o) ≡ Some i → Step n p i
      by_walk None walk h = cc
      by_walk (Some d) walk h = by_content d (inodes d) walk refl h

  -- a record leads a walk on
  goes_on : (n : Name) (p : Path) (d : ℕ) (link : Link) → reached inodes p ≡ Some d → Names inodes d n link
      → reached inodes (n ∷ p) ≡ Some link.0
  unfolding reached
  goes_on n p d link walk k = rw walk (rw (k.directory) (ap (option_map (λ (r : Link). r.0)) k.listed))

  leads_nowhere : (n : Name) (p : Path) (d : ℕ) (records : Name → Option Link) → reached inodes p ≡ Some d
      → inodes d ≡ Some (Records records) → records n ≡ None → reached inodes (n ∷ p) ≡ None
  unfolding reached
  leads_nowhere n p d records walk is none = rw walk (rw is (ap (option_map (λ (r : Link). r.0)) none))

  root_reached : reached inodes [] ≡ Some 2
  unfolding reached
  root_reached = refl

  -- one walk comes to an inode
  one_walk : (p q : Path) (i : ℕ) → reached inodes p ≡ Some i → reached inodes q ≡ Some i → p ≡ q
  one_walk [] [] i a b = refl
  one_walk [] (n ∷ q) i a b =
      absurd (let s = step n q i b in
      let two : Some 2 ≡ Some i = sym root_reached ∙ a in
      f.not_root s.directory n s.link s.names cc)
  one_walk (n ∷ p) [] i a b =
      absurd (let s = step n p i a in
      let two : Some 2 ≡ Some i = sym root_reached ∙ b in
      f.not_root s.directory n s.link s.names cc)
  one_walk (n ∷ p) (m ∷ q) i a b =
      let s = step n p i a in
      let t = step m q i b in
      let same = f.once s.directory t.directory n m s.link t.link s.names t.names (s.is ∙ sym t.is) in
      let rest = one_walk p q s.directory s.walk (t.walk ∙ ap (λ (k : ℕ). Some k) (sym same.0)) in
      λ j. same.1 j ∷ rest j

  -- a walk comes to an inode in use
  comes_to : (p : Path) (i : ℕ) → reached inodes p ≡ Some i → (c : InodeContent) × (inodes i ≡ Some c)
  comes_to [] i a =
      let two : 2 ≡ i = let e : Some 2 ≡ Some i = sym root_reached ∙ a in
      cc in
      (Records f.root.0, ap inodes (sym two) ∙ f.root.1)
  comes_to (n ∷ p) i a =
      let s = step n p i a in
      let u = f.used s.directory n s.link s.names in
      (u.content, ap inodes (sym s.is) ∙ u.used)

  finds : (p : Path) (i : ℕ) (c : InodeContent) → reached inodes p ≡ Some i → inodes i ≡ Some c
      → found_object inodes p ≡ Some (object_of c)
  finds p i c walk is =
      ap (λ (o : Option ℕ). option_map object_of (option_and_then inodes o)) walk ∙ ap (option_map object_of) is

  record Found (p : Path) (x : Object) : Type 0 where
    pub inode : ℕ
    pub walk : reached inodes p ≡ Some inode
    pub content : InodeContent
    pub holds : inodes inode ≡ Some content
    pub object : object_of content ≡ x

  found_at : (p : Path) (x : Object) → found_object inodes p ≡ Some x → Found p x
  found_at p x h = by (reached inodes p) refl h
    where
      by_content : (i : ℕ) (o : Option InodeContent) → reached inodes p ≡ Some i → inodes i ≡ o
          → option_map object_of o ≡ Some x → Found p x
      by_content i None walk is k = cc
      by_content i (Some c) walk is k = record { inode = i; walk = walk; content = c; holds = is; object = cc }

      by : (o : Option ℕ) → reached inodes p ≡ o → option_map object_of (option_and_then inodes o) ≡ Some x
          → Found p x
      by None walk k = cc
      by (Some i) walk k = by_content i (inodes i) walk refl k

  -- ---- the walks are rooted, and paired with the inodes

  rooted : IsRooted (found_object inodes)
  rooted = record {
    root = finds [] 2 (Records f.root.0) root_reached f.root.1;
    parents = λ n p x h.
        let at = found_at (n ∷ p) x h in
        let s = step n p at.inode at.walk in
        finds p s.directory (Records s.names.records) s.walk s.names.directory;
  }

  pairs : Pairs inodes (found_object inodes) (reached inodes)
  pairs = record {
    root = root_reached;
    paths = λ p. both p (reached inodes p) refl;
    once = one_walk;
    all = λ i c e. f.found i c e;
    directory = λ p i d walk. in_directory p i (inodes i) d walk refl;
    file = λ p i bytes d walk. of_file p i bytes (inodes i) d walk refl;
  }
    where
      both : (p : Path) (o : Option ℕ) → reached inodes p ≡ o
          → is_some (reached inodes p) ≡ is_some (found_object inodes p)
      both p None walk =
          ap is_some walk
          ∙ sym (ap is_some (ap (λ (o : Option ℕ). option_map object_of (option_and_then inodes o)) walk))
      both p (Some i) walk =
          let c = comes_to p i walk in ap is_some walk ∙ sym (ap is_some (finds p i c.0 walk c.1))

      record_there : (p : Path) (d : ℕ) (records : Name → Option Link) → reached inodes p ≡ Some d
          → inodes d ≡ Some (Records records) → (n : Name) (o : Option Link) → records n ≡ o
          → o ≡ option_zip (reached inodes (n ∷ p)) (option_map object_kind (found_object inodes (n ∷ p)))
      record_there p d records walk is n None at =
          let nothing : reached inodes (n ∷ p) ≡ None = leads_nowhere n p d records walk is at in
          sym (ap (λ (o : Option ℕ).
          option_zip o (option_map object_kind (option_map object_of (option_and_then inodes o))))
          nothing)
      record_there p d records walk is n (Some link) at =
          let k : Names inodes d n link = record { records = records; directory = is; listed = at } in
          let u = f.used d n link k in
          let there = goes_on n p d link walk k in
          let object = finds (n ∷ p) link.0 u.content there u.used in
          let kinds : option_map object_kind (found_object inodes (n ∷ p)) ≡ Some link.1 =
          ap (option_map object_kind) object ∙ ap (λ (k : Kind). Some k) u.kind_is in
          sym (ap (λ (o : Option ℕ). option_zip o (option_map object_kind (found_object inodes (n ∷ p)))) there
          ∙ ap (option_zip (Some link.0)) kinds)

      in_directory : (p : Path) (i : ℕ) (o : Option InodeContent) → found_object inodes p ≡ Some Dir
          → reached inodes p ≡ Some i → inodes i ≡ o
          → (records : Name → Option Link) × (inodes i ≡ Some (Records records))
          × ((n : Name) → records n ≡ record_of (found_object inodes) (reached inodes) (n ∷ p))
      in_directory p i None d walk is = let c = comes_to p i walk in absurd (clash (inodes i) c.0 is c.1)
      in_directory p i (Some (Bytes bytes)) d walk is =
          absurd (let e : Some (File bytes) ≡ Some Dir = sym (finds p i (Bytes bytes) walk is) ∙ d in cc)
      in_directory p i (Some (Records records)) d walk is =
          (records, is, λ n. record_there p i records walk is n (records n) refl)

      of_file : (p : Path) (i : ℕ) (bytes : List ℕ) (o : Option InodeContent)
          → found_object inodes p ≡ Some (File bytes) → reached inodes p ≡ Some i → inodes i ≡ o
          → inodes i ≡ Some (Bytes bytes)
      of_file p i bytes None d walk is = let c = comes_to p i walk in absurd (clash (inodes i) c.0 is c.1)
      of_file p i bytes (Some (Bytes own)) d walk is =
          let e : Some (File own) ≡ Some (File bytes) = sym (finds p i (Bytes own) walk is) ∙ d in
          let same : own ≡ bytes = cc in
          is ∙ ap (λ (bs : List ℕ). Some (Bytes bs)) same
      of_file p i bytes (Some (Records records)) d walk is =
          absurd (let e : Some Dir ≡ Some (File bytes) = sym (finds p i (Records records) walk is) ∙ d in cc)

  -- ---- the tree

  entry_at : (i : ℕ) (o : Option InodeContent) → inodes i ≡ o → List (Path × Object)
  entry_at i None is = []
  entry_at i (Some c) is = (reverse (f.found i c is).0, object_of c) ∷ []

  -- the entries of the inodes below a number
  entries : ℕ → List (Path × Object)
  entries zero = []
  entries (suc n) = entry_at n (inodes n) refl ++ entries n

  record Entered (n : ℕ) (path : Path) (x : Object) : Type 0 where
    pub inode : ℕ
    pub below : inode < n
    pub content : InodeContent
    pub holds : inodes inode ≡ Some content
    pub walk : reached inodes (reverse path) ≡ Some inode
    pub object : object_of content ≡ x

  -- a walk that is turned round twice
  turned : (p : Path) (i : ℕ) → reached inodes p ≡ Some i → reached inodes (reverse (reverse p)) ≡ Some i
  turned p i walk = ap (reached inodes) (reverse-reverse p) ∙ walk

  -- what is entered is what an inode below the number holds
  entered : (n : ℕ) (path : Path) (x : Object) → find path_cmp path (entries n) ≡ Some x → Entered n path x
  unfolding entries entry_at
  entered zero path x h = cc
  entered (suc n) path x h = by (λ k. entered n path x k) (inodes n) refl h
    where
      later : Entered n path x → Entered (suc n) path x
      later e = record {
        inode = e.inode;
        below = omega (arith, e.below);
        content = e.content;
        holds = e.holds;
        walk = e.walk;
        object = e.object;
      }

      by_path : (find path_cmp path (entries n) ≡ Some x → Entered n path x)
          → (c : InodeContent) (is : inodes n ≡ Some c)
          (b : Bool) → same_path path (reverse (f.found n c is).0) ≡ b
          → cond b (Some (object_of c)) (find path_cmp path (entries n)) ≡ Some x → Entered (suc n) path x
      by_path earlier c is true same e = record {
        inode = n;
        below = omega arith;
        content = c;
        holds = is;
        walk =
            ap (λ (q : Path). reached inodes (reverse q))
            (same_path-equal path (reverse (f.found n c is).0) same)
            ∙ turned (f.found n c is).0 n (f.found n c is).1;
        object = cc;
      }
      by_path earlier c is false same e = later (earlier e)

      by : (find path_cmp path (entries n) ≡ Some x → Entered n path x)
          → (o : Option InodeContent) (is : inodes n ≡ o)
          → find path_cmp path (entry_at n o is ++ entries n) ≡ Some x → Entered (suc n) path x
      by earlier None is k = later (earlier k)
      by earlier (Some c) is k = by_path earlier c is (same_path path (reverse (f.found n c is).0)) refl k

  -- the path of an inode below the number is entered
  is_entered : (n i : ℕ) (c : InodeContent) (p : Path) → i < n → inodes i ≡ Some c → reached inodes p ≡ Some i
      → find path_cmp (reverse p) (entries n) ≡ Some (object_of c)
  unfolding entries entry_at
  is_entered zero i c p low is walk = absurd (omega (arith, low))
  is_entered (suc n) i c p low is walk = by (λ less. is_entered n i c p less is walk) (inodes n) refl
    where
      content : (d : InodeContent) → inodes n ≡ Some d → reached inodes p ≡ Some n → object_of d ≡ object_of c
      content d at there =
          let same : Some i ≡ Some n = sym walk ∙ there in
          let number : i ≡ n = cc in
          ap object_of (same_value (inodes n) d c at (ap inodes (sym number) ∙ is))

      less_by : (i n : ℕ) → i < suc n → (i ≡ n → ⊥) → i < n
      less_by i n low other = omega (arith, low, other)

      less : (reached inodes p ≡ Some n → ⊥) → i < n
      less apart = less_by i n low (λ e. apart (walk ∙ ap (λ (k : ℕ). Some k) e))

      by_path : (i < n → find path_cmp (reverse p) (entries n) ≡ Some (object_of c))
          → (d : InodeContent) (at : inodes n ≡ Some d)
          (b : Bool) → same_path (reverse p) (reverse (f.found n d at).0) ≡ b
          → cond b (Some (object_of d)) (find path_cmp (reverse p) (entries n)) ≡ Some (object_of c)
      by_path earlier d at true same =
          let turned_same : reverse p ≡ reverse (f.found n d at).0 =
          same_path-equal (reverse p) (reverse (f.found n d at).0) same in
          let paths : p ≡ (f.found n d at).0 =
          sym (reverse-reverse p) ∙ (ap reverse turned_same ∙ reverse-reverse (f.found n d at).0) in
          ap (λ (x : Object). Some x) (content d at (ap (reached inodes) paths ∙ (f.found n d at).1))
      by_path earlier d at false same = earlier (less (λ there.
          let paths : (f.found n d at).0 ≡ p = one_walk (f.found n d at).0 p n (f.found n d at).1 there in
          let itself : same_path (reverse p) (reverse (f.found n d at).0) ≡ true =
          ap (λ (q : Path). same_path (reverse p) (reverse q)) paths ∙ same_path-itself (reverse p) in
          let no : true ≡ false = sym itself ∙ same in cc))

      by : (i < n → find path_cmp (reverse p) (entries n) ≡ Some (object_of c))
          → (o : Option InodeContent) (at : inodes n ≡ o)
          → find path_cmp (reverse p) (entry_at n o at ++ entries n) ≡ Some (object_of c)
      by earlier None at = earlier (less (λ there. let d = comes_to p n there in clash (inodes n) d.0 at d.1))
      by earlier (Some d) at = by_path earlier d at (same_path (reverse p) (reverse (f.found n d at).0)) refl

  tree_below : ℕ → Tree
  tree_below n = in_order (entries n)

  -- as many entries as inodes in use
  counted : (n : ℕ) → length (tree_below n) ≡ used_below inodes n
  unfolding entries entry_at tree_below
  counted zero = refl
  counted (suc n) = by (counted n) (inodes n) refl
    where
      absent_yet : (c : InodeContent) (at : inodes n ≡ Some c) (o : Option Object)
          → find path_cmp (reverse (f.found n c at).0) (entries n) ≡ o
          → lookup (tree_below n) (reverse (f.found n c at).0) ≡ None
      absent_yet c at None h = lookup-in_order (entries n) (reverse (f.found n c at).0) ∙ h
      absent_yet c at (Some x) h =
          let e = entered n (reverse (f.found n c at).0) x h in
          let same : Some e.inode ≡ Some n = sym e.walk ∙ turned (f.found n c at).0 n (f.found n c at).1 in
          let number : e.inode ≡ n = cc in
          absurd (omega (arith, e.below, number))

      by : length (tree_below n) ≡ used_below inodes n → (o : Option InodeContent) (at : inodes n ≡ o)
          → length (in_order (entry_at n o at ++ entries n)) ≡ cond (is_some o) 1 0 + used_below inodes n
      by earlier None at = earlier ∙ omega arith
      by earlier (Some c) at =
          let p = f.found n c at in
          let new : lookup (tree_below n) (reverse p.0) ≡ None =
          absent_yet c at (find path_cmp (reverse p.0) (entries n)) refl in
          length-insert_new (tree_below n) (reverse p.0) (object_of c) (in_order-sorted (entries n)) new
          ∙ (ap (λ (k : ℕ). k + 1) earlier ∙ omega arith)

  module _ (limit : ℕ) (few : AreBelow limit inodes) where
    -- the tree has what the walks find
    has_found : (p : Path) → found_object inodes p ≡ upward (tree_below limit) p
    unfolding tree_below
    has_found p = by (found_object inodes p) refl
      where
        by_find : (o : Option Object) → find path_cmp (reverse p) (entries limit) ≡ o
            → found_object inodes p ≡ None → found_object inodes p ≡ upward (tree_below limit) p
        by_find None h none = none ∙ sym (lookup-in_order (entries limit) (reverse p) ∙ h)
        by_find (Some x) h none =
            let e = entered limit (reverse p) x h in
            let walk = ap (reached inodes) (sym (reverse-reverse p)) ∙ e.walk in
            absurd
            (clash (found_object inodes p) (object_of e.content) none (finds p e.inode e.content walk e.holds))

        by : (o : Option Object) → found_object inodes p ≡ o → found_object inodes p ≡ upward (tree_below limit) p
        by None h = by_find (find path_cmp (reverse p) (entries limit)) refl h
        by (Some x) h =
            let at = found_at p x h in
            h
            ∙ (ap (λ (y : Object). Some y) (sym at.object)
            ∙ sym (lookup-in_order (entries limit) (reverse p)
            ∙ is_entered limit at.inode at.content p (few at.inode at.content at.holds) at.holds at.walk))

    means : MeansPaths inodes (tree_below limit) (used_below inodes limit)
    unfolding tree_below
    means = record {
      means =
          means_by inodes (tree_below limit) (found_object inodes) (reached inodes)
          (in_order-sorted (entries limit)) has_found rooted pairs;
      count = counted limit;
    }

pub formed_trees_are_meant : FormedTreesAreMeant
formed_trees_are_meant inodes limit few f = (tree_below inodes f limit, means inodes f limit few)
