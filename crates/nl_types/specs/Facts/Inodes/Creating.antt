-- A new file or directory adds one inode and one record.
use Rattle.std.specs.Prelude.{◌≡◌, ℕ, Bool, true, false, List, [], ◌∷◌, Option, Some, None, refl}
use Rattle.std.specs.Option.{is_some, option_map, option_zip}
use Rattle.std.proofs.Common.{sym, ◌∙◌, ap, subst, inl, inr, eqb}
use Rattle.std.proofs.lemmas.Bool.{eqb-true, eqb-false}
use Rattle.nl_types.specs.declared.reply.Object.{Object}
use Rattle.nl_types.specs.declared.reply.Object.TheVariants.{Dir, File}
use Rattle.nl_types.specs.Plain.Paths.{Name, Path}
use Rattle.nl_types.specs.Plain.Trees.{object_kind}
use Rattle.nl_types.specs.Inodes.{Link, InodeContent, Bytes, Records, Inodes, IsRooted, Pairs, record_of}
use Rattle.nl_types.specs.InodeChanges.{HoldsChanged, put_record, fresh_content}
use Rattle.nl_types.specs.Facts.Inodes.Walks.{absent}
use Rattle.nl_types.specs.Facts.Inodes.Ways.{path_cases, name_cases, longer, put_at, put_at-there, put_at-other}
use Rattle.nl_types.specs.Facts.Inodes.Recording.{clash, same_value, same_child, put_record-there, put_record-dir, put_record-name, record_cong, absent_below}

module _ (inodes inodes' : Inodes) (tree : Path → Option Object) (f : Path → Option ℕ) (name : Name)
    (dir : Path) (object : Object) (j : ℕ)
    (t : IsRooted tree) (m : Pairs inodes tree f) (parent : ℕ) (parent_is : f dir ≡ Some parent)
    (in_dir : tree dir ≡ Some Dir) (none : tree (name ∷ dir) ≡ None)
    (free : inodes j ≡ None) (added : inodes' j ≡ Some (fresh_content object))
    (others : (i : ℕ) → (i ≡ j → ⊥)
    → HoldsChanged (put_record parent name (Some (j, object_kind object)) i) (inodes i) (inodes' i)) where
  abbrev pub f' : Path → Option ℕ
  f' = put_at (name ∷ dir) (Some j) f

  abbrev pub tree' : Path → Option Object
  tree' = put_at (name ∷ dir) (Some object) tree

  gone : (q : Path) → tree q ≡ None → f q ≡ None
  gone q e = absent (f q) (m.paths q ∙ ap (λ (o : Option Object). is_some o) e)

  in_use : (q : Path) (i : ℕ) (o : Option Object) → tree q ≡ o → f q ≡ Some i → inodes i ≡ None → ⊥
  in_use q i None e k z = clash (f q) i (gone q e) k
  in_use q i (Some Dir) e k z = let d = m.directory q i e k in clash (inodes i) (Records d.0) z d.1
  in_use q i (Some (File bytes)) e k z = clash (inodes i) (Bytes bytes) z (m.file q i bytes e k)

  not_new : (q : Path) (i : ℕ) → f q ≡ Some i → i ≡ j → ⊥
  not_new q i k e = in_use q i (tree q) refl k (ap inodes e ∙ free)

  holds : (q : Path) (i : ℕ) (o : Option InodeContent) → f q ≡ Some i → inodes i ≡ o
      → HoldsChanged (put_record parent name (Some (j, object_kind object)) i) o (inodes' i)
  holds q i o k e =
      subst (λ (x : Option InodeContent).
      HoldsChanged (put_record parent name (Some (j, object_kind object)) i) x (inodes' i))
      e
      (others i (not_new q i k))

  record_new : (a : Option ℕ) (x : Option Object) → a ≡ Some j → x ≡ Some object
      → Some (j, object_kind object) ≡ option_zip a (option_map object_kind x)
  record_new a x e k = rw (e, k) refl

  record_at : (q : Path) (i : ℕ) (n : Name) (old : Option Link) → f q ≡ Some i
      → old ≡ record_of tree f (n ∷ q) →
      put_record parent name (Some (j, object_kind object)) i n old ≡ record_of tree' f' (n ∷ q)
  record_at q i n old fq is = elim (path_cases (n ∷ q) (name ∷ dir)) [
    | inl y ↦ here y.1
    | inr x ↦
        apart x.1
        ∙ (is
        ∙ sym (record_cong _ _ _ _ (put_at-other (name ∷ dir) (Some j) f (n ∷ q) x.1)
        (put_at-other (name ∷ dir) (Some object) tree (n ∷ q) x.1)))
  ]
    where
      here : n ∷ q ≡ name ∷ dir
          → put_record parent name (Some (j, object_kind object)) i n old ≡ record_of tree' f' (n ∷ q)
      here y =
          let en : n ≡ name = cc in
          let ep : q ≡ dir = cc in
          let at : i ≡ parent = same_value (f q) i parent fq (ap f ep ∙ parent_is) in
          put_record-there parent name (Some (j, object_kind object)) i n old at en
          ∙ record_new _ _ (ap f' y ∙ put_at-there (name ∷ dir) (Some j) f)
          (ap tree' y ∙ put_at-there (name ∷ dir) (Some object) tree)

      apart : (n ∷ q ≡ name ∷ dir → ⊥) → put_record parent name (Some (j, object_kind object)) i n old ≡ old
      apart ne = elim (name_cases n name) [
        | inl y ↦
            put_record-dir parent name _ i n old
            (λ e.
            ne (same_child n name q dir y.1
            (m.once q dir i fq (parent_is ∙ ap (λ (k : ℕ). Some k) (sym e)))))
        | inr y ↦ put_record-name parent name _ i n old y.1
      ]

  new_directory : (n : Name) → None ≡ record_of tree' f' (n ∷ (name ∷ dir))
  new_directory n = sym (record_cong _ _ _ _
      (put_at-other (name ∷ dir) (Some j) f (n ∷ (name ∷ dir)) (longer n [] (name ∷ dir))
      ∙ gone (n ∷ (name ∷ dir)) nothing)
      (put_at-other (name ∷ dir) (Some object) tree (n ∷ (name ∷ dir)) (longer n [] (name ∷ dir)) ∙ nothing))
    where
      nothing : tree (n ∷ (name ∷ dir)) ≡ None
      nothing = absent_below tree t (name ∷ dir) (n ∷ []) none

  abbrev DirectoryAt : Path → Type 0
  DirectoryAt p = (i : ℕ) → tree' p ≡ Some Dir → f' p ≡ Some i →
      (records : Name → Option Link) × (inodes' i ≡ Some (Records records))
      × ((n : Name) → records n ≡ record_of tree' f' (n ∷ p))

  directory_here : DirectoryAt (name ∷ dir)
  directory_here i d e =
      let at : j ≡ i = same_value (f' (name ∷ dir)) j i (put_at-there (name ∷ dir) (Some j) f) e in
      let is : object ≡ Dir =
      same_value (tree' (name ∷ dir)) object Dir (put_at-there (name ∷ dir) (Some object) tree) d in (
        (λ n. None),
        ap inodes' (sym at) ∙ (added ∙ ap (λ (x : Object). Some (fresh_content x)) is),
        λ n. new_directory n,
      )

  directory_else : (q : Path) → (q ≡ name ∷ dir → ⊥) → DirectoryAt q
  directory_else q ne i d e =
      let fq : f q ≡ Some i = sym (put_at-other (name ∷ dir) (Some j) f q ne) ∙ e in
      let tq : tree q ≡ Some Dir = sym (put_at-other (name ∷ dir) (Some object) tree q ne) ∙ d in
      let k = m.directory q i tq fq in
      let c = holds q i (Some (Records k.0)) fq k.1 in
      (c.0, c.1, λ n. c.2 n ∙ record_at q i n (k.0 n) fq (k.2 n))

  abbrev FileAt : Path → Type 0
  FileAt p =
      (i : ℕ) (bytes : List ℕ) → tree' p ≡ Some (File bytes) → f' p ≡ Some i → inodes' i ≡ Some (Bytes bytes)

  file_here : FileAt (name ∷ dir)
  file_here i bytes d e =
      let at : j ≡ i = same_value (f' (name ∷ dir)) j i (put_at-there (name ∷ dir) (Some j) f) e in
      let is : object ≡ File bytes =
      same_value (tree' (name ∷ dir)) object (File bytes) (put_at-there (name ∷ dir) (Some object) tree) d in
      ap inodes' (sym at) ∙ (added ∙ ap (λ (x : Object). Some (fresh_content x)) is)

  file_else : (q : Path) → (q ≡ name ∷ dir → ⊥) → FileAt q
  file_else q ne i bytes d e =
      let fq : f q ≡ Some i = sym (put_at-other (name ∷ dir) (Some j) f q ne) ∙ e in
      let tq : tree q ≡ Some (File bytes) = sym (put_at-other (name ∷ dir) (Some object) tree q ne) ∙ d in
      holds q i (Some (Bytes bytes)) fq (m.file q i bytes tq fq)

  at_each : (P : Path → Type 0) → P (name ∷ dir) → ((q : Path) → (q ≡ name ∷ dir → ⊥) → P q) → (q : Path)
      → P q
  at_each P here else q =
      elim (path_cases q (name ∷ dir)) [ inl y ↦ subst P (sym y.1) here | inr x ↦ else q x.1 ]

  once_here : (q : Path) (i : ℕ) → f' (name ∷ dir) ≡ Some i → f' q ≡ Some i → name ∷ dir ≡ q
  once_here q i a b = elim (path_cases q (name ∷ dir)) [
    | inl y ↦ sym y.1
    | inr x ↦ absurd (not_new q i (sym (put_at-other (name ∷ dir) (Some j) f q x.1) ∙ b)
        (sym (same_value (f' (name ∷ dir)) j i (put_at-there (name ∷ dir) (Some j) f) a)))
  ]

  once' : (p q : Path) (i : ℕ) → f' p ≡ Some i → f' q ≡ Some i → p ≡ q
  once' p q i a b = elim (path_cases p (name ∷ dir)) [
    | inl y ↦ y.1 ∙ once_here q i (ap f' (sym y.1) ∙ a) b
    | inr x ↦ elim (path_cases q (name ∷ dir)) [
      | inl z ↦ sym (z.1 ∙ once_here p i (ap f' (sym z.1) ∙ b) a)
      | inr z ↦
          m.once p q i (sym (put_at-other (name ∷ dir) (Some j) f p x.1) ∙ a)
          (sym (put_at-other (name ∷ dir) (Some j) f q z.1) ∙ b)
    ]
  ]

  was_there : (i : ℕ) (o : Option InodeContent) (c : InodeContent) → (i ≡ j → ⊥) → inodes i ≡ o
      → inodes' i ≡ Some c → (c' : InodeContent) × (inodes i ≡ Some c')
  was_there i None c ne e k =
      absurd (clash (inodes' i) c
      (subst (λ (o : Option InodeContent).
      HoldsChanged (put_record parent name (Some (j, object_kind object)) i) o (inodes' i))
      e
      (others i ne))
      k)
  was_there i (Some c') c ne e k = (c', e)

  old_inode : (i : ℕ) (c : InodeContent) → inodes i ≡ Some c → (p : Path) × (f' p ≡ Some i)
  old_inode i c e =
      let q = m.all i c e in (
        q.0,
        put_at-other (name ∷ dir) (Some j) f q.0
            (λ y. clash (f (name ∷ dir)) i (gone (name ∷ dir) none) (ap f (sym y) ∙ q.1))
            ∙ q.1,
      )

  all' : (i : ℕ) (c : InodeContent) → inodes' i ≡ Some c → (p : Path) × (f' p ≡ Some i)
  all' i c e = choose (eqb i j) refl
    where
      choose : (b : Bool) → eqb i j ≡ b → (p : Path) × (f' p ≡ Some i)
      choose true k =
          (name ∷ dir, put_at-there (name ∷ dir) (Some j) f ∙ ap (λ (n : ℕ). Some n) (sym (eqb-true i j k)))
      choose false k = let o = was_there i (inodes i) c (eqb-false i j k) refl e in old_inode i o.0 o.1

  root_apart : [] ≡ name ∷ dir → ⊥
  root_apart e = cc

  abbrev ThereTogether : Path → Type 0
  ThereTogether p = is_some (f' p) ≡ is_some (tree' p)

  pub created_pairs : Pairs inodes' tree' f'
  created_pairs = record {
    root = put_at-other (name ∷ dir) (Some j) f [] root_apart ∙ m.root;
    paths = at_each ThereTogether
        (ap (λ (o : Option ℕ). is_some o) (put_at-there (name ∷ dir) (Some j) f)
        ∙ ap (λ (o : Option Object). is_some o) (sym (put_at-there (name ∷ dir) (Some object) tree)))
        (λ q ne. ap (λ (o : Option ℕ). is_some o) (put_at-other (name ∷ dir) (Some j) f q ne)
        ∙ (m.paths q
        ∙ ap (λ (o : Option Object). is_some o) (sym (put_at-other (name ∷ dir) (Some object) tree q ne))));
    once = once';
    all = all';
    directory = at_each DirectoryAt directory_here directory_else;
    file = at_each FileAt file_here file_else;
  }

  abbrev HasParent : Path → Type 0
  HasParent q = (n : Name) (p : Path) (x : Object) → q ≡ n ∷ p → tree' q ≡ Some x → tree' p ≡ Some Dir

  parent_here : HasParent (name ∷ dir)
  parent_here n p x e k =
      let ep : p ≡ dir = cc in
      ap tree' ep
      ∙ (put_at-other (name ∷ dir) (Some object) tree dir (λ y. longer name [] dir (sym y)) ∙ in_dir)

  parent_else : (q : Path) → (q ≡ name ∷ dir → ⊥) → HasParent q
  parent_else q ne n p x e k =
      let there : tree p ≡ Some Dir =
      t.parents n p x (ap tree (sym e) ∙ (sym (put_at-other (name ∷ dir) (Some object) tree q ne) ∙ k)) in
      put_at-other (name ∷ dir) (Some object) tree p
      (λ y. clash (tree (name ∷ dir)) Dir none (ap tree (sym y) ∙ there))
      ∙ there

  pub created_rooted : IsRooted (put_at (name ∷ dir) (Some object) tree)
  created_rooted = record {
    root = put_at-other (name ∷ dir) (Some object) tree [] root_apart ∙ t.root;
    parents = λ n p x k. at_each HasParent parent_here parent_else (n ∷ p) n p x refl k;
  }
