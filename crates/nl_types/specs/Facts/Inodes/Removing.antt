-- A file or an empty directory that is taken out, with its record.
use Rattle.std.specs.Prelude.{◌≡◌, ℕ, List, [], ◌∷◌, Option, Some, None, refl}
use Rattle.std.specs.Option.{is_some}
use Rattle.std.proofs.Common.{sym, ◌∙◌, ap, subst, inl, inr}
use Rattle.nl_types.specs.declared.reply.Object.{Object}
use Rattle.nl_types.specs.declared.reply.Object.TheVariants.{Dir, File}
use Rattle.nl_types.specs.Plain.Paths.{Name, Path}
use Rattle.nl_types.specs.Inodes.{Link, InodeContent, Bytes, Records, Inodes, IsRooted, Pairs, record_of}
use Rattle.nl_types.specs.InodeChanges.{HoldsChanged, put_record}
use Rattle.nl_types.specs.Facts.Inodes.Ways.{path_cases, name_cases, put_at, put_at-there, put_at-other}
use Rattle.nl_types.specs.Facts.Inodes.Recording.{clash, same_value, same_child, put_record-there, put_record-dir, put_record-name, record_cong}

module _ (inodes inodes' : Inodes) (tree : Path → Option Object) (f : Path → Option ℕ) (t : IsRooted tree)
    (m : Pairs inodes tree f)
    (name : Name) (dir : Path) (parent j : ℕ) (parent_is : f dir ≡ Some parent)
    (inode_is : f (name ∷ dir) ≡ Some j)
    (empty : (n : Name) → tree (n ∷ (name ∷ dir)) ≡ None) (gone : inodes' j ≡ None)
    (others : (i : ℕ) → (i ≡ j → ⊥)
    → HoldsChanged (put_record parent name None i) (inodes i) (inodes' i)) where
  abbrev f' : Path → Option ℕ
  f' = put_at (name ∷ dir) None f

  abbrev tree' : Path → Option Object
  tree' = put_at (name ∷ dir) None tree

  -- what is still there was there
  was : {A : Type 0} (g : Path → Option A) (q : Path) (x : A) → put_at (name ∷ dir) None g q ≡ Some x
      → (q ≡ name ∷ dir → ⊥) × (g q ≡ Some x)
  was g q x e = elim (path_cases q (name ∷ dir)) [
    | inl y ↦
        absurd (clash (put_at (name ∷ dir) None g q) x
        (ap (put_at (name ∷ dir) None g) y.1 ∙ put_at-there (name ∷ dir) None g) e)
    | inr z ↦ (z.1, sym (put_at-other (name ∷ dir) None g q z.1) ∙ e)
  ]

  other_inode : (q : Path) (i : ℕ) → (q ≡ name ∷ dir → ⊥) → f q ≡ Some i → i ≡ j → ⊥
  other_inode q i ne e k = ne (m.once q (name ∷ dir) i e (inode_is ∙ ap (λ (n : ℕ). Some n) (sym k)))

  record_at : (q : Path) (i : ℕ) (n : Name) (old : Option Link) → f q ≡ Some i
      → old ≡ record_of tree f (n ∷ q) → put_record parent name None i n old ≡ record_of tree' f' (n ∷ q)
  record_at q i n old fq is = elim (path_cases (n ∷ q) (name ∷ dir)) [
    | inl y ↦ here y.1
    | inr x ↦
        apart x.1
        ∙ (is
        ∙ sym (record_cong _ _ _ _ (put_at-other (name ∷ dir) None f (n ∷ q) x.1)
        (put_at-other (name ∷ dir) None tree (n ∷ q) x.1)))
  ]
    where
      here : n ∷ q ≡ name ∷ dir → put_record parent name None i n old ≡ record_of tree' f' (n ∷ q)
      here y =
          let en : n ≡ name = cc in
          let ep : q ≡ dir = cc in
          let at : i ≡ parent = same_value (f q) i parent fq (ap f ep ∙ parent_is) in
          put_record-there parent name None i n old at en
          ∙ sym (record_cong _ _ _ _ (ap f' y ∙ put_at-there (name ∷ dir) None f)
          (ap tree' y ∙ put_at-there (name ∷ dir) None tree))

      apart : (n ∷ q ≡ name ∷ dir → ⊥) → put_record parent name None i n old ≡ old
      apart ne = elim (name_cases n name) [
        | inl y ↦
            put_record-dir parent name _ i n old
            (λ e.
            ne (same_child n name q dir y.1
            (m.once q dir i fq (parent_is ∙ ap (λ (k : ℕ). Some k) (sym e)))))
        | inr y ↦ put_record-name parent name _ i n old y.1
      ]

  holds : (q : Path) (i : ℕ) (o : Option InodeContent) → (q ≡ name ∷ dir → ⊥) → f q ≡ Some i → inodes i ≡ o
      → HoldsChanged (put_record parent name None i) o (inodes' i)
  holds q i o ne k e =
      subst (λ (x : Option InodeContent). HoldsChanged (put_record parent name None i) x (inodes' i)) e
      (others i (other_inode q i ne k))

  directory' : (p : Path) (i : ℕ) → tree' p ≡ Some Dir → f' p ≡ Some i
      → (records : Name → Option Link) × (inodes' i ≡ Some (Records records))
      × ((n : Name) → records n ≡ record_of tree' f' (n ∷ p))
  directory' p i d e =
      let fp = was f p i e in
      let k = m.directory p i (was tree p Dir d).1 fp.1 in
      let c = holds p i (Some (Records k.0)) fp.0 fp.1 k.1 in
      (c.0, c.1, λ n. c.2 n ∙ record_at p i n (k.0 n) fp.1 (k.2 n))

  file' : (p : Path) (i : ℕ) (bytes : List ℕ) → tree' p ≡ Some (File bytes) → f' p ≡ Some i
      → inodes' i ≡ Some (Bytes bytes)
  file' p i bytes d e =
      let fp = was f p i e in
      holds p i (Some (Bytes bytes)) fp.0 fp.1 (m.file p i bytes (was tree p (File bytes) d).1 fp.1)

  was_there : (i : ℕ) (o : Option InodeContent) (c : InodeContent) → (i ≡ j → ⊥) → inodes i ≡ o
      → inodes' i ≡ Some c → (old : InodeContent) × (inodes i ≡ Some old)
  was_there i None c ne e k =
      absurd (clash (inodes' i) c
      (subst (λ (o : Option InodeContent). HoldsChanged (put_record parent name None i) o (inodes' i)) e
      (others i ne))
      k)
  was_there i (Some old) c ne e k = (old, e)

  all' : (i : ℕ) (c : InodeContent) → inodes' i ≡ Some c → (p : Path) × (f' p ≡ Some i)
  all' i c e =
      let ne : i ≡ j → ⊥ = λ k. clash (inodes' i) c (ap inodes' k ∙ gone) e in
      let old = was_there i (inodes i) c ne refl e in
      let q = m.all i old.0 old.1 in (
        q.0,
        put_at-other (name ∷ dir) None f q.0 (λ y. ne (same_value (f q.0) i j q.1 (ap f y ∙ inode_is))) ∙ q.1,
      )

  root_apart : [] ≡ name ∷ dir → ⊥
  root_apart e = cc

  together : (p : Path) → is_some (f' p) ≡ is_some (tree' p)
  together p = elim (path_cases p (name ∷ dir)) [
    | inl y ↦
        ap is_some (ap f' y.1 ∙ put_at-there (name ∷ dir) None f)
        ∙ sym (ap is_some (ap tree' y.1 ∙ put_at-there (name ∷ dir) None tree))
    | inr x ↦
        ap is_some (put_at-other (name ∷ dir) None f p x.1) ∙ m.paths p
        ∙ sym (ap is_some (put_at-other (name ∷ dir) None tree p x.1))
  ]

  pub removed_pairs : Pairs inodes' (put_at (name ∷ dir) None tree) (put_at (name ∷ dir) None f)
  removed_pairs = record {
    root = put_at-other (name ∷ dir) None f [] root_apart ∙ m.root;
    paths = together;
    once = λ p q i a b. m.once p q i (was f p i a).1 (was f q i b).1;
    all = all';
    directory = directory';
    file = file';
  }

  pub removed_rooted : IsRooted (put_at (name ∷ dir) None tree)
  removed_rooted = record {
    root = put_at-other (name ∷ dir) None tree [] root_apart ∙ t.root;
    parents = λ n p x e.
        let k = (was tree (n ∷ p) x e).1 in
        put_at-other (name ∷ dir) None tree p
        (λ y. clash (tree (n ∷ p)) x (ap (λ (q : Path). tree (n ∷ q)) y ∙ empty n) k)
        ∙ t.parents n p x k;
  }
