-- A rename changes one record of the directory that a path was in and one of the directory that it goes to.
-- Every inode keeps its number, and every path that began with `from` begins with `to`.
use Rattle.std.specs.Prelude.{◌≡◌, ◌⊎◌, ℕ, List, [], ◌∷◌, ◌++◌, length, Option, Some, None, refl}
use Rattle.std.specs.Option.{is_some, option_map}
use Rattle.std.proofs.Common.{sym, ◌∙◌, ap, subst, inl, inr, arith, length-append}
use Rattle.std.proofs.lemmas.List.{append_cancel_right}
use Rattle.nl_types.specs.declared.reply.Object.{Object}
use Rattle.nl_types.specs.declared.reply.Object.TheVariants.{Dir, File}
use Rattle.nl_types.specs.Plain.Paths.{Name, Path}
use Rattle.nl_types.specs.Inodes.{Link, InodeContent, Bytes, Records, Inodes, IsRooted, Pairs, record_of}
use Rattle.nl_types.specs.InodeChanges.{HoldsChanged, put_record, move_record}
use Rattle.nl_types.specs.Facts.Inodes.Walks.{absent}
use Rattle.nl_types.specs.Facts.Inodes.Ways.{path_cases, name_cases, below, moved, below-more, below-append, below-is, below-root, below-none, below-parent, moved-to, moved-from, moved-elsewhere}
use Rattle.nl_types.specs.Facts.Inodes.Recording.{clash, same_child, put_record-there, put_record-dir, put_record-name, record_cong, absent_below}

none-map : (o : Option Path) (n : Name) → o ≡ None → option_map (λ (r : Path). n ∷ r) o ≡ None
none-map o n e = rw e refl

child_outside : (top : Path) (n : Name) (q : Path) → (n ∷ q ≡ top → ⊥) → below top q ≡ None
    → below top (n ∷ q) ≡ None
child_outside top n q ne e = below-more top n q ne ∙ none-map (below top q) n e

same_inode : (f : Path → Option ℕ) (p q : Path) (i d : ℕ) → p ≡ q → f p ≡ Some i → f q ≡ Some d → i ≡ d
same_inode f p q i d e a b = let k : Some i ≡ Some d = sym a ∙ (ap f e ∙ b) in cc

-- a path is below `to`, below `from` alone, or elsewhere
by_ways : (from to : Path) (P : Path → Type 0) → ((r : Path) → P (r ++ to))
    → ((r : Path) → below to (r ++ from) ≡ None → P (r ++ from)) →
    ((q : Path) → below to q ≡ None → below from q ≡ None → P q) → (q : Path) → P q
by_ways from to P under over else q = choose (below to q) (below from q) refl refl
  where
    choose : (o w : Option Path) → below to q ≡ o → below from q ≡ w → P q
    choose (Some r) w e k = subst P (sym (below-is to q r e)) (under r)
    choose None (Some r) e k =
        let here : q ≡ r ++ from = below-is from q r k in
        subst P (sym here) (over r (subst (λ x. below to x ≡ None) here e))
    choose None None e k = else q e k

module _ (inodes inodes' : Inodes) (tree : Path → Option Object) (f : Path → Option ℕ) (fn : Name) (fp : Path)
    (tn : Name) (tp : Path)
    (t : IsRooted tree) (m : Pairs inodes tree f) (from_inode to_inode : ℕ) (from_is : f fp ≡ Some from_inode)
    (to_is : f tp ≡ Some to_inode)
    (to_parent : tree tp ≡ Some Dir) (free : tree (tn ∷ tp) ≡ None)
    (outside : (r : Path) → tp ≡ r ++ (fn ∷ fp) → ⊥)
    (each : (i : ℕ)
    → HoldsChanged (move_record from_inode fn to_inode tn (record_of tree f (fn ∷ fp)) i) (inodes i)
    (inodes' i)) where
  abbrev pub f' : Path → Option ℕ
  f' = moved (fn ∷ fp) (tn ∷ tp) f

  abbrev pub tree' : Path → Option Object
  tree' = moved (fn ∷ fp) (tn ∷ tp) tree

  abbrev change : ℕ → Name → Option Link → Option Link
  change = move_record from_inode fn to_inode tn (record_of tree f (fn ∷ fp))

  -- where the names of a directory that doesn't move go
  there : (q : Path) (i : ℕ) (n : Name) (old : Option Link) → f q ≡ Some i → n ∷ q ≡ tn ∷ tp
      → change i n old ≡ record_of tree' f' (n ∷ q)
  there q i n old fq y =
      let en : n ≡ tn = cc in
      let ep : q ≡ tp = cc in
      put_record-there to_inode tn (record_of tree f (fn ∷ fp)) i n (put_record from_inode fn None i n old)
      (same_inode f q tp i to_inode ep fq to_is) en
      ∙ sym (subst (λ (p : Path). record_of tree' f' p ≡ record_of tree f (fn ∷ fp)) (sym y)
      (record_cong _ _ _ _ (moved-to (fn ∷ fp) (tn ∷ tp) f []) (moved-to (fn ∷ fp) (tn ∷ tp) tree [])))

  not_there : (q : Path) (i : ℕ) (n : Name) (old : Option Link) → f q ≡ Some i → (n ∷ q ≡ tn ∷ tp → ⊥)
      → change i n old ≡ put_record from_inode fn None i n old
  not_there q i n old fq ne = elim (name_cases n tn) [
    | inl y ↦
        put_record-dir to_inode tn _ i n _
        (λ e. ne (same_child n tn q tp y.1 (m.once q tp i fq (rw e to_is))))
    | inr y ↦ put_record-name to_inode tn _ i n _ y.1
  ]

  left : (q : Path) (i : ℕ) (n : Name) (old : Option Link) → f q ≡ Some i → below (tn ∷ tp) (n ∷ q) ≡ None
      → n ∷ q ≡ fn ∷ fp →
      put_record from_inode fn None i n old ≡ record_of tree' f' (n ∷ q)
  left q i n old fq a y =
      let en : n ≡ fn = cc in
      let ep : q ≡ fp = cc in
      let b : below (tn ∷ tp) ([] ++ (fn ∷ fp)) ≡ None = subst (λ (p : Path). below (tn ∷ tp) p ≡ None) y a in
      put_record-there from_inode fn None i n old (same_inode f q fp i from_inode ep fq from_is) en
      ∙ sym (subst (λ (p : Path). record_of tree' f' p ≡ None) (sym y)
      (record_cong _ _ _ _ (moved-from (fn ∷ fp) (tn ∷ tp) f [] b)
      (moved-from (fn ∷ fp) (tn ∷ tp) tree [] b)))

  kept : (q : Path) (i : ℕ) (n : Name) (old : Option Link) → f q ≡ Some i → (n ∷ q ≡ fn ∷ fp → ⊥)
      → put_record from_inode fn None i n old ≡ old
  kept q i n old fq ne = elim (name_cases n fn) [
    | inl y ↦
        put_record-dir from_inode fn _ i n _
        (λ e. ne (same_child n fn q fp y.1 (m.once q fp i fq (rw e from_is))))
    | inr y ↦ put_record-name from_inode fn _ i n _ y.1
  ]

  record_elsewhere : (q : Path) (i : ℕ) (n : Name) (old : Option Link) → f q ≡ Some i
      → below (tn ∷ tp) q ≡ None → below (fn ∷ fp) q ≡ None →
      old ≡ record_of tree f (n ∷ q) → change i n old ≡ record_of tree' f' (n ∷ q)
  record_elsewhere q i n old fq a b is = elim (path_cases (n ∷ q) (tn ∷ tp)) [
    | inl y ↦ there q i n old fq y.1
    | inr x ↦ not_there q i n old fq x.1 ∙ elim (path_cases (n ∷ q) (fn ∷ fp)) [
      | inl y ↦ left q i n old fq (child_outside (tn ∷ tp) n q x.1 a) y.1
      | inr z ↦ kept q i n old fq z.1 ∙ (is ∙ sym (record_cong _ _ _ _
          (moved-elsewhere (fn ∷ fp) (tn ∷ tp) f (n ∷ q) (child_outside (tn ∷ tp) n q x.1 a)
          (child_outside (fn ∷ fp) n q z.1 b))
          (moved-elsewhere (fn ∷ fp) (tn ∷ tp) tree (n ∷ q) (child_outside (tn ∷ tp) n q x.1 a)
          (child_outside (fn ∷ fp) n q z.1 b))))
    ]
  ]

  -- a directory below `to` keeps its records, since it is neither of the two parents
  record_moved : (r : Path) (i : ℕ) (n : Name) (old : Option Link) → f (r ++ (fn ∷ fp)) ≡ Some i
      → change i n old ≡ old
  record_moved r i n old fq =
      put_record-dir to_inode tn _ i n _ (λ e. outside r (m.once tp (r ++ (fn ∷ fp)) i (rw e to_is) fq))
      ∙ put_record-dir from_inode fn None i n old
      (λ e. above r (m.once (r ++ (fn ∷ fp)) fp i fq (rw e from_is)))
    where
      above : (r : Path) → r ++ (fn ∷ fp) ≡ fp → ⊥
      above r e =
          let k : length (r ++ (fn ∷ fp)) ≡ length fp = ap length e in
          omega (arith, length-append r (fn ∷ fp), k)

  abbrev DirectoryAt : Path → Type 0
  DirectoryAt p = (i : ℕ) → tree' p ≡ Some Dir → f' p ≡ Some i →
      (records : Name → Option Link) × (inodes' i ≡ Some (Records records))
      × ((n : Name) → records n ≡ record_of tree' f' (n ∷ p))

  changed : (i : ℕ) (records : Name → Option Link) → inodes i ≡ Some (Records records) →
      (records' : Name → Option Link) × (inodes' i ≡ Some (Records records'))
      × ((n : Name) → records' n ≡ change i n (records n))
  changed i records e = subst (λ (o : Option InodeContent). HoldsChanged (change i) o (inodes' i)) e (each i)

  unchanged : (i : ℕ) (bytes : List ℕ) → inodes i ≡ Some (Bytes bytes) → inodes' i ≡ Some (Bytes bytes)
  unchanged i bytes e = subst (λ (o : Option InodeContent). HoldsChanged (change i) o (inodes' i)) e (each i)

  directory_under : (r : Path) → DirectoryAt (r ++ (tn ∷ tp))
  directory_under r i d e =
      let fq : f (r ++ (fn ∷ fp)) ≡ Some i = sym (moved-to (fn ∷ fp) (tn ∷ tp) f r) ∙ e in
      let tq : tree (r ++ (fn ∷ fp)) ≡ Some Dir = sym (moved-to (fn ∷ fp) (tn ∷ tp) tree r) ∙ d in
      let k = m.directory (r ++ (fn ∷ fp)) i tq fq in
      let c = changed i k.0 k.1 in (
        c.0,
        c.1,
        λ n. c.2 n ∙ (record_moved r i n (k.0 n) fq ∙ (k.2 n ∙ sym (record_cong _ _ _ _
            (moved-to (fn ∷ fp) (tn ∷ tp) f (n ∷ r)) (moved-to (fn ∷ fp) (tn ∷ tp) tree (n ∷ r))))),
      )

  directory_else : (q : Path) → below (tn ∷ tp) q ≡ None → below (fn ∷ fp) q ≡ None → DirectoryAt q
  directory_else q a b i d e =
      let fq : f q ≡ Some i = sym (moved-elsewhere (fn ∷ fp) (tn ∷ tp) f q a b) ∙ e in
      let tq : tree q ≡ Some Dir = sym (moved-elsewhere (fn ∷ fp) (tn ∷ tp) tree q a b) ∙ d in
      let k = m.directory q i tq fq in
      let c = changed i k.0 k.1 in
      (c.0, c.1, λ n. c.2 n ∙ record_elsewhere q i n (k.0 n) fq a b (k.2 n))

  abbrev FileAt : Path → Type 0
  FileAt p =
      (i : ℕ) (bytes : List ℕ) → tree' p ≡ Some (File bytes) → f' p ≡ Some i → inodes' i ≡ Some (Bytes bytes)

  file_under : (r : Path) → FileAt (r ++ (tn ∷ tp))
  file_under r i bytes d e = unchanged i bytes (m.file (r ++ (fn ∷ fp)) i bytes
      (sym (moved-to (fn ∷ fp) (tn ∷ tp) tree r) ∙ d) (sym (moved-to (fn ∷ fp) (tn ∷ tp) f r) ∙ e))

  file_else : (q : Path) → below (tn ∷ tp) q ≡ None → below (fn ∷ fp) q ≡ None → FileAt q
  file_else q a b i bytes d e = unchanged i bytes (m.file q i bytes
      (sym (moved-elsewhere (fn ∷ fp) (tn ∷ tp) tree q a b) ∙ d)
      (sym (moved-elsewhere (fn ∷ fp) (tn ∷ tp) f q a b) ∙ e))

  -- where an inode's path was before
  abbrev CameFrom : Path → Path → Type 0
  CameFrom p q =
      ((r : Path) × (p ≡ r ++ (tn ∷ tp)) × (q ≡ r ++ (fn ∷ fp))) ⊎ ((p ≡ q) × (below (fn ∷ fp) q ≡ None))

  abbrev Source : Path → Type 0
  Source p = (i : ℕ) → f' p ≡ Some i → (q : Path) × (f q ≡ Some i) × CameFrom p q

  source : (p : Path) → Source p
  source = by_ways (fn ∷ fp) (tn ∷ tp) Source
      (λ r i e. (r ++ (fn ∷ fp), sym (moved-to (fn ∷ fp) (tn ∷ tp) f r) ∙ e, inl (r, refl, refl)))
      (λ r h i e. absurd (clash _ i (moved-from (fn ∷ fp) (tn ∷ tp) f r h) e))
      (λ q a b i e. (q, sym (moved-elsewhere (fn ∷ fp) (tn ∷ tp) f q a b) ∙ e, inr (refl, b)))

  both : (p p' q q' : Path) → q ≡ q' → CameFrom p q → CameFrom p' q' → p ≡ p'
  both p p' q q' e (inl x) (inl y) =
      x.1
      ∙ (ap (λ (r : Path). r ++ (tn ∷ tp)) (append_cancel_right x.0 y.0 (fn ∷ fp) (sym x.2 ∙ (e ∙ y.2)))
      ∙ sym y.1)
  both p p' q q' e (inl x) (inr y) =
      absurd (clash _ x.0 (subst (λ (s : Path). below (fn ∷ fp) s ≡ None) (sym e ∙ x.2) y.1)
      (below-append (fn ∷ fp) x.0))
  both p p' q q' e (inr x) (inl y) =
      absurd (clash _ y.0 (subst (λ (s : Path). below (fn ∷ fp) s ≡ None) (e ∙ y.2) x.1)
      (below-append (fn ∷ fp) y.0))
  both p p' q q' e (inr x) (inr y) = x.0 ∙ (e ∙ sym y.0)

  once' : (p p' : Path) (i : ℕ) → f' p ≡ Some i → f' p' ≡ Some i → p ≡ p'
  once' p p' i a b =
      let x = source p i a in
      let y = source p' i b in
      both p p' x.0 y.0 (m.once x.0 y.0 i x.1 y.1) x.2 y.2

  nothing : (q : Path) → f q ≡ None → tree q ≡ None
  nothing q e = absent (tree q) (sym (m.paths q) ∙ ap (λ (o : Option ℕ). is_some o) e)

  absent_f : (q : Path) → tree q ≡ None → f q ≡ None
  absent_f q e = absent (f q) (m.paths q ∙ ap (λ (o : Option Object). is_some o) e)

  -- where an inode goes
  abbrev Target : Path → Type 0
  Target q = (i : ℕ) → f q ≡ Some i → (p : Path) × (f' p ≡ Some i)

  target : (q : Path) → Target q
  target = by_ways (fn ∷ fp) (tn ∷ tp) Target
      (λ r i e. absurd (clash _ i (absent_f (r ++ (tn ∷ tp)) (absent_below tree t (tn ∷ tp) r free)) e))
      (λ r h i e. (r ++ (tn ∷ tp), moved-to (fn ∷ fp) (tn ∷ tp) f r ∙ e))
      (λ q a b i e. (q, moved-elsewhere (fn ∷ fp) (tn ∷ tp) f q a b ∙ e))

  was_there : (i : ℕ) (o : Option InodeContent) (c : InodeContent) → inodes i ≡ o → inodes' i ≡ Some c
      → (c' : InodeContent) × (inodes i ≡ Some c')
  was_there i None c e k =
      absurd
      (clash _ c (subst (λ (o : Option InodeContent). HoldsChanged (change i) o (inodes' i)) e (each i)) k)
  was_there i (Some c') c e k = (c', e)

  abbrev ThereTogether : Path → Type 0
  ThereTogether p = is_some (f' p) ≡ is_some (tree' p)

  together : (p : Path) → ThereTogether p
  together = by_ways (fn ∷ fp) (tn ∷ tp) ThereTogether
      (λ r.
      rw (moved-to (fn ∷ fp) (tn ∷ tp) f r, moved-to (fn ∷ fp) (tn ∷ tp) tree r) (m.paths (r ++ (fn ∷ fp))))
      (λ r h. rw (moved-from (fn ∷ fp) (tn ∷ tp) f r h, moved-from (fn ∷ fp) (tn ∷ tp) tree r h) refl)
      (λ q a b.
      rw (moved-elsewhere (fn ∷ fp) (tn ∷ tp) f q a b, moved-elsewhere (fn ∷ fp) (tn ∷ tp) tree q a b)
      (m.paths q))

  pub renamed_pairs : Pairs inodes' (moved (fn ∷ fp) (tn ∷ tp) tree) (moved (fn ∷ fp) (tn ∷ tp) f)
  renamed_pairs = record {
    root = moved-elsewhere (fn ∷ fp) (tn ∷ tp) f [] (below-root tn tp) (below-root fn fp) ∙ m.root;
    paths = together;
    once = once';
    all = λ i c e. let o = was_there i (inodes i) c refl e in let q = m.all i o.0 o.1 in target q.0 i q.1;
    directory = by_ways (fn ∷ fp) (tn ∷ tp) DirectoryAt directory_under
        (λ r h i d e. absurd (clash _ Dir (moved-from (fn ∷ fp) (tn ∷ tp) tree r h) d)) directory_else;
    file = by_ways (fn ∷ fp) (tn ∷ tp) FileAt file_under
        (λ r h i bytes d e. absurd (clash _ (File bytes) (moved-from (fn ∷ fp) (tn ∷ tp) tree r h) d))
        file_else;
  }

  abbrev HasParent : Path → Type 0
  HasParent q = (n : Name) (p : Path) (x : Object) → q ≡ n ∷ p → tree' q ≡ Some x → tree' p ≡ Some Dir

  parent_of_to : (p : Path) → p ≡ tp → tree' p ≡ Some Dir
  parent_of_to p e = ap tree' e ∙ (moved-elsewhere (fn ∷ fp) (tn ∷ tp) tree tp
      (below-none (tn ∷ tp) tp (λ r k. aside r k)) (below-none (fn ∷ fp) tp outside) ∙ to_parent)
    where
      aside : (r : Path) → tp ≡ r ++ (tn ∷ tp) → ⊥
      aside r e =
          let k : length tp ≡ length (r ++ (tn ∷ tp)) = ap length e in
          omega (arith, length-append r (tn ∷ tp), k)

  parent_under : (r : Path) → HasParent (r ++ (tn ∷ tp))
  parent_under [] n p x e k = parent_of_to p (let j : p ≡ tp = cc in j)
  parent_under (a ∷ r) n p x e k =
      let j : p ≡ r ++ (tn ∷ tp) = cc in
      ap tree' j ∙ (moved-to (fn ∷ fp) (tn ∷ tp) tree r
      ∙ t.parents a (r ++ (fn ∷ fp)) x (sym (moved-to (fn ∷ fp) (tn ∷ tp) tree (a ∷ r)) ∙ k))

  parent_else : (q : Path) → below (tn ∷ tp) q ≡ None → below (fn ∷ fp) q ≡ None → HasParent q
  parent_else q a b n p x e k =
      let a' : below (tn ∷ tp) (n ∷ p) ≡ None = subst (λ (z : Path). below (tn ∷ tp) z ≡ None) e a in
      let b' : below (fn ∷ fp) (n ∷ p) ≡ None = subst (λ (z : Path). below (fn ∷ fp) z ≡ None) e b in
      moved-elsewhere (fn ∷ fp) (tn ∷ tp) tree p (below-parent (tn ∷ tp) n p a')
      (below-parent (fn ∷ fp) n p b')
      ∙ t.parents n p x
      (sym (moved-elsewhere (fn ∷ fp) (tn ∷ tp) tree (n ∷ p) a' b') ∙ (ap tree' (sym e) ∙ k))

  pub renamed_rooted : IsRooted (moved (fn ∷ fp) (tn ∷ tp) tree)
  renamed_rooted = record {
    root = moved-elsewhere (fn ∷ fp) (tn ∷ tp) tree [] (below-root tn tp) (below-root fn fp) ∙ t.root;
    parents = λ n p x k. by_ways (fn ∷ fp) (tn ∷ tp) HasParent parent_under
        (λ r h n p x e k. absurd (clash _ x (moved-from (fn ∷ fp) (tn ∷ tp) tree r h) k)) parent_else
        (n ∷ p) n p x refl k;
  }
