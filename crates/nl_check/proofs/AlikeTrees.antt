-- Inodes form a tree, where others do that hold the same names.
use Rattle.std.proofs.Common.{◌≡◌, ℕ, [], ◌∷◌, Option, Some, None, refl, ap, sym, ◌∙◌}
use Rattle.std.specs.Option.{option_and_then}
use Rattle.nl_types.specs.Plain.Paths.{Name, Path}
use Rattle.nl_types.specs.Plain.Trees.{object_kind}
use Rattle.nl_types.specs.Inodes.{Link, InodeContent, Bytes, Records, Inodes, inode_named, object_of, reached}
use Rattle.nl_check.specs.InodeTrees.{FormTree, Names}
use Rattle.nl_check.specs.Private.AlikeNames.{AreAlike, NamesAlike}

-- ---- alike both ways

back : (a b : Option InodeContent) → AreAlike a b → AreAlike b a
back None None e = refl
back None (Some c) e = cc
back (Some (Bytes bytes)) None (other, e) = cc
back (Some (Bytes bytes)) (Some (Bytes more)) e = (bytes, refl)
back (Some (Bytes bytes)) (Some (Records records)) (other, e) = cc
back (Some (Records records)) None e = cc
back (Some (Records records)) (Some (Bytes bytes)) e = cc
back (Some (Records records)) (Some (Records more)) e = sym e

-- what an inode names, and of which kind it is
same-named : (a b : Option InodeContent) → AreAlike a b → (n : Name)
    → option_and_then (λ c. inode_named n c) a ≡ option_and_then (λ c. inode_named n c) b
same-named None b e n = sym (ap (option_and_then (λ c. inode_named n c)) e)
same-named (Some (Bytes bytes)) b (other, e) n = sym (ap (option_and_then (λ c. inode_named n c)) e)
same-named (Some (Records records)) b e n = sym (ap (option_and_then (λ c. inode_named n c)) e)

records-stay : (a b : Option InodeContent) → AreAlike a b → (records : Name → Option Link)
    → a ≡ Some (Records records) → b ≡ Some (Records records)
records-stay None b e records is = cc
records-stay (Some (Bytes bytes)) b e records is = cc
records-stay (Some (Records own)) b e records is = e ∙ is

used-stays : (a b : Option InodeContent) → AreAlike a b → (content : InodeContent) → a ≡ Some content
    → (other : InodeContent) × (b ≡ Some other) × (object_kind (object_of other) ≡ object_kind (object_of content))
used-stays None b e content is = cc
used-stays (Some (Bytes bytes)) b (other, e) content is =
    let own : Bytes bytes ≡ content = cc in
    (Bytes other, e, ap (λ (c : InodeContent). object_kind (object_of c)) own)
used-stays (Some (Records records)) b e content is =
    let own : Records records ≡ content = cc in
    (Records records, e, ap (λ (c : InodeContent). object_kind (object_of c)) own)

module _ (a b : Inodes) (alike : NamesAlike a b) where
  same-reached : (p : Path) → reached a p ≡ reached b p
  unfolding reached
  same-reached [] = refl
  same-reached (n ∷ p) = by (reached a p) (reached b p) (same-reached p)
    where
      by : (x y : Option ℕ) → x ≡ y
          → option_and_then (λ c. inode_named n c) (option_and_then a x)
          ≡ option_and_then (λ c. inode_named n c) (option_and_then b y)
      by None y e = ap (λ (o : Option ℕ). option_and_then (λ c. inode_named n c) (option_and_then b o)) e
      by (Some i) y e =
          same-named (a i) (b i) (alike i) n
          ∙ ap (λ (o : Option ℕ). option_and_then (λ c. inode_named n c) (option_and_then b o)) e

  names-back : (d : ℕ) (name : Name) (link : Link) → Names b d name link → Names a d name link
  names-back d name link n = record {
    records = n.records;
    directory = records-stay (b d) (a d) (back (a d) (b d) (alike d)) n.records n.directory;
    listed = n.listed;
  }

  -- the tree that the names form is formed still
  pub forms-alike : FormTree a → FormTree b
  forms-alike f = record {
    root = (f.root.0, records-stay (a 2) (b 2) (alike 2) f.root.0 f.root.1);
    used = λ d name link n.
        let u = f.used d name link (names-back d name link n) in
        let x = used-stays (a link.0) (b link.0) (alike link.0) u.content u.used in
        record { content = x.0; used = x.1; kind_is = x.2 ∙ u.kind_is };
    not_root = λ d name link n. f.not_root d name link (names-back d name link n);
    once = λ d e name other one two n m same.
        f.once d e name other one two (names-back d name one n) (names-back e other two m) same;
    found = λ i content is.
        let x = used-stays (b i) (a i) (back (a i) (b i) (alike i)) content is in
        let p = f.found i x.0 x.1 in
        (p.0, sym (same-reached p.0) ∙ p.1);
  }
