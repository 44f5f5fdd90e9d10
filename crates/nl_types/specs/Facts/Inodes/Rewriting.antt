-- A change of one file's bytes changes what stands at its path.
use Rattle.std.specs.Prelude.{◌≡◌, ℕ, Bool, true, false, List, [], ◌∷◌, Option, Some, None, refl}
use Rattle.std.specs.Option.{is_some, option_map, option_zip}
use Rattle.std.proofs.Common.{sym, ◌∙◌, ap, inl, inr, eqb}
use Rattle.std.proofs.lemmas.Bool.{eqb-true, eqb-false}
use Rattle.nl_types.specs.declared.reply.Object.{Object}
use Rattle.nl_types.specs.declared.reply.Object.TheVariants.{Dir, File}
use Rattle.nl_types.specs.Plain.Paths.{Path}
use Rattle.nl_types.specs.Plain.Trees.{object_kind}
use Rattle.nl_types.specs.Inodes.{InodeContent, Bytes, Inodes, IsRooted, Pairs}
use Rattle.nl_types.specs.Facts.Inodes.Ways.{path_cases, put_at, put_at-there, put_at-other}
use Rattle.nl_types.specs.Facts.Inodes.Recording.{same_value}

module _ (inodes inodes' : Inodes) (tree : Path → Option Object) (f : Path → Option ℕ) (path : Path)
    (new : List ℕ)
    (t : IsRooted tree) (m : Pairs inodes tree f) (inode : ℕ) (inode_is : f path ≡ Some inode) (old : List ℕ)
    (was : tree path ≡ Some (File old))
    (holds : inodes' inode ≡ Some (Bytes new))
    (others : (i : ℕ) → (i ≡ inode → ⊥) → inodes' i ≡ inodes i) where
  abbrev pub tree' : Path → Option Object
  tree' = put_at path (Some (File new)) tree

  there : tree' path ≡ Some (File new)
  there = put_at-there path (Some (File new)) tree

  kinds : (p : Path) → option_map object_kind (tree' p) ≡ option_map object_kind (tree p)
  kinds p = elim (path_cases p path) [
    | inl y ↦
        ap (λ q. option_map object_kind (tree' q)) y.1 ∙ ap (option_map object_kind) there
        ∙ sym (ap (λ q. option_map object_kind (tree q)) y.1 ∙ ap (option_map object_kind) was)
    | inr x ↦ ap (option_map object_kind) (put_at-other path (Some (File new)) tree p x.1)
  ]

  mapped : (o : Option Object) → is_some (option_map object_kind o) ≡ is_some o
  mapped None = refl
  mapped (Some x) = refl

  -- a directory stands where it stood
  dir_was : (p : Path) → tree' p ≡ Some Dir → tree p ≡ Some Dir
  dir_was p e = elim (path_cases p path) [
    | inl y ↦ let c : Some (File new) ≡ Some Dir = sym there ∙ ap tree' (sym y.1) ∙ e in cc
    | inr x ↦ sym (put_at-other path (Some (File new)) tree p x.1) ∙ e
  ]

  dir_is : (p : Path) → tree p ≡ Some Dir → tree' p ≡ Some Dir
  dir_is p e = elim (path_cases p path) [
    | inl y ↦ let c : Some (File old) ≡ Some Dir = sym was ∙ ap tree (sym y.1) ∙ e in cc
    | inr x ↦ put_at-other path (Some (File new)) tree p x.1 ∙ e
  ]

  apart : (p : Path) (i : ℕ) → (p ≡ path → ⊥) → f p ≡ Some i → i ≡ inode → ⊥
  apart p i ne e k = ne (m.once p path i e (inode_is ∙ ap (λ (j : ℕ). Some j) (sym k)))

  was_there : (q : Path) (x : Object) → tree' q ≡ Some x → (y : Object) × (tree q ≡ Some y)
  was_there q x e = elim (path_cases q path) [
    | inl y ↦ (File old, ap tree y.1 ∙ was)
    | inr z ↦ (x, sym (put_at-other path (Some (File new)) tree q z.1) ∙ e)
  ]

  all' : (i : ℕ) (c : InodeContent) → inodes' i ≡ Some c → (p : Path) × (f p ≡ Some i)
  all' i c e = by (eqb i inode) refl
    where
      by : (b : Bool) → eqb i inode ≡ b → (p : Path) × (f p ≡ Some i)
      by true k = (path, inode_is ∙ ap (λ (j : ℕ). Some j) (sym (eqb-true i inode k)))
      by false k = m.all i c (sym (others i (eqb-false i inode k)) ∙ e)

  file' : (p : Path) (i : ℕ) (bytes : List ℕ) → tree' p ≡ Some (File bytes) → f p ≡ Some i
      → inodes' i ≡ Some (Bytes bytes)
  file' p i bytes d e = elim (path_cases p path) [
    | inl y ↦
        let at : i ≡ inode = same_value (f p) i inode e (ap f y.1 ∙ inode_is) in
        let is : File new ≡ File bytes =
        same_value (tree' path) (File new) (File bytes) there (ap tree' (sym y.1) ∙ d) in
        let b : new ≡ bytes = cc in
        ap inodes' at ∙ holds ∙ ap (λ (x : List ℕ). Some (Bytes x)) b
    | inr x ↦
        others i (apart p i x.1 e)
        ∙ m.file p i bytes (sym (put_at-other path (Some (File new)) tree p x.1) ∙ d) e
  ]

  pub rewritten_rooted : IsRooted (put_at path (Some (File new)) tree)
  rewritten_rooted = record {
    root = dir_is [] t.root;
    parents = λ n p x e. let y = was_there (n ∷ p) x e in dir_is p (t.parents n p y.0 y.1);
  }

  pub rewritten_pairs : Pairs inodes' (put_at path (Some (File new)) tree) f
  rewritten_pairs = record {
    root = m.root;
    paths = λ p. m.paths p ∙ sym (mapped (tree p)) ∙ ap is_some (sym (kinds p)) ∙ mapped (tree' p);
    once = m.once;
    all = all';
    directory = λ p i d e.
        let stood = dir_was p d in
        let k = m.directory p i stood e in
        let ne : p ≡ path → ⊥ = λ y.
        (let c : Some (File old) ≡ Some Dir = sym was ∙ ap tree (sym y) ∙ stood in cc) in (
          k.0,
          others i (apart p i ne e) ∙ k.1,
          λ n. k.2 n ∙ ap (option_zip (f (n ∷ p))) (sym (kinds (n ∷ p))),
        );
    file = file';
  }
