-- What stands at a path, by what its inode holds, and the other way round.
use Rattle.std.specs.Prelude.{◌≡◌, ℕ, ◌∷◌, Option, Some, None, refl}
use Rattle.std.specs.Option.{is_some, option_map, option_and_then, option_zip}
use Rattle.std.proofs.Common.{sym, ◌∙◌, ap}
use Rattle.nl_types.specs.declared.reply.Object.{Object}
use Rattle.nl_types.specs.declared.reply.Object.TheVariants.{Dir}
use Rattle.nl_types.specs.Plain.Paths.{Name, Path}
use Rattle.nl_types.specs.Plain.Trees.{object_kind}
use Rattle.nl_types.specs.Inodes.{Link, InodeContent, Bytes, Records, Inodes, IsRooted, Pairs, record_of, reached, object_of, inode_named}
use Rattle.nl_types.specs.InodeChanges.{HasRecords, IsBare}
use Rattle.nl_types.specs.Facts.Inodes.Walks.{reached-pairs, found-pairs}
use Rattle.nl_types.specs.Facts.Inodes.Recording.{same_value}

-- ---- what an inode holds stands at its path

-- what has a record has an inode and an object
pub zipped : (a : Option ℕ) (x : Option Object) (e : Link) → option_zip a (option_map object_kind x) ≡ Some e
    → (a ≡ Some e.0) × (y : Object) × (x ≡ Some y) × (object_kind y ≡ e.1)
zipped None x e k = cc
zipped (Some a) None e k = cc
zipped (Some a) (Some y) e k =
    let pair : (a, object_kind y) ≡ e = cc in
    (ap (λ (p : Link). Some p.0) pair, y, refl, ap (λ (p : Link). p.1) pair)

module _ {inodes : Inodes} {tree : Path → Option Object} {f : Path → Option ℕ} (t : IsRooted tree)
    (m : Pairs inodes tree f) where
  pub inode_there : (p : Path) (i : ℕ) → reached inodes p ≡ Some i → f p ≡ Some i
  inode_there p i e = sym (reached-pairs t m p) ∙ e

  pub object_there : (p : Path) (i : ℕ) (c : InodeContent) → reached inodes p ≡ Some i → inodes i ≡ Some c
      → tree p ≡ Some (object_of c)
  object_there p i c e k =
      sym (found-pairs t m p) ∙ ap (λ (o : Option ℕ). option_map object_of (option_and_then inodes o)) e
      ∙ ap (option_map object_of) k

  pub dir_there : (p : Path) (h : HasRecords inodes p) → tree p ≡ Some Dir
  dir_there p h = object_there p h.inode (Records h.records) h.is_reached h.holds

  pub records_are : (p : Path) (h : HasRecords inodes p) (n : Name) → h.records n ≡ record_of tree f (n ∷ p)
  records_are p h n =
      let d = m.directory p h.inode (dir_there p h) (inode_there p h.inode h.is_reached) in
      let is : Records h.records ≡ Records d.0 =
      same_value (inodes h.inode) (Records h.records) (Records d.0) h.holds d.1 in
      let same : h.records ≡ d.0 = cc in
      ap (λ (r : Name → Option Link). r n) same ∙ d.2 n

  pub child_there : (p : Path) (h : HasRecords inodes p) (n : Name) (e : Link) → h.records n ≡ Some e
      → (f (n ∷ p) ≡ Some e.0) × (y : Object) × (tree (n ∷ p) ≡ Some y) × (object_kind y ≡ e.1)
  child_there p h n e k = zipped (f (n ∷ p)) (tree (n ∷ p)) e (sym (records_are p h n) ∙ k)

  not_zipped : (a : Option ℕ) (x : Option Object) → is_some a ≡ is_some x
      → option_zip a (option_map object_kind x) ≡ None → x ≡ None
  not_zipped a None e k = refl
  not_zipped None (Some y) e k = cc
  not_zipped (Some a) (Some y) e k = cc

  pub child_absent : (p : Path) (h : HasRecords inodes p) (n : Name) → h.records n ≡ None
      → tree (n ∷ p) ≡ None
  child_absent p h n k = not_zipped (f (n ∷ p)) (tree (n ∷ p)) (m.paths (n ∷ p)) (sym (records_are p h n) ∙ k)

  not_named : (n : Name) (c : InodeContent) → IsBare c → inode_named n c ≡ None
  not_named n (Bytes bytes) bare = refl
  not_named n (Records records) bare = ap (option_map (λ (r : Link). r.0)) (bare n)

  -- nothing lies below a file or an empty directory
  pub nothing_below : (p : Path) (i : ℕ) (c : InodeContent) → f p ≡ Some i → inodes i ≡ Some c → IsBare c
      → (n : Name) → tree (n ∷ p) ≡ None
  unfolding reached
  nothing_below p i c e k bare n =
      let at : reached inodes (n ∷ p) ≡ None =
      ap
      (λ (o : Option ℕ). option_and_then (λ (x : InodeContent). inode_named n x) (option_and_then inodes o))
      (reached-pairs t m p ∙ e)
      ∙ ap (option_and_then (λ (x : InodeContent). inode_named n x)) k ∙ not_named n c bare in
      sym (found-pairs t m (n ∷ p)) ∙ ap (λ (o : Option ℕ). option_map object_of (option_and_then inodes o)) at
