-- A walk over inodes finds what the tree says, with the same refusals.
use Rattle.std.proofs.Common.{◌≡◌, ℕ, [], ◌∷◌, ◌++◌, reverse, List, Option, Some, None, Result, Ok, Err, refl, sym, ◌∙◌, ap, subst, append_assoc, append-nil}
use Rattle.std.proofs.lemmas.List.{reverse-append, reverse-reverse}
use Rattle.std.specs.Option.{is_some, option_map, option_and_then, option_zip, option_or, ok_or}
use Rattle.nl_types.specs.declared.error.VolError.{VolError}
use Rattle.nl_types.specs.declared.error.VolError.TheVariants.{NotFound}
use Rattle.nl_types.specs.declared.reply.Object.{Object}
use Rattle.nl_types.specs.declared.reply.Object.TheVariants.{Dir, File}
use Rattle.nl_types.specs.declared.kind.Kind.TheVariants as kind
use Rattle.nl_types.specs.Plain.Paths.{Name, Path}
use Rattle.nl_types.specs.Plain.Trees.{Tree, lookup, object_kind}
use Rattle.nl_types.specs.Plain.Calls.{and_then, ok_unless, stops_walk, stop_from, walk, object_at}
use Rattle.nl_types.specs.Inodes.{Link, InodeContent, Bytes, Records, Inodes, MeansTree, upward, record_of, object_of, reached}
use Rattle.nl_types.specs.InodeChanges.{HasRecords}
use Rattle.nl_types.specs.Resolving.{record_in, resolve_from, resolve, as_dir, object_in}
use Rattle.nl_types.specs.InodeLaws.{ObjectsByInodes, ParentsByInodes, ChildrenByRecords, DirectoriesHoldRecords, FilesHoldBytes}
use Rattle.nl_types.specs.Facts.Inodes.Walks.{present, reached-pairs}

no_pair : {A B : Type 0} (a : Option A) (b : Option B) → b ≡ None → option_zip a b ≡ None
no_pair None b e = refl
no_pair (Some x) b e = rw e refl

or_none : (x : Option VolError) → option_or x None ≡ x
or_none None = refl
or_none (Some e) = refl

or_assoc : (a b c : Option VolError) → option_or (option_or a b) c ≡ option_or a (option_or b c)
or_assoc None b c = refl
or_assoc (Some e) b c = refl

-- a walk to a last name stops where the walk to its directory does, or at that directory
stop_snoc : (tree : Tree) (dir walked : Path) (n : Name)
    → stop_from tree walked (dir ++ n ∷ [])
    ≡ option_or (stop_from tree walked dir) (stops_walk (lookup tree (walked ++ dir)))
stop_snoc tree [] walked n = rw (append-nil walked) (or_none (stops_walk (lookup tree walked)))
stop_snoc tree (k ∷ dir) walked n =
    ap (λ (x : Option VolError). option_or (stops_walk (lookup tree walked)) x)
    (stop_snoc tree dir (walked ++ k ∷ []) n
    ∙ ap (λ (p : Path). option_or (stop_from tree (walked ++ k ∷ []) dir) (stops_walk (lookup tree p)))
    (append_assoc walked (k ∷ []) dir))
    ∙ sym (or_assoc (stops_walk (lookup tree walked)) _ _)

module _ (inodes : Inodes) (tree : Tree) (m : MeansTree inodes tree) where
  abbrev pub inode : Path → Option ℕ
  inode p = m.inode_of (reverse p)

  -- what a walk to a path finds: its inode and kind
  abbrev pub link_at : Path → Option Link
  link_at p = option_zip (inode p) (option_map object_kind (lookup tree p))

  pub upward_at : (p : Path) → upward tree (reverse p) ≡ lookup tree p
  upward_at p = ap (lookup tree) (reverse-reverse p)

  snoc : (walked : Path) (n : Name) → n ∷ reverse walked ≡ reverse (walked ++ n ∷ [])
  snoc walked n = sym (reverse-append walked (n ∷ []))

  -- a directory's inode has the records of its children
  pub holds_records : (p : Path) (i : ℕ) → inode p ≡ Some i → lookup tree p ≡ Some Dir
      → (records : Name → Option Link) × (inodes i ≡ Some (Records records))
      × ((n : Name) → records n ≡ link_at (p ++ n ∷ []))
  holds_records p i e d =
      let k = m.pairs.directory (reverse p) i (upward_at p ∙ d) e in (
        k.0,
        k.1,
        λ n. k.2 n
            ∙ ap (λ (q : Path). record_of (upward tree) m.inode_of q) (snoc p n)
            ∙ ap (λ (x : Option Object). option_zip (inode (p ++ n ∷ [])) (option_map object_kind x))
            (upward_at (p ++ n ∷ [])),
      )

  pub child_record : (p : Path) (n : Name) (i : ℕ) → inode p ≡ Some i → lookup tree p ≡ Some Dir
      → record_in (inodes i) n ≡ link_at (p ++ n ∷ [])
  child_record p n i e d =
      let k = holds_records p i e d in ap (λ (o : Option InodeContent). record_in o n) k.1 ∙ k.2 n

  pub link_is : (p : Path) (i : ℕ) (object : Object) → inode p ≡ Some i → lookup tree p ≡ Some object
      → link_at p ≡ Some (i, object_kind object)
  link_is p i object e d = rw (e, d) refl

  pub no_link : (p : Path) → lookup tree p ≡ None → link_at p ≡ None
  no_link p e = no_pair (inode p) (option_map object_kind (lookup tree p)) (rw e refl)

  pub inode_at : (p : Path) (object : Object) → lookup tree p ≡ Some object → (i : ℕ) × (inode p ≡ Some i)
  inode_at p object d =
      present (inode p) (m.pairs.paths (reverse p) ∙ ap (λ (o : Option Object). is_some o) (upward_at p ∙ d))

  -- what an inode holds is the object of its path
  pub object_held : (p : Path) (object : Object) (i : ℕ) → inode p ≡ Some i → lookup tree p ≡ Some object
      → option_map object_of (inodes i) ≡ Some object
  object_held p Dir i e d = ap (option_map object_of) (holds_records p i e d).1
  object_held p (File bytes) i e d =
      ap (option_map object_of) (m.pairs.file (reverse p) i bytes (upward_at p ∙ d) e)

  abbrev Found : Path → Link → Path → Type 0
  Found walked at names =
      resolve_from inodes at names
      ≡ and_then (ok_unless (stop_from tree walked names)) (λ _. ok_or (link_at (walked ++ names)) NotFound)

  not_there : (walked : Path) (n : Name) (names : Path) → lookup tree (walked ++ n ∷ []) ≡ None →
      Err NotFound
      ≡ and_then (ok_unless (stop_from tree (walked ++ n ∷ []) names))
      (λ _. ok_or (link_at (walked ++ n ∷ names)) NotFound)
  not_there walked n [] e = rw (no_link (walked ++ n ∷ []) e) refl
  not_there walked n (k ∷ names) e = rw e refl

  found_from : (names walked : Path) (i : ℕ) (object : Object) → inode walked ≡ Some i
      → lookup tree walked ≡ Some object → Found walked (i, object_kind object) names
  found_from [] walked i object e d = rw (append-nil walked) (rw (link_is walked i object e d) refl)
  found_from (n ∷ names) walked i (File bytes) e d = rw d refl
  found_from (n ∷ names) walked i Dir e d =
      choose (λ j object a b. found_from names (walked ++ n ∷ []) j object a b)
      (lookup tree (walked ++ n ∷ [])) refl
    where
      record_is : record_in (inodes i) n ≡ link_at (walked ++ n ∷ [])
      record_is = child_record walked n i e d

      on : (walked ++ n ∷ []) ++ names ≡ walked ++ n ∷ names
      on = append_assoc walked (n ∷ []) names

      choose : ((j : ℕ) (object : Object) → inode (walked ++ n ∷ []) ≡ Some j
          → lookup tree (walked ++ n ∷ []) ≡ Some object → Found (walked ++ n ∷ []) (j, object_kind object) names)
          →
          (o : Option Object) → lookup tree (walked ++ n ∷ []) ≡ o
          → Found walked (i, kind.Directory) (n ∷ names)
      choose rest None h =
          let none : record_in (inodes i) n ≡ None = record_is ∙ no_link (walked ++ n ∷ []) h in
          rw (none, d) (not_there walked n names h)
      choose rest (Some object) h =
          let j = inode_at (walked ++ n ∷ []) object h in
          let some : record_in (inodes i) n ≡ Some (j.0, object_kind object) =
          record_is ∙ link_is (walked ++ n ∷ []) j.0 object j.1 h in
          rw (some, d) (rest j.0 object j.1 h
          ∙ ap (λ (p : Path).
          and_then (ok_unless (stop_from tree (walked ++ n ∷ []) names))
          (λ _. ok_or (link_at p) NotFound))
          on)

  -- the walk over inodes is the walk in the tree
  found_at : (path : Path)
      → resolve inodes path ≡ and_then (walk tree path) (λ _. ok_or (link_at path) NotFound)
  found_at path = found_from path [] 2 Dir m.pairs.root m.rooted.root

  -- by the walk in the tree, and by what the tree has
  pub by_cases : (P : Result Link VolError → Type 0) (path : Path) →
      ((x : VolError) → stop_from tree [] path ≡ Some x → P (Err x)) →
      (stop_from tree [] path ≡ None → lookup tree path ≡ None → P (Err NotFound)) →
      ((i : ℕ) (object : Object) → stop_from tree [] path ≡ None → lookup tree path ≡ Some object
      → inode path ≡ Some i → P (Ok (i, object_kind object)))
      →
      P (resolve inodes path)
  by_cases P path stopped absent there = subst P (sym (found_at path)) (by_stop (stop_from tree [] path) refl)
    where
      by_object : stop_from tree [] path ≡ None → (o : Option Object) → lookup tree path ≡ o
          → P (ok_or (link_at path) NotFound)
      by_object k None h = subst (λ (o : Option Link). P (ok_or o NotFound)) (sym (no_link path h)) (absent k h)
      by_object k (Some object) h =
          let j = inode_at path object h in
          subst (λ (o : Option Link). P (ok_or o NotFound)) (sym (link_is path j.0 object j.1 h))
          (there j.0 object k h j.1)

      by_stop : (s : Option VolError) → stop_from tree [] path ≡ s
          → P (and_then (ok_unless s) (λ _. ok_or (link_at path) NotFound))
      by_stop (Some x) k = stopped x k
      by_stop None k = by_object k (lookup tree path) refl

  objects : (path : Path)
      → object_at tree path ≡ and_then (resolve inodes path) (λ at. ok_or (object_in inodes at) NotFound)
  objects path = by_cases (λ r. object_at tree path ≡ and_then r (λ at. ok_or (object_in inodes at) NotFound)) path
      (λ x k. rw k refl)
      (λ k h. rw (k, h) refl)
      (λ i object k h e.
      rw (k, h) (ap (λ (o : Option Object). ok_or o NotFound) (sym (object_held path object i e h))))

  pub walk_snoc : (dir : Path) (name : Name)
      → walk tree (dir ++ name ∷ [])
      ≡ ok_unless (option_or (stop_from tree [] dir) (stops_walk (lookup tree dir)))
  walk_snoc dir name = ap ok_unless (stop_snoc tree dir [] name)

  parents : (dir : Path) (name : Name) → walk tree (dir ++ name ∷ []) ≡ and_then (resolve inodes dir) as_dir
  parents dir name =
      walk_snoc dir name
      ∙ by_cases (λ r.
      ok_unless (option_or (stop_from tree [] dir) (stops_walk (lookup tree dir))) ≡ and_then r as_dir)
      dir
      (λ x k. rw k refl)
      (λ k h. rw (k, h) refl)
      (λ i object k h e. rw (k, h) (by_object object i))
    where
      by_object : (object : Object) (i : ℕ) → ok_unless (stops_walk (Some object)) ≡ as_dir (i, object_kind object)
      by_object Dir i = refl
      by_object (File bytes) i = refl

  -- where a walk comes to
  abbrev Stands : Path → Result Link VolError → Type 0
  Stands path (Err x) = Unit {0}
  Stands path (Ok at) =
      (object : Object) × (lookup tree path ≡ Some object) × (inode path ≡ Some at.0) × (object_kind object ≡ at.1)

  stands : (path : Path) → Stands path (resolve inodes path)
  stands path = by_cases (Stands path) path (λ x k. tt) (λ k h. tt) (λ i object k h e. (object, h, e, refl))

  stands_at : (path : Path) (at : Link) → resolve inodes path ≡ Ok at → Stands path (Ok at)
  stands_at path at is = subst (Stands path) is (stands path)

  dir_of : (object : Object) → object_kind object ≡ kind.Directory → object ≡ Dir
  dir_of Dir e = refl
  dir_of (File bytes) e = cc

  file_of : (object : Object) → object_kind object ≡ kind.File → (bytes : List ℕ) × (object ≡ File bytes)
  file_of Dir e = cc
  file_of (File bytes) e = (bytes, refl)

  pub dir_stands : (dir : Path) (i : ℕ) → resolve inodes dir ≡ Ok (i, kind.Directory)
      → (lookup tree dir ≡ Some Dir) × (inode dir ≡ Some i)
  dir_stands dir i is =
      let s = stands_at dir (i, kind.Directory) is in (s.1 ∙ ap (λ (x : Object). Some x) (dir_of s.0 s.3), s.2)

  in_record : (p : Path) (o : Option Object) → lookup tree p ≡ o
      → o ≡ option_and_then (object_in inodes) (link_at p)
  in_record p None h = sym (ap (option_and_then (object_in inodes)) (no_link p h))
  in_record p (Some object) h =
      let j = inode_at p object h in
      sym (ap (option_and_then (object_in inodes)) (link_is p j.0 object j.1 h) ∙ object_held p object j.0 j.1 h)

  children : (dir : Path) (name : Name) (i : ℕ) → resolve inodes dir ≡ Ok (i, kind.Directory)
      → lookup tree (dir ++ name ∷ []) ≡ option_and_then (object_in inodes) (record_in (inodes i) name)
  children dir name i is =
      let s = dir_stands dir i is in
      in_record (dir ++ name ∷ []) (lookup tree (dir ++ name ∷ [])) refl
      ∙ ap (option_and_then (object_in inodes)) (sym (child_record dir name i s.1 s.0))

  pub has_records : (p : Path) (i : ℕ) → inode p ≡ Some i → lookup tree p ≡ Some Dir
      → (h : HasRecords inodes (reverse p)) × (h.inode ≡ i)
  has_records p i e d =
      let k = holds_records p i e d in (
        record {
          inode = i;
          records = k.0;
          is_reached = reached-pairs m.rooted m.pairs (reverse p) ∙ e;
          holds = k.1;
        },
        refl,
      )

  records_held : (dir : Path) (i : ℕ) → resolve inodes dir ≡ Ok (i, kind.Directory)
      → (h : HasRecords inodes (reverse dir)) × (h.inode ≡ i)
  records_held dir i is = let s = dir_stands dir i is in has_records dir i s.1 s.0

  bytes_held : (path : Path) (i : ℕ) → resolve inodes path ≡ Ok (i, kind.File)
      → (reached inodes (reverse path) ≡ Some i) × (bytes : List ℕ) × (inodes i ≡ Some (Bytes bytes))
  bytes_held path i is =
      let s = stands_at path (i, kind.File) is in
      let b = file_of s.0 s.3 in (
        reached-pairs m.rooted m.pairs (reverse path) ∙ s.2,
        b.0,
        m.pairs.file (reverse path) i b.0 (upward_at path ∙ s.1 ∙ ap (λ (x : Object). Some x) b.1) s.2,
      )

pub objects_by_inodes : ObjectsByInodes
objects_by_inodes inodes tree m path = objects inodes tree m path

pub parents_by_inodes : ParentsByInodes
parents_by_inodes inodes tree m dir name = parents inodes tree m dir name

pub children_by_records : ChildrenByRecords
children_by_records inodes tree m dir name i is = children inodes tree m dir name i is

pub directories_hold_records : DirectoriesHoldRecords
directories_hold_records inodes tree m dir i is = records_held inodes tree m dir i is

pub files_hold_bytes : FilesHoldBytes
files_hold_bytes inodes tree m path i is = bytes_held inodes tree m path i is
