-- What a call does to inodes is what it does to the tree that they stand for.
use Rattle.std.proofs.Common.{◌≡◌, ℕ, ◌+◌, ◌-◌, Bool, true, false, not, cond, ◌&&◌, ◌||◌, List, [], ◌∷◌, ◌++◌, length, reverse, Option, Some, None, Result, Ok, Err, refl, sym, ◌∙◌, ap, subst, true≢false, arith}
use Rattle.std.specs.Prelude.{nat_lt, ◌==◌}
use Rattle.std.specs.Option.{is_some, option_map, ok_or}
use Rattle.std.specs.FinMap.{find}
use Rattle.std.proofs.lemmas.Bool.{lt-ltb, le-ltb, ne_eqb}
use Rattle.std.proofs.lemmas.List.{length-append, reverse-append, reverse-reverse}
use Rattle.nl_types.specs.declared.error.VolError.{VolError}
use Rattle.nl_types.specs.declared.error.VolError.TheVariants.{NotFound, NotEmpty, Exists, TooBig, BadPath, IntoItself}
use Rattle.nl_types.specs.declared.reply.Answer.{Answer}
use Rattle.nl_types.specs.declared.reply.Answer.TheVariants as answer
use Rattle.nl_types.specs.declared.kind.Kind.{Kind}
use Rattle.nl_types.specs.declared.kind.Kind.TheVariants as kind
use Rattle.nl_types.specs.declared.reply.Object.{Object}
use Rattle.nl_types.specs.declared.reply.Object.TheVariants.{Dir, File}
use Rattle.nl_types.specs.Plain.Limits.{file_limit, path_limit}
use Rattle.nl_types.specs.Plain.Paths.{Name, Path, name_cmp, same_path, is_within}
use Rattle.nl_types.specs.Plain.Trees.{Tree, lookup, insert, remove, move_subtree, object_kind}
use Rattle.nl_types.specs.Plain.Calls.{Changed, and_then, refuse_if, walk, file_at, overwritten, resized, is_root, is_dir, rename}
use Rattle.nl_types.specs.Inodes.{Link, InodeContent, Bytes, Records, Inodes, MeansTree, object_of}
use Rattle.nl_types.specs.InodeChanges.{HasRecords, IsBare, Adds, Refills, Drops, Moves, MovesOnto}
use Rattle.nl_types.specs.Resolving.{record_in, step_to, resolve_from, resolve, as_dir}
use Rattle.nl_types.specs.Judging.{Listing, IsListing, bytes_of, bytes_in, has_any, may_take, is_dir_kind, judge_create, judge_rename}
use Rattle.nl_types.specs.InodeLaws.{MeansPaths}
use Rattle.nl_types.specs.InodeCallLaws.{LeadsTo, CreatesLead, WritesLead, TruncatesLead, UnlinksLead, RmdirsLead, RenamesLead, RenamesOntoLead}
use Rattle.nl_types.specs.Facts.Inodes.Standing.{zipped}
use Rattle.nl_types.specs.Facts.Inodes.Resolving.{inode, child_record, object_held, dir_stands, directories_hold_records, files_hold_bytes, parents_by_inodes}
use Rattle.nl_types.specs.Facts.Inodes.Judging.{files_are_judged, creates_are_judged, rmdirs_are_judged, renames_are_judged}
use Rattle.nl_types.specs.Facts.Inodes.Changed.{creates_insert, rewrites_insert, removes_remove, renames_move, replaces_move}
use Rattle.nl_types.specs.Facts.Renames.{not_into}

-- ---- what a judgement that is not refused has found

and_then-ok : {A B : Type 0} (r : Result A VolError) (next : A → Result B VolError) (b : B)
    → and_then r next ≡ Ok b → (a : A) × (r ≡ Ok a) × (next a ≡ Ok b)
and_then-ok (Ok a) next b is = (a, refl, is)
and_then-ok (Err e) next b is = cc

refuse_if-ok : {A : Type 0} (test : Bool) (e : VolError) (next : Result A VolError) (a : A)
    → refuse_if test e next ≡ Ok a → (test ≡ false) × (next ≡ Ok a)
refuse_if-ok true e next a is = cc
refuse_if-ok false e next a is = (refl, is)

ok_same : (i j : ℕ) → ◌≡◌ {A = Result ℕ VolError} (Ok i) (Ok j) → i ≡ j
ok_same i j e = cc

as_dir-ok : (at : Link) → as_dir at ≡ Ok tt → at.1 ≡ kind.Directory
as_dir-ok (i, kind.Directory) is = refl
as_dir-ok (i, kind.File) is = cc

-- ---- records and what they name

path_of_child : (dir : Path) (name : Name) → reverse (name ∷ reverse dir) ≡ dir ++ name ∷ []
path_of_child dir name =
    reverse-append (name ∷ []) (reverse dir) ∙ ap (λ (p : Path). p ++ name ∷ []) (reverse-reverse dir)

record_held : (inodes : Inodes) (p : Path) (h : HasRecords inodes p) (i : ℕ) (n : Name) → h.inode ≡ i
    → h.records n ≡ record_in (inodes i) n
record_held inodes p h i n e =
    sym (ap (λ (o : Option InodeContent). record_in o n) (ap inodes (sym e) ∙ h.holds))

-- the walk to a name in a directory
resolve_from-snoc : (inodes : Inodes) (at : Link) (dir : Path) (name : Name)
    → resolve_from inodes at (dir ++ name ∷ [])
    ≡ and_then (resolve_from inodes at dir) (λ x. step_to inodes x name)
resolve_from-snoc inodes at [] name = last (step_to inodes at name)
  where
    last : (r : Result Link VolError) → and_then r (λ next. Ok next) ≡ r
    last (Ok next) = refl
    last (Err e) = refl
resolve_from-snoc inodes at (n ∷ dir) name =
    by (step_to inodes at n) (λ next. resolve_from-snoc inodes next dir name)
  where
    by : (r : Result Link VolError)
        → ((next : Link)
        → resolve_from inodes next (dir ++ name ∷ [])
        ≡ and_then (resolve_from inodes next dir) (λ x. step_to inodes x name))
        →
        and_then r (λ next. resolve_from inodes next (dir ++ name ∷ []))
        ≡ and_then (and_then r (λ next. resolve_from inodes next dir)) (λ x. step_to inodes x name)
    by (Ok next) rest = rest next
    by (Err e) rest = refl

resolve-child : (inodes : Inodes) (dir : Path) (name : Name) (i : ℕ) (e : Link)
    → resolve inodes dir ≡ Ok (i, kind.Directory) → record_in (inodes i) name ≡ Some e
    → resolve inodes (dir ++ name ∷ []) ≡ Ok e
resolve-child inodes dir name i e is there =
    resolve_from-snoc inodes (2, kind.Directory) dir name
    ∙ ap (λ (r : Result Link VolError). and_then r (λ x. step_to inodes x name)) is
    ∙ ap (λ (o : Option Link). ok_or o NotFound) there

held_as : (c : InodeContent) (y : Object) (k : Kind) (o : Option Object) → object_of c ≡ y → object_kind y ≡ k
    → o ≡ Some y → (object_kind (object_of c) ≡ k) × (o ≡ Some (object_of c))
held_as c y k o e f h = (ap object_kind e ∙ f, h ∙ ap (λ (x : Object). Some x) (sym e))

module _ (inodes : Inodes) (tree : Tree) (m : MeansTree inodes tree) where
  mapped : (o : Option InodeContent) (y : Object) → option_map object_of o ≡ Some y
      → (c : InodeContent) × (o ≡ Some c) × (object_of c ≡ y)
  mapped None y e = cc
  mapped (Some c) y e = (c, refl, (cc))

  -- what a record names is there
  link_held : (dir : Path) (name : Name) (i : ℕ) (e : Link) → resolve inodes dir ≡ Ok (i, kind.Directory)
      → record_in (inodes i) name ≡ Some e →
      (c : InodeContent) × (inodes e.0 ≡ Some c) × (object_kind (object_of c) ≡ e.1)
      × (lookup tree (dir ++ name ∷ []) ≡ Some (object_of c))
  link_held dir name i e is there =
      let s = dir_stands inodes tree m dir i is in
      let z =
      zipped (inode inodes tree m (dir ++ name ∷ [])) (lookup tree (dir ++ name ∷ [])) e
      (sym (child_record inodes tree m dir name i s.1 s.0) ∙ there) in
      let c = mapped (inodes e.0) z.1 (object_held inodes tree m (dir ++ name ∷ []) z.1 e.0 z.0 z.2) in
      let both = held_as c.0 z.1 e.1 (lookup tree (dir ++ name ∷ [])) c.2 z.3 z.2 in
      (c.0, c.1, both.0, both.1)

-- a file is bare, and so is a directory without names
file_bare : (c : InodeContent) → object_kind (object_of c) ≡ kind.File → IsBare c
file_bare (Bytes bytes) e = tt
file_bare (Records records) e = cc

no_names : (names : List (Name × Link)) → nat_lt 0 (length names) ≡ false → (n : Name)
    → find name_cmp n names ≡ None
no_names [] e n = refl
no_names (x ∷ names) e n = absurd (true≢false (sym (lt-ltb 0 (length (x ∷ names)) (omega arith)) ∙ e))

dir_bare : (inodes : Inodes) (listing : Listing) (l : IsListing inodes listing) (i : ℕ) (c : InodeContent)
    → inodes i ≡ Some c → has_any listing i ≡ false → IsBare c
dir_bare inodes listing l i (Bytes bytes) e none = tt
dir_bare inodes listing l i (Records records) e none = λ n.
    sym ((l i records e).finds n) ∙ no_names (listing i) none n

taken_bare : (inodes : Inodes) (listing : Listing) (l : IsListing inodes listing) (k : Kind) (target : Link)
    (c : InodeContent)
    → inodes target.0 ≡ Some c → object_kind (object_of c) ≡ target.1 →
    may_take listing k (Some target) ≡ Ok tt → IsBare c
taken_bare inodes listing l kind.File (i, kind.Directory) c e kc is = cc
taken_bare inodes listing l kind.File (i, kind.File) c e kc is = file_bare c kc
taken_bare inodes listing l kind.Directory (i, kind.File) c e kc is = cc
taken_bare inodes listing l kind.Directory (i, kind.Directory) c e kc is =
    dir_bare inodes listing l i c e (refuse_if-ok (has_any listing i) NotEmpty (Ok tt) tt is).0

-- ---- calls

nothing_in : (o : Option Link) → is_some o ≡ false → o ≡ None
nothing_in None e = refl
nothing_in (Some x) e = cc

-- what a call that makes a name has found
create_found : (old : Inodes) (paths : ℕ) (dir : Path) (name : Name) (parent : ℕ)
    → judge_create old paths dir name ≡ Ok parent
    → (resolve old dir ≡ Ok (parent, kind.Directory)) × (record_in (old parent) name ≡ None)
create_found old paths dir name parent judged =
    let at = and_then-ok (resolve old dir) _ parent judged in
    let is_dir = and_then-ok (as_dir at.0) _ parent at.2 in
    let free = refuse_if-ok (is_some (record_in (old at.0.0) name)) Exists _ parent is_dir.2 in
    let few = refuse_if-ok (nat_lt path_limit paths) TooBig (Ok at.0.0) parent free.1 in
    there at.0 at.1 (ok_same at.0.0 parent few.1) (as_dir-ok at.0 is_dir.1)
    (nothing_in (record_in (old at.0.0) name) free.0)
  where
    there : (at : Link) → resolve old dir ≡ Ok at → at.0 ≡ parent → at.1 ≡ kind.Directory
        → record_in (old at.0) name ≡ None
        → (resolve old dir ≡ Ok (parent, kind.Directory)) × (record_in (old parent) name ≡ None)
    there at found same dirs none =
        (found ∙ (λ i. Ok (same i, dirs i)), ap (λ (j : ℕ). record_in (old j) name) (sym same) ∙ none)

pub creates_lead : CreatesLead
creates_lead old new tree object dir name parent j m judged adds =
    let found = create_found old (length tree) dir name parent judged in
    let h = directories_hold_records old tree m dir parent found.0 in
    let made = creates_insert old new tree (reverse dir) name object j m (record {
      parent = h.0;
      absent = record_held old (reverse dir) h.0 parent name h.1 ∙ found.1;
      adds = subst (λ (i : ℕ). Adds old new i name object j) (sym h.1) adds;
    }) in
    let same = path_of_child dir name in
    record {
      tree = insert tree (dir ++ name ∷ []) object;
      is =
          creates_are_judged old tree m object dir name
          ∙ ap (λ (r : Result ℕ VolError).
          and_then r (λ _. Ok (answer.Done, insert tree (dir ++ name ∷ []) object)))
          judged;
      means = subst (λ (p : Path). MeansTree new (insert tree p object)) same made.means;
      count = ap (λ (p : Path). length (insert tree p object)) (sym same) ∙ made.count;
    }

-- other bytes at a path
refilled : (old new : Inodes) (tree : Tree) → MeansTree old tree → (path : Path) (i : ℕ) (bytes : List ℕ)
    → resolve old path ≡ Ok (i, kind.File) → Refills old new i bytes →
    MeansPaths new (insert tree path (File bytes)) (length tree)
refilled old new tree m path i bytes found refills =
    let f = files_hold_bytes old tree m path i found in
    let made =
    rewrites_insert old new tree (reverse path) bytes m
    (record { inode = i; is_reached = f.0; held = f.1; was = f.2; refills = refills }) in
    let same : reverse (reverse path) ≡ path = reverse-reverse path in
    subst (λ (p : Path). MeansPaths new (insert tree p (File bytes)) (length tree)) same made

file_found : (old : Inodes) (tree : Tree) → MeansTree old tree → (path : Path) (i : ℕ)
    → resolve old path ≡ Ok (i, kind.File) → file_at tree path ≡ Ok (bytes_of (old i))
file_found old tree m path i found =
    files_are_judged old tree m path ∙ ap (λ (r : Result Link VolError). and_then r (bytes_in old)) found

-- what a write does once the file's bytes are found
abbrev rewrite : Tree → ℕ → List ℕ → Path → List ℕ → Changed
rewrite tree offset bytes path held =
    cond (length bytes == 0) (Ok (answer.Written 0, tree)) (
    refuse_if (nat_lt file_limit (offset + length bytes)) TooBig (
    Ok (answer.Written (length bytes), insert tree path (File (overwritten held offset bytes)))))

pub writes_lead : WritesLead
writes_lead old new tree offset bytes path i m found some fits refills =
    let all = overwritten (bytes_of (old i)) offset bytes in
    let made = refilled old new tree m path i all found refills in
    record {
      tree = insert tree path (File all);
      is =
          ap (λ (r : Result (List ℕ) VolError). and_then r (rewrite tree offset bytes path))
          (file_found old tree m path i found)
          ∙ ap (λ b.
          cond {A = Changed} b (Ok (answer.Written 0, tree))
          (refuse_if (nat_lt file_limit (offset + length bytes)) TooBig
          (Ok (answer.Written (length bytes), insert tree path (File all)))))
          (ne_eqb (length bytes) 0 (λ none. omega (arith, some, none)))
          ∙ ap (λ b.
          refuse_if {A = Answer × Tree} b TooBig
          (Ok (answer.Written (length bytes), insert tree path (File all))))
          (le-ltb file_limit (offset + length bytes) fits);
      means = made.means;
      count = made.count;
    }

pub truncates_lead : TruncatesLead
truncates_lead old new tree size path i m found fits refills =
    let all = resized (bytes_of (old i)) size in
    let made = refilled old new tree m path i all found refills in
    record {
      tree = insert tree path (File all);
      is =
          ap (λ (r : Result (List ℕ) VolError).
          and_then {B = Answer × Tree} r
          (λ held.
          refuse_if (nat_lt file_limit size) TooBig
          (Ok (answer.Done, insert tree path (File (resized held size))))))
          (file_found old tree m path i found)
          ∙ ap (λ b. refuse_if {A = Answer × Tree} b TooBig (Ok (answer.Done, insert tree path (File all))))
          (le-ltb file_limit size fits);
      means = made.means;
      count = made.count;
    }

-- one inode and its record are gone
dropped : (old new : Inodes) (tree : Tree) → MeansTree old tree
    → (dir : Path) (name : Name) (parent : ℕ) (e : Link) (c : InodeContent)
    → resolve old dir ≡ Ok (parent, kind.Directory) → record_in (old parent) name ≡ Some e →
    old e.0 ≡ Some c → IsBare c → Drops old new parent name e.0
    → MeansPaths new (remove tree (dir ++ name ∷ [])) (length tree - 1)
dropped old new tree m dir name parent e c found there held bare drops =
    let h = directories_hold_records old tree m dir parent found in
    let made = removes_remove old new tree (reverse dir) name m (record {
      parent = h.0;
      link = e;
      is_there = record_held old (reverse dir) h.0 parent name h.1 ∙ there;
      held = c;
      was = held;
      bare = bare;
      drops = subst (λ (i : ℕ). Drops old new i name e.0) (sym h.1) drops;
    }) in
    let same = path_of_child dir name in
    subst (λ (p : Path). MeansPaths new (remove tree p) (length tree - 1)) same made

pub unlinks_lead : UnlinksLead
unlinks_lead old new tree dir name parent i m is_named drops =
    let found = is_named.resolved in
    let there = is_named.has in
    let held = link_held old tree m dir name parent (i, kind.File) found there in
    let made =
    dropped old new tree m dir name parent (i, kind.File) held.0 found there held.1
    (file_bare held.0 held.2) drops in
    record {
      tree = remove tree (dir ++ name ∷ []);
      is =
          ap (λ (r : Result (List ℕ) VolError).
          and_then {B = Answer × Tree} r (λ _. Ok (answer.Done, remove tree (dir ++ name ∷ []))))
          (file_found old tree m (dir ++ name ∷ []) i
          (resolve-child old dir name parent (i, kind.File) found there));
      means = made.means;
      count = made.count;
    }

below_root : (dir : Path) (name : Name) → is_root (dir ++ name ∷ []) ≡ false
below_root dir name =
    ne_eqb (length (dir ++ name ∷ [])) 0 (λ e. omega (arith, length-append dir (name ∷ []), e))

pub rmdirs_lead : RmdirsLead
rmdirs_lead old new tree listing dir name parent i m l is_named none drops =
    let found = is_named.resolved in
    let there = is_named.has in
    let held = link_held old tree m dir name parent (i, kind.Directory) found there in
    let made =
    dropped old new tree m dir name parent (i, kind.Directory) held.0 found there held.1
    (dir_bare old listing l i held.0 held.1 none) drops in
    let path = dir ++ name ∷ [] in
    record {
      tree = remove tree path;
      is =
          rmdirs_are_judged old tree listing m l path
          ∙ ap (λ (r : Result (Unit {0}) VolError).
          and_then {B = Answer × Tree} r (λ _. Ok (answer.Done, remove tree path)))
          (ap (λ b. refuse_if b BadPath (and_then (resolve old path) judged)) (below_root dir name)
          ∙ ap (λ (r : Result Link VolError). and_then r judged)
          (resolve-child old dir name parent (i, kind.Directory) found there)
          ∙ ap (λ b. refuse_if b NotEmpty (Ok tt)) none);
      means = made.means;
      count = made.count;
    }
  where
    judged : Link → Result (Unit {0}) VolError
    judged at = and_then (as_dir at) (λ _. refuse_if (has_any listing at.0) NotEmpty (Ok tt))

-- ---- a rename

-- what a rename that moves something has found
record Judged (old : Inodes) (tree : Tree) (listing : Listing) (from dir : Path) (name : Name) (x : Object)
    (k : Kind) (to : ℕ) : Type 0 where
  away : (is_dir x && (is_within from (dir ++ name ∷ []) && not (same_path from (dir ++ name ∷ [])))) ≡ false
  other : same_path from (dir ++ name ∷ []) ≡ false
  free : may_take listing k (record_in (old to) name) ≡ Ok tt

same_kind : (x : Object) → is_dir_kind (object_kind x) ≡ is_dir x
same_kind Dir = refl
same_kind (File bytes) = refl

moving : (b : Bool) (r : Result (Unit {0}) VolError) → cond b (Ok false) (and_then r (λ _. Ok true)) ≡ Ok true
    → (b ≡ false) × (r ≡ Ok tt)
moving true r is = cc
moving false (Ok u) is = (refl, refl)
moving false (Err e) is = cc

has_judged : (old : Inodes) (tree : Tree) (listing : Listing) (from dir : Path) (name : Name) (x : Object)
    (link : Link) (to : ℕ)
    →
    judge_rename old listing from dir name ≡ Ok true → resolve old from ≡ Ok link → object_kind x ≡ link.1
    → resolve old dir ≡ Ok (to, kind.Directory) → Judged old tree listing from dir name x link.1 to
has_judged old tree listing from dir name x link to judged found kinds into =
    let below = refuse_if-ok (is_root from || is_root (dir ++ name ∷ [])) BadPath _ true judged in
    let placed = sym (ap (λ (r : Result Link VolError). and_then r next) found) ∙ below.1 in
    let out =
    refuse_if-ok (is_dir_kind link.1
    && (is_within from (dir ++ name ∷ []) && not (same_path from (dir ++ name ∷ []))))
    IntoItself _ true placed in
    let there = sym (ap (λ (r : Result Link VolError). and_then r (last link.1)) into) ∙ out.1 in
    let ends =
    moving (same_path from (dir ++ name ∷ []))
    (may_take listing link.1 (record_in (old to) name)) there in
    record {
      away =
          ap (λ b. b && (is_within from (dir ++ name ∷ []) && not (same_path from (dir ++ name ∷ []))))
          (sym (same_kind x) ∙ ap is_dir_kind kinds)
          ∙ out.0;
      other = ends.0;
      free = ends.1;
    }
  where
    last : Kind → Link → Result Bool VolError
    last k at =
        and_then (as_dir at)
        (λ _.
        cond (same_path from (dir ++ name ∷ [])) (Ok false)
        (and_then (may_take listing k (record_in (old at.0) name)) (λ _. Ok true)))

    next : Link → Result Bool VolError
    next at =
        refuse_if
        (is_dir_kind at.1 && (is_within from (dir ++ name ∷ []) && not (same_path from (dir ++ name ∷ []))))
        IntoItself
        (and_then (resolve old dir) (last at.1))

module _ (old new : Inodes) (tree : Tree) (listing : Listing) (m : MeansTree old tree)
    (l : IsListing old listing)
    (fd : Path) (fn : Name) (td : Path) (tn : Name) (a b : ℕ) (link : Link)
    (judged : judge_rename old listing (fd ++ fn ∷ []) td tn ≡ Ok true)
    (found : resolve old fd ≡ Ok (a, kind.Directory)) (there : record_in (old a) fn ≡ Some link)
    (into : resolve old td ≡ Ok (b, kind.Directory)) where
  abbrev from : Path
  from = fd ++ fn ∷ []

  abbrev to : Path
  to = td ++ tn ∷ []

  source : (c : InodeContent) × (old link.0 ≡ Some c) × (object_kind (object_of c) ≡ link.1)
      × (lookup tree from ≡ Some (object_of c))
  source = link_held old tree m fd fn a link found there

  judgement : Judged old tree listing from td tn (object_of source.0) link.1 b
  judgement =
      has_judged old tree listing from td tn (object_of source.0) link b judged
      (resolve-child old fd fn a link found there) source.2 into

  walked : walk tree to ≡ Ok tt
  walked = parents_by_inodes old tree m td tn ∙ ap (λ (r : Result Link VolError). and_then r as_dir) into

  outside : is_within (reverse (fn ∷ reverse fd)) (reverse (tn ∷ reverse td)) ≡ false
  outside =
      (λ i. is_within (path_of_child fd fn i) (path_of_child td tn i))
      ∙ not_into tree from to (object_of source.0) source.3 judgement.away walked judgement.other

  answered : rename tree from to ≡ Ok (answer.Done, move_subtree tree from to)
  answered =
      renames_are_judged old tree listing m l from td tn
      ∙ ap (λ (r : Result Bool VolError).
      and_then {B = Answer × Tree} r
      (λ moves. Ok (answer.Done, cond moves (move_subtree tree from to) tree)))
      judged

  paths_are : move_subtree tree (reverse (fn ∷ reverse fd)) (reverse (tn ∷ reverse td))
      ≡ move_subtree tree from to
  paths_are = λ i. move_subtree tree (path_of_child fd fn i) (path_of_child td tn i)

  source_dir : (h : HasRecords old (reverse fd)) × (h.inode ≡ a)
  source_dir = directories_hold_records old tree m fd a found

  target_dir : (h : HasRecords old (reverse td)) × (h.inode ≡ b)
  target_dir = directories_hold_records old tree m td b into

  moved : record_in (old b) tn ≡ None → Moves old new a fn b tn link
      → LeadsTo (rename tree from to) answer.Done new (length tree)
  moved none moves =
      let made = renames_move old new tree (reverse fd) fn (reverse td) tn m (record {
        from = source_dir.0;
        to = target_dir.0;
        link = link;
        is_there = record_held old (reverse fd) source_dir.0 a fn source_dir.1 ∙ there;
        absent = record_held old (reverse td) target_dir.0 b tn target_dir.1 ∙ none;
        outside = outside;
        moves =
            subst (λ (i : ℕ). Moves old new i fn target_dir.0.inode tn link) (sym source_dir.1)
            (subst (λ (i : ℕ). Moves old new a fn i tn link) (sym target_dir.1) moves);
      }) in
      record {
        tree = move_subtree tree from to;
        is = answered;
        means = subst (MeansTree new) paths_are made.means;
        count = ap length (sym paths_are) ∙ made.count;
      }

  moved_onto : (target : Link) → record_in (old b) tn ≡ Some target
      → MovesOnto old new a fn b tn link target.0
      → LeadsTo (rename tree from to) answer.Done new (length tree - 1)
  moved_onto target taken moves =
      let held = link_held old tree m td tn b target into taken in
      let free : may_take listing link.1 (Some target) ≡ Ok tt =
      ap (may_take listing link.1) (sym taken) ∙ judgement.free in
      let made = replaces_move old new tree (reverse fd) fn (reverse td) tn m (record {
        from = source_dir.0;
        to = target_dir.0;
        link = link;
        is_there = record_held old (reverse fd) source_dir.0 a fn source_dir.1 ∙ there;
        target = target;
        was_there = record_held old (reverse td) target_dir.0 b tn target_dir.1 ∙ taken;
        held = held.0;
        was = held.1;
        bare = taken_bare old listing l link.1 target held.0 held.1 held.2 free;
        outside = outside;
        moves =
            subst (λ (i : ℕ). MovesOnto old new i fn target_dir.0.inode tn link target.0) (sym source_dir.1)
            (subst (λ (i : ℕ). MovesOnto old new a fn i tn link target.0) (sym target_dir.1) moves);
      }) in
      record {
        tree = move_subtree tree from to;
        is = answered;
        means = subst (MeansTree new) paths_are made.means;
        count = ap length (sym paths_are) ∙ made.count;
      }

pub renames_lead : RenamesLead
renames_lead old new tree listing fd fn td tn a b link m l judged source target moves =
    moved old new tree listing m l fd fn td tn a b link judged source.resolved source.has target.resolved
    target.has moves

pub renames_onto_lead : RenamesOntoLead
renames_onto_lead old new tree listing fd fn td tn a b link taken m l judged source target moves =
    moved_onto old new tree listing m l fd fn td tn a b link judged source.resolved source.has target.resolved
    taken target.has moves
