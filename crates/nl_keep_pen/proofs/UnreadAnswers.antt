-- What a tree answers of which no file is read but manifests.
use Rattle.std.proofs.Common.{◌≡◌, ◌⊎◌, ℕ, suc, ◌-◌, ◌≤◌, Bool, true, false, cond, List, [], ◌∷◌, ◌++◌, map, length, get_or, Option, Some, None, Result, Ok, Err, refl, sym, ap, ◌∙◌, inl, inr, arith}
use Rattle.std.specs.List.{cons_option}
use Rattle.std.specs.Option.{ok_or, option_map, option_or}
use Rattle.nl_types.specs.declared.error.VolError.{VolError}
use Rattle.nl_types.specs.declared.error.VolError.TheVariants.{Memory, NoCheckpoint, NotFound}
use Rattle.nl_types.specs.declared.kind.Kind.{Kind}
use Rattle.nl_types.specs.declared.kind.Kind.TheVariants as kind
use Rattle.nl_types.specs.declared.reply.Named.{Named}
use Rattle.nl_types.specs.declared.reply.Object.{Object}
use Rattle.nl_types.specs.declared.reply.Object.TheVariants.{Dir, File}
use Rattle.nl_types.specs.Plain.Calls.{and_then, dir_at, dir_in, file_at, file_in, list, named, ok_unless, stop_from, stops_walk, walk}
use Rattle.nl_types.specs.Plain.Paths.{Name, Path, same_name}
use Rattle.nl_types.specs.Plain.Trees.{Tree, IsTree, children, lookup, name_below, object_kind}
use Rattle.nl_types.specs.Plain.Worlds.{World, Copy, copy_at}
use Rattle.nl_folders.specs.declared.folder.FolderError.{FolderError}
use Rattle.nl_folders.specs.declared.folder.FolderError.TheVariants.{Refused}
use Rattle.nl_folders.specs.Refusals.{RefusesPath, RefusesTree}
use Rattle.nl_manifests.specs.HostTrees.{last_name, manifest_name, parted}
use Rattle.nl_manifests.specs.Unread.{unread, unread_at, unread_object}
use Rattle.nl_keep.specs.Shown.{ShowsKept}
use Rattle.nl_keep.specs.Volumes.{Meaning}
use Rattle.nl_keep_pen.specs.Facts.UnreadTrees.{found_unread, in_whole, same_unread}
use Rattle.nl_keep_pen.specs.UnreadTrees.{ShowsUnread}

-- ---- names

pub last_below : (n : Name) (o : Option (Path × Name))
    → last_name (option_map (λ (p : Path × Name). (n ∷ p.0, p.1)) o) ≡ last_name o
last_below n None = refl
last_below n (Some p) = refl

-- the last name of a path
pub last_is : (path : Path) (d : Name) → 1 ≤ length path
    → last_name (parted path) ≡ get_or path (length path - 1) d
last_is [] d some = absurd (omega arith)
last_is (n ∷ []) d some = refl
last_is (n ∷ m ∷ path) d some =
    let front : length (n ∷ m ∷ path) - 1 ≡ suc (length (m ∷ path) - 1) = omega arith in
    last_below n (parted (m ∷ path)) ∙ last_is (m ∷ path) d (omega arith)
    ∙ ap (λ (k : ℕ). get_or (n ∷ m ∷ path) k d) (sym front)

-- ---- walks

abbrev Walked : Type 0
Walked = Result (Unit {0}) VolError

module _ (tree : Tree) where
  stops_same : (path : Path) → stops_walk (lookup (unread tree) path) ≡ stops_walk (lookup tree path)
  stops_same path =
      ap stops_walk (found_unread tree path)
      ∙ same_unread stops_walk (λ a b. refl) (last_name (parted path)) (lookup tree path)

  stop_same : (walked names : Path) → stop_from (unread tree) walked names ≡ stop_from tree walked names
  stop_same walked [] = refl
  stop_same walked (n ∷ names) = λ i. option_or (stops_same walked i) (stop_same (walked ++ n ∷ []) names i)

  walk_same : (path : Path) → walk (unread tree) path ≡ walk tree path
  walk_same path = ap ok_unless (stop_same [] path)

-- ---- directories

abbrev dir_found : Walked → Option Object → Walked
dir_found walked found = and_then (and_then walked (λ _. ok_or found NotFound)) dir_in

files_are_none : (walked : Walked) (a b : List ℕ)
    → dir_found walked (Some (File a)) ≡ dir_found walked (Some (File b))
files_are_none (Ok u) a b = refl
files_are_none (Err e) a b = refl

dir_same : (tree : Tree) (path : Path) → dir_at (unread tree) path ≡ dir_at tree path
dir_same tree path =
    (λ i. dir_found (walk_same tree path i) (found_unread tree path i))
    ∙ same_unread (dir_found (walk tree path)) (files_are_none (walk tree path)) (last_name (parted path))
    (lookup tree path)

kind_same : (name : Name) (object : Object) → object_kind (unread_object name object) ≡ object_kind object
kind_same name Dir = refl
kind_same name (File bytes) =
    elim (same_name name manifest_name) as (λ t. object_kind (cond t (File bytes) (File [])) ≡ kind.File)
    [ true ↦ refl | false ↦ refl ]

children_same : (tree : Tree) (dir : Path) → children (unread tree) dir ≡ children tree dir
children_same [] dir = refl
children_same (e ∷ tree) dir =
    λ i. cons_option
    (option_map {U = Name × Kind} (λ name. (name, kind_same (last_name (parted e.0)) e.1 i))
    (name_below dir e.0))
    (children_same tree dir i)

-- directories list the same names
names_same : (tree : Tree) (path : Path) → list (unread tree) path ≡ list tree path
names_same tree path =
    λ i. and_then {B = List Named} (dir_same tree path i) (λ _. Ok (map named (children_same tree path i)))

-- ---- files

abbrev file_found : Walked → Option Object → Result (List ℕ) VolError
file_found walked found = and_then (and_then walked (λ _. ok_or found NotFound)) file_in

file_by : (tree : Tree) (path : Path)
    → file_at (unread tree) path ≡ file_found (walk tree path) (option_map (unread_at path) (lookup tree path))
file_by tree path = λ i. file_found (walk_same tree path i) (found_unread tree path i)

abbrev is_manifest : Path → Bool
is_manifest path = same_name (last_name (parted path)) manifest_name

-- a manifest is the same
found_same : (name : Name) → same_name name manifest_name ≡ true → (walked : Walked) (o : Option Object)
    → file_found walked (option_map (unread_object name) o) ≡ file_found walked o
found_same name is (Err e) o = refl
found_same name is (Ok u) None = refl
found_same name is (Ok u) (Some Dir) = refl
found_same name is (Ok u) (Some (File b)) =
    ap (λ t. file_found (Ok u) (Some (cond t (File b) (File [])))) is

-- another file is empty
found_empty : (name : Name) → same_name name manifest_name ≡ false → (walked : Walked) (o : Option Object)
    (b : List ℕ) → file_found walked o ≡ Ok b → file_found walked (option_map (unread_object name) o) ≡ Ok []
found_empty name other (Err e) o b is = cc
found_empty name other (Ok u) None b is = cc
found_empty name other (Ok u) (Some Dir) b is = cc
found_empty name other (Ok u) (Some (File x)) b is =
    ap (λ t. file_found (Ok u) (Some (cond t (File x) (File [])))) other

-- and a file stands where one was
found_whole : (name : Name) (walked : Walked) (o : Option Object) (b : List ℕ)
    → file_found walked (option_map (unread_object name) o) ≡ Ok b
    → (bytes : List ℕ) × (file_found walked o ≡ Ok bytes)
found_whole name (Err e) o b is = let no : ◌≡◌ {A = Result (List ℕ) VolError} (Err e) (Ok b) = is in cc
found_whole name (Ok u) None b is =
    let no : ◌≡◌ {A = Result (List ℕ) VolError} (Err NotFound) (Ok b) = is in cc
found_whole name (Ok u) (Some Dir) b is =
    let no : ◌≡◌ {A = Result (List ℕ) VolError} (file_in Dir) (Ok b) = is in cc
found_whole name (Ok u) (Some (File x)) b is = (x, refl)

-- ---- checkpoints

pub shows_unread : (n : ℕ) (Means : Meaning) (w : World) (copy : Copy) → Means w → copy_at w n ≡ Some copy
    → IsTree copy.tree → ShowsUnread Means n (unread copy.tree)
shows_unread n Means w copy means kept is_tree = record {
  whole = copy.tree;
  shown = record { world = w; means = means; copy = copy; kept = kept; has = refl; is_tree = is_tree };
  is = refl;
}

-- a checkpoint that is kept isn't judged not to be
pub kept_refused : (n : ℕ) (e : FolderError) (w : World) (copy : Copy) → copy_at w n ≡ Some copy
    → (e ≡ Refused Memory) ⊎ ((e ≡ Refused NoCheckpoint) × (copy_at w n ≡ None))
    → RefusesTree copy.tree e
kept_refused n e w copy kept (inl memory) = inl memory
kept_refused n e w copy kept (inr missing) = let no : Some copy ≡ None = sym kept ∙ missing.1 in cc

-- what no call can name in the tree, none can in the whole one
pub refuses_whole : (tree : Tree) (e : FolderError) → RefusesTree (unread tree) e → RefusesTree tree e
refuses_whole tree e (inl memory) = inl memory
refuses_whole tree e (inr bad) = inr (bad.0, (bad.1.0, in_whole tree bad.1.0 bad.1.1, bad.1.2))

pub stays_unread : (n m : ℕ) (Old New : Meaning)
    → ((tree : Tree) → ShowsKept Old n tree → ShowsKept New m tree)
    → (tree : Tree) → ShowsUnread Old n tree → ShowsUnread New m tree
stays_unread n m Old New stays tree shown = record {
  whole = shown.whole;
  shown = stays shown.whole shown.shown;
  is = shown.is;
}

module _ (n : ℕ) (path : Path) (Means : Meaning) where
  pub listed_unread : (names : List Named)
      → ((tree : Tree) → ShowsKept Means n tree → list tree path ≡ Ok names)
      → (tree : Tree) → ShowsUnread Means n tree → list tree path ≡ Ok names
  listed_unread names listed tree shown =
      ap (λ (t : Tree). list t path) shown.is ∙ names_same shown.whole path ∙ listed shown.whole shown.shown

  pub listing_refused : (e : FolderError)
      → ((tree : Tree) (names : List Named) → ShowsKept Means n tree → list tree path ≡ Ok names
      → RefusesPath path e)
      → (tree : Tree) (names : List Named) → ShowsUnread Means n tree → list tree path ≡ Ok names
      → RefusesPath path e
  listing_refused e refused tree names shown is =
      refused shown.whole names shown.shown
      (sym (ap (λ (t : Tree). list t path) shown.is ∙ names_same shown.whole path) ∙ is)

  pub manifest_read : (bytes : List ℕ) → is_manifest path ≡ true
      → ((tree : Tree) → ShowsKept Means n tree → file_at tree path ≡ Ok bytes)
      → (tree : Tree) → ShowsUnread Means n tree → file_at tree path ≡ Ok bytes
  manifest_read bytes is found tree shown =
      ap (λ (t : Tree). file_at t path) shown.is ∙ file_by shown.whole path
      ∙ found_same (last_name (parted path)) is (walk shown.whole path) (lookup shown.whole path)
      ∙ found shown.whole shown.shown

  pub empty_read : is_manifest path ≡ false
      → ((tree : Tree) → ShowsKept Means n tree → (bytes : List ℕ) × (file_at tree path ≡ Ok bytes))
      → (tree : Tree) → ShowsUnread Means n tree → file_at tree path ≡ Ok []
  empty_read other found tree shown =
      let file = found shown.whole shown.shown in
      ap (λ (t : Tree). file_at t path) shown.is ∙ file_by shown.whole path
      ∙ found_empty (last_name (parted path)) other (walk shown.whole path) (lookup shown.whole path) file.0 file.1

  pub reading_refused : (e : FolderError)
      → ((tree : Tree) (bytes : List ℕ) → ShowsKept Means n tree → file_at tree path ≡ Ok bytes
      → RefusesPath path e)
      → (tree : Tree) (bytes : List ℕ) → ShowsUnread Means n tree → file_at tree path ≡ Ok bytes
      → RefusesPath path e
  reading_refused e refused tree bytes shown is =
      let whole =
      found_whole (last_name (parted path)) (walk shown.whole path) (lookup shown.whole path) bytes
      (sym (ap (λ (t : Tree). file_at t path) shown.is ∙ file_by shown.whole path) ∙ is) in
      refused shown.whole whole.0 shown.shown whole.1
