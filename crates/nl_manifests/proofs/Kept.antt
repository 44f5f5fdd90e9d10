-- The manifests of a tree, and lines by their names.
use Rattle.std.proofs.Common.{◌≡◌, ℕ, Bool, true, false, cond, List, [], ◌∷◌, ◌++◌, map, Option, Some, None, refl, sym, ap, ◌∙◌, true≢false, is_some}
use Rattle.std.specs.List.{AllByRecursion, flat_map, list_all}
use Rattle.std.specs.Ordering.{is_lt, is_eq}
use Rattle.std.specs.Prelude.{option_and_then}
use Rattle.std.specs.Cmp.Lexicographic.{nat_list_cmp_total}
use Rattle.std.specs.FinMap.{find, is_sorted}
use Rattle.std.specs.FinMap.Entries.{below_all}
use Rattle.std.proofs.lemmas.Bool.{and_parts, and_from}
use Rattle.nl_types.specs.declared.reply.Object.{Object}
use Rattle.nl_types.specs.declared.reply.Object.TheVariants.{Dir, File}
use Rattle.nl_types.specs.Plain.Paths.{Name, Path, name_cmp, path_cmp, same_name, same_path}
use Rattle.nl_types.specs.Plain.Trees.{Tree, IsTree, lookup}
use Rattle.nl_types.specs.Facts.Lookups.{same_name-equal, same_name-itself, same_path-itself}
use Rattle.nl_types.specs.Facts.TreeLaws.{same_path-equal}
use Rattle.nl_manifests.specs.declared.manifest.Line.{Line}
use Rattle.nl_manifests.specs.declared.manifest.Manifest.{Manifest}
use Rattle.nl_manifests.specs.Manifests.{IsManifest, ascend, are_attributes, are_lines, is_line, is_manifest}
use Rattle.nl_manifests.specs.HostTrees.{line_named, manifest_at, manifest_for, manifest_in_object, manifest_name}
use Rattle.nl_manifests.specs.Private.Opening.{Manifests, manifest_entry, manifests}
use Rattle.nl_manifests.proofs.Read.{read_found}
use Rattle.nl_manifests.proofs.Sorted.{absent, less_is}

abbrev Met : Option Manifest → Option Manifest → Type 0
Met a b = a ≡ b

pub not_none : {A : Type 0} (x : A) → ◌≡◌ {A = Option A} None (Some x) → ⊥
not_none x is = true≢false (sym (ap is_some is))

-- ---- manifests of directories

abbrev manifests_in : Tree → Tree → Manifests
manifests_in tree es = flat_map (λ e. manifest_entry e.0 (manifest_for tree e.0 e.1)) es

-- the manifest of each directory stands at its path
found_in_entries : (tree es : Tree) (d : Path) → is_sorted path_cmp es ≡ true
    → find path_cmp d (manifests_in tree es) ≡ option_and_then (manifest_for tree d) (find path_cmp d es)
found_in_entries tree [] d sorted = refl
found_in_entries tree (e ∷ es) d sorted =
    let parts = and_parts (below_all path_cmp e.0 es) (is_sorted path_cmp es) sorted in
    let rest = found_in_entries tree es d parts.1 in
    by (manifest_for tree e.0 e.1) refl (same_path d e.0) refl parts.0 rest
  where
    by : (m : Option Manifest) → manifest_for tree e.0 e.1 ≡ m → (t : Bool) → same_path d e.0 ≡ t
        → below_all path_cmp e.0 es ≡ true
        → find path_cmp d (manifests_in tree es) ≡ option_and_then (manifest_for tree d) (find path_cmp d es)
        → find path_cmp d (manifest_entry e.0 m ++ manifests_in tree es)
        ≡ option_and_then (manifest_for tree d) (cond t (Some e.1) (find path_cmp d es))
    by None is true same below rest =
        let here = same_path-equal d e.0 same in
        rest ∙ ap (option_and_then (manifest_for tree d)) (ap (λ (p : Path). find path_cmp p es) here ∙
        absent e.0 es below)
        ∙ sym (ap (λ (p : Path). manifest_for tree p e.1) here ∙ is)
    by None is false same below rest = rest
    by (Some m) is true same below rest =
        ap (λ t. cond t (Some m) (find path_cmp d (manifests_in tree es))) same
        ∙ sym (ap (λ (p : Path). manifest_for tree p e.1) (same_path-equal d e.0 same) ∙ is)
    by (Some m) is false same below rest =
        ap (λ t. cond t (Some m) (find path_cmp d (manifests_in tree es))) same ∙ rest

-- a manifest stands in a directory
pub manifest_dir : (tree : Tree) → IsTree tree → (d : Path) (m : Manifest) → manifest_at tree d ≡ Some m
    → lookup tree d ≡ Some Dir
manifest_dir tree t d m is = t.parents d manifest_name (by (lookup tree (d ++ manifest_name ∷ [])) is)
  where
    by : (o : Option Object) → Met (manifest_in_object o) (Some m) → is_some o ≡ true
    by None is = absurd (not_none m is)
    by (Some object) is = refl

no_file_is_dir : (bytes : List ℕ) → ◌≡◌ {A = Option Object} (Some (File bytes)) (Some Dir) → ⊥
no_file_is_dir bytes is = cc

pub found_manifests : (tree : Tree) → IsTree tree → (d : Path) → find path_cmp d (manifests tree) ≡
    manifest_at tree d
found_manifests tree t d =
    found_in_entries tree tree d t.ordered ∙ by (lookup tree d) refl (manifest_at tree d) refl
  where
    by : (o : Option Object) → lookup tree d ≡ o → (k : Option Manifest) → manifest_at tree d ≡ k
        → Met (option_and_then (manifest_for tree d) o) k
    by (Some Dir) there k is = is
    by (Some (File bytes)) there None is = refl
    by (Some (File bytes)) there (Some m) is =
        let dir = manifest_dir tree t d m is in absurd (no_file_is_dir bytes (sym there ∙ dir))
    by None there None is = refl
    by None there (Some m) is =
        let dir = manifest_dir tree t d m is in absurd (true≢false (sym (ap is_some (sym there ∙ dir))))

-- ---- what a manifest has

pub manifest_at_is : (tree : Tree) (d : Path) (m : Manifest) → manifest_at tree d ≡ Some m → IsManifest m
manifest_at_is tree d m is = by (lookup tree (d ++ manifest_name ∷ [])) is
  where
    by : (o : Option Object) → Met (manifest_in_object o) (Some m) → IsManifest m
    by None is = absurd (not_none m is)
    by (Some Dir) is = absurd (not_none m is)
    by (Some (File bytes)) is = (read_found bytes m is).0

pub lines_ascend : (m : Manifest) → IsManifest m → ascend m.lines ≡ true
unfolding is_manifest are_lines
lines_ascend m is =
    let parts = and_parts (are_attributes m.own) _ is in
    (and_parts (list_all is_line m.lines) (ascend m.lines) parts.1).1

abbrev pub keyed : List Line → List (Name × Line)
keyed lines = map (λ line. (line.name, line)) lines

below_more : (n k : Name) (lines : List Line) → is_lt (name_cmp n k) ≡ true
    → below_all name_cmp k (keyed lines) ≡ true → below_all name_cmp n (keyed lines) ≡ true
below_more n k [] less below = refl
below_more n k (line ∷ lines) less below =
    let parts = and_parts (is_lt (name_cmp k line.name)) (below_all name_cmp k (keyed lines)) below in
    and_from (is_lt (name_cmp n line.name)) (below_all name_cmp n (keyed lines))
    (ap is_lt (nat_list_cmp_total.trans n k line.name (less_is _ less) (less_is _ parts.0)))
    (below_more n k lines less parts.1)

-- lines that ascend are in order by their names
pub lines_sorted : (lines : List Line) → ascend lines ≡ true → is_sorted name_cmp (keyed lines) ≡ true
lines_sorted [] up = refl
lines_sorted (line ∷ []) up = refl
lines_sorted (line ∷ next ∷ lines) up =
    let parts = and_parts (is_lt (name_cmp line.name next.name)) (ascend (next ∷ lines)) up in
    let rest = lines_sorted (next ∷ lines) parts.1 in
    let below = and_parts (below_all name_cmp next.name (keyed lines)) (is_sorted name_cmp (keyed lines))
    rest in
    and_from _ (is_sorted name_cmp (keyed (next ∷ lines)))
    (and_from (is_lt (name_cmp line.name next.name)) (below_all name_cmp line.name (keyed lines)) parts.0
    (below_more line.name next.name lines parts.0 below.0)) rest

-- each line is found by its name
abbrev pub AreNamed : List Line → List Line → Type 0
AreNamed all lines = AllByRecursion (λ l. line_named all l.name ≡ Some l) lines

named_behind : (line : Line) (lines some : List Line) → below_all name_cmp line.name (keyed lines) ≡ true
    → AreNamed lines some → AreNamed (line ∷ lines) some
named_behind line lines [] below named = tt
named_behind line lines (l ∷ some) below named =
    (by (same_name l.name line.name) refl, named_behind line lines some below named.1)
  where
    gone : (n : Name) (rest : List Line) → below_all name_cmp n (keyed rest) ≡ true → line_named rest n ≡ None
    gone n [] below = refl
    gone n (k ∷ rest) below =
        let parts = and_parts (is_lt (name_cmp n k.name)) (below_all name_cmp n (keyed rest)) below in
        ap (λ o. cond (is_eq o) (Some k) (line_named rest n)) (less_is (name_cmp n k.name) parts.0)
        ∙ gone n rest parts.1

    by : (t : Bool) → same_name l.name line.name ≡ t → line_named (line ∷ lines) l.name ≡ Some l
    by true same =
        let here = same_name-equal l.name line.name same in
        let none : line_named lines l.name ≡ None =
        ap (line_named lines) here ∙ gone line.name lines below in
        absurd (true≢false (ap is_some (sym named.0 ∙ none)))
    by false other = ap (λ t. cond t (Some line) (line_named lines l.name)) other ∙ named.0

pub are_named : (lines : List Line) → is_sorted name_cmp (keyed lines) ≡ true → AreNamed lines lines
are_named [] sorted = tt
are_named (line ∷ lines) sorted =
    let parts = and_parts (below_all name_cmp line.name (keyed lines)) (is_sorted name_cmp (keyed lines))
    sorted in (
      ap (λ t. cond t (Some line) (line_named lines line.name)) (same_name-itself line.name),
      named_behind line lines lines parts.0 (are_named lines parts.1),
    )

-- ---- entries

module _ {X : Type 0} where
  -- each entry is found at its path
  abbrev pub Stand : (tree es : List (Path × X)) → Type 0
  Stand tree es = AllByRecursion (λ e. find path_cmp e.0 tree ≡ Some e.1) es

  stand_behind : (e : Path × X) (tree some : List (Path × X)) → below_all path_cmp e.0 tree ≡ true
      → Stand tree some → Stand (e ∷ tree) some
  stand_behind e tree [] below stand = tt
  stand_behind e tree (f ∷ some) below stand =
      (by (same_path f.0 e.0) refl, stand_behind e tree some below stand.1)
    where
      by : (t : Bool) → same_path f.0 e.0 ≡ t → find path_cmp f.0 (e ∷ tree) ≡ Some f.1
      by true same =
          let none : find path_cmp f.0 tree ≡ None =
          ap (λ (p : Path). find path_cmp p tree) (same_path-equal f.0 e.0 same) ∙ absent e.0 tree below in
          absurd (true≢false (ap is_some (sym stand.0 ∙ none)))
      by false other = ap (λ t. cond t (Some e.1) (find path_cmp f.0 tree)) other ∙ stand.0

  pub entries_stand : (tree : List (Path × X)) → is_sorted path_cmp tree ≡ true → Stand tree tree
  entries_stand [] sorted = tt
  entries_stand (e ∷ tree) sorted =
      let parts = and_parts (below_all path_cmp e.0 tree) (is_sorted path_cmp tree) sorted in (
        ap (λ t. cond t (Some e.1) (find path_cmp e.0 tree)) (same_path-itself e.0),
        stand_behind e tree tree parts.0 (entries_stand tree parts.1),
      )
