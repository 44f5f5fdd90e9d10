-- What trees show of which no file is read but manifests.
use Rattle.std.proofs.Common.{◌≡◌, ℕ, Bool, true, false, cond, ◌&&◌, List, [], ◌∷◌, ◌++◌, map, Option, Some, None, refl, sym, ap, ◌∙◌, is_some}
use Rattle.std.specs.Prelude.{option_and_then}
use Rattle.std.specs.Option.{option_map}
use Rattle.std.specs.Ordering.{is_lt}
use Rattle.std.specs.FinMap.{find, is_sorted}
use Rattle.std.specs.FinMap.Entries.{below_all}
use Rattle.nl_types.specs.declared.reply.Object.{Object}
use Rattle.nl_types.specs.declared.reply.Object.TheVariants.{Dir, File}
use Rattle.nl_types.specs.Plain.Paths.{Name, Path, is_name, path_cmp, same_name, same_path}
use Rattle.nl_types.specs.Plain.Trees.{Tree, lookup}
use Rattle.nl_types.specs.Facts.Lookups.{same_name-itself}
use Rattle.nl_types.specs.Facts.TreeLaws.{same_path-equal}
use Rattle.nl_manifests.specs.declared.manifest.LineKind.{LineKind}
use Rattle.nl_manifests.specs.declared.manifest.LineKind.TheVariants as kind
use Rattle.nl_manifests.specs.declared.manifest.Line.{Line}
use Rattle.nl_manifests.specs.declared.manifest.Manifest.{Manifest}
use Rattle.nl_manifests.specs.declared.attributes.Attributes.{Attributes}
use Rattle.nl_manifests.specs.declared.host_tree.HostObject.{HostObject}
use Rattle.nl_manifests.specs.declared.host_tree.HostObject.TheVariants as host
use Rattle.nl_manifests.specs.declared.host_tree.HostEntry.{HostEntry}
use Rattle.nl_manifests.specs.HostTrees.{HostTree, Shows, last_name, line_in, manifest_above, manifest_at, manifest_in_object, manifest_name, parted, shown_at, shown_file, shown_in, shown_link, told_of_link}
use Rattle.nl_manifests.specs.Unread.{unread, unread_at, unread_object}
use Rattle.nl_manifests.proofs.Shown.{parted_ends}

-- ---- entries that are made others at their paths

module _ {X : Type 0} (f : Path → X → X) where
  abbrev pub all_made : List (Path × X) → List (Path × X)
  all_made es = map (λ e. (e.0, f e.0 e.1)) es

  pub found_made : (es : List (Path × X)) (p : Path)
      → find path_cmp p (all_made es) ≡ option_map (f p) (find path_cmp p es)
  found_made [] p = refl
  found_made (e ∷ es) p =
      elim (same_path p e.0) as (λ t. same_path p e.0 ≡ t
      → cond t (Some (f e.0 e.1)) (find path_cmp p (all_made es))
      ≡ option_map (f p) (cond t (Some e.1) (find path_cmp p es))) [
        | true ↦ λ same. ap (λ (q : Path). Some (f q e.1)) (sym (same_path-equal p e.0 same))
        | false ↦ λ _. found_made es p
      ] refl

  below_made : (p : Path) (es : List (Path × X))
      → below_all path_cmp p (all_made es) ≡ below_all path_cmp p es
  below_made p [] = refl
  below_made p (e ∷ es) = ap (λ t. is_lt (path_cmp p e.0) && t) (below_made p es)

  pub sorted_made : (es : List (Path × X)) → is_sorted path_cmp (all_made es) ≡ is_sorted path_cmp es
  sorted_made [] = refl
  sorted_made (e ∷ es) = λ i. below_made e.0 es i && sorted_made es i

-- ---- what is shown

abbrev pub bare_object : Name → HostObject → HostObject
bare_object name host.Directory = host.Directory
bare_object name (host.File bytes) = cond (same_name name manifest_name) (host.File bytes) (host.File [])
bare_object name (host.Link target) = host.Link target

abbrev pub bare_entry : Name → HostEntry → HostEntry
bare_entry name e = record { object = bare_object name e.object; attributes = e.attributes }

abbrev pub bare : Path → HostEntry → HostEntry
bare path e = bare_entry (last_name (parted path)) e

link_bare : (name : Name) (k : LineKind) (a : Attributes)
    → told_of_link k a ≡ option_map (bare_entry name) (told_of_link k a)
link_bare name kind.File a = refl
link_bare name (kind.Link target) a = refl

line_bare : (name : Name) (line : Option Line)
    → ◌≡◌ {A = Option HostEntry} (option_and_then (λ l. told_of_link l.kind l.attributes) line)
    (option_map (bare_entry name) (option_and_then (λ l. told_of_link l.kind l.attributes) line))
line_bare name None = refl
line_bare name (Some l) = link_bare name l.kind l.attributes

file_bare : (name : Name) (bytes given : List ℕ) (line : Option Line) (hidden : Bool)
    → cond (same_name name manifest_name) (host.File bytes) (host.File []) ≡ host.File given
    → ◌≡◌ {A = Option HostEntry} (cond hidden None (Some (shown_file given line)))
    (option_map (bare_entry name) (cond hidden None (Some (shown_file bytes line))))
file_bare name bytes given line true is = refl
file_bare name bytes given line false is =
    ap (λ (n : HostObject). Some (record { object = n; attributes = (shown_file bytes line).attributes }))
    (sym is)

in_bare : (above : Option Manifest) (name : Name) (own : Option Manifest) (o : Option Object)
    → shown_in above name own (option_map (unread_object name) o)
    ≡ option_map (bare_entry name) (shown_in above name own o)
in_bare above name own None = by (is_name name)
  where
    by : (named : Bool)
        → ◌≡◌ {A = Option HostEntry}
        (cond named (option_and_then (λ l. told_of_link l.kind l.attributes) (line_in above name)) None)
        (option_map (bare_entry name)
        (cond named (option_and_then (λ l. told_of_link l.kind l.attributes) (line_in above name)) None))
    by true = line_bare name (line_in above name)
    by false = refl
in_bare above name own (Some Dir) = refl
in_bare above name own (Some (File bytes)) = by (same_name name manifest_name) refl
  where
    by : (same : Bool) → same_name name manifest_name ≡ same
        → shown_in above name own (Some (cond same (File bytes) (File [])))
        ≡ option_map (bare_entry name) (shown_in above name own (Some (File bytes)))
    by true is =
        file_bare name bytes bytes (line_in above name) (is_some above && same_name name manifest_name)
        (ap (λ t. cond t (host.File bytes) (host.File [])) is)
    by false is =
        file_bare name bytes [] (line_in above name) (is_some above && same_name name manifest_name)
        (ap (λ t. cond t (host.File bytes) (host.File [])) is)

module _ (tree : Tree) where
  -- manifests are read
  manifest_same : (dir : Path) → manifest_at (unread tree) dir ≡ manifest_at tree dir
  manifest_same dir =
      ap manifest_in_object (found_made unread_at tree (dir ++ manifest_name ∷ []))
      ∙ by (lookup tree (dir ++ manifest_name ∷ []))
    where
      by : (o : Option Object)
          → manifest_in_object (option_map (unread_at (dir ++ manifest_name ∷ [])) o) ≡ manifest_in_object o
      by None = refl
      by (Some Dir) = refl
      by (Some (File bytes)) =
          ap (λ (p : Option (Path × Name)). manifest_in_object (Some (unread_object (last_name p) (File bytes))))
          (parted_ends dir manifest_name)
          ∙ ap (λ t. manifest_in_object (Some (cond t (File bytes) (File [])))) (same_name-itself manifest_name)

  above_same : (p : Option (Path × Name)) → manifest_above (unread tree) p ≡ manifest_above tree p
  above_same None = refl
  above_same (Some p) = manifest_same p.0

  -- what is shown is the same, but for the bytes of files
  shown_bare : (path : Path) → shown_at (unread tree) path ≡ option_map (bare path) (shown_at tree path)
  shown_bare path =
      let p = parted path in
      (λ i. shown_in (above_same p i) (last_name p) (manifest_same path i) (found_made unread_at tree path i))
      ∙ in_bare (manifest_above tree p) (last_name p) (manifest_at tree path) (lookup tree path)

  pub bare_shows : (shown : HostTree) → Shows tree shown → Shows (unread tree) (all_made bare shown)
  bare_shows shown shows = record {
    ordered = sorted_made bare shown ∙ shows.ordered;
    each = λ p. found_made bare shown p ∙ ap (option_map (bare p)) (shows.each p) ∙ sym (shown_bare p);
  }
