-- A sealed tree within the limits is a tree.
use Rattle.std.proofs.Common.{◌≡◌, ◌⊎◌, ℕ, zero, suc, ◌+◌, ◌≤◌, true, false, cond, [], ◌∷◌, ◌++◌, length, Option, Some, None, refl, sym, ap, ◌∙◌, true≢false, is_some, inl, inr, length-append, arith}
use Rattle.std.specs.Prelude.{nat_le}
use Rattle.std.specs.List.{list_all}
use Rattle.std.specs.FinMap.{find}
use Rattle.std.proofs.lemmas.Bool.{and_parts, and_from, leb-true}
use Rattle.nl_types.specs.declared.reply.Object.TheVariants.{Dir, File}
use Rattle.nl_types.specs.Plain.Limits.{file_limit, path_limit}
use Rattle.nl_types.specs.Plain.Paths.{Name, Path, is_name, path_cmp, same_name}
use Rattle.nl_types.specs.Plain.Trees.{IsTree, Tree, lookup}
use Rattle.nl_types.specs.Facts.Lookups.{same_name-equal}
use Rattle.nl_manifests.specs.declared.manifest.Manifest.{Manifest}
use Rattle.nl_manifests.specs.declared.host_tree.HostEntry.{HostEntry}
use Rattle.nl_manifests.specs.HostTrees.{HostTree, manifest_name}
use Rattle.nl_manifests.specs.Manifests.{printed}
use Rattle.nl_manifests.specs.Sealed.{IsSealed, is_directory, is_host_tree, is_small, is_within_limits, manifest_of, own_object, sealed_in}
use Rattle.nl_manifests.proofs.SealedTrees.{all_found, directory_object, has_manifest, own_stands, root_is, root_there, sealed_below, stands}
use Rattle.nl_manifests.proofs.Shown.{ending_of}

module _ (shown : HostTree) (whole : is_host_tree shown ≡ true) (tree : Tree) (made : IsSealed shown tree) where
  -- a directory of the host is one
  directory_there : (dir : Path) (e : HostEntry) → find path_cmp dir shown ≡ Some e → is_directory e.object ≡ true
      → lookup tree dir ≡ Some Dir
  directory_there dir e found is = made.each dir ∙ own_stands shown whole dir e found ∙ directory_object e.object is

  root_dir : lookup tree [] ≡ Some Dir
  root_dir = by (find path_cmp [] shown) refl
    where
      by : (o : Option HostEntry) → find path_cmp [] shown ≡ o → lookup tree [] ≡ Some Dir
      by None there = absurd (true≢false (sym (root_there shown whole) ∙ ap is_some there))
      by (Some e) there = directory_there [] e there (root_is shown whole e there)

  -- what stands below a directory stands in one, under a name
  abbrev IsBelow : Path → Name → Type 0
  IsBelow dir name = (lookup tree dir ≡ Some Dir) × (is_name name ≡ true)

  below : (dir : Path) (name : Name) → is_some (lookup tree (dir ++ name ∷ [])) ≡ true → IsBelow dir name
  below dir name there =
      by (manifest_of shown dir) refl
      (sym (ap is_some (made.each (dir ++ name ∷ []) ∙ sealed_below shown whole dir name)) ∙ there)
    where
      own : (o : Option HostEntry) → find path_cmp (dir ++ name ∷ []) shown ≡ o → is_some (own_object o) ≡ true
          → IsBelow dir name
      own None found some = absurd (true≢false (sym some))
      own (Some e) found some =
          let s = stands shown whole dir name e found in
          (directory_there dir s.above s.found s.directory, s.named)

      by : (k : Option Manifest) → manifest_of shown dir ≡ k
          → is_some (sealed_in k name (find path_cmp (dir ++ name ∷ []) shown)) ≡ true → IsBelow dir name
      by None is some = own (find path_cmp (dir ++ name ∷ []) shown) refl some
      by (Some m) is some =
          elim (same_name name manifest_name) as (λ t. same_name name manifest_name ≡ t
          → is_some (cond t (Some (File (printed m))) (own_object (find path_cmp (dir ++ name ∷ []) shown))) ≡ true
          → IsBelow dir name) [
            | true ↦ λ same _.
                let h = has_manifest shown whole dir m is in (
                  directory_there dir h.entry h.found h.directory,
                  ap is_name (same_name-equal name manifest_name same),
                )
            | false ↦ λ _ here. own (find path_cmp (dir ++ name ∷ []) shown) refl here
          ] refl some

  -- all names of a path are
  ended_names : (dir : Path) (name : Name) → list_all is_name dir ≡ true → is_name name ≡ true
      → list_all is_name (dir ++ name ∷ []) ≡ true
  ended_names [] name all is = and_from (is_name name) true is refl
  ended_names (n ∷ dir) name all is =
      let parts = and_parts (is_name n) (list_all is_name dir) all in
      and_from (is_name n) (list_all is_name (dir ++ name ∷ [])) parts.0 (ended_names dir name parts.1 is)

  names_by : (k : ℕ) (path : Path) → length path ≤ k → is_some (lookup tree path) ≡ true
      → list_all is_name path ≡ true
  names_by zero [] few there = refl
  names_by zero (n ∷ path) few there = absurd (omega arith)
  names_by (suc k) path few there = by (names_by k) (ending_of path)
    where
      by : ((p : Path) → length p ≤ k → is_some (lookup tree p) ≡ true → list_all is_name p ≡ true)
          → (path ≡ []) ⊎ ((dir : Path) × (name : Name) × (path ≡ dir ++ name ∷ []))
          → list_all is_name path ≡ true
      by shorter (inl none) = ap (list_all is_name) none
      by shorter (inr some) =
          let counted : length path ≡ length some.0 + 1 = ap length some.2 ∙ length-append some.0 (some.1 ∷ []) in
          let b = below some.0 some.1 (ap (λ (p : Path). is_some (lookup tree p)) (sym some.2) ∙ there) in
          ap (list_all is_name) some.2
          ∙ ended_names some.0 some.1
          (shorter some.0 (omega (arith, few, counted)) (ap is_some b.0)) b.1

  pub is_tree : is_within_limits tree ≡ true → IsTree tree
  is_tree within =
      let parts =
      and_parts (nat_le (length tree) (path_limit + 1)) (list_all (λ e. is_small e.1) tree) within in
      record {
        ordered = made.ordered;
        root = root_dir;
        parents = λ path name there. (below path name there).0;
        names = λ path there. names_by (length path) path (omega arith) there;
        sizes = λ path bytes has.
            fits (length bytes) file_limit
            (all_found (λ e. is_small e.1) tree path (File bytes) parts.1 has);
        count = fits (length tree) (path_limit + 1) parts.0;
      }
    where
      fits : (n limit : ℕ) → nat_le n limit ≡ true → n ≤ limit
      fits n limit is = leb-true n limit is
