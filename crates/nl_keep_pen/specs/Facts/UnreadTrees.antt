-- A tree of which no file is read but manifests is one.
use Rattle.std.proofs.Common.{◌≡◌, ℕ, ◌≤◌, Bool, true, false, cond, ◌&&◌, List, [], ◌∷◌, ◌++◌, map, length, Option, Some, None, refl, sym, ap, ◌∙◌, subst, is_some, arith}
use Rattle.std.proofs.lemmas.List.{length-map}
use Rattle.std.specs.Option.{option_map}
use Rattle.std.specs.Ordering.{is_lt}
use Rattle.std.specs.FinMap.{find, is_sorted}
use Rattle.std.specs.FinMap.Entries.{below_all}
use Rattle.nl_types.specs.declared.reply.Object.{Object}
use Rattle.nl_types.specs.declared.reply.Object.TheVariants.{Dir, File}
use Rattle.nl_types.specs.Plain.Limits.{file_limit}
use Rattle.nl_types.specs.Plain.Paths.{Name, Path, path_cmp, same_name, same_path}
use Rattle.nl_types.specs.Plain.Trees.{Tree, IsIn, IsTree, lookup}
use Rattle.nl_types.specs.Facts.TreeLaws.{same_path-equal}
use Rattle.nl_manifests.specs.HostTrees.{last_name, manifest_name, parted}
use Rattle.nl_manifests.specs.Unread.{unread, unread_at, unread_object}

-- ---- entries that are made others at their paths

module _ {X : Type 0} (f : Path → X → X) where
  abbrev pub all_made : List (Path × X) → List (Path × X)
  all_made es = map (λ e. (e.0, f e.0 e.1)) es

  pub found_made : (es : List (Path × X)) (p : Path)
      → find path_cmp p (all_made es) ≡ option_map (f p) (find path_cmp p es)
  found_made [] p = refl
  found_made (e ∷ es) p =
      elim (same_path p e.0) as (λ t. same_path p e.0 ≡ t
      → cond t (Some (f e.0 e.1)) (find path_cmp p (all_made es))
      ≡ option_map (f p) (cond t (Some e.1) (find path_cmp p es))) [
        | true ↦ λ same. ap (λ (q : Path). Some (f q e.1)) (sym (same_path-equal p e.0 same))
        | false ↦ λ _. found_made es p
      ] refl

  below_made : (p : Path) (es : List (Path × X))
      → below_all path_cmp p (all_made es) ≡ below_all path_cmp p es
  below_made p [] = refl
  below_made p (e ∷ es) = ap (λ t. is_lt (path_cmp p e.0) && t) (below_made p es)

  pub sorted_made : (es : List (Path × X)) → is_sorted path_cmp (all_made es) ≡ is_sorted path_cmp es
  sorted_made [] = refl
  sorted_made (e ∷ es) = λ i. below_made e.0 es i && sorted_made es i

-- ---- what stands at a path

-- the same stands there, but for the bytes of a file
pub found_unread : (tree : Tree) (path : Path)
    → lookup (unread tree) path ≡ option_map (unread_at path) (lookup tree path)
found_unread tree path = found_made unread_at tree path

-- what is one for all files is the same without their bytes
pub same_unread : {X : Type 0} (f : Option Object → X)
    → ((a b : List ℕ) → f (Some (File a)) ≡ f (Some (File b))) → (name : Name) (o : Option Object)
    → f (option_map (unread_object name) o) ≡ f o
same_unread f one name None = refl
same_unread f one name (Some Dir) = refl
same_unread f one name (Some (File bytes)) =
    elim (same_name name manifest_name) as (λ t.
    f (Some (cond t (File bytes) (File []))) ≡ f (Some (File bytes)))
    [ true ↦ refl | false ↦ one [] bytes ]

-- a path leads to something in both, or in none
pub in_whole : (tree : Tree) (path : Path) → IsIn (unread tree) path → IsIn tree path
in_whole tree path there =
    sym (ap is_some (found_unread tree path)
    ∙ same_unread is_some (λ a b. refl) (last_name (parted path)) (lookup tree path))
    ∙ there

-- ---- trees

small : (name : Name) (o : Option Object) (bytes : List ℕ)
    → ((b : List ℕ) → o ≡ Some (File b) → length b ≤ file_limit)
    → option_map (unread_object name) o ≡ Some (File bytes) → length bytes ≤ file_limit
small name None bytes fits is = let no : ◌≡◌ {A = Option Object} None (Some (File bytes)) = is in cc
small name (Some Dir) bytes fits is =
    let no : ◌≡◌ {A = Option Object} (Some Dir) (Some (File bytes)) = is in cc
small name (Some (File b)) bytes fits is = by (same_name name manifest_name) is
  where
    by : (t : Bool) → ◌≡◌ {A = Option Object} (Some (cond t (File b) (File []))) (Some (File bytes))
        → length bytes ≤ file_limit
    by true is = let same : b ≡ bytes = cc in subst (λ (x : List ℕ). length x ≤ file_limit) same (fits b refl)
    by false is =
        let same : ◌≡◌ {A = List ℕ} [] bytes = cc in
        subst (λ (x : List ℕ). length x ≤ file_limit) same (omega arith)

pub unread_is_tree : (tree : Tree) → IsTree tree → IsTree (unread tree)
unread_is_tree tree t = record {
  ordered = sorted_made unread_at tree ∙ t.ordered;
  root = directory [] t.root;
  parents = λ path name there.
      directory path (t.parents path name (in_whole tree (path ++ name ∷ []) there));
  names = λ path there. t.names path (in_whole tree path there);
  sizes = λ path bytes is.
      small (last_name (parted path)) (lookup tree path) bytes (t.sizes path)
      (sym (found_unread tree path) ∙ is);
  count = omega (arith, length-map {B = Path × Object} tree (λ (e : Path × Object). (e.0, unread_at e.0 e.1)), t.count);
}
  where
    directory : (path : Path) → lookup tree path ≡ Some Dir → lookup (unread tree) path ≡ Some Dir
    directory path is = found_unread tree path ∙ ap (option_map (unread_at path)) is
