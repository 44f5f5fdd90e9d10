-- What stands at a path after an insert, and that an insert leaves a tree.
use Rattle.std.proofs.Common.{◌≡◌, ◌≢◌, ℕ, ◌+◌, ◌≤◌, Bool, true, false, cond, List, [], ◌∷◌, ◌++◌, length, Some, refl, sym, ap, ◌∙◌, is_some, arith}
use Rattle.std.specs.List.{list_all}
use Rattle.std.proofs.lemmas.Option.{same_Some}
use Rattle.std.specs.Cmp.{IsTotalOrder, Equal-is}
use Rattle.std.specs.Cmp.Lexicographic.{lists_total, nat_list_cmp_total}
use Rattle.std.specs.FinMap.{IsAntisymmetric, nat_cmp-IsAntisymmetric, slice_cmp-IsAntisymmetric}
use Rattle.std.specs.FinMap.Entries.{find-put, is_sorted-put, length-put}
use Rattle.nl_types.specs.declared.reply.Object.{Object}
use Rattle.nl_types.specs.declared.reply.Object.TheVariants.{Dir, File}
use Rattle.nl_types.specs.Plain.Limits.{file_limit, path_limit}
use Rattle.nl_types.specs.Plain.Paths.{Name, Path, path_cmp, same_path, is_name}
use Rattle.nl_types.specs.Plain.Trees.{Tree, IsTree, lookup, insert}
use Rattle.nl_types.specs.Facts.Booleans.{is_true, holds}

-- paths are in a total order
pub path_total : IsTotalOrder path_cmp
path_total = lists_total nat_list_cmp_total

-- only equal paths tie
pub paths_equal : IsAntisymmetric path_cmp
paths_equal = slice_cmp-IsAntisymmetric (slice_cmp-IsAntisymmetric nat_cmp-IsAntisymmetric)

-- paths that the test takes for the same are equal
pub same_path-equal : (p q : Path) → same_path p q ≡ true → p ≡ q
same_path-equal p q h = paths_equal p q ((Equal-is (path_cmp p q)).0 h)

-- an insert changes what stands at one path
pub lookup-insert : (tree : Tree) (path : Path) (object : Object) (q : Path)
    → lookup (insert tree path object) q ≡ cond (same_path q path) (Some object) (lookup tree q)
lookup-insert tree path object q = find-put path_cmp path_total q path object tree

-- where no directory stood at the path of an insert, each directory stays
pub lookup-insert_dir : (tree : Tree) (path : Path) (object : Object) (q : Path) → (lookup tree path ≢ Some Dir)
    → lookup tree q ≡ Some Dir → lookup (insert tree path object) q ≡ Some Dir
lookup-insert_dir tree path object q place dir =
    lookup-insert tree path object q
    ∙ elim (same_path q path) as (λ b. same_path q path ≡ b → cond b (Some object) (lookup tree q) ≡ Some Dir) [
      | true ↦ λ same. absurd (place (ap (lookup tree) (sym (same_path-equal q path same)) ∙ dir))
      | false ↦ λ _. dir
    ] refl

-- an object may be put at a path: below a directory, where no directory stands, and within the limits
pub record MayBePut (tree : Tree) (at : Path) (object : Object) : Type 0 where
  pub above : (path : Path) (name : Name) → path ++ name ∷ [] ≡ at → lookup tree path ≡ Some Dir
  pub place : lookup tree at ≢ Some Dir
  pub spelled : list_all is_name at ≡ true
  pub small : (bytes : List ℕ) → object ≡ File bytes → length bytes ≤ file_limit
  pub room : is_some (lookup tree at) ≡ false → length tree ≤ path_limit

-- such an object leaves a tree
pub IsTree-insert : (tree : Tree) (at : Path) (object : Object) → IsTree tree → MayBePut tree at object
    → IsTree (insert tree at object)
IsTree-insert tree at object t may = record {
  ordered = is_true _ (is_sorted-put path_cmp path_total at object tree (holds _ t.ordered));
  root = lookup-insert_dir tree at object [] may.place t.root;
  parents = λ path name there.
      lookup-insert_dir tree at object path may.place
      (parent path name (sym (ap is_some (lookup-insert tree at object (path ++ name ∷ []))) ∙ there));
  names = λ path there. named path (sym (ap is_some (lookup-insert tree at object path)) ∙ there);
  sizes = λ path bytes is. sized path bytes (sym (lookup-insert tree at object path) ∙ is);
  count =
      counted (is_some (lookup tree at))
      (length-put path_cmp path_total at object tree (holds _ t.ordered)) t.count may.room;
}
  where
    parent : (path : Path) (name : Name)
        → is_some (cond (same_path (path ++ name ∷ []) at) (Some object) (lookup tree (path ++ name ∷ [])))
        ≡ true
        → lookup tree path ≡ Some Dir
    parent path name =
        let below = path ++ name ∷ [] in
        elim (same_path below at) as (λ b.
        same_path below at ≡ b → is_some (cond b (Some object) (lookup tree below)) ≡ true
        → lookup tree path ≡ Some Dir) [
          | true ↦ λ same _. may.above path name (same_path-equal below at same)
          | false ↦ λ _ there. t.parents path name there
        ] refl

    named : (path : Path) → is_some (cond (same_path path at) (Some object) (lookup tree path)) ≡ true
        → list_all is_name path ≡ true
    named path =
        elim (same_path path at) as (λ b.
        same_path path at ≡ b → is_some (cond b (Some object) (lookup tree path)) ≡ true
        → list_all is_name path ≡ true) [
          | true ↦ λ same _. ap (list_all is_name) (same_path-equal path at same) ∙ may.spelled
          | false ↦ λ _ there. t.names path there
        ] refl

    sized : (path : Path) (bytes : List ℕ)
        → cond (same_path path at) (Some object) (lookup tree path) ≡ Some (File bytes)
        → length bytes ≤ file_limit
    sized path bytes =
        elim (same_path path at) as (λ b.
        cond b (Some object) (lookup tree path) ≡ Some (File bytes) → length bytes ≤ file_limit) [
          | true ↦ λ is. may.small bytes (same_Some object (File bytes) is)
          | false ↦ λ is. t.sizes path bytes is
        ]

    counted : (there : Bool) → length (insert tree at object) ≡ cond there (length tree) (length tree + 1)
        → length tree ≤ path_limit + 1 → (there ≡ false → length tree ≤ path_limit)
        → length (insert tree at object) ≤ path_limit + 1
    counted true is fits room = omega (arith, is, fits)
    counted false is fits room = omega (arith, is, room refl)
