-- What lies at and below the root of a tree that shows something.
use Rattle.std.proofs.Common.{◌≡◌, Bool, true, false, not, cond, [], ◌∷◌, Option, Some, None, refl, sym, ap, ◌∙◌, true≢false}
use Rattle.std.proofs.lemmas.Bool.{and_parts}
use Rattle.std.proofs.lemmas.Option.{same_Some}
use Rattle.std.specs.Ordering.{is_lt}
use Rattle.std.specs.FinMap.{find, is_sorted}
use Rattle.std.specs.FinMap.Entries.{below_all}
use Rattle.nl_types.specs.Plain.Paths.{Path, path_cmp, same_path}
use Rattle.nl_types.specs.Facts.TreeLaws.{same_path-equal}
use Rattle.nl_folders.specs.Parts.{part_below}
use Rattle.nl_manifests.specs.declared.host_tree.HostEntry.{HostEntry}
use Rattle.nl_manifests.specs.HostTrees.{HostTree, manifest_at, shown_directory, shown_in}
use Rattle.nl_manifests.specs.Sealed.{is_directory}
use Rattle.nl_pins.specs.Trees.{without_pins}
use Rattle.nl_shown.specs.Kept.{RootsHaveAll}
use Rattle.nl_shown.specs.Parts.{name_of, stands_alone, standing}
use Rattle.nl_shown.specs.Reverted.{IsInOrder}
use Rattle.nl_shown.proofs.Apart.{pinless_is_tree}

below_root : (tree : HostTree) → part_below tree [] ≡ tree
below_root [] = refl
below_root (e ∷ tree) = ap (λ (t : HostTree). e ∷ t) (below_root tree)

stands : (tree : HostTree) → stands_alone tree ≡ false → standing [] tree ≡ tree
stands [] folder = refl
stands (e ∷ tree) folder = by (is_directory e.1.object) folder
  where
    by : (b : Bool) → not b ≡ false
        → cond {A = HostTree} b (e ∷ tree) ((name_of [], e.1) ∷ []) ≡ e ∷ tree
    by true is = refl
    by false is = absurd (true≢false is)

-- what is below all paths is below each that is found
below_found : (k q : Path) (es : HostTree) (d : HostEntry) → below_all path_cmp k es ≡ true
    → find path_cmp q es ≡ Some d → is_lt (path_cmp k q) ≡ true
below_found k q [] d below is = let no : ◌≡◌ {A = Option HostEntry} None (Some d) = is in cc
below_found k q (e ∷ es) d below is =
    let parts = and_parts (is_lt (path_cmp k e.0)) (below_all path_cmp k es) below in
    elim (same_path q e.0) as (λ b. same_path q e.0 ≡ b → cond b (Some e.1) (find path_cmp q es) ≡ Some d
    → is_lt (path_cmp k q) ≡ true) [
      | true ↦ λ same _. ap (λ (p : Path). is_lt (path_cmp k p)) (same_path-equal q e.0 same) ∙ parts.0
      | false ↦ λ _ rest. below_found k q es d parts.1 rest
    ] refl is

-- nothing comes before the root
none_before : (k : Path) → is_lt (path_cmp k []) ≡ false
none_before [] = refl
none_before (n ∷ k) = refl

root_first : (shown : HostTree) (d : HostEntry) → IsInOrder shown → find path_cmp [] shown ≡ Some d
    → is_directory d.object ≡ true → stands_alone shown ≡ false
root_first [] d sorted is folder = refl
root_first (e ∷ es) d sorted is folder =
    let parts = and_parts (below_all path_cmp e.0 es) (is_sorted path_cmp es) sorted in
    elim (same_path [] e.0) as (λ b. cond b (Some e.1) (find path_cmp [] es) ≡ Some d
    → not (is_directory e.1.object) ≡ false) [
      | true ↦ λ here.
          ap (λ (x : HostEntry). not (is_directory x.object)) (same_Some e.1 d here) ∙ ap not folder
      | false ↦ λ rest.
          absurd (true≢false (sym (below_found e.0 [] es d parts.0 rest) ∙ none_before e.0))
    ] is

pub roots_have_all : RootsHaveAll
roots_have_all tree shown is shows =
    let t = without_pins tree in
    let root : find path_cmp [] shown ≡ Some (shown_directory (manifest_at t [])) =
    shows.each [] ∙ ap (shown_in None [] (manifest_at t [])) (pinless_is_tree tree is).root in
    ap (standing []) (below_root shown)
    ∙ stands shown (root_first shown (shown_directory (manifest_at t [])) shows.ordered root refl)
