-- Trees without the file of pins.
use Rattle.std.proofs.Common.{◌≡◌, ◌≤◌, Bool, true, false, cond, not, List, [], ◌∷◌, ◌++◌, length, Option, Some, None, refl, sym, ap, ◌∙◌, is_some, true≢false, arith}
use Rattle.std.proofs.lemmas.List.Filters.{length-filter_both}
use Rattle.std.specs.FinMap.{find, is_sorted}
use Rattle.std.specs.FinMap.Entries.{find-where_key, is_sorted-where_key}
use Rattle.nl_types.specs.declared.reply.Object.{Object}
use Rattle.nl_types.specs.declared.reply.Object.TheVariants.{Dir, File}
use Rattle.nl_types.specs.Plain.Paths.{Name, Path, path_cmp}
use Rattle.nl_types.specs.Plain.Trees.{Tree, IsIn, IsTree, lookup}
use Rattle.nl_types.specs.Facts.Booleans.{holds, is_true}
use Rattle.nl_types.specs.Facts.TakenOut.{turned}
use Rattle.nl_types.specs.Facts.TreeLaws.{paths_equal}
use Rattle.nl_folders.specs.Differences.{DifferencesAreExact, difference_of, differences}
use Rattle.nl_manifests.specs.HostDifferences.{is_of_bytes, told_by}
use Rattle.nl_manifests.specs.Unread.{unread, unread_at}
use Rattle.nl_pins.specs.Trees.{is_of_pins, without_pins}

-- ---- entries

pub found_pinless : {X : Type 0} (es : List (Path × X)) (p : Path)
    → find path_cmp p (without_pins es) ≡ cond (is_of_pins p) None (find path_cmp p es)
found_pinless es p =
    find-where_key path_cmp (λ x. not (is_of_pins x)) p
    (λ x tied. ap (λ (q : Path). not (is_of_pins q)) (sym (paths_equal p x tied))) es
    ∙ turned (is_of_pins p) (find path_cmp p es) None

pub sorted_pinless : {X : Type 0} (es : List (Path × X)) → is_sorted path_cmp es ≡ true
    → is_sorted path_cmp (without_pins es) ≡ true
sorted_pinless es sorted =
    is_true _ (is_sorted-where_key path_cmp (λ x. not (is_of_pins x)) es (holds _ sorted))

pub unread_pinless : (tree : Tree) → without_pins (unread tree) ≡ unread (without_pins tree)
unread_pinless [] = refl
unread_pinless (e ∷ tree) =
    elim (is_of_pins e.0) as (λ b.
    cond (not b) ((e.0, unread_at e.0 e.1) ∷ without_pins (unread tree)) (without_pins (unread tree))
    ≡ unread (cond (not b) (e ∷ without_pins tree) (without_pins tree))) [
      | true ↦ unread_pinless tree
      | false ↦ ap (λ (t : Tree). (e.0, unread_at e.0 e.1) ∷ t) (unread_pinless tree)
    ]

-- ---- trees

module _ (tree : Tree) where
  in_all : (path : Path) (o : Object) → lookup (without_pins tree) path ≡ Some o
      → (is_of_pins path ≡ false) × (lookup tree path ≡ Some o)
  in_all path o is =
      elim (is_of_pins path) as (λ b. is_of_pins path ≡ b → cond b None (lookup tree path) ≡ Some o
      → (is_of_pins path ≡ false) × (lookup tree path ≡ Some o)) [
        | true ↦ λ _ none. let no : ◌≡◌ {A = Option Object} None (Some o) = none in cc
        | false ↦ λ other found. (other, found)
      ] refl (sym (found_pinless tree path) ∙ is)

  is_in_all : (path : Path) → IsIn (without_pins tree) path → (is_of_pins path ≡ false) × IsIn tree path
  is_in_all path there =
      elim (is_of_pins path) as (λ b. is_of_pins path ≡ b → is_some (cond b None (lookup tree path)) ≡ true
      → (is_of_pins path ≡ false) × IsIn tree path) [
        | true ↦ λ _ none. absurd (true≢false (sym none))
        | false ↦ λ other found. (other, found)
      ] refl (sym (ap is_some (found_pinless tree path)) ∙ there)

  still_found : (path : Path) (o : Object) → is_of_pins path ≡ false → lookup tree path ≡ Some o
      → lookup (without_pins tree) path ≡ Some o
  still_found path o other is =
      found_pinless tree path ∙ ap (λ b. cond b None (lookup tree path)) other ∙ is

  above_other : (path : Path) (name : Name) → is_of_pins (path ++ name ∷ []) ≡ false
      → is_of_pins path ≡ false
  above_other [] name other = refl
  above_other (n ∷ path) name other = other

  fewer : length (without_pins tree) ≤ length tree
  fewer =
      let both =
      length-filter_both (λ (e : Path × Object). not (is_of_pins e.0))
      (λ (e : Path × Object). not (not (is_of_pins e.0))) (λ x. refl) tree in
      omega (arith, both)

  pub pinless_is_tree : IsTree tree → IsTree (without_pins tree)
  pinless_is_tree t = record {
    ordered = sorted_pinless tree t.ordered;
    root = still_found [] Dir refl t.root;
    parents = λ path name there.
        let whole = is_in_all (path ++ name ∷ []) there in
        still_found path Dir (above_other path name whole.0) (t.parents path name whole.1);
    names = λ path there. t.names path (is_in_all path there).1;
    sizes = λ path bytes is. t.sizes path bytes (in_all path (File bytes) is).1;
    count = omega (arith, fewer, t.count);
  }

-- ---- differences

differ_pinless : (b : Bool) (one other : Option Object)
    → cond b None (difference_of one other) ≡ difference_of (cond b None one) (cond b None other)
differ_pinless true one other = refl
differ_pinless false one other = refl

-- what differs between two trees, but for pins, tells which other files have other bytes
pub told_pinless : DifferencesAreExact → (old new : Tree) → is_sorted path_cmp old ≡ true
    → is_sorted path_cmp new ≡ true
    → told_by (without_pins (differences old new)) ≡ told_by (differences (without_pins old) (without_pins new))
told_pinless exact old new s t = λ i path one other. is_of_bytes (at path i)
  where
    at : (path : Path)
        → find path_cmp path (without_pins (differences old new))
        ≡ find path_cmp path (differences (without_pins old) (without_pins new))
    at path =
        found_pinless (differences old new) path
        ∙ ap (cond (is_of_pins path) None) (exact old new s t path)
        ∙ differ_pinless (is_of_pins path) (lookup old path) (lookup new path)
        ∙ (λ i. difference_of (sym (found_pinless old path) i) (sym (found_pinless new path) i))
        ∙ sym (exact (without_pins old) (without_pins new) (sorted_pinless old s) (sorted_pinless new t) path)
