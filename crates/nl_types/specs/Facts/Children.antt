-- The names in a directory, by what stands at their paths.
use Rattle.std.specs.Prelude.{◌≡◌, Bool, true, false, cond, nat_lt, List, [], ◌∷◌, ◌++◌, length, Option, Some, None, refl}
use Rattle.std.specs.List.{cons_option}
use Rattle.std.specs.Option.{option_map}
use Rattle.std.specs.declared.cmp.Ordering.{Ordering}
use Rattle.std.specs.declared.cmp.Ordering.TheVariants.{Less, Equal, Greater}
use Rattle.std.specs.Ordering.{is_eq, is_lt, ordering_then}
use Rattle.std.specs.FinMap.{find, is_sorted}
use Rattle.std.specs.FinMap.Entries.{below_all}
use Rattle.std.proofs.Common.{sym, ◌∙◌, ap, subst, T, arith}
use Rattle.std.proofs.lemmas.Bool.{lt-ltb}
use Rattle.nl_types.specs.declared.kind.Kind.{Kind}
use Rattle.nl_types.specs.declared.reply.Object.{Object}
use Rattle.nl_types.specs.Plain.Paths.{Name, Path, name_cmp, path_cmp, same_name, same_path}
use Rattle.nl_types.specs.Plain.Trees.{Tree, lookup, children, name_below, object_kind}
use Rattle.nl_types.specs.Plain.Calls.{has_names}
use Rattle.nl_types.specs.Facts.TreeLaws.{same_path-equal}
use Rattle.nl_types.specs.Facts.Lookups.{path_cmp-append, same_name-itself, same_name-equal}
use Rattle.nl_types.specs.Facts.Booleans.{not_true, both, first, second}

-- ---- names right below a directory

name_below-itself : (dir : Path) (n : Name) → name_below dir (dir ++ n ∷ []) ≡ Some n
name_below-itself [] n = refl
name_below-itself (m ∷ dir) n =
    ap (λ b. cond b (name_below dir (dir ++ n ∷ [])) None) (same_name-itself m) ∙ name_below-itself dir n

name_below-is : (dir path : Path) (n : Name) → name_below dir path ≡ Some n → path ≡ dir ++ n ∷ []
name_below-is [] [] n e = cc
name_below-is [] (m ∷ []) n e = let k : m ≡ n = cc in ap (λ (x : Name). x ∷ []) k
name_below-is [] (m ∷ k ∷ path) n e = cc
name_below-is (m ∷ dir) [] n e = cc
name_below-is (m ∷ dir) (k ∷ path) n e =
    elim (same_name m k) as (λ b.
    same_name m k ≡ b → cond b (name_below dir path) None ≡ Some n → k ∷ path ≡ m ∷ (dir ++ n ∷ [])) [
      | true ↦ λ same is.
          let first = sym (same_name-equal m k same) in
          let rest = name_below-is dir path n is in
          λ i. first i ∷ rest i
      | false ↦ λ _ is. cc
    ] refl e

-- two children are in the order of their names
then_equal : (r : Ordering) → ordering_then r Equal ≡ r
then_equal Less = refl
then_equal Equal = refl
then_equal Greater = refl

child_cmp : (dir : Path) (n m : Name) → path_cmp (dir ++ n ∷ []) (dir ++ m ∷ []) ≡ name_cmp n m
child_cmp dir n m = path_cmp-append dir (n ∷ []) (m ∷ []) ∙ then_equal (name_cmp n m)

-- ---- look-ups

abbrev shown : Path → Path × Object → Option (Name × Kind)
shown dir e = option_map (λ name. (name, object_kind e.1)) (name_below dir e.0)

mapped_cond : (b : Bool) (x : Object) (o : Option Object)
    → option_map object_kind (cond b (Some x) o) ≡ cond b (Some (object_kind x)) (option_map object_kind o)
mapped_cond true x o = refl
mapped_cond false x o = refl

pub find-children : (tree : Tree) (dir : Path) (n : Name)
    → find name_cmp n (children tree dir) ≡ option_map object_kind (lookup tree (dir ++ n ∷ []))
find-children [] dir n = refl
find-children (e ∷ tree) dir n =
    let rest = find-children tree dir n in
    elim (name_below dir e.0) as (λ o. name_below dir e.0 ≡ o
    → find name_cmp n
    (cons_option (option_map {U = Name × Kind} (λ name. (name, object_kind e.1)) o) (children tree dir))
    ≡ option_map object_kind (cond (same_path (dir ++ n ∷ []) e.0) (Some e.1) (lookup tree (dir ++ n ∷ [])))) [
      | None ↦ λ none.
          let other = not_true (same_path (dir ++ n ∷ []) e.0) (λ same.
          let k : None ≡ Some n =
          sym none ∙ ap (name_below dir) (sym (same_path-equal (dir ++ n ∷ []) e.0 same))
          ∙ name_below-itself dir n in
          cc) in
          rest ∙ sym (ap (λ b. option_map object_kind (cond b (Some e.1) (lookup tree (dir ++ n ∷ [])))) other)
      | Some m ↦ λ some.
          let test : same_path (dir ++ n ∷ []) e.0 ≡ same_name n m =
          ap (same_path (dir ++ n ∷ [])) (name_below-is dir e.0 m some) ∙ ap is_eq (child_cmp dir n m) in
          ap (cond (same_name n m) (Some (object_kind e.1))) rest
          ∙ sym (mapped_cond (same_name n m) e.1 (lookup tree (dir ++ n ∷ [])))
          ∙ sym (ap (λ b. option_map object_kind (cond b (Some e.1) (lookup tree (dir ++ n ∷ [])))) test)
    ] refl

-- what is found in a directory is among its names
pub listed : (tree : Tree) (dir : Path) (name : Name) (object : Object)
    → lookup tree (dir ++ name ∷ []) ≡ Some object → has_names tree dir ≡ true
listed tree dir name object is =
    some (children tree dir) (find-children tree dir name ∙ ap (option_map object_kind) is)
  where
    some : (names : List (Name × Kind)) → find name_cmp name names ≡ Some (object_kind object)
        → nat_lt 0 (length names) ≡ true
    some [] e = cc
    some (n ∷ names) e = lt-ltb 0 (length (n ∷ names)) (omega arith)

-- ---- order

below_children : (tree : Tree) (dir : Path) (n : Name) → T (below_all path_cmp (dir ++ n ∷ []) tree)
    → T (below_all name_cmp n (children tree dir))
below_children [] dir n h = tt
below_children (e ∷ tree) dir n h =
    let rest = below_children tree dir n (second _ _ h) in
    elim (name_below dir e.0) as (λ o.
    name_below dir e.0 ≡ o
    → T (below_all name_cmp n
    (cons_option (option_map {U = Name × Kind} (λ name. (name, object_kind e.1)) o) (children tree dir)))) [
      | None ↦ λ none. rest
      | Some m ↦ λ some.
          let less : is_lt (path_cmp (dir ++ n ∷ []) e.0) ≡ is_lt (name_cmp n m) =
          ap (λ p. is_lt (path_cmp (dir ++ n ∷ []) p)) (name_below-is dir e.0 m some)
          ∙ ap is_lt (child_cmp dir n m) in
          both _ _ (subst T less (first _ _ h)) rest
    ] refl

pub children-sorted : (tree : Tree) (dir : Path) → T (is_sorted path_cmp tree)
    → T (is_sorted name_cmp (children tree dir))
children-sorted [] dir h = tt
children-sorted (e ∷ tree) dir h =
    let rest = children-sorted tree dir (second _ _ h) in
    elim (name_below dir e.0) as (λ o.
    name_below dir e.0 ≡ o
    → T (is_sorted name_cmp
    (cons_option (option_map {U = Name × Kind} (λ name. (name, object_kind e.1)) o) (children tree dir)))) [
      | None ↦ λ none. rest
      | Some m ↦
          λ some.
          both _ _ (below_children tree dir m
          (subst (λ p. T (below_all path_cmp p tree)) (name_below-is dir e.0 m some) (first _ _ h)))
          rest
    ] refl
