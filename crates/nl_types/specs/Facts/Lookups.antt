-- What stands at a path after a removal and a rename.
use Rattle.std.proofs.Common.{◌≡◌, Bool, true, false, not, cond, List, [], ◌∷◌, ◌++◌, map, length, drop, Option, Some, None, refl, sym, ap, true≢false, ◌∙◌, subst}
use Rattle.std.proofs.lemmas.Bool.{and_parts, and_from}
use Rattle.std.specs.List.{filter}
use Rattle.std.specs.Ordering.{is_eq, ordering_then}
use Rattle.std.specs.Cmp.{tied_itself, alike_right, Equal-is}
use Rattle.std.specs.Cmp.Lexicographic.{nat_list_cmp_total}
use Rattle.std.specs.FinMap.{find, IsAntisymmetric, nat_cmp-IsAntisymmetric, slice_cmp-IsAntisymmetric}
use Rattle.std.specs.FinMap.Entries.{find-where_key}
use Rattle.nl_types.specs.declared.reply.Object.{Object}
use Rattle.nl_types.specs.Plain.Paths.{Name, Path, name_cmp, path_cmp, same_name, same_path, is_within}
use Rattle.nl_types.specs.Plain.Trees.{Tree, lookup, remove, move_subtree, moved_path, in_order}
use Rattle.nl_types.specs.Facts.Booleans.{not_true}
use Rattle.nl_types.specs.Facts.TreeLaws.{path_total, same_path-equal, lookup-insert}

pub names_equal : IsAntisymmetric name_cmp
names_equal = slice_cmp-IsAntisymmetric nat_cmp-IsAntisymmetric

pub same_name-itself : (n : Name) → same_name n n ≡ true
same_name-itself n = ap is_eq (tied_itself nat_list_cmp_total n)

pub same_path-itself : (p : Path) → same_path p p ≡ true
same_path-itself p = ap is_eq (tied_itself path_total p)

pub same_name-equal : (n m : Name) → same_name n m ≡ true → n ≡ m
same_name-equal n m h = names_equal n m ((Equal-is (name_cmp n m)).0 h)

-- two paths that a test tells apart
pub apart_by : (P : Path → Bool) (p q : Path) → P p ≡ true → P q ≡ false → same_path p q ≡ false
apart_by P p q holds fails =
    not_true (same_path p q) (λ e. true≢false (sym holds ∙ ap P (same_path-equal p q e) ∙ fails))

-- ---- paths that begin with others

pub is_within-append : (top rest : Path) → is_within top (top ++ rest) ≡ true
is_within-append [] rest = refl
is_within-append (n ∷ top) rest = rw (same_name-itself n) (is_within-append top rest)

pub within_is : (top path : Path) → is_within top path ≡ true → path ≡ top ++ drop (length top) path
within_is [] path h = refl
within_is (n ∷ top) [] h = absurd (true≢false (sym h))
within_is (n ∷ top) (m ∷ path) h =
    let parts = and_parts (same_name n m) (is_within top path) h in
    let names = sym (same_name-equal n m parts.0) in
    let rest = within_is top path parts.1 in
    λ i. names i ∷ rest i

-- of two paths with which a third begins, one begins with the other
pub within_both : (a b path : Path) → is_within a path ≡ true → is_within b path ≡ true
    → is_within a b ≡ false → is_within b a ≡ true
within_both [] b path in_a in_b apart = absurd (true≢false apart)
within_both (n ∷ a) [] path in_a in_b apart = refl
within_both (n ∷ a) (m ∷ b) [] in_a in_b apart = absurd (true≢false (sym in_a))
within_both (n ∷ a) (m ∷ b) (x ∷ path) in_a in_b apart =
    let first = and_parts (same_name n x) (is_within a path) in_a in
    let second = and_parts (same_name m x) (is_within b path) in_b in
    let names : n ≡ m = same_name-equal n x first.0 ∙ sym (same_name-equal m x second.0) in
    let same : same_name n m ≡ true = subst (λ y. same_name n y ≡ true) names (same_name-itself n) in
    let back : same_name m n ≡ true = subst (λ y. same_name m y ≡ true) (sym names) (same_name-itself m) in
    and_from (same_name m n) (is_within b a) back (within_both a b path first.1 second.1 (rw same at apart))

-- ---- look-ups

turned : {A : Type 0} (b : Bool) (x y : A) → cond (not b) x y ≡ cond b y x
turned true x y = refl
turned false x y = refl

pub lookup-remove : (tree : Tree) (path q : Path)
    → lookup (remove tree path) q ≡ cond (same_path path q) None (lookup tree q)
lookup-remove tree path q =
    find-where_key path_cmp (λ x. not (same_path path x)) q
    (λ x tied. ap (λ r. not (is_eq r)) (sym (alike_right path_total q x path tied))) tree
    ∙ turned (same_path path q) (lookup tree q) None

pub lookup-in_order : (entries : List (Path × Object)) (q : Path)
    → lookup (in_order entries) q ≡ find path_cmp q entries
lookup-in_order [] q = refl
lookup-in_order (e ∷ entries) q =
    lookup-insert (in_order entries) e.0 e.1 q
    ∙ ap (cond (same_path q e.0) (Some e.1)) (lookup-in_order entries q)

-- ---- a rename

-- the entries of a tree after a rename, not yet in order
abbrev pub moved_entries : Path → Path → Tree → List (Path × Object)
moved_entries from to tree =
    map (λ e. (moved_path from to e.0, e.1)) (filter (λ e. not (is_within to e.0)) tree)

pub path_cmp-append : (top p q : Path) → path_cmp (top ++ p) (top ++ q) ≡ path_cmp p q
path_cmp-append [] p q = refl
path_cmp-append (n ∷ top) p q =
    ap (λ r. ordering_then r (path_cmp (top ++ p) (top ++ q))) (tied_itself nat_list_cmp_total n)
    ∙ path_cmp-append top p q

module _ (from to : Path) (up : is_within from to ≡ false) (down : is_within to from ≡ false) where
  -- no path lies in both
  not_both : (p : Path) → is_within from p ≡ true → is_within to p ≡ false
  not_both p inside =
      not_true (is_within to p) (λ e. true≢false (sym (within_both from to p inside e up) ∙ down))

  -- what stood in `from` is found in `to`
  pub found_inside : (tree : Tree) (rest : Path)
      → find path_cmp (to ++ rest) (moved_entries from to tree) ≡ find path_cmp (from ++ rest) tree
  found_inside [] rest = refl
  found_inside (e ∷ tree) rest =
      elim (is_within to e.0) as (λ b. is_within to e.0 ≡ b
      → find path_cmp (to ++ rest)
      (map (λ x. (moved_path from to x.0, x.1))
      (cond (not b) (e ∷ filter (λ x. not (is_within to x.0)) tree)
      (filter (λ x. not (is_within to x.0)) tree)))
      ≡ cond (same_path (from ++ rest) e.0) (Some e.1) (find path_cmp (from ++ rest) tree)) [
        | true ↦ λ dropped.
            let apart =
            apart_by (λ x. not (is_within to x)) (from ++ rest) e.0
            (ap not (not_both (from ++ rest) (is_within-append from rest))) (ap not dropped) in
            found_inside tree rest
            ∙ ap (λ t. cond t (Some e.1) (find path_cmp (from ++ rest) tree)) (sym apart)
        | false ↦ λ kept.
            elim (is_within from e.0) as (λ b. is_within from e.0 ≡ b
            → cond (same_path (to ++ rest) (cond b (to ++ drop (length from) e.0) e.0)) (Some e.1)
            (find path_cmp (to ++ rest) (moved_entries from to tree))
            ≡ cond (same_path (from ++ rest) e.0) (Some e.1) (find path_cmp (from ++ rest) tree)) [
              | true ↦ λ inside.
                  let below = drop (length from) e.0 in
                  let tests : same_path (to ++ rest) (to ++ below) ≡ same_path (from ++ rest) e.0 =
                  ap is_eq (path_cmp-append to rest below ∙ sym (path_cmp-append from rest below))
                  ∙ ap (same_path (from ++ rest)) (sym (within_is from e.0 inside)) in
                  let others = found_inside tree rest in
                  λ i. cond (tests i) (Some e.1) (others i)
              | false ↦ λ outside.
                  let tests =
                  apart_by (is_within to) (to ++ rest) e.0 (is_within-append to rest) kept
                  ∙ sym (apart_by (is_within from) (from ++ rest) e.0
                  (is_within-append from rest) outside) in
                  let others = found_inside tree rest in
                  λ i. cond (tests i) (Some e.1) (others i)
            ] refl
      ] refl

  -- and what is found outside `to` stood there, outside `from`
  pub found_outside : (tree : Tree) (q : Path) → is_within to q ≡ false
      → find path_cmp q (moved_entries from to tree) ≡ cond (is_within from q) None (find path_cmp q tree)
  found_outside [] q outside =
      elim (is_within from q) as (λ b. ◌≡◌ {A = Option Object} None (cond b None None))
      [ true ↦ refl | false ↦ refl ]
  found_outside (e ∷ tree) q outside =
      let others = found_outside tree q outside in
      elim (is_within to e.0) as (λ b. is_within to e.0 ≡ b
      → find path_cmp q
      (map (λ x. (moved_path from to x.0, x.1))
      (cond (not b) (e ∷ filter (λ x. not (is_within to x.0)) tree)
      (filter (λ x. not (is_within to x.0)) tree)))
      ≡ cond (is_within from q) None (cond (same_path q e.0) (Some e.1) (find path_cmp q tree))) [
        | true ↦ λ dropped.
            let apart = apart_by (λ x. not (is_within to x)) q e.0 (ap not outside) (ap not dropped) in
            others
            ∙ ap (λ t. cond (is_within from q) None (cond t (Some e.1) (find path_cmp q tree))) (sym apart)
        | false ↦ λ kept.
            elim (is_within from e.0) as (λ b. is_within from e.0 ≡ b
            → cond (same_path q (cond b (to ++ drop (length from) e.0) e.0)) (Some e.1)
            (find path_cmp q (moved_entries from to tree))
            ≡ cond (is_within from q) None (cond (same_path q e.0) (Some e.1) (find path_cmp q tree))) [
              | true ↦ λ inside.
                  let below = drop (length from) e.0 in
                  let apart =
                  apart_by (λ x. not (is_within to x)) q (to ++ below) (ap not outside)
                  (ap not (is_within-append to below)) in
                  ap (λ t. cond t (Some e.1) (find path_cmp q (moved_entries from to tree))) apart ∙ others
                  ∙ elim (is_within from q) as (λ b.
                  is_within from q ≡ b
                  → cond b None (find path_cmp q tree)
                  ≡ cond b None (cond (same_path q e.0) (Some e.1) (find path_cmp q tree))) [
                    | true ↦ λ _. refl
                    | false ↦
                        λ away.
                        ap (λ t. cond t (Some e.1) (find path_cmp q tree))
                        (sym (apart_by (λ x. not (is_within from x)) q e.0 (ap not away) (ap not inside)))
                  ] refl
              | false ↦ λ away.
                  ap (cond (same_path q e.0) (Some e.1)) others
                  ∙ elim (is_within from q) as (λ b.
                  is_within from q ≡ b
                  → cond (same_path q e.0) (Some e.1) (cond b None (find path_cmp q tree))
                  ≡ cond b None (cond (same_path q e.0) (Some e.1) (find path_cmp q tree))) [
                    | true ↦
                        λ inside.
                        ap (λ t. cond t (Some e.1) None) (apart_by (is_within from) q e.0 inside away)
                    | false ↦ λ _. refl
                  ] refl
            ] refl
      ] refl

  pub lookup-move_subtree : (tree : Tree) (q : Path)
      → lookup (move_subtree tree from to) q
      ≡ cond (is_within to q) (lookup tree (from ++ drop (length to) q))
      (cond (is_within from q) None (lookup tree q))
  lookup-move_subtree tree q =
      lookup-in_order (moved_entries from to tree) q
      ∙ elim (is_within to q) as (λ b.
      is_within to q ≡ b
      → find path_cmp q (moved_entries from to tree)
      ≡ cond b (lookup tree (from ++ drop (length to) q)) (cond (is_within from q) None (lookup tree q))) [
        | true ↦
            λ inside.
            ap (λ p. find path_cmp p (moved_entries from to tree)) (within_is to q inside)
            ∙ found_inside tree (drop (length to) q)
        | false ↦ λ outside. found_outside tree q outside
      ] refl
