-- A tree in which a path and what lies below it is moved: its entries are in order, and none is added.
use Rattle.std.proofs.Common.{◌≡◌, ◌≤◌, ◌+◌, Bool, true, false, not, cond, T, List, [], ◌∷◌, map, length, is_some, arith}
use Rattle.std.specs.List.{filter}
use Rattle.std.specs.FinMap.{is_sorted}
use Rattle.std.specs.FinMap.Entries.{is_sorted-put, length-put}
use Rattle.std.proofs.lemmas.List.{length-map}
use Rattle.nl_types.specs.declared.reply.Object.{Object}
use Rattle.nl_types.specs.Plain.Paths.{Path, path_cmp, is_within}
use Rattle.nl_types.specs.Plain.Trees.{Tree, lookup, insert, in_order, moved_path, move_subtree}
use Rattle.nl_types.specs.Facts.TreeLaws.{path_total}

pub in_order-sorted : (entries : List (Path × Object)) → T (is_sorted path_cmp (in_order entries))
in_order-sorted [] = tt
in_order-sorted (e ∷ entries) =
    is_sorted-put path_cmp path_total e.0 e.1 (in_order entries) (in_order-sorted entries)

pub move_subtree-sorted : (tree : Tree) (from to : Path) → T (is_sorted path_cmp (move_subtree tree from to))
move_subtree-sorted tree from to =
    in_order-sorted (map (λ e. (moved_path from to e.0, e.1)) (filter (λ e. not (is_within to e.0)) tree))

length-in_order : (entries : List (Path × Object)) → length (in_order entries) ≤ length entries
length-in_order [] = omega arith
length-in_order (e ∷ entries) =
    one (is_some (lookup (in_order entries) e.0))
    (length-put path_cmp path_total e.0 e.1 (in_order entries) (in_order-sorted entries))
    (length-in_order entries)
  where
    one : (there : Bool)
        → length (insert (in_order entries) e.0 e.1)
        ≡ cond there (length (in_order entries)) (length (in_order entries) + 1)
        → length (in_order entries) ≤ length entries
        → length (insert (in_order entries) e.0 e.1) ≤ length (e ∷ entries)
    one true is less = omega (arith, is, less)
    one false is less = omega (arith, is, less)

-- a filter keeps no more than there is
pub length-filtered : {X : Type 0} (p : X → Bool) (xs : List X) → length (filter p xs) ≤ length xs
length-filtered p [] = omega arith
length-filtered p (x ∷ xs) = one (p x) (length-filtered p xs)
  where
    one : (b : Bool) → length (filter p xs) ≤ length xs
        → length (cond b (x ∷ filter p xs) (filter p xs)) ≤ length (x ∷ xs)
    one true less = omega (arith, less)
    one false less = omega (arith, less)

pub length-move_subtree : (tree : Tree) (from to : Path) → length (move_subtree tree from to) ≤ length tree
length-move_subtree tree from to =
    let kept : Tree = filter (λ e. not (is_within to e.0)) tree in
    let entries : Tree = map (λ e. (moved_path from to e.0, e.1)) kept in
    omega (
      arith,
      length-in_order entries,
      length-map {B = Path × Object} kept (λ e. (moved_path from to e.0, e.1)),
      length-filtered (λ (e : Path × Object). not (is_within to e.0)) tree,
    )
