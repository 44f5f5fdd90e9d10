-- How many paths a tree has after a change.
use Rattle.std.specs.Prelude.{◌≡◌, ℕ, ◌+◌, Bool, true, false, not, cond, [], ◌∷◌, ◌++◌, map, length, drop, Option, Some, None, refl}
use Rattle.std.specs.List.{filter}
use Rattle.std.specs.Option.{is_some}
use Rattle.std.specs.Ordering.{is_lt, is_eq}
use Rattle.std.specs.declared.cmp.Ordering.{Ordering}
use Rattle.std.specs.declared.cmp.Ordering.TheVariants.{Less, Equal, Greater}
use Rattle.std.specs.FinMap.{find, is_sorted}
use Rattle.std.specs.FinMap.Entries.{below_all, length-put, length_without}
use Rattle.std.proofs.Common.{sym, ◌∙◌, ap, T, arith, suc}
use Rattle.nl_types.specs.declared.reply.Object.{Object}
use Rattle.nl_types.specs.Plain.Paths.{Path, path_cmp, same_path, is_within}
use Rattle.nl_types.specs.Plain.Trees.{Tree, lookup, insert, remove, move_subtree, moved_path, in_order}
use Rattle.nl_types.specs.Facts.TreeLaws.{path_total}
use Rattle.nl_types.specs.Facts.Lookups.{same_path-itself, lookup-in_order, moved_entries, found_inside, found_outside, within_is}
use Rattle.nl_types.specs.Facts.Subtrees.{in_order-sorted}
use Rattle.nl_types.specs.Facts.Booleans.{not_true, first, second}

-- a new path is one more
pub length-insert_new : (tree : Tree) (path : Path) (object : Object) → T (is_sorted path_cmp tree)
    → lookup tree path ≡ None → length (insert tree path object) ≡ length tree + 1
length-insert_new tree path object h none =
    length-put path_cmp path_total path object tree h
    ∙ ap (λ (o : Option Object). cond (is_some o) (length tree) (length tree + 1)) none

-- another object at a path is none more
pub length-insert_old : (tree : Tree) (path : Path) (object old : Object) → T (is_sorted path_cmp tree)
    → lookup tree path ≡ Some old → length (insert tree path object) ≡ length tree
length-insert_old tree path object old h some =
    length-put path_cmp path_total path object tree h
    ∙ ap (λ (o : Option Object). cond (is_some o) (length tree) (length tree + 1)) some

-- a path that is taken out is one less
pub length-remove : (tree : Tree) (path : Path) (old : Object) → T (is_sorted path_cmp tree)
    → lookup tree path ≡ Some old → length (remove tree path) + 1 ≡ length tree
length-remove tree path old h some =
    let count : 1 + length (remove tree path) ≡ length tree =
    sym (ap (λ (o : Option Object). cond {A = ℕ} (is_some o) 1 0 + length (remove tree path)) some)
    ∙ length_without path_cmp path_total path tree h in
    omega (arith, count)

less : (o : Ordering) → T (is_lt o) → o ≡ Less
less Less p = refl
less Equal p = absurd p
less Greater p = absurd p

find_below : (q : Path) (tree : Tree) → T (below_all path_cmp q tree) → lookup tree q ≡ None
find_below q [] h = refl
find_below q (e ∷ tree) h =
    ap (λ r. cond (is_eq r) (Some e.1) (lookup tree q)) (less _ (first _ _ h))
    ∙ find_below q tree (second _ _ h)

later_none : (b : Bool) (x : Object) (o : Option Object) → cond b (Some x) o ≡ None → o ≡ None
later_none true x o e = cc
later_none false x o e = e

one_more : (a b : ℕ) → a ≡ b → a + 1 ≡ suc b
one_more a b e = omega (arith, e)

module _ (from to : Path) (up : is_within from to ≡ false) (down : is_within to from ≡ false) where
  -- the path that an link moves to is not that of a later one
  apart : (e : Path × Object) (tree : Tree) → is_within to e.0 ≡ false → lookup tree e.0 ≡ None
      → find path_cmp (moved_path from to e.0) (moved_entries from to tree) ≡ None
  apart e tree out none =
      elim (is_within from e.0) as (λ b.
      is_within from e.0 ≡ b
      → find path_cmp (cond b (to ++ drop (length from) e.0) e.0) (moved_entries from to tree) ≡ None) [
        | true ↦
            λ inside.
            found_inside from to up down tree (drop (length from) e.0)
            ∙ ap (λ p. find path_cmp p tree) (sym (within_is from e.0 inside)) ∙ none
        | false ↦
            λ away.
            found_outside from to up down tree e.0 out ∙ ap (λ b. cond b None (find path_cmp e.0 tree)) away
            ∙ none
      ] refl

  abbrev kept : Tree → Tree
  kept tree = in_order (moved_entries from to tree)

  pub length-move_subtree : (tree : Tree) → T (is_sorted path_cmp tree)
      → ((q : Path) → is_within to q ≡ true → lookup tree q ≡ None)
      → length (move_subtree tree from to) ≡ length tree
  length-move_subtree [] h free = refl
  length-move_subtree (e ∷ tree) h free =
      let here : lookup (e ∷ tree) e.0 ≡ Some e.1 =
      ap (λ b. cond b (Some e.1) (lookup tree e.0)) (same_path-itself e.0) in
      let out : is_within to e.0 ≡ false =
      not_true (is_within to e.0)
      (λ inside. let k : None ≡ Some e.1 = sym (free e.0 inside) ∙ here in cc) in
      let none = apart e tree out (find_below e.0 tree (first _ _ h)) in
      ap (λ b.
      length (in_order
      (map (λ x. (moved_path from to x.0, x.1))
      (cond (not b) (e ∷ filter (λ x. not (is_within to x.0)) tree)
      (filter (λ x. not (is_within to x.0)) tree)))))
      out
      ∙ length-put path_cmp path_total (moved_path from to e.0) e.1 (kept tree)
      (in_order-sorted (moved_entries from to tree))
      ∙ ap (λ (o : Option Object). cond (is_some o) (length (kept tree)) (length (kept tree) + 1))
      (lookup-in_order (moved_entries from to tree) (moved_path from to e.0) ∙ none)
      ∙ one_more (length (kept tree)) (length tree)
      (length-move_subtree tree (second _ _ h)
      (λ q inside. later_none (same_path q e.0) e.1 (lookup tree q) (free q inside)))
