-- A tree beside pins.
use Rattle.std.proofs.Common.{◌≡◌, ℕ, Bool, true, false, cond, not, List, [], ◌∷◌, ◌++◌, Option, Some, None, refl, sym, ap, ◌∙◌, true≢false}
use Rattle.std.proofs.lemmas.Bool.{and_parts}
use Rattle.std.proofs.lemmas.List.Elements.{filter-append}
use Rattle.std.specs.declared.cmp.Ordering.{Ordering}
use Rattle.std.specs.declared.cmp.Ordering.TheVariants.{Less, Equal, Greater}
use Rattle.std.specs.Option.{ok_or, option_or}
use Rattle.std.specs.Ordering.{is_lt}
use Rattle.std.specs.FinMap.{is_sorted}
use Rattle.std.specs.FinMap.Entries.{below_all, find-where_key}
use Rattle.nl_types.specs.declared.reply.Object.{Object}
use Rattle.nl_types.specs.declared.reply.Object.TheVariants.{Dir, File}
use Rattle.nl_types.specs.declared.error.VolError.TheVariants.{NotFound}
use Rattle.nl_types.specs.Plain.Calls.{and_then, file_in, ok_unless, stops_walk}
use Rattle.nl_types.specs.Plain.Paths.{Path, path_cmp, same_path}
use Rattle.nl_types.specs.Plain.Trees.{Tree, lookup}
use Rattle.nl_types.specs.Facts.TreeLaws.{path_total, paths_equal}
use Rattle.nl_pins.specs.Facts.PinlessTrees.{found_pinless}
use Rattle.nl_pins.specs.Trees.{PinsAreApart, PinsAreFound, answered, before_pins, behind_pins, is_before_pins, is_of_pins, pins_in, pins_path, with_pins, without_pins}

-- ---- what stands before and behind

less_is : (o : Ordering) → is_lt o ≡ true → o ≡ Less
less_is Less is = refl
less_is Equal is = absurd (true≢false (sym is))
less_is Greater is = absurd (true≢false (sym is))

-- what comes before a path that isn't before the file's isn't either
not_before : (k p : Path) → is_lt (path_cmp k pins_path) ≡ false → is_lt (path_cmp k p) ≡ true
    → is_lt (path_cmp p pins_path) ≡ true → ⊥
not_before k p late above before =
    true≢false
    (sym (ap is_lt
    (path_total.trans k p pins_path (less_is (path_cmp k p) above) (less_is (path_cmp p pins_path) before)))
    ∙ late)

behind_one : (e : Path × Object) (es : Tree) → (before_pins es ≡ []) × (behind_pins es ≡ es) → (b : Bool)
    → is_before_pins e ≡ b → (is_before_pins e ≡ true → ⊥)
    → (cond b (e ∷ before_pins es) (before_pins es) ≡ [])
    × (cond (not b) (e ∷ behind_pins es) (behind_pins es) ≡ e ∷ es)
behind_one e es rest true is not_it = absurd (not_it is)
behind_one e es rest false is not_it = (rest.0, ap (λ (l : Tree). e ∷ l) rest.1)

behind_all : (k : Path) (es : Tree) → is_lt (path_cmp k pins_path) ≡ false → below_all path_cmp k es ≡ true
    → (before_pins es ≡ []) × (behind_pins es ≡ es)
behind_all k [] late below = (refl, refl)
behind_all k (e ∷ es) late below =
    let parts = and_parts (is_lt (path_cmp k e.0)) (below_all path_cmp k es) below in
    behind_one e es (behind_all k es late parts.1) (is_before_pins e) refl (not_before k e.0 late parts.0)

parted_one : (e : Path × Object) (es : Tree) → below_all path_cmp e.0 es ≡ true
    → before_pins es ++ behind_pins es ≡ es → (b : Bool) → is_before_pins e ≡ b
    → cond b (e ∷ before_pins es) (before_pins es) ++ cond (not b) (e ∷ behind_pins es) (behind_pins es)
    ≡ e ∷ es
parted_one e es below rest true is = ap (λ (l : Tree). e ∷ l) rest
parted_one e es below rest false is =
    let all = behind_all e.0 es is below in
    λ i. all.0 i ++ e ∷ all.1 i

parted_all : (es : Tree) → is_sorted path_cmp es ≡ true → before_pins es ++ behind_pins es ≡ es
parted_all [] sorted = refl
parted_all (e ∷ es) sorted =
    let parts = and_parts (below_all path_cmp e.0 es) (is_sorted path_cmp es) sorted in
    parted_one e es parts.0 (parted_all es parts.1) (is_before_pins e) refl

-- ---- laws

pub pins_apart : PinsAreApart
pins_apart None tree sorted = refl
pins_apart (Some bytes) tree sorted =
    filter-append (λ (e : Path × Object). not (is_of_pins e.0)) (before_pins tree)
    ((pins_path, File bytes) ∷ behind_pins tree)
    ∙ sym (filter-append (λ (e : Path × Object). not (is_of_pins e.0)) (before_pins tree) (behind_pins tree))
    ∙ ap (λ (t : Tree). without_pins t) (parted_all tree sorted)

found_behind : (xs ys : Tree) (q : Path) → lookup xs q ≡ None → lookup (xs ++ ys) q ≡ lookup ys q
found_behind [] ys q none = refl
found_behind (e ∷ xs) ys q none =
    elim (same_path q e.0) as (λ b. cond b (Some e.1) (lookup xs q) ≡ None
    → cond b (Some e.1) (lookup (xs ++ ys) q) ≡ lookup ys q) [
      | true ↦ λ is. let no : ◌≡◌ {A = Option Object} (Some e.1) None = is in cc
      | false ↦ λ is. found_behind xs ys q is
    ] none

none_before : (tree : Tree) → lookup (before_pins tree) pins_path ≡ None
none_before tree =
    find-where_key path_cmp (λ x. is_lt (path_cmp x pins_path)) pins_path
    (λ x tied. ap (λ (q : Path). is_lt (path_cmp q pins_path)) (sym (paths_equal pins_path x tied))) tree

found_first : (xs ys : Tree) (q : Path) (o : Object) → lookup xs q ≡ Some o → lookup (xs ++ ys) q ≡ Some o
found_first [] ys q o is = let no : ◌≡◌ {A = Option Object} None (Some o) = is in cc
found_first (e ∷ xs) ys q o is =
    elim (same_path q e.0) as (λ b. cond b (Some e.1) (lookup xs q) ≡ Some o
    → cond b (Some e.1) (lookup (xs ++ ys) q) ≡ Some o)
    [ true ↦ λ here. here | false ↦ λ rest. found_first xs ys q o rest ] is

-- the root comes before the file
root_before : (tree : Tree) → lookup (before_pins tree) [] ≡ lookup tree []
root_before tree =
    find-where_key path_cmp (λ x. is_lt (path_cmp x pins_path)) []
    (λ x tied. ap (λ (q : Path). is_lt (path_cmp q pins_path)) (sym (paths_equal [] x tied))) tree

-- the bytes of a file
abbrev bytes_of : Option Object → Option (List ℕ)
bytes_of None = None
bytes_of (Some Dir) = None
bytes_of (Some (File bytes)) = Some bytes

-- a read of a tree that has a root comes to the file itself
read_is : (tree : Tree) → lookup tree [] ≡ Some Dir → pins_in tree ≡ bytes_of (lookup tree pins_path)
read_is tree root =
    ap (λ (o : Option Object). answered (and_then (and_then (ok_unless (option_or (stops_walk o) None))
    (λ _. ok_or (lookup tree pins_path) NotFound)) file_in)) root
    ∙ by (lookup tree pins_path)
  where
    by : (o : Option Object) → answered (and_then (ok_or o NotFound) file_in) ≡ bytes_of o
    by None = refl
    by (Some Dir) = refl
    by (Some (File bytes)) = refl

pub pins_found : PinsAreFound
pins_found None tree root apart =
    read_is tree root
    ∙ ap (λ (t : Tree). bytes_of (lookup t pins_path)) (sym apart)
    ∙ ap bytes_of (found_pinless tree pins_path)
pins_found (Some bytes) tree root apart =
    read_is (with_pins (Some bytes) tree) (found_first (before_pins tree) rest [] Dir (root_before tree ∙ root))
    ∙ ap bytes_of (found_behind (before_pins tree) rest pins_path (none_before tree))
  where
    rest : Tree
    rest = (pins_path, File bytes) ∷ behind_pins tree
