-- What stands at a path of a tree or below it: the path's own entry, and behind it the parts of its names.
use Rattle.std.proofs.Common.{◌≡◌, ℕ, Bool, true, false, cond, not, ◌&&◌, ◌||◌, List, [], ◌∷◌, ◌++◌, length, drop, Some, None, refl, sym, ap, ◌∙◌, subst, true≢false, is_some, append_assoc, append-nil}
use Rattle.std.specs.List.{filter, list_any}
use Rattle.std.specs.declared.cmp.Ordering.TheVariants.{Less, Equal}
use Rattle.std.specs.Ordering.{is_eq, is_lt, ordering_reverse, ordering_then}
use Rattle.std.specs.FinMap.{find, is_sorted}
use Rattle.std.specs.FinMap.Entries.{below_all, find-where_key, is_sorted-where_key}
use Rattle.std.proofs.lemmas.Bool.{and_from, and_parts, not-true}
use Rattle.std.proofs.lemmas.Option.{same_Some}
use Rattle.nl_types.specs.declared.kind.Kind.{Kind}
use Rattle.nl_types.specs.declared.reply.Object.{Object}
use Rattle.nl_types.specs.declared.reply.Object.TheVariants.{Dir, File}
use Rattle.nl_types.specs.Plain.Paths.{Name, Path, name_cmp, path_cmp, same_name, same_path, is_within}
use Rattle.nl_types.specs.Plain.Trees.{Tree, IsTree, lookup, children, object_kind}
use Rattle.nl_types.specs.Facts.Booleans.{holds, is_true, not_true, or_right}
use Rattle.nl_types.specs.Facts.Children.{children-sorted, find-children}
use Rattle.nl_types.specs.Facts.Lookups.{is_within-append, path_cmp-append, same_name-equal, same_name-itself, same_path-itself, within_is}
use Rattle.nl_types.specs.Facts.TreeLaws.{path_total, paths_equal, same_path-equal}
use Rattle.nl_folders.proofs.EntryParts.{mapped_some, within_behind, within_between}
use Rattle.nl_folders.proofs.SortedTrees.{apart_above, less_is}
use Rattle.nl_folders.proofs.TreePaths.{above_is, child_above, goes_below, same_path-turned}
use Rattle.nl_folders.specs.Walks.{part_at}

-- ---- entries that pass a test

here : (e : Path × Object) (m : Tree) → is_some (lookup (e ∷ m) e.0) ≡ true
here e m = ap (λ b. is_some (cond b (Some e.1) (lookup m e.0))) (same_path-itself e.0)

behind : (e : Path × Object) (m : Tree) (q : Path) → is_some (lookup m q) ≡ true
    → is_some (lookup (e ∷ m) q) ≡ true
behind e m q there =
    elim (same_path q e.0) as (λ b. is_some (cond b (Some e.1) (lookup m q)) ≡ true)
    [ true ↦ refl | false ↦ there ]

-- what is found among entries that pass is found among all, and passes
in_passing : (p : Path → Bool) (m : Tree) (q : Path) → is_some (lookup (filter (λ e. p e.0) m) q) ≡ true
    → (is_some (lookup m q) ≡ true) × (p q ≡ true)
in_passing p m q there =
    by (p q) refl
    (sym (ap is_some (find-where_key path_cmp p q (λ x tied. ap p (sym (paths_equal q x tied))) m)) ∙ there)
  where
    by : (b : Bool) → p q ≡ b → is_some (cond b (lookup m q) None) ≡ true
        → (is_some (lookup m q) ≡ true) × (p q ≡ true)
    by true is found = (found, is)
    by false is found = absurd (true≢false (sym found))

-- of entries that pass one test another one keeps what it keeps of all, if what passes that passes the first
pass_both : (p q : Path → Bool) → ((x : Path) → p x ≡ true → q x ≡ true) → (m : Tree)
    → filter (λ e. p e.0) (filter (λ e. q e.0) m) ≡ filter (λ e. p e.0) m
pass_both p q implies [] = refl
pass_both p q implies (e ∷ m) =
    let rest = pass_both p q implies m in
    let kept : Tree = filter (λ x. p x.0) m in
    elim (q e.0) as (λ b.
    q e.0 ≡ b
    → filter (λ x. p x.0) (cond b (e ∷ filter (λ x. q x.0) m) (filter (λ x. q x.0) m))
    ≡ cond (p e.0) (e ∷ kept) kept) [
      | true ↦ λ _. ap (λ (t : Tree). cond (p e.0) (e ∷ t) t) rest
      | false ↦ λ fails.
          rest
          ∙ sym (ap (λ b. cond b (e ∷ kept) kept)
          (not_true (p e.0) (λ passes. true≢false (sym (implies e.0 passes) ∙ fails))))
    ] refl

-- tests that are one at each entry keep the same
pass_alike : (p q : Path → Bool) (m : Tree) → ((x : Path) → is_some (lookup m x) ≡ true → p x ≡ q x)
    → filter (λ e. p e.0) m ≡ filter (λ e. q e.0) m
pass_alike p q [] alike = refl
pass_alike p q (e ∷ m) alike =
    let rest = pass_alike p q m (λ x there. alike x (behind e m x there)) in
    ap (λ b. cond b (e ∷ filter (λ x. p x.0) m) (filter (λ x. p x.0) m)) (alike e.0 (here e m))
    ∙ ap (λ (t : Tree). cond (q e.0) (e ∷ t) t) rest

pub all_pass : (p : Path → Bool) (m : Tree) → ((x : Path) → is_some (lookup m x) ≡ true → p x ≡ true)
    → filter (λ e. p e.0) m ≡ m
all_pass p [] passes = refl
all_pass p (e ∷ m) passes =
    ap (λ b. cond b (e ∷ filter (λ x. p x.0) m) (filter (λ x. p x.0) m)) (passes e.0 (here e m))
    ∙ ap (λ (t : Tree). e ∷ t) (all_pass p m (λ x there. passes x (behind e m x there)))

pub none_passes : (p : Path → Bool) (m : Tree) → ((x : Path) → is_some (lookup m x) ≡ true → p x ≡ false)
    → filter (λ e. p e.0) m ≡ []
none_passes p [] fails = refl
none_passes p (e ∷ m) fails =
    ap (λ b. cond b (e ∷ filter (λ x. p x.0) m) (filter (λ x. p x.0) m)) (fails e.0 (here e m))
    ∙ none_passes p m (λ x there. fails x (behind e m x there))

-- ---- order

-- a path that is found behind another one comes behind it
found_later : (p q : Path) (m : Tree) → below_all path_cmp p m ≡ true → is_some (lookup m q) ≡ true
    → path_cmp p q ≡ Less
found_later p q [] below there = absurd (true≢false (sym there))
found_later p q (e ∷ m) below there =
    let parts = and_parts (is_lt (path_cmp p e.0)) (below_all path_cmp p m) below in
    elim (same_path q e.0) as (λ b.
    same_path q e.0 ≡ b → is_some (cond b (Some e.1) (lookup m q)) ≡ true → path_cmp p q ≡ Less) [
      | true ↦ λ same _.
          ap (path_cmp p) (same_path-equal q e.0 same) ∙ less_is (path_cmp p e.0) parts.0
      | false ↦ λ _ later. found_later p q m parts.1 later
    ] refl there

not_before : (p q : Path) → path_cmp p q ≡ Less → is_lt (path_cmp q p) ≡ false
not_before p q less = ap is_lt (path_total.antisymm q p ∙ ap ordering_reverse less)

-- of entries in order that aren't below a path, those at it or below it come first
within_first : (top : Path) (m : Tree) → is_sorted path_cmp m ≡ true
    → ((q : Path) → is_some (lookup m q) ≡ true → is_lt (path_cmp q top) ≡ false)
    → part_at m top ++ filter (λ e. not (is_within top e.0)) m ≡ m
within_first top [] sorted above = refl
within_first top (e ∷ m) sorted above =
    let parts = and_parts (below_all path_cmp e.0 m) (is_sorted path_cmp m) sorted in
    let others : Tree = filter (λ x. not (is_within top x.0)) m in
    elim (is_within top e.0) as (λ b.
    is_within top e.0 ≡ b
    → cond b (e ∷ part_at m top) (part_at m top) ++ cond (not b) (e ∷ others) others ≡ e ∷ m) [
      | true ↦ λ _.
          ap (λ (t : Tree). e ∷ t) (within_first top m parts.1 (λ q there. above q (behind e m q there)))
      | false ↦ λ outside.
          let apart : (q : Path) → is_some (lookup m q) ≡ true → is_within top q ≡ false =
          λ q there. not_true (is_within top q) (λ inside.
          true≢false
          (sym (within_between top e.0 q (above e.0 (here e m))
          (not_before e.0 q (found_later e.0 q m parts.0 there)) inside) ∙ outside)) in
          ap (λ (t : Tree). t ++ (e ∷ others)) (none_passes (is_within top) m apart)
          ∙ ap (λ (t : Tree). e ∷ t)
          (all_pass (λ q. not (is_within top q)) m (λ q there. ap not (apart q there)))
    ] refl

-- ---- a path's own entry

abbrev pub is_below : Path → Path → Bool
is_below top q = is_within top q && not (same_path q top)

within_itself : (top : Path) → is_within top top ≡ true
within_itself top = ap (is_within top) (sym (append-nil top)) ∙ is_within-append top []

and_true : (a : Bool) → (a && true) ≡ a
and_true true = refl
and_true false = refl

-- it stands in front
pub part_begins : (tree : Tree) (top : Path) (object : Object) → is_sorted path_cmp tree ≡ true
    → lookup tree top ≡ Some object → part_at tree top ≡ (top, object) ∷ filter (λ e. is_below top e.0) tree
part_begins [] top object sorted there = cc
part_begins (e ∷ tree) top object sorted there =
    let parts = and_parts (below_all path_cmp e.0 tree) (is_sorted path_cmp tree) sorted in
    let all : Tree = part_at tree top in
    let below : Tree = filter (λ x. is_below top x.0) tree in
    elim (same_path top e.0) as (λ b.
    same_path top e.0 ≡ b → cond b (Some e.1) (lookup tree top) ≡ Some object
    → cond (is_within top e.0) (e ∷ all) all
    ≡ (top, object) ∷ cond (is_within top e.0 && not (same_path e.0 top)) (e ∷ below) below) [
      | true ↦ λ same at.
          let path : top ≡ e.0 = same_path-equal top e.0 same in
          let is : e.1 ≡ object = same_Some e.1 object at in
          let inside : is_within top e.0 ≡ true = ap (is_within top) (sym path) ∙ within_itself top in
          let tied : same_path e.0 top ≡ true = ap (λ p. same_path p top) (sym path) ∙ same_path-itself top in
          let rest : all ≡ below =
          pass_alike (is_within top) (is_below top) tree (λ q later.
          sym (ap (λ b. is_within top q && not b)
          (ap (same_path q) path ∙ apart_above e.0 q (found_later e.0 q tree parts.0 later))
          ∙ and_true (is_within top q))) in
          ap (λ b. cond b (e ∷ all) all) inside
          ∙ ap (λ (t : Tree). e ∷ t) rest
          ∙ (λ i. (sym path i, is i) ∷ below)
          ∙ sym (ap (λ b. (top, object) ∷ cond (b && not (same_path e.0 top)) (e ∷ below) below) inside
          ∙ ap (λ b. (top, object) ∷ cond (not b) (e ∷ below) below) tied)
      | false ↦ λ _ later.
          let less = found_later e.0 top tree parts.0 (ap is_some later) in
          let outside : is_within top e.0 ≡ false =
          not_true (is_within top e.0) (λ inside.
          true≢false (sym (ap is_lt less) ∙ within_behind top e.0 inside)) in
          ap (λ b. cond b (e ∷ all) all) outside
          ∙ part_begins tree top object parts.1 later
          ∙ sym (ap (λ b. (top, object) ∷ cond (b && not (same_path e.0 top)) (e ∷ below) below) outside)
    ] refl there

-- ---- the parts of names

-- a path lies in one name of a directory alone
one_name : (dir : Path) (n k : Name) (q : Path) → is_within (dir ++ n ∷ []) q ≡ true
    → is_within (dir ++ k ∷ []) q ≡ true → n ≡ k
one_name [] n k [] a b = absurd (true≢false (sym a))
one_name [] n k (m ∷ q) a b =
    same_name-equal n m (and_parts (same_name n m) true a).0
    ∙ sym (same_name-equal k m (and_parts (same_name k m) true b).0)
one_name (d ∷ dir) n k [] a b = absurd (true≢false (sym a))
one_name (d ∷ dir) n k (m ∷ q) a b =
    one_name dir n k q (and_parts (same_name d m) (is_within (dir ++ n ∷ []) q) a).1
    (and_parts (same_name d m) (is_within (dir ++ k ∷ []) q) b).1

-- what lies in a name of a directory lies below that
below_name : (dir : Path) (n : Name) (q : Path) → is_within (dir ++ n ∷ []) q ≡ true → is_below dir q ≡ true
below_name dir n q inside =
    let top = dir ++ n ∷ [] in
    and_from (is_within dir q) (not (same_path q dir))
    (ap (is_within dir) (within_is top q inside ∙ append_assoc dir (n ∷ []) (drop (length top) q))
    ∙ is_within-append dir (n ∷ drop (length top) q))
    (ap not (not_true (same_path q dir) (λ same.
    true≢false
    (sym (ap is_lt (ap (λ p. path_cmp p top) (same_path-equal q dir same) ∙ child_above dir n))
    ∙ within_behind top q inside))))

-- and isn't before an earlier one
not_before_name : (dir : Path) (n k : Name) (q : Path) → name_cmp n k ≡ Less
    → is_within (dir ++ k ∷ []) q ≡ true → is_lt (path_cmp q (dir ++ n ∷ [])) ≡ false
not_before_name dir n k q less inside =
    let top = dir ++ n ∷ [] in
    let later : path_cmp top (dir ++ k ∷ []) ≡ Less =
    path_cmp-append dir (n ∷ []) (k ∷ []) ∙ ap (λ o. ordering_then o Equal) less in
    not_true (is_lt (path_cmp q top)) (λ before.
    true≢false
    (sym (ap is_lt (path_total.trans q top (dir ++ k ∷ []) (less_is (path_cmp q top) before) later))
    ∙ within_behind (dir ++ k ∷ []) q inside))

-- whether a path lies in one of the names
abbrev is_named : Path → List (Name × Kind) → Path → Bool
is_named dir names q = list_any (λ n. is_within (dir ++ n.0 ∷ []) q) names

or_left : (a b : Bool) → a ≡ true → (a || b) ≡ true
or_left true b h = refl
or_left false b h = absurd (true≢false (sym h))

left_over : (a b : Bool) → (a || b) ≡ true → not a ≡ true → b ≡ true
left_over true b either other = absurd (true≢false (sym other))
left_over false b either other = either

below_named : (dir : Path) (names : List (Name × Kind)) (q : Path) → is_named dir names q ≡ true
    → is_below dir q ≡ true
below_named dir [] q named = absurd (true≢false (sym named))
below_named dir (n ∷ names) q named =
    elim (is_within (dir ++ n.0 ∷ []) q) as (λ b.
    is_within (dir ++ n.0 ∷ []) q ≡ b → (b || is_named dir names q) ≡ true → is_below dir q ≡ true) [
      | true ↦ λ inside _. below_name dir n.0 q inside
      | false ↦ λ _ later. below_named dir names q later
    ] refl named

-- what lies in one of later names doesn't lie in an earlier one, and isn't before that
not_named : (dir : Path) (n : Name) (names : List (Name × Kind)) (q : Path) → below_all name_cmp n names ≡ true
    → is_named dir names q ≡ true
    → (is_within (dir ++ n ∷ []) q ≡ false) × (is_lt (path_cmp q (dir ++ n ∷ [])) ≡ false)
not_named dir n [] q below named = absurd (true≢false (sym named))
not_named dir n (k ∷ names) q below named =
    let parts = and_parts (is_lt (name_cmp n k.0)) (below_all name_cmp n names) below in
    let less : name_cmp n k.0 ≡ Less = less_is (name_cmp n k.0) parts.0 in
    elim (is_within (dir ++ k.0 ∷ []) q) as (λ b.
    is_within (dir ++ k.0 ∷ []) q ≡ b → (b || is_named dir names q) ≡ true
    → (is_within (dir ++ n ∷ []) q ≡ false) × (is_lt (path_cmp q (dir ++ n ∷ [])) ≡ false)) [
      | true ↦ λ inside _. (
        not_true (is_within (dir ++ n ∷ []) q) (λ also.
            true≢false
            (sym (same_name-itself n)
            ∙ ap (same_name n) (one_name dir n k.0 q also inside)
            ∙ ap is_eq less)),
        not_before_name dir n k.0 q less inside,
      )
      | false ↦ λ _ later. not_named dir n names q parts.1 later
    ] refl named

-- the parts of names in a directory, one after another
abbrev pub parts_of : Tree → Path → List (Name × Kind) → Tree
parts_of tree dir [] = []
parts_of tree dir (n ∷ names) = part_at tree (dir ++ n.0 ∷ []) ++ parts_of tree dir names

same_parts : (p : Path → Bool) (dir : Path) (m : Tree) (names : List (Name × Kind))
    → ((q : Path) → is_named dir names q ≡ true → p q ≡ true)
    → parts_of (filter (λ e. p e.0) m) dir names ≡ parts_of m dir names
same_parts p dir m [] passes = refl
same_parts p dir m (n ∷ names) passes =
    let top = dir ++ n.0 ∷ [] in
    ap (λ (t : Tree). t ++ parts_of (filter (λ e. p e.0) m) dir names)
    (pass_both (is_within top) p
    (λ q inside. passes q (or_left (is_within top q) (is_named dir names q) inside)) m)
    ∙ ap (λ (t : Tree). part_at m top ++ t)
    (same_parts p dir m names (λ q named. passes q (or_right (is_within top q) named)))

-- entries in order that lie in names in order are the parts of these
grouped : (dir : Path) (names : List (Name × Kind)) (m : Tree) → is_sorted name_cmp names ≡ true
    → is_sorted path_cmp m ≡ true → ((q : Path) → is_some (lookup m q) ≡ true → is_named dir names q ≡ true)
    → parts_of m dir names ≡ m
grouped dir [] [] rise sorted named = refl
grouped dir [] (e ∷ m) rise sorted named = absurd (true≢false (sym (named e.0 (here e m))))
grouped dir (n ∷ names) m rise sorted named =
    let order = and_parts (below_all name_cmp n.0 names) (is_sorted name_cmp names) rise in
    let top = dir ++ n.0 ∷ [] in
    let outside : Path → Bool = λ q. not (is_within top q) in
    let rest : Tree = filter (λ e. outside e.0) m in
    let behind_it : parts_of m dir names ≡ rest =
    sym (same_parts outside dir m names (λ q later. ap not (not_named dir n.0 names q order.0 later).0))
    ∙ grouped dir names rest order.1 (is_true _ (is_sorted-where_key path_cmp outside m (holds _ sorted)))
    (λ q there.
    let found = in_passing outside m q there in
    left_over (is_within top q) (is_named dir names q) (named q found.0) found.1) in
    ap (λ (t : Tree). part_at m top ++ t) behind_it
    ∙ within_first top m sorted (λ q there. from_top q (is_within top q) refl (named q there))
  where
    from_top : (q : Path) (b : Bool) → is_within (dir ++ n.0 ∷ []) q ≡ b
        → (is_within (dir ++ n.0 ∷ []) q || is_named dir names q) ≡ true
        → is_lt (path_cmp q (dir ++ n.0 ∷ [])) ≡ false
    from_top q true inside either = within_behind (dir ++ n.0 ∷ []) q inside
    from_top q false outside either =
        (not_named dir n.0 names q (and_parts (below_all name_cmp n.0 names) (is_sorted name_cmp names) rise).0
        (left_over (is_within (dir ++ n.0 ∷ []) q) (is_named dir names q) either (ap not outside))).1

-- ---- the part of a directory

found_named : (dir : Path) (names : List (Name × Kind)) (n : Name) (q : Path)
    → is_some (find name_cmp n names) ≡ true → is_within (dir ++ n ∷ []) q ≡ true → is_named dir names q ≡ true
found_named dir [] n q there inside = absurd (true≢false (sym there))
found_named dir (k ∷ names) n q there inside =
    elim (same_name n k.0) as (λ b.
    same_name n k.0 ≡ b → is_some (cond b (Some k.1) (find name_cmp n names)) ≡ true
    → is_named dir (k ∷ names) q ≡ true) [
      | true ↦ λ same _.
          or_left (is_within (dir ++ k.0 ∷ []) q) (is_named dir names q)
          (ap (λ m. is_within (dir ++ m ∷ []) q) (sym (same_name-equal n k.0 same)) ∙ inside)
      | false ↦ λ _ later.
          or_right (is_within (dir ++ k.0 ∷ []) q) (found_named dir names n q later inside)
    ] refl there

-- what lies below a directory of a tree lies in one of its names
in_its_names : (tree : Tree) (dir q : Path) → IsTree tree → is_some (lookup tree q) ≡ true
    → is_below dir q ≡ true → is_named dir (children tree dir) q ≡ true
in_its_names tree dir q t there below =
    let parts = and_parts (is_within dir q) (not (same_path q dir)) below in
    let down = goes_below dir q parts.0 (same_path-turned q dir (not-true (same_path q dir) parts.1)) in
    let path : q ≡ (dir ++ down.0 ∷ []) ++ down.1 = down.2 ∙ sym (append_assoc dir (down.0 ∷ []) down.1) in
    let child : is_some (lookup tree (dir ++ down.0 ∷ [])) ≡ true =
    above_is tree t down.1 (dir ++ down.0 ∷ []) (subst (λ p. is_some (lookup tree p) ≡ true) path there) in
    found_named dir (children tree dir) down.0 q
    (ap is_some (find-children tree dir down.0)
    ∙ mapped_some object_kind (lookup tree (dir ++ down.0 ∷ [])) ∙ child)
    (ap (is_within (dir ++ down.0 ∷ [])) path ∙ is_within-append (dir ++ down.0 ∷ []) down.1)

-- it is the directory, and then the parts of its names
pub directory_part : (tree : Tree) (dir : Path) → IsTree tree → lookup tree dir ≡ Some Dir
    → part_at tree dir ≡ (dir, Dir) ∷ parts_of tree dir (children tree dir)
directory_part tree dir t there =
    let names = children tree dir in
    let below : Tree = filter (λ e. is_below dir e.0) tree in
    let all : parts_of below dir names ≡ below =
    grouped dir names below (is_true _ (children-sorted tree dir (holds _ t.ordered)))
    (is_true _ (is_sorted-where_key path_cmp (is_below dir) tree (holds _ t.ordered)))
    (λ q passes.
    let found = in_passing (is_below dir) tree q passes in
    in_its_names tree dir q t found.0 found.1) in
    part_begins tree dir Dir t.ordered there
    ∙ ap (λ (rest : Tree). (dir, Dir) ∷ rest)
    (sym all ∙ same_parts (is_below dir) dir tree names (below_named dir names))

-- nothing lies below a file
pub file_part : (tree : Tree) (path : Path) (bytes : List ℕ) → IsTree tree
    → lookup tree path ≡ Some (File bytes) → part_at tree path ≡ (path, File bytes) ∷ []
file_part tree path bytes t there =
    part_begins tree path (File bytes) t.ordered there
    ∙ ap (λ (rest : Tree). (path, File bytes) ∷ rest)
    (none_passes (is_below path) tree (λ q has. not_true (is_below path q) (nothing q has)))
  where
    nothing : (q : Path) → is_some (lookup tree q) ≡ true → is_below path q ≡ true → ⊥
    nothing q has below =
        let parts = and_parts (is_within path q) (not (same_path q path)) below in
        let down = goes_below path q parts.0 (same_path-turned q path (not-true (same_path q path) parts.1)) in
        let child : is_some (lookup tree (path ++ down.0 ∷ [])) ≡ true =
        above_is tree t down.1 (path ++ down.0 ∷ [])
        (subst (λ p. is_some (lookup tree p) ≡ true)
        (down.2 ∙ sym (append_assoc path (down.0 ∷ []) down.1)) has) in
        let apart : Some Dir ≡ Some (File bytes) = sym (t.parents path down.0 child) ∙ there in cc
