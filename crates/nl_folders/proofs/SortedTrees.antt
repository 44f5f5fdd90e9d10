-- Look-ups in trees whose paths ascend.
use Rattle.std.proofs.Common.{◌≡◌, ℕ, zero, suc, ◌+◌, ◌-◌, ◌<◌, ◌≤◌, true, false, cond, not, ◌||◌, [], ◌∷◌, ◌++◌, Some, None, refl, sym, ap, ◌∙◌, subst, true≢false, is_some, List, length, take, drop, get_or, arith}
use Rattle.std.specs.declared.cmp.Ordering.{Ordering}
use Rattle.std.specs.declared.cmp.Ordering.TheVariants.{Less, Equal, Greater}
use Rattle.std.specs.Ordering.{is_lt, is_eq, ordering_reverse}
use Rattle.std.specs.FinMap.{find, is_sorted}
use Rattle.std.specs.FinMap.Entries.{below_all, length_without, is_sorted-where_key}
use Rattle.std.proofs.lemmas.Bool.{and_parts, and_from}
use Rattle.std.proofs.lemmas.List.{drop_more, get_or_default, take_more, take_rest}
use Rattle.nl_types.specs.declared.reply.Object.{Object}
use Rattle.nl_types.specs.declared.reply.Object.TheVariants.{Dir}
use Rattle.nl_types.specs.Plain.Paths.{Path, path_cmp, same_path}
use Rattle.nl_types.specs.Plain.Trees.{Tree, lookup, remove}
use Rattle.nl_types.specs.Facts.Booleans.{holds, is_true, not_true}
use Rattle.nl_types.specs.Facts.Lookups.{same_path-itself, lookup-remove}
use Rattle.nl_types.specs.Facts.TreeLaws.{path_total, same_path-equal}
use Rattle.nl_folders.specs.Private.Looking.{BeginsNotBelow, first_at}
use Rattle.nl_folders.specs.Private.Sides.{path_at}

-- ---- order

pub less_is : (o : Ordering) → is_lt o ≡ true → o ≡ Less
less_is Less h = refl
less_is Equal h = absurd (true≢false (sym h))
less_is Greater h = absurd (true≢false (sym h))

-- a path isn't one that it is below, nor one that is below it
pub apart_above : (p q : Path) → path_cmp p q ≡ Less → same_path q p ≡ false
apart_above p q less = ap is_eq (path_total.antisymm q p ∙ ap ordering_reverse less)

pub apart_below : (p q : Path) → path_cmp p q ≡ Less → same_path p q ≡ false
apart_below p q less = ap is_eq less

module _ {X : Type 0} where
  -- what is below all paths of a tree isn't among them
  pub absent : (p : Path) (tree : List (Path × X)) → below_all path_cmp p tree ≡ true → find path_cmp p tree ≡ None
  absent p [] below = refl
  absent p (e ∷ tree) below =
      let parts = and_parts (is_lt (path_cmp p e.0)) (below_all path_cmp p tree) below in
      ap (λ o. cond (is_eq o) (Some e.1) (find path_cmp p tree)) (less_is (path_cmp p e.0) parts.0)
      ∙ absent p tree parts.1

  -- what is below a path is below all that this one is below
  pub below_more : (p q : Path) (tree : List (Path × X)) → path_cmp p q ≡ Less → below_all path_cmp q tree ≡ true
      → below_all path_cmp p tree ≡ true
  below_more p q [] less below = refl
  below_more p q (e ∷ tree) less below =
      let parts = and_parts (is_lt (path_cmp q e.0)) (below_all path_cmp q tree) below in
      and_from (is_lt (path_cmp p e.0)) (below_all path_cmp p tree)
      (ap is_lt (path_total.trans p q e.0 less (less_is (path_cmp q e.0) parts.0)))
      (below_more p q tree less parts.1)

  -- what is below the first path of a tree in order isn't in it
  pub below_first : (p : Path) (e : Path × X) (tree : List (Path × X)) → path_cmp p e.0 ≡ Less
      → is_sorted path_cmp (e ∷ tree) ≡ true → find path_cmp p (e ∷ tree) ≡ None
  below_first p e tree less sorted =
      let parts = and_parts (below_all path_cmp e.0 tree) (is_sorted path_cmp tree) sorted in
      absent p (e ∷ tree)
      (and_from (is_lt (path_cmp p e.0)) (below_all path_cmp p tree) (ap is_lt less)
      (below_more p e.0 tree less parts.0))

  -- ---- places

  -- what is below all paths is below each
  pub below_drop : (p : Path) (e : Path × X) (tree rest : List (Path × X)) (k : ℕ) → below_all path_cmp p tree ≡ true
      → drop k tree ≡ e ∷ rest → path_cmp p e.0 ≡ Less
  below_drop p e [] rest zero below is = cc
  below_drop p e [] rest (suc k) below is = cc
  below_drop p e (x ∷ tree) rest zero below is =
      let head : x ≡ e = cc in
      let parts = and_parts (is_lt (path_cmp p x.0)) (below_all path_cmp p tree) below in
      ap (λ (y : Path × X). path_cmp p y.0) (sym head) ∙ less_is (path_cmp p x.0) parts.0
  below_drop p e (x ∷ tree) rest (suc k) below is =
      below_drop p e tree rest k (and_parts (is_lt (path_cmp p x.0)) (below_all path_cmp p tree) below).1 is

  pub sorted_drop : (tree : List (Path × X)) (k : ℕ) → is_sorted path_cmp tree ≡ true → is_sorted path_cmp (drop k tree) ≡ true
  sorted_drop [] zero sorted = refl
  sorted_drop [] (suc k) sorted = refl
  sorted_drop (x ∷ tree) zero sorted = sorted
  sorted_drop (x ∷ tree) (suc k) sorted =
      sorted_drop tree k (and_parts (below_all path_cmp x.0 tree) (is_sorted path_cmp tree) sorted).1

  -- an entry is found at its path
  pub entry_found : (tree rest : List (Path × X)) (e : Path × X) (k : ℕ) → is_sorted path_cmp tree ≡ true
      → drop k tree ≡ e ∷ rest → find path_cmp e.0 tree ≡ Some e.1
  entry_found [] rest e zero sorted is = cc
  entry_found [] rest e (suc k) sorted is = cc
  entry_found (x ∷ tree) rest e zero sorted is =
      let head : x ≡ e = cc in
      ap (λ (y : Path × X). find path_cmp e.0 (y ∷ tree)) head
      ∙ ap (λ b. cond b (Some e.1) (find path_cmp e.0 tree)) (same_path-itself e.0)
  entry_found (x ∷ tree) rest e (suc k) sorted is =
      let parts = and_parts (below_all path_cmp x.0 tree) (is_sorted path_cmp tree) sorted in
      ap (λ b. cond b (Some x.1) (find path_cmp e.0 tree)) (apart_above x.0 e.0 (below_drop x.0 e tree rest k parts.0 is))
      ∙ entry_found tree rest e k parts.1 is

  -- a path above that of an entry is found behind it
  pub found_behind : (tree rest : List (Path × X)) (e : Path × X) (k : ℕ) (q : Path) → is_sorted path_cmp tree ≡ true
      → drop k tree ≡ e ∷ rest → path_cmp e.0 q ≡ Less → find path_cmp q tree ≡ find path_cmp q rest
  found_behind [] rest e zero q sorted is less = cc
  found_behind [] rest e (suc k) q sorted is less = cc
  found_behind (x ∷ tree) rest e zero q sorted is less =
      let head : x ≡ e = cc in
      let tail : tree ≡ rest = cc in
      ap (λ b. cond b (Some x.1) (find path_cmp q tree))
      (apart_above x.0 q (ap (λ (y : Path × X). path_cmp y.0 q) head ∙ less))
      ∙ ap (λ (t : List (Path × X)). find path_cmp q t) tail
  found_behind (x ∷ tree) rest e (suc k) q sorted is less =
      let parts = and_parts (below_all path_cmp x.0 tree) (is_sorted path_cmp tree) sorted in
      let far = path_total.trans x.0 e.0 q (below_drop x.0 e tree rest k parts.0 is) less in
      ap (λ b. cond b (Some x.1) (find path_cmp q tree)) (apart_above x.0 q far)
      ∙ found_behind tree rest e k q parts.1 is less

  -- one below it before it
  pub found_before : (tree rest : List (Path × X)) (e : Path × X) (k : ℕ) (q : Path) → is_sorted path_cmp tree ≡ true
      → drop k tree ≡ e ∷ rest → path_cmp q e.0 ≡ Less → find path_cmp q (take k tree) ≡ find path_cmp q tree
  found_before [] rest e zero q sorted is less = cc
  found_before [] rest e (suc k) q sorted is less = cc
  found_before (x ∷ tree) rest e zero q sorted is less =
      let head : x ≡ e = cc in
      sym (below_first q x tree (ap (λ (y : Path × X). path_cmp q y.0) head ∙ less) sorted)
  found_before (x ∷ tree) rest e (suc k) q sorted is less =
      let parts = and_parts (below_all path_cmp x.0 tree) (is_sorted path_cmp tree) sorted in
      ap (cond (same_path q x.0) (Some x.1)) (found_before tree rest e k q parts.1 is less)

  -- and its own path neither before nor behind it
  pub not_before : (tree rest : List (Path × X)) (e : Path × X) (k : ℕ) → is_sorted path_cmp tree ≡ true
      → drop k tree ≡ e ∷ rest → find path_cmp e.0 (take k tree) ≡ None
  not_before [] rest e zero sorted is = refl
  not_before [] rest e (suc k) sorted is = refl
  not_before (x ∷ tree) rest e zero sorted is = refl
  not_before (x ∷ tree) rest e (suc k) sorted is =
      let parts = and_parts (below_all path_cmp x.0 tree) (is_sorted path_cmp tree) sorted in
      ap (λ b. cond b (Some x.1) (find path_cmp e.0 (take k tree)))
      (apart_above x.0 e.0 (below_drop x.0 e tree rest k parts.0 is))
      ∙ not_before tree rest e k parts.1 is

  pub not_behind : (tree rest : List (Path × X)) (e : Path × X) (k : ℕ) → is_sorted path_cmp tree ≡ true
      → drop k tree ≡ e ∷ rest → find path_cmp e.0 rest ≡ None
  not_behind tree rest e k sorted is =
      let left : is_sorted path_cmp (e ∷ rest) ≡ true =
      ap (is_sorted path_cmp) (sym is) ∙ sorted_drop tree k sorted in
      absent e.0 rest (and_parts (below_all path_cmp e.0 rest) (is_sorted path_cmp rest) left).0

-- ---- a place by its index

module _ {X : Type 0} where
  -- the entries from a place on, by what is read there
  pub place_is : (tree : List (Path × X)) (k : ℕ) (e : Path × X) → k < length tree → e ≡ get_or tree k e
      → drop k tree ≡ e ∷ drop (k + 1) tree
  place_is tree k e within is =
      drop_more tree k e within ∙ ap (λ (x : Path × X). x ∷ drop (k + 1) tree) (sym is)

-- its path, by what is read there
pub path_read : (tree : Tree) (k : ℕ) (e : Path × Object) → k < length tree → path_at tree k ≡ (get_or tree k e).0
path_read tree k e within = ap (λ (x : Path × Object). x.0) (get_or_default tree k ([], Dir) e within)

-- an entry is found at its path
pub found_at_place : (tree : Tree) (k : ℕ) → k < length tree → is_sorted path_cmp tree ≡ true
    → lookup tree (path_at tree k) ≡ Some (get_or tree k ([], Dir)).1
found_at_place tree k within sorted =
    let e : Path × Object = get_or tree k ([], Dir) in
    entry_found tree (drop (k + 1) tree) e k sorted (drop_more tree k ([], Dir) within)

-- and those before the next one
pub taken_is : (tree : Tree) (k : ℕ) (e : Path × Object) → k < length tree → e ≡ get_or tree k e
    → take (k + 1) tree ≡ take k tree ++ e ∷ []
taken_is tree k e within is =
    take_more tree k e within ∙ ap (λ (x : Path × Object). take k tree ++ x ∷ []) (sym is)

-- with an entry more, its path is found beside the others
pub found_pushed : (entries : Tree) (e : Path × Object) (q : Path)
    → is_some (lookup (entries ++ e ∷ []) q) ≡ (is_some (lookup entries q) || same_path q e.0)
found_pushed [] e q =
    elim (same_path q e.0) as (λ b. is_some (cond b (Some e.1) None) ≡ (false || b))
    [ true ↦ refl | false ↦ refl ]
found_pushed (x ∷ entries) e q =
    elim (same_path q x.0) as (λ b.
    is_some (cond b (Some x.1) (lookup (entries ++ e ∷ []) q))
    ≡ (is_some (cond b (Some x.1) (lookup entries q)) || same_path q e.0))
    [ true ↦ refl | false ↦ found_pushed entries e q ]

-- ---- a look from a place on

module _ {X : Type 0} where
  -- where no entry below a path is left, the first one has it or none
  pub first_found : (entries : List (Path × X)) (path : Path) → is_sorted path_cmp entries ≡ true → BeginsNotBelow path entries
      → find path_cmp path entries ≡ first_at entries path
  first_found [] path sorted begins = refl
  first_found (e ∷ entries) path sorted begins =
      let parts = and_parts (below_all path_cmp e.0 entries) (is_sorted path_cmp entries) sorted in
      elim (path_cmp path e.0) as (λ o. path_cmp path e.0 ≡ o
      → cond (is_eq o) (Some e.1) (find path_cmp path entries) ≡ cond (is_eq o) (Some e.1) None) [
        | Less ↦ λ less. absent path entries (below_more path e.0 entries less parts.0)
        | Equal ↦ λ _. refl
        | Greater ↦ λ greater.
            absurd (true≢false
            (sym (ap is_lt (path_total.antisymm e.0 path ∙ ap ordering_reverse greater)) ∙ begins))
      ] refl

  -- the same of what is left as code takes it
  pub first_left : (entries : List (Path × X)) (k : ℕ) (path : Path)
      → first_at (take (length entries - k) (drop k entries)) path ≡ first_at (drop k entries) path
  first_left entries k path = ap (λ (left : List (Path × X)). first_at left path) (take_rest entries k)

  pub first_found_from : (entries : List (Path × X)) (k : ℕ) (path : Path) → is_sorted path_cmp entries ≡ true
      → BeginsNotBelow path (drop k entries) → find path_cmp path (drop k entries) ≡ first_at (drop k entries) path
  first_found_from entries k path sorted begins =
      first_found (drop k entries) path (sorted_drop entries k sorted) begins

-- ---- counting

-- a tree in order whose paths are all in another one isn't longer
pub no_longer : (one other : Tree) → is_sorted path_cmp one ≡ true → is_sorted path_cmp other ≡ true
    → ((q : Path) → is_some (lookup one q) ≡ true → is_some (lookup other q) ≡ true)
    → length one ≤ length other
no_longer [] other sorted t among = omega arith
no_longer (e ∷ one) other sorted t among =
    let parts = and_parts (below_all path_cmp e.0 one) (is_sorted path_cmp one) sorted in
    let rest : Tree = remove other e.0 in
    let t_rest = is_sorted-where_key path_cmp (λ x. not (same_path e.0 x)) other (holds _ t) in
    let fewer = no_longer one rest parts.1 (is_true (is_sorted path_cmp rest) t_rest) (left parts.0) in
    let there : is_some (lookup other e.0) ≡ true =
    among e.0 (ap (λ b. is_some (cond b (Some e.1) (lookup one e.0))) (same_path-itself e.0)) in
    let counted = length_without path_cmp path_total e.0 other (holds _ t) in
    let one_less : 1 + length rest ≡ length other =
    subst (λ b. cond b 1 0 + length rest ≡ length other) there counted in
    omega (arith, fewer, one_less)
  where
    left : below_all path_cmp e.0 one ≡ true
        → (q : Path) → is_some (lookup one q) ≡ true → is_some (lookup (remove other e.0) q) ≡ true
    left below q there =
        let apart : same_path e.0 q ≡ false =
        not_true (same_path e.0 q) (λ tied.
        true≢false (sym there
        ∙ ap (λ (p : Path). is_some (lookup one p)) (sym (same_path-equal e.0 q tied))
        ∙ ap is_some (absent e.0 one below))) in
        let wide : is_some (lookup (e ∷ one) q) ≡ true =
        elim (same_path q e.0) as (λ b. is_some (cond b (Some e.1) (lookup one q)) ≡ true)
        [ true ↦ refl | false ↦ there ] in
        ap is_some (lookup-remove other e.0 q)
        ∙ ap (λ b. is_some (cond b None (lookup other q))) apart
        ∙ among q wide
