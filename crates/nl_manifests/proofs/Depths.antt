-- Behind a directory of the host longer paths are below it, up to the first one that isn't longer.
use Rattle.std.proofs.Common.{◌≡◌, ◌⊎◌, ◌+◌, ◌<◌, ◌≤◌, Bool, true, false, cond, List, [], ◌∷◌, ◌++◌, Some, None, refl, sym, ap, ◌∙◌, true≢false, length, length-append, arith, append_assoc, inl, inr}
use Rattle.std.specs.declared.cmp.Ordering.{Ordering}
use Rattle.std.specs.declared.cmp.Ordering.TheVariants.{Less, Equal, Greater}
use Rattle.std.specs.Ordering.{is_eq, is_lt, ordering_then, ordering_reverse}
use Rattle.std.specs.List.{list_all}
use Rattle.std.specs.FinMap.{find, is_sorted}
use Rattle.std.specs.FinMap.Entries.{below_all}
use Rattle.std.proofs.lemmas.Bool.{and_parts, and_from}
use Rattle.nl_types.specs.Plain.Paths.{Name, Path, is_within, name_cmp, path_cmp, same_name}
use Rattle.nl_types.specs.Facts.Booleans.{not_true}
use Rattle.nl_types.specs.Facts.Lookups.{same_name-equal, same_name-itself}
use Rattle.nl_types.specs.Facts.TreeLaws.{path_total, paths_equal}
use Rattle.nl_manifests.specs.declared.host_tree.HostEntry.{HostEntry}
use Rattle.nl_manifests.specs.HostTrees.{HostTree, parted}
use Rattle.nl_manifests.specs.Sealed.{is_host_entry, is_host_tree, is_placed, is_whole}
use Rattle.nl_manifests.specs.Private.Sealing.{EachEndsByLength, EndsByLength}
use Rattle.nl_manifests.proofs.HostLines.{above_child, behind_all}
use Rattle.nl_manifests.proofs.Kept.{not_none}
use Rattle.nl_manifests.proofs.SealedParts.{before_entry, sorted_from}
use Rattle.nl_manifests.proofs.SealedTrees.{in_order, stands_by}
use Rattle.nl_manifests.proofs.Shown.{ending_of, parted_ends}
use Rattle.nl_manifests.proofs.Sorted.{absent, less_is, turned}

-- ---- paths

within_itself : (dir : Path) → is_within dir dir ≡ true
within_itself [] = refl
within_itself (n ∷ dir) = and_from (same_name n n) (is_within dir dir) (same_name-itself n) (within_itself dir)

within_more : (dir p rest : Path) → is_within dir p ≡ true → is_within dir (p ++ rest) ≡ true
within_more [] p rest within = refl
within_more (n ∷ dir) [] rest within = absurd (true≢false (sym within))
within_more (n ∷ dir) (m ∷ p) rest within =
    let parts = and_parts (same_name n m) (is_within dir p) within in
    and_from (same_name n m) (is_within dir (p ++ rest)) parts.0 (within_more dir p rest parts.1)

-- what comes behind a directory and is in it is longer
within_longer : (dir p : Path) → is_within dir p ≡ true → path_cmp dir p ≡ Less → length dir < length p
within_longer [] [] within less = cc
within_longer [] (m ∷ p) within less = omega arith
within_longer (n ∷ dir) [] within less = absurd (true≢false (sym within))
within_longer (n ∷ dir) (m ∷ p) within less =
    let parts = and_parts (same_name n m) (is_within dir p) within in
    let rest = within_longer dir p parts.1 (by (name_cmp n m) parts.0 less) in
    omega (arith, rest)
  where
    by : (o : Ordering) → is_eq o ≡ true → ordering_then o (path_cmp dir p) ≡ Less → path_cmp dir p ≡ Less
    by Less same then = absurd (true≢false (sym same))
    by Equal same then = then
    by Greater same then = absurd (true≢false (sym same))

-- the shorter one of two that a path is in has the other in it
within_shorter : (a b p : Path) → is_within a p ≡ true → is_within b p ≡ true → length a ≤ length b
    → is_within a b ≡ true
within_shorter [] b p in_a in_b short = refl
within_shorter (n ∷ a) [] p in_a in_b short = absurd (omega (arith, short))
within_shorter (n ∷ a) (m ∷ b) [] in_a in_b short = absurd (true≢false (sym in_a))
within_shorter (n ∷ a) (m ∷ b) (x ∷ p) in_a in_b short =
    let first = and_parts (same_name n x) (is_within a p) in_a in
    let second = and_parts (same_name m x) (is_within b p) in_b in
    let less : length a ≤ length b = omega (arith, short) in
    and_from (same_name n m) (is_within a b)
    (ap (same_name n) (same_name-equal m x second.0) ∙ first.0)
    (within_shorter a b p first.1 second.1 less)

-- what lies between a directory and a name in it is in the directory
between : (dir p : Path) (n : Name) → path_cmp dir p ≡ Less → path_cmp p (dir ++ n ∷ []) ≡ Less
    → is_within dir p ≡ true
between dir p n less next =
    elim (is_within dir p) as (λ t. is_within dir p ≡ t → t ≡ true) [
      | true ↦ λ _. refl
      | false ↦ λ apart.
          let before = turned (dir ++ n ∷ []) p (behind_all dir p (n ∷ []) apart less) in
          let both : Less ≡ Greater = sym next ∙ before in
          cc
    ] refl

not_first : (dir : Path) → path_cmp dir [] ≡ Less → ⊥
not_first [] less = cc
not_first (n ∷ dir) less = cc

-- ---- entries

below_more : (p q : Path) (es : HostTree) → path_cmp p q ≡ Less → below_all path_cmp q es ≡ true
    → below_all path_cmp p es ≡ true
below_more p q [] less below = refl
below_more p q (e ∷ es) less below =
    let parts = and_parts (is_lt (path_cmp q e.0)) (below_all path_cmp q es) below in
    and_from (is_lt (path_cmp p e.0)) (below_all path_cmp p es)
    (ap is_lt (path_total.trans p q e.0 less (less_is (path_cmp q e.0) parts.0)))
    (below_more p q es less parts.1)

-- a look-up passes over what is before its path
passed : (p : Path) (e : Path × HostEntry) (es : HostTree) → path_cmp e.0 p ≡ Less
    → find path_cmp p (e ∷ es) ≡ find path_cmp p es
passed p e es less = ap (λ o. cond (is_eq o) (Some e.1) (find path_cmp p es)) (turned e.0 p less)

passed_all : (p : Path) (front : HostTree) (y : Path × HostEntry) (es : HostTree)
    → list_all (λ x. is_lt (path_cmp x.0 y.0)) front ≡ true → path_cmp y.0 p ≡ Less
    → find path_cmp p (front ++ y ∷ es) ≡ find path_cmp p es
passed_all p [] y es before less = passed p y es less
passed_all p (z ∷ front) y es before less =
    let parts = and_parts (is_lt (path_cmp z.0 y.0)) (list_all (λ x. is_lt (path_cmp x.0 y.0)) front) before in
    passed p z (front ++ y ∷ es) (path_total.trans z.0 y.0 p (less_is (path_cmp z.0 y.0) parts.0) less)
    ∙ passed_all p front y es parts.1 less

-- nothing stands between two neighbours
none_between : (p : Path) (front : HostTree) (y x : Path × HostEntry) (es : HostTree)
    → is_sorted path_cmp (front ++ y ∷ x ∷ es) ≡ true → path_cmp y.0 p ≡ Less → path_cmp p x.0 ≡ Less
    → find path_cmp p (front ++ y ∷ x ∷ es) ≡ None
none_between p front y x es sorted less next =
    let here = sorted_from front (y ∷ x ∷ es) sorted in
    let parts = and_parts (below_all path_cmp y.0 (x ∷ es)) (is_sorted path_cmp (x ∷ es)) here in
    let behind = and_parts (below_all path_cmp x.0 es) (is_sorted path_cmp es) parts.1 in
    passed_all p front y (x ∷ es) (before_entry front y (x ∷ es) sorted) less
    ∙ absent p (x ∷ es)
    (and_from (is_lt (path_cmp p x.0)) (below_all path_cmp p es) (ap is_lt next)
    (below_more p x.0 es next behind.0))

among : {X : Type 0} (P : X → Bool) (front : List X) (x : X) (es : List X) → list_all P (front ++ x ∷ es) ≡ true
    → P x ≡ true
among P [] x es all = (and_parts (P x) (list_all P es) all).0
among P (y ∷ front) x es all = among P front x es (and_parts (P y) (list_all P (front ++ x ∷ es)) all).1

module _ (shown : HostTree) (whole : is_host_tree shown ≡ true) where
  sorted_at : (front es : HostTree) → shown ≡ front ++ es → is_sorted path_cmp (front ++ es) ≡ true
  sorted_at front es is = ap (is_sorted path_cmp) (sym is) ∙ in_order shown whole

  -- the directory of an entry stands in the tree
  directory_stands : (front : HostTree) (x : Path × HostEntry) (es : HostTree) (dir : Path) (n : Name)
      → shown ≡ front ++ x ∷ es → x.0 ≡ dir ++ n ∷ []
      → find path_cmp dir shown ≡ None → ⊥
  directory_stands front x es dir n is at none =
      let first = and_parts (is_sorted path_cmp shown) _ whole in
      let each = and_parts _ (list_all (is_host_entry shown) shown) first.1 in
      let own =
      among (is_host_entry shown) front x es (ap (list_all (is_host_entry shown)) (sym is) ∙ each.1) in
      let placed = and_parts (is_whole x.1.object x.1.attributes) (is_placed shown (parted x.0) x.1) own in
      let stands =
      stands_by shown dir n x.1
      (ap (λ o. is_placed shown o x.1) (sym (ap parted at ∙ parted_ends dir n)) ∙ placed.1) in
      not_none stands.above (sym none ∙ stands.found)

  -- and the entry before it is the directory, or in it
  follows : (front : HostTree) (y x : Path × HostEntry) (es : HostTree) (dir : Path) (n : Name)
      → shown ≡ front ++ y ∷ x ∷ es → x.0 ≡ dir ++ n ∷ [] → path_cmp y.0 x.0 ≡ Less
      → is_within dir y.0 ≡ true
  follows front y x es dir n is at less = by (path_cmp y.0 dir) refl
    where
      above : path_cmp dir x.0 ≡ Less
      above = ap (path_cmp dir) at ∙ above_child dir n

      by : (o : Ordering) → path_cmp y.0 dir ≡ o → is_within dir y.0 ≡ true
      by Less before =
          absurd (directory_stands (front ++ y ∷ []) x es dir n (is ∙ sym (append_assoc front (y ∷ []) (x ∷ es))) at
          (ap (find path_cmp dir) is
          ∙ none_between dir front y x es (sorted_at front (y ∷ x ∷ es) is) before above))
      by Equal same = ap (is_within dir) (paths_equal y.0 dir same) ∙ within_itself dir
      by Greater behind =
          between dir y.0 n (path_total.antisymm dir y.0 ∙ ap ordering_reverse behind)
          (ap (path_cmp y.0) (sym at) ∙ less)

  ends : (front : HostTree) (y : Path × HostEntry) (es : HostTree) (dir : Path) → shown ≡ front ++ y ∷ es
      → is_within dir y.0 ≡ true → below_all path_cmp dir es ≡ true → EndsByLength dir es
  ends front y [] dir is within below = tt
  ends front y (x ∷ es) dir is within below = (
    λ longer. let inside = in_it longer (ending_of x.0) in (
      inside,
      ends (front ++ y ∷ []) x es dir (is ∙ sym (append_assoc front (y ∷ []) (x ∷ es))) inside parts.1,
    ),
    λ short. not_true (is_within dir x.0) (λ inside.
        let longer = within_longer dir x.0 inside less in
        omega (arith, short, longer)),
  )
    where
      parts : (is_lt (path_cmp dir x.0) ≡ true) × (below_all path_cmp dir es ≡ true)
      parts = and_parts (is_lt (path_cmp dir x.0)) (below_all path_cmp dir es) below

      less : path_cmp dir x.0 ≡ Less
      less = less_is (path_cmp dir x.0) parts.0

      rises : path_cmp y.0 x.0 ≡ Less
      rises =
          let here = sorted_from front (y ∷ x ∷ es) (sorted_at front (y ∷ x ∷ es) is) in
          let first = and_parts (below_all path_cmp y.0 (x ∷ es)) (is_sorted path_cmp (x ∷ es)) here in
          less_is (path_cmp y.0 x.0)
          (and_parts (is_lt (path_cmp y.0 x.0)) (below_all path_cmp y.0 es) first.0).0

      in_it : length dir < length x.0
          → (x.0 ≡ []) ⊎ ((above : Path) × (name : Name) × (x.0 ≡ above ++ name ∷ []))
          → is_within dir x.0 ≡ true
      in_it longer (inl none) = absurd (not_first dir (ap (path_cmp dir) (sym none) ∙ less))
      in_it longer (inr some) =
          let size : length x.0 ≡ length some.0 + 1 =
          ap (λ (p : Path). length p) some.2 ∙ length-append some.0 (some.1 ∷ []) in
          let short : length dir ≤ length some.0 = omega (arith, longer, size) in
          ap (is_within dir) some.2
          ∙ within_more dir some.0 (some.1 ∷ [])
          (within_shorter dir some.0 y.0 within (follows front y x es some.0 some.1 is some.2 rises) short)

  each_ends : (front es : HostTree) → shown ≡ front ++ es → EachEndsByLength es
  each_ends front [] is = tt
  each_ends front (e ∷ es) is =
      let here = sorted_from front (e ∷ es) (sorted_at front (e ∷ es) is) in
      let parts = and_parts (below_all path_cmp e.0 es) (is_sorted path_cmp es) here in (
        ends front e es e.0 is (within_itself e.0) parts.0,
        each_ends (front ++ e ∷ []) es (is ∙ sym (append_assoc front (e ∷ []) es)),
      )

  pub each_ends_by_length : EachEndsByLength shown
  each_ends_by_length = each_ends [] shown refl
