-- Entries that come to others in order of their paths.
use Rattle.std.proofs.Common.{◌≡◌, ◌⊎◌, inl, inr, Bool, true, false, cond, not, ◌&&◌, [], ◌∷◌, ◌++◌, Option, Some, None, is_some, refl, sym, ap, ◌∙◌, true≢false}
use Rattle.std.proofs.lemmas.Bool.{and_parts, and_from}
use Rattle.std.specs.List.{filter}
use Rattle.std.specs.declared.cmp.Ordering.{Ordering}
use Rattle.std.specs.declared.cmp.Ordering.TheVariants.{Less, Equal, Greater}
use Rattle.std.specs.Ordering.{is_lt, ordering_reverse, ordering_then}
use Rattle.std.specs.Cmp.{tied_itself}
use Rattle.std.specs.Cmp.Lexicographic.{nat_list_cmp_total}
use Rattle.std.specs.FinMap.{find, is_sorted}
use Rattle.std.specs.FinMap.Entries.{below_all, find-where_key, is_sorted-where_key}
use Rattle.nl_types.specs.Plain.Paths.{Name, Path, name_cmp, path_cmp, same_name, same_path, is_within}
use Rattle.nl_types.specs.Facts.Booleans.{holds, is_true}
use Rattle.nl_types.specs.Facts.Lookups.{names_equal, same_name-equal, same_name-itself, same_path-itself}
use Rattle.nl_types.specs.Facts.TreeLaws.{path_total, paths_equal}
use Rattle.nl_manifests.specs.declared.host_tree.HostEntry.{HostEntry}
use Rattle.nl_manifests.specs.HostTrees.{HostTree}
use Rattle.nl_shown.specs.Reverted.{IsInOrder}
use Rattle.nl_shown.specs.Private.Inserting.{before_path, behind_path, inserted}

-- ---- look-ups

abbrev pub first_of : (one other : Option HostEntry) → Option HostEntry
first_of None other = other
first_of (Some e) other = Some e

first_alone : (one : Option HostEntry) → first_of one None ≡ one
first_alone None = refl
first_alone (Some e) = refl

found-append : (xs ys : HostTree) (q : Path)
    → find path_cmp q (xs ++ ys) ≡ first_of (find path_cmp q xs) (find path_cmp q ys)
found-append [] ys q = refl
found-append (e ∷ xs) ys q =
    elim (same_path q e.0) as (λ b.
    cond b (Some e.1) (find path_cmp q (xs ++ ys))
    ≡ first_of (cond b (Some e.1) (find path_cmp q xs)) (find path_cmp q ys)) [
      | true ↦ refl
      | false ↦ found-append xs ys q
    ]

pub found_where : (P : Path → Bool) (es : HostTree) (q : Path)
    → find path_cmp q (filter (λ e. P e.0) es) ≡ cond (P q) (find path_cmp q es) None
found_where P es q = find-where_key path_cmp P q (λ x tied. ap P (sym (paths_equal q x tied))) es

pub sorted_where : (P : Path → Bool) (es : HostTree) → IsInOrder es → IsInOrder (filter (λ e. P e.0) es)
sorted_where P es sorted = is_true _ (is_sorted-where_key path_cmp P es (holds _ sorted))

chosen : (b : Bool) (one other : Option HostEntry)
    → first_of (cond b other None) (first_of one (cond (not b) other None))
    ≡ cond b (first_of other one) (first_of one other)
chosen true one other = ap (first_of other) (first_alone one)
chosen false one other = refl

module _ (at : Path) (part tree : HostTree) (q : Path) where
  found : find path_cmp q (inserted at part tree)
      ≡ cond (is_lt (path_cmp q at)) (first_of (find path_cmp q tree) (find path_cmp q part))
      (first_of (find path_cmp q part) (find path_cmp q tree))
  found =
      let one = found_where (λ p. is_lt (path_cmp p at)) tree q in
      let other = found_where (λ p. not (is_lt (path_cmp p at))) tree q in
      found-append (before_path at tree) (part ++ behind_path at tree) q
      ∙ ap (first_of (find path_cmp q (before_path at tree))) (found-append part (behind_path at tree) q)
      ∙ (λ i. first_of (one i) (first_of (find path_cmp q part) (other i)))
      ∙ chosen (is_lt (path_cmp q at)) (find path_cmp q part) (find path_cmp q tree)

  by_choice : (b : Bool) (one other : Option HostEntry) → other ≡ None
      → cond b (first_of other one) (first_of one other) ≡ one
  by_choice true one other none = ap (λ o. first_of o one) none
  by_choice false one other none = ap (first_of one) none ∙ first_alone one

  by_other : (b : Bool) (one other : Option HostEntry) → one ≡ None
      → cond b (first_of other one) (first_of one other) ≡ other
  by_other true one other none = ap (first_of other) none ∙ first_alone other
  by_other false one other none = ap (λ o. first_of o other) none

  -- what isn't in the tree is found in the part, and the other way round
  pub found_in_part : find path_cmp q tree ≡ None
      → find path_cmp q (inserted at part tree) ≡ find path_cmp q part
  found_in_part none = found ∙ by_choice (is_lt (path_cmp q at)) _ _ none

  pub found_in_tree : find path_cmp q part ≡ None
      → find path_cmp q (inserted at part tree) ≡ find path_cmp q tree
  found_in_tree none = found ∙ by_other (is_lt (path_cmp q at)) _ _ none

-- ---- order

-- something is at the path
abbrev pub Has : HostTree → Path → Type 0
Has es q = is_some (find path_cmp q es) ≡ true

has_head : (e : Path × HostEntry) (es : HostTree) → Has (e ∷ es) e.0
has_head e es = ap (λ b. is_some (cond b (Some e.1) (find path_cmp e.0 es))) (same_path-itself e.0)

has_tail : (e : Path × HostEntry) (es : HostTree) (q : Path) → Has es q → Has (e ∷ es) q
has_tail e es q has =
    elim (same_path q e.0) as (λ b. is_some (cond b (Some e.1) (find path_cmp q es)) ≡ true)
    [ true ↦ refl | false ↦ has ]

pub has_where : (P : Path → Bool) (es : HostTree) (q : Path) → Has (filter (λ e. P e.0) es) q
    → (P q ≡ true) × Has es q
has_where P es q has =
    elim (P q) as (λ b. P q ≡ b → is_some (cond b (find path_cmp q es) None) ≡ true → (P q ≡ true) × Has es q) [
      | true ↦ λ is there. (is, there)
      | false ↦ λ is none. absurd (true≢false (sym none))
    ] refl (sym (ap is_some (found_where P es q)) ∙ has)

has_either : (xs ys : HostTree) (q : Path) → Has (xs ++ ys) q → Has xs q ⊎ Has ys q
has_either xs ys q has = by (find path_cmp q xs) refl (sym (ap is_some (found-append xs ys q)) ∙ has)
  where
    by : (o : Option HostEntry) → find path_cmp q xs ≡ o → is_some (first_of o (find path_cmp q ys)) ≡ true
        → Has xs q ⊎ Has ys q
    by None is there = inr there
    by (Some e) is there = inl (ap is_some is)

below_from : (k : Path) (es : HostTree) → ((y : Path) → Has es y → path_cmp k y ≡ Less)
    → below_all path_cmp k es ≡ true
below_from k [] each = refl
below_from k (e ∷ es) each =
    and_from (is_lt (path_cmp k e.0)) (below_all path_cmp k es) (ap is_lt (each e.0 (has_head e es)))
    (below_from k es (λ y has. each y (has_tail e es y has)))

below-append : (k : Path) (xs ys : HostTree) → below_all path_cmp k xs ≡ true → below_all path_cmp k ys ≡ true
    → below_all path_cmp k (xs ++ ys) ≡ true
below-append k [] ys one other = other
below-append k (e ∷ xs) ys one other =
    let parts = and_parts (is_lt (path_cmp k e.0)) (below_all path_cmp k xs) one in
    and_from (is_lt (path_cmp k e.0)) (below_all path_cmp k (xs ++ ys)) parts.0
    (below-append k xs ys parts.1 other)

sorted-append : (xs ys : HostTree) → IsInOrder xs → IsInOrder ys
    → ((x y : Path) → Has xs x → Has ys y → path_cmp x y ≡ Less) → IsInOrder (xs ++ ys)
sorted-append [] ys one other apart = other
sorted-append (e ∷ xs) ys one other apart =
    let parts = and_parts (below_all path_cmp e.0 xs) (is_sorted path_cmp xs) one in
    and_from (below_all path_cmp e.0 (xs ++ ys)) (is_sorted path_cmp (xs ++ ys))
    (below-append e.0 xs ys parts.0 (below_from e.0 ys (λ y has. apart e.0 y (has_head e xs) has)))
    (sorted-append xs ys parts.1 other (λ x y has. apart x y (has_tail e xs x has)))

pub turned : (p q : Path) → path_cmp p q ≡ Greater → path_cmp q p ≡ Less
turned p q greater = path_total.antisymm q p ∙ ap ordering_reverse greater

less_is : (o : Ordering) → is_lt o ≡ true → o ≡ Less
less_is Less is = refl
less_is Equal is = absurd (true≢false (sym is))
less_is Greater is = absurd (true≢false (sym is))

-- what is below a path is below all that isn't
below_others : (x at y : Path) → is_lt (path_cmp x at) ≡ true → is_lt (path_cmp y at) ≡ false
    → path_cmp x y ≡ Less
below_others x at y low high = by (path_cmp y at) refl high
  where
    by : (o : Ordering) → path_cmp y at ≡ o → is_lt o ≡ false → path_cmp x y ≡ Less
    by Less is late = absurd (true≢false late)
    by Equal is late = ap (path_cmp x) (paths_equal y at is) ∙ less_is (path_cmp x at) low
    by Greater is late = path_total.trans x at y (less_is (path_cmp x at) low) (turned y at is)

pub sorted-inserted : (at : Path) (part tree : HostTree) → IsInOrder part → IsInOrder tree
    → ((k : Path) → Has part k → is_lt (path_cmp k at) ≡ false)
    → ((k y : Path) → Has part k → Has tree y → is_lt (path_cmp y at) ≡ false → path_cmp k y ≡ Less)
    → IsInOrder (inserted at part tree)
sorted-inserted at part tree one other low high =
    sorted-append (before_path at tree) (part ++ behind_path at tree)
    (sorted_where (λ p. is_lt (path_cmp p at)) tree other)
    (sorted-append part (behind_path at tree) one
    (sorted_where (λ p. not (is_lt (path_cmp p at))) tree other)
    (λ k y in_part later. let has = late y later in high k y in_part has.1 has.0))
    (λ x y early late_or. below_others x at y (has_where (λ p. is_lt (path_cmp p at)) tree x early).0
    (not_early y (has_either part (behind_path at tree) y late_or)))
  where
    not_is : (b : Bool) → not b ≡ true → b ≡ false
    not_is true is = absurd (true≢false (sym is))
    not_is false is = refl

    late : (y : Path) → Has (behind_path at tree) y → (is_lt (path_cmp y at) ≡ false) × Has tree y
    late y has =
        let both = has_where (λ p. not (is_lt (path_cmp p at))) tree y has in
        (not_is (is_lt (path_cmp y at)) both.0, both.1)

    not_early : (y : Path) → Has part y ⊎ Has (behind_path at tree) y → is_lt (path_cmp y at) ≡ false
    not_early y (inl has) = low y has
    not_early y (inr has) = (late y has).0

-- ---- paths below another one

-- what lies at or below a path isn't before it
pub not_before : (top q : Path) → is_within top q ≡ true → is_lt (path_cmp q top) ≡ false
not_before [] [] is = refl
not_before [] (m ∷ q) is = refl
not_before (n ∷ top) [] is = absurd (true≢false (sym is))
not_before (n ∷ top) (m ∷ q) is =
    let parts = and_parts (same_name n m) (is_within top q) is in
    let tied : name_cmp m n ≡ Equal =
    ap (λ (x : Name). name_cmp m x) (same_name-equal n m parts.0) ∙ tied_itself nat_list_cmp_total m in
    ap (λ o. is_lt (ordering_then o (path_cmp q top))) tied ∙ not_before top q parts.1

-- what comes behind a path, but not at or below it, comes behind all that is there
pub behind_all : (top k y : Path) → is_within top k ≡ true → is_within top y ≡ false
    → is_lt (path_cmp y top) ≡ false → path_cmp k y ≡ Less
behind_all [] k y inside apart late = absurd (true≢false apart)
behind_all (n ∷ top) [] y inside apart late = absurd (true≢false (sym inside))
behind_all (n ∷ top) (m ∷ k) [] inside apart late = absurd (true≢false late)
behind_all (n ∷ top) (m ∷ k) (z ∷ y) inside apart late = by (behind_all top k y) (name_cmp z n) refl late
  where
    parts : (same_name n m ≡ true) × (is_within top k ≡ true)
    parts = and_parts (same_name n m) (is_within top k) inside

    first : m ≡ n
    first = sym (same_name-equal n m parts.0)

    by : (is_within top k ≡ true → is_within top y ≡ false → is_lt (path_cmp y top) ≡ false
        → path_cmp k y ≡ Less) → (o : Ordering) → name_cmp z n ≡ o
        → is_lt (ordering_then o (path_cmp y top)) ≡ false
        → ordering_then (name_cmp m z) (path_cmp k y) ≡ Less
    by rest Less is behind = absurd (true≢false behind)
    by rest Equal is behind =
        let same : z ≡ n = names_equal z n is in
        let tied : name_cmp m z ≡ Equal =
        ap (name_cmp m) (same ∙ sym first) ∙ tied_itself nat_list_cmp_total m in
        let one : same_name n z ≡ true = ap (same_name n) same ∙ same_name-itself n in
        let other : is_within top y ≡ false = sym (ap (λ b. b && is_within top y) one) ∙ apart in
        ap (λ o. ordering_then o (path_cmp k y)) tied ∙ rest parts.1 other behind
    by rest Greater is behind =
        let less : name_cmp m z ≡ Less =
        ap (λ (x : Name). name_cmp x z) first ∙ nat_list_cmp_total.antisymm n z ∙ ap ordering_reverse is in
        ap (λ o. ordering_then o (path_cmp k y)) less
