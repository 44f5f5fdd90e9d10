-- Entries that lie at a path or below it stand side by side in a tree in order.
use Rattle.std.proofs.Common.{◌≡◌, Option, Some, None, is_some, ◌⊎◌, ℕ, zero, suc, ◌+◌, ◌-◌, ◌<◌, ◌≤◌, Bool, true, false, cond, [], ◌∷◌, ◌++◌, map, filter, length, take, drop, get_or, refl, sym, ap, ◌∙◌, true≢false, arith, inl, inr, append-nil}
use Rattle.std.specs.declared.cmp.Ordering.{Ordering}
use Rattle.std.specs.declared.cmp.Ordering.TheVariants.{Less, Equal, Greater}
use Rattle.std.specs.Ordering.{is_lt, is_eq, ordering_reverse, ordering_then}
use Rattle.std.specs.Cmp.Lexicographic.{nat_list_cmp_total}
use Rattle.std.specs.FinMap.{is_sorted}
use Rattle.std.specs.Option.{option_map}
use Rattle.std.specs.FinMap.Entries.{below_all}
use Rattle.std.proofs.lemmas.Bool.{and_from, and_parts, cases_order}
use Rattle.std.proofs.lemmas.List.{drop_more, drop-drop}
use Rattle.nl_types.specs.declared.reply.Object.{Object}
use Rattle.nl_types.specs.declared.reply.Object.TheVariants.{Dir}
use Rattle.nl_types.specs.Plain.Paths.{Name, Path, name_cmp, path_cmp, same_name, same_path, is_within}
use Rattle.nl_types.specs.Plain.Trees.{Tree, lookup}
use Rattle.nl_types.specs.Facts.Booleans.{not_true}
use Rattle.nl_types.specs.Facts.Lookups.{path_cmp-append, same_name-equal, within_is}
use Rattle.nl_types.specs.Facts.TreeLaws.{path_total}
use Rattle.nl_folders.proofs.PartLaws.{parts_are_exact}
use Rattle.nl_folders.proofs.SortedTrees.{apart_above, apart_below, below_drop, sorted_drop}
use Rattle.nl_folders.specs.Parts.{part_below}
use Rattle.nl_folders.specs.Private.Moved.{cut}
use Rattle.nl_folders.specs.Private.Sides.{IsPart, path_at}

-- ---- places

-- an entry comes before each behind it
pub places_less : (entries : Tree) (i j : ℕ) → is_sorted path_cmp entries ≡ true → i < j → j < length entries
    → path_cmp (path_at entries i) (path_at entries j) ≡ Less
places_less entries i j sorted earlier within =
    let d : Path × Object = ([], Dir) in
    let first = get_or entries i d in
    let rest = drop (i + 1) entries in
    let here : drop i entries ≡ first ∷ rest = drop_more entries i d (omega (arith, earlier, within)) in
    let ordered : is_sorted path_cmp (first ∷ rest) ≡ true =
    ap (is_sorted path_cmp) (sym here) ∙ sorted_drop entries i sorted in
    let far : drop (j - (i + 1)) rest ≡ get_or entries j d ∷ drop (j + 1) entries =
    drop-drop (j - (i + 1)) (i + 1) entries
    ∙ ap (λ n. drop n entries) (omega (arith, earlier))
    ∙ drop_more entries j d within in
    below_drop first.0 (get_or entries j d) rest (drop (j + 1) entries) (j - (i + 1))
    (and_parts (below_all path_cmp first.0 rest) (is_sorted path_cmp rest) ordered).0 far

pub places_apart : (entries : Tree) (j k : ℕ) → is_sorted path_cmp entries ≡ true → j < length entries
    → k < length entries → ((j < k) ⊎ (k < j)) → same_path (path_at entries j) (path_at entries k) ≡ false
places_apart entries j k sorted within also (inl earlier) =
    apart_below (path_at entries j) (path_at entries k) (places_less entries j k sorted earlier also)
places_apart entries j k sorted within also (inr later) =
    apart_above (path_at entries k) (path_at entries j) (places_less entries k j sorted later within)

-- ---- paths in a row

-- what lies at a path or below it isn't below it in order
pub within_behind : (top path : Path) → is_within top path ≡ true → is_lt (path_cmp path top) ≡ false
within_behind top path inside =
    let rest = drop (length top) path in
    ap is_lt (ap (λ (p : Path). path_cmp p top) (within_is top path inside)
    ∙ ap (path_cmp (top ++ rest)) (sym (append-nil top))
    ∙ path_cmp-append top rest [])
    ∙ not_less rest
  where
    not_less : (p : Path) → is_lt (path_cmp p []) ≡ false
    not_less [] = refl
    not_less (n ∷ p) = refl

then_less : (o p : Ordering) → is_lt (ordering_then o p) ≡ false → o ≡ Less → ⊥
then_less o p is less = true≢false (sym (ap (λ x. is_lt (ordering_then x p)) less) ∙ is)

-- between a path and what lies below it all lies below it
between_by : (n k m : Name) (top p q : Path)
    → (is_lt (path_cmp p top) ≡ false → is_lt (path_cmp q p) ≡ false → is_within top p ≡ true)
    → is_lt (path_cmp (k ∷ p) (n ∷ top)) ≡ false → is_lt (path_cmp (m ∷ q) (k ∷ p)) ≡ false → n ≡ m
    → (o : Ordering) → name_cmp k n ≡ o → is_within (n ∷ top) (k ∷ p) ≡ true
between_by n k m top p q behind above below same Less is =
    absurd (then_less (name_cmp k n) (path_cmp p top) above is)
between_by n k m top p q behind above below same Greater is =
    let turned : name_cmp m k ≡ Less =
    ap (λ (x : Name). name_cmp x k) (sym same) ∙ nat_list_cmp_total.antisymm n k ∙ ap ordering_reverse is in
    absurd (then_less (name_cmp m k) (path_cmp q p) below turned)
between_by n k m top p q behind above below same Equal is =
    let first : is_lt (path_cmp p top) ≡ false =
    sym (ap (λ o. is_lt (ordering_then o (path_cmp p top))) is) ∙ above in
    let tied : name_cmp n k ≡ Equal = nat_list_cmp_total.antisymm n k ∙ ap ordering_reverse is in
    let second : is_lt (path_cmp q p) ≡ false =
    sym (ap (λ o. is_lt (ordering_then o (path_cmp q p)))
    (ap (λ (x : Name). name_cmp x k) (sym same) ∙ tied))
    ∙ below in
    and_from (same_name n k) (is_within top p) (ap is_eq tied) (behind first second)

pub within_between : (top p q : Path) → is_lt (path_cmp p top) ≡ false → is_lt (path_cmp q p) ≡ false
    → is_within top q ≡ true → is_within top p ≡ true
within_between [] p q above below inside = refl
within_between (n ∷ top) [] q above below inside = absurd (true≢false above)
within_between (n ∷ top) (k ∷ p) [] above below inside = absurd (true≢false (sym inside))
within_between (n ∷ top) (k ∷ p) (m ∷ q) above below inside =
    let parts = and_parts (same_name n m) (is_within top q) inside in
    between_by n k m top p q (λ first second. within_between top p q first second parts.1) above below
    (same_name-equal n m parts.0) (name_cmp k n) refl

-- ---- parts

-- A part ends where the entries behind its first one don't lie below that any more.
pub part_ends : (entries : Tree) (start end : ℕ) → is_sorted path_cmp entries ≡ true → start < end
    → end ≤ length entries
    → ((k : ℕ) → start ≤ k → k < end → is_within (path_at entries start) (path_at entries k) ≡ true)
    → (end < length entries → is_within (path_at entries start) (path_at entries end) ≡ false)
    → IsPart entries start end
part_ends entries start end sorted some within inside ends = record {
  inside = inside;
  before = λ k earlier. not_true (is_within (path_at entries start) (path_at entries k)) (λ below.
      true≢false
      (sym (ap is_lt (places_less entries k start sorted earlier (omega (arith, some, within))))
      ∙ within_behind (path_at entries start) (path_at entries k) below));
  behind = λ k past also. elim (cases_order k end) [
    | inl same ↦
        ap (λ (x : ℕ). is_within (path_at entries start) (path_at entries x)) same
        ∙ ends (omega (arith, same, also))
    | inr apart ↦ elim apart [
      | inl earlier ↦ absurd (omega (arith, past, earlier))
      | inr later ↦ not_true (is_within (path_at entries start) (path_at entries k)) (λ below.
          true≢false
          (sym (within_between (path_at entries start) (path_at entries end) (path_at entries k)
          (not_less start end some (omega (arith, later, also))) (not_less end k later also) below)
          ∙ ends (omega (arith, later, also))))
    ]
  ];
}
  where
    not_less : (i j : ℕ) → i < j → j < length entries
        → is_lt (path_cmp (path_at entries j) (path_at entries i)) ≡ false
    not_less i j earlier also =
        ap is_lt (path_total.antisymm (path_at entries j) (path_at entries i)
        ∙ ap ordering_reverse (places_less entries i j sorted earlier also))

-- a test that holds from one place on for so many entries keeps these
filter_part : (test : Path × Object → Bool) (entries : Tree) (start count : ℕ)
    → ((k : ℕ) → start ≤ k → k < start + count → k < length entries → test (get_or entries k ([], Dir)) ≡ true)
    → ((k : ℕ) → k < start → k < length entries → test (get_or entries k ([], Dir)) ≡ false)
    → ((k : ℕ) → start + count ≤ k → k < length entries → test (get_or entries k ([], Dir)) ≡ false)
    → filter test entries ≡ take count (drop start entries)
filter_part test [] zero zero inside before behind = refl
filter_part test [] zero (suc count) inside before behind = refl
filter_part test [] (suc start) zero inside before behind = refl
filter_part test [] (suc start) (suc count) inside before behind = refl
filter_part test (e ∷ entries) zero zero inside before behind =
    ap (λ b. cond b (e ∷ filter test entries) (filter test entries)) (behind 0 (omega arith) (omega arith))
    ∙ filter_part test entries zero zero
    (λ k from to within. inside (suc k) (omega (arith, from)) (omega (arith, to)) (omega (arith, within)))
    (λ k below within. absurd (omega (arith, below)))
    (λ k past within. behind (suc k) (omega (arith, past)) (omega (arith, within)))
filter_part test (e ∷ entries) zero (suc count) inside before behind =
    ap (λ b. cond b (e ∷ filter test entries) (filter test entries))
    (inside 0 (omega arith) (omega arith) (omega arith))
    ∙ ap (λ (t : Tree). e ∷ t) (filter_part test entries zero count
    (λ k from to within. inside (suc k) (omega (arith, from)) (omega (arith, to)) (omega (arith, within)))
    (λ k below within. absurd (omega (arith, below)))
    (λ k past within. behind (suc k) (omega (arith, past)) (omega (arith, within))))
filter_part test (e ∷ entries) (suc start) count inside before behind =
    ap (λ b. cond b (e ∷ filter test entries) (filter test entries)) (before 0 (omega arith) (omega arith))
    ∙ filter_part test entries start count
    (λ k from to within. inside (suc k) (omega (arith, from)) (omega (arith, to)) (omega (arith, within)))
    (λ k below within. before (suc k) (omega (arith, below)) (omega (arith, within)))
    (λ k past within. behind (suc k) (omega (arith, past)) (omega (arith, within)))

part_is : (entries : Tree) (start end : ℕ) → start < end → IsPart entries start end
    → part_below entries (path_at entries start)
    ≡ map (cut (length (path_at entries start))) (take (end - start) (drop start entries))
part_is entries start end some part =
    ap (map (cut (length (path_at entries start))))
    (filter_part (λ e. is_within (path_at entries start) e.0) entries start (end - start)
    (λ k from to within. part.inside k from (omega (arith, to, some)))
    (λ k below within. part.before k below)
    (λ k past within. part.behind k (omega (arith, past, some)) within))

-- parts that are one but for where they lie have the same look-ups
pub parts_alike : (present wanted : Tree) (from old_end to new_end : ℕ) → from < old_end → to < new_end
    → IsPart present from old_end → IsPart wanted to new_end
    → map (cut (length (path_at present from))) (take (old_end - from) (drop from present))
    ≡ map (cut (length (path_at wanted to))) (take (new_end - to) (drop to wanted))
    → (rest : Path)
    → lookup present (path_at present from ++ rest) ≡ lookup wanted (path_at wanted to ++ rest)
parts_alike present wanted from old_end to new_end some also old new same rest =
    sym (parts_are_exact present (path_at present from) rest)
    ∙ ap (λ (t : Tree). lookup t rest) (part_is present from old_end some old ∙ same
    ∙ sym (part_is wanted to new_end also new))
    ∙ parts_are_exact wanted (path_at wanted to) rest

-- a value is there, whatever is read of it
pub mapped_some : {A B : Type 0} (f : A → B) (o : Option A) → is_some (option_map f o) ≡ is_some o
mapped_some f None = refl
mapped_some f (Some x) = refl
