-- Look-ups among entries and lines in order.
use Rattle.std.proofs.Common.{◌≡◌, ℕ, zero, suc, ◌+◌, ◌-◌, ◌<◌, ◌≤◌, Bool, true, false, cond, ◌&&◌, List, [], ◌∷◌, Some, None, refl, sym, ap, ◌∙◌, subst, true≢false, length, take, drop, get_or, arith}
use Rattle.std.specs.declared.cmp.Ordering.TheVariants.{Less, Equal, Greater}
use Rattle.std.specs.Ordering.{is_eq, is_lt, ordering_reverse}
use Rattle.std.specs.Cmp.Lexicographic.{nat_list_cmp_total}
use Rattle.std.specs.FinMap.{find, is_sorted}
use Rattle.std.specs.FinMap.Entries.{below_all}
use Rattle.std.proofs.lemmas.Bool.{and_parts, and_from}
use Rattle.std.proofs.lemmas.List.{drop_more, take_rest}
use Rattle.nl_types.specs.Plain.Paths.{Name, Path, name_cmp, path_cmp, same_name}
use Rattle.nl_types.specs.Facts.TreeLaws.{path_total}
use Rattle.nl_manifests.specs.declared.manifest.Line.{Line}
use Rattle.nl_manifests.specs.HostTrees.{line_named}
use Rattle.nl_manifests.specs.Manifests.{ascend}
use Rattle.nl_manifests.specs.Private.Looking.{LinesNotBelow, first_named, rising}
use Rattle.nl_manifests.proofs.Kept.{keyed, lines_sorted}
use Rattle.nl_manifests.proofs.Sorted.{absent, less_is}

-- ---- entries

module _ {X : Type 0} where
  pub rising_short : (es : List (Path × X)) → length es ≤ 1 → rising es ≡ true
  rising_short [] few = refl
  rising_short (a ∷ []) few = refl
  rising_short (a ∷ b ∷ es) few = absurd (omega arith)

  below_more : (p q : Path) (es : List (Path × X)) → path_cmp p q ≡ Less → below_all path_cmp q es ≡ true
      → below_all path_cmp p es ≡ true
  below_more p q [] less below = refl
  below_more p q (e ∷ es) less below =
      let parts = and_parts (is_lt (path_cmp q e.0)) (below_all path_cmp q es) below in
      and_from (is_lt (path_cmp p e.0)) (below_all path_cmp p es)
      (ap is_lt (path_total.trans p q e.0 less (less_is (path_cmp q e.0) parts.0)))
      (below_more p q es less parts.1)

  -- what is below the first path isn't among the entries
  pub below_first : (p : Path) (e : Path × X) (es : List (Path × X)) → path_cmp p e.0 ≡ Less
      → is_sorted path_cmp (e ∷ es) ≡ true → find path_cmp p (e ∷ es) ≡ None
  below_first p e es less sorted =
      let parts = and_parts (below_all path_cmp e.0 es) (is_sorted path_cmp es) sorted in
      absent p (e ∷ es)
      (and_from (is_lt (path_cmp p e.0)) (below_all path_cmp p es) (ap is_lt less)
      (below_more p e.0 es less parts.0))

  -- entries whose paths rise are in order, and no others are
  pub rising_is : (es : List (Path × X)) → rising es ≡ is_sorted path_cmp es
  rising_is [] = refl
  rising_is (e ∷ []) = refl
  rising_is (e ∷ f ∷ es) =
      ap (λ t. is_lt (path_cmp e.0 f.0) && t) (rising_is (f ∷ es))
      ∙ by (is_lt (path_cmp e.0 f.0)) refl (is_sorted path_cmp (f ∷ es)) refl
    where
      by : (a : Bool) → is_lt (path_cmp e.0 f.0) ≡ a → (b : Bool) → is_sorted path_cmp (f ∷ es) ≡ b
          → (a && b) ≡ ((a && below_all path_cmp e.0 es) && b)
      by false less b sorted = refl
      by true less false sorted = both_false (below_all path_cmp e.0 es)
        where
          both_false : (t : Bool) → false ≡ (t && false)
          both_false true = refl
          both_false false = refl
      by true less true sorted =
          let parts = and_parts (below_all path_cmp f.0 es) (is_sorted path_cmp es) sorted in
          sym (ap (λ t. t && true) (below_more e.0 f.0 es (less_is _ less) parts.0))

-- ---- lines

lines_place : (lines : List Line) (k : ℕ) (l : Line) → k < length lines → l ≡ get_or lines k l
    → drop k lines ≡ l ∷ drop (k + 1) lines
lines_place lines k l within is =
    drop_more lines k l within ∙ ap (λ (x : Line). x ∷ drop (k + 1) lines) (sym is)

names_apart : (n m : Name) → name_cmp n m ≡ Less → same_name m n ≡ false
names_apart n m less = ap is_eq (nat_list_cmp_total.antisymm m n ∙ ap ordering_reverse less)

line_below : (n : Name) (l : Line) (lines rest : List Line) (k : ℕ) → below_all name_cmp n (keyed lines) ≡ true
    → drop k lines ≡ l ∷ rest → name_cmp n l.name ≡ Less
line_below n l [] rest zero below is = cc
line_below n l [] rest (suc k) below is = cc
line_below n l (x ∷ lines) rest zero below is =
    let head : x ≡ l = cc in
    let parts = and_parts (is_lt (name_cmp n x.name)) (below_all name_cmp n (keyed lines)) below in
    ap (λ (y : Line). name_cmp n y.name) (sym head) ∙ less_is (name_cmp n x.name) parts.0
line_below n l (x ∷ lines) rest (suc k) below is =
    line_below n l lines rest k
    (and_parts (is_lt (name_cmp n x.name)) (below_all name_cmp n (keyed lines)) below).1 is

-- a name above that of a line is found behind it
named_behind : (lines rest : List Line) (l : Line) (k : ℕ) (n : Name) → is_sorted name_cmp (keyed lines) ≡ true
    → drop k lines ≡ l ∷ rest → name_cmp l.name n ≡ Less → line_named lines n ≡ line_named rest n
named_behind [] rest l zero n sorted is less = cc
named_behind [] rest l (suc k) n sorted is less = cc
named_behind (x ∷ lines) rest l zero n sorted is less =
    let head : x ≡ l = cc in
    let tail : lines ≡ rest = cc in
    ap (λ b. cond b (Some x) (line_named lines n))
    (names_apart x.name n (ap (λ (y : Line). name_cmp y.name n) head ∙ less))
    ∙ ap (λ (t : List Line). line_named t n) tail
named_behind (x ∷ lines) rest l (suc k) n sorted is less =
    let parts = and_parts (below_all name_cmp x.name (keyed lines)) (is_sorted name_cmp (keyed lines)) sorted in
    let far = nat_list_cmp_total.trans x.name l.name n (line_below x.name l lines rest k parts.0 is) less in
    ap (λ b. cond b (Some x) (line_named lines n)) (names_apart x.name n far)
    ∙ named_behind lines rest l k n parts.1 is less

pub behind_line : (lines : List Line) (k : ℕ) (l : Line) (n : Name) → ascend lines ≡ true → k < length lines
    → l ≡ get_or lines k l → is_lt (name_cmp l.name n) ≡ true
    → line_named lines n ≡ line_named (drop (k + 1) lines) n
behind_line lines k l n up within is below =
    named_behind lines (drop (k + 1) lines) l k n (lines_sorted lines up) (lines_place lines k l within is)
    (less_is (name_cmp l.name n) below)

pub not_below_from : (lines : List Line) (k : ℕ) (l : Line) (n : Name) → k < length lines
    → l ≡ get_or lines k l → is_lt (name_cmp l.name n) ≡ false → LinesNotBelow n (drop k lines)
not_below_from lines k l n within is not_below =
    subst (LinesNotBelow n) (sym (lines_place lines k l within is)) not_below

more_below : (n m : Name) (lines : List Line) → name_cmp n m ≡ Less → below_all name_cmp m (keyed lines) ≡ true
    → line_named lines n ≡ None
more_below n m [] less below = refl
more_below n m (l ∷ lines) less below =
    let parts = and_parts (is_lt (name_cmp m l.name)) (below_all name_cmp m (keyed lines)) below in
    let far = nat_list_cmp_total.trans n m l.name less (less_is (name_cmp m l.name) parts.0) in
    ap (λ o. cond (is_eq o) (Some l) (line_named lines n)) far ∙ more_below n m lines less parts.1

-- where no line below a name is left, the first one has it or none
first_is : (lines : List Line) (n : Name) → is_sorted name_cmp (keyed lines) ≡ true → LinesNotBelow n lines
    → line_named lines n ≡ first_named lines n
first_is [] n sorted begins = refl
first_is (l ∷ lines) n sorted begins =
    let parts = and_parts (below_all name_cmp l.name (keyed lines)) (is_sorted name_cmp (keyed lines)) sorted in
    elim (name_cmp n l.name) as (λ o. name_cmp n l.name ≡ o
    → cond (is_eq o) (Some l) (line_named lines n) ≡ cond (is_eq o) (Some l) None) [
      | Less ↦ λ less. more_below n l.name lines less parts.0
      | Equal ↦ λ _. refl
      | Greater ↦ λ greater.
          absurd (true≢false
          (sym (ap is_lt (nat_list_cmp_total.antisymm l.name n ∙ ap ordering_reverse greater)) ∙ begins))
    ] refl

sorted_lines : (lines : List Line) (k : ℕ) → is_sorted name_cmp (keyed lines) ≡ true
    → is_sorted name_cmp (keyed (drop k lines)) ≡ true
sorted_lines [] zero sorted = refl
sorted_lines [] (suc k) sorted = refl
sorted_lines (l ∷ lines) zero sorted = sorted
sorted_lines (l ∷ lines) (suc k) sorted =
    sorted_lines lines k
    (and_parts (below_all name_cmp l.name (keyed lines)) (is_sorted name_cmp (keyed lines)) sorted).1

pub first_from : (lines : List Line) (k : ℕ) (n : Name) → ascend lines ≡ true → LinesNotBelow n (drop k lines)
    → line_named (drop k lines) n ≡ first_named (drop k lines) n
first_from lines k n up begins = first_is (drop k lines) n (sorted_lines lines k (lines_sorted lines up)) begins

-- the same of what is left as code takes it
pub first_left : (lines : List Line) (k : ℕ) (n : Name)
    → first_named (take (length lines - k) (drop k lines)) n ≡ first_named (drop k lines) n
first_left lines k n = ap (λ (left : List Line). first_named left n) (take_rest lines k)
