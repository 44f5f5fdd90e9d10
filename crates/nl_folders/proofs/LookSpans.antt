-- Where an entry is looked for by halves, and what its path has in common with the others there.
use Rattle.std.proofs.Common.{◌≡◌, ℕ, zero, suc, ◌+◌, ◌-◌, ◌<◌, ◌≤◌, true, false, [], ◌∷◌, refl, sym, ap, ◌∙◌, subst, List, length, take, drop, arith}
use Rattle.std.specs.declared.cmp.Ordering.{Ordering}
use Rattle.std.specs.declared.cmp.Ordering.TheVariants.{Less, Equal, Greater}
use Rattle.std.specs.Ordering.{is_lt, is_eq, ordering_reverse}
use Rattle.std.specs.FinMap.{is_sorted}
use Rattle.std.specs.FinMap.Entries.{below_all}
use Rattle.std.proofs.lemmas.Bool.{and_parts}
use Rattle.std.proofs.lemmas.List.{take_rest}
use Rattle.nl_types.specs.Plain.Paths.{Path, path_cmp}
use Rattle.nl_types.specs.Facts.TreeLaws.{path_total, same_path-equal}
use Rattle.nl_folders.specs.declared.looking.Span.{Span}
use Rattle.nl_folders.specs.Private.Agreeing.{AgreeOn}
use Rattle.nl_folders.specs.Private.Looking.{AgreeAbove, AgreeBelow, BeginsNotBelow, IsBetween}
use Rattle.nl_folders.proofs.Agreeing.{agree_between, agree_cmp, agree_less}
use Rattle.nl_folders.proofs.SortedTrees.{below_drop}

module _ {X : Type 0} where
  -- paths rise from one place to a later one
  pub rises : (tree rest last : List (Path × X)) (e f : Path × X) (k j : ℕ) → is_sorted path_cmp tree ≡ true
      → drop k tree ≡ e ∷ rest → drop j tree ≡ f ∷ last → k < j → path_cmp e.0 f.0 ≡ Less
  rises [] rest last e f zero j sorted at_k at_j later = cc
  rises [] rest last e f (suc k) j sorted at_k at_j later = cc
  rises (x ∷ tree) rest last e f zero zero sorted at_k at_j later = absurd (omega (arith, later))
  rises (x ∷ tree) rest last e f (suc k) zero sorted at_k at_j later = absurd (omega (arith, later))
  rises (x ∷ tree) rest last e f zero (suc j) sorted at_k at_j later =
      let head : x ≡ e = cc in
      let parts = and_parts (below_all path_cmp x.0 tree) (is_sorted path_cmp tree) sorted in
      ap (λ (y : Path × X). path_cmp y.0 f.0) (sym head) ∙ below_drop x.0 f tree last j parts.0 at_j
  rises (x ∷ tree) rest last e f (suc k) (suc j) sorted at_k at_j later =
      let parts = and_parts (below_all path_cmp x.0 tree) (is_sorted path_cmp tree) sorted in
      rises tree rest last e f k j parts.1 at_k at_j (omega (arith, later))

-- ---- the entry in the middle

module _ {X : Type 0} (entries rest : List (Path × X)) (path : Path) (k : ℕ) (e : Path × X)
    (place : drop k entries ≡ e ∷ rest) (sorted : is_sorted path_cmp entries ≡ true) where
  -- it begins as the path does
  pub agrees : (span : Span) (count : ℕ) → IsBetween entries path span → span.low ≤ k → k < span.high
      → count ≤ span.below → count ≤ span.above → AgreeOn count e.0 path
  agrees span count b from to fewer_below fewer_above =
      elim (path_cmp e.0 path) as (λ o. path_cmp e.0 path ≡ o → AgreeOn count e.0 path) [
        | Less ↦ λ less. agree_less span.below count e.0 path fewer_below (b.below sorted k e rest from place less)
        | Equal ↦ λ tied. ap (take count) (same_path-equal e.0 path (ap is_eq tied))
        | Greater ↦
            λ greater.
            agree_less span.above count e.0 path fewer_above
            (b.above sorted k e rest to place
            (path_total.antisymm path e.0 ∙ ap ordering_reverse greater))
      ] refl

  -- so it does on the names that were found to be in common
  pub shared : (found : Path) (span : Span) (from count : ℕ) → found ≡ e.0 → IsBetween entries path span
      → span.low ≤ k → k < span.high → from ≤ span.below → from ≤ span.above
      → (AgreeOn from found path → AgreeOn count found path) → AgreeOn count e.0 path
  shared found span from count is b low high below above more =
      ap (take count) (sym is) ∙ more (ap (take from) is ∙ agrees span from b low high below above)

  -- and what is behind them decides whether it is below the path
  pub decided : (count : ℕ) (found : Path) (o : Ordering) → found ≡ e.0 → AgreeOn count e.0 path
      → o ≡ path_cmp (take (length found - count) (drop count found)) (take (length path - count) (drop count path))
      → is_lt (path_cmp e.0 path) ≡ is_lt o
  decided count found o is agree compared =
      ap is_lt
      (sym (agree_cmp count e.0 path agree)
      ∙ ap (λ (p : Path). path_cmp (drop count p) (drop count path)) (sym is)
      ∙ ap (λ (p : Path). path_cmp p (drop count path)) (sym (take_rest found count))
      ∙ ap (λ (q : Path). path_cmp (take (length found - count) (drop count found)) q) (sym (take_rest path count))
      ∙ sym compared)

  -- where it is below, those behind it that are below too begin as it does
  pub agree_behind : (count : ℕ) → path_cmp e.0 path ≡ Less → AgreeOn count e.0 path
      → AgreeBelow entries path (k + 1) count
  agree_behind count less agree = λ j f last from at_j below.
      agree_between count e.0 f.0 path
      (rises entries rest last e f k j sorted place at_j (omega (arith, from))) below agree

  -- where it isn't, those before it that are above too
  pub agree_before : (count : ℕ) → AgreeOn count e.0 path → AgreeAbove entries path k count
  agree_before count agree = λ j f last to at_j above.
      agree_between count path f.0 e.0 above
      (rises entries last rest f e j k sorted at_j place to) (sym agree)
      ∙ agree

  pub not_below : is_lt (path_cmp e.0 path) ≡ false → BeginsNotBelow path (drop k entries)
  not_below begins = subst (λ (left : List (Path × X)). BeginsNotBelow path left) (sym place) begins
