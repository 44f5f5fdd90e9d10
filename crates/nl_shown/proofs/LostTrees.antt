-- The last name of a path, and the order of a tree of which attributes are lost.
use Rattle.std.proofs.Common.{◌≡◌, suc, ◌-◌, ◌≤◌, ◌&&◌, [], ◌∷◌, length, get_or, Option, Some, None, refl, sym, ap, ◌∙◌, arith}
use Rattle.std.specs.FinMap.{is_sorted}
use Rattle.std.specs.FinMap.Entries.{below_all}
use Rattle.std.specs.Option.{option_map}
use Rattle.std.specs.Ordering.{is_lt}
use Rattle.nl_types.specs.Plain.Paths.{Name, Path, path_cmp}
use Rattle.nl_manifests.specs.HostTrees.{HostTree, last_name, parted}
use Rattle.nl_shown.specs.Reverted.{IsInOrder}
use Rattle.nl_shown.specs.Unknown.{with_lost}

-- ---- names

last_below : (n : Name) (o : Option (Path × Name))
    → last_name (option_map (λ (p : Path × Name). (n ∷ p.0, p.1)) o) ≡ last_name o
last_below n None = refl
last_below n (Some p) = refl

-- the last name of a path
pub last_is : (path : Path) (d : Name) → 1 ≤ length path
    → last_name (parted path) ≡ get_or path (length path - 1) d
last_is [] d some = absurd (omega arith)
last_is (n ∷ []) d some = refl
last_is (n ∷ m ∷ path) d some =
    let front : length (n ∷ m ∷ path) - 1 ≡ suc (length (m ∷ path) - 1) = omega arith in
    last_below n (parted (m ∷ path)) ∙ last_is (m ∷ path) d (omega arith)
    ∙ sym (ap (λ i. get_or (n ∷ m ∷ path) i d) front)

-- ---- order

module _ (later : HostTree) (top : Path) where
  below-lost : (k : Path) (es : HostTree)
      → below_all path_cmp k (with_lost later top es) ≡ below_all path_cmp k es
  below-lost k [] = refl
  below-lost k (e ∷ es) = ap (λ b. is_lt (path_cmp k e.0) && b) (below-lost k es)

  sorted-lost : (es : HostTree) → is_sorted path_cmp (with_lost later top es) ≡ is_sorted path_cmp es
  sorted-lost [] = refl
  sorted-lost (e ∷ es) =
      let one = below-lost e.0 es in
      let other = sorted-lost es in
      λ i. one i && other i

  pub ordered_lost : (es : HostTree) → IsInOrder es → IsInOrder (with_lost later top es)
  ordered_lost es ordered = sorted-lost es ∙ ordered
