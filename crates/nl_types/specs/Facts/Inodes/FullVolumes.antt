-- As many inodes in use, as many paths.
use Rattle.std.proofs.Common.{◌≡◌, ℕ, zero, suc, ◌+◌, ◌<◌, ◌≤◌, true, false, cond, [], ◌∷◌, Some, Option, ⊎_elim, sym, refl, ap, ◌∙◌, length, map, is_some, arith}
use Rattle.std.specs.Prelude.{◌||◌, nat_eq, reverse}
use Rattle.std.specs.Option.{unwrap_or}
use Rattle.std.specs.Cmp.{nat_eq_equiv}
use Rattle.std.specs.List.{IsDistinct}
use Rattle.std.specs.Set.{is_member}
use Rattle.std.proofs.lemmas.Bool.{eqb-true, eq-eqb, ne_eqb, or_cases}
use Rattle.std.proofs.lemmas.List.{length-map, reverse-reverse}
use Rattle.std.proofs.lemmas.Map.Made.{length-le_from_is_member}
use Rattle.nl_types.specs.declared.reply.Object.{Object}
use Rattle.nl_types.specs.Plain.Paths.{Path, same_path}
use Rattle.nl_types.specs.Blocks.Placing.{blocks_from}
use Rattle.nl_types.specs.Plain.Trees.{Tree, lookup}
use Rattle.nl_types.specs.Inodes.{Inodes, MeansTree}
use Rattle.nl_types.specs.InodeLaws.{FullVolumesAreTooBig}
use Rattle.nl_types.specs.Facts.TreeLaws.{same_path-equal}
use Rattle.nl_types.specs.Facts.UsedParts.{all_in_row}
use Rattle.nl_types.specs.Facts.Booleans.{or_right}
use Rattle.nl_types.specs.Facts.Inodes.Walks.{present}

pub row_length : (b n : ℕ) → length (blocks_from b n) ≡ n
row_length b zero = refl
row_length b (suc n) = ap suc (row_length (suc b) n)

in_row : (b n q : ℕ) → is_member nat_eq (blocks_from b n) q ≡ true → (b ≤ q) × (q < b + n)
in_row b zero q h = cc
in_row b (suc n) q h = ⊎_elim
    (λ e. let here : q ≡ b = eqb-true q b e in (omega (arith, here), omega (arith, here)))
    (λ e. let later = in_row (suc b) n q e in (omega (arith, later.0), omega (arith, later.1)))
    (or_cases (nat_eq q b) (is_member nat_eq (blocks_from (suc b) n) q) h)

distinct_row : (b n : ℕ) → IsDistinct nat_eq (blocks_from b n)
unfolding IsDistinct
distinct_row b zero = tt
distinct_row b (suc n) = (
  all_in_row (λ q. nat_eq b q ≡ false) (suc b) n (λ k low. ne_eqb b (suc b + k) (λ e. omega (arith, e))),
  distinct_row (suc b) n,
)

-- the root's number, and n from 11 on
distinct_numbers : (n : ℕ) → IsDistinct nat_eq (2 ∷ blocks_from 11 n)
unfolding IsDistinct
distinct_numbers n = (
  all_in_row (λ q. nat_eq 2 q ≡ false) 11 n (λ k low. ne_eqb 2 (11 + k) (λ e. omega (arith, e))),
  distinct_row 11 n,
)

abbrev number_at : (Path → Option ℕ) → Path × Object → ℕ
number_at f e = unwrap_or (f (reverse e.0)) 0

-- the number of a path that is there is among those of all paths
among : (f : Path → Option ℕ) (tree : Tree) (p : Path) (q : ℕ) → is_some (lookup tree p) ≡ true
    → f (reverse p) ≡ Some q → is_member nat_eq (map (number_at f) tree) q ≡ true
among f [] p q there is = cc
among f (e ∷ tree) p q there is =
    elim (same_path p e.0) as (λ b.
    same_path p e.0 ≡ b → is_some (cond b (Some e.1) (lookup tree p)) ≡ true
    → is_member nat_eq (map (number_at f) (e ∷ tree)) q ≡ true) [
      | true ↦ λ same _.
          let here : q ≡ number_at f e =
          sym (ap (λ (o : Option ℕ). unwrap_or o 0)
          (ap (λ (r : Path). f (reverse r)) (sym (same_path-equal p e.0 same)) ∙ is)) in
          ap (λ b. b || is_member nat_eq (map (number_at f) tree) q) (eq-eqb q (number_at f e) here)
      | false ↦ λ _ later. or_right (nat_eq q (number_at f e)) (among f tree p q later is)
    ] refl there

pub paths_at_least : (inodes : Inodes) (tree : Tree) (n : ℕ) → MeansTree inodes tree
    → ((i : ℕ) → 11 ≤ i → i < 11 + n → is_some (inodes i) ≡ true) → n + 1 ≤ length tree
paths_at_least inodes tree n m used =
    let few =
    length-le_from_is_member nat_eq_equiv (2 ∷ blocks_from 11 n) (map (number_at m.inode_of) tree)
    (distinct_numbers n) member in
    omega (arith, few, length-map tree (number_at m.inode_of), row_length 11 n)
  where
    paired : (p : Path) (q : ℕ) → m.inode_of p ≡ Some q
        → is_member nat_eq (map (number_at m.inode_of) tree) q ≡ true
    paired p q is =
        among m.inode_of tree (reverse p) q (sym (m.pairs.paths p) ∙ ap is_some is)
        (ap m.inode_of (reverse-reverse p) ∙ is)

    member : (q : ℕ) → is_member nat_eq (2 ∷ blocks_from 11 n) q ≡ true
        → is_member nat_eq (map (number_at m.inode_of) tree) q ≡ true
    member q h = ⊎_elim
        (λ e. paired [] q (m.pairs.root ∙ ap (λ (k : ℕ). Some k) (sym (eqb-true q 2 e))))
        (λ e.
        let place = in_row 11 n q e in
        let held = present (inodes q) (used q place.0 place.1) in
        let at = m.pairs.all q held.0 held.1 in
        paired at.0 q at.1)
        (or_cases (nat_eq q 2) (is_member nat_eq (blocks_from 11 n) q) h)

pub full_volumes_are_too_big : FullVolumesAreTooBig
full_volumes_are_too_big inodes tree m used =
    let many = paths_at_least inodes tree 524277 m (λ i low high. used i low (omega (arith, high))) in
    omega (arith, many)
