-- Which places are kept: that can be tested, and two files keep the same of one another.
use Rattle.std.proofs.Common.{◌≡◌, ◌⊎◌, ℕ, Option, Some, None, refl, ap, sym, ◌∙◌, inl, inr}
use Rattle.std.proofs.lemmas.Bool.{cases_eq}
use Rattle.nl_types.specs.Blocks.RootChanges.{places}
use Rattle.nl_types.specs.Blocks.Roots.{Chain, Empty, NoBlocks, OfChain, OfTree, Pages, Root, Tree}
use Rattle.nl_check.specs.Private.ChangedFiles.{AreBeside, IsKeptIn}

-- two numbers that there may be are one, or not
pub one-or-not : (a b : Option ℕ) → (a ≡ b) ⊎ (a ≡ b → ⊥)
one-or-not None None = inl refl
one-or-not None (Some y) = inr (λ e. cc)
one-or-not (Some x) None = inr (λ e. cc)
one-or-not (Some x) (Some y) =
    elim (cases_eq x y) [ inl e ↦ inl (ap Some e) | inr n ↦ inr (λ e. n (let same : x ≡ y = cc in same)) ]

root-or-not : (a b : Root) → (a ≡ b) ⊎ (a ≡ b → ⊥)
root-or-not Empty Empty = inl refl
root-or-not Empty (Chain u) = inr (λ e. cc)
root-or-not Empty (Tree h u) = inr (λ e. cc)
root-or-not (Chain t) Empty = inr (λ e. cc)
root-or-not (Chain t) (Chain u) =
    elim (cases_eq t u) [ inl e ↦ inl (ap Chain e) | inr n ↦ inr (λ e. n (let same : t ≡ u = cc in same)) ]
root-or-not (Chain t) (Tree h u) = inr (λ e. cc)
root-or-not (Tree g t) Empty = inr (λ e. cc)
root-or-not (Tree g t) (Chain u) = inr (λ e. cc)
root-or-not (Tree g t) (Tree h u) = elim (cases_eq g h) [
  | inr n ↦ inr (λ e. n (let same : g ≡ h = cc in same))
  | inl high ↦ elim (cases_eq t u) [
    | inl top ↦ inl (ap (λ (k : ℕ). Tree k t) high ∙ ap (Tree h) top)
    | inr n ↦ inr (λ e. n (let same : t ≡ u = cc in same))
  ]
]

beside-or-not : (a b : Root) → AreBeside a b ⊎ (AreBeside a b → ⊥)
beside-or-not Empty b = inr (λ x. let no : NoBlocks ≡ OfTree = x.0 in cc)
beside-or-not (Chain t) b = inr (λ x. let no : OfChain ≡ OfTree = x.0 in cc)
beside-or-not (Tree g t) Empty = inr (λ x. let no : NoBlocks ≡ OfTree = x.1 in cc)
beside-or-not (Tree g t) (Chain u) = inr (λ x. let no : OfChain ≡ OfTree = x.1 in cc)
beside-or-not (Tree g t) (Tree h u) =
    elim (cases_eq g h) [ inl e ↦ inl (refl, refl, e) | inr n ↦ inr (λ x. n x.2) ]

pub kept-test : (pages : Pages) (old new : Root) (at : ℕ × ℕ)
    → IsKeptIn pages old new at ⊎ (IsKeptIn pages old new at → ⊥)
kept-test pages old new at = elim (one-or-not (places pages old at) (places pages new at)) [
  | inr n ↦ inr (λ k. n k.same)
  | inl e ↦ elim (root-or-not old new) [
    | inl r ↦ inl (record { roots = inl r; same = e })
    | inr n ↦ elim (beside-or-not old new) [
      | inl b ↦ inl (record { roots = inr b; same = e })
      | inr m ↦ inr (λ k. elim k.roots [ inl r ↦ n r | inr b ↦ m b ])
    ]
  ]
]

pub kept-back : (pages : Pages) (old new : Root) (at : ℕ × ℕ) → IsKeptIn pages old new at
    → IsKeptIn pages new old at
kept-back pages old new at k = record {
  roots = elim k.roots [ inl e ↦ inl (sym e) | inr b ↦ inr (b.1, b.0, sym b.2) ];
  same = sym k.same;
}

-- a file keeps all of itself
pub kept-itself : (pages : Pages) (root : Root) (at : ℕ × ℕ) → IsKeptIn pages root root at
kept-itself pages root at = record { roots = inl refl; same = refl }
