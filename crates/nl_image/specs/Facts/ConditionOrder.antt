-- One condition of an image at most is the first that fails.
use Rattle.std.proofs.Common.{ℕ, zero, suc, ◌-◌, ◌<◌, ◌≤◌, List, [], ◌∷◌, inl, inr, arith}
use Rattle.std.proofs.lemmas.Bool.{cases_eq, cases_lt}
use Rattle.nl_image.specs.Conditions.{Condition, FirstFails, HoldFirst, condition_count, conditions}
use Rattle.nl_image.specs.Laws.{ImagesHaveNoFault, OneFailsFirst}
use Rattle.nl_image.specs.Parts.{Parts}

-- where more of them hold, fewer do
pub hold-fewer : (n m : ℕ) (cs : List Condition) (bytes : List ℕ) (p : Parts) → n ≤ m → HoldFirst m cs bytes p
    → HoldFirst n cs bytes p
hold-fewer zero m cs bytes p low h = tt
hold-fewer (suc n) zero cs bytes p low h = absurd (omega (arith, low))
hold-fewer (suc n) (suc m) [] bytes p low h = tt
hold-fewer (suc n) (suc m) (c ∷ cs) bytes p low h = (h.0, hold-fewer n m cs bytes p (omega (arith, low)) h.1)

pub images_have_no_fault : ImagesHaveNoFault
images_have_no_fault n bytes p low image fails =
    fails.fails p (hold-fewer n condition_count conditions bytes p low image)

-- a later one can't fail first
not-later : (n m : ℕ) (bytes : List ℕ) → FirstFails n bytes → FirstFails m bytes → n < m → ⊥
not-later n m bytes a b low =
    let p = b.before in a.fails p.0 (hold-fewer n (m - 1) conditions bytes p.0 (omega (arith, low)) p.1)

pub one_fails_first : OneFailsFirst
one_fails_first n m bytes a b = elim (cases_eq n m) [
  | inl e ↦ e
  | inr other ↦ elim (cases_lt n m) [
    | inl low ↦ absurd (not-later n m bytes a b low)
    | inr high ↦ absurd (not-later m n bytes b a (omega (arith, high, other)))
  ]
]
