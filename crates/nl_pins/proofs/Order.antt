-- Numbers that descend.
use Rattle.std.proofs.Common.{◌≡◌, ◌↔◌, ℕ, ◌<◌, ◌≤◌, Bool, IsTrue, List, [], ◌∷◌, length, drop, take, ◌-◌, subst, arith}
use Rattle.std.proofs.lemmas.List.{take_rest}
use Rattle.std.specs.Prelude.{get_or}
use Rattle.nl_pins.specs.declared.rules.Dated.{Dated}
use Rattle.nl_pins.specs.Retention.{AreBelow, Descend}

pub short_descend : (rows : List Dated) → length rows < 2 → Descend rows
short_descend [] few = tt
short_descend (d ∷ []) few = (tt, tt)
short_descend (d ∷ e ∷ rows) few = absurd (omega (arith, few))

lower : (m n : ℕ) (rows : List Dated) → m < n → AreBelow m rows → AreBelow n rows
lower m n [] low below = tt
lower m n (d ∷ rows) low below = (grind (arith, low, below.0), lower m n rows low below.1)

pub descend_on : (d e : Dated) (rows : List Dated) → e.number < d.number → Descend (e ∷ rows)
    → Descend (d ∷ e ∷ rows)
descend_on d e rows low on = ((low, lower e.number d.number rows low on.0), on)

-- over the two that stand first, as a slice has them
pub descend_first : (rows : List Dated) (newer older : Dated) (on : Bool) → 2 ≤ length rows
    → newer ≡ get_or rows 0 newer → older ≡ get_or rows 1 older → older.number < newer.number
    → (IsTrue on ↔ Descend (take (length rows - 1) (drop 1 rows))) → (IsTrue on ↔ Descend rows)
descend_first [] newer older on many first second low rest = absurd (omega (arith, many))
descend_first (d ∷ []) newer older on many first second low rest = absurd (omega (arith, many))
descend_first (d ∷ e ∷ rows) newer older on many first second low rest =
    (λ is. descend_on d e rows lower_now (below.0 is), λ all. below.1 all.1)
  where
    below : IsTrue on ↔ Descend (e ∷ rows)
    below = subst (λ (l : List Dated). IsTrue on ↔ Descend l) (take_rest (d ∷ e ∷ rows) 1) rest

    lower_now : e.number < d.number
    lower_now = subst (λ (x : Dated). x.number < d.number) second
        (subst (λ (x : Dated). older.number < x.number) first low)
