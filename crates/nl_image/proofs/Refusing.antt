-- Which condition refuses bytes, where what judged it finds all that meet it, or runs out of memory.
use Rattle.std.proofs.Common.{◌≡◌, ◌⊎◌, ℕ, ◌-◌, ◌≤◌, List, Result, Ok, Err, inl, inr, sym, ◌∙◌}
use Rattle.std.specs.Prelude.{IfErr, MatchResult}
use Rattle.nl_types.specs.declared.error.VolError.{VolError}
use Rattle.nl_types.specs.declared.error.VolError.TheVariants.{BadImage, Memory}
use Rattle.nl_image.specs.Conditions.{MeetsFirst}
use Rattle.nl_image.specs.Parts.{Parts}
use Rattle.nl_image.specs.Reading.{IsRefusal}

-- whatever there is to find was found, or memory ran out
abbrev pub FindsAll : {A B : Type 0} → Result A VolError → (B → Type 0) → (B → A) → Type 0
FindsAll {A} {B} r Is of = (b : B) → Is b → MatchResult r (λ a. a ≡ of b) (λ e. e ≡ Memory)

not-memory : (k : ℕ) → BadImage k ≡ Memory → ⊥
not-memory k e = cc

-- what is refused though it was to be found is refused for memory
pub memory-alone : {A : Type 0} (P : A → Type 0) (r : Result A VolError) → MatchResult r P (λ e. e ≡ Memory)
    → IfErr r (λ e. e ≡ Memory)
memory-alone P (Ok a) h = tt
memory-alone P (Err e) h = h

-- parts meet the conditions before this one, and where some met it too, nothing but memory would refuse them
pub refused-by : {A : Type 0} (r : Result A VolError) (k : ℕ) (bytes : List ℕ) → 1 ≤ k → (p : Parts)
    → MeetsFirst (k - 1) bytes p → ((q : Parts) → MeetsFirst k bytes q → IfErr r (λ e. e ≡ Memory))
    → IfErr r (λ e. (e ≡ BadImage k) ⊎ (e ≡ Memory))
    → IfErr r (IsRefusal bytes)
refused-by (Ok a) k bytes low p before alone why = tt
refused-by (Err e) k bytes low p before alone why = elim why [
  | inl is ↦
      inr
      (k, is, record { number = low; before = (p, before); fails = λ q m. not-memory k (sym is ∙ alone q m) })
  | inr is ↦ inl is
]
