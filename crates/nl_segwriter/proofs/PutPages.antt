-- Pages put at their numbers, one after another.
use Rattle.std.proofs.Common.{◌≡◌, ℕ, ◌+◌, ◌<◌, ◌≤◌, List, length, Option, None, Some, ap, sym, ◌∙◌, subst, arith, inl, inr}
use Rattle.std.specs.Prelude.{slice_get}
use Rattle.std.proofs.lemmas.Bool.{cases_lt}
use Rattle.std.proofs.lemmas.List.{get_or_past}
use Rattle.std.proofs.lemmas.Option.{get_or_from_slice_get}
use Rattle.nl_device.specs.Pages.{DevicePages, KeepsOthers}
use Rattle.nl_segwriter.specs.Images.{page_in}

-- the pages below a number stand
abbrev pub ArePut : List (Option (List ℕ)) → DevicePages → ℕ → Type 0
ArePut pages device n = (b : ℕ) (page : List ℕ) → b < n → page_in pages b ≡ Some page → device b ≡ Some page

-- and with the next one they do too
pub more_put : (pages : List (Option (List ℕ))) (old new : DevicePages) (n at : ℕ) (page : Option (List ℕ))
    → at ≡ n → slice_get pages n ≡ Some page → ArePut pages old n
    → ((p : List ℕ) → page ≡ Some p → new at ≡ Some p) → KeepsOthers at old new → ArePut pages new (n + 1)
more_put pages old new n at page is here put puts others b p low told = elim (cases_lt b n) [
  | inl h ↦ others b (omega (arith, h, is)) ∙ put b p h told
  | inr h ↦ let same : at ≡ b = omega (arith, h, low, is) in
      let number : n ≡ b = omega (arith, h, low) in
      let value : page_in pages b ≡ page =
      subst (λ (k : ℕ). page_in pages k ≡ page) number (get_or_from_slice_get pages n page None here) in
      ap new (sym same) ∙ puts p (sym value ∙ told)
]

pub all_put : (pages : List (Option (List ℕ))) (device : DevicePages) (n : ℕ) → length pages ≤ n
    → ArePut pages device n → (b : ℕ) (page : List ℕ) → page_in pages b ≡ Some page → device b ≡ Some page
all_put pages device n all put b page told = elim (cases_lt b n) [
  | inl h ↦ put b page h told
  | inr h ↦ absurd (let none = get_or_past pages b None (omega (arith, all, h)) in cc)
]
