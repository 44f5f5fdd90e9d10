-- What the first numbers stand for, as they are read one after another.
use Rattle.std.proofs.Common.{◌≡◌, ◌∙◌, ℕ, ◌+◌, ◌<◌, List, [], ◌∷◌, ◌++◌, Option, None, ap, arith, get_or, inl, inr, length, length-append}
use Rattle.std.proofs.lemmas.Bool.{cases_lt}
use Rattle.std.proofs.lemmas.List.{get_or_append_left}
use Rattle.std.proofs.Math.Seq.{get_or-append_seam}
use Rattle.nl_damage.specs.declared.pages.Numbered.{Numbered}
use Rattle.nl_damage.specs.declared.sections.Sections.{Sections}
use Rattle.nl_damage.specs.Pages.{ArePagesOf, numbered_in}
use Rattle.nl_damage.specs.Sections.{total_in}

pub record AreReadUpTo (x : Sections) (n : ℕ) (items : List (Option Numbered)) : Type 0 where
  pub count : length items ≡ n
  pub each : (v : ℕ) → v < n → get_or items v None ≡ numbered_in x v

pub none-read : (x : Sections) (items : List (Option Numbered)) → items ≡ [] → AreReadUpTo x 0 items
none-read x items none = record { count = ap length none; each = λ v less. absurd (omega (arith, less)) }

pub more-read : (x : Sections) (n : ℕ) (items more : List (Option Numbered)) (o : Option Numbered)
    → AreReadUpTo x n items → more ≡ items ++ o ∷ [] → o ≡ numbered_in x n → AreReadUpTo x (n + 1) more
more-read x n items more o read is told = record {
  count = ap length is ∙ (length-append items (o ∷ []) ∙ ap (λ (m : ℕ). m + 1) read.count);
  each = λ v less. ap (λ (l : List (Option Numbered)). get_or l v None) is
      ∙ elim (cases_lt v n) [
        | inl low ↦ get_or_append_left items (o ∷ []) None v (omega (arith, low, read.count)) ∙ read.each v low
        | inr high ↦
            (let at : v ≡ length items = omega (arith, less, high, read.count) in
            let here : n ≡ v = omega (arith, less, high) in
            ap (λ (i : ℕ). get_or (items ++ o ∷ []) i None) at
            ∙ (get_or-append_seam items o [] None ∙ (told ∙ ap (numbered_in x) here)))
      ];
}

pub all-read : (x : Sections) (n : ℕ) (items table : List (Option Numbered)) → AreReadUpTo x n items
    → table ≡ items → n ≡ total_in x + 1 → ArePagesOf x (record { table = table })
all-read x n items table read is all = record {
  count = ap length is ∙ (read.count ∙ all);
  each = λ v most. ap (λ (l : List (Option Numbered)). get_or l v None) is
      ∙ read.each v (omega (arith, most, all));
}
