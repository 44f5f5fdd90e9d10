-- The pages of the used blocks of an image.
use Rattle.std.proofs.Common.{◌≡◌, ℕ, ◌+◌, ◌<◌, List, [], ◌∷◌, ◌++◌, length, get_or, Option, None, refl, sym, ◌∙◌, subst, arith, inl, inr, length-append}
use Rattle.std.proofs.lemmas.Bool.{cases_lt}
use Rattle.std.proofs.lemmas.List.{get_or_append_left, get_or_past}
use Rattle.nl_types.specs.Blocks.Segments.{Segments, AreTidy, IsUsed, total_blocks}
use Rattle.nl_types.specs.Facts.UsedParts.{used_inside}
use Rattle.nl_device.specs.Pages.{DevicePages}
use Rattle.nl_segwriter.specs.Images.{AreUsedPages, page_in}

-- those of the first blocks
pub record AreUsedBelow (s : Segments) (image : DevicePages) (pages : List (Option (List ℕ)))
    (n : ℕ) : Type 0 where
  pub count : length pages ≡ n
  pub used : (b : ℕ) → b < n → IsUsed s b → page_in pages b ≡ image b
  pub unused : (b : ℕ) → b < n → (IsUsed s b → ⊥) → page_in pages b ≡ None

get_or_last : {A : Type 0} (xs : List A) (x d : A) → get_or (xs ++ x ∷ []) (length xs) d ≡ x
get_or_last [] x d = refl
get_or_last (y ∷ xs) x d = get_or_last xs x d

-- a fact on each page, once there is one more
push_page : (P : ℕ → Option (List ℕ) → Type 0) (pages : List (Option (List ℕ))) (page : Option (List ℕ))
    (n : ℕ)
    → length pages ≡ n → ((b : ℕ) → b < n → P b (page_in pages b)) → P n page
    → (b : ℕ) → b < n + 1 → P b (page_in (pages ++ page ∷ []) b)
push_page P pages page n count each last b low = elim (cases_lt b n) [
  | inl h ↦
      subst (P b) (sym (get_or_append_left pages (page ∷ []) None b (omega (arith, h, count)))) (each b h)
  | inr h ↦ let same : length pages ≡ b = omega (arith, h, low, count) in
      subst (λ (k : ℕ). P k (page_in (pages ++ page ∷ []) k)) same
      (subst (P (length pages)) (sym (get_or_last pages page None))
      (subst (λ (k : ℕ). P k page) (sym count) last))
]

pub more_pages : (s : Segments) (image : DevicePages) (pages : List (Option (List ℕ)))
    (page : Option (List ℕ)) (n : ℕ)
    → AreUsedBelow s image pages n
    → (IsUsed s n → page ≡ image n) → ((IsUsed s n → ⊥) → page ≡ None)
    → AreUsedBelow s image (pages ++ page ∷ []) (n + 1)
more_pages s image pages page n are used unused = record {
  count = omega (arith, length-append pages (page ∷ []), are.count);
  used = push_page (λ b p. IsUsed s b → p ≡ image b) pages page n are.count are.used used;
  unused = push_page (λ b p. (IsUsed s b → ⊥) → p ≡ None) pages page n are.count are.unused unused;
}

pub all_pages : (s : Segments) (image : DevicePages) (pages : List (Option (List ℕ))) (n : ℕ) → AreTidy s
    → n ≡ total_blocks s → AreUsedBelow s image pages n → AreUsedPages s image pages
all_pages s image pages n tidy count are = record {
  count = are.count ∙ count;
  used = λ b used. are.used b (omega (arith, used_inside s b tidy used, count)) used;
  unused = λ b unused. elim (cases_lt b n) [
    | inl h ↦ are.unused b h unused
    | inr h ↦ get_or_past pages b None (omega (arith, are.count, h))
  ];
}
