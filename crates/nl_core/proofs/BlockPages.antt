-- Bytes of blocks, cut into pages.
use Rattle.std.proofs.Common.{◌≡◌, ℕ, zero, suc, ◌+◌, ◌*◌, ◌<◌, List, [], ◌∷◌, ◌++◌, length, take, drop, Some, refl, ap, sym, ◌∙◌, arith, take-append-drop, length-drop}
use Rattle.std.specs.Prelude.{slice_get}
use Rattle.std.proofs.Math.Nat.{mul-suc}
use Rattle.std.proofs.lemmas.List.{drop-drop}
use Rattle.nl_vstore.specs.Images.{page_bytes}

-- the first pages of the bytes
abbrev pub cut_pages : ℕ → List ℕ → List (List ℕ)
cut_pages zero bytes = []
cut_pages (suc n) bytes = take 1024 bytes ∷ cut_pages n (drop 1024 bytes)

pub cut-count : (n : ℕ) (bytes : List ℕ) → length (cut_pages n bytes) ≡ n
cut-count zero bytes = refl
cut-count (suc n) bytes = ap suc (cut-count n (drop 1024 bytes))

-- they are the bytes, where there are no more
pub cut-spelled : (n : ℕ) (bytes : List ℕ) → length bytes ≡ 1024 * n → bytes ≡ page_bytes (cut_pages n bytes)
cut-spelled zero [] long = refl
cut-spelled zero (x ∷ bytes) long = absurd (omega (arith, long))
cut-spelled (suc n) bytes long =
    let dropped = length-drop 1024 bytes in
    let rest : length (drop 1024 bytes) ≡ 1024 * n = omega (arith, dropped, long, mul-suc 1024 n) in
    sym (take-append-drop 1024 bytes)
    ∙ ap (λ (behind : List ℕ). take 1024 bytes ++ behind) (cut-spelled n (drop 1024 bytes) rest)

-- the page of a number
pub record IsPageAt (n : ℕ) (bytes : List ℕ) (b : ℕ) (page : List ℕ) : Type 0 where
  pub inside : b < n
  pub is : page ≡ take 1024 (drop (1024 * b) bytes)

pub cut-at : (n : ℕ) (bytes : List ℕ) (b : ℕ) (page : List ℕ) → slice_get (cut_pages n bytes) b ≡ Some page
    → IsPageAt n bytes b page
cut-at zero bytes b page at = cc
cut-at (suc n) bytes zero page at =
    let none : 0 ≡ 1024 * 0 = omega arith in
    record { inside = omega arith; is = some_is (sym at) ∙ ap (λ (k : ℕ). take 1024 (drop k bytes)) none }
  where
    some_is : {A : Type 0} {a b : A} → Some a ≡ Some b → a ≡ b
    some_is e = cc
cut-at (suc n) bytes (suc b) page at =
    let behind : IsPageAt n (drop 1024 bytes) b page = cut-at n (drop 1024 bytes) b page at in
    let on : 1024 + 1024 * b ≡ 1024 * suc b = omega (arith, mul-suc 1024 b) in
    let within = behind.inside in
    record {
      inside = omega (arith, within);
      is =
          behind.is
          ∙ (ap (take 1024) (drop-drop (1024 * b) 1024 bytes) ∙ ap (λ (k : ℕ). take 1024 (drop k bytes)) on);
    }
