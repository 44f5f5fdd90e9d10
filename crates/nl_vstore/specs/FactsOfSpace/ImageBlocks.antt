-- The blocks of an image, one after the other.
use Rattle.std.proofs.Common.{◌≡◌, ℕ, zero, suc, ◌+◌, ◌*◌, ◌/◌, ◌<◌, ◌≤◌, Bool, true, false, List, [], ◌∷◌, ◌++◌, length, take, drop, Option, None, Some, ◌⊎◌, inl, inr, refl, ap, sym, ◌∙◌, subst, arith, append-nil, append_assoc, length-append}
use Rattle.std.specs.Prelude.{nat_lt, slice_get}
use Rattle.std.proofs.lemmas.Bool.{cases_lt, lt-ltb, ltb-true}
use Rattle.std.proofs.lemmas.List.{drop-drop}
use Rattle.std.proofs.lemmas.List.Concat.{flat_map-append}
use borrow.Rule.Slice.PartMut.{put_mid}
use Rattle.nl_types.specs.Blocks.Segments.{Segments, IsUsed}
use Rattle.nl_types.specs.Facts.EqualPieces.{put_mid-seam}
use Rattle.nl_vstore.specs.Content.{SpaceContent}
use Rattle.nl_vstore.specs.Images.{IsPageOf, IsRestAt, IsRestZero, page_bytes, pages_of_bytes, zero_page}

-- a block that there is
pub page_there : (bytes : List ℕ) (n b : ℕ) → length bytes ≡ 1024 * n → b < n
    → pages_of_bytes bytes b ≡ Some (take 1024 (drop (1024 * b) bytes))
page_there bytes n b size within =
    let low : nat_lt b (length bytes / 1024) ≡ true = lt-ltb b (length bytes / 1024) (omega arith) in
    rw low refl

-- and one that there isn't
pub page_past : (bytes : List ℕ) (n b : ℕ) → length bytes ≡ 1024 * n → n ≤ b → pages_of_bytes bytes b ≡ None
page_past bytes n b size past = by_test (nat_lt b (length bytes / 1024)) refl
  where
    by_test : (t : Bool) → nat_lt b (length bytes / 1024) ≡ t → pages_of_bytes bytes b ≡ None
    by_test true e = absurd (let low = ltb-true b (length bytes / 1024) e in omega (arith, low))
    by_test false e = rw e refl

-- the rest is zero where it is at each block that there is
pub rest_zero : (s : Segments) (bytes : List ℕ) (n : ℕ) → length bytes ≡ 1024 * n
    → ((b : ℕ) → b < n → IsRestAt s (pages_of_bytes bytes) b) → IsRestZero s (pages_of_bytes bytes)
rest_zero s bytes n size each b page unused at = elim (cases_lt b n) [
  | inl h ↦ each b h page unused at
  | inr h ↦ absurd (let none = page_past bytes n b size h in cc)
]

-- a used block isn't judged, and another one is zero or not
pub used_rest : (s : Segments) (pages : ℕ → Option (List ℕ)) (b : ℕ) → IsUsed s b → IsRestAt s pages b
used_rest s pages b used page unused at = absurd (unused used)

pub unused_rest : (s : Segments) (pages : ℕ → Option (List ℕ)) (b : ℕ) (page : List ℕ) (test : Type 0)
    → pages b ≡ Some page → (IsUsed s b → ⊥) → (test → page ≡ zero_page) × (page ≡ zero_page → test)
    → (test → IsRestAt s pages b) × (IsRestAt s pages b → test)
unused_rest s pages b page test at unused says = (
  λ t other not_used there.
      let same : Some page ≡ Some other = sym at ∙ there in
      subst (λ (p : List ℕ). p ≡ zero_page) (some_is same) (says.0 t),
  λ rest. says.1 (rest page unused at),
)
  where
    some_is : {A : Type 0} {a b : A} → Some a ≡ Some b → a ≡ b
    some_is e = cc

-- the same, where the code reads so many bytes
pub page_part : (bytes : List ℕ) (n b w : ℕ) → length bytes ≡ 1024 * n → b < n → w ≡ 1024
    → pages_of_bytes bytes b ≡ Some (take w (drop (1024 * b) bytes))
page_part bytes n b w size within whole =
    page_there bytes n b size within ∙ ap (λ (k : ℕ). Some (take k (drop (1024 * b) bytes))) (sym whole)

-- ---- what is written

-- the pages of the first blocks are written
pub record AreDumped (c : SpaceContent) (before out : List ℕ) (n : ℕ) : Type 0 where
  pub pages : List (List ℕ)
  pub spelled : out ≡ page_bytes pages ++ drop (1024 * n) before
  pub size : length (page_bytes pages) ≡ 1024 * n
  pub count : length pages ≡ n
  pub each : (b : ℕ) (page : List ℕ) → slice_get pages b ≡ Some page → IsPageOf c b page

pub none_dumped : (c : SpaceContent) (before : List ℕ) → AreDumped c before before 0
none_dumped c before =
    record { pages = []; spelled = refl; size = refl; count = refl; each = λ b page at. absurd (cc) }

-- a value of a list with one more stands in the list, or is the last one
slice_get-push : {A : Type 0} (xs : List A) (x : A) (i : ℕ) (y : A) → slice_get (xs ++ x ∷ []) i ≡ Some y
    → (slice_get xs i ≡ Some y) ⊎ ((i ≡ length xs) × (y ≡ x))
slice_get-push [] x zero y at = inr (refl, let same : Some x ≡ Some y = at in cc)
slice_get-push [] x (suc zero) y at = cc
slice_get-push [] x (suc (suc i)) y at = cc
slice_get-push (x0 ∷ xs) x zero y at = inl at
slice_get-push (x0 ∷ xs) x (suc i) y at = elim (slice_get-push xs x i y at) [
  | inl front ↦ inl front
  | inr last ↦ inr (ap suc last.0, last.1)
]

pages_push : (pages : List (List ℕ)) (page : List ℕ)
    → page_bytes (pages ++ page ∷ []) ≡ page_bytes pages ++ page
pages_push pages page =
    flat_map-append (λ (p : List ℕ). p) pages (page ∷ [])
    ∙ ap (λ (xs : List ℕ). page_bytes pages ++ xs) (append-nil page)

pub more_dumped : (c : SpaceContent) (before out page : List ℕ) (n w : ℕ) → AreDumped c before out n
    → IsPageOf c n page → w ≡ 1024 → AreDumped c before (put_mid (1024 * n) w out page) (n + 1)
more_dumped c before out page n w are is whole = record {
  pages = are.pages ++ page ∷ [];
  spelled = spelled;
  size =
      ap length (pages_push are.pages page)
      ∙ omega (arith, length-append (page_bytes are.pages) page, are.size, is.whole);
  count = omega (arith, length-append are.pages (page ∷ []), are.count);
  each = λ b p at. elim (slice_get-push are.pages page b p at) [
    | inl front ↦ are.each b p front
    | inr last ↦ rw (last.0, are.count, last.1) is
  ];
}
  where
    spelled : put_mid (1024 * n) w out page
        ≡ page_bytes (are.pages ++ page ∷ []) ++ drop (1024 * (n + 1)) before
    spelled =
        let front : List ℕ = page_bytes are.pages in
        let rest : drop w (drop (1024 * n) before) ≡ drop (1024 * (n + 1)) before =
        drop-drop w (1024 * n) before ∙ ap (λ (k : ℕ). drop k before) (omega (arith, whole)) in
        ap (λ (xs : List ℕ). put_mid (1024 * n) w xs page) are.spelled
        ∙ (ap (λ (k : ℕ). put_mid k w (front ++ drop (1024 * n) before) page) (sym are.size)
        ∙ (put_mid-seam front (drop (1024 * n) before) page w
        ∙ (ap (λ (xs : List ℕ). front ++ (page ++ xs)) rest
        ∙ (sym (append_assoc front page (drop (1024 * (n + 1)) before))
        ∙ ap (λ (xs : List ℕ). xs ++ drop (1024 * (n + 1)) before) (sym (pages_push are.pages page))))))
