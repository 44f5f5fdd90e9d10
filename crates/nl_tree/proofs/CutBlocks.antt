-- What a truncation makes of a file's blocks.
use Rattle.std.proofs.Common.{◌≡◌, ◌==◌, ℕ, ◌+◌, ◌*◌, ◌/◌, ◌<◌, ◌≤◌, ◌⊎◌, Bool, true, false, cond, List, [], ◌∷◌, length, Option, Some, None, refl, sym, ap, ◌∙◌, subst, inl, inr, arith}
use Rattle.std.specs.Prelude.{◌&&◌, ◌%◌, MatchOption, is_some, nat_lt, slice_index}
use Rattle.std.proofs.lemmas.Bool.{and_from, and_right, cases_lt, cond-false, cond-true, eq-eqb, le-ltb, lt-ltb}
use Rattle.nl_types.specs.Blocks.Roots.{Blocks}
use Rattle.nl_tree.specs.Contents.{byte_in}
use Rattle.nl_tree.specs.Held.{byte_stored, IsFileHeld}
use Rattle.nl_tree.specs.Bytes.{ArePagesCut, IsPageCut, Resizes}
use Rattle.nl_tree.specs.Private.Pages.{blocks_below, blocks_for, put_from}
use Rattle.nl_tree.proofs.StoredBytes.{resizes-end}
use Rattle.nl_tree.proofs.WrittenBlocks.{put-before}

-- what a block is once a file is cut at a size: as it was below it, gone past it, and cut where the size lies
-- in it
pub data BlockCut (size : ℕ) (old new : Option (List ℕ)) (b : ℕ) : Type 0 where
  below : 1024 * b + 1024 ≤ size → new ≡ old → BlockCut size old new b
  past : size ≤ 1024 * b → new ≡ None → BlockCut size old new b
  hole : old ≡ None → new ≡ None → BlockCut size old new b
  cut : (was page : List ℕ) → (1024 * b < size) × (size < 1024 * b + 1024) → old ≡ Some was → new ≡ Some page
      → IsPageCut was (size % 1024) page → BlockCut size old new b

-- a byte lies below the size, by where both lie in their block
same_test : (size k : ℕ) → 1024 * (k / 1024) < size → size < 1024 * (k / 1024) + 1024
    → nat_lt (k % 1024) (size % 1024) ≡ nat_lt k size
same_test size k low high = by_place (cases_lt k size)
  where
    by_place : (k < size) ⊎ (size ≤ k) → nat_lt (k % 1024) (size % 1024) ≡ nat_lt k size
    by_place (inl l) = lt-ltb (k % 1024) (size % 1024) (omega arith) ∙ sym (lt-ltb k size l)
    by_place (inr r) = le-ltb (k % 1024) (size % 1024) (omega arith) ∙ sym (le-ltb k size r)

either_zero : (t : Bool) → ◌≡◌ {A = ℕ} (cond t 0 0) 0
either_zero true = refl
either_zero false = refl

module _ (blocks : Blocks) (size : ℕ) (pages : List (List ℕ)) (are : ArePagesCut blocks size pages) where
  abbrev now : Blocks
  now = blocks_below (blocks_for size) (put_from (size / 1024) pages blocks)

  now-below : (b : ℕ) → b < blocks_for size → now b ≡ put_from (size / 1024) pages blocks b
  now-below b low =
      cond-true (nat_lt b (blocks_for size)) (put_from (size / 1024) pages blocks b) None
      (lt-ltb b (blocks_for size) low)

  now-past : (b : ℕ) → blocks_for size ≤ b → now b ≡ None
  now-past b high =
      cond-false (nat_lt b (blocks_for size)) (put_from (size / 1024) pages blocks b) None
      (le-ltb b (blocks_for size) high)

  -- the block that the size lies in
  last_block : 0 < size % 1024 → (old : Option (List ℕ)) → blocks (size / 1024) ≡ old
      → BlockCut size (blocks (size / 1024)) (now (size / 1024)) (size / 1024)
  last_block within old e = by_page old e
      (subst (λ (o : Option (List ℕ)).
      MatchOption o (pages ≡ [])
      (λ was. (page : List ℕ) × (pages ≡ page ∷ []) × IsPageCut was (size % 1024) page))
      (cond-true (nat_lt 0 (size % 1024)) (blocks (size / 1024)) None (lt-ltb 0 (size % 1024) within) ∙ e)
      are)
    where
      kept : now (size / 1024) ≡ put_from (size / 1024) pages blocks (size / 1024)
      kept = now-below (size / 1024) (omega (arith, within))

      by_page : (o : Option (List ℕ)) → blocks (size / 1024) ≡ o
          → MatchOption o (pages ≡ [])
          (λ was. (page : List ℕ) × (pages ≡ page ∷ []) × IsPageCut was (size % 1024) page)
          → BlockCut size (blocks (size / 1024)) (now (size / 1024)) (size / 1024)
      by_page None e no_page =
          hole e
          (kept ∙ ap (λ (p : List (List ℕ)). put_from (size / 1024) p blocks (size / 1024)) no_page ∙ e)
      by_page (Some was) e (page, one, is) =
          cut was page (omega (arith, within), omega arith) e
          (kept ∙ ap (λ (p : List (List ℕ)). put_from (size / 1024) p blocks (size / 1024)) one
          ∙ cond-true (size / 1024 == size / 1024) (Some page) (blocks (size / 1024))
          (eq-eqb (size / 1024) (size / 1024) refl))
          is

  block-cut : (b : ℕ) → BlockCut size (blocks b) (now b) b
  block-cut b = by_place (cases_lt b (size / 1024))
    where
      by_end : size / 1024 ≤ b → (b < blocks_for size) ⊎ (blocks_for size ≤ b)
          → BlockCut size (blocks b) (now b) b
      by_end from (inr high) = past (omega (arith, high)) (now-past b high)
      by_end from (inl low) =
          let same : size / 1024 ≡ b = omega (arith, from, low) in
          subst (λ (c : ℕ). BlockCut size (blocks c) (now c) c) same
          (last_block (omega (arith, from, low)) (blocks (size / 1024)) refl)

      by_place : (b < size / 1024) ⊎ (size / 1024 ≤ b) → BlockCut size (blocks b) (now b) b
      by_place (inl low) =
          below (omega (arith, low))
          (now-below b (omega (arith, low)) ∙ put-before pages (size / 1024) blocks b low)
      by_place (inr from) = by_end from (cases_lt b (blocks_for size))

  stored_by : (b : ℕ) → BlockCut size (blocks b) (now b) b
      → is_some (now b) ≡ (nat_lt (1024 * b) size && is_some (blocks b))
  stored_by b (below low e) =
      ap (λ (o : Option (List ℕ)). is_some o) e
      ∙ sym (ap (λ (t : Bool). t && is_some (blocks b)) (lt-ltb (1024 * b) size (omega (arith, low))))
  stored_by b (past high e) =
      ap (λ (o : Option (List ℕ)). is_some o) e
      ∙ sym (ap (λ (t : Bool). t && is_some (blocks b)) (le-ltb (1024 * b) size high))
  stored_by b (hole none e) =
      ap (λ (o : Option (List ℕ)). is_some o) e
      ∙ sym (and_right (nat_lt (1024 * b) size) (is_some (blocks b))
      (ap (λ (o : Option (List ℕ)). is_some o) none))
  stored_by b (cut was page inside old e is) =
      ap (λ (o : Option (List ℕ)). is_some o) e
      ∙ sym (and_from (nat_lt (1024 * b) size) (is_some (blocks b)) (lt-ltb (1024 * b) size inside.0)
      (ap (λ (o : Option (List ℕ)). is_some o) old))

  byte_by : (k : ℕ) → BlockCut size (blocks (k / 1024)) (now (k / 1024)) (k / 1024)
      → byte_stored now k ≡ cond (nat_lt k size) (byte_stored blocks k) 0
  byte_by k (below low e) =
      ap (λ (o : Option (List ℕ)). byte_in o (k % 1024)) e
      ∙ sym (cond-true (nat_lt k size) (byte_stored blocks k) 0 (lt-ltb k size (omega (arith, low))))
  byte_by k (past high e) =
      ap (λ (o : Option (List ℕ)). byte_in o (k % 1024)) e
      ∙ sym (cond-false (nat_lt k size) (byte_stored blocks k) 0 (le-ltb k size (omega (arith, high))))
  byte_by k (hole none e) =
      ap (λ (o : Option (List ℕ)). byte_in o (k % 1024)) e
      ∙ sym (ap (λ (o : Option (List ℕ)). cond (nat_lt k size) (byte_in o (k % 1024)) 0) none
      ∙ either_zero (nat_lt k size))
  byte_by k (cut was page inside old e is) =
      ap (λ (o : Option (List ℕ)). byte_in o (k % 1024)) e
      ∙ is.bytes_at (k % 1024) (omega arith)
      ∙ ap (λ (t : Bool). cond t (slice_index was (k % 1024)) 0) (same_test size k inside.0 inside.1)
      ∙ sym (ap (λ (o : Option (List ℕ)). cond (nat_lt k size) (byte_in o (k % 1024)) 0) old)

  pub cut-resizes : Resizes blocks now size
  cut-resizes =
      record { stored = λ b. stored_by b (block-cut b); bytes_at = λ k. byte_by k (block-cut (k / 1024)) }

  pub cut-held : (old : ℕ) → IsFileHeld old blocks → size ≤ 67108864 → IsFileHeld size now
  cut-held old is fits = record {
    small = fits;
    none_past = λ b high. none b high (block-cut b);
    zeros = resizes-end blocks now size cut-resizes;
    whole = λ b page e. whole_by b page e (block-cut b);
  }
    where
      none : (b : ℕ) → size ≤ 1024 * b → BlockCut size (blocks b) (now b) b → now b ≡ None
      none b high (below low e) = absurd (omega (arith, high, low))
      none b high (past h e) = e
      none b high (hole o e) = e
      none b high (cut was page inside o e c) = absurd (omega (arith, high, inside.0))

      whole_by : (b : ℕ) (page : List ℕ) → now b ≡ Some page → BlockCut size (blocks b) (now b) b
          → length page ≡ 1024
      whole_by b page e (below low same) = is.whole b page (sym same ∙ e)
      whole_by b page e (past h none) =
          let clash : ◌≡◌ {A = Option (List ℕ)} None (Some page) = sym none ∙ e in cc
      whole_by b page e (hole o none) =
          let clash : ◌≡◌ {A = Option (List ℕ)} None (Some page) = sym none ∙ e in cc
      whole_by b page e (cut was made inside o same c) =
          let one : made ≡ page = cc (sym same ∙ e) in ap length (sym one) ∙ c.whole

  -- one page at most
  pub few_pages : length pages ≤ 1
  few_pages = by_page (cond (nat_lt 0 (size % 1024)) (blocks (size / 1024)) None) are
    where
      by_page : (o : Option (List ℕ))
          → MatchOption o (pages ≡ [])
          (λ was. (page : List ℕ) × (pages ≡ page ∷ []) × IsPageCut was (size % 1024) page)
          → length pages ≤ 1
      by_page None none = omega (arith, ap length none)
      by_page (Some was) (page, one, is) = omega (arith, ap length one)
