-- Kept checkpoints and their numbers.
use Rattle.std.proofs.Common.{◌≡◌, ℕ, zero, suc, ◌<◌, true, cond, List, [], ◌∷◌, get_or, length, Option, Some, None, refl, ap, sym, ◌∙◌, arith, inl, inr}
use Rattle.std.specs.Prelude.{All, IsTrue, map, ◌||◌}
use Rattle.std.specs.List.{AllZip}
use Rattle.std.specs.Option.{option_map}
use Rattle.std.specs.Cmp.{unsigned_tied}
use Rattle.std.specs.Ordering.{nat_cmp, eq_by_cmp, is_lt}
use Rattle.std.specs.FinMap.{is_sorted}
use Rattle.std.specs.FinMap.Entries.{below_all}
use Rattle.std.proofs.lemmas.Bool.{and_parts, cases_Bool, eq-eqb}
use Rattle.nl_types.specs.Blocks.Lifetimes.{Numbers}
use Rattle.nl_types.specs.Plain.NumberLists.{is_one_of}
use Rattle.nl_types.specs.Blocks.Roots.{Pages}
use Rattle.nl_types.specs.Plain.Worlds.{Copy}
use Rattle.nl_types.specs.Facts.NumberedLists.{before-lt, tied-false}
use Rattle.nl_cpfile.specs.declared.checkpoint.Checkpoint.{Checkpoint}
use Rattle.nl_cpfile.specs.Facts.Found.{found}
use Rattle.nl_reclaim.specs.Reclaims.{IsLedgerOf}
use Rattle.nl_events.specs.CleanedPens.{kept_store, kept_number}
use Rattle.nl_commit.specs.Layout.{Layout, ledger_of, layout_pages, reached_by}
use Rattle.nl_commit.specs.Means.{CopyMeans}
use Rattle.nl_commit.specs.Volume.{kept_by}

-- ---- numbers under which there is a checkpoint

pub found-among : (n : ℕ) (kept : List Checkpoint) (c : Checkpoint) → found n kept ≡ Some c
    → is_one_of (map kept_number kept) n ≡ true
found-among n [] c is = cc
found-among n (k ∷ kept) c is = elim (cases_Bool (eq_by_cmp nat_cmp n k.number)) [
  | inl t ↦ ap (λ b. b || is_one_of (map kept_number kept) n) (sym (unsigned_tied n k.number) ∙ t)
  | inr t ↦ ap (λ b. b || is_one_of (map kept_number kept) n) (sym (unsigned_tied n k.number) ∙ t)
      ∙ found-among n kept c (sym (ap (λ b. cond b (Some k) (found n kept)) t) ∙ is)
]

-- the ledger of a pen keeps checkpoints of these numbers alone
pub kept-ledger : (l : Layout) → IsLedgerOf (ledger_of l) (kept_store l)
kept-ledger l =
    record { content = refl; kept = λ c numbers is. by_found c numbers (found c (kept_by l.lists)) refl is }
  where
    by_found : (c : ℕ) (numbers : Numbers) (o : Option Checkpoint) → found c (kept_by l.lists) ≡ o
        → option_map (reached_by (layout_pages l)) o ≡ Some numbers
        → is_one_of (map kept_number (kept_by l.lists)) c ≡ true
    by_found c numbers None at is = cc
    by_found c numbers (Some k) at is = found-among c (kept_by l.lists) k at

-- ---- each is found under its own number

module _ (pages : Pages) where
  -- those behind a number are greater
  greater : (n : ℕ) (kept : List Checkpoint) (copies : List (ℕ × Copy)) → AllZip (CopyMeans pages) kept copies
      → IsTrue (below_all nat_cmp n copies) → (i : ℕ) (d : Checkpoint) → i < length kept
      → n < (get_or kept i d).number
  greater n [] copies means below i d low = absurd (omega (arith, low))
  greater n (c ∷ kept) [] means below i d low = absurd means
  greater n (c ∷ kept) (copy ∷ copies) means below zero d low =
      let parts = and_parts (is_lt (nat_cmp n copy.0)) (below_all nat_cmp n copies) below in
      omega (arith, before-lt n copy.0 parts.0, means.0.number)
  greater n (c ∷ kept) (copy ∷ copies) means below (suc i) d low =
      let parts = and_parts (is_lt (nat_cmp n copy.0)) (below_all nat_cmp n copies) below in
      greater n kept copies means.1 parts.1 i d (omega (arith, low))

  pub found-own : (kept : List Checkpoint) (copies : List (ℕ × Copy)) → AllZip (CopyMeans pages) kept copies
      → IsTrue (is_sorted nat_cmp copies) → All (λ (c : Checkpoint). found c.number kept ≡ Some c) kept
  found-own [] copies means sorted i d low = absurd (omega (arith, low))
  found-own (c ∷ kept) [] means sorted i d low = absurd means
  found-own (c ∷ kept) (copy ∷ copies) means sorted zero d low =
      ap (λ b. cond b (Some c) (found c.number kept))
      (unsigned_tied c.number c.number ∙ eq-eqb c.number c.number refl)
  found-own (c ∷ kept) (copy ∷ copies) means sorted (suc i) d low =
      let parts = and_parts (below_all nat_cmp copy.0 copies) (is_sorted nat_cmp copies) sorted in
      let less : copy.0 < (get_or kept i d).number =
      greater copy.0 kept copies means.1 parts.0 i d (omega (arith, low)) in
      ap (λ b. cond b (Some c) (found (get_or kept i d).number kept))
      (tied-false (get_or kept i d).number c.number
      (λ same. absurd (omega (arith, less, means.0.number, same))))
      ∙ found-own kept copies means.1 parts.1 i d (omega (arith, low))
