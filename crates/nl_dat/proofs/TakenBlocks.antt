-- The blocks of the first numbers, each taken once.
use Rattle.std.proofs.Common.{◌≡◌, ℕ, zero, suc, ◌+◌, ◌<◌, ◌≤◌, ◌⊎◌, inl, inr, Bool, true, false, List, length, get_or, set, Option, None, Some, refl, ap, sym, ◌∙◌, subst, arith}
use Rattle.std.specs.Option.{IfSome, option_map}
use Rattle.std.proofs.Math.ListN.{replicate}
use Rattle.std.proofs.lemmas.Bool.{cases_eq, cases_lt}
use Rattle.std.proofs.lemmas.List.{get_or-set_same, get_or-set_other, get_or_default, get_or_past, length-replicate, length-set}
use Rattle.nl_dat.specs.declared.entries.DatEntry.{DatEntry}
use Rattle.nl_dat.specs.Images.{HasTakenBlock, TakesBlock, entry_told}
use Rattle.nl_dat.specs.Table.{addresses_of, block_of}
use Rattle.nl_dat.specs.TakenOut.{HaveOwnBlocks}

-- the block of the number at a place, if it is in use
abbrev pub block_at : List (Option DatEntry) → ℕ → Option ℕ
block_at numbers i = option_map block_of (get_or numbers i None)

-- the blocks of the first numbers are taken, no others are, and no two of these have one
pub record IsTakenBelow (numbers : List (Option DatEntry)) (blocks n : ℕ) (taken : List Bool) : Type 0 where
  pub count : length taken ≡ blocks
  pub told : (i b : ℕ) → i < n → block_at numbers i ≡ Some b → get_or taken b false ≡ true
  pub only : (b : ℕ) → get_or taken b false ≡ true → (i : ℕ) × (i < n) × (block_at numbers i ≡ Some b)
  pub apart : (i j b : ℕ) → i < n → j < n → block_at numbers i ≡ Some b → block_at numbers j ≡ Some b → i ≡ j

none_taken : (n b : ℕ) → get_or (replicate n false) b false ≡ true → ⊥
none_taken zero b e = cc
none_taken (suc n) zero e = cc
none_taken (suc n) (suc b) e = none_taken n b e

pub none_below : (numbers : List (Option DatEntry)) (blocks : ℕ)
    → IsTakenBelow numbers blocks 0 (replicate blocks false)
none_below numbers blocks = record {
  count = length-replicate blocks false;
  told = λ i b low at. absurd (omega arith);
  only = λ b e. absurd (none_taken blocks b e);
  apart = λ i j b low lower at bt. absurd (omega arith);
}

-- ---- one more

module _ (numbers : List (Option DatEntry)) (blocks n : ℕ) (taken : List Bool)
    (is : IsTakenBelow numbers blocks n taken) where
  -- the next number is not in use
  more_unused : get_or numbers n None ≡ None → IsTakenBelow numbers blocks (n + 1) taken
  more_unused unused = record {
    count = is.count;
    told = λ i b low at. elim (cases_lt i n) [
      | inl h ↦ is.told i b h at
      | inr h ↦ absurd (here i b (omega (arith, h, low)) at)
    ];
    only = λ b e. let o = is.only b e in (o.0, omega (arith, o.1), o.2);
    apart = λ i j b low lower at bt. elim (cases_lt i n) [
      | inl h ↦ elim (cases_lt j n) [
        | inl k ↦ is.apart i j b h k at bt
        | inr k ↦ absurd (here j b (omega (arith, k, lower)) bt)
      ]
      | inr h ↦ absurd (here i b (omega (arith, h, low)) at)
    ];
  }
    where
      here : (i b : ℕ) → i ≡ n → block_at numbers i ≡ Some b → ⊥
      here i b e at =
          let none : block_at numbers n ≡ None = ap (option_map block_of) unused in
          let there : block_at numbers n ≡ Some b = subst (λ (k : ℕ). block_at numbers k ≡ Some b) e at in
          cc

  -- the block of the next number was free
  more_free : (e : DatEntry) → get_or numbers n None ≡ Some e → e.block < blocks
      → get_or taken e.block false ≡ false → IsTakenBelow numbers blocks (n + 1) (set taken e.block true)
  more_free e used inside free = record {
    count = length-set taken e.block true ∙ is.count;
    told = λ i b low at. elim (cases_lt i n) [
      | inl h ↦ elim (cases_eq b e.block) [
        | inl same ↦ rw same now
        | inr other ↦ get_or-set_other taken e.block b true false other ∙ is.told i b h at
      ]
      | inr h ↦ rw (sym (here i b (omega (arith, h, low)) at)) now
    ];
    only = λ b t. elim (cases_eq b e.block) [
      | inl same ↦ (n, omega arith, block ∙ ap (λ (k : ℕ). Some k) (sym same))
      | inr other ↦
          let o = is.only b (sym (get_or-set_other taken e.block b true false other) ∙ t) in
          (o.0, omega (arith, o.1), o.2)
    ];
    apart = λ i j b low lower at bt. elim (cases_lt i n) [
      | inl h ↦ elim (cases_lt j n) [
        | inl k ↦ is.apart i j b h k at bt
        | inr k ↦ absurd (twice i b h at (here j b (omega (arith, k, lower)) bt))
      ]
      | inr h ↦ elim (cases_lt j n) [
        | inl k ↦ absurd (twice j b k bt (here i b (omega (arith, h, low)) at))
        | inr k ↦ omega (arith, h, k, low, lower)
      ]
    ];
  }
    where
      block : block_at numbers n ≡ Some e.block
      block = ap (option_map block_of) used

      now : get_or (set taken e.block true) e.block false ≡ true
      now = get_or-set_same taken e.block true false (omega (arith, inside, is.count))

      here : (i b : ℕ) → i ≡ n → block_at numbers i ≡ Some b → e.block ≡ b
      here i b same at =
          let there : block_at numbers n ≡ Some b = subst (λ (k : ℕ). block_at numbers k ≡ Some b) same at in
          cc

      twice : (i b : ℕ) → i < n → block_at numbers i ≡ Some b → e.block ≡ b → ⊥
      twice i b low at same =
          let t : get_or taken b false ≡ true = is.told i b low at in
          let f : get_or taken b false ≡ false = subst (λ (k : ℕ). get_or taken k false ≡ false) same free in
          cc

-- the blocks after one more number
pub more_taken : (numbers : List (Option DatEntry)) (blocks n : ℕ) (taken new : List Bool)
    (entry : Option DatEntry)
    → n < length numbers → entry ≡ get_or numbers n entry → IfSome entry (λ e. e.block < blocks)
    → IsTakenBelow numbers blocks n taken → TakesBlock entry taken new
    → IsTakenBelow numbers blocks (n + 1) new
more_taken numbers blocks n taken new None within at inside is takes =
    rw takes (more_unused numbers blocks n taken is (sym at))
more_taken numbers blocks n taken new (Some e) within at inside is takes =
    rw takes.1 (more_free numbers blocks n taken is e
    (get_or_default numbers n None (Some e) within ∙ sym at) inside takes.0)

-- ---- in the end

-- a number's block is that of the entry at the place before it
told_block : (numbers : List (Option DatEntry)) (v b : ℕ) → addresses_of (entry_told numbers) v ≡ Some b
    → (i : ℕ) × (v ≡ suc i) × (block_at numbers i ≡ Some b) × (i < length numbers)
told_block numbers zero b at = absurd (cc)
told_block numbers (suc i) b at = (i, refl, at, within (cases_lt i (length numbers)))
  where
    within : (i < length numbers) ⊎ (length numbers ≤ i) → i < length numbers
    within (inl h) = h
    within (inr h) =
        absurd
        (let none : block_at numbers i ≡ None = ap (option_map block_of) (get_or_past numbers i None h) in
        cc)

pub all_apart : (numbers : List (Option DatEntry)) (blocks n : ℕ) (taken : List Bool) → length numbers ≤ n
    → IsTakenBelow numbers blocks n taken → HaveOwnBlocks (addresses_of (entry_told numbers))
all_apart numbers blocks n taken all is v w b at bt =
    let p = told_block numbers v b at in
    let q = told_block numbers w b bt in
    let same = is.apart p.0 q.0 b (omega (arith, p.3)) (omega (arith, q.3)) p.2 q.2 in
    omega (arith, p.1, q.1, same)

-- a block that was taken before is that of two numbers
pub not_apart : (numbers : List (Option DatEntry)) (blocks n : ℕ) (taken : List Bool)
    (entry : Option DatEntry)
    → n < length numbers → entry ≡ get_or numbers n entry
    → IsTakenBelow numbers blocks n taken → HasTakenBlock entry taken
    → HaveOwnBlocks (addresses_of (entry_told numbers)) → ⊥
not_apart numbers blocks n taken None within at is twice apart = twice
not_apart numbers blocks n taken (Some e) within at is twice apart =
    let o = is.only e.block twice in
    let here : block_at numbers n ≡ Some e.block =
    ap (option_map block_of) (get_or_default numbers n None (Some e) within ∙ sym at) in
    let same = apart (suc o.0) (suc n) e.block o.2 here in
    omega (arith, o.1, same)
