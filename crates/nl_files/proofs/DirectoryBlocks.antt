-- The records of a directory, block by block.
use Rattle.std.proofs.Common.{◌≡◌, ℕ, zero, suc, ◌+◌, ◌-◌, ◌^◌, min, inl, inr, append_assoc, ◌<◌, ◌≤◌, ◌/◌, List, [], ◌∷◌, ◌++◌, length, drop, Some, None, refl, sym, ap, subst, ◌∙◌, arith, length-append}
use Rattle.std.specs.List.{All, slice_get}
use Rattle.std.proofs.lemmas.List.{append-nil, drop_all, get_or_append_left}
use Rattle.std.proofs.lemmas.List.Elements.{All-cons, All-head, All-nil, All-tail}
use Rattle.std.specs.Option.{option_map}
use Rattle.std.proofs.lemmas.Option.{slice_get_cases, slice_get_past}
use Rattle.nl_types.specs.Blocks.Roots.{Blocks}
use Rattle.nl_dirs.specs.declared.record.Record.{Record}
use Rattle.nl_dirs.specs.Records.{AllHaveSpelling, HoldsList, IsPageOf, NamesAscend, RecordHasSpelling, packed_block, sizes}
use Rattle.nl_dirs.specs.Packing.{IsPacked, no_blocks, last_block, full_block}
use Rattle.nl_dirs.specs.Listings.{HoldsRecords}
use Rattle.nl_dirs.specs.Facts.RecordOrder.{all-right, ascending-right}
use Rattle.nl_dirs.specs.Facts.Spelling.{bytes_hold_one_list, packed_block-HoldsList}
use Rattle.nl_files.specs.Private.Directories.{AreBlocksOf}

-- ---- each block's records

all-left : (P : Record → Type 0) (xs ys : List Record) → All P (xs ++ ys) → All P xs
all-left P [] ys h = All-nil P
all-left P (x ∷ xs) ys h =
    All-cons P x xs (All-head P x (xs ++ ys) h) (all-left P xs ys (All-tail P x (xs ++ ys) h))

ascending-left : (xs ys : List Record) → NamesAscend (xs ++ ys) → NamesAscend xs
ascending-left xs ys h i j d lt within =
    let first = get_or_append_left xs ys d i (omega arith) in
    let second = get_or_append_left xs ys d j within in
    rw (sym first, sym second) (h i j d lt (omega (arith, length-append xs ys)))

page_of : (r : Record) (records : List Record) → AllHaveSpelling (r ∷ records) → NamesAscend (r ∷ records)
    → sizes (r ∷ records) ≤ 1024 → IsPageOf (packed_block (r ∷ records)) (r ∷ records)
page_of r records fit ascending room =
    record { fit = fit; some = λ e. cc; ascending = ascending; room = room; spelling = refl }

-- each block is a page of a directory
pages_of_packed : (xs : List Record) (p : List (List Record)) → IsPacked xs p → AllHaveSpelling xs
    → NamesAscend xs
    → (i : ℕ) (block : List Record) → slice_get p i ≡ Some block → IsPageOf (packed_block block) block
pages_of_packed _ _ no_blocks fit ascending i block at = absurd cc
pages_of_packed _ _ (last_block r rs room) fit ascending zero block at =
    let same : (r ∷ rs) ≡ block = cc in
    subst (λ (b : List Record). IsPageOf (packed_block b) b) same (page_of r rs fit ascending room)
pages_of_packed _ _ (last_block r rs room) fit ascending (suc i) block at = absurd cc
pages_of_packed _ _ (full_block r rs n rest blocks room full more) fit ascending zero block at =
    let same : (r ∷ rs) ≡ block = cc in
    subst (λ (b : List Record). IsPageOf (packed_block b) b) same
    (page_of r rs (all-left RecordHasSpelling (r ∷ rs) (n ∷ rest) fit)
    (ascending-left (r ∷ rs) (n ∷ rest) ascending) room)
pages_of_packed _ _ (full_block r rs n rest blocks room full more) fit ascending (suc i) block at =
    pages_of_packed (n ∷ rest) blocks more (all-right RecordHasSpelling (r ∷ rs) (n ∷ rest) fit)
    (ascending-right (r ∷ rs) (n ∷ rest) ascending) i block at

pub blocks_of_records : (blocks : Blocks) (size : ℕ) (records : List Record)
    → (h : HoldsRecords blocks size records) → AreBlocksOf blocks (size / 1024) h.packed
blocks_of_records blocks size records h =
    let count : size / 1024 ≡ length h.packed = let sized = h.sized in omega arith in record {
      stored = h.stored;
      within = λ i lt. inside h.packed i (omega arith);
      past = slice_get_past h.packed (size / 1024) (omega arith);
      pages = pages_of_packed records h.packed h.is_packed h.fit h.ascending;
    }
  where
    inside : (p : List (List Record)) (i : ℕ) → i < length p
        → (block : List Record) × (slice_get p i ≡ Some block)
    inside [] i lt = absurd (omega arith)
    inside (b ∷ p) zero lt = (b, refl)
    inside (b ∷ p) (suc i) lt = inside p i (omega arith)

-- ---- all of them

-- the records of these blocks, one after another
abbrev pub all_of : List (List Record) → List Record
all_of [] = []
all_of (block ∷ packed) = block ++ all_of packed

pub all_of-packed : (records : List Record) (packed : List (List Record)) → IsPacked records packed
    → all_of packed ≡ records
all_of-packed _ _ no_blocks = refl
all_of-packed _ _ (last_block r rs room) = append-nil (r ∷ rs)
all_of-packed _ _ (full_block r rs n rest blocks room full more) =
    ap (λ (xs : List Record). (r ∷ rs) ++ xs) (all_of-packed (n ∷ rest) blocks more)

-- the records from a block on are its own, and those from the next one on
pub all_of-drop : (packed : List (List Record)) (i : ℕ) (block : List Record)
    → slice_get packed i ≡ Some block → all_of (drop i packed) ≡ block ++ all_of (drop (i + 1) packed)
all_of-drop [] i block at = absurd cc
all_of-drop (b ∷ packed) zero block at =
    let same : b ≡ block = cc in ap (λ (x : List Record). x ++ all_of packed) same
all_of-drop (b ∷ packed) (suc i) block at =
    all_of-drop packed i block at ∙ ap (λ (n : ℕ). block ++ all_of (drop n (b ∷ packed))) e
  where
    e : suc (i + 1) ≡ suc i + 1
    e = omega arith

-- ---- reading them in turn

-- what has been read, then what the blocks from this one on have, are a directory's records
abbrev pub IsReadUpTo : Blocks → ℕ → ℕ → List Record → Type 0
IsReadUpTo blocks size index before =
    (records : List Record) → (h : HoldsRecords blocks size records)
    → before ++ all_of (drop index h.packed) ≡ records

-- the same of their number
abbrev pub IsCountedUpTo : Blocks → ℕ → ℕ → ℕ → Type 0
IsCountedUpTo blocks size index before =
    (records : List Record) → (h : HoldsRecords blocks size records) → length records < 2 ^ 64
    → before + length (all_of (drop index h.packed)) ≡ length records

module _ (blocks : Blocks) (size : ℕ) where
  pub read_up_to-init : IsReadUpTo blocks size 0 []
  read_up_to-init records h = all_of-packed records h.packed h.is_packed

  pub counted_up_to-init : IsCountedUpTo blocks size 0 0
  counted_up_to-init records h small =
      omega (arith, ap (length {A = Record}) (all_of-packed records h.packed h.is_packed))

  -- a block that is stored
  stored_block : (records : List Record) (h : HoldsRecords blocks size records) (index : ℕ) (page : List ℕ)
      → Some page ≡ blocks index
      → (block : List Record) × (slice_get h.packed index ≡ Some block) × (page ≡ packed_block block)
      × IsPageOf (packed_block block) block
  stored_block records h index page is = elim (slice_get_cases h.packed index).1 [
    | inl here ↦
        let same : Some page ≡ Some (packed_block here.0) =
        is ∙ (h.stored index ∙ ap (option_map packed_block) here.2) in (
          here.0,
          here.2,
          cc,
          pages_of_packed records h.packed h.is_packed h.fit h.ascending index here.0 here.2,
        )
    | inr past ↦ absurd (clash (is ∙ (h.stored index ∙ ap (option_map packed_block) past.1)))
  ]
    where
      clash : Some page ≡ None → ⊥
      clash e = cc

  pub read_up_to-more : (index : ℕ) (page : List ℕ) (before after : List Record)
      → IsReadUpTo blocks size index before → Some page ≡ blocks index
      → ((block : List Record) → IsPageOf page block → after ≡ before ++ block)
      → IsReadUpTo blocks size (index + 1) after
  read_up_to-more index page before after was is more records h =
      let here = stored_block records h index page is in
      let added : after ≡ before ++ here.0 =
      more here.0 (subst (λ (bytes : List ℕ). IsPageOf bytes here.0) (sym here.2) here.3) in
      ap (λ (xs : List Record). xs ++ all_of (drop (index + 1) h.packed)) added
      ∙ (append_assoc before here.0 (all_of (drop (index + 1) h.packed))
      ∙ (ap (λ (xs : List Record). before ++ xs) (sym (all_of-drop h.packed index here.0 here.1))
      ∙ was records h))

  pub counted_up_to-more : (index : ℕ) (page : List ℕ) (before count after : ℕ) (found : List Record)
      → IsCountedUpTo blocks size index before → Some page ≡ blocks index
      → HoldsList page found → count ≡ length found → after ≡ min (before + count) (2 ^ 64 - 1)
      → IsCountedUpTo blocks size (index + 1) after
  counted_up_to-more index page before count after found was is reads counted sum records h small =
      let here = stored_block records h index page is in
      let same : found ≡ here.0 =
      bytes_hold_one_list page found here.0 reads
      (subst (λ (bytes : List ℕ). HoldsList bytes here.0) (sym here.2)
      (packed_block-HoldsList here.0 here.3.fit)) in
      let long : length found ≡ length here.0 = ap length same in
      let step : length (all_of (drop index h.packed))
      ≡ length (here.0 ++ all_of (drop (index + 1) h.packed)) =
      ap length (all_of-drop h.packed index here.0 here.1) in
      let total : before + length (all_of (drop index h.packed)) ≡ length records = was records h small in
      omega (arith, step, total, long, length-append here.0 (all_of (drop (index + 1) h.packed)))

  -- nothing is left where a block is missing, or all have been read
  nothing_left : (packed : List (List Record)) (index : ℕ) → length packed ≤ index
      → all_of (drop index packed) ≡ []
  nothing_left packed index past = ap all_of (drop_all index packed past)

  missing : (records : List Record) (h : HoldsRecords blocks size records) (index : ℕ) → None ≡ blocks index
      → length h.packed ≤ index
  missing records h index none = elim (slice_get_cases h.packed index).1 [
    | inl here ↦ absurd (clash here.0 (none ∙ (h.stored index ∙ ap (option_map packed_block) here.2)))
    | inr past ↦ past.0
  ]
    where
      clash : (block : List Record) → None ≡ Some (packed_block block) → ⊥
      clash block e = cc

  pub read_up_to-missing : (index : ℕ) (before : List Record) → IsReadUpTo blocks size index before
      → None ≡ blocks index
      → (records : List Record) → HoldsRecords blocks size records → before ≡ records
  read_up_to-missing index before was none records h =
      sym (append-nil before)
      ∙ (ap (λ (xs : List Record). before ++ xs)
      (sym (nothing_left h.packed index (missing records h index none)))
      ∙ was records h)

  pub read_up_to-all : (index : ℕ) (before : List Record) → IsReadUpTo blocks size index before
      → size / 1024 ≤ index
      → (records : List Record) → HoldsRecords blocks size records → before ≡ records
  read_up_to-all index before was end records h =
      let sized = h.sized in
      sym (append-nil before)
      ∙ (ap (λ (xs : List Record). before ++ xs) (sym (nothing_left h.packed index (omega arith)))
      ∙ was records h)

  pub counted_up_to-missing : (index before : ℕ) → IsCountedUpTo blocks size index before
      → None ≡ blocks index
      → (records : List Record) → HoldsRecords blocks size records → length records < 2 ^ 64
      → before ≡ length records
  counted_up_to-missing index before was none records h small =
      let left = ap (length {A = Record}) (nothing_left h.packed index (missing records h index none)) in
      let total = was records h small in
      omega arith

  pub counted_up_to-all : (index before : ℕ) → IsCountedUpTo blocks size index before → size / 1024 ≤ index
      → (records : List Record) → HoldsRecords blocks size records → length records < 2 ^ 64
      → before ≡ length records
  counted_up_to-all index before was end records h small =
      let sized = h.sized in
      let left = ap (length {A = Record}) (nothing_left h.packed index (omega arith)) in
      let total = was records h small in
      omega arith
