-- The records of a directory, block by block.
use Rattle.std.proofs.Common.{◌≡◌, ℕ, zero, suc, ◌≤◌, List, [], ◌∷◌, ◌++◌, Some, refl, sym, ap, subst, arith, length-append}
use Rattle.std.specs.List.{All, slice_get}
use Rattle.std.proofs.lemmas.List.{append-nil, get_or_append_left}
use Rattle.std.proofs.lemmas.List.Elements.{All-cons, All-head, All-nil, All-tail}
use Rattle.nl_dirs.specs.declared.record.Record.{Record}
use Rattle.nl_dirs.specs.Records.{AllHaveSpelling, IsPageOf, NamesAscend, RecordHasSpelling, packed_block, sizes}
use Rattle.nl_dirs.specs.Packing.{IsPacked, no_blocks, last_block, full_block}
use Rattle.nl_dirs.specs.Facts.RecordOrder.{all-right, ascending-right}

-- ---- each block's records

all-left : (P : Record → Type 0) (xs ys : List Record) → All P (xs ++ ys) → All P xs
all-left P [] ys h = All-nil P
all-left P (x ∷ xs) ys h =
    All-cons P x xs (All-head P x (xs ++ ys) h) (all-left P xs ys (All-tail P x (xs ++ ys) h))

ascending-left : (xs ys : List Record) → NamesAscend (xs ++ ys) → NamesAscend xs
ascending-left xs ys h i j d lt within =
    let first = get_or_append_left xs ys d i (omega arith) in
    let second = get_or_append_left xs ys d j within in
    rw (sym first, sym second) (h i j d lt (omega (arith, length-append xs ys)))

page_of : (r : Record) (records : List Record) → AllHaveSpelling (r ∷ records) → NamesAscend (r ∷ records)
    → sizes (r ∷ records) ≤ 1024 → IsPageOf (packed_block (r ∷ records)) (r ∷ records)
page_of r records fit ascending room =
    record { fit = fit; some = λ e. cc; ascending = ascending; room = room; spelling = refl }

-- each block is a page of a directory
pub pages_of_packed : (xs : List Record) (p : List (List Record)) → IsPacked xs p → AllHaveSpelling xs
    → NamesAscend xs
    → (i : ℕ) (block : List Record) → slice_get p i ≡ Some block → IsPageOf (packed_block block) block
pages_of_packed _ _ no_blocks fit ascending i block at = absurd cc
pages_of_packed _ _ (last_block r rs room) fit ascending zero block at =
    let same : (r ∷ rs) ≡ block = cc in
    subst (λ (b : List Record). IsPageOf (packed_block b) b) same (page_of r rs fit ascending room)
pages_of_packed _ _ (last_block r rs room) fit ascending (suc i) block at = absurd cc
pages_of_packed _ _ (full_block r rs n rest blocks room full more) fit ascending zero block at =
    let same : (r ∷ rs) ≡ block = cc in
    subst (λ (b : List Record). IsPageOf (packed_block b) b) same
    (page_of r rs (all-left RecordHasSpelling (r ∷ rs) (n ∷ rest) fit)
    (ascending-left (r ∷ rs) (n ∷ rest) ascending) room)
pages_of_packed _ _ (full_block r rs n rest blocks room full more) fit ascending (suc i) block at =
    pages_of_packed (n ∷ rest) blocks more (all-right RecordHasSpelling (r ∷ rs) (n ∷ rest) fit)
    (ascending-right (r ∷ rs) (n ∷ rest) ascending) i block at

-- ---- all of them

-- the records of these blocks, one after another
abbrev pub all_of : List (List Record) → List Record
all_of [] = []
all_of (block ∷ packed) = block ++ all_of packed

pub all_of-packed : (records : List Record) (packed : List (List Record)) → IsPacked records packed
    → all_of packed ≡ records
all_of-packed _ _ no_blocks = refl
all_of-packed _ _ (last_block r rs room) = append-nil (r ∷ rs)
all_of-packed _ _ (full_block r rs n rest blocks room full more) =
    ap (λ (xs : List Record). (r ∷ rs) ++ xs) (all_of-packed (n ∷ rest) blocks more)
