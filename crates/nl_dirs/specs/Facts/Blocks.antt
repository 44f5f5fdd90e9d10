-- Records block by block.
use Rattle.std.proofs.Common.{◌≡◌, ◌≢◌, ℕ, zero, suc, ◌+◌, ◌-◌, ◌≤◌, ◌<◌, List, [], ◌∷◌, ◌++◌, Some, None, refl, sym, ap, ◌∙◌, subst, arith, add-one}
use Rattle.std.specs.Prelude.{map, Option}
use Rattle.std.specs.Option.{option_map}
use Rattle.std.specs.List.{All, flat_map, slice_get}
use Rattle.std.specs.declared.cmp.Ordering.TheVariants.{Less}
use Rattle.std.proofs.lemmas.List.{append-nil}
use Rattle.std.proofs.lemmas.List.Elements.{All-head, All-tail, All-weaker, All-cons, All-nil}
use Rattle.nl_types.specs.Plain.Paths.{Name, name_cmp}
use Rattle.nl_dirs.specs.declared.record.Record.{Record}
use Rattle.nl_dirs.specs.Records.{AllHaveSpelling, NamesAscend, HoldsList, RecordHasSpelling, entry_of, packed_block, size_of, sizes}
use Rattle.nl_dirs.specs.Packing.{IsPacked, no_blocks, last_block, full_block}
use Rattle.nl_dirs.specs.Listings.{first_name_of}
use Rattle.nl_dirs.specs.Laws.{BlocksHoldTheirRecords, BytesHoldOneList, DirectoriesHoldOneList, EarlierNamesAreAbsent, IsBefore, IsNotBefore, NamesStandInOneBlock, PackingsAreOne}
use Rattle.nl_dirs.specs.Facts.Filling.{sizes-append}
use Rattle.nl_dirs.specs.Facts.RecordOrder.{all-right, ascending-across, ascending-right, before_first, before_not_before, entry_of-before, entry_of-behind, entry_of-front, same_records}

-- ---- one packing of a list

-- a list's longest part that fits
same_front : (xs ys : List Record) (n m : Record) (cs ds : List Record) (room : ℕ)
    → xs ++ n ∷ cs ≡ ys ++ m ∷ ds → sizes xs ≤ room → room < sizes xs + size_of n
    → sizes ys ≤ room → room < sizes ys + size_of m → (xs ≡ ys) × (n ∷ cs ≡ m ∷ ds)
same_front [] [] n m cs ds room e fits full fits' full' = (refl, e)
same_front [] (y ∷ ys) n m cs ds room e fits full fits' full' =
    let first : n ≡ y = cc in let same : size_of n ≡ size_of y = ap size_of first in absurd (omega arith)
same_front (x ∷ xs) [] n m cs ds room e fits full fits' full' =
    let first : x ≡ m = cc in let same : size_of x ≡ size_of m = ap size_of first in absurd (omega arith)
same_front (x ∷ xs) (y ∷ ys) n m cs ds room e fits full fits' full' =
    let first : x ≡ y = cc in
    let same : size_of x ≡ size_of y = ap size_of first in
    let more : xs ++ n ∷ cs ≡ ys ++ m ∷ ds = cc in
    let rest : (xs ≡ ys) × (n ∷ cs ≡ m ∷ ds) =
    same_front xs ys n m cs ds (room - size_of x) more (omega arith) (omega arith) (omega arith)
    (omega arith) in
    let tails : xs ≡ ys = rest.0 in
    (cc, rest.1)

one_packing : (xs ys : List Record) (p q : List (List Record)) → IsPacked xs p → IsPacked ys q → xs ≡ ys
    → p ≡ q
one_packing _ _ _ _ no_blocks no_blocks e = refl
one_packing _ _ _ _ no_blocks (last_block r rs fits) e = cc
one_packing _ _ _ _ no_blocks (full_block r rs n rest blocks fits full more) e = cc
one_packing _ _ _ _ (last_block r rs fits) no_blocks e = cc
one_packing _ _ _ _ (last_block r rs fits) (last_block s ss fits') e = ap (λ (b : List Record). b ∷ []) e
one_packing _ _ _ _ (last_block r rs fits) (full_block s ss n rest blocks fits' full' more') e =
    absurd (let a : sizes (r ∷ rs) ≡ sizes ((s ∷ ss) ++ n ∷ rest) = ap sizes e in
    omega (arith, sizes-append (s ∷ ss) (n ∷ rest)))
one_packing _ _ _ _ (full_block r rs n rest blocks fits full more) no_blocks e = cc
one_packing _ _ _ _ (full_block r rs n rest blocks fits full more) (last_block s ss fits') e =
    absurd (let a : sizes ((r ∷ rs) ++ n ∷ rest) ≡ sizes (s ∷ ss) = ap sizes e in
    omega (arith, sizes-append (r ∷ rs) (n ∷ rest)))
one_packing _ _ _ _ (full_block r rs n rest blocks fits full more)
    (full_block s ss m others after fits' full' more') e =
    let same : ((r ∷ rs) ≡ (s ∷ ss)) × (n ∷ rest ≡ m ∷ others) =
    same_front (r ∷ rs) (s ∷ ss) n m rest others 1024 e fits full fits' full' in
    let front : (r ∷ rs) ≡ (s ∷ ss) = same.0 in
    let behind : blocks ≡ after = one_packing (n ∷ rest) (m ∷ others) blocks after more more' same.1 in
    cc

pub packings-one : PackingsAreOne
packings-one xs ys blocks others a b h p q =
    let same : xs ≡ ys = same_records xs ys a b h in
    p.pages
    ∙ (ap (map packed_block) (one_packing xs ys p.packed q.packed p.is_packed q.is_packed same) ∙ sym q.pages)

-- ---- one list of a directory

abbrev all_of : List (List Record) → List Record
all_of blocks = flat_map (λ (b : List Record). b) blocks

all_of-packed : (xs : List Record) (p : List (List Record)) → IsPacked xs p → xs ≡ all_of p
all_of-packed _ _ no_blocks = refl
all_of-packed _ _ (last_block r rs fits) = sym (append-nil (r ∷ rs))
all_of-packed _ _ (full_block r rs n rest blocks fits full more) =
    ap (λ (xs : List Record). (r ∷ rs) ++ xs) (all_of-packed (n ∷ rest) blocks more)

-- what has a spelling as a block
abbrev IsSoundPacking : List Record → Type 0
IsSoundPacking block = AllHaveSpelling block × (sizes block ≤ 1024)

all-left : (P : Record → Type 0) (xs ys : List Record) → All P (xs ++ ys) → All P xs
all-left P [] ys h = All-nil P
all-left P (x ∷ xs) ys h =
    All-cons P x xs (All-head P x (xs ++ ys) h) (all-left P xs ys (All-tail P x (xs ++ ys) h))

-- the records of each block fit, and fit into the block
blocks-sound : (xs : List Record) (p : List (List Record)) → IsPacked xs p → AllHaveSpelling xs
    → All IsSoundPacking p
blocks-sound _ _ no_blocks fit = All-nil IsSoundPacking
blocks-sound _ _ (last_block r rs fits) fit =
    All-cons IsSoundPacking (r ∷ rs) [] (fit, fits) (All-nil IsSoundPacking)
blocks-sound _ _ (full_block r rs n rest blocks fits full more) fit =
    All-cons IsSoundPacking (r ∷ rs) blocks (all-left RecordHasSpelling (r ∷ rs) (n ∷ rest) fit, fits)
    (blocks-sound (n ∷ rest) blocks more (all-right RecordHasSpelling (r ∷ rs) (n ∷ rest) fit))

-- blocks with the same bytes have the same records
same_pages : BytesHoldOneList → BlocksHoldTheirRecords → (p q : List (List Record)) → All IsSoundPacking p
    → All IsSoundPacking q
    → ((i : ℕ) → option_map packed_block (slice_get p i) ≡ option_map packed_block (slice_get q i)) → p ≡ q
same_pages one own [] [] sound sound' same = refl
same_pages one own [] (b ∷ q) sound sound' same =
    let e : ◌≡◌ {A = Option (List ℕ)} None (Some (packed_block b)) = same 0 in cc
same_pages one own (a ∷ p) [] sound sound' same =
    let e : ◌≡◌ {A = Option (List ℕ)} (Some (packed_block a)) None = same 0 in cc
same_pages one own (a ∷ p) (b ∷ q) sound sound' same =
    let e : ◌≡◌ {A = Option (List ℕ)} (Some (packed_block a)) (Some (packed_block b)) = same 0 in
    let bytes : packed_block a ≡ packed_block b = cc in
    let mine : AllHaveSpelling a × (sizes a ≤ 1024) = All-head IsSoundPacking a p sound in
    let other : AllHaveSpelling b × (sizes b ≤ 1024) = All-head IsSoundPacking b q sound' in
    let first : a ≡ b =
    one (packed_block a) a b (own a mine.0 mine.1)
    (subst (λ (page : List ℕ). HoldsList page b) (sym bytes) (own b other.0 other.1)) in
    let rest : p ≡ q =
    same_pages one own p q (All-tail IsSoundPacking a p sound) (All-tail IsSoundPacking b q sound')
    (λ i. same (suc i)) in
    cc

pub directories-one : BytesHoldOneList → BlocksHoldTheirRecords → DirectoriesHoldOneList
directories-one one own blocks size other xs ys h k =
    let packed : h.packed ≡ k.packed =
    same_pages one own h.packed k.packed (blocks-sound xs h.packed h.is_packed h.fit)
    (blocks-sound ys k.packed k.is_packed k.fit)
    (λ i. sym (h.stored i) ∙ k.stored i) in
    all_of-packed xs h.packed h.is_packed ∙ (ap all_of packed ∙ sym (all_of-packed ys k.packed k.is_packed))

-- ---- where a name stands

-- the first block begins with the first record
first_block : (xs : List Record) (p : List (List Record)) (n : Record) (rest : List Record) → IsPacked xs p
    → xs ≡ n ∷ rest → (more : List Record) × (slice_get p 0 ≡ Some (n ∷ more))
first_block _ _ n rest no_blocks e = absurd cc
first_block _ _ n rest (last_block r rs fits) e = let first : r ≡ n = cc in (rs, cc)
first_block _ _ n rest (full_block r rs m others blocks fits full more) e = let first : r ≡ n = cc in (rs, cc)

-- a block has a first record, which is one of the directory's
block_first : (P : Record → Type 0) (xs : List Record) (p : List (List Record)) (i : ℕ) (block : List Record)
    → IsPacked xs p → All P xs → slice_get p i ≡ Some block
    → (f : Record) × ((first_name_of block ≡ Some f.name) × P f)
block_first P _ _ i block no_blocks all at = absurd cc
block_first P _ _ zero block (last_block r rs fits) all at =
    let same : (r ∷ rs) ≡ block = cc in (r, (ap first_name_of (sym same), All-head P r rs all))
block_first P _ _ (suc i) block (last_block r rs fits) all at = absurd cc
block_first P _ _ zero block (full_block r rs n rest blocks fits full more) all at =
    let same : (r ∷ rs) ≡ block = cc in (r, (ap first_name_of (sym same), All-head P r (rs ++ n ∷ rest) all))
block_first P _ _ (suc i) block (full_block r rs n rest blocks fits full more) all at =
    block_first P (n ∷ rest) blocks i block more (all-right P (r ∷ rs) (n ∷ rest) all) at

-- a name that isn't before a block's first isn't before the directory's first
not_before_first : (name : Name) (n : Record) (rest : List Record) (p : List (List Record)) (i : ℕ)
    (block : List Record)
    → NamesAscend (n ∷ rest) → IsPacked (n ∷ rest) p
    → slice_get p i ≡ Some block → IsNotBefore name block → name_cmp name n.name ≢ Less
not_before_first name n rest p i block ascending packed at not less =
    let first : (f : Record) × ((first_name_of block ≡ Some f.name) × (name_cmp name f.name ≡ Less)) =
    block_first (λ (r : Record). name_cmp name r.name ≡ Less) (n ∷ rest) p i block packed
    (before_first name n rest ascending less) at in
    not first.0.name first.1.0 first.1.1

-- a name before the first one is none of the records'
absent : (name : Name) (n : Record) (rest : List Record) (p : List (List Record)) → NamesAscend (n ∷ rest)
    → IsPacked (n ∷ rest) p → IsBefore name (slice_get p 0)
    → entry_of name (n ∷ rest) ≡ None
absent name n rest p ascending packed before =
    let first : (more : List Record) × (slice_get p 0 ≡ Some (n ∷ more)) =
    first_block (n ∷ rest) p n rest packed refl in
    entry_of-before name (n ∷ rest)
    (before_first name n rest ascending (before (n ∷ first.0) n.name first.1 refl))

in_one_block : (records : List Record) (packed : List (List Record)) (name : Name) (i : ℕ)
    (block : List Record)
    → NamesAscend records → IsPacked records packed
    → slice_get packed i ≡ Some block → IsNotBefore name block → IsBefore name (slice_get packed (suc i))
    → entry_of name records ≡ entry_of name block
in_one_block _ _ name i block ascending no_blocks at not before = absurd cc
in_one_block _ _ name zero block ascending (last_block r rs fits) at not before =
    let same : (r ∷ rs) ≡ block = cc in ap (entry_of name) same
in_one_block _ _ name (suc i) block ascending (last_block r rs fits) at not before = absurd cc
in_one_block _ _ name zero block ascending (full_block r rs n rest blocks fits full more) at not before =
    let same : (r ∷ rs) ≡ block = cc in
    entry_of-front name (r ∷ rs) (n ∷ rest)
    (absent name n rest blocks (ascending-right (r ∷ rs) (n ∷ rest) ascending) more before)
    ∙ ap (entry_of name) same
in_one_block _ _ name (suc i) block ascending (full_block r rs n rest blocks fits full more) at not before =
    let behind : NamesAscend (n ∷ rest) = ascending-right (r ∷ rs) (n ∷ rest) ascending in
    let late : name_cmp name n.name ≢ Less = not_before_first name n rest blocks i block behind more at not in
    entry_of-behind name (r ∷ rs) (n ∷ rest)
    (All-weaker (λ (x : Record). name_cmp x.name n.name ≡ Less) (λ (x : Record). name_cmp x.name name ≡ Less)
    (λ x h. before_not_before x.name n.name name h late) (r ∷ rs)
    (ascending-across (r ∷ rs) n rest ascending))
    ∙ in_one_block (n ∷ rest) blocks name i block behind more at not before

pub names-one_block : NamesStandInOneBlock
names-one_block records packed name i block ascending is_packed at not before =
    in_one_block records packed name i block ascending is_packed at
    not (subst (λ (k : ℕ). IsBefore name (slice_get packed k)) (add-one i) before)

pub earlier-absent : EarlierNamesAreAbsent
earlier-absent _ _ name ascending no_blocks before = refl
earlier-absent _ _ name ascending (last_block r rs fits) before =
    absent name r rs ((r ∷ rs) ∷ []) ascending (last_block r rs fits) before
earlier-absent _ _ name ascending (full_block r rs n rest blocks fits full more) before =
    absent name r (rs ++ n ∷ rest) ((r ∷ rs) ∷ blocks) ascending
    (full_block r rs n rest blocks fits full more) before
