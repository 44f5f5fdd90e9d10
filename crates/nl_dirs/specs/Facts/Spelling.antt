-- The spelling of a record, and the records that bytes begin with.
use Rattle.std.proofs.Common.{◌≡◌, ◌≢◌, ℕ, zero, suc, ◌-◌, ◌^◌, ◌<◌, List, [], ◌∷◌, ◌++◌, length, get_or, slice_index, refl, ap, sym, ◌∙◌, arith, append_assoc}
use Rattle.std.proofs.Math.ListN.{replicate}
use Rattle.std.specs.List.{flat_map}
use Rattle.std.proofs.lemmas.List.Elements.{All-head, All-tail}
use Rattle.byteorder.specs.Endian.{little_bytes, little_number}
use Rattle.byteorder.specs.Numbers.{little_number-reads_back}
use Rattle.nl_types.specs.declared.kind.Kind.{Kind}
use Rattle.nl_types.specs.declared.kind.Kind.TheVariants.{File, Directory}
use Rattle.nl_dirs.specs.declared.record.Record.{Record}
use Rattle.nl_dirs.specs.Records.{AllHaveSpelling, BeginsNone, HoldsList, RecordHasSpelling, kind_code, packed_block, record_bytes, sizes}
use Rattle.nl_dirs.specs.Laws.{BlocksHoldTheirRecords, BytesHoldOneList}

-- ---- one record

pub kind_code-injective : (k l : Kind) → kind_code k ≡ kind_code l → k ≡ l
kind_code-injective File File e = refl
kind_code-injective File Directory e = absurd (omega arith)
kind_code-injective Directory File e = absurd (omega arith)
kind_code-injective Directory Directory e = refl

pub little_bytes-injective : (n x y : ℕ) → x < 256 ^ n → y < 256 ^ n → little_bytes n x ≡ little_bytes n y
    → x ≡ y
little_bytes-injective n x y small low e =
    sym (little_number-reads_back n x [] small)
    ∙ (ap (λ (xs : List ℕ). little_number n (xs ++ [])) e ∙ little_number-reads_back n y [] low)

-- lists that begin the same bytes are the same where they are ms long
pub same_front : (ms ns xs ys : List ℕ) → length ms ≡ length ns → ms ++ xs ≡ ns ++ ys → (ms ≡ ns) × (xs ≡ ys)
same_front [] [] xs ys e h = (refl, h)
same_front [] (b ∷ ns) xs ys e h = absurd (omega arith)
same_front (a ∷ ms) [] xs ys e h = absurd (omega arith)
same_front (a ∷ ms) (b ∷ ns) xs ys e h =
    let more : (ms ≡ ns) × (xs ≡ ys) = same_front ms ns xs ys (omega arith) (cc) in
    (both (cc) more.0, more.1)
  where
    both : {u v : ℕ} {us vs : List ℕ} → u ≡ v → us ≡ vs → u ∷ us ≡ v ∷ vs
    both p q = cc

same_fields : (r s : Record) → r.name ≡ s.name → r.inode ≡ s.inode → r.kind ≡ s.kind → r ≡ s
same_fields r s p q k = λ i. record { name = p i; inode = q i; kind = k i }

-- the bytes begin with the spelling of one record, and one list is behind it
pub record_bytes-one : (r s : Record) (xs ys : List ℕ) → RecordHasSpelling r → RecordHasSpelling s
    → record_bytes r ++ xs ≡ record_bytes s ++ ys → (r ≡ s) × (xs ≡ ys)
record_bytes-one r s xs ys fits other e =
    let head : (little_bytes 4 r.inode ≡ little_bytes 4 s.inode)
    × (kind_code r.kind ∷ length r.name ∷ r.name ++ xs ≡ kind_code s.kind ∷ length s.name ∷ s.name ++ ys) =
    same_front (little_bytes 4 r.inode) (little_bytes 4 s.inode)
    (kind_code r.kind ∷ length r.name ∷ r.name ++ xs)
    (kind_code s.kind ∷ length s.name ∷ s.name ++ ys) refl e in
    let inode : r.inode ≡ s.inode =
    little_bytes-injective 4 r.inode s.inode (omega (arith, fits.inode))
    (omega (arith, other.inode)) head.0 in
    let code : kind_code r.kind ≡ kind_code s.kind = ap (λ (ns : List ℕ). get_or ns 0 0) head.1 in
    let long : length r.name ≡ length s.name = ap (λ (ns : List ℕ). get_or ns 1 0) head.1 in
    let names : (r.name ≡ s.name) × (xs ≡ ys) =
    same_front r.name s.name xs ys long
    (behind (kind_code r.kind) (length r.name) (kind_code s.kind) (length s.name) (r.name ++ xs)
    (s.name ++ ys) head.1) in
    (same_fields r s names.0 inode (kind_code-injective r.kind s.kind code), names.1)
  where
    behind : (a b c d : ℕ) (us vs : List ℕ) → a ∷ b ∷ us ≡ c ∷ d ∷ vs → us ≡ vs
    behind a b c d us vs h = cc

-- ---- lists of records

pub flat_map-record_bytes : (r : Record) (records : List Record) (rest : List ℕ)
    → flat_map record_bytes (r ∷ records) ++ rest ≡ record_bytes r ++ (flat_map record_bytes records ++ rest)
flat_map-record_bytes r records rest = append_assoc (record_bytes r) (flat_map record_bytes records) rest

-- bytes that begin with two lists of records begin with one, if no record begins what is behind
pub one_list : (xs ys : List Record) (ms ns : List ℕ) → AllHaveSpelling xs → AllHaveSpelling ys
    → BeginsNone ms → BeginsNone ns → flat_map record_bytes xs ++ ms ≡ flat_map record_bytes ys ++ ns
    → xs ≡ ys
one_list [] [] ms ns fit other none no_more e = refl
one_list [] (y ∷ ys) ms ns fit other none no_more e =
    absurd (none y (flat_map record_bytes ys ++ ns) (All-head RecordHasSpelling y ys other)
    (e ∙ flat_map-record_bytes y ys ns))
one_list (x ∷ xs) [] ms ns fit other none no_more e =
    absurd (no_more x (flat_map record_bytes xs ++ ms) (All-head RecordHasSpelling x xs fit)
    (sym e ∙ flat_map-record_bytes x xs ms))
one_list (x ∷ xs) (y ∷ ys) ms ns fit other none no_more e =
    let one : (x ≡ y) × (flat_map record_bytes xs ++ ms ≡ flat_map record_bytes ys ++ ns) =
    record_bytes-one x y (flat_map record_bytes xs ++ ms) (flat_map record_bytes ys ++ ns)
    (All-head RecordHasSpelling x xs fit) (All-head RecordHasSpelling y ys other)
    (sym (flat_map-record_bytes x xs ms) ∙ (e ∙ flat_map-record_bytes y ys ns)) in
    both one.0 (one_list xs ys ms ns (All-tail RecordHasSpelling x xs fit)
    (All-tail RecordHasSpelling y ys other) none no_more one.1)
  where
    both : {u v : Record} {us vs : List Record} → u ≡ v → us ≡ vs → u ∷ us ≡ v ∷ vs
    both p q = cc

pub bytes_hold_one_list : BytesHoldOneList
bytes_hold_one_list bytes xs ys h k =
    one_list xs ys h.rest k.rest h.fit k.fit h.no_more k.no_more (sym h.begins ∙ k.begins)

-- ---- zeros

slice_index-zeros : (n i : ℕ) → slice_index (replicate n 0) i ≡ 0
slice_index-zeros zero i = refl
slice_index-zeros (suc n) zero = refl
slice_index-zeros (suc n) (suc i) = slice_index-zeros n i

-- no record begins zeros
pub zeros-BeginsNone : (n : ℕ) → BeginsNone (replicate n 0)
zeros-BeginsNone n r behind fits e =
    no_code r.kind (sym (ap (λ (ns : List ℕ). get_or ns 4 0) e) ∙ slice_index-zeros n 4)
  where
    no_code : (k : Kind) → kind_code k ≢ 0
    no_code File h = absurd (omega arith)
    no_code Directory h = absurd (omega arith)

pub packed_block-HoldsList : (records : List Record) → AllHaveSpelling records
    → HoldsList (packed_block records) records
packed_block-HoldsList records fit = record {
  fit = fit;
  rest = replicate (1024 - sizes records) 0;
  begins = refl;
  no_more = zeros-BeginsNone (1024 - sizes records);
}

pub blocks_hold_their_records : BlocksHoldTheirRecords
blocks_hold_their_records records fit room = packed_block-HoldsList records fit
