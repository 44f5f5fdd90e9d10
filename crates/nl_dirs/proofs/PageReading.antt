-- Reading a page record by record: which list is read, and which pages are none of a directory.
use Rattle.std.proofs.Common.{◌≡◌, ◌≢◌, ℕ, ◌+◌, ◌-◌, ◌<◌, List, [], ◌∷◌, ◌++◌, length, get_or, refl, ap, sym, subst, ◌∙◌, arith, append_assoc, length-append}
use Rattle.std.proofs.Math.ListN.{replicate}
use Rattle.std.proofs.Math.Seq.{get_or-append_seam}
use Rattle.std.specs.List.{flat_map}
use Rattle.std.specs.declared.cmp.Ordering.TheVariants.{Less}
use Rattle.std.proofs.lemmas.List.{append-nil, append_cancel_left, get_or_append_left, length-replicate}
use Rattle.std.proofs.lemmas.List.Concat.{flat_map-append}
use Rattle.std.proofs.lemmas.List.Elements.{All-append, All-nil, All-push}
use Rattle.std.proofs.lemmas.List.Quantifiers.{all_pairs_push}
use Rattle.nl_types.specs.Plain.Paths.{name_cmp}
use Rattle.nl_dirs.specs.declared.record.Record.{Record}
use Rattle.nl_dirs.specs.Records.{AllHaveSpelling, NamesAscend, AreBytes, Begins, BeginsNone, HoldsList, IsPageOf, RecordHasSpelling, packed_block, record_bytes, size_of, sizes}
use Rattle.nl_dirs.specs.Facts.Spelling.{bytes_hold_one_list, packed_block-HoldsList}
use Rattle.nl_dirs.proofs.Holding.{HoldsList-more, small_behind, some_list}
use Rattle.nl_dirs.proofs.Ascending.{IsBehind}

-- ---- records behind others

pub flat_map-record_bytes-append : (xs ys : List Record) (rest : List ℕ)
    → flat_map record_bytes (xs ++ ys) ++ rest
    ≡ flat_map record_bytes xs ++ (flat_map record_bytes ys ++ rest)
flat_map-record_bytes-append xs ys rest =
    ap (λ (bytes : List ℕ). bytes ++ rest) (flat_map-append record_bytes xs ys)
    ∙ append_assoc (flat_map record_bytes xs) (flat_map record_bytes ys) rest

-- records take the bytes of their sizes
pub length-flat_map-record_bytes : (records : List Record)
    → length (flat_map record_bytes records) ≡ sizes records
length-flat_map-record_bytes [] = refl
length-flat_map-record_bytes (r ∷ records) =
    let more : length (flat_map record_bytes records) ≡ sizes records =
    length-flat_map-record_bytes records in
    let size : length (record_bytes r) ≡ size_of r = omega arith in
    omega (arith, more, size, length-append (record_bytes r) (flat_map record_bytes records))

-- records that ascend with others behind them come before those
NamesAscend-behind : (records : List Record) (r : Record) (others : List Record)
    → NamesAscend (records ++ r ∷ others) → IsBehind r.name records
NamesAscend-behind records r others ascending k d within =
    let longer : length records < length (records ++ r ∷ others) =
    omega (arith, length-append records (r ∷ others)) in
    let step : name_cmp (get_or (records ++ r ∷ others) k d).name
    (get_or (records ++ r ∷ others) (length records) d).name
    ≡ Less =
    ascending k (length records) d within longer in
    ap (λ (s : Record). name_cmp s.name r.name) (sym (get_or_append_left records (r ∷ others) d k within))
    ∙ (ap (λ (s : Record). name_cmp (get_or (records ++ r ∷ others) k d).name s.name)
    (sym (get_or-append_seam records r others d))
    ∙ step)

-- ---- what has been read

-- the records that the page begins with, and the rest of its bytes
pub record IsReadSoFar (page : List ℕ) (records : List Record) (rest : List ℕ) : Type 0 where
  pub small : AreBytes rest
  pub fit : AllHaveSpelling records
  pub ascending : NamesAscend records
  pub begins : page ≡ flat_map record_bytes records ++ rest

pub read_none : (page rest : List ℕ) → AreBytes rest → rest ≡ page → IsReadSoFar page [] rest
read_none page rest small e = record {
  small = small;
  fit = All-nil RecordHasSpelling;
  ascending = λ i j d less within. absurd (omega arith);
  begins = sym e;
}

pub read_more : (page : List ℕ) (records : List Record) (rest behind : List ℕ) (r : Record)
    → IsReadSoFar page records rest → Begins rest r behind → IsBehind r.name records
    → IsReadSoFar page (records ++ r ∷ []) behind
read_more page records rest behind r read begins later = record {
  small = small_behind rest behind r begins read.small;
  fit = All-push RecordHasSpelling records r read.fit begins.fits;
  ascending =
      all_pairs_push (λ a b. name_cmp a.name b.name ≡ Less) records r read.ascending
      (λ k d within. later k d within);
  begins =
      read.begins
      ∙ (ap (λ (bytes : List ℕ). flat_map record_bytes records ++ bytes) spelled
      ∙ sym (flat_map-record_bytes-append records (r ∷ []) behind));
}
  where
    spelled : rest ≡ flat_map record_bytes (r ∷ []) ++ behind
    spelled = begins.spelling ∙ ap (λ (bytes : List ℕ). bytes ++ behind) (sym (append-nil (record_bytes r)))

-- the page holds what has been read and what the rest holds
read-HoldsList : (page : List ℕ) (records more : List Record) (rest : List ℕ) → IsReadSoFar page records rest
    → HoldsList rest more → HoldsList page (records ++ more)
read-HoldsList page records more rest read holds = record {
  fit = All-append RecordHasSpelling records more read.fit holds.fit;
  rest = holds.rest;
  begins =
      read.begins
      ∙ (ap (λ (bytes : List ℕ). flat_map record_bytes records ++ bytes) holds.begins
      ∙ sym (flat_map-record_bytes-append records more holds.rest));
  no_more = holds.no_more;
}

IsPageOf-HoldsList : (page : List ℕ) (list : List Record) → IsPageOf page list → HoldsList page list
IsPageOf-HoldsList page list is =
    subst (λ (bytes : List ℕ). HoldsList bytes list) (sym is.spelling) (packed_block-HoldsList list is.fit)

-- ---- a page of a directory

pub all_read-IsPageOf : (page : List ℕ) (records : List Record) (rest : List ℕ) → length page ≡ 1024
    → IsReadSoFar page records rest → records ≢ [] → rest ≡ replicate (length rest) 0 → IsPageOf page records
all_read-IsPageOf page records rest count read some zeros = record {
  fit = read.fit;
  some = some;
  ascending = read.ascending;
  room = omega (arith, whole);
  spelling = spelling;
}
  where
    whole : sizes records + length rest ≡ 1024
    whole =
        omega (
          arith,
          ap length read.begins,
          count,
          length-flat_map-record_bytes records,
          length-append (flat_map record_bytes records) rest,
        )

    left : length rest ≡ 1024 - sizes records
    left = omega (arith, whole)

    spelling : page ≡ packed_block records
    spelling =
        read.begins
        ∙ ap (λ (bytes : List ℕ). flat_map record_bytes records ++ bytes)
        (zeros ∙ ap (λ (n : ℕ). replicate n 0) left)

-- once no record begins the rest, what was read is the page's list
pub all_read : (page : List ℕ) (records : List Record) (rest : List ℕ) (list : List Record)
    → IsReadSoFar page records rest → BeginsNone rest → IsPageOf page list → records ≡ list
all_read page records rest list read none is =
    bytes_hold_one_list page records list
    (record { fit = read.fit; rest = rest; begins = read.begins; no_more = none })
    (IsPageOf-HoldsList page list is)

-- and the rest is zeros
pub all_read-zeros : (page : List ℕ) (records : List Record) (rest : List ℕ) (list : List Record)
    → IsReadSoFar page records rest → BeginsNone rest → IsPageOf page list → rest ≡ replicate (length rest) 0
all_read-zeros page records rest list read none is =
    let zeros : rest ≡ replicate (1024 - sizes list) 0 =
    behind (all_read page records rest list read none is) in
    zeros ∙ ap (λ (n : ℕ). replicate n 0) (sym (ap length zeros ∙ length-replicate (1024 - sizes list) 0))
  where
    behind : records ≡ list → rest ≡ replicate (1024 - sizes list) 0
    behind e = append_cancel_left (flat_map record_bytes records) rest (replicate (1024 - sizes list) 0)
        (sym read.begins
        ∙ (is.spelling
        ∙ ap (λ (own : List Record). flat_map record_bytes own ++ replicate (1024 - sizes list) 0) (sym e)))

-- no record of such a page comes before an earlier one
pub later_is_behind : (page : List ℕ) (records : List Record) (rest behind : List ℕ) (r : Record)
    (list : List Record)
    → IsReadSoFar page records rest → Begins rest r behind → IsPageOf page list → IsBehind r.name records
later_is_behind page records rest behind r list read begins is =
    let others : (more : List Record) × HoldsList behind more =
    some_list (length behind) behind (omega arith) (small_behind rest behind r begins read.small) in
    let whole : HoldsList page (records ++ r ∷ others.0) =
    read-HoldsList page records (r ∷ others.0) rest read
    (HoldsList-more rest behind r others.0 begins others.1) in
    let same : records ++ r ∷ others.0 ≡ list =
    bytes_hold_one_list page (records ++ r ∷ others.0) list whole (IsPageOf-HoldsList page list is) in
    NamesAscend-behind records r others.0 (subst NamesAscend (sym same) is.ascending)
