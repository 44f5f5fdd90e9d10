-- The records that any bytes hold.
use Rattle.std.proofs.Common.{◌≡◌, ◌≢◌, ℕ, zero, suc, ◌+◌, ◌^◌, ◌<◌, ◌≤◌, ◌⊎◌, inl, inr, List, [], ◌∷◌, ◌++◌, length, take, drop, slice_index, refl, ap, subst, sym, ◌∙◌, arith, length-append, take-append-drop}
use Rattle.std.proofs.lemmas.List.{get_or-append_right, length-take-le}
use Rattle.std.specs.Prelude.{true, false, Some, None}
use Rattle.std.proofs.lemmas.Bool.{cases_eq, cases_lt, cond-true, cond-false}
use Rattle.std.proofs.lemmas.List.Elements.{All-nil, All-cons}
use Rattle.std.proofs.lemmas.Grind.{common_steps}
use Rattle.byteorder.specs.Endian.{little_bytes, little_number}
use Rattle.nl_types.specs.Plain.Paths.{Name, same_name}
use Rattle.nl_types.specs.declared.kind.Kind.{Kind}
use Rattle.nl_types.specs.declared.kind.Kind.TheVariants.{File, Directory}
use Rattle.nl_dirs.specs.declared.record.Record.{Record}
use Rattle.nl_dirs.specs.Records.{AreBytes, Begins, BeginsNone, HoldsList, entry_of, RecordHasSpelling, kind_code, record_bytes, size_of}
use Rattle.nl_dirs.specs.Listings.{first_name_of}
use Rattle.nl_dirs.specs.Facts.Spelling.{flat_map-record_bytes}

-- ---- one record after the other

pub HoldsList-none : (bytes : List ℕ) → BeginsNone bytes → HoldsList bytes []
HoldsList-none bytes none =
    record { fit = All-nil RecordHasSpelling; rest = bytes; begins = refl; no_more = none }

pub HoldsList-more : (bytes behind : List ℕ) (r : Record) (records : List Record) → Begins bytes r behind
    → HoldsList behind records → HoldsList bytes (r ∷ records)
HoldsList-more bytes behind r records begins holds = record {
  fit = All-cons RecordHasSpelling r records begins.fits holds.fit;
  rest = holds.rest;
  begins =
      begins.spelling
      ∙ (ap (λ (xs : List ℕ). record_bytes r ++ xs) holds.begins
      ∙ sym (flat_map-record_bytes r records holds.rest));
  no_more = holds.no_more;
}

-- ---- whether a record begins the bytes

-- a record begins them, or none does
abbrev pub IsSplit : List ℕ → Type 0
IsSplit bytes = BeginsNone bytes ⊎ ((r : Record) × (behind : List ℕ) × Begins bytes r behind)

short-BeginsNone : (bytes : List ℕ) → length bytes < 6 → BeginsNone bytes
short-BeginsNone bytes short r behind fits e = omega (arith, ap length e)

of_kind : (k : ℕ) → ((kind : Kind) × (k ≡ kind_code kind)) ⊎ ((kind : Kind) → k ≢ kind_code kind)
of_kind k = cases_of (cases_eq k 1) (cases_eq k 2)
  where
    cases_of : ((k ≡ 1) ⊎ (k ≢ 1)) → ((k ≡ 2) ⊎ (k ≢ 2))
        → ((kind : Kind) × (k ≡ kind_code kind)) ⊎ ((kind : Kind) → k ≢ kind_code kind)
    cases_of (inl e) q = inl (File, e)
    cases_of (inr n) (inl e) = inl (Directory, e)
    cases_of (inr n) (inr m) = inr other
      where
        other : (kind : Kind) → k ≢ kind_code kind
        other File = n
        other Directory = m

-- four bytes spell the number that they are read as
four : (a b c d : ℕ) → a < 256 → b < 256 → c < 256 → d < 256
    → little_bytes 4 (little_number 4 (a ∷ b ∷ c ∷ d ∷ [])) ≡ a ∷ b ∷ c ∷ d ∷ []
four a b c d p q r s = grind (arith, common_steps)

four-lt : (a b c d : ℕ) → a < 256 → b < 256 → c < 256 → d < 256
    → little_number 4 (a ∷ b ∷ c ∷ d ∷ []) < 2 ^ 32
four-lt a b c d p q r s = omega arith

-- the head of six bytes and its name
spelled : (a b c d l : ℕ) (kind : Kind) (rest : List ℕ) → a < 256 → b < 256 → c < 256 → d < 256 → l < 256
    → 0 < l → l ≤ length rest
    → (r : Record) × (behind : List ℕ) × Begins (a ∷ b ∷ c ∷ d ∷ kind_code kind ∷ l ∷ rest) r behind
spelled a b c d l kind rest p q r s small some long =
    let inode : ℕ = little_number 4 (a ∷ b ∷ c ∷ d ∷ []) in
    let len : length (take l rest) ≡ l = length-take-le l rest long in (
      record { name = take l rest; inode = inode; kind = kind },
      drop l rest,
      record {
        fits =
            record { some = omega (arith, len); most = omega (arith, len); inode = four-lt a b c d p q r s };
        spelling = join (kind_code kind) (four a b c d p q r s) len (take-append-drop l rest);
      },
    )
  where
    join : {us vs names ms : List ℕ} {m n : ℕ} (k : ℕ) → us ≡ vs → n ≡ m → names ≡ ms
        → vs ++ k ∷ m ∷ ms ≡ us ++ k ∷ n ∷ names
    join k e f g = cc

no_kind : (a b c d k l : ℕ) (rest : List ℕ) → ((kind : Kind) → k ≢ kind_code kind)
    → BeginsNone (a ∷ b ∷ c ∷ d ∷ k ∷ l ∷ rest)
no_kind a b c d k l rest other r behind fits e = other r.kind (ap (λ (xs : List ℕ). slice_index xs 4) e)

no_name : (a b c d k : ℕ) (rest : List ℕ) → BeginsNone (a ∷ b ∷ c ∷ d ∷ k ∷ 0 ∷ rest)
no_name a b c d k rest r behind fits e =
    let l : 0 ≡ length r.name = ap (λ (xs : List ℕ). slice_index xs 5) e in omega (arith, l, fits.some)

no_room : (a b c d k l : ℕ) (rest : List ℕ) → length rest < l → BeginsNone (a ∷ b ∷ c ∷ d ∷ k ∷ l ∷ rest)
no_room a b c d k l rest short r behind fits e =
    let named : l ≡ length r.name = ap (λ (xs : List ℕ). slice_index xs 5) e in
    let long : length rest ≡ length (r.name ++ behind) = ap (λ (xs : List ℕ). length (drop 6 xs)) e in
    omega (arith, named, long, length-append r.name behind)

-- bytes begin with a record or with none
pub split : (bytes : List ℕ) → AreBytes bytes → IsSplit bytes
split (a ∷ b ∷ c ∷ d ∷ k ∷ zero ∷ rest) small = inl (no_name a b c d k rest)
split (a ∷ b ∷ c ∷ d ∷ k ∷ suc l ∷ rest) small = of_code (of_kind k) (cases_lt (length rest) (suc l))
  where
    of_code : ((kind : Kind) × (k ≡ kind_code kind)) ⊎ ((kind : Kind) → k ≢ kind_code kind)
        → ((length rest < suc l) ⊎ (suc l ≤ length rest)) → IsSplit (a ∷ b ∷ c ∷ d ∷ k ∷ suc l ∷ rest)
    of_code (inr other) q = inl (no_kind a b c d k (suc l) rest other)
    of_code (inl kind) (inl short) = inl (no_room a b c d k (suc l) rest short)
    of_code (inl kind) (inr long) =
        inr (subst (λ (code : ℕ).
        (r : Record) × (behind : List ℕ) × Begins (a ∷ b ∷ c ∷ d ∷ code ∷ suc l ∷ rest) r behind)
        (sym kind.1)
        (spelled a b c d (suc l) kind.0 rest (small 0) (small 1) (small 2) (small 3) (small 5)
        (omega arith) long))
split [] small = inl (short-BeginsNone [] (omega arith))
split (a ∷ []) small = inl (short-BeginsNone (a ∷ []) (omega arith))
split (a ∷ b ∷ []) small = inl (short-BeginsNone (a ∷ b ∷ []) (omega arith))
split (a ∷ b ∷ c ∷ []) small = inl (short-BeginsNone (a ∷ b ∷ c ∷ []) (omega arith))
split (a ∷ b ∷ c ∷ d ∷ []) small = inl (short-BeginsNone (a ∷ b ∷ c ∷ d ∷ []) (omega arith))
split (a ∷ b ∷ c ∷ d ∷ k ∷ []) small = inl (short-BeginsNone (a ∷ b ∷ c ∷ d ∷ k ∷ []) (omega arith))

-- what stands behind a record is shorter by its size
pub length-Begins : (bytes behind : List ℕ) (r : Record) → Begins bytes r behind
    → length bytes ≡ size_of r + length behind
length-Begins bytes behind r begins =
    let e : length bytes ≡ length (record_bytes r ++ behind) = ap length begins.spelling in
    omega (arith, e, length-append r.name behind)

-- what stands behind a record is bytes
pub small_behind : (bytes behind : List ℕ) (r : Record) → Begins bytes r behind → AreBytes bytes
    → AreBytes behind
small_behind bytes behind r begins small i =
    let n : ℕ = length (record_bytes r) in
    let at : slice_index (record_bytes r ++ behind) (n + i) ≡ slice_index behind i =
    get_or-append_right (record_bytes r) behind n (n + i) 0 refl (omega arith)
    ∙ ap (slice_index behind) (omega arith) in
    subst (λ (b : ℕ). b < 256) (ap (λ (xs : List ℕ). slice_index xs (n + i)) begins.spelling ∙ at)
    (small (n + i))

-- any bytes hold a list of records
pub some_list : (fuel : ℕ) (bytes : List ℕ) → length bytes ≤ fuel → AreBytes bytes
    → (records : List Record) × HoldsList bytes records
some_list zero bytes most small = ([], HoldsList-none bytes (short-BeginsNone bytes (omega arith)))
some_list (suc fuel) bytes most small =
    from_split (split bytes small) (λ behind less fine. some_list fuel behind (omega (arith, less)) fine)
  where
    from_split : IsSplit bytes
        → ((behind : List ℕ) → length behind < length bytes → AreBytes behind
        → (records : List Record) × HoldsList behind records)
        → (records : List Record) × HoldsList bytes records
    from_split (inl none) more = ([], HoldsList-none bytes none)
    from_split (inr (r, behind, begins)) more =
        let others : (records : List Record) × HoldsList behind records =
        more behind (omega (arith, length-Begins bytes behind r begins))
        (small_behind bytes behind r begins small) in
        (r ∷ others.0, HoldsList-more bytes behind r others.0 begins others.1)

-- ---- finding a name

-- the rest is bytes, and any list that it holds stands behind records of the page that have other names
pub record IsNotYetFound (page : List ℕ) (name : Name) (rest : List ℕ) : Type 0 where
  pub small : AreBytes rest
  pub leads : (records : List Record) → HoldsList rest records
      → (all : List Record) × HoldsList page all × (entry_of name all ≡ entry_of name records)

pub not_found-none : (page : List ℕ) (name : Name) (rest : List ℕ) → AreBytes rest → rest ≡ page
    → IsNotYetFound page name rest
not_found-none page name rest small e = record {
  small = small;
  leads = λ records holds. (records, subst (λ (bytes : List ℕ). HoldsList bytes records) e holds, refl);
}

pub not_found-more : (page : List ℕ) (name : Name) (rest behind : List ℕ) (r : Record)
    → IsNotYetFound page name rest → Begins rest r behind → same_name name r.name ≡ false
    → IsNotYetFound page name behind
not_found-more page name rest behind r earlier begins other =
    record { small = small_behind rest behind r begins earlier.small; leads = leads }
  where
    leads : (records : List Record) → HoldsList behind records
        → (all : List Record) × HoldsList page all × (entry_of name all ≡ entry_of name records)
    leads records holds =
        let found : (all : List Record) × HoldsList page all
        × (entry_of name all ≡ entry_of name (r ∷ records)) =
        earlier.leads (r ∷ records) (HoldsList-more rest behind r records begins holds) in (
          found.0,
          found.1,
          found.2 ∙ cond-false (same_name name r.name) (Some (r.inode, r.kind)) (entry_of name records) other,
        )

pub found_at : (page : List ℕ) (name : Name) (rest behind : List ℕ) (r : Record)
    → IsNotYetFound page name rest → Begins rest r behind → same_name name r.name ≡ true
    → (records : List Record) × HoldsList page records × (Some (r.inode, r.kind) ≡ entry_of name records)
found_at page name rest behind r earlier begins same =
    let others : (records : List Record) × HoldsList behind records =
    some_list (length behind) behind (omega arith) (small_behind rest behind r begins earlier.small) in
    let found : (all : List Record) × HoldsList page all
    × (entry_of name all ≡ entry_of name (r ∷ others.0)) =
    earlier.leads (r ∷ others.0) (HoldsList-more rest behind r others.0 begins others.1) in (
      found.0,
      found.1,
      sym (found.2
          ∙ cond-true (same_name name r.name) (Some (r.inode, r.kind)) (entry_of name others.0) same),
    )

pub found_nowhere : (page : List ℕ) (name : Name) (rest : List ℕ) → IsNotYetFound page name rest
    → BeginsNone rest → (records : List Record) × HoldsList page records × (None ≡ entry_of name records)
found_nowhere page name rest earlier none =
    let found : (all : List Record) × HoldsList page all × (entry_of name all ≡ None) =
    earlier.leads [] (HoldsList-none rest none) in
    (found.0, found.1, sym found.2)

-- ---- the first name

pub first_at : (bytes behind : List ℕ) (r : Record) → AreBytes bytes → Begins bytes r behind
    → (records : List Record) × HoldsList bytes records × (Some r.name ≡ first_name_of records)
first_at bytes behind r small begins =
    let others : (records : List Record) × HoldsList behind records =
    some_list (length behind) behind (omega arith) (small_behind bytes behind r begins small) in
    (r ∷ others.0, HoldsList-more bytes behind r others.0 begins others.1, refl)
