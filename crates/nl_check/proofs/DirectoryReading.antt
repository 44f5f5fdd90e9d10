-- The records of a directory, read block by block.
use Rattle.std.proofs.Common.{◌≡◌, ℕ, zero, suc, ◌+◌, ◌-◌, ◌*◌, ◌<◌, ◌≤◌, List, [], ◌∷◌, ◌++◌, take, length, get_or, Option, Some, None, refl, ap, sym, subst, ◌∙◌, inl, inr, arith, append_assoc, length-append}
use Rattle.std.specs.List.{slice_get}
use Rattle.std.specs.Option.{option_map}
use Rattle.std.specs.Ordering.{is_lt}
use Rattle.std.specs.declared.cmp.Ordering.TheVariants.{Less}
use Rattle.std.proofs.lemmas.Bool.{cases_lt}
use Rattle.std.proofs.lemmas.List.{append-nil}
use Rattle.std.proofs.lemmas.List.Elements.{All-append, All-head, All-nil, All-tail}
use Rattle.std.proofs.lemmas.List.Kept.{AllPairs-cons}
use Rattle.std.proofs.lemmas.Option.{get_or_from_slice_get, slice_get_past, slice_get_within}
use Rattle.nl_types.specs.Plain.Paths.{name_cmp}
use Rattle.nl_types.specs.Blocks.Roots.{Blocks}
use Rattle.nl_dirs.specs.declared.record.Record.{Record}
use Rattle.nl_dirs.specs.Records.{AllHaveSpelling, IsPageOf, NamesAscend, RecordHasSpelling, packed_block, size_of, sizes}
use Rattle.nl_dirs.specs.Packing.{IsPacked, no_blocks, last_block, full_block}
use Rattle.nl_dirs.specs.Listings.{HoldsRecords}
use Rattle.nl_check.specs.Private.DirectoryBlocks.{BeginsNextBlock, IsAdded}
use Rattle.nl_check.proofs.Ascending.{IsBehind, behind_last}
use Rattle.nl_check.proofs.PackedBlocks.{all_of, all_of-packed, pages_of_packed}
use Rattle.nl_dirs.specs.Facts.RecordOrder.{ascending-head, ascending-tail, before_first}

abbrev pub Block : Type 0
Block = List Record

-- how many bytes are in use in the last of the blocks, where so many are before the first
pub used_by : ℕ → List Block → ℕ
used_by u [] = u
used_by u (b ∷ packed) = used_by (sizes b) packed

-- the first of the records has no room
abbrev IsFullFor : ℕ → List Record → Type 0
IsFullFor u [] = Unit {0}
IsFullFor u (r ∷ records) = 1024 < u + size_of r

-- ---- one block more

used-any : (u v : ℕ) (records : List Record) (packed : List Block) → IsPacked records packed
    → (records ≡ [] → ⊥) → used_by u packed ≡ used_by v packed
unfolding used_by
used-any u v _ _ no_blocks some = absurd (some refl)
used-any u v _ _ (last_block r rs room) some = refl
used-any u v _ _ (full_block r rs n rest blocks room full more) some = refl

used-snoc : (u : ℕ) (packed : List Block) (b : Block) → used_by u (packed ++ b ∷ []) ≡ sizes b
unfolding used_by
used-snoc u [] b = refl
used-snoc u (c ∷ packed) b = used-snoc (sizes c) packed b

all-snoc : (packed : List Block) (b : Block) → all_of (packed ++ b ∷ []) ≡ all_of packed ++ b
all-snoc [] b = append-nil b
all-snoc (c ∷ packed) b =
    ap (λ (xs : List Record). c ++ xs) (all-snoc packed b) ∙ sym (append_assoc c (all_of packed) b)

get-before : (packed : List Block) (b : Block) (i : ℕ) → i < length packed
    → slice_get (packed ++ b ∷ []) i ≡ slice_get packed i
get-before [] b i low = absurd (omega (arith, low))
get-before (c ∷ packed) b zero low = refl
get-before (c ∷ packed) b (suc i) low = get-before packed b i (omega (arith, low))

get-here : (packed : List Block) (b : Block) → slice_get (packed ++ b ∷ []) (length packed) ≡ Some b
get-here [] b = refl
get-here (c ∷ packed) b = get-here packed b

packed-snoc : (all : List Record) (packed : List Block) (r : Record) (rs : List Record) → IsPacked all packed
    → sizes (r ∷ rs) ≤ 1024
    → 1024 < used_by 1024 packed + size_of r → IsPacked (all ++ r ∷ rs) (packed ++ (r ∷ rs) ∷ [])
unfolding used_by
packed-snoc _ _ r rs no_blocks room full = last_block r rs room
packed-snoc _ _ r rs (last_block x xs room_x) room full =
    full_block x xs r rs ((r ∷ rs) ∷ []) room_x full (last_block r rs room)
packed-snoc _ _ r rs (full_block x xs n rest blocks room_x full_x more) room full =
    let same : used_by (sizes (x ∷ xs)) blocks ≡ used_by 1024 blocks =
    used-any (sizes (x ∷ xs)) 1024 (n ∷ rest) blocks more (λ e. cc) in
    let on = packed-snoc (n ∷ rest) blocks r rs more room (omega (arith, full, same)) in
    subst (λ (ys : List Record). IsPacked ys ((x ∷ xs) ∷ (blocks ++ (r ∷ rs) ∷ [])))
    (sym (append_assoc (x ∷ xs) (n ∷ rest) (r ∷ rs)))
    (full_block x xs n (rest ++ r ∷ rs) (blocks ++ (r ∷ rs) ∷ []) room_x full_x on)

ascending-append : (xs : List Record) (r : Record) (rs : List Record) → NamesAscend xs → NamesAscend (r ∷ rs)
    → IsBehind r.name xs → NamesAscend (xs ++ r ∷ rs)
ascending-append [] r rs a b behind = b
ascending-append (x ∷ xs) r rs a b behind =
    AllPairs-cons (λ (s t : Record). name_cmp s.name t.name ≡ Less) x (xs ++ r ∷ rs)
    (All-append (λ (t : Record). name_cmp x.name t.name ≡ Less) xs (r ∷ rs) (ascending-head x xs a)
    (before_first x.name r rs b (All-head (λ (s : Record). name_cmp s.name r.name ≡ Less) x xs behind)))
    (ascending-append xs r rs (ascending-tail x xs a) b
    (All-tail (λ (s : Record). name_cmp s.name r.name ≡ Less) x xs behind))

-- all names come before that of a record that follows them
behind-all : (all : List Record) (r : Record) → NamesAscend all
    → ((last : Record) → slice_get all (length all - 1) ≡ Some last → name_cmp last.name r.name ≡ Less)
    → IsBehind r.name all
behind-all all r ascending h = by (slice_get all (length all - 1)) refl
  where
    nothing : (xs : List Record) → slice_get xs (length xs - 1) ≡ None → IsBehind r.name xs
    nothing [] e = All-nil (λ (s : Record). name_cmp s.name r.name ≡ Less)
    nothing (x ∷ xs) e =
        let low : length (x ∷ xs) - 1 < length (x ∷ xs) = omega arith in
        absurd (past (x ∷ xs) (length (x ∷ xs) - 1) low e)
      where
        past : (ys : List Record) (k : ℕ) → k < length ys → slice_get ys k ≡ None → ⊥
        past [] k low e = omega (arith, low)
        past (y ∷ ys) zero low e = cc
        past (y ∷ ys) (suc k) low e = past ys k (omega (arith, low)) e

    by : (o : Option Record) → slice_get all (length all - 1) ≡ o → IsBehind r.name all
    by None e = nothing all e
    by (Some last) e = behind_last all last r.name ascending e (ap is_lt (h last e))

-- ---- what is read so far

-- the first blocks of a directory are those of these records, and the last of them has so many bytes in use
pub record AreRead (blocks : Blocks) (n : ℕ) (all : List Record) (used : ℕ) : Type 0 where
  pub packed : List Block
  pub is_packed : IsPacked all packed
  pub fit : AllHaveSpelling all
  pub ascending : NamesAscend all
  pub count : length packed ≡ n
  pub stored : (i : ℕ) → i < n → blocks i ≡ option_map packed_block (slice_get packed i)
  pub used_is : used ≡ used_by 1024 packed

pub read-none : (blocks : Blocks) (all : List Record) → all ≡ [] → AreRead blocks 0 all 1024
unfolding used_by
read-none blocks all is = subst (λ (xs : List Record). AreRead blocks 0 xs 1024) (sym is) (record {
  packed = [];
  is_packed = no_blocks;
  fit = All-nil RecordHasSpelling;
  ascending = λ i j d lt within. absurd (omega (arith, within));
  count = refl;
  stored = λ i low. absurd (omega (arith, low));
  used_is = refl;
})

pub read-more : (blocks : Blocks) (n used : ℕ) (all block new : List Record) (page : List ℕ)
    → AreRead blocks n all used → Some page ≡ blocks n → IsPageOf page block
    → BeginsNextBlock all used block → new ≡ all ++ block → AreRead blocks (n + 1) new (sizes block)
read-more blocks n used all [] new page so_far at is follows added = absurd (is.some refl)
read-more blocks n used all (r ∷ rs) new page so_far at is follows added =
    subst (λ (xs : List Record). AreRead blocks (n + 1) xs (sizes (r ∷ rs))) (sym added) (record {
      packed = so_far.packed ++ (r ∷ rs) ∷ [];
      is_packed =
          packed-snoc all so_far.packed r rs so_far.is_packed is.room
          (let full = follows.full in let u = so_far.used_is in omega (arith, full, u, ap size_of first));
      fit = All-append RecordHasSpelling all (r ∷ rs) so_far.fit is.fit;
      ascending = ascending-append all r rs so_far.ascending is.ascending
          (behind-all all r so_far.ascending
          (λ last e. ap (λ (f : Record). name_cmp last.name f.name) first ∙ follows.behind last e));
      count = length-append so_far.packed ((r ∷ rs) ∷ []) ∙ ap (λ (k : ℕ). k + 1) so_far.count;
      stored = λ i low. elim (cases_lt i n) [
        | inl less ↦
            so_far.stored i less
            ∙ ap (option_map packed_block)
            (sym (get-before so_far.packed (r ∷ rs) i (let c = so_far.count in omega (arith, c, less))))
        | inr high ↦ (let e : i ≡ n = omega (arith, low, high) in
            ap blocks e ∙ (sym at ∙ (ap (λ (p : List ℕ). Some p) is.spelling
            ∙ sym (ap (λ (k : ℕ). option_map packed_block (slice_get (so_far.packed ++ (r ∷ rs) ∷ []) k))
            (e ∙ sym so_far.count)
            ∙ ap (option_map packed_block) (get-here so_far.packed (r ∷ rs))))))
      ];
      used_is = sym (used-snoc 1024 so_far.packed (r ∷ rs));
    })
  where
    first : r ≡ follows.first
    first = let e : Some r ≡ Some follows.first = follows.is in cc

-- all blocks are read
pub read-all : (blocks : Blocks) (count used : ℕ) (all : List Record) → AreRead blocks count all used
    → ((i : ℕ) → count ≤ i → blocks i ≡ None) → HoldsRecords blocks (1024 * count) all
read-all blocks count used all so_far past = record {
  fit = so_far.fit;
  ascending = so_far.ascending;
  packed = so_far.packed;
  is_packed = so_far.is_packed;
  stored = λ i. elim (cases_lt i count) [
    | inl low ↦ so_far.stored i low
    | inr high ↦
        past i high
        ∙ sym (ap (option_map packed_block)
        (slice_get_past so_far.packed i (let c = so_far.count in omega (arith, c, high))))
  ];
  sized = ap (λ (k : ℕ). 1024 * k) (sym so_far.count);
}

-- ---- the other way round

-- the block there is the first of the rest, and follows those before it
record IsNext (u : ℕ) (records : List Record) (packed : List Block) (n : ℕ) (b : Block) : Type 0 where
  pub first : Record
  pub rest : List Record
  pub is : b ≡ first ∷ rest
  pub full : 1024 < used_by u (take n packed) + size_of first
  pub after : List Record
  pub parts : records ≡ all_of (take n packed) ++ (first ∷ rest ++ after)

next-in : (u : ℕ) (records : List Record) (packed : List Block) (n : ℕ) (b : Block) → IsPacked records packed
    → IsFullFor u records → slice_get packed n ≡ Some b → IsNext u records packed n b
unfolding used_by
next-in u _ _ n b no_blocks full at = absurd cc
next-in u _ _ zero b (last_block r rs room) full at =
    record { first = r; rest = rs; is = cc; full = full; after = []; parts = sym (append-nil (r ∷ rs)) }
next-in u _ _ (suc n) b (last_block r rs room) full at = absurd cc
next-in u _ _ zero b (full_block r rs x xs blocks room full_r more) full at =
    record { first = r; rest = rs; is = cc; full = full; after = x ∷ xs; parts = refl }
next-in u _ _ (suc n) b (full_block r rs x xs blocks room full_r more) full at =
    let i = next-in (sizes (r ∷ rs)) (x ∷ xs) blocks n b more full_r at in record {
      first = i.first;
      rest = i.rest;
      is = i.is;
      full = i.full;
      after = i.after;
      parts =
          ap (λ (ys : List Record). (r ∷ rs) ++ ys) i.parts
          ∙ sym (append_assoc (r ∷ rs) (all_of (take n blocks)) (i.first ∷ i.rest ++ i.after));
    }

full-at-first : (records : List Record) → IsFullFor 1024 records
full-at-first [] = tt
full-at-first (r ∷ records) = omega arith

-- what is read of a directory
pub record AreReadOf (blocks : Blocks) (size n : ℕ) (all : List Record) (used : ℕ) (records : List Record)
    (h : HoldsRecords blocks size records) : Type 0 where
  pub all_is : all ≡ all_of (take n h.packed)
  pub used_is : used ≡ used_by 1024 (take n h.packed)

abbrev pub AreReadOfAny : Blocks → ℕ → ℕ → List Record → ℕ → Type 0
AreReadOfAny blocks size n all used =
    (records : List Record) (h : HoldsRecords blocks size records)
    → AreReadOf blocks size n all used records h

take-snoc : (packed : List Block) (n : ℕ) (b : Block) → slice_get packed n ≡ Some b
    → take (n + 1) packed ≡ take n packed ++ b ∷ []
take-snoc [] n b at = cc
take-snoc (c ∷ packed) zero b at = let e : c ≡ b = cc in ap (λ (x : Block). x ∷ []) e
take-snoc (c ∷ packed) (suc n) b at =
    let e : suc n + 1 ≡ suc (n + 1) = omega arith in
    ap (λ (k : ℕ). take k (c ∷ packed)) e ∙ ap (λ (xs : List Block). c ∷ xs) (take-snoc packed n b at)

take-whole : (n : ℕ) (packed : List Block) → length packed ≤ n → take n packed ≡ packed
take-whole zero [] le = refl
take-whole zero (b ∷ packed) le = absurd (omega (arith, le))
take-whole (suc n) [] le = refl
take-whole (suc n) (b ∷ packed) le =
    ap (λ (xs : List Block). b ∷ xs) (take-whole n packed (omega (arith, le)))

module _ (blocks : Blocks) (count : ℕ) where
  pub of-none : (all : List Record) → all ≡ [] → AreReadOfAny blocks (1024 * count) 0 all 1024
  unfolding used_by
  of-none all is records h = record { all_is = is; used_is = refl }

  -- the block at an index
  pub block-at : (records : List Record) (h : HoldsRecords blocks (1024 * count) records) (n : ℕ) → n < count
      → (b : Block) × (slice_get h.packed n ≡ Some b) × (Some (packed_block b) ≡ blocks n)
      × IsPageOf (packed_block b) b
  block-at records h n low = by (slice_get h.packed n) refl
    where
      within : (p : List Block) (k : ℕ) → k < length p → slice_get p k ≡ None → ⊥
      within [] k l e = omega (arith, l)
      within (b ∷ p) zero l e = cc
      within (b ∷ p) (suc k) l e = within p k (omega (arith, l)) e

      by : (o : Option Block) → slice_get h.packed n ≡ o
          → (b : Block) × (slice_get h.packed n ≡ Some b) × (Some (packed_block b) ≡ blocks n)
          × IsPageOf (packed_block b) b
      by None e = absurd (within h.packed n (let s = h.sized in omega (arith, s, low)) e)
      by (Some b) e = (
        b,
        e,
        sym (h.stored n ∙ ap (option_map packed_block) e),
        pages_of_packed records h.packed h.is_packed h.fit h.ascending n b e,
      )

  -- the page there is that of a block which follows what is read
  pub next-block : (n used : ℕ) (all : List Record) (page : List ℕ) → n < count
      → AreReadOfAny blocks (1024 * count) n all used → Some page ≡ blocks n
      → (records : List Record) → HoldsRecords blocks (1024 * count) records
      → (b : Block) × IsPageOf page b × BeginsNextBlock all used b
  next-block n used all page low so_far at records h =
      let b = block-at records h n low in
      let e : Some page ≡ Some (packed_block b.0) = at ∙ sym b.2 in
      let same : page ≡ packed_block b.0 = cc in
      let next = next-in 1024 records h.packed n b.0 h.is_packed (full-at-first records) b.1 in
      let r = so_far records h in
      let parts : records ≡ all ++ (next.first ∷ next.rest ++ next.after) =
      next.parts
      ∙ ap (λ (xs : List Record). xs ++ (next.first ∷ next.rest ++ next.after)) (sym r.all_is) in (
        b.0,
        subst (λ (p : List ℕ). IsPageOf p b.0) (sym same) b.3,
        record {
          first = next.first;
          is = ap (λ (xs : List Record). slice_get xs 0) next.is;
          full = (let f = next.full in let u = r.used_is in omega (arith, f, u));
          behind = λ last is.
              before all next.first (next.rest ++ next.after) last (subst NamesAscend parts h.ascending) is;
        },
      )
    where
      get-left : (xs ys : List Record) (k : ℕ) (d : Record) → k < length xs
          → get_or (xs ++ ys) k d ≡ get_or xs k d
      get-left [] ys k d l = absurd (omega (arith, l))
      get-left (x ∷ xs) ys zero d l = refl
      get-left (x ∷ xs) ys (suc k) d l = get-left xs ys k d (omega (arith, l))

      get-mid : (xs ys : List Record) (y d : Record) → get_or (xs ++ y ∷ ys) (length xs) d ≡ y
      get-mid [] ys y d = refl
      get-mid (x ∷ xs) ys y d = get-mid xs ys y d

      before : (all : List Record) (first : Record) (rest : List Record) (last : Record)
          → NamesAscend (all ++ first ∷ rest) → slice_get all (length all - 1) ≡ Some last
          → name_cmp last.name first.name ≡ Less
      before all first rest last ascending is =
          let inside = slice_get_within all (length all - 1) last is in
          let step =
          ascending (length all - 1) (length all) first (omega (arith, inside))
          (omega (arith, length-append all (first ∷ rest))) in
          let a : get_or (all ++ first ∷ rest) (length all - 1) first ≡ last =
          get-left all (first ∷ rest) (length all - 1) first inside
          ∙ get_or_from_slice_get all (length all - 1) last first is in
          let b : get_or (all ++ first ∷ rest) (length all) first ≡ first = get-mid all rest first first in
          sym (ap (λ (x : Record). name_cmp x.name (get_or (all ++ first ∷ rest) (length all) first).name) a
          ∙ ap (λ (x : Record). name_cmp last.name x.name) b)
          ∙ step

  pub of-more : (n used : ℕ) (all block new : List Record) (page : List ℕ) → n < count
      → AreReadOfAny blocks (1024 * count) n all used → Some page ≡ blocks n
      → ((b : Block) → IsPageOf page b → block ≡ b) → new ≡ all ++ block
      → AreReadOfAny blocks (1024 * count) (n + 1) new (sizes block)
  of-more n used all block new page low so_far at one added records h =
      let b = block-at records h n low in
      let e : Some page ≡ Some (packed_block b.0) = at ∙ sym b.2 in
      let same : page ≡ packed_block b.0 = cc in
      let is_b : block ≡ b.0 = one b.0 (subst (λ (p : List ℕ). IsPageOf p b.0) (sym same) b.3) in
      let r = so_far records h in
      let more = take-snoc h.packed n b.0 b.1 in record {
        all_is =
            added
            ∙ (ap (λ (xs : List Record). xs ++ block) r.all_is
            ∙ (ap (λ (x : Block). all_of (take n h.packed) ++ x) is_b
            ∙ (sym (all-snoc (take n h.packed) b.0) ∙ sym (ap all_of more))));
        used_is = ap sizes is_b ∙ (sym (used-snoc 1024 (take n h.packed) b.0) ∙ sym (ap (used_by 1024) more));
      }

  pub of-all : (all : List Record) (used : ℕ) → AreReadOfAny blocks (1024 * count) count all used
      → (records : List Record) → HoldsRecords blocks (1024 * count) records → all ≡ records
  of-all all used so_far records h =
      let r = so_far records h in
      r.all_is
      ∙ (ap all_of (take-whole count h.packed (let s = h.sized in omega (arith, s)))
      ∙ all_of-packed records h.packed h.is_packed)

  -- one block more is read
  pub added-read : (n used size : ℕ) (all new : List Record) (page : List ℕ) → AreRead blocks n all used
      → Some page ≡ blocks n → IsAdded page used all new size → AreRead blocks (n + 1) new size
  added-read n used size all new page so_far at a =
      subst (λ (u : ℕ). AreRead blocks (n + 1) new u) (sym a.size_is)
      (read-more blocks n used all a.block new page so_far at a.is_page a.follows a.added)

  pub added-read_of : (n used size : ℕ) (all new : List Record) (page : List ℕ) → n < count
      → AreReadOfAny blocks (1024 * count) n all used → Some page ≡ blocks n → IsAdded page used all new size
      → AreReadOfAny blocks (1024 * count) (n + 1) new size
  added-read_of n used size all new page low so_far at a records h =
      let o = of-more n used all a.block new page low so_far at a.one a.added records h in
      record { all_is = o.all_is; used_is = a.size_is ∙ o.used_is }
