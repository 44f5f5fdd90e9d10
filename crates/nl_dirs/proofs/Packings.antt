-- Packing as it goes on, record by record.
use Rattle.std.proofs.Common.{◌≡◌, ℕ, ◌+◌, ◌≤◌, ◌<◌, List, [], ◌∷◌, ◌++◌, refl, ap, sym, ◌∙◌, subst, arith, append_assoc}
use Rattle.std.specs.Prelude.{map}
use Rattle.std.proofs.lemmas.List.{append-nil, map-append}
use Rattle.nl_dirs.specs.declared.record.Record.{Record}
use Rattle.nl_dirs.specs.Records.{packed_block, size_of, sizes}
use Rattle.nl_dirs.specs.Packing.{IsPacked, no_blocks, last_block, full_block, Packs, IsFilled}

-- these records are those of the blocks that are done, and then those of the block that is being filled
pub record IsPackedSoFar (records : List Record) (blocks : List (List ℕ)) (bytes : List ℕ)
    (used : ℕ) : Type 0 where
  pub done : List Record
  pub packed : List (List Record)
  pub current : List Record
  pub all : records ≡ done ++ current
  pub goes_on : (rest : List Record) (more : List (List Record)) → IsPacked (current ++ rest) more
      → IsPacked (done ++ (current ++ rest)) (packed ++ more)
  pub pages : blocks ≡ map packed_block packed
  pub has : IsFilled bytes used current

pub so_far-begun : (bytes : List ℕ) (used : ℕ) → IsFilled bytes used [] → IsPackedSoFar [] [] bytes used
so_far-begun bytes used empty = record {
  done = [];
  packed = [];
  current = [];
  all = refl;
  goes_on = λ rest more h. h;
  pages = refl;
  has = empty;
}

pub so_far-same : (records others : List Record) (blocks after : List (List ℕ)) (bytes : List ℕ) (used : ℕ)
    → others ≡ records → after ≡ blocks
    → IsPackedSoFar records blocks bytes used → IsPackedSoFar others after bytes used
so_far-same records others blocks after bytes used e h was = rw (e, h) was

-- a record more in the block
pub so_far-added : (records : List Record) (blocks : List (List ℕ)) (bytes filled : List ℕ) (used new : ℕ)
    (next : Record)
    → IsPackedSoFar records blocks bytes used
    → ((rs : List Record) → IsFilled bytes used rs → IsFilled filled new (rs ++ next ∷ []))
    → IsPackedSoFar (records ++ next ∷ []) blocks filled new
so_far-added records blocks bytes filled used new next was add = record {
  done = was.done;
  packed = was.packed;
  current = was.current ++ next ∷ [];
  all = ap (λ (rs : List Record). rs ++ next ∷ []) was.all ∙ append_assoc was.done was.current (next ∷ []);
  goes_on = λ rest more h.
      subst (λ (rs : List Record). IsPacked (was.done ++ rs) (was.packed ++ more))
      (sym (append_assoc was.current (next ∷ []) rest))
      (was.goes_on (next ∷ rest) more
      (subst (λ (rs : List Record). IsPacked rs more) (append_assoc was.current (next ∷ []) rest) h));
  pages = was.pages;
  has = add was.current was.has;
}

-- a block that is full for the next record goes to those that are done
full_blocks : (current : List Record) (next : Record) (rest : List Record) (more : List (List Record))
    → sizes current ≤ 1024 → 1024 < sizes current + size_of next
    → size_of next ≤ 1024 → IsPacked (next ∷ rest) more → IsPacked (current ++ next ∷ rest) (current ∷ more)
full_blocks [] next rest more fits full small h = absurd (omega arith)
full_blocks (r ∷ rs) next rest more fits full small h = full_block r rs next rest more fits full h

pub so_far-closed : (records : List Record) (blocks : List (List ℕ)) (bytes empty filled : List ℕ)
    (used none new : ℕ) (next : Record)
    → IsPackedSoFar records blocks bytes used
    → 1024 < used + size_of next → size_of next ≤ 1024 → IsFilled empty none []
    → ((rs : List Record) → IsFilled empty none rs → IsFilled filled new (rs ++ next ∷ []))
    → IsPackedSoFar (records ++ next ∷ []) (blocks ++ bytes ∷ []) filled new
so_far-closed records blocks bytes empty filled used none new next was full small begun add =
    let counted : used ≡ sizes was.current = was.has.counted in
    let room : sizes was.current ≤ 1024 = was.has.room in
    record {
      done = was.done ++ was.current;
      packed = was.packed ++ was.current ∷ [];
      current = next ∷ [];
      all = ap (λ (rs : List Record). rs ++ next ∷ []) was.all;
      goes_on = λ rest more h.
          subst (λ (rs : List Record). IsPacked rs ((was.packed ++ was.current ∷ []) ++ more))
          (sym (append_assoc was.done was.current (next ∷ rest)))
          (subst (λ (bs : List (List Record)). IsPacked (was.done ++ (was.current ++ next ∷ rest)) bs)
          (sym (append_assoc was.packed (was.current ∷ []) more))
          (was.goes_on (next ∷ rest) (was.current ∷ more)
          (full_blocks was.current next rest more room (omega arith) small h)));
      pages = ap (λ (bs : List (List ℕ)). bs ++ bytes ∷ []) was.pages
          ∙ (ap (λ (page : List ℕ). map packed_block was.packed ++ page ∷ []) was.has.spelled
          ∙ sym (map-append packed_block was.packed (was.current ∷ [])));
      has = add [] begun;
    }

no_records : (current : List Record) → sizes current ≡ 0 → current ≡ []
no_records [] h = refl
no_records (r ∷ rs) h = absurd (omega arith)

one_block : (current : List Record) → 0 < sizes current → sizes current ≤ 1024
    → IsPacked current (current ∷ [])
one_block [] some fits = absurd (omega arith)
one_block (r ∷ rs) some fits = last_block r rs fits

ended : (done current rest : List Record) (packed more : List (List Record)) → rest ≡ []
    → (IsPacked (current ++ rest) more → IsPacked (done ++ (current ++ rest)) (packed ++ more))
    → IsPacked current more → IsPacked (done ++ current) (packed ++ more)
ended done current rest packed more e goes_on h =
    let same : current ++ rest ≡ current = ap (λ (rs : List Record). current ++ rs) e ∙ append-nil current in
    subst (λ (rs : List Record). IsPacked (done ++ rs) (packed ++ more)) same
    (goes_on (subst (λ (rs : List Record). IsPacked rs more) (sym same) h))

-- nothing is in the block that is being filled
pub so_far-ends : (records : List Record) (blocks : List (List ℕ)) (bytes : List ℕ) (used : ℕ)
    → IsPackedSoFar records blocks bytes used → used ≡ 0 → Packs records blocks
so_far-ends records blocks bytes used was none =
    let empty : was.current ≡ [] = no_records was.current (sym was.has.counted ∙ none) in
    record {
      packed = was.packed;
      is_packed = subst (λ (rs : List Record). IsPacked rs was.packed) (sym was.all)
          (subst (λ (bs : List (List Record)). IsPacked (was.done ++ was.current) bs) (append-nil was.packed)
          (ended was.done was.current [] was.packed [] refl (was.goes_on [] [])
          (subst (λ (rs : List Record). IsPacked rs []) (sym empty) no_blocks)));
      pages = was.pages;
    }

-- something is in it
pub so_far-ends_with : (records : List Record) (blocks : List (List ℕ)) (bytes : List ℕ) (used : ℕ)
    → IsPackedSoFar records blocks bytes used → 0 < used
    → Packs records (blocks ++ bytes ∷ [])
so_far-ends_with records blocks bytes used was some =
    let counted : used ≡ sizes was.current = was.has.counted in
    record {
      packed = was.packed ++ was.current ∷ [];
      is_packed = subst (λ (rs : List Record). IsPacked rs (was.packed ++ was.current ∷ [])) (sym was.all)
          (ended was.done was.current [] was.packed (was.current ∷ []) refl
          (was.goes_on [] (was.current ∷ [])) (one_block was.current (omega arith) was.has.room));
      pages = ap (λ (bs : List (List ℕ)). bs ++ bytes ∷ []) was.pages
          ∙ (ap (λ (page : List ℕ). map packed_block was.packed ++ page ∷ []) was.has.spelled
          ∙ sym (map-append packed_block was.packed (was.current ∷ [])));
    }
