-- A block that is being filled.
use Rattle.std.proofs.Common.{◌≡◌, ℕ, ◌+◌, ◌-◌, ◌≤◌, List, [], ◌∷◌, ◌++◌, length, drop, refl, ap, sym, ◌∙◌, arith, append_assoc, length-append}
use Rattle.std.proofs.Math.ListN.{replicate}
use Rattle.std.proofs.Math.Seq.{take-append_seam, drop-append_seam, take-length}
use Rattle.std.proofs.lemmas.List.{append-nil, drop-replicate, length-replicate, drop_all}
use Rattle.std.proofs.lemmas.List.Concat.{flat_map-append}
use Rattle.std.specs.List.{flat_map}
use Rattle.byteorder.specs.Endian.{little_bytes}
use Rattle.byteorder.specs.Numbers.{length-bytes_low_first}
use borrow.Rule.Slice.PartMut.{mid_of, put_mid}
use Rattle.nl_dirs.specs.declared.record.Record.{Record}
use Rattle.nl_dirs.specs.Records.{kind_code, record_bytes, size_of, sizes, packed_block}
use Rattle.nl_dirs.specs.Packing.{IsFilled}

pub sizes-append : (xs ys : List Record) → sizes (xs ++ ys) ≡ sizes xs + sizes ys
sizes-append [] ys = omega arith
sizes-append (x ∷ xs) ys = omega (arith, sizes-append xs ys)

pub length-record_bytes : (r : Record) → length (record_bytes r) ≡ size_of r
length-record_bytes r =
    omega (
      arith,
      length-append (little_bytes 4 r.inode) (kind_code r.kind ∷ length r.name ∷ r.name),
      length-bytes_low_first 0 4 r.inode,
    )

pub length-records : (rs : List Record) → length (flat_map record_bytes rs) ≡ sizes rs
length-records [] = refl
length-records (r ∷ rs) =
    omega (
      arith,
      length-append (record_bytes r) (flat_map record_bytes rs),
      length-record_bytes r,
      length-records rs,
    )

pub length-packed_block : (rs : List Record) → sizes rs ≤ 1024 → length (packed_block rs) ≡ 1024
length-packed_block rs room =
    omega (
      arith,
      length-append (flat_map record_bytes rs) (replicate (1024 - sizes rs) 0),
      length-records rs,
      length-replicate {A = ℕ} (1024 - sizes rs) 0,
    )

-- what is written over the zeros behind a part
put_mid-behind : (front zeros new : List ℕ) (n : ℕ) → n ≡ length zeros
    → put_mid (length front) n (front ++ zeros) new ≡ front ++ new
put_mid-behind front zeros new n long =
    let nothing : new ++ drop n zeros ≡ new =
    ap (λ (xs : List ℕ). new ++ xs) (drop_all n zeros (omega arith)) ∙ append-nil new in
    rw (take-append_seam front zeros, drop-append_seam front zeros)
    (ap (λ (xs : List ℕ). front ++ xs) nothing)

put_mid-zeros : (bytes front zeros new : List ℕ) (used n : ℕ) → bytes ≡ front ++ zeros → used ≡ length front
    → n ≡ length zeros → put_mid used n bytes new ≡ front ++ new
put_mid-zeros bytes front zeros new used n was at long = rw (was, at) (put_mid-behind front zeros new n long)

mid_of-zeros : (bytes front zeros : List ℕ) (used n : ℕ) → bytes ≡ front ++ zeros → used ≡ length front
    → n ≡ length zeros → mid_of used n bytes ≡ zeros
mid_of-zeros bytes front zeros used n was at long =
    rw (was, at, drop-append_seam front zeros, long) (take-length zeros)

drop-zeros : (m n k : ℕ) → n - m ≡ k → ◌≡◌ {A = List ℕ} (drop m (replicate n 0)) (replicate k 0)
drop-zeros m n k e = drop-replicate m n 0 ∙ ap (λ (l : ℕ). replicate l 0) e

-- a record's bytes over the zeros behind other records
spelled_more : (rs : List Record) (r : Record) (n : ℕ)
    → flat_map record_bytes rs ++ (record_bytes r ++ replicate n 0)
    ≡ flat_map record_bytes (rs ++ r ∷ []) ++ replicate n 0
spelled_more rs r n =
    let more : flat_map record_bytes (rs ++ r ∷ []) ≡ flat_map record_bytes rs ++ record_bytes r =
    flat_map-append record_bytes rs (r ∷ [])
    ∙ ap (λ (xs : List ℕ). flat_map record_bytes rs ++ xs) (append-nil (record_bytes r)) in
    sym (append_assoc (flat_map record_bytes rs) (record_bytes r) (replicate n 0))
    ∙ ap (λ (xs : List ℕ). xs ++ replicate n 0) (sym more)

-- one record more
pub put_record : (rs : List Record) (r : Record) (bytes new : List ℕ) (used n more : ℕ)
    → IsFilled bytes used rs → used + size_of r ≤ 1024 → n ≡ 1024 - used → more ≡ used + size_of r
    → new ≡ record_bytes r ++ drop (size_of r) (mid_of used n bytes)
    → IsFilled (put_mid used n bytes new) more (rs ++ r ∷ [])
put_record rs r bytes new used n more had fits e total w =
    let front : List ℕ = flat_map record_bytes rs in
    let zeros : List ℕ = replicate (1024 - sizes rs) 0 in
    let sum : sizes (rs ++ r ∷ []) ≡ more = omega (arith, sizes-append rs (r ∷ []), had.counted) in
    let at : used ≡ length front = had.counted ∙ sym (length-records rs) in
    let long : n ≡ length zeros = omega (arith, had.counted, length-replicate {A = ℕ} (1024 - sizes rs) 0) in
    let left : (1024 - sizes rs) - size_of r ≡ 1024 - sizes (rs ++ r ∷ []) =
    omega (arith, had.counted, sum) in
    let there : mid_of used n bytes ≡ zeros = mid_of-zeros bytes front zeros used n had.spelled at long in
    let behind : drop (size_of r) zeros ≡ replicate (1024 - sizes (rs ++ r ∷ [])) 0 =
    drop-zeros (size_of r) (1024 - sizes rs) (1024 - sizes (rs ++ r ∷ [])) left in
    let rest : drop (size_of r) (mid_of used n bytes) ≡ replicate (1024 - sizes (rs ++ r ∷ [])) 0 =
    ap (drop (size_of r)) there ∙ behind in
    let written : new ≡ record_bytes r ++ replicate (1024 - sizes (rs ++ r ∷ [])) 0 =
    w ∙ ap (λ (xs : List ℕ). record_bytes r ++ xs) rest in
    let over : put_mid used n bytes new ≡ front ++ new =
    put_mid-zeros bytes front zeros new used n had.spelled at long in
    record {
      spelled =
          over
          ∙ (ap (λ (xs : List ℕ). front ++ xs) written ∙ spelled_more rs r (1024 - sizes (rs ++ r ∷ [])));
      counted = sym sum;
      room = omega (arith, sum);
    }
