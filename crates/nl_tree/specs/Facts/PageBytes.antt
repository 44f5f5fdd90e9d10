-- Bytes of a page that are written over.
use Rattle.std.proofs.Common.{◌≡◌, ℕ, zero, suc, ◌*◌, ◌/◌, ◌+◌, ◌-◌, ◌<◌, ◌≤◌, List, ◌++◌, length, take, drop, replicate, get_or, refl, sym, ap, subst, ◌∙◌, inl, inr, arith, max, min}
use Rattle.std.proofs.lemmas.List.{get_or_append_left, get_or-take, get_or-drop, get_or-append_right, get_or-replicate, get_or_past, length-append, length-take, length-drop, length-replicate}
use Rattle.std.proofs.lemmas.Bool.{cases_lt, le-leb, le-ltb, lt-leb, lt-ltb}
use borrow.Rule.Slice.PartMut.{put_mid}
use Rattle.nl_tree.specs.Bytes.{end_of_blocks, byte_written}

pub zero_at : (n k : ℕ) → get_or {A = ℕ} (replicate n 0) k 0 ≡ 0
zero_at n k = elim (cases_lt k n) [
  | inl l ↦ get_or-replicate n k 0 0 l
  | inr r ↦ get_or_past (replicate n 0) k 0 (omega (arith, length-replicate {A = ℕ} n 0))
]

pub written_in : (bytes : List ℕ) (offset k old : ℕ) → offset ≤ k → k < offset + length bytes
    → byte_written bytes offset k old ≡ get_or bytes (k - offset) 0
written_in bytes offset k old low high = rw (le-leb offset k low, lt-ltb k (offset + length bytes) high)

pub written_below : (bytes : List ℕ) (offset k old : ℕ) → k < offset → byte_written bytes offset k old ≡ old
written_below bytes offset k old low = rw (lt-leb offset k low)

pub written_above : (bytes : List ℕ) (offset k old : ℕ) → offset + length bytes ≤ k
    → byte_written bytes offset k old ≡ old
written_above bytes offset k old high =
    rw (le-leb offset k (omega arith), le-ltb k (offset + length bytes) high)

-- three lists in a row, of which the second lies over an old one
in_row : (a b c : List ℕ) (from k old : ℕ) → length a ≡ from →
    (k < from → get_or a k 0 ≡ old) → (from + length b ≤ k → get_or c (k - from - length b) 0 ≡ old)
    → get_or (a ++ (b ++ c)) k 0 ≡ byte_written b from k old
in_row a b c from k old long first last = elim (cases_lt k from) [
  | inl l ↦ get_or_append_left a (b ++ c) 0 k (omega arith) ∙ first l ∙ sym (written_below b from k old l)
  | inr r ↦ get_or-append_right a (b ++ c) from k 0 long r ∙ elim (cases_lt k (from + length b)) [
    | inl l ↦ get_or_append_left b c 0 (k - from) (omega arith) ∙ sym (written_in b from k old r l)
    | inr s ↦
        get_or-append_right b c (length b) (k - from) 0 refl (omega arith) ∙ last s
        ∙ sym (written_above b from k old s)
  ]
]

-- bytes that are copied into a part of a block
part_over : (block part : List ℕ) (within n k : ℕ) → within + length part ≤ length block → n ≡ length part
    → get_or (put_mid within n block part) k 0 ≡ byte_written part within k (get_or block k 0)
part_over block part within n k room e =
    in_row (take within block) part (drop n (drop within block)) within k (get_or block k 0)
    (omega (arith, length-take within block))
    (λ h. get_or-take within block k 0 h)
    (λ h.
    get_or-drop n (drop within block) (k - within - length part) 0
    ∙ get_or-drop within block (n + (k - within - length part)) 0
    ∙ ap (λ j. get_or block j 0) (omega arith))

pub overwrote : (block : List ℕ) {part bytes : List ℕ} (within n k : ℕ) {x : ℕ} → part ≡ bytes
    → within + length bytes ≤ length block → n ≡ length bytes → get_or block k 0 ≡ x →
    get_or (put_mid within n block part) k 0 ≡ byte_written bytes within k x
overwrote block {part} {bytes} within n k {x} same room e is =
    let P : List ℕ → Type 0 = λ b. get_or (put_mid within n block b) k 0 ≡ byte_written bytes within k x in
    subst P (sym same) (part_over block bytes within n k room e ∙ ap (byte_written bytes within k) is)

-- ---- the part of the bytes that lies in a block

pub part_get : (bytes : List ℕ) (first count j : ℕ) → j < count
    → get_or (take count (drop first bytes)) j 0 ≡ get_or bytes (first + j) 0
part_get bytes first count j low = get_or-take count (drop first bytes) j 0 low ∙ get_or-drop first bytes j 0

-- the first byte of the block that is written, and the one behind the last
abbrev pub IsPart : ℕ → ℕ → ℕ → ℕ → ℕ → Type 0
IsPart offset end start from to = (from ≡ max offset start) × (to ≡ min end (start + 1024))

pub part_written : (bytes part : List ℕ) (offset start from to k old : ℕ)
    → IsPart offset (offset + length bytes) start from to
    → offset < start + 1024 → start < offset + length bytes
    → part ≡ take (to - offset - (from - offset)) (drop (from - offset) bytes) → k < 1024
    → byte_written part (from - start) k old ≡ byte_written bytes offset (start + k) old
part_written bytes part offset start from to k old (f, t) below above is low =
    let long : length part ≡ to - from =
    ap length is
    ∙ omega (
      arith,
      f,
      t,
      length-take (to - offset - (from - offset)) (drop (from - offset) bytes),
      length-drop (from - offset) bytes,
    ) in
    elim (cases_lt k (from - start)) [
      | inl l ↦
          written_below part (from - start) k old l
          ∙ sym (written_below bytes offset (start + k) old (omega (arith, f, l)))
      | inr r ↦ elim (cases_lt k (to - start)) [
        | inl l ↦
            written_in part (from - start) k old r (omega (arith, f, t, long, l, r))
            ∙ ap (λ (p : List ℕ). get_or p (k - (from - start)) 0) is
            ∙ part_get bytes (from - offset) (to - offset - (from - offset)) (k - (from - start))
            (omega (arith, f, t, l, r))
            ∙ ap (λ (n : ℕ). get_or bytes n 0) (omega (arith, f, t, l, r))
            ∙ sym (written_in bytes offset (start + k) old (omega (arith, f, r)) (omega (arith, f, t, l)))
        | inr s ↦
            written_above part (from - start) k old (omega (arith, f, t, long, s, r))
            ∙ sym (written_above bytes offset (start + k) old (omega (arith, f, t, s, low)))
      ]
    ]

-- a block that bytes lie in begins before their end, and ends behind their beginning
pub touches : (offset count index : ℕ) → offset / 1024 ≤ index → index < end_of_blocks offset count
    → (offset < 1024 * index + 1024) × (1024 * index < offset + count)
touches offset zero index low high = absurd (omega (low, high, arith))
touches offset (suc n) index low high = (omega (arith, low), omega (arith, high))

pub length-put : (within n : ℕ) (block part : List ℕ) → within + n ≤ length block → length part ≡ n
    → length (put_mid within n block part) ≡ length block
length-put within n block part room e =
    omega (
      arith,
      length-append (take within block) (part ++ drop n (drop within block)),
      length-append part (drop n (drop within block)),
      length-take within block,
      length-drop n (drop within block),
      length-drop within block,
      room,
      e,
    )

pub from_zero : (part : List ℕ) (within k old : ℕ)
    → byte_written part within (0 + k) old ≡ byte_written part within k old
from_zero part within k old =
    let same : 0 + k ≡ k = omega arith in ap (λ (n : ℕ). byte_written part within n old) same
