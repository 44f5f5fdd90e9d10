-- The slots of a node as bytes.
use Rattle.std.proofs.Common.{◌≡◌, ℕ, zero, suc, ◌+◌, ◌*◌, ◌-◌, ◌/◌, ◌%◌, ◌^◌, ◌<◌, ◌≤◌, List, [], ◌∷◌, ◌++◌, length, take, drop, get_or, slice_index, refl, ap, sym, ◌∙◌, arith, inl, inr, append_assoc, length-append, length-drop, take-append-drop}
use Rattle.std.proofs.Math.Nat.{div-div-eq-div-mul, div-one, pow-suc}
use Rattle.std.proofs.Math.ListN.{set, replicate}
use Rattle.std.proofs.lemmas.Bool.{cases_lt}
use Rattle.std.specs.List.{All}
use Rattle.std.proofs.lemmas.List.{drop-drop, get_or-drop, get_or-append_right, get_or_append_left, get_or_past, get_or-set_other, length-take-le, take_more, take_more_set, take_rest}
use Rattle.std.proofs.lemmas.List.Concat.{flat_map-append}
use Rattle.std.proofs.lemmas.List.Elements.{All-head, All-tail}
use Rattle.std.specs.Int.{bytes_low_first, byte_at}
use Rattle.byteorder.specs.Endian.{little_bytes, little_number}
use Rattle.byteorder.specs.Numbers.{little_number-reads_back, little_from-cons, little_from-lt, length-bytes_low_first}
use borrow.Rule.Slice.PartMut.{put_mid}
use Rattle.nl_types.specs.Blocks.Roots.{numbered, slot}
use Rattle.nl_layout.specs.Node.{Spells, slots_bytes, slots_at}
use Rattle.nl_layout.specs.Facts.Writing.{put_mid-seam}

pub length-slots_bytes : (slots : List ℕ) → length (slots_bytes slots) ≡ 8 * length slots
length-slots_bytes [] = refl
length-slots_bytes (n ∷ slots) =
    let more = length-slots_bytes slots in
    omega (arith, more, length-append (little_bytes 8 n) (slots_bytes slots), length-bytes_low_first 0 8 n)

-- ---- writing

-- the slots that are written, and what stands behind them, once there is one more
pub put_slot : (slots : List ℕ) (k n d : ℕ) (out before new : List ℕ) → k < length slots → n ≡ 8
    → out ≡ slots_bytes (take k slots) ++ drop (8 * k) before
    → new ≡ little_bytes 8 (get_or slots k d)
    → put_mid (8 * k) n out new ≡ slots_bytes (take (k + 1) slots) ++ drop (8 * (k + 1)) before
put_slot slots k n d out before new within e was w =
    let front : List ℕ = slots_bytes (take k slots) in
    let len : 8 * k ≡ length front =
    sym (length-slots_bytes (take k slots)
    ∙ ap (λ (x : ℕ). 8 * x) (length-take-le k slots (omega arith))) in
    let more : slots_bytes (take (k + 1) slots) ≡ front ++ little_bytes 8 (get_or slots k d) =
    ap slots_bytes (take_more slots k d within)
    ∙ flat_map-append (little_bytes 8) (take k slots) (get_or slots k d ∷ []) in
    let rest : drop n (drop (8 * k) before) ≡ drop (8 * (k + 1)) before =
    drop-drop n (8 * k) before ∙ ap (λ (x : ℕ). drop x before) (omega arith) in
    let written : put_mid (8 * k) n out new ≡ front ++ (new ++ drop (8 * (k + 1)) before) =
    ap (λ (xs : List ℕ). put_mid (8 * k) n xs new) was
    ∙ (ap (λ (at : ℕ). put_mid at n (front ++ drop (8 * k) before) new) len
    ∙ (put_mid-seam front (drop (8 * k) before) new n ∙ ap (λ (xs : List ℕ). front ++ (new ++ xs)) rest)) in
    written
    ∙ rw (more, w) (sym (append_assoc front (little_bytes 8 (get_or slots k d)) (drop (8 * (k + 1)) before)))

-- ---- what a slot names

slot_number : (s : ℕ) (slots rest : List ℕ) → s < length slots → All (λ number. number < 2 ^ 64) slots
    → little_number 8 (drop (8 * s) (slots_bytes slots ++ rest)) ≡ slice_index slots s
slot_number s [] rest within fit = absurd (omega arith)
slot_number zero (n ∷ slots) rest within fit =
    ap (little_number 8) (append_assoc (little_bytes 8 n) (slots_bytes slots) rest)
    ∙ little_number-reads_back 8 n (slots_bytes slots ++ rest)
    (All-head (λ number. number < 2 ^ 64) n slots fit)
slot_number (suc s) (n ∷ slots) rest within fit =
    let on : 8 * suc s ≡ 8 + 8 * s = omega arith in
    let at : drop (8 * suc s) (slots_bytes (n ∷ slots) ++ rest) ≡ drop (8 * s) (slots_bytes slots ++ rest) =
    ap (λ (k : ℕ). drop k (slots_bytes (n ∷ slots) ++ rest)) on
    ∙ sym (drop-drop (8 * s) 8 (slots_bytes (n ∷ slots) ++ rest)) in
    ap (little_number 8) at
    ∙ slot_number s slots rest (omega arith) (All-tail (λ number. number < 2 ^ 64) n slots fit)

pub slot-Spells : (bytes slots : List ℕ) (s : ℕ) → Spells bytes slots → s < 128
    → slot s bytes ≡ numbered (slice_index slots s)
slot-Spells bytes slots s spells within =
    ap numbered (ap (λ (xs : List ℕ). little_number 8 (drop (8 * s) xs))
    (spells.spelling ∙ sym (nil (slots_bytes slots)))
    ∙ slot_number s slots [] (omega (arith, spells.count)) spells.fit)
  where
    nil : (xs : List ℕ) → xs ++ [] ≡ xs
    nil [] = refl
    nil (x ∷ xs) = ap (λ (ys : List ℕ). x ∷ ys) (nil xs)

-- ---- reading

byte_at-pow : (k x : ℕ) → byte_at k x ≡ x / 256 ^ k % 256
byte_at-pow zero x = ap (λ (y : ℕ). y % 256) (sym (div-one x))
byte_at-pow (suc k) x = refl

byte_at-next : (j x : ℕ) → byte_at (suc j) x ≡ byte_at j (x / 256)
byte_at-next j x = byte_at-pow (suc j) x ∙ (ap (λ (y : ℕ). y % 256) (shift j) ∙ sym (byte_at-pow j (x / 256)))
  where
    shift : (k : ℕ) → x / 256 ^ suc k ≡ x / 256 / 256 ^ k
    shift k =
        ap (λ (p : ℕ). x / p) (pow-suc 256 k ∙ times (256 ^ k)) ∙ sym (div-div-eq-div-mul x 256 (256 ^ k))
      where
        times : (p : ℕ) → p * 256 ≡ 256 * p
        times p = omega arith

bytes_low_first-next : (j n x : ℕ) → bytes_low_first (suc j) n x ≡ bytes_low_first j n (x / 256)
bytes_low_first-next j zero x = refl
bytes_low_first-next j (suc n) x = both (byte_at-next j x) (bytes_low_first-next (suc j) n x)
  where
    both : {a b : ℕ} {xs ys : List ℕ} → a ≡ b → xs ≡ ys → a ∷ xs ≡ b ∷ ys
    both p q = cc

-- the bytes of a number are those that it was read from
bytes-of_read : (n : ℕ) (xs : List ℕ) → n ≤ length xs → ((i : ℕ) → slice_index xs i < 256)
    → bytes_low_first 0 n (little_number n xs) ≡ take n xs
bytes-of_read zero xs long small = refl
bytes-of_read (suc n) [] long small = absurd (omega arith)
bytes-of_read (suc n) (b ∷ xs) long small =
    let y : ℕ = little_number n xs in
    let whole : little_number (suc n) (b ∷ xs) ≡ b + 256 * y =
    ap (λ (r : ℕ). b + 256 * r) (little_from-cons 0 n b xs) in
    let low : b < 256 = small 0 in
    let first : byte_at 0 (b + 256 * y) ≡ b = byte (b + 256 * y) b (omega arith) in
    let rest : (b + 256 * y) / 256 ≡ y = omega arith in
    ap (bytes_low_first 0 (suc n)) whole
    ∙ both first (bytes_low_first-next 0 n (b + 256 * y)
    ∙ (ap (bytes_low_first 0 n) rest ∙ bytes-of_read n xs (omega arith) (λ i. small (suc i))))
  where
    both : {a c : ℕ} {us vs : List ℕ} → a ≡ c → us ≡ vs → a ∷ us ≡ c ∷ vs
    both p q = cc

    byte : (m c : ℕ) → m % 256 ≡ c → byte_at 0 m ≡ c
    byte m c e = e

-- the slots that are read, once there is one more
pub slots_at-more : (n : ℕ) (bytes : List ℕ)
    → slots_at (n + 1) bytes ≡ slots_at n bytes ++ little_number 8 (drop (8 * n) bytes) ∷ []
slots_at-more zero bytes = refl
slots_at-more (suc n) bytes =
    let n1 : suc n + 1 ≡ suc (n + 1) = omega arith in
    let at : drop (8 * n) (drop 8 bytes) ≡ drop (8 * suc n) bytes =
    drop-drop (8 * n) 8 bytes ∙ ap (λ (k : ℕ). drop k bytes) (omega arith) in
    ap (λ (k : ℕ). slots_at k bytes) n1
    ∙ (ap (λ (ns : List ℕ). little_number 8 bytes ∷ ns) (slots_at-more n (drop 8 bytes))
    ∙ ap (λ (xs : List ℕ). little_number 8 bytes ∷ (slots_at n (drop 8 bytes) ++ little_number 8 xs ∷ [])) at)

pub read_slot : (slots bytes : List ℕ) (k number : ℕ) → k < length slots → take k slots ≡ slots_at k bytes
    → number ≡ little_number 8 (take (length bytes - 8 * k) (drop (8 * k) bytes))
    → take (k + 1) (set slots k number) ≡ slots_at (k + 1) bytes
read_slot slots bytes k number within e t =
    take_more_set slots k number within
    ∙ rw (e, t ∙ ap (little_number 8) (take_rest bytes (8 * k))) (sym (slots_at-more k bytes))

-- whole blocks are spelled by what is read from them
pub slots_at-spelled : (n : ℕ) (bytes : List ℕ) → length bytes ≡ 8 * n → ((i : ℕ) → slice_index bytes i < 256)
    → slots_bytes (slots_at n bytes) ≡ bytes
slots_at-spelled zero [] long small = refl
slots_at-spelled zero (b ∷ bytes) long small = absurd (omega arith)
slots_at-spelled (suc n) bytes long small =
    let first : little_bytes 8 (little_number 8 bytes) ≡ take 8 bytes =
    bytes-of_read 8 bytes (omega arith) small in
    let rest : slots_bytes (slots_at n (drop 8 bytes)) ≡ drop 8 bytes =
    slots_at-spelled n (drop 8 bytes) (simp length-drop (omega arith))
    (λ i. rw (get_or-drop 8 bytes i 0) (small (8 + i))) in
    both first rest ∙ take-append-drop 8 bytes
  where
    both : {a c us vs : List ℕ} → a ≡ c → us ≡ vs → a ++ us ≡ c ++ vs
    both p q = cc

pub slots_at-fit : (n : ℕ) (bytes : List ℕ) → ((i : ℕ) → slice_index bytes i < 256)
    → All (λ number. number < 2 ^ 64) (slots_at n bytes)
slots_at-fit zero bytes small = λ i d l. absurd (omega arith)
slots_at-fit (suc n) bytes small = λ i d l.
    each (slots_at-fit n (drop 8 bytes) (λ j. rw (get_or-drop 8 bytes j 0) (small (8 + j)))) i d l
  where
    each : All (λ number. number < 2 ^ 64) (slots_at n (drop 8 bytes)) → (i d : ℕ)
        → i < length (slots_at (suc n) bytes) → get_or (slots_at (suc n) bytes) i d < 2 ^ 64
    each rest zero d l = little_from-lt 0 8 bytes small
    each rest (suc i) d l = rest i d (omega arith)

pub length-slots_at : (n : ℕ) (bytes : List ℕ) → length (slots_at n bytes) ≡ n
length-slots_at zero bytes = refl
length-slots_at (suc n) bytes = ap suc (length-slots_at n (drop 8 bytes))

-- the slots that a block spells are those that are read
pub slots_at-slots_bytes : (slots : List ℕ) → All (λ number. number < 2 ^ 64) slots
    → slots_at (length slots) (slots_bytes slots) ≡ slots
slots_at-slots_bytes [] fit = refl
slots_at-slots_bytes (n ∷ slots) fit =
    both (little_number-reads_back 8 n (slots_bytes slots) (All-head (λ number. number < 2 ^ 64) n slots fit))
    (slots_at-slots_bytes slots (All-tail (λ number. number < 2 ^ 64) n slots fit))
  where
    both : {a b : ℕ} {xs ys : List ℕ} → a ≡ b → xs ≡ ys → a ∷ xs ≡ b ∷ ys
    both p q = cc

pub slots-Spells : (bytes slots : List ℕ) → Spells bytes slots → slots_at 128 bytes ≡ slots
slots-Spells bytes slots spells =
    ap (slots_at 128) spells.spelling
    ∙ (ap (λ (n : ℕ). slots_at n (slots_bytes slots)) (sym spells.count)
    ∙ slots_at-slots_bytes slots spells.fit)

pub length-Spells : (bytes slots : List ℕ) → Spells bytes slots → length bytes ≡ 1024
length-Spells bytes slots spells =
    omega (arith, ap length spells.spelling, length-slots_bytes slots, spells.count)

-- ---- a chain's node

zeros_have : (n i : ℕ) → slice_index (replicate n 0) i ≡ 0
zeros_have zero i = refl
zeros_have (suc n) zero = refl
zeros_have (suc n) (suc i) = zeros_have n i

-- numbers over a node of zeros, and the next node's behind them
pub chain_slots : (numbers ys zs : List ℕ) (z next s : ℕ) → ys ≡ numbers → zs ≡ replicate 128 z → z ≡ 0
    → length numbers ≤ 127 → s < 127
    → slice_index (set (ys ++ drop (length numbers) zs) 127 next) s ≡ slice_index numbers s
chain_slots numbers ys zs z next s copied blank none few within =
    get_or-set_other (ys ++ drop (length numbers) zs) 127 s next 0 (omega arith)
    ∙ (ap (λ (xs : List ℕ). slice_index (xs ++ drop (length numbers) zs) s) copied
    ∙ elim (cases_lt s (length numbers)) [
      | inl h ↦ get_or_append_left numbers (drop (length numbers) zs) 0 s h
      | inr h ↦ get_or-append_right numbers (drop (length numbers) zs) (length numbers) s 0 refl h
          ∙ (get_or-drop (length numbers) zs (s - length numbers) 0
          ∙ (ap (λ (xs : List ℕ). slice_index xs (length numbers + (s - length numbers)))
          (blank ∙ ap (replicate 128) none)
          ∙ (zeros_have 128 (length numbers + (s - length numbers)) ∙ sym (get_or_past numbers s 0 h))))
    ])
