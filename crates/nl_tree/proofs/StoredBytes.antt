-- Blocks that are written or cut hold the bytes that a write or a truncation makes.
use Rattle.std.proofs.Common.{◌≡◌, ℕ, ◌+◌, ◌-◌, ◌<◌, ◌≤◌, cond, List, ◌++◌, length, get_or, take, drop, replicate, sym, ap, ◌∙◌, ⊎_elim, arith}
use Rattle.std.specs.Prelude.{max, nat_lt}
use Rattle.std.proofs.lemmas.List.{get_or_append_left, get_or_past, get_or-take, get_or-drop, get_or-append_right, length-append, length-take, length-drop, length-replicate, ext_get_or}
use Rattle.std.proofs.lemmas.List.FromFn.{get_or-map-range_with_len, length-map-range_with_len}
use Rattle.std.proofs.lemmas.Bool.{cases_lt}
use Rattle.std.proofs.lemmas.Bool.Decides.{nat_tests}
use Rattle.nl_types.specs.Plain.Calls.{overwritten, resized}
use Rattle.nl_types.specs.Blocks.Roots.{Blocks}
use Rattle.nl_tree.specs.Held.{byte_stored, bytes_stored}
use Rattle.nl_tree.specs.Bytes.{Overwrites, Resizes, byte_written}
use Rattle.nl_tree.specs.Facts.PageBytes.{written_above, written_below, written_in, zero_at}

-- ---- what a list of stored bytes has

pub length-stored : (blocks : Blocks) (size : ℕ) → length (bytes_stored blocks size) ≡ size
length-stored blocks size = length-map-range_with_len (byte_stored blocks) 0 size

-- zeros behind the end
abbrev pub EndsIn0 : Blocks → ℕ → Type 0
EndsIn0 blocks size = (k : ℕ) → size ≤ k → byte_stored blocks k ≡ 0

pub get_or-stored : (blocks : Blocks) (size : ℕ) → EndsIn0 blocks size → (k : ℕ)
    → get_or (bytes_stored blocks size) k 0 ≡ byte_stored blocks k
get_or-stored blocks size ends k = ⊎_elim
    (λ low. get_or-map-range_with_len (byte_stored blocks) 0 size k k 0 low (omega arith))
    (λ past.
    get_or_past (bytes_stored blocks size) k 0 (omega (arith, past, length-stored blocks size))
    ∙ sym (ends k past))
    (cases_lt k size)

-- ---- a write

front_length : (old : List ℕ) (offset : ℕ)
    → length (take offset old ++ replicate (offset - length old) 0) ≡ offset
front_length old offset = simp (length-append, length-take, length-replicate) (omega arith)

-- before the offset stands the old byte, or a zero past the old end
front_get : (old : List ℕ) (offset i : ℕ) → i < offset
    → get_or (take offset old ++ replicate (offset - length old) 0) i 0 ≡ get_or old i 0
front_get old offset i low = ⊎_elim
    (λ within.
    get_or_append_left (take offset old) (replicate (offset - length old) 0) 0 i
    (omega (arith, length-take offset old))
    ∙ get_or-take offset old i 0 low)
    (λ past.
    let short : length (take offset old) ≡ length old = omega (arith, length-take offset old) in
    get_or-append_right (take offset old) (replicate (offset - length old) 0) (length old) i 0 short past
    ∙ zero_at (offset - length old) (i - length old) ∙ sym (get_or_past old i 0 past))
    (cases_lt i (length old))

get_or-overwritten : (old : List ℕ) (offset : ℕ) (bytes : List ℕ) (i : ℕ)
    → get_or (overwritten old offset bytes) i 0 ≡ byte_written bytes offset i (get_or old i 0)
get_or-overwritten old offset bytes i =
    let front = take offset old ++ replicate (offset - length old) 0 in
    let both : length (front ++ bytes) ≡ offset + length bytes =
    length-append front bytes ∙ ap (λ n. n + length bytes) (front_length old offset) in
    ⊎_elim
    (λ low.
    get_or_append_left (front ++ bytes) (drop (offset + length bytes) old) 0 i (omega (arith, both))
    ∙ get_or_append_left front bytes 0 i (omega (arith, front_length old offset))
    ∙ front_get old offset i low
    ∙ sym (written_below bytes offset i (get_or old i 0) low))
    (λ high. ⊎_elim
    (λ within.
    get_or_append_left (front ++ bytes) (drop (offset + length bytes) old) 0 i (omega (arith, both))
    ∙ get_or-append_right front bytes offset i 0 (front_length old offset) high
    ∙ sym (written_in bytes offset i (get_or old i 0) high within))
    (λ above.
    let same : offset + length bytes + (i - (offset + length bytes)) ≡ i = omega arith in
    get_or-append_right (front ++ bytes) (drop (offset + length bytes) old)
    (offset + length bytes) i 0 both above
    ∙ get_or-drop (offset + length bytes) old (i - (offset + length bytes)) 0
    ∙ ap (λ k. get_or old k 0) same
    ∙ sym (written_above bytes offset i (get_or old i 0) above))
    (cases_lt i (offset + length bytes)))
    (cases_lt i offset)

length-overwritten : (old : List ℕ) (offset : ℕ) (bytes : List ℕ)
    → length (overwritten old offset bytes) ≡ max (length old) (offset + length bytes)
length-overwritten old offset bytes =
    let front = take offset old ++ replicate (offset - length old) 0 in
    length-append (front ++ bytes) (drop (offset + length bytes) old)
    ∙ omega
    (arith, length-append front bytes, front_length old offset, length-drop (offset + length bytes) old)

-- zeros stay behind the end
pub overwrites-end : (blocks new : Blocks) (size offset : ℕ) (bytes : List ℕ) → EndsIn0 blocks size
    → Overwrites blocks new offset bytes → EndsIn0 new (max size (offset + length bytes))
overwrites-end blocks new size offset bytes ends is k past =
    is.bytes_at k ∙ written_above bytes offset k (byte_stored blocks k) (omega (arith, past))
    ∙ ends k (omega (arith, past))

pub overwritten-stored : (blocks new : Blocks) (size offset : ℕ) (bytes : List ℕ) → EndsIn0 blocks size
    → Overwrites blocks new offset bytes
    → overwritten (bytes_stored blocks size) offset bytes
    ≡ bytes_stored new (max size (offset + length bytes))
overwritten-stored blocks new size offset bytes ends is =
    ext_get_or 0 (overwritten (bytes_stored blocks size) offset bytes)
    (bytes_stored new (max size (offset + length bytes)))
    (length-overwritten (bytes_stored blocks size) offset bytes
    ∙ ap (λ n. max n (offset + length bytes)) (length-stored blocks size)
    ∙ sym (length-stored new (max size (offset + length bytes))))
    (λ k _. get_or-overwritten (bytes_stored blocks size) offset bytes k
    ∙ ap (byte_written bytes offset k) (get_or-stored blocks size ends k)
    ∙ sym (is.bytes_at k)
    ∙ sym (get_or-stored new (max size (offset + length bytes))
    (overwrites-end blocks new size offset bytes ends is) k))

-- ---- a truncation

get_or-resized : (old : List ℕ) (size i : ℕ) → i < size → get_or (resized old size) i 0 ≡ get_or old i 0
get_or-resized old size i low = front_get old size i low

length-resized : (old : List ℕ) (size : ℕ) → length (resized old size) ≡ size
length-resized old size = front_length old size

below_size : (size k old : ℕ) → k < size → cond (nat_lt k size) old 0 ≡ old
below_size size k old low = grind (arith, nat_tests)

past_size : (size k old : ℕ) → size ≤ k → cond (nat_lt k size) old 0 ≡ 0
past_size size k old past = grind (arith, nat_tests)

pub resizes-end : (blocks new : Blocks) (size : ℕ) → Resizes blocks new size → EndsIn0 new size
resizes-end blocks new size is k past = is.bytes_at k ∙ past_size size k (byte_stored blocks k) past

pub resized-stored : (blocks new : Blocks) (old size : ℕ) → EndsIn0 blocks old → Resizes blocks new size
    → resized (bytes_stored blocks old) size ≡ bytes_stored new size
resized-stored blocks new old size ends is =
    ext_get_or 0 (resized (bytes_stored blocks old) size) (bytes_stored new size)
    (length-resized (bytes_stored blocks old) size ∙ sym (length-stored new size))
    (λ k low. let below : k < size = omega (arith, low, length-resized (bytes_stored blocks old) size) in
    get_or-resized (bytes_stored blocks old) size k below
    ∙ get_or-stored blocks old ends k
    ∙ sym (is.bytes_at k ∙ below_size size k (byte_stored blocks k) below)
    ∙ sym (get_or-stored new size (resizes-end blocks new size is) k))
