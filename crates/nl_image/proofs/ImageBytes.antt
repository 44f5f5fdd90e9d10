-- An image is its parts, one after the other.
use Rattle.std.proofs.Common.{◌≡◌, ◌∙◌, ℕ, ◌+◌, ◌*◌, List, ◌++◌, ap, append_assoc, arith, drop, length, length-drop, sym, take}
use Rattle.std.proofs.lemmas.List.{drop-drop, take-append-drop, take_all}
use Rattle.nl_layout.specs.declared.superblock.Superblock.{Superblock}
use Rattle.nl_layout.specs.Superblock.{superblock_bytes}
use Rattle.nl_image.specs.Conditions.{HasCheckpoints, HasNumbers, HasSegments, HasZeros, IsDivided}
use Rattle.nl_image.specs.Laws.{ImagesAreSpelled}
use Rattle.nl_image.specs.Parts.{blocks_in, blocks_start, bytes_from, cpfile_start, dat_start, padding_of, padding_start, sufile_start, total_of}

-- what stands from a byte on is the next part, and what stands behind it
cut : (bytes : List ℕ) (first count : ℕ)
    → drop first bytes ≡ bytes_from first count bytes ++ drop (first + count) bytes
cut bytes first count =
    sym (take-append-drop count (drop first bytes))
    ∙ ap (λ rest. take count (drop first bytes) ++ rest) (drop-drop count first bytes)

-- a part with its spelling, in front of what stands behind it
next : (bytes part : List ℕ) (first count : ℕ) → bytes_from first count bytes ≡ part
    → drop first bytes ≡ part ++ drop (first + count) bytes
next bytes part first count is = cut bytes first count ∙ ap (λ p. p ++ drop (first + count) bytes) is

-- what stands at the end, where it is as long as this
last : (bytes : List ℕ) (first count : ℕ) → length bytes ≡ first + count
    → drop first bytes ≡ bytes_from first count bytes
last bytes first count long = sym (take_all count (drop first bytes) (omega (arith, length-drop first bytes)))

-- six parts, one after the other
assembled : (bytes head segments numbers kept padding blocks behind-head behind-segments behind-numbers
    behind-kept behind-padding : List ℕ)
    → bytes ≡ head ++ behind-head
    → behind-head ≡ segments ++ behind-segments
    → behind-segments ≡ numbers ++ behind-numbers
    → behind-numbers ≡ kept ++ behind-kept
    → behind-kept ≡ padding ++ behind-padding
    → behind-padding ≡ blocks
    → bytes ≡ head ++ (segments ++ numbers ++ kept) ++ padding ++ blocks
assembled bytes head segments numbers kept padding blocks behind-head behind-segments behind-numbers
    behind-kept behind-padding a b c d e f =
    rw (a, b, c, d, e, f) (simp append_assoc)

pub images_are_spelled : ImagesAreSpelled
images_are_spelled bytes p m =
    let s : Superblock = p.shape in
    let divided : IsDivided bytes p = m.1.0 in
    let segments : HasSegments bytes p = m.1.1.1.0 in
    let checkpoints : HasCheckpoints bytes p = m.1.1.1.1.0 in
    let numbers : HasNumbers bytes p = m.1.1.1.1.1.0 in
    let zeros : HasZeros bytes p = m.1.1.1.1.1.1.1.1.1.1.0 in
    assembled bytes (superblock_bytes s) _ _ _ _ (blocks_in s bytes) _ _ _ _ _
    (next bytes (superblock_bytes s) 0 1024 divided.spelled.spelling)
    (next bytes _ sufile_start (16 * s.segments) segments.told.spelled)
    (next bytes _ (dat_start s) (24 * total_of s) numbers.spelled)
    (next bytes _ (cpfile_start s) (160 * s.checkpoints) checkpoints.spelled)
    (next bytes _ (padding_start s) (padding_of s) zeros.padding)
    (last bytes (blocks_start s) (1024 * total_of s) m.1.1.0)
