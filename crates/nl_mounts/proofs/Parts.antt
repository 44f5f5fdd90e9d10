-- Bytes that are read part by part.
use Rattle.std.proofs.Common.{◌≡◌, ℕ, ◌+◌, ◌-◌, ◌/◌, ◌<◌, ◌≤◌, inl, inr, List, length, take, drop, slice_index, Option, Some, refl, sym, ap, ◌∙◌, subst, arith}
use Rattle.std.specs.Prelude.{◌%◌, min}
use Rattle.std.proofs.lemmas.Bool.{cases_lt}
use Rattle.std.proofs.lemmas.List.{length-drop, length-take}
use borrow.Rule.Slice.PartMut.{put_mid}
use Rattle.nl_types.specs.Blocks.Roots.{Blocks}
use Rattle.nl_tree.specs.Bytes.{byte_written}
use Rattle.nl_tree.specs.Contents.{byte_in}
use Rattle.nl_tree.specs.Held.{byte_stored}
use Rattle.nl_tree.specs.Reading.{AreBytesFrom}
use Rattle.nl_tree.specs.Facts.PageBytes.{overwrote, written_above, written_below, written_in}
use Rattle.nl_mounts.specs.Warming.{AreReadFrom, AreReadUpTo}

-- one part more
pub more_read : (into part : List ℕ) (from to : ℕ) → from ≤ to → to ≤ length into
    → length part ≡ length (take (to - from) (drop from into))
    → (blocks : Blocks) (offset : ℕ) → AreBytesFrom blocks (offset + from) part
    → AreReadUpTo from blocks offset into
    → AreReadUpTo to blocks offset (put_mid from (to - from) into part)
more_read into part from to order room long blocks offset read were k high =
    let as_long : length part ≡ to - from =
    long ∙ omega (arith, order, room, length-take (to - from) (drop from into), length-drop from into) in
    let put_at : slice_index (put_mid from (to - from) into part) k
    ≡ byte_written part from k (slice_index into k) =
    overwrote into from (to - from) k refl (omega (arith, order, room, as_long))
    (omega (arith, as_long)) refl in
    elim (cases_lt k from) [
      | inl l ↦ put_at ∙ (written_below part from k (slice_index into k) l ∙ were k l)
      | inr r ↦
          put_at
          ∙ (written_in part from k (slice_index into k) r (omega (arith, high, as_long))
          ∙ (read (k - from) (omega (arith, r, high, as_long))
          ∙ ap (byte_stored blocks) (omega (arith, r))))
    ]

-- bytes of a page are those of its block
pub of_page : (blocks : Blocks) (offset : ℕ) (page part : List ℕ) → blocks (offset / 1024) ≡ Some page
    → offset % 1024 + length part ≤ 1024
    → ((k : ℕ) → k < length part → slice_index part k ≡ slice_index page (offset % 1024 + k))
    → AreBytesFrom blocks offset part
of_page blocks offset page part is short copied k low =
    let block : offset / 1024 ≡ (offset + k) / 1024 = omega (arith, short, low) in
    let place : offset % 1024 + k ≡ (offset + k) % 1024 = omega (arith, short, low) in
    copied k low
    ∙ (ap (λ (n : ℕ). slice_index page n) place
    ∙ ap (λ (p : Option (List ℕ)). byte_in p ((offset + k) % 1024)) (sym is ∙ ap blocks block))

-- one block more, of its page
pub more_of_page : (into part : List ℕ) (from to : ℕ) → from ≤ to → to ≤ length into
    → length part ≡ length (take (to - from) (drop from into))
    → (blocks : Blocks) (offset : ℕ) (page : List ℕ) → to ≤ from + (1024 - (offset + from) % 1024)
    → blocks ((offset + from) / 1024) ≡ Some page
    → ((k : ℕ) → k < length part → slice_index part k ≡ slice_index page ((offset + from) % 1024 + k))
    → AreReadUpTo from blocks offset into
    → AreReadUpTo to blocks offset (put_mid from (to - from) into part)
more_of_page into part from to order room long blocks offset page short is copied were =
    let as_long : length part ≡ to - from =
    long ∙ omega (arith, order, room, length-take (to - from) (drop from into), length-drop from into) in
    more_read into part from to order room long blocks offset
    (of_page blocks (offset + from) page part is (omega (arith, order, short, as_long)) copied) were

-- one block more, of its page, before those that are read
pub more_before : (into part : List ℕ) (from to count : ℕ) → from ≤ to → to ≤ length into
    → count ≤ length into
    → length part ≡ length (take (to - from) (drop from into))
    → (blocks : Blocks) (offset : ℕ) → AreBytesFrom blocks (offset + from) part
    → AreReadFrom to count blocks offset into
    → AreReadFrom from count blocks offset (put_mid from (to - from) into part)
more_before into part from to count order room low long blocks offset read were k above high =
    let as_long : length part ≡ to - from =
    long ∙ omega (arith, order, room, length-take (to - from) (drop from into), length-drop from into) in
    let put_at : slice_index (put_mid from (to - from) into part) k
    ≡ byte_written part from k (slice_index into k) =
    overwrote into from (to - from) k refl (omega (arith, order, room, as_long))
    (omega (arith, as_long)) refl in
    elim (cases_lt k to) [
      | inl l ↦
          put_at
          ∙ (written_in part from k (slice_index into k) above (omega (arith, l, order, as_long))
          ∙ (read (k - from) (omega (arith, above, l, as_long))
          ∙ ap (byte_stored blocks) (omega (arith, above))))
      | inr r ↦
          put_at
          ∙ (written_above part from k (slice_index into k) (omega (arith, r, order, as_long))
          ∙ were k r high)
    ]

-- ---- from the last block on

-- so many of the bytes lie in the block in which the last of them lies
abbrev pub IsLastPart : (offset left count : ℕ) → Type 0
IsLastPart offset left count = count ≡ min left ((offset + (left - 1)) % 1024 + 1)

pub last_of_page : (blocks : Blocks) (offset left count : ℕ) (page part : List ℕ) → 0 < left
    → IsLastPart offset left count → blocks ((offset + (left - 1)) / 1024) ≡ Some page
    → length part ≡ count
    → ((k : ℕ) → k < length part
    → slice_index part k ≡ slice_index page ((offset + (left - 1)) % 1024 + 1 - count + k))
    → AreBytesFrom blocks (offset + (left - count)) part
last_of_page blocks offset left count page part some is_part is long copied =
    let block : (offset + (left - 1)) / 1024 ≡ (offset + (left - count)) / 1024 =
    omega (arith, some, is_part) in
    of_page blocks (offset + (left - count)) page part (subst (λ (m : ℕ). blocks m ≡ Some page) block is)
    (omega (arith, some, is_part, long))
    (λ k low. copied k low ∙ ap (λ (m : ℕ). slice_index page m) (omega (arith, some, is_part, low, long)))
