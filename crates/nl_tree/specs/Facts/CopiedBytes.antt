-- Bytes of a file's blocks that are copied into a part of a slice.
use Rattle.std.proofs.Common.{◌≡◌, ℕ, ◌+◌, ◌-◌, ◌/◌, ◌<◌, ◌≤◌, inl, inr, Option, List, length, take, drop, slice_index, refl, ap, ◌∙◌, arith}
use Rattle.std.specs.Prelude.{◌%◌}
use Rattle.std.proofs.lemmas.Bool.{cases_lt}
use Rattle.std.proofs.lemmas.List.{length-drop, length-take}
use borrow.Rule.Slice.PartMut.{put_mid}
use Rattle.nl_types.specs.Blocks.Roots.{Blocks}
use Rattle.nl_tree.specs.Contents.{byte_in}
use Rattle.nl_tree.specs.Bytes.{byte_over, byte_written}
use Rattle.nl_tree.specs.Held.{byte_stored}
use Rattle.nl_tree.specs.Facts.PageBytes.{length-put, overwrote, part_get, written_above, written_below, written_in}

-- bytes up to the end of a block lie in it
same_block : (offset done count k : ℕ) → count ≤ 1024 - (offset + done) % 1024 → done ≤ k → k < done + count
    → (offset + done) / 1024 ≡ (offset + k) / 1024
same_block offset done count k short low high = omega (arith, short, low, high)

within_block : (offset done count k : ℕ) → count ≤ 1024 - (offset + done) % 1024 → done ≤ k → k < done + count
    → (offset + done) % 1024 + (k - done) ≡ (offset + k) % 1024
within_block offset done count k short low high = omega (arith, short, low, high)

module _ (into part : List ℕ) (done count : ℕ) (room : done + count ≤ length into)
    (long : length part ≡ length (take (done + count - done) (drop done into))) where
  as_long : length part ≡ count
  as_long =
      long ∙ omega (arith, room, length-take (done + count - done) (drop done into), length-drop done into)

  put_at : (k : ℕ)
      → slice_index (put_mid done (done + count - done) into part) k
      ≡ byte_written part done k (slice_index into k)
  put_at k =
      overwrote into done (done + count - done) k refl (omega (arith, room, as_long))
      (omega (arith, as_long)) refl

  pub put_fits : done + count ≤ length (put_mid done (done + count - done) into part)
  put_fits =
      omega (
        arith,
        room,
        length-put done (done + count - done) into part (omega (arith, room)) (omega (arith, as_long)),
      )

  put_below : (k : ℕ) → k < done
      → slice_index (put_mid done (done + count - done) into part) k ≡ slice_index into k
  put_below k low = put_at k ∙ written_below part done k (slice_index into k) low

  pub put_behind : (k : ℕ) → done + count ≤ k
      → slice_index (put_mid done (done + count - done) into part) k ≡ slice_index into k
  put_behind k high = put_at k ∙ written_above part done k (slice_index into k) (omega (arith, high, as_long))

  put_within : (k : ℕ) → done ≤ k → k < done + count
      → slice_index (put_mid done (done + count - done) into part) k ≡ slice_index part (k - done)
  put_within k low high =
      put_at k ∙ written_in part done k (slice_index into k) low (omega (arith, high, as_long))

  in_part : (k : ℕ) → done ≤ k → k < done + count → k - done < length part
  in_part k low high = omega (arith, low, high, as_long)

  part_was : (k : ℕ) → done ≤ k → k < done + count
      → slice_index (take (done + count - done) (drop done into)) (k - done) ≡ slice_index into k
  part_was k low high =
      part_get into done (done + count - done) (k - done) (omega (arith, low, high))
      ∙ ap (λ (n : ℕ). slice_index into n) (omega (arith, low))

  module _ (pages : Blocks) (page : Option (List ℕ)) (offset : ℕ)
      (short : count ≤ 1024 - (offset + done) % 1024) (is : page ≡ pages ((offset + done) / 1024)) where
    page_is : (k : ℕ) → done ≤ k → k < done + count → page ≡ pages ((offset + k) / 1024)
    page_is k low high = is ∙ ap pages (same_block offset done count k short low high)

    -- the bytes of one more block are copied
    pub more_copied : ((k : ℕ) → k < length part
        → slice_index part k ≡ byte_in page ((offset + done) % 1024 + k))
        → ((k : ℕ) → k < done → slice_index into k ≡ byte_stored pages (offset + k))
        → (k : ℕ) → k < done + count
        → slice_index (put_mid done (done + count - done) into part) k ≡ byte_stored pages (offset + k)
    more_copied copy copied k high = elim (cases_lt k done) [
      | inl l ↦ put_below k l ∙ copied k l
      | inr r ↦
          put_within k r high
          ∙ copy (k - done) (in_part k r high)
          ∙ ap (λ (p : Option (List ℕ)). byte_in p ((offset + done) % 1024 + (k - done))) (page_is k r high)
          ∙ ap (λ (n : ℕ). byte_in (pages ((offset + k) / 1024)) n)
          (within_block offset done count k short r high)
    ]

    -- those of one more page are copied over
    pub more_copied_over : (first : List ℕ)
        → ((k : ℕ) → k < length part → slice_index part k ≡
        byte_over page ((offset + done) % 1024 + k)
        (slice_index (take (done + count - done) (drop done into)) k))
        → ((k : ℕ) → k < done
        → slice_index into k
        ≡ byte_over (pages ((offset + k) / 1024)) ((offset + k) % 1024) (slice_index first k))
        → ((k : ℕ) → done ≤ k → slice_index into k ≡ slice_index first k)
        → (k : ℕ) → k < done + count → slice_index (put_mid done (done + count - done) into part) k ≡
        byte_over (pages ((offset + k) / 1024)) ((offset + k) % 1024) (slice_index first k)
    more_copied_over first copy copied behind k high = elim (cases_lt k done) [
      | inl l ↦ put_below k l ∙ copied k l
      | inr r ↦
          put_within k r high
          ∙ copy (k - done) (in_part k r high)
          ∙ ap (λ (p : Option (List ℕ)).
          byte_over p ((offset + done) % 1024 + (k - done))
          (slice_index (take (done + count - done) (drop done into)) (k - done)))
          (page_is k r high)
          ∙ ap (λ (n : ℕ).
          byte_over (pages ((offset + k) / 1024)) n
          (slice_index (take (done + count - done) (drop done into)) (k - done)))
          (within_block offset done count k short r high)
          ∙ ap (λ (old : ℕ). byte_over (pages ((offset + k) / 1024)) ((offset + k) % 1024) old)
          (part_was k r high ∙ behind k r)
    ]
