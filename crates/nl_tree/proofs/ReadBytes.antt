-- Bytes of a file that are read from its checkpoint, then filled with zeros, then copied over.
use Rattle.std.proofs.Common.{◌≡◌, ℕ, ◌+◌, ◌-◌, ◌/◌, ◌<◌, ◌≤◌, inl, inr, cond, Option, Some, None, List, ◌++◌, length, take, drop, replicate, slice_index, refl, sym, ap, ◌∙◌, arith}
use Rattle.std.specs.Prelude.{◌%◌, nat_lt}
use Rattle.std.specs.Option.{option_or}
use Rattle.std.proofs.lemmas.Bool.{cases_lt}
use Rattle.std.proofs.lemmas.Bool.Decides.{nat_tests}
use Rattle.std.proofs.lemmas.List.{get_or_append_left, length-append, length-drop, length-replicate, length-take}
use borrow.Rule.Slice.PartMut.{put_mid}
use Rattle.nl_types.specs.Blocks.Roots.{Blocks}
use Rattle.nl_tree.specs.Contents.{byte_in}
use Rattle.nl_tree.specs.Bytes.{AreBytesOver, byte_over}
use Rattle.nl_tree.specs.Held.{byte_stored}
use Rattle.nl_tree.specs.Reading.{AreBytesFrom}
use Rattle.nl_tree.specs.Facts.PageBytes.{length-put, overwrote, written_below, written_in, zero_at}

over_block : (new old : Option (List ℕ)) (k x : ℕ) → x ≡ byte_in old k
    → byte_over new k x ≡ byte_in (option_or new old) k
over_block None old k x is = is
over_block (Some page) old k x is = refl

shown_below : (i cut : ℕ) (block : Option (List ℕ)) → i < cut → cond (nat_lt i cut) block None ≡ block
shown_below i cut block low = grind (arith, nat_tests)

hidden_past : (i cut : ℕ) (block : Option (List ℕ)) → cut ≤ i → cond (nat_lt i cut) block None ≡ None
hidden_past i cut block past = grind (arith, nat_tests)

module _ (first read fill : List ℕ) (count : ℕ) (room : count ≤ length first)
    (long : length read ≡ length (take count first))
    (zeros : fill
    ≡ replicate
    (length (take (length (read ++ drop count first) - count) (drop count (read ++ drop count first))))
    0) where
  read_long : length read ≡ count
  read_long = long ∙ omega (arith, room, length-take count first)

  both_long : length (read ++ drop count first) ≡ length first
  both_long = length-append read (drop count first) ∙ omega (arith, room, read_long, length-drop count first)

  fill_long : length fill ≡ length (read ++ drop count first) - count
  fill_long =
      ap length zeros
      ∙ length-replicate {A = ℕ}
      (length (take (length (read ++ drop count first) - count) (drop count (read ++ drop count first)))) 0
      ∙ omega (
        arith,
        length-take (length (read ++ drop count first) - count) (drop count (read ++ drop count first)),
        length-drop count (read ++ drop count first),
      )

  filled_long : length
      (put_mid count (length (read ++ drop count first) - count) (read ++ drop count first) fill)
      ≡ length first
  filled_long =
      length-put count (length (read ++ drop count first) - count) (read ++ drop count first) fill
      (omega (arith, room, both_long)) fill_long
      ∙ both_long

  filled_below : (k : ℕ) → k < count
      → slice_index
      (put_mid count (length (read ++ drop count first) - count) (read ++ drop count first) fill) k
      ≡ slice_index read k
  filled_below k low =
      overwrote (read ++ drop count first) count (length (read ++ drop count first) - count) k refl
      (omega (arith, room, both_long, fill_long)) (sym fill_long) refl
      ∙ written_below fill count k (slice_index (read ++ drop count first) k) low
      ∙ get_or_append_left read (drop count first) 0 k (omega (arith, low, read_long))

  filled_past : (k : ℕ) → count ≤ k → k < length first
      → slice_index
      (put_mid count (length (read ++ drop count first) - count) (read ++ drop count first) fill) k
      ≡ 0
  filled_past k past high =
      overwrote (read ++ drop count first) count (length (read ++ drop count first) - count) k refl
      (omega (arith, room, both_long, fill_long)) (sym fill_long) refl
      ∙ written_in fill count k (slice_index (read ++ drop count first) k) past
      (omega (arith, past, high, both_long, fill_long))
      ∙ ap (λ (f : List ℕ). slice_index f (k - count)) zeros
      ∙ zero_at
      (length (take (length (read ++ drop count first) - count) (drop count (read ++ drop count first))))
      (k - count)

  pub read_over : (old new : Blocks) (cut offset : ℕ) (bytes : List ℕ)
      → length bytes
      ≡ length (put_mid count (length (read ++ drop count first) - count) (read ++ drop count first) fill)
      → ((k : ℕ) → k < count → (offset + k) / 1024 < cut)
      → ((k : ℕ) → count ≤ k → k < length first → cut ≤ (offset + k) / 1024)
      → ((k : ℕ) → k < length read → slice_index read k ≡ byte_stored old (offset + k))
      → AreBytesOver new offset
      (put_mid count (length (read ++ drop count first) - count) (read ++ drop count first) fill) bytes
      → AreBytesFrom (λ b. option_or (new b) (cond (nat_lt b cut) (old b) None)) offset bytes
  read_over old new cut offset bytes same below past reads copied k high =
      copied k high
      ∙ over_block (new ((offset + k) / 1024))
      (cond (nat_lt ((offset + k) / 1024) cut) (old ((offset + k) / 1024)) None) ((offset + k) % 1024) _
      (elim (cases_lt k count) [
        | inl l ↦
            filled_below k l
            ∙ reads k (omega (arith, l, read_long))
            ∙ sym (ap (λ (b : Option (List ℕ)). byte_in b ((offset + k) % 1024))
            (shown_below ((offset + k) / 1024) cut (old ((offset + k) / 1024)) (below k l)))
        | inr r ↦
            filled_past k r (omega (arith, high, same, filled_long))
            ∙ sym (ap (λ (b : Option (List ℕ)). byte_in b ((offset + k) % 1024))
            (hidden_past ((offset + k) / 1024) cut (old ((offset + k) / 1024))
            (past k r (omega (arith, high, same, filled_long)))))
      ])
