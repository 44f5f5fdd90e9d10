-- The fields of an entry of the table that was written.
use Rattle.std.proofs.Common.{◌≡◌, ℕ, zero, suc, ◌<◌, ◌^◌, List, [], drop, false, Option, None, Some, refl, ap, ◌∙◌, arith}
use Rattle.std.specs.Prelude.{◌==◌, unwrap_or}
use Rattle.byteorder.specs.Endian.{little_number}
use Rattle.byteorder.specs.Numbers.{little_number-reads_back}
use Rattle.nl_types.specs.Plain.Limits.{checkpoint_number_limit}
use Rattle.nl_dat.specs.declared.entries.DatEntry.{DatEntry}
use Rattle.nl_dat.specs.EntryBytes.{NumberHasSpelling, HasSpelling, Spells, end_at, entry_with, entry_of_bytes, number_bytes}

end_at-written : (end : Option ℕ) → ((c : ℕ) → end ≡ Some c → c < checkpoint_number_limit)
    → end_at (unwrap_or end checkpoint_number_limit) ≡ end
end_at-written None low = refl
end_at-written (Some c) low = by_test (other c (low c refl))
  where
    other : (c : ℕ) → c < checkpoint_number_limit → (c == checkpoint_number_limit) ≡ false
    other c low = grind (arith)

    by_test : (c == checkpoint_number_limit) ≡ false → end_at c ≡ Some c
    by_test e = rw e refl

end_small : (end : Option ℕ) → ((c : ℕ) → end ≡ Some c → c < checkpoint_number_limit)
    → unwrap_or end checkpoint_number_limit < 2 ^ 64
end_small None low = omega arith
end_small (Some c) low = let l = low c refl in omega (arith, l)

same_entry : (e : DatEntry) (b n : ℕ) (end : Option ℕ) → b ≡ e.block → n ≡ e.start → end ≡ e.end
    → (let f : DatEntry = record { block = b; start = n; end = end } in f) ≡ e
same_entry e b n end p q r = rw (p, q, r) refl

entry_with-written : (e : DatEntry) → NumberHasSpelling e → (start : ℕ) → start ≡ e.start
    → entry_with start (number_bytes (Some e)) ≡ Some e
entry_with-written e fits zero is = absurd (omega (arith, is, fits.begins))
entry_with-written e fits (suc before) is =
    let bytes : List ℕ = number_bytes (Some e) in
    let block : little_number 4 bytes ≡ e.block =
    little_number-reads_back 4 e.block (drop 4 bytes) fits.block in
    let last : little_number 8 (drop 16 bytes) ≡ unwrap_or e.end checkpoint_number_limit =
    little_number-reads_back 8 (unwrap_or e.end checkpoint_number_limit) [] (end_small e.end fits.end) in
    ap (λ (f : DatEntry). Some f)
    (same_entry e _ _ _ block is (ap end_at last ∙ end_at-written e.end fits.end))

number_at-written : (entry : Option DatEntry) → HasSpelling entry
    → entry_of_bytes (number_bytes entry) ≡ entry
number_at-written None fits = refl
number_at-written (Some e) fits =
    let bytes : List ℕ = number_bytes (Some e) in
    entry_with-written e fits (little_number 8 (drop 8 bytes))
    (little_number-reads_back 8 e.start (drop 16 bytes) fits.start)

-- the fields of a place are those of what it spells
pub number_at-Spells : (bytes : List ℕ) (entry : Option DatEntry) → Spells bytes entry
    → entry_of_bytes bytes ≡ entry
number_at-Spells bytes entry spells = ap entry_of_bytes spells.spelling ∙ number_at-written entry spells.fits
