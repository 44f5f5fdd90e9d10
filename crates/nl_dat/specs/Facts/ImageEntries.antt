-- The entries of the numbers in an image, and the table that they tell.
use Rattle.std.proofs.Common.{◌≡◌, ℕ, zero, suc, ◌+◌, ◌*◌, ◌<◌, List, [], ◌∷◌, ◌++◌, length, get_or, take, drop, Option, None, Some, refl, ap, sym, ◌∙◌, subst, arith, inl, inr}
use Rattle.std.specs.List.{All}
use Rattle.std.specs.Option.{IfSome, option_map}
use Rattle.std.proofs.lemmas.Bool.{cases_lt}
use Rattle.std.proofs.lemmas.List.{get_or_past, take_more}
use Rattle.std.proofs.lemmas.List.Elements.{All-from_get_or}
use Rattle.nl_types.specs.Blocks.Segments.{Segments, IsUsed, total_blocks}
use Rattle.nl_types.specs.Facts.EqualPieces.{HaveWidth, piece_at}
use Rattle.nl_types.specs.Facts.UsedParts.{used_inside}
use Rattle.nl_sufile.specs.Table.{IsSegTable}
use Rattle.nl_dat.specs.declared.entries.DatEntry.{DatEntry}
use Rattle.nl_dat.specs.EntryBytes.{number_bytes}
use Rattle.nl_dat.specs.Images.{AreEntriesOf, IsDatOf, IsEntry, IsEntryAt, IsSoundNumber, IsTableOver, entry_told, table_of}
use Rattle.nl_dat.specs.Table.{addresses_of, block_of}
use Rattle.nl_dat.specs.TakenOut.{HaveOwnBlocks}

pub entry_width : HaveWidth number_bytes 24
entry_width None = refl
entry_width (Some e) = refl

-- each entry stands in its place
pub entry_in_place : (s : Segments) (latest : ℕ) (bytes : List ℕ) (numbers : List (Option DatEntry)) (i : ℕ)
    → AreEntriesOf s latest bytes numbers → i < total_blocks s
    → IsEntryAt s latest bytes i (get_or numbers i None)
entry_in_place s latest bytes numbers i are within =
    let inside : i < length numbers = omega (arith, are.count, within) in
    record {
      spells = record {
        fits = are.fit i None inside;
        spelling =
            ap (λ (xs : List ℕ). take 24 (drop (24 * i) xs)) are.spelled
            ∙ piece_at number_bytes 24 entry_width numbers i None inside;
      };
      sound = are.sound i None inside;
    }

-- the entries that were read are the first of all, and so they are with one more
pub one_more : (numbers : List (Option DatEntry)) (i : ℕ) (first : List (Option DatEntry))
    (entry : Option DatEntry)
    → i < length numbers → first ≡ take i numbers
    → Some entry ≡ Some (get_or numbers i None) → first ++ entry ∷ [] ≡ take (i + 1) numbers
one_more numbers i first entry within before next =
    let more = take_more numbers i None within in rw (before, some_is next) (sym more)
  where
    some_is : {A : Type 0} {a b : A} → Some a ≡ Some b → a ≡ b
    some_is e = cc

-- ---- the table

sound_of : (s : Segments) (latest : ℕ) (entry : Option DatEntry) (e : DatEntry) → IsSoundNumber s latest entry
    → entry ≡ Some e → IsEntry s latest e
sound_of s latest entry e sound is =
    let told : IsSoundNumber s latest (Some e) = subst (IsSoundNumber s latest) is sound in told

pub told_numbers : (s : Segments) (latest : ℕ) (bytes : List ℕ) (numbers : List (Option DatEntry))
    → AreEntriesOf s latest bytes numbers
    → HaveOwnBlocks (addresses_of (entry_told numbers)) → IsDatOf s latest bytes numbers
told_numbers s latest bytes numbers are apart = record {
  spelled = are.spelled;
  fit = are.fit;
  count = are.count;
  entries = entries;
  apart = apart;
}
  where
    entries : (v : ℕ) (e : DatEntry) → entry_told numbers v ≡ Some e → IsEntry s latest e
    entries zero e at = absurd (cc)
    entries (suc i) e at = elim (cases_lt i (length numbers)) [
      | inl h ↦ sound_of s latest (get_or numbers i None) e (are.sound i None h) at
      | inr h ↦ absurd (let past = get_or_past numbers i None h in cc)
    ]

pub entries_told : (s : Segments) (latest : ℕ) (bytes : List ℕ) (numbers : List (Option DatEntry))
    → IsDatOf s latest bytes numbers → AreEntriesOf s latest bytes numbers
entries_told s latest bytes numbers told = record {
  spelled = told.spelled;
  fit = told.fit;
  count = told.count;
  sound =
      All-from_get_or (IsSoundNumber s latest) numbers None
      (λ i within. sound (get_or numbers i None) (λ e at. told.entries (suc i) e at));
}
  where
    sound : (entry : Option DatEntry) → ((e : DatEntry) → entry ≡ Some e → IsEntry s latest e)
        → IsSoundNumber s latest entry
    sound None each = tt
    sound (Some e) each = each e refl

-- their blocks are among those that there are
pub blocks_inside : (s : Segments) (latest blocks : ℕ) (bytes : List ℕ) (numbers : List (Option DatEntry))
    → IsSegTable s → blocks ≡ total_blocks s → AreEntriesOf s latest bytes numbers
    → All (λ entry. IfSome entry (λ e. e.block < blocks)) numbers
blocks_inside s latest blocks bytes numbers is count are = λ i d within.
    inside (get_or numbers i d) (are.sound i d within)
  where
    inside : (entry : Option DatEntry) → IsSoundNumber s latest entry → IfSome entry (λ e. e.block < blocks)
    inside None sound = tt
    inside (Some e) sound = rw count (used_inside s e.block is.tidy sound.used)

-- their table is one over the segments
pub told_over : (s : Segments) (latest : ℕ) (bytes : List ℕ) (numbers : List (Option DatEntry))
    → IsDatOf s latest bytes numbers → IsTableOver (table_of numbers) s
told_over s latest bytes numbers told = record {
  full = omega (arith, told.count);
  zero_unused = refl;
  used = λ v b at. used v b (entry_told numbers v) refl at;
}
  where
    used : (v b : ℕ) (entry : Option DatEntry) → entry_told numbers v ≡ entry
        → option_map block_of entry ≡ Some b → IsUsed s b
    used v b None is at = cc
    used v b (Some e) is at = let same : e.block ≡ b = cc in subst (IsUsed s) same (told.entries v e is).used
