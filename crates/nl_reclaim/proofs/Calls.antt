-- What the calls of a move and of a retirement need.
use Rattle.std.proofs.Common.{◌≡◌, ℕ, Bool, true, cond, List, Result, Ok, Err, get_or, length, take, sym, ap, subst, ◌∙◌}
use Rattle.std.specs.Prelude.{◌==◌}
use Rattle.std.specs.List.{All}
use Rattle.nl_types.specs.declared.error.VolError.{VolError}
use Rattle.nl_types.specs.declared.error.VolError.TheVariants.{StillNeeded}
use Rattle.nl_types.specs.Blocks.Entries.{Entry}
use Rattle.nl_types.specs.Facts.PartialMaps.{is_one_of-get_or}
use Rattle.nl_vstore.specs.Stores.{Store, IsStore, IsReclaimed, address_in, is_inside}
use Rattle.nl_vstore.specs.Located.{needed_in, numbers_in}
use Rattle.nl_vstore.specs.Facts.NumberAt.{gone-is, needed-inside}
use Rattle.nl_vstore.specs.Facts.MovedNumbers.{among-front}
use Rattle.nl_reclaim.specs.Cleaning.{freed}

pub front-inside : (s : Store) (needed : Entry → Bool) (segment n : ℕ) (numbers : List ℕ)
    → numbers ≡ take n (needed_in s needed segment)
    → All (λ v. is_inside s.segments segment (address_in s v) ≡ true) numbers
front-inside s needed segment n numbers same =
    subst (All (λ v. is_inside s.segments segment (address_in s v) ≡ true)) (sym same)
    (λ k d within. needed-inside s needed segment (get_or (take n (needed_in s needed segment)) k d)
    (among-front n (needed_in s needed segment) (get_or (take n (needed_in s needed segment)) k d)
    (is_one_of-get_or (take n (needed_in s needed segment)) k d within)))

pub freed-is : (s new : Store) (segment count needed : ℕ) → IsStore s → needed ≡ 0
    → IsReclaimed segment count s new → Ok count ≡ freed s needed segment
freed-is s new segment count needed store none reclaimed =
    ap Ok (gone-is segment count s new store reclaimed)
    ∙ sym (ap (λ (n : ℕ).
    cond {A = Result ℕ VolError} (n == 0) (Ok (length (numbers_in s segment))) (Err StillNeeded))
    none)
