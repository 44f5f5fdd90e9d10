-- What is read is what was printed, and nothing else is.
use Rattle.std.proofs.Common.{◌≡◌, ℕ, Bool, true, false, cond, List, Option, Some, None, refl, sym, ap, ◌∙◌, subst, true≢false}
use Rattle.std.specs.Prelude.{IfSome}
use Rattle.std.specs.Str.{bytes_eq}
use Rattle.std.proofs.lemmas.Slice.Eq.{bytes_eq-Decides}
use Rattle.nl_damage.specs.declared.sums.sum.Sum.{Sum}
use Rattle.nl_damage.specs.SumTexts.{IsSum, sum_text}
use Rattle.nl_damage.specs.Private.SumReading.{◌>>=◌, is_spelled, sum_at, sum_in}
use Rattle.nl_damage.proofs.SumsAgain.{sum_again}

abbrev Met : Option Sum → Option Sum → Type 0
Met a b = a ≡ b

abbrev is_there : Option Sum → Bool
is_there None = false
is_there (Some sum) = true

abbrev or_this : Sum → Option Sum → Sum
or_this sum None = sum
or_this sum (Some other) = other

read_found : (bytes : List ℕ) (sum : Sum) → Met (sum_in bytes) (Some sum) → sum_text sum ≡ bytes
unfolding sum_in
read_found bytes sum = by (sum_at bytes)
  where
    chosen : (k : Sum) (t : Bool) → is_spelled k bytes ≡ t → Met (cond t (Some k) None) (Some sum)
        → sum_text sum ≡ bytes
    chosen k true is found =
        subst (λ (x : Sum). sum_text x ≡ bytes) (ap (or_this k) found)
        ((bytes_eq-Decides (sum_text k) bytes).0 is)
    chosen k false is found = absurd (true≢false (sym (ap is_there found)))

    by : (o : Option Sum) → Met (o >>= λ k. cond (is_spelled k bytes) (Some k) None) (Some sum)
        → sum_text sum ≡ bytes
    by None found = absurd (true≢false (sym (ap is_there found)))
    by (Some k) found = chosen k (is_spelled k bytes) refl found

read_again : (sum : Sum) → IsSum sum → sum_in (sum_text sum) ≡ Some sum
unfolding sum_in
read_again sum is =
    let same : bytes_eq (sum_text sum) (sum_text sum) ≡ true =
    (bytes_eq-Decides (sum_text sum) (sum_text sum)).1 refl in
    rw (sum_again sum is, same) refl

pub sum_read : (bytes : List ℕ) (sum : Sum) → IsSum sum → sum_text sum ≡ bytes → sum_in bytes ≡ Some sum
sum_read bytes sum is spelled = ap sum_in (sym spelled) ∙ read_again sum is

-- ---- what is found is told

pub found_is : (read : Option Sum) (bytes : List ℕ) → read ≡ sum_in bytes
    → IfSome read (λ sum. sum_text sum ≡ bytes)
found_is None bytes is = tt
found_is (Some sum) bytes is = read_found bytes sum (sym is)
