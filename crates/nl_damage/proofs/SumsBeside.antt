-- What an image is beside its sum is one, whatever sums are printed as a text.
use Rattle.std.proofs.Common.{◌≡◌, ◌∙◌, ℕ, List, [], Option, None, Some, inl, inr, refl, subst, sym}
use Rattle.std.specs.Prelude.{◌↔◌, IfSome}
use Rattle.std.proofs.lemmas.Option.{same_Some}
use Rattle.nl_damage.specs.declared.sums.comparing.Comparison.{Comparison}
use Rattle.nl_damage.specs.declared.sums.comparing.Comparison.TheVariants.{OtherSave}
use Rattle.nl_damage.specs.declared.sums.sum.Sum.{Sum}
use Rattle.nl_damage.specs.ImageSums.{IsImageSum}
use Rattle.nl_damage.specs.SumComparing.{IsBeside, NoneDiffer, NoneDifferFrom, comparison_of, differing_in}
use Rattle.nl_damage.specs.SumTexts.{IsPrinted}

-- this is the image's sum, if it has one
abbrev pub IsOnly : List ℕ → Option Sum → Type 0
IsOnly image made = (sum : Sum) → IsImageSum image sum → made ≡ Some sum

none-some : (sum : Sum) → None ≡ Some sum → ⊥
none-some sum e = cc

-- ---- beside a saved sum

pub other_save : (image : List ℕ) (saved : Sum) (made : Option Sum) → made ≡ None → IsOnly image made
    → IsBeside image saved OtherSave
other_save image saved made is only = inr (λ present sum. none-some present (sym is ∙ only present sum), refl)

pub none_differ : (image : List ℕ) (saved : Sum) (made : Option Sum) → made ≡ None → IsOnly image made
    → (differing_in OtherSave ≡ []) ↔ NoneDiffer image saved
none_differ image saved made is only =
    (λ e present sum. absurd (none-some present (sym is ∙ only present sum)), λ all. refl)

pub this_sum : (image : List ℕ) (saved present : Sum) (made : Option Sum) (told : Comparison)
    → made ≡ Some present → IfSome made (IsImageSum image) → told ≡ comparison_of saved present
    → IsBeside image saved told
this_sum image saved present made told is found compared =
    inl (present, subst (λ (o : Option Sum). IfSome o (IsImageSum image)) is found, compared)

pub exact_beside : (image : List ℕ) (saved present : Sum) (made : Option Sum) (told : Comparison)
    → made ≡ Some present → IfSome made (IsImageSum image) → IsOnly image made
    → told ≡ comparison_of saved present → (differing_in told ≡ []) ↔ NoneDiffer image saved
exact_beside image saved present made told is found only compared = (to, back)
  where
    to : differing_in told ≡ [] → NoneDiffer image saved
    to none other sum =
        subst (λ (s : Sum). differing_in (comparison_of saved s) ≡ [])
        (same_Some present other (sym is ∙ only other sum))
        (subst (λ (c : Comparison). differing_in c ≡ []) compared none)

    back : NoneDiffer image saved → differing_in told ≡ []
    back all =
        subst (λ (c : Comparison). differing_in c ≡ []) (sym compared)
        (all present (subst (λ (o : Option Sum). IfSome o (IsImageSum image)) is found))

-- ---- beside a text

-- this sum is printed so, if one is
abbrev pub IsOnlyRead : List ℕ → Option Sum → Type 0
IsOnlyRead text read = (sum : Sum) → IsPrinted sum text → read ≡ Some sum

pub exact_text : (image text : List ℕ) (saved : Sum) (read : Option Sum) (told : Comparison)
    → read ≡ Some saved → IfSome read (λ sum. IsPrinted sum text) → IsOnlyRead text read
    → ((differing_in told ≡ []) ↔ NoneDiffer image saved)
    → (differing_in told ≡ []) ↔ NoneDifferFrom image text
exact_text image text saved read told is found only exact = (to, back)
  where
    to : differing_in told ≡ [] → NoneDifferFrom image text
    to none other printed =
        subst (λ (s : Sum). NoneDiffer image s) (same_Some saved other (sym is ∙ only other printed))
        (exact.0 none)

    back : NoneDifferFrom image text → differing_in told ≡ []
    back all =
        exact.1 (all saved (subst (λ (o : Option Sum). IfSome o (λ sum. IsPrinted sum text)) is found))
