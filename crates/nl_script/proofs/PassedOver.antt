-- A line that is passed over: what was read of it, and what is skipped.
use Rattle.std.proofs.Common.{◌≡◌, ◌≢◌, ◌∙◌, ◌-◌, ◌<◌, ◌⊎◌, ◌++◌, inl, inr, sym, ap, subst, refl, List, [], ◌∷◌, ℕ, zero, suc, Bool, true, false, true≢false, Option, None, Some, IfSome, All, length, arith, rules}
use Rattle.std.proofs.BufReadLemmas.{drop_through-append, take_through_nonempty, through_part}
use Rattle.std.proofs.Transfers.{All-of_StopsAt}
use Rattle.std.proofs.lemmas.Bool.{eq-eqb, eqb-true, lt-ltb}
use Rattle.std.proofs.lemmas.List.{length-append}
use Rattle.std.specs.Io.{StopsAt, IsEmptyOrEndsWith}
use Rattle.std.specs.Io.BufRead.{drop_through, ends_with_byte, first_piece, take_through, DropsThrough}
use Rattle.std.specs.Io.KnownBytes.{Consumes, IsAtEnd}
use Rattle.std.specs.Prelude.{◌&&◌, ◌==◌, slice_index}
use Rattle.std.specs.Io.Iter.{u64_saturate}
use Rattle.nl_script.specs.Private.Turns.{IsNextIn, IsNextLine}
use Rattle.nl_script.specs.declared.reading.Next.{Next}
use Rattle.nl_script.specs.declared.reading.Next.TheVariants.{End, Unheld}

-- there is a line where there is a byte
next-from : (xs : List ℕ) (left : Option (List ℕ)) → 0 < length xs → left ≡ Some (drop_through 10 xs)
    → (line : List ℕ) × IsNextLine (Some xs) left line
next-from xs left some is = (first_piece 10 xs, record { is_next = (some, refl); behind = is })

last-is : (bytes : List ℕ) → 0 < length bytes
    → ends_with_byte 10 bytes ≡ (slice_index bytes (length bytes - 1) == 10)
last-is bytes some =
    ap (λ (b : Bool). b && (slice_index bytes (length bytes - 1) == 10)) (lt-ltb 0 (length bytes) some)

-- its line feed was read already
pub passed-feed : (whole left : Option (List ℕ)) (begun : List ℕ) → Consumes whole left begun
    → StopsAt begun 10
    → ends_with_byte 10 begun ≡ true → (line : List ℕ) × IsNextLine whole left line
passed-feed None left begun consumes stops ends = ([], record { is_next = tt; behind = tt })
passed-feed (Some xs) None begun consumes stops ends = absurd consumes
passed-feed (Some xs) (Some ys) [] consumes stops ends = absurd (true≢false (sym ends))
passed-feed (Some xs) (Some ys) (b ∷ begun) consumes stops ends =
    let last : IsEmptyOrEndsWith (b ∷ begun) 10 = λ _.
    eqb-true (slice_index (b ∷ begun) (length (b ∷ begun) - 1)) 10
    (sym (last-is (b ∷ begun) (omega arith)) ∙ ends) in
    let parts = through_part 10 (b ∷ begun) ys stops last (λ none. absurd (omega (arith, none))) in
    next-from xs (Some ys) (subst (λ (zs : List ℕ). 0 < length zs) (sym consumes) (omega arith))
    (ap Some (sym (ap (drop_through 10) consumes ∙ parts.1)))

no-feed : (begun : List ℕ) → StopsAt begun 10 → ends_with_byte 10 begun ≡ false → All (λ x. x ≢ 10) begun
no-feed [] stops ends = stops
no-feed (b ∷ begun) stops ends =
    let last = slice_index (b ∷ begun) (length (b ∷ begun) - 1) in
    All-of_StopsAt (b ∷ begun) 10 (length (b ∷ begun)) last refl (λ none. absurd (omega (arith, none)))
    (search rules)
    (λ is. true≢false (sym (eq-eqb last 10 is) ∙ sym (last-is (b ∷ begun) (omega arith)) ∙ ends)) stops

-- its line feed is skipped, or the end
pub passed-rest : (whole mid left : Option (List ℕ)) (begun : List ℕ) → Consumes whole mid begun
    → StopsAt begun 10
    → ends_with_byte 10 begun ≡ false → DropsThrough mid left 10
    → (0 < length begun) ⊎ IfSome mid (λ ys. 0 < length (take_through 10 ys))
    → (line : List ℕ) × IsNextLine whole left line
passed-rest None mid left begun consumes stops ends drops some = ([], record { is_next = tt; behind = tt })
passed-rest (Some xs) None left begun consumes stops ends drops some = absurd consumes
passed-rest (Some xs) (Some ys) left begun consumes stops ends drops some =
    next-from xs left (subst (λ (zs : List ℕ). 0 < length zs) (sym consumes) (there some))
    (drops
    ∙ ap Some
    (sym (ap (drop_through 10) consumes ∙ drop_through-append 10 begun ys (no-feed begun stops ends))))
  where
    there : (0 < length begun) ⊎ (0 < length (take_through 10 ys)) → 0 < length (begun ++ ys)
    there (inl h) = omega (arith, h, length-append begun ys)
    there (inr h) = omega (arith, take_through_nonempty 10 ys h, length-append begun ys)

-- there was nothing
pub passed-nothing : (whole mid : Option (List ℕ)) (begun : List ℕ) → Consumes whole mid begun
    → length begun ≡ 0 → IsAtEnd mid
    → IsAtEnd whole
passed-nothing None mid begun consumes none end = tt
passed-nothing (Some xs) None begun consumes none end = absurd consumes
passed-nothing (Some xs) (Some ys) [] consumes none end = consumes ∙ end
passed-nothing (Some xs) (Some ys) (b ∷ begun) consumes none end = absurd (omega (arith, none))

-- the input ends before a line feed comes
pub passed-end : (whole mid left : Option (List ℕ)) (begun : List ℕ) (result : Next)
    → Consumes whole mid begun → StopsAt begun 10
    → ends_with_byte 10 begun ≡ false → DropsThrough mid left 10 → IsAtEnd mid
    → (0 < length begun → result ≡ Unheld) → (length begun ≡ 0 → result ≡ End) → IsNextIn whole left result
passed-end whole mid left [] result consumes stops ends drops end some none =
    subst (λ (n : Next). IsNextIn whole left n) (sym (none refl))
    (passed-nothing whole mid [] consumes refl end)
passed-end whole mid left (b ∷ begun) result consumes stops ends drops end some none =
    subst (λ (n : Next). IsNextIn whole left n) (sym (some (omega arith)))
    (passed-rest whole mid left (b ∷ begun) consumes stops ends drops (inl (omega arith)))

-- some bytes were skipped
pub skipped-some : (mid : Option (List ℕ)) (count : ℕ) → count ≢ 0
    → IfSome mid (λ ys. count ≡ u64_saturate (length (take_through 10 ys)))
    → IfSome mid (λ ys. 0 < length (take_through 10 ys))
skipped-some None count some is = tt
skipped-some (Some ys) count some is = by (length (take_through 10 ys)) is
  where
    by : (n : ℕ) → count ≡ u64_saturate n → 0 < n
    by zero h = absurd (some h)
    by (suc n) h = omega arith
