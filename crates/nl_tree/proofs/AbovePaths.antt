-- The names of one path are those above another's where its bytes, and a slash, are the other's first.
use Rattle.std.proofs.Common.{◌≡◌, ◌≢◌, ℕ, Bor, Option, Some, None, ◌<◌, Bool, true, false, ◌&&◌, not, cond, List, [], ◌∷◌, ◌++◌, length, drop, refl, sym, ap, ◌∙◌, append_assoc, append-nil, arith, length-append, true≢false}
use Rattle.std.specs.Prelude.{◌==◌}
use Rattle.std.specs.List.{join_with_byte, onto_first, slice_get}
use Rattle.std.specs.Option.{option_copied, option_eq}
use Rattle.std.proofs.Math.Seq.{drop-append_seam}
use Rattle.std.proofs.lemmas.Bool.{eqb-false, eqb-true}
use Rattle.std.proofs.lemmas.List.Splits.{join_with_byte-slice_split, length-slice_split}
use Rattle.nl_types.specs.Plain.Calls.{is_above}
use Rattle.nl_types.specs.Plain.Paths.{Path, is_within, same_path}
use Rattle.nl_types.specs.Facts.Booleans.{not_true}
use Rattle.nl_types.specs.Facts.Lookups.{is_within-append, same_path-itself, within_is}
use Rattle.nl_types.specs.Facts.TreeLaws.{same_path-equal}
use Rattle.nl_tree.specs.Private.PathParts.{parts_of}
use Rattle.nl_tree.proofs.PathParts.{parts_of-injective}

abbrev is_slash : ℕ → Bool
is_slash b = b == 47

-- there is a part at least
pub some_part : (bytes : List ℕ) → 0 < length (parts_of bytes)
some_part bytes = omega (arith, length-slice_split is_slash bytes)

onto_first-append : (b : ℕ) (parts more : Path) → 0 < length parts
    → onto_first b (parts ++ more) ≡ onto_first b parts ++ more
onto_first-append b [] more some = absurd (omega arith)
onto_first-append b (part ∷ parts) more some = refl

-- a slash divides the parts
pub parts_of-append : (top rest : List ℕ) → parts_of (top ++ 47 ∷ rest) ≡ parts_of top ++ parts_of rest
parts_of-append [] rest = refl
parts_of-append (b ∷ top) rest = by_test (is_slash b) (parts_of-append top rest)
  where
    by_test : (test : Bool) → parts_of (top ++ 47 ∷ rest) ≡ parts_of top ++ parts_of rest
        → cond test ([] ∷ parts_of (top ++ 47 ∷ rest)) (onto_first b (parts_of (top ++ 47 ∷ rest)))
        ≡ cond test ([] ∷ parts_of top) (onto_first b (parts_of top)) ++ parts_of rest
    by_test true so_far = ap (λ (parts : Path). [] ∷ parts) so_far
    by_test false so_far =
        ap (onto_first b) so_far ∙ onto_first-append b (parts_of top) (parts_of rest) (some_part top)

-- where the bytes begin with those of `top` and a slash, its names stand above
pub above_at_slash : (top names rest : List ℕ) → names ≡ top ++ 47 ∷ rest
    → is_above (parts_of top) (parts_of names) ≡ true
above_at_slash top names rest is =
    let parts : parts_of names ≡ parts_of top ++ parts_of rest = ap parts_of is ∙ parts_of-append top rest in
    let within : is_within (parts_of top) (parts_of names) ≡ true =
    ap (is_within (parts_of top)) parts ∙ is_within-append (parts_of top) (parts_of rest) in
    let apart : same_path (parts_of top) (parts_of names) ≡ false =
    not_true (same_path (parts_of top) (parts_of names)) (λ same.
    let e : length top ≡ length names =
    ap length (parts_of-injective top names (same_path-equal (parts_of top) (parts_of names) same)) in
    omega (arith, ap (length {A = ℕ}) is, length-append top (47 ∷ rest))) in
    rw (within, apart) refl

-- ---- and only there

join-append : (parts : Path) (part : List ℕ) (more : Path) → 0 < length parts
    → join_with_byte 47 (parts ++ part ∷ more)
    ≡ join_with_byte 47 parts ++ 47 ∷ join_with_byte 47 (part ∷ more)
join-append [] part more some = absurd (omega arith)
join-append (p ∷ []) part more some = refl
join-append (p ∷ q ∷ parts) part more some =
    ap (λ (bytes : List ℕ). p ++ 47 ∷ bytes) (join-append (q ∷ parts) part more (omega arith))
    ∙ sym (append_assoc p (47 ∷ join_with_byte 47 (q ∷ parts)) (47 ∷ join_with_byte 47 (part ∷ more)))

slash_behind : (top names : List ℕ) (more : Path) → parts_of names ≡ parts_of top ++ more
    → same_path (parts_of top) (parts_of names) ≡ false → ((rest : List ℕ) → names ≢ top ++ 47 ∷ rest) → ⊥
slash_behind top names [] parts apart no_slash =
    let same : parts_of names ≡ parts_of top = parts ∙ append-nil (parts_of top) in
    true≢false (sym (same_path-itself (parts_of top)) ∙ (ap (same_path (parts_of top)) (sym same) ∙ apart))
slash_behind top names (part ∷ more) parts apart no_slash =
    no_slash (join_with_byte 47 (part ∷ more))
    (sym (join_with_byte-slice_split 47 names) ∙ (ap (join_with_byte 47) parts
    ∙ (join-append (parts_of top) part more (some_part top)
    ∙ ap (λ (bytes : List ℕ). bytes ++ 47 ∷ join_with_byte 47 (part ∷ more))
    (join_with_byte-slice_split 47 top))))

-- where they don't, its names do not
pub above_no_slash : (top names : List ℕ) → ((rest : List ℕ) → names ≢ top ++ 47 ∷ rest)
    → is_above (parts_of top) (parts_of names) ≡ false
above_no_slash top names no_slash =
    by_test (is_within (parts_of top) (parts_of names)) refl (same_path (parts_of top) (parts_of names)) refl
  where
    by_test : (within : Bool) → is_within (parts_of top) (parts_of names) ≡ within
        → (same : Bool) → same_path (parts_of top) (parts_of names) ≡ same → (within && not same) ≡ false
    by_test false _ same _ = refl
    by_test true w true s = refl
    by_test true w false s =
        absurd (slash_behind top names _ (within_is (parts_of top) (parts_of names) w) s no_slash)

-- ---- as code tests it

abbrev pub begins_with_slash : List ℕ → Bool
begins_with_slash [] = false
begins_with_slash (b ∷ bytes) = b == 47

pub above_by_rest : (top names rest : List ℕ) → names ≡ top ++ rest
    → is_above (parts_of top) (parts_of names) ≡ begins_with_slash rest
above_by_rest top names rest is = by_rest rest is
  where
    behind : (rest others : List ℕ) → names ≡ top ++ rest → names ≡ top ++ others → rest ≡ others
    behind rest others is_one is_other =
        sym (drop-append_seam top rest)
        ∙ (ap (drop (length top)) (sym is_one ∙ is_other) ∙ drop-append_seam top others)

    by_byte : (b : ℕ) (bytes : List ℕ) → names ≡ top ++ b ∷ bytes → (test : Bool) → (b == 47) ≡ test
        → is_above (parts_of top) (parts_of names) ≡ test
    by_byte b bytes is true slash =
        above_at_slash top names bytes (is ∙ ap (λ (x : ℕ). top ++ x ∷ bytes) (eqb-true b 47 slash))
    by_byte b bytes is false other = above_no_slash top names (λ more begins.
        let same : b ∷ bytes ≡ 47 ∷ more = behind (b ∷ bytes) (47 ∷ more) is begins in
        let byte : b ≡ 47 = cc in
        eqb-false b 47 other byte)

    by_rest : (rest : List ℕ) → names ≡ top ++ rest
        → is_above (parts_of top) (parts_of names) ≡ begins_with_slash rest
    by_rest [] is =
        above_no_slash top names
        (λ more begins. let same : [] ≡ 47 ∷ more = behind [] (47 ∷ more) is begins in absurd cc)
    by_rest (b ∷ bytes) is = by_byte b bytes is (b == 47) refl

-- the test of the first byte
pub first_is_slash : (first : Option (Bor ℕ)) (slash : Bor ℕ) (bytes : List ℕ) → slash.now ≡ 47
    → option_copied first ≡ slice_get bytes 0
    → option_eq (λ (x y : Bor ℕ). x.now == y.now) first (Some slash) ≡ begins_with_slash bytes
first_is_slash None slash [] is first = refl
first_is_slash None slash (b ∷ bytes) is first = absurd cc
first_is_slash (Some x) slash [] is first = absurd cc
first_is_slash (Some x) slash (b ∷ bytes) is first =
    let byte : x.now ≡ b = cc in
    ap (λ (y : ℕ). y == slash.now) byte ∙ ap (λ (y : ℕ). b == y) is
