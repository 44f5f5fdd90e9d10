-- What was printed is read again.
use Rattle.std.proofs.Common.{◌≡◌, ℕ, ◌+◌, ◌-◌, ◌*◌, ◌/◌, ◌%◌, ◌^◌, ◌<◌, ◌≤◌, true, false, eqb, ltb, leb, List, [], ◌∷◌, ◌++◌, All, codes, drop, length, take, Some, refl, sym, ap, ◌∙◌, append_assoc, length-append, arith}
use Rattle.std.proofs.lemmas.Bool.{eq-eqb, le-leb, le-ltb, lt-ltb}
use Rattle.std.proofs.lemmas.List.Elements.{All-head, All-tail}
use Rattle.std.proofs.lemmas.Fmt.{decimal_by_steps}
use Rattle.std.specs.Fmt.{decimal}
use Rattle.std.specs.List.{flat_map}
use Rattle.nl_types.specs.Plain.Characters.{line_feed}
use Rattle.nl_damage.specs.declared.sums.digests.Digest.{Digest}
use Rattle.nl_damage.specs.declared.sums.sum.Save.{Save}
use Rattle.nl_damage.specs.declared.sums.sum.Sum.{Sum}
use Rattle.nl_damage.specs.SumTexts.{IsDigest, IsSave, IsSum, digest_text, number_text, save_text, segment_text, sum_text}
use Rattle.nl_damage.specs.Private.SumReading.{behind, decimal_from, digest_at, digits_at, divided_at, front_at, kept_at, number_at, save_at, segments_at, sum_at}

-- ---- texts

same_byte : (b : ℕ) → eqb b b ≡ true
same_byte b = eq-eqb b b refl

behind_again : (text rest : List ℕ) → behind text (text ++ rest) ≡ Some rest
unfolding behind
behind_again [] rest = refl
behind_again (b ∷ text) rest = rw (same_byte b) (behind_again text rest)

-- ---- decimal numbers

decimal_step : (v d : ℕ) (rest : List ℕ) → d < 10 → v * 10 + d < 2 ^ 64
    → decimal_from v ((48 + d) ∷ rest) ≡ decimal_from (v * 10 + d) rest
unfolding decimal_from
decimal_step v d rest below fits =
    let low : leb 48 (48 + d) ≡ true = le-leb 48 (48 + d) (omega arith) in
    let high : leb (48 + d) 57 ≡ true = le-leb (48 + d) 57 (omega arith) in
    let value : 48 + d - 48 ≡ d = omega arith in
    let small : ltb (v * 10 + d) (2 ^ 64) ≡ true = lt-ltb (v * 10 + d) (2 ^ 64) fits in
    rw (low, high, value, small) refl

-- behind the digits of a number, reading goes on from it
abbrev GoesOn : ℕ → List ℕ → Type 0
GoesOn n digits = (rest : List ℕ) → n < 2 ^ 64 → decimal_from 0 (digits ++ rest) ≡ decimal_from n rest

decimal_behind : (n : ℕ) → n < 2 ^ 64 → (rest : List ℕ)
    → decimal_from 0 (decimal n ++ rest) ≡ decimal_from n rest
decimal_behind n fits rest = decimal_by_steps GoesOn one more n fits rest fits
  where
    one : (n : ℕ) → n < 10 → GoesOn n ((48 + n) ∷ [])
    one n below rest fits = decimal_step 0 n rest below (omega arith) ∙ ap (λ (k : ℕ). decimal_from k
        rest) (omega arith)

    more : (n : ℕ) (digits : List ℕ) → 10 ≤ n → GoesOn (n / 10) digits
        → GoesOn n (digits ++ (48 + n % 10) ∷ [])
    more n digits long goes rest fits =
        let whole : n / 10 * 10 + n % 10 ≡ n = omega arith in
        ap (decimal_from 0) (append_assoc digits ((48 + n % 10) ∷ []) rest)
        ∙ goes ((48 + n % 10) ∷ rest) (omega arith)
        ∙ decimal_step (n / 10) (n % 10) rest (omega arith) (omega arith)
        ∙ ap (λ (k : ℕ). decimal_from k rest) whole

-- ---- lines

number_again : (label : List ℕ) (n : ℕ) (rest : List ℕ) → n < 2 ^ 64
    → number_at label (number_text label n ++ rest) ≡ Some (n, rest)
unfolding number_at number_text behind decimal_from
number_again label n rest fits =
    ap (number_at label) (regrouped (decimal n))
    ∙ rw (behind_again label (decimal n ++ line_feed ∷ rest), decimal_behind n fits (line_feed ∷ rest)) refl
  where
    regrouped : (digits : List ℕ) → (label ++ (digits ++ line_feed ∷ [])) ++ rest ≡ label ++ (digits ++
        line_feed ∷ rest)
    regrouped digits = simp append_assoc

take_again : (front rest : List ℕ) → take (length front) (front ++ rest) ≡ front
take_again [] rest = refl
take_again (x ∷ front) rest = ap (λ (xs : List ℕ). x ∷ xs) (take_again front rest)

drop_again : (front rest : List ℕ) → drop (length front) (front ++ rest) ≡ rest
drop_again [] rest = refl
drop_again (x ∷ front) rest = drop_again front rest

digits_again : (d : Digest) (rest : List ℕ) → IsDigest d → digits_at (d.digits ++ rest) ≡ Some (d, rest)
unfolding digits_at
digits_again d rest is =
    let long : ltb (length (d.digits ++ rest)) 64 ≡ false =
    le-ltb (length (d.digits ++ rest)) 64 (omega (arith, length-append d.digits rest, is)) in
    let front : take 64 (d.digits ++ rest) ≡ d.digits =
    ap (λ (n : ℕ). take n (d.digits ++ rest)) (sym is) ∙ take_again d.digits rest in
    let back : drop 64 (d.digits ++ rest) ≡ rest =
    ap (λ (n : ℕ). drop n (d.digits ++ rest)) (sym is) ∙ drop_again d.digits rest in
    rw (long, front, back) refl

digest_again : (label : List ℕ) (d : Digest) (rest : List ℕ) → IsDigest d
    → digest_at label (digest_text label d ++ rest) ≡ Some (d, rest)
unfolding digest_at digest_text behind
digest_again label d rest is =
    ap (digest_at label) (regrouped d.digits)
    ∙ rw (behind_again label (d.digits ++ line_feed ∷ rest), digits_again d (line_feed ∷ rest) is) refl
  where
    regrouped : (digits : List ℕ) → (label ++ (digits ++ line_feed ∷ [])) ++ rest ≡ label ++ (digits ++
        line_feed ∷ rest)
    regrouped digits = simp append_assoc

-- ---- all of it

save_again : (save : Save) (rest : List ℕ) → IsSave save → save_at (save_text save ++ rest) ≡ Some (save, rest)
unfolding save_at save_text divided_at kept_at
save_again save rest is =
    let at_tables = digest_text (codes "tables ") save.tables ++ rest in
    let at_latest = number_text (codes "latest ") save.latest ++ at_tables in
    let at_checkpoints = number_text (codes "checkpoints ") save.checkpoints ++ at_latest in
    let at_blocks = number_text (codes "blocks ") save.blocks ++ at_checkpoints in
    let at_segments = number_text (codes "segments ") save.segments ++ at_blocks in
    ap save_at (regrouped (number_text (codes "bytes ") save.bytes)
    (number_text (codes "segments ") save.segments) (number_text (codes "blocks ") save.blocks)
    (number_text (codes "checkpoints ") save.checkpoints) (number_text (codes "latest ") save.latest)
    (digest_text (codes "tables ") save.tables))
    ∙ rw (
      number_again (codes "bytes ") save.bytes at_segments is.bytes,
      number_again (codes "segments ") save.segments at_blocks is.segments,
      number_again (codes "blocks ") save.blocks at_checkpoints is.blocks,
      number_again (codes "checkpoints ") save.checkpoints at_latest is.checkpoints,
      number_again (codes "latest ") save.latest at_tables is.latest,
      digest_again (codes "tables ") save.tables rest is.tables,
    ) refl
  where
    regrouped : (a b c d e f : List ℕ)
        → (a ++ (b ++ (c ++ (d ++ (e ++ f))))) ++ rest ≡ a ++ (b ++ (c ++ (d ++ (e ++ (f ++ rest)))))
    regrouped a b c d e f = simp append_assoc

segments_again : (all : List Digest) → All IsDigest all
    → segments_at (length all) (flat_map segment_text all) ≡ Some all
unfolding segments_at
segments_again [] are = refl
segments_again (d ∷ all) are =
    rw (
      digest_again (codes "segment ") d (flat_map segment_text all) (All-head IsDigest d all are),
      segments_again all (All-tail IsDigest d all are),
    ) refl

front_again : (save : Save) (whole : Digest) (rest : List ℕ) → IsSave save → IsDigest whole
    → front_at (codes "nlkeep sum 1" ++ (line_feed ∷ (save_text save ++ (digest_text (codes "image ") whole ++
    rest))))
    ≡ Some (save, (whole, rest))
unfolding front_at behind
front_again save whole rest is digest =
    rw (
      save_again save (digest_text (codes "image ") whole ++ rest) is,
      digest_again (codes "image ") whole rest digest,
    ) refl

pub sum_again : (sum : Sum) → IsSum sum → sum_at (sum_text sum) ≡ Some sum
unfolding sum_at sum_text
sum_again sum is =
    rw (
      front_again sum.save sum.whole (flat_map segment_text sum.segments) is.save is.whole,
      sym is.count,
      segments_again sum.segments is.each,
    ) refl
