-- Pieces of one width, one after the other, as the entries of a file stand.
use Rattle.std.proofs.Common.{◌≡◌, ℕ, zero, suc, ◌+◌, ◌*◌, ◌<◌, List, [], ◌∷◌, ◌++◌, length, take, drop, get_or, ap, sym, ◌∙◌, arith, append_assoc, append-nil, length-append, take-append-drop}
use Rattle.std.proofs.Math.Nat.{mul-suc}
use Rattle.std.proofs.Math.Seq.{take-append_seam, drop-append_seam}
use Rattle.std.specs.List.{flat_map}
use Rattle.std.proofs.lemmas.List.{drop-drop, drop-take, length-take-le, take-take, take_more}
use Rattle.std.proofs.lemmas.List.Concat.{flat_map-append}
use borrow.Rule.Slice.PartMut.{put_mid}

-- each piece has this width
abbrev pub HaveWidth : {A : Type 0} → (A → List ℕ) → ℕ → Type 0
HaveWidth {A} f w = (x : A) → length (f x) ≡ w

pub length-pieces : {A : Type 0} (f : A → List ℕ) (w : ℕ) → HaveWidth f w → (xs : List A)
    → length (flat_map f xs) ≡ w * length xs
length-pieces f w wide [] = omega arith
length-pieces f w wide (x ∷ xs) =
    let more : length (flat_map f xs) ≡ w * length xs = length-pieces f w wide xs in
    omega (arith, length-append (f x) (flat_map f xs), wide x, more, mul-suc w (length xs))

-- ---- reading

-- what is left behind some pieces
drop-pieces : {A : Type 0} (f : A → List ℕ) (w : ℕ) → HaveWidth f w → (x : A) (xs : List A) (i : ℕ)
    → drop (w * suc i) (flat_map f (x ∷ xs)) ≡ drop (w * i) (flat_map f xs)
drop-pieces f w wide x xs i =
    let on : w * suc i ≡ w * i + length (f x) = omega (arith, mul-suc w i, wide x) in
    ap (λ (n : ℕ). drop n (f x ++ flat_map f xs)) on
    ∙ (sym (drop-drop (w * i) (length (f x)) (f x ++ flat_map f xs)
    ∙ ap (λ (n : ℕ). drop n (f x ++ flat_map f xs)) (omega arith))
    ∙ ap (drop (w * i)) (drop-append_seam (f x) (flat_map f xs)))

-- the piece of a place
pub piece_at : {A : Type 0} (f : A → List ℕ) (w : ℕ) → HaveWidth f w → (xs : List A) (i : ℕ) (d : A)
    → i < length xs → take w (drop (w * i) (flat_map f xs)) ≡ f (get_or xs i d)
piece_at f w wide [] i d within = absurd (omega arith)
piece_at f w wide (x ∷ xs) zero d within =
    let none : w * 0 ≡ 0 = omega arith in
    ap (λ (n : ℕ). take w (drop n (f x ++ flat_map f xs))) none
    ∙ (ap (λ (n : ℕ). take n (f x ++ flat_map f xs)) (sym (wide x)) ∙ take-append_seam (f x) (flat_map f xs))
piece_at f w wide (x ∷ xs) (suc i) d within =
    ap (take w) (drop-pieces f w wide x xs i) ∙ piece_at f w wide xs i d (omega arith)

-- one piece more
pub take_piece : {A : Type 0} (f : A → List ℕ) (w : ℕ) (bytes : List ℕ) (xs : List A) (x : A) (i : ℕ)
    → take (w * i) bytes ≡ flat_map f xs → take w (drop (w * i) bytes) ≡ f x
    → take (w * (i + 1)) bytes ≡ flat_map f (xs ++ x ∷ [])
take_piece f w bytes xs x i before next =
    let on : w * (i + 1) ≡ w * i + w = omega (arith, mul-suc w i) in
    ap (λ (n : ℕ). take n bytes) on
    ∙ (take-add (w * i) w bytes
    ∙ (both before next
    ∙ sym (flat_map-append f xs (x ∷ []) ∙ ap (λ (ys : List ℕ). flat_map f xs ++ ys) (append-nil (f x)))))
  where
    take-add : (n m : ℕ) (ys : List ℕ) → take (n + m) ys ≡ take n ys ++ take m (drop n ys)
    take-add n m ys =
        let front : take n (take (n + m) ys) ≡ take n ys = take-take n (n + m) ys (omega arith) in
        let back : drop n (take (n + m) ys) ≡ take m (drop n ys) = drop-take n m ys in
        sym (take-append-drop n (take (n + m) ys)) ∙ cc

    both : {a b c d : List ℕ} → a ≡ c → b ≡ d → a ++ b ≡ c ++ d
    both p q = cc

-- ---- writing

-- a write right behind a part
pub put_mid-seam : (front rest new : List ℕ) (n : ℕ)
    → put_mid (length front) n (front ++ rest) new ≡ front ++ (new ++ drop n rest)
put_mid-seam front rest new n =
    rw (take-append_seam front rest)
    (ap (λ (ys : List ℕ). front ++ (new ++ drop n ys)) (drop-append_seam front rest))

-- the pieces that are written, and what stands behind them, once there is one more
pub put_piece : {A : Type 0} (f : A → List ℕ) (w : ℕ) → HaveWidth f w
    → (xs : List A) (k n : ℕ) (d : A) (out before new : List ℕ) → k < length xs → n ≡ w
    → out ≡ flat_map f (take k xs) ++ drop (w * k) before → new ≡ f (get_or xs k d)
    → put_mid (w * k) n out new ≡ flat_map f (take (k + 1) xs) ++ drop (w * (k + 1)) before
put_piece f w wide xs k n d out before new within e was put =
    let front : List ℕ = flat_map f (take k xs) in
    let len : w * k ≡ length front =
    sym (length-pieces f w wide (take k xs)
    ∙ ap (λ (x : ℕ). w * x) (length-take-le k xs (omega arith))) in
    let more : flat_map f (take (k + 1) xs) ≡ front ++ f (get_or xs k d) =
    ap (flat_map f) (take_more xs k d within)
    ∙ (flat_map-append f (take k xs) (get_or xs k d ∷ [])
    ∙ ap (λ (ys : List ℕ). front ++ ys) (append-nil (f (get_or xs k d)))) in
    let rest : drop n (drop (w * k) before) ≡ drop (w * (k + 1)) before =
    drop-drop n (w * k) before ∙ ap (λ (x : ℕ). drop x before) (omega (arith, mul-suc w k)) in
    let written : put_mid (w * k) n out new ≡ front ++ (new ++ drop (w * (k + 1)) before) =
    ap (λ (ys : List ℕ). put_mid (w * k) n ys new) was
    ∙ (ap (λ (at : ℕ). put_mid at n (front ++ drop (w * k) before) new) len
    ∙ (put_mid-seam front (drop (w * k) before) new n ∙ ap (λ (ys : List ℕ). front ++ (new ++ ys)) rest)) in
    written ∙ rw (more, put) (sym (append_assoc front (f (get_or xs k d)) (drop (w * (k + 1)) before)))
