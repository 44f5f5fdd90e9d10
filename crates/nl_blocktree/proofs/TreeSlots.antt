-- The slots of a node, edit by edit.
use Rattle.std.proofs.Common.{◌≡◌, ◌≢◌, ℕ, zero, suc, ◌+◌, ◌*◌, ◌/◌, ◌%◌, ◌<◌, ◌≤◌, ◌-◌, List, [], ◌∷◌, ◌++◌, length, get_or, set, take, Option, refl, ap, sym, subst, ◌∙◌, arith, inl, inr}
use Rattle.std.specs.List.{All, AllPairs, Contains}
use Rattle.std.proofs.lemmas.Bool.{cases_eq, cases_lt, eq-eqb, ne_eqb}
use Rattle.std.proofs.lemmas.List.{get_or_past, get_or-set_same, get_or-set_other, get_or-take, take_more, length-take}
use Rattle.nl_types.specs.Blocks.Roots.{numbered}
use Rattle.nl_blocktree.specs.Private.Edits.{ComesBefore, IsEdited, TellsAll, edit_alone, edited, edits_from}
use Rattle.nl_blocktree.specs.declared.tree.Edit.{Edit}
use Rattle.nl_blocktree.specs.Facts.Pairwise.{in_lone}
use Rattle.nl_blocktree.proofs.TreeEdits.{edited_cases}
use Rattle.nl_blocktree.proofs.TreeGroups.{edited_left, edited_right}
use Rattle.nl_blocktree.proofs.TreeSteps.{any_default}

take_before : (group : List Edit) (k : ℕ) (e x : Edit) → AllPairs ComesBefore group → k < length group
    → get_or group k e ≡ e → Contains (take k group) x → x.offset < e.offset
take_before group k e x a l is c =
    let m = c.1 in
    let n = length-take k group in
    let i : c.0 < k = omega arith in
    let at : get_or group c.0 x ≡ x = sym (get_or-take k group c.0 x i) ∙ c.2 in
    let there : get_or group k x ≡ e = any_default group k x e l ∙ is in
    let p = a c.0 k x i l in
    subst (λ (y : Edit). y.offset < e.offset) at
    (subst (λ (y : Edit). (get_or group c.0 x).offset < y.offset) there p)

pub slots_more : (slots was : List ℕ) (group : List Edit) (k offset : ℕ) (e : Edit) → length slots ≡ 128
    → AllPairs ComesBefore group → All (λ (x : Edit). x.offset / 128 ≡ offset) group → k < length group
    → e ≡ get_or group k e →
    ((s : ℕ) → s < 128
    → numbered (get_or slots s 0)
    ≡ edited (take k group) (λ i. numbered (get_or was (i % 128) 0)) (128 * offset + s))
    →
    (s : ℕ) → s < 128
    → numbered (get_or (set slots (e.offset % 128) e.number) s 0)
    ≡ edited (take (k + 1) group) (λ i. numbered (get_or was (i % 128) 0)) (128 * offset + s)
slots_more slots was group k offset e long a g l is h s low = elim (cases_eq s (e.offset % 128)) [
  | inl q ↦
      let p : 128 * offset + s ≡ e.offset = omega (arith, q, here) in
      ap (λ (i : ℕ). numbered (get_or (set slots (e.offset % 128) e.number) i 0)) q
      ∙ (ap numbered (get_or-set_same slots (e.offset % 128) e.number 0 (omega arith))
      ∙ sym (more
      ∙ (edited_right (take k group) (e ∷ []) old (128 * offset + s)
      (λ x c o. let b = take_before group k e x a l (sym is) c in absurd (omega arith))
      ∙ rw (eq-eqb (128 * offset + s) e.offset p) refl)))
  | inr n ↦
      let p : 128 * offset + s ≡ e.offset → ⊥ = λ o. n (omega arith) in
      ap numbered (get_or-set_other slots (e.offset % 128) s e.number 0 n)
      ∙ (h s low
      ∙ sym (more
      ∙ edited_left (take k group) (e ∷ []) old (128 * offset + s)
      (λ x c o. p (sym o ∙ ap (λ (y : Edit). y.offset) (in_lone e x c)))))
]
  where
    old : ℕ → Option ℕ
    old i = numbered (get_or was (i % 128) 0)

    here : e.offset / 128 ≡ offset
    here = subst (λ (x : Edit). x.offset / 128 ≡ offset) (sym is) (g k e l)

    more : edited (take (k + 1) group) old (128 * offset + s)
        ≡ edited (take k group ++ e ∷ []) old (128 * offset + s)
    more =
        ap (λ (xs : List Edit). edited xs old (128 * offset + s))
        (take_more group k e l ∙ ap (λ (x : Edit). take k group ++ x ∷ []) (sym is))

-- edits made one by one in slots
pub set_more : (slots was : List ℕ) (edits : List Edit) (k : ℕ) (e : Edit) → AllPairs ComesBefore edits
    → k < length edits → e ≡ get_or edits k e → e.offset < length slots →
    ((i : ℕ) → numbered (get_or slots i 0) ≡ edited (take k edits) (λ j. numbered (get_or was j 0)) i) →
    (i : ℕ)
    → numbered (get_or (set slots e.offset e.number) i 0)
    ≡ edited (take (k + 1) edits) (λ j. numbered (get_or was j 0)) i
set_more slots was edits k e a l is room h i = elim (cases_eq i e.offset) [
  | inl q ↦
      ap (λ (j : ℕ). numbered (get_or (set slots e.offset e.number) j 0)) q
      ∙ (ap numbered (get_or-set_same slots e.offset e.number 0 room)
      ∙ sym (more
      ∙ (edited_right (take k edits) (e ∷ []) old i
      (λ x c o. let b = take_before edits k e x a l (sym is) c in absurd (omega arith))
      ∙ rw (eq-eqb i e.offset q) refl)))
  | inr n ↦
      ap numbered (get_or-set_other slots e.offset i e.number 0 n)
      ∙ (h i
      ∙ sym (more
      ∙ edited_left (take k edits) (e ∷ []) old i
      (λ x c o. n (sym o ∙ ap (λ (y : Edit). y.offset) (in_lone e x c)))))
]
  where
    old : ℕ → Option ℕ
    old j = numbered (get_or was j 0)

    more : edited (take (k + 1) edits) old i ≡ edited (take k edits ++ e ∷ []) old i
    more =
        ap (λ (xs : List Edit). edited xs old i)
        (take_more edits k e l ∙ ap (λ (x : Edit). take k edits ++ x ∷ []) (sym is))

-- ---- edits that tell all slots

pub edits_from-none : edits_from 0 [] ≡ []
unfolding edits_from
edits_from-none = refl

pub edits_from-push : (offset : ℕ) (xs : List ℕ) (x : ℕ)
    → edits_from offset (xs ++ x ∷ []) ≡ edits_from offset xs ++ edit_alone (offset + length xs) x ∷ []
unfolding edits_from
edits_from-push offset [] x =
    let z : offset ≡ offset + 0 = omega arith in ap (λ (o : ℕ). edit_alone o x ∷ []) z
edits_from-push offset (y ∷ ys) x =
    let z : suc offset + length ys ≡ offset + suc (length ys) = omega arith in
    ap (λ (es : List Edit). edit_alone offset y ∷ es)
    (edits_from-push (suc offset) ys x ∙ ap (λ (o : ℕ). edits_from (suc offset) ys ++ edit_alone o x ∷ []) z)

-- each edit stands where its slot does
from_at : (offset : ℕ) (xs : List ℕ) (k : ℕ) (d : Edit) → k < length xs
    → get_or (edits_from offset xs) k d ≡ edit_alone (offset + k) (get_or xs k 0)
unfolding edits_from
from_at offset [] k d l = absurd (omega arith)
from_at offset (x ∷ xs) zero d l =
    let z : offset ≡ offset + 0 = omega arith in ap (λ (o : ℕ). edit_alone o x) z
from_at offset (x ∷ xs) (suc k) d l =
    let z : suc offset + k ≡ offset + suc k = omega arith in
    from_at (suc offset) xs k d (omega arith) ∙ ap (λ (o : ℕ). edit_alone o (get_or xs k 0)) z

pub from_length : (offset : ℕ) (xs : List ℕ) → length (edits_from offset xs) ≡ length xs
unfolding edits_from
from_length offset [] = refl
from_length offset (x ∷ xs) = ap suc (from_length (suc offset) xs)

-- edits of all slots, after some edits were made in them, tell all
pub tells_all : (slots made : List ℕ) (edits : List Edit) → 0 < length edits → AllPairs ComesBefore edits
    → All (λ (e : Edit). e.offset < 262144) edits → ((i : ℕ) → get_or slots i 0 ≢ 0 → i < length made)
    → length made ≤ 262144 →
    All (λ (e : Edit). e.offset < length made) edits
    → ((i : ℕ) → numbered (get_or made i 0) ≡ edited edits (λ j. numbered (get_or slots j 0)) i)
    → TellsAll slots edits (edits_from 0 made)
tells_all slots made edits some a small near short room h = record {
  some =
      (let l = from_length 0 made in
      let r = room 0 (get_or edits 0 (edit_alone 0 0)) some in
      omega (arith, l, r));
  ascending = λ i j d l m.
      let n = from_length 0 made in
      let x = ap (λ (e : Edit). e.offset) (from_at 0 made i d (omega (arith, l, m, n))) in
      let y = ap (λ (e : Edit). e.offset) (from_at 0 made j d (omega (arith, m, n))) in
      omega (arith, x, y, l);
  small = λ i d l.
      let n = from_length 0 made in
      let x = ap (λ (e : Edit). e.offset) (from_at 0 made i d (omega (arith, l, n))) in
      omega (arith, x, l, n, short);
  same = same;
  slots_told = λ i n. told i (near i n);
  edits_told = λ e c.
      let l = room c.0 e c.1 in
      let x = ap (λ (y : Edit). y.offset) c.2 in
      told e.offset (omega (arith, l, x));
  alone = λ i d l.
      let n = from_length 0 made in
      ap (λ (e : Edit). e.above.items) (from_at 0 made i d (omega (arith, l, n)));
}
  where
    told : (i : ℕ) → i < length made → IsEdited (edits_from 0 made) i
    told i l =
        let n = from_length 0 made in
        let z : 0 + i ≡ i = omega arith in (
          edit_alone (0 + i) (get_or made i 0),
          (i, omega (arith, l, n), from_at 0 made i (edit_alone (0 + i) (get_or made i 0)) l),
          z,
        )

    other : (x : Edit) (i : ℕ) → Contains (edits_from 0 made) x → x.offset ≡ i
        → (i < length made) × (x.number ≡ get_or made i 0)
    other x i c o =
        let n = from_length 0 made in
        let l = c.1 in
        let r : x ≡ edit_alone (0 + c.0) (get_or made c.0 0) =
        sym c.2 ∙ from_at 0 made c.0 x (omega (arith, l, n)) in
        let p = ap (λ (e : Edit). e.offset) r in
        let q = ap (λ (e : Edit). e.number) r in
        let k : c.0 ≡ i = omega (arith, p, o) in
        (omega (arith, l, n, k), q ∙ ap (λ (m : ℕ). get_or made m 0) k)

    same : (old : ℕ → Option ℕ) → ((i : ℕ) → old i ≡ numbered (get_or slots i 0)) → (i : ℕ)
        → edited edits old i ≡ edited (edits_from 0 made) old i
    same old is i = elim (edited_cases (edits_from 0 made) old i) [
      | inl r ↦ alike edits i ∙ (sym (h i) ∙ (ap numbered (sym (other r.0 i r.1 r.2).1) ∙ sym r.3))
      | inr r ↦ elim (edited_cases edits old i) [
        | inl q ↦
            let l = room q.1.0 q.0 q.1.1 in
            let x = ap (λ (y : Edit). y.offset) q.1.2 in
            let t = told i (let o = q.2 in omega (arith, l, x, o)) in
            absurd (r.0 t.0 t.1 t.2)
        | inr q ↦ q.1 ∙ sym r.1
      ]
    ]
      where
        alike : (es : List Edit) (j : ℕ) → edited es old j ≡ edited es (λ k. numbered (get_or slots k 0)) j
        alike [] j = is j
        alike (x ∷ es) j = elim (cases_eq j x.offset) [
          | inl q ↦ rw (eq-eqb j x.offset q) refl
          | inr n ↦ rw (ne_eqb j x.offset n) (alike es j)
        ]

-- all edits stand below where the last one does
pub all_below : (edits : List Edit) (m : ℕ) (d : Edit) → AllPairs ComesBefore edits
    → (get_or edits (length edits - 1) d).offset < m → All (λ (e : Edit). e.offset < m) edits
all_below edits m d a l i e n = elim (cases_eq i (length edits - 1)) [
  | inl q ↦
      let r = ap (λ (k : ℕ). (get_or edits k e).offset) q in
      let s = ap (λ (x : Edit). x.offset) (any_default edits (length edits - 1) e d (omega (arith, n))) in
      omega (arith, r, s, l)
  | inr q ↦
      let p = a i (length edits - 1) e (omega (arith, n, q)) (omega (arith, n)) in
      let s = ap (λ (x : Edit). x.offset) (any_default edits (length edits - 1) e d (omega (arith, n))) in
      omega (arith, p, s, l)
]

-- slots that are trimmed, get room, and have the edits made
pub tells_made : (slots trimmed roomy made : List ℕ) (edits : List Edit) (d : Edit) → 0 < length edits
    → AllPairs ComesBefore edits → All (λ (e : Edit). e.offset < 262144) edits
    → ((i : ℕ) → get_or slots i 0 ≢ 0 → i < 262144) →
    ((i : ℕ) → get_or trimmed i 0 ≡ get_or slots i 0)
    → ((n : ℕ) → length trimmed ≡ n + 1 → get_or trimmed n 0 ≢ 0)
    → ((i : ℕ) → get_or roomy i 0 ≡ get_or trimmed i 0) →
    (get_or edits (length edits - 1) d).offset + 1 ≤ length roomy
    → ((n : ℕ) → (get_or edits (length edits - 1) d).offset + 1 ≤ n → length trimmed ≤ n → length roomy ≤ n) →
    length made ≡ length roomy
    → ((i : ℕ) → numbered (get_or made i 0) ≡ edited edits (λ j. numbered (get_or roomy j 0)) i)
    → TellsAll slots edits (edits_from 0 made)
tells_made slots trimmed roomy made edits d some a small near same tight more room most count h =
    tells_all slots made edits some a small stands short
    (all_below edits (length made) d a (omega (arith, room, count))) now
  where
    stands : (i : ℕ) → get_or slots i 0 ≢ 0 → i < length made
    stands i n = elim (cases_lt i (length roomy)) [
      | inl l ↦ omega (arith, l, count)
      | inr l ↦ absurd (n (sym (more i ∙ same i) ∙ get_or_past roomy i 0 l))
    ]

    below : (m : ℕ) → length trimmed ≡ m → m ≤ 262144
    below zero e = omega arith
    below (suc m) e = let l = near m (λ z. tight m (omega (arith, e)) (same m ∙ z)) in omega (arith, l)

    short : length made ≤ 262144
    short =
        let last = small (length edits - 1) d (omega (arith, some)) in
        let t = below (length trimmed) refl in
        let m = most 262144 (omega (arith, last)) t in
        omega (arith, m, count)

    as_slots : ◌≡◌ {A = ℕ → Option ℕ} (λ j. numbered (get_or roomy j 0)) (λ j. numbered (get_or slots j 0))
    as_slots = λ i. λ j. ap numbered (more j ∙ same j) i

    now : (i : ℕ) → numbered (get_or made i 0) ≡ edited edits (λ j. numbered (get_or slots j 0)) i
    now i = h i ∙ ap (λ (f : ℕ → Option ℕ). edited edits f i) as_slots
