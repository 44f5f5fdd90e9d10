-- What holds of each two of a list, of two lists joined; and lists of one.
use Rattle.std.proofs.Common.{◌≡◌, ◌-◌, ◌<◌, suc, subst, sym, List, [], ◌∷◌, ◌++◌, length, get_or, arith, inl, inr, length-append, refl}
use Rattle.std.specs.List.{AllPairs, Contains}
use Rattle.std.proofs.lemmas.Bool.{cases_lt}
use Rattle.std.proofs.lemmas.List.{get_or-append_right, get_or_append_left}
use Rattle.std.proofs.lemmas.List.Elements.{Contains-get_or}
use Rattle.nl_types.specs.Facts.Births.{uncons}

pub pairs-append : {X : Type 0} (R : X → X → Type 0) (xs ys : List X) → AllPairs R xs → AllPairs R ys
    → ((x y : X) → Contains xs x → Contains ys y → R x y) → AllPairs R (xs ++ ys)
pairs-append {X} R xs ys a b c i j d l m = elim (cases_lt j (length xs)) [
  | inl u ↦ move (get_or_append_left xs ys d i (omega arith)) (get_or_append_left xs ys d j u) (a i j d l u)
  | inr u ↦
      let long = length-append xs ys in
      let k : j - length xs < length ys = omega arith in
      let right = get_or-append_right xs ys (length xs) j d refl u in
      elim (cases_lt i (length xs)) [
        | inl v ↦
            move (get_or_append_left xs ys d i v) right
            (c (get_or xs i d) (get_or ys (j - length xs) d) (Contains-get_or xs i d v)
            (Contains-get_or ys (j - length xs) d k))
        | inr v ↦
            move (get_or-append_right xs ys (length xs) i d refl v) right
            (b (i - length xs) (j - length xs) d (omega arith) k)
      ]
]
  where
    move : {x y x' y' : X} → x' ≡ x → y' ≡ y → R x y → R x' y'
    move p q r = rw (p, q) r

pub pairs-tail : {X : Type 0} (R : X → X → Type 0) (x : X) (xs : List X) → AllPairs R (x ∷ xs) → AllPairs R xs
pairs-tail R x xs a i j d l m = a (suc i) (suc j) d (omega arith) (omega arith)

pub pairs-head : {X : Type 0} (R : X → X → Type 0) (x : X) (xs : List X) → AllPairs R (x ∷ xs) → (y : X)
    → Contains xs y → R x y
pairs-head R x xs a y c = let m = c.1 in subst (R x) c.2 (a 0 (suc c.0) y (omega arith) (omega arith))

pub in_lone : {X : Type 0} (y x : X) → Contains (y ∷ []) x → x ≡ y
in_lone y x c = elim (uncons y [] x c) [ inl e ↦ sym e | inr e ↦ absurd (let l = e.1 in omega arith) ]
