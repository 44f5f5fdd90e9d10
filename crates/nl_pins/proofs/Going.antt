-- What goes, one checkpoint more.
use Rattle.std.proofs.Common.{◌≡◌, ℕ, zero, suc, ◌-◌, Bool, true, false, cond, nat_lt, List, [], ◌∷◌, ◌++◌, map, refl, ap, ◌∙◌, subst, arith, append_assoc}
use Rattle.std.specs.List.{filter}
use Rattle.nl_pins.proofs.Last.{is_some_left, one_less}

push_on : {D N : Type 0} (number : D → N) (P : D → Bool) (d : D) (rest : List D) (items all : List N) (b : Bool)
    → items ++ map number (cond b (d ∷ filter P rest) (filter P rest)) ≡ all
    → cond b (items ++ number d ∷ []) items ++ map number (filter P rest) ≡ all
push_on number P d rest items all true is = append_assoc items (number d ∷ []) (map number (filter P rest)) ∙ is
push_on number P d rest items all false is = is

pub gone_on : {D N : Type 0} (number : D → N) (P : D → Bool) (d : D) (rest : List D) (items now all : List N)
    (b : Bool) → P d ≡ b → now ≡ cond b (items ++ number d ∷ []) items
    → items ++ map number (filter P (d ∷ rest)) ≡ all
    → now ++ map number (filter P rest) ≡ all
gone_on {D} {N} number P d rest items now all b same is were =
    ap (λ (l : List N). l ++ map number (filter P rest)) is
    ∙ push_on number P d rest items all b
    (subst (λ (c : Bool). items ++ map number (cond c (d ∷ filter P rest) (filter P rest)) ≡ all) same were)

pub some_left : (n : ℕ) → nat_lt 0 n ≡ is_some_left n
some_left zero = refl
some_left (suc n) = grind (arith)

pub less_is : (n : ℕ) → n - 1 ≡ one_less n
less_is zero = refl
less_is (suc n) = omega arith

pub where_true : {A : Type 0} (b : Bool) (x y z : A) → b ≡ true → z ≡ x → z ≡ cond b x y
where_true true x y z is same = same
where_true false x y z is same = absurd (cc is)

pub where_false : {A : Type 0} (b : Bool) (x y z : A) → b ≡ false → z ≡ y → z ≡ cond b x y
where_false true x y z is same = absurd (cc is)
where_false false x y z is same = same
