-- What holds below a number, and tests of options.
use Rattle.std.proofs.Common.{◌≡◌, ℕ, ◌+◌, ◌<◌, Bool, true, false, Option, Some, None, refl, subst, arith, inl, inr}
use Rattle.std.specs.Option.{is_some}
use Rattle.std.specs.Prelude.{◌&&◌, not, IfOk, IfSome, OnErr, Result, Ok, Err}
use Rattle.std.proofs.lemmas.Bool.{cases_lt}

-- what holds below a number and of that number holds below the next one
pub below-more : (P : ℕ → Type 0) (n : ℕ) → ((p : ℕ) → p < n → P p) → P n → (p : ℕ) → p < n + 1 → P p
below-more P n h here p low = elim (cases_lt p n) [
  | inl less ↦ h p less
  | inr high ↦ (let e : n ≡ p = omega (arith, low, high) in subst P e here)
]

pub none-by : {A : Type 0} (o : Option A) → is_some o ≡ false → o ≡ None
none-by None h = refl
none-by (Some x) h = cc

pub none-by_none : {A : Type 0} (o : Option A) (r : Bool) → is_some o ≡ not r → r ≡ true → o ≡ None
none-by_none None r e h = refl
none-by_none (Some x) r e h = cc

pub some-by : {A : Type 0} (o : Option A) → is_some o ≡ true → (x : A) × (o ≡ Some x)
some-by None h = cc
some-by (Some x) h = (x, refl)

pub some-by_none : {A : Type 0} (o : Option A) (r : Bool) → is_some o ≡ not r → r ≡ false
    → (x : A) × (o ≡ Some x)
some-by_none None r e h = cc
some-by_none (Some x) r e h = (x, refl)

-- a test that is true isn't false
pub both : (b : Bool) → b ≡ true → b ≡ false → ⊥
both b p q = cc

pub not-none : {A : Type 0} (o : Option A) (x : A) → o ≡ None → o ≡ Some x → ⊥
not-none o x p q = cc

pub none-from : {A : Type 0} (o : Option A) → ((x : A) → o ≡ Some x → ⊥) → o ≡ None
none-from None h = refl
none-from (Some x) h = absurd (h x refl)

-- a fact of what a call answers gives another
pub ok-map : {A E : Type 0} (r : Result A E) (P Q : A → Type 0) → ((x : A) → P x → Q x) → IfOk r P → IfOk r Q
ok-map (Ok x) P Q f p = f x p
ok-map (Err e) P Q f p = tt

pub ok-then : {A E : Type 0} {P : A → Type 0} (r : Result A E) → IfOk r P → (Q : A → Type 0)
    → ((x : A) → P x → Q x) → IfOk r Q
ok-then (Ok x) p Q f = f x p
ok-then (Err e) p Q f = tt

-- what holds where a call is refused holds where it doesn't answer
pub refused-at : {A E : Type 0} (P : Type 0) (r : Result A E) → OnErr r P → ((x : A) → r ≡ Ok x → ⊥) → P
refused-at P (Ok x) p never = absurd (never x refl)
refused-at P (Err e) p never = p

-- where the first of two is told, so is whether both hold
pub both-second : (a b : Bool) → a ≡ true → (a && b) ≡ b
both-second true b e = refl
both-second false b e = cc

pub both-first : (a b : Bool) → a ≡ false → (a && b) ≡ a
both-first true b e = cc
both-first false b e = refl

-- a fact of what a call found gives another
pub some-map : {A : Type 0} (o : Option A) (P Q : A → Type 0) → ((x : A) → P x → Q x) → IfSome o P
    → IfSome o Q
some-map None P Q f p = tt
some-map (Some x) P Q f p = f x p

-- so do two
pub some-both : {A : Type 0} {P Q R : A → Type 0} (o : Option A) → IfSome o P → IfSome o Q
    → ((x : A) → P x → Q x → R x) → IfSome o R
some-both None p q f = tt
some-both (Some x) p q f = f x p q

-- and what holds of it holds where it is known
pub found-at : {A : Type 0} (P : A → Type 0) (o : Option A) (x : A) → IfSome o P → o ≡ Some x → P x
found-at P None x p is = cc
found-at P (Some y) x p is = let e : y ≡ x = cc in subst P e p
