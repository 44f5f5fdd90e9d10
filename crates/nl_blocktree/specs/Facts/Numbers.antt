-- Numbers that births get one after another.
use Rattle.std.proofs.Common.{◌≡◌, ℕ, zero, suc, ◌≤◌, Bool, true, false, eqb, List, [], ◌∷◌, ◌++◌, Option, Some, None, refl, ap, sym, subst, ◌∙◌, arith, inl, inr, append_assoc, is_some}
use Rattle.std.specs.Prelude.{◌||◌, ◌==◌}
use Rattle.std.specs.List.{Contains}
use Rattle.std.proofs.lemmas.Bool.{eqb-true, eq-eqb, or_cases}
use Rattle.std.proofs.lemmas.List.{append-nil, map-append}
use Rattle.std.proofs.lemmas.List.Elements.{Contains-append_left, Contains-push}
use Rattle.nl_types.specs.Facts.Births.{uncons}
use Rattle.nl_types.specs.Blocks.Entries.{Birth, Content, number_of}
use Rattle.nl_types.specs.Blocks.RootChanges.{born}
use Rattle.nl_types.specs.Blocks.Roots.{Root, numbered}
use Rattle.nl_vstore.specs.Batches.{Changes, CanBeTaken, IsLowestFree, is_born, TakeLowestFree}
use Rattle.nl_vstore.specs.Stores.{capacity}
use Rattle.nl_blocktree.specs.Checkpoints.{ArePut, FileChange, NumbersAreLowest, batch_after, no_changes}
use Rattle.nl_blocktree.specs.Numbering.{IsUnused}

pub born-append : (xs ys : List Birth) → born (xs ++ ys) ≡ born xs ++ born ys
born-append xs ys = map-append number_of xs ys

pub born_in : (births : List Birth) (b : Birth) → Contains births b → Contains (born births) b.number
born_in [] b c = absurd (let l = c.1 in omega arith)
born_in (a ∷ births) b c = elim (uncons a births b c) [
  | inl e ↦ (0, omega arith, ap number_of e)
  | inr k ↦ let r = born_in births b k in (suc r.0, (let l = r.1 in omega arith), r.2)
]

pub born_by : (births : List Birth) (v : ℕ) → Contains (born births) v
    → (b : Birth) × Contains births b × (b.number ≡ v)
born_by [] v c = absurd (let l = c.1 in omega arith)
born_by (a ∷ births) v c = elim (uncons a.number (born births) v c) [
  | inl e ↦ (a, (0, omega arith, refl), e)
  | inr k ↦ let r = born_by births v k in (r.0, (suc r.1.0, (let l = r.1.1 in omega arith), r.1.2), r.2)
]

-- ---- free numbers

or_right : (a : Bool) {b : Bool} → b ≡ true → (a || b) ≡ true
or_right true h = refl
or_right false h = h

pub is_born-of : (births : List Birth) (v : ℕ) → Contains (born births) v → is_born births v ≡ true
is_born-of [] v c = absurd (let l = c.1 in omega arith)
is_born-of (b ∷ births) v c = elim (uncons b.number (born births) v c) [
  | inl e ↦ ap (λ t. t || is_born births v) (eq-eqb b.number v e)
  | inr k ↦ or_right (eqb b.number v) (is_born-of births v k)
]

pub born-is_born : (births : List Birth) (v : ℕ) → is_born births v ≡ true → Contains (born births) v
born-is_born [] v h = cc
born-is_born (b ∷ births) v h = elim (or_cases (eqb b.number v) (is_born births v) h) [
  | inl e ↦ (0, omega arith, eqb-true b.number v e)
  | inr e ↦ let r = born-is_born births v e in (suc r.0, (let l = r.1 in omega arith), r.2)
]

free_parts : (a b : Bool) → (a || b) ≡ false → (a ≡ false) × (b ≡ false)
free_parts false b h = (refl, h)
free_parts true b h = cc

none_of : {A : Type 0} (o : Option A) → is_some o ≡ false → o ≡ None
none_of None h = refl
none_of (Some x) h = cc

pub free_unused : (content : Content) (before : List Birth) (n : ℕ) → IsLowestFree content before n
    → content n ≡ None
free_unused content before n f = none_of (content n) (free_parts _ _ f.free).0

pub free_untaken : (content : Content) (before : List Birth) (n : ℕ) → IsLowestFree content before n
    → Contains (born before) n → ⊥
free_untaken content before n f c =
    let no : false ≡ true =
    sym (free_parts (is_some (content n)) (is_born before n) f.free).1 ∙ is_born-of before n c in
    cc

-- what fits has births under numbers that are not in use
pub unused_of_fits : (capacity : ℕ) (content : Content) (changes : Changes)
    → CanBeTaken capacity content changes → IsUnused content changes.births
unused_of_fits capacity content changes fits v c = fits.unused v (is_born-of changes.births v c)

-- whether a number is taken is told by the numbers of the births
is_born-same : (xs ys : List Birth) (v : ℕ) → born xs ≡ born ys → is_born xs v ≡ is_born ys v
is_born-same [] [] v e = refl
is_born-same [] (y ∷ ys) v e = cc
is_born-same (x ∷ xs) [] v e = cc
is_born-same (x ∷ xs) (y ∷ ys) v e =
    let first : x.number ≡ y.number = cc in
    let rest : born xs ≡ born ys = cc in
    ap (λ n. (n == v) || is_born xs v) first ∙ ap (λ t. (y.number == v) || t) (is_born-same xs ys v rest)

pub free-same : (content : Content) (xs ys : List Birth) (n : ℕ) → born xs ≡ born ys
    → IsLowestFree content xs n → IsLowestFree content ys n
free-same content xs ys n e f = record {
  positive = f.positive;
  free = ap (λ t. is_some (content n) || t) (sym (is_born-same xs ys n e)) ∙ f.free;
  lowest = λ w positive below.
      ap (λ t. is_some (content w) || t) (sym (is_born-same xs ys w e)) ∙ f.lowest w positive below;
}

-- ---- births that are numbered in turn

pub numbered_unused : (content : Content) (before births : List Birth) (v : ℕ)
    → TakeLowestFree content before births → Contains (born births) v → content v ≡ None
numbered_unused content before [] v n c = absurd (let l = c.1 in omega arith)
numbered_unused content before (b ∷ births) v n c = elim (uncons b.number (born births) v c) [
  | inl e ↦ subst (λ (k : ℕ). content k ≡ None) e (free_unused content before b.number n.0)
  | inr k ↦ numbered_unused content (before ++ b ∷ []) births v n.1 k
]

earlier : (before : List Birth) (b : Birth) (v : ℕ) → Contains (born before) v
    → Contains (born (before ++ b ∷ [])) v
earlier before b v c =
    subst (λ (ns : List ℕ). Contains ns v) (sym (born-append before (b ∷ [])))
    (Contains-append_left (born before) (b.number ∷ []) v c)

last : (before : List Birth) (b : Birth) → Contains (born (before ++ b ∷ [])) b.number
last before b =
    subst (λ (ns : List ℕ). Contains ns b.number) (sym (born-append before (b ∷ [])))
    (Contains-push (born before) b.number)

pub numbered_untaken : (content : Content) (before births : List Birth) (v : ℕ)
    → TakeLowestFree content before births → Contains (born births) v → Contains (born before) v → ⊥
numbered_untaken content before [] v n c t = absurd (let l = c.1 in omega arith)
numbered_untaken content before (b ∷ births) v n c t = elim (uncons b.number (born births) v c) [
  | inl e ↦ free_untaken content before b.number n.0 (subst (λ (k : ℕ). Contains (born before) k) (sym e) t)
  | inr k ↦ numbered_untaken content (before ++ b ∷ []) births v n.1 k (earlier before b v t)
]

-- a later birth has another number
pub numbered_later : (content : Content) (before births : List Birth) (b c : Birth)
    → TakeLowestFree content (before ++ b ∷ []) births → Contains births c → b.number ≡ c.number → ⊥
numbered_later content before births b c n k q =
    numbered_untaken content (before ++ b ∷ []) births c.number n (born_in births c k)
    (subst (λ (v : ℕ). Contains (born (before ++ b ∷ [])) v) q (last before b))

-- no two have the same number
pub numbered_once : (content : Content) (before births : List Birth) (a b : Birth)
    → TakeLowestFree content before births →
    Contains births a → Contains births b → a.number ≡ b.number → a ≡ b
numbered_once content before [] a b n ca cb e = absurd (let l = ca.1 in omega arith)
numbered_once content before (x ∷ births) a b n ca cb e = elim (uncons x births a ca) [
  | inl ea ↦ elim (uncons x births b cb) [
    | inl eb ↦ sym ea ∙ eb
    | inr kb ↦ absurd (numbered_later content before births x b n.1 kb (ap number_of ea ∙ e))
  ]
  | inr ka ↦ elim (uncons x births b cb) [
    | inl eb ↦ absurd (numbered_later content before births x a n.1 ka (ap number_of eb ∙ sym e))
    | inr kb ↦ numbered_once content (before ++ x ∷ []) births a b n.1 ka kb e
  ]
]

pub numbered-append : (content : Content) (before xs ys : List Birth) → TakeLowestFree content before xs
    → TakeLowestFree content (before ++ xs) ys → TakeLowestFree content before (xs ++ ys)
numbered-append content before [] ys n m =
    subst (λ (t : List Birth). TakeLowestFree content t ys) (append-nil before) m
numbered-append content before (x ∷ xs) ys n m = (
  n.0,
  numbered-append content (before ++ x ∷ []) xs ys n.1
      (subst (λ (t : List Birth). TakeLowestFree content t ys) (sym (append_assoc before (x ∷ []) xs)) m),
)

pub numbered-push : (content : Content) (before births : List Birth) (b : Birth)
    → TakeLowestFree content before births → IsLowestFree content (before ++ births) b.number
    → TakeLowestFree content before (births ++ b ∷ [])
numbered-push content before births b n f = numbered-append content before births (b ∷ []) n (f, tt)

-- over all files that are changed one after another
lowest-after : (content : Content) (roots : ℕ → Root) (batch : Changes) (files : List FileChange) →
    TakeLowestFree content [] batch.births → ArePut content roots batch files →
    TakeLowestFree content [] (batch_after files batch).births
lowest-after content roots batch [] lowest put = lowest
lowest-after content roots batch (file ∷ files) lowest (one, others) =
    lowest-after content roots file.batch files
    (subst (λ (births : List Birth). TakeLowestFree content [] births) (sym one.births_are)
    (numbered-append content [] batch.births one.births lowest one.lowest_free)) others

pub numbers-lowest : NumbersAreLowest
numbers-lowest content roots files put = lowest-after content roots no_changes files tt put

-- pages play no part
pub numbered-same : (content : Content) (one other xs ys : List Birth) → born one ≡ born other
    → born xs ≡ born ys → TakeLowestFree content one xs → TakeLowestFree content other ys
numbered-same content one other [] [] o e n = tt
numbered-same content one other [] (y ∷ ys) o e n = cc
numbered-same content one other (x ∷ xs) [] o e n = cc
numbered-same content one other (x ∷ xs) (y ∷ ys) o e n =
    let first : x.number ≡ y.number = cc in
    let rest : born xs ≡ born ys = cc in
    let next : born (one ++ x ∷ []) ≡ born (other ++ y ∷ []) =
    born-append one (x ∷ []) ∙ (both o first ∙ sym (born-append other (y ∷ []))) in (
      subst (λ (v : ℕ). IsLowestFree content other v) first (free-same content one other x.number o n.0),
      numbered-same content (one ++ x ∷ []) (other ++ y ∷ []) xs ys next rest n.1,
    )
  where
    both : {us vs : List ℕ} {a b : ℕ} → us ≡ vs → a ≡ b → us ++ a ∷ [] ≡ vs ++ b ∷ []
    both p q = cc

numbered-some : (n : ℕ) → 1 ≤ n → numbered n ≡ Some n
numbered-some zero h = absurd (omega arith)
numbered-some (suc n) h = refl

-- a free number names something
pub free-some : (content : Content) (before : List Birth) (n : ℕ) → IsLowestFree content before n
    → numbered n ≡ Some n
free-some content before n f = numbered-some n f.positive

pub numbered-nonzero : (n : ℕ) → (n ≡ 0 → ⊥) → numbered n ≡ Some n
numbered-nonzero zero h = absurd (h refl)
numbered-nonzero (suc n) h = refl
