-- Blocks that stand at the front, the last one first, stay as they are where each is brought there,
-- ascending.
use Rattle.std.proofs.Common.{◌≡◌, ℕ, zero, suc, ◌+◌, ◌≤◌, Bool, true, false, not, ◌-◌, cond, List, [], ◌∷◌, ◌++◌, take, drop, Option, Some, refl, sym, ap, ◌∙◌, subst, arith, append_assoc}
use Rattle.std.specs.Prelude.{◌==◌, ◌&&◌, ◌/◌, ◌<◌}
use Rattle.std.specs.List.{AllByRecursion}
use Rattle.std.specs.Map.{lookup_entry, remove_entry}
use Rattle.std.specs.Option.{option_map_or}
use Rattle.std.proofs.lemmas.Bool.{eq-eqb, ne_eqb}
use Rattle.lru.specs.LruCache.{lru_cache}
use Rattle.nl_mounts.specs.declared.cache.CacheKey.{CacheKey}
use Rattle.nl_mounts.specs.Caching.{block_count, block_end, is_key, key_of, touched, touched_one}
use Rattle.nl_mounts.proofs.Parts.{IsLastPart}
use Rattle.nl_mounts.proofs.Stored.{one_key}

abbrev pub Entries : Type 0
Entries = List (CacheKey × List ℕ)

-- so many blocks of a file from an index on begin the list, the last one first
abbrev pub IsFront : (checkpoint inode first count : ℕ) → Entries → Type 0
IsFront n i first zero es = Unit {0}
IsFront n i first (suc count) [] = ⊥
IsFront n i first (suc count) (e ∷ es) = (e.0 ≡ key_of n i (first + count)) × IsFront n i first count es

-- ---- one entry behind others

last_false : (p q r : Bool) → r ≡ false → (p && (q && r)) ≡ false
last_false true true r is = is
last_false true false r is = refl
last_false false q r is = refl

all_true : (p q r : Bool) → p ≡ true → q ≡ true → r ≡ true → (p && (q && r)) ≡ true
all_true true true r a b is = is
all_true true false r a b is = absurd cc
all_true false q r a b is = absurd cc

abbrev IsOther : ℕ → CacheKey × List ℕ → Type 0
IsOther index e = e.0.index ≡ index → ⊥

apart : (k : CacheKey) (e : CacheKey × List ℕ) → IsOther k.index e → is_key k e.0 ≡ false
apart k e other =
    last_false (k.checkpoint == e.0.checkpoint) (k.inode == e.0.inode) (k.index == e.0.index)
    (ne_eqb k.index e.0.index (λ same. other (sym same)))

itself : (k : CacheKey) → is_key k k ≡ true
itself k = all_true (k.checkpoint == k.checkpoint) (k.inode == k.inode) (k.index == k.index)
    (eq-eqb k.checkpoint k.checkpoint refl) (eq-eqb k.inode k.inode refl) (eq-eqb k.index k.index refl)

find_at : (k : CacheKey) (xs : Entries) (e : CacheKey × List ℕ) (ys : Entries)
    → AllByRecursion (IsOther k.index) xs → is_key k e.0 ≡ true
    → lookup_entry (is_key k) (xs ++ e ∷ ys) ≡ Some e
find_at k [] e ys others is = ap (λ b. cond b (Some e) (lookup_entry (is_key k) ys)) is
find_at k (x ∷ xs) e ys others is =
    ap (λ b. cond b (Some x) (lookup_entry (is_key k) (xs ++ e ∷ ys))) (apart k x others.0)
    ∙ find_at k xs e ys others.1 is

remove_at : (k : CacheKey) (xs : Entries) (e : CacheKey × List ℕ) (ys : Entries)
    → AllByRecursion (IsOther k.index) xs → is_key k e.0 ≡ true
    → remove_entry (is_key k) (xs ++ e ∷ ys) ≡ xs ++ ys
remove_at k [] e ys others is = ap (λ b. cond b ys (e ∷ remove_entry (is_key k) ys)) is
remove_at k (x ∷ xs) e ys others is =
    ap (λ b. cond b (xs ++ e ∷ ys) (x ∷ remove_entry (is_key k) (xs ++ e ∷ ys))) (apart k x others.0)
    ∙ ap (λ (zs : Entries). x ∷ zs) (remove_at k xs e ys others.1 is)

to_front : (k : CacheKey) (xs : Entries) (e : CacheKey × List ℕ) (ys : Entries) (cap : ℕ)
    → AllByRecursion (IsOther k.index) xs → e.0 ≡ k
    → touched_one k (lru_cache (xs ++ e ∷ ys) cap) ≡ lru_cache (e ∷ (xs ++ ys)) cap
to_front k xs e ys cap others is =
    let same : is_key k e.0 ≡ true = subst (λ (l : CacheKey). is_key k l ≡ true) (sym is) (itself k) in
    ap (λ (o : Option (CacheKey × List ℕ)).
    lru_cache (option_map_or (λ f. f ∷ remove_entry (is_key k) (xs ++ e ∷ ys)) o (xs ++ e ∷ ys)) cap)
    (find_at k xs e ys others same)
    ∙ ap (λ (zs : Entries). lru_cache (e ∷ zs) cap) (remove_at k xs e ys others same)

-- ---- one block after another

all_append : (P : CacheKey × List ℕ → Type 0) (xs ys : Entries) → AllByRecursion P xs → AllByRecursion P ys
    → AllByRecursion P (xs ++ ys)
all_append P [] ys a b = b
all_append P (x ∷ xs) ys a b = (a.0, all_append P xs ys a.1 b)

abbrev IsFrom : ℕ → CacheKey × List ℕ → Type 0
IsFrom index e = index ≤ e.0.index

others_above : (index : ℕ) (xs : Entries) → AllByRecursion (IsFrom (suc index)) xs
    → AllByRecursion (IsOther index) xs
others_above index [] all = tt
others_above index (x ∷ xs) all =
    let low = all.0 in (λ same. omega (arith, same, low), others_above index xs all.1)

from_below : (index : ℕ) (xs : Entries) → AllByRecursion (IsFrom (suc index)) xs
    → AllByRecursion (IsFrom index) xs
from_below index [] all = tt
from_below index (x ∷ xs) all = let low = all.0 in (omega (arith, low), from_below index xs all.1)

module _ (n i first : ℕ) where
  -- blocks at the front have lower indices
  others_below : (count more : ℕ) (es : Entries) → count ≤ more → IsFront n i first count es
      → AllByRecursion (IsOther (first + more)) (take count es)
  others_below zero more es le front = tt
  others_below (suc count) more [] le front = absurd front
  others_below (suc count) more (e ∷ es) le front =
      let key : e.0.index ≡ first + count = ap (λ (k : CacheKey). k.index) front.0 in
      (λ same. omega (arith, same, key, le), others_below count more es (omega (arith, le)) front.1)

  -- what stands before them goes behind them
  passed : (count : ℕ) (before es : Entries) (cap : ℕ) → AllByRecursion (IsFrom (first + count)) before
      → IsFront n i first count es
      → touched n i first count (lru_cache (before ++ es) cap)
      ≡ lru_cache (take count es ++ (before ++ drop count es)) cap
  passed zero before es cap above front = refl
  passed (suc count) before [] cap above front = absurd front
  passed (suc count) before (e ∷ es) cap above front =
      let k = key_of n i (first + count) in
      let index : first + suc count ≡ suc (first + count) = omega arith in
      let high : AllByRecursion (IsFrom (suc (first + count))) before =
      subst (λ (m : ℕ). AllByRecursion (IsFrom m) before) index above in
      let own : e.0.index ≡ first + count = ap (λ (l : CacheKey). l.index) front.0 in
      let next : AllByRecursion (IsFrom (first + count)) (before ++ e ∷ []) =
      all_append (IsFrom (first + count)) before (e ∷ []) (from_below (first + count) before high)
      (omega (arith, own), tt) in
      let others =
      all_append (IsOther (first + count)) (take count es) before
      (others_below count count es (omega arith) front.1) (others_above (first + count) before high) in
      let parts : take count es ++ ((before ++ e ∷ []) ++ drop count es)
      ≡ (take count es ++ before) ++ e ∷ drop count es =
      ap (λ (zs : Entries). take count es ++ zs) (append_assoc before (e ∷ []) (drop count es))
      ∙ sym (append_assoc (take count es) before (e ∷ drop count es)) in
      ap (λ (zs : Entries). touched_one k (touched n i first count (lru_cache zs cap)))
      (sym (append_assoc before (e ∷ []) es))
      ∙ (ap (touched_one k) (passed count (before ++ e ∷ []) es cap next front.1)
      ∙ (ap (λ (zs : Entries). touched_one k (lru_cache zs cap)) parts
      ∙ (to_front k (take count es ++ before) e (drop count es) cap others front.0
      ∙ ap (λ (zs : Entries). lru_cache (e ∷ zs) cap) (append_assoc (take count es) before (drop count es)))))

  take_drop : (count : ℕ) (es : Entries) → take count es ++ drop count es ≡ es
  take_drop zero es = refl
  take_drop (suc count) [] = refl
  take_drop (suc count) (e ∷ es) = ap (λ (zs : Entries). e ∷ zs) (take_drop count es)

  pub front_stays : (count : ℕ) (es : Entries) (cap : ℕ) → IsFront n i first count es
      → touched n i first count (lru_cache es cap) ≡ lru_cache es cap
  front_stays count es cap front =
      passed count [] es cap tt front ∙ ap (λ (zs : Entries). lru_cache zs cap) (take_drop count es)

-- ---- as a walk of the list meets them

module _ (offset left count : ℕ) (some : 0 < left) (part : IsLastPart offset left count) where
  last_end : (m : ℕ) → m ≡ left → block_end offset m ≡ (offset + (left - 1)) / 1024 + 1
  last_end zero is = absurd (omega (arith, some, is))
  last_end (suc m) is = omega (arith, is)

  rest_end : (m : ℕ) → m ≡ left - count → block_end offset m ≡ (offset + (left - 1)) / 1024
  rest_end zero is = omega (arith, some, part, is)
  rest_end (suc m) is = omega (arith, some, part, is)

  pub front_more : (n i : ℕ) (es : Entries) (key : CacheKey) (page : List ℕ) (rest : Entries)
      → es ≡ (key, page) ∷ rest
      → key ≡ key_of n i ((offset + (left - 1)) / 1024)
      → IsFront n i (offset / 1024) (block_count offset (left - count)) rest
      → IsFront n i (offset / 1024) (block_count offset left) es
  front_more n i es key page rest is key_is front =
      let end : block_end offset left ≡ (offset + (left - 1)) / 1024 + 1 = last_end left refl in
      let before : block_end offset (left - count) ≡ (offset + (left - 1)) / 1024 =
      rest_end (left - count) refl in
      let low : offset / 1024 ≤ (offset + (left - 1)) / 1024 = omega arith in
      let blocks : block_count offset left ≡ suc (block_count offset (left - count)) =
      omega (arith, end, before, low) in
      let index : (offset + (left - 1)) / 1024 ≡ offset / 1024 + block_count offset (left - count) =
      omega (arith, before, low) in
      subst (λ (zs : Entries). IsFront n i (offset / 1024) (block_count offset left) zs) (sym is)
      (subst (λ (m : ℕ). IsFront n i (offset / 1024) m ((key, page) ∷ rest)) (sym blocks)
      (key_is ∙ ap (λ (m : ℕ). key_of n i m) index, front))

pub front_begun : (n i offset left : ℕ) (es : Entries) → left ≡ 0
    → IsFront n i (offset / 1024) (block_count offset left) es
front_begun n i offset left es is =
    let none : block_count offset left ≡ 0 = ap (λ (m : ℕ). block_count offset m) is ∙ omega arith in
    subst (λ (count : ℕ). IsFront n i (offset / 1024) count es) (sym none) tt

pub key_equal : (a b : CacheKey) (differ : Bool) → differ ≡ not (is_key a b) → differ ≡ false → a ≡ b
key_equal a b differ is false_is = one_key a b (by (is_key a b) (sym is ∙ false_is))
  where
    by : (t : Bool) → not t ≡ false → t ≡ true
    by true e = refl
    by false e = absurd cc
