-- What a volume has once those that come over are there.
use Rattle.std.proofs.Common.{◌≡◌, ℕ, suc, ◌+◌, ◌<◌, ◌≤◌, Bool, true, false, cond, ◌&&◌, ◌||◌, List, [], ◌∷◌, ◌++◌, refl, sym, ap, ◌∙◌, true≢false, arith, inl, inr, max, add-one}
use Rattle.std.specs.Prelude.{◌==◌, nat_lt}
use Rattle.std.proofs.lemmas.Bool.{eq-eqb, le-ltb, lt-ltb, ltb-false, ltb-true}
use Rattle.std.proofs.lemmas.List.{append-nil, append_assoc}
use Rattle.nl_words.specs.declared.copying.Kept.{Kept}
use Rattle.nl_words.specs.Coming.{are_alike, begin_alike, behind_first, chosen, comes, count_like, is_lacking, is_missing, is_own, latest_stamp}
use Rattle.nl_words.specs.Copied.{AreEvened, AreNotBefore, AreOf, EachComesOrIsMissing, NeverFall}

-- ---- tests

and_first : (a b : Bool) → (a && b) ≡ true → a ≡ true
and_first true b is = refl
and_first false b is = is

and_second : (a b : Bool) → (a && b) ≡ true → b ≡ true
and_second true b is = is
and_second false b is = absurd (true≢false (sym is))

is_same : (m n : ℕ) → (m == n) ≡ true → m ≡ n
is_same m n is = grind (arith, is)

same_number : (n : ℕ) → (n == n) ≡ true
same_number n = grind (arith)

-- ---- checkpoints that are alike

record IsLike (k l : Kept) : Type 0 where
  own : is_own l ≡ true
  stamp : k.row.stamp ≡ l.row.stamp
  tree : k.tree ≡ l.tree

like : (k l : Kept) → are_alike k l ≡ true → IsLike k l
like k l is =
    let owns = and_first (is_own k && is_own l) (k.row.stamp == l.row.stamp && k.tree == l.tree) is in
    let both = and_second (is_own k && is_own l) (k.row.stamp == l.row.stamp && k.tree == l.tree) is in
    record {
      own = and_second (is_own k) (is_own l) owns;
      stamp = is_same k.row.stamp l.row.stamp (and_first (k.row.stamp == l.row.stamp) (k.tree == l.tree) both);
      tree = is_same k.tree l.tree (and_second (k.row.stamp == l.row.stamp) (k.tree == l.tree) both);
    }

own_of : (k l : Kept) → are_alike k l ≡ true → is_own k ≡ true
own_of k l is =
    and_first (is_own k) (is_own l)
    (and_first (is_own k && is_own l) (k.row.stamp == l.row.stamp && k.tree == l.tree) is)

-- what is alike to one of two that are alike is so to the other
alike_to_both : (k l m : Kept) → are_alike k l ≡ true → are_alike l m ≡ are_alike k m
alike_to_both k l m is =
    let it = like k l is in
    ap (λ o. (o && is_own m) && (l.row.stamp == m.row.stamp && l.tree == m.tree)) (it.own ∙ sym (own_of k l is))
    ∙ ap (λ s. (is_own k && is_own m) && (s == m.row.stamp && l.tree == m.tree)) (sym it.stamp)
    ∙ ap (λ t. (is_own k && is_own m) && (k.row.stamp == m.row.stamp && t == m.tree)) (sym it.tree)

counts_are_one : (k l : Kept) (all : List Kept) → are_alike k l ≡ true → count_like l all ≡ count_like k all
counts_are_one k l [] is = refl
counts_are_one k l (m ∷ all) is =
    ap (λ a. cond a (suc (count_like l all)) (count_like l all)) (alike_to_both k l m is)
    ∙ ap (λ n. cond (are_alike k m) (suc n) n) (counts_are_one k l all is)

one_more : Bool → ℕ → ℕ
one_more true n = suc n
one_more false n = n

count_append : (k : Kept) (xs ys : List Kept) → count_like k (xs ++ ys) ≡ count_like k xs + count_like k ys
count_append k [] ys = omega arith
count_append k (l ∷ xs) ys = by_alike (count_append k xs ys) (are_alike k l)
  where
    by_alike : count_like k (xs ++ ys) ≡ count_like k xs + count_like k ys → (a : Bool)
        → cond a (suc (count_like k (xs ++ ys))) (count_like k (xs ++ ys))
        ≡ cond a (suc (count_like k xs)) (count_like k xs) + count_like k ys
    by_alike rest true = omega (arith, rest)
    by_alike rest false = rest

-- ---- those that are chosen, by how many there are so far

-- one after these, which is chosen where there are fewer elsewhere than so far
evened_by_one : (a g : Bool) (n s c m : ℕ) → (a ≡ true → g ≡ nat_lt n (suc s))
    → c + max n (s + cond a 1 0) ≡ m → cond g (cond a (suc c) c) c + max n s ≡ m
evened_by_one false false n s c m by is = omega (arith, is)
evened_by_one false true n s c m by is = omega (arith, is)
evened_by_one true true n s c m by is = let less = ltb-true n (suc s) (sym (by refl)) in omega (arith, is, less)
evened_by_one true false n s c m by is = let more = ltb-false n (suc s) (sym (by refl)) in omega (arith, is, more)

count_of_chosen : (g : Bool) (k l : Kept) (rows : List Kept)
    → count_like k (cond g (l ∷ rows) rows)
    ≡ cond g (cond (are_alike k l) (suc (count_like k rows)) (count_like k rows)) (count_like k rows)
count_of_chosen true k l rows = refl
count_of_chosen false k l rows = refl

count_of_one : (k l : Kept) → count_like k (l ∷ []) ≡ cond (are_alike k l) 1 0
count_of_one k l = refl

count_with_one : (k l : Kept) (rows : List Kept)
    → count_like k (rows ++ l ∷ []) ≡ count_like k rows + cond (are_alike k l) 1 0
count_with_one k l rows = count_append k rows (l ∷ [])

-- it counts those that come before it too
abbrev ChoosesLacking : (List Kept → Kept → Bool) → Kept → ℕ → Type 0
ChoosesLacking choose k n =
    (so_far : List Kept) (l : Kept) → are_alike k l ≡ true
    → choose (so_far ++ l ∷ []) l ≡ nat_lt n (count_like k (so_far ++ l ∷ []))

all_are_evened : (choose : List Kept → Kept → Bool) (k : Kept) (n : ℕ) → ChoosesLacking choose k n
    → (so_far rows : List Kept)
    → count_like k (chosen choose so_far rows) + max n (count_like k so_far) ≡ max n (count_like k (so_far ++ rows))
all_are_evened choose k n by so_far [] =
    let same = ap (λ (l : List Kept). max n (count_like k l)) (append-nil so_far) in omega (arith, same)
all_are_evened choose k n by so_far (l ∷ rows) =
    let now = so_far ++ l ∷ [] in
    let rest = chosen choose now rows in
    ap (λ (c : ℕ). c + max n (count_like k so_far)) (count_of_chosen (choose now l) k l rest)
    ∙ evened_by_one (are_alike k l) (choose now l) n (count_like k so_far) (count_like k rest)
    (max n (count_like k (so_far ++ l ∷ rows)))
    (λ is. by so_far l is ∙ ap (nat_lt n) (count_with_one k l so_far ∙ ap (λ a. count_like k so_far + cond a 1 0) is ∙ add-one _))
    (ap (λ (c : ℕ). count_like k rest + max n c) (sym (count_with_one k l so_far))
    ∙ all_are_evened choose k n by now rows
    ∙ ap (λ (l : List Kept). max n (count_like k l)) (append_assoc so_far (l ∷ []) rows))

-- where none is chosen of those that are alike
none_is_chosen : (choose : List Kept → Kept → Bool) (k : Kept)
    → ((so_far : List Kept) (l : Kept) → are_alike k l ≡ true → choose so_far l ≡ false)
    → (so_far rows : List Kept) → count_like k (chosen choose so_far rows) ≡ 0
none_is_chosen choose k by so_far [] = refl
none_is_chosen choose k by so_far (l ∷ rows) =
    let now = so_far ++ l ∷ [] in
    let rest = chosen choose now rows in
    count_of_chosen (choose now l) k l rest
    ∙ ap (λ (c : ℕ). cond (choose now l) (cond (are_alike k l) (suc c) c) c) (none_is_chosen choose k by now rows)
    ∙ not_counted (choose now l) (are_alike k l) (by now l)
  where
    not_counted : (g a : Bool) → (a ≡ true → g ≡ false) → ◌≡◌ {A = ℕ} (cond g (cond a 1 0) 0) 0
    not_counted false a is = refl
    not_counted true false is = refl
    not_counted true true is = absurd (true≢false (is refl))

-- ---- those that are chosen are of the rows

are_of_more : (some : List Kept) (l : Kept) (rows : List Kept) → AreOf some rows → AreOf some (l ∷ rows)
are_of_more [] l rows are = tt
are_of_more (k ∷ some) l rows are = inr are

chosen_are_of : (choose : List Kept → Kept → Bool) (so_far rows : List Kept) → AreOf (chosen choose so_far rows) rows
chosen_are_of choose so_far [] = tt
chosen_are_of choose so_far (l ∷ rows) =
    by_choice (choose (so_far ++ l ∷ []) l) (chosen_are_of choose (so_far ++ l ∷ []) rows)
  where
    by_choice : (g : Bool) → AreOf (chosen choose (so_far ++ l ∷ []) rows) rows
        → AreOf (cond g (l ∷ chosen choose (so_far ++ l ∷ []) rows) (chosen choose (so_far ++ l ∷ []) rows)) (l ∷ rows)
    by_choice true are = inl (refl, are)
    by_choice false are = are_of_more (chosen choose (so_far ++ l ∷ []) rows) l rows are

-- ---- dates

first_is_not_later : (stamp : ℕ) (rows : List Kept) → AreNotBefore stamp rows → NeverFall rows
    → stamp ≤ latest_stamp stamp rows
first_is_not_later stamp [] before falls = omega arith
first_is_not_later stamp (k ∷ rows) before falls =
    let rest = first_is_not_later k.row.stamp rows falls.0 falls.1 in omega (arith, rest, before.0)

other_stamp : (k l : Kept) → l.row.stamp < k.row.stamp → are_alike k l ≡ false
other_stamp k l less = by_stamp (k.row.stamp == l.row.stamp) (is_own k && is_own l) (k.tree == l.tree) differ
  where
    differ : (k.row.stamp == l.row.stamp) ≡ false
    differ = grind (arith, less)

    by_stamp : (s o t : Bool) → s ≡ false → (o && (s && t)) ≡ false
    by_stamp true o t is = absurd (true≢false is)
    by_stamp false true t is = refl
    by_stamp false false t is = refl

none_is_later : (k : Kept) (stamp : ℕ) (rows : List Kept) → NeverFall rows → latest_stamp stamp rows < k.row.stamp
    → count_like k rows ≡ 0
none_is_later k stamp [] falls later = refl
none_is_later k stamp (l ∷ rows) falls later =
    let first = first_is_not_later l.row.stamp rows falls.0 falls.1 in
    let less : l.row.stamp < k.row.stamp = omega (arith, first, later) in
    ap (λ a. cond a (suc (count_like k rows)) (count_like k rows)) (other_stamp k l less)
    ∙ none_is_later k l.row.stamp rows falls.1 later

none_is_later_behind : (passed : Bool) (k : Kept) (rows : List Kept) → NeverFall rows
    → latest_stamp 0 rows < k.row.stamp → count_like k (behind_first passed rows) ≡ 0
none_is_later_behind true k [] falls later = refl
none_is_later_behind true k (l ∷ rows) falls later = none_is_later k l.row.stamp rows falls.1 later
none_is_later_behind false k rows falls later = none_is_later k 0 rows falls later

-- ---- which come and which are missing

is_counted : (k l : Kept) (so_far : List Kept) → are_alike k l ≡ true → 0 < count_like k (so_far ++ l ∷ [])
is_counted k l so_far is =
    let all = count_with_one k l so_far ∙ ap (λ a. count_like k so_far + cond a 1 0) is in omega (arith, all)

later_or_lacking : (latest stamp n m : ℕ) → latest ≤ stamp → (latest < stamp → n ≡ 0) → 0 < m
    → (nat_lt latest stamp || (stamp == latest && nat_lt n m)) ≡ nat_lt n m
later_or_lacking latest stamp n m not_earlier later counted = by_test (nat_lt latest stamp) refl
  where
    by_test : (t : Bool) → nat_lt latest stamp ≡ t → (t || (stamp == latest && nat_lt n m)) ≡ nat_lt n m
    by_test true is =
        let none = later (ltb-true latest stamp is) in sym (lt-ltb n m (omega (arith, none, counted)))
    by_test false is =
        let not_later = ltb-false latest stamp is in
        ap (λ s. s && nat_lt n m) (eq-eqb stamp latest (omega (arith, not_earlier, not_later)))

-- of a date that isn't earlier than the latest: where it is later, there is none among the others
comes_where_lacking : (latest : ℕ) (others : List Kept) (k : Kept) → latest ≤ k.row.stamp
    → (latest < k.row.stamp → count_like k others ≡ 0)
    → ChoosesLacking (comes latest others) k (count_like k others)
comes_where_lacking latest others k not_earlier later so_far l is =
    let it = like k l is in
    let now = so_far ++ l ∷ [] in
    ap (λ o. o && (nat_lt latest l.row.stamp || (l.row.stamp == latest && is_lacking others now l))) it.own
    ∙ ap (λ s. nat_lt latest s || (s == latest && is_lacking others now l)) (sym it.stamp)
    ∙ ap (λ n. nat_lt latest k.row.stamp || (k.row.stamp == latest && nat_lt n (count_like l now)))
    (counts_are_one k l others is)
    ∙ ap (λ n. nat_lt latest k.row.stamp || (k.row.stamp == latest && nat_lt (count_like k others) n))
    (counts_are_one k l now is)
    ∙ later_or_lacking latest k.row.stamp (count_like k others) (count_like k now) not_earlier later
    (is_counted k l so_far is)

is_missing_where_lacking : (latest : ℕ) (others : List Kept) (k : Kept) → k.row.stamp < latest
    → ChoosesLacking (is_missing latest others) k (count_like k others)
is_missing_where_lacking latest others k earlier so_far l is =
    let it = like k l is in
    let now = so_far ++ l ∷ [] in
    ap (λ o. o && (nat_lt l.row.stamp latest && is_lacking others now l)) it.own
    ∙ ap (λ s. nat_lt s latest && is_lacking others now l) (sym it.stamp)
    ∙ ap (λ t. t && is_lacking others now l) (lt-ltb k.row.stamp latest earlier)
    ∙ ap (λ n. nat_lt n (count_like l now)) (counts_are_one k l others is)
    ∙ ap (nat_lt (count_like k others)) (counts_are_one k l now is)

not_and : (o t x : Bool) → t ≡ false → (o && (t && x)) ≡ false
not_and true t x is = ap (λ s. s && x) is
not_and false t x is = refl

none_comes : (latest : ℕ) (others : List Kept) (k : Kept) → k.row.stamp < latest → (so_far : List Kept) (l : Kept)
    → are_alike k l ≡ true → comes latest others so_far l ≡ false
none_comes latest others k earlier so_far l is =
    let stamp = (like k l is).stamp in
    let not_later : nat_lt latest l.row.stamp ≡ false = le-ltb latest l.row.stamp (omega (arith, earlier, stamp)) in
    let not_same : (l.row.stamp == latest) ≡ false = grind (arith, earlier, stamp) in
    ap (λ t. is_own l && (t || (l.row.stamp == latest && is_lacking others so_far l))) not_later
    ∙ not_and (is_own l) (l.row.stamp == latest) (is_lacking others so_far l) not_same

none_is_missing : (latest : ℕ) (others : List Kept) (k : Kept) → latest ≤ k.row.stamp → (so_far : List Kept) (l : Kept)
    → are_alike k l ≡ true → is_missing latest others so_far l ≡ false
none_is_missing latest others k not_earlier so_far l is =
    let stamp = (like k l is).stamp in
    not_and (is_own l) (nat_lt l.row.stamp latest) (is_lacking others so_far l)
    (le-ltb l.row.stamp latest (omega (arith, not_earlier, stamp)))

are_evened : (choose : List Kept → Kept → Bool) (here there : List Kept) (k : Kept)
    → ChoosesLacking choose k (count_like k here) → AreEvened here (chosen choose [] there) there k
are_evened choose here there k by =
    let come = chosen choose [] there in
    let all : count_like k (here ++ come) ≡ count_like k here + count_like k come = count_append k here come in
    let more : count_like k come + max (count_like k here) 0 ≡ max (count_like k here) (count_like k there) =
    all_are_evened choose k (count_like k here) by [] there in
    omega (arith, all, more)

pub each_comes_or_is_missing : EachComesOrIsMissing
each_comes_or_is_missing rows others falls =
    let passed = begin_alike rows others in
    let there = behind_first passed rows in
    let here = behind_first passed others in
    let latest = latest_stamp 0 others in (
      chosen_are_of (comes latest here) [] there,
      chosen_are_of (is_missing latest here) [] there,
      (λ k own not_earlier. (
        are_evened (comes latest here) here there k
            (comes_where_lacking latest here k not_earlier (none_is_later_behind passed k others falls)),
        none_is_chosen (is_missing latest here) k (none_is_missing latest here k not_earlier) [] there,
      )),
      λ k own earlier. (
        are_evened (is_missing latest here) here there k (is_missing_where_lacking latest here k earlier),
        none_is_chosen (comes latest here) k (none_comes latest here k earlier) [] there,
      ),
    )
