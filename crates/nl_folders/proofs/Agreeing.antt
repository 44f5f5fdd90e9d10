-- Paths that begin alike, and what lies between two of them.
use Rattle.std.proofs.Common.{◌≡◌, ℕ, zero, suc, ◌+◌, ◌<◌, ◌≤◌, true, [], ◌∷◌, ◌++◌, refl, sym, ap, ◌∙◌, true≢false, length, take, drop, get_or, arith}
use Rattle.std.specs.declared.cmp.Ordering.TheVariants.{Less, Equal, Greater}
use Rattle.std.specs.Ordering.{is_lt, is_eq, ordering_then, ordering_reverse}
use Rattle.std.specs.Cmp.{tied_itself}
use Rattle.std.specs.Cmp.Lexicographic.{nat_list_cmp_total}
use Rattle.std.proofs.lemmas.List.{take_more}
use Rattle.nl_types.specs.Plain.Paths.{Name, Path, name_cmp, path_cmp, same_name}
use Rattle.nl_types.specs.Facts.Lookups.{same_name-equal}
use Rattle.nl_folders.specs.Private.Agreeing.{AgreeOn}

-- so they do on fewer names
pub agree_less : (k j : ℕ) (p q : Path) → j ≤ k → AgreeOn k p q → AgreeOn j p q
agree_less zero zero p q within same = refl
agree_less zero (suc j) p q within same = absurd (omega (arith, within))
agree_less (suc k) zero p q within same = refl
agree_less (suc k) (suc j) [] [] within same = refl
agree_less (suc k) (suc j) [] (m ∷ q) within same = cc
agree_less (suc k) (suc j) (n ∷ p) [] within same = cc
agree_less (suc k) (suc j) (n ∷ p) (m ∷ q) within same =
    let first : n ≡ m = cc in
    let rest : take k p ≡ take k q = cc in
    let less = agree_less k j p q (omega (arith, within)) rest in
    cc

-- and on the next name, if that is the same
pub agree_more : (k : ℕ) (p q : Path) (n m : Name) → k < length p → k < length q
    → n ≡ get_or p k n → m ≡ get_or q k m → same_name n m ≡ true → AgreeOn k p q → AgreeOn (k + 1) p q
agree_more k p q n m in_p in_q is_n is_m same agree =
    let next_p = take_more p k n in_p ∙ ap (λ (x : Name). take k p ++ x ∷ []) (sym is_n) in
    let next_q = take_more q k m in_q ∙ ap (λ (x : Name). take k q ++ x ∷ []) (sym is_m) in
    let one = same_name-equal n m same in
    next_p
    ∙ ap (λ (x : Name). take k p ++ x ∷ []) one
    ∙ ap (λ (names : Path). names ++ m ∷ []) agree
    ∙ sym next_q

-- what is behind the names that they have in common decides their order
pub agree_cmp : (k : ℕ) (p q : Path) → AgreeOn k p q → path_cmp (drop k p) (drop k q) ≡ path_cmp p q
agree_cmp zero p q same = refl
agree_cmp (suc k) [] [] same = refl
agree_cmp (suc k) [] (m ∷ q) same = cc
agree_cmp (suc k) (n ∷ p) [] same = cc
agree_cmp (suc k) (n ∷ p) (m ∷ q) same =
    let first : n ≡ m = cc in
    let rest : take k p ≡ take k q = cc in
    let tied = ap (name_cmp n) (sym first) ∙ tied_itself nat_list_cmp_total n in
    agree_cmp k p q rest ∙ sym (ap (λ o. ordering_then o (path_cmp p q)) tied)

-- what lies between two paths begins as both do
pub agree_between : (k : ℕ) (a b c : Path) → path_cmp a b ≡ Less → path_cmp b c ≡ Less → AgreeOn k a c → AgreeOn k b c
agree_between zero a b c below above same = refl
agree_between (suc k) [] [] [] below above same = refl
agree_between (suc k) [] (x ∷ b) [] below above same = absurd (true≢false (sym (ap is_lt above)))
agree_between (suc k) [] b (z ∷ c) below above same = cc
agree_between (suc k) (n ∷ a) b [] below above same = cc
agree_between (suc k) (n ∷ a) [] (z ∷ c) below above same = absurd (true≢false (sym (ap is_lt below)))
agree_between (suc k) (n ∷ a) (x ∷ b) (z ∷ c) below above same =
    elim (name_cmp n x) as (λ o.
    name_cmp n x ≡ o → ordering_then o (path_cmp a b) ≡ Less → x ∷ take k b ≡ z ∷ take k c) [
      | Less ↦
          λ is _.
          let turned = ap (name_cmp x) (sym first) ∙ nat_list_cmp_total.antisymm x n ∙ ap ordering_reverse is in
          let greater = sym (ap (λ o. ordering_then o (path_cmp b c)) turned) ∙ above in
          absurd (true≢false (sym (ap is_lt greater)))
      | Equal ↦
          λ is less.
          let one : n ≡ x = same_name-equal n x (ap is_eq is) in
          let tied = ap (name_cmp x) (sym first ∙ one) ∙ tied_itself nat_list_cmp_total x in
          let more = sym (ap (λ o. ordering_then o (path_cmp b c)) tied) ∙ above in
          let last = agree_between k a b c less more rest in
          cc
      | Greater ↦ λ is less. absurd (true≢false (sym (ap is_lt less)))
    ] refl below
  where
    first : n ≡ z
    first = cc

    rest : take k a ≡ take k c
    rest = cc
