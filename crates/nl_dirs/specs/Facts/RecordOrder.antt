-- Names in their order, and records that ascend by them.
use Rattle.std.proofs.Common.{◌≡◌, ◌≢◌, ℕ, suc, Bool, true, false, cond, List, [], ◌∷◌, ◌++◌, Some, None, refl, sym, ap, ◌∙◌, subst, arith}
use Rattle.std.specs.Prelude.{Option}
use Rattle.std.specs.FinMap.{slice_cmp-IsAntisymmetric, nat_cmp-IsAntisymmetric}
use Rattle.std.specs.Cmp.{tied_itself, Equal-is}
use Rattle.std.specs.Cmp.Lexicographic.{nat_list_cmp_total}
use Rattle.std.specs.Ordering.{is_eq, ordering_reverse}
use Rattle.std.specs.List.{All}
use Rattle.std.specs.declared.cmp.Ordering.{Ordering}
use Rattle.std.specs.declared.cmp.Ordering.TheVariants.{Less, Equal, Greater}
use Rattle.std.proofs.lemmas.Bool.{cond-true, cond-false}
use Rattle.std.proofs.lemmas.List.Elements.{All-head, All-tail, All-weaker, All-cons, All-nil}
use Rattle.nl_types.specs.Plain.Paths.{Name, name_cmp, same_name}
use Rattle.nl_types.specs.declared.kind.Kind.{Kind}
use Rattle.nl_dirs.specs.declared.record.Record.{Record}
use Rattle.nl_dirs.specs.Records.{NamesAscend, entry_of}

-- ---- names

-- names that tie are equal
names_equal : (a b : Name) → name_cmp a b ≡ Equal → a ≡ b
names_equal = slice_cmp-IsAntisymmetric nat_cmp-IsAntisymmetric

pub not_before_itself : (a : Name) → name_cmp a a ≢ Less
not_before_itself a h = let e : name_cmp a a ≡ Equal = tied_itself nat_list_cmp_total a in cc

-- what isn't before a name is behind those before it
pub before_not_before : (a b c : Name) → name_cmp a b ≡ Less → name_cmp c b ≢ Less → name_cmp a c ≡ Less
before_not_before a b c h not = choose (name_cmp c b) refl
  where
    choose : (o : Ordering) → name_cmp c b ≡ o → name_cmp a c ≡ Less
    choose Less e = absurd (not e)
    choose Equal e = subst (λ (n : Name). name_cmp a n ≡ Less) (sym (names_equal c b e)) h
    choose Greater e =
        nat_list_cmp_total.trans a b c h (nat_list_cmp_total.antisymm b c ∙ ap ordering_reverse e)

-- ---- records that ascend

-- the name comes before those of all the records
abbrev pub IsBeforeAll : Name → List Record → Type 0
IsBeforeAll name records = All (λ (r : Record). name_cmp name r.name ≡ Less) records

pub ascending-head : (r : Record) (rs : List Record) → NamesAscend (r ∷ rs) → IsBeforeAll r.name rs
ascending-head r rs h k d l = h 0 (suc k) d (omega arith) (omega arith)

pub ascending-tail : (r : Record) (rs : List Record) → NamesAscend (r ∷ rs) → NamesAscend rs
ascending-tail r rs h i j d lt l = h (suc i) (suc j) d (omega arith) (omega arith)

pub ascending-right : (xs ys : List Record) → NamesAscend (xs ++ ys) → NamesAscend ys
ascending-right [] ys h = h
ascending-right (x ∷ xs) ys h = ascending-right xs ys (ascending-tail x (xs ++ ys) h)

pub all-right : (P : Record → Type 0) (xs ys : List Record) → All P (xs ++ ys) → All P ys
all-right P [] ys h = h
all-right P (x ∷ xs) ys h = all-right P xs ys (All-tail P x (xs ++ ys) h)

-- the records of the front come before the one behind them
pub ascending-across : (xs : List Record) (n : Record) (rest : List Record) → NamesAscend (xs ++ n ∷ rest)
    → All (λ (x : Record). name_cmp x.name n.name ≡ Less) xs
ascending-across [] n rest h = All-nil (λ (x : Record). name_cmp x.name n.name ≡ Less)
ascending-across (x ∷ xs) n rest h =
    let here : IsBeforeAll x.name (n ∷ rest) =
    all-right (λ (r : Record). name_cmp x.name r.name ≡ Less) xs (n ∷ rest)
    (ascending-head x (xs ++ n ∷ rest) h) in
    All-cons (λ (y : Record). name_cmp y.name n.name ≡ Less) x xs
    (All-head (λ (r : Record). name_cmp x.name r.name ≡ Less) n rest here)
    (ascending-across xs n rest (ascending-tail x (xs ++ n ∷ rest) h))

-- what comes before the first comes before all
pub before_first : (name : Name) (r : Record) (rs : List Record) → NamesAscend (r ∷ rs)
    → name_cmp name r.name ≡ Less → IsBeforeAll name (r ∷ rs)
before_first name r rs h less = All-cons (λ (s : Record). name_cmp name s.name ≡ Less) r rs less
    (All-weaker (λ (s : Record). name_cmp r.name s.name ≡ Less) (λ (s : Record). name_cmp name s.name ≡ Less)
    (λ s. nat_list_cmp_total.trans name r.name s.name less) rs (ascending-head r rs h))

-- ---- what a name stands for

pub entry_of-first : (r : Record) (rs : List Record) → entry_of r.name (r ∷ rs) ≡ Some (r.inode, r.kind)
entry_of-first r rs =
    cond-true (same_name r.name r.name) _ _ (ap is_eq (tied_itself nat_list_cmp_total r.name))

pub entry_of-before : (name : Name) (rs : List Record) → IsBeforeAll name rs → entry_of name rs ≡ None
entry_of-before name [] h = refl
entry_of-before name (r ∷ rs) h =
    cond-false (same_name name r.name) _ _
    (ap is_eq (All-head (λ (s : Record). name_cmp name s.name ≡ Less) r rs h))
    ∙ entry_of-before name rs (All-tail (λ (s : Record). name_cmp name s.name ≡ Less) r rs h)

-- the name is behind those of the front
pub entry_of-behind : (name : Name) (xs ys : List Record)
    → All (λ (x : Record). name_cmp x.name name ≡ Less) xs → entry_of name (xs ++ ys) ≡ entry_of name ys
entry_of-behind name [] ys h = refl
entry_of-behind name (x ∷ xs) ys h =
    let less : name_cmp x.name name ≡ Less = All-head (λ (r : Record). name_cmp r.name name ≡ Less) x xs h in
    cond-false (same_name name x.name) _ _
    (ap is_eq (nat_list_cmp_total.antisymm name x.name ∙ ap ordering_reverse less))
    ∙ entry_of-behind name xs ys (All-tail (λ (r : Record). name_cmp r.name name ≡ Less) x xs h)

pub entry_of-front : (name : Name) (xs ys : List Record) → entry_of name ys ≡ None
    → entry_of name (xs ++ ys) ≡ entry_of name xs
entry_of-front name [] ys h = h
entry_of-front name (x ∷ xs) ys h =
    ap (cond (same_name name x.name) (Some (x.inode, x.kind))) (entry_of-front name xs ys h)

-- ---- lists with the same map

same_record : (x y : Record) → x.name ≡ y.name
    → ◌≡◌ {A = Option (ℕ × Kind)} (Some (x.inode, x.kind)) (Some (y.inode, y.kind)) → x ≡ y
same_record x y n e =
    let pairs : ◌≡◌ {A = ℕ × Kind} (x.inode, x.kind) (y.inode, y.kind) = cc in
    let inodes : x.inode ≡ y.inode = ap (λ (p : ℕ × Kind). p.0) pairs in
    let kinds : x.kind ≡ y.kind = ap (λ (p : ℕ × Kind). p.1) pairs in
    λ i. record { name = n i; inode = inodes i; kind = kinds i }

-- two lists that ascend and have the same map are the same list
pub same_records : (xs ys : List Record) → NamesAscend xs → NamesAscend ys
    → ((name : Name) → entry_of name xs ≡ entry_of name ys) → xs ≡ ys
same_records [] [] a b h = refl
same_records [] (y ∷ ys) a b h =
    let e : ◌≡◌ {A = Option (ℕ × Kind)} None (Some (y.inode, y.kind)) = h y.name ∙ entry_of-first y ys in cc
same_records (x ∷ xs) [] a b h =
    let e : ◌≡◌ {A = Option (ℕ × Kind)} (Some (x.inode, x.kind)) None =
    sym (entry_of-first x xs) ∙ h x.name in
    cc
same_records (x ∷ xs) (y ∷ ys) a b h = choose (name_cmp x.name y.name) refl
    (λ n.
    same_records xs ys (ascending-tail x xs a) (ascending-tail y ys b)
    (λ name. tails n name (same_name name x.name) refl))
  where
    tails : x.name ≡ y.name → (name : Name) (t : Bool) → same_name name x.name ≡ t
        → entry_of name xs ≡ entry_of name ys
    tails n name true t =
        let same : name ≡ x.name = names_equal name x.name ((Equal-is (name_cmp name x.name)).0 t) in
        subst (λ (m : Name). entry_of m xs ≡ entry_of m ys) (sym same)
        (entry_of-before x.name xs (ascending-head x xs a)
        ∙ sym (subst (λ (m : Name). entry_of m ys ≡ None) (sym n)
        (entry_of-before y.name ys (ascending-head y ys b))))
    tails n name false t =
        let other : same_name name y.name ≡ false = subst (λ (m : Name). same_name name m ≡ false) n t in
        sym (cond-false (same_name name x.name) _ _ t)
        ∙ (h name ∙ cond-false (same_name name y.name) _ _ other)

    choose : (o : Ordering) → name_cmp x.name y.name ≡ o → (x.name ≡ y.name → xs ≡ ys) → (x ∷ xs) ≡ (y ∷ ys)
    choose Less e behind =
        let none : entry_of x.name (y ∷ ys) ≡ None =
        entry_of-before x.name (y ∷ ys) (before_first x.name y ys b e) in
        let some : entry_of x.name (y ∷ ys) ≡ Some (x.inode, x.kind) = sym (h x.name) ∙ entry_of-first x xs in
        cc
    choose Greater e behind =
        let less : name_cmp y.name x.name ≡ Less =
        nat_list_cmp_total.antisymm y.name x.name ∙ ap ordering_reverse e in
        let none : entry_of y.name (x ∷ xs) ≡ None =
        entry_of-before y.name (x ∷ xs) (before_first y.name x xs a less) in
        let some : entry_of y.name (x ∷ xs) ≡ Some (y.inode, y.kind) = h y.name ∙ entry_of-first y ys in
        cc
    choose Equal e behind =
        let n : x.name ≡ y.name = names_equal x.name y.name e in
        let found : entry_of x.name (y ∷ ys) ≡ Some (y.inode, y.kind) =
        subst (λ (m : Name). entry_of m (y ∷ ys) ≡ Some (y.inode, y.kind)) (sym n)
        (entry_of-first y ys) in
        let first : x ≡ y = same_record x y n (sym (entry_of-first x xs) ∙ (h x.name ∙ found)) in
        let rest : xs ≡ ys = behind n in
        cc
