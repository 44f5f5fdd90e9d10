-- A record put into a directory's list, and one taken out.
use Rattle.std.proofs.Common.{◌≡◌, ℕ, Bool, true, false, cond, List, [], ◌∷◌, Some, None, refl, sym, ap, ◌∙◌, subst, true≢false}
use Rattle.std.specs.Prelude.{Option}
use Rattle.std.specs.List.{All}
use Rattle.std.specs.Ordering.{is_eq, ordering_reverse}
use Rattle.std.specs.Cmp.Lexicographic.{nat_list_cmp_total}
use Rattle.std.specs.declared.cmp.Ordering.{Ordering}
use Rattle.std.specs.declared.cmp.Ordering.TheVariants.{Less, Equal, Greater}
use Rattle.std.proofs.lemmas.List.Elements.{All-head, All-tail, All-cons, All-nil}
use Rattle.std.proofs.lemmas.List.Kept.{AllPairs-cons}
use Rattle.nl_types.specs.Plain.Paths.{Name, name_cmp, same_name}
use Rattle.nl_types.specs.declared.kind.Kind.{Kind}
use Rattle.nl_types.specs.Facts.Lookups.{names_equal, same_name-itself, same_name-equal}
use Rattle.nl_dirs.specs.declared.record.Record.{Record}
use Rattle.nl_dirs.specs.Records.{NamesAscend, entry_of}
use Rattle.nl_dirs.specs.Facts.RecordOrder.{IsBeforeAll, ascending-head, ascending-tail, before_first, entry_of-before}
use Rattle.nl_tree.specs.Records.{with_record, without_record}

-- what a record says of a name, over what was said
abbrev pub said : Record → Name → Option (ℕ × Kind) → Option (ℕ × Kind)
said r name old = cond (same_name name r.name) (Some (r.inode, r.kind)) old

other_name : (name : Name) (r x : Record) → same_name name x.name ≡ true → name_cmp r.name x.name ≡ Greater
    → same_name name r.name ≡ false
other_name name r x same is = choose (same_name name r.name) refl
  where
    choose : (b : Bool) → same_name name r.name ≡ b → same_name name r.name ≡ false
    choose false e = e
    choose true e =
        let both : r.name ≡ x.name = sym (same_name-equal name r.name e) ∙ same_name-equal name x.name same in
        absurd (true≢false
        (sym (same_name-itself x.name) ∙ ap (λ (n : Name). same_name n x.name) (sym both) ∙ ap is_eq is))

-- the name of the record stands for what it says, and every other name for what it stood for
pub entry_of-with : (r : Record) (records : List Record) (name : Name)
    → entry_of name (with_record r records) ≡ said r name (entry_of name records)
entry_of-with r [] name = refl
entry_of-with r (x ∷ records) name = choose (name_cmp r.name x.name) refl (entry_of-with r records name)
  where
    equal : (b : Bool) → same_name name r.name ≡ b → r.name ≡ x.name
        → said r name (entry_of name records) ≡ said r name (entry_of name (x ∷ records))
    equal true e same = rw e refl
    equal false e same =
        let other : same_name name x.name ≡ false = ap (same_name name) (sym same) ∙ e in rw (e, other) refl

    greater : (b : Bool) → same_name name x.name ≡ b → name_cmp r.name x.name ≡ Greater
        → entry_of name (with_record r records) ≡ said r name (entry_of name records)
        → entry_of name (x ∷ with_record r records) ≡ said r name (entry_of name (x ∷ records))
    greater true e is rest = let other = other_name name r x e is in rw (e, other) refl
    greater false e is rest = rw e rest

    choose : (o : Ordering) → name_cmp r.name x.name ≡ o
        → entry_of name (with_record r records) ≡ said r name (entry_of name records)
        → entry_of name (with_record r (x ∷ records)) ≡ said r name (entry_of name (x ∷ records))
    choose Less is rest = rw is refl
    choose Equal is rest = rw is (equal (same_name name r.name) refl (names_equal r.name x.name is))
    choose Greater is rest = rw is (greater (same_name name x.name) refl is rest)

-- the name that is taken out stands for nothing, and every other name for what it stood for
pub entry_of-without : (name : Name) (records : List Record) → NamesAscend records → (n : Name)
    → entry_of n (without_record name records) ≡ cond (same_name n name) None (entry_of n records)
entry_of-without name [] ascend n = nothing (same_name n name)
  where
    nothing : (b : Bool) → ◌≡◌ {A = Option (ℕ × Kind)} None (cond b None None)
    nothing true = refl
    nothing false = refl
entry_of-without name (x ∷ records) ascend n =
    choose (same_name name x.name) refl (entry_of-without name records (ascending-tail x records ascend) n)
  where
    gone : (b : Bool) → same_name n name ≡ b → name ≡ x.name
        → entry_of n records ≡ cond (same_name n name) None (entry_of n (x ∷ records))
    gone true e same =
        let is : n ≡ x.name = same_name-equal n name e ∙ same in
        rw e (subst (λ (m : Name). entry_of m records ≡ None) (sym is)
        (entry_of-before x.name records (ascending-head x records ascend)))
    gone false e same =
        let other : same_name n x.name ≡ false = ap (same_name n) (sym same) ∙ e in rw (e, other) refl

    kept : (b : Bool) → same_name n x.name ≡ b → same_name name x.name ≡ false
        → entry_of n (without_record name records) ≡ cond (same_name n name) None (entry_of n records)
        → entry_of n (x ∷ without_record name records)
        ≡ cond (same_name n name) None (entry_of n (x ∷ records))
    kept true e ne rest =
        let is : n ≡ x.name = same_name-equal n x.name e in
        let other : same_name n name ≡ false = not_same (same_name n name) refl is ne in
        rw (e, other) refl
      where
        not_same : (b : Bool) → same_name n name ≡ b → n ≡ x.name → same_name name x.name ≡ false
            → same_name n name ≡ false
        not_same false e is ne = e
        not_same true e is ne =
            absurd (true≢false
            (sym (same_name-itself x.name)
            ∙ ap (λ (m : Name). same_name m x.name) (sym is ∙ same_name-equal n name e) ∙ ne))
    kept false e ne rest = rw e rest

    choose : (b : Bool) → same_name name x.name ≡ b
        → entry_of n (without_record name records) ≡ cond (same_name n name) None (entry_of n records)
        → entry_of n (without_record name (x ∷ records))
        ≡ cond (same_name n name) None (entry_of n (x ∷ records))
    choose true e rest = rw e (gone (same_name n name) refl (same_name-equal name x.name e))
    choose false e rest = rw e (kept (same_name n x.name) refl e rest)

-- ---- what is true of all records

pub all-with : (P : Record → Type 0) (r : Record) (records : List Record) → P r → All P records
    → All P (with_record r records)
all-with P r [] p h = All-cons P r [] p h
all-with P r (x ∷ records) p h =
    choose (name_cmp r.name x.name) refl (all-with P r records p (All-tail P x records h))
  where
    choose : (o : Ordering) → name_cmp r.name x.name ≡ o → All P (with_record r records)
        → All P (with_record r (x ∷ records))
    choose Less is rest = rw is (All-cons P r (x ∷ records) p h)
    choose Equal is rest = rw is (All-cons P r records p (All-tail P x records h))
    choose Greater is rest = rw is (All-cons P x (with_record r records) (All-head P x records h) rest)

pub all-without : (P : Record → Type 0) (name : Name) (records : List Record) → All P records
    → All P (without_record name records)
all-without P name [] h = h
all-without P name (x ∷ records) h =
    choose (same_name name x.name) refl (all-without P name records (All-tail P x records h))
  where
    choose : (b : Bool) → same_name name x.name ≡ b → All P (without_record name records)
        → All P (without_record name (x ∷ records))
    choose true e rest = rw e (All-tail P x records h)
    choose false e rest = rw e (All-cons P x (without_record name records) (All-head P x records h) rest)

abbrev IsBehind : Record → Record → Type 0
IsBehind a b = name_cmp a.name b.name ≡ Less

pub ascend-with : (r : Record) (records : List Record) → NamesAscend records
    → NamesAscend (with_record r records)
ascend-with r [] ascend = AllPairs-cons IsBehind r [] (All-nil (IsBehind r)) ascend
ascend-with r (x ∷ records) ascend =
    choose (name_cmp r.name x.name) refl (ascend-with r records (ascending-tail x records ascend))
  where
    choose : (o : Ordering) → name_cmp r.name x.name ≡ o → NamesAscend (with_record r records)
        → NamesAscend (with_record r (x ∷ records))
    choose Less is rest =
        rw is (AllPairs-cons IsBehind r (x ∷ records) (before_first r.name x records ascend is) ascend)
    choose Equal is rest =
        rw is (AllPairs-cons IsBehind r records
        (subst (λ (n : Name). IsBeforeAll n records) (sym (names_equal r.name x.name is))
        (ascending-head x records ascend))
        (ascending-tail x records ascend))
    choose Greater is rest =
        let first : name_cmp x.name r.name ≡ Less =
        nat_list_cmp_total.antisymm x.name r.name ∙ ap ordering_reverse is in
        rw is (AllPairs-cons IsBehind x (with_record r records)
        (all-with (IsBehind x) r records first (ascending-head x records ascend)) rest)

pub ascend-without : (name : Name) (records : List Record) → NamesAscend records
    → NamesAscend (without_record name records)
ascend-without name [] ascend = ascend
ascend-without name (x ∷ records) ascend =
    choose (same_name name x.name) refl (ascend-without name records (ascending-tail x records ascend))
  where
    choose : (b : Bool) → same_name name x.name ≡ b → NamesAscend (without_record name records)
        → NamesAscend (without_record name (x ∷ records))
    choose true e rest = rw e (ascending-tail x records ascend)
    choose false e rest =
        rw e (AllPairs-cons IsBehind x (without_record name records)
        (all-without (IsBehind x) name records (ascending-head x records ascend)) rest)
