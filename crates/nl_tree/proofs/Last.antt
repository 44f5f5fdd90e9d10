-- A record behind all others.
use Rattle.std.proofs.Common.{◌≡◌, suc, ◌<◌, arith, List, [], ◌∷◌, ◌++◌, length, Less, Greater, refl, sym, ap, ◌∙◌, subst}
use Rattle.std.specs.Prelude.{slice_index_or}
use Rattle.std.specs.Ordering.{ordering_reverse}
use Rattle.std.specs.Cmp.Lexicographic.{nat_list_cmp_total}
use Rattle.std.proofs.lemmas.List.{append_assoc}
use Rattle.nl_types.specs.Plain.Paths.{Name, name_cmp}
use Rattle.nl_dirs.specs.declared.record.Record.{Record}
use Rattle.nl_dirs.specs.Records.{NamesAscend}
use Rattle.nl_tree.specs.Records.{with_record}

at_length : (rs rest : List Record) (r d : Record) → slice_index_or (rs ++ r ∷ rest) (length rs) d ≡ r
at_length [] rest r d = refl
at_length (x ∷ rs) rest r d = at_length rs rest r d

within : (rs rest : List Record) (r : Record) → length rs < length (rs ++ r ∷ rest)
within [] rest r = omega arith
within (x ∷ rs) rest r = omega (arith, within rs rest r)

tail_ascending : (x : Record) (xs : List Record) → NamesAscend (x ∷ xs) → NamesAscend xs
tail_ascending x xs h i j d before inside =
    h (suc i) (suc j) d (omega (arith, before)) (omega (arith, inside))

greater : (a b : Name) → name_cmp a b ≡ Less → name_cmp b a ≡ Greater
greater a b h = nat_list_cmp_total.antisymm b a ∙ ap ordering_reverse h

pub put_last : (rs rest : List Record) (r : Record) → NamesAscend (rs ++ r ∷ rest)
    → with_record r rs ≡ rs ++ r ∷ []
put_last [] rest r h = refl
put_last (x ∷ rs) rest r h =
    let first : name_cmp x.name r.name ≡ Less =
    ap (λ (y : Record). name_cmp x.name y.name) (sym (at_length rs rest r r))
    ∙ h 0 (suc (length rs)) r (omega arith) (omega (arith, within rs rest r)) in
    rw (greater x.name r.name first)
    (ap (λ (xs : List Record). x ∷ xs) (put_last rs rest r (tail_ascending x (rs ++ r ∷ rest) h)))

-- one more record is added, of those that ascend
pub put_next : (all rs new rest : List Record) (r : Record) → NamesAscend all → rs ++ r ∷ rest ≡ all
    → new ≡ with_record r rs → new ++ rest ≡ all
put_next all rs new rest r ascending is put =
    let ordered : NamesAscend (rs ++ r ∷ rest) = subst NamesAscend (sym is) ascending in
    ap (λ (xs : List Record). xs ++ rest) (put ∙ put_last rs rest r ordered) ∙ append_assoc rs (r ∷ []) rest
    ∙ is
