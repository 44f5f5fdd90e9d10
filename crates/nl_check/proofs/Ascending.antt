-- Names in ascending order.
use Rattle.std.proofs.Common.{◌≡◌, ℕ, true, ◌-◌, ◌<◌, ◌≤◌, ◌⊎◌, List, length, get_or, refl, ap, sym, ◌∙◌, arith, inl, inr}
use Rattle.std.specs.Prelude.{Some}
use Rattle.std.specs.List.{All, slice_get}
use Rattle.std.specs.Ordering.{is_lt}
use Rattle.std.specs.declared.cmp.Ordering.{Ordering}
use Rattle.std.specs.declared.cmp.Ordering.TheVariants.{Less, Equal, Greater}
use Rattle.std.proofs.lemmas.Bool.{cases_lt}
use Rattle.std.proofs.lemmas.Cmp.{nat_list_cmp_total}
use Rattle.std.proofs.lemmas.Option.{get_or_from_slice_get, slice_get_within}
use Rattle.nl_types.specs.Plain.Paths.{Name, name_cmp}
use Rattle.nl_dirs.specs.declared.record.Record.{Record}
use Rattle.nl_dirs.specs.Records.{NamesAscend}

is_lt-Less : (o : Ordering) → is_lt o ≡ true → o ≡ Less
is_lt-Less Less e = refl
is_lt-Less Equal e = cc
is_lt-Less Greater e = cc

-- the name comes behind those of all the records
abbrev pub IsBehind : Name → List Record → Type 0
IsBehind name records = All (λ r. name_cmp r.name name ≡ Less) records

-- a name comes behind those of records in ascending order, if it comes behind the last one
pub behind_last : (records : List Record) (last : Record) (name : Name) → NamesAscend records
    → slice_get records (length records - 1) ≡ Some last → is_lt (name_cmp last.name name) ≡ true
    → IsBehind name records
behind_last records last name ascending at less k d within = of_place (cases_lt k (length records - 1))
  where
    before : name_cmp last.name name ≡ Less
    before = is_lt-Less (name_cmp last.name name) less

    is_last : (i : ℕ) → i ≡ length records - 1 → get_or records i d ≡ last
    is_last i e = get_or_from_slice_get records i last d (ap (slice_get records) e ∙ at)

    of_place : (k < length records - 1) ⊎ (length records - 1 ≤ k)
        → name_cmp (get_or records k d).name name ≡ Less
    of_place (inl earlier) =
        let step : name_cmp (get_or records k d).name (get_or records (length records - 1) d).name ≡ Less =
        ascending k (length records - 1) d earlier
        (slice_get_within records (length records - 1) last at) in
        nat_list_cmp_total.trans (get_or records k d).name last.name name
        (ap (λ (r : Record). name_cmp (get_or records k d).name r.name)
        (sym (is_last (length records - 1) refl))
        ∙ step)
        before
    of_place (inr later) = ap (λ (r : Record). name_cmp r.name name) (is_last k (omega arith)) ∙ before

pub last_before : (records : List Record) (last : Record) (name : Name)
    → slice_get records (length records - 1) ≡ Some last → IsBehind name records
    → is_lt (name_cmp last.name name) ≡ true
last_before records last name at behind =
    let e : get_or records (length records - 1) last ≡ last =
    get_or_from_slice_get records (length records - 1) last last at in
    let less : name_cmp (get_or records (length records - 1) last).name name ≡ Less =
    behind (length records - 1) last (slice_get_within records (length records - 1) last at) in
    ap is_lt (ap (λ (r : Record). name_cmp r.name name) (sym e) ∙ less)
