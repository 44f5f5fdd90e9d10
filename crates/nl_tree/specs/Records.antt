-- The records of a directory that changed.
use Rattle.std.specs.Prelude.{ℕ, cond, List, [], ◌∷◌, IsSome}
use Rattle.std.specs.Ordering.{nat_cmp, match_ordering}
use Rattle.std.specs.BTreeMap as map
use Rattle.std.specs.Cmp.Lexicographic.{slice_cmp}
use Rattle.nl_types.specs.Plain.Paths.{Name, name_cmp, same_name}
use Rattle.nl_types.specs.declared.kind.Kind.{Kind}
use Rattle.nl_dirs.specs.declared.record.Record.{Record}
use Rattle.nl_tree.specs.Shown.{itself, shown_entries}
use Rattle.nl_tree.specs.declared.listing.Listing.{Listing}

-- a record by its name's key
abbrev pub record_named : {K : Type 0} → (K → Name) → K → ℕ × Kind → Record
record_named bytes k link = record { name = bytes k; inode = link.0; kind = link.1 }

-- the records of a listing, in the order of its names
abbrev pub records_of : Listing → List Record
records_of listing = shown_entries (record_named (λ k. k.items)) itself listing.map.entries

-- the names of the entries ascend
abbrev pub NamesAreOrdered : Listing → Type 0
NamesAreOrdered listing = map.IsOrdered (λ a b. slice_cmp nat_cmp a.items b.items) listing.map

-- a place is kept for the name
abbrev pub HasNamePlace : Listing → Name → Type 0
HasNamePlace listing name = IsSome (map.get_by (λ k. slice_cmp nat_cmp name k.items) listing.map)

-- the record in its place, and not the one that had its name
abbrev pub with_record : Record → List Record → List Record
with_record r [] = r ∷ []
with_record r (x ∷ records) =
    match_ordering (name_cmp r.name x.name) (r ∷ x ∷ records) (r ∷ records) (x ∷ with_record r records)

-- without the record of the name
abbrev pub without_record : Name → List Record → List Record
without_record name [] = []
without_record name (x ∷ records) =
    cond (same_name name x.name) records (x ∷ without_record name records)
