-- What inodes hold, as bytes and as names.
use Rattle.std.proofs.Common.{◌≡◌, ℕ, true, List, [], ◌∷◌, length, slice_index, inl, inr, Option, Some, None, refl, sym, ap, subst, cond, ◌∙◌, arith}
use Rattle.std.specs.Prelude.{map}
use Rattle.std.specs.Option.{option_map}
use Rattle.std.specs.FinMap.{find, is_sorted}
use Rattle.std.specs.FinMap.Entries.{below_all}
use Rattle.std.specs.declared.cmp.Ordering.TheVariants.{Less}
use Rattle.std.proofs.lemmas.Bool.{cases_lt}
use Rattle.std.proofs.lemmas.List.{get_or_past, length-map}
use Rattle.std.proofs.lemmas.List.Elements.{All-head, All-tail}
use Rattle.std.proofs.lemmas.List.FromFn.{get_or-map-range_with_len, length-map-range_with_len}
use Rattle.nl_types.specs.Blocks.Roots.{Blocks}
use Rattle.nl_types.specs.Plain.Paths.{Name, name_cmp, same_name}
use Rattle.nl_types.specs.Inodes.{Link, Records}
use Rattle.nl_types.specs.InodeChanges.{ListsRecords}
use Rattle.nl_types.specs.Judging.{IsListing, bytes_of}
use Rattle.nl_types.specs.Resolving.{record_in}
use Rattle.nl_tree.specs.Contents.{HoldsBytes}
use Rattle.nl_dirs.specs.declared.record.Record.{Record}
use Rattle.nl_dirs.specs.Records.{NamesAscend, entry_of}
use Rattle.nl_dirs.specs.Facts.RecordOrder.{IsBeforeAll, ascending-head, ascending-tail}
use Rattle.nl_tree.specs.Held.{Held, Holding, IsHolding, Listed, Stored, byte_stored, bytes_stored, held_count, held_record, held_size, inode_content, inodes_of_holding}
use Rattle.nl_tree.specs.Naming.{listed_record, listing_of, listing_of_held}

-- what a directory has under a name is the record of its content
pub held_record-content : (held : Option Held) (name : Name)
    → held_record held name ≡ record_in (option_map inode_content held) name
held_record-content None name = refl
held_record-content (Some (Stored size blocks)) name = refl
held_record-content (Some (Listed records)) name = refl

-- the size of a file is the number of its bytes
pub held_size-content : (held : Option Held)
    → held_size held ≡ length (bytes_of (option_map inode_content held))
held_size-content None = refl
held_size-content (Some (Stored size blocks)) = sym (length-map-range_with_len (byte_stored blocks) 0 size)
held_size-content (Some (Listed records)) = refl

-- ---- listings

pub held_count-listing : (held : Option Held) → held_count held ≡ length (listing_of_held held)
held_count-listing None = refl
held_count-listing (Some (Stored size blocks)) = refl
held_count-listing (Some (Listed records)) = sym (length-map records listed_record)

finds_record : (records : List Record) (name : Name)
    → find name_cmp name (map listed_record records) ≡ entry_of name records
finds_record [] name = refl
finds_record (r ∷ records) name =
    ap (λ rest. cond (same_name name r.name) (Some (r.inode, r.kind)) rest) (finds_record records name)

below_records : (name : Name) (records : List Record) → IsBeforeAll name records
    → below_all name_cmp name (map listed_record records) ≡ true
below_records name [] before = refl
below_records name (r ∷ records) before =
    let here : name_cmp name r.name ≡ Less =
    All-head (λ (x : Record). name_cmp name x.name ≡ Less) r records before in
    rw here
    (below_records name records (All-tail (λ (x : Record). name_cmp name x.name ≡ Less) r records before))

is_sorted-records : (records : List Record) → NamesAscend records
    → is_sorted name_cmp (map listed_record records) ≡ true
is_sorted-records [] ascending = refl
is_sorted-records (r ∷ records) ascending =
    rw (below_records r.name records (ascending-head r records ascending))
    (is_sorted-records records (ascending-tail r records ascending))

pub lists_records : (records : List Record) → NamesAscend records
    → ListsRecords (λ name. entry_of name records) (map listed_record records)
lists_records records ascending =
    record { ascending = is_sorted-records records ascending; finds = finds_record records }

listing_of_held-lists : (held : Option Held) (records : Name → Option Link)
    → option_map inode_content held ≡ Some (Records records)
    → ((list : List Record) → held ≡ Some (Listed list) → NamesAscend list)
    → ListsRecords records (listing_of_held held)
listing_of_held-lists None records is ascending = absurd cc
listing_of_held-lists (Some (Stored size blocks)) records is ascending = absurd cc
listing_of_held-lists (Some (Listed list)) records is ascending =
    let same : (λ (name : Name). entry_of name list) ≡ records = cc in
    subst (λ (found : Name → Option Link). ListsRecords found (map listed_record list)) same
    (lists_records list (ascending list refl))

pub listing_of-IsListing : (holding : Holding) → IsHolding holding
    → IsListing (inodes_of_holding holding) (listing_of holding)
listing_of-IsListing holding h i records is =
    listing_of_held-lists (holding i) records is (λ list e. (h.each i (Listed list) e).ascending)

-- ---- bytes

-- a byte of a file, within it or past its end
pub byte_of_stored : (holding : Holding) → IsHolding holding → (i size : ℕ) (blocks : Blocks)
    → holding i ≡ Some (Stored size blocks)
    → (k : ℕ) → byte_stored blocks k ≡ slice_index (bytes_stored blocks size) k
byte_of_stored holding h i size blocks is k = elim (cases_lt k size) [
  | inl within ↦ sym (get_or-map-range_with_len (byte_stored blocks) 0 size k k 0 within (omega arith))
  | inr past ↦
      (h.each i (Stored size blocks) is).zeros k past
      ∙ sym (get_or_past (bytes_stored blocks size) k 0
      (omega (arith, past, length-map-range_with_len (byte_stored blocks) 0 size)))
]

pub stored-HoldsBytes : (holding : Holding) → IsHolding holding → (i size : ℕ) (blocks : Blocks)
    → holding i ≡ Some (Stored size blocks)
    → HoldsBytes blocks size (bytes_stored blocks size)
stored-HoldsBytes holding h i size blocks is = record {
  sized = sym (length-map-range_with_len (byte_stored blocks) 0 size);
  stored = byte_of_stored holding h i size blocks is;
  no_more = λ b past. (h.each i (Stored size blocks) is).none_past b past;
}
