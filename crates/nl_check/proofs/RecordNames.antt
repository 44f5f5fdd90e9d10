-- Records at their places, as names of inodes.
use Rattle.std.proofs.Common.{◌≡◌, ℕ, zero, suc, ◌<◌, Bool, true, false, cond, List, [], ◌∷◌, length, get_or, Option, Some, None, refl, ap, sym, subst, ◌∙◌, inl, inr, arith}
use Rattle.std.specs.List.{slice_get}
use Rattle.std.specs.Option.{option_and_then, option_map}
use Rattle.std.specs.Ordering.{is_eq, ordering_reverse}
use Rattle.std.specs.Cmp.{Equal-is}
use Rattle.std.specs.FinMap.{nat_cmp-IsAntisymmetric, slice_cmp-IsAntisymmetric}
use Rattle.std.specs.Cmp.Lexicographic.{nat_list_cmp_total}
use Rattle.std.specs.declared.cmp.Ordering.TheVariants.{Less}
use Rattle.std.proofs.lemmas.Bool.{cases_lt, cond-false}
use Rattle.std.proofs.lemmas.Option.{get_or_from_slice_get, slice_get-get_or, slice_get_within}
use Rattle.nl_types.specs.Plain.Paths.{Name, Path, name_cmp, same_name}
use Rattle.nl_types.specs.declared.kind.Kind.{Kind}
use Rattle.nl_types.specs.declared.kind.Kind.TheVariants as kind
use Rattle.nl_types.specs.Plain.Trees.{object_kind}
use Rattle.nl_types.specs.Inodes.{Bytes, InodeContent, Inodes, Link, Records, inode_named, object_of, reached}
use Rattle.nl_dirs.specs.declared.record.Record.{Record}
use Rattle.nl_dirs.specs.Records.{NamesAscend, entry_of}
use Rattle.nl_tree.specs.Held.{Held, Holding, IsHolding, Listed, Stored, inode_content, inodes_of_holding}
use Rattle.nl_check.specs.InodeTrees.{IsUsedAs, Names}
use Rattle.nl_check.specs.Private.Naming.{kind_held, record_at, records_in}
use Rattle.nl_dirs.specs.Facts.RecordOrder.{ascending-head, ascending-tail, entry_of-first, not_before_itself}

-- ---- in one list

-- the name of a record stands for what the record says
entry_of-at : (rs : List Record) (j : ℕ) (r : Record) → NamesAscend rs → slice_get rs j ≡ Some r
    → entry_of r.name rs ≡ Some (r.inode, r.kind)
entry_of-at [] j r a at = cc
entry_of-at (x ∷ rs) zero r a at =
    let e : x ≡ r = cc in
    subst (λ (y : Record). entry_of y.name (x ∷ rs) ≡ Some (y.inode, y.kind)) e (entry_of-first x rs)
entry_of-at (x ∷ rs) (suc j) r a at =
    let within = slice_get_within rs j r at in
    let d : get_or rs j r ≡ r = get_or_from_slice_get rs j r r at in
    let less : name_cmp x.name r.name ≡ Less =
    ap (λ (y : Record). name_cmp x.name y.name) (sym d) ∙ ascending-head x rs a j r within in
    cond-false (same_name r.name x.name) _ _
    (ap is_eq (nat_list_cmp_total.antisymm r.name x.name ∙ ap ordering_reverse less))
    ∙ entry_of-at rs j r (ascending-tail x rs a) at

-- the record that a loop is at
pub record-here : (rs : List Record) (i : ℕ) (r : Record) → i < length rs → r ≡ get_or rs i r
    → slice_get rs i ≡ Some r
record-here rs i r low is = slice_get-get_or rs i r low ∙ ap (λ (x : Record). Some x) (sym is)

-- a record that gives a name to something
record IsGiven (rs : List Record) (name : Name) (link : Link) : Type 0 where
  pub position : ℕ
  pub there : Record
  pub at : slice_get rs position ≡ Some there
  pub name_is : there.name ≡ name
  pub inode_is : there.inode ≡ link.0
  pub kind_is : there.kind ≡ link.1

entry_of-given : (rs : List Record) (name : Name) (link : Link) → entry_of name rs ≡ Some link
    → IsGiven rs name link
entry_of-given [] name link e = cc
entry_of-given (x ∷ rs) name link e =
    by (same_name name x.name) refl e (λ rest. entry_of-given rs name link rest)
  where
    by : (b : Bool) → same_name name x.name ≡ b
        → cond b (Some (x.inode, x.kind)) (entry_of name rs) ≡ Some link
        → (entry_of name rs ≡ Some link → IsGiven rs name link) → IsGiven (x ∷ rs) name link
    by true same e more =
        let link_is : ◌≡◌ {A = Link} (x.inode, x.kind) link = cc in record {
          position = 0;
          there = x;
          at = refl;
          name_is =
              sym (slice_cmp-IsAntisymmetric nat_cmp-IsAntisymmetric name x.name
              ((Equal-is (name_cmp name x.name)).0 same));
          inode_is = ap (λ (l : Link). l.0) link_is;
          kind_is = ap (λ (l : Link). l.1) link_is;
        }
    by false same e more =
        let g = more e in record {
          position = suc g.position;
          there = g.there;
          at = g.at;
          name_is = g.name_is;
          inode_is = g.inode_is;
          kind_is = g.kind_is;
        }

-- a name has one place
one-place : (rs : List Record) (j k : ℕ) (r s : Record) → NamesAscend rs → slice_get rs j ≡ Some r
    → slice_get rs k ≡ Some s → r.name ≡ s.name → j ≡ k
one-place rs j k r s a at there same = elim (cases_lt j k) [
  | inl low ↦ absurd (apart j k r s at there same low)
  | inr high ↦ elim (cases_lt k j) [
    | inl low ↦ absurd (apart k j s r there at (sym same) low)
    | inr other ↦ omega (arith, high, other)
  ]
]
  where
    apart : (j k : ℕ) (r s : Record) → slice_get rs j ≡ Some r → slice_get rs k ≡ Some s → r.name ≡ s.name
        → j < k → ⊥
    apart j k r s at there same low =
        let less : name_cmp (get_or rs j r).name (get_or rs k r).name ≡ Less =
        a j k r low (slice_get_within rs k s there) in
        let first : get_or rs j r ≡ r = get_or_from_slice_get rs j r r at in
        let second : get_or rs k r ≡ s = get_or_from_slice_get rs k s r there in
        not_before_itself s.name
        (sym (ap (λ (x : Record). name_cmp x.name (get_or rs k r).name) first
        ∙ (ap (λ (x : Record). name_cmp r.name x.name) second
        ∙ ap (λ (n : Name). name_cmp n s.name) same))
        ∙ less)

-- ---- in the directories of inodes

module _ (held : Holding) (limits : IsHolding held) where
  inodes : Inodes
  inodes = inodes_of_holding held

  -- a directory's records ascend
  ascending-in : (d : ℕ) → NamesAscend (records_in (held d))
  ascending-in d = by (held d) refl
    where
      by : (o : Option Held) → held d ≡ o → NamesAscend (records_in o)
      by None e = λ i j x lt within. absurd (omega (arith, within))
      by (Some (Stored size blocks)) e = λ i j x lt within. absurd (omega (arith, within))
      by (Some (Listed records)) e = (limits.each d (Listed records) e).ascending

  pub one-position : (d j k : ℕ) (r s : Record) → record_at held d j ≡ Some r → record_at held d k ≡ Some s
      → r.name ≡ s.name → j ≡ k
  one-position d j k r s at there same =
      one-place (records_in (held d)) j k r s (ascending-in d) at there same

  -- a record names its inode
  pub record-names : (d j : ℕ) (r : Record) → record_at held d j ≡ Some r
      → Names (inodes_of_holding held) d r.name (r.inode, r.kind)
  record-names d j r at = by (held d) refl at
    where
      by : (o : Option Held) → held d ≡ o → slice_get (records_in o) j ≡ Some r
          → Names (inodes_of_holding held) d r.name (r.inode, r.kind)
      by None e at = cc
      by (Some (Stored size blocks)) e at = cc
      by (Some (Listed records)) e at = record {
        records = λ name. entry_of name records;
        directory = ap (option_map inode_content) e;
        listed = entry_of-at records j r (limits.each d (Listed records) e).ascending at;
      }

  pub record IsNamingRecord (d : ℕ) (name : Name) (link : Link) : Type 0 where
    pub position : ℕ
    pub there : Record
    pub at : record_at held d position ≡ Some there
    pub name_is : there.name ≡ name
    pub inode_is : there.inode ≡ link.0
    pub kind_is : there.kind ≡ link.1
    pub directory : kind_held (held d) ≡ Some kind.Directory

  -- and what is named, a record names
  pub names-record : (d : ℕ) (name : Name) (link : Link) → Names (inodes_of_holding held) d name link
      → IsNamingRecord d name link
  names-record d name link n = by (held d) refl n.directory
    where
      listed_in : InodeContent → Name → Option Link
      listed_in (Bytes bytes) = λ _. None
      listed_in (Records records) = records

      alike : (a b : Name → Option Link) → Some (Records a) ≡ Some (Records b) → (n : Name) → a n ≡ b n
      alike a b e n = ap (λ (o : Option InodeContent). option_and_then (λ c. listed_in c n) o) e

      by : (o : Option Held) → held d ≡ o → option_map inode_content o ≡ Some (Records n.records)
          → IsNamingRecord d name link
      by None e is = cc
      by (Some (Stored size blocks)) e is = cc
      by (Some (Listed records)) e is =
          let g =
          entry_of-given records name link
          (alike (λ m. entry_of m records) n.records is name ∙ n.listed) in
          record {
            position = g.position;
            there = g.there;
            at = ap (λ (o : Option Held). slice_get (records_in o) g.position) e ∙ g.at;
            name_is = g.name_is;
            inode_is = g.inode_is;
            kind_is = g.kind_is;
            directory = ap kind_held e;
          }

  -- ---- kinds

  used-by : (o : Option Held) (k : Kind) → kind_held o ≡ Some k
      → (c : InodeContent) × (option_map inode_content o ≡ Some c) × (object_kind (object_of c) ≡ k)
  used-by None k is = cc
  used-by (Some (Stored size blocks)) k is = (inode_content (Stored size blocks), refl, cc)
  used-by (Some (Listed records)) k is = (inode_content (Listed records), refl, cc)

  pub used-as : (i : ℕ) (k : Kind) → kind_held (held i) ≡ Some k → IsUsedAs (inodes_of_holding held) i k
  used-as i k is = let u = used-by (held i) k is in record { content = u.0; used = u.1; kind_is = u.2 }

  kind-by : (o : Option Held) (c : InodeContent) → option_map inode_content o ≡ Some c
      → kind_held o ≡ Some (object_kind (object_of c))
  kind-by None c is = cc
  kind-by (Some (Stored size blocks)) c is =
      let e : inode_content (Stored size blocks) ≡ c = cc in
      ap (λ (x : InodeContent). Some (object_kind (object_of x))) e
  kind-by (Some (Listed records)) c is =
      let e : inode_content (Listed records) ≡ c = cc in
      ap (λ (x : InodeContent). Some (object_kind (object_of x))) e

  pub kind-there : (i : ℕ) (c : InodeContent) → inodes_of_holding held i ≡ Some c
      → kind_held (held i) ≡ Some (object_kind (object_of c))
  kind-there i c is = kind-by (held i) c is

  pub kind-used : (i : ℕ) (k : Kind) → IsUsedAs (inodes_of_holding held) i k → kind_held (held i) ≡ Some k
  kind-used i k u = kind-there i u.content u.used ∙ ap (λ (x : Kind). Some x) u.kind_is

  -- a directory's records
  listed-by : (o : Option Held) → kind_held o ≡ Some kind.Directory
      → (records : List Record) × (o ≡ Some (Listed records))
  listed-by None is = cc
  listed-by (Some (Stored size blocks)) is = cc
  listed-by (Some (Listed records)) is = (records, refl)

  pub listed-there : (i : ℕ) → kind_held (held i) ≡ Some kind.Directory
      → (records : List Record) × (held i ≡ Some (Listed records))
  listed-there i is = listed-by (held i) is

  pub used-below : (i : ℕ) (k : Kind) → kind_held (held i) ≡ Some k → i < 524288
  used-below i k is = by (held i) refl is
    where
      by : (o : Option Held) → held i ≡ o → kind_held o ≡ Some k → i < 524288
      by None e is = cc
      by (Some h) e is =
          elim (limits.inode_numbers i h e)
          [ inl two ↦ omega (arith, two) | inr r ↦ let high = r.1 in omega (arith, high) ]

  -- ---- walks

  -- a record leads a walk on
  pub walk-on : (name : Name) (p : Path) (d : ℕ) (link : Link) → reached (inodes_of_holding held) p ≡ Some d
      → Names (inodes_of_holding held) d name link → reached (inodes_of_holding held) (name ∷ p) ≡ Some link.0
  unfolding reached
  walk-on name p d link walk n = rw walk (rw n.directory (ap (option_map (λ (r : Link). r.0)) n.listed))

  pub record IsLastStep (name : Name) (p : Path) (i : ℕ) : Type 0 where
    pub directory : ℕ
    pub walk : reached (inodes_of_holding held) p ≡ Some directory
    pub link : Link
    pub names : Names (inodes_of_holding held) directory name link
    pub is : link.0 ≡ i

  pub last-step : (name : Name) (p : Path) (i : ℕ) → reached (inodes_of_holding held) (name ∷ p) ≡ Some i
      → IsLastStep name p i
  unfolding reached
  last-step name p i e = by_walk (reached (inodes_of_holding held) p) refl e
    where
      by_records : (d : ℕ) (records : Name → Option Link) (o : Option Link)
          → reached (inodes_of_holding held) p ≡ Some d → inodes_of_holding held d ≡ Some (Records records)
          → records name ≡ o
          → option_map (λ (r : Link). r.0) o ≡ Some i → IsLastStep name p i
      by_records d records None walk is at h = cc
      by_records d records (Some link) walk is at h = record {
        directory = d;
        walk = walk;
        link = link;
        names = record { records = records; directory = is; listed = at };
        is = cc;
      }

      by_content : (d : ℕ) (o : Option InodeContent) → reached (inodes_of_holding held) p ≡ Some d
          → inodes_of_holding held d ≡ o → option_and_then (λ c. inode_named name c) o ≡ Some i
          → IsLastStep name p i
      by_content d None walk is h = cc
      by_content d (Some (Bytes bytes)) walk is h = cc
      by_content d (Some (Records records)) walk is h = by_records d records (records name) walk is refl h

      by_walk : (o : Option ℕ) → reached (inodes_of_holding held) p ≡ o
          → option_and_then (λ c. inode_named name c) (option_and_then (inodes_of_holding held) o) ≡ Some i
          → IsLastStep name p i
      by_walk None walk h = cc
      by_walk (Some d) walk h = by_content d (inodes_of_holding held d) walk refl h

  pub at-root : reached (inodes_of_holding held) [] ≡ Some 2
  unfolding reached
  at-root = refl
