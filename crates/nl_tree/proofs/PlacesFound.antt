-- What the place of a path's last name tells of the inodes.
use Rattle.std.proofs.Common.{◌≡◌, ℕ, Bool, true, false, ◌&&◌, ◌+◌, ◌≤◌, List, [], ◌∷◌, ◌++◌, length, reverse, inl, inr, Option, Some, None, Result, Ok, Err, refl, sym, ap, subst, ◌∙◌, arith}
use Rattle.std.specs.Prelude.{IsTrue, ◌==◌, if◌then◌else◌, nat_lt}
use Rattle.std.specs.List.{All, list_all}
use Rattle.std.specs.Option.{is_some, option_map}
use Rattle.std.proofs.lemmas.List.{reverse-append}
use Rattle.std.proofs.lemmas.List.Elements.{All-head, All-tail, All-weaker}
use Rattle.std.proofs.lemmas.List.Folds.{list_all-append}
use Rattle.nl_types.specs.declared.error.VolError.{VolError}
use Rattle.nl_types.specs.declared.error.VolError.TheVariants.{BadName, BadPath}
use Rattle.nl_types.specs.declared.kind.Kind.{Kind}
use Rattle.nl_types.specs.Plain.Paths.{Name, Path, is_name, names_of, path_of, same_name}
use Rattle.nl_types.specs.Plain.Trees.{Tree, lookup}
use Rattle.nl_types.specs.Plain.Calls.{and_then}
use Rattle.nl_types.specs.Inodes.{Inodes, Link, MeansTree}
use Rattle.nl_types.specs.Resolving.{record_in}
use Rattle.nl_types.specs.Facts.Inodes.Resolving.{child_record, dir_stands, inode}
use Rattle.nl_types.specs.Facts.Inodes.Standing.{zipped}
use Rattle.nl_dirs.specs.declared.record.Record.{Record}
use Rattle.nl_dirs.specs.Records.{entry_of}
use Rattle.nl_tree.specs.Held.{Held, Holding, IsHolding, IsInodeNumber, Listed, inode_content, inodes_of_holding}
use Rattle.nl_tree.specs.Naming.{IsPlaceOf}
use Rattle.nl_tree.specs.Overlays.{IsDirectoryOf}
use Rattle.nl_tree.specs.Private.PathParts.{parts_of, path_behind}
use Rattle.nl_tree.specs.Reading.{as_directory}
use Rattle.nl_tree.specs.TreeMeaning.{StandsForTree}
use Rattle.nl_tree.proofs.HeldListings.{records-few}
use Rattle.nl_tree.proofs.HoldingSteps.{MayStand}
use Rattle.nl_tree.specs.Facts.ReadingCalls.{directory_is_listed}

-- ---- names of paths

-- names that are there are the parts of the path
pub spells-parts : (bytes names : List ℕ) → path_of bytes ≡ Ok (path_behind names)
    → false ≡ (length names == 0) → path_of bytes ≡ Ok (parts_of names)
spells-parts bytes names spells some =
    spells ∙ ap (λ (b : Bool). Ok (if b then [] else parts_of names)) (sym some)

-- what is asked of the path is asked of its names
pub at-parts : {A : Type 0} (ask : Path → Result A VolError) (bytes names : List ℕ)
    → path_of bytes ≡ Ok (path_behind names) → false ≡ (length names == 0)
    → and_then (path_of bytes) ask ≡ ask (parts_of names)
at-parts ask bytes names spells some =
    ap (λ (r : Result Path VolError). and_then r ask) (spells-parts bytes names spells some)

all_last : (dir : Path) (name : Name) → list_all is_name (dir ++ name ∷ []) ≡ true → IsTrue (is_name name)
all_last dir name e =
    last (list_all is_name dir) (is_name name) (sym (list_all-append is_name dir (name ∷ [])) ∙ e)
  where
    last : (a b : Bool) → (a && (b && true)) ≡ true → b ≡ true
    last true true e = refl
    last true false e = e
    last false b e = absurd cc

if_names : (test : Bool) (names path : Path) → (if test then Ok names else Err BadName) ≡ Ok path
    → (test ≡ true) × (names ≡ path)
if_names true names path e = (refl, cc)
if_names false names path e = absurd cc

none_last : (dir : Path) (name : Name) → ◌≡◌ {A = Path} [] (dir ++ name ∷ []) → ⊥
none_last [] name e = absurd cc
none_last (n ∷ dir) name e = absurd cc

names_last : (bytes : List ℕ) (dir : Path) (name : Name) → names_of bytes ≡ Ok (dir ++ name ∷ [])
    → IsTrue (is_name name)
names_last bytes dir name e = choose (length bytes == 0) e
  where
    choose : (b : Bool)
        → (if b then Ok []
        else (if list_all is_name (parts_of bytes) then Ok (parts_of bytes) else Err BadName))
        ≡ Ok (dir ++ name ∷ [])
        → IsTrue (is_name name)
    choose true e = absurd (none_last dir name (cc))
    choose false e =
        let names = if_names (list_all is_name (parts_of bytes)) (parts_of bytes) (dir ++ name ∷ []) e in
        all_last dir name (ap (list_all is_name) (sym names.1) ∙ names.0)

-- the last name of a path is a name
pub last-is_name : (bytes : List ℕ) (dir : Path) (name : Name) → path_of bytes ≡ Ok (dir ++ name ∷ [])
    → IsTrue (is_name name)
last-is_name [] dir name e = absurd cc
last-is_name (b ∷ bytes) dir name e = choose (b == 47 && nat_lt (length bytes) 4095) e
  where
    choose : (t : Bool) → (if t then names_of bytes else Err BadPath) ≡ Ok (dir ++ name ∷ [])
        → IsTrue (is_name name)
    choose true e = names_last bytes dir name e
    choose false e = absurd cc

-- ---- places

pub place-absent : (holding : Holding) (path : Path) (directory : ℕ) (name : Name) (link : Option Link)
    → IsPlaceOf holding path directory name link → false ≡ is_some link
    → IsPlaceOf holding path directory name None
place-absent holding path directory name None place none = place
place-absent holding path directory name (Some link) place none = absurd cc

pub place-present : (holding : Holding) (path : Path) (directory : ℕ) (name : Name) (link : Option Link)
    → IsPlaceOf holding path directory name link → true ≡ is_some link
    → (there : Link) × IsPlaceOf holding path directory name (Some there)
place-present holding path directory name None place some = absurd cc
place-present holding path directory name (Some link) place some = (link, place)

-- the record as it is matched on
place-linked : (holding : Holding) (path : Path) (directory : ℕ) (name : Name) (link : Option Link) (i j : ℕ)
    (k known : Kind)
    → IsPlaceOf holding path directory name link
    → link ≡ Some (i, k) → j ≡ i → k ≡ known → IsPlaceOf holding path directory name (Some (j, known))
place-linked holding path directory name link i j k known place is same kinds =
    let all : link ≡ Some (j, known) = cc in
    subst (λ (o : Option Link). IsPlaceOf holding path directory name o) all place

-- ---- records

-- what a name stands for is what one of the records says
entry-among : (P : ℕ → Type 0) (records : List Record) (name : Name) (link : Link)
    → entry_of name records ≡ Some link → All (λ r. P r.inode) records → P link.0
entry-among P [] name link e all = absurd cc
entry-among P (r ∷ records) name link e all =
    choose (same_name name r.name) e
    (λ e. entry-among P records name link e (All-tail (λ (r : Record). P r.inode) r records all))
  where
    choose : (b : Bool) → (if b then Some (r.inode, r.kind) else entry_of name records) ≡ Some link
        → (entry_of name records ≡ Some link → P link.0) → P link.0
    choose true e rest =
        let is : (r.inode, r.kind) ≡ link = cc in
        subst P (ap (λ (l : Link). l.0) is) (All-head (λ (r : Record). P r.inode) r records all)
    choose false e rest = rest e

entry-some : (records : List Record) (name : Name) (link : Link) → entry_of name records ≡ Some link
    → 1 ≤ length records
entry-some [] name link e = absurd cc
entry-some (r ∷ records) name link e = omega arith

module _ (holding : Holding) (tree : Tree) (sound : IsHolding holding)
    (means : MeansTree (inodes_of_holding holding) tree) where
  abbrev inodes : Inodes
  inodes = inodes_of_holding holding

  -- the last name stands in a directory that is listed
  pub place-listed : (path : Path) (directory : ℕ) (name : Name) (link : Option Link)
      → IsPlaceOf holding path directory name link
      → (records : List Record) × IsDirectoryOf holding directory records
  place-listed path directory name link place =
      let found : (records : List Record) × (holding directory ≡ Some (Listed records)) =
      directory_is_listed holding tree (record { sound = sound; means = means }) (Ok place.dir) directory
      (sym (ap (λ (r : Result Link VolError). and_then r as_directory) place.named.resolved)) in
      (found.0, (found.1, (sound.each directory (Listed found.0) found.1).ascending))

  -- a record is not of the root's inode
  place-not_root : (path : Path) (directory : ℕ) (name : Name) (link : Link)
      → IsPlaceOf holding path directory name (Some link) → link.0 ≡ 2 → ⊥
  place-not_root path directory name link place e =
      let stands = dir_stands inodes tree means place.dir directory place.named.resolved in
      let child = child_record inodes tree means place.dir name directory stands.1 stands.0 in
      let there =
      zipped (inode inodes tree means (place.dir ++ name ∷ []))
      (lookup tree (place.dir ++ name ∷ [])) link (sym child ∙ place.named.has) in
      let both : reverse (place.dir ++ name ∷ []) ≡ [] =
      means.pairs.once (reverse (place.dir ++ name ∷ [])) [] 2
      (there.0 ∙ ap (λ (i : ℕ). Some i) e) means.pairs.root in
      let clash : ◌≡◌ {A = Path} (name ∷ reverse place.dir) [] =
      sym (reverse-append place.dir (name ∷ [])) ∙ both in
      absurd cc

  module _ (path : Path) (directory : ℕ) (name : Name) (link : Link)
      (place : IsPlaceOf holding path directory name (Some link)) (records : List Record)
      (here : holding directory ≡ Some (Listed records)) where
    entry : entry_of name records ≡ Some link
    entry = ap (λ (o : Option Held). record_in (option_map inode_content o) name) (sym here) ∙ place.named.has

    -- its number is one of a tree's inodes
    pub record-number : IsInodeNumber link.0
    record-number =
        entry-among IsInodeNumber records name link entry
        (inodes_of records (sound.each directory (Listed records) here).names)
      where
        inodes_of : (records : List Record) → All MayStand records
            → All (λ (r : Record). IsInodeNumber r.inode) records
        inodes_of records all =
            All-weaker MayStand (λ (r : Record). IsInodeNumber r.inode) (λ r may. may.1) records all

    -- and not the root's
    record-ordinary : (11 ≤ link.0) × (link.0 ≤ 524287)
    record-ordinary = elim record-number [
      | inl root ↦ absurd (place-not_root path directory name link place root)
      | inr ordinary ↦ ordinary
    ]

    -- a record is a path beside the root
    record-counted : (names : ℕ) → length tree ≡ names + 1 → 1 ≤ names
    record-counted names count =
        let few =
        records-few holding tree directory records means here
        (sound.each directory (Listed records) here).ascending in
        let some = entry-some records name link entry in
        omega (arith, few, some, count)

-- ---- what may be taken away

-- The record of an inode is at the place, in a directory that is listed; it is not the root's.
pub record IsTakenFrom (holding : Holding) (names : ℕ) (path : Path) (directory : ℕ) (name : Name) (inode : ℕ)
    (k : Kind) : Type 0 where
  pub place : IsPlaceOf holding path directory name (Some (inode, k))
  pub records : List Record
  pub is : IsDirectoryOf holding directory records
  pub numbers : IsInodeNumber directory × IsInodeNumber inode
  pub ordinary : (11 ≤ inode) × (inode ≤ 524287)
  pub counted : 1 ≤ names

pub taken-from : (holding : Holding) (tree : Tree) (names : ℕ) → IsHolding holding
    → StandsForTree holding tree names
    → (path : Path) (directory : ℕ) (name : Name) (link : Option Link) (i j : ℕ) (k known : Kind)
    → IsPlaceOf holding path directory name link
    → link ≡ Some (i, k) → j ≡ i → k ≡ known → IsTakenFrom holding names path directory name j known
taken-from holding tree names sound stands path directory name link i j k known place is same kinds =
    let there : IsPlaceOf holding path directory name (Some (j, known)) =
    place-linked holding path directory name link i j k known place is same kinds in
    let listed : (records : List Record) × IsDirectoryOf holding directory records =
    place-listed holding tree sound stands.means path directory name (Some (j, known)) there in
    record {
      place = there;
      records = listed.0;
      is = listed.1;
      numbers = (
        sound.inode_numbers directory (Listed listed.0) listed.1.0,
        record-number holding tree sound stands.means path directory name
            (j, known) there listed.0 listed.1.0,
      );
      ordinary =
          record-ordinary holding tree sound stands.means path directory name
          (j, known) there listed.0 listed.1.0;
      counted =
          record-counted holding tree sound stands.means path directory name
          (j, known) there listed.0 listed.1.0 names stands.count;
    }
