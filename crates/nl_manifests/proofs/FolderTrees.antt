-- Folders as a system has them are trees of the host that a tree of a volume shows.
use Rattle.std.proofs.Common.{◌≡◌, ◌⊎◌, ℕ, Bool, true, false, ◌&&◌, ◌==◌, not, List, [], ◌∷◌, ◌++◌, Option, Some, None, refl, sym, ap, ◌∙◌, true≢false, is_some, length, inl, inr, arith, eqb-true}
use Rattle.std.specs.Prelude.{is_none, nat_le, nat_lt}
use Rattle.std.specs.List.{list_all, list_any}
use Rattle.std.specs.FinMap.{find, is_sorted}
use Rattle.std.proofs.lemmas.Bool.{and_parts, and_from}
use Rattle.std.proofs.lemmas.Option.{same_Some}
use Rattle.nl_types.specs.Plain.Characters.{dot, slash}
use Rattle.nl_types.specs.Plain.Limits.{name_limit}
use Rattle.nl_types.specs.Facts.Booleans.{not_true}
use Rattle.nl_types.specs.Plain.Paths.{Name, Path, is_name, path_cmp, same_name}
use Rattle.nl_manifests.specs.declared.attributes.Attributes.{Attributes}
use Rattle.nl_manifests.specs.declared.host_tree.HostObject.{HostObject}
use Rattle.nl_manifests.specs.declared.host_tree.HostObject.TheVariants.{Directory, File, Link}
use Rattle.nl_manifests.specs.declared.host_tree.HostEntry.{HostEntry}
use Rattle.nl_manifests.specs.Manifests.{are_bytes, is_text}
use Rattle.nl_manifests.specs.HostTrees.{HostTree, manifest_name, parted}
use Rattle.nl_manifests.specs.Readings.{manifest_in}
use Rattle.nl_manifests.specs.Sealed.{is_directory, is_host_entry, is_placed, is_whole, may_stand, needs_none, stands_below}
use Rattle.nl_manifests.specs.Folders.{FoldersAreHostTrees, HasDirectory, IsFolder, is_kept, is_link, may_be_named}
use Rattle.nl_manifests.proofs.Kept.{Stand, entries_stand}
use Rattle.nl_manifests.proofs.Shown.{ending_of, parted_ends}

abbrev never : {A : Type 0} → false ≡ true → A
never is = absurd (true≢false (sym is))

-- ---- what is kept may stand

whole_of : (plain : Bool) (object : HostObject) (attributes : Option Attributes)
    → is_kept plain object attributes ≡ true → is_whole object attributes ≡ true
whole_of true Directory None is = refl
whole_of true (File bytes) None is = refl
whole_of true (Link target) None is = never is
whole_of true object (Some a) is = never is
whole_of false object attributes is = (and_parts (is_some attributes) (is_whole object attributes) is).1

needs : (name : Name) (object : HostObject) (attributes : Option Attributes) → is_kept true object attributes ≡ true
    → same_name name manifest_name ≡ false → needs_none name object attributes ≡ true
needs name Directory attributes is other = refl
needs name (File bytes) None is other =
    ap (λ t. not (t && is_some (manifest_in bytes))) other
needs name (File bytes) (Some a) is other = never is
needs name (Link target) None is other = never is
needs name (Link target) (Some a) is other = never is

may : (plain : Bool) (object : HostObject) (above : Option Attributes) (name : Name) (e : HostEntry)
    → is_kept plain object above ≡ true → is_kept plain e.object e.attributes ≡ true
    → same_name name manifest_name ≡ false → may_stand above name e ≡ true
may true object None name e in_one is other = needs name e.object e.attributes is other
may true object (Some own) name e in_one is other = never in_one
may false object None name e in_one is other = never in_one
may false object (Some own) name e in_one is other = ap not other

not_false : (t : Bool) → not t ≡ true → t ≡ false
not_false true is = never is
not_false false is = refl

-- a name is a text
name_parts : (a b c d e f : Bool) → (a && b && c && d && e && f) ≡ true → (a ≡ true) × (c ≡ true)
name_parts a b c d e f is =
    let one = and_parts (a && b && c && d && e) f is in
    let two = and_parts (a && b && c && d) e one.0 in
    let three = and_parts (a && b && c) d two.0 in
    let four = and_parts (a && b) c three.0 in
    ((and_parts a b four.0).0, four.1)

not_empty : (name : Name) → nat_lt 0 (length name) ≡ true → not (length name == 0) ≡ true
not_empty [] some = never some
not_empty (b ∷ name) some =
    ap not (not_true (length (b ∷ name) == 0) (λ none. omega (arith, eqb-true (length (b ∷ name)) 0 none)))

text_of : (name : Name) → is_name name ≡ true → are_bytes name ≡ true → is_text name ≡ true
unfolding is_text
text_of name named bytes =
    let parts =
    name_parts (nat_lt 0 (length name)) (nat_le (length name) name_limit) (not (list_any (λ b. b == 0) name))
    (not (list_any (λ b. b == slash) name)) (not (same_name name (dot ∷ [])))
    (not (same_name name (dot ∷ dot ∷ []))) named in
    and_from (not (length name == 0)) (not (list_any (λ b. b == 0) name) && are_bytes name)
    (not_empty name parts.0)
    (and_from (not (list_any (λ b. b == 0) name)) (are_bytes name) parts.1 bytes)

-- ---- all of it

module _ (plain : Bool) (tree : HostTree) (folder : IsFolder plain tree) where
  below : (dir : Path) (name : Name) (e : HostEntry) → find path_cmp (dir ++ name ∷ []) tree ≡ Some e
      → is_placed tree (Some (dir, name)) e ≡ true
  below dir name e found =
      let d = folder.above dir name e found in
      let first = and_parts (is_name name) _ (folder.named dir name e found) in
      let then = and_parts (are_bytes name) (not (same_name name manifest_name)) first.1 in
      let text = text_of name first.0 then.0 in
      let other = not_false (same_name name manifest_name) then.1 in
      ap (λ (o : Option HostEntry). stands_below o name e) d.found
      ∙ and_from (is_directory d.entry.object) _ d.directory
      (and_from (is_name name && is_text name) (may_stand d.entry.attributes name e)
      (and_from (is_name name) (is_text name) first.0 text)
      (may plain d.entry.object d.entry.attributes name e (folder.kept dir d.entry d.found)
      (folder.kept (dir ++ name ∷ []) e found) other))

  entry_is : (p : Path) (e : HostEntry) → find path_cmp p tree ≡ Some e → is_host_entry tree (p, e) ≡ true
  entry_is p e found =
      and_from (is_whole e.object e.attributes) (is_placed tree (parted p) e)
      (whole_of plain e.object e.attributes (folder.kept p e found)) (by (ending_of p))
    where
      by : (p ≡ []) ⊎ ((dir : Path) × (name : Name) × (p ≡ dir ++ name ∷ []))
          → is_placed tree (parted p) e ≡ true
      by (inl none) =
          let at_root : find path_cmp [] tree ≡ Some e =
          ap (λ (q : Path). find path_cmp q tree) (sym none) ∙ found in
          ap (λ (q : Path). is_placed tree (parted q) e) none
          ∙ ap (λ (x : HostEntry). is_directory x.object)
          (same_Some e folder.root.entry (sym at_root ∙ folder.root.found))
          ∙ folder.root.directory
      by (inr some) =
          ap (λ (q : Path). is_placed tree (parted q) e) some.2
          ∙ ap (λ (o : Option (Path × Name)). is_placed tree o e) (parted_ends some.0 some.1)
          ∙ below some.0 some.1 e (ap (λ (q : Path). find path_cmp q tree) (sym some.2) ∙ found)

  all_are : (es : HostTree) → Stand tree es → list_all (is_host_entry tree) es ≡ true
  all_are [] stand = refl
  all_are (e ∷ es) stand =
      and_from (is_host_entry tree e) (list_all (is_host_entry tree) es) (entry_is e.0 e.1 stand.0)
      (all_are es stand.1)

pub folders_are : FoldersAreHostTrees
folders_are plain tree folder =
    and_from (is_sorted path_cmp tree) _ folder.ordered
    (and_from (is_some (find path_cmp [] tree)) _ (ap is_some folder.root.found)
    (all_are plain tree folder tree (entries_stand tree folder.ordered)))
