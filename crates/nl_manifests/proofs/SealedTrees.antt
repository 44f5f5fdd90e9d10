-- A sealed tree shows the tree of the host that it is made of.
use Rattle.std.proofs.Common.{◌≡◌, ◌⊎◌, Bool, true, false, cond, ◌&&◌, not, List, [], ◌∷◌, ◌++◌, Option, Some, None, refl, sym, ap, ◌∙◌, true≢false, is_some, inl, inr}
use Rattle.std.specs.Prelude.{is_none, option_and_then}
use Rattle.std.specs.List.{flat_map, list_all}
use Rattle.std.specs.FinMap.{find, is_sorted}
use Rattle.std.proofs.lemmas.Bool.{and_parts, and_from}
use Rattle.std.proofs.lemmas.Option.{same_Some}
use Rattle.nl_types.specs.declared.reply.Object.{Object}
use Rattle.nl_types.specs.declared.reply.Object.TheVariants.{Dir, File}
use Rattle.nl_types.specs.Plain.Paths.{Name, Path, is_name, path_cmp, same_name, same_path}
use Rattle.nl_types.specs.Plain.Trees.{Tree, lookup, name_below}
use Rattle.nl_types.specs.Facts.TreeLaws.{same_path-equal}
use Rattle.nl_manifests.specs.declared.attributes.Attributes.{Attributes}
use Rattle.nl_manifests.specs.declared.manifest.LineKind.TheVariants as kind
use Rattle.nl_manifests.specs.declared.manifest.Line.{Line}
use Rattle.nl_manifests.specs.declared.manifest.Manifest.{Manifest}
use Rattle.nl_manifests.specs.declared.host_tree.HostObject.{HostObject}
use Rattle.nl_manifests.specs.declared.host_tree.HostObject.TheVariants as host
use Rattle.nl_manifests.specs.declared.host_tree.HostEntry.{HostEntry}
use Rattle.nl_manifests.specs.declared.host_tree.LineFault.TheVariants.{BadName}
use Rattle.nl_manifests.specs.Manifests.{are_attributes, are_lines, ascend, is_line, is_manifest, is_text, printed}
use Rattle.nl_manifests.specs.Readings.{manifest_in}
use Rattle.nl_manifests.specs.HostTrees.{HostTree, Refused, Shows, fault_of, last_name, line_in, line_named, manifest_above, manifest_at, manifest_for, manifest_in_object, manifest_name, one_if, parted, refused, refused_in, refused_line, shown_at, shown_directory, shown_file, shown_in, shown_link}
use Rattle.nl_manifests.specs.Sealed.{IsSealed, is_directory, is_host_entry, is_host_tree, is_placed, is_whole, kind_of, line_under, line_with, lines_in, manifest_of, manifest_over, manifest_with, may_stand, needs_none, object_of, own_object, sealed_at, sealed_in, stands_below}
use Rattle.nl_manifests.proofs.HostLines.{below_is, found_line, line_told, lines_in_order, sorted_ascend}
use Rattle.nl_manifests.proofs.Kept.{Stand, entries_stand, not_none}
use Rattle.nl_manifests.proofs.Read.{read_again}
use Rattle.nl_manifests.proofs.Shown.{ending_of, parted_ends}

-- what holds of all entries holds of one that is found
pub all_found : {X : Type 0} (P : Path × X → Bool) (es : List (Path × X)) (q : Path) (x : X)
    → list_all P es ≡ true → find path_cmp q es ≡ Some x → P (q, x) ≡ true
all_found P [] q x all found = absurd (not_none x found)
all_found {X} P (e ∷ es) q x all found =
    let parts = and_parts (P e) (list_all P es) all in
    elim (same_path q e.0) as (λ t. same_path q e.0 ≡ t → cond t (Some e.1) (find path_cmp q es) ≡ Some x
    → P (q, x) ≡ true) [
      | true ↦ λ same here.
          let keys = same_path-equal q e.0 same in
          let values = same_Some e.1 x here in
          let met : ◌≡◌ {A = Path × X} (q, x) e = λ i. (keys i, sym values i) in
          ap P met ∙ parts.0
      | false ↦ λ _ behind. all_found P es q x parts.1 behind
    ] refl found

-- ---- objects

directory_shown : (lines : List Line) (object : HostObject) (attributes : Option Attributes)
    → is_directory object ≡ true
    → shown_directory (manifest_with lines object attributes)
    ≡ record { object = object; attributes = attributes }
directory_shown lines host.Directory None is = refl
directory_shown lines host.Directory (Some own) is = refl
directory_shown lines (host.File bytes) attributes is = absurd (true≢false (sym is))
directory_shown lines (host.Link target) attributes is = absurd (true≢false (sym is))

pub directory_object : (object : HostObject) → is_directory object ≡ true → object_of object ≡ Some Dir
directory_object host.Directory is = refl
directory_object (host.File bytes) is = absurd (true≢false (sym is))
directory_object (host.Link target) is = absurd (true≢false (sym is))

-- a directory that has attributes has a manifest
own_told : (lines : List Line) (object : HostObject) (attributes : Option Attributes) → is_directory object ≡ true
    → ◌≡◌ {A = Option Manifest} (manifest_with lines object attributes) None → attributes ≡ None
own_told lines host.Directory None is none = refl
own_told lines host.Directory (Some own) is none = absurd (not_none _ (sym none))
own_told lines (host.File bytes) attributes is none = absurd (true≢false (sym is))
own_told lines (host.Link target) attributes is none = absurd (true≢false (sym is))

-- and its manifest tells them
own_is : (lines : List Line) (object : HostObject) (attributes : Option Attributes) (m : Manifest)
    → ◌≡◌ {A = Option Manifest} (manifest_with lines object attributes) (Some m)
    → (is_directory object ≡ true) × (attributes ≡ Some m.own) × (lines ≡ m.lines)
own_is lines host.Directory None m is = absurd (not_none m is)
own_is lines host.Directory (Some own) m is =
    let same = same_Some (record { own = own; lines = lines }) m is in
    (refl, ap (λ (k : Manifest). Some k.own) same, ap (λ (k : Manifest). k.lines) same)
own_is lines (host.File bytes) attributes m is = absurd (not_none m is)
own_is lines (host.Link target) attributes m is = absurd (not_none m is)

whole_told : (object : HostObject) (own : Attributes) → is_whole object (Some own) ≡ true → are_attributes own ≡ true
whole_told host.Directory own is = is
whole_told (host.File bytes) own is = is
whole_told (host.Link target) own is = (and_parts (is_text target) (are_attributes own) is).1

line_whole : (name : Name) (object : HostObject) (attributes : Option Attributes) → is_whole object attributes ≡ true
    → is_text name ≡ true → list_all is_line (line_with name (kind_of object) attributes) ≡ true
unfolding is_line
line_whole name host.Directory attributes is text = refl
line_whole name (host.File bytes) None is text = refl
line_whole name (host.File bytes) (Some a) is text =
    and_from _ true (and_from (is_text name) (are_attributes a) text is) refl
line_whole name (host.Link target) None is text = absurd (true≢false (sym is))
line_whole name (host.Link target) (Some a) is text =
    let parts = and_parts (is_text target) (are_attributes a) is in
    and_from _ true
    (and_from (is_text target) _ parts.0 (and_from (is_text name) (are_attributes a) text parts.1)) refl

all_append : {X : Type 0} (P : X → Bool) (a b : List X) → list_all P a ≡ true → list_all P b ≡ true
    → list_all P (a ++ b) ≡ true
all_append P [] b first then = then
all_append P (x ∷ a) b first then =
    let parts = and_parts (P x) (list_all P a) first in
    and_from (P x) (list_all P (a ++ b)) parts.0 (all_append P a b parts.1 then)

-- ---- what stands in a directory

-- a directory, in which an entry may stand under a name
pub record StandsIn (tree : HostTree) (dir : Path) (name : Name) (e : HostEntry) : Type 0 where
  pub above : HostEntry
  pub found : find path_cmp dir tree ≡ Some above
  pub directory : is_directory above.object ≡ true
  pub named : is_name name ≡ true
  pub text : is_text name ≡ true
  pub may : may_stand above.attributes name e ≡ true

pub stands_by : (tree : HostTree) (dir : Path) (name : Name) (e : HostEntry)
    → is_placed tree (Some (dir, name)) e ≡ true → StandsIn tree dir name e
stands_by tree dir name e is = by (find path_cmp dir tree) refl is
  where
    by : (o : Option HostEntry) → find path_cmp dir tree ≡ o → stands_below o name e ≡ true
        → StandsIn tree dir name e
    by None there is = absurd (true≢false (sym is))
    by (Some d) there is =
        let first =
        and_parts (is_directory d.object) (is_name name && is_text name && may_stand d.attributes name e) is in
        let then = and_parts (is_name name && is_text name) (may_stand d.attributes name e) first.1 in
        let names = and_parts (is_name name) (is_text name) then.0 in
        record {
          above = d;
          found = there;
          directory = first.0;
          named = names.0;
          text = names.1;
          may = then.1;
        }

module _ (shown : HostTree) (whole : is_host_tree shown ≡ true) where
  pub in_order : is_sorted path_cmp shown ≡ true
  in_order = (and_parts (is_sorted path_cmp shown) _ whole).0

  pub root_there : is_some (find path_cmp [] shown) ≡ true
  root_there =
      (and_parts (is_some (find path_cmp [] shown)) _ (and_parts (is_sorted path_cmp shown) _ whole).1).0

  pub entries_are : list_all (is_host_entry shown) shown ≡ true
  entries_are =
      (and_parts (is_some (find path_cmp [] shown)) _ (and_parts (is_sorted path_cmp shown) _ whole).1).1

  pub entry_is : (q : Path) (e : HostEntry) → find path_cmp q shown ≡ Some e
      → (is_whole e.object e.attributes ≡ true) × (is_placed shown (parted q) e ≡ true)
  entry_is q e found =
      and_parts (is_whole e.object e.attributes) (is_placed shown (parted q) e)
      (all_found (is_host_entry shown) shown q e entries_are found)

  pub stands : (dir : Path) (name : Name) (e : HostEntry) → find path_cmp (dir ++ name ∷ []) shown ≡ Some e
      → StandsIn shown dir name e
  stands dir name e found =
      stands_by shown dir name e
      (ap (λ (p : Option (Path × Name)). is_placed shown p e) (sym (parted_ends dir name))
      ∙ (entry_is (dir ++ name ∷ []) e found).1)

  pub root_is : (e : HostEntry) → find path_cmp [] shown ≡ Some e → is_directory e.object ≡ true
  root_is e found = (entry_is [] e found).1

  -- ---- manifests

  -- each line is one
  lines_whole : (dir : Path) (es : HostTree) → list_all (is_host_entry shown) es ≡ true
      → list_all is_line (lines_in es dir) ≡ true
  lines_whole dir [] all = refl
  lines_whole dir (e ∷ es) all =
      let parts = and_parts (is_host_entry shown e) (list_all (is_host_entry shown) es) all in
      all_append is_line (line_under (name_below dir e.0) e.1) (lines_in es dir)
      (by (name_below dir e.0) refl parts.0) (lines_whole dir es parts.1)
    where
      by : (o : Option Name) → name_below dir e.0 ≡ o → is_host_entry shown e ≡ true
          → list_all is_line (line_under o e.1) ≡ true
      by None below is = refl
      by (Some n) below is =
          let parts = and_parts (is_whole e.1.object e.1.attributes) (is_placed shown (parted e.0) e.1) is in
          let s = stands_by shown dir n e.1
          (sym (ap (λ (p : Path). is_placed shown (parted p) e.1) (below_is dir e.0 n below)
          ∙ ap (λ (p : Option (Path × Name)). is_placed shown p e.1) (parted_ends dir n)) ∙ parts.1) in
          line_whole n e.1.object e.1.attributes parts.0 s.text

  -- what a directory's manifest has
  pub record HasManifest (dir : Path) (m : Manifest) : Type 0 where
    pub entry : HostEntry
    pub found : find path_cmp dir shown ≡ Some entry
    pub directory : is_directory entry.object ≡ true
    pub own : entry.attributes ≡ Some m.own
    pub lines : m.lines ≡ lines_in shown dir

  pub has_manifest : (dir : Path) (m : Manifest) → manifest_of shown dir ≡ Some m → HasManifest dir m
  has_manifest dir m is = by (find path_cmp dir shown) refl is
    where
      by : (o : Option HostEntry) → find path_cmp dir shown ≡ o
          → ◌≡◌ {A = Option Manifest} (option_and_then (λ e. manifest_with (lines_in shown dir) e.object e.attributes) o)
          (Some m)
          → HasManifest dir m
      by None there is = absurd (not_none m is)
      by (Some e) there is =
          let parts = own_is (lines_in shown dir) e.object e.attributes m is in
          record { entry = e; found = there; directory = parts.0; own = parts.1; lines = sym parts.2 }

  pub manifest_whole : (dir : Path) (m : Manifest) → manifest_of shown dir ≡ Some m → is_manifest m ≡ true
  unfolding is_manifest are_lines
  manifest_whole dir m is =
      let h = has_manifest dir m is in
      let whole = (entry_is dir h.entry h.found).0 in
      let told : are_attributes m.own ≡ true =
      whole_told h.entry.object m.own
      (ap (is_whole h.entry.object) (sym h.own) ∙ whole) in
      let each : list_all is_line m.lines ≡ true =
      ap (list_all is_line) h.lines ∙ lines_whole dir shown entries_are in
      let up : ascend m.lines ≡ true =
      ap ascend h.lines ∙ sorted_ascend (lines_in shown dir) (lines_in_order shown dir in_order) in
      and_from (are_attributes m.own) _ told (and_from (list_all is_line m.lines) _ each up)

  -- nothing else stands in the place of a manifest
  pub place_free : (dir : Path) (m : Manifest) → manifest_of shown dir ≡ Some m → (name : Name) (e : HostEntry)
      → StandsIn shown dir name e → same_name name manifest_name ≡ false
  place_free dir m is name e s =
      let h = has_manifest dir m is in
      let one : s.above ≡ h.entry = same_Some s.above h.entry (sym s.found ∙ h.found) in
      let own : s.above.attributes ≡ Some m.own = ap (λ (x : HostEntry). x.attributes) one ∙ h.own in
      not_so (same_name name manifest_name)
      (ap (λ (a : Option Attributes). may_stand a name e) (sym own) ∙ s.may)
    where
      not_so : (t : Bool) → not t ≡ true → t ≡ false
      not_so true is = absurd (true≢false (sym is))
      not_so false is = refl

  -- in a directory without a manifest what needs none stands
  pub needs_no : (dir : Path) → manifest_of shown dir ≡ None → (name : Name) (e : HostEntry)
      → StandsIn shown dir name e → needs_none name e.object e.attributes ≡ true
  needs_no dir none name e s =
      let bare : s.above.attributes ≡ None =
      own_told (lines_in shown dir) s.above.object s.above.attributes s.directory
      (ap (option_and_then (λ x. manifest_with (lines_in shown dir) x.object x.attributes)) (sym s.found) ∙ none) in
      ap (λ (a : Option Attributes). may_stand a name e) (sym bare) ∙ s.may

  -- ---- what the sealed tree has

  -- what stands for an entry
  pub own_stands : (q : Path) (e : HostEntry) → find path_cmp q shown ≡ Some e → sealed_at shown q ≡ object_of e.object
  own_stands q e found = by (ending_of q)
    where
      own : own_object (find path_cmp q shown) ≡ object_of e.object
      own = ap own_object found

      in_dir : (dir : Path) (n : Name) → q ≡ dir ++ n ∷ [] → (k : Option Manifest) → manifest_of shown dir ≡ k
          → sealed_in k n (find path_cmp q shown) ≡ object_of e.object
      in_dir dir n at None is = own
      in_dir dir n at (Some m) is =
          ap (λ t. cond t (Some (File (printed m))) (own_object (find path_cmp q shown)))
          (place_free dir m is n e (stands dir n e (ap (λ (p : Path). find path_cmp p shown) (sym at) ∙ found)))
          ∙ own

      by : (q ≡ []) ⊎ ((dir : Path) × (name : Name) × (q ≡ dir ++ name ∷ []))
          → sealed_at shown q ≡ object_of e.object
      by (inl none) =
          ap (λ (p : Path). sealed_in (manifest_over shown (parted p)) (last_name (parted p)) (find path_cmp q shown)) none
          ∙ own
      by (inr some) =
          ap (λ (p : Path). sealed_in (manifest_over shown (parted p)) (last_name (parted p)) (find path_cmp q shown)) some.2
          ∙ ap (λ (p : Option (Path × Name)). sealed_in (manifest_over shown p) (last_name p) (find path_cmp q shown))
          (parted_ends some.0 some.1)
          ∙ in_dir some.0 some.1 some.2 (manifest_of shown some.0) refl

  -- what stands below a directory
  pub sealed_below : (dir : Path) (n : Name)
      → sealed_at shown (dir ++ n ∷ []) ≡ sealed_in (manifest_of shown dir) n (find path_cmp (dir ++ n ∷ []) shown)
  sealed_below dir n =
      ap (λ (p : Option (Path × Name)). sealed_in (manifest_over shown p) (last_name p) (find path_cmp (dir ++ n ∷ []) shown))
      (parted_ends dir n)

  module _ (tree : Tree) (made : IsSealed shown tree) where
    -- no file of the host's is a manifest
    no_other : (dir : Path) → manifest_of shown dir ≡ None
        → manifest_in_object (own_object (find path_cmp (dir ++ manifest_name ∷ []) shown)) ≡ None
    no_other dir none = by (find path_cmp (dir ++ manifest_name ∷ []) shown) refl
      where
        nothing : (o : Option Manifest) → not (is_some o) ≡ true → o ≡ None
        nothing None is = refl
        nothing (Some m) is = absurd (true≢false (sym is))

        by_object : (object : HostObject) (a : Option Attributes) → needs_none manifest_name object a ≡ true
            → manifest_in_object (object_of object) ≡ None
        by_object host.Directory a is = refl
        by_object (host.File bytes) a is = nothing (manifest_in bytes) (and_parts (is_none a) _ is).1
        by_object (host.Link target) a is = refl

        by : (o : Option HostEntry) → find path_cmp (dir ++ manifest_name ∷ []) shown ≡ o
            → manifest_in_object (own_object o) ≡ None
        by None there = refl
        by (Some e) there =
            by_object e.object e.attributes (needs_no dir none manifest_name e (stands dir manifest_name e there))

    -- the manifest of each directory is there
    pub manifest_there : (dir : Path) → manifest_at tree dir ≡ manifest_of shown dir
    manifest_there dir =
        ap manifest_in_object (made.each (dir ++ manifest_name ∷ []) ∙ sealed_below dir manifest_name)
        ∙ by (manifest_of shown dir) refl
      where
        by : (k : Option Manifest) → manifest_of shown dir ≡ k
            → manifest_in_object (sealed_in k manifest_name (find path_cmp (dir ++ manifest_name ∷ []) shown)) ≡ k
        by None is = no_other dir is
        by (Some m) is = read_again m (manifest_whole dir m is)

    -- ---- what it shows

    shown_below : (dir : Path) (n : Name)
        → shown_at tree (dir ++ n ∷ [])
        ≡ shown_in (manifest_of shown dir) n (manifest_of shown (dir ++ n ∷ []))
        (sealed_in (manifest_of shown dir) n (find path_cmp (dir ++ n ∷ []) shown))
    shown_below dir n =
        let own = manifest_there (dir ++ n ∷ []) in
        let object = made.each (dir ++ n ∷ []) ∙ sealed_below dir n in
        let above = manifest_there dir in
        ap (λ (o : Option (Path × Name)). shown_in (manifest_above tree o) (last_name o)
        (manifest_at tree (dir ++ n ∷ [])) (lookup tree (dir ++ n ∷ []))) (parted_ends dir n)
        ∙ (λ i. shown_in (above i) n (own i) (object i))

    -- the line of a name
    line_there : (dir : Path) (m : Manifest) → manifest_of shown dir ≡ Some m → (n : Name)
        → line_in (Some m) n ≡ option_and_then (line_told n) (find path_cmp (dir ++ n ∷ []) shown)
    line_there dir m is n =
        ap (λ (lines : List Line). line_named lines n) (has_manifest dir m is).lines ∙ found_line shown dir n in_order

    -- an entry of a directory that has a manifest
    told_shown : (dir : Path) (m : Manifest) (n : Name) (object : HostObject) (a : Option Attributes)
        → line_in (Some m) n ≡ line_told n (record { object = object; attributes = a })
        → same_name n manifest_name ≡ false → is_name n ≡ true → is_whole object a ≡ true
        → shown_in (Some m) n (manifest_with (lines_in shown (dir ++ n ∷ [])) object a) (object_of object)
        ≡ Some (record { object = object; attributes = a })
    told_shown dir m n host.Directory a line other named whole =
        ap Some (directory_shown (lines_in shown (dir ++ n ∷ [])) host.Directory a refl)
    told_shown dir m n (host.File bytes) None line other named whole =
        ap (λ t. cond t None (Some (shown_file bytes (line_in (Some m) n)))) other
        ∙ ap (λ (l : Option Line). Some (shown_file bytes l)) line
    told_shown dir m n (host.File bytes) (Some a) line other named whole =
        ap (λ t. cond t None (Some (shown_file bytes (line_in (Some m) n)))) other
        ∙ ap (λ (l : Option Line). Some (shown_file bytes l)) line
    told_shown dir m n (host.Link target) None line other named whole = absurd (true≢false (sym whole))
    told_shown dir m n (host.Link target) (Some a) line other named whole =
        ap (shown_link n) line
        ∙ ap (λ t. cond t (Some (record { object = host.Link target; attributes = Some a })) None) named

    -- and one of a directory that has none
    bare_shown : (dir : Path) (n : Name) (object : HostObject) (a : Option Attributes)
        → needs_none n object a ≡ true
        → shown_in None n (manifest_with (lines_in shown (dir ++ n ∷ [])) object a) (object_of object)
        ≡ Some (record { object = object; attributes = a })
    bare_shown dir n host.Directory a is =
        ap Some (directory_shown (lines_in shown (dir ++ n ∷ [])) host.Directory a refl)
    bare_shown dir n (host.File bytes) None is = refl
    bare_shown dir n (host.File bytes) (Some a) is = absurd (true≢false (sym is))
    bare_shown dir n (host.Link target) a is = absurd (true≢false (sym is))

    in_dir : (dir : Path) (n : Name) (o : Option HostEntry) → find path_cmp (dir ++ n ∷ []) shown ≡ o
        → (k : Option Manifest) → manifest_of shown dir ≡ k
        → shown_in k n (option_and_then (λ e. manifest_with (lines_in shown (dir ++ n ∷ [])) e.object e.attributes) o)
        (sealed_in k n o) ≡ o
    in_dir dir n None there None is =
        elim (is_name n) as (λ t. ◌≡◌ {A = Option HostEntry} (cond t None None) None) [ true ↦ refl | false ↦ refl ]
    in_dir dir n (Some e) there None is =
        bare_shown dir n e.object e.attributes (needs_no dir is n e (stands dir n e there))
    in_dir dir n None there (Some m) is =
        elim (same_name n manifest_name) as (λ t. same_name n manifest_name ≡ t
        → shown_in (Some m) n None (cond t (Some (File (printed m))) None) ≡ None) [
          | true ↦ λ same.
              ap (λ t. cond t None (Some (shown_file (printed m) (line_in (Some m) n)))) same
          | false ↦ λ _.
              ap (shown_link n)
              (line_there dir m is n ∙ ap (option_and_then (line_told n)) there)
              ∙ elim (is_name n) as (λ t. ◌≡◌ {A = Option HostEntry} (cond t None None) None)
              [ true ↦ refl | false ↦ refl ]
        ] refl
    in_dir dir n (Some e) there (Some m) is =
        let s = stands dir n e there in
        let free = place_free dir m is n e s in
        ap (λ t. shown_in (Some m) n (manifest_with (lines_in shown (dir ++ n ∷ [])) e.object e.attributes)
        (cond t (Some (File (printed m))) (object_of e.object))) free
        ∙ told_shown dir m n e.object e.attributes
        (line_there dir m is n ∙ ap (option_and_then (line_told n)) there) free s.named
        (entry_is (dir ++ n ∷ []) e there).0

    at_root : (o : Option HostEntry) → find path_cmp [] shown ≡ o
        → shown_in None [] (manifest_of shown []) (own_object o) ≡ o
    at_root None there = absurd (true≢false (sym root_there ∙ ap is_some there))
    at_root (Some e) there =
        let dir = root_is e there in
        ap (shown_in None [] (manifest_of shown [])) (directory_object e.object dir)
        ∙ ap (λ (o : Option HostEntry). Some (shown_directory
        (option_and_then (λ x. manifest_with (lines_in shown []) x.object x.attributes) o))) there
        ∙ ap Some (directory_shown (lines_in shown []) e.object e.attributes dir)

    pub shown_is : (q : Path) → shown_at tree q ≡ find path_cmp q shown
    shown_is q = by (ending_of q)
      where
        by : (q ≡ []) ⊎ ((dir : Path) × (name : Name) × (q ≡ dir ++ name ∷ []))
            → shown_at tree q ≡ find path_cmp q shown
        by (inl none) =
            let own = manifest_there [] in
            let object = made.each [] in
            ap (shown_at tree) none
            ∙ (λ i. shown_in None [] (own i) (object i))
            ∙ at_root (find path_cmp [] shown) refl
            ∙ ap (λ (p : Path). find path_cmp p shown) (sym none)
        by (inr some) =
            ap (shown_at tree) some.2
            ∙ shown_below some.0 some.1
            ∙ in_dir some.0 some.1 (find path_cmp (some.0 ++ some.1 ∷ []) shown) refl (manifest_of shown some.0) refl
            ∙ ap (λ (p : Path). find path_cmp p shown) (sym some.2)

    pub shows_it : Shows tree shown
    shows_it = record { ordered = in_order; each = λ q. sym (shown_is q) }

    -- ---- no line is refused

    fine_line : (dir : Path) (m : Manifest) → manifest_of shown dir ≡ Some m → (n : Name) (e : HostEntry)
        → find path_cmp (dir ++ n ∷ []) shown ≡ Some e
        → flat_map (refused_line tree dir) (line_with n (kind_of e.object) e.attributes) ≡ []
    fine_line dir m is n e there =
        let s = stands dir n e there in
        by e.object e.attributes s.named
        (made.each (dir ++ n ∷ []) ∙ own_stands (dir ++ n ∷ []) e there)
      where
        by : (object : HostObject) (a : Option Attributes) → is_name n ≡ true
            → lookup tree (dir ++ n ∷ []) ≡ object_of object
            → flat_map (refused_line tree dir) (line_with n (kind_of object) a) ≡ []
        by host.Directory a named has = refl
        by (host.File bytes) None named has = refl
        by (host.Link target) None named has = refl
        by (host.File bytes) (Some a) named has =
            let l : Line = record { name = n; kind = kind.File; attributes = a } in
            ap (λ (o : Option Object). one_if (dir ++ n ∷ []) (fault_of l o) ++ []) has
            ∙ ap (λ t. one_if (dir ++ n ∷ []) (cond t None (Some BadName)) ++ []) named
        by (host.Link target) (Some a) named has =
            let l : Line = record { name = n; kind = kind.Link target; attributes = a } in
            ap (λ (o : Option Object). one_if (dir ++ n ∷ []) (fault_of l o) ++ []) has
            ∙ ap (λ t. one_if (dir ++ n ∷ []) (cond t None (Some BadName)) ++ []) named

    joined_fine : (dir : Path) (a b : List Line) → flat_map (refused_line tree dir) a ≡ []
        → flat_map (refused_line tree dir) b ≡ [] → flat_map (refused_line tree dir) (a ++ b) ≡ []
    joined_fine dir [] b first then = then
    joined_fine dir (l ∷ a) b first then =
        by (λ left. joined_fine dir a b left then) (refused_line tree dir l) refl first
      where
        by : (flat_map (refused_line tree dir) a ≡ [] → flat_map (refused_line tree dir) (a ++ b) ≡ [])
            → (r : Refused) → refused_line tree dir l ≡ r → r ++ flat_map (refused_line tree dir) a ≡ []
            → refused_line tree dir l ++ flat_map (refused_line tree dir) (a ++ b) ≡ []
        by further [] is first =
            ap (λ (x : Refused). x ++ flat_map (refused_line tree dir) (a ++ b)) is ∙ further first
        by further (x ∷ r) is first = cc

    fine_lines : (dir : Path) (m : Manifest) → manifest_of shown dir ≡ Some m → (es : HostTree) → Stand shown es
        → flat_map (refused_line tree dir) (lines_in es dir) ≡ []
    fine_lines dir m is [] all = refl
    fine_lines dir m is (e ∷ es) all =
        joined_fine dir (line_under (name_below dir e.0) e.1) (lines_in es dir)
        (by (name_below dir e.0) refl) (fine_lines dir m is es all.1)
      where
        by : (o : Option Name) → name_below dir e.0 ≡ o
            → flat_map (refused_line tree dir) (line_under o e.1) ≡ []
        by None below = refl
        by (Some n) below =
            fine_line dir m is n e.1
            (ap (λ (p : Path). find path_cmp p shown) (sym (below_is dir e.0 n below)) ∙ all.0)

    fine_in : (dir : Path) (k : Option Manifest) → manifest_of shown dir ≡ k → refused_in tree dir k ≡ []
    fine_in dir None is = refl
    fine_in dir (Some m) is =
        ap (flat_map (refused_line tree dir)) (has_manifest dir m is).lines
        ∙ fine_lines dir m is shown (entries_stand shown in_order)

    none_refused : (es : Tree) → flat_map (λ e. refused_in tree e.0 (manifest_for tree e.0 e.1)) es ≡ []
    none_refused [] = refl
    none_refused (e ∷ es) =
        let here : refused_in tree e.0 (manifest_for tree e.0 e.1) ≡ [] = by e.1 in
        ap (λ (x : Refused). x ++ flat_map (λ f. refused_in tree f.0 (manifest_for tree f.0 f.1)) es) here
        ∙ none_refused es
      where
        by : (object : Object) → refused_in tree e.0 (manifest_for tree e.0 object) ≡ []
        by Dir = ap (refused_in tree e.0) (manifest_there e.0) ∙ fine_in e.0 (manifest_of shown e.0) refl
        by (File bytes) = refl

    pub none_is_refused : refused tree ≡ []
    none_is_refused = none_refused tree
