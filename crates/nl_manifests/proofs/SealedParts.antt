-- What entries of the host become, put together, is the tree that shows them.
use Rattle.std.proofs.Common.{◌≡◌, ◌⊎◌, true, false, cond, List, [], ◌∷◌, ◌++◌, Option, Some, None, refl, sym, ap, ◌∙◌, true≢false, is_some, append_assoc, inl, inr}
use Rattle.std.specs.Prelude.{option_and_then}
use Rattle.std.specs.List.{flat_map, list_all}
use Rattle.std.specs.Ordering.{is_lt}
use Rattle.std.specs.FinMap.{find, is_sorted}
use Rattle.std.specs.FinMap.Entries.{below_all}
use Rattle.std.proofs.lemmas.Bool.{and_parts, and_from}
use Rattle.nl_types.specs.declared.reply.Object.{Object}
use Rattle.nl_types.specs.declared.reply.Object.TheVariants.{Dir, File}
use Rattle.nl_types.specs.Plain.Paths.{Name, Path, path_cmp, same_name}
use Rattle.nl_types.specs.Plain.Trees.{Tree}
use Rattle.nl_types.specs.Facts.Lookups.{same_name-equal, same_path-itself}
use Rattle.nl_manifests.specs.declared.manifest.Line.{Line}
use Rattle.nl_manifests.specs.declared.manifest.Manifest.{Manifest}
use Rattle.nl_manifests.specs.declared.host_tree.HostObject.{HostObject}
use Rattle.nl_manifests.specs.declared.host_tree.HostObject.TheVariants as host
use Rattle.nl_manifests.specs.declared.host_tree.HostEntry.{HostEntry}
use Rattle.nl_manifests.specs.HostTrees.{HostTree, last_name, manifest_name, parted}
use Rattle.nl_manifests.specs.Manifests.{printed}
use Rattle.nl_manifests.specs.Sealed.{IsSealed, is_directory, is_host_tree, line_under, lines_in, manifest_of, manifest_over, manifest_with, object_of, own_object, sealed_at, sealed_in}
use Rattle.nl_manifests.specs.Private.Places.{Puts, puts}
use Rattle.nl_manifests.specs.Private.Sealing.{lines_until, manifest_part, own_manifest, sealed_part, sealed_parts}
use Rattle.nl_manifests.proofs.HostLines.{no_line_itself, no_lines_before, until_is}
use Rattle.nl_manifests.proofs.Kept.{Stand, entries_stand, not_none}
use Rattle.nl_manifests.proofs.SealedTrees.{has_manifest, in_order, own_stands, sealed_below}
use Rattle.nl_manifests.proofs.Shown.{Are, Are-append, ending_of, found_among, found_right, puts_are}

-- ---- parts by the whole tree

-- what an entry becomes, by the lines of all that is in it
abbrev part_in : HostTree → Path × HostEntry → Tree
part_in shown e = sealed_part e.0 e.1.object (manifest_with (lines_in shown e.0) e.1.object e.1.attributes)

pub sorted_from : (front es : HostTree) → is_sorted path_cmp (front ++ es) ≡ true → is_sorted path_cmp es ≡ true
sorted_from [] es sorted = sorted
sorted_from (x ∷ front) es sorted =
    sorted_from front es (and_parts (below_all path_cmp x.0 (front ++ es)) (is_sorted path_cmp (front ++ es)) sorted).1

-- what comes before an entry is below it
pub before_entry : (front : HostTree) (e : Path × HostEntry) (es : HostTree)
    → is_sorted path_cmp (front ++ e ∷ es) ≡ true → list_all (λ x. is_lt (path_cmp x.0 e.0)) front ≡ true
before_entry [] e es sorted = refl
before_entry (x ∷ front) e es sorted =
    let parts =
    and_parts (below_all path_cmp x.0 (front ++ e ∷ es)) (is_sorted path_cmp (front ++ e ∷ es)) sorted in
    and_from (is_lt (path_cmp x.0 e.0)) _ (among front parts.0) (before_entry front e es parts.1)
  where
    among : (f : HostTree) → below_all path_cmp x.0 (f ++ e ∷ es) ≡ true → is_lt (path_cmp x.0 e.0) ≡ true
    among [] below = (and_parts (is_lt (path_cmp x.0 e.0)) (below_all path_cmp x.0 es) below).0
    among (y ∷ f) below =
        among f (and_parts (is_lt (path_cmp x.0 y.0)) (below_all path_cmp x.0 (f ++ e ∷ es)) below).1

-- the lines up to the end of a directory are all that it has
lines_are : (front : HostTree) (e : Path × HostEntry) (es : HostTree)
    → is_sorted path_cmp (front ++ e ∷ es) ≡ true → lines_until e.0 es ≡ lines_in (front ++ e ∷ es) e.0
lines_are front e es sorted =
    let here = sorted_from front (e ∷ es) sorted in
    let parts = and_parts (below_all path_cmp e.0 es) (is_sorted path_cmp es) here in
    until_is e.0 es parts.0 parts.1
    ∙ sym (no_lines_before front e.0 (e ∷ es) (before_entry front e es sorted)
    ∙ ap (λ (o : Option Name). line_under o e.1 ++ lines_in es e.0) (no_line_itself e.0))

parts_by : (front es : HostTree) → is_sorted path_cmp (front ++ es) ≡ true
    → sealed_parts es ≡ flat_map (part_in (front ++ es)) es
parts_by front [] sorted = refl
parts_by front (e ∷ es) sorted =
    let whole : (front ++ e ∷ []) ++ es ≡ front ++ e ∷ es = append_assoc front (e ∷ []) es in
    let rest =
    parts_by (front ++ e ∷ []) es (ap (is_sorted path_cmp) whole ∙ sorted)
    ∙ ap (λ (x : HostTree). flat_map (part_in x) es) whole in
    let here : sealed_part e.0 e.1.object (own_manifest e es) ≡ part_in (front ++ e ∷ es) e =
    ap (λ (x : List Line). sealed_part e.0 e.1.object (manifest_with x e.1.object e.1.attributes))
    (lines_are front e es sorted) in
    λ i. here i ++ rest i

-- ---- what they are

module _ (shown : HostTree) (whole : is_host_tree shown ≡ true) where
  manifest_is : (e : Path × HostEntry) → find path_cmp e.0 shown ≡ Some e.1
      → manifest_of shown e.0 ≡ manifest_with (lines_in shown e.0) e.1.object e.1.attributes
  manifest_is e found =
      ap (option_and_then (λ x. manifest_with (lines_in shown e.0) x.object x.attributes)) found

  manifest_are : (path : Path) (k : Option Manifest) → manifest_of shown path ≡ k
      → Are (sealed_at shown) (manifest_part path k)
  manifest_are path None is = tt
  manifest_are path (Some m) is = (
    sealed_below shown whole path manifest_name
        ∙ ap (λ (k : Option Manifest). sealed_in k manifest_name (find path_cmp (path ++ manifest_name ∷ []) shown)) is,
    tt,
  )

  part_are : (path : Path) (object : HostObject) (k : Option Manifest) → sealed_at shown path ≡ object_of object
      → manifest_of shown path ≡ k → Are (sealed_at shown) (sealed_part path object k)
  part_are path host.Directory k own is = (own, manifest_are path k is)
  part_are path (host.File bytes) k own is = (own, tt)
  part_are path (host.Link target) k own is = tt

  all_are : (es : HostTree) → Stand shown es → Are (sealed_at shown) (flat_map (part_in shown) es)
  all_are [] stand = tt
  all_are (e ∷ es) stand =
      Are-append (sealed_at shown) (part_in shown e) (flat_map (part_in shown) es)
      (part_are e.0 e.1.object (manifest_with (lines_in shown e.0) e.1.object e.1.attributes)
      (own_stands shown whole e.0 e.1 stand.0) (manifest_is e stand.0))
      (all_are es stand.1)

  -- ---- all that the tree has is among them

  own_found : (q : Path) (e : HostEntry) (v : Object) → object_of e.object ≡ Some v
      → is_some (find path_cmp q (part_in shown (q, e))) ≡ true
  own_found q e v is = by e.object is (manifest_with (lines_in shown q) e.object e.attributes)
    where
      by : (object : HostObject) → object_of object ≡ Some v → (k : Option Manifest)
          → is_some (find path_cmp q (sealed_part q object k)) ≡ true
      by host.Directory is k =
          ap (λ t. is_some (cond t (Some Dir) (find path_cmp q (manifest_part q k)))) (same_path-itself q)
      by (host.File bytes) is k =
          ap (λ t. is_some (cond t (Some (File bytes)) None)) (same_path-itself q)
      by (host.Link target) is k = absurd (not_none v is)

  manifest_found : (dir : Path) (m : Manifest) → manifest_of shown dir ≡ Some m
      → is_some (find path_cmp (dir ++ manifest_name ∷ []) (flat_map (part_in shown) shown)) ≡ true
  manifest_found dir m is =
      let h = has_manifest shown whole dir m is in
      let own : manifest_with (lines_in shown dir) h.entry.object h.entry.attributes ≡ Some m =
      sym (manifest_is (dir, h.entry) h.found) ∙ is in
      found_among (part_in shown) (dir ++ manifest_name ∷ []) dir h.entry shown h.found
      (by h.entry.object h.directory (manifest_with (lines_in shown dir) h.entry.object h.entry.attributes) own)
    where
      by : (object : HostObject) → is_directory object ≡ true → (k : Option Manifest) → k ≡ Some m
          → is_some (find path_cmp (dir ++ manifest_name ∷ []) (sealed_part dir object k)) ≡ true
      by host.Directory dir_is None own = absurd (not_none m own)
      by host.Directory dir_is (Some k) own =
          found_right (dir ++ manifest_name ∷ []) ((dir, Dir) ∷ []) (manifest_part dir (Some k))
          (ap (λ t. is_some (cond t (Some (File (printed k))) None)) (same_path-itself (dir ++ manifest_name ∷ [])))
      by (host.File bytes) dir_is k own = absurd (true≢false (sym dir_is))
      by (host.Link target) dir_is k own = absurd (true≢false (sym dir_is))

  own_covered : (q : Path) (v : Object) → own_object (find path_cmp q shown) ≡ Some v
      → is_some (find path_cmp q (flat_map (part_in shown) shown)) ≡ true
  own_covered q v is = by (find path_cmp q shown) refl is
    where
      by : (o : Option HostEntry) → find path_cmp q shown ≡ o → own_object o ≡ Some v
          → is_some (find path_cmp q (flat_map (part_in shown) shown)) ≡ true
      by None there is = absurd (not_none v is)
      by (Some e) there is = found_among (part_in shown) q q e shown there (own_found q e v is)

  covered : (q : Path) (v : Object) → sealed_at shown q ≡ Some v
      → is_some (find path_cmp q (flat_map (part_in shown) shown)) ≡ true
  covered q v is = by (ending_of q)
    where
      in_dir : (dir : Path) (n : Name) → q ≡ dir ++ n ∷ [] → (k : Option Manifest) → manifest_of shown dir ≡ k
          → sealed_in k n (find path_cmp q shown) ≡ Some v
          → is_some (find path_cmp q (flat_map (part_in shown) shown)) ≡ true
      in_dir dir n at None is_k has = own_covered q v has
      in_dir dir n at (Some m) is_k has =
          elim (same_name n manifest_name) as (λ t. same_name n manifest_name ≡ t
          → cond t (Some (File (printed m))) (own_object (find path_cmp q shown)) ≡ Some v
          → is_some (find path_cmp q (flat_map (part_in shown) shown)) ≡ true) [
            | true ↦ λ same _.
                let place : q ≡ dir ++ manifest_name ∷ [] =
                at ∙ ap (λ (x : Name). dir ++ x ∷ []) (same_name-equal n manifest_name same) in
                ap (λ (p : Path). is_some (find path_cmp p (flat_map (part_in shown) shown))) place
                ∙ manifest_found dir m is_k
            | false ↦ λ _ own. own_covered q v own
          ] refl has

      by : (q ≡ []) ⊎ ((dir : Path) × (name : Name) × (q ≡ dir ++ name ∷ []))
          → is_some (find path_cmp q (flat_map (part_in shown) shown)) ≡ true
      by (inl none) =
          own_covered q v
          (sym (ap (λ (p : Path). sealed_in (manifest_over shown (parted p)) (last_name (parted p))
          (find path_cmp q shown)) none) ∙ is)
      by (inr some) =
          in_dir some.0 some.1 some.2 (manifest_of shown some.0) refl
          (ap (λ (p : Path). sealed_in (manifest_of shown some.0) some.1 (find path_cmp p shown)) some.2
          ∙ sym (sealed_below shown whole some.0 some.1)
          ∙ sym (ap (sealed_at shown) some.2) ∙ is)

  pub sealed_is : (q : Path) → find path_cmp q (puts [] (sealed_parts shown)) ≡ sealed_at shown q
  sealed_is q =
      ap (λ (x : Tree). find path_cmp q (puts [] x)) (parts_by [] shown (in_order shown whole))
      ∙ puts_are (sealed_at shown) (flat_map (part_in shown) shown)
      (all_are shown (entries_stand shown (in_order shown whole))) covered q

  pub sealed_by : (tree : Tree) → Puts [] (sealed_parts shown) tree → IsSealed shown tree
  sealed_by tree put = record {
    ordered = put.ordered;
    each = λ q. ap (find path_cmp q) put.is ∙ sealed_is q;
  }
