-- A tree shows what is put together of its entries.
use Rattle.std.proofs.Common.{◌≡◌, ◌⊎◌, true, false, cond, List, [], ◌∷◌, ◌++◌, Option, Some, None, refl, sym, ap, ◌∙◌, subst, true≢false, is_some, inl, inr}
use Rattle.std.specs.List.{flat_map}
use Rattle.std.specs.FinMap.{find}
use Rattle.std.proofs.lemmas.Option.{same_Some}
use Rattle.nl_types.specs.declared.reply.Object.{Object}
use Rattle.nl_types.specs.declared.reply.Object.TheVariants.{Dir, File}
use Rattle.nl_types.specs.Plain.Paths.{Name, Path, is_name, path_cmp, same_name}
use Rattle.nl_types.specs.Plain.Trees.{Tree, IsTree, lookup}
use Rattle.nl_types.specs.Facts.Lookups.{same_name-equal, same_path-itself}
use Rattle.nl_manifests.specs.declared.manifest.Line.{Line}
use Rattle.nl_manifests.specs.declared.manifest.Manifest.{Manifest}
use Rattle.nl_manifests.specs.declared.host_tree.HostEntry.{HostEntry}
use Rattle.nl_manifests.specs.HostTrees.{HostTree, last_name, line_in, line_named, manifest_above, manifest_at, parted, shown_at, shown_directory, shown_in, shown_link}
use Rattle.nl_manifests.specs.Private.Opening.{above_in, entry_if, link_part, link_where, links_part, manifests, object_part, parts}
use Rattle.nl_manifests.specs.Private.Places.{puts}
use Rattle.nl_manifests.proofs.Kept.{AreNamed, Stand, are_named, entries_stand, found_manifests, lines_ascend, lines_sorted, manifest_at_is, manifest_dir, not_none}
use Rattle.nl_manifests.proofs.Shown.{Are, Are-append, ending_of, found_among, found_left, found_right, parted_ends, puts_are}

abbrev Met : Option HostEntry → Option HostEntry → Type 0
Met a b = a ≡ b

entry_found : (path : Path) (o : Option HostEntry) (v : HostEntry) → Met o (Some v)
    → is_some (find path_cmp path (entry_if path o)) ≡ true
entry_found path None v is = absurd (not_none v is)
entry_found path (Some w) v is =
    ap (λ t. is_some (cond t (Some w) (find path_cmp path []))) (same_path-itself path)

entry_are : (shows : Path → Option HostEntry) (path : Path) (o : Option HostEntry)
    → ((v : HostEntry) → Met o (Some v) → shows path ≡ Some v) → Are shows (entry_if path o)
entry_are shows path None is = tt
entry_are shows path (Some v) is = (is v refl, tt)

-- where no line is, no link is
no_line : (n : Name) (v : HostEntry) → Met (shown_link n None) (Some v) → ⊥
no_line n v found = elim (is_name n) as (λ b. Met (cond b None None) (Some v) → ⊥)
    [ true ↦ λ is. absurd (not_none v is) | false ↦ λ is. absurd (not_none v is) ] found

abbrev part_of : Tree → Path × Object → HostTree
part_of tree e = object_part tree (manifests tree) e.0 e.1

module _ (tree : Tree) (t : IsTree tree) where
  -- what is shown at a path below a directory
  shown_below : (d : Path) (n : Name) (own : Option Manifest) (object : Option Object)
      → shown_in (manifest_above tree (parted (d ++ n ∷ []))) (last_name (parted (d ++ n ∷ []))) own object
      ≡ shown_in (manifest_at tree d) n own object
  shown_below d n own object =
      ap (λ (o : Option (Path × Name)). shown_in (manifest_above tree o) (last_name o) own object)
      (parted_ends d n)

  above_is : (o : Option (Path × Name)) → above_in (manifests tree) o ≡ manifest_above tree o
  above_is None = refl
  above_is (Some p) = found_manifests tree t p.0

  -- ---- what is put together is shown

  link_are : (d : Path) (m : Manifest) → manifest_at tree d ≡ Some m → (l : Line) → line_named m.lines
      l.name ≡ Some l
      → Are (shown_at tree) (link_part tree d l)
  link_are d m is l named =
      entry_are (shown_at tree) (d ++ l.name ∷ []) (link_where (lookup tree (d ++ l.name ∷ [])) l)
      (by (lookup tree (d ++ l.name ∷ [])) refl)
    where
      by : (o : Option Object) → lookup tree (d ++ l.name ∷ []) ≡ o → (v : HostEntry) → Met (link_where o l)
          (Some v)
          → shown_at tree (d ++ l.name ∷ []) ≡ Some v
      by (Some object) there v found = absurd (not_none v found)
      by None there v found =
          shown_below d l.name (manifest_at tree (d ++ l.name ∷ [])) (lookup tree (d ++ l.name ∷ []))
          ∙ ap (shown_in (manifest_at tree d) l.name (manifest_at tree (d ++ l.name ∷ []))) there
          ∙ ap (λ (k : Option Manifest). shown_link l.name (line_in k l.name)) is
          ∙ ap (shown_link l.name) named ∙ found

  links_are : (d : Path) (m : Manifest) → manifest_at tree d ≡ Some m → (some : List Line) → AreNamed
      m.lines some
      → Are (shown_at tree) (flat_map (link_part tree d) some)
  links_are d m is [] named = tt
  links_are d m is (l ∷ some) named =
      Are-append (shown_at tree) (link_part tree d l) (flat_map (link_part tree d) some)
      (link_are d m is l named.0) (links_are d m is some named.1)

  dir_links_are : (d : Path) (k : Option Manifest) → manifest_at tree d ≡ k
      → Are (shown_at tree) (links_part tree d k)
  dir_links_are d None is = tt
  dir_links_are d (Some m) is =
      links_are d m is m.lines
      (are_named m.lines (lines_sorted m.lines (lines_ascend m (manifest_at_is tree d m is))))

  object_are : (path : Path) (object : Object) → lookup tree path ≡ Some object
      → Are (shown_at tree) (object_part tree (manifests tree) path object)
  object_are path Dir is =
      let own = found_manifests tree t path in (
        ap (shown_in (manifest_above tree (parted path)) (last_name (parted path)) (manifest_at tree path)) is
            ∙ ap (λ (k : Option Manifest). Some (shown_directory k)) (sym own),
        dir_links_are path (find path_cmp path (manifests tree)) (sym own),
      )
  object_are path (File bytes) is =
      entry_are (shown_at tree) path
      (shown_in (above_in (manifests tree) (parted path)) (last_name (parted path)) None (Some (File bytes)))
      (λ v found.
      ap (shown_in (manifest_above tree (parted path)) (last_name (parted path)) (manifest_at tree path)) is
      ∙ ap (λ (k : Option Manifest). shown_in k (last_name (parted path)) None (Some (File bytes)))
      (sym (above_is (parted path))) ∙ found)

  parts_are : (es : Tree) → Stand tree es → Are (shown_at tree) (parts tree (manifests tree) es)
  parts_are [] stand = tt
  parts_are (e ∷ es) stand =
      Are-append (shown_at tree) (object_part tree (manifests tree) e.0 e.1) (parts tree (manifests tree) es)
      (object_are e.0 e.1 stand.0) (parts_are es stand.1)

  -- ---- what is shown is put together

  -- a link is among those of its directory
  link_found : (d : Path) (n : Name) (v : HostEntry) → lookup tree (d ++ n ∷ []) ≡ None → (some : List Line)
      → Met (shown_link n (line_named some n)) (Some v)
      → is_some (find path_cmp (d ++ n ∷ []) (flat_map (link_part tree d) some)) ≡ true
  link_found d n v free some found = by some (line_named some n) refl found
    where
      by : (some : List Line) (o : Option Line) → line_named some n ≡ o → Met (shown_link n o) (Some v)
          → is_some (find path_cmp (d ++ n ∷ []) (flat_map (link_part tree d) some)) ≡ true
      by some None is found = absurd (no_line n v found)
      by [] (Some l) is found = absurd (not_none l is)
      by (k ∷ some) (Some l) is found =
          elim (same_name n k.name) as (λ b. same_name n k.name ≡ b → cond b (Some k) (line_named some n)
          ≡ Some l
          → is_some (find path_cmp (d ++ n ∷ []) (link_part tree d k ++ flat_map (link_part tree d) some))
          ≡ true) [
            | true ↦ λ same here.
                let names : n ≡ k.name = same_name-equal n k.name same in
                let lines : k ≡ l = same_Some k l here in
                let one : is_some (find path_cmp (d ++ n ∷ []) (entry_if (d ++ n ∷ []) (link_where (lookup
                tree (d ++ n ∷ [])) k))) ≡ true =
                entry_found (d ++ n ∷ []) (link_where (lookup tree (d ++ n ∷ [])) k) v
                (ap (λ (o : Option Object). link_where o k) free
                ∙ ap (λ (x : Name). shown_link x (Some k)) (sym names)
                ∙ ap (λ (x : Line). shown_link n (Some x)) lines ∙ found) in
                found_left (d ++ n ∷ []) (link_part tree d k) (flat_map (link_part tree d) some)
                (subst (λ (x : Name). is_some (find path_cmp (d ++ n ∷ []) (entry_if (d ++ x ∷ [])
                (link_where (lookup tree (d ++ x ∷ [])) k))) ≡ true) names one)
            | false ↦ λ _ behind.
                found_right (d ++ n ∷ []) (link_part tree d k) (flat_map (link_part tree d) some)
                (by some (Some l) behind found)
          ] refl is

  covers : (q : Path) (v : HostEntry) → shown_at tree q ≡ Some v
      → is_some (find path_cmp q (parts tree (manifests tree) tree)) ≡ true
  covers q v is = by (lookup tree q) refl
    where
      shown : (o : Option Object) → lookup tree q ≡ o
          → Met (shown_in (manifest_above tree (parted q)) (last_name (parted q)) (manifest_at tree q) o)
          (Some v)
      shown o there =
          sym (ap (shown_in (manifest_above tree (parted q)) (last_name (parted q)) (manifest_at tree q))
          there) ∙ is

      told : (d : Path) (n : Name) → q ≡ d ++ n ∷ [] → lookup tree q ≡ None → (k : Option Manifest)
          → manifest_at tree d ≡ k → Met (shown_link n (line_in k n)) (Some v)
      told d n at free k is_k =
          ap (λ (x : Option Manifest). shown_link n (line_in x n)) (sym is_k)
          ∙ sym (shown_below d n (manifest_at tree q) None)
          ∙ ap (λ (p : Path). shown_in (manifest_above tree (parted p)) (last_name (parted p))
          (manifest_at tree q) None) (sym at)
          ∙ shown None free

      below : (d : Path) (n : Name) → q ≡ d ++ n ∷ [] → lookup tree q ≡ None → (k : Option Manifest)
          → manifest_at tree d ≡ k
          → is_some (find path_cmp q (parts tree (manifests tree) tree)) ≡ true
      below d n at free None none =
          absurd (no_line n v (told d n at free None none))
      below d n at free (Some m) is_m =
          let links = link_found d n v (ap (lookup tree) (sym at) ∙ free) m.lines (told d n at free (Some
          m) is_m) in
          let own : links_part tree d (find path_cmp d (manifests tree)) ≡ flat_map (link_part tree d)
          m.lines =
          ap (links_part tree d) (found_manifests tree t d ∙ is_m) in
          let here : is_some (find path_cmp q (links_part tree d (find path_cmp d (manifests tree)))) ≡ true =
          ap (λ (p : Path). is_some (find path_cmp p (links_part tree d (find path_cmp d (manifests
          tree))))) at
          ∙ ap (λ (x : HostTree). is_some (find path_cmp (d ++ n ∷ []) x)) own ∙ links in
          found_among (part_of tree) q d Dir tree (manifest_dir tree t d m is_m)
          (found_right q ((d, shown_directory (find path_cmp d (manifests tree))) ∷ []) (links_part tree d
          (find path_cmp d (manifests tree))) here)

      by : (o : Option Object) → lookup tree q ≡ o → is_some (find path_cmp q (parts tree (manifests tree)
          tree)) ≡ true
      by (Some Dir) there =
          found_among (part_of tree) q q Dir tree there
          (found_left q ((q, shown_directory (find path_cmp q (manifests tree))) ∷ []) _
          (ap (λ b. is_some (cond b (Some (shown_directory (find path_cmp q (manifests tree)))) (find
          path_cmp q []))) (same_path-itself q)))
      by (Some (File bytes)) there =
          found_among (part_of tree) q q (File bytes) tree there
          (entry_found q (shown_in (above_in (manifests tree) (parted q)) (last_name (parted q)) None
          (Some (File bytes))) v
          (ap (λ (k : Option Manifest). shown_in k (last_name (parted q)) None (Some (File bytes)))
          (above_is (parted q))
          ∙ shown (Some (File bytes)) there))
      by None there = ended (ending_of q)
        where
          ended : (q ≡ []) ⊎ ((d : Path) × (n : Name) × (q ≡ d ++ n ∷ []))
              → is_some (find path_cmp q (parts tree (manifests tree) tree)) ≡ true
          ended (inl root) = absurd (true≢false (sym (ap is_some (ap (lookup tree) root ∙ t.root)) ∙ ap
              is_some there))
          ended (inr e) = below e.0 e.1 e.2 there (manifest_at tree e.0) refl

  pub opened_is : (q : Path) → find path_cmp q (puts [] (parts tree (manifests tree) tree)) ≡ shown_at tree q
  opened_is =
      puts_are (shown_at tree) (parts tree (manifests tree) tree)
      (parts_are tree (entries_stand tree t.ordered)) covers
