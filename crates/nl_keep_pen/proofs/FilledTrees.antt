-- What a tree shows, by what it shows without the bytes of its files.
use Rattle.std.proofs.Common.{◌≡◌, ℕ, Bool, true, false, cond, ◌&&◌, List, [], ◌∷◌, ◌++◌, Option, Some, None, refl, ap, ◌∙◌, is_some}
use Rattle.std.specs.Option.{option_map}
use Rattle.nl_types.specs.declared.reply.Object.{Object}
use Rattle.nl_types.specs.declared.reply.Object.TheVariants.{Dir, File}
use Rattle.nl_types.specs.Plain.Paths.{Name, Path, same_name}
use Rattle.nl_types.specs.Plain.Trees.{Tree, lookup}
use Rattle.nl_types.specs.Facts.Lookups.{same_name-itself}
use Rattle.nl_manifests.specs.declared.manifest.Line.{Line}
use Rattle.nl_manifests.specs.declared.manifest.Manifest.{Manifest}
use Rattle.nl_manifests.specs.declared.host_tree.HostObject.{HostObject}
use Rattle.nl_manifests.specs.declared.host_tree.HostObject.TheVariants as host
use Rattle.nl_manifests.specs.declared.host_tree.HostEntry.{HostEntry}
use Rattle.nl_manifests.specs.HostTrees.{HostTree, Shows, last_name, line_in, manifest_above, manifest_at, manifest_in_object, manifest_name, parted, shown_at, shown_file, shown_in}
use Rattle.nl_manifests.specs.Unread.{unread, unread_at, unread_object}
use Rattle.nl_keep_pen.specs.Facts.UnreadTrees.{all_made, found_made, found_unread, sorted_made}
use Rattle.nl_keep_pen.proofs.UnreadAnswers.{last_below}

-- ---- entries

-- a file with the bytes that it has in a tree
abbrev filled_object : Option Object → HostObject → HostObject
filled_object None shown = shown
filled_object (Some Dir) shown = shown
filled_object (Some (File bytes)) host.Directory = host.Directory
filled_object (Some (File bytes)) (host.File empty) = host.File bytes
filled_object (Some (File bytes)) (host.Link target) = host.Link target

abbrev filled_entry : Option Object → HostEntry → HostEntry
filled_entry o e = record { object = filled_object o e.object; attributes = e.attributes }

abbrev filled : Tree → Path → HostEntry → HostEntry
filled tree path e = filled_entry (lookup tree path) e

none_filled : (e : Option HostEntry) → option_map (filled_entry None) e ≡ e
none_filled None = refl
none_filled (Some e) = refl

file_filled : (bytes given : List ℕ) (hidden : Bool) (line : Option Line)
    → ◌≡◌ {A = Option HostEntry}
    (option_map (filled_entry (Some (File bytes))) (cond hidden None (Some (shown_file given line))))
    (cond hidden None (Some (shown_file bytes line)))
file_filled bytes given true line = refl
file_filled bytes given false line = refl

in_filled : (above : Option Manifest) (name : Name) (own : Option Manifest) (o : Option Object)
    → option_map (filled_entry o) (shown_in above name own (option_map (unread_object name) o))
    ≡ shown_in above name own o
in_filled above name own None = none_filled (shown_in above name own None)
in_filled above name own (Some Dir) = refl
in_filled above name own (Some (File bytes)) =
    elim (same_name name manifest_name) as (λ same.
    option_map (filled_entry (Some (File bytes))) (shown_in above name own (Some (cond same (File bytes) (File []))))
    ≡ shown_in above name own (Some (File bytes))) [
      | true ↦ file_filled bytes bytes (is_some above && same_name name manifest_name) (line_in above name)
      | false ↦ file_filled bytes [] (is_some above && same_name name manifest_name) (line_in above name)
    ]

-- ---- manifests

last_ends : (dir : Path) (name : Name) → last_name (parted (dir ++ name ∷ [])) ≡ name
last_ends [] name = refl
last_ends (n ∷ []) name = refl
last_ends (n ∷ m ∷ dir) name = last_below n (parted (m ∷ dir ++ name ∷ [])) ∙ last_ends (m ∷ dir) name

module _ (tree : Tree) where
  -- they are read
  manifest_same : (dir : Path) → manifest_at (unread tree) dir ≡ manifest_at tree dir
  manifest_same dir =
      ap manifest_in_object (found_unread tree (dir ++ manifest_name ∷ []))
      ∙ by (lookup tree (dir ++ manifest_name ∷ []))
    where
      by : (o : Option Object)
          → manifest_in_object (option_map (unread_at (dir ++ manifest_name ∷ [])) o) ≡ manifest_in_object o
      by None = refl
      by (Some Dir) = refl
      by (Some (File bytes)) =
          ap (λ (n : Name). manifest_in_object (Some (unread_object n (File bytes)))) (last_ends dir manifest_name)
          ∙ ap (λ t. manifest_in_object (Some (cond t (File bytes) (File [])))) (same_name-itself manifest_name)

  above_same : (p : Option (Path × Name)) → manifest_above (unread tree) p ≡ manifest_above tree p
  above_same None = refl
  above_same (Some p) = manifest_same p.0

  -- ---- what is shown

  shown_filled : (path : Path)
      → option_map (filled tree path) (shown_at (unread tree) path) ≡ shown_at tree path
  shown_filled path =
      let p = parted path in
      (λ i. option_map (filled tree path)
      (shown_in (above_same p i) (last_name p) (manifest_same path i) (found_unread tree path i)))
      ∙ in_filled (manifest_above tree p) (last_name p) (manifest_at tree path) (lookup tree path)

  pub whole_shown : (bare : HostTree) → Shows (unread tree) bare → (whole : HostTree) × Shows tree whole
  whole_shown bare shows = (
    all_made (filled tree) bare,
    record {
      ordered = sorted_made (filled tree) bare ∙ shows.ordered;
      each = λ p.
          found_made (filled tree) bare p ∙ ap (option_map (filled tree p)) (shows.each p) ∙ shown_filled p;
    },
  )

  -- something is shown with bytes exactly where it is without them
  pub is_shown : (path : Path) → is_some (shown_at (unread tree) path) ≡ is_some (shown_at tree path)
  is_shown path = by (shown_at (unread tree) path) ∙ ap is_some (shown_filled path)
    where
      by : (e : Option HostEntry) → is_some e ≡ is_some (option_map (filled tree path) e)
      by None = refl
      by (Some e) = refl
