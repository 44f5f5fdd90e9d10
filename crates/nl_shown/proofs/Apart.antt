-- Folders without what is in the place of pins, sealed beside them.
use Rattle.std.proofs.Common.{◌≡◌, ◌≤◌, Bool, true, false, cond, not, List, [], ◌∷◌, ◌++◌, length, Option, Some, None, refl, sym, ap, ◌∙◌, is_some, true≢false, arith}
use Rattle.std.proofs.lemmas.List.Filters.{length-filter_both}
use Rattle.std.specs.Prelude.{option_and_then}
use Rattle.std.specs.Option.{option_map}
use Rattle.std.specs.FinMap.{find}
use Rattle.std.specs.FinMap.Entries.{same_entries}
use Rattle.nl_types.specs.declared.reply.Object.{Object}
use Rattle.nl_types.specs.declared.reply.Object.TheVariants.{Dir, File}
use Rattle.nl_types.specs.Plain.Paths.{Name, Path, path_cmp, same_name}
use Rattle.nl_types.specs.Plain.Trees.{Tree, IsIn, IsTree, lookup}
use Rattle.nl_types.specs.Facts.Booleans.{holds}
use Rattle.nl_types.specs.Facts.Lookups.{same_name-equal}
use Rattle.nl_types.specs.Facts.TreeLaws.{path_total, paths_equal}
use Rattle.nl_manifests.specs.declared.host_tree.HostEntry.{HostEntry}
use Rattle.nl_manifests.specs.declared.manifest.Manifest.{Manifest}
use Rattle.nl_manifests.specs.HostTrees.{HostTree, last_name, manifest_name, parted}
use Rattle.nl_manifests.specs.Manifests.{printed}
use Rattle.nl_manifests.specs.Sealed.{IsSealed, lines_in, manifest_of, manifest_over, manifest_with, sealed_at, sealed_in}
use Rattle.nl_pins.specs.Facts.PinlessTrees.{found_pinless, sorted_pinless}
use Rattle.nl_pins.specs.Trees.{is_of_pins, pins_name, without_pins}

pub none_of_pins : {X : Type 0} (es : List (Path × X)) (p : Path) → is_of_pins p ≡ true
    → find path_cmp p (without_pins es) ≡ None
none_of_pins es p is = found_pinless es p ∙ ap (λ b. cond b None (find path_cmp p es)) is

-- ---- nothing is sealed in the place of pins

other_name : (n : Name) → same_name n pins_name ≡ true → same_name n manifest_name ≡ false
other_name n is = ap (λ (m : Name). same_name m manifest_name) (same_name-equal n pins_name is)

no_object : (above : Option Manifest) (n : Name) → same_name n manifest_name ≡ false
    → sealed_in above n None ≡ None
no_object None n other = refl
no_object (Some m) n other = ap (λ b. cond {A = Option Object} b (Some (File (printed m))) None) other

module _ (shown : HostTree) (none : (p : Path) → is_of_pins p ≡ true → find path_cmp p shown ≡ None) where
  none_sealed : (path : Path) → is_of_pins path ≡ true → sealed_at shown path ≡ None
  none_sealed [] is = absurd (true≢false (sym is))
  none_sealed (n ∷ []) is =
      ap (sealed_in (manifest_of shown []) n) (none (n ∷ []) is)
      ∙ no_object (manifest_of shown []) n (other_name n is)
  none_sealed (n ∷ m ∷ path) is =
      elim (parted (m ∷ path)) as (λ (o : Option (Path × Name)).
      sealed_in (manifest_over shown (option_map (λ p. (n ∷ p.0, p.1)) o))
      (last_name (option_map (λ p. (n ∷ p.0, p.1)) o)) (find path_cmp (n ∷ m ∷ path) shown) ≡ None) [
        | None ↦ ap (sealed_in None []) (none (n ∷ m ∷ path) is)
        | Some p ↦ λ i.
            sealed_in
            (option_and_then (λ (e : HostEntry). manifest_with (lines_in shown (n ∷ p.0)) e.object e.attributes)
            (none (n ∷ p.0) is i))
            p.1 (none (n ∷ m ∷ path) is i)
      ]

pub sealed_apart : (folder : HostTree) (sealed : Tree) → IsSealed (without_pins folder) sealed
    → without_pins sealed ≡ sealed
sealed_apart folder sealed is =
    same_entries path_cmp path_total paths_equal (without_pins sealed) sealed
    (holds _ (sorted_pinless sealed is.ordered)) (holds _ is.ordered)
    (λ q. found_pinless sealed q ∙ by q (is_of_pins q) refl)
  where
    by : (q : Path) (b : Bool) → is_of_pins q ≡ b → cond b None (lookup sealed q) ≡ lookup sealed q
    by q true of = sym (is.each q ∙ none_sealed (without_pins folder) (none_of_pins folder) q of)
    by q false of = refl

-- ---- a tree without pins

module _ (tree : Tree) where
  in_all : (path : Path) (o : Object) → lookup (without_pins tree) path ≡ Some o
      → (is_of_pins path ≡ false) × (lookup tree path ≡ Some o)
  in_all path o is =
      elim (is_of_pins path) as (λ b. is_of_pins path ≡ b → cond b None (lookup tree path) ≡ Some o
      → (is_of_pins path ≡ false) × (lookup tree path ≡ Some o)) [
        | true ↦ λ _ none. let no : ◌≡◌ {A = Option Object} None (Some o) = none in cc
        | false ↦ λ other found. (other, found)
      ] refl (sym (found_pinless tree path) ∙ is)

  is_in_all : (path : Path) → IsIn (without_pins tree) path → (is_of_pins path ≡ false) × IsIn tree path
  is_in_all path there =
      elim (is_of_pins path) as (λ b. is_of_pins path ≡ b → is_some (cond b None (lookup tree path)) ≡ true
      → (is_of_pins path ≡ false) × IsIn tree path) [
        | true ↦ λ _ none. absurd (true≢false (sym none))
        | false ↦ λ other found. (other, found)
      ] refl (sym (ap is_some (found_pinless tree path)) ∙ there)

  still_found : (path : Path) (o : Object) → is_of_pins path ≡ false → lookup tree path ≡ Some o
      → lookup (without_pins tree) path ≡ Some o
  still_found path o other is =
      found_pinless tree path ∙ ap (λ b. cond b None (lookup tree path)) other ∙ is

  above_other : (path : Path) (name : Name) → is_of_pins (path ++ name ∷ []) ≡ false
      → is_of_pins path ≡ false
  above_other [] name other = refl
  above_other (n ∷ path) name other = other

  fewer : length (without_pins tree) ≤ length tree
  fewer =
      let both =
      length-filter_both (λ (e : Path × Object). not (is_of_pins e.0))
      (λ (e : Path × Object). not (not (is_of_pins e.0))) (λ x. refl) tree in
      omega (arith, both)

  pub pinless_is_tree : IsTree tree → IsTree (without_pins tree)
  pinless_is_tree t = record {
    ordered = sorted_pinless tree t.ordered;
    root = still_found [] Dir refl t.root;
    parents = λ path name there.
        let whole = is_in_all (path ++ name ∷ []) there in
        still_found path Dir (above_other path name whole.0) (t.parents path name whole.1);
    names = λ path there. t.names path (is_in_all path there).1;
    sizes = λ path bytes is. t.sizes path bytes (in_all path (File bytes) is).1;
    count = omega (arith, fewer, t.count);
  }
