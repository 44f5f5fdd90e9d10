-- The children of a directory in the tree are the records of its inode.
use Rattle.std.specs.Prelude.{◌≡◌, ℕ, true, false, cond, ◌&&◌, List, [], ◌∷◌, map, reverse, Option, Some, None, refl}
use Rattle.std.specs.Option.{is_some, option_map, option_zip}
use Rattle.std.specs.Ordering.{is_lt}
use Rattle.std.specs.Cmp.Lexicographic.{nat_list_cmp_total}
use Rattle.std.specs.FinMap.{find, is_sorted}
use Rattle.std.specs.FinMap.Entries.{below_all, same_entries}
use Rattle.std.proofs.Common.{sym, ◌∙◌, ap}
use Rattle.std.proofs.lemmas.List.{reverse-append}
use Rattle.nl_types.specs.declared.reply.Object.{Object}
use Rattle.nl_types.specs.Plain.Paths.{Name, name_cmp, same_name}
use Rattle.nl_types.specs.Plain.Trees.{lookup, children, object_kind}
use Rattle.nl_types.specs.Inodes.{Link, upward}
use Rattle.nl_types.specs.InodeLaws.{ChildrenAreRecords, with_kind}
use Rattle.nl_types.specs.Facts.Lookups.{names_equal}
use Rattle.nl_types.specs.Facts.Children.{find-children, children-sorted}
use Rattle.nl_types.specs.Facts.Inodes.Standing.{records_are}
use Rattle.nl_types.specs.Facts.Booleans.{holds}

below_named : (n : Name) (listed : List (Name × Link))
    → below_all name_cmp n (map with_kind listed) ≡ below_all name_cmp n listed
below_named n [] = refl
below_named n (e ∷ listed) = ap (λ b. is_lt (name_cmp n e.0) && b) (below_named n listed)

sorted_named : (listed : List (Name × Link))
    → is_sorted name_cmp (map with_kind listed) ≡ is_sorted name_cmp listed
sorted_named [] = refl
sorted_named (e ∷ listed) = λ i. below_named e.0 listed i && sorted_named listed i

find_named : (n : Name) (listed : List (Name × Link))
    → find name_cmp n (map with_kind listed) ≡ option_map (λ (r : Link). r.1) (find name_cmp n listed)
find_named n [] = refl
find_named n (e ∷ listed) =
    elim (same_name n e.0) as (λ b.
    cond b (Some e.1.1) (find name_cmp n (map with_kind listed))
    ≡ option_map (λ (r : Link). r.1) (cond b (Some e.1) (find name_cmp n listed))) [
      | true ↦ refl
      | false ↦ find_named n listed
    ]

zip_second : (a : Option ℕ) (x : Option Object) → is_some a ≡ is_some x
    → option_map (λ (r : Link). r.1) (option_zip a (option_map object_kind x)) ≡ option_map object_kind x
zip_second None None h = refl
zip_second None (Some x) h = cc
zip_second (Some a) None h = refl
zip_second (Some a) (Some x) h = refl

pub children_are_records : ChildrenAreRecords
children_are_records inodes tree dir listed m d lists =
    same_entries name_cmp nat_list_cmp_total names_equal (children tree (reverse dir)) (map with_kind listed)
    (children-sorted tree (reverse dir) (holds _ m.ordered))
    (holds _ (sorted_named listed ∙ lists.ascending))
    (λ n.
    find-children tree (reverse dir) n
    ∙ sym (find_named n listed
    ∙ ap (option_map (λ (r : Link). r.1)) (lists.finds n ∙ records_are m.rooted m.pairs dir d n)
    ∙ zip_second (m.inode_of (n ∷ dir)) (upward tree (n ∷ dir)) (m.pairs.paths (n ∷ dir))
    ∙ ap (λ p. option_map object_kind (lookup tree p)) (reverse-append (n ∷ []) dir)))
