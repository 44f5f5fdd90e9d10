-- What lies below a path, by look-ups.
use Rattle.std.proofs.Common.{◌≡◌, true, false, cond, List, [], ◌∷◌, ◌++◌, map, filter, length, drop, Some, refl, sym, ap, ◌∙◌}
use Rattle.std.specs.Ordering.{is_eq}
use Rattle.std.specs.FinMap.{find}
use Rattle.nl_types.specs.Plain.Paths.{Path, path_cmp, same_path, is_within}
use Rattle.nl_types.specs.Plain.Trees.{Tree, lookup}
use Rattle.nl_types.specs.Facts.Lookups.{apart_by, is_within-append, path_cmp-append, within_is}
use Rattle.nl_folders.specs.Parts.{PartsAreExact, part_below}

pub parts_are_exact : PartsAreExact
parts_are_exact [] top path = refl
parts_are_exact (e ∷ tree) top path =
    elim (is_within top e.0) as (λ b.
    is_within top e.0 ≡ b
    → find path_cmp path
    (map (λ x. (drop (length top) x.0, x.1)) (cond b (e ∷ filter (λ x. is_within top x.0) tree)
    (filter (λ x. is_within top x.0) tree)))
    ≡ cond (same_path (top ++ path) e.0) (Some e.1) (lookup tree (top ++ path))) [
      | true ↦ λ inside.
          let below = drop (length top) e.0 in
          let tests : same_path path below ≡ same_path (top ++ path) e.0 =
          ap is_eq (sym (path_cmp-append top path below))
          ∙ ap (same_path (top ++ path)) (sym (within_is top e.0 inside)) in
          let others = parts_are_exact tree top path in
          λ i. cond (tests i) (Some e.1) (others i)
      | false ↦ λ outside.
          parts_are_exact tree top path
          ∙ sym (ap (λ b. cond b (Some e.1) (lookup tree (top ++ path)))
          (apart_by (is_within top) (top ++ path) e.0 (is_within-append top path) outside))
    ] refl

-- the part of entries one after another
pub part_below-append : {X : Type 0} (one other : List (Path × X)) (top : Path)
    → part_below (one ++ other) top ≡ part_below one top ++ part_below other top
part_below-append [] other top = refl
part_below-append {X} (e ∷ one) other top =
    elim (is_within top e.0) as (λ b.
    map (λ x. (drop (length top) x.0, x.1)) (cond b (e ∷ filter (λ x. is_within top x.0) (one ++ other))
    (filter (λ x. is_within top x.0) (one ++ other)))
    ≡ map (λ x. (drop (length top) x.0, x.1)) (cond b (e ∷ filter (λ x. is_within top x.0) one)
    (filter (λ x. is_within top x.0) one)) ++ part_below other top) [
      | true ↦ ap (λ (t : List (Path × X)). (drop (length top) e.0, e.1) ∷ t) (part_below-append one other top)
      | false ↦ part_below-append one other top
    ]
