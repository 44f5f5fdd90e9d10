-- Entries but for those of pins, by look-ups.
use Rattle.std.proofs.Common.{◌≡◌, true, cond, not, List, None, sym, ap, ◌∙◌}
use Rattle.std.specs.FinMap.{find, is_sorted}
use Rattle.std.specs.FinMap.Entries.{find-where_key, is_sorted-where_key}
use Rattle.nl_types.specs.Plain.Paths.{Path, path_cmp}
use Rattle.nl_types.specs.Facts.Booleans.{holds, is_true}
use Rattle.nl_types.specs.Facts.TakenOut.{turned}
use Rattle.nl_types.specs.Facts.TreeLaws.{paths_equal}
use Rattle.nl_pins.specs.Trees.{is_of_pins, without_pins}

pub found_pinless : {X : Type 0} (es : List (Path × X)) (p : Path)
    → find path_cmp p (without_pins es) ≡ cond (is_of_pins p) None (find path_cmp p es)
found_pinless es p =
    find-where_key path_cmp (λ x. not (is_of_pins x)) p
    (λ x tied. ap (λ (q : Path). not (is_of_pins q)) (sym (paths_equal p x tied))) es
    ∙ turned (is_of_pins p) (find path_cmp p es) None

pub none_of_pins : {X : Type 0} (es : List (Path × X)) (p : Path) → is_of_pins p ≡ true
    → find path_cmp p (without_pins es) ≡ None
none_of_pins es p is = found_pinless es p ∙ ap (λ b. cond b None (find path_cmp p es)) is

pub sorted_pinless : {X : Type 0} (es : List (Path × X)) → is_sorted path_cmp es ≡ true
    → is_sorted path_cmp (without_pins es) ≡ true
sorted_pinless es sorted =
    is_true _ (is_sorted-where_key path_cmp (λ x. not (is_of_pins x)) es (holds _ sorted))
