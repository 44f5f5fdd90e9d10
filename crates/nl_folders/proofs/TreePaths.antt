-- Paths above and below others in a tree.
use Rattle.std.proofs.Common.{◌≡◌, ◌⊎◌, Bool, true, false, [], ◌∷◌, ◌++◌, length, drop, refl, sym, ap, ◌∙◌, subst, true≢false, is_some, append_assoc, append-nil, inl, inr}
use Rattle.std.specs.declared.cmp.Ordering.TheVariants.{Less}
use Rattle.std.specs.Ordering.{ordering_then}
use Rattle.std.specs.Cmp.{tied_itself}
use Rattle.std.specs.Cmp.Lexicographic.{nat_list_cmp_total}
use Rattle.nl_types.specs.Plain.Paths.{Name, Path, path_cmp, same_path, is_within}
use Rattle.nl_types.specs.Plain.Trees.{Tree, IsTree, lookup}
use Rattle.nl_types.specs.Facts.Lookups.{same_path-itself, within_is}
use Rattle.nl_types.specs.Facts.TreeLaws.{same_path-equal}

-- what begins with another path goes on by a name
pub goes_below : (top path : Path) → is_within top path ≡ true → same_path top path ≡ false
    → (name : Name) × (rest : Path) × (path ≡ top ++ name ∷ rest)
goes_below top path inside other =
    elim (drop (length top) path) as (λ below.
    path ≡ top ++ below → (name : Name) × (rest : Path) × (path ≡ top ++ name ∷ rest)) [
      | [] ↦
          λ is.
          absurd (true≢false
          (sym (same_path-itself top) ∙ ap (same_path top) (sym (append-nil top) ∙ sym is) ∙ other))
      | ◌∷◌ name rest ↦ λ is. (name, rest, is)
    ] (within_is top path inside)

-- what lies above a path in a tree is there
pub above_is : (tree : Tree) → IsTree tree → (below path : Path)
    → is_some (lookup tree (path ++ below)) ≡ true → is_some (lookup tree path) ≡ true
above_is tree t [] path is = subst (λ p. is_some (lookup tree p) ≡ true) (append-nil path) is
above_is tree t (n ∷ below) path is =
    let child =
    above_is tree t below (path ++ n ∷ [])
    (subst (λ p. is_some (lookup tree p) ≡ true) (sym (append_assoc path (n ∷ []) below)) is) in
    ap is_some (t.parents path n child)

pub same_path-turned : (p q : Path) → same_path p q ≡ false → same_path q p ≡ false
same_path-turned p q other = by (same_path q p) refl
  where
    by : (b : Bool) → same_path q p ≡ b → b ≡ false
    by true is =
        absurd (true≢false
        (sym (same_path-itself p) ∙ ap (same_path p) (sym (same_path-equal q p is)) ∙ other))
    by false is = refl

-- a directory comes before what is in it
pub child_above : (dir : Path) (name : Name) → path_cmp dir (dir ++ name ∷ []) ≡ Less
child_above [] name = refl
child_above (n ∷ dir) name =
    ap (λ r. ordering_then r (path_cmp dir (dir ++ name ∷ []))) (tied_itself nat_list_cmp_total n)
    ∙ child_above dir name

-- a path is the root or ends in a name
pub ending_of : (path : Path) → (path ≡ []) ⊎ ((dir : Path) × (name : Name) × (path ≡ dir ++ name ∷ []))
ending_of [] = inl refl
ending_of (n ∷ rest) = longer (ending_of rest)
  where
    longer : (rest ≡ []) ⊎ ((dir : Path) × (name : Name) × (rest ≡ dir ++ name ∷ []))
        → (n ∷ rest ≡ []) ⊎ ((dir : Path) × (name : Name) × (n ∷ rest ≡ dir ++ name ∷ []))
    longer (inl none) = inr ([], n, ap (λ (r : Path). n ∷ r) none)
    longer (inr some) = inr (n ∷ some.0, some.1, ap (λ (r : Path). n ∷ r) some.2)
