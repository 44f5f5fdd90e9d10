-- Differences are told exactly where trees differ.
use Rattle.std.proofs.Common.{◌≡◌, true, false, cond, [], ◌∷◌, ◌++◌, Option, Some, None, refl, sym, ap, ◌∙◌}
use Rattle.std.specs.declared.cmp.Ordering.TheVariants.{Less, Equal, Greater}
use Rattle.std.specs.Ordering.{ordering_reverse}
use Rattle.std.specs.FinMap.{find, is_sorted}
use Rattle.std.specs.FinMap.Entries.{below_all, by_order}
use Rattle.std.proofs.lemmas.Bool.{and_parts}
use Rattle.nl_types.specs.declared.reply.Object.{Object}
use Rattle.nl_types.specs.declared.reply.Object.TheVariants.{Dir, File}
use Rattle.nl_types.specs.Plain.Paths.{Path, path_cmp, same_path}
use Rattle.nl_types.specs.Plain.Trees.{Tree, lookup}
use Rattle.nl_types.specs.Facts.TreeLaws.{path_total, paths_equal, same_path-equal}
use Rattle.nl_folders.proofs.SortedTrees.{absent, below_first}
use Rattle.nl_folders.specs.declared.differences.Difference.{Difference}
use Rattle.nl_folders.specs.declared.differences.Difference.TheVariants.{Added, Removed}
use Rattle.nl_folders.specs.Differences.{Differences, DifferencesAreExact, all_added, beside, difference_of, differences, told}

-- ---- one tree alone

added_exact : (new : Tree) (p : Path) → find path_cmp p (all_added new) ≡ difference_of None (lookup new p)
added_exact [] p = refl
added_exact (f ∷ new) p =
    elim (same_path p f.0) as (λ b. cond b (Some Added) (find path_cmp p (all_added new))
    ≡ difference_of None (cond b (Some f.1) (lookup new p))) [ true ↦ refl | false ↦ added_exact new p ]

removed_is : (e : Object) → difference_of (Some e) None ≡ Some Removed
removed_is Dir = refl
removed_is (File bytes) = refl

-- ---- both

-- of a path that both have in front, its difference is told there
told_exact : (p k : Path) (d : Option Difference) (rest : Differences) (others : Option Difference)
    → find path_cmp p rest ≡ others → (same_path p k ≡ true → others ≡ None)
    → find path_cmp p (told k d ++ rest) ≡ cond (same_path p k) d others
told_exact p k None rest others is none =
    is ∙ elim (same_path p k) as (λ b. same_path p k ≡ b → others ≡ cond b None others)
    [ true ↦ λ same. none same | false ↦ λ _. refl ] refl
told_exact p k (Some d) rest others is none =
    ap (cond (same_path p k) (Some d)) is

module _ (e : Path × Object) (old : Tree) (sorted : is_sorted path_cmp (e ∷ old) ≡ true)
    (rest : (new : Tree) → is_sorted path_cmp new ≡ true → (p : Path)
    → find path_cmp p (differences old new) ≡ difference_of (lookup old p) (lookup new p)) where
  beside_exact : (new : Tree) → is_sorted path_cmp new ≡ true → (p : Path)
      → find path_cmp p (beside e (differences old) new)
      ≡ difference_of (lookup (e ∷ old) p) (lookup new p)
  beside_exact [] s p =
      elim (same_path p e.0) as (λ b.
      cond b (Some Removed) (find path_cmp p (differences old []))
      ≡ difference_of (cond b (Some e.1) (lookup old p)) None)
      [ true ↦ sym (removed_is e.1) | false ↦ rest [] refl p ]
  beside_exact (f ∷ new) s p =
      let olds = and_parts (below_all path_cmp e.0 old) (is_sorted path_cmp old) sorted in
      let news = and_parts (below_all path_cmp f.0 new) (is_sorted path_cmp new) s in
      elim (path_cmp e.0 f.0) as (λ o. path_cmp e.0 f.0 ≡ o
      → find path_cmp p (by_order o ((e.0, Removed) ∷ differences old (f ∷ new))
      (told e.0 (difference_of (Some e.1) (Some f.1)) ++ differences old new)
      ((f.0, Added) ∷ beside e (differences old) new))
      ≡ difference_of (lookup (e ∷ old) p) (lookup (f ∷ new) p)) [
        | Less ↦ λ less.
            elim (same_path p e.0) as (λ b. same_path p e.0 ≡ b
            → cond b (Some Removed) (find path_cmp p (differences old (f ∷ new)))
            ≡ difference_of (cond b (Some e.1) (lookup old p)) (lookup (f ∷ new) p)) [
              | true ↦ λ same.
                  sym (ap (difference_of (Some e.1))
                  (ap (lookup (f ∷ new)) (same_path-equal p e.0 same) ∙ below_first e.0 f new less s)
                  ∙ removed_is e.1)
              | false ↦ λ _. rest (f ∷ new) s p
            ] refl
        | Equal ↦ λ tied.
            let keys : e.0 ≡ f.0 = paths_equal e.0 f.0 tied in
            let others = difference_of (lookup old p) (lookup new p) in
            told_exact p e.0 (difference_of (Some e.1) (Some f.1)) (differences old new) others
            (rest new news.1 p) (λ same.
            let here = same_path-equal p e.0 same in
            let no_old : lookup old p ≡ None = ap (lookup old) here ∙ absent e.0 old olds.0 in
            let no_new : lookup new p ≡ None = ap (lookup new) (here ∙ keys) ∙ absent f.0 new news.0 in
            ap (λ (o : Option Object). difference_of o (lookup new p)) no_old
            ∙ ap (difference_of None) no_new)
            ∙ elim (same_path p e.0) as (λ b.
            cond b (difference_of (Some e.1) (Some f.1)) others
            ≡ difference_of (cond b (Some e.1) (lookup old p)) (cond b (Some f.1) (lookup new p)))
            [ true ↦ refl | false ↦ refl ]
            ∙ ap (λ (k : Path). difference_of (cond (same_path p e.0) (Some e.1) (lookup old p))
            (cond (same_path p k) (Some f.1) (lookup new p))) keys
        | Greater ↦ λ greater.
            elim (same_path p f.0) as (λ b. same_path p f.0 ≡ b
            → cond b (Some Added) (find path_cmp p (beside e (differences old) new))
            ≡ difference_of (lookup (e ∷ old) p) (cond b (Some f.1) (lookup new p))) [
              | true ↦ λ same.
                  let less : path_cmp f.0 e.0 ≡ Less =
                  path_total.antisymm f.0 e.0 ∙ ap ordering_reverse greater in
                  sym (ap (λ (o : Option Object). difference_of o (Some f.1))
                  (ap (lookup (e ∷ old)) (same_path-equal p f.0 same) ∙ below_first f.0 e old less sorted))
              | false ↦ λ _. beside_exact new news.1 p
            ] refl
      ] refl

pub exact : DifferencesAreExact
exact [] new s t p = added_exact new p
exact (e ∷ old) new s t p =
    let olds = and_parts (below_all path_cmp e.0 old) (is_sorted path_cmp old) s in
    beside_exact e old s (λ n u q. exact old n olds.1 u q) new t p
