-- Differences are told exactly where trees of the host differ.
use Rattle.std.proofs.Common.{◌≡◌, Bool, true, false, cond, List, [], ◌∷◌, ◌++◌, Option, Some, None, refl, sym, ap, ◌∙◌}
use Rattle.std.specs.declared.cmp.Ordering.TheVariants.{Less, Equal, Greater}
use Rattle.std.specs.Ordering.{ordering_reverse}
use Rattle.std.specs.FinMap.{find, is_sorted}
use Rattle.std.specs.FinMap.Entries.{below_all, by_order}
use Rattle.std.proofs.lemmas.Bool.{and_parts}
use Rattle.nl_types.specs.Plain.Paths.{Path, path_cmp, same_path}
use Rattle.nl_types.specs.Facts.TreeLaws.{path_total, paths_equal, same_path-equal}
use Rattle.nl_manifests.specs.declared.comparing.HostDifference.{HostDifference}
use Rattle.nl_manifests.specs.declared.comparing.HostDifference.TheVariants.{Added, Removed}
use Rattle.nl_manifests.specs.declared.host_tree.HostEntry.{HostEntry}
use Rattle.nl_manifests.specs.HostDifferences.{HostDifferences, HostDifferencesAreExact, Rewrites, all_added, beside, differences_by, entry_difference, have_other_bytes, host_difference_of, told}
use Rattle.nl_manifests.specs.HostTrees.{HostTree}
use Rattle.nl_manifests.proofs.Lookups.{below_first}
use Rattle.nl_manifests.proofs.Sorted.{absent}

abbrev exactly : HostTree → HostTree → HostDifferences
exactly old new = differences_by (λ path one other. have_other_bytes one other) old new

-- ---- one tree alone

added_exact : (new : HostTree) (p : Path)
    → find path_cmp p (all_added new) ≡ host_difference_of None (find path_cmp p new)
added_exact [] p = refl
added_exact (f ∷ new) p =
    elim (same_path p f.0) as (λ b. cond b (Some Added) (find path_cmp p (all_added new))
    ≡ host_difference_of None (cond b (Some f.1) (find path_cmp p new)))
    [ true ↦ refl | false ↦ added_exact new p ]

-- ---- both

-- of a path that both have in front, its difference is told there
told_exact : (p k : Path) (d : Option HostDifference) (rest : HostDifferences) (others : Option HostDifference)
    → find path_cmp p rest ≡ others → (same_path p k ≡ true → others ≡ None)
    → find path_cmp p (told k d ++ rest) ≡ cond (same_path p k) d others
told_exact p k None rest others is none =
    is ∙ elim (same_path p k) as (λ b. same_path p k ≡ b → others ≡ cond b None others)
    [ true ↦ λ same. none same | false ↦ λ _. refl ] refl
told_exact p k (Some d) rest others is none =
    ap (cond (same_path p k) (Some d)) is

module _ (e : Path × HostEntry) (old : HostTree) (sorted : is_sorted path_cmp (e ∷ old) ≡ true)
    (rest : (new : HostTree) → is_sorted path_cmp new ≡ true → (p : Path)
    → find path_cmp p (exactly old new) ≡ host_difference_of (find path_cmp p old) (find path_cmp p new)) where
  abbrev here : HostEntry → Option HostDifference
  here f = entry_difference (have_other_bytes e.1.object f.object) e.1 f

  beside_exact : (new : HostTree) → is_sorted path_cmp new ≡ true → (p : Path)
      → find path_cmp p (beside (λ path one other. have_other_bytes one other) e (exactly old) new)
      ≡ host_difference_of (find path_cmp p (e ∷ old)) (find path_cmp p new)
  beside_exact [] s p =
      elim (same_path p e.0) as (λ b.
      cond b (Some Removed) (find path_cmp p (exactly old []))
      ≡ host_difference_of (cond b (Some e.1) (find path_cmp p old)) None)
      [ true ↦ refl | false ↦ rest [] refl p ]
  beside_exact (f ∷ new) s p =
      let olds = and_parts (below_all path_cmp e.0 old) (is_sorted path_cmp old) sorted in
      let news = and_parts (below_all path_cmp f.0 new) (is_sorted path_cmp new) s in
      elim (path_cmp e.0 f.0) as (λ o. path_cmp e.0 f.0 ≡ o
      → find path_cmp p (by_order o ((e.0, Removed) ∷ exactly old (f ∷ new))
      (told e.0 (here f.1) ++ exactly old new)
      ((f.0, Added) ∷ beside (λ path one other. have_other_bytes one other) e (exactly old) new))
      ≡ host_difference_of (find path_cmp p (e ∷ old)) (find path_cmp p (f ∷ new))) [
        | Less ↦ λ less.
            elim (same_path p e.0) as (λ b. same_path p e.0 ≡ b
            → cond b (Some Removed) (find path_cmp p (exactly old (f ∷ new)))
            ≡ host_difference_of (cond b (Some e.1) (find path_cmp p old)) (find path_cmp p (f ∷ new))) [
              | true ↦ λ same.
                  sym (ap (host_difference_of (Some e.1))
                  (ap (λ (q : Path). find path_cmp q (f ∷ new)) (same_path-equal p e.0 same)
                  ∙ below_first e.0 f new less s))
              | false ↦ λ _. rest (f ∷ new) s p
            ] refl
        | Equal ↦ λ tied.
            let keys : e.0 ≡ f.0 = paths_equal e.0 f.0 tied in
            let others = host_difference_of (find path_cmp p old) (find path_cmp p new) in
            told_exact p e.0 (here f.1) (exactly old new) others
            (rest new news.1 p) (λ same.
            let at = same_path-equal p e.0 same in
            let no_old : find path_cmp p old ≡ None =
            ap (λ (q : Path). find path_cmp q old) at ∙ absent e.0 old olds.0 in
            let no_new : find path_cmp p new ≡ None =
            ap (λ (q : Path). find path_cmp q new) (at ∙ keys) ∙ absent f.0 new news.0 in
            ap (λ (o : Option HostEntry). host_difference_of o (find path_cmp p new)) no_old
            ∙ ap (host_difference_of None) no_new)
            ∙ elim (same_path p e.0) as (λ b.
            cond b (here f.1) others
            ≡ host_difference_of (cond b (Some e.1) (find path_cmp p old)) (cond b (Some f.1) (find path_cmp p new)))
            [ true ↦ refl | false ↦ refl ]
            ∙ ap (λ (k : Path). host_difference_of (cond (same_path p e.0) (Some e.1) (find path_cmp p old))
            (cond (same_path p k) (Some f.1) (find path_cmp p new))) keys
        | Greater ↦ λ greater.
            elim (same_path p f.0) as (λ b. same_path p f.0 ≡ b
            → cond b (Some Added)
            (find path_cmp p (beside (λ path one other. have_other_bytes one other) e (exactly old) new))
            ≡ host_difference_of (find path_cmp p (e ∷ old)) (cond b (Some f.1) (find path_cmp p new))) [
              | true ↦ λ same.
                  let less : path_cmp f.0 e.0 ≡ Less =
                  path_total.antisymm f.0 e.0 ∙ ap ordering_reverse greater in
                  sym (ap (λ (o : Option HostEntry). host_difference_of o (Some f.1))
                  (ap (λ (q : Path). find path_cmp q (e ∷ old)) (same_path-equal p f.0 same)
                  ∙ below_first f.0 e old less sorted))
              | false ↦ λ _. beside_exact new news.1 p
            ] refl
      ] refl

pub exact : HostDifferencesAreExact
exact [] new s t p = added_exact new p
exact (e ∷ old) new s t p =
    let olds = and_parts (below_all path_cmp e.0 old) (is_sorted path_cmp old) s in
    beside_exact e old s (λ n u q. exact old n olds.1 u q) new t p
