-- What is rescued of a checkpoint that is read whole.
use Rattle.std.proofs.Common.{◌≡◌, ◌∙◌, true, List, [], ◌∷◌, length, subst, sym, true≢false}
use Rattle.std.proofs.Math.Dec.{eqb-suc-zero}
use Rattle.std.specs.Prelude.{◌==◌}
use Rattle.nl_types.specs.Plain.Paths.{Path}
use Rattle.nl_types.specs.Plain.Trees.{IsTree, Tree}
use Rattle.nl_folders.specs.Spelled.{IsNameable}
use Rattle.nl_shown.specs.Kept.{ShowsFolder}
use Rattle.nl_backups.specs.declared.rescuing.Rescued.{Rescued}
use Rattle.nl_backups.specs.Rescuing.{ShowsWhole}

-- a tree has the root
not-empty : (tree : Tree) → IsTree tree → (length tree == 0) ≡ true → ⊥
not-empty [] is e = let root = is.root in cc
not-empty (x ∷ tree) is e = absurd (true≢false (sym e ∙ eqb-suc-zero (length tree)))

pub not_empty : (read tree : Tree) → (length read == 0) ≡ true → read ≡ tree → IsNameable tree → ⊥
not_empty read tree none same nameable =
    not-empty tree nameable.is_tree (subst (λ (t : Tree). (length t == 0) ≡ true) same none)

pub shows_whole : (read tree : Tree) (lost : List Path) (r : Rescued) → (IsTree read → ShowsFolder read r.opened.tree)
    → r.lost ≡ lost → read ≡ tree → lost ≡ [] → IsNameable tree → ShowsWhole tree r
shows_whole read tree lost r shows is same none nameable = record {
  shows =
      subst (λ (t : Tree). ShowsFolder t r.opened.tree) same
      (shows (subst (λ (t : Tree). IsTree t) (sym same) nameable.is_tree));
  none_lost = is ∙ none;
}
