-- A store is refused where the current tree isn't read.
use Rattle.std.proofs.Common.{◌≡◌, true, false, cond, [], ◌∷◌, Some, suc, refl, sym, ap, ◌∙◌, subst, inl, inr, is_some, true≢false, arith}
use Rattle.std.specs.Prelude.{Any}
use Rattle.nl_types.specs.Plain.Paths.{Path, same_path}
use Rattle.nl_types.specs.Plain.Trees.{Tree, IsIn, lookup}
use Rattle.nl_types.specs.Plain.Worlds.{World, latest}
use Rattle.nl_types.specs.Facts.TreeLaws.{same_path-equal}
use Rattle.nl_folders.specs.declared.folder.FolderError.{FolderError}
use Rattle.nl_folders.specs.Refusals.{IsTooLong, RefusesTree}
use Rattle.nl_keep.specs.declared.storing.KeepError.{KeepError}
use Rattle.nl_keep.specs.Refusals.{RefusesEntries, RefusesSnapshot, RefusesStore, passed_on}

-- a path of a tree is that of an entry
any_at : (P : Path → Type 0) (tree : Tree) (path : Path) → IsIn tree path → P path → Any (λ e. P e.0) tree
any_at P [] path there holds = absurd (true≢false (sym there))
any_at P (e ∷ tree) path there holds =
    elim (same_path path e.0) as (λ b.
    same_path path e.0 ≡ b → is_some (cond b (Some e.1) (lookup tree path)) ≡ true → Any (λ x. P x.0) (e ∷ tree)) [
      | true ↦ λ same _. (0, e, omega arith, refl, subst P (same_path-equal path e.0 same) holds)
      | false ↦ λ _ later.
          let rest = any_at P tree path later holds in (suc rest.0, rest.1, omega (arith, rest.2), rest.3, rest.4)
    ] refl there

-- where the current tree isn't read
pub current_refused : (wanted : Tree) (w : World) (e : FolderError) (told : KeepError) → RefusesTree w.tree e
    → told ≡ passed_on e → RefusesStore wanted w told
current_refused wanted w e told (inl memory) is =
    inr (inr (subst (RefusesSnapshot (latest w)) (sym (is ∙ ap passed_on memory)) tt))
current_refused wanted w e told (inr long) is =
    inr (inl (subst (RefusesEntries w.tree) (sym (is ∙ ap passed_on long.0))
    (inl (any_at IsTooLong w.tree long.1.0 long.1.1 long.1.2))))
