-- Plans as a whole.
use Rattle.std.proofs.Common.{◌≡◌, false, [], ◌∷◌, Option, Some, None, refl, ap, sym, ◌∙◌, true≢false, is_some, cond}
use Rattle.std.proofs.lemmas.Slice.Eq.{bytes_eq-Decides}
use Rattle.nl_types.specs.declared.reply.Object.{Object}
use Rattle.nl_types.specs.declared.reply.Object.TheVariants.{Dir, File}
use Rattle.nl_types.specs.Plain.Trees.{lookup}
use Rattle.nl_folders.specs.declared.differences.Difference.{Difference}
use Rattle.nl_folders.specs.declared.differences.Difference.TheVariants.{Rewritten}
use Rattle.nl_folders.specs.Differences.{difference_of}
use Rattle.nl_folders.specs.Plans.{OneTreeNeedsNoCall}

-- nothing differs from itself
pub same_everywhere : (o : Option Object) → is_some (difference_of o o) ≡ false
same_everywhere None = refl
same_everywhere (Some Dir) = refl
same_everywhere (Some (File bytes)) =
    ap (λ b. is_some {T = Difference} (cond b None (Some Rewritten))) ((bytes_eq-Decides bytes bytes).1 refl)

pub one_tree_needs_no_call : OneTreeNeedsNoCall
one_tree_needs_no_call tree [] differ = refl
one_tree_needs_no_call tree (call ∷ calls) differ =
    absurd (true≢false (sym differ.0.1.1 ∙ same_everywhere (lookup tree differ.0.0)))
