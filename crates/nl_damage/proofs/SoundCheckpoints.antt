-- Sound checkpoints of a damaged image, and what is read of them.
use Rattle.std.proofs.Common.{◌≡◌, true, [], ◌∷◌, Option, Some, None, sym, ap, ◌∙◌, subst}
use Rattle.std.specs.Prelude.{MatchOption}
use Rattle.std.specs.Option.{option_map}
use Rattle.std.proofs.lemmas.List.Elements.{All-cons, All-nil}
use Rattle.std.proofs.lemmas.Option.{same_Some}
use Rattle.nl_types.specs.Blocks.Roots.{Pages, Root}
use Rattle.nl_types.specs.Plain.Trees.{Tree}
use Rattle.nl_layout.specs.Root.{root_of}
use Rattle.nl_layout.specs.declared.root.Root as layout
use Rattle.nl_vstore.specs.Periods.{Periods}
use Rattle.nl_check.specs.Conditions.{IsSoundShape, IsSoundTree, Told}
use Rattle.nl_check.specs.Laws.{SoundTreesAreMeant}
use Rattle.nl_check.specs.Trees.{IsTreeOf}
use Rattle.nl_check.specs.Verdicts as verdicts
use Rattle.nl_check.specs.declared.checks.Verdict.{Verdict}
use Rattle.nl_damage.specs.WholeTrees.{HasTree, SoundCheckpointsHaveTrees, StandsForTree}

pub have_trees : SoundTreesAreMeant → SoundCheckpointsHaveTrees
have_trees law pages c shape sound =
    let same : sound.0 ≡ shape.0 = same_Some sound.0 shape.0 (sym sound.1 ∙ shape.1) in
    let tree : IsTreeOf pages shape.0 c.size c.inodes =
    subst (λ (r : Root). IsTreeOf pages r c.size c.inodes) same sound.2 in
    let meant = (law pages shape.0 c.size c.inodes shape.2 tree).1 in (
      meant.tree,
      record {
        shape = shape;
        sound = sound;
        root = shape.0;
        told = shape.1;
        stands = record { holding = meant.holding; holds = meant.holds; means = meant.means.means };
      },
    )

-- such a checkpoint is judged sound
pub judged_sound : (pages : Pages) (periods : Periods) (c : Told) (v : Option Verdict)
    → verdicts.IsVerdict pages periods (c ∷ []) v → (tree : Tree) → HasTree pages c tree
    → MatchOption v ⊥ (λ v. v.trees ≡ true)
judged_sound pages periods c None (verdicts.shapes_fail never) tree has = never (All-cons (IsSoundShape pages) c [] has.shape (All-nil (IsSoundShape pages)))
judged_sound pages periods c (Some v) (verdicts.shaped w shaped trees exact) tree has =
    trees.1 (All-cons (IsSoundTree pages) c [] has.sound (All-nil (IsSoundTree pages)))

-- the root that an entry tells is the one that its fields spell
pub stands_under : (pages : Pages) (tree : Tree) (spelled : Option layout.Root) (r : layout.Root) (root : Root)
    → spelled ≡ Some r → option_map root_of spelled ≡ Some root → StandsForTree pages root tree
    → StandsForTree pages (root_of r) tree
stands_under pages tree spelled r root is told stands =
    subst (λ (x : Root). StandsForTree pages x tree)
    (same_Some root (root_of r) (sym told ∙ ap (option_map root_of) is)) stands
