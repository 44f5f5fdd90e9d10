-- A rename to a path at which nothing stands is done.
use Rattle.std.proofs.Common.{◌≡◌, ℕ, ◌≤◌, Bool, true, false, cond, not, ◌&&◌, ◌||◌, List, ◌∷◌, ◌++◌, [], length, drop, Option, Some, None, Result, Ok, IfOk, refl, sym, ap, ◌∙◌, subst, ne_eqb, arith}
use Rattle.nl_types.specs.declared.error.VolError.{VolError}
use Rattle.nl_types.specs.declared.error.VolError.TheVariants as error
use Rattle.nl_types.specs.declared.event.Change.TheVariants.{Rename}
use Rattle.nl_types.specs.declared.reply.Answer.{Answer}
use Rattle.nl_types.specs.declared.reply.Answer.TheVariants as answer
use Rattle.nl_types.specs.declared.reply.Object.{Object}
use Rattle.nl_types.specs.declared.reply.Object.TheVariants.{Dir}
use Rattle.nl_types.specs.Plain.Paths.{Path, path_of, same_path, is_within}
use Rattle.nl_types.specs.Plain.Trees.{Tree, IsTree, lookup, move_subtree}
use Rattle.nl_types.specs.Plain.Calls.{Changed, and_then, refuse_if, walk, object_at, is_above, is_dir, is_root, change, may_replace, rename}
use Rattle.nl_types.specs.Facts.CallLookups.{renames_move_subtree}
use Rattle.nl_types.specs.Facts.ChangeLaws.{change_then_tree}
use Rattle.nl_types.specs.Facts.Subtrees.{length-move_subtree}
use Rattle.nl_folders.proofs.DoneCalls.{object_there}

-- what stands at a path after a rename
abbrev pub object_renamed : Tree → Path → Path → Path → Option Object
object_renamed tree from to q =
    cond (is_within to q) (lookup tree (from ++ drop (length to) q))
    (cond (is_within from q) None (lookup tree q))

-- the rename is done
pub record IsRenamed (tree : Tree) (bytes others : List ℕ) (from to : Path) : Type 0 where
  pub given : Answer
  pub next : Tree
  pub done : change tree (Rename bytes others) ≡ Ok (given, next)
  pub is_tree : IsTree next
  pub objects : (q : Path) → lookup next q ≡ object_renamed tree from to q
  pub size : length next ≤ length tree

never : (b : Bool) → (b && false) ≡ false
never true = refl
never false = refl

rename_is : (tree : Tree) (from to : Path) (object : Object) → IsTree tree → is_root from ≡ false
    → is_root to ≡ false → lookup tree from ≡ Some object → lookup tree to ≡ None → walk tree to ≡ Ok tt
    → is_within from to ≡ false → same_path from to ≡ false
    → rename tree from to ≡ Ok (answer.Done, move_subtree tree from to)
rename_is tree from to object t low_from low_to found free walked outside apart =
    let made : Changed = Ok (answer.Done, move_subtree tree from to) in
    let replaced : Option Object → Object → Changed = λ o n. and_then (may_replace tree to n o) (λ _. made) in
    let by_path : Bool → Object → Changed = λ b n. cond b (Ok (answer.Done, tree)) (replaced (lookup tree to) n) in
    let walking : Result (Unit {0}) VolError → Object → Changed = λ r n.
    and_then r (λ _. by_path (same_path from to) n) in
    let judged : Bool → Object → Changed = λ b n. refuse_if b error.IntoItself (walking (walk tree to) n) in
    let by_object : Object → Changed = λ n. judged (is_dir n && is_above from to) n in
    let above : is_above from to ≡ false = ap (λ b. b && not (same_path from to)) outside in
    ap (λ b. refuse_if (b || is_root to) error.BadPath (and_then (object_at tree from) by_object)) low_from
    ∙ ap (λ b. refuse_if b error.BadPath (and_then (object_at tree from) by_object)) low_to
    ∙ ap (λ (r : Result Object VolError). and_then r by_object) (object_there tree from object t found)
    ∙ ap (λ b. judged (is_dir object && b) object) above
    ∙ ap (λ b. judged b object) (never (is_dir object))
    ∙ ap (λ (r : Result (Unit {0}) VolError). walking r object) walked
    ∙ ap (λ b. by_path b object) apart
    ∙ ap (λ (o : Option Object). replaced o object) free

pub rename_done : (tree : Tree) (bytes others : List ℕ) (from to : Path) (object : Object) → IsTree tree
    → path_of bytes ≡ Ok from → path_of others ≡ Ok to → is_root from ≡ false → is_root to ≡ false
    → lookup tree from ≡ Some object → lookup tree to ≡ None → walk tree to ≡ Ok tt
    → is_within from to ≡ false → same_path from to ≡ false → IsRenamed tree bytes others from to
rename_done tree bytes others from to object t named also low_from low_to found free walked outside apart =
    let next = move_subtree tree from to in
    let is = rename_is tree from to object t low_from low_to found free walked outside apart in
    let done : change tree (Rename bytes others) ≡ Ok (answer.Done, next) =
    ap (λ (r : Result Path VolError). and_then r (λ names. and_then (path_of others) (rename tree names))) named
    ∙ ap (λ (r : Result Path VolError). and_then r (rename tree from)) also
    ∙ is in
    record {
      given = answer.Done;
      next = next;
      done = done;
      is_tree = change_then_tree tree (Rename bytes others) answer.Done next t done;
      objects =
          subst (λ (changed : Changed).
          IfOk changed (λ d. (q : Path) → lookup d.1 q ≡ object_renamed tree from to q)) is
          (renames_move_subtree tree from to t apart);
      size = length-move_subtree tree from to;
    }

-- the root is in each tree
pub not_root : (tree : Tree) (path : Path) → IsTree tree → lookup tree path ≡ None → is_root path ≡ false
not_root tree [] t none = let e : Some Dir ≡ None = sym t.root ∙ none in cc
not_root tree (n ∷ path) t none = ne_eqb (length (n ∷ path)) 0 (λ e. omega arith)
