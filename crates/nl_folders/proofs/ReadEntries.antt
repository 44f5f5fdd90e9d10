-- What stands in trees and flags, by what code reads of them.
use Rattle.std.proofs.Common.{◌≡◌, ℕ, Bool, false, not, ◌&&◌, List, get_or, slice_index_or, Option, Some, None, refl, sym, ap, ◌∙◌, subst, is_some, IsTrue}
use Rattle.std.specs.FinMap.{is_sorted}
use Rattle.nl_types.specs.declared.reply.Object.{Object}
use Rattle.nl_types.specs.Plain.Paths.{Path, path_cmp}
use Rattle.nl_types.specs.Plain.Trees.{Tree, lookup}
use Rattle.nl_folders.specs.Differences.{difference_of}
use Rattle.nl_folders.specs.Plans.{left_of}

-- what isn't there
pub none_from : {A : Type 0} (o : Option A) → ((x : A) → o ≡ Some x → ⊥) → o ≡ None
none_from None other = refl
none_from (Some x) other = absurd (other x refl)

-- where a tree and a path are read, what is found there is what stands there
pub found_there : (tree read : Tree) (path named : Path) (found : Option Object) → read ≡ tree → named ≡ path
    → (IsTrue (is_sorted path_cmp read) → found ≡ lookup read named) → IsTrue (is_sorted path_cmp tree)
    → lookup tree path ≡ found
found_there tree read path named found one other finds sorted =
    ap (λ (t : Tree). lookup t path) (sym one)
    ∙ ap (lookup read) (sym other)
    ∙ sym (finds (subst (λ (t : Tree). IsTrue (is_sorted path_cmp t)) (sym one) sorted))

-- an entry of a tree, where that is read
pub entry_read : (tree read : Tree) (k : ℕ) (e : Path × Object) → read ≡ tree → e ≡ get_or read k e
    → e ≡ get_or tree k e
entry_read tree read k e one is = is ∙ ap (λ (t : Tree). get_or t k e) one

-- whether an object has to go, and whether one is to be made, by flags and objects that are read
pub goes_by_read : (flags read : List Bool) (k : ℕ) (object : Object) (wanted found : Option Object) (goes : Bool)
    → read ≡ flags → wanted ≡ found
    → goes ≡ (not (slice_index_or read k false) && not (is_some (left_of (Some object) found)))
    → (not (slice_index_or flags k false) && not (is_some (left_of (Some object) wanted))) ≡ goes
goes_by_read flags read k object wanted found goes one other is =
    ap (λ (f : List Bool). not (slice_index_or f k false) && not (is_some (left_of (Some object) wanted))) (sym one)
    ∙ ap (λ (o : Option Object). not (slice_index_or read k false) && not (is_some (left_of (Some object) o))) other
    ∙ sym is

pub lacks_by_read : (flags read : List Bool) (k : ℕ) (object : Object) (present found : Option Object) (lacks : Bool)
    → read ≡ flags → present ≡ found
    → lacks ≡ (not (slice_index_or read k false) && is_some (difference_of found (Some object)))
    → (not (slice_index_or flags k false) && is_some (difference_of present (Some object))) ≡ lacks
lacks_by_read flags read k object present found lacks one other is =
    ap (λ (f : List Bool). not (slice_index_or f k false) && is_some (difference_of present (Some object))) (sym one)
    ∙ ap (λ (o : Option Object). not (slice_index_or read k false) && is_some (difference_of o (Some object))) other
    ∙ sym is
