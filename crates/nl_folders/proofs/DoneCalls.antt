-- Calls on a tree that are done, and what each of them leaves.
use Rattle.std.proofs.Common.{◌≡◌, ℕ, ◌+◌, ◌<◌, ◌≤◌, Bool, true, false, cond, not, List, [], ◌∷◌, ◌++◌, map, length, Option, Some, None, Result, Ok, IfOk, refl, sym, ap, ◌∙◌, subst, arith, is_some, append_assoc, append-nil, le-ltb, ne_eqb}
use Rattle.std.specs.Prelude.{◌==◌, nat_lt}
use Rattle.std.specs.Option.{option_map, option_or, ok_or}
use Rattle.std.specs.FinMap.{find}
use Rattle.std.specs.FinMap.Entries.{length-put}
use Rattle.nl_types.specs.declared.error.VolError.{VolError}
use Rattle.nl_types.specs.declared.error.VolError.TheVariants as error
use Rattle.nl_types.specs.declared.event.Change.{Change}
use Rattle.nl_types.specs.declared.event.Change.TheVariants.{Create, Mkdir, Write, Truncate, Unlink, Rmdir}
use Rattle.nl_types.specs.declared.kind.Kind.{Kind}
use Rattle.nl_types.specs.declared.reply.Answer.{Answer}
use Rattle.nl_types.specs.declared.reply.Answer.TheVariants as answer
use Rattle.nl_types.specs.declared.reply.Object.{Object}
use Rattle.nl_types.specs.declared.reply.Object.TheVariants.{Dir, File}
use Rattle.nl_types.specs.Plain.Limits.{file_limit, path_limit}
use Rattle.nl_types.specs.Plain.Paths.{Name, Path, name_cmp, path_cmp, path_of, same_path}
use Rattle.nl_types.specs.Plain.Trees.{Tree, IsTree, lookup, insert, remove, children, object_kind}
use Rattle.nl_types.specs.Plain.Calls.{Changed, and_then, list, named, refuse_if, ok_unless, stops_walk, stop_from, walk, object_at, file_at, file_in, dir_at, dir_in, is_root, has_names, change, create, write, overwritten, truncate, resized, unlink, rmdir}
use Rattle.nl_types.specs.Facts.Booleans.{holds}
use Rattle.nl_types.specs.Facts.CallLookups.{creates_add_one, writes_change_one, truncates_change_one, unlinks_remove_one, rmdirs_remove_one}
use Rattle.nl_types.specs.Facts.ChangeLaws.{change_then_tree}
use Rattle.nl_types.specs.Facts.Children.{find-children}
use Rattle.nl_types.specs.Facts.Lookups.{same_name-itself}
use Rattle.nl_types.specs.Facts.Subtrees.{length-filtered}
use Rattle.nl_types.specs.Facts.TreeLaws.{path_total}
use Rattle.nl_folders.proofs.TreePaths.{above_is}

-- ---- walks

passes : (tree : Tree) → IsTree tree → (walked names : Path) → is_some (lookup tree (walked ++ names)) ≡ true
    → stop_from tree walked names ≡ None
passes tree t walked [] is = refl
passes tree t walked (n ∷ names) is =
    let further : is_some (lookup tree ((walked ++ n ∷ []) ++ names)) ≡ true =
    ap (λ p. is_some (lookup tree p)) (append_assoc walked (n ∷ []) names) ∙ is in
    let dir = t.parents walked n (above_is tree t names (walked ++ n ∷ []) further) in
    ap (λ (o : Option Object). option_or (stops_walk o) (stop_from tree (walked ++ n ∷ []) names)) dir
    ∙ passes tree t (walked ++ n ∷ []) names further

-- a walk comes to each path of a tree
pub walk_there : (tree : Tree) (path : Path) → IsTree tree → is_some (lookup tree path) ≡ true
    → walk tree path ≡ Ok tt
walk_there tree path t is = ap ok_unless (passes tree t [] path is)

passes_on : (tree : Tree) → IsTree tree → (walked names : Path) (name : Name)
    → lookup tree (walked ++ names) ≡ Some Dir → stop_from tree walked (names ++ name ∷ []) ≡ None
passes_on tree t walked [] name dir =
    ap (λ (o : Option Object). option_or (stops_walk o) None) (ap (lookup tree) (sym (append-nil walked)) ∙ dir)
passes_on tree t walked (n ∷ names) name dir =
    let further : lookup tree ((walked ++ n ∷ []) ++ names) ≡ Some Dir =
    ap (lookup tree) (append_assoc walked (n ∷ []) names) ∙ dir in
    let here = t.parents walked n (above_is tree t names (walked ++ n ∷ []) (ap is_some further)) in
    ap (λ (o : Option Object).
    option_or (stops_walk o) (stop_from tree (walked ++ n ∷ []) (names ++ name ∷ []))) here
    ∙ passes_on tree t (walked ++ n ∷ []) names name further

-- and to each name below a directory, whether it is there or not
pub walk_below : (tree : Tree) (dir : Path) (name : Name) → IsTree tree → lookup tree dir ≡ Some Dir
    → walk tree (dir ++ name ∷ []) ≡ Ok tt
walk_below tree dir name t is = ap ok_unless (passes_on tree t [] dir name is)

pub object_there : (tree : Tree) (path : Path) (object : Object) → IsTree tree → lookup tree path ≡ Some object
    → object_at tree path ≡ Ok object
object_there tree path object t is =
    ap (λ (r : Result (Unit {0}) VolError). and_then r (λ _. ok_or (lookup tree path) error.NotFound))
    (walk_there tree path t (ap is_some is))
    ∙ ap (λ (o : Option Object). ok_or o error.NotFound) is

pub file_there : (tree : Tree) (path : Path) (bytes : List ℕ) → IsTree tree
    → lookup tree path ≡ Some (File bytes) → file_at tree path ≡ Ok bytes
file_there tree path bytes t is =
    ap (λ (r : Result Object VolError). and_then r file_in) (object_there tree path (File bytes) t is)

pub dir_there : (tree : Tree) (path : Path) → IsTree tree → lookup tree path ≡ Some Dir
    → dir_at tree path ≡ Ok tt
dir_there tree path t is =
    ap (λ (r : Result Object VolError). and_then r dir_in) (object_there tree path Dir t is)

pub list_there : (tree : Tree) (path : Path) → IsTree tree → lookup tree path ≡ Some Dir
    → list tree path ≡ Ok (map named (children tree path))
list_there tree path t is =
    ap (λ (r : Result (Unit {0}) VolError). and_then r (λ _. Ok (map named (children tree path))))
    (dir_there tree path t is)

-- a directory under which nothing stands has no names
none_named : (names : List (Name × Kind)) → ((n : Name) → find name_cmp n names ≡ None)
    → nat_lt 0 (length names) ≡ false
none_named [] none = refl
none_named (n ∷ names) none =
    let found : Some n.1 ≡ None =
    sym (ap (λ b. cond b (Some n.1) (find name_cmp n.0 names)) (same_name-itself n.0)) ∙ none n.0 in
    cc

no_names : (tree : Tree) (dir : Path) → ((name : Name) → lookup tree (dir ++ name ∷ []) ≡ None)
    → has_names tree dir ≡ false
no_names tree dir none =
    none_named (children tree dir) (λ n. find-children tree dir n ∙ ap (option_map object_kind) (none n))

-- ---- calls

-- The call is done. It leaves a tree with this at the path, and at every other path what there was.
pub record IsDoneAt (tree : Tree) (call : Change) (path : Path) (object : Option Object) : Type 0 where
  pub given : Answer
  pub next : Tree
  pub done : change tree call ≡ Ok (given, next)
  pub is_tree : IsTree next
  pub objects : (q : Path) → lookup next q ≡ cond (same_path q path) object (lookup tree q)
  pub size : length next ≤ length tree + 1

-- an object more, or another one, and one less
put_size : (tree : Tree) (path : Path) (object : Object) → IsTree tree
    → length (insert tree path object) ≤ length tree + 1
put_size tree path object t =
    by (is_some (lookup tree path)) (length-put path_cmp path_total path object tree (holds _ t.ordered))
  where
    by : (there : Bool) → length (insert tree path object) ≡ cond there (length tree) (length tree + 1)
        → length (insert tree path object) ≤ length tree + 1
    by true is = omega (arith, is)
    by false is = omega (arith, is)

removed_size : (tree : Tree) (path : Path) → length (remove tree path) ≤ length tree + 1
removed_size tree path = omega (arith, length-filtered (λ (e : Path × Object). not (same_path path e.0)) tree)

-- what is known of a call on a path that is not refused
abbrev LeavesAt : Tree → Path → Option Object → Changed → Type 0
LeavesAt tree path object changed =
    IfOk changed (λ done. (q : Path) → lookup done.1 q ≡ cond (same_path q path) object (lookup tree q))

done_at : (tree next : Tree) (call : Change) (path : Path) (object : Option Object) (given : Answer)
    (changed : Changed) → IsTree tree → changed ≡ Ok (given, next) → change tree call ≡ changed
    → LeavesAt tree path object changed → length next ≤ length tree + 1 → IsDoneAt tree call path object
done_at tree next call path object given changed t made called leaves size =
    let done : change tree call ≡ Ok (given, next) = called ∙ made in
    record {
      given = given;
      next = next;
      done = done;
      is_tree = change_then_tree tree call given next t done;
      objects = subst (LeavesAt tree path object) made leaves;
      size = size;
    }

pub unlink_done : (tree : Tree) (bytes : List ℕ) (path : Path) (old : List ℕ) → IsTree tree
    → path_of bytes ≡ Ok path → lookup tree path ≡ Some (File old) → IsDoneAt tree (Unlink bytes) path None
unlink_done tree bytes path old t named found =
    let made : Changed = Ok (answer.Done, remove tree path) in
    done_at tree (remove tree path) (Unlink bytes) path None answer.Done (unlink tree path) t
    (ap (λ (r : Result (List ℕ) VolError). and_then {B = Answer × Tree} r (λ _. made))
    (file_there tree path old t found))
    (ap (λ (r : Result Path VolError). and_then r (unlink tree)) named)
    (unlinks_remove_one tree path) (removed_size tree path)

pub rmdir_done : (tree : Tree) (bytes : List ℕ) (path : Path) → IsTree tree → path_of bytes ≡ Ok path
    → is_root path ≡ false → lookup tree path ≡ Some Dir
    → ((name : Name) → lookup tree (path ++ name ∷ []) ≡ None) → IsDoneAt tree (Rmdir bytes) path None
rmdir_done tree bytes path t named below_root found none =
    let made : Changed = Ok (answer.Done, remove tree path) in
    let judged : Bool → Changed = λ full. refuse_if full error.NotEmpty made in
    done_at tree (remove tree path) (Rmdir bytes) path None answer.Done (rmdir tree path) t
    (ap (λ b. refuse_if b error.BadPath (and_then (dir_at tree path) (λ _. judged (has_names tree path))))
    below_root
    ∙ ap (λ (r : Result (Unit {0}) VolError). and_then r (λ _. judged (has_names tree path)))
    (dir_there tree path t found)
    ∙ ap judged (no_names tree path none))
    (ap (λ (r : Result Path VolError). and_then r (rmdir tree)) named)
    (rmdirs_remove_one tree path) (removed_size tree path)

create_is : (tree : Tree) (object : Object) (path : Path) → walk tree path ≡ Ok tt → lookup tree path ≡ None
    → length tree ≤ path_limit → create tree object path ≡ Ok (answer.Done, insert tree path object)
create_is tree object path walked free room =
    let made : Changed = Ok (answer.Done, insert tree path object) in
    let judged : Bool → Changed = λ full. refuse_if full error.TooBig made in
    let fits = nat_lt path_limit (length tree) in
    ap (λ (r : Result (Unit {0}) VolError).
    and_then r (λ _. refuse_if (is_some (lookup tree path)) error.Exists (judged fits))) walked
    ∙ ap (λ (o : Option Object). refuse_if (is_some o) error.Exists (judged fits)) free
    ∙ ap judged (le-ltb path_limit (length tree) room)

pub create_done : (tree : Tree) (bytes : List ℕ) (path : Path) → IsTree tree → path_of bytes ≡ Ok path
    → walk tree path ≡ Ok tt → lookup tree path ≡ None → length tree ≤ path_limit
    → IsDoneAt tree (Create bytes) path (Some (File []))
create_done tree bytes path t named walked free room =
    done_at tree (insert tree path (File [])) (Create bytes) path (Some (File [])) answer.Done
    (create tree (File []) path) t (create_is tree (File []) path walked free room)
    (ap (λ (r : Result Path VolError). and_then r (create tree (File []))) named)
    (creates_add_one tree (File []) path) (put_size tree path (File []) t)

pub mkdir_done : (tree : Tree) (bytes : List ℕ) (path : Path) → IsTree tree → path_of bytes ≡ Ok path
    → walk tree path ≡ Ok tt → lookup tree path ≡ None → length tree ≤ path_limit
    → IsDoneAt tree (Mkdir bytes) path (Some Dir)
mkdir_done tree bytes path t named walked free room =
    done_at tree (insert tree path Dir) (Mkdir bytes) path (Some Dir) answer.Done
    (create tree Dir path) t (create_is tree Dir path walked free room)
    (ap (λ (r : Result Path VolError). and_then r (create tree Dir)) named)
    (creates_add_one tree Dir path) (put_size tree path Dir t)

pub write_done : (tree : Tree) (bytes : List ℕ) (path : Path) (offset : ℕ) (new old : List ℕ) → IsTree tree
    → path_of bytes ≡ Ok path → lookup tree path ≡ Some (File old) → 0 < length new
    → offset + length new ≤ file_limit
    → IsDoneAt tree (Write bytes offset new) path (Some (File (overwritten old offset new)))
write_done tree bytes path offset new old t named found some fits =
    let next : Tree = insert tree path (File (overwritten old offset new)) in
    let made : Changed = Ok (answer.Written (length new), next) in
    let judged : List ℕ → Changed = λ o.
    refuse_if (nat_lt file_limit (offset + length new)) error.TooBig
    (Ok (answer.Written (length new), insert tree path (File (overwritten o offset new)))) in
    let by_size : List ℕ → Changed = λ o. cond (length new == 0) (Ok (answer.Written 0, tree)) (judged o) in
    done_at tree next (Write bytes offset new) path (Some (File (overwritten old offset new)))
    (answer.Written (length new)) (write tree offset new path) t
    (ap (λ (r : Result (List ℕ) VolError). and_then {B = Answer × Tree} r by_size)
    (file_there tree path old t found)
    ∙ ap (λ b. cond {A = Changed} b (Ok (answer.Written 0, tree)) (judged old))
    (ne_eqb (length new) 0 (λ none. omega (arith, some, none)))
    ∙ ap (λ b. refuse_if b error.TooBig made) (le-ltb file_limit (offset + length new) fits))
    (ap (λ (r : Result Path VolError). and_then r (write tree offset new)) named)
    (writes_change_one tree offset new old path some found)
    (put_size tree path (File (overwritten old offset new)) t)

pub truncate_done : (tree : Tree) (bytes : List ℕ) (path : Path) (size : ℕ) (old : List ℕ) → IsTree tree
    → path_of bytes ≡ Ok path → lookup tree path ≡ Some (File old) → size ≤ file_limit
    → IsDoneAt tree (Truncate bytes size) path (Some (File (resized old size)))
truncate_done tree bytes path size old t named found fits =
    let next : Tree = insert tree path (File (resized old size)) in
    let made : Changed = Ok (answer.Done, next) in
    let judged : List ℕ → Changed = λ o.
    refuse_if (nat_lt file_limit size) error.TooBig
    (Ok (answer.Done, insert tree path (File (resized o size)))) in
    done_at tree next (Truncate bytes size) path (Some (File (resized old size))) answer.Done
    (truncate tree size path) t
    (ap (λ (r : Result (List ℕ) VolError). and_then {B = Answer × Tree} r judged)
    (file_there tree path old t found)
    ∙ ap (λ b. refuse_if b error.TooBig made) (le-ltb file_limit size fits))
    (ap (λ (r : Result Path VolError). and_then r (truncate tree size)) named)
    (truncates_change_one tree size old path found) (put_size tree path (File (resized old size)) t)
