-- What each file call leaves is a tree, within the limits.
use Rattle.std.proofs.Common.{◌≡◌, ◌≢◌, ℕ, ◌+◌, ◌≤◌, Bool, true, false, not, cond, List, [], ◌∷◌, ◌++◌, length, Option, Some, None, Ok, Err, refl, sym, ap, ◌∙◌, subst, true≢false, arith, is_some}
use Rattle.std.specs.Prelude.{nat_lt, ◌==◌}
use Rattle.std.specs.List.{list_all}
use Rattle.std.proofs.lemmas.Bool.{ltb-false}
use Rattle.std.specs.FinMap.Entries.{is_sorted-where_key}
use Rattle.nl_types.specs.declared.error.VolError.TheVariants as error
use Rattle.nl_types.specs.declared.reply.Answer.TheVariants as answer
use Rattle.nl_types.specs.declared.reply.Object.{Object}
use Rattle.nl_types.specs.declared.reply.Object.TheVariants.{Dir, File}
use Rattle.nl_types.specs.Plain.Limits.{file_limit, path_limit}
use Rattle.nl_types.specs.Plain.Paths.{Name, Path, path_of, path_cmp, same_path, is_name}
use Rattle.nl_types.specs.Plain.Trees.{Tree, IsTree, lookup, insert, remove}
use Rattle.nl_types.specs.Plain.Calls.{Changed, refuse_if, tree_after, stop_from, walk, file_at, dir_at, create, write, overwritten, resized, truncate, unlink, rmdir, has_names, is_root}
use Rattle.nl_types.specs.Plain.CallLaws.{CreatesKeepTrees, MkdirsKeepTrees, WritesKeepTrees, TruncatesKeepTrees, UnlinksKeepTrees, RmdirsKeepTrees, RenamesKeepTrees}
use Rattle.nl_types.specs.Facts.FileSizes.{written_sizes, truncated_sizes}
use Rattle.nl_types.specs.Facts.TreeLaws.{IsTree-insert, same_path-equal}
use Rattle.nl_types.specs.Facts.Judgements.{Leaves, and_then_holds, and_then_any, refuse_if_then, path_of_spells, walk_is, walked, file_at_is, dir_at_is, IsTree-insert_file}
use Rattle.nl_types.specs.Facts.Lookups.{lookup-remove}
use Rattle.nl_types.specs.Facts.Children.{listed}
use Rattle.nl_types.specs.Facts.Subtrees.{length-filtered}
use Rattle.nl_types.specs.Facts.Renames.{Parents, rename-IsTree}
use Rattle.nl_types.specs.Facts.Booleans.{is_true, holds}

-- ---- an object that is taken out

dir_not_file : (o : Option Object) (bytes : List ℕ) → o ≡ Some Dir → o ≡ Some (File bytes) → ⊥
dir_not_file o bytes dir file = true≢false (ap is_dir_object (sym dir ∙ file))
  where
    is_dir_object : Option Object → Bool
    is_dir_object None = false
    is_dir_object (Some Dir) = true
    is_dir_object (Some (File bytes)) = false

none_if : {A : Type 0} (o : Option A) → ((a : A) → o ≡ Some a → ⊥) → o ≡ None
none_if None no_value = refl
none_if (Some a) no_value = absurd (no_value a refl)

-- an object with nothing below it is taken out
remove-parents : (tree : Tree) (at : Path) → Parents tree
    → ((name : Name) → lookup tree (at ++ name ∷ []) ≡ None) → Parents (remove tree at)
remove-parents tree at parents empty path name is =
    let below = path ++ name ∷ [] in
    let there : is_some (lookup tree below) ≡ true =
    elim (same_path at below) as (λ b.
    is_some (cond b None (lookup tree below)) ≡ true → is_some (lookup tree below) ≡ true) [
      | true ↦ λ none. absurd (true≢false (sym none))
      | false ↦ λ some. some
    ] (sym (ap is_some (lookup-remove tree at below)) ∙ is) in
    let dir = parents path name there in
    lookup-remove tree at path
    ∙ elim (same_path at path) as (λ b. same_path at path ≡ b → cond b None (lookup tree path) ≡ Some Dir) [
      | true ↦
          λ same.
          absurd (true≢false
          (sym there
          ∙ ap is_some
          (ap (λ p. lookup tree (p ++ name ∷ [])) (sym (same_path-equal at path same)) ∙ empty name)))
      | false ↦ λ _. dir
    ] refl

-- what is left after a removal was there
still_there : (tree : Tree) (at path : Path) (object : Object) → lookup (remove tree at) path ≡ Some object
    → lookup tree path ≡ Some object
still_there tree at path object is =
    elim (same_path at path) as (λ b.
    cond b None (lookup tree path) ≡ Some object → lookup tree path ≡ Some object) [
      | true ↦ λ none. absurd (true≢false (sym (ap is_some none)))
      | false ↦ λ some. some
    ] (sym (lookup-remove tree at path) ∙ is)

IsTree-remove : (tree : Tree) (at : Path) → IsTree tree → (at ≢ [])
    → ((name : Name) → lookup tree (at ++ name ∷ []) ≡ None) → IsTree (remove tree at)
IsTree-remove tree at t below_root empty = record {
  ordered = is_true _ (is_sorted-where_key path_cmp (λ x. not (same_path at x)) tree (holds _ t.ordered));
  root =
      lookup-remove tree at []
      ∙ elim (same_path at []) as (λ b. same_path at [] ≡ b → cond b None (lookup tree []) ≡ Some Dir) [
        | true ↦ λ same. absurd (below_root (same_path-equal at [] same))
        | false ↦ λ _. t.root
      ] refl;
  parents = remove-parents tree at t.parents empty;
  names = λ path there.
      let object = some_object (lookup (remove tree at) path) there in
      t.names path (ap is_some (still_there tree at path object.0 object.1));
  sizes = λ path bytes is. t.sizes path bytes (still_there tree at path (File bytes) is);
  count = omega (arith, length-filtered (λ (e : Path × Object). not (same_path at e.0)) tree, t.count);
}
  where
    some_object : (o : Option Object) → is_some o ≡ true → (object : Object) × (o ≡ Some object)
    some_object None is = absurd (true≢false (sym is))
    some_object (Some object) is = (object, refl)

-- ---- calls

-- an object that is made leaves a tree
pub create-IsTree : (tree : Tree) (object : Object) (path : Path) → IsTree tree → list_all is_name path ≡ true
    → ((bytes : List ℕ) → object ≡ File bytes → length bytes ≤ file_limit)
    → Leaves IsTree (create tree object path)
create-IsTree tree object path t spelled small =
    let made : Changed = Ok (answer.Done, insert tree path object) in
    and_then_holds _ (λ done. IsTree done.1) (walk tree path) _ (walk_is tree path) (λ _ walking.
    refuse_if_then (λ done. IsTree done.1) (is_some (lookup tree path)) error.Exists _ (λ free.
    refuse_if_then (λ done. IsTree done.1) (nat_lt path_limit (length tree)) error.TooBig made (λ low.
    IsTree-insert tree path object t (record {
      above = λ up name is. walked tree [] up name (ap (stop_from tree []) is ∙ walking);
      place = λ dir. true≢false (sym (ap is_some dir) ∙ free);
      spelled = spelled;
      small = small;
      room = λ _. ltb-false path_limit (length tree) low;
    }))))

-- a write leaves a tree
pub write-IsTree : (tree : Tree) (offset : ℕ) (new : List ℕ) (path : Path) → IsTree tree
    → Leaves IsTree (write tree offset new path)
write-IsTree tree offset new path t =
    and_then_holds _ (λ done. IsTree done.1) (file_at tree path) _ (file_at_is tree path) (λ bytes found.
    let long = nat_lt file_limit (offset + length new) in
    let made : Changed =
    Ok (answer.Written (length new), insert tree path (File (overwritten bytes offset new))) in
    elim (length new == 0) as (λ b.
    Leaves IsTree (cond b (Ok (answer.Written 0, tree)) (refuse_if long error.TooBig made))) [
      | true ↦ t
      | false ↦ refuse_if_then (λ done. IsTree done.1) long error.TooBig made (λ fits.
          IsTree-insert_file tree path bytes (overwritten bytes offset new) t found
          (omega (
            arith,
            written_sizes bytes offset new,
            t.sizes path bytes found,
            ltb-false file_limit (offset + length new) fits,
          )))
    ])

-- so does a truncation
pub truncate-IsTree : (tree : Tree) (size : ℕ) (path : Path) → IsTree tree
    → Leaves IsTree (truncate tree size path)
truncate-IsTree tree size path t =
    and_then_holds _ (λ done. IsTree done.1) (file_at tree path) _ (file_at_is tree path) (λ bytes found.
    let made : Changed = Ok (answer.Done, insert tree path (File (resized bytes size))) in
    refuse_if_then (λ done. IsTree done.1) (nat_lt file_limit size) error.TooBig made (λ fits.
    IsTree-insert_file tree path bytes (resized bytes size) t found
    (omega (arith, truncated_sizes bytes size, ltb-false file_limit size fits))))

-- and a removal of a file
pub unlink-IsTree : (tree : Tree) (path : Path) → IsTree tree → Leaves IsTree (unlink tree path)
unlink-IsTree tree path t =
    and_then_holds _ (λ done. IsTree done.1) (file_at tree path) _ (file_at_is tree path) (λ bytes file.
    IsTree-remove tree path t
    (λ root. dir_not_file (lookup tree path) bytes (ap (lookup tree) root ∙ t.root) file)
    (λ name.
    none_if (lookup tree (path ++ name ∷ []))
    (λ object there. dir_not_file (lookup tree path) bytes (t.parents path name (ap is_some there)) file)))

-- and one of an empty directory
pub rmdir-IsTree : (tree : Tree) (path : Path) → IsTree tree → Leaves IsTree (rmdir tree path)
rmdir-IsTree tree path t =
    refuse_if_then (λ done. IsTree done.1) (is_root path) error.BadPath _ (λ below_root.
    and_then_holds _ (λ done. IsTree done.1) (dir_at tree path) _ (dir_at_is tree path) (λ _ found.
    let made : Changed = Ok (answer.Done, remove tree path) in
    refuse_if_then (λ done. IsTree done.1) (has_names tree path) error.NotEmpty made (λ none.
    IsTree-remove tree path t
    (λ root. true≢false (sym (ap is_root root) ∙ below_root))
    (λ name.
    none_if (lookup tree (path ++ name ∷ []))
    (λ object there. true≢false (sym (listed tree path name object there) ∙ none))))))

-- ---- calls on paths that bytes spell

leaves_tree : (tree : Tree) (changed : Changed) → IsTree tree → Leaves IsTree changed
    → IsTree (tree_after tree changed)
leaves_tree tree (Ok done) t left = left
leaves_tree tree (Err e) t left = t

-- a new file is small
pub no_bytes : (bytes : List ℕ) → File [] ≡ File bytes → length bytes ≤ file_limit
no_bytes bytes is =
    let same : [] ≡ bytes = cc in subst (λ (b : List ℕ). length b ≤ file_limit) same (omega arith)

-- a directory is no file
pub no_file : (bytes : List ℕ) → Dir ≡ File bytes → length bytes ≤ file_limit
no_file bytes is = cc

pub creates_keep_trees : CreatesKeepTrees
creates_keep_trees path tree t =
    leaves_tree tree _ t
    (and_then_holds _ (λ done. IsTree done.1) (path_of path) _ (path_of_spells path)
    (λ p spelled. create-IsTree tree (File []) p t spelled no_bytes))

pub mkdirs_keep_trees : MkdirsKeepTrees
mkdirs_keep_trees path tree t =
    leaves_tree tree _ t
    (and_then_holds _ (λ done. IsTree done.1) (path_of path) _ (path_of_spells path)
    (λ p spelled. create-IsTree tree Dir p t spelled no_file))

pub writes_keep_trees : WritesKeepTrees
writes_keep_trees path offset bytes tree t =
    leaves_tree tree _ t
    (and_then_any (λ done. IsTree done.1) (path_of path) _ (λ p. write-IsTree tree offset bytes p t))

pub truncates_keep_trees : TruncatesKeepTrees
truncates_keep_trees path size tree t =
    leaves_tree tree _ t
    (and_then_any (λ done. IsTree done.1) (path_of path) _ (λ p. truncate-IsTree tree size p t))

pub unlinks_keep_trees : UnlinksKeepTrees
unlinks_keep_trees path tree t =
    leaves_tree tree _ t (and_then_any (λ done. IsTree done.1) (path_of path) _ (λ p. unlink-IsTree tree p t))

pub rmdirs_keep_trees : RmdirsKeepTrees
rmdirs_keep_trees path tree t =
    leaves_tree tree _ t (and_then_any (λ done. IsTree done.1) (path_of path) _ (λ p. rmdir-IsTree tree p t))

pub renames_keep_trees : RenamesKeepTrees
renames_keep_trees from to tree t =
    leaves_tree tree _ t (and_then_any (λ done. IsTree done.1) (path_of from) _ (λ f.
    and_then_holds _ (λ done. IsTree done.1) (path_of to) _ (path_of_spells to)
    (λ p spelled. rename-IsTree tree f p t spelled)))
