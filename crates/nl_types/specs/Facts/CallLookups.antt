-- What each file call leaves at every path, and what it answers.
use Rattle.std.proofs.Common.{◌≡◌, ℕ, ◌+◌, Bool, true, false, cond, ◌&&◌, ◌||◌, List, [], ◌++◌, length, drop, Option, Some, None, Ok, Err, refl, sym, ap, ◌∙◌, true≢false, arith, is_some}
use Rattle.std.specs.Prelude.{nat_lt, ◌==◌, IfOk}
use Rattle.std.proofs.lemmas.Bool.{eqb-true}
use Rattle.std.proofs.lemmas.Option.{same_Some}
use Rattle.std.specs.FinMap.Entries.{same_entries}
use Rattle.nl_types.specs.declared.error.VolError.TheVariants as error
use Rattle.nl_types.specs.declared.reply.Answer.TheVariants as answer
use Rattle.nl_types.specs.declared.reply.Object.{Object}
use Rattle.nl_types.specs.declared.reply.Object.TheVariants.{File}
use Rattle.nl_types.specs.Plain.Limits.{file_limit, path_limit}
use Rattle.nl_types.specs.Plain.Paths.{Path, path_cmp, same_path, is_within}
use Rattle.nl_types.specs.Plain.Trees.{Tree, lookup, insert, remove, move_subtree}
use Rattle.nl_types.specs.Plain.Calls.{Changed, and_then, refuse_if, tree_after, walk, object_at, file_at, dir_at, create, write, overwritten, resized, truncate, unlink, rmdir, has_names, is_root, is_dir, is_above, may_replace, rename}
use Rattle.nl_types.specs.Plain.CallLaws.{CreatesAddOne, WritesChangeOne, EmptyWritesStay, TruncatesChangeOne, UnlinksRemoveOne, RmdirsRemoveOne, RenamesMoveSubtree, RenamedIsBelow, RenamesOntoThemselvesStay, SameLookupsAreOneTree, IsDone, CallsAnswerDone}
use Rattle.nl_types.specs.Facts.TreeLaws.{path_total, paths_equal, same_path-equal, lookup-insert}
use Rattle.nl_types.specs.Facts.Judgements.{Leaves, and_then_holds, and_then_any, refuse_if_then, file_at_is}
use Rattle.nl_types.specs.Facts.Lookups.{same_path-itself, is_within-append, lookup-remove}
use Rattle.nl_types.specs.Facts.Renames.{rename_then, lookup-after, drop-append}
use Rattle.nl_types.specs.Facts.Booleans.{holds}

-- ---- one path

pub creates_add_one : CreatesAddOne
creates_add_one tree object path =
    let made : Changed = Ok (answer.Done, insert tree path object) in
    and_then_any _ (walk tree path) _ (λ _.
    refuse_if_then _ (is_some (lookup tree path)) error.Exists _ (λ _.
    refuse_if_then _ (nat_lt path_limit (length tree)) error.TooBig made (λ _. lookup-insert tree path object)))

-- a file that is found twice has one content
same_file : (o : Option Object) (bytes old : List ℕ) → o ≡ Some (File bytes) → o ≡ Some (File old) → bytes ≡ old
same_file o bytes old found file =
    let same : File bytes ≡ File old = same_Some (File bytes) (File old) (sym found ∙ file) in cc

pub writes_change_one : WritesChangeOne
writes_change_one tree offset new old path some file =
    and_then_holds _ _ (file_at tree path) _ (file_at_is tree path) (λ bytes found.
    let made : Changed =
    Ok (answer.Written (length new), insert tree path (File (overwritten bytes offset new))) in
    elim (length new == 0) as (λ b.
    (length new == 0) ≡ b
    → IfOk (cond {A = Changed} b (Ok (answer.Written 0, tree))
    (refuse_if (nat_lt file_limit (offset + length new)) error.TooBig made))
    (λ done.
    (q : Path)
    → lookup done.1 q
    ≡ cond (same_path q path) (Some (File (overwritten old offset new))) (lookup tree q))) [
      | true ↦ λ none. absurd (omega (arith, some, eqb-true (length new) 0 none))
      | false ↦ λ _.
          refuse_if_then _ (nat_lt file_limit (offset + length new)) error.TooBig made (λ _ q.
          lookup-insert tree path (File (overwritten bytes offset new)) q
          ∙ ap
          (λ (b : List ℕ). cond (same_path q path) (Some (File (overwritten b offset new))) (lookup tree q))
          (same_file (lookup tree path) bytes old found file))
    ] refl)

pub truncates_change_one : TruncatesChangeOne
truncates_change_one tree size old path file =
    and_then_holds _ _ (file_at tree path) _ (file_at_is tree path) (λ bytes found.
    let made : Changed = Ok (answer.Done, insert tree path (File (resized bytes size))) in
    refuse_if_then _ (nat_lt file_limit size) error.TooBig made (λ _ q.
    lookup-insert tree path (File (resized bytes size)) q
    ∙ ap (λ (b : List ℕ). cond (same_path q path) (Some (File (resized b size))) (lookup tree q))
    (same_file (lookup tree path) bytes old found file)))

same_path-turned : (p q : Path) → same_path p q ≡ same_path q p
same_path-turned p q = by (same_path p q) (same_path q p) refl refl
  where
    by : (a b : Bool) → same_path p q ≡ a → same_path q p ≡ b → a ≡ b
    by true true h k = refl
    by false false h k = refl
    by true false h k =
        absurd (true≢false (sym (ap (same_path q) (same_path-equal p q h) ∙ same_path-itself q) ∙ k))
    by false true h k =
        absurd (true≢false (sym (ap (same_path p) (same_path-equal q p k) ∙ same_path-itself p) ∙ h))

removes_one : (tree : Tree) (path q : Path)
    → lookup (remove tree path) q ≡ cond (same_path q path) None (lookup tree q)
removes_one tree path q =
    lookup-remove tree path q ∙ ap (λ b. cond b None (lookup tree q)) (same_path-turned path q)

pub unlinks_remove_one : UnlinksRemoveOne
unlinks_remove_one tree path = and_then_any _ (file_at tree path) _ (λ _. removes_one tree path)

pub rmdirs_remove_one : RmdirsRemoveOne
rmdirs_remove_one tree path =
    let made : Changed = Ok (answer.Done, remove tree path) in
    refuse_if_then _ (is_root path) error.BadPath _ (λ _.
    and_then_any _ (dir_at tree path) _ (λ _.
    refuse_if_then _ (has_names tree path) error.NotEmpty made (λ _. removes_one tree path)))

-- ---- calls that change nothing

-- what is left is the tree that there was
pub stays : (tree : Tree) (changed : Changed) → Leaves (λ next. next ≡ tree) changed
    → tree_after tree changed ≡ tree
stays tree (Ok done) same = same
stays tree (Err e) same = refl

pub empty_writes_stay : EmptyWritesStay
empty_writes_stay tree offset path =
    stays tree (write tree offset [] path) (and_then_any _ (file_at tree path) _ (λ _. refl))

pub renames_onto_themselves_stay : RenamesOntoThemselvesStay
renames_onto_themselves_stay tree path = stays tree (rename tree path path) (
    refuse_if_then (λ done. done.1 ≡ tree) (is_root path || is_root path) error.BadPath _ (λ _.
    and_then_any (λ done. done.1 ≡ tree) (object_at tree path) _ (λ object.
    refuse_if_then (λ done. done.1 ≡ tree) (is_dir object && is_above path path) error.IntoItself _ (λ _.
    and_then_any (λ done. done.1 ≡ tree) (walk tree path) _ (λ _.
    let made : Changed = Ok (answer.Done, move_subtree tree path path) in
    elim (same_path path path) as (λ b.
    same_path path path ≡ b
    → Leaves (λ next. next ≡ tree)
    (cond {A = Changed} b (Ok (answer.Done, tree))
    (and_then (may_replace tree path object (lookup tree path)) (λ _. made)))) [
      | true ↦ λ _. refl
      | false ↦ λ other. absurd (true≢false (sym (same_path-itself path) ∙ other))
    ] refl)))))

-- ---- renames

pub renames_move_subtree : RenamesMoveSubtree
renames_move_subtree tree from to t other =
    rename_then tree from to _ t (λ same. absurd (true≢false (sym same ∙ other)))
    (λ _ m. lookup-after tree from to t m)

pub renamed_is_below : RenamedIsBelow
renamed_is_below tree from to t =
    rename_then tree from to
    (λ done. (rest : Path) → lookup done.1 (to ++ rest) ≡ lookup tree (from ++ rest)) t
    (λ same rest. ap (λ (p : Path). lookup tree (p ++ rest)) (sym (same_path-equal from to same)))
    (λ _ m rest.
    lookup-after tree from to t m (to ++ rest)
    ∙ ap (λ b.
    cond b (lookup tree (from ++ drop (length to) (to ++ rest)))
    (cond (is_within from (to ++ rest)) None (lookup tree (to ++ rest))))
    (is_within-append to rest)
    ∙ ap (λ (p : Path). lookup tree (from ++ p)) (drop-append to rest))

-- ---- one tree

pub same_lookups_are_one_tree : SameLookupsAreOneTree
same_lookups_are_one_tree one other t u same =
    same_entries path_cmp path_total paths_equal one other (holds _ t.ordered) (holds _ u.ordered) same

-- ---- answers

create-done : (tree : Tree) (object : Object) (path : Path) → IsDone (create tree object path)
create-done tree object path =
    let made : Changed = Ok (answer.Done, insert tree path object) in
    and_then_any (λ done. done.0 ≡ answer.Done) (walk tree path) _ (λ _.
    refuse_if_then (λ done. done.0 ≡ answer.Done) (is_some (lookup tree path)) error.Exists _ (λ _.
    refuse_if_then (λ done. done.0 ≡ answer.Done) (nat_lt path_limit (length tree)) error.TooBig made
    (λ _. refl)))

truncate-done : (tree : Tree) (size : ℕ) (path : Path) → IsDone (truncate tree size path)
truncate-done tree size path =
    and_then_any (λ done. done.0 ≡ answer.Done) (file_at tree path) _ (λ bytes.
    let made : Changed = Ok (answer.Done, insert tree path (File (resized bytes size))) in
    refuse_if_then (λ done. done.0 ≡ answer.Done) (nat_lt file_limit size) error.TooBig made (λ _. refl))

unlink-done : (tree : Tree) (path : Path) → IsDone (unlink tree path)
unlink-done tree path = and_then_any (λ done. done.0 ≡ answer.Done) (file_at tree path) _ (λ _. refl)

rmdir-done : (tree : Tree) (path : Path) → IsDone (rmdir tree path)
rmdir-done tree path =
    let made : Changed = Ok (answer.Done, remove tree path) in
    refuse_if_then (λ done. done.0 ≡ answer.Done) (is_root path) error.BadPath _ (λ _.
    and_then_any (λ done. done.0 ≡ answer.Done) (dir_at tree path) _ (λ _.
    refuse_if_then (λ done. done.0 ≡ answer.Done) (has_names tree path) error.NotEmpty made (λ _. refl)))

rename-done : (tree : Tree) (from to : Path) → IsDone (rename tree from to)
rename-done tree from to =
    refuse_if_then (λ done. done.0 ≡ answer.Done) (is_root from || is_root to) error.BadPath _ (λ _.
    and_then_any (λ done. done.0 ≡ answer.Done) (object_at tree from) _ (λ object.
    refuse_if_then (λ done. done.0 ≡ answer.Done) (is_dir object && is_above from to) error.IntoItself _ (λ _.
    and_then_any (λ done. done.0 ≡ answer.Done) (walk tree to) _ (λ _.
    let made : Changed = Ok (answer.Done, move_subtree tree from to) in
    elim (same_path from to) as (λ b.
    IsDone (cond {A = Changed} b (Ok (answer.Done, tree))
    (and_then (may_replace tree to object (lookup tree to)) (λ _. made)))) [
      | true ↦ refl
      | false ↦
          and_then_any (λ done. done.0 ≡ answer.Done) (may_replace tree to object (lookup tree to)) _
          (λ _. refl)
    ]))))

pub calls_answer_done : CallsAnswerDone
calls_answer_done tree path = record {
  create = λ object. create-done tree object path;
  truncate = λ size. truncate-done tree size path;
  unlink = unlink-done tree path;
  rmdir = rmdir-done tree path;
  rename = λ to. rename-done tree path to;
}
