-- Each change leaves a tree, and gives no mount number.
use Rattle.std.proofs.Common.{◌≡◌, ℕ, ◌+◌, Bool, true, false, not, cond, List, [], length, Result, Ok, Err, refl, sym, subst, true≢false}
use Rattle.std.specs.Prelude.{nat_lt, ◌==◌, IfOk}
use Rattle.std.specs.Str.{bytes_eq}
use Rattle.std.proofs.lemmas.Slice.Eq.{bytes_eq-Decides}
use Rattle.nl_types.specs.declared.error.VolError.{VolError}
use Rattle.nl_types.specs.declared.error.VolError.TheVariants as error
use Rattle.nl_types.specs.declared.event.Ask.{Ask}
use Rattle.nl_types.specs.declared.event.Ask.TheVariants as ask
use Rattle.nl_types.specs.declared.event.Change.{Change}
use Rattle.nl_types.specs.declared.event.Change.TheVariants.{Create, Mkdir, Write, Truncate, Unlink, Rmdir, Rename}
use Rattle.nl_types.specs.declared.reply.Answer.{Answer}
use Rattle.nl_types.specs.declared.reply.Answer.TheVariants as answer
use Rattle.nl_types.specs.declared.reply.Object.TheVariants.{Dir, File}
use Rattle.nl_types.specs.Plain.Limits.{file_limit}
use Rattle.nl_types.specs.Plain.Paths.{Path, path_of}
use Rattle.nl_types.specs.Plain.Trees.{Tree, IsTree, insert}
use Rattle.nl_types.specs.Plain.Calls.{Changed, and_then, refuse_if, tree_after, file_at, overwritten, rename, list, stat, change, is_dirtying, reply_to}
use Rattle.nl_types.specs.Plain.CallLaws.{IsDone}
use Rattle.nl_types.specs.Plain.Laws.{UncountedChangesStay}
use Rattle.nl_types.specs.Facts.Judgements.{and_then_holds, and_then_any, refuse_if_then, path_of_spells, Leaves}
use Rattle.nl_types.specs.Facts.KeptTrees.{create-IsTree, write-IsTree, truncate-IsTree, unlink-IsTree, rmdir-IsTree, no_bytes, no_file}
use Rattle.nl_types.specs.Facts.CallLookups.{stays, renames_onto_themselves_stay, calls_answer_done}
use Rattle.nl_types.specs.Facts.Renames.{rename-IsTree}

-- ---- trees

-- a change that is not refused leaves a tree
pub change-IsTree : (tree : Tree) (c : Change) → IsTree tree → Leaves IsTree (change tree c)
change-IsTree tree (Create path) t =
    and_then_holds _ (λ done. IsTree done.1) (path_of path) _ (path_of_spells path)
    (λ p spelled. create-IsTree tree (File []) p t spelled no_bytes)
change-IsTree tree (Mkdir path) t =
    and_then_holds _ (λ done. IsTree done.1) (path_of path) _ (path_of_spells path)
    (λ p spelled. create-IsTree tree Dir p t spelled no_file)
change-IsTree tree (Write path offset bytes) t =
    and_then_any (λ done. IsTree done.1) (path_of path) _ (λ p. write-IsTree tree offset bytes p t)
change-IsTree tree (Truncate path size) t =
    and_then_any (λ done. IsTree done.1) (path_of path) _ (λ p. truncate-IsTree tree size p t)
change-IsTree tree (Unlink path) t =
    and_then_any (λ done. IsTree done.1) (path_of path) _ (λ p. unlink-IsTree tree p t)
change-IsTree tree (Rmdir path) t =
    and_then_any (λ done. IsTree done.1) (path_of path) _ (λ p. rmdir-IsTree tree p t)
change-IsTree tree (Rename from to) t =
    and_then_any (λ done. IsTree done.1) (path_of from) _ (λ f.
    and_then_holds _ (λ done. IsTree done.1) (path_of to) _ (path_of_spells to)
    (λ p spelled. rename-IsTree tree f p t spelled))

-- what keeps the tree leaves it
leaves_same : (tree : Tree) (changed : Changed) → tree_after tree changed ≡ tree
    → Leaves (λ next. next ≡ tree) changed
leaves_same tree (Ok done) same = same
leaves_same tree (Err e) same = tt

-- a rename to the same path leaves the tree as it was
rename-same : (tree : Tree) (path : Result Path VolError)
    → Leaves (λ next. next ≡ tree) (and_then path (λ f. and_then path (rename tree f)))
rename-same tree (Ok path) = leaves_same tree (rename tree path path) (renames_onto_themselves_stay tree path)
rename-same tree (Err e) = tt

-- a change that does not count as one leaves the tree as it was
pub change-same : (tree : Tree) (c : Change) → is_dirtying c ≡ false
    → Leaves (λ next. next ≡ tree) (change tree c)
change-same tree (Create path) clean = absurd (true≢false clean)
change-same tree (Mkdir path) clean = absurd (true≢false clean)
change-same tree (Write path offset bytes) clean =
    and_then_any (λ done. done.1 ≡ tree) (path_of path) _ (λ p.
    and_then_any (λ done. done.1 ≡ tree) (file_at tree p) _ (λ old.
    elim (length bytes == 0) as (λ b.
    not b ≡ false
    → Leaves (λ next. next ≡ tree)
    (cond b (Ok (answer.Written 0, tree))
    (refuse_if (nat_lt file_limit (offset + length bytes)) error.TooBig
    (Ok (answer.Written (length bytes), insert tree p (File (overwritten old offset bytes))))))) [
      | true ↦ λ _. refl
      | false ↦ λ counts. absurd (true≢false counts)
    ] clean))
change-same tree (Truncate path size) clean = absurd (true≢false clean)
change-same tree (Unlink path) clean = absurd (true≢false clean)
change-same tree (Rmdir path) clean = absurd (true≢false clean)
change-same tree (Rename from to) clean =
    let same : from ≡ to = (bytes_eq-Decides from to).0 (not_false (bytes_eq from to) clean) in
    subst (λ (path : List ℕ).
    Leaves (λ next. next ≡ tree) (and_then (path_of from) (λ f. and_then (path_of path) (rename tree f))))
    same
    (rename-same tree (path_of from))
  where
    not_false : (b : Bool) → not b ≡ false → b ≡ true
    not_false true is = refl
    not_false false is = absurd (true≢false is)

-- so the tree after it is the one before
pub uncounted_changes_stay : UncountedChangesStay
uncounted_changes_stay tree c clean = stays tree (change tree c) (change-same tree c clean)

-- the tree that comes with an answer is one
pub change_then_tree : (tree : Tree) (c : Change) (given : Answer) (next : Tree) → IsTree tree
    → change tree c ≡ Ok (given, next) → IsTree next
change_then_tree tree c given next t is = subst (Leaves IsTree) is (change-IsTree tree c t)

-- ---- answers

-- an answer that gives no mount number
abbrev pub IsNoMount : Answer → Type 0
IsNoMount (answer.Mount m) = ⊥
IsNoMount _ = Unit {0}

-- that a call is done gives none
done_is_no_mount : (changed : Changed) → IsDone changed → IfOk changed (λ done. IsNoMount done.0)
done_is_no_mount (Ok done) is = subst IsNoMount (sym is) tt
done_is_no_mount (Err e) is = tt

-- a change gives no mount number
pub change_gives_no_mount : (tree : Tree) (c : Change) → IfOk (change tree c) (λ done. IsNoMount done.0)
change_gives_no_mount tree (Create path) =
    and_then_any (λ done. IsNoMount done.0) (path_of path) _
    (λ p. done_is_no_mount _ ((calls_answer_done tree p).create (File [])))
change_gives_no_mount tree (Mkdir path) =
    and_then_any (λ done. IsNoMount done.0) (path_of path) _
    (λ p. done_is_no_mount _ ((calls_answer_done tree p).create Dir))
change_gives_no_mount tree (Write path offset bytes) =
    and_then_any (λ done. IsNoMount done.0) (path_of path) _ (λ p.
    and_then_any (λ done. IsNoMount done.0) (file_at tree p) _ (λ old.
    let long = nat_lt file_limit (offset + length bytes) in
    let made : Changed =
    Ok (answer.Written (length bytes), insert tree p (File (overwritten old offset bytes))) in
    elim (length bytes == 0) as (λ b.
    IfOk (cond {A = Changed} b (Ok (answer.Written 0, tree)) (refuse_if long error.TooBig made))
    (λ done. IsNoMount done.0)) [
      | true ↦ tt
      | false ↦ refuse_if_then (λ done. IsNoMount done.0) long error.TooBig made (λ _. tt)
    ]))
change_gives_no_mount tree (Truncate path size) =
    and_then_any (λ done. IsNoMount done.0) (path_of path) _
    (λ p. done_is_no_mount _ ((calls_answer_done tree p).truncate size))
change_gives_no_mount tree (Unlink path) =
    and_then_any (λ done. IsNoMount done.0) (path_of path) _
    (λ p. done_is_no_mount _ (calls_answer_done tree p).unlink)
change_gives_no_mount tree (Rmdir path) =
    and_then_any (λ done. IsNoMount done.0) (path_of path) _
    (λ p. done_is_no_mount _ (calls_answer_done tree p).rmdir)
change_gives_no_mount tree (Rename from to) =
    and_then_any (λ done. IsNoMount done.0) (path_of from) _ (λ f.
    and_then_any (λ done. IsNoMount done.0) (path_of to) _
    (λ p. done_is_no_mount _ ((calls_answer_done tree f).rename p)))

-- nor does a call that only reads
pub reply_gives_no_mount : (tree : Tree) (a : Ask) → IfOk (reply_to tree a) IsNoMount
reply_gives_no_mount tree (ask.Bytes path offset len) =
    and_then_any IsNoMount (path_of path) _ (λ p. and_then_any IsNoMount (file_at tree p) _ (λ _. tt))
reply_gives_no_mount tree (ask.List path) =
    and_then_any IsNoMount (and_then (path_of path) (list tree)) _ (λ _. tt)
reply_gives_no_mount tree (ask.Stat path) =
    and_then_any IsNoMount (and_then (path_of path) (stat tree)) _ (λ _. tt)
