-- What each file call answers, and the tree after it.
use Rattle.std.specs.Prelude.{◌≡◌, ◌≢◌, ◌⊎◌, ℕ, ◌+◌, ◌-◌, Bool, true, false, ◌&&◌, ◌||◌, not, if◌then◌else◌, ◌==◌, nat_lt, List, [], ◌∷◌, ◌++◌, map, length, take, drop, replicate, is_some, Option, None, Some, Result, Ok, Err, MatchResult}
use Rattle.std.specs.Option.{option_or, ok_or}
use Rattle.std.specs.Str.{bytes_eq}
use Rattle.nl_types.specs.declared.error.VolError.{VolError}
use Rattle.nl_types.specs.declared.error.VolError.TheVariants.{NotFound, NotDir, IsDir, Exists, NotEmpty, BadPath, IntoItself, TooBig, Memory}
use Rattle.nl_types.specs.declared.event.Change.{Change}
use Rattle.nl_types.specs.declared.event.Change.TheVariants.{Create, Mkdir, Write, Truncate, Unlink, Rmdir, Rename}
use Rattle.nl_types.specs.declared.event.Ask.{Ask}
use Rattle.nl_types.specs.declared.event.Ask.TheVariants as ask
use Rattle.nl_types.specs.declared.reply.Answer.{Answer}
use Rattle.nl_types.specs.declared.reply.Answer.TheVariants as answer
use Rattle.nl_types.specs.declared.kind.Kind.{Kind}
use Rattle.nl_types.specs.declared.reply.Named.{Named}
use Rattle.nl_types.specs.declared.reply.Object.{Object}
use Rattle.nl_types.specs.declared.reply.Object.TheVariants.{Dir, File}
use Rattle.nl_types.specs.declared.reply.Stat.{Stat}
use Rattle.nl_types.specs.declared.reply.Stat.TheVariants as status
use Rattle.nl_types.specs.Plain.Limits.{file_limit, path_limit}
use Rattle.nl_types.specs.Plain.Paths.{Name, Path, path_of, same_path, is_within}
use Rattle.nl_types.specs.Plain.Trees.{Tree, lookup, insert, remove, move_subtree, children}

-- a judgement that goes on from what an earlier one found, unless that one refuses
abbrev pub and_then : {A B E : Type 0} → Result A E → (A → Result B E) → Result B E
and_then (Ok a) next = next a
and_then (Err e) next = Err e

abbrev pub ok_unless : Option VolError → Result (Unit {0}) VolError
ok_unless None = Ok tt
ok_unless (Some e) = Err e

abbrev pub refuse_if : {A : Type 0} → Bool → VolError → Result A VolError → Result A VolError
refuse_if test e next = if test then Err e else next

-- ---- what stands at a path

-- a step of a walk goes on through a directory alone
abbrev pub stops_walk : Option Object → Option VolError
stops_walk None = Some NotFound
stops_walk (Some (File bytes)) = Some NotDir
stops_walk (Some Dir) = None

-- the walk that has come to one path and has these names before it, of which the last is not walked into
abbrev pub stop_from : Tree → Path → Path → Option VolError
stop_from tree walked [] = None
stop_from tree walked (name ∷ names) =
    option_or (stops_walk (lookup tree walked)) (stop_from tree (walked ++ name ∷ []) names)

-- the walk from the root to the directory of a path
abbrev pub walk : Tree → Path → Result (Unit {0}) VolError
walk tree path = ok_unless (stop_from tree [] path)

abbrev pub object_at : Tree → Path → Result Object VolError
object_at tree path = and_then (walk tree path) (λ _. ok_or (lookup tree path) NotFound)

abbrev pub file_in : Object → Result (List ℕ) VolError
file_in Dir = Err IsDir
file_in (File bytes) = Ok bytes

-- the bytes of the file at a path
abbrev pub file_at : Tree → Path → Result (List ℕ) VolError
file_at tree path = and_then (object_at tree path) file_in

abbrev pub dir_in : Object → Result (Unit {0}) VolError
dir_in Dir = Ok tt
dir_in (File bytes) = Err NotDir

-- that there is a directory at a path
abbrev pub dir_at : Tree → Path → Result (Unit {0}) VolError
dir_at tree path = and_then (object_at tree path) dir_in

abbrev pub is_root : Path → Bool
is_root path = length path == 0

abbrev pub is_dir : Object → Bool
is_dir Dir = true
is_dir (File bytes) = false

abbrev pub has_names : Tree → Path → Bool
has_names tree path = nat_lt 0 (length (children tree path))

-- ---- bytes of a file

-- the bytes with `new` over them from `offset` on, zeros standing between where `offset` is past their end
abbrev pub overwritten : List ℕ → ℕ → List ℕ → List ℕ
overwritten bytes offset new =
    take offset bytes ++ replicate (offset - length bytes) 0 ++ new ++ drop (offset + length new) bytes

-- the first `size` bytes, with zeros behind them where there are fewer
abbrev pub resized : List ℕ → ℕ → List ℕ
resized bytes size = take size bytes ++ replicate (size - length bytes) 0

-- ---- calls that change the tree

-- what a change that is not refused answers, and the tree that it leaves
abbrev pub Changed : Type 0
Changed = Result (Answer × Tree) VolError

-- the tree after a call: a refusal keeps it
abbrev pub tree_after : Tree → Changed → Tree
tree_after tree (Ok done) = done.1
tree_after tree (Err e) = tree

-- a new object, which for `create` itself is an empty file
abbrev pub create : Tree → Object → Path → Changed
create tree object path =
    and_then (walk tree path) (λ _.
    refuse_if (is_some (lookup tree path)) Exists (
    refuse_if (nat_lt path_limit (length tree)) TooBig (
    Ok (answer.Done, insert tree path object))))

abbrev pub write : Tree → ℕ → List ℕ → Path → Changed
write tree offset new path =
    and_then (file_at tree path) (λ bytes.
    if length new == 0 then Ok (answer.Written 0, tree) else (
    refuse_if (nat_lt file_limit (offset + length new)) TooBig (
    Ok (answer.Written (length new), insert tree path (File (overwritten bytes offset new))))))

abbrev pub mkdir : Tree → Path → Changed
mkdir tree path = create tree Dir path

abbrev pub truncate : Tree → ℕ → Path → Changed
truncate tree size path =
    and_then (file_at tree path) (λ bytes.
    refuse_if (nat_lt file_limit size) TooBig (
    Ok (answer.Done, insert tree path (File (resized bytes size)))))

abbrev pub unlink : Tree → Path → Changed
unlink tree path = and_then (file_at tree path) (λ bytes. Ok (answer.Done, remove tree path))

abbrev pub rmdir : Tree → Path → Changed
rmdir tree path =
    refuse_if (is_root path) BadPath (
    and_then (dir_at tree path) (λ _.
    refuse_if (has_names tree path) NotEmpty (
    Ok (answer.Done, remove tree path))))

-- whether an object may take the place of another one, which is not a directory with names in it
abbrev pub may_replace : Tree → Path → Object → Option Object → Result (Unit {0}) VolError
may_replace tree to object None = Ok tt
may_replace tree to (File bytes) (Some Dir) = Err IsDir
may_replace tree to (File bytes) (Some (File others)) = Ok tt
may_replace tree to Dir (Some (File others)) = Err NotDir
may_replace tree to Dir (Some Dir) = refuse_if (has_names tree to) NotEmpty (Ok tt)

-- the first path is a proper beginning of the second
abbrev pub is_above : Path → Path → Bool
is_above top path = is_within top path && not (same_path top path)

-- a rename to the same path changes nothing
abbrev pub rename : Tree → Path → Path → Changed
rename tree from to =
    refuse_if (is_root from || is_root to) BadPath (
    and_then (object_at tree from) (λ object.
    refuse_if (is_dir object && is_above from to) IntoItself (
    and_then (walk tree to) (λ _.
    if same_path from to then Ok (answer.Done, tree) else (
    and_then (may_replace tree to object (lookup tree to)) (λ _.
    Ok (answer.Done, move_subtree tree from to)))))))

-- the answer of a change and the tree after it, or its refusal
abbrev pub change : Tree → Change → Changed
change tree (Create path) = and_then (path_of path) (create tree (File []))
change tree (Mkdir path) = and_then (path_of path) (mkdir tree)
change tree (Write path offset bytes) = and_then (path_of path) (write tree offset bytes)
change tree (Truncate path size) = and_then (path_of path) (truncate tree size)
change tree (Unlink path) = and_then (path_of path) (unlink tree)
change tree (Rmdir path) = and_then (path_of path) (rmdir tree)
change tree (Rename from to) = and_then (path_of from) (λ names. and_then (path_of to) (rename tree names))

-- Whether a change that is not refused counts as one: a write of no bytes and a rename to the same path do
-- not. A path has one spelling, so paths are the same where their bytes are.
abbrev pub is_dirtying : Change → Bool
is_dirtying (Write path offset bytes) = not (length bytes == 0)
is_dirtying (Rename from to) = not (bytes_eq from to)
is_dirtying _ = true

-- ---- calls that only read

abbrev pub read : Tree → ℕ → ℕ → Path → Result Answer VolError
read tree offset len path =
    and_then (file_at tree path) (λ bytes. Ok (answer.Bytes (take len (drop offset bytes))))

abbrev pub named : Name × Kind → Named
named n = record { name = n.0; kind = n.1 }

-- the names in a directory with their kinds, ascending by bytes
abbrev pub list : Tree → Path → Result (List Named) VolError
list tree path = and_then (dir_at tree path) (λ _. Ok (map named (children tree path)))

abbrev pub stat_of : Tree → Path → Object → Stat
stat_of tree path Dir = status.Dir (length (children tree path))
stat_of tree path (File bytes) = status.File (length bytes)

-- a file with its size, or a directory with the number of its names
abbrev pub stat : Tree → Path → Result Stat VolError
stat tree path = and_then (object_at tree path) (λ object. Ok (stat_of tree path object))

-- what a tree answers
abbrev pub reply_to : Tree → Ask → Result Answer VolError
reply_to tree (ask.Bytes path offset len) = and_then (path_of path) (read tree offset len)
reply_to tree (ask.List path) =
    and_then (and_then (path_of path) (list tree)) (λ names. Ok (answer.Names names))
reply_to tree (ask.Stat path) =
    and_then (and_then (path_of path) (stat tree)) (λ found. Ok (answer.Stat found))

-- ---- how code meets these

-- the result is the one that is expected, unless it is one refusal
abbrev pub IsUnless : {A E : Type 0} → E → Result A E → Result A E → Type 0
IsUnless error result expected = (result ≢ Err error) → result ≡ expected

-- unless memory ran out
abbrev pub IsUnlessMemory : {A : Type 0} → Result A VolError → Result A VolError → Type 0
IsUnlessMemory result expected = IsUnless Memory result expected

-- the same, where `view` is what a result shows
abbrev pub ShowsUnlessMemory : {A B : Type 0} → (A → B) → Result A VolError → Result B VolError → Type 0
ShowsUnlessMemory view result expected =
    MatchResult result (λ a. expected ≡ Ok (view a)) (λ e. (e ≢ Memory) → expected ≡ Err e)

-- all reads but `stat` may take memory
abbrev pub ReadTakesMemory : Ask → Type 0
ReadTakesMemory (ask.Stat path) = ⊥
ReadTakesMemory _ = Unit {0}

-- what a read answers: what is expected, or want of memory, where it may take any
abbrev pub IsReadReply : Ask → (reply expected : Result Answer VolError) → Type 0
IsReadReply asked reply expected = (reply ≡ expected) ⊎ (ReadTakesMemory asked × (reply ≡ Err Memory))
