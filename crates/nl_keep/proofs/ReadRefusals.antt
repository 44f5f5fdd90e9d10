-- When what is shown of a volume isn't read.
use Rattle.std.proofs.Common.{◌≡◌, ◌⊎◌, ℕ, true, List, take, drop, map, Option, Some, Result, Ok, Err, refl, sym, ap, ◌∙◌, subst, inl, inr, true≢false, is_some}
use Rattle.std.specs.Prelude.{IfErr, IfOk}
use Rattle.std.specs.List.{list_all}
use Rattle.std.specs.Option.{ok_or}
use Rattle.nl_types.specs.declared.error.VolError.{VolError}
use Rattle.nl_types.specs.declared.error.VolError.TheVariants as error
use Rattle.nl_types.specs.declared.event.Ask.{Ask}
use Rattle.nl_types.specs.declared.event.Ask.TheVariants as ask
use Rattle.nl_types.specs.declared.event.Event.{Event}
use Rattle.nl_types.specs.declared.event.Event.TheVariants as event
use Rattle.nl_types.specs.declared.reply.Answer.TheVariants as answer
use Rattle.nl_types.specs.declared.reply.Named.{Named}
use Rattle.nl_types.specs.declared.reply.Object.TheVariants.{Dir, File}
use Rattle.nl_types.specs.Plain.Paths.{Path, is_name}
use Rattle.nl_types.specs.Plain.Trees.{Tree, IsTree, children, lookup}
use Rattle.nl_types.specs.Plain.Calls.{IsReadReply, and_then, dir_at, file_at, list, named, read, reply_to}
use Rattle.nl_types.specs.Facts.Judgements.{dir_at_is, file_at_is}
use Rattle.nl_types.specs.Plain.Runs.{Writes}
use Rattle.nl_types.specs.Plain.Worlds.{Copy, Outcome, Reply}
use Rattle.nl_folders.specs.declared.folder.FolderError.{FolderError}
use Rattle.nl_folders.specs.declared.folder.FolderError.TheVariants.{Refused}
use Rattle.nl_folders.specs.Refusals.{RefusesPath}
use Rattle.nl_folders.specs.Spelled.{spelling}
use Rattle.nl_keep.specs.Private.Refused.{RefusesQuestion}
use Rattle.nl_keep.specs.Refusals.{RefusesFile}
use Rattle.nl_keep.specs.Shown.{ShowsCurrent, ShowsKept}
use Rattle.nl_keep.specs.Volumes.{Follows, LeadsTo, Meaning, volume_refusals}
use Rattle.nl_keep.proofs.Spelling.{named_or_long}
use Rattle.nl_keep.proofs.TreeReads.{ReadsAt}

-- what follows of both clauses on a refusal
pub refused_both : {T Other : Type 0} {Q R : FolderError → Type 0} (r : Result T FolderError)
    → IfErr r (λ _. Other) → IfErr r Q → ((e : FolderError) → Other → Q e → R e) → IfErr r R
refused_both (Ok x) other refused follows = tt
refused_both (Err e) other refused follows = follows e other refused

-- ---- questions

-- paths that a tree answers have names
pub listed_named : (tree : Tree) (path : Path) (names : List Named) → IsTree tree → list tree path ≡ Ok names
    → list_all is_name path ≡ true
listed_named tree path names t = by (dir_at tree path) (dir_at_is tree path)
  where
    by : (r : Result (Unit {0}) VolError) → IfOk r (λ _. lookup tree path ≡ Some Dir)
        → and_then r (λ _. Ok (map named (children tree path))) ≡ Ok names → list_all is_name path ≡ true
    by (Ok u) there is = t.names path (ap is_some there)
    by (Err e) there is = cc

pub read_named : (tree : Tree) (path : Path) (bytes : List ℕ) → IsTree tree → file_at tree path ≡ Ok bytes
    → list_all is_name path ≡ true
read_named tree path bytes t is = by (file_at tree path) (file_at_is tree path) is
  where
    by : (r : Result (List ℕ) VolError) → IfOk r (λ b. lookup tree path ≡ Some (File b)) → r ≡ Ok bytes
        → list_all is_name path ≡ true
    by (Ok b) there found = t.names path (ap is_some there)
    by (Err e) there found = cc

-- so a question after them is refused for want of memory alone
pub question_refused : (path : Path) (e : FolderError) → list_all is_name path ≡ true → RefusesQuestion path e
    → RefusesPath path e
question_refused path e named (inl memory) = inl memory
question_refused path e named (inr bad) = absurd (true≢false (sym named ∙ bad.1))

-- ---- answers

-- a reply is the tree's answer, or memory lacks
abbrev pub Replies : Tree → Ask → Reply → Type 0
Replies tree a reply = (reply ≡ reply_to tree a) ⊎ (reply ≡ Err error.Memory)

pub replies : (a b : Ask) (reply : Reply) (tree : Tree) → a ≡ b → IsReadReply a reply (reply_to tree a)
    → Replies tree b reply
replies a b reply tree asked reads = subst (λ (x : Ask). Replies tree x reply) asked (elim reads [
  | inl s ↦ inl s
  | inr r ↦ inr r.1
])

pub kept_replies : (n : ℕ) (a b : Ask) (reply : Reply) (tree : Tree) (Means : Meaning) → a ≡ b
    → ReadsAt n a reply Means → ShowsKept Means n tree → Replies tree b reply
kept_replies n a b reply tree Means asked reads shown =
    subst (λ (x : Ask). Replies tree x reply) asked (elim (reads shown.world shown.means) [
      | inl s ↦
          inl (s
          ∙ ap (λ (o : Option Copy).
          and_then (ok_or o error.NoCheckpoint) (λ (c : Copy). reply_to c.tree a)) shown.kept
          ∙ ap (λ (t : Tree). reply_to t a) shown.has)
      | inr r ↦ inr r.1
    ])

-- an event that doesn't write is refused for want of memory alone
pub memory_alone : (asked : Event) → (Writes asked → ⊥) → (e : VolError) → volume_refusals asked e
    → e ≡ error.Memory
memory_alone asked reads error.NoSpace may = absurd (reads may.0)
memory_alone asked reads error.Fault may = absurd (reads may.0)
memory_alone asked reads error.Memory may = refl
memory_alone asked reads e may = absurd may

pub current_replies : (a b : Ask) (reply : Reply) (tree : Tree) (Old New : Meaning) → a ≡ b
    → LeadsTo (Follows (event.Read a) reply) Old New → ShowsCurrent Old tree → Replies tree b reply
current_replies a b reply tree Old New asked does shown =
    subst (λ (x : Ask). Replies tree x reply) asked (elim (does shown.world shown.means).2.1 [
      | inl s ↦ inl (sym (ap (λ (o : Outcome). o.0) s) ∙ ap (λ (t : Tree). reply_to t a) shown.has)
      | inr r ↦
          inr (r.reply_is
          ∙ ap (λ (e : VolError). Err e) (memory_alone (event.Read a) (λ no. no) r.error r.may_be))
    ])

-- ---- refusals

-- what a tree answers is refused where memory lacks, or no call can name the path
pub names_refused : (path : Path) (tree : Tree) (names : List Named) (reply : Reply) (e : FolderError)
    → list_all is_name path ≡ true → list tree path ≡ Ok names → Replies tree (ask.List (spelling path)) reply
    → ((found : List Named) → reply ≡ Ok (answer.Names found) → ⊥)
    → ((x : VolError) → reply ≡ Err x → e ≡ Refused x) → RefusesPath path e
names_refused path tree names reply e in_names listed (inr memory) other refused =
    inl (refused error.Memory memory)
names_refused path tree names reply e in_names listed (inl is) other refused =
    let given : Result Path VolError → Reply =
    λ r. and_then (and_then r (list tree)) (λ found. Ok (answer.Names found)) in
    elim (named_or_long path in_names) [
      | inl spelled ↦
          absurd (other names
          (is ∙ ap given spelled
          ∙ ap (λ (r : Result (List Named) VolError). and_then r (λ found. Ok (answer.Names found))) listed))
      | inr long ↦ inr (refused error.BadPath (is ∙ ap given long.0), long.1)
    ]

pub bytes_refused : (path : Path) (len : ℕ) (tree : Tree) (bytes : List ℕ) (reply : Reply) (e : FolderError)
    → list_all is_name path ≡ true → file_at tree path ≡ Ok bytes
    → Replies tree (ask.Bytes (spelling path) 0 len) reply
    → ((found : List ℕ) → reply ≡ Ok (answer.Bytes found) → ⊥)
    → ((x : VolError) → reply ≡ Err x → e ≡ Refused x) → RefusesPath path e
bytes_refused path len tree bytes reply e in_names found (inr memory) other refused =
    inl (refused error.Memory memory)
bytes_refused path len tree bytes reply e in_names found (inl is) other refused =
    let given : Result Path VolError → Reply = λ r. and_then r (read tree 0 len) in
    elim (named_or_long path in_names) [
      | inl spelled ↦
          absurd (other (take len (drop 0 bytes))
          (is ∙ ap given spelled
          ∙ ap (λ (r : Result (List ℕ) VolError).
          and_then r (λ b. Ok (answer.Bytes (take len (drop 0 b))))) found))
      | inr long ↦ inr (refused error.BadPath (is ∙ ap given long.0), long.1)
    ]

-- and where no file stands there, as the tree says
pub missing_refused : (path : Path) (len : ℕ) (tree : Tree) (x : VolError) (reply : Reply) (e : FolderError)
    → list_all is_name path ≡ true → file_at tree path ≡ Err x
    → Replies tree (ask.Bytes (spelling path) 0 len) reply
    → ((y : VolError) → reply ≡ Err y → e ≡ Refused y) → RefusesFile path x e
missing_refused path len tree x reply e in_names missing (inr memory) refused =
    inr (inl (refused error.Memory memory))
missing_refused path len tree x reply e in_names missing (inl is) refused =
    let given : Result Path VolError → Reply = λ r. and_then r (read tree 0 len) in
    elim (named_or_long path in_names) [
      | inl spelled ↦
          inl (refused x
          (is ∙ ap given spelled
          ∙ ap (λ (r : Result (List ℕ) VolError).
          and_then r (λ b. Ok (answer.Bytes (take len (drop 0 b))))) missing))
      | inr long ↦ inr (inr (refused error.BadPath (is ∙ ap given long.0), long.1))
    ]
