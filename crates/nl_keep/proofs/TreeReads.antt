-- What is read of a shown tree is that tree's.
use Rattle.std.proofs.Common.{◌≡◌, ℕ, ◌≤◌, true, List, [], ◌∷◌, length, take, drop, Option, Some, None, Result, Ok, Err, refl, sym, ap, ◌∙◌, subst, inl, inr, arith}
use Rattle.std.specs.Prelude.{IfOk}
use Rattle.std.specs.Option.{ok_or}
use Rattle.std.proofs.lemmas.List.{take_all}
use Rattle.std.specs.List.{list_all}
use Rattle.nl_types.specs.declared.error.VolError.{VolError}
use Rattle.nl_types.specs.declared.error.VolError.TheVariants as error
use Rattle.nl_types.specs.declared.event.Ask.{Ask}
use Rattle.nl_types.specs.declared.event.Ask.TheVariants as ask
use Rattle.nl_types.specs.declared.event.Event.TheVariants as event
use Rattle.nl_types.specs.declared.reply.Answer.{Answer}
use Rattle.nl_types.specs.declared.reply.Answer.TheVariants as answer
use Rattle.nl_types.specs.declared.reply.Named.{Named}
use Rattle.nl_types.specs.declared.reply.Object.{Object}
use Rattle.nl_types.specs.declared.reply.Object.TheVariants.{Dir, File}
use Rattle.nl_types.specs.Plain.Characters.{slash}
use Rattle.nl_types.specs.Plain.Paths.{Path, is_name, path_of}
use Rattle.nl_types.specs.Plain.Trees.{Tree, IsTree, lookup}
use Rattle.nl_types.specs.Plain.Calls.{IsReadReply, and_then, file_at, list, read, reply_to, stat_of}
use Rattle.nl_types.specs.Facts.Judgements.{file_at_is}
use Rattle.nl_types.specs.Plain.Worlds.{World, Copy, IsWorld, Outcome, Reply, copy_at}
use Rattle.nl_folders.specs.Spelled.{spelling}
use Rattle.nl_keep.specs.Shown.{ShowsCurrent, ShowsKept}
use Rattle.nl_keep.specs.Volumes.{Follows, LeadsTo, Meaning, reply_at}
use Rattle.nl_keep.proofs.Spelling.{parsed}

-- ---- what a tree answers

listed_by : (path : Path) (names : List Named) (tree : Tree) → list_all is_name path ≡ true
    → reply_to tree (ask.List (spelling path)) ≡ Ok (answer.Names names) → list tree path ≡ Ok names
listed_by path names tree named = by_path (path_of (spelling path)) (parsed path)
  where
    by_list : (r : Result (List Named) VolError)
        → and_then r (λ ns. Ok (answer.Names ns)) ≡ Ok (answer.Names names) → r ≡ Ok names
    by_list (Ok ns) found = let same : ns ≡ names = cc in ap Ok same
    by_list (Err e) found = cc

    by_path : (r : Result Path VolError) → ((p : Path) → list_all is_name path ≡ true → r ≡ Ok p → p ≡ path)
        → and_then (and_then r (list tree)) (λ ns. Ok (answer.Names ns)) ≡ Ok (answer.Names names)
        → list tree path ≡ Ok names
    by_path (Ok p) spells found =
        ap (list tree) (sym (spells p named refl)) ∙ by_list (list tree p) found
    by_path (Err e) spells found = cc

read_by : (path : Path) (bytes : List ℕ) (tree : Tree) → IsTree tree → list_all is_name path ≡ true
    → reply_to tree (ask.Bytes (spelling path) 0 18446744073709551615) ≡ Ok (answer.Bytes bytes)
    → file_at tree path ≡ Ok bytes
read_by path bytes tree t named = by_path (path_of (spelling path)) (parsed path)
  where
    by_file : (p : Path) (r : Result (List ℕ) VolError) → IfOk r (λ b. lookup tree p ≡ Some (File b))
        → and_then r (λ b. Ok (answer.Bytes (take 18446744073709551615 (drop 0 b)))) ≡ Ok (answer.Bytes bytes)
        → r ≡ Ok bytes
    by_file p (Ok b) there found =
        let fits : length b ≤ 67108864 = t.sizes p b there in
        let same : take 18446744073709551615 (drop 0 b) ≡ bytes = cc in
        ap Ok (sym (take_all 18446744073709551615 b (omega arith)) ∙ same)
    by_file p (Err e) there found = cc

    by_path : (r : Result Path VolError) → ((p : Path) → list_all is_name path ≡ true → r ≡ Ok p → p ≡ path)
        → and_then r (read tree 0 18446744073709551615) ≡ Ok (answer.Bytes bytes)
        → file_at tree path ≡ Ok bytes
    by_path (Ok p) spells found =
        ap (file_at tree) (sym (spells p named refl)) ∙ by_file p (file_at tree p) (file_at_is tree p) found
    by_path (Err e) spells found = cc

-- a file stands where bytes of one are answered
stands_by : (path : Path) (len : ℕ) (bytes : List ℕ) (tree : Tree) → list_all is_name path ≡ true
    → reply_to tree (ask.Bytes (spelling path) 0 len) ≡ Ok (answer.Bytes bytes)
    → (found : List ℕ) × (file_at tree path ≡ Ok found)
stands_by path len bytes tree named = by_path (path_of (spelling path)) (parsed path)
  where
    by_file : (r : Result (List ℕ) VolError)
        → and_then r (λ b. Ok (answer.Bytes (take len (drop 0 b)))) ≡ Ok (answer.Bytes bytes)
        → (found : List ℕ) × (r ≡ Ok found)
    by_file (Ok b) found = (b, refl)
    by_file (Err e) found = cc

    by_path : (r : Result Path VolError) → ((p : Path) → list_all is_name path ≡ true → r ≡ Ok p → p ≡ path)
        → and_then r (read tree 0 len) ≡ Ok (answer.Bytes bytes)
        → (found : List ℕ) × (file_at tree path ≡ Ok found)
    by_path (Ok p) spells found =
        let file = by_file (file_at tree p) found in
        (file.0, ap (file_at tree) (sym (spells p named refl)) ∙ file.1)
    by_path (Err e) spells found = cc

-- ---- of what answers for a tree

replied : (a b : Ask) (reply : Reply) (found : Answer) (tree : Tree) → a ≡ b
    → IsReadReply a reply (reply_to tree a) → reply ≡ Ok found → reply_to tree b ≡ Ok found
replied a b reply found tree asked reads is = subst (λ (x : Ask). reply_to tree x ≡ Ok found) asked (elim reads [
  | inl s ↦ sym s ∙ is
  | inr r ↦ let no : Ok found ≡ Err error.Memory = sym is ∙ r.1 in cc
])

pub listed : (path : Path) (a : Ask) (reply : Reply) (names : List Named) (tree : Tree)
    → list_all is_name path ≡ true → a ≡ ask.List (spelling path) → IsReadReply a reply (reply_to tree a)
    → reply ≡ Ok (answer.Names names) → list tree path ≡ Ok names
listed path a reply names tree named asked reads is =
    listed_by path names tree named
    (replied a (ask.List (spelling path)) reply (answer.Names names) tree asked reads is)

pub read_whole : (path : Path) (a : Ask) (reply : Reply) (bytes : List ℕ) (tree : Tree) → IsTree tree
    → list_all is_name path ≡ true → a ≡ ask.Bytes (spelling path) 0 18446744073709551615
    → IsReadReply a reply (reply_to tree a) → reply ≡ Ok (answer.Bytes bytes) → file_at tree path ≡ Ok bytes
read_whole path a reply bytes tree t named asked reads is =
    read_by path bytes tree t named
    (replied a (ask.Bytes (spelling path) 0 18446744073709551615) reply (answer.Bytes bytes) tree asked reads is)

-- ---- of a checkpoint

-- what `read_at` ensures
abbrev pub ReadsAt : ℕ → Ask → Reply → Meaning → Type 0
ReadsAt n a reply Means = (w : World) → Means w → IsReadReply a reply (reply_at w n a)

answered : (n : ℕ) (a : Ask) (reply : Reply) (found : Answer) (tree : Tree) (w : World) (copy : Copy)
    → IsReadReply a reply (reply_at w n a) → reply ≡ Ok found → copy_at w n ≡ Some copy → copy.tree ≡ tree
    → reply_to tree a ≡ Ok found
answered n a reply found tree w copy reads is kept has =
    elim reads [
      | inl s ↦
          ap (λ (t : Tree). reply_to t a) (sym has)
          ∙ sym (ap (λ (o : Option Copy).
          and_then (ok_or o error.NoCheckpoint) (λ (c : Copy). reply_to c.tree a)) kept)
          ∙ sym s ∙ is
      | inr r ↦ let no : Ok found ≡ Err error.Memory = sym is ∙ r.1 in cc
    ]

-- the answer, once the question is known
told : (n : ℕ) (a b : Ask) (reply : Reply) (found : Answer) (tree : Tree) (Means : Meaning) → a ≡ b
    → ReadsAt n a reply Means → reply ≡ Ok found → ShowsKept Means n tree → reply_to tree b ≡ Ok found
told n a b reply found tree Means asked reads is shown =
    subst (λ (x : Ask). reply_to tree x ≡ Ok found) asked
    (answered n a reply found tree shown.world shown.copy (reads shown.world shown.means) is shown.kept shown.has)

pub file_stands : (n : ℕ) (path : Path) (len : ℕ) (a : Ask) (reply : Reply) (bytes : List ℕ) (Means : Meaning)
    → list_all is_name path ≡ true → a ≡ ask.Bytes (spelling path) 0 len
    → ReadsAt n a reply Means → reply ≡ Ok (answer.Bytes bytes)
    → (tree : Tree) → ShowsKept Means n tree → (found : List ℕ) × (file_at tree path ≡ Ok found)
file_stands n path len a reply bytes Means named asked reads is tree shown =
    stands_by path len bytes tree named
    (told n a (ask.Bytes (spelling path) 0 len) reply (answer.Bytes bytes) tree Means asked reads is shown)

-- ---- of the current tree

read_now : (a : Ask) (reply : Reply) (found : Answer) (tree : Tree) (Old New : Meaning)
    → LeadsTo (Follows (event.Read a) reply) Old New → reply ≡ Ok found → ShowsCurrent Old tree
    → reply_to tree a ≡ Ok found
read_now a reply found tree Old New does is shown =
    let d = does shown.world shown.means in
    elim d.2.1 [
      | inl s ↦
          ap (λ (t : Tree). reply_to t a) (sym shown.has) ∙ ap (λ (o : Outcome). o.0) s ∙ is
      | inr r ↦ let no : Ok found ≡ Err r.error = sym is ∙ r.reply_is in cc
    ]

told_now : (a b : Ask) (reply : Reply) (found : Answer) (tree : Tree) (Old New : Meaning) → a ≡ b
    → LeadsTo (Follows (event.Read a) reply) Old New → reply ≡ Ok found → ShowsCurrent Old tree
    → reply_to tree b ≡ Ok found
told_now a b reply found tree Old New asked does is shown =
    subst (λ (x : Ask). reply_to tree x ≡ Ok found) asked (read_now a reply found tree Old New does is shown)

pub listed_now : (path : Path) (a : Ask) (reply : Reply) (names : List Named) (Old New : Meaning)
    → list_all is_name path ≡ true → a ≡ ask.List (spelling path)
    → LeadsTo (Follows (event.Read a) reply) Old New → reply ≡ Ok (answer.Names names)
    → (tree : Tree) → ShowsCurrent Old tree → list tree path ≡ Ok names
listed_now path a reply names Old New named asked does is tree shown =
    listed_by path names tree named
    (told_now a (ask.List (spelling path)) reply (answer.Names names) tree Old New asked does is shown)

pub read_whole_now : (path : Path) (a : Ask) (reply : Reply) (bytes : List ℕ) (Old New : Meaning)
    → list_all is_name path ≡ true → a ≡ ask.Bytes (spelling path) 0 18446744073709551615
    → LeadsTo (Follows (event.Read a) reply) Old New → reply ≡ Ok (answer.Bytes bytes)
    → (tree : Tree) → ShowsCurrent Old tree → file_at tree path ≡ Ok bytes
read_whole_now path a reply bytes Old New named asked does is tree shown =
    read_by path bytes tree shown.is_tree named
    (told_now a (ask.Bytes (spelling path) 0 18446744073709551615) reply (answer.Bytes bytes) tree Old New asked
    does is shown)

-- ---- whether a checkpoint is kept

-- where its root isn't found, it isn't
pub refused_is_missing : (n : ℕ) (a : Ask) (reply : Reply) (e : VolError) (w : World) → IsWorld w
    → a ≡ ask.Stat (slash ∷ []) → IsReadReply a reply (reply_at w n a) → reply ≡ Err e
    → (e ≡ error.NoCheckpoint) × (copy_at w n ≡ None)
refused_is_missing n a reply e w world asked reads is =
    by (copy_at w n) refl
    (subst (λ (x : Ask). IsReadReply x reply (reply_at w n x)) asked reads)
  where
    root : Ask
    root = ask.Stat (slash ∷ [])

    found : (tree : Tree) → IsTree tree → (answers : Answer) × (reply_to tree root ≡ Ok answers)
    found tree t = (
      answer.Stat (stat_of tree [] Dir),
      ap (λ (o : Option Object).
          and_then (and_then (ok_or o error.NotFound) (λ (object : Object). Ok (stat_of tree [] object)))
          (λ s. Ok (answer.Stat s))) t.root,
    )

    by : (o : Option Copy) → copy_at w n ≡ o
        → IsReadReply root reply (and_then (ok_or o error.NoCheckpoint) (λ (c : Copy). reply_to c.tree root))
        → (e ≡ error.NoCheckpoint) × (copy_at w n ≡ None)
    by None kept here = elim here [
      | inl s ↦ let same : Err e ≡ Err error.NoCheckpoint = sym is ∙ s in (cc, kept)
      | inr r ↦ absurd r.0
    ]
    by (Some copy) kept here = elim here [
      | inl s ↦
          let told = found copy.tree (world.trees n copy kept) in
          let no : Err e ≡ Ok told.0 = sym is ∙ s ∙ told.1 in cc
      | inr r ↦ absurd r.0
    ]
