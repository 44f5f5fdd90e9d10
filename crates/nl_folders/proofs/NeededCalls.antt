-- Where the calls of a plan are, and that they leave what has moved.
use Rattle.std.proofs.Common.{◌≡◌, ℕ, ◌<◌, true, List, [], ◌∷◌, ◌++◌, length, drop, Option, Some, None, refl, sym, ap, ◌∙◌, subst, true≢false, is_some, arith, inl, inr}
use Rattle.nl_types.specs.declared.event.Change.{Change}
use Rattle.nl_types.specs.declared.event.Change.TheVariants.{Create, Mkdir, Write, Truncate, Unlink, Rmdir, Rename}
use Rattle.nl_types.specs.declared.reply.Object.{Object}
use Rattle.nl_types.specs.declared.reply.Object.TheVariants.{Dir, File}
use Rattle.nl_types.specs.Plain.Paths.{Path, is_within}
use Rattle.nl_types.specs.Plain.Trees.{Tree, IsTree, lookup}
use Rattle.nl_types.specs.Facts.Booleans.{not_true}
use Rattle.nl_types.specs.Facts.Lookups.{within_is}
use Rattle.nl_folders.proofs.PlanLaws.{same_everywhere}
use Rattle.nl_folders.specs.Differences.{difference_of}
use Rattle.nl_folders.specs.Plans.{AreWhereTheyDiffer, IsNeededAt, IsOutside, IsWhereTheyDiffer, KeepMoved, KeepMovedBy, KeepsMoved, MovedIsKept, PlanKeepsWhatMoves, StandsAsWanted, StaysMoved, file_bytes, path_in}
use Rattle.nl_folders.specs.Private.Rewriting.{AreOfOtherBlocks, AreRewrites, IsRewrite, MakesFile, PutsObject}
use Rattle.nl_folders.specs.Private.Stages.{AreNeededAt, IsNoRename, removal_of}
use Rattle.nl_folders.specs.Spelled.{spelling}

module _ (path : Path) (old new : Option Object) (differs : is_some (difference_of old new) ≡ true) where
  rewrite_named : (limit : ℕ) (call : Change) → IsRewrite path limit call → path_in call ≡ spelling path
  rewrite_named limit (Write named offset bytes) is = is.0
  rewrite_named limit (Truncate named size) is = is.0
  rewrite_named limit (Create named) is = absurd is
  rewrite_named limit (Mkdir named) is = absurd is
  rewrite_named limit (Unlink named) is = absurd is
  rewrite_named limit (Rmdir named) is = absurd is
  rewrite_named limit (Rename from to) is = absurd is

  rewrite_stays : (limit : ℕ) (call : Change) → IsRewrite path limit call → IsNoRename call
  rewrite_stays limit (Write named offset bytes) is = tt
  rewrite_stays limit (Truncate named size) is = tt
  rewrite_stays limit (Create named) is = tt
  rewrite_stays limit (Mkdir named) is = tt
  rewrite_stays limit (Unlink named) is = tt
  rewrite_stays limit (Rmdir named) is = tt
  rewrite_stays limit (Rename from to) is = is

  rewrites_needed : (limit : ℕ) (calls : List Change) → AreRewrites path limit calls
      → AreOfOtherBlocks (file_bytes old) (file_bytes new) calls → AreNeededAt path old new calls
  rewrites_needed limit [] are others = tt
  rewrites_needed limit (call ∷ calls) are others = (
    ((rewrite_named limit call are.0, differs, others.0), rewrite_stays limit call are.0),
    rewrites_needed limit calls are.1 others.1,
  )

  directory_needed : (calls : List Change) → calls ≡ Mkdir (spelling path) ∷ [] → AreNeededAt path old new calls
  directory_needed calls are =
      subst (AreNeededAt path old new) (sym are) (((refl, differs, tt), tt), tt)

  file_needed : (bytes : List ℕ) (calls : List Change) → file_bytes old ≡ [] → file_bytes new ≡ bytes
      → MakesFile path bytes calls → AreNeededAt path old new calls
  file_needed bytes [] none some makes = absurd makes
  file_needed bytes (call ∷ calls) none some makes =
      let others : AreOfOtherBlocks (file_bytes old) (file_bytes new) calls =
      subst (λ (o : List ℕ). AreOfOtherBlocks o (file_bytes new) calls) (sym none)
      (subst (λ (n : List ℕ). AreOfOtherBlocks [] n calls) (sym some) makes.1.others) in (
        subst (λ (c : Change). IsNeededAt path old new c × IsNoRename c) (sym makes.0)
            ((refl, differs, tt), tt),
        rewrites_needed (length bytes) calls makes.1.rewrites others,
      )

file_some : (path : Path) (bytes : List ℕ) (calls : List Change) → MakesFile path bytes calls
    → 0 < length calls
file_some path bytes [] makes = absurd makes
file_some path bytes (call ∷ calls) makes = omega arith

-- the calls that put an object are all on its path
pub object_needed : (path : Path) (old : Option Object) (new : Object) (calls : List Change)
    → is_some (difference_of old (Some new)) ≡ true → PutsObject path old new calls
    → AreNeededAt path old (Some new) calls
object_needed path None Dir calls differs puts = directory_needed path None (Some Dir) differs calls puts
object_needed path None (File new) calls differs puts =
    file_needed path None (Some (File new)) differs new calls refl refl puts
object_needed path (Some Dir) Dir calls differs puts =
    subst (AreNeededAt path (Some Dir) (Some Dir)) (sym puts) tt
object_needed path (Some Dir) (File new) calls differs puts =
    file_needed path (Some Dir) (Some (File new)) differs new calls refl refl puts
object_needed path (Some (File old)) Dir calls differs puts =
    directory_needed path (Some (File old)) (Some Dir) differs calls puts
object_needed path (Some (File old)) (File new) calls differs puts =
    rewrites_needed path (Some (File old)) (Some (File new)) differs (length new) calls puts.rewrites puts.others

pub removal_needed : (path : Path) (object : Object) (new : Option Object) → is_some (difference_of (Some object) new) ≡ true
    → AreNeededAt path (Some object) new (removal_of path object ∷ [])
removal_needed path Dir new differs = (((refl, differs, tt), tt), tt)
removal_needed path (File bytes) new differs = (((refl, differs, tt), tt), tt)

-- and there are some
pub object_some : (path : Path) (old : Option Object) (new : Object) (calls : List Change)
    → is_some (difference_of old (Some new)) ≡ true → PutsObject path old new calls → 0 < length calls
object_some path None Dir calls differs puts =
    subst (λ (c : List Change). 0 < length c) (sym puts) (omega arith)
object_some path None (File new) calls differs puts = file_some path new calls puts
object_some path (Some Dir) Dir calls differs puts = absurd (true≢false (sym differs))
object_some path (Some Dir) (File new) calls differs puts = file_some path new calls puts
object_some path (Some (File old)) Dir calls differs puts =
    subst (λ (c : List Change). 0 < length c) (sym puts) (omega arith)
object_some path (Some (File old)) (File new) [] differs puts =
    absurd (true≢false
    (sym differs
    ∙ ap (λ (b : List ℕ). is_some (difference_of (Some (File old)) (Some (File b)))) (sym puts.content)
    ∙ same_everywhere (Some (File old))))
object_some path (Some (File old)) (File new) (call ∷ calls) differs puts = omega arith

-- so they are where two trees differ that have these objects
pub needed_there : (one other : Tree) (path : Path) (calls : List Change)
    → AreNeededAt path (lookup one path) (lookup other path) calls → AreWhereTheyDiffer one other calls
needed_there one other path [] are = tt
needed_there one other path (call ∷ calls) are =
    ((path, are.0.0), needed_there one other path calls are.1)

-- ---- what is renamed

kept_call : (moved wanted : Tree) (call : Change) → IsNoRename call → IsWhereTheyDiffer moved wanted call
    → KeepsMoved moved wanted call
kept_call moved wanted (Create named) other is = is
kept_call moved wanted (Mkdir named) other is = tt
kept_call moved wanted (Write named offset bytes) other is = is
kept_call moved wanted (Truncate named size) other is = is
kept_call moved wanted (Unlink named) other is = is
kept_call moved wanted (Rmdir named) other is = is
kept_call moved wanted (Rename from to) other is = absurd other

-- calls where the tree that the moves leave differs from the wanted one don't touch what has moved
pub needed_keep : (moved wanted : Tree) (path : Path) (calls : List Change)
    → AreNeededAt path (lookup moved path) (lookup wanted path) calls → KeepMoved moved wanted calls
needed_keep moved wanted path [] are = tt
needed_keep moved wanted path (call ∷ calls) are =
    (kept_call moved wanted call are.0.1 (path, are.0.0), needed_keep moved wanted path calls are.1)

pub KeepMoved-append : (moved wanted : Tree) (calls more : List Change) → KeepMoved moved wanted calls
    → KeepMoved moved wanted more → KeepMoved moved wanted (calls ++ more)
KeepMoved-append moved wanted [] more first second = second
KeepMoved-append moved wanted (call ∷ calls) more first second =
    (first.0, KeepMoved-append moved wanted calls more first.1 second)

-- what has been kept is so behind more calls
pub kept_behind : (old new : Option Tree) (wanted : Tree) (calls more : List Change) → StaysMoved old new
    → KeepMovedBy old wanted calls → KeepMovedBy new wanted more → KeepMovedBy new wanted (calls ++ more)
kept_behind None None wanted calls more stays first second =
    ap (λ (x : List Change). x ++ more) first ∙ second
kept_behind None (Some moved) wanted calls more stays first second =
    (second.0, subst (λ (x : List Change). KeepMoved moved wanted (x ++ more)) (sym first) second.1)
kept_behind (Some moved) None wanted calls more stays first second = cc
kept_behind (Some moved) (Some same) wanted calls more stays first second =
    let is : same ≡ moved = cc in (
      second.0,
      KeepMoved-append same wanted calls more
          (subst (λ (t : Tree). KeepMoved t wanted calls) (sym is) first.1) second.1,
    )

-- and at the end
pub kept_whole : (moved : Option Tree) (wanted : Tree) (calls : List Change) → IsTree wanted
    → KeepMovedBy moved wanted calls → PlanKeepsWhatMoves wanted calls
kept_whole None wanted calls t none = (wanted, t, subst (KeepMoved wanted wanted) (sym none) tt)
kept_whole (Some moved) wanted calls t kept = (moved, kept.0, kept.1)

outside : (moved wanted : Tree) (to : List ℕ) (call : Change) → StandsAsWanted moved wanted to
    → IsWhereTheyDiffer moved wanted call → IsOutside to (path_in call)
outside moved wanted to call stands differs =
    let top = stands.0 in
    let path = differs.0 in (
      top,
      path,
      stands.1,
      differs.1.0,
      not_true (is_within top path) (λ inside.
          let here = within_is top path inside in
          let same : lookup moved path ≡ lookup wanted path =
          ap (lookup moved) here ∙ stands.3 (drop (length top) path) ∙ ap (lookup wanted) (sym here) in
          true≢false
          (sym differs.1.1
          ∙ ap (λ (o : Option Object). is_some (difference_of o (lookup wanted path))) same
          ∙ same_everywhere (lookup wanted path))),
    )

pub moved_is_kept : MovedIsKept
moved_is_kept moved wanted from to (Mkdir path) renames keeps = inl tt
moved_is_kept moved wanted from to (Rename old new) renames keeps = inl tt
moved_is_kept moved wanted from to (Create path) renames keeps =
    inr (outside moved wanted to (Create path) renames keeps)
moved_is_kept moved wanted from to (Write path offset bytes) renames keeps =
    inr (outside moved wanted to (Write path offset bytes) renames keeps)
moved_is_kept moved wanted from to (Truncate path size) renames keeps =
    inr (outside moved wanted to (Truncate path size) renames keeps)
moved_is_kept moved wanted from to (Unlink path) renames keeps =
    inr (outside moved wanted to (Unlink path) renames keeps)
moved_is_kept moved wanted from to (Rmdir path) renames keeps =
    inr (outside moved wanted to (Rmdir path) renames keeps)
