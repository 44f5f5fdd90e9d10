-- Calls on one path put an object there, and leave what stands at every other path.
use Rattle.std.proofs.Common.{◌≡◌, ℕ, ◌≤◌, Bool, true, false, cond, List, [], ◌∷◌, length, Option, Some, None, Ok, refl, sym, ap, ◌∙◌, subst, arith}
use Rattle.nl_types.specs.declared.event.Change.{Change}
use Rattle.nl_types.specs.declared.event.Change.TheVariants.{Create, Mkdir, Write, Truncate, Unlink, Rmdir, Rename}
use Rattle.nl_types.specs.declared.reply.Object.{Object}
use Rattle.nl_types.specs.declared.reply.Object.TheVariants.{Dir, File}
use Rattle.nl_types.specs.Plain.Limits.{file_limit, path_limit}
use Rattle.nl_types.specs.Plain.Paths.{Path, path_of, same_path}
use Rattle.nl_types.specs.Plain.Trees.{Tree, IsTree, lookup}
use Rattle.nl_types.specs.Plain.Calls.{Changed, and_then, walk}
use Rattle.nl_types.specs.Facts.Lookups.{same_path-itself}
use Rattle.nl_types.specs.Facts.TreeLaws.{same_path-equal}
use Rattle.nl_folders.proofs.DoneCalls.{IsDoneAt, create_done, mkdir_done, truncate_done, write_done}
use Rattle.nl_folders.specs.Plans.{tree_after_all, left_of}
use Rattle.nl_folders.specs.Private.Rewriting.{AreRewrites, IsRewrite, MakesFile, PutsObject, RewritesFile, content_after, content_with}
use Rattle.nl_folders.specs.Spelled.{spelling}

-- the calls are done, and leave a tree with the object at the path and what there was at every other one
pub record Puts (tree : Tree) (path : Path) (object : Object) (calls : List Change) : Type 0 where
  pub next : Tree
  pub done : tree_after_all tree calls ≡ Ok next
  pub is_tree : IsTree next
  pub objects : (q : Path) → lookup next q ≡ cond (same_path q path) (Some object) (lookup tree q)

-- what is found at a path is what stands there
pub stands_at : (tree : Tree) (path : Path) (object : Option Object) → lookup tree path ≡ object
    → (q : Path) → lookup tree q ≡ cond (same_path q path) object (lookup tree q)
stands_at tree path object found q =
    elim (same_path q path) as (λ b. same_path q path ≡ b → lookup tree q ≡ cond b object (lookup tree q)) [
      | true ↦ λ same. ap (lookup tree) (same_path-equal q path same) ∙ found
      | false ↦ λ _. refl
    ] refl

-- at the path of a call
found_after : (tree next : Tree) (path : Path) (object : Option Object)
    → ((q : Path) → lookup next q ≡ cond (same_path q path) object (lookup tree q)) → lookup next path ≡ object
found_after tree next path object objects =
    objects path ∙ ap (λ b. cond b object (lookup tree path)) (same_path-itself path)

twice : {A : Type 0} (b : Bool) (x y z : A) → cond b x (cond b y z) ≡ cond b x z
twice true x y z = refl
twice false x y z = refl

-- no call is needed where the object stands
pub puts_nothing : (tree : Tree) (path : Path) (object : Object) → IsTree tree → lookup tree path ≡ Some object
    → Puts tree path object []
puts_nothing tree path object t found = record {
  next = tree;
  done = refl;
  is_tree = t;
  objects = stands_at tree path (Some object) found;
}

-- a call, and others on the tree that it leaves
pub puts_on : (tree : Tree) (path : Path) (first object : Object) (call : Change) (calls : List Change)
    (d : IsDoneAt tree call path (Some first)) → Puts d.next path object calls
    → Puts tree path object (call ∷ calls)
puts_on tree path first object call calls d p = record {
  next = p.next;
  done = ap (λ (changed : Changed). and_then changed (λ x. tree_after_all x.1 calls)) d.done ∙ p.done;
  is_tree = p.is_tree;
  objects = λ q.
      p.objects q
      ∙ ap (cond (same_path q path) (Some object)) (d.objects q)
      ∙ twice (same_path q path) (Some object) (Some first) (lookup tree q);
}

-- ---- rewriting

rewrite_done : (tree : Tree) (path : Path) (limit : ℕ) (old : List ℕ) (call : Change) → limit ≤ file_limit
    → IsRewrite path limit call → IsTree tree → path_of (spelling path) ≡ Ok path
    → lookup tree path ≡ Some (File old)
    → IsDoneAt tree call path (Some (File (content_with old call)))
rewrite_done tree path limit old (Write bytes offset new) fits is t named found =
    subst (λ (b : List ℕ).
    IsDoneAt tree (Write b offset new) path (Some (File (content_with old (Write b offset new))))) (sym is.0)
    (write_done tree (spelling path) path offset new old t named found is.1
    (omega (arith, is.2, fits)))
rewrite_done tree path limit old (Truncate bytes size) fits is t named found =
    subst (λ (b : List ℕ).
    IsDoneAt tree (Truncate b size) path (Some (File (content_with old (Truncate b size))))) (sym is.0)
    (truncate_done tree (spelling path) path size old t named found (omega (arith, is.1, fits)))
rewrite_done tree path limit old (Create bytes) fits is t named found = absurd is
rewrite_done tree path limit old (Mkdir bytes) fits is t named found = absurd is
rewrite_done tree path limit old (Unlink bytes) fits is t named found = absurd is
rewrite_done tree path limit old (Rmdir bytes) fits is t named found = absurd is
rewrite_done tree path limit old (Rename from to) fits is t named found = absurd is

rewrites_put : (tree : Tree) (path : Path) (limit : ℕ) (old : List ℕ) (calls : List Change)
    → limit ≤ file_limit → AreRewrites path limit calls → IsTree tree → path_of (spelling path) ≡ Ok path
    → lookup tree path ≡ Some (File old) → Puts tree path (File (content_after old calls)) calls
rewrites_put tree path limit old [] fits are t named found = puts_nothing tree path (File old) t found
rewrites_put tree path limit old (call ∷ calls) fits are t named found =
    let d = rewrite_done tree path limit old call fits are.0 t named found in
    let after = found_after tree d.next path (Some (File (content_with old call))) d.objects in
    puts_on tree path (File (content_with old call)) (File (content_after old (call ∷ calls))) call calls d
    (rewrites_put d.next path limit (content_with old call) calls fits are.1 d.is_tree named after)

rewriting_puts : (tree : Tree) (path : Path) (old new : List ℕ) (calls : List Change) → length new ≤ file_limit
    → RewritesFile path old new calls → IsTree tree → path_of (spelling path) ≡ Ok path
    → lookup tree path ≡ Some (File old) → Puts tree path (File new) calls
rewriting_puts tree path old new calls fits r t named found =
    subst (λ (b : List ℕ). Puts tree path (File b) calls) r.content
    (rewrites_put tree path (length new) old calls fits r.rewrites t named found)

-- ---- what is put

-- The path may have the object: calls can name it, its directory is there, the limits leave room, and nothing of
-- another kind stands there.
pub record MayStand (tree : Tree) (path : Path) (present : Option Object) (wanted : Object) : Type 0 where
  pub is_tree : IsTree tree
  pub named : path_of (spelling path) ≡ Ok path
  pub stands : lookup tree path ≡ left_of present (Some wanted)
  pub walked : walk tree path ≡ Ok tt
  pub small : (bytes : List ℕ) → wanted ≡ File bytes → length bytes ≤ file_limit
  pub room : lookup tree path ≡ None → length tree ≤ path_limit

directory_put : (tree : Tree) (path : Path) (present : Option Object) (calls : List Change)
    → MayStand tree path present Dir → left_of present (Some Dir) ≡ None → calls ≡ Mkdir (spelling path) ∷ []
    → Puts tree path Dir calls
directory_put tree path present calls may none are =
    let free : lookup tree path ≡ None = may.stands ∙ none in
    let d = mkdir_done tree (spelling path) path may.is_tree may.named may.walked free (may.room free) in
    subst (Puts tree path Dir) (sym are)
    (puts_on tree path Dir Dir (Mkdir (spelling path)) [] d
    (puts_nothing d.next path Dir d.is_tree (found_after tree d.next path (Some Dir) d.objects)))

file_put : (tree : Tree) (path : Path) (present : Option Object) (new : List ℕ) (calls : List Change)
    → MayStand tree path present (File new) → left_of present (Some (File new)) ≡ None
    → MakesFile path new calls → Puts tree path (File new) calls
file_put tree path present new [] may none makes = absurd makes
file_put tree path present new (call ∷ calls) may none makes =
    let free : lookup tree path ≡ None = may.stands ∙ none in
    let d = create_done tree (spelling path) path may.is_tree may.named may.walked free (may.room free) in
    let after = found_after tree d.next path (Some (File [])) d.objects in
    subst (λ (c : Change). Puts tree path (File new) (c ∷ calls)) (sym makes.0)
    (puts_on tree path (File []) (File new) (Create (spelling path)) calls d
    (rewriting_puts d.next path [] new calls (may.small new refl) makes.1 d.is_tree may.named after))

pub object_put : (tree : Tree) (path : Path) (present : Option Object) (wanted : Object) (calls : List Change)
    → MayStand tree path present wanted → PutsObject path present wanted calls → Puts tree path wanted calls
object_put tree path None Dir calls may puts = directory_put tree path None calls may refl puts
object_put tree path None (File new) calls may puts = file_put tree path None new calls may refl puts
object_put tree path (Some Dir) Dir calls may puts =
    subst (Puts tree path Dir) (sym puts) (puts_nothing tree path Dir may.is_tree may.stands)
object_put tree path (Some Dir) (File new) calls may puts =
    file_put tree path (Some Dir) new calls may refl puts
object_put tree path (Some (File old)) Dir calls may puts =
    directory_put tree path (Some (File old)) calls may refl puts
object_put tree path (Some (File old)) (File new) calls may puts =
    rewriting_puts tree path old new calls (may.small new refl) puts may.is_tree may.named may.stands
