-- What a look at a state comes to.
use Rattle.std.proofs.Common.{◌≡◌, ℕ, zero, suc, true, inl, inr, List, [], ◌∷◌, refl, ap, sym, ◌∙◌, subst, Option, None, Some}
use Rattle.std.specs.Prelude.{slice_set}
use Rattle.std.specs.Option.{option_and_then, option_map}
use mathlib.Core.Option.{some, some-injective}
use mathlib.Core.List.{IsPrefix}
use lib.ListN.{get_elem?}
use Rattle.crossbeam_utils.specs.Register.{Turns}
use Rattle.nl_types.specs.Blocks.Roots.{Pages}
use Rattle.nl_types.specs.Plain.Trees.{Tree}
use Rattle.nl_cpfile.specs.Tables.{kept_at, checkpoint_root}
use Rattle.nl_cpfile.specs.declared.checkpoint.Checkpoint.{Checkpoint}
use Rattle.nl_commit.specs.Commits.{IsHistory, IsShownState, shown_after}
use Rattle.nl_commit.specs.Means.{RootMeans}
use Rattle.nl_commit.specs.Shown.{Shown, mounted_on, pages_shown}
use Rattle.nl_publish.specs.declared.reader_state.ReaderState.{ReaderState}
use Rattle.nl_publish.specs.Histories.{IsBegun, Known}
use Rattle.nl_publish.specs.States.{IsWhole, Kept, Looks}
use Rattle.nl_publish.specs.Mounts.{Claim, IsClaim}
use Rattle.nl_publish.specs.Told.{HistoriesShowStates, MountsBegin, MountsStay, TreeOn}
use Rattle.nl_mounts.specs.declared.looks.MountedTree.{MountedTree}
use Rattle.nl_publish.specs.Reading.{Entered, Foreign, IsLater, Looked, NoState, NoMount, Told}
use Rattle.nl_mounts.specs.Ports.{Finds, HasTreeIn, IsMountTree, IsOfTree, IsSeenOn, IsUngiven, Lacks, LookView, Made, Misses, NotGiven, NotMade, OfAnother, PortView, Shows, mounted_tree, seeing, tree_of, vacant}

-- ---- the rule of states

set_again : {A : Type 0} (xs : List A) (i : ℕ) (x : A) → get_elem? xs i ≡ some x → slice_set xs i x ≡ xs
set_again [] i x at = refl
set_again (y ∷ xs) zero x at = ap (λ z. z ∷ xs) (sym (some-injective y x at))
set_again (y ∷ xs) (suc i) x at = ap (λ ys. y ∷ ys) (set_again xs i x at)

-- a seat that looks leaves the state and what seats know as they were
pub looks_keep : (seat : ℕ) (v : List ℕ) → Turns Kept seat v (λ x. x) Looks
looks_keep seat v x views kept at =
    (v, subst (Kept x) (sym (set_again views seat v at)) kept, (kept.whole, kept.known seat v at, refl))

-- ---- trees of mounts

record HasTree (o : Option ℕ) (kept : ℕ → Option Checkpoint) (tree : MountedTree) : Type 0 where
  n : ℕ
  checkpoint : Checkpoint
  mounted : o ≡ Some n
  at : kept n ≡ Some checkpoint
  tree_is : tree_of n checkpoint ≡ tree

tree_at : (n : ℕ) (kept : ℕ → Option Checkpoint) (o : Option Checkpoint) (tree : MountedTree) → kept n ≡ o
    → option_map (tree_of n) o ≡ Some tree → HasTree (Some n) kept tree
tree_at n kept None tree at is = absurd cc
tree_at n kept (Some c) tree at is =
    record { n = n; checkpoint = c; mounted = refl; at = at; tree_is = cc is }

has_tree : (o : Option ℕ) (kept : ℕ → Option Checkpoint) (tree : MountedTree)
    → option_and_then (λ n. option_map (tree_of n) (kept n)) o ≡ Some tree → HasTree o kept tree
has_tree None kept tree is = absurd cc
has_tree (Some n) kept tree is = tree_at n kept (kept n) tree refl is

lacks_tree : (o : Option ℕ) (kept : ℕ → Option Checkpoint)
    → ((n : ℕ) → o ≡ Some n → (c : Checkpoint) × (kept n ≡ Some c))
    → option_and_then (λ n. option_map (tree_of n) (kept n)) o ≡ None → o ≡ None
lacks_tree None kept all is = refl
lacks_tree (Some n) kept all is =
    let c = all n refl in
    let none : option_map (tree_of n) (Some c.0) ≡ None =
    ap (λ (k : Option Checkpoint). option_map (tree_of n) k) (sym c.1) ∙ is in
    absurd (cc none)

means_root : (x : Shown) (n : ℕ) (c : Checkpoint) (t : Tree) → kept_at n x.table ≡ Some c → TreeOn x n t
    → RootMeans (pages_shown x) (checkpoint_root c) t
means_root x n c t kept tree =
    let same : tree.checkpoint ≡ c = cc (tree.kept, kept) in
    subst (λ (d : Checkpoint). RootMeans (pages_shown x) (checkpoint_root d) t) same tree.means

-- ---- looks

-- a state that is as new as what was seen lacks the mount, or shows its checkpoint
module _ (m : Claim) (old new : Known) (i : ReaderState) (states : HistoriesShowStates) (stay : MountsStay)
    (begin : MountsBegin) (claim : IsClaim m) (begun : IsBegun m.told.commits)
    (volume : m.told.volume ≡ old.volume)
    (whole : IsWhole i) (later : IsLater old new) (log : new.commits ≡ i.seen.log) where
  history : IsHistory new.commits
  history = subst IsHistory (sym log) whole.history

  shown : i.tables ≡ shown_after new.commits
  shown = whole.shown ∙ ap shown_after (sym log)

  state : IsShownState i.tables
  state = subst IsShownState (sym shown) (states new.commits history)

  lacks : None ≡ mounted_tree i.tables m.number → mounted_on (shown_after new.commits) m.number ≡ None
  lacks is = subst (λ (x : Shown). mounted_on x m.number ≡ None) shown
      (lacks_tree (mounted_on i.tables m.number) (λ n. kept_at n i.tables.table)
      (λ n at. let c = state.mounted m.number n at in (c.0, c.1)) (sym is))

  -- the checkpoint is shown
  shows : (n : ℕ) (c : Checkpoint) → IsPrefix m.told.commits new.commits
      → mounted_on i.tables m.number ≡ Some n → kept_at n i.tables.table ≡ Some c
      → IsMountTree m old new i.tables (tree_of n c)
  shows n c made mounted_was kept_was =
      let mounted : mounted_on (shown_after new.commits) m.number ≡ Some n =
      subst (λ (x : Shown). mounted_on x m.number ≡ Some n) shown mounted_was in
      let means : (t : Tree) → TreeOn (shown_after new.commits) n t
      → RootMeans (pages_shown i.tables) (checkpoint_root c) t =
      λ t tree. means_root i.tables n c t kept_was (subst (λ (x : Shown). TreeOn x n t) (sym shown) tree) in
      record {
        volume = volume;
        made = made;
        shown = shown;
        mounted = mounted;
        is_own = (stay m new.commits n claim history made mounted).checkpoint;
        checkpoint = c;
        kept = subst (λ (x : Shown). kept_at n x.table ≡ Some c) shown kept_was;
        root = refl;
        means = means;
        told = λ t tree. means t ((stay m new.commits n claim history made mounted).trees t tree);
      }

  seen : IsSeenOn old new
  seen = record { later = later; history = history }

  looked_at : (tree : Option MountedTree) → IsPrefix m.told.commits new.commits
      → tree ≡ mounted_tree i.tables m.number
      → Finds m old new i.tables tree
  looked_at None made is = Lacks volume seen (lacks is) refl
  looked_at (Some tree) made is =
      let at = has_tree (mounted_on i.tables m.number) (λ n. kept_at n i.tables.table) tree (sym is) in
      Shows tree seen
      (subst (λ (t : MountedTree). IsMountTree m old new i.tables t) at.tree_is
      (shows at.n at.checkpoint made at.mounted at.at))
      refl

  pub found_at : (tree : Option MountedTree) → HasTreeIn m new i.tables tree → Finds m old new i.tables tree
  found_at tree (Made made is) = looked_at tree made is
  found_at tree (NotMade ends less is) =
      Lacks volume seen (begin m new.commits claim begun history ends less) is

-- ---- what a call of a port comes to

pub record Comes (m : Claim) (old new : Known) (Ungiven Refused : Type 0) (Answers : Tree → Type 0)
    : Type 0 where
  pub later : IsLater old new
  pub looked : Looked m old new Ungiven Refused Answers
  pub told : Told m Refused Answers

module _ (m : Claim) (old new : Known) (x : Shown) (Ungiven Refused : Type 0) (Answers : Tree → Type 0) where
  under : (o p : Option MountedTree) → o ≡ p → IsOfTree (pages_shown x) o Refused Answers
      → IsOfTree (pages_shown x) p Refused Answers
  under o p is answers =
      subst (λ (r : Option MountedTree). IsOfTree (pages_shown x) r Refused Answers) is answers

  comes_of : (o : Option MountedTree) → Finds m old new x o → IsOfTree (pages_shown x) o Refused Answers
      → Comes m old new Ungiven Refused Answers
  comes_of o (Lacks volume seen lacks none) answers =
      let refused : Refused = under o None none answers in
      record {
        later = seen.later;
        looked = NoMount volume seen.history lacks refused;
        told = λ t tree. inl refused;
      }
  comes_of o (Shows tree seen at is) answers =
      let answered : (t : Tree) → RootMeans (pages_shown x) tree.root t → Answers t =
      under o (Some tree) is answers in
      record {
        later = seen.later;
        looked =
            Entered tree.checkpoint at.volume seen.history at.mounted
            (λ t tree. answered t (at.means t tree));
        told = λ t tree. inr (answered t (at.told t tree));
      }

-- by the steps of its body
pub comes : (m : Claim) (old new : Known) (look : LookView) (x : Shown) (o : Option MountedTree)
    (Ungiven Refused : Type 0) (Answers : Tree → Type 0)
    → Finds m old look.front look.shown look.tree → new ≡ look.front → x ≡ look.shown → o ≡ look.tree
    → IsOfTree (pages_shown x) o Refused Answers
    → Comes m old new Ungiven Refused Answers
comes m old new look x o Ungiven Refused Answers finds seen shown root answers =
    subst (λ (k : Known). Comes m old k Ungiven Refused Answers) (sym seen)
    (comes_of m old look.front look.shown Ungiven Refused Answers look.tree finds
    (under m old new look.shown Ungiven Refused Answers o look.tree root
    (subst (λ (y : Shown). IsOfTree (pages_shown y) o Refused Answers) shown answers)))

-- a call that finds no state is refused
pub missed : {E : Type 0} (gives : E → Option ReaderState → Type 0) (m : Claim) (p : PortView) (new : Known)
    (Refused : Type 0) (Answers : Tree → Type 0)
    → Misses gives m p → new ≡ p.known → Refused
    → Looked m p.known new (IsUngiven gives p.known p.seated) Refused Answers
missed gives m p new Refused Answers (OfAnother other) same refused = Foreign other same refused
missed gives m p new Refused Answers (NotGiven volume why) same refused = NoState volume why same refused

-- a port whose look came back
pub record IsBack (old new : PortView) (front : Known) : Type 0 where
  pub known : new.known ≡ front
  pub kept : new ≡ seeing old new.known

pub back_at : (old out new : PortView) (front : Known) → old.seated ≡ true → out ≡ vacant old
    → new ≡ record { known = front; cache = out.cache; seated = true } → IsBack old new front
back_at old out new front seated left is =
    let cache : out.cache ≡ old.cache = ap (λ (p : PortView). p.cache) left in
    let now : new ≡ seeing old front = rw (is, cache, seated) refl in
    let known : new.known ≡ front = ap (λ (p : PortView). p.known) now in
    record { known = known; kept = now ∙ ap (seeing old) (sym known) }

-- ---- answers under a tree

pub of_tree : (pages : Pages) (o : Option MountedTree) (tree : MountedTree) (Refused : Type 0)
    (Answers : Tree → Type 0)
    → o ≡ Some tree → ((t : Tree) → RootMeans pages tree.root t → Answers t)
    → IsOfTree pages o Refused Answers
of_tree pages o tree Refused Answers is all =
    subst (λ (r : Option MountedTree). IsOfTree pages r Refused Answers) (sym is) all
