-- What the file of an open mount's path is, in each state that has the mount.
use Rattle.std.proofs.Common.{◌≡◌, ℕ, zero, suc, ◌-◌, ◌≤◌, min, List, [], ◌∷◌, ◌++◌, length, take, drop, Option, None, Some, Result, Ok, Err, refl, ap, sym, ◌∙◌, subst, arith}
use Rattle.std.specs.Prelude.{IfErr, IsOk, MatchResult, OnErr}
use Rattle.std.proofs.lemmas.List.{length-take, length-drop, take-append-drop}
use Rattle.nl_types.specs.declared.error.VolError.{VolError}
use Rattle.nl_types.specs.declared.error.VolError.TheVariants.{BadMount}
use Rattle.nl_types.specs.declared.reply.Answer.{Answer}
use Rattle.nl_types.specs.declared.reply.Answer.TheVariants as answer
use Rattle.nl_types.specs.Plain.Calls.{and_then, file_at, read}
use Rattle.nl_types.specs.Plain.Paths.{Path, path_of}
use Rattle.nl_types.specs.Blocks.Roots.{Pages}
use Rattle.nl_types.specs.Plain.Trees.{Tree}
use Rattle.nl_layout.specs.Root.{root_of}
use Rattle.nl_layout.specs.declared.root.Root.{Root}
use Rattle.nl_tree.specs.Held.{Holding}
use Rattle.nl_tree.specs.Reading.{ArePartOf, HoldingMeans, as_file, link_at}
use Rattle.nl_tree.specs.Facts.ReadingCalls.{read_bytes, read_file, read_refused}
use Rattle.nl_files.specs.CheckpointTrees.{HoldsTree}
use Rattle.nl_cpfile.specs.Tables.{kept_at, checkpoint_root}
use Rattle.nl_commit.specs.Commits.{IsHistory, shown_after}
use Rattle.nl_commit.specs.Shown.{Shown, pages_shown}
use Rattle.nl_publish.specs.Histories.{IsBegun, Known}
use Rattle.nl_publish.specs.KeptHoldings.{HoldsOn}
use Rattle.nl_publish.specs.Mounts.{Claim, IsClaim}
use Rattle.nl_publish.specs.Told.{TreeOn}
use Rattle.nl_publish.specs.Facts.KeptHoldings.{kept_holdings_stay, mounts_hold}
use Rattle.nl_publish.specs.Facts.Staying.{history_state}
use Rattle.nl_publish.specs.FactsOfLanes.Later.{later_self}
use Rattle.nl_publish.specs.declared.reader_state.ReaderState.{ReaderState}
use Rattle.nl_mounts.specs.declared.looks.MountedTree.{MountedTree}
use Rattle.nl_mounts.specs.OpenFiles.{HoldsAsTold, IsFileOf, IsFileRead, IsOpenOf, IsPartRefused, bytes_at}
use Rattle.nl_mounts.specs.declared.standing.Standing.TheVariants as standing
use Rattle.nl_mounts.specs.Ports as ports
use Rattle.nl_mounts.specs.Ports.{Finds, IsMountTree, IsNotRead, IsOfTree, IsUngiven, Lacks, Misses, PortView, Shows}
use Rattle.nl_mounts.specs.Standings as standings
use Rattle.nl_mounts.specs.Standings.{StandsAs}

-- ---- what a mount's checkpoint holds

begun : (log : List _) → IsHistory log → IsBegun log
begun [] history = absurd history
begun (c ∷ log) history = history

module _ (m : Claim) (old new : Known) (x : Shown) (t : MountedTree) (claim : IsClaim m)
    (told_begun : IsBegun m.told.commits) (history : IsHistory new.commits) (at : IsMountTree m old new x t) where
  told : IsHistory m.told.commits × ((held : Holding) × HoldsOn (shown_after m.told.commits) m.checkpoint held)
  told = mounts_hold m claim told_begun

  kept : kept_at m.checkpoint (shown_after new.commits).table ≡ Some at.checkpoint
  kept = subst (λ (n : ℕ). kept_at n (shown_after new.commits).table ≡ Some at.checkpoint) at.is_own at.kept

  -- it holds the same in both states
  same : (held now : Holding) → HoldsOn (shown_after m.told.commits) m.checkpoint held
      → HoldsOn (shown_after new.commits) m.checkpoint now → now ≡ held
  same held now =
      kept_holdings_stay m.told.commits new.commits m.checkpoint held now told.0 (begun new.commits history)
      at.made

  on_tree : (held : Holding) → HoldsTree (pages_shown x) (root_of t.root) held
      → HoldsOn (shown_after new.commits) m.checkpoint held
  on_tree held holds = record {
    checkpoint = at.checkpoint;
    kept = kept;
    holds =
        subst (λ (y : Shown). HoldsTree (pages_shown y) (root_of (checkpoint_root at.checkpoint)) held) at.shown
        (subst (λ (r : Root). HoldsTree (pages_shown x) (root_of r) held) (sym at.root) holds);
  }

  -- what is held in the state, and so in the tree
  here : (held : Holding) × HoldsTree (pages_shown x) (root_of t.root) held
  here =
      let tree = (history_state new.commits history).trees m.checkpoint at.checkpoint kept in (
        tree.means.held,
        subst (λ (r : Root). HoldsTree (pages_shown x) (root_of r) tree.means.held) at.root
            (subst (λ (y : Shown).
            HoldsTree (pages_shown y) (root_of (checkpoint_root at.checkpoint)) tree.means.held)
            (sym at.shown) tree.means.holds),
      )

  back : (held : Holding) → HoldsTree (pages_shown x) (root_of t.root) held
      → HoldsOn (shown_after m.told.commits) m.checkpoint held
  back held holds =
      subst (HoldsOn (shown_after m.told.commits) m.checkpoint) (sym (same told.1.0 held told.1.1 (on_tree held holds)))
      told.1.1

  on : (held : Holding) → HoldsOn (shown_after m.told.commits) m.checkpoint held
      → HoldsTree (pages_shown x) (root_of t.root) held
  on held was =
      subst (HoldsTree (pages_shown x) (root_of t.root)) (same held here.0 was (on_tree here.0 here.1)) here.1

pub holds_as_told : (m : Claim) (old new : Known) (x : Shown) (tree : Option MountedTree) → IsClaim m
    → IsBegun m.told.commits → Finds m old new x tree
    → HoldsAsTold m (pages_shown x) tree
holds_as_told m old new x tree claim told_begun (Lacks volume seen lacks none) t held is =
    absurd (cc (none, is))
holds_as_told m old new x tree claim told_begun (Shows s seen at shows) t held is =
    let same : s ≡ t = cc (shows, is) in
    let at_t : IsMountTree m old new x t = subst (λ (u : MountedTree). IsMountTree m old new x u) same at in (
      back m old new x t claim told_begun seen.history at_t held,
      on m old new x t claim told_begun seen.history at_t held,
    )

-- ---- what a tree has at a path

-- bytes that are read are some of the file's
pub read_is : (t : Tree) (path : List ℕ) (offset len : ℕ) (part : List ℕ)
    → and_then (path_of path) (read t offset len) ≡ Ok (answer.Bytes part)
    → (bytes : List ℕ) × (bytes_at t path ≡ Ok bytes) × (part ≡ take len (drop offset bytes))
read_is t path offset len part is = by (path_of path) is
  where
    found : (r : Result (List ℕ) VolError)
        → and_then r (λ bytes. Ok (answer.Bytes (take len (drop offset bytes)))) ≡ Ok (answer.Bytes part)
        → (bytes : List ℕ) × (r ≡ Ok bytes) × (part ≡ take len (drop offset bytes))
    found (Ok bytes) is = (bytes, refl, cc (is))
    found (Err e) is = absurd (cc is)

    by : (p : Result Path VolError) → and_then p (read t offset len) ≡ Ok (answer.Bytes part)
        → (bytes : List ℕ) × (and_then p (file_at t) ≡ Ok bytes) × (part ≡ take len (drop offset bytes))
    by (Ok p) is = found (file_at t p) is
    by (Err e) is = absurd (cc is)

pub take_less : (n : ℕ) (xs : List ℕ) (c : ℕ) → c ≡ min n (length xs) → take n xs ≡ take c xs
take_less zero xs zero is = refl
take_less zero xs (suc c) is = absurd (omega (arith, is))
take_less (suc n) [] zero is = refl
take_less (suc n) [] (suc c) is = refl
take_less (suc n) (y ∷ xs) zero is = absurd (omega (arith, is))
take_less (suc n) (y ∷ xs) (suc c) is =
    let less : c ≡ min n (length xs) = omega (arith, is) in
    ap (λ (l : List ℕ). y ∷ l) (take_less n xs c less)

pub file_read : (held : Holding) (t : Tree) → HoldingMeans held t
    → (path : List ℕ) (i offset count : ℕ) (was now : List ℕ) → Ok i ≡ and_then (link_at held path) as_file
    → ArePartOf (held i) offset (length was) (take count now) → count ≤ length now
    → drop count now ≡ drop count was
    → IsFileRead t path offset was (Ok count) now
file_read held t means path i offset count was now link part within rest =
    let is =
    read_is t path offset (length was) (take count now)
    (read_file held t means offset (length was) path i (take count now) link part) in
    let bytes = is.0 in
    let long : length (take count now) ≡ length (take (length was) (drop offset bytes)) =
    ap (λ (l : List ℕ). length l) is.2 in
    let all : count ≡ min (length was) (length bytes - offset) =
    omega (
      arith,
      within,
      long,
      length-take count now,
      length-take (length was) (drop offset bytes),
      length-drop offset bytes,
    ) in
    record {
      bytes = bytes;
      file = is.1;
      count = count;
      answer = refl;
      all = all;
      front =
          sym (take-append-drop count now)
          ∙ (ap (λ (l : List ℕ). l ++ drop count now) (is.2 ∙ take_less (length was) (drop offset bytes) count
          (omega (arith, all, length-drop offset bytes)))
          ∙ ap (λ (l : List ℕ). take count (drop offset bytes) ++ l) rest);
    }

-- ---- opening

open_by : (found : Result ℕ VolError) (i : ℕ) (view : ℕ → Answer) (A : Type 0) (file : A) → Ok i ≡ found
    → MatchResult (and_then found (λ j. Ok (view j))) (λ _. IsOk {E = VolError} (Ok file)) (λ e. Ok file ≡ Err e)
open_by found i view A file is =
    subst (λ (f : Result ℕ VolError).
    MatchResult (and_then f (λ j. Ok (view j))) (λ _. IsOk {E = VolError} (Ok file)) (λ e. Ok file ≡ Err e))
    is refl

pub opened : {A : Type 0} (held : Holding) (t : Tree) → HoldingMeans held t
    → (path : List ℕ) (i : ℕ) (file : A) → Ok i ≡ and_then (link_at held path) as_file
    → IsOpenOf t path (Ok file)
opened {A} held t means path i file link =
    subst
    (λ (r : Result Answer VolError).
    MatchResult r (λ _. IsOk {E = VolError} (Ok file)) (λ e. Ok file ≡ Err e))
    (sym (read_bytes held t means 0 0 path))
    (open_by (and_then (link_at held path) as_file) i _ A file link)

pub not_opened : (A : Type 0) (held : Holding) (t : Tree) → HoldingMeans held t
    → (path : List ℕ) (e : VolError) → Err e ≡ and_then (link_at held path) as_file
    → IsOpenOf {A = A} t path (Err e)
not_opened A held t means path e link =
    let refused : Result A VolError = Err e in
    subst
    (λ (r : Result Answer VolError). MatchResult r (λ _. IsOk refused) (λ x. refused ≡ Err x))
    (sym (read_refused held t means 0 0 path e link)) refl

-- ---- what an open file has

pub open_bytes : (m : Claim) (path : List ℕ) (i : ℕ) → IsFileOf m path i
    → (t : Tree) → TreeOn (shown_after m.told.commits) m.checkpoint t
    → (bytes : List ℕ) × (bytes_at t path ≡ Ok bytes)
open_bytes m path i file t on =
    let held = on.means.held in
    let link =
    file held (record { checkpoint = on.checkpoint; kept = on.kept; holds = on.means.holds }) in
    let is = read_is t path 0 0 [] (read_file held t on.means.means 0 0 path i [] link refl) in
    (is.0, is.1)

-- ---- why a part isn't read

pub part_missed : {E : Type 0} (gives : E → Option ReaderState → Type 0) (m : Claim) (p : PortView) (new : Known)
    (e : VolError)
    → Misses gives m p → new ≡ p.known → e ≡ BadMount
    → IsPartRefused m p.known new (λ k. IsUngiven gives k p.seated) e
part_missed gives m p new e (ports.OfAnother other) same is = record {
  is = is;
  seen = p.known;
  later = later_self p.known;
  stands = standing.Foreign;
  unmounted = λ equal. cc;
  why = standings.OfAnother other same refl;
}
part_missed gives m p new e (ports.NotGiven volume why) same is = record {
  is = is;
  seen = p.known;
  later = later_self p.known;
  stands = standing.Ended;
  unmounted = λ equal. cc;
  why = standings.NotGiven volume why same refl;
}

pub part_lacks : {A : Type 0} (m : Claim) (old new front : Known) (x : Shown) (tree : Option MountedTree)
    (Ungiven : Known → Type 0) (result : Result A VolError)
    → Finds m old front x tree → new ≡ front → OnErr result (tree ≡ None)
    → IfErr result (λ e. e ≡ BadMount)
    → IfErr result (IsPartRefused m old new Ungiven)
part_lacks m old new front x tree Ungiven (Ok count) finds same none is = tt
part_lacks m old new front x tree Ungiven (Err e) (Shows t seen at shows) same none is = absurd (cc (none, shows))
part_lacks m old new front x tree Ungiven (Err e) (Lacks volume seen lacks lacking) same none is = record {
  is = is;
  seen = old;
  later = later_self old;
  stands = standing.GivenBack;
  unmounted = λ equal. cc;
  why =
      subst (λ (k : Known). StandsAs m old k (Ungiven old) standing.GivenBack) (sym same)
      (standings.Lacking volume seen.history lacks refl);
}

not_read : (pages : Pages) (tree : Option MountedTree) (result : Result ℕ VolError) (was now : List ℕ)
    (Answers : Tree → Type 0)
    → IsOfTree pages tree (IsNotRead result was now) Answers → tree ≡ None → IsNotRead result was now
not_read pages tree result was now Answers reads none =
    subst (λ (o : Option MountedTree). IsOfTree pages o (IsNotRead result was now) Answers) none reads

pub same_if : (pages : Pages) (tree : Option MountedTree) (result : Result ℕ VolError) (was now : List ℕ)
    (Answers : Tree → Type 0)
    → IsOfTree pages tree (IsNotRead result was now) Answers → OnErr result (tree ≡ None)
    → OnErr result (now ≡ was)
same_if pages tree (Ok count) was now Answers reads none = tt
same_if pages tree (Err e) was now Answers reads none =
    (not_read pages tree (Err e) was now Answers reads none).same

pub bad_if : (pages : Pages) (tree : Option MountedTree) (result : Result ℕ VolError) (was now : List ℕ)
    (Answers : Tree → Type 0)
    → IsOfTree pages tree (IsNotRead result was now) Answers → OnErr result (tree ≡ None)
    → IfErr result (λ e. e ≡ BadMount)
bad_if pages tree (Ok count) was now Answers reads none = tt
bad_if pages tree (Err e) was now Answers reads none =
    let refused = (not_read pages tree (Err e) was now Answers reads none).refused in cc (refused)
