-- A record that is moved makes of the tree what a rename makes of it.
use Rattle.std.proofs.Common.{◌≡◌, ◌==◌, ℕ, ◌+◌, ◌-◌, ◌≤◌, Bool, true, false, cond, List, [], ◌∷◌, ◌++◌, length, length-append, reverse, Option, Some, None, Result, Ok, Err, refl, sym, ap, ◌∙◌, subst, inl, inr, arith}
use Rattle.std.specs.Prelude.{IfErr, IsTrue, OnOk}
use Rattle.std.specs.Option.{option_map}
use Rattle.std.proofs.lemmas.Bool.{eq-eqb, ne_eqb}
use Rattle.std.proofs.lemmas.List.{length-reverse}
use Rattle.nl_types.specs.declared.error.VolError.{VolError}
use Rattle.nl_types.specs.declared.error.VolError.TheVariants.{Memory}
use Rattle.nl_types.specs.declared.reply.Answer.TheVariants as answer
use Rattle.nl_types.specs.declared.reply.Object.{Object}
use Rattle.nl_types.specs.Plain.Paths.{Name, Path, is_name, path_of}
use Rattle.nl_types.specs.Plain.Trees.{Tree}
use Rattle.nl_types.specs.Plain.Calls.{Changed, rename}
use Rattle.nl_types.specs.Inodes.{Link, MeansTree, object_of}
use Rattle.nl_types.specs.Judging.{judge_rename}
use Rattle.nl_types.specs.Resolving.{record_in}
use Rattle.nl_types.specs.Facts.Inodes.Resolving.{child_record, dir_stands, inode, object_held}
use Rattle.nl_types.specs.Facts.Inodes.Standing.{zipped}
use Rattle.nl_dirs.specs.declared.record.Record.{Record}
use Rattle.nl_dirs.specs.Records.{NamesAscend, entry_of}
use Rattle.nl_tree.specs.declared.overlay.Overlay.{Overlay}
use Rattle.nl_tree.specs.declared.renames.PlannedRename.{PlannedRename}
use Rattle.nl_tree.specs.Became.{Current, holding_over}
use Rattle.nl_tree.specs.CurrentTrees.{AnswersCall, HasRenamed, LeavesTree, StandsOver, without_replaced}
use Rattle.nl_tree.specs.Held.{Held, Holding, IsHolding, IsInodeNumber, Listed, inode_content, inodes_of_holding}
use Rattle.nl_tree.specs.Private.Moving.{AreDirectoriesOf, FindsMove, IsMove}
use Rattle.nl_tree.specs.Naming.{IsPlaceOf, listing_of}
use Rattle.nl_tree.specs.Numbers.{CountsFree}
use Rattle.nl_tree.specs.Overlays.{IsDirectoryOf, IsOrderly, current_of, holding_now}
use Rattle.nl_tree.specs.Records.{with_record, without_record}
use Rattle.nl_tree.specs.Steps.{with_held, with_link_moved, without_link}
use Rattle.nl_tree.specs.TreeMeaning.{MakesTree, StandsForTree}
use Rattle.nl_tree.proofs.CallsLead.{renamed_makes, renamed_onto_makes}
use Rattle.nl_tree.specs.Facts.HeldContents.{listing_of-IsListing}
use Rattle.nl_tree.proofs.HeldListings.{records-few}
use Rattle.nl_tree.proofs.HoldingSteps.{moved_link-may, with_held-may}
use Rattle.nl_tree.proofs.InodeSteps.{with_held-other, with_held-there}
use Rattle.nl_tree.proofs.OneHolding.{directory_inside}
use Rattle.nl_tree.proofs.PlacesFound.{place-listed}
use Rattle.nl_tree.proofs.RecordSteps.{ascend-with, ascend-without}

-- ---- what places are

some_held : (held : Option Held) (object : Object)
    → option_map object_of (option_map inode_content held) ≡ Some object → (what : Held) × (held ≡ Some what)
some_held None object e = absurd cc
some_held (Some what) object e = (what, refl)

longer : (dir : Path) (name : Name) → reverse (dir ++ name ∷ []) ≡ reverse dir → ⊥
longer dir name e =
    omega (
      arith,
      sym (length-reverse (dir ++ name ∷ [])) ∙ (ap (length {A = Name}) e ∙ length-reverse dir),
      length-append dir (name ∷ []),
    )

module _ (held : Holding) (tree : Tree) (sound : IsHolding held)
    (means : MeansTree (inodes_of_holding held) tree)
    (path : Path) (directory : ℕ) (name : Name) (link : Option Link)
    (place : IsPlaceOf held path directory name link) where
  -- a place's directory is one of a tree
  pub directory-number : IsInodeNumber directory
  directory-number =
      let is = place-listed held tree sound means path directory name link place in
      sound.inode_numbers directory (Listed is.0) is.1.0

module _ (held : Holding) (tree : Tree) (sound : IsHolding held)
    (means : MeansTree (inodes_of_holding held) tree)
    (from to : Path) (m : PlannedRename) (is : FindsMove held from to m) where
  -- both directories of a move are listed
  pub move-directories : (all others : List Record) × AreDirectoriesOf m held all others
  move-directories =
      let here = place-listed held tree sound means from m.directory m.name.now (Some m.link) is.place in
      let there =
      place-listed held tree sound means to m.target.directory m.target.name.now m.target.link
      is.target_place in
      (here.0, there.0, (here.1, there.1))

  pub move-numbers : IsInodeNumber m.directory × IsInodeNumber m.target.directory
  move-numbers = (
    directory-number held tree sound means from m.directory m.name.now (Some m.link) is.place,
    directory-number held tree sound means to m.target.directory m.target.name.now m.target.link
        is.target_place,
  )

-- the directories of a move that the lists have are those of the maps
pub directories_inside : (o : Overlay) (now : Current) (base : Holding) (m : PlannedRename) (all others : List Record)
    →
    IsOrderly o → current_of o ≡ now → AreDirectoriesOf m (holding_over now.became base) all others →
    AreDirectoriesOf m (holding_now o base) all others
directories_inside o now base m all others orderly view are = (
  directory_inside o now base m.directory all orderly view are.0,
  directory_inside o now base m.target.directory others orderly view are.1,
)

-- what a record names: it is in use, neither its directory nor the root
pub record IsOrdinary (held : Holding) (directory i : ℕ) : Type 0 where
  pub number : IsInodeNumber i
  pub other : i ≡ directory → ⊥
  pub not_root : i ≡ 2 → ⊥

module _ (held : Holding) (tree : Tree) (sound : IsHolding held)
    (means : MeansTree (inodes_of_holding held) tree)
    (path : Path) (directory : ℕ) (name : Name) (link : Link)
    (place : IsPlaceOf held path directory name (Some link)) where
  pub link-ordinary : IsOrdinary held directory link.0
  link-ordinary =
      let s = dir_stands (inodes_of_holding held) tree means place.dir directory place.named.resolved in
      let is =
      sym (child_record (inodes_of_holding held) tree means place.dir name directory s.1 s.0)
      ∙ place.named.has in
      let z = zipped (inode (inodes_of_holding held) tree means (place.dir ++ name ∷ [])) _ link is in
      let what =
      some_held (held link.0) z.1
      (object_held (inodes_of_holding held) tree means (place.dir ++ name ∷ []) z.1 link.0 z.0 z.2) in
      record {
        number = sound.inode_numbers link.0 what.0 what.1;
        other = λ e.
            longer place.dir name
            (means.pairs.once (reverse (place.dir ++ name ∷ [])) (reverse place.dir) link.0 z.0
            (s.1 ∙ ap Some (sym e)));
        not_root = λ e.
            no_name place.dir name
            (means.pairs.once (reverse (place.dir ++ name ∷ [])) [] link.0 z.0
            (means.pairs.root ∙ ap Some (sym e)));
      }
    where
      no_name : (dir : Path) (name : Name) → reverse (dir ++ name ∷ []) ≡ [] → ⊥
      no_name dir name e =
          omega (
            arith,
            sym (length-reverse (dir ++ name ∷ [])) ∙ ap (length {A = Name}) e,
            length-append dir (name ∷ []),
          )

-- an ordinary inode's number
pub ordinary-number : (held : Holding) (directory i : ℕ) → IsOrdinary held directory i
    → (11 ≤ i) × (i ≤ 524287)
ordinary-number held directory i is = elim is.number [
  | inl root ↦ absurd (is.not_root root)
  | inr number ↦ number
]

-- ---- the directory to which a record goes

cond-listed : (b : Bool) (left others : List Record) (held : Option Held) → held ≡ Some (Listed others)
    → cond b (Some (Listed left)) held ≡ Some (Listed (cond b left others))
cond-listed true left others held is = refl
cond-listed false left others held is = is

cond-ascends : (b : Bool) (left others : List Record) → NamesAscend left → NamesAscend others
    → NamesAscend (cond b left others)
cond-ascends true left others a o = a
cond-ascends false left others a o = o

has_some : (records : List Record) (name : Name) (link : Link) → entry_of name records ≡ Some link
    → 1 ≤ length records
has_some [] name link e = absurd cc
has_some (r ∷ records) name link e = omega arith

-- a tree in which a record stands has a path beside the root
pub some_names : (held : Holding) (tree : Tree) (names : ℕ) → StandsForTree held tree names
    → (path : Path) (directory : ℕ) (name : Name) (link : Link)
    → IsPlaceOf held path directory name (Some link)
    → (records : List Record) → IsDirectoryOf held directory records → 1 ≤ names
some_names held tree names stands path directory name link place records is =
    let few = records-few held tree directory records stands.means is.0 is.1 in
    let found : entry_of name records ≡ Some link =
    ap (λ (o : Option Held). record_in (option_map inode_content o) name) (sym is.0) ∙ place.named.has in
    let some = has_some records name link found in
    let count = stands.count in
    omega (arith, few, some, count)

-- ---- the tree that a rename leaves

module _ (old new : Current) (base : Holding) (tree : Tree) (over : StandsOver old base tree)
    (from to : Path) (directory : ℕ) (name : Name) (link : Link) (target_directory : ℕ) (target_name : Name)
    (spelled : IsTrue (is_name target_name)) (all others : List Record)
    (here : IsDirectoryOf (holding_over old.became base) directory all)
    (there : IsDirectoryOf (holding_over old.became base) target_directory others)
    (counts : CountsFree new base) where
  abbrev held : Holding
  held = holding_over old.became base

  abbrev moved_record : Record
  moved_record = record { name = target_name; inode = link.0; kind = link.1 }

  abbrev left : List Record
  left = cond (target_directory == directory) (without_record name all) others

  abbrev moved : Holding
  moved = with_link_moved directory all name target_directory others moved_record held

  holds_left : without_link directory all name held target_directory ≡ Some (Listed left)
  holds_left =
      cond-listed (target_directory == directory) (without_record name all) others
      (held target_directory) there.0

  left_ascends : NamesAscend left
  left_ascends =
      cond-ascends (target_directory == directory) (without_record name all) others
      (ascend-without name all here.1) there.1

  holds_moved : moved target_directory ≡ Some (Listed (with_record moved_record left))
  holds_moved =
      with_held-there target_directory target_directory (Some (Listed (with_record moved_record left)))
      (without_link directory all name held) (eq-eqb target_directory target_directory refl)

  -- as many as the new tree has paths
  few_records : (now : Holding) (after : Tree) (names : ℕ) → StandsForTree now after names → names ≤ 524277
      → now target_directory ≡ moved target_directory → length (with_record moved_record left) ≤ 524277
  few_records now after names stands low same =
      let few =
      records-few now after target_directory (with_record moved_record left) stands.means
      (same ∙ holds_moved) (ascend-with moved_record left left_ascends) in
      let count = stands.count in
      omega (arith, few, count, low)

  may_move : IsInodeNumber link.0 → length (with_record moved_record left) ≤ 524277 → IsHolding moved
  may_move number few =
      moved_link-may held over.sound directory all name target_directory left moved_record here.0 holds_left
      (spelled, number) few

  stands_over : (now : Holding) (names : ℕ) (after : Tree)
      → ((i : ℕ) → holding_over new.became base i ≡ now i) → new.names ≡ names → IsHolding now
      → StandsForTree now after names → names ≤ 524277
      → StandsOver new base after
  stands_over now names after same count sound stands low =
      let is : holding_over new.became base ≡ now = λ k. λ i. same i k in
      record {
        sound = subst IsHolding (sym is) sound;
        counts = counts;
        stands =
            subst (λ (n : ℕ). StandsForTree (holding_over new.became base) after n) (sym count)
            (subst (λ (h : Holding). StandsForTree h after names) (sym is) stands);
        few = subst (λ (n : ℕ). n ≤ 524277) (sym count) low;
      }

  module _ (target : Option Link)
      (move : IsMove held from to directory name link target_directory target_name target) where
    paths : rename tree from to
        ≡ rename tree (move.place.dir ++ name ∷ []) (move.target_place.dir ++ target_name ∷ [])
    paths = λ i. rename tree (move.place.is_path i) (move.target_place.is_path i)

    judged : judge_rename (inodes_of_holding held) (listing_of held)
        (move.place.dir ++ name ∷ []) move.target_place.dir target_name
        ≡ Ok true
    judged =
        ap (λ (p : Path).
        judge_rename (inodes_of_holding held) (listing_of held) p move.target_place.dir target_name)
        (sym move.place.is_path)
        ∙ move.judged

    number : IsInodeNumber link.0
    number = (link-ordinary held tree over.sound over.stands.means from directory name link move.place).number

    leads : (now : Holding) (names : ℕ) → ((i : ℕ) → holding_over new.became base i ≡ now i)
        → new.names ≡ names → names ≤ 524277
        → MakesTree (rename tree (move.place.dir ++ name ∷ []) (move.target_place.dir ++ target_name ∷ []))
        answer.Done now names
        → now target_directory ≡ moved target_directory → (IsHolding moved → IsHolding now)
        → LeavesTree (rename tree from to) answer.Done new base
    leads now names same count low made at may =
        let few = few_records now made.tree names made.stands low at in
        record {
          tree = made.tree;
          is = paths ∙ made.called_is;
          stands = stands_over now names made.tree same count (may (may_move number few)) made.stands low;
        }

  pub move-leads : IsMove held from to directory name link target_directory target_name None
      → ((i : ℕ) → holding_over new.became base i ≡ moved i) → new.names ≡ old.names
      → LeavesTree (rename tree from to) answer.Done new base
  move-leads move same count =
      leads None move moved old.names same count over.few
      (renamed_makes held tree old.names over.stands
      (listing_of held) move.place.dir name move.target_place.dir target_name directory target_directory
      link all left
      (listing_of-IsListing held over.sound)
      (judged None move) move.place.named move.target_place.named here.0 here.1 holds_left)
      refl (λ may. may)

  pub move_onto-leads : (target : Link)
      → IsMove held from to directory name link target_directory target_name (Some target)
      → ((i : ℕ) → holding_over new.became base i ≡ with_held target.0 None moved i)
      → new.names + 1 ≡ old.names
      → LeavesTree (rename tree from to) answer.Done new base
  move_onto-leads target move same count =
      let ordinary =
      link-ordinary held tree over.sound over.stands.means to target_directory target_name target
      move.target_place in
      let low = over.few in
      leads (Some target) move (with_held target.0 None moved) (old.names - 1) same (omega (arith, count))
      (omega (arith, low))
      (renamed_onto_makes held tree old.names over.stands
      (listing_of held) move.place.dir name move.target_place.dir target_name directory target_directory
      link target all left
      (listing_of-IsListing held over.sound)
      (judged (Some target) move) move.place.named move.target_place.named here.0 here.1 holds_left)
      (with_held-other target.0 target_directory None moved
      (ne_eqb target_directory target.0 (λ e. ordinary.other (sym e))))
      (λ may. with_held-may target.0 None moved may ordinary.number tt)

-- ---- as code meets them

-- where memory alone can refuse
pub calls-as : (result : Result (Unit {0}) VolError) (new : Current) (base : Holding) (called : Changed)
    {A B C : Type 0}
    → OnOk result A → OnOk result B → OnOk result C → IfErr result (λ e. e ≡ Memory)
    → (A → B → C → LeavesTree called answer.Done new base)
    → AnswersCall (λ _. answer.Done) result new base called
calls-as (Ok u) new base called a b c memory leads = leads a b c
calls-as (Err e) new base called a b c memory leads = λ other. absurd (other memory)

-- a result has one value
names-one : (r : Result Path VolError) (a b : Path) → r ≡ Ok a → r ≡ Ok b → a ≡ b
names-one r a b p q = cc

pub has-renamed : (from to : List ℕ) (names target_names : Path) (old new : Holding) (directory : ℕ)
    (name : Name) (link : Link) (target_directory : ℕ) (target_name : Name) (target : Option Link)
    (all others : List Record)
    → path_of from ≡ Ok names → path_of to ≡ Ok target_names
    → IsMove old names target_names directory name link target_directory target_name target
    → IsDirectoryOf old directory all → IsDirectoryOf old target_directory others
    → ((i : ℕ)
    → new i
    ≡ without_replaced target
    (with_link_moved directory all name target_directory others
    (record { name = target_name; inode = link.0; kind = link.1 }) old)
    i)
    → HasRenamed from to old new
has-renamed from to names target_names old new directory name link target_directory target_name target all
    others is_from is_to move here there moved =
    inr (record {
      differ = λ same.
          move.differ (names-one (path_of to) names target_names (sym (ap path_of same) ∙ is_from) is_to);
      names = names;
      target_names = target_names;
      is_from = is_from;
      is_to = is_to;
      directory = directory;
      target_directory = target_directory;
      name = name;
      target_name = target_name;
      link = link;
      target = target;
      place = move.place;
      target_place = move.target_place;
      records = all;
      others = others;
      here = here.0;
      there = there.0;
      moved = moved;
    })
