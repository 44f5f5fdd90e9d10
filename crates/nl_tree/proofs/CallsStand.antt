-- What calls by paths leave stands for the tree that they lead to.
use Rattle.std.proofs.Common.{◌≡◌, ◌==◌, ℕ, false, ◌+◌, ◌-◌, ◌≤◌, List, length, inr, Option, Some, None, refl, sym, ap, subst, ◌∙◌, arith}
use Rattle.std.specs.Prelude.{IfErr, IsTrue, OnOk, Result, Ok, Err}
use Rattle.std.proofs.lemmas.Bool.{eq-eqb, ne_eqb}
use Rattle.nl_types.specs.declared.error.VolError.{VolError}
use Rattle.nl_types.specs.declared.error.VolError.TheVariants.{Memory}
use Rattle.nl_types.specs.declared.kind.Kind.{Kind}
use Rattle.nl_types.specs.declared.kind.Kind.TheVariants as kind
use Rattle.nl_types.specs.declared.reply.Answer.{Answer}
use Rattle.nl_types.specs.declared.reply.Answer.TheVariants as answer
use Rattle.nl_types.specs.Plain.Paths.{Name, Path, is_name, path_of}
use Rattle.nl_types.specs.Plain.Trees.{Tree}
use Rattle.nl_types.specs.Plain.Calls.{Changed, and_then, create, rmdir, unlink}
use Rattle.nl_types.specs.Inodes.{Link}
use Rattle.nl_dirs.specs.declared.record.Record.{Record}
use Rattle.nl_tree.specs.Became.{Current, holding_over}
use Rattle.nl_tree.specs.CurrentTrees.{AnswersCall, HasRemoved, LeavesTree, StandsOver}
use Rattle.nl_tree.specs.Held.{Held, Holding, IsHolding, Listed, held_count, new_held, new_object}
use Rattle.nl_tree.specs.Naming.{IsPlaceOf, listing_of}
use Rattle.nl_tree.specs.Numbers.{CountsFree}
use Rattle.nl_tree.specs.Private.PathParts.{parts_of, path_behind}
use Rattle.nl_tree.specs.Records.{with_record}
use Rattle.nl_tree.specs.Steps.{IsCreated, with_link, with_new_inode, without_inode}
use Rattle.nl_tree.specs.TreeMeaning.{MakesTree, StandsForTree}
use Rattle.nl_tree.proofs.CallsJudged.{has_none, judged-free}
use Rattle.nl_tree.proofs.CallsLead.{created_makes, rmdired_makes, unlinked_makes}
use Rattle.nl_tree.specs.Facts.HeldContents.{listing_of-IsListing}
use Rattle.nl_tree.proofs.HeldListings.{records-few}
use Rattle.nl_tree.proofs.HoldingSteps.{new_inode-may, without_inode-may}
use Rattle.nl_tree.proofs.InodeSteps.{with_held-other, with_held-there}
use Rattle.nl_tree.proofs.PlacesFound.{at-parts, record-number, spells-parts}
use Rattle.nl_tree.proofs.RecordSteps.{ascend-with}

-- the current tree holds what was made
leads-as : (called : Changed) (given : Answer) (made : Holding) (names : ℕ) (new : Current) (base : Holding)
    → MakesTree called given made names → IsHolding made
    → holding_over new.became base ≡ made → new.names ≡ names → CountsFree new base → new.names ≤ 524277
    → LeavesTree called given new base
leads-as called given made names new base makes sound same count counts few = record {
  tree = makes.tree;
  is = makes.called_is;
  stands = record {
    sound = subst IsHolding (sym same) sound;
    counts = counts;
    stands =
        subst (λ (h : Holding). StandsForTree h makes.tree new.names) (sym same)
        (subst (λ (n : ℕ). StandsForTree made makes.tree n) (sym count) makes.stands);
    few = few;
  };
}

-- what is led to by the names is led to by the path
pub leads-at : (ask : Path → Changed) (bytes names : List ℕ) (given : Answer) (new : Current) (base : Holding)
    → path_of bytes ≡ Ok (path_behind names) → false ≡ (length names == 0)
    → LeavesTree (ask (parts_of names)) given new base
    → LeavesTree (and_then (path_of bytes) ask) given new base
leads-at ask bytes names given new base spells some leads =
    record { tree = leads.tree; is = at-parts ask bytes names spells some ∙ leads.is; stands = leads.stands }

module _ (old : Current) (base : Holding) (tree : Tree) (is : StandsOver old base tree) where
  abbrev held : Holding
  held = holding_over old.became base

  -- the directory with the new record
  with_new-there : (k : Kind) (directory : ℕ) (name : Name) (records : List Record) (inode : ℕ)
      → held directory ≡ Some (Listed records) → held inode ≡ None
      → with_new_inode directory records name k inode held directory
      ≡ Some (Listed (with_record (record { name = name; inode = inode; kind = k }) records))
  with_new-there k directory name records inode here free =
      with_held-other inode directory (Some (new_held k))
      (with_link directory records (record { name = name; inode = inode; kind = k }) held)
      (ne_eqb directory inode differ)
      ∙ with_held-there directory directory
      (Some (Listed (with_record (record { name = name; inode = inode; kind = k }) records))) held
      (eq-eqb directory directory refl)
    where
      differ : directory ≡ inode → ⊥
      differ e =
          let clash : ◌≡◌ {A = Option Held} (Some (Listed records)) None = sym here ∙ (ap held e ∙ free) in
          absurd cc

  pub created-leads : (k : Kind) (path : Path) (directory : ℕ) (name : Name) (records : List Record)
      (inode : ℕ) (new : Current)
      → IsPlaceOf held path directory name None → IsTrue (is_name name)
      → held directory ≡ Some (Listed records)
      → IsCreated held (holding_over new.became base) directory records name k inode → CountsFree new base
      → new.names ≡ old.names + 1 → new.names ≤ 524277
      → LeavesTree (create tree (new_object k) path) answer.Done new base
  created-leads k path directory name records inode new place named here created counts count few =
      let r : Record = record { name = name; inode = inode; kind = k } in
      let made : Holding = with_new_inode directory records name k inode held in
      let room : length tree ≤ 524277 = omega (arith, is.stands.count, count, few) in
      let makes : MakesTree (create tree (new_object k) path) answer.Done made (old.names + 1) =
      subst (λ (p : Path). MakesTree (create tree (new_object k) p) answer.Done made (old.names + 1))
      (sym place.is_path)
      (created_makes held tree old.names is.stands k place.dir name directory inode records
      (judged-free held tree is.stands.means path directory name place room) here created.lowest.free) in
      let fewer : length (with_record r records) + 1 ≤ length makes.tree =
      records-few made makes.tree directory (with_record r records) makes.stands.means
      (with_new-there k directory name records inode here created.lowest.free)
      (ascend-with r records (is.sound.each directory (Listed records) here).ascending) in
      let fits : length (with_record r records) ≤ 524277 =
      omega (arith, fewer, makes.stands.count, count, few) in
      leads-as (create tree (new_object k) path) answer.Done made (old.names + 1) new base makes
      (new_inode-may held is.sound directory records r here
      (named, inr (created.lowest.first, created.lowest.last)) fits)
      (λ j. λ i. created.adds i j) count counts few

  -- an inode is gone, with its record
  removed-leads : (called : Changed) (path : Path) (directory : ℕ) (name : Name) (link : Link)
      (records : List Record) (new : Current)
      → IsPlaceOf held path directory name (Some link)
      → held directory ≡ Some (Listed records)
      → MakesTree called answer.Done (without_inode directory records name link.0 held) (old.names - 1)
      → ((i : ℕ) → holding_over new.became base i ≡ without_inode directory records name link.0 held i)
      → CountsFree new base → new.names + 1 ≡ old.names
      → LeavesTree called answer.Done new base
  removed-leads called path directory name link records new place here makes removed counts count =
      leads-as called answer.Done (without_inode directory records name link.0 held)
      (old.names - 1) new base makes
      (without_inode-may held is.sound directory records name link.0 here
      (record-number held tree is.sound is.stands.means path directory name link place records here))
      (λ j. λ i. removed i j) (omega (arith, count)) counts (omega (arith, count, is.few))

  pub unlinked-leads : (path : Path) (directory : ℕ) (name : Name) (inode : ℕ) (records : List Record)
      (new : Current)
      → IsPlaceOf held path directory name (Some (inode, kind.File))
      → held directory ≡ Some (Listed records)
      → ((i : ℕ) → holding_over new.became base i ≡ without_inode directory records name inode held i)
      → CountsFree new base → new.names + 1 ≡ old.names
      → LeavesTree (unlink tree path) answer.Done new base
  unlinked-leads path directory name inode records new place here removed counts count =
      removed-leads (unlink tree path) path directory name (inode, kind.File) records new place here
      (subst (λ (p : Path).
      MakesTree (unlink tree p) answer.Done (without_inode directory records name inode held)
      (old.names - 1))
      (sym place.is_path)
      (unlinked_makes held tree old.names is.stands place.dir name directory inode records place.named here
      (is.sound.each directory (Listed records) here).ascending))
      removed counts count

  pub rmdired-leads : (path : Path) (directory : ℕ) (name : Name) (inode : ℕ) (records : List Record)
      (new : Current)
      → IsPlaceOf held path directory name (Some (inode, kind.Directory))
      → held_count (held inode) ≤ 0 → held directory ≡ Some (Listed records)
      → ((i : ℕ) → holding_over new.became base i ≡ without_inode directory records name inode held i)
      → CountsFree new base → new.names + 1 ≡ old.names
      → LeavesTree (rmdir tree path) answer.Done new base
  rmdired-leads path directory name inode records new place empty here removed counts count =
      removed-leads (rmdir tree path) path directory name (inode, kind.Directory) records new place here
      (subst (λ (p : Path).
      MakesTree (rmdir tree p) answer.Done (without_inode directory records name inode held)
      (old.names - 1))
      (sym place.is_path)
      (rmdired_makes held tree old.names is.stands (listing_of held) place.dir name directory inode records
      (listing_of-IsListing held is.sound) place.named (has_none held inode empty) here
      (is.sound.each directory (Listed records) here).ascending))
      removed counts count

  -- what memory may refuse
  removed-calls : (result : Result (Unit {0}) VolError) (new : Current) (called : Changed) (made : Holding)
      → OnOk result ((i : ℕ) → holding_over new.became base i ≡ made i) → OnOk result (CountsFree new base)
      → OnOk result (new.names + 1 ≡ old.names)
      → IfErr result (λ e. e ≡ Memory)
      → (((i : ℕ) → holding_over new.became base i ≡ made i) → CountsFree new base → new.names + 1 ≡ old.names
      → LeavesTree called answer.Done new base)
      → AnswersCall (λ _. answer.Done) result new base called
  removed-calls (Ok u) new called made removed counts count memory leads = leads removed counts count
  removed-calls (Err e) new called made removed counts count memory leads = λ other. absurd (other memory)

  module _ (bytes names : List ℕ) (spells : path_of bytes ≡ Ok (path_behind names))
      (some : false ≡ (length names == 0)) where
    pub unlinked-calls : (directory : ℕ) (name : Name) (inode : ℕ) (records : List Record)
        (result : Result (Unit {0}) VolError) (new : Current)
        → IsPlaceOf held (parts_of names) directory name (Some (inode, kind.File))
        → held directory ≡ Some (Listed records)
        → OnOk result
        ((i : ℕ) → holding_over new.became base i ≡ without_inode directory records name inode held i)
        → OnOk result (CountsFree new base) → OnOk result (new.names + 1 ≡ old.names)
        → IfErr result (λ e. e ≡ Memory)
        → AnswersCall (λ _. answer.Done) result new base (and_then (path_of bytes) (unlink tree))
    unlinked-calls directory name inode records result new place here removed counts count memory =
        removed-calls result new (and_then (path_of bytes) (unlink tree))
        (without_inode directory records name inode held) removed counts count memory
        (λ gone now less. leads-at (unlink tree) bytes names answer.Done new base spells some
        (unlinked-leads (parts_of names) directory name inode records new place here gone now less))

    pub rmdired-calls : (directory : ℕ) (name : Name) (inode : ℕ) (records : List Record)
        (result : Result (Unit {0}) VolError) (new : Current)
        → IsPlaceOf held (parts_of names) directory name (Some (inode, kind.Directory))
        → held_count (held inode) ≤ 0 → held directory ≡ Some (Listed records)
        → OnOk result
        ((i : ℕ) → holding_over new.became base i ≡ without_inode directory records name inode held i)
        → OnOk result (CountsFree new base) → OnOk result (new.names + 1 ≡ old.names)
        → IfErr result (λ e. e ≡ Memory)
        → AnswersCall (λ _. answer.Done) result new base (and_then (path_of bytes) (rmdir tree))
    rmdired-calls directory name inode records result new place bare here removed counts count memory =
        removed-calls result new (and_then (path_of bytes) (rmdir tree))
        (without_inode directory records name inode held) removed counts count memory
        (λ gone now less. leads-at (rmdir tree) bytes names answer.Done new base spells some
        (rmdired-leads (parts_of names) directory name inode records new place bare here gone now less))

    pub removed-changes : (k : Kind) (directory : ℕ) (name : Name) (inode : ℕ) (records : List Record)
        (result : Result (Unit {0}) VolError) (new : Current)
        → IsPlaceOf held (parts_of names) directory name (Some (inode, k))
        → held directory ≡ Some (Listed records)
        → OnOk result
        ((i : ℕ) → holding_over new.became base i ≡ without_inode directory records name inode held i)
        → OnOk result (HasRemoved bytes k held (holding_over new.became base))
    removed-changes k directory name inode records (Err e) new place here removed = removed
    removed-changes k directory name inode records (Ok u) new place here removed = record {
      names = parts_of names;
      is_path = spells-parts bytes names spells some;
      directory = directory;
      name = name;
      inode = inode;
      place = place;
      records = records;
      here = here;
      removed = removed;
    }
