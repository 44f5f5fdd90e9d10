-- Inodes settled one after another.
use Rattle.std.proofs.Common.{◌≡◌, ℕ, List, [], ◌∷◌, ◌++◌, Option, refl, ap, sym, subst, ◌∙◌, append_assoc}
use Rattle.std.specs.Prelude.{map}
use Rattle.std.proofs.lemmas.List.{append-nil, map-append}
use Rattle.nl_types.specs.Blocks.Entries.{Birth, Content}
use Rattle.nl_types.specs.Blocks.Roots.{Root}
use Rattle.nl_vstore.specs.Batches.{Changes}
use Rattle.nl_layout.specs.declared.inode.Inode.{Inode}
use Rattle.nl_blocktree.specs.Checkpoints.{ArePut, FileChange, batch_after}
use Rattle.nl_blocktree.specs.Putting.{PutsAll}
use Rattle.nl_ifile.specs.declared.change.InodeChange.{InodeChange}
use Rattle.nl_tree.specs.Became.{Became, over_became}
use Rattle.nl_tree.specs.Held.{Holding}
use Rattle.nl_tree.specs.Facts.Rising.{push-moves}
use Rattle.nl_files.specs.Settles.{AreSettlements, IsInodeSettled, IsSettlement, Settlement, SettlesInode, Settling, settled_became, settled_files, settled_inode}

-- ---- one more file

pub batch_after-push : (files : List FileChange) (file : FileChange) (before : Changes)
    → batch_after (files ++ file ∷ []) before ≡ file.batch
batch_after-push [] file before = refl
batch_after-push (f ∷ files) file before = batch_after-push files file f.batch

pub ArePut-push : (content : Content) (roots : ℕ → Root) (before : Changes) (files : List FileChange)
    (file : FileChange)
    → ArePut content roots before files →
    PutsAll content file.inode (roots file.inode) file.root file.changes (batch_after files before) file.batch
    → ArePut content roots before (files ++ file ∷ [])
ArePut-push content roots before [] file put p = (p, tt)
ArePut-push content roots before (f ∷ files) file put p =
    (put.0, ArePut-push content roots f.batch files file put.1 p)

-- births are only added
pub births-added : (content : Content) (roots : ℕ → Root) (before : Changes) (files : List FileChange)
    → ArePut content roots before files
    → (more : List Birth) × ((batch_after files before).births ≡ before.births ++ more)
births-added content roots before [] put = ([], sym (append-nil before.births))
births-added content roots before (f ∷ files) put =
    let rest = births-added content roots f.batch files put.1 in (
      put.0.births ++ rest.0,
      rest.1
          ∙ (ap (λ (bs : List Birth). bs ++ rest.0) put.0.births_are
          ∙ append_assoc before.births put.0.births rest.0),
    )

-- ---- one more step

steps-push : (content : Content) (roots : ℕ → Root) (base : Holding) (before : Changes)
    (steps : List Settlement) (s : Settlement)
    → AreSettlements content roots base before steps →
    IsSettlement content roots base (batch_after (settled_files steps) before) s
    → AreSettlements content roots base before (steps ++ s ∷ [])
steps-push content roots base before [] s are is = (is, tt)
steps-push content roots base before (x ∷ steps) s are is =
    (are.0, steps-push content roots base x.file.batch steps s are.1 is)

steps-batch : (steps : List Settlement) (s : Settlement) (before : Changes)
    → batch_after (settled_files (steps ++ s ∷ [])) before ≡ s.file.batch
steps-batch [] s before = refl
steps-batch (x ∷ steps) s before = steps-batch steps s x.file.batch

pub steps-put : (content : Content) (roots : ℕ → Root) (base : Holding) (before : Changes)
    (steps : List Settlement)
    → AreSettlements content roots base before steps → ArePut content roots before (settled_files steps)
steps-put content roots base before [] are = tt
steps-put content roots base before (s ∷ steps) are =
    (are.0.put, steps-put content roots base s.file.batch steps are.1)

-- before the first
pub settling-none : (content : Content) (roots : ℕ → Root) (base : Holding) (before : Changes)
    (all : List (ℕ × Became))
    → Settling content roots base before before [] all all
settling-none content roots base before all =
    record { steps = []; are = tt; now_is = refl; inodes_are = refl; all_are = refl }

-- an inode is settled, and its change pushed
pub settling-push : (content : Content) (roots : ℕ → Root) (base : Holding) (before now later : Changes)
    (inodes : List InodeChange) (i : ℕ) (new : Option Inode) (change : Became) (left all : List (ℕ × Became))
    →
    Settling content roots base before now inodes ((i, change) ∷ left) all
    → IsInodeSettled content i (roots i) new (over_became change (base i)) now later →
    Settling content roots base before later (inodes ++ record { number = i; inode = new } ∷ []) left all
settling-push content roots base before now later inodes i new change left all h is = record {
  steps = h.steps ++ s ∷ [];
  are =
      steps-push content roots base before h.steps s h.are
      (subst (λ (b : Changes).
      SettlesInode content i (roots i) is.root is.changes new (over_became change (base i)) b later)
      h.now_is is.settled);
  now_is = sym (steps-batch h.steps s before);
  inodes_are =
      ap (λ (xs : List InodeChange). xs ++ record { number = i; inode = new } ∷ []) h.inodes_are
      ∙ sym (map-append settled_inode h.steps (s ∷ []));
  all_are =
      push-moves (map settled_became h.steps) (map settled_became (h.steps ++ s ∷ [])) (i, change) left _
      (map-append settled_became h.steps (s ∷ [])) refl
      ∙ h.all_are;
}
  where
    s : Settlement
    s = record {
      file = record { inode = i; changes = is.changes; root = is.root; batch = later };
      inode = new;
      became = change;
    }
