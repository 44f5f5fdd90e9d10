-- A pen means one world at most.
use Rattle.std.proofs.Common.{◌≡◌, ℕ, List, [], ◌∷◌, sym, ap, ◌∙◌, refl, subst}
use Rattle.std.specs.List.{AllZip}
use Rattle.nl_types.specs.Blocks.Roots.{Pages}
use Rattle.nl_types.specs.Plain.Trees.{Tree}
use Rattle.nl_types.specs.Inodes.{MeansTree}
use Rattle.nl_types.specs.Plain.Worlds.{Copy}
use Rattle.nl_types.specs.Facts.Inodes.Means.{inodes_mean_one_tree}
use Rattle.nl_layout.specs.Root.{root_of}
use Rattle.nl_layout.specs.declared.root.Root.{Root}
use Rattle.nl_tree.specs.Became.{Current, holding_over}
use Rattle.nl_tree.specs.Held.{Holding, inodes_of_holding}
use Rattle.nl_files.specs.Facts.Holdings.{roots-hold_one}
use Rattle.nl_commit.specs.Laws.{MeansOneWorld}
use Rattle.nl_commit.specs.Means.{CopyMeans, CurrentMeans, RootMeans}
use Rattle.nl_cpfile.specs.Tables.{checkpoint_root}
use Rattle.nl_commit.specs.Volume.{kept_by, latest_root}
use Rattle.nl_cpfile.specs.declared.checkpoint.Checkpoint.{Checkpoint}

-- what is held stands for one tree
tree-one : (a b : Holding) (tree other : Tree) → a ≡ b → MeansTree (inodes_of_holding a) tree
    → MeansTree (inodes_of_holding b) other → tree ≡ other
tree-one a b tree other same m n =
    inodes_mean_one_tree (inodes_of_holding b) tree other
    (subst (λ (h : Holding). MeansTree (inodes_of_holding h) tree) same m) n

-- a root stands for one tree
pub root-one : (pages : Pages) (root : Root) (tree other : Tree) → RootMeans pages root tree
    → RootMeans pages root other → tree ≡ other
root-one pages root tree other m n =
    tree-one m.held n.held tree other
    (roots-hold_one pages (root_of root) m.held n.held m.holds.stores n.holds.stores)
    m.means.means n.means.means

-- and so does a current tree over it
current-one : (pages : Pages) (root : Root) (current : Current) (tree other : Tree)
    → CurrentMeans pages root current tree → CurrentMeans pages root current other → tree ≡ other
current-one pages root current tree other m n =
    tree-one (holding_over current.became m.base) (holding_over current.became n.base) tree other
    (ap (holding_over current.became)
    (roots-hold_one pages (root_of root) m.base n.base m.holds.stores n.holds.stores))
    m.stands.stands.means n.stands.stands.means

-- a checkpoint has one copy
copy-one : (pages : Pages) (c : Checkpoint) (copy other : ℕ × Copy) → CopyMeans pages c copy
    → CopyMeans pages c other → copy ≡ other
copy-one pages c copy other m n =
    let number = m.number ∙ sym n.number in
    let tree = root-one pages (checkpoint_root c) copy.1.tree other.1.tree m.tree n.tree in
    let mode = m.mode ∙ sym n.mode in
    let minor = m.minor ∙ sym n.minor in
    let stamp = m.stamp ∙ sym n.stamp in
    λ i. (number i, record { tree = tree i; mode = mode i; minor = minor i; stamp = stamp i })

-- and a list of them one list of copies
pub copies-one : (pages : Pages) (kept : List Checkpoint) (copies others : List (ℕ × Copy))
    → AllZip (CopyMeans pages) kept copies → AllZip (CopyMeans pages) kept others → copies ≡ others
copies-one pages [] [] [] m n = refl
copies-one pages [] (x ∷ xs) others m n = absurd m
copies-one pages [] [] (y ∷ ys) m n = absurd n
copies-one pages (c ∷ kept) [] others m n = absurd m
copies-one pages (c ∷ kept) (x ∷ xs) [] m n = absurd n
copies-one pages (c ∷ kept) (x ∷ xs) (y ∷ ys) m n =
    let first = copy-one pages c x y m.0 n.0 in
    let rest = copies-one pages kept xs ys m.1 n.1 in
    λ i. first i ∷ rest i

pub means_one : MeansOneWorld
means_one pages l w other m n =
    let tree = current-one pages (latest_root l) l.current w.tree other.tree m.tree n.tree in
    let dirty = m.dirty ∙ sym n.dirty in
    let copies = copies-one pages (kept_by l) w.copies other.copies m.copies n.copies in
    let mounts = m.mounts ∙ sym n.mounts in
    let given = m.given ∙ sym n.given in
    λ i. record { tree = tree i; dirty = dirty i; copies = copies i; mounts = mounts i; given = given i }
