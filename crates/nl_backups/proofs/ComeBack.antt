-- What is kept over many commands.
use Rattle.std.proofs.Common.{◌≡◌, ℕ, List, [], ◌∷◌, refl, sym, ap, ◌∙◌, subst, max}
use Rattle.std.proofs.lemmas.Option.{same_Some}
use Rattle.nl_types.specs.Plain.Trees.{Tree, IsTree}
use Rattle.nl_types.specs.Plain.Worlds.{World, Copy, latest_stamp}
use Rattle.nl_image.specs.Parts.{with_present_mark}
use Rattle.nl_shown.specs.Kept.{KeptFoldersAreShown, ShowsFolder}
use Rattle.nl_keep.specs.Facts.StoredTrees.{stored_is_kept}
use Rattle.nl_keep.specs.Stored.{StoresTree, snapshot_of}
use Rattle.nl_keep_pen.specs.Images.{ImageMeans, ReadsFromImage}
use Rattle.nl_keep_pen.specs.Runs.{BackupsKeepThrough, ForgetsKeepThrough, ImagesHaveThePresentMark, IsStillKept, KeepsThrough}
use Rattle.nl_backups.specs.Effects.{AllSpare, Effect, EffectsKeepCheckpoints, FoldersComeBack, HaveAll, KeepsOn, Leaves, Removes, Stores}
use Rattle.nl_backups.specs.Hosts.{Image}

-- an image that means a world does so under the present mark
pub marked_too : ImagesHaveThePresentMark → (image : Image) (w : World) → ImageMeans image w
    → ImageMeans (with_present_mark image) w
marked_too marked image w from =
    subst (λ (bytes : Image). ImageMeans bytes w) (sym (marked image w from)) from

run_keeps : ImagesHaveThePresentMark → (n : ℕ) (old new : Image) (w : World) → ImageMeans old w
    → KeepsThrough n old new → KeepsOn n w new
run_keeps marked n old new w from run =
    let d = run w (marked_too marked old w from) in
    record { after = d.0; keeps = d.1; means = d.2 }

pub effects_keep : ImagesHaveThePresentMark → BackupsKeepThrough → ForgetsKeepThrough → EffectsKeepCheckpoints
effects_keep marked backups forgets (Stores moment k tree) n old new w from has spares =
    run_keeps marked n old new w from (backups moment k n tree old new has)
effects_keep marked backups forgets (Removes moment numbers) n old new w from has spares =
    run_keeps marked n old new w from (forgets moment n numbers old new has spares)
effects_keep marked backups forgets Leaves n old new w from has spares = record {
  after = w;
  keeps = λ tree here. here;
  means = subst (λ (bytes : Image). ImageMeans bytes w) (sym has) from;
}

-- the tree of checkpoint n, in a world that the last image means
record ComesThrough (n : ℕ) (tree : Tree) (last : Image) : Type 0 where
  world : World
  here : IsStillKept n tree world
  means : ImageMeans last world

come_through : EffectsKeepCheckpoints → (n : ℕ) (tree : Tree) (effects : List Effect) (image last : Image)
    (w : World) → ImageMeans image w → IsStillKept n tree w → HaveAll effects image last → AllSpare n effects
    → ComesThrough n tree last
come_through keep n tree [] image last w from here all spare = record {
  world = w;
  here = here;
  means = subst (λ (bytes : Image). ImageMeans bytes w) (sym all) from;
}
come_through keep n tree (effect ∷ effects) image last w from here all spare =
    let on = keep effect n image all.0 w from all.1 spare.0 in
    come_through keep n tree effects all.0 last on.after on.means (on.keeps tree here) all.2 spare.1

-- what is read of it is that tree
read_again : ImagesHaveThePresentMark → (n : ℕ) (tree read : Tree) (last : Image) → ComesThrough n tree last
    → ReadsFromImage n read last → read ≡ tree
read_again marked n tree read last come reads =
    let found = reads come.world (marked_too marked last come.world come.means) in
    let one : found.copy ≡ come.here.copy =
    same_Some found.copy come.here.copy (sym found.kept ∙ come.here.kept) in
    sym found.has ∙ ap (λ (c : Copy). c.tree) one ∙ come.here.has

pub folders_come_back : ImagesHaveThePresentMark → EffectsKeepCheckpoints → KeptFoldersAreShown
    → FoldersComeBack
folders_come_back marked keep shown moment folder laid told old first last effects w from stores all spare
    shows =
    let d = stores.stored.stores w from in
    let n = told.stored.number in
    let stored : StoresTree moment n told.tree d.3.ready d.1 = d.3.stores in
    let here : IsStillKept n told.tree d.1 = record {
      copy = snapshot_of told.tree (max moment (latest_stamp d.3.ready));
      kept = stored_is_kept moment n told.tree d.3.ready d.1 stored;
      has = refl;
      own = refl;
    } in
    let come = come_through keep n told.tree effects first last d.1 d.4 here all spare in
    let same : shows.tree ≡ told.tree = read_again marked n told.tree shows.tree last come shows.reads in
    shown stores.pins folder laid told.tree stores.keeps
    (subst (λ (t : Tree). ShowsFolder t laid) same
    (shows.shows come.world (marked_too marked last come.world come.means)))

-- a tree that is read of an image is one, where the image means a world
pub is_tree : (n : ℕ) (tree : Tree) (image : Image) (w : World) → ReadsFromImage n tree image
    → ImageMeans (with_present_mark image) w → IsTree tree
is_tree n tree image w reads from =
    let found = reads w from in
    subst (λ (t : Tree). IsTree t) found.has (from.means.world.trees n found.copy found.kept)
