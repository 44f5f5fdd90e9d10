-- The ledger of what a pen holds, and its latest checkpoint.
use Rattle.std.proofs.Common.{◌≡◌, ℕ, suc, ◌+◌, List, [], ◌∷◌, Option, Some, None, refl, ap, sym, subst, ◌∙◌, arith, inl, inr}
use Rattle.std.specs.Prelude.{All, map}
use Rattle.std.specs.Option.{option_map, unwrap_or}
use Rattle.std.specs.Ordering.{nat_cmp, eq_by_cmp}
use Rattle.std.specs.FinMap.{find}
use Rattle.std.proofs.lemmas.Bool.{cases_Bool}
use Rattle.nl_types.specs.Blocks.Lifetimes.{EndsOnce, KeepsCovered, Ledger, numbers_at}
use Rattle.nl_types.specs.Plain.Trees.{Tree}
use Rattle.nl_layout.specs.Root.{root_of}
use Rattle.nl_vstore.specs.Stores.{content_in}
use Rattle.nl_tree.specs.Became.{holding_over}
use Rattle.nl_tree.specs.Held.{Holding}
use Rattle.nl_files.specs.CheckpointRoots.{IsTreeSound, Stores}
use Rattle.nl_files.specs.Laws.{IsLatest}
use Rattle.nl_files.specs.TreeLaws.{StandsOverLatest}
use Rattle.nl_files.specs.Facts.TreeLaws.{trees-can_be_settled}
use Rattle.nl_commit.specs.Draft.{CanBeDrafted, HasFewNames}
use Rattle.nl_commit.specs.Layout.{IsPen, IsSoundPen, KeepsNumbers, Layout, ledger_of, layout_pages, reached_by}
use Rattle.nl_commit.specs.Means.{CurrentMeans}
use Rattle.nl_cpfile.specs.Tables.{by_number, checkpoint_root}
use Rattle.nl_commit.specs.Volume.{kept_by, latest_root}
use Rattle.nl_cpfile.specs.declared.checkpoint.Checkpoint.{Checkpoint}

-- ---- the same ledger

-- what is in use stays for a ledger that does not change
pub same-numbers : (old new : Layout) → ledger_of new ≡ ledger_of old → KeepsNumbers old new
same-numbers old new same = record {
  covered = subst (KeepsCovered (ledger_of old)) (sym same) (kept (ledger_of old)).0;
  ends = subst (EndsOnce (ledger_of old)) (sym same) (kept (ledger_of old)).1;
}
  where
    kept : (l : Ledger) → KeepsCovered l l × EndsOnce l l
    kept l = (
      λ c before now v e kept_before kept_now in_use cover. record {
        entry = e;
        in_use = in_use;
        place = refl;
        page = refl;
        start = refl;
        covering = cover;
      },
      λ v e f is_e is_f. let same = sym is_f ∙ is_e in inl cc,
    )

-- ---- kept checkpoints

-- what is found under a number is one of them
pub found-all : (P : Checkpoint → Type 0) (n : ℕ) (kept : List Checkpoint) (c : Checkpoint) → All P kept
    → find nat_cmp n (map by_number kept) ≡ Some c → P c
found-all P n [] c all e = cc
found-all P n (k ∷ kept) c all e = elim (cases_Bool (eq_by_cmp nat_cmp n k.number)) [
  | inl t ↦
      let is : Some k ≡ Some c = sym (rw t refl) ∙ e in
      let it : k ≡ c = cc in
      subst P it (all 0 k (omega arith))
  | inr t ↦ found-all P n kept c (λ i d l. all (suc i) d (omega (arith, l))) (sym (rw t refl) ∙ e)
]

module _ (l : Layout) (sound : IsSoundPen l) where
  -- no checkpoint is kept under the next number
  pub none-next : find nat_cmp (l.lists.table.latest.number + 1) (map by_number (kept_by l.lists)) ≡ None
  none-next = go (find nat_cmp (l.lists.table.latest.number + 1) (map by_number (kept_by l.lists))) refl
    where
      go : (o : Option Checkpoint)
          → find nat_cmp (l.lists.table.latest.number + 1) (map by_number (kept_by l.lists)) ≡ o
          → find nat_cmp (l.lists.table.latest.number + 1) (map by_number (kept_by l.lists)) ≡ None
      go None is = is
      go (Some c) is =
          let low = sound.ledger.below (l.lists.table.latest.number + 1) (reached_by (layout_pages l) c)
          (ap (option_map (reached_by (layout_pages l))) is) in
          absurd (omega (arith, low))

  -- ---- the latest checkpoint

  -- it reaches the places of its files
  latest-numbers : numbers_at (ledger_of l) l.lists.table.latest.number
      ≡ reached_by (layout_pages l) l.lists.table.latest
  latest-numbers =
      ap (λ (o : Option Checkpoint). unwrap_or (option_map (reached_by (layout_pages l)) o) (λ _. None))
      sound.latest

  -- what it holds is what the latest checkpoint of the ledger holds
  pub is-latest : (base : Holding) → Stores (layout_pages l) (root_of (latest_root l.lists)) base
      → IsLatest (ledger_of l) (root_of (latest_root l.lists)) base
  is-latest base stores = record {
    numbers = latest-numbers;
    sound =
        found-all (λ (c : Checkpoint). IsTreeSound (layout_pages l) (root_of (checkpoint_root c)))
        l.lists.table.latest.number
        (kept_by l.lists) l.lists.table.latest sound.trees_sound sound.latest;
    stores = stores;
  }

  -- a current tree over it stands over the latest checkpoint of the ledger
  pub stands-latest : (tree : Tree)
      (means : CurrentMeans (layout_pages l) (latest_root l.lists) l.lists.current tree)
      → StandsOverLatest (ledger_of l) (root_of (latest_root l.lists)) l.lists.current means.base tree
  stands-latest tree means = record {
    is_ledger = sound.ledger;
    latest = is-latest means.base means.holds.stores;
    base_sound = means.holds.sound;
    stands = means.stands;
  }

-- the paths of a pen's current tree can be counted
pub has_few-names : (l : Layout) → IsPen l → HasFewNames l.lists
has_few-names l pen = pen.world.1.tree.stands.few

-- the next checkpoint of a pen can be drafted
pub can_be-drafted : (l : Layout) → IsPen l → CanBeDrafted (content_in l.store) l.lists
can_be-drafted l pen =
    let means = pen.world.1.tree in
    let tree = pen.world.0.tree in
    let can =
    trees-can_be_settled (ledger_of l) (root_of (latest_root l.lists)) l.lists.current means.base tree
    (stands-latest l pen.sound tree means) in
    (can.checkpoint, means.base, holding_over l.lists.current.became means.base, can.current)
