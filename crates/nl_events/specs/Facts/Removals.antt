-- What the removal of checkpoints leaves of a pen.
use Rattle.std.proofs.Common.{◌≡◌, ℕ, Bool, true, false, eqb, List, [], ◌∷◌, Option, refl, ap, sym, subst, ◌∙◌, inl}
use Rattle.std.specs.Prelude.{All, map, ◌||◌}
use Rattle.std.specs.Option.{option_map}
use Rattle.std.proofs.lemmas.Bool.{eqb-false}
use Rattle.std.proofs.lemmas.List.Elements.{All-filter}
use Rattle.nl_types.specs.Blocks.Lifetimes.{EachAllowed, IsLedger, KeepsCovered, Ledger, Forgets, ledger_after, ledger_after_all}
use Rattle.nl_types.specs.Plain.NumberLists.{is_one_of}
use Rattle.nl_types.specs.Facts.ExactLifetimes.{covered_kept_all, ledger_after_all-IsLedger}
use Rattle.nl_layout.specs.Root.{root_of}
use Rattle.nl_files.specs.CheckpointRoots.{IsTreeSound}
use Rattle.nl_cpfile.specs.declared.checkpoint.Checkpoint.{Checkpoint}
use Rattle.nl_cpfile.specs.Tables.{all, is_kept_without, kept_at, checkpoint_root}
use Rattle.nl_commit.specs.Laws.{ExpiriesGoOneByOne, RangesGoOneByOne}
use Rattle.nl_commit.specs.Layout.{AllowedBetween, IsSoundPen, KeepsNumbers, Layout, layout_of, ledger_of, layout_pages, reached_by}
use Rattle.nl_commit.specs.Volume.{without_checkpoints}
use Rattle.nl_events.specs.Facts.TableChanges.{all-without, kept-without, unless}

-- ---- the ledger, one removal after another

unless-either : {A : Type 0} (a b : Bool) (o : Option A) → unless a (unless b o) ≡ unless (b || a) o
unless-either true true o = refl
unless-either true false o = refl
unless-either false true o = refl
unless-either false false o = refl

kept-after : (gone : List ℕ) (l : Ledger) (c : ℕ)
    → (ledger_after_all (map Forgets gone) l).kept c ≡ unless (is_one_of gone c) (l.kept c)
kept-after [] l c = refl
kept-after (n ∷ gone) l c =
    kept-after gone (ledger_after (Forgets n) l) c
    ∙ unless-either (is_one_of gone c) (eqb c n) (l.kept c)

content-after : (gone : List ℕ) (l : Ledger) → (ledger_after_all (map Forgets gone) l).content ≡ l.content
content-after [] l = refl
content-after (n ∷ gone) l = content-after gone (ledger_after (Forgets n) l)

latest-after : (gone : List ℕ) (l : Ledger) → (ledger_after_all (map Forgets gone) l).latest ≡ l.latest
latest-after [] l = refl
latest-after (n ∷ gone) l = latest-after gone (ledger_after (Forgets n) l)

neither : (a b : Bool) → (a || b) ≡ false → (a ≡ false) × (b ≡ false)
neither true b is = cc
neither false b is = (refl, is)

-- where the latest checkpoint stays, each removal is one that there may be
allowed-all : (gone : List ℕ) (l : Ledger) → is_one_of gone l.latest ≡ false
    → EachAllowed (map Forgets gone) l
allowed-all [] l stays = tt
allowed-all (n ∷ gone) l stays =
    let parts = neither (eqb l.latest n) (is_one_of gone l.latest) stays in
    (λ same. eqb-false l.latest n parts.0 (sym same), allowed-all gone (ledger_after (Forgets n) l) parts.1)

-- ---- the pen

module _ (l : Layout) (gone : List ℕ) (stays : is_one_of gone l.lists.table.latest.number ≡ false) where
  abbrev pub left_layout : Layout
  left_layout = layout_of (without_checkpoints gone l.lists) l.store

  mapped : {A B : Type 0} (f : A → B) (b : Bool) (o : Option A)
      → option_map f (unless b o) ≡ unless b (option_map f o)
  mapped f true o = refl
  mapped f false o = refl

  kept-left : (c : ℕ)
      → (ledger_of left_layout).kept c ≡ (ledger_after_all (map Forgets gone) (ledger_of l)).kept c
  kept-left c =
      ap (option_map (reached_by (layout_pages l))) (kept-without gone l.lists.table stays c)
      ∙ (mapped (reached_by (layout_pages l)) (is_one_of gone c) (kept_at c l.lists.table)
      ∙ sym (kept-after gone (ledger_of l) c))

  -- the ledger is that of one removal after another
  pub ledger-left : ledger_of left_layout ≡ ledger_after_all (map Forgets gone) (ledger_of l)
  ledger-left i = record {
    content = sym (content-after gone (ledger_of l)) i;
    latest = sym (latest-after gone (ledger_of l)) i;
    kept = λ c. kept-left c i;
  }

  pub each-allowed : EachAllowed (map Forgets gone) (ledger_of l)
  each-allowed = allowed-all gone (ledger_of l) stays

  module _ (sound : IsSoundPen l) where
    abbrev IsKeptSound : Checkpoint → Type 0
    IsKeptSound c = IsTreeSound (layout_pages l) (root_of (checkpoint_root c))

    -- what is true of every pen, but that it means a world
    pub sound-left : IsSoundPen left_layout
    sound-left = record {
      ledger = subst IsLedger (sym ledger-left)
          (ledger_after_all-IsLedger (map Forgets gone) (ledger_of l) sound.ledger each-allowed);
      trees_sound = subst (All IsKeptSound) (sym (all-without gone l.lists.table stays))
          (All-filter (is_kept_without gone) IsKeptSound (all l.lists.table) sound.trees_sound);
      latest = kept-without gone l.lists.table stays l.lists.table.latest.number
          ∙ (ap (λ b. unless b (kept_at l.lists.table.latest.number l.lists.table)) stays ∙ sound.latest);
      last = sound.last;
      store = sound.store;
    }

    -- numbers keep what they stand for
    pub numbers-left : KeepsNumbers l left_layout
    numbers-left = record {
      covered = subst (KeepsCovered (ledger_of l)) (sym ledger-left)
          (covered_kept_all (map Forgets gone) (ledger_of l) sound.ledger each-allowed);
      ends = λ v e f is_e is_f. let same = sym is_f ∙ is_e in inl cc;
    }

-- ---- a range

pub ranges_go_one_by_one : (allowed : AllowedBetween) → RangesGoOneByOne allowed
ranges_go_one_by_one allowed old new first last range does =
    let taken = does.becomes.0.taken in
    let store = does.becomes.1 in (
      each-allowed old range.removed taken.stays,
      (λ i. ledger_of (layout_of (taken.lists i) (store i))) ∙ ledger-left old range.removed taken.stays,
    )

pub expiries_go_one_by_one : (allowed : AllowedBetween) → ExpiriesGoOneByOne allowed
expiries_go_one_by_one allowed old new now period gone does =
    let taken = does.becomes.0.taken in
    let store = does.becomes.1 in (
      each-allowed old gone taken.stays,
      (λ i. ledger_of (layout_of (taken.lists i) (store i))) ∙ ledger-left old gone taken.stays,
    )
