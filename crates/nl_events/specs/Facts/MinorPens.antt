-- A minor checkpoint leaves a pen: no number starts or ends at it, and each world that was meant has one copy
-- more.
use Rattle.std.proofs.Common.{◌≡◌, ℕ, ◌+◌, true, false, cond, eqb, List, [], ◌∷◌, ◌++◌, Option, Some, None, refl, ap, sym, subst, ◌∙◌, arith, inl, inr}
use Rattle.std.specs.Prelude.{Ok, Err, max, not, nat_le}
use Rattle.std.specs.List.{AllZip}
use Rattle.std.specs.Option.{option_and_then, option_map, option_map_or, option_or}
use Rattle.std.proofs.lemmas.Bool.{cases_Bool, cond-false, cond-true, eq-eqb, eqb-true, lt-leb, ne_eqb}
use Rattle.std.proofs.lemmas.List.Elements.{All-push}
use Rattle.nl_types.specs.declared.error.VolError.TheVariants.{NumbersSpent}
use Rattle.nl_types.specs.declared.event.Event.TheVariants.{Move}
use Rattle.nl_types.specs.declared.reply.Answer.TheVariants as answer
use Rattle.nl_types.specs.Plain.Limits.{checkpoint_number_limit}
use Rattle.nl_types.specs.Blocks.Lifetimes.{Allowed, EndsOnce, IsLedger, KeepsCovered, Ledger, Numbers, Makes, ledger_after, numbers_after, numbers_at, unless_ended}
use Rattle.nl_types.specs.Plain.Worlds as worlds
use Rattle.nl_types.specs.Plain.Worlds.{Copy, IsWorld, Outcome, Reply, World, latest, minor_copy, minor_copies}
use Rattle.nl_types.specs.Facts.ExactLifetimes.{covered_kept_all, ends_once, ledger_after-IsLedger}
use Rattle.nl_types.specs.Facts.WorldLaws.{steps_keep_worlds}
use Rattle.nl_layout.specs.Root.{root_of}
use Rattle.nl_files.specs.CheckpointRoots.{IsTreeSound}
use Rattle.nl_cpfile.specs.declared.checkpoint.Checkpoint.{Checkpoint}
use Rattle.nl_cpfile.specs.Tables.{kept_at, checkpoint_root}
use Rattle.nl_cpfile.specs.Facts.Found.{found-push}
use Rattle.nl_events.specs.CleanedPens.{MinorsKeepPens}
use Rattle.nl_commit.specs.Draft.{HasNextNumber}
use Rattle.nl_commit.specs.Layout.{IsSoundPen, KeepsNumbers, Layout, MeansWorld, layout_of, ledger_of, layout_pages, reached_by}
use Rattle.nl_commit.specs.Means.{CopyMeans}
use Rattle.nl_commit.specs.Volume.{kept_by, minor_checkpoint, with_minor}
use Rattle.nl_events.specs.Facts.Ledgers.{found-all, none-next}
use Rattle.nl_events.specs.Facts.Published.{copies-push, ends, latest-copy, latest-means, latest_stamp-means}

-- ---- a batch without births and ends

pub nothing-allowed : (ledger : Ledger) → Allowed (Makes [] []) ledger
nothing-allowed ledger = record {
  once = tt;
  placed_once = λ v p is. cc;
  numbered = λ q p is. cc;
  unused = λ v p is. cc;
  replaced = λ q p v is at. cc;
  live = λ v e is at. cc;
}

same-numbers_after : (ns : Numbers) → numbers_after [] [] ns ≡ ns
same-numbers_after ns i q = by (ns q) i
  where
    by : (o : Option ℕ) → option_and_then (unless_ended []) o ≡ o
    by None = refl
    by (Some v) = refl

-- ---- the ledger

module _ (moment : ℕ) (l : Layout) (sound : IsSoundPen l) (left : HasNextNumber l.lists) where
  abbrev minor : Checkpoint
  minor = minor_checkpoint moment l.lists

  abbrev new : Layout
  new = layout_of (with_minor moment l.lists) l.store

  abbrev or_minor : ℕ → Option Checkpoint → Option Checkpoint
  or_minor n o = option_or o (cond (eqb minor.number n) (Some minor) None)

  found-next : (n : ℕ) → kept_at n new.lists.table ≡ or_minor n (kept_at n l.lists.table)
  found-next n = sym (found-push n (kept_by l.lists) minor (kept_at n l.lists.table) refl)

  found-minor : kept_at minor.number new.lists.table ≡ Some minor
  found-minor =
      found-next minor.number
      ∙ (ap (or_minor minor.number) (none-next l sound)
      ∙ cond-true (eqb minor.number minor.number) (Some minor) None (eq-eqb minor.number minor.number refl))

  found-others : (n : ℕ) → (minor.number ≡ n → ⊥) → kept_at n new.lists.table ≡ kept_at n l.lists.table
  found-others n other =
      found-next n
      ∙ (ap (option_or (kept_at n l.lists.table))
      (cond-false (eqb minor.number n) (Some minor) None (ne_eqb minor.number n other))
      ∙ or_none (kept_at n l.lists.table))
    where
      or_none : (o : Option Checkpoint) → option_or o None ≡ o
      or_none None = refl
      or_none (Some x) = refl

  -- it reaches what the latest one does
  reaches : Some (reached_by (layout_pages l) minor)
      ≡ Some (numbers_after [] [] (numbers_at (ledger_of l) (ledger_of l).latest))
  reaches =
      sym (ap (option_map (reached_by (layout_pages l))) sound.latest)
      ∙ (sound.ledger.latest_kept
      ∙ ap Some (sym (same-numbers_after (numbers_at (ledger_of l) (ledger_of l).latest))))

  kept-minor : (n : ℕ) → (ledger_of new).kept n ≡ (ledger_after (Makes [] []) (ledger_of l)).kept n
  kept-minor n = elim (cases_Bool (eqb n minor.number)) [
    | inl t ↦
        let is : n ≡ minor.number = eqb-true n minor.number t in
        ap (λ (m : ℕ). option_map (reached_by (layout_pages l)) (kept_at m new.lists.table)) is
        ∙ (ap (option_map (reached_by (layout_pages l))) found-minor
        ∙ (reaches ∙ sym (cond-true (eqb n minor.number) _ _ t)))
    | inr t ↦
        let other : minor.number ≡ n → ⊥ = λ same.
        let no : true ≡ false = sym (eq-eqb n minor.number (sym same)) ∙ t in cc in
        ap (option_map (reached_by (layout_pages l))) (found-others n other)
        ∙ sym (cond-false (eqb n minor.number) _ _ t)
  ]

  ledger-minor : ledger_of new ≡ ledger_after (Makes [] []) (ledger_of l)
  ledger-minor i = record {
    content = (ledger_of l).content;
    latest = (ledger_of l).latest + 1;
    kept = λ n. kept-minor n i;
  }

  abbrev IsKeptSound : Checkpoint → Type 0
  IsKeptSound c = IsTreeSound (layout_pages l) (root_of (checkpoint_root c))

  sound-minor : IsSoundPen new
  sound-minor = record {
    ledger =
        subst IsLedger (sym ledger-minor)
        (ledger_after-IsLedger (Makes [] []) (ledger_of l) sound.ledger (nothing-allowed (ledger_of l)));
    trees_sound = All-push IsKeptSound (kept_by l.lists) minor sound.trees_sound
        (found-all IsKeptSound l.lists.table.latest.number
        (kept_by l.lists) l.lists.table.latest sound.trees_sound sound.latest);
    latest = found-minor;
    last = left;
    store = sound.store;
  }

  numbers-minor : KeepsNumbers l new
  numbers-minor = record {
    covered = subst (KeepsCovered (ledger_of l)) (sym ledger-minor)
        (covered_kept_all (Makes [] [] ∷ []) (ledger_of l) sound.ledger (nothing-allowed (ledger_of l), tt));
    ends =
        subst (EndsOnce (ledger_of l)) (sym ledger-minor)
        (ends_once (Makes [] []) (ledger_of l) (nothing-allowed (ledger_of l)));
  }

-- ---- the world

module _ (moment : ℕ) (l : Layout) (left : HasNextNumber l.lists) (w : World) (means : MeansWorld l w) where
  abbrev copy : Copy
  copy = let last = ends (layout_pages l) l.lists w means in last.last.1

  pub numbers-left : nat_le checkpoint_number_limit (latest w + 1) ≡ false
  numbers-left =
      let number = latest-means (layout_pages l) l.lists w means in
      lt-leb checkpoint_number_limit (latest w + 1) (omega (arith, number, left))

  -- a move of a block takes this step
  pub moves-on : (moved rest : ℕ) (moving : not (eqb moved 0) ≡ true)
      → worlds.move_blocks (Ok (answer.Moved moved rest)) w moment
      ≡ (Ok (answer.Moved moved rest), worlds.with_minor w moment)
  moves-on moved rest moving =
      let reply : Reply = Ok (answer.Moved moved rest) in
      let done : Outcome = (reply, worlds.with_minor w moment) in
      cond-true {A = Outcome} (not (eqb moved 0))
      (worlds.refused_if (nat_le checkpoint_number_limit (latest w + 1)) NumbersSpent w done)
      (reply, w) moving
      ∙ cond-false {A = Outcome} (nat_le checkpoint_number_limit (latest w + 1))
      (Err NumbersSpent, w) done numbers-left

  world-minor : IsWorld (worlds.with_minor w moment)
  world-minor =
      steps_keep_worlds (Ok (answer.Moved 1 0)) (Ok (answer.Moved 1 0)) w (worlds.with_minor w moment)
      (Move 0 1 moment) means.world (moves-on 1 0 refl)

  minor-means : CopyMeans (layout_pages l) (minor_checkpoint moment l.lists)
      (latest w + 1, minor_copy w moment copy)
  minor-means = let last = ends (layout_pages l) l.lists w means in record {
    number = ap (λ n. n + 1) (latest-means (layout_pages l) l.lists w means);
    mode = refl;
    minor = refl;
    stamp = ap (max moment) (latest_stamp-means (layout_pages l) l.lists w means);
    inodes = last.means.inodes;
    tree = last.means.tree;
  }

  copies-are : minor_copies w moment ≡ (latest w + 1, minor_copy w moment copy) ∷ []
  copies-are =
      ap (λ (o : Option Copy). option_map_or (λ (c : Copy). (latest w + 1, minor_copy w moment c) ∷ []) o [])
      (latest-copy (layout_pages l) l.lists w means)

  means-minor : MeansWorld (layout_of (with_minor moment l.lists) l.store) (worlds.with_minor w moment)
  means-minor = record {
    world = world-minor;
    tree = means.tree;
    dirty = means.dirty;
    copies =
        subst (λ (more : List (ℕ × Copy)).
        AllZip (CopyMeans (layout_pages l)) (kept_by l.lists ++ minor_checkpoint moment l.lists ∷ [])
        (w.copies ++ more))
        (sym copies-are)
        (copies-push (layout_pages l) (kept_by l.lists) w.copies (minor_checkpoint moment l.lists)
        (latest w + 1, minor_copy w moment copy) means.copies minor-means);
    mounts = means.mounts;
    given = means.given;
  }

pub minors_keep_pens : MinorsKeepPens
minors_keep_pens moment old pen left = record {
  ledger = ledger-minor moment old pen.sound left;
  pen = record {
    world = (worlds.with_minor pen.world.0 moment, means-minor moment old left pen.world.0 pen.world.1);
    sound = sound-minor moment old pen.sound left;
  };
  numbers = numbers-minor moment old pen.sound left;
  means = means-minor moment old left;
}
