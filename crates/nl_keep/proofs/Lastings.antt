-- Kept trees last.
use Rattle.std.proofs.Common.{◌≡◌, ℕ, true, [], ◌∷◌, Option, Some, None, refl, sym, ap, ◌∙◌, subst, inl, inr, is_some, true≢false}
use Rattle.nl_types.specs.declared.event.Event.{Event}
use Rattle.nl_types.specs.Plain.Laws.{CopiesAreKept, CopiesStay, TakesOut}
use Rattle.nl_types.specs.Plain.Trees.{Tree}
use Rattle.nl_types.specs.Plain.Worlds.{World, Copy, Reply, copy_at}
use Rattle.nl_types.specs.Facts.NumberedLists.{find_stays}
use Rattle.nl_keep.specs.Facts.StoredTrees.{one_tree, stored_tree}
use Rattle.nl_keep.specs.Lasting.{KeptTreesLast, StoredTreesComeBack, StoresKeepCopies}
use Rattle.nl_keep.specs.Stored.{KeepsTree}
use Rattle.nl_keep.specs.Volumes.{Follows}

-- ---- whatever events came

found_in : (o : Option Copy) → is_some o ≡ true → (c : Copy) × (o ≡ Some c)
found_in None is = absurd (true≢false (sym is))
found_in (Some c) is = (c, refl)

one_step : CopiesAreKept → CopiesStay → (old new : World) (event : Event) (reply : Reply) (n : ℕ) (tree : Tree)
    → Follows event reply old new → (TakesOut event reply n → ⊥) → KeepsTree n tree old → KeepsTree n tree new
one_step kept same old new event reply n tree follows stays keeps = elim follows.1 [
  | inl s ↦ elim (kept follows.0 reply old new event n keeps.copy s keeps.kept) [
    | inl there ↦
        let found = found_in (copy_at new n) there in
        record {
          copy = found.0;
          kept = found.1;
          has = (same follows.0 reply old new event n keeps.copy found.0 s keeps.kept found.1).0 ∙ keeps.has;
        }
    | inr gone ↦ absurd (stays gone)
  ]
  | inr r ↦ subst (KeepsTree n tree) (sym r.unchanged) keeps
]

pub lasts : CopiesAreKept → CopiesStay → KeptTreesLast
lasts kept same old new [] [] n tree run none keeps = subst (KeepsTree n tree) (sym run) keeps
lasts kept same old new (e ∷ events) (r ∷ replies) n tree run none keeps =
    lasts kept same run.0 new events replies n tree run.2 none.1
    (one_step kept same old run.0 e r n tree run.1 none.0 keeps)
lasts kept same old new [] (r ∷ replies) n tree run none keeps = absurd run
lasts kept same old new (e ∷ events) [] n tree run none keeps = absurd run

pub come_back : CopiesAreKept → CopiesStay → StoredTreesComeBack
come_back kept same before stored later moment n tree read events replies stores run none reads =
    one_tree n read tree later reads
    (lasts kept same stored later events replies n tree run none (stored_tree moment n tree before stored stores))

-- ---- which copies are kept

pub stores_keep_copies : StoresKeepCopies
stores_keep_copies moment k n tree copy old new stores at =
    ap (λ (w : World). copy_at w n) stores.world ∙ find_stays old.copies _ n copy at
