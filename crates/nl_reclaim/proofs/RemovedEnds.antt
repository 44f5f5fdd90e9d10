-- The list of ends behind a removal of checkpoints.
use Rattle.std.proofs.Common.{◌≡◌, ℕ, ◌<◌, ◌≤◌, ◌⊎◌, Bool, true, List, Some, inl, inr, ap, sym, ◌∙◌, arith}
use Rattle.std.proofs.lemmas.Bool.{cases_Bool}
use Rattle.nl_types.specs.Plain.NumberLists.{is_one_of}
use Rattle.nl_types.specs.Blocks.Entries.{Content, Entry, is_needed}
use Rattle.nl_types.specs.Blocks.NeedLaws.{AreGone, LostNumbersEndInTheRun, RemovalsNeedNoMore}
use Rattle.nl_reclaim.specs.declared.ends.Ended.{Ended}
use Rattle.nl_reclaim.specs.EndLists.{IsRun, end_at, no_end}
use Rattle.nl_reclaim.specs.Counted.{AreBelow, AreEnds, HasEndedNeeded}
use Rattle.nl_reclaim.specs.PrivateCounts.Listed.{HasLetGoAll}
use Rattle.nl_reclaim.proofs.EndPlaces.{in-list, rising-from}

-- what a removal does to needs
pub record LetsGo : Type 0 where
  pub fewer : RemovalsNeedNoMore
  pub run : LostNumbersEndInTheRun

module _ (lets : LetsGo) (content : Content) (needed : ℕ → Bool) (first next from to : ℕ) (kept stay : List ℕ)
    (old new : List Ended) (gone : AreGone first next kept stay)
    (told : (v : ℕ) (e : Entry) → content v ≡ Some e → needed v ≡ is_needed stay e)
    (run : IsRun first next from to old) (are : AreEnds content (is_needed kept) old)
    (let_go : HasLetGoAll needed from to old new) where
  theirs : (k v : ℕ) → (end_at new k).number ≡ Some v
      → HasEndedNeeded content (is_needed stay) v (end_at new k).end
  theirs k v is =
      let was = let_go.gone k v is in
      let has = are.theirs k v was in
      record {
        entry = has.entry;
        in_use = has.in_use;
        ended = has.ended ∙ ap Some (sym (let_go.ends k));
        passes = elim (cases_Bool (is_needed stay has.entry)) [
          | inl is_so ↦ is_so
          | inr unneeded ↦
              let (end, is_end, above, below) =
              lets.run first next kept stay has.entry gone has.passes unneeded in
              let same : Some (end_at old k).end ≡ Some end = sym has.ended ∙ is_end in
              let one : (end_at old k).end ≡ end = cc in
              let inside =
              run.inside k (in-list old k v was) (omega (arith, one, above))
              (omega (arith, one, below)) in
              sym (told v has.entry has.in_use) ∙ let_go.left k v inside.0 inside.1 is
        ];
      }

  pub ends-left : AreEnds content (is_needed stay) new
  ends-left = record {
    rising = rising-from new (λ k j order low.
        let rise = are.rising k j no_end order (omega (arith, low, let_go.size)) in
        omega (arith, rise, let_go.ends k, let_go.ends j));
    theirs = theirs;
    all = λ v end has.
        let found =
        are.all v end (record {
          entry = has.entry;
          in_use = has.in_use;
          ended = has.ended;
          passes = lets.fewer first next kept stay has.entry gone has.passes;
        }) in
        let k = found.0 in (
          k,
          omega (arith, found.1, let_go.size),
          let_go.needed k v found.2 (told v has.entry has.in_use ∙ has.passes),
          let_go.ends k ∙ found.3,
        );
    once = λ k j v one two. are.once k j v (let_go.gone k v one) (let_go.gone j v two);
  }

  pub below-left : AreBelow kept old → AreBelow stay new
  below-left below k low =
      let (c, among, high) = below k (omega (arith, low, let_go.size)) in
      by c among high (gone.gone c among)
    where
      open-end : (c : ℕ) → (end_at old k).end ≤ c → (end_at new k).end ≤ c
      open-end c high = let same = let_go.ends k in omega (arith, same, high)

      by : (c : ℕ) → is_one_of kept c ≡ true → (end_at old k).end ≤ c
          → (is_one_of stay c ≡ true) ⊎ ((first ≤ c) × (c < next))
          → (c : ℕ) × (is_one_of stay c ≡ true) × ((end_at new k).end ≤ c)
      by c among high (inl stays) = (c, stays, open-end c high)
      by c among high (inr within) =
          (next, gone.next_stays, (let low_end = open-end c high in omega (arith, within.1, low_end)))
