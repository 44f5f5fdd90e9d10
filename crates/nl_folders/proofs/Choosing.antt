-- Steps that are chosen, and their flags.
use Rattle.std.proofs.Common.{◌≡◌, ◌⊎◌, ℕ, zero, suc, ◌+◌, ◌<◌, ◌≤◌, Bool, false, ◌||◌, List, [], ◌∷◌, ◌++◌, length, replicate, get_or, refl, sym, ap, ◌∙◌, arith, inl, inr}
use Rattle.std.proofs.lemmas.Bool.{cases_lt, cases_order}
use Rattle.std.proofs.lemmas.List.{get_or-replicate, get_or_past, length-replicate}
use Rattle.nl_types.specs.Plain.Paths.{Path, same_path, is_within}
use Rattle.nl_types.specs.Plain.Trees.{Tree}
use Rattle.nl_types.specs.Facts.Lookups.{same_path-itself}
use Rattle.nl_folders.proofs.EntryParts.{places_apart}
use Rattle.nl_folders.proofs.StepsDone.{has_come-push, has_gone-push, made_done, or_false, or_true, relocated_done}
use Rattle.nl_folders.specs.declared.sides.Relocation.{Relocation}
use Rattle.nl_folders.specs.declared.sides.Step.{Step}
use Rattle.nl_folders.specs.declared.sides.Step.TheVariants.{Make, Relocate}
use Rattle.nl_folders.specs.Private.Sides.{AreMatched, ArePlaced, AreSteps, IsPart, IsPlaced, IsStep, MayMake, MayMove, SetsFlags, TwoSides, has_come, has_gone, path_at}
use Rattle.nl_folders.specs.Spelled.{IsNameable}

ArePlaced-push : (present wanted : Tree) (steps : List Step) (step : Step) → ArePlaced present wanted steps
    → IsPlaced present wanted step → ArePlaced present wanted (steps ++ step ∷ [])
ArePlaced-push present wanted [] step are is = (is, tt)
ArePlaced-push present wanted (first ∷ steps) step are is =
    (are.0, ArePlaced-push present wanted steps step are.1 is)

AreSteps-push : (present wanted : Tree) (steps : List Step) (step : Step) → AreSteps present wanted steps
    → IsStep present wanted step → AreSteps present wanted (steps ++ step ∷ [])
AreSteps-push present wanted [] step are is = (is, tt)
AreSteps-push present wanted (first ∷ steps) step are is =
    (are.0, AreSteps-push present wanted steps step are.1 is)

-- each step is at entries of the trees
pub placed_at : (present wanted : Tree) (steps : List Step) (k : ℕ) (step : Step) → k < length steps
    → ArePlaced present wanted steps → IsPlaced present wanted (get_or steps k step)
placed_at present wanted [] k step within are = absurd (omega (arith, within))
placed_at present wanted (first ∷ steps) zero step within are = are.0
placed_at present wanted (first ∷ steps) (suc k) step within are =
    placed_at present wanted steps k step (omega (arith, within)) are.1

-- ---- at first

unset : (count k : ℕ) → get_or (replicate count false) k false ≡ false
unset count k = elim (cases_lt k count) [
  | inl within ↦ get_or-replicate count k false false within
  | inr past ↦ get_or_past (replicate count false) k false (omega (arith, past, length-replicate count false))
]

pub no_steps : (present wanted : Tree) (gone come : List Bool) → gone ≡ replicate (length present) false
    → come ≡ replicate (length wanted) false
    → AreMatched (record { present = present; wanted = wanted; steps = []; gone = gone; come = come })
no_steps present wanted gone come gone_is come_is = record {
  gone_long = ap length gone_is ∙ length-replicate (length present) false;
  come_long = ap length come_is ∙ length-replicate (length wanted) false;
  placed = tt;
  chosen = λ p w. record {
    steps_are = tt;
    gone = λ k _. ap (λ (flags : List Bool). get_or flags k false) gone_is ∙ unset (length present) k;
    come = λ k _. ap (λ (flags : List Bool). get_or flags k false) come_is ∙ unset (length wanted) k;
    done = record { done = refl; is_tree = p.is_tree; objects = λ q. refl; size = omega arith };
  };
}

-- ---- one step more

pub make_chosen : (s : TwoSides) (k : ℕ) (come : List Bool) → AreMatched s → k < length s.wanted
    → (IsNameable s.present → IsNameable s.wanted → MayMake s k) → SetsFlags s.come come k (k + 1)
    → AreMatched (record {
      present = s.present;
      wanted = s.wanted;
      steps = s.steps ++ Make k ∷ [];
      gone = s.gone;
      come = come;
    })
make_chosen s k come m within may sets = record {
  gone_long = m.gone_long;
  come_long = sets.long ∙ m.come_long;
  placed = ArePlaced-push s.present s.wanted s.steps (Make k) m.placed within;
  chosen = λ p w.
      let c = m.chosen p w in
      record {
        steps_are = AreSteps-push s.present s.wanted s.steps (Make k) c.steps_are (may p w).is_step;
        gone = λ j inside.
            c.gone j inside
            ∙ sym (has_gone-push s.present s.steps (Make k) (path_at s.present j)
            ∙ or_false (has_gone s.present s.steps (path_at s.present j)));
        come = λ j inside.
            flags p w j inside (cases_order j k)
            ∙ sym (has_come-push s.wanted s.steps (Make k) (path_at s.wanted j));
        done = made_done s p w c m.placed k within (may p w);
      };
}
  where
    flags : IsNameable s.present → IsNameable s.wanted → (j : ℕ) → j < length s.wanted
        → ((j ≡ k) ⊎ ((j < k) ⊎ (k < j)))
        → get_or come j false
        ≡ (has_come s.wanted s.steps (path_at s.wanted j) || same_path (path_at s.wanted j) (path_at s.wanted k))
    flags p w j inside (inl same) =
        let has = has_come s.wanted s.steps (path_at s.wanted j) in
        sets.inside j (omega (arith, same)) (omega (arith, same))
        ∙ sym (ap (λ b. has || b)
        (ap (λ (x : ℕ). same_path (path_at s.wanted j) (path_at s.wanted x)) (sym same)
        ∙ same_path-itself (path_at s.wanted j))
        ∙ or_true has)
    flags p w j inside (inr apart) =
        let has = has_come s.wanted s.steps (path_at s.wanted j) in
        stays apart
        ∙ (m.chosen p w).come j inside
        ∙ sym (ap (λ b. has || b) (places_apart s.wanted j k w.is_tree.ordered inside within apart)
        ∙ or_false has)
      where
        stays : ((j < k) ⊎ (k < j)) → get_or come j false ≡ get_or s.come j false
        stays (inl earlier) = sets.before j earlier
        stays (inr later) = sets.behind j (omega (arith, later))

-- flags that are set for a part
part_flags : (entries : Tree) (old new : List Bool) (start end : ℕ) (has : Path → Bool)
    → IsPart entries start end → SetsFlags old new start end
    → ((k : ℕ) → k < length entries → get_or old k false ≡ has (path_at entries k))
    → (k : ℕ) → k < length entries
    → get_or new k false
    ≡ (has (path_at entries k) || is_within (path_at entries start) (path_at entries k))
part_flags entries old new start end has part sets told k within = elim (cases_lt k start) [
  | inl earlier ↦
      sets.before k earlier ∙ told k within
      ∙ sym (ap (λ b. has (path_at entries k) || b) (part.before k earlier) ∙ or_false (has (path_at entries k)))
  | inr behind ↦ elim (cases_lt k end) [
    | inl below ↦
        sets.inside k behind below
        ∙ sym (ap (λ b. has (path_at entries k) || b) (part.inside k behind below)
        ∙ or_true (has (path_at entries k)))
    | inr past ↦
        sets.behind k past ∙ told k within
        ∙ sym (ap (λ b. has (path_at entries k) || b) (part.behind k past within)
        ∙ or_false (has (path_at entries k)))
  ]
]

pub relocate_chosen : (s : TwoSides) (part : Relocation) (gone come : List Bool) → AreMatched s
    → part.from + part.count ≤ length s.present → part.to + part.count ≤ length s.wanted → 0 < part.count
    → (IsNameable s.present → IsNameable s.wanted → MayMove s part)
    → SetsFlags s.gone gone part.from (part.from + part.count)
    → SetsFlags s.come come part.to (part.to + part.count)
    → AreMatched (record {
      present = s.present;
      wanted = s.wanted;
      steps = s.steps ++ Relocate part ∷ [];
      gone = gone;
      come = come;
    })
relocate_chosen s part gone come m from_in to_in some may sets_gone sets_come =
    let from_within : part.from < length s.present = omega (arith, from_in, some) in
    let to_within : part.to < length s.wanted = omega (arith, to_in, some) in
    record {
      gone_long = sets_gone.long ∙ m.gone_long;
      come_long = sets_come.long ∙ m.come_long;
      placed = ArePlaced-push s.present s.wanted s.steps (Relocate part) m.placed (from_within, to_within);
      chosen = λ p w.
          let c = m.chosen p w in
          let may_here = may p w in
          record {
            steps_are =
                AreSteps-push s.present s.wanted s.steps (Relocate part) c.steps_are may_here.movable.is_step;
            gone = λ k inside.
                part_flags s.present s.gone gone part.from (part.from + part.count)
                (has_gone s.present s.steps) may_here.movable.part_gone sets_gone c.gone k inside
                ∙ sym (has_gone-push s.present s.steps (Relocate part) (path_at s.present k));
            come = λ k inside.
                part_flags s.wanted s.come come part.to (part.to + part.count)
                (has_come s.wanted s.steps) may_here.movable.part_come sets_come c.come k inside
                ∙ sym (has_come-push s.wanted s.steps (Relocate part) (path_at s.wanted k));
            done = relocated_done s p w c m.placed part from_within to_within some may_here;
          };
    }
