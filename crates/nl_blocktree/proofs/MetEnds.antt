-- Where the data at some places ends.
use Rattle.std.proofs.Common.{◌≡◌, ◌⊎◌, ℕ, ◌≤◌, Option, Some, None, inl, inr}
use Rattle.nl_types.specs.Blocks.RootChanges.{places}
use Rattle.nl_types.specs.Blocks.Roots.{Pages, Root}
use Rattle.nl_blocktree.specs.TreePlaces.{IsEnd}
use Rattle.nl_blocktree.specs.Private.Walks.{EndsAt}

pub ends-none : (pages : Pages) (root : Root) (Visited All : ℕ × ℕ → Type 0) (count : Option ℕ)
    → ((b : ℕ × ℕ) → All b → Visited b ⊎ (places pages root b ≡ None))
    → ((b : ℕ × ℕ) → Visited b → All b) → EndsAt pages root Visited count → EndsAt pages root All count
ends-none pages root Visited All None step left ends = λ i n.
    elim (step (0, i) n) [ inl h ↦ ends i h | inr none ↦ none ]
ends-none pages root Visited All (Some count) step left ends = record {
  last = ends.last;
  is = ends.is;
  visited = left (0, ends.last) ends.visited;
  has_data = ends.has_data;
  none_past = λ i high n. elim (step (0, i) n) [ inl h ↦ ends.none_past i high h | inr none ↦ none ];
}

pub ends-past : (pages : Pages) (root : Root) (Visited All : ℕ × ℕ → Type 0) (count : ℕ)
    → ((i : ℕ) → count ≤ i → All (0, i) → Visited (0, i))
    → ((b : ℕ × ℕ) → Visited b → All b) → IsEnd pages root Visited count → IsEnd pages root All count
ends-past pages root Visited All count past left ends = record {
  last = ends.last;
  is = ends.is;
  visited = left (0, ends.last) ends.visited;
  has_data = ends.has_data;
  none_past = λ i high n. ends.none_past i high (past i high n);
}
