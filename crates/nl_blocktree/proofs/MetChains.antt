-- The blocks of a chain are met, node by node and slot by slot.
use Rattle.std.proofs.Common.{◌≡◌, ◌≢◌, ◌⊎◌, ℕ, zero, suc, ◌+◌, ◌*◌, ◌/◌, ◌%◌, ◌<◌, ◌≤◌, Bool, true, false, cond, List, [], ◌∷◌, length, Option, Some, None, refl, ap, sym, subst, ◌∙◌, inl, inr, arith}
use Rattle.std.specs.Option.{IsSome, option_and_then}
use Rattle.std.specs.Prelude.{IfErr, IfOk, Result, Ok, Err}
use Rattle.std.proofs.lemmas.Bool.{cases_lt}
use Rattle.std.proofs.Math.ListN.{set}
use Rattle.nl_types.specs.Blocks.RootChanges.{HasData, places}
use Rattle.nl_types.specs.Blocks.Roots.{Chain, OfTree, Pages, Root, child, kind_of, numbered, place_at, slot}
use Rattle.nl_blocktree.specs.FileShapes.{HasShape}
use Rattle.nl_blocktree.specs.Walked.{CanNotMeet, HasMet, IsAny, IsWalkRefusal, IsWalked, Meets, is_met}
use Rattle.nl_blocktree.specs.declared.meeting.WalkError.{WalkError}
use Rattle.nl_blocktree.specs.declared.meeting.WalkError.TheVariants.{NoNode, EmptyLastNode}
use Rattle.nl_blocktree.specs.Private.Walks.{IsLastNamed, IsNode, IsVisited, MeetsSlot, unmet}
use Rattle.nl_blocktree.specs.Facts.Reading.{above, data-place, ended-place, first-place, next-place}
use Rattle.nl_blocktree.specs.Facts.MetPlaces.{all-met, can-met, no-block, numbered-some, pair, step-none, step-some}
use Rattle.nl_blocktree.proofs.Refusals.{refused-at}

-- ---- how many numbers were not met

pub unmet-now : (met : List Bool) (v : ℕ) → v < length met → is_met met v ≡ false
    → unmet (set met v true) + 1 ≡ unmet met
unmet-now [] v low free = absurd (omega (arith, low))
unmet-now (b ∷ met) zero low free = by b free
  where
    by : (b : Bool) → b ≡ false → 0 + unmet met + 1 ≡ cond b 0 1 + unmet met
    by true e = cc
    by false e = omega arith
unmet-now (b ∷ met) (suc v) low free =
    let rest = unmet-now met v (omega (arith, low)) free in omega (arith, rest)

pub unmet-most : (met : List Bool) → unmet met ≤ length met
unmet-most [] = omega arith
unmet-most (true ∷ met) = let rest = unmet-most met in omega (arith, rest)
unmet-most (false ∷ met) = let rest = unmet-most met in omega (arith, rest)

pub meets-fewer : (pages : Pages) (v : ℕ) (old new : List Bool) → Meets pages v old new
    → unmet new < unmet old
meets-fewer pages v old new m =
    let one = unmet-now old v m.within m.fresh in let same = ap unmet m.now in omega (arith, one, same)

pub slot-fewer : (pages : Pages) (s : ℕ) (page : List ℕ) (old new : List Bool)
    → MeetsSlot pages s page old new → unmet new ≤ unmet old
slot-fewer pages s page old new (inl (none, same)) = let e = ap unmet same in omega (arith, e)
slot-fewer pages s page old new (inr (v, some, m)) =
    let less = meets-fewer pages v old new m in omega (arith, less)

-- ---- the places of a chain

node-step : (n d : ℕ) (b : ℕ × ℕ) → IsVisited (suc n) d b → IsVisited n d b ⊎ (b ≡ (1, n))
node-step n d b (inl (level, low)) = elim (cases_lt b.1 n) [
  | inl less ↦ inl (inl (level, less))
  | inr high ↦ inr (pair b (1, n) level (omega (arith, low, high)))
]
node-step n d b (inr h) = inl (inr h)

node-more : (n d : ℕ) (b : ℕ × ℕ) → IsVisited n d b → IsVisited (suc n) d b
node-more n d b (inl (level, low)) = inl (level, omega (arith, low))
node-more n d b (inr h) = inr h

data-step : (n d : ℕ) (b : ℕ × ℕ) → IsVisited n (suc d) b → IsVisited n d b ⊎ (b ≡ (0, d))
data-step n d b (inl h) = inl (inl h)
data-step n d b (inr (level, low)) = elim (cases_lt b.1 d) [
  | inl less ↦ inl (inr (level, less))
  | inr high ↦ inr (pair b (0, d) level (omega (arith, low, high)))
]

data-more : (n d : ℕ) (b : ℕ × ℕ) → IsVisited n d b → IsVisited n (suc d) b
data-more n d b (inl h) = inl h
data-more n d b (inr (level, low)) = inr (level, omega (arith, low))

node-new : (n d : ℕ) → IsVisited n d (1, n) → ⊥
node-new n d (inl (level, low)) = omega (arith, low)
node-new n d (inr (level, low)) = cc

data-new : (n d : ℕ) → IsVisited n d (0, d) → ⊥
data-new n d (inl (level, low)) = cc
data-new n d (inr (level, low)) = omega (arith, low)

module _ (pages : Pages) (root : Root) (old : List Bool) where
  -- a node is met
  pub met-node : (n d v : ℕ) (now new : List Bool) → place_at pages root 1 n ≡ Some v
      → HasMet pages root (IsVisited n d) old now → Meets pages v now new
      → HasMet pages root (IsVisited (suc n) d) old new
  met-node n d v now new at m meets =
      step-some pages root old (IsVisited n d) (IsVisited (suc n) d) (1, n) (node-step n d) (node-more n d)
      (inl (refl, omega arith)) now new v at m meets

  pub no-node : (n d v : ℕ) (now : List Bool) (e : WalkError) → place_at pages root 1 n ≡ Some v
      → HasMet pages root (IsVisited n d) old now → CanNotMeet pages v now e → IsWalkRefusal pages root old e
  no-node n d v now e at m why =
      refused-at pages root old now (IsVisited n d) (1, n) v e (node-new n d) at m why

  -- a slot of data is met
  pub met-slot : (n d : ℕ) (o : Option ℕ) (now new : List Bool) → place_at pages root 0 d ≡ o
      → ((o ≡ None) × (new ≡ now)) ⊎ ((v : ℕ) × (o ≡ Some v) × Meets pages v now new)
      → HasMet pages root (IsVisited n d) old now → HasMet pages root (IsVisited n (suc d)) old new
  met-slot n d o now new at (inl (none, same)) m =
      subst (λ (x : List Bool). HasMet pages root (IsVisited n (suc d)) old x) (sym same)
      (step-none pages root old (IsVisited n d) (IsVisited n (suc d)) (0, d) (data-step n d) (data-more n d)
      (inr (refl, omega arith)) now (at ∙ none) m)
  met-slot n d o now new at (inr (v, some, meets)) m =
      step-some pages root old (IsVisited n d) (IsVisited n (suc d)) (0, d) (data-step n d) (data-more n d)
      (inr (refl, omega arith)) now new v (at ∙ some) m meets

  pub no-slot : (n d v : ℕ) (now : List Bool) (e : WalkError) → place_at pages root 0 d ≡ Some v
      → HasMet pages root (IsVisited n d) old now → CanNotMeet pages v now e → IsWalkRefusal pages root old e
  no-slot n d v now e at m why =
      refused-at pages root old now (IsVisited n d) (0, d) v e (data-new n d) at m why

-- ---- the data of a node

slot-place : (pages : Pages) (root : Root) (p s : ℕ) (page : List ℕ) → kind_of root ≢ OfTree
    → IsNode pages root p page → s < 127 → place_at pages root 0 (127 * p + s) ≡ slot s page
slot-place pages root p s page kind node low =
    let slot_is : (127 * p + s) % 127 ≡ s = omega (arith, low) in
    let node_is : (127 * p + s) / 127 ≡ p = omega (arith, low) in
    data-place pages root (127 * p + s) kind
    ∙ (ap (λ (k : ℕ). child pages k (place_at pages root 1 ((127 * p + s) / 127))) slot_is
    ∙ (ap (λ (q : ℕ). child pages s (place_at pages root 1 q)) node_is
    ∙ (ap (child pages s) node.at ∙ ap (option_and_then (λ (bytes : List ℕ). slot s bytes)) node.stored)))

pub next-slot : (pages : Pages) (root : Root) (p : ℕ) (page : List ℕ) → kind_of root ≢ OfTree
    → IsNode pages root p page → place_at pages root 1 (p + 1) ≡ slot 127 page
next-slot pages root p page kind node =
    next-place pages root p kind
    ∙ (ap (child pages 127) node.at ∙ ap (option_and_then (λ (bytes : List ℕ). slot 127 bytes)) node.stored)

-- one slot of data more
pub met-data : (pages : Pages) (root : Root) (old : List Bool) (p s : ℕ) (page : List ℕ) (now new : List Bool)
    → kind_of root ≢ OfTree → IsNode pages root p page → s < 127
    → ((slot s page ≡ None) × (new ≡ now)) ⊎ ((v : ℕ) × (slot s page ≡ Some v) × Meets pages v now new)
    → HasMet pages root (IsVisited (suc p) (127 * p + s)) old now
    → HasMet pages root (IsVisited (suc p) (127 * p + (s + 1))) old new
met-data pages root old p s page now new kind node low meets m =
    let more : suc (127 * p + s) ≡ 127 * p + (s + 1) = omega arith in
    subst (λ (d : ℕ). HasMet pages root (IsVisited (suc p) d) old new) more
    (met-slot pages root old (suc p) (127 * p + s) (slot s page) now new
    (slot-place pages root p s page kind node low) meets m)

pub no-data : (pages : Pages) (root : Root) (old : List Bool) (p s v : ℕ) (page : List ℕ) (now : List Bool)
    (e : WalkError)
    → kind_of root ≢ OfTree → IsNode pages root p page → s < 127
    → slot s page ≡ Some v → CanNotMeet pages v now e
    → HasMet pages root (IsVisited (suc p) (127 * p + s)) old now → IsWalkRefusal pages root old e
no-data pages root old p s v page now e kind node low names why m =
    no-slot pages root old (suc p) (127 * p + s) v now e
    (slot-place pages root p s page kind node low ∙ names) m why

-- ---- a whole chain

module _ (pages : Pages) (top p : ℕ) (page : List ℕ) (node : IsNode pages (Chain top) p page)
    (no_next : slot 127 page ≡ None) where
  in-chain : kind_of (Chain top) ≢ OfTree
  in-chain e = cc

  no-more : (q : ℕ) → p < q → place_at pages (Chain top) 1 q ≡ None
  no-more q high =
      ended-place pages (Chain top) (p + 1) q in-chain
      (next-slot pages (Chain top) p page in-chain node ∙ no_next) (omega (arith, high))

  -- data of a node that isn't there
  no-data-past : (i : ℕ) → p < i / 127 → place_at pages (Chain top) 0 i ≡ None
  no-data-past i high =
      data-place pages (Chain top) i in-chain ∙ ap (child pages (i % 127)) (no-more (i / 127) high)

  -- data of the last node
  data-here : (i : ℕ) → i / 127 ≡ p → place_at pages (Chain top) 0 i ≡ slot (i % 127) page
  data-here i e =
      let low : i % 127 < 127 = omega arith in
      let at : 127 * p + i % 127 ≡ i = omega (arith, e) in
      ap (place_at pages (Chain top) 0) (sym at)
      ∙ slot-place pages (Chain top) p (i % 127) page in-chain node low

  -- the last node has to name data
  pub no-last : (last : ℕ) (old : List Bool) → IsLastNamed page last → last ≡ 0
      → IsWalkRefusal pages (Chain top) old EmptyLastNode
  no-last last old named zero_is =
      (refl, p, subst (λ (o : Option ℕ). IsSome o) (sym node.at) refl, nothing)
    where
      nothing : (i : ℕ) → p ≤ i / 127 → place_at pages (Chain top) 0 i ≡ None
      nothing i low = elim (cases_lt p (i / 127)) [
        | inl high ↦ no-data-past i high
        | inr same ↦ (let here : i / 127 ≡ p = omega (arith, low, same) in
            data-here i here ∙ named.none_past (i % 127) (omega (arith, zero_is)) (omega arith))
      ]

  -- a chain that ends with data
  pub walked-chain : (last s : ℕ) (old new : List Bool) → IsSome (place_at pages (Chain top) 1 0)
      → IsLastNamed page last → last ≡ suc s → IsSome (slot s page)
      → HasMet pages (Chain top) (IsVisited (suc p) (127 * p + 127)) old new
      → IsWalked pages (Chain top) old new (127 * p + last)
  walked-chain last s old new top_there named is some m = record {
    can = can-met pages (Chain top) old new shape whole;
    met = whole;
    sized = record {
      count = 127 * p + last;
      is = refl;
      none_past = λ i high. no-block pages (Chain top) i (past i high);
      last = inr (127 * p + s, omega (arith, is), has_data);
    };
  }
    where
      below : s < 127
      below = let most = named.within in omega (arith, is, most)

      has_data : HasData pages (Chain top) (127 * p + s)
      has_data =
          subst (λ (o : Option ℕ). IsSome o)
          (sym (slot-place pages (Chain top) p s page in-chain node below)) some

      past : (i : ℕ) → 127 * p + last ≤ i → place_at pages (Chain top) 0 i ≡ None
      past i high = elim (cases_lt p (i / 127)) [
        | inl more ↦ no-data-past i more
        | inr same ↦
            (let here : i / 127 ≡ p = omega (arith, high, same) in
            data-here i here ∙ named.none_past (i % 127) (omega (arith, high, here)) (omega arith))
      ]

      each : (at : ℕ × ℕ) → IsVisited (suc p) (127 * p + 127) at ⊎ (places pages (Chain top) at ≡ None)
      each (zero, i) = elim (cases_lt i (127 * p + 127)) [
        | inl low ↦ inl (inr (refl, low))
        | inr high ↦ inr (no-data-past i (omega (arith, high)))
      ]
      each (suc zero, q) = elim (cases_lt q (suc p)) [
        | inl low ↦ inl (inl (refl, low))
        | inr high ↦ inr (no-more q (omega (arith, high)))
      ]
      each (suc (suc level), q) = inr (above pages (Chain top) level q in-chain)

      whole : HasMet pages (Chain top) IsAny old new
      whole = all-met pages (Chain top) old new (IsVisited (suc p) (127 * p + 127)) each m

      shape : HasShape pages (Chain top)
      shape = record {
        stored = λ level offset v at. whole.stored (level, offset) v tt at;
        has_top = λ k. top_there;
        ends_full = λ k q v at. (
          127 * p + s,
          elim (cases_lt p q) [
            | inl high ↦ absurd (let none = no-more q high in cc)
            | inr low ↦ omega (arith, low, below)
          ],
          has_data,
        );
        tree_shape = λ k. cc;
      }

-- a chain without a first node
pub no-top : (pages : Pages) (top : ℕ) (old : List Bool) → top ≡ 0
    → IsWalkRefusal pages (Chain top) old NoNode
no-top pages top old zero_is =
    ((λ e. cc), sym (first-place pages (Chain top) (λ e. cc)) ∙ ap numbered zero_is)

pub top-there : (pages : Pages) (top : ℕ) → (top ≡ 0 → ⊥) → place_at pages (Chain top) 1 0 ≡ Some top
top-there pages top h = sym (first-place pages (Chain top) (λ e. cc)) ∙ numbered-some top h

-- before anything is met
pub met-none : (pages : Pages) (root : Root) (old : List Bool) → HasMet pages root (IsVisited 0 0) old old
met-none pages root old = record {
  count = refl;
  stored = λ at v n is. absurd (none at n);
  whole = λ at v page n is. absurd (none at n);
  fresh = λ at v n is. absurd (none at n);
  once = λ a b v n k is other. absurd (none a n);
  added = λ at v n is. absurd (none at n);
  met_stay = λ v is. is;
  only = λ v is. inl is;
}
  where
    none : (at : ℕ × ℕ) → IsVisited 0 0 at → ⊥
    none at (inl (level, low)) = omega (arith, low)
    none at (inr (level, low)) = omega (arith, low)

-- ---- the end of a chain

abbrev EndsChain : ℕ → List ℕ → ℕ → Type 0
EndsChain p page count =
    (last : ℕ) × (s : ℕ) × IsLastNamed page last × (last ≡ suc s) × IsSome (slot s page)
    × (count ≡ 127 * p + last)

pub ended-yes : (pages : Pages) (top p : ℕ) (page : List ℕ) (old new : List Bool)
    → IsNode pages (Chain top) p page → slot 127 page ≡ None → IsSome (place_at pages (Chain top) 1 0)
    → HasMet pages (Chain top) (IsVisited (suc p) (127 * p + 127)) old new → (r : Result ℕ WalkError)
    → IfOk r (EndsChain p page) → IfOk r (IsWalked pages (Chain top) old new)
ended-yes pages top p page old new node none top_is m (Err e) h = tt
ended-yes pages top p page old new node none top_is m (Ok count) (last, s, named, is, some, count_is) =
    subst (λ (n : ℕ). IsWalked pages (Chain top) old new n) (sym count_is)
    (walked-chain pages top p page node none last s old new top_is named is some m)

abbrev HasNoEnd : List ℕ → WalkError → Type 0
HasNoEnd page e = (e ≡ EmptyLastNode) × (last : ℕ) × IsLastNamed page last × (last ≡ 0)

pub ended-no : (pages : Pages) (top p : ℕ) (page : List ℕ) (old : List Bool) → IsNode pages (Chain top) p page
    → slot 127 page ≡ None
    → (r : Result ℕ WalkError) → IfErr r (HasNoEnd page)
    → IfErr r (IsWalkRefusal pages (Chain top) old)
ended-no pages top p page old node none (Err e) (which, last, named, is) =
    subst (IsWalkRefusal pages (Chain top) old) (sym which)
    (no-last pages top p page node none last old named is)
ended-no pages top p page old node none (Ok count) h = tt

-- the next node, once one is met with its data
pub met-next : (pages : Pages) (root : Root) (p : ℕ) (old new : List Bool)
    → HasMet pages root (IsVisited (suc p) (127 * p + 127)) old new
    → HasMet pages root (IsVisited (p + 1) (127 * (p + 1))) old new
met-next pages root p old new m =
    let nodes : suc p ≡ p + 1 = omega arith in
    let slots : 127 * p + 127 ≡ 127 * (p + 1) = omega arith in
    subst (λ (n : ℕ). HasMet pages root (IsVisited n (127 * (p + 1))) old new) nodes
    (subst (λ (d : ℕ). HasMet pages root (IsVisited (suc p) d) old new) slots m)
