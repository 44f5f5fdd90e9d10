-- The blocks of a tree are met, one node's slots after another.
use Rattle.std.proofs.Common.{◌≡◌, ℕ, zero, suc, ◌+◌, ◌*◌, ◌-◌, ◌/◌, ◌^◌, ◌<◌, ◌≤◌, Bool, List, Option, Some, None, refl, ap, sym, subst, ◌∙◌, inl, inr, arith}
use Rattle.std.specs.Option.{IsSome}
use Rattle.std.proofs.Math.Nat.{div-one}
use Rattle.std.proofs.lemmas.Bool.{cases_lt}
use Rattle.nl_types.specs.Blocks.RootChanges.{places}
use Rattle.nl_types.specs.Blocks.Roots.{Pages, Root, Tree, numbered, place_at, slot}
use Rattle.nl_blocktree.specs.FileShapes.{HasShape}
use Rattle.nl_blocktree.specs.TreePlaces.{IsUnder}
use Rattle.nl_blocktree.specs.Walked.{CanNotMeet, HasMet, IsAny, IsWalkRefusal, IsWalked, Meets}
use Rattle.nl_blocktree.specs.declared.meeting.WalkError.{WalkError}
use Rattle.nl_blocktree.specs.declared.meeting.WalkError.TheVariants.{NoNode, EmptyNode, TooHigh}
use Rattle.nl_blocktree.specs.Private.Walks.{IsMetUnder, IsRefusalAt}
use Rattle.nl_blocktree.specs.Facts.MetPlaces.{all-met, can-met, no-block, no-some, pair}
use Rattle.nl_blocktree.specs.Facts.MetRanges.{Slots, Whole, joined, met-nowhere, met-one, node-apart, node-whole, one-under, range-apart, range-left, range-none, range-right, range-step, slots-whole, whole-step}
use Rattle.nl_blocktree.specs.Facts.TreePlaces.{above-next, above-rises, above-same, beyond-lower, slot-child, top-place, tree-top, under-there, under-top}
use Rattle.nl_blocktree.proofs.MetEnds.{ends-none, ends-past}
use Rattle.nl_blocktree.proofs.Refusals.{refusal-before, refusal-more, refused-here}

-- ---- the walk of a tree

-- a block of data
pub met-data : (pages : Pages) (height top level offset number : ℕ) (old new : List Bool) → level ≡ 0
    → place_at pages (Tree height top) level offset ≡ Some number
    → Meets pages number old new → IsMetUnder pages (Tree height top) level offset (suc offset) old new (Some
    (offset + 1))
met-data pages height top level offset number old new zero_is stands meets = record {
  met = joined pages root (λ b. b ≡ (level, offset)) (λ b. ⊥) (IsUnder level offset (suc offset)) (λ b n. inl
      (only b n)) here (λ b none. absurd none) old new new
      (met-one pages root (level, offset) number old new stands meets) (met-nowhere pages root (λ b. ⊥) new
      (λ b none. absurd none));
  above_data = λ k q v n is. absurd (let low = n.low in omega (arith, low, zero_is));
  ends = record {
    last = offset;
    is = omega arith;
    visited =
        subst (λ (k : ℕ). IsUnder level offset (suc offset) (k, offset)) zero_is (here (level, offset) refl);
    has_data = subst (λ (o : Option ℕ). IsSome o) (sym stands ∙ ap
        (λ (k : ℕ). place_at pages root k offset) zero_is) refl;
    none_past = λ i high n.
        absurd (let at = ap (λ (x : ℕ × ℕ). x.1) (only (0, i) n) in omega (arith, at, high));
  };
}
  where
    root : Root
    root = Tree height top

    only : (b : ℕ × ℕ) → IsUnder level offset (suc offset) b → b ≡ (level, offset)
    only b n =
        let low = n.low in let from = n.from in let under = n.below in
        let at : b.0 ≡ level = omega (arith, low, zero_is) in
        let over = above-same level b.0 b.1 at in
        pair b (level, offset) at (omega (arith, over, from, under))

    here : (b : ℕ × ℕ) → b ≡ (level, offset) → IsUnder level offset (suc offset) b
    here b is =
        let over : offset / 128 ^ (level - level) ≡ offset = above-same level level offset refl in
        subst (IsUnder level offset (suc offset)) (sym is) (record
        { low = omega arith; from = omega (arith, over); below = omega (arith, over) })

pub under-start : (pages : Pages) (height top below first : ℕ) (now : List Bool)
    → IsMetUnder pages (Tree height top) below first first now now None
under-start pages height top below first now = record {
  met =
      met-nowhere pages (Tree height top) (IsUnder below first first) now
      (λ b n. absurd (range-none below first b n));
  above_data = λ k q v n is. absurd (range-none below first (suc k, q) n);
  ends = λ i n. absurd (range-none below first (0, i) n);
}

-- a slot that names nothing
pub under-none : (pages : Pages) (height top below first last : ℕ) (old now : List Bool) (count : Option ℕ)
    → below ≤ height → first ≤ last
    → place_at pages (Tree height top) below last ≡ None
    → IsMetUnder pages (Tree height top) below first last old now count
    → IsMetUnder pages (Tree height top) below first (last + 1) old now count
under-none pages height top below first last old now count low rises none m = record {
  met =
      joined pages root (IsUnder below first last) (IsUnder below last (suc last))
      (IsUnder below first (last + 1))
      (range-step below first last)
      (range-left below first last) (range-right below first last rises) old now now m.met
      (met-nowhere pages root (IsUnder below last (suc last)) now nothing);
  above_data = λ k q v n is. elim (range-step below first last (suc k, q) n) [
    | inl h ↦ m.above_data k q v h is
    | inr h ↦ absurd (let no = nothing (suc k, q) h in cc)
  ];
  ends = ends-none pages root (IsUnder below first last) (IsUnder below first (last + 1)) count
      (λ b n. elim (range-step below first last b n) [ inl h ↦ inl h | inr h ↦ inr (nothing b h) ])
      (range-left below first last) m.ends;
}
  where
    root : Root
    root = Tree height top

    nothing : (b : ℕ × ℕ) → IsUnder below last (suc last) b → places pages root b ≡ None
    nothing = one-under pages height top below last low none

-- a slot whose block is met, and all under it
pub under-some : (pages : Pages) (height top below first last : ℕ) (old now new : List Bool)
    (before : Option ℕ)
    (count : ℕ) → first ≤ last
    → IsMetUnder pages (Tree height top) below first last old now before
    → IsMetUnder pages (Tree height top) below last (suc last) now new (Some count)
    → IsMetUnder pages (Tree height top) below first (last + 1) old new (Some count)
under-some pages height top below first last old now new before count rises m k = record {
  met =
      joined pages root (IsUnder below first last) (IsUnder below last (suc last))
      (IsUnder below first (last + 1))
      (range-step below first last)
      (range-left below first last) (range-right below first last rises) old now new m.met k.met;
  above_data = λ l q v n is. elim (range-step below first last (suc l, q) n) [
    | inl h ↦ m.above_data l q v h is
    | inr h ↦ k.above_data l q v h is
  ];
  ends = ends-past pages root (IsUnder below last (suc last)) (IsUnder below first (last + 1)) count past
      (range-right below first last rises) k.ends;
}
  where
    root : Root
    root = Tree height top

    past : (i : ℕ) → count ≤ i → IsUnder below first (last + 1) (0, i) → IsUnder below last (suc last) (0, i)
    past i high n = elim (range-step below first last (0, i) n) [
      | inl h ↦ absurd (
          let end = k.ends.is in let from = k.ends.visited.from in let under = h.below in
          let rise = above-rises (below - 0) k.ends.last i (omega (arith, end, high)) in
          omega (arith, from, under, rise))
      | inr h ↦ h
    ]

-- where no data stands under the slots of a node, and each node under them stands above data, they name nothing
empty-slots : (pages : Pages) (height top below offset : ℕ) (mid new : List Bool)
    → IsMetUnder pages (Tree height top) below (128 * offset) (128 * offset + 128) mid new None
    → (s : ℕ) → s < 128 → place_at pages (Tree height top) below (128 * offset + s) ≡ None
empty-slots pages height top below offset mid new m s within =
    by below refl (place_at pages root below (128 * offset + s)) refl
  where
    root : Root
    root = Tree height top

    no-data : (i : ℕ) → i / 128 ^ below ≡ 128 * offset + s → place_at pages root 0 i ≡ None
    no-data i over =
        let power : i / 128 ^ (below - 0) ≡ i / 128 ^ below = ap (λ (d : ℕ). i / 128 ^ d) (omega arith) in
        m.ends i (record {
          low = omega arith;
          from = omega (arith, power, over);
          below = omega (arith, power, over, within);
        })

    by : (k : ℕ) → below ≡ k → (o : Option ℕ) → place_at pages root below (128 * offset + s) ≡ o
        → place_at pages root below (128 * offset + s) ≡ None
    by k e None is = is
    by zero e (Some v) is =
        let here = ap (λ (k : ℕ). place_at pages root k (128 * offset + s)) e in
        let over : (128 * offset + s) / 128 ^ below ≡ 128 * offset + s =
        ap (λ (k : ℕ). (128 * offset + s) / 128 ^ k) e ∙ div-one (128 * offset + s) in
        here ∙ no-data (128 * offset + s) over
    by (suc k) e (Some v) is =
        let here = ap (λ (k : ℕ). place_at pages root k (128 * offset + s)) e in
        let same = above-same below (suc k) (128 * offset + s) (sym e) in
        let d = m.above_data k (128 * offset + s) v (record {
          low = omega (arith, e);
          from = omega (arith, same);
          below = omega (arith, same, within);
        }) (sym here ∙ is) in
        absurd (no-some (place_at pages root 0 d.0) d.2
        (no-data d.0 (ap (λ (x : ℕ). d.0 / 128 ^ x) e ∙ d.1)))

module _ (pages : Pages) (height top level below offset number : ℕ) (e : level ≡ suc below)
    (stands : place_at pages (Tree height top) level offset ≡ Some number) where
  abbrev root : Root
  root = Tree height top

  abbrev Node : ℕ × ℕ → Type 0
  Node b = b ≡ (level, offset)

  -- the next slot names nothing
  pub next-none : (s : ℕ) (page : List ℕ) (old now : List Bool) (count : Option ℕ) → level ≤ height
      → pages number ≡ Some page → s < 128 → slot s page ≡ None
      → IsMetUnder pages (Tree height top) below (128 * offset) (128 * offset + s) old now count
      → IsMetUnder pages (Tree height top) below (128 * offset) (128 * offset + (s + 1)) old now count
  next-none s page old now count low stored within none m =
      let next : 128 * offset + s + 1 ≡ 128 * offset + (s + 1) = omega arith in
      subst (λ (bound : ℕ). IsMetUnder pages root below (128 * offset) bound old now count) next
      (under-none pages height top below (128 * offset) (128 * offset + s) old now count
      (omega (arith, low, e))
      (omega arith)
      (slot-child pages height top level below offset number s page e low stands stored within ∙ none) m)

  -- it names a block, which is met, and all under it
  pub next-some : (s : ℕ) (old now new : List Bool) (before : Option ℕ) (count : ℕ)
      → IsMetUnder pages (Tree height top) below (128 * offset) (128 * offset + s) old now before
      → IsMetUnder pages (Tree height top) below (128 * offset + s) (suc (128 * offset + s)) now new
      (Some count)
      → IsMetUnder pages (Tree height top) below (128 * offset) (128 * offset + (s + 1)) old new (Some count)
  next-some s old now new before count m k =
      let next : 128 * offset + s + 1 ≡ 128 * offset + (s + 1) = omega arith in
      subst (λ (bound : ℕ). IsMetUnder pages root below (128 * offset) bound old new (Some count)) next
      (under-some pages height top below (128 * offset) (128 * offset + s) old now new before count
      (omega arith) m k)

  -- a node is met, and then all under it
  pub met-node : (old mid new : List Bool) (count : ℕ) → Meets pages number old mid
      → IsMetUnder pages (Tree height top) below (128 * offset) (128 * offset + 128) mid new (Some count)
      → IsMetUnder pages (Tree height top) level offset (suc offset) old new (Some count)
  met-node old mid new count meets m = record {
    met = joined pages root Node (Slots level below offset e) (Whole level below offset e)
        (whole-step level below offset e) (node-whole level below offset e)
        (λ b n. slots-whole level below offset e b (128 * offset + 128) (omega arith) n) old mid new
        (met-one pages root (level, offset) number old mid stands meets) m.met;
    above_data = λ k q v n is. elim (whole-step level below offset e (suc k, q) n) [
      | inl here ↦ (
        m.ends.last,
        (
            let over = above-next level below 0 m.ends.last e (omega arith) in
            let from = m.ends.visited.from in
            let under = m.ends.visited.below in
            let at : suc k ≡ level = ap (λ (x : ℕ × ℕ). x.0) here in
            let place : q ≡ offset = ap (λ (x : ℕ × ℕ). x.1) here in
            let power : m.ends.last / 128 ^ suc k ≡ m.ends.last / 128 ^ (level - 0) = ap (λ
            (x : ℕ). m.ends.last / 128 ^ x) (omega (arith, at)) in
            omega (arith, over, from, under, place, power)
            ),
        m.ends.has_data,
      )
      | inr h ↦ m.above_data k q v h is
    ];
    ends = ends-past pages root (Slots level below offset e) (Whole level below offset e) count past
        (λ b n. slots-whole level below offset e b (128 * offset + 128) (omega arith) n) m.ends;
  }
    where
      past : (i : ℕ) → count ≤ i → Whole level below offset e (0, i) → Slots level below offset e (0, i)
      past i high n = elim (whole-step level below offset e (0, i) n) [
        | inl here ↦ absurd (let at = ap (λ (x : ℕ × ℕ). x.0) here in omega (arith, at, e))
        | inr h ↦ h
      ]

  -- a node that names nothing
  pub no-empty-node : (old mid new : List Bool)
      → IsMetUnder pages (Tree height top) below (128 * offset) (128 * offset + 128) mid new None
      → IsRefusalAt pages (Tree height top) (IsUnder level offset (suc offset)) old EmptyNode
  no-empty-node old mid new m = (
    refl,
    below,
    offset,
    subst (λ (o : Option ℕ). IsSome o)
        (sym (ap (λ (k : ℕ). place_at pages root k offset) (sym e) ∙ stands)) refl,
    empty-slots pages height top below offset mid new m,
  )

  -- what is wrong with a child and what is under it
  pub child-refused : (old mid now : List Bool) (s : ℕ) (count : Option ℕ) (why : WalkError) → s < 128
      → Meets pages number old mid
      → IsMetUnder pages (Tree height top) below (128 * offset) (128 * offset + s) mid now count
      → IsRefusalAt pages (Tree height top) (IsUnder below (128 * offset + s) (suc (128 * offset + s))) now why
      → IsRefusalAt pages (Tree height top) (IsUnder level offset (suc offset)) old why
  child-refused old mid now s count why within meets m h =
      let next : suc (128 * offset + s) ≡ 128 * offset + s + 1 = omega arith in
      refusal-more pages root Child (IsUnder level offset (suc offset))
      (λ b n. slots-whole level below offset e b (128 * offset + s + 1) (omega (arith, within))
      (range-right below (128 * offset) (128 * offset + s) (omega arith) b n)) old why
      (refusal-before pages root Child Node old mid
      (λ b is n. node-apart level below offset e (128 * offset + s) (suc (128 * offset + s)) b is n)
      (met-one pages root (level, offset) number old mid stands meets) why
      (refusal-before pages root Child (IsUnder below (128 * offset) (128 * offset + s)) mid now
      (range-apart below (128 * offset) (128 * offset + s)) m.met why h))
    where
      Child : ℕ × ℕ → Type 0
      Child = IsUnder below (128 * offset + s) (suc (128 * offset + s))

module _ (pages : Pages) (level offset number slots : ℕ) (old mid new : List Bool) (high : level ≡ 0 → ⊥)
    (all : slots ≡ 128) where
  abbrev Walked : Option ℕ → Type 0
  Walked count =
      (height top : ℕ) → level ≤ height → place_at pages (Tree height top) level offset ≡ Some number
      → IsMetUnder pages (Tree height top) (level - 1) (128 * offset) (128 * offset + slots) mid new count

  whole-node : (height top : ℕ) (count : Option ℕ)
      → IsMetUnder pages (Tree height top) (level - 1) (128 * offset)
      (128 * offset + slots) mid new count
      → IsMetUnder pages (Tree height top) (level - 1) (128 * offset) (128 * offset + 128) mid new count
  whole-node height top count m =
      subst (λ (s : ℕ). IsMetUnder pages (Tree height top) (level - 1) (128 * offset)
      (128 * offset + s) mid new count) all m

  -- a node whose slots are all looked at
  pub node-yes : Meets pages number old mid → (count : ℕ) → Walked (Some count) → (height top : ℕ)
      → level ≤ height → place_at pages (Tree height top) level offset ≡ Some number
      → IsMetUnder pages (Tree height top) level offset (suc offset) old new (Some count)
  node-yes meets count walked height top low stands =
      met-node pages height top level (level - 1) offset number
      (omega (arith, high)) stands old mid new count meets
      (whole-node height top (Some count) (walked height top low stands))

  pub node-no : Walked None → (height top : ℕ) → level ≤ height
      → place_at pages (Tree height top) level offset ≡ Some number
      → IsRefusalAt pages (Tree height top) (IsUnder level offset (suc offset)) old EmptyNode
  node-no walked height top low stands =
      no-empty-node pages height top level (level - 1) offset number (omega (arith, high)) stands old mid new
      (whole-node height top None (walked height top low stands))

-- the block itself can't be met
pub no-block-there : (pages : Pages) (height top level offset number : ℕ) (old : List Bool) (why : WalkError)
    → place_at pages (Tree height top) level offset ≡ Some number → CanNotMeet pages number old why
    → IsRefusalAt pages (Tree height top) (IsUnder level offset (suc offset)) old why
no-block-there pages height top level offset number old why stands can_not =
    let over : offset / 128 ^ (level - level) ≡ offset = above-same level level offset refl in
    refused-here pages (Tree height top) (IsUnder level offset (suc offset)) (level, offset) number old why
    (record { low = omega arith; from = omega (arith, over); below = omega (arith, over) }) stands can_not

-- ---- a whole tree

pub no-tree-top : (pages : Pages) (height top : ℕ) (old : List Bool) → top ≡ 0
    → IsWalkRefusal pages (Tree height top) old NoNode
no-tree-top pages height top old zero_is = ((λ e. cc), tree-top pages height top ∙ ap numbered zero_is)

pub no-level : (pages : Pages) (height top : ℕ) (old : List Bool) → height ≡ 0
    → IsWalkRefusal pages (Tree height top) old TooHigh
no-level pages height top old zero_is = (refl, inl zero_is)

-- all data stands below the first child of the top
pub no-lower-tree : (pages : Pages) (height lower top count : ℕ) (old new : List Bool) → height ≡ suc lower
    → 1 ≤ lower
    → count ≤ 128 ^ lower
    → IsMetUnder pages (Tree height top) height 0 1 old new (Some count)
    → IsWalkRefusal pages (Tree height top) old TooHigh
no-lower-tree pages height lower top count old new e one few m = (refl, inr (lower, e, one, past))
  where
    past : (i : ℕ) → 128 ^ lower ≤ i → place_at pages (Tree height top) 0 i ≡ None
    past i far = elim (under-top pages height top (0, i)) [
      | inl h ↦ m.ends.none_past i (omega (arith, far, few)) h
      | inr none ↦ none
    ]

pub walked-tree : (pages : Pages) (height lower top count : ℕ) (old new : List Bool) → height ≡ suc lower
    → (top ≡ 0 → ⊥)
    → (1 ≤ lower → 128 ^ lower < count)
    → IsMetUnder pages (Tree height top) height 0 1 old new (Some count)
    → IsWalked pages (Tree height top) old new count
walked-tree pages height lower top count old new e some many m = record {
  can = can-met pages root old new shape whole;
  met = whole;
  sized = record {
    count = count;
    is = refl;
    none_past = λ i high. no-block pages root i (past i high);
    last = inr (m.ends.last, (let is = m.ends.is in omega (arith, is)), m.ends.has_data);
  };
}
  where
    root : Root
    root = Tree height top

    past : (i : ℕ) → count ≤ i → place_at pages root 0 i ≡ None
    past i high =
        elim (under-top pages height top (0, i)) [ inl h ↦ m.ends.none_past i high h | inr none ↦ none ]

    whole : HasMet pages root IsAny old new
    whole = all-met pages root old new (IsUnder height 0 1) (under-top pages height top) m.met

    least : (h : ℕ) → 1 ≤ h → m.ends.last < 128 ^ h → height ≤ h
    least h one near = elim (cases_lt lower 1) [
      | inl low ↦ omega (arith, low, e, one)
      | inr high ↦ (let far = many high in let is = m.ends.is in
          let more = beyond-lower lower m.ends.last (omega (arith, far, is)) h near in omega (arith, more, e))
    ]

    shape : HasShape pages root
    shape = record {
      stored = λ level offset v is. whole.stored (level, offset) v tt is;
      has_top = λ k. subst (λ (o : Option ℕ). IsSome o) (sym (top-place pages height top some)) refl;
      ends_full = λ k. cc;
      tree_shape = λ k. record {
        low = omega (arith, e);
        above_data = λ level offset v is. m.above_data level offset v (under-there pages height top
            (suc level, offset) v is) is;
        least = (m.ends.last, m.ends.has_data, least);
      };
    }
