-- Two ways to put changes into a file that lead to the same blocks: they write the same places, under the
-- same numbers, and give one root.
use Rattle.std.proofs.Common.{◌≡◌, ◌≢◌, ◌⊎◌, ℕ, zero, suc, ◌/◌, ◌^◌, ◌<◌, ◌≤◌, List, [], ◌∷◌, ◌++◌, Option, Some, None, refl, ap, sym, subst, ◌∙◌, arith, inl, inr}
use Rattle.std.specs.List.{Contains}
use Rattle.std.specs.Option.{IsSome, option_and_then}
use Rattle.std.proofs.lemmas.Bool.{both_ways, cases_lt}
use Rattle.std.proofs.lemmas.List.{append-nil}
use Rattle.nl_types.specs.Facts.Births.{uncons}
use Rattle.nl_types.specs.Blocks.Entries.{Birth, Content, number_of}
use Rattle.nl_types.specs.Blocks.Roots.{Chain, Empty, NoBlocks, OfChain, OfTree, Pages, Root, RootKind, Tree, height_of, kind_of, numbered, page_at, pages_of, place_at}
use Rattle.nl_types.specs.Blocks.RootChanges.{InPayloadOrder, IsAt, IsSound, IsWrittenPlace, KeepsFile, NodeWritten, PrecedesInPayload, born, new_kind, of_chain, of_tree, was_absent}
use Rattle.nl_vstore.specs.Batches.{Changes, IsLowestFree, TakeLowestFree}
use Rattle.nl_blocktree.specs.declared.change.BlockChange.{BlockChange}
use Rattle.nl_blocktree.specs.Putting.{IsWrittenKind, PutsAll, pages_after}
use Rattle.nl_blocktree.specs.Facts.Frames.{births-keep, cases-Option, keeps-file}
use Rattle.nl_blocktree.specs.Facts.Numbers.{born-append, free-same}
use Rattle.nl_blocktree.specs.Facts.Pairwise.{pairs-head, pairs-tail}
use Rattle.nl_blocktree.specs.Facts.TreeLevels.{below_power, node_above, tree_above, tree_top}
use Rattle.nl_blocktree.specs.Facts.Staying.{some-is, some-of, unwritten}

-- ---- lists in payload order

abbrev IsSamePlace : Birth → Birth → Type 0
IsSamePlace a b = (a.place.level ≡ b.place.level) × (a.place.offset ≡ b.place.offset)

abbrev SamePlaces : List Birth → List Birth → Type 0
SamePlaces [] [] = Unit {0}
SamePlaces [] (y ∷ ys) = ⊥
SamePlaces (x ∷ xs) [] = ⊥
SamePlaces (x ∷ xs) (y ∷ ys) = IsSamePlace x y × SamePlaces xs ys

abbrev StandAmong : List Birth → List Birth → Type 0
StandAmong xs ys = (x : Birth) → Contains xs x → (y : Birth) × Contains ys y × IsSamePlace x y

not_both : (a b c d : Birth) → PrecedesInPayload a b → PrecedesInPayload c d → IsSamePlace a d
    → IsSamePlace b c → ⊥
not_both a b c d p q r s = elim p [
  | inl l ↦ elim q [
    | inl m ↦ omega (arith, l, m, r.0, s.0)
    | inr m ↦ omega (arith, l, m.0, r.0, s.0)
  ]
  | inr l ↦ elim q [
    | inl m ↦ omega (arith, l.0, m, r.0, s.0)
    | inr m ↦ omega (arith, l.1, m.1, r.1, s.1)
  ]
]

not_same : (a b : Birth) → PrecedesInPayload a b → IsSamePlace a b → ⊥
not_same a b p s = elim p [
  | inl l ↦ omega (arith, l, s.0)
  | inr l ↦ omega (arith, l.1, s.1)
]

head_in : (x : Birth) (xs : List Birth) → Contains (x ∷ xs) x
head_in x xs = (0, omega arith, refl)

tail_in : (x : Birth) (xs : List Birth) (y : Birth) → Contains xs y → Contains (x ∷ xs) y
tail_in x xs y c = (suc c.0, (let l = c.1 in omega arith), c.2)

none_in : (x : Birth) → Contains [] x → ⊥
none_in x c = let l = c.1 in omega arith

same_turned : (a b : Birth) → IsSamePlace a b → IsSamePlace b a
same_turned a b s = (sym s.0, sym s.1)

same_by : (a b c : Birth) → IsSamePlace a b → IsSamePlace a c → IsSamePlace b c
same_by a b c s t = (sym s.0 ∙ t.0, sym s.1 ∙ t.1)

sorted-same : (xs ys : List Birth) → InPayloadOrder xs → InPayloadOrder ys → StandAmong xs ys
    → StandAmong ys xs → SamePlaces xs ys
sorted-same [] [] a b there back = tt
sorted-same [] (y ∷ ys) a b there back = let r = back y (head_in y ys) in absurd (none_in r.0 r.1)
sorted-same (x ∷ xs) [] a b there back = let r = there x (head_in x xs) in absurd (none_in r.0 r.1)
sorted-same (x ∷ xs) (y ∷ ys) a b there back = (
  heads,
  sorted-same xs ys (pairs-tail PrecedesInPayload x xs a) (pairs-tail PrecedesInPayload y ys b)
      (λ z c. later z c (there z (tail_in x xs z c))) (λ z c. sooner z c (back z (tail_in y ys z c))),
)
  where
    heads : IsSamePlace x y
    heads =
        let r = there x (head_in x xs) in
        elim (uncons y ys r.0 r.1) [
          | inl e ↦ subst (λ (z : Birth). IsSamePlace x z) (sym e) r.2
          | inr c ↦
              let s = back y (head_in y ys) in
              elim (uncons x xs s.0 s.1) [
                | inl e ↦ same_turned y x (subst (λ (z : Birth). IsSamePlace y z) (sym e) s.2)
                | inr d ↦
                    absurd (not_both x s.0 y r.0 (pairs-head PrecedesInPayload x xs a s.0 d)
                    (pairs-head PrecedesInPayload y ys b r.0 c) r.2 (same_turned y s.0 s.2))
              ]
        ]

    later : (z : Birth) → Contains xs z → ((w : Birth) × Contains (y ∷ ys) w × IsSamePlace z w)
        → (w : Birth) × Contains ys w × IsSamePlace z w
    later z c r = elim (uncons y ys r.0 r.1) [
      | inl e ↦
          absurd (not_same x z (pairs-head PrecedesInPayload x xs a z c)
          (same_turned z x
          (same_by y z x (same_turned z y (subst (λ (w : Birth). IsSamePlace z w) (sym e) r.2))
          (same_turned x y heads))))
      | inr d ↦ (r.0, d, r.2)
    ]

    sooner : (z : Birth) → Contains ys z → ((w : Birth) × Contains (x ∷ xs) w × IsSamePlace z w)
        → (w : Birth) × Contains xs w × IsSamePlace z w
    sooner z c r = elim (uncons x xs r.0 r.1) [
      | inl e ↦
          absurd (not_same y z (pairs-head PrecedesInPayload y ys b z c)
          (same_turned z y
          (same_by x z y (same_turned z x (subst (λ (w : Birth). IsSamePlace z w) (sym e) r.2)) heads)))
      | inr d ↦ (r.0, d, r.2)
    ]

-- ---- numbers

one-lowest : (content : Content) (before : List Birth) (v w : ℕ) → IsLowestFree content before v
    → IsLowestFree content before w → v ≡ w
one-lowest content before v w a b = elim (cases_lt v w) [
  | inl l ↦ absurd (both_ways _ a.free (b.lowest v a.positive l))
  | inr l ↦ elim (cases_lt w v) [
    | inl m ↦ absurd (both_ways _ b.free (a.lowest w b.positive m))
    | inr m ↦ omega (arith, l, m)
  ]
]

same-numbers : (content : Content) (one other xs ys : List Birth) → born one ≡ born other → SamePlaces xs ys
    → TakeLowestFree content one xs → TakeLowestFree content other ys → born xs ≡ born ys
same-numbers content one other [] [] o s n m = refl
same-numbers content one other [] (y ∷ ys) o s n m = absurd s
same-numbers content one other (x ∷ xs) [] o s n m = absurd s
same-numbers content one other (x ∷ xs) (y ∷ ys) o s n m =
    let first : x.number ≡ y.number =
    one-lowest content other x.number y.number (free-same content one other x.number o n.0) m.0 in
    let next : born (one ++ x ∷ []) ≡ born (other ++ y ∷ []) =
    born-append one (x ∷ []) ∙ (both o first ∙ sym (born-append other (y ∷ []))) in
    cons first (same-numbers content (one ++ x ∷ []) (other ++ y ∷ []) xs ys next s.1 n.1 m.1)
  where
    both : {us vs : List ℕ} {a b : ℕ} → us ≡ vs → a ≡ b → us ++ a ∷ [] ≡ vs ++ b ∷ []
    both p q = cc

    cons : {us vs : List ℕ} {a b : ℕ} → a ≡ b → us ≡ vs → a ∷ us ≡ b ∷ vs
    cons p q = cc

-- the birth that stands beside another
beside : (xs ys : List Birth) → SamePlaces xs ys → born xs ≡ born ys → (x : Birth) → Contains xs x
    → (y : Birth) × Contains ys y × IsSamePlace x y × (x.number ≡ y.number)
beside [] ys s e x c = absurd (none_in x c)
beside (z ∷ xs) [] s e x c = absurd s
beside (z ∷ xs) (y ∷ ys) s e x c = elim (uncons z xs x c) [
  | inl h ↦ (
    y,
    head_in y ys,
    subst (λ (w : Birth). IsSamePlace w y) h s.0,
    let n : z.number ≡ y.number = cc in sym (ap number_of h) ∙ n,
  )
  | inr d ↦
      let rest : born xs ≡ born ys = cc in
      let r = beside xs ys s.1 rest x d in
      (r.0, tail_in y ys r.0 r.1, r.2, r.3)
]

-- ---- places of the same blocks

block-some : (pages : Pages) (root : Root) (i : ℕ) → IsSound pages root → IsSome (place_at pages root 0 i)
    → IsSome (page_at pages root i)
block-some pages root i s h =
    let v = some-of _ h in
    let x = some-of _ (s.stored 0 i v.0 v.1) in
    some-is (page_at pages root i) x.0 (ap (option_and_then pages) v.1 ∙ x.1)

place-some : (pages : Pages) (o : Option ℕ) → IsSome (option_and_then pages o) → IsSome o
place-some pages None h = cc
place-some pages (Some n) h = some-is (Some n) n refl

none-empty : (pages : Pages) (level offset : ℕ) → place_at pages Empty level offset ≡ None
unfolding place_at
none-empty pages level offset = refl

-- data stands below a height of nodes
height-over : (pages : Pages) (root : Root) (i : ℕ) → kind_of root ≢ OfChain → IsSound pages root
    → IsSome (place_at pages root 0 i) → (1 ≤ height_of root) × (i < 128 ^ height_of root)
height-over pages Empty i c s h =
    let v = some-of _ h in let no : None ≡ Some v.0 = sym (none-empty pages 0 i) ∙ v.1 in cc
height-over pages (Chain top) i c s h = absurd (c refl)
height-over pages (Tree height top) i c s h =
    let v = some-of _ h in ((s.tree_shape refl).low, below_power pages height top i v.0 v.1)

node-over : (pages : Pages) (root : Root) (i level : ℕ) → kind_of root ≢ OfChain → level ≤ height_of root
    → IsSome (place_at pages root 0 i) → IsSome (place_at pages root level (i / 128 ^ level))
node-over pages Empty i level c l h =
    let v = some-of _ h in let no : None ≡ Some v.0 = sym (none-empty pages 0 i) ∙ v.1 in cc
node-over pages (Chain top) i level c l h = absurd (c refl)
node-over pages (Tree height top) i level c l h =
    let v = some-of _ h in
    let n = node_above pages height top i v.0 v.1 level l in
    some-is (place_at pages (Tree height top) level (i / 128 ^ level)) n.0 n.1

-- what stands on a level of nodes stands above data, within the height
above-data : (pages : Pages) (root : Root) (level offset : ℕ) → kind_of root ≢ OfChain → IsSound pages root
    → IsSome (place_at pages root (suc level) offset) →
    (kind_of root ≡ OfTree) × (suc level ≤ height_of root)
    × ((i : ℕ) × (i / 128 ^ suc level ≡ offset) × IsSome (place_at pages root 0 i))
above-data pages Empty level offset c s h =
    let v = some-of _ h in let no : None ≡ Some v.0 = sym (none-empty pages (suc level) offset) ∙ v.1 in cc
above-data pages (Chain top) level offset c s h = absurd (c refl)
above-data pages (Tree height top) level offset c s h =
    let v = some-of _ h in (
      refl,
      elim (cases_lt height (suc level)) [
        | inl far ↦
            let no : None ≡ Some v.0 = sym (tree_above pages height top (suc level) offset far) ∙ v.1 in cc
        | inr low ↦ low
      ],
      (s.tree_shape refl).above_data level offset v.0 v.1,
    )

module _ (pages more other : Pages) (root new alike : Root) (sound : IsSound more new)
    (sound' : IsSound other alike) (flat : kind_of new ≢ OfChain) (flat' : kind_of alike ≢ OfChain)
    (target : (i : ℕ) → page_at more new i ≡ page_at other alike i) where
  some-data : (i : ℕ) → IsSome (place_at more new 0 i) → IsSome (place_at other alike 0 i)
  some-data i h =
      place-some other (place_at other alike 0 i)
      (subst (λ (o : Option (List ℕ)). IsSome o) (target i) (block-some more new i sound h))

  lower-height : height_of new ≤ height_of alike
  lower-height = at new refl
    where
      at : (r : Root) → r ≡ new → height_of new ≤ height_of alike
      at Empty e = let z = ap height_of e in omega (arith, z)
      at (Chain top) e = absurd (flat (sym (ap kind_of e)))
      at (Tree height top) e =
          let l = (sound.tree_shape (sym (ap kind_of e))).least in
          let o = height-over other alike l.0 flat' sound' (some-data l.0 l.1) in
          l.2 (height_of alike) o.0 o.1

  some-alike : (level offset : ℕ) → IsSome (place_at more new level offset)
      → IsSome (place_at other alike level offset)
  some-alike zero i h = some-data i h
  some-alike (suc level) offset h =
      let r = above-data more new level offset flat sound h in
      let l = lower-height in
      let low : suc level ≤ height_of alike = (let m = r.1 in omega (arith, m, l)) in
      subst (λ (o : ℕ). IsSome (place_at other alike (suc level) o)) r.2.1
      (node-over other alike r.2.0 (suc level) flat' low (some-data r.2.0 r.2.2))

  is-tree : (level offset : ℕ) → IsSome (place_at more new (suc level) offset) → kind_of alike ≡ OfTree
  is-tree level offset h =
      (above-data other alike level offset flat' sound' (some-alike (suc level) offset h)).0

  written-alike : (level offset : ℕ) → IsWrittenPlace pages more root new level offset
      → IsWrittenPlace pages other root alike level offset
  written-alike zero i w = (some-alike 0 i w.0, λ e. w.1 (e ∙ sym (target i)))
  written-alike (suc level) p w = (some-alike (suc level) p w.0, node w.1)
    where
      tree : kind_of new ≡ OfTree
      tree = (above-data more new level p flat sound w.0).0

      tree' : kind_of alike ≡ OfTree
      tree' = is-tree level p w.0

      node : NodeWritten pages more root new (suc level) p → NodeWritten pages other root alike (suc level) p
      node (was_absent e) = was_absent e
      node (new_kind e) = new_kind (λ k. e (k ∙ (tree' ∙ sym tree)))
      node (of_chain k i e) = absurd (flat k)
      node (of_tree k i at e) = of_tree tree' i at (λ x. e (x ∙ sym (target i)))

-- a root is told by its height and its top
one-root : (pages other : Pages) (a b : Root) → kind_of a ≢ OfChain → kind_of b ≢ OfChain → IsSound pages a
    → IsSound other b → height_of a ≡ height_of b
    → ((level : ℕ) → place_at pages a level 0 ≡ place_at other b level 0) → a ≡ b
one-root pages other Empty Empty fa fb sa sb n e = refl
one-root pages other Empty (Tree height t) fa fb sa sb n e =
    let x = some-of _ (sb.has_top (λ k. cc)) in
    let no : None ≡ Some x.0 = sym (none-empty pages height 0) ∙ (e height ∙ x.1) in
    cc
one-root pages other (Tree height t) Empty fa fb sa sb n e =
    let x = some-of _ (sa.has_top (λ k. cc)) in
    let no : None ≡ Some x.0 = sym (none-empty other height 0) ∙ (sym (e height) ∙ x.1) in
    cc
one-root pages other (Tree height t) (Tree h u) fa fb sa sb n e =
    ap (λ (k : ℕ). Tree k t) n ∙ ap (Tree h) (tops t u
    (sym (tree_top pages height t 0)
    ∙ (e height ∙ (ap (λ (k : ℕ). place_at other (Tree h u) k 0) n ∙ tree_top other h u 0)))
    (subst (λ (o : Option ℕ). IsSome o) (tree_top pages height t 0) (sa.has_top (λ k. cc))))
  where
    tops : (t u : ℕ) → numbered t ≡ numbered u → IsSome (numbered t) → t ≡ u
    tops zero u e h = cc
    tops (suc t) zero e h = cc
    tops (suc t) (suc u) e h = cc
one-root pages other (Chain t) b fa fb sa sb n e = absurd (fa refl)
one-root pages other Empty (Chain t) fa fb sa sb n e = absurd (fb refl)
one-root pages other (Tree height u) (Chain t) fa fb sa sb n e = absurd (fb refl)

-- ---- two ways

-- two batches have given the same numbers, and two roots are one
abbrev pub SameBatchAndRoot : Changes → Changes → Root → Root → Type 0
SameBatchAndRoot one two root other = (born one.births ≡ born two.births) × (root ≡ other)

module _ (content : Content) (inode : ℕ) (root one other : Root) (changes changes' : List BlockChange)
    (before after before' after' : Changes)
    (p : PutsAll content inode root one changes before after)
    (q : PutsAll content inode root other changes' before' after')
    (flat : kind_of one ≢ OfChain) (flat' : kind_of other ≢ OfChain)
    (target : (i : ℕ)
    → page_at (pages_after content after) one i ≡ page_at (pages_after content after') other i)
    (numbers : born before.births ≡ born before'.births) where
  there : StandAmong p.births q.births
  there x c = turned x (q.rewrites.written_born x.place.level x.place.offset
      (written-alike (pages_of content) (pages_after content after)
      (pages_after content after') root one other p.sound q.sound flat flat' target x.place.level
      x.place.offset
      (p.rewrites.born_written x c)))
    where
      turned : (x : Birth) → ((b : Birth) × Contains q.births b × IsAt b x.place.level x.place.offset)
          → (y : Birth) × Contains q.births y × IsSamePlace x y
      turned x r = (r.0, r.1, (sym r.2.0, sym r.2.1))

  back : StandAmong q.births p.births
  back x c = turned x (p.rewrites.written_born x.place.level x.place.offset
      (written-alike (pages_of content) (pages_after content after')
      (pages_after content after) root other one q.sound p.sound flat' flat
      (λ i. sym (target i)) x.place.level x.place.offset (q.rewrites.born_written x c)))
    where
      turned : (x : Birth) → ((b : Birth) × Contains p.births b × IsAt b x.place.level x.place.offset)
          → (y : Birth) × Contains p.births y × IsSamePlace x y
      turned x r = (r.0, r.1, (sym r.2.0, sym r.2.1))

  same_places : SamePlaces p.births q.births
  same_places = sorted-same p.births q.births p.rewrites.in_order q.rewrites.in_order there back

  same_places' : SamePlaces q.births p.births
  same_places' = sorted-same q.births p.births q.rewrites.in_order p.rewrites.in_order back there

  same_born : born p.births ≡ born q.births
  same_born =
      same-numbers content before.births before'.births p.births q.births numbers same_places p.lowest_free
      q.lowest_free

  -- the batches go on alike
  born-alike : born after.births ≡ born after'.births
  born-alike =
      ap born p.births_are
      ∙ (born-append before.births p.births
      ∙ (both numbers same_born ∙ (sym (born-append before'.births q.births) ∙ sym (ap born q.births_are))))
    where
      both : {us vs ws xs : List ℕ} → us ≡ vs → ws ≡ xs → us ++ ws ≡ vs ++ xs
      both a b = cc

  same-place : (level offset v w : ℕ) → place_at (pages_after content after) one level offset ≡ Some v
      → place_at (pages_after content after') other level offset ≡ Some w → v ≡ w
  same-place level offset v w e f = elim (p.rewrites.born_or_kept level offset v e) [
    | inl b ↦
        let r = beside p.births q.births same_places same_born b.0 b.1 in
        let here : v ≡ b.0.number =
        one_number (sym e
        ∙ at_own (pages_after content after) one b.0 level offset b.2
        (p.rewrites.born_placed b.0 b.1)) in
        let over : w ≡ r.0.number =
        one_number (sym f
        ∙ at_own (pages_after content after') other r.0 level offset
        (sym r.2.0 ∙ b.2.0, sym r.2.1 ∙ b.2.1) (q.rewrites.born_placed r.0 r.1)) in
        here ∙ (r.3 ∙ sym over)
    | inr old ↦ elim (q.rewrites.born_or_kept level offset w f) [
      | inl b ↦
          let r = beside q.births p.births same_places' (sym same_born) b.0 b.1 in
          let here : w ≡ b.0.number =
          one_number (sym f
          ∙ at_own (pages_after content after') other b.0 level offset b.2
          (q.rewrites.born_placed b.0 b.1)) in
          let over : v ≡ r.0.number =
          one_number (sym e
          ∙ at_own (pages_after content after) one r.0 level offset
          (sym r.2.0 ∙ b.2.0, sym r.2.1 ∙ b.2.1) (p.rewrites.born_placed r.0 r.1)) in
          over ∙ (sym r.3 ∙ sym here)
      | inr old' ↦ one_number (sym old ∙ old')
    ]
  ]
    where
      one_number : {a b : ℕ} → Some a ≡ Some b → a ≡ b
      one_number h = cc

      at_own : (pages : Pages) (r : Root) (b : Birth) (l o : ℕ) → IsAt b l o
          → place_at pages r b.place.level b.place.offset ≡ Some b.number
          → place_at pages r l o ≡ Some b.number
      at_own pages r b l o at e =
          subst (λ (k : ℕ). place_at pages r k o ≡ Some b.number) at.0
          (subst (λ (k : ℕ). place_at pages r b.place.level k ≡ Some b.number) at.1 e)

  places-alike : (level offset : ℕ)
      → place_at (pages_after content after) one level offset
      ≡ place_at (pages_after content after') other level offset
  places-alike level offset = elim (cases-Option (place_at (pages_after content after) one level offset)) [
    | inl e ↦ elim (cases-Option (place_at (pages_after content after') other level offset)) [
      | inl f ↦ e ∙ sym f
      | inr w ↦
          let s =
          some-alike (pages_of content) (pages_after content after')
          (pages_after content after) root other one q.sound p.sound flat' flat
          (λ i. sym (target i)) level offset (some-is _ w.0 w.1) in
          let x = some-of _ s in
          let no : None ≡ Some x.0 = sym e ∙ x.1 in cc
    ]
    | inr v ↦
        let s =
        some-alike (pages_of content) (pages_after content after)
        (pages_after content after') root one other p.sound q.sound flat flat' target level offset
        (some-is _ v.0 v.1) in
        let w = some-of _ s in
        v.1 ∙ (ap Some (same-place level offset v.0 w.0 v.1 w.1) ∙ sym w.1)
  ]

  same-height : height_of one ≡ height_of other
  same-height =
      let a =
      lower-height (pages_of content) (pages_after content after)
      (pages_after content after') root one other p.sound q.sound flat flat' target in
      let b =
      lower-height (pages_of content) (pages_after content after')
      (pages_after content after) root other one q.sound p.sound flat' flat (λ i. sym (target i)) in
      omega (arith, a, b)

  trees-alike : SameBatchAndRoot after after' one other
  trees-alike = (
    born-alike,
    one-root (pages_after content after)
        (pages_after content after') one other flat flat' p.sound q.sound same-height
        (λ level. places-alike level 0),
  )

is_flat : (kind : RootKind) → IsWrittenKind kind → kind ≢ OfChain
is_flat NoBlocks k = λ e. cc
is_flat OfChain k = absurd k
is_flat OfTree k = λ e. cc

-- a root that was there before is sound, and its numbers have their pages still
old-stays : (content : Content) (inode : ℕ) (root new : Root) (changes : List BlockChange)
    (before after : Changes)
    → PutsAll content inode root new changes before after →
    IsSound (pages_of content) root → KeepsFile (pages_of content) (pages_after content after) root
old-stays content inode root new changes before after p sound =
    keeps-file (pages_of content) (pages_after content after) root
    (births-keep content after.births p.unused) sound

-- where the root stays nothing is written
none-born : (content : Content) (inode : ℕ) (root new : Root) (changes : List BlockChange)
    (before after : Changes)
    → PutsAll content inode root new changes before after →
    IsSound (pages_of content) root → new ≡ root → born after.births ≡ born before.births
none-born content inode root new changes before after p sound same =
    ap born (p.births_are
    ∙ (ap (λ (bs : List Birth). before.births ++ bs) (none p.births (λ b c. nothing b c))
    ∙ append-nil before.births))
  where
    keeps : KeepsFile (pages_of content) (pages_after content after) root
    keeps = old-stays content inode root new changes before after p sound

    nothing : (b : Birth) → Contains p.births b → ⊥
    nothing b c =
        unwritten (pages_of content)
        (pages_after content after) root keeps.places keeps.blocks b.place.level b.place.offset
        (subst (λ (r : Root).
        IsWrittenPlace (pages_of content) (pages_after content after) root r b.place.level b.place.offset)
        same
        (p.rewrites.born_written b c))

    none : (bs : List Birth) → ((b : Birth) → Contains bs b → ⊥) → bs ≡ []
    none [] h = refl
    none (b ∷ bs) h = absurd (h b (head_in b bs))

-- where one way leaves the root, the other does
root-stays : (content : Content) (inode : ℕ) (root one other : Root) (changes changes' : List BlockChange)
    (before after before' after' : Changes)
    →
    PutsAll content inode root one changes before after
    → PutsAll content inode root other changes' before' after' → IsSound (pages_of content) root →
    ((i : ℕ) → page_at (pages_after content after) one i ≡ page_at (pages_after content after') other i)
    → born before.births ≡ born before'.births →
    one ≡ root → SameBatchAndRoot after after' one other
root-stays content inode root one other changes changes' before after before' after' p q sound target numbers
    same = (
      none-born content inode root one changes before after p sound same
          ∙ (numbers ∙ sym (none-born content inode root other changes' before' after' q sound also)),
      same ∙ sym also,
    )
  where
    also : other ≡ root
    also =
        q.same_root (λ i.
        sym (target i)
        ∙ (ap (λ (r : Root). page_at (pages_after content after) r i) same
        ∙ (old-stays content inode root one changes before after p sound).blocks i))

pub put-alike : (content : Content) (inode : ℕ) (root one other : Root) (changes changes' : List BlockChange)
    (before after before' after' : Changes)
    →
    PutsAll content inode root one changes before after
    → PutsAll content inode root other changes' before' after' → IsSound (pages_of content) root →
    ((i : ℕ) → page_at (pages_after content after) one i ≡ page_at (pages_after content after') other i)
    → born before.births ≡ born before'.births →
    SameBatchAndRoot after after' one other
put-alike content inode root one other changes changes' before after before' after' p q sound target numbers =
    by p.kind q.kind
  where
    by : (one ≡ root) ⊎ IsWrittenKind (kind_of one) → (other ≡ root) ⊎ IsWrittenKind (kind_of other)
        → SameBatchAndRoot after after' one other
    by (inl same) k =
        root-stays content inode root one other changes changes' before after before' after' p q sound target
        numbers same
    by (inr h) (inl same) =
        let r =
        root-stays content inode root other one changes' changes before' after' before after q p sound
        (λ i. sym (target i)) (sym numbers) same in
        (sym r.0, sym r.1)
    by (inr h) (inr k) =
        trees-alike content inode root one other changes changes' before after before' after' p q
        (is_flat (kind_of one) h) (is_flat (kind_of other) k) target numbers
