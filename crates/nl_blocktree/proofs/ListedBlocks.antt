-- The blocks of a file are listed, place by place and level by level.
use Rattle.std.proofs.Common.{◌≡◌, ◌⊎◌, ℕ, zero, suc, ◌+◌, ◌*◌, ◌<◌, ◌≤◌, List, [], ◌∷◌, ◌++◌, get_or, Option, Some, None, refl, ap, sym, subst, ◌∙◌, inl, inr, arith}
use Rattle.std.specs.List.{Contains}
use Rattle.std.proofs.lemmas.Bool.{cases_lt}
use Rattle.std.proofs.lemmas.List.Elements.{Contains-append_cases, Contains-append_left, Contains-get_or, Contains-push}
use Rattle.std.proofs.lemmas.List.Quantifiers.{all_pairs_push}
use Rattle.nl_types.specs.Blocks.Roots.{Chain, Empty, Pages, Root, Tree, height_of, place_at}
use Rattle.nl_blocktree.specs.FileShapes.{HasShape, IsSizeOf}
use Rattle.nl_blocktree.specs.Listed.{AreAllBlocks, StandsBefore}
use Rattle.nl_blocktree.specs.declared.placed.PlacedBlock.{PlacedBlock}
use Rattle.nl_blocktree.specs.Private.Listing.{AreBlocksBefore, IsBefore, block_at, with_block}
use Rattle.nl_blocktree.specs.Facts.LowOffsets.{data-low, low-offsets}
use Rattle.nl_blocktree.specs.Facts.MetPlaces.{empty-place}
use Rattle.nl_blocktree.specs.Facts.Pairwise.{in_lone}
use Rattle.nl_blocktree.specs.Facts.Reading.{above}
use Rattle.nl_blocktree.specs.Facts.TreeLevels.{tree_above}

module _ (pages : Pages) (root : Root) where
  pub listing-start : AreBlocksBefore pages root 0 0 []
  listing-start = record {
    placed = λ b c. absurd (let low = c.1 in omega (arith, low));
    before = λ b c. absurd (let low = c.1 in omega (arith, low));
    listed = λ l o v before at.
        elim before [ inl low ↦ absurd (omega (arith, low)) | inr h ↦ absurd (let low = h.1 in omega (arith, low)) ];
    in_order = λ i j d l m. absurd (omega arith);
  }

  module _ (level offset : ℕ) (blocks : List PlacedBlock) (u : AreBlocksBefore pages root level offset blocks) where
    further : (l o : ℕ) → IsBefore l o level offset → IsBefore l o level (offset + 1)
    further l o (inl low) = inl low
    further l o (inr (e, low)) = inr (e, omega (arith, low))

    step : (l o : ℕ) → IsBefore l o level (offset + 1)
        → IsBefore l o level offset ⊎ ((l ≡ level) × (o ≡ offset))
    step l o (inl low) = inl (inl low)
    step l o (inr (e, low)) = elim (cases_lt o offset) [
      | inl less ↦ inl (inr (e, less))
      | inr high ↦ inr (e, omega (arith, low, high))
    ]

    -- the place at which the list goes on
    here : (l o : ℕ) → l ≡ level → o ≡ offset → place_at pages root l o ≡ place_at pages root level offset
    here l o e f = ap (λ (k : ℕ). place_at pages root k o) e ∙ ap (place_at pages root level) f

    listing-none : place_at pages root level offset ≡ None
        → AreBlocksBefore pages root level (offset + 1) blocks
    listing-none none = record {
      placed = u.placed;
      before = λ b c. further b.level b.offset (u.before b c);
      listed = λ l o v before at. elim (step l o before) [
        | inl h ↦ u.listed l o v h at
        | inr h ↦ absurd (let same = here l o h.0 h.1 in cc)
      ];
      in_order = u.in_order;
    }

    module _ (number : ℕ) (stands : place_at pages root level offset ≡ Some number) where
      abbrev one : PlacedBlock
      one = block_at level offset number

      first : (b : PlacedBlock) → Contains blocks b → StandsBefore b one
      first b c = u.before b c

      same-place : (b : PlacedBlock) → b ≡ one → place_at pages root b.level b.offset ≡ Some b.number
      same-place b e = subst (λ (x : PlacedBlock). place_at pages root x.level x.offset ≡ Some x.number) (sym e)
          stands

      same-before : (b : PlacedBlock) → b ≡ one → IsBefore b.level b.offset level (offset + 1)
      same-before b e =
          subst (λ (x : PlacedBlock). IsBefore x.level x.offset level (offset + 1)) (sym e)
          (inr (refl, omega arith))

      listing-some : AreBlocksBefore pages root level (offset + 1) (blocks ++ one ∷ [])
      listing-some = record {
        placed = λ b c. elim (Contains-append_cases blocks (one ∷ []) b c) [
          | inl q ↦ u.placed b q
          | inr q ↦ same-place b (in_lone one b q)
        ];
        before = λ b c. elim (Contains-append_cases blocks (one ∷ []) b c) [
          | inl q ↦ further b.level b.offset (u.before b q)
          | inr q ↦ same-before b (in_lone one b q)
        ];
        listed = λ l o v before at. elim (step l o before) [
          | inl h ↦ (let r = u.listed l o v h at in
              (r.0, Contains-append_left blocks (one ∷ []) r.0 r.1, r.2, r.3))
          | inr h ↦ (one, Contains-push blocks one, sym h.0, sym h.1)
        ];
        in_order = all_pairs_push StandsBefore blocks one u.in_order
            (λ k d low. first (get_or blocks k d) (Contains-get_or blocks k d low));
      }

    pub listing-next : (o : Option ℕ) → o ≡ place_at pages root level offset
        → AreBlocksBefore pages root level (offset + 1) (with_block blocks level offset o)
    listing-next None is = listing-none (sym is)
    listing-next (Some number) is = listing-some number (sym is)

  -- all blocks of a level, where none stands from a count on
  pub listing-up : (level count : ℕ) (blocks : List PlacedBlock) → HasShape pages root
      → IsSizeOf pages root (1024 * count) → AreBlocksBefore pages root level count blocks
      → AreBlocksBefore pages root (level + 1) 0 blocks
  listing-up level count blocks shape sized u = record {
    placed = u.placed;
    before = λ b c. elim (u.before b c) [
      | inl low ↦ inl (omega (arith, low))
      | inr h ↦ inl (let same = h.0 in omega (arith, same))
    ];
    listed = λ l o v before at. elim (cases_lt l level) [
      | inl low ↦ u.listed l o v (inl low) at
      | inr high ↦ u.listed l o v (inr (up l o before high, reach l o v at)) at
    ];
    in_order = u.in_order;
  }
    where
      up : (l o : ℕ) → IsBefore l o (level + 1) 0 → level ≤ l → l ≡ level
      up l o (inl low) high = omega (arith, low, high)
      up l o (inr (e, low)) high = absurd (omega (arith, low))

      reach : (l o v : ℕ) → place_at pages root l o ≡ Some v → o < count
      reach l o v at = low-offsets pages root count shape (data-low pages root count shape sized) l o v at

-- nothing stands above the first or topmost node
none-above : (pages : Pages) (root : Root) (level offset : ℕ) → height_of root < level
    → place_at pages root level offset ≡ None
none-above pages Empty level offset high = empty-place pages level offset
none-above pages (Chain top) zero offset high = absurd (omega (arith, high))
none-above pages (Chain top) (suc zero) offset high = absurd (omega (arith, high))
none-above pages (Chain top) (suc (suc level)) offset high = above pages (Chain top) level offset (λ e. cc)
none-above pages (Tree height top) level offset high = tree_above pages height top level offset high

pub listing-whole : (pages : Pages) (root : Root) (level : ℕ) (blocks : List PlacedBlock)
    → height_of root < level → AreBlocksBefore pages root level 0 blocks → AreAllBlocks pages root blocks
listing-whole pages root level blocks high u = record {
  placed = u.placed;
  listed = λ l o v at. elim (cases_lt l level) [
    | inl low ↦ u.listed l o v (inl low) at
    | inr past ↦ absurd (let none = none-above pages root l o (omega (arith, high, past)) in cc)
  ];
  in_order = u.in_order;
}
