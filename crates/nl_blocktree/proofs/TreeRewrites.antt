-- A root that was renewed place by place is rewritten, and stays sound but for its shape.
use Rattle.std.proofs.Common.{◌≡◌, ◌≢◌, ℕ, zero, suc, List, get_or, Some, None, refl, ap, sym, subst, ◌∙◌, arith, inl, inr, ◌⊎◌}
use Rattle.std.specs.List.{Contains}
use Rattle.std.specs.Option.{option_and_then, IsSome}
use Rattle.std.proofs.lemmas.List.Elements.{Contains-append_cases, Contains-append_right, Contains-get_or}
use Rattle.nl_types.specs.Blocks.Entries.{Birth, Content}
use Rattle.nl_types.specs.Blocks.RootChanges.{Includes, IsAt, IsWrittenPlace, NodeWritten, Reaches, RewritesFile, born, new_kind, of_chain, of_tree, places, was_absent, with_births}
use Rattle.nl_types.specs.Blocks.Roots.{OfChain, Pages, Root, kind_of, page_at, pages_of, place_at}
use Rattle.nl_blocktree.specs.Numbering.{IsUnused}
use Rattle.nl_blocktree.specs.Private.Edits.{IsEdited}
use Rattle.nl_blocktree.specs.Private.Renewing.{IsRenewed}
use Rattle.nl_blocktree.specs.Private.TreeLevels.{Levels}
use Rattle.nl_blocktree.specs.Private.Writing.{PlaceBecomes}
use Rattle.nl_blocktree.specs.declared.tree.Edit.{Edit}
use Rattle.nl_blocktree.specs.Private.Writing as shapes
use Rattle.nl_blocktree.specs.Facts.Frames.{births-keep, block-kept, with-some}
use Rattle.nl_blocktree.specs.Facts.Staying.{some-is, some-of}
use Rattle.nl_blocktree.specs.Facts.HeldPages.{unused_page}
use Rattle.nl_blocktree.specs.Facts.Numbers.{born-append, born_in, numbered_unused}
use Rattle.nl_blocktree.proofs.Renewal.{once_after, rewrites_renews}

module _ {content : Content} {inode : ℕ} {root new : Root} {prior : Levels} {asked : List Edit}
    {old all : List Birth} {zs ends : List ℕ}
    (stored : (level offset v : ℕ) → place_at (pages_of content) root level offset ≡ Some v
    → IsSome (pages_of content v))
    (once : (p q : ℕ × ℕ) (v : ℕ) → places (pages_of content) root p ≡ Some v
    → places (pages_of content) root q ≡ Some v → p ≡ q)
    (fresh : IsUnused content old)
    (h : IsRenewed content inode prior (place_at (pages_of content) root)
    (place_at (with_births all (pages_of content)) new) asked old all zs ends)
    (differs : (i : ℕ) → IsEdited asked i
    → page_at (pages_of content) root i ≢ page_at (with_births all (pages_of content)) new i)
    (asked_or_same : (i : ℕ)
    → IsEdited asked i
    ⊎ (page_at (pages_of content) root i ≡ page_at (with_births all (pages_of content)) new i))
    (data_asked : (b : Birth) → Contains h.added b → b.place.level ≡ 0 → IsEdited asked b.place.offset)
    (no_chain : kind_of new ≢ OfChain)
    (why : (b : Birth) → Contains h.added b → (level : ℕ) → b.place.level ≡ suc level
    → NodeWritten (pages_of content) (with_births all (pages_of content)) root new
    (suc level) b.place.offset)
    (moves : kind_of root ≢ kind_of new → (level offset v : ℕ)
    → place_at (pages_of content) root (suc level) offset ≡ Some v
    → place_at (with_births all (pages_of content)) new (suc level) offset ≡ Some v → ⊥) where
  before : Pages
  before = pages_of content

  after : Pages
  after = with_births all (pages_of content)

  used : (v : ℕ) → IsSome (before v) → content v ≡ None → ⊥
  unfolding before
  used v s e =
      let x = some-of (pages_of content v) s in
      let q : None ≡ Some x.0 = sym (unused_page content v e) ∙ x.1 in
      cc

  free : IsUnused content all
  free v k =
      elim (Contains-append_cases (born old) (born h.added) v
      (subst (λ (ns : List ℕ). Contains ns v) (ap born h.births_are ∙ born-append old h.added) k)) [
        | inl q ↦ fresh v q
        | inr q ↦ numbered_unused content old h.added v h.lowest_free q
      ]

  kept : Includes before after
  unfolding before after
  kept = births-keep content all free

  not_none : (level offset : ℕ) → IsSome (place_at after new level offset)
      → place_at after new level offset ≡ None → ⊥
  not_none level offset s e =
      let x = some-of (place_at after new level offset) s in let q : None ≡ Some x.0 = sym e ∙ x.1 in cc

  stays_block : (i : ℕ) → place_at after new 0 i ≡ place_at before root 0 i
      → page_at before root i ≡ page_at after new i
  unfolding before after
  stays_block i e =
      sym (block-kept (pages_of content) (with_births all (pages_of content))
      (place_at (pages_of content) root 0 i) kept (stored 0 i))
      ∙ ap (option_and_then (with_births all (pages_of content))) (sym e)

  -- the births
  born_written : (b : Birth) → Contains h.added b
      → IsWrittenPlace before after root new b.place.level b.place.offset
  unfolding before after
  born_written b k = at b.place.level refl
    where
      at : (level : ℕ) → b.place.level ≡ level
          → IsWrittenPlace (pages_of content)
          (with_births all (pages_of content)) root new b.place.level b.place.offset
      at zero e =
          subst (λ (l : ℕ).
          IsWrittenPlace (pages_of content) (with_births all (pages_of content)) root new l b.place.offset)
          (sym e) (
            some-is (place_at (with_births all (pages_of content)) new 0 b.place.offset) b.number
                (subst
                (λ (l : ℕ).
                place_at (with_births all (pages_of content)) new l b.place.offset ≡ Some b.number)
                e
                (h.placed b k)),
            differs b.place.offset (data_asked b k e),
          )
      at (suc level) e =
          subst (λ (l : ℕ).
          IsWrittenPlace (pages_of content) (with_births all (pages_of content)) root new l b.place.offset)
          (sym e) (
            some-is (place_at (with_births all (pages_of content)) new (suc level) b.place.offset) b.number
                (subst
                (λ (l : ℕ).
                place_at (with_births all (pages_of content)) new l b.place.offset ≡ Some b.number)
                e
                (h.placed b k)),
            why b k level e,
          )

  stays_unwritten : (level offset : ℕ)
      → place_at after new (suc level) offset ≡ place_at before root (suc level) offset
      → IsSome (place_at after new (suc level) offset) →
      NodeWritten before after root new (suc level) offset
      → (b : Birth) × Contains h.added b × IsAt b (suc level) offset
  unfolding before after
  stays_unwritten level offset s some (was_absent e) = absurd (not_none (suc level) offset some (s ∙ e))
  stays_unwritten level offset s some (new_kind e) =
      let x = some-of (place_at (with_births all (pages_of content)) new (suc level) offset) some in
      absurd (moves e level offset x.0 (sym s ∙ x.1) x.1)
  stays_unwritten level offset s some (of_chain e i d) = absurd (no_chain e)
  stays_unwritten level offset s some (of_tree e i at d) = elim (asked_or_same i) [
    | inl k ↦ elim (h.rewritten (suc level) i (omega arith) k) [
      | inl b ↦ (b.0, b.1, (b.2.0, b.2.1 ∙ at))
      | inr z ↦
          absurd (not_none (suc level) offset some
          (ap (place_at (with_births all (pages_of content)) new (suc level)) (sym at) ∙ z))
    ]
    | inr q ↦ absurd (d q)
  ]

  written_born : (level offset : ℕ) → IsWrittenPlace before after root new level offset
      → (b : Birth) × Contains h.added b × IsAt b level offset
  unfolding before after
  written_born zero offset w = elim (h.becomes 0 offset) [
    | shapes.stays s ↦ absurd (w.1 (stays_block offset s))
    | shapes.comes b k at s g ↦ (b, k, at)
    | shapes.goes s g ↦ absurd (not_none 0 offset w.0 s)
  ]
  written_born (suc level) offset w = elim (h.becomes (suc level) offset) [
    | shapes.stays s ↦ stays_unwritten level offset s w.0 w.1
    | shapes.comes b k at s g ↦ (b, k, at)
    | shapes.goes s g ↦ absurd (not_none (suc level) offset w.0 s)
  ]

  born_or_kept : (level offset v : ℕ) → place_at after new level offset ≡ Some v
      → ((b : Birth) × Contains h.added b × IsAt b level offset)
      ⊎ (place_at before root level offset ≡ Some v)
  unfolding before after
  born_or_kept level offset v e = elim (h.becomes level offset) [
    | shapes.stays s ↦ inr (sym s ∙ e)
    | shapes.comes b k at s g ↦ inl (b, k, at)
    | shapes.goes s g ↦ let q : None ≡ Some v = sym s ∙ e in cc
  ]

  -- the ends
  ended_or_kept : (level offset v : ℕ) → place_at before root level offset ≡ Some v
      → Contains h.gone v ⊎ Reaches (places after new) v
  unfolding before after
  ended_or_kept level offset v e = elim (h.becomes level offset) [
    | shapes.stays s ↦ inr ((level, offset), s ∙ e)
    | shapes.comes b k at s g ↦ inl (g v e)
    | shapes.goes s g ↦ inl (g v e)
  ]

  at_place : (x : Birth) → Contains h.added x → (level offset v : ℕ) → IsAt x level offset
      → place_at after new level offset ≡ Some v → x.number ≡ v
  unfolding after
  at_place x k level offset v t e =
      let p : place_at (with_births all (pages_of content)) new level x.place.offset ≡ Some x.number =
      subst
      (λ (l : ℕ). place_at (with_births all (pages_of content)) new l x.place.offset ≡ Some x.number)
      t.0
      (h.placed x k) in
      let q : place_at (with_births all (pages_of content)) new level offset ≡ Some x.number =
      subst
      (λ (o : ℕ). place_at (with_births all (pages_of content)) new level o ≡ Some x.number) t.1 p in
      let s : Some x.number ≡ Some v = sym q ∙ e in cc

  not_born : (a : ℕ × ℕ) (v : ℕ) → places before root a ≡ Some v → (x : Birth) → Contains h.added x
      → x.number ≡ v → ⊥
  unfolding before
  not_born a v p x k e =
      used v (stored a.0 a.1 v p)
      (numbered_unused content old h.added v h.lowest_free
      (subst (λ (m : ℕ). Contains (born h.added) m) e (born_in h.added x k)))

  stays_there : (v : ℕ) (a b : ℕ × ℕ) → places before root a ≡ Some v → places after new b ≡ Some v → a ≡ b
  unfolding before
  stays_there v a b p q = elim (born_or_kept b.0 b.1 v q) [
    | inl x ↦ absurd (not_born a v p x.0 x.1 (at_place x.0 x.1 b.0 b.1 v x.2 q))
    | inr k ↦ once a b v p k
  ]

  ended_lost : (v : ℕ) → Contains h.gone v → Reaches (places after new) v → ⊥
  unfolding before after
  ended_lost v k r =
      let l = h.lost v k in
      let e = stays_there v l.0 r.0 l.1 r.1 in
      l.2 (subst (λ (a : ℕ × ℕ). places (with_births all (pages_of content)) new a ≡ Some v) (sym e) r.1)

  pub rewrites : RewritesFile (pages_of content)
      (with_births all (pages_of content)) inode root new h.added h.gone
  unfolding before after
  rewrites = record {
    in_order = h.in_order;
    of_inode = λ k d l. h.of_inode (get_or h.added k d) (Contains-get_or h.added k d l);
    born_placed = h.placed;
    born_written = born_written;
    written_born = written_born;
    born_or_kept = born_or_kept;
    ended_or_kept = ended_or_kept;
    ended_once = h.gone_once;
    ended_placed = λ v k. let l = h.lost v k in (l.0, l.1);
    ended_lost = ended_lost;
  }

  -- each number has a page, and one place
  born_stored : (v : ℕ) → Contains (born h.added) v → IsSome (after v)
  unfolding after
  born_stored v k =
      with-some all (pages_of content) v
      (subst (λ (ns : List ℕ). Contains ns v) (sym (ap born h.births_are ∙ born-append old h.added))
      (Contains-append_right (born old) (born h.added) v k))

  pub stored_after : (level offset v : ℕ)
      → place_at (with_births all (pages_of content)) new level offset ≡ Some v
      → IsSome (with_births all (pages_of content) v)
  unfolding before after
  stored_after level offset v e = elim (born_or_kept level offset v e) [
    | inl x ↦
        subst (λ (m : ℕ). IsSome (with_births all (pages_of content) m))
        (at_place x.0 x.1 level offset v x.2 e)
        (born_stored x.0.number (born_in h.added x.0 x.1))
    | inr k ↦
        let x = some-of (pages_of content v) (stored level offset v k) in
        some-is (with_births all (pages_of content) v) x.0 (kept v x.0 x.1)
  ]

  pub once_now : (p q : ℕ × ℕ) (v : ℕ) → places (with_births all (pages_of content)) new p ≡ Some v
      → places (with_births all (pages_of content)) new q ≡ Some v → p ≡ q
  unfolding before
  once_now p q v a b =
      once_after (rewrites_renews content old
      (with_births all (pages_of content)) inode root new h.added h.gone rewrites h.lowest_free
      (λ w r e. used w (stored r.0.0 r.0.1 w r.1) e))
      once
      (λ w k r. used w (stored r.0.0 r.0.1 w r.1) (numbered_unused content old h.added w h.lowest_free k)) p q
      v a b
