-- Changed data, and a tree written anew above it, are the file with the changes.
use Rattle.std.proofs.Common.{◌≡◌, ◌≢◌, ℕ, zero, suc, ◌/◌, ◌^◌, ◌<◌, List, Option, Some, None, refl, ap, sym, subst, ◌∙◌, arith, inl, inr, ◌⊎◌}
use Rattle.std.specs.List.{Contains}
use Rattle.std.specs.Option.{option_and_then, IsSome}
use Rattle.std.proofs.Math.Nat.{div-le_self, div-one}
use Rattle.std.proofs.lemmas.List.Elements.{Contains-append_cases}
use Rattle.nl_types.specs.Blocks.Entries.{Birth, Content}
use Rattle.nl_types.specs.Blocks.RootChanges.{HasTreeShape, Includes, IsSound, NodeWritten, RewritesFile, born, with_births}
use Rattle.nl_types.specs.Blocks.Roots.{NoBlocks, OfChain, OfTree, Pages, Root, height_of, kind_of, numbered, page_at, pages_of, place_at}
use Rattle.nl_blocktree.specs.Changed.{blocks_with, indexes}
use Rattle.nl_blocktree.specs.Numbering.{IsUnused}
use Rattle.nl_blocktree.specs.declared.change.BlockChange.{BlockChange}
use Rattle.nl_blocktree.specs.Private.Edits.{IsEdited, edited}
use Rattle.nl_blocktree.specs.Private.Renewing.{Climbs, IsRenewed}
use Rattle.nl_blocktree.specs.Private.TreeLevels.{Levels}
use Rattle.nl_blocktree.specs.Private.Writing.{DataBecomes, PlaceBecomes, PutsData}
use Rattle.nl_blocktree.specs.declared.tree.Edit.{Edit}
use Rattle.nl_blocktree.specs.Private.Writing as shapes
use Rattle.nl_blocktree.specs.Facts.Frames.{births-keep, block-kept}
use Rattle.nl_blocktree.specs.Facts.Staying.{some-of}
use Rattle.nl_blocktree.specs.Facts.HeldPages.{unused_page}
use Rattle.nl_blocktree.specs.Facts.Numbers.{born-append, born_in, numbered_unused}
use Rattle.nl_blocktree.proofs.TreeEdits.{birth_named, birth_page, edited_at, edited_cases}
use Rattle.nl_blocktree.proofs.TreeRewrites.{once_now, rewrites, stored_after}

some_none : {X : Type 0} (o : Option X) → IsSome o → o ≡ None → ⊥
some_none None s e = cc
some_none (Some x) s e = cc

-- ---- the data

module _ {content : Content} {inode : ℕ} {changes : List BlockChange} (old : Levels) {asked : List Edit}
    {births mid : List Birth} {zs ys : List ℕ}
    (stored : (offset v : ℕ) → old 0 offset ≡ Some v → IsSome (pages_of content v))
    (d : PutsData content inode changes (old 0) asked births mid zs ys) where
  not_born : (offset v : ℕ) → old 0 offset ≡ Some v → (b : Birth) → Contains d.added b → b.number ≡ v → ⊥
  not_born offset v p b k e =
      some_none (pages_of content v) (stored offset v p)
      (unused_page content v
      (numbered_unused content births d.added v d.lowest_free
      (subst (λ (m : ℕ). Contains (born d.added) m) e (born_in d.added b k))))

  at_asked : (e : Edit) → Contains asked e → edited asked (old 0) e.offset ≡ numbered e.number
  at_asked e k = edited_at asked (old 0) e d.ascending k

  at_birth : (e : Edit) (b : Birth) → Contains asked e → Contains d.added b → b.number ≡ e.number
      → edited asked (old 0) e.offset ≡ Some b.number
  at_birth e b k c q =
      at_asked e k ∙ (ap numbered (sym q) ∙ birth_named content births d.added b d.lowest_free c)

  levels : Levels
  levels zero offset = edited asked (old 0) offset
  levels (suc l) offset = None

  becomes : (offset : ℕ) → PlaceBecomes (old 0 offset) (edited asked (old 0) offset) 0 offset d.added d.gone
  becomes offset = elim (edited_cases asked (old 0) offset) [
    | inl r ↦ elim (d.becomes r.0 r.1) [
      | shapes.comes b k at number page ↦
          shapes.comes b k ((d.tags b k).1, at ∙ r.2)
          (ap (edited asked (old 0)) (sym r.2) ∙ at_birth r.0 b r.1 k number)
          (λ v e. d.ended r.0 v r.1 (ap (old 0) r.2 ∙ e))
      | shapes.goes z none ↦ shapes.goes (r.3 ∙ ap numbered z) (λ v e. d.ended r.0 v r.1 (ap (old 0) r.2 ∙ e))
    ]
    | inr r ↦ shapes.stays r.1
  ]

  lost : (v : ℕ) → Contains d.gone v
      → (offset : ℕ) × (old 0 offset ≡ Some v) × (edited asked (old 0) offset ≢ Some v)
  lost v k =
      let r = d.gone_asked v k in (
        r.0.offset,
        r.2,
        elim (d.becomes r.0 r.1) [
          | shapes.comes b c at number page ↦ λ e.
              let same : Some b.number ≡ Some v = sym (at_birth r.0 b r.1 c number) ∙ e in
              not_born r.0.offset v r.2 b c cc
          | shapes.goes z none ↦
              λ e. let no : None ≡ Some v = sym (at_asked r.0 r.1 ∙ ap numbered z) ∙ e in cc
        ],
      )

  -- the climb begins with the data
  pub climbs_start : Climbs content inode old asked 0 asked births mid zs ys
  unfolding levels
  climbs_start = record {
    levels = levels;
    added = d.added;
    gone = d.gone;
    births_are = d.births_are;
    ends_are = d.ends_are;
    lowest_free = d.lowest_free;
    in_order = d.in_order;
    tags = λ b k. let t = d.tags b k in (t.0, (let l = t.1 in omega arith));
    placed = λ b k.
        let e = d.born_asked b k in
        subst (λ (l : ℕ). levels l b.place.offset ≡ Some b.number) (sym (d.tags b k).1)
        (ap (edited asked (old 0)) e.2 ∙ at_birth e.0 b e.1 k e.3);
    data_is = λ i. refl;
    data_asked = λ b k z. let e = d.born_asked b k in (e.0, e.1, sym e.2);
    now = λ offset. refl;
    children = λ l offset low. absurd (omega arith);
    full = λ l offset v low. absurd (omega arith);
    becomes = λ l offset low.
        let z : l ≡ 0 = omega arith in
        subst (λ (k : ℕ). PlaceBecomes (old k offset) (levels k offset) k offset d.added d.gone) (sym z)
        (becomes offset);
    lost = λ v k. let r = lost v k in ((0, r.0), omega arith, r.1, r.2);
    gone_once = d.gone_once;
    covered = λ i k. (k.0, k.1, k.2 ∙ sym (div-one i));
    why = λ e k. inl (e.offset, (e, k, refl), div-one e.offset);
    written = λ b k one. let t = (d.tags b k).1 in absurd (omega arith);
    rewritten = λ l i one low k. absurd (omega arith);
  }

-- ---- the whole file

module _ (new : Root) {content : Content} {inode : ℕ} {root : Root} {changes : List BlockChange}
    {prior : Levels} {asked : List Edit} {births mid all : List Birth} {zs ys ends : List ℕ}
    (sound : IsSound (pages_of content) root) (fresh : IsUnused content births)
    (d : PutsData content inode changes (place_at (pages_of content) root 0) asked births mid zs ys)
    (h : IsRenewed content inode prior (place_at (pages_of content) root)
    (place_at (with_births all (pages_of content)) new) asked births all zs ends)
    (more : Includes (with_births mid (pages_of content)) (with_births all (pages_of content))) where
  before : Pages
  before = pages_of content

  after : Pages
  after = with_births all (pages_of content)

  free : IsUnused content all
  free v k =
      elim (Contains-append_cases (born births) (born h.added) v
      (subst (λ (ns : List ℕ). Contains ns v) (ap born h.births_are ∙ born-append births h.added) k)) [
        | inl q ↦ fresh v q
        | inr q ↦ numbered_unused content births h.added v h.lowest_free q
      ]

  same_page : (i : ℕ) → place_at after new 0 i ≡ place_at before root 0 i
      → page_at after new i ≡ page_at before root i
  unfolding before after
  same_page i e =
      ap (option_and_then (with_births all (pages_of content))) e
      ∙ block-kept (pages_of content) (with_births all (pages_of content))
      (place_at (pages_of content) root 0 i) (births-keep content all free) (sound.stored 0 i)

  birth_there : (b : Birth) → Contains d.added b → after b.number ≡ Some b.page
  unfolding after
  birth_there b k =
      more b.number b.page
      (ap (λ (bs : List Birth). with_births bs (pages_of content) b.number) d.births_are
      ∙ birth_page content births d.added b d.lowest_free k)

  -- the new file is the old one with the changes
  pub blocks : (i : ℕ)
      → page_at (with_births all (pages_of content)) new i
      ≡ blocks_with changes (page_at (pages_of content) root) i
  unfolding before after
  blocks i = elim (edited_cases asked (place_at (pages_of content) root 0) i) [
    | inl r ↦ elim (d.becomes r.0 r.1) [
      | shapes.comes b k at number page ↦
          let now : place_at (with_births all (pages_of content)) new 0 i ≡ Some b.number =
          h.data_is i
          ∙ (r.3 ∙ (ap numbered (sym number) ∙ birth_named content births d.added b d.lowest_free k)) in
          ap (option_and_then (with_births all (pages_of content))) now
          ∙ (birth_there b k
          ∙ sym (ap (blocks_with changes (page_at (pages_of content) root)) (sym r.2) ∙ page))
      | shapes.goes z none ↦
          let now : place_at (with_births all (pages_of content)) new 0 i ≡ None =
          h.data_is i ∙ (r.3 ∙ ap numbered z) in
          ap (option_and_then (with_births all (pages_of content))) now
          ∙ sym (ap (blocks_with changes (page_at (pages_of content) root)) (sym r.2) ∙ none)
    ]
    | inr r ↦ same_page i (h.data_is i ∙ r.1) ∙ d.rest i (λ k. r.0 k.0 k.1 k.2)
  ]

  pub data_differs : (i : ℕ) → IsEdited asked i
      → page_at (pages_of content) root i ≢ page_at (with_births all (pages_of content)) new i
  data_differs i k e =
      d.differs k.0 k.1
      (ap (page_at (pages_of content) root) k.2
      ∙ (e ∙ (blocks i ∙ ap (blocks_with changes (page_at (pages_of content) root)) (sym k.2))))

  pub asked_or_same : (i : ℕ)
      → IsEdited asked i
      ⊎ (page_at (pages_of content) root i ≡ page_at (with_births all (pages_of content)) new i)
  unfolding before after
  asked_or_same i = elim (edited_cases asked (place_at (pages_of content) root 0) i) [
    | inl r ↦ inl (r.0, r.1, r.2)
    | inr r ↦ inr (sym (same_page i (h.data_is i ∙ r.1)))
  ]

  pub kept : (e : Edit) → Contains asked e
      → ((i : ℕ) → page_at (with_births all (pages_of content)) new i ≡ page_at (pages_of content) root i)
      → new ≡ root
  kept e k same = absurd (data_differs e.offset (e, k, refl) (sym (same e.offset)))

  -- ---- the new file is sound

  data_range : ((o : ℕ) → Contains (indexes changes) o → o < 262144) → (i v : ℕ)
      → place_at (with_births all (pages_of content)) new 0 i ≡ Some v → i < 262144
  data_range range i v e = elim (edited_cases asked (place_at (pages_of content) root 0) i) [
    | inl r ↦ subst (λ (o : ℕ). o < 262144) r.2 (range r.0.offset (d.in_changes r.0 r.1))
    | inr r ↦ sound.in_range 0 i v (sym (h.data_is i ∙ r.1) ∙ e)
  ]

  pub tree_sound : ((o : ℕ) → Contains (indexes changes) o → o < 262144) → kind_of new ≢ OfChain
      → (kind_of new ≢ NoBlocks
      → IsSome (place_at (with_births all (pages_of content)) new (height_of new) 0))
      →
      ((level offset v : ℕ) → place_at (with_births all (pages_of content)) new (suc level) offset ≡ Some v
      → (i : ℕ) × (i / 128 ^ suc level ≡ offset)
      × IsSome (place_at (with_births all (pages_of content)) new 0 i))
      →
      (kind_of new ≡ OfTree → HasTreeShape (with_births all (pages_of content)) new) →
      ((b : Birth) → Contains h.added b → (level : ℕ) → b.place.level ≡ suc level
      → NodeWritten (pages_of content) (with_births all (pages_of content)) root new
      (suc level) b.place.offset)
      →
      (kind_of root ≢ kind_of new → (level offset v : ℕ)
      → place_at (pages_of content) root (suc level) offset ≡ Some v
      → place_at (with_births all (pages_of content)) new (suc level) offset ≡ Some v → ⊥)
      →
      IsSound (with_births all (pages_of content)) new
      × RewritesFile (pages_of content) (with_births all (pages_of content)) inode root new h.added h.gone
  tree_sound range no_chain top above shape why moves = (
    record {
      in_range = in_range;
      stored =
          stored_after sound.stored sound.once fresh h data_differs asked_or_same h.data_asked no_chain why
          moves;
      once =
          once_now sound.stored sound.once fresh h data_differs asked_or_same h.data_asked no_chain why moves;
      ends_full = λ t p v e. absurd (no_chain t);
      has_top = top;
      tree_shape = shape;
    },
    rewrites sound.stored sound.once fresh h data_differs asked_or_same h.data_asked no_chain why moves,
  )
    where
      in_range : (level offset v : ℕ)
          → place_at (with_births all (pages_of content)) new level offset ≡ Some v → offset < 262144
      in_range zero offset v e = data_range range offset v e
      in_range (suc level) offset v e =
          let i = above level offset v e in
          let x = some-of (place_at (with_births all (pages_of content)) new 0 i.0) i.2 in
          let l = data_range range i.0 x.0 x.1 in
          let m = div-le_self i.0 (128 ^ suc level) in
          let q = i.1 in
          omega (arith, l, m, q)
