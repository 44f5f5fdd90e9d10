-- One more change of a file's data.
use Rattle.std.proofs.Common.{◌≡◌, ◌≢◌, ℕ, zero, suc, ◌<◌, List, [], ◌∷◌, ◌++◌, length, get_or, take, Option, Some, None, refl, ap, sym, subst, ◌∙◌, arith, inl, inr, ◌⊎◌, append_assoc}
use Rattle.std.specs.List.{All, AllPairs, Contains}
use Rattle.std.specs.Option.{option_and_then, option_map, IsSome}
use Rattle.std.proofs.lemmas.Bool.{cases_eq, eq-eqb, ne_eqb}
use Rattle.std.proofs.lemmas.List.{append-nil, get_or-map, get_or-take, length-map, length-take, map-append}
use Rattle.std.proofs.lemmas.List.Elements.{Contains-append_cases, Contains-append_left, Contains-append_right, Contains-push}
use Rattle.smallvec.specs.SmallVec.{SmallVec}
use Rattle.nl_types.specs.Blocks.Entries.{Birth, Content}
use Rattle.nl_types.specs.Blocks.RootChanges.{InPayloadOrder, PrecedesInPayload}
use Rattle.nl_types.specs.Blocks.Roots.{Pages, pages_of}
use Rattle.nl_vstore.specs.Batches.{IsLowestFree, TakeLowestFree}
use Rattle.nl_blocktree.specs.Changed.{blocks_with, indexes}
use Rattle.nl_blocktree.specs.declared.change.BlockChange.{BlockChange}
use Rattle.nl_blocktree.specs.declared.tree.Edit.{Edit}
use Rattle.nl_blocktree.specs.Private.Edits.{ComesBefore, edit_of}
use Rattle.nl_blocktree.specs.Private.Writing.{DataBecomes, PutsData, PutsOne, ended_of}
use Rattle.nl_blocktree.specs.Private.Writing as shapes
use Rattle.nl_blocktree.specs.Facts.Ended.{ended_once, ended_stood, stood_ends}
use Rattle.nl_blocktree.specs.Facts.HeldPages.{Sets}
use Rattle.nl_blocktree.specs.Facts.Numbers.{numbered-push}
use Rattle.nl_blocktree.specs.Facts.Pairwise.{in_lone, pairs-append}

-- ---- blocks with one more change

blocks_with-here : (cs : List BlockChange) (c : BlockChange) (f : Pages) → (Contains (indexes cs) c.index → ⊥)
    → blocks_with (cs ++ c ∷ []) f c.index ≡ c.page
blocks_with-here [] c f h = rw (eq-eqb c.index c.index refl) refl
blocks_with-here (x ∷ cs) c f h =
    rw (ne_eqb c.index x.index (λ e. h (0, omega arith, sym e)))
    (blocks_with-here cs c f (λ k. h (suc k.0, (let l = k.1 in omega arith), k.2)))

blocks_with-other : (cs : List BlockChange) (c : BlockChange) (f : Pages) (i : ℕ) → (i ≡ c.index → ⊥)
    → blocks_with (cs ++ c ∷ []) f i ≡ blocks_with cs f i
blocks_with-other [] c f i h = rw (ne_eqb i c.index h) refl
blocks_with-other (x ∷ cs) c f i h = step (cases_eq i x.index) (blocks_with-other cs c f i h)
  where
    step : (i ≡ x.index) ⊎ (i ≡ x.index → ⊥) → blocks_with (cs ++ c ∷ []) f i ≡ blocks_with cs f i
        → blocks_with (x ∷ (cs ++ c ∷ [])) f i ≡ blocks_with (x ∷ cs) f i
    step (inl k) e = rw (eq-eqb i x.index k) refl
    step (inr k) e = rw (ne_eqb i x.index k) e

-- one change more sets one block
pub sets-one : (cs : List BlockChange) (c : BlockChange) (f : Pages) → (Contains (indexes cs) c.index → ⊥)
    → Sets (blocks_with cs f) (blocks_with (cs ++ c ∷ []) f) c.index c.page
sets-one cs c f h = record { there = blocks_with-here cs c f h; others = λ j k. blocks_with-other cs c f j k }

indexes-push : (cs : List BlockChange) (c : BlockChange) → indexes (cs ++ c ∷ []) ≡ indexes cs ++ c.index ∷ []
indexes-push cs c = map-append (λ (x : BlockChange). x.index) cs (c ∷ [])

-- ---- no change yet

pub puts_none : (content : Content) (inode : ℕ) (old : ℕ → Option ℕ) (births : List Birth) (ends : List ℕ)
    → PutsData content inode [] old [] births births ends ends
puts_none content inode old births ends = record {
  added = [];
  gone = [];
  births_are = sym (append-nil births);
  ends_are = sym (append-nil ends);
  lowest_free = tt;
  in_order = λ i j d l m. absurd (omega arith);
  tags = λ b c. absurd (let l = c.1 in omega arith);
  ascending = λ i j d l m. absurd (omega arith);
  in_changes = λ e c. absurd (let l = c.1 in omega arith);
  becomes = λ e c. absurd (let l = c.1 in omega arith);
  differs = λ e c. absurd (let l = c.1 in omega arith);
  rest = λ i n. refl;
  born_asked = λ b c. absurd (let l = c.1 in omega arith);
  ended = λ e v c. absurd (let l = c.1 in omega arith);
  gone_asked = λ v c. absurd (let l = c.1 in omega arith);
  gone_once = λ i j d l m. absurd (omega arith);
}

-- ---- one change more

module _ {content : Content} {inode : ℕ} {cs : List BlockChange} {old : ℕ → Option ℕ} {asked : List Edit}
    {births mid new : List Birth} {zs ys ends : List ℕ} (c : BlockChange) (number : Option ℕ)
    (above : SmallVec ℕ)
    (stored : (i v : ℕ) → old i ≡ Some v → IsSome (pages_of content v))
    (once : (i j v : ℕ) → old i ≡ Some v → old j ≡ Some v → i ≡ j)
    (h : PutsData content inode cs old asked births mid zs ys)
    (later : (o : ℕ) → Contains (indexes cs) o → o < c.index)
    (n : PutsOne content inode c.index c.page (old c.index) number mid new ys ends) where
  held : Pages
  held i = option_and_then (pages_of content) (old i)

  new_index : Contains (indexes cs) c.index → ⊥
  new_index k = let l = later c.index k in omega arith

  here : blocks_with (cs ++ c ∷ []) (λ i. option_and_then (pages_of content) (old i)) c.index ≡ c.page
  here = blocks_with-here cs c (λ i. option_and_then (pages_of content) (old i)) new_index

  other : (i : ℕ) → (i ≡ c.index → ⊥)
      → blocks_with (cs ++ c ∷ []) (λ i. option_and_then (pages_of content) (old i)) i
      ≡ blocks_with cs (λ i. option_and_then (pages_of content) (old i)) i
  other i k = blocks_with-other cs c (λ i. option_and_then (pages_of content) (old i)) i k

  apart : (e : Edit) → Contains asked e → e.offset ≡ c.index → ⊥
  apart e k q = let l = later e.offset (h.in_changes e k) in omega arith

  left_index : (o : ℕ) → Contains (indexes cs) o → Contains (indexes (cs ++ c ∷ [])) o
  left_index o k =
      subst (λ (os : List ℕ). Contains os o) (sym (indexes-push cs c))
      (Contains-append_left (indexes cs) (c.index ∷ []) o k)

  last_index : Contains (indexes (cs ++ c ∷ [])) c.index
  last_index =
      subst (λ (os : List ℕ). Contains os c.index) (sym (indexes-push cs c))
      (Contains-push (indexes cs) c.index)

  keeps : (added : List Birth) (e : Edit) → Contains asked e
      → DataBecomes (blocks_with cs (λ i. option_and_then (pages_of content) (old i)) e.offset) h.added e →
      DataBecomes (blocks_with (cs ++ c ∷ []) (λ i. option_and_then (pages_of content) (old i)) e.offset)
      (h.added ++ added) e
  keeps added e k (shapes.comes b m at number page) =
      shapes.comes b (Contains-append_left h.added added b m) at number (other e.offset (apart e k) ∙ page)
  keeps added e k (shapes.goes z none) = shapes.goes z (other e.offset (apart e k) ∙ none)

  -- the page is there already
  same : option_and_then (pages_of content) (old c.index) ≡ c.page → new ≡ mid → ends ≡ ys
      → PutsData content inode (cs ++ c ∷ []) old asked births new zs ends
  same page bs es = record {
    added = h.added;
    gone = h.gone;
    births_are = bs ∙ h.births_are;
    ends_are = es ∙ h.ends_are;
    lowest_free = h.lowest_free;
    in_order = h.in_order;
    tags = h.tags;
    ascending = h.ascending;
    in_changes = λ e k. left_index e.offset (h.in_changes e k);
    becomes = λ e k.
        subst (λ (bs : List Birth).
        DataBecomes
        (blocks_with (cs ++ c ∷ []) (λ i. option_and_then (pages_of content) (old i)) e.offset) bs e)
        (append-nil h.added) (keeps [] e k (h.becomes e k));
    differs = λ e k q. h.differs e k (q ∙ other e.offset (apart e k));
    rest = λ i m. elim (cases_eq i c.index) [
      | inl e ↦
          ap (λ (o : ℕ). option_and_then (pages_of content) (old o)) e
          ∙ (page
          ∙ (sym here
          ∙ ap (blocks_with (cs ++ c ∷ []) (λ i. option_and_then (pages_of content) (old i))) (sym e)))
      | inr e ↦ h.rest i m ∙ sym (other i e)
    ];
    born_asked = h.born_asked;
    ended = h.ended;
    gone_asked = h.gone_asked;
    gone_once = h.gone_once;
  }

  up_cases : (k : ℕ) (u : Edit)
      → Contains (asked ++ record { offset = c.index; number = k; above = above } ∷ []) u
      → Contains asked u ⊎ (u ≡ record { offset = c.index; number = k; above = above })
  up_cases k u m =
      elim (Contains-append_cases asked (record { offset = c.index; number = k; above = above } ∷ []) u m) [
        | inl q ↦ inl q
        | inr q ↦ inr (in_lone (record { offset = c.index; number = k; above = above }) u q)
      ]

  -- another page comes, or the block goes
  moved : (k : ℕ) (added : List Birth) → new ≡ mid ++ added → ends ≡ ys ++ ended_of (old c.index)
      → TakeLowestFree content births (h.added ++ added) → InPayloadOrder added →
      ((b : Birth) → Contains added b
      → (b.place.inode ≡ inode) × (b.place.level ≡ 0) × (b.place.offset ≡ c.index) × (b.number ≡ k))
      →
      DataBecomes c.page (h.added ++ added) (record { offset = c.index; number = k; above = above }) →
      option_and_then (pages_of content) (old c.index) ≢ c.page →
      PutsData content inode (cs ++ c ∷ []) old
      (asked ++ record { offset = c.index; number = k; above = above } ∷ []) births new zs ends
  moved k added bs es taken order tag this unlike = record {
    added = h.added ++ added;
    gone = h.gone ++ ended_of (old c.index);
    births_are =
        bs ∙ (ap (λ (xs : List Birth). xs ++ added) h.births_are ∙ append_assoc births h.added added);
    ends_are =
        es
        ∙ (ap (λ (xs : List ℕ). xs ++ ended_of (old c.index)) h.ends_are
        ∙ append_assoc zs h.gone (ended_of (old c.index)));
    lowest_free = taken;
    in_order = pairs-append PrecedesInPayload h.added added h.in_order order (λ x y p q.
        let a = (h.tags x p).1 in
        let u = h.born_asked x p in
        let t = tag y q in
        let r = u.2 in
        let s = t.2 in
        let less = later u.0.offset (h.in_changes u.0 u.1) in
        inr (a ∙ sym t.1, omega arith));
    tags = λ b m. elim (Contains-append_cases h.added added b m) [
      | inl q ↦ h.tags b q
      | inr q ↦ let t = tag b q in (t.0, t.1)
    ];
    ascending =
        pairs-append ComesBefore asked
        (record { offset = c.index; number = k; above = above } ∷ []) h.ascending
        (λ i j d l m. absurd (omega arith)) (λ x y p q.
        let less = later x.offset (h.in_changes x p) in
        subst (λ (z : Edit). x.offset < z.offset)
        (sym (in_lone (record { offset = c.index; number = k; above = above }) y q)) less);
    in_changes = λ e m. elim (up_cases k e m) [
      | inl q ↦ left_index e.offset (h.in_changes e q)
      | inr q ↦ subst (λ (x : Edit). Contains (indexes (cs ++ c ∷ [])) x.offset) (sym q) last_index
    ];
    becomes = λ e m. elim (up_cases k e m) [
      | inl q ↦ keeps added e q (h.becomes e q)
      | inr q ↦
          subst (λ (x : Edit).
          DataBecomes
          (blocks_with (cs ++ c ∷ []) (λ i. option_and_then (pages_of content) (old i)) x.offset)
          (h.added ++ added) x)
          (sym q)
          (subst (λ (page : Option (List ℕ)).
          DataBecomes page (h.added ++ added) (record { offset = c.index; number = k; above = above }))
          (sym here) this)
    ];
    differs = λ e m. elim (up_cases k e m) [
      | inl q ↦ λ r. h.differs e q (r ∙ other e.offset (apart e q))
      | inr q ↦ λ r.
          let at : e.offset ≡ c.index = ap (λ (x : Edit). x.offset) q in
          unlike (ap (λ (o : ℕ). option_and_then (pages_of content) (old o)) (sym at)
          ∙ (r
          ∙ (ap (blocks_with (cs ++ c ∷ []) (λ i. option_and_then (pages_of content) (old i))) at ∙ here)))
    ];
    rest = λ i m.
        let away : i ≡ c.index → ⊥ = λ e.
        m (
          record { offset = c.index; number = k; above = above },
          Contains-push asked (record { offset = c.index; number = k; above = above }),
          sym e,
        ) in
        h.rest i (λ q.
        m (
          q.0,
          Contains-append_left asked (record { offset = c.index; number = k; above = above } ∷ []) q.0 q.1,
          q.2,
        ))
        ∙ sym (other i away);
    born_asked = λ b m. elim (Contains-append_cases h.added added b m) [
      | inl q ↦
          let u = h.born_asked b q in (
            u.0,
            Contains-append_left asked (record { offset = c.index; number = k; above = above } ∷ []) u.0 u.1,
            u.2,
            u.3,
          )
      | inr q ↦
          let t = tag b q in (
            record { offset = c.index; number = k; above = above },
            Contains-push asked (record { offset = c.index; number = k; above = above }),
            t.2,
            t.3,
          )
    ];
    ended = λ e v m q. elim (up_cases k e m) [
      | inl r ↦ Contains-append_left h.gone (ended_of (old c.index)) v (h.ended e v r q)
      | inr r ↦
          Contains-append_right h.gone (ended_of (old c.index)) v
          (stood_ends (old c.index) v (ap old (ap (λ (x : Edit). x.offset) (sym r)) ∙ q))
    ];
    gone_asked = λ v m. elim (Contains-append_cases h.gone (ended_of (old c.index)) v m) [
      | inl q ↦
          let u = h.gone_asked v q in (
            u.0,
            Contains-append_left asked (record { offset = c.index; number = k; above = above } ∷ []) u.0 u.1,
            u.2,
          )
      | inr q ↦ (
        record { offset = c.index; number = k; above = above },
        Contains-push asked (record { offset = c.index; number = k; above = above }),
        ended_stood (old c.index) v q,
      )
    ];
    gone_once =
        pairs-append (λ (x : ℕ) (y : ℕ). x ≢ y) h.gone (ended_of (old c.index)) h.gone_once
        (ended_once (old c.index)) (λ x y p q e.
        let u = h.gone_asked x p in
        let there : old c.index ≡ Some x =
        ended_stood (old c.index) y q ∙ ap (λ (m : ℕ). let o : Option ℕ = Some m in o) (sym e) in
        apart u.0 u.1 (once u.0.offset c.index x u.2 there));
  }

  is_held : (v : ℕ) → old c.index ≡ Some v → option_and_then (pages_of content) (old c.index) ≡ None → ⊥
  is_held v e q =
      absent (pages_of content v) (stored c.index v e) (sym (ap (option_and_then (pages_of content)) e) ∙ q)
    where
      absent : (o : Option (List ℕ)) → IsSome o → o ≡ None → ⊥
      absent None s r = cc
      absent (Some x) s r = cc

  pub data_more : PutsData content inode (cs ++ c ∷ []) old
      (asked ++ edit_of c.index number above) births new zs ends
  data_more = elim n [
    | shapes.unchanged page none bs es ↦
        subst (λ (xs : List Edit). PutsData content inode (cs ++ c ∷ []) old xs births new zs ends)
        (sym (ap (λ (o : Option ℕ). asked ++ edit_of c.index o above) none ∙ append-nil asked))
        (same page bs es)
    | shapes.written b page unlike tag free some bs es ↦
        subst (λ (o : Option ℕ).
        PutsData content inode (cs ++ c ∷ []) old (asked ++ edit_of c.index o above) births new zs ends)
        (sym some)
        (moved b.number (b ∷ []) bs es
        (numbered-push content births h.added b h.lowest_free
        (subst (λ (xs : List Birth). IsLowestFree content xs b.number) h.births_are free))
        (λ p q d r t. absurd (omega arith))
        (λ x k.
        let e = in_lone b x k in (
          ap (λ (y : Birth). y.place.inode) e ∙ tag.inode_is,
          ap (λ (y : Birth). y.place.level) e ∙ tag.level_is,
          ap (λ (y : Birth). y.place.offset) e ∙ tag.offset_is,
          ap (λ (y : Birth). y.number) e,
        ))
        (shapes.comes b (Contains-push h.added b) tag.offset_is refl page)
        unlike)
    | shapes.taken_out v page there some bs es ↦
        subst (λ (o : Option ℕ).
        PutsData content inode (cs ++ c ∷ []) old (asked ++ edit_of c.index o above) births new zs ends)
        (sym some)
        (moved 0 [] (bs ∙ sym (append-nil mid)) es
        (subst (λ (xs : List Birth). TakeLowestFree content births xs)
        (sym (append-nil h.added)) h.lowest_free)
        (λ p q d r t. absurd (omega arith))
        (λ x k. absurd (let l = k.1 in omega arith))
        (shapes.goes refl page)
        (λ q. is_held v there (q ∙ page)))
  ]

-- a block that there may be is taken out
pub takes_out : {content : Content} {inode i : ℕ} {page : Option (List ℕ)} (old number : Option ℕ)
    {births births' : List Birth} {ends ends' : List ℕ}
    → page ≡ None → number ≡ option_map (λ _. 0) old → births' ≡ births → ends' ≡ ends ++ ended_of old →
    PutsOne content inode i page old number births births' ends ends'
takes_out None number {ends = ends} p n bs es = shapes.unchanged (sym p) n bs (es ∙ append-nil ends)
takes_out (Some v) number p n bs es = shapes.taken_out v p refl n bs es

-- ---- ascending changes

-- the changes before one have lower indices
pub below-here : (cs : List BlockChange) (k : ℕ) (d : BlockChange)
    → AllPairs (λ (a : BlockChange) (b : BlockChange). a.index < b.index) cs → k < length cs →
    (o : ℕ) → Contains (indexes (take k cs)) o → o < (get_or cs k d).index
below-here cs k d asc l o c =
    let m : length (indexes (take k cs)) ≡ length (take k cs) =
    length-map (take k cs) (λ (x : BlockChange). x.index) in
    let t = length-take k cs in
    let i : c.0 < k = let e = c.1 in omega arith in
    let e : get_or (indexes (take k cs)) c.0 o ≡ (get_or (take k cs) c.0 d).index =
    get_or-map (λ (x : BlockChange). x.index) (take k cs) c.0 d o (let e = c.1 in omega arith) in
    let f : (get_or (take k cs) c.0 d).index ≡ (get_or cs c.0 d).index =
    ap (λ (x : BlockChange). x.index) (get_or-take k cs c.0 d i) in
    let a : (get_or cs c.0 d).index < (get_or cs k d).index = asc c.0 k d i l in
    let q : get_or (indexes (take k cs)) c.0 o ≡ o = c.2 in
    omega arith

pub indexes-below : (cs : List BlockChange) (n : ℕ) → All (λ (c : BlockChange). c.index < n) cs → (o : ℕ)
    → Contains (indexes cs) o → o < n
indexes-below [] n a o k = absurd (let l = k.1 in omega arith)
indexes-below (c ∷ cs) n a o k =
    go k.0 k.1 k.2 (λ h. indexes-below cs n (λ i d l. a (suc i) d (omega arith)) o h)
  where
    go : (i : ℕ) → i < length (indexes (c ∷ cs)) → get_or (indexes (c ∷ cs)) i o ≡ o
        → (Contains (indexes cs) o → o < n) → o < n
    go zero l e f = let b = a 0 c (omega arith) in omega (arith, e)
    go (suc i) l e f = f (i, omega arith, e)
