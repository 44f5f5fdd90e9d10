-- A renewed tree whose top names one node alone, at its first slot, is that node's tree: its top is not
-- written after all, or ends.
use Rattle.std.proofs.Common.{◌≡◌, ◌≢◌, ℕ, zero, suc, ◌/◌, ◌%◌, ◌^◌, ◌<◌, ◌≤◌, List, [], ◌∷◌, ◌++◌, length, get_or, Option, Some, None, refl, ap, sym, subst, ◌∙◌, arith, inl, inr, ◌⊎◌, append_assoc, length-append}
use Rattle.std.specs.List.{AllPairs, Contains}
use Rattle.std.specs.Option.{option_and_then, IsSome}
use Rattle.std.proofs.lemmas.Bool.{cases_eq, cases_lt, eq-eqb, ne_eqb}
use Rattle.std.proofs.lemmas.List.{get_or_append_left, get_or_push, length_push}
use Rattle.std.proofs.lemmas.List.Elements.{Contains-append_cases, Contains-append_left, Contains-push}
use Rattle.nl_types.specs.Facts.Births.{uncons}
use Rattle.nl_types.specs.Blocks.Entries.{Birth, Content}
use Rattle.nl_types.specs.Blocks.RootChanges.{InPayloadOrder, IsAt, PrecedesInPayload, born, with_births}
use Rattle.nl_types.specs.Blocks.Roots.{Pages, Tree, child, numbered, pages_of, place_at, slot}
use Rattle.nl_vstore.specs.Batches.{TakeLowestFree}
use Rattle.nl_blocktree.specs.Private.Renewing.{IsRenewed}
use Rattle.nl_blocktree.specs.Private.TreeLevels.{AreLevels, HasFullNodes, Levels, only}
use Rattle.nl_blocktree.specs.Private.Writing.{PlaceBecomes}
use Rattle.nl_blocktree.specs.declared.tree.Edit.{Edit}
use Rattle.nl_blocktree.specs.Private.Writing as shapes
use Rattle.nl_blocktree.specs.Facts.HeldPages.{unused_page}
use Rattle.nl_blocktree.specs.Facts.Numbers.{born_in, numbered_once, numbered_unused}
use Rattle.nl_blocktree.specs.Facts.Pairwise.{pairs-append}
use Rattle.nl_blocktree.proofs.TreeEnds.{full_places}
use Rattle.nl_blocktree.specs.Facts.TreeLevels.{levels_are, lower_levels, lowered, only_zero, tree_above, tree_child, tree_top}

some_none : {X : Type 0} (o : Option X) → IsSome o → o ≡ None → ⊥
some_none None s e = cc
some_none (Some x) s e = cc

with_last : (xs : List Birth) (b : Birth) (pages : Pages) (v : ℕ) → (v ≡ b.number → ⊥)
    → with_births (xs ++ b ∷ []) pages v ≡ with_births xs pages v
unfolding with_births
with_last [] b pages v n = rw (ne_eqb v b.number n) refl
with_last (x ∷ xs) b pages v n = elim (cases_eq v x.number) [
  | inl e ↦ rw (eq-eqb v x.number e) refl
  | inr e ↦ rw (ne_eqb v x.number e) (with_last xs b pages v n)
]

numbered_front : (content : Content) (before xs ys : List Birth) → TakeLowestFree content before (xs ++ ys)
    → TakeLowestFree content before xs
numbered_front content before [] ys n = tt
numbered_front content before (x ∷ xs) ys n = (n.0, numbered_front content (before ++ x ∷ []) xs ys n.1)

pairs_front : {X : Type 0} (R : X → X → Type 0) (xs ys : List X) → AllPairs R (xs ++ ys) → AllPairs R xs
pairs_front R xs ys a i j d l m =
    let x = get_or_append_left xs ys d i (omega arith) in
    let y = get_or_append_left xs ys d j m in
    let z = length-append xs ys in
    rw (sym x, sym y) (a i j d l (omega arith))

child_same : (pages other : Pages) (s : ℕ) (node : Option ℕ) → ((v : ℕ) → node ≡ Some v → pages v ≡ other v)
    → child pages s node ≡ child other s node
child_same pages other s None h = refl
child_same pages other s (Some v) h = ap (option_and_then (λ (page : List ℕ). slot s page)) (h v refl)

only_some : (top : ℕ) (offset v : ℕ) → only top offset ≡ Some v → v ≡ top
only_some top offset v e = elim (cases_eq offset 0) [
  | inl z ↦ named top v (sym (rw (eq-eqb offset 0 z) refl) ∙ e)
  | inr z ↦ let no : None ≡ Some v = sym (rw (ne_eqb offset 0 z) refl) ∙ e in cc
]
  where
    named : (n w : ℕ) → numbered n ≡ Some w → w ≡ n
    named zero w k = cc
    named (suc n) w k = cc

module _ (height top below : ℕ) {content : Content} {inode : ℕ} {prior old : Levels} {asked : List Edit}
    {births all : List Birth} {zs ends : List ℕ}
    (stored : (l offset v : ℕ) → old l offset ≡ Some v → IsSome (pages_of content v))
    (h : IsRenewed content inode prior old
    (place_at (with_births all (pages_of content)) (Tree (suc height) top)) asked births all zs ends)
    (first : (s : ℕ) → s < 128
    → child (with_births all (pages_of content)) s (numbered top) ≡ only below s) where
  -- what stands at the top
  top_alone : (l offset v : ℕ) → height < l
      → place_at (with_births all (pages_of content)) (Tree (suc height) top) l offset ≡ Some v
      → (l ≡ suc height) × (offset ≡ 0) × (v ≡ top)
  top_alone l offset v far e = elim (cases_lt (suc height) l) [
    | inl m ↦
        let no : None ≡ Some v =
        sym (tree_above (with_births all (pages_of content)) (suc height) top l offset m) ∙ e in
        cc
    | inr m ↦
        let here : l ≡ suc height = omega arith in
        let q : only top offset ≡ Some v =
        sym (tree_top (with_births all (pages_of content)) (suc height) top offset)
        ∙ subst (λ (k : ℕ).
        place_at (with_births all (pages_of content)) (Tree (suc height) top) k offset ≡ Some v)
        here e in
        (here, only_zero top offset v q, only_some top offset v q)
  ]

  not_born : (l offset v : ℕ) → old l offset ≡ Some v → (b : Birth) → Contains h.added b → b.number ≡ v → ⊥
  not_born l offset v p b k e =
      some_none (pages_of content v) (stored l offset v p)
      (unused_page content v
      (numbered_unused content births h.added v h.lowest_free
      (subst (λ (m : ℕ). Contains (born h.added) m) e (born_in h.added b k))))

  -- ---- the top was born, last of all

  module _ (init : List Birth) (b : Birth) (is : h.added ≡ init ++ b ∷ []) (named : b.number ≡ top)
      (there : numbered top ≡ Some top) where
    pages : Pages
    pages = with_births (births ++ init) (pages_of content)

    last_in : Contains h.added b
    last_in = subst (λ (xs : List Birth). Contains xs b) (sym is) (Contains-push init b)

    init_in : (x : Birth) → Contains init x → Contains h.added x
    init_in x k = subst (λ (xs : List Birth). Contains xs x) (sym is) (Contains-append_left init (b ∷ []) x k)

    init_or_last : (x : Birth) → Contains h.added x → Contains init x ⊎ (x ≡ b)
    init_or_last x k =
        elim (Contains-append_cases init (b ∷ []) x (subst (λ (xs : List Birth). Contains xs x) is k)) [
          | inl q ↦ inl q
          | inr q ↦
              elim (uncons b [] x q) [ inl e ↦ inr (sym e) | inr e ↦ absurd (let l = e.1 in omega arith) ]
        ]

    at_top : place_at (with_births all (pages_of content)) (Tree (suc height) top) (suc height) 0 ≡ Some top
    at_top = tree_top (with_births all (pages_of content)) (suc height) top 0 ∙ there

    last_at : IsAt b (suc height) 0
    last_at = elim (h.becomes (suc height) 0) [
      | shapes.stays s ↦ absurd (not_born (suc height) 0 top (sym s ∙ at_top) b last_in named)
      | shapes.comes x k at s g ↦
          let q : Some x.number ≡ Some top = sym s ∙ at_top in
          let n : x.number ≡ b.number = (let e : x.number ≡ top = cc in e ∙ sym named) in
          let same : x ≡ b = numbered_once content births h.added x b h.lowest_free k last_in n in
          subst (λ (y : Birth). IsAt y (suc height) 0) same at
      | shapes.goes s g ↦ let no : None ≡ Some top = sym s ∙ at_top in cc
    ]

    not_top : (l offset : ℕ) → l ≤ height
        → place_at (with_births all (pages_of content)) (Tree (suc height) top) l offset ≡ Some b.number → ⊥
    not_top l offset low e = elim (h.becomes l offset) [
      | shapes.stays s ↦ not_born l offset b.number (sym s ∙ e) b last_in refl
      | shapes.comes x k at s g ↦
          let q : Some x.number ≡ Some b.number = sym s ∙ e in
          let same : x ≡ b = numbered_once content births h.added x b h.lowest_free k last_in cc in
          let l_is : b.place.level ≡ l = subst (λ (y : Birth). y.place.level ≡ l) same at.0 in
          let top_is = last_at.0 in
          absurd (omega arith)
      | shapes.goes s g ↦ let no : None ≡ Some b.number = sym s ∙ e in cc
    ]

    init_level : (x : Birth) → Contains init x → x.place.level ≤ height
    init_level x k =
        let a = last_at in
        let z = a.0 in
        let w = a.1 in
        let len = length_push init b in
        let pair : PrecedesInPayload (get_or (init ++ b ∷ []) k.0 x)
        (get_or (init ++ b ∷ []) (length init) x) =
        subst (λ (xs : List Birth). InPayloadOrder xs) is h.in_order k.0 (length init) x k.1 (omega arith) in
        let left : get_or (init ++ b ∷ []) k.0 x ≡ x = get_or_append_left init (b ∷ []) x k.0 k.1 ∙ k.2 in
        let right : get_or (init ++ b ∷ []) (length init) x ≡ b = get_or_push init b x (length init) refl in
        let p : PrecedesInPayload x b =
        subst (λ (y : Birth). PrecedesInPayload y b) left
        (subst (λ (y : Birth). PrecedesInPayload (get_or (init ++ b ∷ []) k.0 x) y) right pair) in
        elim p [ inl l ↦ omega arith | inr l ↦ let r = l.1 in absurd (omega arith) ]

    all_is : all ≡ (births ++ init) ++ b ∷ []
    all_is =
        h.births_are ∙ (ap (λ (xs : List Birth). births ++ xs) is ∙ sym (append_assoc births init (b ∷ [])))

    same_page : (v : ℕ) → (v ≡ b.number → ⊥) → with_births all (pages_of content) v ≡ pages v
    unfolding pages
    same_page v n =
        ap (λ (xs : List Birth). with_births xs (pages_of content) v) all_is
        ∙ with_last (births ++ init) b (pages_of content) v n

    levels : AreLevels pages height below
        (place_at (with_births all (pages_of content)) (Tree (suc height) top))
    levels = record {
      tops = (lower_levels (with_births all (pages_of content)) height top below first).tops;
      children = λ l offset low.
          tree_child (with_births all (pages_of content)) (suc height) top l offset (omega arith)
          ∙ child_same (with_births all (pages_of content)) pages (offset % 128)
          (place_at (with_births all (pages_of content)) (Tree (suc height) top) (suc l) (offset / 128))
          (λ v e.
          same_page v (λ n.
          not_top (suc l) (offset / 128) low (e ∙ ap (λ (m : ℕ). let o : Option ℕ = Some m in o) n)));
    }

    now_is : (l offset : ℕ) → l ≤ height
        → place_at pages (Tree height below) l offset
        ≡ place_at (with_births all (pages_of content)) (Tree (suc height) top) l offset
    now_is l offset low =
        levels_are pages height below
        (place_at (with_births all (pages_of content)) (Tree (suc height) top)) levels l offset low

    pub top_untaken : IsRenewed content inode prior old
        (place_at (with_births (births ++ init) (pages_of content)) (Tree height below)) asked births
        (births ++ init) zs ends
    unfolding pages
    top_untaken = record {
      added = init;
      gone = h.gone;
      births_are = refl;
      ends_are = h.ends_are;
      lowest_free =
          numbered_front content births init (b ∷ [])
          (subst (λ (xs : List Birth). TakeLowestFree content births xs) is h.lowest_free);
      in_order =
          pairs_front PrecedesInPayload init (b ∷ [])
          (subst (λ (xs : List Birth). InPayloadOrder xs) is h.in_order);
      of_inode = λ x k. h.of_inode x (init_in x k);
      data_is = λ i. now_is 0 i (omega arith) ∙ h.data_is i;
      data_asked = λ x k z. h.data_asked x (init_in x k) z;
      placed = λ x k. now_is x.place.level x.place.offset (init_level x k) ∙ h.placed x (init_in x k);
      becomes = λ l offset. elim (cases_lt height l) [
        | inl far ↦
            shapes.goes
            (tree_above (with_births (births ++ init) (pages_of content)) height below l offset far)
            (λ v e. far_gone l offset v far e)
        | inr low ↦
            subst (λ (o : Option ℕ). PlaceBecomes (old l offset) o l offset init h.gone)
            (sym (now_is l offset low)) (elim (h.becomes l offset) [
              | shapes.stays s ↦ shapes.stays s
              | shapes.comes x k at s g ↦ elim (init_or_last x k) [
                | inl q ↦ shapes.comes x q at s g
                | inr q ↦
                    let l_is : b.place.level ≡ l = subst (λ (y : Birth). y.place.level ≡ l) q at.0 in
                    let top_is = last_at.0 in
                    absurd (omega arith)
              ]
              | shapes.goes s g ↦ shapes.goes s g
            ])
      ];
      lost = λ v k.
          let r = h.lost v k in (
            r.0,
            r.1,
            elim (cases_lt height r.0.0) [
              | inl far ↦
                  λ e.
                  let no : None ≡ Some v =
                  sym (tree_above
                  (with_births (births ++ init) (pages_of content)) height below r.0.0 r.0.1 far)
                  ∙ e in
                  cc
              | inr low ↦ λ e. r.2 (sym (now_is r.0.0 r.0.1 low) ∙ e)
            ],
          );
      gone_once = h.gone_once;
      written = λ x k one. h.written x (init_in x k) one;
      rewritten = λ l i one k. elim (cases_lt height l) [
        | inl far ↦
            inr
            (tree_above (with_births (births ++ init) (pages_of content)) height below l (i / 128 ^ l) far)
        | inr low ↦ elim (h.rewritten l i one k) [
          | inl r ↦ elim (init_or_last r.0 r.1) [
            | inl q ↦ inl (r.0, q, r.2)
            | inr q ↦
                let l_is : b.place.level ≡ l = subst (λ (y : Birth). y.place.level ≡ l) q r.2.0 in
                let top_is = last_at.0 in
                absurd (omega arith)
          ]
          | inr r ↦ inr (now_is l (i / 128 ^ l) low ∙ r)
        ]
      ];
    }
      where
        far_gone : (l offset v : ℕ) → height < l → old l offset ≡ Some v → Contains h.gone v
        far_gone l offset v far e = elim (h.becomes l offset) [
          | shapes.stays s ↦
              let t = top_alone l offset v far (s ∙ e) in
              absurd (not_born l offset v e b last_in (named ∙ sym t.2))
          | shapes.comes x k at s g ↦ g v e
          | shapes.goes s g ↦ g v e
        ]

    pub untaken_full : HasFullNodes (with_births all (pages_of content)) (suc height) top
        → HasFullNodes (with_births (births ++ init) (pages_of content)) height below
    unfolding pages
    untaken_full full =
        full_places (with_births (births ++ init) (pages_of content)) height below
        (place_at (with_births all (pages_of content)) (Tree (suc height) top)) now_is
        (λ l offset v low e. full l offset v (omega arith) e)

  -- ---- the top was there before

  module _ (once : (p q : ℕ × ℕ) (v : ℕ) → old p.0 p.1 ≡ Some v → old q.0 q.1 ≡ Some v → p ≡ q)
      (there : old (suc height) 0 ≡ Some top) (named : numbered top ≡ Some top) where
    low_is : (l offset : ℕ) → l ≤ height
        → place_at (with_births all (pages_of content)) (Tree height below) l offset
        ≡ place_at (with_births all (pages_of content)) (Tree (suc height) top) l offset
    low_is l offset low = lowered (with_births all (pages_of content)) height top below first l offset low

    kept_at : place_at (with_births all (pages_of content)) (Tree (suc height) top) (suc height) 0 ≡ Some top
    kept_at = tree_top (with_births all (pages_of content)) (suc height) top 0 ∙ named

    born_low : (x : Birth) → Contains h.added x → x.place.level ≤ height
    born_low x k = elim (cases_lt height x.place.level) [
      | inl far ↦
          let t = top_alone x.place.level x.place.offset x.number far (h.placed x k) in
          absurd (not_born (suc height) 0 top there x k t.2)
      | inr low ↦ low
    ]

    pub top_ended : IsRenewed content inode prior old
        (place_at (with_births all (pages_of content)) (Tree height below)) asked births all zs
        (ends ++ top ∷ [])
    top_ended = record {
      added = h.added;
      gone = h.gone ++ top ∷ [];
      births_are = h.births_are;
      ends_are = ap (λ (xs : List ℕ). xs ++ top ∷ []) h.ends_are ∙ append_assoc zs h.gone (top ∷ []);
      lowest_free = h.lowest_free;
      in_order = h.in_order;
      of_inode = h.of_inode;
      data_is = λ i. low_is 0 i (omega arith) ∙ h.data_is i;
      data_asked = h.data_asked;
      placed = λ x k. low_is x.place.level x.place.offset (born_low x k) ∙ h.placed x k;
      becomes = λ l offset. elim (cases_lt height l) [
        | inl far ↦
            shapes.goes (tree_above (with_births all (pages_of content)) height below l offset far)
            (λ v e. far_gone l offset v far e)
        | inr low ↦
            subst (λ (o : Option ℕ). PlaceBecomes (old l offset) o l offset h.added (h.gone ++ top ∷ []))
            (sym (low_is l offset low)) (elim (h.becomes l offset) [
              | shapes.stays s ↦ shapes.stays s
              | shapes.comes x k at s g ↦ shapes.comes x k at s (λ v e. more v (g v e))
              | shapes.goes s g ↦ shapes.goes s (λ v e. more v (g v e))
            ])
      ];
      lost = λ v k. elim (Contains-append_cases h.gone (top ∷ []) v k) [
        | inl q ↦
            let r = h.lost v q in (
              r.0,
              r.1,
              elim (cases_lt height r.0.0) [
                | inl far ↦
                    λ e.
                    let no : None ≡ Some v =
                    sym (tree_above (with_births all (pages_of content)) height below r.0.0 r.0.1 far)
                    ∙ e in
                    cc
                | inr low ↦ λ e. r.2 (sym (low_is r.0.0 r.0.1 low) ∙ e)
              ],
            )
        | inr q ↦ elim (uncons top [] v q) [
          | inl t ↦ (
            (suc height, 0),
            there ∙ ap (λ (m : ℕ). let o : Option ℕ = Some m in o) t,
            λ e.
                let no : None ≡ Some v =
                sym (tree_above (with_births all (pages_of content)) height below (suc height) 0
                (omega arith))
                ∙ e in
                cc,
          )
          | inr t ↦ absurd (let l = t.1 in omega arith)
        ]
      ];
      gone_once =
          pairs-append (λ (x : ℕ) (y : ℕ). x ≢ y) h.gone (top ∷ []) h.gone_once
          (λ i j d l m. absurd (omega arith)) (λ x y k m e. elim (uncons top [] y m) [
            | inl t ↦
                let r = h.lost x k in
                let x_is : x ≡ top = e ∙ sym t in
                let same : r.0 ≡ (suc height, 0) =
                once r.0 (suc height, 0) top
                (r.1 ∙ ap (λ (n : ℕ). let o : Option ℕ = Some n in o) x_is) there in
                let at : place_at (with_births all (pages_of content)) (Tree (suc height) top) r.0.0 r.0.1
                ≡ Some top =
                subst (λ (p : ℕ × ℕ).
                place_at (with_births all (pages_of content)) (Tree (suc height) top) p.0 p.1 ≡ Some top)
                (sym same) kept_at in
                r.2 (at ∙ ap (λ (n : ℕ). let o : Option ℕ = Some n in o) (sym x_is))
            | inr t ↦ absurd (let l = t.1 in omega arith)
          ]);
      written = h.written;
      rewritten = λ l i one k. elim (cases_lt height l) [
        | inl far ↦ inr (tree_above (with_births all (pages_of content)) height below l (i / 128 ^ l) far)
        | inr low ↦ elim (h.rewritten l i one k) [
          | inl r ↦ inl r
          | inr r ↦ inr (low_is l (i / 128 ^ l) low ∙ r)
        ]
      ];
    }
      where
        more : (v : ℕ) → Contains h.gone v → Contains (h.gone ++ top ∷ []) v
        more v k = Contains-append_left h.gone (top ∷ []) v k

        far_gone : (l offset v : ℕ) → height < l → old l offset ≡ Some v → Contains (h.gone ++ top ∷ []) v
        far_gone l offset v far e = elim (h.becomes l offset) [
          | shapes.stays s ↦
              let t = top_alone l offset v far (s ∙ e) in
              subst (λ (n : ℕ). Contains (h.gone ++ top ∷ []) n) (sym t.2) (Contains-push h.gone top)
          | shapes.comes x k at s g ↦ more v (g v e)
          | shapes.goes s g ↦ more v (g v e)
        ]

    pub ended_full : HasFullNodes (with_births all (pages_of content)) (suc height) top
        → HasFullNodes (with_births all (pages_of content)) height below
    ended_full full =
        full_places (with_births all (pages_of content)) height below
        (place_at (with_births all (pages_of content)) (Tree (suc height) top)) low_is
        (λ l offset v low e. full l offset v (omega arith) e)
