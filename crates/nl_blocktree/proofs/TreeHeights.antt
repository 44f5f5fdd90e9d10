-- A renewed tree becomes as low as can be.
use Rattle.std.proofs.Common.{◌≡◌, ◌≢◌, ℕ, zero, suc, ◌+◌, ◌*◌, ◌-◌, ◌/◌, ◌%◌, ◌<◌, ◌≤◌, List, [], ◌∷◌, ◌++◌, length, get_or, take, is_some, Option, Some, None, refl, ap, sym, subst, ◌∙◌, arith, inl, inr, ◌⊎◌, append_assoc, length-append}
use Rattle.std.specs.Prelude.{slice_get}
use Rattle.std.specs.List.{Contains}
use Rattle.std.specs.Option.{option_and_then, option_map_or, IsSome}
use Rattle.std.proofs.lemmas.Bool.{both_ways, cases_eq, cases_lt, ne_eqb, or_cases}
use Rattle.std.proofs.lemmas.List.{append-nil, get_or_append_left, get_or_push, length_push}
use Rattle.std.proofs.lemmas.List.Elements.{Contains-append_cases, Contains-append_left, Contains-push}
use Rattle.nl_types.specs.Facts.Births.{uncons}
use Rattle.nl_types.specs.Blocks.Entries.{Birth, Content, number_of}
use Rattle.nl_types.specs.Blocks.RootChanges.{InPayloadOrder, IsAt, PrecedesInPayload, born, with_births}
use Rattle.nl_types.specs.Blocks.Roots.{Pages, Root, Tree, child, numbered, pages_of, place_at, slot}
use Rattle.nl_vstore.specs.Facts.BatchLaws.{Fits-birth, Fits-end}
use Rattle.nl_vstore.specs.Batches.{Changes, CanBeTaken, IsLowestFree, TakeLowestFree, is_born, last_number}
use Rattle.nl_blocktree.specs.Numbering.{IsUnused}
use Rattle.nl_blocktree.specs.Private.Renewing.{HasBegun, IsLowered, IsNewTree, IsRenewed, TopDropped, TopPage}
use Rattle.nl_blocktree.specs.Private.TreeLevels.{HasFullNodes, Levels, only}
use Rattle.nl_blocktree.specs.declared.tree.Edit.{Edit}
use Rattle.nl_blocktree.specs.Private.Writing as shapes
use Rattle.nl_blocktree.specs.Facts.Frames.{births-keep}
use Rattle.nl_blocktree.specs.Facts.Numbers.{born-append, born_in, free_unused, free_untaken, born-is_born, numbered-nonzero, unused_of_fits}
use Rattle.nl_blocktree.specs.Facts.Staying.{some-is, some-of}
use Rattle.nl_blocktree.proofs.TreeEdits.{birth_page}
use Rattle.nl_blocktree.specs.Facts.TreeLevels.{only_zero, tree_above, tree_child, tree_top}
use Rattle.nl_blocktree.proofs.TreeLowered.{ended_full, top_ended, top_untaken, untaken_full}
use Rattle.nl_blocktree.proofs.TreeShape.{beyond, one_level}
use Rattle.nl_blocktree.proofs.TreeWhole.{new_tree}

-- ---- the last birth

pub last_of : (xs : List Birth) → 0 < length xs → (init : List Birth) × (b : Birth) × (xs ≡ init ++ b ∷ [])
last_of [] l = absurd (omega arith)
last_of (x ∷ []) l = ([], x, refl)
last_of (x ∷ y ∷ ys) l =
    let r = last_of (y ∷ ys) (omega arith) in (x ∷ r.0, r.1, ap (λ (zs : List Birth). x ∷ zs) r.2)

slice_get-push : (xs : List Birth) (x : Birth) → slice_get (xs ++ x ∷ []) (length xs) ≡ Some x
slice_get-push [] x = refl
slice_get-push (y ∷ ys) x = slice_get-push ys x

pub last_number-push : (births : List Birth) (p : Birth) → last_number (births ++ p ∷ []) ≡ p.number
last_number-push births p =
    let end : length (births ++ p ∷ []) - 1 ≡ length births = omega (arith, length_push births p) in
    ap (λ (n : ℕ). option_map_or number_of (slice_get (births ++ p ∷ []) n) 0) end
    ∙ ap (λ (o : Option Birth). option_map_or number_of o 0) (slice_get-push births p)

take_front : (xs : List Birth) (b : Birth) → take (length (xs ++ b ∷ []) - 1) (xs ++ b ∷ []) ≡ xs
take_front xs b =
    let e : length (xs ++ b ∷ []) - 1 ≡ length xs = omega (arith, length_push xs b) in
    ap (λ (n : ℕ). take n (xs ++ b ∷ [])) e ∙ whole xs
  where
    whole : (ys : List Birth) → take (length ys) (ys ++ b ∷ []) ≡ ys
    whole [] = refl
    whole (y ∷ ys) = ap (λ (zs : List Birth). y ∷ zs) (whole ys)

-- ---- a batch without its last birth

rises : (content : Content) (before : List Birth) (x y : Birth) → IsLowestFree content before x.number
    → IsLowestFree content (before ++ x ∷ []) y.number → x.number < y.number
rises content before x y a b = elim (cases_lt x.number y.number) [
  | inl l ↦ l
  | inr l ↦ elim (cases_eq y.number x.number) [
    | inl e ↦
        absurd (free_untaken content (before ++ x ∷ []) y.number b
        (subst (λ (n : ℕ). Contains (born (before ++ x ∷ [])) n) (sym e)
        (born_in (before ++ x ∷ []) x (Contains-push before x))))
    | inr n ↦
        elim (or_cases (is_some (content y.number)) (is_born before y.number)
        (a.lowest y.number b.positive (omega (arith, l, n)))) [
          | inl t ↦
              absurd (both_ways (is_some (content y.number))
              (ap is_some (free_unused content (before ++ x ∷ []) y.number b)) t)
          | inr t ↦ absurd (free_untaken content (before ++ x ∷ []) y.number b
              (subst (λ (ns : List ℕ). Contains ns y.number) (sym (born-append before (x ∷ [])))
              (Contains-append_left (born before) (x.number ∷ []) y.number (born-is_born before y.number t))))
        ]
  ]
]

-- numbers that are handed out rise
far_below : (content : Content) (before xs : List Birth) (x b : Birth)
    → TakeLowestFree content before (x ∷ (xs ++ b ∷ [])) → x.number + length xs + 1 ≤ b.number
far_below content before [] x b n = let l = rises content before x b n.0 n.1.0 in omega (arith, l)
far_below content before (y ∷ ys) x b n =
    let l = rises content before x y n.0 n.1.0 in
    let r = far_below content (before ++ x ∷ []) ys y b n.1 in
    omega (arith, l, r)

fits_front : (room : ℕ) (content : Content) (first xs : List Birth) (b : Birth) (ends : List ℕ)
    → CanBeTaken room content (record { births = first; ends = ends })
    → TakeLowestFree content first (xs ++ b ∷ []) →
    b.number ≤ room + length (first ++ xs) + 1
    → CanBeTaken room content (record { births = first ++ xs; ends = ends })
fits_front room content first [] b ends f n l =
    subst (λ (bs : List Birth). CanBeTaken room content (record { births = bs; ends = ends }))
    (sym (append-nil first)) f
fits_front room content first (x ∷ xs) b ends f n l =
    let long = length-append first (x ∷ xs) in
    let far = far_below content first xs x b n in
    let next =
    Fits-birth room content (record { births = first; ends = ends }) x f n.0
    (omega (arith, l, long, far)) in
    let again : (first ++ x ∷ []) ++ xs ≡ first ++ x ∷ xs = append_assoc first (x ∷ []) xs in
    subst (λ (bs : List Birth). CanBeTaken room content (record { births = bs; ends = ends })) again
    (fits_front room content (first ++ x ∷ []) xs b ends next n.1
    (let e = ap (λ (bs : List Birth). length bs) again in omega (arith, l, e)))

-- a batch that fits without its last birth fits
pub fits_back : (room : ℕ) (content : Content) (first init : List Birth) (b : Birth) (zs ends : List ℕ)
    → CanBeTaken room content (record { births = first; ends = zs })
    → TakeLowestFree content first (init ++ b ∷ []) →
    CanBeTaken room content (record { births = (first ++ init) ++ b ∷ []; ends = ends })
    → CanBeTaken room content (record { births = first ++ init; ends = ends })
fits_back room content first init b zs ends f n g =
    let last = last_number-push (first ++ init) b in
    let in_room = g.inside in
    let long = length_push (first ++ init) b in
    fits_front room content first init b ends
    (record {
      inside = f.inside;
      once = f.once;
      taken = f.taken;
      unused = f.unused;
      from_one = f.from_one;
      upto_last = f.upto_last;
      live = g.live;
    })
    n
    (omega (arith, last, in_room, long))

take_whole : (n : ℕ) (xs : List Birth) → length xs ≤ n → take n xs ≡ xs
take_whole zero [] l = refl
take_whole zero (x ∷ xs) l = absurd (omega arith)
take_whole (suc n) [] l = refl
take_whole (suc n) (x ∷ xs) l = ap (λ (ys : List Birth). x ∷ ys) (take_whole n xs (omega arith))

take_take : (n m : ℕ) (xs : List Birth) → n ≤ m → take n (take m xs) ≡ take n xs
take_take zero m xs l = refl
take_take (suc n) zero xs l = absurd (omega arith)
take_take (suc n) (suc m) [] l = refl
take_take (suc n) (suc m) (x ∷ xs) l = ap (λ (ys : List Birth). x ∷ ys) (take_take n m xs (omega arith))

same_rest : (xs ys zs : List Birth) → xs ++ ys ≡ xs ++ zs → ys ≡ zs
same_rest [] ys zs e = e
same_rest (x ∷ xs) ys zs e = same_rest xs ys zs cc

-- ---- the top

module _ (height top begun : ℕ) {content : Content} {inode : ℕ} {prior old : Levels} {asked : List Edit}
    {first leaves all : List Birth} {zs ends : List ℕ}
    (begins : HasBegun begun first leaves all)
    (h : IsRenewed content inode prior old
    (place_at (with_births all (pages_of content)) (Tree (suc height) top)) asked first all zs ends)
    (named : top ≢ 0) where
  at_top : place_at (with_births all (pages_of content)) (Tree (suc height) top) (suc height) 0 ≡ Some top
  at_top = tree_top (with_births all (pages_of content)) (suc height) top 0 ∙ numbered-nonzero top named

  -- the last birth, where there are any
  pub last_born : begun < length all
      → (init : List Birth) × (b : Birth) × (h.added ≡ init ++ b ∷ []) × (all ≡ (first ++ init) ++ b ∷ [])
      × (last_number all ≡ b.number)
  last_born more =
      let long = length-append first h.added in
      let short = length-append first leaves in
      let count = begins.count in
      let same = ap (λ (bs : List Birth). length bs) h.births_are in
      let r = last_of h.added (omega (arith, more, long, short, count, same)) in
      let all_is : all ≡ (first ++ r.0) ++ r.1 ∷ [] =
      h.births_are
      ∙ (ap (λ (xs : List Birth). first ++ xs) r.2 ∙ sym (append_assoc first r.0 (r.1 ∷ []))) in
      (r.0, r.1, r.2, all_is, ap last_number all_is ∙ last_number-push (first ++ r.0) r.1)

  -- a top that was born is the last birth
  born_last : (x : Birth) → Contains h.added x → IsAt x (suc height) 0
      → (begun < length all) × (last_number all ≡ x.number)
  born_last x k at = (
    more,
    last
        ∙ ap (λ (b : Birth). b.number)
        (same (Contains-append_cases r.0 (r.1 ∷ []) x (subst (λ (bs : List Birth). Contains bs x) r.2 k))),
  )
    where
      more : begun < length all
      more = elim (cases_lt begun (length all)) [
        | inl l ↦ l
        | inr l ↦
            let all_is : first ++ h.added ≡ first ++ leaves =
            sym h.births_are ∙ (sym (take_whole begun all l) ∙ begins.stand_first) in
            let z =
            begins.of_data x
            (subst (λ (bs : List Birth). Contains bs x) (same_rest first h.added leaves all_is) k) in
            let a = at.0 in
            absurd (omega (arith, z, a))
      ]

      r : (init : List Birth) × (b : Birth) × (h.added ≡ init ++ b ∷ []) × (all ≡ (first ++ init) ++ b ∷ [])
          × (last_number all ≡ b.number)
      r = last_born more

      last : last_number all ≡ r.1.number
      last = r.4

      last_in : Contains h.added r.1
      last_in = subst (λ (bs : List Birth). Contains bs r.1) (sym r.2) (Contains-push r.0 r.1)

      level : (r.1.place.level ≤ suc height)
      level = elim (cases_lt (suc height) r.1.place.level) [
        | inl far ↦
            let no : None ≡ Some r.1.number =
            sym (tree_above (with_births all (pages_of content))
            (suc height) top r.1.place.level r.1.place.offset far)
            ∙ h.placed r.1 last_in in
            cc
        | inr low ↦ low
      ]

      offset : r.1.place.level ≡ suc height → r.1.place.offset ≡ 0
      offset e = only_zero top r.1.place.offset r.1.number
          (sym (tree_top (with_births all (pages_of content)) (suc height) top r.1.place.offset)
          ∙ subst (λ (l : ℕ).
          place_at (with_births all (pages_of content)) (Tree (suc height) top) l r.1.place.offset
          ≡ Some r.1.number)
          e
          (h.placed r.1 last_in))

      before : Contains r.0 x → PrecedesInPayload x r.1
      before c =
          let len = length_push r.0 r.1 in
          let l = c.1 in
          let pair : PrecedesInPayload (get_or (r.0 ++ r.1 ∷ []) c.0 x)
          (get_or (r.0 ++ r.1 ∷ []) (length r.0) x) =
          subst (λ (xs : List Birth). InPayloadOrder xs) r.2 h.in_order c.0 (length r.0) x c.1
          (omega arith) in
          let left : get_or (r.0 ++ r.1 ∷ []) c.0 x ≡ x = get_or_append_left r.0 (r.1 ∷ []) x c.0 c.1 ∙ c.2 in
          let right : get_or (r.0 ++ r.1 ∷ []) (length r.0) x ≡ r.1 =
          get_or_push r.0 r.1 x (length r.0) refl in
          subst (λ (y : Birth). PrecedesInPayload y r.1) left
          (subst (λ (y : Birth). PrecedesInPayload (get_or (r.0 ++ r.1 ∷ []) c.0 x) y) right pair)

      same : (Contains r.0 x) ⊎ (Contains (r.1 ∷ []) x) → r.1 ≡ x
      same (inl c) = elim (before c) [
        | inl l ↦ absurd (let m = level in let a = at.0 in omega (arith, l, m, a))
        | inr l ↦
            let a = at.0 in
            let b = at.1 in
            let z = offset (sym l.0 ∙ a) in
            let less = l.1 in
            absurd (omega (arith, b, z, less))
      ]
      same (inr c) = elim (uncons r.1 [] x c) [ inl e ↦ e | inr e ↦ absurd (let l = e.1 in omega arith) ]

  -- any other stood there before
  pub top_old : ((begun < length all) × (last_number all ≡ top) → ⊥) → old (suc height) 0 ≡ Some top
  top_old other = elim (h.becomes (suc height) 0) [
    | shapes.stays s ↦ sym s ∙ at_top
    | shapes.comes x k at s g ↦
        let q : Some x.number ≡ Some top = sym s ∙ at_top in
        let n : x.number ≡ top = cc in
        let b = born_last x k at in
        absurd (other (b.0, b.1 ∙ n))
    | shapes.goes s g ↦ let none : None ≡ Some top = sym s ∙ at_top in cc
  ]

-- ---- the page of the top

some_of_both : (a b c d : ℕ) → ((a < b) × (c ≡ d)) ⊎ ((a < b) × (c ≡ d) → ⊥)
some_of_both a b c d = elim (cases_lt a b) [
  | inl l ↦ elim (cases_eq c d) [ inl e ↦ inl (l, e) | inr n ↦ inr (λ p. n p.1) ]
  | inr l ↦ inr (λ p. absurd (let m = p.0 in omega (arith, l, m)))
]

pub page_of_top : (height top begun : ℕ) {content : Content} {inode : ℕ} {prior old : Levels}
    {asked : List Edit} {first leaves all : List Birth} {zs ends : List ℕ}
    → top ≢ 0 → HasBegun begun first leaves all →
    IsUnused content all → ((l offset v : ℕ) → old l offset ≡ Some v → IsSome (pages_of content v)) →
    IsRenewed content inode prior old
    (place_at (with_births all (pages_of content)) (Tree (suc height) top)) asked first all zs ends
    →
    (page : List ℕ) × TopPage (pages_of content) all begun top page
    × (with_births all (pages_of content) top ≡ Some page)
page_of_top height top begun {content} {first = first} {all = all} named begins free stored h =
    elim (some_of_both begun (length all) (last_number all) top) [
      | inl p ↦
          let r = last_born height top begun begins h named p.0 in
          let last_in : Contains h.added r.1 =
          subst (λ (bs : List Birth). Contains bs r.1) (sym r.2) (Contains-push r.0 r.1) in
          let number : r.1.number ≡ top = sym r.4 ∙ p.1 in
          let page : with_births all (pages_of content) r.1.number ≡ Some r.1.page =
          ap (λ (bs : List Birth). with_births bs (pages_of content) r.1.number) h.births_are
          ∙ birth_page content first h.added r.1 h.lowest_free last_in in (
            r.1.page,
            inl (first ++ r.0, r.1, r.3, p.0, number, refl),
            subst (λ (n : ℕ). with_births all (pages_of content) n ≡ Some r.1.page) number page,
          )
      | inr n ↦
          let x =
          some-of (pages_of content top)
          (stored (suc height) 0 top (top_old height top begun begins h named n)) in
          (x.0, inr (n, x.1), births-keep content all free top x.0 x.1)
    ]

top_slot : (pages : Pages) (top : ℕ) (page : List ℕ) (s : ℕ) → top ≢ 0 → pages top ≡ Some page
    → child pages s (numbered top) ≡ slot s page
top_slot pages top page s named e = rw (numbered-nonzero top named, e) refl

-- ---- a tree that is as low as can be

pub lowered_one : {room : ℕ} {content : Content} {begun top : ℕ} (before : Changes) → top ≢ 0
    → IsLowered room content begun 1 top (Tree 1 top) before before
lowered_one {content = content}
    {top = top} before named inode prior old asked first leaves zs begins fits stored live once now h full = (
      h,
      new_tree (with_births before.births (pages_of content)) 1 top (numbered-nonzero top named)
          (one_level (some-is (place_at (with_births before.births (pages_of content)) (Tree 1 top) 1 0) top
          (tree_top (with_births before.births (pages_of content)) 1 top 0 ∙ numbered-nonzero top named)))
          full,
      now,
    )

pub lowered_here : {room : ℕ} {content : Content} {begun top : ℕ} (height : ℕ) (before : Changes) → top ≢ 0 →
    ((page : List ℕ) → TopPage (pages_of content) before.births begun top page → (s : ℕ) → s < 128
    → IsSome (slot s page) → (t : ℕ) × (1 ≤ t) × (t < 128) × IsSome (slot t page))
    →
    IsLowered room content begun (suc (suc height)) top (Tree (suc (suc height)) top) before before
lowered_here {room} {content} {begun}
    {top} height before named more inode prior old asked first leaves zs begins fits stored live once now h
    full = (
      h,
      new_tree pages (suc (suc height)) top (numbered-nonzero top named)
          (beyond height t.0 t.1 (subst (λ (o : Option ℕ). IsSome o) (sym (at t.0 t.2)) t.3)) full,
      now,
    )
  where
    pages : Pages
    pages = with_births before.births (pages_of content)

    p : (page : List ℕ) × TopPage (pages_of content) before.births begun top page
        × (with_births before.births (pages_of content) top ≡ Some page)
    p = page_of_top (suc height) top begun named begins (unused_of_fits room content before now) stored h

    at : (s : ℕ) → s < 128 → place_at pages (Tree (suc (suc height)) top) (suc height) s ≡ slot s p.0
    at s low =
        let q : s / 128 ≡ 0 = omega (arith, low) in
        let m : s % 128 ≡ s = omega (arith, low) in
        tree_child pages (suc (suc height)) top (suc height) s (omega arith)
        ∙ (ap (λ (k : ℕ).
        child pages k (place_at pages (Tree (suc (suc height)) top) (suc (suc height)) (s / 128)))
        m
        ∙ (ap (λ (k : ℕ). child pages s (place_at pages (Tree (suc (suc height)) top) (suc (suc height)) k)) q
        ∙ (ap (child pages s) (tree_top pages (suc (suc height)) top 0)
        ∙ top_slot pages top p.0 s named p.2)))

    some : (s : ℕ) × (s < 128) × IsSome (slot s p.0)
    some =
        let f =
        full (suc height) 0 top (omega arith)
        (tree_top pages (suc (suc height)) top 0 ∙ numbered-nonzero top named) in
        let o : 128 * 0 + f.0 ≡ f.0 = omega arith in (
          f.0,
          f.1,
          subst (λ (x : Option ℕ). IsSome x)
              (ap (place_at pages (Tree (suc (suc height)) top) (suc height)) o ∙ at f.0 f.1) f.2,
        )

    t : (t : ℕ) × (1 ≤ t) × (t < 128) × IsSome (slot t p.0)
    t = more p.0 p.1 some.0 some.1 some.2

-- ---- one level down

pub lowered_more : {room : ℕ} {content : Content} {begun top : ℕ} {new : Root} (height below : ℕ)
    (before mid after : Changes)
    → top ≢ 0 →
    ((page : List ℕ) → TopPage (pages_of content) before.births begun top page → (s : ℕ) → s < 128
    → slot s page ≡ only below s)
    →
    TopDropped begun top before mid → IsLowered room content begun height below new mid after
    → IsLowered room content begun (suc height) top new before after
lowered_more {room} {content} {begun} {top}
    {new} height below before mid after named lone dropped on inode prior old asked first leaves zs begins
    fits stored live once now h full =
    by dropped
  where
    pages : Pages
    pages = with_births before.births (pages_of content)

    p : (page : List ℕ) × TopPage (pages_of content) before.births begun top page
        × (with_births before.births (pages_of content) top ≡ Some page)
    p = page_of_top height top begun named begins (unused_of_fits room content before now) stored h

    slots : (s : ℕ) → s < 128 → child pages s (numbered top) ≡ only below s
    slots s low = top_slot pages top p.0 s named p.2 ∙ lone p.0 p.1 s low

    by : TopDropped begun top before mid →
        IsRenewed content inode prior old
        (place_at (with_births after.births (pages_of content)) new) asked first after.births zs after.ends
        × IsNewTree (with_births after.births (pages_of content)) new × CanBeTaken room content after
    by (inl d) =
        let r = last_born height top begun begins h named d.0 in
        let number : r.1.number ≡ top = sym r.4 ∙ d.1 in
        let births : mid.births ≡ first ++ r.0 =
        d.2 ∙ (ap (λ (bs : List Birth). take (length bs - 1) bs) r.3 ∙ take_front (first ++ r.0) r.1) in
        let renewed =
        top_untaken height top below stored h slots r.0 r.1 r.2 number (numbered-nonzero top named) in
        let low =
        untaken_full height top below stored h slots r.0 r.1 r.2 number
        (numbered-nonzero top named) full in
        let back =
        fits_back room content first r.0 r.1 zs before.ends fits
        (subst (λ (bs : List Birth). TakeLowestFree content first bs) r.2 h.lowest_free)
        (subst (λ (bs : List Birth). CanBeTaken room content (record { births = bs; ends = before.ends })) r.3
        now) in
        on inode prior old asked first leaves zs
        (record {
          count = begins.count;
          stand_first =
              (let l = d.0 in
              ap (take begun) d.2
              ∙ (take_take begun (length before.births - 1) before.births (omega (arith, l))
              ∙ begins.stand_first));
          of_data = begins.of_data;
        })
        fits stored live once
        (subst (λ (bs : List Birth). CanBeTaken room content (record { births = bs; ends = mid.ends }))
        (sym births) (subst
        (λ (es : List ℕ). CanBeTaken room content (record { births = first ++ r.0; ends = es }))
        (sym d.3) back))
        (subst (λ (bs : List Birth).
        IsRenewed content inode prior old
        (place_at (with_births bs (pages_of content)) (Tree height below)) asked first bs zs mid.ends)
        (sym births)
        (subst (λ (es : List ℕ).
        IsRenewed content inode prior old
        (place_at (with_births (first ++ r.0) (pages_of content)) (Tree height below)) asked first
        (first ++ r.0) zs es)
        (sym d.3) renewed))
        (subst (λ (bs : List Birth). HasFullNodes (with_births bs (pages_of content)) height below)
        (sym births) low)
    by (inr d) =
        let there = top_old height top begun begins h named d.0 in
        let ended = top_ended height top below stored h slots once there (numbered-nonzero top named) in
        let low = ended_full height top below stored h slots once there (numbered-nonzero top named) full in
        on inode prior old asked first leaves zs
        (subst (λ (m : Changes). HasBegun begun first leaves m.births) (sym d.1) begins) fits stored live
        once
        (subst (λ (m : Changes). CanBeTaken room content m) (sym d.1)
        (Fits-end room content before top now (live (suc height) 0 top there)))
        (subst (λ (m : Changes).
        IsRenewed content inode prior old
        (place_at (with_births m.births (pages_of content)) (Tree height below)) asked first m.births zs
        m.ends)
        (sym d.1) ended)
        (subst (λ (m : Changes). HasFullNodes (with_births m.births (pages_of content)) height below) (sym d.1) low)

-- ---- as the function lowers

named_slot : (o : Option (List ℕ)) (s n : ℕ) → option_and_then (λ (page : List ℕ). slot s page) o ≡ Some n
    → n ≢ 0
named_slot None s n e z = cc
named_slot (Some page) s n e z = named _ n e z
  where
    named : (m w : ℕ) → numbered m ≡ Some w → w ≡ 0 → ⊥
    named zero w e z = cc
    named (suc m) w e z = let q : suc m ≡ w = cc in omega (arith, q, z)

pub slot_named : (o : Option (List ℕ)) (result : Option ℕ) (s n : ℕ)
    → result ≡ option_and_then (λ (page : List ℕ). slot s page) o → result ≡ Some n → n ≢ 0
slot_named o result s n e r = named_slot o s n (sym e ∙ r)

pub only_slots : (o : Option (List ℕ)) (result : Option ℕ) (bytes : List ℕ) (n : ℕ) → o ≡ Some bytes
    → result ≡ option_and_then (λ (page : List ℕ). slot 0 page) o →
    ((t : ℕ) → 1 ≤ t → t < 128 → option_and_then (λ (page : List ℕ). slot t page) o ≡ None) → result ≡ Some n
    → (s : ℕ) → s < 128 → slot s bytes ≡ only n s
only_slots o result bytes n is e later r zero low =
    let first : slot 0 bytes ≡ Some n =
    sym (ap (option_and_then (λ (page : List ℕ). slot 0 page)) is) ∙ (sym e ∙ r) in
    first ∙ sym (numbered-nonzero n (slot_named o result 0 n e r))
only_slots o result bytes n is e later r (suc s) low =
    sym (ap (option_and_then (λ (page : List ℕ). slot (suc s) page)) is)
    ∙ (later (suc s) (omega arith) low ∙ sym (rw (ne_eqb (suc s) 0 (λ z. absurd (omega (arith, z)))) refl))

pub last_is : (births init : List Birth) (b : Birth) (top : ℕ) → births ≡ init ++ b ∷ [] → b.number ≡ top
    → last_number births ≡ top
last_is births init b top e n = ap last_number e ∙ (last_number-push init b ∙ n)

pub lowered_at_one : {room : ℕ} {content : Content} {begun top : ℕ} (height level : ℕ) (before : Changes)
    → height ≡ 1 → level ≡ height → top ≢ 0
    → IsLowered room content begun height top (Tree level top) before before
lowered_at_one {room} {content} {begun} {top} height level before one is named =
    subst (λ (l : ℕ). IsLowered room content begun height top (Tree l top) before before) (sym is)
    (subst (λ (h : ℕ). IsLowered room content begun h top (Tree h top) before before) (sym one)
    (lowered_one {room = room} {content = content} {begun = begun} {top = top} before named))

pub lowered_as_is : {room : ℕ} {content : Content} {begun top : ℕ} (height level : ℕ) (before : Changes)
    → 2 ≤ height → level ≡ height → top ≢ 0 →
    ((page : List ℕ) → TopPage (pages_of content) before.births begun top page → (s : ℕ) → s < 128
    → IsSome (slot s page) → (t : ℕ) × (1 ≤ t) × (t < 128) × IsSome (slot t page))
    →
    IsLowered room content begun height top (Tree level top) before before
lowered_as_is {room} {content} {begun} {top} height level before two is named more =
    let e : height ≡ suc (suc (height - 2)) = omega arith in
    subst (λ (l : ℕ). IsLowered room content begun height top (Tree l top) before before) (sym is)
    (subst (λ (h : ℕ). IsLowered room content begun h top (Tree h top) before before) (sym e)
    (lowered_here {room = room} {content = content} {begun = begun} {top = top}
    (height - 2) before named more))

pub lowered_step : {room : ℕ} {content : Content} {begun top : ℕ} {new : Root} (height below : ℕ)
    (before mid after : Changes)
    → 2 ≤ height → top ≢ 0 →
    ((page : List ℕ) → TopPage (pages_of content) before.births begun top page → (s : ℕ) → s < 128
    → slot s page ≡ only below s)
    →
    TopDropped begun top before mid → IsLowered room content begun (height - 1) below new mid after
    → IsLowered room content begun height top new before after
lowered_step {room} {content} {begun} {top} {new} height below before mid after two named lone dropped on =
    let e : height ≡ suc (height - 1) = omega arith in
    subst (λ (h : ℕ). IsLowered room content begun h top new before after) (sym e)
    (lowered_more {room = room} {content = content} {begun = begun} {top = top} {new = new}
    (height - 1) below before mid after named lone dropped on)
