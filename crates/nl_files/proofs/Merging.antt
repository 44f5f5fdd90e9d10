-- A file's pages merged with the removals of other blocks.
use Rattle.std.proofs.Common.{◌≡◌, ◌⊎◌, ℕ, zero, suc, ◌+◌, ◌-◌, ◌<◌, ◌≤◌, List, [], ◌∷◌, ◌++◌, length, Some, None, refl, ap, sym, subst, ◌∙◌, arith, inl, inr}
use Rattle.std.specs.Prelude.{cond, nat_lt}
use Rattle.std.specs.List.{slice_get}
use Rattle.std.specs.Option.{option_or}
use Rattle.std.specs.Ordering.{nat_cmp}
use Rattle.std.specs.FinMap.{find}
use Rattle.std.proofs.lemmas.Bool.{cases_eq, cases_lt, eq-eqb, ne_eqb, lt-ltb, le-ltb}
use Rattle.std.proofs.lemmas.List.{append-nil}
use Rattle.nl_types.specs.Blocks.Roots.{Pages}
use Rattle.nl_blocktree.specs.declared.change.BlockChange.{BlockChange}
use Rattle.nl_blocktree.specs.Changed.{blocks_with}
use Rattle.nl_tree.specs.Became.{Rises, blocks_over}
use Rattle.nl_tree.specs.Facts.Rising.{find-below, find-here, find-there, rises-lower}
use Rattle.nl_files.specs.Private.Planned.{cursor_after, index_of, lesser_of, merged, packed_over, placed, removals}

abbrev pub entry : ℕ × List ℕ → ℕ
entry e = e.0

pub removals-next : (i end : ℕ) → i < end
    → removals i (end - i) ≡ record { index = i; page = None } ∷ removals (i + 1) (end - (i + 1))
removals-next i end l = let e : end - i ≡ suc (end - (i + 1)) = omega arith in ap (removals i) e

-- ---- what the changes are

pub changed-here : (c : BlockChange) (cs : List BlockChange) (blocks : Pages) (b : ℕ) → b ≡ c.index
    → blocks_with (c ∷ cs) blocks b ≡ c.page
changed-here c cs blocks b e = ap (λ t. cond t c.page (blocks_with cs blocks b)) (eq-eqb b c.index e)

pub changed-there : (c : BlockChange) (cs : List BlockChange) (blocks : Pages) (b : ℕ) → (b ≡ c.index → ⊥)
    → blocks_with (c ∷ cs) blocks b ≡ blocks_with cs blocks b
changed-there c cs blocks b n = ap (λ t. cond t c.page (blocks_with cs blocks b)) (ne_eqb b c.index n)

pub removed-in : (a n : ℕ) (cs : List BlockChange) (blocks : Pages) (b : ℕ) → a ≤ b → b < a + n
    → blocks_with (removals a n ++ cs) blocks b ≡ None
removed-in a zero cs blocks b l m = absurd (omega arith)
removed-in a (suc n) cs blocks b l m =
    step (cases_eq b a) (λ d. removed-in (a + 1) n cs blocks b (omega arith) (omega arith))
  where
    step : (b ≡ a) ⊎ (b ≡ a → ⊥) → ((b ≡ a → ⊥) → blocks_with (removals (a + 1) n ++ cs) blocks b ≡ None)
        → blocks_with (removals a (suc n) ++ cs) blocks b ≡ None
    step (inl e) h = changed-here (record { index = a; page = None }) (removals (a + 1) n ++ cs) blocks b e
    step (inr d) h =
        changed-there (record { index = a; page = None }) (removals (a + 1) n ++ cs) blocks b d ∙ h d

pub removed-out : (a n : ℕ) (cs : List BlockChange) (blocks : Pages) (b : ℕ) → (b < a) ⊎ (a + n ≤ b)
    → blocks_with (removals a n ++ cs) blocks b ≡ blocks_with cs blocks b
removed-out a zero cs blocks b o = refl
removed-out a (suc n) cs blocks b o =
    changed-there (record { index = a; page = None }) (removals (a + 1) n ++ cs) blocks b (λ e. off o e)
    ∙ removed-out (a + 1) n cs blocks b (on o)
  where
    off : (b < a) ⊎ (a + suc n ≤ b) → b ≡ a → ⊥
    off (inl l) e = omega arith
    off (inr l) e = omega arith

    on : (b < a) ⊎ (a + suc n ≤ b) → (b < a + 1) ⊎ (a + 1 + n ≤ b)
    on (inl l) = inl (omega arith)
    on (inr l) = inr (omega arith)

-- removals alone: what stays below their begin, and nothing stands past the count
pub removed : (next count : ℕ) (blocks : Pages) (b : ℕ) → (count ≤ b → blocks b ≡ None)
    → blocks_with (removals next (count - next)) blocks b ≡ cond (nat_lt b next) (blocks b) None
removed next count blocks b ends =
    ap (λ cs. blocks_with cs blocks b) (sym (append-nil (removals next (count - next))))
    ∙ step (cases_lt b next) (cases_lt b count)
  where
    step : (b < next) ⊎ (next ≤ b) → (b < count) ⊎ (count ≤ b)
        → blocks_with (removals next (count - next) ++ []) blocks b ≡ cond (nat_lt b next) (blocks b) None
    step (inl l) m =
        removed-out next (count - next) [] blocks b (inl l)
        ∙ sym (ap (λ t. cond t (blocks b) None) (lt-ltb b next l))
    step (inr l) (inl m) =
        removed-in next (count - next) [] blocks b l (omega arith)
        ∙ sym (ap (λ t. cond t (blocks b) None) (le-ltb b next l))
    step (inr l) (inr m) =
        removed-out next (count - next) [] blocks b (inr (omega arith))
        ∙ (ends m ∙ sym (ap (λ t. cond t (blocks b) None) (le-ltb b next l)))

-- ---- the cursor

lesser-left : (i count : ℕ) → i < count → lesser_of i count ≡ i
lesser-left i count l = ap (λ t. cond t i count) (lt-ltb i count l)

lesser-right : (i count : ℕ) → count ≤ i → lesser_of i count ≡ count
lesser-right i count l = ap (λ t. cond t i count) (le-ltb i count l)

cursor-stays : (next count i : ℕ) → i < next → cursor_after next count i ≡ next
cursor-stays next count i l = ap (λ t. cond t next (cond (nat_lt i count) (i + 1) i)) (lt-ltb i next l)

cursor-moves : (next count i : ℕ) → next ≤ i → i < count → cursor_after next count i ≡ i + 1
cursor-moves next count i l m =
    ap (λ t. cond t next (cond (nat_lt i count) (i + 1) i)) (le-ltb i next l)
    ∙ ap (λ t. cond t (i + 1) i) (lt-ltb i count m)

cursor-ends : (next count i : ℕ) → next ≤ i → count ≤ i → cursor_after next count i ≡ i
cursor-ends next count i l m =
    ap (λ t. cond t next (cond (nat_lt i count) (i + 1) i)) (le-ltb i next l)
    ∙ ap (λ t. cond t (i + 1) i) (le-ltb i count m)

-- what is removed before a page ends at it, or there is nothing to remove
record Gap (next count i : ℕ) : Type 0 where
  pub most : (lesser_of i count - next ≡ 0) ⊎ (next + (lesser_of i count - next) ≤ i)
  pub low : next ≤ cursor_after next count i
  pub past : (b : ℕ) → next ≤ b → i < b → cursor_after next count i ≤ b
  pub within : (b : ℕ) → next ≤ b → b < i → (b < next + (lesser_of i count - next)) ⊎ (count ≤ b)
  pub before : cursor_after next count i < count → i + 1 ≤ cursor_after next count i

gap : (next count i : ℕ) → Gap next count i
gap next count i = step (cases_lt i next) (cases_lt i count)
  where
    step : (i < next) ⊎ (next ≤ i) → (i < count) ⊎ (count ≤ i) → Gap next count i
    step (inl l) (inl m) =
        let e = lesser-left i count m in
        let c = cursor-stays next count i l in
        record {
          most = inl (omega (arith, e));
          low = omega (arith, c);
          past = λ b h k. omega (arith, c);
          within = λ b h k. absurd (omega arith);
          before = λ h. omega (arith, c);
        }
    step (inl l) (inr m) =
        let e = lesser-right i count m in
        let c = cursor-stays next count i l in
        record {
          most = inl (omega (arith, e));
          low = omega (arith, c);
          past = λ b h k. omega (arith, c);
          within = λ b h k. absurd (omega arith);
          before = λ h. omega (arith, c);
        }
    step (inr l) (inl m) =
        let e = lesser-left i count m in
        let c = cursor-moves next count i l m in
        record {
          most = inr (omega (arith, e));
          low = omega (arith, c);
          past = λ b h k. omega (arith, c);
          within = λ b h k. inl (omega (arith, e));
          before = λ h. omega (arith, c);
        }
    step (inr l) (inr m) =
        let e = lesser-right i count m in
        let c = cursor-ends next count i l m in
        record {
          most = part (cases_lt next count);
          low = omega (arith, c);
          past = λ b h k. omega (arith, c);
          within = λ b h k. side b h (cases_lt b count);
          before = λ h. absurd (omega (arith, c, h));
        }
      where
        part : (next < count) ⊎ (count ≤ next)
            → (lesser_of i count - next ≡ 0) ⊎ (next + (lesser_of i count - next) ≤ i)
        part (inl h) = let e = lesser-right i count m in inr (omega (arith, e))
        part (inr h) = let e = lesser-right i count m in inl (omega (arith, e))

        side : (b : ℕ) → next ≤ b → (b < count) ⊎ (count ≤ b)
            → (b < next + (lesser_of i count - next)) ⊎ (count ≤ b)
        side b h (inl k) = let e = lesser-right i count m in inl (omega (arith, e))
        side b h (inr k) = inr k

-- ---- the merge

pub merged-means : (es : List (ℕ × List ℕ)) (next count low high : ℕ) (blocks : Pages) (b : ℕ)
    → Rises entry low high es → (count ≤ b → blocks b ≡ None) →
    blocks_with (merged next count es) blocks b ≡ blocks_over next es blocks b
merged-means [] next count low high blocks b r ends = removed next count blocks b ends
merged-means (e ∷ es) next count low high blocks b r ends =
    step (cases_eq b e.0)
    (merged-means es (cursor_after next count e.0) count (e.0 + 1) high blocks b r.2 ends)
  where
    here : BlockChange
    here = record { index = e.0; page = Some e.1 }

    tail : List BlockChange
    tail = merged (cursor_after next count e.0) count es

    room : ℕ
    room = lesser_of e.0 count - next

    g : Gap next count e.0
    g = gap next count e.0

    out : b ≡ e.0 → (room ≡ 0) ⊎ (next + room ≤ e.0)
        → blocks_with (removals next room ++ here ∷ tail) blocks b ≡ blocks_with (here ∷ tail) blocks b
    out is (inl z) = ap (λ n. blocks_with (removals next n ++ here ∷ tail) blocks b) z
    out is (inr l) = removed-out next room (here ∷ tail) blocks b (inr (omega (arith, l, is)))

    -- past the removals
    rest : (b ≡ e.0 → ⊥)
        → blocks_with (removals next room ++ here ∷ tail) blocks b ≡ blocks_with (here ∷ tail) blocks b
        → cond (nat_lt b (cursor_after next count e.0)) (blocks b) None ≡ cond (nat_lt b next) (blocks b) None
        →
        blocks_with tail blocks b ≡ blocks_over (cursor_after next count e.0) es blocks b
        → blocks_with (removals next room ++ here ∷ tail) blocks b ≡ blocks_over next (e ∷ es) blocks b
    rest not skips same h =
        skips
        ∙ (changed-there here tail blocks b
        not ∙ (h
        ∙ (ap (option_or (find nat_cmp b es)) same
        ∙ ap (λ o. option_or o (cond (nat_lt b next) (blocks b) None)) (sym (find-there b e es not)))))

    cut : (n : ℕ) → b < n → cond (nat_lt b n) (blocks b) None ≡ blocks b
    cut n l = ap (λ t. cond t (blocks b) None) (lt-ltb b n l)

    not_cut : (n : ℕ) → n ≤ b → cond (nat_lt b n) (blocks b) None ≡ None
    not_cut n l = ap (λ t. cond t (blocks b) None) (le-ltb b n l)

    gone : b < e.0 → next ≤ b → b < next + room
        → blocks_with (removals next room ++ here ∷ tail) blocks b ≡ blocks_over next (e ∷ es) blocks b
    gone l m k =
        removed-in next room (here ∷ tail) blocks b m k
        ∙ sym (ap (option_or (find nat_cmp b (e ∷ es))) (not_cut next m)
        ∙ ap (λ o. option_or o None)
        (find-there b e es (λ is. omega arith) ∙ find-below b (e.0 + 1) high es (omega arith) r.2))

    empty-or : (room ≡ 0) ⊎ (next + room ≤ e.0) → (b < next) ⊎ (e.0 < b)
        → blocks_with (removals next room ++ here ∷ tail) blocks b ≡ blocks_with (here ∷ tail) blocks b
    empty-or (inl z) w = ap (λ n. blocks_with (removals next n ++ here ∷ tail) blocks b) z
    empty-or (inr l) (inl w) = removed-out next room (here ∷ tail) blocks b (inl w)
    empty-or (inr l) (inr w) = removed-out next room (here ∷ tail) blocks b (inr (omega (arith, l)))

    other : (b ≡ e.0 → ⊥) → blocks_with tail blocks b ≡ blocks_over (cursor_after next count e.0) es blocks b
        → (b < next) ⊎ (next ≤ b) → (b < e.0) ⊎ (e.0 ≤ b)
        → blocks_with (removals next room ++ here ∷ tail) blocks b ≡ blocks_over next (e ∷ es) blocks b
    other not h (inl l) m =
        rest not (empty-or g.most (inl l))
        (cut (cursor_after next count e.0) (omega (arith, g.low)) ∙ sym (cut next l)) h
    other not h (inr l) (inr m) =
        let above : e.0 < b = omega (arith, not) in
        rest not (empty-or g.most (inr above))
        (not_cut (cursor_after next count e.0) (g.past b l above) ∙ sym (not_cut next l)) h
    other not h (inr l) (inl m) = elim (g.within b l m) [
      | inl k ↦ gone m l k
      | inr k ↦
          rest not (skip g.most (cases_lt b (next + room)) k)
          (nothing_held (cases_lt b (cursor_after next count e.0)) (ends k) ∙ sym (not_cut next l)) h
    ]
      where
        nothing_held : (b < cursor_after next count e.0) ⊎ (cursor_after next count e.0 ≤ b) → blocks b ≡ None
            → cond (nat_lt b (cursor_after next count e.0)) (blocks b) None ≡ None
        nothing_held (inl x) none = cut (cursor_after next count e.0) x ∙ none
        nothing_held (inr x) none = not_cut (cursor_after next count e.0) x

        skip : (room ≡ 0) ⊎ (next + room ≤ e.0) → (b < next + room) ⊎ (next + room ≤ b) → count ≤ b
            → blocks_with (removals next room ++ here ∷ tail) blocks b ≡ blocks_with (here ∷ tail) blocks b
        skip z (inr x) k = removed-out next room (here ∷ tail) blocks b (inr x)
        skip z (inl x) k = absurd (let h = lesser-most e.0 count in omega (arith, h, x, k, l))
          where
            lesser-most : (i c : ℕ) → lesser_of i c ≤ c
            lesser-most i c = elim (cases_lt i c) [
              | inl x ↦ let y = lesser-left i c x in omega (arith, y)
              | inr x ↦ let y = lesser-right i c x in omega (arith, y)
            ]

    step : (b ≡ e.0) ⊎ (b ≡ e.0 → ⊥)
        → blocks_with tail blocks b ≡ blocks_over (cursor_after next count e.0) es blocks b
        → blocks_with (removals next room ++ here ∷ tail) blocks b ≡ blocks_over next (e ∷ es) blocks b
    step (inl is) h =
        out is g.most
        ∙ (changed-here here tail blocks b is
        ∙ ap (λ o. option_or o (cond (nat_lt b next) (blocks b) None)) (sym (find-here b e es is)))
    step (inr not) h = other not h (cases_lt b next) (cases_lt b e.0)

-- ---- they rise

pub rises-removals : (n a low high : ℕ) (cs : List BlockChange) → low ≤ a → a + n ≤ high
    → Rises index_of (a + n) high cs → Rises index_of low high (removals a n ++ cs)
rises-removals zero a low high cs l m r =
    rises-lower index_of a low high cs l
    (subst (λ k. Rises index_of k high cs) (let e : a + 0 ≡ a = omega arith in e) r)
rises-removals (suc n) a low high cs l m r = (
  l,
  omega arith,
  rises-removals n (a + 1) (a + 1) high cs (omega arith) (omega arith)
      (subst (λ k. Rises index_of k high cs) (let e : a + suc n ≡ a + 1 + n = omega arith in e) r),
)

pub removals-rise : (next count low high : ℕ) → (next < count → low ≤ next) → count ≤ high
    → Rises index_of low high (removals next (count - next))
removals-rise next count low high l m = step (cases_lt next count)
  where
    step : (next < count) ⊎ (count ≤ next) → Rises index_of low high (removals next (count - next))
    step (inl h) =
        subst (λ cs. Rises index_of low high cs) (append-nil (removals next (count - next)))
        (rises-removals (count - next) next low high [] (l h) (omega arith) tt)
    step (inr h) =
        let e : 0 ≡ count - next = omega arith in subst (λ n. Rises index_of low high (removals next n)) e tt

pub merged-rises : (es : List (ℕ × List ℕ)) (next count low high : ℕ) → (next < count → low ≤ next)
    → count ≤ high → Rises entry low high es → Rises index_of low high (merged next count es)
merged-rises [] next count low high l m r = removals-rise next count low high l m
merged-rises (e ∷ es) next count low high l m r =
    step (gap next count e.0)
    (merged-rises es (cursor_after next count e.0) count (e.0 + 1) high (gap next count e.0).before m r.2)
  where
    step : Gap next count e.0 → Rises index_of (e.0 + 1) high (merged (cursor_after next count e.0) count es)
        → Rises index_of low high (merged next count (e ∷ es))
    step g h = part g.most (cases_lt 0 (lesser_of e.0 count - next))
      where
        from : (k : ℕ) → k ≤ e.0
            → Rises index_of k high
            (record { index = e.0; page = Some e.1 } ∷ merged (cursor_after next count e.0) count es)
        from k le = (le, r.1, h)

        part : (lesser_of e.0 count - next ≡ 0) ⊎ (next + (lesser_of e.0 count - next) ≤ e.0)
            → (0 < lesser_of e.0 count - next) ⊎ (lesser_of e.0 count - next ≤ 0)
            → Rises index_of low high (merged next count (e ∷ es))
        part (inl z) w =
            subst (λ n.
            Rises index_of low high
            (removals next n ++ record { index = e.0; page = Some e.1 }
            ∷ merged (cursor_after next count e.0) count es))
            (sym z) (from low r.0)
        part (inr le) (inr z) =
            let zero_is : lesser_of e.0 count - next ≡ 0 = omega arith in
            subst (λ n.
            Rises index_of low high
            (removals next n ++ record { index = e.0; page = Some e.1 }
            ∷ merged (cursor_after next count e.0) count es))
            (sym zero_is) (from low r.0)
        part (inr le) (inl some) =
            rises-removals (lesser_of e.0 count - next) next low high _ (l (below (cases_lt e.0 count)))
            (let x = r.1 in omega (arith, x, le)) (from (next + (lesser_of e.0 count - next)) le)
          where
            below : (e.0 < count) ⊎ (count ≤ e.0) → next < count
            below (inl x) = let y = lesser-left e.0 count x in omega (arith, y, some)
            below (inr x) = let y = lesser-right e.0 count x in omega (arith, y, some)

-- ---- a directory's blocks

placed-means : (pages : List (List ℕ)) (first : ℕ) (cs : List BlockChange) (blocks : Pages) (b : ℕ)
    → first + b ≡ first + b
    → (b < length pages → blocks_with (placed first pages ++ cs) blocks (first + b) ≡ slice_get pages b)
    × (length pages ≤ b
    → blocks_with (placed first pages ++ cs) blocks (first + b) ≡ blocks_with cs blocks (first + b))
placed-means [] first cs blocks b q = (λ l. absurd (omega arith), λ l. refl)
placed-means (page ∷ pages) first cs blocks zero q = (
  λ l.
      changed-here (record { index = first; page = Some page }) (placed (first + 1) pages ++ cs) blocks
      (first + 0) (omega arith),
  λ l. absurd (omega arith),
)
placed-means (page ∷ pages) first cs blocks (suc b) q =
    let h = placed-means pages (first + 1) cs blocks b refl in
    let e : first + 1 + b ≡ first + suc b = omega arith in
    let skip =
    changed-there (record { index = first; page = Some page }) (placed (first + 1) pages ++ cs) blocks
    (first + suc b) (λ x. omega arith) in (
      λ l.
          skip
          ∙ subst (λ n. blocks_with (placed (first + 1) pages ++ cs) blocks n ≡ slice_get pages b) e
          (h.0 (omega arith)),
      λ l.
          skip
          ∙ subst (λ n. blocks_with (placed (first + 1) pages ++ cs) blocks n ≡ blocks_with cs blocks n) e
          (h.1 (omega arith)),
    )

slice_get-past : (pages : List (List ℕ)) (b : ℕ) → length pages ≤ b → slice_get pages b ≡ None
slice_get-past [] b l = refl
slice_get-past (page ∷ pages) zero l = absurd (omega arith)
slice_get-past (page ∷ pages) (suc b) l = slice_get-past pages b (omega arith)

pub packed-means : (pages : List (List ℕ)) (count : ℕ) (blocks : Pages) (b : ℕ)
    → (count ≤ b → blocks b ≡ None) → blocks_with (packed_over count pages) blocks b ≡ slice_get pages b
packed-means pages count blocks b ends = step (cases_lt b (length pages))
  where
    h : (b < length pages → blocks_with (packed_over count pages) blocks b ≡ slice_get pages b)
        × (length pages ≤ b
        → blocks_with (packed_over count pages) blocks b
        ≡ blocks_with (removals (length pages) (count - length pages)) blocks b)
    h =
        let e : 0 + b ≡ b = omega arith in
        subst (λ n.
        (b < length pages → blocks_with (packed_over count pages) blocks n ≡ slice_get pages b)
        × (length pages ≤ b
        → blocks_with (packed_over count pages) blocks n
        ≡ blocks_with (removals (length pages) (count - length pages)) blocks n))
        e
        (placed-means pages 0 (removals (length pages) (count - length pages)) blocks b refl)

    step : (b < length pages) ⊎ (length pages ≤ b)
        → blocks_with (packed_over count pages) blocks b ≡ slice_get pages b
    step (inl l) = h.0 l
    step (inr l) =
        h.1 l
        ∙ (removed (length pages) count blocks b ends
        ∙ (ap (λ t. cond t (blocks b) None) (le-ltb b (length pages) l) ∙ sym (slice_get-past pages b l)))

placed-rises : (pages : List (List ℕ)) (first high : ℕ) (cs : List BlockChange) → first + length pages ≤ high
    → Rises index_of (first + length pages) high cs → Rises index_of first high (placed first pages ++ cs)
placed-rises [] first high cs l r =
    subst (λ k. Rises index_of k high cs) (let e : first + 0 ≡ first = omega arith in e) r
placed-rises (page ∷ pages) first high cs l r = (
  omega arith,
  omega arith,
  placed-rises pages (first + 1) high cs (omega arith)
      (subst (λ k. Rises index_of k high cs)
      (let e : first + suc (length pages) ≡ first + 1 + length pages = omega arith in e) r),
)

pub packed-rises : (pages : List (List ℕ)) (count high : ℕ) → length pages ≤ high → count ≤ high
    → Rises index_of 0 high (packed_over count pages)
packed-rises pages count high l m =
    placed-rises pages 0 high (removals (length pages) (count - length pages)) (omega arith)
    (removals-rise (length pages) count (0 + length pages) high (λ h. omega arith) m)
