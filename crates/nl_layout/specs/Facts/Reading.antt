-- What is written is read again.
use Rattle.std.proofs.Common.{◌≡◌, ℕ, zero, suc, ◌+◌, ◌*◌, ◌-◌, ◌<◌, ◌≤◌, List, [], ◌∷◌, ◌++◌, length, take, drop, get_or, slice_index, refl, ap, sym, ◌∙◌, arith, subst, length-append}
use Rattle.std.proofs.Math.ListN.{replicate, set}
use Rattle.std.specs.List.{All}
use Rattle.std.proofs.lemmas.List.{drop-drop, length-replicate, take_more_set, take_rest}
use Rattle.std.proofs.lemmas.List.Elements.{All-head, All-tail, All-weaker}
use Rattle.byteorder.specs.Endian.{little_bytes, little_number}
use Rattle.byteorder.specs.Numbers.{little_number-reads_back}
use Rattle.nl_layout.specs.declared.tag.Tag.{Tag}
use Rattle.nl_layout.specs.Tag.{tag_bytes, tag_at, TagHasSpelling}
use Rattle.nl_layout.specs.Summary.{Contents, HaveLevels, Spells, SummaryHasSpelling, contents_at, summary_bytes, tags_at, tags_bytes}
use Rattle.nl_layout.specs.Facts.Writing.{length-tags_bytes}

-- ---- a record

same_tag : (t : Tag) (n i l o : ℕ) → n ≡ t.number → i ≡ t.inode → l ≡ t.level → o ≡ t.offset
    → (let u : Tag = record { number = n; inode = i; level = l; offset = o } in u) ≡ t
same_tag t n i l o a b c d = rw (a, b, c, d) refl

tag_at-tag_bytes : (t : Tag) (rest : List ℕ) → TagHasSpelling t → tag_at (tag_bytes t ++ rest) ≡ t
tag_at-tag_bytes t rest f =
    same_tag t _ _ _ _
    (little_number-reads_back 8 t.number
    (((little_bytes 8 t.inode ++ little_bytes 8 t.offset) ++ t.level ∷ replicate 7 0) ++ rest) f.number)
    (little_number-reads_back 8 t.inode
    ((little_bytes 8 t.offset ++ t.level ∷ replicate 7 0) ++ rest) f.inode)
    refl
    (little_number-reads_back 8 t.offset ((t.level ∷ replicate 7 0) ++ rest) f.offset)

-- ---- records, one after the other

tags_at-tags_bytes : (tags : List Tag) (rest : List ℕ) → All TagHasSpelling tags
    → tags_at (length tags) (tags_bytes tags ++ rest) ≡ tags
tags_at-tags_bytes [] rest f = refl
tags_at-tags_bytes (tag ∷ tags) rest f =
    both (tag_at-tag_bytes tag (tags_bytes tags ++ rest) (All-head TagHasSpelling tag tags f))
    (tags_at-tags_bytes tags rest (All-tail TagHasSpelling tag tags f))
  where
    both : {a b : Tag} {xs ys : List Tag} → a ≡ b → xs ≡ ys → a ∷ xs ≡ b ∷ ys
    both p q = cc

length-tags_at : (n : ℕ) (bytes : List ℕ) → length (tags_at n bytes) ≡ n
length-tags_at zero bytes = refl
length-tags_at (suc n) bytes = ap suc (length-tags_at n (drop 32 bytes))

-- one record more
tags_at-more : (n : ℕ) (bytes : List ℕ)
    → tags_at (n + 1) bytes ≡ tags_at n bytes ++ tag_at (drop (32 * n) bytes) ∷ []
tags_at-more zero bytes = refl
tags_at-more (suc n) bytes =
    let more : tags_at (suc (n + 1)) bytes
    ≡ tag_at bytes ∷ (tags_at n (drop 32 bytes) ++ tag_at (drop (32 * n) (drop 32 bytes)) ∷ []) =
    ap (λ (ts : List Tag). tag_at bytes ∷ ts) (tags_at-more n (drop 32 bytes)) in
    let at : drop (32 * n) (drop 32 bytes) ≡ drop (32 * suc n) bytes =
    drop-drop (32 * n) 32 bytes ∙ ap (λ (k : ℕ). drop k bytes) (omega arith) in
    let n1 : suc n + 1 ≡ suc (n + 1) = omega arith in
    ap (λ (k : ℕ). tags_at k bytes) n1 ∙ more
    ∙ ap (λ (xs : List ℕ). tag_at bytes ∷ (tags_at n (drop 32 bytes) ++ tag_at xs ∷ [])) at

get_or-tags_at : (n k : ℕ) (bytes : List ℕ) (d : Tag) → k < n
    → get_or (tags_at n bytes) k d ≡ tag_at (drop (32 * k) bytes)
get_or-tags_at zero k bytes d within = absurd (omega arith)
get_or-tags_at (suc n) zero bytes d within = refl
get_or-tags_at (suc n) (suc k) bytes d within =
    get_or-tags_at n k (drop 32 bytes) d (omega arith)
    ∙ ap tag_at (drop-drop (32 * k) 32 bytes ∙ ap (λ (m : ℕ). drop m bytes) (omega arith))

-- ---- the fields of a block

-- where record k stands, as the code names the place
record_at : (k : ℕ) (bytes : List ℕ)
    → take (length bytes - (64 + 32 * k)) (drop (64 + 32 * k) bytes) ≡ drop (32 * k) (drop 64 bytes)
record_at k bytes = take_rest bytes (64 + 32 * k) ∙ sym (drop-drop (32 * k) 64 bytes)

-- the records that were read, once there is one more
pub read_tag : (tags : List Tag) (k : ℕ) (bytes : List ℕ) (tag : Tag) → k < length tags
    → take k tags ≡ tags_at k (drop 64 bytes)
    → tag ≡ tag_at (take (length bytes - (64 + 32 * k)) (drop (64 + 32 * k) bytes))
    → take (k + 1) (set tags k tag) ≡ tags_at (k + 1) (drop 64 bytes)
read_tag tags k bytes tag within e t =
    let at : tag ≡ tag_at (drop (32 * k) (drop 64 bytes)) = t ∙ ap tag_at (record_at k bytes) in
    take_more_set tags k tag within ∙ rw (e, at) (sym (tags_at-more k (drop 64 bytes)))

-- where the tags have levels, so has the record at k
pub level_at : (count k : ℕ) (bytes : List ℕ) → k < count → HaveLevels (tags_at count (drop 64 bytes))
    → slice_index (take (length bytes - (64 + 32 * k)) (drop (64 + 32 * k) bytes)) 24 ≤ 3
level_at count k bytes within levels =
    let d : Tag = tag_at bytes in
    let here : slice_index (drop (32 * k) (drop 64 bytes)) 24 ≤ 3 =
    subst (λ (tag : Tag). tag.level ≤ 3) (get_or-tags_at count k (drop 64 bytes) d within)
    (levels k d (rw (length-tags_at count (drop 64 bytes)) within)) in
    subst (λ (xs : List ℕ). slice_index xs 24 ≤ 3) (sym (record_at k bytes)) here

same_contents : (s : Contents) (a b : ℕ) (c : List Tag) → a ≡ s.stamp → b ≡ s.checkpoint → c ≡ s.tags
    → (let u : Contents = record { stamp = a; checkpoint = b; tags = c } in u) ≡ s
same_contents s a b c p q r = rw (p, q, r) refl

-- all the fields, once the records are read
pub read_fields : (tags : List Tag) (count a b : ℕ) (bytes : List ℕ)
    → take count tags ≡ tags_at count (drop 64 bytes)
    → a ≡ little_number 8 (take (length bytes - 8) (drop 8 bytes))
    → b ≡ little_number 8 (take (length bytes - 16) (drop 16 bytes))
    → (let u : Contents = record { stamp = a; checkpoint = b; tags = take count tags } in u)
    ≡ contents_at count bytes
read_fields tags count a b bytes e p q =
    same_contents (contents_at count bytes) a b (take count tags)
    (p ∙ ap (little_number 8) (take_rest bytes 8)) (q ∙ ap (little_number 8) (take_rest bytes 16)) e

-- ---- a block that spells a summary

pub length-Spells : (bytes : List ℕ) (s : Contents) → Spells bytes s → length bytes ≡ 1024
length-Spells bytes s spells =
    let room : List ℕ = replicate (32 * (30 - length s.tags)) 0 in
    let rest : length (tags_bytes s.tags ++ room) ≡ 960 =
    length-append (tags_bytes s.tags) room
    ∙ rw (length-tags_bytes s.tags, length-replicate {A = ℕ} (32 * (30 - length s.tags)) 0)
    (omega (arith, spells.fits.most)) in
    ap length spells.spelling ∙ omega (arith, rest)

-- the count is the one that was written
count-Spells : (bytes : List ℕ) (s : Contents) → Spells bytes s
    → little_number 2 (take (length bytes - 4) (drop 4 bytes)) ≡ length s.tags
count-Spells bytes s spells =
    ap (little_number 2) (take_rest bytes 4)
    ∙ ap (λ (xs : List ℕ). little_number 2 (drop 4 xs)) spells.spelling
    ∙ little_number-reads_back 2 (length s.tags) (drop 6 (summary_bytes s)) (omega (arith, spells.fits.most))

contents_at-summary_bytes : (s : Contents) → SummaryHasSpelling s
    → contents_at (length s.tags) (summary_bytes s) ≡ s
contents_at-summary_bytes s fits =
    same_contents s _ _ _
    (little_number-reads_back 8 s.stamp (drop 16 (summary_bytes s)) fits.stamp)
    (little_number-reads_back 8 s.checkpoint (drop 24 (summary_bytes s)) fits.checkpoint)
    (tags_at-tags_bytes s.tags (replicate (32 * (30 - length s.tags)) 0) fits.tags)

-- the fields are those that were written, for the count that stands there
pub contents-Spells : (bytes : List ℕ) (s : Contents) (count : ℕ) → Spells bytes s
    → count ≡ little_number 2 (take (length bytes - 4) (drop 4 bytes)) → contents_at count bytes ≡ s
contents-Spells bytes s count spells e =
    let n : count ≡ length s.tags = e ∙ count-Spells bytes s spells in
    rw (n, spells.spelling) (contents_at-summary_bytes s spells.fits)

-- and their levels are levels
pub levels-Spells : (bytes : List ℕ) (s : Contents) (count : ℕ) → Spells bytes s
    → count ≡ little_number 2 (take (length bytes - 4) (drop 4 bytes))
    → HaveLevels (tags_at count (drop 64 bytes))
levels-Spells bytes s count spells e =
    let tags : tags_at count (drop 64 bytes) ≡ s.tags =
    ap (λ (c : Contents). c.tags) (contents-Spells bytes s count spells e) in
    rw tags
    (All-weaker TagHasSpelling (λ tag. tag.level ≤ 3) (λ tag fits. fits.level) s.tags spells.fits.tags)
