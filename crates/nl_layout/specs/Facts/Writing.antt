-- Records, one after the other.
use Rattle.std.proofs.Common.{◌≡◌, ℕ, ◌+◌, ◌*◌, ◌-◌, ◌<◌, ◌≤◌, List, [], ◌∷◌, ◌++◌, length, take, drop, get_or, refl, ap, sym, ◌∙◌, arith, append_assoc}
use Rattle.std.proofs.Math.ListN.{replicate}
use Rattle.std.proofs.Math.Seq.{take-append_seam, drop-append_seam}
use Rattle.std.proofs.lemmas.List.{drop-replicate, length-take-le, take_more}
use Rattle.std.proofs.lemmas.List.Concat.{flat_map-append}
use borrow.Rule.Slice.PartMut.{put_mid}
use Rattle.nl_layout.specs.declared.tag.Tag.{Tag}
use Rattle.nl_layout.specs.Tag.{tag_bytes}
use Rattle.nl_layout.specs.Summary.{tags_bytes}

pub length-tags_bytes : (tags : List Tag) → length (tags_bytes tags) ≡ 32 * length tags
length-tags_bytes [] = refl
length-tags_bytes (tag ∷ tags) = let more = length-tags_bytes tags in omega (arith, more)

-- a write right behind a part
pub put_mid-seam : (front rest new : List ℕ) (n : ℕ)
    → put_mid (length front) n (front ++ rest) new ≡ front ++ (new ++ drop n rest)
put_mid-seam front rest new n =
    rw (take-append_seam front rest)
    (ap (λ (xs : List ℕ). front ++ (new ++ drop n xs)) (drop-append_seam front rest))

-- the records and the zeros behind them, once there is one record more
pub put_tag : (tags : List Tag) (k n : ℕ) (d : Tag) (out new : List ℕ) → k < length tags → length tags ≤ 30
    → n ≡ 32
    → out ≡ tags_bytes (take k tags) ++ replicate (32 * (30 - k)) 0 → new ≡ tag_bytes (get_or tags k d)
    → put_mid (32 * k) n out new ≡ tags_bytes (take (k + 1) tags) ++ replicate (32 * (30 - (k + 1))) 0
put_tag tags k n d out new within most e before w =
    let front : List ℕ = tags_bytes (take k tags) in
    let len : 32 * k ≡ length front =
    sym (length-tags_bytes (take k tags)
    ∙ ap (λ (x : ℕ). 32 * x) (length-take-le k tags (omega arith))) in
    let more : tags_bytes (take (k + 1) tags) ≡ front ++ tag_bytes (get_or tags k d) =
    ap tags_bytes (take_more tags k d within)
    ∙ flat_map-append tag_bytes (take k tags) (get_or tags k d ∷ []) in
    let rest : drop n (replicate (32 * (30 - k)) 0) ≡ replicate (32 * (30 - (k + 1))) 0 =
    drop-replicate n (32 * (30 - k)) 0 ∙ ap (λ (x : ℕ). replicate x 0) (omega arith) in
    let written : put_mid (32 * k) n out new ≡ front ++ (new ++ replicate (32 * (30 - (k + 1))) 0) =
    rw (before, len)
    (put_mid-seam front (replicate (32 * (30 - k)) 0) new n
    ∙ ap (λ (xs : List ℕ). front ++ (new ++ xs)) rest) in
    written
    ∙ rw (more, w)
    (sym (append_assoc front (tag_bytes (get_or tags k d)) (replicate (32 * (30 - (k + 1))) 0)))
