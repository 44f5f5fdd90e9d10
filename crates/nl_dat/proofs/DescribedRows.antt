-- A row of descriptions that grows at its end.
use Rattle.std.proofs.Common.{◌≡◌, ℕ, suc, ◌+◌, ◌<◌, List, [], ◌∷◌, ◌++◌, Option, None, sym, ap, ◌∙◌, take, get_or, length, append_assoc, arith}
use Rattle.std.specs.Option.{option_map}
use Rattle.std.proofs.lemmas.List.{append-nil, length-take-le, take_more}
use Rattle.nl_types.specs.Blocks.PartialMaps.{Partial}
use Rattle.nl_layout.specs.declared.tag.Tag.{Tag}
use Rattle.nl_vstore.specs.Content.{Payload, payload_tag}
use Rattle.nl_dat.specs.declared.bdesc.Bdesc.{Bdesc}
use Rattle.nl_dat.specs.Described.{desc_at, descs_from}

descs-append : (addresses : Partial ℕ) (b : ℕ) (xs ys : List (Option Payload))
    → descs_from addresses b (xs ++ ys) ≡ descs_from addresses b xs ++ descs_from addresses (b + length xs) ys
descs-append addresses b [] ys =
    let here : b ≡ b + 0 = omega arith in ap (λ (c : ℕ). descs_from addresses c ys) here
descs-append addresses b (x ∷ xs) ys =
    let first : List Bdesc = desc_at addresses b (option_map payload_tag x) in
    let past : suc b + length xs ≡ b + length (x ∷ xs) = omega arith in
    ap (λ (ds : List Bdesc). first ++ ds) (descs-append addresses (suc b) xs ys)
    ∙ ap (λ (c : ℕ). first ++ (descs_from addresses (suc b) xs ++ descs_from addresses c ys)) past
    ∙ sym (append_assoc first (descs_from addresses (suc b) xs)
    (descs_from addresses (b + length (x ∷ xs)) ys))

-- one block more
pub descs-more : (addresses : Partial ℕ) (b k c : ℕ) (row : List (Option Payload)) (tag : Option Tag)
    → k < length row → c ≡ b + k → tag ≡ option_map payload_tag (get_or row k None)
    → descs_from addresses b (take (k + 1) row)
    ≡ descs_from addresses b (take k row) ++ desc_at addresses c tag
descs-more addresses b k c row tag within at tagged =
    let size : b + length (take k row) ≡ c =
    ap (λ (n : ℕ). b + n) (length-take-le k row (omega (arith, within))) ∙ sym at in
    ap (descs_from addresses b) (take_more row k None within)
    ∙ descs-append addresses b (take k row) (get_or row k None ∷ [])
    ∙ ap (λ (ds : List Bdesc). descs_from addresses b (take k row) ++ ds)
    (append-nil (desc_at addresses (b + length (take k row)) (option_map payload_tag (get_or row k None))))
    ∙ ap (λ (d : ℕ).
    descs_from addresses b (take k row) ++ desc_at addresses d (option_map payload_tag (get_or row k None)))
    size
    ∙ ap (λ (o : Option Tag). descs_from addresses b (take k row) ++ desc_at addresses c o) (sym tagged)
