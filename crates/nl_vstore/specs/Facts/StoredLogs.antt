-- The device has one list of logs in a segment, and memory has what they say.
use Rattle.std.proofs.Common.{◌≡◌, ℕ, suc, ◌+◌, ◌-◌, ◌*◌, ◌<◌, ◌≤◌, List, [], ◌∷◌, ◌++◌, Option, Some, None, sym, refl, ap, subst, ◌∙◌, map, length, arith, add-zero}
use Rattle.std.specs.Prelude.{slice_get}
use Rattle.std.proofs.Props.{props}
use Rattle.std.proofs.Math.Logic.{∥∥₁_elim}
use Rattle.std.proofs.lemmas.List.{length-map}
use Rattle.std.proofs.lemmas.Option.{same_Some}
use Rattle.nl_types.specs.Blocks.PartialMaps.{Partial}
use Rattle.nl_types.specs.Blocks.Segments.{info_of}
use Rattle.nl_types.specs.Blocks.Placing.{blocks_from}
use Rattle.nl_layout.specs.Summary.{Contents, Spells, summary_bytes}
use Rattle.nl_layout.specs.Facts.Reading.{contents-Spells}
use Rattle.nl_vstore.specs.Content.{HeldPayload, Payload, StandInRow, payload_page, payload_tag}
use Rattle.nl_vstore.specs.Logs.{WholeLog, FillDevice, FillUpTo, IsOnDevice, contents_of, slots_of}
use Rattle.nl_vstore.specs.Stores.{Store, IsStore, device_in, payload_in}
use Rattle.nl_vstore.specs.Summaries.{StandOnDevice, IsOfLogs, payload_row}

-- ---- one list of logs

-- bytes spell one summary at most
one_summary : (bytes : List ℕ) (a b : Contents) → Spells bytes a → Spells bytes b → a ≡ b
one_summary bytes a b spells_a spells_b =
    sym (contents-Spells bytes a _ spells_a refl) ∙ contents-Spells bytes b _ spells_b refl

-- payload is told by its tags and its pages
same_payload : (ps qs : List Payload) → map payload_tag ps ≡ map payload_tag qs
    → ((j : ℕ) → j < length ps → slice_get (map payload_page ps) j ≡ slice_get (map payload_page qs) j)
    → ps ≡ qs
same_payload [] [] tags pages = refl
same_payload [] (q ∷ qs) tags pages = cc
same_payload (p ∷ ps) [] tags pages = cc
same_payload (p ∷ ps) (q ∷ qs) tags pages =
    let tag : payload_tag p ≡ payload_tag q = cc in
    let more : map payload_tag ps ≡ map payload_tag qs = cc in
    let page : payload_page p ≡ payload_page q =
    same_Some (payload_page p) (payload_page q) (pages 0 (omega arith)) in
    let rest : ps ≡ qs = same_payload ps qs more (λ j low. pages (suc j) (omega (arith, low))) in
    λ i. (tag i, page i) ∷ rest i

-- a log is told by what the device has of it
one_log : (b : ℕ) (log other : WholeLog) (device : Partial (List ℕ)) → IsOnDevice b log device
    → IsOnDevice b other device → log ≡ other
one_log b log other device one two =
    let bytes : summary_bytes (contents_of log) ≡ summary_bytes (contents_of other) =
    same_Some (summary_bytes (contents_of log)) (summary_bytes (contents_of other))
    (sym one.summary ∙ two.summary) in
    let contents : contents_of log ≡ contents_of other =
    one_summary (summary_bytes (contents_of log)) (contents_of log) (contents_of other)
    (record { fits = one.fits; spelling = refl }) (record { fits = two.fits; spelling = bytes }) in
    let tags : map payload_tag log.payload ≡ map payload_tag other.payload =
    ap (λ (c : Contents). c.tags) contents in
    let count : length log.payload ≡ length other.payload =
    sym (length-map log.payload payload_tag) ∙ ap length tags ∙ length-map other.payload payload_tag in
    let payload : log.payload ≡ other.payload = same_payload log.payload other.payload tags (λ j low.
    sym (one.pages j (omega (arith, low, length-map log.payload payload_page)))
    ∙ two.pages j (omega (arith, low, count, length-map other.payload payload_page))) in
    λ i. record { stamp = (contents i).stamp; checkpoint = (contents i).checkpoint; payload = payload i }

fill-end : (b end : ℕ) (logs : List WholeLog) (device : Partial (List ℕ)) → FillDevice b end logs device
    → b ≤ end
fill-end b end [] device fill = omega (arith, fill)
fill-end b end (log ∷ logs) device fill =
    let rest = fill-end (b + 1 + length log.payload) end logs device fill.1 in omega (arith, rest)

one_list : (b end : ℕ) (logs others : List WholeLog) (device : Partial (List ℕ))
    → FillDevice b end logs device → FillDevice b end others device → logs ≡ others
one_list b end [] [] device one two = refl
one_list b end [] (other ∷ others) device one two =
    absurd
    (let rest = fill-end (b + 1 + length other.payload) end others device two.1 in omega (arith, one, rest))
one_list b end (log ∷ logs) [] device one two =
    absurd
    (let rest = fill-end (b + 1 + length log.payload) end logs device one.1 in omega (arith, two, rest))
one_list b end (log ∷ logs) (other ∷ others) device one two =
    let first : log ≡ other = one_log b log other device one.0 two.0 in
    let next : FillDevice (b + 1 + length log.payload) end others device =
    subst (λ (l : WholeLog). FillDevice (b + 1 + length l.payload) end others device) (sym first) two.1 in
    let rest : logs ≡ others = one_list (b + 1 + length log.payload) end logs others device one.1 next in
    λ i. first i ∷ rest i

pub one_list_stands : (s : Store) (segment : ℕ) (logs others : List WholeLog) → StandOnDevice s segment logs
    → StandOnDevice s segment others → logs ≡ others
one_list_stands s segment logs others one two =
    one_list (segment * s.segments.blocks)
    (segment * s.segments.blocks + (info_of s.segments.each segment).used) logs others (device_in s) one two

-- ---- so that there is one is known, and not only that there are some

on_device-prop : (b : ℕ) (log : WholeLog) (device : Partial (List ℕ)) → IsProp (IsOnDevice b log device)
on_device-prop b log device = Prim.hlevel props

fill-prop : (b end : ℕ) (logs : List WholeLog) (device : Partial (List ℕ))
    → IsProp (FillDevice b end logs device)
fill-prop b end [] device = Prim.hlevel props
fill-prop b end (log ∷ logs) device = λ x y i.
    (on_device-prop b log device x.0 y.0 i, fill-prop (b + 1 + length log.payload) end logs device x.1 y.1 i)

logs-prop : (b end : ℕ) (device : Partial (List ℕ))
    → IsProp ((logs : List WholeLog) × FillDevice b end logs device)
logs-prop b end device (logs, one) (others, two) =
    subst (λ (z : List WholeLog).
    (fill : FillDevice b end z device)
    → ◌≡◌ {A = (ls : List WholeLog) × FillDevice b end ls device} (logs, one) (z, fill))
    (one_list b end logs others device one two)
    (λ fill i. (logs, fill-prop b end logs device one fill i)) two

row-prop : (row other : List (Option Payload)) → IsProp (row ≡ other)
row-prop row other = Prim.hlevel props

-- ---- what memory has

-- payload that stands in a row, with more behind it
row-payload : (b m : ℕ) (payload : List Payload) (held : HeldPayload) → StandInRow b payload held
    → map held (blocks_from b (length payload + m))
    ≡ map Some payload ++ map held (blocks_from (b + length payload) m)
row-payload b m [] held stand =
    let size : 0 + m ≡ m = omega arith in
    let here : b ≡ b + 0 = omega arith in
    ap (λ (n : ℕ). map held (blocks_from b n)) size ∙ ap (λ (c : ℕ). map held (blocks_from c m)) here
row-payload b m (p ∷ ps) held stand =
    let size : length (p ∷ ps) + m ≡ suc (length ps + m) = omega arith in
    let first : held b ≡ Some p = ap held (sym (add-zero b)) ∙ stand 0 (omega arith) in
    let next : StandInRow (suc b) ps held = λ j low.
    (let at : suc b + j ≡ b + suc j = omega arith in ap held at ∙ stand (suc j) (omega (arith, low))) in
    let past : suc b + length ps ≡ b + length (p ∷ ps) = omega arith in
    ap (λ (n : ℕ). map held (blocks_from b n)) size
    ∙ ap (λ (xs : List (Option Payload)). held b ∷ xs) (row-payload (suc b) m ps held next)
    ∙ ap (λ (o : Option Payload). o ∷ (map Some ps ++ map held (blocks_from (suc b + length ps) m))) first
    ∙ ap (λ (c : ℕ). Some p ∷ (map Some ps ++ map held (blocks_from c m))) past

on_device : (b end : ℕ) (logs : List WholeLog) (held : HeldPayload) (stored : Partial (List ℕ))
    → FillUpTo b end logs held stored → FillDevice b end logs stored
on_device b end [] held stored fill = fill
on_device b end (log ∷ logs) held stored fill = (
  record { fits = fill.0.fits; summary = fill.0.summary; pages = fill.0.pages },
  on_device (b + 1 + length log.payload) end logs held stored fill.1,
)

-- the blocks of whole logs are held as the logs say
row-logs : (b end n : ℕ) (logs : List WholeLog) (held : HeldPayload) (stored : Partial (List ℕ)) → b + n ≡ end
    → FillUpTo b end logs held stored → map held (blocks_from b n) ≡ slots_of logs
row-logs b end n [] held stored size fill =
    let none : n ≡ 0 = omega (arith, size, fill) in ap (λ (k : ℕ). map held (blocks_from b k)) none
row-logs b end n (log ∷ logs) held stored size fill =
    let behind =
    fill-end (b + 1 + length log.payload) end logs stored
    (on_device (b + 1 + length log.payload) end logs held stored fill.1) in
    let m : ℕ = n - (1 + length log.payload) in
    let all : n ≡ suc (length log.payload + m) = omega (arith, behind, size) in
    let left : b + 1 + length log.payload + m ≡ end = omega (arith, behind, size) in
    let next : suc b ≡ b + 1 = omega arith in
    ap (λ (k : ℕ). map held (blocks_from b k)) all
    ∙ ap
    (λ (o : Option Payload). o ∷ map held (blocks_from (suc b) (length log.payload + m))) fill.0.no_payload
    ∙ ap (λ (c : ℕ). None ∷ map held (blocks_from c (length log.payload + m))) next
    ∙ ap (λ (xs : List (Option Payload)). None ∷ xs) (row-payload (b + 1) m log.payload held fill.0.payload)
    ∙ ap (λ (xs : List (Option Payload)). None ∷ (map Some log.payload ++ xs))
    (row-logs (b + 1 + length log.payload) end m logs held stored left fill.1)

pub row-of_logs : (s : Store) (segment : ℕ) → IsStore s → IsOfLogs s segment (payload_row s segment)
row-of_logs s segment is = record {
  logs = standing.0;
  stand = standing.1;
  slots = ∥∥₁_elim (is.whole_logs segment) (row-prop (payload_row s segment) (slots_of standing.0)) (λ filled.
      row-logs first end (info_of s.segments.each segment).used filled.0 (payload_in s)
      (device_in s) refl filled.1
      ∙ ap slots_of (one_list first end filled.0 standing.0 (device_in s)
      (on_device first end filled.0 (payload_in s) (device_in s) filled.1) standing.1));
}
  where
    first : ℕ
    first = segment * s.segments.blocks

    end : ℕ
    end = first + (info_of s.segments.each segment).used

    standing : (logs : List WholeLog) × FillDevice first end logs (device_in s)
    standing =
        ∥∥₁_elim (is.whole_logs segment) (logs-prop first end (device_in s))
        (λ filled. (filled.0, on_device first end filled.0 (payload_in s) (device_in s) filled.1))
