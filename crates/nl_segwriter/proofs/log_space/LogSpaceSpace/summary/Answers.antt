use Rattle.std.proofs.Common.{◌≡◌, ◌+◌, ◌-◌, ◌*◌, ◌<◌, ◌≤◌, ◌∙◌, ℕ, List, Option, None, Some, ap, length, take, drop, arith, refl, subst}
use Rattle.std.proofs.lemmas.List.{get_or-drop, get_or-take, length-drop, length-take-le}
use Rattle.std.proofs.lemmas.Option.{slice_get-get_or}
use Rattle.nl_types.specs.Blocks.Segments.{Segments, AreTidy, info_of}
use Rattle.nl_vstore.specs.Content.{IsRowOf, Payload}
use Rattle.nl_segwriter.specs.Writing.{held_in}
use Rattle.nl_segwriter.proofs.ImagePayload.{part_inside}
use Rattle.nl_segwriter.proofs.log_space.LogSpaceSpace.summary.Goals as goal

-- the used part of a segment has places in memory
inside : (s : Segments) (k at blocks used segments size : ℕ) (table : List (Option Payload)) → AreTidy s
    → k < length s.each → at ≡ k → blocks ≡ s.blocks → used ≡ (info_of s.each k).used
    → length table ≡ segments * size → length s.each ≡ segments → s.blocks ≡ size
    → at * blocks + used ≤ length table
inside s k at blocks used segments size table tidy low is_at is_blocks is_used long count same =
    let all : length s.each * s.blocks ≡ segments * size = rw (count, same) refl in
    rw (is_at, is_blocks, is_used, long) (omega (arith, all, part_inside s k tidy low))

-- a part of a table is so long, and has what the table has
part_long : (table : List (Option Payload)) (first used : ℕ) → first + used ≤ length table
    → length (take (first + used - first) (drop first table)) ≡ used
part_long table first used low =
    length-take-le (first + used - first) (drop first table) (omega (arith, low, length-drop first table))
    ∙ omega arith

part_row : (table : List (Option Payload)) (first used : ℕ) → first + used ≤ length table
    → IsRowOf (held_in table) first (take (first + used - first) (drop first table))
part_row table first used low k within =
    let n = first + used - first in
    slice_get-get_or (take n (drop first table)) k None within
    ∙ ap Some
    (get_or-take n (drop first table) k None (omega (arith, within, part_long table first used low))
    ∙ get_or-drop first table k None)

pub slice_bounds-result-end : goal.slice_bounds-result-end
slice_bounds-result-end g c =
    let self = c.args.self.now in
    rw c.as_slice.ensures
    (inside self.table c.args.segment c.get.result c.blocks-2.result c.used_of-used.result _ _ self.payload
    self.limits.tidy c.requires c.get.ensures c.blocks-2.ensures.blocks c.used_of-used.ensures self.sized
    self.segment_count self.segment_size)

pub returns-clause-count : goal.returns-clause-count
returns-clause-count g c =
    let self = c.args.self.now in
    rw c.as_slice.ensures
    (part_long self.payload (c.get.result * c.blocks-2.result) c.used_of-used.result
    (inside self.table c.args.segment c.get.result c.blocks-2.result c.used_of-used.result _ _ self.payload
    self.limits.tidy c.requires c.get.ensures c.blocks-2.ensures.blocks c.used_of-used.ensures self.sized
    self.segment_count self.segment_size)
    ∙ c.used_of-used.ensures)

pub returns-clause-each : goal.returns-clause-each
returns-clause-each g c =
    let self = c.args.self.now in
    let first : ℕ = c.get.result * c.blocks-2.result in
    let used : ℕ = c.used_of-used.result in
    let at : first ≡ c.args.segment * self.table.blocks = rw (c.get.ensures, c.blocks-2.ensures.blocks) refl in
    rw c.as_slice.ensures
    (subst (λ (f : ℕ). IsRowOf (held_in self.payload) f (take (first + used - first) (drop first self.payload)))
    at
    (part_row self.payload first used
    (inside self.table c.args.segment c.get.result c.blocks-2.result used _ _ self.payload self.limits.tidy
    c.requires c.get.ensures c.blocks-2.ensures.blocks c.used_of-used.ensures self.sized
    self.segment_count self.segment_size)))
