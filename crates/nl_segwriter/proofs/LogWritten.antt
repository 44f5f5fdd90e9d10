-- One log on the device and in memory.
use Rattle.std.proofs.Common.{◌≡◌, ℕ, suc, ◌+◌, ◌*◌, ◌≤◌, ◌<◌, inl, inr, List, ◌∷◌, length, map, ap, sym, ◌∙◌, arith, subst, add-zero}
use Rattle.std.proofs.Math.Nat.{mul-le-mul_right}
use Rattle.std.proofs.lemmas.List.{length-map}
use Rattle.std.specs.Prelude.{slice_get}
use Rattle.nl_types.specs.Blocks.Segments.{AreTidy, Segments}
use Rattle.nl_types.specs.Blocks.Placing.{first_block, IsNextLog}
use Rattle.nl_types.specs.Facts.UsedParts.{outside_row}
use Rattle.nl_device.specs.Pages.{DevicePages}
use Rattle.nl_layout.specs.Summary.{summary_bytes}
use Rattle.nl_segwriter.specs.declared.staging.Staged.{Staged}
use Rattle.nl_vstore.specs.Content.{SpaceContent, HeldPayload, payload_page, SameOutside, StandInRow, HoldsOnlyUsed}
use Rattle.nl_vstore.specs.Logs.{StandsFrom, contents_of}
use Rattle.nl_segwriter.specs.Private.Staging.{IsReady, whole_of}
use Rattle.nl_segwriter.specs.Writing.{HasPut, HasTried}

pages_long : (x : Staged) → IsReady x → length x.pages ≡ x.log.count + 1
pages_long x ready =
    let l = length-map x.payload payload_page in
    let n = ready.count in
    ap length ready.pages ∙ omega (arith, l, n)

-- the log's blocks are among those of the volume
pub log_inside : (s : Segments) (x : Staged) → IsNextLog s x.log → IsReady x
    → first_block s.blocks x.log + length x.pages ≤ length s.each * s.blocks
log_inside s x next ready =
    let below : (x.log.segment + 1) * s.blocks ≤ length s.each * s.blocks =
    mul-le-mul_right s.blocks (omega (arith, next.segment)) in
    omega (arith, below, next.is_log.inside, pages_long x ready)

-- the log's blocks alone change on the device, also where a put failed
pub put_outside : (first : ℕ) (x : Staged) (old new : DevicePages) → IsReady x → HasPut first x.pages old new
    → SameOutside first (x.log.count + 1) old new
put_outside first x old new ready put =
    subst (λ (n : ℕ). SameOutside first n old new) (pages_long x ready) put.others

pub tried_outside : (first tried : ℕ) (x : Staged) (old new : DevicePages) → IsReady x
    → HasTried first tried x.pages old new → SameOutside first (x.log.count + 1) old new
tried_outside first tried x old new ready put =
    let long = pages_long x ready in
    let most = put.most in
    record { below = put.others.below; above = λ b h. put.others.above b (omega (arith, h, long, most)) }

-- and its payload's in memory
pub held_outside : (first : ℕ) (x : Staged) (old new : HeldPayload) → IsReady x
    → SameOutside (first + 1) (length x.payload) old new → SameOutside first (x.log.count + 1) old new
held_outside first x old new ready same =
    let n = ready.count in
    record {
      below = λ b h. same.below b (omega (arith, h));
      above = λ b h. same.above b (omega (arith, h, n));
    }

pub log_stands : (old : SpaceContent) (x : Staged) (held : HeldPayload) (stored : DevicePages)
    → AreTidy old.segments → IsNextLog old.segments x.log → HoldsOnlyUsed old → IsReady x
    → HasPut (first_block old.segments.blocks x.log) x.pages old.stored stored
    → StandInRow (first_block old.segments.blocks x.log + 1) x.payload held
    → SameOutside (first_block old.segments.blocks x.log + 1) (length x.payload) old.held held
    → StandsFrom (first_block old.segments.blocks x.log) (whole_of x) held stored
log_stands old x held stored tidy next only ready put row same = record {
  fits = ready.fits;
  summary = ap stored (sym (add-zero first)) ∙ at 0 (let l = pages_long x ready in omega (arith, l));
  no_payload =
      same.below first (omega arith)
      ∙ only first (λ used.
      elim (outside_row old.segments x.log first tidy next used)
      [ inl h ↦ omega (arith, h) | inr h ↦ omega (arith, h) ]);
  payload = row;
  pages = λ j h.
      let e : first + 1 + j ≡ first + suc j = omega arith in
      let l = length-map x.payload payload_page in
      let n = ready.count in
      let long = pages_long x ready in
      ap stored e ∙ at (suc j) (omega (arith, h, l, n, long));
}
  where
    first : ℕ
    first = first_block old.segments.blocks x.log

    at : (j : ℕ) → j < length x.pages
        → stored (first + j)
        ≡ slice_get (summary_bytes (contents_of (whole_of x)) ∷ map payload_page x.payload) j
    at j h = put.stand j h ∙ ap (λ (ps : List (List ℕ)). slice_get ps j) ready.pages
