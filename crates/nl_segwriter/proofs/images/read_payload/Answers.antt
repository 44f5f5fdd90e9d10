use Rattle.std.proofs.Common.{◌≡◌, ℕ, ◌+◌, ◌*◌, ◌∙◌, ap, subst, arith}
use Rattle.std.proofs.lemmas.Result.{err_from_is_err_and}
use Rattle.nl_types.specs.Blocks.Segments.{Segments, info_of}
use Rattle.nl_vstore.specs.Logs.{FillUpTo}
use Rattle.nl_segwriter.specs.Images.{IsHeld, SameAround, used_end, used_start, page_in}
use Rattle.nl_segwriter.specs.Writing.{held_in}
use Rattle.nl_segwriter.proofs.ImagePayload.{more_held}
use Rattle.nl_segwriter.proofs.images.read_payload.Goals as goal

pub returns-in_err-read_logs-clause-only : goal.returns-in_err-read_logs-clause-only
returns-in_err-read_logs-clause-only c = λ logs.
    let s : Segments = c.args.table.now in
    let p =
    err_from_is_err_and c.from_residual-in_err-read_logs.result
    c.from_residual-in_err-read_logs.ensures.1 in
    let first : c.loop-i.i * c.blocks-blocks.result ≡ used_start s c.loop-i.i =
    ap (λ (b : ℕ). c.loop-i.i * b) c.blocks-blocks.ensures.blocks in
    let used : c.used_of-used.result ≡ (info_of s.each c.loop-i.i).used =
    c.used_of-used.ensures ∙ ap (λ (k : ℕ). (info_of s.each k).used) c.new-segment.ensures in
    let there = logs c.loop-i.i (omega (arith, c.loop-i-test.true, c.sustat-segments.ensures.segments)) in
    let only = c.in_err-read_logs.ensures.only there.0 (rw (first, used) there.1) in
    rw (p.1, p.2) only

pub loop-i-preserved : goal.loop-i-preserved
loop-i-preserved c =
    let s : Segments = c.args.table.now in
    let first : c.loop-i.i * c.blocks-blocks.result ≡ used_start s c.loop-i.i =
    ap (λ (b : ℕ). c.loop-i.i * b) c.blocks-blocks.ensures.blocks in
    let used : c.used_of-used.result ≡ (info_of s.each c.loop-i.i).used =
    c.used_of-used.ensures ∙ ap (λ (k : ℕ). (info_of s.each k).used) c.new-segment.ensures in
    let end : c.loop-i.i * c.blocks-blocks.result + c.used_of-used.result ≡ used_end s c.loop-i.i =
    omega (arith, first, used) in
    let device = page_in c.args.pages.now in
    let new = held_in c.read_logs.new.payload in
    let held : IsHeld s device new c.loop-i.i = let h = c.in_ok-read_logs.ensures.held in (
      h.0,
      subst (λ (f : ℕ). FillUpTo f (used_end s c.loop-i.i) h.0 new device) first
          (subst (λ (e : ℕ). FillUpTo (c.loop-i.i * c.blocks-blocks.result) e h.0 new device) end h.1),
    ) in
    let others : SameAround (used_start s c.loop-i.i) (used_end s c.loop-i.i) (held_in c.loop-i.payload) new =
    subst (λ (f : ℕ). SameAround f (used_end s c.loop-i.i) (held_in c.loop-i.payload) new) first
    (subst (λ (e : ℕ). SameAround (c.loop-i.i * c.blocks-blocks.result) e (held_in c.loop-i.payload) new) end
    c.in_ok-read_logs.ensures.others) in
    more_held s device c.loop-i.payload c.read_logs.new.payload c.loop-i.i c.blocks-blocks.ensures.limits.tidy
    c.loop-i.invariant held others c.in_ok-read_logs.ensures.same_size
