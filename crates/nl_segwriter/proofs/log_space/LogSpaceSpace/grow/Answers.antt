use Rattle.std.proofs.Common.{◌≡◌, ℕ, ◌+◌, ◌-◌, ◌*◌, ◌≤◌, length, List, Option, ap, sym, subst, ◌∙◌, arith}
use Rattle.std.proofs.Math.Nat.{mul-le-mul_right}
use Rattle.std.proofs.lemmas.List.{length-append, length-replicate}
use Rattle.nl_types.specs.declared.geometry.Geometry.{Geometry}
use Rattle.nl_types.specs.Blocks.Segments.{HaveLogs, Segments, grown_to, total_blocks}
use Rattle.nl_device.specs.Pages.{DevicePages, KeepsBelow}
use Rattle.nl_vstore.specs.Content.{HoldsOnlyUsed, Payload, SpaceContent}
use Rattle.nl_vstore.specs.Logs.{AreWholeLogs}
use Rattle.nl_segwriter.specs.Writing.{held_in, space_content}
use Rattle.nl_segwriter.proofs.GrownSpace.{front, held-behind, held-grown, kept-grown, length-grown, logs-grown, whole-grown}
use Rattle.nl_segwriter.proofs.log_space.LogSpaceSpace.grow.Goals as goal

pub invariant_of-self : goal.invariant_of-self
invariant_of-self g c =
    let s = c.args.self.now in
    let pages = g.D.Device.pages s.device in
    let is : c.add_blocks.new.table ≡ s.payload = c.in_err-add_blocks.ensures.refused in
    record {
      segment_size = s.segment_size;
      segment_count = s.segment_count;
      limits = s.limits;
      sized = ap (λ (t : List (Option Payload)). length t) is ∙ s.sized;
      unheld =
          subst (λ (t : List (Option Payload)). HoldsOnlyUsed (space_content s.table t pages))
          (sym is) s.unheld;
      logged = s.logged;
      whole =
          subst (λ (t : List (Option Payload)). AreWholeLogs (space_content s.table t pages))
          (sym is) s.whole;
    }

-- what was added is taken off again
pub invariant_of-self-in-Err : goal.invariant_of-self-in-Err
invariant_of-self-in-Err g c =
    let s = c.args.self.now in
    let is : c.truncate.new.self ≡ s.payload =
    c.truncate.ensures ∙ rw (c.in_ok-add_blocks.ensures.added, c.len-count.ensures) (front s.payload _) in
    let shape : g.D.Device.shape s.device ≡ g.D.Device.shape c.grow.new.self = sym c.in-Err.ensures.stays in
    let same : g.D.Device.pages s.device ≡ g.D.Device.pages c.grow.new.self = λ i b.
    sym (c.in-Err.ensures.same b) i in
    record {
      segment_size = s.segment_size ∙ ap (λ (x : Geometry). x.blocks) shape;
      segment_count = s.segment_count ∙ ap (λ (x : Geometry). x.segments) shape;
      limits = s.limits;
      sized =
          ap (λ (t : List (Option Payload)). length t) is ∙ s.sized
          ∙ ap (λ (x : Geometry). x.segments * x.blocks) shape;
      unheld =
          subst (λ (t : List (Option Payload)).
          HoldsOnlyUsed (space_content s.table t (g.D.Device.pages s.device)))
          (sym is) s.unheld;
      logged = s.logged;
      whole = subst (λ (p : DevicePages). AreWholeLogs (space_content s.table c.truncate.new.self p)) same
          (subst (λ (t : List (Option Payload)).
          AreWholeLogs (space_content s.table t (g.D.Device.pages s.device)))
          (sym is) s.whole);
    }

pub returns-in-Err-clause-same : goal.returns-in-Err-clause-same
returns-in-Err-clause-same g c =
    let s = c.args.self.now in
    let is : c.truncate.new.self ≡ s.payload =
    c.truncate.ensures ∙ rw (c.in_ok-add_blocks.ensures.added, c.len-count.ensures) (front s.payload _) in
    let same : g.D.Device.pages c.grow.new.self ≡ g.D.Device.pages s.device = λ i b.
    c.in-Err.ensures.same b i in
    λ i. space_content s.table (is i) (same i)

-- there are as many places as blocks
sized-grown : (segments blocks n now size wanted others : ℕ) → size ≡ segments * blocks → segments ≤ n
    → blocks ≡ others → now ≡ others → n ≡ wanted
    → size + (n * now - size) ≡ wanted * others
sized-grown segments blocks n now size wanted others is more was same at =
    let most : segments * blocks ≤ n * blocks = mul-le-mul_right blocks more in
    let before : n * blocks ≡ n * others = ap (λ k. n * k) was in
    let total : n * now ≡ n * others = ap (λ k. n * k) same in
    let all : n * others ≡ wanted * others = ap (λ k. k * others) at in
    omega (arith, is, most, before, total, all)

pub invariant_of-self-in-Ok : goal.invariant_of-self-in-Ok
invariant_of-self-in-Ok g c =
    let s = c.args.self.now in
    let n : ℕ = c.args.segments in
    let law = c.growing_keeps_segments.ensures in
    let pages = g.D.Device.pages c.grow.new.self in
    let old : SpaceContent = space_content s.table s.payload (g.D.Device.pages s.device) in
    let table : c.in_ok-table.table ≡ grown_to n s.table = c.in_ok-table.ensures.grown in
    let size : c.in_ok-table.table.blocks ≡ (g.D.Device.shape c.grow.new.self).blocks =
    ap (λ (t : Segments). t.blocks) table ∙ s.segment_size ∙ sym c.in-Ok.ensures.blocks in
    let added = c.in_ok-add_blocks.ensures.added in
    let same : (b : ℕ) → held_in c.add_blocks.new.table b ≡ held_in s.payload b = λ b.
    ap (λ (t : List (Option Payload)). held_in t b) added ∙ held-behind s.payload _ b in
    let below : KeepsBelow (total_blocks s.table) (g.D.Device.pages s.device) pages = λ b low.
    c.in-Ok.ensures.pages b (rw (s.segment_count, s.segment_size) at low) in
    record {
      segment_size = size;
      segment_count =
          ap (λ (t : Segments). length t.each) table ∙ length-grown n s.table c.requires.more
          ∙ sym c.in-Ok.ensures.grown;
      limits = c.in_ok-table.ensures.limits;
      sized = rw (added, length-append, length-replicate)
          (sized-grown (g.D.Device.shape s.device).segments
          (g.D.Device.shape s.device).blocks n c.blocks-2.result (length s.payload)
          (g.D.Device.shape c.grow.new.self).segments (g.D.Device.shape c.grow.new.self).blocks s.sized
          (rw s.segment_count at c.requires.more) (sym c.in-Ok.ensures.blocks)
          (c.blocks-2.ensures.blocks ∙ size) (sym c.in-Ok.ensures.grown));
      unheld =
          subst (λ (t : Segments). HoldsOnlyUsed (space_content t c.add_blocks.new.table pages)) (sym table)
          (held-grown n old (held_in c.add_blocks.new.table) pages law.infos same below law.used s.unheld);
      logged = subst HaveLogs (sym table) (logs-grown n s.table law.infos s.logged);
      whole =
          subst (λ (t : Segments). AreWholeLogs (space_content t c.add_blocks.new.table pages)) (sym table)
          (whole-grown n old
          (held_in c.add_blocks.new.table) pages law.infos same below s.limits.tidy s.whole);
    }

pub returns-in-Ok-clause-grown : goal.returns-in-Ok-clause-grown
returns-in-Ok-clause-grown g c =
    let s = c.args.self.now in
    let n : ℕ = c.args.segments in
    let pages = g.D.Device.pages c.grow.new.self in
    let old : SpaceContent = space_content s.table s.payload (g.D.Device.pages s.device) in
    let table : c.in_ok-table.table ≡ grown_to n s.table = c.in_ok-table.ensures.grown in
    let same : (b : ℕ) → held_in c.add_blocks.new.table b ≡ held_in s.payload b =
    λ b.
    ap (λ (t : List (Option Payload)). held_in t b) c.in_ok-add_blocks.ensures.added
    ∙ held-behind s.payload _ b in
    let below : KeepsBelow (total_blocks s.table) (g.D.Device.pages s.device) pages = λ b low.
    c.in-Ok.ensures.pages b (rw (s.segment_count, s.segment_size) at low) in
    record {
      segments = table;
      held = same;
      used_stay =
          kept-grown n old
          (held_in c.add_blocks.new.table) pages c.growing_keeps_segments.ensures.infos same below
          s.limits.tidy;
    }
