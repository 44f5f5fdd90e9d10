use Rattle.std.proofs.Common.{◌≡◌, ℕ, ◌+◌, ◌*◌, length, List, Option, refl, ap, sym, ◌∙◌, subst}
use Rattle.nl_types.specs.declared.geometry.Geometry.{Geometry}
use Rattle.nl_types.specs.declared.segment.Log.{Log}
use Rattle.nl_types.specs.Blocks.Segments.{HaveLogs, Segments, with_error}
use Rattle.nl_types.specs.Blocks.Placing.{end_of, first_block, with_log}
use Rattle.nl_types.specs.Facts.NextLogs.{length-with_log}
use Rattle.nl_segwriter.specs.declared.staging.Staged.{Staged}
use Rattle.nl_vstore.specs.Content.{SpaceContent, Payload, SameOutside, StandInRow, HoldsOnlyUsed}
use Rattle.nl_vstore.specs.Logs.{AreWholeLogs}
use Rattle.nl_segwriter.specs.Private.Staging.{whole_of}
use Rattle.nl_segwriter.specs.Writing.{HasPut, HasTried, held_in, space_content}
use Rattle.nl_segwriter.specs.Facts.WholeLogs.{whole_with_log, whole_with_error, held_with_log, held_with_error, logs_with_log, logs_with_error, length-with_error}
use Rattle.nl_segwriter.proofs.LogWritten.{log_inside, put_outside, tried_outside, held_outside, log_stands}
use Rattle.nl_segwriter.proofs.log_space.LogSpace.write_log.Goals as goal

pub invariant_of-self : goal.invariant_of-self
invariant_of-self g c =
    let s : Segments = c.args.self.now.table in
    let x : Staged = c.args.staged in
    let log : Log = x.log in
    let table : List (Option Payload) = c.hold_row.new.table in
    let stored = g.D.Device.pages c.put_row.new.device in
    let old : SpaceContent =
    space_content s c.args.self.now.payload (g.D.Device.pages c.args.self.now.device) in
    let at : c.get.result * c.blocks-2.result + log.first ≡ first_block s.blocks log =
    rw (c.get.ensures, c.blocks-2.ensures.blocks) refl in
    let put : HasPut (first_block s.blocks log) x.pages old.stored stored =
    subst (λ (n : ℕ). HasPut n x.pages old.stored stored) at c.in-Ok.ensures.put in
    let row : StandInRow (first_block s.blocks log + 1) x.payload (held_in table) =
    subst (λ (n : ℕ). StandInRow (n + 1) x.payload (held_in table)) at c.hold_row.ensures.there in
    let same : SameOutside (first_block s.blocks log + 1) (length x.payload) old.held (held_in table) =
    subst (λ (n : ℕ). SameOutside (n + 1) (length x.payload) old.held (held_in table)) at
    c.hold_row.ensures.others in
    let is : c.add_log.new.self ≡ with_log s log x.stamp =
    c.add_log.ensures.log ∙ c.take_segment.ensures.logged x.stamp (end_of log) in
    let shape : g.D.Device.shape c.args.self.now.device ≡ g.D.Device.shape c.put_row.new.device =
    sym c.in-Ok.ensures.shape in
    let stands =
    log_stands old x
    (held_in table) stored c.args.self.now.limits.tidy c.requires.next c.args.self.now.unheld
    c.requires.ready put row same in
    let held = held_outside (first_block s.blocks log) x old.held (held_in table) c.requires.ready same in
    let pages = put_outside (first_block s.blocks log) x old.stored stored c.requires.ready put in
    record {
      segment_size =
          ap (λ (t : Segments). t.blocks) is ∙ c.args.self.now.segment_size
          ∙ ap (λ (x : Geometry). x.blocks) shape;
      segment_count =
          ap (λ (t : Segments). length t.each) is ∙ length-with_log s log x.stamp
          ∙ c.args.self.now.segment_count ∙ ap (λ (x : Geometry). x.segments) shape;
      limits = c.add_log.ensures.limits;
      sized =
          c.hold_row.ensures.size ∙ c.args.self.now.sized
          ∙ ap (λ (x : Geometry). x.segments * x.blocks) shape;
      unheld =
          subst (λ (t : Segments). HoldsOnlyUsed (space_content t table stored)) (sym is)
          (held_with_log old log x.stamp
          (held_in table) stored c.requires.next c.args.self.now.unheld held);
      logged =
          subst HaveLogs (sym is)
          (logs_with_log s log x.stamp c.requires.next.segment c.args.self.now.logged);
      whole = subst (λ (t : Segments). AreWholeLogs (space_content t table stored)) (sym is)
          (whole_with_log old log x.stamp (whole_of x)
          (held_in table) stored c.args.self.now.limits.tidy c.requires.next c.args.self.now.whole
          c.requires.ready.count stands
          (record { held = held; stored = pages }));
    }

pub invariant_of-self-in-Err : goal.invariant_of-self-in-Err
invariant_of-self-in-Err g c =
    let s : Segments = c.args.self.now.table in
    let x : Staged = c.args.staged in
    let log : Log = x.log in
    let table : List (Option Payload) = c.args.self.now.payload in
    let stored = g.D.Device.pages c.put_row.new.device in
    let old : SpaceContent = space_content s table (g.D.Device.pages c.args.self.now.device) in
    let at : c.get.result * c.blocks-2.result + log.first ≡ first_block s.blocks log =
    rw (c.get.ensures, c.blocks-2.ensures.blocks) refl in
    let put : HasTried (first_block s.blocks log) c.in-Err.field-0.tried x.pages old.stored stored =
    subst (λ (n : ℕ). HasTried n c.in-Err.field-0.tried x.pages old.stored stored) at
    c.in-Err.ensures.tried in
    let is : c.mark_error.new.self ≡ with_error s log.segment =
    c.mark_error.ensures.error ∙ c.take_segment.ensures.failed in
    let shape : g.D.Device.shape c.args.self.now.device ≡ g.D.Device.shape c.put_row.new.device =
    sym c.in-Err.ensures.shape in
    let pages =
    tried_outside
    (first_block s.blocks log) c.in-Err.field-0.tried x old.stored stored c.requires.ready put in
    record {
      segment_size =
          ap (λ (t : Segments). t.blocks) is ∙ c.args.self.now.segment_size
          ∙ ap (λ (x : Geometry). x.blocks) shape;
      segment_count =
          ap (λ (t : Segments). length t.each) is ∙ length-with_error s log.segment
          ∙ c.args.self.now.segment_count ∙ ap (λ (x : Geometry). x.segments) shape;
      limits = c.mark_error.ensures.limits;
      sized = c.args.self.now.sized ∙ ap (λ (x : Geometry). x.segments * x.blocks) shape;
      unheld =
          subst (λ (t : Segments). HoldsOnlyUsed (space_content t table stored)) (sym is)
          (held_with_error old log.segment stored c.requires.next.segment c.args.self.now.unheld);
      logged =
          subst HaveLogs (sym is)
          (logs_with_error s log.segment c.requires.next.segment c.args.self.now.logged);
      whole = subst (λ (t : Segments). AreWholeLogs (space_content t table stored)) (sym is)
          (whole_with_error old log
          (held_in table) stored c.args.self.now.limits.tidy c.requires.next c.args.self.now.whole
          (record { held = record { below = λ b h. refl; above = λ b h. refl }; stored = pages }));
    }

pub returns-in-Ok-clause-stands : goal.returns-in-Ok-clause-stands
returns-in-Ok-clause-stands g c =
    let s : Segments = c.args.self.now.table in
    let x : Staged = c.args.staged in
    let log : Log = x.log in
    let table : List (Option Payload) = c.hold_row.new.table in
    let stored = g.D.Device.pages c.put_row.new.device in
    let old : SpaceContent =
    space_content s c.args.self.now.payload (g.D.Device.pages c.args.self.now.device) in
    let at : c.get.result * c.blocks-2.result + log.first ≡ first_block s.blocks log =
    rw (c.get.ensures, c.blocks-2.ensures.blocks) refl in
    let put : HasPut (first_block s.blocks log) x.pages old.stored stored =
    subst (λ (n : ℕ). HasPut n x.pages old.stored stored) at c.in-Ok.ensures.put in
    let row : StandInRow (first_block s.blocks log + 1) x.payload (held_in table) =
    subst (λ (n : ℕ). StandInRow (n + 1) x.payload (held_in table)) at c.hold_row.ensures.there in
    let same : SameOutside (first_block s.blocks log + 1) (length x.payload) old.held (held_in table) =
    subst (λ (n : ℕ). SameOutside (n + 1) (length x.payload) old.held (held_in table)) at
    c.hold_row.ensures.others in
    log_stands old x
    (held_in table) stored c.args.self.now.limits.tidy c.requires.next c.args.self.now.unheld
    c.requires.ready put row same

pub returns-in-Ok-clause-table : goal.returns-in-Ok-clause-table
returns-in-Ok-clause-table g c =
    c.add_log.ensures.log ∙ c.take_segment.ensures.logged c.args.staged.stamp (end_of c.args.staged.log)

pub returns-in-Ok-clause-counted : goal.returns-in-Ok-clause-counted
returns-in-Ok-clause-counted g c = c.in-Ok.ensures.counted

pub returns-in-Ok-clause-others : goal.returns-in-Ok-clause-others
returns-in-Ok-clause-others g c =
    let s : Segments = c.args.self.now.table in
    let x : Staged = c.args.staged in
    let log : Log = x.log in
    let table : List (Option Payload) = c.hold_row.new.table in
    let stored = g.D.Device.pages c.put_row.new.device in
    let old : SpaceContent =
    space_content s c.args.self.now.payload (g.D.Device.pages c.args.self.now.device) in
    let at : c.get.result * c.blocks-2.result + log.first ≡ first_block s.blocks log =
    rw (c.get.ensures, c.blocks-2.ensures.blocks) refl in
    let put : HasPut (first_block s.blocks log) x.pages old.stored stored =
    subst (λ (n : ℕ). HasPut n x.pages old.stored stored) at c.in-Ok.ensures.put in
    let same : SameOutside (first_block s.blocks log + 1) (length x.payload) old.held (held_in table) =
    subst (λ (n : ℕ). SameOutside (n + 1) (length x.payload) old.held (held_in table)) at
    c.hold_row.ensures.others in
    record {
      held = held_outside (first_block s.blocks log) x old.held (held_in table) c.requires.ready same;
      stored = put_outside (first_block s.blocks log) x old.stored stored c.requires.ready put;
    }

pub returns-in-Err-clause-broken : goal.returns-in-Err-clause-broken
returns-in-Err-clause-broken g c = c.mark_error.ensures.error ∙ c.take_segment.ensures.failed

pub returns-in-Err-clause-failed : goal.returns-in-Err-clause-failed
returns-in-Err-clause-failed g c = c.in-Err.ensures.failed

pub returns-in-Err-clause-counted : goal.returns-in-Err-clause-counted
returns-in-Err-clause-counted g c = c.in-Err.ensures.counted

pub returns-in-Err-clause-others : goal.returns-in-Err-clause-others
returns-in-Err-clause-others g c =
    let s : Segments = c.args.self.now.table in
    let x : Staged = c.args.staged in
    let log : Log = x.log in
    let stored = g.D.Device.pages c.put_row.new.device in
    let old : SpaceContent =
    space_content s c.args.self.now.payload (g.D.Device.pages c.args.self.now.device) in
    let at : c.get.result * c.blocks-2.result + log.first ≡ first_block s.blocks log =
    rw (c.get.ensures, c.blocks-2.ensures.blocks) refl in
    let put : HasTried (first_block s.blocks log) c.in-Err.field-0.tried x.pages old.stored stored =
    subst (λ (n : ℕ). HasTried n c.in-Err.field-0.tried x.pages old.stored stored) at
    c.in-Err.ensures.tried in
    record {
      held = record { below = λ b h. refl; above = λ b h. refl };
      stored =
          tried_outside
          (first_block s.blocks log) c.in-Err.field-0.tried x old.stored stored c.requires.ready put;
    }

pub take_segment-requires-clause-place : goal.take_segment-requires-clause-place
take_segment-requires-clause-place g c = c.requires.next.at

pub put_row-requires : goal.put_row-requires
put_row-requires g c =
    let s : Segments = c.args.self.now.table in
    let inside = log_inside s c.args.staged c.requires.next c.requires.ready in
    rw (
      c.get.ensures,
      c.blocks-2.ensures.blocks,
      sym c.args.self.now.segment_count,
      sym c.args.self.now.segment_size,
    ) inside
