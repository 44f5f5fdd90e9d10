use Rattle.std.proofs.Common.{◌≡◌, ◌+◌, ◌≤◌, List, sym, ◌∙◌, subst, length, refl}
use Rattle.std.specs.List.{AllByRecursion}
use Rattle.nl_types.specs.declared.geometry.Geometry.{Geometry}
use Rattle.nl_types.specs.declared.segment.Log.{Log}
use Rattle.nl_types.specs.Blocks.Segments.{Segments, total_blocks}
use Rattle.nl_types.specs.Blocks.Placing.{AreNextLogs, first_block, addresses}
use Rattle.nl_types.specs.Facts.NextLogs.{placed}
use Rattle.nl_vstore.specs.Content.{SpaceContent}
use Rattle.nl_segwriter.specs.Private.Staging.{AreStaged, AreSized}
use Rattle.nl_segwriter.specs.Writing.{space_content}
use Rattle.nl_segwriter.proofs.AppendedLogs.{sized, next_staged, staged_ready, staged_stamps, is_appended, is_broken_off}
use Rattle.nl_vstore.specs.FactsOfSpace.LogNumbers.{logs_inside}
use Rattle.nl_segwriter.proofs.log_space.LogSpaceSpace.append.Goals as goal

pub numbers_of-requires : goal.numbers_of-requires
numbers_of-requires g c =
    let s : Segments = c.args.self.now.table in
    let logs : List Log = c.in_ok-planned.planned.items in
    let next : AreNextLogs s c.args.now logs =
    (placed s c.args.reserve
    (length c.args.items.now) c.args.now logs c.args.self.now.limits.tidy
    c.in_ok-planned.ensures.fits).next in
    let shape : Geometry = g.D.Device.shape c.args.self.now.device in
    let most : total_blocks s ≤ 262144 =
    rw (c.args.self.now.segment_count, c.args.self.now.segment_size) shape.most in
    let inside : AllByRecursion (λ log. first_block s.blocks log + 1 + log.count ≤ 262144) logs =
    logs_inside logs s c.args.now 262144 next most in
    rw (c.as_slice-logs.ensures.value, c.blocks-2.ensures.blocks) inside

pub stage-requires-clause-sized : goal.stage-requires-clause-sized
stage-requires-clause-sized g c =
    subst AreSized (sym c.as_slice-logs.ensures.value)
    (sized c.args.self.now.table.blocks c.in_ok-planned.planned.items c.in_ok-planned.ensures.fits.each)

pub write_logs-requires-clause-next : goal.write_logs-requires-clause-next
write_logs-requires-clause-next g c =
    let s : Segments = c.args.self.now.table in
    let staged : AreStaged c.args.now c.args.checkpoint c.in_ok-planned.planned.items c.args.items.now
    c.in_ok-all.all.items =
    subst
    (λ (l : List Log). AreStaged c.args.now c.args.checkpoint l c.args.items.now c.in_ok-all.all.items)
    c.as_slice-logs.ensures.value c.in_ok-all.ensures in
    next_staged s c.args.reserve c.args.now c.args.checkpoint c.args.items.now c.in_ok-planned.planned.items
    c.in_ok-all.all.items
    (record { tidy = c.args.self.now.limits.tidy; fits = c.in_ok-planned.ensures.fits; staged = staged })

pub write_logs-requires-clause-ready : goal.write_logs-requires-clause-ready
write_logs-requires-clause-ready g c =
    staged_ready c.args.now c.args.checkpoint c.as_slice-logs.result.now c.args.items.now
    c.in_ok-all.all.items c.in_ok-all.ensures

pub write_logs-requires-clause-stamps : goal.write_logs-requires-clause-stamps
write_logs-requires-clause-stamps g c =
    staged_stamps c.args.now c.args.checkpoint c.as_slice-logs.result.now c.args.items.now
    c.in_ok-all.all.items c.in_ok-all.ensures

pub returns-in-Ok-clause-appended : goal.returns-in-Ok-clause-appended
returns-in-Ok-clause-appended g c =
    let s : Segments = c.args.self.now.table in
    let logs : List Log = c.in_ok-planned.planned.items in
    let old : SpaceContent =
    space_content s c.args.self.now.payload (g.D.Device.pages c.args.self.now.device) in
    let new : SpaceContent =
    space_content c.write_logs.new.self.table c.write_logs.new.self.payload
    (g.D.Device.pages c.write_logs.new.self.device) in
    let staged : AreStaged c.args.now c.args.checkpoint logs c.args.items.now c.in_ok-all.all.items =
    subst
    (λ (l : List Log). AreStaged c.args.now c.args.checkpoint l c.args.items.now c.in_ok-all.all.items)
    c.as_slice-logs.ensures.value c.in_ok-all.ensures in
    let numbers : c.in_ok-numbers.numbers.items ≡ addresses s.blocks logs =
    c.in_ok-numbers.ensures ∙ rw (c.blocks-2.ensures.blocks, c.as_slice-logs.ensures.value) refl in
    is_appended old new c.args.reserve c.args.now c.args.checkpoint c.args.items.now logs
    c.in_ok-all.all.items c.in_ok-numbers.numbers.items
    (record { tidy = c.args.self.now.limits.tidy; fits = c.in_ok-planned.ensures.fits; staged = staged })
    numbers c.in-Ok.ensures.table c.in-Ok.ensures.stand c.in-Ok.ensures.others

pub returns-clause-broken_off : goal.returns-clause-broken_off
returns-clause-broken_off g c = λ _.
    let s : Segments = c.args.self.now.table in
    let logs : List Log = c.in_ok-planned.planned.items in
    let old : SpaceContent =
    space_content s c.args.self.now.payload (g.D.Device.pages c.args.self.now.device) in
    let new : SpaceContent =
    space_content c.write_logs.new.self.table c.write_logs.new.self.payload
    (g.D.Device.pages c.write_logs.new.self.device) in
    let staged : AreStaged c.args.now c.args.checkpoint logs c.args.items.now c.in_ok-all.all.items =
    subst
    (λ (l : List Log). AreStaged c.args.now c.args.checkpoint l c.args.items.now c.in_ok-all.all.items)
    c.as_slice-logs.ensures.value c.in_ok-all.ensures in
    is_broken_off old new c.args.reserve c.args.now c.args.checkpoint c.args.items.now logs
    c.in_ok-all.all.items
    (record { tidy = c.args.self.now.limits.tidy; fits = c.in_ok-planned.ensures.fits; staged = staged })
    c.in-Err.ensures.broken

pub returns-in-Ok-clause-used_stay : goal.returns-in-Ok-clause-used_stay
returns-in-Ok-clause-used_stay g c = c.in-Ok.ensures.used_stay

pub returns-in-Ok-clause-stays : goal.returns-in-Ok-clause-stays
returns-in-Ok-clause-stays g c = c.in-Ok.ensures.stays

pub returns-in-Ok-clause-counted : goal.returns-in-Ok-clause-counted
returns-in-Ok-clause-counted g c = c.in-Ok.ensures.counted

pub returns-clause-used_stay : goal.returns-clause-used_stay
returns-clause-used_stay g c = c.in-Err.ensures.used_stay

pub returns-clause-stays : goal.returns-clause-stays
returns-clause-stays g c = c.in-Err.ensures.stays

pub returns-clause-counted : goal.returns-clause-counted
returns-clause-counted g c = c.in-Err.ensures.counted

pub returns-clause-fault : goal.returns-clause-fault
returns-clause-fault g c = λ _. c.in-Err.ensures.failed
