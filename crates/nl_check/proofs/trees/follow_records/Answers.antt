use Rattle.std.proofs.Common.{◌∙◌, List, length, ap, arith}
use Rattle.std.specs.List.{slice_get}
use Rattle.nl_dirs.specs.declared.record.Record.{Record}
use Rattle.nl_check.proofs.NamesFollowed.{naming-next, naming-refused, naming-step, next-turn, queue-grows, queue-length, taken-fewer}
use Rattle.nl_check.proofs.RecordNames.{record-here}
use Rattle.nl_check.proofs.trees.follow_records.Goals as goal

pub returns-then-not-branch-clause-no : goal.returns-then-not-branch-clause-no
returns-then-not-branch-clause-no c = λ _ held done d limits turn is n tree.
    naming-refused held limits c.loop-record.queue.items done c.loop-record.record-index d
    c.record-item.result c.loop-record.awaited
    (c.loop-record.invariant.naming held done d limits turn is n) (c.loop-record.invariant.turn done d turn)
    (ap (λ (rs : List Record). slice_get rs c.loop-record.record-index) is
    ∙ record-here c.args.records.now c.loop-record.record-index c.record-item.result c.loop-record-test.true
    c.record-item.is)
    (c.in_ok-follow_record.ensures.no c.if-not-branch.true) tree

pub loop-record-preserved : goal.loop-record-preserved
loop-record-preserved c =
    let followed = c.in_ok-follow_record.ensures.yes c.if-not-branch.false in
    let taken = followed.0 in
    let queued = followed.1 in
    let record_is =
    record-here c.args.records.now c.loop-record.record-index c.record-item.result c.loop-record-test.true
    c.record-item.is in
    let r = c.record-item.result in
    record {
      grows =
          let before = c.loop-record.invariant.grows in
          let now =
          queue-grows r.inode r.kind c.loop-record.queue.items c.follow_record.new.queue.items queued in
          omega (arith, before, now);
      fewer =
          let before = c.loop-record.invariant.fewer in
          let less = taken-fewer r.inode r.kind c.loop-record.awaited c.follow_record.new.awaited taken in
          let most =
          queue-length r.inode r.kind c.loop-record.queue.items c.follow_record.new.queue.items queued in
          omega (arith, before, less, most);
      turn = λ done d at.
          next-turn r.inode r.kind c.loop-record.queue.items c.follow_record.new.queue.items queued done d
          (c.loop-record.invariant.turn done d at);
      naming = λ held done d limits at is n.
          naming-step held limits c.loop-record.queue.items c.follow_record.new.queue.items done
          c.loop-record.record-index d r c.loop-record.awaited c.follow_record.new.awaited
          (c.loop-record.invariant.naming held done d limits at is n) (c.loop-record.invariant.turn done d at)
          (ap (λ (rs : List Record). slice_get rs c.loop-record.record-index) is ∙ record_is) taken queued;
    }

pub returns-clause-yes : goal.returns-clause-yes
returns-clause-yes c = λ _ held done d limits turn is n.
    naming-next held limits c.loop-record.queue.items done d c.loop-record.awaited c.loop-record.record-index
    (c.loop-record.invariant.turn done d turn)
    (let same = ap length is in omega (arith, same, c.loop-record-test.false))
    (c.loop-record.invariant.naming held done d limits turn is n)
