use Rattle.std.proofs.Common.{◌≡◌, ◌+◌, ◌≤◌, ◌<◌, ℕ, Result, Ok, length, arith}
use Rattle.std.proofs.lemmas.Result.{err_from_is_err_and}
use Rattle.nl_types.specs.Plain.Calls.{and_then}
use Rattle.nl_types.specs.declared.error.VolError.{VolError}
use Rattle.nl_tree.specs.Became.{holding_over}
use Rattle.nl_tree.specs.Reading.{as_file, link_at}
use Rattle.nl_tree.proofs.WritingCalls.{find, has_written, write_leads, write_nothing, write_refused, write_too_big}
use Rattle.nl_tree.proofs.current.CurrentTree.write.Goals as goal

pub returns-in_err-file-clause-done : goal.returns-in_err-file-clause-done
returns-in_err-file-clause-done g c = λ b tree holds stands.
    let given = err_from_is_err_and c.from_residual.result c.from_residual.ensures.1 in
    rw (given.1, given.2)
    (λ _.
    write_refused c.args.self.now b tree stands c.args.offset c.args.bytes.now c.args.path.now
    c.in_err-file.field-0.0
    (c.in_err-file.ensures (holding_over c.args.self.now.became b)
    (c.view.ensures b holds stands.sound)))

pub returns-then-count-eq0-clause-done : goal.returns-then-count-eq0-clause-done
returns-then-count-eq0-clause-done g c = λ b tree holds stands.
    write_nothing c.args.self.now b tree stands c.args.offset c.args.bytes.now c.args.path.now
    c.in_ok-file.file
    (c.in_ok-file.ensures (holding_over c.args.self.now.became b) (c.view.ensures b holds stands.sound))
    (omega arith)

pub returns-then-count-saturating_sub-clause-done : goal.returns-then-count-saturating_sub-clause-done
returns-then-count-saturating_sub-clause-done g c = λ b tree holds stands. λ _.
    write_too_big c.args.self.now b tree stands c.args.offset c.args.bytes.now c.args.path.now
    c.in_ok-file.file
    (c.in_ok-file.ensures (holding_over c.args.self.now.became b) (c.view.ensures b holds stands.sound))
    (omega arith) (omega arith)

pub write_file-requires-clause-file : goal.write_file-requires-clause-file
write_file-requires-clause-file g c =
    let asked = c.requires in
    let file = find c.args.self.now asked.0 asked.1 asked.3 c.args.path.now c.in_ok-file.file
    (c.in_ok-file.ensures (holding_over c.args.self.now.became asked.0)
    (c.view.ensures asked.0 asked.2 asked.3.sound)) in
    (asked.0, file.size, file.blocks, asked.2, file.is)

pub returns-clause-done : goal.returns-clause-done
returns-clause-done g c = λ b tree holds stands.
    let e : ◌≡◌ {A = Result ℕ VolError} (Ok c.in_ok-file.file)
    (and_then (link_at (holding_over c.args.self.now.became b) c.args.path.now) as_file) =
    (c.in_ok-file.ensures (holding_over c.args.self.now.became b)
    (c.view.ensures b holds stands.sound)) in
    let file = find c.args.self.now b tree stands c.args.path.now c.in_ok-file.file e in
    let more : 0 < length c.args.bytes.now = omega arith in
    let fits : c.args.offset + length c.args.bytes.now ≤ 67108864 = omega arith in
    write_leads c.args.self.now b tree stands c.write_file.new.self c.write_file.ensures.names c.args.offset
    c.args.bytes.now c.args.path.now c.in_ok-file.file file more fits
    (c.in_ok-write_file.ensures.written b file.size file.blocks holds file.is)
    (c.in_ok-write_file.ensures.counts b file.size file.blocks holds file.is stands.counts)

pub returns-clause-changes : goal.returns-clause-changes
returns-clause-changes g c = λ b tree holds stands.
    let e : ◌≡◌ {A = Result ℕ VolError} (Ok c.in_ok-file.file)
    (and_then (link_at (holding_over c.args.self.now.became b) c.args.path.now) as_file) =
    (c.in_ok-file.ensures (holding_over c.args.self.now.became b)
    (c.view.ensures b holds stands.sound)) in
    let file = find c.args.self.now b tree stands c.args.path.now c.in_ok-file.file e in
    let more : 0 < length c.args.bytes.now = omega arith in
    has_written c.args.self.now b tree stands
    (holding_over c.write_file.new.self.became b) c.args.offset c.args.bytes.now c.args.path.now
    c.in_ok-file.file file more
    (c.in_ok-write_file.ensures.written b file.size file.blocks holds file.is)
