use Rattle.std.proofs.Common.{◌≡◌, ℕ, Result, Ok, arith}
use Rattle.std.proofs.lemmas.Result.{err_from_is_err_and, on_ok_weaker}
use Rattle.nl_types.specs.Plain.Calls.{and_then}
use Rattle.nl_types.specs.declared.error.VolError.{VolError}
use Rattle.nl_tree.specs.Became.{holding_over}
use Rattle.nl_tree.specs.Reading.{as_file, link_at}
use Rattle.nl_tree.proofs.WritingCalls.{find, has_truncated, truncate_calls, truncate_refused, truncate_too_big}
use Rattle.nl_tree.proofs.current.CurrentTree.truncate.Goals as goal

pub returns-in_err-file-clause-done : goal.returns-in_err-file-clause-done
returns-in_err-file-clause-done g c = λ b tree holds stands.
    let given = err_from_is_err_and c.from_residual.result c.from_residual.ensures.1 in
    rw (given.1, given.2)
    (λ _.
    truncate_refused c.args.self.now b tree stands c.args.size c.args.path.now
    c.in_err-file.field-0.0
    (c.in_err-file.ensures (holding_over c.args.self.now.became b)
    (c.view.ensures b holds stands.sound)))

pub returns-then-size-gt-FILE_LIMIT-clause-done : goal.returns-then-size-gt-FILE_LIMIT-clause-done
returns-then-size-gt-FILE_LIMIT-clause-done g c = λ b tree holds stands. λ _.
    truncate_too_big c.args.self.now b tree stands c.args.size c.args.path.now c.in_ok-file.file
    (c.in_ok-file.ensures (holding_over c.args.self.now.became b) (c.view.ensures b holds stands.sound))
    (omega arith)

pub truncate_file-requires-clause-file : goal.truncate_file-requires-clause-file
truncate_file-requires-clause-file g c =
    let asked = c.requires in
    let file = find c.args.self.now asked.0 asked.1 asked.3 c.args.path.now c.in_ok-file.file
    (c.in_ok-file.ensures (holding_over c.args.self.now.became asked.0)
    (c.view.ensures asked.0 asked.2 asked.3.sound)) in
    (asked.0, file.size, file.blocks, asked.2, file.is)

pub returns-clause-done : goal.returns-clause-done
returns-clause-done g c = λ b tree holds stands.
    let e : ◌≡◌ {A = Result ℕ VolError} (Ok c.in_ok-file.file)
    (and_then (link_at (holding_over c.args.self.now.became b) c.args.path.now) as_file) =
    (c.in_ok-file.ensures (holding_over c.args.self.now.became b)
    (c.view.ensures b holds stands.sound)) in
    let file = find c.args.self.now b tree stands c.args.path.now c.in_ok-file.file e in
    truncate_calls c.args.self.now b tree stands c.truncate_file.new.self c.truncate_file.ensures.names
    c.args.size c.args.path.now c.in_ok-file.file file
    (omega arith)
    c.truncate_file.result (c.truncate_file.ensures.resized b file.size file.blocks holds file.is)
    (c.truncate_file.ensures.counts b file.size file.blocks holds file.is stands.counts)
    c.truncate_file.ensures.refused

pub returns-clause-changes : goal.returns-clause-changes
returns-clause-changes g c = λ b tree holds stands.
    let e : ◌≡◌ {A = Result ℕ VolError} (Ok c.in_ok-file.file)
    (and_then (link_at (holding_over c.args.self.now.became b) c.args.path.now) as_file) =
    (c.in_ok-file.ensures (holding_over c.args.self.now.became b)
    (c.view.ensures b holds stands.sound)) in
    let file = find c.args.self.now b tree stands c.args.path.now c.in_ok-file.file e in
    on_ok_weaker c.truncate_file.result
    (has_truncated c.args.self.now b tree stands
    (holding_over c.truncate_file.new.self.became b) c.args.size c.args.path.now c.in_ok-file.file file)
    (c.truncate_file.ensures.resized b file.size file.blocks holds file.is)
