use Rattle.std.proofs.Common.{◌∙◌}
use Rattle.std.proofs.lemmas.Result.{err_from_is_err_and}
use Rattle.nl_commands.specs.FileCommands.{write_of}
use Rattle.nl_commands.proofs.FileOperands.{bytes_are, by_given, memory_alone, passed_on, three, word, write-done, write-offset}
use Rattle.nl_commands.proofs.files.write.Goals as goal

pub returns-in_err-offset : goal.returns-in_err-offset
returns-in_err-offset c = λ _.
    let w = word c.in-Some-len3.field-0.now in
    passed_on c.from_residual.result _ c.in_err-offset.field-0.0
    (err_from_is_err_and c.from_residual.result c.from_residual.ensures.1)
    (write-offset (w 0) (w 1) (w 2) c.in_err-offset.field-0.0 c.in_err-offset.ensures
    ∙ by_given write_of _ _ _ c.in-Some-len3.ensures
    (three c.in-Some-len3.field-0.now c.in-Some-len3.len_at_least c.in-Some-len3.len_below))

pub returns-in_err-path : goal.returns-in_err-path
returns-in_err-path c =
    memory_alone c.from_residual-in_err-path.result _ c.in_err-path.field-0.0 _
    (err_from_is_err_and c.from_residual-in_err-path.result c.from_residual-in_err-path.ensures.1)
    c.in_err-path.ensures

pub returns-in_err-bytes : goal.returns-in_err-bytes
returns-in_err-bytes c =
    memory_alone c.from_residual-in_err-bytes.result _ c.in_err-bytes.field-0.0 _
    (err_from_is_err_and c.from_residual-in_err-bytes.result c.from_residual-in_err-bytes.ensures.1)
    c.in_err-bytes.ensures

pub returns : goal.returns
returns c = λ _.
    let w = word c.in-Some-len3.field-0.now in
    write-done (w 0) (w 1) (w 2) c.in_ok-path.path c.in_ok-bytes.bytes c.in_ok-offset.offset
    c.in_ok-offset.ensures
    (bytes_are c.in_ok-path.path (w 0) c.in_ok-path.ensures)
    (bytes_are c.in_ok-bytes.bytes (w 2) c.in_ok-bytes.ensures)
    ∙ by_given write_of _ _ _ c.in-Some-len3.ensures
    (three c.in-Some-len3.field-0.now c.in-Some-len3.len_at_least c.in-Some-len3.len_below)
