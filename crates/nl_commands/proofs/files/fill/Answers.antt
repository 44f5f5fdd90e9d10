use Rattle.std.proofs.Common.{◌∙◌}
use Rattle.std.proofs.lemmas.Result.{err_from_is_err_and}
use Rattle.nl_commands.specs.FileCommands.{fill_of}
use Rattle.nl_commands.proofs.FileOperands.{bytes_are, by_given, four, memory_alone, passed_on, word, fill-byte, fill-count, fill-done, fill-offset}
use Rattle.nl_commands.proofs.files.fill.Goals as goal

pub returns-in_err-offset : goal.returns-in_err-offset
returns-in_err-offset c = λ _.
    let w = word c.in-Some-len4.field-0.now in
    passed_on c.from_residual.result _ c.in_err-offset.field-0.0
    (err_from_is_err_and c.from_residual.result c.from_residual.ensures.1)
    (fill-offset (w 0) (w 1) (w 2) (w 3) c.in_err-offset.field-0.0 c.in_err-offset.ensures
    ∙ by_given fill_of _ _ _ c.in-Some-len4.ensures
    (four c.in-Some-len4.field-0.now c.in-Some-len4.len_at_least c.in-Some-len4.len_below))

pub returns-in_err-byte : goal.returns-in_err-byte
returns-in_err-byte c = λ _.
    let w = word c.in-Some-len4.field-0.now in
    passed_on c.from_residual-in_err-byte.result _ c.in_err-byte.field-0.0
    (err_from_is_err_and c.from_residual-in_err-byte.result c.from_residual-in_err-byte.ensures.1)
    (fill-byte (w 0) (w 1) (w 2) (w 3) c.in_ok-offset.offset c.in_err-byte.field-0.0
    c.in_ok-offset.ensures c.in_err-byte.ensures
    ∙ by_given fill_of _ _ _ c.in-Some-len4.ensures
    (four c.in-Some-len4.field-0.now c.in-Some-len4.len_at_least c.in-Some-len4.len_below))

pub returns-in_err-count : goal.returns-in_err-count
returns-in_err-count c = λ _.
    let w = word c.in-Some-len4.field-0.now in
    passed_on c.from_residual-in_err-count.result _ c.in_err-count.field-0.0
    (err_from_is_err_and c.from_residual-in_err-count.result c.from_residual-in_err-count.ensures.1)
    (fill-count (w 0) (w 1) (w 2) (w 3) c.in_ok-offset.offset c.in_ok-byte.byte
    c.in_err-count.field-0.0 c.in_ok-offset.ensures c.in_ok-byte.ensures c.in_err-count.ensures
    ∙ by_given fill_of _ _ _ c.in-Some-len4.ensures
    (four c.in-Some-len4.field-0.now c.in-Some-len4.len_at_least c.in-Some-len4.len_below))

pub returns-in_err-path : goal.returns-in_err-path
returns-in_err-path c =
    memory_alone c.from_residual-in_err-path.result _ c.in_err-path.field-0.0 _
    (err_from_is_err_and c.from_residual-in_err-path.result c.from_residual-in_err-path.ensures.1)
    c.in_err-path.ensures

pub returns : goal.returns
returns c = λ _.
    let w = word c.in-Some-len4.field-0.now in
    fill-done (w 0) (w 1) (w 2) (w 3) c.in_ok-path.path c.in_ok-offset.offset c.in_ok-byte.byte
    c.in_ok-count.count c.counted.result
    c.in_ok-offset.ensures c.in_ok-byte.ensures c.in_ok-count.ensures c.counted.ensures
    (bytes_are c.in_ok-path.path (w 0) c.in_ok-path.ensures)
    ∙ by_given fill_of _ _ _ c.in-Some-len4.ensures
    (four c.in-Some-len4.field-0.now c.in-Some-len4.len_at_least c.in-Some-len4.len_below)
