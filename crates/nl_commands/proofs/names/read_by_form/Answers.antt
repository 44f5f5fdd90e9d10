use Rattle.std.proofs.Common.{◌≡◌, rules, Err}
use Rattle.nl_commands.specs.CommandNames.{command_given}
use Rattle.nl_commands.proofs.Readings.{meant-read, refused-read}
use Rattle.nl_commands.proofs.names.read_by_form.Goals as goal

pub returns-in_err-given : goal.returns-in_err-given
returns-in_err-given c =
    let is : c.from_residual.result ≡ Err c.in_err-given.field-0.0 = search rules in
    refused-read _ (command_given c.args.form.now.name) c.in_err-given.field-0.0 c.from_residual.result is
    (c.in_err-given.ensures c.requires)

pub returns : goal.returns
returns c =
    meant-read _ (command_given c.args.form.now.name) c.in_ok-given.given c.command_given.result
    (c.in_ok-given.ensures c.requires) c.command_given.ensures
