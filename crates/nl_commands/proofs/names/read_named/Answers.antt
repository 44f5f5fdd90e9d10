use Rattle.std.proofs.Common.{◌≡◌, ◌∙◌, ap, option_map, rules, sym, Some}
use Rattle.nl_commands.specs.CommandNames.{entry_of}
use Rattle.nl_commands.proofs.Readings.{named_readable}
use Rattle.nl_commands.proofs.names.read_named.Goals as goal

pub read_by_form-requires : goal.read_by_form-requires
read_by_form-requires c =
    let form = c.in_ok-form.form in
    let found : c.form_for.result ≡ Some form = search rules in
    named_readable c.args.word.now (entry_of form.now)
    (sym c.form_for.ensures ∙ ap (option_map (λ form. entry_of form.now)) found)
