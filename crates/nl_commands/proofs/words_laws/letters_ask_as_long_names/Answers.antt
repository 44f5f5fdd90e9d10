use Rattle.nl_commands.proofs.Requests.{help_by_letter, help_by_name, version_by_letter, version_by_name}
use Rattle.nl_commands.proofs.words_laws.letters_ask_as_long_names.Goals as goal

pub returns-clause-help : goal.returns-clause-help
returns-clause-help c = (help_by_name, help_by_letter)

pub returns-clause-version : goal.returns-clause-version
returns-clause-version c = (version_by_name, version_by_letter)
