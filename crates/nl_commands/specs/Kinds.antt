-- What an error of the library means for a line.
use Rattle.clap.specs.declared.error.kind.ErrorKind.{ErrorKind}
use Rattle.clap.specs.declared.error.kind.ErrorKind.TheVariants.{OutOfMemory}
use Rattle.nl_commands.specs.declared.error.LineError.{LineError}
use Rattle.nl_commands.specs.declared.error.LineError.TheVariants.{Usage, Memory}

abbrev pub line_error : ErrorKind → LineError
line_error OutOfMemory = Memory
line_error _ = Usage
