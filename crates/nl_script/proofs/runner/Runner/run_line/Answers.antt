use Rattle.std.proofs.Common.{[], None, Ok, Option, refl, subst}
use Rattle.std.proofs.KnownBytes.{Appends-nil}
use Rattle.nl_commands.specs.LineMeanings.{MeansLine}
use Rattle.nl_commands.specs.declared.command.Command.{Command}
use Rattle.nl_script.proofs.runner.Runner.run_line.Goals as goal

-- the line asks for nothing
pub returns-in-Ok-None-clause-done : goal.returns-in-Ok-None-clause-done
returns-in-Ok-None-clause-done g c = record {
  text = [];
  does = record {
    read = Ok None;
    means =
        subst (λ (o : Option Command). MeansLine c.args.line.now (Ok o)) c.in-Ok-None.field-0-is
        c.in-Ok-None.ensures;
    does = (refl, refl);
  };
  written = Appends-nil (g.W.Write.contents c.args.out.now);
}
