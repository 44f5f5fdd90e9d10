use Rattle.std.proofs.Common.{List, ℕ, Ok, map, subst}
use Rattle.nl_commands.specs.Meanings.{Asks}
use Rattle.nl_commands.specs.declared.asked.Asked.{Asked}
use Rattle.nl_commands.specs.declared.asked.Asked.TheVariants.{Help, Run, Version}
use Rattle.nlvol.specs.Sessions.{Prints, printing_of, streams}
use Rattle.nlvol.specs.Telling.{errors_of}
use Rattle.nlvol.proofs.sessions.session.Goals as goal

pub returns-in-Ok-Run : goal.returns-in-Ok-Run
returns-in-Ok-Run g c =
    let asks =
    subst (λ (a : Asked). Asks (map (λ w. w.now) c.args.words.now) (Ok a)) c.in-Ok-Run.field-0-is
    c.in-Ok-Run.ensures in
    record { asked = Ok (Run c.in-Ok-Run.arguments); asks = asks; comes = c.run.ensures }

pub returns-in-Ok-Help : goal.returns-in-Ok-Help
returns-in-Ok-Help g c =
    let asks =
    subst (λ (a : Asked). Asks (map (λ w. w.now) c.args.words.now) (Ok a)) c.in-Ok-Help.field-0-is
    c.in-Ok-Help.ensures in
    let input = g.I.Read.remaining c.args.input in
    let s =
    streams c.args.is_typed (printing_of input g.O.Write.contents c.args.output.now c.print_asked.new.output)
    (errors_of g.E.Write.contents c.args.errors.now c.print_asked.new.errors) in
    let prints =
    subst (λ (text : List ℕ). Prints text s c.print_asked.result) c.as_str.ensures.value
    (c.print_asked.ensures c.args.is_typed input) in
    record { asked = Ok (Help c.in-Ok-Help.text); asks = asks; comes = prints }

pub returns-in-Ok-Version : goal.returns-in-Ok-Version
returns-in-Ok-Version g c =
    let asks =
    subst (λ (a : Asked). Asks (map (λ w. w.now) c.args.words.now) (Ok a)) c.in-Ok-Version.field-0-is
    c.in-Ok-Version.ensures in
    let input = g.I.Read.remaining c.args.input in
    let s =
    streams c.args.is_typed
    (printing_of input g.O.Write.contents c.args.output.now c.print_asked-in-Ok-Version.new.output)
    (errors_of g.E.Write.contents c.args.errors.now c.print_asked-in-Ok-Version.new.errors) in
    let prints =
    subst
    (λ (text : List ℕ). Prints text s c.print_asked-in-Ok-Version.result) c.as_str-in-Ok-Version.ensures.value
    (c.print_asked-in-Ok-Version.ensures c.args.is_typed input) in
    record { asked = Ok (Version c.in-Ok-Version.text); asks = asks; comes = prints }
