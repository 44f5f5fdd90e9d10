use Rattle.std.proofs.Common.{Bool, ℕ, ◌≤◌, ◌++◌, drop, length, Option, Ok, ap, subst, sym, arith}
use Rattle.std.specs.Prelude.{IfErr, IfSome}
use Rattle.std.proofs.lemmas.List.{length-take}
use Rattle.nl_publish.specs.Reading.{Told}
use Rattle.nl_mounts.specs.OpenFiles.{IsFileRead, IsPartRefused}
use Rattle.nl_mounts.specs.Ports.{IsNotRead, IsUngiven, PortView}
use Rattle.nl_mounts.specs.Taking.{TakenView}
use Rattle.nl_mounts.proofs.TakenFiles.{refused_on, told_taken}
use Rattle.nl_mounts.proofs.files.FileAt.read_apart.Goals as goal

pub returns-in-Ok-None-clause-refused : goal.returns-in-Ok-None-clause-refused
returns-in-Ok-None-clause-refused g c =
    let m = c.args.self.now.mount in let old = c.args.port.now in let mid = c.take.new.port in
    let new = c.read_into.new.port.known in
    refused_on m old.known mid.known new (λ k. IsUngiven g.E.Enters.gives k old.seated) c.read_into.result
    c.in-Ok-None.ensures.later
    (subst (λ (b : Bool).
    IfErr c.read_into.result (IsPartRefused m mid.known new (λ k. IsUngiven g.E.Enters.gives k b)))
    (ap (λ (p : PortView). p.seated) c.in-Ok-None.ensures.kept) c.read_into.ensures.refused)

pub returns-in-Ok-Some-clause-told : goal.returns-in-Ok-Some-clause-told
returns-in-Ok-Some-clause-told g c =
    let m = c.args.self.now.mount in let was = c.args.into.now in let part = c.copy_into.new.into in
    let path = c.args.self.now.path in let offset = c.args.offset in
    let count = c.count-count.ensures in
    let within : c.in-Ok-Some.taken.count ≤ length was =
    subst (λ (o : Option TakenView). IfSome o (λ taken. taken.count ≤ length was)) c.in-Ok-Some.field-0-is
    c.in-Ok-Some.ensures.within in
    subst (λ (n : ℕ).
    Told m (IsNotRead (Ok n) was (part ++ drop n was)) (λ t. IsFileRead t path offset was (Ok n) (part ++ drop n was)))
    (sym count)
    (told_taken m path offset was c.in-Ok-Some.field-0 c.in-Ok-Some.taken part c.in-Ok-Some.ensures.told
    (λ none. absurd (cc (none))) c.in-Ok-Some.field-0-is
    (omega (arith, count, within, c.copy_into.auto.into, length-take c.count-count.result was)) c.copy_into.ensures)
