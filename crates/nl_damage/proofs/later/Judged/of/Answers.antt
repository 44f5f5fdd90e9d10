use Rattle.std.proofs.Common.{sym}
use Rattle.std.proofs.lemmas.Result.{IfOk-weaker}
use Rattle.nl_damage.proofs.later.Judged.of.Goals as goal

pub returns-in-Some : goal.returns-in-Some
returns-in-Some c =
    let x = c.in-Some.sections in
    IfOk-weaker c.of_whole-in-Some.result _ _
    (λ judged is p meets few. record {
      sections = x;
      are = c.in-Some.ensures.sections;
      shape = sym (c.in-Some.ensures.only p (meets.0, (meets.1.0, tt)));
      judged = is;
    })
    c.of_whole-in-Some.ensures
