use Rattle.std.proofs.Common.{◌≡◌, ℕ, sym, ap, ◌∙◌, subst}
use Rattle.std.specs.Prelude.{Ok}
use Rattle.nl_types.specs.declared.event.Event.TheVariants as event
use Rattle.nl_types.specs.declared.reply.Answer.{Answer}
use Rattle.nl_types.specs.declared.reply.Answer.TheVariants as answer
use Rattle.nl_commit.specs.Layout.{Does, unshared}
use Rattle.nl_lib.proofs.Replies.{checkpoint-done}
use Rattle.nl_lib.proofs.changes.make_checkpoint.Goals as goal

pub returns-clause-does : goal.returns-clause-does
returns-clause-does g c =
    let old = c.args.pen.now in
    let new = c.apply.new.pen in
    let found = c.in_ok-apply.ensures.0 in
    let does : Does unshared old (event.Checkpoint c.args.mode c.args.now) (Ok found) new = c.in_ok-apply.ensures.1 in
    let same : found ≡ answer.Checkpoint c.latest.result =
    checkpoint-done old new found c.means_a_world.ensures c.args.mode c.args.now does
    ∙ ap (λ (n : ℕ). answer.Checkpoint n) (sym c.latest.ensures.layout) in
    subst (λ (a : Answer). Does unshared old (event.Checkpoint c.args.mode c.args.now) (Ok a) new) same does
