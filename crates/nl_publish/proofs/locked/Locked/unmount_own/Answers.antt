use Rattle.std.proofs.Common.{ℕ, subst, Ok, Err}
use Rattle.nl_types.specs.declared.event.Event.TheVariants as event
use Rattle.nl_types.specs.declared.reply.Answer.{Answer}
use Rattle.nl_publish.specs.Locks.{Ran}
use Rattle.nl_publish.proofs.locked.Locked.unmount_own.Goals as goal

pub returns-in-Ok-clause-given : goal.returns-in-Ok-clause-given
returns-in-Ok-clause-given g c =
    subst (λ (n : ℕ). (x : Answer) × Ran c.args.self.now (event.Unmount n) (Ok x) c.apply_unmount.new.self)
    c.number.ensures c.in-Ok.ensures

pub returns-in-Err-clause-given : goal.returns-in-Err-clause-given
returns-in-Err-clause-given g c =
    subst (λ (n : ℕ). Ran c.args.self.now (event.Unmount n) (Err c.in-Err.refusal) c.apply_unmount.new.self)
    c.number.ensures c.in-Err.ensures
