use Rattle.std.proofs.Common.{◌≡◌, ◌∙◌, sym, rules}
use Rattle.nl_core.proofs.pen.Pen.is_dirty.Goals as goal

pub returns-clause-world : goal.returns-clause-world
returns-clause-world g c = λ w m.
    let told : c.is_dirty.result ≡ c.args.self.now.lists.dirty = search rules in
    told ∙ sym m.dirty
