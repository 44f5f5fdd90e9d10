use Rattle.std.proofs.Common.{ap, sym, ◌∙◌}
use Rattle.std.proofs.lemmas.Result.{IfErr-weaker, IfOk-weaker}
use Rattle.nl_types.specs.Plain.Calls.{list}
use Rattle.nl_types.specs.Plain.Trees.{Tree}
use Rattle.nl_folders.proofs.Emptied.{listed_in, list-emptied}
use Rattle.nl_folders.proofs.passing.PassingFolder.list.Goals as goal

pub returns-clause-listed : goal.returns-clause-listed
returns-clause-listed g c =
    IfOk-weaker c.list.result _ _ (λ names listed seen shown.
    ap (λ (tree : Tree). list tree c.args.path.now) shown.4
    ∙ list-emptied (g.K.Knowledge.known c.args.self.now.knowledge.now) shown.0 c.args.path.now names shown.1
    (listed shown.0 shown.3))
    c.list.ensures.listed

pub returns-clause-refused : goal.returns-clause-refused
returns-clause-refused g c =
    IfErr-weaker c.list.result _ _ (λ e refused seen names shown is.
    let found =
    listed_in (g.K.Knowledge.known c.args.self.now.knowledge.now) shown.0 c.args.path.now names shown.1
    (ap (λ (tree : Tree). list tree c.args.path.now) (sym shown.4) ∙ is) in
    refused shown.0 found.0 shown.3 found.1)
    c.list.ensures.refused
