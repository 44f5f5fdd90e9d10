use Rattle.std.proofs.Common.{List, Ok, ap, sym, ◌∙◌, ℕ}
use Rattle.std.proofs.lemmas.Result.{IfErr-weaker, IfOk-weaker}
use Rattle.nl_types.specs.Plain.Calls.{file_at}
use Rattle.nl_types.specs.Plain.Trees.{Tree}
use Rattle.nl_folders.proofs.Emptied.{read_in, passed-emptied, read-emptied}
use Rattle.nl_folders.proofs.passing.PassingFolder.read.Goals as goal

pub returns-then-is_known-clause-read : goal.returns-then-is_known-clause-read
returns-then-is_known-clause-read g c seen shown =
    ap (λ (tree : Tree). file_at tree c.args.path.now) shown.4
    ∙ passed-emptied (g.K.Knowledge.known c.args.self.now.knowledge.now) shown.0 c.args.path.now shown.1 shown.2
    (sym c.is_known.ensures ∙ c.if-is_known.true)
    ∙ ap (λ (bytes : List ℕ). Ok bytes) (sym c.new.ensures)

pub returns-else-is_known-clause-read : goal.returns-else-is_known-clause-read
returns-else-is_known-clause-read g c =
    IfOk-weaker c.read.result _ _ (λ bytes read seen shown.
    ap (λ (tree : Tree). file_at tree c.args.path.now) shown.4
    ∙ read-emptied (g.K.Knowledge.known c.args.self.now.knowledge.now) shown.0 c.args.path.now bytes shown.1
    (sym c.is_known.ensures ∙ c.if-is_known.false) (read shown.0 shown.3))
    c.read.ensures.read

pub returns-else-is_known-clause-refused : goal.returns-else-is_known-clause-refused
returns-else-is_known-clause-refused g c =
    IfErr-weaker c.read.result _ _ (λ e refused seen bytes shown is.
    let found =
    read_in (g.K.Knowledge.known c.args.self.now.knowledge.now) shown.0 c.args.path.now bytes shown.1
    (ap (λ (tree : Tree). file_at tree c.args.path.now) (sym shown.4) ∙ is) in
    refused shown.0 found.0 shown.3 found.1)
    c.read.ensures.refused
