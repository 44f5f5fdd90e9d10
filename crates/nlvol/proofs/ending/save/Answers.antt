use Rattle.std.proofs.Common.{ℕ}
use Rattle.std.proofs.lemmas.Result.{IfErr-weaker}
use Rattle.nl_commit.specs.Layout.{Layout}
use Rattle.nlvol.specs.Endings.{IsSaveFault}
use Rattle.nlvol.specs.declared.ending.SaveFault.{SaveFault}
use Rattle.nlvol.proofs.ending.save.Goals as goal

pub returns-in-Ok-clause-saved : goal.returns-in-Ok-clause-saved
returns-in-Ok-clause-saved g c = λ _. (c.in-Ok.image.items, c.in-Ok.ensures.saved)

pub returns-in-Ok-clause-refused : goal.returns-in-Ok-clause-refused
returns-in-Ok-clause-refused g c =
    IfErr-weaker c.write_image.result
    (λ (fault : SaveFault). (moment : ℕ) (left : Layout) → IsSaveFault moment left fault)
    (IsSaveFault c.args.moment c.args.pen.now) (λ fault is. is c.args.moment c.args.pen.now) c.write_image.ensures
