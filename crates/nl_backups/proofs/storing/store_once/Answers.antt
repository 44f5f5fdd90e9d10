use Rattle.std.proofs.Common.{inr}
use Rattle.std.proofs.lemmas.Result.{IfErr-weaker}
use Rattle.nl_backups.proofs.Outcomes.{all_three}
use Rattle.nl_backups.proofs.storing.store_once.Goals as goal

pub returns-clause-stored : goal.returns-clause-stored
returns-clause-stored c =
    all_three c.store.result (λ done earlier made stored image opened. record {
      stores = stored image opened;
      earlier = earlier image opened;
      made = made;
    }) c.store.ensures.earlier c.store.ensures.made c.store.ensures.stored

pub returns-clause-refused : goal.returns-clause-refused
returns-clause-refused c =
    IfErr-weaker c.store.result _ _ (λ e refuses image opened. inr (record {
      pen = c.args.volume.volume.pen;
      opened = opened;
      refuses = refuses;
    })) c.store.ensures.refused
