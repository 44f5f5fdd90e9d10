-- What events do to a pen, they do beside each world that it means.
use Rattle.std.proofs.Common.{[], ◌∷◌, ap, sym, subst}
use Rattle.nl_commit.specs.Laws.{EventsLeadOn, RunsLeadOn}
use Rattle.nl_commit.specs.Layout.{AllowedBetween, Layout, MeansWorld}

-- one event
pub leads_on : (allowed : AllowedBetween) → EventsLeadOn allowed
leads_on allowed old new event reply w does means =
    let next = does.follows w means in
    (next.after, record { does = does; means = next.means; step = next.step })

-- a list of events
pub runs_lead_on : (allowed : AllowedBetween) → RunsLeadOn allowed
runs_lead_on allowed old new [] [] run = λ w means. record {
  after = w;
  means = subst (λ (l : Layout). MeansWorld l w) (sym run) means;
  run = ap (λ l. (l, w)) run;
}
runs_lead_on allowed old new (e ∷ es) (r ∷ rs) run = λ w means.
    let next = leads_on allowed old run.0 e r w run.1 means in
    let rest = runs_lead_on allowed run.0 new es rs run.2 next.0 next.1.means in
    record { after = rest.after; means = rest.means; run = ((run.0, next.0), next.1, rest.run) }
runs_lead_on allowed old new [] (r ∷ rs) run = absurd run
runs_lead_on allowed old new (e ∷ es) [] run = absurd run
