use Rattle.std.proofs.Common.{◌∙◌, inr, sym}
use Rattle.nl_script.proofs.PassedOver.{passed-end, passed-feed, passed-rest, skipped-some}
use Rattle.nl_script.proofs.reading.pass_over.Goals as goal

pub returns-then-ends_with_feed : goal.returns-then-ends_with_feed
returns-then-ends_with_feed g c = λ whole consumes stops.
    passed-feed whole (g.I.Read.remaining c.args.input.now) c.args.begun.now consumes stops
    (sym c.ends_with_feed.ensures ∙ c.if-ends_with_feed.true)

pub returns-in-Ok-eq0 : goal.returns-in-Ok-eq0
returns-in-Ok-eq0 g c = λ whole consumes stops.
    passed-end whole (g.I.Read.remaining c.args.input.now)
    (g.I.Read.remaining c.skip_until.new.self) c.args.begun.now
    c.at_end.result consumes stops (sym c.ends_with_feed.ensures ∙ c.if-ends_with_feed.false)
    c.in-Ok-eq0.ensures.rest
    (c.in-Ok-eq0.ensures.end c.in-Ok-eq0.field-0-test) c.at_end.ensures.begun c.at_end.ensures.none

pub returns-in-Ok : goal.returns-in-Ok
returns-in-Ok g c = λ whole consumes stops.
    let mid = g.I.Read.remaining c.args.input.now in
    passed-rest whole mid (g.I.Read.remaining c.skip_until.new.self) c.args.begun.now
    consumes stops (sym c.ends_with_feed.ensures ∙ c.if-ends_with_feed.false)
    c.in-Ok.ensures.rest (inr (skipped-some mid c.in-Ok.field-0 c.in-Ok.field-0-test.1 c.in-Ok.ensures.count))
