use Rattle.std.proofs.Common.{◌≡◌, ℕ, ◌+◌, suc, ◌<◌, ◌++◌, ◌∷◌, drop, length, List, arith, sym, ap, ◌∙◌}
use Rattle.std.proofs.Math.Seq.{drop-cons}
use Rattle.nl_dirs.specs.declared.record.Record.{Record}
use Rattle.nl_tree.specs.Records.{records_of}
use Rattle.nl_tree.proofs.Last.{put_next}
use Rattle.nl_tree.proofs.listing.Listing.from_records.Goals as goal

pub loop-next-preserved : goal.loop-next-preserved
loop-next-preserved c =
    let within : c.loop-next.next-index < length c.args.records.now = omega arith in
    let step : suc c.loop-next.next-index ≡ c.loop-next.next-index + 1 = omega arith in
    let more : drop c.loop-next.next-index c.args.records.now
    ≡ c.next-item.result ∷ drop (c.loop-next.next-index + 1) c.args.records.now =
    drop-cons c.args.records.now c.loop-next.next-index c.next-item.result within
    ∙ ap (λ (r : Record). r ∷ drop (suc c.loop-next.next-index) c.args.records.now) (sym c.next-item.is)
    ∙ ap (λ (n : ℕ). c.next-item.result ∷ drop n c.args.records.now) step in
    put_next c.args.records.now (records_of c.loop-next.listing) (records_of c.add.new.self)
    (drop (c.loop-next.next-index + 1) c.args.records.now) c.next-item.result c.requires
    (ap (λ (xs : List Record). records_of c.loop-next.listing ++ xs) (sym more) ∙ c.loop-next.invariant)
    c.in_ok-add.ensures.ok
