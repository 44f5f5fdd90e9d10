use Rattle.std.proofs.Common.{◌≡◌, ◌+◌, ◌<◌, ◌++◌, ◌∷◌, [], ℕ, List, Some, Option, ap, get_or, length, map, subst, sym, take, ◌∙◌}
use Rattle.std.specs.Prelude.{Err}
use Rattle.std.proofs.lemmas.List.{map-append, take_more}
use Rattle.std.proofs.lemmas.Result.{err_from_is_err_and}
use Rattle.nl_types.specs.declared.error.VolError.TheVariants.{Fault}
use Rattle.nl_types.specs.Blocks.Entries.{Birth}
use Rattle.nl_device.specs.Facts.Counting.{counts-reads, fails-to-read}
use Rattle.nl_vstore.specs.Content.{Payload, SpaceContent}
use Rattle.nl_vstore.specs.Batches.{birth_of_item, births_of}
use Rattle.nl_dat.specs.Inside.{birth_under}
use Rattle.nl_dat.proofs.moving.load_all.Goals as goal

-- the payload of one number more
loaded_more : (of : ℕ → Option Birth) (numbers : List ℕ) (k v : ℕ) (before now : List Payload) (x : Payload)
    → k < length numbers → v ≡ get_or numbers k v → of v ≡ Some (birth_of_item x)
    → map of (take k numbers) ≡ map Some (births_of before) → now ≡ before ++ x ∷ []
    → map of (take (k + 1) numbers) ≡ map Some (births_of now)
loaded_more of numbers k v before now x within is one all added =
    ap (map of) (take_more numbers k v within ∙ ap (λ (w : ℕ). take k numbers ++ w ∷ []) (sym is))
    ∙ (map-append of (take k numbers) (v ∷ [])
    ∙ (ap (λ (births : List (Option Birth)). births ++ of v ∷ []) all
    ∙ (ap (λ (o : Option Birth). map Some (births_of before) ++ o ∷ []) one
    ∙ sym (ap (λ (items : List Payload). map Some (births_of items)) added
    ∙ (ap (map Some) (map-append birth_of_item before (x ∷ []))
    ∙ map-append Some (births_of before) (birth_of_item x ∷ []))))))

pub loop-number-preserved : goal.loop-number-preserved
loop-number-preserved g c =
    let inv = c.loop-number.invariant in
    let one = c.in_ok-load_one.ensures in
    let v = c.number-item.result in
    let x = c.in_ok-load_one.field-0 in
    record {
      loaded =
          loaded_more (birth_under c.args.table.now (g.S.Space.content c.args.space.now)) c.args.numbers.now
          c.loop-number.number-index v c.loop-number.payload.items c.push.new.self.items x
          c.loop-number-test.true c.number-item.is
          (subst (λ (space : SpaceContent). birth_under c.args.table.now space v ≡ Some (birth_of_item x))
          inv.same one.payload)
          inv.loaded c.in_ok-push.ensures.items;
      same = one.same ∙ inv.same;
      failures =
          counts-reads (g.S.Space.failed c.args.space.now) (g.S.Space.failed c.loop-number.space)
          (g.S.Space.failed c.load_one.new.space) inv.failures one.counted;
    }

pub returns-in_err-load_one-clause-counted : goal.returns-in_err-load_one-clause-counted
returns-in_err-load_one-clause-counted g c =
    counts-reads (g.S.Space.failed c.args.space.now) (g.S.Space.failed c.loop-number.space)
    (g.S.Space.failed c.load_one.new.space) c.loop-number.invariant.failures
    c.in_err-load_one.ensures.counted

pub returns-in_err-load_one-clause-fault : goal.returns-in_err-load_one-clause-fault
returns-in_err-load_one-clause-fault g c =
    let p =
    err_from_is_err_and c.from_residual-in_err-load_one.result c.from_residual-in_err-load_one.ensures.1 in
    rw (p.1, p.2) (λ is.
    let fault : c.in_err-load_one.field-0.0 ≡ Fault = cc in
    fails-to-read (g.S.Space.failed c.args.space.now) (g.S.Space.failed c.loop-number.space)
    (g.S.Space.failed c.load_one.new.space) c.loop-number.invariant.failures
    (c.in_err-load_one.ensures.fault (ap Err fault)))
