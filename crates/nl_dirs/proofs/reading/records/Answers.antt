use Rattle.std.proofs.Common.{Bool, ◌≡◌, ◌≢◌, ◌++◌, ◌∷◌, [], List, true, false, length, ap, refl, subst, sym, ◌∙◌, arith}
use Rattle.std.proofs.Math.ListN.{replicate}
use Rattle.std.proofs.lemmas.Grind.{common_steps}
use Rattle.nl_dirs.specs.declared.record.Record.{Record}
use Rattle.nl_dirs.specs.Private.Stored.{stored}
use Rattle.nl_dirs.proofs.Ascending.{IsBehind}
use Rattle.nl_dirs.proofs.PageReading.{IsReadSoFar, all_read, all_read-IsPageOf, all_read-zeros, later_is_behind, read_more, read_none}
use Rattle.nl_dirs.proofs.reading.records.Goals as goal
use Rattle.nl_dirs.proofs.reading.records.Goals.{then-is_empty-via-then-is_empty, then-is_empty-via-else-is_empty+then-not-are_zeros}

pub loop-record-init : goal.loop-record-init
loop-record-init c =
    subst (λ (list : List Record). IsReadSoFar c.args.page.now list c.bytes_of-rest.result.now)
    (sym c.new-records.ensures.items)
    (read_none c.args.page.now c.bytes_of-rest.result.now c.bytes_of-rest.ensures.small
    c.bytes_of-rest.ensures.same)

pub returns-then-not-is_behind-clause-only : goal.returns-then-not-is_behind-clause-only
returns-then-not-is_behind-clause-only c list is =
    let r : Record = stored c.in-Some.record in
    let behind : IsBehind r.name c.as_slice.result.now =
    subst (IsBehind r.name) (sym c.as_slice.ensures.value)
    (later_is_behind c.args.page.now c.loop-record.records.items c.loop-record.rest.now c.in-Some.behind.now r
    list c.loop-record.invariant c.in-Some.ensures is) in
    let yes : c.is_behind.result ≡ true = c.is_behind.ensures.1 behind in
    let no : c.is_behind.result ≡ false = c.if-not-is_behind.true in
    differ c.is_behind.result yes no
  where
    differ : (b : Bool) → b ≡ true → b ≡ false → ⊥
    differ b p q = cc

pub loop-record-preserved : goal.loop-record-preserved
loop-record-preserved c =
    let r : Record = stored c.in-Some.record in
    let items : c.push.new.self.items ≡ c.loop-record.records.items ++ r ∷ [] =
    c.in_ok-push.ensures.items
    ∙ ap (λ (own : Record). c.loop-record.records.items ++ own ∷ []) c.in_ok-to_record.ensures in
    let behind : IsBehind r.name c.loop-record.records.items =
    subst (IsBehind r.name) c.as_slice.ensures.value (c.is_behind.ensures.0 c.if-not-is_behind.false) in
    subst (λ (list : List Record). IsReadSoFar c.args.page.now list c.in-Some.behind.now) (sym items)
    (read_more c.args.page.now c.loop-record.records.items c.loop-record.rest.now c.in-Some.behind.now r
    c.loop-record.invariant c.in-Some.ensures behind)

pub returns-then-is_empty-clause-only : goal.returns-then-is_empty-clause-only
returns-then-is_empty-clause-only c list is =
    let same : c.loop-record.records.items ≡ list =
    all_read c.args.page.now c.loop-record.records.items c.loop-record.rest.now list
    c.loop-record.invariant c.in_default.ensures is in
    let zeros : c.loop-record.rest.now ≡ replicate (length c.loop-record.rest.now) 0 =
    all_read-zeros c.args.page.now c.loop-record.records.items c.loop-record.rest.now list
    c.loop-record.invariant c.in_default.ensures is in
    elim c.then-is_empty.branch [
      | then-is_empty-via-then-is_empty w ↦
          let len : length c.loop-record.records.items ≡ 0 =
          grind (arith, common_steps, c.loop-record.records.ok.0) in
          is.some (sym same ∙ no_items c.loop-record.records.items len)
      | then-is_empty-via-else-is_empty+then-not-are_zeros w ↦
          differ w.are_zeros.result (w.are_zeros.ensures.1 zeros) w.if-not-are_zeros.true
    ]
  where
    no_items : (items : List Record) → length items ≡ 0 → items ≡ []
    no_items [] e = refl
    no_items (r ∷ items) e = absurd (omega arith)

    differ : (b : Bool) → b ≡ true → b ≡ false → ⊥
    differ b p q = cc

pub returns-clause-found : goal.returns-clause-found
returns-clause-found c =
    let count : length c.args.page.now ≡ 1024 =
    ap length (sym c.bytes_of-rest.ensures.same) ∙ c.bytes_of-rest.ensures.count in
    let some : c.loop-record.records.items ≢ [] = λ e.
    (let len : length c.loop-record.records.items ≡ 0 = ap length e in
    grind (arith, common_steps, c.loop-record.records.ok.0)) in
    all_read-IsPageOf c.args.page.now c.loop-record.records.items c.loop-record.rest.now count
    c.loop-record.invariant some
    (c.are_zeros.ensures.0 c.if-not-are_zeros.false)

pub returns-clause-only : goal.returns-clause-only
returns-clause-only c list is =
    all_read c.args.page.now c.loop-record.records.items c.loop-record.rest.now list c.loop-record.invariant
    c.in_default.ensures is
