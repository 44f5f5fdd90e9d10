use Rattle.std.proofs.Common.{◌≡◌, ◌≤◌, ◌+◌, ◌<◌, ◌∷◌, ◌++◌, [], ℕ, suc, List, length, drop, get_or, arith, ap, sym, subst, ◌∙◌, append_assoc, append-nil, add-one, drop-cons}
use Rattle.std.proofs.lemmas.List.{drop_all}
use Rattle.std.specs.List.{AllByRecursion}
use Rattle.nl_types.specs.declared.segment.Log.{Log}
use Rattle.nl_types.specs.Blocks.Placing.{addresses, first_block, blocks_from}
use Rattle.nl_segwriter.proofs.numbers.numbers_of.Goals as goal

-- what is left begins with the log at its index
left_from : (logs : List Log) (k : ℕ) (log : Log) → k < length logs → log ≡ get_or logs k log
    → drop k logs ≡ log ∷ drop (k + 1) logs
left_from logs k log within is =
    rw add-one (drop-cons logs k log within ∙ ap (λ (x : Log). x ∷ drop (suc k) logs) (sym is))

pub push_row-requires : goal.push_row-requires
push_row-requires c =
    let blocks : ℕ = c.args.blocks in
    let inside =
    subst (λ (ls : List Log). AllByRecursion (λ log. first_block blocks log + 1 + log.count ≤ 262144) ls)
    (left_from c.args.logs.now c.loop-log.log-index c.log-item.result (omega arith) c.log-item.is)
    c.loop-log.invariant.inside in
    inside.0

pub returns : goal.returns
returns c =
    let numbers : List ℕ = c.loop-log.numbers.items in
    let none : drop c.loop-log.log-index c.args.logs.now ≡ [] =
    drop_all c.loop-log.log-index c.args.logs.now c.loop-log-test.false in
    sym (append-nil numbers)
    ∙ (ap (λ (ls : List Log). numbers ++ addresses c.args.blocks ls) (sym none)
    ∙ c.loop-log.invariant.numbers)

pub loop-log-preserved : goal.loop-log-preserved
loop-log-preserved c =
    let k = c.loop-log.log-index in
    let blocks : ℕ = c.args.blocks in
    let logs : List Log = c.args.logs.now in
    let log : Log = c.log-item.result in
    let before : List ℕ = c.loop-log.numbers.items in
    let rest : drop k logs ≡ log ∷ drop (k + 1) logs = left_from logs k log (omega arith) c.log-item.is in
    let inside =
    subst (λ (ls : List Log). AllByRecursion (λ log. first_block blocks log + 1 + log.count ≤ 262144) ls)
    rest c.loop-log.invariant.inside in
    record {
      numbers = ap (λ (ns : List ℕ). ns ++ addresses blocks (drop (k + 1) logs)) c.in_ok-push_row.ensures
          ∙ (append_assoc before (blocks_from (first_block blocks log + 1) log.count)
          (addresses blocks (drop (k + 1) logs))
          ∙ (ap (λ (ls : List Log). before ++ addresses blocks ls) (sym rest)
          ∙ c.loop-log.invariant.numbers));
      inside = inside.1;
    }
