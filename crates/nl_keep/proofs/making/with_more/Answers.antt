use Rattle.std.proofs.Common.{◌≡◌, ◌+◌, length, drop, ap, arith}
use Rattle.std.proofs.lemmas.Grind.{common_steps}
use Rattle.std.proofs.lemmas.List.{drop_all}
use Rattle.nl_keep.specs.Made.{bytes_of_all, told}
use Rattle.nl_keep.proofs.making.with_more.Goals as goal

pub returns : goal.returns
returns c =
    let calls = c.args.calls.now in
    let count : c.saturating_add.result ≡ told (c.args.cost.calls + length calls) = grind (arith, common_steps) in
    let rest : bytes_of_all (drop c.loop-call.call-index calls) ≡ 0 =
    ap bytes_of_all (drop_all c.loop-call.call-index calls (omega arith)) in
    let bytes : c.loop-call.bytes ≡ told (c.args.cost.bytes + bytes_of_all calls) =
    omega (arith, c.loop-call.invariant.same, rest) in
    λ i. record { calls = count i; bytes = bytes i }
