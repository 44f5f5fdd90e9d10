use Rattle.std.proofs.Common.{◌≡◌, ◌∙◌, ◌++◌, IfOk, List, ap, arith, codes, decimal, string_bytes, take, ℕ}
use Rattle.std.proofs.lemmas.Result.{IfOk-weaker}
use Rattle.nl_saving.proofs.SideNamesFit.{kept_fits}
use Rattle.nl_saving.proofs.keeping.kept_name.Goals as goal

pub written : (c : goal.After-format) → IfOk c.format.result (λ kept. string_bytes kept
    ≡ codes "." ++ (take c.floor_char_boundary.result c.args.name.now
    ++ (codes ".nlvol-kept-" ++ decimal c.args.number)))
written c =
    let ends : List ℕ = codes ".nlvol-kept-" ++ decimal c.args.number in
    let begin_is : c.range-begin.result.now ≡ take c.floor_char_boundary.result c.args.name.now =
    c.range-begin.ensures.value ∙ ap (λ (k : ℕ). take k c.args.name.now) (omega arith) in
    let same = ap (λ (begin : List ℕ). codes "." ++ (begin ++ ends)) begin_is in
    let begin = c.range-begin.result.now in
    let ok : IfOk c.format.result (λ kept. string_bytes kept ≡ codes "." ++ (begin ++ ends)) =
    c.format.ensures.ok in
    IfOk-weaker c.format.result _ _ (λ kept is. is ∙ same) ok

pub returns-clause-name : goal.returns-clause-name
returns-clause-name c =
    IfOk-weaker c.format.result _ _
    (λ kept is. record {
      cut = c.floor_char_boundary.result;
      is_cut = record {
        within = c.floor_char_boundary.ensures.bound;
        boundary = c.floor_char_boundary.ensures.boundary;
        last = c.floor_char_boundary.ensures.nearest;
      };
      kept_is = is;
    })
    (written c)

pub returns-clause-fits : goal.returns-clause-fits
returns-clause-fits c =
    IfOk-weaker c.format.result _ _
    (λ kept is. kept_fits c.args.name.now (string_bytes kept) c.floor_char_boundary.result c.args.number
    c.floor_char_boundary.ensures.bound (omega arith) is)
    (written c)
