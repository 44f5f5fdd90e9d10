use Rattle.std.proofs.Common.{◌≡◌, ◌∙◌, List, ap, arith, take, ℕ}
use Rattle.nl_host.specs.Selections.{is_side}
use Rattle.nl_host.proofs.selection.is_side_name.Goals as goal

pub returns : goal.returns
returns c =
    let begin_is : c.range-begin.result.now ≡ take c.floor_char_boundary.result c.args.name.now =
    c.range-begin.ensures.value ∙ ap (λ (k : ℕ). take k c.args.name.now) (omega arith) in
    record {
      cut = c.floor_char_boundary.result;
      is_cut = record {
        within = c.floor_char_boundary.ensures.bound;
        boundary = c.floor_char_boundary.ensures.boundary;
        last = c.floor_char_boundary.ensures.nearest;
      };
      judged = c.is_side.ensures
          ∙ ap (λ (begin : List ℕ). is_side begin c.as_bytes-2.result.now) (c.as_bytes.ensures.value ∙ begin_is)
          ∙ ap (λ (text : List ℕ). is_side (take c.floor_char_boundary.result c.args.name.now) text) c.as_bytes-2.ensures.value;
    }
