use Rattle.std.proofs.Common.{◌≡◌, ◌∙◌, ◌++◌, [], ◌∷◌, List, ℕ, ap, arith, sym}
use Rattle.std.specs.Prelude.{string_bytes}
use Rattle.nl_types.specs.Plain.Characters.{slash}
use Rattle.nl_host.specs.HostPaths.{is_host_name}
use Rattle.nl_host.proofs.Paths.{names_more, path_more}
use Rattle.nl_host.proofs.host_paths.host_path.Goals as goal

pub loop-count-preserved : goal.loop-count-preserved
loop-count-preserved c =
    let path = c.args.path.now in
    let i = c.loop-count.count in
    let n = c.index-path-count.result in
    let so_far = c.loop-count.invariant in
    let before = string_bytes c.loop-count.text in
    let slashed : string_bytes c.push.new.self ≡ before ++ slash ∷ [] =
    c.in_ok-push.ensures.bytes
    ∙ ap (λ (bytes : List ℕ). before ++ bytes) (c.in_ok-push.ensures.ascii (omega arith)) in
    record {
      text =
          path_more c.args.folder.now _ _ _ path i n c.in-Some.name.now c.loop-count-test.true c.index-path-count.is
          (c.in-Some.ensures.text ∙ c.as_slice.ensures) so_far.text slashed
          c.in_ok-push_str.ensures.bytes;
      names =
          names_more path i n c.loop-count-test.true c.index-path-count.is
          (sym (ap is_host_name c.as_slice.ensures) ∙ sym c.in-Some.ensures.may) so_far.names;
    }
