use Rattle.std.proofs.Common.{◌≡◌, ap, sym, ◌∙◌}
use Rattle.std.specs.Prelude.{Ok, map}
use Rattle.nl_types.specs.declared.reply.Answer.TheVariants.{Expired}
use Rattle.nl_types.specs.Plain.Protection.{boundary, expired}
use Rattle.nl_types.specs.Plain.Worlds.{World, boundary_of, expiry_of, greatest, latest, numbers, copy_row, rows, take_out}
use Rattle.nl_model.proofs.world.World.expire.Goals as goal

pub returns : goal.returns
returns c =
    let w = c.args.self.now in
    let copies : c.self.inside.copies ≡ w.copies = ap (λ (v : World). v.copies) c.self.view_is in
    let last : c.greatest_number-latest.result ≡ latest w =
    c.greatest_number-latest.ensures ∙ ap (λ cs. greatest (numbers cs)) (c.as_slice.ensures ∙ copies) in
    let told : c.in_ok-told.told ≡ rows w =
    c.in_ok-told.ensures ∙ ap (map copy_row) (c.as_slice-2.ensures ∙ copies) in
    let judged = c.as_slice-3.ensures ∙ told in
    let below : c.boundary-boundary.result ≡ boundary_of w c.args.now c.args.period =
    c.boundary-boundary.ensures ∙ (λ i. boundary c.args.now c.args.period (last i) (judged i)) in
    let listed = c.as_slice-4.ensures ∙ told in
    let gone : c.in_ok-gone.gone ≡ expiry_of w c.args.now c.args.period =
    c.in_ok-gone.ensures ∙ (λ i. expired (below i) (last i) (listed i)) in
    let taken = c.as_slice-5.ensures ∙ gone in
    let left : c.take_out.new.self ≡ take_out (expiry_of w c.args.now c.args.period) w =
    c.in_ok-take_out.ensures.ok ∙ (λ i. take_out (taken i) w) in
    λ i. (Ok (Expired (sym gone i)), sym left i)
