use Rattle.nl_core.proofs.pen.Pen.format.Goals as goal

pub format-requires : goal.format-requires
format-requires g c = (
  c.args.geometry,
  g.D.Device.pages c.args.device,
  g.D.Device.failed c.args.device,
  c.in_ok-store.ensures.blank,
)

pub returns-clause-formatted : goal.returns-clause-formatted
returns-clause-formatted g c =
    c.in_ok-parts.ensures.formatted c.args.geometry (g.D.Device.pages c.args.device)
    (g.D.Device.failed c.args.device) c.in_ok-store.ensures.blank
