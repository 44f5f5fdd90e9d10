use Rattle.std.proofs.Common.{sym, ap, ◌∙◌}
use Rattle.std.specs.Option.{option_copied, option_flatten}
use Rattle.nl_tree.proofs.ByName.{by_name}
use Rattle.nl_tree.proofs.listing.Listing.find.Goals as goal

pub returns-in-Some : goal.returns-in-Some
returns-in-Some c =
    ap option_flatten (sym (ap option_copied c.in-Some.is) ∙ c.get.ensures.value)
    ∙ by_name (λ k. k.items) c.args.name.now c.args.self.now.map.entries c.ordered.ensures

pub returns-in-None : goal.returns-in-None
returns-in-None c =
    ap option_flatten (sym (ap option_copied c.in-None.is) ∙ c.get.ensures.value)
    ∙ by_name (λ k. k.items) c.args.name.now c.args.self.now.map.entries c.ordered.ensures
