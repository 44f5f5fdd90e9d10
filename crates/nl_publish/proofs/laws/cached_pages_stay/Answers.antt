use Rattle.nl_publish.specs.Facts.CachedPages.{cached_pages_stay}
use Rattle.nl_publish.proofs.laws.cached_pages_stay.Goals as goal

pub returns : goal.returns
returns c = cached_pages_stay
