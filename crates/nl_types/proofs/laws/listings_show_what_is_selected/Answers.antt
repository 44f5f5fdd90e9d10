use Rattle.nl_types.proofs.Listings.{listings_show_selected, listings_are_in_order, listings_end_at_count}
use Rattle.nl_types.proofs.laws.listings_show_what_is_selected.Goals as goal

pub returns-clause-selected : goal.returns-clause-selected
returns-clause-selected c = listings_show_selected

pub returns-clause-ordered : goal.returns-clause-ordered
returns-clause-ordered c = listings_are_in_order

pub returns-clause-counted : goal.returns-clause-counted
returns-clause-counted c = listings_end_at_count
