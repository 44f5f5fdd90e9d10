-- What ports have seen when they begin, and what is published later.
use Rattle.std.proofs.Common.{◌≡◌, ℕ, zero, suc, List, [], ◌∷◌, ◌++◌, arith, ap, sym, subst, ◌∙◌}
use Rattle.std.specs.Prelude.{All, map}
use Rattle.nl_types.specs.declared.event.Event.{Event}
use Rattle.nl_types.specs.Plain.Worlds.{Reply}
use Rattle.nl_publish.specs.Histories.{Known}
use Rattle.nl_publish.specs.Locks.{HeldPen, Ran, told_by}
use Rattle.nl_publish.specs.Locks as locks
use Rattle.nl_publish.specs.Reading.{IsLater}
use Rattle.nl_publish.specs.FactsOfLanes.Later.{later_on}
use Rattle.nl_mounts.specs.Ports.{PortView, fresh}
use Rattle.nl_mounts.specs.Sharing.{IsKnownTo}

-- ports of seats that have seen the same
seats_seen : {S : Type 0} (front : S → Known) (k : Known) (seats : List S) → All (λ s. front s ≡ k) seats
    → All (λ port. port ≡ fresh k) (map (λ s. fresh (front s)) seats)
seats_seen front k [] all i d less = absurd (omega arith)
seats_seen front k (s ∷ seats) all zero d less = ap fresh (all zero s (omega arith))
seats_seen front k (s ∷ seats) all (suc i) d less =
    seats_seen front k seats (λ j e under. all (suc j) e (omega arith)) i d (omega arith)

pub all_seen : {S : Type 0} (front : S → Known) (k : Known) (seats : List S) (none ports : List PortView)
    → none ≡ [] → ports ≡ none ++ map (λ s. fresh (front s)) seats → All (λ s. front s ≡ k) seats
    → All (λ port. port ≡ fresh k) ports
all_seen front k seats none ports empty is all =
    let here : ports ≡ map (λ s. fresh (front s)) seats =
    is ∙ ap (λ (ps : List PortView). ps ++ map (λ s. fresh (front s)) seats) empty in
    subst (All (λ port. port ≡ fresh k)) (sym here) (seats_seen front k seats all)

-- ---- what is published

pub known_later : (h : HeldPen) (port : Known) → IsKnownTo h port → IsLater port (told_by h)
known_later h port known = record { volume = sym known.volume; commits = known.published }

ran_later : (old new : HeldPen) (event : Event) (reply : Reply) → Ran old event reply new
    → IsLater (told_by old) (told_by new)
ran_later old new event reply (locks.Done backs goes lost) =
    record { volume = goes.volume; commits = goes.later }
ran_later old new event reply (locks.NotBegun stuck is) =
    record { volume = stuck.goes.0.volume; commits = stuck.goes.0.later }

-- no less is published behind an event than a port had seen
pub known_on : (old new : HeldPen) (port : Known) (event : Event) (reply : Reply) → IsKnownTo old port
    → Ran old event reply new → IsLater port (told_by new)
known_on old new port event reply known ran =
    later_on port (told_by old) (told_by new) (known_later old port known) (ran_later old new event reply ran)
