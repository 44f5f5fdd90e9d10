-- How mounts stand, by what looks find.
use Rattle.std.proofs.Common.{◌≡◌, ap, sym, subst, ◌∙◌, Option, Some}
use Rattle.nl_commit.specs.Shown.{Shown}
use Rattle.nl_publish.specs.declared.reader_state.ReaderState.{ReaderState}
use Rattle.nl_publish.specs.Histories.{Known}
use Rattle.nl_publish.specs.Mounts.{Claim}
use Rattle.nl_mounts.specs.declared.looks.MountedTree.{MountedTree}
use Rattle.nl_mounts.specs.declared.standing.Standing.{Standing}
use Rattle.nl_mounts.specs.declared.standing.Standing.TheVariants as standing
use Rattle.nl_mounts.specs.Ports as ports
use Rattle.nl_mounts.specs.Ports.{Finds, IsUngiven, Misses, PortView}
use Rattle.nl_mounts.specs.Standings.{Lacking, NotGiven, Showing, StandsAs, standing_of}

pub stands_missed : {E : Type 0} (gives : E → Option ReaderState → Type 0) (m : Claim) (p : PortView) (new : Known)
    (s : Standing)
    → m.told.volume ≡ p.known.volume → Misses gives m p → new ≡ p.known → s ≡ standing.Ended
    → StandsAs m p.known new (IsUngiven gives p.known p.seated) s
stands_missed gives m p new s volume (ports.OfAnother other) same is = absurd (other volume)
stands_missed gives m p new s volume (ports.NotGiven own why) same is = NotGiven own why same is

stands_at : (m : Claim) (old new : Known) (Ungiven : Type 0) (x : Shown) (o : Option MountedTree)
    (s : Standing)
    → Finds m old new x o → s ≡ standing_of o → StandsAs m old new Ungiven s
stands_at m old new Ungiven x o s (ports.Lacks volume seen lacks none) is =
    Lacking volume seen.history lacks (is ∙ ap standing_of none)
stands_at m old new Ungiven x o s (ports.Shows tree seen at shows) is =
    Showing at.volume seen.history (at.mounted ∙ ap Some at.is_own) (is ∙ ap standing_of shows)

pub stands_found : (m : Claim) (old new front : Known) (Ungiven : Type 0) (x : Shown) (o p : Option MountedTree)
    (s : Standing)
    → Finds m old front x o → new ≡ front → p ≡ o → s ≡ standing_of p → StandsAs m old new Ungiven s
stands_found m old new front Ungiven x o p s finds seen same is =
    subst (λ (k : Known). StandsAs m old k Ungiven s) (sym seen)
    (stands_at m old front Ungiven x o s finds (is ∙ ap standing_of same))
