-- What a read on a pen answers, and leaves.
use Rattle.std.proofs.Common.{◌≡◌, inl, inr, Result, Ok, Err, refl, sym, ap, subst}
use Rattle.nl_types.specs.declared.error.VolError.{VolError}
use Rattle.nl_types.specs.declared.error.VolError.TheVariants.{Fault, Memory, NoSpace}
use Rattle.nl_types.specs.declared.event.Ask.{Ask}
use Rattle.nl_types.specs.declared.event.Event.{Event}
use Rattle.nl_types.specs.declared.event.Event.TheVariants.{Read}
use Rattle.nl_types.specs.Plain.Calls.{IsReadReply, ReadTakesMemory, reply_to}
use Rattle.nl_types.specs.Plain.Runs.{unshared_refusals}
use Rattle.nl_types.specs.Plain.Worlds.{Outcome, Reply, World}
use Rattle.nl_commit.specs.Layout.{Does, FailsIn, LacksSpaceFor, Layout, MeansWorld, unshared}

-- a read is refused memory alone, and only where it takes any
memory_alone_refused : (lacks fails : Event → Type 0) (a : Ask) (e : VolError)
    → unshared_refusals lacks fails (Read a) e → ReadTakesMemory a × (e ≡ Memory)
memory_alone_refused lacks fails a NoSpace may = absurd may.0
memory_alone_refused lacks fails a Fault may = absurd may.0
memory_alone_refused lacks fails a Memory may = (may, refl)
memory_alone_refused lacks fails a _ may = absurd may

-- it answers what the tree does in each world that is meant
pub read_answers : (old new : Layout) (a : Ask) (reply : Reply) → Does unshared old (Read a) reply new
    → (w : World) → MeansWorld old w → IsReadReply a reply (reply_to w.tree a)
read_answers old new a reply does w means =
    let next = does.follows w means in
    elim next.step [
      | inl is ↦ inl (sym (ap (λ (o : Outcome). o.0) is))
      | inr refused ↦ refusal refused.error refused.reply_is refused.may_be
    ]
  where
    refusal : (e : VolError) → reply ≡ Err e
        → unshared_refusals (LacksSpaceFor old) (FailsIn old new) (Read a) e
        → IsReadReply a reply (reply_to w.tree a)
    refusal e is may =
        let alone = memory_alone_refused (LacksSpaceFor old) (FailsIn old new) a e may in
        inr (alone.0, subst (λ (f : VolError). reply ≡ Err f) alone.1 is)

-- and changes nothing
pub read_stays : (old new : Layout) (a : Ask) (reply : Reply) → Does unshared old (Read a) reply new
    → new ≡ old
read_stays old new a (Ok found) does = does.becomes
read_stays old new a (Err e) does = does.becomes
