-- What is told of all checkpoints.
use Rattle.std.proofs.Common.{◌≡◌, List, [], ◌∷◌, false, true, None, Ok, Err, refl, sym, ap, ◌∙◌, inl, inr}
use Rattle.std.specs.List.{filter}
use Rattle.nl_types.specs.declared.error.VolError.{VolError}
use Rattle.nl_types.specs.declared.error.VolError.TheVariants.{Fault, Memory, NoSpace}
use Rattle.nl_types.specs.declared.event.Event.{Event}
use Rattle.nl_types.specs.declared.event.Event.TheVariants.{Listing}
use Rattle.nl_types.specs.declared.reply.Answer.TheVariants as answer
use Rattle.nl_types.specs.declared.row.ListOptions.{ListOptions}
use Rattle.nl_types.specs.declared.row.Row.{Row}
use Rattle.nl_types.specs.Plain.Rows.{is_shown, listing}
use Rattle.nl_types.specs.Plain.Runs.{unshared_refusals}
use Rattle.nl_types.specs.Plain.Worlds.{World, Outcome, Reply, rows}
use Rattle.nl_commit.specs.Layout.{Becomes, Does, FailsIn, IsPen, LacksSpaceFor, Layout, MeansWorld, unshared}

-- all of them are asked for, the oldest first
abbrev pub all_asked : ListOptions
all_asked = record {
  reverse = false;
  snapshots_only = false;
  with_minor = true;
  from = None;
  count = None;
}

all_shown : (told : List Row) → filter (is_shown all_asked) told ≡ told
all_shown [] = refl
all_shown (row ∷ told) = ap (λ (rs : List Row). row ∷ rs) (all_shown told)

-- a listing leaves the pen
pub listing_stays : (options : ListOptions) (reply : Reply) (old new : Layout)
    → Becomes old (Listing options) reply new → new ≡ old
listing_stays options (Ok answer) old new becomes = becomes
listing_stays options (Err e) old new becomes = becomes

pub rows_are : (told : List Row) (reply : Reply) (old new : Layout) → reply ≡ Ok (answer.Rows told)
    → Does unshared old (Listing all_asked) reply new → (w : World) → MeansWorld old w → told ≡ rows w
rows_are told reply old new is does w means = elim (does.follows w means).step [
  | inl done ↦
      let both : Ok (answer.Rows (listing all_asked (rows w))) ≡ Ok (answer.Rows told) =
      ap (λ (o : Outcome). o.0) done ∙ is in
      let same : listing all_asked (rows w) ≡ told = cc in
      sym same ∙ all_shown (rows w)
  | inr refused ↦ let no : Ok (answer.Rows told) ≡ Err refused.error = sym is ∙ refused.reply_is in cc
]

by_memory : (lacks fails : Event → Type 0) (e : VolError)
    → unshared_refusals lacks fails (Listing all_asked) e → e ≡ Memory
by_memory lacks fails NoSpace may = absurd may.0
by_memory lacks fails Fault may = absurd may.0
by_memory lacks fails Memory may = refl
by_memory lacks fails _ may = absurd may

pub rows_refused : (e : VolError) (reply : Reply) (old new : Layout) → IsPen old → reply ≡ Err e
    → Does unshared old (Listing all_asked) reply new → e ≡ Memory
rows_refused e reply old new pen is does = elim (does.follows pen.world.0 pen.world.1).step [
  | inl done ↦
      let no : Ok (answer.Rows (listing all_asked (rows pen.world.0))) ≡ Err e =
      ap (λ (o : Outcome). o.0) done ∙ is in
      cc
  | inr refused ↦
      let both : Err e ≡ Err refused.error = sym is ∙ refused.reply_is in
      let same : e ≡ refused.error = cc in
      same ∙ by_memory (LacksSpaceFor old) (FailsIn old new) refused.error refused.may_be
]
