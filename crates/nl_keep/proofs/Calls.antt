-- What a plan's calls make, and what they cost.
use Rattle.std.proofs.Common.{◌≡◌, ℕ, ◌+◌, List, [], ◌∷◌, ◌++◌, length, Ok, Err, refl, sym, ap, ◌∙◌, subst, inl, inr, arith, length-append}
use Rattle.std.specs.Prelude.{None, Option, Some}
use Rattle.nl_types.specs.declared.event.Change.{Change}
use Rattle.nl_types.specs.declared.event.Event.TheVariants as event
use Rattle.nl_types.specs.declared.reply.Answer.{Answer}
use Rattle.nl_types.specs.Plain.Calls.{Changed, and_then, change}
use Rattle.nl_types.specs.Plain.Trees.{Tree, IsTree}
use Rattle.nl_types.specs.Plain.Worlds.{World, Copy, Outcome, Reply, greatest, numbers, step}
use Rattle.nl_types.specs.Facts.EventCases.{after_change, either_gives}
use Rattle.nl_folders.specs.Facts.CallLists.{after_both}
use Rattle.nl_folders.specs.Plans.{AreWhereTheyDiffer, GoesOn, KeepMoved, KeepMovedBy, PlanKeepsWhatMoves, Progress, Reached, StaysMoved, begun, tree_after_all}
use Rattle.nl_keep.specs.declared.making.Cost.{Cost}
use Rattle.nl_keep.specs.Made.{AreMadeBy, DoesCall, DoesCalls, bytes_of_all, told}
use Rattle.nl_keep.specs.Private.Costs.{IsMade, IsMadeSoFar, cost_of, with_more}
use Rattle.nl_keep.specs.Stored.{ChangesTreeAlone, StoresOver, TakesSnapshot}
use Rattle.nl_keep.specs.Volumes.{Follows, LeadsTo, Meaning}
use Rattle.nl_keep.proofs.Steps.{same_stored}

-- ---- one call

call_done : (w : World) (c : Change) (cleaned : Reply) (given : Answer) (new : World)
    → step cleaned w (event.Apply c) ≡ (Ok given, new) → DoesCall c w new
call_done w c cleaned given new is = subst Done is done given refl
  where
    Done : Outcome → Type 0
    Done o = (a : Answer) → o.0 ≡ Ok a → DoesCall c w o.1

    done : Done (step cleaned w (event.Apply c))
    done = either_gives Done w (change w.tree c) (λ d. (Ok d.0, after_change w c d.1))
        (λ e a no. cc)
        (λ d found a same. record {
          answer = d.0;
          done = found;
          alone = record { copies = refl; mounts = refl; given = refl };
        })

pub does_call : (c : Change) (reply : Reply) (given : Answer) (Old New : Meaning)
    → LeadsTo (Follows (event.Apply c) reply) Old New → reply ≡ Ok given → LeadsTo (DoesCall c) Old New
does_call c reply given Old New does is w means =
    let d = does w means in (
      d.0,
      d.1,
      elim d.2.1 [
        | inl s ↦
            call_done w c d.2.0 given d.0 (subst (λ (r : Reply). step d.2.0 w (event.Apply c) ≡ (r, d.0)) is s)
        | inr r ↦ let no : Ok given ≡ Err r.error = sym is ∙ r.reply_is in cc
      ],
    )

-- ---- calls in order

alone_then : (a b c : World) → ChangesTreeAlone a b → ChangesTreeAlone b c → ChangesTreeAlone a c
alone_then a b c one other = record {
  copies = other.copies ∙ one.copies;
  mounts = other.mounts ∙ one.mounts;
  given = other.given ∙ one.given;
}

-- What is left of calls makes of the world what all of them make of the one before: so calls are done one
-- after another.
pub record GoOn (all left : List Change) (old new : World) : Type 0 where
  pub same : tree_after_all old.tree all ≡ tree_after_all new.tree left
  pub alone : ChangesTreeAlone old new

pub go_on_first : (all : List Change) (Old : Meaning) → LeadsTo (GoOn all all) Old Old
go_on_first all Old w means =
    (w, means, record { same = refl; alone = record { copies = refl; mounts = refl; given = refl } })

pub go_on_next : (all left : List Change) (call : Change) (Old Mid New : Meaning)
    → LeadsTo (GoOn all (call ∷ left)) Old Mid → LeadsTo (DoesCall call) Mid New
    → LeadsTo (GoOn all left) Old New
go_on_next all left call Old Mid New so_far one w means =
    let a = so_far w means in
    let b = one a.0 a.1 in (
      b.0,
      b.1,
      record {
        same =
            a.2.same
            ∙ ap (λ (changed : Changed). and_then changed (λ done. tree_after_all done.1 left)) b.2.done;
        alone = alone_then w a.0 b.0 a.2.alone b.2.alone;
      },
    )

pub go_on_all : (all : List Change) (Old New : Meaning) → LeadsTo (GoOn all []) Old New
    → LeadsTo (DoesCalls all) Old New
go_on_all all Old New done w means =
    let a = done w means in
    (a.0, a.1, record { done = a.2.same; alone = a.2.alone })

does_both : (calls more : List Change) (Old Mid New : Meaning) → LeadsTo (DoesCalls calls) Old Mid
    → LeadsTo (DoesCalls more) Mid New → LeadsTo (DoesCalls (calls ++ more)) Old New
does_both calls more Old Mid New one other w means =
    let a = one w means in
    let b = other a.0 a.1 in (
      b.0,
      b.1,
      record {
        done = after_both w.tree a.0.tree b.0.tree calls more a.2.done b.2.done;
        alone = alone_then w a.0 b.0 a.2.alone b.2.alone;
      },
    )

-- ---- what calls cost

bytes_of_both : (calls more : List Change)
    → bytes_of_all (calls ++ more) ≡ bytes_of_all calls + bytes_of_all more
bytes_of_both [] more = omega arith
bytes_of_both (call ∷ calls) more = let rest = bytes_of_both calls more in omega arith

told_both : (a b : ℕ) → told (told a + b) ≡ told (a + b)
told_both a b = omega arith

with_more-cost : (calls more : List Change) → with_more (cost_of calls) more ≡ cost_of (calls ++ more)
with_more-cost calls more =
    let count : told (told (length calls) + length more) ≡ told (length (calls ++ more)) =
    told_both (length calls) (length more) ∙ ap told (sym (length-append calls more)) in
    let bytes : told (told (bytes_of_all calls) + bytes_of_all more) ≡ told (bytes_of_all (calls ++ more)) =
    told_both (bytes_of_all calls) (bytes_of_all more) ∙ ap told (sym (bytes_of_both calls more)) in
    λ i. record { calls = count i; bytes = bytes i }

-- ---- a plan

differ_both : (one other : Tree) (calls more : List Change) → AreWhereTheyDiffer one other calls
    → AreWhereTheyDiffer one other more → AreWhereTheyDiffer one other (calls ++ more)
differ_both one other [] more first second = second
differ_both one other (call ∷ calls) more first second =
    (first.0, differ_both one other calls more first.1 second)

keep_both : (moved wanted : Tree) (calls more : List Change) → KeepMoved moved wanted calls
    → KeepMoved moved wanted more → KeepMoved moved wanted (calls ++ more)
keep_both moved wanted [] more first second = second
keep_both moved wanted (call ∷ calls) more first second =
    (first.0, keep_both moved wanted calls more first.1 second)

-- what has moved is kept by more calls too
keep_on : (old new : Option Tree) (wanted : Tree) (calls more : List Change) → StaysMoved old new
    → KeepMovedBy old wanted calls → KeepMovedBy new wanted more → KeepMovedBy new wanted (calls ++ more)
keep_on None None wanted calls more stays first second = ap (λ (cs : List Change). cs ++ more) first ∙ second
keep_on None (Some moved) wanted calls more stays first second =
    (second.0, subst (λ (cs : List Change). KeepMoved moved wanted (cs ++ more)) (sym first) second.1)
keep_on (Some moved) None wanted calls more stays first second = cc
keep_on (Some moved) (Some same) wanted calls more stays first second =
    let is : same ≡ moved = cc in (
      second.0,
      keep_both same wanted calls more
          (subst (λ (t : Tree). KeepMoved t wanted calls) (sym is) first.1) second.1,
    )

keep_all : (moved : Option Tree) (wanted : Tree) (calls : List Change) → IsTree wanted
    → KeepMovedBy moved wanted calls → PlanKeepsWhatMoves wanted calls
keep_all None wanted calls is_tree none = (wanted, is_tree, subst (KeepMoved wanted wanted) (sym none) tt)
keep_all (Some moved) wanted calls is_tree keep = (moved, keep.0, keep.1)

pub made_none : (present wanted : Tree) (plan : Progress) (Old : Meaning) → plan ≡ begun present wanted
    → Reached plan present → IsMadeSoFar present wanted plan (record { calls = 0; bytes = 0 }) Old Old
made_none present wanted plan Old is reached = record {
  from_present = ap (λ (p : Progress). p.present) is;
  to_wanted = ap (λ (p : Progress). p.wanted) is;
  calls = [];
  tree = present;
  make = refl;
  reached = reached;
  differ = tt;
  keep = subst (λ (p : Progress). KeepMovedBy p.moved wanted []) (sym is) refl;
  costs = λ i. (let zero : Cost = record { calls = none i; bytes = none i } in zero);
  leads = λ w means.
      (w, means, record { done = refl; alone = record { copies = refl; mounts = refl; given = refl } });
}
  where
    none : 0 ≡ told 0
    none = omega arith

pub made_more : (present wanted : Tree) (plan next : Progress) (cost dearer : Cost) (counted more : List Change)
    (Old Mid New : Meaning) → IsMadeSoFar present wanted plan cost Old Mid → GoesOn plan next (Some more)
    → (next.present ≡ plan.present) × (next.wanted ≡ plan.wanted) → LeadsTo (DoesCalls more) Mid New
    → counted ≡ more → dearer ≡ with_more cost counted → IsMadeSoFar present wanted next dearer Old New
made_more present wanted plan next cost dearer counted more Old Mid New so_far goes_on same leads those costs =
    let led = goes_on so_far.tree so_far.reached in record {
      from_present = same.0 ∙ so_far.from_present;
      to_wanted = same.1 ∙ so_far.to_wanted;
      calls = so_far.calls ++ more;
      tree = led.next;
      make = after_both present so_far.tree led.next so_far.calls more so_far.make led.done;
      reached = led.reached;
      differ =
          differ_both present wanted so_far.calls more so_far.differ
          (subst (λ (t : Tree). AreWhereTheyDiffer t wanted more) so_far.from_present
          (subst (λ (t : Tree). AreWhereTheyDiffer plan.present t more) so_far.to_wanted led.differ));
      keep =
          keep_on plan.moved next.moved wanted so_far.calls more led.stays so_far.keep
          (subst (λ (t : Tree). KeepMovedBy next.moved t more) so_far.to_wanted led.kept);
      costs =
          costs ∙ ap (with_more cost) those
          ∙ ap (λ (c : Cost). with_more c more) so_far.costs ∙ with_more-cost so_far.calls more;
      leads = does_both so_far.calls more Old Mid New so_far.leads leads;
    }

pub made_all : (present wanted : Tree) (plan next : Progress) (cost : Cost) (Old New : Meaning)
    → IsTree wanted → IsMadeSoFar present wanted plan cost Old New → GoesOn plan next None
    → IsMade present wanted cost Old New
made_all present wanted plan next cost Old New is_tree so_far goes_on = record {
  calls = so_far.calls;
  make = so_far.make ∙ ap Ok (goes_on so_far.tree so_far.reached ∙ so_far.to_wanted);
  differ = so_far.differ;
  keep = keep_all plan.moved wanted so_far.calls is_tree so_far.keep;
  costs = so_far.costs;
  leads = so_far.leads;
}

-- ---- a tree, stored

pub are_made_by : (earlier wanted : Tree) (cost : Cost) (Old New : Meaning) → IsMade earlier wanted cost Old New
    → AreMadeBy earlier wanted cost.calls cost.bytes
are_made_by earlier wanted cost Old New made = record {
  calls = made.calls;
  make = made.make;
  differ = made.differ;
  keep = made.keep;
  counted = ap (λ (c : Cost). c.calls) made.costs;
  bytes = ap (λ (c : Cost). c.bytes) made.costs;
}

-- where the current tree was made the wanted one, a snapshot of it then stores that
pub stored_over : (moment n : ℕ) (earlier wanted : Tree) (cost : Cost) (Old Mid New : Meaning)
    → IsMade earlier wanted cost Old Mid → LeadsTo (TakesSnapshot moment n) Mid New
    → LeadsTo (StoresOver moment n earlier wanted) Old New
stored_over moment n earlier wanted cost Old Mid New made takes w means =
    let a = made.leads w means in
    let b = takes a.0 a.1 in (
      b.0,
      b.1,
      λ before.
          let both : Ok a.0.tree ≡ Ok wanted =
          sym a.2.done ∙ ap (λ (t : Tree). tree_after_all t made.calls) before ∙ made.make in
          let tree : a.0.tree ≡ wanted = cc in
          record {
            number = b.2.number ∙ ap (λ (cs : List (ℕ × Copy)). greatest (numbers cs) + 1) a.2.alone.copies;
            world = b.2.world ∙ same_stored moment a.0.tree wanted w a.0 tree a.2.alone;
          },
    )
