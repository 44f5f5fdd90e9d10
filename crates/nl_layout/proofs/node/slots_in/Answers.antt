use Rattle.std.proofs.Common.{◌≡◌, ◌^◌, ◌<◌, ℕ, List, arith, ap, sym, subst, ◌∙◌, take, slice_index}
use Rattle.std.proofs.lemmas.List.{take_all, length-set}
use Rattle.std.specs.List.{All}
use Rattle.nl_layout.specs.Node.{slots_at, slots_bytes}
use Rattle.nl_layout.proofs.Slots.{read_slot, slots_at-spelled, slots_at-fit}
use Rattle.nl_layout.proofs.node.slots_in.Goals as goal

pub loop-s-preserved : goal.loop-s-preserved
loop-s-preserved c = record {
  read =
      read_slot c.loop-s.slots c.args.bytes.now c.loop-s.s c.new.result
      (let r = c.loop-s.invariant.room in let t = c.loop-s-test.true in omega arith) c.loop-s.invariant.read
      (c.new.ensures ∙ c.read_u64.ensures);
  room = simp length-set c.loop-s.invariant.room;
}

all : (c : goal.After-loop-s) → c.loop-s.slots ≡ slots_at 128 c.args.bytes.now
all c =
    let r = c.loop-s.invariant.room in
    let done : c.loop-s.s ≡ 128 = omega arith in
    let whole : take 128 c.loop-s.slots ≡ slots_at 128 c.args.bytes.now =
    subst (λ (s : ℕ). take s c.loop-s.slots ≡ slots_at s c.args.bytes.now) done c.loop-s.invariant.read in
    sym (take_all 128 c.loop-s.slots (omega arith)) ∙ whole

small : (c : goal.After-loop-s) (i : ℕ) → slice_index c.args.bytes.now i < 256
small c i = let fits = c.type_inv.bytes i in omega arith

pub returns-clause-slots : goal.returns-clause-slots
returns-clause-slots c = all c

pub returns-clause-count : goal.returns-clause-count
returns-clause-count c = c.loop-s.invariant.room

pub returns-clause-spelled : goal.returns-clause-spelled
returns-clause-spelled c = ap slots_bytes (all c) ∙ slots_at-spelled 128 c.args.bytes.now c.requires (small c)

pub returns-clause-fit : goal.returns-clause-fit
returns-clause-fit c =
    subst (λ (ns : List ℕ). All (λ number. number < 2 ^ 64) ns) (sym (all c))
    (slots_at-fit 128 c.args.bytes.now (small c))
