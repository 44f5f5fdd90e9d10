use Rattle.std.proofs.Common.{◌≡◌, ◌^◌, ◌<◌, ◌∙◌, ◌*◌, ◌++◌, List, [], ℕ, ap, arith, drop, length, sym, subst}
use Rattle.std.specs.List.{All}
use Rattle.std.proofs.lemmas.List.{append-nil, drop_all}
use Rattle.nl_layout.specs.Node.{slots_bytes}
use Rattle.nl_layout.proofs.Slots.{slot-Spells}
use Rattle.nl_layout.proofs.node.Node.write.Goals as goal

pub returns-clause-spells : goal.returns-clause-spells
returns-clause-spells c =
    let slots : List ℕ = c.self.inside.slots in
    let room : length c.args.out.now ≡ 1024 = c.requires in
    let all : length slots ≡ 128 = c.self.invariant in
    let rest : drop (8 * length slots) c.args.out.now ≡ [] =
    drop_all (8 * length slots) c.args.out.now (omega arith) in
    record {
      count = ap length (sym c.self.view_is) ∙ all;
      fit =
          subst
          (λ (ns : List ℕ). All (λ number. number < 2 ^ 64) ns) c.self.view_is c.write_slots.ensures.fit;
      spelling =
          c.write_slots.ensures.bytes
          ∙ (ap (λ (xs : List ℕ). slots_bytes slots ++ xs) rest
          ∙ (append-nil (slots_bytes slots) ∙ ap slots_bytes c.self.view_is));
    }

pub returns-clause-named : goal.returns-clause-named
returns-clause-named c = λ s within.
    slot-Spells c.write_slots.new.out c.args.self.now s (returns-clause-spells c) within
