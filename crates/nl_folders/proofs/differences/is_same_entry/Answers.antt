use Rattle.std.proofs.Common.{◌≡◌, ◌↔◌, IsTrue, true, false, sym, refl, subst, ◌∙◌}
use Rattle.nl_types.specs.Plain.Paths.{same_path}
use Rattle.nl_folders.proofs.Sameness.{entry_by}
use Rattle.nl_folders.proofs.differences.is_same_entry.Goals as goal

pub returns-then-is_same_path : goal.returns-then-is_same_path
returns-then-is_same_path c =
    let one = c.args.one.now in
    let other = c.args.other.now in
    let paths : c.is_same_path.result ≡ same_path one.0 other.0 = cc in
    entry_by one other true c.is_same_object.result (sym c.if-is_same_path.true ∙ paths) c.is_same_object.ensures

pub returns-else-is_same_path : goal.returns-else-is_same_path
returns-else-is_same_path c =
    let one = c.args.one.now in
    let other = c.args.other.now in
    let paths : c.is_same_path.result ≡ same_path one.0 other.0 = cc in
    subst (λ b. IsTrue b ↔ (one ≡ other)) (sym c.if-is_same_path.false)
    (entry_by one other false _ (sym c.if-is_same_path.false ∙ paths) refl)
