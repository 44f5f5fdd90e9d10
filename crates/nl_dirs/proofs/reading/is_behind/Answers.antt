use Rattle.std.proofs.Common.{◌≡◌, sym, ◌∙◌, ap}
use Rattle.std.specs.Ordering.{is_lt}
use Rattle.nl_types.specs.Plain.Paths.{Name, name_cmp}
use Rattle.nl_dirs.proofs.Ascending.{behind_last, last_before}
use Rattle.nl_dirs.proofs.reading.is_behind.Goals as goal

pub returns-in-Some : goal.returns-in-Some
returns-in-Some c =
    let test : c.is_lt.result ≡ is_lt (name_cmp c.in-Some.last.now.name c.args.name.now) =
    c.is_lt.ensures
    ∙ ap is_lt (c.cmp.ensures ∙ ap (λ (own : Name). name_cmp own c.args.name.now) c.as_slice.ensures) in (
      λ h.
          behind_last c.args.records.now c.in-Some.last.now c.args.name.now c.requires
          (sym c.in-Some.ensures.value) (sym test ∙ h),
      λ h.
          test
          ∙ last_before c.args.records.now c.in-Some.last.now c.args.name.now (sym c.in-Some.ensures.value) h,
    )
