-- Moves and retirements of a pen, as its store sees them.
use Rattle.std.proofs.Common.{◌≡◌, ◌⊎◌, ◌≤◌, ◌*◌, ℕ, ◌+◌, Bool, true, false, List, [], ◌∷◌, length, Result, Ok, Err, inl, inr, refl, sym, ap, subst, ◌∙◌, arith}
use Rattle.std.specs.Prelude.{All, IsOk, map}
use Rattle.std.proofs.lemmas.Bool.{true≢false}
use Rattle.std.proofs.lemmas.List.Elements.{All-tail}
use Rattle.nl_types.specs.declared.error.VolError.{VolError}
use Rattle.nl_types.specs.declared.error.VolError.TheVariants as error
use Rattle.nl_types.specs.declared.event.Event.{Event}
use Rattle.nl_types.specs.declared.event.Event.TheVariants.{Move, Retire}
use Rattle.nl_types.specs.declared.reply.Answer.TheVariants.{Freed}
use Rattle.nl_types.specs.declared.segment.SegmentState.TheVariants.{Dirty}
use Rattle.nl_types.specs.Blocks.Entries.{is_needed}
use Rattle.nl_types.specs.Plain.Runs.{Run}
use Rattle.nl_types.specs.Blocks.Segments.{clean_info, info_of}
use Rattle.nl_types.specs.Plain.Worlds.{Reply}
use Rattle.nl_vstore.specs.Located.{needed_count, numbers_in}
use Rattle.nl_reclaim.specs.Cleaning.{retired}
use Rattle.nl_reclaim.specs.Moves.{FullMoves, HasMovedPages, KeepsNeeds, KeptStore, Retires}
use Rattle.nl_reclaim.specs.Facts.Moves.{full-moves-come-clean}
use Rattle.nl_events.specs.CleanedPens.{kept_store, kept_number}
use Rattle.nl_commit.specs.CleaningEvents.{needed_by}
use Rattle.nl_commit.specs.Layout.{AllowedBetween, Does, IsPen, Layout}
use Rattle.nl_commit.specs.Notes.{allowed_where}
use Rattle.nl_commit.specs.Volume.{Lists, kept_by}
use Rattle.nl_core.specs.Facts.Refusals.{retirements_are_judged}
use Rattle.nl_cleaner.specs.Laws.{AreMoves, ComesClean, DoesWithGiveBacks, GivesBack, SegmentsComeClean, unmount_of}
use Rattle.nl_cleaner.specs.Facts.RoundEvents.{move-is}

abbrev pub IsDone : Reply → Type 0
IsDone r = IsOk r

-- the needs of a pen whose lists stay
pub same-needs : (old new : Layout) → new.lists ≡ old.lists → KeepsNeeds (kept_store old) (kept_store new)
same-needs old new same v e is = ap (λ (l : Lists). is_needed (map kept_number (kept_by l)) e) same

-- ---- mounts that are given back

-- the cleaner sees no more of it than that it is a pen
pub record StaysKept (old new : Layout) : Type 0 where
  pub same : kept_store new ≡ kept_store old
  pub pen : IsPen new

module _ (allowed : AllowedBetween) where
  one-back : (old new : Layout) (m : ℕ) (reply : Reply) → Does allowed old (unmount_of m) reply new
      → kept_store new ≡ kept_store old
  one-back old new m (Ok answer) does = ap kept_store does.becomes
  one-back old new m (Err e) does = ap kept_store does.becomes

  all-back : (old new : Layout) (mounts : List ℕ) (replies : List Reply)
      → Run (Does allowed) old (map unmount_of mounts) replies new → kept_store new ≡ kept_store old
  all-back old new [] [] run = ap kept_store run
  all-back old new (m ∷ mounts) (reply ∷ replies) run =
      all-back run.0 new mounts replies run.2 ∙ one-back old run.0 m reply run.1
  all-back old new [] (reply ∷ replies) run = absurd run
  all-back old new (m ∷ mounts) [] run = absurd run

  pub same-kept : (old new : Layout) → GivesBack allowed old new → kept_store new ≡ kept_store old
  same-kept old new backs = all-back old new backs.mounts backs.replies backs.ran

  pen-back : (old new : Layout) (mounts : List ℕ) (replies : List Reply) → IsPen old
      → Run (Does allowed) old (map unmount_of mounts) replies new → IsPen new
  pen-back old new [] [] held run = subst IsPen (sym run) held
  pen-back old new (m ∷ mounts) (reply ∷ replies) held run =
      pen-back run.0 new mounts replies run.1.pen run.2
  pen-back old new [] (reply ∷ replies) held run = absurd run
  pen-back old new (m ∷ mounts) [] held run = absurd run

  pub stays-kept : (old new : Layout) → IsPen old → GivesBack allowed old new → StaysKept old new
  stays-kept old new held backs = record {
    same = same-kept old new backs;
    pen = pen-back old new backs.mounts backs.replies held backs.ran;
  }

-- ---- a run of moves

full-moves : (allowed : AllowedBetween) (segment limit : ℕ) (old mid : Layout) (events : List Event)
    (replies : List Reply) → IsPen old
    → AreMoves segment limit events → Run (DoesWithGiveBacks allowed) old events replies mid
    → All IsOk replies
    → FullMoves segment limit (length events) (kept_store old) (kept_store mid)
full-moves allowed segment limit old mid [] [] held moves run oks = ap kept_store run
full-moves allowed segment limit old mid (e ∷ es) (Ok answer ∷ rs) held moves run oks =
    let move = moves 0 e (omega arith) in
    let begun = run.1.begun in
    let kept = stays-kept allowed old begun held run.1.backs in (
      begun.lists.table.latest.number + 1,
      move.0,
      kept_store run.0,
      subst (λ (s : KeptStore). HasMovedPages segment (begun.lists.table.latest.number + 1) move.0 limit s
          (kept_store run.0)) kept.same
          (move-is begun run.0 segment limit move.0 answer kept.pen
          (subst (λ (x : Event). Does allowed begun x (Ok answer) run.0) move.1 run.1.does)),
      full-moves allowed segment limit run.0 mid es rs run.1.does.pen
          (All-tail (λ x. (now : ℕ) × (x ≡ Move segment limit now)) e es moves) run.2
          (All-tail IsDone (Ok answer) rs oks),
    )
full-moves allowed segment limit old mid (e ∷ es) (Err x ∷ rs) held moves run oks =
    absurd (true≢false (sym (oks 0 (Err x) (omega arith))))
full-moves allowed segment limit old mid [] (r ∷ rs) held moves run oks = absurd run
full-moves allowed segment limit old mid (e ∷ es) [] held moves run oks = absurd run

-- ---- and then a retirement

-- a run leaves a pen
pen-behind : (allowed : AllowedBetween) (old new : Layout) (events : List Event) (replies : List Reply)
    → IsPen old → Run (DoesWithGiveBacks allowed) old events replies new → IsPen new
pen-behind allowed old new [] [] held run = subst IsPen (sym run) held
pen-behind allowed old new (e ∷ es) (r ∷ rs) held run =
    pen-behind allowed run.0 new es rs run.1.does.pen run.2
pen-behind allowed old new [] (r ∷ rs) held run = absurd run
pen-behind allowed old new (e ∷ es) [] held run = absurd run

-- a retirement is refused as its segment is judged, or memory is beside readers
refused-for : (told : Bool) (old new : Layout) (segment : ℕ) (e : VolError) → IsPen old
    → Does (allowed_where told) old (Retire segment) (Err e) new
    → (retired old.store (needed_by old.lists) segment ≡ Err e) ⊎ ((e ≡ error.Memory) × (told ≡ true))
refused-for true old new segment error.Memory held does = inr (refl, refl)
refused-for true old new segment e held does = inl does.becomes.1
refused-for false old new segment e held does = inl (retirements_are_judged old new segment e held does)

module _ (told : Bool) (segment limit : ℕ) (old mid new : Layout) (events : List Event) (replies : List Reply)
    (held : IsPen old) (dirty : (info_of old.store.segments.each segment).state ≡ Dirty)
    (moves : AreMoves segment limit events)
    (enough : needed_count old.store (needed_by old.lists) segment ≤ length events * limit)
    (run : Run (DoesWithGiveBacks (allowed_where told)) old events replies mid) (oks : All IsOk replies) where
  -- what was moved out, and emptied then
  clean-after : (begun : Layout) (result : Result ℕ VolError) → kept_store begun ≡ kept_store mid
      → Retires segment result (kept_store begun) (kept_store new)
      → (result ≡ Ok (length (numbers_in mid.store segment)))
      × (info_of new.store.segments.each segment ≡ clean_info)
  clean-after begun result same retires =
      let clean =
      full-moves-come-clean segment limit (length events) (kept_store old) (kept_store mid) (kept_store new)
      result held.sound.store dirty enough
      (full-moves (allowed_where told) segment limit old mid events replies held moves run oks)
      (subst (λ (s : KeptStore). Retires segment result s (kept_store new)) same retires) in
      (clean.0, ap (λ i. i) clean.1)

  comes-clean : (reply : Reply) → DoesWithGiveBacks (allowed_where told) mid (Retire segment) reply new
      → ComesClean told segment mid reply new
  comes-clean (Ok answer) done =
      let kept = stays-kept (allowed_where told) mid done.begun
      (pen-behind (allowed_where told) old mid events replies held run) done.backs in
      let emptied = done.does.becomes.emptied in
      let clean = clean-after done.begun (Ok emptied.count) kept.same
      (record { answers = sym emptied.judged; reclaimed = emptied.reclaimed }) in
      (emptied.answer_is ∙ ap Freed (counts emptied.count clean.0), clean.1)
    where
      counts : (count : ℕ)
          → ◌≡◌ {A = Result ℕ VolError} (Ok count) (Ok (length (numbers_in mid.store segment)))
          → count ≡ length (numbers_in mid.store segment)
      counts count h = cc
  comes-clean (Err e) done =
      let kept = stays-kept (allowed_where told) mid done.begun
      (pen-behind (allowed_where told) old mid events replies held run) done.backs in
      elim (refused-for told done.begun new segment e kept.pen done.does) [
        | inl judged ↦
            absurd (apart (clean-after done.begun (Err e) kept.same
            (record { answers = sym judged; reclaimed = tt })).0)
        | inr lacks ↦ lacks
      ]
    where
      apart : ◌≡◌ {A = Result ℕ VolError} (Err e) (Ok (length (numbers_in mid.store segment))) → ⊥
      apart h = cc

pub segments-come-clean : (told : Bool) → SegmentsComeClean told
segments-come-clean told segment limit old mid new events replies reply held dirty moves enough run oks done =
    comes-clean told segment limit old mid new events replies held dirty moves enough run oks reply done
