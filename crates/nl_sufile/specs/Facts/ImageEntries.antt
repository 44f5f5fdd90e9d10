-- The entries of the segments in an image, and the table that they tell.
use Rattle.std.proofs.Common.{◌≡◌, ℕ, ◌+◌, ◌*◌, ◌<◌, inl, inr, true, false, List, [], ◌∷◌, ◌++◌, length, take, drop, Option, None, Some, is_some, refl, ap, sym, ◌∙◌, subst, arith}
use Rattle.std.proofs.lemmas.Bool.{cases_lt}
use Rattle.std.proofs.lemmas.List.{get_or_past, take_more}
use Rattle.std.proofs.lemmas.List.Elements.{All-from_get_or, All-from_recursion, All-weaker, recursion_from_All}
use Rattle.nl_types.specs.declared.geometry.Geometry.{Geometry}
use Rattle.nl_types.specs.declared.segment.SegmentInfo.{SegmentInfo}
use Rattle.nl_types.specs.Blocks.Segments.{Segments, IsTidy, clean_info, has_logs, info_of, is_active}
use Rattle.nl_types.specs.Facts.EqualPieces.{HaveWidth, piece_at}
use Rattle.nl_layout.specs.Segment.{segment_bytes}
use Rattle.nl_sufile.specs.Images.{AreEntriesOf, HaveOneActive, IsEntryAt, IsSoundSegment, IsSufileOf}
use Rattle.nl_sufile.specs.Table.{IsActiveIn, IsSegTable}

pub entry_width : HaveWidth segment_bytes 16
entry_width info = refl

-- the entry of each segment stands in its place
pub entry_in_place : (g : Geometry) (bytes : List ℕ) (each : List SegmentInfo) (i : ℕ)
    → AreEntriesOf g bytes each → i < g.segments → IsEntryAt g.blocks bytes i (info_of each i)
entry_in_place g bytes each i are within =
    let inside : i < length each = omega (arith, are.count, within) in
    record {
      spells = record {
        fits = are.fit i clean_info inside;
        spelling =
            ap (λ (xs : List ℕ). take 16 (drop (16 * i) xs)) are.spelled
            ∙ piece_at segment_bytes 16 entry_width each i clean_info inside;
      };
      sound = are.sound i clean_info inside;
    }

-- the entries that were read are the first of all, and so they are with one more
pub one_more : (each : List SegmentInfo) (i : ℕ) (first : List SegmentInfo) (info : SegmentInfo)
    → i < length each → first ≡ take i each → Some info ≡ Some (info_of each i)
    → first ++ info ∷ [] ≡ take (i + 1) each
one_more each i first info within before next =
    let more = take_more each i clean_info within in rw (before, some_is next) (sym more)
  where
    some_is : {A : Type 0} {a b : A} → Some a ≡ Some b → a ≡ b
    some_is e = cc

-- ---- which segment is active

-- of the first segments this one is active, if one is
pub record IsActiveBelow (each : List SegmentInfo) (n : ℕ) (active : Option ℕ) : Type 0 where
  pub there : (a : ℕ) → active ≡ Some a → (a < n) × (is_active (info_of each a).state ≡ true)
  pub only : (i : ℕ) → i < n → is_active (info_of each i).state ≡ true → active ≡ Some i

pub none_below : (each : List SegmentInfo) → IsActiveBelow each 0 None
none_below each = record { there = λ a e. absurd (cc); only = λ i low active. absurd (omega arith) }

-- the next one is not active
pub below_other : (each : List SegmentInfo) (n : ℕ) (active : Option ℕ) → IsActiveBelow each n active
    → is_active (info_of each n).state ≡ false → IsActiveBelow each (n + 1) active
below_other each n active is other = record {
  there = λ a e. let t = is.there a e in (omega (arith, t.0), t.1);
  only = λ i low here. elim (cases_lt i n) [
    | inl h ↦ is.only i h here
    | inr h ↦
        absurd (let same : i ≡ n = omega (arith, h, low) in
        let b : is_active (info_of each n).state ≡ true =
        subst (λ (k : ℕ). is_active (info_of each k).state ≡ true) same here in
        cc)
  ];
}

-- the next one is, and none before it
pub below_this : (each : List SegmentInfo) (n : ℕ) → IsActiveBelow each n None
    → is_active (info_of each n).state ≡ true → IsActiveBelow each (n + 1) (Some n)
below_this each n is this = record {
  there = λ a e.
      let same : n ≡ a = cc in
      (omega (arith, same), subst (λ (k : ℕ). is_active (info_of each k).state ≡ true) same this);
  only = λ i low here. elim (cases_lt i n) [
    | inl h ↦ absurd (let e = is.only i h here in cc)
    | inr h ↦ ap (λ (k : ℕ). Some k) (omega (arith, h, low))
  ];
}

-- that is all of them
pub below_all : (each : List SegmentInfo) (n : ℕ) (active : Option ℕ) → n ≡ length each
    → IsActiveBelow each n active → IsActiveIn each active
below_all each n active all is = record {
  there = λ a e. let t = is.there a e in (omega (arith, t.0, all), t.1);
  only = λ i here. elim (cases_lt i n) [
    | inl h ↦ is.only i h here
    | inr h ↦ absurd (past (info_of each i) (get_or_past each i clean_info (omega (arith, h, all))) here)
  ];
}
  where
    past : (info : SegmentInfo) → info ≡ clean_info → is_active info.state ≡ true → ⊥
    past info e here =
        let c : is_active info.state ≡ false = ap (λ (x : SegmentInfo). is_active x.state) e in cc

pub none_from : {A : Type 0} (o : Option A) → is_some o ≡ false → o ≡ None
none_from None e = refl
none_from (Some x) e = cc

-- two are active
pub two_active : (each : List SegmentInfo) (n : ℕ) (active : Option ℕ) → IsActiveBelow each n active
    → is_some active ≡ true → is_active (info_of each n).state ≡ true → HaveOneActive each → ⊥
two_active each n None is there here one = cc
two_active each n (Some a) is there here one =
    let t = is.there a refl in let same = one a n t.1 here in omega (arith, t.0, same)

-- ---- the table

abbrev pub segments_of : Geometry → List SegmentInfo → Segments
segments_of g each = record { blocks = g.blocks; each = each }

pub told_table : (g : Geometry) (bytes : List ℕ) (each : List SegmentInfo) (active : Option ℕ)
    → AreEntriesOf g bytes each → IsActiveIn each active
    → IsSufileOf g bytes (record { blocks = g.blocks; each = each })
told_table g bytes each active are is = record {
  spelled = are.spelled;
  fit = are.fit;
  count = are.count;
  blocks = refl;
  tidy = record {
    each =
        recursion_from_All (IsTidy g.blocks) each
        (All-weaker (IsSoundSegment g.blocks) (IsTidy g.blocks) (λ info sound. sound.tidy) each are.sound);
    one_active = λ i j a b. let p = is.only i a in let q = is.only j b in cc;
  };
  have_logs = λ i has. elim (cases_lt i (length each)) [
    | inl h ↦ (are.sound i clean_info h).logs has
    | inr h ↦ absurd (past (info_of each i) (get_or_past each i clean_info h) has)
  ];
}
  where
    past : (info : SegmentInfo) → info ≡ clean_info → has_logs info.state ≡ true → ⊥
    past info e has = let c : has_logs info.state ≡ false = ap (λ (x : SegmentInfo). has_logs x.state) e in cc

pub told_seg_table : (g : Geometry) (bytes : List ℕ) (s : Segments) → IsSufileOf g bytes s → IsSegTable s
told_seg_table g bytes s told = record {
  geometry = record {
    least_segments = omega (arith, told.count, g.least_segments);
    most_segments = omega (arith, told.count, g.most_segments);
    least_blocks = omega (arith, told.blocks, g.least_blocks);
    most_blocks = omega (arith, told.blocks, g.most_blocks);
    most = rw (told.count, told.blocks) g.most;
  };
  tidy = told.tidy;
}

-- the entries of a table are sound
pub entries_told : (g : Geometry) (bytes : List ℕ) (s : Segments) → IsSufileOf g bytes s
    → AreEntriesOf g bytes s.each
entries_told g bytes s told = record {
  spelled = told.spelled;
  fit = told.fit;
  count = told.count;
  sound = All-from_get_or (IsSoundSegment g.blocks) s.each clean_info (λ i within. record {
    tidy =
        subst (λ (blocks : ℕ). IsTidy blocks (info_of s.each i)) told.blocks
        (All-from_recursion (IsTidy s.blocks) s.each told.tidy.each i clean_info within);
    logs = told.have_logs i;
  });
}

-- a table is made of its segments
pub same_segments : (g : Geometry) (each : List SegmentInfo) (s : Segments) → each ≡ s.each
    → s.blocks ≡ g.blocks → segments_of g each ≡ s
same_segments g each s same blocks = rw (same, (sym blocks)) refl
