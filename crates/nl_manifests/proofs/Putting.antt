-- Entries that come to others in order.
use Rattle.std.proofs.Common.{◌≡◌, ℕ, zero, suc, ◌+◌, ◌-◌, ◌<◌, ◌≤◌, Bool, true, false, List, [], ◌∷◌, ◌++◌, refl, sym, ap, ◌∙◌, subst, true≢false, length, take, drop, get_or, set, arith}
use Rattle.std.specs.declared.cmp.Ordering.{Ordering}
use Rattle.std.specs.declared.cmp.Ordering.TheVariants.{Less, Equal, Greater}
use Rattle.std.specs.Ordering.{is_lt, is_eq, ordering_reverse}
use Rattle.std.specs.List.{flat_map}
use Rattle.std.specs.FinMap.{put, is_sorted}
use Rattle.std.specs.FinMap.Entries.{is_sorted-put}
use Rattle.std.proofs.lemmas.List.{at_drop_all, drop_more}
use Rattle.nl_types.specs.Plain.Paths.{Path, path_cmp}
use Rattle.nl_types.specs.Facts.Booleans.{holds, is_true}
use Rattle.nl_types.specs.Facts.TreeLaws.{path_total}
use Rattle.nl_manifests.specs.Private.Places.{BeginsAbove, GoesTo, IsBefore, IsPlace, Puts, PutsIfOrdered, puts}
use Rattle.nl_manifests.specs.declared.ordered.Place.TheVariants.{Over, Before}
use Rattle.nl_manifests.proofs.Sorted.{inserted, less_is, put_first, replaced}

not_less : (o : Ordering) → is_lt o ≡ false → is_eq o ≡ false → o ≡ Greater
not_less Less less equal = absurd (true≢false less)
not_less Equal less equal = absurd (true≢false equal)
not_less Greater less equal = refl

tied_is : (o : Ordering) → is_eq o ≡ true → o ≡ Equal
tied_is Less is = absurd (true≢false (sym is))
tied_is Equal is = refl
tied_is Greater is = absurd (true≢false (sym is))

module _ {X : Type 0} where
  -- ---- places

  pub first_is : (es : List (Path × X)) (e f : Path × X) (rest others : List (Path × X)) → es ≡ e ∷ rest → es ≡ f
      ∷ others
      → e ≡ f
  first_is es e f rest others one other = let both : e ∷ rest ≡ f ∷ others = sym one ∙ other in cc

  -- what is known of the first entry from a place on
  pub first_by : (k : Path) (es : List (Path × X)) (e f : Path × X) (rest others : List (Path × X))
      → es ≡ e ∷ rest → es ≡ f ∷ others → is_lt (path_cmp k f.0) ≡ false → is_lt (path_cmp k e.0) ≡ false
  first_by k es e f rest others one other is =
      ap (λ (x : Path × X). is_lt (path_cmp k x.0)) (first_is es e f rest others one other) ∙ is

  begins : (k : Path) (v : X) (es : List (Path × X)) → BeginsAbove k es → put path_cmp k v es ≡ (k, v) ∷ es
  begins k v [] before = refl
  begins k v (e ∷ es) before = put_first k v e es (less_is (path_cmp k e.0) before)

  -- an entry comes behind those that are below it
  pub put_behind : (k : Path) (v : X) (es : List (Path × X)) (place : ℕ) → is_sorted path_cmp es ≡ true
      → IsPlace k es place → IsBefore k es place false
      → put path_cmp k v es ≡ take place es ++ (k, v) ∷ drop place es
  put_behind k v [] zero sorted is other = refl
  put_behind k v (e ∷ es) zero sorted is other = begins k v (e ∷ es) is.before
  put_behind k v es (suc p) sorted is other =
      let one : suc p - 1 ≡ p = omega arith in
      let e = get_or es p (k, v) in
      let rest = drop (p + 1) es in
      let within : p < length es = omega (arith, is.within) in
      let here : drop p es ≡ e ∷ rest = drop_more es p (k, v) within in
      let at : drop (suc p - 1) es ≡ e ∷ rest = ap (λ (n : ℕ). drop n es) one ∙ here in
      let greater = not_less (path_cmp k e.0) (is.behind e rest (omega arith) at) (other e rest (omega
      arith) at) in
      let less : path_cmp e.0 k ≡ Less = path_total.antisymm e.0 k ∙ ap ordering_reverse greater in
      let next : suc p ≡ p + 1 = omega arith in
      let before : BeginsAbove k rest = subst (λ (n : ℕ). BeginsAbove k (drop n es)) next is.before in
      inserted k v es p e rest sorted here less (begins k v rest before)
      ∙ ap (λ (n : ℕ). take (suc p) es ++ (k, v) ∷ drop n es) (sym next)

  -- or in the place of the one at its path
  pub put_over : (k : Path) (v : X) (es : List (Path × X)) (place : ℕ) → is_sorted path_cmp es ≡ true
      → place ≤ length es → IsBefore k es place true → put path_cmp k v es ≡ set es (place - 1) (k, v)
  put_over k v es place sorted within is =
      let p = place - 1 in
      let inside : p < length es = omega (arith, is.0) in
      let here = drop_more es p (k, v) inside in
      let e = get_or es p (k, v) in
      replaced k v es p e (drop (p + 1) es) sorted here (tied_is (path_cmp k e.0) (is.1 e (drop (p + 1) es)
      here))

  pub before_by : (k : Path) (es : List (Path × X)) (place : ℕ) (e : Path × X) (rest : List (Path × X)) (t : Bool)
      → 0 < place
      → drop (place - 1) es ≡ e ∷ rest → t ≡ is_eq (path_cmp k e.0) → IsBefore k es place t
  before_by k es place e rest true some here is = (
    some,
    λ f others other.
        ap (λ (x : Path × X). is_eq (path_cmp k x.0)) (first_is (drop (place - 1) es) f e others
        rest other here)
        ∙ sym is,
  )
  before_by k es place e rest false some here is =
      λ f others _ other.
      ap (λ (x : Path × X). is_eq (path_cmp k x.0)) (first_is (drop (place - 1) es) f e others rest
      other here)
      ∙ sym is

  -- one entry more
  pub Puts-one : (k : Path) (v : X) (old new : List (Path × X)) → is_sorted path_cmp old ≡ true
      → new ≡ put path_cmp k v old → Puts old ((k, v) ∷ []) new
  Puts-one k v old new sorted is = record {
    is = is;
    ordered = ap (is_sorted path_cmp) is ∙ is_true _ (is_sorted-put path_cmp path_total k v old (holds _
        sorted));
  }

  -- what goes to a place is put
  pub over_is : (k here : Path) (es seen : List (Path × X)) (place : ℕ) → here ≡ k → seen ≡ es
      → GoesTo here seen (Over place) → (v : X) → is_sorted path_cmp es ≡ true
      → Puts es ((k, v) ∷ []) (set es place (k, v))
  over_is k here es seen place paths entries goes v sorted =
      let moved : GoesTo k es (Over place) =
      subst (λ (x : Path). GoesTo x es (Over place)) paths
      (subst (λ (x : List (Path × X)). GoesTo here x (Over place)) entries goes) in
      Puts-one k v es (set es place (k, v)) sorted (sym (moved.1 v sorted))

  pub before_is : (k here : Path) (es seen new : List (Path × X)) (place : ℕ) → here ≡ k → seen ≡ es
      → GoesTo here seen (Before place) → (v : X) → new ≡ take place es ++ (k, v) ∷ drop place es
      → is_sorted path_cmp es ≡ true → Puts es ((k, v) ∷ []) new
  before_is k here es seen new place paths entries goes v is sorted =
      let moved : GoesTo k es (Before place) =
      subst (λ (x : Path). GoesTo x es (Before place)) paths
      (subst (λ (x : List (Path × X)). GoesTo here x (Before place)) entries goes) in
      Puts-one k v es new sorted (is ∙ sym (moved.1 v sorted))

  -- ---- one after another

  pub puts-append : (es one other : List (Path × X)) → puts es (one ++ other) ≡ puts (puts es one) other
  puts-append es [] other = refl
  puts-append es (e ∷ one) other = puts-append (put path_cmp e.0 e.1 es) one other

  pub Puts-then : (a b c one other : List (Path × X)) → PutsIfOrdered a one b → PutsIfOrdered b other c
      → PutsIfOrdered a (one ++ other) c
  Puts-then a b c one other first then sorted =
      let p = first sorted in
      let q = then p.ordered in
      record {
        is =
            q.is ∙ ap (λ (es : List (Path × X)). puts es other) p.is ∙ sym (puts-append a one other);
        ordered = q.ordered;
      }

  pub Puts-none : (a : List (Path × X)) → PutsIfOrdered a [] a
  Puts-none a sorted = record { is = refl; ordered = sorted }

  -- what is put so far, of all that is put
  pub record Putting (old now rest all : List (Path × X)) : Type 0 where
    pub left : puts now rest ≡ puts old all
    pub ordered : is_sorted path_cmp now ≡ true

  abbrev pub PuttingIfOrdered : (old now rest all : List (Path × X)) → Type 0
  PuttingIfOrdered old now rest all = is_sorted path_cmp old ≡ true → Putting old now rest all

  pub Putting-more : (old now new part rest left all : List (Path × X)) → left ≡ part ++ rest
      → PuttingIfOrdered old now left all → PutsIfOrdered now part new → PuttingIfOrdered old new rest all
  Putting-more old now new part rest left all parted so_far next sorted =
      let s = so_far sorted in
      let n = next s.ordered in
      record {
        left =
            ap (λ (es : List (Path × X)). puts es rest) n.is ∙ sym (puts-append now part rest)
            ∙ ap (puts now) (sym parted) ∙ s.left;
        ordered = n.ordered;
      }

  pub Putting-done : (old now left all : List (Path × X)) → left ≡ [] → PuttingIfOrdered old now left all
      → PutsIfOrdered old all now
  Putting-done old now left all none so_far sorted =
      let s = so_far sorted in
      record { is = sym (ap (puts now) none) ∙ s.left; ordered = s.ordered }

-- the part of the next item, and those of the items behind it
pub flat_map-drop : {X Y : Type 0} (f : X → List Y) (xs : List X) (i : ℕ) (x : X) → i < length xs → x ≡
    get_or xs i x
    → flat_map f (drop i xs) ≡ f x ++ flat_map f (drop (i + 1) xs)
flat_map-drop {X} f xs i x within is =
    ap (flat_map f) (drop_more xs i x within)
    ∙ ap (λ (y : X). f y ++ flat_map f (drop (i + 1) xs)) (sym is)

-- behind the last item nothing is left
pub all_passed : {X Y : Type 0} (f : X → List Y) (xs : List X) (i : ℕ) → length xs ≤ i → flat_map f (drop
    i xs) ≡ []
all_passed f xs i passed = at_drop_all (flat_map f) xs i passed
