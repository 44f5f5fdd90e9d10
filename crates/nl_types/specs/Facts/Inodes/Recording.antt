-- One record of a directory put or taken out, and what stands below what isn't there.
use Rattle.std.specs.Prelude.{◌≡◌, ◌==◌, ℕ, Bool, true, false, ◌&&◌, not, cond, List, [], ◌∷◌, ◌++◌, Option, Some, None, refl}
use Rattle.std.specs.List.{filter}
use Rattle.std.specs.FinMap.{find, put}
use Rattle.std.specs.FinMap.Entries.{find-put, find-where_key}
use Rattle.std.specs.Cmp.Lexicographic.{nat_list_cmp_total}
use Rattle.std.specs.Option.{option_map, option_zip}
use Rattle.std.proofs.Common.{sym, ◌∙◌, ap, subst, inl, inr, true≢false}
use Rattle.std.proofs.lemmas.Bool.{eq-eqb, ne_eqb}
use Rattle.nl_types.specs.declared.reply.Object.{Object}
use Rattle.nl_types.specs.declared.reply.Object.TheVariants.{Dir}
use Rattle.nl_types.specs.Plain.Paths.{Name, Path, name_cmp, same_name}
use Rattle.nl_types.specs.Plain.Trees.{object_kind}
use Rattle.nl_types.specs.Inodes.{Link, InodeContent, Bytes, Records, IsRooted}
use Rattle.nl_types.specs.InodeChanges.{HoldsChanged, put_record}
use Rattle.nl_types.specs.Facts.Lookups.{names_equal, same_name-itself, same_name-equal}
use Rattle.nl_types.specs.Facts.Inodes.Ways.{name_cases}

pub clash : {A : Type 0} (o : Option A) (x : A) → o ≡ None → o ≡ Some x → ⊥
clash o x e k = let c : None ≡ Some x = sym e ∙ k in cc

pub same_value : {A : Type 0} (o : Option A) (x y : A) → o ≡ Some x → o ≡ Some y → x ≡ y
same_value o x y e k = let c : Some x ≡ Some y = sym e ∙ k in cc

pub same_child : (a b : Name) (p q : Path) → a ≡ b → p ≡ q → ◌≡◌ {A = Path} (a ∷ p) (b ∷ q)
same_child a b p q e k = rw (e, k) refl

pub put_record-there : (d : ℕ) (n : Name) (x : Option Link) (i : ℕ) (m : Name) (old : Option Link) → i ≡ d
    → m ≡ n → put_record d n x i m old ≡ x
unfolding put_record
put_record-there d n x i m old e k =
    elim (name_cases m n) [ inl t ↦ rw (eq-eqb i d e, t.0) refl | inr f ↦ absurd (f.1 k) ]

pub put_record-dir : (d : ℕ) (n : Name) (x : Option Link) (i : ℕ) (m : Name) (old : Option Link) → (i ≡ d → ⊥)
    → put_record d n x i m old ≡ old
unfolding put_record
put_record-dir d n x i m old ne = rw (ne_eqb i d ne) refl

and_false : (a b : Bool) → b ≡ false → (a && b) ≡ false
and_false true b e = e
and_false false b e = refl

pub put_record-name : (d : ℕ) (n : Name) (x : Option Link) (i : ℕ) (m : Name) (old : Option Link)
    → (m ≡ n → ⊥) → put_record d n x i m old ≡ old
unfolding put_record
put_record-name d n x i m old ne =
    elim (name_cases m n)
    [ inl t ↦ absurd (ne t.1) | inr f ↦ rw (and_false (i == d) (same_name m n) (f.0)) refl ]

pub record_cong : (a b : Option ℕ) (x y : Option Object) → a ≡ b → x ≡ y
    → option_zip a (option_map object_kind x) ≡ option_zip b (option_map object_kind y)
record_cong a b x y e k = rw (e, k) refl

no_child : (tree : Path → Option Object) (t : IsRooted tree) (n : Name) (p : Path) (o : Option Object)
    → tree (n ∷ p) ≡ o → tree p ≡ None → tree (n ∷ p) ≡ None
no_child tree t n p None e z = e
no_child tree t n p (Some x) e z = absurd (clash (tree p) Dir z (t.parents n p x e))

-- nothing is below what isn't there
pub absent_below : (tree : Path → Option Object) (t : IsRooted tree) (p r : Path) → tree p ≡ None
    → tree (r ++ p) ≡ None
absent_below tree t p [] e = e
absent_below tree t p (n ∷ r) e =
    no_child tree t n (r ++ p) (tree (n ∷ (r ++ p))) refl (absent_below tree t p r e)

-- ---- what inodes hold, after changes of records

-- an inode that is not the directory's holds what it held
pub holds_same : (dir : ℕ) (name : Name) (link : Option Link) (i : ℕ) (o : Option InodeContent)
    → (i ≡ dir → ⊥) → HoldsChanged (put_record dir name link i) o o
holds_same dir name link i None ne = refl
holds_same dir name link i (Some (Bytes bytes)) ne = refl
holds_same dir name link i (Some (Records records)) ne =
    (records, refl, λ n. sym (put_record-dir dir name link i n (records n) ne))

-- two changes, one after the other
pub holds_both : (one two : Name → Option Link → Option Link) (a b c : Option InodeContent)
    → HoldsChanged one a b → HoldsChanged two b c → HoldsChanged (λ n x. two n (one n x)) a c
holds_both one two None b c h k = subst (λ (o : Option InodeContent). HoldsChanged two o c) h k
holds_both one two (Some (Bytes bytes)) b c h k =
    subst (λ (o : Option InodeContent). HoldsChanged two o c) h k
holds_both one two (Some (Records records)) b c h k =
    let then = subst (λ (o : Option InodeContent). HoldsChanged two o c) h.1 k in
    (then.0, then.1, λ n. then.2 n ∙ ap (two n) (h.2 n))

-- ---- records as lists

-- the list with a record put in
pub found_put : (dir : ℕ) (name : Name) (link : Link) (records : List (Name × Link)) (n : Name)
    → find name_cmp n (put name_cmp name link records)
    ≡ put_record dir name (Some link) dir n (find name_cmp n records)
found_put dir name link records n =
    find-put name_cmp nat_list_cmp_total n name link records ∙ by_name (same_name n name) refl
  where
    by_name : (b : Bool) → same_name n name ≡ b
        → cond b (Some link) (find name_cmp n records)
        ≡ put_record dir name (Some link) dir n (find name_cmp n records)
    by_name true k =
        sym (put_record-there dir name (Some link) dir n (find name_cmp n records) refl
        (same_name-equal n name k))
    by_name false k =
        sym (put_record-name dir name (Some link) dir n (find name_cmp n records)
        (λ e. true≢false (sym (same_name-itself name) ∙ ap (λ (m : Name). same_name m name) (sym e) ∙ k)))

-- and with one taken out
pub found_without : (dir : ℕ) (name : Name) (records : List (Name × Link)) (n : Name)
    → find name_cmp n (filter (λ e. not (same_name name e.0)) records)
    ≡ put_record dir name None dir n (find name_cmp n records)
found_without dir name records n =
    find-where_key name_cmp (λ x. not (same_name name x)) n
    (λ x tied. ap (λ (y : Name). not (same_name name y)) (sym (names_equal n x tied))) records
    ∙ by_name (same_name name n) refl
  where
    by_name : (b : Bool) → same_name name n ≡ b
        → cond (not b) (find name_cmp n records) None
        ≡ put_record dir name None dir n (find name_cmp n records)
    by_name true k =
        sym (put_record-there dir name None dir n (find name_cmp n records) refl
        (sym (same_name-equal name n k)))
    by_name false k =
        sym (put_record-name dir name None dir n (find name_cmp n records)
        (λ e. true≢false (sym (same_name-itself name) ∙ ap (λ (m : Name). same_name name m) (sym e) ∙ k)))
