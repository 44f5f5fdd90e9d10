-- What is asked of a host, one after another.
use Rattle.std.proofs.Common.{◌≡◌, ◌+◌, true, List, [], ◌∷◌, ◌++◌, refl, sym, ap, subst, ◌∙◌, append_assoc, append-nil, Option, None, Some}
use Rattle.std.specs.List.{AllByRecursion, list_all}
use Rattle.nl_types.specs.Plain.Paths.{Path}
use Rattle.nl_manifests.specs.declared.attributes.Attributes.{Attributes}
use Rattle.nl_manifests.specs.HostTrees.{HostTree}
use Rattle.nl_host.specs.HostPaths.{is_host_name}
use Rattle.nl_host.specs.Puts.{Asked, Asks, Given, HasAttributes, Made, Put, all_made, asked_also, given_if}

pub asked_also-none : (old : Option (List Put)) → asked_also old [] ≡ old
asked_also-none None = refl
asked_also-none (Some before) = ap Some (append-nil before)

pub asked_also-append : (old : Option (List Put)) (first second : List Put)
    → asked_also (asked_also old first) second ≡ asked_also old (first ++ second)
asked_also-append None first second = refl
asked_also-append (Some before) first second = ap Some (append_assoc before first second)

pub all_made-append : (first second : List Put) → all_made (first ++ second) ≡ all_made first ++ all_made second
all_made-append [] second = refl
all_made-append (Made path entry ∷ first) second =
    ap (λ (made : HostTree). (path, entry) ∷ made) (all_made-append first second)
all_made-append (Given path attributes ∷ first) second = all_made-append first second

each_append : (tree : HostTree) (first second : List Put) → AllByRecursion (Asks tree) first
    → AllByRecursion (Asks tree) second → AllByRecursion (Asks tree) (first ++ second)
each_append tree [] second a b = b
each_append tree (put ∷ first) second a b = (a.0, each_append tree first second a.1 b)

pub Asked-none : (tree : HostTree) (old new : Option (List Put)) → new ≡ old → Asked tree [] old new
Asked-none tree old new same = record {
  puts = [];
  behind = same ∙ sym (asked_also-none old);
  each = tt;
  made_are = refl;
}

pub Asked-more : (tree a b : HostTree) (old mid new : Option (List Put)) → Asked tree a old mid → Asked tree b mid new
    → Asked tree (a ++ b) old new
Asked-more tree a b old mid new first second = record {
  puts = first.puts ++ second.puts;
  behind =
      second.behind ∙ ap (λ (o : Option (List Put)). asked_also o second.puts) first.behind
      ∙ asked_also-append old first.puts second.puts;
  each = each_append tree first.puts second.puts first.each second.each;
  made_are =
      all_made-append first.puts second.puts ∙ ap (λ (m : HostTree). m ++ all_made second.puts) first.made_are
      ∙ ap (λ (m : HostTree). a ++ m) second.made_are;
}

-- what is asked next makes nothing
pub Asked-on : (tree a : HostTree) (old mid new : Option (List Put)) → Asked tree a old mid → Asked tree [] mid new
    → Asked tree a old new
Asked-on tree a old mid new first second =
    let both = Asked-more tree a [] old mid new first second in record {
      puts = both.puts;
      behind = both.behind;
      each = both.each;
      made_are = both.made_are ∙ append-nil a;
    }

-- the same where the tree is still that one
pub Asked-next : (tree tree' a : HostTree) (old mid new : Option (List Put)) → tree' ≡ tree → Asked tree a old mid
    → Asked tree' [] mid new → Asked tree a old new
Asked-next tree tree' a old mid new same first second =
    Asked-on tree a old mid new first (subst (λ (t : HostTree). Asked t [] mid new) same second)

pub Asked-one : (tree : HostTree) (put : Put) (old new : Option (List Put)) → new ≡ asked_also old (put ∷ [])
    → Asks tree put → Asked tree (all_made (put ∷ [])) old new
Asked-one tree put old new behind asks = record {
  puts = put ∷ [];
  behind = behind;
  each = (asks, tt);
  made_are = refl;
}

-- attributes that are due
pub Asked-given : (tree : HostTree) (path : Path) (attributes : Option Attributes) (old new : Option (List Put))
    → new ≡ asked_also old (given_if path attributes)
    → ((a : Attributes) → attributes ≡ Some a → HasAttributes tree path a)
    → list_all is_host_name path ≡ true → Asked tree [] old new
Asked-given tree path None old new behind due named = Asked-none tree old new (behind ∙ asked_also-none old)
Asked-given tree path (Some a) old new behind due named =
    Asked-one tree (Given path a) old new behind (due a refl, named)
