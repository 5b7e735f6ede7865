-- A table of prefixes in which a name is given an IRI.
use Rattle.std.proofs.Common.{◌≡◌, ℕ, suc, false, List, [], ◌∷◌, Option, Some, None, Contains, refl, sym, ap, subst, set}
use Rattle.std.specs.Prelude.{insert, slice_get, unwrap_or}
use Rattle.std.specs.declared.cmp.Ordering.{Ordering}
use Rattle.std.specs.declared.cmp.Ordering.TheVariants.{Less, Equal, Greater}
use Rattle.std.specs.Option.{option_map}
use Rattle.owl_list.specs.Ascending.{by_order}
use Rattle.owl_characters.specs.Iri.{IsIri}
use Rattle.owl_characters.specs.Names.{IsPrefixName}
use Rattle.owl_characters.specs.Order.{text_cmp}
use Rattle.owl_characters.specs.OrderLaws.{same_texts, turned}
use Rattle.owl_atom.specs.declared.prefixes.Prefix.{Prefix}
use Rattle.owl_atom.specs.Places.{IsGapFor, IsPlaceOf}
use Rattle.owl_atom.specs.Prefixes.{AreAscending, IsTable, is_declared, is_fixed, prefix_in}
use Rattle.owl_atom.specs.PrefixLaws.{IsFound, SetsOnly, absent, contained, found, insert_at, set_at, stands}
use Rattle.owl_writing.specs.Tables.{HaveIris, with_prefix}

-- each prefix of a table is what its name is looked up to be
pub looked_up : (prefixes : List Prefix) (prefix : Prefix) → AreAscending prefixes → Contains prefixes prefix → prefix_in prefixes prefix.name ≡ Some prefix
looked_up prefixes prefix up m =
    let at = contained prefixes prefix m in
    (found prefixes prefix.name m.0 prefix (stands prefixes m.0 prefix up at) at).looked_up

-- how a table changes where a name is given an IRI

abbrev new_prefix : List ℕ → List ℕ → Prefix
new_prefix name iri = record { name = name; iri = iri; fixed = false; declared = false }

data IsEdit (name iri : List ℕ) (old new : List Prefix) : Type 0 where
  at_place : (place : ℕ) (prefix : Prefix) → IsPlaceOf old name place → slice_get old place ≡ Some prefix → new ≡ set old place (record prefix { iri = iri }) → IsEdit name iri old new
  at_gap : (place : ℕ) → IsGapFor old name place → new ≡ insert old place (new_prefix name iri) → IsEdit name iri old new

edit_behind : (name iri : List ℕ) (p : Prefix) (old new : List Prefix) → text_cmp p.name name ≡ Less → IsEdit name iri old new → IsEdit name iri (p ∷ old) (p ∷ new)
edit_behind name iri p old new less (at_place place prefix here stands e) = at_place (suc place) prefix (less, here) stands (ap (λ (x : List Prefix). p ∷ x) e)
edit_behind name iri p old new less (at_gap place here e) = at_gap (suc place) (less, here) (ap (λ (x : List Prefix). p ∷ x) e)

edit_by : (name iri : List ℕ) (p : Prefix) (old : List Prefix) (o : Ordering) → text_cmp name p.name ≡ o → IsEdit name iri old (with_prefix name iri old)
    → IsEdit name iri (p ∷ old) (by_order o (new_prefix name iri ∷ p ∷ old) (record p { iri = iri } ∷ old) (p ∷ with_prefix name iri old))
edit_by name iri p old Less e rest = at_gap 0 e refl
edit_by name iri p old Equal e rest = at_place 0 p (sym (same_texts name p.name e)) refl refl
edit_by name iri p old Greater e rest = edit_behind name iri p old (with_prefix name iri old) (turned name p.name e) rest

is_edit : (name iri : List ℕ) (old : List Prefix) → IsEdit name iri old (with_prefix name iri old)
is_edit name iri [] = at_gap 0 tt refl
is_edit name iri (p ∷ old) = edit_by name iri p old (text_cmp name p.name) refl (is_edit name iri old)

-- the prefix that the name then has
abbrev pub set_prefix : List ℕ → List ℕ → List Prefix → Prefix
set_prefix name iri old = record { name = name; iri = iri; fixed = is_fixed old name; declared = is_declared old name }

same_prefix : (p q : Prefix) → p.name ≡ q.name → p.iri ≡ q.iri → p.fixed ≡ q.fixed → p.declared ≡ q.declared → p ≡ q
same_prefix p q a b c d = λ i. record { name = a i; iri = b i; fixed = c i; declared = d i }

replaced : (name iri : List ℕ) (old : List Prefix) (prefix : Prefix) → IsFound old name prefix → record prefix { iri = iri } ≡ set_prefix name iri old
replaced name iri old prefix h =
    same_prefix (record prefix { iri = iri }) (set_prefix name iri old) h.named refl
    (sym (ap (λ (o : Option Prefix). unwrap_or (option_map (λ (q : Prefix). q.fixed) o) false) h.looked_up))
    (sym (ap (λ (o : Option Prefix). unwrap_or (option_map (λ (q : Prefix). q.declared) o) false) h.looked_up))

added : (name iri : List ℕ) (old : List Prefix) → prefix_in old name ≡ None → new_prefix name iri ≡ set_prefix name iri old
added name iri old e =
    same_prefix (new_prefix name iri) (set_prefix name iri old) refl refl
    (sym (ap (λ (o : Option Prefix). unwrap_or (option_map (λ (q : Prefix). q.fixed) o) false) e))
    (sym (ap (λ (o : Option Prefix). unwrap_or (option_map (λ (q : Prefix). q.declared) o) false) e))

edit_sets : (name iri : List ℕ) (old new : List Prefix) → AreAscending old → IsEdit name iri old new → SetsOnly old new name (set_prefix name iri old)
edit_sets name iri old new up (at_place place prefix here stands e) =
    let found_here = found old name place prefix here stands in
    subst (λ (q : Prefix). SetsOnly old new name q) (replaced name iri old prefix found_here)
    (subst (λ (x : List Prefix). SetsOnly old x name (record prefix { iri = iri })) (sym e) (set_at old name place (record prefix { iri = iri }) up here found_here.named))
edit_sets name iri old new up (at_gap place here e) =
    subst (λ (q : Prefix). SetsOnly old new name q) (added name iri old (absent old name place up here))
    (subst (λ (x : List Prefix). SetsOnly old x name (new_prefix name iri)) (sym e) (insert_at old name place (new_prefix name iri) up here refl))

pub with_prefix_sets : (name iri : List ℕ) (old : List Prefix) → AreAscending old → SetsOnly old (with_prefix name iri old) name (set_prefix name iri old)
with_prefix_sets name iri old up = edit_sets name iri old (with_prefix name iri old) up (is_edit name iri old)

pub with_prefix_table : (name iri : List ℕ) (old : List Prefix) → IsPrefixName name → IsTable old → IsTable (with_prefix name iri old)
with_prefix_table name iri old named h =
    let sets = with_prefix_sets name iri old h.ascending in
    record { ascending = sets.ascending; names = sets.names h.names named }

-- all IRIs stay IRIs
iris_by : (name iri : List ℕ) (p : Prefix) (old : List Prefix) (o : Ordering) → IsIri iri → HaveIris (p ∷ old) → HaveIris (with_prefix name iri old)
    → HaveIris (by_order o (new_prefix name iri ∷ p ∷ old) (record p { iri = iri } ∷ old) (p ∷ with_prefix name iri old))
iris_by name iri p old Less i h rest = (i, h)
iris_by name iri p old Equal i h rest = (i, h.1)
iris_by name iri p old Greater i h rest = (h.0, rest)

pub with_prefix_iris : (name iri : List ℕ) (old : List Prefix) → IsIri iri → HaveIris old → HaveIris (with_prefix name iri old)
with_prefix_iris name iri [] i h = (i, tt)
with_prefix_iris name iri (p ∷ old) i h = iris_by name iri p old (text_cmp name p.name) i h (with_prefix_iris name iri old i h.1)
