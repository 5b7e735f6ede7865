-- A table in which names were given IRIs by calls.
use Rattle.std.proofs.Common.{◌≡◌, ◌≢◌, inl, inr, ℕ, ◌+◌, ◌<◌, List, [], ◌∷◌, ◌++◌, Some, length, take, get_or, refl, sym, ap, ◌∙◌}
use Rattle.std.proofs.lemmas.Bool.{both_ways, cases_Bool}
use Rattle.std.proofs.lemmas.Slice.Eq.{bytes_eq-Decides}
use Rattle.owl_characters.specs.Order.{text_eq}
use Rattle.owl_characters.specs.OrderLaws.{equal}
use Rattle.owl_atom.specs.declared.prefixes.Prefix.{Prefix}
use Rattle.owl_atom.specs.PrefixLaws.{tables_are_told_by_names}
use Rattle.owl_atom.specs.Prefixes.{IsTable, prefix_in}
use Rattle.owl_writing.proofs.DraftLaws.{taken_one}
use Rattle.owl_writing.proofs.TableLaws.{set_prefix, with_prefix_sets}
use Rattle.owl_writing.specs.Tables.{with_prefix}

-- where a name is given an IRI and all other look-ups stay, the table is that with the prefix
pub record IsSet (name iri : List ℕ) (old new : List Prefix) : Type 0 where
  pub table : IsTable new
  pub here : prefix_in new name ≡ Some (set_prefix name iri old)
  pub others : (other : List ℕ) → other ≢ name → prefix_in new other ≡ prefix_in old other

pub set_is_with_prefix : (name iri : List ℕ) (old new : List Prefix) → IsTable old → IsSet name iri old new → new ≡ with_prefix name iri old
set_is_with_prefix name iri old new is_old h =
    let sets = with_prefix_sets name iri old is_old.ascending in
    tables_are_told_by_names new (with_prefix name iri old) h.table.ascending sets.ascending (λ other. elim (cases_Bool (text_eq other name)) as (λ _. prefix_in new other ≡ prefix_in (with_prefix name iri old) other) [
      | inl t ↦
          let same : other ≡ name = (bytes_eq-Decides other name).0 t in
          ap (prefix_in new) same ∙ h.here ∙ sym sets.here ∙ ap (prefix_in (with_prefix name iri old)) (sym same)
      | inr f ↦
          let differs : other ≢ name = λ same. both_ways (text_eq other name) f (equal other name same) in
          h.others other differs ∙ sym (sets.others other differs)
    ])

-- the table with the IRIs of these prefixes
abbrev pub with_prefixes : List Prefix → List Prefix → List Prefix
with_prefixes [] table = table
with_prefixes (prefix ∷ others) table = with_prefixes others (with_prefix prefix.name prefix.iri table)

with_one : (prefixes table : List Prefix) (prefix : Prefix) → with_prefixes (prefixes ++ prefix ∷ []) table ≡ with_prefix prefix.name prefix.iri (with_prefixes prefixes table)
with_one [] table prefix = refl
with_one (first ∷ others) table prefix = with_one others (with_prefix first.name first.iri table) prefix

pub one_set : (prefixes table written : List Prefix) (i : ℕ) (prefix : Prefix) (after : List Prefix) → written ≡ with_prefixes (take i prefixes) table → i < length prefixes → prefix ≡ get_or prefixes i prefix → after ≡ with_prefix prefix.name prefix.iri written → after ≡ with_prefixes (take (i + 1) prefixes) table
one_set prefixes table written i prefix after e h is f =
    f
    ∙ ap (with_prefix prefix.name prefix.iri) e
    ∙ sym (with_one (take i prefixes) table prefix)
    ∙ ap (λ (ps : List Prefix). with_prefixes ps table) (sym (taken_one prefixes i prefix h is))
