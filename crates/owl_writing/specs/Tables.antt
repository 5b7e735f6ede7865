-- The table of prefixes that stands in a text that is written (Structural Specification, section 2.4).
use Rattle.std.specs.Prelude.{ℕ, true, false, List, [], ◌∷◌, map, codes}
use Rattle.std.specs.List.{AllByRecursion}
use Rattle.owl_characters.specs.Iri.{IsIri}
use Rattle.owl_characters.specs.Order.{text_cmp}
use Rattle.owl_list.specs.Ascending.{by_order}
use Rattle.owl_atom.specs.declared.prefixes.Prefix.{Prefix}
use Rattle.owl_atom.specs.Prefixes.{fixed_prefixes, is_fixed}
use Rattle.rdf_terms.specs.Vocabulary.{owl, rdf, rdfs, xsd}

-- The table with this IRI for the name: in place of the one that the name has, or where the name belongs by its bytes.
abbrev pub with_prefix : List ℕ → List ℕ → List Prefix → List Prefix
with_prefix name iri [] = record { name = name; iri = iri; fixed = false; declared = false } ∷ []
with_prefix name iri (prefix ∷ others) =
    by_order (text_cmp name prefix.name)
    (record { name = name; iri = iri; fixed = false; declared = false } ∷ prefix ∷ others)
    (record prefix { iri = iri } ∷ others)
    (prefix ∷ with_prefix name iri others)

-- the prefixes that are written: those of a table, where owl, rdf, rdfs and xsd stand for the IRIs that they have beforehand
abbrev pub written_prefixes : List Prefix → List Prefix
written_prefixes prefixes =
    with_prefix (codes "xsd") (xsd []) (with_prefix (codes "rdfs") (rdfs []) (with_prefix (codes "rdf") (rdf []) (with_prefix (codes "owl") (owl []) prefixes)))

-- the same prefixes as they are when they were read: each is declared
abbrev pub as_declared : Prefix → Prefix
as_declared prefix = record { name = prefix.name; iri = prefix.iri; fixed = is_fixed fixed_prefixes prefix.name; declared = true }

abbrev pub declared_prefixes : List Prefix → List Prefix
declared_prefixes prefixes = map as_declared (written_prefixes prefixes)

-- each prefix stands for an IRI
abbrev pub HaveIris : List Prefix → Type 0
HaveIris prefixes = AllByRecursion (λ (prefix : Prefix). IsIri prefix.iri) prefixes
