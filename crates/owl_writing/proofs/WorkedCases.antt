-- What the definitions say of some terms and tables, worked out by hand.
use lib.Utf8.{encode}
use Rattle.std.specs.Prelude.{◌≡◌, ℕ, false, List, [], ◌∷◌, None, Some, codes}
use Rattle.std.proofs.Common.{refl}
use Rattle.owl_atom.specs.declared.prefixes.Prefix.{Prefix}
use Rattle.rdf_terms.specs.Literals.{plain_literal, string}
use Rattle.rdf_terms.specs.Vocabulary.{owl, rdf, rdfs, xsd}
use Rattle.owl_writing.specs.Tables.{written_prefixes}
use Rattle.owl_writing.specs.Terms.{iri_text, literal_end}

abbrev prefix : List ℕ → List ℕ → Prefix
prefix name iri = record { name = name; iri = iri; fixed = false; declared = false }

-- a table of which one name stood for another IRI
table_with_its_own_rdf : written_prefixes (prefix (codes "a") (codes "e:") ∷ prefix (codes "rdf") (codes "e:rdf") ∷ prefix (codes "z") (codes "e:z#") ∷ [])
    ≡ prefix (codes "a") (codes "e:") ∷ prefix (codes "owl") (owl []) ∷ prefix (codes "rdf") (rdf []) ∷ prefix (codes "rdfs") (rdfs []) ∷ prefix (codes "xsd") (xsd []) ∷ prefix (codes "z") (codes "e:z#") ∷ []
unfolding encode
table_with_its_own_rdf = refl

abbrev some_prefixes : List Prefix
some_prefixes = prefix (codes "a") (codes "e:") ∷ prefix (codes "b") (codes "e:z#") ∷ prefix (codes "c") (codes "e:z#") ∷ []

-- by the longest IRI, by the first of two that are as long, and where no plain local part is left in full
shortened : iri_text some_prefixes (codes "e:x") ≡ codes "a:x"
shortened = refl

longest : iri_text some_prefixes (codes "e:z#x-1") ≡ codes "b:x-1"
longest = refl

begins_with_a_digit : iri_text some_prefixes (codes "e:9") ≡ codes "<e:9>"
begins_with_a_digit = refl

nothing_left : iri_text some_prefixes (codes "e:z#") ≡ codes "<e:z#>"
nothing_left = refl

-- what stands behind the string of a literal
behind_a_string : literal_end some_prefixes string None ≡ []
behind_a_string = refl

behind_a_typed_one : literal_end some_prefixes (codes "e:t") None ≡ codes "^^a:t"
behind_a_typed_one = refl

behind_a_tagged_one : literal_end some_prefixes plain_literal (Some (codes "en")) ≡ codes "@en"
behind_a_tagged_one = refl
