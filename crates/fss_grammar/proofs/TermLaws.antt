-- What stands in front of an import, and of an ontology.
use Rattle.std.proofs.Common.{◌≡◌, ℕ, List, ◌∷◌, ◌++◌, Some, codes, flat_map, refl, ap}
use Rattle.owl_atom.specs.declared.prefixes.Prefix.{Prefix}
use Rattle.owl_tokens.specs.declared.token.Token.{Token}
use Rattle.owl_tokens.specs.declared.token.Token.TheVariants as token
use Rattle.owl_tokens.specs.declared.token.Sign.TheVariants as sign
use Rattle.owl_tree.specs.Ontologies.{Ontology}
use Rattle.fss_terms.specs.Functional.{body_terms, import_terms, name_terms, ontology_terms}
use Rattle.fss_terms.specs.Terms.{AreTerms, iri_of_token}
use Rattle.fss_terms.specs.declared.term.Term.{Term}

pub import_spelled : (p : List Prefix) (i : List ℕ) (x y z c : Token) (xs : List Token) (is : List (List ℕ)) (more : List Term) → x ≡ token.Word (codes "Import") → y ≡ token.Sign sign.Open → iri_of_token p z ≡ Some i → c ≡ token.Sign sign.Close → AreTerms p xs (flat_map import_terms is ++ more) → AreTerms p (x ∷ y ∷ z ∷ c ∷ xs) (flat_map import_terms (i ∷ is) ++ more)
import_spelled p i x y z c xs is more e f stands g h =
    (y ∷ z ∷ c ∷ xs, ap (λ t. t ∷ y ∷ z ∷ c ∷ xs) e, (z ∷ c ∷ xs, ap (λ t. t ∷ z ∷ c ∷ xs) f, (c ∷ xs, (z, refl, stands), (xs, ap (λ t. t ∷ xs) g, h))))

pub ontology_spelled : (p : List Prefix) (o : Ontology) (x y : Token) (xs : List Token) → x ≡ token.Word (codes "Ontology") → y ≡ token.Sign sign.Open → AreTerms p xs (name_terms o.head.name ++ body_terms o) → AreTerms p (x ∷ y ∷ xs) (ontology_terms o)
ontology_spelled p o x y xs e f h = (y ∷ xs, ap (λ t. t ∷ y ∷ xs) e, (xs, ap (λ t. t ∷ xs) f, h))
