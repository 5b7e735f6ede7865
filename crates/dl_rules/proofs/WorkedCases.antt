-- What the definitions say of some axioms, worked out by hand.
use lib.Utf8.{encode}
use Rattle.std.specs.Prelude.{◌≡◌, ℕ, List, [], ◌∷◌, None, Some, codes}
use Rattle.std.proofs.Common.{refl}
use Rattle.owl_tree.specs.declared.atom.Atom.TheVariants as atom
use Rattle.owl_tree.specs.declared.tag.Tag.{Tag}
use Rattle.owl_tree.specs.declared.tag.Tag.TheVariants as tag
use Rattle.owl_tree.specs.Trees.{Tree, leaf, node, kids_of}
use Rattle.dl_rules.specs.Assertions.{link_of, link_over}
use Rattle.dl_rules.specs.Definitions.{definition_of, definition_over, datatype_over, used_by}
use Rattle.dl_rules.specs.Hierarchy.{below_of, needed}
use Rattle.dl_rules.specs.Properties.{Chain, Property, asked_simple, asks_simple, chain_of, chain_over, composites_of, inverse, named, named_over, property_eq, property_over, steps_of, steps_over, top_property, transitive_over}

abbrev over : Tag → List Tree → Tree
over t kids = node t (kids_of kids)

abbrev axiom_with : Tag → List Tree → Tree
axiom_with t kids = over t (over tag.Notes [] ∷ kids)

abbrev property : List ℕ → Tree
property iri = leaf tag.ObjectProperty (atom.Iri iri)

abbrev P : Tree
P = property (codes "e:p")

abbrev Q : Tree
Q = property (codes "e:q")

abbrev R : Tree
R = property (codes "e:r")

abbrev inverse_of : Tree → Tree
inverse_of t = over tag.ObjectInverseOf (t ∷ [])

abbrev datatype : List ℕ → Tree
datatype iri = leaf tag.Datatype (atom.Iri iri)

abbrev someone : List ℕ → Tree
someone label = leaf tag.Anonymous (atom.Label label)

abbrev p : Property
p = named (codes "e:p")

abbrev q : Property
q = named (codes "e:q")

abbrev r : Property
r = named (codes "e:r")

abbrev chain : List Property → Property → Chain Property
chain parts implied = record { parts = parts; implied = implied }

abbrev below_it : List Property → Property → List Property
below_it parts implied = needed property_eq top_property (chain parts implied)

-- whatever implies the top property needs nothing
of_the_top : below_it (p ∷ q ∷ []) top_property ≡ []
unfolding encode top_property
of_the_top = refl

-- nor does a chain that says that a property is transitive
transitive_chain : below_it (p ∷ p ∷ []) p ≡ []
unfolding encode top_property
transitive_chain = refl

-- a chain that begins with what it implies
begins_so : below_it (p ∷ q ∷ r ∷ []) p ≡ q ∷ r ∷ []
unfolding encode top_property
begins_so = refl

-- one that ends with it
ends_so : below_it (q ∷ r ∷ p ∷ []) p ≡ q ∷ r ∷ []
unfolding encode top_property
ends_so = refl

-- one without it
without_it : below_it (q ∷ r ∷ []) p ≡ q ∷ r ∷ []
unfolding encode top_property
without_it = refl

-- one that begins and ends with it suits no order
both_ends : below_it (p ∷ q ∷ p ∷ []) p ≡ q ∷ p ∷ []
unfolding encode top_property
both_ends = refl

-- the inverse of what a chain implies is another property
inverse_first : below_it (inverse p ∷ q ∷ []) p ≡ inverse p ∷ q ∷ []
unfolding encode top_property
inverse_first = refl

-- with each property that is needed, its inverse
puts_below : below_of (chain (q ∷ p ∷ []) p) ≡ (q, p) ∷ (inverse q, p) ∷ []
unfolding encode top_property
puts_below = refl

-- InverseObjectProperties(<e:p> <e:q>)
inverses : steps_of (axiom_with tag.InverseObjectProperties (P ∷ Q ∷ [])) ≡
    (p, inverse q) ∷ (inverse q, p) ∷ (inverse p, q) ∷ (q, inverse p) ∷ []
unfolding steps_over property_over named_over
inverses = refl

-- InverseObjectProperties(<e:p>), as of a property that is its own inverse
own_inverse : steps_of (axiom_with tag.InverseObjectProperties (P ∷ [])) ≡
    (p, inverse p) ∷ (inverse p, p) ∷ (inverse p, p) ∷ (p, inverse p) ∷ []
unfolding steps_over property_over named_over
own_inverse = refl

-- EquivalentObjectProperties(<e:p> <e:q> ObjectInverseOf(<e:r>))
equivalents : steps_of (axiom_with tag.EquivalentObjectProperties (P ∷ Q ∷ inverse_of R ∷ [])) ≡
    (p, q) ∷ (q, p) ∷ (q, inverse r) ∷ (inverse r, q) ∷
    (inverse p, inverse q) ∷ (inverse q, inverse p) ∷ (inverse q, r) ∷ (r, inverse q) ∷ []
unfolding steps_over property_over named_over
equivalents = refl

-- SymmetricObjectProperty(<e:p>)
symmetric : steps_of (axiom_with tag.SymmetricObjectProperty (P ∷ [])) ≡ (p, inverse p) ∷ (inverse p, p) ∷ []
unfolding steps_over property_over named_over
symmetric = refl

-- SubObjectPropertyOf(<e:p> <e:q>)
sub_property : steps_of (axiom_with tag.SubObjectPropertyOf (P ∷ Q ∷ [])) ≡ (p, q) ∷ (inverse p, inverse q) ∷ []
unfolding steps_over property_over named_over
sub_property = refl

-- SubObjectPropertyOf(ObjectPropertyChain(<e:p> ObjectInverseOf(<e:q>)) <e:r>)
abbrev of_a_chain : Tree
of_a_chain = axiom_with tag.SubObjectPropertyOf (over tag.ObjectPropertyChain (P ∷ inverse_of Q ∷ []) ∷ R ∷ [])

its_chain : chain_of of_a_chain ≡ Some (chain (p ∷ inverse q ∷ []) r)
unfolding chain_over property_over named_over
its_chain = refl

chain_composes : composites_of of_a_chain ≡ r ∷ inverse r ∷ []
unfolding chain_over property_over named_over transitive_over
chain_composes = refl

-- it leads from nothing
chain_leads : steps_of of_a_chain ≡ []
unfolding steps_over property_over named_over
chain_leads = refl

-- TransitiveObjectProperty(ObjectInverseOf(<e:p>))
transitive_composes : composites_of (axiom_with tag.TransitiveObjectProperty (inverse_of P ∷ [])) ≡ inverse p ∷ p ∷ []
unfolding chain_over property_over named_over transitive_over
transitive_composes = refl

-- DataUnionOf(<e:E> DataComplementOf(<e:F>))
abbrev range : Tree
range = over tag.DataUnionOf (datatype (codes "e:E") ∷ over tag.DataComplementOf (datatype (codes "e:F") ∷ []) ∷ [])

-- DatatypeDefinition(<e:D> DataUnionOf(<e:E> DataComplementOf(<e:F>)))
defined : definition_of (axiom_with tag.DatatypeDefinition (datatype (codes "e:D") ∷ range ∷ [])) ≡
    Some (record { datatype = codes "e:D"; range = range })
unfolding definition_over
defined = refl

uses_both : used_by (record { datatype = codes "e:D"; range = range }) ≡ codes "e:E" ∷ codes "e:F" ∷ []
unfolding datatype_over
uses_both = refl

-- ObjectPropertyAssertion(ObjectInverseOf(<e:p>) _:a _:b)
linked : link_of (axiom_with tag.ObjectPropertyAssertion (inverse_of P ∷ someone (codes "a") ∷ someone (codes "b") ∷ [])) ≡
    Some (record { property = inverse p; subject = codes "a"; object = codes "b" })
unfolding link_over property_over named_over
linked = refl

abbrev b : Tree
b = leaf tag.NamedIndividual (atom.Iri (codes "e:b"))

-- ObjectPropertyAssertion(<e:p> _:a <e:b>) links no anonymous individuals
named_end : link_of (axiom_with tag.ObjectPropertyAssertion (P ∷ someone (codes "a") ∷ b ∷ [])) ≡ None
unfolding link_over property_over named_over
named_end = refl

abbrev C : Tree
C = leaf tag.Class (atom.Iri (codes "e:C"))

-- ObjectMinCardinality(1 ObjectInverseOf(<e:p>) <e:C>)
counted : asked_simple (over tag.ObjectMinCardinality (leaf tag.Number (atom.Number 1) ∷ inverse_of P ∷ C ∷ [])) ≡ inverse p ∷ []
unfolding asks_simple property_over named_over
counted = refl

-- ObjectSomeValuesFrom(<e:p> <e:C>) asks for nothing
not_counted : asked_simple (over tag.ObjectSomeValuesFrom (P ∷ C ∷ [])) ≡ []
unfolding asks_simple property_over named_over
not_counted = refl
