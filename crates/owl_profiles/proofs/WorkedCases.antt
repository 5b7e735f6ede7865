-- Which rules some axioms break, worked out by hand.
use lib.Utf8.{encode}
use Rattle.std.specs.Prelude.{◌≡◌, ℕ, Bool, true, false, List, [], ◌∷◌, None, codes}
use Rattle.std.proofs.Common.{refl}
use Rattle.owl_kind.specs.Kinds.{is_built_in}
use Rattle.owl_tree.specs.declared.atom.Atom.TheVariants as atom
use Rattle.owl_tree.specs.declared.tag.Tag.{Tag}
use Rattle.owl_tree.specs.declared.tag.Tag.TheVariants as tag
use Rattle.owl_tree.specs.Rows.{admits}
use Rattle.owl_tree.specs.Tags.{number_of}
use Rattle.owl_tree.specs.Trees.{Tree, leaf, node, kids_of}
use Rattle.rdf_terms.specs.Datatypes.{bare_row, binary_row, datatype_map, is_in_map, ordered_row, plain_row, text_facets, text_row}
use Rattle.rdf_terms.specs.Vocabulary.{owl, xsd}
use Rattle.profile_sorts.specs.LeafTests.{name_passes, shared_datatypes}
use Rattle.profile_sorts.specs.Productions.{production_of}
use Rattle.profile_sorts.specs.Sorts.{sorts}
use Rattle.owl_doc.specs.declared.rule.Rule.{Rule}
use Rattle.owl_doc.specs.declared.rule.Rule.TheVariants.{Dl, El, Ql, Rl}
use Rattle.owl_profiles.specs.declared.rules.AxiomRule.{AxiomRule}
use Rattle.owl_profiles.specs.declared.rules.AxiomRule.TheVariants.{Sort, ChainRanges}
use Rattle.owl_profiles.specs.declared.rules.Profile.TheVariants as profile
use Rattle.owl_profiles.specs.Rules.{axiom_rules}

abbrev number : Rule → ℕ
number (Dl n) = n
number (El n) = n
number (Ql n) = n
number (Rl n) = n

-- the numbers of the rules that a tree breaks by itself
abbrev unless : Bool → ℕ → List ℕ → List ℕ
unless true n ns = ns
unless false n ns = n ∷ ns

abbrev broken : List AxiomRule → Tree → List ℕ
broken [] t = []
broken (Sort rule s ∷ rules) t = unless (sorts t s) (number rule) (broken rules t)
broken (ChainRanges ∷ rules) t = broken rules t

-- those of EL, of QL and of RL
abbrev breaks : Tree → List (List ℕ)
breaks t = broken (axiom_rules profile.El) t ∷ broken (axiom_rules profile.Ql) t ∷ broken (axiom_rules profile.Rl) t ∷ []

abbrev over : Tag → List Tree → Tree
over t kids = node t (kids_of kids)

abbrev axiom_with : Tag → List Tree → Tree
axiom_with t kids = over t (over tag.Notes [] ∷ kids)

abbrev named : Tag → List ℕ → Tree
named t iri = leaf t (atom.Iri iri)

abbrev A : Tree
A = named tag.Class (codes "e:A")

abbrev B : Tree
B = named tag.Class (codes "e:B")

abbrev Thing : Tree
Thing = named tag.Class (owl (codes "Thing"))

abbrev P : Tree
P = named tag.ObjectProperty (codes "e:p")

abbrev someone : Tree
someone = leaf tag.Anonymous (atom.Label (codes "x"))

abbrev some_of : Tree → Tree → Tree
some_of p class = over tag.ObjectSomeValuesFrom (p ∷ class ∷ [])

abbrev sub : Tree → Tree → Tree
sub class above = axiom_with tag.SubClassOf (class ∷ above ∷ [])

abbrev literal_of : List ℕ → Tree
literal_of datatype = leaf tag.Literal (atom.Literal (record { lexical = codes "1"; datatype = datatype; tag = None }))

-- axioms, and the rules of EL, of QL and of RL that each of them breaks
abbrev axioms : List Tree
axioms =
    sub A B
    ∷ sub (some_of P B) A ∷ sub (some_of P Thing) A
    ∷ sub A (some_of P B)
    ∷ sub (over tag.ObjectUnionOf (A ∷ B ∷ [])) A
    ∷ sub A (over tag.ObjectMaxCardinality (leaf tag.Number (atom.Number 1) ∷ P ∷ []))
    ∷ sub A (over tag.ObjectMaxCardinality (leaf tag.Number (atom.Number 2) ∷ P ∷ []))
    ∷ sub A (over tag.ObjectComplementOf (B ∷ []))
    ∷ axiom_with tag.ClassAssertion (A ∷ someone ∷ [])
    ∷ axiom_with tag.SubObjectPropertyOf (over tag.ObjectPropertyChain (P ∷ P ∷ []) ∷ P ∷ [])
    ∷ axiom_with tag.ReflexiveObjectProperty (over tag.ObjectInverseOf (P ∷ []) ∷ [])
    ∷ axiom_with tag.DisjointUnion (A ∷ B ∷ [])
    ∷ axiom_with tag.Declaration (named tag.ObjectProperty (owl (codes "topObjectProperty")) ∷ [])
    ∷ axiom_with tag.DataPropertyRange (named tag.DataProperty (codes "e:q") ∷ over tag.DataOneOf (literal_of (xsd (codes "boolean")) ∷ []) ∷ [])
    ∷ axiom_with tag.DataPropertyRange (named tag.DataProperty (codes "e:q") ∷ named tag.Datatype (owl (codes "real")) ∷ [])
    ∷ axiom_with tag.AnnotationAssertion (named tag.AnnotationProperty (codes "e:l") ∷ someone ∷ literal_of (xsd (codes "boolean")) ∷ []) ∷ []

abbrev expected : List (List (List ℕ))
expected =
    ([] ∷ [] ∷ [] ∷ [])
    ∷ ([] ∷ (2 ∷ []) ∷ [] ∷ []) ∷ ([] ∷ [] ∷ [] ∷ [])
    ∷ ([] ∷ [] ∷ (2 ∷ []) ∷ [])
    ∷ ((2 ∷ []) ∷ (2 ∷ []) ∷ [] ∷ [])
    ∷ ((2 ∷ []) ∷ (2 ∷ []) ∷ [] ∷ [])
    ∷ ((2 ∷ []) ∷ (2 ∷ []) ∷ (2 ∷ []) ∷ [])
    ∷ ((2 ∷ []) ∷ [] ∷ [] ∷ [])
    ∷ ((6 ∷ []) ∷ (5 ∷ []) ∷ [] ∷ [])
    ∷ ([] ∷ (1 ∷ []) ∷ [] ∷ [])
    ∷ ((5 ∷ []) ∷ [] ∷ (1 ∷ []) ∷ [])
    ∷ ((1 ∷ []) ∷ (1 ∷ []) ∷ (1 ∷ []) ∷ [])
    ∷ ([] ∷ [] ∷ (5 ∷ []) ∷ [])
    ∷ ((4 ∷ []) ∷ (3 ∷ 4 ∷ []) ∷ (3 ∷ []) ∷ [])
    ∷ ([] ∷ [] ∷ (4 ∷ []) ∷ [])
    ∷ ([] ∷ [] ∷ [] ∷ []) ∷ []

abbrev worked : List Tree → List (List (List ℕ))
worked [] = []
worked (t ∷ ts) = breaks t ∷ worked ts

as_expected : worked axioms ≡ expected
unfolding encode number_of admits production_of name_passes shared_datatypes is_in_map is_built_in datatype_map ordered_row text_row text_facets plain_row binary_row bare_row axiom_rules
as_expected = refl
