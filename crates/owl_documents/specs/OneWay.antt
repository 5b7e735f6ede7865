-- Documents are read in one way, or refused in one way.
use Rattle.std.specs.Prelude.{◌≡◌, List, [], ◌∷◌}
use Rattle.owl_command.specs.Commands.{Source}
use Rattle.owl_tree.specs.Ontologies.{IsSameHead}
use Rattle.owl_documents.specs.Documents.{AreRead, Contents, GraphRead, IsFirstRefused, IsSame, Parsed, an_ontology, a_graph, the_frames}
use Rattle.owl_documents.specs.declared.trouble.Refusal.{Refusal}

-- the same graph, with the same prefixes and the same head, of which the same is guessed
pub record IsSameGraph (a b : GraphRead) : Type 0 where
  pub prefixes : a.prefixes ≡ b.prefixes
  pub triples : a.triples ≡ b.triples
  pub head : IsSameHead a.head b.head
  pub guessed : a.guessed ≡ b.guessed

abbrev pub IsSameParsed : Parsed → Parsed → Type 0
IsSameParsed (an_ontology v a) (an_ontology w b) = (v ≡ w) × IsSame a b
IsSameParsed (a_graph a) (a_graph b) = IsSameGraph a b
IsSameParsed (the_frames d) (the_frames e) = d ≡ e
IsSameParsed a b = ⊥

-- one by one the same
abbrev pub AreSame : List Parsed → List Parsed → Type 0
AreSame [] [] = Unit {0}
AreSame (a ∷ xs) (b ∷ ys) = IsSameParsed a b × AreSame xs ys
AreSame xs ys = ⊥

abbrev pub ReadOneWay : Type 0
ReadOneWay =
    (contents : Contents) (sources : List Source) (documents others : List Parsed) → AreRead contents sources documents → AreRead contents sources others → AreSame documents others

abbrev pub RefusedOneWay : Type 0
RefusedOneWay =
    (contents : Contents) (sources : List Source) (source other : Source) (refusal another : Refusal) → IsFirstRefused contents sources source refusal → IsFirstRefused contents sources other another → (source ≡ other) × (refusal ≡ another)

abbrev pub NeverBoth : Type 0
NeverBoth =
    (contents : Contents) (sources : List Source) (documents : List Parsed) (source : Source) (refusal : Refusal) → AreRead contents sources documents → IsFirstRefused contents sources source refusal → ⊥
