-- Nodes that are sound as parts of axioms, with all that is below them.
use Rattle.std.specs.Prelude.{◌≡◌, ◌⊎◌, true, false, List, [], ◌∷◌, Contains}
use Rattle.rdf_graph.specs.declared.term.Term.{Term}
use Rattle.rdf_graph.specs.declared.triple.Triple.{Triple}
use Rattle.rdf_meaning.specs.declared.role.Role.TheVariants as role
use Rattle.rdf_meaning.specs.declared.row.Part.{Part}
use Rattle.rdf_meaning.specs.Nodes.{is_structural, role_of}
use Rattle.rdf_meaning.specs.Denotation.{Bearer, select}
use Rattle.rdf_meaning.specs.RowTests.{is_mark}
use Rattle.rdf_meaning.specs.Statements.{IsPartOfAxiom, IsSoundAs}

-- the node is a part of an axiom, and sound as what it is
pub record IsSoundPart (g : List Triple) (x : Term) : Type 0 where
  pub part : IsPartOfAxiom (role_of g x)
  pub sound : IsSoundAs g (role_of g x) x

-- The term is no node but for an individual, or such a node, and so is each term to which its structural triples lead, and so on down.
pub data IsSoundBelow (g : List Triple) : Term → Type 0 where
  sound_below : (x : Term) → (role_of g x ≡ role.Individual) ⊎ IsSoundPart g x →
      ((t : Triple) → Contains g t → t.subject ≡ x → is_structural g t ≡ true → IsSoundBelow g t.object) → IsSoundBelow g x

-- and so is each term to which structural triples of this one lead
abbrev pub LeadsToSound : List Triple → Term → Type 0
LeadsToSound g x = (t : Triple) → Contains g t → t.subject ≡ x → is_structural g t ≡ true → IsSoundBelow g t.object

-- what stands at the part is sound, if a tree is wanted there
pub record IsStanding (g : List Triple) (b : Bearer) (p : Part) : Type 0 where
  pub z : Term
  pub one : select g b p.place ≡ z ∷ []
  pub below : is_mark p.want ≡ false → IsSoundBelow g z

-- so are the ends of the triple
pub record HasSoundEnds (g : List Triple) (t : Triple) : Type 0 where
  pub subject : IsSoundBelow g t.subject
  pub object : IsSoundBelow g t.object
