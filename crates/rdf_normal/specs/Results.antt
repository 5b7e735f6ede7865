-- What the steps make.
use Rattle.std.specs.Prelude.{◌≡◌, List}
use Rattle.owl_tree.specs.Ontologies.{Ontology}
use Rattle.owl_tree.specs.Trees.{Tree}
use Rattle.rdf_normal.specs.declared.settling.Settled.{Settled}
use Rattle.rdf_normal.specs.declared.settling.Unsettled.{Unsettled}
use Rattle.rdf_normal.specs.Makings.{AreMade}
use Rattle.rdf_normal.specs.NormalForms.{absorbed_count, normal_form, unsettled_annotations, unsettled_axioms}

-- what stands behind the third step
pub record IsUnsettled (old new : List Tree) (o : Ontology) (u : Unsettled) : Type 0 where
  pub notes : AreMade old new u.notes.items (unsettled_annotations o)
  pub axioms : AreMade old new u.axioms.items (unsettled_axioms o)

-- what stands behind the fourth step
pub record IsSettled (old new : List Tree) (o : Ontology) (s : Settled) : Type 0 where
  pub notes : AreMade old new s.notes.items (normal_form o).annotations
  pub axioms : AreMade old new s.axioms.items (normal_form o).axioms
  pub absorbed : s.absorbed ≡ absorbed_count o
