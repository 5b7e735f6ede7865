-- How many triples the nodes of what is drawn have (Mapping to RDF Graphs, section 2.1).
use Rattle.std.specs.Prelude.{◌≤◌, ◌<◌, ◌+◌, ℕ, suc, Bool, List, [], ◌∷◌, Option, None, Some}
use Rattle.std.specs.List.{list_any, sum_by}
use Rattle.owl_tree.specs.declared.tag.Tag.{Tag}
use Rattle.owl_tree.specs.declared.tag.Tag.TheVariants as tag
use Rattle.owl_tree.specs.Rows.{is_tag}
use Rattle.rdf_mapping.specs.Forms.{Form, plain, made, twice, Arcs, no_arcs, arc}
use Rattle.rdf_mapping.specs.Drawing.{Kid, Statement, linked, linked_back, looped, standing, unsaid}
use Rattle.rdf_mapping.specs.Graphs.{Group}

abbrev mutual
  pub drawn : Form → ℕ
  drawn (plain t) = 0
  drawn (made arcs) = arcs_drawn arcs
  drawn (twice f) = 4 + drawn f

  pub arcs_drawn : Arcs → ℕ
  arcs_drawn no_arcs = 0
  arcs_drawn (arc p f more) = suc (drawn f + arcs_drawn more)

-- of an axiom: those of its ends, or of its own node, whatever its annotations are
abbrev pub statement_drawn : Statement → ℕ
statement_drawn (linked f p g) = drawn f + drawn g
statement_drawn (linked_back f p g) = drawn f + drawn g
statement_drawn (looped p f) = drawn f
statement_drawn (standing arcs) = arcs_drawn arcs
statement_drawn unsaid = 0

abbrev pub groups_drawn : List Group → ℕ
groups_drawn gs = sum_by (λ g. statement_drawn g.statement) gs

-- what kids are drawn of
abbrev pub kids_drawn : List Kid → ℕ
kids_drawn ks = sum_by (λ k. drawn k.form) ks

-- axioms of properties and individuals alone, and those with keys
unfoldable pub is_left_out : Tag → Bool
is_left_out t =
    list_any (λ u. is_tag u t) (tag.HasKey ∷ tag.SubObjectPropertyOf ∷ tag.ObjectPropertyAssertion ∷ tag.DataPropertyAssertion ∷ tag.AnnotationAssertion ∷ [])

-- At most so many are taken of what is left; none is left where there are not so many.
abbrev pub Takes : ℕ → Option ℕ → ℕ → Type 0
Takes left None n = left < n
Takes left (Some more) n = left ≤ more + n
