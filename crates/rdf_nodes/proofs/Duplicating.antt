-- Nodes that have the same triples, and their numbers.
use Rattle.std.specs.Prelude.{◌≡◌, ℕ, List, Option, Some, map, slice_get}
use Rattle.std.proofs.Common.{ap, sym, ◌∙◌, subst}
use Rattle.std.proofs.lemmas.Option.{same_Some}
use Rattle.owl_kind.specs.Kinds.{Entity}
use Rattle.owl_tree.specs.Trees.{Tree}
use Rattle.rdf_graph.specs.declared.term.Term.TheVariants.{Blank}
use Rattle.rdf_graph.specs.declared.triple.Triple.{Triple}
use Rattle.rdf_meaning.specs.Nodes.{of_subject}
use Rattle.rdf_roles.specs.Tables.{RoleTable}
use Rattle.rdf_nodes.proofs.DuplicateLaws.{denotes_too}
use Rattle.rdf_nodes.specs.Duplicates.{HaveSameArcs, IsNumberOfDuplicate, arc_of}
use Rattle.rdf_nodes.specs.Numbers.{AreNumbered, IsDenotedAs}
use Rattle.rdf_meaning.specs.Denotation.{DenotesOwn}
use Rattle.rdf_nodes.specs.Operands.{labels}

pub same_arcs : (g : List Triple) (l m a b : List ℕ) (ts us : List Triple) → a ≡ l → b ≡ m → ts ≡ of_subject g (Blank a) → us ≡ of_subject g (Blank b)
    → map arc_of ts ≡ map arc_of us → HaveSameArcs g (Blank l) (Blank m)
same_arcs g l m a b ts us e f h i same =
    sym (ap (map arc_of) (h ∙ ap (λ n. of_subject g (Blank n)) e)) ∙ same ∙ ap (map arc_of) (i ∙ ap (λ n. of_subject g (Blank n)) f)

module _ (g : List Triple) (k : List Entity) (roles : RoleTable) {N : Type 0} where
  -- the number of a node with the same triples stands for what the node denotes
  pub number_of_other : (Stands : Tree → N → Type 0) (ns : List (Option N)) (node : ℕ) (label : List ℕ) (n : N) → AreNumbered g k roles Stands ns
      → slice_get (labels roles) node ≡ Some label → IsNumberOfDuplicate g roles ns node n → IsDenotedAs g k Stands (Blank label) n
  number_of_other Stands ns node label n are at d =
      let i = are d.other n d.at in
      let there = same_Some _ _ (sym i.denoted.at ∙ d.duplicates.first_at) in
      let here = same_Some _ _ (sym d.duplicates.second_at ∙ at) in
      let own : DenotesOwn g k (Blank i.denoted.label) i.tree = record { sort = i.denoted.sort; gives = i.denoted.gives; denotes = i.denoted.denotes } in
      let same = subst (λ l. HaveSameArcs g (Blank l) (Blank label)) (sym there)
      (subst (λ m. HaveSameArcs g (Blank d.duplicates.first_label) (Blank m)) here d.duplicates.same) in
      record { tree = i.tree; own = denotes_too g i.denoted.label label same k i.tree own; held = i.held }
