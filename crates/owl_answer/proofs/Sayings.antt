-- The graph that a translation to Turtle writes says the normal form, and declares what it does.
use Rattle.std.proofs.Common.{◌≡◌, ◌≤◌, ◌++◌, ℕ, Option, List, [], ◌∷◌, Contains, ap, map, refl, sym, subst}
use Rattle.std.specs.List.{AllByRecursion}
use Rattle.owl_arena.specs.Shared.{heaviest}
use Rattle.owl_doc.specs.Entities.{AreWellTyped, declarations, declared_in, entities, entities_of}
use Rattle.owl_kind.specs.Kinds.{Entity}
use Rattle.owl_tree.specs.Ontologies.{IsOntology, Ontology, canonical_list, canonical_ontology, ontology_weight}
use Rattle.owl_tree.proofs.OntologyLaws.{equivalent_lists}
use Rattle.owl_tree.specs.Trees.{Tree, kids_of}
use Rattle.owl_documents.specs.Documents.{Said}
use Rattle.rdf_graph.specs.declared.triple.Triple.{Triple}
use Rattle.rdf_mapping.specs.Graphs.{graph_of}
use Rattle.rdf_meaning.specs.Statements.{Says}
use Rattle.rdf_normal.proofs.DeclaredLaws.{DeclaresIn, declared_by, declares_before, declares_it, form_declares}
use Rattle.rdf_normal.specs.NormalForms.{normal_form, unsettled_annotations, unsettled_axioms}
use Rattle.rdf_normal.proofs.ShapedLaws.{normal_is_ontology}
use Rattle.rdf_normal.proofs.TidiedLaws.{settled_form}
use Rattle.rdf_faults.proofs.FaultLaws as no
use Rattle.rdf_roles.specs.declared.fault.NodeFault.TheVariants.{Mixed, BadList, Cycle, BadNode, Memory}
use Rattle.rdf_reverse.specs.Reverse.{AreShallow, IsSaid, IsWithin}
use Rattle.rdf_reverse.proofs.DeclaringLaws.{declares_stated}
use Rattle.rdf_reverse.proofs.WithinLaws.{said_within}
use Rattle.rdf_scans.specs.Outlines.{declarations as graph_declarations}
use Rattle.rdf_states.proofs.NormalStatesLaws.{form_axioms_typed, form_notes_typed, form_says}
use Rattle.rdf_states.proofs.ThinLaws.{form_is_thin}
use Rattle.rdf_thin.specs.Thinned.{thinned}
use Rattle.owl_doc.specs.Parts.{of_axiom}
use Rattle.rdf_sayable.specs.Sayable.{CanSayAll}
use Rattle.owl_writing.specs.Tables.{written_prefixes}
use Rattle.ttl_grammar.specs.Documents.{ReadsTurtle}
use Rattle.owl_command.specs.declared.command.Layout.{Layout}
use Rattle.owl_command.specs.declared.command.Layout.TheVariants.{Flat, Nested}
use Rattle.owl_answer.proofs.RenamedGraphs.{is_renaming, renamed_graph}
use Rattle.owl_answer.specs.GraphTexts.{HaveRoles}
use Rattle.owl_answer.specs.Outcome.{IsSuccess}
use Rattle.owl_answer.specs.Typing.{DeclareSame, IsWellTyped}
use Rattle.owl_answer.specs.TurtleOutcome.{IsReady, IsTold, IsToldBack, IsTurtleTranslation, IsTyped, ReadsGraph, ReadsSaid, canonical_said, heavy, light, not_typed, ready, turtle_form, unsaid}
use Rattle.owl_answer.specs.Answers.{IsInTurtle}
use Rattle.owl_answer.proofs.Turtles.{typing_fails}
use Rattle.owl_messages.specs.Outcome.{Outcome}

each_axiom : (kinds : List Entity) (ts : List Tree) → AllByRecursion (IsWellTyped kinds) (map of_axiom ts) → AllByRecursion (λ t. AreWellTyped kinds (entities t)) ts
each_axiom kinds [] h = tt
each_axiom kinds (t ∷ ts) h = (h.0, each_axiom kinds ts h.1)

pub axiom_parts : (kinds : List Entity) (ts : List Tree) → AllByRecursion (λ t. AreWellTyped kinds (entities t)) ts → AllByRecursion (IsWellTyped kinds) (map of_axiom ts)
axiom_parts kinds [] h = tt
axiom_parts kinds (t ∷ ts) h = (h.0, axiom_parts kinds ts h.1)

-- What is declared.

-- lists with equivalent axioms declare the same
declared_there : (ts us : List Tree) → canonical_list ts ≡ canonical_list us → (e : Entity) → Contains (declarations ts) e → Contains (declarations us) e
declared_there ts us same e m =
    let form = subst (λ (xs : List Tree). DeclaresIn xs e) same (form_declares ts e (declared_by ts e m)) in
    let d = declares_before us e form in
    declares_it us d.tree e d.inside d.entity

-- what a graph says declares what the graph does
says_declares : (g : List Triple) (kinds : List Entity) (o : Ontology) → Says g kinds o → DeclareSame (graph_declarations g) (declared_in o)
says_declares g kinds o says kind iri =
    let e : Entity = record { kind = kind; iri = iri } in
    let stated = says.states.by_triples ++ says.states.by_nodes in
    let same = (equivalent_lists o.axioms stated).0 says.states.axioms in (
      λ m. declared_there stated o.axioms (sym same) e ((declares_stated g kinds o says e).0 m),
      λ m. (declares_stated g kinds o says e).1 (declared_there o.axioms stated same e m),
    )

-- The normal form of an ontology in canonical form, which is well typed.

module _ (kinds : List Entity) (o : Ontology) (form : canonical_ontology o ≡ o) (typed : IsTyped kinds o) where
  pub notes_typed : AreWellTyped kinds (entities_of (kids_of o.annotations))
  notes_typed = subst (λ (ts : List Tree). AreWellTyped kinds (entities_of (kids_of ts))) (ap (λ (p : Ontology). p.annotations) form) typed.typed.0

  pub axioms_typed : AllByRecursion (λ t. AreWellTyped kinds (entities t)) o.axioms
  axioms_typed =
      subst (λ (ts : List Tree). AllByRecursion (λ t. AreWellTyped kinds (entities t)) ts) (ap (λ (p : Ontology). p.axioms) form)
      (each_axiom kinds (canonical_list o.axioms) typed.typed.1)

  -- a normal form is its own canonical form, so its parts are its annotations and its axioms
  form_typed : IsTyped kinds (normal_form o)
  form_typed = record {
    no_clash = typed.no_clash;
    typed = (
      subst (λ (ts : List Tree). AreWellTyped kinds (entities_of (kids_of ts))) (sym (settled_form (unsettled_annotations o)))
          (form_notes_typed kinds o notes_typed axioms_typed),
      subst (λ (ts : List Tree). AllByRecursion (IsWellTyped kinds) (map of_axiom ts)) (sym (settled_form (unsettled_axioms o)))
          (axiom_parts kinds (normal_form o).axioms (form_axioms_typed kinds o notes_typed axioms_typed)),
    );
  }

  form_said : IsOntology o → CanSayAll o → ontology_weight (normal_form o) ≤ heaviest → Says (graph_of (normal_form o)) kinds (normal_form o)
  form_said is said weighs =
      form_says kinds o is said weighs typed.no_clash (form_notes_typed kinds o notes_typed axioms_typed) (form_axioms_typed kinds o notes_typed axioms_typed)

-- what a graph says an ontology by has nodes with roles
roles_said : (g : List Triple) (kinds : List Entity) (o : Ontology) → Says g kinds o → HaveRoles g
roles_said g kinds o says (Mixed label) n h = no.no_mixed g kinds o says label h.holds
roles_said g kinds o says (BadList label) n h = no.no_bad_cell g kinds o says label h.1.holds
roles_said g kinds o says (Cycle label) n h = no.no_cyclic g kinds o says label h.2.holds
roles_said g kinds o says (BadNode label) n h = no.no_bad_node g kinds o says label h.3.holds
roles_said g kinds o says Memory n h = n refl

pub have_roles : (kinds : List Entity) (o : Ontology) → canonical_ontology o ≡ o → IsTyped kinds o → IsOntology o → CanSayAll o → ontology_weight (normal_form o) ≤ heaviest → HaveRoles (graph_of (normal_form o))
have_roles kinds o form typed is said weighs = roles_said (graph_of (normal_form o)) kinds (normal_form o) (form_said kinds o form typed is said weighs)

-- a document that was translated
record IsTranslatable (kinds : List Entity) (o : Ontology) : Type 0 where
  ready : IsReady kinds o
  light : ontology_weight (normal_form o) ≤ heaviest

form_told : (layout : Layout) (kinds : List Entity) (main : Said) (outcome : Outcome) → IsTold layout kinds main outcome → IsSuccess outcome.status → IsTranslatable kinds main.ontology
form_told layout kinds main outcome (not_typed h) s = absurd (typing_fails kinds main.ontology outcome h s)
form_told layout kinds main outcome (unsaid t part why h f) s = absurd (subst (λ (x : Outcome). IsSuccess x.status) f s)
form_told layout kinds main outcome (ready r (heavy l f)) s = absurd (subst (λ (x : Outcome). IsSuccess x.status) f s)
form_told layout kinds main outcome (ready r (light l w)) s = record { ready = r; light = l }

-- What was translated, of a document in canonical form.
module _ (layout : Layout) (kinds : List Entity) (main : Said) (outcome : Outcome) (is : IsOntology main.ontology) (canonical : canonical_ontology main.ontology ≡ main.ontology) (told : IsTurtleTranslation layout kinds main outcome) (s : IsSuccess outcome.status) where
  abbrev source : Ontology
  source = canonical_ontology main.ontology

  its : IsTranslatable kinds source
  its = form_told layout kinds (canonical_said main) outcome told s

  own : IsOntology source
  own = subst IsOntology (sym canonical) is

  form_says_it : Says (graph_of (normal_form source)) kinds (normal_form source)
  form_says_it = form_said kinds source (ap canonical_ontology canonical) its.ready.typed own its.ready.sayable its.light

  within : AreShallow (normal_form source) → IsWithin (normal_form source)
  within shallow = record { is = normal_is_ontology source own; shallow = shallow; light = its.light }

  -- the graph of its normal form says it, within the limits
  pub form_is_said : AreShallow (turtle_form (canonical_said main)).ontology → IsSaid (graph_of (turtle_form (canonical_said main)).ontology) kinds (turtle_form (canonical_said main)).ontology
  form_is_said shallow = said_within (graph_of (normal_form source)) kinds (normal_form source) form_says_it (within shallow)

  -- and none of its triples is redundant
  pub written_is_thin : thinned (graph_of (turtle_form (canonical_said main)).ontology) ≡ graph_of (turtle_form (canonical_said main)).ontology
  written_is_thin = form_is_thin source own its.ready.sayable its.light

  -- a graph that says it, without redundant triples, to which the text is read back
  read_back : (g : List Triple) → ((base : Option (List ℕ)) → ReadsTurtle base outcome.text (written_prefixes main.prefixes) g) → Says g kinds (normal_form source) → thinned g ≡ g → AreShallow (normal_form source) → ReadsSaid kinds outcome.text (turtle_form (canonical_said main))
  read_back g reads says thin shallow = record {
    graph = g;
    reads = reads;
    declares = says_declares g kinds (normal_form source) says;
    typed = form_typed kinds source (ap canonical_ontology canonical) its.ready.typed;
    says = subst (λ (h : List Triple). IsSaid h kinds (normal_form source)) (sym thin) (said_within g kinds (normal_form source) says (within shallow));
  }

  flat_back : ReadsGraph Flat outcome.text (turtle_form (canonical_said main)) → ReadsSaid kinds outcome.text (turtle_form (canonical_said main))
  flat_back back = read_back (graph_of (normal_form source)) back.reads form_says_it written_is_thin back.shallow

  nested_back : ReadsGraph Nested outcome.text (turtle_form (canonical_said main)) → ReadsSaid kinds outcome.text (turtle_form (canonical_said main))
  nested_back back =
      let g = graph_of (normal_form source) in
      let form = ap canonical_ontology canonical in
      let notes = notes_typed kinds source form its.ready.typed in
      let axioms = axioms_typed kinds source form its.ready.typed in
      let renaming = is_renaming kinds source own its.ready.sayable its.light its.ready.typed.no_clash (form_notes_typed kinds source notes axioms) (form_axioms_typed kinds source notes axioms) outcome.text (written_prefixes main.prefixes) back.reads in
      read_back (renamed_graph back.reads.rename g) back.reads.reads renaming.says renaming.thin back.shallow

said_back : (layout : Layout) (kinds : List Entity) (main : Said) (outcome : Outcome) → IsOntology main.ontology → canonical_ontology main.ontology ≡ main.ontology → IsTurtleTranslation layout kinds main outcome → IsSuccess outcome.status → ReadsGraph layout outcome.text (turtle_form (canonical_said main)) → ReadsSaid kinds outcome.text (turtle_form (canonical_said main))
said_back Flat kinds main outcome is canonical told s back = flat_back Flat kinds main outcome is canonical told s back
said_back Nested kinds main outcome is canonical told s back = nested_back Nested kinds main outcome is canonical told s back

pub in_turtle : (layout : Layout) (kinds : List Entity) (main : Said) (outcome : Outcome) → IsOntology main.ontology → canonical_ontology main.ontology ≡ main.ontology → IsToldBack layout (IsTurtleTranslation layout kinds main) (turtle_form (canonical_said main)) outcome → IsInTurtle layout kinds main outcome
in_turtle layout kinds main outcome is canonical h = record { is = h.is; back = λ s. said_back layout kinds main outcome is canonical h.is s (h.back s) }
