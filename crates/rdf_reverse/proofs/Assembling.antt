-- The document that is made of what a graph states is what the graph says.
use Rattle.std.specs.Prelude.{◌≡◌, ◌≤◌, ◌<◌, ◌++◌, ℕ, List, [], ◌∷◌, map}
use Rattle.std.proofs.Common.{refl, sym, ap, ◌∙◌, subst, arith}
use Rattle.std.proofs.lemmas.Option.{get_or_from_slice_get}
use Rattle.owl_arena.specs.Held.{tree_at, trees_at}
use Rattle.owl_arena.specs.Shared.{heaviest}
use Rattle.owl_assembly.specs.Assembled.{assembled}
use Rattle.owl_doc.specs.declared.head.Head as held
use Rattle.owl_doc.specs.Heads.{head_of}
use Rattle.owl_kind.specs.Kinds.{Entity}
use Rattle.owl_list.proofs.AscendingLaws.{hold_same}
use Rattle.owl_tree.specs.Canonical.{canonical}
use Rattle.owl_tree.proofs.CanonicalLaws.{forms_again}
use Rattle.owl_tree.specs.Ontologies.{HoldEquivalent, IsSameOntology, Ontology, canonical_ontology, ontology_weight}
use Rattle.owl_tree.proofs.OntologyLaws.{canonical_same_ontology, equivalent_lists, same_ontology_sym, same_ontology_trans, same_ontology_weight}
use Rattle.owl_list.specs.Ascending.{ascending}
use Rattle.owl_tree.specs.Order.{tree_cmp}
use Rattle.owl_tree.specs.Trees.{Tree}
use Rattle.rdf_graph.specs.declared.triple.Triple.{Triple}
use Rattle.rdf_meaning.proofs.ListLaws.{same_only}
use Rattle.rdf_meaning.proofs.StatementLaws.{one_ontology}
use Rattle.rdf_meaning.specs.Statements.{IsWhole, Says}
use Rattle.rdf_scans.specs.declared.reading.Reading.{Reading}
use Rattle.rdf_scans.specs.Outlines.{IsHeadAt}
use Rattle.tree_stores.specs.Stores.{HasNumber, StandFor}
use Rattle.rdf_reverse.specs.Clear.{IsClear, clear_header, clear_says}
use Rattle.rdf_reverse.specs.Limits.{AreStated, AreWithin}
use Rattle.rdf_reverse.specs.Reverse.{HasDeepTree, HasHeavyTree, of_tree, of_all, IsSaid}

-- what is equivalent to what a graph says is said by it
pub says_same : (g : List Triple) (k : List Entity) (o p : Ontology) → Says g k o → IsSameOntology o p → Says g k p
says_same g k o p says same =
    let s = says.states in
    let q : Ontology = record { head = s.said; annotations = s.notes_in; axioms = s.by_triples ++ s.by_nodes } in
    let is : IsSameOntology o q = record { head = s.head; annotations = s.annotations; axioms = s.axioms } in
    let to = same_ontology_trans p o q (same_ontology_sym o p same) is in
    record {
      states = record {
        no_clash = s.no_clash;
        header = s.header;
        one_header = s.one_header;
        said = s.said;
        is_head = s.is_head;
        notes_in = s.notes_in;
        are_notes = s.are_notes;
        by_triples = s.by_triples;
        are_axioms = s.are_axioms;
        by_nodes = s.by_nodes;
        are_node_axioms = s.are_node_axioms;
        head = to.head;
        annotations = to.annotations;
        axioms = to.axioms;
      };
      whole = says.whole;
    }

-- the trees with numbers of trees are their canonical forms
at_numbers : (trees ts : List Tree) (ids : List ℕ) → StandFor (HasNumber trees) ts ids → trees_at trees ids ≡ map canonical ts
at_numbers trees [] [] h = refl
at_numbers trees [] (id ∷ ids) h = absurd h
at_numbers trees (t ∷ ts) [] h = absurd h
at_numbers trees (t ∷ ts) (id ∷ ids) h =
    let first : tree_at trees id ≡ canonical t = get_or_from_slice_get trees id (canonical t) _ h.0 in
    ap (λ u. u ∷ trees_at trees ids) first ∙ ap (λ us. canonical t ∷ us) (at_numbers trees ts ids h.1)

forms_equivalent : (trees ts : List Tree) (ids : List ℕ) → StandFor (HasNumber trees) ts ids → HoldEquivalent ts (trees_at trees ids)
forms_equivalent trees ts ids h =
    subst (HoldEquivalent ts) (sym (at_numbers trees ts ids h)) ((equivalent_lists ts (map canonical ts)).1 (ap (λ us. ascending tree_cmp us) (sym (forms_again ts))))

-- so for numbers that are lent
pub lent_stated : (reading : Reading) (trees : List Tree) (annotations axioms lent others : List ℕ) → lent ≡ annotations → others ≡ axioms →
    AreStated reading trees annotations axioms → AreStated reading trees lent others
lent_stated reading trees annotations axioms lent others a b stated =
    subst (λ ids. AreStated reading trees ids others) (sym a) (subst (AreStated reading trees annotations) (sym b) stated)

module _ (reading : Reading) (clear : IsClear reading) (head : held.Head) (is : IsHeadAt reading.graph.now reading.header.now head) where
  abbrev g : List Triple
  g = reading.graph.now

  abbrev k : List Entity
  k = reading.kinds.now

  whole : IsWhole g k reading.header.now
  whole =
      let says = clear_says reading clear in
      subst (IsWhole g k) (clear_header reading clear says.0 says.1) says.1.whole

  module _ (trees : List Tree) (annotations axioms : List ℕ) (stated : AreStated reading trees annotations axioms) where
    abbrev plain : Ontology
    plain = record { head = head_of head; annotations = stated.notes_in; axioms = stated.by_triples ++ stated.by_nodes }

    plain_says : Says g k plain
    plain_says = record {
      states = record {
        no_clash = clear.no_clash;
        header = reading.header.now;
        one_header = clear.is_reading.one_header;
        said = head_of head;
        is_head = is.is_head;
        notes_in = stated.notes_in;
        are_notes = stated.are_notes;
        by_triples = stated.by_triples;
        are_axioms = stated.are_axioms;
        by_nodes = stated.by_nodes;
        are_node_axioms = stated.are_node_axioms;
        head = record { name = refl; imports = hold_same head.imports.items };
        annotations = (equivalent_lists stated.notes_in stated.notes_in).1 refl;
        axioms = (equivalent_lists (stated.by_triples ++ stated.by_nodes) (stated.by_triples ++ stated.by_nodes)).1 refl;
      };
      whole = whole;
    }

    same_parts : IsSameOntology plain (assembled head trees annotations axioms)
    same_parts = record {
      head = record { name = refl; imports = hold_same head.imports.items };
      annotations = forms_equivalent trees stated.notes_in annotations stated.notes_stand;
      axioms = forms_equivalent trees (stated.by_triples ++ stated.by_nodes) axioms stated.axioms_stand;
    }

    assembled_says : Says g k (assembled head trees annotations axioms)
    assembled_says = says_same g k plain (assembled head trees annotations axioms) plain_says same_parts

    document_says : (o : Ontology) → o ≡ canonical_ontology (assembled head trees annotations axioms) → Says g k o
    document_says o e =
        subst (Says g k) (sym e)
        (says_same g k (assembled head trees annotations axioms) (canonical_ontology (assembled head trees annotations axioms)) assembled_says
        (canonical_same_ontology (assembled head trees annotations axioms)))

    pub too_heavy : heaviest < ontology_weight (assembled head trees annotations axioms) → HasHeavyTree g k reading.header.now
    too_heavy h = of_all (assembled head trees annotations axioms) assembled_says h

    light : AreWithin reading → ontology_weight (assembled head trees annotations axioms) ≤ heaviest → HasHeavyTree g k reading.header.now → ⊥
    light within less (of_tree t of heavy) = within.light t of heavy
    light within less (of_all o says heavy) =
        let same = same_ontology_weight o (assembled head trees annotations axioms) (one_ontology g k o (assembled head trees annotations axioms) says assembled_says) in
        omega (arith, same, less, heavy)

    -- the document is what the graph says, and passes no limit
    pub document_said : AreWithin reading → ontology_weight (assembled head trees annotations axioms) ≤ heaviest → (o : Ontology) →
        o ≡ canonical_ontology (assembled head trees annotations axioms) → IsSaid g k o
    document_said within less o e =
        let says = document_says o e in
        let same = same_only reading.header.now says.states.header (sym clear.is_reading.one_header ∙ says.states.one_header) in
        record {
          says = says;
          small = within.are_shallow.small;
          shallow = λ deep. within.are_shallow.shallow (subst (HasDeepTree g k) (sym same) deep);
          light = λ heavy. light within less (subst (HasHeavyTree g k) (sym same) heavy);
        }
