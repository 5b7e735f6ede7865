-- The graph that nested Turtle is read back to: that of a normal form under other labels.
use Rattle.std.proofs.Common.{◌≡◌, ◌≤◌, ◌↔◌, ℕ, Bool, true, false, Contains, List, [], ◌∷◌, map, refl, sym, ap, ◌∙◌, subst}
use Rattle.std.specs.Prelude.{length, nat_eq, ◌&&◌}
use Rattle.std.specs.List.{AllByRecursion, list_all}
use Rattle.std.proofs.lemmas.Bool.{both_ways}
use Rattle.owl_arena.specs.Shared.{heaviest}
use Rattle.owl_atom.specs.declared.prefixes.Prefix.{Prefix}
use Rattle.owl_doc.specs.Entities.{AreWellTyped, entities, entities_of}
use Rattle.owl_kind.specs.Kinds.{Entity}
use Rattle.owl_list.proofs.AscendingLaws.{ascending_apart}
use Rattle.owl_list.specs.Ascending.{AreApart}
use Rattle.owl_tree.specs.Ontologies.{IsOntology, Ontology, ontology_weight}
use Rattle.owl_tree.specs.Trees.{kids_of}
use Rattle.rdf_graph.proofs.GraphLaws.{set_holds}
use Rattle.rdf_graph.proofs.TermLaws.{triples_total}
use Rattle.rdf_graph.specs.Graphs.{set_of}
use Rattle.rdf_graph.specs.Terms.{triple_cmp}
use Rattle.rdf_graph.specs.declared.term.Term.{Term}
use Rattle.rdf_graph.specs.declared.term.Term.TheVariants.{Iri, Blank, Literal}
use Rattle.rdf_graph.specs.declared.triple.Triple.{Triple}
use Rattle.rdf_mapping.specs.Graphs.{graph_of, labels_of}
use Rattle.rdf_meaning.specs.Kinds.{HaveNoClash}
use Rattle.rdf_meaning.specs.Nodes.{is_structural, of_subject, role_of}
use Rattle.rdf_meaning.specs.Statements.{Says}
use Rattle.rdf_meaning.specs.declared.role.Role.{Role}
use Rattle.rdf_meaning.specs.declared.role.Role.TheVariants as role
use Rattle.rdf_normal.specs.NormalForms.{normal_form}
use Rattle.rdf_sayable.specs.Sayable.{CanSayAll}
use Rattle.rdf_states.proofs.RenamedStatesLaws.{form_labels, renamed_form_is_thin, renamed_form_says}
use Rattle.rdf_states.specs.Renamed as own
use Rattle.rdf_states.specs.Renamed.{IsRenaming}
use Rattle.rdf_thin.specs.Thinned.{thinned}
use Rattle.ttl_levels.specs.Nested.{HasLevel, IsNested, IsNestedBy, at_top, below, is_nestable, is_part, named_by}
use Rattle.ttl_nested.specs.Renaming as read
use Rattle.ttl_nested.specs.Renaming.{ReadsRenamed}

abbrev pub renamed_graph : (List ℕ → List ℕ) → List Triple → List Triple
renamed_graph rename g = set_of (map (read.renamed rename) g)

-- an individual is not nested

not_nestable : (g : List Triple) (x : Term) → role_of g x ≡ role.Individual → is_nestable g x ≡ true → ⊥
unfolding is_nestable
not_nestable g x e n =
    both_ways (is_nestable g x) (ap (λ (r : Role). is_part r && (nat_eq (length (named_by g x)) 1 && list_all (is_structural g) (of_subject g x))) e) n

no_level : (g : List Triple) (x : Term) (level : ℕ) → role_of g x ≡ role.Individual → HasLevel g x level → ⊥
no_level g _ _ e (at_top x t by free) = not_nestable g x e by.nestable
no_level g _ _ e (below x t n m by has next) = not_nestable g x e by.nestable

-- other labels are told in one way

same_term : (rename : List ℕ → List ℕ) (x : Term) → read.renamed_term rename x ≡ own.renamed_term rename x
same_term rename (Iri iri) = refl
same_term rename (Blank label) = refl
same_term rename (Literal literal) = refl

same_triple : (rename : List ℕ → List ℕ) (t : Triple) → read.renamed rename t ≡ own.renamed rename t
same_triple rename t = λ i. record { subject = same_term rename t.subject i; predicate = t.predicate; object = same_term rename t.object i }

same_triples : (rename : List ℕ → List ℕ) (ts : List Triple) → map (read.renamed rename) ts ≡ map (own.renamed rename) ts
same_triples rename [] = refl
same_triples rename (t ∷ ts) =
    ap (λ (u : Triple). u ∷ map (read.renamed rename) ts) (same_triple rename t) ∙ ap (λ (us : List Triple). own.renamed rename t ∷ us) (same_triples rename ts)

label_in : (g : List Triple) (label : List ℕ) → own.IsLabelIn g label → read.IsLabelIn g label
label_in g label h = record { triple = h.triple; inside = h.inside; stands = h.stands }

-- the graph under other labels says the ontology, and has no redundant triple
pub record IsRenamedSaid (kinds : List Entity) (o : Ontology) (g : List Triple) : Type 0 where
  pub says : Says g kinds o
  pub thin : thinned g ≡ g

pub is_renaming : (kinds : List Entity) (o : Ontology) → IsOntology o → CanSayAll o → ontology_weight (normal_form o) ≤ heaviest → HaveNoClash kinds → AreWellTyped kinds (entities_of (kids_of (normal_form o).annotations)) → AllByRecursion (λ t. AreWellTyped kinds (entities t)) (normal_form o).axioms →
    (bytes : List ℕ) (prefixes : List Prefix) (r : ReadsRenamed (λ label. IsNested (graph_of (normal_form o)) (Blank label)) bytes prefixes (graph_of (normal_form o))) → IsRenamedSaid kinds (normal_form o) (renamed_graph r.rename (graph_of (normal_form o)))
is_renaming kinds o is said light no_clash notes axioms bytes prefixes r =
    let g = graph_of (normal_form o) in
    let renaming : IsRenaming r.rename g (labels_of (normal_form o)) = record {
      one_to_one = λ a b h k e. r.one_to_one a b (label_in g a h) (label_in g b k) e;
      keeps = λ label m. r.keeps label (λ n. no_level g (Blank label) n.level (form_labels o is said light label m) n.has);
    } in
    let apart : AreApart (renamed_graph r.rename g) = ascending_apart triple_cmp triples_total (map (read.renamed r.rename) g) in
    let holds : (t : Triple) → Contains (renamed_graph r.rename g) t ↔ Contains (map (own.renamed r.rename) g) t =
    λ t. subst (λ (ts : List Triple). Contains (renamed_graph r.rename g) t ↔ Contains ts t) (same_triples r.rename g) (set_holds (map (read.renamed r.rename) g) t) in
    record {
      says = renamed_form_says kinds o is said light no_clash notes axioms r.rename (renamed_graph r.rename g) renaming apart holds;
      thin = renamed_form_is_thin kinds o is said light no_clash notes axioms r.rename (renamed_graph r.rename g) renaming apart holds;
    }
