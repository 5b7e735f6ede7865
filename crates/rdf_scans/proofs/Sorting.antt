-- What the tests of sorts are made of.
use Rattle.std.specs.Prelude.{◌≡◌, Bool, true, false, ◌||◌, cond, List, [], ◌∷◌}
use Rattle.std.specs.List.{filter, list_any}
use Rattle.std.specs.Str.{bytes_eq}
use Rattle.std.proofs.Common.{refl}
use Rattle.rdf_graph.specs.declared.triple.Triple.{Triple}
use Rattle.rdf_meaning.specs.declared.row.Site.TheVariants.{TypedBy, OtherType, LinkedBy, OtherLink}
use Rattle.rdf_meaning.specs.declared.word.Word.{Word}
use Rattle.rdf_meaning.specs.Denotation.{axiom_predicates, axiom_types, first_of, site_of}
use Rattle.rdf_meaning.specs.Nodes.{says_type, type_iri}
use Rattle.rdf_meaning.specs.Statements.{is_annotation_triple, is_axiom_predicate}
use Rattle.rdf_meaning.specs.Words.{word_iri}
use Rattle.rdf_scans.specs.declared.reading.Reading.{Reading}
use Rattle.rdf_scans.specs.Sorts.{annotates, is_axiom_site, is_header_note, is_node_note}

pub annotation_is : (reading : Reading) (t : Triple) → (is_header_note reading.kinds.now reading.header.now t || is_node_note reading.graph.now t) ≡ annotates reading t
unfolding is_annotation_triple
annotation_is reading t = refl

typed_site : (ws : List Word) → is_axiom_site (first_of TypedBy OtherType ws) ≡ true
typed_site [] = refl
typed_site (w ∷ ws) = refl

linked_site : (test : Word → Bool) (ws : List Word) → is_axiom_site (first_of LinkedBy OtherLink (filter test ws)) ≡ list_any test ws
linked_site test [] = refl
linked_site test (w ∷ ws) = at (linked_site test ws) (test w)
  where
    at : is_axiom_site (first_of LinkedBy OtherLink (filter test ws)) ≡ list_any test ws → (b : Bool) →
        is_axiom_site (first_of LinkedBy OtherLink (cond b (w ∷ filter test ws) (filter test ws))) ≡ (b || list_any test ws)
    at rest true = refl
    at rest false = rest

pub site_tells : (t : Triple) → is_axiom_site (site_of t) ≡ is_axiom_predicate t.predicate
unfolding site_of
site_tells t = at (bytes_eq t.predicate type_iri)
  where
    at : (b : Bool) →
        is_axiom_site (cond b (first_of TypedBy OtherType (filter (λ w. says_type (word_iri w) t) axiom_types)) (first_of LinkedBy OtherLink (filter (λ w. bytes_eq t.predicate (word_iri w)) axiom_predicates)))
        ≡ (b || list_any (λ w. bytes_eq t.predicate (word_iri w)) axiom_predicates)
    at true = typed_site (filter (λ w. says_type (word_iri w) t) axiom_types)
    at false = linked_site (λ w. bytes_eq t.predicate (word_iri w)) axiom_predicates
