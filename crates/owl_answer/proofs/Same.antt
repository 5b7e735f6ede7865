-- Documents that are read as the same have the same head, declare the same, and say the same.
use Rattle.std.proofs.Common.{◌≡◌, ◌≢◌, ℕ, Option, List, [], ◌∷◌, ◌++◌, inl, inr, refl, sym, ap, ◌∙◌, subst}
use Rattle.std.specs.List.{filter, flat_map}
use Rattle.std.specs.Prelude.{not}
use Rattle.owl_doc.specs.Entities.{Declares, declarations}
use Rattle.owl_doc.specs.Heads.{iri_in}
use Rattle.owl_documents.specs.Documents.{DeclaresAs, IsSame, Parsed, Said, a_graph, an_ontology, guessed_entities, head_in, the_frames}
use Rattle.owl_documents.specs.OneWay.{IsSameParsed}
use Rattle.owl_kind.specs.declared.kind.Kind.{Kind}
use Rattle.owl_kind.specs.Kinds.{Entity, IsDeclared}
use Rattle.owl_tree.specs.Ontologies.{Head, IsSameHead, IsSameOntology, Ontology, OntologyName, canonical_list}
use Rattle.owl_tree.proofs.OntologyLaws.{same_ontology_is_equal_form, same_ontology_refl, same_ontology_sym}
use Rattle.owl_tree.specs.Trees.{Tree}
use Rattle.rdf_graph.specs.declared.triple.Triple.{Triple}
use Rattle.rdf_normal.proofs.DeclaredLaws.{declares_same}
use Rattle.rdf_normal.specs.NormalForms.{is_about, normal_form, settled, spread}
use Rattle.rdf_reverse.specs.Reverse.{Finds, FindsFirst, IsHeaderFault, IsUnsaid, Step, bad_header, no_header, of_depths, of_header, of_kinds, of_names, of_nodes, of_numbers, of_parts, of_reach, of_reifications, of_statements, of_weights, steps, two_headers}
use Rattle.rdf_reverse.proofs.GuessLaws.{never_both_with, said_with_once, unsaid_with_once}
use Rattle.rdf_reverse.specs.Guesses.{IsSaidWith, IsUnsaidWith, of_graph, of_guesses}
use Rattle.rdf_reverse.specs.declared.fault.ReverseFault.{ReverseFault}
use Rattle.rdf_thin.specs.Thinned.{thinned}
use Rattle.rdf_reverse.specs.declared.fault.ReverseFault.TheVariants as reverse
use Rattle.owl_messages.specs.Unsaid.{IsProperFault}
use Rattle.owl_messages.specs.declared.unsaid.UnsaidFault.{UnsaidFault}
use Rattle.owl_messages.specs.declared.unsaid.UnsaidFault.TheVariants.{Graph, Frames, Memory}
use Rattle.man_raw.specs.Documents.{DocumentTree}
use Rattle.man_resolve.specs.Items as frames
use Rattle.man_resolve.specs.Items.{frame_entities}
use Rattle.man_resolve.proofs.OneWayLaws as frames_laws
use Rattle.rdf_scans.specs.Outlines.{declarations as declared_by}
use Rattle.owl_answer.specs.UnderKinds.{IsUnsaidUnder, SaysUnder}

-- the normal form of an ontology depends on its canonical form, and declares the same
same_declare : (a b : Ontology) → IsSameOntology a b → (kind : Kind) (iri : List ℕ) → Declares a kind iri → Declares b kind iri
same_declare a b s kind iri h =
    let forms = (same_ontology_is_equal_form a b).0 s in
    let same : (normal_form a).axioms ≡ (normal_form b).axioms = λ i. axioms_of (s.head.name i) (forms i).axioms in
    (declares_same b kind iri).0 (subst (λ (ts : List Tree). IsDeclared (declarations ts) kind iri) same ((declares_same a kind iri).1 h))
  where
    axioms_of : Option OntologyName → List Tree → List Tree
    axioms_of name ts = settled (filter (λ t. not (is_about (iri_in name) t)) (canonical_list (flat_map spread ts)))

pub head_back : (a b : Head) → IsSameHead a b → IsSameHead b a
head_back a b s = record { name = sym s.name; imports = λ x. ((s.imports x).1, (s.imports x).0) }

pub said_refl : (a : Said) → IsSame a a
said_refl a = record { prefixes = λ i. a.prefixes; ontology = same_ontology_refl a.ontology }

said_back : (a b : Said) → IsSame a b → IsSame b a
said_back a b s = record { prefixes = sym s.prefixes; ontology = same_ontology_sym a.ontology b.ontology s.ontology }

pub parsed_refl : (a : Parsed) → IsSameParsed a a
parsed_refl (an_ontology v a) = (refl, said_refl a)
parsed_refl (the_frames d) = refl
parsed_refl (a_graph a) = record {
  prefixes = λ i. a.prefixes;
  triples = λ i. a.triples;
  head = record { name = λ i. a.head.name; imports = λ x. (λ h. h, λ h. h) };
  guessed = λ i. a.guessed;
}

pub parsed_back : (a b : Parsed) → IsSameParsed a b → IsSameParsed b a
parsed_back (an_ontology v a) (an_ontology w b) s = (sym s.0, said_back a b s.1)
parsed_back (an_ontology v a) (a_graph b) s = absurd s
parsed_back (a_graph a) (an_ontology w b) s = absurd s
parsed_back (an_ontology v a) (the_frames b) s = absurd s
parsed_back (a_graph a) (the_frames b) s = absurd s
parsed_back (the_frames a) (an_ontology w b) s = absurd s
parsed_back (the_frames a) (a_graph b) s = absurd s
parsed_back (the_frames a) (the_frames b) s = sym s
parsed_back (a_graph a) (a_graph b) s =
    record { prefixes = sym s.prefixes; triples = sym s.triples; head = head_back a.head b.head s.head; guessed = sym s.guessed }

pub same_head : (a b : Parsed) → IsSameParsed a b → IsSameHead (head_in a) (head_in b)
same_head (an_ontology v a) (an_ontology w b) s = s.1.ontology.head
same_head (an_ontology v a) (a_graph b) s = absurd s
same_head (a_graph a) (an_ontology w b) s = absurd s
same_head (a_graph a) (a_graph b) s = s.head
same_head (an_ontology v a) (the_frames b) s = absurd s
same_head (a_graph a) (the_frames b) s = absurd s
same_head (the_frames a) (an_ontology w b) s = absurd s
same_head (the_frames a) (a_graph b) s = absurd s
same_head (the_frames a) (the_frames b) s =
    subst (λ (d : DocumentTree). IsSameHead (frames.head_in a.head) (frames.head_in d.head)) s (record { name = refl; imports = λ x. (λ h. h, λ h. h) })

pub declares_same_as : (a b : Parsed) → IsSameParsed a b → (kind : Kind) (iri : List ℕ) → DeclaresAs a kind iri → DeclaresAs b kind iri
declares_same_as (an_ontology v a) (an_ontology w b) s kind iri h = same_declare a.ontology b.ontology s.1.ontology kind iri h
declares_same_as (an_ontology v a) (a_graph b) s kind iri h = absurd s
declares_same_as (a_graph a) (an_ontology w b) s kind iri h = absurd s
declares_same_as (an_ontology v a) (the_frames b) s kind iri h = absurd s
declares_same_as (a_graph a) (the_frames b) s kind iri h = absurd s
declares_same_as (the_frames a) (an_ontology w b) s kind iri h = absurd s
declares_same_as (the_frames a) (a_graph b) s kind iri h = absurd s
declares_same_as (the_frames a) (the_frames b) s kind iri h = subst (λ (d : DocumentTree). IsDeclared (frame_entities d) kind iri) s h
declares_same_as (a_graph a) (a_graph b) s kind iri h =
    subst (λ (ts : List Triple). IsDeclared (declared_by ts ++ guessed_entities b.guessed) kind iri) s.triples
    (subst (λ (names : List (List ℕ)). IsDeclared (declared_by a.triples ++ guessed_entities names) kind iri) s.guessed h)

-- what the one says the other says, up to structural equivalence
pub record SaysSameAs (kinds : List Entity) (parsed : Parsed) (said : Said) : Type 0 where
  pub other : Said
  pub says : SaysUnder kinds parsed other
  pub same : IsSame said other

pub says_same : (kinds : List Entity) (a b : Parsed) → IsSameParsed a b → (said : Said) → SaysUnder kinds a said → SaysSameAs kinds b said
says_same kinds (an_ontology v a) (an_ontology w b) s said h =
    record { other = b; says = λ i. b; same = subst (λ (x : Said). IsSame x b) (sym h) s.1 }
says_same kinds (an_ontology v a) (a_graph b) s said h = absurd s
says_same kinds (a_graph a) (an_ontology w b) s said h = absurd s
says_same kinds (an_ontology v a) (the_frames b) s said h = absurd s
says_same kinds (a_graph a) (the_frames b) s said h = absurd s
says_same kinds (the_frames a) (an_ontology w b) s said h = absurd s
says_same kinds (the_frames a) (a_graph b) s said h = absurd s
says_same kinds (the_frames a) (the_frames b) s said h =
    record { other = said; says = subst (λ (d : DocumentTree). SaysUnder kinds (the_frames d) said) s h; same = said_refl said }
says_same kinds (a_graph a) (a_graph b) s said h = record {
  other = said;
  says = (
    h.0 ∙ s.prefixes,
    subst (λ (ts : List Triple). IsSaidWith (thinned ts) kinds b.guessed said.ontology) s.triples
        (subst (λ (names : List (List ℕ)). IsSaidWith (thinned a.triples) kinds names said.ontology) s.guessed h.1),
  );
  same = said_refl said;
}

pub unsaid_same : (kinds : List Entity) (a b : Parsed) → IsSameParsed a b → (fault : UnsaidFault) → IsUnsaidUnder kinds a fault → IsUnsaidUnder kinds b fault
unsaid_same kinds (an_ontology v a) (an_ontology w b) s fault h = absurd h
unsaid_same kinds (an_ontology v a) (a_graph b) s fault h = absurd s
unsaid_same kinds (an_ontology v a) (the_frames b) s fault h = absurd s
unsaid_same kinds (a_graph a) (an_ontology w b) s fault h = absurd s
unsaid_same kinds (a_graph a) (the_frames b) s fault h = absurd s
unsaid_same kinds (the_frames a) (an_ontology w b) s fault h = absurd s
unsaid_same kinds (the_frames a) (a_graph b) s fault h = absurd s
unsaid_same kinds (a_graph a) (a_graph b) s (Graph fault) h =
    subst (λ (ts : List Triple). IsUnsaidWith (thinned ts) kinds b.guessed fault) s.triples
    (subst (λ (names : List (List ℕ)). IsUnsaidWith (thinned a.triples) kinds names fault) s.guessed h)
unsaid_same kinds (a_graph a) (a_graph b) s (Frames fault) h = absurd h
unsaid_same kinds (a_graph a) (a_graph b) s Memory h = absurd h
unsaid_same kinds (the_frames a) (the_frames b) s fault h = subst (λ (d : DocumentTree). IsUnsaidUnder kinds (the_frames d) fault) s h

-- a document says one thing under kinds, or there is one reason why not, and never both
pub says_once : (kinds : List Entity) (parsed : Parsed) (a b : Said) → SaysUnder kinds parsed a → SaysUnder kinds parsed b → IsSame a b
says_once kinds (an_ontology written said) a b h k = subst (λ (x : Said). IsSame a x) (h ∙ sym k) (said_refl a)
says_once kinds (a_graph read) a b h k =
    record { prefixes = h.0 ∙ sym k.0; ontology = said_with_once (thinned read.triples) kinds read.guessed a.ontology b.ontology h.1 k.1 }
says_once kinds (the_frames d) a b h k =
    record { prefixes = h.0 ∙ sym k.0; ontology = frames_laws.one_ontology d kinds a.ontology b.ontology h.1 k.1 }

pub unsaid_once : (kinds : List Entity) (parsed : Parsed) (e f : UnsaidFault) → IsUnsaidUnder kinds parsed e → IsUnsaidUnder kinds parsed f → e ≡ f
unsaid_once kinds (an_ontology written said) e f h k = absurd h
unsaid_once kinds (a_graph read) (Graph e) (Graph f) h k = ap Graph (unsaid_with_once (thinned read.triples) kinds read.guessed e f h k)
unsaid_once kinds (a_graph read) (Graph e) (Frames f) h k = absurd k
unsaid_once kinds (a_graph read) (Graph e) Memory h k = absurd k
unsaid_once kinds (a_graph read) (Frames e) f h k = absurd h
unsaid_once kinds (a_graph read) Memory f h k = absurd h
unsaid_once kinds (the_frames d) (Graph e) f h k = absurd h
unsaid_once kinds (the_frames d) (Frames e) (Graph f) h k = absurd k
unsaid_once kinds (the_frames d) (Frames e) (Frames f) h k = ap Frames (frames_laws.one_fault d kinds e f h k)
unsaid_once kinds (the_frames d) (Frames e) Memory h k = absurd k
unsaid_once kinds (the_frames d) Memory f h k = absurd h

pub never_says_both : (kinds : List Entity) (parsed : Parsed) (said : Said) (fault : UnsaidFault) → SaysUnder kinds parsed said → IsUnsaidUnder kinds parsed fault → ⊥
never_says_both kinds (an_ontology written other) said fault h k = k
never_says_both kinds (a_graph read) said (Graph fault) h k = never_both_with (thinned read.triples) kinds read.guessed said.ontology fault h.1 k
never_says_both kinds (a_graph read) said (Frames fault) h k = k
never_says_both kinds (a_graph read) said Memory h k = k
never_says_both kinds (the_frames d) said (Graph fault) h k = k
never_says_both kinds (the_frames d) said (Frames fault) h k = frames_laws.never_both d kinds said.ontology fault h.1 k
never_says_both kinds (the_frames d) said Memory h k = k

pub no_want : (fault : UnsaidFault) → IsProperFault fault → fault ≢ Memory
no_want (Graph fault) n e = absurd (cc)
no_want (Frames fault) n e = absurd (cc)
no_want Memory n e = n

-- want of memory is no fault of a graph
no_header_fault : (g : List Triple) (f : ReverseFault) → IsHeaderFault g f → f ≡ reverse.Memory → ⊥
no_header_fault g _ (no_header h) e = cc
no_header_fault g _ (two_headers h) e = cc
no_header_fault g _ (bad_header x h) e = cc

never_found : (g : List Triple) (k : List Entity) (step : Step) → Finds g k step reverse.Memory → ⊥
never_found g k of_kinds h = let e = h.1 in cc
never_found g k of_header h = no_header_fault g reverse.Memory h refl
never_found g k of_nodes h = h
never_found g k of_reifications h = let e = h.3 in cc
never_found g k of_names h = let e = h.3 in cc
never_found g k of_reach h = let e = h.3 in cc
never_found g k of_parts h = let e = h.1 in cc
never_found g k of_statements h = let e = h.3 in cc
never_found g k of_numbers h = let e = h.0 in cc
never_found g k of_depths h = let e = h.2 in cc
never_found g k of_weights h = let e = h.2 in cc

never_first : (g : List Triple) (k : List Entity) (all : List Step) → FindsFirst g k all reverse.Memory → ⊥
never_first g k [] h = h
never_first g k (step ∷ more) (inl h) = never_found g k step h
never_first g k (step ∷ more) (inr h) = never_first g k more h.1

no_want_of_graph : (g : List Triple) (k : List Entity) (names : List (List ℕ)) (f : ReverseFault) → IsUnsaidWith g k names f → f ≡ reverse.Memory → ⊥
no_want_of_graph g k names f (of_graph h) e = never_first g k steps (subst (λ (fault : ReverseFault). IsUnsaid g k fault) e h)
no_want_of_graph g k names f (of_guesses bare said heavy is) e = let same = sym is ∙ e in cc

pub is_proper : (kinds : List Entity) (parsed : Parsed) (fault : UnsaidFault) → IsUnsaidUnder kinds parsed fault → IsProperFault fault
is_proper kinds (an_ontology written said) fault h = absurd h
is_proper kinds (a_graph read) (Graph fault) h = λ e. no_want_of_graph (thinned read.triples) kinds read.guessed fault h e
is_proper kinds (a_graph read) (Frames fault) h = absurd h
is_proper kinds (a_graph read) Memory h = absurd h
is_proper kinds (the_frames d) (Graph fault) h = absurd h
is_proper kinds (the_frames d) (Frames fault) h = frames_laws.is_proper d kinds fault h
is_proper kinds (the_frames d) Memory h = absurd h
