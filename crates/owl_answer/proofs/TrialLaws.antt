-- What the texts of a trial are read back as, and what is found out.
use Rattle.std.proofs.Common.{◌≡◌, ◌≢◌, ◌+◌, ◌↔◌, inl, ℕ, Bool, IsTrue, Option, None, List, [], ◌∷◌, codes, length, map, refl, sym, ap, ◌∙◌, subst, arith}
use Rattle.std.proofs.lemmas.Slice.Zip.{AllZip-long}
use Rattle.breach_lists.specs.Telling.{Tells, ontologies_of}
use Rattle.owl_atom.specs.declared.prefixes.Prefix.{Prefix}
use Rattle.owl_command.specs.Commands.{IsTrialSize}
use Rattle.owl_command.specs.declared.command.Layout.TheVariants.{Flat}
use Rattle.owl_command.specs.declared.command.Profile.{Profile}
use Rattle.owl_command.specs.declared.status.Status.TheVariants.{Done}
use Rattle.owl_doc.specs.Closures.{ImportClosure}
use Rattle.owl_doc.specs.Counts.{axiom_count, distinct_count}
use Rattle.owl_doc.specs.Documents.{Document, ontology_of}
use Rattle.owl_doc.specs.declared.item.Breach.{Breach}
use Rattle.owl_documents.specs.Documents.{AreFew, Parsed, Said, a_graph, an_ontology, defective, in_bytes, in_functional, of_bytes, of_functional, of_header, of_manchester, of_turtle, syntax_of, the_frames}
use Rattle.owl_documents.specs.Reading.{AreReadUnder, IsDefectUnder, IsProper as IsProperTrouble}
use Rattle.owl_documents.specs.declared.document.Syntax.{Syntax}
use Rattle.owl_documents.specs.declared.document.Syntax.TheVariants.{Functional, Turtle, Manchester, Canonical}
use Rattle.owl_documents.specs.declared.trouble.Trouble.{Trouble}
use Rattle.owl_documents.specs.declared.trouble.Trouble.TheVariants.{ReadFailed, Refused, Memory}
use Rattle.owl_documents.proofs.Graphs.{no_fault}
use Rattle.owl_kind.specs.Kinds.{Entity}
use Rattle.owl_messages.specs.Answers.{trouble_outcome}
use Rattle.owl_messages.specs.Outcome.{Outcome}
use Rattle.owl_messages.specs.declared.trial.Findings.{Findings}
use Rattle.owl_tree.proofs.OntologyLaws.{same_ontology_sym, same_ontology_trans}
use Rattle.owl_tree.specs.Ontologies.{IsOntology, IsSameOntology, Ontology, canonical_ontology}
use Rattle.man_grammar.proofs.DocumentLaws as man
use Rattle.man_grammar.specs.Documents.{AreSameDocuments, ReadsManchester}
use Rattle.man_raw.specs.Documents.{DocumentTree}
use Rattle.man_resolve.specs.Items.{resolved}
use Rattle.man_resolve.specs.Resolved.{FramesMean}
use Rattle.owl_profiles.specs.Profiles.{name_of}
use Rattle.rdf_graph.specs.declared.triple.Triple.{Triple}
use Rattle.rdf_mapping.specs.Graphs.{graph_of}
use Rattle.rdf_reverse.proofs.GuessLaws.{with_none}
use Rattle.rdf_reverse.specs.Guesses.{IsSaidWith}
use Rattle.rdf_reverse.specs.Reverse.{IsSaid}
use Rattle.rdf_thin.specs.Thinned.{thinned}
use Rattle.rdf_scans.specs.Outlines.{IsOutlineFault}
use Rattle.ttl_grammar.proofs.DocumentLaws as ttl
use Rattle.ttl_grammar.proofs.Refusals.{defect_is_of_none}
use Rattle.ttl_grammar.specs.Documents.{ReadsTurtle}
use Rattle.owl_answer.specs.Answers.{IsInManchester}
use Rattle.owl_answer.specs.Checking.{TellBreaches}
use Rattle.owl_answer.specs.KindsAt.{AreOwnKinds}
use Rattle.owl_answer.specs.ManchesterOutcome.{manchester_form}
use Rattle.owl_answer.specs.Outcome.{IsSuccess}
use Rattle.owl_answer.specs.TrialDocument.{trial_document}
use Rattle.owl_answer.specs.TrialParts.{HasNoDefect, IsSaidBack, IsTriedAs, ReadsBack}
use Rattle.owl_answer.specs.Trials.{AreBreachCounts, AreFindings, HasBreaches, IsTrialOutcome, alone, not_read, read, trial_name}
use Rattle.owl_answer.specs.TurtleOutcome.{IsToldBack, IsTurtleTranslation, canonical_said, turtle_form}
use Rattle.owl_answer.proofs.Sayings.{form_is_said, written_is_thin}
use Rattle.owl_answer.proofs.TrialSizes.{document_short}

-- a text in Turtle

module _ (bytes : List ℕ) (p : List Prefix) (g : List Triple) (kinds : List Entity) (o : Ontology) (reads : (base : Option (List ℕ)) → ReadsTurtle base bytes p g) (said : IsSaid g kinds o) (thin : thinned g ≡ g) where
  turtle_whole : HasNoDefect Turtle bytes
  turtle_whole name _ s proper (of_functional fault t d) = absurd (cc)
  turtle_whole name _ s proper (of_turtle fault t d) = defect_is_of_none None bytes fault p g d (reads None)
  turtle_whole name _ s proper (of_manchester fault t d) = absurd (cc)
  turtle_whole name _ s proper (of_bytes t n) = absurd (cc)
  turtle_whole name _ s proper (of_header fault q h t r n f) =
      let same = (ttl.read_one_way None bytes q p h g r (reads None)).0 in
      let header = said.says.states in
      no_fault g fault header.header header.said header.one_header header.is_head n (subst (λ (x : List Triple). IsOutlineFault x fault) same f)

  turtle_back : (parsed : Parsed) → AreReadUnder Turtle bytes parsed → IsSaidBack kinds o (length g) parsed
  turtle_back (an_ontology in_functional s) r = let n = (r (codes "m.ttl") refl).0 in absurd (cc)
  turtle_back (an_ontology in_bytes s) r = let n = (r (codes "m.ttl") refl).0 in absurd (cc)
  turtle_back (the_frames d) r = let n = (r (codes "m.ttl") refl).0 in absurd (cc)
  turtle_back (a_graph graph) r =
      let same : g ≡ graph.triples = (ttl.read_one_way None bytes p graph.prefixes g graph.triples (reads None) (r (codes "m.ttl") refl).1.reads).0 in
      record {
        said = record { prefixes = graph.prefixes; ontology = o };
        says = (
          refl,
          subst (λ (names : List (List ℕ)). IsSaidWith (thinned graph.triples) kinds names o) (sym (r (codes "m.ttl") refl).1.none_guessed)
              ((with_none (thinned graph.triples) kinds o).1 (subst (λ (h : List Triple). IsSaid h kinds o) (sym thin ∙ ap thinned same) said)),
        );
        ontology = refl;
        counts = ap (λ (h : List Triple). length h) (sym same);
      }

  turtle_reads : ReadsBack Turtle kinds bytes o (length g)
  turtle_reads = record { no_defect = turtle_whole; back = turtle_back }

-- what was translated to Turtle
pub turtle_again : (kinds : List Entity) (main : Said) (outcome : Outcome) → IsOntology main.ontology → canonical_ontology main.ontology ≡ main.ontology → IsToldBack Flat (IsTurtleTranslation Flat kinds main) (turtle_form (canonical_said main)) outcome → outcome.status ≡ Done → ReadsBack Turtle kinds outcome.text (turtle_form (canonical_said main)).ontology (length (graph_of (turtle_form (canonical_said main)).ontology))
turtle_again kinds main outcome is canonical told done =
    let success = subst IsSuccess (sym done) tt in
    let back = told.back success in
    turtle_reads outcome.text _ (graph_of (turtle_form (canonical_said main)).ontology) kinds (turtle_form (canonical_said main)).ontology back.reads
    (form_is_said Flat kinds main outcome is canonical told.is success back.shallow) (written_is_thin Flat kinds main outcome is canonical told.is success)

-- a text in Manchester Syntax

-- what frames mean does not depend on the prefixes
means_there : (d e : DocumentTree) (kinds : List Entity) (o : Ontology) → AreSameDocuments d e → FramesMean d kinds o → FramesMean e kinds o
unfolding resolved
means_there d e kinds o s h =
    let own : DocumentTree = record { prefixes = e.prefixes; head = d.head; notes = d.notes; items = d.items } in
    let there : FramesMean own kinds o = record { said = h.said; says = record { no_clash = h.says.no_clash; says = h.says.says }; same = h.same; shallow = h.shallow; light = h.light } in
    let same : own ≡ e = λ i. record { prefixes = e.prefixes; head = s.head i; notes = s.notes i; items = s.items i } in
    subst (λ (x : DocumentTree). FramesMean x kinds o) same there

module _ (bytes : List ℕ) (d : DocumentTree) (kinds : List Entity) (o : Ontology) (reads : ReadsManchester bytes d) (means : FramesMean d kinds o) where
  manchester_whole : HasNoDefect Manchester bytes
  manchester_whole name _ s proper (of_functional fault t e) = absurd (cc)
  manchester_whole name _ s proper (of_turtle fault t e) = absurd (cc)
  manchester_whole name _ s proper (of_manchester fault t e) = man.defect_is_of_none bytes fault d e reads
  manchester_whole name _ s proper (of_header fault q h t r n f) = absurd (cc)
  manchester_whole name _ s proper (of_bytes t n) = absurd (cc)

  manchester_back : (parsed : Parsed) → AreReadUnder Manchester bytes parsed → IsSaidBack kinds o 0 parsed
  manchester_back (an_ontology in_functional s) r = let n = (r (codes "m.omn") refl).0 in absurd (cc)
  manchester_back (an_ontology in_bytes s) r = let n = (r (codes "m.omn") refl).0 in absurd (cc)
  manchester_back (a_graph graph) r = let n = (r (codes "m.omn") refl).0 in absurd (cc)
  manchester_back (the_frames e) r =
      let same = man.read_one_way bytes d e reads (r (codes "m.omn") refl).1.reads in
      record {
        said = record { prefixes = e.prefixes; ontology = o };
        says = (refl, means_there d e kinds o same means);
        ontology = refl;
        counts = refl;
      }

  manchester_reads : ReadsBack Manchester kinds bytes o 0
  manchester_reads = record { no_defect = manchester_whole; back = manchester_back }

-- what was translated to Manchester Syntax
pub manchester_again : (kinds : List Entity) (main : Said) (outcome : Outcome) → IsInManchester kinds main outcome → outcome.status ≡ Done → ReadsBack Manchester kinds outcome.text (manchester_form kinds (canonical_said main)).ontology 0
manchester_again kinds main outcome told done =
    let back = told.back (subst IsSuccess (sym done) tt) in
    let reads = back.reads kinds back.typed in
    manchester_reads outcome.text reads.document kinds (manchester_form kinds (canonical_said main)).ontology reads.reads reads.means

-- what is found out

module _ (kinds : List Entity) (said : Said) (canonical : canonical_ontology said.ontology ≡ said.ontology) (f : Findings) where
  pub are_found : f.axioms ≡ axiom_count said.ontology → f.distinct ≡ distinct_count said.ontology → f.triples ≡ length (graph_of (turtle_form (canonical_said said)).ontology) → IsTrue f.turtle ↔ IsSameOntology (turtle_form (canonical_said said)).ontology said.ontology → IsTrue f.manchester ↔ IsSameOntology (manchester_form kinds (canonical_said said)).ontology said.ontology → AreBreachCounts (alone kinds said.ontology) f.breaches → AreFindings kinds (canonical_said said) f
  are_found a d t u m b = record {
    axioms = a ∙ ap axiom_count (sym canonical);
    distinct = d ∙ ap distinct_count (sym canonical);
    triples = t;
    turtle = subst (λ (o : Ontology). IsTrue f.turtle ↔ IsSameOntology (turtle_form (canonical_said said)).ontology o) (sym canonical) u;
    manchester = subst (λ (o : Ontology). IsTrue f.manchester ↔ IsSameOntology (manchester_form kinds (canonical_said said)).ontology o) (sym canonical) m;
    breaches = subst (λ (o : Ontology). AreBreachCounts (alone kinds o) f.breaches) (sym canonical) b;
  }

-- the document of a trial

-- what is read in Functional-Style Syntax is an ontology
pub an_ontology_read : (bytes : List ℕ) (parsed : Parsed) → AreReadUnder Functional bytes parsed → (said : Said) × (parsed ≡ an_ontology in_functional said)
an_ontology_read bytes (an_ontology in_functional said) r = (said, refl)
an_ontology_read bytes (an_ontology in_bytes said) r = let n = (r trial_name refl).0 in absurd (cc)
an_ontology_read bytes (a_graph graph) r = let n = (r trial_name refl).0 in absurd (cc)
an_ontology_read bytes (the_frames d) r = let n = (r trial_name refl).0 in absurd (cc)

module _ (size : ℕ) (t : IsTrialSize size) where
  few : AreFew 0 (length (trial_document size))
  few = let short = document_short size t in record { own = short; all = omega (arith, short) }

  pub trial_read : (parsed : Parsed) (outcome : Outcome) → AreReadUnder Functional (trial_document size) parsed → IsTriedAs parsed outcome → IsTrialOutcome size outcome
  trial_read parsed outcome r h =
      let reads = subst (λ (p : Parsed). AreReadUnder Functional (trial_document size) p) h.is r in
      let behind : length (trial_document size) ≡ 0 + length (trial_document size) = omega arith in
      read h.said (length (trial_document size), (trial_document size, record { there = refl; few = few; reads = reads trial_name refl }, behind)) h.kinds
      (subst (λ (p : Parsed). AreOwnKinds p h.kinds) h.is h.own) h.tried

  pub trial_refused : (trouble : Trouble) (outcome : Outcome) → IsDefectUnder Functional (trial_document size) trouble → IsProperTrouble trouble → trouble ≢ ReadFailed → trouble ≢ Memory → outcome ≡ trouble_outcome trial_name trouble → IsTrialOutcome size outcome
  trial_refused ReadFailed outcome d p r m e = absurd (r refl)
  trial_refused Memory outcome d p r m e = absurd (m refl)
  trial_refused (Refused refusal) outcome d p r m e =
      not_read refusal (p refusal refl) (inl (refl, record { bytes = trial_document size; there = refl; refused = defective few (d refusal refl trial_name refl) })) e

-- what is read back

-- a name of a document in this syntax
named_in : (syntax : Syntax) → (name : List ℕ) × (syntax_of name ≡ syntax)
named_in Functional = (codes "m.ofn", refl)
named_in Turtle = (codes "m.ttl", refl)
named_in Manchester = (codes "m.omn", refl)
named_in Canonical = (codes "m.owc", refl)

-- a text without a defect has no trouble but want of memory
pub no_trouble : (syntax : Syntax) (bytes : List ℕ) (trouble : Trouble) → HasNoDefect syntax bytes → IsDefectUnder syntax bytes trouble → IsProperTrouble trouble → trouble ≢ ReadFailed → trouble ≢ Memory → ⊥
no_trouble syntax bytes ReadFailed whole d p r m = r refl
no_trouble syntax bytes Memory whole d p r m = m refl
no_trouble syntax bytes (Refused refusal) whole d p r m =
    let named = named_in syntax in
    whole named.0 refusal named.1 (p refusal refl) (d refusal refl named.0 named.1)

-- what says the same as one ontology says the same as an equivalent one
pub same_as : (f : Bool) (a b o : Ontology) → IsSameOntology a b → IsTrue f ↔ IsSameOntology a o → IsTrue f ↔ IsSameOntology b o
same_as f a b o s h =
    (λ t. same_ontology_trans b a o (same_ontology_sym a b s) (h.0 t), λ k. h.1 (same_ontology_trans a b o s k))

-- as many as are told
pub counted_breaches : (profile : Profile) (closure : ImportClosure) (found : List Breach) (count : ℕ) → TellBreaches profile closure found → count ≡ length found → HasBreaches profile (ontologies_of closure) count
counted_breaches profile closure found count t e = record {
  breaches = t.breaches;
  are = t.are;
  counted = e ∙ AllZip-long (Tells name_of closure.documents) t.breaches found t.told;
}

pub closure_alone : (closure : ImportClosure) (kinds : List Entity) (doc : Document) → closure.documents ≡ doc ∷ [] → closure.kinds ≡ kinds → ontologies_of closure ≡ alone kinds (ontology_of doc)
closure_alone closure kinds doc d k = λ i. record { all = map ontology_of (d i); kinds = k i }
