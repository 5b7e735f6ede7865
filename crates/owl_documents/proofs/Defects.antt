-- The bytes under a name are read in one way, or have one defect.
use Rattle.std.proofs.Common.{◌≡◌, ◌≤◌, ℕ, Option, List, [], ◌∷◌, length, ap, refl, sym, ◌∙◌, subst}
use Rattle.owl_characters.specs.Limit.{most_bytes}
use Rattle.owl_atom.specs.Prefixes.{iri_of}
use Rattle.owl_atom.specs.declared.prefixes.Prefix.{Prefix}
use Rattle.owl_tree.specs.Ontologies.{IsSameOntology, Ontology}
use Rattle.owl_canon.specs.Limits.{ReadsCanonical}
use Rattle.owl_reader.specs.declared.fault.ReadFault.{ReadFault}
use Rattle.fss_defects.specs.FirstDefects as fss
use Rattle.fss_terms.specs.Functional.{ReadsFunctional}
use Rattle.man_grammar.specs.Documents as man
use Rattle.man_grammar.specs.Documents.{AreSameDocuments, ReadsManchester}
use Rattle.man_raw.specs.Documents.{DocumentTree}
use Rattle.owl_atom.specs.PrefixLaws.{tables_are_told_by_names}
use Rattle.rdf_graph.specs.declared.triple.Triple.{Triple}
use Rattle.rdf_meaning.specs.Statements.{IsHeadOf, headers}
use Rattle.rdf_scans.specs.Outlines.{IsOutlineFault}
use Rattle.ttl_grammar.specs.Documents as ttl
use Rattle.ttl_grammar.specs.Documents.{ReadsTurtle}
use Rattle.owl_documents.specs.Documents.{GraphRead, IsDefect, Parsed, Reads, ReadsBytes, ReadsFrames, ReadsGraph, Said, a_graph, an_ontology, in_bytes, in_functional, of_bytes, of_functional, of_header, of_manchester, of_turtle, the_frames}
use Rattle.owl_documents.specs.OneWay.{IsSameGraph, IsSameParsed}
use Rattle.owl_documents.specs.declared.trouble.Refusal.{Refusal}
use Rattle.owl_documents.specs.declared.trouble.Refusal.TheVariants.{Headless, NotCanon, Unreadable}
use Rattle.owl_documents.proofs.Graphs.{no_fault, one_fault, same_head, same_tables}

-- what the grammars tell of all syntaxes
pub record GrammarLaws : Type 0 where
  pub functional : (bytes : List ℕ) (p q : List Prefix) (o u : Ontology) → ReadsFunctional bytes p o → ReadsFunctional bytes q u → (p ≡ q) × IsSameOntology o u
  pub no_functional : (bytes : List ℕ) (fault : ReadFault) (p : List Prefix) (o : Ontology) → fss.IsFirstDefect bytes fault → ReadsFunctional bytes p o → ⊥
  pub functional_defect : (bytes : List ℕ) (fault other : ReadFault) → length bytes ≤ most_bytes → fss.IsFirstDefect bytes fault → fss.IsFirstDefect bytes other → fault ≡ other
  pub canonical : (bytes : List ℕ) (o p : Ontology) → ReadsCanonical bytes o → ReadsCanonical bytes p → IsSameOntology o p
  pub turtle : (base : Option (List ℕ)) (bytes : List ℕ) (p q : List Prefix) (g h : List Triple) → ReadsTurtle base bytes p g → ReadsTurtle base bytes q h → (g ≡ h) × ((name : List ℕ) → iri_of p name ≡ iri_of q name)
  pub no_turtle : (base : Option (List ℕ)) (bytes : List ℕ) (fault : ReadFault) (p : List Prefix) (g : List Triple) → ttl.IsFirstDefect base bytes fault → ReadsTurtle base bytes p g → ⊥
  pub turtle_defect : (base : Option (List ℕ)) (bytes : List ℕ) (fault other : ReadFault) → length bytes ≤ most_bytes → ttl.IsFirstDefect base bytes fault → ttl.IsFirstDefect base bytes other → fault ≡ other
  pub manchester : (bytes : List ℕ) (d e : DocumentTree) → ReadsManchester bytes d → ReadsManchester bytes e → AreSameDocuments d e
  pub no_manchester : (bytes : List ℕ) (fault : ReadFault) (d : DocumentTree) → man.IsFirstDefect bytes fault → ReadsManchester bytes d → ⊥
  pub manchester_defect : (bytes : List ℕ) (fault other : ReadFault) → length bytes ≤ most_bytes → man.IsFirstDefect bytes fault → man.IsFirstDefect bytes other → fault ≡ other

module _ (laws : GrammarLaws) where
  same_frames : (bytes : List ℕ) (d e : DocumentTree) → ReadsFrames bytes d → ReadsFrames bytes e → d ≡ e
  same_frames bytes d e r s =
      let one = laws.manchester bytes d e r.reads s.reads in
      let prefixes = tables_are_told_by_names d.prefixes e.prefixes r.ascending s.ascending one.prefixes in
      λ i. record { head = one.head i; prefixes = prefixes i; notes = one.notes i; items = one.items i }

  same_graph : (base : Option (List ℕ)) (bytes : List ℕ) (a b : GraphRead) → ReadsGraph base bytes a → ReadsGraph base bytes b → IsSameGraph a b
  same_graph base bytes a b r s =
      let one = laws.turtle base bytes a.prefixes b.prefixes a.triples b.triples r.reads s.reads in
      record {
        prefixes = same_tables a.prefixes b.prefixes r.ascending s.ascending r.plain s.plain one.1;
        triples = one.0;
        head = same_head b.triples r.header s.header a.head b.head (subst (λ (g : List Triple). headers g ≡ r.header ∷ []) one.0 r.one_header) s.one_header (subst (λ (g : List Triple). IsHeadOf g r.header a.head) one.0 r.is_head) s.is_head;
        guessed = r.none_guessed ∙ sym s.none_guessed;
      }

  pub same_parsed : (base : Option (List ℕ)) (name bytes : List ℕ) (parsed other : Parsed) → Reads base name bytes parsed → Reads base name bytes other → IsSameParsed parsed other
  same_parsed base name bytes (an_ontology in_functional a) (an_ontology in_functional b) r s =
      let one = laws.functional bytes a.prefixes b.prefixes a.ontology b.ontology r.1 s.1 in
      (refl, record { prefixes = one.0; ontology = one.1 })
  same_parsed base name bytes (an_ontology in_bytes a) (an_ontology in_bytes b) r s =
      (refl, record { prefixes = r.1.prefixes ∙ sym s.1.prefixes; ontology = laws.canonical bytes a.ontology b.ontology r.1.reads s.1.reads })
  same_parsed base name bytes (an_ontology in_functional a) (an_ontology in_bytes b) r s = let one = r.0 in let other = s.0 in absurd (cc)
  same_parsed base name bytes (an_ontology in_bytes a) (an_ontology in_functional b) r s = let one = r.0 in let other = s.0 in absurd (cc)
  same_parsed base name bytes (an_ontology in_functional a) (a_graph b) r s = let no = r.0 in let yes = s.0 in cc
  same_parsed base name bytes (an_ontology in_bytes a) (a_graph b) r s = let no = r.0 in let yes = s.0 in cc
  same_parsed base name bytes (a_graph a) (an_ontology in_functional b) r s = let yes = r.0 in let no = s.0 in cc
  same_parsed base name bytes (a_graph a) (an_ontology in_bytes b) r s = let yes = r.0 in let no = s.0 in cc
  same_parsed base name bytes (a_graph a) (a_graph b) r s = same_graph base bytes a b r.1 s.1
  same_parsed base name bytes (the_frames a) (the_frames b) r s = same_frames bytes a b r.1 s.1
  same_parsed base name bytes (an_ontology in_functional a) (the_frames b) r s = let one = r.0 in let other = s.0 in cc
  same_parsed base name bytes (an_ontology in_bytes a) (the_frames b) r s = let one = r.0 in let other = s.0 in cc
  same_parsed base name bytes (a_graph a) (the_frames b) r s = let one = r.0 in let other = s.0 in cc
  same_parsed base name bytes (the_frames a) (an_ontology in_functional b) r s = let one = r.0 in let other = s.0 in cc
  same_parsed base name bytes (the_frames a) (an_ontology in_bytes b) r s = let one = r.0 in let other = s.0 in cc
  same_parsed base name bytes (the_frames a) (a_graph b) r s = let one = r.0 in let other = s.0 in cc

  pub no_defect : (base : Option (List ℕ)) (name bytes : List ℕ) (parsed : Parsed) (refusal : Refusal) → Reads base name bytes parsed → IsDefect base name bytes refusal → ⊥
  no_defect base name bytes (an_ontology in_functional a) _ r (of_functional fault t d) = laws.no_functional bytes fault a.prefixes a.ontology d r.1
  no_defect base name bytes (an_ontology in_functional a) _ r (of_turtle fault t d) = let f = r.0 in cc
  no_defect base name bytes (an_ontology in_functional a) _ r (of_header fault p g t s m f) = let n = r.0 in cc
  no_defect base name bytes (an_ontology in_functional a) _ r (of_manchester fault t d) = let f = r.0 in cc
  no_defect base name bytes (an_ontology in_functional a) _ r (of_bytes t n) = let f = r.0 in cc
  no_defect base name bytes (an_ontology in_bytes a) _ r (of_functional fault t d) = let f = r.0 in cc
  no_defect base name bytes (an_ontology in_bytes a) _ r (of_turtle fault t d) = let f = r.0 in cc
  no_defect base name bytes (an_ontology in_bytes a) _ r (of_header fault p g t s m f) = let n = r.0 in cc
  no_defect base name bytes (an_ontology in_bytes a) _ r (of_manchester fault t d) = let f = r.0 in cc
  no_defect base name bytes (an_ontology in_bytes a) _ r (of_bytes t n) = n a.ontology r.1.reads
  no_defect base name bytes (a_graph a) _ r (of_bytes t n) = let y = r.0 in cc
  no_defect base name bytes (the_frames a) _ r (of_bytes t n) = let y = r.0 in cc
  no_defect base name bytes (a_graph a) _ r (of_functional fault t d) = let y = r.0 in cc
  no_defect base name bytes (a_graph a) _ r (of_manchester fault t d) = let y = r.0 in cc
  no_defect base name bytes (the_frames a) _ r (of_functional fault t d) = let m = r.0 in cc
  no_defect base name bytes (the_frames a) _ r (of_turtle fault t d) = let m = r.0 in cc
  no_defect base name bytes (the_frames a) _ r (of_manchester fault t d) = laws.no_manchester bytes fault a d r.1.reads
  no_defect base name bytes (the_frames a) _ r (of_header fault p g t s m f) = let n = r.0 in cc
  no_defect base name bytes (a_graph a) _ r (of_turtle fault t d) = laws.no_turtle base bytes fault a.prefixes a.triples d r.1.reads
  no_defect base name bytes (a_graph a) _ r (of_header fault p g t s m f) =
      let same = (laws.turtle base bytes p a.prefixes g a.triples s r.1.reads).0 in
      no_fault a.triples fault r.1.header a.head r.1.one_header r.1.is_head m (subst (λ (h : List Triple). IsOutlineFault h fault) same f)

  pub one_defect : (base : Option (List ℕ)) (name bytes : List ℕ) (refusal other : Refusal) → length bytes ≤ most_bytes → IsDefect base name bytes refusal → IsDefect base name bytes other → refusal ≡ other
  one_defect base name bytes _ _ few (of_functional fault t d) (of_functional other u e) = ap Unreadable (laws.functional_defect bytes fault other few d e)
  one_defect base name bytes _ _ few (of_manchester fault t d) (of_manchester other u e) = ap Unreadable (laws.manchester_defect bytes fault other few d e)
  one_defect base name bytes _ _ few (of_turtle fault t d) (of_turtle other u e) = ap Unreadable (laws.turtle_defect base bytes fault other few d e)
  one_defect base name bytes _ _ few (of_turtle fault t d) (of_header other p g u s m f) = absurd (laws.no_turtle base bytes fault p g d s)
  one_defect base name bytes _ _ few (of_header fault p g t s m f) (of_turtle other u e) = absurd (laws.no_turtle base bytes other p g e s)
  one_defect base name bytes _ _ few (of_header fault p g t s m f) (of_header other q h u r n e) =
      let same = (laws.turtle base bytes p q g h s r).0 in
      ap Headless (one_fault h fault other m n (subst (λ (x : List Triple). IsOutlineFault x fault) same f) e)
  one_defect base name bytes _ _ few (of_bytes t n) (of_bytes u m) = refl
  one_defect base name bytes _ _ few (of_functional fault t d) (of_turtle other u e) = absurd (cc)
  one_defect base name bytes _ _ few (of_functional fault t d) (of_header other p g u s m f) = absurd (cc)
  one_defect base name bytes _ _ few (of_functional fault t d) (of_manchester other u e) = absurd (cc)
  one_defect base name bytes _ _ few (of_functional fault t d) (of_bytes u n) = absurd (cc)
  one_defect base name bytes _ _ few (of_turtle fault t d) (of_functional other u e) = absurd (cc)
  one_defect base name bytes _ _ few (of_turtle fault t d) (of_manchester other u e) = absurd (cc)
  one_defect base name bytes _ _ few (of_turtle fault t d) (of_bytes u n) = absurd (cc)
  one_defect base name bytes _ _ few (of_manchester fault t d) (of_functional other u e) = absurd (cc)
  one_defect base name bytes _ _ few (of_manchester fault t d) (of_turtle other u e) = absurd (cc)
  one_defect base name bytes _ _ few (of_manchester fault t d) (of_header other p g u s m f) = absurd (cc)
  one_defect base name bytes _ _ few (of_manchester fault t d) (of_bytes u n) = absurd (cc)
  one_defect base name bytes _ _ few (of_header fault p g t s m f) (of_functional other u e) = absurd (cc)
  one_defect base name bytes _ _ few (of_header fault p g t s m f) (of_manchester other u e) = absurd (cc)
  one_defect base name bytes _ _ few (of_header fault p g t s m f) (of_bytes u n) = absurd (cc)
  one_defect base name bytes _ _ few (of_bytes t n) (of_functional other u e) = absurd (cc)
  one_defect base name bytes _ _ few (of_bytes t n) (of_turtle other u e) = absurd (cc)
  one_defect base name bytes _ _ few (of_bytes t n) (of_manchester other u e) = absurd (cc)
  one_defect base name bytes _ _ few (of_bytes t n) (of_header other p g u s m f) = absurd (cc)
