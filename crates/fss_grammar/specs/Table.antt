-- The table of a grammar; `tools/make_grammar.py` made it.
use Rattle.std.specs.Prelude.{◌≡◌, ℕ, ◌≤◌, true, false, List, [], ◌∷◌, refl}
use Rattle.grammar.proofs.GrammarLaws.{beyond}
use Rattle.grammar.specs.Grammars.{Entry, entry}
use Rattle.grammar.specs.Predicting.{is_predictive, is_productive}
use Rattle.grammar.specs.declared.symbol.Symbol.TheVariants.{Act, Need, Rule}

-- document ::= prefixes Ontology @EndItem Opening header imports annotations axioms @EndItem Closing
unfoldable pub functional_document : Entry
functional_document = record {
  rows =
      record { mask = 0xc0000000000000000000; symbols = Rule 1 ∷ Need 79 ∷ Act 92 ∷ Need 88 ∷ Rule 2 ∷ Rule 4 ∷ Rule 5 ∷ Rule 6 ∷ Act 92 ∷ Need 89 ∷ [] }
      ∷ [];
  first = 0xc0000000000000000000;
  follow = 0x80000000000000000000000000000000;
  empty = false;
  cost = 2;
  rank = 1;
}

-- prefixes ::= % | Prefix Opening @DeclareName Alone Equals @DeclareIri Iri @EndItem Closing prefixes
unfoldable pub functional_prefixes : Entry
functional_prefixes = record {
  rows =
      record { mask = 0x80000000000080000000000000000000; symbols = [] }
      ∷ record { mask = 0x40000000000000000000; symbols = Need 78 ∷ Need 88 ∷ Act 85 ∷ Need 83 ∷ Need 90 ∷ Act 86 ∷ Need 81 ∷ Act 92 ∷ Need 89 ∷ Rule 1 ∷ [] }
      ∷ [];
  first = 0x40000000000000000000;
  follow = 0x80000000000080000000000000000000;
  empty = true;
  cost = 1;
  rank = 0;
}

-- header ::= % | @OntologyIri @EndItem iri version
unfoldable pub functional_header : Entry
functional_header = record {
  rows =
      record { mask = 0x8000000002013ffffffffe8000000000; symbols = [] }
      ∷ record { mask = 0xe00000000000000000000; symbols = Act 87 ∷ Act 92 ∷ Rule 8 ∷ Rule 3 ∷ [] }
      ∷ [];
  first = 0xe00000000000000000000;
  follow = 0x8000000002013ffffffffe8000000000;
  empty = true;
  cost = 4;
  rank = 0;
}

-- version ::= % | @VersionIri @EndItem iri
unfoldable pub functional_version : Entry
functional_version = record {
  rows =
      record { mask = 0x8000000002013ffffffffe8000000000; symbols = [] }
      ∷ record { mask = 0xe00000000000000000000; symbols = Act 88 ∷ Act 92 ∷ Rule 8 ∷ [] }
      ∷ [];
  first = 0xe00000000000000000000;
  follow = 0x8000000002013ffffffffe8000000000;
  empty = true;
  cost = 4;
  rank = 0;
}

-- imports ::= % | Import Opening @ImportIri iri @EndItem Closing imports
unfoldable pub functional_imports : Entry
functional_imports = record {
  rows =
      record { mask = 0x8000000002003ffffffffe8000000000; symbols = [] }
      ∷ record { mask = 0x100000000000000000000; symbols = Need 80 ∷ Need 88 ∷ Act 89 ∷ Rule 8 ∷ Act 92 ∷ Need 89 ∷ Rule 4 ∷ [] }
      ∷ [];
  first = 0x100000000000000000000;
  follow = 0x8000000002003ffffffffe8000000000;
  empty = true;
  cost = 1;
  rank = 0;
}

-- annotations ::= %
--     | @Annotation KAnnotation Opening one_notes one_annotation_property one_annotation_value @Shut @AddAnnotation @EndItem Closing annotations
unfoldable pub functional_annotations : Entry
functional_annotations = record {
  rows =
      record { mask = 0x8000000002003ffffffffe0000000000; symbols = [] }
      ∷ record { mask = 0x8000000000; symbols = Act 39 ∷ Need 39 ∷ Need 88 ∷ Rule 12 ∷ Rule 14 ∷ Rule 16 ∷ Act 78 ∷ Act 90 ∷ Act 92 ∷ Need 89 ∷ Rule 5 ∷ [] }
      ∷ [];
  first = 0x8000000000;
  follow = 0x8000000002003ffffffffe0000000000;
  empty = true;
  cost = 2;
  rank = 0;
}

-- axioms ::= % | axiom axioms
unfoldable pub functional_axioms : Entry
functional_axioms = record {
  rows =
      record { mask = 0x80000000020000000000000000000000; symbols = [] }
      ∷ record { mask = 0x3ffffffffe0000000000; symbols = Rule 7 ∷ Rule 6 ∷ [] }
      ∷ [];
  first = 0x3ffffffffe0000000000;
  follow = 0x80000000020000000000000000000000;
  empty = true;
  cost = 3;
  rank = 0;
}

-- axiom ::= @Declaration KDeclaration Opening one_notes one_entity @Shut @AddAxiom @EndItem Closing
--     | @SubClassOf KSubClassOf Opening one_notes one_class_expression one_class_expression @Shut @AddAxiom @EndItem Closing
--     | @EquivalentClasses KEquivalentClasses Opening one_notes one_class_expression one_class_expression many_class_expression @Shut @AddAxiom @EndItem Closing
--     | @DisjointClasses KDisjointClasses Opening one_notes one_class_expression one_class_expression many_class_expression @Shut @AddAxiom @EndItem Closing
--     | @DisjointUnion KDisjointUnion Opening one_notes one_class one_class_expression one_class_expression many_class_expression @Shut @AddAxiom @EndItem Closing
--     | @SubObjectPropertyOf KSubObjectPropertyOf Opening one_notes one_sub_object_property_expression one_object_property_expression @Shut @AddAxiom @EndItem Closing
--     | @EquivalentObjectProperties KEquivalentObjectProperties Opening one_notes one_object_property_expression one_object_property_expression many_object_property_expression @Shut @AddAxiom @EndItem Closing
--     | @DisjointObjectProperties KDisjointObjectProperties Opening one_notes one_object_property_expression one_object_property_expression many_object_property_expression @Shut @AddAxiom @EndItem Closing
--     | @InverseObjectProperties KInverseObjectProperties Opening one_notes one_object_property_expression one_object_property_expression @Shut @AddAxiom @EndItem Closing
--     | @ObjectPropertyDomain KObjectPropertyDomain Opening one_notes one_object_property_expression one_class_expression @Shut @AddAxiom @EndItem Closing
--     | @ObjectPropertyRange KObjectPropertyRange Opening one_notes one_object_property_expression one_class_expression @Shut @AddAxiom @EndItem Closing
--     | @FunctionalObjectProperty KFunctionalObjectProperty Opening one_notes one_object_property_expression @Shut @AddAxiom @EndItem Closing
--     | @InverseFunctionalObjectProperty KInverseFunctionalObjectProperty Opening one_notes one_object_property_expression @Shut @AddAxiom @EndItem Closing
--     | @ReflexiveObjectProperty KReflexiveObjectProperty Opening one_notes one_object_property_expression @Shut @AddAxiom @EndItem Closing
--     | @IrreflexiveObjectProperty KIrreflexiveObjectProperty Opening one_notes one_object_property_expression @Shut @AddAxiom @EndItem Closing
--     | @SymmetricObjectProperty KSymmetricObjectProperty Opening one_notes one_object_property_expression @Shut @AddAxiom @EndItem Closing
--     | @AsymmetricObjectProperty KAsymmetricObjectProperty Opening one_notes one_object_property_expression @Shut @AddAxiom @EndItem Closing
--     | @TransitiveObjectProperty KTransitiveObjectProperty Opening one_notes one_object_property_expression @Shut @AddAxiom @EndItem Closing
--     | @SubDataPropertyOf KSubDataPropertyOf Opening one_notes one_data_property_expression one_data_property_expression @Shut @AddAxiom @EndItem Closing
--     | @EquivalentDataProperties KEquivalentDataProperties Opening one_notes one_data_property_expression one_data_property_expression many_data_property_expression @Shut @AddAxiom @EndItem Closing
--     | @DisjointDataProperties KDisjointDataProperties Opening one_notes one_data_property_expression one_data_property_expression many_data_property_expression @Shut @AddAxiom @EndItem Closing
--     | @DataPropertyDomain KDataPropertyDomain Opening one_notes one_data_property_expression one_class_expression @Shut @AddAxiom @EndItem Closing
--     | @DataPropertyRange KDataPropertyRange Opening one_notes one_data_property_expression one_data_range @Shut @AddAxiom @EndItem Closing
--     | @FunctionalDataProperty KFunctionalDataProperty Opening one_notes one_data_property_expression @Shut @AddAxiom @EndItem Closing
--     | @DatatypeDefinition KDatatypeDefinition Opening one_notes one_datatype one_data_range @Shut @AddAxiom @EndItem Closing
--     | @HasKey KHasKey Opening one_notes one_class_expression one_object_keys one_data_keys @Shut @AddAxiom @EndItem Closing
--     | @SameIndividual KSameIndividual Opening one_notes one_individual one_individual many_individual @Shut @AddAxiom @EndItem Closing
--     | @DifferentIndividuals KDifferentIndividuals Opening one_notes one_individual one_individual many_individual @Shut @AddAxiom @EndItem Closing
--     | @ClassAssertion KClassAssertion Opening one_notes one_class_expression one_individual @Shut @AddAxiom @EndItem Closing
--     | @ObjectPropertyAssertion KObjectPropertyAssertion Opening one_notes one_object_property_expression one_individual one_individual @Shut @AddAxiom @EndItem Closing
--     | @NegativeObjectPropertyAssertion KNegativeObjectPropertyAssertion Opening one_notes one_object_property_expression one_individual one_individual @Shut @AddAxiom @EndItem Closing
--     | @DataPropertyAssertion KDataPropertyAssertion Opening one_notes one_data_property_expression one_individual one_literal @Shut @AddAxiom @EndItem Closing
--     | @NegativeDataPropertyAssertion KNegativeDataPropertyAssertion Opening one_notes one_data_property_expression one_individual one_literal @Shut @AddAxiom @EndItem Closing
--     | @AnnotationAssertion KAnnotationAssertion Opening one_notes one_annotation_property one_annotation_subject one_annotation_value @Shut @AddAxiom @EndItem Closing
--     | @SubAnnotationPropertyOf KSubAnnotationPropertyOf Opening one_notes one_annotation_property one_annotation_property @Shut @AddAxiom @EndItem Closing
--     | @AnnotationPropertyDomain KAnnotationPropertyDomain Opening one_notes one_annotation_property one_iri @Shut @AddAxiom @EndItem Closing
--     | @AnnotationPropertyRange KAnnotationPropertyRange Opening one_notes one_annotation_property one_iri @Shut @AddAxiom @EndItem Closing
unfoldable pub functional_axiom : Entry
functional_axiom = record {
  rows =
      record { mask = 0x20000000000; symbols = Act 41 ∷ Need 41 ∷ Need 88 ∷ Rule 12 ∷ Rule 33 ∷ Act 78 ∷ Act 91 ∷ Act 92 ∷ Need 89 ∷ [] }
      ∷ record { mask = 0x40000000000; symbols = Act 42 ∷ Need 42 ∷ Need 88 ∷ Rule 12 ∷ Rule 18 ∷ Rule 18 ∷ Act 78 ∷ Act 91 ∷ Act 92 ∷ Need 89 ∷ [] }
      ∷ record { mask = 0x80000000000; symbols = Act 43 ∷ Need 43 ∷ Need 88 ∷ Rule 12 ∷ Rule 18 ∷ Rule 18 ∷ Rule 35 ∷ Act 78 ∷ Act 91 ∷ Act 92 ∷ Need 89 ∷ [] }
      ∷ record { mask = 0x100000000000; symbols = Act 44 ∷ Need 44 ∷ Need 88 ∷ Rule 12 ∷ Rule 18 ∷ Rule 18 ∷ Rule 35 ∷ Act 78 ∷ Act 91 ∷ Act 92 ∷ Need 89 ∷ [] }
      ∷ record { mask = 0x200000000000; symbols = Act 45 ∷ Need 45 ∷ Need 88 ∷ Rule 12 ∷ Rule 19 ∷ Rule 18 ∷ Rule 18 ∷ Rule 35 ∷ Act 78 ∷ Act 91 ∷ Act 92 ∷ Need 89 ∷ [] }
      ∷ record { mask = 0x400000000000; symbols = Act 46 ∷ Need 46 ∷ Need 88 ∷ Rule 12 ∷ Rule 24 ∷ Rule 22 ∷ Act 78 ∷ Act 91 ∷ Act 92 ∷ Need 89 ∷ [] }
      ∷ record { mask = 0x800000000000; symbols = Act 47 ∷ Need 47 ∷ Need 88 ∷ Rule 12 ∷ Rule 22 ∷ Rule 22 ∷ Rule 37 ∷ Act 78 ∷ Act 91 ∷ Act 92 ∷ Need 89 ∷ [] }
      ∷ record { mask = 0x1000000000000; symbols = Act 48 ∷ Need 48 ∷ Need 88 ∷ Rule 12 ∷ Rule 22 ∷ Rule 22 ∷ Rule 37 ∷ Act 78 ∷ Act 91 ∷ Act 92 ∷ Need 89 ∷ [] }
      ∷ record { mask = 0x2000000000000; symbols = Act 49 ∷ Need 49 ∷ Need 88 ∷ Rule 12 ∷ Rule 22 ∷ Rule 22 ∷ Act 78 ∷ Act 91 ∷ Act 92 ∷ Need 89 ∷ [] }
      ∷ record { mask = 0x4000000000000; symbols = Act 50 ∷ Need 50 ∷ Need 88 ∷ Rule 12 ∷ Rule 22 ∷ Rule 18 ∷ Act 78 ∷ Act 91 ∷ Act 92 ∷ Need 89 ∷ [] }
      ∷ record { mask = 0x8000000000000; symbols = Act 51 ∷ Need 51 ∷ Need 88 ∷ Rule 12 ∷ Rule 22 ∷ Rule 18 ∷ Act 78 ∷ Act 91 ∷ Act 92 ∷ Need 89 ∷ [] }
      ∷ record { mask = 0x10000000000000; symbols = Act 52 ∷ Need 52 ∷ Need 88 ∷ Rule 12 ∷ Rule 22 ∷ Act 78 ∷ Act 91 ∷ Act 92 ∷ Need 89 ∷ [] }
      ∷ record { mask = 0x20000000000000; symbols = Act 53 ∷ Need 53 ∷ Need 88 ∷ Rule 12 ∷ Rule 22 ∷ Act 78 ∷ Act 91 ∷ Act 92 ∷ Need 89 ∷ [] }
      ∷ record { mask = 0x40000000000000; symbols = Act 54 ∷ Need 54 ∷ Need 88 ∷ Rule 12 ∷ Rule 22 ∷ Act 78 ∷ Act 91 ∷ Act 92 ∷ Need 89 ∷ [] }
      ∷ record { mask = 0x80000000000000; symbols = Act 55 ∷ Need 55 ∷ Need 88 ∷ Rule 12 ∷ Rule 22 ∷ Act 78 ∷ Act 91 ∷ Act 92 ∷ Need 89 ∷ [] }
      ∷ record { mask = 0x100000000000000; symbols = Act 56 ∷ Need 56 ∷ Need 88 ∷ Rule 12 ∷ Rule 22 ∷ Act 78 ∷ Act 91 ∷ Act 92 ∷ Need 89 ∷ [] }
      ∷ record { mask = 0x200000000000000; symbols = Act 57 ∷ Need 57 ∷ Need 88 ∷ Rule 12 ∷ Rule 22 ∷ Act 78 ∷ Act 91 ∷ Act 92 ∷ Need 89 ∷ [] }
      ∷ record { mask = 0x400000000000000; symbols = Act 58 ∷ Need 58 ∷ Need 88 ∷ Rule 12 ∷ Rule 22 ∷ Act 78 ∷ Act 91 ∷ Act 92 ∷ Need 89 ∷ [] }
      ∷ record { mask = 0x800000000000000; symbols = Act 59 ∷ Need 59 ∷ Need 88 ∷ Rule 12 ∷ Rule 25 ∷ Rule 25 ∷ Act 78 ∷ Act 91 ∷ Act 92 ∷ Need 89 ∷ [] }
      ∷ record { mask = 0x1000000000000000; symbols = Act 60 ∷ Need 60 ∷ Need 88 ∷ Rule 12 ∷ Rule 25 ∷ Rule 25 ∷ Rule 38 ∷ Act 78 ∷ Act 91 ∷ Act 92 ∷ Need 89 ∷ [] }
      ∷ record { mask = 0x2000000000000000; symbols = Act 61 ∷ Need 61 ∷ Need 88 ∷ Rule 12 ∷ Rule 25 ∷ Rule 25 ∷ Rule 38 ∷ Act 78 ∷ Act 91 ∷ Act 92 ∷ Need 89 ∷ [] }
      ∷ record { mask = 0x4000000000000000; symbols = Act 62 ∷ Need 62 ∷ Need 88 ∷ Rule 12 ∷ Rule 25 ∷ Rule 18 ∷ Act 78 ∷ Act 91 ∷ Act 92 ∷ Need 89 ∷ [] }
      ∷ record { mask = 0x8000000000000000; symbols = Act 63 ∷ Need 63 ∷ Need 88 ∷ Rule 12 ∷ Rule 25 ∷ Rule 20 ∷ Act 78 ∷ Act 91 ∷ Act 92 ∷ Need 89 ∷ [] }
      ∷ record { mask = 0x10000000000000000; symbols = Act 64 ∷ Need 64 ∷ Need 88 ∷ Rule 12 ∷ Rule 25 ∷ Act 78 ∷ Act 91 ∷ Act 92 ∷ Need 89 ∷ [] }
      ∷ record { mask = 0x20000000000000000; symbols = Act 65 ∷ Need 65 ∷ Need 88 ∷ Rule 12 ∷ Rule 21 ∷ Rule 20 ∷ Act 78 ∷ Act 91 ∷ Act 92 ∷ Need 89 ∷ [] }
      ∷ record { mask = 0x40000000000000000; symbols = Act 66 ∷ Need 66 ∷ Need 88 ∷ Rule 12 ∷ Rule 18 ∷ Rule 31 ∷ Rule 32 ∷ Act 78 ∷ Act 91 ∷ Act 92 ∷ Need 89 ∷ [] }
      ∷ record { mask = 0x80000000000000000; symbols = Act 67 ∷ Need 67 ∷ Need 88 ∷ Rule 12 ∷ Rule 26 ∷ Rule 26 ∷ Rule 39 ∷ Act 78 ∷ Act 91 ∷ Act 92 ∷ Need 89 ∷ [] }
      ∷ record { mask = 0x100000000000000000; symbols = Act 68 ∷ Need 68 ∷ Need 88 ∷ Rule 12 ∷ Rule 26 ∷ Rule 26 ∷ Rule 39 ∷ Act 78 ∷ Act 91 ∷ Act 92 ∷ Need 89 ∷ [] }
      ∷ record { mask = 0x200000000000000000; symbols = Act 69 ∷ Need 69 ∷ Need 88 ∷ Rule 12 ∷ Rule 18 ∷ Rule 26 ∷ Act 78 ∷ Act 91 ∷ Act 92 ∷ Need 89 ∷ [] }
      ∷ record { mask = 0x400000000000000000; symbols = Act 70 ∷ Need 70 ∷ Need 88 ∷ Rule 12 ∷ Rule 22 ∷ Rule 26 ∷ Rule 26 ∷ Act 78 ∷ Act 91 ∷ Act 92 ∷ Need 89 ∷ [] }
      ∷ record { mask = 0x800000000000000000; symbols = Act 71 ∷ Need 71 ∷ Need 88 ∷ Rule 12 ∷ Rule 22 ∷ Rule 26 ∷ Rule 26 ∷ Act 78 ∷ Act 91 ∷ Act 92 ∷ Need 89 ∷ [] }
      ∷ record { mask = 0x1000000000000000000; symbols = Act 72 ∷ Need 72 ∷ Need 88 ∷ Rule 12 ∷ Rule 25 ∷ Rule 26 ∷ Rule 27 ∷ Act 78 ∷ Act 91 ∷ Act 92 ∷ Need 89 ∷ [] }
      ∷ record { mask = 0x2000000000000000000; symbols = Act 73 ∷ Need 73 ∷ Need 88 ∷ Rule 12 ∷ Rule 25 ∷ Rule 26 ∷ Rule 27 ∷ Act 78 ∷ Act 91 ∷ Act 92 ∷ Need 89 ∷ [] }
      ∷ record { mask = 0x4000000000000000000; symbols = Act 74 ∷ Need 74 ∷ Need 88 ∷ Rule 12 ∷ Rule 14 ∷ Rule 15 ∷ Rule 16 ∷ Act 78 ∷ Act 91 ∷ Act 92 ∷ Need 89 ∷ [] }
      ∷ record { mask = 0x8000000000000000000; symbols = Act 75 ∷ Need 75 ∷ Need 88 ∷ Rule 12 ∷ Rule 14 ∷ Rule 14 ∷ Act 78 ∷ Act 91 ∷ Act 92 ∷ Need 89 ∷ [] }
      ∷ record { mask = 0x10000000000000000000; symbols = Act 76 ∷ Need 76 ∷ Need 88 ∷ Rule 12 ∷ Rule 14 ∷ Rule 17 ∷ Act 78 ∷ Act 91 ∷ Act 92 ∷ Need 89 ∷ [] }
      ∷ record { mask = 0x20000000000000000000; symbols = Act 77 ∷ Need 77 ∷ Need 88 ∷ Rule 12 ∷ Rule 14 ∷ Rule 17 ∷ Act 78 ∷ Act 91 ∷ Act 92 ∷ Need 89 ∷ [] }
      ∷ [];
  first = 0x3ffffffffe0000000000;
  follow = 0x8000000002003ffffffffe0000000000;
  empty = false;
  cost = 2;
  rank = 2;
}

-- iri ::= Iri | Name | Alone
unfoldable pub functional_iri : Entry
functional_iri = record {
  rows =
      record { mask = 0x200000000000000000000; symbols = Need 81 ∷ [] }
      ∷ record { mask = 0x400000000000000000000; symbols = Need 82 ∷ [] }
      ∷ record { mask = 0x800000000000000000000; symbols = Need 83 ∷ [] }
      ∷ [];
  first = 0xe00000000000000000000;
  follow = 0x80000000033f3ffffffffe8fffffd000;
  empty = false;
  cost = 1;
  rank = 0;
}

-- suffix ::= @Plain | @Tagged Language | Carets @Typed iri
unfoldable pub functional_suffix : Entry
functional_suffix = record {
  rows =
      record { mask = 0x80000000022e00000000000000000000; symbols = Act 79 ∷ [] }
      ∷ record { mask = 0x4000000000000000000000; symbols = Act 80 ∷ Need 86 ∷ [] }
      ∷ record { mask = 0x80000000000000000000000; symbols = Need 91 ∷ Act 81 ∷ Rule 8 ∷ [] }
      ∷ [];
  first = 0x84000000000000000000000;
  follow = 0x80000000022e00000000000000000000;
  empty = true;
  cost = 2;
  rank = 0;
}

-- after ::= @Hold iri behind
--     | @DataIntersectionOf KDataIntersectionOf Opening one_data_range one_data_range many_data_range @Shut Closing
--     | @DataUnionOf KDataUnionOf Opening one_data_range one_data_range many_data_range @Shut Closing
--     | @DataComplementOf KDataComplementOf Opening one_data_range @Shut Closing
--     | @DataOneOf KDataOneOf Opening one_literal many_literal @Shut Closing
--     | @DatatypeRestriction KDatatypeRestriction Opening one_datatype one_facet_pair many_facet_pair @Shut Closing
unfoldable pub functional_after : Entry
functional_after = record {
  rows =
      record { mask = 0xe00000000000000000000; symbols = Act 82 ∷ Rule 8 ∷ Rule 11 ∷ [] }
      ∷ record { mask = 0x80000000; symbols = Act 31 ∷ Need 31 ∷ Need 88 ∷ Rule 20 ∷ Rule 20 ∷ Rule 36 ∷ Act 78 ∷ Need 89 ∷ [] }
      ∷ record { mask = 0x100000000; symbols = Act 32 ∷ Need 32 ∷ Need 88 ∷ Rule 20 ∷ Rule 20 ∷ Rule 36 ∷ Act 78 ∷ Need 89 ∷ [] }
      ∷ record { mask = 0x200000000; symbols = Act 33 ∷ Need 33 ∷ Need 88 ∷ Rule 20 ∷ Act 78 ∷ Need 89 ∷ [] }
      ∷ record { mask = 0x400000000; symbols = Act 34 ∷ Need 34 ∷ Need 88 ∷ Rule 27 ∷ Rule 40 ∷ Act 78 ∷ Need 89 ∷ [] }
      ∷ record { mask = 0x800000000; symbols = Act 35 ∷ Need 35 ∷ Need 88 ∷ Rule 21 ∷ Rule 30 ∷ Rule 41 ∷ Act 78 ∷ Need 89 ∷ [] }
      ∷ [];
  first = 0xe00000000000f80000000;
  follow = 0x80000000020000000000000000000000;
  empty = false;
  cost = 3;
  rank = 1;
}

-- behind ::= @HeldDatatype | @HeldProperty after
unfoldable pub functional_behind : Entry
functional_behind = record {
  rows =
      record { mask = 0x80000000020000000000000000000000; symbols = Act 84 ∷ [] }
      ∷ record { mask = 0xe00000000000f80000000; symbols = Act 83 ∷ Rule 10 ∷ [] }
      ∷ [];
  first = 0xe00000000000f80000000;
  follow = 0x80000000020000000000000000000000;
  empty = true;
  cost = 5;
  rank = 0;
}

-- one_notes ::= @Notes many_annotation @Shut
unfoldable pub functional_one_notes : Entry
functional_one_notes = record {
  rows =
      record { mask = 0x80000000001e0000000000807ffff07e; symbols = Act 40 ∷ Rule 34 ∷ Act 78 ∷ [] }
      ∷ [];
  first = 0x8000000000;
  follow = 0x80000000001e0000000000007ffff07e;
  empty = true;
  cost = 6;
  rank = 1;
}

-- one_annotation ::= @Annotation KAnnotation Opening one_notes one_annotation_property one_annotation_value @Shut Closing
unfoldable pub functional_one_annotation : Entry
functional_one_annotation = record {
  rows =
      record { mask = 0x8000000000; symbols = Act 39 ∷ Need 39 ∷ Need 88 ∷ Rule 12 ∷ Rule 14 ∷ Rule 16 ∷ Act 78 ∷ Need 89 ∷ [] }
      ∷ [];
  first = 0x8000000000;
  follow = 0x80000000001e0000000000807ffff07e;
  empty = false;
  cost = 2;
  rank = 2;
}

-- one_annotation_property ::= @AnnotationProperty iri
unfoldable pub functional_one_annotation_property : Entry
functional_one_annotation_property = record {
  rows =
      record { mask = 0xe00000000000000000000; symbols = Act 5 ∷ Rule 8 ∷ [] }
      ∷ [];
  first = 0xe00000000000000000000;
  follow = 0x80000000023e00000000000000000000;
  empty = false;
  cost = 3;
  rank = 1;
}

-- one_annotation_subject ::= @Anonymous Label | @PlainIri iri
unfoldable pub functional_one_annotation_subject : Entry
functional_one_annotation_subject = record {
  rows =
      record { mask = 0x1000000000000000000000; symbols = Act 7 ∷ Need 84 ∷ [] }
      ∷ record { mask = 0xe00000000000000000000; symbols = Act 8 ∷ Rule 8 ∷ [] }
      ∷ [];
  first = 0x1e00000000000000000000;
  follow = 0x80000000003e00000000000000000000;
  empty = false;
  cost = 3;
  rank = 0;
}

-- one_annotation_value ::= @Anonymous Label | @PlainIri iri | @Literal Text suffix
unfoldable pub functional_one_annotation_value : Entry
functional_one_annotation_value = record {
  rows =
      record { mask = 0x1000000000000000000000; symbols = Act 7 ∷ Need 84 ∷ [] }
      ∷ record { mask = 0xe00000000000000000000; symbols = Act 8 ∷ Rule 8 ∷ [] }
      ∷ record { mask = 0x2000000000000000000000; symbols = Act 9 ∷ Need 85 ∷ Rule 9 ∷ [] }
      ∷ [];
  first = 0x3e00000000000000000000;
  follow = 0x80000000020000000000000000000000;
  empty = false;
  cost = 3;
  rank = 0;
}

-- one_iri ::= @PlainIri iri
unfoldable pub functional_one_iri : Entry
functional_one_iri = record {
  rows =
      record { mask = 0xe00000000000000000000; symbols = Act 8 ∷ Rule 8 ∷ [] }
      ∷ [];
  first = 0xe00000000000000000000;
  follow = 0x80000000020000000000000000000000;
  empty = false;
  cost = 3;
  rank = 1;
}

-- one_class_expression ::= @Class iri
--     | @ObjectIntersectionOf KObjectIntersectionOf Opening one_class_expression one_class_expression many_class_expression @Shut Closing
--     | @ObjectUnionOf KObjectUnionOf Opening one_class_expression one_class_expression many_class_expression @Shut Closing
--     | @ObjectComplementOf KObjectComplementOf Opening one_class_expression @Shut Closing
--     | @ObjectOneOf KObjectOneOf Opening one_individual many_individual @Shut Closing
--     | @ObjectSomeValuesFrom KObjectSomeValuesFrom Opening one_object_property_expression one_class_expression @Shut Closing
--     | @ObjectAllValuesFrom KObjectAllValuesFrom Opening one_object_property_expression one_class_expression @Shut Closing
--     | @ObjectHasValue KObjectHasValue Opening one_object_property_expression one_individual @Shut Closing
--     | @ObjectHasSelf KObjectHasSelf Opening one_object_property_expression @Shut Closing
--     | @ObjectMinCardinality KObjectMinCardinality Opening one_number one_object_property_expression maybe_class_expression @Shut Closing
--     | @ObjectMaxCardinality KObjectMaxCardinality Opening one_number one_object_property_expression maybe_class_expression @Shut Closing
--     | @ObjectExactCardinality KObjectExactCardinality Opening one_number one_object_property_expression maybe_class_expression @Shut Closing
--     | @DataSomeValuesFrom KDataSomeValuesFrom Opening one_data_property_expression after @Shut Closing
--     | @DataAllValuesFrom KDataAllValuesFrom Opening one_data_property_expression after @Shut Closing
--     | @DataHasValue KDataHasValue Opening one_data_property_expression one_literal @Shut Closing
--     | @DataMinCardinality KDataMinCardinality Opening one_number one_data_property_expression maybe_data_range @Shut Closing
--     | @DataMaxCardinality KDataMaxCardinality Opening one_number one_data_property_expression maybe_data_range @Shut Closing
--     | @DataExactCardinality KDataExactCardinality Opening one_number one_data_property_expression maybe_data_range @Shut Closing
unfoldable pub functional_one_class_expression : Entry
functional_one_class_expression = record {
  rows =
      record { mask = 0xe00000000000000000000; symbols = Act 1 ∷ Rule 8 ∷ [] }
      ∷ record { mask = 0x4000; symbols = Act 14 ∷ Need 14 ∷ Need 88 ∷ Rule 18 ∷ Rule 18 ∷ Rule 35 ∷ Act 78 ∷ Need 89 ∷ [] }
      ∷ record { mask = 0x8000; symbols = Act 15 ∷ Need 15 ∷ Need 88 ∷ Rule 18 ∷ Rule 18 ∷ Rule 35 ∷ Act 78 ∷ Need 89 ∷ [] }
      ∷ record { mask = 0x10000; symbols = Act 16 ∷ Need 16 ∷ Need 88 ∷ Rule 18 ∷ Act 78 ∷ Need 89 ∷ [] }
      ∷ record { mask = 0x20000; symbols = Act 17 ∷ Need 17 ∷ Need 88 ∷ Rule 26 ∷ Rule 39 ∷ Act 78 ∷ Need 89 ∷ [] }
      ∷ record { mask = 0x40000; symbols = Act 18 ∷ Need 18 ∷ Need 88 ∷ Rule 22 ∷ Rule 18 ∷ Act 78 ∷ Need 89 ∷ [] }
      ∷ record { mask = 0x80000; symbols = Act 19 ∷ Need 19 ∷ Need 88 ∷ Rule 22 ∷ Rule 18 ∷ Act 78 ∷ Need 89 ∷ [] }
      ∷ record { mask = 0x100000; symbols = Act 20 ∷ Need 20 ∷ Need 88 ∷ Rule 22 ∷ Rule 26 ∷ Act 78 ∷ Need 89 ∷ [] }
      ∷ record { mask = 0x200000; symbols = Act 21 ∷ Need 21 ∷ Need 88 ∷ Rule 22 ∷ Act 78 ∷ Need 89 ∷ [] }
      ∷ record { mask = 0x400000; symbols = Act 22 ∷ Need 22 ∷ Need 88 ∷ Rule 28 ∷ Rule 22 ∷ Rule 42 ∷ Act 78 ∷ Need 89 ∷ [] }
      ∷ record { mask = 0x800000; symbols = Act 23 ∷ Need 23 ∷ Need 88 ∷ Rule 28 ∷ Rule 22 ∷ Rule 42 ∷ Act 78 ∷ Need 89 ∷ [] }
      ∷ record { mask = 0x1000000; symbols = Act 24 ∷ Need 24 ∷ Need 88 ∷ Rule 28 ∷ Rule 22 ∷ Rule 42 ∷ Act 78 ∷ Need 89 ∷ [] }
      ∷ record { mask = 0x2000000; symbols = Act 25 ∷ Need 25 ∷ Need 88 ∷ Rule 25 ∷ Rule 10 ∷ Act 78 ∷ Need 89 ∷ [] }
      ∷ record { mask = 0x4000000; symbols = Act 26 ∷ Need 26 ∷ Need 88 ∷ Rule 25 ∷ Rule 10 ∷ Act 78 ∷ Need 89 ∷ [] }
      ∷ record { mask = 0x8000000; symbols = Act 27 ∷ Need 27 ∷ Need 88 ∷ Rule 25 ∷ Rule 27 ∷ Act 78 ∷ Need 89 ∷ [] }
      ∷ record { mask = 0x10000000; symbols = Act 28 ∷ Need 28 ∷ Need 88 ∷ Rule 28 ∷ Rule 25 ∷ Rule 43 ∷ Act 78 ∷ Need 89 ∷ [] }
      ∷ record { mask = 0x20000000; symbols = Act 29 ∷ Need 29 ∷ Need 88 ∷ Rule 28 ∷ Rule 25 ∷ Rule 43 ∷ Act 78 ∷ Need 89 ∷ [] }
      ∷ record { mask = 0x40000000; symbols = Act 30 ∷ Need 30 ∷ Need 88 ∷ Rule 28 ∷ Rule 25 ∷ Rule 43 ∷ Act 78 ∷ Need 89 ∷ [] }
      ∷ [];
  first = 0xe0000000000007fffc000;
  follow = 0x80000000031e0000000000007fffc000;
  empty = false;
  cost = 3;
  rank = 1;
}

-- one_class ::= @Class iri
unfoldable pub functional_one_class : Entry
functional_one_class = record {
  rows =
      record { mask = 0xe00000000000000000000; symbols = Act 1 ∷ Rule 8 ∷ [] }
      ∷ [];
  first = 0xe00000000000000000000;
  follow = 0x80000000000e0000000000007fffc000;
  empty = false;
  cost = 3;
  rank = 1;
}

-- one_data_range ::= @Datatype iri
--     | @DataIntersectionOf KDataIntersectionOf Opening one_data_range one_data_range many_data_range @Shut Closing
--     | @DataUnionOf KDataUnionOf Opening one_data_range one_data_range many_data_range @Shut Closing
--     | @DataComplementOf KDataComplementOf Opening one_data_range @Shut Closing
--     | @DataOneOf KDataOneOf Opening one_literal many_literal @Shut Closing
--     | @DatatypeRestriction KDatatypeRestriction Opening one_datatype one_facet_pair many_facet_pair @Shut Closing
unfoldable pub functional_one_data_range : Entry
functional_one_data_range = record {
  rows =
      record { mask = 0xe00000000000000000000; symbols = Act 2 ∷ Rule 8 ∷ [] }
      ∷ record { mask = 0x80000000; symbols = Act 31 ∷ Need 31 ∷ Need 88 ∷ Rule 20 ∷ Rule 20 ∷ Rule 36 ∷ Act 78 ∷ Need 89 ∷ [] }
      ∷ record { mask = 0x100000000; symbols = Act 32 ∷ Need 32 ∷ Need 88 ∷ Rule 20 ∷ Rule 20 ∷ Rule 36 ∷ Act 78 ∷ Need 89 ∷ [] }
      ∷ record { mask = 0x200000000; symbols = Act 33 ∷ Need 33 ∷ Need 88 ∷ Rule 20 ∷ Act 78 ∷ Need 89 ∷ [] }
      ∷ record { mask = 0x400000000; symbols = Act 34 ∷ Need 34 ∷ Need 88 ∷ Rule 27 ∷ Rule 40 ∷ Act 78 ∷ Need 89 ∷ [] }
      ∷ record { mask = 0x800000000; symbols = Act 35 ∷ Need 35 ∷ Need 88 ∷ Rule 21 ∷ Rule 30 ∷ Rule 41 ∷ Act 78 ∷ Need 89 ∷ [] }
      ∷ [];
  first = 0xe00000000000f80000000;
  follow = 0x80000000020e00000000000f80000000;
  empty = false;
  cost = 3;
  rank = 1;
}

-- one_datatype ::= @Datatype iri
unfoldable pub functional_one_datatype : Entry
functional_one_datatype = record {
  rows =
      record { mask = 0xe00000000000000000000; symbols = Act 2 ∷ Rule 8 ∷ [] }
      ∷ [];
  first = 0xe00000000000000000000;
  follow = 0x80000000000e00000000000f80000000;
  empty = false;
  cost = 3;
  rank = 1;
}

-- one_object_property_expression ::= @ObjectProperty iri | @ObjectInverseOf KObjectInverseOf Opening one_object_property @Shut Closing
unfoldable pub functional_one_object_property_expression : Entry
functional_one_object_property_expression = record {
  rows =
      record { mask = 0xe00000000000000000000; symbols = Act 3 ∷ Rule 8 ∷ [] }
      ∷ record { mask = 0x1000; symbols = Act 12 ∷ Need 12 ∷ Need 88 ∷ Rule 23 ∷ Act 78 ∷ Need 89 ∷ [] }
      ∷ [];
  first = 0xe00000000000000001000;
  follow = 0x80000000021e0000000000007fffd000;
  empty = false;
  cost = 3;
  rank = 1;
}

-- one_object_property ::= @ObjectProperty iri
unfoldable pub functional_one_object_property : Entry
functional_one_object_property = record {
  rows =
      record { mask = 0xe00000000000000000000; symbols = Act 3 ∷ Rule 8 ∷ [] }
      ∷ [];
  first = 0xe00000000000000000000;
  follow = 0x80000000020000000000000000000000;
  empty = false;
  cost = 3;
  rank = 1;
}

-- one_sub_object_property_expression ::= @ObjectProperty iri
--     | @ObjectInverseOf KObjectInverseOf Opening one_object_property @Shut Closing
--     | @ObjectPropertyChain KObjectPropertyChain Opening one_object_property_expression one_object_property_expression many_object_property_expression @Shut Closing
unfoldable pub functional_one_sub_object_property_expression : Entry
functional_one_sub_object_property_expression = record {
  rows =
      record { mask = 0xe00000000000000000000; symbols = Act 3 ∷ Rule 8 ∷ [] }
      ∷ record { mask = 0x1000; symbols = Act 12 ∷ Need 12 ∷ Need 88 ∷ Rule 23 ∷ Act 78 ∷ Need 89 ∷ [] }
      ∷ record { mask = 0x2000; symbols = Act 13 ∷ Need 13 ∷ Need 88 ∷ Rule 22 ∷ Rule 22 ∷ Rule 37 ∷ Act 78 ∷ Need 89 ∷ [] }
      ∷ [];
  first = 0xe00000000000000003000;
  follow = 0x80000000000e00000000000000001000;
  empty = false;
  cost = 3;
  rank = 1;
}

-- one_data_property_expression ::= @DataProperty iri
unfoldable pub functional_one_data_property_expression : Entry
functional_one_data_property_expression = record {
  rows =
      record { mask = 0xe00000000000000000000; symbols = Act 4 ∷ Rule 8 ∷ [] }
      ∷ [];
  first = 0xe00000000000000000000;
  follow = 0x80000000023e00000000000fffffc000;
  empty = false;
  cost = 3;
  rank = 1;
}

-- one_individual ::= @NamedIndividual iri | @Anonymous Label
unfoldable pub functional_one_individual : Entry
functional_one_individual = record {
  rows =
      record { mask = 0xe00000000000000000000; symbols = Act 6 ∷ Rule 8 ∷ [] }
      ∷ record { mask = 0x1000000000000000000000; symbols = Act 7 ∷ Need 84 ∷ [] }
      ∷ [];
  first = 0x1e00000000000000000000;
  follow = 0x80000000023e00000000000000000000;
  empty = false;
  cost = 3;
  rank = 0;
}

-- one_literal ::= @Literal Text suffix
unfoldable pub functional_one_literal : Entry
functional_one_literal = record {
  rows =
      record { mask = 0x2000000000000000000000; symbols = Act 9 ∷ Need 85 ∷ Rule 9 ∷ [] }
      ∷ [];
  first = 0x2000000000000000000000;
  follow = 0x80000000022e00000000000000000000;
  empty = false;
  cost = 2;
  rank = 1;
}

-- one_number ::= @Number Digits
unfoldable pub functional_one_number : Entry
functional_one_number = record {
  rows =
      record { mask = 0x8000000000000000000000; symbols = Act 10 ∷ Need 87 ∷ [] }
      ∷ [];
  first = 0x8000000000000000000000;
  follow = 0x80000000000e00000000000000001000;
  empty = false;
  cost = 2;
  rank = 0;
}

-- one_facet ::= @Facet iri
unfoldable pub functional_one_facet : Entry
functional_one_facet = record {
  rows =
      record { mask = 0xe00000000000000000000; symbols = Act 11 ∷ Rule 8 ∷ [] }
      ∷ [];
  first = 0xe00000000000000000000;
  follow = 0x80000000002000000000000000000000;
  empty = false;
  cost = 3;
  rank = 1;
}

-- one_facet_pair ::= @FacetPair one_facet one_literal @Shut
unfoldable pub functional_one_facet_pair : Entry
functional_one_facet_pair = record {
  rows =
      record { mask = 0xe00000000000000000000; symbols = Act 36 ∷ Rule 29 ∷ Rule 27 ∷ Act 78 ∷ [] }
      ∷ [];
  first = 0xe00000000000000000000;
  follow = 0x80000000020e00000000000000000000;
  empty = false;
  cost = 5;
  rank = 2;
}

-- one_object_keys ::= @ObjectKeys Opening many_object_property_expression @Shut Closing
unfoldable pub functional_one_object_keys : Entry
functional_one_object_keys = record {
  rows =
      record { mask = 0x10000000000000000000000; symbols = Act 37 ∷ Need 88 ∷ Rule 37 ∷ Act 78 ∷ Need 89 ∷ [] }
      ∷ [];
  first = 0x10000000000000000000000;
  follow = 0x80000000010000000000000000000000;
  empty = false;
  cost = 2;
  rank = 1;
}

-- one_data_keys ::= @DataKeys Opening many_data_property_expression @Shut Closing
unfoldable pub functional_one_data_keys : Entry
functional_one_data_keys = record {
  rows =
      record { mask = 0x10000000000000000000000; symbols = Act 38 ∷ Need 88 ∷ Rule 38 ∷ Act 78 ∷ Need 89 ∷ [] }
      ∷ [];
  first = 0x10000000000000000000000;
  follow = 0x80000000020000000000000000000000;
  empty = false;
  cost = 2;
  rank = 1;
}

-- one_entity ::= KClass Opening @Class iri Closing
--     | KDatatype Opening @Datatype iri Closing
--     | KObjectProperty Opening @ObjectProperty iri Closing
--     | KDataProperty Opening @DataProperty iri Closing
--     | KAnnotationProperty Opening @AnnotationProperty iri Closing
--     | KNamedIndividual Opening @NamedIndividual iri Closing
unfoldable pub functional_one_entity : Entry
functional_one_entity = record {
  rows =
      record { mask = 0x2; symbols = Need 1 ∷ Need 88 ∷ Act 1 ∷ Rule 8 ∷ Need 89 ∷ [] }
      ∷ record { mask = 0x4; symbols = Need 2 ∷ Need 88 ∷ Act 2 ∷ Rule 8 ∷ Need 89 ∷ [] }
      ∷ record { mask = 0x8; symbols = Need 3 ∷ Need 88 ∷ Act 3 ∷ Rule 8 ∷ Need 89 ∷ [] }
      ∷ record { mask = 0x10; symbols = Need 4 ∷ Need 88 ∷ Act 4 ∷ Rule 8 ∷ Need 89 ∷ [] }
      ∷ record { mask = 0x20; symbols = Need 5 ∷ Need 88 ∷ Act 5 ∷ Rule 8 ∷ Need 89 ∷ [] }
      ∷ record { mask = 0x40; symbols = Need 6 ∷ Need 88 ∷ Act 6 ∷ Rule 8 ∷ Need 89 ∷ [] }
      ∷ [];
  first = 0x7e;
  follow = 0x80000000020000000000000000000000;
  empty = false;
  cost = 1;
  rank = 1;
}

-- many_annotation ::= % | one_annotation many_annotation
unfoldable pub functional_many_annotation : Entry
functional_many_annotation = record {
  rows =
      record { mask = 0x80000000001e0000000000007ffff07e; symbols = [] }
      ∷ record { mask = 0x8000000000; symbols = Rule 13 ∷ Rule 34 ∷ [] }
      ∷ [];
  first = 0x8000000000;
  follow = 0x80000000001e0000000000007ffff07e;
  empty = true;
  cost = 3;
  rank = 0;
}

-- many_class_expression ::= % | one_class_expression many_class_expression
unfoldable pub functional_many_class_expression : Entry
functional_many_class_expression = record {
  rows =
      record { mask = 0x80000000020000000000000000000000; symbols = [] }
      ∷ record { mask = 0xe0000000000007fffc000; symbols = Rule 18 ∷ Rule 35 ∷ [] }
      ∷ [];
  first = 0xe0000000000007fffc000;
  follow = 0x80000000020000000000000000000000;
  empty = true;
  cost = 4;
  rank = 0;
}

-- many_data_range ::= % | one_data_range many_data_range
unfoldable pub functional_many_data_range : Entry
functional_many_data_range = record {
  rows =
      record { mask = 0x80000000020000000000000000000000; symbols = [] }
      ∷ record { mask = 0xe00000000000f80000000; symbols = Rule 20 ∷ Rule 36 ∷ [] }
      ∷ [];
  first = 0xe00000000000f80000000;
  follow = 0x80000000020000000000000000000000;
  empty = true;
  cost = 4;
  rank = 0;
}

-- many_object_property_expression ::= % | one_object_property_expression many_object_property_expression
unfoldable pub functional_many_object_property_expression : Entry
functional_many_object_property_expression = record {
  rows =
      record { mask = 0x80000000020000000000000000000000; symbols = [] }
      ∷ record { mask = 0xe00000000000000001000; symbols = Rule 22 ∷ Rule 37 ∷ [] }
      ∷ [];
  first = 0xe00000000000000001000;
  follow = 0x80000000020000000000000000000000;
  empty = true;
  cost = 4;
  rank = 0;
}

-- many_data_property_expression ::= % | one_data_property_expression many_data_property_expression
unfoldable pub functional_many_data_property_expression : Entry
functional_many_data_property_expression = record {
  rows =
      record { mask = 0x80000000020000000000000000000000; symbols = [] }
      ∷ record { mask = 0xe00000000000000000000; symbols = Rule 25 ∷ Rule 38 ∷ [] }
      ∷ [];
  first = 0xe00000000000000000000;
  follow = 0x80000000020000000000000000000000;
  empty = true;
  cost = 4;
  rank = 0;
}

-- many_individual ::= % | one_individual many_individual
unfoldable pub functional_many_individual : Entry
functional_many_individual = record {
  rows =
      record { mask = 0x80000000020000000000000000000000; symbols = [] }
      ∷ record { mask = 0x1e00000000000000000000; symbols = Rule 26 ∷ Rule 39 ∷ [] }
      ∷ [];
  first = 0x1e00000000000000000000;
  follow = 0x80000000020000000000000000000000;
  empty = true;
  cost = 4;
  rank = 0;
}

-- many_literal ::= % | one_literal many_literal
unfoldable pub functional_many_literal : Entry
functional_many_literal = record {
  rows =
      record { mask = 0x80000000020000000000000000000000; symbols = [] }
      ∷ record { mask = 0x2000000000000000000000; symbols = Rule 27 ∷ Rule 40 ∷ [] }
      ∷ [];
  first = 0x2000000000000000000000;
  follow = 0x80000000020000000000000000000000;
  empty = true;
  cost = 3;
  rank = 0;
}

-- many_facet_pair ::= % | one_facet_pair many_facet_pair
unfoldable pub functional_many_facet_pair : Entry
functional_many_facet_pair = record {
  rows =
      record { mask = 0x80000000020000000000000000000000; symbols = [] }
      ∷ record { mask = 0xe00000000000000000000; symbols = Rule 30 ∷ Rule 41 ∷ [] }
      ∷ [];
  first = 0xe00000000000000000000;
  follow = 0x80000000020000000000000000000000;
  empty = true;
  cost = 6;
  rank = 0;
}

-- maybe_class_expression ::= % | one_class_expression
unfoldable pub functional_maybe_class_expression : Entry
functional_maybe_class_expression = record {
  rows =
      record { mask = 0x80000000020000000000000000000000; symbols = [] }
      ∷ record { mask = 0xe0000000000007fffc000; symbols = Rule 18 ∷ [] }
      ∷ [];
  first = 0xe0000000000007fffc000;
  follow = 0x80000000020000000000000000000000;
  empty = true;
  cost = 4;
  rank = 0;
}

-- maybe_data_range ::= % | one_data_range
unfoldable pub functional_maybe_data_range : Entry
functional_maybe_data_range = record {
  rows =
      record { mask = 0x80000000020000000000000000000000; symbols = [] }
      ∷ record { mask = 0xe00000000000f80000000; symbols = Rule 20 ∷ [] }
      ∷ [];
  first = 0xe00000000000f80000000;
  follow = 0x80000000020000000000000000000000;
  empty = true;
  cost = 4;
  rank = 0;
}

unfoldable pub functional : List Entry
functional =
    functional_document ∷ functional_prefixes ∷ functional_header ∷ functional_version ∷ functional_imports ∷ functional_annotations ∷ functional_axioms ∷ functional_axiom ∷ functional_iri ∷ functional_suffix ∷ functional_after ∷ functional_behind ∷ functional_one_notes ∷ functional_one_annotation ∷ functional_one_annotation_property ∷ functional_one_annotation_subject ∷ functional_one_annotation_value ∷ functional_one_iri ∷ functional_one_class_expression ∷ functional_one_class ∷ functional_one_data_range ∷ functional_one_datatype ∷ functional_one_object_property_expression ∷ functional_one_object_property ∷ functional_one_sub_object_property_expression ∷ functional_one_data_property_expression ∷ functional_one_individual ∷ functional_one_literal ∷ functional_one_number ∷ functional_one_facet ∷ functional_one_facet_pair ∷ functional_one_object_keys ∷ functional_one_data_keys ∷ functional_one_entity ∷ functional_many_annotation ∷ functional_many_class_expression ∷ functional_many_data_range ∷ functional_many_object_property_expression ∷ functional_many_data_property_expression ∷ functional_many_individual ∷ functional_many_literal ∷ functional_many_facet_pair ∷ functional_maybe_class_expression ∷ functional_maybe_data_range ∷ []

pub functional_beyond : (r : ℕ) → 44 ≤ r → [] ≡ (entry functional r).rows
unfolding functional
functional_beyond r h = beyond functional r h

pub functional_is_predictive : is_predictive functional ≡ true
unfolding is_predictive functional functional_document functional_prefixes functional_header functional_version functional_imports functional_annotations functional_axioms functional_axiom functional_iri functional_suffix functional_after functional_behind functional_one_notes functional_one_annotation functional_one_annotation_property functional_one_annotation_subject functional_one_annotation_value functional_one_iri functional_one_class_expression functional_one_class functional_one_data_range functional_one_datatype functional_one_object_property_expression functional_one_object_property functional_one_sub_object_property_expression functional_one_data_property_expression functional_one_individual functional_one_literal functional_one_number functional_one_facet functional_one_facet_pair functional_one_object_keys functional_one_data_keys functional_one_entity functional_many_annotation functional_many_class_expression functional_many_data_range functional_many_object_property_expression functional_many_data_property_expression functional_many_individual functional_many_literal functional_many_facet_pair functional_maybe_class_expression functional_maybe_data_range
functional_is_predictive = refl

pub functional_is_productive : is_productive functional ≡ true
unfolding is_productive functional functional_document functional_prefixes functional_header functional_version functional_imports functional_annotations functional_axioms functional_axiom functional_iri functional_suffix functional_after functional_behind functional_one_notes functional_one_annotation functional_one_annotation_property functional_one_annotation_subject functional_one_annotation_value functional_one_iri functional_one_class_expression functional_one_class functional_one_data_range functional_one_datatype functional_one_object_property_expression functional_one_object_property functional_one_sub_object_property_expression functional_one_data_property_expression functional_one_individual functional_one_literal functional_one_number functional_one_facet functional_one_facet_pair functional_one_object_keys functional_one_data_keys functional_one_entity functional_many_annotation functional_many_class_expression functional_many_data_range functional_many_object_property_expression functional_many_data_property_expression functional_many_individual functional_many_literal functional_many_facet_pair functional_maybe_class_expression functional_maybe_data_range
functional_is_productive = refl
