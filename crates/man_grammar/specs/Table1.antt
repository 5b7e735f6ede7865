-- Rules of a grammar as entries of its table; `tools/make_grammar.py` made it.
use Rattle.std.specs.Prelude.{true, false, [], ◌∷◌}
use Rattle.grammar.specs.Grammars.{Entry}
use Rattle.grammar.specs.declared.symbol.Symbol.TheVariants.{Act, Need, Rule}

-- document ::= prefixes Ontology header imports head_notes items
unfoldable pub manchester_document : Entry
manchester_document = record {
  rows =
      record { mask = 0x3; symbols = Rule 1 ∷ Need 1 ∷ Rule 2 ∷ Rule 4 ∷ Rule 5 ∷ Rule 6 ∷ [] }
      ∷ [];
  first = 0x3;
  follow = 0x80000000000000000000000000000000;
  empty = false;
  cost = 2;
  rank = 1;
}

-- prefixes ::= % | Prefix @NamePrefix Namespace @DeclarePrefix IriRef prefixes
unfoldable pub manchester_prefixes : Entry
manchester_prefixes = record {
  rows =
      record { mask = 0x80000000000000000000000000000002; symbols = [] }
      ∷ record { mask = 0x1; symbols = Need 0 ∷ Act 0 ∷ Need 65 ∷ Act 1 ∷ Need 63 ∷ Rule 1 ∷ [] }
      ∷ [];
  first = 0x1;
  follow = 0x80000000000000000000000000000002;
  empty = true;
  cost = 1;
  rank = 0;
}

-- header ::= % | @OntologyIri iri version
unfoldable pub manchester_header : Entry
manchester_header = record {
  rows =
      record { mask = 0x8000000000000000000000000000fffc; symbols = [] }
      ∷ record { mask = 0x38000000000000000; symbols = Act 2 ∷ Rule 78 ∷ Rule 3 ∷ [] }
      ∷ [];
  first = 0x38000000000000000;
  follow = 0x8000000000000000000000000000fffc;
  empty = true;
  cost = 3;
  rank = 0;
}

-- version ::= % | @VersionIri iri
unfoldable pub manchester_version : Entry
manchester_version = record {
  rows =
      record { mask = 0x8000000000000000000000000000fffc; symbols = [] }
      ∷ record { mask = 0x38000000000000000; symbols = Act 3 ∷ Rule 78 ∷ [] }
      ∷ [];
  first = 0x38000000000000000;
  follow = 0x8000000000000000000000000000fffc;
  empty = true;
  cost = 3;
  rank = 0;
}

-- imports ::= % | Import @ImportIri iri imports
unfoldable pub manchester_imports : Entry
manchester_imports = record {
  rows =
      record { mask = 0x8000000000000000000000000000fff8; symbols = [] }
      ∷ record { mask = 0x4; symbols = Need 2 ∷ Act 4 ∷ Rule 78 ∷ Rule 4 ∷ [] }
      ∷ [];
  first = 0x4;
  follow = 0x8000000000000000000000000000fff8;
  empty = true;
  cost = 1;
  rank = 0;
}

-- head_notes ::= % | @Open notes @HeadNotes head_notes
unfoldable pub manchester_head_notes : Entry
manchester_head_notes = record {
  rows =
      record { mask = 0x8000000000000000000000000000fff0; symbols = [] }
      ∷ record { mask = 0x8; symbols = Act 6 ∷ Rule 38 ∷ Act 5 ∷ Rule 5 ∷ [] }
      ∷ [];
  first = 0x8;
  follow = 0x8000000000000000000000000000fff0;
  empty = true;
  cost = 5;
  rank = 0;
}

-- items ::= % | item items
unfoldable pub manchester_items : Entry
manchester_items = record {
  rows =
      record { mask = 0x80000000000000000000000000000000; symbols = [] }
      ∷ record { mask = 0xfff0; symbols = Rule 7 ∷ Rule 6 ∷ [] }
      ∷ [];
  first = 0xfff0;
  follow = 0x80000000000000000000000000000000;
  empty = true;
  cost = 3;
  rank = 0;
}

-- item ::= @ItemClass Class @Open name @Subject class_sections
--     | @ItemDatatype Datatype @Open name @Subject datatype_sections
--     | @ItemObjectProperty ObjectProperty @Open name @Subject object_sections
--     | @ItemDataProperty DataProperty @Open name @Subject data_sections
--     | @ItemAnnotationProperty AnnotationProperty @Open name @Subject annotation_sections
--     | @ItemIndividual Individual @Open individual @Subject individual_sections
--     | @ItemEquivalentClasses EquivalentClasses @Open opt_notes expressions @Part
--     | @ItemDisjointClasses DisjointClasses @Open opt_notes expressions @Part
--     | @ItemEquivalentProperties EquivalentProperties @Open opt_notes properties @Part
--     | @ItemDisjointProperties DisjointProperties @Open opt_notes properties @Part
--     | @ItemSameIndividual SameIndividual @Open opt_notes individuals @Part
--     | @ItemDifferentIndividuals DifferentIndividuals @Open opt_notes individuals @Part
unfoldable pub manchester_item : Entry
manchester_item = record {
  rows =
      record { mask = 0x10; symbols = Act 22 ∷ Need 4 ∷ Act 6 ∷ Rule 75 ∷ Act 7 ∷ Rule 8 ∷ [] }
      ∷ record { mask = 0x20; symbols = Act 23 ∷ Need 5 ∷ Act 6 ∷ Rule 75 ∷ Act 7 ∷ Rule 10 ∷ [] }
      ∷ record { mask = 0x40; symbols = Act 24 ∷ Need 6 ∷ Act 6 ∷ Rule 75 ∷ Act 7 ∷ Rule 12 ∷ [] }
      ∷ record { mask = 0x80; symbols = Act 25 ∷ Need 7 ∷ Act 6 ∷ Rule 75 ∷ Act 7 ∷ Rule 14 ∷ [] }
      ∷ record { mask = 0x100; symbols = Act 26 ∷ Need 8 ∷ Act 6 ∷ Rule 75 ∷ Act 7 ∷ Rule 16 ∷ [] }
      ∷ record { mask = 0x200; symbols = Act 27 ∷ Need 9 ∷ Act 6 ∷ Rule 74 ∷ Act 7 ∷ Rule 18 ∷ [] }
      ∷ record { mask = 0x400; symbols = Act 28 ∷ Need 10 ∷ Act 6 ∷ Rule 37 ∷ Rule 41 ∷ Act 8 ∷ [] }
      ∷ record { mask = 0x800; symbols = Act 29 ∷ Need 11 ∷ Act 6 ∷ Rule 37 ∷ Rule 41 ∷ Act 8 ∷ [] }
      ∷ record { mask = 0x1000; symbols = Act 30 ∷ Need 12 ∷ Act 6 ∷ Rule 37 ∷ Rule 43 ∷ Act 8 ∷ [] }
      ∷ record { mask = 0x2000; symbols = Act 31 ∷ Need 13 ∷ Act 6 ∷ Rule 37 ∷ Rule 43 ∷ Act 8 ∷ [] }
      ∷ record { mask = 0x4000; symbols = Act 32 ∷ Need 14 ∷ Act 6 ∷ Rule 37 ∷ Rule 45 ∷ Act 8 ∷ [] }
      ∷ record { mask = 0x8000; symbols = Act 33 ∷ Need 15 ∷ Act 6 ∷ Rule 37 ∷ Rule 45 ∷ Act 8 ∷ [] }
      ∷ [];
  first = 0xfff0;
  follow = 0x8000000000000000000000000000fff0;
  empty = false;
  cost = 2;
  rank = 1;
}

-- class_sections ::= % | class_section class_sections
unfoldable pub manchester_class_sections : Entry
manchester_class_sections = record {
  rows =
      record { mask = 0x8000000000000000000000000000fff0; symbols = [] }
      ∷ record { mask = 0x1f0008; symbols = Rule 9 ∷ Rule 8 ∷ [] }
      ∷ [];
  first = 0x1f0008;
  follow = 0x8000000000000000000000000000fff0;
  empty = true;
  cost = 5;
  rank = 0;
}

-- class_section ::= note_section
--     | @SectionSubClassOf SubClassOf expression_parts
--     | @SectionEquivalentTo EquivalentTo expression_parts
--     | @SectionDisjointWith DisjointWith expression_parts
--     | @SectionDisjointUnionOf DisjointUnionOf @Open opt_notes expressions @Part
--     | @SectionHasKey HasKey @Open opt_notes @Open property other_keys @Part
unfoldable pub manchester_class_section : Entry
manchester_class_section = record {
  rows =
      record { mask = 0x8; symbols = Rule 20 ∷ [] }
      ∷ record { mask = 0x10000; symbols = Act 35 ∷ Need 16 ∷ Rule 23 ∷ [] }
      ∷ record { mask = 0x20000; symbols = Act 36 ∷ Need 17 ∷ Rule 23 ∷ [] }
      ∷ record { mask = 0x40000; symbols = Act 37 ∷ Need 18 ∷ Rule 23 ∷ [] }
      ∷ record { mask = 0x80000; symbols = Act 38 ∷ Need 19 ∷ Act 6 ∷ Rule 37 ∷ Rule 41 ∷ Act 8 ∷ [] }
      ∷ record { mask = 0x100000; symbols = Act 39 ∷ Need 20 ∷ Act 6 ∷ Rule 37 ∷ Act 6 ∷ Rule 64 ∷ Rule 47 ∷ Act 8 ∷ [] }
      ∷ [];
  first = 0x1f0008;
  follow = 0x800000000000000000000000001ffff8;
  empty = false;
  cost = 4;
  rank = 3;
}

-- datatype_sections ::= %
--     | note_section datatype_sections
--     | @SectionEquivalentTo EquivalentTo @Open opt_notes expression @Part note_sections
unfoldable pub manchester_datatype_sections : Entry
manchester_datatype_sections = record {
  rows =
      record { mask = 0x8000000000000000000000000000fff0; symbols = [] }
      ∷ record { mask = 0x8; symbols = Rule 20 ∷ Rule 10 ∷ [] }
      ∷ record { mask = 0x20000; symbols = Act 36 ∷ Need 17 ∷ Act 6 ∷ Rule 37 ∷ Rule 49 ∷ Act 8 ∷ Rule 11 ∷ [] }
      ∷ [];
  first = 0x20008;
  follow = 0x8000000000000000000000000000fff0;
  empty = true;
  cost = 4;
  rank = 0;
}

-- note_sections ::= % | note_section note_sections
unfoldable pub manchester_note_sections : Entry
manchester_note_sections = record {
  rows =
      record { mask = 0x8000000000000000000000000000fff0; symbols = [] }
      ∷ record { mask = 0x8; symbols = Rule 20 ∷ Rule 11 ∷ [] }
      ∷ [];
  first = 0x8;
  follow = 0x8000000000000000000000000000fff0;
  empty = true;
  cost = 4;
  rank = 0;
}

-- object_sections ::= % | object_section object_sections
unfoldable pub manchester_object_sections : Entry
manchester_object_sections = record {
  rows =
      record { mask = 0x8000000000000000000000000000fff0; symbols = [] }
      ∷ record { mask = 0x7e60008; symbols = Rule 13 ∷ Rule 12 ∷ [] }
      ∷ [];
  first = 0x7e60008;
  follow = 0x8000000000000000000000000000fff0;
  empty = true;
  cost = 5;
  rank = 0;
}

-- object_section ::= note_section
--     | @SectionDomain Domain expression_parts
--     | @SectionRange Range expression_parts
--     | @SectionCharacteristics Characteristics word_parts
--     | @SectionSubPropertyOf SubPropertyOf property_parts
--     | @SectionEquivalentTo EquivalentTo property_parts
--     | @SectionDisjointWith DisjointWith property_parts
--     | @SectionInverseOf InverseOf property_parts
--     | @SectionSubPropertyChain SubPropertyChain @Open opt_notes @Open property Composed property other_links @Part
unfoldable pub manchester_object_section : Entry
manchester_object_section = record {
  rows =
      record { mask = 0x8; symbols = Rule 20 ∷ [] }
      ∷ record { mask = 0x200000; symbols = Act 40 ∷ Need 21 ∷ Rule 23 ∷ [] }
      ∷ record { mask = 0x400000; symbols = Act 41 ∷ Need 22 ∷ Rule 23 ∷ [] }
      ∷ record { mask = 0x800000; symbols = Act 42 ∷ Need 23 ∷ Rule 31 ∷ [] }
      ∷ record { mask = 0x1000000; symbols = Act 43 ∷ Need 24 ∷ Rule 25 ∷ [] }
      ∷ record { mask = 0x20000; symbols = Act 36 ∷ Need 17 ∷ Rule 25 ∷ [] }
      ∷ record { mask = 0x40000; symbols = Act 37 ∷ Need 18 ∷ Rule 25 ∷ [] }
      ∷ record { mask = 0x2000000; symbols = Act 44 ∷ Need 25 ∷ Rule 25 ∷ [] }
      ∷ record { mask = 0x4000000; symbols = Act 45 ∷ Need 26 ∷ Act 6 ∷ Rule 37 ∷ Act 6 ∷ Rule 64 ∷ Need 43 ∷ Rule 64 ∷ Rule 48 ∷ Act 8 ∷ [] }
      ∷ [];
  first = 0x7e60008;
  follow = 0x80000000000000000000000007e6fff8;
  empty = false;
  cost = 4;
  rank = 2;
}

-- data_sections ::= % | data_section data_sections
unfoldable pub manchester_data_sections : Entry
manchester_data_sections = record {
  rows =
      record { mask = 0x8000000000000000000000000000fff0; symbols = [] }
      ∷ record { mask = 0x1e60008; symbols = Rule 15 ∷ Rule 14 ∷ [] }
      ∷ [];
  first = 0x1e60008;
  follow = 0x8000000000000000000000000000fff0;
  empty = true;
  cost = 5;
  rank = 0;
}

-- data_section ::= note_section
--     | @SectionDomain Domain expression_parts
--     | @SectionRange Range expression_parts
--     | @SectionCharacteristics Characteristics @Open opt_notes @WordFunctional Functional @Part
--     | @SectionSubPropertyOf SubPropertyOf name_parts
--     | @SectionEquivalentTo EquivalentTo name_parts
--     | @SectionDisjointWith DisjointWith name_parts
unfoldable pub manchester_data_section : Entry
manchester_data_section = record {
  rows =
      record { mask = 0x8; symbols = Rule 20 ∷ [] }
      ∷ record { mask = 0x200000; symbols = Act 40 ∷ Need 21 ∷ Rule 23 ∷ [] }
      ∷ record { mask = 0x400000; symbols = Act 41 ∷ Need 22 ∷ Rule 23 ∷ [] }
      ∷ record { mask = 0x800000; symbols = Act 42 ∷ Need 23 ∷ Act 6 ∷ Rule 37 ∷ Act 51 ∷ Need 55 ∷ Act 8 ∷ [] }
      ∷ record { mask = 0x1000000; symbols = Act 43 ∷ Need 24 ∷ Rule 27 ∷ [] }
      ∷ record { mask = 0x20000; symbols = Act 36 ∷ Need 17 ∷ Rule 27 ∷ [] }
      ∷ record { mask = 0x40000; symbols = Act 37 ∷ Need 18 ∷ Rule 27 ∷ [] }
      ∷ [];
  first = 0x1e60008;
  follow = 0x80000000000000000000000001e6fff8;
  empty = false;
  cost = 4;
  rank = 1;
}

-- annotation_sections ::= % | annotation_section annotation_sections
unfoldable pub manchester_annotation_sections : Entry
manchester_annotation_sections = record {
  rows =
      record { mask = 0x8000000000000000000000000000fff0; symbols = [] }
      ∷ record { mask = 0x1600008; symbols = Rule 17 ∷ Rule 16 ∷ [] }
      ∷ [];
  first = 0x1600008;
  follow = 0x8000000000000000000000000000fff0;
  empty = true;
  cost = 5;
  rank = 0;
}

-- annotation_section ::= note_section
--     | @SectionDomain Domain name_parts
--     | @SectionRange Range name_parts
--     | @SectionSubPropertyOf SubPropertyOf name_parts
unfoldable pub manchester_annotation_section : Entry
manchester_annotation_section = record {
  rows =
      record { mask = 0x8; symbols = Rule 20 ∷ [] }
      ∷ record { mask = 0x200000; symbols = Act 40 ∷ Need 21 ∷ Rule 27 ∷ [] }
      ∷ record { mask = 0x400000; symbols = Act 41 ∷ Need 22 ∷ Rule 27 ∷ [] }
      ∷ record { mask = 0x1000000; symbols = Act 43 ∷ Need 24 ∷ Rule 27 ∷ [] }
      ∷ [];
  first = 0x1600008;
  follow = 0x8000000000000000000000000160fff8;
  empty = false;
  cost = 4;
  rank = 3;
}

-- individual_sections ::= % | individual_section individual_sections
unfoldable pub manchester_individual_sections : Entry
manchester_individual_sections = record {
  rows =
      record { mask = 0x8000000000000000000000000000fff0; symbols = [] }
      ∷ record { mask = 0x78000008; symbols = Rule 19 ∷ Rule 18 ∷ [] }
      ∷ [];
  first = 0x78000008;
  follow = 0x8000000000000000000000000000fff0;
  empty = true;
  cost = 5;
  rank = 0;
}

-- individual_section ::= note_section
--     | @SectionTypes Types expression_parts
--     | @SectionFacts Facts fact_parts
--     | @SectionSameAs SameAs individual_parts
--     | @SectionDifferentFrom DifferentFrom individual_parts
unfoldable pub manchester_individual_section : Entry
manchester_individual_section = record {
  rows =
      record { mask = 0x8; symbols = Rule 20 ∷ [] }
      ∷ record { mask = 0x8000000; symbols = Act 46 ∷ Need 27 ∷ Rule 23 ∷ [] }
      ∷ record { mask = 0x10000000; symbols = Act 47 ∷ Need 28 ∷ Rule 34 ∷ [] }
      ∷ record { mask = 0x20000000; symbols = Act 48 ∷ Need 29 ∷ Rule 29 ∷ [] }
      ∷ record { mask = 0x40000000; symbols = Act 49 ∷ Need 30 ∷ Rule 29 ∷ [] }
      ∷ [];
  first = 0x78000008;
  follow = 0x8000000000000000000000007800fff8;
  empty = false;
  cost = 4;
  rank = 2;
}

-- note_section ::= @SectionAnnotations @Nest Annotations note_parts @Unnest
unfoldable pub manchester_note_section : Entry
manchester_note_section = record {
  rows =
      record { mask = 0x8; symbols = Act 34 ∷ Act 9 ∷ Need 3 ∷ Rule 21 ∷ Act 10 ∷ [] }
      ∷ [];
  first = 0x8;
  follow = 0x8000000000000000000000007ffffff8;
  empty = false;
  cost = 3;
  rank = 3;
}

-- note_parts ::= @Open opt_notes @Open name value @ShutAssertion @Part other_note_parts
unfoldable pub manchester_note_parts : Entry
manchester_note_parts = record {
  rows =
      record { mask = 0x3c01e000000000008; symbols = Act 6 ∷ Rule 37 ∷ Act 6 ∷ Rule 75 ∷ Rule 73 ∷ Act 86 ∷ Act 8 ∷ Rule 22 ∷ [] }
      ∷ [];
  first = 0x3c01e000000000008;
  follow = 0x8000000000000000000000007ffffff8;
  empty = false;
  cost = 10;
  rank = 2;
}

-- other_note_parts ::= % | Comma note_parts
unfoldable pub manchester_other_note_parts : Entry
manchester_other_note_parts = record {
  rows =
      record { mask = 0x8000000000000000000000007ffffff8; symbols = [] }
      ∷ record { mask = 0x40000000000000000000; symbols = Need 78 ∷ Rule 21 ∷ [] }
      ∷ [];
  first = 0x40000000000000000000;
  follow = 0x8000000000000000000000007ffffff8;
  empty = true;
  cost = 1;
  rank = 0;
}

-- expression_parts ::= @Open opt_notes expression @Part other_expression_parts
unfoldable pub manchester_expression_parts : Entry
manchester_expression_parts = record {
  rows =
      record { mask = 0x503c01e040200000008; symbols = Act 6 ∷ Rule 37 ∷ Rule 49 ∷ Act 8 ∷ Rule 24 ∷ [] }
      ∷ [];
  first = 0x503c01e040200000008;
  follow = 0x8000000000000000000000007ffffff8;
  empty = false;
  cost = 14;
  rank = 4;
}

-- other_expression_parts ::= % | Comma expression_parts
unfoldable pub manchester_other_expression_parts : Entry
manchester_other_expression_parts = record {
  rows =
      record { mask = 0x8000000000000000000000007ffffff8; symbols = [] }
      ∷ record { mask = 0x40000000000000000000; symbols = Need 78 ∷ Rule 23 ∷ [] }
      ∷ [];
  first = 0x40000000000000000000;
  follow = 0x8000000000000000000000007ffffff8;
  empty = true;
  cost = 1;
  rank = 0;
}

-- property_parts ::= @Open opt_notes property @Part other_property_parts
unfoldable pub manchester_property_parts : Entry
manchester_property_parts = record {
  rows =
      record { mask = 0x3c01e040000000008; symbols = Act 6 ∷ Rule 37 ∷ Rule 64 ∷ Act 8 ∷ Rule 26 ∷ [] }
      ∷ [];
  first = 0x3c01e040000000008;
  follow = 0x80000000000000000000000007e6fff8;
  empty = false;
  cost = 10;
  rank = 3;
}

-- other_property_parts ::= % | Comma property_parts
unfoldable pub manchester_other_property_parts : Entry
manchester_other_property_parts = record {
  rows =
      record { mask = 0x80000000000000000000000007e6fff8; symbols = [] }
      ∷ record { mask = 0x40000000000000000000; symbols = Need 78 ∷ Rule 25 ∷ [] }
      ∷ [];
  first = 0x40000000000000000000;
  follow = 0x80000000000000000000000007e6fff8;
  empty = true;
  cost = 1;
  rank = 0;
}

-- name_parts ::= @Open opt_notes name @Part other_name_parts
unfoldable pub manchester_name_parts : Entry
manchester_name_parts = record {
  rows =
      record { mask = 0x3c01e000000000008; symbols = Act 6 ∷ Rule 37 ∷ Rule 75 ∷ Act 8 ∷ Rule 28 ∷ [] }
      ∷ [];
  first = 0x3c01e000000000008;
  follow = 0x80000000000000000000000001e6fff8;
  empty = false;
  cost = 9;
  rank = 2;
}

-- other_name_parts ::= % | Comma name_parts
unfoldable pub manchester_other_name_parts : Entry
manchester_other_name_parts = record {
  rows =
      record { mask = 0x80000000000000000000000001e6fff8; symbols = [] }
      ∷ record { mask = 0x40000000000000000000; symbols = Need 78 ∷ Rule 27 ∷ [] }
      ∷ [];
  first = 0x40000000000000000000;
  follow = 0x80000000000000000000000001e6fff8;
  empty = true;
  cost = 1;
  rank = 0;
}

-- individual_parts ::= @Open opt_notes individual @Part other_individual_parts
unfoldable pub manchester_individual_parts : Entry
manchester_individual_parts = record {
  rows =
      record { mask = 0x7c01e000000000008; symbols = Act 6 ∷ Rule 37 ∷ Rule 74 ∷ Act 8 ∷ Rule 30 ∷ [] }
      ∷ [];
  first = 0x7c01e000000000008;
  follow = 0x8000000000000000000000007800fff8;
  empty = false;
  cost = 10;
  rank = 1;
}

-- other_individual_parts ::= % | Comma individual_parts
unfoldable pub manchester_other_individual_parts : Entry
manchester_other_individual_parts = record {
  rows =
      record { mask = 0x8000000000000000000000007800fff8; symbols = [] }
      ∷ record { mask = 0x40000000000000000000; symbols = Need 78 ∷ Rule 29 ∷ [] }
      ∷ [];
  first = 0x40000000000000000000;
  follow = 0x8000000000000000000000007800fff8;
  empty = true;
  cost = 1;
  rank = 0;
}

-- word_parts ::= @Open opt_notes one_characteristic @Part other_word_parts
unfoldable pub manchester_word_parts : Entry
manchester_word_parts = record {
  rows =
      record { mask = 0x3f80000000000008; symbols = Act 6 ∷ Rule 37 ∷ Rule 33 ∷ Act 8 ∷ Rule 32 ∷ [] }
      ∷ [];
  first = 0x3f80000000000008;
  follow = 0x80000000000000000000000007e6fff8;
  empty = false;
  cost = 8;
  rank = 1;
}

-- other_word_parts ::= % | Comma word_parts
unfoldable pub manchester_other_word_parts : Entry
manchester_other_word_parts = record {
  rows =
      record { mask = 0x80000000000000000000000007e6fff8; symbols = [] }
      ∷ record { mask = 0x40000000000000000000; symbols = Need 78 ∷ Rule 31 ∷ [] }
      ∷ [];
  first = 0x40000000000000000000;
  follow = 0x80000000000000000000000007e6fff8;
  empty = true;
  cost = 1;
  rank = 0;
}

-- one_characteristic ::= @WordFunctional Functional
--     | @WordInverseFunctional InverseFunctional
--     | @WordReflexive Reflexive
--     | @WordIrreflexive Irreflexive
--     | @WordSymmetric Symmetric
--     | @WordAsymmetric Asymmetric
--     | @WordTransitive Transitive
unfoldable pub manchester_one_characteristic : Entry
manchester_one_characteristic = record {
  rows =
      record { mask = 0x80000000000000; symbols = Act 51 ∷ Need 55 ∷ [] }
      ∷ record { mask = 0x100000000000000; symbols = Act 52 ∷ Need 56 ∷ [] }
      ∷ record { mask = 0x200000000000000; symbols = Act 53 ∷ Need 57 ∷ [] }
      ∷ record { mask = 0x400000000000000; symbols = Act 54 ∷ Need 58 ∷ [] }
      ∷ record { mask = 0x800000000000000; symbols = Act 55 ∷ Need 59 ∷ [] }
      ∷ record { mask = 0x1000000000000000; symbols = Act 56 ∷ Need 60 ∷ [] }
      ∷ record { mask = 0x2000000000000000; symbols = Act 57 ∷ Need 61 ∷ [] }
      ∷ [];
  first = 0x3f80000000000000;
  follow = 0x80000000000040000000000007e6fff8;
  empty = false;
  cost = 2;
  rank = 0;
}

-- fact_parts ::= @Open opt_notes fact @Part other_fact_parts
unfoldable pub manchester_fact_parts : Entry
manchester_fact_parts = record {
  rows =
      record { mask = 0x3c01e000200000008; symbols = Act 6 ∷ Rule 37 ∷ Rule 36 ∷ Act 8 ∷ Rule 35 ∷ [] }
      ∷ [];
  first = 0x3c01e000200000008;
  follow = 0x8000000000000000000000007800fff8;
  empty = false;
  cost = 11;
  rank = 3;
}

-- other_fact_parts ::= % | Comma fact_parts
unfoldable pub manchester_other_fact_parts : Entry
manchester_other_fact_parts = record {
  rows =
      record { mask = 0x8000000000000000000000007800fff8; symbols = [] }
      ∷ record { mask = 0x40000000000000000000; symbols = Need 78 ∷ Rule 34 ∷ [] }
      ∷ [];
  first = 0x40000000000000000000;
  follow = 0x8000000000000000000000007800fff8;
  empty = true;
  cost = 1;
  rank = 0;
}

-- fact ::= @Open name value @ShutFact | @Open @Nest Not name value @Unnest @ShutNegativeFact
unfoldable pub manchester_fact : Entry
manchester_fact = record {
  rows =
      record { mask = 0x3c01e000000000000; symbols = Act 6 ∷ Rule 75 ∷ Rule 73 ∷ Act 87 ∷ [] }
      ∷ record { mask = 0x200000000; symbols = Act 6 ∷ Act 9 ∷ Need 33 ∷ Rule 75 ∷ Rule 73 ∷ Act 10 ∷ Act 88 ∷ [] }
      ∷ [];
  first = 0x3c01e000200000000;
  follow = 0x8000000000004000000000007800fff8;
  empty = false;
  cost = 5;
  rank = 2;
}

-- opt_notes ::= @NoNotes | notes
unfoldable pub manchester_opt_notes : Entry
manchester_opt_notes = record {
  rows =
      record { mask = 0x8000000000000507ff9e040200000000; symbols = Act 11 ∷ [] }
      ∷ record { mask = 0x8; symbols = Rule 38 ∷ [] }
      ∷ [];
  first = 0x8;
  follow = 0x8000000000000507ff9e040200000000;
  empty = true;
  cost = 4;
  rank = 0;
}

-- notes ::= @Open @Nest Annotations note_list @Unnest @ShutNotes
unfoldable pub manchester_notes : Entry
manchester_notes = record {
  rows =
      record { mask = 0x8; symbols = Act 6 ∷ Act 9 ∷ Need 3 ∷ Rule 39 ∷ Act 10 ∷ Act 67 ∷ [] }
      ∷ [];
  first = 0x8;
  follow = 0x8000000000000507ff9e04020000fff8;
  empty = false;
  cost = 3;
  rank = 3;
}

-- note_list ::= @Open opt_notes name value @ShutNote other_notes
unfoldable pub manchester_note_list : Entry
manchester_note_list = record {
  rows =
      record { mask = 0x3c01e000000000008; symbols = Act 6 ∷ Rule 37 ∷ Rule 75 ∷ Rule 73 ∷ Act 68 ∷ Rule 40 ∷ [] }
      ∷ [];
  first = 0x3c01e000000000008;
  follow = 0x8000000000000507ff9e04020000fff8;
  empty = false;
  cost = 9;
  rank = 2;
}

-- other_notes ::= % | Comma note_list
unfoldable pub manchester_other_notes : Entry
manchester_other_notes = record {
  rows =
      record { mask = 0x8000000000000507ff9e04020000fff8; symbols = [] }
      ∷ record { mask = 0x40000000000000000000; symbols = Need 78 ∷ Rule 39 ∷ [] }
      ∷ [];
  first = 0x40000000000000000000;
  follow = 0x8000000000000507ff9e04020000fff8;
  empty = true;
  cost = 1;
  rank = 0;
}

-- expressions ::= @Open expression Comma expression other_expressions
unfoldable pub manchester_expressions : Entry
manchester_expressions = record {
  rows =
      record { mask = 0x503c01e040200000000; symbols = Act 6 ∷ Rule 49 ∷ Need 78 ∷ Rule 49 ∷ Rule 42 ∷ [] }
      ∷ [];
  first = 0x503c01e040200000000;
  follow = 0x800000000000000000000000001ffff8;
  empty = false;
  cost = 10;
  rank = 4;
}

-- other_expressions ::= @ShutList | Comma expression other_expressions
unfoldable pub manchester_other_expressions : Entry
manchester_other_expressions = record {
  rows =
      record { mask = 0x800000000000000000000000001ffff8; symbols = Act 89 ∷ [] }
      ∷ record { mask = 0x40000000000000000000; symbols = Need 78 ∷ Rule 49 ∷ Rule 42 ∷ [] }
      ∷ [];
  first = 0x40000000000000000000;
  follow = 0x800000000000000000000000001ffff8;
  empty = true;
  cost = 2;
  rank = 0;
}

-- properties ::= @Open property Comma property other_properties
unfoldable pub manchester_properties : Entry
manchester_properties = record {
  rows =
      record { mask = 0x3c01e040000000000; symbols = Act 6 ∷ Rule 64 ∷ Need 78 ∷ Rule 64 ∷ Rule 44 ∷ [] }
      ∷ [];
  first = 0x3c01e040000000000;
  follow = 0x8000000000000000000000000000fff0;
  empty = false;
  cost = 6;
  rank = 3;
}

-- other_properties ::= @ShutList | Comma property other_properties
unfoldable pub manchester_other_properties : Entry
manchester_other_properties = record {
  rows =
      record { mask = 0x8000000000000000000000000000fff0; symbols = Act 89 ∷ [] }
      ∷ record { mask = 0x40000000000000000000; symbols = Need 78 ∷ Rule 64 ∷ Rule 44 ∷ [] }
      ∷ [];
  first = 0x40000000000000000000;
  follow = 0x8000000000000000000000000000fff0;
  empty = true;
  cost = 2;
  rank = 0;
}

-- individuals ::= @Open individual Comma individual other_individuals
unfoldable pub manchester_individuals : Entry
manchester_individuals = record {
  rows =
      record { mask = 0x7c01e000000000000; symbols = Act 6 ∷ Rule 74 ∷ Need 78 ∷ Rule 74 ∷ Rule 46 ∷ [] }
      ∷ [];
  first = 0x7c01e000000000000;
  follow = 0x8000000000000000000000000000fff0;
  empty = false;
  cost = 6;
  rank = 1;
}

-- other_individuals ::= @ShutList | Comma individual other_individuals
unfoldable pub manchester_other_individuals : Entry
manchester_other_individuals = record {
  rows =
      record { mask = 0x8000000000000000000000000000fff0; symbols = Act 89 ∷ [] }
      ∷ record { mask = 0x40000000000000000000; symbols = Need 78 ∷ Rule 74 ∷ Rule 46 ∷ [] }
      ∷ [];
  first = 0x40000000000000000000;
  follow = 0x8000000000000000000000000000fff0;
  empty = true;
  cost = 2;
  rank = 0;
}

-- other_keys ::= @ShutList | property other_keys
unfoldable pub manchester_other_keys : Entry
manchester_other_keys = record {
  rows =
      record { mask = 0x800000000000000000000000001ffff8; symbols = Act 89 ∷ [] }
      ∷ record { mask = 0x3c01e040000000000; symbols = Rule 64 ∷ Rule 47 ∷ [] }
      ∷ [];
  first = 0x3c01e040000000000;
  follow = 0x800000000000000000000000001ffff8;
  empty = true;
  cost = 5;
  rank = 0;
}

-- other_links ::= @ShutList | Composed property other_links
unfoldable pub manchester_other_links : Entry
manchester_other_links = record {
  rows =
      record { mask = 0x80000000000000000000000007e6fff8; symbols = Act 89 ∷ [] }
      ∷ record { mask = 0x80000000000; symbols = Need 43 ∷ Rule 64 ∷ Rule 48 ∷ [] }
      ∷ [];
  first = 0x80000000000;
  follow = 0x80000000000000000000000007e6fff8;
  empty = true;
  cost = 2;
  rank = 0;
}

-- expression ::= @Open conjunction other_operands
unfoldable pub manchester_expression : Entry
manchester_expression = record {
  rows =
      record { mask = 0x503c01e040200000000; symbols = Act 6 ∷ Rule 51 ∷ Rule 50 ∷ [] }
      ∷ [];
  first = 0x503c01e040200000000;
  follow = 0x8000000000004200000000007ffffff8;
  empty = false;
  cost = 8;
  rank = 3;
}
