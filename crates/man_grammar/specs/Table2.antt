-- Rules of a grammar as entries of its table; `tools/make_grammar.py` made it.
use Rattle.std.specs.Prelude.{true, false, [], ◌∷◌}
use Rattle.grammar.specs.Grammars.{Entry}
use Rattle.grammar.specs.declared.symbol.Symbol.TheVariants.{Act, Need, Rule}

-- other_operands ::= @ShutOr | Or conjunction other_operands
unfoldable pub manchester_other_operands : Entry
manchester_other_operands = record {
  rows =
      record { mask = 0x8000000000004200000000007ffffff8; symbols = Act 70 ∷ [] }
      ∷ record { mask = 0x100000000; symbols = Need 32 ∷ Rule 51 ∷ Rule 50 ∷ [] }
      ∷ [];
  first = 0x100000000;
  follow = 0x8000000000004200000000007ffffff8;
  empty = true;
  cost = 2;
  rank = 0;
}

-- conjunction ::= @Open name behind_first_name | @Open unnamed other_conjuncts
unfoldable pub manchester_conjunction : Entry
manchester_conjunction = record {
  rows =
      record { mask = 0x3c01e000000000000; symbols = Act 6 ∷ Rule 75 ∷ Rule 52 ∷ [] }
      ∷ record { mask = 0x5000000040200000000; symbols = Act 6 ∷ Rule 57 ∷ Rule 53 ∷ [] }
      ∷ [];
  first = 0x503c01e040200000000;
  follow = 0x8000000000004200000000017ffffff8;
  empty = false;
  cost = 6;
  rank = 2;
}

-- behind_first_name ::= That that_part other_that_parts | behind_name other_conjuncts
unfoldable pub manchester_behind_first_name : Entry
manchester_behind_first_name = record {
  rows =
      record { mask = 0x400000000; symbols = Need 34 ∷ Rule 54 ∷ Rule 55 ∷ [] }
      ∷ record { mask = 0x8000000000005200000003f9fffffff8; symbols = Rule 60 ∷ Rule 53 ∷ [] }
      ∷ [];
  first = 0x1000000003fc80000000;
  follow = 0x8000000000004200000000017ffffff8;
  empty = true;
  cost = 7;
  rank = 1;
}

-- other_conjuncts ::= @ShutAnd | And primary other_conjuncts
unfoldable pub manchester_other_conjuncts : Entry
manchester_other_conjuncts = record {
  rows =
      record { mask = 0x8000000000004200000000017ffffff8; symbols = Act 71 ∷ [] }
      ∷ record { mask = 0x80000000; symbols = Need 31 ∷ Rule 56 ∷ Rule 53 ∷ [] }
      ∷ [];
  first = 0x80000000;
  follow = 0x8000000000004200000000017ffffff8;
  empty = true;
  cost = 2;
  rank = 0;
}

-- that_part ::= restriction | @Open @Nest Not restriction @Unnest @ShutNot
unfoldable pub manchester_that_part : Entry
manchester_that_part = record {
  rows =
      record { mask = 0x3c01e040000000000; symbols = Rule 61 ∷ [] }
      ∷ record { mask = 0x200000000; symbols = Act 6 ∷ Act 9 ∷ Need 33 ∷ Rule 61 ∷ Act 10 ∷ Act 73 ∷ [] }
      ∷ [];
  first = 0x3c01e040200000000;
  follow = 0x800000000000420000000001fffffff8;
  empty = false;
  cost = 6;
  rank = 4;
}

-- other_that_parts ::= @ShutThat | And that_part other_that_parts
unfoldable pub manchester_other_that_parts : Entry
manchester_other_that_parts = record {
  rows =
      record { mask = 0x8000000000004200000000017ffffff8; symbols = Act 72 ∷ [] }
      ∷ record { mask = 0x80000000; symbols = Need 31 ∷ Rule 54 ∷ Rule 55 ∷ [] }
      ∷ [];
  first = 0x80000000;
  follow = 0x8000000000004200000000017ffffff8;
  empty = true;
  cost = 2;
  rank = 0;
}

-- primary ::= name behind_name | unnamed
unfoldable pub manchester_primary : Entry
manchester_primary = record {
  rows =
      record { mask = 0x3c01e000000000000; symbols = Rule 75 ∷ Rule 60 ∷ [] }
      ∷ record { mask = 0x5000000040200000000; symbols = Rule 57 ∷ [] }
      ∷ [];
  first = 0x503c01e040200000000;
  follow = 0x800000000000420000000001fffffff8;
  empty = false;
  cost = 5;
  rank = 2;
}

-- unnamed ::= grouped | @Open @Nest Not positive @Unnest @ShutNot
unfoldable pub manchester_unnamed : Entry
manchester_unnamed = record {
  rows =
      record { mask = 0x5000000040000000000; symbols = Rule 59 ∷ [] }
      ∷ record { mask = 0x200000000; symbols = Act 6 ∷ Act 9 ∷ Need 33 ∷ Rule 58 ∷ Act 10 ∷ Act 73 ∷ [] }
      ∷ [];
  first = 0x5000000040200000000;
  follow = 0x800000000000420000000001fffffff8;
  empty = false;
  cost = 4;
  rank = 3;
}

-- positive ::= name behind_name | grouped
unfoldable pub manchester_positive : Entry
manchester_positive = record {
  rows =
      record { mask = 0x3c01e000000000000; symbols = Rule 75 ∷ Rule 60 ∷ [] }
      ∷ record { mask = 0x5000000040000000000; symbols = Rule 59 ∷ [] }
      ∷ [];
  first = 0x503c01e040000000000;
  follow = 0x800000000000420000000001fffffff8;
  empty = false;
  cost = 4;
  rank = 2;
}

-- grouped ::= inverse restricted
--     | @Open @Nest OpenBrace members
--     | @Open @Nest OpenParenthesis expression @ShutBracket @Unnest CloseParenthesis
unfoldable pub manchester_grouped : Entry
manchester_grouped = record {
  rows =
      record { mask = 0x40000000000; symbols = Rule 65 ∷ Rule 62 ∷ [] }
      ∷ record { mask = 0x4000000000000000000; symbols = Act 6 ∷ Act 9 ∷ Need 74 ∷ Rule 67 ∷ [] }
      ∷ record { mask = 0x1000000000000000000; symbols = Act 6 ∷ Act 9 ∷ Need 72 ∷ Rule 49 ∷ Act 85 ∷ Act 10 ∷ Need 73 ∷ [] }
      ∷ [];
  first = 0x5000000040000000000;
  follow = 0x800000000000420000000001fffffff8;
  empty = false;
  cost = 3;
  rank = 2;
}

-- behind_name ::= % | restricted | @Wrap @Nest OpenBracket facets @ShutRestricted @Unnest CloseBracket
unfoldable pub manchester_behind_name : Entry
manchester_behind_name = record {
  rows =
      record { mask = 0x800000000000420000000001fffffff8; symbols = [] }
      ∷ record { mask = 0x3f800000000; symbols = Rule 62 ∷ [] }
      ∷ record { mask = 0x10000000000000000000; symbols = Act 12 ∷ Act 9 ∷ Need 76 ∷ Rule 70 ∷ Act 81 ∷ Act 10 ∷ Need 77 ∷ [] }
      ∷ [];
  first = 0x1000000003f800000000;
  follow = 0x800000000000420000000001fffffff8;
  empty = true;
  cost = 4;
  rank = 0;
}

-- restriction ::= property restricted
unfoldable pub manchester_restriction : Entry
manchester_restriction = record {
  rows =
      record { mask = 0x3c01e040000000000; symbols = Rule 64 ∷ Rule 62 ∷ [] }
      ∷ [];
  first = 0x3c01e040000000000;
  follow = 0x800000000000420000000001fffffff8;
  empty = false;
  cost = 5;
  rank = 3;
}

-- restricted ::= @Wrap @Nest Some primary @Unnest @ShutSomeOf
--     | @Wrap @Nest Only primary @Unnest @ShutOnlyOf
--     | @Wrap Value value @ShutHasValue
--     | @Wrap SelfWord @ShutHasSelf
--     | @Wrap @Nest Min @Number Digits filler @Unnest @ShutMin
--     | @Wrap @Nest Max @Number Digits filler @Unnest @ShutMax
--     | @Wrap @Nest Exactly @Number Digits filler @Unnest @ShutExactly
unfoldable pub manchester_restricted : Entry
manchester_restricted = record {
  rows =
      record { mask = 0x800000000; symbols = Act 12 ∷ Act 9 ∷ Need 35 ∷ Rule 56 ∷ Act 10 ∷ Act 74 ∷ [] }
      ∷ record { mask = 0x1000000000; symbols = Act 12 ∷ Act 9 ∷ Need 36 ∷ Rule 56 ∷ Act 10 ∷ Act 75 ∷ [] }
      ∷ record { mask = 0x2000000000; symbols = Act 12 ∷ Need 37 ∷ Rule 73 ∷ Act 76 ∷ [] }
      ∷ record { mask = 0x4000000000; symbols = Act 12 ∷ Need 38 ∷ Act 77 ∷ [] }
      ∷ record { mask = 0x8000000000; symbols = Act 12 ∷ Act 9 ∷ Need 39 ∷ Act 13 ∷ Need 69 ∷ Rule 63 ∷ Act 10 ∷ Act 78 ∷ [] }
      ∷ record { mask = 0x10000000000; symbols = Act 12 ∷ Act 9 ∷ Need 40 ∷ Act 13 ∷ Need 69 ∷ Rule 63 ∷ Act 10 ∷ Act 79 ∷ [] }
      ∷ record { mask = 0x20000000000; symbols = Act 12 ∷ Act 9 ∷ Need 41 ∷ Act 13 ∷ Need 69 ∷ Rule 63 ∷ Act 10 ∷ Act 80 ∷ [] }
      ∷ [];
  first = 0x3f800000000;
  follow = 0x800000000000420000000001fffffff8;
  empty = false;
  cost = 3;
  rank = 0;
}

-- filler ::= % | primary
unfoldable pub manchester_filler : Entry
manchester_filler = record {
  rows =
      record { mask = 0x800000000000420000000001fffffff8; symbols = [] }
      ∷ record { mask = 0x503c01e040200000000; symbols = Rule 56 ∷ [] }
      ∷ [];
  first = 0x503c01e040200000000;
  follow = 0x800000000000420000000001fffffff8;
  empty = true;
  cost = 6;
  rank = 0;
}

-- property ::= name | inverse
unfoldable pub manchester_property : Entry
manchester_property = record {
  rows =
      record { mask = 0x3c01e000000000000; symbols = Rule 75 ∷ [] }
      ∷ record { mask = 0x40000000000; symbols = Rule 65 ∷ [] }
      ∷ [];
  first = 0x3c01e040000000000;
  follow = 0x8000000000004003c01e0ff807fffff8;
  empty = false;
  cost = 4;
  rank = 2;
}

-- inverse ::= @Open Inverse inverse_name @ShutInverse
unfoldable pub manchester_inverse : Entry
manchester_inverse = record {
  rows =
      record { mask = 0x40000000000; symbols = Act 6 ∷ Need 42 ∷ Rule 66 ∷ Act 69 ∷ [] }
      ∷ [];
  first = 0x40000000000;
  follow = 0x8000000000004003c01e0ff807fffff8;
  empty = false;
  cost = 2;
  rank = 3;
}

-- inverse_name ::= name | @Nest OpenParenthesis name @Unnest CloseParenthesis
unfoldable pub manchester_inverse_name : Entry
manchester_inverse_name = record {
  rows =
      record { mask = 0x3c01e000000000000; symbols = Rule 75 ∷ [] }
      ∷ record { mask = 0x1000000000000000000; symbols = Act 9 ∷ Need 72 ∷ Rule 75 ∷ Act 10 ∷ Need 73 ∷ [] }
      ∷ [];
  first = 0x103c01e000000000000;
  follow = 0x8000000000004003c01e0ff807fffff8;
  empty = false;
  cost = 4;
  rank = 2;
}

-- members ::= individual other_member_individuals | literal other_member_literals
unfoldable pub manchester_members : Entry
manchester_members = record {
  rows =
      record { mask = 0x7c01e000000000000; symbols = Rule 74 ∷ Rule 68 ∷ [] }
      ∷ record { mask = 0xe80060000000000000; symbols = Rule 79 ∷ Rule 69 ∷ [] }
      ∷ [];
  first = 0xefc07e000000000000;
  follow = 0x800000000000420000000001fffffff8;
  empty = false;
  cost = 5;
  rank = 1;
}

-- other_member_individuals ::= @ShutIndividuals @Unnest CloseBrace | Comma individual other_member_individuals
unfoldable pub manchester_other_member_individuals : Entry
manchester_other_member_individuals = record {
  rows =
      record { mask = 0x8000000000000000000; symbols = Act 83 ∷ Act 10 ∷ Need 75 ∷ [] }
      ∷ record { mask = 0x40000000000000000000; symbols = Need 78 ∷ Rule 74 ∷ Rule 68 ∷ [] }
      ∷ [];
  first = 0x48000000000000000000;
  follow = 0x800000000000420000000001fffffff8;
  empty = false;
  cost = 3;
  rank = 0;
}

-- other_member_literals ::= @ShutLiterals @Unnest CloseBrace | Comma literal other_member_literals
unfoldable pub manchester_other_member_literals : Entry
manchester_other_member_literals = record {
  rows =
      record { mask = 0x8000000000000000000; symbols = Act 84 ∷ Act 10 ∷ Need 75 ∷ [] }
      ∷ record { mask = 0x40000000000000000000; symbols = Need 78 ∷ Rule 79 ∷ Rule 69 ∷ [] }
      ∷ [];
  first = 0x48000000000000000000;
  follow = 0x800000000000420000000001fffffff8;
  empty = false;
  cost = 3;
  rank = 0;
}

-- facets ::= @Open one_facet literal @ShutFacetPair other_facets
unfoldable pub manchester_facets : Entry
manchester_facets = record {
  rows =
      record { mask = 0xf00000001f00000000000; symbols = Act 6 ∷ Rule 72 ∷ Rule 79 ∷ Act 82 ∷ Rule 71 ∷ [] }
      ∷ [];
  first = 0xf00000001f00000000000;
  follow = 0x80000000000020000000000000000000;
  empty = false;
  cost = 4;
  rank = 2;
}

-- other_facets ::= % | Comma facets
unfoldable pub manchester_other_facets : Entry
manchester_other_facets = record {
  rows =
      record { mask = 0x80000000000020000000000000000000; symbols = [] }
      ∷ record { mask = 0x40000000000000000000; symbols = Need 78 ∷ Rule 70 ∷ [] }
      ∷ [];
  first = 0x40000000000000000000;
  follow = 0x80000000000020000000000000000000;
  empty = true;
  cost = 1;
  rank = 0;
}

-- one_facet ::= @FacetAtMost AtMost
--     | @FacetLessThan LessThan
--     | @FacetAtLeast AtLeast
--     | @FacetMoreThan MoreThan
--     | @FacetLength Length
--     | @FacetMinLength MinLength
--     | @FacetMaxLength MaxLength
--     | @FacetPattern Pattern
--     | @FacetLangRange LangRange
unfoldable pub manchester_one_facet : Entry
manchester_one_facet = record {
  rows =
      record { mask = 0x100000000000000000000; symbols = Act 58 ∷ Need 80 ∷ [] }
      ∷ record { mask = 0x200000000000000000000; symbols = Act 59 ∷ Need 81 ∷ [] }
      ∷ record { mask = 0x400000000000000000000; symbols = Act 60 ∷ Need 82 ∷ [] }
      ∷ record { mask = 0x800000000000000000000; symbols = Act 61 ∷ Need 83 ∷ [] }
      ∷ record { mask = 0x100000000000; symbols = Act 62 ∷ Need 44 ∷ [] }
      ∷ record { mask = 0x200000000000; symbols = Act 63 ∷ Need 45 ∷ [] }
      ∷ record { mask = 0x400000000000; symbols = Act 64 ∷ Need 46 ∷ [] }
      ∷ record { mask = 0x800000000000; symbols = Act 65 ∷ Need 47 ∷ [] }
      ∷ record { mask = 0x1000000000000; symbols = Act 66 ∷ Need 48 ∷ [] }
      ∷ [];
  first = 0xf00000001f00000000000;
  follow = 0x80000000000000e80060000000000000;
  empty = false;
  cost = 2;
  rank = 0;
}

-- value ::= individual | literal
unfoldable pub manchester_value : Entry
manchester_value = record {
  rows =
      record { mask = 0x7c01e000000000000; symbols = Rule 74 ∷ [] }
      ∷ record { mask = 0xe80060000000000000; symbols = Rule 79 ∷ [] }
      ∷ [];
  first = 0xefc07e000000000000;
  follow = 0x8000000000004707ff9e0403fffffff8;
  empty = false;
  cost = 5;
  rank = 1;
}

-- individual ::= name | @Label Blank
unfoldable pub manchester_individual : Entry
manchester_individual = record {
  rows =
      record { mask = 0x3c01e000000000000; symbols = Rule 75 ∷ [] }
      ∷ record { mask = 0x40000000000000000; symbols = Act 16 ∷ Need 66 ∷ [] }
      ∷ [];
  first = 0x7c01e000000000000;
  follow = 0x8000000000004f07ff9e0403fffffff8;
  empty = false;
  cost = 4;
  rank = 0;
}

-- name ::= @Name name_word | @TypeName type_word
unfoldable pub manchester_name : Entry
manchester_name = record {
  rows =
      record { mask = 0x3c000000000000000; symbols = Act 14 ∷ Rule 76 ∷ [] }
      ∷ record { mask = 0x1e000000000000; symbols = Act 15 ∷ Rule 77 ∷ [] }
      ∷ [];
  first = 0x3c01e000000000000;
  follow = 0x8000000000005feffffe0ffffffffff8;
  empty = false;
  cost = 3;
  rank = 1;
}

-- name_word ::= IriRef | Prefixed | Namespace | PlainWord
unfoldable pub manchester_name_word : Entry
manchester_name_word = record {
  rows =
      record { mask = 0x8000000000000000; symbols = Need 63 ∷ [] }
      ∷ record { mask = 0x10000000000000000; symbols = Need 64 ∷ [] }
      ∷ record { mask = 0x20000000000000000; symbols = Need 65 ∷ [] }
      ∷ record { mask = 0x4000000000000000; symbols = Need 62 ∷ [] }
      ∷ [];
  first = 0x3c000000000000000;
  follow = 0x8000000000005feffffe0ffffffffff8;
  empty = false;
  cost = 1;
  rank = 0;
}

-- type_word ::= IntegerWord | DecimalWord | FloatWord | StringWord
unfoldable pub manchester_type_word : Entry
manchester_type_word = record {
  rows =
      record { mask = 0x2000000000000; symbols = Need 49 ∷ [] }
      ∷ record { mask = 0x4000000000000; symbols = Need 50 ∷ [] }
      ∷ record { mask = 0x8000000000000; symbols = Need 51 ∷ [] }
      ∷ record { mask = 0x10000000000000; symbols = Need 52 ∷ [] }
      ∷ [];
  first = 0x1e000000000000;
  follow = 0x8000000000005feffffe0ffffffffff8;
  empty = false;
  cost = 1;
  rank = 0;
}

-- iri ::= IriRef | Prefixed | Namespace
unfoldable pub manchester_iri : Entry
manchester_iri = record {
  rows =
      record { mask = 0x8000000000000000; symbols = Need 63 ∷ [] }
      ∷ record { mask = 0x10000000000000000; symbols = Need 64 ∷ [] }
      ∷ record { mask = 0x20000000000000000; symbols = Need 65 ∷ [] }
      ∷ [];
  first = 0x38000000000000000;
  follow = 0x8000000000006f07ff9e0403fffffffc;
  empty = false;
  cost = 1;
  rank = 0;
}

-- literal ::= @Text Text suffix | @Shorthand shorthand
unfoldable pub manchester_literal : Entry
manchester_literal = record {
  rows =
      record { mask = 0x80000000000000000; symbols = Act 17 ∷ Need 67 ∷ Rule 80 ∷ [] }
      ∷ record { mask = 0xe00060000000000000; symbols = Act 21 ∷ Rule 81 ∷ [] }
      ∷ [];
  first = 0xe80060000000000000;
  follow = 0x8000000000006f07ff9e0403fffffff8;
  empty = false;
  cost = 3;
  rank = 1;
}

-- suffix ::= @Plain | @Tagged Language | Carets @Typed iri
unfoldable pub manchester_suffix : Entry
manchester_suffix = record {
  rows =
      record { mask = 0x8000000000006f07ff9e0403fffffff8; symbols = Act 18 ∷ [] }
      ∷ record { mask = 0x100000000000000000; symbols = Act 19 ∷ Need 68 ∷ [] }
      ∷ record { mask = 0x80000000000000000000; symbols = Need 79 ∷ Act 20 ∷ Rule 78 ∷ [] }
      ∷ [];
  first = 0x80100000000000000000;
  follow = 0x8000000000006f07ff9e0403fffffff8;
  empty = true;
  cost = 2;
  rank = 0;
}

-- shorthand ::= Digits | Signed | Decimal | TrueWord | FalseWord
unfoldable pub manchester_shorthand : Entry
manchester_shorthand = record {
  rows =
      record { mask = 0x200000000000000000; symbols = Need 69 ∷ [] }
      ∷ record { mask = 0x400000000000000000; symbols = Need 70 ∷ [] }
      ∷ record { mask = 0x800000000000000000; symbols = Need 71 ∷ [] }
      ∷ record { mask = 0x20000000000000; symbols = Need 53 ∷ [] }
      ∷ record { mask = 0x40000000000000; symbols = Need 54 ∷ [] }
      ∷ [];
  first = 0xe00060000000000000;
  follow = 0x8000000000006f07ff9e0403fffffff8;
  empty = false;
  cost = 1;
  rank = 0;
}
