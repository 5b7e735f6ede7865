-- The table of a grammar; `tools/make_grammar.py` made it.
use Rattle.std.specs.Prelude.{◌≡◌, ℕ, ◌≤◌, true, false, List, [], ◌∷◌, refl}
use Rattle.grammar.proofs.GrammarLaws.{beyond}
use Rattle.grammar.specs.Grammars.{Entry, entry}
use Rattle.grammar.specs.Predicting.{is_predictive, is_productive}
use Rattle.grammar.specs.declared.symbol.Symbol.TheVariants.{Act, Need, Rule}

-- document ::= % | statement document
unfoldable pub turtle_document : Entry
turtle_document = record {
  rows =
      record { mask = 0x80000000000000000000000000000000; symbols = [] }
      ∷ record { mask = 0x28c0cf; symbols = Rule 1 ∷ Rule 0 ∷ [] }
      ∷ [];
  first = 0x28c0cf;
  follow = 0x80000000000000000000000000000000;
  empty = true;
  cost = 7;
  rank = 0;
}

-- statement ::= AtPrefix @NamePrefix Namespace @DeclarePrefix IriRef @EndStatement Dot
--     | AtBase @DeclareBase IriRef @EndStatement Dot
--     | WordPrefix @NamePrefix Namespace @DeclarePrefix @EndStatement IriRef
--     | WordBase @DeclareBase @EndStatement IriRef
--     | triples @EndStatement Dot
unfoldable pub turtle_statement : Entry
turtle_statement = record {
  rows =
      record { mask = 0x40; symbols = Need 6 ∷ Act 17 ∷ Need 2 ∷ Act 18 ∷ Need 0 ∷ Act 20 ∷ Need 16 ∷ [] }
      ∷ record { mask = 0x80; symbols = Need 7 ∷ Act 19 ∷ Need 0 ∷ Act 20 ∷ Need 16 ∷ [] }
      ∷ record { mask = 0x4000; symbols = Need 14 ∷ Act 17 ∷ Need 2 ∷ Act 18 ∷ Act 20 ∷ Need 0 ∷ [] }
      ∷ record { mask = 0x8000; symbols = Need 15 ∷ Act 19 ∷ Act 20 ∷ Need 0 ∷ [] }
      ∷ record { mask = 0x28000f; symbols = Rule 2 ∷ Act 20 ∷ Need 16 ∷ [] }
      ∷ [];
  first = 0x28c0cf;
  follow = 0x8000000000000000000000000028c0cf;
  empty = false;
  cost = 6;
  rank = 0;
}

-- triples ::= subject @Subject predicates | @OpenBracket OpenBracket bracketed_subject
unfoldable pub turtle_triples : Entry
turtle_triples = record {
  rows =
      record { mask = 0x20000f; symbols = Rule 5 ∷ Act 3 ∷ Rule 6 ∷ [] }
      ∷ record { mask = 0x80000; symbols = Act 6 ∷ Need 19 ∷ Rule 3 ∷ [] }
      ∷ [];
  first = 0x28000f;
  follow = 0x80000000000000000000000000010000;
  empty = false;
  cost = 5;
  rank = 3;
}

-- bracketed_subject ::= @CloseBracket CloseBracket @Subject predicates
--     | predicates @CloseBracket CloseBracket @Subject more_predicates
unfoldable pub turtle_bracketed_subject : Entry
turtle_bracketed_subject = record {
  rows =
      record { mask = 0x100000; symbols = Act 7 ∷ Need 20 ∷ Act 3 ∷ Rule 6 ∷ [] }
      ∷ record { mask = 0x807; symbols = Rule 6 ∷ Act 7 ∷ Need 20 ∷ Act 3 ∷ Rule 4 ∷ [] }
      ∷ [];
  first = 0x100807;
  follow = 0x80000000000000000000000000010000;
  empty = false;
  cost = 6;
  rank = 3;
}

-- more_predicates ::= % | predicates
unfoldable pub turtle_more_predicates : Entry
turtle_more_predicates = record {
  rows =
      record { mask = 0x80000000000000000000000000110000; symbols = [] }
      ∷ record { mask = 0x807; symbols = Rule 6 ∷ [] }
      ∷ [];
  first = 0x807;
  follow = 0x80000000000000000000000000110000;
  empty = true;
  cost = 6;
  rank = 0;
}

-- subject ::= iri | @Label Label | collection
unfoldable pub turtle_subject : Entry
turtle_subject = record {
  rows =
      record { mask = 0x7; symbols = Rule 19 ∷ [] }
      ∷ record { mask = 0x8; symbols = Act 1 ∷ Need 3 ∷ [] }
      ∷ record { mask = 0x200000; symbols = Rule 13 ∷ [] }
      ∷ [];
  first = 0x20000f;
  follow = 0x80000000000000000000000000000807;
  empty = false;
  cost = 4;
  rank = 0;
}

-- predicates ::= verb @Predicate objects other_verbs
unfoldable pub turtle_predicates : Entry
turtle_predicates = record {
  rows =
      record { mask = 0x807; symbols = Rule 9 ∷ Act 4 ∷ Rule 10 ∷ Rule 7 ∷ [] }
      ∷ [];
  first = 0x807;
  follow = 0x80000000000000000000000000110000;
  empty = false;
  cost = 5;
  rank = 2;
}

-- other_verbs ::= % | Semicolon next_verb
unfoldable pub turtle_other_verbs : Entry
turtle_other_verbs = record {
  rows =
      record { mask = 0x80000000000000000000000000110000; symbols = [] }
      ∷ record { mask = 0x20000; symbols = Need 17 ∷ Rule 8 ∷ [] }
      ∷ [];
  first = 0x20000;
  follow = 0x80000000000000000000000000110000;
  empty = true;
  cost = 1;
  rank = 0;
}

-- next_verb ::= predicates | other_verbs
unfoldable pub turtle_next_verb : Entry
turtle_next_verb = record {
  rows =
      record { mask = 0x807; symbols = Rule 6 ∷ [] }
      ∷ record { mask = 0x80000000000000000000000000130000; symbols = Rule 7 ∷ [] }
      ∷ [];
  first = 0x20807;
  follow = 0x80000000000000000000000000110000;
  empty = true;
  cost = 6;
  rank = 1;
}

-- verb ::= @RdfType WordA | iri
unfoldable pub turtle_verb : Entry
turtle_verb = record {
  rows =
      record { mask = 0x800; symbols = Act 2 ∷ Need 11 ∷ [] }
      ∷ record { mask = 0x7; symbols = Rule 19 ∷ [] }
      ∷ [];
  first = 0x807;
  follow = 0x8000000000000000000000000028371f;
  empty = false;
  cost = 4;
  rank = 0;
}

-- objects ::= object @Object other_objects
unfoldable pub turtle_objects : Entry
turtle_objects = record {
  rows =
      record { mask = 0x28371f; symbols = Rule 12 ∷ Act 5 ∷ Rule 11 ∷ [] }
      ∷ [];
  first = 0x28371f;
  follow = 0x80000000000000000000000000130000;
  empty = false;
  cost = 5;
  rank = 1;
}

-- other_objects ::= % | Comma objects
unfoldable pub turtle_other_objects : Entry
turtle_other_objects = record {
  rows =
      record { mask = 0x80000000000000000000000000130000; symbols = [] }
      ∷ record { mask = 0x40000; symbols = Need 18 ∷ Rule 10 ∷ [] }
      ∷ [];
  first = 0x40000;
  follow = 0x80000000000000000000000000130000;
  empty = true;
  cost = 1;
  rank = 0;
}

-- object ::= iri
--     | @Label Label
--     | collection
--     | literal
--     | @OpenBracket OpenBracket more_predicates @CloseBracket CloseBracket
unfoldable pub turtle_object : Entry
turtle_object = record {
  rows =
      record { mask = 0x7; symbols = Rule 19 ∷ [] }
      ∷ record { mask = 0x8; symbols = Act 1 ∷ Need 3 ∷ [] }
      ∷ record { mask = 0x200000; symbols = Rule 13 ∷ [] }
      ∷ record { mask = 0x3710; symbols = Rule 15 ∷ [] }
      ∷ record { mask = 0x80000; symbols = Act 6 ∷ Need 19 ∷ Rule 4 ∷ Act 7 ∷ Need 20 ∷ [] }
      ∷ [];
  first = 0x28371f;
  follow = 0x800000000000000000000000007f371f;
  empty = false;
  cost = 4;
  rank = 0;
}

-- collection ::= @OpenCollection OpenParenthesis items @CloseCollection CloseParenthesis
unfoldable pub turtle_collection : Entry
turtle_collection = record {
  rows =
      record { mask = 0x200000; symbols = Act 8 ∷ Need 21 ∷ Rule 14 ∷ Act 11 ∷ Need 22 ∷ [] }
      ∷ [];
  first = 0x200000;
  follow = 0x800000000000000000000000007f3f1f;
  empty = false;
  cost = 2;
  rank = 1;
}

-- items ::= % | @Item object @Element items
unfoldable pub turtle_items : Entry
turtle_items = record {
  rows =
      record { mask = 0x80000000000000000000000000400000; symbols = [] }
      ∷ record { mask = 0x28371f; symbols = Act 9 ∷ Rule 12 ∷ Act 10 ∷ Rule 14 ∷ [] }
      ∷ [];
  first = 0x28371f;
  follow = 0x80000000000000000000000000400000;
  empty = true;
  cost = 6;
  rank = 0;
}

-- literal ::= @Text Text suffix | @Shorthand shorthand
unfoldable pub turtle_literal : Entry
turtle_literal = record {
  rows =
      record { mask = 0x10; symbols = Act 12 ∷ Need 4 ∷ Rule 16 ∷ [] }
      ∷ record { mask = 0x3700; symbols = Act 16 ∷ Rule 18 ∷ [] }
      ∷ [];
  first = 0x3710;
  follow = 0x800000000000000000000000007f371f;
  empty = false;
  cost = 3;
  rank = 1;
}

-- suffix ::= @Plain | @Tagged tag | Carets @Typed iri_name
unfoldable pub turtle_suffix : Entry
turtle_suffix = record {
  rows =
      record { mask = 0x800000000000000000000000007f371f; symbols = Act 13 ∷ [] }
      ∷ record { mask = 0xe0; symbols = Act 14 ∷ Rule 17 ∷ [] }
      ∷ record { mask = 0x800000; symbols = Need 23 ∷ Act 15 ∷ Rule 20 ∷ [] }
      ∷ [];
  first = 0x8000e0;
  follow = 0x800000000000000000000000007f371f;
  empty = true;
  cost = 3;
  rank = 0;
}

-- tag ::= Language | AtPrefix | AtBase
unfoldable pub turtle_tag : Entry
turtle_tag = record {
  rows =
      record { mask = 0x20; symbols = Need 5 ∷ [] }
      ∷ record { mask = 0x40; symbols = Need 6 ∷ [] }
      ∷ record { mask = 0x80; symbols = Need 7 ∷ [] }
      ∷ [];
  first = 0xe0;
  follow = 0x800000000000000000000000007f371f;
  empty = false;
  cost = 1;
  rank = 0;
}

-- shorthand ::= Integer | Decimal | Double | WordTrue | WordFalse
unfoldable pub turtle_shorthand : Entry
turtle_shorthand = record {
  rows =
      record { mask = 0x100; symbols = Need 8 ∷ [] }
      ∷ record { mask = 0x200; symbols = Need 9 ∷ [] }
      ∷ record { mask = 0x400; symbols = Need 10 ∷ [] }
      ∷ record { mask = 0x1000; symbols = Need 12 ∷ [] }
      ∷ record { mask = 0x2000; symbols = Need 13 ∷ [] }
      ∷ [];
  first = 0x3700;
  follow = 0x800000000000000000000000007f371f;
  empty = false;
  cost = 1;
  rank = 0;
}

-- iri ::= @Iri iri_name
unfoldable pub turtle_iri : Entry
turtle_iri = record {
  rows =
      record { mask = 0x7; symbols = Act 0 ∷ Rule 20 ∷ [] }
      ∷ [];
  first = 0x7;
  follow = 0x800000000000000000000000007f3f1f;
  empty = false;
  cost = 3;
  rank = 1;
}

-- iri_name ::= IriRef | Prefixed | Namespace
unfoldable pub turtle_iri_name : Entry
turtle_iri_name = record {
  rows =
      record { mask = 0x1; symbols = Need 0 ∷ [] }
      ∷ record { mask = 0x2; symbols = Need 1 ∷ [] }
      ∷ record { mask = 0x4; symbols = Need 2 ∷ [] }
      ∷ [];
  first = 0x7;
  follow = 0x800000000000000000000000007f3f1f;
  empty = false;
  cost = 1;
  rank = 0;
}

unfoldable pub turtle : List Entry
turtle =
    turtle_document ∷ turtle_statement ∷ turtle_triples ∷ turtle_bracketed_subject ∷ turtle_more_predicates ∷ turtle_subject ∷ turtle_predicates ∷ turtle_other_verbs ∷ turtle_next_verb ∷ turtle_verb ∷ turtle_objects ∷ turtle_other_objects ∷ turtle_object ∷ turtle_collection ∷ turtle_items ∷ turtle_literal ∷ turtle_suffix ∷ turtle_tag ∷ turtle_shorthand ∷ turtle_iri ∷ turtle_iri_name ∷ []

pub turtle_beyond : (r : ℕ) → 21 ≤ r → [] ≡ (entry turtle r).rows
unfolding turtle
turtle_beyond r h = beyond turtle r h

pub turtle_is_predictive : is_predictive turtle ≡ true
unfolding is_predictive turtle turtle_document turtle_statement turtle_triples turtle_bracketed_subject turtle_more_predicates turtle_subject turtle_predicates turtle_other_verbs turtle_next_verb turtle_verb turtle_objects turtle_other_objects turtle_object turtle_collection turtle_items turtle_literal turtle_suffix turtle_tag turtle_shorthand turtle_iri turtle_iri_name
turtle_is_predictive = refl

pub turtle_is_productive : is_productive turtle ≡ true
unfolding is_productive turtle turtle_document turtle_statement turtle_triples turtle_bracketed_subject turtle_more_predicates turtle_subject turtle_predicates turtle_other_verbs turtle_next_verb turtle_verb turtle_objects turtle_other_objects turtle_object turtle_collection turtle_items turtle_literal turtle_suffix turtle_tag turtle_shorthand turtle_iri turtle_iri_name
turtle_is_productive = refl
