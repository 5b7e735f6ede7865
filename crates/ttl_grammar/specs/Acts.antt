-- The numbers of acts.
use Rattle.std.specs.Prelude.{ℕ, ◌==◌, List, [], ◌∷◌, Option, find}
use Rattle.ttl_grammar.specs.declared.act.Act.{Act}
use Rattle.ttl_grammar.specs.declared.act.Act.TheVariants.{Iri, Label, RdfType, Subject, Predicate, Object, OpenBracket, CloseBracket, OpenCollection, Item, Element, CloseCollection, Text, Plain, Tagged, Typed, Shorthand, NamePrefix, DeclarePrefix, DeclareBase, EndStatement}

abbrev pub act_number : Act → ℕ
act_number Iri = 0
act_number Label = 1
act_number RdfType = 2
act_number Subject = 3
act_number Predicate = 4
act_number Object = 5
act_number OpenBracket = 6
act_number CloseBracket = 7
act_number OpenCollection = 8
act_number Item = 9
act_number Element = 10
act_number CloseCollection = 11
act_number Text = 12
act_number Plain = 13
act_number Tagged = 14
act_number Typed = 15
act_number Shorthand = 16
act_number NamePrefix = 17
act_number DeclarePrefix = 18
act_number DeclareBase = 19
act_number EndStatement = 20

-- the acts in the order of their numbers
abbrev pub all_acts : List Act
all_acts =
    Iri ∷ Label ∷ RdfType ∷ Subject ∷ Predicate ∷ Object ∷ OpenBracket ∷ CloseBracket ∷ OpenCollection ∷ Item ∷ Element ∷ CloseCollection ∷ Text ∷ Plain ∷ Tagged ∷ Typed ∷ Shorthand ∷ NamePrefix ∷ DeclarePrefix ∷ DeclareBase ∷ EndStatement ∷ []

-- the act with this number
abbrev pub act_numbered : ℕ → Option Act
act_numbered n = find (λ a. act_number a == n) all_acts
