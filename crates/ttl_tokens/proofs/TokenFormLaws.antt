-- What tokens hold is what their names say: labels, tags and names are among those of Functional-Style Syntax, whose laws
-- tell what they are.
use Rattle.std.proofs.Common.{inl, inr, ℕ, Bool, Option, None, Some, List, [], ◌∷◌, ◌++◌, drop, refl, sym, ap, ◌∙◌, subst}
use Rattle.std.specs.List.{AllByRecursion}
use Rattle.std.proofs.lemmas.List.{append-nil, append_assoc}
use Rattle.owl_characters.specs.Iri.{AllAre, is_iri_character}
use Rattle.owl_characters.proofs.NameCharacterLaws.{local_fits}
use Rattle.owl_characters.specs.Names.{IsLabel, IsLanguageTag, IsPrefixName}
use Rattle.owl_lexer.specs.Grammars.{IsLexemeOf, Terminal, test_of}
use Rattle.owl_lexer.specs.Patterns.{Matches, Pattern}
use Rattle.owl_lexer.specs.Patterns.Pattern.{both, either}
use Rattle.owl_tokens.specs.CharacterLaws.{as_shared, functional_tests}
use Rattle.owl_tokens.specs.FunctionalGrammar.{functional_grammar}
use Rattle.owl_tokens.specs.SharedPatterns.{abbreviated, language_tag, node_id, prefix_name}
use Rattle.owl_tokens.specs.NamePatternLaws.{abbreviated_is, blank_is}
use Rattle.owl_tokens.specs.TagPatternLaws.{tag_is}
use Rattle.ttl_tokens.proofs.NameLaws.{local_is_read, prefix_is_read}
use Rattle.ttl_tokens.proofs.PatternWithinLaws.{matches_within}
use Rattle.ttl_tokens.specs.TokenForms.{IsFormed}
use Rattle.ttl_tokens.specs.TurtleGrammar.{blank_node_label, langtag, pname_ln, pname_ns, turtle_grammar}
use Rattle.ttl_tokens.specs.TurtleSpellings.{Spells}
use Rattle.ttl_tokens.specs.TurtleValues.{local_text, prefix_text, token_of}
use Rattle.ttl_tokens.specs.declared.token.Token.{Token}

abbrev in_turtle : ℕ → ℕ → Bool
in_turtle = test_of turtle_grammar.sets

abbrev in_functional : ℕ → ℕ → Bool
in_functional = test_of functional_grammar.sets

abbrev IsFunctional : Pattern → Pattern → Type 0
IsFunctional p q = (cs : List ℕ) → Matches in_turtle p cs → Matches in_functional q cs

-- one pattern behind another, of which the first is two
abbrev one_by_one : Pattern → Pattern
one_by_one (both (both p q) r) = both p (both q r)
one_by_one p = p

matches_one_by_one : (p : Pattern) (cs : List ℕ) → Matches in_turtle p cs → Matches in_turtle (one_by_one p) cs
matches_one_by_one (both (both p q) r) cs m =
    let front = m.2 in
    let is = m.4 ∙ ap (λ (l : List ℕ). l ++ m.1) front.4 ∙ append_assoc front.0 front.1 m.1 in
    (front.0, front.1 ++ m.1, front.2, (front.1, m.1, front.3, m.3, refl), is)
matches_one_by_one p cs m = m

label_is_functional : IsFunctional blank_node_label node_id
unfolding turtle_grammar functional_grammar
label_is_functional cs m =
    matches_within turtle_grammar.sets functional_grammar.sets (one_by_one blank_node_label) node_id refl cs
    (matches_one_by_one blank_node_label cs m)

tag_is_functional : IsFunctional langtag language_tag
unfolding turtle_grammar functional_grammar
tag_is_functional = matches_within turtle_grammar.sets functional_grammar.sets langtag language_tag refl

abbreviated_is_functional : IsFunctional pname_ln abbreviated
unfolding turtle_grammar functional_grammar
abbreviated_is_functional = matches_within turtle_grammar.sets functional_grammar.sets pname_ln abbreviated refl

prefix_is_functional : IsFunctional pname_ns prefix_name
unfolding turtle_grammar functional_grammar
prefix_is_functional = matches_within turtle_grammar.sets functional_grammar.sets pname_ns prefix_name refl

-- the local part may be empty
name_is_functional : IsFunctional (either pname_ln pname_ns) abbreviated
name_is_functional cs (inl m) = abbreviated_is_functional cs m
name_is_functional cs (inr m) = (cs, [], prefix_is_functional cs m, inr refl, sym (append-nil cs))

-- what the three hold

label_formed : (cs : List ℕ) → Matches in_turtle blank_node_label cs → IsLabel (drop 2 cs)
label_formed cs m =
    let o = (blank_is cs).0 ((as_shared in_functional functional_tests node_id refl cs).0 (label_is_functional cs m)) in
    subst (λ (l : List ℕ). IsLabel (drop 2 l)) (sym o.1.1) o.1.0

tag_formed : (cs : List ℕ) → Matches in_turtle langtag cs → IsLanguageTag (drop 1 cs)
tag_formed cs m =
    let o = (tag_is cs).0 ((as_shared in_functional functional_tests language_tag refl cs).0 (tag_is_functional cs m)) in
    subst (λ (l : List ℕ). IsLanguageTag (drop 1 l)) (sym o.1.1) o.1.0

name_formed : (cs : List ℕ) → Matches in_turtle (either pname_ln pname_ns) cs → IsPrefixName (prefix_text cs) × AllAre is_iri_character (local_text cs)
name_formed cs m =
    let o = (abbreviated_is cs).0 ((as_shared in_functional functional_tests abbreviated refl cs).0 (name_is_functional cs m)) in
    let s = o.2 in
    let prefix = ap (λ (l : List ℕ). prefix_text l) s.3 ∙ prefix_is_read o.0 s.0 s.1 in
    let local = ap (λ (l : List ℕ). local_text l) s.3 ∙ local_is_read o.0 s.0 o.1 s.1 s.2 in
    (subst IsPrefixName (sym prefix) s.1, subst (AllAre is_iri_character) (sym local) (local_fits s.0 o.1 s.2))

-- terminals

-- the token, if there is one
abbrev IsFormedIfAny : Option Token → Type 0
IsFormedIfAny None = Unit {0}
IsFormedIfAny (Some token) = IsFormed token

abbrev Forms : Terminal → Type 0
Forms x = (cs : List ℕ) → Matches in_turtle x.pattern cs → IsFormedIfAny (token_of x.kind cs)

lexeme_formed : (xs : List Terminal) (kind : ℕ) (cs : List ℕ) → AllByRecursion Forms xs → IsLexemeOf in_turtle xs kind cs → IsFormedIfAny (token_of kind cs)
lexeme_formed [] kind cs all m = elim m [ ]
lexeme_formed (x ∷ xs) kind cs all (inl m) = subst (λ (k : ℕ). IsFormedIfAny (token_of k cs)) m.0 (all.0 cs m.1)
lexeme_formed (x ∷ xs) kind cs all (inr m) = lexeme_formed xs kind cs all.1 m

terminals_form : AllByRecursion Forms turtle_grammar.terminals
unfolding turtle_grammar
terminals_form = search (name_formed, label_formed, tag_formed)

pub tokens_formed : (token : Token) (spelling : List ℕ) → Spells token spelling → IsFormed token
tokens_formed token spelling s =
    subst IsFormedIfAny s.2 (lexeme_formed turtle_grammar.terminals s.0 spelling terminals_form s.1)
