-- What is written of a term is read as the term.
use Rattle.std.proofs.Common.{◌≡◌, ◌⊎◌, inl, inr, ℕ, Bool, true, false, if◌then◌else◌, Option, None, Some, Ok, List, [], ◌∷◌, ◌++◌, codes, refl, sym, ap, ◌∙◌, subst, Result}
use Rattle.std.specs.Option.{option_map}
use Rattle.std.proofs.lemmas.List.{append_assoc}
use Rattle.std.proofs.lemmas.Slice.Eq.{bytes_eq-Decides}
use Rattle.grammar.specs.declared.symbol.Symbol.{Symbol as Sign}
use Rattle.grammar.specs.declared.symbol.Symbol.TheVariants.{Act, Need, Rule}
use Rattle.owl_atom.specs.Prefixes.{IsPlainLocal, IsTable}
use Rattle.owl_atom.specs.declared.prefixes.Prefix.{Prefix}
use Rattle.owl_characters.specs.Iri.{IsIri}
use Rattle.owl_characters.specs.Names.{IsLanguageTag, IsPrefixName}
use Rattle.owl_characters.specs.Order.{text_eq}
use Rattle.owl_list.proofs.AscendingLaws.{all_in}
use Rattle.owl_reader.specs.declared.fault.TokenFault.{TokenFault}
use Rattle.owl_writing.proofs.AbbreviationLaws.{IsAnswer, best_answer, cuts_fact}
use Rattle.owl_writing.specs.Abbreviations.{best_prefix, local_behind}
use Rattle.owl_writing.proofs.TableLaws.{looked_up}
use Rattle.owl_writing.specs.Terms.{full_iri, iri_text, literal_end, shortened_by}
use Rattle.rdf_graph.specs.Terms.{IsSubject}
use Rattle.rdf_graph.specs.declared.term.Term.{Term}
use Rattle.rdf_graph.specs.declared.term.Term.TheVariants as term
use Rattle.rdf_terms.specs.Literals.{FitsTag, LiteralParts, of_datatype, string, with_tag}
use Rattle.ttl_grammar.specs.Classes.{class_number, class_of}
use Rattle.ttl_grammar.specs.declared.class.Class.TheVariants.{AtBase, AtPrefix, Language}
use Rattle.ttl_grammar.specs.Documents.{AreNamespaces}
use Rattle.ttl_grammar.specs.States.{Facts, Names, Namespace, State, iri_of, iri_term, literal_term, prefixed_iri, reading, typed_term}
use Rattle.lexical_values.proofs.TypedLiteralLaws.{denoted_is_found}
use Rattle.ttl_grammar.specs.declared.node.Nest.{Nest}
use Rattle.ttl_grammar.specs.declared.node.Node.TheVariants as node
use Rattle.ttl_grammar.specs.declared.node.NodeTriple.{NodeTriple}
use Rattle.ttl_grammar.specs.declared.node.Object.{Object}
use Rattle.ttl_grammar.specs.declared.node.Object.TheVariants as object
use Rattle.ttl_tokens.specs.TurtleSpellings.{Spells}
use Rattle.ttl_tokens.specs.declared.token.Symbol.TheVariants.{Carets}
use Rattle.ttl_tokens.specs.declared.token.Token.{Token}
use Rattle.ttl_tokens.specs.declared.token.Token.TheVariants.{At, Iri, Label, Name, Str, Symbol}
use Rattle.ttl_write.specs.Formed.{IsFormedTerm}
use Rattle.ttl_write.specs.Text.{string_text, term_text}
use Rattle.ttl_write.proofs.KnownIris.{iri_is_known}
use Rattle.ttl_write.proofs.RowLaws.{Has, iri_prefixed, iri_reference, iri_row, literal_text as literal_row, object_iri, object_label, object_literal, subject_iri, subject_label, suffix_plain, suffix_tagged, suffix_typed, tag_base, tag_language, tag_prefix}
use Rattle.ttl_write.proofs.Spelled.{spells_carets, spells_iri, spells_label, spells_name, spells_string, spells_tag}
use Rattle.ttl_write.proofs.StepLaws.{Goes, Starts, goes_act, goes_rule, goes_token, starts_act, starts_rule, starts_space, starts_token}
use Rattle.ttl_write.proofs.StopLaws.{carets_longest, is_stop, longest_before_stop}

-- inside of no brackets and lists
abbrev pub facts_at : Nest → List NodeTriple → Facts
facts_at nest triples = record { term = None; nest = nest; outer = []; unlabelled = 0; triples = triples }

-- where this was read, and then this term
abbrev pub state_in : Names → List ℕ → Option Object → Facts → State
state_in names form term facts = record { names = names; form = form; facts = record facts { term = term } }

abbrev pub state_at : Names → List ℕ → Option Object → Nest → List NodeTriple → State
state_at names form term nest triples = state_in names form term (facts_at nest triples)

abbrev pub names_at : Option (List ℕ) → List Namespace → List ℕ → Names
names_at base namespaces declaring = record { base = base; namespaces = namespaces; declaring = declaring }

abbrev pub object_of : Term → Object
object_of (term.Iri iri) = object.Node (node.Iri iri)
object_of (term.Blank label) = object.Node (node.Label label)
object_of (term.Literal literal) = object.Literal literal

-- one token, an IRI reference or a name with a local part, stands for the IRI
record IsIriToken (names : Names) (iri spelling : List ℕ) : Type 0 where
  token : Token
  spells : Spells token spelling
  stands : iri_of names (Some token) ≡ Ok iri
  class : (class_of token ≡ 0) ⊎ (class_of token ≡ 1)

name_class : (name local : List ℕ) → IsPlainLocal local → class_of (Name name local) ≡ 1
unfolding class_of
name_class name [] h = absurd h
name_class name (c ∷ cs) h = refl

iri_class : (iri : Option (List ℕ)) → class_of (Iri iri) ≡ 0
unfolding class_of
iri_class iri = refl

string_class : (form : List ℕ) → class_of (Str form) ≡ 4
unfolding class_of
string_class form = refl

label_class : (label : List ℕ) → class_of (Label label) ≡ 3
unfolding class_of
label_class label = refl

carets_class : class_of (Symbol Carets) ≡ 23
unfolding class_of
carets_class = refl

tag_is : (tag : List ℕ) → class_of (At tag) ≡ (if text_eq tag (codes "prefix") then 6 else (if text_eq tag (codes "base") then 7 else 5))
unfolding class_of
tag_is tag = by_tests (text_eq tag (codes "prefix")) (text_eq tag (codes "base"))
  where
    by_tests : (p b : Bool) → class_number (if p then AtPrefix else (if b then AtBase else Language)) ≡ (if p then 6 else (if b then 7 else 5))
    by_tests true b = refl
    by_tests false true = refl
    by_tests false false = refl

module _ (base : Option (List ℕ)) (written : List Prefix) (namespaces : List Namespace) (table : IsTable written) (agree : AreNamespaces written namespaces) where
  full_token : (declaring iri : List ℕ) → IsIri iri → IsIriToken (names_at base namespaces declaring) iri (full_iri iri)
  full_token declaring iri h = record { token = Iri (Some iri); spells = spells_iri iri h; stands = iri_is_known base iri h; class = inl (iri_class (Some iri)) }

  named_token : (declaring iri : List ℕ) → IsIri iri → (best : Option Prefix) → IsAnswer iri written best → IsIriToken (names_at base namespaces declaring) iri (shortened_by best iri)
  named_token declaring iri h None answer = full_token declaring iri h
  named_token declaring iri h (Some prefix) answer =
      let cut = cuts_fact iri prefix answer.cut in
      let local = local_behind prefix iri in
      let found = ap (λ (o : Option Prefix). option_map (λ (q : Prefix). q.iri) o) (looked_up written prefix table.ascending answer.inside) in
      record {
        token = Name prefix.name local;
        spells = spells_name prefix.name local (all_in (λ (q : Prefix). IsPrefixName q.name) written prefix table.names answer.inside) cut.plain;
        stands = ap (λ (o : Option (List ℕ)). prefixed_iri o local) (sym (agree prefix.name) ∙ found) ∙ ap Ok (sym cut.parts);
        class = inr (name_class prefix.name local cut.plain);
      }

  iri_token : (declaring iri : List ℕ) → IsIri iri → IsIriToken (names_at base namespaces declaring) iri (iri_text written iri)
  iri_token declaring iri h = named_token declaring iri h (best_prefix iri written) (best_answer iri written table.ascending)

  module _ (wanted : State → Type 0) where
    -- the name of an IRI, with a space behind it
    goes_name : (names : Names) (iri spelling rest : List ℕ) (ss : List Sign) (state : State) (one : IsIriToken names iri spelling) → Starts wanted ss state rest → Goes wanted (Some one.token) (Rule 20 ∷ ss) state (spelling ++ 32 ∷ rest)
    goes_name names iri spelling rest ss state one k =
        let behind = starts_space wanted 32 rest ss state refl k in
        let longest = longest_before_stop one.token spelling 32 rest one.spells refl in
        elim one.class as (λ _. Goes wanted (Some one.token) (Rule 20 ∷ ss) state (spelling ++ 32 ∷ rest)) [
          | inl c ↦ goes_rule wanted 20 (record { mask = iri_reference.mask; symbols = Need 0 ∷ [] }) ss state (Some one.token) (spelling ++ 32 ∷ rest) iri_reference.among (goes_token wanted one.token spelling (32 ∷ rest) 0 ss state behind.0 one.spells longest c behind.1)
          | inr c ↦ goes_rule wanted 20 (record { mask = iri_prefixed.mask; symbols = Need 1 ∷ [] }) ss state (Some one.token) (spelling ++ 32 ∷ rest) iri_prefixed.among (goes_token wanted one.token spelling (32 ∷ rest) 1 ss state behind.0 one.spells longest c behind.1)
        ]

    module _ (declaring : List ℕ) (facts : Facts) where
      abbrev pub read : List ℕ → Option Object → State
      read form term = state_in (names_at base namespaces declaring) form term facts

      pub starts_iri : (iri rest form : List ℕ) (ss : List Sign) → IsIri iri → Starts wanted ss (read form (Some (object.Node (node.Iri iri)))) rest → Starts wanted (Rule 19 ∷ ss) (read form None) (iri_text written iri ++ 32 ∷ rest)
      starts_iri iri rest form ss h k =
          let one = iri_token declaring iri h in
          let named = goes_name (names_at base namespaces declaring) iri (iri_text written iri) rest ss (read form (Some (object.Node (node.Iri iri)))) one k in
          let acted = goes_act wanted 0 (Rule 20 ∷ ss) (read form None) (read form (Some (object.Node (node.Iri iri)))) (Some one.token) (iri_text written iri ++ 32 ∷ rest) (ap (λ (r : Result (List ℕ) TokenFault). reading (read form None) (iri_term r)) one.stands) named in
          starts_rule wanted 19 (Act 0 ∷ Rule 20 ∷ []) ss (read form None) (iri_text written iri ++ 32 ∷ rest) iri_row (Some one.token, acted)

      starts_label : (label rest form : List ℕ) (ss : List Sign) → IsFormedTerm (term.Blank label) → Starts wanted ss (read form (Some (object.Node (node.Label label)))) rest → Starts wanted (Act 1 ∷ Need 3 ∷ ss) (read form None) (codes "_:" ++ label ++ 32 ∷ rest)
      starts_label label rest form ss h k =
          let behind = starts_space wanted 32 rest ss (read form (Some (object.Node (node.Label label)))) refl k in
          let spelled = spells_label label h in
          let taken = goes_token wanted (Label label) (codes "_:" ++ label) (32 ∷ rest) 3 ss (read form (Some (object.Node (node.Label label)))) behind.0 spelled (longest_before_stop (Label label) (codes "_:" ++ label) 32 rest spelled refl) (label_class label) behind.1 in
          (Some (Label label), goes_act wanted 1 (Need 3 ∷ ss) (read form None) (read form (Some (object.Node (node.Label label)))) (Some (Label label)) (codes "_:" ++ label ++ 32 ∷ rest) refl taken)

      pub starts_subject : (t : Term) (rest form : List ℕ) (ss : List Sign) → IsSubject t → IsFormedTerm t → Starts wanted ss (read form (Some (object_of t))) rest → Starts wanted (Rule 5 ∷ ss) (read form None) (term_text written t ++ 32 ∷ rest)
      starts_subject (term.Iri iri) rest form ss s h k = starts_rule wanted 5 (Rule 19 ∷ []) ss (read form None) (iri_text written iri ++ 32 ∷ rest) subject_iri (starts_iri iri rest form ss h k)
      starts_subject (term.Blank label) rest form ss s h k = starts_rule wanted 5 (Act 1 ∷ Need 3 ∷ []) ss (read form None) (codes "_:" ++ label ++ 32 ∷ rest) subject_label (starts_label label rest form ss h k)
      starts_subject (term.Literal literal) rest form ss s h k = absurd s

      -- literals

      abbrev Literally : List Sign → LiteralParts → List ℕ → Type 0
      Literally ss literal rest = Starts wanted ss (read literal.lexical (Some (object.Literal literal))) rest

      goes_tag : (tag rest : List ℕ) (ss : List Sign) (state : State) → IsLanguageTag tag → Starts wanted ss state rest → Goes wanted (Some (At tag)) (Rule 17 ∷ ss) state (codes "@" ++ tag ++ 32 ∷ rest)
      goes_tag tag rest ss state h k = by_tests (text_eq tag (codes "prefix")) (text_eq tag (codes "base")) (tag_is tag)
        where
          by_class : (c : ℕ) → Has 17 (Need c ∷ []) → class_of (At tag) ≡ c → Goes wanted (Some (At tag)) (Rule 17 ∷ ss) state (codes "@" ++ tag ++ 32 ∷ rest)
          by_class c has class =
              let behind = starts_space wanted 32 rest ss state refl k in
              let spelled = spells_tag tag h in
              goes_rule wanted 17 (record { mask = has.mask; symbols = Need c ∷ [] }) ss state (Some (At tag)) (codes "@" ++ tag ++ 32 ∷ rest) has.among
              (goes_token wanted (At tag) (codes "@" ++ tag) (32 ∷ rest) c ss state behind.0 spelled (longest_before_stop (At tag) (codes "@" ++ tag) 32 rest spelled refl) class behind.1)

          by_tests : (p b : Bool) → class_of (At tag) ≡ (if p then 6 else (if b then 7 else 5)) → Goes wanted (Some (At tag)) (Rule 17 ∷ ss) state (codes "@" ++ tag ++ 32 ∷ rest)
          by_tests true b class = by_class 6 tag_prefix class
          by_tests false true class = by_class 7 tag_base class
          by_tests false false class = by_class 5 tag_language class

      starts_tagged : (form tag rest : List ℕ) (ss : List Sign) → IsLanguageTag tag → Literally ss (with_tag form tag) rest → Starts wanted (Rule 16 ∷ ss) (read form None) (codes "@" ++ tag ++ 32 ∷ rest)
      starts_tagged form tag rest ss h k =
          let after = read form (Some (object.Literal (with_tag form tag))) in
          let acted = goes_act wanted 14 (Rule 17 ∷ ss) (read form None) after (Some (At tag)) (codes "@" ++ tag ++ 32 ∷ rest) refl (goes_tag tag rest ss after h k) in
          starts_rule wanted 16 (Act 14 ∷ Rule 17 ∷ []) ss (read form None) (codes "@" ++ tag ++ 32 ∷ rest) suffix_tagged (Some (At tag), acted)

      starts_typed : (form datatype rest : List ℕ) (ss : List Sign) → IsIri datatype → FitsTag None datatype → Literally ss (of_datatype form datatype) rest → Starts wanted (Rule 16 ∷ ss) (read form None) (codes "^^" ++ iri_text written datatype ++ 32 ∷ rest)
      starts_typed form datatype rest ss h fits k =
          let one = iri_token declaring datatype h in
          let literal = of_datatype form datatype in
          let after = read form (Some (object.Literal literal)) in
          let cs = iri_text written datatype ++ 32 ∷ rest in
          let typed : typed_term form (iri_of (names_at base namespaces declaring) (Some one.token)) ≡ Ok (object.Literal literal) =
          ap (typed_term form) one.stands ∙ ap literal_term (denoted_is_found form datatype literal (inr (fits.0, fits.1, refl))) in
          let named = goes_name (names_at base namespaces declaring) datatype (iri_text written datatype) rest ss after one k in
          let acted = goes_act wanted 15 (Rule 20 ∷ ss) (read form None) after (Some one.token) cs (ap (reading (read form None)) typed) named in
          let carets = starts_token wanted (Symbol Carets) (codes "^^") cs 23 (Act 15 ∷ Rule 20 ∷ ss) (read form None) spells_carets (carets_longest cs) carets_class (Some one.token, acted) in
          starts_rule wanted 16 (Need 23 ∷ Act 15 ∷ Rule 20 ∷ []) ss (read form None) (codes "^^" ++ cs) suffix_typed carets

      starts_plain : (form rest : List ℕ) (ss : List Sign) → Literally ss (of_datatype form string) rest → Starts wanted (Rule 16 ∷ ss) (read form None) (32 ∷ rest)
      starts_plain form rest ss k =
          let after = read form (Some (object.Literal (of_datatype form string))) in
          starts_rule wanted 16 (Act 13 ∷ []) ss (read form None) (32 ∷ rest) suffix_plain (starts_act wanted 13 ss (read form None) after (32 ∷ rest) (λ next. refl) (starts_space wanted 32 rest ss after refl k))

      -- the string of a literal, in front of what may stand behind it
      starts_string : (form old : List ℕ) (c : ℕ) (cs : List ℕ) (ss : List Sign) → is_stop c ≡ true → Starts wanted (Rule 16 ∷ ss) (read form None) (c ∷ cs) → Starts wanted (Rule 15 ∷ ss) (read old None) (string_text form ++ c ∷ cs)
      starts_string form old c cs ss stop k =
          let spelled = spells_string form in
          let taken = goes_token wanted (Str form) (string_text form) (c ∷ cs) 4 (Rule 16 ∷ ss) (read form None) k.0 spelled (longest_before_stop (Str form) (string_text form) c cs spelled stop) (string_class form) k.1 in
          starts_rule wanted 15 (Act 12 ∷ Need 4 ∷ Rule 16 ∷ []) ss (read old None) (string_text form ++ c ∷ cs) literal_row
          (Some (Str form), goes_act wanted 12 (Need 4 ∷ Rule 16 ∷ ss) (read old None) (read form None) (Some (Str form)) (string_text form ++ c ∷ cs) refl taken)

      starts_end : (form old datatype : List ℕ) (b : Bool) (rest : List ℕ) (ss : List Sign) → text_eq datatype string ≡ b → IsIri datatype → FitsTag None datatype → Literally ss (of_datatype form datatype) rest
          → Starts wanted (Rule 15 ∷ ss) (read old None) (string_text form ++ ((if b then [] else codes "^^" ++ iri_text written datatype) ++ 32 ∷ rest))
      starts_end form old datatype true rest ss t h fits k =
          let same : datatype ≡ string = (bytes_eq-Decides datatype string).0 t in
          starts_string form old 32 rest ss refl (starts_plain form rest ss (subst (λ (d : List ℕ). Literally ss (of_datatype form d) rest) same k))
      starts_end form old datatype false rest ss t h fits k = starts_string form old 94 (94 ∷ iri_text written datatype ++ 32 ∷ rest) ss refl (starts_typed form datatype rest ss h fits k)

      starts_parts : (form old datatype : List ℕ) (tag : Option (List ℕ)) (rest : List ℕ) (ss : List Sign) → IsIri datatype → FitsTag tag datatype → Literally ss (record { lexical = form; datatype = datatype; tag = tag }) rest
          → Starts wanted (Rule 15 ∷ ss) (read old None) (string_text form ++ (literal_end written datatype tag ++ 32 ∷ rest))
      starts_parts form old datatype None rest ss h fits k = starts_end form old datatype (text_eq datatype string) rest ss refl h fits k
      starts_parts form old datatype (Some tag) rest ss h fits k =
          starts_string form old 64 (tag ++ 32 ∷ rest) ss refl (starts_tagged form tag rest ss fits.1 (subst (λ (d : List ℕ). Literally ss (record { lexical = form; datatype = d; tag = Some tag }) rest) fits.0 k))

      -- objects

      pub starts_object : (t : Term) (rest form : List ℕ) (ss : List Sign) → IsFormedTerm t → ((new : List ℕ) → Starts wanted ss (read new (Some (object_of t))) rest) → Starts wanted (Rule 12 ∷ ss) (read form None) (term_text written t ++ 32 ∷ rest)
      starts_object (term.Iri iri) rest form ss h k = starts_rule wanted 12 (Rule 19 ∷ []) ss (read form None) (iri_text written iri ++ 32 ∷ rest) object_iri (starts_iri iri rest form ss h (k form))
      starts_object (term.Blank label) rest form ss h k = starts_rule wanted 12 (Act 1 ∷ Need 3 ∷ []) ss (read form None) (codes "_:" ++ label ++ 32 ∷ rest) object_label (starts_label label rest form ss h (k form))
      starts_object (term.Literal literal) rest form ss h k =
          let parts = starts_parts literal.lexical form literal.datatype literal.tag rest ss h.datatype h.tag (k literal.lexical) in
          let whole = starts_rule wanted 12 (Rule 15 ∷ []) ss (read form None) (string_text literal.lexical ++ (literal_end written literal.datatype literal.tag ++ 32 ∷ rest)) object_literal parts in
          subst (λ (cs : List ℕ). Starts wanted (Rule 12 ∷ ss) (read form None) cs) (sym (append_assoc (string_text literal.lexical) (literal_end written literal.datatype literal.tag) (32 ∷ rest))) whole
