-- What is written of prefixes and triples is read as them.
use Rattle.std.proofs.Common.{◌≡◌, ℕ, Option, None, Some, List, [], ◌∷◌, ◌++◌, codes, refl, sym, ap, ◌∙◌, subst, Result}
use Rattle.std.specs.Prelude.{flat_map}
use Rattle.std.specs.List.{AllByRecursion}
use Rattle.std.proofs.lemmas.List.{append_assoc, append-nil}
use Rattle.grammar.specs.declared.symbol.Symbol.{Symbol as Sign}
use Rattle.grammar.specs.declared.symbol.Symbol.TheVariants.{Act, Need, Rule}
use Rattle.owl_atom.specs.Prefixes.{IsTable}
use Rattle.owl_atom.specs.declared.prefixes.Prefix.{Prefix}
use Rattle.owl_characters.specs.Iri.{IsIri}
use Rattle.owl_characters.specs.Names.{IsPrefixName}
use Rattle.owl_reader.specs.declared.fault.TokenFault.{TokenFault}
use Rattle.owl_writing.specs.Tables.{HaveIris}
use Rattle.owl_writing.specs.Terms.{full_iri, iri_text}
use Rattle.rdf_graph.specs.Terms.{HaveSubjects, IsSubject}
use Rattle.rdf_graph.specs.declared.triple.Triple.{Triple}
use Rattle.ttl_grammar.specs.Classes.{class_of}
use Rattle.ttl_grammar.specs.Documents.{AreNamespaces}
use Rattle.ttl_grammar.specs.States.{Namespace, State, naming, node_in, stated, with_namespace}
use Rattle.ttl_grammar.specs.declared.node.Nest.{Nest}
use Rattle.ttl_grammar.specs.declared.node.Node.TheVariants as node
use Rattle.ttl_grammar.specs.declared.node.NodeTriple.{NodeTriple}
use Rattle.ttl_grammar.specs.declared.node.Object.TheVariants as object
use Rattle.ttl_tokens.specs.declared.token.Symbol.TheVariants.{Dot}
use Rattle.ttl_tokens.specs.declared.token.Token.TheVariants.{At, Iri, Name, Symbol}
use Rattle.ttl_write.specs.Formed.{AreFormed, IsFormedTriple}
use Rattle.ttl_write.specs.Text.{prefix_line, term_text, triple_line}
use Rattle.ttl_write.proofs.KnownIris.{iri_is_known}
use Rattle.ttl_write.proofs.TermLaws.{facts_at, names_at, object_of, read, starts_iri, starts_object, starts_subject, state_at}
use Rattle.ttl_write.proofs.RowLaws.{document_end, document_more, objects_end, objects_row, predicates_row, statement_prefix, statement_triples, triples_subject, verb_iri, verbs_end}
use Rattle.ttl_write.proofs.Spelled.{spells_dot, spells_iri, spells_namespace, spells_prefix_word}
use Rattle.ttl_write.proofs.StepLaws.{Starts, goes_act, goes_none, goes_token, starts_act, starts_rule, starts_space, starts_token}
use Rattle.ttl_write.proofs.StopLaws.{longest_before_stop}

-- the triple that is stated of one
abbrev pub stated_of : Triple → List NodeTriple
stated_of t = stated (node_in (Some (object_of t.subject))) (Some t.predicate) (Some (object_of t.object))

dot_class : class_of (Symbol Dot) ≡ 16
unfolding class_of
dot_class = refl

word_class : class_of (At (codes "prefix")) ≡ 6
unfolding class_of
word_class = refl

namespace_class : (name : List ℕ) → class_of (Name name []) ≡ 2
unfolding class_of
namespace_class name = refl

iri_class : (iri : List ℕ) → class_of (Iri (Some iri)) ≡ 0
unfolding class_of
iri_class iri = refl

abbrev pub namespace_of : Prefix → Namespace
namespace_of prefix = record { prefix = prefix.name; iri = prefix.iri }

-- the namespaces behind the lines of prefixes
abbrev pub declared_behind : List Prefix → List Namespace → List Namespace
declared_behind [] namespaces = namespaces
declared_behind (p ∷ ps) namespaces = declared_behind ps (namespace_of p ∷ namespaces)

module _ (wanted : State → Type 0) where
  -- the dot of a line, and the line end
  pub starts_dot : (rest : List ℕ) (ss : List Sign) (state : State) → Starts wanted ss state rest → Starts wanted (Need 16 ∷ ss) state (46 ∷ 10 ∷ rest)
  starts_dot rest ss state k =
      starts_token wanted (Symbol Dot) (codes ".") (10 ∷ rest) 16 ss state spells_dot (longest_before_stop (Symbol Dot) (codes ".") 10 rest spells_dot refl) dot_class (starts_space wanted 10 rest ss state refl k)

  -- a document that goes on with a statement
  pub starts_statement : (state : State) (cs : List ℕ) → Starts wanted (Rule 1 ∷ Rule 0 ∷ []) state cs → Starts wanted (Rule 0 ∷ []) state cs
  starts_statement state cs k = starts_rule wanted 0 (Rule 1 ∷ Rule 0 ∷ []) [] state cs document_more k

  pub starts_end : (state : State) → wanted state → Starts wanted (Rule 0 ∷ []) state []
  starts_end state h = starts_rule wanted 0 [] [] state [] document_end (None, goes_none wanted state h)

  -- prefixes

  module _ (base : Option (List ℕ)) (form : List ℕ) (nest : Nest) (triples : List NodeTriple) where
    abbrev pub at_names : List Namespace → List ℕ → State
    at_names namespaces declaring = state_at (names_at base namespaces declaring) form None nest triples

    prefix_parts : (prefix : Prefix) (rest : List ℕ) → prefix_line prefix ++ rest ≡ codes "@prefix" ++ (32 ∷ ((prefix.name ++ codes ":") ++ (32 ∷ (full_iri prefix.iri ++ (32 ∷ 46 ∷ 10 ∷ rest)))))
    prefix_parts prefix rest =
        ap (λ (cs : List ℕ). codes "@prefix " ++ cs)
        (append_assoc prefix.name (58 ∷ 32 ∷ (full_iri prefix.iri ++ codes " .\n")) rest
        ∙ ap (λ (cs : List ℕ). prefix.name ++ (58 ∷ 32 ∷ cs)) (append_assoc (full_iri prefix.iri) (codes " .\n") rest)
        ∙ sym (append_assoc prefix.name (58 ∷ []) (32 ∷ (full_iri prefix.iri ++ (32 ∷ 46 ∷ 10 ∷ rest)))))

    starts_prefix : (prefix : Prefix) (namespaces : List Namespace) (declaring rest : List ℕ) → IsPrefixName prefix.name → IsIri prefix.iri
        → Starts wanted (Rule 0 ∷ []) (at_names (namespace_of prefix ∷ namespaces) prefix.name) rest → Starts wanted (Rule 0 ∷ []) (at_names namespaces declaring) (prefix_line prefix ++ rest)
    starts_prefix prefix namespaces declaring rest named iri k =
        let after = at_names (namespace_of prefix ∷ namespaces) prefix.name in
        let between = at_names namespaces prefix.name in
        let before = at_names namespaces declaring in
        let ended = starts_space wanted 32 (46 ∷ 10 ∷ rest) (Act 20 ∷ Need 16 ∷ Rule 0 ∷ []) after refl (starts_act wanted 20 (Need 16 ∷ Rule 0 ∷ []) after after (46 ∷ 10 ∷ rest) (λ next. refl) (starts_dot rest (Rule 0 ∷ []) after k)) in
        let iri_spelled = spells_iri prefix.iri iri in
        let iri_cs = full_iri prefix.iri ++ (32 ∷ 46 ∷ 10 ∷ rest) in
        let iri_read = goes_token wanted (Iri (Some prefix.iri)) (full_iri prefix.iri) (32 ∷ 46 ∷ 10 ∷ rest) 0 (Act 20 ∷ Need 16 ∷ Rule 0 ∷ []) after ended.0 iri_spelled (longest_before_stop (Iri (Some prefix.iri)) (full_iri prefix.iri) 32 (46 ∷ 10 ∷ rest) iri_spelled refl) (iri_class prefix.iri) ended.1 in
        let declared = goes_act wanted 18 (Need 0 ∷ Act 20 ∷ Need 16 ∷ Rule 0 ∷ []) between after (Some (Iri (Some prefix.iri))) iri_cs (ap (λ (r : Result (List ℕ) TokenFault). naming between (with_namespace between.names r)) (iri_is_known base prefix.iri iri)) iri_read in
        let name_spelled = spells_namespace prefix.name named in
        let name_ss = Act 18 ∷ Need 0 ∷ Act 20 ∷ Need 16 ∷ Rule 0 ∷ [] in
        let spaced = starts_space wanted 32 iri_cs name_ss between refl (Some (Iri (Some prefix.iri)), declared) in
        let name_cs = (prefix.name ++ codes ":") ++ (32 ∷ iri_cs) in
        let name_read = goes_token wanted (Name prefix.name []) (prefix.name ++ codes ":") (32 ∷ iri_cs) 2 name_ss between spaced.0 name_spelled (longest_before_stop (Name prefix.name []) (prefix.name ++ codes ":") 32 iri_cs name_spelled refl) (namespace_class prefix.name) spaced.1 in
        let name_known = goes_act wanted 17 (Need 2 ∷ name_ss) before between (Some (Name prefix.name [])) name_cs refl name_read in
        let word_ss = Act 17 ∷ Need 2 ∷ name_ss in
        let word_spaced = starts_space wanted 32 name_cs word_ss before refl (Some (Name prefix.name []), name_known) in
        let word = starts_token wanted (At (codes "prefix")) (codes "@prefix") (32 ∷ name_cs) 6 word_ss before spells_prefix_word (longest_before_stop (At (codes "prefix")) (codes "@prefix") 32 name_cs spells_prefix_word refl) word_class word_spaced in
        let statement = starts_rule wanted 1 (Need 6 ∷ Act 17 ∷ Need 2 ∷ Act 18 ∷ Need 0 ∷ Act 20 ∷ Need 16 ∷ []) (Rule 0 ∷ []) before (codes "@prefix" ++ (32 ∷ name_cs)) statement_prefix word in
        subst (λ (cs : List ℕ). Starts wanted (Rule 0 ∷ []) before cs) (sym (prefix_parts prefix rest)) (starts_statement before (codes "@prefix" ++ (32 ∷ name_cs)) statement)

    pub starts_prefixes : (ps : List Prefix) (namespaces : List Namespace) (declaring rest : List ℕ) → AllByRecursion (λ prefix. IsPrefixName prefix.name) ps → HaveIris ps
        → ((new : List ℕ) → Starts wanted (Rule 0 ∷ []) (at_names (declared_behind ps namespaces) new) rest) → Starts wanted (Rule 0 ∷ []) (at_names namespaces declaring) (flat_map prefix_line ps ++ rest)
    starts_prefixes [] namespaces declaring rest named iris k = k declaring
    starts_prefixes (p ∷ ps) namespaces declaring rest named iris k =
        let others = starts_prefixes ps (namespace_of p ∷ namespaces) p.name rest named.1 iris.1 k in
        subst (λ (cs : List ℕ). Starts wanted (Rule 0 ∷ []) (at_names namespaces declaring) cs) (sym (append_assoc (prefix_line p) (flat_map prefix_line ps) rest))
        (starts_prefix p namespaces declaring (flat_map prefix_line ps ++ rest) named.0 iris.0 others)

  -- triples

  module _ (base : Option (List ℕ)) (written : List Prefix) (namespaces : List Namespace) (table : IsTable written) (agree : AreNamespaces written namespaces) (declaring : List ℕ) where
    triple_parts : (t : Triple) (rest : List ℕ) → triple_line written t ++ rest ≡ term_text written t.subject ++ 32 ∷ (iri_text written t.predicate ++ 32 ∷ (term_text written t.object ++ 32 ∷ 46 ∷ 10 ∷ rest))
    triple_parts t rest =
        append_assoc (term_text written t.subject) (32 ∷ (iri_text written t.predicate ++ 32 ∷ (term_text written t.object ++ codes " .\n"))) rest
        ∙ ap (λ (cs : List ℕ). term_text written t.subject ++ 32 ∷ cs)
        (append_assoc (iri_text written t.predicate) (32 ∷ (term_text written t.object ++ codes " .\n")) rest
        ∙ ap (λ (cs : List ℕ). iri_text written t.predicate ++ 32 ∷ cs) (append_assoc (term_text written t.object) (codes " .\n") rest))

    abbrev pub between : List ℕ → Nest → List NodeTriple → State
    between form nest triples = state_at (names_at base namespaces declaring) form None nest triples

    starts_triple : (t : Triple) (form : List ℕ) (nest : Nest) (triples : List NodeTriple) (rest : List ℕ) → IsSubject t.subject → IsFormedTriple t
        → ((form : List ℕ) (nest : Nest) → Starts wanted (Rule 0 ∷ []) (between form nest (triples ++ stated_of t)) rest) → Starts wanted (Rule 0 ∷ []) (between form nest triples) (triple_line written t ++ rest)
    starts_triple t form nest triples rest is_subject h k =
        let on_subject = record nest { subject = node_in (Some (object_of t.subject)) } in
        let on_predicate = record on_subject { predicate = Some t.predicate } in
        let tail = Act 20 ∷ Need 16 ∷ Rule 0 ∷ [] in
        let end_cs = 46 ∷ 10 ∷ rest in
        let ended = λ (new : List ℕ).
        let after = between new on_predicate (triples ++ stated_of t) in
        let dot = starts_act wanted 20 (Need 16 ∷ Rule 0 ∷ []) after after end_cs (λ next. refl) (starts_dot rest (Rule 0 ∷ []) after (k new on_predicate)) in
        let verbs = starts_rule wanted 7 [] tail after end_cs verbs_end dot in
        let objects = starts_rule wanted 11 [] (Rule 7 ∷ tail) after end_cs objects_end verbs in
        starts_act wanted 5 (Rule 11 ∷ Rule 7 ∷ tail) (read base written namespaces table agree wanted declaring (facts_at on_predicate triples) new (Some (object_of t.object))) after end_cs (λ next. refl) objects in
        let object_cs = term_text written t.object ++ 32 ∷ end_cs in
        let object_ss = Act 5 ∷ Rule 11 ∷ Rule 7 ∷ tail in
        let object_read = starts_object base written namespaces table agree wanted declaring (facts_at on_predicate triples) t.object end_cs form object_ss h.object ended in
        let objects = starts_rule wanted 10 (Rule 12 ∷ Act 5 ∷ Rule 11 ∷ []) (Rule 7 ∷ tail) (between form on_predicate triples) object_cs objects_row object_read in
        let predicate_ss = Act 4 ∷ Rule 10 ∷ Rule 7 ∷ tail in
        let predicate_term = Some (object.Node (node.Iri t.predicate)) in
        let predicate_known = starts_act wanted 4 (Rule 10 ∷ Rule 7 ∷ tail) (state_at (names_at base namespaces declaring) form predicate_term on_subject triples) (between form on_predicate triples) object_cs (λ next. refl) objects in
        let predicate_cs = iri_text written t.predicate ++ 32 ∷ object_cs in
        let predicate_read = starts_iri base written namespaces table agree wanted declaring (facts_at on_subject triples) t.predicate object_cs form predicate_ss h.predicate predicate_known in
        let verb = starts_rule wanted 9 (Rule 19 ∷ []) predicate_ss (between form on_subject triples) predicate_cs verb_iri predicate_read in
        let predicates = starts_rule wanted 6 (Rule 9 ∷ Act 4 ∷ Rule 10 ∷ Rule 7 ∷ []) tail (between form on_subject triples) predicate_cs predicates_row verb in
        let subject_known = starts_act wanted 3 (Rule 6 ∷ tail) (state_at (names_at base namespaces declaring) form (Some (object_of t.subject)) nest triples) (between form on_subject triples) predicate_cs (λ next. refl) predicates in
        let subject_cs = term_text written t.subject ++ 32 ∷ predicate_cs in
        let subject_read = starts_subject base written namespaces table agree wanted declaring (facts_at nest triples) t.subject predicate_cs form (Act 3 ∷ Rule 6 ∷ tail) is_subject h.subject subject_known in
        let whole = starts_rule wanted 2 (Rule 5 ∷ Act 3 ∷ Rule 6 ∷ []) tail (between form nest triples) subject_cs triples_subject subject_read in
        let statement = starts_rule wanted 1 (Rule 2 ∷ Act 20 ∷ Need 16 ∷ []) (Rule 0 ∷ []) (between form nest triples) subject_cs statement_triples whole in
        subst (λ (cs : List ℕ). Starts wanted (Rule 0 ∷ []) (between form nest triples) cs) (sym (triple_parts t rest)) (starts_statement (between form nest triples) subject_cs statement)

    pub starts_triples : (ts : List Triple) (form : List ℕ) (nest : Nest) (triples : List NodeTriple) → HaveSubjects ts → AreFormed ts
        → ((form : List ℕ) (nest : Nest) → wanted (between form nest (triples ++ flat_map stated_of ts))) → Starts wanted (Rule 0 ∷ []) (between form nest triples) (flat_map (triple_line written) ts)
    starts_triples [] form nest triples subjects h is = starts_end (between form nest triples) (subst (λ (all : List NodeTriple). wanted (between form nest all)) (append-nil triples) (is form nest))
    starts_triples (t ∷ ts) form nest triples subjects h is =
        starts_triple t form nest triples (flat_map (triple_line written) ts) subjects.0 h.0
        (λ new other. starts_triples ts new other (triples ++ stated_of t) subjects.1 h.1
        (λ form nest. subst (λ (all : List NodeTriple). wanted (between form nest all)) (sym (append_assoc triples (stated_of t) (flat_map stated_of ts))) (is form nest)))
