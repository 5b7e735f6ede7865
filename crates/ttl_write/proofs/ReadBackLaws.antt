-- The text of a graph reads back to the same graph, under the prefixes that are written.
use Rattle.std.proofs.Common.{◌≡◌, ◌≤◌, ℕ, Bool, true, false, cond, Option, None, Some, List, [], ◌∷◌, ◌++◌, map, length, codes, refl, sym, ap, ◌∙◌, subst}
use Rattle.std.specs.Prelude.{flat_map, if◌then◌else◌}
use Rattle.std.specs.declared.cmp.Ordering.{Ordering}
use Rattle.std.specs.declared.cmp.Ordering.TheVariants.{Less, Equal, Greater}
use Rattle.std.specs.Option.{option_map}
use Rattle.std.specs.Str.{all_scalars, encode_utf8_all}
use Rattle.std.proofs.lemmas.List.{append-nil}
use Rattle.std.proofs.lemmas.Slice.Eq.{bytes_eq-Decides}
use Rattle.grammar.proofs.AlikeLaws.{derives_alike}
use Rattle.owl_atom.specs.PrefixLaws.{Below, below_none}
use Rattle.owl_atom.specs.Prefixes.{AreAscending, IsTable, iri_of, prefix_in}
use Rattle.owl_atom.specs.declared.prefixes.Prefix.{Prefix}
use Rattle.owl_characters.specs.Limit.{most_bytes}
use Rattle.owl_characters.specs.Order.{text_cmp, text_eq}
use Rattle.owl_characters.specs.Utf8.{behind_mark, mark_size}
use Rattle.owl_characters.proofs.Utf8Laws.{no_bytes}
use Rattle.owl_lexer.specs.Splitting.{Splits, SplitsFrom}
use Rattle.owl_lexer.specs.declared.placed.Placed.{Placed}
use Rattle.owl_list.specs.Ascending.{by_order}
use Rattle.owl_writing.specs.Tables.{HaveIris, with_prefix, written_prefixes}
use Rattle.owl_writing.proofs.WrittenTableLaws.{written_table}
use Rattle.rdf_graph.proofs.GraphLaws.{set_again}
use Rattle.rdf_graph.specs.Graphs.{IsGraph, set_of}
use Rattle.rdf_graph.specs.Terms.{HaveSubjects, IsSubject}
use Rattle.rdf_graph.specs.declared.term.Term.{Term}
use Rattle.rdf_graph.specs.declared.term.Term.TheVariants as term
use Rattle.rdf_graph.specs.declared.triple.Triple.{Triple}
use Rattle.rdf_terms.specs.Vocabulary.{xsd}
use Rattle.ttl_grammar.specs.Documents.{AreNamespaces, ReadsTurtle}
use Rattle.blank_labels.specs.FreshLabels.{fresh_name}
use Rattle.ttl_grammar.specs.Labels.{graph_of, labels_of, named_object, named_triple}
use Rattle.ttl_grammar.proofs.PageLaws.{table_to_page}
use Rattle.ttl_grammar.specs.States.{Namespace, State, namespace_in, no_nest}
use Rattle.ttl_grammar.specs.declared.node.NodeTriple.{NodeTriple}
use Rattle.ttl_tokens.specs.TurtleSpellings as tokens
use Rattle.ttl_tokens.specs.declared.token.Token.{Token}
use Rattle.ttl_write.specs.Formed.{AreFormed}
use Rattle.ttl_write.specs.Text.{prefix_line, triple_line, turtle_text}
use Rattle.ttl_write.proofs.TermLaws.{object_of}
use Rattle.ttl_write.proofs.LineLaws.{declared_behind, starts_prefixes, starts_triples, stated_of}

-- the namespaces

or_else : Option (List ℕ) → Option (List ℕ) → Option (List ℕ)
or_else None other = other
or_else (Some iri) other = Some iri

found_by : (b : Bool) (p : Prefix) (ps : List Prefix) (name : List ℕ) (other : Option (List ℕ)) → text_eq p.name name ≡ b → Below p.name ps
    → or_else (iri_of ps name) (if b then Some p.iri else other) ≡ or_else (option_map (λ (q : Prefix). q.iri) (cond b (Some p) (prefix_in ps name))) other
unfolding or_else
found_by true p ps name other t below =
    let same : p.name ≡ name = (bytes_eq-Decides p.name name).0 t in
    let none = below_none name ps (subst (λ (n : List ℕ). Below n ps) same below) in
    ap (λ (o : Option Prefix). or_else (option_map (λ (q : Prefix). q.iri) o) (Some p.iri)) none
found_by false p ps name other t below = refl

declared_found : (ps : List Prefix) (namespaces : List Namespace) (name : List ℕ) → AreAscending ps → namespace_in (declared_behind ps namespaces) name ≡ or_else (iri_of ps name) (namespace_in namespaces name)
unfolding or_else
declared_found [] namespaces name up = refl
declared_found (p ∷ ps) namespaces name up =
    declared_found ps (record { prefix = p.name; iri = p.iri } ∷ namespaces) name up.1
    ∙ found_by (text_eq p.name name) p ps name (namespace_in namespaces name) refl up.0

or_nothing : (o : Option (List ℕ)) → o ≡ or_else o None
unfolding or_else
or_nothing None = refl
or_nothing (Some iri) = refl

pub declared_agree : (ps : List Prefix) → AreAscending ps → AreNamespaces ps (declared_behind ps [])
declared_agree ps up = λ name. or_nothing (iri_of ps name) ∙ sym (declared_found ps [] name up)

-- the graph

object_named : (n : ℕ → List ℕ) (t : Term) → named_object n (object_of t) ≡ t
object_named n (term.Iri iri) = refl
object_named n (term.Blank label) = refl
object_named n (term.Literal literal) = refl

abbrev triple_of : Term → List ℕ → Term → Triple
triple_of s p o = record { subject = s; predicate = p; object = o }

named_first : (n : ℕ → List ℕ) (s : Term) (p : List ℕ) (o : Term) (others : List NodeTriple) (ts : List Triple) → IsSubject s → map (named_triple n) others ≡ ts
    → map (named_triple n) (stated_of (triple_of s p o) ++ others) ≡ triple_of s p o ∷ ts
named_first n (term.Iri iri) p o others ts i e =
    ap (λ (l : List Triple). triple_of (term.Iri iri) p (named_object n (object_of o)) ∷ l) e ∙ ap (λ (x : Term). triple_of (term.Iri iri) p x ∷ ts) (object_named n o)
named_first n (term.Blank label) p o others ts i e =
    ap (λ (l : List Triple). triple_of (term.Blank label) p (named_object n (object_of o)) ∷ l) e ∙ ap (λ (x : Term). triple_of (term.Blank label) p x ∷ ts) (object_named n o)
named_first n (term.Literal literal) p o others ts i e = absurd i

named_stated : (n : ℕ → List ℕ) (ts : List Triple) → HaveSubjects ts → map (named_triple n) (flat_map stated_of ts) ≡ ts
named_stated n [] h = refl
named_stated n (t ∷ ts) h = named_first n t.subject t.predicate t.object (flat_map stated_of ts) ts h.0 (named_stated n ts h.1)

graph_again : (graph : List Triple) → IsGraph graph → graph ≡ graph_of (flat_map stated_of graph)
unfolding graph_of
graph_again graph is =
    let all = flat_map stated_of graph in
    sym (ap set_of (named_stated (fresh_name (labels_of all)) graph is.subjects) ∙ set_again graph is)

-- the text begins with a prefix, and so with no byte order mark

abbrev pub IsUnmarked : List ℕ → Type 0
IsUnmarked cs = (behind_mark cs ≡ cs) × (mark_size cs ≡ 0)

unmarked_by : (name iri : List ℕ) (p : Prefix) (ps : List Prefix) (o : Ordering) (rest : List ℕ)
    → IsUnmarked (flat_map prefix_line (by_order o (record { name = name; iri = iri; fixed = false; declared = false } ∷ p ∷ ps) (record p { iri = iri } ∷ ps) (p ∷ with_prefix name iri ps)) ++ rest)
unmarked_by name iri p ps Less rest = (refl, refl)
unmarked_by name iri p ps Equal rest = (refl, refl)
unmarked_by name iri p ps Greater rest = (refl, refl)

pub unmarked : (name iri : List ℕ) (ps : List Prefix) (rest : List ℕ) → IsUnmarked (flat_map prefix_line (with_prefix name iri ps) ++ rest)
unmarked name iri [] rest = (refl, refl)
unmarked name iri (p ∷ ps) rest = unmarked_by name iri p ps (text_cmp name p.name) rest

pub splits_text : (cs : List ℕ) (placed : List (Placed Token)) → IsUnmarked cs → all_scalars cs ≡ true → SplitsFrom tokens.Spells 0 cs [] placed None → Splits tokens.Spells (encode_utf8_all cs) placed None
splits_text cs placed unmarked scalars splits = record {
  characters = cs;
  tail = [];
  decodes = record { parts = sym (append-nil (encode_utf8_all cs)); scalars = scalars; stops = no_bytes };
  splits =
      subst (λ (n : ℕ). SplitsFrom tokens.Spells n (behind_mark cs) [] placed None) (sym unmarked.1)
      (subst (λ (x : List ℕ). SplitsFrom tokens.Spells 0 x [] placed None) (sym unmarked.0) splits);
}

-- the whole

-- the state behind the text
record IsRead (written : List Prefix) (graph : List Triple) (state : State) : Type 0 where
  namespaces : state.names.namespaces ≡ declared_behind written []
  triples : state.facts.triples ≡ flat_map stated_of graph

-- a graph's text that is not too long is read as the same graph, against any base
pub graph_reads_back : (base : Option (List ℕ)) (prefixes : List Prefix) (graph : List Triple) → IsTable prefixes → HaveIris (written_prefixes prefixes) → IsGraph graph → AreFormed graph
    → all_scalars (turtle_text prefixes graph) ≡ true → length (encode_utf8_all (turtle_text prefixes graph)) ≤ most_bytes
    → ReadsTurtle base (encode_utf8_all (turtle_text prefixes graph)) (written_prefixes prefixes) graph
graph_reads_back base prefixes graph table iris is formed scalars few =
    let written = written_prefixes prefixes in
    let is_table = written_table prefixes table in
    let agree = declared_agree written is_table.ascending in
    let wanted = IsRead written graph in
    let lines = flat_map (triple_line written) graph in
    let triples = λ (declaring : List ℕ).
    starts_triples wanted base written (declared_behind written []) is_table agree declaring graph [] no_nest [] is.subjects formed (λ form nest. record { namespaces = refl; triples = refl }) in
    let cut = (starts_prefixes wanted base [] no_nest [] written [] [] lines is_table.names iris triples).1 0 in
    let reads = cut.2 in
    record {
      placed = cut.0;
      few = few;
      splits = splits_text (turtle_text prefixes graph) cut.0 (unmarked (codes "xsd") (xsd []) _ lines) scalars cut.1;
      spells = record {
        events = reads.events;
        state = reads.final;
        derives = derives_alike table_to_page reads.derives;
        states = reads.runs;
        namespaces = subst (AreNamespaces written) (sym reads.is.namespaces) agree;
        graph_is = graph_again graph is ∙ ap graph_of (sym reads.is.triples);
        few = is.few;
      };
    }
