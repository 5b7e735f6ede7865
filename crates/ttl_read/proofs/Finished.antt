-- What was made of a whole document is what its bytes say.
use Rattle.std.proofs.Common.{◌≡◌, ◌≤◌, ℕ, List, [], ◌∷◌, Option, length, refl, sym, ap, subst}
use Rattle.owl_atom.specs.declared.prefixes.Prefix.{Prefix}
use Rattle.grammar.proofs.AlikeLaws.{derives_alike}
use Rattle.owl_reader.specs.Events.{WholeByEvents}
use Rattle.owl_reader.specs.Readings.{IsRead}
use Rattle.owl_reader.specs.Steps.{Step, plain, tokens_in}
use Rattle.rdf_graph.specs.Graphs.{most_triples}
use Rattle.rdf_graph.specs.declared.triple.Triple.{Triple}
use Rattle.ttl_tokens.specs.TurtleSpellings as tokens
use Rattle.ttl_tokens.specs.declared.token.Token.{Token}
use Rattle.ttl_grammar.specs.Documents.{AreNamespaces, ReadsTurtle, SpellsTurtle, tokens_of}
use Rattle.ttl_grammar.proofs.PageLaws.{table_to_page}
use Rattle.ttl_grammar.specs.Rules.{turtle_rules}
use Rattle.ttl_grammar.specs.Table.{turtle}
use Rattle.ttl_read.specs.NameTables.{ArePlain}
use Rattle.ttl_read.specs.Showing.{Whole}
use Rattle.ttl_read.specs.declared.assembler.Assembler.{Assembler}

plain_tokens : (steps : List (Step Token)) → plain steps ≡ tokens_of (tokens_in steps)
plain_tokens [] = refl
plain_tokens (s ∷ steps) = ap (λ (l : List Token). s.token.token ∷ l) (plain_tokens steps)

pub reads : (base : Option (List ℕ)) (bytes : List ℕ) (a : Assembler) → IsRead tokens.Spells turtle (turtle_rules base) (WholeByEvents (Whole base)) bytes a → (prefixes : List Prefix) → prefixes ≡ a.names.prefixes → ReadsTurtle base bytes prefixes a.graph
reads base bytes a r prefixes e =
    let it = r.ends.made_by in
    let spells : SpellsTurtle base prefixes a.graph (plain r.steps) = record {
      events = _;
      state = it.state;
      derives = derives_alike table_to_page r.ends.derives;
      states = it.ends;
      namespaces = subst (λ (ps : List Prefix). AreNamespaces ps it.state.names.namespaces) (sym e) it.holds.names.namespaces;
      graph_is = it.holds.graph;
      few = subst (λ (ts : List Triple). length ts ≤ most_triples) (sym it.holds.graph) it.holds.few;
    } in
    record {
      placed = tokens_in r.steps;
      few = r.few;
      splits = r.splits;
      spells = subst (λ (l : List Token). SpellsTurtle base prefixes a.graph l) (plain_tokens r.steps) spells;
    }

pub plain_prefixes : (base : Option (List ℕ)) (bytes : List ℕ) (a : Assembler) → IsRead tokens.Spells turtle (turtle_rules base) (WholeByEvents (Whole base)) bytes a → (prefixes : List Prefix) → prefixes ≡ a.names.prefixes → ArePlain prefixes
plain_prefixes base bytes a r prefixes e = subst ArePlain (sym e) r.ends.made_by.holds.names.plain
