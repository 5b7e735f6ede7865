-- What a document of Turtle states: the acts of its derivation, done one after another (RDF 1.1 Turtle, section 7).
use Rattle.std.specs.Prelude.{ℕ, List, [], ◌∷◌, ◌++◌, map, nat_lt, Option, None, Some, Result, Ok, Err, length, if◌then◌else◌}
use Rattle.std.specs.List.{fold}
use Rattle.grammar.specs.Derivations.{Event}
use Rattle.grammar.specs.Derivations.Event.{Do, Take}
use Rattle.owl_reader.specs.declared.fault.TokenFault.{TokenFault}
use Rattle.owl_reader.specs.declared.fault.TokenFault.TheVariants.{TooMany}
use Rattle.rdf_graph.specs.Graphs.{most_triples}
use Rattle.ttl_tokens.specs.declared.token.Token.{Token}
use Rattle.ttl_grammar.specs.Acts.{act_numbered}
use Rattle.ttl_grammar.specs.Labels.{graph_of}
use Rattle.ttl_grammar.specs.States.{State, acted, start}
use Rattle.ttl_grammar.specs.declared.act.Act.{Act}

-- the token that is taken next
abbrev pub coming : List (Event Token) → Option Token
coming [] = None
coming (Take x ∷ es) = Some x
coming (Do a ∷ es) = coming es

-- the act with a number; a number of no act does nothing
abbrev pub done : Option Act → Option Token → State → Result State TokenFault
done None next state = Ok state
done (Some a) next state = acted a next state

abbrev pub and_then : {A B : Type 0} → Result A TokenFault → (A → Result B TokenFault) → Result B TokenFault
and_then (Ok x) f = f x
and_then (Err fault) f = Err fault

-- events, from a state on
abbrev pub run : List (Event Token) → State → Result State TokenFault
run [] state = Ok state
run (Take x ∷ es) state = run es state
run (Do a ∷ es) state = and_then (done (act_numbered a) (coming es) state) (λ s. run es s)

-- a document has so many triples at most
abbrev pub limited : State → Result State TokenFault
limited state = if nat_lt most_triples (length (graph_of state.facts.triples)) then Err TooMany else Ok state

-- Against a base, behind these events, these acts in front of this token or of the end.
abbrev pub answer : Option (List ℕ) → List (Event Token) → List ℕ → Option Token → Result State TokenFault
answer base events acts (Some x) = run (events ++ (map Do acts ++ Take x ∷ [])) (start base)
answer base events acts None = and_then (run (events ++ map Do acts) (start base)) limited

-- one act more
abbrev pub done_next : Option Token → Result State TokenFault → ℕ → Result State TokenFault
done_next next result a = and_then result (λ s. done (act_numbered a) next s)

-- acts in turn, in front of this token or of the end
abbrev pub all_done : List ℕ → Option Token → State → Result State TokenFault
all_done acts next state = fold (done_next next) (Ok state) acts
