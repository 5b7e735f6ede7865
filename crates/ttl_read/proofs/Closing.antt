-- The end of a document.
use Rattle.std.proofs.Common.{◌≡◌, ◌≢◌, ◌≤◌, ◌<◌, ◌∙◌, List, Ok, Err, Bool, ap, refl, subst, sym, arith}
use Rattle.std.specs.Prelude.{length, if◌then◌else◌}
use Rattle.std.proofs.lemmas.Bool.{le-ltb, lt-ltb}
use Rattle.owl_reader.specs.declared.fault.TokenFault.TheVariants.{Memory, TooMany}
use Rattle.rdf_graph.specs.Graphs.{most_triples}
use Rattle.rdf_graph.specs.declared.fault.GraphFault.{GraphFault}
use Rattle.rdf_graph.specs.declared.fault.GraphFault.TheVariants as graph
use Rattle.rdf_graph.specs.declared.triple.Triple.{Triple}
use Rattle.ttl_grammar.proofs.LabelLaws.{graph_same}
use Rattle.ttl_grammar.specs.Labels.{graph_of}
use Rattle.ttl_grammar.specs.Runs.{limited}
use Rattle.ttl_grammar.specs.States.{Facts, State}
use Rattle.ttl_grammar.specs.declared.node.NodeTriple.{NodeTriple}
use Rattle.owl_reader.specs.Computing.{TurnsTo}
use Rattle.ttl_read.specs.Keeping.{AreHeld, AreKept}
use Rattle.ttl_read.specs.Refusals.{of_graph}
use Rattle.ttl_read.specs.Showing.{Holds, Shows}
use Rattle.ttl_read.specs.declared.assembler.Assembler.{Assembler}
use Rattle.ttl_read.proofs.Distinct.{held_in_graph}

graph_stated : (old : Assembler) (state : State) (ts : List NodeTriple) → Shows old state → ts ≡ old.facts.triples → length ts ≤ most_triples → graph_of ts ≡ graph_of state.facts.triples
graph_stated old state ts h e few =
    let held = subst (λ (us : List NodeTriple). AreHeld us state.facts.triples) (sym e) h.facts.triples in
    graph_same ts state.facts.triples (λ t. (held.within t, held.all few t))

-- the graph is within the limit,
pub closed_within : (old : Assembler) (left : Facts) (made : List Triple) (state : State) (ts : List NodeTriple) → Shows old state → ts ≡ old.facts.triples → length ts ≤ most_triples → made ≡ graph_of ts → length (graph_of ts) ≤ most_triples → TurnsTo Holds (Ok tt) (record old { facts = left; graph = made }) (limited state)
closed_within old left made state ts h e short_held is few =
    let same = graph_stated old state ts h e short_held in
    let short : length (graph_of state.facts.triples) ≤ most_triples = subst (λ (g : List Triple). length g ≤ most_triples) same few in
    (state, ap (λ (many : Bool). if many then Err TooMany else Ok state) (le-ltb most_triples (length (graph_of state.facts.triples)) short), record { names = h.names; graph = is ∙ same; few = short })

told_many : (state : State) → most_triples < length (graph_of state.facts.triples) → limited state ≡ Err TooMany
told_many state long = ap (λ (b : Bool). if b then Err TooMany else Ok state) (lt-ltb most_triples (length (graph_of state.facts.triples)) long)

-- or beyond it, or memory ran out
pub closed_beyond : (old : Assembler) (state : State) (ts : List NodeTriple) (fault : GraphFault) → Shows old state → ts ≡ old.facts.triples → length ts ≤ most_triples → (fault ≡ graph.TooMany → most_triples < length (graph_of ts)) → of_graph fault ≢ Memory → limited state ≡ Err (of_graph fault)
closed_beyond old state ts graph.Memory h e few many other = absurd (other refl)
closed_beyond old state ts graph.TooMany h e few many other =
    told_many state (subst (λ (g : List Triple). most_triples < length g) (graph_stated old state ts h e few) (many refl))

-- or more are held than a graph may have
pub closed_over : (old : Assembler) (state : State) (ts : List NodeTriple) → Shows old state → ts ≡ old.facts.triples → AreKept ts → most_triples < length ts → limited state ≡ Err TooMany
closed_over old state ts h e kept many =
    let held = subst (λ (us : List NodeTriple). AreHeld us state.facts.triples) (sym e) h.facts.triples in
    let all = held_in_graph ts state.facts.triples kept held.within (omega (arith, h.counted, h.few)) in
    told_many state (omega (arith, many, all))
