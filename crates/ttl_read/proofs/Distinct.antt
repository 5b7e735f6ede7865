-- Triples of nodes that differ give triples that differ, once the nodes have labels.
use Rattle.std.proofs.Common.{◌≡◌, ◌≤◌, ◌<◌, ◌*◌, ℕ, List, [], ◌∷◌, ◌++◌, length, map, ap, subst, arith}
use Rattle.std.specs.Prelude.{Contains}
use Rattle.std.specs.List.{AllByRecursion}
use Rattle.std.proofs.lemmas.List.{length-append, length-map}
use Rattle.std.proofs.lemmas.List.Elements.{Contains-append_left, Contains-append_right}
use Rattle.blank_labels.specs.FreshLabels.{fresh_name}
use Rattle.blank_labels.proofs.FreshLabelLaws.{fresh_apart, fresh_new, in_flat}
use Rattle.owl_list.specs.Ascending.{AreApart}
use Rattle.owl_list.proofs.AscendingLaws.{all_in, from_map, in_head, in_map, in_tail}
use Rattle.rdf_graph.specs.Graphs.{set_of}
use Rattle.rdf_graph.proofs.GraphLaws.{set_holds}
use Rattle.rdf_graph.specs.declared.triple.Triple.{Triple}
use Rattle.ttl_grammar.specs.Labels.{graph_of, labels_of, named, named_object, named_triple, named_triples, node_labels, object_labels, triple_labels}
use Rattle.ttl_grammar.specs.declared.node.Node.{Node}
use Rattle.ttl_grammar.specs.declared.node.Node.TheVariants as node
use Rattle.ttl_grammar.specs.declared.node.NodeTriple.{NodeTriple}
use Rattle.ttl_grammar.specs.declared.node.Object.{Object}
use Rattle.ttl_grammar.specs.declared.node.Object.TheVariants as object
use Rattle.ttl_read.specs.Keeping.{AreKept, IsNear, IsNearNode, IsNearObject, most_nodes}
use Rattle.ttl_read.proofs.Within.{within_length}

module _ (labels : List (List ℕ)) (few : length labels ≤ 2 * most_nodes) where
  abbrev name : ℕ → List ℕ
  name = fresh_name labels

  abbrev StandThere : List (List ℕ) → Type 0
  StandThere ls = (l : List ℕ) → Contains ls l → Contains labels l

  no_label : (a : List ℕ) (n : ℕ) → Contains labels a → n < most_nodes → a ≡ name n → ⊥
  no_label a n there near e = fresh_new labels n (omega (arith, few, near)) (subst (Contains labels) e there)

  nodes_apart : (a b : Node) → IsNearNode a → IsNearNode b → StandThere (node_labels a) → StandThere (node_labels b) → named name a ≡ named name b → a ≡ b
  nodes_apart (node.Iri a) (node.Iri b) near close there stands e = let same : a ≡ b = cc in ap node.Iri same
  nodes_apart (node.Iri a) (node.Label b) near close there stands e = absurd (cc)
  nodes_apart (node.Iri a) (node.Unlabelled b) near close there stands e = absurd (cc)
  nodes_apart (node.Label a) (node.Iri b) near close there stands e = absurd (cc)
  nodes_apart (node.Label a) (node.Label b) near close there stands e = let same : a ≡ b = cc in ap node.Label same
  nodes_apart (node.Label a) (node.Unlabelled b) near close there stands e =
      let same : a ≡ name b = cc in
      absurd (no_label a b (there a (in_head a [])) close same)
  nodes_apart (node.Unlabelled a) (node.Iri b) near close there stands e = absurd (cc)
  nodes_apart (node.Unlabelled a) (node.Label b) near close there stands e =
      let same : b ≡ name a = cc in
      absurd (no_label b a (stands b (in_head b [])) near same)
  nodes_apart (node.Unlabelled a) (node.Unlabelled b) near close there stands e =
      let same : name a ≡ name b = cc in
      ap node.Unlabelled (fresh_apart labels a b (omega (arith, few, near)) (omega (arith, few, close)) same)

  objects_apart : (a b : Object) → IsNearObject a → IsNearObject b → StandThere (object_labels a) → StandThere (object_labels b) → named_object name a ≡ named_object name b → a ≡ b
  objects_apart (object.Node a) (object.Node b) near close there stands e = ap object.Node (nodes_apart a b near close there stands e)
  objects_apart (object.Node (node.Iri a)) (object.Literal b) near close there stands e = absurd (cc)
  objects_apart (object.Node (node.Label a)) (object.Literal b) near close there stands e = absurd (cc)
  objects_apart (object.Node (node.Unlabelled a)) (object.Literal b) near close there stands e = absurd (cc)
  objects_apart (object.Literal a) (object.Node (node.Iri b)) near close there stands e = absurd (cc)
  objects_apart (object.Literal a) (object.Node (node.Label b)) near close there stands e = absurd (cc)
  objects_apart (object.Literal a) (object.Node (node.Unlabelled b)) near close there stands e = absurd (cc)
  objects_apart (object.Literal a) (object.Literal b) near close there stands e = let same : a ≡ b = cc in ap object.Literal same

  triples_apart : (a b : NodeTriple) → IsNear a → IsNear b → StandThere (triple_labels a) → StandThere (triple_labels b) → named_triple name a ≡ named_triple name b → a ≡ b
  triples_apart a b near close there stands e =
      let subject = nodes_apart a.subject b.subject near.0 close.0
      (λ l m. there l (Contains-append_left (node_labels a.subject) (object_labels a.object) l m))
      (λ l m. stands l (Contains-append_left (node_labels b.subject) (object_labels b.object) l m)) (ap (λ (t : Triple). t.subject) e) in
      let object = objects_apart a.object b.object near.1 close.1
      (λ l m. there l (Contains-append_right (node_labels a.subject) (object_labels a.object) l m))
      (λ l m. stands l (Contains-append_right (node_labels b.subject) (object_labels b.object) l m)) (ap (λ (t : Triple). t.object) e) in
      let predicate : a.predicate ≡ b.predicate = ap (λ (t : Triple). t.predicate) e in
      λ i. record { subject = subject i; predicate = predicate i; object = object i }

  map_apart : (ts : List NodeTriple) → AreApart ts → AllByRecursion IsNear ts → ((t : NodeTriple) → Contains ts t → StandThere (triple_labels t)) → AreApart (map (named_triple name) ts)
  map_apart [] once near there = tt
  map_apart (t ∷ ts) once near there = (
    λ m. let v = from_map (named_triple name) ts (named_triple name t) m in
        let same = triples_apart v.element t (all_in IsNear ts v.element near.1 v.inside) near.0 (there v.element (in_tail t ts v.element v.inside)) (there t (in_head t ts)) v.value in
        once.0 (subst (Contains ts) same v.inside),
    map_apart ts once.1 near.1 (λ u n. there u (in_tail t ts u n)),
  )

labels_few : (ts : List NodeTriple) → length (labels_of ts) ≤ 2 * length ts
labels_few [] = omega arith
labels_few (t ∷ ts) =
    let both = length-append (triple_labels t) (labels_of ts) in
    let own = own_few t.subject t.object in
    let rest = labels_few ts in
    omega (arith, both, own, rest)
  where
    node_few : (n : Node) → length (node_labels n) ≤ 1
    node_few (node.Iri iri) = omega arith
    node_few (node.Label label) = omega arith
    node_few (node.Unlabelled n) = omega arith

    object_few : (o : Object) → length (object_labels o) ≤ 1
    object_few (object.Node n) = node_few n
    object_few (object.Literal literal) = omega arith

    own_few : (s : Node) (o : Object) → length (node_labels s ++ object_labels o) ≤ 2
    own_few s o =
        let both = length-append (node_labels s) (object_labels o) in
        let first = node_few s in
        let second = object_few o in
        omega (arith, both, first, second)

-- A graph has as many triples as are held of those that were stated.
pub held_in_graph : (held stated : List NodeTriple) → AreKept held → ((t : NodeTriple) → Contains held t → Contains stated t) → length stated ≤ most_nodes → length held ≤ length (graph_of stated)
unfolding graph_of
held_in_graph held stated kept within few =
    let labels = labels_of stated in
    let many = labels_few stated in
    let there : (t : NodeTriple) → Contains held t → (l : List ℕ) → Contains (triple_labels t) l → Contains labels l = λ t m l n. in_flat triple_labels stated t l (within t m) n in
    let apart = map_apart labels (omega (arith, many, few)) held kept.once kept.near there in
    let inside : (t : Triple) → Contains (map (named_triple (fresh_name labels)) held) t → Contains (set_of (named_triples stated)) t =
    λ t m. let v = from_map (named_triple (fresh_name labels)) held t m in
    (set_holds (named_triples stated) t).1 (subst (Contains (named_triples stated)) v.value (in_map (named_triple (fresh_name labels)) stated v.element (within v.element v.inside))) in
    let long = within_length (map (named_triple (fresh_name labels)) held) (set_of (named_triples stated)) apart inside in
    let same = length-map held (named_triple (fresh_name labels)) in
    omega (arith, long, same)
