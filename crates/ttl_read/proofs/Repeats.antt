-- Triples that stand there once and more often.
use Rattle.std.proofs.Common.{◌≡◌, ◌<◌, ◌∷◌, ◌++◌, [], ℕ, Bool, true, false, List, Option, None, Some, length, ap, inl, inr, refl, sym, subst, arith}
use Rattle.std.specs.Prelude.{Contains, if◌then◌else◌}
use Rattle.std.specs.List.{list_any}
use Rattle.std.specs.Option.{option_eq}
use Rattle.std.proofs.lemmas.Bool.{and_from, and_parts, both_ways, eq-eqb, eqb-true, or_left, or_right}
use Rattle.std.proofs.lemmas.List.Elements.{Contains-append_cases, Contains-append_left, Contains-append_right, Contains-push_cases}
use Rattle.std.proofs.lemmas.Slice.Eq.{bytes_eq-Decides}
use Rattle.indexmap.specs.IndexSet.{insert_key}
use Rattle.indexmap.proofs.CallerLemmas.{Contains-list_any}
use Rattle.owl_characters.specs.Order.{text_eq}
use Rattle.owl_list.specs.Ascending.{AreApart}
use Rattle.owl_list.proofs.AscendingLaws.{all_pushed, in_cases, in_head, in_none, in_tail}
use Rattle.rdf_graph.specs.Graphs.{most_triples}
use Rattle.rdf_terms.specs.Literals.{LiteralParts, literal_eq}
use Rattle.ttl_grammar.specs.contracts.node.NodePartialEq.TheImpl as equal_nodes
use Rattle.ttl_grammar.specs.contracts.node.ObjectPartialEq.TheImpl as equal_objects
use Rattle.ttl_grammar.specs.contracts.node.NodeTriplePartialEq.TheImpl as equal_triples
use Rattle.ttl_grammar.specs.declared.node.Node.{Node}
use Rattle.ttl_grammar.specs.declared.node.Node.TheVariants as node
use Rattle.ttl_grammar.specs.declared.node.NodeTriple.{NodeTriple}
use Rattle.ttl_grammar.specs.declared.node.Object.{Object}
use Rattle.ttl_grammar.specs.declared.node.Object.TheVariants as object
use Rattle.ttl_read.specs.Keeping.{AreHeld, AreKept, IsNear}
use Rattle.ttl_read.proofs.Within.{within_length}

-- ---- what is equal by its test is the same

texts_equal : (a b : List ℕ) → text_eq a b ≡ true → a ≡ b
texts_equal a b h = (bytes_eq-Decides a b).0 h

tags_equal : (a b : Option (List ℕ)) → option_eq text_eq a b ≡ true → a ≡ b
tags_equal None None h = refl
tags_equal None (Some b) h = absurd (cc)
tags_equal (Some a) None h = absurd (cc)
tags_equal (Some a) (Some b) h = ap Some (texts_equal a b h)

literals_equal : (a b : LiteralParts) → literal_eq a b ≡ true → a ≡ b
literals_equal a b h =
    let first = and_parts (text_eq a.lexical b.lexical) _ h in
    let second = and_parts (text_eq a.datatype b.datatype) (option_eq text_eq a.tag b.tag) first.1 in
    let lexical = texts_equal a.lexical b.lexical first.0 in
    let datatype = texts_equal a.datatype b.datatype second.0 in
    let tag = tags_equal a.tag b.tag second.1 in
    λ i. record { lexical = lexical i; datatype = datatype i; tag = tag i }

nodes_equal : (a b : Node) → equal_nodes.ghosts.eq a b ≡ true → a ≡ b
nodes_equal (node.Iri a) (node.Iri b) h = ap node.Iri (texts_equal a b h)
nodes_equal (node.Iri a) (node.Label b) h = absurd (cc)
nodes_equal (node.Iri a) (node.Unlabelled b) h = absurd (cc)
nodes_equal (node.Label a) (node.Iri b) h = absurd (cc)
nodes_equal (node.Label a) (node.Label b) h = ap node.Label (texts_equal a b h)
nodes_equal (node.Label a) (node.Unlabelled b) h = absurd (cc)
nodes_equal (node.Unlabelled a) (node.Iri b) h = absurd (cc)
nodes_equal (node.Unlabelled a) (node.Label b) h = absurd (cc)
nodes_equal (node.Unlabelled a) (node.Unlabelled b) h = ap node.Unlabelled (eqb-true a b h)

objects_equal : (a b : Object) → equal_objects.ghosts.eq a b ≡ true → a ≡ b
objects_equal (object.Node a) (object.Node b) h = ap object.Node (nodes_equal a b h)
objects_equal (object.Node a) (object.Literal b) h = absurd (cc)
objects_equal (object.Literal a) (object.Node b) h = absurd (cc)
objects_equal (object.Literal a) (object.Literal b) h = ap object.Literal (literals_equal a b h)

pub triples_equal : (a b : NodeTriple) → equal_triples.ghosts.eq a b ≡ true → a ≡ b
triples_equal a b h =
    let first = and_parts (equal_nodes.ghosts.eq a.subject b.subject) _ h in
    let second = and_parts (text_eq a.predicate b.predicate) (equal_objects.ghosts.eq a.object b.object) first.1 in
    let subject = nodes_equal a.subject b.subject first.0 in
    let predicate = texts_equal a.predicate b.predicate second.0 in
    let object = objects_equal a.object b.object second.1 in
    λ i. record { subject = subject i; predicate = predicate i; object = object i }

-- ---- and what is the same is equal

texts_same : (a : List ℕ) → text_eq a a ≡ true
texts_same a = (bytes_eq-Decides a a).1 refl

tags_same : (a : Option (List ℕ)) → option_eq text_eq a a ≡ true
tags_same None = refl
tags_same (Some a) = texts_same a

literals_same : (a : LiteralParts) → literal_eq a a ≡ true
literals_same a = and_from (text_eq a.lexical a.lexical) _ (texts_same a.lexical) (and_from (text_eq a.datatype a.datatype) (option_eq text_eq a.tag a.tag) (texts_same a.datatype) (tags_same a.tag))

nodes_same : (a : Node) → equal_nodes.ghosts.eq a a ≡ true
nodes_same (node.Iri a) = texts_same a
nodes_same (node.Label a) = texts_same a
nodes_same (node.Unlabelled a) = eq-eqb a a refl

objects_same : (a : Object) → equal_objects.ghosts.eq a a ≡ true
objects_same (object.Node a) = nodes_same a
objects_same (object.Literal a) = literals_same a

triples_same : (a : NodeTriple) → equal_triples.ghosts.eq a a ≡ true
triples_same a =
    and_from (equal_nodes.ghosts.eq a.subject a.subject) _ (nodes_same a.subject)
    (and_from (text_eq a.predicate a.predicate) (equal_objects.ghosts.eq a.object a.object) (texts_same a.predicate) (objects_same a.object))

-- ---- a set with one more

found_there : (ts : List NodeTriple) (t : NodeTriple) → Contains ts t → list_any (equal_triples.ghosts.eq t) ts ≡ true
found_there [] t m = absurd (in_none t m)
found_there (u ∷ ts) t m =
    elim (in_cases u ts t m) [
      | inl e ↦ or_left (equal_triples.ghosts.eq t u) (list_any (equal_triples.ghosts.eq t) ts) (subst (λ (v : NodeTriple). equal_triples.ghosts.eq t v ≡ true) (sym e) (triples_same t))
      | inr n ↦ or_right (equal_triples.ghosts.eq t u) (list_any (equal_triples.ghosts.eq t) ts) (found_there ts t n)
    ]

pushed_apart : (ts : List NodeTriple) (t : NodeTriple) → AreApart ts → (Contains ts t → ⊥) → AreApart (ts ++ t ∷ [])
pushed_apart [] t a out = (in_none t, tt)
pushed_apart (u ∷ ts) t a out = (
  λ m. elim (Contains-push_cases ts t u m) [ inl n ↦ a.0 n | inr e ↦ out (subst (λ (v : NodeTriple). Contains (v ∷ ts) t) e (in_head t ts)) ],
  pushed_apart ts t a.1 (λ n. out (in_tail u ts t n)),
)

kept_by : (ts : List NodeTriple) (t : NodeTriple) (there : Bool) → list_any (equal_triples.ghosts.eq t) ts ≡ there → AreKept ts → IsNear t → AreKept (if there then ts else ts ++ t ∷ [])
kept_by ts t true e k near = k
kept_by ts t false e k near = record {
  once = pushed_apart ts t k.once (λ m. both_ways (list_any (equal_triples.ghosts.eq t) ts) e (found_there ts t m));
  near = all_pushed IsNear ts t k.near near;
}

pub inserted_kept : (ts : List NodeTriple) (t : NodeTriple) → AreKept ts → IsNear t → AreKept (insert_key equal_triples.ghosts.eq ts t)
inserted_kept ts t k near = kept_by ts t (list_any (equal_triples.ghosts.eq t) ts) refl k near

held_by : (ts : List NodeTriple) (t : NodeTriple) (there : Bool) → list_any (equal_triples.ghosts.eq t) ts ≡ there → AreApart (if there then ts else ts ++ t ∷ []) → AreHeld (if there then ts else ts ++ t ∷ []) (ts ++ t ∷ [])
held_by ts t true e once = record {
  once = once;
  within = λ u m. Contains-append_left ts (t ∷ []) u m;
  all = λ few u m. elim (Contains-push_cases ts t u m) [ inl n ↦ n | inr f ↦ subst (λ (v : NodeTriple). Contains ts v) f (Contains-list_any equal_triples.ghosts.eq triples_equal ts t e) ];
}
held_by ts t false e once = record { once = once; within = λ u m. m; all = λ few u m. m }

pub inserted : (ts : List NodeTriple) (t : NodeTriple) → AreKept (insert_key equal_triples.ghosts.eq ts t) → AreHeld (insert_key equal_triples.ghosts.eq ts t) (ts ++ t ∷ [])
inserted ts t k = held_by ts t (list_any (equal_triples.ghosts.eq t) ts) refl k.once

-- too many are held already
pub passed_over : (ts : List NodeTriple) (t : NodeTriple) → AreApart ts → most_triples < length ts → AreHeld ts (ts ++ t ∷ [])
passed_over ts t once many = record {
  once = once;
  within = λ u m. Contains-append_left ts (t ∷ []) u m;
  all = λ few u m. absurd (omega (arith, few, many));
}

pub all_held : (ts : List NodeTriple) → AreApart ts → AreHeld ts ts
all_held ts once = record { once = once; within = λ u m. m; all = λ few u m. m }

-- What is held of what was held, and of some triples more, is held of all that was stated.
pub held_after : (new old stated adds : List NodeTriple) → AreHeld new (old ++ adds) → AreHeld old stated → AreHeld new (stated ++ adds)
held_after new old stated adds h k = record {
  once = h.once;
  within = λ t m. elim (Contains-append_cases old adds t (h.within t m)) [
    | inl o ↦ Contains-append_left stated adds t (k.within t o)
    | inr a ↦ Contains-append_right stated adds t a
  ];
  all = λ few t m.
      let longer = within_length old new k.once (λ u n. h.all few u (Contains-append_left old adds u n)) in
      elim (Contains-append_cases stated adds t m) [
        | inl s ↦ h.all few t (Contains-append_left old adds t (k.all (omega (arith, longer, few)) t s))
        | inr a ↦ h.all few t (Contains-append_right old adds t a)
      ];
}
