-- The text of lines whose triples are those of a graph reads back to the graph under other labels.
use Rattle.std.proofs.Common.{◌≡◌, ◌≤◌, ◌<◌, ◌^◌, ◌*◌, inl, inr, ℕ, suc, ◌+◌, true, Some, List, [], ◌∷◌, ◌++◌, length, map, refl, sym, ap, ◌∙◌, subst, arith}
use Rattle.std.specs.Prelude.{Contains, slice_get}
use Rattle.std.specs.List.{AllByRecursion}
use Rattle.std.specs.Str.{all_scalars, encode_utf8_all}
use Rattle.std.proofs.lemmas.List.{length-append, length-map}
use Rattle.blank_labels.specs.FreshLabels.{fresh_name}
use Rattle.blank_labels.proofs.FreshLabelLaws.{fresh_apart, fresh_new}
use Rattle.owl_atom.specs.Prefixes.{IsTable}
use Rattle.owl_atom.specs.declared.prefixes.Prefix.{Prefix}
use Rattle.owl_characters.specs.Limit.{most_bytes}
use Rattle.owl_list.specs.Ascending.{AreApart, HoldSame, by_order, put}
use Rattle.owl_list.proofs.EachOnceLaws.{there}
use Rattle.std.specs.declared.cmp.Ordering.{Ordering}
use Rattle.std.specs.declared.cmp.Ordering.TheVariants.{Less, Equal, Greater}
use Rattle.std.proofs.lemmas.Str.{length-le-encodes}
use Rattle.owl_list.proofs.AscendingLaws.{in_cases, in_head, in_map, in_none, in_tail, same_map, same_sym}
use Rattle.owl_writing.specs.Tables.{HaveIris, written_prefixes}
use Rattle.rdf_graph.proofs.GraphLaws.{same_set}
use Rattle.rdf_graph.specs.Graphs.{IsGraph, set_of}
use Rattle.rdf_graph.specs.Terms.{HaveSubjects, IsSubject, triple_cmp}
use Rattle.rdf_graph.specs.declared.term.Term.{Term}
use Rattle.rdf_graph.specs.declared.term.Term.TheVariants.{Iri, Blank, Literal}
use Rattle.rdf_graph.specs.declared.triple.Triple.{Triple}
use Rattle.ttl_grammar.specs.Labels.{graph_of, labels_of, named, named_object, named_triple, object_labels, node_labels, triple_labels}
use Rattle.ttl_grammar.specs.States.{most_nests}
use Rattle.ttl_grammar.specs.declared.node.Node.{Node}
use Rattle.ttl_grammar.specs.declared.node.Node.TheVariants as node
use Rattle.ttl_grammar.specs.declared.node.NodeTriple.{NodeTriple}
use Rattle.ttl_grammar.specs.declared.node.Object.TheVariants as object
use Rattle.ttl_write.proofs.TermLaws.{object_of}
use Rattle.ttl_nested.proofs.SizeLaws.{lines_few}
use Rattle.ttl_nested.specs.Forms.{Line}
use Rattle.ttl_nested.specs.NestedText.{nested_text}
use Rattle.ttl_nested.specs.Renaming.{IsLabelIn, ReadsRenamed, renamed, renamed_term}
use Rattle.ttl_nested.proofs.BackLaws.{lines_read_back}
use Rattle.ttl_nested.proofs.FormLaws.{AreLinesKept, lines_labels, lines_state, lines_triples, node_triple, term_node, term_object}
use Rattle.ttl_nested.proofs.NumberLaws.{HasNone, HasNumber, are_numbered, number_in, numbered_or_not}
use Rattle.ttl_nested.proofs.ReadingLaws.{IsFormedLine, IsWithin, node_of}

-- the label that a node gets
abbrev label_by : (ℕ → List ℕ) → Node → List ℕ
label_by name (node.Iri iri) = []
label_by name (node.Label label) = label
label_by name (node.Unlabelled n) = name n

abbrev relabel : (ℕ → List ℕ) → List (List ℕ) → List ℕ → List ℕ
relabel name ls label = label_by name (number_in ls 0 label)

-- labels in triples

in_front : {X : Type 0} (xs ys : List X) (x : X) → Contains xs x → Contains (xs ++ ys) x
in_front [] ys x m = absurd (in_none x m)
in_front (y ∷ xs) ys x m = elim (in_cases y xs x m) as (λ _. Contains (y ∷ (xs ++ ys)) x) [
  | inl e ↦ subst (Contains (y ∷ (xs ++ ys))) e (in_head y (xs ++ ys))
  | inr k ↦ in_tail y (xs ++ ys) x (in_front xs ys x k)
]

in_behind : {X : Type 0} (xs ys : List X) (x : X) → Contains ys x → Contains (xs ++ ys) x
in_behind [] ys x m = m
in_behind (y ∷ xs) ys x m = in_tail y (xs ++ ys) x (in_behind xs ys x m)

in_labels : (ts : List NodeTriple) (t : NodeTriple) (label : List ℕ) → Contains ts t → Contains (triple_labels t) label → Contains (labels_of ts) label
in_labels [] t label m k = absurd (in_none t m)
in_labels (u ∷ ts) t label m k = elim (in_cases u ts t m) as (λ _. Contains (labels_of (u ∷ ts)) label) [
  | inl e ↦ in_front (triple_labels u) (labels_of ts) label (subst (λ (v : NodeTriple). Contains (triple_labels v) label) (sym e) k)
  | inr n ↦ in_behind (triple_labels u) (labels_of ts) label (in_labels ts t label n k)
]

few_of_node : (n : Node) → length (node_labels n) ≤ 1
few_of_node (node.Iri iri) = omega arith
few_of_node (node.Label label) = omega arith
few_of_node (node.Unlabelled n) = omega arith

few_of_object : (node_for : List ℕ → Node) (o : Term) → length (object_labels (term_object node_for o)) ≤ 1
few_of_object node_for (Iri iri) = omega arith
few_of_object node_for (Blank label) = few_of_node (node_for label)
few_of_object node_for (Literal literal) = omega arith

few_labels : (node_for : List ℕ → Node) (ts : List Triple) → length (labels_of (map (node_triple node_for) ts)) ≤ 2 * length ts
few_labels node_for [] = omega arith
few_labels node_for (t ∷ ts) =
    let s = term_node node_for t.subject in
    let o = term_object node_for t.object in
    omega (arith, few_labels node_for ts, few_of_node s, few_of_object node_for t.object, length-append (node_labels s) (object_labels o), length-append (node_labels s ++ object_labels o) (labels_of (map (node_triple node_for) ts)))

graph_is : (ts : List NodeTriple) → set_of (map (named_triple (fresh_name (labels_of ts))) ts) ≡ graph_of ts
unfolding graph_of
graph_is ts = refl

-- names of numbers

module _ (name : ℕ → List ℕ) (ls : List (List ℕ)) where
  name_of : (label : List ℕ) → named name (number_in ls 0 label) ≡ Blank (relabel name ls label)
  name_of label = elim (numbered_or_not ls 0 label) as (λ _. named name (number_in ls 0 label) ≡ Blank (relabel name ls label)) [
    | inl h ↦ ap (named name) h.is ∙ ap (λ (n : Node). Blank (label_by name n)) (sym h.is)
    | inr h ↦ ap (named name) h.is ∙ ap (λ (n : Node). Blank (label_by name n)) (sym h.is)
  ]

  subject_named : (t : Term) → IsSubject t → named name (term_node (number_in ls 0) t) ≡ renamed_term (relabel name ls) t
  subject_named (Iri iri) h = refl
  subject_named (Blank label) h = name_of label
  subject_named (Literal literal) h = absurd h

  object_named : (t : Term) → named_object name (term_object (number_in ls 0) t) ≡ renamed_term (relabel name ls) t
  object_named (Iri iri) = refl
  object_named (Blank label) = name_of label
  object_named (Literal literal) = refl

  triples_named : (ts : List Triple) → HaveSubjects ts → map (named_triple name) (map (node_triple (number_in ls 0)) ts) ≡ map (renamed (relabel name ls)) ts
  triples_named [] h = refl
  triples_named (t ∷ ts) h =
      ap (λ (s : Term). record { subject = s; predicate = t.predicate; object = named_object name (term_object (number_in ls 0) t.object) } ∷ map (named_triple name) (map (node_triple (number_in ls 0)) ts)) (subject_named t.subject h.0)
      ∙ ap (λ (o : Term). record { subject = renamed_term (relabel name ls) t.subject; predicate = t.predicate; object = o } ∷ map (named_triple name) (map (node_triple (number_in ls 0)) ts)) (object_named t.object)
      ∙ ap (λ (us : List Triple). renamed (relabel name ls) t ∷ us) (triples_named ts h.1)

-- what stands for itself

pub object_kept : (ls : List (List ℕ)) (t : Term) → ((label : List ℕ) → t ≡ Blank label → Contains ls label → ⊥) → object_of t ≡ term_object (number_in ls 0) t
object_kept ls (Iri iri) out = refl
object_kept ls (Blank label) out = elim (numbered_or_not ls 0 label) as (λ _. object_of (Blank label) ≡ term_object (number_in ls 0) (Blank label)) [
  | inl h ↦ absurd (out label refl (there ls h.place label h.at))
  | inr h ↦ ap object.Node (sym h.is)
]
object_kept ls (Literal literal) out = refl

pub subject_kept : (ls : List (List ℕ)) (t : Term) → IsSubject t → ((label : List ℕ) → t ≡ Blank label → Contains ls label → ⊥) → node_of t ≡ term_node (number_in ls 0) t
subject_kept ls (Iri iri) h out = refl
subject_kept ls (Blank label) h out = elim (numbered_or_not ls 0 label) as (λ _. node_of (Blank label) ≡ term_node (number_in ls 0) (Blank label)) [
  | inl n ↦ absurd (out label refl (there ls n.place label n.at))
  | inr n ↦ sym n.is
]
subject_kept ls (Literal literal) h out = absurd h

-- the whole

put_by : (o : Ordering) (t u : Triple) (us others : List Triple) → length others ≤ suc (length us) → length (by_order o (t ∷ u ∷ us) (u ∷ us) (u ∷ others)) ≤ suc (length (u ∷ us))
put_by Less t u us others h = omega arith
put_by Equal t u us others h = omega arith
put_by Greater t u us others h = omega (arith, h)

put_short : (t : Triple) (ts : List Triple) → length (put triple_cmp t ts) ≤ suc (length ts)
put_short t [] = omega arith
put_short t (u ∷ us) = put_by (triple_cmp t u) t u us (put triple_cmp t us) (put_short t us)

set_short : (ts : List Triple) → length (set_of ts) ≤ length ts
set_short [] = omega arith
set_short (t ∷ ts) = omega (arith, put_short t (set_of ts), set_short ts)

module _ (lines : List Line) (g : List Triple) (same : HoldSame (lines_triples lines) g) where
  abbrev written_triples : List NodeTriple
  written_triples = map (node_triple (number_in (lines_labels lines) 0)) (lines_triples lines)

  abbrev name : ℕ → List ℕ
  name = fresh_name (labels_of written_triples)

  -- a label that is not among those of the lines stands in the triples
  stands : (label : List ℕ) → number_in (lines_labels lines) 0 label ≡ node.Label label → IsLabelIn g label → Contains (labels_of written_triples) label
  stands label is l =
      let node_for = number_in (lines_labels lines) 0 in
      let inside = in_map (node_triple node_for) (lines_triples lines) l.triple ((same l.triple).1 l.inside) in
      let here : Contains (node_labels (node_for label)) label = subst (λ (n : Node). Contains (node_labels n) label) (sym is) (in_head label []) in
      let labels = in_labels written_triples (node_triple node_for l.triple) label inside in
      elim l.stands as (λ _. Contains (labels_of written_triples) label) [
        | inl e ↦ labels (in_front (node_labels (term_node node_for l.triple.subject)) (object_labels (term_object node_for l.triple.object)) label (subst (λ (t : Term). Contains (node_labels (term_node node_for t)) label) (sym e) here))
        | inr e ↦ labels (in_behind (node_labels (term_node node_for l.triple.subject)) (object_labels (term_object node_for l.triple.object)) label (subst (λ (t : Term). Contains (object_labels (term_object node_for t)) label) (sym e) here))
      ]

  module _ (few : 2 * length (lines_triples lines) + length (lines_labels lines) < 9 * 10 ^ 18) where
    room : (n : ℕ) → n < length (lines_labels lines) → n + length (labels_of written_triples) < 9 * 10 ^ 18
    room n h = omega (arith, h, few, few_labels (number_in (lines_labels lines) 0) (lines_triples lines))

    one_fresh : (a b : List ℕ) → HasNumber (lines_labels lines) 0 a → HasNone (lines_labels lines) 0 b → IsLabelIn g b → relabel name (lines_labels lines) a ≡ relabel name (lines_labels lines) b → ⊥
    one_fresh a b h k l e =
        let is : name h.place ≡ b = ap name (omega arith) ∙ ap (label_by name) (sym h.is) ∙ e ∙ ap (label_by name) k.is in
        fresh_new (labels_of written_triples) h.place (room h.place h.within) (subst (Contains (labels_of written_triples)) (sym is) (stands b k.is l))

    both_fresh : (a b : List ℕ) → HasNumber (lines_labels lines) 0 a → HasNumber (lines_labels lines) 0 b → relabel name (lines_labels lines) a ≡ relabel name (lines_labels lines) b → a ≡ b
    both_fresh a b h k e =
        let is : name h.place ≡ name k.place = ap name (omega arith) ∙ ap (label_by name) (sym h.is) ∙ e ∙ ap (label_by name) k.is ∙ ap name (omega arith) in
        let places = fresh_apart (labels_of written_triples) h.place k.place (room h.place h.within) (room k.place k.within) is in
        some_same (sym h.at ∙ ap (slice_get (lines_labels lines)) places ∙ k.at)
      where
        some_same : Some a ≡ Some b → a ≡ b
        some_same s = cc

    one_to_one : (a b : List ℕ) → IsLabelIn g a → IsLabelIn g b → relabel name (lines_labels lines) a ≡ relabel name (lines_labels lines) b → a ≡ b
    one_to_one a b la lb e = elim (numbered_or_not (lines_labels lines) 0 a) as (λ _. a ≡ b) [
      | inl h ↦ elim (numbered_or_not (lines_labels lines) 0 b) as (λ _. a ≡ b) [ inl k ↦ both_fresh a b h k e | inr k ↦ absurd (one_fresh a b h k lb e) ]
      | inr h ↦ elim (numbered_or_not (lines_labels lines) 0 b) as (λ _. a ≡ b) [
        | inl k ↦ absurd (one_fresh b a k h la (sym e))
        | inr k ↦ ap (label_by name) (sym h.is) ∙ e ∙ ap (label_by name) k.is
      ]
    ]

-- what is known of lines that are the nested form of a graph
pub record AreLinesOf (But : List ℕ → Type 0) (n : ℕ) (lines : List Line) (g : List Triple) : Type 0 where
  pub formed : AllByRecursion IsFormedLine lines
  pub within : AllByRecursion (λ line. IsWithin n line.object) lines
  pub subjects : HaveSubjects (lines_triples lines)
  pub same : HoldSame (lines_triples lines) g
  pub apart : AreApart (lines_labels lines)
  pub kept : AreLinesKept (number_in (lines_labels lines) 0) lines
  pub but : (label : List ℕ) → Contains (lines_labels lines) label → But label

pub lines_read_renamed : (But : List ℕ → Type 0) (n : ℕ) (prefixes : List Prefix) (lines : List Line) (g : List Triple) → IsTable prefixes → HaveIris (written_prefixes prefixes) → IsGraph g → n ≤ most_nests
    → AreLinesOf But n lines g → all_scalars (nested_text prefixes lines) ≡ true → length (encode_utf8_all (nested_text prefixes lines)) ≤ most_bytes
    → ReadsRenamed But (encode_utf8_all (nested_text prefixes lines)) (written_prefixes prefixes) g
lines_read_renamed But n prefixes lines g table iris graph nests are scalars few =
    let ls = lines_labels lines in
    let name_for = name lines g are.same in
    let small : 2 * length (lines_triples lines) + length ls < 9 * 10 ^ 18 = omega (arith, lines_few prefixes lines, length-le-encodes (nested_text prefixes lines), few) in
    let named = triples_named name_for ls (lines_triples lines) are.subjects in
    let stated = lines_state (number_in ls 0) lines are.kept (are_numbered ls 0 are.apart) in
    let same = same_set (map (renamed (relabel name_for ls)) g) (map (renamed (relabel name_for ls)) (lines_triples lines)) (same_map (renamed (relabel name_for ls)) g (lines_triples lines) (same_sym (lines_triples lines) g are.same)) in
    record {
      rename = relabel name_for ls;
      one_to_one = one_to_one lines g are.same small;
      keeps = λ label not. elim (numbered_or_not ls 0 label) as (λ _. relabel name_for ls label ≡ label) [
        | inl h ↦ absurd (not (are.but label (there ls h.place label h.at)))
        | inr h ↦ ap (label_by name_for) h.is
      ];
      reads = λ base. lines_read_back base prefixes lines (set_of (map (renamed (relabel name_for ls)) g)) n table iris are.formed are.within nests scalars few
          (same ∙ ap set_of (sym named) ∙ graph_is (written_triples lines g are.same) ∙ ap graph_of (sym stated))
          (omega (arith, set_short (map (renamed (relabel name_for ls)) g), length-map g (renamed (relabel name_for ls)), graph.few));
    }
