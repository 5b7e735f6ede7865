-- What a graph keeps of what was drawn.
use Rattle.std.specs.Prelude.{◌≡◌, ◌⊎◌, ◌≤◌, ◌<◌, ◌+◌, ℕ, suc, Bool, true, ◌||◌, List, [], ◌∷◌, Contains}
use Rattle.std.specs.List.{list_any}
use Rattle.rdf_graph.specs.declared.term.Term.{Term}
use Rattle.rdf_graph.specs.declared.term.Term.TheVariants.{Iri}
use Rattle.rdf_graph.specs.declared.triple.Triple.{Triple}
use Rattle.rdf_meaning.specs.declared.word.Word.{Word}
use Rattle.rdf_meaning.specs.declared.word.Word.TheVariants as word
use Rattle.rdf_meaning.specs.Nodes.{carries, is_facet, is_word, marked_roles, nil_iri, words_of}
use Rattle.rdf_mapping.specs.Forms.{Form, plain, made, twice, Arcs, no_arcs, arc, blank, first_iri, link, nodes, rest_iri, term_of, triples}

-- the blank node of a number from one up to another
pub record Lies (name : ℕ → List ℕ) (low high : ℕ) (x : Term) : Type 0 where
  pub number : ℕ
  pub from : low ≤ number
  pub below : number < high
  pub is : x ≡ blank name number

-- numbers below the most have labels of their own
abbrev pub AreNamedApart : (ℕ → List ℕ) → ℕ → Type 0
AreNamedApart name most = (m n : ℕ) → m < most → n < most → name m ≡ name n → m ≡ n

-- A graph has the triples, and at the nodes of the interval no others for which the fact holds.
pub record Keeps (name : ℕ → List ℕ) (Cares : Triple → Type 0) (g ts : List Triple) (low high : ℕ) : Type 0 where
  pub there : (t : Triple) → Contains ts t → Contains g t
  pub back : (t : Triple) → Lies name low high t.subject → Cares t → Contains g t → Contains ts t

-- and so a node
pub record IsOwn (Cares : Triple → Type 0) (g : List Triple) (x : Term) (own : List Triple) : Type 0 where
  pub there : (t : Triple) → Contains own t → Contains g t
  pub subject : (t : Triple) → Contains own t → t.subject ≡ x
  pub back : (t : Triple) → t.subject ≡ x → Cares t → Contains g t → Contains own t

-- the triples of a node itself
abbrev pub own_triples : (ℕ → List ℕ) → Term → Arcs → ℕ → List Triple
own_triples name x no_arcs n = []
own_triples name x (arc p f more) n = link x p (term_of name f n) ∷ own_triples name x more (n + nodes f)

-- the words by which a node is what it is
unfoldable pub is_node_word : Word → Bool
is_node_word w = is_word w word.Ontology || list_any (λ r. list_any (is_word w) (words_of r)) marked_roles

-- what stands behind the element in a list in which it stands twice
abbrev pub twice_behind : (ℕ → List ℕ) → Form → ℕ → List Triple
twice_behind name f n =
    link (blank name n) rest_iri (blank name (suc n + nodes f)) ∷
    link (blank name (suc n + nodes f)) first_iri (term_of name f (suc n)) ∷
    link (blank name (suc n + nodes f)) rest_iri (Iri nil_iri) ∷ []

-- a triple that makes its subject, if it is a blank node, what it is
pub data IsOfNode (t : Triple) : Type 0 where
  by_word : (w : Word) → is_node_word w ≡ true → carries w t ≡ true → IsOfNode t
  by_facet : is_facet t.predicate ≡ true → IsOfNode t

-- the second cell of a list in which the one element stands twice
abbrev pub second_cell : Form → ℕ → ℕ
second_cell f n = suc n + nodes f

-- of the forms that arcs lead to
abbrev pub EachKept : (ℕ → List ℕ) → (Triple → Type 0) → List Triple → Arcs → ℕ → Type 0
EachKept name Cares g no_arcs n = Unit {0}
EachKept name Cares g (arc p f more) n = Keeps name Cares g (triples name f n) n (n + nodes f) × EachKept name Cares g more (n + nodes f)

-- What a graph keeps of a form: of each of its nodes its own triples, and no others.
pub record KeepsArcs (name : ℕ → List ℕ) (Cares : Triple → Type 0) (g : List Triple) (arcs : Arcs) (n : ℕ) : Type 0 where
  pub own : IsOwn Cares g (blank name n) (own_triples name (blank name n) arcs (suc n))
  pub each : EachKept name Cares g arcs (suc n)

pub record KeepsTwice (name : ℕ → List ℕ) (Cares : Triple → Type 0) (g : List Triple) (f : Form) (n : ℕ) : Type 0 where
  pub first_own : IsOwn Cares g (blank name n) (link (blank name n) first_iri (term_of name f (suc n)) ∷ link (blank name n) rest_iri (blank name (second_cell f n)) ∷ [])
  pub element : Keeps name Cares g (triples name f (suc n)) (suc n) (suc n + nodes f)
  pub second_own : IsOwn Cares g (blank name (second_cell f n)) (link (blank name (second_cell f n)) first_iri (term_of name f (suc n)) ∷ link (blank name (second_cell f n)) rest_iri (Iri nil_iri) ∷ [])

abbrev pub IsKept : (ℕ → List ℕ) → (Triple → Type 0) → List Triple → Form → ℕ → Type 0
IsKept name Cares g (plain x) n = Unit {0}
IsKept name Cares g (made arcs) n = KeepsArcs name Cares g arcs n
IsKept name Cares g (twice f) n = KeepsTwice name Cares g f n

-- no blank node that is numbered
abbrev pub IsForeign : (ℕ → List ℕ) → ℕ → Term → Type 0
IsForeign name most x = (n : ℕ) → n < most → x ≡ blank name n → ⊥

-- where a triple begins: at a node of the interval, or at a term that is no numbered node
abbrev pub AreOwned : (ℕ → List ℕ) → ℕ → List Triple → ℕ → ℕ → Type 0
AreOwned name most ts low high = (t : Triple) → Contains ts t → Lies name low high t.subject ⊎ IsForeign name most t.subject

-- all triples are looked at
abbrev pub IsAny : Triple → Type 0
IsAny t = Unit {0}

-- the term at which a form begins is no other numbered node
abbrev pub StartsApart : (ℕ → List ℕ) → ℕ → Form → Type 0
StartsApart name most (plain x) = IsForeign name most x
StartsApart name most (made arcs) = Unit {0}
StartsApart name most (twice f) = Unit {0}
