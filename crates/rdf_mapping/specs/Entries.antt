-- Which node reifies which triple, in what is drawn of annotations.
use Rattle.std.specs.Prelude.{◌≡◌, ◌≤◌, ◌<◌, ◌+◌, ◌⊎◌, ℕ, suc, true, false, List, [], ◌∷◌, ◌++◌, Contains}
use Rattle.rdf_graph.specs.declared.term.Term.{Term}
use Rattle.rdf_graph.specs.declared.triple.Triple.{Triple}
use Rattle.rdf_meaning.specs.declared.word.Word.{Word}
use Rattle.rdf_meaning.specs.declared.word.Word.TheVariants as word
use Rattle.rdf_meaning.specs.declared.role.Role.TheVariants as role
use Rattle.owl_kind.specs.declared.kind.Kind.TheVariants.{AnnotationProperty}
use Rattle.rdf_meaning.specs.Kinds.{may_be_declared}
use Rattle.rdf_meaning.specs.Nodes.{role_of}
use Rattle.rdf_mapping.specs.Frames.{IsAny, IsOfNode, IsOwn}
use Rattle.rdf_mapping.specs.Forms.{blank, link}
use Rattle.rdf_mapping.specs.Notes.{Notes, no_notes, note, note_nodes, reified_nodes, reifying, where_some}

-- The node of the number is of type owl:Axiom or owl:Annotation, reifies the triple, and has the annotations.
pub record Entry : Type 0 where
  pub number : ℕ
  pub word : Word
  pub triple : Triple
  pub notes : Notes

abbrev pub entry : ℕ → Word → Triple → Notes → Entry
entry n w t ns = record { number = n; word = w; triple = t; notes = ns }

-- A predicate that makes no node what it is: no word of a node has it, and it is of no facet.
abbrev pub IsBeside : List ℕ → Type 0
IsBeside p = (t : Triple) → t.predicate ≡ p → IsOfNode t → ⊥

-- the predicates of a node's annotations, and of those below them
abbrev pub AreBeside : Notes → Type 0
AreBeside no_notes = Unit {0}
AreBeside (note p v inside more) = IsBeside p × AreBeside more

abbrev pub AreAllBeside : Notes → Type 0
AreAllBeside no_notes = Unit {0}
AreAllBeside (note p v inside more) = IsBeside p × (AreAllBeside inside × AreAllBeside more)

-- a reserved IRI is none of these, but for those that are built in as annotation properties
abbrev pub AreAllDeclarable : Notes → Type 0
AreAllDeclarable no_notes = Unit {0}
AreAllDeclarable (note p v inside more) =
    (may_be_declared AnnotationProperty p ≡ true) × (AreAllDeclarable inside × AreAllDeclarable more)

pub record IsSaid (e : Entry) : Type 0 where
  pub word : (e.word ≡ word.Axiom) ⊎ (e.word ≡ word.Annotation)
  pub beside : AreBeside e.notes
  pub some : where_some e.notes false true ≡ true

-- the annotations of a node, without those of their own
abbrev pub note_links : Term → Notes → List Triple
note_links x no_notes = []
note_links x (note p v inside more) = link x p v ∷ note_links x more

-- the nodes that reify an annotation of this node
abbrev pub note_roots : Term → Notes → ℕ → List Entry
note_roots x no_notes n = []
note_roots x (note p v inside more) n =
    where_some inside [] (entry n word.Annotation (link x p v) inside ∷ []) ++
    note_roots x more (n + where_some inside 0 (suc (note_nodes inside)))

abbrev pub reified_roots : Word → Triple → Notes → ℕ → List Entry
reified_roots w t ns n = where_some ns [] (entry n w t ns ∷ [])

abbrev pub set_roots : Triple → List Notes → ℕ → List Entry
set_roots t [] n = []
set_roots t (ns ∷ sets) n = reified_roots word.Axiom t ns n ++ set_roots t sets (n + reified_nodes ns)

module _ (name : ℕ → List ℕ) where
  -- and with those below them
  abbrev pub note_entries : Term → Notes → ℕ → List Entry
  note_entries x no_notes n = []
  note_entries x (note p v inside more) n =
      where_some inside [] (entry n word.Annotation (link x p v) inside ∷ note_entries (blank name n) inside (suc n)) ++
      note_entries x more (n + where_some inside 0 (suc (note_nodes inside)))

  abbrev pub reified_entries : Word → Triple → Notes → ℕ → List Entry
  reified_entries w t ns n = where_some ns [] (entry n w t ns ∷ note_entries (blank name n) ns (suc n))

  abbrev pub set_entries : Triple → List Notes → ℕ → List Entry
  set_entries t [] n = []
  set_entries t (ns ∷ sets) n = reified_entries word.Axiom t ns n ++ set_entries t sets (n + reified_nodes ns)

  -- the node of an entry, its triples, and the entries of its own annotations
  abbrev pub entry_node : Entry → Term
  entry_node e = blank name e.number

  abbrev pub entry_triples : Entry → List Triple
  entry_triples e = reifying e.word (entry_node e) e.triple ++ note_links (entry_node e) e.notes

  abbrev pub entry_roots : Entry → List Entry
  entry_roots e = note_roots (entry_node e) e.notes (suc e.number)

  pub record IsOfEntry (es : List Entry) (t : Triple) : Type 0 where
    pub entry : Entry
    pub among : Contains es entry
    pub inside : Contains (entry_triples entry) t

  pub record IsBelowEntry (es : List Entry) (f : Entry) : Type 0 where
    pub entry : Entry
    pub among : Contains es entry
    pub inside : Contains (entry_roots entry) f

  pub record IsEntryNode (es : List Entry) (x : Term) : Type 0 where
    pub entry : Entry
    pub among : Contains es entry
    pub is : x ≡ entry_node entry

  pub record IsNoterOf (es : List Entry) (t : Triple) (x : Term) : Type 0 where
    pub entry : Entry
    pub among : Contains es entry
    pub triple : entry.triple ≡ t
    pub is : x ≡ entry_node entry

  -- The nodes of a graph that reify are those of the entries, with their triples. What reifies an annotation of an entry is an entry too.
  pub record AreEntries (g : List Triple) (es : List Entry) : Type 0 where
    pub own : (e : Entry) → Contains es e → IsOwn IsAny g (entry_node e) (entry_triples e)
    pub said : (e : Entry) → Contains es e → IsSaid e
    pub all : (x : Term) → role_of g x ≡ role.Note → IsEntryNode es x
    pub inner : (e f : Entry) → Contains es e → Contains (entry_roots e) f → Contains es f
    pub below : (e f : Entry) → Contains es e → Contains es f → f.triple.subject ≡ entry_node e → Contains (entry_roots e) f

  -- Entries have numbers of an interval, each its own. The triples are those of the entries, and some others. An entry is one of the roots,
  -- or reifies an annotation of another.
  pub record AreDrawn (low high : ℕ) (others : List Triple) (roots es : List Entry) (ts : List Triple) : Type 0 where
    pub from : (e : Entry) → Contains es e → low ≤ e.number
    pub below : (e : Entry) → Contains es e → e.number < high
    pub one : (e f : Entry) → Contains es e → Contains es f → e.number ≡ f.number → e ≡ f
    pub cases : (t : Triple) → Contains ts t → Contains others t ⊎ IsOfEntry es t
    pub other : (t : Triple) → Contains others t → Contains ts t
    pub there : (e : Entry) (t : Triple) → Contains es e → Contains (entry_triples e) t → Contains ts t
    pub root : (e : Entry) → Contains roots e → Contains es e
    pub parent : (e : Entry) → Contains es e → Contains roots e ⊎ IsBelowEntry es e
    pub inner : (e f : Entry) → Contains es e → Contains (entry_roots e) f → Contains es f
