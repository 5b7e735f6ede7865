-- Terms that are no nodes that reify.
use Rattle.std.specs.Prelude.{◌≡◌, ◌≤◌, ◌<◌, ◌⊎◌, ℕ, List, Contains}
use Rattle.rdf_graph.specs.declared.term.Term.{Term}
use Rattle.rdf_graph.specs.declared.triple.Triple.{Triple}
use Rattle.rdf_mapping.specs.Entries.{Entry}
use Rattle.rdf_mapping.specs.Forms.{blank}
use Rattle.rdf_mapping.specs.Frames.{IsForeign}

module _ (name : ℕ → List ℕ) (most : ℕ) where
  -- the node of a number of the interval that no entry has
  pub record IsNoEntryNode (low high : ℕ) (es : List Entry) (x : Term) : Type 0 where
    pub number : ℕ
    pub from : low ≤ number
    pub below : number < high
    pub is : x ≡ blank name number
    pub none : (e : Entry) → Contains es e → e.number ≡ number → ⊥

  -- the term is no numbered node, or that of no entry
  abbrev pub IsBesideEntries : ℕ → ℕ → List Entry → Term → Type 0
  IsBesideEntries low high es x = IsForeign name most x ⊎ IsNoEntryNode low high es x

  -- the subjects of the other triples, and of those that the roots reify, are no nodes of entries
  pub record AreAside (low high : ℕ) (others : List Triple) (roots es : List Entry) : Type 0 where
    pub other : (t : Triple) → Contains others t → IsBesideEntries low high es t.subject
    pub root : (f : Entry) → Contains roots f → IsBesideEntries low high es f.triple.subject
