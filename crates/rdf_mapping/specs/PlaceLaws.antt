-- Where each group of axioms stands in the graph of an ontology, and the entries that reify its triples.
use Rattle.std.proofs.Common.{◌≡◌, ◌+◌, ℕ, suc, List, [], ◌∷◌, ◌++◌, inl, inr, refl, sym, subst}
use Rattle.std.specs.Prelude.{Contains}
use Rattle.std.proofs.lemmas.List.Elements.{Contains-append_cases, Contains-append_left, Contains-append_right}
use Rattle.owl_list.proofs.AscendingLaws.{in_cases, in_none}
use Rattle.rdf_graph.specs.declared.triple.Triple.{Triple}
use Rattle.rdf_mapping.specs.Graphs.{Group, group_triples, statement_nodes, statement_triples}
use Rattle.rdf_mapping.specs.Entries.{AreDrawn, Entry, entry_node}
use Rattle.rdf_mapping.specs.NoterLaws.{root_subjects}
use Rattle.rdf_mapping.specs.GraphEntries.{IsAt, first, next, group_roots, statement_roots}
use Rattle.rdf_mapping.specs.Drawing.{Statement}
use Rattle.rdf_mapping.specs.Notes.{Notes}

-- each group has a place
pub place_of : (gs : List Group) (n : ℕ) (g : Group) → Contains gs g → (m : ℕ) × IsAt g m gs n
place_of [] n g i = absurd (in_none g i)
place_of (h ∷ gs) n g i =
    elim (in_cases h gs g i) [
      | inl e ↦ (n, subst (λ (x : Group). IsAt x n (h ∷ gs) n) e (first gs))
      | inr k ↦ let p = place_of gs (n + statement_nodes h.statement h.sets) g k in (p.0, next h gs n p.1)
    ]

-- what is drawn of a group at its place is among what is drawn of all
drawn_at : {X : Type 0} → (own : Statement → List Notes → ℕ → List X) (all : List Group → ℕ → List X) → ((h : Group) (gs : List Group) (n : ℕ) → all (h ∷ gs) n ≡ own h.statement h.sets n ++ all gs (n + statement_nodes h.statement h.sets)) → (g : Group) (m : ℕ) (gs : List Group) (n : ℕ) → IsAt g m gs n → (x : X) → Contains (own g.statement g.sets m) x → Contains (all gs n) x
drawn_at own all each g m _ _ (first gs) x i =
    subst (λ xs. Contains xs x) (sym (each g gs m)) (Contains-append_left (own g.statement g.sets m) (all gs (m + statement_nodes g.statement g.sets)) x i)
drawn_at own all each g m _ _ (next h gs n a) x i =
    subst (λ xs. Contains xs x) (sym (each h gs n))
    (Contains-append_right (own h.statement h.sets n) (all gs (n + statement_nodes h.statement h.sets)) x
    (drawn_at own all each g m gs (n + statement_nodes h.statement h.sets) a x i))

pub triples_at : (name : ℕ → List ℕ) (g : Group) (m : ℕ) (gs : List Group) (n : ℕ) → IsAt g m gs n → (t : Triple) → Contains (statement_triples name g.statement g.sets m) t → Contains (group_triples name gs n) t
triples_at name = drawn_at (statement_triples name) (group_triples name) (λ h gs n. refl)

pub roots_at : (name : ℕ → List ℕ) (g : Group) (m : ℕ) (gs : List Group) (n : ℕ) → IsAt g m gs n → (f : Entry) → Contains (statement_roots name g.statement g.sets m) f → Contains (group_roots name gs n) f
roots_at name = drawn_at (statement_roots name) (group_roots name) (λ h gs n. refl)

-- a root is that of a group
pub record IsRootAt (name : ℕ → List ℕ) (gs : List Group) (n : ℕ) (f : Entry) : Type 0 where
  pub group : Group
  pub number : ℕ
  pub at : IsAt group number gs n
  pub inside : Contains (statement_roots name group.statement group.sets number) f

pub root_at : (name : ℕ → List ℕ) (gs : List Group) (n : ℕ) (f : Entry) → Contains (group_roots name gs n) f → IsRootAt name gs n f
root_at name [] n f i = absurd (in_none f i)
root_at name (g ∷ gs) n f i =
    let mid = n + statement_nodes g.statement g.sets in
    elim (Contains-append_cases (statement_roots name g.statement g.sets n) (group_roots name gs mid) f i) [
      | inl k ↦ record { group = g; number = n; at = first gs; inside = k }
      | inr k ↦ let r = root_at name gs mid f k in record { group = r.group; number = r.number; at = next g gs n r.at; inside = r.inside }
    ]

-- an entry of a triple that is of no entry's node is a root
pub root_again : (name : ℕ → List ℕ) (low high : ℕ) (others : List Triple) (roots es : List Entry) (ts : List Triple) → AreDrawn name low high others roots es ts → (f : Entry) → Contains es f → ((e : Entry) → Contains es e → f.triple.subject ≡ entry_node name e → ⊥) → Contains roots f
root_again name low high others roots es ts d f m apart =
    elim (d.parent f m) [
      | inl r ↦ r
      | inr b ↦ absurd (apart b.entry b.among (root_subjects (entry_node name b.entry) b.entry.notes (suc b.entry.number) f b.inside))
    ]
