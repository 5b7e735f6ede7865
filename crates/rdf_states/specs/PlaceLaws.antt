-- Each triple and each node of axioms has its place in the graph of an ontology, and places are told apart.
use Rattle.std.proofs.Common.{◌≡◌, ◌≤◌, ◌<◌, ◌+◌, ◌⊎◌, ℕ, suc, List, [], ◌∷◌, ◌++◌, inl, inr, refl, sym, ap, ◌∙◌, subst, arith}
use Rattle.std.specs.Prelude.{Contains, map}
use Rattle.std.proofs.lemmas.List.Elements.{Contains-append_cases, Contains-append_left, Contains-append_right}
use Rattle.owl_list.specs.Ascending.{AreApart}
use Rattle.owl_list.proofs.AscendingLaws.{in_cases, in_head, in_none, in_tail}
use Rattle.owl_tree.specs.Ontologies.{Ontology}
use Rattle.owl_tree.specs.Trees.{Tree}
use Rattle.rdf_graph.specs.declared.term.Term.{Term}
use Rattle.rdf_graph.specs.declared.term.Term.TheVariants.{Iri, Blank, Literal}
use Rattle.rdf_graph.specs.declared.triple.Triple.{Triple}
use Rattle.rdf_mapping.specs.Drawing.{Statement, linked, linked_back, looped, standing, unsaid, statement_of}
use Rattle.rdf_mapping.specs.Entries.{Entry, IsOfEntry, note_links, note_roots, set_roots}
use Rattle.rdf_mapping.specs.Forms.{Form, made, Arcs, arc_nodes, blank, link, nodes, term_of, triples}
use Rattle.rdf_mapping.specs.Frames.{IsAny, Keeps}
use Rattle.rdf_mapping.specs.GraphEntries.{IsAt, first as at_first, next as at_next, group_others, group_roots, made_entries, made_nodes, made_others, made_roots, standing_others, standing_roots, statement_others, statement_roots}
use Rattle.rdf_mapping.specs.GroupFrames.{group_nodes}
use Rattle.rdf_mapping.proofs.GraphEntryLaws.{made_drawn}
use Rattle.rdf_mapping.specs.Graphs.{bare_axioms, group_of, groups_of, head_triples, header_nodes, header_term, main_triple, made_triples, notes_from, set_nodes, sets_of, standing_nodes, statement_nodes, statement_triples}
use Rattle.rdf_mapping.specs.GroupFrames.{EachGroupKept}
use Rattle.rdf_mapping.specs.Notes.{Notes, note_nodes}
use Rattle.rdf_axioms.specs.AxiomReading.{main_of}
use Rattle.rdf_states.specs.Places.{End, ends_of, IsMade, of_head, of_header_note, of_axiom, IsOther, at_end, is_main, at_node, at_note, IsPlaced, first, next, IsRootOf, of_main, of_stand, Stand, StandsAt, first_number, mains_from, notes_at, sets_at, stand_node, stands_from, stands_of}

module _ (name : ℕ → List ℕ) where
  -- What a statement has beside the nodes that reify.

  in_main : (s : Term) (p : List ℕ) (o : Term) (t : Triple) → Contains (main_triple name s p o []) t → Contains (link s p o ∷ []) t
  in_main (Iri s) p o t m = m
  in_main (Blank s) p o t m = m
  in_main (Literal s) p o t m = absurd (in_none t m)

  linked_cases : (f q : Form) (s o : Term) (p : List ℕ) (n : ℕ) (t : Triple) → Contains ((triples name f n ++ triples name q (n + nodes f)) ++ main_triple name s p o []) t → Contains (link s p o ∷ []) t ⊎ (Contains (triples name f n) t ⊎ Contains (triples name q (n + nodes f)) t)
  linked_cases f q s o p n t m =
      elim (Contains-append_cases (triples name f n ++ triples name q (n + nodes f)) (main_triple name s p o []) t m) [
        | inl i ↦ inr (Contains-append_cases (triples name f n) (triples name q (n + nodes f)) t i)
        | inr i ↦ inl (in_main s p o t i)
      ]

  standing_cases : (arcs : Arcs) (sets : List Notes) (n : ℕ) (t : Triple) → Contains (standing_others name arcs sets n) t → (e : Stand) × Contains (stands_from arcs sets n) e × (Contains (triples name (made e.arcs) e.number) t ⊎ Contains (note_links (stand_node name e) e.notes) t)
  standing_cases arcs [] n t m = absurd (in_none t m)
  standing_cases arcs (ns ∷ sets) n t m =
      let e : Stand = record { number = n; arcs = arcs; notes = ns } in
      let later = n + (suc (arc_nodes arcs) + note_nodes ns) in
      let more = stands_from arcs sets later in
      elim (Contains-append_cases (triples name (made arcs) n) (note_links (blank name n) ns ++ standing_others name arcs sets later) t m) [
        | inl i ↦ (e, in_head e more, inl i)
        | inr i ↦
            elim (Contains-append_cases (note_links (blank name n) ns) (standing_others name arcs sets later) t i) [
              | inl j ↦ (e, in_head e more, inr j)
              | inr j ↦ let r = standing_cases arcs sets later t j in (r.0, in_tail e more r.0 r.1, r.2)
            ]
      ]

  pub other_cases : (s : Statement) (sets : List Notes) (n : ℕ) (t : Triple) → Contains (statement_others name s sets n) t → IsOther name s sets n t
  other_cases (linked f p q) sets n t m =
      elim (linked_cases f q (term_of name f n) (term_of name q (n + nodes f)) p n t m) [
        | inl i ↦ is_main i
        | inr i ↦
            let a : End = record { form = f; number = n } in
            let b : End = record { form = q; number = n + nodes f } in
            elim i [ inl j ↦ at_end a (in_head a (b ∷ [])) j | inr j ↦ at_end b (in_tail a (b ∷ []) b (in_head b [])) j ]
      ]
  other_cases (linked_back f p q) sets n t m =
      elim (linked_cases f q (term_of name q (n + nodes f)) (term_of name f n) p n t m) [
        | inl i ↦ is_main i
        | inr i ↦
            let a : End = record { form = f; number = n } in
            let b : End = record { form = q; number = n + nodes f } in
            elim i [ inl j ↦ at_end a (in_head a (b ∷ [])) j | inr j ↦ at_end b (in_tail a (b ∷ []) b (in_head b [])) j ]
      ]
  other_cases (looped p f) sets n t m =
      elim (Contains-append_cases (triples name f n) (main_triple name (term_of name f n) p (term_of name f n) []) t m) [
        | inl i ↦ let a : End = record { form = f; number = n } in at_end a (in_head a []) i
        | inr i ↦ is_main (in_main (term_of name f n) p (term_of name f n) t i)
      ]
  other_cases (standing arcs) sets n t m =
      let r = standing_cases arcs sets n t m in elim r.2 [ inl i ↦ at_node r.0 r.1 i | inr i ↦ at_note r.0 r.1 i ]
  other_cases unsaid sets n t m = absurd (in_none t m)

  -- The nodes that reify what it has.

  standing_root : (arcs : Arcs) (sets : List Notes) (n : ℕ) (f : Entry) → Contains (standing_roots name arcs sets n) f → (e : Stand) × Contains (stands_from arcs sets n) e × Contains (note_roots (stand_node name e) e.notes (notes_at e)) f
  standing_root arcs [] n f m = absurd (in_none f m)
  standing_root arcs (ns ∷ sets) n f m =
      let e : Stand = record { number = n; arcs = arcs; notes = ns } in
      let later = n + (suc (arc_nodes arcs) + note_nodes ns) in
      elim (Contains-append_cases (note_roots (blank name n) ns (n + suc (arc_nodes arcs))) (standing_roots name arcs sets later) f m) [
        | inl i ↦ (e, in_head e (stands_from arcs sets later), i)
        | inr i ↦ let r = standing_root arcs sets later f i in (r.0, in_tail e (stands_from arcs sets later) r.0 r.1, r.2)
      ]

  pub root_cases : (s : Statement) (sets : List Notes) (n : ℕ) (f : Entry) → Contains (statement_roots name s sets n) f → IsRootOf name s sets n f
  root_cases (linked f p q) sets n e m = let t = link (term_of name f n) p (term_of name q (n + nodes f)) in of_main t (in_head t []) m
  root_cases (linked_back f p q) sets n e m = let t = link (term_of name q (n + nodes f)) p (term_of name f n) in of_main t (in_head t []) m
  root_cases (looped p f) sets n e m = let t = link (term_of name f n) p (term_of name f n) in of_main t (in_head t []) m
  root_cases (standing arcs) sets n e m = let r = standing_root arcs sets n e m in of_stand r.0 r.1 r.2
  root_cases unsaid sets n e m = absurd (in_none e m)

  -- the roots of the triple of a statement are those of the statement
  by_main : (s u : Triple) (sets : List Notes) (n : ℕ) → Contains (s ∷ []) u → set_roots s sets n ≡ set_roots u sets n
  by_main s u sets n m = elim (in_cases s [] u m) [ inl e ↦ ap (λ (t : Triple). set_roots t sets n) e | inr o ↦ absurd (in_none u o) ]

  pub main_roots : (s : Statement) (sets : List Notes) (n : ℕ) (t : Triple) → Contains (main_of name s n) t → statement_roots name s sets n ≡ set_roots t sets (sets_at s n)
  main_roots (linked f p q) sets n t m = by_main (link (term_of name f n) p (term_of name q (n + nodes f))) t sets (n + (nodes f + nodes q)) m
  main_roots (linked_back f p q) sets n t m = by_main (link (term_of name q (n + nodes f)) p (term_of name f n)) t sets (n + (nodes f + nodes q)) m
  main_roots (looped p f) sets n t m = by_main (link (term_of name f n) p (term_of name f n)) t sets (n + nodes f) m
  main_roots (standing arcs) sets n t m = absurd (in_none t m)
  main_roots unsaid sets n t m = absurd (in_none t m)

  from_roots : (arcs : Arcs) (sets : List Notes) (n : ℕ) (e : Stand) (f : Entry) → Contains (stands_from arcs sets n) e → Contains (note_roots (stand_node name e) e.notes (notes_at e)) f → Contains (standing_roots name arcs sets n) f
  from_roots arcs [] n e f m i = absurd (in_none e m)
  from_roots arcs (ns ∷ sets) n e f m i =
      let h : Stand = record { number = n; arcs = arcs; notes = ns } in
      let later = n + (suc (arc_nodes arcs) + note_nodes ns) in
      let own = note_roots (blank name n) ns (n + suc (arc_nodes arcs)) in
      elim (in_cases h (stands_from arcs sets later) e m) [
        | inl s ↦
            Contains-append_left own (standing_roots name arcs sets later) f
            (subst (λ (x : Stand). Contains (note_roots (stand_node name x) x.notes (notes_at x)) f) (sym s) i)
        | inr k ↦ Contains-append_right own (standing_roots name arcs sets later) f (from_roots arcs sets later e f k i)
      ]

  -- and so those of a node that stands for it
  pub stand_roots : (s : Statement) (sets : List Notes) (n : ℕ) (e : Stand) (f : Entry) → Contains (stands_of s sets n) e → Contains (note_roots (stand_node name e) e.notes (notes_at e)) f → Contains (statement_roots name s sets n) f
  stand_roots (linked g p q) sets n e f m i = absurd (in_none e m)
  stand_roots (linked_back g p q) sets n e f m i = absurd (in_none e m)
  stand_roots (looped p g) sets n e f m i = absurd (in_none e m)
  stand_roots (standing arcs) sets n e f m i = from_roots arcs sets n e f m i
  stand_roots unsaid sets n e f m i = absurd (in_none e m)

-- The numbers of a statement's nodes.

abbrev LiesWithin : End → ℕ → ℕ → Type 0
LiesWithin e n top = (n ≤ e.number) × (e.number + nodes e.form ≤ top)

two_bounds : (f q : Form) (n top : ℕ) (e : End) → n + (nodes f + nodes q) ≤ top → Contains (record { form = f; number = n } ∷ record { form = q; number = n + nodes f } ∷ []) e → LiesWithin e n top
two_bounds f q n top e h m =
    let a : End = record { form = f; number = n } in
    let b : End = record { form = q; number = n + nodes f } in
    elim (in_cases a (b ∷ []) e m) [
      | inl i ↦ subst (λ (x : End). LiesWithin x n top) i (omega arith, omega arith)
      | inr i ↦ elim (in_cases b [] e i) [ inl j ↦ subst (λ (x : End). LiesWithin x n top) j (omega arith, omega arith) | inr o ↦ absurd (in_none e o) ]
    ]

pub end_bounds : (s : Statement) (sets : List Notes) (n : ℕ) (e : End) → Contains (ends_of s n) e → LiesWithin e n (n + statement_nodes s sets)
end_bounds (linked f p q) sets n e m = two_bounds f q n (n + (nodes f + nodes q + set_nodes sets)) e (omega arith) m
end_bounds (linked_back f p q) sets n e m = two_bounds f q n (n + (nodes f + nodes q + set_nodes sets)) e (omega arith) m
end_bounds (looped p f) sets n e m =
    let a : End = record { form = f; number = n } in
    elim (in_cases a [] e m) [
      | inl h ↦ subst (λ (x : End). LiesWithin x n (n + (nodes f + set_nodes sets))) h (omega arith, omega arith)
      | inr o ↦ absurd (in_none e o)
    ]
end_bounds (standing arcs) sets n e m = absurd (in_none e m)
end_bounds unsaid sets n e m = absurd (in_none e m)

-- and of a node that stands for an axiom, with what is below it, and with its annotations
pub record IsWithin (e : Stand) (n top : ℕ) : Type 0 where
  pub from : n ≤ e.number
  pub below : notes_at e + note_nodes e.notes ≤ top

within_wider : (e : Stand) (a b n top : ℕ) → n ≤ a → b ≤ top → IsWithin e a b → IsWithin e n top
within_wider e a b n top l h w = record { from = let f = w.from in omega (arith, l, f); below = let f = w.below in omega (arith, h, f) }

from_bounds : (arcs : Arcs) (sets : List Notes) (n : ℕ) (e : Stand) → Contains (stands_from arcs sets n) e → IsWithin e n (n + standing_nodes arcs sets)
from_bounds arcs [] n e m = absurd (in_none e m)
from_bounds arcs (ns ∷ sets) n e m =
    let h : Stand = record { number = n; arcs = arcs; notes = ns } in
    let later = n + (suc (arc_nodes arcs) + note_nodes ns) in
    let top = n + standing_nodes arcs (ns ∷ sets) in
    elim (in_cases h (stands_from arcs sets later) e m) [
      | inl s ↦ subst (λ (x : Stand). IsWithin x n top) s (record { from = omega arith; below = omega arith })
      | inr k ↦ within_wider e later (later + standing_nodes arcs sets) n top (omega arith) (omega arith) (from_bounds arcs sets later e k)
    ]

pub stand_bounds : (s : Statement) (sets : List Notes) (n : ℕ) (e : Stand) → Contains (stands_of s sets n) e → IsWithin e n (n + statement_nodes s sets)
stand_bounds (linked f p q) sets n e m = absurd (in_none e m)
stand_bounds (linked_back f p q) sets n e m = absurd (in_none e m)
stand_bounds (looped p f) sets n e m = absurd (in_none e m)
stand_bounds (standing arcs) sets n e m = from_bounds arcs sets n e m
stand_bounds unsaid sets n e m = absurd (in_none e m)

-- its annotations are one of the sets
from_notes : (arcs : Arcs) (sets : List Notes) (n : ℕ) (e : Stand) → Contains (stands_from arcs sets n) e → Contains sets e.notes
from_notes arcs [] n e m = absurd (in_none e m)
from_notes arcs (ns ∷ sets) n e m =
    let later = n + (suc (arc_nodes arcs) + note_nodes ns) in
    elim (in_cases (record { number = n; arcs = arcs; notes = ns }) (stands_from arcs sets later) e m) [
      | inl s ↦ subst (λ (x : Stand). Contains (ns ∷ sets) x.notes) s (in_head ns sets)
      | inr k ↦ in_tail ns sets e.notes (from_notes arcs sets later e k)
    ]

pub stand_notes : (s : Statement) (sets : List Notes) (n : ℕ) (e : Stand) → Contains (stands_of s sets n) e → Contains sets e.notes
stand_notes (linked f p q) sets n e m = absurd (in_none e m)
stand_notes (linked_back f p q) sets n e m = absurd (in_none e m)
stand_notes (looped p f) sets n e m = absurd (in_none e m)
stand_notes (standing arcs) sets n e m = from_notes arcs sets n e m
stand_notes unsaid sets n e m = absurd (in_none e m)

-- each set has such a node, if the statement is one
from_set : (arcs : Arcs) (sets : List Notes) (n : ℕ) (ns : Notes) → Contains sets ns → (e : Stand) × Contains (stands_from arcs sets n) e × (e.notes ≡ ns)
from_set arcs [] n ns m = absurd (in_none ns m)
from_set arcs (us ∷ sets) n ns m =
    let first : Stand = record { number = n; arcs = arcs; notes = us } in
    let later = n + (suc (arc_nodes arcs) + note_nodes us) in
    elim (in_cases us sets ns m) [
      | inl s ↦ (first, in_head first (stands_from arcs sets later), s)
      | inr k ↦ let r = from_set arcs sets later ns k in (r.0, in_tail first (stands_from arcs sets later) r.0 r.1, r.2)
    ]

-- a statement that is said is a triple, or has nodes
pub data IsSaidBy (name : ℕ → List ℕ) (s : Statement) (sets : List Notes) (n : ℕ) : Type 0 where
  by_triple : (t : Triple) → Contains (main_of name s n) t → IsSaidBy name s sets n
  by_nodes : ((ns : Notes) → Contains sets ns → (e : Stand) × Contains (stands_of s sets n) e × (e.notes ≡ ns)) → IsSaidBy name s sets n

pub said_by : (name : ℕ → List ℕ) (s : Statement) (sets : List Notes) (n : ℕ) → (s ≡ unsaid → ⊥) → IsSaidBy name s sets n
said_by name (linked f p q) sets n h = let t = link (term_of name f n) p (term_of name q (n + nodes f)) in by_triple t (in_head t [])
said_by name (linked_back f p q) sets n h = let t = link (term_of name q (n + nodes f)) p (term_of name f n) in by_triple t (in_head t [])
said_by name (looped p f) sets n h = let t = link (term_of name f n) p (term_of name f n) in by_triple t (in_head t [])
said_by name (standing arcs) sets n h = by_nodes (from_set arcs sets n)
said_by name unsaid sets n h = absurd (h refl)

-- two nodes of one number that stand for axioms are one
from_one : (arcs : Arcs) (sets : List Notes) (n : ℕ) (d e : Stand) → Contains (stands_from arcs sets n) d → Contains (stands_from arcs sets n) e → d.number ≡ e.number → d ≡ e
from_one arcs [] n d e l m i = absurd (in_none d l)
from_one arcs (ns ∷ sets) n d e l m i =
    let h : Stand = record { number = n; arcs = arcs; notes = ns } in
    let later = n + (suc (arc_nodes arcs) + note_nodes ns) in
    let behind : (x : Stand) → Contains (stands_from arcs sets later) x → n < x.number = λ x k. let w = (from_bounds arcs sets later x k).from in omega (arith, w) in
    elim (in_cases h (stands_from arcs sets later) d l) [
      | inl a ↦
          elim (in_cases h (stands_from arcs sets later) e m) [
            | inl b ↦ sym a ∙ b
            | inr b ↦ let w = behind e b in let same : n ≡ d.number = ap (λ (x : Stand). x.number) a in absurd (omega (arith, w, same, i))
          ]
      | inr a ↦
          elim (in_cases h (stands_from arcs sets later) e m) [
            | inl b ↦ let w = behind d a in let same : n ≡ e.number = ap (λ (x : Stand). x.number) b in absurd (omega (arith, w, same, i))
            | inr b ↦ from_one arcs sets later d e a b i
          ]
    ]

pub one_stand : (s : Statement) (sets : List Notes) (n : ℕ) (d e : Stand) → Contains (stands_of s sets n) d → Contains (stands_of s sets n) e → d.number ≡ e.number → d ≡ e
one_stand (linked f p q) sets n d e l m i = absurd (in_none d l)
one_stand (linked_back f p q) sets n d e l m i = absurd (in_none d l)
one_stand (looped p f) sets n d e l m i = absurd (in_none d l)
one_stand (standing arcs) sets n d e l m i = from_one arcs sets n d e l m i
one_stand unsaid sets n d e l m i = absurd (in_none d l)

-- Places of axioms.
module _ (axioms : List Tree) where
  abbrev pub width : Tree → ℕ
  width b = statement_nodes (statement_of b) (sets_of b axioms)

  pub placed_in : (b : Tree) (m : ℕ) (bs : List Tree) (n : ℕ) → IsPlaced axioms b m bs n → Contains bs b
  placed_in b m _ _ (first bs) = in_head b bs
  placed_in b m _ _ (next c bs n p) = in_tail c bs b (placed_in b m bs (n + width c) p)

  pub place_of : (b : Tree) (bs : List Tree) (n : ℕ) → Contains bs b → (m : ℕ) × IsPlaced axioms b m bs n
  place_of b [] n i = absurd (in_none b i)
  place_of b (c ∷ bs) n i =
      elim (in_cases c bs b i) [
        | inl e ↦ (n, subst (λ (x : Tree). IsPlaced axioms b n (x ∷ bs) n) (sym e) (first bs))
        | inr k ↦ let p = place_of b bs (n + width c) k in (p.0, next c bs n p.1)
      ]

  pub placed_bounds : (b : Tree) (m : ℕ) (bs : List Tree) (n : ℕ) → IsPlaced axioms b m bs n → (n ≤ m) × (m + width b ≤ n + group_nodes (map (group_of axioms) bs))
  placed_bounds b m _ _ (first bs) = (omega arith, omega arith)
  placed_bounds b m _ _ (next c bs n p) = let h = placed_bounds b m bs (n + width c) p in (omega (arith, h.0), omega (arith, h.1))

  -- two places are one, or one of them is in front of the other
  pub data AreApartPlaces (b c : Tree) (m l : ℕ) : Type 0 where
    same_place : b ≡ c → m ≡ l → AreApartPlaces b c m l
    before : m + width b ≤ l → AreApartPlaces b c m l
    behind : l + width c ≤ m → AreApartPlaces b c m l

  none_placed : (b : Tree) (m n : ℕ) → IsPlaced axioms b m [] n → ⊥
  none_placed b m n p = in_none b (placed_in b m [] n p)

  placed_cases : (b : Tree) (m : ℕ) (c : Tree) (bs : List Tree) (n : ℕ) → IsPlaced axioms b m (c ∷ bs) n → ((b ≡ c) × (m ≡ n)) ⊎ IsPlaced axioms b m bs (n + width c)
  placed_cases _ _ _ _ _ (first bs) = inl (refl, refl)
  placed_cases _ _ _ _ _ (next c bs n p) = inr p

  pub places_apart : (b c : Tree) (m l : ℕ) (bs : List Tree) (n : ℕ) → IsPlaced axioms b m bs n → IsPlaced axioms c l bs n → AreApartPlaces b c m l
  places_apart b c m l [] n p q = absurd (none_placed b m n p)
  places_apart b c m l (d ∷ bs) n p q =
      elim (placed_cases b m d bs n p) [
        | inl e ↦
            elim (placed_cases c l d bs n q) [
              | inl f ↦ same_place (e.0 ∙ sym f.0) (e.1 ∙ sym f.1)
              | inr k ↦ let h = (placed_bounds c l bs (n + width d) k).0 in let w = ap width e.0 in before (omega (arith, h, w, e.1))
            ]
        | inr j ↦
            elim (placed_cases c l d bs n q) [
              | inl f ↦ let h = (placed_bounds b m bs (n + width d) j).0 in let w = ap width f.0 in behind (omega (arith, h, w, f.1))
              | inr k ↦ places_apart b c m l bs (n + width d) j k
            ]
      ]

  -- where no axiom stands twice, each has one place
  pub one_place : (b : Tree) (m l : ℕ) (bs : List Tree) (n : ℕ) → AreApart bs → IsPlaced axioms b m bs n → IsPlaced axioms b l bs n → m ≡ l
  one_place b m l [] n a p q = absurd (none_placed b m n p)
  one_place b m l (d ∷ bs) n a p q =
      elim (placed_cases b m d bs n p) [
        | inl e ↦
            elim (placed_cases b l d bs n q) [
              | inl f ↦ e.1 ∙ sym f.1
              | inr k ↦ absurd (a.0 (subst (λ (x : Tree). Contains bs x) e.0 (placed_in b l bs (n + width d) k)))
            ]
        | inr j ↦
            elim (placed_cases b l d bs n q) [
              | inl f ↦ absurd (a.0 (subst (λ (x : Tree). Contains bs x) f.0 (placed_in b m bs (n + width d) j)))
              | inr k ↦ one_place b m l bs (n + width d) a.1 j k
            ]
      ]

  -- What stands at places.

  pub kept_at : (name : ℕ → List ℕ) (g : List Triple) (b : Tree) (m : ℕ) (bs : List Tree) (n : ℕ) → EachGroupKept name g (map (group_of axioms) bs) n → IsPlaced axioms b m bs n → Keeps name IsAny g (statement_triples name (statement_of b) (sets_of b axioms) m) m (m + width b)
  kept_at name g b m _ _ k (first bs) = k.0
  kept_at name g b m _ _ k (next c bs n p) = kept_at name g b m bs (n + width c) k.1 p

  pub other_at : (name : ℕ → List ℕ) (bs : List Tree) (n : ℕ) (t : Triple) → Contains (group_others name (map (group_of axioms) bs) n) t → (b : Tree) × (m : ℕ) × IsPlaced axioms b m bs n × Contains (statement_others name (statement_of b) (sets_of b axioms) m) t
  other_at name [] n t i = absurd (in_none t i)
  other_at name (b ∷ bs) n t i =
      elim (Contains-append_cases (statement_others name (statement_of b) (sets_of b axioms) n) (group_others name (map (group_of axioms) bs) (n + width b)) t i) [
        | inl j ↦ (b, n, first bs, j)
        | inr j ↦ let r = other_at name bs (n + width b) t j in (r.0, r.1, next b bs n r.2, r.3)
      ]

  pub in_mains : (name : ℕ → List ℕ) (b : Tree) (m : ℕ) (bs : List Tree) (n : ℕ) → IsPlaced axioms b m bs n → (t : Triple) → Contains (main_of name (statement_of b) m) t → Contains (mains_from name axioms bs n) t
  in_mains name b m _ _ (first bs) t i = Contains-append_left (main_of name (statement_of b) m) (mains_from name axioms bs (m + width b)) t i
  in_mains name b m _ _ (next c bs n p) t i = Contains-append_right (main_of name (statement_of c) n) (mains_from name axioms bs (n + width c)) t (in_mains name b m bs (n + width c) p t i)

  pub from_mains : (name : ℕ → List ℕ) (bs : List Tree) (n : ℕ) (t : Triple) → Contains (mains_from name axioms bs n) t → (b : Tree) × (m : ℕ) × IsPlaced axioms b m bs n × Contains (main_of name (statement_of b) m) t
  from_mains name [] n t i = absurd (in_none t i)
  from_mains name (b ∷ bs) n t i =
      elim (Contains-append_cases (main_of name (statement_of b) n) (mains_from name axioms bs (n + width b)) t i) [
        | inl j ↦ (b, n, first bs, j)
        | inr j ↦ let r = from_mains name bs (n + width b) t j in (r.0, r.1, next b bs n r.2, r.3)
      ]

  pub root_at : (name : ℕ → List ℕ) (bs : List Tree) (n : ℕ) (f : Entry) → Contains (group_roots name (map (group_of axioms) bs) n) f → (b : Tree) × (m : ℕ) × IsPlaced axioms b m bs n × IsRootOf name (statement_of b) (sets_of b axioms) m f
  root_at name [] n f i = absurd (in_none f i)
  root_at name (b ∷ bs) n f i =
      elim (Contains-append_cases (statement_roots name (statement_of b) (sets_of b axioms) n) (group_roots name (map (group_of axioms) bs) (n + width b)) f i) [
        | inl j ↦ (b, n, first bs, root_cases name (statement_of b) (sets_of b axioms) n f j)
        | inr j ↦ let r = root_at name bs (n + width b) f j in (r.0, r.1, next b bs n r.2, r.3)
      ]

  pub group_at : (b : Tree) (m : ℕ) (bs : List Tree) (n : ℕ) → IsPlaced axioms b m bs n → IsAt (group_of axioms b) m (map (group_of axioms) bs) n
  group_at b m _ _ (first bs) = at_first (map (group_of axioms) bs)
  group_at b m _ _ (next c bs n p) = at_next (group_of axioms c) (map (group_of axioms) bs) n (group_at b m bs (n + width c) p)

-- the numbers of an axiom's nodes lie behind those of the header and of its annotations
pub stands_bounds : (o : Ontology) (b : Tree) (m : ℕ) → StandsAt o b m → (first_number o ≤ m) × (m + width o.axioms b ≤ made_nodes o)
stands_bounds o b m p = let h = placed_bounds o.axioms b m (bare_axioms o.axioms) (first_number o) p in (h.0, omega (arith, h.1))

-- Each triple that is made of an ontology is made as one of its parts.
pub made_other : (name : ℕ → List ℕ) (o : Ontology) (t : Triple) → Contains (made_others name o) t → IsMade name o t
made_other name o t m =
    let x = header_term name o.head.name in
    let ns = notes_from o.annotations in
    elim (Contains-append_cases (head_triples x o.head) (note_links x ns ++ group_others name (groups_of o.axioms) (first_number o)) t m) [
      | inl i ↦ of_head i
      | inr i ↦
          elim (Contains-append_cases (note_links x ns) (group_others name (groups_of o.axioms) (first_number o)) t i) [
            | inl j ↦ of_header_note j
            | inr j ↦
                let r = other_at o.axioms name (bare_axioms o.axioms) (first_number o) t j in
                of_axiom r.0 r.1 r.2 (other_cases name (statement_of r.0) (sets_of r.0 o.axioms) r.1 t r.3)
          ]
    ]

pub made_cases : (name : ℕ → List ℕ) (o : Ontology) (t : Triple) → Contains (made_triples name o) t → IsMade name o t ⊎ IsOfEntry name (made_entries name o) t
made_cases name o t m = elim ((made_drawn name o).cases t m) [ inl i ↦ inl (made_other name o t i) | inr e ↦ inr e ]

-- The nodes that reify are of an annotation of the header, or of what an axiom has.
pub data IsRootMade (name : ℕ → List ℕ) (o : Ontology) (f : Entry) : Type 0 where
  of_header : Contains (note_roots (header_term name o.head.name) (notes_from o.annotations) (header_nodes o.head.name)) f → IsRootMade name o f
  of_place : (b : Tree) (m : ℕ) → StandsAt o b m → IsRootOf name (statement_of b) (sets_of b o.axioms) m f → IsRootMade name o f

pub made_root : (name : ℕ → List ℕ) (o : Ontology) (f : Entry) → Contains (made_roots name o) f → IsRootMade name o f
made_root name o f m =
    let roots = note_roots (header_term name o.head.name) (notes_from o.annotations) (header_nodes o.head.name) in
    elim (Contains-append_cases roots (group_roots name (groups_of o.axioms) (first_number o)) f m) [
      | inl i ↦ of_header i
      | inr i ↦ let r = root_at o.axioms name (bare_axioms o.axioms) (first_number o) f i in of_place r.0 r.1 r.2 r.3
    ]
