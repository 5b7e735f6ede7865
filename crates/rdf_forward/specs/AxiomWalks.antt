-- Axioms by their numbers in an arena.
use Rattle.std.specs.Prelude.{◌≡◌, ◌<◌, ℕ, ◌+◌, length, Bool, true, false, Option, Some, None, List, [], ◌∷◌, ◌++◌, map}
use Rattle.owl_arena.specs.Held.{AreHeld, tree_at}
use Rattle.owl_tree.specs.Trees.{Tree}
use Rattle.rdf_graph.specs.declared.triple.Triple.{Triple}
use Rattle.rdf_forward.specs.declared.below.Below.{Below}
use Rattle.rdf_forward.specs.declared.ends.End.{End}
use Rattle.rdf_forward.specs.declared.ends.Link.{Link}
use Rattle.rdf_forward.specs.declared.ends.Name.{Name}
use Rattle.rdf_meaning.specs.declared.row.Place.{Place}
use Rattle.rdf_meaning.specs.declared.row.Place.TheVariants.{At, Object, Predicate, Subject}
use Rattle.rdf_forward.specs.declared.writer.Writer.{Writer}
use Rattle.rdf_mapping.specs.Forms.{Form, nodes, term_of, triples}
use Rattle.rdf_mapping.specs.Drawing.{Placed, Statement, between, by_predicate, linked, unsaid}
use Rattle.rdf_mapping.specs.Notes.{Notes}
use Rattle.rdf_mapping.specs.Graphs.{Group, axiom_notes, group_triples, main_triple, set_nodes, set_triples, statement_nodes, statement_triples}
use Rattle.rdf_mapping.specs.GroupFrames.{group_nodes}
use Rattle.rdf_forward.specs.Walks.{Writes, end_term, link_triple, name_iri, names}

-- the annotations of each of these axioms
abbrev pub sets_at : List Tree → List ℕ → List Notes
sets_at trees ids = map (λ id. axiom_notes (tree_at trees id)) ids

abbrev pub sets_below : Below → List Notes
sets_below b = sets_at b.arena.now.trees b.axioms.now

-- all of them have a place in the arena
pub record AreHeldBelow (b : Below) : Type 0 where
  pub above : b.above < length b.arena.now.trees
  pub axioms : AreHeld b.arena.now.trees b.axioms.now

-- what reifies the triple with each set
abbrev pub WritesSets : Writer → Writer → Link → List Notes → Type 0
WritesSets old new l sets = Writes old new (set_nodes sets) (set_triples (names old) (link_triple (names old) l) sets old.next)

-- a triple, unless its subject is a literal, with what reifies it
abbrev pub main_triples : (ℕ → List ℕ) → Link → List Triple → List Triple
main_triples name l = main_triple name (end_term name l.subject) (name_iri l.predicate) (end_term name l.object)

pub record WritesMain (old new : Writer) (l : Link) (sets : List Notes) : Type 0 where
  pub writes : Writes old new (set_nodes sets) (main_triples (names old) l (set_triples (names old) (link_triple (names old) l) sets old.next))

-- what is drawn of two ends, of which the first has the first numbers
abbrev pub WritesEnds : Writer → Writer → Form → Form → Type 0
WritesEnds old new f g =
    Writes old new (nodes f + nodes g) (triples (names old) f old.next ++ triples (names old) g (old.next + nodes f))

pub record AreEnds (w : Writer) (f g : Form) (s o : End) : Type 0 where
  pub first : end_term (names w) s ≡ term_of (names w) f w.next
  pub second : end_term (names w) o ≡ term_of (names w) g (w.next + nodes f)

-- an axiom with each set of its annotations
abbrev pub WritesStatement : Writer → Writer → Statement → List Notes → Type 0
WritesStatement old new st sets = Writes old new (statement_nodes st sets) (statement_triples (names old) st sets old.next)

-- groups of axioms, one behind the other
abbrev pub WritesGroups : Writer → Writer → List Group → Type 0
WritesGroups old new gs = Writes old new (group_nodes gs) (group_triples (names old) gs old.next)

-- the triple between what stands at two parts
abbrev pub by_two : List ℕ → List Placed → Statement
by_two iri (p ∷ q ∷ []) = between p.place p.form iri q.form
by_two iri ps = unsaid

-- whether what stands there is an end of a triple
abbrev pub is_end : Place → Bool
is_end Subject = true
is_end Object = true
is_end Predicate = false
is_end (At w) = false

-- the triple whose end at this place stands first
abbrev pub link_at : Place → End → Name → End → Link
link_at Object near p far = record { subject = far; predicate = p; object = near }
link_at Subject near p far = record { subject = near; predicate = p; object = far }
link_at Predicate near p far = record { subject = near; predicate = p; object = far }
link_at (At w) near p far = record { subject = near; predicate = p; object = far }

abbrev pub said_by : Option (List ℕ) → Form → Form → Statement
said_by (Some iri) s o = linked s iri o
said_by None s o = unsaid

-- the form says this predicate, or none
pub record IsPredicate (f : Form) (iri : Option (List ℕ)) : Type 0 where
  pub said : (s o : Form) → by_predicate f s o ≡ said_by iri s o
