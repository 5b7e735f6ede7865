-- What the walk over the arena adds to the triples.
use Rattle.std.specs.Prelude.{◌≡◌, ◌<◌, ℕ, ◌+◌, Bool, true, false, not, length, List, [], ◌∷◌, ◌++◌}
use Rattle.std.specs.List.{AllByRecursion}
use Rattle.owl_arena.specs.Held.{tree_at}
use Rattle.owl_tree.specs.Trees.{Tree}
use Rattle.rdf_graph.specs.declared.term.Term.{Term}
use Rattle.rdf_graph.specs.declared.term.Term.TheVariants.{Iri, Blank, Literal}
use Rattle.rdf_graph.specs.declared.triple.Triple.{Triple}
use Rattle.rdf_meaning.specs.Words.{word_iri}
use Rattle.rdf_meaning.specs.Nodes.{nil_iri, type_iri}
use Rattle.rdf_meaning.specs.Denotation.{true_literal}
use Rattle.rdf_meaning.specs.declared.row.Part.{Part}
use Rattle.rdf_mapping.specs.Arenas.{forms_at, kids_at}
use Rattle.rdf_forward.specs.declared.drawn.Drawn.{Drawn}
use Rattle.rdf_forward.specs.declared.drawn.Drawn.TheVariants as drawn
use Rattle.rdf_forward.specs.declared.drawn.Next.{Next}
use Rattle.rdf_forward.specs.declared.ends.End.{End}
use Rattle.rdf_forward.specs.declared.ends.End.TheVariants as ends
use Rattle.rdf_forward.specs.declared.ends.Holder.{Holder}
use Rattle.rdf_forward.specs.declared.ends.Holder.TheVariants as holder
use Rattle.rdf_forward.specs.declared.ends.Link.{Link}
use Rattle.rdf_forward.specs.declared.ends.Name.{Name}
use Rattle.rdf_forward.specs.declared.ends.Name.TheVariants as name
use Rattle.rdf_forward.specs.declared.writer.Writer.{Writer}
use Rattle.blank_labels.specs.LabelNumbers.{names_beside}
use Rattle.rdf_mapping.specs.Forms.{Form, Arcs, plain, arc_nodes, arc_triples, first_iri, link, list_form, nodes, rest_iri, triples}
use Rattle.rdf_mapping.specs.Drawing.{Kid, Placed, arc_iri, atom_term, form_of, listed, placed, placed_at, placed_by}

abbrev pub drawn_form : List Tree → Drawn → Form
drawn_form trees (drawn.Kid id) = form_of (tree_at trees id)
drawn_form trees (drawn.Trees least ids) = listed least (forms_at trees ids.now)
drawn_form trees (drawn.Keys objects others) = list_form (forms_at trees objects.now ++ forms_at trees others.now)
drawn_form trees (drawn.Class word) = plain (Iri (word_iri word))
drawn_form trees drawn.True = plain (Literal true_literal)

-- the trees have numbers below this one
abbrev pub IsDrawnBelow : ℕ → Drawn → Type 0
IsDrawnBelow above (drawn.Kid id) = id < above
IsDrawnBelow above (drawn.Trees least ids) = AllByRecursion (λ id. id < above) ids.now
IsDrawnBelow above (drawn.Keys objects others) =
    AllByRecursion (λ id. id < above) objects.now × AllByRecursion (λ id. id < above) others.now
IsDrawnBelow above (drawn.Class word) = Unit {0}
IsDrawnBelow above drawn.True = Unit {0}

-- What stands at a part whatever the parts behind it are, and which kids they get.
pub record Takes (trees : List Tree) (part : Part) (left : ℕ) (ids : List ℕ) (d : Drawn) (others : List ℕ) : Type 0 where
  pub placed : (behind : List Kid → List Placed) → placed_by part.want part.place left behind (kids_at trees ids)
      ≡ placed_at part.place (drawn_form trees d) ∷ behind (kids_at trees others)

abbrev pub TakesNone : List Tree → Part → ℕ → List ℕ → Type 0
TakesNone trees part left ids = (behind : List Kid → List Placed) → placed_by part.want part.place left behind (kids_at trees ids) ≡ []

-- What stands at the first part, and what the parts behind it get.
pub record IsNext (trees : List Tree) (above : ℕ) (parts : List Part) (ids : List ℕ) (next : Next) : Type 0 where
  pub placed : placed parts (kids_at trees ids) ≡ placed_at next.place (drawn_form trees next.drawn) ∷ placed next.parts.now (kids_at trees next.kids.now)
  pub drawn : IsDrawnBelow above next.drawn
  pub below : AllByRecursion (λ id. id < above) next.kids.now
  pub fewer : length next.parts.now < length parts

abbrev pub name_iri : Name → List ℕ
name_iri name.Type = type_iri
name_iri (name.Word w) = word_iri w
name_iri (name.Arc w) = arc_iri w
name_iri (name.Given iri) = iri.now

abbrev pub end_term : (ℕ → List ℕ) → End → Term
end_term name (ends.Named iri) = Iri (name_iri iri)
end_term name (ends.Leaf atom) = atom_term atom.now
end_term name (ends.Node n) = Blank (name n)
end_term name ends.Nil = Iri nil_iri
end_term name ends.True = Literal true_literal

abbrev pub holder_term : (ℕ → List ℕ) → Holder → Term
holder_term name (holder.Node n) = Blank (name n)
holder_term name (holder.Named iri) = Iri iri.now

abbrev pub link_triple : (ℕ → List ℕ) → Link → Triple
link_triple name l = link (end_term name l.subject) (name_iri l.predicate) (end_term name l.object)

abbrev pub names : Writer → ℕ → List ℕ
names w n = names_beside w.labels n

-- the blank node of a number
abbrev pub node_term : Writer → ℕ → Term
node_term w n = Blank (names w n)

-- a list of trees begins at its first cell, or is rdf:nil
abbrev pub list_term : (ℕ → List ℕ) → List ℕ → ℕ → Term
list_term name [] n = Iri nil_iri
list_term name (id ∷ ids) n = Blank (name n)

-- what a cell leads to: the next one, or the end
abbrev pub rest_term : (ℕ → List ℕ) → Bool → ℕ → Term
rest_term name true n = Blank (name n)
rest_term name false n = Iri nil_iri

-- a cell leads to a second one, with this element, which ends the list
abbrev pub second_cell : (ℕ → List ℕ) → ℕ → ℕ → Term → List Triple
second_cell name cell n element =
    link (Blank (name cell)) rest_iri (Blank (name n)) ∷ link (Blank (name n)) first_iri element ∷
    link (Blank (name n)) rest_iri (Iri nil_iri) ∷ []

-- so many nodes more, and these triples
pub record Writes (old new : Writer) (count : ℕ) (ts : List Triple) : Type 0 where
  pub labels : new.labels ≡ old.labels
  pub counted : new.next ≡ old.next + count
  pub added : new.gather ≡ old.gather ++ ts

-- one triple more
abbrev pub WritesLink : Writer → Writer → Term → List ℕ → Term → Type 0
WritesLink old new s p o = Writes old new 0 (link s p o ∷ [])

abbrev pub WritesForm : Writer → Writer → Form → Type 0
WritesForm old new f = Writes old new (nodes f) (triples (names old) f old.next)

abbrev pub WritesArcs : Writer → Writer → Term → Arcs → Type 0
WritesArcs old new x arcs = Writes old new (arc_nodes arcs) (arc_triples (names old) x arcs old.next)

abbrev pub is_none : List Form → Bool
is_none [] = true
is_none (f ∷ fs) = false

-- Whatever stands in the list behind these elements: once that is written, the whole is. A list that goes on has more elements.
abbrev pub Leads : Writer → Writer → Bool → List Form → Type 0
Leads old new goes_on fs =
    (others : List Form) (last : Writer) → is_none others ≡ not goes_on → WritesForm new last (list_form others) →
    WritesForm old last (list_form (fs ++ others))
