-- The laws of makers.
use Rattle.std.proofs.Common.{length, ◌≡◌, refl, sym, List, [], ap, ◌∙◌, ℕ}
use Rattle.std.proofs.lemmas.List.{append-nil, length-map}
use Rattle.owl_arena.specs.Held.{AreHeld, trees_at}
use Rattle.owl_arena.proofs.HeldLaws.{kids_stay}
use Rattle.owl_doc.specs.Documents.{Document, IsBegun, ontology_of}
use Rattle.owl_maker.specs.Constructs.{Constructs, Work}
use Rattle.owl_tree.specs.Frames.{Frame}
use Rattle.owl_maker.specs.Makings.{Follows, Grows, Making, nothing_open, outline_of, with_document}
use Rattle.owl_tree.specs.Trees.{Tree}

-- a maker with nothing open follows no constructs
pub follows_nothing : (d : Document) → Follows (nothing_open d) (Constructs [])
follows_nothing d = record { outlines = refl; sound = tt; forms = (refl, refl) }

-- what the document says besides is no matter of what is in hand
pub follows_beside : (d : Document) (m : Making) (w : Work) → Follows m w → Follows (with_document d m) w
follows_beside d m w h = record { outlines = h.outlines; sound = h.sound; forms = h.forms }

-- so many constructs are open
pub levels_followed : (m : Making) (fs : List Frame) → Follows m (Constructs fs) → length m.outlines ≡ length fs
levels_followed m fs h = ap length h.outlines ∙ length-map fs outline_of

numbers_stay : (old new : Document) → Grows old new → (ids : List ℕ) → AreHeld old.arena.trees ids → trees_at new.arena.trees ids ≡ trees_at old.arena.trees ids
numbers_stay old new g ids h = ap (λ (ts : List Tree). trees_at ts ids) g.trees ∙ kids_stay old.arena.trees g.more ids h

-- where only the arena grows, the document says the same
pub same_ontology : (old new : Document) → IsBegun old → Grows old new → ontology_of new ≡ ontology_of old
same_ontology old new b g =
    ap ontology_of g.rest
    ∙ (λ i. record { head = old.head; annotations = numbers_stay old new g old.notes b.notes i; axioms = numbers_stay old new g old.axioms b.axioms i })

pub same_prefixes : (old new : Document) → Grows old new → new.prefixes ≡ old.prefixes
same_prefixes old new g = ap (λ (d : Document). d.prefixes) g.rest

pub grows_not : (d : Document) → Grows d d
grows_not d = record { more = []; trees = sym (append-nil d.arena.trees); rest = refl }
