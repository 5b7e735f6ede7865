-- What a maker has in hand, and what it was made of as written.
use Rattle.std.specs.Prelude.{◌≡◌, ◌⊎◌, ◌<◌, ◌+◌, Bool, true, false, IsTrue, List, [], ◌∷◌, ◌++◌, map, Contains, Option, None, Some}
use Rattle.owl_arena.specs.Growth.{Adds, Lacks}
use Rattle.owl_arena.specs.Shared.{heaviest}
use Rattle.owl_doc.specs.Documents.{Document, ontology_of, total_weight, with_arena}
use Rattle.owl_maker.specs.declared.parts.Outline.{Outline}
use Rattle.owl_maker.specs.Constructs.{Constructs, IsSound, Item, Work, has_any, has_key}
use Rattle.owl_tree.specs.Frames.{FitsButKeys, Frame}
use Rattle.owl_tree.specs.declared.tag.Tag.TheVariants as tag
use Rattle.owl_tree.specs.Canonical.{canonical}
use Rattle.owl_tree.specs.Tags.{is_axiom}
use Rattle.owl_tree.specs.Trees.{Tree, tag_of, weight}

-- The document so far; of each open construct, the innermost first, its outline and the canonical forms of its kids; the
-- canonical form of the item, where it is whole; and whether a tree in the item is too heavy, so that no more are made.
pub record Making : Type 0 where
  pub document : Document
  pub outlines : List Outline
  pub kids : List (List Tree)
  pub item : Option Tree
  pub is_heavy : Bool

-- nothing is open
abbrev pub nothing_open : Document → Making
nothing_open d = record { document = d; outlines = []; kids = []; item = None; is_heavy = false }

abbrev pub outline_of : Frame → Outline
outline_of f = record { tag = f.tag; has_kids = has_any f.kids; has_key = has_key f.kids }

abbrev pub outlines_of : Work → List Outline
outlines_of (Constructs fs) = map outline_of fs
outlines_of (Item t) = []

-- the canonical forms of the kids of each
abbrev pub forms : List Frame → List (List Tree)
forms fs = map (λ (f : Frame). map canonical f.kids) fs

pub record IsHeavy (t : Tree) : Type 0 where
  pub weight : heaviest < weight (canonical t)

pub record HasHeavy (ts : List Tree) : Type 0 where
  pub tree : Tree
  pub inside : Contains ts tree
  pub heavy : IsHeavy tree

abbrev pub HaveHeavy : List Frame → Type 0
HaveHeavy [] = ⊥
HaveHeavy (f ∷ fs) = HasHeavy f.kids ⊎ HaveHeavy fs

-- the canonical forms are in hand, or some tree of the item is too heavy
abbrev pub HoldsForms : Bool → List (List Tree) → Option Tree → Work → Type 0
HoldsForms false kids item (Constructs fs) = (kids ≡ forms fs) × (item ≡ None)
HoldsForms false kids item (Item t) = item ≡ Some (canonical t)
HoldsForms true kids item (Constructs fs) = HaveHeavy fs
HoldsForms true kids item (Item t) = IsHeavy t

-- the maker has in hand what was written
pub record Follows (m : Making) (w : Work) : Type 0 where
  pub outlines : m.outlines ≡ outlines_of w
  pub sound : IsSound w
  pub forms : HoldsForms m.is_heavy m.kids m.item w

-- a construct is open
pub record IsInside (m : Making) : Type 0 where
  pub frame : Frame
  pub outer : List Frame
  pub follows : Follows m (Constructs (frame ∷ outer))

-- and fits its row but for its keys
pub record MayShut (m : Making) : Type 0 where
  pub frame : Frame
  pub outer : List Frame
  pub follows : Follows m (Constructs (frame ∷ outer))
  pub fits : FitsButKeys frame

-- an annotation is whole
pub record HasAnnotation (m : Making) : Type 0 where
  pub item : Tree
  pub follows : Follows m (Item item)
  pub tag : tag_of item ≡ tag.Annotation

-- an axiom is whole
pub record HasAxiom (m : Making) : Type 0 where
  pub item : Tree
  pub follows : Follows m (Item item)
  pub tag : IsTrue (is_axiom (tag_of item))

-- only the arena grows, and its trees keep their numbers
pub record Grows (old new : Document) : Type 0 where
  pub more : List Tree
  pub trees : new.arena.trees ≡ old.arena.trees ++ more
  pub rest : new ≡ with_arena new.arena old

abbrev pub annotations_of : Document → List Tree
annotations_of d = (ontology_of d).annotations

abbrev pub axioms_of : Document → List Tree
axioms_of d = (ontology_of d).axioms

-- the canonical form of the tree comes behind the annotations, unless it is among them
pub record AddsAnnotation (old new : Document) (t : Tree) : Type 0 where
  pub added : Adds (annotations_of old) (annotations_of new) (canonical t)
  pub rest : new ≡ record { arena = old.arena; prefixes = old.prefixes; head = old.head; notes = new.notes; axioms = old.axioms }

-- and behind the axioms
pub record AddsAxiom (old new : Document) (t : Tree) : Type 0 where
  pub added : Adds (axioms_of old) (axioms_of new) (canonical t)
  pub rest : new ≡ record { arena = old.arena; prefixes = old.prefixes; head = old.head; notes = old.notes; axioms = new.axioms }

-- the canonical form of the tree is not among these, and with it the document would be too heavy
pub record PassesLimit (d : Document) (ts : List Tree) (t : Tree) : Type 0 where
  pub new : Lacks ts (canonical t)
  pub heavy : heaviest < total_weight d + weight (canonical t)

-- the document changes alone
abbrev pub with_document : Document → Making → Making
with_document d m = record { document = d; outlines = m.outlines; kids = m.kids; item = m.item; is_heavy = m.is_heavy }
