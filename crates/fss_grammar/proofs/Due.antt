-- What an act needs of the outline of a maker, and of the class of the token that comes.
use Rattle.std.specs.Prelude.{◌≡◌, ℕ, Bool, true, false, List, [], ◌∷◌, length, IsTrue, Option, Some}
use Rattle.grammar.specs.Derivations.{Event}
use Rattle.grammar.specs.Derivations.Event.{Do, Take}
use Rattle.owl_tree.specs.declared.row.AtomSort.{AtomSort}
use Rattle.owl_tree.specs.declared.row.AtomSort.TheVariants as atom
use Rattle.owl_tree.specs.declared.tag.Tag.{Tag}
use Rattle.owl_tree.specs.declared.tag.Tag.TheVariants as tag
use Rattle.owl_tree.specs.Rows.{Row, Leaf, Node, fits, is_tag, row_of}
use Rattle.owl_tree.specs.Tags.{is_axiom}
use Rattle.fss_grammar.specs.Acts.{act_number}
use Rattle.fss_grammar.specs.Classes.{Class, class_number}
use Rattle.fss_grammar.specs.Classes.Class.{alone, digits, iri, label, language, name, text}
use Rattle.fss_grammar.specs.Outlines.{FrameOutline, KeptOutline, Naming, Outline, outline_behind, KeptOutline as kept}
use Rattle.fss_grammar.proofs.SoundNodeLaws.{IsExact}
use Rattle.fss_grammar.specs.declared.acts.Act.{Act}
use Rattle.fss_grammar.specs.declared.acts.Act.TheVariants.{AddAnnotation, AddAxiom, Begin, DeclareIri, DeclareName, EndItem, HeldDatatype, HeldProperty, Hold, ImportIri, OntologyIri, Plain, Shut, Tagged, Typed, VersionIri}
use Rattle.fss_grammar.specs.ReadyActs.{next_class}

-- ---- classes

-- the class of an IRI, in full or abbreviated
abbrev pub is_name : Class → Bool
is_name iri = true
is_name name = true
is_name alone = true
is_name _ = false

-- a token of such a class comes
pub record ComesIn (Good : Class → Bool) (next : Option ℕ) : Type 0 where
  pub class : Class
  pub comes : next ≡ Some (class_number class)
  pub good : Good class ≡ true

-- the class of what is written for an atom of this sort, or begins it
abbrev pub begins_atom : AtomSort → Class → Bool
begins_atom atom.Iri c = is_name c
begins_atom atom.Label label = true
begins_atom atom.Literal text = true
begins_atom atom.Number digits = true
begins_atom _ _ = false

-- ---- outlines

-- nothing is kept and a construct is open, of which this holds
abbrev pub InsideThen : KeptOutline → List FrameOutline → (FrameOutline → List FrameOutline → Type 0) → Type 0
InsideThen kept.nothing (f ∷ frames) Then = Then f frames
InsideThen _ _ Then = ⊥

abbrev pub IsInside : Outline → Type 0
IsInside o = InsideThen o.kept o.frames (λ f frames. Unit {0})

-- a string is kept for a literal of a construct, of which this holds
abbrev pub StringThen : KeptOutline → List FrameOutline → (FrameOutline → List FrameOutline → Tag → Type 0) → Type 0
StringThen (kept.string t) (f ∷ frames) Then = (row_of t ≡ Leaf atom.Literal) × Then f frames t
StringThen _ _ Then = ⊥

abbrev pub KeepsLiteral : Outline → Type 0
KeepsLiteral o = StringThen o.kept o.frames (λ f frames t. Unit {0})

-- an IRI is kept for a construct, of which this holds
abbrev pub IriThen : KeptOutline → List FrameOutline → (FrameOutline → List FrameOutline → Type 0) → Type 0
IriThen kept.iri (f ∷ frames) Then = Then f frames
IriThen _ _ Then = ⊥

abbrev pub KeepsName : Outline → Type 0
KeepsName o = IriThen o.kept o.frames (λ f frames. Unit {0})

-- no construct is open, and nothing is kept
abbrev pub StandsOutside : KeptOutline → List FrameOutline → Type 0
StandsOutside kept.nothing [] = Unit {0}
StandsOutside _ _ = ⊥

abbrev pub IsOutside : Outline → Type 0
IsOutside o = StandsOutside o.kept o.frames

-- an item with such a tag is whole
abbrev pub ItemThen : KeptOutline → List FrameOutline → (Tag → Type 0) → Type 0
ItemThen (kept.item t) [] Good = Good t
ItemThen _ _ Good = ⊥

-- the tags of kids as the row of a construct with this tag asks for
pub record FitsTags (t : Tag) (row : Row) (ts : List Tag) : Type 0 where
  pub fit : fits row ts ≡ true
  pub exact : is_tag tag.InverseObjectProperties t ≡ true → IsExact row (length ts)

abbrev pub IsWhole : FrameOutline → Type 0
IsWhole f = FitsTags f.tag (row_of f.tag) f.kids

abbrev pub IsDueToBegin : Row → Option ℕ → Outline → Type 0
IsDueToBegin (Leaf sort) next o = IsInside o × ComesIn (begins_atom sort) next
IsDueToBegin (Node front rest) next o = o.kept ≡ kept.nothing

abbrev pub IsDue : Act → Option ℕ → Outline → Type 0
IsDue (Begin t) next o = IsDueToBegin (row_of t) next o
IsDue Shut next o = InsideThen o.kept o.frames (λ f frames. IsWhole f)
IsDue Plain next o = KeepsLiteral o
IsDue Tagged next o = KeepsLiteral o × (next ≡ Some (class_number language))
IsDue Typed next o = KeepsLiteral o × ComesIn is_name next
IsDue Hold next o = IsInside o × ComesIn is_name next
IsDue HeldProperty next o = KeepsName o
IsDue HeldDatatype next o = KeepsName o
IsDue DeclareName next o = IsOutside o × (next ≡ Some (class_number alone))
IsDue DeclareIri next o = (o.kept ≡ kept.prefix) × (next ≡ Some (class_number iri))
IsDue OntologyIri next o = IsOutside o × ComesIn is_name next
IsDue VersionIri next o = IsOutside o × (o.naming ≡ Naming.named) × ComesIn is_name next
IsDue ImportIri next o = IsOutside o × ComesIn is_name next
IsDue AddAnnotation next o = ItemThen o.kept o.frames (λ t. t ≡ tag.Annotation)
IsDue AddAxiom next o = ItemThen o.kept o.frames (λ t. IsTrue (is_axiom t))
IsDue EndItem next o = Unit {0}

-- ---- events

-- the act of this number is due, and then the rest
pub record DueThen (a : ℕ) (next : Option ℕ) (o : Outline) (Then : Outline → Type 0) : Type 0 where
  pub act : Act
  pub number_is : act_number act ≡ a
  pub due : IsDue act next o
  pub later : Then (outline_behind act o)

-- Each of these events is due in turn.
abbrev pub AreDue : List (Event ℕ) → Outline → Type 0
AreDue [] o = Unit {0}
AreDue (Take class ∷ events) o = AreDue events o
AreDue (Do a ∷ events) o = DueThen a (next_class events) o (λ middle. AreDue events middle)
