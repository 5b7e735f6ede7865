-- An act that is due at the outline of a maker finds there what it needs.
use Rattle.std.proofs.Common.{◌≡◌, ℕ, true, List, [], ◌∷◌, length, map, Option, Some, None, refl, sym, ap, ◌∙◌}
use Rattle.std.specs.Option.{option_map}
use Rattle.owl_tokens.specs.declared.token.Token.{Token}
use Rattle.owl_tokens.specs.declared.token.Token.TheVariants as token
use Rattle.owl_tree.specs.declared.row.AtomSort.{AtomSort}
use Rattle.owl_tree.specs.declared.row.AtomSort.TheVariants as atom
use Rattle.owl_tree.specs.declared.tag.Tag.{Tag}
use Rattle.owl_tree.specs.declared.tag.Tag.TheVariants as tag
use Rattle.owl_tree.specs.Frames.{FitsButKeys, Frame}
use Rattle.owl_tree.specs.Ontologies.{OntologyName}
use Rattle.owl_tree.specs.Rows.{Row, Leaf, Node, row_of}
use Rattle.owl_tree.specs.Trees.{tag_of}
use Rattle.fss_grammar.specs.Classes.{Class, class_number, class_of}
use Rattle.fss_grammar.specs.Classes.Class.{alone, digits, iri, label, language, name, text}
use Rattle.fss_grammar.proofs.ClassLaws.{IsOf, is_of}
use Rattle.fss_grammar.proofs.Due.{ComesIn, FitsTags, IsDue, IsDueToBegin, IsInside, InsideThen, IriThen, ItemThen, StandsOutside, StringThen, begins_atom, is_name}
use Rattle.fss_grammar.specs.Making.{Document, Kept, Maker}
use Rattle.fss_grammar.specs.Outlines.{FrameOutline, Naming, frame_outline, kept_outline, naming_by, naming_of, outline_of}
use Rattle.fss_grammar.specs.Outlines.{KeptOutline as outline}
use Rattle.fss_grammar.specs.Ready.{ComesFor, ComesName, HasIri, IsBetween, IsReady, IsReadyToBegin, IsWithin, KeepsIri, KeepsItem, KeepsString, MayShut}
use Rattle.fss_grammar.specs.Ready.ComesName.{full, short}
use Rattle.fss_grammar.proofs.SoundNodeLaws.{tags_count}
use Rattle.fss_grammar.proofs.SoundTreeLaws.{exact_count, two_of_three}
use Rattle.fss_grammar.specs.declared.acts.Act.{Act}
use Rattle.fss_grammar.specs.declared.acts.Act.TheVariants.{AddAnnotation, AddAxiom, Begin, DeclareIri, DeclareName, EndItem, HeldDatatype, HeldProperty, Hold, ImportIri, OntologyIri, Plain, Shut, Tagged, Typed, VersionIri}

-- ---- a class tells which kind of token comes

-- a token of the class comes
pub record ComesOf (c : Class) (next : Option Token) : Type 0 where
  pub token : Token
  pub comes : next ≡ Some token
  pub is : IsOf c token

pub comes_of : (c : Class) (next : Option Token) → option_map class_of next ≡ Some (class_number c) → ComesOf c next
comes_of c None e = absurd (cc)
comes_of c (Some x) e = record { token = x; comes = refl; is = is_of c x (cc) }

comes_name : (next : Option Token) (c : Class) → ComesOf c next → is_name c ≡ true → ComesName next
comes_name next iri it good = full it.is.0 (it.comes ∙ ap Some it.is.1)
comes_name next name it good = short it.is.0 it.is.1 (it.comes ∙ ap Some it.is.2)
comes_name next alone it good = short it.is.0 [] (it.comes ∙ ap Some it.is.1)
comes_name next _ it good = absurd (cc)

-- an IRI comes, in full or abbreviated
named : (next : Option Token) → ComesIn is_name (option_map class_of next) → ComesName next
named next it = comes_name next it.class (comes_of it.class next it.comes) it.good

comes_atom : (sort : AtomSort) (next : Option Token) (c : Class) → ComesOf c next → begins_atom sort c ≡ true → ComesFor sort next
comes_atom atom.Iri next c it good = comes_name next c it good
comes_atom atom.Label next label it good = (it.is.0, it.comes ∙ ap Some it.is.1)
comes_atom atom.Literal next text it good = (it.is.0, it.comes ∙ ap Some it.is.1)
comes_atom atom.Number next digits it good = (it.is.0, it.comes ∙ ap Some it.is.1)
comes_atom _ next _ it good = absurd (cc)

comes_for : (sort : AtomSort) (next : Option Token) → ComesIn (begins_atom sort) (option_map class_of next) → ComesFor sort next
comes_for sort next it = comes_atom sort next it.class (comes_of it.class next it.comes) it.good

comes_language : (next : Option Token) → option_map class_of next ≡ Some (class_number language) → (tag : List ℕ) × (next ≡ Some (token.At tag))
comes_language next e = let it = comes_of language next e in (it.is.0, it.comes ∙ ap Some it.is.1)

comes_alone : (next : Option Token) → option_map class_of next ≡ Some (class_number alone) → (prefix : List ℕ) × (next ≡ Some (token.Name prefix []))
comes_alone next e = let it = comes_of alone next e in (it.is.0, it.comes ∙ ap Some it.is.1)

comes_full : (next : Option Token) → option_map class_of next ≡ Some (class_number iri) → (i : List ℕ) × (next ≡ Some (token.Iri i))
comes_full next e = let it = comes_of iri next e in (it.is.0, it.comes ∙ ap Some it.is.1)

-- ---- an outline tells what is kept and what is open

nothing_kept : (k : Kept) → kept_outline k ≡ outline.nothing → k ≡ Kept.nothing
nothing_kept Kept.nothing e = refl
nothing_kept _ e = absurd (cc)

prefix_kept : (k : Kept) → kept_outline k ≡ outline.prefix → (p : List ℕ) × (k ≡ Kept.prefix p)
prefix_kept (Kept.prefix p) e = (p, refl)
prefix_kept _ e = absurd (cc)

-- nothing is kept, and a construct is open
record Inside (Q : FrameOutline → List FrameOutline → Type 0) (k : Kept) (frames : List Frame) : Type 0 where
  nothing_kept : k ≡ Kept.nothing
  frame : Frame
  outer : List Frame
  frames_are : frames ≡ frame ∷ outer
  holds : Q (frame_outline frame) (map frame_outline outer)

inside : (Q : FrameOutline → List FrameOutline → Type 0) (k : Kept) (frames : List Frame) → InsideThen (kept_outline k) (map frame_outline frames) Q → Inside Q k frames
inside Q Kept.nothing (f ∷ frames) h = record { nothing_kept = refl; frame = f; outer = frames; frames_are = refl; holds = h }
inside Q _ _ h = elim h [ ]

within : (m : Maker) → IsInside (outline_of m) → IsWithin m
within m h =
    let it = inside (λ f frames. Unit {0}) m.kept m.frames h in
    record { nothing_kept = it.nothing_kept; frame = it.frame; outer = it.outer; frames_are = it.frames_are }

fits_but_keys : (f : Frame) → FitsTags f.tag (row_of f.tag) (map tag_of f.kids) → FitsButKeys f
fits_but_keys f h = record {
  row = h.fit;
  inverses = λ e. two_of_three f.kids (sym (tags_count f.kids) ∙ exact_count f.tag (length (map tag_of f.kids)) h.exact e);
}

may_shut : (m : Maker) → InsideThen (kept_outline m.kept) (map frame_outline m.frames) (λ f frames. FitsTags f.tag (row_of f.tag) f.kids) → MayShut m
may_shut m h =
    let it = inside (λ f frames. FitsTags f.tag (row_of f.tag) f.kids) m.kept m.frames h in
    record { nothing_kept = it.nothing_kept; frame = it.frame; outer = it.outer; frames_are = it.frames_are; fits = fits_but_keys it.frame it.holds }

keeps_string : (k : Kept) (frames : List Frame) (d : Document) → StringThen (kept_outline k) (map frame_outline frames) (λ f frames t. Unit {0}) → KeepsString (record { kept = k; frames = frames; document = d })
keeps_string (Kept.string t form) (f ∷ frames) d h = record { tag = t; form = form; keeps = refl; holds = h.0; frame = f; outer = frames; frames_are = refl }
keeps_string _ _ d h = elim h [ ]

keeps_iri : (k : Kept) (frames : List Frame) (d : Document) → IriThen (kept_outline k) (map frame_outline frames) (λ f frames. Unit {0}) → KeepsIri (record { kept = k; frames = frames; document = d })
keeps_iri (Kept.iri i) (f ∷ frames) d h = record { kept = i; keeps = refl; frame = f; outer = frames; frames_are = refl }
keeps_iri _ _ d h = elim h [ ]

between : (k : Kept) (frames : List Frame) (d : Document) → StandsOutside (kept_outline k) (map frame_outline frames) → IsBetween (record { kept = k; frames = frames; document = d })
between Kept.nothing [] d h = record { nothing_kept = refl; none_open = refl }
between _ _ d h = elim h [ ]

keeps_item : (Good : Tag → Type 0) (k : Kept) (frames : List Frame) (d : Document) → ItemThen (kept_outline k) (map frame_outline frames) Good → KeepsItem (λ t. Good (tag_of t)) (record { kept = k; frames = frames; document = d })
keeps_item Good (Kept.item t) [] d h = record { tree = t; keeps = refl; none_open = refl; good = h }
keeps_item Good _ _ d h = elim h [ ]

no_version : (version : Option (List ℕ)) → naming_by version ≡ Naming.named → version ≡ None
no_version None e = refl
no_version (Some v) e = absurd (cc)

iri_named : (called : Option OntologyName) → naming_of called ≡ Naming.named → (i : List ℕ) × (called ≡ Some (record { iri = i; version = None }))
iri_named None e = absurd (cc)
iri_named (Some called) e = (called.iri, ap (λ (v : Option (List ℕ)). Some (record called { version = v })) (no_version called.version e))

has_iri : (m : Maker) → naming_of m.document.ontology.head.name ≡ Naming.named → HasIri m
has_iri m e = let it = iri_named m.document.ontology.head.name e in record { iri = it.0; named = it.1 }

-- ---- acts

begin_ready : (row : Row) (next : Option Token) (m : Maker) → IsDueToBegin row (option_map class_of next) (outline_of m) → IsReadyToBegin row next m
begin_ready (Leaf sort) next m h = (within m h.0, comes_for sort next h.1)
begin_ready (Node front rest) next m h = nothing_kept m.kept h

declare_ready : (next : Option Token) (m : Maker) → IsDue DeclareIri (option_map class_of next) (outline_of m) → IsReady DeclareIri next m
declare_ready next m h =
    let held = prefix_kept m.kept h.0 in
    let comes = comes_full next h.1 in
    record { name = held.0; keeps = held.1; iri = comes.0; comes = comes.1 }

tagged_ready : (next : Option Token) (m : Maker) → IsDue Tagged (option_map class_of next) (outline_of m) → IsReady Tagged next m
tagged_ready next m h = let comes = comes_language next h.1 in (keeps_string m.kept m.frames m.document h.0, comes.0, comes.1)

name_ready : (next : Option Token) (m : Maker) → IsDue DeclareName (option_map class_of next) (outline_of m) → IsReady DeclareName next m
name_ready next m h = let comes = comes_alone next h.1 in (between m.kept m.frames m.document h.0, comes.0, comes.1)

pub ready_where_due : (act : Act) (next : Option Token) (m : Maker) → IsDue act (option_map class_of next) (outline_of m) → IsReady act next m
ready_where_due (Begin t) next m h = begin_ready (row_of t) next m h
ready_where_due Shut next m h = may_shut m h
ready_where_due Plain next m h = keeps_string m.kept m.frames m.document h
ready_where_due Tagged next m h = tagged_ready next m h
ready_where_due Typed next m h = (keeps_string m.kept m.frames m.document h.0, named next h.1)
ready_where_due Hold next m h = (within m h.0, named next h.1)
ready_where_due HeldProperty next m h = keeps_iri m.kept m.frames m.document h
ready_where_due HeldDatatype next m h = keeps_iri m.kept m.frames m.document h
ready_where_due DeclareName next m h = name_ready next m h
ready_where_due DeclareIri next m h = declare_ready next m h
ready_where_due OntologyIri next m h = (between m.kept m.frames m.document h.0, named next h.1)
ready_where_due VersionIri next m h = (between m.kept m.frames m.document h.0, has_iri m h.1, named next h.2)
ready_where_due ImportIri next m h = (between m.kept m.frames m.document h.0, named next h.1)
ready_where_due AddAnnotation next m h = keeps_item (λ t. t ≡ tag.Annotation) m.kept m.frames m.document h
ready_where_due AddAxiom next m h = keeps_item _ m.kept m.frames m.document h
ready_where_due EndItem next m h = tt
