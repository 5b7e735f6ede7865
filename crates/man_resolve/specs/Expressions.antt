-- What annotations and expressions mean under kinds of names (Manchester Syntax, sections 2.1 to 2.4).
use Rattle.std.specs.Prelude.{ℕ, Bool, true, false, ◌||◌, if◌then◌else◌, List, [], ◌∷◌, ◌++◌, drop, find, length, Option, None, Some, Result, Ok, Err}
use Rattle.std.specs.List.{list_any}
use Rattle.std.specs.Ordering.{eq_by_cmp}
use Rattle.man_raw.specs.declared.form.Facet.{Facet}
use Rattle.man_raw.specs.declared.form.What.{What}
use Rattle.man_raw.specs.declared.form.What.TheVariants as what
use Rattle.man_raw.specs.Raws.{RawTree, RawTrees, raw, none, more}
use Rattle.owl_doc.specs.Entities.{entity_of, kind_of}
use Rattle.owl_kind.specs.declared.kind.Kind.{Kind}
use Rattle.owl_kind.specs.declared.kind.Kind.TheVariants as kind
use Rattle.owl_kind.specs.Kinds.{Entity, is_built_in}
use Rattle.owl_kind.specs.Order.{entity_cmp}
use Rattle.owl_tree.specs.declared.atom.Atom.{Atom}
use Rattle.owl_tree.specs.declared.atom.Atom.TheVariants as atom
use Rattle.owl_tree.specs.declared.tag.Tag.{Tag}
use Rattle.owl_tree.specs.declared.tag.Tag.TheVariants as tag
use Rattle.owl_tree.specs.Places.{counts}
use Rattle.owl_tree.specs.Rows.{is_tag, row_of}
use Rattle.owl_tree.specs.Trees.{Tree, kids_of, leaf, node}
use Rattle.man_resolve.specs.declared.fault.ResolveFault.{ResolveFault}
use Rattle.man_resolve.specs.declared.fault.ResolveFault.TheVariants.{Untyped, WrongForm, WrongKind}
use Rattle.man_resolve.specs.declared.place.Place.{Place}
use Rattle.man_resolve.specs.declared.place.Place.TheVariants as place
use Rattle.man_resolve.specs.declared.shape.ByKind.{ByKind}
use Rattle.man_resolve.specs.declared.shape.Shape.{Shape}
use Rattle.man_resolve.specs.declared.shape.Shape.TheVariants.{Inside, Over, Restriction, Cardinality, Wrong}
use Rattle.man_resolve.specs.Places.{facet_iri, shape_of, tags_at}

-- ---- trees, or the first fault in the order of the text

abbrev pub Told : Type 0 → Type 0
Told X = Result X ResolveFault

abbrev pub in_front : Told Tree → Told (List Tree) → Told (List Tree)
in_front (Err f) ts = Err f
in_front (Ok t) (Err f) = Err f
in_front (Ok t) (Ok ts) = Ok (t ∷ ts)

abbrev pub all_of : List (Told Tree) → Told (List Tree)
all_of [] = Ok []
all_of (t ∷ ts) = in_front t (all_of ts)

-- these, and then those
abbrev pub after : List Tree → Told (List Tree) → Told (List Tree)
after ts (Err f) = Err f
after ts (Ok us) = Ok (ts ++ us)

-- a node but for kids in front of it
pub record Stem : Type 0 where
  pub tag : Tag
  pub kids : List Tree

abbrev pub stem : Tag → Told (List Tree) → Told Stem
stem t (Err f) = Err f
stem t (Ok ks) = Ok (record { tag = t; kids = ks })

abbrev pub behind : Told Tree → Told Stem → Told Stem
behind (Err f) s = Err f
behind (Ok t) (Err f) = Err f
behind (Ok t) (Ok s) = Ok (record s { kids = t ∷ s.kids })

abbrev pub node_of : Told Stem → Told Tree
node_of (Err f) = Err f
node_of (Ok s) = Ok (node s.tag (kids_of s.kids))

-- ---- names

-- which kinds an IRI has
abbrev pub Knows : Type 0
Knows = Kind → List ℕ → Bool

-- declared as this kind, or built in
unfoldable pub knows : List Entity → Knows
knows kinds k iri = list_any (eq_by_cmp entity_cmp (record { kind = k; iri = iri })) kinds || is_built_in k iri

-- the atom has the kind that the tag asks for, if it asks for one
abbrev pub has_known : Knows → Option Entity → Bool
has_known ks None = true
has_known ks (Some e) = ks e.kind e.iri

abbrev pub may_be : Knows → Atom → Tag → Bool
may_be ks a t = has_known ks (entity_of (kind_of t) a)

-- a kind other than that of individuals
abbrev pub is_typed : Knows → List ℕ → Bool
is_typed ks iri = list_any (λ k. ks k iri) (kind.Class ∷ kind.Datatype ∷ kind.ObjectProperty ∷ kind.DataProperty ∷ kind.AnnotationProperty ∷ [])

abbrev pub misnamed : Knows → ℕ → Atom → ResolveFault
misnamed ks at (atom.Iri iri) = if is_typed ks iri then WrongKind iri at else Untyped iri at
misnamed ks at _ = WrongForm at

abbrev pub leaf_of : Knows → ℕ → Atom → Option Tag → Told Tree
leaf_of ks at a None = Err (misnamed ks at a)
leaf_of ks at a (Some t) = Ok (leaf t a)

-- the first of the leaves that the atom may be there
abbrev pub among : Knows → ℕ → Atom → List Tag → Told Tree
among ks at a [] = Err (WrongForm at)
among ks at a (t ∷ ts) = leaf_of ks at a (find (may_be ks a) (t ∷ ts))

unfoldable pub meant_atom : Knows → ℕ → Atom → Place → Told Tree
meant_atom ks at a p = among ks at a (tags_at p a)

abbrev pub meant_facet : ℕ → Facet → Place → Told Tree
meant_facet at f place.Facet = Ok (leaf tag.Facet (atom.Iri (facet_iri f)))
meant_facet at f _ = Err (WrongForm at)

-- ---- forms

-- what a piece means, by the place where it stands
abbrev pub Meaning : Type 0
Meaning = Place → Told Tree

abbrev pub placed : Place → Place → Place → List Meaning → List (Told Tree)
placed first second others [] = []
placed first second others (m ∷ ms) = m first ∷ placed second others others ms

abbrev pub all_at : Place → List Meaning → List (Told Tree)
all_at p ms = placed p p p ms

-- a node with the tag may have so many kids
abbrev pub takes : Tag → ℕ → Bool
takes t n = counts (row_of t) n

abbrev pub is_data : Tree → Bool
is_data (leaf t a) = is_tag tag.DataProperty t
is_data (node t ks) = false

-- the property decides on the tag and on the place of what stands behind it; between them, what is given
abbrev pub decided : ByKind → List Tree → List Meaning → Told Tree → Told Stem
decided by between ms (Err f) = Err f
decided by between ms (Ok t) =
    if is_data t then stem by.data_tag (after (t ∷ between) (all_of (all_at by.datas ms)))
    else stem by.object_tag (after (t ∷ between) (all_of (all_at by.objects ms)))

-- the first is the property, and all but so many stand behind it
abbrev pub by_property : ByKind → List Tree → ℕ → ℕ → List Meaning → Told Stem
by_property by between passed at [] = Err (WrongForm at)
by_property by between passed at (m ∷ ms) = decided by between (drop passed (m ∷ ms)) (m place.Property)

-- what is said, where so many kids may be
abbrev pub where_takes : Bool → ℕ → Told Stem → Told Stem
where_takes true at s = s
where_takes false at s = Err (WrongForm at)

abbrev pub restriction : ByKind → ℕ → List Meaning → Told Stem
restriction by at ms = where_takes (takes by.object_tag (length ms)) at (by_property by [] 1 at ms)

-- the number is written behind the property, and stands in front of it
abbrev pub numbered : ByKind → ℕ → List Meaning → Told Stem
numbered by at [] = Err (WrongForm at)
numbered by at (m ∷ []) = Err (WrongForm at)
numbered by at (m ∷ number ∷ ms) = behind (number place.Number) (by_property by [] 2 at (m ∷ number ∷ ms))

abbrev pub cardinality : ByKind → ℕ → List Meaning → Told Stem
cardinality by at ms = where_takes (takes by.object_tag (length ms)) at (numbered by at ms)

abbrev pub inside : Place → ℕ → List Meaning → Told Tree
inside p at [] = Err (WrongForm at)
inside p at (m ∷ []) = m p
inside p at (m ∷ n ∷ ms) = Err (WrongForm at)

abbrev pub shaped : Shape → Place → ℕ → List Meaning → Told Tree
shaped Inside p at ms = inside p at ms
shaped (Over t ps) p at ms = node_of (where_takes (takes t (length ms)) at (stem t (all_of (placed ps.first ps.second ps.others ms))))
shaped (Restriction by) p at ms = node_of (restriction by at ms)
shaped (Cardinality by) p at ms = node_of (cardinality by at ms)
shaped Wrong p at ms = Err (WrongForm at)

abbrev pub meant_what : Knows → ℕ → What → List Meaning → Meaning
meant_what ks at (what.Atom a) ms p = meant_atom ks at a p
meant_what ks at (what.Word w) ms p = Err (WrongForm at)
meant_what ks at (what.Facet f) ms p = meant_facet at f p
meant_what ks at (what.Form f) ms p = shaped (shape_of p f) p at ms

-- what the piece means at the place
abbrev mutual
  pub meant : Knows → RawTree → Meaning
  meant ks (raw at w ts) p = meant_what ks at w (meanings ks ts) p

  pub meanings : Knows → RawTrees → List Meaning
  meanings ks none = []
  meanings ks (more t ts) = meant ks t ∷ meanings ks ts
