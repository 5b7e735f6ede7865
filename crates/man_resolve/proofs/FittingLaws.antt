-- The tables of places fit the rows of the tags: each test closes by computation.
use Rattle.std.proofs.Common.{◌≡◌, true, refl}
use Rattle.man_raw.specs.declared.form.Form.{Form}
use Rattle.man_raw.specs.declared.form.Form.TheVariants as form
use Rattle.man_raw.specs.declared.heading.Heading.{Heading}
use Rattle.man_raw.specs.declared.heading.Heading.TheVariants as heading
use Rattle.man_raw.specs.declared.heading.Section.{Section}
use Rattle.man_raw.specs.declared.heading.Section.TheVariants as section
use Rattle.owl_tree.specs.declared.atom.Atom.{Atom}
use Rattle.owl_tree.specs.declared.atom.Atom.TheVariants as atom
use Rattle.owl_tree.specs.Rows.{admits, row_of}
use Rattle.owl_tree.specs.Tags.{all_tags, number_of}
use Rattle.man_resolve.specs.declared.place.Place.{Place}
use Rattle.man_resolve.specs.declared.place.Place.TheVariants as place
use Rattle.man_resolve.specs.Fitting.{atom_fits, section_fits, shape_fits}
use Rattle.man_resolve.specs.Places.{class_shape, other_shape, range_shape, sentence_of, shape_of, tags_at}

pub atoms_fit : (p : Place) (a : Atom) → atom_fits p a ≡ true
unfolding tags_at admits row_of number_of
atoms_fit place.Class (atom.Iri iri) = refl
atoms_fit _ (atom.Iri iri) = refl
atoms_fit place.Class (atom.Label label) = refl
atoms_fit _ (atom.Label label) = refl
atoms_fit place.Class (atom.Literal literal) = refl
atoms_fit _ (atom.Literal literal) = refl
atoms_fit place.Class (atom.Number number) = refl
atoms_fit _ (atom.Number number) = refl

class_shapes_fit : (f : Form) → shape_fits place.Class (class_shape f) ≡ true
unfolding all_tags admits row_of number_of
class_shapes_fit form.Or = refl
class_shapes_fit _ = refl

range_shapes_fit : (f : Form) → shape_fits place.Range (range_shape f) ≡ true
unfolding all_tags admits row_of number_of
range_shapes_fit form.Or = refl
range_shapes_fit _ = refl

other_shapes_fit : (p : Place) (f : Form) → shape_fits p (other_shape p f) ≡ true
unfolding all_tags admits row_of number_of
other_shapes_fit place.Object form.Inverse = refl
other_shapes_fit place.Object _ = refl
other_shapes_fit place.Property form.Inverse = refl
other_shapes_fit place.Property _ = refl
other_shapes_fit place.Chain form.List = refl
other_shapes_fit place.Chain _ = refl
other_shapes_fit place.FacetPair form.FacetPair = refl
other_shapes_fit place.FacetPair _ = refl
other_shapes_fit place.Notes form.Notes = refl
other_shapes_fit place.Notes _ = refl
other_shapes_fit place.Note form.Note = refl
other_shapes_fit place.Note _ = refl
other_shapes_fit _ f = refl

pub shapes_fit : (p : Place) (f : Form) → shape_fits p (shape_of p f) ≡ true
unfolding shape_of
shapes_fit place.Class f = class_shapes_fit f
shapes_fit place.Range f = range_shapes_fit f
shapes_fit p f = other_shapes_fit p f

pub sections_fit : (h : Heading) (s : Section) → section_fits h (sentence_of h s) ≡ true
unfolding sentence_of all_tags admits row_of number_of
sections_fit heading.Class section.Annotations = refl
sections_fit heading.Class _ = refl
sections_fit heading.Datatype section.Annotations = refl
sections_fit heading.Datatype _ = refl
sections_fit heading.ObjectProperty section.Annotations = refl
sections_fit heading.ObjectProperty _ = refl
sections_fit heading.DataProperty section.Annotations = refl
sections_fit heading.DataProperty _ = refl
sections_fit heading.AnnotationProperty section.Annotations = refl
sections_fit heading.AnnotationProperty _ = refl
sections_fit heading.Individual section.Annotations = refl
sections_fit heading.Individual _ = refl
sections_fit heading.EquivalentClasses section.Members = refl
sections_fit heading.EquivalentClasses _ = refl
sections_fit heading.DisjointClasses section.Members = refl
sections_fit heading.DisjointClasses _ = refl
sections_fit heading.EquivalentProperties section.Members = refl
sections_fit heading.EquivalentProperties _ = refl
sections_fit heading.DisjointProperties section.Members = refl
sections_fit heading.DisjointProperties _ = refl
sections_fit heading.SameIndividual section.Members = refl
sections_fit heading.SameIndividual _ = refl
sections_fit heading.DifferentIndividuals section.Members = refl
sections_fit heading.DifferentIndividuals _ = refl
