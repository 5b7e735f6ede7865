-- What a document means is annotations and axioms, by the tags.
use Rattle.std.proofs.Common.{◌≡◌, ℕ, Bool, true, false, List, [], ◌∷◌, ◌++◌, drop, Option, None, Some, Ok, Err, refl, subst}
use Rattle.std.specs.Prelude.{◌&&◌, ◌+◌, ◌==◌, suc, length, not, IsTrue, if◌then◌else◌, map}
use Rattle.std.specs.Cmp.{first_so, second_so}
use Rattle.std.specs.List.{AllByRecursion, flat_map}
use Rattle.man_raw.specs.declared.document.RawPart.{RawPart}
use Rattle.man_raw.specs.declared.form.Form.{Form}
use Rattle.man_raw.specs.declared.form.Form.TheVariants as form
use Rattle.man_raw.specs.declared.form.What.TheVariants as what
use Rattle.man_raw.specs.declared.form.Characteristic.{Characteristic}
use Rattle.man_raw.specs.declared.form.Characteristic.TheVariants as character
use Rattle.man_raw.specs.declared.heading.Heading.{Heading}
use Rattle.man_raw.specs.declared.heading.Heading.TheVariants as heading
use Rattle.man_raw.specs.declared.heading.Section.{Section}
use Rattle.man_raw.specs.declared.heading.Section.TheVariants as section
use Rattle.man_raw.specs.Documents.{ItemTree}
use Rattle.man_raw.specs.Raws.{RawTree, list_of, place_of, raw}
use Rattle.owl_assembly.specs.Filling.{AreAnnotations, AreAxioms}
use Rattle.owl_tree.specs.declared.atom.Atom.{Atom}
use Rattle.owl_tree.specs.declared.atom.Atom.TheVariants as atom
use Rattle.owl_tree.specs.declared.tag.Tag.{Tag}
use Rattle.owl_tree.specs.declared.tag.Tag.TheVariants as tag
use Rattle.owl_tree.specs.Rows.{is_tag}
use Rattle.owl_tree.specs.Tags.{is_axiom, number_of}
use Rattle.owl_tree.specs.Trees.{Tree, kids_of, node, no_kids, tag_of}
use Rattle.man_resolve.specs.declared.fault.ResolveFault.TheVariants.{Memory}
use Rattle.man_resolve.specs.declared.place.Place.TheVariants as place
use Rattle.man_resolve.specs.declared.sentence.Sentence.{Sentence}
use Rattle.man_resolve.specs.declared.sentence.Sentence.TheVariants.{Beside, Ahead, Members, Properties, Key, Fact, Note, Word, Wrong}
use Rattle.man_resolve.specs.declared.shape.ByKind.{ByKind}
use Rattle.man_resolve.specs.Expressions.{Knows, Meaning, Stem, Told, after, all_at, all_of, behind, by_property, decided, in_front, is_data, meant, meant_atom, node_of, stem, takes, where_takes}
use Rattle.man_resolve.specs.Items.{annotations_of, assertion_in, axiom_of, axioms_of, called, declaration_of, fact_by, fact_said, groups, key_said, meanings_of, members_in, members_said, note_said, one, parts_of, said_of, stated, subject_of, where_found, word_in}
use Rattle.man_resolve.specs.Places.{annotation_property_sentence, class_sentence, data_property_sentence, datatype_sentence, individual_sentence, members_sentence, name_place, object_property_sentence, other_sentence, sentence_of, shape_of, tags_at, word_tag}

-- ---- results

-- what is told of a result that is there
abbrev Wherever : {X : Type 0} → (X → Type 0) → Told X → Type 0
Wherever P (Ok x) = P x
Wherever P (Err f) = Unit {0}

-- an option as a result, of which no fault is asked
abbrev found_by : {X : Type 0} → Option X → Told X
found_by None = Err Memory
found_by (Some x) = Ok x

at_ok : {X : Type 0} (P : X → Type 0) (r : Told X) (x : X) → Wherever P r → r ≡ Ok x → P x
at_ok P r x h e = subst (Wherever P) e h

one_told : (P : Tree → Type 0) (t : Tree) (r : Told (List Tree)) → P t → Wherever (AllByRecursion P) r → Wherever (AllByRecursion P) (in_front (Ok t) r)
one_told P t (Err f) h k = tt
one_told P t (Ok ts) h k = (h, k)

all_told : (P : Tree → Type 0) (rs : List (Told Tree)) → AllByRecursion (Wherever P) rs → Wherever (AllByRecursion P) (all_of rs)
all_told P [] h = tt
all_told P (Err f ∷ rs) h = tt
all_told P (Ok t ∷ rs) h = one_told P t (all_of rs) h.0 (all_told P rs h.1)

all_joined : {X : Type 0} (P : X → Type 0) (xs ys : List X) → AllByRecursion P xs → AllByRecursion P ys → AllByRecursion P (xs ++ ys)
all_joined P [] ys h k = k
all_joined P (x ∷ xs) ys h k = (h.0, all_joined P xs ys h.1 k)

all_mapped : {X Y : Type 0} (P : Y → Type 0) (f : X → Y) → ((x : X) → P (f x)) → (xs : List X) → AllByRecursion P (map f xs)
all_mapped P f h [] = tt
all_mapped P f h (x ∷ xs) = (h x, all_mapped P f h xs)

all_flat : {X Y : Type 0} (P : Y → Type 0) (f : X → List Y) → ((x : X) → AllByRecursion P (f x)) → (xs : List X) → AllByRecursion P (flat_map f xs)
all_flat P f h [] = tt
all_flat P f h (x ∷ xs) = all_joined P (f x) (flat_map f xs) (h x) (all_flat P f h xs)

-- ---- annotations

abbrev IsNote : Tree → Type 0
IsNote t = tag_of t ≡ tag.Annotation

no_atom : (ks : Knows) (at : ℕ) (a : Atom) → Wherever IsNote (meant_atom ks at a place.Note)
unfolding meant_atom tags_at
no_atom ks at (atom.Iri iri) = tt
no_atom ks at (atom.Label label) = tt
no_atom ks at (atom.Literal literal) = tt
no_atom ks at (atom.Number number) = tt

over_note : (b : Bool) (at : ℕ) (r : Told (List Tree)) → Wherever IsNote (node_of (where_takes b at (stem tag.Annotation r)))
over_note false at r = tt
over_note true at (Err f) = tt
over_note true at (Ok ts) = refl

note_form : (ks : Knows) (at : ℕ) (f : Form) (ts : _) → Wherever IsNote (meant ks (raw at (what.Form f) ts) place.Note)
unfolding shape_of
note_form ks at form.Note ts = over_note _ at _
note_form ks at _ ts = tt

note_tag : (ks : Knows) (t : RawTree) → Wherever IsNote (meant ks t place.Note)
note_tag ks (raw at (what.Atom a) ts) = no_atom ks at a
note_tag ks (raw at (what.Word w) ts) = tt
note_tag ks (raw at (what.Facet f) ts) = tt
note_tag ks (raw at (what.Form f) ts) = note_form ks at f ts

notes_at : (ks : Knows) (ts : List RawTree) → AllByRecursion (Wherever IsNote) (all_at place.Note (meanings_of ks ts))
notes_at ks [] = tt
notes_at ks (t ∷ ts) = (note_tag ks t, notes_at ks ts)

block_notes : (ks : Knows) (t : RawTree) → AllByRecursion (Wherever IsNote) (annotations_of ks t)
block_notes ks (raw at (what.Form form.Notes) ts) = notes_at ks (list_of ts)
block_notes ks (raw at (what.Form _) ts) = (tt, tt)
block_notes ks (raw at (what.Atom a) ts) = (tt, tt)
block_notes ks (raw at (what.Word w) ts) = (tt, tt)
block_notes ks (raw at (what.Facet f) ts) = (tt, tt)

pub are_annotations : (ks : Knows) (blocks : List RawTree) (ts : List Tree) → all_of (flat_map (annotations_of ks) blocks) ≡ Ok ts → AreAnnotations ts
are_annotations ks blocks ts e =
    at_ok AreAnnotations (all_of (flat_map (annotations_of ks) blocks)) ts (all_told IsNote (flat_map (annotations_of ks) blocks) (all_flat (Wherever IsNote) (annotations_of ks) (block_notes ks) blocks)) e

-- ---- axioms

abbrev HasAxiomTag : Stem → Type 0
HasAxiomTag s = is_axiom s.tag ≡ true

-- the sentence has tags of axioms alone
abbrev are_axiom_tags : Sentence → Bool
are_axiom_tags (Beside t p) = is_axiom t
are_axiom_tags (Ahead t p) = is_axiom t
are_axiom_tags (Members t p) = is_axiom t
are_axiom_tags (Properties by) = is_axiom by.object_tag && is_axiom by.data_tag
are_axiom_tags _ = true

class_tags : (s : Section) → are_axiom_tags (class_sentence s) ≡ true
unfolding number_of
class_tags section.Annotations = refl
class_tags _ = refl

datatype_tags : (s : Section) → are_axiom_tags (datatype_sentence s) ≡ true
unfolding number_of
datatype_tags section.Annotations = refl
datatype_tags _ = refl

object_property_tags : (s : Section) → are_axiom_tags (object_property_sentence s) ≡ true
unfolding number_of
object_property_tags section.Annotations = refl
object_property_tags _ = refl

data_property_tags : (s : Section) → are_axiom_tags (data_property_sentence s) ≡ true
unfolding number_of
data_property_tags section.Annotations = refl
data_property_tags _ = refl

annotation_property_tags : (s : Section) → are_axiom_tags (annotation_property_sentence s) ≡ true
unfolding number_of
annotation_property_tags section.Annotations = refl
annotation_property_tags _ = refl

individual_tags : (s : Section) → are_axiom_tags (individual_sentence s) ≡ true
unfolding number_of
individual_tags section.Annotations = refl
individual_tags _ = refl

members_tags : (h : Heading) → are_axiom_tags (members_sentence h) ≡ true
unfolding number_of
members_tags heading.Class = refl
members_tags _ = refl

other_tags : (h : Heading) (s : Section) → are_axiom_tags (other_sentence h s) ≡ true
other_tags h section.Members = members_tags h
other_tags h _ = refl

sentence_tags : (h : Heading) (s : Section) → are_axiom_tags (sentence_of h s) ≡ true
unfolding sentence_of
sentence_tags heading.Class s = class_tags s
sentence_tags heading.Datatype s = datatype_tags s
sentence_tags heading.ObjectProperty s = object_property_tags s
sentence_tags heading.DataProperty s = data_property_tags s
sentence_tags heading.AnnotationProperty s = annotation_property_tags s
sentence_tags heading.Individual s = individual_tags s
sentence_tags heading.EquivalentClasses s = other_tags heading.EquivalentClasses s
sentence_tags heading.DisjointClasses s = other_tags heading.DisjointClasses s
sentence_tags heading.EquivalentProperties s = other_tags heading.EquivalentProperties s
sentence_tags heading.DisjointProperties s = other_tags heading.DisjointProperties s
sentence_tags heading.SameIndividual s = other_tags heading.SameIndividual s
sentence_tags heading.DifferentIndividuals s = other_tags heading.DifferentIndividuals s

key_tag : is_axiom tag.HasKey ≡ true
unfolding number_of
key_tag = refl

assertion_tag : is_axiom tag.AnnotationAssertion ≡ true
unfolding number_of
assertion_tag = refl

declaration_tag : is_axiom tag.Declaration ≡ true
unfolding number_of
declaration_tag = refl

abbrev have_axiom_tags : ByKind → Bool
have_axiom_tags by = is_axiom by.object_tag && is_axiom by.data_tag

fact_tag : (t : RawTree) → Wherever (λ by. have_axiom_tags by ≡ true) (found_by (fact_by t))
unfolding number_of
fact_tag (raw at (what.Form form.Fact) ts) = refl
fact_tag (raw at (what.Form form.NegativeFact) ts) = refl
fact_tag (raw at (what.Form _) ts) = tt
fact_tag (raw at (what.Atom a) ts) = tt
fact_tag (raw at (what.Word w) ts) = tt
fact_tag (raw at (what.Facet f) ts) = tt

characteristic_tag : (h : Heading) (w : Characteristic) → Wherever (λ t. is_axiom t ≡ true) (found_by (word_tag h w))
unfolding number_of
characteristic_tag heading.ObjectProperty character.Functional = refl
characteristic_tag heading.ObjectProperty _ = refl
characteristic_tag heading.DataProperty character.Functional = refl
characteristic_tag heading.DataProperty _ = tt
characteristic_tag _ w = tt

said_tag : (h : Heading) (t : RawTree) → Wherever (λ u. is_axiom u ≡ true) (found_by (word_in h t))
said_tag h (raw at (what.Word w) ts) = characteristic_tag h w
said_tag h (raw at (what.Form f) ts) = tt
said_tag h (raw at (what.Atom a) ts) = tt
said_tag h (raw at (what.Facet f) ts) = tt

stem_axiom : (t : Tag) (r : Told (List Tree)) → is_axiom t ≡ true → Wherever HasAxiomTag (stem t r)
stem_axiom t (Err f) e = tt
stem_axiom t (Ok ts) e = e

takes_axiom : (b : Bool) (at : ℕ) (s : Told Stem) → Wherever HasAxiomTag s → Wherever HasAxiomTag (where_takes b at s)
takes_axiom true at s h = h
takes_axiom false at s h = tt

found_axiom : {X : Type 0} (P : X → Type 0) (at : ℕ) (o : Option X) (says : X → Told Stem) → Wherever P (found_by o) → ((x : X) → P x → Wherever HasAxiomTag (says x)) → Wherever HasAxiomTag (where_found at o says)
found_axiom P at None says h each = tt
found_axiom P at (Some x) says h each = each x h

any_found : {X : Type 0} (at : ℕ) (o : Option X) (says : X → Told Stem) → ((x : X) → Wherever HasAxiomTag (says x)) → Wherever HasAxiomTag (where_found at o says)
any_found at None says each = tt
any_found at (Some x) says each = each x

either_axiom : (b : Bool) (by : ByKind) (r s : Told (List Tree)) → have_axiom_tags by ≡ true → Wherever HasAxiomTag (if b then stem by.data_tag r else stem by.object_tag s)
either_axiom true by r s e = stem_axiom by.data_tag r (second_so (is_axiom by.object_tag) (is_axiom by.data_tag) e)
either_axiom false by r s e = stem_axiom by.object_tag s (first_so (is_axiom by.object_tag) (is_axiom by.data_tag) e)

decided_axiom : (by : ByKind) (between : List Tree) (ms : List Meaning) (r : Told Tree) → have_axiom_tags by ≡ true → Wherever HasAxiomTag (decided by between ms r)
decided_axiom by between ms (Err f) e = tt
decided_axiom by between ms (Ok t) e = either_axiom (is_data t) by (after (t ∷ between) (all_of (all_at by.datas ms))) (after (t ∷ between) (all_of (all_at by.objects ms))) e

property_axiom : (by : ByKind) (between : List Tree) (passed at : ℕ) (ms : List Meaning) → have_axiom_tags by ≡ true → Wherever HasAxiomTag (by_property by between passed at ms)
property_axiom by between passed at [] e = tt
property_axiom by between passed at (m ∷ ms) e = decided_axiom by between (drop passed (m ∷ ms)) (m place.Property) e

stated_axiom : (ks : Knows) (h : Heading) (s : Sentence) (subject : List Tree) (body : RawTree) → are_axiom_tags s ≡ true → Wherever HasAxiomTag (stated ks h s subject body)
stated_axiom ks h (Beside t p) subject body e = stem_axiom t (after subject (one (meant ks body p))) e
stated_axiom ks h (Ahead t p) subject body e = stem_axiom t (in_front (meant ks body p) (Ok subject)) e
stated_axiom ks h (Members t p) subject body e =
    any_found (place_of body) (members_in body) (members_said ks t p subject (place_of body)) (λ ts.
    let kids = after subject (all_of (all_at p (meanings_of ks ts))) in
    takes_axiom (takes t (suc (length subject + length ts))) (place_of body) (stem t kids) (stem_axiom t kids e))
stated_axiom ks h (Properties by) subject body e =
    any_found (place_of body) (members_in body) (λ ts. by_property by [] 1 (place_of body) (meanings_of ks ts)) (λ ts. property_axiom by [] 1 (place_of body) (meanings_of ks ts) e)
stated_axiom ks h Key subject body e =
    any_found (place_of body) (members_in body) (key_said ks subject (place_of body)) (λ ts.
    let kids = after subject (groups (all_of (all_at place.Property (meanings_of ks ts)))) in
    takes_axiom (not (length ts == 0)) (place_of body) (stem tag.HasKey kids) (stem_axiom tag.HasKey kids key_tag))
stated_axiom ks h Fact subject body e =
    found_axiom (λ by. have_axiom_tags by ≡ true) (place_of body) (fact_by body) (fact_said ks subject (place_of body) (parts_of body)) (fact_tag body)
    (λ by f.
    takes_axiom (takes by.object_tag (suc (length subject + length (parts_of body)))) (place_of body) (by_property by subject 1 (place_of body) (meanings_of ks (parts_of body)))
    (property_axiom by subject 1 (place_of body) (meanings_of ks (parts_of body)) f))
stated_axiom ks h Note subject body e =
    any_found (place_of body) (assertion_in body) (note_said ks subject) (λ parts. stem_axiom tag.AnnotationAssertion (in_front (meant ks parts.0 place.AnnotationProperty) (after (map called subject) (one (meant ks parts.1 place.Value)))) assertion_tag)
stated_axiom ks h Word subject body e =
    found_axiom (λ t. is_axiom t ≡ true) (place_of body) (word_in h body) (λ t. Ok (record { tag = t; kids = subject })) (said_tag h body) (λ t f. f)
stated_axiom ks h Wrong subject body e = tt

abbrev IsAxiomTree : Tree → Type 0
IsAxiomTree t = IsTrue (is_axiom (tag_of t))

node_axiom : (n : Told Tree) (s : Told Stem) → Wherever HasAxiomTag s → Wherever IsAxiomTree (node_of (behind n s))
node_axiom (Err f) s h = tt
node_axiom (Ok t) (Err f) h = tt
node_axiom (Ok t) (Ok s) h = h

axiom_tag : (ks : Knows) (h : Heading) (subject : List Tree) (part : RawPart) → Wherever IsAxiomTree (axiom_of ks h subject part)
unfolding axiom_of
axiom_tag ks h subject part =
    node_axiom (meant ks part.notes place.Notes) (stated ks h (sentence_of h part.section) subject part.body)
    (stated_axiom ks h (sentence_of h part.section) subject part.body (sentence_tags h part.section))

declared_axiom : (b : Bool) (t : Tree) → AllByRecursion IsAxiomTree (if b then [] else node tag.Declaration (kids_of (node tag.Notes no_kids ∷ t ∷ [])) ∷ [])
declared_axiom true t = tt
declared_axiom false t = (declaration_tag, tt)

all_ok : (P : Tree → Type 0) (ts : List Tree) → AllByRecursion P ts → AllByRecursion (Wherever P) (map Ok ts)
all_ok P [] h = tt
all_ok P (t ∷ ts) h = (h.0, all_ok P ts h.1)

said_axioms : (ks : Knows) (item : ItemTree) (subject : Told (List Tree)) → AllByRecursion (Wherever IsAxiomTree) (said_of ks item subject)
said_axioms ks item (Err f) = (tt, tt)
said_axioms ks item (Ok subject) =
    all_joined (Wherever IsAxiomTree) (map Ok (flat_map declaration_of subject)) (map (axiom_of ks item.heading subject) item.parts)
    (all_ok IsAxiomTree (flat_map declaration_of subject) (all_flat IsAxiomTree declaration_of (λ t. declared_axiom (is_tag tag.Anonymous (tag_of t)) t) subject))
    (all_mapped (Wherever IsAxiomTree) (axiom_of ks item.heading subject) (axiom_tag ks item.heading subject) item.parts)

item_axioms : (ks : Knows) (item : ItemTree) → AllByRecursion (Wherever IsAxiomTree) (axioms_of ks item)
unfolding axioms_of
item_axioms ks item = said_axioms ks item (subject_of ks item.at (name_place item.heading) item.name)

pub are_axioms : (ks : Knows) (items : List ItemTree) (ts : List Tree) → all_of (flat_map (axioms_of ks) items) ≡ Ok ts → AreAxioms ts
are_axioms ks items ts e =
    at_ok AreAxioms (all_of (flat_map (axioms_of ks) items)) ts (all_told IsAxiomTree (flat_map (axioms_of ks) items) (all_flat (Wherever IsAxiomTree) (axioms_of ks) (item_axioms ks) items)) e
