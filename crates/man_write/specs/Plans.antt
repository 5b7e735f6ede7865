-- The blocks of axioms, as the program plans them.
use Rattle.std.specs.Prelude.{◌<◌, length, ℕ, Bool, true, false, List, [], ◌∷◌, ◌++◌, codes, map, Option, None, Some}
use Rattle.std.specs.Option.{option_map}
use Rattle.man_raw.specs.declared.document.RawPart.{RawPart}
use Rattle.man_raw.specs.declared.form.Form.{Form}
use Rattle.man_raw.specs.declared.form.Form.TheVariants as form
use Rattle.man_raw.specs.declared.form.What.TheVariants as what
use Rattle.man_raw.specs.declared.heading.Heading.{Heading}
use Rattle.man_raw.specs.declared.heading.Section.{Section}
use Rattle.man_raw.specs.Raws.{RawTree}
use Rattle.man_resolve.specs.declared.sentence.Sentence.{Sentence}
use Rattle.man_resolve.specs.declared.sentence.Sentence.TheVariants.{Beside, Ahead, Members, Properties, Key, Fact, Note, Word, Wrong}
use Rattle.man_resolve.specs.Places.{sentence_of}
use Rattle.man_resolve.specs.Expressions.{Knows}
use Rattle.std.specs.List.{flat_map}
use Rattle.owl_doc.specs.Documents.{Document}
use Rattle.owl_doc.specs.Heads.{iri_in, version_in}
use Rattle.man_text.specs.Blocks.{Block, Where, block_of, a_part, begins_with_chain, characteristic_of, fact_form, frame, in_section, item_of, listed, pair, stated, subject_as, unframed, where_of}
use Rattle.man_text.specs.Text.{body_text, item_text, name_text, parts_text, prefix_line, section_front}
use Rattle.man_text.specs.Undecided.{form_of, piece, undecided}
use Rattle.man_text.specs.Words.{Words, between, colon, heading_class, list_gap, words_of}
use Rattle.man_grammar.specs.declared.class.Class.TheVariants as class
use Rattle.owl_writing.specs.Terms.{full_iri}
use Rattle.owl_atom.specs.declared.prefixes.Prefix.{Prefix}
use Rattle.owl_arena.specs.Held.{AreHeld, tree_at, trees_at}
use Rattle.owl_tree.specs.declared.tag.Tag.{Tag}
use Rattle.owl_tree.specs.declared.tag.Tag.TheVariants as tag
use Rattle.owl_tree.specs.Trees.{Tree, kids_in, leaf, node}
use Rattle.written_trees.specs.Written.{written_form}
use Rattle.man_write.specs.declared.manner.Manner.{Manner}
use Rattle.man_write.specs.declared.manner.Manner.TheVariants as manner
use Rattle.man_write.specs.declared.plan.Body as held
use Rattle.man_write.specs.declared.plan.Body.TheVariants as body
use Rattle.man_write.specs.declared.plan.Plan as plan
use Rattle.man_write.specs.declared.plan.Subject as subjects
use Rattle.man_write.specs.declared.plan.Subject.TheVariants as subject
use Rattle.man_write.specs.declared.listed.Members as members
use Rattle.man_write.specs.Parts.{forms_at, ids_in, joined_from, said_at}

-- how a sentence takes the kids of an axiom with the tag
abbrev pub manner_of : Sentence → Manner
manner_of (Beside u p) = manner.Beside
manner_of (Ahead u p) = manner.Ahead
manner_of (Members tag.DisjointUnion p) = manner.Union
manner_of (Members u p) = manner.Members
manner_of (Properties by) = manner.Members
manner_of Key = manner.Key
manner_of Fact = manner.Fact
manner_of Word = manner.Word
manner_of Note = manner.Bare
manner_of Wrong = manner.Bare

-- an axiom of which nothing is told
abbrev pub bare : Where → Block
bare w = record { heading = w.heading; subject = None; parts = [] }

-- the block of an axiom with these kids, in this manner
abbrev pub stated_as : Manner → Where → Tag → List Tree → Block
stated_as manner.Beside w t (notes ∷ subject ∷ body ∷ []) = frame w subject notes (undecided body)
stated_as manner.Ahead w t (notes ∷ body ∷ subject ∷ []) = frame w subject notes (undecided body)
stated_as manner.Union w t (notes ∷ subject ∷ ts) = frame w subject notes (listed ts)
stated_as manner.Union w t (notes ∷ []) = unframed w notes (listed [])
stated_as manner.Members w t (notes ∷ ts) = unframed w notes (listed ts)
stated_as manner.Key w t (notes ∷ subject ∷ objects ∷ datas ∷ []) = frame w subject notes (listed (kids_in objects ++ kids_in datas))
stated_as manner.Fact w t (notes ∷ property ∷ subject ∷ value ∷ []) = frame w subject notes (pair (fact_form t) property value)
stated_as manner.Word w t (notes ∷ subject ∷ []) = frame w subject notes (piece (what.Word (characteristic_of t)) [])
stated_as _ w t ts = bare w

-- the block of an axiom that is neither a declaration nor an annotation
abbrev pub stated_at : Tag → List Tree → Block
stated_at t ts = let w = where_of t (begins_with_chain ts) in stated w (sentence_of w.heading w.section) t ts

abbrev pub is_chain_tag : Tag → Bool
is_chain_tag tag.ObjectPropertyChain = true
is_chain_tag _ = false

abbrev pub is_chain_node : Tree → Bool
is_chain_node (leaf t a) = false
is_chain_node (node t ks) = is_chain_tag t

-- ---- what the program has

abbrev pub place_seen : plan.Plan → Where
place_seen p = in_section p.heading p.section

abbrev pub members_in : members.Members → List ℕ
members_in m = ids_in m.first ++ ids_in m.others

abbrev pub form_at : List Tree → ℕ → Tree
form_at trees id = written_form (tree_at trees id)

abbrev pub subject_seen : List Tree → subjects.Subject → Tree
subject_seen trees (subject.Held id) = form_at trees id
subject_seen trees (subject.Named kind iri) = subject_as kind iri.now

abbrev pub body_seen : List Tree → held.Body → RawTree
body_seen trees (body.Whole id) = undecided (form_at trees id)
body_seen trees (body.List m) = listed (forms_at trees (members_in m))
body_seen trees (body.Pair f property value) = pair f (form_at trees property) (form_at trees value)
body_seen trees (body.Word w) = piece (what.Word w) []

abbrev pub parts_seen : List Tree → Section → Option (ℕ × held.Body) → List RawPart
parts_seen trees s None = []
parts_seen trees s (Some part) = a_part s (form_at trees part.0) (body_seen trees part.1)

abbrev pub plan_seen : List Tree → plan.Plan → Block
plan_seen trees p = record {
  heading = p.heading;
  subject = option_map (subject_seen trees) p.subject;
  parts = parts_seen trees p.section p.part;
}

-- ---- texts of blocks

abbrev pub block_text : List Prefix → Block → List ℕ
block_text p b = item_text p (item_of b) []

-- the words around the parts of a form in this section
abbrev pub body_words : Section → Form → Words
body_words s form.List = between (list_gap s)
body_words s f = words_of f

abbrev pub body_alone : List Prefix → Section → RawTree → List ℕ
body_alone p s t = body_text p s t []

abbrev pub name_seen : List Prefix → List Tree → Option subjects.Subject → List ℕ
name_seen p trees subject = name_text p (option_map undecided (option_map (subject_seen trees) subject)) []

abbrev pub part_seen : List Prefix → List Tree → Section → Option (ℕ × held.Body) → List ℕ
part_seen p trees s part = parts_text p (parts_seen trees s part) []

-- the texts of the parts of a block, one behind another
abbrev pub told_text : List Prefix → List Tree → Heading → Section → Option subjects.Subject → Option (ℕ × held.Body) → List ℕ
told_text p trees h s subject part = colon (heading_class h) ++ (name_seen p trees subject ++ (part_seen p trees s part ++ codes "\n"))

abbrev pub plan_text : List Prefix → List Tree → plan.Plan → List ℕ
plan_text p trees b = told_text p trees b.heading b.section b.subject b.part

abbrev pub element_text : List Prefix → List Tree → Section → ℕ × held.Body → List ℕ
element_text p trees s part = section_front s ++ (said_at p trees part.0 ++ body_alone p s (body_seen trees part.1))

abbrev pub members_text : List Prefix → List Tree → Words → members.Members → List ℕ
members_text p trees w m = joined_from w 0 (map (said_at p trees) (members_in m))

abbrev pub pair_text : List Prefix → List Tree → Words → ℕ → ℕ → List ℕ
pair_text p trees w a b = w.front ++ (said_at p trees a ++ (w.first ++ (said_at p trees b ++ w.last)))

-- ---- what is planned is there

abbrev pub IsSubjectHeld : List Tree → Option subjects.Subject → Type 0
IsSubjectHeld trees None = Unit {0}
IsSubjectHeld trees (Some (subject.Held id)) = id < length trees
IsSubjectHeld trees (Some (subject.Named kind iri)) = Unit {0}

abbrev pub IsBodyHeld : List Tree → held.Body → Type 0
IsBodyHeld trees (body.Whole id) = id < length trees
IsBodyHeld trees (body.List m) = AreHeld trees (members_in m)
IsBodyHeld trees (body.Pair f a b) = (a < length trees) × (b < length trees)
IsBodyHeld trees (body.Word w) = Unit {0}

abbrev pub IsPartHeld : List Tree → Option (ℕ × held.Body) → Type 0
IsPartHeld trees None = Unit {0}
IsPartHeld trees (Some part) = (part.0 < length trees) × IsBodyHeld trees part.1

pub record IsPlanHeld (trees : List Tree) (p : plan.Plan) : Type 0 where
  pub subject : IsSubjectHeld trees p.subject
  pub part : IsPartHeld trees p.part

-- the node is written as a list
abbrev pub is_list_form : Form → Bool
is_list_form form.List = true
is_list_form _ = false

abbrev pub is_list_node : Tree → Bool
is_list_node (leaf t a) = false
is_list_node (node t ks) = is_list_form (form_of t)

-- the text of the block of an axiom
abbrev pub block_of_text : Knows → List Prefix → Tree → List ℕ
block_of_text ks p t = block_text p (block_of ks t)

-- ---- lines

abbrev pub prefix_text : Prefix → List ℕ
prefix_text prefix = prefix_line prefix []

abbrev pub import_text : List ℕ → List ℕ
import_text iri = colon class.Import ++ (codes " " ++ (full_iri iri ++ codes "\n"))

-- an IRI behind a space, if it is there
abbrev pub iri_spaced : Option (List ℕ) → List ℕ
iri_spaced None = []
iri_spaced (Some iri) = codes " " ++ full_iri iri

abbrev pub header_text : Option (List ℕ) → Option (List ℕ) → List ℕ
header_text iri version = colon class.Ontology ++ (iri_spaced iri ++ (iri_spaced version ++ codes "\n"))

-- the line of the annotations of an ontology
abbrev pub notes_text : List Prefix → List Tree → members.Members → List ℕ
notes_text p trees m = (words_of form.Notes).front ++ (members_text p trees (words_of form.Notes) m ++ codes "\n")

-- the line of these annotations, if there are some
abbrev pub annotations_text : List Prefix → List Tree → List ℕ → List ℕ
annotations_text p trees [] = []
annotations_text p trees (id ∷ ids) =
    (words_of form.Notes).front ++ (joined_from (words_of form.Notes) 0 (map (said_at p trees) (id ∷ ids)) ++ codes "\n")

-- the lines of a document, one after the other
abbrev pub document_lines : Knows → List Prefix → Document → List ℕ
document_lines ks p d =
    flat_map prefix_text p
    ++ (header_text (iri_in d.head.name) (version_in d.head.name)
    ++ (flat_map import_text d.head.imports
    ++ (annotations_text p d.arena.trees d.notes
    ++ flat_map (block_of_text ks p) (trees_at d.arena.trees d.axioms))))
