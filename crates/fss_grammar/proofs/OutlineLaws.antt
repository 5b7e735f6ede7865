-- A maker looks as the acts make it that were performed.
use Rattle.std.proofs.Common.{◌≡◌, List, [], ◌∷◌, ◌++◌, map, Option, Some, None, refl, sym, ap, ◌∙◌, subst}
use Rattle.std.proofs.lemmas.List.{map-append}
use Rattle.grammar.specs.Derivations.{Event}
use Rattle.grammar.specs.Derivations.Event.{Do, Take}
use Rattle.grammar.specs.Lowering.{lower}
use Rattle.owl_atom.specs.declared.prefixes.Prefix.{Prefix}
use Rattle.owl_tokens.specs.declared.token.Token.{Token}
use Rattle.owl_tree.specs.declared.row.AtomSort.{AtomSort}
use Rattle.owl_tree.specs.declared.row.AtomSort.TheVariants as atom
use Rattle.owl_tree.specs.declared.tag.Tag.{Tag}
use Rattle.owl_tree.specs.declared.tag.Tag.TheVariants as tag
use Rattle.owl_tree.specs.Frames.{Frame}
use Rattle.owl_tree.specs.Ontologies.{OntologyName}
use Rattle.owl_tree.specs.Rows.{Row, Leaf, Node, row_of}
use Rattle.owl_tree.specs.Trees.{Tree, tag_of}
use Rattle.fss_grammar.specs.Acts.{act_number}
use Rattle.fss_grammar.specs.Making.{Adds, BeginsConstruct, BeginsLeaf, Declares, Kept, Maker, MakesHeld, MakesLiteral, Performs, Shuts, Versions, add_annotation, add_axiom, beginning, put}
use Rattle.fss_grammar.specs.Making.Kept.{iri, item, prefix, string}
use Rattle.fss_grammar.specs.Outlines.{LeadsTo, Naming, Outline, Resembles, frame_outline, kept_outline, literal_by, opened_by, outline_behind, outline_of, put_tag, shut_by}
use Rattle.fss_grammar.specs.Outlines.{KeptOutline as outline}
use Rattle.fss_grammar.specs.declared.acts.Act.{Act}
use Rattle.fss_grammar.specs.declared.acts.Act.TheVariants.{AddAnnotation, AddAxiom, Begin, DeclareIri, DeclareName, EndItem, HeldDatatype, HeldProperty, Hold, ImportIri, OntologyIri, Plain, Shut, Tagged, Typed, VersionIri}

-- ---- one act

put_looks : (t : Tree) (m : Maker) → outline_of (put t m) ≡ put_tag (tag_of t) (outline_of m)
put_looks t m = by m.frames
  where
    by : (frames : List Frame) → outline_of (put t (record m { frames = frames })) ≡ put_tag (tag_of t) (outline_of (record m { frames = frames }))
    by [] = refl
    by (f ∷ frames) =
        ap (λ (kids : List Tag). record (outline_of m) { kept = outline.nothing; frames = record { tag = f.tag; kids = kids } ∷ map frame_outline frames }) (map-append tag_of f.kids (t ∷ []))

-- a leaf or a construct was put
looks_put : (t : Tree) (m n : Maker) → n ≡ put t m → outline_of n ≡ put_tag (tag_of t) (outline_of m)
looks_put t m n e = ap outline_of e ∙ put_looks t m

leaf_looks : (p : List Prefix) (t : Tag) (c : AtomSort) (next : Option Token) (m n : Maker) → BeginsLeaf p t c next m n → outline_of n ≡ opened_by t (Leaf c) (outline_of m)
leaf_looks p t atom.Literal next m n h = ap outline_of h.2
leaf_looks p t atom.Iri next m n h = looks_put _ m n h.2
leaf_looks p t atom.Label next m n h = looks_put _ m n h.2
leaf_looks p t atom.Number next m n h = looks_put _ m n h.2

begun_looks : (p : List Prefix) (t : Tag) (row : Row) (next : Option Token) (m n : Maker) → BeginsConstruct p t row next m n → outline_of n ≡ opened_by t row (outline_of m)
begun_looks p t (Leaf c) next m n h = leaf_looks p t c next m n h
begun_looks p t (Node front rest) next m n h = ap outline_of h

shut_looks : (frames : List Frame) (m n : Maker) → Shuts frames m n → outline_of n ≡ shut_by (map frame_outline frames) (outline_of m)
shut_looks [] m n h = elim h [ ]
shut_looks (f ∷ frames) m n h = looks_put _ (record m { frames = frames }) n h.1

literal_looks : (kept : Kept) (datatype language : Option _) (m n : Maker) → MakesLiteral kept datatype language m n → outline_of n ≡ literal_by (kept_outline kept) (outline_of m)
literal_looks (string t form) datatype language m n h = looks_put _ m n h.3
literal_looks _ datatype language m n h = elim h [ ]

held_looks : (kept : Kept) (t : Tag) (m n : Maker) → MakesHeld kept t m n → outline_of n ≡ put_tag t (outline_of m)
held_looks (iri i) t m n h = looks_put _ m n h
held_looks _ t m n h = elim h [ ]

declared_looks : (kept : Kept) (next : Option Token) (m n : Maker) → Declares kept next m n → outline_of n ≡ record (outline_of m) { kept = outline.nothing }
declared_looks (prefix name) next m n h = ap outline_of h.2
declared_looks _ next m n h = elim h [ ]

versioned_looks : (name : Option OntologyName) (i : _) (m n : Maker) → Versions name i m n → outline_of n ≡ record (outline_of m) { kept = outline.nothing; naming = Naming.versioned }
versioned_looks None i m n h = elim h [ ]
versioned_looks (Some name) i m n h = ap outline_of h

added_looks : (kept : Kept) (add : Tree → Maker → Maker) (m n : Maker) → ((t : Tree) → outline_of (add t m) ≡ record (outline_of m) { kept = outline.nothing }) → Adds kept add m n → outline_of n ≡ record (outline_of m) { kept = outline.nothing }
added_looks (item t) add m n looks h = ap outline_of h ∙ looks t
added_looks _ add m n looks h = elim h [ ]

looks_behind : (p : List Prefix) (act : Act) (next : Option Token) (m n : Maker) → Performs p act next m n → outline_of n ≡ outline_behind act (outline_of m)
looks_behind p (Begin t) next m n h = begun_looks p t (row_of t) next m n h
looks_behind p Shut next m n h = shut_looks m.frames m n h
looks_behind p Plain next m n h = literal_looks m.kept None None m n h
looks_behind p Tagged next m n h = literal_looks m.kept None (Some h.0) m n h.2
looks_behind p Typed next m n h = literal_looks m.kept (Some h.0) None m n h.2
looks_behind p Hold next m n h = ap outline_of h.3
looks_behind p HeldProperty next m n h = held_looks m.kept tag.DataProperty m n h
looks_behind p HeldDatatype next m n h = held_looks m.kept tag.Datatype m n h
looks_behind p DeclareName next m n h = ap outline_of h.2
looks_behind p DeclareIri next m n h = declared_looks m.kept next m n h
looks_behind p OntologyIri next m n h = ap outline_of h.3
looks_behind p VersionIri next m n h = versioned_looks m.document.ontology.head.name h.0 m n h.3
looks_behind p ImportIri next m n h = ap outline_of h.3
looks_behind p AddAnnotation next m n h = added_looks m.kept add_annotation m n (λ t. refl) h
looks_behind p AddAxiom next m n h = added_looks m.kept add_axiom m n (λ t. refl) h
looks_behind p EndItem next m n h = ap outline_of h

-- ---- one event after another

leads_act : (es : List (Event Token)) (o p : Outline) (act : Act) → LeadsTo es o p → LeadsTo (es ++ Do (act_number act) ∷ []) o (outline_behind act p)
leads_act [] o p act h = record { act = act; number_is = refl; later = ap (outline_behind act) h }
leads_act (Take x ∷ es) o p act h = leads_act es o p act h
leads_act (Do a ∷ es) o p act h = record { act = h.act; number_is = h.number_is; later = leads_act es (outline_behind h.act o) p act h.later }

leads_token : (es : List (Event Token)) (o p : Outline) (x : Token) → LeadsTo es o p → LeadsTo (es ++ Take x ∷ []) o p
leads_token [] o p x h = h
leads_token (Take y ∷ es) o p x h = leads_token es o p x h
leads_token (Do a ∷ es) o p x h = record { act = h.act; number_is = h.number_is; later = leads_token es (outline_behind h.act o) p x h.later }

-- the classes of tokens lead where the tokens lead
pub leads_lowered : {X : Type 0} (class_of : X → _) (es : List (Event X)) (o p : Outline) → LeadsTo es o p → LeadsTo (map (lower class_of) es) o p
leads_lowered class_of [] o p h = h
leads_lowered class_of (Take x ∷ es) o p h = leads_lowered class_of es o p h
leads_lowered class_of (Do a ∷ es) o p h = record { act = h.act; number_is = h.number_is; later = leads_lowered class_of es (outline_behind h.act o) p h.later }

pub resembles_beginning : Resembles [] beginning
resembles_beginning = refl

-- an act was performed, with whatever prefixes and whatever token behind it
pub resembles_act : (p : List Prefix) (act : Act) (next : Option Token) (es : List (Event Token)) (m n : Maker) → Resembles es m → Performs p act next m n → Resembles (es ++ Do (act_number act) ∷ []) n
resembles_act p act next es m n looks h =
    subst (LeadsTo (es ++ Do (act_number act) ∷ []) (outline_of beginning)) (sym (looks_behind p act next m n h))
    (leads_act es (outline_of beginning) (outline_of m) act looks)

pub resembles_token : (x : Token) (es : List (Event Token)) (m : Maker) → Resembles es m → Resembles (es ++ Take x ∷ []) m
resembles_token x es m looks = leads_token es (outline_of beginning) (outline_of m) x looks
