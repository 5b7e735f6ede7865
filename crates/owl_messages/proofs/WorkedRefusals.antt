-- What is told of some refusals, worked out by hand.
use lib.Utf8.{encode}
use Rattle.std.specs.Fmt.{digits}
use Rattle.std.specs.Prelude.{◌≡◌, ℕ, List, [], ◌∷◌, codes}
use Rattle.std.proofs.Common.{refl}
use Rattle.owl_kind.specs.declared.kind.Kind.TheVariants.{AnnotationProperty, Datatype}
use Rattle.owl_tree.specs.declared.atom.Atom.TheVariants as atom
use Rattle.owl_tree.specs.declared.tag.Tag.{Tag}
use Rattle.owl_tree.specs.declared.tag.Tag.TheVariants as tag
use Rattle.owl_tree.specs.Rows.{row_of}
use Rattle.owl_tree.specs.Tags.{keyword_of, number_of}
use Rattle.owl_tree.specs.Trees.{Tree, kids_of, leaf, node}
use Rattle.owl_doc.specs.Parts.{of_axiom, of_header}
use Rattle.sayable_parts.specs.Reasons.{inverse_subject, reserved}
use Rattle.rdf_graph.specs.declared.term.Term.TheVariants.{Iri, Blank, Literal}
use Rattle.rdf_graph.specs.declared.triple.Triple.{Triple}
use Rattle.rdf_reverse.specs.declared.fault.ReverseFault.TheVariants as reverse
use Rattle.man_resolve.specs.declared.fault.ResolveFault.TheVariants as resolve
use Rattle.rdf_scans.specs.declared.fault.OutlineFault.TheVariants as outline
use Rattle.rdf_terms.specs.Literals.{with_tag}
use Rattle.owl_messages.specs.Refusals.{two_kinds, undeclared, unsayable}
use Rattle.owl_messages.specs.Outcome.{frames_outcome, graph_outcome, headless, too_heavy_output, too_many_triples}

abbrev over : Tag → List Tree → Tree
over t kids = node t (kids_of kids)

abbrev named : Tag → List ℕ → Tree
named t iri = leaf t (atom.Iri iri)

-- of an axiom, with its IRIs in full
abbrev ranged : Tree
ranged = over tag.DataPropertyRange (over tag.Notes [] ∷ named tag.DataProperty (codes "e:q") ∷ named tag.Datatype (codes "e:D") ∷ [])

undeclared_datatype :
    (undeclared (of_axiom ranged) (record { kind = Datatype; iri = codes "e:D" })).line
    ≡ codes "typing: Undeclared Datatype <e:D>: DataPropertyRange(<e:q> <e:D>)\n"
unfolding encode keyword_of row_of number_of
undeclared_datatype = refl

undeclared_in_header :
    (undeclared (of_header []) (record { kind = AnnotationProperty; iri = codes "e:l" })).line
    ≡ codes "typing: Undeclared AnnotationProperty <e:l>: header\n"
unfolding encode keyword_of
undeclared_in_header = refl

clash : (two_kinds (codes "e:D")).line ≡ codes "typing: TwoKinds <e:D>\n"
unfolding encode
clash = refl

of_an_iri : (unsayable (of_axiom ranged) (reserved (codes "e:D"))).line ≡ codes "target: Reserved <e:D>: DataPropertyRange(<e:q> <e:D>)\n"
unfolding encode keyword_of row_of number_of
of_an_iri = refl

of_no_iri : (unsayable (of_header []) inverse_subject).line ≡ codes "target: InverseSubject: header\n"
unfolding encode
of_no_iri = refl

of_weight : too_heavy_output.line ≡ codes "limit: Weight: output\n"
of_weight = refl

of_triples : too_many_triples.line ≡ codes "limit: Triples: output\n"
of_triples = refl

-- of graphs that say nothing

of_a_label : (graph_outcome (codes "a.ttl") (reverse.Orphan (codes "x"))).line ≡ codes "a.ttl: Orphan _:x\n"
unfolding encode
of_a_label = refl

of_kinds : (graph_outcome (codes "a.ttl") (reverse.TwoKinds (codes "e:D"))).line ≡ codes "a.ttl: TwoKinds <e:D>\n"
unfolding encode
of_kinds = refl

abbrev stated : Triple
stated = record { subject = Blank (codes "x"); predicate = codes "e:p"; object = Literal (with_tag (codes "a b") (codes "en")) }

of_a_triple : (graph_outcome (codes "a.ttl") (reverse.Untyped stated)).line ≡ codes "a.ttl: Untyped _:x <e:p> \"a b\"@en\n"
unfolding encode
of_a_triple = refl

of_a_header : (headless (codes "a.ttl") (outline.BadHeader (Iri (codes "e:o")))).line ≡ codes "a.ttl: BadHeader <e:o>\n"
unfolding encode
of_a_header = refl

of_depth : (graph_outcome (codes "a.ttl") reverse.TooDeep).line ≡ codes "limit: Depth: a.ttl\n"
of_depth = refl

-- of frames that mean nothing

of_a_name : (frames_outcome (codes "a.omn") (resolve.Untyped (codes "e:r") 52)).line ≡ codes "a.omn: Untyped <e:r> at 52\n"
unfolding encode digits
of_a_name = refl

of_a_form : (frames_outcome (codes "a.omn") (resolve.WrongForm 7)).line ≡ codes "a.omn: WrongForm at 7\n"
unfolding digits
of_a_form = refl
