-- What acts need to be kept in front of them.
use Rattle.std.proofs.Common.{◌≡◌, List, ℕ, Option}
use Rattle.owl_tokens.specs.declared.token.Token.{Token}
use Rattle.owl_tree.specs.declared.tag.Tag.{Tag}
use Rattle.owl_tree.specs.Rows.{Leaf, Node, Row, row_of}
use Rattle.owl_tree.specs.Trees.{Tree}
use Rattle.fss_grammar.specs.Making.{Kept, Maker}
use Rattle.fss_grammar.specs.Making.Kept.{iri, item, nothing, prefix, string}
use Rattle.fss_grammar.specs.Ready.{IsReady, IsReadyToBegin}
use Rattle.fss_grammar.specs.declared.acts.Act.{Act}
use Rattle.fss_grammar.specs.declared.acts.Act.TheVariants.{AddAnnotation, AddAxiom, Begin, DeclareIri, DeclareName, EndItem, HeldDatatype, HeldProperty, Hold, ImportIri, OntologyIri, Plain, Shut, Tagged, Typed, VersionIri}

abbrev pub KeepsString : Kept → Type 0
KeepsString kept = (t : Tag) × (form : List ℕ) × (kept ≡ string t form)

abbrev pub KeepsIri : Kept → Type 0
KeepsIri kept = (i : List ℕ) × (kept ≡ iri i)

abbrev pub KeepsItem : Kept → Type 0
KeepsItem kept = (t : Tree) × (kept ≡ item t)

-- An act takes what is kept, or else nothing is kept in front of it. The end of an item leaves it as it is.
abbrev pub Needs : Act → Kept → Type 0
Needs Plain kept = KeepsString kept
Needs Tagged kept = KeepsString kept
Needs Typed kept = KeepsString kept
Needs HeldProperty kept = KeepsIri kept
Needs HeldDatatype kept = KeepsIri kept
Needs DeclareIri kept = (name : List ℕ) × (kept ≡ prefix name)
Needs AddAnnotation kept = KeepsItem kept
Needs AddAxiom kept = KeepsItem kept
Needs EndItem kept = Unit {0}
Needs _ kept = kept ≡ nothing

begin_needs : (row : Row) (next : Option Token) (m : Maker) → IsReadyToBegin row next m → m.kept ≡ nothing
begin_needs (Leaf sort) next m h = h.0.nothing_kept
begin_needs (Node front rest) next m h = h

pub ready_needs : (act : Act) (next : Option Token) (m : Maker) → IsReady act next m → Needs act m.kept
ready_needs (Begin t) next m h = begin_needs (row_of t) next m h
ready_needs Shut next m h = h.nothing_kept
ready_needs Plain next m h = (h.tag, h.form, h.keeps)
ready_needs Tagged next m h = (h.0.tag, h.0.form, h.0.keeps)
ready_needs Typed next m h = (h.0.tag, h.0.form, h.0.keeps)
ready_needs Hold next m h = h.0.nothing_kept
ready_needs HeldProperty next m h = (h.kept, h.keeps)
ready_needs HeldDatatype next m h = (h.kept, h.keeps)
ready_needs DeclareName next m h = h.0.nothing_kept
ready_needs DeclareIri next m h = (h.name, h.keeps)
ready_needs OntologyIri next m h = h.0.nothing_kept
ready_needs VersionIri next m h = h.0.nothing_kept
ready_needs ImportIri next m h = h.0.nothing_kept
ready_needs AddAnnotation next m h = (h.tree, h.keeps)
ready_needs AddAxiom next m h = (h.tree, h.keeps)
ready_needs EndItem next m h = tt
