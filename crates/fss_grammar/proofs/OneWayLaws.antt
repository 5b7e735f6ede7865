-- What is done is done one way.
use Rattle.std.proofs.Common.{◌≡◌, ◌≢◌, ℕ, List, [], ◌∷◌, None, Option, Some, refl, sym, ap, ◌∙◌, subst}
use Rattle.std.proofs.lemmas.Bool.{false≢true}
use Rattle.std.proofs.lemmas.Option.{same_Some}
use Rattle.std.specs.Str.Parse.{digits_value}
use Rattle.grammar.specs.Derivations.Event.{Do, Take}
use Rattle.owl_atom.specs.declared.prefixes.Prefix.{Prefix}
use Rattle.owl_tokens.specs.declared.token.Token.{Token}
use Rattle.owl_tokens.specs.declared.token.Token.TheVariants as token
use Rattle.owl_tree.specs.declared.atom.Atom.{Atom}
use Rattle.owl_tree.specs.declared.atom.Atom.TheVariants.{Iri, Label, Literal, Number}
use Rattle.owl_tree.specs.declared.row.AtomSort.{AtomSort}
use Rattle.owl_tree.specs.declared.row.AtomSort.TheVariants as atom
use Rattle.owl_tree.specs.declared.tag.Tag.{Tag}
use Rattle.owl_tree.specs.declared.tag.Tag.TheVariants as tag
use Rattle.owl_tree.specs.Frames.{Frame}
use Rattle.owl_tree.specs.Ontologies.{OntologyName}
use Rattle.owl_tree.specs.Rows.{Leaf, Node, Row, row_of}
use Rattle.owl_tree.specs.Trees.{Tree, leaf}
use Rattle.fss_terms.specs.Terms.{iri_of_token}
use Rattle.fss_grammar.proofs.ActLaws.{same_act}
use Rattle.fss_grammar.specs.Doing.{Does, prefixes_behind}
use Rattle.rdf_terms.proofs.FormLaws.{one_denoted}
use Rattle.fss_grammar.specs.Making.{Adds, BeginsConstruct, BeginsLeaf, Comes, ComesAtom, Declares, DoneThen, Kept, Maker, MakesHeld, MakesLiteral, Performs, Shuts, Versions, add_annotation, add_axiom, declare, import_iri, name_ontology, next_token, put}
use Rattle.fss_grammar.specs.Making.Kept.{iri, item, prefix, string}
use Rattle.fss_grammar.specs.Meaning.{Events}
use Rattle.fss_grammar.specs.declared.acts.Act.{Act}
use Rattle.fss_grammar.specs.declared.acts.Act.TheVariants.{AddAnnotation, AddAxiom, Begin, DeclareIri, DeclareName, EndItem, HeldDatatype, HeldProperty, Hold, ImportIri, OntologyIri, Plain, Shut, Tagged, Typed, VersionIri}

-- ---- the token that comes

same_iri : (p : List Prefix) (next : Option Token) (i j : List ℕ) → Comes p next i → Comes p next j → i ≡ j
same_iri p next i j h k =
    let name : h.name ≡ k.name = let e = h.comes in let f = k.comes in cc in
    same_Some i j (sym h.stands ∙ ap (iri_of_token p) name ∙ k.stands)

-- the atom of a leaf that is no literal is what comes
iri_comes : (p : List Prefix) (next : Option Token) (a : Atom) → ComesAtom p next atom.Iri a → (i : List ℕ) × Comes p next i × (a ≡ Iri i)
iri_comes p next (Iri i) h =
    let same : h.written ≡ h.stands.0 = let e = h.stands.1 in cc in
    (i, record { name = h.written; comes = h.comes; stands = ap (iri_of_token p) same ∙ h.stands.2 }, refl)
iri_comes p next _ h = absurd (false≢true h.sort_is)

label_comes : (p : List Prefix) (next : Option Token) (a : Atom) → ComesAtom p next atom.Label a → (l : List ℕ) × (next ≡ Some (token.Blank l)) × (a ≡ Label l)
label_comes p next (Label l) h = (l, let e = h.comes in let f = h.stands in cc, refl)
label_comes p next _ h = absurd (false≢true h.sort_is)

number_comes : (p : List Prefix) (next : Option Token) (a : Atom) → ComesAtom p next atom.Number a → (digits : List ℕ) × (next ≡ Some (token.Int digits)) × (a ≡ Number (digits_value 10 digits))
number_comes p next (Number n) h = (h.stands.0, let e = h.comes in let f = h.stands.1 in cc, ap Number h.stands.2)
number_comes p next _ h = absurd (false≢true h.sort_is)

same_atom : (p : List Prefix) (next : Option Token) (sort : AtomSort) (a b : Atom) → sort ≢ atom.Literal → ComesAtom p next sort a → ComesAtom p next sort b → a ≡ b
same_atom p next atom.Iri a b other h k =
    let i = iri_comes p next a h in
    let j = iri_comes p next b k in
    i.2 ∙ ap Iri (same_iri p next i.0 j.0 i.1 j.1) ∙ sym j.2
same_atom p next atom.Label a b other h k =
    let i = label_comes p next a h in
    let j = label_comes p next b k in
    let same : i.0 ≡ j.0 = let e = i.1 in let f = j.1 in cc in
    i.2 ∙ ap Label same ∙ sym j.2
same_atom p next atom.Number a b other h k =
    let i = number_comes p next a h in
    let j = number_comes p next b k in
    let same : i.0 ≡ j.0 = let e = i.1 in let f = j.1 in cc in
    i.2 ∙ ap (λ digits. Number (digits_value 10 digits)) same ∙ sym j.2
same_atom p next atom.Literal a b other h k = absurd (other refl)

-- ---- one act

atom_one_way : (p : List Prefix) (t : Tag) (sort : AtomSort) (next : Option Token) (m n k : Maker) → sort ≢ atom.Literal → (a : Atom) × ComesAtom p next sort a × (n ≡ put (leaf t a) m) → (a : Atom) × ComesAtom p next sort a × (k ≡ put (leaf t a) m) → n ≡ k
atom_one_way p t sort next m n k other h i = h.2 ∙ ap (λ a. put (leaf t a) m) (same_atom p next sort h.0 i.0 other h.1 i.1) ∙ sym i.2

leaf_one_way : (p : List Prefix) (t : Tag) (sort : AtomSort) (next : Option Token) (m n k : Maker) → BeginsLeaf p t sort next m n → BeginsLeaf p t sort next m k → n ≡ k
leaf_one_way p t atom.Literal next m n k h i =
    let same : h.0 ≡ i.0 = let e = h.1 in let f = i.1 in cc in
    h.2 ∙ ap (λ form. record m { kept = string t form }) same ∙ sym i.2
leaf_one_way p t atom.Iri next m n k h i = atom_one_way p t atom.Iri next m n k (λ e. cc) h i
leaf_one_way p t atom.Label next m n k h i = atom_one_way p t atom.Label next m n k (λ e. cc) h i
leaf_one_way p t atom.Number next m n k h i = atom_one_way p t atom.Number next m n k (λ e. cc) h i

begins_one_way : (p : List Prefix) (t : Tag) (row : Row) (next : Option Token) (m n k : Maker) → BeginsConstruct p t row next m n → BeginsConstruct p t row next m k → n ≡ k
begins_one_way p t (Leaf sort) next m n k h i = leaf_one_way p t sort next m n k h i
begins_one_way p t (Node front rest) next m n k h i = h ∙ sym i

shuts_one_way : (frames : List Frame) (m n k : Maker) → Shuts frames m n → Shuts frames m k → n ≡ k
shuts_one_way [] m n k h i = absurd h
shuts_one_way (f ∷ frames) m n k h i = h.1 ∙ sym i.1

literal_one_way : (kept : Kept) (datatype language : Option (List ℕ)) (m n k : Maker) → MakesLiteral kept datatype language m n → MakesLiteral kept datatype language m k → n ≡ k
literal_one_way (string t form) datatype language m n k h i =
    h.3 ∙ ap (λ l. put (leaf t (Literal l)) m) (one_denoted form datatype language h.0 i.0 h.1 i.1) ∙ sym i.3
literal_one_way _ datatype language m n k h i = absurd h

held_one_way : (kept : Kept) (t : Tag) (m n k : Maker) → MakesHeld kept t m n → MakesHeld kept t m k → n ≡ k
held_one_way (iri i) t m n k h j = h ∙ sym j
held_one_way _ t m n k h j = absurd h

declares_one_way : (kept : Kept) (next : Option Token) (m n k : Maker) → Declares kept next m n → Declares kept next m k → n ≡ k
declares_one_way (prefix name) next m n k h i =
    let same : h.0 ≡ i.0 = let e = h.1 in let f = i.1 in cc in
    h.2 ∙ ap (λ j. declare (record { name = name; iri = j }) m) same ∙ sym i.2
declares_one_way _ next m n k h i = absurd h

versions_one_way : (name : Option OntologyName) (i : List ℕ) (m n k : Maker) → Versions name i m n → Versions name i m k → n ≡ k
versions_one_way None i m n k h j = absurd h
versions_one_way (Some name) i m n k h j = h ∙ sym j

adds_one_way : (kept : Kept) (add : Tree → Maker → Maker) (m n k : Maker) → Adds kept add m n → Adds kept add m k → n ≡ k
adds_one_way (item t) add m n k h i = h ∙ sym i
adds_one_way _ add m n k h i = absurd h

-- what an act makes of a maker is told by the maker and the token that comes
pub acts_one_way : (p : List Prefix) (act : Act) (next : Option Token) (m n k : Maker) → Performs p act next m n → Performs p act next m k → n ≡ k
acts_one_way p (Begin t) next m n k h i = begins_one_way p t (row_of t) next m n k h i
acts_one_way p Shut next m n k h i = shuts_one_way m.frames m n k h i
acts_one_way p Plain next m n k h i = literal_one_way m.kept None None m n k h i
acts_one_way p Tagged next m n k h i =
    let same : i.0 ≡ h.0 = let e = h.1 in let f = i.1 in cc in
    literal_one_way m.kept None (Some h.0) m n k h.2 (subst (λ l. MakesLiteral m.kept None (Some l) m k) same i.2)
acts_one_way p Typed next m n k h i =
    let same = same_iri p next i.0 h.0 i.1 h.1 in
    literal_one_way m.kept (Some h.0) None m n k h.2 (subst (λ d. MakesLiteral m.kept (Some d) None m k) same i.2)
acts_one_way p Hold next m n k h i = h.3 ∙ ap (λ j. record m { kept = iri j }) (same_iri p next h.0 i.0 h.1 i.1) ∙ sym i.3
acts_one_way p HeldProperty next m n k h i = held_one_way m.kept tag.DataProperty m n k h i
acts_one_way p HeldDatatype next m n k h i = held_one_way m.kept tag.Datatype m n k h i
acts_one_way p DeclareName next m n k h i =
    let same : h.0 ≡ i.0 = let e = h.1 in let f = i.1 in cc in
    h.2 ∙ ap (λ name. record m { kept = prefix name }) same ∙ sym i.2
acts_one_way p DeclareIri next m n k h i = declares_one_way m.kept next m n k h i
acts_one_way p OntologyIri next m n k h i =
    h.3 ∙ ap (λ j. name_ontology (record { iri = j; version = None }) m) (same_iri p next h.0 i.0 h.1 i.1) ∙ sym i.3
acts_one_way p VersionIri next m n k h i =
    let same = same_iri p next i.0 h.0 i.1 h.1 in
    versions_one_way m.document.ontology.head.name h.0 m n k h.3 (subst (λ j. Versions m.document.ontology.head.name j m k) same i.3)
acts_one_way p ImportIri next m n k h i = h.3 ∙ ap (λ j. import_iri j m) (same_iri p next h.0 i.0 h.1 i.1) ∙ sym i.3
acts_one_way p AddAnnotation next m n k h i = adds_one_way m.kept add_annotation m n k h i
acts_one_way p AddAxiom next m n k h i = adds_one_way m.kept add_axiom m n k h i
acts_one_way p EndItem next m n k h i = h ∙ sym i

-- ---- many events

-- the act of a number makes one thing of m, whatever is done behind it
pub same_middle : (p : List Prefix) (a : ℕ) (next : Option Token) (m : Maker) (Then Else : Maker → Type 0) (h : DoneThen p a next m Then) (i : DoneThen p a next m Else) → h.middle ≡ i.middle
same_middle p a next m Then Else h i =
    let act = same_act i.act h.act (i.number_is ∙ sym h.number_is) in
    acts_one_way p h.act next m h.middle i.middle h.performs (subst (λ b. Performs p b next m i.middle) act i.performs)

pub does_one_way : (events : Events) (m n k : Maker) → Does events m n → Does events m k → n ≡ k
does_one_way [] m n k h i = sym h ∙ i
does_one_way (Take x ∷ events) m n k h i = does_one_way events m n k h i
does_one_way (Do a ∷ events) m n k h i =
    let same = same_middle (prefixes_behind m.document.declarations) a (next_token events) m (λ l. Does events l n) (λ l. Does events l k) h i in
    does_one_way events h.middle n k h.later (subst (λ l. Does events l k) (sym same) i.later)
