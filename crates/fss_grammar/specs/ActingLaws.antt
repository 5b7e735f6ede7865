-- Acts by two lists of prefixes: what is done depends on them only by the IRI for which the next token stands.
use Rattle.std.proofs.Common.{◌≡◌, ◌↔◌, ℕ, Bool, true, false, cond, List, [], ◌∷◌, ◌++◌, Option, Some, refl, sym, ap, ◌∙◌}
use Rattle.std.specs.Option.{option_map}
use Rattle.owl_atom.specs.declared.prefixes.Prefix.{Prefix}
use Rattle.rdf_terms.specs.Literals.{LiteralParts}
use Rattle.owl_atom.specs.Prefixes.{prefix_in}
use Rattle.owl_characters.specs.Order.{text_eq}
use Rattle.owl_tokens.specs.declared.token.Token.{Token}
use Rattle.owl_tokens.specs.declared.token.Token.TheVariants as token
use Rattle.owl_tree.specs.declared.atom.Atom.{Atom}
use Rattle.owl_tree.specs.declared.atom.Atom.TheVariants.{Iri, Label, Literal, Number}
use Rattle.owl_tree.specs.declared.row.AtomSort.{AtomSort}
use Rattle.owl_tree.specs.declared.row.AtomSort.TheVariants as atom
use Rattle.owl_tree.specs.declared.tag.Tag.{Tag}
use Rattle.owl_tree.specs.Rows.{Leaf, Node, Row, row_of}
use Rattle.fss_terms.specs.Functional.{IsTableOf, PrefixDeclaration, declaration_of, declared_prefix}
use Rattle.fss_terms.specs.Terms.{BeginsAtom, BeginsLiteral, iri_of_token}
use Rattle.fss_terms.specs.Terms.BeginsLiteral.{plain, tagged, typed}
use Rattle.fss_grammar.specs.Doing.{Acts, prefix_of, prefixes_behind}
use Rattle.fss_grammar.specs.Making.{BeginsConstruct, BeginsLeaf, Comes, ComesAtom, Maker, Performs}
use Rattle.fss_grammar.specs.declared.acts.Act.{Act}
use Rattle.fss_grammar.specs.declared.acts.Act.TheVariants.{Begin, Hold, ImportIri, OntologyIri, Typed, VersionIri}

-- a token stands for the same IRI by both
abbrev pub AgreeOn : List Prefix → List Prefix → Token → Type 0
AgreeOn p q x = iri_of_token p x ≡ iri_of_token q x

-- the token that comes does, if there is one
abbrev pub AgreeAt : List Prefix → List Prefix → Option Token → Type 0
AgreeAt p q next = (x : Token) → next ≡ Some x → AgreeOn p q x

comes_alike : (p q : List Prefix) (next : Option Token) (i : List ℕ) → AgreeAt p q next → Comes p next i → Comes q next i
comes_alike p q next i same it = record { name = it.name; comes = it.comes; stands = sym (same it.name it.comes) ∙ it.stands }

literal_alike : (p q : List Prefix) (x : Token) (l : LiteralParts) → BeginsLiteral p (x ∷ []) l [] → BeginsLiteral q (x ∷ []) l []
literal_alike p q x l (plain form e d) = plain form e d
literal_alike p q x l (tagged form tag e d) = tagged form tag e d
literal_alike p q x l (typed form datatype name e s d) = absurd (cc)

atom_alike : (p q : List Prefix) (x : Token) (a : Atom) → AgreeOn p q x → BeginsAtom p (x ∷ []) a [] → BeginsAtom q (x ∷ []) a []
atom_alike p q x (Iri i) same h =
    let is : x ≡ h.0 = let e = h.1 in cc in
    (h.0, h.1, ap (iri_of_token q) (sym is) ∙ sym same ∙ ap (iri_of_token p) is ∙ h.2)
atom_alike p q x (Label label) same h = h
atom_alike p q x (Literal l) same h = literal_alike p q x l h
atom_alike p q x (Number n) same h = h

comes_atom_alike : (p q : List Prefix) (next : Option Token) (sort : AtomSort) (a : Atom) → AgreeAt p q next → ComesAtom p next sort a → ComesAtom q next sort a
comes_atom_alike p q next sort a same it = record {
  written = it.written;
  comes = it.comes;
  sort_is = it.sort_is;
  stands = atom_alike p q it.written a (same it.written it.comes) it.stands;
  is_atom = it.is_atom;
}

leaf_alike : (p q : List Prefix) (t : Tag) (sort : AtomSort) (next : Option Token) (m n : Maker) → AgreeAt p q next → BeginsLeaf p t sort next m n → BeginsLeaf q t sort next m n
leaf_alike p q t atom.Literal next m n same h = h
leaf_alike p q t atom.Iri next m n same h = (h.0, comes_atom_alike p q next atom.Iri h.0 same h.1, h.2)
leaf_alike p q t atom.Label next m n same h = (h.0, comes_atom_alike p q next atom.Label h.0 same h.1, h.2)
leaf_alike p q t atom.Number next m n same h = (h.0, comes_atom_alike p q next atom.Number h.0 same h.1, h.2)

begins_alike : (p q : List Prefix) (t : Tag) (row : Row) (next : Option Token) (m n : Maker) → AgreeAt p q next → BeginsConstruct p t row next m n → BeginsConstruct q t row next m n
begins_alike p q t (Leaf sort) next m n same h = leaf_alike p q t sort next m n same h
begins_alike p q t (Node front rest) next m n same h = h

pub performs_alike : (p q : List Prefix) (act : Act) (next : Option Token) (m n : Maker) → AgreeAt p q next → Performs p act next m n → Performs q act next m n
performs_alike p q (Begin t) next m n same h = begins_alike p q t (row_of t) next m n same h
performs_alike p q Typed next m n same h = (h.0, comes_alike p q next h.0 same h.1, h.2)
performs_alike p q Hold next m n same h = (h.0, comes_alike p q next h.0 same h.1, h.2, h.3)
performs_alike p q OntologyIri next m n same h = (h.0, comes_alike p q next h.0 same h.1, h.2, h.3)
performs_alike p q VersionIri next m n same h = (h.0, comes_alike p q next h.0 same h.1, h.2, h.3)
performs_alike p q ImportIri next m n same h = (h.0, comes_alike p q next h.0 same h.1, h.2, h.3)
performs_alike p q _ next m n same h = h

-- ---- tables

-- each token stands for the same IRI by both
abbrev pub Agree : List Prefix → List Prefix → Type 0
Agree p q = (x : Token) → AgreeOn p q x

abbrev iri_in : Option Prefix → Option (List ℕ)
iri_in found = option_map (λ (prefix : Prefix). prefix.iri) found

declared_alike : (d : PrefixDeclaration) (found : Option PrefixDeclaration) (others : Option Prefix) (name : List ℕ) (same : Bool) → iri_in (declared_prefix found name) ≡ iri_in others → iri_in (declared_prefix (cond same (Some d) found) name) ≡ iri_in (cond same (Some (prefix_of d)) others)
declared_alike d found others name true e = refl
declared_alike d found others name false e = e

-- a name stands for what is declared first, and else for what is there beforehand
declared_iri : (ds : List PrefixDeclaration) (name : List ℕ) → iri_in (declared_prefix (declaration_of ds name) name) ≡ iri_in (prefix_in (prefixes_behind ds) name)
declared_iri [] name = refl
declared_iri (d ∷ ds) name =
    declared_alike d (declaration_of ds name) (prefix_in (prefixes_behind ds) name) name (text_eq d.name name) (declared_iri ds name)

-- a table of declarations agrees with the plain list of them
pub tables_agree : (ds : List PrefixDeclaration) (p : List Prefix) → IsTableOf ds p → Agree p (prefixes_behind ds)
tables_agree ds p table (token.Name name local) =
    ap (λ i. option_map (λ iri. iri ++ local) i) (ap iri_in (table.each name) ∙ declared_iri ds name)
tables_agree ds p table _ = refl

-- An act by the declarations so far is the act by a table of them.
pub acts_by_table : (p : List Prefix) (act : Act) (next : Option Token) (m n : Maker) → IsTableOf m.document.declarations p → Acts act next m n ↔ Performs p act next m n
acts_by_table p act next m n table =
    let behind = prefixes_behind m.document.declarations in
    let same = tables_agree m.document.declarations p table in
    (performs_alike behind p act next m n (λ x _. sym (same x)), performs_alike p behind act next m n (λ x _. same x))
