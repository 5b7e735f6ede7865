-- An act leaves alone for which IRI the token behind it stands.
use Rattle.std.proofs.Common.{◌≡◌, ◌⊎◌, inl, inr, ℕ, List, [], ◌∷◌, Option, None, Some, refl, sym, ap, ◌∙◌}
use Rattle.std.specs.Prelude.{IfSome}
use Rattle.owl_atom.specs.declared.prefixes.Prefix.{Prefix}
use Rattle.owl_tokens.specs.declared.token.Token.{Token}
use Rattle.owl_tokens.specs.declared.token.Token.TheVariants as token
use Rattle.owl_tree.specs.declared.row.AtomSort.TheVariants as atom
use Rattle.owl_tree.specs.declared.tag.Tag.{Tag}
use Rattle.owl_tree.specs.Frames.{Frame, tree_of}
use Rattle.owl_tree.specs.Ontologies.{OntologyName}
use Rattle.owl_tree.specs.Rows.{Leaf, Node, Row, row_of}
use Rattle.owl_tree.specs.Trees.{Tree}
use Rattle.fss_terms.specs.Functional.{IsTableOf, PrefixDeclaration}
use Rattle.fss_terms.specs.Terms.{iri_of_token}
use Rattle.fss_grammar.specs.ActingLaws.{tables_agree}
use Rattle.fss_grammar.specs.Doing.{prefixes_behind}
use Rattle.fss_grammar.specs.Making.{Adds, BeginsConstruct, Comes, Declares, Kept, Maker, MakesHeld, MakesLiteral, Performs, Shuts, Versions, add_annotation, add_axiom, put_in}
use Rattle.fss_grammar.specs.Making.Kept.{iri, item, nothing, prefix, string}
use Rattle.fss_grammar.specs.declared.acts.Act.{Act}
use Rattle.fss_grammar.specs.declared.acts.Act.TheVariants.{AddAnnotation, AddAxiom, Begin, DeclareIri, DeclareName, EndItem, HeldDatatype, HeldProperty, Hold, ImportIri, OntologyIri, Plain, Shut, Tagged, Typed, VersionIri}
use Rattle.fss_acts.specs.Assembling.{IsComing}

abbrev declared : Maker → List PrefixDeclaration
declared m = m.document.declarations

put_keeps : (frames : List Frame) (t : Tree) (m : Maker) → declared (put_in frames t m) ≡ declared m
put_keeps [] t m = refl
put_keeps (f ∷ fs) t m = refl

by : (m n k : Maker) → n ≡ k → declared k ≡ declared m → declared n ≡ declared m
by m n k e h = ap declared e ∙ h

begins_keep : (p : List Prefix) (t : Tag) (row : Row) (next : Option Token) (m n : Maker) → BeginsConstruct p t row next m n → declared n ≡ declared m
begins_keep p t (Leaf atom.Literal) next m n h = ap declared h.2
begins_keep p t (Leaf atom.Iri) next m n h = ap declared h.2 ∙ put_keeps m.frames _ m
begins_keep p t (Leaf atom.Label) next m n h = ap declared h.2 ∙ put_keeps m.frames _ m
begins_keep p t (Leaf atom.Number) next m n h = ap declared h.2 ∙ put_keeps m.frames _ m
begins_keep p t (Node front rest) next m n h = ap declared h

shuts_keep : (frames : List Frame) (m n : Maker) → Shuts frames m n → declared n ≡ declared m
shuts_keep [] m n h = absurd h
shuts_keep (f ∷ fs) m n h = ap declared h.1 ∙ put_keeps fs (tree_of f) (record m { frames = fs })

literal_keeps : (k : Kept) (datatype language : Option (List ℕ)) (m n : Maker) → MakesLiteral k datatype language m n → declared n ≡ declared m
literal_keeps (string t form) datatype language m n h = ap declared h.3 ∙ put_keeps m.frames _ m
literal_keeps nothing datatype language m n h = absurd h
literal_keeps (iri i) datatype language m n h = absurd h
literal_keeps (prefix name) datatype language m n h = absurd h
literal_keeps (item t) datatype language m n h = absurd h

held_keeps : (k : Kept) (t : Tag) (m n : Maker) → MakesHeld k t m n → declared n ≡ declared m
held_keeps (iri i) t m n h = ap declared h ∙ put_keeps m.frames _ m
held_keeps nothing t m n h = absurd h
held_keeps (string u form) t m n h = absurd h
held_keeps (prefix name) t m n h = absurd h
held_keeps (item u) t m n h = absurd h

versions_keep : (name : Option OntologyName) (i : List ℕ) (m n : Maker) → Versions name i m n → declared n ≡ declared m
versions_keep None i m n h = absurd h
versions_keep (Some name) i m n h = ap declared h

adds_keep : (k : Kept) (add : Tree → Maker → Maker) (m n : Maker) → ((t : Tree) → declared (add t m) ≡ declared m) → Adds k add m n → declared n ≡ declared m
adds_keep (item t) add m n same h = ap declared h ∙ same t
adds_keep nothing add m n same h = absurd h
adds_keep (string u form) add m n same h = absurd h
adds_keep (iri i) add m n same h = absurd h
adds_keep (prefix name) add m n same h = absurd h

comes_full : (k : Kept) (next : Option Token) (m n : Maker) → Declares k next m n → (i : List ℕ) × (next ≡ Some (token.Iri i))
comes_full (prefix name) next m n h = (h.0, h.1)
comes_full nothing next m n h = absurd h
comes_full (string u form) next m n h = absurd h
comes_full (iri i) next m n h = absurd h
comes_full (item t) next m n h = absurd h

-- An act declares a prefix in front of a full IRI alone.
abbrev Keeps : Option Token → Maker → Maker → Type 0
Keeps next m n = (declared n ≡ declared m) ⊎ ((i : List ℕ) × (next ≡ Some (token.Iri i)))

act_keeps : (p : List Prefix) (act : Act) (next : Option Token) (m n : Maker) → Performs p act next m n → Keeps next m n
act_keeps p (Begin t) next m n h = inl (begins_keep p t (row_of t) next m n h)
act_keeps p Shut next m n h = inl (shuts_keep m.frames m n h)
act_keeps p Plain next m n h = inl (literal_keeps m.kept None None m n h)
act_keeps p Tagged next m n h = inl (literal_keeps m.kept None (Some h.0) m n h.2)
act_keeps p Typed next m n h = inl (literal_keeps m.kept (Some h.0) None m n h.2)
act_keeps p Hold next m n h = inl (ap declared h.3)
act_keeps p HeldProperty next m n h = inl (held_keeps m.kept _ m n h)
act_keeps p HeldDatatype next m n h = inl (held_keeps m.kept _ m n h)
act_keeps p DeclareName next m n h = inl (ap declared h.2)
act_keeps p DeclareIri next m n h = inr (comes_full m.kept next m n h)
act_keeps p OntologyIri next m n h = inl (ap declared h.3)
act_keeps p VersionIri next m n h = inl (versions_keep m.document.ontology.head.name h.0 m n h.3)
act_keeps p ImportIri next m n h = inl (ap declared h.3)
act_keeps p AddAnnotation next m n h = inl (adds_keep m.kept add_annotation m n (λ t. refl) h)
act_keeps p AddAxiom next m n h = inl (adds_keep m.kept add_axiom m n (λ t. refl) h)
act_keeps p EndItem next m n h = inl (ap declared h)

-- ---- the IRI of the token

stands_still : (next : Option Token) (m n : Maker) → Keeps next m n → (x : Token) → next ≡ Some x → iri_of_token (prefixes_behind (declared m)) x ≡ iri_of_token (prefixes_behind (declared n)) x
stands_still next m n (inl e) x c = ap (λ (ds : List PrefixDeclaration). iri_of_token (prefixes_behind ds) x) (sym e)
stands_still next m n (inr f) x c =
    let same : token.Iri f.0 ≡ x = let e = sym f.1 ∙ c in cc in
    ap (iri_of_token (prefixes_behind (declared m))) (sym same) ∙ ap (iri_of_token (prefixes_behind (declared n))) same

module _ (old new : List Prefix) (act : Act) (next : Option Token) (m n : Maker) (was : IsTableOf (declared m) old) (is : IsTableOf (declared n) new) (h : Performs (prefixes_behind (declared m)) act next m n) where
  same_iri : (x : Token) → next ≡ Some x → iri_of_token old x ≡ iri_of_token new x
  same_iri x c =
      tables_agree (declared m) old was x ∙ stands_still next m n (act_keeps (prefixes_behind (declared m)) act next m n h) x c ∙ sym (tables_agree (declared n) new is x)

  comes_still : (i : List ℕ) → Comes old next i → Comes new next i
  comes_still i c = record { name = c.name; comes = c.comes; stands = sym (same_iri c.name c.comes) ∙ c.stands }

  made_still : (found : Option (List ℕ)) → IfSome found (λ i. Comes old next i) → IfSome found (λ i. Comes new next i)
  made_still None h = tt
  made_still (Some i) h = comes_still i h

  pub coming_still : (found : Option (List ℕ)) → IsComing old next found → IsComing new next found
  coming_still found c = record {
    token = c.token;
    stands = λ named. let s = c.stands named in record { iri = s.iri; comes = comes_still s.iri s.comes };
    made = made_still found c.made;
  }
