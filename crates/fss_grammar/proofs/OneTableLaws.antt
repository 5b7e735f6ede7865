-- What events of a document do by one table of all its declarations they do by the declarations before each name, and back.
use Rattle.std.proofs.Common.{◌≡◌, ◌↔◌, inl, inr, ℕ, true, false, List, [], ◌∷◌, None, Option, Some, refl, sym, ap, ◌∙◌, subst}
use Rattle.std.proofs.lemmas.Bool.{cases_Bool, false≢true, or_parts, true≢false}
use Rattle.grammar.specs.Derivations.{DerivesOf}
use Rattle.grammar.specs.Derivations.Event.{Do, Take}
use Rattle.grammar.specs.declared.symbol.Symbol.TheVariants.{Rule}
use Rattle.owl_atom.specs.declared.prefixes.Prefix.{Prefix}
use Rattle.owl_tokens.specs.declared.token.Token.{Token}
use Rattle.owl_tree.specs.declared.row.AtomSort.{AtomSort}
use Rattle.owl_tree.specs.declared.row.AtomSort.TheVariants as atom
use Rattle.owl_tree.specs.declared.tag.Tag.{Tag}
use Rattle.owl_tree.specs.declared.tag.Tag.TheVariants as tag
use Rattle.owl_tree.specs.Frames.{Frame}
use Rattle.owl_tree.specs.Ontologies.{Ontology, OntologyName}
use Rattle.owl_tree.specs.Rows.{Leaf, Node, Row, row_of}
use Rattle.owl_tree.specs.Tags.{number_of}
use Rattle.owl_tree.specs.Trees.{Tree}
use Rattle.fss_terms.specs.Functional.{IsTableOf, PrefixDeclaration}
use Rattle.fss_grammar.specs.ActingLaws.{Agree, performs_alike, tables_agree}
use Rattle.fss_grammar.specs.Acts.{act_number}
use Rattle.fss_grammar.specs.Classes.{class_of}
use Rattle.fss_grammar.specs.Declaring.{DeclareNothing, declares, is_of_declaration}
use Rattle.fss_grammar.proofs.DeclaringLaws.{DeclareFirst, derivations_declare_first}
use Rattle.fss_grammar.specs.Doing.{Does, prefixes_behind}
use Rattle.fss_grammar.specs.Making.{Adds, BeginsConstruct, BeginsLeaf, Kept, Maker, Makes, MakesHeld, MakesLiteral, Performs, Runs, Shuts, Versions, add_annotation, add_axiom, beginning, next_token, put_in}
use Rattle.fss_grammar.specs.Making.Kept.{iri, item, string}
use Rattle.fss_grammar.specs.Meaning.{Events, between}
use Rattle.fss_grammar.specs.Table.{functional}
use Rattle.fss_grammar.specs.declared.acts.Act.{Act}
use Rattle.fss_grammar.specs.declared.acts.Act.TheVariants.{AddAnnotation, AddAxiom, Begin, DeclareIri, DeclareName, EndItem, HeldDatatype, HeldProperty, Hold, ImportIri, OntologyIri, Plain, Shut, Tagged, Typed, VersionIri}

-- ---- what acts leave as it is

-- the declarations are the same
abbrev pub Keeps : Maker → Maker → Type 0
Keeps m n = m.document.declarations ≡ n.document.declarations

kept_as : (m n k : Maker) → Keeps m k → n ≡ k → Keeps m n
kept_as m n k h e = h ∙ ap (λ (l : Maker). l.document.declarations) (sym e)

put_keeps : (frames : List Frame) (t : Tree) (m : Maker) → Keeps m (put_in frames t m)
put_keeps [] t m = refl
put_keeps (f ∷ frames) t m = refl

leaf_keeps : (p : List Prefix) (t : Tag) (sort : AtomSort) (next : Option Token) (m n : Maker) → BeginsLeaf p t sort next m n → Keeps m n
leaf_keeps p t atom.Literal next m n h = kept_as m n _ refl h.2
leaf_keeps p t atom.Iri next m n h = kept_as m n _ (put_keeps m.frames _ m) h.2
leaf_keeps p t atom.Label next m n h = kept_as m n _ (put_keeps m.frames _ m) h.2
leaf_keeps p t atom.Number next m n h = kept_as m n _ (put_keeps m.frames _ m) h.2

begins_keeps : (p : List Prefix) (t : Tag) (row : Row) (next : Option Token) (m n : Maker) → BeginsConstruct p t row next m n → Keeps m n
begins_keeps p t (Leaf sort) next m n h = leaf_keeps p t sort next m n h
begins_keeps p t (Node front rest) next m n h = kept_as m n _ refl h

shuts_keeps : (frames : List Frame) (m n : Maker) → Shuts frames m n → Keeps m n
shuts_keeps [] m n h = absurd h
shuts_keeps (f ∷ frames) m n h = kept_as m n _ (put_keeps frames _ (record m { frames = frames })) h.1

literal_keeps : (kept : Kept) (datatype language : Option (List ℕ)) (m n : Maker) → MakesLiteral kept datatype language m n → Keeps m n
literal_keeps (string t form) datatype language m n h = kept_as m n _ (put_keeps m.frames _ m) h.3
literal_keeps _ datatype language m n h = absurd h

held_keeps : (kept : Kept) (t : Tag) (m n : Maker) → MakesHeld kept t m n → Keeps m n
held_keeps (iri i) t m n h = kept_as m n _ (put_keeps m.frames _ m) h
held_keeps _ t m n h = absurd h

versions_keeps : (name : Option OntologyName) (i : List ℕ) (m n : Maker) → Versions name i m n → Keeps m n
versions_keeps None i m n h = absurd h
versions_keeps (Some name) i m n h = kept_as m n _ refl h

adds_keeps : (kept : Kept) (add : Tree → Maker → Maker) (m n : Maker) → ((t : Tree) → Keeps m (add t m)) → Adds kept add m n → Keeps m n
adds_keeps (item t) add m n keeps h = kept_as m n _ (keeps t) h
adds_keeps _ add m n keeps h = absurd h

-- no other act than DeclareIri declares
pub performs_keeps : (p : List Prefix) (act : Act) (next : Option Token) (m n : Maker) → declares (act_number act) ≡ false → Performs p act next m n → Keeps m n
performs_keeps p (Begin t) next m n e h = begins_keeps p t (row_of t) next m n h
performs_keeps p Shut next m n e h = shuts_keeps m.frames m n h
performs_keeps p Plain next m n e h = literal_keeps m.kept None None m n h
performs_keeps p Tagged next m n e h = literal_keeps m.kept None (Some h.0) m n h.2
performs_keeps p Typed next m n e h = literal_keeps m.kept (Some h.0) None m n h.2
performs_keeps p Hold next m n e h = kept_as m n _ refl h.3
performs_keeps p HeldProperty next m n e h = held_keeps m.kept tag.DataProperty m n h
performs_keeps p HeldDatatype next m n e h = held_keeps m.kept tag.Datatype m n h
performs_keeps p DeclareName next m n e h = kept_as m n _ refl h.2
performs_keeps p DeclareIri next m n e h = absurd (true≢false e)
performs_keeps p OntologyIri next m n e h = kept_as m n _ refl h.3
performs_keeps p VersionIri next m n e h = versions_keeps m.document.ontology.head.name h.0 m n h.3
performs_keeps p ImportIri next m n e h = kept_as m n _ refl h.3
performs_keeps p AddAnnotation next m n e h = adds_keeps m.kept add_annotation m n (λ t. refl) h
performs_keeps p AddAxiom next m n e h = adds_keeps m.kept add_axiom m n (λ t. refl) h
performs_keeps p EndItem next m n e h = kept_as m n m refl h

-- where nothing is declared, the declarations stay
pub does_keeps : (es : Events) (m n : Maker) → DeclareNothing es → Does es m n → Keeps m n
does_keeps [] m n h d = ap (λ (l : Maker). l.document.declarations) d
does_keeps (Take x ∷ es) m n h d = does_keeps es m n h d
does_keeps (Do a ∷ es) m n h d =
    let no = ap declares d.number_is ∙ h.0 in
    performs_keeps (prefixes_behind m.document.declarations) d.act (next_token es) m d.middle no d.performs ∙ does_keeps es d.middle n h.1 d.later

-- ---- acts by two lists of prefixes

tag_declares_nothing : (t : Tag) → is_of_declaration (number_of t) ≡ false
unfolding number_of
tag_declares_nothing tag.Class = refl
tag_declares_nothing _ = refl

-- in a declaration no name stands for an IRI
declared_alike : (p q : List Prefix) (act : Act) (next : Option Token) (m n : Maker) → is_of_declaration (act_number act) ≡ true → Performs p act next m n → Performs q act next m n
declared_alike p q (Begin t) next m n e h = absurd (false≢true (sym (tag_declares_nothing t) ∙ e))
declared_alike p q DeclareName next m n e h = h
declared_alike p q DeclareIri next m n e h = h
declared_alike p q EndItem next m n e h = h
declared_alike p q _ next m n e h = absurd (false≢true e)

-- an act by two lists, which agree unless it is of a declaration
act_alike : (p q : List Prefix) (a : ℕ) (act : Act) (next : Option Token) (m n : Maker) → act_number act ≡ a → (is_of_declaration a ≡ false → Agree p q) → Performs p act next m n → Performs q act next m n
act_alike p q a act next m n is same h = elim (cases_Bool (is_of_declaration a)) [
  | inl e ↦ declared_alike p q act next m n (ap is_of_declaration is ∙ e) h
  | inr e ↦ performs_alike p q act next m n (λ x _. same e x) h
]

-- ---- events

-- in front of an act that is of no declaration all declarations are there
keeps_from : (q : List Prefix) (a : ℕ) (act : Act) (next : Option Token) (es : Events) (m k n : Maker) → act_number act ≡ a → is_of_declaration a ≡ false → DeclareNothing es → Performs q act next m k → Does es k n → Keeps m n
keeps_from q a act next es m k n is other nothing h d =
    performs_keeps q act next m k (ap declares is ∙ (or_parts (declares a) _ other).0) h ∙ does_keeps es k n nothing d

agree_from : (p : List Prefix) (m n : Maker) → Agree p (prefixes_behind n.document.declarations) → Keeps m n → Agree p (prefixes_behind m.document.declarations)
agree_from p m n same keeps = subst (λ ds. Agree p (prefixes_behind ds)) (sym keeps) same

pub runs_does : (p : List Prefix) (es : Events) (m n : Maker) → DeclareFirst class_of es → Agree p (prefixes_behind n.document.declarations) → Runs p es m n → Does es m n
runs_does p [] m n first same r = r
runs_does p (Take x ∷ es) m n first same r = runs_does p es m n first.1 same r
runs_does p (Do a ∷ es) m n first same r =
    let next = next_token es in
    let later = runs_does p es r.middle n first.1 same r.later in
    record {
      act = r.act;
      number_is = r.number_is;
      middle = r.middle;
      performs =
          act_alike p (prefixes_behind m.document.declarations) a r.act next m r.middle r.number_is
          (λ e. agree_from p m n same (keeps_from p a r.act next es m r.middle n r.number_is e (first.0 e) r.performs later))
          r.performs;
      later = later;
    }

pub does_runs : (p : List Prefix) (es : Events) (m n : Maker) → DeclareFirst class_of es → Agree p (prefixes_behind n.document.declarations) → Does es m n → Runs p es m n
does_runs p [] m n first same d = d
does_runs p (Take x ∷ es) m n first same d = does_runs p es m n first.1 same d
does_runs p (Do a ∷ es) m n first same d =
    let next = next_token es in
    let behind = prefixes_behind m.document.declarations in
    record {
      act = d.act;
      number_is = d.number_is;
      middle = d.middle;
      performs =
          act_alike behind p a d.act next m d.middle d.number_is
          (λ e x. sym (agree_from p m n same (keeps_from behind a d.act next es m d.middle n d.number_is e (first.0 e) d.performs d.later) x))
          d.performs;
      later = does_runs p es d.middle n first.1 same d.later;
    }

-- Events of a document do by the declarations before each name what they do by a table of all.
pub runs_are_done : (p : List Prefix) (tokens : List Token) (es : Events) (n : Maker) → DerivesOf class_of functional (Rule 0 ∷ []) tokens es → IsTableOf n.document.declarations p → Runs p es beginning n ↔ Does es beginning n
runs_are_done p tokens es n d table =
    let first = derivations_declare_first class_of tokens es d in
    let same = tables_agree n.document.declarations p table in
    (runs_does p es beginning n first same, does_runs p es beginning n first same)

pub made_is_done : (p : List Prefix) (tokens : List Token) (es : Events) (ds : List PrefixDeclaration) (o : Ontology) → DerivesOf class_of functional (Rule 0 ∷ []) tokens es → IsTableOf ds p → Makes p es ds o ↔ Does es beginning (between (record { declarations = ds; ontology = o }))
made_is_done p tokens es ds o d table = runs_are_done p tokens es (between (record { declarations = ds; ontology = o })) d table
