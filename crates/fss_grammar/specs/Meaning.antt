-- What the rules for trees mean: trees that are written, and what is done makes them.
use Rattle.std.specs.Prelude.{◌≡◌, ℕ, Bool, true, false, not, List, [], ◌∷◌, ◌++◌, flat_map, map, IfSome, IsTrue, None, Option, Some, slice_get}
use Rattle.std.specs.List.{AllByRecursion, list_all}
use Rattle.grammar.specs.Derivations.{Event}
use Rattle.grammar.specs.Derivations.Event.{Take}
use Rattle.grammar.specs.Pages.{numbered}
use Rattle.grammar.proofs.YieldLaws.{Means}
use Rattle.owl_characters.specs.Iri.{IsIri}
use Rattle.owl_atom.specs.declared.prefixes.Prefix.{Prefix}
use Rattle.rdf_terms.specs.Literals.{IsLiteral, LiteralParts}
use Rattle.owl_tokens.specs.declared.token.Token.{Token}
use Rattle.owl_tokens.specs.declared.token.Token.TheVariants as token
use Rattle.owl_tree.specs.declared.atom.Atom.TheVariants.{Literal}
use Rattle.owl_tree.specs.declared.row.Rest.TheVariants.{Optional}
use Rattle.owl_tree.specs.declared.row.Sort.{Sort}
use Rattle.owl_tree.specs.declared.row.Sort.TheVariants as sort
use Rattle.owl_tree.specs.declared.tag.Tag.{Tag}
use Rattle.owl_tree.specs.declared.tag.Tag.TheVariants as tag
use Rattle.owl_tree.specs.Ontologies.{IsName, Ontology, OntologyName}
use Rattle.owl_tree.specs.Rows.{admits, ends_in, fits_rest, is_tag}
use Rattle.owl_tree.specs.Shape.{AreShaped}
use Rattle.owl_tree.specs.Trees.{Tree, kids_of, leaf, tag_of}
use Rattle.fss_terms.specs.Functional.{IsWrittenAnnotation, IsWrittenAxiom, IsWrittenOntology, PrefixDeclaration, declaration_tokens, import_terms, item_terms, name_terms, ontology_terms, version_terms}
use Rattle.fss_terms.specs.Spelling.{HaveMembers, spellings}
use Rattle.fss_terms.specs.Terms.{AreTerms, BeginsLiteral, iri_of_token}
use Rattle.fss_terms.specs.declared.term.Term.{Term}
use Rattle.fss_grammar.specs.Classes.{class_of}
use Rattle.fss_grammar.specs.Making.{Document, Kept, Maker, Runs, add_annotation, add_axiom, beginning, declare, import_iri, name_ontology}
use Rattle.owl_tree.specs.Frames.{Frame}
use Rattle.fss_grammar.specs.Making.Kept.{iri, nothing, string}
use Rattle.fss_grammar.specs.Page.{Names, Rule, is_entity, page, rules}
use Rattle.fss_grammar.specs.Page.Rule.{after, annotations, axiom_item, axioms, behind, document, header, imports, iri_part, many, maybe, one, prefixes, suffix, version}

abbrev pub Events : Type 0
Events = List (Event Token)

-- a maker within a construct
abbrev pub within_keeping : Kept → Frame → List Frame → Document → Maker
within_keeping k f frames d = record { kept = k; frames = f ∷ frames; document = d }

abbrev pub within : Frame → List Frame → Document → Maker
within f frames d = within_keeping nothing f frames d

abbrev pub with_kids : List Tree → Frame → Frame
with_kids ts f = record f { kids = f.kids ++ ts }

-- Trees were read: they are written by these tokens, and were put into the innermost construct.
pub record Parsed (p : List Prefix) (Fit : List Tree → Type 0) (In : Tag → Type 0) (xs : List Token) (f : Frame) (frames : List Frame) (d : Document) (fs : Events) (n : Maker) : Type 0 where
  pub trees : List Tree
  pub fit : Fit trees
  pub shaped : AreShaped (kids_of trees)
  pub members : HaveMembers (kids_of trees)
  pub spelled : (t : Tag) → In t → (us : List Token) (more : List Term) → AreTerms p us more → AreTerms p (xs ++ us) (spellings t (kids_of trees) more)
  pub runs : Runs p fs (within (with_kids trees f) frames d) n

-- Wherever the events run, trees are read.
abbrev pub Parses : List Prefix → (List Tree → Type 0) → (Tag → Type 0) → List Token → Events → Type 0
Parses p Fit In xs es =
    (fs : Events) (f : Frame) (frames : List Frame) (d : Document) (n : Maker) → Runs p (es ++ fs) (within f frames d) n → Parsed p Fit In xs f frames d fs n

abbrev pub FitsOne : Sort → List Tree → Type 0
FitsOne s [] = ⊥
FitsOne s (t ∷ []) = IsTrue (admits s (tag_of t))
FitsOne s (t ∷ u ∷ ts) = ⊥

abbrev pub FitsMany : Sort → List Tree → Type 0
FitsMany s ts = IsTrue (list_all (admits s) (map tag_of ts))

abbrev pub FitsMaybe : Sort → List Tree → Type 0
FitsMaybe s ts = IsTrue (fits_rest (Optional s) (map tag_of ts))

-- behind a data property they are data properties and then a data range
abbrev pub FitsAfter : List Tree → Type 0
FitsAfter ts =
    (t : Tag) → IsTrue (admits sort.DataPropertyExpression t) → IsTrue (ends_in sort.DataPropertyExpression sort.DataRange (t ∷ map tag_of ts))

abbrev pub agree : Bool → Bool → Bool
agree true b = b
agree false b = not b

-- The leaves of a Declaration stand in the brackets of their keyword, and no others do.
abbrev pub suits : Sort → Tag → Bool
suits sort.Notes t = true
suits s t = agree (is_entity s) (is_tag tag.Declaration t)

abbrev pub Suits : Sort → Tag → Type 0
Suits s t = IsTrue (suits s t)

-- a literal was read behind its string
pub record ParsedLiteral (p : List Prefix) (t : Tag) (form : List ℕ) (xs : List Token) (f : Frame) (frames : List Frame) (d : Document) (fs : Events) (n : Maker) : Type 0 where
  pub literal : LiteralParts
  pub is_literal : IsLiteral literal
  pub begins : (us : List Token) → BeginsLiteral p (token.Str form ∷ (xs ++ us)) literal us
  pub runs : Runs p fs (within (with_kids (leaf t (Literal literal) ∷ []) f) frames d) n

abbrev pub ParsesLiteral : List Prefix → List Token → Events → Type 0
ParsesLiteral p xs es =
    (t : Tag) (form : List ℕ) (fs : Events) (f : Frame) (frames : List Frame) (d : Document) (n : Maker) → Runs p (es ++ fs) (within_keeping (string t form) f frames d) n → ParsedLiteral p t form xs f frames d fs n

-- Behind a name that was kept the tokens tell what it is.
abbrev pub ParsesBehind : List Prefix → List Token → Events → Type 0
ParsesBehind p xs es =
    (x : Token) (i : List ℕ) → iri_of_token p x ≡ Some i → IsIri i → (fs : Events) (f : Frame) (frames : List Frame) (d : Document) (n : Maker) → Runs p (es ++ fs) (within_keeping (iri i) f frames d) n → Parsed p FitsAfter (Suits sort.DataRange) (x ∷ xs) f frames d fs n

-- one token
pub record IsOneToken (xs : List Token) (es : Events) : Type 0 where
  pub name : Token
  pub tokens_are : xs ≡ name ∷ []
  pub events_are : es ≡ Take name ∷ []

-- ---- items of the document

-- a maker between two items
abbrev pub between : Document → Maker
between d = record { kept = nothing; frames = []; document = d }

-- something was read: it is written by these tokens, and this was made of it
pub record Read (p : List Prefix) {A : Type 0} (Good : A → Type 0) (spell : A → List Term → List Term) (made : A → Document) (xs : List Token) (fs : Events) (n : Maker) : Type 0 where
  pub value : A
  pub good : Good value
  pub spelled : (us : List Token) (more : List Term) → AreTerms p us more → AreTerms p (xs ++ us) (spell value more)
  pub runs : Runs p fs (between (made value)) n

abbrev pub IsReadAs : List Prefix → {A : Type 0} → (A → Type 0) → (A → List Term → List Term) → (A → Document → Document) → List Token → Events → Type 0
IsReadAs p Good spell add xs es = (fs : Events) (d : Document) (n : Maker) → Runs p (es ++ fs) (between d) n → Read p Good spell (λ a. add a d) xs fs n

-- many of them, each added in turn
abbrev pub all_added : {A : Type 0} → (A → Document → Document) → List A → Document → Document
all_added add [] d = d
all_added add (a ∷ others) d = all_added add others (add a d)

abbrev pub ReadsOne : List Prefix → {A : Type 0} → (A → Type 0) → (A → List Term) → (A → Document → Document) → List Token → Events → Type 0
ReadsOne p Good terms add xs es = IsReadAs p Good (λ a more. terms a ++ more) add xs es

abbrev pub ReadsMany : List Prefix → {A : Type 0} → (A → Type 0) → (A → List Term) → (A → Document → Document) → List Token → Events → Type 0
ReadsMany p Good terms add xs es = IsReadAs p (AllByRecursion Good) (λ all more. flat_map terms all ++ more) (all_added add) xs es

abbrev pub naming : OntologyName → Document → Document
naming name d = (name_ontology name (between d)).document

abbrev pub importing : List ℕ → Document → Document
importing i d = (import_iri i (between d)).document

abbrev pub annotating : Tree → Document → Document
annotating t d = (add_annotation t (between d)).document

abbrev pub asserting : Tree → Document → Document
asserting t d = (add_axiom t (between d)).document

abbrev pub declaring : PrefixDeclaration → Document → Document
declaring declaration d = (declare declaration (between d)).document

abbrev pub naming_if : Option OntologyName → Document → Document
naming_if None d = d
naming_if (Some name) d = naming name d

abbrev pub IsNamed : Option OntologyName → Type 0
IsNamed name = IfSome name IsName

-- the version behind the IRI of the ontology
abbrev pub ReadsVersion : List Prefix → List Token → Events → Type 0
ReadsVersion p xs es =
    (i : List ℕ) (fs : Events) (d : Document) (n : Maker) → Runs p (es ++ fs) (between (naming (record { iri = i; version = None }) d)) n → Read p (λ v. IfSome v IsIri) (λ v more. version_terms v ++ more) (λ v. naming (record { iri = i; version = v }) d) xs fs n

-- declarations were read
pub record ReadDeclarations (p : List Prefix) (xs : List Token) (d : Document) (fs : Events) (n : Maker) : Type 0 where
  pub declarations : List PrefixDeclaration
  pub are : xs ≡ flat_map declaration_tokens declarations
  pub runs : Runs p fs (between (all_added declaring declarations d)) n

-- a whole document was read
pub record ReadDocument (p : List Prefix) (xs : List Token) (n : Maker) : Type 0 where
  pub declarations : List PrefixDeclaration
  pub ontology : Ontology
  pub body : List Token
  pub parts : xs ≡ flat_map declaration_tokens declarations ++ body
  pub terms : AreTerms p body (ontology_terms ontology)
  pub written : IsWrittenOntology ontology
  pub made : n ≡ between (record { declarations = declarations; ontology = ontology })

-- ---- the rules

abbrev pub RuleMeans : List Prefix → Rule → List Token → Events → Type 0
RuleMeans p document xs es = (n : Maker) → Runs p es beginning n → ReadDocument p xs n
RuleMeans p prefixes xs es = (fs : Events) (d : Document) (n : Maker) → Runs p (es ++ fs) (between d) n → ReadDeclarations p xs d fs n
RuleMeans p header xs es = IsReadAs p IsNamed (λ name more. name_terms name ++ more) naming_if xs es
RuleMeans p version xs es = ReadsVersion p xs es
RuleMeans p imports xs es = ReadsMany p IsIri import_terms importing xs es
RuleMeans p annotations xs es = ReadsMany p IsWrittenAnnotation item_terms annotating xs es
RuleMeans p axioms xs es = ReadsMany p IsWrittenAxiom item_terms asserting xs es
RuleMeans p axiom_item xs es = ReadsOne p IsWrittenAxiom item_terms asserting xs es
RuleMeans p iri_part xs es = IsOneToken xs es
RuleMeans p suffix xs es = ParsesLiteral p xs es
RuleMeans p after xs es = Parses p FitsAfter (Suits sort.DataRange) xs es
RuleMeans p behind xs es = ParsesBehind p xs es
RuleMeans p (one s) xs es = Parses p (FitsOne s) (Suits s) xs es
RuleMeans p (many s) xs es = Parses p (FitsMany s) (Suits s) xs es
RuleMeans p (maybe s) xs es = Parses p (FitsMaybe s) (Suits s) xs es

-- the rule of a number means this
abbrev pub MeansAt : List Prefix → ℕ → List Token → Events → Type 0
MeansAt p n xs es = (r : Rule) → slice_get rules n ≡ Some r → RuleMeans p r xs es

abbrev pub NamesMean : List Prefix → Names → List Token → Events → Type 0
NamesMean p names xs es = Means class_of (MeansAt p) (map (numbered page) names) xs es
