-- A name whose prefix was not declared is taken by no act.
use Rattle.std.proofs.Common.{◌≡◌, inl, inr, ℕ, true, false, List, [], ◌∷◌, ◌++◌, map, None, Option, Some, refl, sym, ap, ◌∙◌, subst}
use Rattle.std.specs.List.{list_any}
use Rattle.std.specs.Option.{option_map}
use Rattle.std.proofs.lemmas.Bool.{false≢true, or_cases}
use Rattle.std.proofs.lemmas.Option.{same_Some}
use Rattle.grammar.specs.Derivations.{Derives, Event}
use Rattle.grammar.specs.Derivations.Event.{Do, Take}
use Rattle.grammar.specs.Lowering.{lower}
use Rattle.grammar.specs.declared.symbol.Symbol.TheVariants.{Rule}
use Rattle.owl_atom.specs.declared.prefixes.Prefix.{Prefix}
use Rattle.owl_atom.specs.Prefixes.{expansion}
use Rattle.owl_reader.specs.Following.{ComesNext}
use Rattle.owl_reader.specs.Steps.{Step, events_of}
use Rattle.owl_tokens.specs.declared.token.Token.{Token}
use Rattle.owl_tokens.specs.declared.token.Token.TheVariants as token
use Rattle.owl_tree.specs.declared.atom.Atom.{Atom}
use Rattle.owl_tree.specs.declared.atom.Atom.TheVariants.{Iri}
use Rattle.owl_tree.specs.declared.row.AtomSort.TheVariants as atom
use Rattle.owl_tree.specs.declared.tag.Tag.{Tag}
use Rattle.owl_tree.specs.declared.tag.Tag.TheVariants as tag
use Rattle.owl_tree.specs.Rows.{Leaf, Row, row_of}
use Rattle.owl_tree.specs.Tags.{number_of}
use Rattle.fss_terms.specs.Terms.{iri_of_token}
use Rattle.fss_grammar.proofs.ActLaws.{same_act}
use Rattle.fss_grammar.specs.Classes.{class_of}
use Rattle.fss_grammar.specs.Declaring.{declares}
use Rattle.fss_grammar.specs.Doing.{prefixes_behind}
use Rattle.fss_grammar.specs.Making.{BeginsConstruct, Comes, ComesAtom, Declares, Kept, Maker, Performs, next_token}
use Rattle.fss_grammar.specs.Making.Kept.{prefix}
use Rattle.fss_grammar.specs.Meaning.{Events}
use Rattle.fss_grammar.proofs.OneTableLaws.{Keeps, performs_keeps}
use Rattle.fss_grammar.specs.Table.{functional}
use Rattle.fss_grammar.specs.declared.acts.Act.{Act}
use Rattle.fss_grammar.specs.declared.acts.Act.TheVariants.{Begin, DeclareIri, DeclareName, Hold, ImportIri, OntologyIri, Typed, VersionIri}
use Rattle.fss_defects.specs.Faults.{ComesUnknown}
use Rattle.fss_defects.proofs.Courses.{Runs}
use Rattle.fss_defects.proofs.Failures.{next_behind}
use Rattle.fss_defects.proofs.Names.{AreOfName, holds_iri, is_short, names_have_acts, takes_iri, used_takes, uses}

-- ---- no IRI comes

-- this name comes, and stands for no IRI
record ComesUnusable (p : List Prefix) (next : Option Token) : Type 0 where
  name : List ℕ
  local : List ℕ
  comes : next ≡ Some (token.Name name local)
  unknown : expansion p name local ≡ None

no_iri : (p : List Prefix) (next : Option Token) (i : List ℕ) → ComesUnusable p next → Comes p next i → ⊥
no_iri p next i u it =
    let same : it.name ≡ token.Name u.name u.local = let e = it.comes in let f = u.comes in cc in
    let stands = ap (iri_of_token p) (sym same) ∙ it.stands in
    let none = u.unknown in
    cc

no_iri_leaf : (p : List Prefix) (next : Option Token) (a : Atom) → ComesUnusable p next → ComesAtom p next atom.Iri a → ⊥
no_iri_leaf p next (Iri i) u it =
    let same : it.written ≡ it.stands.0 = let e = it.stands.1 in cc in
    no_iri p next i u (record { name = it.written; comes = it.comes; stands = ap (iri_of_token p) same ∙ it.stands.2 })
no_iri_leaf p next _ u it = absurd (false≢true it.sort_is)

no_begin : (p : List Prefix) (t : Tag) (row : Row) (next : Option Token) (m n : Maker) → holds_iri row ≡ true → ComesUnusable p next → BeginsConstruct p t row next m n → ⊥
no_begin p t (Leaf atom.Iri) next m n e u h = no_iri_leaf p next h.0 u h.1
no_begin p t _ next m n e u h = absurd (false≢true e)

no_act : (p : List Prefix) (act : Act) (next : Option Token) (m n : Maker) → takes_iri act ≡ true → ComesUnusable p next → Performs p act next m n → ⊥
no_act p (Begin t) next m n e u h = no_begin p t (row_of t) next m n e u h
no_act p Typed next m n e u h = no_iri p next h.0 u h.1
no_act p Hold next m n e u h = no_iri p next h.0 u h.1
no_act p OntologyIri next m n e u h = no_iri p next h.0 u h.1
no_act p VersionIri next m n e u h = no_iri p next h.0 u h.1
no_act p ImportIri next m n e u h = no_iri p next h.0 u h.1
no_act p _ next m n e u h = absurd (false≢true e)

-- ---- nothing is declared in front of a name

tag_declares_nothing : (t : Tag) → declares (number_of t) ≡ false
unfolding number_of
tag_declares_nothing tag.Class = refl
tag_declares_nothing _ = refl

no_declaration : (kept : Kept) (next : Option Token) (m n : Maker) (name local : List ℕ) → next ≡ Some (token.Name name local) → Declares kept next m n → ⊥
no_declaration (prefix other) next m n name local e h = let f = h.1 in cc
no_declaration _ next m n name local e h = h

name_keeps : (p : List Prefix) (act : Act) (next : Option Token) (m n : Maker) (name local : List ℕ) → next ≡ Some (token.Name name local) → Performs p act next m n → Keeps m n
name_keeps p (Begin t) next m n name local e h = performs_keeps p (Begin t) next m n (tag_declares_nothing t) h
name_keeps p DeclareName next m n name local e h = ap (λ (l : Maker). l.document.declarations) (sym h.2)
name_keeps p DeclareIri next m n name local e h = absurd (no_declaration m.kept next m n name local e h)
name_keeps p act next m n name local e h = performs_keeps p act next m n refl h

-- ---- the acts in front of the name

used_by_none : (acts : List ℕ) (later : Events) (m n : Maker) → list_any uses acts ≡ true → ComesUnusable (prefixes_behind m.document.declarations) (next_token later) → Runs (map Do acts ++ later) m n → ⊥
used_by_none [] later m n some u r = absurd (false≢true some)
used_by_none (a ∷ acts) later m n some u r =
    let behind = prefixes_behind m.document.declarations in
    let h = subst (λ x. Performs behind r.act x m r.middle) (next_behind acts later) r.acts in
    let keeps : Keeps m r.middle = name_keeps behind r.act (next_token later) m r.middle u.name u.local u.comes h in
    elim (or_cases (uses a) (list_any uses acts) some) [
      | inl e ↦
          let it = used_takes a e in
          let same = same_act it.act r.act (it.number_is ∙ sym r.number_is) in
          no_act behind r.act (next_token later) m r.middle (ap takes_iri (sym same) ∙ it.takes) u h
      | inr e ↦ used_by_none acts later r.middle n e (subst (λ ds. ComesUnusable (prefixes_behind ds) (next_token later)) keeps u) r.later
    ]

short_class : (name local : List ℕ) → is_short (class_of (token.Name name local)) ≡ true
unfolding class_of
short_class name [] = refl
short_class name (c ∷ cs) = refl

acts_of_name : (classes : List ℕ) (steps : List (Step Token)) (acts : List ℕ) (name local : List ℕ) (rest : List (Event ℕ)) → Derives functional (Rule 0 ∷ []) classes (map (lower class_of) (events_of steps) ++ (map Do acts ++ rest)) → ComesNext rest (Some (class_of (token.Name name local))) → AreOfName acts
acts_of_name classes steps acts name local [] d e = absurd (cc)
acts_of_name classes steps acts name local (Take c ∷ rest) d e =
    names_have_acts classes steps acts c rest d (ap is_short (same_Some c (class_of (token.Name name local)) (sym e)) ∙ short_class name local)
acts_of_name classes steps acts name local (Do a ∷ rest) d e = absurd e

-- no document has a name of an unknown prefix
pub unknown_is_unused : (classes : List ℕ) (steps : List (Step Token)) (acts : List ℕ) (next : Option Token) (rest : List (Event ℕ)) (later : Events) (m n : Maker) → Derives functional (Rule 0 ∷ []) classes (map (lower class_of) (events_of steps) ++ (map Do acts ++ rest)) → ComesNext rest (option_map class_of next) → next_token later ≡ next → ComesUnknown acts next m → Runs (map Do acts ++ later) m n → ⊥
unknown_is_unused classes steps acts next rest later m n d comes e u r =
    let class = ap (λ x. option_map class_of x) u.comes in
    elim (acts_of_name classes steps acts u.name u.local rest d (subst (ComesNext rest) class comes)) [
      | inl some ↦ used_by_none acts later m n some (record { name = u.name; local = u.local; comes = e ∙ u.comes; unknown = u.unknown }) r
      | inr only ↦ u.uses only
    ]
