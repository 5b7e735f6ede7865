-- A prefix that is declared wrongly, or twice, stays so.
use Rattle.std.proofs.Common.{◌≡◌, inl, inr, ℕ, Bool, true, false, cond, List, [], ◌∷◌, ◌++◌, map, Option, Some, refl, sym, ap, ◌∙◌, subst}
use Rattle.std.specs.Prelude.{Contains, IsSome}
use Rattle.std.proofs.lemmas.Bool.{false≢true}
use Rattle.std.proofs.lemmas.List.{map-append}
use Rattle.std.proofs.lemmas.List.Elements.{Contains-append_left, Contains-append_right}
use Rattle.std.proofs.lemmas.Slice.Eq.{bytes_eq-Decides}
use Rattle.owl_atom.specs.declared.prefixes.Prefix.{Prefix}
use Rattle.owl_characters.specs.Order.{text_eq}
use Rattle.owl_list.specs.Ascending.{AreApart}
use Rattle.owl_list.proofs.AscendingLaws.{all_in, in_cases, in_head, in_none, in_tail}
use Rattle.owl_tokens.specs.declared.token.Token.{Token}
use Rattle.fss_terms.specs.Functional.{AreDeclarable, IsDeclarable, PrefixDeclaration, declaration_of}
use Rattle.fss_grammar.specs.Making.{Declares, Document, Kept, Maker, Performs, declare}
use Rattle.fss_grammar.specs.Making.Kept.{prefix}
use Rattle.fss_grammar.specs.Meaning.{between}
use Rattle.fss_grammar.specs.declared.acts.Act.{Act}
use Rattle.fss_grammar.specs.declared.acts.Act.TheVariants.{AddAnnotation, AddAxiom, DeclareIri, EndItem, HeldDatatype, HeldProperty, Plain, Tagged, Typed}
use Rattle.fss_defects.proofs.Courses.{StepKeeps}
use Rattle.fss_defects.proofs.Growths.{Extends, acts_grow}
use Rattle.fss_defects.proofs.Needs.{Needs, ready_needs}

abbrev pub names_of : List PrefixDeclaration → List (List ℕ)
names_of ds = map (λ (d : PrefixDeclaration). d.name) ds

-- ---- a declaration that may not be

pub record DeclaresWrongly (m : Maker) : Type 0 where
  pub declaration : PrefixDeclaration
  pub there : Contains m.document.declarations declaration
  pub wrong : IsDeclarable declaration → ⊥

pub wrong_stays : StepKeeps DeclaresWrongly
wrong_stays p act next m n ready h it =
    let grow = (acts_grow p act next m n h).declarations in
    record {
      declaration = it.declaration;
      there = subst (λ (l : List PrefixDeclaration). Contains l it.declaration) (sym grow.1) (Contains-append_left m.document.declarations grow.0 it.declaration it.there);
      wrong = it.wrong;
    }

pub wrong_ends : (document : Document) → AreDeclarable document.declarations → DeclaresWrongly (between document) → ⊥
wrong_ends document are it = it.wrong (all_in IsDeclarable document.declarations it.declaration are.each it.there)

-- ---- a name that is declared twice

apart_before : (xs ys : List (List ℕ)) → AreApart (xs ++ ys) → AreApart xs
apart_before [] ys h = tt
apart_before (x ∷ xs) ys h = (λ k. h.0 (Contains-append_left xs ys x k), apart_before xs ys h.1)

apart_again : (xs : List (List ℕ)) (x : List ℕ) → Contains xs x → AreApart (xs ++ x ∷ []) → ⊥
apart_again [] x k h = in_none x k
apart_again (y ∷ xs) x k h = elim (in_cases y xs x k) [
  | inl e ↦ h.0 (subst (λ (z : List ℕ). Contains (xs ++ x ∷ []) z) (sym e) (Contains-append_right xs (x ∷ []) x (in_head x [])))
  | inr l ↦ apart_again xs x l h.1
]

named_first : (d : PrefixDeclaration) (ds : List PrefixDeclaration) (name : List ℕ) (same : Bool) → text_eq d.name name ≡ same → (IsSome (declaration_of ds name) → Contains (names_of ds) name) → IsSome (cond same (Some d) (declaration_of ds name)) → Contains (d.name ∷ names_of ds) name
named_first d ds name true e later h = subst (λ (z : List ℕ). Contains (d.name ∷ names_of ds) z) ((bytes_eq-Decides d.name name).0 e) (in_head d.name (names_of ds))
named_first d ds name false e later h = in_tail d.name (names_of ds) name (later h)

-- a name that has a declaration is among the names
declared_is_named : (ds : List PrefixDeclaration) (name : List ℕ) → IsSome (declaration_of ds name) → Contains (names_of ds) name
declared_is_named [] name h = absurd (false≢true h)
declared_is_named (d ∷ ds) name h = named_first d ds name (text_eq d.name name) refl (declared_is_named ds name) h

pub data DeclaresTwice (m : Maker) : Type 0 where
  coming : (name : List ℕ) → m.kept ≡ prefix name → IsSome (declaration_of m.document.declarations name) → DeclaresTwice m
  there : (AreApart (names_of m.document.declarations) → ⊥) → DeclaresTwice m

twice_longer : (ds es : List PrefixDeclaration) → Extends ds es → (AreApart (names_of ds) → ⊥) → AreApart (names_of es) → ⊥
twice_longer ds es it not apart =
    let names : names_of es ≡ names_of ds ++ names_of it.0 = ap names_of it.1 ∙ map-append (λ (d : PrefixDeclaration). d.name) ds it.0 in
    not (apart_before (names_of ds) (names_of it.0) (subst AreApart names apart))

declared_twice : (kept : Kept) (name : List ℕ) (next : Option Token) (m n : Maker) → kept ≡ prefix name → IsSome (declaration_of m.document.declarations name) → Declares kept next m n → DeclaresTwice n
declared_twice (prefix other) name next m n e some h =
    let same : name ≡ other = cc in
    let d : PrefixDeclaration = record { name = other; iri = h.0 } in
    let ds = m.document.declarations in
    let inside = subst (λ (z : List ℕ). Contains (names_of ds) z) same (declared_is_named ds name some) in
    let names : names_of (ds ++ d ∷ []) ≡ names_of ds ++ other ∷ [] = map-append (λ (d : PrefixDeclaration). d.name) ds (d ∷ []) in
    let twice : DeclaresTwice (declare d m) = there (λ apart. apart_again (names_of ds) other inside (subst AreApart names apart)) in
    subst DeclaresTwice (sym h.2) twice
declared_twice _ name next m n e some h = absurd h

act_coming : (p : List Prefix) (act : Act) (next : Option Token) (m n : Maker) (name : List ℕ) → Needs act m.kept → m.kept ≡ prefix name → IsSome (declaration_of m.document.declarations name) → Performs p act next m n → DeclaresTwice n
act_coming p Plain next m n name need e some h = absurd (let f = need.2 in cc)
act_coming p Tagged next m n name need e some h = absurd (let f = need.2 in cc)
act_coming p Typed next m n name need e some h = absurd (let f = need.2 in cc)
act_coming p HeldProperty next m n name need e some h = absurd (let f = need.1 in cc)
act_coming p HeldDatatype next m n name need e some h = absurd (let f = need.1 in cc)
act_coming p AddAnnotation next m n name need e some h = absurd (let f = need.1 in cc)
act_coming p AddAxiom next m n name need e some h = absurd (let f = need.1 in cc)
act_coming p DeclareIri next m n name need e some h = declared_twice m.kept name next m n e some h
act_coming p EndItem next m n name need e some h = subst DeclaresTwice (sym h) (coming name e some)
act_coming p _ next m n name need e some h = absurd (cc)

pub twice_stays : StepKeeps DeclaresTwice
twice_stays p act next m n ready h (coming name e some) = act_coming p act next m n name (ready_needs act next m ready) e some h
twice_stays p act next m n ready h (there not) = there (twice_longer _ _ (acts_grow p act next m n h).declarations not)

pub twice_ends : (document : Document) → AreDeclarable document.declarations → DeclaresTwice (between document) → ⊥
twice_ends document are (coming name e some) = cc
twice_ends document are (there not) = not are.once
