-- Literals and IRIs that were kept.
use Rattle.std.proofs.Common.{◌≡◌, ◌≢◌, ◌<◌, ℕ, List, length, Option, None, Some, Result, Ok, Err, refl, sym, ap, ◌∙◌, subst, arith}
use Rattle.owl_arena.specs.Shared.{deepest}
use Rattle.rdf_terms.specs.Literals.{DenotesLiteral, LiteralParts}
use Rattle.owl_atom.specs.declared.prefixes.Prefix.{Prefix}
use Rattle.owl_maker.specs.Constructs.{Constructs}
use Rattle.owl_maker.specs.Makings.{Making}
use Rattle.owl_reader.specs.declared.fault.TokenFault.{TokenFault}
use Rattle.owl_reader.specs.declared.fault.TokenFault.TheVariants as fault
use Rattle.owl_tokens.specs.declared.token.Token.{Token}
use Rattle.owl_tokens.specs.declared.token.Token.TheVariants as token
use Rattle.owl_tree.specs.declared.atom.Atom.TheVariants.{Iri, Literal}
use Rattle.owl_tree.specs.declared.tag.Tag.{Tag}
use Rattle.owl_tree.specs.Trees.{Tree, leaf}
use Rattle.fss_terms.specs.Functional.{IsTableOf, PrefixDeclaration}
use Rattle.fss_terms.specs.Terms.{iri_of_token}
use Rattle.fss_grammar.specs.ActingLaws.{tables_agree}
use Rattle.fss_grammar.specs.Doing.{prefixes_behind}
use Rattle.fss_grammar.specs.Making.{Comes, Kept, Maker, MakesHeld, MakesLiteral, put}
use Rattle.fss_grammar.specs.Making.Kept.{iri, string}
use Rattle.fss_grammar.specs.Ready.{KeepsString}
use Rattle.fss_grammar.specs.declared.acts.Act.TheVariants.{Plain, Tagged, Typed}
use Rattle.fss_acts.specs.declared.assembler.Assembler.{Assembler}
use Rattle.fss_acts.specs.declared.kept.Kept as held
use Rattle.fss_acts.specs.declared.kept.Kept.TheVariants as keeps
use Rattle.fss_acts.specs.Assembling.{AnswersAt, AnswersHeld, AnswersLeaf, Assembles, IsLiteralOf, IsNoLiteral, IsFit, kept_of, work_of}
use Rattle.fss_defects.specs.Faults.{FailsTyped}
use Rattle.fss_acts.proofs.Put.{constructs, leaf_put}

-- ---- what is kept

same_text : (k : Kept) (o : held.Kept) (t u : Tag) (form other : List ℕ) → o ≡ kept_of k → k ≡ string u other → o ≡ keeps.Text t form → k ≡ string t form
same_text k o t u form other e f g =
    let h : keeps.Text u other ≡ keeps.Text t form = sym (ap kept_of f) ∙ sym e ∙ g in
    let tags : u ≡ t = cc in
    let forms : other ≡ form = cc in
    f ∙ (λ i. string (tags i) (forms i))

same_iri : (k : Kept) (o : held.Kept) (i j : List ℕ) → o ≡ kept_of k → k ≡ iri j → o ≡ keeps.Iri i → k ≡ iri i
same_iri k o i j e f g =
    let h : keeps.Iri j ≡ keeps.Iri i = sym (ap kept_of f) ∙ sym e ∙ g in
    let same : j ≡ i = cc in
    f ∙ ap iri same

-- a leaf whose string or IRI is kept has room
module _ (old : Assembler) (m : Maker) (h : Assembles old m) (k : Kept) (is : m.kept ≡ k) (w : work_of k m.frames ≡ Constructs m.frames) (fit : IsFit k m.frames m.document.declarations → length m.frames < deepest) where
  open_work : work_of m.kept m.frames ≡ Constructs m.frames
  open_work = ap (λ (x : Kept). work_of x m.frames) is ∙ w

  room : length m.frames < deepest
  room = fit (subst (λ (x : Kept). IsFit x m.frames m.document.declarations) is h.fit)

  has_room : {P : Type 0} (t : Tree) (made : Making) (f : TokenFault) → AnswersLeaf t old.maker (Err f) made → f ≢ fault.Memory → P
  has_room t made f l ne = let full = (l ne).full m.frames (constructs old m h open_work) in let r = room in absurd (omega arith)

module _ (old : Assembler) (m : Maker) (h : Assembles old m) (t : Tag) (form : List ℕ) (was : old.kept ≡ keeps.Text t form) (ready : KeepsString m) where
  pub text_is : m.kept ≡ string t form
  text_is = same_text m.kept old.kept t ready.tag form ready.form h.kept ready.keeps was

  pub text_work : work_of m.kept m.frames ≡ Constructs m.frames
  text_work = open_work old m h (string t form) text_is refl (λ r. r)

  pub text_room : {P : Type 0} (u : Tree) (made : Making) (f : TokenFault) → AnswersLeaf u old.maker (Err f) made → f ≢ fault.Memory → P
  text_room u made f l ne = has_room old m h (string t form) text_is refl (λ r. r) u made f l ne

  makes : (datatype language : Option (List ℕ)) (l : LiteralParts) → IsLiteralOf form datatype language l → MakesLiteral m.kept datatype language m (put (leaf t (Literal l)) m)
  makes datatype language l d =
      subst (λ (k : Kept). MakesLiteral k datatype language m (put (leaf t (Literal l)) m)) (sym text_is) (l, d.denotes, d.is_literal, refl)

  assembled : (new : held.Kept) (l : LiteralParts) (made : Making) (done : Unit {0}) → new ≡ keeps.Nothing → AnswersLeaf (leaf t (Literal l)) old.maker (Ok done) made → Assembles (record old { maker = made; kept = new }) (put (leaf t (Literal l)) m)
  assembled new l made done e p =
      leaf_put old m h text_work (record old { maker = made; kept = new }) (leaf t (Literal l)) ready.frame ready.outer ready.frames_are refl e refl p

  pub plain_made : (new : held.Kept) (l : LiteralParts) (made : Making) (r : Result (Unit {0}) TokenFault) (next : Option Token) → new ≡ keeps.Nothing → IsLiteralOf form None None l → AnswersLeaf (leaf t (Literal l)) old.maker r made → AnswersAt Plain next m r (record old { maker = made; kept = new })
  plain_made new l made (Ok done) next e d p = record { maker = put (leaf t (Literal l)) m; acts = makes None None l d; assembles = assembled new l made done e p; free = λ f k. k }
  plain_made new l made (Err f) next e d p = text_room (leaf t (Literal l)) made f p

  pub tagged_made : (new : held.Kept) (l : LiteralParts) (made : Making) (r : Result (Unit {0}) TokenFault) (next : Option Token) (language : List ℕ) → new ≡ keeps.Nothing → next ≡ Some (token.At language) → IsLiteralOf form None (Some language) l → AnswersLeaf (leaf t (Literal l)) old.maker r made → AnswersAt Tagged next m r (record old { maker = made; kept = new })
  tagged_made new l made (Ok done) next language e is d p =
      record { maker = put (leaf t (Literal l)) m; acts = (language, is, makes None (Some language) l d); assembles = assembled new l made done e p; free = λ f k. k }
  tagged_made new l made (Err f) next language e is d p = text_room (leaf t (Literal l)) made f p

-- ---- a datatype

-- a token stands for one IRI
comes_behind : (ds : List PrefixDeclaration) (p : List Prefix) (next : Option Token) (i : List ℕ) → IsTableOf ds p → Comes p next i → Comes (prefixes_behind ds) next i
comes_behind ds p next i table c = record { name = c.name; comes = c.comes; stands = sym (tables_agree ds p table c.name) ∙ c.stands }

comes_once : (p : List Prefix) (next : Option Token) (i j : List ℕ) → Comes p next i → Comes p next j → i ≡ j
comes_once p next i j a b =
    let same : a.name ≡ b.name = let e = sym a.comes ∙ b.comes in cc in
    let s = sym a.stands ∙ ap (iri_of_token p) same ∙ b.stands in
    cc

module _ (old : Assembler) (m : Maker) (h : Assembles old m) (t : Tag) (form : List ℕ) (was : old.kept ≡ keeps.Text t form) (ready : KeepsString m) (next : Option Token) (datatype : List ℕ) (c : Comes old.prefixes next datatype) where
  here : Comes (prefixes_behind m.document.declarations) next datatype
  here = comes_behind m.document.declarations old.prefixes next datatype h.table c

  never_untyped : (l : LiteralParts) → DenotesLiteral form (Some datatype) None l → (f : TokenFault) → FailsTyped m next f → ⊥
  never_untyped l d f k =
      let forms : string k.tag k.form ≡ string t form = sym k.keeps ∙ text_is old m h t form was ready in
      let form_is : k.form ≡ form = cc in
      let datatype_is = comes_once (prefixes_behind m.document.declarations) next k.datatype datatype k.comes here in
      k.none l (subst (λ (x : List ℕ). DenotesLiteral x (Some k.datatype) None l) (sym form_is) (subst (λ (x : List ℕ). DenotesLiteral form (Some x) None l) (sym datatype_is) d))

  pub typed_made : (new : held.Kept) (l : LiteralParts) (made : Making) (r : Result (Unit {0}) TokenFault) → new ≡ keeps.Nothing → IsLiteralOf form (Some datatype) None l → AnswersLeaf (leaf t (Literal l)) old.maker r made → AnswersAt Typed next m r (record old { maker = made; kept = new })
  typed_made new l made (Ok done) e d p = record {
    maker = put (leaf t (Literal l)) m;
    acts = (datatype, here, makes old m h t form was ready (Some datatype) None l d);
    assembles = assembled old m h t form was ready new l made done e p;
    free = never_untyped l d.denotes;
  }
  typed_made new l made (Err f) e d p = text_room old m h t form was ready (leaf t (Literal l)) made f p

  pub untyped : (f : TokenFault) → IsNoLiteral form (Some datatype) None f → FailsTyped m next f
  untyped f d = record { fault_is = d.told; tag = t; form = form; keeps = text_is old m h t form was ready; datatype = datatype; comes = here; none = d.none }

pub untold : {form : List ℕ} {datatype language : Option (List ℕ)} (f g : TokenFault) → f ≡ g → IsNoLiteral form datatype language g → IsNoLiteral form datatype language f
untold f g e d = record { told = e ∙ d.told; none = d.none }

-- ---- an IRI

pub held_made : (old : Assembler) (new : held.Kept) (made : Making) (r : Result (Unit {0}) TokenFault) (t : Tag) (i : List ℕ) → old.kept ≡ keeps.Iri i → new ≡ keeps.Nothing → AnswersLeaf (leaf t (Iri i)) old.maker r made → AnswersHeld t old r (record old { maker = made; kept = new })
held_made old new made (Ok done) t i was e p m h ready =
    let is = same_iri m.kept old.kept i ready.kept h.kept ready.keeps was in
    let w = open_work old m h (iri i) is refl (λ r. r) in
    record {
      maker = put (leaf t (Iri i)) m;
      made = subst (λ (k : Kept). MakesHeld k t m (put (leaf t (Iri i)) m)) (sym is) refl;
      assembles = leaf_put old m h w (record old { maker = made; kept = new }) (leaf t (Iri i)) ready.frame ready.outer ready.frames_are refl e refl p;
    }
held_made old new made (Err f) t i was e p m h ready =
    let is = same_iri m.kept old.kept i ready.kept h.kept ready.keeps was in
    has_room old m h (iri i) is refl (λ r. r) (leaf t (Iri i)) made f p
