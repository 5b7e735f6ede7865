-- An act that fails is of no document: it isn't done, or the document that it leads to may not be.
use Rattle.std.proofs.Common.{◌≡◌, inl, inr, ℕ, List, [], ◌∷◌, ◌++◌, map, None, Option, Some, refl, sym, ap, ◌∙◌, subst, arith}
use Rattle.std.specs.Str.Parse.{digits_value}
use Rattle.std.proofs.lemmas.Bool.{false≢true}
use Rattle.std.proofs.lemmas.List.Elements.{Contains-append_right}
use Rattle.std.proofs.lemmas.Option.{same_Some}
use Rattle.grammar.specs.Derivations.Event.{Do}
use Rattle.owl_atom.specs.declared.prefixes.Prefix.{Prefix}
use Rattle.rdf_terms.specs.Literals.{DenotesLiteral}
use Rattle.owl_list.proofs.AscendingLaws.{in_head}
use Rattle.owl_reader.specs.declared.fault.TokenFault.{TokenFault}
use Rattle.owl_tokens.specs.declared.token.Token.{Token}
use Rattle.owl_tree.specs.declared.atom.Atom.{Atom}
use Rattle.owl_tree.specs.declared.atom.Atom.TheVariants.{Number}
use Rattle.owl_tree.specs.declared.row.AtomSort.TheVariants as atom
use Rattle.owl_tree.specs.declared.tag.Tag.{Tag}
use Rattle.owl_tree.specs.Frames.{Frame}
use Rattle.owl_tree.specs.Rows.{Leaf, Node, Row, row_of}
use Rattle.owl_tree.specs.Trees.{Tree}
use Rattle.fss_terms.specs.Functional.{AreDeclarable, IsWithinLimits, PrefixDeclaration}
use Rattle.fss_terms.specs.Terms.{iri_of_token}
use Rattle.fss_grammar.proofs.ActLaws.{same_act}
use Rattle.fss_grammar.specs.Doing.{Acts, prefixes_behind}
use Rattle.fss_grammar.specs.Making.{Adds, BeginsConstruct, Comes, ComesAtom, Declares, Document, Maker, MakesLiteral, Performs, Shuts, add_annotation, add_axiom, declare, next_token}
use Rattle.fss_grammar.specs.Making.Kept.{prefix}
use Rattle.fss_grammar.specs.Meaning.{Events, between}
use Rattle.fss_grammar.proofs.OneWayLaws.{acts_one_way}
use Rattle.fss_grammar.specs.declared.acts.Act.{Act}
use Rattle.fss_grammar.specs.declared.acts.Act.TheVariants.{AddAnnotation, AddAxiom, Begin, DeclareIri, DeclareName, Hold, Shut, Typed}
use Rattle.fss_defects.specs.Faults.{ComesTooLarge, Fails, FailsFirst, FailsIri, FailsItem, FailsLeaf, FailsName, FailsShut, FailsTyped}
use Rattle.fss_defects.proofs.Courses.{Runs, kept_along}
use Rattle.fss_defects.proofs.Declarations.{DeclaresTwice, DeclaresWrongly, twice_ends, twice_stays, wrong_ends, wrong_stays}
use Rattle.fss_defects.proofs.Declarations.DeclaresTwice.{coming}
use Rattle.fss_defects.proofs.Depths.{IsTooDeep, full_begins, full_holds, too_deep_ends, too_deep_stays}
use Rattle.fss_defects.proofs.Weights.{IsTooHeavy, too_heavy_stays}

-- what comes behind acts
pub next_behind : (acts : List ℕ) (es : Events) → next_token (map Do acts ++ es) ≡ next_token es
next_behind [] es = refl
next_behind (a ∷ acts) es = next_behind acts es

-- ---- what isn't done

too_large : (p : List Prefix) (next : Option Token) (a : Atom) → ComesTooLarge next → ComesAtom p next atom.Number a → ⊥
too_large p next (Number n) large it =
    let same : it.stands.0 ≡ large.0 = let e = it.comes in let f = it.stands.1 in let g = large.1 in cc in
    let value : n ≡ digits_value 10 large.0 = it.stands.2 ∙ ap (digits_value 10) same in
    let few = it.is_atom in
    let many = large.2 in
    omega (arith, value, few, many)
too_large p next _ large it = absurd (false≢true it.sort_is)

keyless : (frames : List Frame) (m n : Maker) (f : TokenFault) → FailsShut (record m { frames = frames }) f → Shuts frames m n → ⊥
keyless [] m n f h k = h.1
keyless (one ∷ frames) m n f h k = h.1.none (k.0 h.1.tag)

same_iri : (p : List Prefix) (next : Option Token) (i j : List ℕ) → Comes p next i → Comes p next j → i ≡ j
same_iri p next i j h k =
    let name : h.name ≡ k.name = let e = h.comes in let f = k.comes in cc in
    same_Some i j (sym h.stands ∙ ap (iri_of_token p) name ∙ k.stands)

no_literal : (m n : Maker) (next : Option Token) (f : TokenFault) → FailsTyped m next f → Acts Typed next m n → ⊥
no_literal m n next f it h =
    let made = subst (λ kept. MakesLiteral kept (Some h.0) None m n) it.keeps h.2 in
    let same = same_iri (prefixes_behind m.document.declarations) next h.0 it.datatype h.1 it.comes in
    it.none made.0 (subst (λ d. DenotesLiteral it.form (Some d) None made.0) same made.1)

-- ---- what leads to no document

module _ (document : Document) (declarable : AreDeclarable document.declarations) (limits : IsWithinLimits document.ontology) where
  too_deep : (es : Events) (n : Maker) → Runs es n (between document) → IsTooDeep n → ⊥
  too_deep es n r h = too_deep_ends document limits (kept_along IsTooDeep too_deep_stays es n (between document) r h)

  too_heavy : (es : Events) (n : Maker) → Runs es n (between document) → IsTooHeavy n → ⊥
  too_heavy es n r h =
      let heavy = kept_along IsTooHeavy too_heavy_stays es n (between document) r h in
      let light = limits.weight in
      omega (arith, heavy, light)

  fails_leaf : (es : Events) (p : List Prefix) (t : Tag) (row : Row) (next : Option Token) (m n : Maker) (f : TokenFault) → FailsLeaf row next m f → BeginsConstruct p t row next m n → Runs es n (between document) → ⊥
  fails_leaf es p t (Leaf atom.Number) next m n f (inl h) k r = too_deep es n r (full_begins p t (Leaf atom.Number) next m n h.1 k)
  fails_leaf es p t (Leaf atom.Number) next m n f (inr h) k r = too_large p next k.0 h.2 k.1
  fails_leaf es p t (Leaf atom.Iri) next m n f h k r = too_deep es n r (full_begins p t (Leaf atom.Iri) next m n h.1 k)
  fails_leaf es p t (Leaf atom.Label) next m n f h k r = too_deep es n r (full_begins p t (Leaf atom.Label) next m n h.1 k)
  fails_leaf es p t (Leaf atom.Literal) next m n f h k r = too_deep es n r (full_begins p t (Leaf atom.Literal) next m n h.1 k)
  fails_leaf es p t (Node front rest) next m n f h k r = too_deep es n r (full_begins p t (Node front rest) next m n h.1 k)

  fails_name : (es : Events) (next : Option Token) (m n : Maker) (f : TokenFault) → FailsName m next f → Acts DeclareName next m n → Runs es n (between document) → ⊥
  fails_name es next m n f h k r =
      let same : h.1 ≡ k.0 = let e = h.2 in let g = k.1 in cc in
      let kept : (record m { kept = prefix k.0 }).kept ≡ prefix h.1 = ap prefix (sym same) in
      let twice : DeclaresTwice (record m { kept = prefix k.0 }) = coming h.1 kept h.3 in
      twice_ends document declarable (kept_along DeclaresTwice twice_stays es n (between document) r (subst DeclaresTwice (sym k.2) twice))

  fails_iri : (es : Events) (next : Option Token) (m n : Maker) (f : TokenFault) → FailsIri m next f → Acts DeclareIri next m n → Runs es n (between document) → ⊥
  fails_iri es next m n f h k r =
      let declared = subst (λ kept. Declares kept next m n) h.3 k in
      let d : PrefixDeclaration = record { name = h.1; iri = declared.0 } in
      let same : declared.0 ≡ h.2 = let e = h.4 in let g = declared.1 in cc in
      let wrong : DeclaresWrongly (declare d m) = record {
        declaration = d;
        there = Contains-append_right m.document.declarations (d ∷ []) d (in_head d []);
        wrong = λ is. h.6 (is.fixed h.5 ∙ ap Some same);
      } in
      wrong_ends document declarable (kept_along DeclaresWrongly wrong_stays es n (between document) r (subst DeclaresWrongly (sym declared.2) wrong))

  fails_item : (es : Events) (add : Tree → Maker → Maker) (m n : Maker) (f : TokenFault) → FailsItem add m f → Adds m.kept add m n → Runs es n (between document) → ⊥
  fails_item es add m n f h k r =
      let added : n ≡ add h.1 m = subst (λ kept. Adds kept add m n) h.2 k in
      too_heavy es n r (subst IsTooHeavy (sym added) h.3)

  fails_act : (es : Events) (act : Act) (next : Option Token) (m n : Maker) (f : TokenFault) → Fails act next m f → Acts act next m n → Runs es n (between document) → ⊥
  fails_act es (Begin t) next m n f h k r = fails_leaf es (prefixes_behind m.document.declarations) t (row_of t) next m n f h k r
  fails_act es Hold next m n f h k r = too_deep es n r (full_holds k.0 m n h.1 k.3)
  fails_act es Shut next m n f h k r = keyless m.frames m n f h k
  fails_act es Typed next m n f h k r = no_literal m n next f h k
  fails_act es DeclareName next m n f h k r = fails_name es next m n f h k r
  fails_act es DeclareIri next m n f h k r = fails_iri es next m n f h k r
  fails_act es AddAnnotation next m n f h k r = fails_item es add_annotation m n f h k r
  fails_act es AddAxiom next m n f h k r = fails_item es add_axiom m n f h k r
  fails_act es _ next m n f h k r = absurd h

  -- the first act that fails, in front of what comes next
  pub fails_first : (acts : List ℕ) (next : Option Token) (m : Maker) (f : TokenFault) (later : Events) → next_token later ≡ next → FailsFirst acts next m f → Runs (map Do acts ++ later) m (between document) → ⊥
  fails_first [] next m f later e h r = absurd h
  fails_first (a ∷ acts) next m f later e h r =
      let same : r.act ≡ h.0 = same_act r.act h.0 (r.number_is ∙ sym h.1) in
      let here = next_behind acts later ∙ e in
      let behind = prefixes_behind m.document.declarations in
      let k : Acts h.0 next m r.middle =
      subst (λ (act : Act). Performs behind act next m r.middle) same (subst (λ x. Performs behind r.act x m r.middle) here r.acts) in
      elim h.2 [
        | inl fails ↦ fails_act (map Do acts ++ later) h.0 next m r.middle f fails k r.later
        | inr on ↦
            let middle : r.middle ≡ on.0 = acts_one_way behind h.0 next m r.middle on.0 k on.1 in
            fails_first acts next on.0 f later e on.3 (subst (λ l. Runs (map Do acts ++ later) l (between document)) middle r.later)
      ]
