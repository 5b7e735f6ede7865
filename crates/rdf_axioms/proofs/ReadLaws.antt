-- An axiom is read back from its triple, by the row that it is drawn by.
use Rattle.std.proofs.Common.{◌≡◌, ◌≤◌, ◌+◌, ℕ, true, false, List, [], ◌∷◌, ◌++◌, refl, sym, ◌∙◌, subst, arith}
use Rattle.std.specs.Prelude.{Contains, ◌&&◌}
use Rattle.std.specs.List.{list_any}
use Rattle.std.proofs.lemmas.Bool.{and_parts, both_ways}
use Rattle.owl_kind.specs.Kinds.{Entity}
use Rattle.owl_list.proofs.AscendingLaws.{in_none}
use Rattle.owl_tree.specs.declared.row.Sort.{Sort}
use Rattle.owl_tree.specs.declared.tag.Tag.{Tag}
use Rattle.owl_tree.specs.Trees.{Tree}
use Rattle.rdf_graph.specs.declared.term.Term.TheVariants.{Iri}
use Rattle.rdf_graph.specs.declared.triple.Triple.{Triple}
use Rattle.rdf_meaning.specs.declared.row.Part.{Part}
use Rattle.rdf_meaning.specs.declared.row.Place.{Place}
use Rattle.rdf_meaning.specs.declared.row.Place.TheVariants.{Subject, Predicate, Object}
use Rattle.rdf_meaning.specs.declared.row.Site.{Site}
use Rattle.rdf_meaning.specs.declared.row.Site.TheVariants.{TypedBy, OtherType, LinkedBy, OtherLink}
use Rattle.rdf_meaning.specs.declared.row.Want.{Want}
use Rattle.rdf_meaning.specs.declared.row.Want.TheVariants.{One}
use Rattle.rdf_meaning.specs.declared.word.Word.{Word}
use Rattle.rdf_meaning.specs.Denotation.{of_triple, Denotes, Holds, no_parts, part, axiom_predicates, axiom_types, site_of}
use Rattle.rdf_meaning.specs.Nodes.{is_word, type_iri}
use Rattle.rdf_meaning.specs.Rows.{Row, axiom_rows}
use Rattle.rdf_meaning.specs.Statements.{IsAxiomWith}
use Rattle.rdf_meaning.specs.Words.{word_iri}
use Rattle.rdf_mapping.specs.Drawing.{Placed, by_predicate, by_triple, linked_back, looped, placed_at}
use Rattle.rdf_mapping.specs.Forms.{Form, plain, link, nodes, term_of}
use Rattle.rdf_mapping.specs.Frames.{IsOfNode, Keeps}
use Rattle.rdf_mapping.specs.LinkedLaws.{two_parts}
use Rattle.rdf_mapping.specs.SiteLaws.{linked_site, other_link_site, other_type_site, typed_site}
use Rattle.rdf_axioms.specs.AxiomReading.{IsReadAt}
use Rattle.rdf_axioms.proofs.EndLaws.{class_at, property_at}
use Rattle.rdf_axioms.proofs.PartReadLaws.{IsOfIndividual, IsReadPart}
use Rattle.rdf_axioms.proofs.Placed.{ArePlaced, IsPlaced, asserts_at, classes_at, is_class, is_free_property, is_subject, is_triple_row, links_at, placings, trees_of, types_at}

module _ (name : ℕ → List ℕ) (most : ℕ) (g : List Triple) (k : List Entity) (t : Tag) (r : Row) (among : Contains axiom_rows r) (same : r.tag ≡ t) where
  abbrev IsRead : Want → Form → List Tree → Type 0
  IsRead w f us = IsReadPart name most g k w f us

  abbrev IsEnd : Want → Type 0
  IsEnd w = IsPlaced IsRead w

  abbrev at : Place → Want → Part
  at pl w = record { place = pl; want = w }

  abbrev IsReadOf : List Tree → Site → List Placed → Type 0
  IsReadOf us site qs = (n : ℕ) → IsReadAt name most g k t us (by_triple site qs) n

  -- a triple of the row's site, whose terms denote what its parts want
  borne : (b : Triple) (ps : List Part) (us : List Tree) → r.site ≡ site_of b → r.parts ≡ ps → Holds g k (of_triple b) ps us → IsAxiomWith g k (of_triple b) t us
  borne b ps us site parts holds =
      record { row = r; among = among; tag = same; fits = site; parts = subst (λ qs. Holds g k (of_triple b) qs us) (sym parts) holds }

  typed_read : (w : Word) (pl : Place) (a : Want) → (list_any (is_word w) axiom_types && types_at w pl a) ≡ true → r.site ≡ TypedBy w → r.parts ≡ at pl a ∷ [] → (d : IsEnd a) → IsReadOf (d.trees ++ []) (TypedBy w) (placed_at pl d.form ∷ [])
  typed_read w Subject a h site parts d =
      λ n sets few kept.
      let x = term_of name d.form n in
      let b = link x type_iri (Iri (word_iri w)) in
      borne b (at Subject a ∷ []) (d.trees ++ []) (site ∙ sym (typed_site w (and_parts (list_any (is_word w) axiom_types) (types_at w Subject a) h).0 x)) parts
      (part (of_triple b) (at Subject a) [] x d.trees [] refl (d.fact.read n (omega (arith, few)) kept.first) (no_parts (of_triple b)))
  typed_read w _ a h site parts d = absurd (both_ways false refl (and_parts (list_any (is_word w) axiom_types) false h).1)

  -- what stands at the object comes first
  back_read : (p : List ℕ) (a c : Want) → r.parts ≡ at Object a ∷ at Subject c ∷ [] → (d : IsEnd a) (e : IsEnd c) → ((n : ℕ) → r.site ≡ site_of (link (term_of name e.form (n + nodes d.form)) p (term_of name d.form n))) → (n : ℕ) → IsReadAt name most g k t (d.trees ++ (e.trees ++ [])) (linked_back d.form p e.form) n
  back_read p a c parts d e site n sets few kept =
      let m = n + nodes d.form in
      let x = term_of name d.form n in
      let y = term_of name e.form m in
      let b = link y p x in
      borne b (at Object a ∷ at Subject c ∷ []) (d.trees ++ (e.trees ++ [])) (site n) parts
      (part (of_triple b) (at Object a) (at Subject c ∷ []) x d.trees (e.trees ++ []) refl (d.fact.read n (omega (arith, few)) kept.first)
      (part (of_triple b) (at Subject c) [] y e.trees [] refl (e.fact.read m (omega (arith, few)) kept.second) (no_parts (of_triple b))))

  linked_read : (w : Word) (pl ql : Place) (a c : Want) → (list_any (is_word w) axiom_predicates && links_at w pl ql a c) ≡ true → r.site ≡ LinkedBy w → r.parts ≡ at pl a ∷ at ql c ∷ [] → (d : IsEnd a) (e : IsEnd c) → IsReadOf (d.trees ++ (e.trees ++ [])) (LinkedBy w) (placed_at pl d.form ∷ placed_at ql e.form ∷ [])
  linked_read w Subject Object a c h site parts d e =
      λ n sets few kept.
      let m = n + nodes d.form in
      let x = term_of name d.form n in
      let y = term_of name e.form m in
      let b = link x (word_iri w) y in
      borne b (at Subject a ∷ at Object c ∷ []) (d.trees ++ (e.trees ++ []))
      (site ∙ sym (linked_site w (and_parts (list_any (is_word w) axiom_predicates) (is_subject a) h).0 x y)) parts
      (part (of_triple b) (at Subject a) (at Object c ∷ []) x d.trees (e.trees ++ []) refl (d.fact.read n (omega (arith, few)) kept.first)
      (part (of_triple b) (at Object c) [] y e.trees [] refl (e.fact.read m (omega (arith, few)) kept.second) (no_parts (of_triple b))))
  linked_read w Object Subject a c h site parts d e =
      back_read (word_iri w) a c parts d e
      (λ n. site ∙ sym (linked_site w (and_parts (list_any (is_word w) axiom_predicates) _ h).0 (term_of name e.form (n + nodes d.form)) (term_of name d.form n)))
  linked_read w _ _ a c h site parts d e = absurd (both_ways false refl (and_parts (list_any (is_word w) axiom_predicates) false h).1)

  class_read : (pl ql : Place) (a c : Want) → classes_at pl ql a c ≡ true → r.site ≡ OtherType → r.parts ≡ at pl a ∷ at ql c ∷ [] → (d : IsEnd a) (e : IsEnd c) → IsReadOf (d.trees ++ (e.trees ++ [])) OtherType (placed_at pl d.form ∷ placed_at ql e.form ∷ [])
  class_read Object Subject a c h site parts d e =
      let tests = and_parts (is_class a) (is_subject c) h in
      back_read type_iri a c parts d e
      (λ n. site ∙ sym (other_type_site (term_of name e.form (n + nodes d.form)) (term_of name d.form n) (λ w i same. class_at name k (IsOfIndividual g) a d.form n w tests.0 d.fact.known same)))
  class_read _ _ a c h site parts d e = absurd (both_ways false refl h)

  -- what is kept of no nodes
  nothing_kept : (n : ℕ) → Keeps name IsOfNode g [] n (n + 0)
  nothing_kept n = record {
    there = λ u m. absurd (in_none u m);
    back = λ u l c m. let from = l.from in let below = l.below in absurd (omega arith);
  }

  name_read : (a : Want) (f : Form) (us : List Tree) (iri : List ℕ) (n : ℕ) → IsRead a f us → f ≡ plain (Iri iri) → n ≤ most → Denotes g k (Iri iri) a us
  name_read a f us iri n h e few =
      let named : IsRead a (plain (Iri iri)) us = subst (λ q. IsRead a q us) e h in
      named.read n (omega (arith, few)) (nothing_kept n)

  assertion_read : (pl ql rl : Place) (a c q : Want) → asserts_at pl ql rl a c ≡ true → r.site ≡ OtherLink → r.parts ≡ at pl a ∷ at ql c ∷ at rl q ∷ [] → (d : IsEnd a) (e : IsEnd c) (f : IsEnd q) → IsReadOf (d.trees ++ (e.trees ++ (f.trees ++ []))) OtherLink (placed_at pl d.form ∷ placed_at ql e.form ∷ placed_at rl f.form ∷ [])
  assertion_read Predicate Subject Object a c q h site parts d e f =
      let tests = and_parts (is_free_property a) (is_subject c) h in
      let property = property_at name k (IsOfIndividual g) a d.form tests.0 d.fact.known in
      subst (λ p. (n : ℕ) → IsReadAt name most g k t (d.trees ++ (e.trees ++ (f.trees ++ []))) (by_predicate p e.form f.form) n) (sym property.is)
      (λ n sets few kept.
      let m = n + nodes e.form in
      let x = term_of name e.form n in
      let y = term_of name f.form m in
      let b = link x property.iri y in
      borne b (at Predicate a ∷ at Subject c ∷ at Object q ∷ []) (d.trees ++ (e.trees ++ (f.trees ++ [])))
      (site ∙ sym (other_link_site x y property.iri property.free.no_type (λ w i. property.free.no_word w))) parts
      (part (of_triple b) (at Predicate a) (at Subject c ∷ at Object q ∷ []) (Iri property.iri) d.trees (e.trees ++ (f.trees ++ [])) refl
      (name_read a d.form d.trees property.iri n d.fact property.is (omega (arith, few)))
      (part (of_triple b) (at Subject c) (at Object q ∷ []) x e.trees (f.trees ++ []) refl (e.fact.read n (omega (arith, few)) kept.first)
      (part (of_triple b) (at Object q) [] y f.trees [] refl (f.fact.read m (omega (arith, few)) kept.second) (no_parts (of_triple b))))))
  assertion_read _ _ _ a c q h site parts d e f = absurd (both_ways false refl h)

  -- what a row whose axioms are triples states is read back
  pub triple_read : (site : Site) (ps : List Part) → is_triple_row site ps ≡ true → r.site ≡ site → r.parts ≡ ps → (d : ArePlaced IsRead ps) → IsReadOf (trees_of IsRead ps d) site (placings IsRead ps d)
  triple_read (TypedBy w) (p ∷ []) h site parts d = typed_read w p.place p.want h site parts d.0
  triple_read (LinkedBy w) (p ∷ q ∷ []) h site parts d = linked_read w p.place q.place p.want q.want h site parts d.0 d.1.0
  triple_read OtherType (p ∷ q ∷ []) h site parts d = class_read p.place q.place p.want q.want h site parts d.0 d.1.0
  triple_read OtherLink (p ∷ q ∷ o ∷ []) h site parts d = assertion_read p.place q.place o.place p.want q.want o.want h site parts d.0 d.1.0 d.1.1.0
  triple_read _ _ h site parts d = absurd (both_ways false refl h)

  -- a triple from a form to itself
  pub loop_read : (w : Word) (s : Sort) → list_any (is_word w) axiom_predicates ≡ true → r.site ≡ LinkedBy w → r.parts ≡ two_parts s s → (f : Form) (u : Tree) → IsRead (One s) f (u ∷ []) → (n : ℕ) → IsReadAt name most g k t (u ∷ u ∷ []) (looped (word_iri w) f) n
  loop_read w s h site parts f u d n sets few kept =
      let x = term_of name f n in
      let b = link x (word_iri w) x in
      let denotes = d.read n few kept.form in
      borne b (two_parts s s) (u ∷ u ∷ []) (site ∙ sym (linked_site w h x x)) parts
      (part (of_triple b) (at Subject (One s)) (at Object (One s) ∷ []) x (u ∷ []) (u ∷ []) refl denotes
      (part (of_triple b) (at Object (One s)) [] x (u ∷ []) [] refl denotes (no_parts (of_triple b))))
