-- What an axiom is in a graph is told from all else there.
use Rattle.std.proofs.Common.{◌≡◌, ◌⊎◌, ◌+◌, ℕ, Bool, true, false, cond, List, [], ◌∷◌, ◌++◌, inl, inr, refl, sym, subst}
use Rattle.std.specs.Prelude.{Contains, map, nat_le, not, ◌&&◌, ◌||◌}
use Rattle.std.specs.List.{list_any}
use Rattle.std.proofs.lemmas.Bool.{and_parts, both_ways, not-true, or_cases}
use Rattle.owl_kind.specs.Kinds.{Entity}
use Rattle.owl_list.proofs.AscendingLaws.{in_head}
use Rattle.owl_tree.specs.declared.atom.Atom.TheVariants as atom
use Rattle.owl_tree.specs.Trees.{Tree, leaf, node}
use Rattle.rdf_graph.specs.declared.term.Term.TheVariants.{Blank}
use Rattle.rdf_meaning.specs.declared.row.Part.{Part}
use Rattle.rdf_meaning.specs.declared.row.Place.{Place}
use Rattle.rdf_meaning.specs.declared.row.Place.TheVariants.{Subject, Predicate, Object}
use Rattle.rdf_meaning.specs.declared.row.Site.{Site}
use Rattle.rdf_meaning.specs.declared.row.Site.TheVariants.{TypedBy, OtherType, LinkedBy, OtherLink}
use Rattle.rdf_meaning.specs.declared.row.Want.{Want}
use Rattle.rdf_meaning.specs.declared.word.Word.{Word}
use Rattle.rdf_meaning.specs.Denotation.{axiom_predicates, axiom_types}
use Rattle.rdf_meaning.specs.Nodes.{is_iri, is_word}
use Rattle.rdf_meaning.specs.Words.{word_iri}
use Rattle.rdf_mapping.specs.Drawing.{linked, by_predicate, by_triple, form_of, kid_of, kids_seen, listed, node_form, placed_at}
use Rattle.rdf_mapping.specs.Forms.{Form, twice, list_form, nodes, term_of}
use Rattle.rdf_mapping.specs.Frames.{IsForeign, StartsApart, is_node_word}
use Rattle.rdf_mapping.specs.Graphs.{labels_in}
use Rattle.rdf_mapping.specs.GroupFrames.{IsSubject}
use Rattle.rdf_mapping.specs.Sorts.{by_class, by_free, by_link, by_type}
use Rattle.rdf_axioms.specs.AxiomReading.{IsWellDrawn}
use Rattle.rdf_axioms.proofs.EndLaws.{IsKnownAt, IsMade, class_at, declared_at, declared_name, in_words, node_made, property_at, subject_at}
use Rattle.rdf_axioms.proofs.Placed.{IsPlaced, ArePlaced, asserts_at, classes_at, is_class, is_declared, is_free_property, is_subject, is_triple_row, links_at, placings, types_at}
use Rattle.rdf_axioms.proofs.PlacedLaws.{GivesEach}
use Rattle.rdf_axioms.proofs.RowStandLaws.{KeysAre}
use Rattle.rdf_axioms.proofs.SayableTreeLaws.{IsSayableTree}

-- A form at a part of a row begins at no other numbered node, and is what the part wants.
pub record IsEndAt (name : ℕ → List ℕ) (most : ℕ) (k : List Entity) (w : Want) (f : Form) (us : List Tree) : Type 0 where
  pub apart : StartsApart name most f
  pub known : IsKnownAt k (λ label. IsForeign name most (Blank label)) w f

module _ (name : ℕ → List ℕ) (most : ℕ) (k : List Entity) where
  abbrev IsForeignLabel : List ℕ → Type 0
  IsForeignLabel label = IsForeign name most (Blank label)

  abbrev IsGood : Tree → Type 0
  IsGood t = IsSayableTree k IsForeignLabel t

  made_apart : (f : Form) → IsMade f → StartsApart name most f
  made_apart f h = subst (λ q. StartsApart name most q) (sym h.is) tt

  pub tree_apart : (t : Tree) → ((label : List ℕ) → Contains (labels_in t) label → IsForeign name most (Blank label)) → StartsApart name most (form_of t)
  tree_apart (leaf t (atom.Iri iri)) h = λ n less e. cc
  tree_apart (leaf t (atom.Label label)) h = h label (in_head label [])
  tree_apart (leaf t (atom.Literal literal)) h = λ n less e. cc
  tree_apart (leaf t (atom.Number i)) h = λ n less e. cc
  tree_apart (node t ks) h = made_apart (node_form t (kids_seen ks)) (node_made t (kids_seen ks))

  list_apart : (fs : List Form) → StartsApart name most (list_form fs)
  list_apart [] = λ n less e. cc
  list_apart (f ∷ fs) = tt

  listed_apart : (least : ℕ) (fs : List Form) → StartsApart name most (listed least fs)
  listed_apart least [] = list_apart []
  listed_apart least (f ∷ []) = by (nat_le 2 least)
    where
      by : (b : Bool) → StartsApart name most (cond b (twice f) (list_form (f ∷ [])))
      by true = tt
      by false = list_apart (f ∷ [])
  listed_apart least (f ∷ g ∷ fs) = list_apart (f ∷ g ∷ fs)

  pub ends_given : GivesEach (IsEndAt name most k) IsGood
  ends_given =
      record {
        one = λ s t w m good. record { apart = tree_apart t good.labels; known = record { tree = t; is = refl; suits = m; good = good } };
        many = λ s least ts w small enough m good. record { apart = listed_apart least (map form_of ts); known = tt };
        whole = λ u s least t h m good. record { apart = listed_apart least (kid_of t).members; known = tt };
        declared = λ u t h m good. record { apart = tree_apart t good.labels; known = declared_name u t h m good.shaped good.sayable };
      }

  pub keys_given : KeysAre (IsEndAt name most k) IsGood
  keys_given o d h i good fine some = record { apart = list_apart ((kid_of o).members ++ (kid_of d).members); known = tt }

  -- Statements that are triples.

  abbrev IsEnd : Want → Type 0
  IsEnd w = IsPlaced (IsEndAt name most k) w

  typed_well : (w : Word) (pl : Place) (a : Want) → (list_any (is_word w) axiom_types && types_at w pl a) ≡ true → (d : IsEnd a) → IsWellDrawn name most (by_triple (TypedBy w) (placed_at pl d.form ∷ []))
  typed_well w Subject a h d =
      let tests = and_parts (list_any (is_word w) axiom_types) (types_at w Subject a) h in
      let at = and_parts (is_subject a) (not (is_node_word w) || is_declared a) tests.1 in
      let named : is_node_word w ≡ true → is_declared a ≡ true =
      λ m. elim (or_cases (not (is_node_word w)) (is_declared a) at.1) [
        | inl n ↦ absurd (both_ways (is_node_word w) (not-true (is_node_word w) n) m)
        | inr y ↦ y
      ] in
      record {
        said = λ e. cc;
        apart = d.fact.apart;
        subject = λ n. (subject_at name k IsForeignLabel a d.form n at.0 d.fact.known, tt);
        says = λ n. (by_type w (in_words w axiom_types tests.0) refl refl (λ m. declared_at name k IsForeignLabel a d.form n (named m) d.fact.known), tt);
      }
  typed_well w _ a h d = absurd (both_ways false refl (and_parts (list_any (is_word w) axiom_types) false h).1)

  -- of an inverse of no name the object is none either
  abbrev pub IsOrdered : Form → Form → Type 0
  IsOrdered f q = (n m : ℕ) → (is_iri (term_of name q m) ≡ false) ⊎ (is_iri (term_of name f n) ≡ true)

  pub linked_so : (w : Word) (f q : Form) → Contains axiom_predicates w → StartsApart name most f → ((n : ℕ) → IsSubject (term_of name f n)) → (is_node_word w ≡ true → IsOrdered f q) → IsWellDrawn name most (linked f (word_iri w) q)
  linked_so w f q m apart subject ordered =
      record {
        said = λ e. cc;
        apart = apart;
        subject = λ n. (subject n, tt);
        says = λ n. (by_link w m refl (λ h. ordered h n (n + nodes f)), tt);
      }

  linked_well : (w : Word) (pl ql : Place) (a b : Want) → (list_any (is_word w) axiom_predicates && links_at w pl ql a b) ≡ true → (d : IsEnd a) (e : IsEnd b) → (is_node_word w ≡ true → IsOrdered d.form e.form) → IsWellDrawn name most (by_triple (LinkedBy w) (placed_at pl d.form ∷ placed_at ql e.form ∷ []))
  linked_well w Subject Object a b h d e ordered =
      let tests = and_parts (list_any (is_word w) axiom_predicates) (is_subject a) h in
      linked_so w d.form e.form (in_words w axiom_predicates tests.0) d.fact.apart (λ n. subject_at name k IsForeignLabel a d.form n tests.1 d.fact.known) ordered
  linked_well w Object Subject a b h d e ordered =
      let tests = and_parts (list_any (is_word w) axiom_predicates) (is_subject b && not (is_node_word w)) h in
      let at = and_parts (is_subject b) (not (is_node_word w)) tests.1 in
      record {
        said = λ e. cc;
        apart = e.fact.apart;
        subject = λ n. (subject_at name k IsForeignLabel b e.form (n + nodes d.form) at.0 e.fact.known, tt);
        says = λ n. (
          by_link w (in_words w axiom_predicates tests.0) refl (λ m. absurd (both_ways (is_node_word w) (not-true (is_node_word w) at.1) m)),
          tt,
        );
      }
  linked_well w _ _ a b h d e ordered = absurd (both_ways false refl (and_parts (list_any (is_word w) axiom_predicates) false h).1)

  class_well : (pl ql : Place) (a b : Want) → classes_at pl ql a b ≡ true → (d : IsEnd a) (e : IsEnd b) → IsWellDrawn name most (by_triple OtherType (placed_at pl d.form ∷ placed_at ql e.form ∷ []))
  class_well Object Subject a b h d e =
      let tests = and_parts (is_class a) (is_subject b) h in
      record {
        said = λ e. cc;
        apart = e.fact.apart;
        subject = λ n. (subject_at name k IsForeignLabel b e.form (n + nodes d.form) tests.1 e.fact.known, tt);
        says = λ n. (by_class refl (λ w. class_at name k IsForeignLabel a d.form n w tests.0 d.fact.known), tt);
      }
  class_well _ _ a b h d e = absurd (both_ways false refl h)

  assertion_well : (pl ql rl : Place) (a b c : Want) → asserts_at pl ql rl a b ≡ true → (d : IsEnd a) (e : IsEnd b) (f : IsEnd c) → IsWellDrawn name most (by_triple OtherLink (placed_at pl d.form ∷ placed_at ql e.form ∷ placed_at rl f.form ∷ []))
  assertion_well Predicate Subject Object a b c h d e f =
      let tests = and_parts (is_free_property a) (is_subject b) h in
      let property = property_at name k IsForeignLabel a d.form tests.0 d.fact.known in
      subst (λ p. IsWellDrawn name most (by_predicate p e.form f.form)) (sym property.is)
      (record {
        said = λ e. cc;
        apart = e.fact.apart;
        subject = λ n. (subject_at name k IsForeignLabel b e.form n tests.1 e.fact.known, tt);
        says = λ n. (by_free property.free, tt);
      })
  assertion_well _ _ _ a b c h d e f = absurd (both_ways false refl h)

  -- what two forms have to be so that a triple that links them makes no node
  abbrev pub AreOrdered : (ps : List Part) → ArePlaced (IsEndAt name most k) ps → Type 0
  AreOrdered (p ∷ q ∷ []) d = IsOrdered d.0.form d.1.0.form
  AreOrdered _ d = Unit {0}

  -- a row whose axioms are triples states them so that they are told from all else
  pub triple_well : (site : Site) (ps : List Part) → is_triple_row site ps ≡ true → (d : ArePlaced (IsEndAt name most k) ps) → ((w : Word) → site ≡ LinkedBy w → is_node_word w ≡ true → AreOrdered ps d) → IsWellDrawn name most (by_triple site (placings (IsEndAt name most k) ps d))
  triple_well (TypedBy w) (p ∷ []) h d o = typed_well w p.place p.want h d.0
  triple_well (LinkedBy w) (p ∷ q ∷ []) h d o = linked_well w p.place q.place p.want q.want h d.0 d.1.0 (o w refl)
  triple_well OtherType (p ∷ q ∷ []) h d o = class_well p.place q.place p.want q.want h d.0 d.1.0
  triple_well OtherLink (p ∷ q ∷ r ∷ []) h d o = assertion_well p.place q.place r.place p.want q.want r.want h d.0 d.1.0 d.1.1.0
  triple_well _ _ h d o = absurd (both_ways false refl h)
