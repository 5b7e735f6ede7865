-- The laws of the order of terms and triples.
use Rattle.std.specs.Prelude.{◌≡◌, ◌↔◌, IsTrue, None, Some, Bool, true}
use Rattle.std.specs.Cmp.{IsTotalOrder}
use Rattle.std.specs.FinMap.{IsAntisymmetric}
use Rattle.std.specs.Option.{option_cmp}
use Rattle.std.specs.Ordering.{eq_by_cmp, is_eq, ordering_then}
use Rattle.std.specs.declared.cmp.Ordering.{Ordering}
use Rattle.std.specs.declared.cmp.Ordering.TheVariants.{Less, Equal, Greater}
use Rattle.std.proofs.Common.{refl, sym, ap, ◌∙◌, subst}
use Rattle.std.proofs.lemmas.Cmp.{on_total, then_total, tied_itself}
use Rattle.owl_characters.specs.Order.{text_cmp}
use Rattle.owl_characters.specs.OrderLaws.{same_texts, texts_total}
use Rattle.rdf_terms.specs.Literals.{literal_cmp}
use Rattle.rdf_graph.specs.contracts.term.TermOrd.TheImpl as terms
use Rattle.rdf_graph.specs.contracts.term.TermOrd.TheImpl.Laws as term_laws
use Rattle.rdf_graph.specs.contracts.term.TermPartialEq.TheImpl as equal_terms
use Rattle.rdf_graph.specs.contracts.triple.TripleOrd.TheImpl as triples
use Rattle.rdf_graph.specs.contracts.triple.TripleOrd.TheImpl.Laws as triple_laws
use Rattle.rdf_graph.specs.contracts.triple.TriplePartialEq.TheImpl as equal_triples
use Rattle.rdf_graph.specs.declared.term.Term.{Term}
use Rattle.rdf_graph.specs.declared.term.Term.TheVariants.{Iri, Blank, Literal}
use Rattle.rdf_graph.specs.declared.triple.Triple.{Triple}
use Rattle.rdf_graph.specs.Terms.{term_cmp, triple_cmp}

then_first : (o p : Ordering) → ordering_then o p ≡ Equal → o ≡ Equal
then_first Less p e = cc
then_first Equal p e = refl
then_first Greater p e = cc

then_second : (o p : Ordering) → ordering_then o p ≡ Equal → p ≡ Equal
then_second Less p e = cc
then_second Equal p e = e
then_second Greater p e = cc

pub only_equal_options_tie : {X : Type 0} {R : X → X → Ordering} → IsAntisymmetric R → IsAntisymmetric (option_cmp R)
only_equal_options_tie same None None e = refl
only_equal_options_tie same None (Some y) e = cc
only_equal_options_tie same (Some x) None e = cc
only_equal_options_tie same (Some x) (Some y) e = ap Some (same x y e)

only_equal_literals_tie : IsAntisymmetric literal_cmp
only_equal_literals_tie a b e =
    let lexical = same_texts a.lexical b.lexical (then_first _ _ e) in
    let rest = then_second (text_cmp a.lexical b.lexical) _ e in
    let datatype = same_texts a.datatype b.datatype (then_first _ _ rest) in
    let tag = only_equal_options_tie same_texts a.tag b.tag (then_second (text_cmp a.datatype b.datatype) _ rest) in
    λ i. record { lexical = lexical i; datatype = datatype i; tag = tag i }

-- the derived order is that of the definition
pub same_order : (a b : Term) → terms.ghosts.cmp a b ≡ term_cmp a b
same_order (Iri a) (Iri b) = refl
same_order (Iri a) (Blank b) = refl
same_order (Iri a) (Literal b) = refl
same_order (Blank a) (Iri b) = refl
same_order (Blank a) (Blank b) = refl
same_order (Blank a) (Literal b) = refl
same_order (Literal a) (Iri b) = refl
same_order (Literal a) (Blank b) = refl
same_order (Literal a) (Literal b) = refl

pub terms_total : IsTotalOrder term_cmp
terms_total = subst IsTotalOrder (λ i a b. same_order a b i) term_laws.total-law

pub only_equal_terms_tie : IsAntisymmetric term_cmp
only_equal_terms_tie (Iri a) (Iri b) e = ap Iri (same_texts a b e)
only_equal_terms_tie (Iri a) (Blank b) e = cc
only_equal_terms_tie (Iri a) (Literal b) e = cc
only_equal_terms_tie (Blank a) (Iri b) e = cc
only_equal_terms_tie (Blank a) (Blank b) e = ap Blank (same_texts a b e)
only_equal_terms_tie (Blank a) (Literal b) e = cc
only_equal_terms_tie (Literal a) (Iri b) e = cc
only_equal_terms_tie (Literal a) (Blank b) e = cc
only_equal_terms_tie (Literal a) (Literal b) e = ap Literal (only_equal_literals_tie a b e)

pub triples_total : IsTotalOrder triple_cmp
triples_total = then_total (on_total (λ t. t.subject) terms_total) (then_total (on_total (λ t. t.predicate) texts_total) (on_total (λ t. t.object) terms_total))

pub only_equal_triples_tie : IsAntisymmetric triple_cmp
only_equal_triples_tie a b e =
    let subject = only_equal_terms_tie a.subject b.subject (then_first _ _ e) in
    let rest = then_second (term_cmp a.subject b.subject) _ e in
    let predicate = same_texts a.predicate b.predicate (then_first _ _ rest) in
    let object = only_equal_terms_tie a.object b.object (then_second (text_cmp a.predicate b.predicate) _ rest) in
    λ i. record { subject = subject i; predicate = predicate i; object = object i }

-- the derived order is that of the definition
pub same_triple_order : (a b : Triple) → triples.ghosts.cmp a b ≡ triple_cmp a b
same_triple_order a b =
    λ i. ordering_then (same_order a.subject b.subject i) (ordering_then (text_cmp a.predicate b.predicate) (same_order a.object b.object i))

-- what the program's tests of equality mean

is_equal : (o : Ordering) → is_eq o ≡ true → o ≡ Equal
is_equal Less h = cc
is_equal Equal h = refl
is_equal Greater h = cc

module _ {X : Type 0} (eq : X → X → Bool) (derived cmp : X → X → Ordering) (matches : (a b : X) → eq a b ≡ eq_by_cmp derived a b) (is : (a b : X) → derived a b ≡ cmp a b)
    (total : IsTotalOrder cmp) (same : IsAntisymmetric cmp) where
  tells : (a b : X) → IsTrue (eq a b) ↔ (a ≡ b)
  tells a b = (
    λ h. same a b (sym (is a b) ∙ is_equal _ (sym (matches a b) ∙ h)),
    λ e. matches a b ∙ ap is_eq (is a b ∙ subst (λ (c : X). cmp a c ≡ Equal) e (tied_itself total a)),
  )

pub same_term : (a b : Term) → IsTrue (equal_terms.ghosts.eq a b) ↔ (a ≡ b)
same_term = tells equal_terms.ghosts.eq terms.ghosts.cmp term_cmp term_laws.matches_eq-law same_order terms_total only_equal_terms_tie

pub same_triple : (a b : Triple) → IsTrue (equal_triples.ghosts.eq a b) ↔ (a ≡ b)
same_triple = tells equal_triples.ghosts.eq triples.ghosts.cmp triple_cmp triple_laws.matches_eq-law same_triple_order triples_total only_equal_triples_tie

pub only_equal_terms_compare_equal : (a b : Term) → IsTrue (eq_by_cmp term_cmp a b) ↔ (a ≡ b)
only_equal_terms_compare_equal = tells (eq_by_cmp term_cmp) term_cmp term_cmp (λ a b. refl) (λ a b. refl) terms_total only_equal_terms_tie
