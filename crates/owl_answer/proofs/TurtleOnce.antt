-- What becomes of a document that is translated is one.
use Rattle.std.proofs.Common.{◌≡◌, ◌+◌, ℕ, List, ◌++◌, length, codes, sym, ap, ◌∙◌, subst, arith}
use Rattle.std.specs.List.{sum_by}
use Rattle.std.specs.Str.{encode_utf8_all}
use Rattle.fss_write.specs.Text.{text_of}
use Rattle.owl_atom.specs.declared.prefixes.Prefix.{Prefix}
use Rattle.owl_command.specs.declared.command.Layout.{Layout}
use Rattle.owl_command.specs.declared.command.Layout.TheVariants.{Flat, Nested}
use Rattle.owl_command.specs.declared.status.Status.TheVariants.{Done}
use Rattle.rdf_graph.specs.declared.triple.Triple.{Triple}
use Rattle.rdf_mapping.specs.Graphs.{graph_of}
use Rattle.ttl_nest.proofs.OneFormLaws.{one_text}
use Rattle.owl_doc.specs.Counts.{axiom_count, subtrees_of}
use Rattle.owl_kind.specs.Kinds.{Entity}
use Rattle.owl_list.specs.Ascending.{ascending}
use Rattle.owl_tree.specs.Ontologies.{IsSameOntology, Ontology, canonical_ontology}
use Rattle.owl_tree.proofs.OntologyLaws.{same_ontology_is_equal_form}
use Rattle.owl_tree.specs.Order.{tree_cmp}
use Rattle.owl_tree.specs.Trees.{kids_of, weight}
use Rattle.owl_documents.specs.Documents.{IsSame, Said}
use Rattle.rdf_normal.specs.NormalForms.{absorbed_count}
use Rattle.rdf_sayable.proofs.SayableLaws.{not_all_said, unsayable_once}
use Rattle.owl_messages.specs.Refusals.{two_kinds, undeclared, unsayable}
use Rattle.owl_messages.specs.Summary.{count_line, name_lines}
use Rattle.owl_answer.specs.Typing.{DeclareSame}
use Rattle.owl_kind.proofs.OrderLaws.{clash_once}
use Rattle.owl_answer.proofs.TypingLaws.{not_all_typed, same_kinds_apart, same_kinds_clash, same_kinds_typed, same_kinds_untyped, same_ontology_typed, same_ontology_untyped, untyped_once}
use Rattle.owl_answer.specs.TurtleOutcome.{IsFormTold, IsFunctionalTranslation, IsGraphTold, IsGraphText, IsGraphTranslation, IsTold, IsTurtleTranslation, IsTyped, IsTypingRefusal, canonical_said, clashes, few, heavy, ill_typed, light, many, not_typed, ready, turtle_form, unsaid, untyped, well_typed}
use Rattle.owl_answer.proofs.Wanting.{limited_more, limited_once}
use Rattle.owl_messages.specs.Outcome.{Outcome, counts_line, shown, translation}

pub same_form : (a b : Said) → IsSame a b → canonical_ontology a.ontology ≡ canonical_ontology b.ontology
same_form a b s = (same_ontology_is_equal_form a.ontology b.ontology).0 s.ontology

pub same_said : (a b : Said) → IsSame a b → canonical_said a ≡ canonical_said b
same_said a b s = λ i. record { prefixes = s.prefixes i; ontology = same_form a b s i }

-- what is answered depends on the prefixes and on the canonical form alone
pub translation_same : (a b : Said) → IsSame a b → translation a ≡ translation b
translation_same a b s = λ i. of_form (s.prefixes i) (same_form a b s i)
  where
    of_form : List Prefix → Ontology → Outcome
    of_form table c = record { status = Done; text = encode_utf8_all (text_of table c); line = counts_line (length c.axioms) 0 }

pub shown_same : (a b : Said) → IsSame a b → shown a ≡ shown b
shown_same a b s = λ i. of_form (same_form a b s i)
  where
    of_form : Ontology → Outcome
    of_form c = record {
      status = Done;
      text = name_lines c.head.name ++ ((count_line (codes "imports") (length c.head.imports) ++ count_line (codes "annotations") (length c.annotations)) ++ (count_line (codes "axioms") (length c.axioms) ++ (count_line (codes "distinct") (length (ascending tree_cmp (subtrees_of (kids_of (c.annotations ++ c.axioms))))) ++ count_line (codes "weight") (sum_by weight c.annotations + sum_by weight c.axioms))));
      line = codes "shown\n";
    }

-- one refusal at most, and none of what is well typed
module _ (kinds : List Entity) (o : Ontology) where
  pub refusal_once : (a b : Outcome) → IsTypingRefusal kinds o a → IsTypingRefusal kinds o b → a ≡ b
  refusal_once a b (clashes iri h e) (clashes other k f) = e ∙ ap two_kinds (clash_once kinds iri other h k) ∙ sym f
  refusal_once a b (clashes iri h e) (untyped apart part x k f) = absurd (apart iri h.clash)
  refusal_once a b (untyped apart part x h e) (clashes iri k f) = absurd (apart iri k.clash)
  refusal_once a b (untyped apart part x h e) (untyped beside other y k f) =
      let same = untyped_once kinds o part other x y h k in
      e ∙ (λ i. undeclared (same.0 i) (same.1 i)) ∙ sym f

  pub refusal_or_typed : (a : Outcome) → IsTypingRefusal kinds o a → IsTyped kinds o → ⊥
  refusal_or_typed a (clashes iri h e) t = t.no_clash iri h.clash
  refusal_or_typed a (untyped apart part x h e) t = not_all_typed kinds o part x h t.typed

-- where the same is declared
pub typed_alike : (kinds others : List Entity) (o : Ontology) → DeclareSame kinds others → IsTyped kinds o → IsTyped others o
typed_alike kinds others o same t = record { no_clash = same_kinds_apart kinds others same t.no_clash; typed = same_kinds_typed kinds others o same t.typed }

pub refusal_alike : (kinds others : List Entity) (o : Ontology) (a : Outcome) → DeclareSame kinds others → IsTypingRefusal kinds o a → IsTypingRefusal others o a
refusal_alike kinds others o a same (clashes iri h e) = clashes iri (same_kinds_clash kinds others iri same h) e
refusal_alike kinds others o a same (untyped apart part x h e) = untyped (same_kinds_apart kinds others same apart) part x (same_kinds_untyped kinds others o part x same h) e

-- of equivalent ontologies
module _ (kinds : List Entity) (o p : Ontology) (s : IsSameOntology o p) where
  pub typed_same : IsTyped kinds o → IsTyped kinds p
  typed_same t = record { no_clash = t.no_clash; typed = same_ontology_typed kinds o p s t.typed }

  refusal_same : (a : Outcome) → IsTypingRefusal kinds o a → IsTypingRefusal kinds p a
  refusal_same a (clashes iri h e) = clashes iri h e
  refusal_same a (untyped apart part x h e) = untyped apart part x (same_ontology_untyped kinds o p part x s h) e

-- what becomes of a graph's ontology in Functional-Style Syntax
pub functional_once : (kinds : List Entity) (main : Said) (a b : Outcome) → IsFunctionalTranslation kinds main a → IsFunctionalTranslation kinds main b → a ≡ b
functional_once kinds main a b (ill_typed h) (ill_typed k) = refusal_once kinds main.ontology a b h k
functional_once kinds main a b (ill_typed h) (well_typed t w) = absurd (refusal_or_typed kinds main.ontology a h t)
functional_once kinds main a b (well_typed t v) (ill_typed k) = absurd (refusal_or_typed kinds main.ontology b k t)
functional_once kinds main a b (well_typed t v) (well_typed u w) =
    limited_once (λ o. o ≡ translation main) (λ o. o ≡ translation main) (λ x y p q. p ∙ sym q) a b v w

pub functional_same : (kinds : List Entity) (main other : Said) (a : Outcome) → IsSame main other → IsFunctionalTranslation kinds main a → IsFunctionalTranslation kinds other a
functional_same kinds main other a s (ill_typed h) = ill_typed (refusal_same kinds main.ontology other.ontology s.ontology a h)
functional_same kinds main other a s (well_typed t w) =
    well_typed (typed_same kinds main.ontology other.ontology s.ontology t) (limited_more _ _ (λ o k. k ∙ translation_same main other s) a w)

-- what becomes of a document in Turtle
text_once : (layout : Layout) (prefixes : List Prefix) (g : List Triple) (text other : List ℕ) → IsGraphText layout prefixes g text → IsGraphText layout prefixes g other → text ≡ other
text_once Flat prefixes g text other h k = h ∙ sym k
text_once Nested prefixes g text other h k = one_text prefixes g text other h k

module _ (layout : Layout) where
  written_once : (form : Said) (absorbed : ℕ) (a b : Outcome) → IsGraphTranslation layout form absorbed a → IsGraphTranslation layout form absorbed b → a ≡ b
  written_once form absorbed a b h k =
      h.told ∙ ap (λ (text : List ℕ). record { status = Done; text = encode_utf8_all text; line = counts_line (axiom_count form.ontology) absorbed }) (text_once layout form.prefixes (graph_of form.ontology) h.text k.text h.is k.is) ∙ sym k.told

  form_once : (form : Said) (absorbed : ℕ) (a b : Outcome) → IsFormTold layout form absorbed a → IsFormTold layout form absorbed b → a ≡ b
  form_once form absorbed a b (many l e) (many m f) = e ∙ sym f
  form_once form absorbed a b (many l e) (few m w) = absurd (omega arith)
  form_once form absorbed a b (few l v) (many m f) = absurd (omega arith)
  form_once form absorbed a b (few l v) (few m w) =
      limited_once (IsGraphTranslation layout form absorbed) (IsGraphTranslation layout form absorbed) (λ x y p q. written_once form absorbed x y p q) a b v w

  graph_once : (main : Said) (a b : Outcome) → IsGraphTold layout main a → IsGraphTold layout main b → a ≡ b
  graph_once main a b (heavy l e) (heavy m f) = e ∙ sym f
  graph_once main a b (heavy l e) (light m w) = absurd (omega arith)
  graph_once main a b (light l v) (heavy m f) = absurd (omega arith)
  graph_once main a b (light l v) (light m w) = form_once (turtle_form main) (absorbed_count main.ontology) a b v w

  pub told_once : (kinds : List Entity) (main : Said) (a b : Outcome) → IsTold layout kinds main a → IsTold layout kinds main b → a ≡ b
  told_once kinds main a b (not_typed h) (not_typed k) = refusal_once kinds main.ontology a b h k
  told_once kinds main a b (not_typed h) (unsaid t part why k f) = absurd (refusal_or_typed kinds main.ontology a h t)
  told_once kinds main a b (not_typed h) (ready r w) = absurd (refusal_or_typed kinds main.ontology a h r.typed)
  told_once kinds main a b (unsaid t part why h e) (not_typed k) = absurd (refusal_or_typed kinds main.ontology b k t)
  told_once kinds main a b (unsaid t part why h e) (unsaid u other because k f) =
      let same = unsayable_once main.ontology part other why because h k in
      e ∙ (λ i. unsayable (same.0 i) (same.1 i)) ∙ sym f
  told_once kinds main a b (unsaid t part why h e) (ready r w) = absurd (not_all_said main.ontology part why h r.sayable)
  told_once kinds main a b (ready r v) (not_typed k) = absurd (refusal_or_typed kinds main.ontology b k r.typed)
  told_once kinds main a b (ready r v) (unsaid t part why k f) = absurd (not_all_said main.ontology part why k r.sayable)
  told_once kinds main a b (ready r v) (ready s w) = graph_once main a b v w

  pub translation_once : (kinds : List Entity) (main : Said) (a b : Outcome) → IsTurtleTranslation layout kinds main a → IsTurtleTranslation layout kinds main b → a ≡ b
  translation_once kinds main a b h k = told_once kinds (canonical_said main) a b h k

  told_alike : (kinds others : List Entity) (main : Said) (a : Outcome) → DeclareSame kinds others → IsTold layout kinds main a → IsTold layout others main a
  told_alike kinds others main a same (not_typed h) = not_typed (refusal_alike kinds others main.ontology a same h)
  told_alike kinds others main a same (unsaid t part why h e) = unsaid (typed_alike kinds others main.ontology same t) part why h e
  told_alike kinds others main a same (ready r w) = ready (record { typed = typed_alike kinds others main.ontology same r.typed; sayable = r.sayable }) w

  pub translation_alike : (kinds others : List Entity) (main other : Said) (a : Outcome) → DeclareSame kinds others → IsSame main other → IsTurtleTranslation layout kinds main a → IsTurtleTranslation layout others other a
  translation_alike kinds others main other a same s h =
      subst (λ (x : Said). IsTold layout others x a) (same_said main other s) (told_alike kinds others (canonical_said main) a same h)
