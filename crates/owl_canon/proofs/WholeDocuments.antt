-- Documents, and what they are read of.
use Rattle.std.proofs.Common.{◌≡◌, ◌<◌, ◌≤◌, ◌+◌, ℕ, List, [], ◌∷◌, length, map, get_or, sym, ap, ◌∙◌, subst, arith}
use Rattle.std.specs.List.{AllByRecursion, sum_by}
use Rattle.std.proofs.lemmas.List.{get_or-map, length-map}
use Rattle.std.proofs.lemmas.List.Sums.{sum_by-cons}
use Rattle.owl_arena.specs.Held.{AreHeld, Held, tree_at, trees_at}
use Rattle.owl_arena.specs.Shared.{AreShared, deepest, heaviest}
use Rattle.owl_arena.proofs.HeldLaws.{entry_at}
use Rattle.owl_canon.specs.Bytes.{ontology_bytes}
use Rattle.owl_canon.specs.Limits.{HasBytes, IsCountable, IsShallow, IsText, IsWithinLimits, ReadsCanonical}
use Rattle.owl_canon.specs.Readable.{AreReadable}
use Rattle.owl_assembly.specs.Assembled.{assembled}
use Rattle.owl_doc.specs.declared.head.Head as held
use Rattle.rdf_normal.specs.Makings.{Extends}
use Rattle.rdf_normal.proofs.Extending.{trees_later}
use Rattle.owl_doc.specs.Heads.{head_of}
use Rattle.owl_list.proofs.AscendingLaws.{all_ascending, all_in}
use Rattle.owl_tree.specs.Canonical.{SetsAscend, canonical}
use Rattle.owl_tree.specs.Order.{tree_cmp}
use Rattle.owl_tree.specs.Shape.{IsShaped}
use Rattle.owl_tree.proofs.CanonicalLaws.{canonical_ascends}
use Rattle.owl_tree.proofs.OntologyLaws.{canonical_ontology_again}
use Rattle.owl_characters.specs.Iri.{IsIri}
use Rattle.owl_doc.specs.Documents.{Document, IsDocument, ontology_of}
use Rattle.owl_tree.specs.Ontologies.{Head, IsAnnotation, IsAxiom, Ontology, canonical_list, canonical_ontology, list_weight}
use Rattle.owl_tree.specs.Trees.{Tree, weight}

shallow_at : (ts : List Tree) (ids : List ℕ) → AreShared ts → AreHeld ts ids → AllByRecursion IsShallow (trees_at ts ids)
shallow_at ts [] shared held = tt
shallow_at ts (id ∷ ids) shared held = ((entry_at ts id shared held.0).depth, shallow_at ts ids shared held.1)

-- the ontology of every document is within the limits
pub within_limits : (d : Document) (arena : Held) → arena ≡ d.arena → IsDocument d → AreShared arena.trees → HasBytes (ontology_of d) → IsWithinLimits (canonical_ontology (ontology_of d))
within_limits d arena e document shared bytes =
    let own : AreShared d.arena.trees = subst (λ (a : Held). AreShared a.trees) e shared in
    subst IsWithinLimits (sym document.canonical) record {
      ontology = document.ontology;
      bytes = bytes;
      annotations = shallow_at d.arena.trees d.notes own document.notes;
      axioms = shallow_at d.arena.trees d.axioms own document.axioms;
      weight = document.weight;
    }

pub record IsGoodIri (iri : List ℕ) : Type 0 where
  pub iri_is : IsIri iri
  pub text_is : IsText iri

pub good_iris : (iris : List (List ℕ)) → AllByRecursion IsIri iris → AllByRecursion IsText iris → AllByRecursion IsGoodIri iris
good_iris [] h k = tt
good_iris (iri ∷ iris) h k = (record { iri_is = h.0; text_is = k.0 }, good_iris iris h.1 k.1)

-- ---- lists of trees

pub tree_of_all : (Fact : Tree → Type 0) (ts : List Tree) (ids : List ℕ) (i id : ℕ) → i < length ids → id ≡ get_or ids i id → AllByRecursion Fact (trees_at ts ids) → Fact (tree_at ts id)
tree_of_all Fact ts ids i id l e h =
    all_in Fact (trees_at ts ids) (tree_at ts id) h (i, omega (arith, length-map ids (tree_at ts)), get_or-map (tree_at ts) ids i id (tree_at ts id) l ∙ ap (tree_at ts) (sym e))

weighs_less : (ts : List Tree) (n : ℕ) → sum_by weight ts ≤ n → AllByRecursion (λ t. weight t ≤ n) ts
weighs_less [] n l = tt
weighs_less (t ∷ ts) n l = (omega (arith, sum_by-cons weight t ts), weighs_less ts n (omega (arith, sum_by-cons weight t ts)))

ascend_each : (ts : List Tree) → AllByRecursion SetsAscend (map canonical ts)
ascend_each [] = tt
ascend_each (t ∷ ts) = (canonical_ascends t, ascend_each ts)

-- each tree of a canonical list is canonical
ascend : (ts : List Tree) → canonical_list ts ≡ ts → AllByRecursion SetsAscend ts
ascend ts e = subst (AllByRecursion SetsAscend) e (all_ascending SetsAscend tree_cmp (map canonical ts) (ascend_each ts))

readable_each : (ts : List Tree) → AllByRecursion IsShaped ts → AllByRecursion SetsAscend ts → AllByRecursion IsCountable ts → AllByRecursion IsShallow ts → AllByRecursion (λ t. weight t ≤ heaviest) ts → AreReadable deepest ts
readable_each [] shaped ascends countable shallow light = tt
readable_each (t ∷ ts) shaped ascends countable shallow light = (
  record { shaped = shaped.0; ascends = ascends.0; countable = countable.0; depth = shallow.0; limit = omega arith; weight = light.0 },
  readable_each ts shaped.1 ascends.1 countable.1 shallow.1 light.1,
)

pub readable_list : (ts : List Tree) → canonical_list ts ≡ ts → AllByRecursion IsShaped ts → AllByRecursion IsCountable ts → AllByRecursion IsShallow ts → list_weight ts ≤ heaviest → AreReadable deepest ts
readable_list ts e shaped countable shallow light =
    readable_each ts shaped (ascend ts e) countable shallow (weighs_less ts heaviest (subst (λ (us : List Tree). sum_by weight us ≤ heaviest) e light))

pub annotations_shaped : (ts : List Tree) → AllByRecursion IsAnnotation ts → AllByRecursion IsShaped ts
annotations_shaped [] h = tt
annotations_shaped (t ∷ ts) h = (h.0.shaped, annotations_shaped ts h.1)

pub axioms_shaped : (ts : List Tree) → AllByRecursion IsAxiom ts → AllByRecursion IsShaped ts
axioms_shaped [] h = tt
axioms_shaped (t ∷ ts) h = (h.0.shaped, axioms_shaped ts h.1)

-- ---- an ontology that is written

module _ (o : Ontology) (w : IsWithinLimits o) (own : canonical_ontology o ≡ o) where
  pub notes_readable : AreReadable deepest o.annotations
  notes_readable =
      let heavy : list_weight o.annotations + list_weight o.axioms ≤ heaviest = w.weight in
      readable_list o.annotations (ap (λ (p : Ontology). p.annotations) own) (annotations_shaped o.annotations w.ontology.annotations) w.bytes.annotations.each w.annotations (omega arith)

  pub axioms_readable : AreReadable deepest o.axioms
  axioms_readable =
      let heavy : list_weight o.annotations + list_weight o.axioms ≤ heaviest = w.weight in
      readable_list o.axioms (ap (λ (p : Ontology). p.axioms) own) (axioms_shaped o.axioms w.ontology.axioms) w.bytes.axioms.each w.axioms (omega arith)

-- ---- canonical bytes of equivalent ontologies

pub reads_form : (bytes : List ℕ) (o p : Ontology) → p ≡ canonical_ontology o → ReadsCanonical bytes o → ReadsCanonical bytes p
reads_form bytes o p e h =
    let again : canonical_ontology p ≡ canonical_ontology o = ap canonical_ontology e ∙ canonical_ontology_again o in
    record { written = ap ontology_bytes again ∙ h.written; within = subst IsWithinLimits (sym again) h.within }

-- ---- what is put together of an ontology's parts

abbrev parts : Head → List Tree → List Tree → Ontology
parts head notes axioms = record { head = head; annotations = notes; axioms = axioms }

pub whole : (o : Ontology) (h : held.Head) (mid final : List Tree) (notes axioms lent others : List ℕ) → head_of h ≡ o.head → lent ≡ notes → others ≡ axioms → Extends mid final → AreHeld mid notes →
    trees_at mid notes ≡ o.annotations → trees_at final axioms ≡ o.axioms → assembled h final lent others ≡ o
whole o h mid final notes axioms lent others head e f k held g l =
    ap (λ (x : Head). parts x (trees_at final lent) (trees_at final others)) head
    ∙ ap (λ (ts : List Tree). parts o.head ts (trees_at final others)) (ap (trees_at final) e ∙ trees_later mid final notes k held ∙ g)
    ∙ ap (parts o.head o.annotations) (ap (trees_at final) f ∙ l)
