-- Documents with more declarations.
use Rattle.std.proofs.Common.{◌≡◌, ℕ, Option, List, [], ◌∷◌, ◌++◌, map, refl, sym, ap, ◌∙◌, subst}
use Rattle.std.specs.List.{AllByRecursion}
use Rattle.owl_arena.specs.Held.{AreHeld, trees_at}
use Rattle.owl_assembly.specs.Assembled.{assembled}
use Rattle.owl_assembly.specs.Filling.{AreAnnotations, AreAxioms}
use Rattle.owl_doc.specs.Copies.{IsCopy}
use Rattle.owl_doc.specs.declared.head.Head as held
use Rattle.owl_doc.specs.Documents.{Document, IsDocument, ontology_of}
use Rattle.owl_doc.specs.Heads.{head_of, name_of}
use Rattle.owl_kind.specs.declared.kind.Kind.{Kind}
use Rattle.owl_tree.specs.Ontologies.{Head, IsAnnotation, IsAxiom, Ontology}
use Rattle.owl_tree.specs.Tags.{number_of}
use Rattle.owl_tree.specs.Trees.{Tree}
use Rattle.rdf_normal.specs.Makings.{AreMade}
use Rattle.rdf_normal.proofs.Extending.{trees_later}
use Rattle.owl_declarations.specs.Declarations.{declaration, with_declarations}

both : (xs ys : List Tree) → AreAxioms xs → AreAxioms ys → AreAxioms (xs ++ ys)
both [] ys h k = k
both (x ∷ xs) ys h k = (h.0, both xs ys h.1 k)

are_axioms : (kind : Kind) (iris : List (List ℕ)) → AreAxioms (map (declaration kind) iris)
unfolding number_of
are_axioms kind [] = tt
are_axioms kind (iri ∷ iris) = (refl, are_axioms kind iris)

tagged : (ts : List Tree) → AllByRecursion IsAxiom ts → AreAxioms ts
tagged [] h = tt
tagged (t ∷ ts) h = (h.0.tag, tagged ts h.1)

annotations : (ts : List Tree) → AllByRecursion IsAnnotation ts → AreAnnotations ts
annotations [] h = tt
annotations (t ∷ ts) h = (h.0.tag, annotations ts h.1)

-- what is put together: the trees of the document, and behind them the declarations, over its head
pub record IsPrepared (kind : Kind) (iris : List (List ℕ)) (d : Document) (ts us : List Tree) (h copy : held.Head) (notes axioms own : List ℕ) : Type 0 where
  pub document : IsDocument d
  pub head : head_of h ≡ d.head
  pub copied : IsCopy h copy
  pub trees : ts ≡ d.arena.trees
  pub its_notes : notes ≡ d.notes
  pub its_axioms : own ≡ d.axioms
  pub made : AreMade ts us axioms (trees_at ts own ++ map (declaration kind) iris)

pub prepared : (kind : Kind) (iris : List (List ℕ)) (d : Document) (ts us : List Tree) (h copy : held.Head) (notes axioms lent own : List ℕ) → IsDocument d →
    head_of h ≡ d.head → IsCopy h copy → ts ≡ d.arena.trees → notes ≡ d.notes → own ≡ d.axioms → lent ≡ axioms →
    AreMade ts us axioms (trees_at ts own ++ map (declaration kind) iris) → IsPrepared kind iris d ts us h copy notes lent own
prepared kind iris d ts us h copy notes axioms lent own document head copied trees its_notes its_axioms e made = record {
  document = document;
  head = head;
  copied = copied;
  trees = trees;
  its_notes = its_notes;
  its_axioms = its_axioms;
  made = subst (λ (ns : List ℕ). AreMade ts us ns (trees_at ts own ++ map (declaration kind) iris)) (sym e) made;
}

own_trees : (d : Document) (ts : List Tree) (own : List ℕ) → ts ≡ d.arena.trees → own ≡ d.axioms → trees_at ts own ≡ trees_at d.arena.trees d.axioms
own_trees d ts own e f = ap (λ (xs : List Tree). trees_at xs own) e ∙ ap (trees_at d.arena.trees) f

abbrev made_head : Option (List ℕ) → Option (List ℕ) → List (List ℕ) → Head
made_head iri version imports = record { name = name_of iri version; imports = imports }

abbrev parts : Head → List Tree → List Tree → Ontology
parts h notes axioms = record { head = h; annotations = notes; axioms = axioms }

module _ (kind : Kind) (iris : List (List ℕ)) (d : Document) (ts us : List Tree) (h copy : held.Head) (notes axioms own : List ℕ)
    (p : IsPrepared kind iris d ts us h copy notes axioms own) where
  axioms_are : trees_at us axioms ≡ (with_declarations kind iris (ontology_of d)).axioms
  axioms_are = p.made.trees ∙ ap (λ (xs : List Tree). xs ++ map (declaration kind) iris) (own_trees d ts own p.trees p.its_axioms)

  notes_are : trees_at us notes ≡ trees_at d.arena.trees d.notes
  notes_are =
      ap (trees_at us) p.its_notes
      ∙ trees_later ts us d.notes p.made.extends (subst (λ (xs : List Tree). AreHeld xs d.notes) (sym p.trees) p.document.notes)
      ∙ ap (λ (xs : List Tree). trees_at xs d.notes) p.trees

  head_is : head_of copy ≡ d.head
  head_is =
      ap (λ (o : Option (List ℕ)). made_head o copy.version copy.imports.items) p.copied.iri
      ∙ ap (λ (o : Option (List ℕ)). made_head h.iri o copy.imports.items) p.copied.version
      ∙ ap (made_head h.iri h.version) p.copied.imports
      ∙ p.head

  pub form_is : assembled copy us notes axioms ≡ with_declarations kind iris (ontology_of d)
  form_is =
      ap (λ (x : Head). parts x (trees_at us notes) (trees_at us axioms)) head_is
      ∙ ap (λ (xs : List Tree). parts d.head xs (trees_at us axioms)) notes_are
      ∙ ap (parts d.head (trees_at d.arena.trees d.notes)) axioms_are

  pub axioms_stand : AreAxioms (trees_at us axioms)
  axioms_stand = subst AreAxioms (sym axioms_are) (both _ _ (tagged (trees_at d.arena.trees d.axioms) p.document.ontology.axioms) (are_axioms kind iris))

  pub notes_stand : AreAnnotations (trees_at us notes)
  notes_stand = subst AreAnnotations (sym notes_are) (annotations (trees_at d.arena.trees d.notes) p.document.ontology.annotations)
