-- Documents with the declarations that they need.
use Rattle.std.proofs.Common.{◌≡◌, ◌<◌, ◌+◌, ◌⊎◌, inl, inr, ℕ, Option, List, [], ◌∷◌, ◌++◌, drop, length, map, take, get_or, refl, sym, ap, ◌∙◌, subst, Result, Ok, Err}
use Rattle.std.specs.Prelude.{◌↔◌, Contains, IsErrAnd}
use Rattle.owl_assembly.specs.declared.fault.AssembleFault.{AssembleFault}
use Rattle.owl_assembly.specs.declared.fault.AssembleFault.TheVariants as assemble
use Rattle.owl_declare.specs.declared.fault.DeclareFault.{DeclareFault}
use Rattle.owl_declare.specs.declared.fault.DeclareFault.TheVariants.{TooHeavy}
use Rattle.std.specs.List.{AllByRecursion}
use Rattle.std.proofs.lemmas.List.{append_assoc, map-append, take-append-drop}
use Rattle.std.proofs.lemmas.List.Elements.{Contains-append_cases, Contains-append_left, Contains-append_right}
use Rattle.owl_arena.specs.Held.{AreHeld, trees_at}
use Rattle.owl_assembly.specs.Assembled.{assembled}
use Rattle.owl_assembly.specs.Filling.{AreAnnotations, AreAxioms}
use Rattle.owl_declarations.specs.Declarations.{declaration}
use Rattle.owl_doc.proofs.Declaring.{adds_both, adds_some}
use Rattle.owl_doc.specs.Copies.{IsCopy}
use Rattle.owl_doc.specs.declared.head.Head as held
use Rattle.owl_doc.specs.Documents.{Document, IsDocument, ontology_of}
use Rattle.owl_doc.specs.Entities.{AddsAll, AddsSome, AreWellTyped}
use Rattle.owl_doc.proofs.EntityLaws.{same_typing}
use Rattle.owl_doc.specs.Heads.{head_of, name_of}
use Rattle.owl_kind.proofs.Found.{only}
use Rattle.owl_kind.specs.declared.kind.Kind.{Kind}
use Rattle.owl_kind.specs.declared.kind.Kind.TheVariants.{Class, Datatype, ObjectProperty, DataProperty, AnnotationProperty}
use Rattle.owl_kind.specs.Kinds.{Entity, HasClash, HasKind, IsDeclared, IsFirstClash, SharesKinds}
use Rattle.owl_list.proofs.AscendingLaws.{in_head}
use Rattle.owl_tree.specs.Ontologies.{Head, IsAnnotation, IsAxiom, Ontology}
use Rattle.owl_tree.specs.Tags.{number_of}
use Rattle.owl_tree.specs.Trees.{Tree}
use Rattle.rdf_normal.specs.Makings.{AreMade, IsMade}
use Rattle.rdf_normal.proofs.Extending.{are_made_at, made_at, made_more, one_further, trees_later}
use Rattle.owl_declare.proofs.FoundLaws.{entity, one_declared}
use Rattle.owl_declare.specs.Needed.{AreNeeded, KnowsSome, KnowsWhole, assemble_fault, declarations, entity_of, with_needs}
use Rattle.owl_declare.specs.declared.need.Need.{Need}

-- ---- what is declared besides

further : (needs : List Need) (i : ℕ) (need : Need) → i < length needs → need ≡ get_or needs i need → map entity_of (take (i + 1) needs) ≡ map entity_of (take i needs) ++ entity_of need ∷ []
further needs i need l e = ap (map entity_of) (one_further needs i need l e) ∙ map-append entity_of (take i needs) (need ∷ [])

adds_need : (need : Need) (copy : List ℕ) (b c : List Entity) → copy ≡ need.iri → ((k : Kind) (i : List ℕ) → IsDeclared c k i ↔ (IsDeclared b k i ⊎ ((k ≡ need.kind) × (i ≡ copy)))) → AddsAll b (entity_of need ∷ []) c
adds_need need copy b c same h kind iri =
    let told = one_declared b c need.kind need.iri copy same h (entity kind iri) in (
      (λ n. elim (told.0 n) [ inl m ↦ inl m | inr p ↦ inr (subst (λ (x : Entity). Contains (entity_of need ∷ []) x) (sym p) (in_head (entity_of need) [])) ]),
      (λ n. told.1 (elim n [ inl m ↦ inl m | inr m ↦ inr (sym (only (entity_of need) (entity kind iri) m)) ])),
    )

pub one_more_known : (needs : List Need) (i : ℕ) (need : Need) (copy : List ℕ) (a b c : List Entity) → i < length needs → need ≡ get_or needs i need → copy ≡ need.iri →
    AddsAll a (map entity_of (take i needs)) b → ((kind : Kind) (iri : List ℕ) → IsDeclared c kind iri ↔ (IsDeclared b kind iri ⊎ ((kind ≡ need.kind) × (iri ≡ copy)))) →
    AddsAll a (map entity_of (take (i + 1) needs)) c
one_more_known needs i need copy a b c l e same h k =
    subst (λ (es : List Entity). AddsAll a es c) (sym (further needs i need l e)) (adds_both a (map entity_of (take i needs)) b (entity_of need ∷ []) c h (adds_need need copy b c same k))

pub some_known : (needs : List Need) (i : ℕ) (a b : List Entity) → AddsAll a (map entity_of (take i needs)) b → AddsSome a (map entity_of needs) b
some_known needs i a b h =
    subst (λ (es : List Entity). AddsSome a es b) (sym (map-append entity_of (take i needs) (drop i needs)) ∙ ap (map entity_of) (take-append-drop i needs))
    (adds_some a (map entity_of (take i needs)) b (map entity_of (drop i needs)) h)

-- ---- declarations in an arena

pub one_declared_more : (ts us vs : List Tree) (ids axioms after : List ℕ) (needs : List Need) (i new : ℕ) (need : Need) (copy : List ℕ) →
    AreMade ts us ids (trees_at ts axioms ++ declarations (map entity_of (take i needs))) → i < length needs → need ≡ get_or needs i need → copy ≡ need.iri →
    IsMade us vs new (declaration need.kind copy) → after ≡ ids ++ new ∷ [] → AreMade ts vs after (trees_at ts axioms ++ declarations (map entity_of (take (i + 1) needs)))
one_declared_more ts us vs ids axioms after needs i new need copy h l e same k more =
    let it = declaration need.kind need.iri in
    let front = declarations (map entity_of (take i needs)) in
    let all : declarations (map entity_of (take (i + 1) needs)) ≡ front ++ it ∷ [] =
    ap declarations (further needs i need l e) ∙ map-append (λ (x : Entity). declaration x.kind x.iri) (map entity_of (take i needs)) (entity_of need ∷ []) in
    subst (λ (ns : List ℕ). AreMade ts vs ns (trees_at ts axioms ++ declarations (map entity_of (take (i + 1) needs)))) (sym more)
    (are_made_at ts vs (ids ++ new ∷ []) _ _
    (append_assoc (trees_at ts axioms) front (it ∷ []) ∙ ap (λ (xs : List Tree). trees_at ts axioms ++ xs) (sym all))
    (made_more ts us vs ids _ new _ h (made_at us vs new _ _ (ap (declaration need.kind) same) k)))

-- ---- documents

both : (xs ys : List Tree) → AreAxioms xs → AreAxioms ys → AreAxioms (xs ++ ys)
both [] ys h k = k
both (x ∷ xs) ys h k = (h.0, both xs ys h.1 k)

are_axioms : (needs : List Entity) → AreAxioms (declarations needs)
unfolding number_of
are_axioms [] = tt
are_axioms (need ∷ needs) = (refl, are_axioms needs)

tagged : (ts : List Tree) → AllByRecursion IsAxiom ts → AreAxioms ts
tagged [] h = tt
tagged (t ∷ ts) h = (h.0.tag, tagged ts h.1)

annotations : (ts : List Tree) → AllByRecursion IsAnnotation ts → AreAnnotations ts
annotations [] h = tt
annotations (t ∷ ts) h = (h.0.tag, annotations ts h.1)

-- what is put together: the trees of the document, and behind them the declarations, over its head
pub record IsPrepared (needs : List Entity) (d : Document) (ts us : List Tree) (h copy : held.Head) (notes axioms own : List ℕ) : Type 0 where
  pub document : IsDocument d
  pub head : head_of h ≡ d.head
  pub copied : IsCopy h copy
  pub trees : ts ≡ d.arena.trees
  pub its_notes : notes ≡ d.notes
  pub its_axioms : own ≡ d.axioms
  pub made : AreMade ts us axioms (trees_at ts own ++ declarations needs)

pub prepared : (needs : List Entity) (d : Document) (ts us : List Tree) (h copy : held.Head) (notes axioms lent own : List ℕ) → IsDocument d →
    head_of h ≡ d.head → IsCopy h copy → ts ≡ d.arena.trees → notes ≡ d.notes → own ≡ d.axioms → lent ≡ axioms →
    AreMade ts us axioms (trees_at ts own ++ declarations needs) → IsPrepared needs d ts us h copy notes lent own
prepared needs d ts us h copy notes axioms lent own document head copied trees its_notes its_axioms e made = record {
  document = document;
  head = head;
  copied = copied;
  trees = trees;
  its_notes = its_notes;
  its_axioms = its_axioms;
  made = subst (λ (ns : List ℕ). AreMade ts us ns (trees_at ts own ++ declarations needs)) (sym e) made;
}

own_trees : (d : Document) (ts : List Tree) (own : List ℕ) → ts ≡ d.arena.trees → own ≡ d.axioms → trees_at ts own ≡ trees_at d.arena.trees d.axioms
own_trees d ts own e f = ap (λ (xs : List Tree). trees_at xs own) e ∙ ap (trees_at d.arena.trees) f

abbrev made_head : Option (List ℕ) → Option (List ℕ) → List (List ℕ) → Head
made_head iri version imports = record { name = name_of iri version; imports = imports }

abbrev parts : Head → List Tree → List Tree → Ontology
parts h notes axioms = record { head = h; annotations = notes; axioms = axioms }

module _ (needs : List Entity) (d : Document) (ts us : List Tree) (h copy : held.Head) (notes axioms own : List ℕ) (p : IsPrepared needs d ts us h copy notes axioms own) where
  axioms_are : trees_at us axioms ≡ (with_needs needs (ontology_of d)).axioms
  axioms_are = p.made.trees ∙ ap (λ (xs : List Tree). xs ++ declarations needs) (own_trees d ts own p.trees p.its_axioms)

  notes_are : trees_at us notes ≡ trees_at d.arena.trees d.notes
  notes_are =
      ap (trees_at us) p.its_notes
      ∙ trees_later ts us d.notes p.made.extends (subst (λ (xs : List Tree). AreHeld xs d.notes) (sym p.trees) p.document.notes)
      ∙ ap (λ (xs : List Tree). trees_at xs d.notes) p.trees

  head_is : head_of copy ≡ d.head
  head_is =
      ap (λ (o : Option (List ℕ)). made_head o copy.version copy.imports.items) p.copied.iri
      ∙ ap (λ (o : Option (List ℕ)). made_head h.iri o copy.imports.items) p.copied.version
      ∙ ap (made_head h.iri h.version) p.copied.imports
      ∙ p.head

  pub form_is : assembled copy us notes axioms ≡ with_needs needs (ontology_of d)
  form_is =
      ap (λ (x : Head). parts x (trees_at us notes) (trees_at us axioms)) head_is
      ∙ ap (λ (xs : List Tree). parts d.head xs (trees_at us axioms)) notes_are
      ∙ ap (parts d.head (trees_at d.arena.trees d.notes)) axioms_are

  pub axioms_stand : AreAxioms (trees_at us axioms)
  axioms_stand = subst AreAxioms (sym axioms_are) (both _ _ (tagged (trees_at d.arena.trees d.axioms) p.document.ontology.axioms) (are_axioms needs))

  pub notes_stand : AreAnnotations (trees_at us notes)
  notes_stand = subst AreAnnotations (sym notes_are) (annotations (trees_at d.arena.trees d.notes) p.document.ontology.annotations)

-- ---- what is known with what is needed

module _ (kinds needs new : List Entity) (o : Ontology) (needed : AreNeeded kinds o needs) where
  pub knows_whole : AddsAll kinds needs new → KnowsWhole kinds o new
  knows_whole h kind iri = (
    λ n. elim ((h kind iri).0 n) [ inl m ↦ inl m | inr m ↦ inr ((needed.each (entity kind iri)).0 m) ],
    λ n. (h kind iri).1 (elim n [ inl m ↦ inl m | inr m ↦ inr ((needed.each (entity kind iri)).1 m) ]),
  )

  pub knows_some : AddsSome kinds needs new → KnowsSome kinds o new
  knows_some h = record {
    kept = h.kept;
    only = λ kind iri n. elim (h.only kind iri n) [ inl m ↦ inl m | inr m ↦ inr ((needed.each (entity kind iri)).0 m) ];
  }

  pub knows_enough : AddsAll kinds needs new → KnowsSome kinds o new
  knows_enough h = record {
    kept = λ kind iri m. (h kind iri).1 (inl m);
    only = λ kind iri n. elim ((h kind iri).0 n) [ inl m ↦ inl m | inr m ↦ inr ((needed.each (entity kind iri)).0 m) ];
  }

-- ---- clashes, where the same is declared

abbrev DeclareSame : List Entity → List Entity → Type 0
DeclareSame kinds others = (kind : Kind) (iri : List ℕ) → IsDeclared kinds kind iri ↔ IsDeclared others kind iri

has_kind : (kinds others : List Entity) → DeclareSame kinds others → (kind : Kind) (iri : List ℕ) → HasKind kinds kind iri → HasKind others kind iri
has_kind kinds others same kind iri h = elim h [ inl d ↦ inl ((same kind iri).0 d) | inr b ↦ inr b ]

shared_kinds : (kinds others : List Entity) → DeclareSame kinds others → (iri : List ℕ) → SharesKinds kinds iri → SharesKinds others iri
shared_kinds kinds others same iri shares =
    let has = has_kind kinds others same in
    elim shares [
      | inl h ↦ inl (has Class iri h.0, has Datatype iri h.1)
      | inr more ↦ elim more [
        | inl h ↦ inr (inl (has ObjectProperty iri h.0, has DataProperty iri h.1))
        | inr rest ↦ elim rest [
          | inl h ↦ inr (inr (inl (has ObjectProperty iri h.0, has AnnotationProperty iri h.1)))
          | inr h ↦ inr (inr (inr (has DataProperty iri h.0, has AnnotationProperty iri h.1)))
        ]
      ]
    ]

clash_of_same : (kinds others : List Entity) → DeclareSame kinds others → (iri : List ℕ) → HasClash kinds iri → HasClash others iri
clash_of_same kinds others same iri h =
    record { kind = h.kind; declared = (same h.kind iri).0 h.declared; clash = shared_kinds kinds others same iri h.clash }

-- what is known, as one list
module _ (kinds needs new : List Entity) (adds : AddsAll kinds needs new) where
  as_one : DeclareSame new (kinds ++ needs)
  as_one kind iri =
      let e : Entity = entity kind iri in (
        (λ n. elim ((adds kind iri).0 n) [ inl m ↦ Contains-append_left kinds needs e m | inr m ↦ Contains-append_right kinds needs e m ]),
        (λ n. (adds kind iri).1 (Contains-append_cases kinds needs e n)),
      )

  back : DeclareSame (kinds ++ needs) new
  back kind iri = ((as_one kind iri).1, (as_one kind iri).0)

  pub first_clash : (iri : List ℕ) → IsFirstClash new iri → IsFirstClash (kinds ++ needs) iri
  first_clash iri h = record {
    clash = clash_of_same new (kinds ++ needs) as_one iri h.clash;
    first = λ other clash less. h.first other (clash_of_same (kinds ++ needs) new back other clash) less;
  }

  pub typed_new : (es : List Entity) → AreWellTyped (kinds ++ needs) es → AreWellTyped new es
  typed_new es typed = same_typing (kinds ++ needs) new es (λ kind iri. (back kind iri).0) typed

  pub no_clash : ((iri : List ℕ) → HasClash new iri → ⊥) → (iri : List ℕ) → HasClash (kinds ++ needs) iri → ⊥
  no_clash none iri h = none iri (clash_of_same (kinds ++ needs) new back iri h)

-- ---- how a refusal is passed on

pub heavy_passed : {X : Type 0} (r : Result X DeclareFault) (f : AssembleFault) → IsErrAnd r (λ e. e ≡ assemble_fault f) → r ≡ Err TooHeavy → f ≡ assemble.TooHeavy
heavy_passed r assemble.TooHeavy h e = refl
heavy_passed (Ok x) assemble.Memory h e = absurd h
heavy_passed (Err a) assemble.Memory h e = cc
