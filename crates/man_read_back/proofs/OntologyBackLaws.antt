-- The text of an ontology reads back to it.
use Rattle.std.proofs.Common.{◌≡◌, ◌≤◌, ℕ, arith, true, Option, None, Some, Ok, List, [], ◌∷◌, ◌++◌, length, map, refl, sym, ap, ◌∙◌, subst, inl, inr}
use Rattle.std.specs.Prelude.{IfSome, Contains}
use Rattle.std.specs.List.{AllByRecursion, cons_option, flat_map}
use Rattle.std.specs.Option.{option_to_list}
use Rattle.std.specs.Str.{all_scalars, encode_utf8_all}
use Rattle.std.proofs.lemmas.List.{append-nil}
use Rattle.std.proofs.lemmas.List.Elements.{Contains-append_cases, Contains-append_right}
use Rattle.man_raw.specs.Documents.{DocumentTree}
use Rattle.man_resolve.proofs.KnowingLaws.{knows_told, told_knows}
use Rattle.man_resolve.specs.Expressions.{Knows, knows}
use Rattle.man_resolve.specs.Items.{resolved}
use Rattle.man_resolve.specs.Resolved.{FramesMean, HasDeepTree, HaveNoClash}
use Rattle.man_sayable.specs.Sayable.{CanSay}
use Rattle.man_sayable.proofs.SayableLaws.{axiom_said}
use Rattle.owl_arena.specs.Shared.{deepest, heaviest}
use Rattle.owl_atom.specs.declared.prefixes.Prefix.{Prefix}
use Rattle.owl_atom.specs.Prefixes.{IsTable}
use Rattle.owl_characters.specs.Iri.{IsIri}
use Rattle.owl_characters.specs.Limit.{most_bytes}
use Rattle.owl_doc.specs.Entities.{AreWellTyped, entities, entities_of, entity_of, kind_of}
use Rattle.owl_doc.specs.Heads.{iri_in, version_in}
use Rattle.owl_doc.specs.Parts.{leaves, of_axiom}
use Rattle.owl_kind.specs.declared.kind.Kind.TheVariants as kind
use Rattle.owl_kind.specs.Kinds.{Entity, HasKind}
use Rattle.owl_kind.proofs.Found.{joined_from}
use Rattle.owl_list.proofs.AscendingLaws.{all_before_map, all_from, all_in, from_map, in_head, in_map, in_none}
use Rattle.owl_tree.specs.Canonical.{canonical}
use Rattle.owl_tree.specs.Equivalence.{IsEquivalent}
use Rattle.owl_tree.specs.Ontologies.{Head, IsAnnotation, IsAxiom, IsHead, IsName, IsOntology, IsSameOntology, Ontology, OntologyName, canonical_list, canonical_ontology, ontology_weight}
use Rattle.owl_tree.proofs.OntologyLaws.{canonical_same_ontology, same_ontology_weight}
use Rattle.owl_tree.specs.Trees.{Tree, depth, kids_of}
use Rattle.owl_writing.specs.Tables.{HaveIris, as_declared, written_prefixes}
use Rattle.rdf_meaning.proofs.KindLaws.{no_shared}
use Rattle.sayable_parts.proofs.PartLaws.{equivalent_leaves}
use Rattle.written_trees.specs.Written.{written_form}
use Rattle.written_trees.proofs.WrittenLaws.{equivalent_written, written_equivalent}
use Rattle.man_text.specs.Blocks.{block_of, declared_name, document_of, head_tree, headed, item_of, normal_form}
use Rattle.man_text.specs.Readable.{CanBeWritten, IsTypedUnder, ReadsOntology}
use Rattle.man_text.specs.Text.{manchester_prefixes, manchester_text}
use Rattle.man_text.specs.Undecided.{unplaced_document}
use Rattle.man_text.proofs.CanonicalLaws.{each_canonical}
use Rattle.man_text.proofs.DeclaredLaws.{IsDeclarationOf, name_declares}
use Rattle.man_text.proofs.HeadLaws.{among_typed, depth_written}
use Rattle.man_text.proofs.OntologyLaws.{AllSaid, CanBeSaid, IsKnownUnder, IsSaidOf, all_axioms_said, annotations_mean, document_means, item_written, note_written, notes_written}
use Rattle.man_text.proofs.PlacedItemLaws.{resolved_anywhere}
use Rattle.man_text.proofs.ShapedNotesLaws.{IsNoteTree}
use Rattle.man_text.proofs.TypedLaws.{AreTyped, all_behind, all_front}
use Rattle.man_text.proofs.WritableLaws.{IsHeadTree, IsItem, IsWritable}
use Rattle.man_read_back.proofs.ReadsBackLaws.{text_reads_back}

-- ---- kinds

module _ (kinds : List Entity) where
  all_known : (es : List Entity) → AreWellTyped kinds es → AreTyped (knows kinds) es
  all_known [] h = tt
  all_known (e ∷ es) h = (told_knows kinds e.kind e.iri h.0, all_known es h.1)

  each_known : (ts : List Tree) → AllByRecursion (λ t. AreWellTyped kinds (entities t)) ts → AllByRecursion (λ t. AreTyped (knows kinds) (entities t)) ts
  each_known [] h = tt
  each_known (t ∷ ts) h = (all_known (entities t) h.0, each_known ts h.1)

  apart : HaveNoClash kinds → (iri : List ℕ) → knows kinds kind.ObjectProperty iri ≡ true → knows kinds kind.DataProperty iri ≡ true → ⊥
  apart none iri e f = no_shared kinds none iri (inr (inl (knows_told kinds kind.ObjectProperty iri e, knows_told kinds kind.DataProperty iri f)))

-- the annotations one by one
notes_each : (P : Entity → Type 0) (ts : List Tree) → AllByRecursion P (entities_of (kids_of ts)) → AllByRecursion (λ t. AllByRecursion P (entities t)) ts
notes_each P [] h = tt
notes_each P (t ∷ ts) h = (all_front P (entities t) (entities_of (kids_of ts)) h, notes_each P ts (all_behind P (entities t) (entities_of (kids_of ts)) h))

-- ---- names that head blocks

head_declared : (o : Option Tree) (u : Tree) → Contains (flat_map declared_name (option_to_list o)) u → (s : Tree) × IsDeclarationOf s u
head_declared None u m = absurd (in_none u m)
head_declared (Some s) u m = (s, name_declares s u (subst (λ (us : List Tree). Contains us u) (append-nil (declared_name s)) m))

module _ (s u : Tree) (h : IsDeclarationOf s u) where
  declared_entities : entities u ≡ cons_option (entity_of (kind_of h.own_tag) h.atom) [] ++ []
  declared_entities = ap entities h.is

  declared_leaf : Contains (leaves u) (record { tag = h.own_tag; atom = h.atom })
  declared_leaf = subst (λ (v : Tree). Contains (leaves v) (record { tag = h.own_tag; atom = h.atom })) (sym h.is) (in_head (record { tag = h.own_tag; atom = h.atom }) [])

  -- a declaration that is equivalent to what is typed is typed
  declared_typed : (ks : Knows) (v : Tree) → IsEquivalent u v → AreTyped ks (entities v) → AreTyped ks (entities u)
  declared_typed ks v same typed =
      let there = (equivalent_leaves u v same (record { tag = h.own_tag; atom = h.atom })).0 declared_leaf in
      subst (AreTyped ks) (sym (declared_entities ∙ append-nil (cons_option (entity_of (kind_of h.own_tag) h.atom) []))) (among_typed ks v (record { tag = h.own_tag; atom = h.atom }) typed there)

  declared_depth : depth u ≤ 2
  declared_depth = subst (λ (v : Tree). depth v ≤ 2) (sym h.is) (omega arith)

-- ---- heads

iri_of_name : (n : Option OntologyName) → IfSome n IsName → IfSome (iri_in n) IsIri
iri_of_name None h = tt
iri_of_name (Some name) h = h.iri

version_of_name : (n : Option OntologyName) → IfSome n IsName → IfSome (version_in n) IsIri
version_of_name None h = tt
version_of_name (Some name) h = h.version

version_beside : (n : Option OntologyName) → iri_in n ≡ None → version_in n ≡ None
version_beside None e = refl
version_beside (Some name) e = absurd (cc)

head_stands : (h : Head) → IsHead h → IsHeadTree (head_tree h)
head_stands h is = record { iri = iri_of_name h.name is.name; version = version_of_name h.name is.name; beside = version_beside h.name; imports = is.imports }

-- ---- ontologies

-- what is known of every document's ontology
pub record IsWithinLimits (o : Ontology) : Type 0 where
  pub is_ontology : IsOntology o
  pub canonical : canonical_ontology o ≡ o
  pub shallow_annotations : AllByRecursion (λ t. depth t ≤ deepest) o.annotations
  pub shallow_axioms : AllByRecursion (λ t. depth t ≤ deepest) o.axioms

module _ (kinds : List Entity) (o : Ontology) (within : IsWithinLimits o) (can : CanBeWritten kinds o) where
  abbrev looks : Knows
  looks = knows kinds

  axioms_again : canonical_list o.axioms ≡ o.axioms
  axioms_again = ap (λ (p : Ontology). p.axioms) within.canonical

  unopposed : AllByRecursion (λ t. CanSay kinds (of_axiom t)) o.axioms
  unopposed = subst (λ (ts : List Tree). AllByRecursion (λ t. CanSay kinds (of_axiom t)) ts) axioms_again (all_before_map of_axiom (CanSay kinds) (canonical_list o.axioms) can.sayable.1)

  each_said : (ts : List Tree) → AllByRecursion IsAxiom ts → AllByRecursion (λ t. canonical t ≡ t) ts → AllByRecursion (λ t. CanSay kinds (of_axiom t)) ts → AllByRecursion (CanBeSaid looks) ts
  each_said [] h k s = tt
  each_said (t ∷ ts) h k s = (record { axiom_tag = h.0.tag; shaped = h.0.shaped; canonical = k.0; unopposed = (axiom_said kinds t).0 s.0 }, each_said ts h.1 k.1 s.1)

  said : AllByRecursion (CanBeSaid looks) o.axioms
  said = each_said o.axioms within.is_ontology.axioms (each_canonical o.axioms axioms_again) unopposed

  notes_known : (ts : List Tree) → AllByRecursion IsAnnotation ts → AllByRecursion (λ t. canonical t ≡ t) ts → AllByRecursion (λ t. IsNoteTree (written_form t)) ts
  notes_known [] h k = tt
  notes_known (t ∷ ts) h k = (note_written t h.0 k.0, notes_known ts h.1 k.1)

  notes : AllByRecursion (λ t. IsNoteTree (written_form t)) o.annotations
  notes = notes_known o.annotations within.is_ontology.annotations (each_canonical o.annotations (ap (λ (p : Ontology). p.annotations) within.canonical))

  -- each name that heads a block is declared
  normal_same : IsSameOntology (normal_form looks o) o
  normal_same = subst (IsSameOntology (normal_form looks o)) can.normal (canonical_same_ontology (normal_form looks o))

  head_there : (t u : Tree) → Contains o.axioms t → Contains (headed looks t) u → (v : Tree) × Contains o.axioms v × IsEquivalent u v
  head_there t u m n = normal_same.axioms.there u (Contains-append_right o.axioms (flat_map (headed looks) o.axioms) u (joined_from (headed looks) o.axioms u t m n))

  bare_head : (t u : Tree) → Contains (headed looks t) u → (s : Tree) × IsDeclarationOf s u
  bare_head t u n = head_declared (block_of looks t).subject u n

  -- ---- it stands in a text

  items_stand : (ts : List Tree) → AllByRecursion (CanBeSaid looks) ts → AllByRecursion (λ t. depth t ≤ deepest) ts → AllByRecursion (IsItem 256) (map (λ t. item_of (block_of looks t)) ts)
  items_stand [] h k = tt
  items_stand (t ∷ ts) h k = (item_written looks 256 t h.0 (let d = k.0 in omega arith), items_stand ts h.1 k.1)

  within_255 : (ts : List Tree) → AllByRecursion (λ t. depth t ≤ deepest) ts → AllByRecursion (λ t. depth t ≤ 255) ts
  within_255 [] h = tt
  within_255 (t ∷ ts) h = (let d = h.0 in omega arith, within_255 ts h.1)

  writable : (prefixes : List Prefix) → IsWritable 256 (document_of looks prefixes o)
  writable prefixes = record {
    head = head_stands o.head within.is_ontology.head;
    notes = notes_written 255 o.annotations notes (within_255 o.annotations within.shallow_annotations);
    items = items_stand o.axioms said within.shallow_axioms;
  }

  -- ---- it means the ontology

  module _ (others : List Entity) (typed : IsTypedUnder others o) where
    abbrev ks : Knows
    ks = knows others

    typed_axioms : AllByRecursion (λ t. AreTyped ks (entities t)) o.axioms
    typed_axioms = each_known others o.axioms typed.axioms

    known_under : AllByRecursion (IsKnownUnder looks ks) o.axioms
    known_under = all_from (IsKnownUnder looks ks) o.axioms (λ t m. record {
      own = all_in (λ x. AreTyped ks (entities x)) o.axioms t typed_axioms m;
      head = λ u n.
          let there = head_there t u m n in
          let bare = bare_head t u n in
          declared_typed bare.0 u bare.1 ks there.0 there.2 (all_in (λ x. AreTyped ks (entities x)) o.axioms there.0 typed_axioms there.1);
    })

    all : AllSaid looks ks o.axioms
    all = all_axioms_said looks ks (apart others typed.no_clash) o.axioms said known_under

    abbrev meant_so : Ontology
    meant_so = record { head = o.head; annotations = map written_form o.annotations; axioms = all.said }

    means_so : (prefixes : List Prefix) → resolved ks (document_of looks prefixes o) ≡ Ok meant_so
    means_so prefixes = document_means looks ks prefixes o all (annotations_mean ks o.annotations notes (each_known others o.annotations (notes_each (λ (e : Entity). HasKind others e.kind e.iri) o.annotations typed.annotations)))

    among : (u : Tree) → IsSaidOf looks o.axioms u → (v : Tree) × Contains o.axioms v × IsEquivalent u v
    among u (IsSaidOf.an_axiom t m e) = (t, m, subst (λ (x : Tree). IsEquivalent x t) (sym e) (written_equivalent t))
    among u (IsSaidOf.a_name t m n) = head_there t u m n

    same : IsSameOntology meant_so o
    same = record {
      head = record { name = refl; imports = λ x. ((λ m. m), (λ m. m)) };
      annotations = record {
        there = λ u m. let value = from_map written_form o.annotations u m in (value.element, value.inside, subst (λ (x : Tree). IsEquivalent x value.element) value.value (written_equivalent value.element));
        back = λ t m. (written_form t, in_map written_form o.annotations t m, equivalent_written t);
      };
      axioms = record {
        there = λ u m. among u (all.only u m);
        back = λ t m. (written_form t, all.there t m, equivalent_written t);
      };
    }

    said_shallow : (u : Tree) → IsSaidOf looks o.axioms u → depth u ≤ deepest
    said_shallow u (IsSaidOf.an_axiom t m e) =
        let own = depth_written t in
        let d = all_in (λ x. depth x ≤ deepest) o.axioms t within.shallow_axioms m in
        subst (λ (x : Tree). depth x ≤ deepest) (sym e) (omega arith)
    said_shallow u (IsSaidOf.a_name t m n) = let bare = bare_head t u n in let d = declared_depth bare.0 u bare.1 in omega arith

    shallow : HasDeepTree meant_so → ⊥
    shallow h = elim (Contains-append_cases (map written_form o.annotations) all.said h.tree h.of) [
      | inl m ↦
          let value = from_map written_form o.annotations h.tree m in
          let own = depth_written value.element in
          let d = all_in (λ x. depth x ≤ deepest) o.annotations value.element within.shallow_annotations value.inside in
          let deep = h.deep in
          let is : depth h.tree ≡ depth (written_form value.element) = ap depth (sym value.value) in
          absurd (omega arith)
      | inr m ↦ let d = said_shallow h.tree (all.only h.tree m) in let deep = h.deep in absurd (omega arith)
    ]

    pub means : ontology_weight o ≤ heaviest → (prefixes : List Prefix) (document : DocumentTree) → unplaced_document document ≡ record (document_of looks prefixes o) { prefixes = map as_declared prefixes } → FramesMean document others o
    unfolding resolved
    means light prefixes document e = record {
      said = meant_so;
      says = record { no_clash = typed.no_clash; says = resolved_anywhere ks document meant_so (ap (resolved ks) e ∙ means_so prefixes) };
      same = same;
      shallow = shallow;
      light = let w = same_ontology_weight meant_so o same in omega (arith, w, light);
    }

-- The text of an ontology that can be written, and that is typed under kinds, reads back to it under these kinds.
pub ontology_reads_back : (kinds others : List Entity) (prefixes : List Prefix) (o : Ontology) → IsTable prefixes → HaveIris (written_prefixes prefixes) → IsWithinLimits o → ontology_weight o ≤ heaviest
    → all_scalars (manchester_text (knows kinds) prefixes o) ≡ true → length (encode_utf8_all (manchester_text (knows kinds) prefixes o)) ≤ most_bytes
    → CanBeWritten kinds o → IsTypedUnder others o → ReadsOntology (encode_utf8_all (manchester_text (knows kinds) prefixes o)) others prefixes o
ontology_reads_back kinds others prefixes o table iris within light scalars few can typed =
    let ps = manchester_prefixes prefixes in
    let back = text_reads_back prefixes (document_of (knows kinds) ps o) 256 table iris refl (writable kinds o within can ps) (omega arith) scalars few in
    record {
      document = back.document;
      reads = back.reads;
      prefixes = ap (λ (d : DocumentTree). d.prefixes) back.same;
      means = means kinds o within can others typed light ps back.document back.same;
    }
