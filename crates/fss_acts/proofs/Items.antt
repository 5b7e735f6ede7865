-- Items that are added to the document, and constructs that end.
use Rattle.std.proofs.Common.{◌≡◌, ◌≢◌, ◌<◌, ◌⊎◌, inl, inr, List, [], ◌∷◌, ◌++◌, Contains, Option, Result, Err, refl, sym, ap, ◌∙◌, subst, arith}
use Rattle.std.specs.Prelude.{IsErrOf}
use Rattle.owl_arena.specs.Shared.{AreShared, heaviest}
use Rattle.owl_doc.specs.Documents.{Document, IsBegun}
use Rattle.owl_maker.specs.declared.fault.MakeFault.{MakeFault}
use Rattle.owl_maker.specs.declared.fault.MakeFault.TheVariants as make
use Rattle.owl_maker.specs.Constructs.{Constructs, IsSound, Item, shut_in}
use Rattle.owl_maker.specs.Makings.{AddsAnnotation, AddsAxiom, Follows, Grows, Making, PassesLimit, annotations_of, axioms_of}
use Rattle.owl_reader.specs.declared.fault.TokenFault.{TokenFault}
use Rattle.owl_reader.specs.declared.fault.TokenFault.TheVariants as fault
use Rattle.owl_tokens.specs.declared.token.Token.{Token}
use Rattle.owl_tree.specs.declared.tag.Tag.TheVariants as tag
use Rattle.owl_tree.specs.Canonical.{canonical}
use Rattle.owl_tree.specs.Frames.{FitsButKeys, Frame, tree_of}
use Rattle.owl_tree.specs.Ontologies.{HoldEquivalent, Ontology, ontology_weight}
use Rattle.owl_tree.specs.Shape.{AreShaped, HasKeyProperty, IsShaped}
use Rattle.owl_tree.proofs.TreeLaws.{list_of_kids_of}
use Rattle.owl_tree.specs.Trees.{Tree, kids_of}
use Rattle.fss_grammar.specs.Making.{Adds, Kept, Maker, Shuts, add_annotation, add_axiom, put}
use Rattle.fss_grammar.specs.Making.Kept.{item}
use Rattle.fss_grammar.specs.Ready.{MayShut}
use Rattle.fss_grammar.specs.declared.acts.Act.TheVariants.{AddAnnotation, AddAxiom, Shut}
use Rattle.fss_acts.specs.declared.assembler.Assembler.{Assembler}
use Rattle.fss_acts.specs.declared.kept.Kept.TheVariants as keeps
use Rattle.fss_acts.specs.Assembling.{Assembles, Performed, IsBuiltAs, kept_of, work_of}
use Rattle.fss_defects.specs.Faults.{FailsItem, IsKeylessInside}
use Rattle.fss_acts.specs.Refusals.{of_making}
use Rattle.fss_acts.proofs.Documents.{says_grown}
use Rattle.fss_acts.proofs.Put.{constructs, work_of_nothing}
use Rattle.fss_acts.proofs.Weights.{AreForms, are_forms, weighs_equivalent, weighs_new, weighs_old, with_form}

-- ---- the weight of an ontology with one more item

module _ (d : Document) (begun : IsBegun d) (shared : AreShared d.arena.trees) (o : Ontology) (s : IsBuiltAs d o) (t : Tree) where
  note_forms : AreForms (annotations_of d)
  note_forms = are_forms d.arena.trees shared d.notes begun.notes begun.notes_once

  axiom_forms : AreForms (axioms_of d)
  axiom_forms = are_forms d.arena.trees shared d.axioms begun.axioms begun.axioms_once

  abbrev noted : Ontology
  noted = record { head = o.head; annotations = o.annotations ++ t ∷ []; axioms = o.axioms }

  abbrev asserted : Ontology
  asserted = record { head = o.head; annotations = o.annotations; axioms = o.axioms ++ t ∷ [] }

  pub annotation_heavy : PassesLimit d (annotations_of d) t → heaviest < ontology_weight noted
  annotation_heavy p =
      let a = weighs_new o.annotations (annotations_of d) t s.annotations note_forms p.new in
      let b = weighs_equivalent o.axioms (axioms_of d) s.axioms axiom_forms in
      let heavy = p.heavy in
      omega (arith, a, b, heavy)

  pub axiom_heavy : PassesLimit d (axioms_of d) t → heaviest < ontology_weight asserted
  axiom_heavy p =
      let a = weighs_equivalent o.annotations (annotations_of d) s.annotations note_forms in
      let b = weighs_new o.axioms (axioms_of d) t s.axioms axiom_forms p.new in
      let heavy = p.heavy in
      omega (arith, a, b, heavy)

  pub annotation_limit : heaviest < ontology_weight noted → PassesLimit d (annotations_of d) t
  annotation_limit heavy =
      let b = weighs_equivalent o.axioms (axioms_of d) s.axioms axiom_forms in
      let light = begun.weight in
      let absent : Contains (annotations_of d) (canonical t) → ⊥ = λ inside.
      let a = weighs_old o.annotations (annotations_of d) t s.annotations note_forms inside in omega (arith, a, b, heavy, light) in
      let a = weighs_new o.annotations (annotations_of d) t s.annotations note_forms absent in
      record { new = absent; heavy = omega (arith, a, b, heavy) }

  pub axiom_limit : heaviest < ontology_weight asserted → PassesLimit d (axioms_of d) t
  axiom_limit heavy =
      let a = weighs_equivalent o.annotations (annotations_of d) s.annotations note_forms in
      let light = begun.weight in
      let absent : Contains (axioms_of d) (canonical t) → ⊥ = λ inside.
      let b = weighs_old o.axioms (axioms_of d) t s.axioms axiom_forms inside in omega (arith, a, b, heavy, light) in
      let b = weighs_new o.axioms (axioms_of d) t s.axioms axiom_forms absent in
      record { new = absent; heavy = omega (arith, a, b, heavy) }

-- ---- an item that is added

item_kept : (m : Maker) (t u : Tree) → m.kept ≡ item t → m.kept ≡ item u → t ≡ u
item_kept m t u e f = let g = sym e ∙ f in cc

adds : (m : Maker) (t : Tree) (add : Tree → Maker → Maker) → m.kept ≡ item t → Adds m.kept add m (add t m)
adds m t add e = subst (λ (k : Kept). Adds k add m (add t m)) (sym e) refl

module _ (old : Assembler) (begun : IsBegun old.maker.document) (shared : AreShared old.maker.document.arena.trees) (m : Maker) (h : Assembles old m) (t : Tree) (is : m.kept ≡ item t) where
  pub item_work : Follows old.maker (Item t)
  item_work = subst (λ (k : Kept). Follows old.maker (work_of k m.frames)) is h.work

  kept_nothing : old.kept ≡ keeps.Nothing
  kept_nothing = h.kept ∙ ap kept_of is

  module _ (none : m.frames ≡ []) (made : Making) (done : Follows made (Constructs [])) where
    still : Follows made (Constructs m.frames)
    still = subst (λ (fs : List Frame). Follows made (Constructs fs)) (sym none) done

    annotation_assembled : AddsAnnotation old.maker.document made.document t → Assembles (record old { maker = made }) (add_annotation t m)
    annotation_assembled a = record {
      table = h.table;
      declarable = h.declarable;
      kept = kept_nothing;
      fit = tt;
      name = h.name;
      work = still;
      says = record {
        head = ap (λ (d : Document). d.head) a.rest ∙ h.says.head;
        annotations = with_form m.document.ontology.annotations (annotations_of old.maker.document) (annotations_of made.document) t h.says.annotations a.added;
        axioms = subst (λ (ts : List Tree). HoldEquivalent m.document.ontology.axioms ts) (sym (ap axioms_of a.rest)) h.says.axioms;
      };
    }

    axiom_assembled : AddsAxiom old.maker.document made.document t → Assembles (record old { maker = made }) (add_axiom t m)
    axiom_assembled a = record {
      table = h.table;
      declarable = h.declarable;
      kept = kept_nothing;
      fit = tt;
      name = h.name;
      work = still;
      says = record {
        head = ap (λ (d : Document). d.head) a.rest ∙ h.says.head;
        annotations = subst (λ (ts : List Tree). HoldEquivalent m.document.ontology.annotations ts) (sym (ap annotations_of a.rest)) h.says.annotations;
        axioms = with_form m.document.ontology.axioms (axioms_of old.maker.document) (axioms_of made.document) t h.says.axioms a.added;
      };
    }

    pub annotation_added : (next : Option Token) → AddsAnnotation old.maker.document made.document t → (PassesLimit old.maker.document (annotations_of old.maker.document) t → ⊥) → Performed AddAnnotation next m (record old { maker = made })
    annotation_added next a light = record {
      maker = add_annotation t m;
      acts = adds m t add_annotation is;
      assembles = annotation_assembled a;
      free = λ f k. light (annotation_limit old.maker.document begun shared m.document.ontology h.says t (subst (λ (u : Tree). heaviest < ontology_weight (add_annotation u m).document.ontology) (item_kept m k.1 t k.2 is) k.3));
    }

    pub axiom_added : (next : Option Token) → AddsAxiom old.maker.document made.document t → (PassesLimit old.maker.document (axioms_of old.maker.document) t → ⊥) → Performed AddAxiom next m (record old { maker = made })
    axiom_added next a light = record {
      maker = add_axiom t m;
      acts = adds m t add_axiom is;
      assembles = axiom_assembled a;
      free = λ f k. light (axiom_limit old.maker.document begun shared m.document.ontology h.says t (subst (λ (u : Tree). heaviest < ontology_weight (add_axiom u m).document.ontology) (item_kept m k.1 t k.2 is) k.3));
    }

  pub annotation_refused : (f : TokenFault) → f ≡ fault.TooHeavy → PassesLimit old.maker.document (annotations_of old.maker.document) t → FailsItem add_annotation m f
  annotation_refused f told p = (told, t, is, annotation_heavy old.maker.document begun shared m.document.ontology h.says t p)

  pub axiom_refused : (f : TokenFault) → f ≡ fault.TooHeavy → PassesLimit old.maker.document (axioms_of old.maker.document) t → FailsItem add_axiom m f
  axiom_refused f told p = (told, t, is, axiom_heavy old.maker.document begun shared m.document.ontology h.says t p)

-- a refusal that is not of this kind
pub only_refusal : {P : Type 0} (r : Result (Unit {0}) MakeFault) (told other : MakeFault) (f : TokenFault) → r ≡ Err told → (told ≡ other) ⊎ (told ≡ make.Memory) → f ≡ of_making told → f ≢ fault.Memory → (IsErrOf r other → f ≡ of_making other → P) → P
only_refusal r told other f is (inl e) g ne k = k (is ∙ ap Err e) (g ∙ ap of_making e)
only_refusal r told other f is (inr e) g ne k = absurd (ne (g ∙ ap of_making e))

-- ---- a construct that ends

shaped_last : (ts : List Tree) (t : Tree) → AreShaped (kids_of (ts ++ t ∷ [])) → IsShaped t
shaped_last [] t h = h.0
shaped_last (u ∷ ts) t h = shaped_last ts t h.1

shaped_whole : (f : Frame) (fs : List Frame) → IsSound (shut_in f fs) → IsShaped (tree_of f)
shaped_whole f [] h = h
shaped_whole f (g ∷ gs) h = shaped_last g.kids (tree_of f) h.1

keyed : (f : Frame) → IsShaped (tree_of f) → f.tag ≡ tag.HasKey → HasKeyProperty f.kids
keyed f h e = subst HasKeyProperty (list_of_kids_of f.kids) (h.0.keys e)

module _ (old : Assembler) (m : Maker) (h : Assembles old m) (none : old.kept ≡ keeps.Nothing) (f : Frame) (made : Making) (begun : IsBegun old.maker.document) (grows : Grows old.maker.document made.document) where
  says_still : IsBuiltAs made.document m.document.ontology
  says_still = says_grown old.maker.document made.document begun grows m.document.ontology h.says

  shut_assembled : (fs : List Frame) → Follows made (shut_in f fs) → Assembles (record old { maker = made }) (put (tree_of f) (record m { frames = fs }))
  shut_assembled [] work = record { table = h.table; declarable = h.declarable; kept = none; fit = tt; name = h.name; work = work; says = says_still }
  shut_assembled (g ∷ gs) work = record { table = h.table; declarable = h.declarable; kept = none; fit = tt; name = h.name; work = work; says = says_still }

pub construct_shut : (old : Assembler) (made : Making) (next : Option Token) → IsBegun old.maker.document → Grows old.maker.document made.document → ((f : Frame) (fs : List Frame) → FitsButKeys f → Follows old.maker (Constructs (f ∷ fs)) → Follows made (shut_in f fs)) → (m : Maker) → Assembles old m → MayShut m → Performed Shut next m (record old { maker = made })
construct_shut old made next begun grows shuts m h ready =
    let f = ready.frame in
    let fs = ready.outer in
    let n = put (tree_of f) (record m { frames = fs }) in
    let was = subst (λ (gs : List Frame). Follows old.maker (Constructs gs)) ready.frames_are (constructs old m h (work_of_nothing m ready.nothing_kept)) in
    let work = shuts f fs ready.fits was in
    let keys = keyed f (shaped_whole f fs work.sound) in
    record {
      maker = n;
      acts = subst (λ (gs : List Frame). Shuts gs m n) (sym ready.frames_are) (keys, refl);
      assembles = shut_assembled old m h (h.kept ∙ ap kept_of ready.nothing_kept) f made begun grows fs work;
      free = λ t k. let keyless = subst IsKeylessInside ready.frames_are k.1 in keyless.none (keys keyless.tag);
    }
