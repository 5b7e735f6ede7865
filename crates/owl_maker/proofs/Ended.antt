-- An item that is whole.
use Rattle.std.proofs.Common.{◌≡◌, ◌↔◌, refl, sym, ap, ◌∙◌, subst, true, false, Bool, IsTrue, ◌<◌, ℕ}
use Rattle.std.specs.Prelude.{List, [], ◌∷◌, length, map, reverse, option_map, Contains, Option, None, Some, Result, Ok, Err, OnOk, IfOk, IfErr, IsOk, IsErrOf}
use Rattle.std.proofs.lemmas.Bool.{false≢true}
use Rattle.owl_arena.specs.Held.{tree_at, trees_at}
use Rattle.owl_arena.specs.Shared.{AreShared}
use Rattle.owl_doc.specs.Documents.{Document, IsAnnotationAt, IsAxiomAt, IsBegun, PassesWeight, with_axiom, with_note}
use Rattle.owl_doc.specs.declared.fault.AddFault.{AddFault}
use Rattle.owl_doc.specs.declared.fault.AddFault.TheVariants as add
use Rattle.owl_tree.specs.Canonical.{canonical}
use Rattle.owl_tree.proofs.CanonicalLaws.{canonical_tag}
use Rattle.owl_tree.specs.Trees.{Tree, tag_of}
use Rattle.owl_maker.specs.declared.fault.MakeFault.{MakeFault}
use Rattle.owl_maker.specs.declared.fault.MakeFault.TheVariants.{TooHeavy}
use Rattle.owl_maker.specs.declared.maker.Maker.TheInside as maker
use Rattle.owl_maker.specs.declared.parts.Open as parts
use Rattle.owl_maker.specs.Constructs.{Constructs, Item}
use Rattle.owl_maker.specs.Kept.{making_of, numbers_in, outlines_in}
use Rattle.owl_maker.specs.Makings.{AddsAnnotation, AddsAxiom, Follows, HoldsForms, IsHeavy, Making, PassesLimit, annotations_of, axioms_of}
use Rattle.owl_maker.proofs.Added.{axiom_added, heavy_passes, limit_passed, note_added, weight_passed}
use Rattle.owl_maker.proofs.Follow.{moved}

item_heavy : (heavy : Bool) (kids : List (List Tree)) (item : Option Tree) (t : Tree) → heavy ≡ true → HoldsForms heavy kids item (Item t) → IsHeavy t
item_heavy true kids item t e h = h
item_heavy false kids item t e h = absurd (false≢true e)

item_light : (heavy : Bool) (kids : List (List Tree)) (item : Option Tree) (t : Tree) → heavy ≡ false → HoldsForms heavy kids item (Item t) → item ≡ Some (canonical t)
item_light true kids item t e h = absurd (false≢true (sym e))
item_light false kids item t e h = h

-- the number of the item is that of its canonical form
pub number_is : (i : maker.Inside) (id : ℕ) (t : Tree) → i.item ≡ Some id → i.is_heavy ≡ false → Follows (making_of i) (Item t) → tree_at i.builder.arena.trees id ≡ canonical t
number_is i id t e light h =
    let m = making_of i in
    let f = item_light i.is_heavy m.kids m.item t light h.forms in
    let g : m.item ≡ Some (tree_at i.builder.arena.trees id) = ap (λ (o : Option ℕ). option_map (tree_at i.builder.arena.trees) o) e in
    cc

-- an item that is too heavy passes the limit
pub note_too_heavy : (i : maker.Inside) (value : Making) → making_of i ≡ value → i.is_heavy ≡ true → AreShared i.builder.arena.trees → IsBegun i.builder → (t : Tree) → Follows value (Item t) → IsErrOf {T = Unit {0}} (Err TooHeavy) TooHeavy ↔ PassesLimit value.document (annotations_of value.document) t
note_too_heavy i value e heavy shared begun t h =
    let m = making_of i in
    let g : Follows m (Item t) = subst (λ (n : Making). Follows n (Item t)) (sym e) h in
    let p = heavy_passes i.builder i.builder.notes t shared begun.notes (item_heavy i.is_heavy m.kids m.item t heavy g.forms) in
    (λ _. subst (λ (n : Making). PassesLimit n.document (annotations_of n.document) t) e p, λ _. refl)

pub axiom_too_heavy : (i : maker.Inside) (value : Making) → making_of i ≡ value → i.is_heavy ≡ true → AreShared i.builder.arena.trees → IsBegun i.builder → (t : Tree) → Follows value (Item t) → IsErrOf {T = Unit {0}} (Err TooHeavy) TooHeavy ↔ PassesLimit value.document (axioms_of value.document) t
axiom_too_heavy i value e heavy shared begun t h =
    let m = making_of i in
    let g : Follows m (Item t) = subst (λ (n : Making). Follows n (Item t)) (sym e) h in
    let p = heavy_passes i.builder i.builder.axioms t shared begun.axioms (item_heavy i.is_heavy m.kids m.item t heavy g.forms) in
    (λ _. subst (λ (n : Making). PassesLimit n.document (axioms_of n.document) t) e p, λ _. refl)

-- nothing is open where the item is whole, nor behind it
no_numbers : (os : List parts.Open) → map (λ (o : parts.Open). o.outline) os ≡ [] → map (λ (o : parts.Open). o.kids.items) os ≡ []
no_numbers [] e = refl
no_numbers (o ∷ os) e = absurd cc

pub nothing_left : (new : Making) (stack : List parts.Open) (ts : List Tree) → outlines_in stack ≡ [] → new.outlines ≡ outlines_in stack → new.kids ≡ map (trees_at ts) (numbers_in stack) → new.item ≡ None → new.is_heavy ≡ false → Follows new (Constructs [])
nothing_left new stack ts e o k i b =
    let none = ap (λ (ids : List (List ℕ)). map (trees_at ts) ids) (no_numbers (reverse stack) e) in
    record { outlines = o ∙ e; sound = tt; forms = moved false new.is_heavy [] new.kids None new.item (Constructs []) b (k ∙ none) i (refl, refl) }

-- what came of adding it
pub is_ok_left : (r : Result (Unit {0}) MakeFault) (a : Result Bool AddFault) (P : Type 0) → IsOk r ↔ IsOk a → IfErr a (λ e. P) → IfErr r (λ e. P)
is_ok_left (Ok x) a P k h = tt
is_ok_left (Err x) (Err e) P k h = h
is_ok_left (Err x) (Ok b) P k h = absurd (false≢true (k.1 refl))

module _ (i : maker.Inside) (value : Making) (e : making_of i ≡ value) (light : i.is_heavy ≡ false) (id : ℕ) (is : i.item ≡ Some id) where
  form_is : (t : Tree) → Follows value (Item t) → tree_at i.builder.arena.trees id ≡ canonical t
  form_is t h = number_is i id t is light (subst (λ (n : Making). Follows n (Item t)) (sym e) h)

  pub tag_is : (t : Tree) → Follows value (Item t) → tag_of (tree_at i.builder.arena.trees id) ≡ tag_of t
  tag_is t h = ap tag_of (form_is t h) ∙ canonical_tag t

  module _ (shared : AreShared i.builder.arena.trees) (begun : IsBegun i.builder) (here : id < length i.builder.arena.trees) where
    pub note_done : (r : Result (Unit {0}) MakeFault) (a : Result Bool AddFault) (new : Document) → IsOk r ↔ IsOk a → IfOk a (λ b. IsTrue b ↔ (Contains i.builder.notes id → ⊥)) → IfOk a (λ b. new ≡ with_note b id i.builder) → OnOk r ((t : Tree) → Follows value (Item t) → AddsAnnotation value.document new t)
    note_done (Err x) a new k h f = tt
    note_done (Ok x) (Err y) new k h f = absurd (false≢true (k.0 refl))
    note_done (Ok x) (Ok b) new k h f = λ t g.
        subst (λ (m : Making). AddsAnnotation m.document new t) e (note_added i.builder shared begun id here new b t f (form_is t g) h)

    pub axiom_done : (r : Result (Unit {0}) MakeFault) (a : Result Bool AddFault) (new : Document) → IsOk r ↔ IsOk a → IfOk a (λ b. IsTrue b ↔ (Contains i.builder.axioms id → ⊥)) → IfOk a (λ b. new ≡ with_axiom b id i.builder) → OnOk r ((t : Tree) → Follows value (Item t) → AddsAxiom value.document new t)
    axiom_done (Err x) a new k h f = tt
    axiom_done (Ok x) (Err y) new k h f = absurd (false≢true (k.0 refl))
    axiom_done (Ok x) (Ok b) new k h f = λ t g.
        subst (λ (m : Making). AddsAxiom m.document new t) e (axiom_added i.builder shared begun id here new b t f (form_is t g) h)

    pub note_limit : (r : Result (Unit {0}) MakeFault) (a : Result Bool AddFault) → IsErrOf r TooHeavy ↔ IsErrOf a add.TooHeavy → IsErrOf a add.TooHeavy ↔ (IsAnnotationAt i.builder id × PassesWeight i.builder i.builder.notes id) → IsAnnotationAt i.builder id → (t : Tree) → Follows value (Item t) → IsErrOf r TooHeavy ↔ PassesLimit value.document (annotations_of value.document) t
    note_limit r a q w tagged t h =
        let d = i.builder in (
          λ k. subst (λ (m : Making). PassesLimit m.document (annotations_of m.document) t) e (limit_passed d shared begun id here d.notes t begun.notes (form_is t h) (w.0 (q.0 k)).1),
          λ p. q.1 (w.1 (tagged, weight_passed d shared begun id here d.notes t (form_is t h) (subst (λ (m : Making). PassesLimit m.document (annotations_of m.document) t) (sym e) p))),
        )

    pub axiom_limit : (r : Result (Unit {0}) MakeFault) (a : Result Bool AddFault) → IsErrOf r TooHeavy ↔ IsErrOf a add.TooHeavy → IsErrOf a add.TooHeavy ↔ (IsAxiomAt i.builder id × PassesWeight i.builder i.builder.axioms id) → IsAxiomAt i.builder id → (t : Tree) → Follows value (Item t) → IsErrOf r TooHeavy ↔ PassesLimit value.document (axioms_of value.document) t
    axiom_limit r a q w tagged t h =
        let d = i.builder in (
          λ k. subst (λ (m : Making). PassesLimit m.document (axioms_of m.document) t) e (limit_passed d shared begun id here d.axioms t begun.axioms (form_is t h) (w.0 (q.0 k)).1),
          λ p. q.1 (w.1 (tagged, weight_passed d shared begun id here d.axioms t (form_is t h) (subst (λ (m : Making). PassesLimit m.document (axioms_of m.document) t) (sym e) p))),
        )

pub on_ok : {P : Type 0} (r : Result (Unit {0}) MakeFault) → P → OnOk r P
on_ok (Ok x) p = p
on_ok (Err x) p = tt
