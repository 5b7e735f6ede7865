-- Steps of the list of what breaks rules.
use Rattle.std.proofs.Common.{◌≡◌, ◌<◌, ◌↔◌, ◌+◌, ℕ, zero, suc, pred, Bool, true, false, List, [], ◌∷◌, ◌++◌, length, get_or, map, take, refl, sym, ap, ◌∙◌, subst, append-nil, append_assoc, add-one, arith}
use Rattle.std.specs.Prelude.{IsTrue, Option, Some, slice_get}
use Rattle.std.specs.List.{flat_map}
use Rattle.std.proofs.lemmas.Bool.{false≢true}
use Rattle.std.proofs.lemmas.Grind.{flat_map-append}
use Rattle.std.proofs.lemmas.List.{take_more}
use Rattle.std.proofs.lemmas.Option.{same_Some, slice_get-map}
use Rattle.std.specs.Option.{option_map}
use Rattle.graph_walks.specs.Marks.{MarkEach}
use Rattle.owl_arena.specs.Held.{AreHeld, tree_at, trees_at}
use Rattle.owl_breaches.specs.Sites.{Site, site, sites, sites_from}
use Rattle.owl_breaches.proofs.ThoseLaws.{adds_both, adds_it, adds_none, adds_not}
use Rattle.owl_doc.specs.declared.item.Breach.{Breach}
use Rattle.owl_doc.specs.declared.item.Item.{Item}
use Rattle.owl_doc.specs.declared.item.Item.TheVariants.{Axiom, Header}
use Rattle.owl_doc.specs.declared.rule.Rule.{Rule as Name}
use Rattle.owl_doc.specs.Documents.{Document, IsDocument, ontology_of}
use Rattle.owl_doc.specs.Entities.{IsHeldItem}
use Rattle.owl_doc.specs.Parts.{Part, of_axiom, of_header, part_at, parts_of}
use Rattle.owl_tree.specs.Ontologies.{Ontology}
use Rattle.breach_lists.specs.Adding.{AddsSites, breaches_if, breaches_of, marked_breaches, sites_in}
use Rattle.breach_lists.specs.Telling.{Tells}

module _ {Rule : Type 0} (os : List Ontology) where
  -- the rules one behind the other
  pub rules_both : (rules more : List Rule) → sites (rules ++ more) os ≡ sites rules os ++ sites more os
  rules_both rules more = flat_map-append (λ (rule : Rule). sites_from rule 0 os) rules more

  -- one more rule
  pub rules_more : (rules : List Rule) (k : ℕ) (d : Rule) → k < length rules →
      sites (take (k + 1) rules) os ≡ sites (take k rules) os ++ sites_from (get_or rules k d) 0 os
  rules_more rules k d inside =
      let sites_by = λ (rule : Rule). sites_from rule 0 os in
      let rule = get_or rules k d in
      ap (flat_map sites_by) (take_more rules k d inside)
      ∙ (rules_both (take k rules) (rule ∷ []) ∙ ap (λ (ss : List (Site Rule)). sites (take k rules) os ++ ss) (append-nil (sites_by rule)))

-- one more ontology
module _ {Rule : Type 0} (rule : Rule) where
  sites_more : (start k place : ℕ) (os : List Ontology) → place ≡ start + k →
      sites_from rule start (take (suc k) os) ≡ sites_from rule start (take k os) ++ sites_in rule place (slice_get os k)
  sites_more start zero place [] e = refl
  sites_more start (suc k) place [] e = refl
  sites_more start zero place (o ∷ os) e =
      let same : start ≡ place = omega (arith, e) in
      append-nil (map (site rule start o) (parts_of o)) ∙ ap (λ (n : ℕ). map (site rule n o) (parts_of o)) same
  sites_more start (suc k) place (o ∷ os) e =
      let here = map (site rule start o) (parts_of o) in
      ap (λ (ss : List (Site Rule)). here ++ ss) (sites_more (suc start) k place os (omega (arith, e)))
      ∙ sym (append_assoc here (sites_from rule (suc start) (take k os)) (sites_in rule place (slice_get os k)))

  pub ontologies_more : (place : ℕ) (os : List Ontology) → sites_from rule 0 (take (place + 1) os) ≡ sites_from rule 0 (take place os) ++ sites_in rule place (slice_get os place)
  ontologies_more place os = ap (λ (n : ℕ). sites_from rule 0 (take n os)) (add-one place) ∙ sites_more 0 place place os (omega arith)

-- one more axiom
module _ (rule : Name) (document : ℕ) where
  abbrev IsMore : List ℕ → List Bool → ℕ → ℕ → ℕ → Type 0
  IsMore ids marks k next id =
      marked_breaches rule document (take next ids) marks ≡ marked_breaches rule document (take k ids) marks ++ breaches_if (get_or marks k false) rule document (Axiom id)

  marks_more : (ids : List ℕ) (marks : List Bool) (k id : ℕ) → k < length ids → id ≡ get_or ids k id → IsMore ids marks k (suc k) id
  marks_more [] marks k id inside is = absurd (omega arith)
  marks_more (first ∷ ids) [] zero id inside is = refl
  marks_more (first ∷ ids) [] (suc k) id inside is = refl
  marks_more (first ∷ ids) (mark ∷ marks) zero id inside is =
      append-nil (breaches_if mark rule document (Axiom first)) ∙ ap (λ (n : ℕ). breaches_if mark rule document (Axiom n)) (sym is)
  marks_more (first ∷ ids) (mark ∷ marks) (suc k) id inside is =
      let own = breaches_if mark rule document (Axiom first) in
      ap (λ (bs : List Breach). own ++ bs) (marks_more ids marks k id (omega arith) is)
      ∙ sym (append_assoc own (marked_breaches rule document (take k ids) marks) (breaches_if (get_or marks k false) rule document (Axiom id)))

  pub axioms_more : (ids : List ℕ) (marks : List Bool) (k id : ℕ) → k < length ids → id ≡ get_or ids k id → IsMore ids marks k (k + 1) id
  axioms_more ids marks k id inside is = subst (λ (n : ℕ). IsMore ids marks k n id) (sym (add-one k)) (marks_more ids marks k id inside is)

-- the first of some marks, and the others
module _ {X : Type 0} (IsSo : X → Type 0) where
  abbrev Marks : List X → List Bool → Type 0
  Marks xs marks = MarkEach (λ (_ : ℕ) (x : X). IsSo x) xs marks

  first_told : (x : X) (xs : List X) (mark : Bool) (marks : List Bool) → Marks (x ∷ xs) (mark ∷ marks) → IsTrue mark ↔ IsSo x
  first_told x xs mark marks each =
      let told = each.told 0 x refl in (
        λ h. told.0 (ap (λ (m : Bool). Some m) h),
        λ h. same_Some mark true (told.1 h),
      )

  later_marks : (x : X) (xs : List X) (mark : Bool) (marks : List Bool) → Marks (x ∷ xs) (mark ∷ marks) → Marks xs marks
  later_marks x xs mark marks each = record { size = ap pred each.size; told = λ place y is. each.told (suc place) y is }

module _ {Rule : Type 0} (name : Rule → Name) (Breaks : Rule → Ontology → Part → Type 0) (docs : List Document) where
  abbrev BreaksAt : Site Rule → Type 0
  BreaksAt s = Breaks s.rule s.ontology s.part

  abbrev Adds : List (Site Rule) → List Breach → List Breach → Type 0
  Adds these old new = AddsSites name Breaks docs these old new

  -- one part
  adds_if : (s : Site Rule) (is_broken : Bool) (rule : Name) (document : ℕ) (item : Item) (old : List Breach) → IsTrue is_broken ↔ BreaksAt s →
      Tells name docs s (record { rule = rule; document = document; item = item }) → Adds (s ∷ []) old (old ++ breaches_if is_broken rule document item)
  adds_if s true rule document item old same told =
      adds_it BreaksAt (Tells name docs) s (record { rule = rule; document = document; item = item }) old (same.0 refl) told
  adds_if s false rule document item old same told =
      subst (λ (new : List Breach). Adds (s ∷ []) old new) (sym (append-nil old))
      (adds_not BreaksAt (Tells name docs) s old (λ h. false≢true (same.1 h)))

  -- the parts of one document
  module _ (rule : Rule) (place : ℕ) (d : Document) (is : slice_get docs place ≡ Some d) where
    abbrev at : Part → Site Rule
    at part = site rule place (ontology_of d) part

    abbrev IsBroken : Part → Type 0
    IsBroken part = Breaks rule (ontology_of d) part

    told_of : (item : Item) → IsHeldItem d item → Tells name docs (at (part_at d item)) (record { rule = name rule; document = place; item = item })
    told_of item held = record { rule = refl; document = refl; there = d; is = is; held = held; part = refl }

    adds_axioms : (ids : List ℕ) (marks : List Bool) (old : List Breach) → AreHeld d.arena.trees ids → Marks (λ t. IsBroken (of_axiom t)) (trees_at d.arena.trees ids) marks →
        Adds (map at (map of_axiom (trees_at d.arena.trees ids))) old (old ++ marked_breaches (name rule) place ids marks)
    adds_axioms [] marks old held each =
        subst (λ (new : List Breach). Adds [] old new) (sym (append-nil old)) (adds_none BreaksAt (Tells name docs) old)
    adds_axioms (id ∷ ids) [] old held each = let e = each.size in absurd (cc)
    adds_axioms (id ∷ ids) (mark ∷ marks) old held each =
        let t = tree_at d.arena.trees id in
        let ts = trees_at d.arena.trees ids in
        let own = breaches_if mark (name rule) place (Axiom id) in
        let more = marked_breaches (name rule) place ids marks in
        let first = adds_if (at (of_axiom t)) mark (name rule) place (Axiom id) old (first_told (λ u. IsBroken (of_axiom u)) t ts mark marks each) (told_of (Axiom id) held.0) in
        let others = adds_axioms ids marks (old ++ own) held.1 (later_marks (λ u. IsBroken (of_axiom u)) t ts mark marks each) in
        subst (λ (new : List Breach). Adds (at (of_axiom t) ∷ map at (map of_axiom ts)) old new) (append_assoc old own more)
        (adds_both BreaksAt (Tells name docs) (at (of_axiom t) ∷ []) (map at (map of_axiom ts)) old (old ++ own) ((old ++ own) ++ more) first others)

    -- in canonical form its parts stand in order
    parts_are : IsDocument d → parts_of (ontology_of d) ≡ of_header (ontology_of d).annotations ∷ map of_axiom (ontology_of d).axioms
    parts_are document = ap (λ (o : Ontology). of_header o.annotations ∷ map of_axiom o.axioms) document.canonical

    pub adds_document : (is_broken : Bool) (marks : List Bool) (old : List Breach) → IsDocument d → IsTrue is_broken ↔ IsBroken (of_header (ontology_of d).annotations) →
        Marks (λ t. IsBroken (of_axiom t)) (ontology_of d).axioms marks →
        Adds (sites_in rule place (slice_get (map ontology_of docs) place)) old (old ++ breaches_of (name rule) place is_broken d.axioms marks)
    adds_document is_broken marks old document same each =
        let o = ontology_of d in
        let own = breaches_if is_broken (name rule) place Header in
        let more = marked_breaches (name rule) place d.axioms marks in
        let header = adds_if (at (of_header o.annotations)) is_broken (name rule) place Header old same (told_of Header tt) in
        let axioms = adds_axioms d.axioms marks (old ++ own) document.axioms each in
        let all : Adds (map at (of_header o.annotations ∷ map of_axiom o.axioms)) old ((old ++ own) ++ more) =
        adds_both BreaksAt (Tells name docs) (at (of_header o.annotations) ∷ []) (map at (map of_axiom o.axioms)) old (old ++ own) ((old ++ own) ++ more) header axioms in
        let there : slice_get (map ontology_of docs) place ≡ Some o = slice_get-map ontology_of docs place ∙ ap (option_map ontology_of) is in
        subst (λ (found : Option Ontology). Adds (sites_in rule place found) old (old ++ (own ++ more))) (sym there)
        (subst (λ (parts : List Part). Adds (map at parts) old (old ++ (own ++ more))) (sym (parts_are document))
        (subst (λ (new : List Breach). Adds (map at (of_header o.annotations ∷ map of_axiom o.axioms)) old new) (append_assoc old own more) all))
