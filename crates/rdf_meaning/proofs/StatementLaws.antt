-- Two ontologies that one graph states under the same kinds are equivalent.
use Rattle.std.specs.Prelude.{◌≡◌, ◌⊎◌, ℕ, List, [], ◌∷◌, ◌++◌, map, Option, None, Some}
use Rattle.std.proofs.Common.{inl, inr, refl, sym, ap, ◌∙◌, subst}
use Rattle.std.proofs.lemmas.Option.{same_Some}
use Rattle.owl_list.proofs.AscendingLaws.{same_sym, same_trans}
use Rattle.owl_kind.specs.Kinds.{Entity}
use Rattle.owl_tree.specs.declared.tag.Tag.{Tag}
use Rattle.owl_tree.specs.declared.row.Sort.TheVariants as sort
use Rattle.owl_tree.specs.Ontologies.{Head, HoldEquivalent, IsSameHead, IsSameOntology, Ontology}
use Rattle.owl_tree.proofs.OntologyLaws.{equivalent_lists}
use Rattle.owl_tree.specs.Trees.{Tree}
use Rattle.rdf_graph.specs.declared.term.Term.{Term}
use Rattle.rdf_graph.specs.declared.term.Term.TheVariants.{Iri, Blank}
use Rattle.rdf_graph.specs.declared.triple.Triple.{Triple}
use Rattle.rdf_meaning.proofs.ListLaws.{nothing_else, same_front}
use Rattle.rdf_meaning.specs.declared.word.Word.TheVariants as word
use Rattle.rdf_meaning.specs.declared.role.Role.TheVariants as role
use Rattle.rdf_meaning.specs.Nodes.{chosen, nodes_of}
use Rattle.rdf_meaning.specs.Kinds.{HaveNoClash}
use Rattle.rdf_meaning.specs.Rows.{Row, axiom_rows}
use Rattle.rdf_meaning.specs.Denotation.{AtMostOne, Bearer, of_node, of_triple, Holds, IsRowOf, simple}
use Rattle.rdf_meaning.proofs.DenotationLaws.{one_axiom_row, one_of_parts}
use Rattle.rdf_meaning.proofs.NodeLaws.{same_iri_term}
use Rattle.rdf_meaning.specs.Statements.{Variants, bare, noted, AreSets, no_set, set, Annotates, no_note, note, IsAxiomWith, AreAxioms, no_triple, triple, AreNodeAxioms, no_node, an_axiom, IsHeadOf, unnamed, named, States, Says, annotated, axioms_of, header_notes, main_triples, noters, notes, notes_of, only}

-- what the annotations of a triple come from
pub record IsNoted (g : List Triple) (k : List Entity) (t : Triple) (sets : List Tree) : Type 0 where
  pub by : Term
  pub more : List Term
  pub noters : noters g t ≡ by ∷ more
  pub are_sets : AreSets g k (by ∷ more) sets

pub variants_are : (g : List Triple) (k : List Entity) (t : Triple) (sets : List Tree) → Variants g k t sets → ((noters g t ≡ []) × (sets ≡ notes [] ∷ [])) ⊎ IsNoted g k t sets
variants_are g k _ _ (bare t e) = inl (e, refl)
variants_are g k _ _ (noted t r rs sets e h) = inr (record { by = r; more = rs; noters = e; are_sets = h })

pub record IsSet (g : List Triple) (k : List Entity) (r : Term) (rs : List Term) (sets : List Tree) : Type 0 where
  pub ts : List Tree
  pub others : List Tree
  pub annotates : Annotates g k (notes_of g r) ts
  pub are_sets : AreSets g k rs others
  pub joined : sets ≡ notes ts ∷ others

pub sets_are : (g : List Triple) (k : List Entity) (r : Term) (rs : List Term) (sets : List Tree) → AreSets g k (r ∷ rs) sets → IsSet g k r rs sets
sets_are g k _ _ _ (set r rs ts others a h) = record { ts = ts; others = others; annotates = a; are_sets = h; joined = refl }

pub record IsNote (g : List Triple) (k : List Entity) (t : Triple) (ts : List Triple) (us : List Tree) : Type 0 where
  pub p : Tree
  pub v : Tree
  pub sets : List Tree
  pub others : List Tree
  pub property : simple g k sort.AnnotationProperty (Iri t.predicate) ≡ Some p
  pub value : simple g k sort.AnnotationValue t.object ≡ Some v
  pub variants : Variants g k t sets
  pub rest : Annotates g k ts others
  pub joined : us ≡ annotated p v sets ++ others

pub notes_are : (g : List Triple) (k : List Entity) (t : Triple) (ts : List Triple) (us : List Tree) → Annotates g k (t ∷ ts) us → IsNote g k t ts us
notes_are g k _ _ _ (note t ts p v sets others e f d h) =
    record { p = p; v = v; sets = sets; others = others; property = e; value = f; variants = d; rest = h; joined = refl }

-- a bare triple, and one with annotations
only_bare : (g : List Triple) (k : List Entity) (t : Triple) → noters g t ≡ [] → (sets : List Tree) → Variants g k t sets → notes [] ∷ [] ≡ sets
only_bare g k t e sets h =
    elim (variants_are g k t sets h) [ inl b ↦ sym b.1 | inr n ↦ absurd (nothing_else n.by n.more (sym e ∙ n.noters)) ]

only_noted : (g : List Triple) (k : List Entity) (t : Triple) (rs : List Term) (r : Term) (sets : List Tree) → noters g t ≡ r ∷ rs → ((others : List Tree) → AreSets g k (r ∷ rs) others → sets ≡ others) → (others : List Tree) → Variants g k t others → sets ≡ others
only_noted g k t rs r sets e only_sets others h =
    elim (variants_are g k t others h) [
      | inl b ↦ absurd (nothing_else r rs (sym b.0 ∙ e))
      | inr n ↦ only_sets others (subst (λ (terms : List Term). AreSets g k terms others) (sym n.noters ∙ e) n.are_sets)
    ]

only_no_set : (g : List Triple) (k : List Entity) (us : List Tree) → AreSets g k [] us → [] ≡ us
only_no_set g k _ (no_set) = refl

only_set : (g : List Triple) (k : List Entity) (r : Term) (rs : List Term) (ts sets : List Tree) → ((us : List Tree) → Annotates g k (notes_of g r) us → ts ≡ us) → ((us : List Tree) → AreSets g k rs us → sets ≡ us) → (us : List Tree) → AreSets g k (r ∷ rs) us → notes ts ∷ sets ≡ us
only_set g k r rs ts sets only_first only_rest us h =
    let s = sets_are g k r rs us h in
    let first = only_first s.ts s.annotates in
    let rest = only_rest s.others s.are_sets in
    (λ i. notes (first i) ∷ rest i) ∙ sym s.joined

only_no_note : (g : List Triple) (k : List Entity) (us : List Tree) → Annotates g k [] us → [] ≡ us
only_no_note g k _ (no_note) = refl

only_note : (g : List Triple) (k : List Entity) (t : Triple) (ts : List Triple) (p v : Tree) (sets us : List Tree) → simple g k sort.AnnotationProperty (Iri t.predicate) ≡ Some p → simple g k sort.AnnotationValue t.object ≡ Some v → ((others : List Tree) → Variants g k t others → sets ≡ others) → ((others : List Tree) → Annotates g k ts others → us ≡ others) → (all : List Tree) → Annotates g k (t ∷ ts) all → annotated p v sets ++ us ≡ all
only_note g k t ts p v sets us e f only_sets only_rest all h =
    let n = notes_are g k t ts all h in
    let property = same_Some p n.p (sym e ∙ n.property) in
    let value = same_Some v n.v (sym f ∙ n.value) in
    let same = only_sets n.sets n.variants in
    let rest = only_rest n.others n.rest in
    (λ i. annotated (property i) (value i) (same i) ++ rest i) ∙ sym n.joined

mutual
  pub one_variants : (g : List Triple) (k : List Entity) (t : Triple) → AtMostOne (Variants g k t)
  one_variants g k _ _ (bare t e) = only_bare g k t e
  one_variants g k _ _ (noted t r rs sets e h) = only_noted g k t rs r sets e (one_sets g k (r ∷ rs) sets h)

  pub one_sets : (g : List Triple) (k : List Entity) (rs : List Term) → AtMostOne (AreSets g k rs)
  one_sets g k _ _ (no_set) = only_no_set g k
  one_sets g k _ _ (set r rs ts sets a h) = only_set g k r rs ts sets (one_notes g k (notes_of g r) ts a) (one_sets g k rs sets h)

  pub one_notes : (g : List Triple) (k : List Entity) (ts : List Triple) → AtMostOne (Annotates g k ts)
  one_notes g k _ _ (no_note) = only_no_note g k
  one_notes g k _ _ (note t ts p v sets us e f d h) =
      only_note g k t ts p v sets us e f (one_variants g k t sets d) (one_notes g k ts us h)

-- a node or triple is one axiom
pub record IsSameAxiom (a b : Tag) (ts us : List Tree) : Type 0 where
  pub tag : a ≡ b
  pub parts : ts ≡ us

row_with : (g : List Triple) (k : List Entity) (b : Bearer) (a : Tag) (ts : List Tree) (is : IsAxiomWith g k b a ts) → IsRowOf g k b axiom_rows is.row
row_with g k b a ts is = record { among = is.among; fits = is.fits; kids = ts; holds = is.parts }

module _ (g : List Triple) (k : List Entity) (none : HaveNoClash k) where
  pub one_axiom : (b : Bearer) (s t : Tag) (ts us : List Tree) → IsAxiomWith g k b s ts → IsAxiomWith g k b t us → IsSameAxiom s t ts us
  one_axiom b s t ts us left right =
      let rows = one_axiom_row g k none b left.row (row_with g k b s ts left) right.row (row_with g k b t us right) in
      record {
        tag = sym left.tag ∙ ap (λ (r : Row). r.tag) rows ∙ right.tag;
        parts = one_of_parts g k none b left.row.parts ts left.parts us (subst (λ (r : Row). Holds g k b r.parts us) (sym rows) right.parts);
      }

  record IsTriple (t : Triple) (more : List Triple) (all : List Tree) : Type 0 where
    pub a : Tag
    pub ts : List Tree
    pub sets : List Tree
    pub others : List Tree
    pub axiom_is : IsAxiomWith g k (of_triple t) a ts
    pub variants : Variants g k t sets
    pub rest : AreAxioms g k more others
    pub joined : all ≡ axioms_of a ts sets ++ others

  triples_are : (t : Triple) (more : List Triple) (all : List Tree) → AreAxioms g k (t ∷ more) all → IsTriple t more all
  triples_are _ _ _ (triple t more a ts sets others is d h) =
      record { a = a; ts = ts; sets = sets; others = others; axiom_is = is; variants = d; rest = h; joined = refl }

  only_no_triple : (us : List Tree) → AreAxioms g k [] us → [] ≡ us
  only_no_triple _ (no_triple) = refl

  only_triple : (t : Triple) (more : List Triple) (a : Tag) (ts sets us : List Tree) → IsAxiomWith g k (of_triple t) a ts → Variants g k t sets → ((others : List Tree) → AreAxioms g k more others → us ≡ others) → (all : List Tree) → AreAxioms g k (t ∷ more) all → axioms_of a ts sets ++ us ≡ all
  only_triple t more a ts sets us is d only_rest all h =
      let c = triples_are t more all h in
      let same = one_axiom (of_triple t) a c.a ts c.ts is c.axiom_is in
      let variants = one_variants g k t sets d c.sets c.variants in
      let rest = only_rest c.others c.rest in
      (λ i. axioms_of (same.tag i) (same.parts i) (variants i) ++ rest i) ∙ sym c.joined

  pub one_list_of_axioms : (ts : List Triple) → AtMostOne (AreAxioms g k ts)
  one_list_of_axioms _ _ (no_triple) = only_no_triple
  one_list_of_axioms _ _ (triple t more a ts sets us is d h) = only_triple t more a ts sets us is d (one_list_of_axioms more us h)

  record IsMain (x : Term) (more : List Term) (all : List Tree) : Type 0 where
    pub a : Tag
    pub ts : List Tree
    pub notes_in : List Tree
    pub others : List Tree
    pub axiom_is : IsAxiomWith g k (of_node x) a ts
    pub annotates : Annotates g k (notes_of g x) notes_in
    pub rest : AreNodeAxioms g k more others
    pub joined : all ≡ axioms_of a ts (notes notes_in ∷ []) ++ others

  mains_are : (x : Term) (more : List Term) (all : List Tree) → AreNodeAxioms g k (x ∷ more) all → IsMain x more all
  mains_are _ _ _ (an_axiom x more a ts notes_in others is d h) =
      record { a = a; ts = ts; notes_in = notes_in; others = others; axiom_is = is; annotates = d; rest = h; joined = refl }

  only_no_node : (us : List Tree) → AreNodeAxioms g k [] us → [] ≡ us
  only_no_node _ (no_node) = refl

  only_main : (x : Term) (more : List Term) (a : Tag) (ts notes_in us : List Tree) → IsAxiomWith g k (of_node x) a ts → Annotates g k (notes_of g x) notes_in → ((others : List Tree) → AreNodeAxioms g k more others → us ≡ others) → (all : List Tree) → AreNodeAxioms g k (x ∷ more) all → axioms_of a ts (notes notes_in ∷ []) ++ us ≡ all
  only_main x more a ts notes_in us is d only_rest all h =
      let c = mains_are x more all h in
      let same = one_axiom (of_node x) a c.a ts c.ts is c.axiom_is in
      let annotations = one_notes g k (notes_of g x) notes_in d c.notes_in c.annotates in
      let rest = only_rest c.others c.rest in
      (λ i. axioms_of (same.tag i) (same.parts i) (notes (annotations i) ∷ []) ++ rest i) ∙ sym c.joined

  pub one_list_of_node_axioms : (xs : List Term) → AtMostOne (AreNodeAxioms g k xs)
  one_list_of_node_axioms _ _ (no_node) = only_no_node
  one_list_of_node_axioms _ _ (an_axiom x more a ts notes_in us is d h) =
      only_main x more a ts notes_in us is d (one_list_of_node_axioms more us h)

-- the head that a node gives

same_iris : (xs ys : List (List ℕ)) → map Iri xs ≡ map Iri ys → xs ≡ ys
same_iris [] [] e = refl
same_iris [] (y ∷ ys) e = cc
same_iris (x ∷ xs) [] e = cc
same_iris (x ∷ xs) (y ∷ ys) e =
    let parts = same_front (Iri x) (Iri y) (map Iri xs) (map Iri ys) e in
    let first = same_iri_term x y parts.0 in
    let rest = same_iris xs ys parts.1 in
    λ i. first i ∷ rest i

one_only : {A : Type 0} (xs : List A) (a b : Option A) → only xs a → only xs b → a ≡ b
one_only [] None None h k = refl
one_only [] None (Some b) h k = absurd k
one_only [] (Some a) b h k = absurd h
one_only (x ∷ []) None b h k = absurd h
one_only (x ∷ []) (Some a) None h k = absurd k
one_only (x ∷ []) (Some a) (Some b) h k = ap Some (sym h ∙ k)
one_only (x ∷ y ∷ xs) a b h k = absurd h

abbrev unnamed_head : List (List ℕ) → Head
unnamed_head imports = record { name = None; imports = imports }

abbrev named_head : List ℕ → Option (List ℕ) → List (List ℕ) → Head
named_head iri version imports = record { name = Some (record { iri = iri; version = version }); imports = imports }

only_unnamed : (g : List Triple) (label : List ℕ) (imports : List (List ℕ)) → chosen g (Blank label) word.Imports ≡ map Iri imports → (b : Head) → IsHeadOf g (Blank label) b → unnamed_head imports ≡ b
only_unnamed g label imports e _ (unnamed _ others w f) = ap unnamed_head (same_iris imports others (sym e ∙ f))

only_named : (g : List Triple) (iri : List ℕ) (version : Option (List ℕ)) (imports versions : List (List ℕ)) → chosen g (Iri iri) word.VersionIri ≡ map Iri versions → only versions version → chosen g (Iri iri) word.Imports ≡ map Iri imports → (b : Head) → IsHeadOf g (Iri iri) b → named_head iri version imports ≡ b
only_named g iri version imports versions e o f _ (named _ other others seen d p h) =
    let same = same_iris versions seen (sym e ∙ d) in
    let one = one_only seen version other (subst (λ (vs : List (List ℕ)). only vs version) same o) p in
    let all = same_iris imports others (sym f ∙ h) in
    λ i. named_head iri (one i) (all i)

pub one_head : (g : List Triple) (x : Term) → AtMostOne (IsHeadOf g x)
one_head g _ _ (unnamed label imports v e) = only_unnamed g label imports e
one_head g _ _ (named iri version imports versions e o f) = only_named g iri version imports versions e o f

same_heads : (a b c : Head) → IsSameHead a c → IsSameHead b c → IsSameHead a b
same_heads a b c h k = record { name = h.name ∙ sym k.name; imports = same_trans a.imports c.imports b.imports h.imports (same_sym b.imports c.imports k.imports) }

same_lists : (ts us vs : List Tree) → HoldEquivalent ts vs → HoldEquivalent us vs → HoldEquivalent ts us
same_lists ts us vs h k = (equivalent_lists ts us).1 ((equivalent_lists ts vs).0 h ∙ sym ((equivalent_lists us vs).0 k))

-- the statements of one graph
pub one_statement : (g : List Triple) (k : List Entity) (o p : Ontology) → States g k o → States g k p → IsSameOntology o p
one_statement g k o p s t =
    let none : HaveNoClash k = s.no_clash in
    let header = (same_front s.header t.header [] [] (sym s.one_header ∙ t.one_header)).0 in
    let head = one_head g t.header s.said (subst (λ (x : Term). IsHeadOf g x s.said) header s.is_head) t.said t.is_head in
    let annotations =
    one_notes g k (header_notes g k t.header) s.notes_in
    (subst (λ (x : Term). Annotates g k (header_notes g k x) s.notes_in) header s.are_notes) t.notes_in t.are_notes in
    let by_triples =
    one_list_of_axioms g k none (main_triples g k t.header) s.by_triples
    (subst (λ (x : Term). AreAxioms g k (main_triples g k x) s.by_triples) header s.are_axioms) t.by_triples t.are_axioms in
    let by_nodes = one_list_of_node_axioms g k none (nodes_of g role.Main) s.by_nodes s.are_node_axioms t.by_nodes t.are_node_axioms in
    record {
      head = same_heads o.head p.head t.said (subst (λ (h : Head). IsSameHead o.head h) head s.head) t.head;
      annotations = same_lists o.annotations p.annotations t.notes_in (subst (λ (ts : List Tree). HoldEquivalent o.annotations ts) annotations s.annotations) t.annotations;
      axioms =
          same_lists o.axioms p.axioms (t.by_triples ++ t.by_nodes)
          (subst (λ (ts : List Tree). HoldEquivalent o.axioms ts) (λ i. by_triples i ++ by_nodes i) s.axioms) t.axioms;
    }

pub one_ontology : (g : List Triple) (k : List Entity) (o p : Ontology) → Says g k o → Says g k p → IsSameOntology o p
one_ontology g k o p s t = one_statement g k o p s.states t.states
