-- A graph declares what the axioms declare that it states (Mapping to RDF Graphs, section 3.1.2).
use Rattle.std.specs.Prelude.{◌≡◌, ◌↔◌, ◌&&◌, ◌||◌, ℕ, Bool, true, false, not, cond, List, [], ◌∷◌, ◌++◌, Contains, Option, None, Some}
use Rattle.std.specs.List.{filter, list_all, list_any}
use Rattle.std.specs.Str.{bytes_eq}
use Rattle.std.proofs.Common.{inl, inr, refl, sym, ap, ◌∙◌, subst}
use Rattle.std.proofs.lemmas.Bool.{and_parts, both_ways, false_from_ne_true, not-true, or_cases}
use Rattle.std.proofs.lemmas.List.Elements.{Contains-append_cases, Contains-append_left}
use Rattle.std.proofs.lemmas.Option.{none-some, same_Some}
use Rattle.owl_doc.specs.Entities.{declaration as declared_by, declarations as declared_by_all, declared_kind as kind_told, declared_over, entity_of as entity_in}
use Rattle.owl_kind.specs.declared.kind.Kind.{Kind}
use Rattle.owl_kind.specs.declared.kind.Kind.TheVariants as kind
use Rattle.owl_kind.specs.Kinds.{Entity}
use Rattle.owl_list.proofs.AscendingLaws.{in_head}
use Rattle.owl_list.proofs.FilterLaws.{from_filter, from_filter_map, in_filter, in_filter_map}
use Rattle.owl_tree.specs.declared.atom.Atom.TheVariants as atom
use Rattle.owl_tree.specs.declared.tag.Tag.{Tag}
use Rattle.owl_tree.specs.declared.tag.Tag.TheVariants as tag
use Rattle.owl_tree.specs.Ontologies.{Ontology}
use Rattle.std.proofs.lemmas.List.{append-nil}
use Rattle.owl_doc.specs.Entities.{kind_of}
use Rattle.owl_tree.specs.OrderLaws.{same_tag}
use Rattle.owl_tree.specs.Rows.{is_tag}
use Rattle.owl_tree.specs.Tags.{number_of}
use Rattle.owl_tree.proofs.TreeLaws.{list_of_kids_of}
use Rattle.owl_tree.specs.Trees.{Tree, kids_of, leaf, node}
use Rattle.rdf_graph.specs.declared.term.Term.{Term}
use Rattle.rdf_graph.specs.declared.term.Term.TheVariants.{Blank, Iri, Literal}
use Rattle.rdf_graph.specs.declared.triple.Triple.{Triple}
use Rattle.rdf_meaning.specs.declared.role.Role.TheVariants as role
use Rattle.rdf_meaning.specs.declared.row.Part.{Part}
use Rattle.rdf_meaning.specs.declared.row.Place.{Place}
use Rattle.rdf_meaning.specs.declared.row.Place.TheVariants.{Subject}
use Rattle.rdf_meaning.specs.declared.row.Site.{Site}
use Rattle.rdf_meaning.specs.declared.row.Site.TheVariants.{Node, TypedBy, OtherType, LinkedBy, OtherLink}
use Rattle.rdf_meaning.specs.declared.row.Want.{Want}
use Rattle.rdf_meaning.specs.declared.row.Want.TheVariants.{Declared}
use Rattle.rdf_meaning.specs.declared.word.Word.{Word}
use Rattle.rdf_meaning.specs.declared.word.Word.TheVariants as word
use Rattle.rdf_meaning.proofs.AxiomLaws.{axioms_of_nodes, axioms_of_triples}
use Rattle.rdf_meaning.specs.Denotation.{Bearer, Denotes, Holds, axiom_predicates, by_declaration, declared_entity, declared_kind, first_of, kind_of_entity, axiom_types, no_parts, of_triple, select, site_of}
use Rattle.rdf_meaning.proofs.DenotationLaws.{parts_are}
use Rattle.rdf_meaning.proofs.ListLaws.{passes, same_only}
use Rattle.rdf_meaning.proofs.NodeLaws.{one_word}
use Rattle.rdf_meaning.specs.Nodes.{carries, is_role, is_same, is_structural, nodes_of, role_of, says_type, type_iri}
use Rattle.rdf_meaning.specs.Rows.{Row, axiom_rows}
use Rattle.rdf_meaning.proofs.SoundLaws.{nothing_below}
use Rattle.rdf_meaning.specs.Statements.{IsOfSome, IsOfSomeNode, Says, header_words, is_annotation_triple, is_axiom_predicate, is_header_triple, main_triples, notes}
use Rattle.rdf_meaning.specs.Words.{is_type, word_iri}
use Rattle.rdf_faults.specs.Faults.{kind_declared}
use Rattle.rdf_faults.proofs.MeantLaws.{triple_axiom}
use Rattle.rdf_scans.specs.Outlines.{declaration, declarations, entity_of, kind_at}
use Rattle.rdf_statements.proofs.StatedLaws.{has_set}

-- the rows of declarations: by each word the tag of what is declared

abbrev told : Site → Option Tag
told (TypedBy word.Class) = Some tag.Class
told (TypedBy word.Datatype) = Some tag.Datatype
told (TypedBy word.ObjectProperty) = Some tag.ObjectProperty
told (TypedBy word.DatatypeProperty) = Some tag.DataProperty
told (TypedBy word.AnnotationProperty) = Some tag.AnnotationProperty
told (TypedBy word.NamedIndividual) = Some tag.NamedIndividual
told s = None

abbrev is_declared_at : Tag → Place → Want → Bool
is_declared_at u Subject (Declared t) = is_tag u t
is_declared_at u place want = false

abbrev are_parts_of : Tag → List Part → Bool
are_parts_of u [] = false
are_parts_of u (p ∷ []) = is_declared_at u p.place p.want
are_parts_of u (p ∷ q ∷ ps) = false

-- a row at such a site is of a declaration, and no other one is
abbrev declares_so : Option Tag → Tag → List Part → Bool
declares_so None t ps = not (is_tag tag.Declaration t)
declares_so (Some u) t ps = is_tag tag.Declaration t && are_parts_of u ps

rows_declare_so : list_all (λ r. declares_so (told r.site) r.tag r.parts) axiom_rows ≡ true
unfolding axiom_rows number_of
rows_declare_so = refl

tag_told : (u t : Tag) → is_tag u t ≡ true → t ≡ u
tag_told u t e = sym ((same_tag u t).0 e)

part_told : (u : Tag) (place : Place) (want : Want) → is_declared_at u place want ≡ true → (place ≡ Subject) × (want ≡ Declared u)
part_told u Subject (Declared t) e = (refl, ap (λ (v : Tag). Declared v) (tag_told u t e))
part_told u place want e = cc

-- the one part of the row is its subject
record HasSubject (u : Tag) (ps : List Part) : Type 0 where
  part : Part
  one : ps ≡ part ∷ []
  place : part.place ≡ Subject
  want : part.want ≡ Declared u

parts_told : (u : Tag) (ps : List Part) → are_parts_of u ps ≡ true → HasSubject u ps
parts_told u [] e = cc
parts_told u (p ∷ []) e = let is = part_told u p.place p.want e in record { part = p; one = refl; place = is.0; want = is.1 }
parts_told u (p ∷ q ∷ ps) e = cc

-- words, kinds and tags

word_kind : (w : Word) (u : Tag) → told (TypedBy w) ≡ Some u → kind_told u ≡ kind_declared w
unfolding kind_told kind_of
word_kind word.Class u e = subst (λ v. kind_told v ≡ Some kind.Class) (same_Some tag.Class u e) refl
word_kind word.Datatype u e = subst (λ v. kind_told v ≡ Some kind.Datatype) (same_Some tag.Datatype u e) refl
word_kind word.ObjectProperty u e = subst (λ v. kind_told v ≡ Some kind.ObjectProperty) (same_Some tag.ObjectProperty u e) refl
word_kind word.DatatypeProperty u e = subst (λ v. kind_told v ≡ Some kind.DataProperty) (same_Some tag.DataProperty u e) refl
word_kind word.AnnotationProperty u e = subst (λ v. kind_told v ≡ Some kind.AnnotationProperty) (same_Some tag.AnnotationProperty u e) refl
word_kind word.NamedIndividual u e = subst (λ v. kind_told v ≡ Some kind.Individual) (same_Some tag.NamedIndividual u e) refl
word_kind w u e = cc

kind_word : (w : Word) (declared : Kind) → kind_declared w ≡ Some declared → (u : Tag) × (told (TypedBy w) ≡ Some u)
kind_word word.Class d e = (tag.Class, refl)
kind_word word.Datatype d e = (tag.Datatype, refl)
kind_word word.ObjectProperty d e = (tag.ObjectProperty, refl)
kind_word word.DatatypeProperty d e = (tag.DataProperty, refl)
kind_word word.AnnotationProperty d e = (tag.AnnotationProperty, refl)
kind_word word.NamedIndividual d e = (tag.NamedIndividual, refl)
kind_word w d e = cc

pub kind_is_type : (w : Word) (declared : Kind) → kind_declared w ≡ Some declared → is_type w ≡ true
unfolding is_type
kind_is_type word.Class d e = refl
kind_is_type word.Datatype d e = refl
kind_is_type word.ObjectProperty d e = refl
kind_is_type word.DatatypeProperty d e = refl
kind_is_type word.AnnotationProperty d e = refl
kind_is_type word.NamedIndividual d e = refl
kind_is_type w d e = cc

pub site_kind : (s : Site) (declared : Kind) → kind_at s ≡ Some declared → (w : Word) × (s ≡ TypedBy w) × (kind_declared w ≡ Some declared)
site_kind (TypedBy w) d e = (w, refl, e)
site_kind (Node r) d e = cc
site_kind OtherType d e = cc
site_kind (LinkedBy w) d e = cc
site_kind OtherLink d e = cc

told_site : (s : Site) (u : Tag) → told s ≡ Some u → (w : Word) × (s ≡ TypedBy w)
told_site (TypedBy w) u e = (w, refl)
told_site (Node r) u e = cc
told_site OtherType u e = cc
told_site (LinkedBy w) u e = cc
told_site OtherLink u e = cc

-- the entity of a declaration

pub record Declares (x : Term) (o : Option Kind) (e : Entity) : Type 0 where
  pub iri : List ℕ
  pub kind : Kind
  pub subject : x ≡ Iri iri
  pub told : o ≡ Some kind
  pub entity : ◌≡◌ {A = Entity} (record { kind = kind; iri = iri }) e

pub entity_told : (x : Term) (o : Option Kind) (e : Entity) → entity_of x o ≡ Some e → Declares x o e
entity_told (Iri iri) (Some kind) e n = record { iri = iri; kind = kind; subject = refl; told = refl; entity = same_Some _ e n }
entity_told (Iri iri) None e n = absurd (none-some e n)
entity_told (Blank label) o e n = absurd (none-some e n)
entity_told (Literal literal) o e n = absurd (none-some e n)

same_iris : (a b : List ℕ) → Iri a ≡ Iri b → a ≡ b
same_iris a b e = cc

-- the leaf of what is declared

some_leaf : (b : Bool) (a v : Tree) → cond b (Some a) None ≡ Some v → v ≡ a
some_leaf true a v e = sym (same_Some a v e)
some_leaf false a v e = absurd (none-some v e)

leaf_of_kind : (k : List Entity) (u : Tag) (iri : List ℕ) (o : Option Kind) (v : Tree) → declared_kind k u iri o ≡ Some v → v ≡ leaf u (atom.Iri iri)
leaf_of_kind k u iri None v e = absurd (none-some v e)
leaf_of_kind k u iri (Some kind.Individual) v e = some_leaf _ (leaf u (atom.Iri iri)) v e
leaf_of_kind k u iri (Some kind.Class) v e = some_leaf _ (leaf u (atom.Iri iri)) v e
leaf_of_kind k u iri (Some kind.Datatype) v e = some_leaf _ (leaf u (atom.Iri iri)) v e
leaf_of_kind k u iri (Some kind.ObjectProperty) v e = some_leaf _ (leaf u (atom.Iri iri)) v e
leaf_of_kind k u iri (Some kind.DataProperty) v e = some_leaf _ (leaf u (atom.Iri iri)) v e
leaf_of_kind k u iri (Some kind.AnnotationProperty) v e = some_leaf _ (leaf u (atom.Iri iri)) v e

-- the leaf of an IRI stands for the entity
record IsLeafOf (x : Term) (u : Tag) (v : Tree) : Type 0 where
  iri : List ℕ
  subject : x ≡ Iri iri
  leaf_is : v ≡ leaf u (atom.Iri iri)

leaf_declared : (k : List Entity) (u : Tag) (x : Term) (v : Tree) → declared_entity k u x ≡ Some v → IsLeafOf x u v
unfolding declared_entity
leaf_declared k u (Iri iri) v e = record { iri = iri; subject = refl; leaf_is = leaf_of_kind k u iri (kind_of_entity u) v e }
leaf_declared k u (Blank label) v e = absurd (none-some v e)
leaf_declared k u (Literal literal) v e = absurd (none-some v e)

-- sites

typed_is : (b : Bool) (ts us : List Word) (w : Word) → cond b (first_of TypedBy OtherType ts) (first_of LinkedBy OtherLink us) ≡ TypedBy w → (b ≡ true) × Contains ts w
typed_is true [] us w e = cc
typed_is true (v ∷ ts) us w e = (refl, subst (Contains (v ∷ ts)) (same_words v w e) (in_head v ts))
  where
    same_words : (a b : Word) → TypedBy a ≡ TypedBy b → a ≡ b
    same_words a b f = cc
typed_is false ts [] w e = cc
typed_is false ts (v ∷ us) w e = cc

pub site_says : (t : Triple) (w : Word) → site_of t ≡ TypedBy w → (bytes_eq t.predicate type_iri ≡ true) × (says_type (word_iri w) t ≡ true)
unfolding site_of
site_says t w e =
    let is = typed_is (bytes_eq t.predicate type_iri) (filter (λ v. says_type (word_iri v) t) axiom_types) _ w e in
    (is.0, (from_filter (λ v. says_type (word_iri v) t) axiom_types w is.1).passes)

where_true : (b c d : Bool) → b ≡ true → c ≡ true → cond b c d ≡ true
where_true true c d e h = h
where_true false c d e h = cc

pub carried : (w : Word) (t : Triple) → is_type w ≡ true → says_type (word_iri w) t ≡ true → carries w t ≡ true
unfolding carries
carried w t e h = where_true (is_type w) (says_type (word_iri w) t) _ e h

not_three : (a b c : Bool) → a ≡ false → b ≡ false → c ≡ false → not (a || b || c) ≡ true
not_three a b c e f h = ap (λ x. not (x || b || c)) e ∙ ap (λ x. not (x || c)) f ∙ ap not h

no_other_word : (w v : Word) (t : Triple) (declared : Kind) → kind_declared w ≡ Some declared → kind_declared v ≡ None → carries w t ≡ true → carries v t ≡ true → ⊥
no_other_word w v t d e none h n = none-some d (sym none ∙ ap kind_declared (sym (one_word w v t h n)) ∙ e)

module _ (g : List Triple) (k : List Entity) (o : Ontology) (h : Says g k o) where
  abbrev axioms : List Tree
  axioms = h.states.by_triples ++ h.states.by_nodes

  -- a triple that declares an IRI is a main one

  no_header_words : (t : Triple) (w : Word) (declared : Kind) → kind_declared w ≡ Some declared → carries w t ≡ true → list_any (λ v. carries v t) header_words ≡ true → ⊥
  no_header_words t w d e c some =
      elim (or_cases (carries word.Ontology t) _ some) [
        | inl n ↦ no_other_word w word.Ontology t d e refl c n
        | inr more ↦ elim (or_cases (carries word.VersionIri t) _ more) [
          | inl n ↦ no_other_word w word.VersionIri t d e refl c n
          | inr rest ↦ elim (or_cases (carries word.Imports t) false rest) [
            | inl n ↦ no_other_word w word.Imports t d e refl c n
            | inr n ↦ both_ways false refl n
          ]
        ]
      ]

  no_header : (t : Triple) (w : Word) (declared : Kind) → kind_declared w ≡ Some declared → carries w t ≡ true → is_header_triple h.states.header t ≡ true → ⊥
  unfolding is_header_triple
  no_header t w d e c n = no_header_words t w d e c (and_parts (is_same t.subject h.states.header) _ n).1

  no_role : (t : Triple) (iri : List ℕ) → t.subject ≡ Iri iri → role_of g t.subject ≡ role.Individual
  no_role t iri e = ap (role_of g) e

  no_annotation : (t : Triple) (iri : List ℕ) → t.subject ≡ Iri iri → bytes_eq t.predicate type_iri ≡ true → is_annotation_triple g k h.states.header t ≡ true → ⊥
  unfolding is_annotation_triple
  no_annotation t iri e type n =
      elim (or_cases _ ((is_role role.Main (role_of g t.subject) || is_role role.Note (role_of g t.subject)) && not (is_structural g t)) n) [
        | inl head ↦
            let last = and_parts _ (not (is_axiom_predicate t.predicate)) head in
            both_ways _ (not-true _ last.1) (ap (λ b. b || list_any (λ w. bytes_eq t.predicate (word_iri w)) axiom_predicates) type)
        | inr noted ↦
            let first = and_parts (is_role role.Main (role_of g t.subject) || is_role role.Note (role_of g t.subject)) _ noted in
            both_ways false refl (sym (ap (λ r. is_role role.Main r || is_role role.Note r) (no_role t iri e)) ∙ first.0)
      ]

  in_main : (t : Triple) (iri : List ℕ) (w : Word) (declared : Kind) → Contains g t → t.subject ≡ Iri iri → site_of t ≡ TypedBy w → kind_declared w ≡ Some declared → Contains (main_triples g k h.states.header) t
  unfolding main_triples
  in_main t iri w d m e site n =
      let says = site_says t w site in
      let c = carried w t (kind_is_type w d n) says.1 in
      in_filter (λ u. not (is_structural g u || is_header_triple h.states.header u || is_annotation_triple g k h.states.header u)) g t m
      (not_three (is_structural g t) (is_header_triple h.states.header t) (is_annotation_triple g k h.states.header t)
      (false_from_ne_true (is_structural g t) (nothing_below g t.subject (no_role t iri e) t m refl))
      (false_from_ne_true (is_header_triple h.states.header t) (no_header t w d n c))
      (false_from_ne_true (is_annotation_triple g k h.states.header t) (no_annotation t iri e says.0)))

  -- what stands at the one part of its row

  subject_of : (x : Term) (t : Triple) → t.subject ∷ [] ≡ x ∷ [] → x ≡ t.subject
  subject_of x t e = same_only x t.subject (sym e)

  declared_is : (x : Term) (u : Tag) (us : List Tree) → Denotes g k x (Declared u) us → (v : Tree) × (us ≡ v ∷ []) × (declared_entity k u x ≡ Some v)
  declared_is _ _ _ (by_declaration u x v e) = (v, refl, e)

  nothing_left : (b : Bearer) (us : List Tree) → Holds g k b [] us → us ≡ []
  nothing_left _ _ (no_parts b) = refl

  -- the kid of a declaration is the leaf of the IRI
  record HasLeaf (t : Triple) (u : Tag) (kids : List Tree) : Type 0 where
    iri : List ℕ
    subject : t.subject ≡ Iri iri
    one : kids ≡ leaf u (atom.Iri iri) ∷ []

  leaf_of : (t : Triple) (u : Tag) (ps : List Part) (kids : List Tree) → HasSubject u ps → Holds g k (of_triple t) ps kids → HasLeaf t u kids
  leaf_of t u ps kids has holds =
      let is = parts_are g k (of_triple t) has.part [] kids (subst (λ qs. Holds g k (of_triple t) qs kids) has.one holds) in
      let same = subject_of is.x t (subst (λ q. select g (of_triple t) q ≡ is.x ∷ []) has.place is.one) in
      let own = declared_is is.x u is.us (subst (λ w. Denotes g k is.x w is.us) has.want is.denotes) in
      let its = leaf_declared k u is.x own.0 own.2 in
      record {
        iri = its.iri;
        subject = sym same ∙ its.subject;
        one = is.joined ∙ ap (λ vs. is.us ++ vs) (nothing_left (of_triple t) is.vs is.rest) ∙ append-nil is.us ∙ own.1 ∙ ap (λ v. v ∷ []) its.leaf_is;
      }

  -- there
  declares_too : (t : Triple) (e : Entity) → Contains g t → declaration t ≡ Some e → Contains (declared_by_all axioms) e
  declares_too t e m n =
      let told_of = entity_told t.subject (kind_at (site_of t)) e n in
      let site = site_kind (site_of t) told_of.kind told_of.told in
      let main = in_main t told_of.iri site.0 told_of.kind m told_of.subject site.1 site.2 in
      let is = triple_axiom g k o h t main in
      let s = has_set g k t is.sets is.variants in
      let u = kind_word site.0 told_of.kind site.2 in
      let row = is.said.row in
      let tests = passes (λ r. declares_so (told r.site) r.tag r.parts) axiom_rows row rows_declare_so is.said.among in
      let at : told row.site ≡ Some u.0 = ap told (is.said.fits ∙ site.1) ∙ u.1 in
      let both = and_parts (is_tag tag.Declaration row.tag) (are_parts_of u.0 row.parts) (subst (λ q. declares_so q row.tag row.parts ≡ true) at tests) in
      let its = leaf_of t u.0 row.parts is.kids (parts_told u.0 row.parts both.1) is.said.parts in
      let tag_is : is.tag ≡ tag.Declaration = sym is.said.tag ∙ tag_told tag.Declaration row.tag both.0 in
      let a = node is.tag (kids_of (s.0 ∷ is.kids)) in
      let form : a ≡ node tag.Declaration (kids_of (s.0 ∷ leaf u.0 (atom.Iri its.iri) ∷ [])) =
      (λ i. node (tag_is i) (kids_of (s.0 ∷ its.one i))) in
      let same_iri : its.iri ≡ told_of.iri = same_iris its.iri told_of.iri (sym its.subject ∙ told_of.subject) in
      let kind_is : kind_told u.0 ≡ Some told_of.kind = word_kind site.0 u.0 u.1 ∙ site.2 in
      let entity : entity_in (kind_told u.0) (atom.Iri its.iri) ≡ Some e =
      ap (λ q. entity_in q (atom.Iri its.iri)) kind_is ∙ ap (λ i. Some (record { kind = told_of.kind; iri = i })) same_iri ∙ ap (λ (x : Entity). Some x) told_of.entity in
      in_filter_map declared_by axioms a e
      (Contains-append_left h.states.by_triples h.states.by_nodes a
      ((axioms_of_triples g k h.states.no_clash (main_triples g k h.states.header) h.states.by_triples h.states.are_axioms a).1 (record {
        triple = t;
        inside = main;
        axiom_of = record { tag = is.tag; kids = is.kids; said = is.said; sets = is.sets; variants = is.variants; annotations = s.0; inside = s.1; whole = refl };
      })))
      (ap declared_by form ∙ entity)

  -- and back

  same_entities : (o : Option Kind) (iri : List ℕ) → entity_of (Iri iri) o ≡ entity_in o (atom.Iri iri)
  same_entities None iri = refl
  same_entities (Some kind) iri = refl

  over_tag : (t : Tag) (ts : List Tree) (e : Entity) → declared_over t ts ≡ Some e → t ≡ tag.Declaration
  over_tag tag.Declaration ts e n = refl
  over_tag _ ts e n = absurd (none-some e n)

  -- the row of a declaration has a word for what is declared
  row_told : (q : Option Tag) (t : Tag) (ps : List Part) → declares_so q t ps ≡ true → t ≡ tag.Declaration → (u : Tag) × (q ≡ Some u) × HasSubject u ps
  row_told None t ps n e = absurd (both_ways _ (not-true _ n) (ap (is_tag tag.Declaration) e ∙ (same_tag tag.Declaration tag.Declaration).1 refl))
  row_told (Some u) t ps n e = (u, refl, parts_told u ps (and_parts (is_tag tag.Declaration t) (are_parts_of u ps) n).1)

  told_row : (row : Row) → Contains axiom_rows row → row.tag ≡ tag.Declaration → (u : Tag) × (told row.site ≡ Some u) × HasSubject u row.parts
  told_row row m e =
      row_told (told row.site) row.tag row.parts (passes (λ r. declares_so (told r.site) r.tag r.parts) axiom_rows row rows_declare_so m) e

  axiom_declares : (a : Tree) (e : Entity) (t : Tag) (n : Tree) (kids : List Tree) → a ≡ node t (kids_of (n ∷ kids)) → declared_by a ≡ Some e → declared_over t (n ∷ kids) ≡ Some e
  axiom_declares a e t n kids whole d = ap (declared_over t) (sym (list_of_kids_of (n ∷ kids))) ∙ sym (ap declared_by whole) ∙ d

  by_triple : (a : Tree) (e : Entity) → IsOfSome g k (main_triples g k h.states.header) a → declared_by a ≡ Some e → Contains (declarations g) e
  unfolding main_triples
  by_triple a e is d =
      let t = is.triple in
      let said = is.axiom_of.said in
      let over = axiom_declares a e is.axiom_of.tag is.axiom_of.annotations is.axiom_of.kids is.axiom_of.whole d in
      let tag_is = over_tag is.axiom_of.tag (is.axiom_of.annotations ∷ is.axiom_of.kids) e over in
      let row = told_row said.row said.among (said.tag ∙ tag_is) in
      let site = told_site said.row.site row.0 row.1 in
      let its = leaf_of t row.0 said.row.parts is.axiom_of.kids row.2 said.parts in
      let entity : entity_in (kind_told row.0) (atom.Iri its.iri) ≡ Some e =
      sym ((λ i. declared_over (tag_is i) (is.axiom_of.annotations ∷ its.one i))) ∙ over in
      let kinds = word_kind site.0 row.0 (sym (ap told site.1) ∙ row.1) in
      let there : site_of t ≡ TypedBy site.0 = sym said.fits ∙ site.1 in
      in_filter_map declaration g t e
      (from_filter (λ u. not (is_structural g u || is_header_triple h.states.header u || is_annotation_triple g k h.states.header u)) g t is.inside).inside
      (ap (λ x. entity_of x (kind_at (site_of t))) its.subject ∙ ap (λ s. entity_of (Iri its.iri) (kind_at s)) there
      ∙ same_entities (kind_declared site.0) its.iri ∙ ap (λ q. entity_in q (atom.Iri its.iri)) (sym kinds) ∙ entity)

  no_node : (a : Tree) (e : Entity) → IsOfSomeNode g k (nodes_of g role.Main) a → declared_by a ≡ Some e → ⊥
  no_node a e is d =
      let said = is.axiom_of.said in
      let over = axiom_declares a e is.axiom_of.tag (notes is.axiom_of.annotations) is.axiom_of.kids is.axiom_of.whole d in
      let tag_is = over_tag is.axiom_of.tag (notes is.axiom_of.annotations ∷ is.axiom_of.kids) e over in
      let row = told_row said.row said.among (said.tag ∙ tag_is) in
      none-some row.0 (sym (ap told said.fits.0) ∙ row.1)

  declared_of : (a : Tree) (e : Entity) → Contains axioms a → declared_by a ≡ Some e → Contains (declarations g) e
  declared_of a e m d =
      elim (Contains-append_cases h.states.by_triples h.states.by_nodes a m) [
        | inl n ↦ by_triple a e ((axioms_of_triples g k h.states.no_clash (main_triples g k h.states.header) h.states.by_triples h.states.are_axioms a).0 n) d
        | inr n ↦ absurd (no_node a e ((axioms_of_nodes g k h.states.no_clash (nodes_of g role.Main) h.states.by_nodes h.states.are_node_axioms a).0 n) d)
      ]

  -- the graph declares exactly what the axioms do that it states
  pub declares_stated : (e : Entity) → Contains (declarations g) e ↔ Contains (declared_by_all axioms) e
  declares_stated e = (
    λ m. let t = from_filter_map declaration g e m in declares_too t.element e t.inside t.gives,
    λ m. let a = from_filter_map declared_by axioms e m in declared_of a.element e a.inside a.gives,
  )
