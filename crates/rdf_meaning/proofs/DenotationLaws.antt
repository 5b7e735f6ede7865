-- Under kinds without a clash a term denotes at most one tree, and at most one row is of a node or triple.
use Rattle.std.specs.Prelude.{◌≡◌, ◌≤◌, ◌⊎◌, ℕ, Bool, true, false, not, ◌||◌, cond, nat_le, List, [], ◌∷◌, ◌++◌, Contains, length, Option, None, Some}
use Rattle.std.specs.Str.{bytes_eq}
use Rattle.std.proofs.Common.{inl, inr, refl, sym, ap, ◌∙◌, subst, arith}
use Rattle.std.proofs.lemmas.Bool.{and_from, and_parts, both_ways, leb-true, not-true, or_cases}
use Rattle.std.proofs.lemmas.Option.{none-some, same_Some}
use Rattle.std.proofs.lemmas.Slice.Eq.{bytes_eq-Decides}
use Rattle.owl_kind.specs.declared.kind.Kind.{Kind}
use Rattle.owl_kind.specs.declared.kind.Kind.TheVariants as kind
use Rattle.owl_kind.specs.Kinds.{Entity, HasBoth, HasKind, SharesKinds}
use Rattle.owl_tree.specs.declared.tag.Tag.{Tag}
use Rattle.owl_tree.specs.declared.tag.Tag.TheVariants as tag
use Rattle.owl_tree.specs.declared.row.Sort.{Sort}
use Rattle.owl_tree.specs.declared.row.Sort.TheVariants as sort
use Rattle.owl_tree.specs.Rows.{admits}
use Rattle.owl_tree.specs.Trees.{Tree, node, kids_of}
use Rattle.rdf_graph.specs.declared.term.Term.{Term}
use Rattle.rdf_graph.specs.declared.term.Term.TheVariants.{Iri, Blank, Literal}
use Rattle.rdf_graph.specs.declared.triple.Triple.{Triple}
use Rattle.rdf_meaning.proofs.ListLaws.{no_less, same_only}
use Rattle.rdf_meaning.specs.declared.word.Word.{Word}
use Rattle.rdf_meaning.specs.declared.word.Word.TheVariants as word
use Rattle.rdf_meaning.specs.declared.role.Role.{Role}
use Rattle.rdf_meaning.specs.declared.role.Role.TheVariants as role
use Rattle.rdf_meaning.specs.declared.row.Want.{Want}
use Rattle.rdf_meaning.specs.declared.row.Want.TheVariants.{One, Many, Whole, Keys, Declared, Mark, True}
use Rattle.rdf_meaning.specs.declared.row.Part.{Part}
use Rattle.rdf_meaning.specs.declared.row.Site.{Site}
use Rattle.rdf_meaning.specs.declared.row.Site.TheVariants.{TypedBy, OtherType, LinkedBy, OtherLink}
use Rattle.rdf_meaning.specs.Nodes.{chosen, is_role, nil_iri, role_of, type_iri}
use Rattle.rdf_meaning.specs.Kinds.{HaveNoClash}
use Rattle.rdf_meaning.proofs.KindLaws.{has_kind_is, no_shared}
use Rattle.rdf_meaning.specs.Rows.{Row, axiom_rows, node_rows}
use Rattle.rdf_meaning.specs.RowTests.{are_opposed, are_opposed_wants, are_told_apart, clash, counts, has_row, has_row_at, has_same_form, is_place, is_site, is_told_from}
use Rattle.rdf_meaning.proofs.RowLaws.{at_expression, axiom_rows_are_told_apart, no_annotation_property, no_data_property, no_datatype, node_rows_are_told_apart, one_or_told, own_site, same_place, same_role}
use Rattle.rdf_meaning.specs.Denotation.{Bearer, of_node, of_triple, Denotes, by_itself, by_row, by_list, by_whole, by_keys, by_declaration, mark, is_true, Lists, no_cell, cell, AreKeys, no_key, object_key, data_key, Holds, no_parts, part, AtMostOne, Fits, IsRowOf, anonymous, declared_entity, first_of, named, or_else, select, simple, site_of}

-- what a condition gives, it is true for
pub so : {A : Type 0} (b : Bool) (a c : A) → cond b (Some a) None ≡ Some c → b ≡ true
so true a c e = refl
so false a c e = absurd (none-some c e)

pub so_else : (b : Bool) (a c : Tree) → or_else (cond b (Some a) None) None ≡ Some c → b ≡ true
so_else true a c e = refl
so_else false a c e = absurd (none-some c e)

pub so_option : {A : Type 0} (b : Bool) (o : Option A) (c : A) → cond b o None ≡ Some c → b ≡ true
so_option true o c e = refl
so_option false o c e = absurd (none-some c e)

-- What stands for itself is no node of a row.

individual_has_none : (r : Role) → is_role role.Individual r ≡ true → has_row r ≡ false
individual_has_none r h = ap has_row (sym (same_role role.Individual r h))

facet_has_none : (r : Role) → is_role role.Facet r ≡ true → has_row r ≡ false
facet_has_none r h = ap has_row (sym (same_role role.Facet r h))

anonymous_has_none : (g : List Triple) (label : List ℕ) (t : Tree) → anonymous g (Blank label) ≡ Some t → has_row (role_of g (Blank label)) ≡ false
anonymous_has_none g label t e = individual_has_none (role_of g (Blank label)) (so _ _ t e)

blank_has_none : (g : List Triple) (k : List Entity) (s : Sort) (label : List ℕ) (t : Tree) → simple g k s (Blank label) ≡ Some t → has_row (role_of g (Blank label)) ≡ false
unfolding simple
blank_has_none g k sort.Individual label t e = anonymous_has_none g label t e
blank_has_none g k sort.AnnotationSubject label t e = anonymous_has_none g label t e
blank_has_none g k sort.AnnotationValue label t e = individual_has_none (role_of g (Blank label)) (so_else _ _ t e)
blank_has_none g k sort.FacetPair label t e = facet_has_none (role_of g (Blank label)) (so_option _ _ t e)
blank_has_none g k _ label t e = absurd (none-some t e)

pub simple_has_none : (g : List Triple) (k : List Entity) (s : Sort) (x : Term) (t : Tree) → simple g k s x ≡ Some t → has_row (role_of g x) ≡ false
simple_has_none g k s (Iri iri) t e = refl
simple_has_none g k s (Blank label) t e = blank_has_none g k s label t e
simple_has_none g k s (Literal literal) t e = refl

-- Opposed sorts have no term in common.

named_so : (k : List Entity) (a : Kind) (t : Tag) (iri : List ℕ) (u : Tree) → named k a t (Iri iri) ≡ Some u → HasKind k a iri
named_so k a t iri u e = (has_kind_is k a iri).0 (so _ _ u e)

not_both : (k : List Entity) → HaveNoClash k → (a b : Kind) → ((iri : List ℕ) → HasBoth k a b iri → SharesKinds k iri) → (s t : Tag) (x : Term) (u v : Tree) → named k a s x ≡ Some u → named k b t x ≡ Some v → ⊥
not_both k none a b shares s t (Iri iri) u v e f = no_shared k none iri (shares iri (named_so k a s iri u e, named_so k b t iri v f))
not_both k none a b shares s t (Blank label) u v e f = none-some u e
not_both k none a b shares s t (Literal literal) u v e f = none-some u e

opposed_themselves : (g : List Triple) (k : List Entity) → HaveNoClash k → (s t : Sort) (x : Term) (u v : Tree) → are_opposed s t ≡ true → simple g k s x ≡ Some u → simple g k t x ≡ Some v → ⊥
unfolding simple
opposed_themselves g k none sort.ClassExpression sort.Datatype x u v o e f =
    not_both k none kind.Class kind.Datatype (λ iri h. inl h) tag.Class tag.Datatype x u v e f
opposed_themselves g k none sort.ObjectPropertyExpression sort.DataPropertyExpression x u v o e f =
    not_both k none kind.ObjectProperty kind.DataProperty (λ iri h. inr (inl h)) tag.ObjectProperty tag.DataProperty x u v e f
opposed_themselves g k none sort.ObjectPropertyExpression sort.AnnotationProperty x u v o e f =
    not_both k none kind.ObjectProperty kind.AnnotationProperty (λ iri h. inr (inr (inl h))) tag.ObjectProperty tag.AnnotationProperty x u v e f
opposed_themselves g k none sort.ObjectProperty sort.DataPropertyExpression x u v o e f =
    not_both k none kind.ObjectProperty kind.DataProperty (λ iri h. inr (inl h)) tag.ObjectProperty tag.DataProperty x u v e f
opposed_themselves g k none sort.ObjectProperty sort.AnnotationProperty x u v o e f =
    not_both k none kind.ObjectProperty kind.AnnotationProperty (λ iri h. inr (inr (inl h))) tag.ObjectProperty tag.AnnotationProperty x u v e f
opposed_themselves g k none sort.DataPropertyExpression sort.AnnotationProperty x u v o e f =
    not_both k none kind.DataProperty kind.AnnotationProperty (λ iri h. inr (inr (inr h))) tag.DataProperty tag.AnnotationProperty x u v e f
opposed_themselves g k none _ _ x u v o e f = cc

opposed_row : (s t : Sort) → are_opposed s t ≡ true → (row : Row) → Contains node_rows row → admits t row.tag ≡ true → ⊥
opposed_row sort.ClassExpression sort.Datatype o row m a = both_ways _ (no_datatype row m) a
opposed_row sort.ObjectPropertyExpression sort.DataPropertyExpression o row m a = both_ways _ (no_data_property row m) a
opposed_row sort.ObjectPropertyExpression sort.AnnotationProperty o row m a = both_ways _ (no_annotation_property row m) a
opposed_row sort.ObjectProperty sort.DataPropertyExpression o row m a = both_ways _ (no_data_property row m) a
opposed_row sort.ObjectProperty sort.AnnotationProperty o row m a = both_ways _ (no_annotation_property row m) a
opposed_row sort.DataPropertyExpression sort.AnnotationProperty o row m a = both_ways _ (no_annotation_property row m) a
opposed_row _ _ o row m a = cc

-- What a fact of the relation comes from.

pub data IsOne (g : List Triple) (k : List Entity) (s : Sort) (x : Term) (ts : List Tree) : Type 0 where
  itself : (t : Tree) → simple g k s x ≡ Some t → ts ≡ t ∷ [] → IsOne g k s x ts
  with_row : (row : Row) (us : List Tree) → Contains node_rows row → admits s row.tag ≡ true → Fits g (of_node x) row →
      Holds g k (of_node x) row.parts us → ts ≡ node row.tag (kids_of us) ∷ [] → IsOne g k s x ts

pub one_is : (g : List Triple) (k : List Entity) (s : Sort) (x : Term) (ts : List Tree) → Denotes g k x (One s) ts → IsOne g k s x ts
one_is g k _ _ _ (by_itself s x t e) = itself t e refl
one_is g k _ _ _ (by_row s x row us m a f h) = with_row row us m a f h refl

pub record IsCellOf (g : List Triple) (k : List Entity) (x : Term) (s : Sort) (ts : List Tree) : Type 0 where
  pub first : Term
  pub rest : Term
  pub us : List Tree
  pub vs : List Tree
  pub list : role_of g x ≡ role.List
  pub one_first : chosen g x word.First ≡ first ∷ []
  pub one_rest : chosen g x word.Rest ≡ rest ∷ []
  pub is_first : Denotes g k first (One s) us
  pub is_rest : Lists g k rest s vs
  pub joined : ts ≡ us ++ vs

pub list_is : (g : List Triple) (k : List Entity) (x : Term) (s : Sort) (ts : List Tree) → Lists g k x s ts → ((x ≡ Iri nil_iri) × (ts ≡ [])) ⊎ IsCellOf g k x s ts
list_is g k _ _ _ (no_cell s x e) = inl (e, refl)
list_is g k _ _ _ (cell s x first rest us vs l f r d h) =
    inr (record { first = first; rest = rest; us = us; vs = vs; list = l; one_first = f; one_rest = r; is_first = d; is_rest = h; joined = refl })

pub record IsKeyOf (g : List Triple) (k : List Entity) (x : Term) (os ds : List Tree) : Type 0 where
  pub first : Term
  pub rest : Term
  pub us : List Tree
  pub ps : List Tree
  pub es : List Tree
  pub list : role_of g x ≡ role.List
  pub one_first : chosen g x word.First ≡ first ∷ []
  pub one_rest : chosen g x word.Rest ≡ rest ∷ []
  pub is_rest : AreKeys g k rest ps es
  pub sorts :
      (Denotes g k first (One sort.ObjectPropertyExpression) us × (os ≡ us ++ ps) × (ds ≡ es))
      ⊎ (Denotes g k first (One sort.DataPropertyExpression) us × (os ≡ ps) × (ds ≡ us ++ es))

pub key_is : (g : List Triple) (k : List Entity) (x : Term) (os ds : List Tree) → AreKeys g k x os ds → ((x ≡ Iri nil_iri) × (os ≡ []) × (ds ≡ [])) ⊎ IsKeyOf g k x os ds
key_is g k _ _ _ (no_key x e) = inl (e, refl, refl)
key_is g k _ _ _ (object_key x first rest us os ds l f r d h) =
    inr (record { first = first; rest = rest; us = us; ps = os; es = ds; list = l; one_first = f; one_rest = r; is_rest = h; sorts = inl (d, refl, refl) })
key_is g k _ _ _ (data_key x first rest us os ds l f r d h) =
    inr (record { first = first; rest = rest; us = us; ps = os; es = ds; list = l; one_first = f; one_rest = r; is_rest = h; sorts = inr (d, refl, refl) })

pub record IsPartOf (g : List Triple) (k : List Entity) (b : Bearer) (p : Part) (ps : List Part) (ts : List Tree) : Type 0 where
  pub x : Term
  pub us : List Tree
  pub vs : List Tree
  pub one : select g b p.place ≡ x ∷ []
  pub denotes : Denotes g k x p.want us
  pub rest : Holds g k b ps vs
  pub joined : ts ≡ us ++ vs

pub parts_are : (g : List Triple) (k : List Entity) (b : Bearer) (p : Part) (ps : List Part) (ts : List Tree) → Holds g k b (p ∷ ps) ts → IsPartOf g k b p ps ts
parts_are g k _ _ _ _ (part b p ps x us vs e d h) = record { x = x; us = us; vs = vs; one = e; denotes = d; rest = h; joined = refl }

pub many_is : (g : List Triple) (k : List Entity) (x : Term) (s : Sort) (least : ℕ) (ts : List Tree) → Denotes g k x (Many s least) ts → (least ≤ length ts) × Lists g k x s ts
many_is g k _ _ _ _ (by_list s x least ts n l) = (n, l)

-- a node of a row stands not for itself
apart : (g : List Triple) (k : List Entity) (s : Sort) (x : Term) (t : Tree) (row : Row) → simple g k s x ≡ Some t → Contains node_rows row → Fits g (of_node x) row → ⊥
apart g k s x t row e m f =
    both_ways (has_row (role_of g x)) (simple_has_none g k s x t e) (subst (λ (site : Site). has_row_at site ≡ true) f.0 (at_expression row m))

-- a cell is no IRI
pub no_nil : (g : List Triple) (x : Term) → x ≡ Iri nil_iri → role_of g x ≡ role.List → ⊥
no_nil g x e l = both_ways (is_role role.List (role_of g x)) (ap (λ (y : Term). is_role role.List (role_of g y)) e) (ap (is_role role.List) l)

module _ (g : List Triple) (k : List Entity) (none : HaveNoClash k) where
  opposed_ones : (s t : Sort) (x : Term) (ts us : List Tree) → are_opposed s t ≡ true → Denotes g k x (One s) ts → Denotes g k x (One t) us → ⊥
  opposed_ones s t x ts us o d e =
      elim (one_is g k s x ts d) [
        | itself v f _ ↦
            elim (one_is g k t x us e) [
              | itself w h _ ↦ opposed_themselves g k none s t x v w o f h
              | with_row row ws m a fits held _ ↦ apart g k s x v row f m fits
            ]
        | with_row row vs m a fits held _ ↦
            elim (one_is g k t x us e) [
              | itself w h _ ↦ apart g k t x w row h m fits
              | with_row other ws n b also too _ ↦ opposed_row s t o other n b
            ]
      ]

  opposed_cells : (s t : Sort) (x : Term) (ts us : List Tree) → are_opposed s t ≡ true → IsCellOf g k x s ts → IsCellOf g k x t us → ⊥
  opposed_cells s t x ts us o c d =
      let same = same_only c.first d.first (sym c.one_first ∙ d.one_first) in
      opposed_ones s t d.first c.us d.us o (subst (λ (y : Term). Denotes g k y (One s) c.us) same c.is_first) d.is_first

  opposed_lists : (s t : Sort) (x : Term) (ts us : List Tree) → are_opposed s t ≡ true → 1 ≤ length ts → Lists g k x s ts → Lists g k x t us → ⊥
  opposed_lists s t x ts us o n l m =
      elim (list_is g k x s ts l) [
        | inl empty ↦ no_less (subst (λ (vs : List Tree). 1 ≤ length vs) empty.1 n)
        | inr c ↦
            elim (list_is g k x t us m) [
              | inl empty ↦ no_nil g x empty.0 c.list
              | inr d ↦ opposed_cells s t x ts us o c d
            ]
      ]

  opposed : (a b : Want) (x : Term) (ts us : List Tree) → are_opposed_wants a b ≡ true → Denotes g k x a ts → Denotes g k x b us → ⊥
  opposed (One s) (One t) x ts us o d e = opposed_ones s t x ts us o d e
  opposed (Many s m) (Many t n) x ts us o d e =
      let parts = and_parts (are_opposed s t) (nat_le 1 m) o in
      let left = many_is g k x s m ts d in
      let right = many_is g k x t n us e in
      let some : 1 ≤ m = leb-true 1 m parts.1 in
      opposed_lists s t x ts us parts.0 (omega (arith, some, left.0)) left.1 right.1
  opposed _ _ x ts us o d e = cc

  -- rows that clash hold not both
  clashing : (b : Bearer) (ps qs : List Part) (ts us : List Tree) → clash ps qs ≡ true → Holds g k b ps ts → Holds g k b qs us → ⊥
  clashing b [] qs ts us c h i = cc
  clashing b (p ∷ ps) [] ts us c h i = cc
  clashing b (p ∷ ps) (q ∷ qs) ts us c h i =
      let tests = and_parts (is_place p.place q.place) (are_opposed_wants p.want q.want || clash ps qs) c in
      let left = parts_are g k b p ps ts h in
      let right = parts_are g k b q qs us i in
      let place = same_place p.place q.place tests.0 in
      let same = same_only left.x right.x (sym left.one ∙ ap (select g b) place ∙ right.one) in
      elim (or_cases (are_opposed_wants p.want q.want) (clash ps qs) tests.1) [
        | inl o ↦ opposed p.want q.want right.x left.us right.us o (subst (λ (y : Term). Denotes g k y p.want left.us) same left.denotes) right.denotes
        | inr d ↦ clashing b ps qs left.vs right.vs d left.rest right.rest
      ]

-- rows that fit one node or triple have one form

typed_counts : (words : List Word) (ps : List Part) → counts (first_of TypedBy OtherType words) ps ≡ []
typed_counts [] ps = refl
typed_counts (w ∷ words) ps = refl

linked_counts : (words : List Word) (ps : List Part) → counts (first_of LinkedBy OtherLink words) ps ≡ []
linked_counts [] ps = refl
linked_counts (w ∷ words) ps = refl

chosen_counts : (b : Bool) (s t : Site) (ps : List Part) → counts s ps ≡ [] → counts t ps ≡ [] → counts (cond b s t) ps ≡ []
chosen_counts true s t ps e f = e
chosen_counts false s t ps e f = f

triple_counts : (t : Triple) (ps : List Part) → counts (site_of t) ps ≡ []
unfolding site_of
triple_counts t ps = chosen_counts (bytes_eq t.predicate type_iri) _ _ ps (typed_counts _ ps) (linked_counts _ ps)

-- what the row of a node or triple counts
same_counts : (g : List Triple) (b : Bearer) (r s : Row) → Fits g b r → Fits g b s → counts r.site r.parts ≡ counts s.site s.parts
same_counts g (of_node x) r s f h =
    ap (λ (site : Site). counts site r.parts) f.0 ∙ sym f.1 ∙ h.1 ∙ sym (ap (λ (site : Site). counts site s.parts) h.0)
same_counts g (of_triple t) r s f h =
    ap (λ (site : Site). counts site r.parts) f ∙ triple_counts t r.parts ∙ sym (triple_counts t s.parts)
    ∙ sym (ap (λ (site : Site). counts site s.parts) h)

site_fits : (g : List Triple) (b : Bearer) (r s : Row) → Fits g b r → Fits g b s → r.site ≡ s.site
site_fits g (of_node x) r s f h = f.0 ∙ sym h.0
site_fits g (of_triple t) r s f h = f ∙ sym h

same_form : (g : List Triple) (b : Bearer) (r s : Row) → Fits g b r → Fits g b s → has_same_form r s ≡ true
same_form g b r s f h =
    and_from _ _
    (subst (λ (site : Site). is_site site s.site ≡ true) (sym (site_fits g b r s f h)) (own_site s.site))
    ((bytes_eq-Decides (counts r.site r.parts) (counts s.site s.parts)).1 (same_counts g b r s f h))

module _ (g : List Triple) (k : List Entity) (none : HaveNoClash k) where
  not_told : (b : Bearer) (r s : Row) (ts us : List Tree) → is_told_from r s ≡ true → Fits g b r → Fits g b s → Holds g k b r.parts ts → Holds g k b s.parts us → ⊥
  not_told b r s ts us told f h left right =
      elim (or_cases (not (has_same_form r s)) (clash r.parts s.parts || clash s.parts r.parts) told) [
        | inl other ↦ both_ways (has_same_form r s) (not-true _ other) (same_form g b r s f h)
        | inr some ↦
            elim (or_cases (clash r.parts s.parts) (clash s.parts r.parts) some) [
              | inl c ↦ clashing g k none b r.parts s.parts ts us c left right
              | inr c ↦ clashing g k none b s.parts r.parts us ts c right left
            ]
      ]

  one_row_of : (b : Bearer) (rows : List Row) → are_told_apart rows ≡ true → AtMostOne (IsRowOf g k b rows)
  one_row_of b rows told r left s right =
      elim (one_or_told rows told r s left.among right.among) [
        | inl e ↦ e
        | inr some ↦
            elim some [
              | inl e ↦ absurd (not_told b r s left.kids right.kids e left.fits right.fits left.holds right.holds)
              | inr e ↦ absurd (not_told b s r right.kids left.kids e right.fits left.fits right.holds left.holds)
            ]
      ]

  -- at most one row of an expression is of a node, and at most one of an axiom of a node or triple
  pub one_node_row : (x : Term) → AtMostOne (IsRowOf g k (of_node x) node_rows)
  one_node_row x = one_row_of (of_node x) node_rows node_rows_are_told_apart

  pub one_axiom_row : (b : Bearer) → AtMostOne (IsRowOf g k b axiom_rows)
  one_axiom_row b = one_row_of b axiom_rows axiom_rows_are_told_apart

  -- a term denotes what it denotes by itself, and a node what its row gives

  only_itself : (s : Sort) (x : Term) (t : Tree) → simple g k s x ≡ Some t → (us : List Tree) → Denotes g k x (One s) us → t ∷ [] ≡ us
  only_itself s x t e us d =
      elim (one_is g k s x us d) [
        | itself v f same ↦ ap (λ (w : Tree). w ∷ []) (same_Some t v (sym e ∙ f)) ∙ sym same
        | with_row row vs m a fits held _ ↦ absurd (apart g k s x t row e m fits)
      ]

  only_row : (s : Sort) (x : Term) (row : Row) (is : IsRowOf g k (of_node x) node_rows row) → ((vs : List Tree) → Holds g k (of_node x) row.parts vs → is.kids ≡ vs) → (us : List Tree) → Denotes g k x (One s) us → node row.tag (kids_of is.kids) ∷ [] ≡ us
  only_row s x row is only us d =
      elim (one_is g k s x us d) [
        | itself v f same ↦ absurd (apart g k s x v row f is.among is.fits)
        | with_row other vs m a fits held same ↦
            let e = one_node_row x row is other (record { among = m; fits = fits; kids = vs; holds = held }) in
            let kids = only vs (subst (λ (r : Row). Holds g k (of_node x) r.parts vs) (sym e) held) in
            (λ i. node (e i).tag (kids_of (kids i)) ∷ []) ∙ sym same
      ]

  only_list : (s : Sort) (x : Term) (least : ℕ) (ts : List Tree) → ((vs : List Tree) → Lists g k x s vs → ts ≡ vs) → (us : List Tree) → Denotes g k x (Many s least) us → ts ≡ us
  only_list s x least ts only us d = only us (many_is g k x s least us d).1

  only_whole : (t : Tag) (s : Sort) (x : Term) (least : ℕ) (ts : List Tree) → ((vs : List Tree) → Lists g k x s vs → ts ≡ vs) → (us : List Tree) → Denotes g k x (Whole t s least) us → node t (kids_of ts) ∷ [] ≡ us
  only_whole _ _ _ _ ts only _ (by_whole t s x least us n l) = ap (λ (vs : List Tree). node t (kids_of vs) ∷ []) (only us l)

  abbrev key_groups : List Tree → List Tree → List Tree
  key_groups os ds = node tag.ObjectKeys (kids_of os) ∷ node tag.DataKeys (kids_of ds) ∷ []

  only_keys : (x : Term) (os ds : List Tree) → ((ps es : List Tree) → AreKeys g k x ps es → (os ≡ ps) × (ds ≡ es)) → (us : List Tree) → Denotes g k x Keys us → key_groups os ds ≡ us
  only_keys _ os ds only _ (by_keys x ps es n h) = let same = only ps es h in λ i. key_groups (same.0 i) (same.1 i)

  only_declared : (t : Tag) (x : Term) (u : Tree) → declared_entity k t x ≡ Some u → (us : List Tree) → Denotes g k x (Declared t) us → u ∷ [] ≡ us
  only_declared _ _ u e _ (by_declaration t x v f) = ap (λ (w : Tree). w ∷ []) (same_Some u v (sym e ∙ f))

  only_mark : (x : Term) (us : List Tree) → Denotes g k x Mark us → [] ≡ us
  only_mark _ _ (mark x) = refl

  only_true : (x : Term) (us : List Tree) → Denotes g k x True us → [] ≡ us
  only_true _ _ (is_true x e) = refl

  only_end : (s : Sort) (x : Term) → x ≡ Iri nil_iri → (us : List Tree) → Lists g k x s us → [] ≡ us
  only_end s x e us l =
      elim (list_is g k x s us l) [ inl empty ↦ sym empty.1 | inr c ↦ absurd (no_nil g x e c.list) ]

  only_cell : (s : Sort) (x first rest : Term) (ts us : List Tree) → role_of g x ≡ role.List → chosen g x word.First ≡ first ∷ [] → chosen g x word.Rest ≡ rest ∷ [] → ((vs : List Tree) → Denotes g k first (One s) vs → ts ≡ vs) → ((vs : List Tree) → Lists g k rest s vs → us ≡ vs) → (vs : List Tree) → Lists g k x s vs → ts ++ us ≡ vs
  only_cell s x first rest ts us list f r only_first only_rest vs l =
      elim (list_is g k x s vs l) [
        | inl empty ↦ absurd (no_nil g x empty.0 list)
        | inr c ↦
            let a = same_only c.first first (sym c.one_first ∙ f) in
            let b = same_only c.rest rest (sym c.one_rest ∙ r) in
            let same = only_first c.us (subst (λ (y : Term). Denotes g k y (One s) c.us) a c.is_first) in
            let more = only_rest c.vs (subst (λ (y : Term). Lists g k y s c.vs) b c.is_rest) in
            (λ i. same i ++ more i) ∙ sym c.joined
      ]

  only_no_key : (x : Term) → x ≡ Iri nil_iri → (ps es : List Tree) → AreKeys g k x ps es → ([] ≡ ps) × ([] ≡ es)
  only_no_key x e ps es h =
      elim (key_is g k x ps es h) [ inl empty ↦ (sym empty.1, sym empty.2) | inr c ↦ absurd (no_nil g x e c.list) ]

  only_object_key : (x first rest : Term) (ts os ds : List Tree) → role_of g x ≡ role.List → chosen g x word.First ≡ first ∷ [] → chosen g x word.Rest ≡ rest ∷ [] → Denotes g k first (One sort.ObjectPropertyExpression) ts → ((vs : List Tree) → Denotes g k first (One sort.ObjectPropertyExpression) vs → ts ≡ vs) → ((ps es : List Tree) → AreKeys g k rest ps es → (os ≡ ps) × (ds ≡ es)) → (ps es : List Tree) → AreKeys g k x ps es → (ts ++ os ≡ ps) × (ds ≡ es)
  only_object_key x first rest ts os ds list f r is only_first only_rest ps es h =
      elim (key_is g k x ps es h) [
        | inl empty ↦ absurd (no_nil g x empty.0 list)
        | inr c ↦
            let a = same_only c.first first (sym c.one_first ∙ f) in
            let b = same_only c.rest rest (sym c.one_rest ∙ r) in
            let more = only_rest c.ps c.es (subst (λ (y : Term). AreKeys g k y c.ps c.es) b c.is_rest) in
            elim c.sorts [
              | inl d ↦
                  let same = only_first c.us (subst (λ (y : Term). Denotes g k y (One sort.ObjectPropertyExpression) c.us) a d.0) in
                  ((λ i. same i ++ more.0 i) ∙ sym d.1, more.1 ∙ sym d.2)
              | inr d ↦
                  absurd (
                  opposed_ones g k none sort.ObjectPropertyExpression sort.DataPropertyExpression first ts c.us refl is
                  (subst (λ (y : Term). Denotes g k y (One sort.DataPropertyExpression) c.us) a d.0))
            ]
      ]

  only_data_key : (x first rest : Term) (ts os ds : List Tree) → role_of g x ≡ role.List → chosen g x word.First ≡ first ∷ [] → chosen g x word.Rest ≡ rest ∷ [] → Denotes g k first (One sort.DataPropertyExpression) ts → ((vs : List Tree) → Denotes g k first (One sort.DataPropertyExpression) vs → ts ≡ vs) → ((ps es : List Tree) → AreKeys g k rest ps es → (os ≡ ps) × (ds ≡ es)) → (ps es : List Tree) → AreKeys g k x ps es → (os ≡ ps) × (ts ++ ds ≡ es)
  only_data_key x first rest ts os ds list f r is only_first only_rest ps es h =
      elim (key_is g k x ps es h) [
        | inl empty ↦ absurd (no_nil g x empty.0 list)
        | inr c ↦
            let a = same_only c.first first (sym c.one_first ∙ f) in
            let b = same_only c.rest rest (sym c.one_rest ∙ r) in
            let more = only_rest c.ps c.es (subst (λ (y : Term). AreKeys g k y c.ps c.es) b c.is_rest) in
            elim c.sorts [
              | inl d ↦
                  absurd (
                  opposed_ones g k none sort.ObjectPropertyExpression sort.DataPropertyExpression first c.us ts refl
                  (subst (λ (y : Term). Denotes g k y (One sort.ObjectPropertyExpression) c.us) a d.0) is)
              | inr d ↦
                  let same = only_first c.us (subst (λ (y : Term). Denotes g k y (One sort.DataPropertyExpression) c.us) a d.0) in
                  (more.0 ∙ sym d.1, (λ i. same i ++ more.1 i) ∙ sym d.2)
            ]
      ]

  only_no_parts : (b : Bearer) (us : List Tree) → Holds g k b [] us → [] ≡ us
  only_no_parts _ _ (no_parts b) = refl

  only_parts : (b : Bearer) (p : Part) (ps : List Part) (x : Term) (ts us : List Tree) → select g b p.place ≡ x ∷ [] → ((vs : List Tree) → Denotes g k x p.want vs → ts ≡ vs) → ((vs : List Tree) → Holds g k b ps vs → us ≡ vs) → (vs : List Tree) → Holds g k b (p ∷ ps) vs → ts ++ us ≡ vs
  only_parts b p ps x ts us one only_first only_rest vs h =
      let c = parts_are g k b p ps vs h in
      let a = same_only c.x x (sym c.one ∙ one) in
      let same = only_first c.us (subst (λ (y : Term). Denotes g k y p.want c.us) a c.denotes) in
      let more = only_rest c.vs c.rest in
      (λ i. same i ++ more i) ∙ sym c.joined

  mutual
    pub one_tree : (x : Term) (w : Want) → AtMostOne (Denotes g k x w)
    one_tree _ _ _ (by_itself s x t e) = only_itself s x t e
    one_tree _ _ _ (by_row s x row ts m a f h) =
        only_row s x row (record { among = m; fits = f; kids = ts; holds = h }) (one_of_parts (of_node x) row.parts ts h)
    one_tree _ _ _ (by_list s x least ts n l) = only_list s x least ts (one_list x s ts l)
    one_tree _ _ _ (by_whole t s x least ts n l) = only_whole t s x least ts (one_list x s ts l)
    one_tree _ _ _ (by_keys x os ds n h) = only_keys x os ds (one_key_list x os ds h)
    one_tree _ _ _ (by_declaration t x u e) = only_declared t x u e
    one_tree _ _ _ (mark x) = only_mark x
    one_tree _ _ _ (is_true x e) = only_true x

    pub one_list : (x : Term) (s : Sort) → AtMostOne (Lists g k x s)
    one_list _ _ _ (no_cell s x e) = only_end s x e
    one_list _ _ _ (cell s x first rest ts us l f r d h) =
        only_cell s x first rest ts us l f r (one_tree first (One s) ts d) (one_list rest s us h)

    pub one_key_list : (x : Term) (os ds : List Tree) → AreKeys g k x os ds → (ps es : List Tree) → AreKeys g k x ps es → (os ≡ ps) × (ds ≡ es)
    one_key_list _ _ _ (no_key x e) = only_no_key x e
    one_key_list _ _ _ (object_key x first rest ts os ds l f r d h) =
        only_object_key x first rest ts os ds l f r d (one_tree first (One sort.ObjectPropertyExpression) ts d) (one_key_list rest os ds h)
    one_key_list _ _ _ (data_key x first rest ts os ds l f r d h) =
        only_data_key x first rest ts os ds l f r d (one_tree first (One sort.DataPropertyExpression) ts d) (one_key_list rest os ds h)

    pub one_of_parts : (b : Bearer) (ps : List Part) → AtMostOne (Holds g k b ps)
    one_of_parts _ _ _ (no_parts b) = only_no_parts b
    one_of_parts _ _ _ (part b p ps x ts us e d h) =
        only_parts b p ps x ts us e (one_tree x p.want ts d) (one_of_parts b ps us h)

  -- a node of a row denotes one tree, whatever sort is asked for
  pub one_tree_of_node : (x : Term) (s t : Sort) (ts us : List Tree) → has_row (role_of g x) ≡ true → Denotes g k x (One s) ts → Denotes g k x (One t) us → ts ≡ us
  one_tree_of_node x s t ts us is_node d e =
      elim (one_is g k s x ts d) [
        | itself v f _ ↦ absurd (both_ways _ (simple_has_none g k s x v f) is_node)
        | with_row row vs m a fits held same ↦
            elim (one_is g k t x us e) [
              | itself v f _ ↦ absurd (both_ways _ (simple_has_none g k t x v f) is_node)
              | with_row other ws n b also too equal ↦
                  let rows = one_node_row x row (record { among = m; fits = fits; kids = vs; holds = held }) other (record { among = n; fits = also; kids = ws; holds = too }) in
                  let kids = one_of_parts (of_node x) row.parts vs held ws (subst (λ (r : Row). Holds g k (of_node x) r.parts ws) (sym rows) too) in
                  same ∙ (λ i. node (rows i).tag (kids_of (kids i)) ∷ []) ∙ sym equal
            ]
      ]
