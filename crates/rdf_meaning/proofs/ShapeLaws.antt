-- What a row denotes has the kids of its tag.
use Rattle.std.specs.Prelude.{◌≡◌, ◌≤◌, ℕ, Bool, true, false, ◌&&◌, nat_le, min, List, [], ◌∷◌, ◌++◌, Contains, length, map, Option, None, Some, option_map, cond}
use Rattle.std.specs.List.{list_all, list_any}
use Rattle.std.proofs.Common.{refl, sym, ap, ◌∙◌, subst, arith, append-nil}
use Rattle.std.proofs.lemmas.Bool.{and_from, and_parts, le-leb, leb-true}
use Rattle.std.proofs.lemmas.Option.{none-some, same_Some}
use Rattle.std.proofs.lemmas.List.{length-map, map-append}
use Rattle.owl_kind.specs.declared.kind.Kind.{Kind}
use Rattle.owl_kind.specs.declared.kind.Kind.TheVariants as kind
use Rattle.owl_kind.specs.Kinds.{Entity}
use Rattle.owl_tree.specs.declared.tag.Tag.{Tag}
use Rattle.owl_tree.specs.declared.tag.Tag.TheVariants as tag
use Rattle.owl_tree.specs.declared.row.Sort.{Sort}
use Rattle.owl_tree.specs.declared.row.Sort.TheVariants as sort
use Rattle.owl_tree.specs.declared.row.Rest.{Rest}
use Rattle.owl_tree.specs.declared.row.Rest.TheVariants.{Optional, AtLeast, SomeThen, Set}
use Rattle.owl_tree.specs.Rows.{admits, ends_in, fits, fits_front, fits_rest, is_tag, row_of}
use Rattle.owl_tree.specs.Rows as tree
use Rattle.owl_tree.specs.Tags.{is_axiom, number_of}
use Rattle.owl_tree.specs.Trees.{Tree, tag_of}
use Rattle.rdf_graph.specs.declared.term.Term.{Term}
use Rattle.rdf_graph.specs.declared.term.Term.TheVariants.{Iri, Blank, Literal}
use Rattle.rdf_graph.specs.declared.triple.Triple.{Triple}
use Rattle.rdf_meaning.proofs.ListLaws.{no_less, passes}
use Rattle.rdf_meaning.specs.declared.row.Want.{Want}
use Rattle.rdf_meaning.specs.declared.row.Want.TheVariants.{One, Many, Whole, Keys, Declared, Mark, True}
use Rattle.rdf_meaning.specs.declared.row.Part.{Part}
use Rattle.rdf_meaning.specs.Rows.{Row, axiom_rows, node_rows}
use Rattle.rdf_meaning.specs.RowShapes.{are_kids_of, fill, fill_rest, gives_axiom, gives_expression, is_expression, is_within, kid_wants, ways, ways_of_rows, with_kids}
use Rattle.rdf_meaning.specs.Statements.{Annotates, no_note, note, annotated}
use Rattle.rdf_meaning.specs.Denotation.{AreKeys, no_key, object_key, data_key, Bearer, Denotes, by_itself, by_row, by_list, by_whole, by_keys, by_declaration, mark, is_true, Lists, no_cell, cell, Holds, no_parts, part, anonymous, declared_entity, declared_kind, facet_pair, facets_of, kind_of_entity, literal_leaf, named, named_individual, number_leaf, or_else, plain_iri, simple}

-- the tests, which compute

expressions_given : list_all gives_expression node_rows ≡ true
unfolding node_rows row_of admits number_of
expressions_given = refl

axioms_given : list_all gives_axiom axiom_rows ≡ true
unfolding axiom_rows row_of admits number_of
axioms_given = refl

sub_property : (t : Tag) → admits sort.ObjectPropertyExpression t ≡ true → admits sort.SubObjectPropertyExpression t ≡ true
unfolding admits number_of
sub_property tag.ObjectProperty h = refl
sub_property tag.ObjectInverseOf h = refl
sub_property _ h = cc

property : (t : Tag) → admits sort.ObjectProperty t ≡ true → admits sort.ObjectPropertyExpression t ≡ true
unfolding admits number_of
property tag.ObjectProperty h = refl
property _ h = cc

within_admits : (s a : Sort) → is_within s a ≡ true → (t : Tag) → admits s t ≡ true → admits a t ≡ true
within_admits sort.Notes sort.Notes w t h = h
within_admits sort.AnnotationProperty sort.AnnotationProperty w t h = h
within_admits sort.AnnotationSubject sort.AnnotationSubject w t h = h
within_admits sort.AnnotationValue sort.AnnotationValue w t h = h
within_admits sort.Iri sort.Iri w t h = h
within_admits sort.ClassExpression sort.ClassExpression w t h = h
within_admits sort.Class sort.Class w t h = h
within_admits sort.DataRange sort.DataRange w t h = h
within_admits sort.Datatype sort.Datatype w t h = h
within_admits sort.ObjectPropertyExpression sort.ObjectPropertyExpression w t h = h
within_admits sort.ObjectPropertyExpression sort.SubObjectPropertyExpression w t h = sub_property t h
within_admits sort.ObjectProperty sort.ObjectProperty w t h = h
within_admits sort.ObjectProperty sort.ObjectPropertyExpression w t h = property t h
within_admits sort.DataPropertyExpression sort.DataPropertyExpression w t h = h
within_admits sort.Individual sort.Individual w t h = h
within_admits sort.Literal sort.Literal w t h = h
within_admits sort.Number sort.Number w t h = h
within_admits sort.FacetPair sort.FacetPair w t h = h
within_admits _ _ w t h = cc

-- a tree that a term stands for by itself has a tag of the sort

so_value : {A : Type 0} (b : Bool) (a c : A) → cond b (Some a) None ≡ Some c → a ≡ c
so_value true a c e = same_Some a c e
so_value false a c e = absurd (none-some c e)

pub so_some : {A : Type 0} (b : Bool) (o : Option A) (c : A) → cond b o None ≡ Some c → o ≡ Some c
so_some true o c e = e
so_some false o c e = absurd (none-some c e)

abbrev Has : Tag → Option Tree → Type 0
Has t o = (u : Tree) → o ≡ Some u → tag_of u ≡ t

has_leaf : (t : Tag) (v u : Tree) → tag_of v ≡ t → Some v ≡ Some u → tag_of u ≡ t
has_leaf t v u h e = sym (ap tag_of (same_Some v u e)) ∙ h

named_has : (k : List Entity) (a : Kind) (t : Tag) (x : Term) → Has t (named k a t x)
named_has k a t (Iri iri) u e = sym (ap tag_of (so_value _ _ u e))
named_has k a t (Blank label) u e = absurd (none-some u e)
named_has k a t (Literal literal) u e = absurd (none-some u e)

plain_has : (x : Term) → Has tag.PlainIri (plain_iri x)
plain_has (Iri iri) u e = has_leaf _ _ u refl e
plain_has (Blank label) u e = absurd (none-some u e)
plain_has (Literal literal) u e = absurd (none-some u e)

individual_has : (x : Term) → Has tag.NamedIndividual (named_individual x)
individual_has (Iri iri) u e = has_leaf _ _ u refl e
individual_has (Blank label) u e = absurd (none-some u e)
individual_has (Literal literal) u e = absurd (none-some u e)

anonymous_has : (g : List Triple) (x : Term) → Has tag.Anonymous (anonymous g x)
anonymous_has g (Iri iri) u e = absurd (none-some u e)
anonymous_has g (Blank label) u e = sym (ap tag_of (so_value _ _ u e))
anonymous_has g (Literal literal) u e = absurd (none-some u e)

literal_has : (x : Term) → Has tag.Literal (literal_leaf x)
literal_has (Iri iri) u e = absurd (none-some u e)
literal_has (Blank label) u e = absurd (none-some u e)
literal_has (Literal literal) u e = has_leaf _ _ u refl e

number_has : (x : Term) → Has tag.Number (number_leaf x)
number_has (Iri iri) u e = absurd (none-some u e)
number_has (Blank label) u e = absurd (none-some u e)
number_has (Literal literal) u e = sym (ap tag_of (so_value _ _ u e))

pair_has : (f : Tree → Tree) → ((v : Tree) → tag_of (f v) ≡ tag.FacetPair) → (o : Option Tree) → Has tag.FacetPair (option_map f o)
pair_has f h None u e = absurd (none-some u e)
pair_has f h (Some v) u e = has_leaf _ _ u (h v) e

facet_has : (ts : List Triple) → Has tag.FacetPair (facet_pair ts)
facet_has [] u e = absurd (none-some u e)
facet_has (t ∷ []) u e = pair_has _ (λ v. refl) (literal_leaf t.object) u e
facet_has (t ∷ v ∷ more) u e = absurd (none-some u e)

-- a tree of one tag or of another
either_has : (s : Sort) (t v : Tag) (o p : Option Tree) → admits s t ≡ true → admits s v ≡ true → Has t o → Has v p → (u : Tree) → or_else o p ≡ Some u → admits s (tag_of u) ≡ true
either_has s t v (Some w) p a b h k u e = ap (admits s) (h u e) ∙ a
either_has s t v None p a b h k u e = ap (admits s) (k u e) ∙ b

any_of_three : (s : Sort) (t v w : Tag) (o p q : Option Tree) → admits s t ≡ true → admits s v ≡ true → admits s w ≡ true → Has t o → Has v p → Has w q → (u : Tree) → or_else o (or_else p q) ≡ Some u → admits s (tag_of u) ≡ true
any_of_three s t v w (Some x) p q a b c h k l u e = ap (admits s) (h u e) ∙ a
any_of_three s t v w None p q a b c h k l u e = either_has s v w p q b c k l u e

simple_admits : (g : List Triple) (k : List Entity) (s : Sort) (x : Term) (u : Tree) → simple g k s x ≡ Some u → admits s (tag_of u) ≡ true
unfolding simple admits number_of
simple_admits g k sort.ClassExpression x u e = ap (admits sort.ClassExpression) (named_has k _ _ x u e)
simple_admits g k sort.Class x u e = ap (admits sort.Class) (named_has k _ _ x u e)
simple_admits g k sort.DataRange x u e = ap (admits sort.DataRange) (named_has k _ _ x u e)
simple_admits g k sort.Datatype x u e = ap (admits sort.Datatype) (named_has k _ _ x u e)
simple_admits g k sort.ObjectPropertyExpression x u e = ap (admits sort.ObjectPropertyExpression) (named_has k _ _ x u e)
simple_admits g k sort.ObjectProperty x u e = ap (admits sort.ObjectProperty) (named_has k _ _ x u e)
simple_admits g k sort.DataPropertyExpression x u e = ap (admits sort.DataPropertyExpression) (named_has k _ _ x u e)
simple_admits g k sort.AnnotationProperty x u e = ap (admits sort.AnnotationProperty) (named_has k _ _ x u e)
simple_admits g k sort.Individual x u e =
    either_has sort.Individual tag.NamedIndividual tag.Anonymous _ _ refl refl (individual_has x) (anonymous_has g x) u e
simple_admits g k sort.Iri x u e = ap (admits sort.Iri) (plain_has x u e)
simple_admits g k sort.AnnotationSubject x u e =
    either_has sort.AnnotationSubject tag.PlainIri tag.Anonymous _ _ refl refl (plain_has x) (anonymous_has g x) u e
simple_admits g k sort.AnnotationValue x u e =
    any_of_three sort.AnnotationValue tag.PlainIri tag.Anonymous tag.Literal _ _ _ refl refl refl (plain_has x) (anonymous_has g x) (literal_has x) u e
simple_admits g k sort.Literal x u e = ap (admits sort.Literal) (literal_has x u e)
simple_admits g k sort.Number x u e = ap (admits sort.Number) (number_has x u e)
simple_admits g k sort.FacetPair x u e = ap (admits sort.FacetPair) (facet_has (facets_of g x) u (so_some _ _ u e))
simple_admits g k _ x u e = absurd (none-some u e)

declared_has : (k : List Entity) (t : Tag) (x : Term) → Has t (declared_entity k t x)
unfolding declared_entity
declared_has k t (Iri iri) u e = of_kind k t iri (kind_of_entity t) u e
  where
    of_kind : (k : List Entity) (t : Tag) (iri : List ℕ) (o : Option Kind) → Has t (declared_kind k t iri o)
    of_kind k t iri None u e = absurd (none-some u e)
    of_kind k t iri (Some kind.Individual) u e = sym (ap tag_of (so_value _ _ u e))
    of_kind k t iri (Some _) u e = sym (ap tag_of (so_value _ _ u e))
declared_has k t (Blank label) u e = absurd (none-some u e)
declared_has k t (Literal literal) u e = absurd (none-some u e)

-- the tags of what is denoted

abbrev AreAll : Sort → List Tag → Type 0
AreAll s ts = list_all (admits s) ts ≡ true

abbrev Gives : Want → List Tag → Type 0
Gives (One s) ts = (t : Tag) × (ts ≡ t ∷ []) × (admits s t ≡ true)
Gives (Many s least) ts = (least ≤ length ts) × AreAll s ts
Gives (Whole t s least) ts = ts ≡ t ∷ []
Gives Keys ts = ts ≡ tag.ObjectKeys ∷ tag.DataKeys ∷ []
Gives (Declared t) ts = ts ≡ t ∷ []
Gives Mark ts = ts ≡ []
Gives True ts = ts ≡ []

-- each want gives a part of the tags, in order
data GiveAll : List Want → List Tag → Type 0 where
  nothing : GiveAll [] []
  more : (w : Want) (ws : List Want) (ts us : List Tag) → Gives w ts → GiveAll ws us → GiveAll (w ∷ ws) (ts ++ us)

one_gives : (s : Sort) (ts : List Tag) → Gives (One s) ts → AreAll s ts
one_gives s ts g = ap (list_all (admits s)) g.1 ∙ and_from _ _ g.2 refl

all_joined : (s : Sort) (ts us : List Tree) → AreAll s (map tag_of ts) → AreAll s (map tag_of us) → AreAll s (map tag_of (ts ++ us))
all_joined s [] us h k = k
all_joined s (t ∷ ts) us h k =
    let parts = and_parts (admits s (tag_of t)) (list_all (admits s) (map tag_of ts)) h in
    and_from _ _ parts.0 (all_joined s ts us parts.1 k)

mutual
  denoted_gives : (g : List Triple) (k : List Entity) (x : Term) (w : Want) (ts : List Tree) → Denotes g k x w ts → Gives w (map tag_of ts)
  denoted_gives g k _ _ _ (by_itself s x t e) = (tag_of t, refl, simple_admits g k s x t e)
  denoted_gives g k _ _ _ (by_row s x row ts m a f h) = (row.tag, refl, a)
  denoted_gives g k _ _ _ (by_list s x least ts n l) = (subst (λ m. least ≤ m) (sym (length-map ts tag_of)) n, list_gives g k x s ts l)
  denoted_gives g k _ _ _ (by_whole t s x least ts n l) = refl
  denoted_gives g k _ _ _ (by_keys x os ds n h) = refl
  denoted_gives g k _ _ _ (by_declaration t x u e) = ap (λ (v : Tag). v ∷ []) (declared_has k t x u e)
  denoted_gives g k _ _ _ (mark x) = refl
  denoted_gives g k _ _ _ (is_true x e) = refl

  list_gives : (g : List Triple) (k : List Entity) (x : Term) (s : Sort) (ts : List Tree) → Lists g k x s ts → AreAll s (map tag_of ts)
  list_gives g k _ _ _ (no_cell s x e) = refl
  list_gives g k _ _ _ (cell s x first rest ts us l f r d h) =
      all_joined s ts us (one_gives s (map tag_of ts) (denoted_gives g k first (One s) ts d)) (list_gives g k rest s us h)

with_given : (w : Want) (ws : List Want) (ts us : List Tag) → Gives w ts → GiveAll ws us → GiveAll (with_kids w ws) (ts ++ us)
with_given Mark ws ts us h g = subst (λ (vs : List Tag). GiveAll ws (vs ++ us)) (sym h) g
with_given True ws ts us h g = subst (λ (vs : List Tag). GiveAll ws (vs ++ us)) (sym h) g
with_given (One s) ws ts us h g = more (One s) ws ts us h g
with_given (Many s least) ws ts us h g = more (Many s least) ws ts us h g
with_given (Whole t s least) ws ts us h g = more (Whole t s least) ws ts us h g
with_given Keys ws ts us h g = more Keys ws ts us h g
with_given (Declared t) ws ts us h g = more (Declared t) ws ts us h g

parts_give : (g : List Triple) (k : List Entity) (b : Bearer) (ps : List Part) (ts : List Tree) → Holds g k b ps ts → GiveAll (kid_wants ps) (map tag_of ts)
parts_give g k _ _ _ (no_parts b) = nothing
parts_give g k _ _ _ (part b p ps x ts us e d h) =
    subst (λ (vs : List Tag). GiveAll (with_kids p.want (kid_wants ps)) vs) (sym (map-append tag_of ts us))
    (with_given p.want (kid_wants ps) (map tag_of ts) (map tag_of us) (denoted_gives g k x p.want ts d) (parts_give g k b ps us h))

-- what is given, taken apart

record IsGiven (w : Want) (ws : List Want) (ts : List Tag) : Type 0 where
  pub us : List Tag
  pub vs : List Tag
  pub first : Gives w us
  pub rest : GiveAll ws vs
  pub joined : ts ≡ us ++ vs

given : (w : Want) (ws : List Want) (ts : List Tag) → GiveAll (w ∷ ws) ts → IsGiven w ws ts
given _ _ _ (more w ws us vs h g) = record { us = us; vs = vs; first = h; rest = g; joined = refl }

none_given : (ts : List Tag) → GiveAll [] ts → ts ≡ []
none_given _ (nothing) = refl

all_within : (s a : Sort) → is_within s a ≡ true → (ts : List Tag) → AreAll s ts → AreAll a ts
all_within s a w [] h = refl
all_within s a w (t ∷ ts) h =
    let parts = and_parts (admits s t) (list_all (admits s) ts) h in
    and_from _ _ (within_admits s a w t parts.0) (all_within s a w ts parts.1)

last_given : (w : Want) (ts : List Tag) → GiveAll (w ∷ []) ts → Gives w ts
last_given w ts g =
    let c = given w [] ts g in
    subst (λ (us : List Tag). Gives w us) (sym (c.joined ∙ ap (λ (vs : List Tag). c.us ++ vs) (none_given c.vs c.rest) ∙ append-nil c.us)) c.first

ends : (a b : Sort) (us : List Tag) (t : Tag) → 1 ≤ length us → AreAll a us → admits b t ≡ true → ends_in a b (us ++ t ∷ []) ≡ true
ends a b [] t n h k = absurd (no_less n)
ends a b (u ∷ []) t n h k = and_from (admits a u) (admits b t) (and_parts (admits a u) true h).0 k
ends a b (u ∷ v ∷ []) t n h k =
    let parts = and_parts (admits a u) (list_all (admits a) (v ∷ [])) h in
    and_from (admits a u) _ parts.0 (ends a b (v ∷ []) t (omega arith) parts.1 k)
ends a b (u ∷ v ∷ w ∷ us) t n h k =
    let parts = and_parts (admits a u) (list_all (admits a) (v ∷ w ∷ us)) h in
    and_from (admits a u) _ parts.0 (ends a b (v ∷ w ∷ us) t (omega arith) parts.1 k)

-- and put together as kids

fits_optional : (s a : Sort) (ts : List Tag) → is_within s a ≡ true → Gives (One s) ts → fits_rest (Optional a) ts ≡ true
fits_optional s a ts w g = ap (fits_rest (Optional a)) g.1 ∙ within_admits s a w g.0 g.2

fits_many : (s a : Sort) (n least : ℕ) (ts : List Tag) → nat_le n least ≡ true → is_within s a ≡ true → Gives (Many s least) ts → (nat_le n (length ts) && list_all (admits a) ts) ≡ true
fits_many s a n least ts m w g =
    let few : n ≤ least = leb-true n least m in
    and_from _ _ (le-leb n (length ts) (omega (arith, few, g.0))) (all_within s a w ts g.1)

fits_two : (s t a b : Sort) (ts : List Tag) → is_within s a ≡ true → is_within t b ≡ true → GiveAll (One s ∷ One t ∷ []) ts → fits_rest (SomeThen a b) ts ≡ true
fits_two s t a b ts w v g =
    let c = given (One s) (One t ∷ []) ts g in
    let d = last_given (One t) c.vs c.rest in
    ap (ends_in a b) (c.joined ∙ (λ i. c.first.1 i ++ d.1 i))
    ∙ and_from (admits a c.first.0) (admits b d.0) (within_admits s a w c.first.0 c.first.2) (within_admits t b v d.0 d.2)

fits_pair : (s t a : Sort) (n : ℕ) (ts : List Tag) → nat_le (min n 1) 2 ≡ true → is_within s a ≡ true → is_within t a ≡ true → GiveAll (One s ∷ One t ∷ []) ts → fits_rest (Set a n) ts ≡ true
fits_pair s t a n ts m w v g =
    let c = given (One s) (One t ∷ []) ts g in
    let d = last_given (One t) c.vs c.rest in
    ap (fits_rest (Set a n)) (c.joined ∙ (λ i. c.first.1 i ++ d.1 i))
    ∙ and_from (nat_le (min n 1) 2) _ m
    (and_from (admits a c.first.0) _ (within_admits s a w c.first.0 c.first.2) (and_from (admits a d.0) true (within_admits t a v d.0 d.2) refl))

fits_some : (s t a b : Sort) (least : ℕ) (ts : List Tag) → nat_le 1 least ≡ true → is_within s a ≡ true → is_within t b ≡ true → GiveAll (Many s least ∷ One t ∷ []) ts → fits_rest (SomeThen a b) ts ≡ true
fits_some s t a b least ts m w v g =
    let c = given (Many s least) (One t ∷ []) ts g in
    let d = last_given (One t) c.vs c.rest in
    let some : 1 ≤ least = leb-true 1 least m in
    ap (ends_in a b) (c.joined ∙ ap (λ (vs : List Tag). c.us ++ vs) d.1)
    ∙ ends a b c.us d.0 (omega (arith, some, c.first.0)) (all_within s a w c.us c.first.1) (within_admits t b v d.0 d.2)

filled_rest : (ws : List Want) (rest : Rest) (ts : List Tag) → fill_rest ws rest ≡ true → GiveAll ws ts → fits_rest rest ts ≡ true
filled_rest [] rest ts f g = ap (fits_rest rest) (none_given ts g) ∙ f
filled_rest (One s ∷ []) (Optional a) ts f g = fits_optional s a ts f (last_given (One s) ts g)
filled_rest (One s ∷ One t ∷ []) (SomeThen a b) ts f g =
    let parts = and_parts (is_within s a) (is_within t b) f in fits_two s t a b ts parts.0 parts.1 g
filled_rest (One s ∷ One t ∷ []) (Set a n) ts f g =
    let parts = and_parts (nat_le (min n 1) 2) (is_within s a && is_within t a) f in
    let both = and_parts (is_within s a) (is_within t a) parts.1 in
    fits_pair s t a n ts parts.0 both.0 both.1 g
filled_rest (Many s least ∷ []) (AtLeast a n) ts f g =
    let parts = and_parts (nat_le n least) (is_within s a) f in fits_many s a n least ts parts.0 parts.1 (last_given (Many s least) ts g)
filled_rest (Many s least ∷ []) (Set a n) ts f g =
    let parts = and_parts (nat_le (min n 1) least) (is_within s a) f in
    fits_many s a (min n 1) least ts parts.0 parts.1 (last_given (Many s least) ts g)
filled_rest (Many s least ∷ One t ∷ []) (SomeThen a b) ts f g =
    let parts = and_parts (nat_le 1 least) (is_within s a && is_within t b) f in
    let both = and_parts (is_within s a) (is_within t b) parts.1 in
    fits_some s t a b least ts parts.0 both.0 both.1 g
filled_rest _ _ ts f g = cc

behind_one : (a : Sort) (front : List Sort) (rest : Rest) (t : Tag) (ts us vs : List Tag) → ts ≡ us ++ vs → us ≡ t ∷ [] → admits a t ≡ true → fits_front front rest vs ≡ true → fits_front (a ∷ front) rest ts ≡ true
behind_one a front rest t ts us vs e f h k =
    ap (fits_front (a ∷ front) rest) (e ∙ ap (λ (ws : List Tag). ws ++ vs) f) ∙ and_from (admits a t) (fits_front front rest vs) h k

filled : (ws : List Want) (front : List Sort) (rest : Rest) (ts : List Tag) → fill ws front rest ≡ true → GiveAll ws ts → fits_front front rest ts ≡ true
filled ws [] rest ts f g = filled_rest ws rest ts f g
filled [] (a ∷ front) rest ts f g = cc
filled (One s ∷ ws) (a ∷ front) rest ts f g =
    let c = given (One s) ws ts g in
    let parts = and_parts (is_within s a) (fill ws front rest) f in
    behind_one a front rest c.first.0 ts c.us c.vs c.joined c.first.1 (within_admits s a parts.0 c.first.0 c.first.2) (filled ws front rest c.vs parts.1 c.rest)
filled (Whole t s least ∷ ws) (a ∷ front) rest ts f g =
    let c = given (Whole t s least) ws ts g in
    let parts = and_parts (admits a t) (fill ws front rest) f in
    behind_one a front rest t ts c.us c.vs c.joined c.first parts.0 (filled ws front rest c.vs parts.1 c.rest)
filled (Declared t ∷ ws) (a ∷ front) rest ts f g =
    let c = given (Declared t) ws ts g in
    let parts = and_parts (admits a t) (fill ws front rest) f in
    behind_one a front rest t ts c.us c.vs c.joined c.first parts.0 (filled ws front rest c.vs parts.1 c.rest)
filled (Keys ∷ ws) (a ∷ b ∷ front) rest ts f g =
    let c = given Keys ws ts g in
    let parts = and_parts (admits a tag.ObjectKeys) (admits b tag.DataKeys && fill ws front rest) f in
    let others = and_parts (admits b tag.DataKeys) (fill ws front rest) parts.1 in
    ap (fits_front (a ∷ b ∷ front) rest) (c.joined ∙ ap (λ (us : List Tag). us ++ c.vs) c.first)
    ∙ and_from (admits a tag.ObjectKeys) (admits b tag.DataKeys && fits_front front rest c.vs) parts.0
    (and_from (admits b tag.DataKeys) (fits_front front rest c.vs) others.0 (filled ws front rest c.vs others.1 c.rest))
filled (Keys ∷ ws) (a ∷ []) rest ts f g = cc
filled (Many s least ∷ ws) (a ∷ front) rest ts f g = cc
filled (Mark ∷ ws) (a ∷ front) rest ts f g = cc
filled (True ∷ ws) (a ∷ front) rest ts f g = cc

are_kids : (row : tree.Row) (ws : List Want) (ts : List Tag) → are_kids_of row ws ≡ true → GiveAll ws ts → fits row ts ≡ true
are_kids (tree.Leaf s) ws ts h g = cc
are_kids (tree.Node front rest) ws ts h g = filled ws front rest ts h g

pub expression_fits : (g : List Triple) (k : List Entity) (b : Bearer) (row : Row) (ts : List Tree) → Contains node_rows row → Holds g k b row.parts ts → fits (row_of row.tag) (map tag_of ts) ≡ true
expression_fits g k b row ts m h =
    are_kids (row_of row.tag) (kid_wants row.parts) (map tag_of ts) (passes gives_expression node_rows row expressions_given m) (parts_give g k b row.parts ts h)

notes_admitted : (t : Tag) → t ≡ tag.Notes → admits sort.Notes t ≡ true
unfolding admits number_of
notes_admitted t e = ap (admits sort.Notes) e

pub axiom_fits : (g : List Triple) (k : List Entity) (b : Bearer) (row : Row) (ts : List Tree) → Contains axiom_rows row → Holds g k b row.parts ts → (n : Tree) → tag_of n ≡ tag.Notes → fits (row_of row.tag) (map tag_of (n ∷ ts)) ≡ true
axiom_fits g k b row ts m h n e =
    are_kids (row_of row.tag) (One sort.Notes ∷ kid_wants row.parts) (tag_of n ∷ map tag_of ts) (passes gives_axiom axiom_rows row axioms_given m)
    (more (One sort.Notes) (kid_wants row.parts) (tag_of n ∷ []) (map tag_of ts) (tag_of n, refl, notes_admitted (tag_of n) e) (parts_give g k b row.parts ts h))

-- the kids that stand in one list: a chain, groups of keys, and annotations

pub chain_fits : (g : List Triple) (k : List Entity) (x : Term) (ts : List Tree) → 2 ≤ length ts → Lists g k x sort.ObjectPropertyExpression ts → fits (row_of tag.ObjectPropertyChain) (map tag_of ts) ≡ true
unfolding row_of
chain_fits g k x ts n l =
    fits_many sort.ObjectPropertyExpression sort.ObjectPropertyExpression 2 2 (map tag_of ts) refl refl
    (subst (λ m. 2 ≤ m) (sym (length-map ts tag_of)) n, list_gives g k x sort.ObjectPropertyExpression ts l)

record AreKeyTags (os ds : List Tree) : Type 0 where
  pub object : AreAll sort.ObjectPropertyExpression (map tag_of os)
  pub data_keys : AreAll sort.DataPropertyExpression (map tag_of ds)

keys_give : (g : List Triple) (k : List Entity) (x : Term) (os ds : List Tree) → AreKeys g k x os ds → AreKeyTags os ds
keys_give g k _ _ _ (no_key x e) = record { object = refl; data_keys = refl }
keys_give g k _ _ _ (object_key x first rest ts os ds l f r d h) =
    let more_keys = keys_give g k rest os ds h in
    record {
      object = all_joined _ ts os (one_gives _ _ (denoted_gives g k first (One sort.ObjectPropertyExpression) ts d)) more_keys.object;
      data_keys = more_keys.data_keys;
    }
keys_give g k _ _ _ (data_key x first rest ts os ds l f r d h) =
    let more_keys = keys_give g k rest os ds h in
    record {
      object = more_keys.object;
      data_keys = all_joined _ ts ds (one_gives _ _ (denoted_gives g k first (One sort.DataPropertyExpression) ts d)) more_keys.data_keys;
    }

pub object_keys_fit : (g : List Triple) (k : List Entity) (x : Term) (os ds : List Tree) → AreKeys g k x os ds → fits (row_of tag.ObjectKeys) (map tag_of os) ≡ true
unfolding row_of
object_keys_fit g k x os ds h = and_from _ _ (le-leb 0 (length (map tag_of os)) (omega arith)) (keys_give g k x os ds h).object

pub data_keys_fit : (g : List Triple) (k : List Entity) (x : Term) (os ds : List Tree) → AreKeys g k x os ds → fits (row_of tag.DataKeys) (map tag_of ds) ≡ true
unfolding row_of
data_keys_fit g k x os ds h = and_from _ _ (le-leb 0 (length (map tag_of ds)) (omega arith)) (keys_give g k x os ds h).data_keys

pub annotation_fits : (g : List Triple) (k : List Entity) (x y : Term) (n p v : Tree) → tag_of n ≡ tag.Notes → simple g k sort.AnnotationProperty x ≡ Some p → simple g k sort.AnnotationValue y ≡ Some v → fits (row_of tag.Annotation) (map tag_of (n ∷ p ∷ v ∷ [])) ≡ true
unfolding row_of
annotation_fits g k x y n p v e a b =
    and_from _ _ (notes_admitted (tag_of n) e)
    (and_from _ _ (simple_admits g k sort.AnnotationProperty x p a) (and_from _ true (simple_admits g k sort.AnnotationValue y v b) refl))

are_annotations : (p v : Tree) (sets us : List Tree) → AreAll sort.Annotation (map tag_of us) → AreAll sort.Annotation (map tag_of (annotated p v sets ++ us))
unfolding admits number_of
are_annotations p v [] us h = h
are_annotations p v (ns ∷ sets) us h = are_annotations p v sets us h

annotations_give : (g : List Triple) (k : List Entity) (ts : List Triple) (us : List Tree) → Annotates g k ts us → AreAll sort.Annotation (map tag_of us)
annotations_give g k _ _ (no_note) = refl
annotations_give g k _ _ (note t ts p v sets us e f d h) = are_annotations p v sets us (annotations_give g k ts us h)

pub notes_fit : (g : List Triple) (k : List Entity) (ts : List Triple) (us : List Tree) → Annotates g k ts us → fits (row_of tag.Notes) (map tag_of us) ≡ true
unfolding row_of
notes_fit g k ts us h = and_from _ _ (le-leb 0 (length (map tag_of us)) (omega arith)) (annotations_give g k ts us h)

-- no way to write an expression lacks its row, no axiom lacks one, and no other tag has one

pub each_way_has_a_row : (t : Tag) → is_expression t ≡ true → ways_of_rows node_rows t ≡ ways (row_of t)
unfolding node_rows row_of number_of
each_way_has_a_row tag.ObjectInverseOf h = refl
each_way_has_a_row tag.ObjectIntersectionOf h = refl
each_way_has_a_row tag.ObjectUnionOf h = refl
each_way_has_a_row tag.ObjectComplementOf h = refl
each_way_has_a_row tag.ObjectOneOf h = refl
each_way_has_a_row tag.ObjectSomeValuesFrom h = refl
each_way_has_a_row tag.ObjectAllValuesFrom h = refl
each_way_has_a_row tag.ObjectHasValue h = refl
each_way_has_a_row tag.ObjectHasSelf h = refl
each_way_has_a_row tag.ObjectMinCardinality h = refl
each_way_has_a_row tag.ObjectMaxCardinality h = refl
each_way_has_a_row tag.ObjectExactCardinality h = refl
each_way_has_a_row tag.DataSomeValuesFrom h = refl
each_way_has_a_row tag.DataAllValuesFrom h = refl
each_way_has_a_row tag.DataHasValue h = refl
each_way_has_a_row tag.DataMinCardinality h = refl
each_way_has_a_row tag.DataMaxCardinality h = refl
each_way_has_a_row tag.DataExactCardinality h = refl
each_way_has_a_row tag.DataIntersectionOf h = refl
each_way_has_a_row tag.DataUnionOf h = refl
each_way_has_a_row tag.DataComplementOf h = refl
each_way_has_a_row tag.DataOneOf h = refl
each_way_has_a_row tag.DatatypeRestriction h = refl
each_way_has_a_row _ h = cc

pub each_axiom_has_a_row : (t : Tag) → list_any (λ row. is_tag row.tag t) axiom_rows ≡ is_axiom t
unfolding axiom_rows number_of
each_axiom_has_a_row tag.Class = refl
each_axiom_has_a_row _ = refl

pub each_expression_has_a_row : (t : Tag) → list_any (λ row. is_tag row.tag t) node_rows ≡ is_expression t
unfolding node_rows number_of
each_expression_has_a_row tag.Class = refl
each_expression_has_a_row _ = refl
