-- The arcs of a node that is drawn have different predicates.
use Rattle.std.proofs.Common.{◌≡◌, ◌-◌, ℕ, Bool, true, false, List, [], ◌∷◌, ◌++◌, length, drop, take, inl, inr, refl, sym, ap, ◌∙◌, subst}
use Rattle.std.specs.Prelude.{Contains, ◌&&◌, not, cond, nat_le, Option, None, Some}
use Rattle.std.specs.List.{AllByRecursion, list_all}
use Rattle.std.specs.Str.{bytes_eq}
use Rattle.std.proofs.lemmas.Bool.{and_parts, both_ways}
use Rattle.std.proofs.lemmas.Slice.Eq.{bytes_eq-Decides}
use lib.Utf8.{encode}
use Rattle.owl_list.specs.Ascending.{AreApart}
use Rattle.owl_list.proofs.AscendingLaws.{in_cases, in_head, in_none, in_tail}
use Rattle.owl_list.proofs.FilterLaws.{from_filter}
use Rattle.owl_tree.specs.declared.tag.Tag.{Tag}
use Rattle.owl_tree.specs.declared.tag.Tag.TheVariants as tag
use Rattle.owl_tree.specs.Rows.{is_tag}
use Rattle.owl_tree.specs.Trees.{Tree, Kids, leaf, node, no_kids, kid}
use Rattle.rdf_graph.specs.declared.term.Term.TheVariants.{Iri, Blank, Literal}
use Rattle.rdf_meaning.specs.declared.row.Part.{Part}
use Rattle.rdf_meaning.specs.declared.row.Place.{Place}
use Rattle.rdf_meaning.specs.declared.row.Place.TheVariants.{At, Subject, Predicate, Object}
use Rattle.rdf_meaning.specs.declared.row.Site.{Site}
use Rattle.rdf_meaning.specs.declared.row.Site.TheVariants.{Node, TypedBy, OtherType, LinkedBy, OtherLink}
use Rattle.rdf_meaning.specs.declared.row.Want.{Want}
use Rattle.rdf_meaning.specs.declared.row.Want.TheVariants.{One, Many, Whole, Keys, Declared, Mark, True}
use Rattle.rdf_meaning.proofs.ListLaws.{passes}
use Rattle.rdf_meaning.specs.Nodes.{type_iri}
use Rattle.rdf_meaning.specs.Words.{is_type, word_iri}
use Rattle.rdf_meaning.specs.Rows.{Row, axiom_rows, node_rows}
use Rattle.rdf_mapping.specs.Drawing.{Kid, Placed, Statement, linked, linked_back, looped, standing, unsaid, arc_iri, arcs_of, between, by_kids, by_predicate, by_triple, facet_arcs, forms_of, is_pair, kid_of, kids_seen, listed, loop_at, loop_by, node_form, placed, placed_at, placed_by, row_for, singles, stated, stated_by, statement_of, tags_of}
use Rattle.rdf_mapping.specs.Forms.{Form, plain, made, twice, Arcs, no_arcs, arc, first_iri, list_form, rest_iri}
use Rattle.rdf_mapping.proofs.NodeDrawingLaws.{row_form}
use Rattle.rdf_mapping.proofs.RowDrawingLaws.{all_drop, all_take}
use Rattle.rdf_mapping.proofs.TreeSortLaws.{facet_form}
use Rattle.rdf_mapping.proofs.WrittenLaws.{first_in}

abbrev pub predicates : Arcs → List (List ℕ)
predicates no_arcs = []
predicates (arc p f more) = p ∷ predicates more

abbrev mutual
  pub IsKeyed : Form → Type 0
  IsKeyed (plain t) = Unit {0}
  IsKeyed (made arcs) = AreKeyed arcs
  IsKeyed (twice f) = IsKeyed f

  pub AreKeyed : Arcs → Type 0
  AreKeyed no_arcs = Unit {0}
  AreKeyed (arc p f more) = (Contains (predicates more) p → ⊥) × (IsKeyed f × AreKeyed more)

-- Lists.

first_is_not_rest : bytes_eq first_iri rest_iri ≡ false
unfolding word_iri encode
first_is_not_rest = refl

pub first_not_rest : first_iri ≡ rest_iri → ⊥
first_not_rest e = both_ways (bytes_eq first_iri rest_iri) first_is_not_rest ((bytes_eq-Decides first_iri rest_iri).1 e)

first_apart : Contains (rest_iri ∷ []) first_iri → ⊥
first_apart m = elim (in_cases rest_iri [] first_iri m) [ inl e ↦ first_not_rest (sym e) | inr n ↦ in_none first_iri n ]

pub list_keyed : (fs : List Form) → AllByRecursion IsKeyed fs → IsKeyed (list_form fs)
list_keyed [] h = tt
list_keyed (f ∷ fs) h = (first_apart, (h.0, (in_none rest_iri, (list_keyed fs h.1, tt))))

one_keyed : (b : Bool) (f : Form) → IsKeyed f → IsKeyed (cond b (twice f) (list_form (f ∷ [])))
one_keyed true f h = h
one_keyed false f h = list_keyed (f ∷ []) (h, tt)

pub listed_keyed : (least : ℕ) (fs : List Form) → AllByRecursion IsKeyed fs → IsKeyed (listed least fs)
listed_keyed least [] h = tt
listed_keyed least (f ∷ []) h = one_keyed (nat_le 2 least) f h.0
listed_keyed least (f ∷ g ∷ fs) h = list_keyed (f ∷ g ∷ fs) h

-- Kids, by themselves and by their own kids.

pub record IsKidKeyed (k : Kid) : Type 0 where
  pub form : IsKeyed k.form
  pub members : AllByRecursion IsKeyed k.members

forms_keyed : (ks : List Kid) → AllByRecursion IsKidKeyed ks → AllByRecursion IsKeyed (forms_of ks)
forms_keyed [] h = tt
forms_keyed (k ∷ ks) h = (h.0.form, forms_keyed ks h.1)

both_keyed : (fs gs : List Form) → AllByRecursion IsKeyed fs → AllByRecursion IsKeyed gs → AllByRecursion IsKeyed (fs ++ gs)
both_keyed [] gs h k = k
both_keyed (f ∷ fs) gs h k = (h.0, both_keyed fs gs h.1 k)

-- What stands at the parts of a row.

abbrev iri_at : Place → List (List ℕ) → List (List ℕ)
iri_at (At w) iris = arc_iri w ∷ iris
iri_at Subject iris = iris
iri_at Predicate iris = iris
iri_at Object iris = iris

abbrev iris_of : List Part → List (List ℕ)
iris_of [] = []
iris_of (p ∷ ps) = iri_at p.place (iris_of ps)

-- the arcs have different predicates, which are among these, and what stands there is keyed
record GoWell (iris : List (List ℕ)) (ps : List Placed) : Type 0 where
  keyed : AreKeyed (arcs_of ps)
  within : (p : List ℕ) → Contains (predicates (arcs_of ps)) p → Contains iris p
  each : AllByRecursion (λ p. IsKeyed p.form) ps

nothing_goes : (iris : List (List ℕ)) → GoWell iris []
nothing_goes iris = record { keyed = tt; within = λ p m. absurd (in_none p m); each = tt }

next_goes : (p : Place) (iris : List (List ℕ)) (f : Form) (ps : List Placed) → AreApart (iri_at p iris) → IsKeyed f → GoWell iris ps → GoWell (iri_at p iris) (placed_at p f ∷ ps)
next_goes (At w) iris f ps a k g = record {
  keyed = (λ m. a.0 (g.within (arc_iri w) m), (k, g.keyed));
  within = λ q m.
      elim (in_cases (arc_iri w) (predicates (arcs_of ps)) q m) [
        | inl e ↦ subst (Contains (arc_iri w ∷ iris)) e (in_head (arc_iri w) iris)
        | inr n ↦ in_tail (arc_iri w) iris q (g.within q n)
      ];
  each = (k, g.each);
}
next_goes Subject iris f ps a k g = record { keyed = g.keyed; within = g.within; each = (k, g.each) }
next_goes Predicate iris f ps a k g = record { keyed = g.keyed; within = g.within; each = (k, g.each) }
next_goes Object iris f ps a k g = record { keyed = g.keyed; within = g.within; each = (k, g.each) }

behind_apart : (p : Place) (iris : List (List ℕ)) → AreApart (iri_at p iris) → AreApart iris
behind_apart (At w) iris a = a.1
behind_apart Subject iris a = a
behind_apart Predicate iris a = a
behind_apart Object iris a = a

class_goes : (p : Place) (iris : List (List ℕ)) (ps : List Placed) (left : ℕ) → AreApart (iri_at p iris) → GoWell iris ps → GoWell (iri_at p iris) (placed_by Mark p left (λ ks. ps) [])
class_goes (At w) iris ps left a g = next_goes (At w) iris (plain (Iri (word_iri w))) ps a tt g
class_goes Subject iris ps left a g = nothing_goes iris
class_goes Predicate iris ps left a g = nothing_goes iris
class_goes Object iris ps left a g = nothing_goes iris

wanted_goes : (w : Want) (p : Place) (left : ℕ) (iris : List (List ℕ)) (behind : List Kid → List Placed) → AreApart (iri_at p iris) → ((ks : List Kid) → AllByRecursion IsKidKeyed ks → GoWell iris (behind ks)) → (ks : List Kid) → AllByRecursion IsKidKeyed ks → GoWell (iri_at p iris) (placed_by w p left behind ks)
wanted_goes (One s) p left iris behind a h [] k = nothing_goes (iri_at p iris)
wanted_goes (One s) p left iris behind a h (k ∷ ks) g = next_goes p iris k.form (behind ks) a g.0.form (h ks g.1)
wanted_goes (Many s least) p left iris behind a h ks g =
    let n = length ks - left in
    next_goes p iris (listed least (forms_of (take n ks))) (behind (drop n ks)) a
    (listed_keyed least (forms_of (take n ks)) (forms_keyed (take n ks) (all_take IsKidKeyed n ks g))) (h (drop n ks) (all_drop IsKidKeyed n ks g))
wanted_goes (Whole u s least) p left iris behind a h [] g = nothing_goes (iri_at p iris)
wanted_goes (Whole u s least) p left iris behind a h (k ∷ ks) g = next_goes p iris (listed least k.members) (behind ks) a (listed_keyed least k.members g.0.members) (h ks g.1)
wanted_goes Keys p left iris behind a h [] g = nothing_goes (iri_at p iris)
wanted_goes Keys p left iris behind a h (k ∷ []) g = nothing_goes (iri_at p iris)
wanted_goes Keys p left iris behind a h (k ∷ l ∷ ks) g =
    next_goes p iris (list_form (k.members ++ l.members)) (behind ks) a (list_keyed (k.members ++ l.members) (both_keyed k.members l.members g.0.members g.1.0.members)) (h ks g.1.1)
wanted_goes (Declared u) p left iris behind a h [] g = nothing_goes (iri_at p iris)
wanted_goes (Declared u) p left iris behind a h (k ∷ ks) g = next_goes p iris k.form (behind ks) a g.0.form (h ks g.1)
wanted_goes Mark p left iris behind a h ks g = class_goes p iris (behind ks) left a (h ks g)
wanted_goes True p left iris behind a h ks g = next_goes p iris _ (behind ks) a tt (h ks g)

parts_go : (ps : List Part) → AreApart (iris_of ps) → (ks : List Kid) → AllByRecursion IsKidKeyed ks → GoWell (iris_of ps) (placed ps ks)
unfolding placed
parts_go [] a ks g = nothing_goes []
parts_go (p ∷ ps) a ks g = wanted_goes p.want p.place (singles ps) (iris_of ps) (λ ls. placed ps ls) a (parts_go ps (behind_apart p.place (iris_of ps) a)) ks g

-- The rows.

told_apart : List (List ℕ) → Bool
told_apart [] = true
told_apart (p ∷ ps) = list_all (λ q. not (bytes_eq q p)) ps && told_apart ps

told_are_apart : (ps : List (List ℕ)) → told_apart ps ≡ true → AreApart ps
unfolding told_apart
told_are_apart [] h = tt
told_are_apart (p ∷ ps) h =
    let both = and_parts (list_all (λ q. not (bytes_eq q p)) ps) (told_apart ps) h in
    (λ m. both_ways false refl (sym (ap not ((bytes_eq-Decides p p).1 refl)) ∙ passes (λ q. not (bytes_eq q p)) ps p both.0 m), told_are_apart ps both.1)

nodes_told : list_all (λ r. told_apart (iris_of r.parts)) node_rows ≡ true
unfolding node_rows told_apart is_type word_iri encode
nodes_told = refl

axioms_told : list_all (λ r. told_apart (iris_of r.parts)) axiom_rows ≡ true
unfolding axiom_rows told_apart is_type word_iri encode
axioms_told = refl

pub row_in : (rows : List Row) (t : Tag) (ts : List Tag) (r : Row) → row_for rows t ts ≡ Some r → Contains rows r
unfolding row_for
row_in rows t ts r h = (from_filter _ rows r (first_in _ r h)).inside

row_goes : (r : Row) → told_apart (iris_of r.parts) ≡ true → (ks : List Kid) → AllByRecursion IsKidKeyed ks → GoWell (iris_of r.parts) (placed r.parts ks)
row_goes r h ks g = parts_go r.parts (told_are_apart (iris_of r.parts) h) ks g

-- Trees.

facet_by : (f g : Form) (k l : Kid) → f ≡ k.form → g ≡ l.form → IsKeyed g → AreKeyed (facet_arcs (k ∷ l ∷ []))
facet_by (plain (Iri iri)) g k l e h d = rw (sym e, sym h) (in_none iri, (d, tt))
facet_by (plain (Blank label)) g k l e h d = rw (sym e) tt
facet_by (plain (Literal literal)) g k l e h d = rw (sym e) tt
facet_by (made arcs) g k l e h d = rw (sym e) tt
facet_by (twice f) g k l e h d = rw (sym e) tt

facet_keyed : (ks : List Kid) → AllByRecursion IsKidKeyed ks → AreKeyed (facet_arcs ks)
facet_keyed [] g = tt
facet_keyed (k ∷ []) g = tt
facet_keyed (k ∷ l ∷ []) g = facet_by k.form l.form k l refl refl g.1.0.form
facet_keyed (k ∷ l ∷ m ∷ ks) g = tt

row_keyed : (t : Tag) (ks : List Kid) (o : Option Row) → is_tag tag.FacetPair t ≡ false → row_for node_rows t (tags_of ks) ≡ o → AllByRecursion IsKidKeyed ks → IsKeyed (node_form t ks)
row_keyed t ks None e h g = rw (e, h) tt
row_keyed t ks (Some r) e h g =
    let told = passes (λ q. told_apart (iris_of q.parts)) node_rows r nodes_told (row_in node_rows t (tags_of ks) r h) in
    subst IsKeyed (sym (row_form t ks r e h)) (row_goes r told ks g).keyed

node_keyed : (t : Tag) (ks : List Kid) (b : Bool) → is_tag tag.FacetPair t ≡ b → AllByRecursion IsKidKeyed ks → IsKeyed (node_form t ks)
node_keyed t ks true e g = subst IsKeyed (sym (facet_form t ks e)) (facet_keyed ks g)
node_keyed t ks false e g = row_keyed t ks (row_for node_rows t (tags_of ks)) e refl g

mutual
  tree_keyed : (t : Tree) → IsKidKeyed (kid_of t)
  tree_keyed (leaf t a) = record { form = tt; members = tt }
  tree_keyed (node t ks) =
      let g = kids_keyed ks in
      record { form = node_keyed t (kids_seen ks) (is_tag tag.FacetPair t) refl g; members = forms_keyed (kids_seen ks) g }

  kids_keyed : (ks : Kids) → AllByRecursion IsKidKeyed (kids_seen ks)
  kids_keyed no_kids = tt
  kids_keyed (kid t ks) = (tree_keyed t, kids_keyed ks)

-- Statements.

abbrev pub IsStatementKeyed : Statement → Type 0
IsStatementKeyed (linked f p g) = IsKeyed f × IsKeyed g
IsStatementKeyed (linked_back f p g) = IsKeyed f × IsKeyed g
IsStatementKeyed (looped p f) = IsKeyed f
IsStatementKeyed (standing arcs) = AreKeyed arcs
IsStatementKeyed unsaid = Unit {0}

between_keyed : (p : Place) (f : Form) (iri : List ℕ) (g : Form) → IsKeyed f → IsKeyed g → IsStatementKeyed (between p f iri g)
between_keyed Object f iri g h k = (h, k)
between_keyed Subject f iri g h k = (h, k)
between_keyed Predicate f iri g h k = tt
between_keyed (At w) f iri g h k = tt

predicate_keyed : (f s o : Form) → IsKeyed s → IsKeyed o → IsStatementKeyed (by_predicate f s o)
predicate_keyed (plain (Iri iri)) s o h k = (h, k)
predicate_keyed (plain (Blank label)) s o h k = tt
predicate_keyed (plain (Literal literal)) s o h k = tt
predicate_keyed (made arcs) s o h k = tt
predicate_keyed (twice f) s o h k = tt

triple_keyed : (site : Site) (ps : List Placed) → AllByRecursion (λ p. IsKeyed p.form) ps → IsStatementKeyed (by_triple site ps)
triple_keyed (TypedBy w) (p ∷ []) h = (h.0, tt)
triple_keyed OtherType (p ∷ q ∷ []) h = between_keyed p.place p.form type_iri q.form h.0 h.1.0
triple_keyed (LinkedBy w) (p ∷ q ∷ []) h = between_keyed p.place p.form (word_iri w) q.form h.0 h.1.0
triple_keyed OtherLink (p ∷ q ∷ r ∷ []) h = predicate_keyed p.form q.form r.form h.1.0 h.1.1.0
triple_keyed site ps h = tt

stated_keyed : (site : Site) (ps : List Placed) → AreKeyed (arcs_of ps) → AllByRecursion (λ p. IsKeyed p.form) ps → IsStatementKeyed (stated site ps)
stated_keyed (Node role) ps k h = k
stated_keyed (TypedBy w) ps k h = triple_keyed (TypedBy w) ps h
stated_keyed OtherType ps k h = triple_keyed OtherType ps h
stated_keyed (LinkedBy w) ps k h = triple_keyed (LinkedBy w) ps h
stated_keyed OtherLink ps k h = triple_keyed OtherLink ps h

stated_by_keyed : (t : Tag) (ks : List Kid) (o : Option Row) → row_for axiom_rows t (tags_of ks) ≡ o → AllByRecursion IsKidKeyed ks → IsStatementKeyed (stated_by o ks)
stated_by_keyed t ks None h g = tt
stated_by_keyed t ks (Some r) h g =
    let told = passes (λ q. told_apart (iris_of q.parts)) axiom_rows r axioms_told (row_in axiom_rows t (tags_of ks) r h) in
    let well = row_goes r told ks g in
    stated_keyed r.site (placed r.parts ks) well.keyed well.each

loop_at_keyed : (site : Site) (f : Form) → IsKeyed f → IsStatementKeyed (loop_at site f)
loop_at_keyed (LinkedBy w) f h = h
loop_at_keyed _ f h = tt

loop_by_keyed : (o : Option Row) (f : Form) → IsKeyed f → IsStatementKeyed (loop_by o f)
loop_by_keyed None f h = tt
loop_by_keyed (Some r) f h = loop_at_keyed r.site f h

either_keyed : (b : Bool) (s r : Statement) → IsStatementKeyed s → IsStatementKeyed r → IsStatementKeyed (cond b s r)
either_keyed true s r h k = h
either_keyed false s r h k = k

by_kids_keyed : (t : Tag) (ks : List Kid) → AllByRecursion IsKidKeyed ks → IsStatementKeyed (by_kids t ks)
by_kids_keyed t [] g = stated_by_keyed t [] (row_for axiom_rows t []) refl g
by_kids_keyed t (k ∷ []) g =
    either_keyed (is_pair t) _ _ (loop_by_keyed (row_for axiom_rows t (k.tag ∷ k.tag ∷ [])) k.form g.0.form)
    (stated_by_keyed t (k ∷ []) (row_for axiom_rows t (k.tag ∷ [])) refl g)
by_kids_keyed t (k ∷ l ∷ ks) g = stated_by_keyed t (k ∷ l ∷ ks) (row_for axiom_rows t (tags_of (k ∷ l ∷ ks))) refl g

pub statement_keyed : (t : Tree) → IsStatementKeyed (statement_of t)
statement_keyed (leaf t a) = tt
statement_keyed (node t no_kids) = tt
statement_keyed (node t (kid ns ks)) = by_kids_keyed t (kids_seen ks) (kids_keyed ks)
