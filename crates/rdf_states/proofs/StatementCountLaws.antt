-- A statement has no more nodes than some times what its axiom weighs.
use Rattle.std.proofs.Common.{◌≡◌, ◌≤◌, ◌+◌, ◌*◌, ◌-◌, ℕ, suc, Bool, true, false, List, [], ◌∷◌, ◌++◌, length, drop, take, refl, sym, ap, arith}
use Rattle.std.specs.Prelude.{cond, max, nat_le, Option, None, Some}
use Rattle.std.specs.List.{sum_by}
use Rattle.std.proofs.Math.Nat.{le-max_left, le-max_right, max-le}
use Rattle.std.proofs.lemmas.List.Sums.{sum_by-cons, sum_by-take-drop}
use Rattle.owl_tree.specs.declared.tag.Tag.{Tag}
use Rattle.owl_tree.specs.declared.tag.Tag.TheVariants as tag
use Rattle.owl_tree.specs.Rows.{is_tag}
use Rattle.owl_tree.specs.Trees.{Tree, Kids, leaf, node, no_kids, kid, sum_weight, weight}
use Rattle.rdf_graph.specs.declared.term.Term.TheVariants.{Iri, Blank, Literal}
use Rattle.rdf_meaning.specs.declared.row.Part.{Part}
use Rattle.rdf_meaning.specs.declared.row.Place.{Place}
use Rattle.rdf_meaning.specs.declared.row.Place.TheVariants.{At, Subject, Predicate, Object}
use Rattle.rdf_meaning.specs.declared.row.Site.{Site}
use Rattle.rdf_meaning.specs.declared.row.Site.TheVariants.{Node, TypedBy, OtherType, LinkedBy, OtherLink}
use Rattle.rdf_meaning.specs.declared.row.Want.{Want}
use Rattle.rdf_meaning.specs.declared.row.Want.TheVariants.{One, Many, Whole, Keys, Declared, Mark, True}
use Rattle.rdf_meaning.specs.Nodes.{type_iri}
use Rattle.rdf_meaning.specs.Words.{word_iri}
use Rattle.rdf_meaning.specs.Rows.{Row, axiom_rows, node_rows}
use Rattle.rdf_mapping.specs.Drawing.{Kid, Placed, Statement, linked, linked_back, looped, standing, unsaid, arcs_of, between, by_kids, by_predicate, by_triple, facet_arcs, forms_of, is_pair, kid_of, kids_seen, listed, loop_at, loop_by, node_form, placed, placed_at, placed_by, row_for, singles, stated, stated_by, statement_of, tags_of}
use Rattle.rdf_mapping.specs.Forms.{Form, plain, made, twice, arc_nodes, list_form, nodes}
use Rattle.rdf_mapping.proofs.NodeDrawingLaws.{row_form}
use Rattle.rdf_mapping.proofs.TreeSortLaws.{facet_form}

-- Forms, and lists of them.

-- the forms, each in two cells of a list
abbrev cells : List Form → ℕ
cells [] = 0
cells (f ∷ fs) = nodes f + 2 + cells fs

list_within : (fs : List Form) → nodes (list_form fs) ≤ cells fs
list_within [] = omega arith
list_within (f ∷ fs) = omega (arith, list_within fs)

one_within : (b : Bool) (f : Form) → nodes (cond b (twice f) (list_form (f ∷ []))) ≤ cells (f ∷ [])
one_within true f = omega arith
one_within false f = omega arith

listed_within : (least : ℕ) (fs : List Form) → nodes (listed least fs) ≤ cells fs
listed_within least [] = omega arith
listed_within least (f ∷ []) = one_within (nat_le 2 least) f
listed_within least (f ∷ g ∷ fs) = list_within (f ∷ g ∷ fs)

cells_of_both : (fs gs : List Form) → cells (fs ++ gs) ≡ cells fs + cells gs
cells_of_both [] gs = omega arith
cells_of_both (f ∷ fs) gs = let rest = cells_of_both fs gs in omega (arith, rest)

-- What stands at the parts of a row.

-- the most nodes of what is drawn of a kid: of itself in cells of a list, or of its own kids in theirs
abbrev room : Kid → ℕ
room k = max (nodes k.form + 2) (cells k.members)

abbrev rooms : List Kid → ℕ
rooms ks = sum_by room ks

form_within : (k : Kid) → nodes k.form + 2 ≤ room k
form_within k = le-max_left (nodes k.form + 2) (cells k.members)

members_within : (k : Kid) → cells k.members ≤ room k
members_within k = le-max_right (nodes k.form + 2) (cells k.members)

room_within : (k : Kid) (n : ℕ) → nodes k.form + 2 ≤ n → cells k.members ≤ n → room k ≤ n
room_within k n h m = max-le h m

forms_within : (ks : List Kid) → cells (forms_of ks) ≤ rooms ks
forms_within [] = omega arith
forms_within (k ∷ ks) = let both = sum_by-cons room k ks in omega (arith, both, form_within k, forms_within ks)

abbrev placed_nodes : List Placed → ℕ
placed_nodes [] = 0
placed_nodes (p ∷ ps) = nodes p.form + placed_nodes ps

next_within : (f : Form) (ps : List Placed) (k : Kid) (ks : List Kid) → nodes f ≤ room k → placed_nodes ps ≤ rooms ks → nodes f + placed_nodes ps ≤ rooms (k ∷ ks)
next_within f ps k ks here rest = let both = sum_by-cons room k ks in omega (arith, both, here, rest)

itself_within : (k : Kid) → nodes k.form ≤ room k
itself_within k = let h = form_within k in omega (arith, h)

whole_within : (least : ℕ) (k : Kid) → nodes (listed least k.members) ≤ room k
whole_within least k = let h = members_within k in let l = listed_within least k.members in omega (arith, h, l)

keys_within : (k l : Kid) (ps : List Placed) (ks : List Kid) → placed_nodes ps ≤ rooms ks → nodes (list_form (k.members ++ l.members)) + placed_nodes ps ≤ rooms (k ∷ l ∷ ks)
keys_within k l ps ks rest =
    let first = sum_by-cons room k (l ∷ ks) in
    let second = sum_by-cons room l ks in
    let both = cells_of_both k.members l.members in
    let list = list_within (k.members ++ l.members) in
    omega (arith, first, second, both, list, members_within k, members_within l, rest)

wanted_within : (w : Want) (p : Place) (left : ℕ) (behind : List Kid → List Placed) → ((ks : List Kid) → placed_nodes (behind ks) ≤ rooms ks) → (ks : List Kid) → placed_nodes (placed_by w p left behind ks) ≤ rooms ks
wanted_within (One s) p left behind h [] = omega arith
wanted_within (One s) p left behind h (k ∷ ks) = next_within k.form (behind ks) k ks (itself_within k) (h ks)
wanted_within (Many s least) p left behind h ks =
    let n = length ks - left in
    let here = listed_within least (forms_of (take n ks)) in
    let front = forms_within (take n ks) in
    let rest = h (drop n ks) in
    let both = sum_by-take-drop room ks n in
    omega (arith, here, front, rest, both)
wanted_within (Whole u s least) p left behind h [] = omega arith
wanted_within (Whole u s least) p left behind h (k ∷ ks) = next_within (listed least k.members) (behind ks) k ks (whole_within least k) (h ks)
wanted_within Keys p left behind h [] = omega arith
wanted_within Keys p left behind h (k ∷ []) = omega arith
wanted_within Keys p left behind h (k ∷ l ∷ ks) = keys_within k l (behind ks) ks (h ks)
wanted_within (Declared u) p left behind h [] = omega arith
wanted_within (Declared u) p left behind h (k ∷ ks) = next_within k.form (behind ks) k ks (itself_within k) (h ks)
wanted_within Mark (At w) left behind h ks = let rest = h ks in omega (arith, rest)
wanted_within Mark Subject left behind h ks = omega arith
wanted_within Mark Predicate left behind h ks = omega arith
wanted_within Mark Object left behind h ks = omega arith
wanted_within True p left behind h ks = let rest = h ks in omega (arith, rest)

placed_within : (ps : List Part) (ks : List Kid) → placed_nodes (placed ps ks) ≤ rooms ks
unfolding placed
placed_within [] ks = omega arith
placed_within (p ∷ ps) ks = wanted_within p.want p.place (singles ps) (λ ls. placed ps ls) (placed_within ps) ks

-- Nodes and their arcs.

next_arcs : (p : Place) (f : Form) (ps : List Placed) → arc_nodes (arcs_of ps) ≤ placed_nodes ps → arc_nodes (arcs_of (placed_at p f ∷ ps)) ≤ nodes f + placed_nodes ps
next_arcs (At w) f ps h = omega (arith, h)
next_arcs Subject f ps h = omega (arith, h)
next_arcs Predicate f ps h = omega (arith, h)
next_arcs Object f ps h = omega (arith, h)

arcs_within : (ps : List Placed) → arc_nodes (arcs_of ps) ≤ placed_nodes ps
arcs_within [] = omega arith
arcs_within (p ∷ ps) = next_arcs p.place p.form ps (arcs_within ps)

row_within : (r : Row) (ks : List Kid) → nodes (made (arcs_of (placed r.parts ks))) ≤ suc (rooms ks)
row_within r ks = let a = arcs_within (placed r.parts ks) in let b = placed_within r.parts ks in omega (arith, a, b)

facet_by : (f g : Form) (k l : Kid) → f ≡ k.form → nodes l.form ≤ nodes g → arc_nodes (facet_arcs (k ∷ l ∷ [])) ≤ nodes g
facet_by (plain (Iri iri)) g k l e h = rw (sym e) (omega (arith, h))
facet_by (plain (Blank label)) g k l e h = rw (sym e) (omega arith)
facet_by (plain (Literal literal)) g k l e h = rw (sym e) (omega arith)
facet_by (made arcs) g k l e h = rw (sym e) (omega arith)
facet_by (twice f) g k l e h = rw (sym e) (omega arith)

facet_within : (ks : List Kid) → arc_nodes (facet_arcs ks) ≤ rooms ks
facet_within [] = omega arith
facet_within (k ∷ []) = omega arith
facet_within (k ∷ l ∷ []) =
    let here = facet_by k.form l.form k l refl (omega arith) in
    let first = sum_by-cons room k (l ∷ []) in
    let second = sum_by-cons room l [] in
    omega (arith, here, first, second, itself_within l)
facet_within (k ∷ l ∷ m ∷ ks) = omega arith

drawn_within : (t : Tag) (ks : List Kid) (o : Option Row) → is_tag tag.FacetPair t ≡ false → row_for node_rows t (tags_of ks) ≡ o → nodes (node_form t ks) ≤ suc (rooms ks)
drawn_within t ks None e h = rw (e, h) (omega arith)
drawn_within t ks (Some r) e h = let same = ap nodes (row_form t ks r e h) in omega (arith, same, row_within r ks)

tag_within : (t : Tag) (ks : List Kid) (b : Bool) → is_tag tag.FacetPair t ≡ b → nodes (node_form t ks) ≤ suc (rooms ks)
tag_within t ks true e = let same = ap nodes (facet_form t ks e) in omega (arith, same, facet_within ks)
tag_within t ks false e = drawn_within t ks (row_for node_rows t (tags_of ks)) e refl

-- a tree, as a whole or by its kids, takes at most three nodes for each node and leaf of it
mutual
  tree_within : (t : Tree) → room (kid_of t) ≤ 3 * weight t
  tree_within (leaf t a) = room_within (kid_of (leaf t a)) 3 (omega arith) (omega arith)
  tree_within (node t ks) =
      let h = kids_within ks in
      let form = tag_within t (kids_seen ks) (is_tag tag.FacetPair t) refl in
      let members = forms_within (kids_seen ks) in
      room_within (kid_of (node t ks)) (3 * weight (node t ks)) (omega (arith, h, form)) (omega (arith, h, members))

  kids_within : (ks : Kids) → rooms (kids_seen ks) ≤ 3 * sum_weight ks
  kids_within no_kids = omega arith
  kids_within (kid t ks) =
      let both = sum_by-cons room (kid_of t) (kids_seen ks) in
      omega (arith, both, tree_within t, kids_within ks)

-- Statements.

-- the nodes of an axiom with one set of annotations, but for those that reify
abbrev pub own_nodes : Statement → ℕ
own_nodes (linked f p g) = nodes f + nodes g
own_nodes (linked_back f p g) = nodes f + nodes g
own_nodes (looped p f) = nodes f
own_nodes (standing arcs) = suc (arc_nodes arcs)
own_nodes unsaid = 0

between_within : (p : Place) (f : Form) (iri : List ℕ) (g : Form) → own_nodes (between p f iri g) ≤ nodes f + nodes g
between_within Object f iri g = omega arith
between_within Subject f iri g = omega arith
between_within Predicate f iri g = omega arith
between_within (At w) f iri g = omega arith

predicate_within : (f s o : Form) → own_nodes (by_predicate f s o) ≤ nodes s + nodes o
predicate_within (plain (Iri iri)) s o = omega arith
predicate_within (plain (Blank label)) s o = omega arith
predicate_within (plain (Literal literal)) s o = omega arith
predicate_within (made arcs) s o = omega arith
predicate_within (twice f) s o = omega arith

triple_within : (site : Site) (ps : List Placed) → own_nodes (by_triple site ps) ≤ placed_nodes ps
triple_within (TypedBy w) (p ∷ []) = omega arith
triple_within OtherType (p ∷ q ∷ []) = let h = between_within p.place p.form type_iri q.form in omega (arith, h)
triple_within (LinkedBy w) (p ∷ q ∷ []) = let h = between_within p.place p.form (word_iri w) q.form in omega (arith, h)
triple_within OtherLink (p ∷ q ∷ r ∷ []) = let h = predicate_within p.form q.form r.form in omega (arith, h)
triple_within site ps = omega arith

stated_within : (site : Site) (ps : List Placed) → own_nodes (stated site ps) ≤ suc (placed_nodes ps)
stated_within (Node role) ps = let h = arcs_within ps in omega (arith, h)
stated_within (TypedBy w) ps = let h = triple_within (TypedBy w) ps in omega (arith, h)
stated_within OtherType ps = let h = triple_within OtherType ps in omega (arith, h)
stated_within (LinkedBy w) ps = let h = triple_within (LinkedBy w) ps in omega (arith, h)
stated_within OtherLink ps = let h = triple_within OtherLink ps in omega (arith, h)

stated_by_within : (o : Option Row) (ks : List Kid) → own_nodes (stated_by o ks) ≤ suc (rooms ks)
stated_by_within None ks = omega arith
stated_by_within (Some r) ks =
    let a = stated_within r.site (placed r.parts ks) in let b = placed_within r.parts ks in omega (arith, a, b)

loop_at_within : (site : Site) (f : Form) → own_nodes (loop_at site f) ≤ nodes f
loop_at_within (LinkedBy w) f = omega arith
loop_at_within _ f = omega arith

loop_by_within : (o : Option Row) (f : Form) → own_nodes (loop_by o f) ≤ nodes f
loop_by_within None f = omega arith
loop_by_within (Some r) f = loop_at_within r.site f

either_within : (b : Bool) (s r : Statement) (n : ℕ) → own_nodes s ≤ n → own_nodes r ≤ n → own_nodes (cond b s r) ≤ n
either_within true s r n h k = h
either_within false s r n h k = k

by_kids_within : (t : Tag) (ks : List Kid) → own_nodes (by_kids t ks) ≤ suc (rooms ks)
by_kids_within t [] = stated_by_within (row_for axiom_rows t []) []
by_kids_within t (k ∷ []) =
    let loop = loop_by_within (row_for axiom_rows t (k.tag ∷ k.tag ∷ [])) k.form in
    let one = sum_by-cons room k [] in
    either_within (is_pair t) _ _ (suc (rooms (k ∷ []))) (omega (arith, loop, one, itself_within k)) (stated_by_within (row_for axiom_rows t (k.tag ∷ [])) (k ∷ []))
by_kids_within t (k ∷ l ∷ ks) = stated_by_within (row_for axiom_rows t (tags_of (k ∷ l ∷ ks))) (k ∷ l ∷ ks)

pub statement_within : (t : Tree) → own_nodes (statement_of t) ≤ 3 * weight t
statement_within (leaf t a) = omega arith
statement_within (node t no_kids) = omega arith
statement_within (node t (kid ns ks)) = let a = by_kids_within t (kids_seen ks) in let b = kids_within ks in omega (arith, a, b)
