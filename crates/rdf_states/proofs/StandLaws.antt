-- The triples of a node that stands for an axiom make it what it is.
use Rattle.std.proofs.Common.{◌≡◌, ◌-◌, ◌+◌, ℕ, suc, Bool, true, false, cond, not, List, [], ◌∷◌, ◌++◌, drop, take, length, inl, inr, refl, subst}
use Rattle.std.specs.Prelude.{Contains, ◌&&◌, ◌||◌, Option, None, Some}
use Rattle.std.specs.List.{AllByRecursion, list_all, list_any}
use Rattle.std.proofs.lemmas.Bool.{and_parts, both_ways, not-true, or_cases}
use Rattle.owl_list.proofs.AscendingLaws.{in_cases, in_none}
use Rattle.owl_tree.specs.declared.tag.Tag.{Tag}
use Rattle.owl_tree.specs.Trees.{Tree, leaf, node, no_kids, kid}
use Rattle.rdf_graph.specs.declared.term.Term.{Term}
use Rattle.rdf_graph.specs.declared.term.Term.TheVariants.{Iri, Literal}
use Rattle.rdf_graph.specs.declared.triple.Triple.{Triple}
use Rattle.rdf_meaning.specs.declared.role.Role.TheVariants as role
use Rattle.rdf_meaning.specs.declared.row.Part.{Part}
use Rattle.rdf_meaning.specs.declared.row.Place.{Place}
use Rattle.rdf_meaning.specs.declared.row.Place.TheVariants.{At, Subject, Predicate, Object}
use Rattle.rdf_meaning.specs.declared.row.Site.{Site}
use Rattle.rdf_meaning.specs.declared.row.Site.TheVariants.{Node, TypedBy, OtherType, LinkedBy, OtherLink}
use Rattle.rdf_meaning.specs.declared.row.Want.{Want}
use Rattle.rdf_meaning.specs.declared.row.Want.TheVariants.{One, Many, Whole, Keys, Declared, Mark, True}
use Rattle.rdf_meaning.specs.declared.word.Word.{Word}
use Rattle.rdf_meaning.specs.declared.word.Word.TheVariants as word
use Rattle.rdf_meaning.specs.Denotation.{true_literal}
use Rattle.rdf_meaning.proofs.ListLaws.{passes, some_passes}
use Rattle.rdf_meaning.specs.Nodes.{carries, carries_some, is_word, words_of}
use Rattle.rdf_meaning.specs.Rows.{Row, axiom_rows}
use Rattle.rdf_meaning.specs.Words.{is_type, word_iri, word_number}
use Rattle.rdf_meaning.proofs.WordLaws.{same_word}
use Rattle.rdf_mapping.specs.Drawing.{Kid, Placed, Statement, linked, linked_back, looped, standing, unsaid, arc_iri, arcs_of, between, by_kids, by_predicate, forms_of, is_pair, kids_seen, listed, loop_at, loop_by, placed, placed_by, row_for, singles, stated, stated_by, statement_of, tags_of}
use Rattle.rdf_mapping.specs.Forms.{Form, plain, made, twice, Arcs, arc_nodes, link, list_form, nodes, term_of}
use Rattle.rdf_mapping.specs.Frames.{own_triples}
use Rattle.rdf_mapping.proofs.ListDrawingLaws.{carries_link}
use Rattle.rdf_mapping.specs.Notes.{Notes, note_nodes}
use Rattle.rdf_mapping.specs.OwnLaws.{any_from}
use Rattle.rdf_mapping.specs.Spelling.{is_at_node}
use Rattle.rdf_states.proofs.OneTripleLaws.{row_found}
use Rattle.rdf_states.specs.Places.{Stand, stands_from, stands_of}

-- The parts of a row whose links are those of a node that stands for an axiom.

abbrev is_main_word : Word → Bool
is_main_word w = list_any (is_word w) (words_of role.Main)

abbrev draws_main : Place → Want → Bool
draws_main (At w) Mark = is_main_word w
draws_main (At w) want = is_main_word w && (not (is_type w) && not (is_word w word.InverseOf))
draws_main Subject want = false
draws_main Predicate want = false
draws_main Object want = false

main_parts : list_all (λ r. not (is_at_node r.site) || list_all (λ p. draws_main p.place p.want) r.parts) axiom_rows ≡ true
unfolding axiom_rows words_of is_type word_number
main_parts = refl

carries_main : (w : Word) (t : Triple) → is_main_word w ≡ true → carries w t ≡ true → carries_some (words_of role.Main) t ≡ true
carries_main w t h c =
    let k = some_passes (is_word w) (words_of role.Main) h in
    any_from (λ v. carries v t) (words_of role.Main) k.element k.inside (subst (λ (v : Word). carries v t ≡ true) (same_word w k.element k.passes) c)

-- a link to the form makes its subject what it is, where one stands at the place
abbrev IsMainLink : Place → Form → Type 0
IsMainLink (At w) f = (name : ℕ → List ℕ) (x : Term) (n : ℕ) → carries_some (words_of role.Main) (link x (arc_iri w) (term_of name f n)) ≡ true
IsMainLink Subject f = Unit {0}
IsMainLink Predicate f = Unit {0}
IsMainLink Object f = Unit {0}

abbrev AreMainLinks : List Placed → Type 0
AreMainLinks qs = AllByRecursion (λ (q : Placed). IsMainLink q.place q.form) qs

plain_link : (w : Word) (f : Form) → (is_main_word w && (not (is_type w) && not (is_word w word.InverseOf))) ≡ true → IsMainLink (At w) f
plain_link w f h name x n =
    let both = and_parts (is_main_word w) (not (is_type w) && not (is_word w word.InverseOf)) h in
    let rest = and_parts (not (is_type w)) (not (is_word w word.InverseOf)) both.1 in
    carries_main w (link x (arc_iri w) (term_of name f n)) both.0
    (carries_link w x (term_of name f n) (λ a. absurd (both_ways (is_type w) (not-true (is_type w) rest.0) a)) (λ i. absurd (both_ways (is_word w word.InverseOf) (not-true (is_word w word.InverseOf) rest.1) i)))

class_link : (w : Word) → is_main_word w ≡ true → IsMainLink (At w) (plain (Iri (word_iri w)))
class_link w h name x n = carries_main w (link x (arc_iri w) (Iri (word_iri w))) h (carries_link w x (Iri (word_iri w)) (λ a. refl) (λ i. refl))

abbrev MainBehind : (List Kid → List Placed) → Type 0
MainBehind behind = (ks : List Kid) → AreMainLinks (behind ks)

want_links : (w : Word) (want : Want) (left : ℕ) (behind : List Kid → List Placed) → draws_main (At w) want ≡ true → MainBehind behind → MainBehind (placed_by want (At w) left behind)
want_links w (One s) left behind h f [] = tt
want_links w (One s) left behind h f (q ∷ ks) = (plain_link w q.form h, f ks)
want_links w (Many s least) left behind h f ks =
    (plain_link w (listed least (forms_of (take (length ks - left) ks))) h, f (drop (length ks - left) ks))
want_links w (Whole t s least) left behind h f [] = tt
want_links w (Whole t s least) left behind h f (q ∷ ks) = (plain_link w (listed least q.members) h, f ks)
want_links w Keys left behind h f [] = tt
want_links w Keys left behind h f (q ∷ []) = tt
want_links w Keys left behind h f (q ∷ r ∷ ks) = (plain_link w (list_form (q.members ++ r.members)) h, f ks)
want_links w (Declared t) left behind h f [] = tt
want_links w (Declared t) left behind h f (q ∷ ks) = (plain_link w q.form h, f ks)
want_links w Mark left behind h f ks = (class_link w h, f ks)
want_links w True left behind h f ks = (plain_link w (plain (Literal true_literal)) h, f ks)

place_links : (place : Place) (want : Want) (left : ℕ) (behind : List Kid → List Placed) → draws_main place want ≡ true → MainBehind behind → MainBehind (placed_by want place left behind)
place_links (At w) want left behind h f = want_links w want left behind h f
place_links Subject want left behind h f = absurd (both_ways false refl h)
place_links Predicate want left behind h f = absurd (both_ways false refl h)
place_links Object want left behind h f = absurd (both_ways false refl h)

placed_links : (ps : List Part) → list_all (λ p. draws_main p.place p.want) ps ≡ true → MainBehind (placed ps)
unfolding placed
placed_links [] h ks = tt
placed_links (p ∷ ps) h ks =
    let parts = and_parts (draws_main p.place p.want) (list_all (λ q. draws_main q.place q.want) ps) h in
    place_links p.place p.want (singles ps) (λ ls. placed ps ls) parts.0 (placed_links ps parts.1) ks

-- the own triples of such a node
abbrev AreMainArcs : Arcs → Type 0
AreMainArcs arcs = (name : ℕ → List ℕ) (x : Term) (n : ℕ) (t : Triple) → Contains (own_triples name x arcs n) t → carries_some (words_of role.Main) t ≡ true

arc_main : (place : Place) (f : Form) (qs : List Placed) → IsMainLink place f → AreMainArcs (arcs_of qs) → AreMainArcs (arcs_of (record { place = place; form = f } ∷ qs))
arc_main (At w) f qs h rest name x n t m =
    elim (in_cases (link x (arc_iri w) (term_of name f n)) (own_triples name x (arcs_of qs) (n + nodes f)) t m) [
      | inl e ↦ subst (λ (u : Triple). carries_some (words_of role.Main) u ≡ true) e (h name x n)
      | inr k ↦ rest name x (n + nodes f) t k
    ]
arc_main Subject f qs h rest name x n t m = rest name x n t m
arc_main Predicate f qs h rest name x n t m = rest name x n t m
arc_main Object f qs h rest name x n t m = rest name x n t m

arcs_main : (qs : List Placed) → AreMainLinks qs → AreMainArcs (arcs_of qs)
arcs_main [] all name x n t m = absurd (in_none t m)
arcs_main (q ∷ qs) all name x n t m = arc_main q.place q.form qs all.0 (arcs_main qs all.1) name x n t m

abbrev IsMainStatement : Statement → Type 0
IsMainStatement (linked f p q) = Unit {0}
IsMainStatement (linked_back f p q) = Unit {0}
IsMainStatement (looped p f) = Unit {0}
IsMainStatement (standing arcs) = AreMainArcs arcs
IsMainStatement unsaid = Unit {0}

between_main : (place : Place) (f : Form) (iri : List ℕ) (q : Form) → IsMainStatement (between place f iri q)
between_main Object f iri q = tt
between_main Subject f iri q = tt
between_main Predicate f iri q = tt
between_main (At w) f iri q = tt

predicate_main : (r s o : Form) → IsMainStatement (by_predicate r s o)
predicate_main (plain (Iri iri)) s o = tt
predicate_main (plain _) s o = tt
predicate_main (made arcs) s o = tt
predicate_main (twice f) s o = tt

stated_main : (site : Site) (qs : List Placed) → (is_at_node site ≡ true → AreMainLinks qs) → IsMainStatement (stated site qs)
stated_main (Node r) qs h = arcs_main qs (h refl)
stated_main (TypedBy w) [] h = tt
stated_main (TypedBy w) (p ∷ []) h = tt
stated_main (TypedBy w) (p ∷ q ∷ ps) h = tt
stated_main OtherType [] h = tt
stated_main OtherType (p ∷ []) h = tt
stated_main OtherType (p ∷ q ∷ []) h = between_main p.place p.form _ q.form
stated_main OtherType (p ∷ q ∷ r ∷ ps) h = tt
stated_main (LinkedBy w) [] h = tt
stated_main (LinkedBy w) (p ∷ []) h = tt
stated_main (LinkedBy w) (p ∷ q ∷ []) h = between_main p.place p.form (word_iri w) q.form
stated_main (LinkedBy w) (p ∷ q ∷ r ∷ ps) h = tt
stated_main OtherLink [] h = tt
stated_main OtherLink (p ∷ []) h = tt
stated_main OtherLink (p ∷ q ∷ []) h = tt
stated_main OtherLink (p ∷ q ∷ r ∷ []) h = predicate_main p.form q.form r.form
stated_main OtherLink (p ∷ q ∷ r ∷ s ∷ ps) h = tt

row_main : (t : Tag) (ts : List Tag) (o : Option Row) (ks : List Kid) → row_for axiom_rows t ts ≡ o → IsMainStatement (stated_by o ks)
row_main t ts None ks e = tt
row_main t ts (Some r) ks e =
    let at = row_found axiom_rows t ts r e in
    stated_main r.site (placed r.parts ks)
    (λ n. elim (or_cases (not (is_at_node r.site)) (list_all (λ p. draws_main p.place p.want) r.parts) (passes (λ q. not (is_at_node q.site) || list_all (λ p. draws_main p.place p.want) q.parts) axiom_rows r main_parts at.among)) [
      | inl a ↦ absurd (both_ways (is_at_node r.site) (not-true (is_at_node r.site) a) n)
      | inr b ↦ placed_links r.parts b ks
    ])

loop_main : (o : Option Row) (f : Form) → IsMainStatement (loop_by o f)
loop_main None f = tt
loop_main (Some r) f = at r.site
  where
    at : (site : Site) → IsMainStatement (loop_at site f)
    at (LinkedBy w) = tt
    at (Node r) = tt
    at (TypedBy w) = tt
    at OtherType = tt
    at OtherLink = tt

either : (b : Bool) (s t : Statement) → IsMainStatement s → IsMainStatement t → IsMainStatement (cond b s t)
either true s t h k = h
either false s t h k = k

kids_main : (t : Tag) (ks : List Kid) → IsMainStatement (by_kids t ks)
kids_main t [] = row_main t [] (row_for axiom_rows t []) [] refl
kids_main t (q ∷ []) =
    either (is_pair t) (loop_by (row_for axiom_rows t (q.tag ∷ q.tag ∷ [])) q.form) (stated_by (row_for axiom_rows t (q.tag ∷ [])) (q ∷ []))
    (loop_main (row_for axiom_rows t (q.tag ∷ q.tag ∷ [])) q.form) (row_main t (q.tag ∷ []) (row_for axiom_rows t (q.tag ∷ [])) (q ∷ []) refl)
kids_main t (q ∷ r ∷ ks) = row_main t (tags_of (q ∷ r ∷ ks)) (row_for axiom_rows t (tags_of (q ∷ r ∷ ks))) (q ∷ r ∷ ks) refl

statement_main : (a : Tree) → IsMainStatement (statement_of a)
statement_main (leaf t a) = tt
statement_main (node t no_kids) = tt
statement_main (node t (kid ns ks)) = kids_main t (kids_seen ks)

from_arcs : (arcs : Arcs) (sets : List Notes) (n : ℕ) (e : Stand) → AreMainArcs arcs → Contains (stands_from arcs sets n) e → AreMainArcs e.arcs
from_arcs arcs [] n e h m = absurd (in_none e m)
from_arcs arcs (ns ∷ sets) n e h m =
    let later = n + (suc (arc_nodes arcs) + note_nodes ns) in
    elim (in_cases (record { number = n; arcs = arcs; notes = ns }) (stands_from arcs sets later) e m) [
      | inl i ↦ subst (λ (x : Stand). AreMainArcs x.arcs) i h
      | inr i ↦ from_arcs arcs sets later e h i
    ]

stand_arcs : (s : Statement) (sets : List Notes) (n : ℕ) (e : Stand) → IsMainStatement s → Contains (stands_of s sets n) e → AreMainArcs e.arcs
stand_arcs (linked f p q) sets n e h m = absurd (in_none e m)
stand_arcs (linked_back f p q) sets n e h m = absurd (in_none e m)
stand_arcs (looped p f) sets n e h m = absurd (in_none e m)
stand_arcs (standing arcs) sets n e h m = from_arcs arcs sets n e h m
stand_arcs unsaid sets n e h m = absurd (in_none e m)

-- the triples of a node that stands for an axiom carry words of such nodes
pub stand_words : (a : Tree) (sets : List Notes) (n : ℕ) (e : Stand) → Contains (stands_of (statement_of a) sets n) e → AreMainArcs e.arcs
stand_words a sets n e m = stand_arcs (statement_of a) sets n e (statement_main a) m
