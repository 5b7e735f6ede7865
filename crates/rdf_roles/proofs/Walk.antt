-- A walk over the triples of a graph, from subject to subject.
use Rattle.std.specs.Prelude.{◌≡◌, ℕ, Bool, true, false, List, [], ◌∷◌, ◌++◌, Contains, length, map, nat_le}
use Rattle.std.specs.List.{AllByRecursion}
use Rattle.std.specs.Ordering.{is_eq, ordering_then}
use Rattle.std.specs.declared.cmp.Ordering.{Ordering}
use Rattle.std.specs.declared.cmp.Ordering.TheVariants.{Less, Equal, Greater}
use Rattle.indexmap.specs.IndexMap.{insert_entry}
use Rattle.std.proofs.Common.{◌⊎◌, arith, inl, inr, refl, sym, ap, ◌∙◌, subst}
use Rattle.std.proofs.lemmas.Bool.{cond-false, false_from_ne_true, both_ways}
use Rattle.std.proofs.lemmas.Cmp.{tied_itself}
use Rattle.std.proofs.lemmas.List.{append_assoc, append-nil, map-append}
use Rattle.std.proofs.lemmas.List.Elements.{Contains-append_left, Contains-append_right}
use Rattle.std.proofs.lemmas.Slice.Eq.{bytes_eq-Decides}
use Rattle.owl_characters.specs.Order.{text_eq}
use Rattle.owl_list.specs.Ascending.{AreApart, IsAscending, by_order}
use Rattle.owl_list.proofs.AscendingLaws.{ascending_apart, head_below, in_cases, in_head, in_tail, tail_ascends}
use Rattle.rdf_graph.specs.contracts.term.TermOrd.TheImpl.Laws as term_laws
use Rattle.rdf_graph.specs.contracts.term.TermPartialEq.TheImpl as equal_terms
use Rattle.rdf_graph.specs.declared.term.Term.{Term}
use Rattle.rdf_graph.specs.declared.term.Term.TheVariants.{Iri, Blank, Literal}
use Rattle.rdf_graph.specs.declared.triple.Triple.{Triple}
use Rattle.rdf_graph.specs.Terms.{term_cmp, triple_cmp}
use Rattle.rdf_graph.proofs.TermLaws.{only_equal_terms_tie, same_order, terms_total}
use Rattle.rdf_meaning.specs.declared.role.Role.{Role}
use Rattle.rdf_meaning.specs.Nodes.{first_role, is_mixed, is_same, of_subject, role_of, roles_of, subjects_of}
use Rattle.rdf_rows.specs.Roles.{roles_in}
use Rattle.rdf_meaning.proofs.NodeLaws.{own_term, same_term}
use Rattle.rdf_faults.specs.Faults.{IsMixed}
use Rattle.rdf_faults.specs.Firsts.{HoldsForNone}
use Rattle.rdf_roles.specs.declared.fault.NodeFault.{NodeFault}
use Rattle.rdf_roles.specs.declared.fault.NodeFault.TheVariants.{Mixed, BadList, Cycle, BadNode, Memory}
use Rattle.rdf_roles.proofs.NodeLaws.{from_labels}
use Rattle.rdf_roles.specs.Refusals.{HaveOneRole, IsNodeFault}
use Rattle.rdf_roles.specs.FaultPlaces.{IsMixedFault}
use Rattle.rdf_roles.specs.Tables.{IsNew, begins_with, blank_nodes, labels_in, table_of, with_role}

-- the program's test of terms
pub equal_is_same : (a b : Term) → equal_terms.ghosts.eq a b ≡ is_same a b
equal_is_same a b = term_laws.matches_eq-law a b ∙ ap is_eq (same_order a b)

then_less : (o p : Ordering) → ordering_then o p ≡ Less → (o ≡ Less) ⊎ (o ≡ Equal)
then_less Less p e = inl refl
then_less Equal p e = inr refl
then_less Greater p e = cc

-- the subject of the first of ascending triples is the first of the subjects
record BeginsWith (x : Term) (xs : List Term) : Type 0 where
  pub others : List Term
  pub is : xs ≡ x ∷ others

put_first : (x u : Term) (more : List Term) (o : Ordering) → term_cmp x u ≡ o → (o ≡ Less) ⊎ (o ≡ Equal) → (rest : List Term)
    → BeginsWith x (by_order o (x ∷ u ∷ more) (u ∷ more) rest)
put_first x u more Less e h rest = record { others = u ∷ more; is = refl }
put_first x u more Equal e h rest = record { others = more; is = ap (λ (y : Term). y ∷ more) (sym (only_equal_terms_tie x u e)) }
put_first x u more Greater e (inl h) rest = cc
put_first x u more Greater e (inr h) rest = cc

first_below : (t u : Triple) (more : List Triple) → IsAscending triple_cmp (t ∷ u ∷ more) → (term_cmp t.subject u.subject ≡ Less) ⊎ (term_cmp t.subject u.subject ≡ Equal)
first_below t u more a = then_less (term_cmp t.subject u.subject) _ (head_below triple_cmp t (u ∷ more) a).0

abbrev put_in : Term → List Term → List Term
put_in = Rattle.owl_list.specs.Ascending.put term_cmp

begins : (t : Triple) (more : List Triple) → IsAscending triple_cmp (t ∷ more) → BeginsWith t.subject (subjects_of (t ∷ more))
begins t [] a = record { others = []; is = refl }
begins t (u ∷ more) a =
    let next = begins u more (tail_ascends triple_cmp t (u ∷ more) a) in
    subst (λ (xs : List Term). BeginsWith t.subject (put_in t.subject xs)) (sym next.is)
    (put_first t.subject u.subject next.others (term_cmp t.subject u.subject) refl (first_below t u more a) (u.subject ∷ put_in t.subject next.others))

-- a subject that the next triple has too is no further one
same_subject : (t : Triple) (more : List Triple) → IsAscending triple_cmp (t ∷ more) → begins_with more t.subject ≡ true → subjects_of (t ∷ more) ≡ subjects_of more
same_subject t [] a h = cc
same_subject t (u ∷ more) a h =
    let next = begins u more (tail_ascends triple_cmp t (u ∷ more) a) in
    let tie : term_cmp t.subject u.subject ≡ Equal = subst (λ (x : Term). term_cmp t.subject x ≡ Equal) (sym (same_term u.subject t.subject h)) (tied_itself terms_total t.subject) in
    ap (put_in t.subject) next.is
    ∙ ap (λ o. by_order o (t.subject ∷ u.subject ∷ next.others) (u.subject ∷ next.others) (u.subject ∷ put_in t.subject next.others)) tie
    ∙ sym next.is

-- one that it has not stands in front
next_subject : (t : Triple) (more : List Triple) → IsAscending triple_cmp (t ∷ more) → begins_with more t.subject ≡ false → subjects_of (t ∷ more) ≡ t.subject ∷ subjects_of more
next_subject t [] a h = refl
next_subject t (u ∷ more) a h =
    let next = begins u more (tail_ascends triple_cmp t (u ∷ more) a) in
    elim (first_below t u more a) [
      | inl less ↦
          ap (put_in t.subject) next.is
          ∙ ap (λ o. by_order o (t.subject ∷ u.subject ∷ next.others) (u.subject ∷ next.others) (u.subject ∷ put_in t.subject next.others)) less
          ∙ ap (λ (xs : List Term). t.subject ∷ xs) (sym next.is)
      | inr tie ↦
          absurd (both_ways (is_same u.subject t.subject) h
          (subst (λ (x : Term). is_same x t.subject ≡ true) (only_equal_terms_tie t.subject u.subject tie) (own_term t.subject)))
    ]

labels_front : (x : Term) (xs : List Term) → labels_in (x ∷ xs) ≡ labels_in (x ∷ []) ++ labels_in xs
labels_front (Iri iri) xs = refl
labels_front (Blank label) xs = refl
labels_front (Literal literal) xs = refl

-- no label stands twice
apart_labels : (xs : List Term) → AreApart xs → AreApart (labels_in xs)
apart_labels [] a = tt
apart_labels (Iri iri ∷ xs) a = apart_labels xs a.1
apart_labels (Blank label ∷ xs) a = (λ m. a.0 (from_labels xs label m), apart_labels xs a.1)
apart_labels (Literal literal ∷ xs) a = apart_labels xs a.1

pub blank_nodes_apart : (g : List Triple) → AreApart (blank_nodes g)
unfolding blank_nodes
blank_nodes_apart g = apart_labels (subjects_of g) (ascending_apart term_cmp terms_total (map (λ t. t.subject) g))

apart_parts : {X : Type 0} (xs ys : List X) (x : X) → AreApart (xs ++ ys) → Contains xs x → Contains ys x → ⊥
apart_parts [] ys x a m k = Rattle.owl_list.proofs.AscendingLaws.in_none x m
apart_parts (y ∷ xs) ys x a m k =
    elim (in_cases y xs x m) [
      | inl e ↦ a.0 (subst (λ z. Contains (xs ++ ys) z) (sym e) (Contains-append_right xs ys x k))
      | inr n ↦ apart_parts xs ys x a.1 n k
    ]

-- what the walk has passed is in the table, and the rest is ahead
pub record IsWalked (g rest : List Triple) (entries : List (List ℕ × Role)) : Type 0 where
  pub passed : List (List ℕ)
  pub split : blank_nodes g ≡ passed ++ blank_nodes rest
  pub are : entries ≡ map (with_role g) passed
  pub none : HoldsForNone (IsMixed g) passed
  pub ascends : IsAscending triple_cmp rest

pub walk_begins : (g : List Triple) (entries : List (List ℕ × Role)) → IsAscending triple_cmp g → entries ≡ [] → IsWalked g g entries
walk_begins g entries a e = record { passed = []; split = refl; are = e; none = tt; ascends = a }

pub walk_passes : {g behind : List Triple} {t : Triple} {entries : List (List ℕ × Role)} → IsWalked g (t ∷ behind) entries → begins_with behind t.subject ≡ true → IsWalked g behind entries
unfolding blank_nodes
walk_passes {g} {behind} {t} w h = record {
  passed = w.passed;
  split = w.split ∙ ap (λ (xs : List Term). w.passed ++ labels_in xs) (same_subject t behind w.ascends h);
  are = w.are;
  none = w.none;
  ascends = tail_ascends triple_cmp t behind w.ascends;
}

all_joined : {X : Type 0} (P : X → Type 0) (xs ys : List X) → AllByRecursion P xs → AllByRecursion P ys → AllByRecursion P (xs ++ ys)
all_joined P [] ys h k = k
all_joined P (x ∷ xs) ys h k = (h.0, all_joined P xs ys h.1 k)

splits : {g behind : List Triple} {t : Triple} {entries : List (List ℕ × Role)} → (w : IsWalked g (t ∷ behind) entries) → begins_with behind t.subject ≡ false
    → blank_nodes g ≡ w.passed ++ (labels_in (t.subject ∷ []) ++ blank_nodes behind)
unfolding blank_nodes
splits {g} {behind} {t} w h =
    w.split ∙ ap (λ (xs : List Term). w.passed ++ labels_in xs) (next_subject t behind w.ascends h)
    ∙ ap (λ (ls : List (List ℕ)). w.passed ++ ls) (labels_front t.subject (subjects_of behind))

pub walk_adds : {g behind : List Triple} {t : Triple} {entries more : List (List ℕ × Role)} → IsWalked g (t ∷ behind) entries → begins_with behind t.subject ≡ false
    → more ≡ entries ++ map (with_role g) (labels_in (t.subject ∷ [])) → HoldsForNone (IsMixed g) (labels_in (t.subject ∷ [])) → IsWalked g behind more
walk_adds {g} {behind} {t} w h e none = record {
  passed = w.passed ++ labels_in (t.subject ∷ []);
  split = splits w h ∙ sym (append_assoc w.passed (labels_in (t.subject ∷ [])) (blank_nodes behind));
  are = e ∙ ap (λ (es : List (List ℕ × Role)). es ++ map (with_role g) (labels_in (t.subject ∷ []))) w.are
      ∙ sym (map-append (with_role g) w.passed (labels_in (t.subject ∷ [])));
  none = all_joined (λ l. IsMixed g l → ⊥) w.passed (labels_in (t.subject ∷ [])) w.none none;
  ascends = tail_ascends triple_cmp t behind w.ascends;
}

-- the names of the table are the labels that were passed
pub names_are : (g : List Triple) (labels : List (List ℕ)) → map (λ entry. entry.0) (map (with_role g) labels) ≡ labels
names_are g [] = refl
names_are g (l ∷ labels) = ap (λ ls. l ∷ ls) (names_are g labels)

only_label : (x : Term) (label : List ℕ) → x ≡ Blank label → Contains (labels_in (x ∷ [])) label
only_label x label e = subst (λ (y : Term). Contains (labels_in (y ∷ [])) label) (sym e) (in_head label [])

pub walk_is_new : {g behind : List Triple} {t : Triple} {entries : List (List ℕ × Role)} → IsWalked g (t ∷ behind) entries → begins_with behind t.subject ≡ false → IsNew entries t.subject
walk_is_new {g} {behind} {t} w h label is m =
    apart_parts w.passed (labels_in (t.subject ∷ []) ++ blank_nodes behind) label (subst AreApart (splits w h) (blank_nodes_apart g))
    (subst (λ (ls : List (List ℕ)). Contains ls label) (names_are g w.passed) (subst (λ es. Contains (map (λ entry. entry.0) es) label) w.are m))
    (Contains-append_left (labels_in (t.subject ∷ [])) (blank_nodes behind) label (only_label t.subject label is))

pub walk_ends : {g : List Triple} {entries : List (List ℕ × Role)} → IsWalked g [] entries → (entries ≡ table_of g) × HaveOneRole g
unfolding table_of blank_nodes
walk_ends {g} w =
    let all = w.split ∙ append-nil w.passed in
    (w.are ∙ ap (map (with_role g)) (sym all), subst (HoldsForNone (IsMixed g)) (sym all) w.none)

stops_at : {g behind : List Triple} {t : Triple} {entries : List (List ℕ × Role)} → (w : IsWalked g (t ∷ behind) entries) → begins_with behind t.subject ≡ false
    → (label : List ℕ) → t.subject ≡ Blank label → blank_nodes g ≡ w.passed ++ label ∷ blank_nodes behind
stops_at {g} {behind} {t} w h label is = splits w h ∙ ap (λ (y : Term). w.passed ++ (labels_in (y ∷ []) ++ blank_nodes behind)) is

pub walk_stops : {g behind : List Triple} {t : Triple} {entries : List (List ℕ × Role)} → IsWalked g (t ∷ behind) entries → begins_with behind t.subject ≡ false
    → (fault : NodeFault) → IsMixedFault g t.subject fault → IsNodeFault g fault
walk_stops {g} {behind} w h (Mixed label) f =
    record { before = w.passed; after = blank_nodes behind; split = stops_at w h label f.0; none = w.none; holds = f.1 }
walk_stops w h (BadList label) f = absurd f
walk_stops w h (Cycle label) f = absurd f
walk_stops w h (BadNode label) f = absurd f
walk_stops w h Memory f = tt

-- a new name goes last
differs : (a b : List ℕ) → (b ≡ a → ⊥) → text_eq a b ≡ false
differs a b n = false_from_ne_true (text_eq a b) (λ h. n (sym ((bytes_eq-Decides a b).0 h)))

pub insert_new : (entries : List (List ℕ × Role)) (label : List ℕ) (r : Role) → (Contains (map (λ entry. entry.0) entries) label → ⊥)
    → insert_entry text_eq entries label r ≡ entries ++ (label, r) ∷ []
insert_new [] label r none = refl
insert_new (e ∷ entries) label r none =
    cond-false (text_eq label e.0) ((e.0, r) ∷ entries) (e ∷ insert_entry text_eq entries label r)
    (differs label e.0 (λ is. none (subst (λ l. Contains (e.0 ∷ map (λ entry. entry.0) entries) l) is (in_head e.0 (map (λ entry. entry.0) entries)))))
    ∙ ap (λ es. e ∷ es) (insert_new entries label r (λ m. none (in_tail e.0 (map (λ entry. entry.0) entries) label m)))

-- a node with its triples

role_here : (g nodes : List Triple) (label : List ℕ) → nodes ≡ of_subject g (Blank label) → first_role (roles_in nodes) ≡ role_of g (Blank label)
unfolding roles_in roles_of
role_here g nodes label e = ap (λ ts. first_role (roles_in ts)) e

mixed_here : (g nodes : List Triple) (label : List ℕ) → nodes ≡ of_subject g (Blank label) → nat_le 2 (length (roles_in nodes)) ≡ is_mixed g (Blank label)
unfolding roles_in roles_of
mixed_here g nodes label e = ap (λ ts. nat_le 2 (length (roles_in ts))) e

pub mixed_node : (g : List Triple) (x : Term) (label copy : List ℕ) (nodes : List Triple) (mixed : Bool) → x ≡ Blank label → copy ≡ label → nodes ≡ of_subject g x
    → mixed ≡ nat_le 2 (length (roles_in nodes)) → mixed ≡ true → (x ≡ Blank copy) × IsMixed g copy
mixed_node g x label copy nodes mixed is e about told h = (
  is ∙ ap Blank (sym e),
  subst (IsMixed g) (sym e) (sym (mixed_here g nodes label (about ∙ ap (of_subject g) is)) ∙ sym told ∙ h),
)

pub one_role_node : (g : List Triple) (x : Term) (label : List ℕ) (nodes : List Triple) (mixed : Bool) → x ≡ Blank label → nodes ≡ of_subject g x
    → mixed ≡ nat_le 2 (length (roles_in nodes)) → mixed ≡ false → HoldsForNone (IsMixed g) (labels_in (x ∷ []))
one_role_node g x label nodes mixed is about told h =
    subst (λ (y : Term). HoldsForNone (IsMixed g) (labels_in (y ∷ []))) (sym is)
    (λ m. both_ways mixed h (told ∙ mixed_here g nodes label (about ∙ ap (of_subject g) is) ∙ m), tt)

pub added : (g : List Triple) (x : Term) (label copy : List ℕ) (nodes : List Triple) (r : Role) (entries new : List (List ℕ × Role)) → x ≡ Blank label → copy ≡ label
    → nodes ≡ of_subject g x → r ≡ first_role (roles_in nodes) → IsNew entries x → new ≡ insert_entry text_eq entries copy r
    → new ≡ entries ++ map (with_role g) (labels_in (x ∷ []))
added g x label copy nodes r entries new is e about told none inserted =
    inserted ∙ insert_new entries copy r (none copy (is ∙ ap Blank (sym e)))
    ∙ (λ i. entries ++ (e i, (told ∙ role_here g nodes label (about ∙ ap (of_subject g) is)) i) ∷ [])
    ∙ ap (λ (y : Term). entries ++ map (with_role g) (labels_in (y ∷ []))) (sym is)

pub ahead : {g rest : List Triple} {entries : List (List ℕ × Role)} → IsWalked g rest entries → {t : Triple} {behind : List Triple} → rest ≡ t ∷ behind → IsWalked g (t ∷ behind) entries
ahead {g} {rest} {entries} w e = subst (λ (ts : List Triple). IsWalked g ts entries) e w

walked : (g : List Triple) (entries : List (List ℕ × Role)) (rest : List Triple) → IsWalked g rest entries → length rest ≡ 0 → IsWalked g [] entries
walked g entries [] w e = w
walked g entries (t ∷ rest) w e = absurd (omega arith)

pub walked_all : {g rest : List Triple} {entries : List (List ℕ × Role)} → IsWalked g rest entries → length rest ≡ 0 → IsWalked g [] entries
walked_all {g} {rest} {entries} w e = walked g entries rest w e
