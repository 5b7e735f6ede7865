-- Ways from number to number are ways from node to node.
use Rattle.std.specs.Prelude.{◌≡◌, ◌↔◌, ◌⊎◌, ℕ, ◌&&◌, true, false, List, Contains, Some, length, slice_get}
use Rattle.std.proofs.Common.{inl, inr, refl, sym, ap, ◌∙◌, subst}
use Rattle.std.proofs.lemmas.Bool.{and_parts, both_ways}
use Rattle.std.proofs.lemmas.Option.{same_Some, slice_get-get_or}
use Rattle.directed_graphs.specs.Cycles.{IsFirstOnCycle, IsOnCycle, IsOrder, Leads, one_more, one_step}
use Rattle.directed_graphs.proofs.CycleLaws.{leads_further, order_is_clear}
use Rattle.rdf_graph.specs.declared.term.Term.{Term}
use Rattle.rdf_graph.specs.declared.term.Term.TheVariants.{Iri, Blank, Literal}
use Rattle.rdf_graph.specs.declared.triple.Triple.{Triple}
use Rattle.rdf_meaning.specs.declared.role.Role.{Role}
use Rattle.rdf_meaning.specs.declared.role.Role.TheVariants as role
use Rattle.rdf_meaning.specs.Nodes.{is_blank, is_own, is_role, is_structural, nodes_of, role_of, subjects_of, words_of}
use Rattle.rdf_meaning.proofs.NodeLaws.{nodes_are}
use Rattle.owl_list.proofs.FilterLaws.{from_filter}
use Rattle.rdf_meaning.specs.Statements.{InSteps, IsDirectlyBelow, IsDirectlyNotedUnder}
use Rattle.rdf_meaning.specs.Statements as ways
use Rattle.rdf_faults.specs.Faults.{IsCyclic}
use Rattle.rdf_faults.specs.Firsts.{IsFirst}
use Rattle.rdf_roles.proofs.FirstLaws.{first_at, holds_for_none}
use Rattle.rdf_roles.proofs.NodeLaws.{blank_nodes_are}
use Rattle.rdf_roles.specs.Refusals.{HaveNoCycle}
use Rattle.rdf_roles.specs.Tables.{AreEdges, LeadsTo, blank_nodes}

-- a number of the term
pub record IsNumbered (g : List Triple) (x : Term) : Type 0 where
  pub number : ℕ
  pub label : List ℕ
  pub is : x ≡ Blank label
  pub at : slice_get (blank_nodes g) number ≡ Some label

in_place : {X : Type 0} (xs : List X) (x : X) → Contains xs x → (k : ℕ) × (slice_get xs k ≡ Some x)
in_place xs x m = (m.0, slice_get-get_or xs m.0 x m.1 ∙ ap Some m.2)

numbered : (g : List Triple) (x : Term) → is_blank x ≡ true → Contains (subjects_of g) x → IsNumbered g x
numbered g (Iri iri) b m = cc
numbered g (Blank label) b m =
    let place = in_place (blank_nodes g) label ((blank_nodes_are g label).1 m) in
    record { number = place.0; label = label; is = refl; at = place.1 }
numbered g (Literal literal) b m = cc

-- a node that is no individual has a number
pub numbered_by_role : (g : List Triple) (x : Term) → (role_of g x ≡ role.Individual → ⊥) → IsNumbered g x
unfolding nodes_of
numbered_by_role g x n =
    let kept = from_filter (λ y. is_blank y && is_role (role_of g x) (role_of g y)) (subjects_of g) x ((nodes_are g (role_of g x) x n).1 refl) in
    numbered g x (and_parts (is_blank x) (is_role (role_of g x) (role_of g x)) kept.passes).0 kept.inside

-- no triple is an individual's own
own_of_none : (t : Triple) → is_own role.Individual t ≡ false
unfolding words_of
own_of_none t = refl

pub structural_node : (g : List Triple) (t : Triple) → is_structural g t ≡ true → role_of g t.subject ≡ role.Individual → ⊥
unfolding is_structural
structural_node g t own e = both_ways (is_own (role_of g t.subject) t) (ap (λ r. is_own r t) e ∙ own_of_none t) own

note_differs : (g : List Triple) (x : Term) → role_of g x ≡ role.Note → role_of g x ≡ role.Individual → ⊥
note_differs g x e f = let same : role.Note ≡ role.Individual = sym e ∙ f in cc

-- so has each term from which a step leads
leading : (g : List Triple) (y x : Term) → LeadsTo g x y → IsNumbered g x
leading g y x (inl b) = subst (IsNumbered g) b.subject (numbered_by_role g b.triple.subject (structural_node g b.triple b.structural))
leading g y x (inr n) = numbered_by_role g x (note_differs g x n.under)

abbrev pub Down : List Triple → Term → Term → Type 0
Down g y x = LeadsTo g x y

steps_further : {step : Term → Term → Type 0} (y z x : Term) → InSteps step y z → step z x → InSteps step y x
steps_further y z x (ways.one_step _ _ s) last = ways.one_more y z x s (ways.one_step z x last)
steps_further y z x (ways.one_more _ w _ s more) last = ways.one_more y w x s (steps_further w z x more last)

-- ways of numbers as ways of nodes
down : (g : List Triple) (edges : List (List ℕ)) → AreEdges g edges → (i j : ℕ) → Leads edges i j → (from to : List ℕ) → slice_get (blank_nodes g) i ≡ Some from
    → slice_get (blank_nodes g) j ≡ Some to → InSteps (Down g) (Blank to) (Blank from)
down g edges are i j (one_step _ _ m) from to at_i at_j =
    let b = (are.leads i j).0 m in
    ways.one_step (Blank to) (Blank from)
    (subst (λ l. LeadsTo g (Blank l) (Blank to)) (same_Some b.from from (sym b.from_at ∙ at_i))
    (subst (λ l. LeadsTo g (Blank b.from) (Blank l)) (same_Some b.to to (sym b.to_at ∙ at_j)) b.leads))
down g edges are i j (one_more _ n _ m more) from to at_i at_j =
    let b = (are.leads i n).0 m in
    steps_further (Blank to) (Blank b.to) (Blank from) (down g edges are n j more b.to to b.to_at at_j)
    (subst (λ l. LeadsTo g (Blank l) (Blank b.to)) (same_Some b.from from (sym b.from_at ∙ at_i)) b.leads)

up : (g : List Triple) (edges : List (List ℕ)) → AreEdges g edges → (y x : Term) → InSteps (Down g) y x → (i j : ℕ) (from to : List ℕ) → x ≡ Blank from → y ≡ Blank to
    → slice_get (blank_nodes g) i ≡ Some from → slice_get (blank_nodes g) j ≡ Some to → Leads edges i j
up g edges are y x (ways.one_step _ _ s) i j from to e f at_i at_j =
    one_step i j ((are.leads i j).1 (record {
      from = from;
      to = to;
      from_at = at_i;
      to_at = at_j;
      leads = subst (λ z. LeadsTo g z (Blank to)) e (subst (λ z. LeadsTo g x z) f s);
    }))
up g edges are y x (ways.one_more _ z _ s more) i j from to e f at_i at_j =
    let n = leading g y z s in
    leads_further edges i n.number j (up g edges are z x more i n.number from n.label e n.is at_i n.at)
    ((are.leads n.number j).1 (record {
      from = n.label;
      to = to;
      from_at = n.at;
      to_at = at_j;
      leads = subst (λ w. LeadsTo g w (Blank to)) n.is (subst (λ w. LeadsTo g z w) f s);
    }))

-- a way that ends at no reification goes down all along
all_below : (g : List Triple) (y x : Term) → InSteps (Down g) y x → (role_of g y ≡ role.Note → ⊥) → InSteps (IsDirectlyBelow g) y x
all_below g y x (ways.one_step _ _ (inl b)) n = ways.one_step y x b
all_below g y x (ways.one_step _ _ (inr s)) n = absurd (n s.note)
all_below g y x (ways.one_more _ z _ (inl b) more) n = ways.one_more y z x b (all_below g z x more b.no_note)
all_below g y x (ways.one_more _ z _ (inr s) more) n = absurd (n s.note)

-- and one that begins at a reification goes from reification to reification
all_noted : (g : List Triple) (y x : Term) → InSteps (Down g) y x → role_of g x ≡ role.Note → (role_of g y ≡ role.Note) × InSteps (IsDirectlyNotedUnder g) y x
all_noted g y x (ways.one_step _ _ (inl b)) e = absurd (b.no_note e)
all_noted g y x (ways.one_step _ _ (inr s)) e = (s.note, ways.one_step y x s)
all_noted g y x (ways.one_more _ z _ (inl b) more) e = absurd (b.no_note (all_noted g z x more e).0)
all_noted g y x (ways.one_more _ z _ (inr s) more) e = (s.note, ways.one_more y z x s (all_noted g z x more e).1)

later : {step other : Term → Term → Type 0} → ((y x : Term) → step y x → other y x) → (y x : Term) → InSteps step y x → InSteps other y x
later f y x (ways.one_step _ _ s) = ways.one_step y x (f y x s)
later f y x (ways.one_more _ z _ s more) = ways.one_more y z x (f y z s) (later f z x more)

note_or_not : (r : Role) → (r ≡ role.Note) ⊎ (r ≡ role.Note → ⊥)
note_or_not role.Note = inl refl
note_or_not role.List = inr (λ e. cc)
note_or_not role.Property = inr (λ e. cc)
note_or_not role.Class = inr (λ e. cc)
note_or_not role.Range = inr (λ e. cc)
note_or_not role.Facet = inr (λ e. cc)
note_or_not role.Main = inr (λ e. cc)
note_or_not role.Header = inr (λ e. cc)
note_or_not role.Individual = inr (λ e. cc)

-- a number is on a cycle exactly where its node is
pub cycles_are : (g : List Triple) (edges : List (List ℕ)) → AreEdges g edges → (i : ℕ) (label : List ℕ) → slice_get (blank_nodes g) i ≡ Some label
    → IsOnCycle edges i ↔ IsCyclic g label
cycles_are g edges are i label at = (
  λ c.
      let steps = down g edges are i i c label label at at in
      elim (note_or_not (role_of g (Blank label))) [
        | inl e ↦ inr (all_noted g (Blank label) (Blank label) steps e).1
        | inr n ↦ inl (all_below g (Blank label) (Blank label) steps n)
      ],
  λ c. elim c [
    | inl b ↦ up g edges are (Blank label) (Blank label) (later (λ y x s. inl s) (Blank label) (Blank label) b) i i label label refl refl at at
    | inr n ↦ up g edges are (Blank label) (Blank label) (later (λ y x s. inr s) (Blank label) (Blank label) n) i i label label refl refl at at
  ],
)

-- the least number on a cycle is that of the first such node
pub first_cycle : (g : List Triple) (edges : List (List ℕ)) → AreEdges g edges → (i : ℕ) (label : List ℕ) → slice_get (blank_nodes g) i ≡ Some label
    → IsFirstOnCycle edges i → IsFirst (IsCyclic g) (blank_nodes g) label
first_cycle g edges are i label at first =
    first_at (IsCyclic g) (blank_nodes g) i label (λ k h x at_k c. first.first k h ((cycles_are g edges are k x at_k).1 c)) at ((cycles_are g edges are i label at).0 first.cycle)

-- what has an order has no cycle
pub ordered_has_no_cycle : (g : List Triple) (edges : List (List ℕ)) → AreEdges g edges → (order : List ℕ) → IsOrder edges order → HaveNoCycle g
ordered_has_no_cycle g edges are order is =
    holds_for_none (IsCyclic g) (blank_nodes g) (length (blank_nodes g)) refl
    (λ k h x at c. order_is_clear edges order is k ((cycles_are g edges are k x at).1 c))
