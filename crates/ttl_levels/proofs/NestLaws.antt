-- What nestable nodes, round nodes and levels are.
use Rattle.std.specs.Prelude.{◌≡◌, ◌&&◌, ◌+◌, ℕ, zero, suc, Bool, true, false, cond, nat_eq, List, [], ◌∷◌, Contains, length, IfOk, Result, Ok, Err, Some, None, slice_get, slice_index}
use Rattle.std.specs.List.{list_all}
use Rattle.std.specs.Str.{bytes_eq}
use Rattle.std.proofs.Common.{inl, inr, refl, sym, ap, ◌∙◌, subst, arith}
use Rattle.std.proofs.lemmas.Bool.{and_from, and_parts, both_ways, cases_Bool, eqb-true}
use Rattle.std.proofs.lemmas.Option.{same_Some}
use Rattle.std.proofs.lemmas.Slice.Eq.{bytes_eq-Decides}
use Rattle.owl_list.proofs.AscendingLaws.{in_cases, in_head, in_none, in_tail}
use Rattle.owl_list.proofs.FilterLaws.{from_filter, in_filter}
use Rattle.rdf_graph.specs.declared.term.Term.{Term}
use Rattle.rdf_graph.specs.declared.term.Term.TheVariants.{Blank}
use Rattle.rdf_graph.specs.declared.triple.Triple.{Triple}
use Rattle.rdf_meaning.specs.declared.role.Role.{Role}
use Rattle.rdf_meaning.specs.declared.role.Role.TheVariants as role
use Rattle.rdf_meaning.specs.Nodes.{is_same, is_structural, of_subject, role_of}
use Rattle.rdf_roles.proofs.WayLaws.{IsNumbered, numbered_by_role}
use Rattle.rdf_roles.specs.Tables.{IsNode, LeadsBetween, blank_nodes}
use Rattle.ttl_levels.specs.Nested.{HasCells, IsNestableCell, IsRound, first_iri, is_nestable, is_part, named_by, rest_iri}
use Rattle.ttl_levels.specs.NestTables.{AreKnownBelow, IsCellCount, IsCellCountAt, IsCountBefore, IsValueOf, cell_rest}
use Rattle.ttl_levels.specs.NestTables.IsValueOf.{of_node, of_none}
use Rattle.ttl_levels.proofs.NamedLaws.{same_is, same_itself}
use Rattle.ttl_levels.proofs.NestableLaws.{part_has_role}

-- tests over lists

all_pass : {X : Type 0} (f : X → Bool) (xs : List X) → list_all f xs ≡ true → (x : X) → Contains xs x → f x ≡ true
all_pass f [] h x m = absurd (in_none x m)
all_pass f (y ∷ ys) h x m = elim (in_cases y ys x m) as (λ _. f x ≡ true) [
  | inl e ↦ ap f (sym e) ∙ (and_parts (f y) (list_all f ys) h).0
  | inr k ↦ all_pass f ys (and_parts (f y) (list_all f ys) h).1 x k
]

only_one : (ts : List Triple) → length ts ≡ 1 → (t : Triple) × (ts ≡ t ∷ [])
only_one [] e = absurd (omega (arith, e))
only_one (t ∷ []) e = (t, refl)
only_one (t ∷ u ∷ ts) e = absurd (omega (arith, e))

-- what is known of a nestable node
pub record IsNestableNode (g : List Triple) (x : Term) : Type 0 where
  pub part : is_part (role_of g x) ≡ true
  pub triple : Triple
  pub only : named_by g x ≡ triple ∷ []
  pub inside : Contains g triple
  pub object : triple.object ≡ x
  pub own : (t : Triple) → Contains g t → t.subject ≡ x → is_structural g t ≡ true

pub namer_inside : (g : List Triple) (x : Term) (t : Triple) → named_by g x ≡ t ∷ [] → Contains g t × (t.object ≡ x)
namer_inside g x t only =
    let kept = from_filter (λ (u : Triple). is_same u.object x) g t (subst (λ (ts : List Triple). Contains ts t) (sym only) (in_head t [])) in
    (kept.inside, same_is t.object x kept.passes)

pub of_its_subject : (g : List Triple) (x : Term) (t : Triple) → Contains g t → t.subject ≡ x → Contains (of_subject g x) t
of_its_subject g x t m s = in_filter (λ (u : Triple). is_same u.subject x) g t m (subst (λ (y : Term). is_same t.subject y ≡ true) s (same_itself t.subject))

pub own_triple : (g : List Triple) (x : Term) (t : Triple) → Contains (of_subject g x) t → Contains g t × (t.subject ≡ x)
own_triple g x t m = let kept = from_filter (λ (u : Triple). is_same u.subject x) g t m in (kept.inside, same_is t.subject x kept.passes)

pub nestable_node : (g : List Triple) (x : Term) → is_nestable g x ≡ true → IsNestableNode g x
unfolding is_nestable
nestable_node g x h =
    let parts = and_parts (is_part (role_of g x)) (nat_eq (length (named_by g x)) 1 && list_all (is_structural g) (of_subject g x)) h in
    let more = and_parts (nat_eq (length (named_by g x)) 1) (list_all (is_structural g) (of_subject g x)) parts.1 in
    let one = only_one (named_by g x) (eqb-true (length (named_by g x)) 1 more.0) in
    let inside = namer_inside g x one.0 one.1 in
    record {
      part = parts.0;
      triple = one.0;
      only = one.1;
      inside = inside.0;
      object = inside.1;
      own = λ t m s. all_pass (is_structural g) (of_subject g x) more.1 t (of_its_subject g x t m s);
    }

pub named_otherwise : (g : List Triple) (x : Term) → nat_eq (length (named_by g x)) 1 ≡ false → is_nestable g x ≡ false
unfolding is_nestable
named_otherwise g x h = by_part (is_part (role_of g x))
  where
    by_part : (b : Bool) → (b && (nat_eq (length (named_by g x)) 1 && list_all (is_structural g) (of_subject g x))) ≡ false
    by_part false = refl
    by_part true = ap (λ (c : Bool). c && list_all (is_structural g) (of_subject g x)) h

pub nestable_number : (g : List Triple) (x : Term) → is_nestable g x ≡ true → IsNumbered g x
nestable_number g x h = numbered_by_role g x (part_has_role (role_of g x) (nestable_node g x h).part)

no_note_part : (r : Role) → is_part r ≡ true → r ≡ role.Note → ⊥
no_note_part r part is = let never : is_part role.Note ≡ true = subst (λ (q : Role). is_part q ≡ true) is part in both_ways false refl never

-- an own triple of a nestable node leads to its object
pub leads_down : (g : List Triple) (x : Term) (t : Triple) (i j : ℕ) → is_nestable g x ≡ true → Contains g t → t.subject ≡ x → IsNode g x i → IsNode g t.object j → LeadsBetween g i j
leads_down g x t i j h m s from to =
    let node = nestable_node g x h in
    record {
      from = from.label;
      to = to.label;
      from_at = from.at;
      to_at = to.at;
      leads =
          inl (record {
            triple = t;
            inside = m;
            subject = s ∙ from.is;
            object = to.is;
            structural = node.own t m s;
            no_note = λ e. no_note_part (role_of g x) node.part (ap (role_of g) from.is ∙ e);
          });
    }

-- the one triple of which a node is the object

same_first : (t u : Triple) → t ∷ [] ≡ u ∷ [] → t ≡ u
same_first t u e = cc

pub one_namer : (g : List Triple) (x : Term) (t u : Triple) → is_nestable g x ≡ true → Contains g t → t.object ≡ x → Contains g u → u.object ≡ x → t ≡ u
one_namer g x t u h mt et mu eu =
    let node = nestable_node g x h in
    let only = λ (v : Triple) (m : Contains g v) (e : v.object ≡ x).
    let here : Contains (named_by g x) v = in_filter (λ (w : Triple). is_same w.object x) g v m (subst (λ (y : Term). is_same v.object y ≡ true) e (same_itself v.object)) in
    let there : Contains (node.triple ∷ []) v = subst (λ (ts : List Triple). Contains ts v) node.only here in
    elim (in_cases node.triple [] v there) as (λ _. node.triple ≡ v) [ inl is ↦ is | inr k ↦ absurd (in_none v k) ] in
    sym (only t mt et) ∙ only u mu eu

-- cells

pub round_is_nestable : (g : List Triple) (x : Term) → IsRound g x → is_nestable g x ≡ true
round_is_nestable g x r = r.1.2.nestable

pub cell_rest_is : (g : List Triple) (x first rest : Term) → IsNestableCell g x first rest → cell_rest (of_subject g x) ≡ Some rest
cell_rest_is g x first rest cell =
    ap cell_rest cell.triples
    ∙ ap (λ (b : Bool). cond b (Some rest) None) (and_from (bytes_eq first_iri first_iri) (bytes_eq rest_iri rest_iri) ((bytes_eq-Decides first_iri first_iri).1 refl) ((bytes_eq-Decides rest_iri rest_iri).1 refl))

some_if : {A : Type 0} (b : Bool) (x y : A) → cond b (Some x) None ≡ Some y → (b ≡ true) × (x ≡ y)
some_if true x y e = (refl, same_Some x y e)
some_if false x y e = absurd (cc)

record IsCellShape (ts : List Triple) (rest : Term) : Type 0 where
  first_triple : Triple
  rest_triple : Triple
  are : ts ≡ first_triple ∷ rest_triple ∷ []
  first : first_triple.predicate ≡ first_iri
  other : rest_triple.predicate ≡ rest_iri
  object : rest_triple.object ≡ rest

cell_shape : (ts : List Triple) (rest : Term) → cell_rest ts ≡ Some rest → IsCellShape ts rest
cell_shape [] rest e = absurd (cc)
cell_shape (t ∷ []) rest e = absurd (cc)
cell_shape (t ∷ u ∷ []) rest e =
    let found = some_if (bytes_eq t.predicate first_iri && bytes_eq u.predicate rest_iri) u.object rest e in
    let both = and_parts (bytes_eq t.predicate first_iri) (bytes_eq u.predicate rest_iri) found.0 in
    record { first_triple = t; rest_triple = u; are = refl; first = (bytes_eq-Decides t.predicate first_iri).0 both.0; other = (bytes_eq-Decides u.predicate rest_iri).0 both.1; object = found.1 }
cell_shape (t ∷ u ∷ v ∷ ts) rest e = absurd (cc)

pub triple_is : (t : Triple) (s : Term) (p : List ℕ) (o : Term) → t.subject ≡ s → t.predicate ≡ p → t.object ≡ o → t ≡ record { subject = s; predicate = p; object = o }
triple_is t s p o es ep eo =
    ap (λ (x : Term). record { subject = x; predicate = t.predicate; object = t.object }) es
    ∙ ap (λ (x : List ℕ). record { subject = s; predicate = x; object = t.object }) ep
    ∙ ap (λ (x : Term). record { subject = s; predicate = p; object = x }) eo

cell_by_triples : (g : List Triple) (x rest : Term) → is_nestable g x ≡ true → role_of g x ≡ role.List → cell_rest (of_subject g x) ≡ Some rest → (first : Term) × IsNestableCell g x first rest
cell_by_triples g x rest h list e =
    let shape = cell_shape (of_subject g x) rest e in
    let t = shape.first_triple in
    let u = shape.rest_triple in
    let t_own = own_triple g x t (subst (λ (ts : List Triple). Contains ts t) (sym shape.are) (in_head t (u ∷ []))) in
    let u_own = own_triple g x u (subst (λ (ts : List Triple). Contains ts u) (sym shape.are) (in_tail t (u ∷ []) u (in_head u []))) in (
      t.object,
      record {
        nestable = h;
        list = list;
        triples =
            shape.are
            ∙ ap (λ (v : Triple). v ∷ u ∷ []) (triple_is t x first_iri t.object t_own.1 shape.first refl)
            ∙ ap (λ (v : Triple). record { subject = x; predicate = first_iri; object = t.object } ∷ v ∷ []) (triple_is u x rest_iri rest u_own.1 shape.other shape.object);
      },
    )

module _ (g : List Triple) (x : Term) where
  pub not_round_by_nestable : is_nestable g x ≡ false → IsCellCount g x 0
  not_round_by_nestable h = λ r. both_ways (is_nestable g x) h (round_is_nestable g x r)

  pub not_round_by_role : (role_of g x ≡ role.List → ⊥) → IsCellCount g x 0
  not_round_by_role h = λ r. h r.1.2.list

  pub not_round_by_triples : cell_rest (of_subject g x) ≡ None → IsCellCount g x 0
  not_round_by_triples h = λ r. let e : None ≡ Some r.1.1 = sym h ∙ cell_rest_is g x r.1.0 r.1.1 r.1.2 in cc

  pub count_of_cell : (rest : Term) (n : ℕ) → is_nestable g x ≡ true → role_of g x ≡ role.List → cell_rest (of_subject g x) ≡ Some rest → IsCountBefore g rest n → IsCellCount g x n
  count_of_cell rest zero h list e none = λ r.
      let same : rest ≡ r.1.1 = same_Some rest r.1.1 (sym e ∙ cell_rest_is g x r.1.0 r.1.1 r.1.2) in
      none r.0 (subst (λ (y : Term). HasCells g r.0 y) (sym same) r.1.3)
  count_of_cell rest (suc n) h list e cells = let cell = cell_by_triples g x rest h list e in (cell.0, rest, cell.1, cells)

pub count_before_one : (g : List Triple) (rest : Term) (n m : ℕ) → (n ≡ 0 → ⊥) → m ≡ n + 1 → IsCellCount g rest n → IsCountBefore g rest m
count_before_one g rest zero m some e h = absurd (some refl)
count_before_one g rest (suc n) m some e h = let next : m ≡ suc (suc n) = omega (arith, e) in subst (IsCountBefore g rest) (sym next) h

-- what stands at the number of the rest of a cell is its count
pub value_counts : (g : List Triple) (cells : List ℕ) (x rest : Term) (number n : ℕ) → AreKnownBelow g cells number → is_nestable g x ≡ true → IsNode g x number → cell_rest (of_subject g x) ≡ Some rest
    → IsValueOf g cells rest n → IsCellCount g rest n
value_counts g cells x rest number _ known h node e (of_node next is) =
    let shape = cell_shape (of_subject g x) rest e in
    let u = shape.rest_triple in
    let own = own_triple g x u (subst (λ (ts : List Triple). Contains ts u) (sym shape.are) (in_tail shape.first_triple (u ∷ []) u (in_head u []))) in
    let leads = leads_down g x u number next h own.0 own.1 node (subst (λ (y : Term). IsNode g y next) (sym shape.object) is) in
    subst (λ (y : Term). IsCellCount g y (slice_index cells next)) (sym is.is) (known next leads is.label is.at)
value_counts g cells x rest number _ known h node e (of_none none) =
    not_round_by_nestable g rest (elim (cases_Bool (is_nestable g rest)) as (λ _. is_nestable g rest ≡ false) [
      | inl t ↦ let numbered = nestable_number g rest t in absurd (none numbered.number (record { label = numbered.label; is = numbered.is; at = numbered.at }))
      | inr f ↦ f
    ])

-- the count of the node with the number, by that of its rest
pub counted_at : {E : Type 0} (g : List Triple) (cells : List ℕ) (number : ℕ) (t : Triple) (rest : Term) (n : ℕ) (result : Result ℕ E) → AreKnownBelow g cells number
    → ((label : List ℕ) → slice_get (blank_nodes g) number ≡ Some label → named_by g (Blank label) ≡ t ∷ []) → is_nestable g t.object ≡ true → role_of g t.object ≡ role.List → cell_rest (of_subject g t.object) ≡ Some rest
    → IsValueOf g cells rest n → (IsCellCount g rest n → IfOk result (λ m. IsCountBefore g rest m)) → IfOk result (IsCellCountAt g number)
counted_at g cells number t rest n (Err fault) known only h list e value counts = tt
counted_at g cells number t rest n (Ok m) known only h list e value counts = λ label at.
    let is = (namer_inside g (Blank label) t (only label at)).1 in
    let node : IsNode g t.object number = record { label = label; is = is; at = at } in
    let of_rest = value_counts g cells t.object rest number n known h node e value in
    subst (λ (x : Term). IsCellCount g x m) is (count_of_cell g t.object rest m h list e (counts of_rest))
