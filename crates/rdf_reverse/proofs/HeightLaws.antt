-- Where heights of terms are small, no tree that a graph says is too deep.
use Rattle.std.specs.Prelude.{◌≡◌, ◌≤◌, ◌+◌, ℕ, zero, suc, Bool, true, false, not, cond, IsTrue, List, [], ◌∷◌, ◌++◌, Contains, Option, None, Some, option_map}
use Rattle.std.specs.List.{AllByRecursion, list_all, list_any}
use Rattle.std.specs.Map.{lookup}
use Rattle.std.proofs.Common.{arith, refl, sym, ap, subst}
use Rattle.std.proofs.lemmas.Bool.{and_parts}
use Rattle.std.proofs.lemmas.Option.{none-some, same_Some}
use Rattle.owl_characters.specs.Order.{text_eq}
use Rattle.owl_arena.specs.Shared.{deepest}
use Rattle.owl_kind.specs.Kinds.{Entity}
use Rattle.owl_kind.specs.declared.kind.Kind.{Kind}
use Rattle.owl_kind.specs.declared.kind.Kind.TheVariants as kind
use Rattle.owl_list.proofs.FilterLaws.{from_filter}
use Rattle.owl_list.proofs.AscendingLaws.{all_in, in_head, in_tail}
use Rattle.owl_tree.specs.declared.atom.Atom.TheVariants as atom
use Rattle.owl_tree.specs.declared.row.Sort.{Sort}
use Rattle.owl_tree.specs.declared.row.Sort.TheVariants as sort
use Rattle.owl_tree.specs.declared.tag.Tag.{Tag}
use Rattle.owl_tree.specs.declared.tag.Tag.TheVariants as tag
use Rattle.owl_tree.specs.Trees.{Tree, leaf, node, kids_of, depth}
use Rattle.rdf_graph.specs.declared.term.Term.{Term}
use Rattle.rdf_graph.specs.declared.term.Term.TheVariants.{Iri, Blank, Literal}
use Rattle.rdf_graph.specs.declared.triple.Triple.{Triple}
use Rattle.rdf_meaning.specs.declared.role.Role.{Role}
use Rattle.rdf_meaning.specs.declared.role.Role.TheVariants as role
use Rattle.rdf_meaning.specs.declared.row.Part.{Part}
use Rattle.rdf_meaning.specs.declared.row.Place.{Place}
use Rattle.rdf_meaning.specs.declared.row.Place.TheVariants.{At, Subject, Predicate, Object}
use Rattle.rdf_meaning.specs.declared.row.Want.{Want}
use Rattle.rdf_meaning.specs.declared.row.Want.TheVariants.{One, Many, Whole, Keys, Declared, Mark, True}
use Rattle.rdf_meaning.specs.declared.row.Site.{Site}
use Rattle.rdf_meaning.specs.declared.word.Word.{Word}
use Rattle.rdf_meaning.specs.declared.word.Word.TheVariants as word
use Rattle.rdf_meaning.specs.Denotation.{Bearer, of_node, of_triple, Denotes, by_itself, by_row, by_list, by_whole, by_keys, by_declaration, mark, is_true, Lists, no_cell, cell, AreKeys, no_key, object_key, data_key, Holds, no_parts, part, select, simple, named, anonymous, facet_pair, facets_of, or_else, named_individual, plain_iri, literal_leaf, number_leaf, declared_entity, declared_kind}
use Rattle.rdf_meaning.proofs.ListLaws.{passes, some_passes}
use Rattle.rdf_meaning.proofs.RowLaws.{at_expression, same_role}
use Rattle.rdf_meaning.specs.RowTests.{has_row, has_row_at}
use Rattle.rdf_meaning.specs.Rows.{Row, node_rows}
use Rattle.rdf_meaning.proofs.NodeLaws.{chosen_is, from_subject, same_term}
use Rattle.rdf_meaning.specs.Statements.{Annotates, no_note, note, AreSets, no_set, set, IsNoteOf, Variants, bare, noted, annotated, noters, notes, notes_of, reifies, note_tree, a_set}
use Rattle.rdf_annotations.proofs.AnnotationLaws.{noter_is}
use Rattle.rdf_statements.specs.GraphTrees.{IsTreeOf, of_node as node_tree, of_annotation, of_axiom, of_axiom_node}
use Rattle.rdf_meaning.specs.Nodes.{chosen, is_blank, is_facet, is_role, is_same, is_structural, of_subject, role_of}
use Rattle.rdf_reverse.specs.Reverse.{HasDeepTree}
use Rattle.rdf_reverse.specs.Heights.{AllRise, Rises, bounded, greatest_height, height_in, rise}

-- trees of so many levels at most
abbrev pub AreLow : ℕ → List Tree → Type 0
AreLow n ts = AllByRecursion (λ t. depth t ≤ n) ts

low_node : (t : Tag) (ts : List Tree) (n : ℕ) → AreLow n ts → depth (node t (kids_of ts)) ≤ n + 1
low_node t [] n low = omega arith
low_node t (u ∷ us) n low = let rest = low_node t us n low.1 in let first = low.0 in omega (arith, rest, first)

low_more : (n m : ℕ) (ts : List Tree) → n ≤ m → AreLow n ts → AreLow m ts
low_more n m [] h low = tt
low_more n m (t ∷ ts) h low = (let first = low.0 in omega (arith, first, h), low_more n m ts h low.1)

low_both : (n : ℕ) (ts us : List Tree) → AreLow n ts → AreLow n us → AreLow n (ts ++ us)
low_both n [] us low more = more
low_both n (t ∷ ts) us low more = (low.0, low_both n ts us low.1 more)

-- a list wanted as one kid has a level of its own
abbrev levels : Want → ℕ
levels (One s) = 0
levels (Many s least) = 0
levels (Whole t s least) = 1
levels Keys = 1
levels (Declared t) = 0
levels Mark = 0
levels True = 0

few_levels : (w : Want) → levels w ≤ 1
few_levels (One s) = omega arith
few_levels (Many s least) = omega arith
few_levels (Whole t s least) = omega arith
few_levels Keys = omega arith
few_levels (Declared t) = omega arith
few_levels Mark = omega arith
few_levels True = omega arith

abbrev is_flat : Want → Bool
is_flat (Whole t s least) = false
is_flat Keys = false
is_flat _ = true

no_levels : (w : Want) → is_flat w ≡ true → levels w ≡ 0
no_levels (One s) e = refl
no_levels (Many s least) e = refl
no_levels (Whole t s least) e = cc
no_levels Keys e = cc
no_levels (Declared t) e = refl
no_levels Mark e = refl
no_levels True e = refl

-- no list is one kid of an expression
expressions_flat : list_all (λ row. list_all (λ p. is_flat p.want) row.parts) node_rows ≡ true
unfolding node_rows
expressions_flat = refl

flat_part : (row : Row) (p : Part) → Contains node_rows row → Contains row.parts p → levels p.want ≡ 0
flat_part row p m n =
    no_levels p.want (passes (λ q. is_flat q.want) row.parts p (passes (λ r. list_all (λ q. is_flat q.want) r.parts) node_rows row expressions_flat m) n)

some_low : (u t : Tree) (n : ℕ) → depth u ≤ n → Some u ≡ Some t → depth t ≤ n
some_low u t n low e = subst (λ v. depth v ≤ n) (same_Some u t e) low

cond_low : (b : Bool) (u t : Tree) (n : ℕ) → depth u ≤ n → cond b (Some u) None ≡ Some t → depth t ≤ n
cond_low true u t n low e = some_low u t n low e
cond_low false u t n low e = absurd (none-some t e)

else_low : (a b : Option Tree) (t : Tree) → ((u : Tree) → a ≡ Some u → depth u ≤ 1) → ((u : Tree) → b ≡ Some u → depth u ≤ 1) → or_else a b ≡ Some t → depth t ≤ 1
else_low None b t first second e = second t e
else_low (Some u) b t first second e = some_low u t 1 (first u refl) e

named_low : (k : List Entity) (kind : Kind) (which : Tag) (x : Term) (t : Tree) → named k kind which x ≡ Some t → depth t ≤ 1
named_low k kind which (Iri iri) t e = cond_low _ _ t 1 (omega arith) e
named_low k kind which (Blank label) t e = absurd (none-some t e)
named_low k kind which (Literal literal) t e = absurd (none-some t e)

plain_low : (x : Term) (t : Tree) → plain_iri x ≡ Some t → depth t ≤ 1
plain_low (Iri iri) t e = some_low _ t 1 (omega arith) e
plain_low (Blank label) t e = absurd (none-some t e)
plain_low (Literal literal) t e = absurd (none-some t e)

individual_low : (x : Term) (t : Tree) → named_individual x ≡ Some t → depth t ≤ 1
individual_low (Iri iri) t e = some_low _ t 1 (omega arith) e
individual_low (Blank label) t e = absurd (none-some t e)
individual_low (Literal literal) t e = absurd (none-some t e)

literal_low : (x : Term) (t : Tree) → literal_leaf x ≡ Some t → depth t ≤ 1
literal_low (Iri iri) t e = absurd (none-some t e)
literal_low (Blank label) t e = absurd (none-some t e)
literal_low (Literal literal) t e = some_low _ t 1 (omega arith) e

number_low : (x : Term) (t : Tree) → number_leaf x ≡ Some t → depth t ≤ 1
number_low (Iri iri) t e = absurd (none-some t e)
number_low (Blank label) t e = absurd (none-some t e)
number_low (Literal literal) t e = cond_low _ _ t 1 (omega arith) e

anonymous_low : (g : List Triple) (x : Term) (t : Tree) → anonymous g x ≡ Some t → depth t ≤ 1
anonymous_low g (Iri iri) t e = absurd (none-some t e)
anonymous_low g (Blank label) t e = cond_low _ _ t 1 (omega arith) e
anonymous_low g (Literal literal) t e = absurd (none-some t e)

kind_low : (k : List Entity) (which : Tag) (iri : List ℕ) (kind : Option Kind) (t : Tree) → declared_kind k which iri kind ≡ Some t → depth t ≤ 1
kind_low k which iri None t e = absurd (none-some t e)
kind_low k which iri (Some kind.Individual) t e = cond_low _ _ t 1 (omega arith) e
kind_low k which iri (Some _) t e = cond_low _ _ t 1 (omega arith) e

declared_low : (k : List Entity) (which : Tag) (x : Term) (t : Tree) → declared_entity k which x ≡ Some t → depth t ≤ 1
unfolding declared_entity
declared_low k which (Iri iri) t e = kind_low k which iri _ t e
declared_low k which (Blank label) t e = absurd (none-some t e)
declared_low k which (Literal literal) t e = absurd (none-some t e)

-- the pair of a facet is that of one triple
record IsPairOf (fs : List Triple) (t : Tree) : Type 0 where
  triple : Triple
  only : fs ≡ triple ∷ []
  low : depth t ≤ 2

pair_of : (fs : List Triple) (t : Tree) → facet_pair fs ≡ Some t → IsPairOf fs t
pair_of [] t e = absurd (none-some t e)
pair_of (u ∷ []) t e = record { triple = u; only = refl; low = of_value u.object e }
  where
    of_value : (x : Term) → option_map (λ value. node tag.FacetPair (kids_of (leaf tag.Facet (atom.Iri u.predicate) ∷ value ∷ []))) (literal_leaf x) ≡ Some t → depth t ≤ 2
    of_value (Iri iri) f = absurd (none-some t f)
    of_value (Blank label) f = absurd (none-some t f)
    of_value (Literal literal) f = some_low _ t 2 (omega arith) f
pair_of (u ∷ v ∷ more) t e = absurd (none-some t e)

no_list : (r : Role) → has_row r ≡ true → r ≡ role.List → ⊥
no_list r h e = let never = subst (λ s. has_row s ≡ true) e h in cc

no_individual : (r : Role) → has_row r ≡ true → r ≡ role.Individual → ⊥
no_individual r h e = let never = subst (λ s. has_row s ≡ true) e h in cc

rise_is_one : (r : Role) → (r ≡ role.List → ⊥) → rise r ≡ 1
rise_is_one role.List isnt = absurd (isnt refl)
rise_is_one _ isnt = refl

property_low : (g : List Triple) (k : List Entity) (x : Term) (t : Tree) → simple g k sort.AnnotationProperty x ≡ Some t → depth t ≤ 1
unfolding simple
property_low g k x t e = named_low k _ _ x t e

value_low : (g : List Triple) (k : List Entity) (x : Term) (t : Tree) → simple g k sort.AnnotationValue x ≡ Some t → depth t ≤ 1
unfolding simple
value_low g k x t e = else_low _ _ t (plain_low x) (λ u f. else_low _ _ u (anonymous_low g x) (literal_low x) f) e

-- a reification names the subject of its triple
reified_source : (g : List Triple) (r : Term) (t : Triple) → IsTrue (reifies g r t) → Contains (chosen g r word.AnnotatedSource) t.subject
unfolding reifies
reified_source g r t is =
    let ends = and_parts _ _ is in
    let source = and_parts (list_any (is_same t.subject) (chosen g r word.AnnotatedSource)) _ ends.0 in
    let one = some_passes (is_same t.subject) (chosen g r word.AnnotatedSource) source.0 in
    subst (λ x. Contains (chosen g r word.AnnotatedSource) x) (sym (same_term t.subject one.element one.passes)) one.inside

note_subject : (g : List Triple) (r : Term) (u : Triple) → Contains (notes_of g r) u → u.subject ≡ r
unfolding notes_of
note_subject g r u m = (from_subject g r u (from_filter (λ t. not (is_structural g t)) (of_subject g r) u m).inside).1

record IsAbove (m : ℕ) : Type 0 where
  below : ℕ
  is : m ≡ below + 1

above : (m : ℕ) → 1 ≤ m → IsAbove m
above zero h = absurd (omega (arith, h))
above (suc n) h = record { below = n; is = omega arith }

module _ (g : List Triple) (k : List Entity) (h : Term → ℕ) (least : (x : Term) → 1 ≤ h x) (all : AllRise g h) where
  is_node : (x : Term) (r : Role) → role_of g x ≡ r → (r ≡ role.Individual → ⊥) → is_blank x ≡ true
  is_node (Iri iri) r e isnt = absurd (isnt (sym e))
  is_node (Blank label) r e isnt = refl
  is_node (Literal literal) r e isnt = absurd (isnt (sym e))

  object_low : (x : Term) (t : Triple) → Contains g t → t.subject ≡ x → is_blank x ≡ true → h t.object + rise (role_of g x) ≤ h x
  object_low x t m e = subst (λ y. is_blank y ≡ true → h t.object + rise (role_of g y) ≤ h y) e (all_in (Rises g h) g t all m)

  chosen_low : (x : Term) (w : Word) (z : Term) → is_blank x ≡ true → Contains (chosen g x w) z → h z + rise (role_of g x) ≤ h x
  chosen_low x w z b m =
      let c = (chosen_is g x w z).0 m in
      subst (λ y. h y + rise (role_of g x) ≤ h x) c.object (object_low x c.triple c.inside c.subject b)

  facet_low : (x : Term) (t : Tree) (b : Bool) → is_role role.Facet (role_of g x) ≡ b → cond b (facet_pair (facets_of g x)) None ≡ Some t → depth t ≤ h x
  facet_low x t false f e = absurd (none-some t e)
  facet_low x t true f e =
      let pair = pair_of (facets_of g x) t e in
      let is : role.Facet ≡ role_of g x = same_role role.Facet (role_of g x) f in
      let inside = (from_filter (λ u. is_facet u.predicate) (of_subject g x) pair.triple (subst (λ us. Contains us pair.triple) (sym pair.only) (in_head pair.triple []))).inside in
      let of = from_subject g x pair.triple inside in
      let low = object_low x pair.triple of.0 of.1 (is_node x role.Facet (sym is) (λ c. cc)) in
      let one : rise (role_of g x) ≡ 1 = ap rise (sym is) in
      let first = least pair.triple.object in
      let two = pair.low in
      omega (arith, low, one, first, two)

  simple_low : (s : Sort) (x : Term) (t : Tree) → simple g k s x ≡ Some t → depth t ≤ h x
  unfolding simple
  simple_low sort.ClassExpression x t e = let low = named_low k _ _ x t e in let one = least x in omega (arith, low, one)
  simple_low sort.Class x t e = let low = named_low k _ _ x t e in let one = least x in omega (arith, low, one)
  simple_low sort.DataRange x t e = let low = named_low k _ _ x t e in let one = least x in omega (arith, low, one)
  simple_low sort.Datatype x t e = let low = named_low k _ _ x t e in let one = least x in omega (arith, low, one)
  simple_low sort.ObjectPropertyExpression x t e = let low = named_low k _ _ x t e in let one = least x in omega (arith, low, one)
  simple_low sort.ObjectProperty x t e = let low = named_low k _ _ x t e in let one = least x in omega (arith, low, one)
  simple_low sort.DataPropertyExpression x t e = let low = named_low k _ _ x t e in let one = least x in omega (arith, low, one)
  simple_low sort.AnnotationProperty x t e = let low = named_low k _ _ x t e in let one = least x in omega (arith, low, one)
  simple_low sort.Individual x t e = let low = else_low _ _ t (individual_low x) (anonymous_low g x) e in let one = least x in omega (arith, low, one)
  simple_low sort.Iri x t e = let low = plain_low x t e in let one = least x in omega (arith, low, one)
  simple_low sort.AnnotationSubject x t e = let low = else_low _ _ t (plain_low x) (anonymous_low g x) e in let one = least x in omega (arith, low, one)
  simple_low sort.AnnotationValue x t e =
      let low = else_low _ _ t (plain_low x) (λ u f. else_low _ _ u (anonymous_low g x) (literal_low x) f) e in
      let one = least x in
      omega (arith, low, one)
  simple_low sort.Literal x t e = let low = literal_low x t e in let one = least x in omega (arith, low, one)
  simple_low sort.Number x t e = let low = number_low x t e in let one = least x in omega (arith, low, one)
  simple_low sort.FacetPair x t e = facet_low x t _ refl e
  simple_low _ x t e = absurd (none-some t e)

  -- what the places of a row of a node give is lower than the node
  part_low : (x : Term) (n : ℕ) → is_blank x ≡ true → rise (role_of g x) ≡ 1 → h x ≡ n + 1 → (place : Place) (z : Term) → select g (of_node x) place ≡ z ∷ [] → h z ≤ n
  part_low x n b one is (At w) z e =
      let low = chosen_low x w z b (subst (λ zs. Contains zs z) (sym e) (in_head z [])) in
      omega (arith, low, one, is)
  part_low x n b one is Subject z e = cc
  part_low x n b one is Predicate z e = cc
  part_low x n b one is Object z e = cc

  -- the first and the rest of a cell are no higher than the cell
  cell_low : (x first rest : Term) → role_of g x ≡ role.List → chosen g x word.First ≡ first ∷ [] → chosen g x word.Rest ≡ rest ∷ [] → (h first ≤ h x) × (h rest ≤ h x)
  cell_low x first rest l f r =
      let blank = is_node x role.List l (λ c. cc) in
      let one = chosen_low x word.First first blank (subst (λ zs. Contains zs first) (sym f) (in_head first [])) in
      let other = chosen_low x word.Rest rest blank (subst (λ zs. Contains zs rest) (sym r) (in_head rest [])) in
      (omega (arith, one), omega (arith, other))

  mutual
    denotes_low : (x : Term) (w : Want) (ts : List Tree) → Denotes g k x w ts → AreLow (h x + levels w) ts
    denotes_low _ _ _ (by_itself s x t e) = (let low = simple_low s x t e in omega (arith, low), tt)
    denotes_low _ _ _ (by_row s x row ts m a f held) =
        let has = subst (λ (site : Site). has_row_at site ≡ true) f.0 (at_expression row m) in
        let one = rise_is_one (role_of g x) (no_list (role_of g x) has) in
        let blank = is_node x (role_of g x) refl (no_individual (role_of g x) has) in
        let up = above (h x) (least x) in
        let low = holds_low (of_node x) row.parts ts held up.below
        (λ p n z e. let z_low = part_low x up.below blank one up.is p.place z e in let flat = flat_part row p m n in omega (arith, z_low, flat)) in
        let all = low_node row.tag ts up.below low in
        let is = up.is in
        (omega (arith, all, is), tt)
    denotes_low _ _ _ (by_list s x least ts n l) = low_more (h x) (h x + 0) ts (omega arith) (lists_low x s ts l)
    denotes_low _ _ _ (by_whole t s x least ts n l) = (low_node t ts (h x) (lists_low x s ts l), tt)
    denotes_low _ _ _ (by_keys x os ds n are) =
        let low = keys_low x os ds are in
        (low_node tag.ObjectKeys os (h x) low.0, (low_node tag.DataKeys ds (h x) low.1, tt))
    denotes_low _ _ _ (by_declaration t x u e) = (let low = declared_low k t x u e in let one = least x in omega (arith, low, one), tt)
    denotes_low _ _ _ (mark x) = tt
    denotes_low _ _ _ (is_true x e) = tt

    lists_low : (x : Term) (s : Sort) (ts : List Tree) → Lists g k x s ts → AreLow (h x) ts
    lists_low _ _ _ (no_cell s x e) = tt
    lists_low _ _ _ (cell s x first rest ts us l f r d more) =
        let low = cell_low x first rest l f r in
        low_both (h x) ts us (low_more (h first + 0) (h x) ts (let a = low.0 in omega (arith, a)) (denotes_low first (One s) ts d))
        (low_more (h rest) (h x) us low.1 (lists_low rest s us more))

    keys_low : (x : Term) (os ds : List Tree) → AreKeys g k x os ds → AreLow (h x) os × AreLow (h x) ds
    keys_low _ _ _ (no_key x e) = (tt, tt)
    keys_low _ _ _ (object_key x first rest ts os ds l f r d more) =
        let low = cell_low x first rest l f r in
        let others = keys_low rest os ds more in (
          low_both (h x) ts os (low_more (h first + 0) (h x) ts (let a = low.0 in omega (arith, a)) (denotes_low first (One sort.ObjectPropertyExpression) ts d))
              (low_more (h rest) (h x) os low.1 others.0),
          low_more (h rest) (h x) ds low.1 others.1,
        )
    keys_low _ _ _ (data_key x first rest ts os ds l f r d more) =
        let low = cell_low x first rest l f r in
        let others = keys_low rest os ds more in (
          low_more (h rest) (h x) os low.1 others.0,
          low_both (h x) ts ds (low_more (h first + 0) (h x) ts (let a = low.0 in omega (arith, a)) (denotes_low first (One sort.DataPropertyExpression) ts d))
              (low_more (h rest) (h x) ds low.1 others.1),
        )

    holds_low : (b : Bearer) (ps : List Part) (ts : List Tree) → Holds g k b ps ts → (n : ℕ) →
        ((p : Part) → Contains ps p → (z : Term) → select g b p.place ≡ z ∷ [] → h z + levels p.want ≤ n) → AreLow n ts
    holds_low _ _ _ (no_parts b) n fits = tt
    holds_low _ _ _ (part b p ps z ts us e d more) n fits =
        low_both n ts us (low_more (h z + levels p.want) n ts (fits p (in_head p ps) z e) (denotes_low z p.want ts d))
        (holds_low b ps us more n (λ q m. fits q (in_tail p ps q m)))

  -- Sets of annotations: a node that annotates a triple is higher than its subject, so the lower a subject is, the more levels may be in front.
  module _ (most : (x : Term) → h x ≤ greatest_height) where
    -- so many levels less than 122, twice for each step of height
    abbrev AreLowFrom : ℕ → ℕ → List Tree → Type 0
    AreLowFrom n levels_left ts = AllByRecursion (λ t. depth t + (n + n) ≤ levels_left) ts

    notes_low : (t : Tag) (ts : List Tree) (n : ℕ) → n + 1 ≤ greatest_height + 1 → AreLowFrom (n + 1) 122 ts → depth (node t (kids_of ts)) + (n + n) ≤ 121
    notes_low t [] n few low = omega (arith, few)
    notes_low t (u ∷ us) n few low = let rest = notes_low t us n few low.1 in let first = low.0 in omega (arith, rest, first)

    noter_low : (t : Triple) (r : Term) (n : ℕ) → Contains (noters g t) r → n ≤ h t.subject → n + 1 ≤ h r
    noter_low t r n m low =
        let is = noter_is g t r m in
        let blank = is_node r role.Note is.0 (λ c. cc) in
        let up = chosen_low r word.AnnotatedSource t.subject blank (reified_source g r t is.1) in
        let one : rise (role_of g r) ≡ 1 = ap rise is.0 in
        omega (arith, up, one, low)

    one_note_low : (p v : Tree) (n : ℕ) (sets : List Tree) → depth p ≤ 1 → depth v ≤ 1 → n ≤ greatest_height → AreLowFrom n 121 sets → AreLowFrom n 122 (annotated p v sets)
    one_note_low p v n [] low high few sets = tt
    one_note_low p v n (s ∷ more) low high few sets =
        (let first = sets.0 in omega (arith, first, low, high, few), one_note_low p v n more low high few sets.1)

    from_both : (n m : ℕ) (ts us : List Tree) → AreLowFrom n m ts → AreLowFrom n m us → AreLowFrom n m (ts ++ us)
    from_both n m [] us low more = more
    from_both n m (t ∷ ts) us low more = (low.0, from_both n m ts us low.1 more)

    mutual
      annotates_low : (ts : List Triple) (us : List Tree) → Annotates g k ts us → (n : ℕ) → n ≤ greatest_height → ((t : Triple) → Contains ts t → n ≤ h t.subject) →
          AreLowFrom n 122 us
      annotates_low _ _ no_note n few from = tt
      annotates_low _ _ (note t ts p v sets us ip iv vs more) n few from =
          from_both n 122 (annotated p v sets) us (one_note_low p v n sets (property_low g k _ p ip) (value_low g k _ v iv) few (variants_low t sets vs n few (from t (in_head t ts))))
          (annotates_low ts us more n few (λ u m. from u (in_tail t ts u m)))

      variants_low : (t : Triple) (sets : List Tree) → Variants g k t sets → (n : ℕ) → n ≤ greatest_height → n ≤ h t.subject → AreLowFrom n 121 sets
      variants_low _ _ (bare t e) n few from = (omega (arith, few), tt)
      variants_low _ _ (noted t r rs sets e are) n few from =
          sets_low (r ∷ rs) sets are n few (λ s m. noter_low t s n (subst (λ ss. Contains ss s) (sym e) m) from)

      sets_low : (rs : List Term) (sets : List Tree) → AreSets g k rs sets → (n : ℕ) → n ≤ greatest_height → ((r : Term) → Contains rs r → n + 1 ≤ h r) → AreLowFrom n 121 sets
      sets_low _ _ no_set n few from = tt
      sets_low _ _ (set r rs ts sets an more) n few from =
          let up = from r (in_head r rs) in
          let high = most r in
          let each = annotates_low (notes_of g r) ts an (n + 1) (omega (arith, up, high)) (λ u m. subst (λ x. n + 1 ≤ h x) (sym (note_subject g r u m)) up) in
          (notes_low tag.Notes ts n (omega (arith, few)) each, sets_low rs sets more n few (λ s m. from s (in_tail r rs s m)))

    set_low : (x : Term) (ts : List Tree) → Annotates g k (notes_of g x) ts → depth (notes ts) ≤ 121
    set_low x ts an =
        let low = notes_low tag.Notes ts 0 (omega arith) (annotates_low (notes_of g x) ts an 1 (omega arith) (λ t m. least t.subject)) in
        omega (arith, low)

    variant_low : (t : Triple) (sets : List Tree) (s : Tree) → Variants g k t sets → Contains sets s → depth s ≤ 121
    variant_low t sets s vs m =
        let low = all_in (λ u. depth u + (1 + 1) ≤ 121) sets s (variants_low t sets vs 1 (omega arith) (least t.subject)) m in
        omega (arith, low)

    kids_low : (b : Bearer) (ps : List Part) (ts : List Tree) → Holds g k b ps ts → AreLow 61 ts
    kids_low b ps ts held = holds_low b ps ts held 61 (λ p m z e. let high = most z in let few = few_levels p.want in omega (arith, high, few))

    axiom_low : (t : Tag) (s : Tree) (ts : List Tree) → depth s ≤ 121 → AreLow 61 ts → depth (node t (kids_of (s ∷ ts))) ≤ deepest
    axiom_low t s ts first kids = let rest = low_node t ts 61 kids in omega (arith, rest, first)

    note_low : (u : Triple) (a : Tree) → IsNoteOf g k u a → depth a ≤ deepest
    note_low u a is =
        let first = variant_low u is.has.sets is.annotations is.has.variants is.inside in
        let property = property_low g k _ is.has.property is.has.is_property in
        let value = value_low g k _ is.has.value is.has.is_value in
        let same = ap depth is.whole in
        omega (arith, first, property, value, same)

    tree_low : (header : Term) (t : Tree) → IsTreeOf g k header t → depth t ≤ deepest
    tree_low header _ (node_tree label t own) =
        let low = denotes_low (Blank label) (One own.sort) (t ∷ []) own.denotes in
        let first = low.0 in
        let high = most (Blank label) in
        omega (arith, first, high)
    tree_low header _ (of_annotation t (note_tree u _ m is of)) = note_low u t of
    tree_low header _ (of_annotation _ (a_set x ts is an)) = let low = set_low x ts an in omega (arith, low)
    tree_low header _ (of_axiom u t m is) =
        let first = variant_low u is.sets is.annotations is.variants is.inside in
        subst (λ v. depth v ≤ deepest) (sym is.whole) (axiom_low is.tag is.annotations is.kids first (kids_low (of_triple u) is.said.row.parts is.kids is.said.parts))
    tree_low header _ (of_axiom_node x t role is) =
        let first = set_low x is.annotations is.annotates in
        subst (λ v. depth v ≤ deepest) (sym is.whole) (axiom_low is.tag (notes is.annotations) is.kids first (kids_low (of_node x) is.said.row.parts is.kids is.said.parts))

    pub none_deep : (header : Term) → HasDeepTree g k header → ⊥
    none_deep header deep = let low = tree_low header deep.tree deep.of in let more = deep.deep in omega (arith, low, more)

-- heights by a table are from 1 on, and the greatest at most
bounded_least : (o : Option ℕ) → 1 ≤ bounded o
bounded_least None = omega arith
bounded_least (Some n) = omega arith

bounded_most : (o : Option ℕ) → bounded o ≤ greatest_height
bounded_most None = omega arith
bounded_most (Some n) = omega arith

height_least : (entries : List (List ℕ × ℕ)) (x : Term) → 1 ≤ height_in entries x
height_least entries (Iri iri) = omega arith
height_least entries (Blank label) = bounded_least (lookup (text_eq label) entries)
height_least entries (Literal literal) = omega arith

height_most : (entries : List (List ℕ × ℕ)) (x : Term) → height_in entries x ≤ greatest_height
height_most entries (Iri iri) = omega arith
height_most entries (Blank label) = bounded_most (lookup (text_eq label) entries)
height_most entries (Literal literal) = omega arith

-- a graph in which each node is as much higher as it has to be says no tree that is too deep
pub low_graph : (g : List Triple) (k : List Entity) (header : Term) (entries : List (List ℕ × ℕ)) → AllRise g (height_in entries) → HasDeepTree g k header → ⊥
low_graph g k header entries all = none_deep g k (height_in entries) (height_least entries) all (height_most entries) header
