-- That nothing is denoted where nothing is found.
use Rattle.std.specs.Prelude.{◌≡◌, ◌≤◌, ◌<◌, ◌+◌, ◌&&◌, ◌⊎◌, ℕ, Bool, true, false, cond, IsNone, IfOk, List, [], ◌∷◌, Contains, Option, None, Some, get_or, is_some, length, map}
use Rattle.std.specs.List.{AllByRecursion, list_all}
use Rattle.std.specs.declared.result.Result.{Result}
use Rattle.std.specs.declared.result.Result.TheVariants.{Ok, Err}
use Rattle.std.proofs.Common.{inl, inr, arith, refl, sym, ap, ◌∙◌, subst}
use Rattle.std.proofs.lemmas.Bool.{and_parts, or_cases}
use Rattle.std.proofs.lemmas.Bool.Decides.{leb_tells}
use Rattle.std.proofs.lemmas.Option.{none-some}
use Rattle.owl_kind.specs.Kinds.{Entity}
use Rattle.owl_list.proofs.AscendingLaws.{from_map, in_head}
use Rattle.owl_tree.specs.declared.atom.Atom.TheVariants as atom
use Rattle.owl_tree.specs.declared.row.Sort.{Sort}
use Rattle.owl_tree.specs.declared.row.Sort.TheVariants as sort
use Rattle.owl_tree.specs.declared.tag.Tag.TheVariants as tag
use Rattle.owl_tree.specs.Trees.{Tree, leaf}
use Rattle.rdf_graph.specs.declared.term.Term.{Term}
use Rattle.rdf_graph.specs.declared.term.Term.TheVariants.{Blank, Iri, Literal}
use Rattle.rdf_graph.specs.declared.triple.Triple.{Triple}
use Rattle.rdf_meaning.specs.declared.role.Role.{Role}
use Rattle.rdf_meaning.specs.declared.role.Role.TheVariants as role
use Rattle.rdf_meaning.specs.declared.row.Part.{Part}
use Rattle.rdf_meaning.specs.declared.row.Place.{Place}
use Rattle.rdf_meaning.specs.declared.row.Place.TheVariants.{At, Subject, Predicate, Object}
use Rattle.rdf_meaning.specs.declared.row.Row as held
use Rattle.rdf_meaning.specs.declared.row.Site.{Site}
use Rattle.rdf_meaning.specs.declared.row.Site.TheVariants.{Node, TypedBy, OtherType, LinkedBy, OtherLink}
use Rattle.rdf_meaning.specs.declared.row.Want.{Want}
use Rattle.rdf_meaning.specs.declared.row.Want.TheVariants.{One, Many, Whole, Keys, Declared, Mark, True}
use Rattle.rdf_meaning.specs.Denotation.{Denotes, by_list, Fits, Holds, Lists, number_leaf, of_node, select, simple, sort_of, DenotesOwn}
use Rattle.rdf_meaning.proofs.DenotationLaws.{itself, with_row, list_is, many_is, no_nil, one_is, parts_are, simple_has_none}
use Rattle.rdf_meaning.proofs.ListLaws.{passes, same_only}
use Rattle.rdf_meaning.specs.Nodes.{is_role, nil_iri, role_of}
use Rattle.rdf_meaning.proofs.NodeLaws.{from_chosen}
use Rattle.rdf_meaning.proofs.RowLaws.{at_expression, same_role}
use Rattle.rdf_meaning.specs.RowTests.{has_row, has_row_at}
use Rattle.rdf_meaning.specs.Rows.{Row, node_rows, row_seen}
use Rattle.rdf_faults.specs.Asked.{role_gives}
use Rattle.rdf_faults.specs.WantLaws.{is_known, met}
use Rattle.rdf_rows.specs.Cardinalities.{cardinality, cardinality_of}
use Rattle.rdf_rows.specs.Chosen.{the_only}
use Rattle.rdf_rows.specs.declared.literals.Cardinality.TheVariants.{TooLarge}
use Rattle.rdf_roles.specs.Tables.{RoleTable}
use Rattle.rdf_nodes.specs.declared.form.Operand.{Operand}
use Rattle.rdf_nodes.proofs.ExpressionLaws.{expression_has_row}
use Rattle.rdf_nodes.specs.Large.{HasLargeNumber}
use Rattle.rdf_nodes.proofs.NumberLaws.{counts_at}
use Rattle.rdf_nodes.proofs.OfSortLaws.{as_many_elements}
use Rattle.rdf_nodes.specs.Operands.{AreElements, DenotesNone, IsCellWith, IsHeldAt, IsSmall, IsWantedOfNode, is_told_by_kind}

-- terms

pub small_told : (s : Sort) (x : Term) → is_told_by_kind s ≡ true → IsSmall s x
small_told sort.Number x e = cc
small_told _ x e = tt

no_leaf : (b : Bool) (n : ℕ) → cardinality_of (cond b (Some (leaf tag.Number (atom.Number n))) None) ≡ None → cond b (Some (leaf tag.Number (atom.Number n))) None ≡ None
no_leaf true n e = absurd (none-some (cardinality n) (sym e))
no_leaf false n e = refl

pub no_number_leaf : (x : Term) → cardinality_of (number_leaf x) ≡ None → number_leaf x ≡ None
no_number_leaf (Iri iri) e = refl
no_number_leaf (Blank label) e = refl
no_number_leaf (Literal literal) e = no_leaf _ _ e

sort_by_row : (r : Role) (s : Sort) → has_row r ≡ true → role_gives r s ≡ true → sort_of r ≡ Some s
sort_by_row role.Property sort.ObjectPropertyExpression h e = refl
sort_by_row role.Class sort.ClassExpression h e = refl
sort_by_row role.Range sort.DataRange h e = refl
sort_by_row r s h e = cc

no_simple : (o : Option Tree) → o ≡ None → is_some o ≡ true → ⊥
no_simple o e h = let none = ap is_some e in cc

module _ (g : List Triple) (k : List Entity) where
  given : (s : Sort) (x : Term) → simple g k s x ≡ None → (is_some (simple g k s x) ≡ true) ⊎ (role_gives (role_of g x) s ≡ true) → role_gives (role_of g x) s ≡ true
  given s x none (inl some) = absurd (no_simple (simple g k s x) none some)
  given s x none (inr gives) = gives

  -- what is no tree by itself, and no node of such, denotes nothing
  pub nothing_denoted : (s : Sort) (x : Term) → is_known (One s) ≡ true → simple g k s x ≡ None → (sort_of (role_of g x) ≡ Some s → ⊥) → DenotesNone g k (One s) x
  nothing_denoted s x known none no_node ts d =
      elim (one_is g k s x ts d) [
        | itself u e _ ↦ none-some u (sym none ∙ e)
        | with_row row us m a f held _ ↦
            no_node (sort_by_row (role_of g x) s (subst (λ (site : Site). has_row_at site ≡ true) f.0 (at_expression row m))
            (given s x none (or_cases (is_some (simple g k s x)) (role_gives (role_of g x) s) (met g k x (One s) ts known d))))
      ]

  -- lists

  abbrev pub IsListed : Sort → Term → Type 0
  IsListed s x = (ts : List Tree) × Lists g k x s ts

  pub listed : (s : Sort) (x : Term) (ts : List Tree) → Denotes g k x (Many s 0) ts → IsListed s x
  listed s x ts d = (ts, (many_is g k x s 0 ts d).1)

  pub list_goes_on : (s : Sort) (x first rest : Term) → IsCellWith g x first rest → IsListed s x → ((us : List Tree) × Denotes g k first (One s) us) × IsListed s rest
  list_goes_on s x first rest c l =
      elim (list_is g k x s l.0 l.1) [
        | inl empty ↦ absurd (no_nil g x empty.0 c.list)
        | inr d ↦
            let a = same_only d.first first (sym d.one_first ∙ c.one_first) in
            let b = same_only d.rest rest (sym d.one_rest ∙ c.one_rest) in (
              (d.us, subst (λ y. Denotes g k y (One s) d.us) a d.is_first),
              (d.vs, subst (λ y. Lists g k y s d.vs) b d.is_rest),
            )
      ]

  pub no_list : (s : Sort) (x : Term) → ((first rest : Term) → IsCellWith g x first rest → ⊥) → (x ≡ Iri nil_iri → ⊥) → IsListed s x → ⊥
  no_list s x no_cell no_end l =
      elim (list_is g k x s l.0 l.1) [
        | inl empty ↦ no_end empty.0
        | inr d ↦ no_cell d.first d.rest (record { list = d.list; one_first = d.one_first; one_rest = d.one_rest })
      ]

  pub any_many : (s : Sort) (least : ℕ) (x : Term) → DenotesNone g k (Many s 0) x → DenotesNone g k (Many s least) x
  any_many s least x none ts d = none ts (by_list s x 0 ts (omega arith) (many_is g k x s least ts d).1)

  pub too_few : (roles : RoleTable) (s : Sort) (x : Term) (os : List Operand) (least : ℕ) → AreElements g k roles s x os → length os < least → is_known (Many s least) ≡ true → DenotesNone g k (Many s least) x
  too_few roles s x os least found few known ts d =
      let l = met g k x (Many s least) ts known d in
      let many = as_many_elements g k roles s x os found l.elements l.has_elements in
      let enough = l.many in
      omega (arith, many, enough, few)

  -- parts

  pub only_held : (x : Term) (p : Part) (y : Term) → select g (of_node x) p.place ≡ y ∷ [] → IsHeldAt g k x p → IsWantedOfNode p.want y × ((ts : List Tree) × Denotes g k y p.want ts)
  only_held x p y at h =
      let same = same_only h.object y (sym h.selected ∙ at) in (
        subst (IsWantedOfNode p.want) same h.wanted,
        (h.trees, subst (λ z. Denotes g k z p.want h.trees) same h.denotes),
      )

  pub not_held : {A E : Type 0} (x : Term) (p : Part) (y : Term) → select g (of_node x) p.place ≡ y ∷ [] → (r : Result (Option A) E) →
      IfOk r (λ found. IsNone found → IsWantedOfNode p.want y → DenotesNone g k p.want y) → IfOk r (λ found. IsNone found → IsHeldAt g k x p → ⊥)
  not_held x p y at (Ok found) h = λ none held. let is = only_held x p y at held in h none is.0 is.1.0 is.1.1
  not_held x p y at (Err e) h = tt

  pub none_held : (x : Term) (p : Part) → None ≡ the_only (select g (of_node x) p.place) → IsHeldAt g k x p → ⊥
  none_held x p none h = none-some h.object (none ∙ ap the_only h.selected)

  other_place : (x y : Term) (place : Place) → ((w : _) → place ≡ At w → ⊥) → select g (of_node x) place ≡ y ∷ [] → ⊥
  other_place x y (At w) other e = other w refl
  other_place x y Subject other e = cc
  other_place x y Predicate other e = cc
  other_place x y Object other e = cc

  pub held_at_word : (x : Term) (p : Part) → ((w : _) → p.place ≡ At w → ⊥) → IsHeldAt g k x p → ⊥
  held_at_word x p other h = other_place x h.object p.place other h.selected

-- what rows of nodes want: a cardinality of class expressions alone, and at the words of these

abbrev is_of_class : Site → Bool
is_of_class (Node r) = is_role role.Class r
is_of_class (TypedBy w) = false
is_of_class OtherType = false
is_of_class (LinkedBy w) = false
is_of_class OtherLink = false

abbrev may_want : Bool → Place → Want → Bool
may_want class place (One sort.Number) = class && counts_at place
may_want class place (One s) = is_known (One s)
may_want class place (Many sort.Number least) = false
may_want class place (Many s least) = is_known (Many s least)
may_want class place Mark = true
may_want class place True = true
may_want class place (Whole t s least) = false
may_want class place Keys = false
may_want class place (Declared t) = false

abbrev wants_so : Row → Bool
wants_so row = list_all (λ p. may_want (is_of_class row.site) p.place p.want) row.parts

rows_want_so : list_all wants_so node_rows ≡ true
unfolding node_rows
rows_want_so = refl

module _ (g : List Triple) (small : HasLargeNumber g → ⊥) (x : Term) where
  small_at : (place : Place) (y : Term) → role_of g x ≡ role.Class → counts_at place ≡ true → select g (of_node x) place ≡ y ∷ [] → cardinality_of (number_leaf y) ≡ Some TooLarge → ⊥
  small_at (At w) y class counting e large =
      let by = from_chosen g x w y (subst (λ ys. Contains ys y) (sym e) (in_head y [])) in
      small (record {
        triple = by.triple;
        inside = by.inside;
        is = record {
          of_class = ap (role_of g) by.subject ∙ class;
          word = w;
          counting = counting;
          carried = by.carries;
          large = ap (λ z. cardinality_of (number_leaf z)) by.object ∙ large;
        };
      })
  small_at Subject y class counting e large = cc
  small_at Predicate y class counting e large = cc
  small_at Object y class counting e large = cc

  wanted_of_node : (class : Bool) → (class ≡ true → role_of g x ≡ role.Class) → (place : Place) (want : Want) (y : Term) → may_want class place want ≡ true → select g (of_node x) place ≡ y ∷ [] → IsWantedOfNode want y
  wanted_of_node class is place (One sort.Number) y t e =
      let tests = and_parts class (counts_at place) t in (refl, small_at place y (is tests.0) tests.1 e)
  wanted_of_node class is place (One s) y t e = (t, tt)
  wanted_of_node class is place (Many sort.Number least) y t e = cc
  wanted_of_node class is place (Many s least) y t e = (t, λ z. tt)
  wanted_of_node class is place Mark y t e = tt
  wanted_of_node class is place True y t e = tt
  wanted_of_node class is place (Whole u s least) y t e = cc
  wanted_of_node class is place Keys y t e = cc
  wanted_of_node class is place (Declared u) y t e = cc

  parts_held : (k : List Entity) (class : Bool) → (class ≡ true → role_of g x ≡ role.Class) → (ps : List Part) (ts : List Tree) → list_all (λ p. may_want class p.place p.want) ps ≡ true → Holds g k (of_node x) ps ts →
      AllByRecursion (IsHeldAt g k x) ps
  parts_held k class is [] ts t h = tt
  parts_held k class is (p ∷ ps) ts t h =
      let tests = and_parts (may_want class p.place p.want) (list_all (λ q. may_want class q.place q.want) ps) t in
      let i = parts_are g k (of_node x) p ps ts h in (
        record { object = i.x; selected = i.one; wanted = wanted_of_node class is p.place p.want i.x tests.0 i.one; trees = i.us; denotes = i.denotes },
        parts_held k class is ps i.vs tests.1 i.rest,
      )

  class_at : (site : Site) → site ≡ Node (role_of g x) → is_of_class site ≡ true → role_of g x ≡ role.Class
  class_at site e t = sym (same_role role.Class (role_of g x) (subst (λ s. is_of_class s ≡ true) e t))

  -- the parts of a row of the node are held
  row_held : (k : List Entity) (row : Row) (ts : List Tree) → Contains node_rows row → Fits g (of_node x) row → Holds g k (of_node x) row.parts ts → AllByRecursion (IsHeldAt g k x) row.parts
  row_held k row ts m f h = parts_held k (is_of_class row.site) (class_at row.site f.0) row.parts ts (passes wants_so node_rows row rows_want_so m) h

-- none of the first rows is one of the node that has all its parts
pub record NoneOfFirst (g : List Triple) (k : List Entity) (x : Term) (rows : List held.Row) (count : ℕ) : Type 0 where
  pub none : (i : ℕ) (d : held.Row) → i < count → Fits g (of_node x) (row_seen (get_or rows i d)) → AllByRecursion (IsHeldAt g k x) (row_seen (get_or rows i d)).parts → ⊥

module _ (g : List Triple) (k : List Entity) (x : Term) (rows : List held.Row) where
  pub none_yet : NoneOfFirst g k x rows 0
  none_yet = record { none = λ i d less fits all. absurd (omega (arith, less)) }

  pub none_behind : (n : ℕ) → NoneOfFirst g k x rows n → ((d : held.Row) → Fits g (of_node x) (row_seen (get_or rows n d)) → AllByRecursion (IsHeldAt g k x) (row_seen (get_or rows n d)).parts → ⊥) →
      NoneOfFirst g k x rows (n + 1)
  none_behind n before here = record {
    none = λ i d less fits all.
        elim (leb_tells n i) as (λ _. ⊥) [
          | inl le ↦
              let same : i ≡ n = omega (arith, le.1, less) in
              here d (subst (λ j. Fits g (of_node x) (row_seen (get_or rows j d))) same fits) (subst (λ j. AllByRecursion (IsHeldAt g k x) (row_seen (get_or rows j d)).parts) same all)
          | inr lt ↦ before.none i d lt.1 fits all
        ];
  }

  no_row : (n : ℕ) → map row_seen rows ≡ node_rows → length rows ≤ n → NoneOfFirst g k x rows n → (row : Row) → Contains node_rows row → Fits g (of_node x) row → AllByRecursion (IsHeldAt g k x) row.parts → ⊥
  no_row n told all none row among fits given =
      let from = from_map row_seen rows row (subst (λ (rs : List Row). Contains rs row) (sym told) among) in
      let at = from.inside in
      let seen : row_seen (get_or rows at.0 from.element) ≡ row = ap row_seen at.2 ∙ from.value in
      none.none at.0 from.element (let less = at.1 in omega (arith, less, all)) (subst (Fits g (of_node x)) (sym seen) fits)
      (subst (λ (r : Row). AllByRecursion (IsHeldAt g k x) r.parts) (sym seen) given)

  -- no row is, so it denotes nothing as an expression
  pub no_tree : (n : ℕ) → map row_seen rows ≡ node_rows → length rows ≤ n → (HasLargeNumber g → ⊥) → NoneOfFirst g k x rows n → (t : Tree) → DenotesOwn g k x t → ⊥
  no_tree n told all small none t own =
      elim (one_is g k own.sort x (t ∷ []) own.denotes) [
        | itself u e _ ↦
            let no = simple_has_none g k own.sort x u e in
            let has = expression_has_row (role_of g x) own.sort own.gives in
            cc
        | with_row row us m a f held _ ↦ no_row n told all none row m f (row_held g small x k row us m f held)
      ]
