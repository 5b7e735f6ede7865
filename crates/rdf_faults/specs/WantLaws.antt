-- What denotes a tree is what is wanted, and has its form, whatever is below it.
use Rattle.std.specs.Prelude.{◌≡◌, ◌≤◌, ◌⊎◌, ℕ, suc, Bool, true, false, not, ◌||◌, List, [], ◌∷◌, ◌++◌, Contains, IsSome, IsTrue, is_some, length}
use Rattle.std.specs.List.{AllByRecursion, list_all}
use Rattle.std.proofs.Common.{inl, inr, refl, sym, ap, ◌∙◌, subst, arith}
use Rattle.std.proofs.lemmas.Bool.{both_ways, not-true, or_cases, or_left, or_right}
use Rattle.std.proofs.lemmas.List.{length-append}
use Rattle.owl_list.proofs.AscendingLaws.{all_from, all_in}
use Rattle.owl_kind.specs.Kinds.{Entity}
use Rattle.owl_tree.specs.Rows.{admits}
use Rattle.owl_tree.specs.Tags.{number_of}
use Rattle.owl_tree.specs.declared.row.Sort.{Sort}
use Rattle.owl_tree.specs.declared.row.Sort.TheVariants as sort
use Rattle.owl_tree.specs.Trees.{Tree}
use Rattle.rdf_graph.specs.declared.term.Term.{Term}
use Rattle.rdf_graph.specs.declared.term.Term.TheVariants.{Iri}
use Rattle.rdf_graph.specs.declared.triple.Triple.{Triple}
use Rattle.rdf_meaning.proofs.ListLaws.{only_one, passes, same_only}
use Rattle.rdf_meaning.specs.declared.role.Role.{Role}
use Rattle.rdf_meaning.specs.declared.role.Role.TheVariants as role
use Rattle.rdf_meaning.specs.declared.word.Word.TheVariants as word
use Rattle.rdf_meaning.specs.declared.row.Place.{Place}
use Rattle.rdf_meaning.specs.declared.row.Place.TheVariants.{At, Subject, Predicate, Object}
use Rattle.rdf_meaning.specs.declared.row.Part.{Part}
use Rattle.rdf_meaning.specs.declared.row.Site.{Site}
use Rattle.rdf_meaning.specs.declared.row.Site.TheVariants.{Node, TypedBy, OtherType, LinkedBy, OtherLink}
use Rattle.rdf_meaning.specs.declared.row.Want.{Want}
use Rattle.rdf_meaning.specs.declared.row.Want.TheVariants.{One, Many, Whole, Keys, Declared, Mark, True}
use Rattle.rdf_meaning.specs.Nodes.{chosen, nil_iri, role_of}
use Rattle.rdf_meaning.proofs.NodeLaws.{in_chosen}
use Rattle.rdf_meaning.specs.Rows.{Row, axiom_rows, node_rows}
use Rattle.rdf_meaning.specs.Denotation.{AreKeys, no_key, object_key, data_key, Bearer, of_node, Denotes, by_itself, by_row, by_list, by_whole, by_keys, by_declaration, mark, is_true, Lists, no_cell, cell, number_leaf, select, simple}
use Rattle.rdf_meaning.proofs.DenotationLaws.{no_nil, one_is, itself, with_row}
use Rattle.rdf_faults.specs.Asked.{HasElements, no_element, element, IsListOf, IsMet, is_key, is_of_sort, is_place_of, role_gives, Suits}
use Rattle.rdf_faults.specs.Formed.{HasForm, HasFormAt, HasLength, no_element as no_length, one_more, IsShort}
use Rattle.rdf_faults.specs.Meant.{HasPart}

-- which sorts and wants the rows of the mapping know

abbrev is_asked : Sort → Bool
is_asked sort.SubObjectPropertyExpression = false
is_asked _ = true

abbrev pub is_known : Want → Bool
is_known (One s) = is_asked s
is_known (Many s least) = is_asked s
is_known (Whole t s least) = is_asked s
is_known Keys = true
is_known (Declared t) = true
is_known Mark = true
is_known True = true

abbrev pub wants_known : Row → Bool
wants_known row = list_all (λ p. is_known p.want) row.parts

expressions_known : list_all wants_known node_rows ≡ true
unfolding node_rows
expressions_known = refl

axioms_known : list_all wants_known axiom_rows ≡ true
unfolding axiom_rows
axioms_known = refl

pub expression_known : (row : Row) → Contains node_rows row → wants_known row ≡ true
expression_known row = passes wants_known node_rows row expressions_known

pub axiom_known : (row : Row) → Contains axiom_rows row → wants_known row ≡ true
axiom_known row = passes wants_known axiom_rows row axioms_known

-- a row that gives a tree of the sort is of a node whose role does

abbrev pub site_gives : Site → Sort → Bool
site_gives (Node r) s = role_gives r s
site_gives (TypedBy w) s = false
site_gives OtherType s = false
site_gives (LinkedBy w) s = false
site_gives OtherLink s = false

abbrev gives : Sort → Row → Bool
gives s row = not (admits s row.tag) || site_gives row.site s

rows_give : (s : Sort) → is_asked s ≡ true → list_all (gives s) node_rows ≡ true
unfolding node_rows admits number_of
rows_give sort.SubObjectPropertyExpression h = cc
rows_give _ h = refl

no_number : (r : Role) → role_gives r sort.Number ≡ false
no_number role.List = refl
no_number _ = refl

-- inversion of the length of a list

pub record IsLonger (g : List Triple) (x : Term) (n : ℕ) : Type 0 where
  pub rest : Term
  pub m : ℕ
  pub list : role_of g x ≡ role.List
  pub one_rest : chosen g x word.Rest ≡ rest ∷ []
  pub has_length : HasLength g rest m
  pub count : n ≡ suc m

pub length_is : (g : List Triple) (x : Term) (n : ℕ) → HasLength g x n → ((x ≡ Iri nil_iri) × (n ≡ 0)) ⊎ IsLonger g x n
length_is g _ _ (no_length x e) = inl (e, refl)
length_is g _ _ (one_more x rest m l r h) =
    inr (record { rest = rest; m = m; list = l; one_rest = r; has_length = h; count = refl })

pub one_length : (g : List Triple) (x : Term) (ys : List Term) → HasElements g x ys → (n : ℕ) → HasLength g x n → n ≡ length ys
one_length g _ _ (no_element x e) n h =
    elim (length_is g x n h) [ inl empty ↦ empty.1 | inr l ↦ absurd (no_nil g x e l.list) ]
one_length g _ _ (element x first rest ys l f r more) n h =
    elim (length_is g x n h) [
      | inl empty ↦ absurd (no_nil g x empty.0 l)
      | inr longer ↦
          let same = same_only longer.rest rest (sym longer.one_rest ∙ r) in
          let count = one_length g rest ys more longer.m (subst (λ y. HasLength g y longer.m) same longer.has_length) in
          longer.count ∙ ap suc count
    ]

not_short : (g : List Triple) (least : ℕ) (x : Term) (ys : List Term) → HasElements g x ys → least ≤ length ys → IsShort g least x → ⊥
not_short g least x ys h n short =
    let count = one_length g x ys h short.count short.has_length in
    let few = short.few in
    omega (arith, n, count, few)

module _ (g : List Triple) (k : List Entity) where
  tree_met : (s : Sort) (x : Term) (ts : List Tree) → is_asked s ≡ true → Denotes g k x (One s) ts → is_of_sort g k s x ≡ true
  tree_met s x ts asked d =
      elim (one_is g k s x ts d) [
        | itself u e _ ↦ or_left (is_some (simple g k s x)) (role_gives (role_of g x) s) (ap is_some e)
        | with_row row us m a f held _ ↦
            or_right (is_some (simple g k s x)) (role_gives (role_of g x) s)
            (elim (or_cases (not (admits s row.tag)) (site_gives row.site s) (passes (gives s) node_rows row (rows_give s asked) m)) [
              | inl n ↦ absurd (both_ways _ (not-true _ n) a)
              | inr gives ↦ subst (λ site. site_gives site s ≡ true) f.0 gives
            ])
      ]

  pub one_long : (s : Sort) (x : Term) (ts : List Tree) → Denotes g k x (One s) ts → length ts ≡ 1
  one_long s x ts d =
      elim (one_is g k s x ts d) [
        | itself u e same ↦ ap length same
        | with_row row us m a f held same ↦ ap length same
      ]

  -- the elements of what is a list of so many trees
  pub record AreListed (test : Term → Bool) (x : Term) (n : ℕ) : Type 0 where
    pub elements : List Term
    pub has_elements : HasElements g x elements
    pub each : AllByRecursion (λ y. IsTrue (test y)) elements
    pub count : length elements ≡ n

  none_listed : (test : Term → Bool) (x : Term) → x ≡ Iri nil_iri → AreListed test x 0
  none_listed test x e = record { elements = []; has_elements = no_element x e; each = tt; count = refl }

  cell_listed : (test : Term → Bool) (x first rest : Term) (n : ℕ) → role_of g x ≡ role.List → chosen g x word.First ≡ first ∷ [] → chosen g x word.Rest ≡ rest ∷ [] → test first ≡ true → AreListed test rest n → AreListed test x (suc n)
  cell_listed test x first rest n l f r h more =
      record {
        elements = first ∷ more.elements;
        has_elements = element x first rest more.elements l f r more.has_elements;
        each = (h, more.each);
        count = ap suc more.count;
      }

  one_longer : (ts us : List Tree) → length ts ≡ 1 → suc (length us) ≡ length (ts ++ us)
  one_longer ts us e = let both = length-append ts us in omega (arith, both, e)

  pub key_longer : (os ts ds : List Tree) → length ts ≡ 1 → suc (length (os ++ ds)) ≡ length (os ++ (ts ++ ds))
  key_longer os ts ds e =
      let outer = length-append os (ts ++ ds) in
      let inner = length-append ts ds in
      let before = length-append os ds in
      omega (arith, outer, inner, before, e)

  pub object_longer : (ts os ds : List Tree) → length ts ≡ 1 → suc (length (os ++ ds)) ≡ length ((ts ++ os) ++ ds)
  object_longer ts os ds e =
      let outer = length-append (ts ++ os) ds in
      let inner = length-append ts os in
      let before = length-append os ds in
      omega (arith, outer, inner, before, e)

  list_listed : (x : Term) (s : Sort) (ts : List Tree) → is_asked s ≡ true → Lists g k x s ts → AreListed (is_of_sort g k s) x (length ts)
  list_listed _ _ _ asked (no_cell s x e) = none_listed (is_of_sort g k s) x e
  list_listed _ _ _ asked (cell s x first rest ts us l f r d h) =
      subst (AreListed (is_of_sort g k s) x) (one_longer ts us (one_long s first ts d))
      (cell_listed (is_of_sort g k s) x first rest (length us) l f r (tree_met s first ts asked d) (list_listed rest s us asked h))

  keys_listed : (x : Term) (os ds : List Tree) → AreKeys g k x os ds → AreListed (is_key g k) x (length (os ++ ds))
  keys_listed _ _ _ (no_key x e) = none_listed (is_key g k) x e
  keys_listed _ _ _ (object_key x first rest ts os ds l f r d h) =
      subst (AreListed (is_key g k) x) (object_longer ts os ds (one_long sort.ObjectPropertyExpression first ts d))
      (cell_listed (is_key g k) x first rest (length (os ++ ds)) l f r
      (or_left _ (is_of_sort g k sort.DataPropertyExpression first) (tree_met sort.ObjectPropertyExpression first ts refl d)) (keys_listed rest os ds h))
  keys_listed _ _ _ (data_key x first rest ts os ds l f r d h) =
      subst (AreListed (is_key g k) x) (key_longer os ts ds (one_long sort.DataPropertyExpression first ts d))
      (cell_listed (is_key g k) x first rest (length (os ++ ds)) l f r
      (or_right (is_of_sort g k sort.ObjectPropertyExpression first) _ (tree_met sort.DataPropertyExpression first ts refl d)) (keys_listed rest os ds h))

  listed_met : (test : Term → Bool) (x : Term) (least n : ℕ) → least ≤ n → AreListed test x n → IsListOf g test least x
  listed_met test x least n m listed =
      record {
        elements = listed.elements;
        has_elements = listed.has_elements;
        many = subst (λ count. least ≤ count) (sym listed.count) m;
        each = listed.each;
      }

  -- what denotes trees is what is wanted
  pub met : (x : Term) (w : Want) (ts : List Tree) → is_known w ≡ true → Denotes g k x w ts → IsMet g k w x
  met _ _ _ known (by_itself s x t e) = tree_met s x (t ∷ []) known (by_itself s x t e)
  met _ _ _ known (by_row s x row ts m a f h) = tree_met s x _ known (by_row s x row ts m a f h)
  met _ _ _ known (by_list s x least ts n l) = listed_met (is_of_sort g k s) x least (length ts) n (list_listed x s ts known l)
  met _ _ _ known (by_whole t s x least ts n l) = listed_met (is_of_sort g k s) x least (length ts) n (list_listed x s ts known l)
  met _ _ _ known (by_keys x os ds n h) = listed_met (is_key g k) x 1 (length (os ++ ds)) n (keys_listed x os ds h)
  met _ _ _ known (by_declaration t x u e) = ap is_some e
  met _ _ _ known (mark x) = tt
  met _ _ _ known (is_true x e) = e

  -- and has its form

  number_formed : (x : Term) (ts : List Tree) → Denotes g k x (One sort.Number) ts → IsSome (number_leaf x)
  unfolding simple
  number_formed x ts d =
      elim (or_cases (is_some (simple g k sort.Number x)) (role_gives (role_of g x) sort.Number) (tree_met sort.Number x ts refl d)) [
        | inl some ↦ some
        | inr given ↦ absurd (both_ways _ (no_number (role_of g x)) given)
      ]

  one_formed : (s : Sort) (x : Term) (ts : List Tree) → Denotes g k x (One s) ts → HasForm g (One s) x
  one_formed sort.Number x ts d = number_formed x ts d
  one_formed _ x ts d = tt

  listed_formed : (test : Term → Bool) (x : Term) (least n : ℕ) → least ≤ n → AreListed test x n → IsShort g least x → ⊥
  listed_formed test x least n m listed =
      not_short g least x listed.elements listed.has_elements (subst (λ count. least ≤ count) (sym listed.count) m)

  pub formed : (x : Term) (w : Want) (ts : List Tree) → is_known w ≡ true → Denotes g k x w ts → HasForm g w x
  formed _ _ _ known (by_itself s x t e) = one_formed s x (t ∷ []) (by_itself s x t e)
  formed _ _ _ known (by_row s x row ts m a f h) = one_formed s x _ (by_row s x row ts m a f h)
  formed _ _ _ known (by_list s x least ts n l) = listed_formed (is_of_sort g k s) x least (length ts) n (list_listed x s ts known l)
  formed _ _ _ known (by_whole t s x least ts n l) = listed_formed (is_of_sort g k s) x least (length ts) n (list_listed x s ts known l)
  formed _ _ _ known (by_keys x os ds n h) = listed_formed (is_key g k) x 1 (length (os ++ ds)) n (keys_listed x os ds h)
  formed _ _ _ known (by_declaration t x u e) = tt
  formed _ _ _ known (mark x) = tt
  formed _ _ _ known (is_true x e) = e

  -- what stands at the parts of a row

  known_part : (row : Row) → wants_known row ≡ true → (p : Part) → Contains row.parts p → is_known p.want ≡ true
  known_part row known p m = passes (λ q. is_known q.want) row.parts p known m

  pub parts_met : (b : Bearer) (row : Row) → wants_known row ≡ true → AllByRecursion (HasPart g k b) row.parts → AllByRecursion (λ p. AllByRecursion (IsMet g k p.want) (select g b p.place)) row.parts
  parts_met b row known parts =
      all_from (λ p. AllByRecursion (IsMet g k p.want) (select g b p.place)) row.parts (λ p m.
      let s = all_in (HasPart g k b) row.parts p parts m in
      subst (AllByRecursion (IsMet g k p.want)) (sym s.one) (met s.z p.want s.ts (known_part row known p m) s.denotes, tt))

  pub parts_formed : (x : Term) (row : Row) → wants_known row ≡ true → AllByRecursion (HasPart g k (of_node x)) row.parts → AllByRecursion (HasFormAt g x) row.parts
  parts_formed x row known parts =
      all_from (HasFormAt g x) row.parts (λ p m.
      let s = all_in (HasPart g k (of_node x)) row.parts p parts m in
      subst (AllByRecursion (HasForm g p.want)) (sym s.one) (formed s.z p.want s.ts (known_part row known p m) s.denotes, tt))

  at_place : (t : Triple) → Contains g t → (p : Place) → is_place_of t p ≡ true → Contains (select g (of_node t.subject) p) t.object
  at_place t m (At w) h = in_chosen g t.subject w t m refl h
  at_place t m Subject h = cc
  at_place t m Predicate h = cc
  at_place t m Object h = cc

  pub suits : (t : Triple) (row : Row) → Contains g t → wants_known row ≡ true → AllByRecursion (HasPart g k (of_node t.subject)) row.parts → Suits g k row t
  suits t row m known parts =
      all_from (λ (p : Part). is_place_of t p.place ≡ true → IsMet g k p.want t.object) row.parts (λ p n there.
      let s = all_in (HasPart g k (of_node t.subject)) row.parts p parts n in
      let same = only_one (select g (of_node t.subject) p.place) s.z t.object s.one (at_place t m p.place there) in
      subst (IsMet g k p.want) same (met s.z p.want s.ts (known_part row known p n) s.denotes))
