-- Each axiom of a normal form has a row that its kids fit.
use Rattle.std.proofs.Common.{◌≡◌, ◌≤◌, ℕ, zero, suc, Bool, true, false, cond, ◌⊎◌, List, [], ◌∷◌, ◌++◌, length, inl, inr, refl, sym, ap, ◌∙◌, subst, arith}
use Rattle.std.specs.Prelude.{Contains, map, min, nat_le, not, ◌&&◌, Option, None, Some, slice_get}
use Rattle.std.specs.List.{filter, list_all, list_any}
use Rattle.std.proofs.lemmas.Bool.{and_from, and_parts, both_ways, cases_Bool, cond-false, cond-true, eq-eqb, leb-true}
use Rattle.std.proofs.lemmas.Option.{none-some, same_Some}
use Rattle.owl_list.proofs.AscendingLaws.{in_head, in_tail}
use Rattle.owl_tree.specs.declared.row.Sort.{Sort}
use Rattle.owl_tree.specs.declared.row.Sort.TheVariants as sort
use Rattle.owl_tree.specs.declared.row.Rest.{Rest}
use Rattle.owl_tree.specs.declared.row.Rest.TheVariants.{Nothing, Set}
use Rattle.owl_tree.specs.declared.tag.Tag.{Tag}
use Rattle.owl_tree.specs.declared.tag.Tag.TheVariants as tag
use Rattle.owl_tree.specs.Rows.{admits, fits, fits_front, is_tag, row_of}
use Rattle.owl_tree.specs.Rows as tree
use Rattle.owl_tree.specs.Tags.{is_axiom, number_of}
use Rattle.rdf_meaning.specs.declared.row.Part.{Part}
use Rattle.rdf_meaning.specs.declared.row.Site.{Site}
use Rattle.rdf_meaning.specs.declared.row.Site.TheVariants.{LinkedBy}
use Rattle.rdf_meaning.specs.declared.row.Want.{Want}
use Rattle.rdf_meaning.specs.declared.row.Want.TheVariants.{One, Many, Whole, Keys, Declared}
use Rattle.rdf_meaning.specs.declared.word.Word.{Word}
use Rattle.owl_list.proofs.FilterLaws.{from_filter}
use Rattle.rdf_meaning.proofs.ListLaws.{only_one}
use Rattle.rdf_meaning.specs.Rows.{Row, axiom_rows}
use Rattle.rdf_meaning.specs.RowShapes.{ways_behind, ways_of_rows}
use Rattle.rdf_normal.specs.OneTriple.{lists_members}
use Rattle.rdf_mapping.specs.Drawing.{first_row, fit, is_pair, row_for}
use Rattle.rdf_mapping.specs.LinkedLaws.{two_parts}
use Rattle.rdf_mapping.specs.RowForLaws.{HasRowIn, front_fits, parts_for, row_by_way}
use Rattle.rdf_mapping.proofs.WrittenLaws.{first_in}

-- What stands behind the annotations of an axiom.

abbrev behind_notes : tree.Row → List Sort × Rest
behind_notes (tree.Leaf s) = ([], Nothing)
behind_notes (tree.Node [] rest) = ([], rest)
behind_notes (tree.Node (s ∷ front) rest) = (front, rest)

abbrev pub front_of : Tag → List Sort
front_of t = (behind_notes (row_of t)).0

abbrev pub rest_of : Tag → Rest
rest_of t = (behind_notes (row_of t)).1

-- where a choice is made both times, what is chosen is the same
same_choice : {X : Type 0} (b : Bool) (x y z : X) → b ≡ true → cond b x z ≡ cond b y z → x ≡ y
same_choice b x y z h e = sym (cond-true b x z h) ∙ e ∙ cond-true b y z h

axiom_row_by : (t : Tag) → cond (is_axiom t) (row_of t) (tree.Node [] Nothing) ≡ cond (is_axiom t) (tree.Node (sort.Notes ∷ front_of t) (rest_of t)) (tree.Node [] Nothing)
unfolding row_of number_of
axiom_row_by tag.Class = refl
axiom_row_by _ = refl

pub axiom_tree_row : (t : Tag) → is_axiom t ≡ true → row_of t ≡ tree.Node (sort.Notes ∷ front_of t) (rest_of t)
axiom_tree_row t a = same_choice (is_axiom t) (row_of t) (tree.Node (sort.Notes ∷ front_of t) (rest_of t)) (tree.Node [] Nothing) a (axiom_row_by t)

-- the kids behind the annotations fit what is wanted there
pub behind_fits : (t u : Tag) (ts : List Tag) → is_axiom t ≡ true → fits (row_of t) (u ∷ ts) ≡ true → fits_front (front_of t) (rest_of t) ts ≡ true
behind_fits t u ts a h =
    (and_parts (admits sort.Notes u) (fits_front (front_of t) (rest_of t) ts) (sym (ap (λ (r : tree.Row). fits r (u ∷ ts)) (axiom_tree_row t a)) ∙ h)).1

-- Rows that want what the row of trees wants.

stands_in : {X : Type 0} (xs : List X) (i : ℕ) (x : X) → slice_get xs i ≡ Some x → Contains xs x
stands_in [] i x e = absurd (none-some x e)
stands_in (y ∷ xs) zero x e = subst (λ z. Contains (y ∷ xs) z) (same_Some y x e) (in_head y xs)
stands_in (y ∷ xs) (suc i) x e = in_tail y xs x (stands_in xs i x e)

way_at_place : (t : Tag) (i : ℕ) (ws : List Want) → slice_get (ways_of_rows axiom_rows t) i ≡ Some ws → Contains (ways_of_rows axiom_rows t) ws
way_at_place t i ws e = stands_in (ways_of_rows axiom_rows t) i ws e

abbrev rest_way : Rest → List Want
rest_way (Set s n) = Many s n ∷ []
rest_way _ = []

abbrev way_of : Tag → List Want
way_of t = map One (front_of t) ++ rest_way (rest_of t)

-- those whose kids are wanted in other ways
abbrev pub is_regular : Tag → Bool
is_regular t =
    is_axiom t
    && not (list_any (λ u. is_tag u t)
    (tag.Declaration ∷ tag.SubObjectPropertyOf ∷ tag.HasKey ∷ tag.ObjectPropertyAssertion ∷ tag.EquivalentClasses ∷
    tag.EquivalentObjectProperties ∷ tag.EquivalentDataProperties ∷ tag.SameIndividual ∷ tag.InverseObjectProperties ∷ []))

-- of more than two members it is the second way
abbrev way_at : Tag → Option (List Want)
way_at t = slice_get (ways_of_rows axiom_rows t) (cond (lists_members t) 1 0)

regular_way_by : (t : Tag) → cond (is_regular t) (way_at t) None ≡ cond (is_regular t) (Some (way_of t)) None
unfolding axiom_rows row_of number_of
regular_way_by tag.Class = refl
regular_way_by _ = refl

one_rest_by : (t : Tag) → cond (is_regular t) (ways_behind (rest_of t)) [] ≡ cond (is_regular t) (rest_way (rest_of t) ∷ []) []
unfolding row_of number_of
one_rest_by tag.Class = refl
one_rest_by _ = refl

regular_row : (t : Tag) (ts : List Tag) → is_regular t ≡ true → fits_front (front_of t) (rest_of t) ts ≡ true → HasRowIn axiom_rows t ts
regular_row t ts h f =
    let fitting = front_fits (front_of t) (rest_of t) ts f in
    let only = same_choice (is_regular t) (ways_behind (rest_of t)) (rest_way (rest_of t) ∷ []) [] h (one_rest_by t) in
    let same : rest_way (rest_of t) ≡ fitting.behind = only_one (ways_behind (rest_of t)) (rest_way (rest_of t)) fitting.behind only fitting.among in
    row_by_way axiom_rows t ts (way_of t)
    (way_at_place t (cond (lists_members t) 1 0) (way_of t) (same_choice (is_regular t) (way_at t) (Some (way_of t)) None h (regular_way_by t)))
    (ap (λ (ws : List Want). fit (parts_for (map One (front_of t) ++ ws)) ts) same ∙ fitting.fits_way)

-- Rows that want something else.

-- the entity that is declared
declared_way : (u : Tag) → admits sort.Entity u ≡ true → Contains (ways_of_rows axiom_rows tag.Declaration) (Declared u ∷ [])
unfolding axiom_rows admits number_of
declared_way tag.Class h = way_at_place tag.Declaration 0 (Declared tag.Class ∷ []) refl
declared_way tag.Datatype h = way_at_place tag.Declaration 1 (Declared tag.Datatype ∷ []) refl
declared_way tag.ObjectProperty h = way_at_place tag.Declaration 2 (Declared tag.ObjectProperty ∷ []) refl
declared_way tag.DataProperty h = way_at_place tag.Declaration 3 (Declared tag.DataProperty ∷ []) refl
declared_way tag.AnnotationProperty h = way_at_place tag.Declaration 4 (Declared tag.AnnotationProperty ∷ []) refl
declared_way tag.NamedIndividual h = way_at_place tag.Declaration 5 (Declared tag.NamedIndividual ∷ []) refl
declared_way _ h = absurd (both_ways false refl h)

declared_fits : (u : Tag) → fit (parts_for (Declared u ∷ [])) (u ∷ []) ≡ true
unfolding fit
declared_fits u = and_from (is_tag u u) true (eq-eqb (number_of u) (number_of u) refl) refl

declaration_row : (ts : List Tag) → fits_front (front_of tag.Declaration) (rest_of tag.Declaration) ts ≡ true → HasRowIn axiom_rows tag.Declaration ts
unfolding row_of
declaration_row [] f = absurd (both_ways false refl f)
declaration_row (u ∷ []) f =
    row_by_way axiom_rows tag.Declaration (u ∷ []) (Declared u ∷ []) (declared_way u (and_parts (admits sort.Entity u) true f).0) (declared_fits u)
declaration_row (u ∷ v ∷ ts) f = absurd (both_ways false refl (and_parts (admits sort.Entity u) false f).1)

-- two or three kids that are wanted one each
two_fit : (a b : Sort) (u v : Tag) → admits a u ≡ true → admits b v ≡ true → fit (parts_for (One a ∷ One b ∷ [])) (u ∷ v ∷ []) ≡ true
unfolding fit
two_fit a b u v h i = and_from (admits a u) _ h (and_from (admits b v) true i refl)

three_fit : (a b c : Sort) (u v w : Tag) → admits a u ≡ true → admits b v ≡ true → admits c w ≡ true → fit (parts_for (One a ∷ One b ∷ One c ∷ [])) (u ∷ v ∷ w ∷ []) ≡ true
unfolding fit
three_fit a b c u v w h i j = and_from (admits a u) _ h (and_from (admits b v) _ i (and_from (admits c w) true j refl))

-- a chain is no property
chain_or_property : (u : Tag) → admits sort.SubObjectPropertyExpression u ≡ true → (admits sort.ObjectPropertyExpression u ≡ true) ⊎ (tag.ObjectPropertyChain ≡ u)
unfolding admits number_of
chain_or_property tag.ObjectProperty h = inl refl
chain_or_property tag.ObjectInverseOf h = inl refl
chain_or_property tag.ObjectPropertyChain h = inr refl
chain_or_property _ h = absurd (both_ways false refl h)

chain_fits : (v : Tag) → admits sort.ObjectPropertyExpression v ≡ true → fit (parts_for (Whole tag.ObjectPropertyChain sort.ObjectPropertyExpression 2 ∷ One sort.ObjectPropertyExpression ∷ [])) (tag.ObjectPropertyChain ∷ v ∷ []) ≡ true
unfolding fit number_of
chain_fits v h = and_from (admits sort.ObjectPropertyExpression v) true h refl

sub_property_row : (u v : Tag) → admits sort.SubObjectPropertyExpression u ≡ true → admits sort.ObjectPropertyExpression v ≡ true → HasRowIn axiom_rows tag.SubObjectPropertyOf (u ∷ v ∷ [])
unfolding axiom_rows number_of
sub_property_row u v h i =
    elim (chain_or_property u h) [
      | inl p ↦
          row_by_way axiom_rows tag.SubObjectPropertyOf (u ∷ v ∷ []) (One sort.ObjectPropertyExpression ∷ One sort.ObjectPropertyExpression ∷ [])
          (way_at_place tag.SubObjectPropertyOf 0 (One sort.ObjectPropertyExpression ∷ One sort.ObjectPropertyExpression ∷ []) refl) (two_fit sort.ObjectPropertyExpression sort.ObjectPropertyExpression u v p i)
      | inr e ↦
          subst (λ w. HasRowIn axiom_rows tag.SubObjectPropertyOf (w ∷ v ∷ [])) e
          (row_by_way axiom_rows tag.SubObjectPropertyOf (tag.ObjectPropertyChain ∷ v ∷ [])
          (Whole tag.ObjectPropertyChain sort.ObjectPropertyExpression 2 ∷ One sort.ObjectPropertyExpression ∷ [])
          (way_at_place tag.SubObjectPropertyOf 1 (Whole tag.ObjectPropertyChain sort.ObjectPropertyExpression 2 ∷ One sort.ObjectPropertyExpression ∷ []) refl)
          (chain_fits v i))
    ]

-- these tags, of which each is admitted by its sort
record AreTwo (a b : Sort) (ts : List Tag) : Type 0 where
  first : Tag
  second : Tag
  are : ts ≡ first ∷ second ∷ []
  admits_first : admits a first ≡ true
  admits_second : admits b second ≡ true

are_two : (a b : Sort) (ts : List Tag) → fits_front (a ∷ b ∷ []) Nothing ts ≡ true → AreTwo a b ts
are_two a b [] f = absurd (both_ways false refl f)
are_two a b (u ∷ []) f = absurd (both_ways false refl (and_parts (admits a u) false f).1)
are_two a b (u ∷ v ∷ []) f =
    let both = and_parts (admits a u) (admits b v && true) f in
    record { first = u; second = v; are = refl; admits_first = both.0; admits_second = (and_parts (admits b v) true both.1).0 }
are_two a b (u ∷ v ∷ w ∷ ts) f = absurd (both_ways false refl (and_parts (admits b v) false (and_parts (admits a u) (admits b v && false) f).1).1)

record AreThree (a b c : Sort) (ts : List Tag) : Type 0 where
  first : Tag
  behind : List Tag
  are : ts ≡ first ∷ behind
  admits_first : admits a first ≡ true
  others : AreTwo b c behind

are_three : (a b c : Sort) (ts : List Tag) → fits_front (a ∷ b ∷ c ∷ []) Nothing ts ≡ true → AreThree a b c ts
are_three a b c [] f = absurd (both_ways false refl f)
are_three a b c (u ∷ ts) f =
    let both = and_parts (admits a u) (fits_front (b ∷ c ∷ []) Nothing ts) f in
    record { first = u; behind = ts; are = refl; admits_first = both.0; others = are_two b c ts both.1 }

-- three kids, of a row whose only way they fit
three_row : (t : Tag) (a b c : Sort) (wants : List Want) → slice_get (ways_of_rows axiom_rows t) 0 ≡ Some wants → ((u v w : Tag) → admits a u ≡ true → admits b v ≡ true → admits c w ≡ true → fit (parts_for wants) (u ∷ v ∷ w ∷ []) ≡ true) → (ts : List Tag) → fits_front (a ∷ b ∷ c ∷ []) Nothing ts ≡ true → HasRowIn axiom_rows t ts
three_row t a b c wants e fitting ts f =
    let three = are_three a b c ts f in
    let two = three.others in
    let u = three.first in
    subst (λ us. HasRowIn axiom_rows t us) (sym (three.are ∙ ap (λ (us : List Tag). u ∷ us) two.are))
    (row_by_way axiom_rows t (u ∷ two.first ∷ two.second ∷ []) wants (way_at_place t 0 wants e)
    (fitting u two.first two.second three.admits_first two.admits_first two.admits_second))

assertion_row : (ts : List Tag) → fits_front (sort.ObjectProperty ∷ sort.Individual ∷ sort.Individual ∷ []) Nothing ts ≡ true → HasRowIn axiom_rows tag.ObjectPropertyAssertion ts
unfolding axiom_rows number_of
assertion_row =
    three_row tag.ObjectPropertyAssertion sort.ObjectProperty sort.Individual sort.Individual (One sort.ObjectProperty ∷ One sort.Individual ∷ One sort.Individual ∷ []) refl
    (three_fit sort.ObjectProperty sort.Individual sort.Individual)

keys_fit : (u v w : Tag) → admits sort.ClassExpression u ≡ true → admits sort.ObjectKeys v ≡ true → admits sort.DataKeys w ≡ true → fit (parts_for (One sort.ClassExpression ∷ Keys ∷ [])) (u ∷ v ∷ w ∷ []) ≡ true
unfolding fit admits
keys_fit u v w h i j = and_from (admits sort.ClassExpression u) _ h (and_from (is_tag tag.ObjectKeys v) _ i (and_from (is_tag tag.DataKeys w) true j refl))

key_row : (ts : List Tag) → fits_front (sort.ClassExpression ∷ sort.ObjectKeys ∷ sort.DataKeys ∷ []) Nothing ts ≡ true → HasRowIn axiom_rows tag.HasKey ts
unfolding axiom_rows number_of
key_row = three_row tag.HasKey sort.ClassExpression sort.ObjectKeys sort.DataKeys (One sort.ClassExpression ∷ Keys ∷ []) refl keys_fit

-- two members of a set
pair_row : (t : Tag) (s : Sort) (ts : List Tag) → slice_get (ways_of_rows axiom_rows t) 0 ≡ Some (One s ∷ One s ∷ []) → length ts ≡ 2 → list_all (admits s) ts ≡ true → HasRowIn axiom_rows t ts
pair_row t s [] e n h = absurd (omega (arith, n))
pair_row t s (u ∷ []) e n h = absurd (omega (arith, n))
pair_row t s (u ∷ v ∷ []) e n h =
    let both = and_parts (admits s u) (admits s v && true) h in
    row_by_way axiom_rows t (u ∷ v ∷ []) (One s ∷ One s ∷ []) (way_at_place t 0 (One s ∷ One s ∷ []) e)
    (two_fit s s u v both.0 (and_parts (admits s v) true both.1).0)
pair_row t s (u ∷ v ∷ w ∷ ts) e n h = absurd (omega (arith, n))

-- Each axiom has a row.

-- the sets of which only pairs are triples, and nothing else is there
abbrev pub is_of_pairs : Tag → Bool
is_of_pairs t = is_pair t && not (lists_members t)

-- Kids with these tags stand behind the annotations of an axiom of a normal form: of a set that only pairs say, two at most, and in an
-- assertion a named property.
pub record CanBehind (t : Tag) (ts : List Tag) : Type 0 where
  pub fits : fits_front (front_of t) (rest_of t) ts ≡ true
  pub pairs : is_of_pairs t ≡ true → length ts ≤ 2
  pub named : t ≡ tag.ObjectPropertyAssertion → fits_front (sort.ObjectProperty ∷ sort.Individual ∷ sort.Individual ∷ []) Nothing ts ≡ true

two_of : (n : ℕ) → 1 ≤ n → (n ≡ 1 → ⊥) → n ≤ 2 → n ≡ 2
two_of zero h none few = absurd (omega arith)
two_of (suc zero) h none few = absurd (none refl)
two_of (suc (suc n)) h none few = omega arith

set_row : (t : Tag) (s : Sort) (ts : List Tag) → slice_get (ways_of_rows axiom_rows t) 0 ≡ Some (One s ∷ One s ∷ []) → length ts ≤ 2 → (length ts ≡ 1 → ⊥) → fits_front [] (Set s 2) ts ≡ true → HasRowIn axiom_rows t ts
set_row t s ts e n none f =
    let parts = and_parts (nat_le (min 2 1) (length ts)) (list_all (admits s) ts) f in
    pair_row t s ts e (two_of (length ts) (leb-true 1 (length ts) parts.0) none n) parts.1

irregular_row : (t : Tag) (ts : List Tag) → (is_axiom t && not (is_regular t)) ≡ true → CanBehind t ts → (is_pair t ≡ true → length ts ≡ 1 → ⊥) → HasRowIn axiom_rows t ts
unfolding axiom_rows row_of number_of is_pair
irregular_row tag.Declaration ts h c none = declaration_row ts c.fits
irregular_row tag.SubObjectPropertyOf ts h c none =
    let two = are_two sort.SubObjectPropertyExpression sort.ObjectPropertyExpression ts c.fits in
    subst (λ us. HasRowIn axiom_rows tag.SubObjectPropertyOf us) (sym two.are) (sub_property_row two.first two.second two.admits_first two.admits_second)
irregular_row tag.HasKey ts h c none = key_row ts c.fits
irregular_row tag.ObjectPropertyAssertion ts h c none = assertion_row ts (c.named refl)
irregular_row tag.EquivalentClasses ts h c none = set_row tag.EquivalentClasses sort.ClassExpression ts refl (c.pairs refl) (none refl) c.fits
irregular_row tag.EquivalentObjectProperties ts h c none = set_row tag.EquivalentObjectProperties sort.ObjectPropertyExpression ts refl (c.pairs refl) (none refl) c.fits
irregular_row tag.EquivalentDataProperties ts h c none = set_row tag.EquivalentDataProperties sort.DataPropertyExpression ts refl (c.pairs refl) (none refl) c.fits
irregular_row tag.SameIndividual ts h c none = set_row tag.SameIndividual sort.Individual ts refl (c.pairs refl) (none refl) c.fits
irregular_row tag.InverseObjectProperties ts h c none = set_row tag.InverseObjectProperties sort.ObjectPropertyExpression ts refl (c.pairs refl) (none refl) c.fits
irregular_row _ ts h c none = absurd (both_ways false refl h)

-- each axiom that a normal form can have has a row that its kids fit, unless it is a set of one that pairs say
pub axiom_row : (t : Tag) (ts : List Tag) → is_axiom t ≡ true → CanBehind t ts → (is_pair t ≡ true → length ts ≡ 1 → ⊥) → HasRowIn axiom_rows t ts
axiom_row t ts a c none =
    elim (cases_Bool (is_regular t)) [
      | inl r ↦ regular_row t ts r c.fits
      | inr n ↦ irregular_row t ts (and_from (is_axiom t) (not (is_regular t)) a (ap not n)) c none
    ]

-- The row of two members that are one.

-- the first that passes one test is the first that passes two, if it does
first_both : (p q : Row → Bool) (rows : List Row) (r : Row) → first_row (filter p rows) ≡ Some r → q r ≡ true → first_row (filter (λ x. p x && q x) rows) ≡ Some r
first_both p q [] r e h = absurd (none-some r e)
first_both p q (x ∷ xs) r e h =
    elim (cases_Bool (p x)) [
      | inl a ↦
          let same = same_Some x r (sym (ap first_row (cond-true (p x) (x ∷ filter p xs) (filter p xs) a)) ∙ e) in
          ap first_row (cond-true (p x && q x) _ _ (and_from (p x) (q x) a (ap q same ∙ h))) ∙ ap Some same
      | inr b ↦
          ap first_row (cond-false (p x && q x) _ _ (ap (λ (c : Bool). c && q x) b))
          ∙ first_both p q xs r (sym (ap first_row (cond-false (p x) (x ∷ filter p xs) (filter p xs) b)) ∙ e) h
    ]

abbrev member_of : Rest → Sort
member_of (Set s n) = s
member_of _ = sort.Notes

-- the sort of the members of a set behind the annotations
abbrev pub member : Tag → Sort
member t = member_of (rest_of t)

abbrev is_link : Site → Bool
is_link (LinkedBy w) = true
is_link _ = false

abbrev links_two : Option Row → Bool
links_two None = false
links_two (Some r) = is_link r.site

abbrev parts_in : Option Row → Option (List Part)
parts_in None = None
parts_in (Some r) = Some r.parts

abbrev first_of : Tag → Option Row
first_of t = first_row (filter (λ r. is_tag r.tag t) axiom_rows)

pair_parts_by : (t : Tag) → cond (is_pair t) (parts_in (first_of t)) None ≡ cond (is_pair t) (Some (two_parts (member t) (member t))) None
unfolding axiom_rows row_of number_of is_pair
pair_parts_by tag.Class = refl
pair_parts_by _ = refl

pair_links_by : (t : Tag) → cond (is_pair t) (links_two (first_of t)) true ≡ true
unfolding axiom_rows number_of is_pair
pair_links_by tag.Class = refl
pair_links_by _ = refl

linked_by : (s : Site) → is_link s ≡ true → (w : Word) × (s ≡ LinkedBy w)
linked_by (LinkedBy w) h = (w, refl)
linked_by _ h = absurd (both_ways false refl h)

pub record HasPairRow (t u : Tag) : Type 0 where
  pub row : Row
  pub word : Word
  pub is : row_for axiom_rows t (u ∷ u ∷ []) ≡ Some row
  pub among : Contains axiom_rows row
  pub tag : is_tag row.tag t ≡ true
  pub site : row.site ≡ LinkedBy word
  pub parts : row.parts ≡ two_parts (member t) (member t)

twice_fits : (s : Sort) (u : Tag) → admits s u ≡ true → fit (two_parts s s) (u ∷ u ∷ []) ≡ true
unfolding fit
twice_fits s u h = and_from (admits s u) _ h (and_from (admits s u) true h refl)

pair_row_of : (t u : Tag) (o : Option Row) → first_of t ≡ o → is_pair t ≡ true → admits (member t) u ≡ true → HasPairRow t u
unfolding row_for
pair_row_of t u None e h i = absurd (both_ways false refl (ap links_two (sym e) ∙ sym (cond-true (is_pair t) (links_two (first_of t)) true h) ∙ pair_links_by t))
pair_row_of t u (Some r) e h i =
    let parts : r.parts ≡ two_parts (member t) (member t) =
    same_Some r.parts (two_parts (member t) (member t))
    (ap parts_in (sym e) ∙ same_choice (is_pair t) (parts_in (first_of t)) (Some (two_parts (member t) (member t))) None h (pair_parts_by t)) in
    let site = linked_by r.site (ap links_two (sym e) ∙ sym (cond-true (is_pair t) (links_two (first_of t)) true h) ∙ pair_links_by t) in
    let kept = from_filter (λ q. is_tag q.tag t) axiom_rows r (first_in (filter (λ q. is_tag q.tag t) axiom_rows) r e) in
    record {
      row = r;
      word = site.0;
      is =
          first_both (λ q. is_tag q.tag t) (λ q. fit q.parts (u ∷ u ∷ [])) axiom_rows r e
          (ap (λ (ps : List Part). fit ps (u ∷ u ∷ [])) parts ∙ twice_fits (member t) u i);
      among = kept.inside;
      tag = kept.passes;
      site = site.1;
      parts = parts;
    }

-- one member of a set that pairs say is written as two of them
pub pair_row_twice : (t u : Tag) → is_pair t ≡ true → admits (member t) u ≡ true → HasPairRow t u
pair_row_twice t u h i = pair_row_of t u (first_of t) refl h i

-- what one member of such a set is
pair_rest_by : (t : Tag) → cond (is_pair t) (tree.Node (front_of t) (rest_of t)) (tree.Node [] Nothing) ≡ cond (is_pair t) (tree.Node [] (Set (member t) 2)) (tree.Node [] Nothing)
unfolding row_of number_of is_pair
pair_rest_by tag.Class = refl
pair_rest_by _ = refl

pub members_fit : (t : Tag) (ts : List Tag) → is_pair t ≡ true → fits_front (front_of t) (rest_of t) ts ≡ true → list_all (admits (member t)) ts ≡ true
members_fit t ts h f =
    let row = same_choice (is_pair t) (tree.Node (front_of t) (rest_of t)) (tree.Node [] (Set (member t) 2)) (tree.Node [] Nothing) h (pair_rest_by t) in
    (and_parts (nat_le (min 2 1) (length ts)) (list_all (admits (member t)) ts) (sym (ap (λ (r : tree.Row). fits r ts) row) ∙ f)).1
