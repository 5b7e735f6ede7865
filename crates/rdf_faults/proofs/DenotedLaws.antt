-- In a graph whose nodes have their form, that has no cycle, and whose triples name what they may, each term denotes what it may stand for.
use Rattle.std.specs.Prelude.{◌≡◌, ◌≤◌, ◌⊎◌, ℕ, suc, Bool, true, not, ◌||◌, IsTrue, is_some, List, [], ◌∷◌, ◌++◌, length, Option, None, Some, option_map}
use Rattle.std.specs.List.{AllByRecursion, list_all}
use Rattle.std.proofs.Common.{inl, inr, refl, sym, ap, ◌∙◌, subst, arith}
use Rattle.std.proofs.lemmas.Bool.{cond-true, or_cases}
use Rattle.std.proofs.lemmas.List.{length-append}
use Rattle.owl_kind.specs.Kinds.{Entity}
use Rattle.owl_tree.specs.Rows.{admits}
use Rattle.owl_tree.specs.Tags.{number_of}
use Rattle.owl_tree.specs.declared.row.Sort.{Sort}
use Rattle.owl_tree.specs.declared.row.Sort.TheVariants as sort
use Rattle.owl_tree.specs.Trees.{Tree, node, kids_of}
use Rattle.rdf_graph.specs.declared.term.Term.{Term}
use Rattle.rdf_graph.specs.declared.triple.Triple.{Triple}
use Rattle.rdf_meaning.specs.declared.role.Role.{Role}
use Rattle.rdf_meaning.specs.declared.role.Role.TheVariants as role
use Rattle.rdf_meaning.specs.declared.row.Part.{Part}
use Rattle.rdf_meaning.specs.declared.row.Want.{Want}
use Rattle.rdf_meaning.specs.declared.row.Want.TheVariants.{One, Many, Whole, Keys, Declared, Mark, True}
use Rattle.rdf_meaning.specs.Nodes.{is_facet, is_own, is_role, is_structural, role_of}
use Rattle.rdf_meaning.specs.Rows.{Row, node_rows}
use Rattle.rdf_meaning.specs.RowTests.{has_row}
use Rattle.rdf_meaning.specs.Denotation.{AreKeys, no_key, object_key, data_key, Bearer, Denotes, by_list, by_whole, by_keys, by_declaration, mark, is_true, Holds, no_parts, part, Lists, no_cell, cell, declared_entity, facet_pair, facets_of, literal_leaf, select, simple}
use Rattle.rdf_meaning.specs.Statements.{IsDirectlyBelow}
use Rattle.rdf_faults.specs.Asked.{HasElements, IsAskedFor, IsMet, IsMetAt, IsTypedAs, is_key, is_of_sort, role_gives}
use Rattle.rdf_faults.specs.Formed.{HasFormedRow, IsFormedAs}
use Rattle.rdf_faults.proofs.BelowLaws.{elements_are, first_below, leads_by_words, rest_below}
use Rattle.rdf_faults.specs.WantLaws.{key_longer, object_longer, one_long, site_gives}

pub some_value : {A : Type 0} (o : Option A) → is_some o ≡ true → (a : A) × (o ≡ Some a)
some_value None h = cc
some_value (Some a) h = (a, refl)

-- a row of a node whose role gives such trees gives one

abbrev pub gives_such : Sort → Row → Bool
gives_such s row = not (site_gives row.site s) || admits s row.tag

pub rows_give_such : (s : Sort) → list_all (gives_such s) node_rows ≡ true
unfolding node_rows admits number_of
rows_give_such sort.Notes = refl
rows_give_such _ = refl

pub giving : (r : Role) (s : Sort) → role_gives r s ≡ true → (has_row r ≡ true) ⊎ ((r ≡ role.Facet) × (s ≡ sort.FacetPair))
giving role.Property s h = inl refl
giving role.Class s h = inl refl
giving role.Range s h = inl refl
giving role.Facet sort.FacetPair h = inr (refl, refl)
giving role.Facet _ h = cc
giving role.List _ h = cc
giving role.Main _ h = cc
giving role.Note _ h = cc
giving role.Header _ h = cc
giving role.Individual _ h = cc

pub row_leads : (r : Role) → has_row r ≡ true → leads_by_words r ≡ true
row_leads role.Property h = refl
row_leads role.Class h = refl
row_leads role.Range h = refl
row_leads _ h = cc

pub formed_row : (g : List Triple) (r : Role) (x : Term) → has_row r ≡ true → IsFormedAs g r x → HasFormedRow g node_rows x
formed_row g role.Property x h f = f
formed_row g role.Class x h f = f
formed_row g role.Range x h f = f
formed_row g _ x h f = cc

pub asked_as : (g : List Triple) (k : List Entity) (r : Role) (t : Triple) → has_row r ≡ true → IsTypedAs g k r t → IsAskedFor g k t
asked_as g k role.Property t h a = a
asked_as g k role.Class t h a = a
asked_as g k role.Range t h a = a
asked_as g k _ t h a = cc

some_mapped : {A B : Type 0} (f : A → B) (o : Option A) → is_some o ≡ true → is_some (option_map f o) ≡ true
some_mapped f None h = cc
some_mapped f (Some a) h = refl

pub some_pair : (ts : List Triple) (t : Triple) → ts ≡ t ∷ [] → is_some (literal_leaf t.object) ≡ true → is_some (facet_pair ts) ≡ true
some_pair ts t e h = ap (λ us. is_some (facet_pair us)) e ∙ some_mapped _ (literal_leaf t.object) h

pub facet_simple : (g : List Triple) (k : List Entity) (x : Term) → role_of g x ≡ role.Facet → is_some (facet_pair (facets_of g x)) ≡ true → is_some (simple g k sort.FacetPair x) ≡ true
unfolding simple
facet_simple g k x e h =
    ap is_some (cond-true (is_role role.Facet (role_of g x)) (facet_pair (facets_of g x)) None (ap (is_role role.Facet) e)) ∙ h

pub facet_structural : (g : List Triple) (t : Triple) → role_of g t.subject ≡ role.Facet → is_facet t.predicate ≡ true → is_structural g t ≡ true
unfolding is_structural
facet_structural g t e h = subst (λ r. is_own r t ≡ true) (sym e) h

module _ (g : List Triple) (k : List Entity) where
  pub record HasKeys (x : Term) (n : ℕ) : Type 0 where
    pub os : List Tree
    pub ds : List Tree
    pub keys : AreKeys g k x os ds
    pub count : length (os ++ ds) ≡ n

  pub record HasList (x : Term) (s : Sort) (n : ℕ) : Type 0 where
    pub trees : List Tree
    pub lists : Lists g k x s trees
    pub count : length trees ≡ n

  -- the term denotes what it may stand for, and as a list or a list of keys what its elements may
  pub record IsRead (x : Term) : Type 0 where
    pub tree : (s : Sort) → is_of_sort g k s x ≡ true → (ts : List Tree) × Denotes g k x (One s) ts
    pub list : (s : Sort) (ys : List Term) → HasElements g x ys → AllByRecursion (λ y. IsTrue (is_of_sort g k s y)) ys → HasList x s (length ys)
    pub keys : (ys : List Term) → HasElements g x ys → AllByRecursion (λ y. IsTrue (is_key g k y)) ys → HasKeys x (length ys)

  pub met_denotes : (w : Want) (x : Term) → IsRead x → IsMet g k w x → (ts : List Tree) × Denotes g k x w ts
  met_denotes (One s) x read met = read.tree s met
  met_denotes (Many s least) x read met =
      let l = read.list s met.elements met.has_elements met.each in
      (l.trees, by_list s x least l.trees (subst (λ n. least ≤ n) (sym l.count) met.many) l.lists)
  met_denotes (Whole t s least) x read met =
      let l = read.list s met.elements met.has_elements met.each in
      (node t (kids_of l.trees) ∷ [], by_whole t s x least l.trees (subst (λ n. least ≤ n) (sym l.count) met.many) l.lists)
  met_denotes Keys x read met =
      let l = read.keys met.elements met.has_elements met.each in
      (_, by_keys x l.os l.ds (subst (λ n. 1 ≤ n) (sym l.count) met.many) l.keys)
  met_denotes (Declared t) x read met =
      let u = some_value (declared_entity k t x) met in (u.0 ∷ [], by_declaration t x u.0 u.1)
  met_denotes Mark x read met = ([], mark x)
  met_denotes True x read met = ([], is_true x met)

  -- the one term at the part, which is read
  pub record HasRead (b : Bearer) (p : Part) : Type 0 where
    pub z : Term
    pub one : select g b p.place ≡ z ∷ []
    pub read : IsRead z

  pub parts_hold : (b : Bearer) (ps : List Part) → AllByRecursion (IsMetAt g k b) ps → AllByRecursion (HasRead b) ps → (ts : List Tree) × Holds g k b ps ts
  parts_hold b [] met stands = ([], no_parts b)
  parts_hold b (p ∷ ps) met stands =
      let s = stands.0 in
      let first = met_denotes p.want s.z s.read (subst (AllByRecursion (IsMet g k p.want)) s.one met.0).0 in
      let rest = parts_hold b ps met.1 stands.1 in
      (first.0 ++ rest.0, part b p ps s.z first.0 rest.0 s.one first.1 rest.1)

  longer : (ts us : List Tree) (n : ℕ) → length ts ≡ 1 → length us ≡ n → length (ts ++ us) ≡ suc n
  longer ts us n e f = let both = length-append ts us in omega (arith, both, e, f)

  -- a cell, where what is below it is read

  pub list_read : (x : Term) → ((y : Term) → IsDirectlyBelow g y x → IsRead y) → (s : Sort) (ys : List Term) → HasElements g x ys → AllByRecursion (λ y. IsTrue (is_of_sort g k s y)) ys → HasList x s (length ys)
  list_read x below s ys h each =
      elim (elements_are g x ys h) [
        | inl empty ↦ record { trees = []; lists = no_cell s x empty.0; count = sym (ap length empty.1) }
        | inr c ↦
            let all = subst (AllByRecursion (λ y. IsTrue (is_of_sort g k s y))) c.joined each in
            let first = (below c.first (first_below g x c.first c.list c.one_first)).tree s all.0 in
            let rest = (below c.rest (rest_below g x c.rest c.list c.one_rest)).list s c.more c.has_elements all.1 in
            record {
              trees = first.0 ++ rest.trees;
              lists = cell s x c.first c.rest first.0 rest.trees c.list c.one_first c.one_rest first.1 rest.lists;
              count = longer first.0 rest.trees (length c.more) (one_long g k s c.first first.0 first.1) rest.count ∙ sym (ap length c.joined);
            }
      ]

  pub keys_read : (x : Term) → ((y : Term) → IsDirectlyBelow g y x → IsRead y) → (ys : List Term) → HasElements g x ys → AllByRecursion (λ y. IsTrue (is_key g k y)) ys → HasKeys x (length ys)
  keys_read x below ys h each =
      elim (elements_are g x ys h) [
        | inl empty ↦ record { os = []; ds = []; keys = no_key x empty.0; count = sym (ap length empty.1) }
        | inr c ↦
            let all = subst (AllByRecursion (λ y. IsTrue (is_key g k y))) c.joined each in
            let first = below c.first (first_below g x c.first c.list c.one_first) in
            let rest = (below c.rest (rest_below g x c.rest c.list c.one_rest)).keys c.more c.has_elements all.1 in
            let count : suc (length (rest.os ++ rest.ds)) ≡ length ys = ap suc rest.count ∙ sym (ap length c.joined) in
            elim (or_cases (is_of_sort g k sort.ObjectPropertyExpression c.first) (is_of_sort g k sort.DataPropertyExpression c.first) all.0) [
              | inl o ↦
                  let tree = first.tree sort.ObjectPropertyExpression o in
                  record {
                    os = tree.0 ++ rest.os;
                    ds = rest.ds;
                    keys = object_key x c.first c.rest tree.0 rest.os rest.ds c.list c.one_first c.one_rest tree.1 rest.keys;
                    count = sym (object_longer g k tree.0 rest.os rest.ds (one_long g k _ c.first tree.0 tree.1)) ∙ count;
                  }
              | inr d ↦
                  let tree = first.tree sort.DataPropertyExpression d in
                  record {
                    os = rest.os;
                    ds = tree.0 ++ rest.ds;
                    keys = data_key x c.first c.rest tree.0 rest.os rest.ds c.list c.one_first c.one_rest tree.1 rest.keys;
                    count = sym (key_longer g k rest.os tree.0 rest.ds (one_long g k _ c.first tree.0 tree.1)) ∙ count;
                  }
            ]
      ]
