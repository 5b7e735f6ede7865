-- What a graph keeps of the form at a part of an axiom's row denotes the kids that stand there.
use Rattle.std.proofs.Common.{◌≡◌, ◌≤◌, ◌+◌, ℕ, suc, Bool, true, false, cond, List, [], ◌∷◌, ◌++◌, length, refl, sym, ap, ◌∙◌, subst, arith}
use Rattle.std.specs.Prelude.{map, min, nat_eq, nat_le, ◌&&◌, ◌||◌, Option, None, Some}
use Rattle.std.specs.List.{AllByRecursion, list_all}
use Rattle.std.proofs.lemmas.Bool.{and_from, and_parts, both_ways, cond-true, eqb-true, leb-true}
use Rattle.std.proofs.lemmas.List.{length-append, length-map}
use Rattle.std.proofs.lemmas.Option.{none-some, same_Some}
use Rattle.std.proofs.lemmas.Simd.{map-map}
use Rattle.owl_doc.specs.Entities.{AreWellTyped, entities, kind_of}
use Rattle.owl_kind.specs.declared.kind.Kind.{Kind}
use Rattle.owl_kind.specs.declared.kind.Kind.TheVariants as kind
use Rattle.owl_kind.specs.Kinds.{Entity, HasKind}
use Rattle.owl_list.specs.Ascending.{AreApart}
use Rattle.owl_tree.specs.declared.atom.Atom.{Atom}
use Rattle.owl_tree.specs.declared.atom.Atom.TheVariants as atom
use Rattle.owl_tree.specs.declared.row.Sort.{Sort}
use Rattle.owl_tree.specs.declared.row.Sort.TheVariants as sort
use Rattle.owl_tree.specs.declared.tag.Tag.{Tag}
use Rattle.owl_tree.specs.declared.tag.Tag.TheVariants as tag
use Rattle.owl_tree.specs.Rows.{admits, fits, is_tag, row_of, takes}
use Rattle.owl_tree.specs.Shape.{IsShaped}
use Rattle.owl_tree.specs.Tags.{number_of}
use Rattle.owl_tree.specs.Trees.{Tree, Kids, leaf, node, kids_in, kids_of, list_of, tag_of}
use Rattle.rdf_graph.specs.declared.term.Term.TheVariants.{Iri, Blank}
use Rattle.rdf_graph.specs.declared.triple.Triple.{Triple}
use Rattle.rdf_meaning.specs.declared.role.Role.TheVariants as role
use Rattle.rdf_meaning.specs.declared.row.Want.{Want}
use Rattle.rdf_meaning.specs.declared.row.Want.TheVariants.{One, Many, Whole, Keys, Declared}
use Rattle.rdf_meaning.specs.Denotation.{AreKeys, no_key, object_key, data_key, Denotes, by_declaration, by_keys, by_whole, declared_entity, iri_leaf, kind_of_entity}
use Rattle.rdf_meaning.specs.Kinds.{has_kind, may_be_declared}
use Rattle.rdf_meaning.proofs.KindLaws.{has_kind_is}
use Rattle.rdf_meaning.specs.Nodes.{nil_iri, role_of}
use Rattle.rdf_meaning.specs.Rows.{Row, node_rows}
use Rattle.rdf_mapping.specs.Drawing.{Kid, form_of, forms_of, kid_of, kids_seen, listed, row_for, tags_of}
use Rattle.rdf_mapping.specs.Forms.{Form, no_arcs, arc, blank, first_iri, list_form, nodes, rest_iri, term_of, triples}
use Rattle.rdf_mapping.specs.FormLaws.{made_kept}
use Rattle.rdf_mapping.specs.Frames.{AreNamedApart, IsOfNode, Keeps}
use Rattle.rdf_mapping.proofs.ListDrawingLaws.{cell_first, cell_rest, cell_role, list_drawn, listed_drawn}
use Rattle.rdf_mapping.proofs.NodeDrawingLaws.{same_tag, seen_each, written_each}
use Rattle.rdf_mapping.proofs.TreeDrawingLaws.{tree_drawn}
use Rattle.rdf_mapping.specs.Written.{IsDrawn, IsDrawnWell, all_written, doubled, given_of, is_wanted, written}
use Rattle.rdf_axioms.proofs.EndLaws.{IsKnownAt, declared_name, entity_kind}
use Rattle.rdf_axioms.proofs.Placed.{is_chain, is_property_expression}
use Rattle.rdf_axioms.proofs.PlacedLaws.{GivesEach, tags_seen}
use Rattle.rdf_axioms.proofs.RowStandLaws.{KeysAre}
use Rattle.rdf_axioms.proofs.SayableTreeLaws.{IsSayableTree, entity_tree, facets_named, kids_of_node}

-- the label is of a node that is nothing but an individual
abbrev pub IsOfIndividual : List Triple → List ℕ → Type 0
IsOfIndividual g label = role_of g (Blank label) ≡ role.Individual

-- What is kept of the form denotes the trees, and what is known of the form.
pub record IsReadPart (name : ℕ → List ℕ) (most : ℕ) (g : List Triple) (k : List Entity) (w : Want) (f : Form) (us : List Tree) : Type 0 where
  pub read : (n : ℕ) → n + nodes f ≤ most → Keeps name IsOfNode g (triples name f n) n (n + nodes f) → Denotes g k (term_of name f n) w us
  pub known : IsKnownAt k (IsOfIndividual g) w f

-- An entity that is declared.

has_it : (k : List Entity) (kd : Kind) (iri : List ℕ) → HasKind k kd iri → may_be_declared kd iri ≡ true → (has_kind k kd iri && may_be_declared kd iri) ≡ true
has_it k kd iri h m = and_from (has_kind k kd iri) (may_be_declared kd iri) ((has_kind_is k kd iri).1 h) m

of_kind : (a kd : Kind) (iri : List ℕ) → Some a ≡ Some kd → may_be_declared kd iri ≡ true → may_be_declared a iri ≡ true
of_kind a kd iri e m = ap (λ (b : Kind). may_be_declared b iri) (same_Some a kd e) ∙ m

given_entity : (b : Bool) (t : Tag) (iri : List ℕ) → b ≡ true → cond b (Some (iri_leaf t iri)) None ≡ Some (iri_leaf t iri)
given_entity b t iri h = cond-true b (Some (iri_leaf t iri)) None h

typed_entity : (k : List Entity) (a kd : Kind) (t : Tag) (iri : List ℕ) → HasKind k a iri → Some a ≡ Some kd → may_be_declared kd iri ≡ true → cond (has_kind k a iri && may_be_declared a iri) (Some (iri_leaf t iri)) None ≡ Some (iri_leaf t iri)
typed_entity k a kd t iri h e m = given_entity (has_kind k a iri && may_be_declared a iri) t iri (has_it k a iri h (of_kind a kd iri e m))

declared_so : (k : List Entity) (t : Tag) (kd : Kind) (iri : List ℕ) → kind_of_entity t ≡ Some kd → AreWellTyped k (entities (leaf t (atom.Iri iri))) → may_be_declared kd iri ≡ true → declared_entity k t (Iri iri) ≡ Some (iri_leaf t iri)
unfolding declared_entity kind_of
declared_so k tag.Class kd iri e typed m = typed_entity k kind.Class kd tag.Class iri typed.0 e m
declared_so k tag.Datatype kd iri e typed m = typed_entity k kind.Datatype kd tag.Datatype iri typed.0 e m
declared_so k tag.ObjectProperty kd iri e typed m = typed_entity k kind.ObjectProperty kd tag.ObjectProperty iri typed.0 e m
declared_so k tag.DataProperty kd iri e typed m = typed_entity k kind.DataProperty kd tag.DataProperty iri typed.0 e m
declared_so k tag.AnnotationProperty kd iri e typed m = typed_entity k kind.AnnotationProperty kd tag.AnnotationProperty iri typed.0 e m
declared_so k tag.NamedIndividual kd iri e typed m = given_entity (may_be_declared kind.Individual iri) tag.NamedIndividual iri (of_kind kind.Individual kd iri e m)
declared_so k _ kd iri e typed m = absurd (none-some kd e)

-- The kids of trees that no row of expressions draws.

forms_each : (ks : Kids) → forms_of (kids_seen ks) ≡ map form_of (list_of ks)
forms_each ks = ap forms_of (seen_each ks) ∙ map-map (λ (q : Kid). q.form) kid_of (list_of ks)

written_by : (o : Option Row) (t : Tag) (ks : Kids) → row_for node_rows t (tags_of (kids_seen ks)) ≡ o → written (node t ks) ≡ node t (kids_of (given_of o (all_written ks)))
written_by o t ks e = ap (λ (p : Option Row). node t (kids_of (given_of p (all_written ks)))) e

chain_rows : (ts : List Tag) → row_for node_rows tag.ObjectPropertyChain ts ≡ None
unfolding row_for node_rows number_of
chain_rows ts = refl

object_rows : (ts : List Tag) → row_for node_rows tag.ObjectKeys ts ≡ None
unfolding row_for node_rows number_of
object_rows ts = refl

data_rows : (ts : List Tag) → row_for node_rows tag.DataKeys ts ≡ None
unfolding row_for node_rows number_of
data_rows ts = refl

written_plain : (t : Tag) (ks : Kids) → row_for node_rows t (tags_of (kids_seen ks)) ≡ None → written (node t ks) ≡ node t (kids_of (map written (list_of ks)))
written_plain t ks e = written_by None t ks e ∙ ap (λ (us : List Tree). node t (kids_of us)) (written_each ks)

-- what must stand below these

chain_kids : (ts : List Tag) → fits (row_of tag.ObjectPropertyChain) ts ≡ true → (2 ≤ length ts) × (list_all (admits sort.ObjectPropertyExpression) ts ≡ true)
unfolding row_of
chain_kids ts f =
    let parts = and_parts (nat_le 2 (length ts)) (list_all (admits sort.ObjectPropertyExpression) ts) f in (leb-true 2 (length ts) parts.0, parts.1)

object_kids : (ts : List Tag) → fits (row_of tag.ObjectKeys) ts ≡ true → list_all (admits sort.ObjectPropertyExpression) ts ≡ true
unfolding row_of
object_kids ts f = (and_parts (nat_le (min 0 1) (length ts)) (list_all (admits sort.ObjectPropertyExpression) ts) f).1

data_kids : (ts : List Tag) → fits (row_of tag.DataKeys) ts ≡ true → list_all (admits sort.DataPropertyExpression) ts ≡ true
unfolding row_of
data_kids ts f = (and_parts (nat_le (min 0 1) (length ts)) (list_all (admits sort.DataPropertyExpression) ts) f).1

-- such a tree is a node
pub record IsNodeOf (t : Tag) (u : Tree) : Type 0 where
  pub kids : Kids
  pub is : u ≡ node t kids

no_leaf : (t : Tag) (a : Atom) → (is_tag tag.ObjectPropertyChain t || (is_tag tag.ObjectKeys t || is_tag tag.DataKeys t)) ≡ true → takes (row_of t) a ≡ true → ⊥
unfolding row_of number_of
no_leaf tag.ObjectPropertyChain a h k = both_ways false refl k
no_leaf tag.ObjectKeys a h k = both_ways false refl k
no_leaf tag.DataKeys a h k = both_ways false refl k
no_leaf _ a h k = both_ways false refl h

node_of : (t : Tag) (u : Tree) → (is_tag tag.ObjectPropertyChain t || (is_tag tag.ObjectKeys t || is_tag tag.DataKeys t)) ≡ true → is_tag t (tag_of u) ≡ true → IsShaped u → IsNodeOf t u
node_of t (leaf v a) h m shaped =
    absurd (no_leaf t a h (ap (λ (w : Tag). takes (row_of w) a) (same_tag t v m) ∙ shaped.0))
node_of t (node v ks) h m shaped = record { kids = ks; is = ap (λ (w : Tag). node w ks) (sym (same_tag t v m)) }

only_property : (s : Sort) → is_property_expression s ≡ true → sort.ObjectPropertyExpression ≡ s
only_property sort.ObjectPropertyExpression h = refl
only_property _ h = absurd (both_ways false refl h)

module _ (name : ℕ → List ℕ) (most : ℕ) (differ : AreNamedApart name most) (g : List Triple) (k : List Entity) (apart : AreApart g) where
  abbrev IsGood : Tree → Type 0
  IsGood t = IsSayableTree k (IsOfIndividual g) t

  abbrev IsRead : Want → Form → List Tree → Type 0
  IsRead w f us = IsReadPart name most g k w f us

  pub drawn_well : (t : Tree) → IsGood t → IsDrawnWell name most g k t
  drawn_well t good = tree_drawn name most differ g k apart t good.shaped good.typed (facets_named t good.sayable) good.labels

  pub all_drawn_well : (ts : List Tree) → AllByRecursion IsGood ts → AllByRecursion (IsDrawnWell name most g k) ts
  all_drawn_well [] all = tt
  all_drawn_well (t ∷ ts) all = (drawn_well t all.0, all_drawn_well ts all.1)

  each_drawn : (s : Sort) → is_wanted s ≡ true → (ts : List Tree) → list_all (admits s) (map tag_of ts) ≡ true → AllByRecursion IsGood ts → AllByRecursion (IsDrawn name most g k s) ts
  each_drawn s w [] h all = tt
  each_drawn s w (t ∷ ts) h all =
      let parts = and_parts (admits s (tag_of t)) (list_all (admits s) (map tag_of ts)) h in
      ((drawn_well t all.0).drawn s w parts.0, each_drawn s w ts parts.1 all.1)

  pub one_read : (s : Sort) (t : Tree) → is_wanted s ≡ true → admits s (tag_of t) ≡ true → IsGood t → IsRead (One s) (form_of t) (written t ∷ [])
  one_read s t w m good = record { read = (drawn_well t good).drawn s w m; known = record { tree = t; is = refl; suits = m; good = good } }

  many_read : (s : Sort) (least : ℕ) (ts : List Tree) → is_wanted s ≡ true → nat_le least 2 ≡ true → nat_le (min least 1) (length ts) ≡ true → list_all (admits s) (tags_of (map kid_of ts)) ≡ true → AllByRecursion IsGood ts → IsRead (Many s least) (listed least (map form_of ts)) (doubled least (map written ts))
  many_read s least ts w small enough m all =
      record {
        read =
            listed_drawn name most differ g k apart s least ts (leb-true least 2 small) (leb-true (min least 1) (length ts) enough)
            (each_drawn s w ts (ap (list_all (admits s)) (sym (tags_seen ts)) ∙ m) all);
        known = tt;
      }

  declared_read : (u : Tag) (t : Tree) → admits sort.Entity u ≡ true → is_tag u (tag_of t) ≡ true → IsGood t → IsRead (Declared u) (form_of t) (written t ∷ [])
  declared_read u t h m good =
      let kd = entity_kind u h in
      let named = entity_tree u kd.0 t kd.1 good.shaped good.sayable (same_tag u (tag_of t) m) in
      let typed = subst (λ v. AreWellTyped k (entities v)) named.is good.typed in
      record {
        read = λ n few keeps.
            subst (λ v. Denotes g k (term_of name (form_of v) n) (Declared u) (written v ∷ [])) (sym named.is)
            (by_declaration u (Iri named.iri) (iri_leaf u named.iri) (declared_so k u kd.0 named.iri kd.1 typed named.may));
        known = declared_name u t h m good.shaped good.sayable;
      }

  -- A chain.

  listed_two : (fs : List Form) → 2 ≤ length fs → listed 2 fs ≡ list_form fs
  listed_two [] h = absurd (omega (arith, h))
  listed_two (f ∷ []) h = absurd (omega (arith, h))
  listed_two (f ∷ q ∷ fs) h = refl

  chain_of : (ks : Kids) → IsGood (node tag.ObjectPropertyChain ks) → IsRead (Whole tag.ObjectPropertyChain sort.ObjectPropertyExpression 2) (listed 2 (forms_of (kids_seen ks))) (written (node tag.ObjectPropertyChain ks) ∷ [])
  chain_of ks good =
      let ts = list_of ks in
      let kids = chain_kids (map tag_of ts) good.shaped.0.row in
      let all = kids_of_node k (IsOfIndividual g) tag.ObjectPropertyChain ks good in
      let enough : 2 ≤ length (map form_of ts) = omega (arith, kids.0, length-map ts tag_of, length-map ts form_of) in
      let form : listed 2 (forms_of (kids_seen ks)) ≡ list_form (map form_of ts) = ap (listed 2) (forms_each ks) ∙ listed_two (map form_of ts) enough in
      let tree = written_plain tag.ObjectPropertyChain ks (chain_rows (tags_of (kids_seen ks))) in
      subst (λ f. IsRead (Whole tag.ObjectPropertyChain sort.ObjectPropertyExpression 2) f (written (node tag.ObjectPropertyChain ks) ∷ [])) (sym form)
      (subst (λ u. IsRead (Whole tag.ObjectPropertyChain sort.ObjectPropertyExpression 2) (list_form (map form_of ts)) (u ∷ [])) (sym tree)
      (record {
        read = λ n few keeps.
            by_whole tag.ObjectPropertyChain sort.ObjectPropertyExpression (term_of name (list_form (map form_of ts)) n) 2 (map written ts)
            (omega (arith, kids.0, length-map ts tag_of, length-map ts written))
            (list_drawn name most differ g k apart sort.ObjectPropertyExpression ts (each_drawn sort.ObjectPropertyExpression refl ts kids.1 all) n few keeps);
        known = tt;
      }))

  chain_tree : (t : Tree) → is_tag tag.ObjectPropertyChain (tag_of t) ≡ true → IsGood t → IsRead (Whole tag.ObjectPropertyChain sort.ObjectPropertyExpression 2) (listed 2 (kid_of t).members) (written t ∷ [])
  unfolding number_of
  chain_tree t m good =
      let is = node_of tag.ObjectPropertyChain t refl m good.shaped in
      subst (λ v. IsRead (Whole tag.ObjectPropertyChain sort.ObjectPropertyExpression 2) (listed 2 (kid_of v).members) (written v ∷ [])) (sym is.is)
      (chain_of is.kids (subst IsGood is.is good))

  whole_read : (u : Tag) (s : Sort) (least : ℕ) (t : Tree) → is_chain u s least ≡ true → is_tag u (tag_of t) ≡ true → IsGood t → IsRead (Whole u s least) (listed least (kid_of t).members) (written t ∷ [])
  whole_read u s least t h m good =
      let first = and_parts (is_tag tag.ObjectPropertyChain u) (is_property_expression s && nat_eq least 2) h in
      let second = and_parts (is_property_expression s) (nat_eq least 2) first.1 in
      let tags : tag.ObjectPropertyChain ≡ u = same_tag tag.ObjectPropertyChain u first.0 in
      let sorts : sort.ObjectPropertyExpression ≡ s = only_property s second.0 in
      let two : 2 ≡ least = sym (eqb-true least 2 second.1) in
      subst (λ v. IsRead (Whole v s least) (listed least (kid_of t).members) (written t ∷ [])) tags
      (subst (λ r. IsRead (Whole tag.ObjectPropertyChain r least) (listed least (kid_of t).members) (written t ∷ [])) sorts
      (subst (λ n. IsRead (Whole tag.ObjectPropertyChain sort.ObjectPropertyExpression n) (listed n (kid_of t).members) (written t ∷ [])) two
      (chain_tree t (ap (λ (v : Tag). is_tag v (tag_of t)) tags ∙ m) good)))

  pub parts_read : GivesEach IsRead IsGood
  parts_read = record { one = one_read; many = many_read; whole = whole_read; declared = declared_read }

  -- Keys.

  data_keys_read : (ds : List Tree) → AllByRecursion (IsDrawn name most g k sort.DataPropertyExpression) ds → (n : ℕ) → n + nodes (list_form (map form_of ds)) ≤ most → Keeps name IsOfNode g (triples name (list_form (map form_of ds)) n) n (n + nodes (list_form (map form_of ds))) → AreKeys g k (term_of name (list_form (map form_of ds)) n) [] (map written ds)
  data_keys_read [] all n few keeps = no_key (Iri nil_iri) refl
  data_keys_read (d ∷ ds) all n few keeps =
      let f = form_of d in
      let more = list_form (map form_of ds) in
      let kept = made_kept name most differ IsOfNode g (arc first_iri f (arc rest_iri more no_arcs)) n few keeps in
      let x = term_of name f (suc n) in
      let y = term_of name more (suc n + nodes f) in
      let s = sort.DataPropertyExpression in
      data_key (blank name n) x y (written d ∷ []) [] (map written ds) (cell_role g k s (name n) x y apart kept.own)
      (cell_first g k s (name n) x y apart kept.own) (cell_rest g k s (name n) x y apart kept.own) (all.0 (suc n) (omega (arith, few)) kept.each.0)
      (data_keys_read ds all.1 (suc n + nodes f) (omega (arith, few)) kept.each.1.0)

  keys_read : (os ds : List Tree) → AllByRecursion (IsDrawn name most g k sort.ObjectPropertyExpression) os → AllByRecursion (IsDrawn name most g k sort.DataPropertyExpression) ds → (n : ℕ) → n + nodes (list_form (map form_of os ++ map form_of ds)) ≤ most → Keeps name IsOfNode g (triples name (list_form (map form_of os ++ map form_of ds)) n) n (n + nodes (list_form (map form_of os ++ map form_of ds))) → AreKeys g k (term_of name (list_form (map form_of os ++ map form_of ds)) n) (map written os) (map written ds)
  keys_read [] ds objects all n few keeps = data_keys_read ds all n few keeps
  keys_read (o ∷ os) ds objects all n few keeps =
      let f = form_of o in
      let more = list_form (map form_of os ++ map form_of ds) in
      let kept = made_kept name most differ IsOfNode g (arc first_iri f (arc rest_iri more no_arcs)) n few keeps in
      let x = term_of name f (suc n) in
      let y = term_of name more (suc n + nodes f) in
      let s = sort.ObjectPropertyExpression in
      object_key (blank name n) x y (written o ∷ []) (map written os) (map written ds) (cell_role g k s (name n) x y apart kept.own)
      (cell_first g k s (name n) x y apart kept.own) (cell_rest g k s (name n) x y apart kept.own) (objects.0 (suc n) (omega (arith, few)) kept.each.0)
      (keys_read os ds objects.1 all (suc n + nodes f) (omega (arith, few)) kept.each.1.0)

  groups_read : (ks ls : Kids) → IsGood (node tag.ObjectKeys ks) → IsGood (node tag.DataKeys ls) → 1 ≤ length (list_of ks ++ list_of ls) → IsRead Keys (list_form (forms_of (kids_seen ks) ++ forms_of (kids_seen ls))) (written (node tag.ObjectKeys ks) ∷ written (node tag.DataKeys ls) ∷ [])
  groups_read ks ls good fine some =
      let os = list_of ks in
      let ds = list_of ls in
      let objects = each_drawn sort.ObjectPropertyExpression refl os (object_kids (map tag_of os) good.shaped.0.row) (kids_of_node k (IsOfIndividual g) tag.ObjectKeys ks good) in
      let all = each_drawn sort.DataPropertyExpression refl ds (data_kids (map tag_of ds) fine.shaped.0.row) (kids_of_node k (IsOfIndividual g) tag.DataKeys ls fine) in
      let form : list_form (forms_of (kids_seen ks) ++ forms_of (kids_seen ls)) ≡ list_form (map form_of os ++ map form_of ds) =
      λ i. list_form (forms_each ks i ++ forms_each ls i) in
      subst (λ f. IsRead Keys f (written (node tag.ObjectKeys ks) ∷ written (node tag.DataKeys ls) ∷ [])) (sym form)
      (subst (λ u. IsRead Keys (list_form (map form_of os ++ map form_of ds)) (u ∷ written (node tag.DataKeys ls) ∷ [])) (sym (written_plain tag.ObjectKeys ks (object_rows (tags_of (kids_seen ks)))))
      (subst (λ v. IsRead Keys (list_form (map form_of os ++ map form_of ds)) (node tag.ObjectKeys (kids_of (map written os)) ∷ v ∷ [])) (sym (written_plain tag.DataKeys ls (data_rows (tags_of (kids_seen ls)))))
      (record {
        read = λ n few keeps.
            by_keys (term_of name (list_form (map form_of os ++ map form_of ds)) n) (map written os) (map written ds)
            (omega (arith, some, length-append os ds, length-append (map written os) (map written ds), length-map os written, length-map ds written))
            (keys_read os ds objects all n few keeps);
        known = tt;
      })))

  pub both_keys_read : KeysAre IsRead IsGood
  unfolding number_of
  both_keys_read o d h i good fine some =
      let object = node_of tag.ObjectKeys o refl h good.shaped in
      let data_keys = node_of tag.DataKeys d refl i fine.shaped in
      subst (λ u. IsRead Keys (list_form ((kid_of u).members ++ (kid_of d).members)) (written u ∷ written d ∷ [])) (sym object.is)
      (subst (λ v. IsRead Keys (list_form ((kid_of (node tag.ObjectKeys object.kids)).members ++ (kid_of v).members)) (written (node tag.ObjectKeys object.kids) ∷ written v ∷ [])) (sym data_keys.is)
      (groups_read object.kids data_keys.kids (subst IsGood object.is good) (subst IsGood data_keys.is fine)
      (subst (λ u. 1 ≤ length (kids_in u ++ list_of data_keys.kids)) object.is (subst (λ v. 1 ≤ length (kids_in o ++ kids_in v)) data_keys.is some))))
