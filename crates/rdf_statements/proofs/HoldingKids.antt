-- The kids of a form get their numbers one by one.
use Rattle.std.specs.Prelude.{◌≡◌, ◌<◌, List, [], ◌∷◌, ◌++◌, Contains, Option, IfErr, IfOk}
use Rattle.std.specs.List.{AllByRecursion}
use Rattle.std.specs.declared.vec.Vec.{Vec}
use Rattle.std.proofs.Common.{Global, refl, ap, sym, subst, append_assoc, append-nil, ◌∙◌}
use Rattle.std.specs.declared.result.Result.{Result}
use Rattle.std.specs.declared.result.Result.TheVariants.{Ok, Err}
use Rattle.std.proofs.lemmas.List.{length-map}
use Rattle.std.proofs.lemmas.List.Elements.{Contains-append_right}
use Rattle.std.proofs.lemmas.Option.{slice_get_within}
use Rattle.owl_list.proofs.AscendingLaws.{from_map, in_head, in_tail}
use Rattle.owl_kind.specs.Kinds.{Entity}
use Rattle.owl_tree.specs.declared.tag.Tag.{Tag}
use Rattle.owl_tree.specs.Trees.{Tree, node, kids_of}
use Rattle.rdf_graph.specs.declared.triple.Triple.{Triple}
use Rattle.rdf_meaning.specs.Statements.{axioms_of}
use Rattle.rdf_roles.specs.Tables.{RoleTable}
use Rattle.tree_stores.specs.Stores.{AreStanding, Keeps, StandFor}
use Rattle.tree_stores.proofs.StoreLaws.{keeps_all, keeps_more, stand_still, one_more_stands}
use Rattle.tree_stores.specs.declared.fault.TreeFault.{TreeFault}
use Rattle.rdf_annotations.specs.Annotations.{IsFaultOfSome}
use Rattle.rdf_nodes.specs.declared.form.Operand.{Operand}
use Rattle.rdf_nodes.specs.declared.form.Operand.TheVariants as operand
use Rattle.rdf_nodes.specs.Numbers.{AreKnown, AreNumbered, HasItsNumber, StandsFor}
use Rattle.rdf_nodes.specs.Operands.{AllMean, Means, labels}
use Rattle.rdf_statements.specs.declared.form.AxiomForm.{AxiomForm}
use Rattle.rdf_statements.specs.declared.form.Kid.{Kid}
use Rattle.rdf_statements.specs.declared.form.Kid.TheVariants as kid
use Rattle.rdf_statements.specs.Forms.{AllKidsMean, KidMeans}
use Rattle.rdf_statements.proofs.FormLaws.{split}
use Rattle.rdf_statements.specs.Holding.{FormStands, HaveTrees, IsFaultOfOne, IsOfForm, IsOfKids, KidStands, KidsStand}
use Rattle.rdf_statements.proofs.Faults.{fault_by_some, fault_of_node, fault_of_one, fault_of_some}
use Rattle.rdf_statements.proofs.Standing.{both_mean}

pub ok_more : {A E : Type 0} {P Q : A → Type 0} → ((a : A) → P a → Q a) → (r : Result A E) → IfOk r P → IfOk r Q
ok_more w (Ok a) h = w a h
ok_more w (Err e) h = tt

pub err_more : {A E : Type 0} {P Q : E → Type 0} → ((e : E) → P e → Q e) → (r : Result A E) → IfErr r P → IfErr r Q
err_more w (Ok a) h = tt
err_more w (Err e) h = w e h

pub standing_still : {N : Type 0} (Old New : Tree → N → Type 0) → Keeps Old New → (ns : List N) → AreStanding Old ns → AreStanding New ns
standing_still Old New kept ns h = record { trees = h.trees; stand = stand_still Old New kept h.trees ns h.stand }

module _ (g : List Triple) (k : List Entity) (roles : RoleTable) where
  pub numbered_still : {N : Type 0} (Old New : Tree → N → Type 0) → Keeps Old New → (ids : List (Option N)) → AreNumbered g k roles Old ids → AreNumbered g k roles New ids
  numbered_still Old New kept ids are number n at =
      let h = are number n at in
      record { tree = h.tree; denoted = h.denoted; held = kept h.tree n h.held }

  -- one kid

  pub one_stands : {N : Type 0} (Stands : Tree → N → Type 0) (x : Kid) (o : Operand) → x ≡ kid.One o → (n : N) → StandsFor g k roles Stands o n → KidStands g k roles Stands x n
  one_stands Stands x o is n s =
      subst (λ y. KidStands g k roles Stands y n) (sym is) (record { tree = s.tree; means = s.means; stands = s.held })

  pub group_means : (x : Kid) (t : Tag) (os : Vec Operand Global) (members : List Tree) → x ≡ kid.Group t os → AllMean g k roles os.items members →
      KidMeans g k roles x (node t (kids_of members))
  group_means x t os members is mean =
      subst (λ y. KidMeans g k roles y (node t (kids_of members))) (sym is) (record { members = members; mean = mean; whole = refl })

  first_has : (x : Kid) (more : List Kid) (ts : List Tree) → AllKidsMean g k roles (x ∷ more) ts → HaveTrees g k roles (x ∷ [])
  first_has x more [] m = absurd m
  first_has x more (t ∷ ts) m = record { trees = t ∷ []; mean = (m.0, tt) }

  -- the first kids have their numbers
  module _ {N : Type 0} (Old : Tree → N → Type 0) (all : List Kid) where
    pub record AreKidsHeld (Now : Tree → N → Type 0) (numbers : List N) (rest : List Kid) : Type 0 where
      pub done : List Kid
      pub split : all ≡ done ++ rest
      pub trees : List Tree
      pub mean : AllKidsMean g k roles done trees
      pub stand : StandFor Now trees numbers
      pub kept : Keeps Old Now

    pub no_kids_held : AreKidsHeld Old [] all
    no_kids_held = record { done = []; split = refl; trees = []; mean = tt; stand = tt; kept = keeps_all Old }

    pub more_kids_held : (Now New : Tree → N → Type 0) (numbers : List N) (x : Kid) (n : N) (rest behind : List Kid) → AreKidsHeld Now numbers rest → rest ≡ x ∷ behind →
        KidStands g k roles New x n → Keeps Now New → AreKidsHeld New (numbers ++ n ∷ []) behind
    more_kids_held Now New numbers x n rest behind h first s kept = record {
      done = h.done ++ x ∷ [];
      split = h.split ∙ ap (λ more. h.done ++ more) first ∙ sym (append_assoc h.done (x ∷ []) behind);
      trees = h.trees ++ s.tree ∷ [];
      mean = both_mean g k roles h.done (x ∷ []) h.trees (s.tree ∷ []) h.mean (s.means, tt);
      stand = one_more_stands New h.trees numbers s.tree n (stand_still Now New kept h.trees numbers h.stand) s.stands;
      kept = keeps_more Old Now New h.kept kept;
    }

    pub all_kids_held : (Now : Tree → N → Type 0) (numbers : List N) (rest : List Kid) → AreKidsHeld Now numbers rest → rest ≡ [] → KidsStand g k roles Now all numbers
    all_kids_held Now numbers rest h none = record {
      trees = h.trees;
      mean = subst (λ ks. AllKidsMean g k roles ks h.trees) (sym (h.split ∙ ap (λ more. h.done ++ more) none ∙ append-nil h.done)) h.mean;
      stand = h.stand;
    }

    -- what the next kid stands for is one of what all stand for
    next_of_kids : (Now : Tree → N → Type 0) (numbers : List N) (x : Kid) (rest behind : List Kid) → AreKidsHeld Now numbers rest → rest ≡ x ∷ behind → (ts : List Tree) →
        AllKidsMean g k roles (x ∷ behind) ts → (t : Tree) → KidMeans g k roles x t → IsOfKids g k roles all t
    next_of_kids Now numbers x rest behind h first [] m t means = absurd m
    next_of_kids Now numbers x rest behind h first (u ∷ ts) m t means = record {
      trees = h.trees ++ t ∷ ts;
      mean =
          subst (λ ks. AllKidsMean g k roles ks (h.trees ++ t ∷ ts)) (sym (h.split ∙ ap (λ more. h.done ++ more) first))
          (both_mean g k roles h.done (x ∷ behind) h.trees (t ∷ ts) h.mean (means, m.1));
      among = Contains-append_right h.trees (t ∷ ts) t (in_head t ts);
    }

    pub kid_fault : {H : Type 0} (Now : Tree → N → Type 0) (numbers : List N) (x : Kid) (rest behind : List Kid) → AreKidsHeld Now numbers rest → rest ≡ x ∷ behind → HaveTrees g k roles all → (f : TreeFault H) →
        IsFaultOfSome (KidMeans g k roles x) f → IsFaultOfSome (IsOfKids g k roles all) f
    kid_fault Now numbers x rest behind h first has f fault =
        let s =
        split g k roles h.done (x ∷ behind) has.trees
        (subst (λ ks. AllKidsMean g k roles ks has.trees) (h.split ∙ ap (λ more. h.done ++ more) first) has.mean) in
        fault_of_some (KidMeans g k roles x) (IsOfKids g k roles all) (next_of_kids Now numbers x rest behind h first s.behind s.rest) f fault

    -- the next kid stands for a tree
    pub next_has : (Now : Tree → N → Type 0) (numbers : List N) (x : Kid) (rest behind : List Kid) → AreKidsHeld Now numbers rest → rest ≡ x ∷ behind → HaveTrees g k roles all → HaveTrees g k roles (x ∷ [])
    next_has Now numbers x rest behind h first has =
        let s =
        split g k roles h.done (x ∷ behind) has.trees
        (subst (λ ks. AllKidsMean g k roles ks has.trees) (h.split ∙ ap (λ more. h.done ++ more) first) has.mean) in
        first_has x behind s.behind s.rest

  -- the nodes that a kid's operands are have numbers

  operand_numbered : {N : Type 0} (ids : List (Option N)) → AreKnown g roles ids → (o : Operand) (t : Tree) → Means g k roles o t → HasItsNumber ids o
  operand_numbered ids known (operand.Leaf u a) t m = tt
  operand_numbered ids known (operand.Facet iri literal) t m = tt
  operand_numbered ids known (operand.Node number) t m =
      known number (subst (λ n. number < n) (length-map roles.nodes (λ e. e.0)) (slice_get_within (labels roles) number m.label m.at)) m.label m.sort m.at m.gives

  operands_numbered : {N : Type 0} (ids : List (Option N)) → AreKnown g roles ids → (os : List Operand) (ts : List Tree) → AllMean g k roles os ts → AllByRecursion (HasItsNumber ids) os
  operands_numbered ids known [] ts m = tt
  operands_numbered ids known (o ∷ os) [] m = absurd m
  operands_numbered ids known (o ∷ os) (t ∷ ts) m = (operand_numbered ids known o t m.0, operands_numbered ids known os ts m.1)

  only_tree : (x : Kid) (ts : List Tree) → AllKidsMean g k roles (x ∷ []) ts → (t : Tree) × KidMeans g k roles x t
  only_tree x [] m = absurd m
  only_tree x (t ∷ ts) m = (t, m.0)

  pub one_numbered : {N : Type 0} (ids : List (Option N)) (x : Kid) (o : Operand) → AreKnown g roles ids → HaveTrees g k roles (x ∷ []) → x ≡ kid.One o → HasItsNumber ids o
  one_numbered ids x o known has is =
      let own = only_tree x has.trees has.mean in
      operand_numbered ids known o own.0 (subst (λ y. KidMeans g k roles y own.0) is own.1)

  pub group_numbered : {N : Type 0} (ids : List (Option N)) (x : Kid) (t : Tag) (os : Vec Operand Global) → AreKnown g roles ids → HaveTrees g k roles (x ∷ []) → x ≡ kid.Group t os →
      AllByRecursion (HasItsNumber ids) os.items
  group_numbered ids x t os known has is =
      let own = only_tree x has.trees has.mean in
      let group = subst (λ y. KidMeans g k roles y own.0) is own.1 in
      operands_numbered ids known os.items group.members group.mean

  -- the axioms of a form

  pub form_stands : {N : Type 0} (Stands : Tree → N → Type 0) (form : AxiomForm) (ss kids : List Tree) (ns : List N) → AllKidsMean g k roles form.kids.items kids →
      StandFor Stands (axioms_of form.tag kids ss) ns → FormStands g k roles Stands form ss ns
  form_stands Stands form ss kids ns mean stand = record { kids = kids; mean = mean; stand = stand }

  of_form : (form : AxiomForm) (ss kids : List Tree) → AllKidsMean g k roles form.kids.items kids → (t : Tree) → Contains (axioms_of form.tag kids ss) t → IsOfForm g k roles form ss t
  of_form form ss kids mean t m =
      let v = from_map (λ s. node form.tag (kids_of (s ∷ kids))) ss t m in
      record { kids = kids; mean = mean; annotations = v.element; inside = v.inside; whole = sym v.value }

  pub form_fault : {H : Type 0} (form : AxiomForm) (ss kids : List Tree) → AllKidsMean g k roles form.kids.items kids → (f : TreeFault H) → IsFaultOfOne (axioms_of form.tag kids ss) f →
      IsFaultOfSome (IsOfForm g k roles form ss) f
  form_fault form ss kids mean f = fault_of_some (Contains (axioms_of form.tag kids ss)) (IsOfForm g k roles form ss) (of_form form ss kids mean) f

  pub form_has_fault : {H : Type 0} (form : AxiomForm) (ss : List Tree) (s : Tree) → Contains ss s → (f : TreeFault H) → IsFaultOfSome (IsOfKids g k roles form.kids.items) f →
      IsFaultOfSome (IsOfForm g k roles form ss) f
  form_has_fault form ss s m f =
      fault_by_some (IsOfKids g k roles form.kids.items) (IsOfForm g k roles form ss) f
      (λ t of h.
      fault_of_one (IsOfForm g k roles form ss) (node form.tag (kids_of (s ∷ of.trees)))
      (record { kids = of.trees; mean = of.mean; annotations = s; inside = m; whole = refl }) f
      (fault_of_node form.tag (s ∷ of.trees) t (in_tail s of.trees t of.among) f h))
