-- The sets of annotations of nodes, by their numbers.
use Rattle.std.specs.Prelude.{◌≡◌, IfErr, IfOk, IsTrue, Result, ℕ, zero, suc, List, [], ◌∷◌, ◌++◌, Contains, Option, None, Some, map, option_map, slice_get, slice_set}
use Rattle.std.specs.List.{AllByRecursion}
use Rattle.std.specs.Map.{keys_of}
use Rattle.std.proofs.Common.{append-nil, append_assoc, inl, inr, refl, sym, ap, ◌∙◌, subst}
use Rattle.std.proofs.lemmas.Option.{same_Some}
use Rattle.std.specs.declared.result.Result.TheVariants.{Ok, Err}
use Rattle.std.proofs.lemmas.Bool.Decides.{eqb_tells}
use Rattle.owl_kind.specs.Kinds.{Entity}
use Rattle.owl_list.proofs.AscendingLaws.{in_head, in_tail}
use Rattle.owl_tree.specs.Trees.{Tree}
use Rattle.rdf_graph.specs.declared.term.Term.{Term}
use Rattle.rdf_graph.specs.declared.term.Term.TheVariants.{Blank}
use Rattle.rdf_graph.specs.declared.triple.Triple.{Triple}
use Rattle.rdf_meaning.proofs.ListLaws.{same_front}
use Rattle.rdf_meaning.specs.Nodes.{role_of}
use Rattle.rdf_meaning.specs.Statements.{Annotates, bare, no_set, noted, noters, notes, notes_of, IsNotedTree, a_set, is_noted}
use Rattle.rdf_roles.specs.Tables.{RoleTable}
use Rattle.tree_stores.specs.declared.fault.TreeFault.{TreeFault}
use Rattle.tree_stores.specs.Stores.{IsTreeFault, Keeps, StandFor}
use Rattle.tree_stores.proofs.StoreLaws.{one_more_stands}
use Rattle.rdf_annotations.specs.Annotations.{AreSomeSets, AreVariants, IsFaultOfSome, IsSetOf}
use Rattle.rdf_annotations.proofs.AnnotationLaws.{fault_of_some, some_sets_kept}
use Rattle.rdf_annotations.specs.Held.{AreSetsOf}
use Rattle.rdf_annotations.specs.Noters.{AreNumbersOf, term_at}
use Rattle.rdf_annotations.proofs.Saying.{one_more_set}

-- the label of a node with a number
pub record IsLabelAt (roles : RoleTable) (number : ℕ) (x : Term) : Type 0 where
  pub label : List ℕ
  pub at : slice_get (keys_of roles.nodes) number ≡ Some label
  pub is : x ≡ Blank label

label_at : (found : Option (List ℕ)) (x : Term) → option_map (λ label. Blank label) found ≡ Some x → (label : List ℕ) × (found ≡ Some label) × (x ≡ Blank label)
label_at None x e = cc
label_at (Some label) x e = (label, refl, sym (same_Some (Blank label) x e))

is_label_at : (roles : RoleTable) (number : ℕ) (x : Term) → term_at roles number ≡ Some x → IsLabelAt roles number x
is_label_at roles number x e = let found = label_at (slice_get (keys_of roles.nodes) number) x e in record { label = found.0; at = found.1; is = found.2 }

-- the first of the numbers is that of the first of the terms
record BeginWith (roles : RoleTable) (terms : List Term) (n : ℕ) (ns : List ℕ) : Type 0 where
  pub first : Term
  pub rest : List Term
  pub split : terms ≡ first ∷ rest
  pub at : term_at roles n ≡ Some first
  pub others : AreNumbersOf roles rest ns

begin_with : (roles : RoleTable) (terms : List Term) (n : ℕ) (ns : List ℕ) → AreNumbersOf roles terms (n ∷ ns) → BeginWith roles terms n ns
begin_with roles [] n ns h = cc
begin_with roles (x ∷ xs) n ns h =
    let parts = same_front (term_at roles n) (Some x) (map (term_at roles) ns) (map (λ y. Some y) xs) h in
    record { first = x; rest = xs; split = refl; at = parts.0; others = parts.1 }

no_terms : (roles : RoleTable) (terms : List Term) → AreNumbersOf roles terms [] → terms ≡ []
no_terms roles [] h = refl
no_terms roles (x ∷ xs) h = cc

-- what holds of the numbers of all terms holds of the numbers of these
pub numbers_have : (roles : RoleTable) (P : ℕ → Type 0) (terms : List Term) (numbers : List ℕ) → AreNumbersOf roles terms numbers →
    ((number : ℕ) (label : List ℕ) → slice_get (keys_of roles.nodes) number ≡ Some label → Contains terms (Blank label) → P number) → AllByRecursion P numbers
numbers_have roles P terms [] named each = tt
numbers_have roles P terms (n ∷ ns) named each =
    let b = begin_with roles terms n ns named in
    let l = is_label_at roles n b.first b.at in
    let inside = λ (x : Term) (m : Contains (b.first ∷ b.rest) x). subst (λ (xs : List Term). Contains xs x) (sym b.split) m in (
      each n l.label l.at (inside (Blank l.label) (subst (Contains (b.first ∷ b.rest)) l.is (in_head b.first b.rest))),
      numbers_have roles P b.rest ns b.others (λ number label at m. each number label at (inside (Blank label) (in_tail b.first b.rest (Blank label) m))),
    )

module _ {N : Type 0} (Stands : Tree → N → Type 0) (g : List Triple) (k : List Entity) (roles : RoleTable) where
  no_sets_of : AreSetsOf Stands g k [] []
  no_sets_of = record { sets = []; are = no_set; stand = tt }

  more_sets_of : (terms : List Term) (ns : List N) (x : Term) (n : N) → AreSetsOf Stands g k terms ns → IsSetOf Stands g k x n → AreSetsOf Stands g k (terms ++ x ∷ []) (ns ++ n ∷ [])
  more_sets_of terms ns x n h s = record {
    sets = h.sets ++ notes s.trees ∷ [];
    are = one_more_set g k terms h.sets x s.trees h.are s.annotates;
    stand = one_more_stands Stands h.sets ns (notes s.trees) n h.stand s.stands;
  }

  -- the sets of the first terms are found, and these are the numbers of the others
  pub record AreSetsBefore (terms : List Term) (rest : List ℕ) (found : List N) : Type 0 where
    pub done : List Term
    pub left : List Term
    pub split : terms ≡ done ++ left
    pub named : AreNumbersOf roles left rest
    pub sets : AreSetsOf Stands g k done found

  pub none_found : (terms : List Term) (numbers : List ℕ) → AreNumbersOf roles terms numbers → AreSetsBefore terms numbers []
  none_found terms numbers h = record { done = []; left = terms; split = refl; named = h; sets = no_sets_of }

  pub next_found : (of_nodes : List (Option N)) (empty : N) (terms : List Term) (rest behind : List ℕ) (number : ℕ) (found : List N) (n : N) →
      AreSomeSets Stands g k roles of_nodes empty → AreSetsBefore terms rest found → rest ≡ number ∷ behind → slice_get of_nodes number ≡ Some (Some n) →
      AreSetsBefore terms behind (found ++ n ∷ [])
  next_found of_nodes empty terms rest behind number found n some h e at =
      let b = begin_with roles h.left number behind (subst (λ ns. AreNumbersOf roles h.left ns) e h.named) in
      let l = is_label_at roles number b.first b.at in
      record {
        done = h.done ++ b.first ∷ [];
        left = b.rest;
        split = h.split ∙ ap (λ (ys : List Term). h.done ++ ys) b.split ∙ sym (append_assoc h.done (b.first ∷ []) b.rest);
        named = b.others;
        sets = more_sets_of h.done found b.first n h.sets (subst (λ (y : Term). IsSetOf Stands g k y n) (sym l.is) (some.each number l.label n l.at at));
      }

  pub all_found : (terms : List Term) (rest : List ℕ) (found : List N) → AreSetsBefore terms rest found → rest ≡ [] → AreSetsOf Stands g k terms found
  all_found terms rest found h e =
      let none = no_terms roles h.left (subst (λ ns. AreNumbersOf roles h.left ns) e h.named) in
      subst (λ (ys : List Term). AreSetsOf Stands g k ys found) (sym (h.split ∙ ap (λ (ys : List Term). h.done ++ ys) none ∙ append-nil h.done)) h.sets

  -- a triple without reifications, and one with some
  pub bare_variants : (t : Triple) (numbers : List ℕ) (ns : List N) (empty : N) → numbers ≡ [] → ns ≡ empty ∷ [] → AreNumbersOf roles (noters g t) numbers → Stands (notes []) empty → AreVariants Stands g k t ns
  bare_variants t numbers ns empty none is h s = record {
    sets = notes [] ∷ [];
    variants = bare t (no_terms roles (noters g t) (subst (λ ns. AreNumbersOf roles (noters g t) ns) none h));
    stand = subst (StandFor Stands (notes [] ∷ [])) (sym is) (s, tt);
  }

  noted_by : (t : Triple) (terms : List Term) (ns : List N) → noters g t ≡ terms → (terms ≡ [] → ⊥) → AreSetsOf Stands g k terms ns → AreVariants Stands g k t ns
  noted_by t [] ns e n h = absurd (n refl)
  noted_by t (r ∷ rs) ns e n h = record { sets = h.sets; variants = noted t r rs h.sets e h.are; stand = h.stand }

  pub noted_variants : (t : Triple) (numbers : List ℕ) (ns : List N) → (numbers ≡ [] → ⊥) → AreNumbersOf roles (noters g t) numbers → AreSetsOf Stands g k (noters g t) ns → AreVariants Stands g k t ns
  noted_variants t [] ns some h sets = absurd (some refl)
  noted_variants t (number ∷ numbers) ns some h sets =
      let b = begin_with roles (noters g t) number numbers h in
      noted_by t (noters g t) ns refl (λ e. let other = b.split in cc) sets

-- the set of the annotations of a node, or what is wrong with it
module _ {N : Type 0} (New : Tree → N → Type 0) (g : List Triple) (k : List Entity) (header x : Term) (ts : List Tree)
    (is : IsTrue (is_noted (role_of g x))) (annotates : Annotates g k (notes_of g x) ts) where
  pub set_held : {E : Type 0} (r : Result N E) → IfOk r (New (notes ts)) → IfOk r (IsSetOf New g k x)
  set_held (Ok n) h = record { trees = ts; annotates = annotates; stands = h }
  set_held (Err e) h = tt

  pub set_refused : {H : Type 0} (r : Result N (TreeFault H)) → IfErr r (IsTreeFault (notes ts)) → IfErr r (IsFaultOfSome (IsNotedTree g k header))
  set_refused (Ok n) h = tt
  set_refused (Err fault) h = fault_of_some (IsNotedTree g k header) (notes ts) (a_set x ts is annotates) fault h

-- a set more
set_at : {N : Type 0} (of_nodes : List (Option N)) (number : ℕ) (n m : N) → slice_get (slice_set of_nodes number (Some n)) number ≡ Some (Some m) → n ≡ m
set_at [] number n m e = cc
set_at (o ∷ os) zero n m e = cc
set_at (o ∷ os) (suc number) n m e = set_at os number n m e

pub other_at : {N : Type 0} (of_nodes : List (Option N)) (number other : ℕ) (n : N) → (number ≡ other → ⊥) → slice_get (slice_set of_nodes number (Some n)) other ≡ slice_get of_nodes other
other_at [] number other n d = refl
other_at (o ∷ os) zero zero n d = absurd (d refl)
other_at (o ∷ os) zero (suc other) n d = refl
other_at (o ∷ os) (suc number) zero n d = refl
other_at (o ∷ os) (suc number) (suc other) n d = other_at os number other n (λ e. d (ap suc e))

pub one_more_set_of : {N : Type 0} (Old New : Tree → N → Type 0) (g : List Triple) (k : List Entity) (roles : RoleTable) (of_nodes : List (Option N)) (empty : N) (number : ℕ) (label : List ℕ) (n : N) →
    Keeps Old New → AreSomeSets Old g k roles of_nodes empty → slice_get (keys_of roles.nodes) number ≡ Some label → IsSetOf New g k (Blank label) n →
    AreSomeSets New g k roles (slice_set of_nodes number (Some n)) empty
one_more_set_of {N = N} Old New g k roles of_nodes empty number label n kept h named s =
    let before = some_sets_kept Old New kept g k roles of_nodes empty h in
    record {
      each = λ other l m at is.
          elim (eqb_tells number other) [
            | inl e ↦
                let same : label ≡ l = same_Some label l (sym named ∙ ap (slice_get (keys_of roles.nodes)) e.1 ∙ at) in
                let set : n ≡ m = set_at of_nodes number n m (ap (slice_get (slice_set of_nodes number (Some n))) e.1 ∙ is) in
                subst (λ (y : N). IsSetOf New g k (Blank l) y) set (subst (λ (y : List ℕ). IsSetOf New g k (Blank y) n) same s)
            | inr d ↦ before.each other l m at (sym (other_at of_nodes number other n d.1) ∙ is)
          ];
      empty_set = before.empty_set;
    }
