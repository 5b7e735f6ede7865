-- Numbers of what operands stand for, as a store takes more.
use Rattle.std.specs.Prelude.{◌≡◌, ℕ, List, [], ◌∷◌, ◌++◌, IfErr, IfOk, IfSome, Option, None, Some, is_some, slice_get, true}
use Rattle.std.proofs.Common.{refl, ap, sym, subst, append_assoc, append-nil, ◌∙◌}
use Rattle.std.specs.declared.result.Result.{Result}
use Rattle.std.specs.declared.result.Result.TheVariants.{Ok, Err}
use Rattle.owl_kind.specs.Kinds.{Entity}
use Rattle.owl_tree.specs.declared.row.Sort.{Sort}
use Rattle.owl_tree.specs.Trees.{Tree, kids_of, node}
use Rattle.rdf_graph.specs.declared.term.Term.{Term}
use Rattle.rdf_graph.specs.declared.triple.Triple.{Triple}
use Rattle.rdf_meaning.specs.declared.role.Role.{Role}
use Rattle.rdf_meaning.specs.Nodes.{role_of}
use Rattle.rdf_roles.specs.Tables.{RoleTable}
use Rattle.rdf_terms.specs.Literals.{LiteralParts}
use Rattle.tree_stores.specs.declared.fault.TreeFault.{TreeFault}
use Rattle.tree_stores.specs.declared.fault.TreeFault.TheVariants.{TooDeep, TooHeavy, Memory}
use Rattle.tree_stores.proofs.StoreLaws.{keeps_all, keeps_more, one_more_stands, stand_still}
use Rattle.tree_stores.specs.Stores.{IsTreeFault, Keeps}
use Rattle.rdf_nodes.specs.declared.form.Form.{Form}
use Rattle.rdf_nodes.specs.declared.form.Operand.{Operand}
use Rattle.rdf_nodes.specs.declared.form.Operand.TheVariants as operand
use Rattle.rdf_nodes.specs.Numbers.{AllStand, AreNumbered, IsDenotedAs, IsExpression, IsNodeFault, StandsFor}
use Rattle.rdf_nodes.proofs.OperandLaws.{form_denotes}
use Rattle.rdf_nodes.specs.Operands.{AllMean, IsForm, Means, own_tree}
use Rattle.rdf_meaning.specs.Denotation.{sort_of, DenotesOwn}

pub ok_more : {A E : Type 0} {P Q : A → Type 0} → ((a : A) → P a → Q a) → (r : Result A E) → IfOk r P → IfOk r Q
ok_more w (Ok a) h = w a h
ok_more w (Err e) h = tt

pub err_more : {A E : Type 0} {P Q : E → Type 0} → ((e : E) → P e → Q e) → (r : Result A E) → IfErr r P → IfErr r Q
err_more w (Ok a) h = tt
err_more w (Err e) h = w e h

module _ (g : List Triple) (k : List Entity) (roles : RoleTable) where
  sort_given : (x : Term) (form : Form) (r : Role) (o : Option Sort) → r ≡ role_of g x → sort_of r ≡ o → is_some o ≡ true → IsForm g k roles x form → IsExpression g k roles x form
  sort_given x form r None of e some is = cc
  sort_given x form r (Some s) of e some is = record { sort = s; gives = ap sort_of (sym of) ∙ e; form = is }

  pub expression_is : (x : Term) (form : Form) (r : Role) → r ≡ role_of g x → is_some (sort_of r) ≡ true → (found : Option Form) → found ≡ Some form →
      IfSome found (IsForm g k roles x) → IsExpression g k roles x form
  expression_is x form r of some found e is = sort_given x form r (sort_of r) of refl some (subst (λ f. IfSome f (IsForm g k roles x)) e is)

  all_mean_more : (os : List Operand) (ts : List Tree) (o : Operand) (t : Tree) → AllMean g k roles os ts → Means g k roles o t → AllMean g k roles (os ++ o ∷ []) (ts ++ t ∷ [])
  all_mean_more [] [] o t m n = (n, tt)
  all_mean_more [] (u ∷ ts) o t m n = absurd m
  all_mean_more (p ∷ os) [] o t m n = absurd m
  all_mean_more (p ∷ os) (u ∷ ts) o t m n = (m.0, all_mean_more os ts o t m.1 n)

  -- the tree of a form over what its operands stand for
  own_tree_of : (x : Term) (form : Form) (ts : List Tree) → IsExpression g k roles x form → AllMean g k roles form.operands.items ts → DenotesOwn g k x (node form.tag (kids_of ts))
  own_tree_of x form ts is m = record { sort = is.sort; gives = is.gives; denotes = form_denotes g k roles x form is.sort ts is.form is.gives m }

  fault_of : {H : Type 0} (x : Term) (t : Tree) (f : TreeFault H) → DenotesOwn g k x t → IsTreeFault t f → IsNodeFault g k x f
  fault_of x t TooDeep own h = (t, own, h)
  fault_of x t (TooHeavy _) own h = (t, own, h)
  fault_of x t Memory own h = tt

module _ (g : List Triple) (k : List Entity) (roles : RoleTable) {N : Type 0} where
  pub facet_stands : {E : Type 0} (Stands : Tree → N → Type 0) (r : Result N E) (o : Operand) (facet : List ℕ) (value : LiteralParts) → o ≡ operand.Facet facet value →
      IfOk r (λ n. (t : Tree) → own_tree (operand.Facet facet value) ≡ Some t → Stands t n) → IfOk r (StandsFor g k roles Stands o)
  facet_stands Stands r o facet value is h =
      subst (λ p. IfOk r (StandsFor g k roles Stands p)) (sym is) (ok_more (λ n held. record { tree = _; means = refl; held = held _ refl }) r h)

  pub node_stands : (Stands : Tree → N → Type 0) (ns : List (Option N)) (o : Operand) (number : ℕ) (n : N) → AreNumbered g k roles Stands ns → o ≡ operand.Node number →
      slice_get ns number ≡ Some (Some n) → StandsFor g k roles Stands o n
  node_stands Stands ns o number n are is at =
      let i = are number n at in
      subst (λ p. StandsFor g k roles Stands p n) (sym is) (record { tree = i.tree; means = i.denoted; held = i.held })

  pub numbered_kept : (Old New : Tree → N → Type 0) (ns : List (Option N)) → Keeps Old New → AreNumbered g k roles Old ns → AreNumbered g k roles New ns
  numbered_kept Old New ns kept are number n at =
      let i = are number n at in
      record { tree = i.tree; denoted = i.denoted; held = kept i.tree n i.held }

  -- the first operands have their numbers
  pub record AreHeldUpTo (Old : Tree → N → Type 0) (all : List Operand) (Now : Tree → N → Type 0) (kids : List N) (rest : List Operand) : Type 0 where
    pub done : List Operand
    pub split : all ≡ done ++ rest
    pub stand : AllStand g k roles Now done kids
    pub kept : Keeps Old Now

  pub none_held : (Old : Tree → N → Type 0) (all : List Operand) → AreHeldUpTo Old all Old [] all
  none_held Old all = record { done = []; split = refl; stand = record { meant = []; mean = tt; held = tt }; kept = keeps_all Old }

  pub one_more_held : (Old : Tree → N → Type 0) (all : List Operand) (Now New : Tree → N → Type 0) (kids : List N) (o : Operand) (n : N) (rest behind : List Operand) →
      AreHeldUpTo Old all Now kids rest → rest ≡ o ∷ behind → StandsFor g k roles New o n → Keeps Now New → AreHeldUpTo Old all New (kids ++ n ∷ []) behind
  one_more_held Old all Now New kids o n rest behind h first s kept = record {
    done = h.done ++ o ∷ [];
    split = h.split ∙ ap (λ more. h.done ++ more) first ∙ sym (append_assoc h.done (o ∷ []) behind);
    stand = record {
      meant = h.stand.meant ++ s.tree ∷ [];
      mean = all_mean_more g k roles h.done h.stand.meant o s.tree h.stand.mean s.means;
      held = one_more_stands New h.stand.meant kids s.tree n (stand_still Now New kept h.stand.meant kids h.stand.held) s.held;
    };
    kept = keeps_more Old Now New h.kept kept;
  }

  pub all_held : (Old : Tree → N → Type 0) (all : List Operand) (Now : Tree → N → Type 0) (kids : List N) (rest : List Operand) → AreHeldUpTo Old all Now kids rest → rest ≡ [] →
      AllStand g k roles Now all kids
  all_held Old all Now kids rest h none =
      subst (λ os. AllStand g k roles Now os kids) (sym (h.split ∙ ap (λ more. h.done ++ more) none ∙ append-nil h.done)) h.stand

  pub tree_denoted : {E : Type 0} (x : Term) (form : Form) (ts : List Tree) (Stands : Tree → N → Type 0) (r : Result N E) → IsExpression g k roles x form → AllMean g k roles form.operands.items ts →
      IfOk r (Stands (node form.tag (kids_of ts))) → IfOk r (IsDenotedAs g k Stands x)
  tree_denoted x form ts Stands r is m h = ok_more (λ n held. record { tree = node form.tag (kids_of ts); own = own_tree_of g k roles x form ts is m; held = held }) r h

  pub tree_refused : {H : Type 0} (x : Term) (form : Form) (ts : List Tree) (r : Result N (TreeFault H)) → IsExpression g k roles x form → AllMean g k roles form.operands.items ts →
      IfErr r (IsTreeFault (node form.tag (kids_of ts))) → IfErr r (IsNodeFault g k x)
  tree_refused x form ts r is m h = err_more (λ f t. fault_of g k roles x (node form.tag (kids_of ts)) f (own_tree_of g k roles x form ts is m) t) r h
