-- Numbers of nodes, as they are found one by one.
use Rattle.std.specs.Prelude.{◌≡◌, ◌<◌, ℕ, zero, suc, List, [], ◌∷◌, ◌++◌, Contains, IfSome, IsNone, Option, None, Some, length, set, slice_get}
use Rattle.std.proofs.Common.{arith, inl, inr, refl, sym, ap, append_assoc, append-nil, ◌∙◌, subst}
use Rattle.std.proofs.lemmas.Bool.Decides.{eqb_tells}
use Rattle.std.proofs.lemmas.List.{length-set}
use Rattle.std.proofs.lemmas.List.Elements.{Contains-append_cases, Contains-append_right}
use Rattle.std.proofs.lemmas.Option.{none-some, same_Some}
use Rattle.owl_kind.specs.Kinds.{Entity}
use Rattle.owl_list.proofs.AscendingLaws.{in_cases, in_head, in_none}
use Rattle.owl_tree.specs.Trees.{Tree}
use Rattle.rdf_graph.specs.declared.term.Term.TheVariants.{Blank}
use Rattle.rdf_graph.specs.declared.triple.Triple.{Triple}
use Rattle.rdf_meaning.specs.Nodes.{role_of}
use Rattle.rdf_roles.specs.OrderLaws.{front_is_closed, is_in_order, is_of_node}
use Rattle.rdf_roles.specs.Tables.{IsTableOf, RoleTable}
use Rattle.tree_stores.specs.declared.fault.TreeFault.{TreeFault}
use Rattle.tree_stores.specs.declared.fault.TreeFault.TheVariants.{TooDeep, TooHeavy, Memory}
use Rattle.tree_stores.proofs.StoreLaws.{keeps_all, keeps_more}
use Rattle.tree_stores.specs.Stores.{Keeps}
use Rattle.rdf_nodes.specs.Numbers.{AreKnown, AreNumbered, HaveNone, IsDenotedAs, IsKnown, IsNextOf, IsNodeFault, IsNumbered, IsPassedIn, IsSomeNodeFault}
use Rattle.rdf_nodes.proofs.NumberTableLaws.{set_holds}
use Rattle.rdf_nodes.specs.Operands.{labels}
use Rattle.rdf_meaning.specs.Denotation.{sort_of}
use Rattle.rdf_nodes.proofs.Below.{passed_below}
use Rattle.rdf_nodes.proofs.Holding.{numbered_kept}

module _ {N : Type 0} where
  pub none_yet : HaveNone {N = N} []
  none_yet node n e = none-some (Some n) e

  pub one_none : (ns : List (Option N)) → HaveNone ns → HaveNone (ns ++ None ∷ [])
  one_none [] h zero n e = none-some n (same_Some None (Some n) e)
  one_none [] h (suc node) n e = h node n e
  one_none (x ∷ ns) h zero n e = h zero n e
  one_none (x ∷ ns) h (suc node) n e = one_none ns (λ m i. h (suc m) i) node n e

set_here : {A : Type 0} (xs : List A) (n : ℕ) (a : A) → n < length xs → slice_get (set xs n a) n ≡ Some a
set_here [] n a h = absurd (omega (arith, h))
set_here (x ∷ xs) zero a h = refl
set_here (x ∷ xs) (suc n) a h = set_here xs n a (omega (arith, h))

set_elsewhere : {A : Type 0} (xs : List A) (n m : ℕ) (a : A) → (n ≡ m → ⊥) → slice_get (set xs n a) m ≡ slice_get xs m
set_elsewhere [] n m a d = refl
set_elsewhere (x ∷ xs) zero zero a d = absurd (d refl)
set_elsewhere (x ∷ xs) zero (suc m) a d = refl
set_elsewhere (x ∷ xs) (suc n) zero a d = refl
set_elsewhere (x ∷ xs) (suc n) (suc m) a d = set_elsewhere xs n m a (λ e. d (ap suc e))

module _ (g : List Triple) (roles : RoleTable) {N : Type 0} where
  found_known : (ns : List (Option N)) (at : ℕ) (label : List ℕ) (found : Option N) → at < length ns → slice_get (labels roles) at ≡ Some label →
      (IsNone found → sort_of (role_of g (Blank label)) ≡ None) → IsKnown g roles (set ns at found) at
  found_known ns at label None within is none other s there gives =
      let same = same_Some label other (sym is ∙ there) in
      absurd (none-some s (sym (none refl) ∙ ap (λ l. sort_of (role_of g (Blank l))) same ∙ gives))
  found_known ns at label (Some n) within is none other s there gives = record { number = n; at = set_here ns at (Some n) within }

  other_known : (ns : List (Option N)) (at : ℕ) (found : Option N) → IsKnown g roles (set ns at found) at → (other : ℕ) → IsKnown g roles ns other → IsKnown g roles (set ns at found) other
  other_known ns at found here other before =
      elim (eqb_tells at other) [
        | inl e ↦ subst (IsKnown g roles (set ns at found)) e.1 here
        | inr d ↦ λ label s there gives. let one = before label s there gives in record { number = one.number; at = set_elsewhere ns at other found d.1 ∙ one.at }
      ]

  -- a node gets its number, and is passed
  pub passed_with : (ns : List (Option N)) (at : ℕ) (label : List ℕ) (found : Option N) → at < length ns → slice_get (labels roles) at ≡ Some label →
      (IsNone found → sort_of (role_of g (Blank label)) ≡ None) → IsPassedIn g roles ns (set ns at found) at
  passed_with ns at label found within is none =
      let here = found_known ns at label found within is none in
      record { places = length-set ns at found; known = here; others = other_known ns at found here }

-- the nodes that were passed have their numbers
pub record ArePassed (g : List Triple) (k : List Entity) (roles : RoleTable) {N : Type 0} (Old New : Tree → N → Type 0) (ns : List (Option N)) (rest : List ℕ) : Type 0 where
  pub passed : List ℕ
  pub split : roles.order ≡ passed ++ rest
  pub places : length ns ≡ length roles.nodes
  pub numbered : AreNumbered g k roles New ns
  pub known : (node : ℕ) → Contains passed node → IsKnown g roles ns node
  pub kept : Keeps Old New

module _ (g : List Triple) (k : List Entity) (roles : RoleTable) {N : Type 0} where
  pub none_passed : (Old : Tree → N → Type 0) (ns : List (Option N)) → HaveNone ns → length ns ≡ length roles.nodes → ArePassed g k roles Old Old ns roles.order
  none_passed Old ns none places = record {
    passed = [];
    split = refl;
    places = places;
    numbered = λ node n e. absurd (none node n e);
    known = λ node m. absurd (in_none node m);
    kept = keeps_all Old;
  }

  pub passed_ahead : (Old Now : Tree → N → Type 0) (ns : List (Option N)) (rest : List ℕ) (number : ℕ) (behind : List ℕ) → rest ≡ number ∷ behind → ArePassed g k roles Old Now ns rest →
      ArePassed g k roles Old Now ns (number ∷ behind)
  passed_ahead Old Now ns rest number behind e p = subst (ArePassed g k roles Old Now ns) e p

  pub next_of : (Old Now : Tree → N → Type 0) (ns : List (Option N)) (number : ℕ) (behind : List ℕ) → IsTableOf g roles → ArePassed g k roles Old Now ns (number ∷ behind) → IsNextOf g roles ns number
  next_of Old Now ns number behind table p = record {
    within = is_of_node g roles table number (subst (λ all. Contains all number) (sym p.split) (Contains-append_right p.passed (number ∷ behind) number (in_head number behind)));
    places = p.places;
    below = λ label at. record {
      passed = p.passed;
      closed = front_is_closed g roles.order table.order p.passed (number ∷ behind) p.split;
      below = passed_below g roles table p.passed number behind p.split label at;
      known = p.known;
    };
  }

  pub one_passed : (Old Now New : Tree → N → Type 0) (ns ms : List (Option N)) (number : ℕ) (behind : List ℕ) → ArePassed g k roles Old Now ns (number ∷ behind) → Keeps Now New →
      AreNumbered g k roles New ms → IsPassedIn g roles ns ms number → ArePassed g k roles Old New ms behind
  one_passed Old Now New ns ms number behind p kept numbered is = record {
    passed = p.passed ++ number ∷ [];
    split = p.split ∙ sym (append_assoc p.passed (number ∷ []) behind);
    places = is.places ∙ p.places;
    numbered = numbered;
    known = λ node m. elim (Contains-append_cases p.passed (number ∷ []) node m) [
      | inl before ↦ is.others node (p.known node before)
      | inr here ↦ elim (in_cases number [] node here) [
        | inl e ↦ subst (IsKnown g roles ms) e is.known
        | inr none ↦ absurd (in_none node none)
      ]
    ];
    kept = keeps_more Old Now New p.kept kept;
  }

  pub all_passed : (Old Now : Tree → N → Type 0) (ns : List (Option N)) (rest : List ℕ) → IsTableOf g roles → rest ≡ [] → ArePassed g k roles Old Now ns rest → AreKnown g roles ns
  all_passed Old Now ns rest table e p node within =
      p.known node (subst (λ all. Contains all node) (p.split ∙ ap (λ more. p.passed ++ more) e ∙ append-nil p.passed) (is_in_order g roles table node within))

module _ (g : List Triple) (k : List Entity) (roles : RoleTable) {N : Type 0} where
  found_number : (Stands : Tree → N → Type 0) (at : ℕ) (label : List ℕ) (found : Option N) → slice_get (labels roles) at ≡ Some label → IfSome found (IsDenotedAs g k Stands (Blank label)) →
      (n : N) → found ≡ Some n → IsNumbered g k roles Stands at n
  found_number Stands at label found is d n e =
      let i = subst (λ f. IfSome f (IsDenotedAs g k Stands (Blank label))) e d in
      record { tree = i.tree; denoted = record { label = label; at = is; sort = i.own.sort; gives = i.own.gives; denotes = i.own.denotes }; held = i.held }

  pub one_more_numbered : (Old New : Tree → N → Type 0) (ns : List (Option N)) (at : ℕ) (label : List ℕ) (found : Option N) → AreNumbered g k roles Old ns → Keeps Old New →
      slice_get (labels roles) at ≡ Some label → IfSome found (IsDenotedAs g k New (Blank label)) → AreNumbered g k roles New (set ns at found)
  one_more_numbered Old New ns at label found are kept is d =
      set_holds (IsNumbered g k roles New) ns at found (numbered_kept g k roles Old New ns kept are) (found_number New at label found is d)

pub some_fault : {H : Type 0} (g : List Triple) (k : List Entity) (label : List ℕ) (f : TreeFault H) → IsNodeFault g k (Blank label) f → IsSomeNodeFault g k f
some_fault g k label TooDeep h = (label, h)
some_fault g k label (TooHeavy _) h = (label, h)
some_fault g k label Memory h = tt
