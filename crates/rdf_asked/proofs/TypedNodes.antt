-- Nodes of which no triple names what it may not.
use Rattle.std.specs.Prelude.{◌≡◌, ◌↔◌, ◌⊎◌, ◌++◌, ◌<◌, ℕ, Bool, IsTrue, IfSome, List, [], ◌∷◌, Option, None, Some, Contains, get_or, length, map, option_map}
use Rattle.std.specs.List.{AllByRecursion}
use Rattle.std.proofs.Common.{inl, inr, sym, ap, ◌∙◌, subst}
use Rattle.std.proofs.lemmas.List.{get_or_default}
use Rattle.std.proofs.lemmas.Option.{same_Some}
use Rattle.owl_list.proofs.AscendingLaws.{all_from, all_in, in_cases, in_head, in_map, in_none, in_tail}
use Rattle.owl_kind.specs.Kinds.{Entity}
use denote.Ref.{Bor}
use Rattle.rdf_graph.specs.declared.term.Term.{Term}
use Rattle.rdf_graph.specs.declared.triple.Triple.{Triple}
use Rattle.rdf_meaning.specs.declared.role.Role.{Role}
use Rattle.rdf_meaning.specs.declared.role.Role.TheVariants as role
use Rattle.rdf_meaning.specs.Denotation.{Fits, of_node}
use Rattle.rdf_meaning.specs.Nodes.{of_subject, role_of}
use Rattle.rdf_meaning.proofs.NodeLaws.{in_subject}
use Rattle.rdf_meaning.specs.declared.row.Row as held
use Rattle.rdf_meaning.specs.Rows.{Row, axiom_rows, node_rows, row_seen}
use Rattle.rdf_faults.specs.Asked.{IsAskedFor, suited, IsTypedAs, Suits, rows}
use Rattle.rdf_faults.specs.DecidedLaws.{HasSome}
use Rattle.rdf_faults.specs.Faults.{IsUntypedPart}
use Rattle.rdf_rows.specs.Fits.{FitsRow}
use Rattle.rdf_asked.specs.Asking.{AsksForAll, IsTypedNode}
use Rattle.rdf_asked.proofs.Suited.{in_right, row_fits}

in_left : {X : Type 0} (xs ys : List X) (x : X) → Contains xs x → Contains (xs ++ ys) x
in_left [] ys x m = absurd (in_none x m)
in_left (y ∷ xs) ys x m =
    elim (in_cases y xs x m) [
      | inl e ↦ subst (λ z. Contains (y ∷ (xs ++ ys)) z) e (in_head y (xs ++ ys))
      | inr n ↦ in_tail y (xs ++ ys) x (in_left xs ys x n)
    ]

each_among : (us : List Row) → ((row : Row) → Contains us row → Contains rows row) → (xs : List held.Row) → map row_seen xs ≡ us
    → AllByRecursion (λ row. Contains rows (row_seen row)) xs
each_among us among xs e =
    all_from (λ row. Contains rows (row_seen row)) xs (λ row m. among (row_seen row) (subst (λ ys. Contains ys (row_seen row)) e (in_map row_seen xs row m)))

pub node_rows_among : (xs : List held.Row) → map row_seen xs ≡ node_rows → AllByRecursion (λ row. Contains rows (row_seen row)) xs
node_rows_among = each_among node_rows (in_left node_rows axiom_rows)

pub axiom_rows_among : (xs : List held.Row) → map row_seen xs ≡ axiom_rows → AllByRecursion (λ row. Contains rows (row_seen row)) xs
axiom_rows_among = each_among axiom_rows (in_right node_rows axiom_rows)

module _ (g : List Triple) (k : List Entity) (x : Term) where
  asked : (row : Row) → Contains rows row → AsksForAll g k x row → (t : Triple) → Contains g t → t.subject ≡ x → IsAskedFor g k t
  asked row among a t m e =
      let each = λ (u : Triple) (n : Contains g u) (f : u.subject ≡ x). all_in (Suits g k row) (of_subject g x) u a.suits (in_subject g x u n f) in
      suited row (record { among = among; fits = subst (λ y. Fits g (of_node y) row) (sym e) a.fits }) (each t m e) (λ by u n f on. each u n (f ∙ e))

  as_role : (r : Role) → r ≡ role_of g x → ((t : Triple) → Contains g t → t.subject ≡ x → IsTypedAs g k r t) → IsTypedNode g k x
  as_role r e typed t of u = u.untyped (subst (λ q. IsTypedAs g k q t) (e ∙ ap (role_of g) (sym of)) (typed t u.inside of))

  pub typed_by_row : (r : Role) → r ≡ role_of g x → (r ≡ role.Property) ⊎ ((r ≡ role.Class) ⊎ ((r ≡ role.Range) ⊎ (r ≡ role.Main)))
      → (row : Row) → Contains rows row → AsksForAll g k x row → IsTypedNode g k x
  typed_by_row r e (inl f) row among a = as_role role.Property (sym f ∙ e) (asked row among a)
  typed_by_row r e (inr (inl f)) row among a = as_role role.Class (sym f ∙ e) (asked row among a)
  typed_by_row r e (inr (inr (inl f))) row among a = as_role role.Range (sym f ∙ e) (asked row among a)
  typed_by_row r e (inr (inr (inr f))) row among a = as_role role.Main (sym f ∙ e) (asked row among a)

  pub typed_by_role : (r : Role) → r ≡ role_of g x → (r ≡ role.List) ⊎ ((r ≡ role.Note) ⊎ ((r ≡ role.Header) ⊎ (r ≡ role.Individual))) → IsTypedNode g k x
  typed_by_role r e (inl f) = as_role role.List (sym f ∙ e) (λ t m s. tt)
  typed_by_role r e (inr (inl f)) = as_role role.Note (sym f ∙ e) (λ t m s. tt)
  typed_by_role r e (inr (inr (inl f))) = as_role role.Header (sym f ∙ e) (λ t m s. tt)
  typed_by_role r e (inr (inr (inr f))) = as_role role.Individual (sym f ∙ e) (λ t m s. tt)

pub some_at : {X : Type 0} (P : X → Type 0) (xs : List X) (i : ℕ) (d : X) → i < length xs → P (get_or xs i d) → HasSome P xs
some_at P xs i d lt p = record { element = get_or xs i d; inside = (i, lt, get_or_default xs i (get_or xs i d) d lt); holds = p }

-- a triple of a node of which this is known
pub of_typed : (g : List Triple) (k : List Entity) (node : Option (Bor Term)) (t : Triple) → IfSome node (λ x. IsTypedNode g k x.now)
    → option_map (λ x. x.now) node ≡ Some t.subject → IsUntypedPart g k t → ⊥
of_typed g k None t h e u = cc
of_typed g k (Some x) t h e u = h t (sym (same_Some _ _ e)) u

-- whether a row is one of the node, told by the node's role and triples
pub fits_seen : (g : List Triple) (x : Term) (row : Row) (r : Role) (ts : List Triple) (b : Bool) → r ≡ role_of g x → ts ≡ of_subject g x → IsTrue b ↔ FitsRow r ts row → IsTrue b ↔ Fits g (of_node x) row
fits_seen g x row r ts b role about is = row_fits g x row r b role (subst (λ us. IsTrue b ↔ FitsRow r us row) about is)
