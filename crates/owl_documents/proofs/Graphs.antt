-- A graph is read in one way, with one head and one table of prefixes, or it gives no head for one reason.
use Rattle.std.proofs.Common.{◌≡◌, ◌≢◌, ◌≤◌, inl, inr, ℕ, false, Option, None, Some, List, [], ◌∷◌, length, refl, sym, ap, ◌∙◌, subst, arith}
use Rattle.std.specs.Prelude.{unwrap_or}
use Rattle.std.specs.Option.{option_map}
use Rattle.std.proofs.lemmas.Bool.{cases_Bool}
use Rattle.std.proofs.lemmas.Option.{same_Some}
use Rattle.std.proofs.lemmas.Slice.Eq.{bytes_eq-Decides}
use Rattle.owl_atom.specs.PrefixLaws.{met, passed, tables_are_told_by_names}
use Rattle.owl_atom.specs.Prefixes.{AreAscending, iri_of, prefix_in}
use Rattle.owl_atom.specs.declared.prefixes.Prefix.{Prefix}
use Rattle.owl_characters.specs.Order.{text_eq}
use Rattle.owl_list.specs.Ascending.{HoldSame}
use Rattle.owl_tree.specs.Ontologies.{Head, IsSameHead}
use Rattle.rdf_graph.specs.declared.term.Term.{Term}
use Rattle.rdf_graph.specs.declared.triple.Triple.{Triple}
use Rattle.rdf_meaning.proofs.ListLaws.{same_only}
use Rattle.rdf_meaning.proofs.StatementLaws.{one_head}
use Rattle.rdf_meaning.specs.Statements.{IsHeadOf, headers}
use Rattle.rdf_scans.specs.Outlines.{IsOutlineFault}
use Rattle.rdf_scans.specs.declared.fault.OutlineFault.{OutlineFault}
use Rattle.rdf_scans.specs.declared.fault.OutlineFault.TheVariants.{NoHeader, TwoHeaders, BadHeader, Memory}
use Rattle.ttl_read.specs.NameTables.{ArePlain, IsPlain}

-- the prefixes

found_named : (ps : List Prefix) (name : List ℕ) (p : Prefix) → prefix_in ps name ≡ Some p → p.name ≡ name
found_named [] name p e = absurd (cc)
found_named (q ∷ ps) name p e = elim (cases_Bool (text_eq q.name name)) as (λ _. p.name ≡ name) [
  | inl t ↦
      let named = (bytes_eq-Decides q.name name).0 t in
      ap (λ (x : Prefix). x.name) (sym (same_Some q p (sym (met q ps name named) ∙ e))) ∙ named
  | inr f ↦ found_named ps name p (sym (passed q ps name f) ∙ e)
]

plain_prefix : List ℕ → Option (List ℕ) → Option Prefix
plain_prefix name None = None
plain_prefix name (Some iri) = Some (record { name = name; iri = iri; fixed = false; declared = false })

-- a plain prefix is told by its IRI
told_by_iri : (ps : List Prefix) (name : List ℕ) → IsPlain ps name → (found : Option Prefix) → prefix_in ps name ≡ found → prefix_in ps name ≡ plain_prefix name (iri_of ps name)
unfolding plain_prefix
told_by_iri ps name plain None e = e ∙ sym (ap (λ (o : Option Prefix). plain_prefix name (option_map (λ (q : Prefix). q.iri) o)) e)
told_by_iri ps name plain (Some p) e =
    let named : p.name ≡ name = found_named ps name p e in
    let fixed : p.fixed ≡ false = sym (ap (λ (o : Option Prefix). unwrap_or (option_map (λ (q : Prefix). q.fixed) o) false) e) ∙ plain.not_fixed in
    let declared : p.declared ≡ false = sym (ap (λ (o : Option Prefix). unwrap_or (option_map (λ (q : Prefix). q.declared) o) false) e) ∙ plain.not_declared in
    let same : p ≡ record { name = name; iri = p.iri; fixed = false; declared = false } = λ i. record { name = named i; iri = p.iri; fixed = fixed i; declared = declared i } in
    e ∙ ap Some same ∙ sym (ap (λ (o : Option Prefix). plain_prefix name (option_map (λ (q : Prefix). q.iri) o)) e)

pub same_tables : (ps qs : List Prefix) → AreAscending ps → AreAscending qs → ArePlain ps → ArePlain qs → ((name : List ℕ) → iri_of ps name ≡ iri_of qs name) → ps ≡ qs
same_tables ps qs up down plain other e =
    tables_are_told_by_names ps qs up down (λ name. told_by_iri ps name (plain name) (prefix_in ps name) refl ∙ ap (plain_prefix name) (e name) ∙ sym (told_by_iri qs name (other name) (prefix_in qs name) refl))

-- the head

pub same_head : (g : List Triple) (x y : Term) (a b : Head) → headers g ≡ x ∷ [] → headers g ≡ y ∷ [] → IsHeadOf g x a → IsHeadOf g y b → IsSameHead a b
same_head g x y a b e f h k =
    let same : a ≡ b = one_head g y a (subst (λ (z : Term). IsHeadOf g z a) (same_only x y (sym e ∙ f)) h) b k in
    record { name = ap (λ (h : Head). h.name) same; imports = subst (λ (c : Head). HoldSame a.imports c.imports) same (λ iri. (λ m. m, λ m. m)) }

-- the fault

counted : (xs ys : List Term) → xs ≡ ys → 2 ≤ length xs → length ys ≤ 1 → ⊥
counted xs ys e two one =
    let l = ap (λ (zs : List Term). length zs) e in
    absurd (omega arith)

pub one_fault : (g : List Triple) (a b : OutlineFault) → a ≢ Memory → b ≢ Memory → IsOutlineFault g a → IsOutlineFault g b → a ≡ b
one_fault g Memory b m n h k = absurd (m refl)
one_fault g NoHeader Memory m n h k = absurd (n refl)
one_fault g NoHeader NoHeader m n h k = refl
one_fault g NoHeader TwoHeaders m n h k = absurd (counted (headers g) [] h k (omega arith))
one_fault g NoHeader (BadHeader y) m n h k = let e = k.one_header in absurd (cc)
one_fault g TwoHeaders Memory m n h k = absurd (n refl)
one_fault g TwoHeaders NoHeader m n h k = absurd (counted (headers g) [] k h (omega arith))
one_fault g TwoHeaders TwoHeaders m n h k = refl
one_fault g TwoHeaders (BadHeader y) m n h k = absurd (counted (headers g) (y ∷ []) k.one_header h (omega arith))
one_fault g (BadHeader x) Memory m n h k = absurd (n refl)
one_fault g (BadHeader x) NoHeader m n h k = let e = h.one_header in absurd (cc)
one_fault g (BadHeader x) TwoHeaders m n h k = absurd (counted (headers g) (x ∷ []) h.one_header k (omega arith))
one_fault g (BadHeader x) (BadHeader y) m n h k = ap BadHeader (same_only x y (sym h.one_header ∙ k.one_header))

-- what gives a head has no fault
pub no_fault : (g : List Triple) (fault : OutlineFault) (x : Term) (head : Head) → headers g ≡ x ∷ [] → IsHeadOf g x head → fault ≢ Memory → IsOutlineFault g fault → ⊥
no_fault g NoHeader x head e h m f = cc
no_fault g TwoHeaders x head e h m f = counted (headers g) (x ∷ []) e f (omega arith)
no_fault g (BadHeader y) x head e h m f =
    f.no_head head (subst (λ (z : Term). IsHeadOf g z head) (same_only x y (sym e ∙ f.one_header)) h)
no_fault g Memory x head e h m f = m refl
