-- What is held of prefixes, beside what a document declares.
use Rattle.std.proofs.Common.{◌≡◌, ◌≢◌, ◌↔◌, inl, inr, ℕ, Bool, true, false, List, ◌∷◌, Option, None, Some, Result, Ok, Err, refl, sym, ap, ◌∙◌, subst}
use Rattle.std.specs.Prelude.{IsErrOf, ◌||◌, not, if◌then◌else◌, unwrap_or}
use Rattle.std.specs.Option.{option_map}
use Rattle.std.proofs.lemmas.Bool.{both_ways, cases_Bool}
use Rattle.std.proofs.lemmas.Slice.Eq.{bytes_eq-Decides}
use Rattle.owl_atom.specs.Prefixes.{fixed_prefixes, iri_of, is_declared, is_fixed, prefix_in}
use Rattle.owl_atom.specs.declared.fault.DeclareFault.{DeclareFault}
use Rattle.owl_atom.specs.declared.fault.DeclareFault.TheVariants as declare
use Rattle.owl_atom.specs.declared.prefixes.Prefix.{Prefix}
use Rattle.owl_characters.specs.Order.{text_eq}
use Rattle.owl_characters.specs.OrderLaws.{equal}
use Rattle.owl_reader.specs.Computing.{TurnsTo}
use Rattle.owl_reader.specs.declared.fault.Reason.TheVariants as reason
use Rattle.owl_reader.specs.declared.fault.TokenFault.{TokenFault}
use Rattle.owl_reader.specs.declared.fault.TokenFault.TheVariants.{Defect, Memory}
use Rattle.owl_tokens.specs.declared.token.Token.TheVariants as token
use Rattle.man_grammar.specs.Documents.{AreSamePrefixes}
use Rattle.man_grammar.specs.States.{Names, may_stand_for, name_declared, prefix_declared, with_prefix}
use Rattle.man_read.specs.Refusals.{of_declaring}
use Rattle.man_read.specs.NameTables.{AreNames, NameTable}

abbrev own_iri : List ℕ → List ℕ → Bool
own_iri name iri = unwrap_or (option_map (λ own. text_eq own iri) (iri_of fixed_prefixes name)) false

-- where a name stands for one IRI alone, that is the one of the four
is_own : (o : Option (List ℕ)) (iri : List ℕ) → o ≡ Some iri → unwrap_or (option_map (λ own. text_eq own iri) o) false ≡ true
is_own o iri e = ap (λ x. unwrap_or (option_map (λ own. text_eq own iri) x) false) e ∙ equal iri iri refl

own_is : (o : Option (List ℕ)) (iri : List ℕ) → unwrap_or (option_map (λ own. text_eq own iri) o) false ≡ true → o ≡ Some iri
own_is None iri e = absurd (cc)
own_is (Some own) iri e = ap Some ((bytes_eq-Decides own iri).0 e)

module _ (table new : NameTable) (names : Names) (h : AreNames table names) where
  declared_same : (name : List ℕ) → is_declared names.prefixes name ≡ is_declared table.prefixes name
  declared_same name = ap (λ (o : Option Prefix). unwrap_or (option_map (λ (p : Prefix). p.declared) o) false) (sym (h.prefixes name))

  fixed_same : (name : List ℕ) → is_fixed names.prefixes name ≡ is_fixed table.prefixes name
  fixed_same name = ap (λ (o : Option Prefix). unwrap_or (option_map (λ (p : Prefix). p.fixed) o) false) (sym (h.prefixes name))

  -- ---- the name of a prefix

  pub named_twice : (name local : List ℕ) → is_declared table.prefixes name ≡ true → name_declared names (Some (token.Name name local)) ≡ Err (Defect reason.PrefixTwice)
  named_twice name local e =
      ap (λ (b : Bool). if b then Err (Defect reason.PrefixTwice) else Ok (record names { declaring = name })) (declared_same name ∙ e)

  pub named : (name local : List ℕ) → is_declared table.prefixes name ≡ false → new.prefixes ≡ table.prefixes → new.declaring ≡ name → TurnsTo AreNames (Ok tt) new (name_declared names (Some (token.Name name local)))
  named name local e p d = (
    record names { declaring = name },
    ap (λ (b : Bool). if b then Err (Defect reason.PrefixTwice) else Ok (record names { declaring = name })) (declared_same name ∙ e),
    record { prefixes = λ other. ap (λ (ps : List Prefix). prefix_in ps other) p ∙ h.prefixes other; declaring = d },
  )

  -- ---- the IRI of a prefix

  abbrev told : List ℕ → Bool → Bool → Result Names TokenFault
  told iri twice may = if twice then Err (Defect reason.PrefixTwice) else (if may then Ok (with_prefix names iri) else Err (Defect reason.PrefixFixed))

  is_told : (iri : List ℕ) (twice may : Bool) → is_declared table.prefixes names.declaring ≡ twice → may_stand_for names iri ≡ may → prefix_declared names (Some (token.Iri iri)) ≡ told iri twice may
  is_told iri twice may e k = λ i. told iri ((declared_same names.declaring ∙ e) i) (k i)

  stands : (iri : List ℕ) (fixed own : Bool) → is_fixed table.prefixes names.declaring ≡ fixed → own_iri names.declaring iri ≡ own → may_stand_for names iri ≡ (not fixed || own)
  stands iri fixed own e k = λ i. not ((fixed_same names.declaring ∙ e) i) || k i

  pub declared_twice : (iri : List ℕ) → is_declared table.prefixes names.declaring ≡ true → prefix_declared names (Some (token.Iri iri)) ≡ Err (Defect reason.PrefixTwice)
  declared_twice iri e = is_told iri true (may_stand_for names iri) e refl

  pub declared_fixed : (iri : List ℕ) → is_declared table.prefixes names.declaring ≡ false → is_fixed table.prefixes names.declaring ≡ true → iri_of fixed_prefixes names.declaring ≢ Some iri → prefix_declared names (Some (token.Iri iri)) ≡ Err (Defect reason.PrefixFixed)
  declared_fixed iri e fixed other = elim (cases_Bool (own_iri names.declaring iri)) as (λ _. prefix_declared names (Some (token.Iri iri)) ≡ Err (Defect reason.PrefixFixed)) [
    | inl t ↦ absurd (other (own_is (iri_of fixed_prefixes names.declaring) iri t))
    | inr f ↦ is_told iri false false e (stands iri true false fixed f)
  ]

  may_by : (iri : List ℕ) → (is_fixed table.prefixes names.declaring ≡ true → iri_of fixed_prefixes names.declaring ≢ Some iri → ⊥) → may_stand_for names iri ≡ true
  may_by iri free = elim (cases_Bool (is_fixed table.prefixes names.declaring)) as (λ _. may_stand_for names iri ≡ true) [
    | inr f ↦ stands iri false (own_iri names.declaring iri) f refl
    | inl t ↦ elim (cases_Bool (own_iri names.declaring iri)) as (λ _. may_stand_for names iri ≡ true) [
      | inl own ↦ stands iri true true t own
      | inr none ↦ absurd (free t (λ e. both_ways (own_iri names.declaring iri) none (is_own (iri_of fixed_prefixes names.declaring) iri e)))
    ]
  ]

  put_prefixes : (prefix : Prefix) (name : List ℕ) → prefix.name ≡ name → prefix_in new.prefixes name ≡ Some prefix → ((other : List ℕ) → other ≢ name → prefix_in new.prefixes other ≡ prefix_in table.prefixes other) → AreSamePrefixes new.prefixes (prefix ∷ names.prefixes)
  put_prefixes prefix name is here others = λ other.
      elim (cases_Bool (text_eq prefix.name other)) as (λ _. prefix_in new.prefixes other ≡ prefix_in (prefix ∷ names.prefixes) other) [
        | inl t ↦
            let same : name ≡ other = sym is ∙ (bytes_eq-Decides prefix.name other).0 t in
            ap (λ n. prefix_in new.prefixes n) (sym same) ∙ here
            ∙ sym (ap (λ (b : Bool). if b then Some prefix else prefix_in names.prefixes other) t)
        | inr f ↦
            others other (λ e. both_ways (text_eq prefix.name other) f (equal prefix.name other (is ∙ sym e)))
            ∙ h.prefixes other ∙ sym (ap (λ (b : Bool). if b then Some prefix else prefix_in names.prefixes other) f)
      ]

  pub declared : (iri : List ℕ) → (is_declared table.prefixes names.declaring ≡ true → ⊥) → (is_declared table.prefixes names.declaring ≡ false → is_fixed table.prefixes names.declaring ≡ true → iri_of fixed_prefixes names.declaring ≢ Some iri → ⊥) → prefix_in new.prefixes names.declaring ≡ Some (record { name = names.declaring; iri = iri; fixed = is_fixed table.prefixes names.declaring; declared = true }) → ((other : List ℕ) → other ≢ names.declaring → prefix_in new.prefixes other ≡ prefix_in table.prefixes other) → new.declaring ≡ table.declaring → TurnsTo AreNames (Ok tt) new (prefix_declared names (Some (token.Iri iri)))
  declared iri once free here others d =
      let e : is_declared table.prefixes names.declaring ≡ false = elim (cases_Bool (is_declared table.prefixes names.declaring)) [ inl t ↦ absurd (once t) | inr f ↦ f ] in (
        with_prefix names iri,
        is_told iri false true e (may_by iri (free e)),
        record {
          prefixes =
              put_prefixes (record { name = names.declaring; iri = iri; fixed = is_fixed names.prefixes names.declaring; declared = true }) names.declaring refl
              (here ∙ ap (λ (b : Bool). Some (record { name = names.declaring; iri = iri; fixed = b; declared = true })) (sym (fixed_same names.declaring))) others;
          declaring = d ∙ h.declaring;
        },
      )

-- what is told of declaring an IRI for a name
abbrev pub IsTwice : {T : Type 0} → List Prefix → Result T DeclareFault → List ℕ → Type 0
IsTwice table r name = IsErrOf r declare.PrefixTwice ↔ (is_declared table name ≡ true)

abbrev pub IsFixedTo : {T : Type 0} → List Prefix → List ℕ → Result T DeclareFault → List ℕ → Type 0
IsFixedTo table iri r name =
    IsErrOf r declare.PrefixFixed ↔ ((is_declared table name ≡ false) × (is_fixed table name ≡ true) × (iri_of fixed_prefixes name ≢ Some iri))

-- why an IRI is refused
refused_by : {T : Type 0} (table : NameTable) (names : Names) (h : AreNames table names) (iri : List ℕ) (r : Result T DeclareFault) (fault : DeclareFault) (answer : TokenFault) → r ≡ Err fault → IsTwice table.prefixes r names.declaring → IsFixedTo table.prefixes iri r names.declaring → answer ≡ of_declaring fault → answer ≢ Memory → prefix_declared names (Some (token.Iri iri)) ≡ Err answer
refused_by table names h iri r declare.PrefixTwice answer is twice fixed e other = declared_twice table table names h iri (twice.0 is) ∙ ap Err (sym e)
refused_by table names h iri r declare.PrefixFixed answer is twice fixed e other =
    let k = fixed.0 is in
    declared_fixed table table names h iri k.0 k.1 k.2 ∙ ap Err (sym e)
refused_by table names h iri r declare.Memory answer is twice fixed e other = absurd (other e)

pub refused : {T : Type 0} (table : NameTable) (names : Names) (h : AreNames table names) (name iri : List ℕ) → name ≡ table.declaring → (r : Result T DeclareFault) (fault : DeclareFault) (answer : TokenFault) → r ≡ Err fault → IsTwice table.prefixes r name → IsFixedTo table.prefixes iri r name → answer ≡ of_declaring fault → answer ≢ Memory → prefix_declared names (Some (token.Iri iri)) ≡ Err answer
refused table names h name iri e r fault answer is twice fixed =
    let at = e ∙ h.declaring in
    refused_by table names h iri r fault answer is (subst (IsTwice table.prefixes r) at twice) (subst (IsFixedTo table.prefixes iri r) at fixed)

-- what an IRI that is declared makes
not_err : {T E : Type 0} (r : Result T E) (x : T) (f : E) → r ≡ Ok x → r ≡ Err f → ⊥
not_err r x f e k = cc

abbrev pub IsHere : List Prefix → List Prefix → List ℕ → List ℕ → Type 0
IsHere old new iri name = prefix_in new name ≡ Some (record { name = name; iri = iri; fixed = is_fixed old name; declared = true })

abbrev pub AreOthers : List Prefix → List Prefix → List ℕ → Type 0
AreOthers old new name = (other : List ℕ) → other ≢ name → prefix_in new other ≡ prefix_in old other

pub is_declared_so : {T : Type 0} (table new : NameTable) (names : Names) (h : AreNames table names) (name iri : List ℕ) → name ≡ table.declaring → (r : Result T DeclareFault) (done : T) → r ≡ Ok done → IsTwice table.prefixes r name → IsFixedTo table.prefixes iri r name → IsHere table.prefixes new.prefixes iri name → AreOthers table.prefixes new.prefixes name → new.declaring ≡ table.declaring → TurnsTo AreNames (Ok tt) new (prefix_declared names (Some (token.Iri iri)))
is_declared_so table new names h name iri e r done is twice fixed here others d =
    let at = e ∙ h.declaring in
    let twice_here = subst (IsTwice table.prefixes r) at twice in
    let fixed_here = subst (IsFixedTo table.prefixes iri r) at fixed in
    declared table new names h iri (λ t. not_err r done declare.PrefixTwice is (twice_here.1 t))
    (λ n f o. not_err r done declare.PrefixFixed is (fixed_here.1 (n, f, o))) (subst (IsHere table.prefixes new.prefixes iri) at here)
    (subst (AreOthers table.prefixes new.prefixes) at others) d
