-- The declarations of a written text make the table that is written, with each prefix declared.
use Rattle.std.proofs.Common.{◌≡◌, inl, inr, ℕ, Bool, true, false, cond, List, [], ◌∷◌, map, Option, Some, None, Contains, refl, sym, ap, ◌∙◌, subst}
use Rattle.std.specs.Prelude.{unwrap_or}
use Rattle.std.specs.declared.cmp.Ordering.TheVariants.{Less, Equal}
use Rattle.std.specs.List.{AllByRecursion}
use Rattle.std.specs.Option.{option_map}
use Rattle.std.proofs.lemmas.Bool.{cases_Bool, false≢true}
use Rattle.std.proofs.lemmas.Cmp.{tied_itself}
use Rattle.std.proofs.lemmas.Slice.Eq.{bytes_eq-Decides}
use Rattle.owl_list.specs.Ascending.{AreApart}
use Rattle.owl_list.proofs.AscendingLaws.{all_from, all_in, in_cases, in_none}
use Rattle.owl_characters.specs.Iri.{IsIri}
use Rattle.owl_characters.specs.Names.{IsPrefixName}
use Rattle.owl_characters.specs.Order.{text_cmp, text_eq}
use Rattle.owl_characters.specs.OrderLaws.{texts_total}
use Rattle.owl_atom.specs.declared.prefixes.Prefix.{Prefix}
use Rattle.owl_atom.specs.Prefixes.{AreAscending, IsTable, fixed_prefixes, iri_of, is_fixed, prefix_in}
use Rattle.owl_writing.proofs.TableLaws.{looked_up}
use Rattle.owl_writing.specs.Tables.{HaveIris, as_declared, declared_prefixes, written_prefixes}
use Rattle.owl_writing.proofs.WrittenTableLaws.{declared_is_table, fixed_stands, not_fixed, written_table}
use Rattle.fss_terms.specs.Functional.{AreDeclarable, IsDeclarable, IsTableOf, PrefixDeclaration, declaration_of, declared_prefix}

-- the declarations that are written

abbrev pub declaration : Prefix → PrefixDeclaration
declaration prefix = record { name = prefix.name; iri = prefix.iri }

declarable : (prefixes : List Prefix) (h : IsTable prefixes) → HaveIris (written_prefixes prefixes) → (prefix : Prefix) → Contains (written_prefixes prefixes) prefix → IsDeclarable (declaration prefix)
declarable prefixes h iris prefix m =
    let table = written_table prefixes h in
    let at = looked_up (written_prefixes prefixes) prefix table.ascending m in
    let own : iri_of (written_prefixes prefixes) prefix.name ≡ Some prefix.iri = ap (λ (o : Option Prefix). option_map (λ (q : Prefix). q.iri) o) at in
    record {
      name = all_in (λ (q : Prefix). IsPrefixName q.name) (written_prefixes prefixes) prefix table.names m;
      iri = all_in (λ (q : Prefix). IsIri q.iri) (written_prefixes prefixes) prefix iris m;
      fixed = λ t. elim (fixed_stands prefixes h prefix.name) as (λ _. iri_of fixed_prefixes prefix.name ≡ Some prefix.iri) [
        | inl none ↦ absurd (false≢true (sym (ap (λ (o : Option Prefix). unwrap_or (option_map (λ (q : Prefix). q.fixed) o) false) none) ∙ t))
        | inr at_fixed ↦ at_fixed.1 ∙ sym at_fixed.2 ∙ own
      ];
    }

each_declarable : (ps : List Prefix) → AllByRecursion (λ p. IsDeclarable (declaration p)) ps → AllByRecursion IsDeclarable (map declaration ps)
each_declarable [] h = tt
each_declarable (p ∷ ps) h = (h.0, each_declarable ps h.1)

abbrev names_of : List Prefix → List (List ℕ)
names_of ps = map (λ (d : PrefixDeclaration). d.name) (map declaration ps)

not_among : (name : List ℕ) (ps : List Prefix) → AllByRecursion (λ p. text_cmp name p.name ≡ Less) ps → Contains (names_of ps) name → ⊥
not_among name [] h m = in_none name m
not_among name (p ∷ ps) h m = elim (in_cases p.name (names_of ps) name m) [
  | inl e ↦
      let less : text_cmp name p.name ≡ Less = h.0 in
      let tie : text_cmp name p.name ≡ Equal = subst (λ (n : List ℕ). text_cmp name n ≡ Equal) (sym e) (tied_itself texts_total name) in
      absurd (cc)
  | inr n ↦ not_among name ps h.1 n
]

names_apart : (ps : List Prefix) → AreAscending ps → AreApart (names_of ps)
names_apart [] up = tt
names_apart (p ∷ ps) up = (not_among p.name ps up.0, names_apart ps up.1)

pub are_declarable : (prefixes : List Prefix) → IsTable prefixes → HaveIris (written_prefixes prefixes) → AreDeclarable (map declaration (written_prefixes prefixes))
are_declarable prefixes h iris = record {
  each = each_declarable (written_prefixes prefixes) (all_from (λ p. IsDeclarable (declaration p)) (written_prefixes prefixes) (declarable prefixes h iris));
  once = names_apart (written_prefixes prefixes) (written_table prefixes h).ascending;
}

-- the table of the declarations

met_same : (p : Prefix) (name : List ℕ) → p.name ≡ name → Some (as_declared p) ≡ declared_prefix (Some (declaration p)) name
met_same p name e = λ i. Some (record { name = e i; iri = p.iri; fixed = is_fixed fixed_prefixes (e i); declared = true })

found_by : (b : Bool) (p : Prefix) (ps : List Prefix) (name : List ℕ) → text_eq p.name name ≡ b → prefix_in (map as_declared ps) name ≡ declared_prefix (declaration_of (map declaration ps) name) name
    → cond b (Some (as_declared p)) (prefix_in (map as_declared ps) name) ≡ declared_prefix (cond b (Some (declaration p)) (declaration_of (map declaration ps) name)) name
found_by true p ps name e rest = met_same p name ((bytes_eq-Decides p.name name).0 e)
found_by false p ps name e rest = rest

declared_found : (ps : List Prefix) (name : List ℕ) → (prefix_in ps name ≡ None → prefix_in fixed_prefixes name ≡ None) → prefix_in (map as_declared ps) name ≡ declared_prefix (declaration_of (map declaration ps) name) name
declared_found [] name none = sym (none refl)
declared_found (p ∷ ps) name none = elim (cases_Bool (text_eq p.name name)) as (λ _. prefix_in (map as_declared (p ∷ ps)) name ≡ declared_prefix (declaration_of (map declaration (p ∷ ps)) name) name) [
  | inl t ↦ rw t (met_same p name ((bytes_eq-Decides p.name name).0 t))
  | inr f ↦ rw f (declared_found ps name (λ e. none (ap (λ (b : Bool). cond b (Some p) (prefix_in ps name)) f ∙ e)))
]

pub declared_table : (prefixes : List Prefix) → IsTable prefixes → IsTableOf (map declaration (written_prefixes prefixes)) (declared_prefixes prefixes)
declared_table prefixes h = record {
  table = declared_is_table prefixes h;
  each = λ name. declared_found (written_prefixes prefixes) name (not_fixed prefixes h name);
}
