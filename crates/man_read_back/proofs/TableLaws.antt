-- The prefixes of a text, declared one after the other over those that are there beforehand, are the prefixes that are read.
use Rattle.std.proofs.Common.{◌≡◌, ◌⊎◌, inl, inr, ℕ, Bool, true, false, cond, not, filter, Option, None, Some, List, [], ◌∷◌, map, codes, Contains, refl, sym, ap, ◌∙◌, subst}
use Rattle.std.specs.Prelude.{unwrap_or}
use Rattle.std.specs.declared.cmp.Ordering.TheVariants.{Less}
use Rattle.std.specs.List.{AllByRecursion}
use Rattle.std.specs.Option.{option_map}
use Rattle.std.proofs.lemmas.Bool.{both_ways, cases_Bool, not-true}
use Rattle.std.proofs.lemmas.Slice.Eq.{bytes_eq-Decides}
use Rattle.man_grammar.specs.Documents.{AreSamePrefixes}
use Rattle.man_text.specs.Text.{is_keyword, manchester_prefixes, unmarked}
use Rattle.man_grammar.specs.ClassNumbers.{word_of}
use Rattle.owl_atom.specs.PrefixLaws.{Below, below_none, passed}
use Rattle.owl_atom.specs.Prefixes.{AreAscending, IsTable, fixed_prefixes, iri_of, is_declared, prefix_in}
use Rattle.owl_atom.specs.declared.prefixes.Prefix.{Prefix}
use Rattle.owl_characters.specs.Iri.{IsIri}
use Rattle.owl_characters.specs.Names.{IsPrefixName}
use Rattle.owl_characters.specs.Order.{text_cmp, text_eq}
use Rattle.owl_characters.specs.OrderLaws.{less_unequal}
use Rattle.owl_list.proofs.AscendingLaws.{all_from, all_in, from_map}
use Rattle.owl_list.proofs.FilterLaws.{from_filter}
use Rattle.owl_writing.proofs.TableLaws.{looked_up}
use Rattle.owl_writing.proofs.WrittenTableLaws.{AreKnown, fixed_stands, not_fixed, written_table}
use Rattle.owl_writing.specs.Tables.{HaveIris, as_declared, written_prefixes}

-- ---- prefixes that are declared in front of others

abbrev pub declared : List Prefix → List Prefix → List Prefix
declared [] prefixes = prefixes
declared (p ∷ ps) prefixes = declared ps (as_declared p ∷ prefixes)

or_else : Option Prefix → Option Prefix → Option Prefix
or_else None other = other
or_else (Some p) other = Some p

mapped_by : (b : Bool) (p : Prefix) (x y : Option Prefix) → x ≡ option_map as_declared y → cond b (Some (as_declared p)) x ≡ option_map as_declared (cond b (Some p) y)
mapped_by true p x y e = refl
mapped_by false p x y e = e

found_declared : (ps : List Prefix) (name : List ℕ) → prefix_in (map as_declared ps) name ≡ option_map as_declared (prefix_in ps name)
found_declared [] name = refl
found_declared (p ∷ ps) name = mapped_by (text_eq p.name name) p (prefix_in (map as_declared ps) name) (prefix_in ps name) (found_declared ps name)

found_by : (b : Bool) (p : Prefix) (ps : List Prefix) (name : List ℕ) (other : Option Prefix) → text_eq p.name name ≡ b → Below p.name ps
    → or_else (prefix_in (map as_declared ps) name) (cond b (Some (as_declared p)) other) ≡ or_else (cond b (Some (as_declared p)) (prefix_in (map as_declared ps) name)) other
unfolding or_else
found_by true p ps name other t below =
    let same : p.name ≡ name = (bytes_eq-Decides p.name name).0 t in
    let none = found_declared ps name ∙ ap (option_map as_declared) (below_none name ps (subst (λ (n : List ℕ). Below n ps) same below)) in
    ap (λ (o : Option Prefix). or_else o (Some (as_declared p))) none
found_by false p ps name other t below = refl

declared_found : (ps prefixes : List Prefix) (name : List ℕ) → AreAscending ps → prefix_in (declared ps prefixes) name ≡ or_else (prefix_in (map as_declared ps) name) (prefix_in prefixes name)
unfolding or_else
declared_found [] prefixes name up = refl
declared_found (p ∷ ps) prefixes name up =
    declared_found ps (as_declared p ∷ prefixes) name up.1 ∙ found_by (text_eq p.name name) p ps name (prefix_in prefixes name) refl up.0

-- ---- what may be declared

-- where prefixes are declared that stand for what they may stand for
pub record IsDeclarable (p : Prefix) : Type 0 where
  pub name : IsPrefixName p.name
  pub iri : IsIri p.iri
  pub no_keyword : is_keyword p.name ≡ false
  pub fixed : (prefix_in fixed_prefixes p.name ≡ None) ⊎ (iri_of fixed_prefixes p.name ≡ Some p.iri)

-- of these names only those are there that are there beforehand
abbrev pub AreFree : List Prefix → List Prefix → Type 0
AreFree ps prefixes = AllByRecursion (λ p. prefix_in prefixes p.name ≡ prefix_in fixed_prefixes p.name) ps

pub all_free : (ps : List Prefix) → AreFree ps fixed_prefixes
all_free [] = tt
all_free (p ∷ ps) = (refl, all_free ps)

pub still_free : (p : Prefix) (ps prefixes : List Prefix) → Below p.name ps → AreFree ps prefixes → AreFree ps (as_declared p ∷ prefixes)
still_free p [] prefixes below free = tt
still_free p (q ∷ ps) prefixes below free = (passed (as_declared p) prefixes q.name (less_unequal p.name q.name below.0) ∙ free.0, still_free p ps prefixes below.1 free.1)

-- none of those that are there beforehand was declared
declared_by : (a b c d : Bool) → unwrap_or (option_map (λ (p : Prefix). p.declared) (cond a (prefix_in fixed_prefixes (codes "owl")) (cond b (prefix_in fixed_prefixes (codes "rdf")) (cond c (prefix_in fixed_prefixes (codes "rdfs")) (cond d (prefix_in fixed_prefixes (codes "xsd")) None))))) false ≡ false
declared_by true b c d = refl
declared_by false true c d = refl
declared_by false false true d = refl
declared_by false false false true = refl
declared_by false false false false = refl

pub never_declared : (name : List ℕ) → is_declared fixed_prefixes name ≡ false
never_declared name = declared_by (text_eq (codes "owl") name) (text_eq (codes "rdf") name) (text_eq (codes "rdfs") name) (text_eq (codes "xsd") name)

-- ---- the prefixes of a text

no_name : (own name : List ℕ) → is_keyword own ≡ false → is_keyword name ≡ true → text_eq own name ≡ false
no_name own name h k = elim (cases_Bool (text_eq own name)) as (λ _. text_eq own name ≡ false) [
  | inl t ↦ absurd (both_ways (is_keyword own) h (ap is_keyword ((bytes_eq-Decides own name).0 t) ∙ k))
  | inr f ↦ f
]

keyword_is_free : (name : List ℕ) → is_keyword name ≡ true → prefix_in fixed_prefixes name ≡ None
unfolding is_keyword word_of
keyword_is_free name k = rw (no_name (codes "owl") name refl k, no_name (codes "rdf") name refl k, no_name (codes "rdfs") name refl k, no_name (codes "xsd") name refl k) refl

kept_by : (b c : Bool) (p : Prefix) (ps others : List Prefix) (name : List ℕ) → not (is_keyword p.name) ≡ b → text_eq p.name name ≡ c → not (is_keyword name) ≡ true → prefix_in others name ≡ prefix_in ps name
    → prefix_in (cond b (p ∷ others) others) name ≡ cond c (Some p) (prefix_in ps name)
kept_by true c p ps others name keep t k e = ap (λ (x : Bool). cond x (Some p) (prefix_in others name)) t ∙ ap (cond c (Some p)) e
kept_by false true p ps others name keep t k e = absurd (both_ways (not (is_keyword name)) (sym (ap (λ (n : List ℕ). not (is_keyword n)) ((bytes_eq-Decides p.name name).0 t)) ∙ keep) k)
kept_by false false p ps others name keep t k e = e

kept_found : (ps : List Prefix) (name : List ℕ) → not (is_keyword name) ≡ true → prefix_in (filter (λ (p : Prefix). not (is_keyword p.name)) ps) name ≡ prefix_in ps name
kept_found [] name k = refl
kept_found (p ∷ ps) name k = kept_by (not (is_keyword p.name)) (text_eq p.name name) p ps (filter (λ (q : Prefix). not (is_keyword q.name)) ps) name refl refl k (kept_found ps name k)

pub all_kept : (Each : Prefix → Type 0) (test : Prefix → Bool) (ps : List Prefix) → AllByRecursion Each ps → AllByRecursion Each (filter test ps)
all_kept Each test ps h = all_from Each (filter test ps) (λ p m. all_in Each ps p h (from_filter test ps p m).inside)

kept_up : (b : Bool) (p : Prefix) (others : List Prefix) → Below p.name others → AreAscending others → AreAscending (cond b (p ∷ others) others)
kept_up true p others below up = (below, up)
kept_up false p others below up = up

kept_ascending : (test : Prefix → Bool) (ps : List Prefix) → AreAscending ps → AreAscending (filter test ps)
kept_ascending test [] up = tt
kept_ascending test (p ∷ ps) up = kept_up (test p) p (filter test ps) (all_kept (λ q. text_cmp p.name q.name ≡ Less) test ps up.0) (kept_ascending test ps up.1)

or_none : (o other : Option Prefix) → (o ≡ None → other ≡ None) → or_else o other ≡ o
unfolding or_else
or_none None other h = h refl
or_none (Some p) other h = refl

unmapped : (o : Option Prefix) → option_map as_declared o ≡ None → o ≡ None
unmapped None e = refl
unmapped (Some p) e = absurd (cc)

same_iri : (o : Option Prefix) → option_map (λ (p : Prefix). p.iri) (option_map as_declared o) ≡ option_map (λ (p : Prefix). p.iri) o
same_iri None = refl
same_iri (Some p) = refl

-- ---- the same without their marks

declared_again : (ps : List Prefix) → map as_declared (map unmarked ps) ≡ map as_declared ps
declared_again [] = refl
declared_again (p ∷ ps) = ap (λ (qs : List Prefix). as_declared p ∷ qs) (declared_again ps)

declared_unmarked : (ps prefixes : List Prefix) → declared (map unmarked ps) prefixes ≡ declared ps prefixes
declared_unmarked [] prefixes = refl
declared_unmarked (p ∷ ps) prefixes = declared_unmarked ps (as_declared p ∷ prefixes)

pub all_unmarked : (Each : Prefix → Type 0) (ps : List Prefix) → ((p : Prefix) → Each p → Each (unmarked p)) → AllByRecursion Each ps → AllByRecursion Each (map unmarked ps)
all_unmarked Each [] f h = tt
all_unmarked Each (p ∷ ps) f h = (f p h.0, all_unmarked Each ps f h.1)

unmarked_ascending : (ps : List Prefix) → AreAscending ps → AreAscending (map unmarked ps)
unmarked_ascending [] up = tt
unmarked_ascending (p ∷ ps) up = (all_unmarked (λ q. text_cmp p.name q.name ≡ Less) ps (λ q h. h) up.0, unmarked_ascending ps up.1)

unmarked_declarable : (p : Prefix) → IsDeclarable p → IsDeclarable (unmarked p)
unmarked_declarable p h = record { name = h.name; iri = h.iri; no_keyword = h.no_keyword; fixed = h.fixed }

module _ (prefixes : List Prefix) (table : IsTable prefixes) where
  abbrev is_kept : Prefix → Bool
  is_kept p = not (is_keyword p.name)

  abbrev kept : List Prefix
  kept = filter is_kept (written_prefixes prefixes)

  abbrev ps : List Prefix
  ps = manchester_prefixes prefixes

  kept_up_there : AreAscending kept
  kept_up_there = kept_ascending is_kept (written_prefixes prefixes) (written_table prefixes table).ascending

  pub kept_table : IsTable ps
  kept_table = let all = written_table prefixes table in record {
    ascending = unmarked_ascending kept kept_up_there;
    names = all_unmarked (λ p. IsPrefixName p.name) kept (λ p h. h) (all_kept (λ p. IsPrefixName p.name) is_kept (written_prefixes prefixes) all.names);
  }

  absent_is_free : (name : List ℕ) → prefix_in kept name ≡ None → prefix_in fixed_prefixes name ≡ None
  absent_is_free name e = elim (cases_Bool (is_keyword name)) as (λ _. prefix_in fixed_prefixes name ≡ None) [
    | inl k ↦ keyword_is_free name k
    | inr f ↦ not_fixed prefixes table name (sym (kept_found (written_prefixes prefixes) name (ap not f)) ∙ e)
  ]

  read_kept : AreSamePrefixes (map as_declared kept) (declared kept fixed_prefixes)
  read_kept name =
      sym (declared_found kept fixed_prefixes name kept_up_there
      ∙ or_none (prefix_in (map as_declared kept) name) (prefix_in fixed_prefixes name) (λ e. absent_is_free name (unmapped (prefix_in kept name) (sym (found_declared kept name) ∙ e))))

  -- what was declared is what was written
  pub read_prefixes : AreSamePrefixes (map as_declared ps) (declared ps fixed_prefixes)
  read_prefixes name =
      ap (λ (qs : List Prefix). prefix_in qs name) (declared_again kept) ∙ read_kept name ∙ ap (λ (qs : List Prefix). prefix_in qs name) (sym (declared_unmarked kept fixed_prefixes))

  kept_iri : (p : Prefix) → Contains kept p → iri_of (declared kept fixed_prefixes) p.name ≡ Some p.iri
  kept_iri p m =
      ap (option_map (λ (q : Prefix). q.iri)) (sym (read_kept p.name) ∙ found_declared kept p.name)
      ∙ same_iri (prefix_in kept p.name)
      ∙ ap (option_map (λ (q : Prefix). q.iri)) (looked_up kept p kept_up_there m)

  own_iri : (p : Prefix) → Contains ps p → iri_of (declared ps fixed_prefixes) p.name ≡ Some p.iri
  own_iri p m =
      let value = from_map unmarked kept p m in
      subst (λ (q : Prefix). iri_of (declared ps fixed_prefixes) q.name ≡ Some q.iri) value.value
      (ap (λ (qs : List Prefix). iri_of qs value.element.name) (declared_unmarked kept fixed_prefixes) ∙ kept_iri value.element value.inside)

  pub known_prefixes : AreKnown ps (declared ps fixed_prefixes)
  known_prefixes = record { names = kept_table.names; each = own_iri; ascending = kept_table.ascending }

  declarable : HaveIris (written_prefixes prefixes) → (p : Prefix) → Contains kept p → IsDeclarable p
  declarable iris p m =
      let within = from_filter is_kept (written_prefixes prefixes) p m in
      let all = written_table prefixes table in
      let own = ap (option_map (λ (q : Prefix). q.iri)) (looked_up (written_prefixes prefixes) p all.ascending within.inside) in
      record {
        name = all_in (λ (q : Prefix). IsPrefixName q.name) (written_prefixes prefixes) p all.names within.inside;
        iri = all_in (λ (q : Prefix). IsIri q.iri) (written_prefixes prefixes) p iris within.inside;
        no_keyword = not-true (is_keyword p.name) within.passes;
        fixed = elim (fixed_stands prefixes table p.name) [
          | inl none ↦ inl none
          | inr at ↦ inr (at.1 ∙ sym at.2 ∙ own)
        ];
      }

  pub are_declarable : HaveIris (written_prefixes prefixes) → AllByRecursion IsDeclarable ps
  are_declarable iris = all_unmarked IsDeclarable kept unmarked_declarable (all_from IsDeclarable kept (declarable iris))
