-- Declarations of prefixes.
use Rattle.std.proofs.Common.{◌≡◌, ◌≢◌, inl, inr, ℕ, Bool, true, false, cond, List, [], ◌∷◌, ◌++◌, Contains, Option, None, Some, IsSome, refl, sym, ap, ◌∙◌, subst}
use Rattle.std.specs.Prelude.{IfSome, map, unwrap_or}
use Rattle.std.specs.List.{AllByRecursion}
use Rattle.std.specs.Option.{option_map}
use Rattle.std.proofs.lemmas.List.{map-append}
use Rattle.std.proofs.lemmas.List.Elements.{Contains-append_cases}
use Rattle.std.proofs.lemmas.Slice.Eq.{bytes_eq-Decides}
use Rattle.owl_list.specs.Ascending.{AreApart}
use Rattle.owl_list.proofs.AscendingLaws.{all_pushed, in_cases, in_head, in_none, in_tail}
use Rattle.owl_characters.specs.Iri.{IsIri}
use Rattle.owl_characters.specs.Names.{IsPrefixName}
use Rattle.owl_characters.specs.Order.{text_eq}
use Rattle.owl_atom.specs.declared.fault.DeclareFault.{DeclareFault}
use Rattle.owl_atom.specs.declared.fault.DeclareFault.TheVariants as declares
use Rattle.owl_atom.specs.declared.prefixes.Prefix.{Prefix}
use Rattle.owl_atom.specs.Prefixes.{IsTable, fixed_prefixes, iri_of, is_declared, is_fixed, prefix_in}
use Rattle.owl_reader.specs.declared.fault.Reason.TheVariants as reason
use Rattle.owl_reader.specs.declared.fault.TokenFault.{TokenFault}
use Rattle.owl_reader.specs.declared.fault.TokenFault.TheVariants as fault
use Rattle.owl_tokens.specs.Tokens.{IsToken}
use Rattle.owl_tokens.specs.declared.token.Token.{Token}
use Rattle.owl_tokens.specs.declared.token.Token.TheVariants as token
use Rattle.fss_terms.specs.Functional.{AreDeclarable, IsDeclarable, IsTableOf, PrefixDeclaration, declaration_of, declared_prefix}
use Rattle.fss_terms.specs.Terms.{iri_of_token}
use Rattle.fss_grammar.specs.Making.{Comes, Declares, Kept, Maker, declare}
use Rattle.fss_grammar.specs.Making.Kept.{prefix}
use Rattle.fss_grammar.specs.Ready.{IsBetween, MayDeclare}
use Rattle.fss_grammar.specs.declared.acts.Act.TheVariants.{DeclareIri, DeclareName}
use Rattle.fss_acts.specs.declared.assembler.Assembler.{Assembler}
use Rattle.fss_acts.specs.declared.kept.Kept as held
use Rattle.fss_acts.specs.declared.kept.Kept.TheVariants as keeps
use Rattle.fss_acts.specs.Assembling.{Assembles, IsFit, Performed, kept_of, work_of}
use Rattle.fss_defects.specs.Faults.{FailsIri, FailsName}
use Rattle.fss_acts.specs.Refusals.{of_declaring}
use Rattle.fss_acts.proofs.Put.{constructs, work_of_nothing}

true_false : (b : Bool) → b ≡ true → b ≡ false → ⊥
true_false b h k = cc

-- ---- looking for a declaration

look_at : (d : PrefixDeclaration) (ds : List PrefixDeclaration) (name : List ℕ) (b : Bool) → text_eq d.name name ≡ b → declaration_of (d ∷ ds) name ≡ cond b (Some d) (declaration_of ds name)
look_at d ds name b e = ap (λ (c : Bool). cond c (Some d) (declaration_of ds name)) e

-- the last declaration is found where no other is
find_last : (ds : List PrefixDeclaration) (d : PrefixDeclaration) (name : List ℕ) → d.name ≡ name → declaration_of ds name ≡ None → declaration_of (ds ++ d ∷ []) name ≡ Some d
find_last [] d name e none = look_at d [] name true ((bytes_eq-Decides d.name name).1 e)
find_last (c ∷ ds) d name e none = elim (text_eq c.name name) as (λ b. text_eq c.name name ≡ b → declaration_of ((c ∷ ds) ++ d ∷ []) name ≡ Some d) [
  | true ↦ λ at. let found = sym (look_at c ds name true at) ∙ none in absurd (cc)
  | false ↦ λ at. look_at c (ds ++ d ∷ []) name false at ∙ find_last ds d name e (sym (look_at c ds name false at) ∙ none)
] refl

-- and else nothing changes
find_others : (ds : List PrefixDeclaration) (d : PrefixDeclaration) (name : List ℕ) → text_eq d.name name ≡ false → declaration_of (ds ++ d ∷ []) name ≡ declaration_of ds name
find_others [] d name e = look_at d [] name false e
find_others (c ∷ ds) d name e = ap (λ (o : Option PrefixDeclaration). cond (text_eq c.name name) (Some c) o) (find_others ds d name e)

-- a name that was not declared is not among them
not_named : (ds : List PrefixDeclaration) (name : List ℕ) → declaration_of ds name ≡ None → Contains (map (λ (d : PrefixDeclaration). d.name) ds) name → ⊥
not_named [] name none m = in_none name m
not_named (d ∷ ds) name none m = elim (text_eq d.name name) as (λ b. text_eq d.name name ≡ b → ⊥) [
  | true ↦ λ at. let found = sym (look_at d ds name true at) ∙ none in absurd (cc)
  | false ↦ λ at. elim (in_cases d.name (map (λ (c : PrefixDeclaration). c.name) ds) name m) [
    | inl same ↦ true_false (text_eq d.name name) ((bytes_eq-Decides d.name name).1 same) at
    | inr later ↦ not_named ds name (sym (look_at d ds name false at) ∙ none) later
  ]
] refl

-- ---- a table at a name

declared_at : (table : List Prefix) (name : List ℕ) (o : Option Prefix) → prefix_in table name ≡ o → is_declared table name ≡ unwrap_or (option_map (λ (q : Prefix). q.declared) o) false
declared_at table name o e = ap (λ (p : Option Prefix). unwrap_or (option_map (λ (q : Prefix). q.declared) p) false) e

first_declared : (test : Bool) (p : Prefix) (ps : List Prefix) (name : List ℕ) → text_eq p.name name ≡ test → p.declared ≡ false → is_declared ps name ≡ false → is_declared (p ∷ ps) name ≡ false
first_declared true p ps name e h rest = ap (λ (b : Bool). unwrap_or (option_map (λ (q : Prefix). q.declared) (cond b (Some p) (prefix_in ps name))) false) e ∙ h
first_declared false p ps name e h rest = ap (λ (b : Bool). unwrap_or (option_map (λ (q : Prefix). q.declared) (cond b (Some p) (prefix_in ps name))) false) e ∙ rest

none_declared_in : (prefixes : List Prefix) (name : List ℕ) → AllByRecursion (λ (p : Prefix). p.declared ≡ false) prefixes → is_declared prefixes name ≡ false
none_declared_in [] name h = refl
none_declared_in (p ∷ ps) name h = first_declared (text_eq p.name name) p ps name refl h.0 (none_declared_in ps name h.1)

none_declared : (name : List ℕ) → is_declared fixed_prefixes name ≡ false
none_declared name = none_declared_in fixed_prefixes name (refl, (refl, (refl, (refl, tt))))

module _ (ds : List PrefixDeclaration) (p : List Prefix) (table : IsTableOf ds p) (name : List ℕ) where
  declared_by : (o : Option PrefixDeclaration) → declaration_of ds name ≡ o → prefix_in p name ≡ declared_prefix o name
  declared_by o e = table.each name ∙ ap (λ (x : Option PrefixDeclaration). declared_prefix x name) e

  pub some_declared : is_declared p name ≡ true → IsSome (declaration_of ds name)
  some_declared h = elim (declaration_of ds name) as (λ o. declaration_of ds name ≡ o → IsSome o) [
    | Some d ↦ λ e. refl
    | None ↦ λ e. absurd (true_false (is_declared p name) h (declared_at p name (prefix_in fixed_prefixes name) (declared_by None e) ∙ none_declared name))
  ] refl

  pub not_declared : is_declared p name ≡ false → declaration_of ds name ≡ None
  not_declared h = elim (declaration_of ds name) as (λ o. declaration_of ds name ≡ o → o ≡ None) [
    | Some d ↦ λ e. absurd (true_false (is_declared p name) (declared_at p name (declared_prefix (Some d) name) (declared_by (Some d) e)) h)
    | None ↦ λ e. refl
  ] refl

  none_is_declared : declaration_of ds name ≡ None → is_declared p name ≡ false
  none_is_declared e = declared_at p name (prefix_in fixed_prefixes name) (declared_by None e) ∙ none_declared name

  fixed_before : declaration_of ds name ≡ None → is_fixed p name ≡ is_fixed fixed_prefixes name
  fixed_before e = ap (λ (o : Option Prefix). unwrap_or (option_map (λ (q : Prefix). q.fixed) o) false) (declared_by None e)

-- ---- the name of a prefix

none_some : (o : Option PrefixDeclaration) → o ≡ None → IsSome o → ⊥
none_some o e h = let k = subst IsSome e h in cc

module _ (old : Assembler) (m : Maker) (h : Assembles old m) (next : Option Token) (name : List ℕ) (comes : next ≡ Some (token.Name name [])) where
  pub named_twice : (f : TokenFault) → f ≡ fault.Defect reason.PrefixTwice → is_declared old.prefixes name ≡ true → FailsName m next f
  named_twice f told e = (told, name, comes, some_declared m.document.declarations old.prefixes h.table name e)

  never_twice : declaration_of m.document.declarations name ≡ None → (f : TokenFault) → FailsName m next f → ⊥
  never_twice none f k =
      let same : token.Name k.1 [] ≡ token.Name name [] = let e = sym k.2 ∙ comes in cc in
      let name_is : k.1 ≡ name = cc in
      none_some (declaration_of m.document.declarations k.1) (ap (declaration_of m.document.declarations) name_is ∙ none) k.3

  pub prefix_named : (copy : List ℕ) → copy ≡ name → IfSome next IsToken → IsBetween m → is_declared old.prefixes name ≡ false → Performed DeclareName next m (record old { kept = keeps.Prefix copy })
  prefix_named copy same is ready e =
      let none = not_declared m.document.declarations old.prefixes h.table name e in
      let is_name : IsPrefixName name × _ = subst (λ (n : Option Token). IfSome n IsToken) comes is in
      record {
        maker = record m { kept = prefix name };
        acts = (name, comes, refl);
        assembles = record {
          table = h.table;
          declarable = h.declarable;
          kept = ap keeps.Prefix same;
          fit = (is_name.0, none);
          name = h.name;
          work = constructs old m h (work_of_nothing m ready.nothing_kept);
          says = h.says;
        };
        free = never_twice none;
      }

-- ---- its IRI

pub record Declaring (old new : List Prefix) (name iri : List ℕ) : Type 0 where
  pub fixed : (is_declared old name ≡ false) × (is_fixed old name ≡ true) × (iri_of fixed_prefixes name ≢ Some iri) → ⊥
  pub here : prefix_in new name ≡ Some (record { name = name; iri = iri; fixed = is_fixed old name; declared = true })
  pub others : (other : List ℕ) → other ≢ name → prefix_in new other ≡ prefix_in old other

-- texts are equal or not
is_text : (o : Option (List ℕ)) (x : List ℕ) → (o ≢ Some x → ⊥) → o ≡ Some x
is_text None x h = absurd (h (λ e. cc))
is_text (Some y) x h = elim (text_eq y x) as (λ b. text_eq y x ≡ b → Some y ≡ Some x) [
  | true ↦ λ e. ap Some ((bytes_eq-Decides y x).0 e)
  | false ↦ λ e. absurd (h (λ same. let s : y ≡ x = cc in true_false (text_eq y x) ((bytes_eq-Decides y x).1 s) e))
] refl

apart_pushed : (xs : List (List ℕ)) (x : List ℕ) → AreApart xs → (Contains xs x → ⊥) → AreApart (xs ++ x ∷ [])
apart_pushed [] x apart absent = (in_none x, tt)
apart_pushed (y ∷ ys) x apart absent = (
  λ m. elim (Contains-append_cases ys (x ∷ []) y m) [
    | inl l ↦ apart.0 l
    | inr r ↦ elim (in_cases x [] y r) [ inl e ↦ absent (subst (λ (z : List ℕ). Contains (y ∷ ys) z) (sym e) (in_head y ys)) | inr n ↦ in_none y n ]
  ],
  apart_pushed ys x apart.1 (λ m. absent (in_tail y ys x m)),
)

module _ (ds : List PrefixDeclaration) (old new : List Prefix) (d : PrefixDeclaration) (table : IsTableOf ds old) (is : IsTable new) (absent : declaration_of ds d.name ≡ None) (one : Declaring old new d.name d.iri) where
  looks : (name : List ℕ) (b : Bool) → text_eq d.name name ≡ b → prefix_in new name ≡ declared_prefix (declaration_of (ds ++ d ∷ []) name) name
  looks name true e =
      let same : d.name ≡ name = (bytes_eq-Decides d.name name).0 e in
      subst (λ (x : List ℕ). prefix_in new x ≡ declared_prefix (declaration_of (ds ++ d ∷ []) x) x) same
      (one.here ∙ ap (λ (b : Bool). Some (record { name = d.name; iri = d.iri; fixed = b; declared = true })) (fixed_before ds old table d.name absent)
      ∙ ap (λ (o : Option PrefixDeclaration). declared_prefix o d.name) (sym (find_last ds d d.name refl absent)))
  looks name false e =
      one.others name (λ same. true_false (text_eq d.name name) ((bytes_eq-Decides d.name name).1 (sym same)) e) ∙ table.each name
      ∙ ap (λ (o : Option PrefixDeclaration). declared_prefix o name) (sym (find_others ds d name e))

  table_more : IsTableOf (ds ++ d ∷ []) new
  table_more = record { table = is; each = λ name. looks name (text_eq d.name name) refl }

  may_declare : IsPrefixName d.name → IsIri d.iri → IsDeclarable d
  may_declare name iri = record {
    name = name;
    iri = iri;
    fixed = λ f. is_text (iri_of fixed_prefixes d.name) d.iri (λ ne. one.fixed (none_is_declared ds old table d.name absent, fixed_before ds old table d.name absent ∙ f, ne));
  }

  declarable_more : IsPrefixName d.name → IsIri d.iri → AreDeclarable ds → AreDeclarable (ds ++ d ∷ [])
  declarable_more name iri h = record {
    each = all_pushed IsDeclarable ds d h.each (may_declare name iri);
    once = subst AreApart (sym (map-append (λ (c : PrefixDeclaration). c.name) ds (d ∷ []))) (apart_pushed (map (λ (c : PrefixDeclaration). c.name) ds) d.name h.once (not_named ds d.name absent));
  }

same_prefix : (k : Kept) (o : held.Kept) (name other : List ℕ) → o ≡ kept_of k → k ≡ prefix other → o ≡ keeps.Prefix name → k ≡ prefix name
same_prefix k o name other e f g =
    let h : keeps.Prefix other ≡ keeps.Prefix name = sym (ap kept_of f) ∙ sym e ∙ g in
    let same : other ≡ name = cc in
    f ∙ ap prefix same

module _ (old : Assembler) (m : Maker) (h : Assembles old m) (next : Option Token) (ready : MayDeclare next m) (name i : List ℕ) (was : old.kept ≡ keeps.Prefix name) (c : Comes old.prefixes next i) (iri : IsIri i) where
  keeps_name : m.kept ≡ prefix name
  keeps_name = same_prefix m.kept old.kept name ready.name h.kept ready.keeps was

  abbrev ds : List PrefixDeclaration
  ds = m.document.declarations

  fits : IsPrefixName name × (declaration_of ds name ≡ None)
  fits = subst (λ (k : Kept). IsFit k m.frames ds) keeps_name h.fit

  pub comes_full : next ≡ Some (token.Iri i)
  comes_full =
      let same : c.name ≡ token.Iri ready.iri = let e = sym c.comes ∙ ready.comes in cc in
      let stands : Some ready.iri ≡ Some i = sym (ap (iri_of_token old.prefixes) same) ∙ c.stands in
      let iri_is : ready.iri ≡ i = cc in
      ready.comes ∙ ap (λ (x : List ℕ). Some (token.Iri x)) iri_is

  never_fixed : (fixed : is_fixed fixed_prefixes name ≡ true → iri_of fixed_prefixes name ≡ Some i) (f : TokenFault) → FailsIri m next f → ⊥
  never_fixed fixed f k =
      let names : prefix k.1 ≡ prefix name = sym k.3 ∙ keeps_name in
      let name_is : name ≡ k.1 = cc in
      let iris : token.Iri k.2 ≡ token.Iri i = let e = sym k.4 ∙ comes_full in cc in
      let iri_is : i ≡ k.2 = cc in
      k.6 (subst (λ (x : List ℕ). iri_of fixed_prefixes x ≡ Some k.2) name_is (subst (λ (x : List ℕ). iri_of fixed_prefixes name ≡ Some x) iri_is (fixed (subst (λ (x : List ℕ). is_fixed fixed_prefixes x ≡ true) (sym name_is) k.5))))

  pub prefix_declared : (new : List Prefix) (left : held.Kept) → left ≡ keeps.Nothing → IsTable new → Declaring old.prefixes new name i → Performed DeclareIri next m (record old { prefixes = new; kept = left })
  prefix_declared new left gone is one =
      let d : PrefixDeclaration = record { name = name; iri = i } in
      let may = may_declare ds old.prefixes new d h.table is fits.1 one fits.0 iri in
      record {
        maker = declare d m;
        acts = subst (λ (k : Kept). Declares k next m (declare d m)) (sym keeps_name) (i, comes_full, refl);
        assembles = record {
          table = table_more ds old.prefixes new d h.table is fits.1 one;
          declarable = declarable_more ds old.prefixes new d h.table is fits.1 one fits.0 iri h.declarable;
          kept = gone;
          fit = tt;
          name = h.name;
          work = constructs old m h (ap (λ (k : Kept). work_of k m.frames) keeps_name);
          says = h.says;
        };
        free = never_fixed may.fixed;
      }

  pub prefix_refused : (f : TokenFault) (e : DeclareFault) → f ≡ of_declaring e → f ≢ fault.Memory → (e ≡ declares.PrefixTwice → is_declared old.prefixes name ≡ true) → (e ≡ declares.PrefixFixed → (is_declared old.prefixes name ≡ false) × (is_fixed old.prefixes name ≡ true) × (iri_of fixed_prefixes name ≢ Some i)) → FailsIri m next f
  prefix_refused f declares.PrefixTwice told ne twice fixed =
      absurd (true_false (is_declared old.prefixes name) (twice refl) (none_is_declared ds old.prefixes h.table name fits.1))
  prefix_refused f declares.PrefixFixed told ne twice fixed =
      let k = fixed refl in
      (told, name, i, keeps_name, comes_full, sym (fixed_before ds old.prefixes h.table name fits.1) ∙ k.1, k.2)
  prefix_refused f declares.Memory told ne twice fixed = absurd (ne told)

pub record Refusals (old : List Prefix) (name iri : List ℕ) (e : DeclareFault) : Type 0 where
  pub twice : e ≡ declares.PrefixTwice → is_declared old name ≡ true
  pub fixed : e ≡ declares.PrefixFixed → (is_declared old name ≡ false) × (is_fixed old name ≡ true) × (iri_of fixed_prefixes name ≢ Some iri)

pub refusals_at : (old : List Prefix) (shown name iri : List ℕ) (e : DeclareFault) → shown ≡ name → (e ≡ declares.PrefixTwice → is_declared old shown ≡ true) → (e ≡ declares.PrefixFixed → (is_declared old shown ≡ false) × (is_fixed old shown ≡ true) × (iri_of fixed_prefixes shown ≢ Some iri)) → Refusals old name iri e
refusals_at old shown name iri e same twice fixed = subst (λ (x : List ℕ). Refusals old x iri e) same (record { twice = twice; fixed = fixed })
