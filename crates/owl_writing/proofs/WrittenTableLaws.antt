-- The table that is written, and what it is when it is read.
use Rattle.std.proofs.Common.{◌≡◌, ◌≢◌, ◌⊎◌, inl, inr, ℕ, Bool, true, false, cond, List, [], ◌∷◌, map, codes, Option, Some, None, Contains, refl, sym, ap, ◌∙◌}
use Rattle.std.specs.declared.cmp.Ordering.TheVariants.{Less}
use Rattle.std.specs.List.{AllByRecursion}
use Rattle.std.specs.Option.{option_map}
use Rattle.std.proofs.lemmas.Bool.{both_ways, cases_Bool}
use Rattle.std.proofs.lemmas.Slice.Eq.{bytes_eq-Decides}
use Rattle.owl_characters.specs.Iri.{IsIri}
use Rattle.owl_characters.proofs.IriLaws.{written_iri}
use Rattle.owl_characters.proofs.NameLaws.{written_name}
use Rattle.owl_characters.specs.Names.{IsPrefixName}
use Rattle.owl_characters.specs.Order.{text_cmp, text_eq}
use Rattle.owl_characters.specs.OrderLaws.{equal}
use Rattle.owl_atom.specs.declared.prefixes.Prefix.{Prefix}
use Rattle.owl_atom.specs.Prefixes.{AreAscending, IsTable, fixed_prefixes, iri_of, prefix_in}
use Rattle.rdf_terms.specs.Vocabulary.{owl, rdf, rdfs, xsd}
use Rattle.owl_writing.proofs.TableLaws.{looked_up, with_prefix_iris, with_prefix_sets, with_prefix_table}
use Rattle.owl_writing.specs.Tables.{HaveIris, as_declared, declared_prefixes, with_prefix, written_prefixes}

-- the four names and their IRIs

owl_name : IsPrefixName (codes "owl")
owl_name = written_name 111 (codes "wl") refl refl refl

rdf_name : IsPrefixName (codes "rdf")
rdf_name = written_name 114 (codes "df") refl refl refl

rdfs_name : IsPrefixName (codes "rdfs")
rdfs_name = written_name 114 (codes "dfs") refl refl refl

xsd_name : IsPrefixName (codes "xsd")
xsd_name = written_name 120 (codes "sd") refl refl refl

owl_iri : IsIri (owl [])
owl_iri = written_iri (codes "//www.w3.org/2002/07/owl#") refl

rdf_iri : IsIri (rdf [])
rdf_iri = written_iri (codes "//www.w3.org/1999/02/22-rdf-syntax-ns#") refl

rdfs_iri : IsIri (rdfs [])
rdfs_iri = written_iri (codes "//www.w3.org/2000/01/rdf-schema#") refl

xsd_iri : IsIri (xsd [])
xsd_iri = written_iri (codes "//www.w3.org/2001/XMLSchema#") refl

-- what is written is a table of IRIs

pub written_table : (prefixes : List Prefix) → IsTable prefixes → IsTable (written_prefixes prefixes)
written_table prefixes h =
    with_prefix_table (codes "xsd") (xsd []) _ xsd_name
    (with_prefix_table (codes "rdfs") (rdfs []) _ rdfs_name
    (with_prefix_table (codes "rdf") (rdf []) _ rdf_name
    (with_prefix_table (codes "owl") (owl []) prefixes owl_name h)))

pub written_iris : (prefixes : List Prefix) → HaveIris prefixes → HaveIris (written_prefixes prefixes)
written_iris prefixes h =
    with_prefix_iris (codes "xsd") (xsd []) _ xsd_iri
    (with_prefix_iris (codes "rdfs") (rdfs []) _ rdfs_iri
    (with_prefix_iris (codes "rdf") (rdf []) _ rdf_iri
    (with_prefix_iris (codes "owl") (owl []) prefixes owl_iri h)))

-- the names that are there beforehand have the IRIs that they have beforehand

here_iri : (name iri : List ℕ) (old : List Prefix) → AreAscending old → iri_of (with_prefix name iri old) name ≡ Some iri
here_iri name iri old up = ap (λ (o : Option Prefix). option_map (λ (q : Prefix). q.iri) o) (with_prefix_sets name iri old up).here

other_iri : (name iri : List ℕ) (old : List Prefix) (other : List ℕ) → AreAscending old → other ≢ name → iri_of (with_prefix name iri old) other ≡ iri_of old other
other_iri name iri old other up ne = ap (λ (o : Option Prefix). option_map (λ (q : Prefix). q.iri) o) ((with_prefix_sets name iri old up).others other ne)

differ : (a b : List ℕ) → text_eq a b ≡ false → a ≢ b
differ a b f e = both_ways (text_eq a b) f (equal a b e)

abbrev pub StandsFixed : List Prefix → List ℕ → Type 0
StandsFixed prefixes name = (prefix_in fixed_prefixes name ≡ None) ⊎ ((iri : List ℕ) × (iri_of fixed_prefixes name ≡ Some iri) × (iri_of (written_prefixes prefixes) name ≡ Some iri))

module _ (prefixes : List Prefix) (h : IsTable prefixes) where
  abbrev first : List Prefix
  first = with_prefix (codes "owl") (owl []) prefixes

  abbrev second : List Prefix
  second = with_prefix (codes "rdf") (rdf []) first

  abbrev third : List Prefix
  third = with_prefix (codes "rdfs") (rdfs []) second

  first_table : IsTable first
  first_table = with_prefix_table (codes "owl") (owl []) prefixes owl_name h

  second_table : IsTable second
  second_table = with_prefix_table (codes "rdf") (rdf []) first rdf_name first_table

  third_table : IsTable third
  third_table = with_prefix_table (codes "rdfs") (rdfs []) second rdfs_name second_table

  owl_stands : iri_of (written_prefixes prefixes) (codes "owl") ≡ Some (owl [])
  owl_stands =
      other_iri (codes "xsd") (xsd []) third (codes "owl") third_table.ascending (differ (codes "owl") (codes "xsd") refl)
      ∙ other_iri (codes "rdfs") (rdfs []) second (codes "owl") second_table.ascending (differ (codes "owl") (codes "rdfs") refl)
      ∙ other_iri (codes "rdf") (rdf []) first (codes "owl") first_table.ascending (differ (codes "owl") (codes "rdf") refl)
      ∙ here_iri (codes "owl") (owl []) prefixes h.ascending

  rdf_stands : iri_of (written_prefixes prefixes) (codes "rdf") ≡ Some (rdf [])
  rdf_stands =
      other_iri (codes "xsd") (xsd []) third (codes "rdf") third_table.ascending (differ (codes "rdf") (codes "xsd") refl)
      ∙ other_iri (codes "rdfs") (rdfs []) second (codes "rdf") second_table.ascending (differ (codes "rdf") (codes "rdfs") refl)
      ∙ here_iri (codes "rdf") (rdf []) first first_table.ascending

  rdfs_stands : iri_of (written_prefixes prefixes) (codes "rdfs") ≡ Some (rdfs [])
  rdfs_stands =
      other_iri (codes "xsd") (xsd []) third (codes "rdfs") third_table.ascending (differ (codes "rdfs") (codes "xsd") refl)
      ∙ here_iri (codes "rdfs") (rdfs []) second second_table.ascending

  xsd_stands : iri_of (written_prefixes prefixes) (codes "xsd") ≡ Some (xsd [])
  xsd_stands = here_iri (codes "xsd") (xsd []) third third_table.ascending

  fixed_at : (own iri : List ℕ) (name : List ℕ) → text_eq own name ≡ true → iri_of fixed_prefixes own ≡ Some iri → iri_of (written_prefixes prefixes) own ≡ Some iri → StandsFixed prefixes name
  fixed_at own iri name t there here =
      let same : own ≡ name = (bytes_eq-Decides own name).0 t in
      inr (iri, ap (iri_of fixed_prefixes) (sym same) ∙ there, ap (iri_of (written_prefixes prefixes)) (sym same) ∙ here)

  pub fixed_stands : (name : List ℕ) → StandsFixed prefixes name
  fixed_stands name = elim (cases_Bool (text_eq (codes "owl") name)) [
    | inl t ↦ fixed_at (codes "owl") (owl []) name t refl owl_stands
    | inr a ↦ elim (cases_Bool (text_eq (codes "rdf") name)) [
      | inl t ↦ fixed_at (codes "rdf") (rdf []) name t refl rdf_stands
      | inr b ↦ elim (cases_Bool (text_eq (codes "rdfs") name)) [
        | inl t ↦ fixed_at (codes "rdfs") (rdfs []) name t refl rdfs_stands
        | inr d ↦ elim (cases_Bool (text_eq (codes "xsd") name)) [
          | inl t ↦ fixed_at (codes "xsd") (xsd []) name t refl xsd_stands
          | inr e ↦ inl (rw (a, b, d, e))
        ]
      ]
    ]
  ]

-- a name that is not written is not there beforehand
pub not_fixed : (prefixes : List Prefix) → IsTable prefixes → (name : List ℕ) → prefix_in (written_prefixes prefixes) name ≡ None → prefix_in fixed_prefixes name ≡ None
not_fixed prefixes h name e = elim (fixed_stands prefixes h name) as (λ _. prefix_in fixed_prefixes name ≡ None) [
  | inl none ↦ none
  | inr at ↦
      let nothing : iri_of (written_prefixes prefixes) name ≡ None = ap (λ (o : Option Prefix). option_map (λ (q : Prefix). q.iri) o) e in
      let something = at.2 in
      absurd (cc)
]

-- the table when it is read

declared_below : (name : List ℕ) (ps : List Prefix) → AllByRecursion (λ p. text_cmp name p.name ≡ Less) ps → AllByRecursion (λ p. text_cmp name p.name ≡ Less) (map as_declared ps)
declared_below name [] h = tt
declared_below name (p ∷ ps) h = (h.0, declared_below name ps h.1)

declared_ascending : (ps : List Prefix) → AreAscending ps → AreAscending (map as_declared ps)
declared_ascending [] h = tt
declared_ascending (p ∷ ps) h = (declared_below p.name ps h.0, declared_ascending ps h.1)

declared_names : (ps : List Prefix) → AllByRecursion (λ p. IsPrefixName p.name) ps → AllByRecursion (λ p. IsPrefixName p.name) (map as_declared ps)
declared_names [] h = tt
declared_names (p ∷ ps) h = (h.0, declared_names ps h.1)

pub declared_is_table : (prefixes : List Prefix) → IsTable prefixes → IsTable (declared_prefixes prefixes)
declared_is_table prefixes h =
    let table = written_table prefixes h in
    record { ascending = declared_ascending (written_prefixes prefixes) table.ascending; names = declared_names (written_prefixes prefixes) table.names }

-- a name stands for the same IRI when it is read

same_by : (b : Bool) (p : Prefix) (x y : Option Prefix) → option_map (λ (q : Prefix). q.iri) x ≡ option_map (λ (q : Prefix). q.iri) y
    → option_map (λ (q : Prefix). q.iri) (cond b (Some (as_declared p)) x) ≡ option_map (λ (q : Prefix). q.iri) (cond b (Some p) y)
same_by true p x y e = refl
same_by false p x y e = e

same_iri : (ps : List Prefix) (name : List ℕ) → iri_of (map as_declared ps) name ≡ iri_of ps name
same_iri [] name = refl
same_iri (p ∷ ps) name = same_by (text_eq p.name name) p (prefix_in (map as_declared ps) name) (prefix_in ps name) (same_iri ps name)

-- of each prefix that is written the name is one, and it stands for the IRI when it is read
pub record AreKnown (written read : List Prefix) : Type 0 where
  pub names : AllByRecursion (λ prefix. IsPrefixName prefix.name) written
  pub each : (prefix : Prefix) → Contains written prefix → iri_of read prefix.name ≡ Some prefix.iri
  pub ascending : AreAscending written

pub are_known : (prefixes : List Prefix) → IsTable prefixes → AreKnown (written_prefixes prefixes) (declared_prefixes prefixes)
are_known prefixes h =
    let table = written_table prefixes h in
    record {
      names = table.names;
      each = λ prefix m. same_iri (written_prefixes prefixes) prefix.name ∙ ap (λ (o : Option Prefix). option_map (λ (q : Prefix). q.iri) o) (looked_up (written_prefixes prefixes) prefix table.ascending m);
      ascending = table.ascending;
    }
