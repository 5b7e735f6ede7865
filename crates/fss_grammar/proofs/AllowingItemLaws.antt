-- Where a rule for parts of a document may come, each of its alternatives may.
use Rattle.std.proofs.Common.{◌≡◌, ℕ, false, List, [], ◌∷◌, filter, Option, refl, sym, subst, true≢false}
use Rattle.grammar.specs.Pages.{IsIn}
use Rattle.grammar.specs.Pages.IsIn.{first, later}
use Rattle.grammar.specs.Pages.Named.{action, part, token as word}
use Rattle.owl_tree.specs.declared.tag.Tag.{Tag}
use Rattle.owl_tree.specs.declared.tag.Tag.TheVariants as tag
use Rattle.owl_tree.specs.Rows.{Row, Leaf, Node, row_of}
use Rattle.owl_tree.specs.Tags.{all_tags, is_axiom}
use Rattle.fss_grammar.proofs.Allowing.{NamesAllowed, RuleAllowed, outside}
use Rattle.fss_grammar.proofs.AllowingLaws.{act_allowed, after_allowed, behind_allowed, closing_allowed, iri_allowed, many_allowed, maybe_allowed, node_allowed, one_allowed, part_allowed, suffix_allowed}
use Rattle.fss_grammar.specs.Classes.Class.{alone, closing, equals, opening}
use Rattle.fss_grammar.specs.Classes.{Class}
use Rattle.fss_grammar.proofs.Due.{IsDue, IsOutside, StandsOutside}
use Rattle.fss_grammar.specs.Outlines.{FrameOutline, KeptOutline, Naming, Outline, outline_behind}
use Rattle.fss_grammar.specs.Outlines.{KeptOutline as kept}
use Rattle.fss_grammar.specs.Page.{Names, Rule, alternatives, closing_symbols, is_leaf, item_symbols}
use Rattle.fss_grammar.specs.Page.Rule.{after, annotations, axiom_item, axioms, behind, document, header, imports, iri_part, many, maybe, one, prefixes, suffix, version}
use Rattle.fss_grammar.proofs.PageRows.{IsPlaced, from_filter, from_map}
use Rattle.fss_grammar.proofs.SoundItemLaws.{annotation_is_no_leaf, axiom_is_no_leaf}
use Rattle.fss_grammar.specs.declared.acts.Act.{Act}
use Rattle.fss_grammar.specs.declared.acts.Act.TheVariants.{AddAnnotation, AddAxiom, DeclareIri, DeclareName, EndItem, ImportIri, OntologyIri, VersionIri}

-- what is to be shown of an outline is shown of one with nothing open
outside_alone : (P : Outline → Type 0) (o : Outline) → IsOutside o → P (outside o.naming) → P o
outside_alone P o h p = by o.kept o.frames h
  where
    by : (k : KeptOutline) (frames : List FrameOutline) → StandsOutside k frames → P (record { kept = k; frames = frames; naming = o.naming })
    by kept.nothing [] i = p
    by _ _ i = elim i [ ]

-- ---- annotations and axioms

-- the act adds an item with this tag
record IsAdded (act : Act) (t : Tag) (naming : Naming) : Type 0 where
  due : (next : Option ℕ) → IsDue act next (record { kept = kept.item t; frames = []; naming = naming })
  added : outline_behind act (record { kept = kept.item t; frames = []; naming = naming }) ≡ outside naming

item_allowed : (t : Tag) (row : Row) (act : Act) → row_of t ≡ row → is_leaf row ≡ false → (names : Names) (naming : Naming) (Then : Outline → Type 0) → IsAdded act t naming → NamesAllowed names (outside naming) Then → NamesAllowed (item_symbols act t row names) (outside naming) Then
item_allowed t (Leaf c) act e is_node names naming Then adds h = absurd (true≢false is_node)
item_allowed t (Node front rest) act e is_node names naming Then adds h =
    let closed = closing_allowed t names (outside naming) Then h in
    let ended = act_allowed EndItem (closing_symbols t names) (outside naming) Then (λ next comes. tt) closed in
    node_allowed t front rest e (action act ∷ action EndItem ∷ closing_symbols t names) [] naming Then
    (act_allowed act (action EndItem ∷ closing_symbols t names) (record { kept = kept.item t; frames = []; naming = naming }) Then (λ next comes. adds.due next)
    (subst (λ o. NamesAllowed (action EndItem ∷ closing_symbols t names) o Then) (sym adds.added) ended))

axiom_item_allowed : (names : Names) → IsIn names (alternatives axiom_item) → (o : Outline) (Then : Outline → Type 0) → RuleAllowed axiom_item o Then → NamesAllowed names o Then
axiom_item_allowed names i o Then h =
    let t = from_map (λ t. item_symbols AddAxiom t (row_of t) []) (filter is_axiom all_tags) i in
    let is = from_filter is_axiom all_tags t.is_in in
    outside_alone (λ o. Then o → NamesAllowed names o Then) o h.0
    (λ then.
    subst (λ l. NamesAllowed l (outside o.naming) Then) (sym t.is)
    (item_allowed t.item (row_of t.item) AddAxiom refl (axiom_is_no_leaf t.item is) [] o.naming Then (record { due = λ next. is; added = refl }) then))
    h.1

axioms_allowed : (names : Names) → IsIn names (alternatives axioms) → (o : Outline) (Then : Outline → Type 0) → RuleAllowed axioms o Then → NamesAllowed names o Then
axioms_allowed names first o Then h = h.1
axioms_allowed names (later first) o Then h =
    part_allowed axiom_item refl (part axioms ∷ []) o Then (h.0, part_allowed axioms refl [] o Then h)
axioms_allowed names (later (later i)) o Then h = elim i [ ]

annotations_allowed : (names : Names) → IsIn names (alternatives annotations) → (o : Outline) (Then : Outline → Type 0) → RuleAllowed annotations o Then → NamesAllowed names o Then
annotations_allowed names first o Then h = h.1
annotations_allowed names (later first) o Then h =
    outside_alone (λ o. Then o → NamesAllowed names o Then) o h.0
    (λ then.
    item_allowed tag.Annotation (row_of tag.Annotation) AddAnnotation refl annotation_is_no_leaf (part annotations ∷ []) o.naming Then (record { due = λ next. refl; added = refl })
    (part_allowed annotations refl [] (outside o.naming) Then (tt, then)))
    h.1
annotations_allowed names (later (later i)) o Then h = elim i [ ]

-- ---- what stands in front of them

imports_allowed : (names : Names) → IsIn names (alternatives imports) → (o : Outline) (Then : Outline → Type 0) → RuleAllowed imports o Then → NamesAllowed names o Then
imports_allowed names first o Then h = h.1
imports_allowed names (later first) o Then h =
    outside_alone (λ o. Then o → NamesAllowed names o Then) o h.0
    (λ then.
    act_allowed ImportIri (part iri_part ∷ action EndItem ∷ word closing ∷ part imports ∷ []) (outside o.naming) Then (λ next comes. (tt, comes refl))
    (part_allowed iri_part refl (action EndItem ∷ word closing ∷ part imports ∷ []) (outside o.naming) Then
    (act_allowed EndItem (word closing ∷ part imports ∷ []) (outside o.naming) Then (λ next comes. tt)
    (part_allowed imports refl [] (outside o.naming) Then (tt, then)))))
    h.1
imports_allowed names (later (later i)) o Then h = elim i [ ]

version_allowed : (names : Names) → IsIn names (alternatives version) → (o : Outline) (Then : Outline → Type 0) → RuleAllowed version o Then → NamesAllowed names o Then
version_allowed names first o Then h = outside_alone Then o h.0 (h.2 o.naming)
version_allowed names (later first) o Then h =
    outside_alone (λ o. (o.naming ≡ Naming.named) → NamesAllowed names o Then) o h.0
    (λ named.
    act_allowed VersionIri (action EndItem ∷ part iri_part ∷ []) (outside o.naming) Then (λ next comes. (tt, named, comes refl))
    (act_allowed EndItem (part iri_part ∷ []) (outside Naming.versioned) Then (λ next comes. tt)
    (part_allowed iri_part refl [] (outside Naming.versioned) Then (h.2 Naming.versioned))))
    h.1
version_allowed names (later (later i)) o Then h = elim i [ ]

header_allowed : (names : Names) → IsIn names (alternatives header) → (o : Outline) (Then : Outline → Type 0) → RuleAllowed header o Then → NamesAllowed names o Then
header_allowed names first o Then h = outside_alone Then o h.0 (h.1 o.naming)
header_allowed names (later first) o Then h =
    outside_alone (λ o. NamesAllowed names o Then) o h.0
    (act_allowed OntologyIri (action EndItem ∷ part iri_part ∷ part version ∷ []) (outside o.naming) Then (λ next comes. (tt, comes refl))
    (act_allowed EndItem (part iri_part ∷ part version ∷ []) (outside Naming.named) Then (λ next comes. tt)
    (part_allowed iri_part refl (part version ∷ []) (outside Naming.named) Then
    (part_allowed version refl [] (outside Naming.named) Then (tt, refl, h.1)))))
header_allowed names (later (later i)) o Then h = elim i [ ]

prefixes_allowed : (names : Names) → IsIn names (alternatives prefixes) → (o : Outline) (Then : Outline → Type 0) → RuleAllowed prefixes o Then → NamesAllowed names o Then
prefixes_allowed names first o Then h = h.1
prefixes_allowed names (later first) o Then h =
    outside_alone (λ o. Then o → NamesAllowed names o Then) o h.0
    (λ then.
    act_allowed DeclareName (word alone ∷ word equals ∷ action DeclareIri ∷ word Class.iri ∷ action EndItem ∷ word closing ∷ part prefixes ∷ []) (outside o.naming) Then (λ next comes. (tt, comes))
    (act_allowed DeclareIri (word Class.iri ∷ action EndItem ∷ word closing ∷ part prefixes ∷ []) (record { kept = kept.prefix; frames = []; naming = o.naming }) Then (λ next comes. (refl, comes))
    (act_allowed EndItem (word closing ∷ part prefixes ∷ []) (outside o.naming) Then (λ next comes. tt)
    (part_allowed prefixes refl [] (outside o.naming) Then (tt, then)))))
    h.1
prefixes_allowed names (later (later i)) o Then h = elim i [ ]

-- ---- a document

body_allowed : (naming : Naming) (Then : Outline → Type 0) → Then (outside naming) → NamesAllowed (part imports ∷ part annotations ∷ part axioms ∷ action EndItem ∷ word closing ∷ []) (outside naming) Then
body_allowed naming Then h =
    part_allowed imports refl (part annotations ∷ part axioms ∷ action EndItem ∷ word closing ∷ []) (outside naming) Then (
      tt,
      part_allowed annotations refl (part axioms ∷ action EndItem ∷ word closing ∷ []) (outside naming) Then (
        tt,
        part_allowed axioms refl (action EndItem ∷ word closing ∷ []) (outside naming) Then
            (tt, act_allowed EndItem (word closing ∷ []) (outside naming) Then (λ next comes. tt) h),
      ),
    )

document_allowed : (names : Names) → IsIn names (alternatives document) → (o : Outline) (Then : Outline → Type 0) → RuleAllowed document o Then → NamesAllowed names o Then
document_allowed names first o Then h =
    outside_alone (λ o. NamesAllowed names o Then) o h.0
    (part_allowed prefixes refl (word Class.ontology ∷ action EndItem ∷ word opening ∷ part header ∷ part imports ∷ part annotations ∷ part axioms ∷ action EndItem ∷ word closing ∷ []) (outside o.naming) Then (
      tt,
      act_allowed EndItem (word opening ∷ part header ∷ part imports ∷ part annotations ∷ part axioms ∷ action EndItem ∷ word closing ∷ []) (outside o.naming) Then (λ next comes. tt)
          (part_allowed header refl (part imports ∷ part annotations ∷ part axioms ∷ action EndItem ∷ word closing ∷ []) (outside o.naming) Then
          (tt, λ naming. body_allowed naming Then (h.1 naming))),
    ))
document_allowed names (later i) o Then h = elim i [ ]

pub alternative_allowed : (r : Rule) → IsPlaced r → (names : Names) → IsIn names (alternatives r) → (o : Outline) (Then : Outline → Type 0) → RuleAllowed r o Then → NamesAllowed names o Then
alternative_allowed document placed names i o Then h = document_allowed names i o Then h
alternative_allowed prefixes placed names i o Then h = prefixes_allowed names i o Then h
alternative_allowed header placed names i o Then h = header_allowed names i o Then h
alternative_allowed version placed names i o Then h = version_allowed names i o Then h
alternative_allowed imports placed names i o Then h = imports_allowed names i o Then h
alternative_allowed annotations placed names i o Then h = annotations_allowed names i o Then h
alternative_allowed axioms placed names i o Then h = axioms_allowed names i o Then h
alternative_allowed axiom_item placed names i o Then h = axiom_item_allowed names i o Then h
alternative_allowed iri_part placed names i o Then h = iri_allowed names i o Then h
alternative_allowed suffix placed names i o Then h = suffix_allowed names i o Then h
alternative_allowed after placed names i o Then h = after_allowed names i o Then h
alternative_allowed behind placed names i o Then h = behind_allowed names i o Then h
alternative_allowed (one s) placed names i o Then h = one_allowed s names i o Then h
alternative_allowed (many s) placed names i o Then h = many_allowed s placed names i o Then h
alternative_allowed (maybe s) placed names i o Then h = maybe_allowed s names i o Then h
