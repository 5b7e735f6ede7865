-- Where the symbols of the grammar may come, by the outline of the maker.
use Rattle.std.specs.Prelude.{◌≡◌, ℕ, true, List, [], ◌∷◌, ◌++◌, map, Option, Some, slice_get}
use Rattle.std.specs.List.{list_all}
use Rattle.grammar.specs.Pages.{numbered}
use Rattle.grammar.specs.declared.symbol.Symbol.{Symbol}
use Rattle.grammar.specs.declared.symbol.Symbol.TheVariants.{Act, Need, Rule as RuleOf}
use Rattle.owl_tree.specs.declared.row.Rest.TheVariants.{Optional}
use Rattle.owl_tree.specs.declared.row.Sort.TheVariants as sort
use Rattle.owl_tree.specs.declared.tag.Tag.{Tag}
use Rattle.owl_tree.specs.Rows.{admits, ends_in, fits_rest}
use Rattle.fss_grammar.specs.Acts.{act_number}
use Rattle.fss_grammar.proofs.Due.{ComesIn, InsideThen, IriThen, IsDue, IsOutside, StringThen, is_name}
use Rattle.fss_grammar.specs.Outlines.{FrameOutline, Naming, Outline, outline_behind, with_tag}
use Rattle.fss_grammar.specs.Outlines.KeptOutline.{nothing}
use Rattle.fss_grammar.specs.Page.{Names, Rule, page, rules}
use Rattle.fss_grammar.specs.Page.Rule.{after, annotations, axiom_item, axioms, behind, document, header, imports, iri_part, many, maybe, one, prefixes, suffix, version}
use Rattle.fss_grammar.specs.declared.acts.Act as acts

-- ---- outlines

abbrev pub inside : FrameOutline → List FrameOutline → Naming → Outline
inside f frames naming = record { kept = nothing; frames = f ∷ frames; naming = naming }

abbrev pub outside : Naming → Outline
outside naming = record { kept = nothing; frames = []; naming = naming }

abbrev pub with_tags : List Tag → FrameOutline → FrameOutline
with_tags ts f = record { tag = f.tag; kids = f.kids ++ ts }

-- behind a data property they are data properties and then a data range
abbrev pub FollowProperty : List Tag → Type 0
FollowProperty ts = (t : Tag) → admits sort.DataPropertyExpression t ≡ true → ends_in sort.DataPropertyExpression sort.DataRange (t ∷ ts) ≡ true

-- each such list of kids may come
abbrev pub KidsThen : (List Tag → Type 0) → Naming → (Outline → Type 0) → FrameOutline → List FrameOutline → Type 0
KidsThen Fit naming Then f frames = (ts : List Tag) → Fit ts → Then (inside (with_tags ts f) frames naming)

-- ---- rules

-- The rule may come at an outline, and this holds of each outline behind it.
abbrev pub RuleAllowed : Rule → Outline → (Outline → Type 0) → Type 0
RuleAllowed document o Then = IsOutside o × ((naming : Naming) → Then (outside naming))
RuleAllowed prefixes o Then = IsOutside o × Then o
RuleAllowed header o Then = IsOutside o × ((naming : Naming) → Then (outside naming))
RuleAllowed version o Then = IsOutside o × (o.naming ≡ Naming.named) × ((naming : Naming) → Then (outside naming))
RuleAllowed imports o Then = IsOutside o × Then o
RuleAllowed annotations o Then = IsOutside o × Then o
RuleAllowed axioms o Then = IsOutside o × Then o
RuleAllowed axiom_item o Then = IsOutside o × Then o
RuleAllowed iri_part o Then = Then o
RuleAllowed suffix o Then = StringThen o.kept o.frames (λ f frames t. Then (inside (with_tag t f) frames o.naming))
RuleAllowed after o Then = InsideThen o.kept o.frames (KidsThen FollowProperty o.naming Then)
RuleAllowed behind o Then = IriThen o.kept o.frames (KidsThen FollowProperty o.naming Then)
RuleAllowed (one s) o Then = InsideThen o.kept o.frames (λ f frames. (t : Tag) → admits s t ≡ true → Then (inside (with_tag t f) frames o.naming))
RuleAllowed (many s) o Then = InsideThen o.kept o.frames (KidsThen (λ ts. list_all (admits s) ts ≡ true) o.naming Then)
RuleAllowed (maybe s) o Then = InsideThen o.kept o.frames (KidsThen (λ ts. fits_rest (Optional s) ts ≡ true) o.naming Then)

-- ---- symbols

-- the class of the token that comes in front of these symbols
abbrev pub MayCome : List Symbol → Option ℕ → Type 0
MayCome (Need c ∷ ss) next = next ≡ Some c
MayCome (RuleOf r ∷ ss) next = slice_get rules r ≡ Some iri_part → ComesIn is_name next
MayCome (Act a ∷ ss) next = MayCome ss next
MayCome [] next = Unit {0}

-- the act of this number is due wherever such a class comes, and this holds of the outline behind it
pub record ActAllowed (a : ℕ) (Comes : Option ℕ → Type 0) (o : Outline) (Then : Outline → Type 0) : Type 0 where
  pub act : acts.Act
  pub number_is : act_number act ≡ a
  pub due : (next : Option ℕ) → Comes next → IsDue act next o
  pub later : Then (outline_behind act o)

-- The symbols may come at an outline, and this holds of each outline behind them.
abbrev pub Allowed : List Symbol → Outline → (Outline → Type 0) → Type 0
Allowed [] o Then = Then o
Allowed (Need c ∷ ss) o Then = Allowed ss o Then
Allowed (Act a ∷ ss) o Then = ActAllowed a (MayCome ss) o (λ p. Allowed ss p Then)
Allowed (RuleOf r ∷ ss) o Then = (rule : Rule) → slice_get rules r ≡ Some rule → RuleAllowed rule o (λ p. Allowed ss p Then)

abbrev pub NamesAllowed : Names → Outline → (Outline → Type 0) → Type 0
NamesAllowed names o Then = Allowed (map (numbered page) names) o Then
