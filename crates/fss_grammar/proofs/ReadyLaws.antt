-- The acts of a document find what they need.
use Rattle.std.proofs.Common.{◌≡◌, ℕ, List, [], ◌∷◌, ◌++◌, map, Option, Some, slice_get, refl, sym, ap, ◌∙◌, subst, append_assoc, append-nil}
use Rattle.grammar.specs.Derivations.{Derives, Event, own_class}
use Rattle.grammar.specs.Derivations.Event.{Do, Take}
use Rattle.grammar.specs.Grammars.{Among, Row, entry}
use Rattle.grammar.specs.Lowering.{lower}
use Rattle.grammar.specs.Pages.{IsIn, numbered}
use Rattle.grammar.specs.Pages.IsIn.{first, later}
use Rattle.grammar.proofs.PartLaws.{yields}
use Rattle.grammar.proofs.YieldLaws.{Yields}
use Rattle.grammar.proofs.YieldLaws.Yields.{action, empty, part, token}
use Rattle.grammar.specs.declared.symbol.Symbol.{Symbol}
use Rattle.grammar.specs.declared.symbol.Symbol.TheVariants.{Rule as RuleOf}
use Rattle.fss_grammar.proofs.ActLaws.{same_act}
use Rattle.fss_grammar.specs.Acts.{act_number}
use Rattle.fss_grammar.proofs.Allowing.{Allowed, MayCome, RuleAllowed, outside}
use Rattle.fss_grammar.proofs.AllowingItemLaws.{alternative_allowed}
use Rattle.fss_grammar.specs.Classes.{class_of}
use Rattle.fss_grammar.specs.Classes.Class.{alone, iri, name}
use Rattle.fss_grammar.specs.ReadyActs.{next_class, ActsAreReady}
use Rattle.fss_grammar.proofs.Due.{AreDue, ComesIn, IsDue, is_name}
use Rattle.fss_grammar.proofs.DueLaws.{ready_where_due}
use Rattle.fss_grammar.specs.Making.{beginning}
use Rattle.fss_grammar.proofs.OutlineLaws.{leads_lowered}
use Rattle.fss_grammar.specs.Outlines.{LeadsTo, Naming, Outline, outline_behind, outline_of}
use Rattle.fss_grammar.specs.Page.{Names, Rule, alternatives, page, rule_number, rules}
use Rattle.fss_grammar.specs.Page.Rule.{document, iri_part}
use Rattle.fss_grammar.proofs.PageRows.{alternative_of, placed_at}
use Rattle.fss_grammar.specs.Table.{functional}
use Rattle.fss_grammar.specs.declared.acts.Act.{Act}

abbrev YieldsEvents : List Symbol → List ℕ → List (Event ℕ) → Type 0
YieldsEvents = Yields own_class functional

-- ---- which class comes

-- an alternative of an IRI is the token of a name
name_comes : (names : Names) (next : Option ℕ) → IsIn names (alternatives iri_part) → MayCome (map (numbered page) names) next → ComesIn is_name next
name_comes names next first e = record { class = iri; comes = e; good = refl }
name_comes names next (later first) e = record { class = name; comes = e; good = refl }
name_comes names next (later (later first)) e = record { class = alone; comes = e; good = refl }
name_comes names next (later (later (later i))) e = elim i [ ]

row_name : (r : ℕ) (row : Row) → Among row (entry functional r).rows → (next : Option ℕ) → MayCome row.symbols next → slice_get rules r ≡ Some iri_part → ComesIn is_name next
row_name r row a next comes e =
    let it = alternative_of r row a in
    let same : it.rule ≡ iri_part = let stands = it.stands in cc in
    name_comes it.names next (subst (λ rule. IsIn it.names (alternatives rule)) same it.among) (subst (λ ss. MayCome ss next) it.symbols_are comes)

may_come : {ss : List Symbol} {cs : List ℕ} {es : List (Event ℕ)} → YieldsEvents ss cs es → (fs : List (Event ℕ)) → MayCome ss (next_class (es ++ fs))
may_come empty fs = tt
may_come (token h y) fs = ap Some h
may_come (action y) fs = may_come y fs
may_come (part {r = r} row xs ys es gs a y z) fs =
    subst (λ (l : List (Event ℕ)). slice_get rules r ≡ Some iri_part → ComesIn is_name (next_class l)) (sym (append_assoc es gs fs))
    (row_name r row a (next_class (es ++ (gs ++ fs))) (may_come y (gs ++ fs)))

-- ---- along a derivation

row_allowed : (r : ℕ) (row : Row) → Among row (entry functional r).rows → (o : Outline) (Then : Outline → Type 0) → ((rule : Rule) → slice_get rules r ≡ Some rule → RuleAllowed rule o Then) → Allowed row.symbols o Then
row_allowed r row a o Then h =
    let it = alternative_of r row a in
    subst (λ ss. Allowed ss o Then) (sym it.symbols_are)
    (alternative_allowed it.rule (placed_at r it.rule it.stands) it.names it.among o Then (h it.rule it.stands))

-- what is yielded is due, where its symbols may come
are_due : {ss : List Symbol} {cs : List ℕ} {es : List (Event ℕ)} → YieldsEvents ss cs es → (o : Outline) (Then : Outline → Type 0) → Allowed ss o Then → (fs : List (Event ℕ)) → ((p : Outline) → Then p → AreDue fs p) → AreDue (es ++ fs) o
are_due empty o Then h fs go = go o h
are_due (token e y) o Then h fs go = are_due y o Then h fs go
are_due (action {es = es} y) o Then h fs go = record {
  act = h.act;
  number_is = h.number_is;
  due = h.due (next_class (es ++ fs)) (may_come y fs);
  later = are_due y (outline_behind h.act o) Then h.later fs go;
}
are_due (part {r = r} {ss = ss} row xs ys es gs a y z) o Then h fs go =
    subst (λ (l : List (Event ℕ)). AreDue l o) (sym (append_assoc es gs fs))
    (are_due y o (λ p. Allowed ss p Then) (row_allowed r row a o (λ p. Allowed ss p Then) h) (gs ++ fs)
    (λ p allowed. are_due z p Then allowed fs go))

begins_document : (Then : Outline → Type 0) → ((naming : Naming) → Then (outside naming)) → Allowed (RuleOf (rule_number document) ∷ []) (outline_of beginning) Then
begins_document Then h =
    λ rule stands. let same : document ≡ rule = cc in subst (λ r. RuleAllowed r (outline_of beginning) Then) same (tt, h)

document_due : (classes : List ℕ) (events : List (Event ℕ)) → Derives functional (RuleOf (rule_number document) ∷ []) classes events → AreDue events (outline_of beginning)
document_due classes events d =
    subst (λ (l : List (Event ℕ)). AreDue l (outline_of beginning)) (append-nil events)
    (are_due (yields d) (outline_of beginning) (λ o. Unit {0}) (begins_document (λ o. Unit {0}) (λ naming. tt)) [] (λ p h. tt))

-- ---- the act behind those that were performed

due_behind : (before : List (Event ℕ)) (a : ℕ) (rest : List (Event ℕ)) (o p : Outline) → LeadsTo before o p → AreDue (before ++ Do a ∷ rest) o → (act : Act) × (act_number act ≡ a) × IsDue act (next_class rest) p
due_behind [] a rest o p same h = subst (λ q. (act : Act) × (act_number act ≡ a) × IsDue act (next_class rest) q) same (h.act, h.number_is, h.due)
due_behind (Take c ∷ before) a rest o p leads h = due_behind before a rest o p leads h
due_behind (Do b ∷ before) a rest o p leads h =
    let same = same_act h.act leads.act (h.number_is ∙ sym leads.number_is) in
    due_behind before a rest (outline_behind leads.act o) p leads.later (subst (λ act. AreDue (before ++ Do a ∷ rest) (outline_behind act o)) same h.later)

pub acts_are_ready : ActsAreReady
acts_are_ready classes events d before a rest e m looks =
    let due = subst (λ (l : List (Event ℕ)). AreDue l (outline_of beginning)) e (document_due classes events d) in
    let it = due_behind (map (lower class_of) before) a rest (outline_of beginning) (outline_of m) (leads_lowered class_of before (outline_of beginning) (outline_of m) looks) due in
    record {
      act = it.0;
      number_is = it.1;
      ready = λ next class. ready_where_due it.0 next m (subst (λ c. IsDue it.0 c (outline_of m)) (sym class) it.2);
    }
