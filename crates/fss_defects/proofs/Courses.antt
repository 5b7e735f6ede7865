-- The course of a document: each act finds what it needs, and is done.
use Rattle.std.proofs.Common.{◌≡◌, ℕ, List, [], ◌∷◌, ◌++◌, map, Option, append_assoc, refl, sym, ap, ◌∙◌, subst}
use Rattle.std.specs.Option.{option_map}
use Rattle.std.proofs.lemmas.List.{map-append}
use Rattle.grammar.specs.Derivations.{Derives, DerivesOf, Event}
use Rattle.grammar.specs.Derivations.Event.{Do, Take}
use Rattle.grammar.specs.Lowering.{lower}
use Rattle.grammar.proofs.LoweringLaws.{lowered}
use Rattle.grammar.specs.declared.symbol.Symbol.TheVariants.{Rule}
use Rattle.owl_atom.specs.declared.prefixes.Prefix.{Prefix}
use Rattle.owl_tokens.specs.declared.token.Token.{Token}
use Rattle.fss_grammar.specs.Acts.{act_number}
use Rattle.fss_grammar.proofs.ActLaws.{same_act}
use Rattle.fss_grammar.specs.Classes.{class_of}
use Rattle.fss_grammar.specs.Doing.{Acts, Does, prefixes_behind}
use Rattle.fss_grammar.specs.DoingLaws.{EndTaken}
use Rattle.fss_grammar.specs.ReadyActs.{next_class, document_comes}
use Rattle.fss_grammar.specs.Making.{Maker, Performs, beginning, next_token}
use Rattle.fss_grammar.specs.Meaning.{Events}
use Rattle.fss_grammar.proofs.OneWayLaws.{acts_one_way}
use Rattle.fss_grammar.specs.Outlines.{Resembles}
use Rattle.fss_grammar.proofs.OutlineLaws.{resembles_act, resembles_beginning, resembles_token}
use Rattle.fss_grammar.specs.Ready.{IsReady}
use Rattle.fss_grammar.proofs.ReadyLaws.{acts_are_ready}
use Rattle.fss_grammar.specs.Table.{functional}
use Rattle.fss_grammar.specs.declared.acts.Act.{Act}

-- an act finds what it needs and is done, and then the rest
pub record ReadyThen (a : ℕ) (next : Option Token) (m : Maker) (Then : Maker → Type 0) : Type 0 where
  pub act : Act
  pub number_is : act_number act ≡ a
  pub ready : IsReady act next m
  pub middle : Maker
  pub acts : Acts act next m middle
  pub later : Then middle

-- these events, in order, make n of m, and each act finds what it needs
abbrev pub Runs : Events → Maker → Maker → Type 0
Runs [] m n = m ≡ n
Runs (Take x ∷ es) m n = Runs es m n
Runs (Do a ∷ es) m n = ReadyThen a (next_token es) m (λ middle. Runs es middle n)

-- ---- each document has one

next_lowered : (es : Events) → option_map class_of (next_token es) ≡ next_class (map (lower class_of) es)
next_lowered [] = refl
next_lowered (Take x ∷ es) = refl
next_lowered (Do a ∷ es) = next_lowered es

one_later : (before es : Events) (e : Event Token) (low : List (Event ℕ)) → low ≡ map (lower class_of) (before ++ e ∷ es) → low ≡ map (lower class_of) ((before ++ e ∷ []) ++ es)
one_later before es e low h = h ∙ ap (map (lower class_of)) (sym (append_assoc before (e ∷ []) es))

module _ (classes : List ℕ) (low : List (Event ℕ)) (d : Derives functional document_comes classes low) where
  runs_behind : (before es : Events) (m n : Maker) → low ≡ map (lower class_of) (before ++ es) → Resembles before m → Does es m n → Runs es m n
  runs_behind before [] m n e looks h = h
  runs_behind before (Take x ∷ es) m n e looks h =
      runs_behind (before ++ Take x ∷ []) es m n (one_later before es (Take x) low e) (resembles_token x before m looks) h
  runs_behind before (Do a ∷ es) m n e looks h =
      let cut = e ∙ map-append (lower class_of) before (Do a ∷ es) in
      let it = acts_are_ready classes low d before a (map (lower class_of) es) cut m looks in
      let same = same_act it.act h.act (it.number_is ∙ sym h.number_is) in
      let now = resembles_act (prefixes_behind m.document.declarations) h.act (next_token es) before m h.middle looks h.performs in
      let looks_now = subst (λ b. Resembles (before ++ Do b ∷ []) h.middle) h.number_is now in
      record {
        act = h.act;
        number_is = h.number_is;
        ready = subst (λ (b : Act). IsReady b (next_token es) m) same (it.ready (next_token es) (next_lowered es));
        middle = h.middle;
        acts = h.performs;
        later = runs_behind (before ++ Do a ∷ []) es h.middle n (one_later before es (Do a) low e) looks_now h.later;
      }

pub document_runs : (tokens : List Token) (es : Events) (n : Maker) → DerivesOf class_of functional (Rule 0 ∷ []) tokens es → Does es beginning n → Runs es beginning n
document_runs tokens es n d h = runs_behind (map class_of tokens) (map (lower class_of) es) (lowered d) [] es beginning n refl resembles_beginning h

-- ---- in parts

next_within : (a : ℕ) (es fs : Events) → EndTaken (Do a ∷ es) → next_token (es ++ fs) ≡ next_token es
next_within a [] fs end = absurd end
next_within a (Take x ∷ es) fs end = refl
next_within a (Do b ∷ es) fs end = next_within b es fs end

behind_act : (a : ℕ) (es : Events) → EndTaken (Do a ∷ es) → EndTaken es
behind_act a [] end = tt
behind_act a (e ∷ es) end = end

-- an act makes what it makes
pub same_made : (a : ℕ) (act other : Act) (next later : Option Token) (m n k : Maker) → act_number act ≡ a → act_number other ≡ a → next ≡ later → Acts act next m n → Acts other later m k → n ≡ k
same_made a act other next later m n k h i e acts others =
    let one : other ≡ act = same_act other act (i ∙ sym h) in
    let p = prefixes_behind m.document.declarations in
    acts_one_way p act next m n k acts (subst (λ (b : Act). Performs p b next m k) one (subst (λ l. Performs p other l m k) (sym e) others))

-- behind a token, what is done in front was done
pub runs_on : (front back : Events) (m k n : Maker) → EndTaken front → Does front m k → Runs (front ++ back) m n → Runs back k n
runs_on [] back m k n end h r = subst (λ l. Runs back l n) h r
runs_on (Take x ∷ front) back m k n end h r = runs_on front back m k n end h r
runs_on (Do a ∷ front) back m k n end h r =
    let same = same_made a r.act h.act (next_token (front ++ back)) (next_token front) m r.middle h.middle r.number_is h.number_is (next_within a front back end) r.acts h.performs in
    runs_on front back h.middle k n (behind_act a front end) h.later (subst (λ l. Runs (front ++ back) l n) same r.later)

-- ---- what each act keeps

abbrev pub StepKeeps : (Maker → Type 0) → Type 0
StepKeeps P =
    (p : List Prefix) (act : Act) (next : Option Token) (m n : Maker) → IsReady act next m → Performs p act next m n → P m → P n

pub kept_along : (P : Maker → Type 0) → StepKeeps P → (es : Events) (m n : Maker) → Runs es m n → P m → P n
kept_along P keeps [] m n r h = subst P r h
kept_along P keeps (Take x ∷ es) m n r h = kept_along P keeps es m n r h
kept_along P keeps (Do a ∷ es) m n r h =
    kept_along P keeps es r.middle n r.later (keeps (prefixes_behind m.document.declarations) r.act (next_token es) m r.middle r.ready r.acts h)
