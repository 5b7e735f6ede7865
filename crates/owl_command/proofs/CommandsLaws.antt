-- Words ask for one thing.
use Rattle.std.proofs.Common.{◌≡◌, ◌≢◌, ℕ, arith, Bool, false, true, Option, None, Some, IfSome, List, [], ◌∷◌, ◌++◌, codes, nat_eq, if◌then◌else◌, refl, ap, sym, ◌∙◌, subst}
use Rattle.std.specs.Fmt.{decimal}
use Rattle.std.specs.List.{AllByRecursion}
use Rattle.std.specs.Str.{chars, encode_utf8_all}
use Rattle.std.proofs.lemmas.Fmt.{decimal_injective}
use Rattle.std.proofs.lemmas.List.{append_assoc}
use Rattle.std.proofs.lemmas.Str.{chars-encodes}
use Rattle.owl_command.specs.Commands.{AreDistinct, AreDocuments, Asks, IsAbsolute, IsAllowed, IsName, IsTrialSize, Request, action_words, base_words, compares, flag_word, flag_words, names_of, of_main, profile_word, target_words, tries, words_of}
use Rattle.owl_command.specs.declared.command.Action.{Action}
use Rattle.owl_command.specs.declared.command.Action.TheVariants.{Translate, Check, Show, Declare, Canon, Digest}
use Rattle.owl_command.specs.declared.command.Options.{Options}
use Rattle.owl_command.specs.declared.command.Profile.{Profile}
use Rattle.owl_command.specs.declared.command.Profile.TheVariants.{Dl, El, Ql, Rl}
use Rattle.owl_command.specs.WordParts.{EndsAction, EndsTarget}
use Rattle.owl_command.specs.declared.command.Layout.TheVariants.{Flat, Nested}
use Rattle.owl_command.specs.declared.command.Target.{Target}
use Rattle.owl_command.specs.declared.command.Target.TheVariants.{Fss, Ttl, Omn}

abbrev pub verb : List (List ℕ) → List ℕ
verb [] = []
verb (word ∷ words) = word

-- whether the second letter is that of `show`
abbrev is_show : List ℕ → Bool
is_show [] = false
is_show (c ∷ []) = false
is_show (c ∷ d ∷ cs) = nat_eq d 104

pub show_is_not_same : codes "show" ≡ codes "same" → ⊥
show_is_not_same e = let h : true ≡ false = ap is_show e in absurd (cc)

-- a word that begins with `-` is no name
pub option_is_no_name : (word : List ℕ) (others : List (List ℕ)) → AllByRecursion IsName ((codes "-" ++ word) ∷ others) → ⊥
option_is_no_name word others named = named.0.no_flag word refl

no_option : (word : List ℕ) (names others : List (List ℕ)) → AllByRecursion IsName names → names ≢ (codes "-" ++ word) ∷ others
no_option word names others named e = option_is_no_name word others (subst (AllByRecursion IsName) e named)

-- a word that is there or not stands in one way in front of what doesn't begin with it
pub flag_once : (word : List ℕ) (one other : Bool) (rest more : List (List ℕ)) → ((behind : List (List ℕ)) → rest ≢ word ∷ behind) → ((behind : List (List ℕ)) → more ≢ word ∷ behind) → flag_word word one ++ rest ≡ flag_word word other ++ more → (one ≡ other) × (rest ≡ more)
flag_once word true true rest more h k e = (refl, cc)
flag_once word true false rest more h k e = absurd (k rest (sym e))
flag_once word false true rest more h k e = absurd (h more e)
flag_once word false false rest more h k e = (refl, e)

-- a base IRI stands in front of names
module _ (names : List (List ℕ)) (named : AllByRecursion IsName names) where
  pub no_guess : (base : Option (List ℕ)) (behind : List (List ℕ)) → base_words base ++ names ≢ codes "--guess" ∷ behind
  no_guess None behind e = no_option (codes "-guess") names behind named e
  no_guess (Some iri) behind e = cc

  pub no_partial : (guess : Bool) (base : Option (List ℕ)) (behind : List (List ℕ)) → flag_word (codes "--guess") guess ++ (base_words base ++ names) ≢ codes "--partial" ∷ behind
  no_partial true base behind e = cc
  no_partial false None behind e = no_option (codes "-partial") names behind named e
  no_partial false (Some iri) behind e = cc

-- an IRI is told by its bytes
same_iri : (one other : List ℕ) → IsAbsolute one → IsAbsolute other → encode_utf8_all one ≡ encode_utf8_all other → one ≡ other
same_iri one other a b e = sym (chars-encodes one a.scalars) ∙ (ap chars e ∙ chars-encodes other b.scalars)

pub base_once : (one other : Option (List ℕ)) (names others : List (List ℕ)) → IfSome one IsAbsolute → IfSome other IsAbsolute → AllByRecursion IsName names → AllByRecursion IsName others → base_words one ++ names ≡ base_words other ++ others → (one ≡ other) × (names ≡ others)
base_once None None names others a b h k e = (refl, e)
base_once None (Some iri) names others a b h k e = absurd (no_option (codes "-base") names (encode_utf8_all iri ∷ others) h e)
base_once (Some iri) None names others a b h k e = absurd (no_option (codes "-base") others (encode_utf8_all iri ∷ names) k (sym e))
base_once (Some one) (Some other) names others a b h k e =
    let bytes : encode_utf8_all one ≡ encode_utf8_all other = cc in
    (ap Some (same_iri one other a b bytes), cc)

-- one option in front of the others
pub flags_front : (options : Options) (names : List (List ℕ)) → flag_words options ++ names ≡ flag_word (codes "--partial") options.partial ++ (flag_word (codes "--guess") options.guess ++ (base_words options.base ++ names))
flags_front options names =
    append_assoc (flag_word (codes "--partial") options.partial) (flag_word (codes "--guess") options.guess ++ base_words options.base) names
    ∙ ap (λ ws. flag_word (codes "--partial") options.partial ++ ws) (append_assoc (flag_word (codes "--guess") options.guess) (base_words options.base) names)

pub same_options : (one other : Options) → one.partial ≡ other.partial → one.guess ≡ other.guess → one.base ≡ other.base → one ≡ other
same_options one other p g b = λ i. record { partial = p i; guess = g i; base = b i }

-- so options stand in front of names in one way
pub flags_once : (one other : Options) (names others : List (List ℕ)) → AreDocuments one names → AreDocuments other others → flag_words one ++ names ≡ flag_words other ++ others → (one ≡ other) × (names ≡ others)
flags_once one other names others h k e =
    let partial = flag_once (codes "--partial") one.partial other.partial (flag_word (codes "--guess") one.guess ++ (base_words one.base ++ names)) (flag_word (codes "--guess") other.guess ++ (base_words other.base ++ others)) (no_partial names h.named.named one.guess one.base) (no_partial others k.named.named other.guess other.base) (sym (flags_front one names) ∙ (e ∙ flags_front other others)) in
    let guess = flag_once (codes "--guess") one.guess other.guess (base_words one.base ++ names) (base_words other.base ++ others) (no_guess names h.named.named one.base) (no_guess others k.named.named other.base) partial.1 in
    let base = base_once one.base other.base names others h.based k.based h.named.named k.named.named guess.1 in
    (same_options one other partial.0 guess.0 base.0, base.1)

-- the first letter of a word
abbrev first_letter : List ℕ → ℕ
first_letter [] = 0
first_letter (c ∷ cs) = c

-- whether the first word begins with this letter
abbrev begins : ℕ → List (List ℕ) → Bool
begins letter [] = false
begins letter ([] ∷ words) = false
begins letter ((c ∷ cs) ∷ words) = nat_eq c letter

-- words begin with one target, where what stands behind doesn't belong to it
pub target_once : (one other : Target) (behind rest : List (List ℕ)) → EndsTarget one behind → EndsTarget other rest → target_words one ++ behind ≡ target_words other ++ rest → (one ≡ other) × (behind ≡ rest)
target_once Fss Fss behind rest h k e = (refl, cc)
target_once Omn Omn behind rest h k e = (refl, cc)
target_once (Ttl Flat) (Ttl Flat) behind rest h k e = (refl, cc)
target_once (Ttl Nested) (Ttl Nested) behind rest h k e = (refl, cc)
target_once (Ttl Flat) (Ttl Nested) behind rest h k e = let more : behind ≡ codes "--nest" ∷ rest = cc in absurd (h rest more)
target_once (Ttl Nested) (Ttl Flat) behind rest h k e = let more : rest ≡ codes "--nest" ∷ behind = cc in absurd (k behind more)
target_once Fss Omn behind rest h k e = let b : true ≡ false = ap (begins 102) e in absurd (cc)
target_once Fss (Ttl layout) behind rest h k e = let b : true ≡ false = ap (begins 102) e in absurd (cc)
target_once Omn Fss behind rest h k e = let b : true ≡ false = ap (begins 111) e in absurd (cc)
target_once Omn (Ttl layout) behind rest h k e = let b : true ≡ false = ap (begins 111) e in absurd (cc)
target_once (Ttl layout) Fss behind rest h k e = let b : true ≡ false = ap (begins 116) e in absurd (cc)
target_once (Ttl layout) Omn behind rest h k e = let b : true ≡ false = ap (begins 116) e in absurd (cc)

-- the profile whose word has this first letter
abbrev by_letter : ℕ → Profile
by_letter c = if nat_eq c 100 then Dl else if nat_eq c 101 then El else if nat_eq c 113 then Ql else Rl

by_word : (profile : Profile) → by_letter (first_letter (profile_word profile)) ≡ profile
by_word Dl = refl
by_word El = refl
by_word Ql = refl
by_word Rl = refl

-- so a word names one profile
pub profile_once : (one other : Profile) → profile_word one ≡ profile_word other → one ≡ other
profile_once one other e = sym (by_word one) ∙ (ap (λ (word : List ℕ). by_letter (first_letter word)) e ∙ by_word other)

-- whether the second letter is that of `canon`, or of `digest`
abbrev is_canon : List ℕ → Bool
is_canon (c ∷ d ∷ cs) = nat_eq d 97
is_canon cs = false

abbrev is_digest : List ℕ → Bool
is_digest (c ∷ d ∷ cs) = nat_eq d 105
is_digest cs = false

canon_is_not_check : codes "canon" ≡ codes "check" → ⊥
canon_is_not_check e = let h : true ≡ false = ap is_canon e in absurd (cc)

digest_is_not_declare : codes "digest" ≡ codes "declare" → ⊥
digest_is_not_declare e = let h : true ≡ false = ap is_digest e in absurd (cc)

-- first words are those of one action, with what stands behind them
pub actions_once : (one other : Action) (behind rest : List (List ℕ)) → EndsAction one behind → EndsAction other rest → action_words one ++ behind ≡ action_words other ++ rest → (one ≡ other) × (behind ≡ rest)
actions_once (Translate s) (Translate t) behind rest h k e =
    let words : target_words s ++ behind ≡ target_words t ++ rest = cc in
    let once = target_once s t behind rest h k words in
    (ap Translate once.0, once.1)
actions_once (Check p) (Check q) behind rest h k e =
    let word : profile_word p ≡ profile_word q = cc in
    (ap Check (profile_once p q word), cc)
actions_once Show Show behind rest h k e = (refl, cc)
actions_once (Declare s) (Declare t) behind rest h k e =
    let words : target_words s ++ behind ≡ target_words t ++ rest = cc in
    let once = target_once s t behind rest h k words in
    (ap Declare once.0, once.1)
actions_once Canon Canon behind rest h k e = (refl, cc)
actions_once Digest Digest behind rest h k e = (refl, cc)
actions_once Canon (Check q) behind rest h k e = absurd (canon_is_not_check (ap verb e))
actions_once (Check p) Canon behind rest h k e = absurd (canon_is_not_check (ap verb (sym e)))
actions_once Digest (Declare t) behind rest h k e = absurd (digest_is_not_declare (ap verb e))
actions_once (Declare s) Digest behind rest h k e = absurd (digest_is_not_declare (ap verb (sym e)))
actions_once _ _ behind rest h k e = absurd (cc)

-- whether the third letter is that of `--nest`
abbrev is_nest : List ℕ → Bool
is_nest (c ∷ d ∷ e ∷ cs) = nat_eq e 110
is_nest cs = false

-- the words of options and names belong to no action
module _ (names : List (List ℕ)) (named : AllByRecursion IsName names) where
  no_nest : (partial guess : Bool) (base : Option (List ℕ)) (behind : List (List ℕ)) → flag_word (codes "--partial") partial ++ (flag_word (codes "--guess") guess ++ (base_words base ++ names)) ≢ codes "--nest" ∷ behind
  no_nest true guess base behind e = cc
  no_nest false true base behind e = cc
  no_nest false false None behind e = no_option (codes "-nest") names behind named e
  no_nest false false (Some iri) behind e = let b : false ≡ true = ap (λ ws. is_nest (verb ws)) e in absurd (cc)

  target_ends : (target : Target) (options : Options) → EndsTarget target (flag_words options ++ names)
  target_ends (Ttl Flat) options = λ behind e. no_nest options.partial options.guess options.base behind (sym (flags_front options names) ∙ e)
  target_ends (Ttl Nested) options = tt
  target_ends Fss options = tt
  target_ends Omn options = tt

  pub action_ends : (action : Action) (options : Options) → EndsAction action (flag_words options ++ names)
  action_ends (Translate target) options = target_ends target options
  action_ends (Declare target) options = target_ends target options
  action_ends (Check profile) options = tt
  action_ends Show options = tt
  action_ends Canon options = tt
  action_ends Digest options = tt

-- and no comparison's
pub action_is_not_same : (action : Action) (behind rest : List (List ℕ)) → action_words action ++ behind ≡ codes "same" ∷ rest → ⊥
action_is_not_same (Translate target) behind rest e = cc
action_is_not_same (Check profile) behind rest e = cc
action_is_not_same Show behind rest e = show_is_not_same (ap verb e)
action_is_not_same (Declare target) behind rest e = cc
action_is_not_same Canon behind rest e = cc
action_is_not_same Digest behind rest e = cc

-- whether the third letter is that of `trial`
abbrev is_trial : List ℕ → Bool
is_trial (c ∷ d ∷ e ∷ cs) = nat_eq e 105
is_trial cs = false

pub trial_is_not_same : codes "trial" ≡ codes "same" → ⊥
trial_is_not_same e = let h : true ≡ false = ap is_trial e in absurd (cc)

-- nor are they those of a trial
pub action_is_not_trial : (action : Action) (behind rest : List (List ℕ)) → action_words action ++ behind ≡ codes "trial" ∷ rest → ⊥
action_is_not_trial (Translate target) behind rest e = let h : false ≡ true = ap (λ ws. is_trial (verb ws)) e in absurd (cc)
action_is_not_trial (Check profile) behind rest e = let h : false ≡ true = ap (λ ws. is_trial (verb ws)) e in absurd (cc)
action_is_not_trial Show behind rest e = let h : false ≡ true = ap (λ ws. is_trial (verb ws)) e in absurd (cc)
action_is_not_trial (Declare target) behind rest e = let h : false ≡ true = ap (λ ws. is_trial (verb ws)) e in absurd (cc)
action_is_not_trial Canon behind rest e = let h : false ≡ true = ap (λ ws. is_trial (verb ws)) e in absurd (cc)
action_is_not_trial Digest behind rest e = let h : false ≡ true = ap (λ ws. is_trial (verb ws)) e in absurd (cc)

size_once : (one other : ℕ) → IsTrialSize one → IsTrialSize other → decimal one ≡ decimal other → one ≡ other
size_once one other h k e = decimal_injective one other (omega (arith, h.few)) (omega (arith, k.few)) e

-- documents are named, and each once
pub allowed_names : (request : Request) → IsAllowed request → AllByRecursion IsName (names_of request) × AreDistinct (names_of request)
allowed_names (of_main action options names) h = (h.named.named, h.named.distinct)
allowed_names (compares first second) h = (h.named, h.distinct)
allowed_names (tries size) h = (tt, tt)

pub asks_once : (words : List (List ℕ)) (one other : Request) → Asks words one → Asks words other → one ≡ other
asks_once words one other h k = by_words one other h.allowed k.allowed (sym h.are ∙ k.are)
  where
    by_words : (one other : Request) → IsAllowed one → IsAllowed other → words_of one ≡ words_of other → one ≡ other
    by_words (of_main a p names) (of_main b q others) h k e =
        let action = actions_once a b (flag_words p ++ names) (flag_words q ++ others) (action_ends names h.named.named a p) (action_ends others k.named.named b q) e in
        let once = flags_once p q names others h k action.1 in
        cc
    by_words (of_main a p names) (compares first second) h k e =
        absurd (action_is_not_same a (flag_words p ++ names) (first ∷ second ∷ []) e)
    by_words (of_main a p names) (tries size) h k e =
        absurd (action_is_not_trial a (flag_words p ++ names) (decimal size ∷ []) e)
    by_words (compares first second) (of_main b q others) h k e =
        absurd (action_is_not_same b (flag_words q ++ others) (first ∷ second ∷ []) (sym e))
    by_words (compares first second) (compares third fourth) h k e = cc
    by_words (compares first second) (tries size) h k e = absurd (trial_is_not_same (ap verb (sym e)))
    by_words (tries size) (of_main b q others) h k e =
        absurd (action_is_not_trial b (flag_words q ++ others) (decimal size ∷ []) (sym e))
    by_words (tries size) (compares third fourth) h k e = absurd (trial_is_not_same (ap verb e))
    by_words (tries m) (tries n) h k e =
        let word : decimal m ≡ decimal n = cc in
        ap tries (size_once m n h k word)
