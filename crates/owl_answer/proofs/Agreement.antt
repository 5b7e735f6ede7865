-- What is concluded depends on the documents that are read under kinds, and is one.
use Rattle.std.proofs.Common.{◌≡◌, ◌<◌, ◌++◌, ℕ, Bool, Some, List, length, slice_get, sym, ap, ◌∙◌, subst, arith}
use Rattle.std.proofs.lemmas.Option.{same_Some, slice_get_within}
use Rattle.owl_close.specs.Imports.{IsFirstMissing, MissesNone, Reaches}
use Rattle.owl_close.specs.Imports as imports
use Rattle.owl_close.proofs.ImportsLaws.{missing_once}
use Rattle.owl_command.specs.declared.command.Options.{Options}
use Rattle.owl_command.specs.Commands.{Request, compares, names_of, of_main, tries}
use Rattle.owl_command.specs.declared.command.Action.{Action}
use Rattle.owl_command.specs.declared.command.Action.TheVariants.{Translate, Check, Show, Declare, Canon, Digest}
use Rattle.owl_command.specs.declared.command.Profile.{Profile}
use Rattle.owl_command.specs.declared.command.Target.{Target as Syntax}
use Rattle.owl_command.specs.declared.command.Target.TheVariants.{Fss, Ttl, Omn}
use Rattle.owl_documents.specs.Documents.{IsSame, Parsed, Said, a_graph, an_ontology, in_bytes, in_functional, the_frames}
use Rattle.owl_documents.specs.OneWay.{IsSameParsed, NeverBoth, ReadOneWay, RefusedOneWay}
use Rattle.owl_declare.proofs.NeedLaws.{needed_once}
use Rattle.owl_declare.specs.Needed.{with_needs}
use Rattle.owl_kind.proofs.OrderLaws.{clash_once, one_order}
use Rattle.owl_kind.specs.Kinds.{Entity, HasClash, IsFirstClash}
use Rattle.owl_tree.specs.Ontologies.{ontology_weight}
use Rattle.owl_messages.specs.Refusals.{two_kinds}
use Rattle.owl_answer.specs.WithNeeds.{AreKnown, declared_said}
use Rattle.owl_answer.specs.TurtleOutcome.{canonical_said}
use Rattle.owl_tree.proofs.OntologyLaws.{same_ontology_sym, same_ontology_trans}
use Rattle.owl_messages.specs.declared.unsaid.UnsaidFault.{UnsaidFault}
use Rattle.owl_answer.specs.Checks.{IsChecked}
use Rattle.owl_answer.specs.Guessing.{AreGuessed}
use Rattle.owl_answer.specs.KindsAt.{AreClosureKinds}
use Rattle.owl_answer.specs.Outcome.{IsComparison, agree, differ, heads_in}
use Rattle.owl_answer.specs.Runs.{AnswersBy, AnswersWith, Concludes, IsActionOutcome, IsDeclaration, IsToldWith, IsTranslation, clashes, declared_whole, heavy, all_say, misses_import, misses_none, says_nothing}
use Rattle.owl_answer.specs.UnderKinds.{AllSay, HasKinds, HoldsOfMain, HoldsOfTwo, IsFirstUnsaid, IsReadUnder, IsUnsaidAt, IsUnsaidUnder, SaysAt, SaysUnder}
use Rattle.owl_answer.proofs.BytesOnce.{canonical_same, digested_same}
use Rattle.owl_answer.proofs.Checks.{checked_once, checked_there, form_at, reached_stands}
use Rattle.owl_answer.proofs.Closures.{closure_once, own_once}
use Rattle.owl_answer.proofs.GuessedDocuments.{guessed_once}
use Rattle.owl_answer.proofs.ManchesterOnce.{manchester_alike, manchester_once}
use Rattle.owl_answer.proofs.Same.{never_says_both, parsed_back, parsed_refl, says_once, says_same, unsaid_once, unsaid_same}
use Rattle.owl_answer.proofs.TrialOnce.{trial_once}
use Rattle.owl_answer.proofs.TurtleOnce.{functional_once, functional_same, same_said, shown_same, translation_alike, translation_once, translation_same}
use Rattle.owl_answer.proofs.Wanting.{limited_more, limited_once}
use Rattle.owl_messages.specs.Outcome.{Outcome, canonical, declared, missing_import, shown, told_with, translated, translation}
use Rattle.owl_messages.specs.Unsaid.{unsaid_outcome}

-- a document that is read as the same stands at this place, and is read under these kinds
pub record IsReadAlike (request : Request) (others : List Parsed) (place : ℕ) (parsed : Parsed) (kinds : List Entity) : Type 0 where
  pub other : Parsed
  pub read : IsReadUnder request others place other kinds
  pub same : IsSameParsed parsed other

-- what is read of these is read of them
pub record Agree (request : Request) (ds es : List Parsed) : Type 0 where
  pub read : (place : ℕ) (parsed : Parsed) (kinds : List Entity) → IsReadUnder request ds place parsed kinds → IsReadAlike request es place parsed kinds

-- what is told of the same is the same

told_same : (target : Syntax) (p q : Parsed) (kinds : List Entity) (a b : Said) (outcome : Outcome) → IsSameParsed p q → IsSame a b → IsTranslation target p kinds a outcome → IsTranslation target q kinds b outcome
told_same Fss (an_ontology in_functional x) (an_ontology in_functional y) kinds a b outcome s t h = limited_more _ _ (λ o k. k ∙ translation_same a b t) outcome h
told_same Fss (an_ontology in_bytes x) (an_ontology in_bytes y) kinds a b outcome s t h = functional_same kinds a b outcome t h
told_same Fss (an_ontology in_functional x) (an_ontology in_bytes y) kinds a b outcome s t h = let e = s.0 in absurd (cc)
told_same Fss (an_ontology in_bytes x) (an_ontology in_functional y) kinds a b outcome s t h = let e = s.0 in absurd (cc)
told_same Fss (an_ontology v x) (a_graph y) kinds a b outcome s t h = absurd s
told_same Fss (a_graph x) (an_ontology w y) kinds a b outcome s t h = absurd s
told_same Fss (an_ontology v x) (the_frames y) kinds a b outcome s t h = absurd s
told_same Fss (a_graph x) (the_frames y) kinds a b outcome s t h = absurd s
told_same Fss (the_frames x) (an_ontology w y) kinds a b outcome s t h = absurd s
told_same Fss (the_frames x) (a_graph y) kinds a b outcome s t h = absurd s
told_same Fss (a_graph x) (a_graph y) kinds a b outcome s t h = functional_same kinds a b outcome t h
told_same Fss (the_frames x) (the_frames y) kinds a b outcome s t h = functional_same kinds a b outcome t h
told_same (Ttl layout) p q kinds a b outcome s t h = translation_alike layout kinds kinds a b outcome (λ kind iri. (λ k. k, λ k. k)) t h
told_same Omn p q kinds a b outcome s t h = manchester_alike kinds kinds a b outcome (λ kind iri. (λ k. k, λ k. k)) t h

comparison_same : (a b c d : Said) → IsSame a c → IsSame b d → (outcome : Outcome) → IsComparison a b outcome → IsComparison c d outcome
comparison_same a b c d s t outcome (agree h e) =
    agree (same_ontology_trans c.ontology a.ontology d.ontology (same_ontology_sym a.ontology c.ontology s.ontology) (same_ontology_trans a.ontology b.ontology d.ontology h t.ontology)) e
comparison_same a b c d s t outcome (differ h e) =
    differ (λ k. h (same_ontology_trans a.ontology c.ontology b.ontology s.ontology (same_ontology_trans c.ontology d.ontology b.ontology k (same_ontology_sym b.ontology d.ontology t.ontology)))) e

comparison_once : (a b : Said) (one other : Outcome) → IsComparison a b one → IsComparison a b other → one ≡ other
comparison_once a b one other (agree h e) (agree k f) = e ∙ sym f
comparison_once a b one other (agree h e) (differ k f) = absurd (k h)
comparison_once a b one other (differ h e) (agree k f) = absurd (h k)
comparison_once a b one other (differ h e) (differ k f) = e ∙ sym f

translation_told_once : (target : Syntax) (p : Parsed) (kinds : List Entity) (main : Said) (a b : Outcome) → IsTranslation target p kinds main a → IsTranslation target p kinds main b → a ≡ b
translation_told_once Fss (an_ontology in_functional x) kinds main a b h k =
    limited_once (λ o. o ≡ translation main) (λ o. o ≡ translation main) (λ x y p q. p ∙ sym q) a b h k
translation_told_once Fss (an_ontology in_bytes x) kinds main a b h k = functional_once kinds main a b h k
translation_told_once Fss (a_graph x) kinds main a b h k = functional_once kinds main a b h k
translation_told_once Fss (the_frames x) kinds main a b h k = functional_once kinds main a b h k
translation_told_once (Ttl layout) p kinds main a b h k = translation_once layout kinds main a b h k
translation_told_once Omn p kinds main a b h k = manchester_once kinds main a b h k

-- what is told with the same in front is one
module _ (front : List ℕ → List ℕ) where
  told_with_more : (V W : Outcome → Type 0) → ((o : Outcome) → V o → W o) → (outcome : Outcome) → IsToldWith front V outcome → IsToldWith front W outcome
  told_with_more V W f outcome h = record { wanted = h.wanted; is = f h.wanted h.is; told = h.told }

  told_with_once : (V : Outcome → Type 0) → ((a b : Outcome) → V a → V b → a ≡ b) → (a b : Outcome) → IsToldWith front V a → IsToldWith front V b → a ≡ b
  told_with_once V once a b h k = h.told ∙ ap (told_with front) (once h.wanted k.wanted h.is k.is) ∙ sym k.told

-- a document has what it needs declared in one way
module _ (target : Syntax) (kinds : List Entity) (main : Said) where
  abbrev With : List Entity → List Entity → Outcome → Type 0
  With needs known = IsToldWith (declared (length needs)) (IsTranslation target (an_ontology in_functional (declared_said needs main)) known (declared_said needs main))

  known_once : (needs known others : List Entity) → AreKnown kinds main needs known → AreKnown kinds main needs others → known ≡ others
  known_once needs known others h k =
      one_order known others h.ordered k.ordered (λ kind iri. (λ m. (k.adds kind iri).1 ((h.adds kind iri).0 m), λ m. (h.adds kind iri).1 ((k.adds kind iri).0 m)))

  declaration_once : (a b : Outcome) → IsDeclaration target kinds main a → IsDeclaration target kinds main b → a ≡ b
  declaration_once a b (clashes needs h iri c e) (clashes others k other d f) =
      let same = needed_once kinds needs others main.ontology h k in
      e ∙ ap two_kinds (clash_once (kinds ++ others) iri other (subst (λ (es : List Entity). IsFirstClash (kinds ++ es) iri) same c) d) ∙ sym f
  declaration_once a b (clashes needs h iri c e) (heavy others k apart l f) =
      absurd (apart iri (subst (λ (es : List Entity). HasClash (kinds ++ es) iri) (needed_once kinds needs others main.ontology h k) c.clash))
  declaration_once a b (clashes needs h iri c e) (declared_whole others known k apart l w) =
      absurd (apart iri (subst (λ (es : List Entity). HasClash (kinds ++ es) iri) (needed_once kinds needs others main.ontology h k.needed) c.clash))
  declaration_once a b (heavy needs h apart l e) (clashes others k iri c f) =
      absurd (apart iri (subst (λ (es : List Entity). HasClash (kinds ++ es) iri) (needed_once kinds others needs main.ontology k h) c.clash))
  declaration_once a b (heavy needs h apart l e) (heavy others k beside m f) = e ∙ sym f
  declaration_once a b (heavy needs h apart l e) (declared_whole others known k beside m w) =
      let same = ap (λ (es : List Entity). ontology_weight (with_needs es main.ontology)) (needed_once kinds needs others main.ontology h k.needed) in
      absurd (omega arith)
  declaration_once a b (declared_whole needs known h apart l v) (clashes others k iri c f) =
      absurd (apart iri (subst (λ (es : List Entity). HasClash (kinds ++ es) iri) (needed_once kinds others needs main.ontology k h.needed) c.clash))
  declaration_once a b (declared_whole needs known h apart l v) (heavy others k beside m f) =
      let same = ap (λ (es : List Entity). ontology_weight (with_needs es main.ontology)) (needed_once kinds needs others main.ontology h.needed k) in
      absurd (omega arith)
  declaration_once a b (declared_whole needs known h apart l v) (declared_whole others theirs k beside m w) =
      let same = needed_once kinds needs others main.ontology h.needed k.needed in
      let alike = known_once others known theirs (subst (λ (es : List Entity). AreKnown kinds main es known) same h) k in
      let moved : With others theirs a = subst (λ (ks : List Entity). With others ks a) alike (subst (λ (es : List Entity). With es known a) same v) in
      told_with_once (declared (length others)) (IsTranslation target (an_ontology in_functional (declared_said others main)) theirs (declared_said others main))
      (translation_told_once target (an_ontology in_functional (declared_said others main)) theirs (declared_said others main)) a b moved w

-- what becomes of the same by an action is the same, and one

module _ (ds es : List Parsed) (outcome : Outcome) (checked : (profile : Profile) → IsChecked profile ds outcome → IsChecked profile es outcome) where
  acted_same : (action : Action) (p q : Parsed) (kinds : List Entity) (a b : Said) → IsSameParsed p q → IsSame a b → IsActionOutcome action ds p kinds a outcome → IsActionOutcome action es q kinds b outcome
  acted_same (Translate target) p q kinds a b s t h = told_with_more translated _ _ (λ o k. told_same target p q kinds a b o s t k) outcome h
  acted_same (Check profile) p q kinds a b s t h = checked profile h
  acted_same Show p q kinds a b s t h = limited_more _ _ (λ o k. k ∙ shown_same a b t) outcome h
  acted_same (Declare target) p q kinds a b s t h = subst (λ (x : Said). IsDeclaration target kinds x outcome) (same_said a b t) h
  acted_same Canon p q kinds a b s t h = limited_more _ _ (λ o k. k ∙ canonical_same a b t) outcome h
  acted_same Digest p q kinds a b s t h = h ∙ digested_same a b t

acted_once : (documents : List Parsed) (action : Action) (p : Parsed) (kinds : List Entity) (main : Said) (a b : Outcome) → IsActionOutcome action documents p kinds main a → IsActionOutcome action documents p kinds main b → a ≡ b
acted_once documents (Translate target) p kinds main a b h k =
    told_with_once translated (IsTranslation target p kinds main) (translation_told_once target p kinds main) a b h k
acted_once documents (Check profile) p kinds main a b h k = checked_once profile documents a b h k
acted_once documents Show p kinds main a b h k =
    limited_once (λ o. o ≡ shown main) (λ o. o ≡ shown main) (λ x y e f. e ∙ sym f) a b h k
acted_once documents (Declare target) p kinds main a b h k = declaration_once target kinds (canonical_said main) a b h k
acted_once documents Canon p kinds main a b h k =
    limited_once (λ o. o ≡ canonical main) (λ o. o ≡ canonical main) (λ x y e f. e ∙ sym f) a b h k
acted_once documents Digest p kinds main a b h k = h ∙ sym k

-- what is concluded of some documents is concluded of others that agree

module _ (request : Request) (ds es : List Parsed) (there : Agree request ds es) where
  unsaid_there : (place : ℕ) (fault : UnsaidFault) → IsUnsaidAt request ds place fault → IsUnsaidAt request es place fault
  unsaid_there place fault u =
      let alike = there.read place u.parsed u.kinds u.read in
      record { parsed = alike.other; kinds = u.kinds; read = alike.read; unsaid = unsaid_same u.kinds u.parsed alike.other alike.same fault u.unsaid }

  main_there : (V W : Parsed → List Entity → Said → Type 0) → ((p q : Parsed) (kinds : List Entity) (a b : Said) → IsSameParsed p q → IsSame a b → V p kinds a → W q kinds b) → HoldsOfMain request ds V → HoldsOfMain request es W
  main_there V W f h =
      let alike = there.read 0 h.main.parsed h.main.kinds h.main.read in
      let own = says_same h.main.kinds h.main.parsed alike.other alike.same h.said h.main.says in
      record {
        said = own.other;
        main = record { parsed = alike.other; kinds = h.main.kinds; read = alike.read; says = own.says };
        holds = f h.main.parsed alike.other h.main.kinds h.said own.other alike.same own.same h.holds;
      }

  two_there : (V : Said → Said → Type 0) → ((a b c d : Said) → IsSame a c → IsSame b d → V a b → V c d) → HoldsOfTwo request ds V → HoldsOfTwo request es V
  two_there V f h =
      let alike = there.read 0 h.says_first.parsed h.says_first.kinds h.says_first.read in
      let own = says_same h.says_first.kinds h.says_first.parsed alike.other alike.same h.first h.says_first.says in
      let beside = there.read 1 h.says_second.parsed h.says_second.kinds h.says_second.read in
      let theirs = says_same h.says_second.kinds h.says_second.parsed beside.other beside.same h.second h.says_second.says in
      record {
        first = own.other;
        second = theirs.other;
        says_first = record { parsed = alike.other; kinds = h.says_first.kinds; read = alike.read; says = own.says };
        says_second = record { parsed = beside.other; kinds = h.says_second.kinds; read = beside.read; says = theirs.says };
        holds = f h.first h.second own.other theirs.other own.same theirs.same h.holds;
      }

-- what a check tells of documents it tells of others that agree
module _ (action : Action) (options : Options) (names : List (List ℕ)) (ds es : List Parsed) (there : Agree (of_main action options names) ds es) where
  reads_there : (kinds : List Entity) → AreClosureKinds ds kinds → (place : ℕ) (p : Parsed) → Reaches (heads_in ds) place → slice_get ds place ≡ Some p → IsReadAlike (of_main action options names) es place p kinds
  reads_there kinds declared place p r e = there.read place p kinds (record { there = e; under = (r, declared) })

  reaches_there : (kinds : List Entity) → AreClosureKinds ds kinds → 0 < length ds → (place : ℕ) → Reaches (heads_in ds) place → Reaches (heads_in es) place
  reaches_there kinds declared some place r =
      let stands = reached_stands ds some place r in
      (reads_there kinds declared place stands.0 r stands.1).read.under.0

module _ (action : Action) (options : Options) (names : List (List ℕ)) (ds es : List Parsed) (there : Agree (of_main action options names) ds es) (back : Agree (of_main action options names) es ds) where
  checks_there : (outcome : Outcome) (profile : Profile) → IsChecked profile ds outcome → IsChecked profile es outcome
  checks_there outcome profile h =
      let kinds = h.closure.kinds in
      let form = form_at ds kinds h.places h.closure.all h.is.say 0 ((h.is.reached.reached 0).1 imports.main) in
      let first = reads_there action options names ds es there kinds h.is.declared 0 form.1.parsed imports.main form.1.there in
      let declared : AreClosureKinds es kinds = first.read.under.1 in
      checked_there profile ds es outcome h (record {
        declared = declared;
        there = reaches_there action options names ds es there kinds h.is.declared (slice_get_within ds 0 form.1.parsed form.1.there);
        back = reaches_there action options names es ds back kinds declared (slice_get_within es 0 first.other first.read.there);
        found = λ place p r e.
            let alike = reads_there action options names ds es there kinds h.is.declared place p r e in
            record { other = alike.other; there = alike.read.there; same = alike.same };
      })

answers_there : (request : Request) (ds es : List Parsed) → Agree request ds es → Agree request es ds → (outcome : Outcome) → AnswersWith request ds outcome → AnswersWith request es outcome
answers_there (of_main action options names) ds es there back outcome h =
    main_there (of_main action options names) ds es there _ _ (acted_same ds es outcome (checks_there action options names ds es there back outcome) action) h
answers_there (compares first second) ds es there back outcome h =
    two_there (compares first second) ds es there _ (λ a b c d s t w. limited_more _ _ (λ o k. comparison_same a b c d s t o k) outcome w) h
answers_there (tries size) ds es there back outcome h = h

module _ (request : Request) (ds es : List Parsed) (there : Agree request ds es) (back : Agree request es ds) where
  first_there : (place : ℕ) (fault : UnsaidFault) → IsFirstUnsaid request ds place fault → IsFirstUnsaid request es place fault
  first_there place fault h = record {
    unsaid = unsaid_there request ds es there place fault h.unsaid;
    first = λ other theirs u. h.first other theirs (unsaid_there request es ds back other theirs u);
  }

  all_there : AllSay request ds → AllSay request es
  all_there all place parsed kinds read =
      let alike = back.read place parsed kinds read in
      let said = all place alike.other kinds alike.read in
      let own = says_same kinds alike.other parsed (parsed_back parsed alike.other alike.same) said.0 said.1 in
      (own.other, own.says)

  answered_there : (outcome : Outcome) → AnswersBy request ds outcome → AnswersBy request es outcome
  answered_there outcome (says_nothing place fault name u at e) = says_nothing place fault name (first_there place fault u) at e
  answered_there outcome (all_say all w) = all_say (all_there all) (answers_there request ds es there back outcome w)

-- so it is with guesses, where others miss the imports that these miss

-- documents that agree with these are guessed of the others
pub record AgreeGuessed (request : Request) (guessed es : List Parsed) : Type 0 where
  pub others : List Parsed
  pub are : AreGuessed request es others
  pub there : Agree request guessed others
  pub back : Agree request others guessed

pub record AgreeAsRead (request : Request) (ds es : List Parsed) : Type 0 where
  pub missing : (place : ℕ) (iri : List ℕ) → IsFirstMissing (heads_in ds) place iri → IsFirstMissing (heads_in es) place iri
  pub none : MissesNone (heads_in ds) → MissesNone (heads_in es)
  pub guessed : (guessed : List Parsed) → AreGuessed request ds guessed → AgreeGuessed request guessed es

module _ (request : Request) (ds es : List Parsed) (agree : AgreeAsRead request ds es) where
  pub concludes_there : (outcome : Outcome) → Concludes request ds outcome → Concludes request es outcome
  concludes_there outcome (misses_import asked place iri name m at e) =
      misses_import asked place iri name (agree.missing place iri m) at e
  concludes_there outcome (misses_none imports guessed are answer) =
      let more = agree.guessed guessed are in
      misses_none (λ asked. agree.none (imports asked)) more.others more.are (answered_there request guessed more.others more.there more.back outcome answer)

-- what is concluded of documents is one

kinds_once : (request : Request) (documents : List Parsed) (place : ℕ) (parsed : Parsed) (k l : List Entity) → HasKinds request documents place parsed k → HasKinds request documents place parsed l → k ≡ l
kinds_once (of_main action options names) documents place parsed k l h i = closure_once documents k l h.1 i.1
kinds_once (compares first second) documents place parsed k l h i = own_once parsed k l h i
kinds_once (tries size) documents place parsed k l h i = absurd h

-- a document is read in one way
pub record IsOneReading (p q : Parsed) (k l : List Entity) : Type 0 where
  pub parsed : p ≡ q
  pub kinds : k ≡ l

module _ (request : Request) (documents : List Parsed) where
  pub read_once : (place : ℕ) (p q : Parsed) (k l : List Entity) → IsReadUnder request documents place p k → IsReadUnder request documents place q l → IsOneReading p q k l
  read_once place p q k l h i =
      let same : p ≡ q = same_Some p q (sym h.there ∙ i.there) in
      record {
        parsed = same;
        kinds = kinds_once request documents place q k l (subst (λ (x : Parsed). HasKinds request documents place x k) same h.under) i.under;
      }

  -- what is said at a place is one
  said_at_once : (place : ℕ) (a b : Said) (h : SaysAt request documents place a) (k : SaysAt request documents place b) → IsSame a b
  said_at_once place a b h k =
      let one = read_once place h.parsed k.parsed h.kinds k.kinds h.read k.read in
      says_once k.kinds k.parsed a b (subst (λ (p : Parsed). SaysUnder k.kinds p a) one.parsed (subst (λ (l : List Entity). SaysUnder l h.parsed a) one.kinds h.says)) k.says

  pub says_or_not : (place : ℕ) (a : Said) (fault : UnsaidFault) → SaysAt request documents place a → IsUnsaidAt request documents place fault → ⊥
  says_or_not place a fault h u =
      let one = read_once place h.parsed u.parsed h.kinds u.kinds h.read u.read in
      never_says_both u.kinds u.parsed a fault (subst (λ (p : Parsed). SaysUnder u.kinds p a) one.parsed (subst (λ (l : List Entity). SaysUnder l h.parsed a) one.kinds h.says)) u.unsaid

  fault_at_once : (place other : ℕ) (e f : UnsaidFault) → place ≡ other → IsUnsaidAt request documents place e → IsUnsaidAt request documents other f → e ≡ f
  fault_at_once place other e f same here there =
      let h = subst (λ (p : ℕ). IsUnsaidAt request documents p e) same here in
      let one = read_once other h.parsed there.parsed h.kinds there.kinds h.read there.read in
      unsaid_once there.kinds there.parsed e f (subst (λ (p : Parsed). IsUnsaidUnder there.kinds p e) one.parsed (subst (λ (l : List Entity). IsUnsaidUnder l h.parsed e) one.kinds h.unsaid)) there.unsaid

  first_once : (place other : ℕ) (e f : UnsaidFault) → IsFirstUnsaid request documents place e → IsFirstUnsaid request documents other f → place ≡ other
  first_once place other e f h k =
      let lower = h.first other f k.unsaid in
      let upper = k.first place e h.unsaid in
      omega arith

  all_or_not : AllSay request documents → (place : ℕ) (fault : UnsaidFault) → IsUnsaidAt request documents place fault → ⊥
  all_or_not all place fault u =
      let said = all place u.parsed u.kinds u.read in
      never_says_both u.kinds u.parsed said.0 fault said.1 u.unsaid

  main_once : (V W : Parsed → List Entity → Said → Type 0) (a b : Outcome) → ((p : Parsed) (kinds : List Entity) (s t : Said) → IsSame s t → V p kinds s → W p kinds t → a ≡ b) → HoldsOfMain request documents V → HoldsOfMain request documents W → a ≡ b
  main_once V W a b once h k =
      let one = read_once 0 h.main.parsed k.main.parsed h.main.kinds k.main.kinds h.main.read k.main.read in
      once k.main.parsed k.main.kinds h.said k.said (said_at_once 0 h.said k.said h.main k.main)
      (subst (λ (p : Parsed). V p k.main.kinds h.said) one.parsed (subst (λ (l : List Entity). V h.main.parsed l h.said) one.kinds h.holds)) k.holds

  two_once : (V W : Said → Said → Type 0) (a b : Outcome) → ((s t u v : Said) → IsSame s u → IsSame t v → V s t → W u v → a ≡ b) → HoldsOfTwo request documents V → HoldsOfTwo request documents W → a ≡ b
  two_once V W a b once h k =
      once h.first h.second k.first k.second (said_at_once 0 h.first k.first h.says_first k.says_first) (said_at_once 1 h.second k.second h.says_second k.says_second) h.holds k.holds

answers_once : ReadOneWay → RefusedOneWay → NeverBoth → (request : Request) (documents : List Parsed) (a b : Outcome) → AnswersWith request documents a → AnswersWith request documents b → a ≡ b
answers_once read_way refused_way never (of_main action options names) documents a b v w =
    main_once (of_main action options names) documents _ _ a b (λ p kinds s t same h k. acted_once documents action p kinds t a b (acted_same documents documents a (λ profile c. c) action p p kinds s t (parsed_refl p) same h) k) v w
answers_once read_way refused_way never (compares first second) documents a b v w =
    two_once (compares first second) documents _ _ a b (λ s t u x e f h k. limited_once (IsComparison s t) (IsComparison u x) (λ y z i j. comparison_once u x y z (comparison_same s t u x e f y i) j) a b h k) v w
answers_once read_way refused_way never (tries size) documents a b v w = trial_once read_way refused_way never size a b v w

named : (names : List (List ℕ)) (p q : ℕ) (x y : List ℕ) → p ≡ q → slice_get names p ≡ Some x → slice_get names q ≡ Some y → x ≡ y
named names p q x y e f g = cc

module _ (read_way : ReadOneWay) (refused_way : RefusedOneWay) (never : NeverBoth) (request : Request) (documents : List Parsed) where
  answer_once : (a b : Outcome) → AnswersBy request documents a → AnswersBy request documents b → a ≡ b
  answer_once a b (says_nothing place fault name u at e) (says_nothing other another name2 v at2 f) =
      let one = first_once request documents place other fault another u v in
      let same : name ≡ name2 = named (names_of request) place other name name2 one at at2 in
      e ∙ ap (λ (x : List ℕ). unsaid_outcome x fault) same ∙ ap (unsaid_outcome name2) (fault_at_once request documents place other fault another one u.unsaid v.unsaid) ∙ sym f
  answer_once a b (says_nothing place fault name u at e) (all_say all w) = absurd (all_or_not request documents all place fault u.unsaid)
  answer_once a b (all_say all v) (says_nothing place fault name u at e) = absurd (all_or_not request documents all place fault u.unsaid)
  answer_once a b (all_say all v) (all_say every w) = answers_once read_way refused_way never request documents a b v w

module _ (read_way : ReadOneWay) (refused_way : RefusedOneWay) (never : NeverBoth) (request : Request) (documents : List Parsed) where
  pub concludes_once : (a b : Outcome) → Concludes request documents a → Concludes request documents b → a ≡ b
  concludes_once a b (misses_import asked place iri name m at e) (misses_import again other theirs name2 n at2 f) =
      let one = missing_once (heads_in documents) place other iri theirs m n in
      let same : name ≡ name2 = named (names_of request) place other name name2 one.0 at at2 in
      e ∙ ap (λ (x : List ℕ). missing_import x iri) same ∙ ap (missing_import name2) one.1 ∙ sym f
  concludes_once a b (misses_import asked place iri name m at e) (misses_none imports guessed are answer) = absurd (imports asked place iri m.missing)
  concludes_once a b (misses_none imports guessed are answer) (misses_import asked place iri name m at e) = absurd (imports asked place iri m.missing)
  concludes_once a b (misses_none imports guessed are answer) (misses_none h others theirs other) =
      let same = guessed_once request documents guessed others are theirs in
      answer_once read_way refused_way never request others a b (subst (λ (ds : List Parsed). AnswersBy request ds a) same answer) other
