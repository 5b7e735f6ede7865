-- Documents that are taken from a shelf one after the other.
use Rattle.std.proofs.Common.{◌≡◌, ◌≢◌, ◌<◌, ◌≤◌, ◌+◌, inl, inr, ℕ, suc, Bool, IsTrue, Option, None, Some, List, [], ◌∷◌, ◌++◌, length, map, take, drop, slice_get, refl, sym, ap, ◌∙◌, subst, arith}
use Rattle.std.proofs.lemmas.List.{append-nil, length-append, length-map, map-append, take_all}
use Rattle.owl_characters.specs.Limit.{most_bytes}
use Rattle.owl_port.specs.Outside.{Rose}
use Rattle.owl_command.specs.Commands.{AreDistinct, IsAmong, Request, Source, names_of, sources_of}
use Rattle.owl_command.proofs.SourceLaws.{sources_are_named}
use Rattle.owl_documents.specs.Documents.{AreReadFrom, Contents, FollowsRead, IsRead, IsRefusedAt, Parsed, parsed_of}
use Rattle.owl_documents.specs.Reading.{IsProper, IsReadAs, IsStop, IsTakenAlone, IsTroubleOf, of_failure, of_no_memory, of_refusal}
use Rattle.owl_documents.specs.Shelves.{IsFrontTaken, IsTaken, Rises, Shelves}
use Rattle.owl_documents.specs.declared.document.Document.{Document}
use Rattle.owl_documents.specs.declared.reading.Read.{Read}
use Rattle.owl_documents.specs.declared.trouble.Refusal.{Refusal}
use Rattle.owl_documents.specs.declared.trouble.Trouble.{Trouble}
use Rattle.owl_documents.specs.declared.trouble.Trouble.TheVariants.{ReadFailed, Refused, Memory}
use Rattle.owl_documents.proofs.Following.{among_front, among_here, among_parts, apart, apart_behind, follows_read, front_and, names_in, parts, read_bytes, read_next}

-- These documents were read to their ends, and no others were touched.
pub record AreTaken (s : Shelves) (front : List Source) (documents : List Parsed) (size : ℕ) : Type 0 where
  pub read : IsTrue s.tells → AreReadFrom s.old 0 front documents size
  pub ended : IsTrue s.tells → (name : List ℕ) → IsAmong (names_in front) name → s.new name ≡ Some []
  pub others : IsTrue s.tells → (name : List ℕ) → (IsAmong (names_in front) name → ⊥) → s.new name ≡ s.old name
  pub counts : (name : List ℕ) → (IsAmong (names_in front) name → ⊥) → s.later name ≡ s.faults name

pub none_taken : (tells : Bool) (old : Contents) (faults : List ℕ → ℕ) → AreTaken (record { tells = tells; old = old; new = old; faults = faults; later = faults }) [] [] 0
none_taken tells old faults = record { read = λ _. refl; ended = λ _ name among. absurd among; others = λ _ name _. refl; counts = λ name _. refl }

all_taken : (there : Option (List ℕ)) (bytes : List ℕ) → there ≡ Some bytes → length bytes ≤ most_bytes → IsFrontTaken there (Some [])
all_taken there bytes e l = (bytes, omega arith, e ∙ ap Some (sym (append-nil bytes)))

nothing_taken : (there : Option (List ℕ)) → IsFrontTaken there there
nothing_taken None = ([], omega arith, refl)
nothing_taken (Some rest) = ([], omega arith, refl)

-- of all of them nothing is left
pub taken_whole : (s : Shelves) (request : Request) (documents : List Parsed) (size : ℕ) → AreTaken s (sources_of request) documents size → IsTrue s.tells → IsTaken request s.old s.new
taken_whole s request documents size a tells = record {
  taken = λ name named.
      let among = subst (λ (ns : List (List ℕ)). IsAmong ns name) (sym (sources_are_named request)) named in
      let b = read_bytes s.old 0 (sources_of request) documents size name (a.read tells) among in
      subst (IsFrontTaken (s.old name)) (sym (a.ended tells name among)) (all_taken (s.old name) b.0 b.1 b.2);
  others = λ name absent. a.others tells name (λ among. absent (subst (λ (ns : List (List ℕ)). IsAmong ns name) (sources_are_named request) among));
}

-- the names of some documents before others
names_append : (front others : List Source) → names_in (front ++ others) ≡ names_in front ++ names_in others
names_append front others = map-append (λ (s : Source). s.name) front others

named_parts : (request : Request) (front others : List Source) (source : Source) → sources_of request ≡ front ++ source ∷ others → names_of request ≡ names_in front ++ source.name ∷ names_in others
named_parts request front others source e =
    sym (sources_are_named request) ∙ ap names_in e ∙ names_append front (source ∷ others)

-- One more is read from the shelf behind these, or it stops there.
module _ (tells now : Bool) (told : now ≡ tells) (old middle new : Contents) (faults counts later : List ℕ → ℕ) (front others : List Source) (source : Source) (distinct : AreDistinct (names_in front ++ source.name ∷ names_in others)) (documents : List Parsed) (size : ℕ) (before : AreTaken (record { tells = tells; old = old; new = middle; faults = faults; later = counts }) front documents size) (alone : IsTakenAlone source.name (record { tells = now; old = middle; new = new; faults = counts; later = later })) where
  tells_yet : IsTrue tells → IsTrue now
  tells_yet t = subst IsTrue (sym told) t

  apart_here : IsAmong (names_in front) source.name → ⊥
  apart_here among = apart (names_in front) (names_in others) source.name distinct among

  own : IsTrue tells → middle source.name ≡ old source.name
  own t = before.others t source.name apart_here

  is_other : (x : List ℕ) → IsAmong (names_in front) x → x ≢ source.name
  is_other x among e = apart_here (subst (IsAmong (names_in front)) e among)

  pub more : (read : Read) → (IsTrue now → IsReadAs middle size source read) → (IsTrue now → new source.name ≡ Some []) → AreTaken (record { tells = tells; old = old; new = new; faults = faults; later = later }) (front ++ source ∷ []) (documents ++ parsed_of read.document ∷ []) (size + read.size)
  more read is ended = record {
    read = λ t.
        let r = is (tells_yet t) in
        let here : IsRead old size source r.bytes (parsed_of read.document) = record { there = sym (own t) ∙ r.is.there; few = r.is.few; reads = r.is.reads } in
        subst (λ (n : ℕ). AreReadFrom old 0 (front ++ source ∷ []) (documents ++ parsed_of read.document ∷ []) (size + n)) (sym r.size) (read_next old 0 front documents size source r.bytes (parsed_of read.document) (before.read t) here);
    ended = λ t x among. elim (among_parts (names_in front) [] source.name x (forth x among)) [
      | inl h ↦ alone.others (tells_yet t) x (is_other x h) ∙ before.ended t x h
      | inr h ↦ elim h [ inl e ↦ ap new e ∙ ended (tells_yet t) | inr n ↦ absurd n ]
    ];
    others = λ t x absent. alone.others (tells_yet t) x (not_it x absent) ∙ before.others t x (not_front x absent);
    counts = λ x absent. alone.counts x (not_it x absent) ∙ before.counts x (not_front x absent);
  }
    where
      both : names_in (front ++ source ∷ []) ≡ names_in front ++ source.name ∷ []
      both = names_append front (source ∷ [])

      forth : (x : List ℕ) → IsAmong (names_in (front ++ source ∷ [])) x → IsAmong (names_in front ++ source.name ∷ []) x
      forth x among = subst (λ (ns : List (List ℕ)). IsAmong ns x) both among

      back : (x : List ℕ) → IsAmong (names_in front ++ source.name ∷ []) x → IsAmong (names_in (front ++ source ∷ [])) x
      back x among = subst (λ (ns : List (List ℕ)). IsAmong ns x) (sym both) among

      not_it : (x : List ℕ) → (IsAmong (names_in (front ++ source ∷ [])) x → ⊥) → x ≢ source.name
      not_it x absent e = absent (back x (subst (IsAmong (names_in front ++ source.name ∷ [])) (sym e) (among_here (names_in front) [] source.name)))

      not_front : (x : List ℕ) → (IsAmong (names_in (front ++ source ∷ [])) x → ⊥) → IsAmong (names_in front) x → ⊥
      not_front x absent among = absent (back x (among_front (names_in front) (source.name ∷ []) x among))

  module _ (request : Request) (sources : sources_of request ≡ front ++ source ∷ others) where
    names : names_of request ≡ names_in front ++ source.name ∷ names_in others
    names = named_parts request front others source sources

    taken_here : (x : List ℕ) → IsTrue tells → IsAmong (names_in front ++ source.name ∷ names_in others) x → IsFrontTaken (old x) (new x)
    taken_here x t among = elim (among_parts (names_in front) (names_in others) source.name x among) [
      | inl h ↦
          let b = read_bytes old 0 front documents size x (before.read t) h in
          subst (IsFrontTaken (old x)) (sym (alone.others (tells_yet t) x (is_other x h) ∙ before.ended t x h)) (all_taken (old x) b.0 b.1 b.2)
      | inr h ↦ elim h [
        | inl e ↦ subst (λ (n : List ℕ). IsFrontTaken (old n) (new n)) (sym e) (subst (λ (there : Option (List ℕ)). IsFrontTaken there (new source.name)) (own t) (alone.taken (tells_yet t)))
        | inr m ↦
            let far = apart_behind (names_in front) (names_in others) source.name x distinct m in
            subst (IsFrontTaken (old x)) (sym (alone.others (tells_yet t) x far.1 ∙ before.others t x far.0)) (nothing_taken (old x))
      ]
    ]

    pub taken_to : IsTrue tells → IsTaken request old new
    taken_to t = record {
      taken = λ x among. taken_here x t (subst (λ (ns : List (List ℕ)). IsAmong ns x) names among);
      others = λ x absent.
          let none : IsAmong (names_in front ++ source.name ∷ names_in others) x → ⊥ = λ among. absent (subst (λ (ns : List (List ℕ)). IsAmong ns x) (sym names) among) in
          alone.others (tells_yet t) x (λ e. none (subst (IsAmong (names_in front ++ source.name ∷ names_in others)) (sym e) (among_here (names_in front) (names_in others) source.name)))
          ∙ before.others t x (λ among. none (among_front (names_in front) (source.name ∷ names_in others) x among));
    }

    follows : (Holds : ℕ → Type 0) → IsTrue tells → Holds size → FollowsRead old Holds 0 (sources_of request) source
    follows Holds t h =
        subst (λ (ss : List Source). FollowsRead old Holds 0 ss source) (sym sources) (follows_read old Holds 0 front others documents size source (before.read t) h)

    among : IsAmong (names_of request) source.name
    among = subst (λ (ns : List (List ℕ)). IsAmong ns source.name) (sym names) (among_here (names_in front) (names_in others) source.name)

    refused_here : (refusal : Refusal) → IsTrue tells → IsRefusedAt middle source refusal size → IsRefusedAt old source refusal size
    refused_here refusal t r = record { bytes = r.bytes; there = sym (own t) ∙ r.there; refused = r.refused }

    rises : Rose (counts source.name) (later source.name) → Rises (record { tells = tells; old = old; new = new; faults = faults; later = later }) source.name
    rises h = subst (λ (n : ℕ). Rose n (later source.name)) (before.counts source.name apart_here) h

    pub stop_at : (document : ℕ) (trouble : Trouble) → slice_get (sources_of request) document ≡ Some source → document < length (names_of request) → IsProper trouble → (IsTrue now → IsTroubleOf middle size source trouble) → (trouble ≡ ReadFailed → Rose (counts source.name) (later source.name)) → IsStop request (record { tells = tells; old = old; new = new; faults = faults; later = later }) (record { document = document; trouble = trouble })
    stop_at document ReadFailed at bound proper of failed =
        of_failure source at refl (among, rises (failed refl)) (λ t. follows (λ _. Rises (record { tells = tells; old = old; new = new; faults = faults; later = later }) source.name) t (rises (failed refl)))
    stop_at document (Refused refusal) at bound proper of failed =
        of_refusal source at refusal refl (proper refusal refl) (λ t. follows (IsRefusedAt old source refusal) t (refused_here refusal t (of (tells_yet t) refusal refl)))
    stop_at document Memory at bound proper of failed = of_no_memory bound refl

-- The same, where the document stands at this place.
module _ {tells now : Bool} {old middle new : Contents} {faults counts later : List ℕ → ℕ} (told : now ≡ tells) (request : Request) (distinct : AreDistinct (names_of request)) (place : ℕ) (source : Source) (at : slice_get (sources_of request) place ≡ Some source) (documents : List Parsed) (size : ℕ) (before : AreTaken (record { tells = tells; old = old; new = middle; faults = faults; later = counts }) (take place (sources_of request)) documents size) (alone : IsTakenAlone source.name (record { tells = now; old = middle; new = new; faults = counts; later = later })) where
  apart_at : AreDistinct (names_in (take place (sources_of request)) ++ source.name ∷ names_in (drop (suc place) (sources_of request)))
  apart_at =
      subst AreDistinct (named_parts request (take place (sources_of request)) (drop (suc place) (sources_of request)) source (parts (sources_of request) place source at)) distinct

  pub next : (read : Read) → (IsTrue now → IsReadAs middle size source read) → (IsTrue now → new source.name ≡ Some []) → AreTaken (record { tells = tells; old = old; new = new; faults = faults; later = later }) (take (suc place) (sources_of request)) (documents ++ parsed_of read.document ∷ []) (size + read.size)
  next read is ended =
      subst (λ (front : List Source). AreTaken (record { tells = tells; old = old; new = new; faults = faults; later = later }) front (documents ++ parsed_of read.document ∷ []) (size + read.size)) (sym (front_and (sources_of request) place source at)) (more tells now told old middle new faults counts later (take place (sources_of request)) (drop (suc place) (sources_of request)) source apart_at documents size before alone read is ended)

  pub taken_at : IsTrue tells → IsTaken request old new
  taken_at =
      taken_to tells now told old middle new faults counts later (take place (sources_of request)) (drop (suc place) (sources_of request)) source apart_at documents size before alone request (parts (sources_of request) place source at)

  pub stops : (document : ℕ) (trouble : Trouble) → place ≡ document → place < length (names_of request) → IsProper trouble → (IsTrue now → IsTroubleOf middle size source trouble) → (trouble ≡ ReadFailed → Rose (counts source.name) (later source.name)) → IsStop request (record { tells = tells; old = old; new = new; faults = faults; later = later }) (record { document = document; trouble = trouble })
  stops document trouble same bound proper of failed =
      stop_at tells now told old middle new faults counts later (take place (sources_of request)) (drop (suc place) (sources_of request)) source apart_at documents size before alone request (parts (sources_of request) place source at) document trouble (subst (λ (n : ℕ). slice_get (sources_of request) n ≡ Some source) same at) (subst (λ (n : ℕ). n < length (names_of request)) same bound) proper of failed

-- a document was put behind the others
pub kept : (s : Shelves) (sources : List Source) (docs new : List Document) (doc : Document) (size : ℕ) → new ≡ docs ++ doc ∷ [] → AreTaken s (take (suc (length docs)) sources) (map parsed_of docs ++ parsed_of doc ∷ []) size → AreTaken s (take (length new) sources) (map parsed_of new) size
kept s sources docs new doc size e a =
    let count : length new ≡ suc (length docs) = let l = ap (λ (ds : List Document). length ds) e ∙ length-append docs (doc ∷ []) in omega arith in
    let parsed = ap (map parsed_of) e ∙ map-append parsed_of docs (doc ∷ []) in
    subst (λ (n : ℕ). AreTaken s (take n sources) (map parsed_of new) size) (sym count) (subst (λ (ds : List Parsed). AreTaken s (take (suc (length docs)) sources) ds size) (sym parsed) a)

-- all of them are taken
pub all_of : (s : Shelves) (sources : List Source) (place : ℕ) (documents : List Parsed) (size : ℕ) → length sources ≤ place → AreTaken s (take place sources) documents size → AreTaken s sources documents size
all_of s sources place documents size l a =
    subst (λ (front : List Source). AreTaken s front documents size) (take_all place sources l) a

-- documents are as many as their names
pub count_of : (request : Request) → length (sources_of request) ≡ length (names_of request)
count_of request = sym (length-map (sources_of request) (λ (s : Source). s.name)) ∙ ap (λ (names : List (List ℕ)). length names) (sources_are_named request)

-- what is taken is of all that is named
pub ended_by_names : (s : Shelves) (request : Request) (documents : List Parsed) (size : ℕ) → AreTaken s (sources_of request) documents size → IsTrue s.tells → (name : List ℕ) → IsAmong (names_of request) name → s.new name ≡ Some []
ended_by_names s request documents size a tells name among =
    a.ended tells name (subst (λ (ns : List (List ℕ)). IsAmong ns name) (sym (sources_are_named request)) among)
