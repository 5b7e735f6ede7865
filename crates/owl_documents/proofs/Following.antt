-- Documents that are read one after the other.
use Rattle.std.proofs.Common.{◌≡◌, ◌≢◌, ◌≤◌, ◌+◌, ◌⊎◌, inl, inr, ℕ, zero, suc, List, [], ◌∷◌, ◌++◌, Some, length, map, take, drop, slice_get, refl, ap, ◌∙◌, subst}
use Rattle.std.specs.List.{AllByRecursion}
use Rattle.owl_characters.specs.Limit.{most_bytes}
use Rattle.owl_command.specs.Commands.{AreDistinct, IsAmong, Source}
use Rattle.owl_documents.specs.Documents.{AreReadFrom, Contents, FollowsRead, IsRead, Parsed}

-- the names of documents
abbrev pub names_in : List Source → List (List ℕ)
names_in sources = map (λ s. s.name) sources

module _ (contents : Contents) where
  -- one more is read
  pub read_next : (before : ℕ) (front : List Source) (documents : List Parsed) (after : ℕ) (source : Source) (bytes : List ℕ) (parsed : Parsed) → AreReadFrom contents before front documents after → IsRead contents after source bytes parsed → AreReadFrom contents before (front ++ source ∷ []) (documents ++ parsed ∷ []) (after + length bytes)
  read_next before [] [] after source bytes parsed e r =
      (bytes, subst (λ (n : ℕ). IsRead contents n source bytes parsed) e r, ap (λ (n : ℕ). n + length bytes) e)
  read_next before [] (d ∷ documents) after source bytes parsed e r = absurd e
  read_next before (first ∷ front) [] after source bytes parsed e r = absurd e
  read_next before (first ∷ front) (d ∷ documents) after source bytes parsed e r =
      (e.0, e.1, read_next (before + length e.0) front documents after source bytes parsed e.2 r)

  pub follows_read : (Holds : ℕ → Type 0) (before : ℕ) (front others : List Source) (documents : List Parsed) (after : ℕ) (source : Source) → AreReadFrom contents before front documents after → Holds after → FollowsRead contents Holds before (front ++ source ∷ others) source
  follows_read Holds before [] others [] after source e h = inl (refl, subst Holds e h)
  follows_read Holds before [] others (d ∷ documents) after source e h = absurd e
  follows_read Holds before (first ∷ front) others [] after source e h = absurd e
  follows_read Holds before (first ∷ front) others (d ∷ documents) after source e h =
      inr (e.0, d, e.1, follows_read Holds (before + length e.0) front others documents after source e.2 h)

  -- what was read is not too long
  pub read_bytes : (before : ℕ) (front : List Source) (documents : List Parsed) (after : ℕ) (name : List ℕ) → AreReadFrom contents before front documents after → IsAmong (names_in front) name → (bytes : List ℕ) × (contents name ≡ Some bytes) × (length bytes ≤ most_bytes)
  read_bytes before [] documents after name e among = absurd among
  read_bytes before (first ∷ front) [] after name e among = absurd e
  read_bytes before (first ∷ front) (d ∷ documents) after name e (inl f) =
      (e.0, ap contents f ∙ e.1.there, e.1.few.own)
  read_bytes before (first ∷ front) (d ∷ documents) after name e (inr among) =
      read_bytes (before + length e.0) front documents after name e.2 among

-- the names before one, it, and those behind it
pub parts : {X : Type 0} (names : List X) (place : ℕ) (name : X) → slice_get names place ≡ Some name → names ≡ take place names ++ name ∷ drop (suc place) names
parts [] place name e = absurd (cc)
parts (first ∷ names) zero name e = cc
parts {X} (first ∷ names) (suc place) name e = ap (λ (x : List X). first ∷ x) (parts names place name e)

pub front_and : {X : Type 0} (names : List X) (place : ℕ) (name : X) → slice_get names place ≡ Some name → take (suc place) names ≡ take place names ++ name ∷ []
front_and [] place name e = absurd (cc)
front_and (first ∷ names) zero name e = cc
front_and {X} (first ∷ names) (suc place) name e = ap (λ (x : List X). first ∷ x) (front_and names place name e)

pub among_parts : (front others : List (List ℕ)) (name x : List ℕ) → IsAmong (front ++ name ∷ others) x → IsAmong front x ⊎ ((x ≡ name) ⊎ IsAmong others x)
among_parts [] others name x among = inr among
among_parts (first ∷ front) others name x (inl e) = inl (inl e)
among_parts (first ∷ front) others name x (inr among) =
    elim (among_parts front others name x among) [ inl h ↦ inl (inr h) | inr h ↦ inr h ]

pub among_front : (front others : List (List ℕ)) (x : List ℕ) → IsAmong front x → IsAmong (front ++ others) x
among_front [] others x among = absurd among
among_front (first ∷ front) others x (inl e) = inl e
among_front (first ∷ front) others x (inr among) = inr (among_front front others x among)

pub among_here : (front others : List (List ℕ)) (name : List ℕ) → IsAmong (front ++ name ∷ others) name
among_here [] others name = inl refl
among_here (first ∷ front) others name = inr (among_here front others name)

among_behind : (front others : List (List ℕ)) (name x : List ℕ) → IsAmong others x → IsAmong (front ++ name ∷ others) x
among_behind [] others name x among = inr among
among_behind (first ∷ front) others name x among = inr (among_behind front others name x among)

-- no name stands twice
pub apart : (front others : List (List ℕ)) (name : List ℕ) → AreDistinct (front ++ name ∷ others) → IsAmong front name → ⊥
apart [] others name d among = among
apart (first ∷ front) others name d (inl e) = d.0 (subst (IsAmong (front ++ name ∷ others)) e (among_here front others name))
apart (first ∷ front) others name d (inr among) = apart front others name d.1 among

pub apart_behind : (front others : List (List ℕ)) (name x : List ℕ) → AreDistinct (front ++ name ∷ others) → IsAmong others x → (IsAmong front x → ⊥) × (x ≢ name)
apart_behind [] others name x d among = (λ h. h, λ e. d.0 (subst (IsAmong others) e among))
apart_behind (first ∷ front) others name x d among =
    let more = apart_behind front others name x d.1 among in
    (λ h. elim h [ inl e ↦ d.0 (subst (IsAmong (front ++ name ∷ others)) e (among_behind front others name x among)) | inr m ↦ more.0 m ], more.1)

pub all_by_names : (P : List ℕ → Type 0) (names : List (List ℕ)) → ((name : List ℕ) → IsAmong names name → P name) → AllByRecursion P names
all_by_names P [] f = tt
all_by_names P (name ∷ names) f = (f name (inl refl), all_by_names P names (λ other among. f other (inr among)))
