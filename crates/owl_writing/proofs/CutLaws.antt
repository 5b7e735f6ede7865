-- Characters that are cut into tokens of a language, one token or one space at a time.
use Rattle.std.proofs.Common.{◌≡◌, ℕ, ◌+◌, true, None, List, [], ◌∷◌, ◌++◌, map, inl, refl, sym, ap, subst, arith}
use Rattle.std.specs.Char.{len_utf8}
use Rattle.owl_characters.specs.Utf8.{size}
use Rattle.owl_lexer.specs.Splitting.{BeginsToken, Ends as Ending, IsLongest, SplitsFrom, Stops, is_space}
use Rattle.owl_lexer.specs.declared.placed.Placed.{Placed}

abbrev pub tokens_in : {T : Type 0} → List (Placed T) → List T
tokens_in {T} placed = map (λ (p : Placed T). p.token) placed

moved : (place a b n : ℕ) → place + a + b ≡ n → place + (a + b) ≡ n
moved place a b n h = omega arith

module _ {T : Type 0} (spells : T → List ℕ → Type 0) where
  -- the characters are cut into tokens of which this is so, wherever they stand
  abbrev pub Cuts : List ℕ → (List T → Type 0) → Type 0
  Cuts cs fact = (place : ℕ) → (placed : List (Placed T)) × SplitsFrom spells place cs [] placed None × fact (tokens_in placed)

  pub cuts_none : (fact : List T → Type 0) → fact [] → Cuts [] fact
  cuts_none fact h = λ place. ([], record { gap = []; rest = []; parts = refl; is_gap = tt; stops = refl }, h)

  -- a token, and then what the rest is cut into
  pub cuts_token : (fact next : List T → Type 0) (token : T) (spelling rest : List ℕ) → spells token spelling → IsLongest spells spelling rest → ((ts : List T) → next ts → fact (token ∷ ts)) → Cuts rest next → Cuts (spelling ++ rest) fact
  cuts_token fact next token spelling rest h longest step k = λ place.
      let others = k (place + size spelling) in
      let first : BeginsToken spells place (spelling ++ rest) (record { token = token; at = place }) (place + size spelling) rest =
      record { gap = []; spelling = spelling; parts = refl; is_gap = tt; at = omega arith; token = h; longest = longest; ends = refl } in
      (record { token = token; at = place } ∷ others.0, (place + size spelling, rest, first, others.1), step (tokens_in others.0) others.2)

  -- a space before the rest
  ends_behind : (place c : ℕ) (cs : List ℕ) → is_space c ≡ true → Ending spells (place + len_utf8 c) cs [] None → Ending spells place (c ∷ cs) [] None
  ends_behind place c cs h e = record {
    gap = c ∷ e.gap;
    rest = e.rest;
    parts = ap (λ (x : List ℕ). c ∷ x) e.parts;
    is_gap = inl (h, e.is_gap);
    stops = subst (λ (n : ℕ). Stops spells n e.rest [] None) (sym (moved place (len_utf8 c) (size e.gap) (place + len_utf8 c + size e.gap) refl)) e.stops;
  }

  begins_behind : (place c : ℕ) (cs : List ℕ) (first : Placed T) (next : ℕ) (rest : List ℕ) → is_space c ≡ true → BeginsToken spells (place + len_utf8 c) cs first next rest → BeginsToken spells place (c ∷ cs) first next rest
  begins_behind place c cs first next rest h b = record {
    gap = c ∷ b.gap;
    spelling = b.spelling;
    parts = ap (λ (x : List ℕ). c ∷ x) b.parts;
    is_gap = inl (h, b.is_gap);
    at = let at = b.at in omega arith;
    token = b.token;
    longest = b.longest;
    ends = b.ends;
  }

  splits_behind : (place c : ℕ) (cs : List ℕ) (placed : List (Placed T)) → is_space c ≡ true → SplitsFrom spells (place + len_utf8 c) cs [] placed None → SplitsFrom spells place (c ∷ cs) [] placed None
  splits_behind place c cs [] h e = ends_behind place c cs h e
  splits_behind place c cs (p ∷ ps) h e = (e.0, e.1, begins_behind place c cs p e.0 e.1 h e.2, e.3)

  pub cuts_space : (fact : List T → Type 0) (c : ℕ) (cs : List ℕ) → is_space c ≡ true → Cuts cs fact → Cuts (c ∷ cs) fact
  cuts_space fact c cs h k = λ place.
      let others = k (place + len_utf8 c) in
      (others.0, splits_behind place c cs others.0 h others.1, others.2)

  -- what follows from a fact is so too
  pub cuts_weaker : (fact weaker : List T → Type 0) (cs : List ℕ) → ((ts : List T) → fact ts → weaker ts) → Cuts cs fact → Cuts cs weaker
  cuts_weaker fact weaker cs f k = λ place. let others = k place in (others.0, others.1, f (tokens_in others.0) others.2)
