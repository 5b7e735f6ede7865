-- The characters of names.
use Rattle.std.proofs.Common.{◌≡◌, ℕ, Bool, true, false, List, [], ◌∷◌, ◌++◌, refl, sym, subst}
use Rattle.std.specs.Prelude.{codes}
use Rattle.std.specs.List.{list_all}
use Rattle.std.proofs.lemmas.Bool.{or_left}
use Rattle.owl_characters.specs.Iri.{AllAre, is_among, is_ascii}
use Rattle.owl_characters.specs.Names.{in_ranges, start_ranges, part_ranges, is_base, is_start, is_part, is_inner, IsNameFrom, IsPrefixName, ends_in_dot}
use Rattle.std.specs.Str.{chars}
use Rattle.owl_characters.proofs.AllAreLaws.{all_are}
use Rattle.owl_characters.proofs.AsciiLaws.{ascii_chars}

pub base_is_inner : (c : ℕ) → is_base c ≡ true → is_inner c ≡ true
base_is_inner c h = or_left (is_part c) (is_among (codes ".") c) (or_left (is_start c) (in_ranges part_ranges c) (or_left (is_base c) (in_ranges start_ranges c) h))

pub start_is_inner : (c : ℕ) → is_start c ≡ true → is_inner c ≡ true
start_is_inner c h = or_left (is_part c) (is_among (codes ".") c) (or_left (is_start c) (in_ranges part_ranges c) h)

pub name_inner : (test : ℕ → Bool) → ((c : ℕ) → test c ≡ true → is_inner c ≡ true) → (cs : List ℕ) → IsNameFrom test cs → AllAre is_inner cs
name_inner test f [] h = absurd h
name_inner test f (c ∷ cs) h = (f c h.0, h.1)

pub prefix_inner : (prefix : List ℕ) → IsPrefixName prefix → AllAre is_inner prefix
prefix_inner [] h = tt
prefix_inner (c ∷ cs) h = name_inner is_base base_is_inner (c ∷ cs) h

pub word_inner : (word : List ℕ) → IsNameFrom is_start word → AllAre is_inner word
word_inner word h = name_inner is_start start_is_inner word h

pub ends_in_dot-append : (xs : List ℕ) (z : ℕ) (zs : List ℕ) → ends_in_dot (xs ++ z ∷ zs) ≡ ends_in_dot (z ∷ zs)
ends_in_dot-append [] z zs = refl
ends_in_dot-append (x ∷ []) z zs = refl
ends_in_dot-append (x ∷ y ∷ ys) z zs = ends_in_dot-append (y ∷ ys) z zs

pub name_dot : (test : ℕ → Bool) (cs : List ℕ) → IsNameFrom test cs → ends_in_dot cs ≡ false
name_dot test [] h = absurd h
name_dot test (c ∷ cs) h = h.2

pub prefix_dot : (cs : List ℕ) → IsPrefixName cs → ends_in_dot cs ≡ false
prefix_dot [] h = refl
prefix_dot (c ∷ cs) h = h.2

-- the name of a prefix, that is written out
pub written_name : (c : ℕ) (cs : List ℕ) → is_base c ≡ true → list_all is_inner cs ≡ true → ends_in_dot (c ∷ cs) ≡ false → IsPrefixName (c ∷ cs)
written_name c cs first h last = (first, (all_are is_inner cs).0 h, last)

pub prefix_name : (c : ℕ) (cs : List ℕ) → list_all is_ascii (c ∷ cs) ≡ true → is_base c ≡ true → list_all is_inner cs ≡ true → ends_in_dot (c ∷ cs) ≡ false → IsPrefixName (chars (c ∷ cs))
prefix_name c cs ascii first h last = subst IsPrefixName (sym (ascii_chars (c ∷ cs) ascii)) (written_name c cs first h last)

pub empty_name : IsPrefixName (chars [])
empty_name = subst IsPrefixName (sym (ascii_chars [] refl)) tt
