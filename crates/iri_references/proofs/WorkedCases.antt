-- Worked cases: references, and what they stand for.
use Rattle.std.specs.Prelude.{◌≡◌, ℕ, List, [], ◌∷◌, codes, map, refl}
use Rattle.iri_references.specs.References.{parts_of}
use Rattle.iri_references.specs.DotSegments.{without_dot_segments}
use Rattle.iri_references.specs.Resolution.{recomposed, resolved, resolved_without_scheme, target}

-- a reference, and the IRI that it stands for
pub record Example : Type 0 where
  pub reference : List ℕ
  pub iri : List ℕ

abbrev stands_for : List ℕ → List ℕ → Example
stands_for reference iri = record { reference = reference; iri = iri }

-- the base of the examples in RFC 3986, section 5.4
abbrev example_base : List ℕ
example_base = codes "http://a/b/c/d;p?q"

-- section 5.4.1
abbrev normal_examples : List Example
normal_examples =
    stands_for (codes "g:h") (codes "g:h")
    ∷ stands_for (codes "g") (codes "http://a/b/c/g")
    ∷ stands_for (codes "./g") (codes "http://a/b/c/g")
    ∷ stands_for (codes "g/") (codes "http://a/b/c/g/")
    ∷ stands_for (codes "/g") (codes "http://a/g")
    ∷ stands_for (codes "//g") (codes "http://g")
    ∷ stands_for (codes "?y") (codes "http://a/b/c/d;p?y")
    ∷ stands_for (codes "g?y") (codes "http://a/b/c/g?y")
    ∷ stands_for (codes "#s") (codes "http://a/b/c/d;p?q#s")
    ∷ stands_for (codes "g#s") (codes "http://a/b/c/g#s")
    ∷ stands_for (codes "g?y#s") (codes "http://a/b/c/g?y#s")
    ∷ stands_for (codes ";x") (codes "http://a/b/c/;x")
    ∷ stands_for (codes "g;x") (codes "http://a/b/c/g;x")
    ∷ stands_for (codes "g;x?y#s") (codes "http://a/b/c/g;x?y#s")
    ∷ stands_for (codes "") (codes "http://a/b/c/d;p?q")
    ∷ stands_for (codes ".") (codes "http://a/b/c/")
    ∷ stands_for (codes "./") (codes "http://a/b/c/")
    ∷ stands_for (codes "..") (codes "http://a/b/")
    ∷ stands_for (codes "../") (codes "http://a/b/")
    ∷ stands_for (codes "../g") (codes "http://a/b/g")
    ∷ stands_for (codes "../..") (codes "http://a/")
    ∷ stands_for (codes "../../") (codes "http://a/")
    ∷ stands_for (codes "../../g") (codes "http://a/g")
    ∷ []

-- section 5.4.2, with `http:g` as strict parsers take it
abbrev abnormal_examples : List Example
abnormal_examples =
    stands_for (codes "../../../g") (codes "http://a/g")
    ∷ stands_for (codes "../../../../g") (codes "http://a/g")
    ∷ stands_for (codes "/./g") (codes "http://a/g")
    ∷ stands_for (codes "/../g") (codes "http://a/g")
    ∷ stands_for (codes "g.") (codes "http://a/b/c/g.")
    ∷ stands_for (codes ".g") (codes "http://a/b/c/.g")
    ∷ stands_for (codes "g..") (codes "http://a/b/c/g..")
    ∷ stands_for (codes "..g") (codes "http://a/b/c/..g")
    ∷ stands_for (codes "./../g") (codes "http://a/b/g")
    ∷ stands_for (codes "./g/.") (codes "http://a/b/c/g/")
    ∷ stands_for (codes "g/./h") (codes "http://a/b/c/g/h")
    ∷ stands_for (codes "g/../h") (codes "http://a/b/c/h")
    ∷ stands_for (codes "g;x=1/./y") (codes "http://a/b/c/g;x=1/y")
    ∷ stands_for (codes "g;x=1/../y") (codes "http://a/b/c/y")
    ∷ stands_for (codes "g?y/./x") (codes "http://a/b/c/g?y/./x")
    ∷ stands_for (codes "g?y/../x") (codes "http://a/b/c/g?y/../x")
    ∷ stands_for (codes "g#s/./x") (codes "http://a/b/c/g#s/./x")
    ∷ stands_for (codes "g#s/../x") (codes "http://a/b/c/g#s/../x")
    ∷ stands_for (codes "http:g") (codes "http:g")
    ∷ []

-- other bases
pub record Case : Type 0 where
  pub base : List ℕ
  pub reference : List ℕ
  pub iri : List ℕ

abbrev against : List ℕ → List ℕ → List ℕ → Case
against base reference iri = record { base = base; reference = reference; iri = iri }

abbrev other_cases : List Case
other_cases =
    against (codes "http://a/b/") (codes "1x:y") (codes "http://a/b/1x:y")
    ∷ against (codes "http://a/b/") (codes "+x:y") (codes "http://a/b/+x:y")
    ∷ against (codes "http://a/b/") (codes "./x:y") (codes "http://a/b/x:y")
    ∷ against (codes "http://a/b/") (codes "x+1:y/../z") (codes "x+1:y/../z")
    ∷ against (codes "http://a/b/") (codes "") (codes "http://a/b/")
    ∷ against (codes "http://a/b/") (codes "//g") (codes "http://g")
    ∷ against (codes "http://a/b/") (codes "//g/../h?y") (codes "http://g/h?y")
    ∷ against (codes "http://a/b/") (codes "//") (codes "http://")
    ∷ against (codes "http://a/b/") (codes "?") (codes "http://a/b/?")
    ∷ against (codes "http://a/b?x") (codes "#") (codes "http://a/b?x#")
    ∷ against (codes "http://a/b#x") (codes "") (codes "http://a/b")
    ∷ against (codes "http://a/b?x/y") (codes "c") (codes "http://a/c")
    ∷ against (codes "http://a/./b") (codes "#s") (codes "http://a/./b#s")
    ∷ against (codes "http://a/./b") (codes "c") (codes "http://a/c")
    ∷ against (codes "http://a") (codes "b") (codes "http://a/b")
    ∷ against (codes "http://a") (codes "../b") (codes "http://a/b")
    ∷ against (codes "http://a?x") (codes "b") (codes "http://a/b")
    ∷ against (codes "http://") (codes "b") (codes "http:///b")
    ∷ against (codes "file:///a") (codes "b") (codes "file:///b")
    ∷ against (codes "urn:a") (codes "b") (codes "urn:b")
    ∷ against (codes "urn:a") (codes "../b") (codes "urn:b")
    ∷ against (codes "urn:a") (codes "..") (codes "urn:")
    ∷ against (codes "urn:a") (codes ".//b") (codes "urn:/b")
    ∷ against (codes "urn:a/b") (codes "../c") (codes "urn:/c")
    ∷ against (codes "urn:a/b") (codes "..") (codes "urn:/")
    ∷ against (codes "urn:a:b") (codes "c") (codes "urn:c")
    ∷ []

pub normal_examples_hold : map (λ example. resolved example_base example.reference) normal_examples ≡ map (λ example. example.iri) normal_examples
unfolding resolved resolved_without_scheme parts_of target recomposed without_dot_segments
normal_examples_hold = refl

pub abnormal_examples_hold : map (λ example. resolved example_base example.reference) abnormal_examples ≡ map (λ example. example.iri) abnormal_examples
unfolding resolved resolved_without_scheme parts_of target recomposed without_dot_segments
abnormal_examples_hold = refl

pub other_cases_hold : map (λ case. resolved case.base case.reference) other_cases ≡ map (λ case. case.iri) other_cases
unfolding resolved resolved_without_scheme parts_of target recomposed without_dot_segments
other_cases_hold = refl
