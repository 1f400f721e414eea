use Rattle.std.proofs.Common.{◌≡◌, ℕ, List, [], ◌∷◌, Bool, true, false, ◌||◌, refl, sym, codes}
use Rattle.std.specs.List.{AllByRecursion, list_any}
use Rattle.std.proofs.lemmas.Bool.{false≢true}
use Rattle.std.proofs.lemmas.List.Elements.{All-from_recursion, All-nil}
use Rattle.std.proofs.lemmas.Slice.Eq.{bytes_eq-Decides}
use Rattle.nquads.specs.Terms.{IsLanguage, IsLanguageGroup, HasIriCharacters, is_forbidden, is_letter, rdf_lang_string, xsd_string}
use Rattle.nquads.proofs.ReadingTerms.{iri_absent}
use Rattle.nquads.proofs.laws.worked_terms.Goals as goal

none_step : (p : ℕ → Bool) (x : ℕ) (xs : List ℕ) (b : Bool) → p x ≡ b → (b || list_any p xs) ≡ false → (list_any p xs ≡ false → AllByRecursion (λ c. p c ≡ false) xs) → (p x ≡ false) × AllByRecursion (λ c. p c ≡ false) xs
none_step p x xs true f e rest = absurd (false≢true (sym e))
none_step p x xs false f e rest = (f, rest e)

none : (p : ℕ → Bool) (xs : List ℕ) → list_any p xs ≡ false → AllByRecursion (λ c. p c ≡ false) xs
none p [] e = tt
none p (x ∷ xs) e = none_step p x xs (p x) refl e (none p xs)

admit : (text : List ℕ) → list_any is_forbidden text ≡ false → HasIriCharacters text
admit text e = All-from_recursion (λ c. is_forbidden c ≡ false) text (none is_forbidden text e)

apart : xsd_string ≡ rdf_lang_string → ⊥
apart e = false≢true ((bytes_eq-Decides xsd_string rdf_lang_string).1 e)

french : IsLanguage (codes "fr")
french = record {
  first = codes "fr";
  groups = [];
  is = refl;
  first_letters = ((λ e. cc), All-from_recursion (λ c. is_letter c ≡ true) (codes "fr") (refl, (refl, tt)));
  group_characters = All-nil IsLanguageGroup;
}

pub returns-clause-language : goal.returns-clause-language
returns-clause-language c = (admit rdf_lang_string refl, (refl, french))

pub returns-clause-no_language : goal.returns-clause-no_language
returns-clause-no_language c = λ i. i.1 refl

pub returns-clause-string : goal.returns-clause-string
returns-clause-string c = (admit xsd_string refl, apart)

pub returns-clause-string_language : goal.returns-clause-string_language
returns-clause-string_language c = λ i. apart i.1.0

pub returns-clause-spaced_iri : goal.returns-clause-spaced_iri
returns-clause-spaced_iri c = λ i. (iri_absent 32 (codes "a b") refl i).1.0 refl

pub returns-clause-literal_resource : goal.returns-clause-literal_resource
returns-clause-literal_resource c = λ i. i
