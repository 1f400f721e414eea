-- The test of absolute IRIs.
use Rattle.std.proofs.Common.{◌≡◌, ◌↔◌, Bool, true, false, ◌&&◌, ℕ, List, Option, Some, None, is_none, IsTrue, refl}
use Rattle.iri_ref.specs.Characters.{first_forbidden}
use Rattle.iri_ref.specs.Components.{has_scheme, IsAbsolute, is_absolute}

both : (scheme : Bool) (forbidden : Option ℕ) → ((scheme && is_none forbidden) ≡ true) ↔ (IsTrue scheme × (forbidden ≡ None))
both true None = (λ e. (refl, refl), λ e. refl)
both true (Some k) = (λ e. absurd (cc), λ e. let none : Some k ≡ None = e.1 in absurd (cc))
both false forbidden = (λ e. absurd (cc), λ e. e.0)

-- a text passes the test exactly where it is an absolute IRI
pub is_absolute-exact : (text : List ℕ) → (is_absolute text ≡ true) ↔ IsAbsolute text
is_absolute-exact text = both (has_scheme text) (first_forbidden text)
