-- What the code asks of texts that may be read, and what it tests.
use Rattle.std.proofs.Common.{◌≡◌, ℕ, List, [], ◌∷◌, ◌++◌, Bool, true, false, ◌↔◌, refl, sym, ◌∙◌, inl, inr}
use Rattle.std.specs.Prelude.{◌⊎◌}
use Rattle.std.specs.Str.Iter.{HasSubslice}
use Rattle.std.proofs.lemmas.Bool.{true≢false}
use Rattle.nquads.specs.Internal.Meaning.{holds_noncharacter}
use Rattle.nquads.proofs.Readable.{noncharacter_found, noncharacter_from}

holds_one : (s : List ℕ) (last : ℕ) → (last ≡ 190) ⊎ (last ≡ 191) → HasSubslice s (239 ∷ 191 ∷ last ∷ []) → holds_noncharacter s ≡ true
holds_one s last n h = noncharacter_from s (record { before = h.0; last = last; after = h.1; is = h.2; noncharacter = n })

-- where U+FFFE was found
pub first_found : (s : List ℕ) (a : Bool) → a ≡ true → ((a ≡ true) ↔ HasSubslice s (239 ∷ 191 ∷ 190 ∷ [])) → a ≡ holds_noncharacter s
first_found s a e h = e ∙ sym (holds_one s 190 (inl refl) (h.0 e))

-- where it was not
pub second_found : (s : List ℕ) (a b : Bool) → a ≡ false → ((a ≡ true) ↔ HasSubslice s (239 ∷ 191 ∷ 190 ∷ [])) → ((b ≡ true) ↔ HasSubslice s (239 ∷ 191 ∷ 191 ∷ [])) → b ≡ holds_noncharacter s
second_found s a true e h k = sym (holds_one s 191 (inr refl) (k.0 refl))
second_found s a false e h k = go (holds_noncharacter s) refl
  where
    go : (t : Bool) → holds_noncharacter s ≡ t → false ≡ holds_noncharacter s
    go false n = sym n
    go true n =
        let r = noncharacter_found s n in
        elim r.noncharacter [
          | inl p ↦ absurd (true≢false (sym (h.1 (r.before, r.after, r.is ∙ sym_last r.before r.last 190 r.after p)) ∙ e))
          | inr p ↦ absurd (true≢false (sym (k.1 (r.before, r.after, r.is ∙ sym_last r.before r.last 191 r.after p))))
        ]
      where
        sym_last : (before : List ℕ) (last c : ℕ) (after : List ℕ) → last ≡ c → before ++ 239 ∷ 191 ∷ last ∷ after ≡ before ++ ((239 ∷ 191 ∷ c ∷ []) ++ after)
        sym_last before last c after e = rw e refl
