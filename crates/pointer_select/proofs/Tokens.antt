-- Tokens read character by character, and what they spell.
use Rattle.std.proofs.Common.{◌≡◌, ◌≢◌, ◌≤◌, ◌<◌, ℕ, List, [], ◌∷◌, ◌++◌, length, Bool, true, false, ◌==◌, ltb, if◌then◌else◌, encode_utf8, refl, sym, ap, ◌∙◌, append_assoc, append-nil, arith}
use Rattle.std.specs.List.{AllByRecursion}
use Rattle.std.proofs.lemmas.Bool.Decides.{nat_tests}
use Rattle.std.proofs.Concat.{length-encode_pos}
use lib.Utf8.{encode}
use Rattle.base_types.proofs.Utf8.{encode-wide, encode-narrow}
use Rattle.pointer_select.specs.Internal.Reading.{meant, tokens_from}

-- ---- one character

plain_byte : (b : ℕ) (token rest : List ℕ) → (b == 126) ≡ false → (b == 47) ≡ false → tokens_from false token (b ∷ rest) ≡ tokens_from false (token ++ b ∷ []) rest
plain_byte b token rest t s = rw (t, s) refl

is_not : (b c : ℕ) → b ≢ c → (b == c) ≡ false
is_not b c h = grind (arith, nat_tests)

wide_bytes : (bs : List ℕ) → AllByRecursion (λ b. 128 ≤ b) bs → (token rest : List ℕ) → tokens_from false token (bs ++ rest) ≡ tokens_from false (token ++ bs) rest
wide_bytes [] all token rest = ap (λ t. tokens_from false t rest) (sym (append-nil token))
wide_bytes (b ∷ bs) all token rest =
    let low : 128 ≤ b = all.0 in
    plain_byte b token (bs ++ rest) (is_not b 126 (λ e. omega arith)) (is_not b 47 (λ e. omega arith))
    ∙ wide_bytes bs all.1 (token ++ b ∷ []) rest ∙ ap (λ t. tokens_from false t rest) (append_assoc token (b ∷ []) bs)

-- another character than `~` and `/` goes to the token
pub take_plain : (done : List (List ℕ)) (token : List ℕ) (c : ℕ) (rest : List ℕ) → c ≢ 126 → c ≢ 47 → done ++ tokens_from false (token ++ encode_utf8 c) rest ≡ done ++ tokens_from false token (encode_utf8 c ++ rest)
take_plain done token c rest a b = ap (λ ts. done ++ ts) (go (ltb c 128) refl)
  where
    go : (t : Bool) → ltb c 128 ≡ t → tokens_from false (token ++ encode c) rest ≡ tokens_from false token (encode c ++ rest)
    go true f = rw (encode-narrow c f) (sym (plain_byte c token rest (is_not c 126 a) (is_not c 47 b)))
    go false f = sym (wide_bytes (encode c) (encode-wide c f) token rest)

meant_small : (c : ℕ) → ltb c 128 ≡ true → ltb (meant c) 128 ≡ true
meant_small c f = go (c == 48) (c == 49)
  where
    go : (a b : Bool) → ltb (if a then 126 else (if b then 47 else c)) 128 ≡ true
    go true b = refl
    go false true = refl
    go false false = f

meant_wide : (b : ℕ) → 128 ≤ b → meant b ≡ b
meant_wide b low = rw (is_not b 48 (λ e. omega arith), is_not b 49 (λ e. omega arith)) refl

escaped_bytes : (bs : List ℕ) → AllByRecursion (λ b. 128 ≤ b) bs → 0 < length bs → (token rest : List ℕ) → tokens_from false (token ++ bs) rest ≡ tokens_from true token (bs ++ rest)
escaped_bytes [] all some token rest = absurd (omega arith)
escaped_bytes (b ∷ bs) all some token rest =
    ap (λ t. tokens_from false t rest) (sym (append_assoc token (b ∷ []) bs))
    ∙ sym (wide_bytes bs all.1 (token ++ b ∷ []) rest)
    ∙ ap (λ (m : ℕ). tokens_from false (token ++ m ∷ []) (bs ++ rest)) (sym (meant_wide b all.0))

wide : (c : ℕ) → ltb c 128 ≡ false → 128 ≤ c
wide c f = grind (arith, nat_tests)

-- after `~` what the character stands for goes to the token
pub take_escaped : (done : List (List ℕ)) (token : List ℕ) (c m : ℕ) (rest : List ℕ) → m ≡ meant c → done ++ tokens_from false (token ++ encode_utf8 m) rest ≡ done ++ tokens_from true token (encode_utf8 c ++ rest)
take_escaped done token c m rest is = ap (λ ts. done ++ ts) (ap (λ (n : ℕ). tokens_from false (token ++ encode n) rest) is ∙ go (ltb c 128) refl)
  where
    go : (t : Bool) → ltb c 128 ≡ t → tokens_from false (token ++ encode (meant c)) rest ≡ tokens_from true token (encode c ++ rest)
    go true f = rw (encode-narrow c f, encode-narrow (meant c) (meant_small c f)) refl
    go false f =
        ap (λ (n : ℕ). tokens_from false (token ++ encode n) rest) (meant_wide c (wide c f))
        ∙ escaped_bytes (encode c) (encode-wide c f) (length-encode_pos c) token rest
