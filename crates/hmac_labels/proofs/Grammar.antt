-- Each label is one of N-Quads.
use Rattle.std.proofs.Common.{◌≡◌, ◌==◌, ◌&&◌, ◌+◌, ◌-◌, ◌*◌, ◌/◌, ◌%◌, ◌<◌, ℕ, zero, suc, Bool, true, not, List, [], ◌∷◌, ◌++◌, length, get_or, refl, sym, ap, subst, ◌∙◌, arith}
use Rattle.std.specs.Prelude.{All, slice_index}
use Rattle.std.specs.List.{list_all}
use Rattle.std.proofs.lemmas.Bool.{and_parts, not-true, eqb-false}
use Rattle.std.proofs.lemmas.List.{append-nil}
use Rattle.std.proofs.lemmas.List.Elements.{All-nil, All-cons, All-append, All-weaker}
use Rattle.std.proofs.lemmas.List.Sums.{AllPass-from_list_all}
use Rattle.base64.specs.Engines.{url_safe_no_pad}
use Rattle.base64.specs.GeneralPurpose.{IsBytes}
use Rattle.base64.specs.Rfc4648.{encode_symbols, encode_one, encode_two, encode_group}
use Rattle.digest_mac.specs.Labels.{hmac_digest, hmac_label, multibase_text}
use Rattle.digest_mac.specs.declared.hash.Hash.{Hash}
use Rattle.digest_mac.proofs.Labels.{bytes-keyed_digest}
use Rattle.nquads.specs.Terms.{IsLabel, is_label_character}

-- a character of a label that may also be the last
abbrev is_inner : ℕ → Bool
is_inner c = is_label_character c && not (c == 46)

abbrev IsInner : ℕ → Type 0
IsInner c = is_inner c ≡ true

-- the symbols of base64url
abbrev symbols : List ℕ
symbols = url_safe_no_pad.encode_table

-- each is such a character
symbol-is : (v : ℕ) → v < 64 → IsInner (slice_index symbols v)
symbol-is v below = AllPass-from_list_all is_inner symbols refl v 0 below

-- one such character more
inner-more : (c : ℕ) (rest : List ℕ) → IsInner c → All IsInner rest → All IsInner (c ∷ rest)
inner-more c rest is are = All-cons IsInner c rest is are

-- so is each symbol of bytes
symbols-one : (a : ℕ) → a < 256 → All IsInner (encode_one symbols a)
symbols-one a la =
    let second : ℕ = slice_index symbols (a % 4 * 16) in
    inner-more (slice_index symbols (a / 4)) (second ∷ []) (symbol-is (a / 4) (omega (arith, la)))
    (inner-more second [] (symbol-is (a % 4 * 16) (omega arith)) (All-nil IsInner))

symbols-two : (a b : ℕ) → a < 256 → b < 256 → All IsInner (encode_two symbols a b)
symbols-two a b la lb =
    let second : ℕ = slice_index symbols (a % 4 * 16 + b / 16) in
    let third : ℕ = slice_index symbols (b % 16 * 4) in
    inner-more (slice_index symbols (a / 4)) (second ∷ third ∷ []) (symbol-is (a / 4) (omega (arith, la)))
    (inner-more second (third ∷ []) (symbol-is (a % 4 * 16 + b / 16) (omega (arith, lb)))
    (inner-more third [] (symbol-is (b % 16 * 4) (omega arith)) (All-nil IsInner)))

symbols-group : (a b c : ℕ) → a < 256 → b < 256 → c < 256 → All IsInner (encode_group symbols a b c)
symbols-group a b c la lb lc =
    let second : ℕ = slice_index symbols (a % 4 * 16 + b / 16) in
    let third : ℕ = slice_index symbols (b % 16 * 4 + c / 64) in
    let fourth : ℕ = slice_index symbols (c % 64) in
    inner-more (slice_index symbols (a / 4)) (second ∷ third ∷ fourth ∷ []) (symbol-is (a / 4) (omega (arith, la)))
    (inner-more second (third ∷ fourth ∷ []) (symbol-is (a % 4 * 16 + b / 16) (omega (arith, lb)))
    (inner-more third (fourth ∷ []) (symbol-is (b % 16 * 4 + c / 64) (omega (arith, lc)))
    (inner-more fourth [] (symbol-is (c % 64) (omega arith)) (All-nil IsInner))))

encoded-is : (bytes : List ℕ) → IsBytes bytes → All IsInner (encode_symbols symbols bytes)
unfolding encode_symbols
encoded-is [] are = All-nil IsInner
encoded-is (a ∷ []) are = symbols-one a (are 0)
encoded-is (a ∷ b ∷ []) are = symbols-two a b (are 0) (are 1)
encoded-is (a ∷ b ∷ c ∷ rest) are =
    All-append IsInner (encode_group symbols a b c) (encode_symbols symbols rest)
    (symbols-group a b c (are 0) (are 1) (are 2)) (encoded-is rest (λ k. are (suc (suc (suc k)))))

-- the label of bytes has such characters alone
text-is : (bytes : List ℕ) → IsBytes bytes → All IsInner (multibase_text bytes)
text-is bytes are =
    All-cons IsInner 117 _ refl
    (subst (All IsInner) (sym (append-nil (encode_symbols symbols bytes))) (encoded-is bytes are))

-- a text of such characters that begins with `u` is a label
inner-label : (rest : List ℕ) → All IsInner (117 ∷ rest) → IsLabel (117 ∷ rest)
inner-label rest are = record {
  not_empty = λ e. absurd (cc e);
  characters = All-weaker IsInner (λ c. is_label_character c ≡ true)
      (λ c is. (and_parts (is_label_character c) (not (c == 46)) is).0) (117 ∷ rest) are;
  first = (λ e. absurd (omega (arith, e)), λ e. absurd (omega (arith, e)));
  last = λ e.
      let end : ℕ = get_or (117 ∷ rest) (length (117 ∷ rest) - 1) 0 in
      let inner : IsInner end = are (length (117 ∷ rest) - 1) 0 (omega arith) in
      eqb-false end 46 (not-true (end == 46) (and_parts (is_label_character end) (not (end == 46)) inner).1) e;
}

-- the label of a number is one of N-Quads
pub label-in_grammar : (hash : Hash) (key : List ℕ) (number : ℕ) → IsLabel (hmac_label hash key number)
unfolding hmac_label hmac_digest
label-in_grammar hash key number = inner-label _ (text-is (hmac_digest hash key number) (bytes-keyed_digest hash key _))
