-- What the code reads of characters with escapes, and what the functions of texts read.
use denote.Ref.{Bor}
use Rattle.std.proofs.Common.{◌≡◌, ◌≢◌, ℕ, zero, suc, ◌+◌, ◌-◌, ◌*◌, ◌^◌, ◌<◌, ◌≤◌, List, [], ◌∷◌, ◌++◌, length, take, drop, get_or, Bool, true, false, ltb, ◌&&◌, nat_le, All, Option, Some, None, IfSome, option_map, slice_get, encode_utf8, IsCharBoundary, refl, sym, ap, ◌∙◌, subst, inl, inr, arith, zero-lt-suc, lt_of_lt_of_le, add-one, length-drop, get_or-take}
use Rattle.std.specs.List.{AllByRecursion}
use Rattle.std.specs.Str.{IsUtf8}
use Rattle.std.proofs.lemmas.Bool.{leb-true, and_parts}
use Rattle.std.proofs.lemmas.Option.{none-some, same_Some, slice_get_within, get_or_from_slice_get}
use Rattle.std.proofs.lemmas.List.Elements.{All-nil, All-cons, All-get_or}
use Rattle.std.proofs.lemmas.Str.{IsCharBoundary-start, IsCharBoundary-after_ascii}
use native.Mathlib.Nat.{pow-le-pow_right}
use lib.Utf8.{encode}
use Rattle.base_types.proofs.Utf8.{encode-wide, encode-narrow}
use Rattle.base_types.proofs.Options.{and_then-Some, took}
use Rattle.nquads.specs.Terms.{is_digit}
use Rattle.nquads.specs.Escapes.{hex_value, hex_number}
use Rattle.nquads.specs.Internal.Meaning.{numbered, with_size, escape_in, meant, seen_character, behind_escape, behind, MeansFirst}
use Rattle.nquads.specs.Internal.Parsing.{past}
use Rattle.nquads.proofs.Meant.{raw_front, escaped_front}
use Rattle.nquads.proofs.Cutting.{past-gives}

-- ---- hexadecimal digits

-- seven digits fit 28 bits
pub digit_room : (n i k : ℕ) → n < 16 ^ i → i < k → k ≤ 8 → n < 268435456
digit_room n i k l m f =
    let few : i ≤ 7 = omega arith in
    let power : 16 ^ i ≤ 16 ^ 7 = pow-le-pow_right (zero-lt-suc 15) few in
    lt_of_lt_of_le l power

hex_value-small : (c v : ℕ) → hex_value c ≡ Some v → c < 128
hex_value-small c v e =
    elim (took (is_digit c) (Some (c - 48)) _ (Some v) e) [
      | inl p ↦ omega (arith, leb-true c 57 (and_parts (nat_le 48 c) (nat_le c 57) p.0).1)
      | inr p ↦ elim (took (nat_le 65 c && nat_le c 70) (Some (c - 55)) _ (Some v) p.1) [
        | inl q ↦ omega (arith, leb-true c 70 (and_parts (nat_le 65 c) (nat_le c 70) q.0).1)
        | inr q ↦ elim (took (nat_le 97 c && nat_le c 102) (Some (c - 87)) None (Some v) q.1) [
          | inl r ↦ omega (arith, leb-true c 102 (and_parts (nat_le 97 c) (nat_le c 102) r.0).1)
          | inr r ↦ absurd (none-some v r.1)
        ]
      ]
    ]

hex_ascii : (high : ℕ) (digits : List ℕ) (k : ℕ) → hex_number high digits ≡ Some k → All (λ c. c < 128) digits
hex_ascii high [] k e = All-nil (λ c. c < 128)
hex_ascii high (d ∷ ds) k e =
    let r = and_then-Some (λ (value : ℕ). hex_number (16 * high + value) ds) (hex_value d) k e in
    All-cons (λ c. c < 128) d ds (hex_value-small d r.0 r.1) (hex_ascii (16 * high + r.0) ds k r.2)

-- a text may be cut behind such digits
pub number_cut : (text bytes digits : List ℕ) (size k : ℕ) → bytes ≡ text → IsUtf8 bytes → digits ≡ take size bytes → size ≤ length text → Some k ≡ hex_number 0 digits → IsCharBoundary text size
number_cut text bytes digits size k same u front fits number =
    go size fits (subst IsUtf8 same u) (hex_ascii 0 (take size text) k (ap (hex_number 0) (ap (take size) (sym same) ∙ sym front) ∙ sym number))
  where
    taken : (n : ℕ) (cs : List ℕ) → suc n ≤ length cs → n < length (take (suc n) cs)
    taken n [] l = absurd (omega arith)
    taken zero (c ∷ cs) l = zero-lt-suc (length (take 0 cs))
    taken (suc n) (c ∷ cs) l = let h = taken n cs (omega arith) in omega arith

    go : (n : ℕ) → n ≤ length text → IsUtf8 text → All (λ c. c < 128) (take n text) → IsCharBoundary text n
    go zero l v a = IsCharBoundary-start text v
    go (suc n) l v a =
        let small : get_or (take (suc n) text) n 0 < 128 = All-get_or (λ c. c < 128) (take (suc n) text) n 0 (taken n text l) a in
        let there : get_or (take (suc n) text) n 0 ≡ get_or text n 0 = get_or-take (suc n) text n 0 (omega arith) in
        subst (IsCharBoundary text) (add-one n) (IsCharBoundary-after_ascii text n v (omega arith) (omega (arith, small, there)))

-- ---- a letter

-- a text may be cut behind a byte of ASCII
pub letter_cut : (text bytes : List ℕ) (c : ℕ) → bytes ≡ text → IsUtf8 bytes → Some c ≡ slice_get bytes 0 → c < 128 → IsCharBoundary text 1
letter_cut text bytes c same u first small =
    subst (λ (t : List ℕ). IsCharBoundary t 1) same
    (IsCharBoundary-after_ascii bytes 0 u (slice_get_within bytes 0 c (sym first)) (let there = get_or_from_slice_get bytes 0 c 0 (sym first) in omega (arith, there, small)))

-- ---- escapes

fused : (n : ℕ) (c : ℕ) (text : List ℕ) (o : Option ℕ) → option_map (behind n text) o ≡ option_map (behind_escape (c ∷ text)) (with_size (suc n) o)
fused n c text None = refl
fused n c text (Some k) = refl

-- `\u` and four digits
pub short_escape : (quoted : Bool) (text digits : List ℕ) (r : Option (ℕ × Bor (List ℕ))) → Some digits ≡ past 117 text → option_map seen_character r ≡ option_map (behind 4 digits) (numbered 4 digits) → option_map seen_character r ≡ option_map (behind_escape text) (escape_in quoted text)
short_escape quoted text digits r e h =
    rw (past-gives 117 text digits (sym e)) (h ∙ fused 4 117 digits (numbered 4 digits))

-- `\U` and eight
pub long_escape : (quoted : Bool) (text digits : List ℕ) (r : Option (ℕ × Bor (List ℕ))) → Some digits ≡ past 85 text → option_map seen_character r ≡ option_map (behind 8 digits) (numbered 8 digits) → option_map seen_character r ≡ option_map (behind_escape text) (escape_in quoted text)
long_escape quoted text digits r e h =
    rw (past-gives 85 text digits (sym e)) (h ∙ fused 8 85 digits (numbered 8 digits))

-- ---- the first character that is meant

-- nothing is the image of nothing
pub nothing_read : {X Y : Type 0} (f : X → Y) (o : Option X) → None ≡ option_map f o → o ≡ None
nothing_read f None e = refl
nothing_read f (Some x) e = absurd (none-some (f x) e)

-- something is the image of something
pub something_read : {X Y : Type 0} (f : X → Y) (o : Option X) (y : Y) → Some y ≡ option_map f o → (x : X) × (o ≡ Some x) × (y ≡ f x)
something_read f None y e = absurd (none-some y (sym e))
something_read f (Some x) y e = (x, refl, same_Some y (f x) e)

slash_some : (quoted : Bool) (rest : List ℕ) (k : ℕ) (after : List ℕ) (x : ℕ × ℕ) → escape_in quoted rest ≡ Some x → k ≡ x.0 → after ≡ drop x.1 rest → meant quoted (92 ∷ rest) ≡ option_map (λ (t : List ℕ). encode_utf8 k ++ t) (meant quoted after)
slash_some quoted rest k after x e c a = rw (c, a) (escaped_front quoted rest x e)

-- what `chars` gives first
pub first_of_chars : (text a b rest : List ℕ) (c k : ℕ) → a ≡ text → a ≡ encode_utf8 c ++ b → rest ≡ b → c ≡ k → text ≡ encode_utf8 k ++ rest
first_of_chars text a b rest c k e s r z = sym e ∙ s ∙ ap (λ (n : ℕ). encode_utf8 n ++ b) z ∙ ap (λ (t : List ℕ). encode_utf8 k ++ t) (sym r)

slash_text : (text rest : List ℕ) → text ≡ encode_utf8 92 ++ rest → text ≡ 92 ∷ rest
slash_text text rest is = is ∙ ap (λ (t : List ℕ). t ++ rest) (encode-narrow 92 refl)

-- a backslash in front
pub slash_first : (quoted : Bool) (text rest : List ℕ) (r : Option (ℕ × Bor (List ℕ))) → text ≡ encode_utf8 92 ++ rest → option_map seen_character r ≡ option_map (behind_escape rest) (escape_in quoted rest) → MeansFirst quoted text r
slash_first quoted text rest None is h =
    let none = nothing_read (behind_escape rest) (escape_in quoted rest) h in
    ap (meant quoted) (slash_text text rest is) ∙ rw none refl
slash_first quoted text rest (Some p) is h =
    let s = something_read (behind_escape rest) (escape_in quoted rest) (seen_character p) h in
    ap (meant quoted) (slash_text text rest is)
    ∙ slash_some quoted rest p.0 p.1.now s.0 s.1 (ap (λ (z : ℕ × List ℕ). z.0) s.2) (ap (λ (z : ℕ × List ℕ). z.1) s.2)

-- and what follows is shorter
pub slash_shorter : (quoted : Bool) (text rest : List ℕ) (r : Option (ℕ × Bor (List ℕ))) → text ≡ encode_utf8 92 ++ rest → option_map seen_character r ≡ option_map (behind_escape rest) (escape_in quoted rest) → IfSome r (λ p. length p.1.now < length text)
slash_shorter quoted text rest None is h = tt
slash_shorter quoted text rest (Some p) is h =
    let s = something_read (behind_escape rest) (escape_in quoted rest) (seen_character p) h in
    let after : p.1.now ≡ drop s.0.1 rest = ap (λ (z : ℕ × List ℕ). z.1) s.2 in
    let sizes : length p.1.now ≡ length rest - s.0.1 = ap length after ∙ length-drop s.0.1 rest in
    let whole : length text ≡ length (92 ∷ rest) = ap length (is ∙ ap (λ (t : List ℕ). t ++ rest) (encode-narrow 92 refl)) in
    omega (arith, sizes, whole)

same_option : (o : Option (List ℕ)) → o ≡ option_map (λ (t : List ℕ). [] ++ t) o
same_option None = refl
same_option (Some t) = refl

one_more_byte : (c : ℕ) (cs : List ℕ) (o : Option (List ℕ)) → option_map (λ (t : List ℕ). c ∷ t) (option_map (λ (t : List ℕ). cs ++ t) o) ≡ option_map (λ (t : List ℕ). (c ∷ cs) ++ t) o
one_more_byte c cs None = refl
one_more_byte c cs (Some t) = refl

wide_front : (quoted : Bool) (cs r : List ℕ) → AllByRecursion (λ c. 128 ≤ c) cs → meant quoted (cs ++ r) ≡ option_map (λ (t : List ℕ). cs ++ t) (meant quoted r)
wide_front quoted [] r a = same_option (meant quoted r)
wide_front quoted (c ∷ cs) r a =
    let past_ascii : 128 ≤ c = a.0 in
    raw_front quoted c (cs ++ r) (omega arith) (omega arith)
    ∙ ap (option_map (λ (t : List ℕ). c ∷ t)) (wide_front quoted cs r a.1)
    ∙ one_more_byte c cs (meant quoted r)

-- another character in front stands for itself
pub other_first : (quoted : Bool) (c : ℕ) (text rest : List ℕ) → c ≢ 92 → c ≢ 34 → text ≡ encode_utf8 c ++ rest → meant quoted text ≡ option_map (λ t. encode_utf8 c ++ t) (meant quoted rest)
other_first quoted c text rest b q is = rw is (go (ltb c 128) refl)
  where
    go : (t : Bool) → ltb c 128 ≡ t → meant quoted (encode c ++ rest) ≡ option_map (λ (t : List ℕ). encode c ++ t) (meant quoted rest)
    go true e = rw (encode-narrow c e) (raw_front quoted c rest q b)
    go false e = wide_front quoted (encode c) rest (encode-wide c e)
