-- Code units one after another, how they compare, and the characters that they spell.
use Rattle.std.proofs.Common.{◌≡◌, ◌≢◌, ℕ, suc, ◌+◌, ◌-◌, ◌*◌, ◌/◌, ◌%◌, ◌<◌, ◌≤◌, List, [], ◌∷◌, ◌++◌, map, length, get_or, Option, Some, None, Bool, true, false, cond, Ordering, Less, Equal, Greater, refl, sym, ap, ap₂, ◌∙◌, subst, inl, inr, ⊎_elim, arith, flat_map, chars, encode_utf8, ltb, lt-ltb, ne_eqb, IsUtf8, IsAscii}
use Rattle.std.specs.Char.Escape.{encode_utf16}
use Rattle.std.specs.Char.Utf16.{utf16_chars}
use Rattle.std.specs.Cmp.Lexicographic.{slice_cmp}
use Rattle.std.specs.Ordering.{nat_cmp, ordering_then}
use Rattle.std.specs.List.{AllByRecursion}
use Rattle.std.specs.Prelude.{nat_lt, All}
use Rattle.std.specs.Str.{is_utf8}
use Rattle.std.specs.Str.Iter.{encode_utf16_rest, encode_utf16_pending, encode_utf16_steps}
use Rattle.std.specs.declared.str.EncodeUtf16.{EncodeUtf16}
use Rattle.std.proofs.lemmas.Bool.{and_parts}
use Rattle.std.proofs.lemmas.Bool.Decides.{nat_tests}
use Rattle.std.proofs.lemmas.Cmp.{tied_itself, nat_cmp_total}
use Rattle.std.proofs.lemmas.List.Elements.{All-from_recursion}
use Rattle.std.proofs.lemmas.Str.{chars-nil, chars_past_char, IsUtf8-past_char, IsUtf8-from_is_utf8, is_utf8-from_IsUtf8, scalars-chars, encodes-chars, chars-IsAscii, utf16_chars-nil, utf16_chars_lone, utf16_chars_pair}
use Rattle.std.proofs.str.Utf16.{IsPair, lone_unit_char_low, lone_unit_char_high}
use lib.Utf8.{scalar, scalars, scalar_cases, encodes}
use Rattle.base_types.specs.Order.{is_upto}
use Rattle.jcs_text.specs.Canonical.{code_units, is_upto_by_units}

-- ---- the units that an iterator has left

-- what is left of a text whose second unit of a pair may be pending
abbrev pub units_left : EncodeUtf16 → List ℕ
units_left s = encode_utf16_pending s ++ code_units (encode_utf16_rest s)

-- at a text's beginning all its units are left
pub units-begin : (s : EncodeUtf16) (text : List ℕ) → encode_utf16_rest s ≡ text → encode_utf16_pending s ≡ [] → units_left s ≡ code_units text
units-begin s text rest none = ap₂ (λ us bs. us ++ code_units bs) none rest

no_units : (pending rest : List ℕ) → pending ≡ [] → length rest ≡ 0 → pending ++ code_units rest ≡ []
no_units pending [] none empty = ap (λ us. us ++ code_units []) none ∙ ap (flat_map encode_utf16) chars-nil
no_units pending (b ∷ bs) none empty = absurd (omega arith)

second_unit : (pending rest pending' rest' : List ℕ) (x : ℕ) → pending ≡ x ∷ [] → pending' ≡ [] → rest' ≡ rest → pending ++ code_units rest ≡ x ∷ (pending' ++ code_units rest')
second_unit pending rest pending' rest' x one none same =
    ap (λ us. us ++ code_units rest) one ∙ ap (λ bs. x ∷ code_units bs) (sym same) ∙ ap (λ us. x ∷ (us ++ code_units rest')) (sym none)

first_unit : (pending rest pending' rest' : List ℕ) (c x : ℕ) → is_utf8 rest ≡ true → pending ≡ [] → rest ≡ encode_utf8 c ++ rest' → encode_utf16 c ≡ x ∷ pending' → pending ++ code_units rest ≡ x ∷ (pending' ++ code_units rest')
first_unit pending rest pending' rest' c x utf8 none is units =
    ap (λ us. us ++ code_units rest) none
    ∙ ap (flat_map encode_utf16) (chars_past_char rest rest' c (IsUtf8-from_is_utf8 rest utf8) is)
    ∙ ap (λ us. us ++ flat_map encode_utf16 (chars rest')) units

-- what one more unit leaves
pub record UnitTaken (s : EncodeUtf16) (x : ℕ) (t : EncodeUtf16) : Type 0 where
  pub units : units_left s ≡ x ∷ units_left t
  pub utf8 : is_utf8 (encode_utf16_rest t) ≡ true

-- a step that gives a unit takes it from what is left
pub unit-taken : (s t : EncodeUtf16) (x : ℕ) → is_utf8 (encode_utf16_rest s) ≡ true → encode_utf16_steps s (Some x) t → UnitTaken s x t
unit-taken s t x utf8 (inl (one, none, same)) = record {
  units = second_unit (encode_utf16_pending s) (encode_utf16_rest s) (encode_utf16_pending t) (encode_utf16_rest t) x one none same;
  utf8 = ap is_utf8 same ∙ utf8;
}
unit-taken s t x utf8 (inr (none, (c, is, units))) = record {
  units = first_unit (encode_utf16_pending s) (encode_utf16_rest s) (encode_utf16_pending t) (encode_utf16_rest t) c x utf8 none is units;
  utf8 = is_utf8-from_IsUtf8 (encode_utf16_rest t) (IsUtf8-past_char (encode_utf16_rest s) (encode_utf16_rest t) c (IsUtf8-from_is_utf8 (encode_utf16_rest s) utf8) is);
}

-- and one that gives none has none left
pub units-none : (s t : EncodeUtf16) → encode_utf16_steps s None t → units_left s ≡ []
units-none s t (none, empty, same) = no_units (encode_utf16_pending s) (encode_utf16_rest s) none empty

-- ---- how two texts compare, unit by unit

cmp_same : (x y : ℕ) (xs ys : List ℕ) → x ≡ y → slice_cmp nat_cmp (x ∷ xs) (y ∷ ys) ≡ slice_cmp nat_cmp xs ys
cmp_same x y xs ys e = ap (λ n. ordering_then (nat_cmp n y) (slice_cmp nat_cmp xs ys)) e ∙ ap (λ o. ordering_then o (slice_cmp nat_cmp xs ys)) (tied_itself nat_cmp_total y)

cmp_other : (x y : ℕ) (o : Ordering) → x ≢ y → ordering_then (nat_cmp x y) o ≡ nat_cmp x y
cmp_other x y o differ =
    let apart : nat_cmp x y ≡ cond (nat_lt x y) Less Greater = ap (λ t. cond (nat_lt x y) Less (cond t Equal Greater)) (ne_eqb x y differ) in
    ap (λ c. ordering_then c o) apart ∙ elim (nat_lt x y) as (λ t. ordering_then (cond t Less Greater) o ≡ cond t Less Greater) [ true ↦ refl | false ↦ refl ] ∙ sym apart

-- one turn at equal units: what is left compares as before
pub units-same : (s t s' t' : EncodeUtf16) (p q : Option ℕ) (x y : ℕ) (whole : Ordering) → slice_cmp nat_cmp (units_left s) (units_left s') ≡ whole → is_utf8 (encode_utf16_rest s) ≡ true → is_utf8 (encode_utf16_rest s') ≡ true → p ≡ Some x → encode_utf16_steps s p t → q ≡ Some y → encode_utf16_steps s' q t' → x ≡ y → slice_cmp nat_cmp (units_left t) (units_left t') ≡ whole
units-same s t s' t' p q x y whole so utf8 utf8' is steps is' steps' same =
    let one = unit-taken s t x utf8 (subst (λ r. encode_utf16_steps s r t) is steps) in
    let other = unit-taken s' t' y utf8' (subst (λ r. encode_utf16_steps s' r t') is' steps') in
    sym (cmp_same x y (units_left t) (units_left t') same) ∙ ap₂ (slice_cmp nat_cmp) (sym one.units) (sym other.units) ∙ so

-- what is left of a text is text
pub units-utf8 : (s t : EncodeUtf16) (p : Option ℕ) (x : ℕ) → is_utf8 (encode_utf16_rest s) ≡ true → p ≡ Some x → encode_utf16_steps s p t → is_utf8 (encode_utf16_rest t) ≡ true
units-utf8 s t p x utf8 is steps = let one = unit-taken s t x utf8 (subst (λ r. encode_utf16_steps s r t) is steps) in one.utf8

-- units that differ decide
pub units-differ : (s t s' t' : EncodeUtf16) (p q : Option ℕ) (x y : ℕ) (whole : Ordering) → slice_cmp nat_cmp (units_left s) (units_left s') ≡ whole → is_utf8 (encode_utf16_rest s) ≡ true → is_utf8 (encode_utf16_rest s') ≡ true → p ≡ Some x → encode_utf16_steps s p t → q ≡ Some y → encode_utf16_steps s' q t' → x ≢ y → nat_cmp x y ≡ whole
units-differ s t s' t' p q x y whole so utf8 utf8' is steps is' steps' differ =
    let one = unit-taken s t x utf8 (subst (λ r. encode_utf16_steps s r t) is steps) in
    let other = unit-taken s' t' y utf8' (subst (λ r. encode_utf16_steps s' r t') is' steps') in
    sym (cmp_other x y (slice_cmp nat_cmp (units_left t) (units_left t')) differ) ∙ ap₂ (slice_cmp nat_cmp) (sym one.units) (sym other.units) ∙ so

-- a text that goes on is greater than one that ended
pub units-longer : (s t s' t' : EncodeUtf16) (p q : Option ℕ) (x : ℕ) (whole : Ordering) → slice_cmp nat_cmp (units_left s) (units_left s') ≡ whole → is_utf8 (encode_utf16_rest s) ≡ true → p ≡ Some x → encode_utf16_steps s p t → q ≡ None → encode_utf16_steps s' q t' → Greater ≡ whole
units-longer s t s' t' p q x whole so utf8 is steps is' steps' =
    let one = unit-taken s t x utf8 (subst (λ r. encode_utf16_steps s r t) is steps) in
    let none = units-none s' t' (subst (λ r. encode_utf16_steps s' r t') is' steps') in
    ap₂ (slice_cmp nat_cmp) (sym one.units) (sym none) ∙ so

-- one that ended is less than one that goes on
pub units-shorter : (s t s' t' : EncodeUtf16) (p q : Option ℕ) (y : ℕ) (whole : Ordering) → slice_cmp nat_cmp (units_left s) (units_left s') ≡ whole → is_utf8 (encode_utf16_rest s') ≡ true → p ≡ None → encode_utf16_steps s p t → q ≡ Some y → encode_utf16_steps s' q t' → Less ≡ whole
units-shorter s t s' t' p q y whole so utf8' is steps is' steps' =
    let none = units-none s t (subst (λ r. encode_utf16_steps s r t) is steps) in
    let other = unit-taken s' t' y utf8' (subst (λ r. encode_utf16_steps s' r t') is' steps') in
    ap₂ (slice_cmp nat_cmp) (sym none) (sym other.units) ∙ so

-- and two that ended at once are equal
pub units-ended : (s t s' t' : EncodeUtf16) (p q : Option ℕ) (whole : Ordering) → slice_cmp nat_cmp (units_left s) (units_left s') ≡ whole → p ≡ None → encode_utf16_steps s p t → q ≡ None → encode_utf16_steps s' q t' → Equal ≡ whole
units-ended s t s' t' p q whole so is steps is' steps' =
    let none = units-none s t (subst (λ r. encode_utf16_steps s r t) is steps) in
    let none' = units-none s' t' (subst (λ r. encode_utf16_steps s' r t') is' steps') in
    ap₂ (slice_cmp nat_cmp) (sym none) (sym none') ∙ so

pub ruleset unit_steps = (units-begin, units-same, units-utf8, units-differ, units-longer, units-shorter, units-ended)

-- ---- the characters that the units spell

one_unit : (c : ℕ) (us : List ℕ) → scalar c ≡ true → c < 65536 → utf16_chars (c ∷ us) ≡ Some c ∷ utf16_chars us
one_unit c us value narrow = ⊎_elim low high (scalar_cases c value)
  where
    low : c < 55296 → utf16_chars (c ∷ us) ≡ Some c ∷ utf16_chars us
    low below = utf16_chars_lone c us (λ (pair : IsPair c (get_or us 0 0)). omega (arith, pair.0)) ∙ ap (λ o. o ∷ utf16_chars us) (lone_unit_char_low c below)

    high : (57344 ≤ c) × (c < 1114112) → utf16_chars (c ∷ us) ≡ Some c ∷ utf16_chars us
    high range = utf16_chars_lone c us (λ (pair : IsPair c (get_or us 0 0)). omega (arith, pair.1, range.0)) ∙ ap (λ o. o ∷ utf16_chars us) (lone_unit_char_high c range.0)

two_units : (c : ℕ) (us : List ℕ) → 65536 ≤ c → c < 1114112 → utf16_chars ((55296 + (c - 65536) / 1024) ∷ ((56320 + (c - 65536) % 1024) ∷ us)) ≡ Some c ∷ utf16_chars us
two_units c us wide below =
    let pair : IsPair (55296 + (c - 65536) / 1024) (56320 + (c - 65536) % 1024) = (omega arith, omega arith, omega arith, omega arith) in
    let back : 65536 + (55296 + (c - 65536) / 1024 - 55296) * 1024 + (56320 + (c - 65536) % 1024 - 56320) ≡ c = omega arith in
    utf16_chars_pair (55296 + (c - 65536) / 1024) (56320 + (c - 65536) % 1024) us pair ∙ ap (λ d. Some d ∷ utf16_chars us) back

one_character : (c : ℕ) (us : List ℕ) → scalar c ≡ true → utf16_chars (encode_utf16 c ++ us) ≡ Some c ∷ utf16_chars us
one_character c us value = go (ltb c 65536) refl
  where
    go : (t : Bool) → ltb c 65536 ≡ t → utf16_chars (encode_utf16 c ++ us) ≡ Some c ∷ utf16_chars us
    go true e = ap (λ t. utf16_chars (cond t (c ∷ []) ((55296 + (c - 65536) / 1024) ∷ (56320 + (c - 65536) % 1024) ∷ []) ++ us)) e ∙ one_unit c us value (grind (arith, nat_tests))
    go false e =
        let wide : 65536 ≤ c = grind (arith, nat_tests) in
        let below : c < 1114112 = ⊎_elim (λ (l : c < 55296). omega arith) (λ (r : (57344 ≤ c) × (c < 1114112)). r.1) (scalar_cases c value) in
        ap (λ t. utf16_chars (cond t (c ∷ []) ((55296 + (c - 65536) / 1024) ∷ (56320 + (c - 65536) % 1024) ∷ []) ++ us)) e ∙ two_units c us wide below

-- the units of scalar values are read as these
pub units-characters : (cs : List ℕ) → scalars cs ≡ true → utf16_chars (flat_map encode_utf16 cs) ≡ map Some cs
units-characters [] all = utf16_chars-nil
units-characters (c ∷ cs) all =
    let both = and_parts (scalar c) (scalars cs) all in
    one_character c (flat_map encode_utf16 cs) both.0 ∙ ap (λ os. Some c ∷ os) (units-characters cs both.1)

-- and so are those of a text
pub code_units-characters : (text : List ℕ) → IsUtf8 text → utf16_chars (code_units text) ≡ map Some (chars text)
code_units-characters text utf8 = units-characters (chars text) (scalars-chars text utf8)

all_joined : {X : Type 0} (P : X → Type 0) (xs ys : List X) → AllByRecursion P xs → AllByRecursion P ys → AllByRecursion P (xs ++ ys)
all_joined P [] ys first second = second
all_joined P (x ∷ xs) ys first second = (first.0, all_joined P xs ys first.1 second)

below_one : (c : ℕ) → scalar c ≡ true → AllByRecursion (λ u. u < 65536) (encode_utf16 c)
below_one c value = go (ltb c 65536) refl
  where
    go : (t : Bool) → ltb c 65536 ≡ t → AllByRecursion (λ u. u < 65536) (cond t (c ∷ []) ((55296 + (c - 65536) / 1024) ∷ (56320 + (c - 65536) % 1024) ∷ []))
    go true e = (grind (arith, nat_tests), tt)
    go false e =
        let below : c < 1114112 = ⊎_elim (λ (l : c < 55296). omega arith) (λ (r : (57344 ≤ c) × (c < 1114112)). r.1) (scalar_cases c value) in
        (omega arith, (omega arith, tt))

below_all : (cs : List ℕ) → scalars cs ≡ true → AllByRecursion (λ u. u < 65536) (flat_map encode_utf16 cs)
below_all [] all = tt
below_all (c ∷ cs) all =
    let both = and_parts (scalar c) (scalars cs) all in
    all_joined (λ u. u < 65536) (encode_utf16 c) (flat_map encode_utf16 cs) (below_one c both.0) (below_all cs both.1)

-- the code units of a text have 16 bits
pub code_units-below : (text : List ℕ) → IsUtf8 text → All (λ u. u < 65536) (code_units text)
code_units-below text utf8 = All-from_recursion (λ u. u < 65536) (code_units text) (below_all (chars text) (scalars-chars text utf8))

map_Some-same : {X : Type 0} (xs ys : List X) → map (λ x. Some x) xs ≡ map (λ x. Some x) ys → xs ≡ ys
map_Some-same [] [] e = refl
map_Some-same [] (y ∷ ys) e = absurd (cc)
map_Some-same (x ∷ xs) [] e = absurd (cc)
map_Some-same (x ∷ xs) (y ∷ ys) e =
    let tails : map (λ x. Some x) xs ≡ map (λ x. Some x) ys = cc in
    let rest : xs ≡ ys = map_Some-same xs ys tails in
    let first : x ≡ y = cc in
    ap₂ (λ z zs. z ∷ zs) first rest

-- texts of the same code units are one text
pub code_units-one : (x y : List ℕ) → IsUtf8 x → IsUtf8 y → code_units x ≡ code_units y → x ≡ y
code_units-one x y first second same =
    let units : map Some (chars x) ≡ map Some (chars y) = sym (code_units-characters x first) ∙ ap utf16_chars same ∙ code_units-characters y second in
    let characters : chars x ≡ chars y = map_Some-same (chars x) (chars y) units in
    sym (encodes-chars x first) ∙ ap encodes characters ∙ encodes-chars y second

-- ---- ASCII

ascii_units : (bs : List ℕ) → IsAscii bs → flat_map encode_utf16 bs ≡ bs
ascii_units [] all = refl
ascii_units (b ∷ bs) all =
    let small : b < 65536 = omega (arith, all 0) in
    ap (λ t. cond t (b ∷ []) ((55296 + (b - 65536) / 1024) ∷ (56320 + (b - 65536) % 1024) ∷ []) ++ flat_map encode_utf16 bs) (lt-ltb b 65536 small)
    ∙ ap (λ us. b ∷ us) (ascii_units bs (λ i. all (suc i)))

-- the code units of ASCII are its bytes
pub code_units-ascii : (bs : List ℕ) → IsAscii bs → code_units bs ≡ bs
code_units-ascii bs all = ap (flat_map encode_utf16) (chars-IsAscii bs all) ∙ ascii_units bs all

-- so names of ASCII compare by their bytes
pub names-ascii : (x y : List ℕ) → IsAscii x → IsAscii y → is_upto_by_units x y ≡ is_upto x y
names-ascii x y first second = ap₂ is_upto (code_units-ascii x first) (code_units-ascii y second)
