-- The lines of a key file: how long they are, how a text is cut into them, and that a text is one file at most.
use Rattle.std.proofs.Common.{◌≡◌, ◌≢◌, ℕ, ◌<◌, ◌≤◌, List, [], ◌∷◌, ◌++◌, length, take, drop, Option, Some, None, IsNone, inl, inr, refl, sym, ap, subst, ◌∙◌, arith, length-append}
use Rattle.std.specs.Prelude.{IfSome}
use Rattle.std.proofs.lemmas.List.{drop_at, take_at, take-append-drop}
use Rattle.vc_cli.specs.declared.key_files.KeyFile.{KeyFile}
use Rattle.vc_session.specs.HexDigits.{AreDigits}
use Rattle.vc_cli.specs.KeyFiles.{AreKeyLines, IsKeyFile, IsLastLine, IsLine}
use Rattle.vc_session.proofs.DigitReadings.{digits_once, length-digits}

-- ---- one line

-- a line with LF has 65 bytes
pub length-line : (text bytes : List ℕ) → IsLine text bytes → length text ≡ 65
length-line text bytes l =
    omega (arith, ap (λ (t : List ℕ). length t) l.2, length-append l.0 (10 ∷ []), length-digits 32 l.0 bytes l.1)

-- lists that end in one element each are equal where they are before it, and in it
ends_same : (xs ys : List ℕ) (x y : ℕ) → xs ++ x ∷ [] ≡ ys ++ y ∷ [] → (xs ≡ ys) × (x ≡ y)
ends_same xs ys x y e =
    let long : length xs ≡ length ys = omega (arith, ap (λ (t : List ℕ). length t) e, length-append xs (x ∷ []), length-append ys (y ∷ [])) in
    let front : xs ≡ ys = sym (take_at xs (x ∷ []) (length xs) refl) ∙ ap (take (length xs)) e ∙ take_at ys (y ∷ []) (length xs) (sym long) in
    let back : x ∷ [] ≡ y ∷ [] = sym (drop_at xs (x ∷ []) (length xs) refl) ∙ ap (drop (length xs)) e ∙ drop_at ys (y ∷ []) (length xs) (sym long) in
    (front, cc)

-- what stands before the last byte of a line are its digits, and that byte is LF
line_at : (text digits bytes : List ℕ) (end : ℕ) → text ≡ digits ++ end ∷ [] → IsLine text bytes → (end ≡ 10) × AreDigits 32 digits bytes
line_at text digits bytes end is l =
    let same = ends_same digits l.0 end 10 (sym is ∙ l.2) in
    (same.1, subst (λ (d : List ℕ). AreDigits 32 d bytes) (sym same.0) l.1)

-- so a line is of one list of bytes
line_once : (text bytes others : List ℕ) → IsLine text bytes → IsLine text others → bytes ≡ others
line_once text bytes others l m = digits_once 32 l.0 bytes others l.1 (line_at text l.0 others 10 l.2 m).1

-- no bytes are no line
pub not_empty : (text : List ℕ) → length text ≡ 0 → (bytes : List ℕ) → IsLine text bytes → ⊥
not_empty text none = λ bytes l. omega (arith, none, length-line text bytes l)

-- nor are bytes of which the last is not LF
pub not_ended : (text digits : List ℕ) (end : ℕ) → text ≡ digits ++ end ∷ [] → end ≢ 10 → (bytes : List ℕ) → IsLine text bytes → ⊥
not_ended text digits end is other = λ bytes l. other (line_at text digits bytes end is l).0

-- what the bytes before LF give as digits, the line gives
pub line_gives : (text digits : List ℕ) (end : ℕ) (r : Option (List ℕ)) → text ≡ digits ++ end ∷ [] → end ≡ 10
    → IfSome r (λ bytes. AreDigits 32 digits bytes) → IfSome r (λ bytes. IsLine text bytes)
line_gives text digits end None is ends found = tt
line_gives text digits end (Some bytes) is ends found = (digits, found, is ∙ ap (λ (b : ℕ). digits ++ b ∷ []) ends)

-- and where they give nothing, it gives nothing
pub line_none : (text digits : List ℕ) (end : ℕ) → text ≡ digits ++ end ∷ [] → ((bytes : List ℕ) → AreDigits 32 digits bytes → ⊥) → (bytes : List ℕ) → IsLine text bytes → ⊥
line_none text digits end is none = λ bytes l. none bytes (line_at text digits bytes end is l).1

-- a last line has 64 bytes or 65
pub length-last_line : (text bytes : List ℕ) → IsLastLine text bytes → length text ≤ 65
length-last_line text bytes (inl l) = omega (arith, length-line text bytes l)
length-last_line text bytes (inr d) = omega (arith, length-digits 32 text bytes d)

-- one of 64 bytes is digits alone
pub last_line_short : (text bytes : List ℕ) → IsLastLine text bytes → length text ≡ 64 → AreDigits 32 text bytes
last_line_short text bytes (inl l) short = absurd (omega (arith, length-line text bytes l))
last_line_short text bytes (inr d) short = d

-- any other ends with LF
pub last_line_long : (text bytes : List ℕ) → IsLastLine text bytes → (length text ≡ 64 → ⊥) → IsLine text bytes
last_line_long text bytes (inl l) long = l
last_line_long text bytes (inr d) long = absurd (long (length-digits 32 text bytes d))

-- so a last line is of one list of bytes
last_once : (text bytes others : List ℕ) → IsLastLine text bytes → IsLastLine text others → bytes ≡ others
last_once text bytes others (inl l) (inl m) = line_once text bytes others l m
last_once text bytes others (inl l) (inr d) = absurd (omega (arith, length-line text bytes l, length-digits 32 text others d))
last_once text bytes others (inr d) (inl m) = absurd (omega (arith, length-digits 32 text bytes d, length-line text others m))
last_once text bytes others (inr d) (inr e) = digits_once 32 text bytes others d e

-- what 64 bytes give as digits, they give as a last line
pub short_gives : (text : List ℕ) (r : Option (List ℕ)) → IfSome r (λ bytes. AreDigits 32 text bytes) → IfSome r (λ bytes. IsLastLine text bytes)
short_gives text None found = tt
short_gives text (Some bytes) found = inr found

-- and where they give nothing as digits, they are no last line
pub short_none : (text : List ℕ) → length text ≡ 64 → ((bytes : List ℕ) → AreDigits 32 text bytes → ⊥) → (bytes : List ℕ) → IsLastLine text bytes → ⊥
short_none text short none = λ bytes l. none bytes (last_line_short text bytes l short)

-- what other bytes give as a line, they give as a last line
pub long_gives : (text : List ℕ) (r : Option (List ℕ)) → IfSome r (λ bytes. IsLine text bytes) → IfSome r (λ bytes. IsLastLine text bytes)
long_gives text None found = tt
long_gives text (Some bytes) found = inl found

-- and where they are no line, they are no last line
pub long_none : (text : List ℕ) → length text ≢ 64 → ((bytes : List ℕ) → IsLine text bytes → ⊥) → (bytes : List ℕ) → IsLastLine text bytes → ⊥
long_none text long none = λ bytes l. none bytes (last_line_long text bytes l long)

-- ---- the file

-- two lines are longer than one
pub length-two : (text root seed : List ℕ) → AreKeyLines text root (Some seed) → 65 < length text
length-two text root seed (first, second, f, s, is) =
    omega (arith, ap (λ (t : List ℕ). length t) is, length-append first second, length-line first root f, not_empty second seed s)
  where
    not_empty : (second seed : List ℕ) → IsLastLine second seed → 64 ≤ length second
    not_empty second seed (inl l) = omega (arith, length-line second seed l)
    not_empty second seed (inr d) = omega (arith, length-digits 32 second seed d)

-- the first of two lines are the first 65 bytes, and the second is what follows
pub two_cut : (text root seed : List ℕ) → AreKeyLines text root (Some seed) → IsLine (take 65 text) root × IsLastLine (drop 65 text) seed
two_cut text root seed (first, second, f, s, is) =
    let long = length-line first root f in
    let front : take 65 text ≡ first = ap (take 65) is ∙ take_at first second 65 long in
    let back : drop 65 text ≡ second = ap (drop 65) is ∙ drop_at first second 65 long in
    (subst (λ (t : List ℕ). IsLine t root) (sym front) f, subst (λ (t : List ℕ). IsLastLine t seed) (sym back) s)

-- lines that follow one another are the file
pub two_found : (text first second root seed : List ℕ) → first ≡ take 65 text → second ≡ drop 65 text → IsLine first root → IsLastLine second seed
    → AreKeyLines text root (Some seed)
two_found text first second root seed f s l m =
    (first, second, l, m, sym (take-append-drop 65 text) ∙ ap (λ (t : List ℕ). t ++ drop 65 text) (sym f) ∙ ap (λ (t : List ℕ). first ++ t) (sym s))

-- 65 bytes are no two lines
pub not_two : (text : List ℕ) → length text ≤ 65 → (root seed : List ℕ) → AreKeyLines text root (Some seed) → ⊥
not_two text few = λ root seed l. omega (arith, few, length-two text root seed l)

-- nor are bytes of which the first 65 are no line
pub no_first : (text first : List ℕ) → first ≡ take 65 text → ((bytes : List ℕ) → IsLine first bytes → ⊥) → (root seed : List ℕ) → AreKeyLines text root (Some seed) → ⊥
no_first text first is none = λ root seed l. none root (subst (λ (t : List ℕ). IsLine t root) (sym is) (two_cut text root seed l).0)

-- or of which the others are no last line
pub no_second : (text second : List ℕ) → second ≡ drop 65 text → ((bytes : List ℕ) → IsLastLine second bytes → ⊥) → (root seed : List ℕ) → AreKeyLines text root (Some seed) → ⊥
no_second text second is none = λ root seed l. none seed (subst (λ (t : List ℕ). IsLastLine t seed) (sym is) (two_cut text root seed l).1)

-- ---- one file

lines_once : (text root other_root : List ℕ) (seed other_seed : Option (List ℕ)) → AreKeyLines text root seed → AreKeyLines text other_root other_seed
    → (root ≡ other_root) × (seed ≡ other_seed)
lines_once text root other_root None None l m = (last_once text root other_root l m, refl)
lines_once text root other_root None (Some seed) l m = absurd (omega (arith, length-last_line text root l, length-two text other_root seed m))
lines_once text root other_root (Some seed) None l m = absurd (omega (arith, length-two text root seed l, length-last_line text other_root m))
lines_once text root other_root (Some seed) (Some other_seed) l m =
    let one = two_cut text root seed l in
    let two = two_cut text other_root other_seed m in
    (line_once (take 65 text) root other_root one.0 two.0, ap (λ (s : List ℕ). Some s) (last_once (drop 65 text) seed other_seed one.1 two.1))

-- a text is one key file at most
pub file_once : (text : List ℕ) (file : KeyFile) → IsKeyFile text file → (other : KeyFile) → IsKeyFile text other → Some file ≡ Some other
file_once text file is = λ other also.
    let same = lines_once text file.root other.root file.seed other.seed is also in
    let equal : file ≡ other = (λ i. record { root = same.0 i; seed = same.1 i }) in
    ap (λ (f : KeyFile). Some f) equal

no_lines : (text root : List ℕ) (seed : Option (List ℕ)) → ((bytes : List ℕ) → IsLastLine text bytes → ⊥) → ((root seed : List ℕ) → AreKeyLines text root (Some seed) → ⊥) → AreKeyLines text root seed → ⊥
no_lines text root None one two l = one root l
no_lines text root (Some seed) one two l = two root seed l

-- bytes that are no last line are the file of the two lines that they are, if they are two
pub only_two : (text : List ℕ) (r : Option KeyFile) → ((bytes : List ℕ) → IsLastLine text bytes → ⊥) → IfSome r (λ file. IsKeyFile text file)
    → (IsNone r → (root seed : List ℕ) → AreKeyLines text root (Some seed) → ⊥) → (file : KeyFile) → IsKeyFile text file → r ≡ Some file
only_two text None one found none = λ file is. absurd (no_lines text file.root file.seed one (none refl) is)
only_two text (Some file) one found none = file_once text file found

pub ruleset lines = (not_empty, not_ended, line_gives, line_none)

pub ruleset last_lines = (short_gives, short_none, long_gives, long_none)

pub ruleset two_lines = (two_found, not_two, no_first, no_second)

pub ruleset one_file = (file_once, only_two)
