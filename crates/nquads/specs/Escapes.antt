-- How characters are written in IRIs and in the texts of literals. RDF 1.1 N-Quads, 4
use Rattle.std.specs.Prelude.{◌≡◌, ◌≢◌, ◌+◌, ◌*◌, ◌-◌, ◌⊎◌, ◌==◌, ◌||◌, ◌&&◌, ℕ, List, [], ◌∷◌, ◌++◌, Bool, All, IsTrue, Option, Some, None, codes, length, nat_le, encode_utf8, if◌then◌else◌}
use Rattle.std.specs.List.{flat_map}
use Rattle.std.specs.Option.{option_and_then}
use Rattle.std.specs.Char.{IsScalar}
use Rattle.nquads.specs.Terms.{is_digit}

-- the value of a hexadecimal digit, of either case
abbrev pub hex_value : ℕ → Option ℕ
hex_value c =
    if is_digit c then Some (c - 48)
    else (if nat_le 65 c && nat_le c 70 then Some (c - 55)
    else (if nat_le 97 c && nat_le c 102 then Some (c - 87)
    else None))

-- the number that hexadecimal digits make, the highest first, after those that made `high`
abbrev pub hex_number : ℕ → List ℕ → Option ℕ
hex_number high [] = Some high
hex_number high (c ∷ cs) =
    option_and_then (λ value. hex_number (16 * high + value) cs) (hex_value c)

-- `\u` and four hexadecimal digits, or `\U` and eight: a character that is no surrogate.
-- RDF 1.1 N-Quads, 4, UCHAR
pub record IsUchar (written : List ℕ) (character : ℕ) : Type 0 where
  pub digits : List ℕ
  pub is : ((written ≡ codes "\\u" ++ digits) × (length digits ≡ 4))
      ⊎ ((written ≡ codes "\\U" ++ digits) × (length digits ≡ 8))
  pub number : hex_number 0 digits ≡ Some character
  pub scalar : IsScalar character

-- the character that a backslash and this letter stand for. RDF 1.1 N-Quads, 4, ECHAR
abbrev pub named_escape : ℕ → Option ℕ
named_escape c =
    if c == 116 then Some 9
    else (if c == 98 then Some 8
    else (if c == 110 then Some 10
    else (if c == 114 then Some 13
    else (if c == 102 then Some 12
    else (if (c == 34) || (c == 39) || (c == 92) then Some c
    else None)))))

-- a piece of a text as it is written, and the bytes that it stands for
pub record Piece : Type 0 where
  pub written : List ℕ
  pub meant : List ℕ

-- a byte other than quote and backslash stands for itself
pub record IsRaw (p : Piece) : Type 0 where
  pub byte : ℕ
  pub written : p.written ≡ byte ∷ []
  pub meant : p.meant ≡ byte ∷ []
  pub plain : (byte ≢ 34) × (byte ≢ 92)

-- a backslash and a letter
pub record IsEchar (p : Piece) : Type 0 where
  pub letter : ℕ
  pub character : ℕ
  pub written : p.written ≡ 92 ∷ letter ∷ []
  pub meant : p.meant ≡ character ∷ []
  pub stands_for : named_escape letter ≡ Some character

-- a character by its number
pub record IsByNumber (p : Piece) : Type 0 where
  pub character : ℕ
  pub written : IsUchar p.written character
  pub meant : p.meant ≡ encode_utf8 character

-- a piece of an IRI, or of a literal's text, which may have letters after a backslash besides
abbrev pub IsPiece : Bool → Piece → Type 0
IsPiece quoted p = IsRaw p ⊎ (IsTrue quoted × IsEchar p) ⊎ IsByNumber p

-- the text, as it is written with escapes
pub record Writes (quoted : Bool) (written text : List ℕ) : Type 0 where
  pub pieces : List Piece
  pub are : All (IsPiece quoted) pieces
  pub written_is : written ≡ flat_map (λ (p : Piece). p.written) pieces
  pub text_is : text ≡ flat_map (λ (p : Piece). p.meant) pieces
