-- The file `device.key`, of which the program's device is made.
use Rattle.std.specs.Prelude.{◌≡◌, ◌⊎◌, ℕ, List, [], ◌∷◌, ◌++◌, Option, Some, None}
use Rattle.vc_session.specs.HexDigits.{AreDigits}
use Rattle.vc_cli.specs.declared.key_files.KeyFile.{KeyFile}

-- a line with the 64 digits of 32 bytes, which LF ends
abbrev pub IsLine : List ℕ → List ℕ → Type 0
IsLine line bytes = (digits : List ℕ) × AreDigits 32 digits bytes × (line ≡ digits ++ 0x0A ∷ [])

-- the last line, which LF need not end
abbrev pub IsLastLine : List ℕ → List ℕ → Type 0
IsLastLine line bytes = IsLine line bytes ⊎ AreDigits 32 line bytes

-- the root in the one line, or the root in the first line and the seed in the second
abbrev pub AreKeyLines : List ℕ → List ℕ → Option (List ℕ) → Type 0
AreKeyLines text root None = IsLastLine text root
AreKeyLines text root (Some seed) =
    (first : List ℕ) × (second : List ℕ) × IsLine first root × IsLastLine second seed
    × (text ≡ first ++ second)

-- the text is a key file with this root and this seed, if it has one
abbrev pub IsKeyFile : List ℕ → KeyFile → Type 0
IsKeyFile text file = AreKeyLines text file.root file.seed
