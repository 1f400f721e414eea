-- The digests of an example, which compute.
use Rattle.std.proofs.Common.{◌≡◌, ◌++◌, [], ◌∷◌, refl, codes}
use Rattle.sha2.specs.Sha256.{sha256, first_words, schedule, rounds, compress, hash_after, digest_bytes}
use Rattle.stmt_groups.specs.Records.{sign_data}

-- the sign data of the example
pub example_sign_data : sign_data (codes "<urn:o> <urn:p> \"o\" .\n" ∷ []) (record { bytes = codes "key-of-thirty-five-bytes-in-letters" }) (codes "<urn:m> <urn:p> \"1\" .\n" ∷ codes "<urn:m> <urn:p> \"2\" .\n" ∷ [])
    ≡ (83 ∷ 235 ∷ 38 ∷ 221 ∷ 158 ∷ 219 ∷ 112 ∷ 6 ∷ 177 ∷ 163 ∷ 109 ∷ 125 ∷ 225 ∷ 139 ∷ 109 ∷ 162 ∷ 100 ∷ 212 ∷ 156 ∷ 52 ∷ 169 ∷ 40 ∷ 144 ∷ 113 ∷ 158 ∷ 87 ∷ 118 ∷ 47 ∷ 67 ∷ 99 ∷ 166 ∷ 127 ∷ []) ++ codes "key-of-thirty-five-bytes-in-letters" ++ (124 ∷ 42 ∷ 30 ∷ 101 ∷ 44 ∷ 68 ∷ 116 ∷ 118 ∷ 46 ∷ 186 ∷ 57 ∷ 205 ∷ 78 ∷ 21 ∷ 36 ∷ 67 ∷ 189 ∷ 143 ∷ 130 ∷ 38 ∷ 226 ∷ 83 ∷ 70 ∷ 210 ∷ 238 ∷ 94 ∷ 134 ∷ 60 ∷ 233 ∷ 104 ∷ 248 ∷ 171 ∷ [])
unfolding sha256 first_words schedule rounds compress hash_after digest_bytes
example_sign_data = refl
