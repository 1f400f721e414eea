-- How far the key stream of a device by HMAC is after so many words.
use Rattle.std.proofs.Common.{◌≡◌, ℕ, zero, suc, ◌+◌, ◌%◌, ◌^◌, refl, ap, ◌∙◌, arith}
use Rattle.std.specs.Int.{w32, to_le_bytes}
use Rattle.rand_core.specs.Steps.{word_bytes}
use Rattle.rand_chacha.specs.ChaCha.{ChaCha, next_word}
use Rattle.key_device.specs.HmacDevices.{fresh_bytes}

-- after one word more than k
words_on : (k : ℕ) (g : ChaCha)
    → (word_bytes (to_le_bytes w32) (next_word 10) (suc k) g).1 ≡ record g { word_pos = (g.word_pos + suc k) % 2 ^ 68 }
unfolding word_bytes
words_on zero g = refl
words_on (suc k) g =
    let place : ((g.word_pos + suc k) % 2 ^ 68 + 1) % 2 ^ 68 ≡ (g.word_pos + suc (suc k)) % 2 ^ 68 = omega arith in
    ap (λ (h : ChaCha). (next_word 10 h).1) (words_on k g)
    ∙ ap (λ (n : ℕ). record g { word_pos = n }) place

-- a draw is 8 words
pub draw_on : (g : ChaCha) → (fresh_bytes g).1 ≡ record g { word_pos = (g.word_pos + 8) % 2 ^ 68 }
unfolding fresh_bytes
draw_on g = words_on 7 g
