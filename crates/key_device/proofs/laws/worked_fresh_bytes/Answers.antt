use Rattle.std.proofs.Common.{refl}
use Rattle.rand_core.specs.Steps.{word_bytes, u32_at}
use Rattle.rand_chacha.specs.Block.{quarter_round, column_round, diagonal_round, double_rounds, block_word}
use Rattle.key_device.specs.HmacDevices.{fresh_bytes}
use Rattle.key_device.proofs.laws.worked_fresh_bytes.Goals as goal

pub returns-clause-first : goal.returns-clause-first
unfolding fresh_bytes word_bytes u32_at quarter_round column_round diagonal_round double_rounds block_word
returns-clause-first c = refl

pub returns-clause-second_block : goal.returns-clause-second_block
unfolding fresh_bytes word_bytes u32_at quarter_round column_round diagonal_round double_rounds block_word
returns-clause-second_block c = refl
