use Rattle.ob_seq.proofs.Word.{bit_0_is_mark, bit_is_user_bit, no_higher_bit}
use Rattle.ob_seq.proofs.laws.the_word_is_the_mark_and_the_user_bits.Goals as goal

pub returns : goal.returns
returns c = record { mark = bit_0_is_mark; user_bits = bit_is_user_bit; no_higher = no_higher_bit }
