use Rattle.std.proofs.Common.{◌≡◌, ℕ, rules}
use Rattle.std.specs.Fmt.{digits, padded_integral, char_count}
use Rattle.std.specs.Prelude.{codes}
use Rattle.ob_script.specs.Tracing.{eight_hex}
use Rattle.ob_script.proofs.tracing.text.push_word.Goals as goal

-- the word with no bit set
no_bit : (word : ℕ) → word ≡ 0 → eight_hex word ≡ codes "00000000"
unfolding digits padded_integral char_count
no_bit word none = rw none

pub returns-then-word-eq0 : goal.returns-then-word-eq0
returns-then-word-eq0 c = rw (no_bit c.args.word c.if-word-eq0.true) (search rules)

-- and the one that the marks set
mark_bit : (word : ℕ) → word ≡ 1 → eight_hex word ≡ codes "00000001"
unfolding digits padded_integral char_count
mark_bit word one = rw one

pub returns-then-word-eq1 : goal.returns-then-word-eq1
returns-then-word-eq1 c = rw (mark_bit c.args.word c.if-word-eq1.true) (search rules)
