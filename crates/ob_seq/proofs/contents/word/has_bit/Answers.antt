use Rattle.ob_seq.proofs.Words.{◌≡◌, ℕ, ◌*◌, ◌<◌, ◌^◌, not, eqb, arith, nat_tests, pow-lt}
use Rattle.std.proofs.Common.{mod-eq_of_lt, one-mul, zero-mul}
use Rattle.std.proofs.lemmas.Nat.{pow_pos}
use Rattle.std.proofs.lemmas.Nat.Bits.{and_pow, bit_at-lt}
use Rattle.ob_seq.proofs.contents.word.has_bit.Goals as goal

-- a bit times a power is 0 only if the bit is
bit_by : (bit power : ℕ) → bit < 2 → 0 < power → not (eqb (bit * power) 0) ≡ eqb bit 1
bit_by bit power small some = grind (arith, nat_tests, zero-mul power, one-mul power)

pub returns : goal.returns
returns c =
    let index = c.args.index in
    let within : index < 32 = omega (arith, c.requires) in
    let small : 2 ^ index < 4294967296 = pow-lt within in
    rw (one-mul (2 ^ index), mod-eq_of_lt small, and_pow c.args.word index)
    (bit_by _ (2 ^ index) (bit_at-lt c.args.word index) (pow_pos index))
