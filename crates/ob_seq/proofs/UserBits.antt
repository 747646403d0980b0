-- A user bit set or cleared in the word is the user bit after one more command.
use Rattle.std.proofs.lemmas.Nat.Bits.{bit_at_and, bit_at_not, bit_at-pow_same, bit_at-pow_other}
use Rattle.std.specs.Int.{bit_not, w32}
use Rattle.ob_seq.proofs.Words.{bit_step, [], ◌≡◌, ℕ, zero, suc, ◌^◌, ◌<◌, ◌≤◌, Bool, true, false, not, List, ◌∷◌, ◌++◌}
use Rattle.ob_seq.proofs.Words.{reverse, sym, ◌∙◌, cond, eqb, append-nil, arith, Option, Some, None, filter_map}
use Rattle.ob_seq.proofs.Words.{slice_get, unwrap_or, cons_option, nat_tests, reverse-append, filter_map-append}
use Rattle.ob_seq.proofs.Words.{bit_at_or, same_from_bits, pow-lt, Command, UserBit, Settings, rows_after, bit_request}
use Rattle.ob_seq.proofs.Words.{mark_after, user_bit, word_after, reply_of, Pending, Leaves}
use Rattle.ob_seq.specs.Steps.Commands.{bit_changed, with_user_bit}
use Rattle.ob_seq.proofs.Rows.History.{open_history, rows_after_more, closed_more}
use Rattle.ob_seq.proofs.Rows.Along.{moments_of_same, settlements_of_same}
use Rattle.ob_seq.proofs.Word.{digit_of, user_bits_even, word_digits, word_of, word_of_digits, mark_after_same}
use Rattle.ob_seq.proofs.Word.{marks_more}

-- the user bits after one more command
bit_by : (requests : List Bool) (here now : Bool) →
    (let asked : Option Bool = cond here (Some now) None in
    unwrap_or (slice_get (reverse (requests ++ cons_option asked [])) 0) false
    ≡ cond here now (unwrap_or (slice_get (reverse requests) 0) false))
bit_by requests here now = grind (arith, reverse-append requests (now ∷ []), append-nil requests)

-- a number of 32 digits with one of them set, or clear
changed_number : (writable : Bool) (bit after : ℕ → Bool) (at : ℕ) → at < 32 →
    ((i : ℕ) → after i ≡ cond (eqb at i) (not writable) (bit i)) →
    with_user_bit at writable (word_of bit) ≡ word_of after
changed_number true bit after at within changes = same_from_bits _ _ (λ i.
    rw (bit_at_and (word_of bit) (bit_not w32 (2 ^ at)) i, digit_of bit i, digit_of after i, changes i)
    (grind (arith, nat_tests, bit_at_not w32 (2 ^ at) i (pow-lt within), bit_at-pow_same at, bit_at-pow_other at i)))
changed_number false bit after at within changes = same_from_bits _ _ (λ i.
    rw (bit_at_or (word_of bit) (2 ^ at) i, digit_of bit i, digit_of after i, changes i)
    (grind (arith, nat_tests, bit_at-pow_same at, bit_at-pow_other at i)))

-- the word of a history, by its 32 digits
abbrev digits_after : Settings → List Command → ℕ → Bool
digits_after settings commands = word_digits (mark_after settings commands) (user_bit commands)

word_is : (settings : Settings) (commands : List Command) →
    word_after settings commands ≡ word_of (digits_after settings commands)
word_is settings commands =
    rw (user_bits_even (user_bit commands)) (word_of_digits (mark_after settings commands) (user_bit commands))

digits_change : (settings : Settings) (commands : List Command) (at : ℕ) (writable : Bool) → 1 ≤ at → (i : ℕ) →
    digits_after settings (commands ++ UserBit at writable ∷ []) i
    ≡ cond (eqb at i) (not writable) (digits_after settings commands i)
digits_change settings commands at writable some zero =
    let same = moments_of_same true (rows_after settings.estimate commands) in
    let other : eqb at 0 ≡ false = grind (arith, nat_tests) in
    rw other (mark_after_same settings commands (UserBit at writable) same)
digits_change settings commands at writable some (suc i) =
    rw (filter_map-append (bit_request (suc i)) commands (UserBit at writable ∷ []))
    (bit_by (filter_map (bit_request (suc i)) commands) (eqb at (suc i)) (not writable))

module _ (buffer : Pending) (commands : List Command) (at : ℕ) (writable : Bool) (leaves : Leaves buffer commands)
    (unclosed : buffer.closed ≡ false) (some : 1 ≤ at) (few : at ≤ 31) where
  changed_word :
      with_user_bit at writable buffer.word ≡ word_after buffer.settings (commands ++ UserBit at writable ∷ [])
  changed_word = grind (arith, word_is, changed_number, digits_change)

  -- the buffer with the user bit changed is what the commands with that leave
  pub bit_changed_left : Leaves (bit_changed at writable buffer) (commands ++ UserBit at writable ∷ [])
  bit_changed_left =
      let command : Command = UserBit at writable in
      let there = open_history buffer.settings commands command buffer leaves unclosed in
      let stay = rows_after_more buffer.settings.estimate commands command in record {
        closed = unclosed ∙ sym (closed_more commands command there);
        marks = leaves.marks ∙ sym (marks_more buffer.settings commands command);
        line = rw stay leaves.line;
        unflushed = rw stay leaves.unflushed;
        promises = rw stay leaves.promises;
        word = changed_word;
      }

  -- its reply
  pub reply_of_bit : (bit_step at writable buffer).reply ≡ reply_of buffer.settings commands (UserBit at writable)
  reply_of_bit = rw (changed_word, leaves.word, settlements_of_same (rows_after buffer.settings.estimate commands))
