-- Steps that are refused and steps that are taken, a write that is asked for, and what stays while a flush or a
-- removal takes its steps.
use Rattle.std.proofs.Common.{add-one}
use Rattle.std.proofs.lemmas.List.{drop-drop, length-drop}
use Rattle.std.specs.Prelude.{Ok, Err, Result, IsErrOf}
use Rattle.std.specs.Result.{result_err}
use Rattle.ob_types.specs.declared.refusal.Refusal.TheVariants.{NoMemory}
use Rattle.ob_types.specs.PendingSize.{pending_size_of}
use Rattle.ob_types.specs.declared.reply.Answer.TheVariants.{Id}
use Rattle.ob_types.specs.declared.reply.Change.{Change}
use Rattle.ob_seq.proofs.Words.{◌≡◌, refl, arith, ℕ, false, Option, Some, None, change_between, Pending, Refusal, Reply}
use Rattle.ob_seq.proofs.Words.{◌∙◌, sym, ap, List, [], length, Message, true, counted_bytes, Outcome, Unsent, whole}
use Rattle.ob_seq.proofs.Words.{zero, suc, ◌-◌, Bool, drop, PendingEntry, front_taken, next_flushed, times}
use Rattle.ob_seq.specs.Steps.Step.{Step, Makes, first_of_step}
use Rattle.ob_seq.specs.Answer.{is_full}
use Rattle.ob_seq.specs.Steps.Commands.{admitted, asked, has_bytes_left, write_step_within, written}

-- what an open buffer refuses is what its step refuses
pub first_where_open : (old : Pending) (step : Step) {value : Option Refusal} → old.closed ≡ false → step.refusal ≡ value →
    first_of_step old step ≡ value
first_where_open old step unclosed is = rw (unclosed, is) refl

-- a step that is refused
pub makes_refused : (old : Pending) (step : Step) (refusal : Refusal) → ¬ (refusal ≡ NoMemory) →
    first_of_step old step ≡ Some refusal → Makes old step (Err refusal) old
makes_refused old step refusal other is = grind arith

-- a step that is out of memory, and is not refused otherwise
pub makes_wanting : (old : Pending) (step : Step) → old.closed ≡ false → step.refusal ≡ None →
    Makes old step (Err NoMemory) old
makes_wanting old step unclosed none = record {
  answer = λ wanted. absurd (wanted refl);
  after = refl;
  no_memory_last = λ wants. first_where_open old step unclosed none;
}

-- a step that is taken
pub makes_taken : (old : Pending) (step : Step) (reply : Reply) (new : Pending) → old.closed ≡ false → step.refusal ≡ None →
    reply ≡ step.reply → new ≡ step.after → Makes old step (Ok reply) new
makes_taken old step reply new unclosed none same after = grind arith

-- a word that stays turns nothing
pub nothing_turned : (word : ℕ) → change_between word word ≡ None
nothing_turned word = grind arith

-- a size that is there, or is refused otherwise, is never refused for want of memory
wants_none : (limit : Option ℕ) (writes : ℕ) (size : Result ℕ Refusal) (old : Pending) → ¬ IsErrOf size NoMemory →
    ¬ IsErrOf (admitted limit writes size old) NoMemory
wants_none limit writes size old other = grind arith

size_wants_none : (old : Pending) (message : Message) → ¬ IsErrOf (pending_size_of old.settings.estimate message) NoMemory
size_wants_none old message = grind arith

-- what is admitted does not go by what is gone
whatever_gone : (limit : Option ℕ) (writes : ℕ) (size : Result ℕ Refusal) (gone : List Outcome) (unsent : Unsent) →
    admitted limit writes size (whole [] unsent) ≡ admitted limit writes size (whole gone unsent)
whatever_gone limit writes (Ok size) gone unsent = refl
whatever_gone limit writes (Err refusal) gone unsent = refl

module _ (limit : Option ℕ) (message : Message) (old : Pending) where
  -- what was asked limit message old of what waits, whatever is gone
  pub asked_there : (gone : List Outcome) (unsent : Unsent) → whole gone unsent ≡ old → {writes : ℕ} {size result : Result ℕ Refusal} →
      writes ≡ length old.promises → size ≡ pending_size_of unsent.settings.estimate message →
      result ≡ admitted limit writes size (whole [] unsent) → result ≡ asked limit message old
  asked_there gone unsent view {writes} {size} given counted is = grind (arith, whatever_gone)

  -- what refuses a message refuses its write first
  pub first_is : result_err (asked limit message old) ≡ first_of_step old (write_step_within limit message old)
  first_is = grind arith

  pub refusal_other : {refusal : Refusal} → Err refusal ≡ asked limit message old → ¬ (refusal ≡ NoMemory)
  refusal_other {refusal} is same = grind (arith, wants_none, size_wants_none)

  -- a write that is refused
  pub write_refused : {refusal : Refusal} → Err refusal ≡ asked limit message old →
      Makes old (write_step_within limit message old) (Err refusal) old
  write_refused {refusal} is =
      makes_refused old (write_step_within limit message old) refusal (refusal_other is) (sym first_is ∙ ap result_err (sym is))

  module _ {size : ℕ} (is : Ok size ≡ asked limit message old) where
    -- what is so if it is not
    unclosed : old.closed ≡ false
    unclosed = grind arith

    none : (write_step_within limit message old).refusal ≡ None
    none = grind arith

    counts : size ≡ counted_bytes old.settings.estimate message
    counts = grind arith

    pub light : has_bytes_left size old ≡ true
    light = grind arith

    pub few : is_full limit (length old.promises) ≡ false
    few = grind arith

    -- a write that is out of memory
    pub write_wanting : Makes old (write_step_within limit message old) (Err NoMemory) old
    write_wanting = makes_wanting old (write_step_within limit message old) unclosed none

    -- and one that is made
    pub write_made : {new : Pending} {id : ℕ} {change : Option Change} → new ≡ written old message size →
        id ≡ length old.promises → change ≡ change_between old.word new.word →
        Makes old (write_step_within limit message old)
        (Ok (record { answer = Id (record { 0 = id }); settled = []; change = change })) new
    write_made {new} {id} {change} after given turned = grind (arith, counts, makes_taken, unclosed, none)

entries_of_times : (part : Pending → List PendingEntry) (step : Pending → Pending) →
    ((old : Pending) → part (step old) ≡ drop 1 (part old)) → (n : ℕ) (old : Pending) →
    part (times n step old) ≡ drop n (part old)
entries_of_times part step one zero old = refl
entries_of_times part step one (suc n) old =
    rw (one (times n step old), entries_of_times part step one n old, drop-drop 1 n (part old), add-one)

-- each step takes one of the unflushed entries
pub unflushed_left : (n : ℕ) (old : Pending) → length (times n next_flushed old).unflushed ≡ length old.unflushed - n
unflushed_left n old =
    ap length (entries_of_times (λ (held : Pending). held.unflushed) next_flushed (λ before. refl) n old)
    ∙ length-drop n old.unflushed

-- the line that is left when *n* fronts are taken
pub line_of_times : (notice : Bool) (outcome : Outcome) (n : ℕ) (old : Pending) →
    (times n (front_taken notice outcome) old).line ≡ drop n old.line
line_of_times notice outcome =
    entries_of_times (λ (held : Pending). held.line) (front_taken notice outcome) (λ before. refl)

-- the settings stay if a step leaves them
pub settings_of_times : (step : Pending → Pending) → ((old : Pending) → (step old).settings ≡ old.settings) →
    (n : ℕ) (old : Pending) → (times n step old).settings ≡ old.settings
settings_of_times step keeps zero old = refl
settings_of_times step keeps (suc n) old = keeps (times n step old) ∙ settings_of_times step keeps n old

-- a step taken first or last
pub times_first : (step : Pending → Pending) (n : ℕ) (old : Pending) → times n step (step old) ≡ step (times n step old)
times_first step zero old = refl
times_first step (suc n) old = ap step (times_first step n old)
