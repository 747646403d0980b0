-- What is pending after commands: no more than was, and what they write.
use Rattle.std.proofs.Common.{◌≡◌, ℕ, ◌+◌, ◌≤◌, false, List, [], ◌∷◌, ◌++◌, refl, sym, ap, ◌∙◌, subst, arith, append_assoc}
use Rattle.std.proofs.Common.{Option, Some, None, Result, Ok, Err, IsOk, OnOk, OnErr}
use Rattle.std.proofs.lemmas.List.{append-nil}
use Rattle.std.proofs.lemmas.List.Sums.{fold-append, sum_by_push}
use Rattle.ob_types.specs.PendingSize.{counted_bytes}
use Rattle.ob_types.specs.Traits.{traits_of, is_write}
use Rattle.ob_types.specs.declared.command.Command.{Command}
use Rattle.ob_types.specs.declared.command.Command.TheVariants.{Write, Flush, Remove, RemoveWith, RemoveBytes, Progress}
use Rattle.ob_types.specs.declared.command.Command.TheVariants.{Cancel, FailFlushed, Close, UserBit, SetMarks}
use Rattle.ob_seq.specs.Effect.{effect, rows_after}
use Rattle.ob_seq.specs.Rows.{Settings, counted_size, new_row}
use Rattle.ob_seq.proofs.Rows.EachRow.{effect_turns, total_turns}
use Rattle.ob_connection.specs.Connected.{Connected, StandsFor, StandsForSome}
use Rattle.ob_connection.specs.Connected.{Shows}
use Rattle.ob_connection.specs.declared.look.Look.{Look}
use Rattle.ob_covered.specs.Budgeted.{pending}
use Rattle.ob_covered.specs.Cover.{CoverValue}
use Rattle.ob_covered.proofs.Pending.{covered, shown}
use Rattle.ob_shared_connection.specs.Calls.{Continues}
use Rattle.ob_shared_connection.specs.Values.{FitsIn, IsUnder, bytes_written, counted_if, held_by}

-- a command that writes nothing
falls : (settings : Settings) (history : List Command) (command : Command) → is_write command ≡ false
    → pending settings (history ++ command ∷ []) ≤ pending settings history + 0
falls settings history command other =
    let rows = rows_after settings.estimate history in
    let more : rows_after settings.estimate (history ++ command ∷ []) ≡ effect settings.estimate rows command =
    fold-append (effect settings.estimate) [] history (command ∷ []) in
    let fell : pending settings (history ++ command ∷ []) ≤ pending settings history =
    rw more (total_turns ⊥ rows (effect settings.estimate rows command)
    (effect_turns ⊥ settings.estimate rows command (λ never. absurd never) other)) in
    omega (arith, fell)

-- one command
grows : (settings : Settings) (history : List Command) (command : Command)
    → pending settings (history ++ command ∷ [])
    ≤ pending settings history + counted_if settings.estimate (traits_of command).message
grows settings history (Write message) =
    let rows = rows_after settings.estimate history in
    let row = new_row settings.estimate message in
    let more : rows_after settings.estimate (history ++ Write message ∷ []) ≡ rows ++ row ∷ [] =
    fold-append (effect settings.estimate) [] history (Write message ∷ []) in
    let longer : pending settings (history ++ Write message ∷ [])
    ≡ pending settings history + counted_bytes settings.estimate message = rw more (sum_by_push counted_size rows row) in
    omega (arith, longer)
grows settings history Flush = falls settings history Flush refl
grows settings history Remove = falls settings history Remove refl
grows settings history (RemoveWith cause) = falls settings history (RemoveWith cause) refl
grows settings history (RemoveBytes n) = falls settings history (RemoveBytes n) refl
grows settings history (Progress n) = falls settings history (Progress n) refl
grows settings history (Cancel id) = falls settings history (Cancel id) refl
grows settings history (FailFlushed cause notify) = falls settings history (FailFlushed cause notify) refl
grows settings history (Close cause) = falls settings history (Close cause) refl
grows settings history (UserBit index writable) = falls settings history (UserBit index writable) refl
grows settings history (SetMarks marks) = falls settings history (SetMarks marks) refl

-- several
grows_by : (settings : Settings) (history commands : List Command)
    → pending settings (history ++ commands) ≤ pending settings history + bytes_written settings.estimate commands
grows_by settings history [] =
    subst (λ (all : List Command). pending settings all ≤ pending settings history + 0) (sym (append-nil history))
    (omega arith)
grows_by settings history (command ∷ commands) =
    let one = grows settings history command in
    let others = grows_by settings (history ++ command ∷ []) commands in
    subst (λ (all : List Command).
    pending settings all
    ≤ pending settings history
    + (counted_if settings.estimate (traits_of command).message + bytes_written settings.estimate commands))
    (append_assoc history (command ∷ []) commands) (omega (arith, one, others))

-- an accepted call that fits in what the seat holds leaves no more pending than that
fits_under : (old new : Connected) (commands : List Command) (held : ℕ) (before after : Look) → StandsForSome old
    → Shows old before → Shows new after → before.total ≤ held → Continues old commands new → FitsIn old commands held
    → after.total ≤ held
fits_under old new commands held before after some shows next within goes fits =
    let fit = fits before.total (shown old before shows) within in
    let now = shown old before shows some.0 some.1 in
    let grew = grows_by old.unsent.settings some.0 commands in
    let then : after.total ≡ pending old.unsent.settings (some.0 ++ commands) =
    shown new after next (some.0 ++ commands) (goes.stands some.0 some.1)
    ∙ ap (λ (settings : Settings). pending settings (some.0 ++ commands)) goes.settings in
    omega (arith, fit, now, grew, then)

-- so what is pending stays covered by what the seat holds
pub still_under : {A E : Type 0} (old new : Connected) (commands : List Command) (cover : Option CoverValue)
    (room : Option ℕ) (before after : Look) (result : Result A E) → StandsForSome old → Shows old before → Shows new after
    → room ≡ held_by cover → IsUnder old cover → OnOk result (Continues old commands new) → OnErr result (new ≡ old)
    → ((bytes : ℕ) → room ≡ Some bytes → IsOk result → FitsIn old commands bytes) → IsUnder new cover
still_under old new commands None room before after result some shows next is under goes same fits = tt
still_under old new commands (Some cover) room before after (Ok answer) some shows next is under goes same fits =
    let held = cover.seat.account.held in
    let now = shown old before shows some.0 some.1 in
    let fewer = under some.0 some.1 in
    covered new after.total held (shown new after next)
    (fits_under old new commands held before after some shows next (omega (arith, now, fewer)) goes (fits held is refl))
still_under old new commands (Some cover) room before after (Err fault) some shows next is under goes same fits =
    subst (λ (connected : Connected). IsUnder connected (Some cover)) (sym same) under

-- with nothing written any seat is enough
pub new_under : (connected : Connected) (look : Look) (cover : Option CoverValue) → StandsFor connected [] → Shows connected look
    → IsUnder connected cover
new_under connected look None stands shows = tt
new_under connected look (Some cover) stands shows = λ commands known.
    omega (arith, shown connected look shows [] stands, shown connected look shows commands known)
