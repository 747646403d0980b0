-- What is flushed stays in front while commands are accepted that take none of it away.
use Rattle.std.proofs.Common.{◌≡◌, ◌≤◌, ◌<◌, ℕ, zero, suc, Bool, true, false, cond, List, [], ◌∷◌, ◌++◌, map, length}
use Rattle.std.proofs.Common.{refl, sym, ap, ◌∙◌, subst, arith, append_assoc, ◌&&◌, if◌then◌else◌, Some, None, is_some}
use Rattle.std.proofs.lemmas.List.{append-nil, map-append}
use Rattle.std.proofs.lemmas.List.Elements.{filter-append}
use Rattle.std.proofs.lemmas.List.Sums.{fold-append, sum_by-append, take_while-cons}
use Rattle.std.specs.List.{AllByRecursion, list_all, take_while}
use Rattle.std.specs.Prelude.{nat_lt}
use Rattle.ob_types.specs.Traits.{is_block}
use Rattle.ob_types.specs.declared.command.Command.{Command}
use Rattle.ob_types.specs.declared.command.Command.TheVariants.{Write, Flush, Remove, RemoveWith, RemoveBytes, Progress}
use Rattle.ob_types.specs.declared.command.Command.TheVariants.{Cancel, FailFlushed, Close, UserBit, SetMarks}
use Rattle.ob_types.specs.declared.estimate.Estimate.{Estimate}
use Rattle.ob_types.specs.declared.message.Message.{Message}
use Rattle.ob_types.specs.declared.promise.Cause.{Cause}
use Rattle.ob_types.specs.declared.refusal.Refusal.TheVariants.{Closed, FlushedLeft, TooManyBytes}
use Rattle.ob_seq.specs.Answer.{are_accepted_within, first_refusal_within, is_accepted_within, refusal_within}
use Rattle.ob_seq.specs.Effect.{block_bytes, blocks_in_front, cancelled, closed_row, effect, flushed_row}
use Rattle.ob_seq.specs.Effect.{progressed_row, reached_row, rows_after, with_cancelled, with_front, bytes_in}
use Rattle.ob_seq.specs.State.{is_close, is_closed}
use Rattle.ob_seq.specs.Rows.{front, is_in_line, line, Row, new_row, unread_part, Settings}
use Rattle.ob_seq.proofs.Rows.Accepting.{kept_along_within, not_refused_within, open_and_fit_within}
use Rattle.ob_seq.proofs.Rows.History.{accepted_by, closed_more, rows_after_more}
use Rattle.ob_seq.proofs.Rows.Order.{IsFresh, IsStanding, Layout, each_append, flush_parts, layout_of, reached_stands}
use Rattle.ob_seq.proofs.Rows.Order.{front_of_parts, line_of_parts}
use Rattle.ob_connection.specs.Connected.{connection_limit}
use Rattle.ob_shared_connection.specs.Values.{leaves_flushed}
use Rattle.ob_shared_connection.specs.Sending.{BytesStay, Stays, blocks_after}

-- the unread parts of the rows in line
abbrev messages : List Row → List Message
messages rows = map unread_part (line rows)

-- both of two tests
split_and : (a b : Bool) → (a && b) ≡ true → (a ≡ true) × (b ≡ true)
split_and true b both = (refl, both)
split_and false b both = cc both

-- more progress of the front shows in no unread part
progress_keeps : (n : ℕ) (rows : List Row) → messages (with_front (progressed_row n) rows) ≡ messages rows
progress_keeps n [] = refl
progress_keeps n (row ∷ rows) = at (is_in_line row) refl (progress_keeps n rows)
  where
    at : (stands : Bool) → is_in_line row ≡ stands → messages (with_front (progressed_row n) rows) ≡ messages rows
        → messages (with_front (progressed_row n) (row ∷ rows)) ≡ messages (row ∷ rows)
    at true is rest = let also : is_in_line (progressed_row n row) ≡ true = is in grind arith
    at false is rest = grind arith

-- nor does a promise that is taken back
cancel_keeps : (id : ℕ) (rows : List Row) → messages (with_cancelled id rows) ≡ messages rows
cancel_keeps id [] = refl
cancel_keeps zero (row ∷ rows) =
    elim (is_in_line row) as (λ stands.
    map unread_part (cond stands (record row { promise = cancelled row.promise } ∷ line rows) (line rows))
    ≡ map unread_part (cond stands (row ∷ line rows) (line rows))) [ true ↦ refl | false ↦ refl ]
cancel_keeps (suc id) (row ∷ rows) =
    let rest = cancel_keeps id rows in
    elim (is_in_line row) as (λ stands.
    map unread_part (cond stands (row ∷ line (with_cancelled id rows)) (line (with_cancelled id rows)))
    ≡ map unread_part (cond stands (row ∷ line rows) (line rows)))
    [ true ↦ ap (λ (others : List Message). unread_part row ∷ others) rest | false ↦ rest ]

-- a flush puts what it reaches behind what stands in line
each_reached : (fresh : List Row) → AllByRecursion IsFresh fresh → AllByRecursion IsStanding (map reached_row fresh)
each_reached [] all = tt
each_reached (row ∷ fresh) all = (reached_stands row all.0, each_reached fresh all.1)

flush_keeps : (rows : List Row) (layout : Layout rows)
    → messages (map flushed_row rows) ≡ messages rows ++ map unread_part (map reached_row layout.fresh)
flush_keeps rows layout =
    let reached = map reached_row layout.fresh in
    let before : line rows ≡ layout.standing =
    ap line layout.is
    ∙ line_of_parts layout.gone layout.standing layout.fresh layout.all_gone layout.all_standing layout.all_fresh in
    let flushed : map flushed_row rows ≡ layout.gone ++ ((layout.standing ++ reached) ++ []) =
    ap (map flushed_row) layout.is
    ∙ flush_parts layout.gone layout.standing layout.fresh layout.all_gone layout.all_standing layout.all_fresh
    ∙ ap (λ (last : List Row). layout.gone ++ last) (sym (append-nil (layout.standing ++ reached))) in
    let after : line (map flushed_row rows) ≡ layout.standing ++ reached =
    ap line flushed
    ∙ line_of_parts layout.gone (layout.standing ++ reached) [] layout.all_gone
    (each_append IsStanding layout.standing reached layout.all_standing (each_reached layout.fresh layout.all_fresh))
    tt in
    ap (map unread_part) after ∙ map-append unread_part layout.standing reached
    ∙ ap (λ (first : List Row). map unread_part first ++ map unread_part reached) (sym before)

-- a message in line, so that a close is refused
stands_in_front : (rows : List Row) (layout : Layout rows) (first : Message) (others : List Message)
    → messages rows ≡ first ∷ others → is_some (front rows) ≡ true
stands_in_front rows layout first others some =
    let before : line rows ≡ layout.standing =
    ap line layout.is
    ∙ line_of_parts layout.gone layout.standing layout.fresh layout.all_gone layout.all_standing layout.all_fresh in
    at layout.standing layout.all_standing layout.is (sym (ap (map unread_part) before) ∙ some)
  where
    at : (standing : List Row) → AllByRecursion IsStanding standing → rows ≡ layout.gone ++ (standing ++ layout.fresh)
        → map unread_part standing ≡ first ∷ others → is_some (front rows) ≡ true
    at [] all is none = cc none
    at (row ∷ standing) all is some_there =
        ap (λ (found : List Row). is_some (front found)) is
        ∙ ap is_some (front_of_parts layout.gone row (standing ++ layout.fresh) layout.all_gone all.0)

-- the messages in line are these still, with others behind them, and the connection is open
record Kept (estimate : Estimate) (first : Message) (others : List Message) (commands : List Command) : Type 0 where
  open_still : is_closed commands ≡ false
  rest : List Message
  is : messages (rows_after estimate commands) ≡ (first ∷ others) ++ rest

module _ (settings : Settings) (first : Message) (others : List Message) where
  abbrev Is : List Command → Type 0
  Is = Kept settings.estimate first others

  abbrev Behind : List Row → List Row → Type 0
  Behind old new = (more : List Message) × (messages new ≡ messages old ++ more)

  -- what an accepted command leaves in front
  still_in_front : (rows : List Row) → Layout rows → (command : Command) → leaves_flushed command ≡ true
      → (is_close command ≡ true → ⊥) → Behind rows (effect settings.estimate rows command)
  still_in_front rows layout (Write message) leaves no_close = (
    [],
    ap (map unread_part) (filter-append is_in_line rows (new_row settings.estimate message ∷ [])
        ∙ append-nil (line rows)) ∙ sym (append-nil (messages rows)),
  )
  still_in_front rows layout Flush leaves no_close = (_, flush_keeps rows layout)
  still_in_front rows layout Remove leaves no_close = cc leaves
  still_in_front rows layout (RemoveWith cause) leaves no_close = cc leaves
  still_in_front rows layout (RemoveBytes n) leaves no_close = cc leaves
  still_in_front rows layout (Progress n) leaves no_close =
      ([], progress_keeps n rows ∙ sym (append-nil (messages rows)))
  still_in_front rows layout (Cancel id) leaves no_close =
      ([], cancel_keeps id.0 rows ∙ sym (append-nil (messages rows)))
  still_in_front rows layout (FailFlushed cause notify) leaves no_close = cc leaves
  still_in_front rows layout (Close cause) leaves no_close = absurd (no_close refl)
  still_in_front rows layout (UserBit index writable) leaves no_close = ([], sym (append-nil (messages rows)))
  still_in_front rows layout (SetMarks marks) leaves no_close = ([], sym (append-nil (messages rows)))

  -- a close is refused while a message is in line
  no_close_fits : (rows : List Row) (command : Command) → is_some (front rows) ≡ true
      → refusal_within connection_limit settings.estimate rows command ≡ None → is_close command ≡ true → ⊥
  no_close_fits rows (Write message) some fits close = cc close
  no_close_fits rows Flush some fits close = cc close
  no_close_fits rows Remove some fits close = cc close
  no_close_fits rows (RemoveWith cause) some fits close = cc close
  no_close_fits rows (RemoveBytes n) some fits close = cc close
  no_close_fits rows (Progress n) some fits close = cc close
  no_close_fits rows (Cancel id) some fits close = cc close
  no_close_fits rows (FailFlushed cause notify) some fits close = cc close
  no_close_fits rows (Close cause) some fits close = is_refused (is_some (front rows)) some fits
    where
      is_refused : (left : Bool) → left ≡ true → (if left then Some FlushedLeft else None) ≡ None → ⊥
      is_refused true is none = cc none
      is_refused false is none = cc is
  no_close_fits rows (UserBit index writable) some fits close = cc close
  no_close_fits rows (SetMarks marks) some fits close = cc close

  one_more : (earlier : List Command) (command : Command)
      → first_refusal_within connection_limit settings.estimate earlier command ≡ None → leaves_flushed command ≡ true
      → Is earlier → Is (earlier ++ command ∷ [])
  one_more earlier command accepted leaves kept =
      let rows = rows_after settings.estimate earlier in
      let layout = layout_of settings.estimate earlier in
      let fits = (open_and_fit_within connection_limit settings.estimate earlier command accepted).1 in
      let no_close = no_close_fits rows command (stands_in_front rows layout first (others ++ kept.rest) kept.is) fits in
      let behind = still_in_front rows layout command leaves no_close in
      record {
        open_still = closed_more earlier command kept.open_still ∙ not_close (is_close command) no_close;
        rest = kept.rest ++ behind.0;
        is = ap messages (fold-append (effect settings.estimate) [] earlier (command ∷ [])) ∙ behind.1
            ∙ ap (λ (before : List Message). before ++ behind.0) kept.is
            ∙ append_assoc (first ∷ others) kept.rest behind.0;
      }
    where
      not_close : (close : Bool) → (close ≡ true → ⊥) → close ≡ false
      not_close true never = absurd (never refl)
      not_close false never = refl

  all_more : (earlier more : List Command) → are_accepted_within connection_limit settings earlier more ≡ true
      → list_all leaves_flushed more ≡ true → Is earlier → Is (earlier ++ more)
  all_more earlier [] accepted leaves kept = subst Is (sym (append-nil earlier)) kept
  all_more earlier (command ∷ more) accepted leaves kept =
      let now = split_and (is_accepted_within connection_limit settings earlier command)
      (are_accepted_within connection_limit settings (earlier ++ command ∷ []) more) accepted in
      let each = split_and (leaves_flushed command) (list_all leaves_flushed more) leaves in
      subst Is (append_assoc earlier (command ∷ []) more)
      (all_more (earlier ++ command ∷ []) more now.1 each.1
      (one_more earlier command (not_refused_within connection_limit settings earlier command now.0) each.0 kept))

-- what is accepted behind accepted commands is accepted after them
accepted_rest : (settings : Settings) (earlier before between : List Command)
    → are_accepted_within connection_limit settings earlier (before ++ between) ≡ true
    → are_accepted_within connection_limit settings (earlier ++ before) between ≡ true
accepted_rest settings earlier [] between accepted =
    ap (λ (commands : List Command). are_accepted_within connection_limit settings commands between) (append-nil earlier)
    ∙ accepted
accepted_rest settings earlier (command ∷ before) between accepted =
    let now = split_and (is_accepted_within connection_limit settings earlier command)
    (are_accepted_within connection_limit settings (earlier ++ command ∷ []) (before ++ between)) accepted in
    ap (λ (commands : List Command). are_accepted_within connection_limit settings commands between)
    (sym (append_assoc earlier (command ∷ []) before))
    ∙ accepted_rest settings (earlier ++ command ∷ []) before between now.1

accepted_first : (settings : Settings) (earlier before between : List Command)
    → are_accepted_within connection_limit settings earlier (before ++ between) ≡ true
    → are_accepted_within connection_limit settings earlier before ≡ true
accepted_first settings earlier [] between accepted = refl
accepted_first settings earlier (command ∷ before) between accepted =
    let now = split_and (is_accepted_within connection_limit settings earlier command)
    (are_accepted_within connection_limit settings (earlier ++ command ∷ []) (before ++ between)) accepted in
    rw (now.0, accepted_first settings (earlier ++ command ∷ []) before between now.1) refl

-- a close leaves nothing in line
none_in_line : (cause : Cause) (rows : List Row) → line (map (closed_row cause) rows) ≡ []
none_in_line cause [] = refl
none_in_line cause (row ∷ rows) = none_in_line cause rows

-- so a connection with a message in line is open
closed_is_empty : (settings : Settings) (commands : List Command)
    → are_accepted_within connection_limit settings [] commands ≡ true → is_closed commands ≡ true
    → line (rows_after settings.estimate commands) ≡ []
closed_is_empty settings commands accepted =
    kept_along_within connection_limit settings
    (λ earlier. is_closed earlier ≡ true → line (rows_after settings.estimate earlier) ≡ [])
    (λ earlier command fits _ closed.
    let is_open = (open_and_fit_within connection_limit settings.estimate earlier command fits).0 in
    ap line (rows_after_more settings.estimate earlier command)
    ∙ by_close earlier command (sym (closed_more earlier command is_open) ∙ closed))
    [] commands accepted (λ never. cc never)
  where
    by_close : (earlier : List Command) (command : Command) → is_close command ≡ true
        → line (effect settings.estimate (rows_after settings.estimate earlier) command) ≡ []
    by_close earlier (Write message) close = cc close
    by_close earlier Flush close = cc close
    by_close earlier Remove close = cc close
    by_close earlier (RemoveWith cause) close = cc close
    by_close earlier (RemoveBytes n) close = cc close
    by_close earlier (Progress n) close = cc close
    by_close earlier (Cancel id) close = cc close
    by_close earlier (FailFlushed cause notify) close = cc close
    by_close earlier (Close cause) close = none_in_line cause (rows_after settings.estimate earlier)
    by_close earlier (UserBit index writable) close = cc close
    by_close earlier (SetMarks marks) close = cc close

open_in_front : (settings : Settings) (commands : List Command) (first : Message) (others : List Message)
    → are_accepted_within connection_limit settings [] commands ≡ true
    → messages (rows_after settings.estimate commands) ≡ first ∷ others → is_closed commands ≡ false
open_in_front settings commands first others accepted some =
    at (is_closed commands) refl
  where
    at : (closed : Bool) → is_closed commands ≡ closed → closed ≡ false
    at true is =
        let none = ap (map unread_part) (closed_is_empty settings commands accepted is) in cc (none, some)
    at false is = refl

-- the blocks in front of longer messages begin with those in front of the shorter
blocks_behind : (first rest : List Message)
    → (more : List (List ℕ)) × (blocks_in_front (first ++ rest) ≡ blocks_in_front first ++ more)
blocks_behind [] rest = (blocks_in_front rest, refl)
blocks_behind (message ∷ first) rest =
    let others = blocks_behind first rest in
    let long = take_while-cons is_block message (first ++ rest) in
    let short = take_while-cons is_block message first in
    at (is_block message) others.0 others.1 long short
  where
    at : (block : Bool) (more : List (List ℕ)) → blocks_in_front (first ++ rest) ≡ blocks_in_front first ++ more
        → take_while is_block (message ∷ (first ++ rest)) ≡ cond block (message ∷ take_while is_block (first ++ rest)) []
        → take_while is_block (message ∷ first) ≡ cond block (message ∷ take_while is_block first) []
        → (others : List (List ℕ))
        × (blocks_in_front (message ∷ (first ++ rest)) ≡ blocks_in_front (message ∷ first) ++ others)
    at true more is long short = (
      more,
      ap (map block_bytes) long ∙ ap (λ (blocks : List (List ℕ)). block_bytes message ∷ blocks) is
          ∙ ap (λ (blocks : List (List ℕ)). blocks ++ more) (sym (ap (map block_bytes) short)),
    )
    at false more is long short = (
      [],
      ap (map block_bytes) long
          ∙ ap (λ (blocks : List (List ℕ)). blocks ++ []) (sym (ap (map block_bytes) short)),
    )

-- a removal of no more bytes than there are in front of an open connection is accepted
removal_fits : (bytes n : ℕ) → n ≤ bytes → nat_lt bytes n ≡ false
removal_fits bytes n enough = grind arith

is_not_refused : (closed few : Bool) → closed ≡ false → few ≡ false
    → (if closed then Some Closed else (if few then Some TooManyBytes else None)) ≡ None
is_not_refused true few is_open enough = cc is_open
is_not_refused false true is_open enough = cc enough
is_not_refused false false is_open enough = refl

nothing : 0 < bytes_in (blocks_in_front []) → ⊥
nothing some = omega arith

pub bytes_stay : BytesStay
bytes_stay settings before between accepted leaves some =
    at (messages (rows_after settings.estimate before)) refl
  where
    at : (front_messages : List Message) → messages (rows_after settings.estimate before) ≡ front_messages
        → Stays settings before (before ++ between)
    at [] is = absurd (nothing (subst (λ (front_messages : List Message). 0 < bytes_in (blocks_in_front front_messages)) is
        some))
    at (first ∷ others) is =
        let kept = all_more settings first others before between (accepted_rest settings [] before between accepted)
        leaves (record { open_still = open_in_front settings before first others (accepted_first settings [] before between accepted) is; rest = []; is = is ∙ sym (append-nil (first ∷ others)) }) in
        let behind = blocks_behind (first ∷ others) kept.rest in
        let run : blocks_after settings (before ++ between) ≡ blocks_after settings before ++ behind.0 =
        ap blocks_in_front kept.is ∙ behind.1
        ∙ ap (λ (front_messages : List Message). blocks_in_front front_messages ++ behind.0) (sym is) in
        record {
          more = behind.0;
          kept = run;
          accepted = λ n enough. (let longer = ap bytes_in run
              ∙ sum_by-append (λ (block : List ℕ). length block) (blocks_after settings before) behind.0 in
              accepted_by connection_limit settings (before ++ between) (RemoveBytes n)
              (is_not_refused (is_closed (before ++ between))
              (nat_lt (bytes_in (blocks_after settings (before ++ between))) n) kept.open_still
              (removal_fits (bytes_in (blocks_after settings (before ++ between))) n (omega arith))));
        }
