-- What is gathered of the messages that are left to send: those that were voided hold no byte.
use Rattle.std.proofs.Common.{◌≡◌, ◌≤◌, ◌<◌, ◌+◌, ◌-◌, ℕ, true, false, List, [], ◌∷◌, ◌++◌, length, map, take, filter, slice_set, Bor, refl, sym, ap, ◌∙◌, arith}
use Rattle.std.proofs.lemmas.List.{append-nil, length-append, map-append, take_more_set}
use Rattle.ob_types.specs.declared.command.Command.{Command}
use Rattle.ob_types.specs.declared.message.Message.{Message}
use Rattle.ob_types.specs.declared.message.Message.TheVariants.{Block, Region, Other}
use Rattle.ob_types.specs.Traits.{is_block}
use Rattle.ob_seq.specs.Effect.{block_bytes, blocks_in_front, rows_after}
use Rattle.ob_seq.specs.Looks.{first_blocks, with_bytes, gathered_after, flushed_after}
use Rattle.ob_seq.specs.Rows.{line, Row, Place, unread_part, without_skipped, is_flushed, Settings}
use Rattle.ob_seq.proofs.Words.{cond, take_while-cons}
use Rattle.ob_seq.proofs.Inside.Gathered.{ended, first_blocks_are, goes_along, more_blocks, none_behind, none_left, passed, pushed}
use Rattle.ob_connection.specs.Connected.{Connected, Gives}
use Rattle.ob_connection.specs.Connected.{AreFlushed}
use Rattle.ob_c.specs.Calls.{AreAt, gathered_as, piece_of}
use Rattle.ob_c.specs.declared.pieces.Piece.{Piece}

-- the blocks that hold a byte, up to the first message that is no block
abbrev pub run : List Message → List (List ℕ)
run messages = with_bytes (blocks_in_front messages)

-- what is left to send of rows that were flushed and not voided
abbrev to_send : List Row → List Message
to_send rows = map unread_part (filter (λ row. is_flushed row.place) rows)

-- a message in front, by whether it is a block
first_of : (message : Message) (messages : List Message) →
    blocks_in_front (message ∷ messages) ≡ cond (is_block message) (block_bytes message ∷ blocks_in_front messages) []
first_of message messages = rw (take_while-cons is_block message messages) (grind arith)

-- one more message in front of two lists with the same run
one_more : (message : Message) (first second : List Message) → run first ≡ run second →
    run (message ∷ first) ≡ run (message ∷ second)
one_more (Block bytes) first second same = rw (first_of (Block bytes) first, first_of (Block bytes) second) (grind (arith, same))
one_more (Region units) first second same = rw (first_of (Region units) first, first_of (Region units) second) refl
one_more (Other value) first second same = rw (first_of (Other value) first, first_of (Other value) second) refl

-- and an empty block in front of one of them
empty_more : (first second : List Message) → run first ≡ run second → run (Block [] ∷ first) ≡ run second
empty_more first second same = rw (first_of (Block []) first) same

-- voided rows make no difference
run_by_place : (place : Place) (row : Row) (rows : List Row) → row.place ≡ place →
    run (map unread_part (line rows)) ≡ run (to_send rows) →
    run (map unread_part (line (row ∷ rows))) ≡ run (to_send (row ∷ rows))
run_by_place Place.Unflushed row rows is same = rw is same
run_by_place Place.Flushed row rows is same = rw is (one_more (without_skipped row.skipped row.message) _ _ same)
run_by_place Place.Voided row rows is same = rw is (empty_more (map unread_part (line rows)) (to_send rows) same)
run_by_place Place.Gone row rows is same = rw is same

pub run_of_line : (rows : List Row) → run (map unread_part (line rows)) ≡ run (to_send rows)
run_of_line [] = refl
run_of_line (row ∷ rows) = run_by_place row.place row rows refl (run_of_line rows)

-- what is gathered of them is what is gathered after the history
pub gathered_of : (settings : Settings) (commands : List Command) (limit most : ℕ) (messages : List Message) →
    messages ≡ flushed_after settings commands →
    gathered_after settings commands limit most ≡ more_blocks limit 0 most (blocks_in_front messages)
gathered_of settings commands limit most messages are =
    ap (first_blocks limit most) (run_of_line (rows_after settings.estimate commands) ∙ ap run (sym are))
    ∙ sym (first_blocks_are limit most (blocks_in_front messages))

-- one more piece is that of a reference to the next block
pub laid_more : (count : ℕ) (pieces : List Piece) (piece : Piece) (items : List (List ℕ)) (bytes : Bor (List ℕ)) →
    count < length pieces → piece ≡ piece_of bytes → AreAt items (take count pieces) →
    AreAt (items ++ bytes.now ∷ []) (take (count + 1) (slice_set pieces count piece))
laid_more count pieces piece items bytes room is (references, shown, lie) = (
  references ++ bytes ∷ [],
  map-append (λ one. one.now) references (bytes ∷ []) ∙ ap (λ list. list ++ bytes.now ∷ []) shown,
  take_more_set pieces count piece room ∙ ap (λ list. list ++ piece ∷ []) lie
      ∙ ap (λ one. map piece_of references ++ one ∷ []) is ∙ sym (map-append piece_of references (bytes ∷ [])),
)

-- `count` pieces are laid, and what is gathered are their blocks and, of these messages, as many as there is room for
abbrev pub Laid : Connected → ℕ → ℕ → ℕ → List Piece → ℕ → List Message → Type 0
Laid connection limit most count pieces room messages =
    (items : List (List ℕ)) × (count ≡ length items) × AreAt items (take count pieces)
    × Gives connection (λ settings commands. gathered_after settings commands limit most)
    (items ++ more_blocks limit (length items) room (blocks_in_front messages))

module _ (connection : Connected) (limit most : ℕ) where
  -- none is laid yet
  pub begun : (pieces : List Piece) (messages : List Message) → AreFlushed connection messages →
      Laid connection limit most 0 pieces most messages
  begun pieces messages are = (
    [],
    refl,
    ([], refl, refl),
    λ commands stands. sym (gathered_of connection.unsent.settings commands limit most messages (are commands stands)),
  )

  module _ (count room : ℕ) (pieces : List Piece) (bytes : List ℕ) (rest : List Message) where
    -- an empty block is passed over
    pub passed_over : length bytes ≤ 0 → Laid connection limit most count pieces room (Block bytes ∷ rest) →
        Laid connection limit most count pieces room rest
    passed_over none (items, many, at, given) = (
      items,
      many,
      at,
      λ commands stands.
          ap (λ more. items ++ more) (sym (passed limit room items bytes (blocks_in_front rest) many refl none))
          ∙ (rw (first_of (Block bytes) rest) at (given commands stands)),
    )

    -- another goes along
    pub laid_along : (piece : Piece) (reference : Bor (List ℕ)) → 0 < length bytes → count < length pieces →
        goes_along limit count room (length bytes) ≡ true → piece ≡ piece_of reference →
        reference.now ≡ bytes → Laid connection limit most count pieces room (Block bytes ∷ rest) →
        Laid connection limit most (count + 1) (slice_set pieces count piece) (room - length bytes) rest
    laid_along piece reference some within goes is same (items, many, at, given) = (
      items ++ bytes ∷ [],
      simp (length-append, many),
      rw same at (laid_more count pieces piece items reference within is at),
      λ commands stands.
          sym (pushed limit room items bytes (blocks_in_front rest) many refl some goes refl refl)
          ∙ (rw (first_of (Block bytes) rest) at (given commands stands)),
    )

  -- if nothing more is gathered all is laid
  all_laid : (count room : ℕ) (pieces : List Piece) (messages : List Message) →
      ((items : List (List ℕ)) → count ≡ length items → more_blocks limit (length items) room (blocks_in_front messages) ≡ []) →
      Laid connection limit most count pieces room messages → gathered_as connection limit most count pieces
  all_laid count room pieces messages nothing (items, many, at, given) = (
    items,
    λ commands stands.
        sym (append-nil items) ∙ ap (λ more. items ++ more) (sym (nothing items many)) ∙ given commands stands,
    many,
    at,
  )

  module _ (count room : ℕ) (pieces : List Piece) where
    -- so at a block that has no room,
    pub laid_at_full : (bytes : List ℕ) (rest : List Message) → 0 < length bytes →
        goes_along limit count room (length bytes) ≡ false →
        Laid connection limit most count pieces room (Block bytes ∷ rest) →
        gathered_as connection limit most count pieces
    laid_at_full bytes rest some full =
        all_laid count room pieces (Block bytes ∷ rest) (λ items many.
        rw (first_of (Block bytes) rest) (ended limit room items bytes (blocks_in_front rest) many refl some full))

    -- at a message that is no block,
    pub laid_at_other : (message : Message) (rest : List Message) →
        ((bytes : List ℕ) → message ≡ Block bytes → ⊥) →
        Laid connection limit most count pieces room (message ∷ rest) → gathered_as connection limit most count pieces
    laid_at_other message rest other =
        let none : is_block message ≡ false = grind (arith, other) in
        all_laid count room pieces (message ∷ rest) (λ items many.
        rw (first_of message rest, none) (none_left limit (length items) room))

    -- and at the end
    pub laid_at_end : Laid connection limit most count pieces room [] → gathered_as connection limit most count pieces
    laid_at_end = all_laid count room pieces [] (λ items many. none_left limit (length items) room)

    -- or behind one that took all the room
    pub laid_behind_last : (messages : List Message) → room ≡ 0 → 0 < count →
        Laid connection limit most count pieces room messages → gathered_as connection limit most count pieces
    laid_behind_last messages none some =
        all_laid count room pieces messages (λ items many.
        rw none (none_behind limit (length items) (blocks_in_front messages) (omega (arith, many, some))))
