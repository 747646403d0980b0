-- What is gathered of a shared connection.
use Rattle.std.proofs.Common.{◌≡◌, ◌≤◌, ◌<◌, ℕ, List, length, ap, sym, subst, refl, arith, Ok, Err, Some, Result, IfOk}
use Rattle.std.specs.Prelude.{Option, min, max, take}
use Rattle.std.proofs.lemmas.List.{length-take}
use Rattle.ob_types.specs.Replies.{number_of}
use Rattle.ob_types.specs.declared.refusal.Refusal.{Refusal}
use Rattle.ob_seq.specs.Effect.{byte_run, rows_after, bytes_in, pieces_within}
use Rattle.ob_seq.specs.Looks.{first_blocks, with_bytes}
use Rattle.ob_connection.specs.Calls.{most_pieces}
use Rattle.ob_shared_connection.specs.Calls.{UnderLock, Gathers, IsLook}
use Rattle.ob_shared_connection.specs.Values.{commands_of, HandleValue}
use Rattle.ob_shared_connection.specs.Sending.{AreInFront}
use Rattle.ob_c.specs.Calls.{AreAt}
use Rattle.ob_c.specs.Replies.{done}
use Rattle.ob_c.specs.Sharing.{TriesToGather}
use Rattle.ob_c.specs.declared.pieces.Piece.{Piece}

-- of a list no more blocks are the first ones than are asked for
few_first : (most max_bytes : ℕ) (blocks : List (List ℕ)) → length (first_blocks most max_bytes blocks) ≤ most
few_first most max_bytes blocks =
    let count = length-take (min most (max 1 (pieces_within max_bytes blocks))) blocks in
    omega (arith, count)

module _ {A : Type 0} (blocks_of : A → List (List ℕ)) (most max_bytes : ℕ) (old : HandleValue) (answer : Result A Refusal)
    (new : HandleValue) (under : UnderLock old (IsLook (Gathers blocks_of most max_bytes) answer) new) where
  module _ (blocks : A) (is : answer ≡ Ok blocks) where
    accepted : (let result : Result A Refusal = Ok blocks in UnderLock old (IsLook (Gathers blocks_of most max_bytes) result) new)
    accepted = subst (λ (one : Result A Refusal). UnderLock old (IsLook (Gathers blocks_of most max_bytes) one) new) is under

    -- no more blocks are gathered than are asked for
    pub few_gathered : length (blocks_of blocks) ≤ most
    few_gathered =
        let before = accepted.before in
        let commands = commands_of before.handle.seen in
        let settings = before.connected.unsent.settings in
        let same = ap (λ (list : List (List ℕ)). length list) (accepted.does.shows.gathered commands accepted.locks.left.stands) in
        let few = few_first most max_bytes (with_bytes (byte_run (rows_after settings.estimate commands))) in
        omega (arith, same, few)

    -- the blocks as a list
    as_list : (let result : Result (List (List ℕ)) Refusal = Ok (blocks_of blocks) in
        UnderLock old (IsLook (Gathers (λ list. list) most max_bytes) result) new)
    as_list = record {
      before = accepted.before;
      after = accepted.after;
      locks = accepted.locks;
      does = record {
        shows = record {
          gathered = accepted.does.shows.gathered;
          no_memory = tt;
          frugal = λ commands stands none. refl;
        };
        same = accepted.does.same;
      };
      unlocks = accepted.unlocks;
    }

    -- they are told
    pub told_blocks : (value : Option HandleValue) (given : ℕ) (count : ℕ) (pieces : List Piece) → value ≡ Some old
        → most ≡ min given most_pieces
        → IfOk answer (λ list. 0 < bytes_in (blocks_of list) → AreInFront new (bytes_in (blocks_of list)))
        → count ≡ length (blocks_of blocks) → AreAt (blocks_of blocks) (take count pieces)
        → TriesToGather value (min given most_pieces) max_bytes (record { status = done; count = count }) pieces (Some new)
    told_blocks value given count pieces held asked in_front many laid =
        subst (λ (handle : Option HandleValue).
        TriesToGather handle (min given most_pieces) max_bytes (record { status = done; count = count }) pieces (Some new))
        (sym held)
        (subst (λ (limit : ℕ).
        TriesToGather (Some old) limit max_bytes (record { status = done; count = count }) pieces (Some new)) asked (
          Some (Ok (blocks_of blocks)),
          (
            new,
            refl,
            (
              ap (λ (n : ℕ). record { status = done; count = n }) many,
              laid,
              subst (λ (one : Result A Refusal).
                  IfOk one (λ list. 0 < bytes_in (blocks_of list) → AreInFront new (bytes_in (blocks_of list)))) is in_front,
            ),
            as_list,
          ),
        ))

  -- it is told that there was no memory for them
  pub told_refusal : (refusal : Refusal) → answer ≡ Err refusal → (value : Option HandleValue) (given status : ℕ)
      (pieces : List Piece) → value ≡ Some old → most ≡ min given most_pieces → status ≡ number_of refusal
      → TriesToGather value (min given most_pieces) max_bytes (record { status = status; count = 0 }) pieces (Some new)
  told_refusal refusal is value given status pieces held asked number =
      let refused = subst (λ (one : Result A Refusal). UnderLock old (IsLook (Gathers blocks_of most max_bytes) one) new) is under in
      subst (λ (handle : Option HandleValue).
      TriesToGather handle (min given most_pieces) max_bytes (record { status = status; count = 0 }) pieces (Some new))
      (sym held)
      (subst (λ (limit : ℕ).
      TriesToGather (Some old) limit max_bytes (record { status = status; count = 0 }) pieces (Some new)) asked (
        Some (Err refusal),
        (
          new,
          refl,
          ap (λ (n : ℕ). record { status = n; count = 0 }) number,
          record {
            before = refused.before;
            after = refused.after;
            locks = refused.locks;
            does = record {
              shows = record {
                gathered = tt;
                no_memory = refused.does.shows.no_memory;
                frugal = refused.does.shows.frugal;
              };
              same = refused.does.same;
            };
            unlocks = refused.unlocks;
          },
        ),
      ))
