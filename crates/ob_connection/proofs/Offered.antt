-- What a socket is offered, what it took, and what is gathered from a connection.
use Rattle.std.proofs.lemmas.List.Concat.{flat_map-cons}
use Rattle.std.proofs.lemmas.Bool.{cases_lt}
use Rattle.std.proofs.lemmas.List.{length-map, length-take, take_all}
use Rattle.std.specs.Io.Slices.{io_slice_bytes, io_slices_bytes}
use Rattle.std.specs.List.{concat}
use Rattle.std.specs.declared.io.slices.IoSlice.{IoSlice}
use Rattle.std.specs.Prelude.{min}
use Rattle.ob_types.specs.declared.message.Message.{Message}
use Rattle.ob_seq.specs.Effect.{blocks_in_front}
use Rattle.ob_seq.specs.Looks.{with_bytes, blocks_left, first_blocks, gathered_after}
use Rattle.ob_seq.specs.Unsent.{pending_entries}
use Rattle.ob_seq.proofs.Inside.Looked.{gathered_is}
use Rattle.ob_connection.proofs.Words.{◌≡◌, ◌≤◌, ℕ, List, [], ◌∷◌, ◌++◌, length, map, take, refl, ap, ◌∙◌, Option, Some}
use Rattle.ob_connection.proofs.Words.{None, append_assoc, arith, nat_tests, Unsent, whole, Connected, Command}
use Rattle.ob_connection.proofs.Words.{StandsFor}
use Rattle.ob_connection.specs.Calls.{Call, with_more}
use Rattle.ob_connection.specs.Inside.{Offers, offered}
use Rattle.ob_connection.specs.declared.connection.offer.Offer.{Offer}

-- the bytes of pieces, one after another
pub joined : (pieces : List IoSlice) → io_slices_bytes pieces ≡ concat (map io_slice_bytes pieces)
joined [] = refl
joined (piece ∷ pieces) =
    flat_map-cons io_slice_bytes piece pieces ∙ ap (λ bytes. io_slice_bytes piece ++ bytes) (joined pieces)

-- what came one after another came together
pub taken_twice : {A : Type 0} (told : Option (List A)) (first rest : List A) →
    with_more (with_more told first) rest ≡ with_more told (first ++ rest)
taken_twice None first rest = refl
taken_twice (Some before) first rest = ap Some (append_assoc before first rest)

-- no more blocks hold a byte than there are, nor are there more blocks than messages
few_with_bytes : (blocks : List (List ℕ)) → length (with_bytes blocks) ≤ length blocks
few_with_bytes [] = omega arith
few_with_bytes (block ∷ blocks) = let rest = few_with_bytes blocks in grind (arith, nat_tests)

few_blocks : (messages : List Message) → length (blocks_in_front messages) ≤ length messages
few_blocks messages = grind (arith, length-map, length-take)

-- of few blocks as many are taken whatever the limit is past them
same_taken : (few many most : ℕ) (blocks : List (List ℕ)) → length blocks ≤ few → length blocks ≤ many →
    take (min few most) blocks ≡ take (min many most) blocks
same_taken few many most blocks fits fits_too = grind (arith, cases_lt, take_all)

-- what is offered if few messages are flushed
few_flushed : (few many max_count max_bytes : ℕ) (unsent : Unsent) → few ≤ many → length unsent.line ≤ few →
    offered (min few max_count) max_bytes unsent ≡ offered (min many max_count) max_bytes unsent
few_flushed few many max_count max_bytes unsent less fits =
    grind (arith, few_with_bytes, few_blocks, length-map, cases_lt, same_taken)

-- and if few pieces are wanted
few_wanted : (few many max_count : ℕ) → few ≤ many → max_count ≤ few → min few max_count ≡ min many max_count
few_wanted few many max_count less fits = grind (arith, cases_lt)

-- so if either is few
pub few_offered : (few many max_count max_bytes : ℕ) (unsent : Unsent) → few ≤ many →
    min (length unsent.line) max_count ≤ few →
    offered (min few max_count) max_bytes unsent ≡ offered (min many max_count) max_bytes unsent
few_offered few many max_count max_bytes unsent less fits = grind (arith, cases_lt, few_flushed, few_wanted)

-- so what a socket made of it is the same
pub few_offers : (few many max_count max_bytes : ℕ) (unsent : Unsent) {sent_before : Option (List ℕ)}
    {calls_before : Option (List Call)} {offer : Offer} {sent_after : Option (List ℕ)} {calls_after : Option (List Call)} →
    few ≤ many → min (length unsent.line) max_count ≤ few →
    Offers (min few max_count) max_bytes unsent sent_before calls_before offer sent_after calls_after →
    Offers (min many max_count) max_bytes unsent sent_before calls_before offer sent_after calls_after
few_offers few many max_count max_bytes unsent {offer = offer} less fits offers =
    let same = few_offered few many max_count max_bytes unsent less fits in record {
      within = rw (← same) offers.within;
      sent = rw (← same) offers.sent;
      calls = rw (← same) offers.calls;
      nothing = λ none. rw (← same) (offers.nothing none);
      something = λ some. rw (← same) (offers.something some);
    }

-- what is gathered from all in line is what is gathered after the history
pub gathered_there : {inside now : Connected} → inside ≡ now → (limit most : ℕ) (commands : List Command) → StandsFor now commands →
    first_blocks limit most (with_bytes (blocks_left (pending_entries inside.unsent.line)))
    ≡ gathered_after now.unsent.settings commands limit most
gathered_there {now = now} view limit most commands stands =
    ap (λ (one : Connected). first_blocks limit most (with_bytes (blocks_left (pending_entries one.unsent.line)))) view
    ∙ gathered_is (whole stands.past now.unsent) limit most commands stands.as_buffer.leaves
