use Rattle.std.proofs.Common.{◌∙◌, ℕ, Bool, eqb-true, sym, subst}
use Rattle.std.proofs.lemmas.List.{nil_from_length}
use Rattle.ob_seq.specs.State.{closed_after}
use Rattle.ob_connection.specs.Connected.{AreGathered}
use Rattle.ob_connection.specs.Connected.{Gives}
use Rattle.ob_shared_connection.specs.Steps.{caller_held}
use Rattle.ob_shared_connection.proofs.Sending.{offers_nothing}
use Rattle.ob_shared_connection.proofs.caller.Caller.offer.Goals as goal

pub returns-then-is_empty-clause-offers : goal.returns-then-is_empty-clause-offers
returns-then-is_empty-clause-offers c =
    let before = caller_held c.args.self.now in
    offers_nothing c.args.max_count c.args.max_bytes c.take_away.result before (caller_held c.ask.new.self)
    (caller_held c.ask-2.new.self) (caller_held c.take_away.new.self) c.in-Ok.blocks.items c.requires.holds.left
    (subst (λ (closed : Bool). Gives before.connected closed_after closed) c.if-ask.false c.ask.ensures.look.shows)
    c.ask.ensures.look.same (subst (λ (most : ℕ).
    AreGathered (caller_held c.ask.new.self).connected most c.args.max_bytes c.in-Ok.blocks.items) c.min.ensures
    c.in-Ok.ensures.look.shows.gathered) c.ask-2.ensures.look.same
    (nil_from_length c.in-Ok.blocks.items (sym c.in-Ok.blocks.ok.0 ∙ eqb-true c.in-Ok.blocks.len 0 (sym c.is_empty.ensures ∙ c.if-is_empty.true)))
    c.take_away.ensures.takes
    c.take_away.ensures.bytes c.take_away.ensures.blocked
